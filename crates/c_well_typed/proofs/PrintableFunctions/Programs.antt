-- The functions of a program of files are printable, since those of its units are.
use Rattle.std.proofs.Common.{◌≡◌, ◌∙◌, ℕ, ◌+◌, ◌<◌, refl, sym, ap, subst, List, [], ◌∷◌, ◌++◌, length, map, Some, None}
use Rattle.std.proofs.lemmas.List.{map-append}
use Rattle.std.proofs.lemmas.List.Elements.{recursion_from_All, All-from_recursion}
use Rattle.std.specs.Prelude.{◌||◌, ◌==◌, not, All, Option, slice_get}
use Rattle.std.specs.List.{AllByRecursion, list_any}
use Rattle.std.specs.Option.{option_map}
use Rattle.c_tokens.specs.TokenPlaces.{TokensHavePlaces}
use Rattle.c_types.specs.Limits.{AreComplete}
use Rattle.c_types.specs.Types.{CType}
use Rattle.c_numbers.specs.TypeNumbers.Renumbered.{renumbered}
use Rattle.c_typed.specs.declared.program.Local.{Local}
use Rattle.c_typed.specs.Addressed.{addressed_by_statement}
use Rattle.c_typed.specs.Conversions.{is_scalar}
use Rattle.c_typed.specs.Mapped.{Renaming, of_types, mapped_statement, mapped_statements}
use Rattle.c_typed.specs.Programs.{FunctionData, UnitData, ProgramData}
use Rattle.c_typed.specs.Trees as Typed
use Rattle.c_typed.specs.TypeNumbers.{type_at}
use Rattle.c_typed.specs.Walk.{types_in_statement}
use Rattle.c_numbers.specs.NewNumbers.Parts.{function_in, local_in}
use Rattle.c_link.specs.Joining.{joined, all_tags, structure_in, types, renaming, tables, numbered_from, function_identities, functions, records}
use Rattle.c_link.specs.Joining.{is_function_defined}
use Rattle.c_link.proofs.JoinedRecords.{IsAmong, among_at, stand_among}
use Rattle.c_link.specs.Gaps.{Agree}
use Rattle.c_well_typed.specs.Laws.{UnitsHaveTypedFunctions}
use Rattle.c_well_typed.specs.WellTyped.{of_unit, IsTypedFunction, HasBody, HaveTypedFunctions}
use Rattle.c_well_typed.proofs.Composed as Composed
use Rattle.c_well_typed.proofs.JoinedFunctions.{each_is, is_each, type_is}
use Rattle.c_well_typed.proofs.LookedUp.{of_unit as found_unit, unit_among}
use Rattle.c_well_typed.proofs.Programs.{each_unit}
use Rattle.c_well_typed.proofs.RenumberedTypes.{scalar_same}
use Rattle.c_well_typed.specs.Printable.Programs.{if_any, AreMarked, IsBody, IsPrintableFunction}
use Rattle.c_well_typed.specs.Printable.Statements.{IsPrintableStatement}
use Rattle.c_well_typed.specs.Printable.Laws.{ProgramHasPrintableFunctions}
use Rattle.c_well_typed.proofs.PrintableFunctions.Addressed.{statement_same}
use Rattle.c_well_typed.proofs.PrintableFunctions.Initializers.{LieAlike}
use Rattle.c_well_typed.proofs.PrintableFunctions.Offsets.{lie_alike}
use Rattle.c_well_typed.proofs.PrintableFunctions.Units.{AreMarkedBy, stand_for, IsBlock, HasPrintableFunctions, unit_has_printable_functions}

each_so : {A : Type 0} (P Q : A → Type 0) (xs : List A) → ((x : A) → P x → Q x) → AllByRecursion P xs → AllByRecursion Q xs
each_so P Q [] f h = tt
each_so P Q (x ∷ xs) f h = (f x h.0, each_so P Q xs f h.1)

module _ (units : List UnitData) (agree : Agree units) (complete : AreComplete (records units))
    (typed : (u : UnitData) → IsAmong u units → HaveTypedFunctions (of_unit u))
    (printable : (u : UnitData) → IsAmong u units → HasPrintableFunctions u) where
  abbrev P : ProgramData
  P = joined units

  abbrev T : List CType
  T = types units

  abbrev N : ℕ → UnitData → Renaming ℕ ℕ
  N k u = renaming (tables units) k u

  -- ---- a function of a unit

  module _ (k : ℕ) (u : UnitData) (h : IsAmong (k, u) (numbered_from 0 units)) (g : FunctionData) (j : ℕ) (e : slice_get u.functions j ≡ Some g) where
    there : IsAmong u units
    there = unit_among 0 units (k, u) h

    abbrev S : ℕ → ℕ
    S = structure_in (all_tags units) u

    abbrev R : CType → CType
    R t = renumbered S t

    abbrev G : FunctionData
    G = function_in (N k u) g

    own : IsTypedFunction (of_unit u) g
    own =
        is_each (IsTypedFunction (of_unit u)) u.functions (recursion_from_All (IsTypedFunction (of_unit u)) u.functions (typed u there).functions) g
        (among_at u.functions j g e)

    alike : LieAlike u.records (records units) S
    alike = lie_alike S u.records (records units) (typed u there).records complete (stand_among units agree.tags u there)

    type_again : (i : ℕ) → i < length u.types → type_at T ((N k u).ty i) ≡ R (type_at u.types i)
    type_again i l = (type_is units agree complete typed u there k i l).1

    abbrev Ranged : List Local → Type 0
    Ranged all = AllByRecursion (λ (l : Local). l.ty < length u.types) all

    ranged : Ranged (g.parameters ++ g.locals)
    ranged = recursion_from_All (λ (l : Local). l.ty < length u.types) (g.parameters ++ g.locals) own.4

    locals_again : (all : List Local) → Ranged all → map (λ l. type_at T l.ty) (map (local_in (N k u)) all) ≡ map R (map (λ l. type_at u.types l.ty) all)
    locals_again [] r = refl
    locals_again (l ∷ all) r = rw (type_again l.ty r.0, locals_again all r.1) refl

    marks_again : (taken : List ℕ) (i : ℕ) (all : List Local) → Ranged all → AreMarkedBy (type_at u.types) taken i all
        → AreMarked P taken i (map (local_in (N k u)) all)
    marks_again taken i [] r m = tt
    marks_again taken i (l ∷ all) r m =
        let same : is_scalar (type_at T ((N k u).ty l.ty)) ≡ is_scalar (type_at u.types l.ty) =
        ap is_scalar (type_again l.ty r.0) ∙ scalar_same S (type_at u.types l.ty) in
        (m.0 ∙ ap (λ b. not b || list_any (λ m. m == i) taken) (sym same), marks_again taken (i + 1) all r.1 m.1)

    -- the parameters and locals, with their numbers in the program
    own_locals : map (local_in (N k u)) (g.parameters ++ g.locals) ≡ G.parameters ++ G.locals
    own_locals = map-append (local_in (N k u)) g.parameters g.locals

    -- ---- its body

    has_ranged : (o : Option (Typed.Statement ℕ)) (body : Typed.Statement ℕ) → o ≡ Some body → HasBody (of_unit u) g own.0 own.1 o
        → All (λ i. i < length u.types) (types_in_statement body)
    has_ranged None body b t = cc
    has_ranged (Some it) body b t = let same : it ≡ body = cc in subst (λ s. All (λ i. i < length u.types) (types_in_statement s)) same t.3.0

    body_again : (body : Typed.Statement ℕ) → g.body ≡ Some body
        → mapped_statement (of_types (type_at T)) (mapped_statement (N k u) body) ≡ mapped_statement (stand_for u.types S (N k u).object (N k u).function) body
    body_again body b =
        Composed.of_statement (N k u) (of_types (type_at T)) (stand_for u.types S (N k u).object (N k u).function) (λ i. refl) (λ i. refl) (λ i. refl) body
        (each_so (λ i. i < length u.types) (λ i. type_at T ((N k u).ty i) ≡ R (type_at u.types i)) (types_in_statement body) type_again
        (recursion_from_All (λ i. i < length u.types) (types_in_statement body) (has_ranged g.body body b own.5)))

    is_block : (body : Typed.Statement ℕ) → IsBlock body → IsBlock (mapped_statement (N k u) body)
    is_block body h = (h.0, mapped_statements (N k u) h.1, ap (mapped_statement (N k u)) h.2)

    body_printable : (body : Typed.Statement ℕ) → g.body ≡ Some body → IsBody P G (mapped_statement (N k u) body)
    body_printable body b =
        let of_unit = printable u there S (N k u).object (N k u).function (records units) alike j g e body b in
        let marks = marks_again (addressed_by_statement body) 0 (g.parameters ++ g.locals) ranged of_unit.1 in
        let types = sym (locals_again (g.parameters ++ g.locals) ranged) ∙ ap (map (λ (l : Local). type_at T l.ty)) own_locals in (
          is_block body of_unit.0,
          subst (λ taken. AreMarked P taken 0 (G.parameters ++ G.locals)) (sym (statement_same (N k u) body))
              (subst (AreMarked P (addressed_by_statement body) 0) own_locals marks),
          subst (λ own. IsPrintableStatement (records units) own (mapped_statement (of_types (type_at T)) (mapped_statement (N k u) body))) types
              (subst (IsPrintableStatement (records units) (map R (map (λ l. type_at u.types l.ty) (g.parameters ++ g.locals)))) (sym (body_again body b)) of_unit.2),
        )

    again : IsPrintableFunction P G
    again = All-from_recursion (IsBody P G) (if_any G.body) (of_body g.body refl)
      where
        of_body : (o : Option (Typed.Statement ℕ)) → g.body ≡ o → AllByRecursion (IsBody P G) (if_any (option_map (mapped_statement (N k u)) o))
        of_body None b = tt
        of_body (Some body) b = (body_printable body b, tt)

  pub functions_printable : All (IsPrintableFunction P) (functions units)
  functions_printable = All-from_recursion (IsPrintableFunction P) (functions units) (each_is (IsPrintableFunction P) (functions units) one)
    where
      one : (F : FunctionData) → IsAmong F (functions units) → IsPrintableFunction P F
      one F i =
          let z = found_unit (λ (g : FunctionData). g.is_linked) (λ (g : FunctionData). g.name) (λ (u : UnitData). u.functions) is_function_defined
          (λ k u g. function_in (N k u) g) function_identities (λ k n. refl) (λ k n x more. refl) units F i in
          subst (IsPrintableFunction P) (sym z.6) (again z.0 z.1 z.2 z.4 z.3 z.5)

pub program_has_printable_functions : TokensHavePlaces → UnitsHaveTypedFunctions → (p : ProgramData) → AreComplete p.records → ProgramHasPrintableFunctions p
program_has_printable_functions places law p complete files h =
    let e = h.program.joined_units in
    let whole = subst (λ (p : ProgramData). AreComplete p.records) e complete in
    let typed = each_unit (λ u. HaveTypedFunctions (of_unit u)) (λ number file u own. (law number file.name file.bytes own.items u own.tree own.erases).0)
    0 files h.units h.of_files in
    let printable = each_unit HasPrintableFunctions
    (λ number file u own. unit_has_printable_functions places number file.name file.bytes own.items u own.tree own.erases) 0 files h.units h.of_files in
    subst (λ (p : ProgramData). All (IsPrintableFunction p) p.functions) (sym e) (functions_printable h.units h.program.agree whole typed printable)
