-- The functions of the unit of a file are printable, with other numbers too.
use Rattle.std.proofs.Common.{◌≡◌, ◌∙◌, ℕ, suc, ◌+◌, ◌≤◌, refl, sym, ap, subst, List, [], ◌∷◌, ◌++◌, length, map, flat_map, inl, inr, append-nil}
use Rattle.std.proofs.Common.{arith, Some, None}
use Rattle.std.proofs.lemmas.List.{map-append}
use Rattle.std.specs.Prelude.{◌⊎◌, ◌||◌, ◌==◌, not, Option, slice_get}
use Rattle.std.specs.List.{AllByRecursion, list_any}
use Rattle.std.specs.Option.{option_map}
use Rattle.c_tokens.specs.TokenPlaces.{TokensHavePlaces}
use Rattle.c_types.specs.Types.{CType, Record}
use Rattle.c_numbers.specs.TypeNumbers.Renumbered.{renumbered}
use Rattle.c_ast.specs.Spelling.{Lexeme, spelled_items}
use Rattle.c_ast.specs.Trees
use Rattle.c_ast.specs.TreesOfFiles.{IsTreeOf}
use Rattle.c_ast.specs.WellFormed.{AreItems, types_after}
use Rattle.c_typed.specs.declared.program.Local.{Local}
use Rattle.c_typed.specs.Addressed.{addressed_by_statement}
use Rattle.c_typed.specs.Conversions.{is_scalar}
use Rattle.c_typed.specs.Mapped.{Renaming, of_types, mapped_statement, mapped_statements}
use Rattle.c_typed.specs.Programs.{FunctionData, UnitData}
use Rattle.c_typed.specs.Trees as Typed
use Rattle.c_typed.specs.TypedStatements.{declared_by}
use Rattle.c_typed.specs.TypeNumbers.{type_at}
use Rattle.c_typed.specs.Walk.{types_in_statement}
use Rattle.c_erasure.specs.Erasing.{ErasesTo}
use Rattle.c_erasure.specs.Files.{AreAscending, IsFileOf, in_body}
use Rattle.c_erasure.specs.Marks.{marks_of_file, scope_beginnings}
use Rattle.c_erasure.specs.Noted.{Noted}
use Rattle.c_erasure.specs.Scopes.{ALocal, AFunction, FileScope, ended}
use Rattle.c_erasure.specs.Units as Units
use Rattle.c_erasure.specs.Units.{recognised_statement, recognised_statements, if_any, types, function_types, number_in, locals, taken_in, unit_of}
use Rattle.c_erasure.proofs.MarkPlaces.MarksOfFiles.{item_along}
use Rattle.c_erasure.proofs.MarkPlaces.MarksOfParts.{specifiers_along, declarator_along}
use Rattle.c_erasure.proofs.MarkPlaces.Ordered.{marks_are_in_order}
use Rattle.c_well_typed.proofs.Composed as Composed
use Rattle.c_well_typed.proofs.JoinedFunctions.{unmapped_at}
use Rattle.c_well_typed.proofs.Numbers.{two_parts, IsNumbered}
use Rattle.c_well_typed.proofs.UnitFunctions.{at_place, records_ended, functions_numbered, all_same}
use Rattle.c_well_typed.specs.Printable.Statements.{IsPrintableStatement, ArePrintableStatements}
use Rattle.c_well_typed.proofs.PrintableFunctions.Addressed.{statement_same}
use Rattle.c_well_typed.proofs.ItemFunctions.{HoldsIn, function_holds}
use Rattle.c_well_typed.proofs.PrintableFunctions.Conversions.{renamed}
use Rattle.c_well_typed.proofs.PrintableFunctions.Expressions.{no_tags}
use Rattle.c_well_typed.proofs.PrintableFunctions.Initializers.{LieAlike}
use Rattle.c_well_typed.proofs.PrintableFunctions.Statements.{items_are}
use Rattle.c_well_typed.proofs.PrintableFunctions.Tokens.{HaveValues, behind, tree_has_values}

-- ---- what is said of a unit, whatever numbers records, objects and functions have in the program

-- which locals are blocks, by their types
abbrev pub AreMarkedBy : (ℕ → CType) → (taken : List ℕ) → ℕ → List Local → Type 0
AreMarkedBy ty taken n [] = Unit {0}
AreMarkedBy ty taken n (l ∷ more) = (l.block ≡ not (is_scalar (ty l.ty)) || list_any (λ m. m == n) taken) × AreMarkedBy ty taken (n + 1) more

-- the types for which the numbers of a unit stand in the program
abbrev pub stand_for : List CType → (n object callee : ℕ → ℕ) → Renaming ℕ CType
stand_for types n object callee = record { ty = λ i. renumbered n (type_at types i); object = object; function = callee; structure = n }

abbrev pub IsBlock : Typed.Statement ℕ → Type 0
IsBlock body = (own : List ℕ) × (all : Typed.Statements ℕ) × (body ≡ Typed.block own all)

abbrev pub IsPrintableBody : List CType → (n object callee : ℕ → ℕ) → List Record → FunctionData → Typed.Statement ℕ → Type 0
IsPrintableBody types n object callee records g body = IsBlock body
    × AreMarkedBy (type_at types) (addressed_by_statement body) 0 (g.parameters ++ g.locals)
    × IsPrintableStatement records (map (renumbered n) (map (λ l. type_at types l.ty) (g.parameters ++ g.locals)))
    (mapped_statement (stand_for types n object callee) body)

abbrev pub HasPrintableFunctions : UnitData → Type 0
HasPrintableFunctions u = (n object callee : ℕ → ℕ) (records : List Record) → LieAlike u.records records n → (j : ℕ) (g : FunctionData)
    → slice_get u.functions j ≡ Some g → (body : Typed.Statement ℕ) → g.body ≡ Some body → IsPrintableBody u.types n object callee records g body

-- ---- lists

before : {A B : Type 0} (P : B → Type 0) (Q : A → Type 0) (v : A → B) (xs : List A) → ((x : A) → P (v x) → Q x) → AllByRecursion P (map v xs)
    → AllByRecursion Q xs
before P Q v [] f h = tt
before P Q v (x ∷ xs) f h = (f x h.0, before P Q v xs f h.1)

marked_both : (ty : ℕ → CType) (taken : List ℕ) (n : ℕ) (a b : List Local) → AreMarkedBy ty taken n a → AreMarkedBy ty taken (n + length a) b
    → AreMarkedBy ty taken n (a ++ b)
marked_both ty taken n [] b h k = subst (λ n. AreMarkedBy ty taken n b) (let z : n + 0 ≡ n = omega arith in z) k
marked_both ty taken n (l ∷ a) b h k =
    (h.0, marked_both ty taken (n + 1) a b h.1 (subst (λ n. AreMarkedBy ty taken n b) (let m = length a in let z : n + suc m ≡ n + 1 + m = omega arith in z) k))

no_body : {A B : Type 0} (v : A → B) (o : Option A) (y : B) → o ≡ None → option_map v o ≡ Some y → ⊥
no_body v o y e h = cc

some_body : {A B : Type 0} (v : A → B) (o : Option A) (x : A) (y : B) → o ≡ Some x → option_map v o ≡ Some y → v x ≡ y
some_body v o x y e h = cc

module _ (items : List Trees.Item) (f : FileScope) (h : IsFileOf items f) (beginnings : AreAscending (scope_beginnings (marks_of_file f.untagged items)))
    (n object callee : ℕ → ℕ) (records : List Record) (alike : LieAlike f.records records n) where
  abbrev T : List CType
  T = types f

  abbrev Is : CType → Type 0
  Is t = IsNumbered T t

  abbrev less : (at : ℕ) → ended f.ends at ≤ length f.records
  less = records_ended items f h beginnings

  abbrev numbers : Renaming Noted ℕ
  numbers = of_types (λ t. number_in T t.ty)

  -- ---- the functions that items define

  abbrev Holds : AFunction → Type 0
  Holds g = (all : Typed.Statements Noted) × (g.body ≡ Some (Typed.block (declared_by all) all))
      × ArePrintableStatements records (map (renumbered n) (map (λ l. l.ty) (g.parameters ++ g.locals)))
      (mapped_statements (renamed n object callee) (recognised_statements all))

  abbrev AllHold : List Trees.Item → Type 0
  AllHold items = AllByRecursion (HoldsIn f (length f.records) less Holds) items

  items_hold : (names : List (List ℕ)) (items : List Trees.Item) (rest : List Lexeme) → AreItems names items → HaveValues (spelled_items items rest)
      → AllHold items
  items_hold names [] rest w k = tt
  items_hold names (Trees.declaration d ∷ items) rest w k =
      (tt, items_hold (types_after names (Trees.declaration d)) items rest w.1 (behind (item_along no_tags names (Trees.declaration d) w.0) k))
  items_hold names (Trees.defines specs d left inner right ∷ items) rest w k = (
    λ result bounds g b. (
      b.0,
      b.1,
      items_are n object callee f less records alike (g.parameters ++ g.locals) names inner (in_body f bounds (g.parameters ++ g.locals)) b.0 _
          (refl, refl) w.0.3 (behind (declarator_along no_tags names d w.0.1) (behind (specifiers_along no_tags names specs w.0.0) k)).1 b.2,
    ),
    items_hold names items rest w.1 (behind (item_along no_tags names (Trees.defines specs d left inner right) w.0) k),
  )

  -- ---- a function

  module _ (g : AFunction) (k : AllByRecursion Is (function_types g)) where
    abbrev G : FunctionData
    G = Units.function f g

    abbrev of_body : Typed.Statement Noted → List CType
    of_body s = map (λ t. t.ty) (types_in_statement (recognised_statement s))

    parts : AllByRecursion Is (g.ty ∷ map (λ l. l.ty) (g.parameters ++ g.locals)) × AllByRecursion Is (flat_map of_body (if_any g.body))
    parts = two_parts Is (g.ty ∷ map (λ l. l.ty) (g.parameters ++ g.locals)) (flat_map of_body (if_any g.body)) k

    of_locals : AllByRecursion Is (map (λ l. l.ty) g.parameters) × AllByRecursion Is (map (λ l. l.ty) g.locals)
    of_locals =
        two_parts Is (map (λ l. l.ty) g.parameters) (map (λ l. l.ty) g.locals)
        (subst (AllByRecursion Is) (map-append (λ (l : ALocal). l.ty) g.parameters g.locals) parts.0.1)

    -- ---- which locals are blocks

    marked : (taken : List ℕ) (i : ℕ) (all : List ALocal) → AllByRecursion Is (map (λ l. l.ty) all) → AreMarkedBy (type_at T) taken i (locals f taken i all)
    marked taken i [] h = tt
    marked taken i (l ∷ all) h =
        (ap (λ t. not (is_scalar t) || list_any (λ m. m == i) taken) (sym h.0.1), marked taken (i + 1) all h.1)

    length_same : (taken : List ℕ) (i : ℕ) (all : List ALocal) → length (locals f taken i all) ≡ length all
    length_same taken i [] = refl
    length_same taken i (l ∷ all) = ap suc (length_same taken (i + 1) all)

    all_marked : AreMarkedBy (type_at T) (taken_in g) 0 (G.parameters ++ G.locals)
    all_marked =
        let a = marked (taken_in g) 0 g.parameters of_locals.0 in
        let b = marked (taken_in g) (length g.parameters) g.locals of_locals.1 in
        let m = length g.parameters in
        let zero_more : m ≡ 0 + m = omega arith in
        let place : m ≡ 0 + length G.parameters = zero_more ∙ ap (λ i. 0 + i) (sym (length_same (taken_in g) 0 g.parameters)) in
        marked_both (type_at T) (taken_in g) 0 G.parameters G.locals a (subst (λ i. AreMarkedBy (type_at T) (taken_in g) i G.locals) place b)

    module _ (d : Holds g) where
      abbrev S : Typed.Statement Noted
      S = Typed.block (declared_by d.0) d.0

      abbrev R : Typed.Statement Noted
      R = recognised_statement S

      taken_is : taken_in g ≡ addressed_by_statement (mapped_statement numbers R)
      taken_is =
          ap (λ b. flat_map (λ s. addressed_by_statement (recognised_statement s)) (if_any b)) d.1 ∙ append-nil (addressed_by_statement R)
          ∙ sym (statement_same numbers R)

      numbered : AllByRecursion Is (map (λ t. t.ty) (types_in_statement R))
      numbered = (two_parts Is (of_body S) [] (subst (λ b. AllByRecursion Is (flat_map of_body (if_any b))) d.1 parts.1)).0

      same : mapped_statement (stand_for T n object callee) (mapped_statement numbers R) ≡ mapped_statement (renamed n object callee) R
      same =
          Composed.of_statement numbers (stand_for T n object callee) (renamed n object callee) (λ i. refl) (λ i. refl) (λ i. refl) R
          (before Is (λ (t : Noted). renumbered n (type_at T (number_in T t.ty)) ≡ renumbered n t.ty) (λ (t : Noted). t.ty) (types_in_statement R)
          (λ t i. ap (renumbered n) i.1) numbered)

      printable : IsPrintableBody T n object callee records G (mapped_statement numbers R)
      printable = (
        (declared_by d.0, mapped_statements numbers (recognised_statements d.0), refl),
        subst (λ taken. AreMarkedBy (type_at T) taken 0 (G.parameters ++ G.locals)) taken_is all_marked,
        subst (λ own. IsPrintableStatement records (map (renumbered n) own) (mapped_statement (stand_for T n object callee) (mapped_statement numbers R)))
            (sym (all_same items f h beginnings g k))
            (subst (IsPrintableStatement records (map (renumbered n) (map (λ l. l.ty) (g.parameters ++ g.locals)))) (sym same) d.2),
      )

    function_printable : (g.body ≡ None) ⊎ Holds g → (body : Typed.Statement ℕ) → G.body ≡ Some body → IsPrintableBody T n object callee records G body
    function_printable (inl e) body b = absurd (no_body (λ s. mapped_statement numbers (recognised_statement s)) g.body body e b)
    function_printable (inr d) body b =
        subst (IsPrintableBody T n object callee records G)
        (some_body (λ s. mapped_statement numbers (recognised_statement s)) g.body (S d) body d.1 b) (printable d)

  -- ---- all functions

  pub functions_printable : (bytes : List ℕ) → IsTreeOf bytes items → (j : ℕ) (G : FunctionData) → slice_get (map (Units.function f) f.functions) j ≡ Some G
      → (body : Typed.Statement ℕ) → G.body ≡ Some body → IsPrintableBody T n object callee records G body
  functions_printable bytes tree j G e =
      let z = unmapped_at (Units.function f) f.functions j G e in
      let each = items_hold [] items [] tree.3.well_formed (tree_has_values bytes items tree) in
      let known = function_holds f (length f.records) less Holds items each h beginnings j z.0 z.1 in
      let numbered = at_place (λ (g : AFunction). AllByRecursion Is (function_types g)) f.functions (functions_numbered items f h beginnings) j z.0 z.1 in
      subst (λ (G : FunctionData). (body : Typed.Statement ℕ) → G.body ≡ Some body → IsPrintableBody T n object callee records G body) z.2
      (function_printable z.0 numbered known)

pub unit_has_printable_functions : TokensHavePlaces → (file : ℕ) (name bytes : List ℕ) (items : List Trees.Item) (u : UnitData) → IsTreeOf bytes items
    → ErasesTo file name bytes items u → HasPrintableFunctions u
unit_has_printable_functions places file name bytes items u tree e =
    let f = e.annotated in
    let beginnings = (marks_are_in_order places).beginnings bytes items f.untagged tree in
    subst HasPrintableFunctions (sym e.unit)
    (λ n object callee records alike. functions_printable items f e.of_tree beginnings n object callee records alike bytes tree)
