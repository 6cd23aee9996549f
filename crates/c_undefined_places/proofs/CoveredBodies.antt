-- In the body of a function of a file each record is accused that stands in an array of the type of an expression or of a local, or that is the type of a
-- local (C99 6.5, 6.7, 6.8).
use Rattle.std.proofs.Common.{◌≡◌, ◌∙◌, ℕ, ◌≤◌, true, false, refl, sym, subst, List, [], ◌∷◌, ◌++◌, length, map}
use Rattle.std.specs.Prelude.{Some, slice_get}
use Rattle.std.specs.List.{AllByRecursion}
use Rattle.c_types.specs.Types.{CType, CTypes, and_type, integer, pointer}
use Rattle.c_types.specs.Views.{listed}
use Rattle.c_ast.specs.Places.{first_declarator}
use Rattle.c_ast.specs.Trees
use Rattle.c_ast.specs.TreesOfFiles.{IsTreeOf}
use Rattle.c_ast.specs.declared.words.Spelling.{Spelling}
use Rattle.c_typed.specs.Conversions.{is_scalar}
use Rattle.c_typed.specs.Parts.{IsPart, itself, of_element, of_field}
use Rattle.c_typed.specs.Trees as Typed
use Rattle.c_typed.specs.Typed.{field_type}
use Rattle.c_typed.specs.TypedStatements.{declared_by, all_declared, all_declared_by, all_declared_by_arms}
use Rattle.c_typed.specs.Walk.{types_in_statement}
use Rattle.c_erasure.specs.Erasure.{IsBase, IsOne, IsTypeName, place_of_name}
use Rattle.c_erasure.specs.Files.{AreAscending, IsFileOf}
use Rattle.c_erasure.specs.Marks.{marks_of_file, scope_beginnings}
use Rattle.c_erasure.specs.Noted.{Noted}
use Rattle.c_erasure.specs.Scopes.{Entity, ALocal, AFunction, FileScope, IsMentioned, Scope, is_measured, visible, ended}
use Rattle.c_erasure.specs.Statements.{IsVariable}
use Rattle.c_typed.specs.declared.program.MentionKind.TheVariants.{Object, Named}
use Rattle.c_erasure.specs.Units.{recognised_statement, types, function_types}
use Rattle.c_well_typed.proofs.CompleteLocals.{IsAt, from_number}
use Rattle.c_well_typed.proofs.Definitions.{in_function, IsDefinedFunction}
use Rattle.c_well_typed.proofs.KnownTypes.{base_known, type_known, variable_known, body_scope}
use Rattle.c_well_typed.proofs.Leaves.{InStatement, InStatements, InArms}
use Rattle.c_well_typed.proofs.MadeLeaves.{Knows, items_leaves}
use Rattle.c_well_typed.proofs.MadeNodes.{AreWhole}
use Rattle.c_well_typed.proofs.MadeStatements.{HasParts, statement_whole}
use Rattle.c_well_typed.proofs.NamedTypes.{IsMadeEntity, IsMadeScope}
use Rattle.c_well_typed.proofs.NamesInScope.{joined, IsScopeOf, scope_again, named_in, inside_of, with_local_in}
use Rattle.c_well_typed.proofs.Numbers.{IsNumbered, two_parts}
use Rattle.c_well_typed.proofs.RecognisedTypes.{statement_types}
use Rattle.c_well_typed.proofs.UnitFunctions.{at_place, count_up_is, functions_numbered, source_typed}
use Rattle.c_well_typed.proofs.UnitObjects.{before_at}
use Rattle.c_well_typed.proofs.WellMade.{AreMade, IsWellMade}
use Rattle.legality.specs.InTypes.{arrays_in, itself as in_itself}
use Rattle.c_undefined_places.proofs.CoveredFiles as Files
use Rattle.c_undefined_places.proofs.CoveredFiles.{AccusedIn, AreAccusedIn, mentioned, named_accused, object_accused}
use Rattle.c_undefined_places.proofs.CoveredTypes as CoveredTypes
use Rattle.c_undefined_places.proofs.CoveredUnits.{values_in}

some_is : {A : Type 0} (x y : A) → Some x ≡ Some y → x ≡ y
some_is x y h = cc

-- ---- the locals that a body declares

module _ (IsName IsCast : CType → Type 0) (IsLocal : ℕ → Type 0) where
  abbrev Are : List ℕ → Type 0
  Are numbers = AllByRecursion IsLocal numbers

  both : (a b : List ℕ) → Are a → Are b → Are (a ++ b)
  both [] b h k = k
  both (n ∷ a) b h k = (h.0, both a b h.1 k)

  mutual
    locals_in : (s : Typed.Statement Noted) → InStatement IsName IsCast IsLocal s → Are (all_declared s)
    locals_in (Typed.evaluate e) h = tt
    locals_in (Typed.block locals all) h = locals_among all h
    locals_in (Typed.declare n initial) h = (h.0, tt)
    locals_in (Typed.when e one) h = locals_in one h.1
    locals_in (Typed.when_else e one other) h = both (all_declared one) (all_declared other) (locals_in one h.1) (locals_in other h.2)
    locals_in (Typed.while e body) h = locals_in body h.1
    locals_in (Typed.do_while body e) h = locals_in body h.0
    locals_in (Typed.for locals start test step body) h =
        both (all_declared_by start) (all_declared body) (locals_among start h.0) (locals_in body h.3)
    locals_in (Typed.switch e locals arms) h = locals_of_arms arms h.1
    locals_in Typed.break h = tt
    locals_in Typed.continue h = tt
    locals_in (Typed.return e) h = tt

    pub locals_among : (all : Typed.Statements Noted) → InStatements IsName IsCast IsLocal all → Are (all_declared_by all)
    locals_among Typed.no_statements h = tt
    locals_among (Typed.and_statement s more) h = both (all_declared s) (all_declared_by more) (locals_in s h.0) (locals_among more h.1)

    locals_of_arms : (arms : Typed.Arms Noted) → InArms IsName IsCast IsLocal arms → Are (all_declared_by_arms arms)
    locals_of_arms Typed.no_arms h = tt
    locals_of_arms (Typed.and_arm cases is_default all more) h =
        both (all_declared_by all) (all_declared_by_arms more) (locals_among all h.0) (locals_of_arms more h.1)

-- ---- a file

module _ (bytes : List ℕ) (items : List Trees.Item) (f : FileScope) (tree : IsTreeOf bytes items) (h : IsFileOf items f)
    (beginnings : AreAscending (scope_beginnings (marks_of_file f.untagged items))) where
  abbrev count : ℕ
  count = length f.records

  abbrev A : ℕ → Type 0
  A = AccusedIn f

  abbrev E : CType → Type 0
  E = CoveredTypes.IsElement count A

  abbrev W : CType → Type 0
  W = CoveredTypes.IsTold count A

  -- what types of expressions have
  abbrev H : CType → Type 0
  H t = AreAccusedIn f (arrays_in t)

  less : (at : ℕ) → ended f.ends at ≤ count
  less = Files.less bytes items f tree h beginnings

  V : (x : List ℕ) (at : ℕ) (e : Entity) → visible f.names x at ≡ Some e → IsMadeEntity f count less e
  V = Files.visible_made bytes items f tree h beginnings

  told : (t : CType) → IsWellMade count t → H t → W t
  told = CoveredTypes.told count A

  arrays : (t : CType) → W t → H t
  arrays = CoveredTypes.arrays count A

  fields : (r k : ℕ) (t : CType) → field_type f.records r k ≡ Some t → W t
  fields = Files.field_told bytes items f tree h beginnings

  -- ---- scopes of bodies

  -- what is known of a local
  abbrev pub IsToldLocal : ALocal → Type 0
  IsToldLocal l = W l.ty × AreAccusedIn f (values_in l.ty)

  module _ (locals : List ALocal) where
    abbrev In : Scope → Type 0
    In s = IsScopeOf f W s × (is_measured s.purpose ≡ false) × (s.locals ≡ locals)

    scope_made : (s : Scope) → In s → IsMadeScope f count less s
    scope_made s i = scope_again f W (IsWellMade count) (CoveredTypes.made count A) s i.0

    cast_told : (n : Trees.TypeName) (s : Scope) (t : CType) → In s → IsTypeName s n t → IsMentioned s Named t (place_of_name n) → W t
    cast_told n s t i q m =
        let scope = i.0 in
        told t (type_known f count less V n s t (scope_made s i) q)
        (named_accused f t (place_of_name n) (mentioned f s Named t (place_of_name n) scope.0 i.1 m))

    variable_accused : (s : Scope) (base : CType) (d : Trees.InitDeclarator) (x : Spelling) (t : CType) → In s → IsVariable s base d x t
        → AreAccusedIn f (values_in t)
    variable_accused s base d x t i v =
        let scope = i.0 in
        let place = first_declarator d.declarator x.from in
        object_accused f t place (mentioned f s Object t place scope.0 i.1 v.6)

    variable_told : (specs : Trees.Specifiers) (s : Scope) (base : CType) → In s → IsBase (IsOne s specs) specs base
        → (d : Trees.InitDeclarator) (later : Scope) (x : Spelling) (t : CType) → In later → IsVariable later base d x t → W t
    variable_told specs s base i q d later x t j v =
        let made = base_known f count less V specs s base (scope_made s i) q in
        told t (variable_known f count less V d later base x t (scope_made later j) made v)
        (two_parts A (in_itself t) (arrays_in t) (variable_accused later base d x t j v)).1

    known : Knows W W (IsAt IsToldLocal locals) In
    known = record {
      text = λ n l. ((l, (refl, tt), tt), (l, (refl, tt), tt));
      entity = λ s x at e i q. named_in f W s x at e i.0 (Files.visible_told bytes items f tree h beginnings x at e) q;
      pointer = λ t m. m;
      cast = cast_told;
      inside = λ s i. (inside_of f W s i.0, i.1, i.2);
      variable = variable_told;
      object = λ s x n t i m. (with_local_in f W s _ i.0 m, i.1, i.2);
      local = λ s x n t i m. (with_local_in f W s _ i.0 m, i.1, i.2);
      declared = λ s base d x t n i m v e. (
        record { name = x.text; ty = t },
        subst (λ all. slice_get all n ≡ Some (record { name = x.text; ty = t })) i.2 e,
        (m, variable_accused s base d x t i v),
      );
    }

  -- ---- functions

  scalar_values : (t : CType) → is_scalar t ≡ true → W t → AreAccusedIn f (values_in t)
  scalar_values (integer kind) s w = tt
  scalar_values (pointer t) s w = arrays t w
  scalar_values t s w = cc

  each_parameter : (all : List ALocal) (types : CTypes) → listed (map (λ l. l.ty) all) ≡ types → AreMade E types → AllByRecursion IsToldLocal all
  each_parameter [] types q w = tt
  each_parameter (l ∷ all) types q w =
      let own : AreMade E (and_type l.ty (listed (map (λ (l : ALocal). l.ty) all))) = subst (AreMade E) (sym q) w in
      ((own.1, scalar_values l.ty own.0 own.1), each_parameter all (listed (map (λ (l : ALocal). l.ty) all)) refl own.2)

  part_told : (t u : CType) (at : ℕ) → IsPart f.records t at u → W t → W u
  part_told t u at (itself s) w = w
  part_told t u at (of_element s v n k by l p) w = part_told s v by p w.2
  part_told t u at (of_field s v r field by e p) w = part_told s v by p (fields r field s e)

  module _ (n : ℕ) (g : AFunction) (e : slice_get f.functions n ≡ Some g) (d : IsDefinedFunction f count g) where
    abbrev own : List ALocal
    own = g.parameters ++ g.locals

    abbrev L : ℕ → Type 0
    L = IsAt IsToldLocal own

    abbrev S : Typed.Statement Noted
    S = Typed.block (declared_by d.all) d.all

    types_told : W d.result × AreMade E d.types
    types_told = let t = subst W d.ty_is (Files.function_told bytes items f tree h beginnings n g e) in (t.1, t.2)

    leaves : InStatements W W L d.all
    leaves =
        let scope = body_scope f E d.list d.types g.parameters d.bounds own d.of_list types_told.1 in
        items_leaves W W L (In own) (known own) d.items _ d.all (scope, refl, refl) d.erased

    pub locals_told : AllByRecursion IsToldLocal own
    locals_told =
        let all = subst (AllByRecursion L) (d.declared_all ∙ count_up_is (length g.parameters) (length g.locals)) (locals_among W W L d.all leaves) in
        joined IsToldLocal g.parameters g.locals (each_parameter g.parameters d.types d.parameters types_told.1)
        (from_number IsToldLocal g.parameters g.locals all)

    declared_functions : (k : ℕ) (t : CType) → slice_get (in_function f g).functions k ≡ Some t → W t
    declared_functions k t q =
        let z = before_at (λ (g : AFunction). g.ty) f.functions k t q in
        subst W z.2 (Files.function_told bytes items f tree h beginnings k z.0 z.1)

    local_parts : (k : ℕ) (t : CType) → slice_get (in_function f g).locals k ≡ Some t → HasParts (in_function f g) E declared_functions fields H arrays t
    local_parts k t q at u p s =
        let l = before_at (λ (l : ALocal). l.ty) own k t q in
        let k = at_place IsToldLocal own locals_told k l.0 l.1 in
        arrays u (part_told t u at p (subst W l.2 k.0))

    numbered : AllByRecursion (IsNumbered (types f)) (function_types g)
    numbered = at_place (λ (g : AFunction). AllByRecursion (IsNumbered (types f)) (function_types g)) f.functions (functions_numbered items f h beginnings) n g e

    pub nodes_told : AreWhole H (types_in_statement (recognised_statement S))
    nodes_told =
        statement_types H tt S
        (statement_whole (in_function f g) E declared_functions fields H arrays L d.result (arrays d.result types_told.0) local_parts S false false
        (source_typed items f h beginnings g numbered d) leaves)
