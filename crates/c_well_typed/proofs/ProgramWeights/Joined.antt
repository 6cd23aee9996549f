-- A program weighs no more than its units, and each of its functions as much as that of its unit.
use Rattle.std.proofs.Common.{◌≡◌, ℕ, suc, ◌+◌, ◌≤◌, refl, ap, List, [], ◌∷◌, ◌++◌, fold, ◌*◌, map, flat_map, Option, Some, None, arith}
use Rattle.std.proofs.lemmas.List.Elements.{recursion_from_All, All-from_recursion}
use Rattle.std.specs.Prelude.{slice_get}
use Rattle.std.specs.List.{AllByRecursion}
use Rattle.std.specs.Option.{option_map}
use Rattle.c_types.specs.Types.{Record, Field}
use Rattle.c_ast.specs.Trees as Syntax
use Rattle.c_ast.specs.Sizes.{size_items}
use Rattle.c_typed.specs.declared.program.Local.{Local}
use Rattle.c_typed.specs.Mapped.{Renaming, mapped_statement}
use Rattle.c_typed.specs.Programs.{FunctionData, UnitData}
use Rattle.c_typed.specs.Trees as Typed
use Rattle.c_numbers.specs.NewNumbers.Parts.{function_in, local_in}
use Rattle.c_numbers.specs.TypeNumbers.Renumbered.{record_in, field_in}
use Rattle.c_link.specs.Joining.{joined, tables, Tables, renaming, paired, functions_of, function_identities, all_functions_in, all_records_in, records_in}
use Rattle.c_link.specs.Joining.{numbered_from, each_unit, all_tags, structure_in, is_function_defined, functions, records, complete_in, all_functions}
use Rattle.c_well_typed.specs.ProgramWeights.Bounds.{IsBounded, IsOfUnit, JoiningAddsNothing, JoinedAreBounded}
use Rattle.c_well_typed.specs.ProgramWeights.Counted.{Kind, parameter, field, structure, code, frame}
use Rattle.c_well_typed.specs.ProgramWeights.Weights.{weight_of_parameters, weight_of_locals, weight_of_body, weight_of_function, weight_of_functions}
use Rattle.c_well_typed.specs.ProgramWeights.Weights.{weight_of_fields, weight_of_record, weight_of_records, weight_of_unit, weight_of_units, weight_of_program}
use Rattle.c_well_typed.proofs.ProgramWeights.Maps.{same_statement}
use Rattle.c_well_typed.proofs.ProgramWeights.Numbered.{total}
use Rattle.c_well_typed.proofs.ProgramWeights.Units.{all_at}
use Rattle.c_well_typed.proofs.ProgramWeights.Shares.{Key, total_append, chosen_share, records_share, chosen_all}

-- ---- other numbers weigh the same

module _ (n : Kind → ℕ) where
  same_parameters : (m : Renaming ℕ ℕ) (all : List Local) → weight_of_parameters n (map (local_in m) all) ≡ weight_of_parameters n all
  same_parameters m [] = refl
  same_parameters m (l ∷ all) = ap (λ k. n parameter + k) (same_parameters m all)

  same_locals : (m : Renaming ℕ ℕ) (all : List Local) → weight_of_locals n (map (local_in m) all) ≡ weight_of_locals n all
  same_locals m [] = refl
  same_locals m (l ∷ all) = let e = same_locals m all in omega (arith, e)

  pub same_function : (m : Renaming ℕ ℕ) (g : FunctionData) → weight_of_function n (function_in m g) ≡ weight_of_function n g
  same_function m g = by_body g.body
    where
      by_body : (b : Option (Typed.Statement ℕ)) → weight_of_body n (function_in m g) (option_map (mapped_statement m) b) ≡ weight_of_body n g b
      by_body None = refl
      by_body (Some s) =
          let a = same_parameters m g.parameters in
          let b = same_locals m g.locals in
          let c = same_statement n m s in omega (arith, a, b, c)

  same_fields : (number : ℕ → ℕ) (all : List Field) → weight_of_fields n (map (field_in number) all) ≡ weight_of_fields n all
  same_fields number [] = refl
  same_fields number (x ∷ all) = ap (λ k. n field + k) (same_fields number all)

  same_record : (number : ℕ → ℕ) (r : Record) → weight_of_record n (record_in number r) ≡ weight_of_record n r
  same_record number r = ap (λ k. n structure + k) (same_fields number r.fields)

  -- ---- the units, one after the other

  functions_total : (all : List FunctionData) → weight_of_functions n all ≡ total (weight_of_function n) all
  functions_total [] = refl
  functions_total (g ∷ all) = ap (λ k. weight_of_function n g + k) (functions_total all)

  records_total : (all : List Record) → weight_of_records n all ≡ total (weight_of_record n) all
  records_total [] = refl
  records_total (r ∷ all) = ap (λ k. weight_of_record n r + k) (records_total all)

  paired_less : (ks : List Key) (all : List FunctionData) → total (λ (p : Key × FunctionData). weight_of_function n p.1) (paired ks all)
      ≤ total (weight_of_function n) all
  paired_less [] all = omega arith
  paired_less (k ∷ ks) [] = omega arith
  paired_less (k ∷ ks) (g ∷ all) = let e = paired_less ks all in omega (arith, e)

  renumbered_functions : (m : Renaming ℕ ℕ) (all : List FunctionData) → total (weight_of_function n) (map (function_in m) all) ≡ weight_of_functions n all
  renumbered_functions m [] = refl
  renumbered_functions m (g ∷ all) = let a = same_function m g in let b = renumbered_functions m all in omega (arith, a, b)

  renumbered_records : (number : ℕ → ℕ) (all : List Record) → total (weight_of_record n) (map (record_in number) all) ≡ weight_of_records n all
  renumbered_records number [] = refl
  renumbered_records number (r ∷ all) = let a = same_record number r in let b = renumbered_records number all in omega (arith, a, b)

  abbrev of_functions : List UnitData → ℕ
  of_functions [] = 0
  of_functions (u ∷ more) = weight_of_functions n u.functions + of_functions more

  abbrev of_records : List UnitData → ℕ
  of_records [] = 0
  of_records (u ∷ more) = weight_of_records n u.records + of_records more

  apart : (units : List UnitData) → weight_of_units n units ≡ of_functions units + of_records units
  apart [] = omega arith
  apart (u ∷ more) = let e = apart more in omega (arith, e)

  all_functions_less : (t : Tables) (k : ℕ) (units : List UnitData)
      → total (λ (p : Key × FunctionData). weight_of_function n p.1) (flat_map (λ (u : ℕ × UnitData). functions_of t u.0 u.1) (numbered_from k units))
      ≤ of_functions units
  all_functions_less t k [] = omega arith
  all_functions_less t k (u ∷ more) =
      let a = total_append (λ (p : Key × FunctionData). weight_of_function n p.1) (functions_of t k u)
      (flat_map (λ (u : ℕ × UnitData). functions_of t u.0 u.1) (numbered_from (k + 1) more)) in
      let b = paired_less (function_identities k 0 u.functions) (map (function_in (renaming t k u)) u.functions) in
      let c = renumbered_functions (renaming t k u) u.functions in
      let d = all_functions_less t (k + 1) more in omega (arith, a, b, c, d)

  all_records_less : (tags : List Key) (units : List UnitData) → total (weight_of_record n) (flat_map (records_in tags) units) ≤ of_records units
  all_records_less tags [] = omega arith
  all_records_less tags (u ∷ more) =
      let a = total_append (weight_of_record n) (records_in tags u) (flat_map (records_in tags) more) in
      let b = renumbered_records (structure_in tags u) u.records in
      let c = all_records_less tags more in omega (arith, a, b, c)

  pub program_less : (units : List UnitData) → weight_of_program n (joined units) ≤ weight_of_units n units
  program_less units =
      let a = functions_total (functions units) in
      let b = records_total (records units) in
      let c = chosen_share (weight_of_function n) is_function_defined (all_functions_in units) []
      (each_unit (λ k u. function_identities k 0 u.functions) units) in
      let d = records_share (weight_of_record n) (all_records_in units) [] (flat_map complete_in units) in
      let e = all_functions_less (tables units) 0 units in
      let g = all_records_less (all_tags units) units in
      let h = apart units in omega (arith, a, b, c, d, e, g, h)

-- ---- each function is that of a unit

module _ (units : List UnitData) where
  abbrev P : FunctionData → Type 0
  P g = IsOfUnit units g

  own_function : (m : Renaming ℕ ℕ) (i j : ℕ) (u : UnitData) (g : FunctionData) → slice_get units i ≡ Some u → slice_get u.functions j ≡ Some g
      → P (function_in m g)
  own_function m i j u g e h = record {
    number = i;
    unit = u;
    is_unit = e;
    function = j;
    own = g;
    is_own = h;
    name = refl;
    place = refl;
    nodes = refl;
    weight = λ n. same_function n m g;
  }

  pairs_hold : (m : Renaming ℕ ℕ) (i : ℕ) (u : UnitData) → slice_get units i ≡ Some u → (ks : List Key) (all : List FunctionData)
      → ((j : ℕ) (g : FunctionData) → slice_get all j ≡ Some g → (l : ℕ) × (slice_get u.functions l ≡ Some g))
      → AllByRecursion (λ (p : Key × FunctionData). P p.1) (paired ks (map (function_in m) all))
  pairs_hold m i u e [] all h = tt
  pairs_hold m i u e (k ∷ ks) [] h = tt
  pairs_hold m i u e (k ∷ ks) (g ∷ all) h =
      let x = h 0 g refl in (own_function m i x.0 u g e x.1, pairs_hold m i u e ks all (λ j g e. h (suc j) g e))

  both_hold : (a b : List (Key × FunctionData)) → AllByRecursion (λ (p : Key × FunctionData). P p.1) a → AllByRecursion (λ (p : Key × FunctionData). P p.1) b
      → AllByRecursion (λ (p : Key × FunctionData). P p.1) (a ++ b)
  both_hold [] b h g = g
  both_hold (x ∷ a) b h g = (h.0, both_hold a b h.1 g)

  all_hold : (t : Tables) (k : ℕ) (some : List UnitData) → ((j : ℕ) (u : UnitData) → slice_get some j ≡ Some u → (i : ℕ) × (slice_get units i ≡ Some u))
      → AllByRecursion (λ (p : Key × FunctionData). P p.1) (flat_map (λ (u : ℕ × UnitData). functions_of t u.0 u.1) (numbered_from k some))
  all_hold t k [] h = tt
  all_hold t k (u ∷ more) h =
      let x = h 0 u refl in
      both_hold (functions_of t k u) (flat_map (λ (u : ℕ × UnitData). functions_of t u.0 u.1) (numbered_from (k + 1) more))
      (pairs_hold (renaming t k u) x.0 u x.1 (function_identities k 0 u.functions) u.functions (λ j g e. (j, e)))
      (all_hold t (k + 1) more (λ j u e. h (suc j) u e))

  pub joining_adds_nothing : JoiningAddsNothing units
  joining_adds_nothing = record {
    code = program_less code units;
    functions = All-from_recursion P (functions units)
        (chosen_all P is_function_defined (all_functions_in units) (all_functions units) (all_hold (tables units) 0 units (λ j u e. (j, e))));
  }

-- ---- the bounds of units are those of their program

unit_bounded : (items : List Syntax.Item) (u : UnitData) → IsBounded items u → u.nodes ≡ (size_items items).nodes → weight_of_unit code u ≤ 512 * u.nodes
unit_bounded items u h e = let c = h.code in omega (arith, c, e)

units_bounded : (units : List UnitData) (nodes : ℕ)
    → ((k : ℕ) (u : UnitData) → slice_get units k ≡ Some u → (items : List Syntax.Item) × IsBounded items u × (u.nodes ≡ (size_items items).nodes))
    → weight_of_units code units + 512 * nodes ≤ 512 * fold (λ n (u : UnitData). n + u.nodes) nodes units
units_bounded [] nodes h = omega arith
units_bounded (u ∷ more) nodes h =
    let x = h 0 u refl in
    let a = unit_bounded x.0 u x.1 x.2 in
    let b = units_bounded more (nodes + u.nodes) (λ k v e. h (suc k) v e) in omega (arith, a, b)

frame_bounded : (units : List UnitData) (g : FunctionData) → IsOfUnit units g
    → ((k : ℕ) (u : UnitData) → slice_get units k ≡ Some u → (items : List Syntax.Item) × IsBounded items u × (u.nodes ≡ (size_items items).nodes))
    → weight_of_function frame g ≤ 64 * g.nodes
frame_bounded units g o h =
    let x = h o.number o.unit o.is_unit in
    let l = all_at (λ g. weight_of_function frame g ≤ 64 * g.nodes) o.unit.functions
    (recursion_from_All (λ g. weight_of_function frame g ≤ 64 * g.nodes) o.unit.functions x.1.frames) o.function o.own o.is_own in
    let e = o.weight frame in
    let m = o.nodes in omega (arith, l, e, m)

more_hold : {A : Type 0} (P Q : A → Type 0) (xs : List A) → ((x : A) → P x → Q x) → AllByRecursion P xs → AllByRecursion Q xs
more_hold P Q [] f h = tt
more_hold P Q (x ∷ xs) f h = (f x h.0, more_hold P Q xs f h.1)

pub joined_are_bounded : JoinedAreBounded
joined_are_bounded units h =
    let j = joining_adds_nothing units in
    record {
      code = let a = j.code in let b = units_bounded units 0 h in omega (arith, a, b);
      frames = All-from_recursion (λ g. weight_of_function frame g ≤ 64 * g.nodes) (functions units)
          (more_hold (IsOfUnit units) (λ g. weight_of_function frame g ≤ 64 * g.nodes) (functions units) (λ g o. frame_bounded units g o h)
          (recursion_from_All (IsOfUnit units) (functions units) j.functions));
    }
