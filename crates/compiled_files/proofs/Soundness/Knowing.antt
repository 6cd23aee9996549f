-- What is known of a well typed program and of the locals of its functions.
use Rattle.std.proofs.Common.{◌≡◌, ◌≢◌, ℕ, zero, suc, ◌+◌, ◌<◌, ◌≤◌, ◌^◌, ◌==◌, Bool, true, false, ◌||◌, not, List, [], ◌∷◌, length, Option, Some, None, refl}
use Rattle.std.proofs.Common.{ap, sym, subst, ◌∙◌, arith, slice_get, if◌then◌else◌}
use Rattle.std.proofs.lemmas.Bool.{or_left}
use Rattle.std.proofs.lemmas.Option.{slice_get_within}
use Rattle.std.specs.List.{list_any}
use Rattle.std.specs.Prelude.{All}
use Rattle.c_types.specs.Limits.{greatest_size}
use Rattle.c_types.specs.Types.{CType, void, integer, pointer, array, function, structure, Record}
use Rattle.c_typed.specs.Conversions.{element_of, is_scalar}
use Rattle.c_typed.specs.Programs.{FunctionData, ProgramData}
use Rattle.c_typed.specs.Rules.{points_to_object}
use Rattle.c_typed.specs.Typed.{Declared}
use Rattle.c_typed.specs.declared.program.Local.{Local}
use Rattle.c_typed.specs.declared.program.Object.{Object}
use Rattle.c_meaning.specs.Program.{all_locals, element_size, size_at, type_at}
use Rattle.c_well_typed.specs.Printable.Programs.{AreMarked}
use Rattle.c_well_typed.specs.WellTyped.{AreWellTyped, declared_in, of_program}
use Rattle.lower_tac.specs.Expressions.{named}
use Rattle.lower_tac.specs.Statements.{lowered}
use Rattle.rv_code.specs.Frames.{places_from, whole_words}
use Rattle.rv_image.specs.Data.{object_places, objects_at, object_sizes}
use Rattle.source_values.specs.Rows.{TypesAreSmall}
use Rattle.compiled_files.proofs.Soundness.Bodies.{as_many}
use Rattle.compiled_files.proofs.Soundness.Declaring.{LocalFacts}
use Rattle.compiled_files.proofs.Soundness.Routines as Routines
use Rattle.c_well_typed.proofs.Sizing.{get_from, get_map, not_empty, part_ends}
use Rattle.compiled_files.proofs.Soundness.Typing.{Facts}

places_long : (at : ℕ) (sizes : List ℕ) → length (places_from at sizes) ≡ length sizes
places_long at [] = refl
places_long at (n ∷ more) = ap suc (places_long (at + whole_words n) more)

some_is : {A : Type 0} {a b : A} → Some a ≡ Some b → a ≡ b
some_is e = cc

module _ (p : ProgramData) where
  pub objects_long : length (object_places p) ≡ length p.objects
  objects_long = places_long objects_at (object_sizes p) ∙ as_many _ p.objects

  module _ (typed : AreWellTyped (of_program p)) (filled : All (λ (r : Record). r.fields ≢ []) p.records) (small : TypesAreSmall p) where
    -- ---- types

    pub small_at : (n : ℕ) → size_at p n ≤ greatest_size
    small_at n = (small n).size

    positive : (t : CType) → points_to_object (length p.records) t ≡ true → 0 < element_size p t
    positive void h = cc
    positive (integer kind) h = cc
    positive (pointer t) h = not_empty p.records typed.functions.records filled t h
    positive (array t n) h = cc
    positive (function t all) h = cc
    positive (structure r) h = cc

    step_known : (n : ℕ) → points_to_object (length p.records) (type_at p n) ≡ true
        → (0 < element_size p (type_at p n)) × (element_size p (type_at p n) < 2 ^ 31)
    step_known n h = (positive (type_at p n) h, (let z = (small n).element in omega (arith, z)))

    -- ---- locals

    module _ (f : FunctionData) (taken : List ℕ) (marked : AreMarked p taken 0 (all_locals f)) where
      abbrev pub d : Declared
      d = declared_in (of_program p) f

      mark_of : (k : ℕ) (all : List Local) → AreMarked p taken k all → (x : ℕ) (l : Local) → slice_get all x ≡ Some l
          → (m : ℕ) × (l.block ≡ (not (is_scalar (type_at p l.ty)) || list_any (λ i. i == m) taken))
      mark_of k [] marks x l e = cc
      mark_of k (o ∷ all) marks zero l e =
          (k, subst (λ (l : Local). l.block ≡ (not (is_scalar (type_at p l.ty)) || list_any (λ i. i == k) taken)) (some_is e) marks.0)
      mark_of k (o ∷ all) marks (suc x) l e = mark_of (k + 1) all marks.1 x l e

      no_scalar : (u t : CType) → element_of u ≡ Some t → is_scalar u ≡ false
      no_scalar void t e = cc
      no_scalar (integer kind) t e = cc
      no_scalar (pointer s) t e = cc
      no_scalar (array s n) t e = refl
      no_scalar (function s all) t e = cc
      no_scalar (structure r) t e = cc

      -- an array lies in a block
      array_block : (x : ℕ) (u t : CType) → slice_get d.locals x ≡ Some u → element_of u ≡ Some t → named (slice_get (all_locals f) x) x ≡ None
      array_block x u t e is =
          let l = get_from (λ (l : Local). type_at p l.ty) (all_locals f) x u e in
          let m = mark_of 0 (all_locals f) marked x l.0 l.1 in
          let s : is_scalar (type_at p l.0.ty) ≡ false = ap is_scalar l.2 ∙ no_scalar u t is in
          let b : l.0.block ≡ true = m.1 ∙ or_left (not (is_scalar (type_at p l.0.ty))) (list_any (λ i. i == m.0) taken) (ap not s) in
          ap (λ (o : Option Local). named o x) l.1 ∙ ap (λ (b : Bool). if b then None else Some x) b

      pub facts : (Used Here : ℕ → Type 0) → ((g : ℕ) (s : CType) → slice_get d.functions g ≡ Some s → Used g → Here g)
          → Facts p (lowered p) (length (object_places p)) Here (all_locals f) Used d
      facts Used Here bodies = record {
        places = λ n t e. (let o = get_from (λ (o : Object). type_at p o.ty) p.objects n t e in
            let h = slice_get_within p.objects n o.0 o.1 in let z = objects_long in omega (arith, h, z));
        bodies = bodies;
        steps = λ at n h. step_known n h;
        records = λ n r e. (let h = small_at n in omega (arith, h));
        calls = λ g t parameters e. Routines.calls p typed.functions.functions g t parameters e (length (object_places p)) Here (all_locals f);
        through = λ n t parameters e. Routines.through p typed.functions.functions n t parameters e (length (object_places p)) Here (all_locals f);
        arrays = array_block;
      }

      pub local_facts : LocalFacts p (all_locals f) d
      local_facts = record {
        types = λ x l t e is. some_is (sym (get_map (λ (l : Local). type_at p l.ty) (all_locals f) x l e) ∙ is);
        parts = part_ends p.records typed.functions.records;
      }
