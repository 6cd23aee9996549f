-- What a typed program gives is what the start of its run asks.
use Rattle.std.proofs.Common.{◌≡◌, ℕ, ◌+◌, ◌-◌, ◌%◌, ◌^◌, ◌≤◌, ◌<◌, Bool, true, false, if◌then◌else◌, refl, ap, List, [], ◌∷◌, fold, arith}
use Rattle.std.proofs.lemmas.List.Elements.{recursion_from_All, All-from_recursion}
use Rattle.std.proofs.lemmas.Option.{unwrap_or-slice_get}
use Rattle.std.specs.Prelude.{All, Option, Some, None, is_some}
use Rattle.std.specs.Int.{next_multiple_of}
use Rattle.std.specs.List.{AllByRecursion}
use Rattle.c_types.specs.Layouts.{size_of}
use Rattle.c_types.specs.Limits.{AreComplete}
use Rattle.c_types.specs.Types.{void}
use Rattle.c_typed.specs.RunCounts.Loops.{loops_of}
use Rattle.c_typed.specs.declared.program.Initial.{Initial}
use Rattle.c_typed.specs.declared.program.InitialValue.{InitialValue}
use Rattle.c_typed.specs.declared.program.InitialValue.TheVariants as V
use Rattle.c_typed.specs.declared.program.Object.{Object}
use Rattle.c_typed.specs.Programs.{FunctionData, ProgramData}
use Rattle.c_meaning.specs.Program.{none_or, object_size, size_at, size_if_defined}
use Rattle.c_link.specs.Gaps as Gaps
use Rattle.c_well_typed.specs.Laws.{ProgramHasTypedObjects}
use Rattle.c_well_typed.specs.WellTyped.{of_program, ty, IsTypedObject}
use Rattle.c_well_typed.specs.Within.{value_size, IsWithin, AreWithin, InitialsLieWithin, IsTextObject, IsNumber, AreNumbers, TextsHoldNumbers, ProgramHasTexts}
use Rattle.c_well_typed.specs.Within.{ProgramsAreWithinLimits, ProgramsHaveFewLoops}
use Rattle.code_bounds.specs.StartLaws.{ProgramStartsFit}
use Rattle.source_start.specs.Fits.{value_bytes, StandsFree, IsFitValue}

-- ---- values

fits : (o : Object) (n at : ℕ) (v : InitialValue) → at + value_size v ≤ n → at % value_size v ≡ 0 → (o.text ≡ true → IsNumber v)
    → (at + value_bytes v ≤ n) × StandsFree o at v
fits o n at (V.Number kind w) ends aligned numbers = (ends, tt)
fits o n at (V.Address t k offset) ends aligned numbers = by_text o.text refl
  where
    by_text : (b : Bool) → o.text ≡ b → (at + 4 ≤ n) × ((at % 4 ≡ 0) × (o.text ≡ false))
    by_text true e = absurd (numbers e)
    by_text false e = (ends, (aligned, e))
fits o n at (V.Function t k) ends aligned numbers = by_text o.text refl
  where
    by_text : (b : Bool) → o.text ≡ b → (at + 4 ≤ n) × ((at % 4 ≡ 0) × (o.text ≡ false))
    by_text true e = absurd (numbers e)
    by_text false e = (ends, (aligned, e))

module _ (p : ProgramData) where
  value_fits : (o : Object) (i : Initial) → IsWithin (of_program p) (ty (of_program p) o.ty) i → (o.text ≡ true → IsNumber i.value) → IsFitValue p o i
  value_fits o i w numbers =
      let f = fits o (size_at p o.ty) i.offset i.value w.ends w.aligned numbers in record { ends = f.0; free = f.1 }

  each_fits : (o : Object) (all : List Initial) → AllByRecursion (IsWithin (of_program p) (ty (of_program p) o.ty)) all
      → (o.text ≡ true → AllByRecursion (λ (i : Initial). IsNumber i.value) all) → AllByRecursion (IsFitValue p o) all
  each_fits o [] w numbers = tt
  each_fits o (i ∷ all) w numbers = (value_fits o i w.0 (λ e. (numbers e).0), each_fits o all w.1 (λ e. (numbers e).1))

  object_fits : (o : Object) → AreWithin (of_program p) (ty (of_program p) o.ty) o.initial → (o.text ≡ true → AreNumbers o.initial)
      → All (IsFitValue p o) (none_or o.initial)
  object_fits o w numbers = by_initial o.initial w numbers
    where
      by_initial : (all : Option (List Initial)) → AreWithin (of_program p) (ty (of_program p) o.ty) all → (o.text ≡ true → AreNumbers all)
          → All (IsFitValue p o) (none_or all)
      by_initial None w numbers = All-from_recursion (IsFitValue p o) [] tt
      by_initial (Some all) w numbers =
          All-from_recursion (IsFitValue p o) all
          (each_fits o all (recursion_from_All (IsWithin (of_program p) (ty (of_program p) o.ty)) all w)
          (λ e. recursion_from_All (λ (i : Initial). IsNumber i.value) all (numbers e)))

  objects_fit : AreComplete p.records → InitialsLieWithin → TextsHoldNumbers → (all : List Object) → AllByRecursion (IsTypedObject (of_program p)) all
      → AllByRecursion (IsTextObject (of_program p)) all → AllByRecursion (λ (o : Object). All (IsFitValue p o) (none_or o.initial)) all
  objects_fit complete lie numbers [] h t = tt
  objects_fit complete lie numbers (o ∷ all) h t = (
    object_fits o (lie (of_program p) complete o h.0) (λ e. numbers (of_program p) o h.0 t.0 e),
    objects_fit complete lie numbers all h.1 t.1,
  )

  -- ---- bytes

  -- no more than where each object begins at a multiple of four
  less_of : (o : Object) → object_size p o ≤ Gaps.object_bytes p o
  less_of o =
      let m = size_of p.records (Gaps.type_at p o.ty) in
      let e : size_at p o.ty ≡ m = ap (size_of p.records) (unwrap_or-slice_get p.types o.ty void) in
      let r : m ≤ next_multiple_of m 4 = omega arith in
      by_initial o.initial (size_at p o.ty) (next_multiple_of m 4) (omega (arith, e, r))
    where
      by_initial : (all : Option (List Initial)) (m n : ℕ) → m ≤ n → size_if_defined all m ≤ (if is_some all then n else 0)
      by_initial None m n h = omega arith
      by_initial (Some all) m n h = h

  fewer : (all : List Object) (k l : ℕ) → k ≤ l → fold (λ n o. n + object_size p o) k all ≤ fold (λ n o. n + Gaps.object_bytes p o) l all
  fewer [] k l h = h
  fewer (o ∷ all) k l h = let r = less_of o in fewer all (k + object_size p o) (l + Gaps.object_bytes p o) (omega (arith, h, r))

  loops_fit : (all : List FunctionData) → AllByRecursion (λ (f : FunctionData). loops_of f ≤ 131072) all
      → AllByRecursion (λ (f : FunctionData). loops_of f < 2 ^ 32 - 1) all
  loops_fit [] h = tt
  loops_fit (f ∷ all) h = let l = h.0 in (omega (arith, l), loops_fit all h.1)

  pub starts_fit : AreComplete p.records → ProgramHasTypedObjects p → ProgramHasTexts p → ProgramsHaveFewLoops → ProgramsAreWithinLimits → InitialsLieWithin
      → TextsHoldNumbers → ProgramStartsFit p
  starts_fit complete objects texts loops limits lie numbers files h =
      let few = limits files p h in
      let bytes = few.globals in
      let less = fewer p.objects 0 0 (omega arith) in
      let typed = recursion_from_All (IsTypedObject (of_program p)) p.objects (objects files h) in
      let text = recursion_from_All (IsTextObject (of_program p)) p.objects (texts files h) in
      record {
        values = All-from_recursion (λ (o : Object). All (IsFitValue p o) (none_or o.initial)) p.objects (objects_fit complete lie numbers p.objects typed text);
        loops = All-from_recursion (λ (f : FunctionData). loops_of f < 2 ^ 32 - 1) p.functions
            (loops_fit p.functions (recursion_from_All (λ (f : FunctionData). loops_of f ≤ 131072) p.functions (loops files p h)));
        bytes = omega (arith, bytes, less);
      }
