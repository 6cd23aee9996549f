use Rattle.std.proofs.Common.{◌≡◌, drop, fold, map}
use Rattle.std.specs.Prelude.{flat_map}
use Rattle.c_types.specs.Views.{field_of}
use Rattle.legality.specs.InTypes.{pointers_in}
use Rattle.layout_plan.specs.Clearing.{cleared}
use Rattle.layout_plan.proofs.peeling.clear_fields.Given as goal

abbrev pub invariant-loop-f : goal.invariant-loop-f
invariant-loop-f l = fold cleared l.marks (flat_map pointers_in (map (λ f. f.ty) (map field_of (drop l.f-index l.r.fields))))
    ≡ fold cleared l.fn.marks (flat_map pointers_in (map (λ f. f.ty) (map field_of l.r.fields)))
