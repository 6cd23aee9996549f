-- Whether a program has its function `main`.
use Rattle.std.proofs.Common.{◌≡◌, ◌∙◌, true, false, map, refl, sym, ap}
use Rattle.std.specs.Prelude.{◌↔◌, IsTrue, is_some, slice_get, Option, Some, None}
use Rattle.std.specs.Option.{option_map}
use Rattle.std.proofs.lemmas.Option.{slice_get-map}
use Rattle.c_typed.specs.declared.program.Function.{Function}
use Rattle.c_typed.specs.declared.program.Typed.{Typed}
use Rattle.c_typed.specs.Programs.{FunctionData, data_of, program_data}
use Rattle.c_typed.specs.Views.{statement_of}
use Rattle.c_link.specs.Gaps.{HasMain}

some_is : {A : Type 0} (x y : A) → Some x ≡ Some y → x ≡ y
some_is x y h = cc

none_is : {A : Type 0} (x : A) → None ≡ Some x → ⊥
none_is x h = cc

mapped_stays : {A B : Type 0} (f : A → B) (o : Option A) → is_some (option_map f o) ≡ is_some o
mapped_stays f None = refl
mapped_stays f (Some x) = refl

at_main : (p : Typed) (o : Option Function) → o ≡ slice_get p.functions p.main → slice_get (map data_of p.functions) p.main ≡ option_map data_of o
at_main p o h = slice_get-map data_of p.functions p.main ∙ ap (option_map data_of) (sym h)

pub found_main : (p : Typed) (f : Function) → Some f ≡ slice_get p.functions p.main → IsTrue (is_some f.body) ↔ HasMain (program_data p)
found_main p f h =
    let e = at_main p (Some f) h in
    let kept = mapped_stays statement_of f.body in (
      λ t. (data_of f, e, kept ∙ t),
      λ w. sym kept ∙ ap (λ (g : FunctionData). is_some g.body) (some_is (data_of f) w.0 (sym e ∙ w.1)) ∙ w.2,
    )

pub no_main_found : (p : Typed) → None ≡ slice_get p.functions p.main → IsTrue false ↔ HasMain (program_data p)
no_main_found p h =
    let e = at_main p None h in
    (λ t. absurd (let k : false ≡ true = t in cc), λ w. absurd (none_is w.0 (sym e ∙ w.1)))
