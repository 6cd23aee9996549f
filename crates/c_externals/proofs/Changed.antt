-- One object, or one function, of a list changed in its place.
use Rattle.std.proofs.Common.{◌≡◌, ◌∙◌, ◌<◌, ◌≤◌, ℕ, zero, suc, List, [], ◌∷◌, length, map, get_or, slice_set, refl, sym, ap, arith}
use Rattle.std.specs.Prelude.{Some, None, slice_get}
use Rattle.lay_base.specs.declared.place.Place.{Place}
use Rattle.c_typed.specs.Trees.{Initializer, Statement}
use Rattle.c_erasure.specs.Noted.{Noted}
use Rattle.c_erasure.specs.Scopes.{ALocal}
use Rattle.c_annotated.specs.declared.file.Function.{Function}
use Rattle.c_annotated.specs.declared.file.Object.{Object}
use Rattle.c_annotated.specs.FileViews.{function_of, object_of}
use Rattle.c_externals.specs.Filing.{functions_set, functions_with, objects_set, objects_with, with_body, with_initial}

module _ {X Y : Type 0} (f : X → Y) where
  at_mapped : (xs : List X) (n : ℕ) (x : X) → n < length xs → x ≡ get_or xs n x → slice_get (map f xs) n ≡ Some (f x)
  at_mapped [] n x h e = absurd (omega (arith, h))
  at_mapped (y ∷ xs) zero x h e = ap (λ z. Some (f z)) (sym e)
  at_mapped (y ∷ xs) (suc n) x h e = at_mapped xs n x (omega (arith, h)) e

  none_mapped : (xs : List X) (n : ℕ) → length xs ≤ n → slice_get (map f xs) n ≡ None
  none_mapped [] n h = refl
  none_mapped (y ∷ xs) zero h = absurd (omega (arith, h))
  none_mapped (y ∷ xs) (suc n) h = none_mapped xs n (omega (arith, h))

  set_mapped : (xs : List X) (n : ℕ) (x : X) → map f (slice_set xs n x) ≡ slice_set (map f xs) n (f x)
  set_mapped [] n x = refl
  set_mapped (y ∷ xs) zero x = refl
  set_mapped (y ∷ xs) (suc n) x = ap (λ all. f y ∷ all) (set_mapped xs n x)

module _ (xs : List Object) (n : ℕ) (place : Place) (i : Initializer Noted) where
  pub object_defined : (o p : Object) → n < length xs → o ≡ get_or xs n o → Some (object_of p) ≡ with_initial place i (Some (object_of o))
      → map object_of (slice_set xs n p) ≡ objects_with (map object_of xs) n place i
  object_defined o p h e d =
      set_mapped object_of xs n p
      ∙ ap (objects_set (map object_of xs) n) d
      ∙ ap (λ it. objects_set (map object_of xs) n (with_initial place i it)) (sym (at_mapped object_of xs n o h e))

  pub no_object_defined : length xs ≤ n → map object_of xs ≡ objects_with (map object_of xs) n place i
  no_object_defined h = ap (λ it. objects_set (map object_of xs) n (with_initial place i it)) (sym (none_mapped object_of xs n h))

module _ (xs : List Function) (n : ℕ) (place : Place) (nodes : ℕ) (parameters locals : List ALocal) (body : Statement Noted) where
  pub function_defined : (g h : Function) → n < length xs → g ≡ get_or xs n g
      → Some (function_of h) ≡ with_body place nodes parameters locals body (Some (function_of g))
      → map function_of (slice_set xs n h) ≡ functions_with (map function_of xs) n place nodes parameters locals body
  function_defined g h l e d =
      set_mapped function_of xs n h
      ∙ ap (functions_set (map function_of xs) n) d
      ∙ ap (λ it. functions_set (map function_of xs) n (with_body place nodes parameters locals body it)) (sym (at_mapped function_of xs n g l e))

  pub no_function_defined : length xs ≤ n → map function_of xs ≡ functions_with (map function_of xs) n place nodes parameters locals body
  no_function_defined h =
      ap (λ it. functions_set (map function_of xs) n (with_body place nodes parameters locals body it)) (sym (none_mapped function_of xs n h))
