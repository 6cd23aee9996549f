-- Names of the library in two parts of the list.
use Rattle.std.proofs.Common.{◌≡◌, ◌∙◌, ◌&&◌, Bool, true, false, List, [], ◌∷◌, ◌++◌, ℕ, Option, Some, None, refl, sym, ap, take, drop, nat_eq}
use Rattle.std.proofs.lemmas.Bool.{eq-eqb, ne_eqb, eqb-true, eqb-false}
use Rattle.std.specs.Prelude.{if◌then◌else◌, Ok, Err}
use Rattle.std.specs.Str.{bytes_eq}
use Rattle.c_typed.specs.declared.operators.LibraryFunction.{LibraryFunction}
use Rattle.c_typed.specs.declared.operators.LibraryFunction.TheVariants as L
use Rattle.c_erasure.specs.Files.{library_name}
use Rattle.c_ast.specs.declared.words.Spelling.{Spelling}
use Rattle.c_erasure.specs.Broken.{redeclared}
use Rattle.c_erasure.specs.Scopes.{Bound, Entity, FileScope, typedef, enumerator, an_object, a_function, a_library_function, a_local, a_parameter}
use Rattle.c_erasure.specs.Checking.Answers.{◌>>=◌}
use Rattle.c_erasure.specs.Checking.Files.{first_named, is_library_name, library, library_again, library_named, place_of_bound}
use Rattle.c_externals.specs.Filing.{either_named, once_after, other_place}

in_parts : (some more : List LibraryFunction) (x : List ℕ) → first_named (some ++ more) x ≡ either_named (first_named some x) (first_named more x)
in_parts [] more x = refl
in_parts (which ∷ some) more x = go (is_library_name which x) (in_parts some more x)
  where
    go : (b : Bool) → first_named (some ++ more) x ≡ either_named (first_named some x) (first_named more x)
        → (if b then Some which else first_named (some ++ more) x) ≡ either_named (if b then Some which else first_named some x) (first_named more x)
    go true h = refl
    go false h = h

pub in_three : (x : List ℕ)
    → library_named x ≡ either_named (first_named (take 3 library) x) (either_named (first_named (take 2 (drop 3 library)) x) (first_named (drop 5 library) x))
unfolding library_named
in_three x =
    in_parts (take 3 library) (drop 3 library) x
    ∙ ap (either_named (first_named (take 3 library) x)) (in_parts (take 2 (drop 3 library)) (drop 5 library) x)

-- ---- names that are none of them

numbers_swapped : (x y : ℕ) → nat_eq x y ≡ nat_eq y x
numbers_swapped x y = go (nat_eq x y) refl
  where
    go : (b : Bool) → nat_eq x y ≡ b → nat_eq x y ≡ nat_eq y x
    go true e = e ∙ sym (eq-eqb y x (sym (eqb-true x y e)))
    go false e = e ∙ sym (ne_eqb y x (λ k. eqb-false x y e (sym k)))

swapped : (xs ys : List ℕ) → bytes_eq xs ys ≡ bytes_eq ys xs
swapped [] [] = refl
swapped [] (y ∷ ys) = refl
swapped (x ∷ xs) [] = refl
swapped (x ∷ xs) (y ∷ ys) = ap (λ b. b && bytes_eq xs ys) (numbers_swapped x y) ∙ ap (λ b. nat_eq y x && b) (swapped xs ys)

pub not_named : (which : LibraryFunction) (x name : List ℕ) → name ≡ library_name which → bytes_eq x name ≡ false → is_library_name which x ≡ false
not_named which x name e h = swapped (library_name which) x ∙ ap (bytes_eq x) (sym e) ∙ h

pub none_of_three : (x : List ℕ) → is_library_name L.Malloc x ≡ false → is_library_name L.Calloc x ≡ false → is_library_name L.Free x ≡ false
    → first_named (take 3 library) x ≡ None
none_of_three x a b c = rw (a, b, c) refl

-- ---- what a name of the library stood for before

pub bound_once : (which : LibraryFunction) (x : Spelling) (d : Option Bound) (f : FileScope)
    → (if library_again which d then Ok f else Err (redeclared x.text x.from (place_of_bound d))) ≡ (once_after x (other_place d) >>= λ done. Ok f)
bound_once which x None f = refl
bound_once which x (Some b) f = go b.entity
  where
    with_entity : Entity → Bound
    with_entity e = record { name = b.name; place = b.place; from = b.from; how = b.how; entity = e }

    go : (e : Entity) → (if library_again which (Some (with_entity e)) then Ok f else Err (redeclared x.text x.from b.place))
        ≡ (once_after x (other_place (Some (with_entity e))) >>= λ done. Ok f)
    go (typedef t) = refl
    go (enumerator v) = refl
    go (an_object n t) = refl
    go (a_function n t) = refl
    go (a_library_function other) = refl
    go (a_local n t) = refl
    go (a_parameter t) = refl
