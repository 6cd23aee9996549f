-- Units, objects and functions, one more of each.
use Rattle.std.proofs.Common.{◌≡◌, ℕ, suc, ◌+◌, Bool, List, [], ◌∷◌, ◌++◌, fold, length, map, flat_map, refl, sym, ap, ◌∙◌, append_assoc, arith}
use Rattle.std.specs.Prelude.{get_or}
use Rattle.std.proofs.lemmas.List.{append-nil}
use Rattle.c_typed.specs.declared.program.Object.{Object}
use Rattle.c_typed.specs.Mapped.{Renaming}
use Rattle.c_typed.specs.Programs.{FunctionData, UnitData}
use Rattle.c_numbers.specs.NewNumbers.Parts.{function_in, mention_in, object_in}
use Rattle.c_numbers.specs.KeyNumbers.Keys.{position}
use Rattle.c_link.specs.Joining.{Tables, function_identities, functions_of, identity, is_function_defined, is_object_defined, mentions_of, numbered_from}
use Rattle.c_link.specs.Joining.{object_identities, objects_of, paired, renaming}
use Rattle.c_link.specs.Placing.{place, placed, placed_by}
use Rattle.c_link.specs.JoinedViews.{JoinedData, with_unit}

pub placed_append : {A : Type 0} (d : A → Bool) (keys : List (List ℕ)) (all : List A) (ps qs : List (List ℕ × A)) → placed d keys all (ps ++ qs)
    ≡ placed d keys (placed d keys all ps) qs
placed_append d keys all [] qs = refl
placed_append d keys all (p ∷ more) qs = placed_append d keys (place d all (position keys p.0) p.1) more qs

no_more : (n : ℕ) → n + 0 ≡ n
no_more n = omega arith

one_further : (n m : ℕ) → n + 1 + m ≡ n + (suc m)
one_further n m = omega arith

-- ---- things to the numbers that these are given

pub one_more : {A : Type 0} (d : A → Bool) (number : ℕ → ℕ) (all xs : List A) (x : A) → placed_by d number all (xs ++ x ∷ [])
    ≡ place d (placed_by d number all xs) (number (length xs)) x
one_more d number all [] x = refl
one_more d number all (y ∷ more) x = one_more d (λ n. number (suc n)) (place d all (number 0) y) more x

objects_by : {A : Type 0} (d : A → Bool) (keys : List (List ℕ)) (k n : ℕ) (f : Object → A) (all : List A) (os : List Object)
    → placed_by d (λ m. position keys (get_or (object_identities k n os) m [])) all (map f os) ≡ placed d keys all (paired (object_identities k n os) (map f os))
objects_by d keys k n f all [] = refl
objects_by d keys k n f all (o ∷ more) = objects_by d keys k (n + 1) f (place d all (position keys (identity k o.linked o.name n)) (f o)) more

functions_by : {A : Type 0} (d : A → Bool) (keys : List (List ℕ)) (k n : ℕ) (f : FunctionData → A) (all : List A) (os : List FunctionData)
    → placed_by d (λ m. position keys (get_or (function_identities k n os) m [])) all (map f os) ≡ placed d keys all (paired (function_identities k n os) (map f os))
functions_by d keys k n f all [] = refl
functions_by d keys k n f all (o ∷ more) = functions_by d keys k (n + 1) f (place d all (position keys (identity k o.is_linked o.name n)) (f o)) more

pub unit_joined : (t : Tables) (j : JoinedData) (k : ℕ) (u : UnitData) (m : Renaming ℕ ℕ) (objects : List Object) (functions : List FunctionData)
    → m ≡ renaming t k u
    → objects ≡ placed_by is_object_defined m.object j.objects (map (object_in m) u.objects)
    → functions ≡ placed_by is_function_defined m.function j.functions (map (function_in m) u.functions)
    → record { objects = objects; functions = functions; mentions = j.mentions ++ map (mention_in m) u.mentions; nodes = j.nodes + u.nodes } ≡ with_unit t j (k, u)
unit_joined t j k u m objects functions e o f =
    let r = renaming t k u in
    let all = o ∙ ap (λ m. placed_by is_object_defined m.object j.objects (map (object_in m) u.objects)) e
    ∙ objects_by is_object_defined t.objects k 0 (object_in r) j.objects u.objects in
    let bodies = f ∙ ap (λ m. placed_by is_function_defined m.function j.functions (map (function_in m) u.functions)) e
    ∙ functions_by is_function_defined t.functions k 0 (function_in r) j.functions u.functions in
    λ i. record { objects = all i; functions = bodies i; mentions = j.mentions ++ map (mention_in (e i)) u.mentions; nodes = j.nodes + u.nodes }

pub joined_one_more : (t : Tables) (j : JoinedData) (k : ℕ) (units : List UnitData) (u : UnitData) → fold (with_unit t) j (numbered_from k (units ++ u ∷ []))
    ≡ with_unit t (fold (with_unit t) j (numbered_from k units)) (k + length units, u)
joined_one_more t j k [] u = ap (λ m. with_unit t j (m, u)) (sym (no_more k))
joined_one_more t j k (v ∷ more) u =
    joined_one_more t (with_unit t j (k, v)) (k + 1) more u
    ∙ ap (λ m. with_unit t (fold (with_unit t) (with_unit t j (k, v)) (numbered_from (k + 1) more)) (m, u)) (one_further k (length more))

-- ---- what the units gave, in full

module _ (t : Tables) where
  pub objects_joined : (j : JoinedData) (us : List (ℕ × UnitData)) → (fold (with_unit t) j us).objects
      ≡ placed is_object_defined t.objects j.objects (flat_map (λ u. objects_of t u.0 u.1) us)
  objects_joined j [] = refl
  objects_joined j (u ∷ more) =
      objects_joined (with_unit t j u) more
      ∙ sym (placed_append is_object_defined t.objects j.objects (objects_of t u.0 u.1) (flat_map (λ u. objects_of t u.0 u.1) more))

  pub functions_joined : (j : JoinedData) (us : List (ℕ × UnitData)) → (fold (with_unit t) j us).functions
      ≡ placed is_function_defined t.functions j.functions (flat_map (λ u. functions_of t u.0 u.1) us)
  functions_joined j [] = refl
  functions_joined j (u ∷ more) =
      functions_joined (with_unit t j u) more
      ∙ sym (placed_append is_function_defined t.functions j.functions (functions_of t u.0 u.1) (flat_map (λ u. functions_of t u.0 u.1) more))

  pub mentions_joined : (j : JoinedData) (us : List (ℕ × UnitData)) → (fold (with_unit t) j us).mentions
      ≡ j.mentions ++ flat_map (λ u. mentions_of t u.0 u.1) us
  mentions_joined j [] = sym (append-nil j.mentions)
  mentions_joined j (u ∷ more) =
      mentions_joined (with_unit t j u) more ∙ append_assoc j.mentions (mentions_of t u.0 u.1) (flat_map (λ u. mentions_of t u.0 u.1) more)

  pub nodes_joined : (j : JoinedData) (k : ℕ) (us : List UnitData) → (fold (with_unit t) j (numbered_from k us)).nodes ≡ fold (λ n u. n + u.nodes) j.nodes us
  nodes_joined j k [] = refl
  nodes_joined j k (u ∷ more) = nodes_joined (with_unit t j (k, u)) (k + 1) more
