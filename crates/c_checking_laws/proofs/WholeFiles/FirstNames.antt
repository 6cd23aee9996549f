-- Whether a declarator is the first of its name, in the file so far and in the whole one (C99 6.2.1, 6.2.2).
use Rattle.std.proofs.Common.{◌≡◌, ◌≢◌, ℕ, zero, suc, ◌+◌, ◌≤◌, ◌<◌, Bool, true, false, refl, sym, ap, ◌∙◌, subst, cond, List, [], ◌∷◌, ◌++◌, length}
use Rattle.std.proofs.Common.{arith, inl, inr}
use Rattle.std.proofs.lemmas.Bool.{and_from, and_parts, leb-true}
use Rattle.std.proofs.lemmas.Bool.Decides.{nat_tests}
use Rattle.std.specs.Prelude.{◌⊎◌, map, Option, Some, None, slice_get, is_none, nat_le, ◌&&◌}
use Rattle.std.specs.Str.{bytes_eq}
use Rattle.c_ast.specs.declared.words.Spelling.{Spelling}
use Rattle.c_erasure.specs.Erasure.{IsBound}
use Rattle.c_erasure.specs.Files.{AreConsistent, bound, is_first}
use Rattle.c_erasure.specs.Marks.{Mark, a_name, scope_beginnings}
use Rattle.c_erasure.specs.Scopes.{FileScope, Bound, How, Entity, enumerator, visible, or_else, at_file_scope}
use Rattle.c_erasure.specs.Checking.Declaring.{declared_among}
use Rattle.c_checking_laws.proofs.Extends.{Extends, bound_stays, one_of_both}
use Rattle.c_checking_laws.proofs.NodesOfParts.{same_bytes}
use Rattle.c_checking_laws.proofs.WholeFiles.Kept.{IsAnEnumerator, undeclared}
use Rattle.c_checking_laws.proofs.WholeFiles.Names.{declared_is, first_declares, names_equal}
use Rattle.c_checking_laws.proofs.WholeFiles.Stepping.{IsFinal}

at_most : (n m : ℕ) → n ≤ m → nat_le n m ≡ true
at_most n m h = grind (arith, nat_tests)

pub none_visible : (names : List Bound) (x : List ℕ) (at : ℕ)
    → ((k : ℕ) (b : Bound) → slice_get names k ≡ Some b → b.name ≡ x → at < b.from) → is_none (visible names x at) ≡ true
none_visible [] x at h = refl
none_visible (b ∷ names) x at h =
    by_test (bytes_eq b.name x && nat_le b.from at) refl (none_visible names x at (λ k c e. h (suc k) c e))
  where
    by_test : (t : Bool) → (bytes_eq b.name x && nat_le b.from at) ≡ t → is_none (visible names x at) ≡ true
        → is_none (or_else (cond t (Some b.entity) None) (visible names x at)) ≡ true
    by_test true e later =
        let p = and_parts (bytes_eq b.name x) (nat_le b.from at) e in
        let l = h 0 b refl (same_bytes b.name x p.0) in
        let m = leb-true b.from at p.1 in
        absurd (omega (arith, l, m))
    by_test false e later = later

pub one_visible : (names : List Bound) (x : List ℕ) (at : ℕ) (k : ℕ) (a : Bound) → slice_get names k ≡ Some a → a.name ≡ x → a.from ≤ at
    → is_none (visible names x at) ≡ false
one_visible [] x at k a e n l = cc
one_visible (b ∷ names) x at zero a e n l =
    let here : b ≡ a = cc in
    let test : (bytes_eq b.name x && nat_le b.from at) ≡ true =
    and_from (bytes_eq b.name x) (nat_le b.from at) (names_equal b.name x (ap (λ (b : Bound). b.name) here ∙ n))
    (at_most b.from at (let f = ap (λ (b : Bound). b.from) here in omega (arith, f, l))) in
    ap (λ t. is_none (or_else (cond t (Some b.entity) None) (visible names x at))) test
one_visible (b ∷ names) x at (suc k) a e n l = by_test (bytes_eq b.name x && nat_le b.from at) (one_visible names x at k a e n l)
  where
    by_test : (t : Bool) → is_none (visible names x at) ≡ false → is_none (or_else (cond t (Some b.entity) None) (visible names x at)) ≡ false
    by_test true later = refl
    by_test false later = later

declared_some : (names : List Bound) (x : List ℕ) (k : ℕ) (a : Bound) → slice_get names k ≡ Some a → a.name ≡ x
    → (c : Bound) × (declared_among names x ≡ Some c)
declared_some [] x k a e n = cc
declared_some (b ∷ names) x k a e n = by_test (bytes_eq b.name x) refl k e (λ k e. declared_some names x k a e n)
  where
    by_test : (t : Bool) → bytes_eq b.name x ≡ t → (k : ℕ) → slice_get (b ∷ names) k ≡ Some a
        → ((k : ℕ) → slice_get names k ≡ Some a → (c : Bound) × (declared_among names x ≡ Some c))
        → (c : Bound) × (cond t (Some b) (declared_among names x) ≡ Some c)
    by_test true t k e later = (b, refl)
    by_test false t (suc k) e later = later k e
    by_test false t zero e later =
        let here : b ≡ a = cc in
        let f = names_equal b.name x (ap (λ (b : Bound). b.name) here ∙ n) in
        let false_is_true = sym t ∙ f in
        cc

-- two declarations of a name are of one thing
pub one_thing : (names : List Bound) (x : List ℕ) → AreConsistent names → (j k : ℕ) (a b : Bound) → slice_get names j ≡ Some a → slice_get names k ≡ Some b
    → a.name ≡ x → b.name ≡ x → a.entity ≡ b.entity
one_thing names x c j k a b p q n m =
    let d = declared_some names x j a p n in
    first_declares names x d.0 c d.1 j a p n ∙ sym (first_declares names x d.0 c d.1 k b q m)

map_back : {X Y : Type 0} (v : X → Y) (xs : List X) (k : ℕ) (y : Y) → slice_get (map v xs) k ≡ Some y → (x : X) × (slice_get xs k ≡ Some x) × (v x ≡ y)
map_back v [] k y e = cc
map_back v (x ∷ xs) zero y e = (x, refl, let f : v x ≡ y = cc in f)
map_back v (x ∷ xs) (suc k) y e = map_back v xs k y e

there : {X Y : Type 0} (v : X → Y) (xs : List X) (y : Y) (more : List Y) → slice_get (map v xs ++ y ∷ more) (length xs) ≡ Some y
there v [] y more = refl
there v (x ∷ xs) y more = there v xs y more

-- the file before the declarator, that which has spoken of its type, that behind it, and the whole one
pub first_is : (f spoken g h : FileScope) (x : Spelling) (from : ℕ) (u : List Mark) (others : List ℕ) (how : How) (e : Entity) → IsFinal others h
    → Extends g h
    → map (λ b. b.from) g.names ≡ map (λ b. b.from) spoken.names ++ scope_beginnings (a_name from ∷ u)
    → (more : List Bound) → spoken.names ≡ f.names ++ more → ((k : ℕ) (b : Bound) → slice_get more k ≡ Some b → IsAnEnumerator b)
    → Extends spoken h
    → ((k : ℕ) (b : Bound) → slice_get f.names k ≡ Some b → b.from ≤ x.from) → x.from < from
    → IsBound (at_file_scope h) (bound x from how e) → ((v : ℕ) → e ≢ enumerator v) → is_first h x ≡ is_none (declared_among spoken.names x.text)
first_is f spoken g h x from u others how e final later names more added enumerators before begun less binds proper =
    by_name (declared_among spoken.names x.text) refl
  where
    own : (c : Bound) × (slice_get h.names (length spoken.names) ≡ Some c) × (c.from ≡ from)
    own =
        let m = map_back (λ b. b.from) g.names (length spoken.names) from
        (subst (λ all. slice_get all (length spoken.names) ≡ Some from) (sym names) (there (λ b. b.from) spoken.names from (scope_beginnings u))) in
        (m.0, bound_stays later (length spoken.names) m.0 m.1, m.2)

    by_index : (k : ℕ) (b : Bound) → slice_get h.names k ≡ Some b → b.name ≡ x.text → declared_among spoken.names x.text ≡ None
        → (slice_get spoken.names k ≡ Some b) ⊎ ((j : ℕ) × (k ≡ length spoken.names + j) × (slice_get before.names.0 j ≡ Some b)) → x.from < b.from
    by_index k b i n none (inl p) = absurd (undeclared spoken.names x.text none k b p n)
    by_index k b i n none (inr (zero, p, q)) =
        let c = own in
        let here : Some b ≡ Some c.0 = sym i ∙ ap (slice_get h.names) (let z : k ≡ length spoken.names = omega (arith, p) in z) ∙ c.1 in
        let same : b ≡ c.0 = cc in
        let f = ap (λ (b : Bound). b.from) same in
        let o = c.2 in
        omega (arith, f, o, less)
    by_index k b i n none (inr (suc j, p, q)) =
        let c = own in
        let r = final.rising (length spoken.names) k c.0 b (omega (arith, p)) c.1 i in
        let o = c.2 in
        omega (arith, r, o, less)

    by_name : (o : Option Bound) → declared_among spoken.names x.text ≡ o → is_none (visible h.names x.text x.from) ≡ is_none o
    by_name None none = none_visible h.names x.text x.from (λ k b i n. by_index k b i n none
        (one_of_both spoken.names before.names.0 k b (subst (λ all. slice_get all k ≡ Some b) before.names.1 i)))
    by_name (Some a) some =
        let d = declared_is spoken.names x.text a some in
        let stays = bound_stays before d.0 a d.1 in
        let thing = one_thing h.names x.text final.consistent d.0 binds.0 a (bound x from how e) stays binds.1 d.2 refl in
        one_visible h.names x.text x.from d.0 a stays d.2
        (early a thing (one_of_both f.names more d.0 a (subst (λ all. slice_get all d.0 ≡ Some a) added d.1)))
      where
        early : (a : Bound) → a.entity ≡ e → {k : ℕ}
            → (slice_get f.names k ≡ Some a) ⊎ ((j : ℕ) × (k ≡ length f.names + j) × (slice_get more j ≡ Some a)) → a.from ≤ x.from
        early a thing {k} (inl p) = begun k a p
        early a thing {k} (inr p) = let v = enumerators p.0 a p.2 in absurd (proper v.0 (sym thing ∙ v.1))
