-- What an expression reaches in a part of a file: objects that are there, and records that are complete (C99 6.2.1, 6.2.5).
use Rattle.std.proofs.Common.{◌≡◌, ℕ, zero, suc, ◌+◌, ◌≤◌, ◌<◌, Bool, true, false, refl, sym, ◌∙◌, subst, List, [], ◌∷◌, ◌++◌, cond, inl, inr, arith}
use Rattle.std.proofs.lemmas.Bool.{and_parts, leb-true}
use Rattle.std.specs.Prelude.{◌⊎◌, ◌&&◌, nat_le, Option, Some, None, slice_get}
use Rattle.std.specs.Str.{bytes_eq}
use Rattle.c_erasure.specs.Scopes.{ALocal, AnObject, Bound, FileScope, Scope, Entity, Purpose, or_else, innermost, visible, named, ended}
use Rattle.c_checking_laws.proofs.CompleteNodes.{some_is}
use Rattle.c_checking_laws.proofs.CompleteWalk.{Event, a_use, a_look, a_tag, an_end, a_name, a_literal, seen, seen_append, names_in, ends_in}
use Rattle.c_checking_laws.proofs.CompleteWalk.{literals_in, Follows}
use Rattle.c_checking_laws.proofs.CompletePart.{whole, IsWhole, IsFitFor, fit_stays}
use Rattle.c_checking_laws.proofs.CompleteFit.{IsAmong}

-- what is in scope is a name of the list
record IsFound (all : List Bound) (at : ℕ) (e : Entity) : Type 0 where
  pub number : ℕ
  pub name : Bound
  pub there : slice_get all number ≡ Some name
  pub before : name.from ≤ at
  pub same : name.entity ≡ e

found_later : (b : Bound) (all : List Bound) (at : ℕ) (e : Entity) → IsFound all at e → IsFound (b ∷ all) at e
found_later b all at e z = record { number = suc z.number; name = z.name; there = z.there; before = z.before; same = z.same }

found_in : (all : List Bound) (x : List ℕ) (at : ℕ) (e : Entity) → visible all x at ≡ Some e → IsFound all at e
found_in [] x at e h = cc
found_in (b ∷ all) x at e h = by_test (bytes_eq b.name x && nat_le b.from at) refl h (λ h. found_in all x at e h)
  where
    by_test : (t : Bool) → (bytes_eq b.name x && nat_le b.from at) ≡ t → or_else (cond t (Some b.entity) None) (visible all x at) ≡ Some e
        → (visible all x at ≡ Some e → IsFound all at e) → IsFound (b ∷ all) at e
    by_test true q h more =
        let k = and_parts (bytes_eq b.name x) (nat_le b.from at) q in
        record { number = 0; name = b; there = refl; before = leb-true b.from at k.1; same = some_is b.entity e h }
    by_test false q h more = found_later b all at e (more h)

below_or : (n m : ℕ) → (n < m) ⊎ ((k : ℕ) × (n ≡ m + k))
below_or n zero = inr (n, omega arith)
below_or zero (suc m) = inl (omega arith)
below_or (suc n) (suc m) = next (below_or n m)
  where
    next : (n < m) ⊎ ((k : ℕ) × (n ≡ m + k)) → (suc n < suc m) ⊎ ((k : ℕ) × (suc n ≡ suc m + k))
    next (inl h) = inl (omega (arith, h))
    next (inr h) = inr (h.0, let e = h.1 in omega (arith, e))

module _ (g : FileScope) (w : IsWhole g) (ls : List ALocal) (s : Scope) (r o : ℕ) where
  -- where there are so many records and objects
  abbrev pub IsThere : Entity → Type 0
  IsThere e = IsFitFor g r e × IsAmong o e

  -- each name that is used, each literal, and each byte at which records are asked for
  abbrev pub Reaches : List Event → Type 0
  Reaches [] = Unit {0}
  Reaches (a_use at ∷ all) = ((x : List ℕ) (e : Entity) → named (whole g ls s) x at ≡ Some e → IsThere e) × Reaches all
  Reaches (a_look at ∷ all) = (ended g.ends at ≤ r) × Reaches all
  Reaches (a_literal at ∷ all) = ((k : ℕ) (object : AnObject) → slice_get g.objects k ≡ Some object → object.first ≡ at → k < o) × Reaches all
  Reaches (a_tag t ∷ all) = Reaches all
  Reaches (an_end tag right ∷ all) = Reaches all
  Reaches (a_name from ∷ all) = Reaches all

  reached_left : (a b : List Event) → Reaches (a ++ b) → Reaches a
  reached_left [] b h = tt
  reached_left (a_use at ∷ a) b h = (h.0, reached_left a b h.1)
  reached_left (a_look at ∷ a) b h = (h.0, reached_left a b h.1)
  reached_left (a_literal at ∷ a) b h = (h.0, reached_left a b h.1)
  reached_left (a_tag t ∷ a) b h = reached_left a b h
  reached_left (an_end tag right ∷ a) b h = reached_left a b h
  reached_left (a_name from ∷ a) b h = reached_left a b h

  reached_right : (a b : List Event) → Reaches (a ++ b) → Reaches b
  reached_right [] b h = h
  reached_right (a_use at ∷ a) b h = reached_right a b h.1
  reached_right (a_look at ∷ a) b h = reached_right a b h.1
  reached_right (a_literal at ∷ a) b h = reached_right a b h.1
  reached_right (a_tag t ∷ a) b h = reached_right a b h
  reached_right (an_end tag right ∷ a) b h = reached_right a b h
  reached_right (a_name from ∷ a) b h = reached_right a b h

  pub left_reached : (i : Bool) (p : Purpose) (a b : List Event) → Reaches (seen i p (a ++ b)) → Reaches (seen i p a)
  left_reached i p a b h = reached_left (seen i p a) (seen i p b) (subst Reaches (seen_append i p a b) h)

  pub right_reached : (i : Bool) (p : Purpose) (a b : List Event) → Reaches (seen i p (a ++ b)) → Reaches (seen i p b)
  right_reached i p a b h = reached_right (seen i p a) (seen i p b) (subst Reaches (seen_append i p a b) h)

  -- what the blocks declare is there, and what the file declares under its first names
  module _ (n : ℕ) (blocks : (x : List ℕ) (e : Entity) → innermost s.blocks x ≡ Some e → IsThere e)
      (names : (k : ℕ) (b : Bound) → slice_get g.names k ≡ Some b → k < n → IsAmong o b.entity) where
    name_there : (m q at : ℕ) → m ≤ n → q ≤ r → ((k : ℕ) (b : Bound) → slice_get g.names (m + k) ≡ Some b → at < b.from) → ended g.ends at ≡ q
        → (x : List ℕ) (e : Entity) → named (whole g ls s) x at ≡ Some e → IsThere e
    name_there m q at l j later asked x e h = by_block (innermost s.blocks x) refl h
      where
        by_number : (z : IsFound g.names at e) → (z.number < m) ⊎ ((k : ℕ) × (z.number ≡ m + k)) → z.number < n
        by_number z (inl less) = omega (arith, less, l)
        by_number z (inr k) =
            let before = z.before in
            let after = later k.0 z.name (subst (λ k. slice_get g.names k ≡ Some z.name) k.1 z.there) in
            absurd (omega (arith, before, after))

        of_file : visible g.names x at ≡ Some e → IsThere e
        of_file v =
            let z = found_in g.names x at e v in
            let fits = fit_stays g (ended g.ends at) r e (omega (arith, asked, j)) (w.names_fit x at e v) in
            (fits, subst (IsAmong o) z.same (names z.number z.name z.there (by_number z (below_or z.number m))))

        by_block : (b : Option Entity) → innermost s.blocks x ≡ b → or_else b (visible g.names x at) ≡ Some e → IsThere e
        by_block None i h = of_file h
        by_block (Some f) i h = blocks x e (i ∙ h)

    pub reaches : (m q p : ℕ) (all : List Event) → m + names_in all ≤ n → q + ends_in all ≤ r → p + literals_in all ≤ o → Follows g m q p all
        → Reaches all
    reaches m q p [] a b c h = tt
    reaches m q p (a_use at ∷ all) a b c h = (name_there m q at (omega (arith, a)) (omega (arith, b)) h.0.0 h.0.1, reaches m q p all a b c h.1)
    reaches m q p (a_look at ∷ all) a b c h = (let e = h.0 in omega (arith, b, e), reaches m q p all a b c h.1)
    reaches m q p (a_tag t ∷ all) a b c h = reaches m q p all a b c h.1
    reaches m q p (an_end tag right ∷ all) a b c h = reaches m (suc q) p all a (omega (arith, b)) c h.1
    reaches m q p (a_name from ∷ all) a b c h = reaches (suc m) q p all (omega (arith, a)) b c h.1
    reaches m q p (a_literal at ∷ all) a b c h = (
      λ k object e f.
          let same : k ≡ p = w.objects_apart k p object h.0.0 e h.0.1 (f ∙ sym h.0.2) in
          omega (arith, same, c),
      reaches m q (suc p) all a b (omega (arith, c)) h.1,
    )
