-- Definitions of structures that end ahead of a byte.
use Rattle.std.proofs.Common.{◌≡◌, ℕ, zero, suc, ◌+◌, ◌-◌, ◌≤◌, ◌<◌, Bool, true, false, refl, sym, ap, ◌∙◌, subst, cond, List, [], ◌∷◌}
use Rattle.std.proofs.Common.{◌++◌, length, length-append, arith}
use Rattle.std.proofs.lemmas.Bool.Decides.{nat_tests}
use Rattle.std.proofs.lemmas.List.Elements.{recursion_from_All}
use Rattle.std.specs.List.{AllByRecursion}
use Rattle.std.specs.Prelude.{Some, slice_get, nat_lt}
use Rattle.c_ast.specs.Spelling.{Lexeme}
use Rattle.c_erasure.specs.Marks.{Mark, a_tag, an_end, a_name, ends_in}
use Rattle.c_erasure.specs.Scopes.{ended}
use Rattle.c_erasure.specs.MarkPlaces.Places.{AreOrdered, Along}
use Rattle.c_erasure.proofs.MarkPlaces.Ordered.{ends_between}
use Rattle.c_checking_laws.proofs.Extends.{kept, behind}
use Rattle.c_checking_laws.proofs.Agreement.{added}

ends_append : (u v : List Mark) → ends_in (u ++ v) ≡ ends_in u ++ ends_in v
ends_append [] v = refl
ends_append (a_tag t ∷ u) v = ends_append u v
ends_append (an_end tag right ∷ u) v = ap (λ z. right ∷ z) (ends_append u v)
ends_append (a_name from ∷ u) v = ends_append u v

pub added_both : (i : Bool) (u v : List Mark) → added i (u ++ v) ≡ added i u + added i v
added_both true u v = omega arith
added_both false u v = ap length (ends_append u v) ∙ length-append (ends_in u) (ends_in v)

less : (n m : ℕ) → m ≤ n → nat_lt n m ≡ false
less n m h = grind (arith, nat_tests)

none_before : (ends : List ℕ) (at : ℕ) → ((k end : ℕ) → slice_get ends k ≡ Some end → at ≤ end) → ended ends at ≡ 0
none_before [] at h = refl
none_before (end ∷ ends) at h =
    let z : ended ends at ≡ 0 = none_before ends at (λ k e g. h (suc k) e g) in
    let w : 0 + ended ends at ≡ 0 = omega (arith, z) in
    ap (λ b. cond b 1 0 + ended ends at) (less end at (h 0 end refl)) ∙ w

one_at_most : (b : Bool) → cond b 1 0 ≤ 1
one_at_most true = omega arith
one_at_most false = omega arith

-- so many at most end before a byte
pub few_before : (ends : List ℕ) (n at : ℕ) → ((k end : ℕ) → slice_get ends k ≡ Some end → n ≤ k → at ≤ end) → ended ends at ≤ n
few_before [] n at h = omega arith
few_before (end ∷ ends) zero at h = let z = none_before (end ∷ ends) at (λ k e g. h k e g (omega arith)) in omega (arith, z)
few_before (end ∷ ends) (suc n) at h =
    let l = few_before ends n at (λ k e g j. h (suc k) e g (omega (arith, j))) in
    let b = one_at_most (nat_lt end at) in omega (arith, l, b)

among_places : (P : ℕ → Type 0) (all : List ℕ) → AllByRecursion P all → (j x : ℕ) → slice_get all j ≡ Some x → P x
among_places P [] h j x e = cc
among_places P (y ∷ all) h zero x e = let w : y ≡ x = cc in subst P w h.0
among_places P (y ∷ all) h (suc j) x e = among_places P all h.1 j x e

module _ (ends : List ℕ) where
  -- the definitions from a number on end at the tokens that follow, or behind them
  abbrev pub Ahead : ℕ → List Lexeme → Type 0
  Ahead n tokens = (to : ℕ) → AreOrdered to tokens → (k end : ℕ) → slice_get ends k ≡ Some end → n ≤ k → to ≤ end

  -- those that end in a part have the numbers from that one on
  abbrev pub Standing : Bool → ℕ → List Mark → Type 0
  Standing i n u = i ≡ false → (j right : ℕ) → slice_get (ends_in u) j ≡ Some right → slice_get ends (n + j) ≡ Some right

  pub standing_left : (i : Bool) (n : ℕ) (u v : List Mark) → Standing i n (u ++ v) → Standing i n u
  standing_left i n u v h e j right g = h e j right (rw (ends_append u v) (kept (ends_in u) (ends_in v) j right g))

  pub standing_right : (i : Bool) (n : ℕ) (u v : List Mark) → Standing i n (u ++ v) → Standing i (n + added i u) v
  standing_right true n u v h e j right g = cc
  standing_right false n u v h e j right g =
      let m : ℕ = length (ends_in u) + j in
      let w : slice_get ends (n + m) ≡ Some right =
      h refl m right (rw (ends_append u v) (behind (ends_in u) (ends_in v) j m right refl g)) in
      let s : n + m ≡ n + length (ends_in u) + j = omega arith in
      subst (λ k. slice_get ends k ≡ Some right) s w

  -- so many at most ended before the first token
  pub known : (n at : ℕ) (tokens : List Lexeme) → Ahead n tokens → AreOrdered at tokens → ended ends at ≤ n
  known n at tokens h o = few_before ends n at (λ k end e l. h at o k end e l)

  -- at a token before
  pub earlier : (n : ℕ) {u : List Mark} {tokens rest : List Lexeme} → Along u tokens rest → Ahead n rest → Ahead n tokens
  earlier n a h to o k end e l =
      let b = ends_between to a o in
      let m = h b.to b.ordered k end e l in
      omega (arith, m, b.later)

  -- before a part
  pub back : (i : Bool) (n : ℕ) {u : List Mark} {tokens rest : List Lexeme} → Along u tokens rest → Standing i n u → Ahead (n + added i u) rest → Ahead n tokens
  back true n {u} a st h to o k end e l = earlier n a (λ to o k end e l. h to o k end e (omega (arith, l))) to o k end e l
  back false n {u} a st h to o k end e l =
      by_number (nat_lt k (n + length (ends_in u))) refl
    where
      inside : k < n + length (ends_in u) → to ≤ end
      inside m =
          let b = ends_between to a o in
          let j : ℕ = k - n in
          let p = place (ends_in u) j (omega (arith, m, l)) in
          let s : n + j ≡ k = omega (arith, l) in
          let g : slice_get ends k ≡ Some p.0 = subst (λ k. slice_get ends k ≡ Some p.0) s (st refl j p.0 p.1) in
          let w : p.0 ≡ end = same p.0 end (sym g ∙ e) in
          let q = among_places (λ place. (to ≤ place) × (place < b.to)) (ends_in u) (recursion_from_All _ (ends_in u) b.between) j p.0 p.1 in
          subst (λ end. to ≤ end) w q.0
        where
          same : (x y : ℕ) → Some x ≡ Some y → x ≡ y
          same x y e = cc

          place : (all : List ℕ) (j : ℕ) → j < length all → (x : ℕ) × (slice_get all j ≡ Some x)
          place [] j l = absurd (omega (arith, l))
          place (x ∷ all) zero l = (x, refl)
          place (x ∷ all) (suc j) l = place all j (omega (arith, l))

      by_number : (t : Bool) → nat_lt k (n + length (ends_in u)) ≡ t → to ≤ end
      by_number true f = inside (grind (arith, nat_tests, f))
      by_number false f =
          let m : n + length (ends_in u) ≤ k = grind (arith, nat_tests, f) in
          let b = ends_between to a o in
          let q = h b.to b.ordered k end e m in
          omega (arith, q, b.later)

  -- the same number, put together otherwise
  pub ahead_same : (n m : ℕ) (tokens : List Lexeme) → n ≡ m → Ahead n tokens → Ahead m tokens
  ahead_same n m tokens e h = subst (λ n. Ahead n tokens) e h

-- behind the last token of a file none ends
pub none_left : (ends : List ℕ) → Ahead ends (length ends) []
none_left ends to o k end e l = absurd (outside ends k end e l)
  where
    outside : (all : List ℕ) (k end : ℕ) → slice_get all k ≡ Some end → length all ≤ k → ⊥
    outside [] k end e l = cc
    outside (x ∷ all) zero end e l = absurd (omega (arith, l))
    outside (x ∷ all) (suc k) end e l = outside all k end e (omega (arith, l))
