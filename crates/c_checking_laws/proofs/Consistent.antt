-- Names of a file: an enumerator whose name is new leaves them consistent.
use Rattle.std.proofs.Common.{◌≡◌, ◌≢◌, ℕ, zero, suc, Bool, true, false, refl, sym, ap, ◌∙◌, cond, List, [], ◌∷◌, ◌++◌}
use Rattle.std.proofs.lemmas.List.Elements.{All-cons, All-nil, All-head, All-tail}
use Rattle.std.proofs.lemmas.Slice.Eq.{bytes_eq-Decides}
use Rattle.std.specs.Prelude.{All, Option, Some, None, Ok, slice_get}
use Rattle.std.specs.Str.{bytes_eq}
use Rattle.c_erasure.specs.Files.{MayStandTogether, AreConsistent}
use Rattle.c_erasure.specs.Scopes.{Bound, FileScope, enumerator}
use Rattle.c_erasure.specs.Checking.Declaring.{with_bound, declared_among, new_name, enumerator_in}
use Rattle.c_checking_laws.proofs.Results.{given}

abbrev pub IsAnEnumerator : Bound → Type 0
IsAnEnumerator b = (v : ℕ) × (b.entity ≡ enumerator v)

all_more : {X : Type 0} (P : X → Type 0) (xs : List X) (y : X) → All P xs → P y → All P (xs ++ y ∷ [])
all_more P [] y h p = All-cons P y [] p (All-nil P)
all_more P (x ∷ xs) y h p = All-cons P x (xs ++ y ∷ []) (All-head P x xs h) (all_more P xs y (All-tail P x xs h) p)

-- one more name, which may stand with each of those before that are spelled as it is
pub one_more_consistent : (names : List Bound) (b : Bound) → ((k : ℕ) (c : Bound) → slice_get names k ≡ Some c → c.name ≡ b.name → MayStandTogether c b)
    → AreConsistent names → AreConsistent (names ++ b ∷ [])
one_more_consistent [] b h c = (All-nil _, tt)
one_more_consistent (a ∷ names) b h c = (
  all_more (λ (c : Bound). c.name ≡ a.name → MayStandTogether a c) names b c.0 (λ e. h 0 a refl (sym e)),
  one_more_consistent names b (λ k d e. h (suc k) d e) c.1,
)

pub undeclared : (names : List Bound) (x : List ℕ) → declared_among names x ≡ None → (k : ℕ) (c : Bound) → slice_get names k ≡ Some c → c.name ≢ x
undeclared [] x h k c e = cc
undeclared (b ∷ names) x h k c e = by_test (bytes_eq b.name x) refl (λ h k c e. undeclared names x h k c e) h k e
  where
    by_test : (t : Bool) → bytes_eq b.name x ≡ t
        → (declared_among names x ≡ None → (k : ℕ) (c : Bound) → slice_get names k ≡ Some c → c.name ≢ x)
        → cond t (Some b) (declared_among names x) ≡ None → (k : ℕ) → slice_get (b ∷ names) k ≡ Some c → c.name ≢ x
    by_test true t later h k e = cc
    by_test false t later h zero e =
        let same : b ≡ c = cc in
        λ f. let g = (bytes_eq-Decides b.name x).1 (ap (λ (b : Bound). b.name) same ∙ f) in cc
    by_test false t later h (suc k) e = later h k c e

pub record IsNamed (f : FileScope) (b : Bound) (g : FileScope) : Type 0 where
  pub file_is : with_bound f b ≡ g
  pub is_new : declared_among f.names b.name ≡ None

pub enumerator_adds : (f : FileScope) (b : Bound) (g : FileScope) → enumerator_in f b ≡ Ok g → IsNamed f b g
unfolding enumerator_in
enumerator_adds f b g h = by_name (declared_among f.names b.name) refl h
  where
    by_name : (o : Option Bound) → declared_among f.names b.name ≡ o → new_name f b o ≡ Ok g → IsNamed f b g
    by_name None e h = given (IsNamed f b) (with_bound f b) g h (record { file_is = refl; is_new = e })
    by_name (Some old) e h = cc

pub enumerator_consistent : (f : FileScope) (b : Bound) (g : FileScope) → enumerator_in f b ≡ Ok g → AreConsistent f.names → AreConsistent (f.names ++ b ∷ [])
enumerator_consistent f b g h =
    one_more_consistent f.names b (λ k c e same. absurd (undeclared f.names b.name (enumerator_adds f b g h).is_new k c e same))
