-- Names of a file, declared and declared again (C99 6.7, 6.9).
use Rattle.std.proofs.Common.{◌≡◌, ◌≢◌, ℕ, zero, suc, Bool, true, false, refl, sym, ap, ◌∙◌, subst, cond, List, [], ◌∷◌, ◌++◌, inl, inr}
use Rattle.std.proofs.lemmas.List.Elements.{All-head, All-tail}
use Rattle.std.proofs.lemmas.Slice.Eq.{bytes_eq-Decides}
use Rattle.std.specs.Prelude.{◌⊎◌, All, Option, Some, None, slice_get}
use Rattle.std.specs.Str.{bytes_eq}
use Rattle.c_erasure.specs.Files.{AreConsistent, MayStandTogether, MayBeDeclaredAgain}
use Rattle.c_erasure.specs.Scopes.{Bound, defines}
use Rattle.c_erasure.specs.Checking.Declaring.{declared_among}
use Rattle.c_erasure.specs.Checking.Files.{defined_among}
use Rattle.c_checking_laws.proofs.NodesOfParts.{same_bytes}
use Rattle.c_checking_laws.proofs.WholeFiles.Kept.{one_more_consistent, undeclared}

pub all_at : {X : Type 0} (P : X → Type 0) (xs : List X) → All P xs → (k : ℕ) (x : X) → slice_get xs k ≡ Some x → P x
all_at P [] h k x e = cc
all_at P (y ∷ xs) h zero x e = let same : y ≡ x = cc in subst P same (All-head P y xs h)
all_at P (y ∷ xs) h (suc k) x e = all_at P xs (All-tail P y xs h) k x e

pub names_equal : (x y : List ℕ) → x ≡ y → bytes_eq x y ≡ true
names_equal x y e = (bytes_eq-Decides x y).1 e

-- the first declaration of a name
pub declared_is : (names : List Bound) (x : List ℕ) (a : Bound) → declared_among names x ≡ Some a → (k : ℕ) × (slice_get names k ≡ Some a) × (a.name ≡ x)
declared_is [] x a h = cc
declared_is (b ∷ names) x a h = by_test (bytes_eq b.name x) refl (λ h. declared_is names x a h) h
  where
    by_test : (t : Bool) → bytes_eq b.name x ≡ t → (declared_among names x ≡ Some a → (k : ℕ) × (slice_get names k ≡ Some a) × (a.name ≡ x)) → cond t (Some b) (declared_among names x) ≡ Some a
        → (k : ℕ) × (slice_get (b ∷ names) k ≡ Some a) × (a.name ≡ x)
    by_test true e later h = let same : b ≡ a = cc in (0, ap Some same, subst (λ (a : Bound). a.name ≡ x) same (same_bytes b.name x e))
    by_test false e later h = let r = later h in (suc r.0, r.1, r.2)

-- whatever is declared under a name is what its first declaration declares
pub first_declares : (names : List Bound) (x : List ℕ) (a : Bound) → AreConsistent names → declared_among names x ≡ Some a → (k : ℕ) (c : Bound)
    → slice_get names k ≡ Some c → c.name ≡ x → c.entity ≡ a.entity
first_declares [] x a h d k c e n = cc
first_declares (b ∷ names) x a h d k c e n = by_test (bytes_eq b.name x) refl (λ d k e. first_declares names x a h.1 d k c e n) d k e
  where
    by_test : (t : Bool) → bytes_eq b.name x ≡ t
        → (declared_among names x ≡ Some a → (k : ℕ) → slice_get names k ≡ Some c → c.entity ≡ a.entity) → cond t (Some b) (declared_among names x) ≡ Some a → (k : ℕ) → slice_get (b ∷ names) k ≡ Some c
        → c.entity ≡ a.entity
    by_test true t later d zero e = let same : b ≡ a = cc in let here : b ≡ c = cc in ap (λ (b : Bound). b.entity) (sym here ∙ same)
    by_test true t later d (suc k) e =
        let same : b ≡ a = cc in
        let m = all_at (λ (c : Bound). c.name ≡ b.name → MayStandTogether b c) names h.0 k c e (n ∙ sym (same_bytes b.name x t)) in
        sym m.same ∙ ap (λ (b : Bound). b.entity) same
    by_test false t later d zero e =
        let here : b ≡ c = cc in
        let f = names_equal b.name x (ap (λ (b : Bound). b.name) here ∙ n) in
        let false_is_true = sym t ∙ f in
        cc
    by_test false t later d (suc k) e = later d k e

rest_none : {X : Type 0} (t : Bool) (b : X) (r : Option X) → cond t (Some b) r ≡ None → r ≡ None
rest_none true b r h = cc
rest_none false b r h = h

-- no declaration of the name defines
pub none_defines : (names : List Bound) (x : List ℕ) → defined_among names x ≡ None → (k : ℕ) (c : Bound) → slice_get names k ≡ Some c → c.name ≡ x
    → c.how ≢ defines
none_defines [] x h k c e n d = cc
none_defines (b ∷ names) x h zero c e n d =
    let here : b ≡ c = cc in
    let is_name : bytes_eq b.name x ≡ true = names_equal b.name x (ap (λ (b : Bound). b.name) here ∙ n) in
    let is_how : b.how ≡ defines = ap (λ (b : Bound). b.how) here ∙ d in
    let g : defined_among (b ∷ names) x ≡ Some b = rw (is_name, is_how) refl in
    let some_is_none : Some b ≡ None = sym g ∙ h in
    cc
none_defines (b ∷ names) x h (suc k) c e n d = none_defines names x (rest_none _ b (defined_among names x) h) k c e n d

-- how a name may be bound: for the first time, or again to what it stands for, which is defined once
pub record MayBindAgain (names : List Bound) (b : Bound) : Type 0 where
  pub first : Bound
  pub declared : declared_among names b.name ≡ Some first
  pub same : first.entity ≡ b.entity
  pub again : MayBeDeclaredAgain b.entity
  pub once : b.how ≡ defines → defined_among names b.name ≡ None

abbrev pub MayBind : List Bound → Bound → Type 0
MayBind names b = (declared_among names b.name ≡ None) ⊎ MayBindAgain names b

pub bind_consistent : (names : List Bound) (b : Bound) → MayBind names b → AreConsistent names → AreConsistent (names ++ b ∷ [])
bind_consistent names b (inl n) h = one_more_consistent names b (λ k c e same. absurd (undeclared names b.name n k c e same)) h
bind_consistent names b (inr m) h =
    one_more_consistent names b
    (λ k c e same.
    let one = first_declares names b.name m.first h m.declared k c e same ∙ m.same in
    record {
      same = one;
      declared_again = subst MayBeDeclaredAgain (sym one) m.again;
      defined_once = λ both. none_defines names b.name (m.once both.1) k c e same both.0;
    }) h
