-- Literals whose bytes initialize an array: no object begins at one of them where literals begin at different bytes, at which no object began
-- before (C99 6.4.5, 6.7.8).
use Rattle.std.proofs.Common.{◌≡◌, ◌≢◌, ℕ, suc, Bool, true, false, refl, subst, List, [], ◌∷◌, ◌++◌, inl, inr}
use Rattle.std.proofs.lemmas.List.Elements.{All-cons, All-nil}
use Rattle.std.specs.Prelude.{All, Some, slice_get, ◌⊎◌}
use Rattle.c_erasure.specs.BrokenStatements.{IsAmong}
use Rattle.c_erasure.specs.Marks.{Mark}
use Rattle.c_erasure.specs.Scopes.{AnObject, FileScope, Scope}
use Rattle.c_checking_laws.proofs.Adding.{unless, Grows}
use Rattle.c_checking_laws.proofs.FaultResults.{Reaches, Broken}
use Rattle.c_checking_laws.proofs.Within.{Additions, Within, within_all, ArePicked, picked_same, picked_behind}
pub use Rattle.c_checking_laws.proofs.Within.{among_left, among_right, among_split}
use Rattle.c_checking_laws.proofs.WholeFiles.Parts.{Parted, none, is_made, is_bytes, NoneBegins}

-- ---- what is reached

-- where more is allowed
pub reaches_more : {May Can : FileScope → Type 0} {f g : FileScope} {i : Bool} → ((g : FileScope) → May g → Can g) → Reaches May f i g → Reaches Can f i g
reaches_more {May} {Can} {f} {g} into p = record { extends = p.extends; counted = p.counted; settled = p.settled; allowed = by_part p.allowed }
  where
    by_part : (g ≡ f) ⊎ May g → (g ≡ f) ⊎ Can g
    by_part (inl e) = inl e
    by_part (inr h) = inr (into g h)

pub broken_more : {May Can : FileScope → Type 0} (s : Scope) (Is Js : Scope → Type 0) → ((g : FileScope) → May g → Can g) → ((s : Scope) → Is s → Js s)
    → Broken May s Is → Broken Can s Js
broken_more s Is Js into h b = record { file = b.file; reaches = reaches_more into b.reaches; is = h _ b.is }

-- where the new objects of a file begin
pub record BeginAt (f : FileScope) (k : List ℕ) (g : FileScope) : Type 0 where
  pub begins : (n : ℕ) (o : AnObject) → slice_get g.objects n ≡ Some o → (slice_get f.objects n ≡ Some o) ⊎ IsAmong k o.first

pub begin_at : {f g : FileScope} {a b c : Bool} {p : Additions} → Within f a b c p g → BeginAt f p.made g
begin_at {f} {g} {a} {b} {c} {p} w = record { begins = λ n o h. by_part c n o (w.begins n o h) }
  where
    by_part : (c : Bool) (n : ℕ) (o : AnObject) → (slice_get f.objects n ≡ Some o) ⊎ IsAmong (unless c p.made) o.first
        → (slice_get f.objects n ≡ Some o) ⊎ IsAmong p.made o.first
    by_part c n o (inl h) = inl h
    by_part true n o (inr h) = absurd h
    by_part false n o (inr h) = inr h

-- ---- different bytes

abbrev pub AreApart : List ℕ → Type 0
AreApart [] = Unit {0}
AreApart (x ∷ more) = (IsAmong more x → ⊥) × AreApart more

apart_left : (u v : List ℕ) → AreApart (u ++ v) → AreApart u
apart_left [] v h = tt
apart_left (x ∷ u) v h = (λ i. h.0 (among_left u v x i), apart_left u v h.1)

apart_right : (u v : List ℕ) → AreApart (u ++ v) → AreApart v
apart_right [] v h = h
apart_right (x ∷ u) v h = apart_right u v h.1

apart_both : (u v : List ℕ) → AreApart (u ++ v) → (x : ℕ) → IsAmong u x → IsAmong v x → ⊥
apart_both [] v h x i j = absurd i
apart_both (y ∷ u) v h x (inl e) j = h.0 (among_right u v y (subst (IsAmong v) e j))
apart_both (y ∷ u) v h x (inr i) j = apart_both u v h.1 x i j

-- ---- places at which no object of a file begins

abbrev pub NoneAt : FileScope → List ℕ → Type 0
NoneAt f k = (n : ℕ) (o : AnObject) → slice_get f.objects n ≡ Some o → IsAmong k o.first → ⊥

all_from : {X : Type 0} (P : X → Type 0) (xs : List X) → ((n : ℕ) (x : X) → slice_get xs n ≡ Some x → P x) → All P xs
all_from P [] h = All-nil P
all_from P (x ∷ xs) h = All-cons P x xs (h 0 x refl) (all_from P xs (λ n y e. h (suc n) y e))

none_begins : (f : FileScope) (k : List ℕ) → NoneAt f k → NoneBegins f k
none_begins f [] h = tt
none_begins f (at ∷ k) h = (
  all_from (λ (o : AnObject). o.first ≢ at) f.objects (λ n o e i. h n o e (inl i)),
  none_begins f k (λ n o e i. h n o e (inr i)),
)

-- literals of a part that is not read yet
pub record AreFresh (f : FileScope) (k : List ℕ) : Type 0 where
  pub apart : AreApart k
  pub none_at : NoneAt f k

pub fresh_left : {f : FileScope} (u v : List ℕ) → AreFresh f (u ++ v) → AreFresh f u
fresh_left u v h = record { apart = apart_left u v h.apart; none_at = λ n o e i. h.none_at n o e (among_left u v o.first i) }

-- of what stands behind a part that is read
pub fresh_right : {f g : FileScope} (u v : List ℕ) → AreFresh f (u ++ v) → BeginAt f u g → AreFresh g v
fresh_right {f} {g} u v h p = record { apart = apart_right u v h.apart; none_at = λ n o e i. by_part n o i (p.begins n o e) }
  where
    by_part : (n : ℕ) (o : AnObject) → IsAmong v o.first → (slice_get f.objects n ≡ Some o) ⊎ IsAmong u o.first → ⊥
    by_part n o i (inl e) = h.none_at n o e (among_right u v o.first i)
    by_part n o i (inr j) = apart_both u v h.apart o.first j i

-- ---- those that are made objects, and those that are not

pub made_among : {k made texts : List ℕ} → Parted k made texts → (x : ℕ) → IsAmong made x → IsAmong k x
made_among none x h = absurd h
made_among (is_made at all made texts p) x (inl h) = inl h
made_among (is_made at all made texts p) x (inr h) = inr (made_among p x h)
made_among (is_bytes at all made texts p) x h = inr (made_among p x h)

pub texts_among : {k made texts : List ℕ} → Parted k made texts → (x : ℕ) → IsAmong texts x → IsAmong k x
texts_among none x h = absurd h
texts_among (is_made at all made texts p) x h = inr (texts_among p x h)
texts_among (is_bytes at all made texts p) x (inl h) = inl h
texts_among (is_bytes at all made texts p) x (inr h) = inr (texts_among p x h)

not_both : {k made texts : List ℕ} → Parted k made texts → AreApart k → (x : ℕ) → IsAmong made x → IsAmong texts x → ⊥
not_both none a x i j = absurd i
not_both (is_made at all made texts p) a x (inl e) j = a.0 (texts_among p at (subst (IsAmong texts) e j))
not_both (is_made at all made texts p) a x (inr i) j = not_both p a.1 x i j
not_both (is_bytes at all made texts p) a x i (inl e) = a.0 (made_among p at (subst (IsAmong made) e i))
not_both (is_bytes at all made texts p) a x i (inr j) = not_both p a.1 x i j

pub picked_made : {k made texts : List ℕ} → Parted k made texts → ArePicked made k
picked_made none = tt
picked_made (is_made at all made texts p) = inl (refl, picked_made p)
picked_made (is_bytes at all made texts p) = picked_behind made at all (picked_made p)

-- a part that is read makes objects of these literals alone
pub begun_there : (s : Scope) {u : List Mark} {x made : List ℕ} {g : FileScope} → Grows s u x made g → BeginAt s.file made g
begun_there s {made = made} p = begin_at (within_all made p (picked_same made))

-- no object begins at the bytes of a part, wherever reading goes on to
pub clear : {f m g : FileScope} {k made texts : List ℕ} (l : List ℕ) → Parted k made texts → AreFresh f (k ++ l)
    → BeginAt f made m → BeginAt m l g → NoneBegins g texts
clear {f} {m} {g} {k} {made} {texts} l p h q r = none_begins g texts (λ n o e t. at_last n o t (r.begins n o e))
  where
    at_first : (n : ℕ) (o : AnObject) → IsAmong texts o.first → (slice_get f.objects n ≡ Some o) ⊎ IsAmong made o.first → ⊥
    at_first n o t (inl e) = h.none_at n o e (among_left k l o.first (texts_among p o.first t))
    at_first n o t (inr e) = not_both p (apart_left k l h.apart) o.first e t

    at_last : (n : ℕ) (o : AnObject) → IsAmong texts o.first → (slice_get m.objects n ≡ Some o) ⊎ IsAmong l o.first → ⊥
    at_last n o t (inl e) = at_first n o t (q.begins n o e)
    at_last n o t (inr e) = apart_both k l h.apart o.first (texts_among p o.first t) e

-- and where it stops there
pub clear_there : {f m : FileScope} {k made texts : List ℕ} → Parted k made texts → AreFresh f k → BeginAt f made m
    → NoneBegins m texts
clear_there {f} {m} {k} {made} {texts} p h q = none_begins m texts (λ n o e t. by_part n o t (q.begins n o e))
  where
    by_part : (n : ℕ) (o : AnObject) → IsAmong texts o.first → (slice_get f.objects n ≡ Some o) ⊎ IsAmong made o.first → ⊥
    by_part n o t (inl e) = h.none_at n o e (texts_among p o.first t)
    by_part n o t (inr e) = not_both p h.apart o.first e t
