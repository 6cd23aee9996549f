-- The first violation of a record among some is one of them, and none of the record's stands before it.
use Rattle.std.proofs.Common.{◌≡◌, Option, Some, None, ap, ℕ, ◌<◌, ◌≤◌, ◌⊎◌, inl, inr, Bool, true, false, ◌||◌, ◌&&◌, ◌==◌, nat_lt, List, [], ◌∷◌, refl, sym, ◌∙◌, subst, arith}
use Rattle.std.specs.Prelude.{if◌then◌else◌}
use Rattle.std.proofs.lemmas.Bool.{eqb-true, eqb-false, ltb-true, ltb-false}
use Rattle.c_typed.specs.RunCounts.Order.{is_less_or}
use Rattle.legality.specs.declared.violation.Violation.{Violation}
use Rattle.legality.specs.Breaches.{Breach, IsIn, breach}
use Rattle.legality.specs.Firsts.{former, row, stands_before}
use Rattle.legality.specs.Verdicts.{Judges}

-- the first of a record among some, where the best before them is known
abbrev pub first_among : (best : Option Violation) → (number : ℕ) → List Breach → Option Violation
first_among best number [] = best
first_among best number (b ∷ more) = first_among (if b.of == number then former best b.by else best) number more

-- ---- the order

-- not less, at one of the three numbers
abbrev NotLess : (a b : ℕ) → Bool → Type 0
NotLess a b later = (b < a) ⊎ ((a ≡ b) × (later ≡ false))

not_less : (a b : ℕ) (later : Bool) → is_less_or a b later ≡ false → NotLess a b later
not_less a b later h = go (nat_lt a b) (a == b) later refl refl h
  where
    go : (l e : Bool) (t : Bool) → nat_lt a b ≡ l → (a == b) ≡ e → (l || (e && t)) ≡ false → NotLess a b t
    go true e t p q h = absurd (let k : true ≡ false = h in cc)
    go false true t p q h = inr (eqb-true a b q, h)
    go false false t p q h = let k : b ≤ a = ltb-false a b p in inl (apart k (eqb-false a b q))
      where
        apart : b ≤ a → (a ≡ b → ⊥) → b < a
        apart k differ = split (nat_lt b a) refl
          where
            split : (l : Bool) → nat_lt b a ≡ l → b < a
            split true e = ltb-true b a e
            split false e = let m : a ≤ b = ltb-false b a e in absurd (differ (omega (arith, k, m)))

is_not : (a b : ℕ) (later : Bool) → NotLess a b later → is_less_or a b later ≡ false
is_not a b later h = go (nat_lt a b) (a == b) later refl refl h
  where
    go : (l e : Bool) (t : Bool) → nat_lt a b ≡ l → (a == b) ≡ e → NotLess a b t → (l || (e && t)) ≡ false
    go true e t p q (inl k) = let m : a < b = ltb-true a b p in absurd (omega (arith, k, m))
    go true e t p q (inr k) = let m : a < b = ltb-true a b p in let s = k.0 in absurd (omega (arith, s, m))
    go false true t p q (inl k) = let s : a ≡ b = eqb-true a b q in absurd (omega (arith, k, s))
    go false true t p q (inr k) = k.1
    go false false t p q k = refl

through : (x y z : ℕ) (l m n : Bool) → (l ≡ false → m ≡ false → n ≡ false) → NotLess y x l → NotLess z y m → NotLess z x n
through x y z l m n f (inl h) (inl k) = inl (omega (arith, h, k))
through x y z l m n f (inl h) (inr k) = let s = k.0 in inl (omega (arith, h, s))
through x y z l m n f (inr h) (inl k) = let s = h.0 in inl (omega (arith, s, k))
through x y z l m n f (inr h) (inr k) = inr (k.0 ∙ h.0, f h.1 k.1)

or_through : (x y z : ℕ) (l m n : Bool) → (l ≡ false → m ≡ false → n ≡ false) → is_less_or y x l ≡ false → is_less_or z y m ≡ false → is_less_or z x n ≡ false
or_through x y z l m n f h k = is_not z x n (through x y z l m n f (not_less y x l h) (not_less z y m k))

rows_through : (a b c : ℕ) → nat_lt b a ≡ false → nat_lt c b ≡ false → nat_lt c a ≡ false
rows_through a b c h k = go (nat_lt c a) refl
  where
    go : (l : Bool) → nat_lt c a ≡ l → l ≡ false
    go false e = refl
    go true e = let p : c < a = ltb-true c a e in let q : a ≤ b = ltb-false b a h in let r : b ≤ c = ltb-false c b k in absurd (omega (arith, p, q, r))

-- x at most y, y at most z
through_all : (x y z : Violation) → stands_before y x ≡ false → stands_before z y ≡ false → stands_before z x ≡ false
through_all x y z h k = or_through x.place.file y.place.file z.place.file _ _ _
    (or_through x.place.at y.place.at z.place.at _ _ _ (rows_through (row x.test) (row y.test) (row z.test))) h k

or_turned : (a b : ℕ) (t u : Bool) → (t ≡ true → u ≡ false) → is_less_or a b t ≡ true → is_less_or b a u ≡ false
or_turned a b t u f h = is_not b a u (go (nat_lt a b) (a == b) t refl refl f h)
  where
    go : (l e : Bool) (t : Bool) → nat_lt a b ≡ l → (a == b) ≡ e → (t ≡ true → u ≡ false) → (l || (e && t)) ≡ true → NotLess b a u
    go true e t p q f h = inl (ltb-true a b p)
    go false true t p q f h = inr (sym (eqb-true a b q), f h)
    go false false t p q f h = absurd (let k : false ≡ true = h in cc)

rows_turned : (a b : ℕ) → nat_lt a b ≡ true → nat_lt b a ≡ false
rows_turned a b h = go (nat_lt b a) refl
  where
    go : (l : Bool) → nat_lt b a ≡ l → l ≡ false
    go false e = refl
    go true e = let p : b < a = ltb-true b a e in let q : a < b = ltb-true a b h in absurd (omega (arith, p, q))

turned : (x y : Violation) → stands_before x y ≡ true → stands_before y x ≡ false
turned x y h = or_turned x.place.file y.place.file _ _ (or_turned x.place.at y.place.at _ _ (rows_turned (row x.test) (row y.test))) h

not_itself : (x : Violation) → stands_before x x ≡ false
not_itself x = go (stands_before x x) refl
  where
    go : (l : Bool) → stands_before x x ≡ l → l ≡ false
    go false e = refl
    go true e = sym e ∙ turned x x e

-- ---- from one that is known on

-- a violation of this record in a longer list is the head's or one of the others
abbrev Splits : (number : ℕ) (b : Breach) (more : List Breach) → Violation → Type 0
Splits number b more v = ((b.of ≡ number) × (v ≡ b.by)) ⊎ IsIn (breach number v) more

split_in : (number : ℕ) (b : Breach) (more : List Breach) (v : Violation) → IsIn (breach number v) (b ∷ more) → Splits number b more v
split_in number b more v (inl s) = inl (sym (ap (λ d. d.of) s), ap (λ d. d.by) s)
split_in number b more v (inr s) = inr s

head_in : (number : ℕ) (b : Breach) (more : List Breach) → b.of ≡ number → IsIn (breach number b.by) (b ∷ more)
head_in number b more e = inl (ap (λ n. breach n b.by) (sym e))

record After (x : Violation) (number : ℕ) (all : List Breach) (v : Violation) : Type 0 where
  is : (v ≡ x) ⊎ IsIn (breach number v) all
  old : stands_before x v ≡ false
  new : (w : Violation) → IsIn (breach number w) all → stands_before w v ≡ false

abbrev Found : (x : Violation) (number : ℕ) (all : List Breach) → Option Violation → Type 0
Found x number all r = (v : Violation) × (r ≡ Some v) × After x number all v

found : (x : Violation) (number : ℕ) (all : List Breach) → Found x number all (first_among (Some x) number all)
found x number [] = (x, refl, record { is = inl refl; old = not_itself x; new = λ w h. absurd h })
found x number (b ∷ more) = go (b.of == number) refl (stands_before b.by x) refl (found x number more) (found b.by number more)
  where
    go : (e : Bool) → (b.of == number) ≡ e → (l : Bool) → stands_before b.by x ≡ l → Found x number more (first_among (Some x) number more)
        → Found b.by number more (first_among (Some b.by) number more)
        → Found x number (b ∷ more) (first_among (if e then (if l then Some b.by else Some x) else Some x) number more)
    go false e l p f g = (
      f.0,
      f.1,
      record {
        is = elim f.2.is [ inl s ↦ inl s | inr s ↦ inr (inr s) ];
        old = f.2.old;
        new = λ w h. elim (split_in number b more w h) [ inl s ↦ absurd (eqb-false b.of number e s.0) | inr s ↦ f.2.new w s ];
      },
    )
    go true e false p f g = (
      f.0,
      f.1,
      record {
        is = elim f.2.is [ inl s ↦ inl s | inr s ↦ inr (inr s) ];
        old = f.2.old;
        new = λ w h. elim (split_in number b more w h) [ inl s ↦ subst (λ d. stands_before d f.0 ≡ false) (sym s.1) (through_all f.0 x b.by f.2.old p) | inr s ↦ f.2.new w s ];
      },
    )
    go true e true p f g = (
      g.0,
      g.1,
      record {
        is = elim g.2.is [ inl s ↦ inr (subst (λ d. IsIn (breach number d) (b ∷ more)) (sym s) (head_in number b more (eqb-true b.of number e))) | inr s ↦ inr (inr s) ];
        old = through_all g.0 b.by x g.2.old (turned b.by x p);
        new = λ w h. elim (split_in number b more w h) [ inl s ↦ subst (λ d. stands_before d g.0 ≡ false) (sym s.1) g.2.old | inr s ↦ g.2.new w s ];
      },
    )

pub judges : (number : ℕ) (all : List Breach) → Judges all number (first_among None number all)
judges number [] = λ v h. absurd h
judges number (b ∷ more) = go (b.of == number) refl (judges number more) (found b.by number more)
  where
    wider : (r : Option Violation) → (b.of ≡ number → ⊥) → Judges more number r → Judges (b ∷ more) number r
    wider None differ h = λ v i. elim (split_in number b more v i) [ inl s ↦ differ s.0 | inr s ↦ h v s ]
    wider (Some r) differ h = record {
      is = inr h.is;
      first = λ w i. elim (split_in number b more w i) [ inl s ↦ absurd (differ s.0) | inr s ↦ h.first w s ];
    }

    go : (e : Bool) → (b.of == number) ≡ e → Judges more number (first_among None number more) → Found b.by number more (first_among (Some b.by) number more)
        → Judges (b ∷ more) number (first_among (if e then Some b.by else None) number more)
    go false e h f = wider (first_among None number more) (eqb-false b.of number e) h
    go true e h f = subst (Judges (b ∷ more) number) (sym f.1) (record {
      is = elim f.2.is [ inl s ↦ subst (λ d. IsIn (breach number d) (b ∷ more)) (sym s) (head_in number b more (eqb-true b.of number e)) | inr s ↦ inr s ];
      first = λ w i. elim (split_in number b more w i) [ inl s ↦ subst (λ d. stands_before d f.0 ≡ false) (sym s.1) f.2.old | inr s ↦ f.2.new w s ];
    })
