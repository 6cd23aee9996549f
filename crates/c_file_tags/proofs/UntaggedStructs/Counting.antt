-- Counts of places on lines.
use Rattle.std.proofs.Common.{◌≡◌, ◌≢◌, ℕ, ◌+◌, ◌≤◌, List, [], ◌∷◌, ◌++◌, Bool, true, false, cond, Option, Some, None, refl, sym, ap, ◌∙◌, subst, arith, ◌&&◌}
use Rattle.std.proofs.Common.{if◌then◌else◌, nat_eq, unwrap_or, inl, inr, ◌⊎◌}
use Rattle.std.proofs.lemmas.Bool.{eqb-true, eq-eqb}
use Rattle.std.specs.Global.{Vec}
use Rattle.std.specs.Map.{lookup}
use Rattle.std.specs.Str.{bytes_eq}
use Rattle.std.proofs.lemmas.Slice.Eq.{bytes_eq-Decides}
use Rattle.indexmap.specs.IndexMap.{insert_entry}
use Rattle.c_erasure.specs.Untagged.{Line, IsLineOf, AreOnLine}
use Rattle.c_file_tags.specs.UntaggedStructs.Untagged.{is_line, counted_at}

-- ---- equality of lines

pub same_line : (a b : Line) → is_line a b ≡ true → a ≡ b
same_line a b h = by (bytes_eq a.0 b.0) (nat_eq a.1 b.1) refl refl h
  where
    by : (x y : Bool) → bytes_eq a.0 b.0 ≡ x → nat_eq a.1 b.1 ≡ y → (x && y) ≡ true → a ≡ b
    by true true e f h =
        let s : a.0 ≡ b.0 = (bytes_eq-Decides a.0 b.0).0 e in
        let t : a.1 ≡ b.1 = eqb-true a.1 b.1 f in
        λ i. (s i, t i)
    by true false e f h = cc
    by false y e f h = cc

pub own_line : (a : Line) → is_line a a ≡ true
own_line a =
    let s : bytes_eq a.0 a.0 ≡ true = (bytes_eq-Decides a.0 a.0).1 refl in
    let t : nat_eq a.1 a.1 ≡ true = eq-eqb a.1 a.1 refl in
    rw (s, t) refl

-- ---- the table

abbrev pub line_of : Vec ℕ × ℕ → Line
line_of key = (key.0.items, key.1)

abbrev one_if : Bool → ℕ
one_if b = if b then 1 else 0

pub counted_more : (es : List ((Vec ℕ × ℕ) × ℕ)) (k : Vec ℕ × ℕ) (v : ℕ) (q : Line) → v ≡ counted_at es (line_of k) + 1
    → counted_at (insert_entry (λ a b. is_line (line_of a) (line_of b)) es k v) q ≡ counted_at es q + (if is_line q (line_of k) then 1 else 0)
counted_more [] k v q h = by (is_line q (line_of k))
  where
    by : (b : Bool) → unwrap_or (cond b (Some v) None) 0 ≡ 0 + one_if b
    by true = h
    by false = refl
counted_more (e ∷ es) k v q h = by (is_line (line_of k) (line_of e.0)) refl h (counted_more es k v q)
  where
    here : (b c : Bool) (rest : Option ℕ) → b ≡ c → v ≡ e.1 + 1 → unwrap_or (cond b (Some v) rest) 0 ≡ unwrap_or (cond b (Some e.1) rest) 0 + one_if c
    here true true rest s h = h
    here true false rest s h = cc
    here false true rest s h = cc
    here false false rest s h = omega arith

    there : (b c : Bool) (old new : Option ℕ) → (b ≡ true → c ≡ false) → unwrap_or new 0 ≡ unwrap_or old 0 + one_if c
        → unwrap_or (cond b (Some e.1) new) 0 ≡ unwrap_or (cond b (Some e.1) old) 0 + one_if c
    there true true old new n h = let f : true ≡ false = n refl in cc
    there true false old new n h = omega arith
    there false c old new n h = h

    by : (b : Bool) → is_line (line_of k) (line_of e.0) ≡ b
        → v ≡ unwrap_or (cond b (Some e.1) (lookup (λ key. is_line (line_of k) (line_of key)) es)) 0 + 1
        → (v ≡ counted_at es (line_of k) + 1
        → counted_at (insert_entry (λ a b. is_line (line_of a) (line_of b)) es k v) q ≡ counted_at es q + (if is_line q (line_of k) then 1 else 0))
        → counted_at (if b then (e.0, v) ∷ es else e ∷ insert_entry (λ a b. is_line (line_of a) (line_of b)) es k v) q
        ≡ counted_at (e ∷ es) q + (if is_line q (line_of k) then 1 else 0)
    by true s h rest =
        let l : line_of k ≡ line_of e.0 = same_line (line_of k) (line_of e.0) s in
        here (is_line q (line_of e.0)) (is_line q (line_of k)) (lookup (λ key. is_line q (line_of key)) es) (ap (is_line q) (sym l)) h
    by false s h rest =
        there (is_line q (line_of e.0)) (is_line q (line_of k)) (lookup (λ key. is_line q (line_of key)) es)
        (lookup (λ key. is_line q (line_of key)) (insert_entry (λ a b. is_line (line_of a) (line_of b)) es k v)) (apart q s) (rest h)
      where
        apart : (q : Line) → is_line (line_of k) (line_of e.0) ≡ false → is_line q (line_of e.0) ≡ true → is_line q (line_of k) ≡ false
        apart q s t = no (is_line q (line_of k)) refl
          where
            no : (b : Bool) → is_line q (line_of k) ≡ b → b ≡ false
            no false u = refl
            no true u =
                let x : q ≡ line_of e.0 = same_line q (line_of e.0) t in
                let y : q ≡ line_of k = same_line q (line_of k) u in
                let z : is_line (line_of k) (line_of e.0) ≡ true = subst (λ l. is_line l (line_of e.0) ≡ true) y t in
                cc

pub one_number : (old : List ((Vec ℕ × ℕ) × ℕ)) (items name : List ℕ) (line n known : ℕ) → items ≡ name
    → known ≡ counted_at old (items, line) → n ≡ known + 1 → n ≡ counted_at old (name, line) + 1
one_number old items name line n known e h m = m ∙ (ap (λ x. x + 1) h ∙ ap (λ x. counted_at old (x, line) + 1) e)

pub one_counted : (old new : List ((Vec ℕ × ℕ) × ℕ)) (key : Vec ℕ) (name : List ℕ) (line n known : ℕ) → key.items ≡ name
    → known ≡ counted_at old (key.items, line) → n ≡ known + 1 → new ≡ insert_entry (λ a b. is_line (line_of a) (line_of b)) old (key, line) n
    → (q : Line) → counted_at new q ≡ counted_at old q + (if is_line q (name, line) then 1 else 0)
one_counted old new key name line n known e h m i q =
    ap (λ es. counted_at es q) i ∙ (counted_more old (key, line) n q (m ∙ ap (λ x. x + 1) h)
    ∙ ap (λ x. counted_at old q + (if is_line q (x, line) then 1 else 0)) e)

-- a line has no more places than there are in all
pub few_more : (old new : Line → ℕ) (line : Line) (n : ℕ) → ((q : Line) → new q ≡ old q + (if is_line q line then 1 else 0))
    → ((q : Line) → old q ≤ n) → (q : Line) → new q ≤ n + 1
few_more old new line n more few q = by (is_line q line) (more q)
  where
    by : (b : Bool) → new q ≡ old q + one_if b → new q ≤ n + 1
    by true h = omega (arith, h, few q)
    by false h = omega (arith, h, few q)

-- ---- a place more

pub on_line_more : (name bytes : List ℕ) (places : List ℕ) (at : ℕ) (own line : Line) (k : ℕ) → AreOnLine name bytes places line k
    → IsLineOf name bytes at own → AreOnLine name bytes (places ++ at ∷ []) line (k + (if is_line line own then 1 else 0))
on_line_more name bytes [] at own line k h l = by (is_line line own) refl
  where
    by : (b : Bool) → is_line line own ≡ b → AreOnLine name bytes (at ∷ []) line (k + one_if b)
    by true e = (own, 0, l, refl, inl (sym (same_line line own e), omega (arith, h)))
    by false e =
        (own, 0, l, refl, inr ((λ f. let t : is_line line own ≡ true = subst (λ z. is_line line z ≡ true) (sym f) (own_line line) in cc), omega (arith, h)))
on_line_more name bytes (x ∷ places) at own line k h l =
    (h.0, h.1 + (if is_line line own then 1 else 0), h.2, on_line_more name bytes places at own line h.1 h.3 l, by h.4)
  where
    by : ((h.0 ≡ line) × (k ≡ h.1 + 1)) ⊎ ((h.0 ≢ line) × (k ≡ h.1))
        → ((h.0 ≡ line) × (k + one_if (is_line line own) ≡ h.1 + one_if (is_line line own) + 1))
        ⊎ ((h.0 ≢ line) × (k + one_if (is_line line own) ≡ h.1 + one_if (is_line line own)))
    by (inl p) = inl (p.0, omega (arith, p.1))
    by (inr p) = inr (p.0, omega (arith, p.1))
