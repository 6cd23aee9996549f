-- The tags of structures without one, place by place.
use Rattle.std.proofs.Common.{◌≡◌, ℕ, zero, suc, ◌+◌, ◌<◌, ◌≤◌, List, [], ◌∷◌, ◌++◌, length, map, filter, get_or, take, drop, Bool, true, false, cond}
use Rattle.std.proofs.Common.{Some, None, refl, sym, ap, ◌∙◌, subst, arith, if◌then◌else◌, nat_eq, nat_le, unwrap_or, add-one}
use Rattle.std.proofs.lemmas.List.{take_more}
use Rattle.std.specs.List.{AllByRecursion}
use Rattle.std.specs.Map.{lookup}
use Rattle.std.proofs.lemmas.Bool.{eq-eqb, ne_eqb, le-leb, lt-leb}
use Rattle.std.proofs.lemmas.List.Elements.{All-from_recursion, recursion_from_All}
use Rattle.indexmap.specs.IndexMap.{insert_entry}
use Rattle.c_erasure.specs.Untagged.{Line, name_in, IsLineOf, AreOnLine, AreTags, tag_text}
use Rattle.c_tokens.specs.declared.presumed.Presumed.{Presumed}
use Rattle.c_tokens.specs.Presuming.{IsPresumed}
use Rattle.c_erasure.specs.Files.{AreAscending}
use Rattle.c_scopes.specs.SyntaxTags.Untagged.{untagged_by}
use Rattle.c_file_tags.specs.UntaggedStructs.Untagged.{is_line}
use Rattle.c_scopes.proofs.SyntaxTags.Inserting.{inserted_last}
use Rattle.c_file_tags.proofs.UntaggedStructs.Counting.{own_line, on_line_more}

abbrev IsTagged : List ℕ → List ℕ → List ℕ → List (ℕ × List ℕ) → ℕ → Type 0
IsTagged name bytes places tags at = (line : Line) × (k : ℕ) × IsLineOf name bytes at line
    × AreOnLine name bytes (filter (λ other. nat_le other at) places) line k × (lookup (nat_eq at) tags ≡ Some (tag_text line k))

abbrev Begins : ℕ × List ℕ → Type 0
Begins e = (rest : List ℕ) × (e.1 ≡ 64 ∷ rest)

-- the tags of the places so far, with how many of them are on each line
pub record AreTagged (name bytes places : List ℕ) (count : Line → ℕ) (tags : List (ℕ × List ℕ)) : Type 0 where
  pub on_line : (q : Line) → AreOnLine name bytes places q (count q)
  pub tagged : AllByRecursion (IsTagged name bytes places tags) places
  pub keys : map (λ e. e.0) tags ≡ places
  pub begin : AllByRecursion Begins tags

pub none_tagged : (name bytes : List ℕ) (count : Line → ℕ) → ((q : Line) → count q ≡ 0) → AreTagged name bytes [] count []
none_tagged name bytes count h = record { on_line = h; tagged = tt; keys = refl; begin = tt }

-- ---- lists of places

push : {A : Type 0} (P : A → Type 0) (xs : List A) (x : A) → AllByRecursion P xs → P x → AllByRecursion P (xs ++ x ∷ [])
push P [] x h p = (p, tt)
push P (y ∷ xs) x h p = (h.0, push P xs x h.1 p)

weaker : (P Q R : ℕ → Type 0) → ((x : ℕ) → P x → Q x → R x) → (xs : List ℕ) → AllByRecursion P xs → AllByRecursion Q xs → AllByRecursion R xs
weaker P Q R f [] h k = tt
weaker P Q R f (x ∷ xs) h k = (f x h.0 k.0, weaker P Q R f xs h.1 k.1)

filter_old : (places : List ℕ) (p at : ℕ) → p < at → filter (λ other. nat_le other p) (places ++ at ∷ []) ≡ filter (λ other. nat_le other p) places
filter_old [] p at h = let f : nat_le at p ≡ false = lt-leb at p h in rw f refl
filter_old (x ∷ places) p at h = by (nat_le x p) (filter_old places p at h)
  where
    by : (b : Bool) → filter (λ other. nat_le other p) (places ++ at ∷ []) ≡ filter (λ other. nat_le other p) places
        → cond b (x ∷ filter (λ other. nat_le other p) (places ++ at ∷ [])) (filter (λ other. nat_le other p) (places ++ at ∷ []))
        ≡ cond b (x ∷ filter (λ other. nat_le other p) places) (filter (λ other. nat_le other p) places)
    by true h = ap (λ more. x ∷ more) h
    by false h = h

filter_new : (places : List ℕ) (at : ℕ) → AllByRecursion (λ p. p < at) places → filter (λ other. nat_le other at) (places ++ at ∷ []) ≡ places ++ at ∷ []
filter_new [] at h = let f : nat_le at at ≡ true = le-leb at at (omega arith) in rw f refl
filter_new (x ∷ places) at h =
    let l : x < at = h.0 in
    let f : nat_le x at ≡ true = le-leb x at (omega arith) in
    rw f (ap (λ more. x ∷ more) (filter_new places at h.1))

missing : (tags : List (ℕ × List ℕ)) (at : ℕ) → AllByRecursion (λ p. p < at) (map (λ e. e.0) tags) → lookup (nat_eq at) tags ≡ None
missing [] at h = refl
missing (e ∷ tags) at h =
    let l : e.0 < at = h.0 in
    let f : nat_eq at e.0 ≡ false = ne_eqb at e.0 (λ s. omega arith) in
    rw f (missing tags at h.1)

lookup_old : (tags : List (ℕ × List ℕ)) (at p : ℕ) (text own : List ℕ) → lookup (nat_eq p) tags ≡ Some text
    → lookup (nat_eq p) (tags ++ (at, own) ∷ []) ≡ Some text
lookup_old [] at p text own h = cc
lookup_old (e ∷ tags) at p text own h = by (nat_eq p e.0) h (lookup_old tags at p text own)
  where
    by : (b : Bool) → cond b (Some e.1) (lookup (nat_eq p) tags) ≡ Some text
        → (lookup (nat_eq p) tags ≡ Some text → lookup (nat_eq p) (tags ++ (at, own) ∷ []) ≡ Some text)
        → cond b (Some e.1) (lookup (nat_eq p) (tags ++ (at, own) ∷ [])) ≡ Some text
    by true h rest = h
    by false h rest = rest h

lookup_new : (tags : List (ℕ × List ℕ)) (at : ℕ) (own : List ℕ) → lookup (nat_eq at) tags ≡ None
    → lookup (nat_eq at) (tags ++ (at, own) ∷ []) ≡ Some own
lookup_new [] at own h = let f : nat_eq at at ≡ true = eq-eqb at at refl in rw f refl
lookup_new (e ∷ tags) at own h = by (nat_eq at e.0) h (lookup_new tags at own)
  where
    by : (b : Bool) → cond b (Some e.1) (lookup (nat_eq at) tags) ≡ None
        → (lookup (nat_eq at) tags ≡ None → lookup (nat_eq at) (tags ++ (at, own) ∷ []) ≡ Some own)
        → cond b (Some e.1) (lookup (nat_eq at) (tags ++ (at, own) ∷ [])) ≡ Some own
    by true h rest = cc
    by false h rest = rest h

keys_more : (tags : List (ℕ × List ℕ)) (at : ℕ) (own : List ℕ) → map (λ e. e.0) (tags ++ (at, own) ∷ []) ≡ map (λ e. e.0) tags ++ at ∷ []
keys_more [] at own = refl
keys_more (e ∷ tags) at own = ap (λ more. e.0 ∷ more) (keys_more tags at own)

-- ---- a place more

pub one_tagged : (name bytes places : List ℕ) (old new : Line → ℕ) (tags more : List (ℕ × List ℕ)) (at k : ℕ) (line : Line)
    → AreTagged name bytes places old tags → AllByRecursion (λ p. p < at) places → IsLineOf name bytes at line
    → ((q : Line) → new q ≡ old q + (if is_line q line then 1 else 0)) → k ≡ old line + 1
    → more ≡ insert_entry nat_eq tags at (tag_text line k) → AreTagged name bytes (places ++ at ∷ []) new more
one_tagged name bytes places old new tags more at k line t before l n e i =
    let absent : lookup (nat_eq at) tags ≡ None = missing tags at (subst (AllByRecursion (λ p. p < at)) (sym t.keys) before) in
    let last : more ≡ tags ++ (at, tag_text line k) ∷ [] = i ∙ inserted_last nat_eq tags at (tag_text line k) absent in
    let own : AreOnLine name bytes (places ++ at ∷ []) line k =
    subst (AreOnLine name bytes (places ++ at ∷ []) line) (ap (λ b. old line + (if b then 1 else 0)) (own_line line) ∙ sym e)
    (on_line_more name bytes places at line line (old line) (t.on_line line) l) in
    subst (AreTagged name bytes (places ++ at ∷ []) new) (sym last) (record {
      on_line = λ q.
          subst (AreOnLine name bytes (places ++ at ∷ []) q) (sym (n q)) (on_line_more name bytes places at line q (old q) (t.on_line q) l);
      tagged = push (IsTagged name bytes (places ++ at ∷ []) (tags ++ (at, tag_text line k) ∷ [])) places at
          (weaker (IsTagged name bytes places tags) (λ p. p < at) (IsTagged name bytes (places ++ at ∷ []) (tags ++ (at, tag_text line k) ∷ []))
          (λ p s b. (
            s.0,
            s.1,
            s.2,
            subst (λ all. AreOnLine name bytes all s.0 s.1) (sym (filter_old places p at b)) s.3,
            lookup_old tags at p (tag_text s.0 s.1) (tag_text line k) s.4,
          )) places t.tagged before)
          (line, k, l, subst (λ all. AreOnLine name bytes all line k) (sym (filter_new places at before)) own, lookup_new tags at (tag_text line k) absent);
      keys = keys_more tags at (tag_text line k) ∙ ap (λ all. all ++ at ∷ []) t.keys;
      begin = push Begins tags (at, tag_text line k) t.begin (_, refl);
    })

-- ---- places that ascend

before : (places : List ℕ) → AreAscending places → (i : ℕ) → i < length places → AllByRecursion (λ p. p < get_or places i 0) (take i places)
before [] a i h = absurd (omega arith)
before (x ∷ places) a zero h = tt
before (x ∷ places) a (suc i) h = (a.0 i 0 (omega arith), before places a.1 i (omega arith))

later_from : (places : List ℕ) → AreAscending places → (i : ℕ) → i < length places → AllByRecursion (λ p. get_or places i 0 ≤ p) (drop (suc i) places)
later_from [] a i h = absurd (omega arith)
later_from (x ∷ places) a zero h = recursion_from_All (λ p. x ≤ p) places (λ k d l. let lt : x < get_or places k d = a.0 k d l in omega arith)
later_from (x ∷ places) a (suc i) h = later_from places a.1 i (omega arith)

pub later : (places : List ℕ) → AreAscending places → (i : ℕ) → i < length places → AllByRecursion (λ p. get_or places i 0 ≤ p) (drop (i + 1) places)
later places a i h = rw add-one (later_from places a i h)

pub all_taken : (places : List ℕ) (n : ℕ) → length places ≤ n → take n places ≡ places
all_taken [] zero h = refl
all_taken [] (suc n) h = refl
all_taken (x ∷ places) zero h = absurd (omega arith)
all_taken (x ∷ places) (suc n) h = ap (λ more. x ∷ more) (all_taken places n (omega arith))

pub next_tagged : (name bytes places : List ℕ) (i : ℕ) (old new : Line → ℕ) (tags more : List (ℕ × List ℕ)) (p : Presumed) (shown : List ℕ) (k : ℕ)
    → AreAscending places → i < length places → AreTagged name bytes (take i places) old tags → IsPresumed (take (get_or places i 0) bytes) p
    → shown ≡ name_in name bytes p → ((q : Line) → new q ≡ old q + (if is_line q (shown, p.line) then 1 else 0)) → k ≡ old (shown, p.line) + 1
    → more ≡ insert_entry nat_eq tags (get_or places i 0) (tag_text (shown, p.line) k) → AreTagged name bytes (take (i + 1) places) new more
next_tagged name bytes places i old new tags more p shown k a h t is s n e m =
    subst (λ all. AreTagged name bytes all new more) (sym (take_more places i 0 h))
    (one_tagged name bytes (take i places) old new tags more (get_or places i 0) k (shown, p.line) t (before places a i h)
    (p, is, ap (λ x. (x, p.line)) s) n e m)

-- ---- all of them

found : (tags : List (ℕ × List ℕ)) (at : ℕ) (text : List ℕ) → lookup (nat_eq at) tags ≡ Some text → untagged_by tags at ≡ text
found tags at text h = ap (λ o. unwrap_or o (64 ∷ [])) h

as_tags : (name bytes places : List ℕ) (tags : List (ℕ × List ℕ)) (some : List ℕ) → AllByRecursion (IsTagged name bytes places tags) some
    → AllByRecursion (λ at. (line : Line) × (k : ℕ) × IsLineOf name bytes at line
    × AreOnLine name bytes (filter (λ other. nat_le other at) places) line k × (untagged_by tags at ≡ tag_text line k)) some
as_tags name bytes places tags [] h = tt
as_tags name bytes places tags (at ∷ some) h =
    ((h.0.0, h.0.1, h.0.2, h.0.3, found tags at (tag_text h.0.0 h.0.1) h.0.4), as_tags name bytes places tags some h.1)

pub all_tagged : (name bytes places : List ℕ) (count : Line → ℕ) (tags : List (ℕ × List ℕ)) → AreTagged name bytes places count tags
    → AreTags name bytes places (untagged_by tags)
all_tagged name bytes places count tags t =
    All-from_recursion (λ at. (line : Line) × (k : ℕ) × IsLineOf name bytes at line
    × AreOnLine name bytes (filter (λ other. nat_le other at) places) line k × (untagged_by tags at ≡ tag_text line k)) places
    (as_tags name bytes places tags places t.tagged)

pub all_begin : (tags : List (ℕ × List ℕ)) → AllByRecursion Begins tags → (at : ℕ) → (rest : List ℕ) × (untagged_by tags at ≡ 64 ∷ rest)
all_begin [] h at = ([], refl)
all_begin (e ∷ tags) h at = by (nat_eq at e.0) (all_begin tags h.1 at)
  where
    by : (b : Bool) → (rest : List ℕ) × (untagged_by tags at ≡ 64 ∷ rest)
        → (rest : List ℕ) × (unwrap_or (cond b (Some e.1) (lookup (nat_eq at) tags)) (64 ∷ []) ≡ 64 ∷ rest)
    by true r = h.0
    by false r = r
