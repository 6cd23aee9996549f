-- Tables, and the words that name their places.
use Rattle.std.proofs.Common.{◌≡◌, ◌≢◌, ℕ, zero, suc, ◌+◌, ◌*◌, ◌-◌, ◌<◌, ◌≤◌, List, [], ◌∷◌, ◌++◌, length, take, replicate, Option, refl, sym, ap, ◌∙◌, arith}
use Rattle.std.proofs.Common.{inl, inr, ⊎_elim, get_or-set_other, get_or-set_same}
use Rattle.std.specs.Prelude.{◌⊎◌, Some, None}
use Rattle.std.specs.List.{sum_by}
use Rattle.std.proofs.Math.ListN.{set}
use Rattle.std.proofs.lemmas.Bool.{cases_eq, cases_lt}
use Rattle.std.proofs.lemmas.List.{get_or_append_left, get_or-append_right, get_or_past, get_or_push, get_or-replicate, get_or-take, length-append}
use Rattle.std.proofs.lemmas.List.{length-replicate, length-set, length-take-le, length_push}
use Rattle.std.proofs.lemmas.List.Sums.{sum_by-set, sum_by-append, sum_by-cons}
use Rattle.std.proofs.lemmas.List.Folds.{sum_by-replicate}
use Rattle.memory_words.specs.declared.cell_words.word.Word.{Word}
use Rattle.memory_words.specs.CellWords.Words.{IsTable, empty_word, one_if_some, owner_at, word_at}

-- ---- words that are set

pub set_same : (words : List Word) (i : ℕ) (new : Word) → i < length words → word_at (set words i new) i ≡ new
set_same words i new lt = get_or-set_same words i new empty_word lt

pub set_other : (words : List Word) (i j : ℕ) (new : Word) → j ≢ i → word_at (set words i new) j ≡ word_at words j
set_other words i j new ne = get_or-set_other words i j new empty_word ne

-- where one word has no place, another that has one is not it
pub no_place : (place : Word → Option ℕ) (words : List Word) (i k e : ℕ) → place (word_at words i) ≡ None → place (word_at words k) ≡ Some e → k ≢ i
no_place place words i k e none some same =
    let wrong : None ≡ Some e = sym none ∙ ap (λ k. place (word_at words k)) (sym same) ∙ some in cc

pub other_place : (place : Word → Option ℕ) (words : List Word) (i k d e : ℕ) → place (word_at words i) ≡ Some d → place (word_at words k) ≡ Some e → e ≢ d → k ≢ i
other_place place words i k d e one other ne same =
    let wrong : Some d ≡ Some e = sym one ∙ ap (λ k. place (word_at words k)) (sym same) ∙ other in ne (cc)

is_none : {A : Type 0} (o : Option ℕ) (e : ℕ) → o ≡ None → o ≡ Some e → A
is_none o e none some = let wrong : None ≡ Some e = sym none ∙ some in cc

same_place : (o : Option ℕ) (d e : ℕ) → o ≡ Some d → o ≡ Some e → e ≡ d
same_place o d e one other = let same : Some d ≡ Some e = sym one ∙ other in cc

-- ---- a word without a place in place of another

pub off_set : (place : Word → Option ℕ) (words : List Word) (owners : List ℕ) (i : ℕ) (new : Word) → IsTable place words owners → i < length words
    → place (word_at words i) ≡ None → place new ≡ None → IsTable place (set words i new) owners
off_set place words owners i new table known none off = record {
  count = let counted = sum_by-set (λ w. one_if_some (place w)) words i new empty_word known in
      let before : one_if_some (place (word_at words i)) ≡ 0 = ap one_if_some none in
      let after : one_if_some (place new) ≡ 0 = ap one_if_some off in omega (arith, counted, before, after, table.count);
  named = λ e lt. let at = table.named e lt in
      let ne = no_place place words i (owner_at owners e) e none at.1 in
      (omega (arith, at.0, length-set words i new), ap place (set_other words i (owner_at owners e) new ne) ∙ at.1);
  owned = λ j e is. ⊎_elim
      (λ here. is_none (place new) e off (sym (ap (λ j. place (word_at (set words i new) j)) here ∙ ap place (set_same words i new known)) ∙ is))
      (λ ne. table.owned j e (sym (ap place (set_other words i j new ne)) ∙ is)) (cases_eq j i);
}

-- ---- how many places there are

sum_at_most : (f : Word → ℕ) (words : List Word) → ((w : Word) → f w ≤ 1) → sum_by f words ≤ length words
sum_at_most f [] one = omega arith
sum_at_most f (w ∷ words) one = let more = sum_at_most f words one in let here = one w in omega (arith, more, here, sum_by-cons f w words)

sum_below : (f : Word → ℕ) (words : List Word) (i : ℕ) → ((w : Word) → f w ≤ 1) → i < length words → f (word_at words i) ≡ 0 → sum_by f words < length words
sum_below f [] i one lt none = absurd (omega arith)
sum_below f (w ∷ words) zero one lt none = let more = sum_at_most f words one in omega (arith, more, none, sum_by-cons f w words)
sum_below f (w ∷ words) (suc i) one lt none = let more = sum_below f words i one (omega arith) none in let here = one w in omega (arith, more, here, sum_by-cons f w words)

one_at_most : (o : Option ℕ) → one_if_some o ≤ 1
one_at_most None = omega arith
one_at_most (Some e) = omega arith

pub room_for : (place : Word → Option ℕ) (words : List Word) (owners : List ℕ) (i : ℕ) → IsTable place words owners → i < length words
    → place (word_at words i) ≡ None → length owners < length words
room_for place words owners i table known none =
    let few = sum_below (λ w. one_if_some (place w)) words i (λ w. one_at_most (place w)) known (ap one_if_some none) in omega (arith, few, table.count)

pub owners_within : (place : Word → Option ℕ) (words : List Word) (owners : List ℕ) → IsTable place words owners → length owners ≤ length words
owners_within place words owners table =
    let few = sum_at_most (λ w. one_if_some (place w)) words (λ w. one_at_most (place w)) in omega (arith, few, table.count)

-- ---- a new place

pub pushed : (place : Word → Option ℕ) (words : List Word) (owners : List ℕ) (i : ℕ) (new : Word) → IsTable place words owners → i < length words
    → place (word_at words i) ≡ None → place new ≡ Some (length owners) → IsTable place (set words i new) (owners ++ i ∷ [])
pushed place words owners i new table known none is = record {
  count = let counted = sum_by-set (λ w. one_if_some (place w)) words i new empty_word known in
      let before : one_if_some (place (word_at words i)) ≡ 0 = ap one_if_some none in
      let after : one_if_some (place new) ≡ 1 = ap one_if_some is in omega (arith, counted, before, after, table.count, length_push owners i);
  named = λ e lt. named e (cases_eq e (length owners)) lt;
  owned = λ j e there. owned j e (cases_eq j i) there;
} where
  named : (e : ℕ) → (e ≡ length owners) ⊎ (e ≡ length owners → ⊥) → e < length (owners ++ i ∷ [])
      → (owner_at (owners ++ i ∷ []) e < length (set words i new)) × (place (word_at (set words i new) (owner_at (owners ++ i ∷ []) e)) ≡ Some e)
  named e (inl last) lt =
      let o : owner_at (owners ++ i ∷ []) e ≡ i = get_or_push owners i 0 e (sym last) in
      (omega (arith, o, length-set words i new), ap (λ k. place (word_at (set words i new) k)) o ∙ ap place (set_same words i new known) ∙ is ∙ ap Some (sym last))
  named e (inr ne) lt =
      let before : e < length owners = omega (arith, length_push owners i) in
      let o : owner_at (owners ++ i ∷ []) e ≡ owner_at owners e = get_or_append_left owners (i ∷ []) 0 e before in
      let at = table.named e before in (
        omega (arith, o, at.0, length-set words i new),
        ap (λ k. place (word_at (set words i new) k)) o ∙ ap place (set_other words i (owner_at owners e) new (no_place place words i (owner_at owners e) e none at.1)) ∙ at.1,
      )

  owned : (j e : ℕ) → (j ≡ i) ⊎ (j ≡ i → ⊥) → place (word_at (set words i new) j) ≡ Some e
      → (e < length (owners ++ i ∷ [])) × (owner_at (owners ++ i ∷ []) e ≡ j)
  owned j e (inl here) there =
      let last : e ≡ length owners = same_place (place new) (length owners) e is (sym (ap (λ j. place (word_at (set words i new) j)) here ∙ ap place (set_same words i new known)) ∙ there) in
      (omega (arith, last, length_push owners i), get_or_push owners i 0 e (sym last) ∙ sym here)
  owned j e (inr ne) there =
      let was = table.owned j e (sym (ap place (set_other words i j new ne)) ∙ there) in
      (omega (arith, was.0, length_push owners i), get_or_append_left owners (i ∷ []) 0 e was.0 ∙ was.1)

-- ---- a place is given up, and the last one moves into it

-- word o, which owned the last place, has place e, which word i had
pub record Left (place : Word → Option ℕ) (words : List Word) (owners : List ℕ) (i e o last : ℕ) : Type 0 where
  pub at : e ≤ last
  pub most : last + 1 ≡ length owners
  pub word : o < length words
  pub had : place (word_at words o) ≡ Some last
  pub below : o ≢ i → e < last
  pub apart : e < last → o ≢ i
  pub rest : (j d : ℕ) → j ≢ i → j ≢ o → place (word_at words j) ≡ Some d → (d < last) × (d ≢ e)

pub left : (place : Word → Option ℕ) (words : List Word) (owners : List ℕ) (i e o last : ℕ) → IsTable place words owners
    → place (word_at words i) ≡ Some e → last ≡ length owners - 1 → o ≡ owner_at owners last → Left place words owners i e o last
left place words owners i e o last table is el eo =
    let mine = table.owned i e is in
    let most : last + 1 ≡ length owners = omega (arith, mine.0, el) in
    let at = table.named last (omega (arith, most)) in
    record {
      at = omega (arith, mine.0, most);
      most = most;
      word = omega (arith, eo, at.0);
      had = ap (λ o. place (word_at words o)) eo ∙ at.1;
      below = λ ne. ⊎_elim (λ lt. lt) (λ past. let here : e ≡ last = omega (arith, mine.0, most) in absurd (ne (eo ∙ sym (ap (owner_at owners) here) ∙ mine.1))) (cases_lt e last);
      apart = λ lt same. let one = same_place (place (word_at words o)) last e (ap (λ o. place (word_at words o)) eo ∙ at.1) (ap (λ o. place (word_at words o)) same ∙ is) in omega (arith, one, lt);
      rest = λ j d ni no there. let his = table.owned j d there in (
        ⊎_elim (λ lt. lt) (λ past. let here : d ≡ last = omega (arith, his.0, most) in absurd (no (sym his.1 ∙ ap (owner_at owners) here ∙ sym eo))) (cases_lt d last),
        λ same. ni (sym his.1 ∙ ap (owner_at owners) same ∙ mine.1),
      );
    }

one_word : (place : Word → Option ℕ) (words : List Word) (i o : ℕ) (new : Word) (e : ℕ) → o < length words → place new ≡ Some e → place (word_at words i) ≡ Some e
    → one_if_some (place (word_at (set words o new) i)) ≡ 1
one_word place words i o new e known is was = ⊎_elim
    (λ here. ap one_if_some (ap (λ i. place (word_at (set words o new) i)) here ∙ ap place (set_same words o new known) ∙ is))
    (λ ne. ap one_if_some (ap place (set_other words o i new ne) ∙ was)) (cases_eq i o)

pub removed : (place : Word → Option ℕ) (words : List Word) (owners : List ℕ) (i e o last : ℕ) (new : Word) → IsTable place words owners → i < length words
    → place (word_at words i) ≡ Some e → Left place words owners i e o last → place new ≡ Some e → place empty_word ≡ None
    → IsTable place (set (set words o new) i empty_word) (take last (set owners e o))
removed place words owners i e o last new table known was gap is off = record {
  count = let f : Word → ℕ = λ w. one_if_some (place w) in
      let first = sum_by-set f words o new empty_word gap.word in
      let second = sum_by-set f (set words o new) i empty_word empty_word within in
      let had : f (word_at words o) ≡ 1 = ap one_if_some gap.had in
      let has : f new ≡ 1 = ap one_if_some is in
      let one : f (word_at (set words o new) i) ≡ 1 = one_word place words i o new e gap.word is was in
      let none : f empty_word ≡ 0 = ap one_if_some off in
      omega (arith, first, second, had, has, one, none, table.count, gap.most, shorter);
  named = λ d lt. named d (cases_eq d e) (omega (arith, shorter));
  owned = λ j d there. owned j d (cases_eq j i) (cases_eq j o) there;
} where
  within : i < length (set words o new)
  within = omega (arith, length-set words o new)

  long : length (set (set words o new) i empty_word) ≡ length words
  long = length-set (set words o new) i empty_word ∙ length-set words o new

  shorter : length (take last (set owners e o)) ≡ last
  shorter = length-take-le last (set owners e o) (omega (arith, gap.most, length-set owners e o))

  other : (k : ℕ) → k ≢ i → word_at (set (set words o new) i empty_word) k ≡ word_at (set words o new) k
  other k ne = set_other (set words o new) i k empty_word ne

  at_e : e < last → owner_at (take last (set owners e o)) e ≡ o
  at_e lt = get_or-take last (set owners e o) e 0 lt ∙ get_or-set_same owners e o 0 (omega (arith, gap.most))

  not_e : (d : ℕ) → d ≢ e → d < last → owner_at (take last (set owners e o)) d ≡ owner_at owners d
  not_e d ne lt = get_or-take last (set owners e o) d 0 lt ∙ get_or-set_other owners e d o 0 ne

  named : (d : ℕ) → (d ≡ e) ⊎ (d ≡ e → ⊥) → d < last
      → (owner_at (take last (set owners e o)) d < length (set (set words o new) i empty_word)) × (place (word_at (set (set words o new) i empty_word) (owner_at (take last (set owners e o)) d)) ≡ Some d)
  named d (inl same) lt =
      let at : owner_at (take last (set owners e o)) d ≡ o = ap (owner_at (take last (set owners e o))) same ∙ at_e (omega arith) in (
        omega (arith, at, long, gap.word),
        ap (λ k. place (word_at (set (set words o new) i empty_word) k)) at ∙ ap place (other o (gap.apart (omega arith)) ∙ set_same words o new gap.word) ∙ is ∙ ap Some (sym same),
      )
  named d (inr ne) lt =
      let at = not_e d ne lt in
      let his = table.named d (omega (arith, gap.most)) in
      let ni = other_place place words i (owner_at owners d) e d was his.1 ne in
      let no = other_place place words o (owner_at owners d) last d gap.had his.1 (λ same. omega arith) in (
        omega (arith, at, long, his.0),
        ap (λ k. place (word_at (set (set words o new) i empty_word) k)) at ∙ ap place (other (owner_at owners d) ni ∙ set_other words o (owner_at owners d) new no) ∙ his.1,
      )

  owned : (j d : ℕ) → (j ≡ i) ⊎ (j ≡ i → ⊥) → (j ≡ o) ⊎ (j ≡ o → ⊥) → place (word_at (set (set words o new) i empty_word) j) ≡ Some d
      → (d < length (take last (set owners e o))) × (owner_at (take last (set owners e o)) d ≡ j)
  owned j d (inl here) which there =
      is_none (place empty_word) d off (sym (ap (λ j. place (word_at (set (set words o new) i empty_word) j)) here ∙ ap place (set_same (set words o new) i empty_word within)) ∙ there)
  owned j d (inr ni) (inl here) there =
      let same : d ≡ e = same_place (place new) e d is (sym (ap place (other j ni) ∙ ap (λ j. place (word_at (set words o new) j)) here ∙ ap place (set_same words o new gap.word)) ∙ there) in
      let lt : e < last = gap.below (λ back. ni (here ∙ back)) in
      (omega (arith, same, lt, shorter), ap (owner_at (take last (set owners e o))) same ∙ at_e lt ∙ sym here)
  owned j d (inr ni) (inr apart_o) there =
      let kept : place (word_at words j) ≡ Some d = sym (ap place (other j ni ∙ set_other words o j new apart_o)) ∙ there in
      let apart = gap.rest j d ni apart_o kept in
      (omega (arith, apart.0, shorter), not_e d apart.1 apart.0 ∙ (table.owned j d kept).1)

-- ---- a word moves

pub moved : (place : Word → Option ℕ) (words : List Word) (owners : List ℕ) (from to e : ℕ) (w : Word) → IsTable place words owners → from < length words → to < length words
    → w ≡ word_at words from → place w ≡ Some e → place (word_at words to) ≡ None → place empty_word ≡ None
    → IsTable place (set (set words to w) from empty_word) (set owners e to)
moved place words owners from to e w table source target ew is free off = record {
  count = let f : Word → ℕ = λ w. one_if_some (place w) in
      let first = sum_by-set f words to w empty_word target in
      let second = sum_by-set f (set words to w) from empty_word empty_word within in
      let before : f (word_at words to) ≡ 0 = ap one_if_some free in
      let has : f w ≡ 1 = ap one_if_some is in
      let one : f (word_at (set words to w) from) ≡ 1 = ap one_if_some (ap place (set_other words to from w apart) ∙ was) in
      let none : f empty_word ≡ 0 = ap one_if_some off in
      omega (arith, first, second, before, has, one, none, table.count, length-set owners e to);
  named = λ d lt. named d (cases_eq d e) (omega (arith, length-set owners e to));
  owned = λ j d there. owned j d (cases_eq j from) (cases_eq j to) there;
} where
  was : place (word_at words from) ≡ Some e
  was = ap place (sym ew) ∙ is

  mine : (e < length owners) × (owner_at owners e ≡ from)
  mine = table.owned from e was

  apart : from ≢ to
  apart = no_place place words to from e free was

  within : from < length (set words to w)
  within = omega (arith, length-set words to w)

  long : length (set (set words to w) from empty_word) ≡ length words
  long = length-set (set words to w) from empty_word ∙ length-set words to w

  other : (k : ℕ) → k ≢ from → word_at (set (set words to w) from empty_word) k ≡ word_at (set words to w) k
  other k ne = set_other (set words to w) from k empty_word ne

  named : (d : ℕ) → (d ≡ e) ⊎ (d ≡ e → ⊥) → d < length owners
      → (owner_at (set owners e to) d < length (set (set words to w) from empty_word)) × (place (word_at (set (set words to w) from empty_word) (owner_at (set owners e to) d)) ≡ Some d)
  named d (inl same) lt =
      let at : owner_at (set owners e to) d ≡ to = ap (owner_at (set owners e to)) same ∙ get_or-set_same owners e to 0 mine.0 in (
        omega (arith, at, long),
        ap (λ k. place (word_at (set (set words to w) from empty_word) k)) at ∙ ap place (other to (λ same. apart (sym same)) ∙ set_same words to w target) ∙ is ∙ ap Some (sym same),
      )
  named d (inr ne) lt =
      let at : owner_at (set owners e to) d ≡ owner_at owners d = get_or-set_other owners e d to 0 ne in
      let his = table.named d lt in
      let nf = other_place place words from (owner_at owners d) e d was his.1 ne in
      let nt = no_place place words to (owner_at owners d) d free his.1 in (
        omega (arith, at, long, his.0),
        ap (λ k. place (word_at (set (set words to w) from empty_word) k)) at ∙ ap place (other (owner_at owners d) nf ∙ set_other words to (owner_at owners d) w nt) ∙ his.1,
      )

  owned : (j d : ℕ) → (j ≡ from) ⊎ (j ≡ from → ⊥) → (j ≡ to) ⊎ (j ≡ to → ⊥) → place (word_at (set (set words to w) from empty_word) j) ≡ Some d
      → (d < length (set owners e to)) × (owner_at (set owners e to) d ≡ j)
  owned j d (inl here) which there =
      is_none (place empty_word) d off (sym (ap (λ j. place (word_at (set (set words to w) from empty_word) j)) here ∙ ap place (set_same (set words to w) from empty_word within)) ∙ there)
  owned j d (inr nf) (inl here) there =
      let same : d ≡ e = same_place (place w) e d is (sym (ap place (other j nf) ∙ ap (λ j. place (word_at (set words to w) j)) here ∙ ap place (set_same words to w target)) ∙ there) in
      (omega (arith, same, mine.0, length-set owners e to), ap (owner_at (set owners e to)) same ∙ get_or-set_same owners e to 0 mine.0 ∙ sym here)
  owned j d (inr nf) (inr nt) there =
      let his = table.owned j d (sym (ap place (other j nf ∙ set_other words to j w nt)) ∙ there) in
      (omega (arith, his.0, length-set owners e to), get_or-set_other owners e d to 0 (λ same. nf (sym his.1 ∙ ap (owner_at owners) same ∙ mine.1)) ∙ his.1)

-- ---- more words that hold nothing

word_new : (n i : ℕ) → word_at (replicate n empty_word) i ≡ empty_word
word_new n i = ⊎_elim (λ lt. get_or-replicate n i empty_word empty_word lt)
    (λ past. get_or_past (replicate n empty_word) i empty_word (omega (arith, length-replicate n empty_word))) (cases_lt i n)

pub grown : (place : Word → Option ℕ) (words : List Word) (owners : List ℕ) (n : ℕ) → IsTable place words owners → place empty_word ≡ None
    → IsTable place (words ++ replicate n empty_word) owners
grown place words owners n table off = record {
  count = let f : Word → ℕ = λ w. one_if_some (place w) in
      let none : n * f empty_word ≡ 0 = ap (λ m. n * m) (ap one_if_some off) ∙ omega arith in
      let added : sum_by f (replicate n empty_word) ≡ 0 = sum_by-replicate f n empty_word ∙ none in
      omega (arith, sum_by-append f words (replicate n empty_word), added, table.count);
  named = λ e lt. let at = table.named e lt in
      (omega (arith, at.0, length-append words (replicate n empty_word)), ap place (get_or_append_left words (replicate n empty_word) empty_word (owner_at owners e) at.0) ∙ at.1);
  owned = λ j e there. ⊎_elim (λ lt. table.owned j e (sym (ap place (get_or_append_left words (replicate n empty_word) empty_word j lt)) ∙ there))
      (λ past. is_none (place empty_word) e off (sym (ap place (get_or-append_right words (replicate n empty_word) (length words) j empty_word refl past ∙ word_new n (j - length words))) ∙ there))
      (cases_lt j (length words));
}
