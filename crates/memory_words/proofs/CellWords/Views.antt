-- The cells of words that a step leaves.
use Rattle.std.proofs.Common.{◌≡◌, ◌≢◌, ℕ, zero, suc, ◌<◌, List, [], ◌∷◌, ◌++◌, length, map, take, get_or, replicate, Option, refl, sym, ap, ◌∙◌, arith, inl}
use Rattle.std.proofs.Common.{inr, get_or-set_other, get_or-set_same}
use Rattle.std.specs.Prelude.{◌⊎◌, Some, None}
use Rattle.std.proofs.Math.ListN.{set, get_or-map}
use Rattle.std.proofs.lemmas.Bool.{cases_eq}
use Rattle.std.proofs.lemmas.List.{ext_get_or, get_or_append_left, get_or_push, get_or-take, length-map, length-set, map-append}
use Rattle.memory_words.specs.declared.cell_words.word.Four.{Four}
use Rattle.memory_words.specs.declared.cell_words.word.Word.{Word}
use Rattle.memory_words.specs.CellWords.Words.{IsTable, empty_word, four_at, nothing, owner_at, word_at}
use Rattle.memory_words.proofs.CellWords.Tables.{Left, set_other, set_same}

-- how words name places, and how their cells are read: the values of other tables are no matter
pub record IsKind (place : Word → Option ℕ) (make : ℕ → Word) (read : List Four → Word → Four) : Type 0 where
  pub made : (e : ℕ) → place (make e) ≡ Some e
  pub off : place empty_word ≡ None
  pub hit : (t : List Four) (w : Word) (e : ℕ) → place w ≡ Some e → read t w ≡ four_at t e
  pub miss : (t u : List Four) (w : Word) → place w ≡ None → read u w ≡ read t w
  pub empty : (t : List Four) → read t empty_word ≡ nothing

same_read_at : (place : Word → Option ℕ) (make : ℕ → Word) (read : List Four → Word → Four) → IsKind place make read → (t u : List Four) (w : Word) (o : Option ℕ) → place w ≡ o
    → ((e : ℕ) → place w ≡ Some e → four_at u e ≡ four_at t e) → read u w ≡ read t w
same_read_at place make read kind t u w None is same = kind.miss t u w is
same_read_at place make read kind t u w (Some e) is same = kind.hit u w e is ∙ same e is ∙ sym (kind.hit t w e is)

same_read : (place : Word → Option ℕ) (make : ℕ → Word) (read : List Four → Word → Four) → IsKind place make read → (t u : List Four) (w : Word)
    → ((e : ℕ) → place w ≡ Some e → four_at u e ≡ four_at t e) → read u w ≡ read t w
same_read place make read kind t u w same = same_read_at place make read kind t u w (place w) refl same

pub at_map : (r : Word → Four) (words : List Word) (i : ℕ) → r empty_word ≡ nothing → four_at (map r words) i ≡ r (word_at words i)
at_map r words i none = ap (get_or (map r words) i) (sym none) ∙ get_or-map r words i empty_word

-- other words in place of words are the same cells, but for one
fours_set : (r q : Word → Four) (words other : List Word) (i : ℕ) (f : Four) → r empty_word ≡ nothing → q empty_word ≡ nothing → i < length words → length other ≡ length words
    → ((j : ℕ) → j ≢ i → q (word_at other j) ≡ r (word_at words j)) → q (word_at other i) ≡ f → map q other ≡ set (map r words) i f
fours_set r q words other i f er eq known same rest here =
    ext_get_or nothing (map q other) (set (map r words) i f)
    (length-map other q ∙ same ∙ sym (length-set (map r words) i f ∙ length-map words r))
    (λ j within. at_j j (cases_eq j i)) where
      at_j : (j : ℕ) → (j ≡ i) ⊎ (j ≡ i → ⊥) → get_or (map q other) j nothing ≡ get_or (set (map r words) i f) j nothing
      at_j j (inl e) =
          ap (λ j. get_or (map q other) j nothing) e ∙ at_map q other i eq ∙ here
          ∙ sym (ap (λ j. get_or (set (map r words) i f) j nothing) e ∙ get_or-set_same (map r words) i f nothing (omega (arith, length-map words r)))
      at_j j (inr ne) =
          at_map q other j eq ∙ rest j ne ∙ sym (get_or-set_other (map r words) i j f nothing ne ∙ at_map r words j er)

pub set_twice : {A : Type 0} (xs : List A) (i : ℕ) (x y : A) → set (set xs i x) i y ≡ set xs i y
set_twice [] i x y = refl
set_twice (a ∷ xs) zero x y = refl
set_twice (a ∷ xs) (suc i) x y = ap (λ rest. a ∷ rest) (set_twice xs i x y)

-- ---- another value at a place

pub fours_overwritten : (place : Word → Option ℕ) (make : ℕ → Word) (read : List Four → Word → Four) → IsKind place make read
    → (words : List Word) (owners : List ℕ) (t : List Four) (i e : ℕ) (f : Four) → IsTable place words owners → length t ≡ length owners → i < length words
    → place (word_at words i) ≡ Some e → map (read (set t e f)) words ≡ set (map (read t) words) i f
fours_overwritten place make read kind words owners t i e f table even known is =
    let mine = table.owned i e is in
    fours_set (read t) (read (set t e f)) words words i f (kind.empty t) (kind.empty (set t e f)) known refl
    (λ j ne. same_read place make read kind t (set t e f) (word_at words j) (λ d there.
    get_or-set_other t e d f nothing (λ same. ne (sym (table.owned j d there).1 ∙ ap (owner_at owners) same ∙ mine.1))))
    (kind.hit (set t e f) (word_at words i) e is ∙ get_or-set_same t e f nothing (omega (arith, mine.0, even)))

-- ---- a new place

pub fours_pushed : (place : Word → Option ℕ) (make : ℕ → Word) (read : List Four → Word → Four) → IsKind place make read
    → (words : List Word) (owners : List ℕ) (t : List Four) (i : ℕ) (f : Four) → IsTable place words owners → length t ≡ length owners → i < length words
    → map (read (t ++ f ∷ [])) (set words i (make (length owners))) ≡ set (map (read t) words) i f
fours_pushed place make read kind words owners t i f table even known =
    let new = make (length owners) in
    fours_set (read t) (read (t ++ f ∷ [])) words (set words i new) i f (kind.empty t) (kind.empty (t ++ f ∷ [])) known (length-set words i new)
    (λ j ne. ap (read (t ++ f ∷ [])) (set_other words i j new ne) ∙ same_read place make read kind t (t ++ f ∷ []) (word_at words j) (λ d there.
    get_or_append_left t (f ∷ []) nothing d (omega (arith, (table.owned j d there).0, even))))
    (ap (read (t ++ f ∷ [])) (set_same words i new known) ∙ kind.hit (t ++ f ∷ []) new (length owners) (kind.made (length owners)) ∙ get_or_push t f nothing (length owners) even)

-- ---- a place is given up

pub fours_removed : (place : Word → Option ℕ) (make : ℕ → Word) (read : List Four → Word → Four) → IsKind place make read
    → (words : List Word) (owners : List ℕ) (t : List Four) (i e o last : ℕ) → Left place words owners i e o last → length t ≡ length owners → i < length words
    → map (read (take last (set t e (four_at t last)))) (set (set words o (make e)) i empty_word) ≡ set (map (read t) words) i nothing
fours_removed place make read kind words owners t i e o last gap even known =
    fours_set (read t) (read u) words other i nothing (kind.empty t) (kind.empty u) known (length-set (set words o new) i empty_word ∙ length-set words o new)
    (λ j ni. rest j ni (cases_eq j o))
    (ap (read u) (set_same (set words o new) i empty_word (omega (arith, length-set words o new))) ∙ kind.empty u) where
      new : Word
      new = make e

      u : List Four
      u = take last (set t e (four_at t last))

      other : List Word
      other = set (set words o new) i empty_word

      rest : (j : ℕ) → j ≢ i → (j ≡ o) ⊎ (j ≡ o → ⊥) → read u (word_at other j) ≡ read t (word_at words j)
      rest j ni (inl here) =
          let lt : e < last = gap.below (λ back. ni (here ∙ back)) in
          ap (read u) (set_other (set words o new) i j empty_word ni ∙ ap (word_at (set words o new)) here ∙ set_same words o new gap.word)
          ∙ kind.hit u new e (kind.made e) ∙ get_or-take last (set t e (four_at t last)) e nothing lt ∙ get_or-set_same t e (four_at t last) nothing (omega (arith, gap.most, even))
          ∙ sym (ap (λ j. read t (word_at words j)) here ∙ kind.hit t (word_at words o) last gap.had)
      rest j ni (inr apart) =
          ap (read u) (set_other (set words o new) i j empty_word ni ∙ set_other words o j new apart)
          ∙ same_read place make read kind t u (word_at words j) (λ d there. let his = gap.rest j d ni apart there in
          get_or-take last (set t e (four_at t last)) d nothing his.0 ∙ get_or-set_other t e d (four_at t last) nothing his.1)

-- ---- more words that hold nothing

map_new : (r : Word → Four) (n : ℕ) → r empty_word ≡ nothing → map r (replicate n empty_word) ≡ replicate n nothing
map_new r zero none = refl
map_new r (suc n) none = ap (λ f. f ∷ map r (replicate n empty_word)) none ∙ ap (λ more. nothing ∷ more) (map_new r n none)

pub fours_grown : (r : Word → Four) (words : List Word) (n : ℕ) → r empty_word ≡ nothing → map r (words ++ replicate n empty_word) ≡ map r words ++ replicate n nothing
fours_grown r words n none = map-append r words (replicate n empty_word) ∙ ap (λ more. map r words ++ more) (map_new r n none)
