-- Marks that stand at tokens which come one after the other.
use Rattle.std.proofs.Common.{◌≡◌, ℕ, ◌≤◌, ◌<◌, List, [], ◌∷◌, ◌++◌, inl, inr, refl, sym, ap, ◌∙◌, subst, arith, append_assoc, append-nil}
use Rattle.std.specs.List.{All, AllByRecursion}
use Rattle.std.proofs.lemmas.List.Elements.{All-from_recursion}
use Rattle.c_tokens.specs.declared.token.Token.{Token}
use Rattle.c_tokens.specs.TokenPlaces.{AreInOrder, TokensHavePlaces}
use Rattle.c_ast.specs.Trees
use Rattle.c_ast.specs.Spelling.{Lexeme, spell}
use Rattle.c_ast.specs.Lexemes.{lexemes_of}
use Rattle.c_ast.specs.TreesOfFiles.{IsTreeOf}
use Rattle.c_ast.specs.Laws.{IsPlaceOf}
use Rattle.c_erasure.specs.Marks.{Mark, a_tag, an_end, a_name, marks_of_file, ends_in, scope_beginnings}
use Rattle.c_erasure.specs.Files.{AreAscending}
use Rattle.c_erasure.specs.MarkPlaces.Places.{bytes_of, AreAmong, AreOrdered, Along}
use Rattle.c_erasure.specs.MarkPlaces.Order.{StandBetween, MarksAreInOrder}
use Rattle.c_erasure.proofs.MarkPlaces.MarksOfFiles.{items_along}

-- ---- some of the marks

without_first : (x : ℕ) (places : List ℕ) (tokens : List Lexeme) → AreAmong (x ∷ places) tokens → AreAmong places tokens
without_first x places [] h = cc
without_first x places (t ∷ tokens) (inl h) = inl (without_first x places tokens h)
without_first x places (t ∷ tokens) (inr h) = let e : h.0 ≡ places = cc in inl (subst (λ p. AreAmong p tokens) e h.3)

with_first : (x : ℕ) (a b : List ℕ) → ((tokens : List Lexeme) → AreAmong a tokens → AreAmong b tokens)
    → (tokens : List Lexeme) → AreAmong (x ∷ a) tokens → AreAmong (x ∷ b) tokens
with_first x a b f [] h = cc
with_first x a b f (t ∷ tokens) (inl h) = inl (with_first x a b f tokens h)
with_first x a b f (t ∷ tokens) (inr h) =
    let e : h.0 ≡ a = cc in
    let s : x ≡ t.from = cc in
    inr (b, ap (λ y. y ∷ b) s, h.2, f tokens (subst (λ p. AreAmong p tokens) e h.3))

pub ends_among : (marks : List Mark) (tokens : List Lexeme) → AreAmong (bytes_of marks) tokens → AreAmong (ends_in marks) tokens
ends_among [] tokens h = h
ends_among (a_tag t ∷ marks) tokens h = ends_among marks tokens h
ends_among (an_end tag right ∷ marks) tokens h = with_first right (bytes_of marks) (ends_in marks) (ends_among marks) tokens h
ends_among (a_name from ∷ marks) tokens h = ends_among marks tokens (without_first from (bytes_of marks) tokens h)

pub beginnings_among : (marks : List Mark) (tokens : List Lexeme) → AreAmong (bytes_of marks) tokens → AreAmong (scope_beginnings marks) tokens
beginnings_among [] tokens h = h
beginnings_among (a_tag t ∷ marks) tokens h = beginnings_among marks tokens h
beginnings_among (an_end tag right ∷ marks) tokens h = beginnings_among marks tokens (without_first right (bytes_of marks) tokens h)
beginnings_among (a_name from ∷ marks) tokens h = with_first from (bytes_of marks) (scope_beginnings marks) (beginnings_among marks) tokens h

-- ---- places among ordered tokens

wider : (a b to : ℕ) (places : List ℕ) → a ≤ b → AllByRecursion (λ place. (b ≤ place) × (place < to)) places
    → AllByRecursion (λ place. (a ≤ place) × (place < to)) places
wider a b to [] h all = tt
wider a b to (x ∷ places) h all = ((omega arith, all.0.1), wider a b to places h all.1)

above : (a b to : ℕ) (places : List ℕ) → a < b → AllByRecursion (λ place. (b ≤ place) × (place < to)) places → AllByRecursion (λ place. a < place) places
above a b to [] h all = tt
above a b to (x ∷ places) h all = (omega arith, above a b to places h all.1)

record Between (from : ℕ) (places : List ℕ) (rest : List Lexeme) : Type 0 where
  pub to : ℕ
  pub later : from ≤ to
  pub between : AllByRecursion (λ place. (from ≤ place) × (place < to)) places
  pub ascending : AreAscending places
  pub ordered : AreOrdered to rest

between : (from : ℕ) (places : List ℕ) (own rest : List Lexeme) → AreAmong places own → AreOrdered from (own ++ rest) → Between from places rest
between from places [] rest h o =
    subst (λ p. Between from p rest) (sym h) (record { to = from; later = omega arith; between = tt; ascending = tt; ordered = o })
between from places (t ∷ own) rest (inl h) o =
    let b = between t.to places own rest h o.2 in
    record {
      to = b.to;
      later = omega (arith, o.0, o.1, b.later);
      between = wider from t.to b.to places (omega (arith, o.0, o.1)) b.between;
      ascending = b.ascending;
      ordered = b.ordered;
    }
between from places (t ∷ own) rest (inr h) o =
    let b = between t.to h.0 own rest h.3 o.2 in
    subst (λ p. Between from p rest) (sym h.1) (record {
      to = b.to;
      later = omega (arith, o.0, o.1, b.later);
      between = ((o.0, omega (arith, h.2, b.later)), wider from t.to b.to h.0 (omega (arith, o.0, o.1)) b.between);
      ascending = (All-from_recursion (λ m. t.from < m) h.0 (above t.from t.to b.to h.0 h.2 b.between), b.ascending);
      ordered = b.ordered;
    })

-- the places of a part's marks, or of some of them
pub stand_between : (from : ℕ) (places : List ℕ) (own rest : List Lexeme) → AreAmong places own → AreOrdered from (own ++ rest)
    → StandBetween from places rest
stand_between from places own rest h o =
    let b = between from places own rest h o in
    record {
      to = b.to;
      later = b.later;
      between = All-from_recursion (λ place. (from ≤ place) × (place < b.to)) places b.between;
      ascending = b.ascending;
      ordered = b.ordered;
    }

-- the marks of a part, and of those its ends and its beginnings of scopes
pub marks_between : (from : ℕ) {marks : List Mark} {tokens rest : List Lexeme} → Along marks tokens rest → AreOrdered from tokens
    → StandBetween from (bytes_of marks) rest
marks_between from {marks = marks} {rest = rest} a o = stand_between from (bytes_of marks) a.own rest a.among (subst (AreOrdered from) a.whole o)

pub ends_between : (from : ℕ) {marks : List Mark} {tokens rest : List Lexeme} → Along marks tokens rest → AreOrdered from tokens
    → StandBetween from (ends_in marks) rest
ends_between from {marks = marks} {rest = rest} a o =
    stand_between from (ends_in marks) a.own rest (ends_among marks a.own a.among) (subst (AreOrdered from) a.whole o)

pub beginnings_between : (from : ℕ) {marks : List Mark} {tokens rest : List Lexeme} → Along marks tokens rest → AreOrdered from tokens
    → StandBetween from (scope_beginnings marks) rest
beginnings_between from {marks = marks} {rest = rest} a o =
    stand_between from (scope_beginnings marks) a.own rest (beginnings_among marks a.own a.among) (subst (AreOrdered from) a.whole o)

-- ---- places of tokens

places_of : (tokens before own : List Lexeme) (places : List ℕ) → tokens ≡ before ++ own → AreAmong places own → AllByRecursion (IsPlaceOf tokens) places
places_of tokens before [] places e h = subst (AllByRecursion (IsPlaceOf tokens)) (sym h) tt
places_of tokens before (t ∷ own) places e (inl h) =
    places_of tokens (before ++ t ∷ []) own places (e ∙ sym (append_assoc before (t ∷ []) own)) h
places_of tokens before (t ∷ own) places e (inr h) =
    subst (AllByRecursion (IsPlaceOf tokens)) (sym h.1)
    ((before, own, t, e, refl), places_of tokens (before ++ t ∷ []) own h.0 (e ∙ sym (append_assoc before (t ∷ []) own)) h.3)

pub are_places : (tokens : List Lexeme) (places : List ℕ) → AreAmong places tokens → All (IsPlaceOf tokens) places
are_places tokens places h = All-from_recursion (IsPlaceOf tokens) places (places_of tokens [] tokens places refl h)

-- ---- files

pub lexemes_ordered : (at : ℕ) (bytes : List ℕ) (tokens : List Token) → AreInOrder at tokens → AreOrdered at (lexemes_of bytes tokens)
lexemes_ordered at bytes [] h = tt
lexemes_ordered at bytes (t ∷ tokens) h = (h.0, h.1, lexemes_ordered t.to bytes tokens h.2)

pub tree_ordered : TokensHavePlaces → (bytes : List ℕ) (items : List Trees.Item) → IsTreeOf bytes items → AreOrdered 0 (spell items)
tree_ordered p bytes items t = subst (AreOrdered 0) t.3.spelled (lexemes_ordered 0 bytes t.0 (p.in_order bytes t.0 t.1))

pub file_among : (untagged : ℕ → List ℕ) (bytes : List ℕ) (items : List Trees.Item) → IsTreeOf bytes items
    → AreAmong (bytes_of (marks_of_file untagged items)) (spell items)
file_among untagged bytes items t =
    let a = items_along untagged [] items t.3.well_formed {rest = []} in
    subst (AreAmong (bytes_of (marks_of_file untagged items))) (sym (a.whole ∙ append-nil a.own)) a.among

ascending_in : TokensHavePlaces → (bytes : List ℕ) (items : List Trees.Item) → IsTreeOf bytes items
    → (places : List ℕ) → AreAmong places (spell items) → AreAscending places
ascending_in p bytes items t places h =
    (between 0 places (spell items) [] h (subst (AreOrdered 0) (sym (append-nil (spell items))) (tree_ordered p bytes items t))).ascending

pub marks_are_in_order : TokensHavePlaces → MarksAreInOrder
marks_are_in_order p = record {
  ends = λ bytes items untagged t.
      ascending_in p bytes items t _ (ends_among (marks_of_file untagged items) (spell items) (file_among untagged bytes items t));
  beginnings = λ bytes items untagged t.
      ascending_in p bytes items t _ (beginnings_among (marks_of_file untagged items) (spell items) (file_among untagged bytes items t));
  places_of_ends = λ bytes items untagged t.
      are_places (spell items) _ (ends_among (marks_of_file untagged items) (spell items) (file_among untagged bytes items t));
  places_of_beginnings = λ bytes items untagged t.
      are_places (spell items) _ (beginnings_among (marks_of_file untagged items) (spell items) (file_among untagged bytes items t));
}
