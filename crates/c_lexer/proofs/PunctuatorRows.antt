-- The punctuator at the front of a text, by the table of texts.
use Rattle.std.proofs.Common.{◌≡◌, ℕ, ◌<◌, ◌≤◌, Bool, true, false, List, [], ◌∷◌, length, map, Some, refl, ap, cond, arith, length-append}
use Rattle.std.specs.Prelude.{◌==◌, ◌&&◌, nat_eq, IfSome}
use Rattle.std.specs.List.{starts_with}
use Rattle.c_tokens.specs.declared.punctuator.Punctuator.{Punctuator}
use Rattle.c_tokens.specs.declared.part.Shape.TheVariants as S
use Rattle.c_tokens.specs.Characters.{begins}
use Rattle.c_tokens.specs.Punctuators.{punctuator_text}
use Rattle.c_lexer.specs.Scanning.{is_front, first_punctuator, punctuator_word, row_of, word_by}
use Rattle.c_lexer.proofs.FirstPunctuators.{begins_punctuator, punctuator_begins, front_taken}

pub front_is : (text bytes : List ℕ) → starts_with nat_eq bytes text ≡ is_front text bytes
front_is [] bytes = refl
front_is (t ∷ text) [] = refl
front_is (t ∷ text) (b ∷ bytes) = ap (λ same. (t == b) && same) (front_is text bytes)

-- the table gives the first punctuator
pub rows_say : (table : List Punctuator) (bytes : List ℕ) → word_by (map row_of table) bytes ≡ punctuator_word (first_punctuator table bytes)
unfolding word_by
rows_say [] bytes = refl
rows_say (m ∷ table) bytes = go (is_front (punctuator_text m) bytes) (rows_say table bytes)
  where
    go : (here : Bool) → word_by (map row_of table) bytes ≡ punctuator_word (first_punctuator table bytes) → cond here (Some (S.Punctuator m, length (punctuator_text m))) (word_by (map row_of table) bytes)
        ≡ punctuator_word (cond here (Some m) (first_punctuator table bytes))
    go true later = refl
    go false later = later

-- bytes with a first one are some
some_bytes : (p : ℕ → Bool) (bytes : List ℕ) → begins p bytes ≡ true → 0 < length bytes
some_bytes p [] h = cc
some_bytes p (b ∷ bytes) h = omega arith

-- what is found has bytes, and no more than there are
pub rows_within : (table : List Punctuator) (bytes : List ℕ) → IfSome (word_by (map row_of table) bytes) (λ word. (0 < word.1) × (word.1 ≤ length bytes))
unfolding word_by
rows_within [] bytes = tt
rows_within (m ∷ table) bytes = go (is_front (punctuator_text m) bytes) refl (rows_within table bytes)
  where
    go : (here : Bool) → is_front (punctuator_text m) bytes ≡ here → IfSome (word_by (map row_of table) bytes) (λ word. (0 < word.1) × (word.1 ≤ length bytes))
        → IfSome (cond here (Some (S.Punctuator m, length (punctuator_text m))) (word_by (map row_of table) bytes)) (λ word. (0 < word.1) × (word.1 ≤ length bytes))
    go true e later =
        let r = front_taken (punctuator_text m) bytes e in
        let size = ap length r.1 in
        (some_bytes begins_punctuator (punctuator_text m) (punctuator_begins m), omega (arith, size, length-append (punctuator_text m) r.0))
    go false e later = later
