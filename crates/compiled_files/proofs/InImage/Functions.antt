-- Where each function of a program stands: its code, and its texts.
use Rattle.std.proofs.Common.{◌≡◌, ℕ, zero, suc, ◌+◌, ◌*◌, ◌%◌, ◌<◌, ◌≤◌, List, [], ◌∷◌, Some, length, map, ap, subst, arith}
use Rattle.std.specs.Prelude.{Contains, slice_get, slice_index}
use Rattle.std.proofs.lemmas.List.Elements.{Contains-append_left, Contains-append_right}
use Rattle.rv_runtime.specs.Steps.States.{Code as Stand}
use Rattle.tac_ir.specs.Code.{RoutineData}
use Rattle.rv_code.specs.Code.{function_code}
use Rattle.rv_code.specs.Frames.{whole_words, places_from}
use Rattle.rv_code.specs.Programs.{functions_code, entries_from, entries_end, layouts_from, texts_from, texts_end, words_of_function, layout_of}
use Rattle.rv_code.specs.declared.layout.Places.{Places}
use Rattle.rv_emit.specs.Grounds.{Ground}
use Rattle.rv_emit.proofs.Moves.{code_front, code_back}
use Rattle.compiled_files.specs.Placing.{with_places, placed_texts}
use Rattle.code_bounds.specs.CompiledLaws.{FunctionsAreAsLong}

-- where the texts of the f-th function begin
abbrev pub text_place : (at : ℕ) → List RoutineData → (f : ℕ) → ℕ
text_place at [] f = at
text_place at (g ∷ more) zero = at
text_place at (g ∷ more) (suc f) = text_place (texts_end at g) more f

-- ---- entries, which ascend

ends_behind : (at : ℕ) (gs : List RoutineData) → at ≤ entries_end at gs
ends_behind at [] = omega arith
ends_behind at (g ∷ more) = omega (arith, ends_behind (at + 4 * words_of_function g) more)

pub entry_low : (at : ℕ) (gs : List RoutineData) (f : ℕ) (g : RoutineData) → slice_get gs f ≡ Some g → at ≤ slice_index (entries_from at gs) f
entry_low at [] f g e = absurd cc
entry_low at (k ∷ more) zero g e = omega arith
entry_low at (k ∷ more) (suc f) g e = omega (arith, entry_low (at + 4 * words_of_function k) more f g e)

pub entry_whole : (at : ℕ) (gs : List RoutineData) (f : ℕ) (g : RoutineData) → at % 4 ≡ 0 → slice_get gs f ≡ Some g → slice_index (entries_from at gs) f % 4 ≡ 0
entry_whole at [] f g w e = absurd cc
entry_whole at (k ∷ more) zero g w e = w
entry_whole at (k ∷ more) (suc f) g w e = entry_whole (at + 4 * words_of_function k) more f g (omega arith) e

pub entry_high : (at : ℕ) (gs : List RoutineData) (f : ℕ) (g : RoutineData) → slice_get gs f ≡ Some g
    → slice_index (entries_from at gs) f + 4 * words_of_function g ≤ entries_end at gs
entry_high at [] f g e = absurd cc
entry_high at (k ∷ more) zero g e =
    let same : k ≡ g = cc in
    subst (λ r. at + 4 * words_of_function r ≤ entries_end at (k ∷ more)) same (ends_behind (at + 4 * words_of_function k) more)
entry_high at (k ∷ more) (suc f) g e = entry_high (at + 4 * words_of_function k) more f g e

-- the code of a function ends where the next begins, or in front of it
pub entries_apart : (at : ℕ) (gs : List RoutineData) (f h : ℕ) (g k : RoutineData) → slice_get gs f ≡ Some g → slice_get gs h ≡ Some k → f < h
    → slice_index (entries_from at gs) f + 4 * words_of_function g ≤ slice_index (entries_from at gs) h
entries_apart at [] f h g k e d lt = absurd cc
entries_apart at (r ∷ more) f zero g k e d lt = absurd (omega arith)
entries_apart at (r ∷ more) zero (suc h) g k e d lt =
    let same : r ≡ g = cc in
    subst (λ q. at + 4 * words_of_function q ≤ slice_index (entries_from (at + 4 * words_of_function r) more) h) same
    (entry_low (at + 4 * words_of_function r) more h k d)
entries_apart at (r ∷ more) (suc f) (suc h) g k e d lt = entries_apart (at + 4 * words_of_function r) more f h g k e d (omega arith)

-- ---- code, one function behind the other

module _ (as_long : FunctionsAreAsLong) (ground : Ground) (p : Places) where
  pub function_stands : (at texts : ℕ) (gs : List RoutineData) (f : ℕ) (g : RoutineData) → slice_get gs f ≡ Some g
      → Stand ground.segments ground.text at (functions_code p gs (layouts_from at texts gs))
      → Stand ground.segments ground.text (slice_index (entries_from at gs) f)
      (function_code p g (layout_of g (slice_index (entries_from at gs) f) (text_place texts gs f)))
  function_stands at texts [] f g e h = absurd cc
  function_stands at texts (k ∷ more) zero g e h =
      let same : k ≡ g = cc in
      subst (λ r. Stand ground.segments ground.text at (function_code p r (layout_of r at texts))) same
      (code_front ground at (function_code p k (layout_of k at texts)) _ h)
  function_stands at texts (k ∷ more) (suc f) g e h =
      let next = at + 4 * words_of_function k in
      let rest = functions_code p more (layouts_from next (texts_end texts k) more) in
      let behind = code_back ground at (function_code p k (layout_of k at texts)) rest h in
      function_stands next (texts_end texts k) more f g e (subst (λ n. Stand ground.segments ground.text (at + 4 * n) rest) (as_long p k at texts) behind)

-- ---- texts

-- each text of one function has the place of its number
text_placed : (at : ℕ) (texts : List (List ℕ)) (n : ℕ) (bytes : List ℕ) → slice_get texts n ≡ Some bytes
    → Contains (with_places (places_from at (map length texts)) texts) (slice_index (places_from at (map length texts)) n, bytes)
text_placed at [] n bytes e = absurd cc
text_placed at (text ∷ more) zero bytes e = (zero, omega arith, ap (λ t. (at, t)) (let same : text ≡ bytes = cc in same))
text_placed at (text ∷ more) (suc n) bytes e =
    let rest = text_placed (at + whole_words (length text)) more n bytes e in (suc rest.0, omega (arith, rest.1), rest.2)

-- each text of a function is among those of the program
pub texts_placed : (at : ℕ) (gs : List RoutineData) (f : ℕ) (g : RoutineData) → slice_get gs f ≡ Some g
    → (n : ℕ) (bytes : List ℕ) → slice_get g.texts n ≡ Some bytes
    → Contains (placed_texts at gs) (slice_index (texts_from (text_place at gs f) g) n, bytes)
texts_placed at [] f g e n bytes d = absurd cc
texts_placed at (k ∷ more) zero g e n bytes d =
    let same : g ≡ k = cc in
    let mine = text_placed at g.texts n bytes d in
    Contains-append_left (with_places (texts_from at k) k.texts) (placed_texts (texts_end at k) more) (slice_index (texts_from at g) n, bytes)
    (subst (λ r. Contains (with_places (texts_from at r) r.texts) (slice_index (texts_from at g) n, bytes)) same mine)
texts_placed at (k ∷ more) (suc f) g e n bytes d =
    Contains-append_right (with_places (texts_from at k) k.texts) (placed_texts (texts_end at k) more) _
    (texts_placed (texts_end at k) more f g e n bytes d)
