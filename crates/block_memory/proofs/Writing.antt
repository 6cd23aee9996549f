-- Cells that are put behind others, a cell or a word at a time.
use Rattle.std.proofs.Common.{◌≡◌, ℕ, ◌+◌, ◌-◌, ◌*◌, ◌<◌, ◌≤◌, List, [], ◌∷◌, ◌++◌, length, map, take, get_or, replicate, refl, sym, ap, ◌∙◌, arith}
use Rattle.std.proofs.lemmas.List.{length-append, length-map, length-replicate, length-take-le, map_push, replicate-append-replicate, replicate_more, take_more}
use Rattle.memory_words.specs.declared.cell_words.cell.Cell.{Cell}
use Rattle.memory_words.specs.declared.cell_words.cell.Cell.TheVariants.{Byte}
use Rattle.block_memory.specs.Cells.{over}
use Rattle.block_memory.proofs.Overs.{length_over, over_none, over_over}

pub record Writes (all new : List Cell) (at : ℕ) (cells : List Cell) : Type 0 where
  pub is : new ≡ over all at cells
  pub long : length new ≡ length all

writes_by : (all new : List Cell) (at : ℕ) (cells : List Cell) → at + length cells ≤ length all → new ≡ over all at cells → Writes all new at cells
writes_by all new at cells le en = record { is = en; long = ap length en ∙ length_over all cells at le }

pub writes_none : (all : List Cell) (at : ℕ) → Writes all all at []
writes_none all at = record { is = over_none all at; long = refl }

pub more : (all with new : List Cell) (at k : ℕ) (x y : List Cell) → at + length x + length y ≤ length all
    → with ≡ over all at x → k ≡ at + length x → new ≡ over with k y → new ≡ over all at (x ++ y)
more all with new at k x y le ew ek en = en ∙ ap (λ with. over with k y) ew ∙ ap (λ k. over (over all at x) k y) ek ∙ over_over all x y at le

writes_more : (all with new : List Cell) (at k : ℕ) (x y cells : List Cell) → at + length x + length y ≤ length all
    → Writes all with at x → k ≡ at + length x → x ++ y ≡ cells → new ≡ over with k y → Writes all new at cells
writes_more all with new at k x y cells le was ek ec en =
    writes_by all new at cells (omega (arith, le, length-append x y, ap length ec)) (more all with new at k x y le was.is ek en ∙ ap (λ cells. over all at cells) ec)

pub each_more : (all with new : List Cell) (at i count : ℕ) (c : Cell) → at + count ≤ length all → i < count
    → Writes all with at (replicate i c) → new ≡ over with (at + i) (c ∷ []) → Writes all new at (replicate (i + 1) c)
each_more all with new at i count c le lt was en =
    let n = length-replicate i c in
    writes_more all with new at (at + i) (replicate i c) (c ∷ []) (replicate (i + 1) c) (omega (arith, le, lt, n)) was (ap (λ k. at + k) (sym n)) (replicate_more i c) en

pub words_more : (all with new : List Cell) (at i count : ℕ) (c : Cell) (y : List Cell) → at + 4 * count ≤ length all → i < count
    → Writes all with at (replicate (4 * i) c) → y ≡ c ∷ c ∷ c ∷ c ∷ [] → new ≡ over with (at + 4 * i) y → Writes all new at (replicate (4 * (i + 1)) c)
words_more all with new at i count c y le lt was ey en =
    let n = length-replicate (4 * i) c in
    let sum : 4 * i + 4 ≡ 4 * (i + 1) = omega arith in
    writes_more all with new at (at + 4 * i) (replicate (4 * i) c) (replicate 4 c) (replicate (4 * (i + 1)) c) (omega (arith, le, lt, n)) was (ap (λ k. at + k) (sym n))
    (replicate-append-replicate (4 * i) 4 c ∙ ap (λ n. replicate n c) sum) (en ∙ ap (λ y. over with (at + 4 * i) y) ey)

pub cells_more : (all with new : List Cell) (at i : ℕ) (cells : List Cell) (c : Cell) → at + length cells ≤ length all → i < length cells
    → Writes all with at (take i cells) → new ≡ over with (at + i) (get_or cells i c ∷ []) → Writes all new at (take (i + 1) cells)
cells_more all with new at i cells c le lt was en =
    let n : length (take i cells) ≡ i = length-take-le i cells (omega (arith, lt)) in
    writes_more all with new at (at + i) (take i cells) (get_or cells i c ∷ []) (take (i + 1) cells) (omega (arith, le, lt, n)) was (ap (λ k. at + k) (sym n))
    (sym (take_more cells i c lt)) en

pub bytes_more : (all with new : List Cell) (at i : ℕ) (bytes : List ℕ) (b : ℕ) → at + length bytes ≤ length all → i < length bytes
    → Writes all with at (map Byte (take i bytes)) → new ≡ over with (at + i) (Byte (get_or bytes i b) ∷ []) → Writes all new at (map Byte (take (i + 1) bytes))
bytes_more all with new at i bytes b le lt was en =
    let n : length (map Byte (take i bytes)) ≡ i = length-map (take i bytes) Byte ∙ length-take-le i bytes (omega (arith, lt)) in
    writes_more all with new at (at + i) (map Byte (take i bytes)) (Byte (get_or bytes i b) ∷ []) (map Byte (take (i + 1) bytes)) (omega (arith, le, lt, n)) was (ap (λ k. at + k) (sym n))
    (sym (ap (map Byte) (take_more bytes i b lt) ∙ map_push Byte (take i bytes) (get_or bytes i b))) en

pub three_fills : (all a b new : List Cell) (at front many n : ℕ) (c : Cell) → at + n ≤ length all → front + 4 * many ≤ n
    → a ≡ over all at (replicate front c) → b ≡ over a (at + front) (replicate (4 * many) c)
    → new ≡ over b (at + front + 4 * many) (replicate (n - front - 4 * many) c) → new ≡ over all at (replicate n c)
three_fills all a b new at front many n c within le ea eb en =
    let one = length-replicate front c in
    let two = length-replicate (4 * many) c in
    let three = length-replicate (front + 4 * many) c in
    let rest = length-replicate (n - front - 4 * many) c in
    let whole_is : front + 4 * many + (n - front - 4 * many) ≡ n = omega arith in
    let both : b ≡ over all at (replicate (front + 4 * many) c) =
    more all a b at (at + front) (replicate front c) (replicate (4 * many) c) (omega (arith, within, le, one, two)) ea (omega (arith, one)) eb
    ∙ ap (λ r. over all at r) (replicate-append-replicate front (4 * many) c) in
    more all b new at (at + front + 4 * many) (replicate (front + 4 * many) c) (replicate (n - front - 4 * many) c) (omega (arith, within, le, three, rest)) both (omega (arith, three)) en
    ∙ ap (λ r. over all at r) (replicate-append-replicate (front + 4 * many) (n - front - 4 * many) c ∙ ap (λ n. replicate n c) whole_is)
