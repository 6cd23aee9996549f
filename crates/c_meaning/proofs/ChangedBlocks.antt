-- Memory with one block more, or with a block changed: what stands there, and what lies in it.
use Rattle.std.proofs.Common.{◌≡◌, refl, ap, ◌∙◌, subst, ℕ, zero, suc, ◌+◌, ◌*◌, ◌/◌, ◌%◌, ◌<◌, ◌≤◌, ◌⊎◌, inl, inr}
use Rattle.std.proofs.Common.{List, [], ◌∷◌, ◌++◌, length, take, drop, replicate, slice_get, slice_set, Option, Some, None, arith}
use Rattle.std.proofs.Common.{length-append, length-take, length-drop}
use Rattle.std.specs.List.{All}
use Rattle.std.proofs.lemmas.Nat.{div-add-mod', mod-mul-add, mod_below}
use Rattle.std.proofs.lemmas.List.Elements.{All-nil, All-cons, All-head, All-tail, All-append, All-take, All-drop}
use Rattle.memory_words.specs.declared.cell_words.cell.Cell.{Cell}
use Rattle.block_memory.specs.Blocks.{Memory, Block, Contents, living, ended, block, size, size_in, cells_in, overwritten}
use Rattle.block_memory.specs.Held.{bytes_of}
use Rattle.c_meaning.specs.Allocations.{Made, made_for}

-- ---- blocks of a memory

abbrev pub none_there : Block
none_there = block [] 0

pub block_past : (m : Memory) (b : ℕ) → length m ≤ b → block m b ≡ none_there
block_past [] b h = refl
block_past (x ∷ m) zero h = absurd (omega (arith, h))
block_past (x ∷ m) (suc b) h = block_past m b (omega (arith, h))

-- of a memory with one block more
pub block_before : (m : Memory) (x : Block) (b : ℕ) → b < length m → block (m ++ x ∷ []) b ≡ block m b
block_before [] x b h = absurd (omega (arith, h))
block_before (y ∷ m) x zero h = refl
block_before (y ∷ m) x (suc b) h = block_before m x b (omega (arith, h))

pub block_last : (m : Memory) (x : Block) → block (m ++ x ∷ []) (length m) ≡ x
block_last [] x = refl
block_last (y ∷ m) x = block_last m x

pub made_before : (made : Made) (x : Option ℕ) (b : ℕ) → b < length made → made_for (made ++ x ∷ []) b ≡ made_for made b
made_before [] x b h = absurd (omega (arith, h))
made_before (y ∷ made) x zero h = refl
made_before (y ∷ made) x (suc b) h = made_before made x b (omega (arith, h))

pub made_last : (made : Made) (x : Option ℕ) → made_for (made ++ x ∷ []) (length made) ≡ x
made_last [] x = refl
made_last (y ∷ made) x = made_last made x

pub made_past : (made : Made) (b : ℕ) → length made ≤ b → made_for made b ≡ None
made_past [] b h = refl
made_past (x ∷ made) zero h = absurd (omega (arith, h))
made_past (x ∷ made) (suc b) h = made_past made b (omega (arith, h))

pub none_some : {A : Type 0} (x : A) → None ≡ Some x → ⊥
none_some x e = cc

-- where a block was made for a record, it is there
pub is_made : (made : Made) (b r : ℕ) → made_for made b ≡ Some r → b < length made
is_made [] b r e = absurd (none_some r e)
is_made (x ∷ made) zero r e = omega arith
is_made (x ∷ made) (suc b) r e = let h = is_made made b r e in omega (arith, h)

pub data Before (n b : ℕ) : Type 0 where
  before : b < n → Before n b
  last : b ≡ n → Before n b
  past : n < b → Before n b

pub where_is : (n b : ℕ) → Before n b
where_is zero zero = last refl
where_is zero (suc b) = past (omega arith)
where_is (suc n) zero = before (omega arith)
where_is (suc n) (suc b) = one_more (where_is n b)
  where
    one_more : Before n b → Before (suc n) (suc b)
    one_more (before h) = before (omega (arith, h))
    one_more (last e) = last (ap (λ k. suc k) e)
    one_more (past h) = past (omega (arith, h))

-- of a memory with one block changed
pub block_changed : (m : Memory) (b : ℕ) (x : Block) (c : ℕ) → (block (slice_set m b x) c ≡ block m c) ⊎ ((c ≡ b) × (block (slice_set m b x) c ≡ x))
block_changed [] b x c = inl refl
block_changed (y ∷ m) zero x zero = inr (refl, refl)
block_changed (y ∷ m) zero x (suc c) = inl refl
block_changed (y ∷ m) (suc b) x zero = inl refl
block_changed (y ∷ m) (suc b) x (suc c) = one_more (block_changed m b x c)
  where
    one_more : (block (slice_set m b x) c ≡ block m c) ⊎ ((c ≡ b) × (block (slice_set m b x) c ≡ x))
        → (block (slice_set m b x) c ≡ block m c) ⊎ ((suc c ≡ suc b) × (block (slice_set m b x) c ≡ x))
    one_more (inl e) = inl e
    one_more (inr e) = inr (ap (λ k. suc k) e.0, e.1)

pub all_set : (P : Block → Type 0) (m : Memory) (b : ℕ) (x : Block) → P x → All P m → All P (slice_set m b x)
all_set P [] b x h all = all
all_set P (y ∷ m) zero x h all = All-cons P x m h (All-tail P y m all)
all_set P (y ∷ m) (suc b) x h all = All-cons P y (slice_set m b x) (All-head P y m all) (all_set P m b x h (All-tail P y m all))

pub all_at : (P : Block → Type 0) (m : Memory) (b : ℕ) → P none_there → All P m → P (block m b)
all_at P [] b h all = h
all_at P (x ∷ m) zero h all = All-head P x m all
all_at P (x ∷ m) (suc b) h all = all_at P m b h (All-tail P x m all)

-- ---- cells of a block

-- what lies in a list with others written from a place on
pub over_front : (all new : List Cell) (k : ℕ) (c : Cell) → length new ≤ length all → slice_get (new ++ drop (length new) all) k ≡ Some c
    → (slice_get all k ≡ Some c) ⊎ ((k < length new) × (slice_get new k ≡ Some c))
over_front all [] k c h e = inl e
over_front [] (d ∷ new) k c h e = absurd (omega (arith, h))
over_front (a ∷ all) (d ∷ new) zero c h e = inr (omega arith, e)
over_front (a ∷ all) (d ∷ new) (suc k) c h e = one_more (over_front all new k c (omega (arith, h)) e)
  where
    one_more : (slice_get all k ≡ Some c) ⊎ ((k < length new) × (slice_get new k ≡ Some c))
        → (slice_get all k ≡ Some c) ⊎ ((suc k < suc (length new)) × (slice_get new k ≡ Some c))
    one_more (inl e) = inl e
    one_more (inr e) = inr (let h = e.0 in omega (arith, h), e.1)

pub record IsWritten (new : List Cell) (at k : ℕ) (c : Cell) : Type 0 where
  pub j : ℕ
  pub is : k ≡ at + j
  pub within : j < length new
  pub there : slice_get new j ≡ Some c

pub over_get : (all new : List Cell) (at n k : ℕ) (c : Cell) → n ≡ at + length new → n ≤ length all → slice_get (take at all ++ new ++ drop n all) k ≡ Some c
    → (slice_get all k ≡ Some c) ⊎ IsWritten new at k c
over_get all new zero n k c is h e =
    let same : n ≡ length new = omega (arith, is) in
    front (over_front all new k c (omega (arith, h, same)) (subst (λ i. slice_get (new ++ drop i all) k ≡ Some c) same e))
  where
    front : (slice_get all k ≡ Some c) ⊎ ((k < length new) × (slice_get new k ≡ Some c)) → (slice_get all k ≡ Some c) ⊎ IsWritten new zero k c
    front (inl e) = inl e
    front (inr e) = inr (record { j = k; is = omega arith; within = e.0; there = e.1 })
over_get all new (suc at) zero k c is h e = absurd (omega (arith, is))
over_get [] new (suc at) (suc n) k c is h e = absurd (omega (arith, h))
over_get (a ∷ all) new (suc at) (suc n) zero c is h e = inl e
over_get (a ∷ all) new (suc at) (suc n) (suc k) c is h e = one_more (over_get all new at n k c (omega (arith, is)) (omega (arith, h)) e)
  where
    one_more : (slice_get all k ≡ Some c) ⊎ IsWritten new at k c → (slice_get all k ≡ Some c) ⊎ IsWritten new (suc at) (suc k) c
    one_more (inl e) = inl e
    one_more (inr i) = inr (record { j = i.j; is = (let same = i.is in omega (arith, same)); within = i.within; there = i.there })

pub length_over : (all new : List Cell) (at : ℕ) → at + length new ≤ length all → length (take at all ++ new ++ drop (at + length new) all) ≡ length all
length_over all new at h = grind (arith, length-append, length-take, length-drop)

pub size_over : (contents : Contents) (at : ℕ) (new : List Cell) → at + length new ≤ size_in contents → size_in (overwritten contents at new) ≡ size_in contents
size_over (living all) at new h = length_over all new at h
size_over (ended size) at new h = refl

pub all_over : (P : Cell → Type 0) (contents : Contents) (at : ℕ) (new : List Cell) → All P (cells_in contents) → All P new → All P (cells_in (overwritten contents at new))
all_over P (living all) at new one other =
    All-append P (take at all ++ new) (drop (at + length new) all) (All-append P (take at all) new (All-take P at all one) other) (All-drop P (at + length new) all one)
all_over P (ended size) at new one other = All-nil P

pub cell_over : (contents : Contents) (at : ℕ) (new : List Cell) (k : ℕ) (c : Cell) → at + length new ≤ size_in contents
    → slice_get (cells_in (overwritten contents at new)) k ≡ Some c → (slice_get (cells_in contents) k ≡ Some c) ⊎ IsWritten new at k c
cell_over (living all) at new k c h e = over_get all new at (at + length new) k c refl h e
cell_over (ended size) at new k c h e = inl e

-- what lies in a part of a list
pub front_get : (all : List Cell) (count j : ℕ) (c : Cell) → slice_get (take count all) j ≡ Some c → slice_get all j ≡ Some c
front_get [] zero j c e = e
front_get [] (suc count) j c e = e
front_get (a ∷ all) zero j c e = absurd (none_some c e)
front_get (a ∷ all) (suc count) zero c e = e
front_get (a ∷ all) (suc count) (suc j) c e = front_get all count j c e

pub part_get : (all : List Cell) (start count j n : ℕ) (c : Cell) → n ≡ start + j → slice_get (take count (drop start all)) j ≡ Some c → slice_get all n ≡ Some c
part_get all zero count j n c is e = subst (λ i. slice_get all i ≡ Some c) (let same : j ≡ n = omega (arith, is) in same) (front_get all count j c e)
part_get all (suc start) count j zero c is e = absurd (omega (arith, is))
part_get [] (suc start) count j (suc n) c is e = absurd (none_some c (front_get [] count j c e))
part_get (a ∷ all) (suc start) count j (suc n) c is e = part_get all start count j n c (omega (arith, is)) e

pub no_more_than : (count : ℕ) (all : List Cell) → length (take count all) ≤ count
no_more_than count all = grind (arith, length-take)

pub same_get : (d : Cell) (n k : ℕ) (c : Cell) → slice_get (replicate n d) k ≡ Some c → d ≡ c
same_get d zero k c e = absurd (none_some c e)
same_get d (suc n) zero c e = cc
same_get d (suc n) (suc k) c e = same_get d n k c e

pub length_bytes : (count v : ℕ) → length (bytes_of count v) ≡ count
length_bytes zero v = refl
length_bytes (suc count) v = ap (λ n. suc n) (length_bytes count (v / 256))

-- a place counted from the begin of an element
pub whole_mod : (i s k : ℕ) → (i * s + k) % s ≡ k % s
whole_mod i zero k = ap (λ n. n % 0) (let none : i * 0 + k ≡ k = omega arith in none)
whole_mod i (suc s) k =
    let split = div-add-mod' k (suc s) in
    let is : i * suc s + k ≡ (i + k / suc s) * suc s + k % suc s = omega (arith, split) in
    ap (λ n. n % suc s) is ∙ mod-mul-add (i + k / suc s) (suc s) (k % suc s) (mod_below k (suc s) (omega arith))
