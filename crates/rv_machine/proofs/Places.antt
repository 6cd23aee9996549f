-- What rows that are sound say of the segments that they stand for, and of their bytes.
use Rattle.std.proofs.Common.{◌≡◌, ℕ, zero, suc, ◌+◌, ◌-◌, ◌*◌, ◌%◌, ◌^◌, ◌<◌, ◌≤◌, Bool, true, false, cond, eqb, leb, ltb, List, [], ◌∷◌, length}
use Rattle.std.proofs.Common.{Option, Some, None, refl, sym, ap, ◌∙◌, subst, arith, inl, inr, slice_set, eq-eqb}
use Rattle.std.specs.Prelude.{◌&&◌, ◌||◌, All, IfSome, MatchOption, slice_index}
use Rattle.std.proofs.Math.Path.{fun_ext}
use Rattle.std.proofs.Math.Bool.{or-true, and-true, and_assoc, and-false}
use Rattle.std.proofs.lemmas.Bool.{and_parts, and_from, or_cases, false_from_ne_true, cond_both, eqb-true, leb-true, ltb-true}
use Rattle.std.proofs.lemmas.List.{get_or-set_same, get_or-set_other}
use Rattle.std.proofs.lemmas.List.Elements.{All-head, All-tail}
use Rattle.rv_isa.specs.declared.image.Segment.{Segment}
use Rattle.rv_isa.specs.Memory.{is_mapped, are_mapped, with_byte, half_at, word_at}
use Rattle.rv_machine.specs.declared.rows.Row.{Row}
use Rattle.rv_machine.specs.declared.memory.Memory.{Memory}
use Rattle.std.specs.Global.{Vec}
use Rattle.rv_machine.specs.View.{segments_in, content_of, if_mapped, IsKept}
use Rattle.rv_machine.specs.Rows.{segments_of, holds, allows, row_at, place_in, byte_in, memory_of, Serves, Begins, AreSound, Covers, IsFound}

-- ---- one address

some_is : (r s : Row) → ◌≡◌ {A = Option Row} (Some r) (Some s) → r ≡ s
some_is r s e = cc

-- a row that was found has the address
pub row_at_holds : (rows : List Row) (a : ℕ) (r : Row) → row_at rows a ≡ Some r → holds r a ≡ true
row_at_holds [] a r e = absurd cc
row_at_holds (row ∷ rows) a r e = go (λ f. row_at_holds rows a r f) (holds row a) refl e
  where
    go : (row_at rows a ≡ Some r → holds r a ≡ true) → (b : Bool) → holds row a ≡ b → cond b (Some row) (row_at rows a) ≡ Some r → holds r a ≡ true
    go further true h f = ap (λ (q : Row). holds q a) (sym (some_is row r f)) ∙ h
    go further false h f = further f

-- and what holds of each row
row_at_among : (P : Row → Type 0) (rows : List Row) (a : ℕ) (r : Row) → All P rows → row_at rows a ≡ Some r → P r
row_at_among P [] a r all e = absurd cc
row_at_among P (row ∷ rows) a r all e = go (λ f. row_at_among P rows a r (All-tail P row rows all) f) (holds row a) e
  where
    go : (row_at rows a ≡ Some r → P r) → (b : Bool) → cond b (Some row) (row_at rows a) ≡ Some r → P r
    go further true f = subst P (some_is row r f) (All-head P row rows all)
    go further false f = further f

pub row_at_serves : (rows : List Row) (size a : ℕ) (r : Row) → AreSound rows size → row_at rows a ≡ Some r → Serves rows size r
row_at_serves rows size a r sound e = row_at_among (Serves rows size) rows a r sound.serve e

-- an address whose row allows it is mapped
pub mapped_in : (rows : List Row) (flag a : ℕ) (r : Row) → row_at rows a ≡ Some r → allows r flag ≡ true → is_mapped (segments_of rows) flag a ≡ true
mapped_in [] flag a r e allowed = absurd cc
mapped_in (row ∷ rows) flag a r e allowed = go (λ f. mapped_in rows flag a r f allowed) (holds row a) refl e
  where
    go : (row_at rows a ≡ Some r → is_mapped (segments_of rows) flag a ≡ true) → (b : Bool) → holds row a ≡ b
        → cond b (Some row) (row_at rows a) ≡ Some r → ((allows row flag && holds row a) || is_mapped (segments_of rows) flag a) ≡ true
    go further true h f = let same : row ≡ r = some_is row r f in let t : (allows row flag && holds row a) ≡ true =
        and_from _ _ (ap (λ (q : Row). allows q flag) same ∙ allowed) h in rw t refl
    go further false h f = rw (further f) (or-true (allows row flag && holds row a))

-- what is mapped is mapped in the row that has it
mapped_among : (rows some : List Row) (size flag a : ℕ) → All (Serves rows size) some → is_mapped (segments_of some) flag a ≡ true
    → (q : Row) × (row_at rows a ≡ Some q) × (allows q flag ≡ true)
mapped_among rows [] size flag a all e = absurd cc
mapped_among rows (q ∷ some) size flag a all e =
    elim (or_cases (allows q flag && holds q a) (is_mapped (segments_of some) flag a) e) [
      | inl here ↦ (let p = and_parts (allows q flag) (holds q a) here in (q, (All-head (Serves rows size) q some all).found a p.1, p.0))
      | inr there ↦ mapped_among rows some size flag a (All-tail (Serves rows size) q some all) there
    ]

-- where the row of an address does not allow it, it is not mapped
pub mapped_not : (rows : List Row) (size flag a : ℕ) (r : Row) → AreSound rows size → row_at rows a ≡ Some r → allows r flag ≡ false
    → is_mapped (segments_of rows) flag a ≡ false
mapped_not rows size flag a r sound e not_allowed =
    false_from_ne_true _ (λ m.
    let q = mapped_among rows rows size flag a sound.serve m in
    let same : q.0 ≡ r = some_is _ _ (sym q.1 ∙ e) in
    let t : allows r flag ≡ true = ap (λ (s : Row). allows s flag) (sym same) ∙ q.2 in
    cc)

-- an address of no row is not mapped
pub mapped_none : (rows : List Row) (size flag a : ℕ) → AreSound rows size → row_at rows a ≡ None → is_mapped (segments_of rows) flag a ≡ false
mapped_none rows size flag a sound e =
    false_from_ne_true _ (λ m. let q = mapped_among rows rows size flag a sound.serve m in let t : None ≡ Some q.0 = sym e ∙ q.1 in cc)

-- ---- ranges

-- each address of the range is mapped
pub mapped_each : (segments : List Segment) (flag a n : ℕ) → ((k : ℕ) → k < n → is_mapped segments flag (a + k) ≡ true) → are_mapped segments flag a n ≡ true
unfolding are_mapped
mapped_each segments flag a zero each = refl
mapped_each segments flag a (suc n) each =
    let first : is_mapped segments flag a ≡ true = subst (λ (b : ℕ). is_mapped segments flag b ≡ true) (let e : a + 0 ≡ a = omega arith in
    e) (each 0 (omega arith)) in
    and_from _ _ first (mapped_each segments flag (a + 1) n (λ k lt.
    subst (λ (b : ℕ). is_mapped segments flag b ≡ true) (let e : a + suc k ≡ a + 1 + k = omega arith in e) (each (suc k) (omega arith))))

-- a row holds an address between its ends
pub holds_between : (row : Row) (a : ℕ) → row.at ≤ a → a < row.at + row.size → holds row a ≡ true
holds_between row a low high = grind arith

pub held_between : (row : Row) (a : ℕ) → holds row a ≡ true → (row.at ≤ a) × (a < row.at + row.size)
held_between row a e = let p = and_parts (leb row.at a) (ltb a (row.at + row.size)) e in (leb-true _ _ p.0, ltb-true _ _ p.1)

-- a range that a row holds is found there
pub found_in : (rows : List Row) (size flag a n : ℕ) (row : Row) → Serves rows size row → allows row flag ≡ true → row.at ≤ a
    → a + n ≤ row.at + row.size → IsFound rows size flag a n (place_in row a)
found_in rows size flag a n row serves allowed low high = record {
  within = let p = serves.place in omega arith;
  mapped = mapped_each (segments_of rows) flag a n (λ k lt. mapped_in rows flag (a + k) row
      (serves.found (a + k) (holds_between row (a + k) (omega arith) (omega arith))) allowed);
  at = λ k lt. (row, serves.found (a + k) (holds_between row (a + k) (omega arith) (omega arith)), omega arith);
}

-- a byte is found in the row that has it
pub found_at : (rows : List Row) (size flag a place : ℕ) (r : Row) → AreSound rows size → row_at rows a ≡ Some r → allows r flag ≡ true
    → place ≡ place_in r a → IsFound rows size flag a 1 place
found_at rows size flag a place r sound e allowed p =
    let serves = row_at_serves rows size a r sound e in
    let ends = held_between r a (row_at_holds rows a r e) in
    subst (λ (x : ℕ). IsFound rows size flag a 1 x) (sym p) (found_in rows size flag a 1 r serves allowed ends.0 (omega (arith, ends.1)))

-- the place of a byte, by the row that has it
pub place_found : (rows : List Row) (size flag a : ℕ) (r : Row) → AreSound rows size → row_at rows a ≡ Some r → (o : Option ℕ)
    → MatchOption o (allows r flag ≡ false) (λ place. (allows r flag ≡ true) × (place ≡ place_in r a))
    → MatchOption o (is_mapped (segments_of rows) flag a ≡ false) (λ place. IsFound rows size flag a 1 place)
place_found rows size flag a r sound e None not_allowed = mapped_not rows size flag a r sound e not_allowed
place_found rows size flag a r sound e (Some place) h = found_at rows size flag a place r sound e h.0 h.1

-- bytes from an address on, where a row has them all
pub covered : (rows : List Row) (size flag a n : ℕ) (row : Row) → Serves rows size row → (o : Option ℕ)
    → IfSome o (λ place. Covers row flag a n place) → IfSome o (λ place. IsFound rows size flag a n place)
covered rows size flag a n row serves None h = tt
covered rows size flag a n row serves (Some place) h =
    subst (λ (x : ℕ). IsFound rows size flag a n x) (sym h.is_place) (found_in rows size flag a n row serves h.allowed h.low h.high)

-- the places of a row at which a word may begin
pub words_begin : (rows : List Row) (size flag : ℕ) (row : Row) → Serves rows size row → allows row flag ≡ true
    → Begins rows size flag (record row { size = row.size - 3 })
words_begin rows size flag row serves allowed = record {
  end = let p = serves.end in omega arith;
  place = let p = serves.place in omega arith;
  serves = λ some. let e : row.size - 3 + 3 ≡ row.size = omega arith in subst (λ (n : ℕ). Serves rows size (record row { size = n })) (sym e) serves;
  allowed = λ some. allowed;
}

-- a word that begins there is found
pub word_within : (rows : List Row) (size flag a place : ℕ) (row : Row) → Begins rows size flag row → holds row a ≡ true → place ≡ place_in row a
    → IsFound rows size flag a 4 place
word_within rows size flag a place row begins held p =
    let ends = held_between row a held in
    let some : 0 < row.size = omega (arith, ends.0, ends.1) in
    subst (λ (x : ℕ). IsFound rows size flag a 4 x) (sym p) (found_in rows size flag a 4 (record row { size = row.size + 3 }) (begins.serves some)
    (begins.allowed some) ends.0 (omega (arith, ends.1)))

-- ---- bytes

module _ (rows : List Row) (bytes : List ℕ) (size flag a n place : ℕ) (found : IsFound rows size flag a n place) where
  -- what is read there
  pub byte_found : (k : ℕ) → k < n → memory_of rows bytes (a + k) ≡ slice_index bytes (place + k)
  byte_found k lt = let r = found.at k lt in ap (λ (o : Option Row). byte_in bytes o (a + k)) r.1 ∙ ap (slice_index bytes) r.2

-- ---- a byte is stored

byte_stored_at : (rows : List Row) (bytes : List ℕ) (size a place b x : ℕ) (r : Row) → AreSound rows size → row_at rows a ≡ Some r
    → place_in r a ≡ place → place < length bytes → (o : Option Row) → row_at rows x ≡ o
    → byte_in (slice_set bytes place b) o x ≡ cond (eqb x a) b (byte_in bytes o x)
byte_stored_at rows bytes size a place b x r sound e p lt None ex =
    cond_both (eqb x a) b 0 (λ y. 0 ≡ y) (λ t. let same : x ≡ a = eqb-true x a t in let f : None ≡ Some r = sym ex ∙ ap (row_at rows) same ∙ e in
    cc) (λ t. refl)
byte_stored_at rows bytes size a place b x r sound e p lt (Some s) ex =
    cond_both (eqb x a) b (slice_index bytes (place_in s x)) (λ y. slice_index (slice_set bytes place b) (place_in s x) ≡ y)
    (λ t.
    let same : x ≡ a = eqb-true x a t in
    let row : s ≡ r = some_is s r (sym ex ∙ ap (row_at rows) same ∙ e) in
    let there : place_in s x ≡ place = ap (λ (q : Row). place_in q x) row ∙ ap (place_in r) same ∙ p in
    ap (slice_index (slice_set bytes place b)) there ∙ get_or-set_same bytes place b 0 lt)
    (λ t. get_or-set_other bytes place (place_in s x) b 0 (λ there. eqb_false x a t (sound.apart x a s r ex e (there ∙ sym p))))
  where
    eqb_false : (m n : ℕ) → eqb m n ≡ false → m ≡ n → ⊥
    eqb_false m n f q = let t : eqb m n ≡ true = eq-eqb m n q in cc

-- a byte at the place of an address is the byte at the address
pub byte_stored : (rows : List Row) (bytes : List ℕ) (size a place b v : ℕ) (r : Row) → AreSound rows size → row_at rows a ≡ Some r
    → place_in r a ≡ place → place < length bytes → b ≡ v % 2 ^ 8
    → memory_of rows (slice_set bytes place b) ≡ with_byte (memory_of rows bytes) a v
byte_stored rows bytes size a place b v r sound e p lt same =
    fun_ext (λ x. byte_stored_at rows bytes size a place b x r sound e p lt (row_at rows x) refl
    ∙ ap (λ (y : ℕ). cond (eqb x a) y (memory_of rows bytes x)) same)

-- the byte at a place that was found
pub byte_stored_in : (rows : List Row) (bytes : List ℕ) (size flag a n place k b v : ℕ) → AreSound rows size → IsFound rows size flag a n place
    → size ≤ length bytes → k < n → b ≡ v % 2 ^ 8
    → memory_of rows (slice_set bytes (place + k) b) ≡ with_byte (memory_of rows bytes) (a + k) v
byte_stored_in rows bytes size flag a n place k b v sound found le lt same =
    let r = found.at k lt in
    let w = found.within in
    byte_stored rows bytes size (a + k) (place + k) b v r.0 sound r.1 r.2 (omega arith) same

-- ---- what is read, where it is mapped

pub one_mapped : (segments : List Segment) (flag a : ℕ) → are_mapped segments flag a 1 ≡ is_mapped segments flag a
unfolding are_mapped
one_mapped segments flag a = and-true (is_mapped segments flag a)

-- a range is two ranges
pub mapped_split : (segments : List Segment) (flag a m n : ℕ)
    → are_mapped segments flag a (m + n) ≡ (are_mapped segments flag a m && are_mapped segments flag (a + m) n)
unfolding are_mapped
mapped_split segments flag a zero n = let e : 0 + n ≡ n = omega arith in let f : a + 0 ≡ a = omega arith in rw (e, f) refl
mapped_split segments flag a (suc m) n =
    let e : suc m + n ≡ suc (m + n) = omega arith in
    let f : a + suc m ≡ a + 1 + m = omega arith in
    rw (e, f) (ap (λ (b : Bool). is_mapped segments flag a && b) (mapped_split segments flag (a + 1) m n)
    ∙ sym (and_assoc (is_mapped segments flag a) (are_mapped segments flag (a + 1) m) (are_mapped segments flag (a + 1 + m) n)))

pub some_if : (b : Bool) (x v : ℕ) → Some x ≡ cond b (Some v) None → (b ≡ true) × (x ≡ v)
some_if true x v e = (refl, some_number x v e)
  where
    some_number : (x v : ℕ) → ◌≡◌ {A = Option ℕ} (Some x) (Some v) → x ≡ v
    some_number x v e = cc
some_if false x v e = absurd cc

pub none_if : (b : Bool) (v : ℕ) → ◌≡◌ {A = Option ℕ} None (cond b (Some v) None) → b ≡ false
none_if true v e = absurd cc
none_if false v e = refl

if_none : (b : Bool) (v : ℕ) → b ≡ false → ◌≡◌ {A = Option ℕ} None (cond b (Some v) None)
if_none b v e = rw e refl

-- a byte that is not mapped
pub one_not : (memory : Memory) (flag a v : ℕ) → is_mapped (segments_in memory) flag a ≡ false → None ≡ if_mapped memory flag a 1 v
one_not memory flag a v h = if_none _ v (one_mapped (segments_in memory) flag a ∙ h)

module _ (memory : Memory) (flag a m n : ℕ) where
  -- the two halves of a range are there
  pub both_there : (x y v w z u : ℕ) → Some x ≡ if_mapped memory flag a m v → Some y ≡ if_mapped memory flag (a + m) n w → (x ≡ v → y ≡ w → z ≡ u)
      → Some z ≡ if_mapped memory flag a (m + n) u
  both_there x y v w z u e f h =
      let p = some_if _ x v e in
      let q = some_if _ y w f in
      let t : are_mapped (segments_in memory) flag a (m + n) ≡ true = mapped_split (segments_in memory) flag a m n ∙ and_from _ _ p.0 q.0 in
      rw t (ap Some (h p.1 q.1))

  -- or one of them is not
  pub first_not : (v u : ℕ) → None ≡ if_mapped memory flag a m v → None ≡ if_mapped memory flag a (m + n) u
  first_not v u e =
      let t : are_mapped (segments_in memory) flag a (m + n) ≡ false = mapped_split (segments_in memory) flag a m n ∙ rw (none_if _ v e) refl in
      if_none _ u t

  pub second_not : (w u : ℕ) → None ≡ if_mapped memory flag (a + m) n w → None ≡ if_mapped memory flag a (m + n) u
  second_not w u e =
      let t : are_mapped (segments_in memory) flag a (m + n) ≡ false = mapped_split (segments_in memory) flag a m n
      ∙ rw (none_if _ w e) (and-false (are_mapped (segments_in memory) flag a m)) in
      if_none _ u t

-- ---- what is read at a place that was found, where nothing has changed since

kept_found : (old new : Memory) (flag a n place : ℕ) → IsKept old new → IsFound new.rows.items (length new.bytes.items) flag a n place
    → IsFound old.rows.items (length old.bytes.items) flag a n place
kept_found old new flag a n place k f =
    subst (λ (v : Vec Row). IsFound v.items (length old.bytes.items) flag a n place) k.rows
    (subst (λ (v : Vec ℕ). IsFound new.rows.items (length v.items) flag a n place) k.bytes f)

module _ (old new : Memory) (flag a n place : ℕ) (bytes : List ℕ) (kept : IsKept old new)
    (found : IsFound new.rows.items (length new.bytes.items) flag a n place) (same : bytes ≡ new.bytes.items) where
  found_before : IsFound old.rows.items (length old.bytes.items) flag a n place
  found_before = kept_found old new flag a n place kept found

  bytes_before : bytes ≡ old.bytes.items
  bytes_before = same ∙ ap (λ (v : Vec ℕ). v.items) kept.bytes

  pub mapped_before : are_mapped (segments_in old) flag a n ≡ true
  mapped_before = found_before.mapped

  pub byte_before : (k : ℕ) → k < n → slice_index bytes (place + k) ≡ content_of old (a + k)
  byte_before k lt = ap (λ (bs : List ℕ). slice_index bs (place + k)) bytes_before
      ∙ sym (byte_found old.rows.items old.bytes.items (length old.bytes.items) flag a n place found_before k lt)

  pub first_before : 0 < n → slice_index bytes place ≡ content_of old a
  first_before lt =
      let e : place ≡ place + 0 = omega arith in
      let f : a + 0 ≡ a = omega arith in
      ap (slice_index bytes) e ∙ byte_before 0 lt ∙ ap (content_of old) f

module _ (old new : Memory) (flag a place : ℕ) (bytes : List ℕ) (kept : IsKept old new) (same : bytes ≡ new.bytes.items) where
  pub byte_loaded : (v : ℕ) → IsFound new.rows.items (length new.bytes.items) flag a 1 place → v ≡ slice_index bytes place
      → Some v ≡ if_mapped old flag a 1 (content_of old a)
  byte_loaded v found e =
      rw (mapped_before old new flag a 1 place bytes kept found same)
      (ap Some (e ∙ first_before old new flag a 1 place bytes kept found same (omega arith)))

  pub half_loaded : (v : ℕ) → IsFound new.rows.items (length new.bytes.items) flag a 2 place
      → v ≡ slice_index bytes place + 2 ^ 8 * slice_index bytes (place + 1) → Some v ≡ if_mapped old flag a 2 (half_at (content_of old) a)
  half_loaded v found e =
      let b0 = first_before old new flag a 2 place bytes kept found same (omega arith) in
      let b1 = byte_before old new flag a 2 place bytes kept found same 1 (omega arith) in
      rw (mapped_before old new flag a 2 place bytes kept found same) (ap Some (e ∙ two _ _ _ _ b0 b1))
    where
      two : (b0 b1 c0 c1 : ℕ) → b0 ≡ c0 → b1 ≡ c1 → b0 + 2 ^ 8 * b1 ≡ c0 + 2 ^ 8 * c1
      two b0 b1 c0 c1 e0 e1 = cc

  pub word_loaded : (v : ℕ) → IsFound new.rows.items (length new.bytes.items) flag a 4 place
      → v ≡ slice_index bytes place + 2 ^ 8 * slice_index bytes (place + 1) + 2 ^ 16 * slice_index bytes (place + 2) + 2 ^ 24 * slice_index bytes
      (place + 3) → Some v ≡ if_mapped old flag a 4 (word_at (content_of old) a)
  word_loaded v found e =
      let b0 = first_before old new flag a 4 place bytes kept found same (omega arith) in
      let b1 = byte_before old new flag a 4 place bytes kept found same 1 (omega arith) in
      let b2 = byte_before old new flag a 4 place bytes kept found same 2 (omega arith) in
      let b3 = byte_before old new flag a 4 place bytes kept found same 3 (omega arith) in
      rw (mapped_before old new flag a 4 place bytes kept found same) (ap Some (e ∙ four _ _ _ _ _ _ _ _ b0 b1 b2 b3))
    where
      four : (b0 b1 b2 b3 c0 c1 c2 c3 : ℕ) → b0 ≡ c0 → b1 ≡ c1 → b2 ≡ c2 → b3 ≡ c3
          → b0 + 2 ^ 8 * b1 + 2 ^ 16 * b2 + 2 ^ 24 * b3 ≡ c0 + 2 ^ 8 * c1 + 2 ^ 16 * c2 + 2 ^ 24 * c3
      four b0 b1 b2 b3 c0 c1 c2 c3 e0 e1 e2 e3 = cc

-- a shorter range is found where a longer one is
pub narrower : (rows : List Row) (size flag a n m place : ℕ) → m ≤ n → IsFound rows size flag a n place → IsFound rows size flag a m place
narrower rows size flag a n m place le found =
    let e : m + (n - m) ≡ n = omega arith in
    let all : are_mapped (segments_of rows) flag a (m + (n - m)) ≡ true = ap (are_mapped (segments_of rows) flag a) e ∙ found.mapped in
    record {
      within = let w = found.within in omega arith;
      mapped = (and_parts _ _ (sym (mapped_split (segments_of rows) flag a m (n - m)) ∙ all)).0;
      at = λ k lt. found.at k (omega arith);
    }

-- two halves of a word
pub half_joined : (low high b0 b1 : ℕ) → low ≡ b0 → high ≡ b1 → low + 256 * high ≡ b0 + 2 ^ 8 * b1
half_joined low high b0 b1 e f = omega arith

pub word_joined : (content : ℕ → ℕ) (a low high : ℕ) → low ≡ half_at content a → high ≡ half_at content (a + 2) → low + 65536 * high ≡ word_at content a
word_joined content a low high e f =
    let g : content (a + 2 + 1) ≡ content (a + 3) = let h : a + 2 + 1 ≡ a + 3 = omega arith in ap content h in
    omega arith

-- ---- ranges piece by piece

-- a part of a range that stands in one row
pub stretch_found : (rows : List Row) (size flag a n place : ℕ) (r : Row) → AreSound rows size → row_at rows a ≡ Some r → allows r flag ≡ true
    → place ≡ place_in r a → a + n ≤ r.at + r.size → IsFound rows size flag a n place
stretch_found rows size flag a n place r sound e allowed p high =
    let serves = row_at_serves rows size a r sound e in
    let ends = held_between r a (row_at_holds rows a r e) in
    subst (λ (x : ℕ). IsFound rows size flag a n x) (sym p) (found_in rows size flag a n r serves allowed ends.0 high)

-- a range whose first part is mapped is mapped as the rest is
pub mapped_rest : (segments : List Segment) (flag a n m : ℕ) → are_mapped segments flag a n ≡ true → n ≤ m
    → are_mapped segments flag a m ≡ are_mapped segments flag (a + n) (m - n)
mapped_rest segments flag a n m first le =
    let e : n + (m - n) ≡ m = omega arith in
    ap (are_mapped segments flag a) (sym e) ∙ mapped_split segments flag a n (m - n) ∙ rw first refl

-- a range whose first byte is not mapped is not
pub mapped_first_not : (segments : List Segment) (flag a n : ℕ) → 0 < n → is_mapped segments flag a ≡ false → are_mapped segments flag a n ≡ false
unfolding are_mapped
mapped_first_not segments flag a zero lt h = absurd (omega arith)
mapped_first_not segments flag a (suc n) lt h = rw h refl

-- nothing is always mapped
pub mapped_nothing : (segments : List Segment) (flag a n : ℕ) → n ≡ 0 → are_mapped segments flag a n ≡ true
unfolding are_mapped
mapped_nothing segments flag a n e = rw e refl
