-- Bytes of memory as pieces that a stream takes or gives one after the other.
use Rattle.std.proofs.Common.{◌≡◌, ℕ, zero, suc, ◌+◌, ◌-◌, ◌%◌, ◌^◌, ◌<◌, ◌≤◌, min, Bool, true, cond, List, [], ◌∷◌, ◌++◌, length, take, drop}
use Rattle.std.proofs.Common.{get_or, Option, Some, None, Ok, Err, option_map, refl, sym, ap, subst, ◌∙◌, arith, append_assoc, append-nil}
use Rattle.std.proofs.Common.{length-append}
use Rattle.std.specs.Prelude.{slice_index}
use Rattle.std.specs.Global.{Vec}
use Rattle.std.proofs.Math.Path.{fun_ext}
use Rattle.std.proofs.Math.Seq.{take-append-add, get_or-append_seam, take-append_seam, drop-append_seam}
use Rattle.std.proofs.lemmas.Bool.{and_parts}
use Rattle.std.proofs.lemmas.Bool.Decides.{nat_tests}
use Rattle.std.proofs.lemmas.List.{drop_more, get_or_append_left, take-append-le, take_min, length-take-le, length-drop}
use Rattle.lay_base.specs.declared.outside.SinkFault.{SinkFault}
use Rattle.lay_base.specs.Known.{Rose, Appends, Consumes}
use Rattle.lay_base.specs.Calls.{PutGives}
use Rattle.rv_isa.specs.declared.image.Segment.{Segment}
use Rattle.rv_isa.specs.Memory.{Memory as Content, is_mapped, are_mapped, writable, bytes_at, with_byte, with_bytes}
use Rattle.rv_machine.specs.declared.rows.Row.{Row}
use Rattle.rv_machine.specs.declared.memory.Memory.{Memory}
use Rattle.rv_machine.specs.Rows.{segments_of, IsFound}
use Rattle.rv_machine.specs.View.{segments_in, content_of}
use Rattle.rv_machine.specs.Streams.{ComesIn, ReadsIn}
use Rattle.rv_machine.proofs.Places.{byte_found, mapped_split}
use Rattle.rv_machine.proofs.Stores.{mapped_at}

-- ---- pieces of memory

-- a range without its first part is mapped where the range is
pub mapped_after : (segments : List Segment) (flag a n m : ℕ) → are_mapped segments flag a m ≡ true → n ≤ m → are_mapped segments flag (a + n) (m - n) ≡ true
mapped_after segments flag a n m mapped le =
    let e : n + (m - n) ≡ m = omega arith in
    (and_parts _ _ (sym (mapped_split segments flag a n (m - n)) ∙ ap (are_mapped segments flag a) e ∙ mapped)).1

-- the bytes of a range are those of its first part and those after
bytes_split : (content : Content) (a n m : ℕ) → bytes_at content a (n + m) ≡ bytes_at content a n ++ bytes_at content (a + n) m
unfolding bytes_at
bytes_split content a zero m = let e : 0 + m ≡ m = omega arith in let f : a + 0 ≡ a = omega arith in rw (e, f) refl
bytes_split content a (suc n) m =
    let e : suc n + m ≡ suc (n + m) = omega arith in
    let f : a + suc n ≡ a + 1 + n = omega arith in
    rw (e, f) (ap (λ (bytes : List ℕ). content a ∷ bytes) (bytes_split content (a + 1) n m))

pub bytes_after : (content : Content) (a n m : ℕ) → n ≤ m → bytes_at content a m ≡ bytes_at content a n ++ bytes_at content (a + n) (m - n)
bytes_after content a n m le = let e : n + (m - n) ≡ m = omega arith in ap (bytes_at content a) (sym e) ∙ bytes_split content a n (m - n)

pub bytes_none : (content : Content) (a n : ℕ) → n ≡ 0 → bytes_at content a n ≡ []
unfolding bytes_at
bytes_none content a n e = rw e refl

-- bytes that stand one after the other from a place on
bytes_standing : (content : Content) (bytes : List ℕ) (a place n : ℕ) → place + n ≤ length bytes
    → ((k : ℕ) → k < n → content (a + k) ≡ slice_index bytes (place + k)) → take n (drop place bytes) ≡ bytes_at content a n
unfolding bytes_at
bytes_standing content bytes a place zero le each = refl
bytes_standing content bytes a place (suc n) le each =
    let first : content a ≡ get_or bytes place 0 = let e : a + 0 ≡ a = omega arith in let f : place + 0 ≡ place = omega arith in
    rw (e, f) at (each 0 (omega arith)) in
    let others = bytes_standing content bytes (a + 1) (place + 1) n (omega arith) (λ k lt. let e : a + 1 + k ≡ a + suc k = omega arith in
    let f : place + 1 + k ≡ place + suc k = omega arith in rw (e, f) (each (suc k) (omega arith))) in
    ap (take (suc n)) (drop_more bytes place 0 (omega arith)) ∙ cc (first, others)

-- the piece at a place that was found
pub piece_found : (memory : Memory) (flag a n place m : ℕ) (bytes : List ℕ) → IsFound memory.rows.items (length memory.bytes.items) flag a n place
    → bytes ≡ memory.bytes.items → m ≡ n
    → take m (drop place bytes) ≡ bytes_at (content_of memory) a (length (take m (drop place bytes)))
piece_found memory flag a n place m bytes found same e =
    let within = found.within in
    let size : length bytes ≡ length memory.bytes.items = ap length same in
    let long : length (take n (drop place bytes)) ≡ n = length-take-le n (drop place bytes) (omega (arith, length-drop place bytes)) in
    let is : take n (drop place bytes) ≡ bytes_at (content_of memory) a n =
    bytes_standing (content_of memory) bytes a place n (omega arith)
    (λ k lt. byte_found memory.rows.items memory.bytes.items (length memory.bytes.items) flag a n place found k lt
    ∙ ap (λ (bs : List ℕ). slice_index bs (place + k)) (sym same)) in
    rw (e, long) is

-- ---- pieces that are put

-- known bytes with one piece after them and then another
appends_both : (old between new : Option (List ℕ)) (p q : List ℕ) → Appends old between p → Appends between new q → Appends old new (p ++ q)
appends_both old between new p q a b = b ∙ ap (option_map (λ bytes. bytes ++ q)) a ∙ joined old
  where
    joined : (o : Option (List ℕ)) → option_map (λ bytes. bytes ++ q) (option_map (λ bytes. bytes ++ p) o) ≡ option_map (λ bytes. bytes ++ (p ++ q)) o
    joined None = refl
    joined (Some bytes) = ap Some (append_assoc bytes p q)

-- a first part of the bytes is put, with no fault, and this is the rest
pub record Wrote (before now : ℕ) (old new : Option (List ℕ)) (bytes rest : List ℕ) : Type 0 where
  pub kept : now ≡ before
  pub done : List ℕ
  pub gained : Appends old new done
  pub whole : bytes ≡ done ++ rest

-- the rest begins with a piece
pub wrote_split : (before mid : ℕ) (old between : Option (List ℕ)) (bytes piece : List ℕ) (content : Content) (a n : ℕ)
    → Wrote before mid old between bytes (bytes_at content a n) → piece ≡ bytes_at content a (length piece) → length piece ≤ n
    → Wrote before mid old between bytes (piece ++ bytes_at content (a + length piece) (n - length piece))
wrote_split before mid old between bytes piece content a n wrote is le =
    let e : bytes_at content a n ≡ piece ++ bytes_at content (a + length piece) (n - length piece) =
    bytes_after content a (length piece) n le ∙ ap (λ (p : List ℕ). p ++ bytes_at content (a + length piece) (n - length piece)) (sym is) in
    subst (Wrote before mid old between bytes) e wrote

module _ (before mid now : ℕ) (old between new : Option (List ℕ)) (bytes piece rest : List ℕ) (wrote : Wrote before mid old between bytes (piece ++ rest)) where
  pub wrote_more : now ≡ mid → Appends between new piece → Wrote before now old new bytes rest
  wrote_more kept gained = record {
    kept = kept ∙ wrote.kept;
    done = wrote.done ++ piece;
    gained = appends_both old between new wrote.done piece wrote.gained gained;
    whole = wrote.whole ∙ sym (append_assoc wrote.done piece rest);
  }

  -- where the piece fails, a first part of all bytes was put
  pub wrote_part : (fault : SinkFault) → PutGives mid now between new piece (Err fault) → PutGives before now old new bytes (Err fault)
  wrote_part fault h =
      let k : ℕ = min h.1.0 (length piece) in
      let part : take k (piece ++ rest) ≡ take h.1.0 piece = take-append-le k piece rest (omega arith) ∙ take_min h.1.0 piece in
      let all : take (length wrote.done + k) bytes ≡ wrote.done ++ take h.1.0 piece =
      ap (take (length wrote.done + k)) wrote.whole ∙ take-append-add wrote.done (piece ++ rest) k ∙ ap (λ (q : List ℕ). wrote.done ++ q) part in
      let gained = appends_both old between new wrote.done (take h.1.0 piece) wrote.gained h.1.1 in
      (subst (λ (n : ℕ). Rose n now) wrote.kept h.0, (length wrote.done + k, subst (Appends old new) (sym all) gained))

pub wrote_all : (before now : ℕ) (old new : Option (List ℕ)) (bytes rest : List ℕ) → Wrote before now old new bytes rest → rest ≡ [] → Appends old new bytes
wrote_all before now old new bytes rest wrote none =
    let whole : bytes ≡ wrote.done = wrote.whole ∙ ap (λ (q : List ℕ). wrote.done ++ q) none ∙ append-nil wrote.done in
    subst (Appends old new) (sym whole) wrote.gained

-- ---- bytes that come in

-- one piece and then another are taken
consumes_both : (old between new : Option (List ℕ)) (p q : List ℕ) → Consumes old between p → Consumes between new q → Consumes old new (p ++ q)
consumes_both old between new p q a b = a ∙ ap (option_map (λ bytes. p ++ bytes)) b ∙ joined new
  where
    joined : (o : Option (List ℕ)) → option_map (λ bytes. p ++ bytes) (option_map (λ bytes. q ++ bytes) o) ≡ option_map (λ bytes. (p ++ q) ++ bytes) o
    joined None = refl
    joined (Some bytes) = ap Some (sym (append_assoc p q bytes))

-- one byte more
with_more : (content : Content) (a v : ℕ) (piece : List ℕ) (b : ℕ) → v % 2 ^ 8 ≡ b
    → with_byte (with_bytes content a piece) (a + length piece) v ≡ with_bytes content a (piece ++ b ∷ [])
with_more content a v piece b e = fun_ext (λ x.
    let size : length (piece ++ b ∷ []) ≡ length piece + 1 = omega (arith, length-append piece (b ∷ [])) in
    let last = get_or-append_seam piece b [] 0 in
    let before : x - a < length piece → get_or (piece ++ b ∷ []) (x - a) 0 ≡ get_or piece (x - a) 0 = get_or_append_left piece (b ∷ []) 0 (x - a) in
    grind (arith, nat_tests))

-- a byte is taken and stored after the others
pub comes_more : (old between new : Option (List ℕ)) (content content1 content2 : Content) (a n v b : ℕ) → ComesIn old between content content1 a n
    → Consumes between new (b ∷ []) → content2 ≡ with_byte content1 (a + n) v → v % 2 ^ 8 ≡ b
    → ComesIn old new content content2 a (n + 1)
comes_more old between new content content1 content2 a n v b came taken stored same = record {
  piece = came.piece ++ b ∷ [];
  size = omega (arith, length-append came.piece (b ∷ []), came.size);
  taken = consumes_both old between new came.piece (b ∷ []) came.taken taken;
  stored = stored ∙ ap (λ (m : Content). with_byte m (a + n) v) came.stored
      ∙ ap (λ (k : ℕ). with_byte (with_bytes content a came.piece) (a + k) v) (sym came.size) ∙ with_more content a v came.piece b same;
}

-- a byte of a range that may be written is stored, in a memory with the same rows as the first
pub stored_in : (first old new : Memory) (a n k v : ℕ) (done : Bool) → are_mapped (segments_in first) writable a n ≡ true → k < n
    → old.rows ≡ first.rows → done ≡ is_mapped (segments_in old) writable (a + k)
    → content_of new ≡ cond done (with_byte (content_of old) (a + k) v) (content_of old) → content_of new ≡ with_byte (content_of old) (a + k) v
stored_in first old new a n k v done all lt rows mapped content =
    let t : done ≡ true = mapped ∙ ap (λ (r : Vec Row). is_mapped (segments_of r.items) writable (a + k)) rows
    ∙ mapped_at (segments_in first) writable a n all k lt in
    content ∙ ap (λ (b : Bool). cond b (with_byte (content_of old) (a + k) v) (content_of old)) t

-- ---- what a read is to the step

-- of known input as many bytes come in as are asked for and there are
pub record ReadsKnown (left : List ℕ) (new : Option (List ℕ)) (content content1 : Content) (address count n : ℕ) : Type 0 where
  pub number : n ≡ min count (length left)
  pub rest : new ≡ Some (drop n left)
  pub stored : content1 ≡ with_bytes content address (take n left)

pub reads_known : (before now : ℕ) (old new : Option (List ℕ)) (left : List ℕ) (content content1 : Content) (address count n : ℕ) → old ≡ Some left
    → ReadsIn before now old new content content1 address count (Ok n)
    → ReadsKnown left new content content1 address count n
reads_known before now old None left content content1 address count n known h = absurd (let e = sym known ∙ h.0.taken in cc)
reads_known before now old (Some rest) left content content1 address count n known h =
    let came = h.0 in
    let parts : left ≡ came.piece ++ rest = some_is left (came.piece ++ rest) (sym known ∙ came.taken) in
    let size : length left ≡ n + length rest = ap length parts ∙ length-append came.piece rest ∙ ap (λ (k : ℕ). k + length rest) came.size in
    let ended : n < count → length rest ≡ 0 = λ lt. ap length (h.2 lt) in
    record {
      number = fewest n count (length left) (length rest) size h.1 ended;
      rest = ap Some (sym (ap (drop n) parts ∙ ap (λ (k : ℕ). drop k (came.piece ++ rest)) (sym came.size) ∙ drop-append_seam came.piece rest));
      stored = came.stored ∙ ap (with_bytes content address) (sym (ap (take n) parts ∙ ap (λ (k : ℕ). take k (came.piece ++ rest)) (sym came.size)
          ∙ take-append_seam came.piece rest));
    }
  where
    some_is : (p q : List ℕ) → ◌≡◌ {A = Option (List ℕ)} (Some p) (Some q) → p ≡ q
    some_is p q e = cc

    fewest : (n count all rest : ℕ) → all ≡ n + rest → n ≤ count → (n < count → rest ≡ 0) → n ≡ min count all
    fewest n count all rest e le ended = grind arith
