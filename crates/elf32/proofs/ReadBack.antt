-- The file of an image loads as that image.
use Rattle.std.proofs.Common.{◌≡◌, ℕ, ◌+◌, ◌*◌, ◌-◌, ◌%◌, ◌^◌, ◌<◌, ◌≤◌, Bool, false, eqb, List, [], ◌∷◌, ◌++◌, length, take, drop, slice_index}
use Rattle.std.proofs.Common.{Option, None, Result, Ok, Err, ◌⊎◌, inl, inr, refl, sym, ap, subst, map, ◌∙◌, eq-eqb, arith}
use Rattle.std.specs.Prelude.{not}
use Rattle.std.specs.List.{list_any}
use Rattle.std.proofs.lemmas.Bool.{le-ltb}
use Rattle.std.proofs.lemmas.List.{length-append}
use Rattle.lay_base.specs.Want.{no_memory}
use Rattle.rv_isa.specs.declared.image.Image.{Image}
use Rattle.rv_isa.specs.declared.image.Segment.{Segment}
use Rattle.elf32.specs.declared.header.ProgramHeader.{ProgramHeader}
use Rattle.elf32.specs.Header.{half_at, word_at, magic, entry, headers_offset, header_size, header_count, header_at, loadable}
use Rattle.elf32.specs.Loaded.{Test, file_tests, meets, segment_tests, segments_tests, last_tests, tests, greatest_total, segment_of, image_of}
use Rattle.elf32.specs.Loaded.{unless_refused, loaded}
use Rattle.elf32.specs.declared.fault.ElfFault.{ElfFault}
use Rattle.elf32.specs.declared.fault.ElfFault.TheVariants.{BadElf, Memory}
use Rattle.elf32.specs.Read.{ReadGives}
use Rattle.elf32.specs.Written.{text_address, IsFull, IsRoom, AreInPlace, AreFourSegments, IsWritable, word, page_up, zeros, file_header}
use Rattle.elf32.specs.Written.{program_header, data_offset, four_headers, file_of, elf_file}
use Rattle.elf32.proofs.Tests.{AllPass, AllPass-append, none_refuses}
use Rattle.elf32.proofs.Parts.{length-zeros, length-file_header, length-four_headers, length-parts, text_part, data_part}

-- ---- program headers

-- a program header by its fields
abbrev header_with : (kind offset address file_size memory_size flags : ℕ) → ProgramHeader
header_with k o a f m g = record { kind = k; offset = o; address = a; file_size = f; memory_size = m; flags = g }

-- the program header that is written
abbrev header_of : (offset file_size : ℕ) → Segment → ProgramHeader
header_of offset file_size s = header_with 1 offset s.at file_size s.size s.flags

-- program headers are the same when each of their fields is
same_headers : (g h : ProgramHeader) → g.kind ≡ h.kind → g.offset ≡ h.offset → g.address ≡ h.address → g.file_size ≡ h.file_size
    → g.memory_size ≡ h.memory_size → g.flags ≡ h.flags → g ≡ h
same_headers g h a b c d e f =
    let same : header_with g.kind g.offset g.address g.file_size g.memory_size g.flags
    ≡ header_with h.kind h.offset h.address h.file_size h.memory_size h.flags = cc in same

-- a word that is written is read again
word_again : (n : ℕ) → n < 2 ^ 32 → word_at (word n) 0 ≡ n
word_again n lt = omega arith

-- each number has as many bits as its field; of the flags only the low byte counts
record FitsHeader (at size : ℕ) (s : Segment) : Type 0 where
  offset : at < 2 ^ 32
  address : s.at < 2 ^ 32
  file_size : size < 2 ^ 32
  memory_size : s.size < 2 ^ 32
  flags : s.flags < 2 ^ 8

-- a program header that is written is read again
header_again : (offset file_size : ℕ) (s : Segment) → FitsHeader offset file_size s
    → header_at (program_header offset file_size s) 0 ≡ header_of offset file_size s
header_again offset file_size s fits =
    same_headers _ _ refl (word_again offset fits.offset) (word_again s.at fits.address) (word_again file_size fits.file_size)
    (word_again s.size fits.memory_size) (word_again s.flags (omega arith))

-- the numbers of a segment with bytes fit its header
full_fits : (offset : ℕ) (s : Segment) (address flags least most : ℕ) → IsFull s address flags least most → offset < 2 ^ 32 → address < 2 ^ 32
    → flags < 2 ^ 8 → most < 2 ^ 32 → FitsHeader offset (length s.bytes) s
full_fits offset s address flags least most full o a g m =
    record { offset = o; address = omega arith; file_size = omega arith; memory_size = omega arith; flags = omega arith }

-- and those of a segment without
room_fits : (s : Segment) (address most_mib : ℕ) → IsRoom s address most_mib → address < 2 ^ 32 → most_mib < 2 ^ 12 → FitsHeader 0 0 s
room_fits s address most room a m =
    record { offset = omega arith; address = omega arith; file_size = omega arith; memory_size = omega arith; flags = omega arith }

-- ---- what is read of a file

-- what the fields of the headers are read as
record Reads (bytes : List ℕ) (e : ℕ) (headers : List ProgramHeader) : Type 0 where
  long : 180 ≤ length bytes
  magic : word_at bytes 0 ≡ magic
  class : slice_index bytes 4 ≡ 1
  order : slice_index bytes 5 ≡ 1
  ident : slice_index bytes 6 ≡ 1
  kind : half_at bytes 16 ≡ 2
  machine : half_at bytes 18 ≡ 243
  version : word_at bytes 20 ≡ 1
  entry : entry bytes ≡ e
  offset : headers_offset bytes ≡ 52
  size : header_size bytes ≡ 32
  count : header_count bytes ≡ 4
  loads : loadable bytes ≡ headers

-- the program headers of four segments
abbrev headers_of : (text globals stack heap : Segment) → List ProgramHeader
headers_of text globals stack heap =
    header_of 0x1000 (length text.bytes) text ∷ header_of (data_offset text) (length globals.bytes) globals ∷ header_of 0 0 stack ∷ header_of 0 0 heap ∷ []

-- four things that are the same, one by one
same_four : {A : Type 0} (a b c d a' b' c' d' : A) → a ≡ a' → b ≡ b' → c ≡ c' → d ≡ d' → a ∷ b ∷ c ∷ d ∷ [] ≡ a' ∷ b' ∷ c' ∷ d' ∷ []
same_four a b c d a' b' c' d' ea eb ec ed = cc

-- what is read of the headers that are written, whatever follows them
reads : (e : ℕ) (text globals stack heap : Segment) (rest : List ℕ) → e < 2 ^ 32 → AreInPlace text globals stack heap
    → Reads (file_header e 4 ++ (four_headers text globals stack heap ++ rest)) e (headers_of text globals stack heap)
reads e text globals stack heap rest lt placed =
    let headers = four_headers text globals stack heap in
    let text_fits = full_fits 0x1000 text _ _ _ _ placed.text_full (omega arith) (omega arith) (omega arith) (omega arith) in
    let globals_fits = full_fits (data_offset text) globals _ _ _ _ placed.globals_full (omega arith) (omega arith) (omega arith) (omega arith) in
    let stack_fits = room_fits stack _ _ placed.stack_room (omega arith) (omega arith) in
    let heap_fits = room_fits heap _ _ placed.heap_room (omega arith) (omega arith) in
    record {
      long = omega (
        arith,
        length-append (file_header e 4) (headers ++ rest),
        length-append headers rest,
        length-file_header e,
        length-four_headers text globals stack heap,
      );
      magic = refl;
      class = refl;
      order = refl;
      ident = refl;
      kind = refl;
      machine = refl;
      version = refl;
      entry = word_again e lt;
      offset = refl;
      size = refl;
      count = refl;
      loads = same_four _ _ _ _ _ _ _ _
          (header_again 0x1000 (length text.bytes) text text_fits)
          (header_again (data_offset text) (length globals.bytes) globals globals_fits)
          (header_again 0 0 stack stack_fits)
          (header_again 0 0 heap heap_fits);
    }

-- ---- tests

-- a field with the number that it is to have
is_wanted : (found wanted : ℕ) → found ≡ wanted → not (eqb found wanted) ≡ false
is_wanted found wanted e = ap not (eq-eqb found wanted e)

-- the tests of the file header
file_passes : (bytes : List ℕ) (e : ℕ) (a b c d : ProgramHeader) → Reads bytes e (a ∷ b ∷ c ∷ d ∷ []) → AllPass (file_tests bytes)
file_passes bytes e a b c d r = (
  le-ltb _ _ (omega arith),
  (
    is_wanted _ _ r.magic,
    (
      is_wanted _ _ r.class,
      (
        is_wanted _ _ r.order,
        (
          is_wanted _ _ r.ident,
          (
            is_wanted _ _ r.kind,
            (
              is_wanted _ _ r.machine,
              (
                is_wanted _ _ r.version,
                (
                  rw (r.count, r.size) refl,
                  (
                    rw (r.count, r.offset) (le-ltb _ _ (omega arith)),
                    (
                      rw r.loads refl,
                      tt,
                    ),
                  ),
                ),
              ),
            ),
          ),
        ),
      ),
    ),
  ),
)

-- a segment that ends before another begins
apart : (h earlier : ProgramHeader) → earlier.address + earlier.memory_size ≤ h.address → meets h earlier ≡ false
apart h earlier le = le-ltb _ _ (omega arith)

-- a segment whose bytes are in the file, and whose addresses are below 2^32
record IsHeld (file_length : ℕ) (h : ProgramHeader) : Type 0 where
  range : h.offset + h.file_size ≤ file_length
  sizes : h.file_size ≤ h.memory_size
  address : h.address + h.memory_size ≤ 2 ^ 32

-- the tests of a segment
segment_passes : (file_length : ℕ) (earlier : List ProgramHeader) (h : ProgramHeader) → IsHeld file_length h → list_any (meets h) earlier ≡ false
    → AllPass (segment_tests file_length earlier h)
segment_passes n earlier h held overlap = (le-ltb _ _ held.range, (le-ltb _ _ held.sizes, (le-ltb _ _ held.address, (overlap, tt))))

-- the tests of a segment, then those of the ones after it
segments_then : (n : ℕ) (earlier : List ProgramHeader) (h : ProgramHeader) (hs : List ProgramHeader) → IsHeld n h → list_any (meets h) earlier ≡ false
    → AllPass (segments_tests n (earlier ++ h ∷ []) hs) → AllPass (segments_tests n earlier (h ∷ hs))
segments_then n earlier h hs held overlap rest =
    AllPass-append (segment_tests n earlier h) (segments_tests n (earlier ++ h ∷ []) hs) (segment_passes n earlier h held overlap) rest

-- a test that holds of none of a list
not_any : (test : ProgramHeader → Bool) (h : ProgramHeader) (hs : List ProgramHeader) → test h ≡ false → list_any test hs ≡ false
    → list_any test (h ∷ hs) ≡ false
not_any test h hs e rest = rw e rest

-- the tests of four segments in the order of their addresses
segments_pass : (n : ℕ) (a b c d : ProgramHeader) → IsHeld n a → IsHeld n b → IsHeld n c → IsHeld n d
    → a.address + a.memory_size ≤ b.address → b.address + b.memory_size ≤ c.address → c.address + c.memory_size ≤ d.address
    → AllPass (segments_tests n [] (a ∷ b ∷ c ∷ d ∷ []))
segments_pass n a b c d ha hb hc hd ab bc cd =
    let before_b : list_any (meets b) (a ∷ []) ≡ false = not_any (meets b) a [] (apart b a ab) refl in
    let before_c : list_any (meets c) (a ∷ b ∷ []) ≡ false = not_any (meets c) a (b ∷ []) (apart c a (omega arith))
    (not_any (meets c) b [] (apart c b bc) refl) in
    let before_d : list_any (meets d) (a ∷ b ∷ c ∷ []) ≡ false = not_any (meets d) a (b ∷ c ∷ []) (apart d a (omega arith))
    (not_any (meets d) b (c ∷ []) (apart d b (omega arith)) (not_any (meets d) c [] (apart d c cd) refl)) in
    segments_then n [] a (b ∷ c ∷ d ∷ []) ha refl
    (segments_then n (a ∷ []) b (c ∷ d ∷ []) hb before_b
    (segments_then n (a ∷ b ∷ []) c (d ∷ []) hc before_c
    (segments_then n (a ∷ b ∷ c ∷ []) d [] hd before_d tt)))

-- the tests of all segments together and of the entry
last_pass : (bytes : List ℕ) (e : ℕ) (a b c d : ProgramHeader) → Reads bytes e (a ∷ b ∷ c ∷ d ∷ [])
    → a.memory_size + (b.memory_size + (c.memory_size + d.memory_size)) ≤ greatest_total → e % 4 ≡ 0 → AllPass (last_tests bytes)
last_pass bytes e a b c d r sum whole = (rw r.loads (le-ltb _ _ (omega arith)), (is_wanted (entry bytes % 4) 0 (ap (λ (n : ℕ). n % 4) r.entry ∙ whole), tt))

-- ---- the image

-- a segment and an image by their fields
abbrev segment_with : (at size flags : ℕ) → List ℕ → Segment
segment_with at size flags bytes = record { at = at; size = size; flags = flags; bytes = bytes }

abbrev image_with : ℕ → List Segment → Image
image_with e segments = record { entry = e; segments = segments }

-- segments are the same when each of their fields is
same_segments : (s u : Segment) → s.at ≡ u.at → s.size ≡ u.size → s.flags ≡ u.flags → s.bytes ≡ u.bytes → s ≡ u
same_segments s u a b c d = let same : segment_with s.at s.size s.flags s.bytes ≡ segment_with u.at u.size u.flags u.bytes = cc in same

-- a segment whose bytes stand at its offset
segment_again : (bytes : List ℕ) (offset size : ℕ) (s : Segment) → s.flags < 2 ^ 8 → take size (drop offset bytes) ≡ s.bytes
    → segment_of bytes (header_of offset size s) ≡ s
segment_again bytes offset size s lt slice = same_segments _ s refl refl (omega arith) slice

-- ---- all of a file

-- bytes from which the headers of four segments are read, and that hold the bytes of the first two
record Holds (bytes : List ℕ) (text globals stack heap : Segment) : Type 0 where
  headers_read : Reads bytes text_address (headers_of text globals stack heap)
  file_length : length bytes ≡ data_offset text + length globals.bytes
  text_bytes : take (length text.bytes) (drop 0x1000 bytes) ≡ text.bytes
  globals_bytes : take (length globals.bytes) (drop (data_offset text) bytes) ≡ globals.bytes

-- a segment with bytes that the file holds
full_held : (n offset : ℕ) (s : Segment) (address flags least most : ℕ) → IsFull s address flags least most → offset + length s.bytes ≤ n
    → address + most ≤ 2 ^ 32 → IsHeld n (header_of offset (length s.bytes) s)
full_held n offset s address flags least most full range below = record { range = range; sizes = omega arith; address = omega arith }

-- a segment without
room_held : (n : ℕ) (s : Segment) (address most_mib : ℕ) → IsRoom s address most_mib → address + most_mib * 2 ^ 20 ≤ 2 ^ 32 → IsHeld n (header_of 0 0 s)
room_held n s address most room below = record { range = omega arith; sizes = omega arith; address = omega arith }

-- no test of such bytes refuses
all_pass : (bytes : List ℕ) (text globals stack heap : Segment) → AreInPlace text globals stack heap → Holds bytes text globals stack heap
    → AllPass (tests bytes)
all_pass bytes text globals stack heap placed holds =
    let a = header_of 0x1000 (length text.bytes) text in
    let b = header_of (data_offset text) (length globals.bytes) globals in
    let c = header_of 0 0 stack in
    let d = header_of 0 0 heap in
    let n = length bytes in
    let held_a : IsHeld n a = full_held n 0x1000 text _ _ _ _ placed.text_full (omega arith) (omega arith) in
    let held_b : IsHeld n b = full_held n (data_offset text) globals _ _ _ _ placed.globals_full (omega arith) (omega arith) in
    let held_c : IsHeld n c = room_held n stack _ _ placed.stack_room (omega arith) in
    let held_d : IsHeld n d = room_held n heap _ _ placed.heap_room (omega arith) in
    let segments : AllPass (segments_tests n [] (loadable bytes)) = rw holds.headers_read.loads
    (segments_pass n a b c d held_a held_b held_c held_d (omega arith) (omega arith) (omega arith)) in
    let last : AllPass (last_tests bytes) = last_pass bytes text_address a b c d holds.headers_read (omega arith) refl in
    AllPass-append (file_tests bytes) (segments_tests n [] (loadable bytes) ++ last_tests bytes)
    (file_passes bytes text_address a b c d holds.headers_read) (AllPass-append (segments_tests n [] (loadable bytes)) (last_tests bytes) segments
    last)

-- they give the image
image_again : (bytes : List ℕ) (text globals stack heap : Segment) → AreInPlace text globals stack heap → Holds bytes text globals stack heap
    → image_of bytes ≡ image_with text_address (text ∷ globals ∷ stack ∷ heap ∷ [])
image_again bytes text globals stack heap placed holds =
    let segments : map (segment_of bytes) (headers_of text globals stack heap) ≡ text ∷ globals ∷ stack ∷ heap ∷ [] = same_four _ _ _ _ _ _ _ _
    (segment_again bytes 0x1000 (length text.bytes) text (omega arith) holds.text_bytes)
    (segment_again bytes (data_offset text) (length globals.bytes) globals (omega arith) holds.globals_bytes)
    (segment_again bytes 0 0 stack (omega arith) (sym placed.stack_room.bytes))
    (segment_again bytes 0 0 heap (omega arith) (sym placed.heap_room.bytes)) in
    ap (λ (e : ℕ). image_with e (map (segment_of bytes) (loadable bytes))) holds.headers_read.entry
    ∙ ap (λ (hs : List ProgramHeader). image_with text_address (map (segment_of bytes) hs)) holds.headers_read.loads
    ∙ ap (image_with text_address) segments

-- they load as the image
loaded_again : (bytes : List ℕ) (text globals stack heap : Segment) → AreInPlace text globals stack heap → Holds bytes text globals stack heap
    → loaded bytes ≡ Ok (image_with text_address (text ∷ globals ∷ stack ∷ heap ∷ []))
unfolding loaded
loaded_again bytes text globals stack heap placed holds =
    ap (λ (r : Option Test). unless_refused r (image_of bytes)) (none_refuses (tests bytes) (all_pass bytes text globals stack heap placed holds))
    ∙ ap (λ (i : Image). unless_refused None i) (image_again bytes text globals stack heap placed holds)

-- the file that is written is such bytes
file_holds : (text globals stack heap : Segment) → AreInPlace text globals stack heap
    → Holds (file_of text_address (text ∷ globals ∷ stack ∷ heap ∷ [])) text globals stack heap
file_holds text globals stack heap placed =
    let f = file_header text_address 4 in
    let p = four_headers text globals stack heap in
    let z = zeros (0x1000 - 180) in
    let t = text.bytes in
    let y = zeros (page_up (length text.bytes) - length text.bytes) in
    let d = globals.bytes in
    let lz : length z ≡ 0x1000 - 180 = length-zeros (0x1000 - 180) in
    let ly : length y ≡ page_up (length t) - length t = length-zeros (page_up (length t) - length t) in
    record {
      headers_read = reads text_address text globals stack heap (z ++ (t ++ (y ++ d))) (omega arith) placed;
      file_length = length-parts f p z t y d ∙ rw (lz, ly) (omega arith);
      text_bytes = text_part f p z t y d 0x1000 (rw lz refl);
      globals_bytes = data_part f p z t y d (data_offset text) (rw (lz, ly) (omega arith));
    }

-- by its segments, of which there are four
again : (e : ℕ) (segments : List Segment) → e ≡ text_address → AreFourSegments segments → loaded (file_of e segments) ≡ Ok (image_with e segments)
again e (text ∷ globals ∷ stack ∷ heap ∷ []) is placed =
    let segments = text ∷ globals ∷ stack ∷ heap ∷ [] in
    subst (λ (n : ℕ). loaded (file_of n segments) ≡ Ok (image_with n segments)) (sym is)
    (loaded_again (file_of text_address segments) text globals stack heap placed (file_holds text globals stack heap placed))
again e segments is placed = absurd placed

-- a file that is written loads as the image that it was written for
pub read_back : (image : Image) → IsWritable image → loaded (elf_file image) ≡ Ok image
read_back image writable = again image.entry image.segments writable.entry writable.segments

-- so what the reader may answer for it is the image, or want of memory
pub read_again : (image : Image) (answer : Result Image ElfFault) → IsWritable image → ReadGives answer (loaded (elf_file image))
    → (answer ≡ Ok image) ⊎ (answer ≡ Err (Memory no_memory))
read_again image (Ok found) writable gives = inl (let is = read_back image writable in cc)
read_again image (Err (Memory want)) writable gives = inr refl
read_again image (Err (BadElf field found)) writable gives = let is = read_back image writable in cc
