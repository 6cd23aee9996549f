-- What loads can be held by a machine.
use Rattle.std.proofs.Common.{◌≡◌, ℕ, ◌+◌, ◌<◌, ◌≤◌, true, false, List, [], ◌∷◌, ◌++◌, length, drop, map, Option, Some, None, Ok, refl, sym, subst}
use Rattle.std.proofs.Common.{◌∙◌, append_assoc, arith}
use Rattle.std.specs.List.{All, list_any}
use Rattle.std.proofs.lemmas.Bool.{or_parts, and_parts, not-false, eqb-true, ltb-true, ltb-false, leb-true}
use Rattle.std.proofs.lemmas.List.{length-take}
use Rattle.std.proofs.lemmas.List.Elements.{All-nil, All-cons}
use Rattle.std.proofs.lemmas.List.Folds.{list_any-append}
use Rattle.rv_isa.specs.declared.image.Image.{Image}
use Rattle.rv_isa.specs.declared.image.Segment.{Segment}
use Rattle.rv_isa.specs.Memory.{is_in}
use Rattle.rv_isa.specs.Placed.{Fits, AreApart, AllPlaced, IsPlaced}
use Rattle.elf32.specs.declared.header.ProgramHeader.{ProgramHeader}
use Rattle.elf32.specs.Header.{loadable}
use Rattle.elf32.specs.Loaded.{Test, file_tests, meets, segment_tests, segments_tests, last_tests, tests, first_refusal, segment_of, image_of}
use Rattle.elf32.specs.Loaded.{unless_refused, loaded}
use Rattle.elf32.specs.Written.{IsWritable, elf_file}
use Rattle.elf32.proofs.Tests.{AllPass, AllPass-parts, all_pass}
use Rattle.elf32.proofs.ReadBack.{read_back}

-- ---- one segment

segment_fits : (bytes : List ℕ) (n : ℕ) (earlier : List ProgramHeader) (h : ProgramHeader) → AllPass (segment_tests n earlier h) → Fits (segment_of bytes h)
segment_fits bytes n earlier h pass = record {
  bytes = omega (arith, length-take h.file_size (drop h.offset bytes), ltb-false _ _ pass.1.0);
  end = ltb-false _ _ pass.1.1.0;
}

-- ---- two segments

-- an address in a segment
in_range : (s : Segment) (address : ℕ) → is_in s address ≡ true → (s.at ≤ address) × (address < s.at + s.size)
in_range s address is = let both = and_parts _ _ is in (leb-true _ _ both.0, ltb-true _ _ both.1)

-- one that does not meet an earlier one
segments_apart : (bytes : List ℕ) (earlier h : ProgramHeader) → meets h earlier ≡ false → AreApart (segment_of bytes earlier) (segment_of bytes h)
segments_apart bytes earlier h apart address in_earlier in_h =
    let a = in_range (segment_of bytes earlier) address in_earlier in
    let b = in_range (segment_of bytes h) address in_h in
    omega (arith, a.0, a.1, b.0, b.1, ltb-false _ _ apart)

-- one that meets none of the earlier ones
apart_from_each : (h g : ProgramHeader) (before after : List ProgramHeader) → list_any (meets h) (before ++ g ∷ after) ≡ false → meets h g ≡ false
apart_from_each h g before after none =
    let following = or_parts (list_any (meets h) before) (list_any (meets h) (g ∷ after)) (sym (list_any-append (meets h) before (g ∷ after)) ∙ none) in
    (or_parts (meets h g) (list_any (meets h) after) following.1).0

-- ---- all segments

-- those after a segment have no address in common with it
later_apart : (bytes : List ℕ) (n : ℕ) (g : ProgramHeader) (before after hs : List ProgramHeader) → AllPass (segments_tests n (before ++ g ∷ after) hs)
    → All (AreApart (segment_of bytes g)) (map (segment_of bytes) hs)
later_apart bytes n g before after [] pass = All-nil (AreApart (segment_of bytes g))
later_apart bytes n g before after (h ∷ hs) pass =
    let parts = AllPass-parts (segment_tests n (before ++ g ∷ after) h) (segments_tests n ((before ++ g ∷ after) ++ h ∷ []) hs) pass in
    let grouped : (before ++ g ∷ after) ++ h ∷ [] ≡ before ++ g ∷ (after ++ h ∷ []) = append_assoc before (g ∷ after) (h ∷ []) in
    All-cons (AreApart (segment_of bytes g)) _ _
    (segments_apart bytes g h (apart_from_each h g before after parts.0.1.1.1.0))
    (later_apart bytes n g before (after ++ h ∷ []) hs (subst (λ (earlier : List ProgramHeader). AllPass (segments_tests n earlier hs)) grouped parts.1))

all_placed : (bytes : List ℕ) (n : ℕ) (earlier hs : List ProgramHeader) → AllPass (segments_tests n earlier hs) → AllPlaced (map (segment_of bytes) hs)
all_placed bytes n earlier [] pass = tt
all_placed bytes n earlier (h ∷ hs) pass =
    let parts = AllPass-parts (segment_tests n earlier h) (segments_tests n (earlier ++ h ∷ []) hs) pass in
    (segment_fits bytes n earlier h parts.0, later_apart bytes n h earlier [] hs parts.1, all_placed bytes n (earlier ++ h ∷ []) hs parts.1)

-- ---- the image

-- where no test refuses
image_placed : (bytes : List ℕ) → AllPass (tests bytes) → IsPlaced (image_of bytes)
image_placed bytes pass =
    let later = AllPass-parts (file_tests bytes) (segments_tests (length bytes) [] (loadable bytes) ++ last_tests bytes) pass in
    let parts = AllPass-parts (segments_tests (length bytes) [] (loadable bytes)) (last_tests bytes) later.1 in
    record {
      segments = all_placed bytes (length bytes) [] (loadable bytes) parts.0;
      entry = eqb-true _ _ (not-false _ parts.1.1.0);
    }

-- every image that is loaded
pub placed : (bytes : List ℕ) (image : Image) → loaded bytes ≡ Ok image → IsPlaced image
unfolding loaded
placed bytes image loads =
    let answer = by_refusal (first_refusal (tests bytes)) (image_of bytes) loads in
    subst IsPlaced answer.1 (image_placed bytes (all_pass (tests bytes) answer.0))
  where
    by_refusal : (r : Option Test) (found : Image) → unless_refused r found ≡ Ok image → (r ≡ None) × (found ≡ image)
    by_refusal None found is = (refl, cc)
    by_refusal (Some t) found is = cc

-- so every image that can be written
pub writable_placed : (image : Image) → IsWritable image → IsPlaced image
writable_placed image writable = placed (elf_file image) image (read_back image writable)
