-- Tests made one after the other.
use Rattle.std.proofs.Common.{◌≡◌, ℕ, Bool, true, false, ◌⊎◌, inl, inr, List, [], ◌∷◌, ◌++◌, take, drop, length, Option, Some, None, Ok, Err, refl, ap, ◌∙◌}
use Rattle.rv_isa.specs.declared.image.Image.{Image}
use Rattle.elf32.specs.declared.fault.ElfFault.{ElfFault}
use Rattle.elf32.specs.declared.fault.ElfFault.TheVariants.{BadElf, Memory}
use Rattle.elf32.specs.Header.{loadable}
use Rattle.elf32.specs.Loaded.{Test, file_tests, segments_tests, last_tests, tests, first_refusal, image_of, unless_refused, loaded}
use Rattle.elf32.specs.Read.{LoadableGives, ReadGives, unless_fault, tested}

-- the first test passes, and so do the others
passes_first : (t : Test) (ts : List Test) → tested (t ∷ ts) ≡ Ok tt → (t.refuses ≡ false) × (tested ts ≡ Ok tt)
passes_first t ts passed = by_first t.refuses refl
  where
    by_first : (b : Bool) → t.refuses ≡ b → (t.refuses ≡ false) × (tested ts ≡ Ok tt)
    by_first true is = let refused = rw is at passed in cc
    by_first false is = (is, rw is at passed)

-- where the first tests pass, the later ones decide
pub tested_then : (ts us : List Test) → tested ts ≡ Ok tt → tested (ts ++ us) ≡ tested us
tested_then [] us passed = refl
tested_then (t ∷ ts) us passed = let first = passes_first t ts passed in rw first.0 (tested_then ts us first.1)

-- the first test refuses, or it passes and one of the others refuses
refuses_first : (t : Test) (ts : List Test) (fault : ElfFault) → tested (t ∷ ts) ≡ Err fault
    → ((t.refuses ≡ true) × (BadElf t.field t.found ≡ fault)) ⊎ ((t.refuses ≡ false) × (tested ts ≡ Err fault))
refuses_first t ts fault refused = by_first t.refuses refl
  where
    by_first : (b : Bool) → t.refuses ≡ b → ((t.refuses ≡ true) × (BadElf t.field t.found ≡ fault)) ⊎ ((t.refuses ≡ false) × (tested ts ≡ Err fault))
    by_first true is = inl (is, let here = rw is at refused in cc)
    by_first false is = inr (is, rw is at refused)

-- where one of the first refuses, that is the answer
pub tested_fault : (ts us : List Test) (fault : ElfFault) → tested ts ≡ Err fault → tested (ts ++ us) ≡ Err fault
tested_fault [] us fault refused = cc
tested_fault (t ∷ ts) us fault refused =
    elim (refuses_first t ts fault refused) [ inl here ↦ rw here.0 (ap Err here.1) | inr later ↦ rw later.0 (tested_fault ts us fault later.1) ]

-- ---- no test refuses

abbrev pub AllPass : List Test → Type 0
AllPass [] = Unit {0}
AllPass (t ∷ ts) = (t.refuses ≡ false) × AllPass ts

-- then there is no first refusal
pub none_refuses : (ts : List Test) → AllPass ts → first_refusal ts ≡ None
none_refuses [] pass = refl
none_refuses (t ∷ ts) pass = rw pass.0 (none_refuses ts pass.1)

-- and only then
first_passes : (t : Test) (ts : List Test) → first_refusal (t ∷ ts) ≡ None → (t.refuses ≡ false) × (first_refusal ts ≡ None)
first_passes t ts none = by_first t.refuses refl
  where
    by_first : (b : Bool) → t.refuses ≡ b → (t.refuses ≡ false) × (first_refusal ts ≡ None)
    by_first true is = let refused = rw is at none in cc
    by_first false is = (is, rw is at none)

pub all_pass : (ts : List Test) → first_refusal ts ≡ None → AllPass ts
all_pass [] none = tt
all_pass (t ∷ ts) none = let first = first_passes t ts none in (first.0, all_pass ts first.1)

-- tests before others
pub AllPass-append : (ts us : List Test) → AllPass ts → AllPass us → AllPass (ts ++ us)
AllPass-append [] us pass more = more
AllPass-append (t ∷ ts) us pass more = (pass.0, AllPass-append ts us pass.1 more)

pub AllPass-parts : (ts us : List Test) → AllPass (ts ++ us) → AllPass ts × AllPass us
AllPass-parts [] us pass = (tt, pass)
AllPass-parts (t ∷ ts) us pass = let rest = AllPass-parts ts us pass.1 in ((pass.0, rest.0), rest.1)

-- ---- what is read

-- no test refuses
pub image_read : (bytes : List ℕ) → tested (tests bytes) ≡ Ok tt → loaded bytes ≡ Ok (image_of bytes)
unfolding loaded
image_read bytes passed = passed_image (first_refusal (tests bytes)) (image_of bytes) passed
  where
    passed_image : (r : Option Test) (image : Image) → unless_fault r ≡ Ok tt → unless_refused r image ≡ Ok image
    passed_image None image is = refl
    passed_image (Some t) image is = cc

-- one refuses
pub fault_read : (bytes : List ℕ) (fault : ElfFault) → tested (tests bytes) ≡ Err fault → ReadGives (Err fault) (loaded bytes)
unfolding loaded
fault_read bytes fault refused = refused_fault (first_refusal (tests bytes)) (image_of bytes) fault refused
  where
    refused_fault : (r : Option Test) (image : Image) (fault : ElfFault) → unless_fault r ≡ Err fault → ReadGives (Err fault) (unless_refused r image)
    refused_fault r image (Memory want) is = tt
    refused_fault None image (BadElf field found) is = cc
    refused_fault (Some t) image (BadElf field found) is = cc

-- ---- part by part, as the reader makes the tests

-- those of the file header refuse
pub header_refused : (bytes : List ℕ) (fault : ElfFault) → tested (take 10 (file_tests bytes)) ≡ Err fault → ReadGives (Err fault) (loaded bytes)
header_refused bytes fault refused =
    fault_read bytes fault (tested_fault (take 10 (file_tests bytes))
    (drop 10 (file_tests bytes) ++ (segments_tests (length bytes) [] (loadable bytes) ++ last_tests bytes)) fault refused)

-- they pass, and that of the number of segments refuses
number_refused : (bytes : List ℕ) (fault : ElfFault) → tested (take 10 (file_tests bytes)) ≡ Ok tt → tested (drop 10 (file_tests bytes)) ≡ Err fault
    → ReadGives (Err fault) (loaded bytes)
number_refused bytes fault header refused =
    let later = segments_tests (length bytes) [] (loadable bytes) ++ last_tests bytes in
    fault_read bytes fault (tested_then (take 10 (file_tests bytes)) (drop 10 (file_tests bytes) ++ later) header
    ∙ tested_fault (drop 10 (file_tests bytes)) later fault refused)

pub loads_refused : (bytes : List ℕ) (fault : ElfFault) → tested (take 10 (file_tests bytes)) ≡ Ok tt → LoadableGives (Err fault) bytes
    → ReadGives (Err fault) (loaded bytes)
loads_refused bytes (BadElf field found) header gives = number_refused bytes (BadElf field found) header gives
loads_refused bytes (Memory want) header gives = tt

-- the tests of the file pass
pub record FilePasses (bytes : List ℕ) : Type 0 where
  pub header : tested (take 10 (file_tests bytes)) ≡ Ok tt
  pub loads : tested (drop 10 (file_tests bytes)) ≡ Ok tt

segments_next : (bytes : List ℕ) → FilePasses bytes → tested (tests bytes) ≡ tested (segments_tests (length bytes) [] (loadable bytes) ++ last_tests bytes)
segments_next bytes file =
    let later = segments_tests (length bytes) [] (loadable bytes) ++ last_tests bytes in
    tested_then (take 10 (file_tests bytes)) (drop 10 (file_tests bytes) ++ later) file.header ∙ tested_then (drop 10 (file_tests bytes)) later file.loads

-- and one of the segments' refuses
pub segments_refused : (bytes : List ℕ) (fault : ElfFault) → FilePasses bytes → tested (segments_tests (length bytes) [] (loadable bytes)) ≡ Err fault
    → ReadGives (Err fault) (loaded bytes)
segments_refused bytes fault file refused =
    fault_read bytes fault (segments_next bytes file ∙ tested_fault (segments_tests (length bytes) [] (loadable bytes)) (last_tests bytes) fault refused)

-- those pass as well, and one of the last refuses
pub last_refused : (bytes : List ℕ) (fault : ElfFault) → FilePasses bytes → tested (segments_tests (length bytes) [] (loadable bytes)) ≡ Ok tt
    → tested (last_tests bytes) ≡ Err fault → ReadGives (Err fault) (loaded bytes)
last_refused bytes fault file segments refused =
    fault_read bytes fault (segments_next bytes file ∙ tested_then (segments_tests (length bytes) [] (loadable bytes)) (last_tests bytes) segments ∙ refused)

-- all pass
pub all_passed : (bytes : List ℕ) → FilePasses bytes → tested (segments_tests (length bytes) [] (loadable bytes)) ≡ Ok tt
    → tested (last_tests bytes) ≡ Ok tt → loaded bytes ≡ Ok (image_of bytes)
all_passed bytes file segments last =
    image_read bytes (segments_next bytes file ∙ tested_then (segments_tests (length bytes) [] (loadable bytes)) (last_tests bytes) segments ∙ last)
