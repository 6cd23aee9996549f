-- What the loader says of small files that were written by hand.
use Rattle.std.proofs.Common.{refl}
use Rattle.std.specs.Prelude.{◌≡◌, ℕ, List, [], ◌∷◌, ◌++◌, replicate, Ok, Err}
use Rattle.lay_base.specs.declared.faults.ElfField.TheVariants.{Length, Machine, Total}
use Rattle.elf32.specs.Loaded.{loaded}

-- the header of a file for a machine, with one program header and entry 0x10000
abbrev header : (machine : ℕ) → List ℕ
header machine =
    0x7F ∷ 0x45 ∷ 0x4C ∷ 0x46 ∷ 1 ∷ 1 ∷ 1 ∷ 0 ∷ 0 ∷ 0 ∷ 0 ∷ 0 ∷ 0 ∷ 0 ∷ 0 ∷ 0
    ∷ 2 ∷ 0 ∷ machine ∷ 0 ∷ 1 ∷ 0 ∷ 0 ∷ 0 ∷ 0 ∷ 0 ∷ 1 ∷ 0 ∷ 52 ∷ 0 ∷ 0 ∷ 0 ∷ 0 ∷ 0 ∷ 0 ∷ 0
    ∷ 0 ∷ 0 ∷ 0 ∷ 0 ∷ 52 ∷ 0 ∷ 32 ∷ 0 ∷ 1 ∷ 0 ∷ 0 ∷ 0 ∷ 0 ∷ 0 ∷ 0 ∷ 0 ∷ []

-- a segment to be loaded at 0x10000: the four bytes at offset 84 and more zeros after them, to be
-- read and executed
abbrev program : (size : ℕ) → List ℕ
program size =
    1 ∷ 0 ∷ 0 ∷ 0 ∷ 84 ∷ 0 ∷ 0 ∷ 0 ∷ 0 ∷ 0 ∷ 1 ∷ 0 ∷ 0 ∷ 0 ∷ 1 ∷ 0
    ∷ 4 ∷ 0 ∷ 0 ∷ 0 ∷ 0 ∷ 0 ∷ 0 ∷ size ∷ 5 ∷ 0 ∷ 0 ∷ 0 ∷ 0 ∷ 16 ∷ 0 ∷ 0 ∷ []

abbrev code : List ℕ
code = 0x73 ∷ 0 ∷ 0 ∷ 0 ∷ []

-- 16 MiB of which four bytes are in the file
one_segment : loaded (header 243 ++ (program 1 ++ code)) ≡ Ok (record {
  entry = 0x10000;
  segments = record { at = 0x10000; size = 0x01000000; flags = 5; bytes = code } ∷ [];
})
unfolding loaded
one_segment = refl

too_short : loaded (replicate 51 0) ≡ Err (Length, 51)
unfolding loaded
too_short = refl

-- 62 is the number of x86-64
other_machine : loaded (header 62 ++ (program 1 ++ code)) ≡ Err (Machine, 62)
unfolding loaded
other_machine = refl

-- 1296 MiB
too_large : loaded (header 243 ++ (program 0x51 ++ code)) ≡ Err (Total, 0x51000000)
unfolding loaded
too_large = refl
