-- Images that a machine can hold.
use Rattle.std.specs.Prelude.{◌≡◌, ℕ, ◌+◌, ◌%◌, ◌^◌, ◌≤◌, true, List, [], ◌∷◌, length, All}
use Rattle.rv_isa.specs.declared.image.Image.{Image}
use Rattle.rv_isa.specs.declared.image.Segment.{Segment}
use Rattle.rv_isa.specs.Memory.{is_in}

-- no more bytes than the segment has addresses, and all of these below 2 ^ 32
pub record Fits (s : Segment) : Type 0 where
  pub bytes : length s.bytes ≤ s.size
  pub end : s.at + s.size ≤ 2 ^ 32

-- the two segments have no address in common
abbrev pub AreApart : Segment → Segment → Type 0
AreApart s t = (address : ℕ) → is_in s address ≡ true → is_in t address ≡ true → ⊥

-- each segment fits, and no two meet
abbrev pub AllPlaced : List Segment → Type 0
AllPlaced [] = Unit {0}
AllPlaced (s ∷ segments) = Fits s × All (AreApart s) segments × AllPlaced segments

-- and the first instruction stands at a multiple of 4
pub record IsPlaced (image : Image) : Type 0 where
  pub segments : AllPlaced image.segments
  pub entry : image.entry % 4 ≡ 0
