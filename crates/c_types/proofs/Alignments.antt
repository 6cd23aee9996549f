-- Alignments are at least 1.
use Rattle.std.proofs.Common.{ℕ, zero, suc, ◌<◌, List, [], ◌∷◌, arith}
use Rattle.c_types.specs.declared.ty.IntKind.{IntKind}
use Rattle.c_types.specs.declared.ty.IntKind.TheVariants as I
use Rattle.c_types.specs.declared.layout.Layout.{Layout}
use Rattle.c_types.specs.Laying.{AreAligned}
use Rattle.c_types.specs.IntKinds.{width}
use Rattle.c_types.specs.Layouts.{layout_at, alignment_in, greatest_alignment}
use Rattle.c_types.specs.Types.{CType, void, integer, pointer, array, function, structure}

pub width_positive : (kind : IntKind) → 0 < width kind
width_positive I.Char = omega arith
width_positive I.SChar = omega arith
width_positive I.UChar = omega arith
width_positive I.Short = omega arith
width_positive I.UShort = omega arith
width_positive I.Int = omega arith
width_positive I.UInt = omega arith
width_positive I.Long = omega arith
width_positive I.ULong = omega arith

layout_at_positive : (known : List Layout) (number : ℕ) → AreAligned known → 0 < (layout_at known number).alignment
layout_at_positive [] number a = omega arith
layout_at_positive (l ∷ more) zero a = a 0 l (omega arith)
layout_at_positive (l ∷ more) (suc n) a = layout_at_positive more n (λ k d h. a (suc k) d (omega (arith, h)))

pub alignment_positive : (known : List Layout) (t : CType) → AreAligned known → 0 < alignment_in known t
alignment_positive known void a = omega arith
alignment_positive known (integer kind) a = width_positive kind
alignment_positive known (pointer t) a = omega arith
alignment_positive known (array t n) a = alignment_positive known t a
alignment_positive known (function t all) a = omega arith
alignment_positive known (structure number) a = layout_at_positive known number a

-- without a condition on the layouts
pub greatest_positive : (known : List Layout) (types : List CType) → 0 < greatest_alignment known types
greatest_positive known [] = omega arith
greatest_positive known (t ∷ more) = omega (arith, greatest_positive known more)
