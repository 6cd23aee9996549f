-- Where fields lie that are found through a pointer: sums and differences of 64 bits, and fields that would lie past the end of their block.
use Rattle.std.proofs.Common.{◌≡◌, ℕ, ◌≤◌, true, false, Err, refl, sym, ◌∙◌, arith, ℤ, ◌+ℤ◌, ◌-ℤ◌, ◌≤ℤ◌, w64, to_z, of_z, FitsSigned}
use lib.Signed.{le_z}
use Rattle.std.specs.Prelude.{pos, negsuc}
use Rattle.std.proofs.lemmas.Bool.{le-ltb}
use Rattle.std.proofs.lemmas.Int.{ints, to_z-of_z}
use Rattle.lay_base.specs.declared.faults.UndefinedKind.TheVariants.{Outside}
use Rattle.memory_words.specs.declared.cell_words.pointer.Ptr.{Ptr}
use Rattle.memory_words.specs.declared.cell_words.pointer.Ptr.TheVariants as P
use Rattle.block_memory.specs.Blocks.{Memory, size, is_live}
use Rattle.c_meaning.specs.Expressions.{field_in, inside}

past : (m : Memory) (b : ℕ) (to : ℤ) → pos (size m b) ≤ℤ to → Err Outside ≡ inside m b to
past m b (pos n) le = let more : size m b ≤ n = omega (arith, ints) in rw (le-ltb n (size m b) more)
past m b (negsuc n) le = refl

pub too_far : (m : Memory) (p : Ptr) (b at n : ℕ) (by : ℤ) → p ≡ P.Block b at → is_live m b ≡ true → n ≡ size m b → le_z (pos n -ℤ pos at) by ≡ true
    → Err Outside ≡ field_in m p by
too_far m p b at n by is live size_is le =
    let more : pos (size m b) ≤ℤ (pos at +ℤ by) = omega (arith, ints) in
    rw (is, live) (past m b (pos at +ℤ by) more)

pub inside_is : (m : Memory) (p : Ptr) (b at : ℕ) (by : ℤ) → p ≡ P.Block b at → is_live m b ≡ true → inside m b (pos at +ℤ by) ≡ field_in m p by
inside_is m p b at by is live = rw (is, live) refl

abbrev pub signed : ℤ → ℤ
signed z = to_z w64 (of_z w64 z)

module _ {from at by : ℤ} {n k : ℕ} (from_is : from ≡ pos n) (at_is : at ≡ pos k) (f : FitsSigned w64 from) (g : FitsSigned w64 at) (h : FitsSigned w64 by) where
  pub rest_fits : FitsSigned w64 (signed from -ℤ signed at)
  rest_fits = rw (to_z-of_z w64 from f, to_z-of_z w64 at g) (omega (arith, ints))

  pub rest_is : signed (signed from -ℤ signed at) ≡ pos n -ℤ pos k
  rest_is = to_z-of_z w64 (signed from -ℤ signed at) rest_fits ∙ rw (to_z-of_z w64 from f, to_z-of_z w64 at g, from_is, at_is) refl

  pub test_is : le_z (signed (signed from -ℤ signed at)) (signed by) ≡ le_z (pos n -ℤ pos k) by
  test_is = rw (rest_is, to_z-of_z w64 by h) refl

  module _ (less : le_z (signed (signed from -ℤ signed at)) (signed by) ≡ false) where
    pub byte_fits : FitsSigned w64 (signed at +ℤ signed by)
    byte_fits = let near : le_z (pos n -ℤ pos k) by ≡ false = sym test_is ∙ less in rw (to_z-of_z w64 at g, to_z-of_z w64 by h) (omega (arith, ints))

    pub byte_is : signed (signed at +ℤ signed by) ≡ pos k +ℤ by
    byte_is = to_z-of_z w64 (signed at +ℤ signed by) byte_fits ∙ rw (to_z-of_z w64 at g, to_z-of_z w64 by h, at_is) refl
