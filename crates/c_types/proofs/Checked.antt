-- Sizes that pass the greatest.
use Rattle.std.proofs.Common.{◌≡◌, ◌<◌, ◌*◌, ℕ, refl, arith, true, false, Bool, le-mul_of_pos_right}
use Rattle.std.specs.Prelude.{nat_le, None}
use Rattle.std.specs.Bool.{then_some}
use Rattle.std.proofs.lemmas.Bool.{lt-leb, leb-false}
use Rattle.c_types.specs.Limits.{greatest_size, size_if_small}

passed : (b : Bool) (size : ℕ) → None ≡ then_some b size → b ≡ false
passed true size h = cc
passed false size h = refl

-- an array of elements that pass it passes it
pub none_of_more : (size n : ℕ) → 0 < n → None ≡ size_if_small size → None ≡ size_if_small (size * n)
none_of_more size n h none =
    let more : greatest_size < size = leb-false size greatest_size (passed (nat_le size greatest_size) size none) in
    let past : greatest_size < size * n = omega (arith, le-mul_of_pos_right {m = n} size h) in
    rw (lt-leb (size * n) greatest_size past) refl
