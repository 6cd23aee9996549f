-- Numbers of elements as bytes, modulo 2 ^ 32.
use Rattle.std.proofs.Common.{◌≡◌, ℕ, suc, ◌+◌, ◌-◌, ◌*◌, ◌/◌, ◌%◌, ◌^◌, ◌<◌, ◌≤◌, ℤ, pos, negsuc, ◌+ℤ◌, ap, sym, ◌∙◌, arith}
use Rattle.std.specs.Prelude.{◌*ℤ◌, ◌-ℤ◌}
use Rattle.std.proofs.lemmas.Int.{ints}
use Rattle.c_types.specs.declared.ty.IntKind.{IntKind}
use Rattle.c_typed.specs.Conversions.{number_of}
use Rattle.rv_emit.proofs.Numbers.{number_cases}

together : (a b c : ℕ) → (a + b) * c ≡ a * c + b * c
together a b c = omega arith

-- a number of elements as bytes is its word times the size, but for a multiple of 2 ^ 32
pub record Scaled (z : ℤ) (n size : ℕ) : Type 0 where
  pub k : ℕ
  pub is : z *ℤ pos size +ℤ pos (2 ^ 32 * k) ≡ pos (n * size)

pub scaled : (kind : IntKind) (n size : ℕ) → n < 2 ^ 32 → Scaled (number_of kind n) n size
scaled kind n size lt =
    number_cases (λ z. Scaled z n size) kind n (λ low. record { k = 0; is = omega (arith, ints) }) negative (λ high. record { k = 0; is = omega (arith, ints) })
  where
    negative : 2 ^ 31 ≤ n → Scaled (negsuc (2 ^ 32 - suc n)) n size
    negative high =
        let j = 2 ^ 32 - suc n in
        let e : suc j + n ≡ 2 ^ 32 = omega arith in
        let d : suc j * size + n * size ≡ 2 ^ 32 * size = sym (together (suc j) n size) ∙ ap (λ (i : ℕ). i * size) e in
        record { k = size; is = omega (arith, ints) }

-- an integer and a number that are the same modulo 2 ^ 32
pub record IsSame (z : ℤ) (d : ℕ) : Type 0 where
  pub k : ℕ
  pub j : ℕ
  pub is : z +ℤ pos (2 ^ 32 * k) ≡ pos (d + 2 ^ 32 * j)

pub same_number : (n : ℕ) → IsSame (pos n) n
same_number n = record { k = 0; j = 0; is = omega (arith, ints) }

pub same_scaled : (kind : IntKind) (n size : ℕ) → n < 2 ^ 32 → IsSame (number_of kind n *ℤ pos size) (n * size % 2 ^ 32)
same_scaled kind n size lt =
    let h = scaled kind n size lt in
    record { k = h.k; j = n * size / 2 ^ 32; is = omega (arith, ints, h.is) }

pub same_opposite : (z : ℤ) (d : ℕ) → d < 2 ^ 32 → IsSame z d → IsSame (pos 0 -ℤ z) (2 ^ 32 - d)
same_opposite z d lt h = record { k = h.j + 1; j = h.k; is = omega (arith, ints, h.is) }

pub same_sum : (y z : ℤ) (c d : ℕ) → IsSame y c → IsSame z d → IsSame (y +ℤ z) ((c + d) % 2 ^ 32)
same_sum y z c d h l = record { k = h.k + l.k; j = h.j + l.j + (c + d) / 2 ^ 32; is = omega (arith, ints, h.is, l.is) }

-- an offset moved by it, from an address on
pub moved_by : (a o o' x d : ℕ) (z : ℤ) → IsSame z d → pos o +ℤ z ≡ pos o' → x ≡ a + o → a + o' < 2 ^ 32 → (x + d) % 2 ^ 32 ≡ a + o'
moved_by a o o' x d z h e is lt =
    let f : x + d + 2 ^ 32 * h.j ≡ a + o' + 2 ^ 32 * h.k = omega (arith, ints, h.is) in
    remainder_is (x + d) (a + o') h.j h.k lt f
  where
    remainder_is : (y r j k : ℕ) → r < 2 ^ 32 → y + 2 ^ 32 * j ≡ r + 2 ^ 32 * k → y % 2 ^ 32 ≡ r
    remainder_is y r j k lt e = omega arith

pub none_by : (d : ℕ) (z : ℤ) → IsSame z d → z ≡ pos 0 → d % 2 ^ 32 ≡ 0
none_by d z h e =
    let f : d + 2 ^ 32 * h.j ≡ 2 ^ 32 * h.k = omega (arith, ints, h.is) in
    remainder_is d h.j h.k f
  where
    remainder_is : (y j k : ℕ) → y + 2 ^ 32 * j ≡ 2 ^ 32 * k → y % 2 ^ 32 ≡ 0
    remainder_is y j k e = omega arith
