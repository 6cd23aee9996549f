-- Which subscripts of an array itself are allowed (C99 6.5.6, 6.5.3.2).
use Rattle.std.specs.Prelude.{ℕ, Bool, true, false, nat_le, nat_lt, ℤ, pos, negsuc}

-- at least 0 and below its length; as the operand of `&` it may be its length (own)
abbrev pub is_subscript : (length : ℕ) → (addressed : Bool) → ℤ → Bool
is_subscript n addressed (negsuc i) = false
is_subscript n true (pos i) = nat_le i n
is_subscript n false (pos i) = nat_lt i n
