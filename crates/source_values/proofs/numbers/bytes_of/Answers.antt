use Rattle.std.proofs.Common.{◌≡◌, ◌≤◌, ◌^◌, ◌*ℤ◌, pos, w64, to_z, of_z, ap, arith, mul-le-mul, unsigned_abs, FitsSigned}
use Rattle.std.proofs.lemmas.Int.{to_z-of_z, fits_signed_mul, unsigned_abs-mul}
use Rattle.source_values.proofs.numbers.bytes_of.Goals as goal

number-fits : (c : goal.After-from) → to_z w64 (of_z w64 c.number_of.result) ≡ c.number_of.result
number-fits c = to_z-of_z w64 c.number_of.result (record { sfits = c.number_of.type_inv })

size-fits : (c : goal.After-from) → to_z w64 (of_z w64 c.from.result) ≡ c.from.result
size-fits c = to_z-of_z w64 c.from.result (record { sfits = c.from.type_inv })

size-small : (c : goal.After-from) → unsigned_abs c.from.result ≤ 2 ^ 24
size-small c = omega (arith, c.requires, ap unsigned_abs c.from.ensures)

product-fits : (c : goal.After-from) → FitsSigned w64 (c.number_of.result *ℤ c.from.result)
product-fits c = fits_signed_mul w64 c.number_of.result c.from.result (2 ^ 32) (2 ^ 24) c.number_of.ensures.small (size-small c) (omega arith)

pub overflow_mul-result : goal.overflow_mul-result
overflow_mul-result c = rw (number-fits c, size-fits c) (product-fits c)

pub returns-clause-value : goal.returns-clause-value
returns-clause-value c = rw (number-fits c, size-fits c, to_z-of_z w64 (c.number_of.result *ℤ c.from.result) (product-fits c), c.from.ensures)
    (ap (λ n. n *ℤ pos c.args.size) c.number_of.ensures.value)

pub returns-clause-small : goal.returns-clause-small
returns-clause-small c = rw (number-fits c, size-fits c, to_z-of_z w64 (c.number_of.result *ℤ c.from.result) (product-fits c))
    (omega (arith, unsigned_abs-mul c.number_of.result c.from.result, mul-le-mul c.number_of.ensures.small (size-small c)))
