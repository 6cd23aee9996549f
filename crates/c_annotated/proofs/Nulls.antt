-- Where no cast is written, a null pointer constant is a constant of value 0.
use Rattle.std.proofs.Common.{◌≡◌, ◌∙◌, None, true, refl, ap, sym}
use Rattle.std.specs.Option.{option_map}
use Rattle.c_types.specs.Types.{CType, void, pointer}
use Rattle.c_typed.specs.Constants.{constant_of, is_null, is_zero}
use Rattle.c_typed.specs.Trees
use Rattle.c_typed.specs.Trees.{convert, expression}
use Rattle.c_typed.specs.TypeNumbers.{written_cast}
use Rattle.c_erasure.specs.Erasure.{typed}
use Rattle.c_erasure.specs.Noted.{Expression}

null_of_no_cast : (x : Trees.Expression CType) → written_cast x ≡ None → is_null x ≡ is_zero (constant_of x)
null_of_no_cast (expression (pointer void) at (convert e true)) h = cc
null_of_no_cast x h = refl

written_typed : (x : Expression) → written_cast (typed x) ≡ option_map typed (written_cast x)
written_typed (expression t at (convert e true)) = refl
written_typed x = refl

pub null_without_cast : (e : Expression) → None ≡ written_cast e → is_null (typed e) ≡ is_zero (constant_of (typed e))
null_without_cast e h = null_of_no_cast (typed e) (written_typed e ∙ ap (option_map typed) (sym h))
