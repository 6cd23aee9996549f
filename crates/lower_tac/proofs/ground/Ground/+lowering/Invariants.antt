use Rattle.std.proofs.Common.{◌≡◌, ◌+◌, length, map}
use Rattle.std.specs.Prelude.{reverse}
use Rattle.c_typed.specs.Views.{expression_of, expressions_of}
use Rattle.lower_tac.specs.Expressions.{arguments_code}
use Rattle.lower_tac.specs.Grounds.{locals_in, program_in}
use Rattle.lower_tac.specs.Writing.{Wrote}
use Rattle.lower_tac.proofs.ground.Ground.+lowering.Given as goal

abbrev pub invariant-arguments-loop-e : goal.invariant-arguments-loop-e
invariant-arguments-loop-e l = (l.at + length l.yielded ≡ l.fn.d + length l.all)
    × Wrote l.fn.w l.w (arguments_code (program_in l.self) (locals_in l.self) (expressions_of (map expression_of (reverse (map (λ e. e.now) l.yielded)))) l.at)
