use Rattle.std.proofs.Common.{◌≡◌, ◌+◌, drop}
use Rattle.std.specs.Prelude.{map}
use Rattle.c_typed.specs.Views.{arm_of, arms_of, statement_of, statements_of}
use Rattle.c_link.specs.Texts.{rounded, texts_in_all, texts_in_arms}
use Rattle.c_link.proofs.initial_texts.+text_walk.Given as goal

abbrev pub invariant-in_statements-loop-s : goal.invariant-in_statements-loop-s
invariant-in_statements-loop-s l =
    rounded l.lengths + texts_in_all (statements_of (map statement_of (drop l.s-index l.all))) ≡ rounded l.fn.lengths + texts_in_all (statements_of (map statement_of l.all))

abbrev pub invariant-in_arms-loop-arm : goal.invariant-in_arms-loop-arm
invariant-in_arms-loop-arm l =
    rounded l.lengths + texts_in_arms (arms_of (map arm_of (drop l.arm-index l.arms))) ≡ rounded l.fn.lengths + texts_in_arms (arms_of (map arm_of l.arms))
