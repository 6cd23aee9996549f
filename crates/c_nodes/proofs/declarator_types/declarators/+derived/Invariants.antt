use Rattle.std.specs.Prelude.{length}
use Rattle.c_nodes.proofs.declarator_types.declarators.+derived.Given as goal

abbrev pub decreases-derived : goal.decreases-derived
decreases-derived l = length l.steps
