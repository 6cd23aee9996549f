-- An expression and a path of which the parts are changed, with themselves changed.
use Rattle.c_typed.specs.Changed.{Change}
use Rattle.c_typed.specs.Trees

abbrev pub redone : {S : Type 0} → Change S S → Trees.Expression S → Trees.Expression S
redone change (Trees.expression t at node) = change.expression t at node

abbrev pub redone_path : {S : Type 0} → Change S S → Trees.Path S → Trees.Path S
redone_path change (Trees.path t at step) = change.path t at step
