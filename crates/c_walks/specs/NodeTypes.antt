-- What stands at nodes, as it is collected: types, by what they stand for, locals of which the address is taken, and what is referred to.
use Rattle.std.specs.Prelude.{ℕ, List, map}
use Rattle.c_typed.specs.References as References
use Rattle.c_walks.specs.declared.nodes.Nodes.{Nodes}
use Rattle.c_walks.specs.declared.nodes.Reference.{Reference}
use Rattle.c_walks.specs.declared.nodes.Reference.TheVariants.{Object, Function}

unfoldable pub types_found : {T S : Type 0} → (T → S) → Nodes T → List S
types_found view found = map (λ t. view t.now) found.types.items

abbrev pub taken_in : {T : Type 0} → Nodes T → List ℕ
taken_in found = found.taken

abbrev pub reference_of : Reference → References.Reference
reference_of (Object n) = References.an_object n
reference_of (Function f) = References.a_function f

abbrev pub references_in : {T : Type 0} → Nodes T → List References.Reference
references_in found = map reference_of found.references
