-- Objects and functions with allocations and null pointers recognised in their trees.
use Rattle.std.specs.Option.{option_map}
use Rattle.c_erasure.specs.Scopes.{AFunction, AnObject}
use Rattle.c_erasure.specs.Units.{recognised_initializer, recognised_statement}

abbrev pub recognised_object : AnObject → AnObject
recognised_object o = record o { initial = option_map recognised_initializer o.initial }

abbrev pub recognised_function : AFunction → AFunction
recognised_function g = record g { body = option_map recognised_statement g.body }
