use Rattle.std.proofs.Common.{◌≡◌, map, drop, slice_get}
use Rattle.c_types.specs.Views.{type_of}
use Rattle.c_ast.specs.Views.{argument_of, arguments_of}
use Rattle.c_annotated.specs.Views.{part_of}
use Rattle.c_erasure.specs.Checking.Initializers.{elements, fields_from, fields_of}
use Rattle.c_scopes.specs.Scoping.{scope_of}
use Rattle.c_check_parts.specs.InitializerParts.Parts.{bare_field, parts_after}
use Rattle.c_check_parts.proofs.initializer_parts.recursion.+initializers.Given as goal

abbrev pub invariant-elements-loop-item : goal.invariant-elements-loop-item
invariant-elements-loop-item l =
    parts_after (map part_of l.fn.parts) (elements (arguments_of (map argument_of l.all)) (scope_of l.fn.file l.scope) (type_of l.element) l.fn.n l.fn.at)
    ≡ parts_after (map part_of l.parts)
    (elements (arguments_of (map argument_of (drop l.item-index l.all))) (scope_of l.file l.scope) (type_of l.element) l.left l.from)

abbrev pub invariant-fields-loop-k : goal.invariant-fields-loop-k
invariant-fields-loop-k l =
    parts_after (map part_of l.fn.parts) (fields_from (arguments_of (map argument_of l.all)) (scope_of l.fn.file l.scope) l.r 0
    (fields_of (slice_get (scope_of l.fn.file l.scope).file.records l.r)) l.at)
    ≡ parts_after (map part_of l.parts)
    (fields_from (arguments_of (map argument_of (drop l.k l.all))) (scope_of l.file l.scope) l.r l.k (map bare_field (drop l.k l.listed)) l.at)
