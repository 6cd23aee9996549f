use Rattle.std.proofs.Common.{◌≡◌, map, drop}
use Rattle.c_types.specs.Views.{type_of}
use Rattle.c_ast.specs.Views.{init_declarator_of}
use Rattle.c_erasure.specs.Checking.Statements.{declare_all}
use Rattle.c_check_parts.specs.BlockLocals.Performing.{body_of, standing, statements_after}
use Rattle.c_check_parts.proofs.block_locals.declarations.declare_all.Given as goal

abbrev pub invariant-loop-d : goal.invariant-loop-d
invariant-loop-d l =
    statements_after (body_of l.fn.all) (declare_all (map init_declarator_of l.declarators) (standing l.fn.file l.fn.block l.fn.locals) l.is_static (type_of l.base))
    ≡ statements_after (body_of l.all)
    (declare_all (map init_declarator_of (drop l.d-index l.declarators)) (standing l.file l.block l.locals) l.is_static (type_of l.base))
