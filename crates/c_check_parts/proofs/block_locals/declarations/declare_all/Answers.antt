use Rattle.std.proofs.Common.{◌∙◌, ◌+◌, ap, map, drop}
use Rattle.c_types.specs.Views.{type_of}
use Rattle.c_ast.specs.Views.{init_declarator_of}
use Rattle.c_erasure.specs.Checking.Answers.{◌>>=◌}
use Rattle.c_erasure.specs.Checking.Statements.{declare_all}
use Rattle.c_check_parts.proofs.InitializerParts.Turns.{fails_along, fails_on}
use Rattle.c_check_parts.specs.BlockLocals.Performing.{body_of, standing, statements_after}
use Rattle.c_check_parts.proofs.BlockLocals.InTurn.{declarators_next, no_declarators}
use Rattle.c_check_parts.proofs.block_locals.declarations.declare_all.Goals as goal

pub returns-in-Err : goal.returns-in-Err
returns-in-Err c =
    let l = c.loop-d in
    fails_along c.in-Err.fault _ _
    (c.loop-d.invariant
    ∙ declarators_next (body_of l.all) c.args.declarators.now l.d-index c.d-item.result (standing l.file l.block l.locals) c.args.is_static (type_of c.args.base.now)
    c.loop-d-test.true c.d-item.is)
    (fails_on c.in-Err.fault _ _ c.in-Err.ensures)

pub loop-d-preserved : goal.loop-d-preserved
loop-d-preserved c =
    let l = c.loop-d in
    c.loop-d.invariant
    ∙ declarators_next (body_of l.all) c.args.declarators.now l.d-index c.d-item.result (standing l.file l.block l.locals) c.args.is_static (type_of c.args.base.now)
    c.loop-d-test.true c.d-item.is
    ∙ ap (λ r. r >>= λ own. statements_after own.0 (declare_all (map init_declarator_of (drop (l.d-index + 1) c.args.declarators.now)) own.1 c.args.is_static
    (type_of c.args.base.now)))
    c.in-Ok.ensures

pub returns : goal.returns
returns c =
    let l = c.loop-d in
    c.loop-d.invariant
    ∙ no_declarators (body_of l.all) c.args.declarators.now l.d-index (standing l.file l.block l.locals) c.args.is_static (type_of c.args.base.now) c.loop-d-test.false
