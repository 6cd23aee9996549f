use Rattle.std.proofs.Common.{◌∙◌, ◌+◌, ap, map, drop}
use Rattle.c_types.specs.Views.{type_of}
use Rattle.c_ast.specs.Views.{init_declarator_of}
use Rattle.c_erasure.specs.Checking.Answers.{◌>>=◌}
use Rattle.c_erasure.specs.Checking.Files.{file_declarators}
use Rattle.c_nodes.specs.DeclaratorTypes.SpecifierViews.{storage_view}
use Rattle.c_scopes.specs.Scoping.{file_of}
use Rattle.c_check_parts.proofs.InitializerParts.Turns.{fails_along, fails_on}
use Rattle.c_check.proofs.FileDeclarations.InTurn.{named_next, no_declarators}
use Rattle.c_check.proofs.file_declarations.declarations.declare_all.Goals as goal

pub returns-in-Err : goal.returns-in-Err
returns-in-Err c =
    let l = c.loop-number in
    fails_along c.in-Err.fault _ _
    (c.loop-number.invariant
    ∙ named_next c.args.declarators.now l.number c.index-declarators-number.result (file_of l.file) (storage_view c.args.words) (type_of c.args.base.now)
    c.args.semicolon c.args.nodes c.end_of.result c.name_from-from.result c.loop-number-test.true c.index-declarators-number.is c.end_of.ensures
    c.name_from-from.ensures)
    (fails_on c.in-Err.fault _ _ c.in-Err.ensures)

pub loop-number-preserved : goal.loop-number-preserved
loop-number-preserved c =
    let l = c.loop-number in
    c.loop-number.invariant
    ∙ named_next c.args.declarators.now l.number c.index-declarators-number.result (file_of l.file) (storage_view c.args.words) (type_of c.args.base.now)
    c.args.semicolon c.args.nodes c.end_of.result c.name_from-from.result c.loop-number-test.true c.index-declarators-number.is c.end_of.ensures
    c.name_from-from.ensures
    ∙ ap (λ r. r >>= λ g. file_declarators (map init_declarator_of (drop (l.number + 1) c.args.declarators.now)) g (storage_view c.args.words)
    (type_of c.args.base.now) c.args.semicolon c.args.nodes)
    c.in-Ok.ensures

pub returns : goal.returns
returns c =
    let l = c.loop-number in
    c.loop-number.invariant
    ∙ no_declarators c.args.declarators.now l.number (file_of l.file) (storage_view c.args.words) (type_of c.args.base.now) c.args.semicolon c.args.nodes
    c.loop-number-test.false
