use Rattle.c_ast.specs.Views.{items_of}
use Rattle.lay_compile.proofs.Next.{no_tree, still_no_unit, tree_in_file}
use Rattle.lay_compile.proofs.stages.with_tree.Goals as goal

pub returns-in-Ok : goal.returns-in-Ok
returns-in-Ok c number file l before e h =
    let items = items_of c.in-Ok.field-0 in
    still_no_unit number file items (tree_in_file number file c.args.tokens l items c.in-Ok.ensures.1) c.args.fault before e h

pub returns : goal.returns
returns c number file l before e h = no_tree number file c.args.tokens l c.in-Err.fault c.in-Err.ensures before e h.before
