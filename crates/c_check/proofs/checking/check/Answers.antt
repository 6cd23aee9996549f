use Rattle.c_ast.specs.Views.{items_of}
use Rattle.c_typed.specs.Programs.{unit_data}
use Rattle.c_scopes.specs.Scoping.{file_of}
use Rattle.c_check.proofs.Found.{unit_erases}
use Rattle.c_check.proofs.checking.check.Goals as goal

pub returns-in_ok-unit_of-in-Ok : goal.returns-in_ok-unit_of-in-Ok
returns-in_ok-unit_of-in-Ok c =
    let number = c.args.number in
    let file = c.args.file.now in
    let items = items_of c.args.tree in
    let made = c.in_ok-unit_of-in-Ok in
    unit_erases c.annotated_files_are_found.ensures c.types_are_small.ensures number file items c.in_ok-tags.tags (file_of c.in-Ok.found) c.in-Ok.nodes
    (unit_data made.field-0) c.requires.short c.requires.tree c.in_ok-tags.ensures c.in-Ok.ensures.found c.in-Ok.ensures.nodes made.ensures
