use Rattle.std.proofs.Common.{◌∙◌, ap}
use Rattle.c_link.specs.Joining.{is_function_defined}
use Rattle.c_link.specs.Placing.{replaces}
use Rattle.c_link.proofs.Placed.{on_ok, placed_mapped}
use Rattle.c_typed.specs.Programs.{data_of}
use Rattle.c_link.proofs.joining.place_function.Goals as goal

pub returns : goal.returns
returns c =
    let all = c.args.all.now.items in
    let n = c.args.number in
    let h = c.replaces_function-replaces.ensures
    ∙ ap (λ them. replaces (λ g. is_function_defined (data_of g)) them n c.args.f) c.as_slice.ensures.value in
    on_ok c.put.result (λ e. placed_mapped data_of is_function_defined all n c.args.f c.replaces_function-replaces.result c.put.new.all.items h e) c.put.ensures
