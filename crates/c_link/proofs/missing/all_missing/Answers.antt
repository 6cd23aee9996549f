use Rattle.std.proofs.Common.{◌≡◌, ◌++◌, ◌∙◌, true, ap, map, rules}
use Rattle.std.specs.Prelude.{All, is_some}
use Rattle.c_typed.specs.Programs.{program_data}
use Rattle.c_link.specs.Clashes.{trouble_of}
use Rattle.c_link.specs.Gaps.{all_references}
use Rattle.c_link.specs.Missing.{functions_nowhere, keys_of, objects_nowhere}
use Rattle.c_link.proofs.MissingNames.{have_bodies, none_missing, nowhere_is}
use Rattle.c_link.proofs.missing.all_missing.Goals as goal

pub returns-then-are_functions_defined : goal.returns-then-are_functions_defined
returns-then-are_functions_defined c =
    let p = c.args.p.now in
    let objects : All (λ o. is_some o.initial ≡ true) p.objects = search rules in
    let functions : All (λ f. is_some f.body ≡ true) p.functions = search rules in
    ap (map trouble_of) c.new.ensures ∙ none_missing (program_data p) objects (have_bodies p.functions functions)

pub returns : goal.returns
returns c =
    let p = program_data c.args.p.now in
    let used = c.in_ok-used.used in
    let u : used ≡ keys_of (all_references p) = search rules in
    let e : map trouble_of c.add_functions.new.missing ≡ objects_nowhere used 0 p.objects ++ functions_nowhere used 0 p.functions = search rules in
    e ∙ nowhere_is p used u
