use Rattle.std.proofs.Common.{◌≡◌, ◌++◌, drop}
use Rattle.std.specs.Prelude.{flat_map}
use Rattle.profile_file.specs.Text.{function_lines, text_of}
use Rattle.profile_file.proofs.writing.put_functions.Given as goal

abbrev pub invariant-loop-f : goal.invariant-loop-f
invariant-loop-f l = l.out.items ++ flat_map (λ f. text_of (function_lines f)) (drop l.f-index l.functions)
    ≡ l.fn.out.items ++ flat_map (λ f. text_of (function_lines f)) l.fn.functions
