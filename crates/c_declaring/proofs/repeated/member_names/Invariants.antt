use Rattle.std.proofs.Common.{◌≡◌, ◌++◌, drop, map}
use Rattle.c_ast.specs.Views.{member_declaration_of, member_declarations_of}
use Rattle.c_erasure.specs.Broken.{member_names}
use Rattle.c_declaring.specs.Adding.{lent}
use Rattle.c_declaring.proofs.repeated.member_names.Given as goal

abbrev pub invariant-loop-line : goal.invariant-loop-line
invariant-loop-line l = lent l.found.items ++ member_names (member_declarations_of (map member_declaration_of (drop l.line-index l.all)))
    ≡ member_names (member_declarations_of (map member_declaration_of l.all))
