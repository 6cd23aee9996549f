use Rattle.std.proofs.Common.{◌≡◌, ◌++◌, drop, map}
use Rattle.c_ast.specs.Views.{member_declarator_of, member_declarators_of}
use Rattle.c_erasure.specs.Broken.{names_of_members}
use Rattle.c_declaring.specs.Adding.{lent}
use Rattle.c_declaring.proofs.repeated.add_names.Given as goal

abbrev pub invariant-loop-d : goal.invariant-loop-d
invariant-loop-d l = lent l.found.items ++ names_of_members (member_declarators_of (map member_declarator_of (drop l.d-index l.all)))
    ≡ lent l.fn.found.items ++ names_of_members (member_declarators_of (map member_declarator_of l.all))
