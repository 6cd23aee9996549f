use Rattle.std.proofs.Common.{◌≡◌, ◌++◌, drop, false}
use Rattle.std.specs.Prelude.{map}
use Rattle.c_ast.specs.Views.{init_declarator_of}
use Rattle.c_scopes.specs.SyntaxTags.Untagged.{untagged_by}
use Rattle.c_file_tags.specs.Marks.{marks_in}
use Rattle.c_file_tags.proofs.NextScopes.{marks_of_more}
use Rattle.c_file_tags.proofs.walk.declarators_marks.Given as goal

abbrev pub invariant-loop-d : goal.invariant-loop-d
invariant-loop-d l =
    marks_in l.found ++ marks_of_more (untagged_by l.untagged) l.is_open (map init_declarator_of (drop l.d-index l.all)) l.semicolon
    ≡ marks_in l.fn.found ++ marks_of_more (untagged_by l.untagged) false (map init_declarator_of l.all) l.semicolon
