use Rattle.std.proofs.Common.{◌≡◌, ◌++◌, drop, true}
use Rattle.std.specs.Prelude.{map}
use Rattle.c_erasure.specs.Marks.{marks_of_all, marks_of_specifiers, marks_of_members, marks_of_member_declarators}
use Rattle.c_ast.specs.Views.{argument_of, arguments_of, specifier_of, specifiers_of, member_declaration_of, member_declarations_of}
use Rattle.c_ast.specs.Views.{member_declarator_of, member_declarators_of, enumerator_of, enumerators_of}
use Rattle.c_scopes.specs.SyntaxTags.Untagged.{untagged_by}
use Rattle.c_file_tags.specs.Marks.{marks_in}
use Rattle.c_file_tags.proofs.NextScopes.{marks_after}
use Rattle.c_file_tags.proofs.walk.+expression_marks.Given as goal

abbrev pub invariant-arguments_marks-loop-item : goal.invariant-arguments_marks-loop-item
invariant-arguments_marks-loop-item l =
    marks_in l.found ++ marks_of_all (untagged_by l.untagged) (arguments_of (map argument_of (drop l.item-index l.all)))
    ≡ marks_in l.fn.found ++ marks_of_all (untagged_by l.untagged) (arguments_of (map argument_of l.all))

abbrev pub invariant-specifiers_marks-loop-specifier : goal.invariant-specifiers_marks-loop-specifier
invariant-specifiers_marks-loop-specifier l =
    marks_in l.found ++ marks_of_specifiers (untagged_by l.untagged) (specifiers_of (map specifier_of (drop l.specifier-index l.all)))
    ≡ marks_in l.fn.found ++ marks_of_specifiers (untagged_by l.untagged) (specifiers_of (map specifier_of l.all))

abbrev pub invariant-members_marks-loop-member_declaration : goal.invariant-members_marks-loop-member_declaration
invariant-members_marks-loop-member_declaration l =
    marks_in l.found
    ++ marks_of_members (untagged_by l.untagged) (member_declarations_of (map member_declaration_of (drop l.member_declaration-index l.all)))
    ≡ marks_in l.fn.found ++ marks_of_members (untagged_by l.untagged) (member_declarations_of (map member_declaration_of l.all))

abbrev pub invariant-member_declarators_marks-loop-member_declarator : goal.invariant-member_declarators_marks-loop-member_declarator
invariant-member_declarators_marks-loop-member_declarator l =
    marks_in l.found
    ++ marks_of_member_declarators (untagged_by l.untagged) (member_declarators_of (map member_declarator_of (drop l.member_declarator-index l.all)))
    ≡ marks_in l.fn.found ++ marks_of_member_declarators (untagged_by l.untagged) (member_declarators_of (map member_declarator_of l.all))

abbrev pub invariant-enumerators_marks-loop-enumerator : goal.invariant-enumerators_marks-loop-enumerator
invariant-enumerators_marks-loop-enumerator l =
    marks_in l.found
    ++ marks_after (untagged_by l.untagged) l.is_first (enumerators_of (map enumerator_of (drop l.enumerator-index l.all))) l.after
    ≡ marks_in l.fn.found ++ marks_after (untagged_by l.untagged) true (enumerators_of (map enumerator_of l.all)) l.after
