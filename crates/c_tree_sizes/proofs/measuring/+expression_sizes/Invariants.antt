use Rattle.std.proofs.Common.{drop}
use Rattle.std.specs.Prelude.{map}
use Rattle.c_ast.specs.Sizes.{size_arguments, size_initializers, size_specifiers, size_member_declarations, size_member_declarators, size_enumerators}
use Rattle.c_ast.specs.Sizes.{size_parameters}
use Rattle.c_ast.specs.Views.{argument_of, arguments_of, specifier_of, specifiers_of, member_declaration_of, member_declarations_of}
use Rattle.c_ast.specs.Views.{member_declarator_of, member_declarators_of, enumerator_of, enumerators_of, parameter_of, parameters_of}
use Rattle.c_tree_sizes.proofs.Joining.{Joins}
use Rattle.c_tree_sizes.proofs.measuring.+expression_sizes.Given as goal

abbrev pub invariant-arguments_size-loop-item : goal.invariant-arguments_size-loop-item
invariant-arguments_size-loop-item l =
    Joins l.size (size_arguments (arguments_of (map argument_of (drop l.item-index l.all)))) (size_arguments (arguments_of (map argument_of l.all)))

abbrev pub invariant-initializers_size-loop-item : goal.invariant-initializers_size-loop-item
invariant-initializers_size-loop-item l =
    Joins l.size (size_initializers (arguments_of (map argument_of (drop l.item-index l.all)))) (size_initializers (arguments_of (map argument_of l.all)))

abbrev pub invariant-specifiers_size-loop-specifier : goal.invariant-specifiers_size-loop-specifier
invariant-specifiers_size-loop-specifier l =
    Joins l.size (size_specifiers (specifiers_of (map specifier_of (drop l.specifier-index l.all))))
    (size_specifiers (specifiers_of (map specifier_of l.all)))

abbrev pub invariant-member_declarations_size-loop-member_declaration : goal.invariant-member_declarations_size-loop-member_declaration
invariant-member_declarations_size-loop-member_declaration l =
    Joins l.size (size_member_declarations (member_declarations_of (map member_declaration_of (drop l.member_declaration-index l.all))))
    (size_member_declarations (member_declarations_of (map member_declaration_of l.all)))

abbrev pub invariant-member_declarators_size-loop-member_declarator : goal.invariant-member_declarators_size-loop-member_declarator
invariant-member_declarators_size-loop-member_declarator l =
    Joins l.size (size_member_declarators (member_declarators_of (map member_declarator_of (drop l.member_declarator-index l.all))))
    (size_member_declarators (member_declarators_of (map member_declarator_of l.all)))

abbrev pub invariant-enumerators_size-loop-enumerator : goal.invariant-enumerators_size-loop-enumerator
invariant-enumerators_size-loop-enumerator l =
    Joins l.size (size_enumerators (enumerators_of (map enumerator_of (drop l.enumerator-index l.all))))
    (size_enumerators (enumerators_of (map enumerator_of l.all)))

abbrev pub invariant-listed_size-loop-parameter : goal.invariant-listed_size-loop-parameter
invariant-listed_size-loop-parameter l =
    Joins l.size (size_parameters (parameters_of (map parameter_of (drop l.parameter-index l.all))))
    (size_parameters (parameters_of (map parameter_of l.all)))
