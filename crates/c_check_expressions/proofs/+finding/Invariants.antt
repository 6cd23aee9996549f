use Rattle.std.proofs.Common.{◌≡◌, drop, map}
use Rattle.c_types.specs.Views.{field_of, type_of, types_of}
use Rattle.c_ast.specs.Views.{argument_of, arguments_of, enumerator_of, enumerators_of, member_declaration_of, member_declarations_of}
use Rattle.c_ast.specs.Views.{member_declarator_of, member_declarators_of, parameter_of, parameters_of, specifier_of, specifiers_of}
use Rattle.c_annotated.specs.Views.{expression_of}
use Rattle.c_erasure.specs.Checking.Finding.{arguments, enumerators, member_declarators, members, one_of, parameters}
use Rattle.c_erasure.specs.Scopes.{inside}
use Rattle.c_scopes.specs.Scoping.{scope_of}
use Rattle.c_scopes.specs.Views.{blocks_of}
use Rattle.c_declaring.specs.Adding.{scope_within}
use Rattle.c_check_expressions.proofs.Arguments.{arguments_after, rest_from}
use Rattle.c_check_expressions.proofs.Members.{members_after, lines_from, declarators_after, declarators_from}
use Rattle.c_check_expressions.proofs.Enumerators.{enumerators_from}
use Rattle.c_check_expressions.proofs.Parameters.{parameters_after, parameters_from}
use Rattle.c_check_expressions.proofs.Specifiers.{specifiers_from}
use Rattle.c_check_expressions.proofs.+finding.Given as goal

abbrev pub invariant-declarators::parameters-loop-p : goal.invariant-declarators::parameters-loop-p
invariant-declarators::parameters-loop-p l =
    parameters_after (map type_of l.done) (parameters_from l.p-index l.all) (scope_within l.file (blocks_of l.block) l.scope)
    ≡ parameters (parameters_of (map parameter_of l.all)) (inside (scope_of l.fn.file l.scope))

abbrev pub invariant-expressions::arguments-loop-item : goal.invariant-expressions::arguments-loop-item
invariant-expressions::arguments-loop-item l =
    arguments_after (map expression_of l.done) l.right (types_of l.types) (rest_from l.item-index l.all) (scope_of l.file l.scope)
    ≡ arguments l.right (types_of l.parameters) (arguments_of (map argument_of l.all)) (scope_of l.fn.file l.scope)

abbrev pub invariant-types::enumerators-loop-one : goal.invariant-types::enumerators-loop-one
invariant-types::enumerators-loop-one l = record {
  rest : l.rest ≡ drop l.one-index l.all;
  found : enumerators (enumerators_from l.one-index l.all) (scope_of l.file l.scope) l.next l.after
      ≡ enumerators (enumerators_of (map enumerator_of l.all)) (scope_of l.fn.file l.scope) 0 l.after;
}

abbrev pub invariant-types::member_declarators-loop-d : goal.invariant-types::member_declarators-loop-d
invariant-types::member_declarators-loop-d l =
    declarators_after (map field_of l.done) (declarators_from l.d-index l.all) (type_of l.base) l.semicolon (scope_of l.file l.scope)
    ≡ member_declarators (member_declarators_of (map member_declarator_of l.all)) (type_of l.base) l.semicolon (scope_of l.fn.file l.scope)

abbrev pub invariant-types::members-loop-line : goal.invariant-types::members-loop-line
invariant-types::members-loop-line l =
    members_after (map field_of l.done) (lines_from l.line-index l.all) (scope_of l.file l.scope)
    ≡ members (member_declarations_of (map member_declaration_of l.all)) (scope_of l.fn.file l.scope)

abbrev pub invariant-types::one_of-loop-specifier : goal.invariant-types::one_of-loop-specifier
invariant-types::one_of-loop-specifier l = record {
  same : l.file ≡ l.fn.file;
  found : one_of (specifiers_from l.specifier-index l.specifiers) (scope_of l.fn.file l.scope)
      ≡ one_of (specifiers_of (map specifier_of l.specifiers)) (scope_of l.fn.file l.scope);
}
