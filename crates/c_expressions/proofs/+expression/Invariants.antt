-- The measures of the readers. Each calls readers of parts that are one less deep, or a reader of a lower rank at the same depth: a
-- reader `.._inside` has rank 0, and each other one more than the highest rank that it calls at its own depth.
use Rattle.std.proofs.Common.{ℕ, ◌≡◌, ◌+◌, ◌*◌, map, length, []}
use Rattle.std.specs.Option.{option_map}
use Rattle.c_ast.specs.Views.{argument_of, declarator_if_any, declarator_of, enumerator_of, expression_of, member_declaration_of}
use Rattle.c_ast.specs.Views.{member_declarator_of, parameter_of, specifier_of}
use Rattle.c_grammar.specs.Reading.{argument_in, at, chain, comma_step, direct_in, enumerator_step, expression_in, member_declaration_step}
use Rattle.c_grammar.specs.Reading.{member_declarator_step, operator_step, operators_in, parameter_step, postfix_in, postfix_step, specifier_step}
use Rattle.c_grammar.specs.Reading.{suffix_step}
use Rattle.c_expressions.proofs.+expression.Given as goal

abbrev measure : ℕ → ℕ → ℕ
measure inside rank = 13 * inside + rank

abbrev pub decreases-type_names::type_name : goal.decreases-type_names::type_name
decreases-type_names::type_name l = measure l.by.inside 1

abbrev pub decreases-type_names::enclosed_type_name : goal.decreases-type_names::enclosed_type_name
decreases-type_names::enclosed_type_name l = measure l.by.inside 2

abbrev pub decreases-primary::paren : goal.decreases-primary::paren
decreases-primary::paren l = measure l.by.inside 1

abbrev pub decreases-primary::primary : goal.decreases-primary::primary
decreases-primary::primary l = measure l.by.inside 2

abbrev pub decreases-postfix::argument : goal.decreases-postfix::argument
decreases-postfix::argument l = measure l.by.inside 1

abbrev pub decreases-postfix::argument_list : goal.decreases-postfix::argument_list
decreases-postfix::argument_list l = measure l.by.inside 2

abbrev pub decreases-postfix::arguments : goal.decreases-postfix::arguments
decreases-postfix::arguments l = measure l.by.inside 3

abbrev pub decreases-postfix::index : goal.decreases-postfix::index
decreases-postfix::index l = measure l.by.inside 1

abbrev pub decreases-postfix::call : goal.decreases-postfix::call
decreases-postfix::call l = measure l.by.inside 4

abbrev pub decreases-postfix::suffix : goal.decreases-postfix::suffix
decreases-postfix::suffix l = measure l.by.inside 5

abbrev pub decreases-postfix::postfix : goal.decreases-postfix::postfix
decreases-postfix::postfix l = measure l.by.inside 6

abbrev pub decreases-unary::pre : goal.decreases-unary::pre
decreases-unary::pre l = measure l.by.inside 1

abbrev pub decreases-unary::unary : goal.decreases-unary::unary
decreases-unary::unary l = measure l.by.inside 1

abbrev pub decreases-unary::sizeof : goal.decreases-unary::sizeof
decreases-unary::sizeof l = measure l.by.inside 3

abbrev pub decreases-unary::cast : goal.decreases-unary::cast
decreases-unary::cast l = measure l.by.inside 3

abbrev pub decreases-unary::unary_expression : goal.decreases-unary::unary_expression
decreases-unary::unary_expression l = measure l.by.inside 7

abbrev pub decreases-unary::operand : goal.decreases-unary::operand
decreases-unary::operand l = measure l.by.inside 8

abbrev pub decreases-binary::operator : goal.decreases-binary::operator
decreases-binary::operator l = measure l.by.inside 1

abbrev pub decreases-binary::operators : goal.decreases-binary::operators
decreases-binary::operators l = measure l.by.inside 9

abbrev pub decreases-assignment::chosen : goal.decreases-assignment::chosen
decreases-assignment::chosen l = measure l.by.inside 1

abbrev pub decreases-assignment::conditional : goal.decreases-assignment::conditional
decreases-assignment::conditional l = measure l.by.inside 10

abbrev pub decreases-assignment::assigned : goal.decreases-assignment::assigned
decreases-assignment::assigned l = measure l.by.inside 1

abbrev pub decreases-assignment::assignment : goal.decreases-assignment::assignment
decreases-assignment::assignment l = measure l.by.inside 11

abbrev pub decreases-assignment::comma : goal.decreases-assignment::comma
decreases-assignment::comma l = measure l.by.inside 1

abbrev pub decreases-assignment::expression : goal.decreases-assignment::expression
decreases-assignment::expression l = measure l.by.inside 12

abbrev pub decreases-structures::member_declarator : goal.decreases-structures::member_declarator
decreases-structures::member_declarator l = measure l.by.inside 1

abbrev pub decreases-structures::member_declarators : goal.decreases-structures::member_declarators
decreases-structures::member_declarators l = measure l.by.inside 2

abbrev pub decreases-structures::member_declaration : goal.decreases-structures::member_declaration
decreases-structures::member_declaration l = measure l.by.inside 3

abbrev pub decreases-structures::next_member_declaration : goal.decreases-structures::next_member_declaration
decreases-structures::next_member_declaration l = measure l.by.inside 1

abbrev pub decreases-structures::member_declarations : goal.decreases-structures::member_declarations
decreases-structures::member_declarations l = measure l.by.inside 2

abbrev pub decreases-structures::struct_body : goal.decreases-structures::struct_body
decreases-structures::struct_body l = measure l.by.inside 3

abbrev pub decreases-structures::structure : goal.decreases-structures::structure
decreases-structures::structure l = measure l.by.inside 4

abbrev pub decreases-enumerations::enumerator : goal.decreases-enumerations::enumerator
decreases-enumerations::enumerator l = measure l.by.inside 1

abbrev pub decreases-enumerations::next_enumerator : goal.decreases-enumerations::next_enumerator
decreases-enumerations::next_enumerator l = measure l.by.inside 1

abbrev pub decreases-enumerations::enumerators : goal.decreases-enumerations::enumerators
decreases-enumerations::enumerators l = measure l.by.inside 2

abbrev pub decreases-enumerations::enum_body : goal.decreases-enumerations::enum_body
decreases-enumerations::enum_body l = measure l.by.inside 3

abbrev pub decreases-enumerations::enumeration : goal.decreases-enumerations::enumeration
decreases-enumerations::enumeration l = measure l.by.inside 4

abbrev pub decreases-specifiers::specifier : goal.decreases-specifiers::specifier
decreases-specifiers::specifier l = measure l.by.inside 5

abbrev pub decreases-specifiers::next_specifier : goal.decreases-specifiers::next_specifier
decreases-specifiers::next_specifier l = measure l.by.inside 6

abbrev pub decreases-specifiers::specifier_list : goal.decreases-specifiers::specifier_list
decreases-specifiers::specifier_list l = measure l.by.inside 7

abbrev pub decreases-specifiers::specifiers : goal.decreases-specifiers::specifiers
decreases-specifiers::specifiers l = measure l.by.inside 8

abbrev pub decreases-declarators::pointer : goal.decreases-declarators::pointer
decreases-declarators::pointer l = measure l.by.inside 1

abbrev pub decreases-declarators::enclosed : goal.decreases-declarators::enclosed
decreases-declarators::enclosed l = measure l.by.inside 1

abbrev pub decreases-declarators::core : goal.decreases-declarators::core
decreases-declarators::core l = measure l.by.inside 2

abbrev pub decreases-declarators::length_of : goal.decreases-declarators::length_of
decreases-declarators::length_of l = measure l.by.inside 1

abbrev pub decreases-declarators::array : goal.decreases-declarators::array
decreases-declarators::array l = measure l.by.inside 2

abbrev pub decreases-declarators::parameter : goal.decreases-declarators::parameter
decreases-declarators::parameter l = measure l.by.inside 1

abbrev pub decreases-declarators::parameter_list : goal.decreases-declarators::parameter_list
decreases-declarators::parameter_list l = measure l.by.inside 2

abbrev pub decreases-declarators::parameters : goal.decreases-declarators::parameters
decreases-declarators::parameters l = measure l.by.inside 3

abbrev pub decreases-declarators::function : goal.decreases-declarators::function
decreases-declarators::function l = measure l.by.inside 4

abbrev pub decreases-declarators::brackets : goal.decreases-declarators::brackets
decreases-declarators::brackets l = measure l.by.inside 5

abbrev pub decreases-declarators::direct : goal.decreases-declarators::direct
decreases-declarators::direct l = measure l.by.inside 6

abbrev pub decreases-declarators::declarator : goal.decreases-declarators::declarator
decreases-declarators::declarator l = measure l.by.inside 7

abbrev pub decreases-within::expression_inside : goal.decreases-within::expression_inside
decreases-within::expression_inside l = measure l.by.inside 0

abbrev pub decreases-within::specifiers_inside : goal.decreases-within::specifiers_inside
decreases-within::specifiers_inside l = measure l.by.inside 0

abbrev pub decreases-within::member_declaration_inside : goal.decreases-within::member_declaration_inside
decreases-within::member_declaration_inside l = measure l.by.inside 0

abbrev pub decreases-within::enumerator_inside : goal.decreases-within::enumerator_inside
decreases-within::enumerator_inside l = measure l.by.inside 0

abbrev pub decreases-within::declarator_inside : goal.decreases-within::declarator_inside
decreases-within::declarator_inside l = measure l.by.inside 0

abbrev pub invariant-postfix::argument_list-more : goal.invariant-postfix::argument_list-more
invariant-postfix::argument_list-more l =
    chain (argument_in (at l.by.types.now l.by.inside)) l.rounds (map argument_of l.all) l.d l.tokens
    ≡ chain (argument_in (at l.by.types.now l.by.inside)) (length l.fn.tokens + 1) [] 0 l.fn.tokens

abbrev pub decreases-postfix::argument_list-more : goal.decreases-postfix::argument_list-more
decreases-postfix::argument_list-more l = l.rounds

abbrev pub invariant-structures::member_declarators-more : goal.invariant-structures::member_declarators-more
invariant-structures::member_declarators-more l =
    chain (member_declarator_step (at l.by.types.now l.by.inside)) l.rounds (map member_declarator_of l.all) l.d l.tokens
    ≡ chain (member_declarator_step (at l.by.types.now l.by.inside)) (length l.fn.tokens + 1) [] l.fn.depth l.fn.tokens

abbrev pub decreases-structures::member_declarators-more : goal.decreases-structures::member_declarators-more
decreases-structures::member_declarators-more l = l.rounds

abbrev pub invariant-structures::member_declarations-more : goal.invariant-structures::member_declarations-more
invariant-structures::member_declarations-more l =
    chain (member_declaration_step (at l.by.types.now l.by.inside)) l.rounds (map member_declaration_of l.all) l.d l.tokens
    ≡ chain (member_declaration_step (at l.by.types.now l.by.inside)) (length l.fn.tokens + 1) [] 0 l.fn.tokens

abbrev pub decreases-structures::member_declarations-more : goal.decreases-structures::member_declarations-more
decreases-structures::member_declarations-more l = l.rounds

abbrev pub invariant-enumerations::enumerators-more : goal.invariant-enumerations::enumerators-more
invariant-enumerations::enumerators-more l =
    chain (enumerator_step (at l.by.types.now l.by.inside)) l.rounds (map enumerator_of l.all) l.d l.tokens
    ≡ chain (enumerator_step (at l.by.types.now l.by.inside)) (length l.fn.tokens + 1) [] 0 l.fn.tokens

abbrev pub decreases-enumerations::enumerators-more : goal.decreases-enumerations::enumerators-more
decreases-enumerations::enumerators-more l = l.rounds

abbrev pub invariant-specifiers::specifier_list-more : goal.invariant-specifiers::specifier_list-more
invariant-specifiers::specifier_list-more l =
    chain (specifier_step l.by.types.now l.by.inside (at l.by.types.now l.by.inside)) l.rounds (map specifier_of l.all) l.d l.tokens
    ≡ chain (specifier_step l.by.types.now l.by.inside (at l.by.types.now l.by.inside)) (length l.fn.tokens + 1) [] 0 l.fn.tokens

abbrev pub decreases-specifiers::specifier_list-more : goal.decreases-specifiers::specifier_list-more
decreases-specifiers::specifier_list-more l = l.rounds

abbrev pub invariant-declarators::parameter_list-more : goal.invariant-declarators::parameter_list-more
invariant-declarators::parameter_list-more l =
    chain (parameter_step (at l.by.types.now l.by.inside)) l.rounds (map parameter_of l.all) l.d l.tokens
    ≡ chain (parameter_step (at l.by.types.now l.by.inside)) (length l.fn.tokens + 1) [] 0 l.fn.tokens

abbrev pub decreases-declarators::parameter_list-more : goal.decreases-declarators::parameter_list-more
decreases-declarators::parameter_list-more l = l.rounds

abbrev pub invariant-postfix::postfix-more : goal.invariant-postfix::postfix-more
invariant-postfix::postfix-more l =
    chain (postfix_step l.by.inside (at l.by.types.now l.by.inside)) l.rounds (expression_of l.all) l.d l.tokens
    ≡ postfix_in l.by.types.now l.by.inside (at l.by.types.now l.by.inside) l.fn.tokens

abbrev pub decreases-postfix::postfix-more : goal.decreases-postfix::postfix-more
decreases-postfix::postfix-more l = l.rounds

abbrev pub invariant-binary::operators-more : goal.invariant-binary::operators-more
invariant-binary::operators-more l =
    chain (operator_step l.by.inside (at l.by.types.now l.by.inside) l.least) l.rounds (expression_of l.all) l.d l.tokens
    ≡ operators_in l.by.types.now l.by.inside (at l.by.types.now l.by.inside) l.least l.fn.tokens

abbrev pub decreases-binary::operators-more : goal.decreases-binary::operators-more
decreases-binary::operators-more l = l.rounds

abbrev pub invariant-assignment::expression-more : goal.invariant-assignment::expression-more
invariant-assignment::expression-more l =
    chain (comma_step l.by.inside (at l.by.types.now l.by.inside)) l.rounds (expression_of l.all) l.d l.tokens
    ≡ expression_in l.by.types.now l.by.inside (at l.by.types.now l.by.inside) l.fn.tokens

abbrev pub decreases-assignment::expression-more : goal.decreases-assignment::expression-more
decreases-assignment::expression-more l = l.rounds

abbrev pub invariant-declarators::direct-more : goal.invariant-declarators::direct-more
invariant-declarators::direct-more l =
    chain (suffix_step l.by.inside (at l.by.types.now l.by.inside)) l.rounds (declarator_if_any (option_map declarator_of l.all)) l.d l.tokens
    ≡ direct_in l.by.types.now l.by.inside (at l.by.types.now l.by.inside) l.fn.tokens

abbrev pub decreases-declarators::direct-more : goal.decreases-declarators::direct-more
decreases-declarators::direct-more l = l.rounds
