use Rattle.std.proofs.Common.{rules, ◌≡◌, [], ◌∷◌, ◌<◌, ◌≤◌, ◌+◌, length, get_or, map, drop, true, false, subst}
use Rattle.c_types.specs.Views.{type_of, types_of}
use Rattle.c_ast.specs.Views.{argument_of, arguments_of, enumerator_of, enumerators_of, member_declaration_of, member_declarations_of}
use Rattle.c_ast.specs.Views.{member_declarator_of, member_declarators_of, parameter_of, parameters_of, specifier_of, specifiers_of}
use Rattle.c_erasure.specs.Scopes.{inside}
use Rattle.c_erasure.specs.Specifiers.{is_word}
use Rattle.c_erasure.specs.Checking.Finding.{arguments, enumerators, member_declarators, members, one_of, parameters, specified}
use Rattle.c_scopes.specs.Scoping.{scope_of}
use Rattle.c_scopes.specs.Views.{blocks_of}
use Rattle.c_declaring.specs.Finds.{Finds}
use Rattle.c_check_expressions.proofs.Arguments as Arguments
use Rattle.c_check_expressions.proofs.Enumerators as Enumerators
use Rattle.c_check_expressions.proofs.Members as Members
use Rattle.c_check_expressions.proofs.Parameters as Parameters
use Rattle.c_check_expressions.proofs.Specifiers as Specifiers
use Rattle.c_check_expressions.proofs.+finding.Goals as goal

pub declarators::parameters-returns-in-Err : goal.declarators::parameters-returns-in-Err
declarators::parameters-returns-in-Err t c =
    let items = c.as_slice-p-items.result.now in
    let i = c.loop-p.p-index in
    let within : i < length items = search rules in
    let item : c.p-item.result ≡ get_or items i c.p-item.result = search rules in
    let same : items ≡ c.args.all.now = search rules in
    Parameters.stop c.args.all.now items i c.p-item.result c.loop-p.done c.loop-p.file (blocks_of c.loop-p.block) c.args.scope c.within.result
    (parameters (parameters_of (map parameter_of c.args.all.now)) (inside (scope_of c.args.file.now c.args.scope))) c.in-Err.fault
    within item same (c.within.ensures c.loop-p.file) c.in-Err.ensures c.loop-p.invariant

pub declarators::parameters-loop-p-preserved : goal.declarators::parameters-loop-p-preserved
declarators::parameters-loop-p-preserved t c =
    let items = c.as_slice-p-items.result.now in
    let i = c.loop-p.p-index in
    let within : i < length items = search rules in
    let item : c.p-item.result ≡ get_or items i c.p-item.result = search rules in
    let same : items ≡ c.args.all.now = search rules in
    Parameters.turn c.args.all.now items i c.p-item.result c.loop-p.done c.add_parameter.new.done c.in-Ok.t c.loop-p.file c.parameter.new.file
    (blocks_of c.loop-p.block) (blocks_of c.add_parameter.new.block) c.args.scope c.within.result
    (parameters (parameters_of (map parameter_of c.args.all.now)) (inside (scope_of c.args.file.now c.args.scope)))
    within item same (c.within.ensures c.loop-p.file) c.in-Ok.ensures c.in-Ok-add_parameter.ensures.added c.in-Ok-add_parameter.ensures.named c.loop-p.invariant

pub declarators::parameters-returns : goal.declarators::parameters-returns
declarators::parameters-returns t c =
    let items = c.as_slice-p-items.result.now in
    let i = c.loop-p.p-index in
    let passed : length items ≤ i = search rules in
    let same : items ≡ c.args.all.now = search rules in
    Parameters.end c.args.all.now items i c.loop-p.done c.loop-p.file (blocks_of c.loop-p.block) c.args.scope
    (parameters (parameters_of (map parameter_of c.args.all.now)) (inside (scope_of c.args.file.now c.args.scope))) passed same c.loop-p.invariant

pub expressions::arguments-returns-in_default : goal.expressions::arguments-returns-in_default
expressions::arguments-returns-in_default t c =
    let items = c.as_slice-item-items.result.now in
    let i = c.loop-item.item-index in
    let within : i < length items = search rules in
    let item : c.item-item.result ≡ get_or items i c.item-item.result = search rules in
    let same : items ≡ c.args.all.now = search rules in
    let none : c.loop-item.types.now ≡ [] = search rules in
    Arguments.many c.args.all.now items i c.item-item.result c.loop-item.done c.args.right c.first_of_argument.result c.loop-item.types.now c.loop-item.file c.args.scope
    (arguments c.args.right (types_of c.args.parameters.now) (arguments_of (map argument_of c.args.all.now)) (scope_of c.args.file.now c.args.scope))
    within item same none c.first_of_argument.ensures c.loop-item.invariant

pub expressions::arguments-returns-in-Err : goal.expressions::arguments-returns-in-Err
expressions::arguments-returns-in-Err t c =
    let items = c.as_slice-item-items.result.now in
    let i = c.loop-item.item-index in
    let within : i < length items = search rules in
    let item : c.item-item.result ≡ get_or items i c.item-item.result = search rules in
    let same : items ≡ c.args.all.now = search rules in
    let front : c.loop-item.types.now ≡ c.in-Some.t.now ∷ c.in-Some.more.now = search rules in
    Arguments.stop c.args.all.now items i c.item-item.result c.loop-item.done c.args.right c.loop-item.types.now c.in-Some.more.now c.in-Some.t.now
    c.loop-item.file c.args.scope
    (arguments c.args.right (types_of c.args.parameters.now) (arguments_of (map argument_of c.args.all.now)) (scope_of c.args.file.now c.args.scope)) c.in-Err.fault
    within item same front c.in-Err.ensures c.loop-item.invariant

pub expressions::arguments-loop-item-preserved : goal.expressions::arguments-loop-item-preserved
expressions::arguments-loop-item-preserved t c =
    let items = c.as_slice-item-items.result.now in
    let i = c.loop-item.item-index in
    let within : i < length items = search rules in
    let item : c.item-item.result ≡ get_or items i c.item-item.result = search rules in
    let same : items ≡ c.args.all.now = search rules in
    let front : c.loop-item.types.now ≡ c.in-Some.t.now ∷ c.in-Some.more.now = search rules in
    Arguments.turn c.args.all.now items i c.item-item.result c.loop-item.done c.add.new.list c.in-Ok.x c.args.right c.loop-item.types.now
    c.in-Some.more.now c.in-Some.t.now c.loop-item.file c.argument.new.file c.args.scope
    (arguments c.args.right (types_of c.args.parameters.now) (arguments_of (map argument_of c.args.all.now)) (scope_of c.args.file.now c.args.scope))
    within item same front c.in-Ok.ensures (search rules) c.loop-item.invariant

pub expressions::arguments-returns-in-None : goal.expressions::arguments-returns-in-None
expressions::arguments-returns-in-None t c =
    let items = c.as_slice-item-items.result.now in
    let i = c.loop-item.item-index in
    let passed : length items ≤ i = search rules in
    let same : items ≡ c.args.all.now = search rules in
    let none : c.loop-item.types.now ≡ [] = search rules in
    Arguments.end c.args.all.now items i c.loop-item.done c.args.right c.loop-item.types.now c.loop-item.file c.args.scope
    (arguments c.args.right (types_of c.args.parameters.now) (arguments_of (map argument_of c.args.all.now)) (scope_of c.args.file.now c.args.scope)) passed same none c.loop-item.invariant

pub expressions::arguments-returns-in-Some-first_and_rest : goal.expressions::arguments-returns-in-Some-first_and_rest
expressions::arguments-returns-in-Some-first_and_rest t c =
    let items = c.as_slice-item-items.result.now in
    let i = c.loop-item.item-index in
    let passed : length items ≤ i = search rules in
    let same : items ≡ c.args.all.now = search rules in
    let it = c.in-Some-first_and_rest.field-0 in
    let front : c.loop-item.types.now ≡ it.0.now ∷ it.1.now = search rules in
    Arguments.few c.args.all.now items i c.loop-item.done c.args.right c.loop-item.types.now it.1.now it.0.now c.loop-item.file c.args.scope
    (arguments c.args.right (types_of c.args.parameters.now) (arguments_of (map argument_of c.args.all.now)) (scope_of c.args.file.now c.args.scope)) passed same front c.loop-item.invariant

pub types::enumerators-returns-in-Err : goal.types::enumerators-returns-in-Err
types::enumerators-returns-in-Err t c =
    let items = c.as_slice-one-items.result.now in
    let i = c.loop-one.one-index in
    let within : i < length items = search rules in
    let item : c.one-item.result ≡ get_or items i c.one-item.result = search rules in
    let same : items ≡ c.args.all.now = search rules in
    let left : c.after_first-rest.result.now ≡ drop (i + 1) c.args.all.now =
    Enumerators.rest_turn c.args.all.now c.loop-one.rest.now c.after_first-rest.result.now i c.loop-one.invariant.rest c.after_first-rest.ensures in
    Enumerators.stop c.args.all.now items c.after_first-rest.result.now i c.one-item.result c.known_from.result c.loop-one.next c.args.after
    c.loop-one.file c.args.scope
    (enumerators (enumerators_of (map enumerator_of c.args.all.now)) (scope_of c.args.file.now c.args.scope) 0 c.args.after) c.in-Err.fault
    within item same left c.known_from.ensures c.in-Err.ensures c.loop-one.invariant.found

pub types::enumerators-loop-one-preserved : goal.types::enumerators-loop-one-preserved
types::enumerators-loop-one-preserved t c =
    let items = c.as_slice-one-items.result.now in
    let i = c.loop-one.one-index in
    let within : i < length items = search rules in
    let item : c.one-item.result ≡ get_or items i c.one-item.result = search rules in
    let same : items ≡ c.args.all.now = search rules in
    let left : c.after_first-rest.result.now ≡ drop (i + 1) c.args.all.now =
    Enumerators.rest_turn c.args.all.now c.loop-one.rest.now c.after_first-rest.result.now i c.loop-one.invariant.rest c.after_first-rest.ensures in
    record {
      rest = left;
      found = Enumerators.turn c.args.all.now items c.after_first-rest.result.now i c.one-item.result c.known_from.result c.loop-one.next
          _ c.args.after c.in-Ok.v c.loop-one.file c.enumerator.new.file c.args.scope
          (enumerators (enumerators_of (map enumerator_of c.args.all.now)) (scope_of c.args.file.now c.args.scope) 0 c.args.after)
          within item same left c.known_from.ensures c.in-Ok.ensures (search rules) c.loop-one.invariant.found;
    }

pub types::enumerators-returns : goal.types::enumerators-returns
types::enumerators-returns t c =
    let items = c.as_slice-one-items.result.now in
    let i = c.loop-one.one-index in
    let passed : length items ≤ i = search rules in
    let same : items ≡ c.args.all.now = search rules in
    Enumerators.end c.args.all.now items i c.loop-one.next c.args.after c.loop-one.file c.args.scope
    (enumerators (enumerators_of (map enumerator_of c.args.all.now)) (scope_of c.args.file.now c.args.scope) 0 c.args.after) passed same c.loop-one.invariant.found

pub types::member_declarators-returns-in-Err : goal.types::member_declarators-returns-in-Err
types::member_declarators-returns-in-Err t c =
    let items = c.as_slice-d-items.result.now in
    let i = c.loop-d.d-index in
    let within : i < length items = search rules in
    let item : c.d-item.result ≡ get_or items i c.d-item.result = search rules in
    let same : items ≡ c.args.all.now = search rules in
    Members.declarator_stop c.args.all.now items i c.d-item.result c.loop-d.done (type_of c.args.base.now) c.args.semicolon c.loop-d.file c.args.scope
    (member_declarators (member_declarators_of (map member_declarator_of c.args.all.now)) (type_of c.args.base.now) c.args.semicolon (scope_of c.args.file.now c.args.scope)) c.in-Err.fault
    within item same c.in-Err.ensures c.loop-d.invariant

pub types::member_declarators-loop-d-preserved : goal.types::member_declarators-loop-d-preserved
types::member_declarators-loop-d-preserved t c =
    let items = c.as_slice-d-items.result.now in
    let i = c.loop-d.d-index in
    let within : i < length items = search rules in
    let item : c.d-item.result ≡ get_or items i c.d-item.result = search rules in
    let same : items ≡ c.args.all.now = search rules in
    Members.declarator_turn c.args.all.now items i c.d-item.result c.loop-d.done c.add.new.list c.in-Ok.field (type_of c.args.base.now)
    c.args.semicolon c.loop-d.file c.member_declarator.new.file c.args.scope
    (member_declarators (member_declarators_of (map member_declarator_of c.args.all.now)) (type_of c.args.base.now) c.args.semicolon (scope_of c.args.file.now c.args.scope))
    within item same c.in-Ok.ensures (search rules) c.loop-d.invariant

pub types::member_declarators-returns : goal.types::member_declarators-returns
types::member_declarators-returns t c =
    let items = c.as_slice-d-items.result.now in
    let i = c.loop-d.d-index in
    let passed : length items ≤ i = search rules in
    let same : items ≡ c.args.all.now = search rules in
    Members.declarator_end c.args.all.now items i c.loop-d.done (type_of c.args.base.now) c.args.semicolon c.loop-d.file c.args.scope
    (member_declarators (member_declarators_of (map member_declarator_of c.args.all.now)) (type_of c.args.base.now) c.args.semicolon (scope_of c.args.file.now c.args.scope)) passed same c.loop-d.invariant

pub types::members-returns-in-Err : goal.types::members-returns-in-Err
types::members-returns-in-Err t c =
    let items = c.as_slice-line-items.result.now in
    let i = c.loop-line.line-index in
    let within : i < length items = search rules in
    let item : c.line-item.result ≡ get_or items i c.line-item.result = search rules in
    let same : items ≡ c.args.all.now = search rules in
    Members.line_stop c.args.all.now items i c.line-item.result c.loop-line.done c.loop-line.file c.args.scope
    (members (member_declarations_of (map member_declaration_of c.args.all.now)) (scope_of c.args.file.now c.args.scope)) c.in-Err.fault
    within item same c.in-Err.ensures c.loop-line.invariant

pub types::members-loop-line-preserved : goal.types::members-loop-line-preserved
types::members-loop-line-preserved t c =
    let items = c.as_slice-line-items.result.now in
    let i = c.loop-line.line-index in
    let within : i < length items = search rules in
    let item : c.line-item.result ≡ get_or items i c.line-item.result = search rules in
    let same : items ≡ c.args.all.now = search rules in
    Members.line_turn c.args.all.now items i c.line-item.result c.loop-line.done c.add_members.new.all c.in-Ok.own c.loop-line.file
    c.line_members.new.file c.args.scope
    (members (member_declarations_of (map member_declaration_of c.args.all.now)) (scope_of c.args.file.now c.args.scope))
    within item same c.in-Ok.ensures (search rules) c.loop-line.invariant

pub types::members-returns : goal.types::members-returns
types::members-returns t c =
    let items = c.as_slice-line-items.result.now in
    let i = c.loop-line.line-index in
    let passed : length items ≤ i = search rules in
    let same : items ≡ c.args.all.now = search rules in
    Members.line_end c.args.all.now items i c.loop-line.done c.loop-line.file c.args.scope
    (members (member_declarations_of (map member_declaration_of c.args.all.now)) (scope_of c.args.file.now c.args.scope)) passed same c.loop-line.invariant

pub types::one_of-returns-then-not-is_keyword : goal.types::one_of-returns-then-not-is_keyword
types::one_of-returns-then-not-is_keyword t c =
    let items = c.as_slice-specifier-items.result.now in
    let i = c.loop-specifier.specifier-index in
    let within : i < length items = search rules in
    let item : c.specifier-item.result ≡ get_or items i c.specifier-item.result = search rules in
    let same : items ≡ c.args.specifiers.now = search rules in
    let other : is_word (specifier_of c.specifier-item.result) ≡ false = search rules in
    let found = Specifiers.one_turn c.args.specifiers.now items i c.specifier-item.result (scope_of c.args.file.now c.args.scope)
    (one_of (specifiers_of (map specifier_of c.args.specifiers.now)) (scope_of c.args.file.now c.args.scope))
    within item same other c.loop-specifier.invariant.found in
    subst (λ r. Finds type_of c.specified.result r c.specified.new.file) found
    (subst (λ f. Finds type_of c.specified.result (specified (specifier_of c.specifier-item.result) (scope_of f c.args.scope)) c.specified.new.file)
    c.loop-specifier.invariant.same c.specified.ensures)

pub types::one_of-loop-specifier-preserved : goal.types::one_of-loop-specifier-preserved
types::one_of-loop-specifier-preserved t c =
    let items = c.as_slice-specifier-items.result.now in
    let i = c.loop-specifier.specifier-index in
    let within : i < length items = search rules in
    let item : c.specifier-item.result ≡ get_or items i c.specifier-item.result = search rules in
    let same : items ≡ c.args.specifiers.now = search rules in
    let word : is_word (specifier_of c.specifier-item.result) ≡ true = search rules in
    record {
      same = c.loop-specifier.invariant.same;
      found = Specifiers.word_turn c.args.specifiers.now items i c.specifier-item.result (scope_of c.args.file.now c.args.scope)
          (one_of (specifiers_of (map specifier_of c.args.specifiers.now)) (scope_of c.args.file.now c.args.scope))
          within item same word c.loop-specifier.invariant.found;
    }

pub types::one_of-returns : goal.types::one_of-returns
types::one_of-returns t c =
    let items = c.as_slice-specifier-items.result.now in
    let i = c.loop-specifier.specifier-index in
    let passed : length items ≤ i = search rules in
    let same : items ≡ c.args.specifiers.now = search rules in
    Specifiers.end c.args.specifiers.now items i (scope_of c.args.file.now c.args.scope)
    (one_of (specifiers_of (map specifier_of c.args.specifiers.now)) (scope_of c.args.file.now c.args.scope)) passed same c.loop-specifier.invariant.found
