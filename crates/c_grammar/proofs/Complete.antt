-- What is spelled is read: from the spelling of a well formed tree, before a rest that does not go on, each reader
-- gives that tree, its depth and the rest.
use Rattle.std.proofs.Common.{◌≡◌, ◌≢◌, ℕ, ◌+◌, ◌≤◌, max, List, ◌∷◌, [], Some, Bool, true, false, refl, arith}
use Rattle.c_tokens.specs.declared.punctuator.Punctuator.TheVariants as M
use Rattle.c_tokens.specs.declared.token.TokenKind.TheVariants as K
use Rattle.c_ast.specs.declared.words.Spelling.{Spelling}
use Rattle.c_ast.specs.Trees
use Rattle.c_ast.specs.Spelling.{Lexeme, punctuator, word, spelled, spelled_type_name, spelled_specifiers, spelled_member_declarators}
use Rattle.c_ast.specs.Spelling.{spelled_enumerator_value, spelled_declarator}
use Rattle.c_ast.specs.WellFormed.{level, is_typename, IsExpression, AreArguments, IsOptional, IsTypeName, AreSpecifiers, AreMoreSpecifiers}
use Rattle.c_ast.specs.WellFormed.{IsSpecifier, AreMemberDeclarations, AreMemberDeclarators, AreEnumerators, IsEnumeratorValue, IsDeclarator}
use Rattle.c_ast.specs.WellFormed.{IsParameterList, AreParameters}
use Rattle.c_ast.specs.Sizes.{depth, depth_specifiers, depth_member_declarators, depth_enumerator_value, depth_declarator}
use Rattle.c_grammar.specs.Reading.{fronted, is_left_brace, begins_specifier, begins_type_name, at}
use Rattle.c_grammar.proofs.Follow.{pull, declarators_pull, strength_least, strength_most}
use Rattle.c_grammar.proofs.Beginnings.{specifiers_begin}
use Rattle.c_grammar.proofs.ExpressionReads
use Rattle.c_grammar.proofs.CallReads.{ArgumentsRead, call_reads}
use Rattle.c_grammar.proofs.SpecifierReads.{SpecifierReads, SpecifiersRead, EnumeratorValueReads, EnumeratorsRead, plain_reads, typename_reads}
use Rattle.c_grammar.proofs.SpecifierReads.{struct_named_reads, enum_named_reads, enum_body_reads, specifiers_inside, enumerator_inside}
use Rattle.c_grammar.proofs.DeclaratorReads.{DeclaratorReads, OptionalReads, ParametersRead, ParameterListReads, by_direct, nothing_reads}
use Rattle.c_grammar.proofs.DeclaratorReads.{named_reads, enclosed_reads, pointer_reads, array_reads, function_reads, type_name_reads}
use Rattle.c_grammar.proofs.DeclaratorReads.{declarator_inside}
use Rattle.c_grammar.proofs.MemberDeclarationReads.{MemberDeclaratorsRead, MemberDeclarationsRead, struct_body_reads, member_declaration_inside}

module _ (types : List (List ℕ)) where
  type_name_begins : (left : ℕ) (t : Trees.TypeName) → IsTypeName types t → (rest : List Lexeme)
      → begins_type_name types (punctuator M.Open left ∷ spelled_type_name t rest) ≡ true
  type_name_begins left (Trees.type_name specs d) w rest = specifiers_begin types specs w.0 _

  mutual
    reads : (t : Trees.Expression) → IsExpression types t → ExpressionReads.Reads types t
    reads (Trees.name x) w = ExpressionReads.by_postfix types (Trees.name x) w (omega arith) refl refl (ExpressionReads.name_reads types x w)
    reads (Trees.number x n kind) w = ExpressionReads.by_postfix types (Trees.number x n kind) w (omega arith) refl refl
        (ExpressionReads.number_reads types x n kind)
    reads (Trees.character x n) w = ExpressionReads.by_postfix types (Trees.character x n) w (omega arith) refl refl (ExpressionReads.character_reads types x n)
    reads (Trees.texts []) w = absurd (w refl)
    reads (Trees.texts (x ∷ all)) w = ExpressionReads.by_postfix types (Trees.texts (x ∷ all)) w (omega arith) refl refl
        (ExpressionReads.texts_reads types x all)
    reads (Trees.paren left a right) w = ExpressionReads.by_postfix types (Trees.paren left a right) w (omega arith) refl refl
        (ExpressionReads.paren_reads types left right a (reads a w))
    reads (Trees.index a left b right) w = ExpressionReads.by_postfix types (Trees.index a left b right) w (omega arith) refl refl
        (ExpressionReads.index_reads types a left b right w.0 (reads a w.1) (reads b w.2))
    reads (Trees.call f left all right) w = ExpressionReads.by_postfix types (Trees.call f left all right) w (omega arith) refl refl
        (call_reads types f left all right w.0 w.2 (reads f w.1) (arguments_read all true w.2))
    reads (Trees.dot a i x) w = ExpressionReads.by_postfix types (Trees.dot a i x) w (omega arith) refl refl
        (ExpressionReads.dot_reads types a i x w.0 (reads a w.1))
    reads (Trees.arrow a i x) w = ExpressionReads.by_postfix types (Trees.arrow a i x) w (omega arith) refl refl
        (ExpressionReads.arrow_reads types a i x w.0 (reads a w.1))
    reads (Trees.post a op i) w = ExpressionReads.by_postfix types (Trees.post a op i) w (omega arith) refl refl
        (ExpressionReads.post_reads types a op i w.0 (reads a w.1))
    reads (Trees.pre op i a) w = ExpressionReads.by_unary types (Trees.pre op i a) w refl refl refl (ExpressionReads.pre_reads types op i a w.0 (reads a w.1))
    reads (Trees.unary op i a) w = ExpressionReads.by_unary types (Trees.unary op i a) w refl refl refl
        (ExpressionReads.unary_reads types op i a w.0 (reads a w.1))
    reads (Trees.sizeof_expression i a) w = ExpressionReads.by_unary types (Trees.sizeof_expression i a) w refl refl refl
        (ExpressionReads.sizeof_expression_reads types i a w.0 w.1 (reads a w.1))
    reads (Trees.sizeof_type i left t right) w = ExpressionReads.by_unary types (Trees.sizeof_type i left t right) w refl refl refl
        (ExpressionReads.sizeof_type_reads types i left t right (type_name_begins left t w) (type_name_read t w))
    reads (Trees.cast left t right a) w = ExpressionReads.by_operand types (Trees.cast left t right a) refl refl refl
        (ExpressionReads.cast_reads types left t right a w.0 (type_name_begins left t w.1) (type_name_read t w.1) (reads a w.2))
    reads (Trees.binary a op i b) w = ExpressionReads.by_operators types (Trees.binary a op i b) (strength_least op) (strength_most op) refl
        (ExpressionReads.binary_reads types a op i b w.0 w.1 (reads a w.2) (reads b w.3))
    reads (Trees.cond a question b colon c) w = ExpressionReads.by_conditional types (Trees.cond a question b colon c) refl refl
        (ExpressionReads.cond_reads types a question b colon c w.0 w.1 (reads a w.2) (reads b w.3) (reads c w.4))
    reads (Trees.assign a op i b) w = ExpressionReads.by_assignment types (Trees.assign a op i b) refl refl
        (ExpressionReads.assign_reads types a op i b w.0 w.1 (reads a w.2) (reads b w.3))
    reads (Trees.comma a i b) w = ExpressionReads.by_expression types (Trees.comma a i b) refl
        (ExpressionReads.comma_reads types a i b w.0 (reads a w.1) (reads b w.2))
    reads (Trees.braces left all comma right) w = absurd w

    arguments_read : (all : Trees.Arguments) (first : Bool) → AreArguments types first all → ArgumentsRead types all
    arguments_read Trees.no_arguments first w = tt
    arguments_read (Trees.and_argument comma a more) first w = (reads a w.2, arguments_read more false w.3)

    optional_read : (o : Trees.OptionalExpression) → IsOptional types o → OptionalReads types o
    optional_read Trees.no_expression w = tt
    optional_read (Trees.some_expression a) w = reads a w.1

    type_name_read : (t : Trees.TypeName) → IsTypeName types t → ExpressionReads.TypeNameReads types t
    type_name_read (Trees.type_name specs d) w = type_name_reads types specs d w (specifiers_read specs w.0) (declarator_read d w.1)

    specifiers_read : (specs : Trees.Specifiers) → AreSpecifiers types specs → SpecifiersRead types specs
    specifiers_read Trees.no_specifiers w = absurd w
    specifiers_read (Trees.and_specifier s more) w = (specifier_read s w.0, more_read more w.1)

    more_read : (specs : Trees.Specifiers) → AreMoreSpecifiers types specs → SpecifiersRead types specs
    more_read Trees.no_specifiers w = tt
    more_read (Trees.and_specifier s more) w = (specifier_read s w.0, more_read more w.1)

    specifier_read : (s : Trees.Specifier) → IsSpecifier types s → SpecifierReads types s
    specifier_read (Trees.plain op i) w = plain_reads types op i
    specifier_read (Trees.typename x) w = typename_reads types x w
    specifier_read (Trees.struct_named i x) w = struct_named_reads types i x
    specifier_read (Trees.struct_body i x left member_declarations right) w =
        struct_body_reads types i x left member_declarations right w.0 w.1 (member_declarations_read member_declarations w.1)
    specifier_read (Trees.enum_named i x) w = enum_named_reads types i x
    specifier_read (Trees.enum_body i x left all comma right) w = enum_body_reads types i x left all comma right w.0 w.1 (enumerators_read all true w.1)

    member_declarations_read : (member_declarations : Trees.MemberDeclarations) → AreMemberDeclarations types member_declarations
        → MemberDeclarationsRead types member_declarations
    member_declarations_read Trees.no_member_declarations w = tt
    member_declarations_read (Trees.and_member_declaration specs member_declarators semicolon more) w =
        (specifiers_read specs w.0, member_declarators_read member_declarators true w.2, member_declarations_read more w.3)

    member_declarators_read : (member_declarators : Trees.MemberDeclarators) (first : Bool) → AreMemberDeclarators types first member_declarators
        → MemberDeclaratorsRead types member_declarators
    member_declarators_read Trees.no_member_declarators first w = tt
    member_declarators_read (Trees.and_member_declarator comma d more) first w = (declarator_read d w.1, member_declarators_read more false w.3)

    enumerators_read : (all : Trees.Enumerators) (first : Bool) → AreEnumerators types first all → EnumeratorsRead types all
    enumerators_read Trees.no_enumerators first w = tt
    enumerators_read (Trees.and_enumerator comma x value more) first w = (enumerator_value_read value w.2, enumerators_read more false w.3)

    enumerator_value_read : (value : Trees.EnumeratorValue) → IsEnumeratorValue types value → EnumeratorValueReads types value
    enumerator_value_read Trees.no_value w = tt
    enumerator_value_read (Trees.valued equal a) w = reads a w.1

    declarator_read : (d : Trees.Declarator) → IsDeclarator types d → DeclaratorReads types d
    declarator_read Trees.nothing w = by_direct types Trees.nothing w refl (nothing_reads types)
    declarator_read (Trees.named x) w = by_direct types (Trees.named x) w refl (named_reads types x w)
    declarator_read (Trees.pointer i consts d) w = record { direct = λ h. cc; whole = pointer_reads types i consts d (declarator_read d w) }
    declarator_read (Trees.enclosed left d right) w = by_direct types (Trees.enclosed left d right) w refl
        (enclosed_reads types left d right w.0 w.1 (declarator_read d w.1))
    declarator_read (Trees.array d left o right) w = by_direct types (Trees.array d left o right) w refl
        (array_reads types d left o right w.0 w.2 (declarator_read d w.1) (optional_read o w.2))
    declarator_read (Trees.function d left all right) w = by_direct types (Trees.function d left all right) w refl
        (function_reads types d left all right w.0 w.2 (declarator_read d w.1) (parameter_list_read all w.2))

    parameter_list_read : (all : Trees.ParameterList) → IsParameterList types all → ParameterListReads types all
    parameter_list_read (Trees.void_alone i) w = tt
    parameter_list_read (Trees.listed all) w = parameters_read all true w.1

    parameters_read : (all : Trees.Parameters) (first : Bool) → AreParameters types first all → ParametersRead types all
    parameters_read Trees.no_parameters first w = tt
    parameters_read (Trees.and_parameter comma specs d more) first w = (specifiers_read specs w.1, declarator_read d w.2, parameters_read more false w.3)

  -- ---- the readers of trees of depth at most k

  pub read_expression : (t : Trees.Expression) → IsExpression types t → (k : ℕ) (rest : List Lexeme) → depth t ≤ k → pull rest ≡ 0
      → (at types k).expression (spelled t rest) ≡ Some (t, depth t, rest)
  read_expression t w k rest d h = ExpressionReads.expression_inside types t (reads t w) k rest d h

  pub read_assignment : (t : Trees.Expression) → IsExpression types t → 1 ≤ level t → (k : ℕ) (rest : List Lexeme) → depth t ≤ k → pull rest ≤ 1
      → (at types k).assignment (spelled t rest) ≡ Some (t, depth t, rest)
  read_assignment t w l k rest d h = ExpressionReads.assignment_inside types t (reads t w) l k rest d h

  pub read_conditional : (t : Trees.Expression) → IsExpression types t → 2 ≤ level t → (k : ℕ) (rest : List Lexeme) → depth t ≤ k → pull rest ≤ 2
      → (at types k).conditional (spelled t rest) ≡ Some (t, depth t, rest)
  read_conditional t w l k rest d h = ExpressionReads.conditional_inside types t (reads t w) l k rest d h

  pub read_operators : (t : Trees.Expression) → IsExpression types t → (k least : ℕ) (rest : List Lexeme) → 3 ≤ least → least ≤ level t → depth t ≤ k
      → pull rest ≤ least → pull rest ≤ 15 → (at types k).operators least (spelled t rest) ≡ Some (t, depth t, rest)
  read_operators t w k least rest l m d h i = ExpressionReads.operators_inside types t (reads t w) k least rest d h i l m

  pub read_operand : (t : Trees.Expression) → IsExpression types t → 13 ≤ level t → (k : ℕ) (rest : List Lexeme) → depth t ≤ k → pull rest ≤ 15
      → (at types k).operand (spelled t rest) ≡ Some (t, depth t, rest)
  read_operand t w l k rest d h = ExpressionReads.operand_inside types t (reads t w) l k rest d h

  pub read_unary : (t : Trees.Expression) → IsExpression types t → 14 ≤ level t → (k : ℕ) (rest : List Lexeme) → depth t ≤ k → pull rest ≤ 15
      → (at types k).unary (spelled t rest) ≡ Some (t, depth t, rest)
  read_unary t w l k rest d h = ExpressionReads.unary_inside types t (reads t w) l k rest d h

  pub read_specifiers : (specs : Trees.Specifiers) → AreSpecifiers types specs → (k : ℕ) (rest : List Lexeme) → depth_specifiers specs ≤ k
      → begins_specifier types rest ≡ false → fronted is_left_brace rest ≡ false
      → (at types k).specifiers (spelled_specifiers specs rest) ≡ Some (specs, depth_specifiers specs, rest)
  read_specifiers specs w k rest d b f = specifiers_inside types specs w (specifiers_read specs w) k rest d b f

  pub read_member_declaration : (specs : Trees.Specifiers) (member_declarators : Trees.MemberDeclarators) → AreSpecifiers types specs
      → member_declarators ≢ Trees.no_member_declarators → AreMemberDeclarators types true member_declarators → (k semicolon : ℕ) (rest : List Lexeme)
      → max (depth_specifiers specs) (depth_member_declarators member_declarators) + 1 ≤ k
      → (at types k).member_declaration (spelled_specifiers specs
      (spelled_member_declarators member_declarators (punctuator M.Semicolon semicolon ∷ rest)))
      ≡ Some ((specs, member_declarators, semicolon), max (depth_specifiers specs) (depth_member_declarators member_declarators) + 1, rest)
  read_member_declaration specs member_declarators w n v k semicolon rest d =
      member_declaration_inside types specs member_declarators w n v (specifiers_read specs w)
      (member_declarators_read member_declarators true v) k semicolon rest d

  pub read_enumerator : (x : Spelling) (value : Trees.EnumeratorValue) → is_typename types x.text ≡ false → IsEnumeratorValue types value
      → (k : ℕ) (rest : List Lexeme) → depth_enumerator_value value + 1 ≤ k → pull rest ≤ 1
      → (at types k).enumerator (word K.Name x ∷ spelled_enumerator_value value rest) ≡ Some ((x, value), depth_enumerator_value value + 1, rest)
  read_enumerator x value w v k rest d h = enumerator_inside types x value w v (enumerator_value_read value v) k rest d h

  pub read_declarator : (d : Trees.Declarator) → IsDeclarator types d → (k : ℕ) (rest : List Lexeme) → depth_declarator d ≤ k → declarators_pull rest
      ≡ false → (at types k).declarator (spelled_declarator d rest) ≡ Some (d, depth_declarator d, rest)
  read_declarator d w k rest h s = declarator_inside types d (declarator_read d w) k rest h s
