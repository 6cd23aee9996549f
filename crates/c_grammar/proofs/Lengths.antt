-- What is spelled is no shorter than what stands after it, and a list no shorter than its items are many.
use Rattle.std.proofs.Common.{◌≡◌, ℕ, suc, ◌+◌, ◌≤◌, List, [], ◌∷◌, Option, Some, None, true, false, arith, length}
use Rattle.std.proofs.Math.Nat.{le_step}
use Rattle.c_ast.specs.declared.words.Spelling.{Spelling}
use Rattle.c_ast.specs.Trees
use Rattle.c_ast.specs.Spelling.{Lexeme, spelled_comma, spelled_texts, spelled_tag, spelled_consts, spelled, spelled_arguments, spelled_optional}
use Rattle.c_ast.specs.Spelling.{spelled_type_name, spelled_specifiers, spelled_specifier, spelled_member_declarations, spelled_member_declarators}
use Rattle.c_ast.specs.Spelling.{spelled_enumerators, spelled_enumerator_value, spelled_declarator, spelled_parameter_list, spelled_parameters}
use Rattle.c_ast.specs.WellFormed.{AreArguments, AreMemberDeclarators, AreParameters}
use Rattle.c_grammar.proofs.Lists.{arguments_list, specifiers_list, member_declarations_list, member_declarators_list, enumerators_list, parameters_list}

pub texts_count : (all : List Spelling) (rest : List Lexeme) → length (spelled_texts all rest) ≡ length all + length rest
texts_count [] rest = omega arith
texts_count (x ∷ all) rest = omega (arith, texts_count all rest)

pub consts_count : (all : List ℕ) (rest : List Lexeme) → length (spelled_consts all rest) ≡ length all + length rest
consts_count [] rest = omega arith
consts_count (x ∷ all) rest = omega (arith, consts_count all rest)

comma_kept : (c : Option ℕ) (rest : List Lexeme) (n : ℕ) → n ≤ length rest → n ≤ length (spelled_comma c rest)
comma_kept None rest n h = h
comma_kept (Some at) rest n h = le_step h

tag_kept : (x : Option Spelling) (rest : List Lexeme) (n : ℕ) → n ≤ length rest → n ≤ length (spelled_tag x rest)
tag_kept None rest n h = h
tag_kept (Some x) rest n h = le_step h

mutual
  kept : (t : Trees.Expression) (rest : List Lexeme) (n : ℕ) → n ≤ length rest → n ≤ length (spelled t rest)
  kept (Trees.name x) rest n h = le_step h
  kept (Trees.number x v kind) rest n h = le_step h
  kept (Trees.character x v) rest n h = le_step h
  kept (Trees.texts all) rest n h = omega (arith, texts_count all rest)
  kept (Trees.paren left a right) rest n h = le_step (kept a _ n (le_step h))
  kept (Trees.index a left b right) rest n h = kept a _ n (le_step (kept b _ n (le_step h)))
  kept (Trees.call f left all right) rest n h = kept f _ n (le_step (arguments_kept all _ n (le_step h)))
  kept (Trees.dot a at x) rest n h = kept a _ n (le_step (le_step h))
  kept (Trees.arrow a at x) rest n h = kept a _ n (le_step (le_step h))
  kept (Trees.post a op at) rest n h = kept a _ n (le_step h)
  kept (Trees.pre op at a) rest n h = le_step (kept a _ n h)
  kept (Trees.unary op at a) rest n h = le_step (kept a _ n h)
  kept (Trees.sizeof_expression at a) rest n h = le_step (kept a _ n h)
  kept (Trees.sizeof_type at left t right) rest n h = le_step (le_step (type_name_kept t _ n (le_step h)))
  kept (Trees.cast left t right a) rest n h = le_step (type_name_kept t _ n (le_step (kept a _ n h)))
  kept (Trees.binary a op at b) rest n h = kept a _ n (le_step (kept b _ n h))
  kept (Trees.cond a question b colon c) rest n h = kept a _ n (le_step (kept b _ n (le_step (kept c _ n h))))
  kept (Trees.assign a op at b) rest n h = kept a _ n (le_step (kept b _ n h))
  kept (Trees.comma a at b) rest n h = kept a _ n (le_step (kept b _ n h))
  kept (Trees.braces left all comma right) rest n h = le_step (arguments_kept all _ n (comma_kept comma _ n (le_step h)))

  arguments_kept : (all : Trees.Arguments) (rest : List Lexeme) (n : ℕ) → n ≤ length rest → n ≤ length (spelled_arguments all rest)
  arguments_kept Trees.no_arguments rest n h = h
  arguments_kept (Trees.and_argument comma a more) rest n h = comma_kept comma _ n (kept a _ n (arguments_kept more _ n h))

  optional_kept : (o : Trees.OptionalExpression) (rest : List Lexeme) (n : ℕ) → n ≤ length rest → n ≤ length (spelled_optional o rest)
  optional_kept Trees.no_expression rest n h = h
  optional_kept (Trees.some_expression a) rest n h = kept a _ n h

  type_name_kept : (t : Trees.TypeName) (rest : List Lexeme) (n : ℕ) → n ≤ length rest → n ≤ length (spelled_type_name t rest)
  type_name_kept (Trees.type_name specs d) rest n h = specifiers_kept specs _ n (declarator_kept d _ n h)

  specifiers_kept : (specs : Trees.Specifiers) (rest : List Lexeme) (n : ℕ) → n ≤ length rest → n ≤ length (spelled_specifiers specs rest)
  specifiers_kept Trees.no_specifiers rest n h = h
  specifiers_kept (Trees.and_specifier s more) rest n h = specifier_kept s _ n (le_step (specifiers_kept more _ n h))

  -- a specifier is one token or more
  specifier_kept : (s : Trees.Specifier) (rest : List Lexeme) (n : ℕ) → n ≤ suc (length rest) → n ≤ length (spelled_specifier s rest)
  specifier_kept (Trees.plain op at) rest n h = h
  specifier_kept (Trees.typename x) rest n h = h
  specifier_kept (Trees.struct_named at x) rest n h = le_step h
  specifier_kept (Trees.struct_body at x left member_declarations right) rest n h =
      le_step (tag_kept x _ n (le_step (member_declarations_kept member_declarations _ n h)))
  specifier_kept (Trees.enum_named at x) rest n h = le_step h
  specifier_kept (Trees.enum_body at x left all comma right) rest n h = le_step (tag_kept x _ n (le_step (enumerators_kept all _ n (comma_kept comma _ n h))))

  member_declarations_kept : (member_declarations : Trees.MemberDeclarations) (rest : List Lexeme) (n : ℕ) → n ≤ length rest
      → n ≤ length (spelled_member_declarations member_declarations rest)
  member_declarations_kept Trees.no_member_declarations rest n h = h
  member_declarations_kept (Trees.and_member_declaration specs member_declarators semicolon more) rest n h =
      specifiers_kept specs _ n (member_declarators_kept member_declarators _ n (le_step (member_declarations_kept more _ n h)))

  member_declarators_kept : (member_declarators : Trees.MemberDeclarators) (rest : List Lexeme) (n : ℕ) → n ≤ length rest
      → n ≤ length (spelled_member_declarators member_declarators rest)
  member_declarators_kept Trees.no_member_declarators rest n h = h
  member_declarators_kept (Trees.and_member_declarator comma d more) rest n h =
      comma_kept comma _ n (declarator_kept d _ n (member_declarators_kept more _ n h))

  enumerators_kept : (all : Trees.Enumerators) (rest : List Lexeme) (n : ℕ) → n ≤ length rest → n ≤ length (spelled_enumerators all rest)
  enumerators_kept Trees.no_enumerators rest n h = h
  enumerators_kept (Trees.and_enumerator comma x value more) rest n h =
      comma_kept comma _ n (le_step (enumerator_value_kept value _ n (enumerators_kept more _ n h)))

  enumerator_value_kept : (value : Trees.EnumeratorValue) (rest : List Lexeme) (n : ℕ) → n ≤ length rest → n ≤ length (spelled_enumerator_value value rest)
  enumerator_value_kept Trees.no_value rest n h = h
  enumerator_value_kept (Trees.valued equal a) rest n h = le_step (kept a _ n h)

  declarator_kept : (d : Trees.Declarator) (rest : List Lexeme) (n : ℕ) → n ≤ length rest → n ≤ length (spelled_declarator d rest)
  declarator_kept Trees.nothing rest n h = h
  declarator_kept (Trees.named x) rest n h = le_step h
  declarator_kept (Trees.pointer at consts d) rest n h = le_step (omega (arith, consts_count consts (spelled_declarator d rest), declarator_kept d rest n h))
  declarator_kept (Trees.enclosed left d right) rest n h = le_step (declarator_kept d _ n (le_step h))
  declarator_kept (Trees.array d left o right) rest n h = declarator_kept d _ n (le_step (optional_kept o _ n (le_step h)))
  declarator_kept (Trees.function d left all right) rest n h = declarator_kept d _ n (le_step (parameter_list_kept all _ n (le_step h)))

  parameter_list_kept : (all : Trees.ParameterList) (rest : List Lexeme) (n : ℕ) → n ≤ length rest → n ≤ length (spelled_parameter_list all rest)
  parameter_list_kept (Trees.void_alone at) rest n h = le_step h
  parameter_list_kept (Trees.listed all) rest n h = parameters_kept all _ n h

  parameters_kept : (all : Trees.Parameters) (rest : List Lexeme) (n : ℕ) → n ≤ length rest → n ≤ length (spelled_parameters all rest)
  parameters_kept Trees.no_parameters rest n h = h
  parameters_kept (Trees.and_parameter comma specs d more) rest n h =
      comma_kept comma _ n (specifiers_kept specs _ n (declarator_kept d _ n (parameters_kept more _ n h)))

-- ---- how many items: in some lists all but the first have a comma

-- where each has a comma before it
arguments_count : (types : List (List ℕ)) (all : Trees.Arguments) → AreArguments types false all → (rest : List Lexeme)
    → length (arguments_list all) + length rest ≤ length (spelled_arguments all rest)
arguments_count types Trees.no_arguments w rest = omega arith
arguments_count types (Trees.and_argument None a more) w rest = let e : false ≡ true = w.0 in cc
arguments_count types (Trees.and_argument (Some c) a more) w rest = omega (arith, kept a (spelled_arguments more rest) _ (arguments_count types more w.3 rest))

pub arguments_room : (types : List (List ℕ)) (all : Trees.Arguments) → AreArguments types true all → (t : Lexeme) (rest : List Lexeme)
    → length (arguments_list all) ≤ length (spelled_arguments all (t ∷ rest))
arguments_room types Trees.no_arguments w t rest = omega arith
arguments_room types (Trees.and_argument comma a more) w t rest = comma_kept comma _ _ (kept a _ _ (omega (arith, arguments_count types more w.3 (t ∷ rest))))

parameters_count : (types : List (List ℕ)) (all : Trees.Parameters) → AreParameters types false all → (rest : List Lexeme)
    → length (parameters_list all) + length rest ≤ length (spelled_parameters all rest)
parameters_count types Trees.no_parameters w rest = omega arith
parameters_count types (Trees.and_parameter None specs d more) w rest = let e : false ≡ true = w.0 in cc
parameters_count types (Trees.and_parameter (Some c) specs d more) w rest =
    omega (
      arith,
      specifiers_kept specs (spelled_declarator d (spelled_parameters more rest)) _
          (declarator_kept d (spelled_parameters more rest) _ (parameters_count types more w.3 rest)),
    )

pub parameters_room : (types : List (List ℕ)) (all : Trees.Parameters) → AreParameters types true all → (t : Lexeme) (rest : List Lexeme)
    → length (parameters_list all) ≤ length (spelled_parameters all (t ∷ rest))
parameters_room types Trees.no_parameters w t rest = omega arith
parameters_room types (Trees.and_parameter comma specs d more) w t rest =
    comma_kept comma _ _ (specifiers_kept specs _ _ (declarator_kept d _ _ (omega (arith, parameters_count types more w.3 (t ∷ rest)))))

member_declarators_count : (types : List (List ℕ)) (all : Trees.MemberDeclarators) → AreMemberDeclarators types false all → (rest : List Lexeme)
    → length (member_declarators_list all) + length rest ≤ length (spelled_member_declarators all rest)
member_declarators_count types Trees.no_member_declarators w rest = omega arith
member_declarators_count types (Trees.and_member_declarator None d more) w rest = let e : false ≡ true = w.0 in cc
member_declarators_count types (Trees.and_member_declarator (Some c) d more) w rest =
    omega (arith, declarator_kept d (spelled_member_declarators more rest) _ (member_declarators_count types more w.3 rest))

pub member_declarators_room : (types : List (List ℕ)) (all : Trees.MemberDeclarators) → AreMemberDeclarators types true all
    → (t : Lexeme) (rest : List Lexeme) → length (member_declarators_list all) ≤ length (spelled_member_declarators all (t ∷ rest))
member_declarators_room types Trees.no_member_declarators w t rest = omega arith
member_declarators_room types (Trees.and_member_declarator comma d more) w t rest =
    comma_kept comma _ _ (declarator_kept d _ _ (omega (arith, member_declarators_count types more w.3 (t ∷ rest))))

pub specifiers_room : (specs : Trees.Specifiers) (rest : List Lexeme) → length (specifiers_list specs) ≤ length (spelled_specifiers specs rest)
specifiers_room Trees.no_specifiers rest = omega arith
specifiers_room (Trees.and_specifier s more) rest = specifier_kept s _ _ (omega (arith, specifiers_room more rest))

pub member_declarations_room : (member_declarations : Trees.MemberDeclarations) (rest : List Lexeme)
    → length (member_declarations_list member_declarations) ≤ length (spelled_member_declarations member_declarations rest)
member_declarations_room Trees.no_member_declarations rest = omega arith
member_declarations_room (Trees.and_member_declaration specs member_declarators semicolon more) rest =
    specifiers_kept specs _ _ (member_declarators_kept member_declarators _ _ (omega (arith, member_declarations_room more rest)))

pub enumerators_room : (all : Trees.Enumerators) (rest : List Lexeme) → length (enumerators_list all) ≤ length (spelled_enumerators all rest)
enumerators_room Trees.no_enumerators rest = omega arith
enumerators_room (Trees.and_enumerator comma x value more) rest =
    comma_kept comma _ _ (omega (arith, enumerator_value_kept value (spelled_enumerators more rest) _ (enumerators_room more rest)))
