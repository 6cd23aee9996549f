-- The lists of a tree as lists, and the commas between their items.
use Rattle.std.proofs.Common.{◌≡◌, ℕ, List, [], ◌∷◌, ◌++◌, Option, Some, None, Bool, true, false, refl, ap}
use Rattle.c_ast.specs.declared.words.Spelling.{Spelling}
use Rattle.c_ast.specs.Trees
use Rattle.c_ast.specs.Spelling.{Lexeme, spelled_comma}
use Rattle.c_ast.specs.WellFormed.{IsComma}
use Rattle.c_ast.specs.Views.{arguments_of, specifiers_of, member_declarations_of, member_declarators_of, enumerators_of, parameters_of}
use Rattle.c_grammar.specs.Reading.{comma_before}

abbrev pub arguments_list : Trees.Arguments → List (Option ℕ × Trees.Expression)
arguments_list Trees.no_arguments = []
arguments_list (Trees.and_argument comma a more) = (comma, a) ∷ arguments_list more

abbrev pub specifiers_list : Trees.Specifiers → List Trees.Specifier
specifiers_list Trees.no_specifiers = []
specifiers_list (Trees.and_specifier s more) = s ∷ specifiers_list more

abbrev pub member_declarations_list : Trees.MemberDeclarations → List (Trees.Specifiers × Trees.MemberDeclarators × ℕ)
member_declarations_list Trees.no_member_declarations = []
member_declarations_list (Trees.and_member_declaration specs member_declarators semicolon more) =
    (specs, member_declarators, semicolon) ∷ member_declarations_list more

abbrev pub member_declarators_list : Trees.MemberDeclarators → List (Option ℕ × Trees.Declarator)
member_declarators_list Trees.no_member_declarators = []
member_declarators_list (Trees.and_member_declarator comma d more) = (comma, d) ∷ member_declarators_list more

abbrev pub enumerators_list : Trees.Enumerators → List (Option ℕ × Spelling × Trees.EnumeratorValue)
enumerators_list Trees.no_enumerators = []
enumerators_list (Trees.and_enumerator comma x value more) = (comma, x, value) ∷ enumerators_list more

abbrev pub parameters_list : Trees.Parameters → List (Option ℕ × Trees.Specifiers × Trees.Declarator)
parameters_list Trees.no_parameters = []
parameters_list (Trees.and_parameter comma specs d more) = (comma, specs, d) ∷ parameters_list more

pub arguments_again : (all : Trees.Arguments) → arguments_of (arguments_list all) ≡ all
arguments_again Trees.no_arguments = refl
arguments_again (Trees.and_argument comma a more) = ap (λ r. Trees.and_argument comma a r) (arguments_again more)

pub specifiers_again : (specs : Trees.Specifiers) → specifiers_of (specifiers_list specs) ≡ specs
specifiers_again Trees.no_specifiers = refl
specifiers_again (Trees.and_specifier s more) = ap (λ r. Trees.and_specifier s r) (specifiers_again more)

pub member_declarations_again : (member_declarations : Trees.MemberDeclarations)
    → member_declarations_of (member_declarations_list member_declarations) ≡ member_declarations
member_declarations_again Trees.no_member_declarations = refl
member_declarations_again (Trees.and_member_declaration specs member_declarators semicolon more) =
    ap (λ r. Trees.and_member_declaration specs member_declarators semicolon r) (member_declarations_again more)

pub member_declarators_again : (member_declarators : Trees.MemberDeclarators) → member_declarators_of (member_declarators_list member_declarators)
    ≡ member_declarators
member_declarators_again Trees.no_member_declarators = refl
member_declarators_again (Trees.and_member_declarator comma d more) = ap (λ r. Trees.and_member_declarator comma d r) (member_declarators_again more)

pub enumerators_again : (all : Trees.Enumerators) → enumerators_of (enumerators_list all) ≡ all
enumerators_again Trees.no_enumerators = refl
enumerators_again (Trees.and_enumerator comma x value more) = ap (λ r. Trees.and_enumerator comma x value r) (enumerators_again more)

pub parameters_again : (all : Trees.Parameters) → parameters_of (parameters_list all) ≡ all
parameters_again Trees.no_parameters = refl
parameters_again (Trees.and_parameter comma specs d more) = ap (λ r. Trees.and_parameter comma specs d r) (parameters_again more)

-- ---- commas

abbrev pub is_new : {A : Type 0} → List A → Bool
is_new [] = true
is_new (a ∷ done) = false

pub not_new : {A : Type 0} (done : List A) (a : A) → false ≡ is_new (done ++ a ∷ [])
not_new [] a = refl
not_new (b ∷ done) a = refl

-- none before the first, and one before each other
pub comma_read : {A : Type 0} (done : List A) (first : Bool) (c : Option ℕ) (rest : List Lexeme) → first ≡ is_new done → IsComma first c
    → comma_before done (spelled_comma c rest) ≡ Some (c, rest)
comma_read [] first None rest e w = refl
comma_read [] first (Some i) rest e w = let h : first ≡ false = w in cc
comma_read (a ∷ done) first None rest e w = let h : first ≡ true = w in cc
comma_read (a ∷ done) first (Some i) rest e w = refl
