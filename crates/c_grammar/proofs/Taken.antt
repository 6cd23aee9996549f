-- What it is for a reader to be sound: what it reads is spelled so, is well formed, and has that depth.
use Rattle.std.proofs.Common.{◌≡◌, ◌≢◌, ℕ, ◌+◌, ◌≤◌, ◌<◌, max, List, [], ◌∷◌, Option, Some, None, true, false, subst, arith}
use Rattle.c_tokens.specs.declared.punctuator.Punctuator.TheVariants as M
use Rattle.c_tokens.specs.declared.token.TokenKind.TheVariants as K
use Rattle.c_ast.specs.declared.words.Spelling.{Spelling}
use Rattle.c_ast.specs.declared.operators.BinaryOp.{BinaryOp}
use Rattle.c_ast.specs.Trees
use Rattle.c_ast.specs.Spelling.{Lexeme, punctuator, word, spelled, spelled_specifiers, spelled_member_declarators, spelled_enumerator_value}
use Rattle.c_ast.specs.Spelling.{spelled_declarator}
use Rattle.c_ast.specs.WellFormed.{strength, level, is_typename, IsExpression, AreSpecifiers, AreMemberDeclarators, IsEnumeratorValue, IsDeclarator}
use Rattle.c_ast.specs.Sizes.{depth, depth_specifiers, depth_member_declarators, depth_enumerator_value, depth_declarator}
use Rattle.c_grammar.proofs.Wholeness.{AreWhole}
use Rattle.c_grammar.specs.Reading.{Reader, Inner, binary_op}

-- y is such a value, of that depth and at most n deep, which spells the tokens up to a rest
pub record Took {A : Type 0} (spell : A → List Lexeme → List Lexeme) (Ok : A → Type 0) (depth_of : A → ℕ) (n : ℕ) (tokens : List Lexeme)
    (y : A × ℕ × List Lexeme) : Type 0 where
  pub spelled_so : tokens ≡ spell y.0 y.2
  pub well_formed : Ok y.0
  pub deep : y.1 ≡ depth_of y.0
  pub within : y.1 ≤ n
  pub whole : AreWhole y.2

abbrev pub Reads : {A : Type 0} → (A → List Lexeme → List Lexeme) → (A → Type 0) → (A → ℕ) → ℕ → Reader A → Type 0
Reads spell Ok depth_of n reader = (tokens : List Lexeme) → AreWhole tokens → (y : _ × ℕ × List Lexeme) → reader tokens ≡ Some y
    → Took spell Ok depth_of n tokens y

-- what follows may be written as any tokens equal to it
pub took_before : {A : Type 0} {spell : A → List Lexeme → List Lexeme} {Ok : A → Type 0} {depth_of : A → ℕ} {n : ℕ} {tokens : List Lexeme} (x : A)
    (d : ℕ) (rest other : List Lexeme)
    → rest ≡ other → Took spell Ok depth_of n tokens (x, d, rest) → Took spell Ok depth_of n tokens (x, d, other)
took_before {spell = spell} {Ok} {depth_of} {n} {tokens} x d rest other e p = subst (λ z. Took spell Ok depth_of n tokens (x, d, z)) e p

-- ---- expressions

abbrev pub AtLeast : List (List ℕ) → ℕ → Trees.Expression → Type 0
AtLeast types least t = (least ≤ level t) × IsExpression types t

abbrev pub TookExpression : List (List ℕ) → ℕ → ℕ → List Lexeme → Trees.Expression × ℕ × List Lexeme → Type 0
TookExpression types least n tokens y = Took spelled (AtLeast types least) depth n tokens y

abbrev pub ReadsExpression : List (List ℕ) → ℕ → ℕ → Reader Trees.Expression → Type 0
ReadsExpression types least n reader = Reads spelled (AtLeast types least) depth n reader

pub looser : (types : List (List ℕ)) (n least less : ℕ) (tokens : List Lexeme) (y : Trees.Expression × ℕ × List Lexeme) → less ≤ least
    → TookExpression types least n tokens y → TookExpression types less n tokens y
looser types n least less tokens y h p = record {
  spelled_so = p.spelled_so;
  well_formed = (omega (arith, p.well_formed.0), p.well_formed.1);
  deep =
      p.deep;
  within = p.within;
  whole = p.whole;
}

abbrev pub strength_if_any : Option BinaryOp → ℕ
strength_if_any None = 0
strength_if_any (Some op) = strength op

-- the strength of the operator at the front, or 0
abbrev pub strength_of_next : List Lexeme → ℕ
strength_of_next [] = 0
strength_of_next (t ∷ rest) = strength_if_any (binary_op t.kind)

-- and no operator of that strength follows
abbrev pub ReadsOperators : List (List ℕ) → ℕ → ℕ → Reader Trees.Expression → Type 0
ReadsOperators types least n reader = (tokens : List Lexeme) → AreWhole tokens → (y : Trees.Expression × ℕ × List Lexeme) → reader tokens ≡ Some y
    → TookExpression types least n tokens y × (strength_of_next y.2 < least)

-- ---- member declarations, enumerators

abbrev pub spelled_member_declaration : Trees.Specifiers × Trees.MemberDeclarators × ℕ → List Lexeme → List Lexeme
spelled_member_declaration member_declaration rest = spelled_specifiers member_declaration.0
    (spelled_member_declarators member_declaration.1 (punctuator M.Semicolon member_declaration.2 ∷ rest))

abbrev pub IsMemberDeclaration : List (List ℕ) → Trees.Specifiers × Trees.MemberDeclarators × ℕ → Type 0
IsMemberDeclaration types member_declaration = AreSpecifiers types member_declaration.0 × (member_declaration.1 ≢ Trees.no_member_declarators)
    × AreMemberDeclarators types true member_declaration.1

abbrev pub depth_member_declaration : Trees.Specifiers × Trees.MemberDeclarators × ℕ → ℕ
depth_member_declaration member_declaration = max (depth_specifiers member_declaration.0) (depth_member_declarators member_declaration.1) + 1

abbrev pub spelled_enumerator : Spelling × Trees.EnumeratorValue → List Lexeme → List Lexeme
spelled_enumerator e rest = word K.Name e.0 ∷ spelled_enumerator_value e.1 rest

abbrev pub IsEnumerator : List (List ℕ) → Spelling × Trees.EnumeratorValue → Type 0
IsEnumerator types e = (is_typename types e.0.text ≡ false) × IsEnumeratorValue types e.1

abbrev pub depth_enumerator : Spelling × Trees.EnumeratorValue → ℕ
depth_enumerator e = depth_enumerator_value e.1 + 1

-- ---- all readers

pub record IsSound (types : List (List ℕ)) (n : ℕ) (inner : Inner) : Type 0 where
  pub expression : ReadsExpression types 0 n inner.expression
  pub assignment : ReadsExpression types 1 n inner.assignment
  pub conditional : ReadsExpression types 2 n inner.conditional
  pub operators : (least : ℕ) → 3 ≤ least → least ≤ 13 → ReadsOperators types least n (inner.operators least)
  pub operand : ReadsExpression types 13 n inner.operand
  pub unary : ReadsExpression types 14 n inner.unary
  pub specifiers : Reads spelled_specifiers (AreSpecifiers types) depth_specifiers n inner.specifiers
  pub member_declaration : Reads spelled_member_declaration (IsMemberDeclaration types) depth_member_declaration n inner.member_declaration
  pub enumerator : Reads spelled_enumerator (IsEnumerator types) depth_enumerator n inner.enumerator
  pub declarator : Reads spelled_declarator (IsDeclarator types) depth_declarator n inner.declarator
