-- The numbers and characters of a text are values of their types (C99 6.4.4).
use Rattle.std.proofs.Common.{◌≡◌, ℕ, ◌+◌, ◌≤◌, Bool, true, false, cond, refl, subst, List, [], ◌∷◌, ◌++◌, length, arith}
use Rattle.std.proofs.lemmas.Bool.{leb-true}
use Rattle.std.specs.Prelude.{nat_le, Some}
use Rattle.c_tokens.specs.declared.part.PartKind.{PartKind}
use Rattle.c_tokens.specs.declared.part.PartKind.TheVariants as Q
use Rattle.c_tokens.specs.declared.part.Shape.{Shape}
use Rattle.c_tokens.specs.declared.part.Shape.TheVariants as S
use Rattle.c_tokens.specs.declared.token.Token.{Token}
use Rattle.c_tokens.specs.declared.token.TokenKind.{TokenKind}
use Rattle.c_tokens.specs.declared.token.TokenKind.TheVariants as K
use Rattle.c_tokens.specs.Lexes.{Lexes, AreTokens, AreTokensFrom}
use Rattle.c_tokens.specs.declared.radix.Radix.{Radix}
use Rattle.c_tokens.specs.declared.radix.Radix.TheVariants.{Decimal, Octal, Hexadecimal}
use Rattle.c_tokens.specs.declared.radix.Suffix.{Suffix}
use Rattle.c_tokens.specs.declared.radix.Suffix.TheVariants.{Plain, Unsigned, UnsignedLong, LongLong, Long as LongSuffix}
use Rattle.c_tokens.specs.Numbers.{kinds, first_holding, value}
use Rattle.c_tokens.specs.Parts.{Part}
use Rattle.c_tokens.specs.Words.{IsToken, greatest_character}
use Rattle.c_types.specs.declared.ty.IntKind.{IntKind}
use Rattle.c_types.specs.declared.ty.IntKind.TheVariants.{Int, UInt, Long, ULong}
use Rattle.c_types.specs.IntKinds.{greatest}
use Rattle.c_typed.specs.Conversions.{as_kind}
use Rattle.c_ast.specs.Lexemes.{lexemes_of}
use Rattle.c_checking_laws.proofs.WholeFiles.RangedParts.{IsRanged, AreRanged}

abbrev Wide : IntKind → Type 0
Wide kind = (n : ℕ) → n ≤ greatest kind → as_kind kind n ≡ n

abbrev AreWide : List IntKind → Type 0
AreWide [] = Unit {0}
AreWide (kind ∷ more) = Wide kind × AreWide more

wide_int : Wide Int
wide_int n l = omega (arith, l)

wide_unsigned : Wide UInt
wide_unsigned n l = omega (arith, l)

wide_long : Wide Long
wide_long n l = omega (arith, l)

wide_unsigned_long : Wide ULong
wide_unsigned_long n l = omega (arith, l)

wide_kinds : (radix : Radix) (suffix : Suffix) → AreWide (kinds radix suffix)
wide_kinds Decimal Plain = (wide_int, (wide_long, tt))
wide_kinds Octal Plain = (wide_int, (wide_unsigned, (wide_long, (wide_unsigned_long, tt))))
wide_kinds Hexadecimal Plain = (wide_int, (wide_unsigned, (wide_long, (wide_unsigned_long, tt))))
wide_kinds radix Unsigned = (wide_unsigned, (wide_unsigned_long, tt))
wide_kinds Decimal LongSuffix = (wide_long, tt)
wide_kinds Octal LongSuffix = (wide_long, (wide_unsigned_long, tt))
wide_kinds Hexadecimal LongSuffix = (wide_long, (wide_unsigned_long, tt))
wide_kinds radix UnsignedLong = (wide_unsigned_long, tt)
wide_kinds radix LongLong = tt

held : (n : ℕ) (all : List IntKind) (kind : IntKind) → first_holding n all ≡ Some kind → AreWide all → as_kind kind n ≡ n
held n [] kind e w = cc
held n (k ∷ more) kind e w = by_case (nat_le n (greatest k)) refl e (λ f. held n more kind f w.1)
  where
    by_case : (b : Bool) → nat_le n (greatest k) ≡ b → cond b (Some k) (first_holding n more) ≡ Some kind
        → (first_holding n more ≡ Some kind → as_kind kind n ≡ n) → as_kind kind n ≡ n
    by_case true q e later = let same : k ≡ kind = cc in subst (λ k. as_kind k n ≡ n) same (w.0 n (leb-true n (greatest k) q))
    by_case false q e later = later e

number_ranged : (shape : Shape) (text : List ℕ) (n : ℕ) (kind : IntKind) → IsToken shape text (K.Number n kind) → as_kind kind n ≡ n
number_ranged S.Number text n kind h =
    subst (λ n. as_kind kind n ≡ n) h.4 (held (value h.0 h.1) (kinds h.0 h.2) kind h.5 (wide_kinds h.0 h.2))
number_ranged shape text n kind h = absurd h

character_ranged : (shape : Shape) (text : List ℕ) (n : ℕ) → IsToken shape text (K.Character n) → as_kind Int n ≡ n
character_ranged S.Character text n h = let l : n ≤ greatest_character = h.3 in omega (arith, l)
character_ranged shape text n h = absurd h

token_ranged : (shape : Shape) (text : List ℕ) (kind : TokenKind) → IsToken shape text kind → IsRanged kind
token_ranged shape text (K.Number n kind) h = number_ranged shape text n kind h
token_ranged shape text (K.Character n) h = character_ranged shape text n h
token_ranged shape text kind h = tt

from_part : (bytes : List ℕ) (at : ℕ) (kind : PartKind) (text : List ℕ) (GoOn : List Token → Type 0) (tokens : List Token)
    → AreTokensFrom at kind text GoOn tokens → ((rest : List Token) → GoOn rest → AreRanged (lexemes_of bytes rest)) → AreRanged (lexemes_of bytes tokens)
from_part bytes at (Q.Word shape) text GoOn [] h later = absurd h
from_part bytes at (Q.Word shape) text GoOn (token ∷ tokens) h later = (token_ranged shape text token.kind h.0, later tokens h.3)
from_part bytes at kind text GoOn tokens h later = later tokens h

tokens_ranged : (bytes : List ℕ) (at : ℕ) (parts : List Part) (tokens : List Token) → AreTokens at parts tokens → AreRanged (lexemes_of bytes tokens)
tokens_ranged bytes at [] tokens h = subst (λ tokens. AreRanged (lexemes_of bytes tokens)) (Rattle.std.proofs.Common.sym h) tt
tokens_ranged bytes at (part ∷ parts) tokens h =
    from_part bytes at part.kind part.text (AreTokens (at + length part.text) parts) tokens h
    (λ rest k. tokens_ranged bytes (at + length part.text) parts rest k)

pub text_ranged : (bytes : List ℕ) (tokens : List Token) → Lexes bytes tokens → AreRanged (lexemes_of bytes tokens)
text_ranged bytes tokens h = tokens_ranged bytes 0 h.parts tokens h.are_tokens
