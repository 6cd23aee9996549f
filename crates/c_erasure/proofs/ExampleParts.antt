-- What examples of files are made of.
use Rattle.std.proofs.Common.{refl, ap, subst, zero, suc, arith}
use Rattle.std.specs.Str.{bytes_eq}
use Rattle.std.specs.Prelude.{◌≡◌, ◌≢◌, ℕ, List, [], ◌∷◌, true, false, Some, codes, slice_get, unwrap_or, EachIndex}
use Rattle.lay_base.specs.declared.place.Place.{Place}
use Rattle.c_types.specs.declared.ty.IntKind.TheVariants.{Int}
use Rattle.c_types.specs.Types.{CType, integer}
use Rattle.c_ast.specs.declared.words.Spelling.{Spelling}
use Rattle.c_ast.specs.declared.operators.SpecifierKeyword.TheVariants as S
use Rattle.c_ast.specs.Trees
use Rattle.c_typed.specs.declared.operators.LibraryFunction.TheVariants as L
use Rattle.c_typed.specs.declared.program.MentionKind.{MentionKind}
use Rattle.c_typed.specs.Trees as Typed
use Rattle.c_erasure.specs.Noted.{Expression, value}
use Rattle.c_erasure.specs.Scopes.{AMention}
use Rattle.c_erasure.specs.Files.{IsOwnName}

-- names that differ
pub differ : (x y : List ℕ) → bytes_eq x x ≡ true → bytes_eq x y ≡ false → x ≢ y
differ x y t f e = let z : bytes_eq x x ≡ bytes_eq x y = ap (bytes_eq x) e in cc

abbrev pub place : ℕ → Place
place n = record { file = 0; at = n }

abbrev pub word : List ℕ → (from to : ℕ) → Spelling
word x from to = record { from = from; to = to; text = x }

abbrev pub int : CType
int = integer Int

abbrev pub ints : ℕ → Trees.Specifiers
ints at = Trees.and_specifier (Trees.plain S.Int at) Trees.no_specifiers

abbrev pub mention : MentionKind → CType → ℕ → AMention
mention kind t at = record { kind = kind; ty = t; at = at }

pub main_is_own : IsOwnName (codes "main")
main_is_own L.Malloc = differ (codes "main") (codes "malloc") refl refl
main_is_own L.Calloc = differ (codes "main") (codes "calloc") refl refl
main_is_own L.Free = differ (codes "main") (codes "free") refl refl
main_is_own L.Memcpy = differ (codes "main") (codes "memcpy") refl refl
main_is_own L.Memmove = differ (codes "main") (codes "memmove") refl refl
main_is_own L.Memset = differ (codes "main") (codes "memset") refl refl
main_is_own L.Memcmp = differ (codes "main") (codes "memcmp") refl refl
main_is_own L.Putchar = differ (codes "main") (codes "putchar") refl refl
main_is_own L.Getchar = differ (codes "main") (codes "getchar") refl refl
main_is_own L.Exit = differ (codes "main") (codes "exit") refl refl

abbrev pub number : ℕ → ℕ → Expression
number at n = value int (place at) (Typed.constant n)

-- the same value twice
pub value_of_some : {X : Type 0} (x y : X) → Some x ≡ Some y → x ≡ y
value_of_some x y e = ap (λ o. unwrap_or o x) e

-- the only element of a list
pub only : {X : Type 0} (P : ℕ → X → Type 0) (x : X) (n : ℕ) (y : X) → slice_get (x ∷ []) n ≡ Some y → P 0 x → P n y
only P x zero y e p = subst (P 0) (ap (λ o. unwrap_or o x) e) p
only P x (suc n) y e p = cc

-- one of the two elements of a list
pub one_of_two : {X : Type 0} (P : ℕ → X → Type 0) (x z : X) (n : ℕ) (y : X) → slice_get (x ∷ z ∷ []) n ≡ Some y → P 0 x → P 1 z → P n y
one_of_two P x z zero y e p q = subst (P 0) (ap (λ o. unwrap_or o x) e) p
one_of_two P x z (suc zero) y e p q = subst (P 1) (ap (λ o. unwrap_or o z) e) q
one_of_two P x z (suc (suc n)) y e p q = cc

-- what holds of the first holds of each of one
pub first_alone : {X : Type 0} (P : ℕ → Type 0) (x : X) → P 0 → EachIndex (x ∷ []) P
first_alone P x p zero h = p
first_alone P x p (suc i) h = absurd (omega (arith, h))
