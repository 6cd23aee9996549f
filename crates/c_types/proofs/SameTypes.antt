-- Two types are the same exactly where they are equal.
use Rattle.std.proofs.Common.{◌≡◌, ◌==◌, true, ◌&&◌, refl, ap, ◌∙◌}
use Rattle.std.proofs.lemmas.Bool.{and_parts, eq-eqb, eqb-true}
use Rattle.c_types.specs.declared.ty.IntKind.{IntKind}
use Rattle.c_types.specs.declared.ty.IntKind.TheVariants.{Char, SChar, UChar, Short, UShort, Int, UInt, Long, ULong}
use Rattle.c_types.specs.Sameness.{same_kind, same_type, same_types}
use Rattle.c_types.specs.Types.{CType, CTypes, void, integer, pointer, array, function, structure, no_types, and_type}

kind_is : (k l : IntKind) → same_kind k l ≡ true → k ≡ l
kind_is Char Char h = refl
kind_is SChar SChar h = refl
kind_is UChar UChar h = refl
kind_is Short Short h = refl
kind_is UShort UShort h = refl
kind_is Int Int h = refl
kind_is UInt UInt h = refl
kind_is Long Long h = refl
kind_is ULong ULong h = refl
kind_is k l h = cc

kind_self : (k : IntKind) → same_kind k k ≡ true
kind_self Char = refl
kind_self SChar = refl
kind_self UChar = refl
kind_self Short = refl
kind_self UShort = refl
kind_self Int = refl
kind_self UInt = refl
kind_self Long = refl
kind_self ULong = refl

mutual
  pub same_is : (s t : CType) → same_type s t ≡ true → s ≡ t
  same_is void void h = refl
  same_is (integer k) (integer l) h = ap integer (kind_is k l h)
  same_is (pointer s) (pointer t) h = ap pointer (same_is s t h)
  same_is (array s n) (array t m) h =
      let parts = and_parts (n == m) (same_type s t) h in
      ap (λ x. array x n) (same_is s t parts.1) ∙ ap (array t) (eqb-true n m parts.0)
  same_is (function s all) (function t others) h =
      let parts = and_parts (same_type s t) (same_types all others) h in
      ap (λ x. function x all) (same_is s t parts.0) ∙ ap (function t) (lists_are all others parts.1)
  same_is (structure n) (structure m) h = ap structure (eqb-true n m h)
  same_is s t h = cc

  lists_are : (all others : CTypes) → same_types all others ≡ true → all ≡ others
  lists_are no_types no_types h = refl
  lists_are (and_type s more) (and_type t others) h =
      let parts = and_parts (same_type s t) (same_types more others) h in
      ap (λ x. and_type x more) (same_is s t parts.0) ∙ ap (and_type t) (lists_are more others parts.1)
  lists_are all others h = cc

mutual
  same_with_self : (t : CType) → same_type t t ≡ true
  same_with_self void = refl
  same_with_self (integer k) = kind_self k
  same_with_self (pointer t) = same_with_self t
  same_with_self (array t n) = ap (λ b. b && same_type t t) (eq-eqb n n refl) ∙ same_with_self t
  same_with_self (function t all) = ap (λ b. b && same_types all all) (same_with_self t) ∙ list_with_self all
  same_with_self (structure n) = eq-eqb n n refl

  list_with_self : (all : CTypes) → same_types all all ≡ true
  list_with_self no_types = refl
  list_with_self (and_type t more) = ap (λ b. b && same_types more more) (same_with_self t) ∙ list_with_self more

pub same_self : (s t : CType) → s ≡ t → same_type s t ≡ true
same_self s t e = rw e (same_with_self t)
