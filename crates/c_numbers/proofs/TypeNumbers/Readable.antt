-- A key is that of one type alone.
use Rattle.std.proofs.Common.{◌≡◌, ℕ, List, [], ◌∷◌, ◌++◌, get_or, drop, refl, sym, ap, ◌∙◌, append_assoc, arith}
use Rattle.c_types.specs.declared.ty.IntKind.{IntKind}
use Rattle.c_types.specs.declared.ty.IntKind.TheVariants.{Char, SChar, UChar, Short, UShort, Int, UInt, Long, ULong}
use Rattle.c_types.specs.Types.{CType, CTypes, void, integer, pointer, array, function, structure, no_types, and_type}
use Rattle.c_numbers.specs.TypeNumbers.TypeKeys.{kind_number, type_key, types_key}

abbrev kinds : List IntKind
kinds = Char ∷ SChar ∷ UChar ∷ Short ∷ UShort ∷ Int ∷ UInt ∷ Long ∷ ULong ∷ []

abbrev kind_at : ℕ → IntKind
kind_at n = get_or kinds n Char

kind_back : (k : IntKind) → kind_at (kind_number k) ≡ k
kind_back Char = refl
kind_back SChar = refl
kind_back UChar = refl
kind_back Short = refl
kind_back UShort = refl
kind_back Int = refl
kind_back UInt = refl
kind_back Long = refl
kind_back ULong = refl

abbrev number : ℕ → List ℕ → ℕ
number i key = get_or key i 9

mutual
  read_back : (s t : CType) (x y : List ℕ) → type_key s ++ x ≡ type_key t ++ y → (s ≡ t) × (x ≡ y)
  read_back void void x y h = (refl, ap (drop 1) h)
  read_back (integer k) (integer l) x y h = (ap integer (sym (kind_back k) ∙ ap (λ key. kind_at (number 1 key)) h ∙ kind_back l), ap (drop 2) h)
  read_back (pointer s) (pointer t) x y h =
      let r = read_back s t x y (ap (drop 1) h) in
      (ap pointer r.0, r.1)
  read_back (array s n) (array t m) x y h =
      let r = read_back s t x y (ap (drop 2) h) in
      (ap (λ e. array e n) r.0 ∙ ap (array t) (ap (number 1) h), r.1)
  read_back (function s all) (function t others) x y h =
      let e = sym (append_assoc (type_key s) (types_key all) x) ∙ ap (drop 1) h ∙ append_assoc (type_key t) (types_key others) y in
      let r = read_back s t (types_key all ++ x) (types_key others ++ y) e in
      let q = all_read_back all others x y r.1 in
      (ap (λ u. function u all) r.0 ∙ ap (function t) q.0, q.1)
  read_back (structure n) (structure m) x y h = (ap structure (ap (number 1) h), ap (drop 2) h)
  read_back s t x y h = absurd (let e : number 0 (type_key s ++ x) ≡ number 0 (type_key t ++ y) = ap (number 0) h in omega (arith, e))

  all_read_back : (all others : CTypes) (x y : List ℕ) → types_key all ++ x ≡ types_key others ++ y → (all ≡ others) × (x ≡ y)
  all_read_back no_types no_types x y h = (refl, ap (drop 1) h)
  all_read_back (and_type s more) (and_type t others) x y h =
      let e = sym (append_assoc (type_key s) (types_key more) x) ∙ ap (drop 1) h ∙ append_assoc (type_key t) (types_key others) y in
      let r = read_back s t (types_key more ++ x) (types_key others ++ y) e in
      let q = all_read_back more others x y r.1 in
      (ap (λ u. and_type u more) r.0 ∙ ap (and_type t) q.0, q.1)
  all_read_back all others x y h = absurd (let e : number 0 (types_key all ++ x) ≡ number 0 (types_key others ++ y) = ap (number 0) h in omega (arith, e))

pub key_is_of_one : (s t : CType) → type_key s ≡ type_key t → s ≡ t
key_is_of_one s t h = (read_back s t [] [] (ap (λ key. key ++ []) h)).0
