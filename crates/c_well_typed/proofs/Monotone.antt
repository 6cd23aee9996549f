-- Rules on pointers to objects hold where more records are complete (C99 6.5.6, 6.5.16.2, 6.5.2.4), and what is converted in them is a number.
use Rattle.std.proofs.Common.{◌≡◌, ℕ, ◌≤◌, Bool, true, false, refl, cond}
use Rattle.std.specs.Prelude.{Some, None}
use Rattle.std.proofs.lemmas.Bool.{and_parts, and_from}
use Rattle.c_types.specs.Types.{CType, integer, pointer}
use Rattle.c_types.specs.Sameness.{same_type}
use Rattle.c_typed.specs.declared.operators.BinaryOp.{BinaryOp}
use Rattle.c_typed.specs.Conversions.{is_integer}
use Rattle.c_typed.specs.Rules.{promoting, arithmetic, is_shift, is_move, points_to_object, moving, differing, updating, is_stepped}
use Rattle.c_checking_laws.proofs.CompletePart.{complete_stays}
use Rattle.c_well_typed.proofs.Fitting.{promoting_is, arithmetic_is}

module _ (few many : ℕ) (less : few ≤ many) where
  pub points_more : (t : CType) → points_to_object few t ≡ true → points_to_object many t ≡ true
  points_more (pointer t) h = complete_stays few many t less h
  points_more t h = cc

  pub moving_more : (p n t : CType) → moving few p n ≡ Some t → moving many p n ≡ Some t
  moving_more p n t h = by_object (points_to_object few p) refl h
    where
      by_object : (b : Bool) → points_to_object few p ≡ b → cond b (promoting n) None ≡ Some t → moving many p n ≡ Some t
      by_object true e h = rw (points_more p e) h
      by_object false e h = cc

  pub differing_more : (s t : CType) → differing few s t ≡ true → differing many s t ≡ true
  differing_more s t h =
      let p = and_parts (points_to_object few s) (same_type s t) h in
      and_from (points_to_object many s) (same_type s t) (points_more s p.0) p.1

  pub updating_more : (op : BinaryOp) (s t u : CType) → updating few op s t ≡ Some u → updating many op s t ≡ Some u
  updating_more op (integer kind) t u h = h
  updating_more op (pointer s) t u h = by_move (is_move op) h
    where
      by_move : (b : Bool) → cond b (moving few (pointer s) t) None ≡ Some u → cond b (moving many (pointer s) t) None ≡ Some u
      by_move true h = moving_more (pointer s) t u h
      by_move false h = h
  updating_more op s t u h = by_move (is_move op) h
    where
      by_move : (b : Bool) → cond b (moving few s t) None ≡ Some u → cond b (moving many s t) None ≡ Some u
      by_move true h = moving_more s t u h
      by_move false h = h

  pub stepped_more : (t : CType) → is_stepped few t ≡ true → is_stepped many t ≡ true
  stepped_more t h = by_integer (is_integer t) h
    where
      by_integer : (b : Bool) → cond b true (points_to_object few t) ≡ true → cond b true (points_to_object many t) ≡ true
      by_integer true h = h
      by_integer false h = points_more t h

module _ (count : ℕ) where
  pub moved_number : (p n t : CType) → moving count p n ≡ Some t → is_integer t ≡ true
  moved_number p n t h = by_object (points_to_object count p) h
    where
      by_object : (b : Bool) → cond b (promoting n) None ≡ Some t → is_integer t ≡ true
      by_object true h = (promoting_is n t h).1
      by_object false h = cc

  pub updated_number : (op : BinaryOp) (s t u : CType) → updating count op s t ≡ Some u → is_integer u ≡ true
  updated_number op (integer kind) t u h = by_shift (is_shift op) h
    where
      by_shift : (b : Bool) → cond b (promoting t) (arithmetic (integer kind) t) ≡ Some u → is_integer u ≡ true
      by_shift true h = (promoting_is t u h).1
      by_shift false h = (arithmetic_is (integer kind) t u h).2
  updated_number op (pointer s) t u h = by_move (is_move op) h
    where
      by_move : (b : Bool) → cond b (moving count (pointer s) t) None ≡ Some u → is_integer u ≡ true
      by_move true h = moved_number (pointer s) t u h
      by_move false h = cc
  updated_number op s t u h = by_move (is_move op) h
    where
      by_move : (b : Bool) → cond b (moving count s t) None ≡ Some u → is_integer u ≡ true
      by_move true h = moved_number s t u h
      by_move false h = cc
