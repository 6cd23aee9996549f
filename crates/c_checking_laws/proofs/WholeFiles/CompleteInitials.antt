-- Initializers in braces, and all initializers: what stands for one is found for it (C99 6.7.8).
use Rattle.std.proofs.Common.{◌≡◌, ℕ, ◌<◌, true, false, refl, ap, ◌∙◌, subst, List, [], length, cond, inl, inr}
use Rattle.std.proofs.lemmas.Bool.{and_parts, ltb-true}
use Rattle.std.specs.Prelude.{◌⊎◌, nat_lt, Option, Some, None, slice_get}
use Rattle.c_types.specs.Types.{CType, void, integer, pointer, array, function, structure, Record}
use Rattle.c_types.specs.Objects.{is_object}
use Rattle.c_ast.specs.declared.words.Spelling.{Spelling}
use Rattle.c_ast.specs.Trees
use Rattle.c_ast.specs.Places.{first_text}
use Rattle.c_typed.specs.Trees as Typed
use Rattle.c_typed.specs.Conversions.{is_scalar}
use Rattle.c_erasure.specs.Initializers.{Part, part_at, texts_of, is_character, IsTextOf, IsText, IsNoText, IsOneValue, InitializeElements}
use Rattle.c_erasure.specs.Initializers.{InitializeFields}
use Rattle.c_erasure.specs.Noted.{Expression, type_of}
use Rattle.c_erasure.specs.Scopes.{ALocal, FileScope, Scope}
use Rattle.c_erasure.specs.Checking.Answers.{Checked, with_file, moved}
use Rattle.c_erasure.specs.Checking.Initializers.{in_braces, is_text, fields_of, text_of_array, initialized, one_value, elements, fields_from}
use Rattle.c_checking_laws.proofs.CompleteWalk.{seen}
use Rattle.c_checking_laws.proofs.CompletePart.{whole, Lists, part, IsWhole, IsBefore, Done}
use Rattle.c_checking_laws.proofs.WholeFiles.CompleteTexts.{character_of}
use Rattle.c_checking_laws.proofs.WholeFiles.CompleteValues.{text_done}
use Rattle.c_checking_laws.proofs.WholeFiles.CompletePlain.{none_begins, plain, texts_in_braces}
use Rattle.c_checking_laws.proofs.WholeFiles.CompleteParts.{other_done, in_front, no_text, Walks, Here, Holds, Finds, FindsElements, FindsFields, one_finds}
use Rattle.c_checking_laws.proofs.WholeFiles.CompleteParts.{plain_finds}
use Rattle.c_checking_laws.proofs.WholeFiles.CompleteParts.{no_part, elements_after, fields_after}

module _ (g : FileScope) (w : IsWhole g) (ls : List ALocal) where
  -- what the checker makes of braces
  InBraces : (left : ℕ) (all : Trees.Arguments) (last : Option ℕ) (right : ℕ) (s : Scope) (c : Lists) (t : CType) (at : ℕ) → Checked (List Part)
  InBraces left all last right s c t at = in_braces left at t (texts_of (Trees.braces left all last right)) (part g c) (one_value left all (moved s
      (part g c)) t at)
      (λ u n. elements all (moved s (part g c)) u n at) (λ r fields. fields_from all (moved s (part g c)) r 0 fields at)

  braces_are : (left : ℕ) (all : Trees.Arguments) (last : Option ℕ) (right : ℕ) (s : Scope) (c : Lists) (t : CType) (at : ℕ)
      → initialized (Trees.braces left all last right) (moved s (part g c)) t at ≡ InBraces left all last right s c t at
  unfolding initialized InBraces
  braces_are left all last right s c t at = refl

  scalar_braces : (left : ℕ) (all : Trees.Arguments) (last : Option ℕ) (right : ℕ) (s : Scope) (c : Lists) (t : CType) (at : ℕ) → is_scalar t ≡ true
      → InBraces left all last right s c t at ≡ one_value left all (moved s (part g c)) t at
  unfolding InBraces
  scalar_braces left all last right s c (integer kind) at i = refl
  scalar_braces left all last right s c (pointer t) at i = refl
  scalar_braces left all last right s c void at i = cc
  scalar_braces left all last right s c (array t n) at i = cc
  scalar_braces left all last right s c (function t types) at i = cc
  scalar_braces left all last right s c (structure r) at i = cc

  array_braces : (left : ℕ) (all : Trees.Arguments) (last : Option ℕ) (right : ℕ) (s : Scope) (c : Lists) (u : CType) (n at : ℕ)
      → is_text u (texts_of (Trees.braces left all last right)) ≡ false
      → InBraces left all last right s c (array u n) at ≡ elements all (moved s (part g c)) u n at
  unfolding InBraces
  array_braces left all last right s c u n at e =
      ap (λ b. cond b (with_file (part g c) (text_of_array left at n true (texts_of (Trees.braces left all last right))))
      (elements all (moved s (part g c)) u n at)) e

  text_braces : (left : ℕ) (all : Trees.Arguments) (last : Option ℕ) (right : ℕ) (s : Scope) (c : Lists) (u : CType) (n at : ℕ) (ts : List Spelling)
      → is_character u ≡ true → texts_of (Trees.braces left all last right) ≡ Some ts
      → InBraces left all last right s c (array u n) at ≡ with_file (part g c) (text_of_array left at n (is_character u) (Some ts))
  unfolding InBraces
  text_braces left all last right s c u n at ts k e = rw (e, k) refl

  record_braces : (left : ℕ) (all : Trees.Arguments) (last : Option ℕ) (right : ℕ) (s : Scope) (c : Lists) (r at : ℕ) (rec : Record)
      → slice_get c.records r ≡ Some rec
      → InBraces left all last right s c (structure r) at ≡ fields_from all (moved s (part g c)) r 0 rec.fields at
  unfolding InBraces
  record_braces left all last right s c r at rec e = ap (λ o. fields_from all (moved s (part g c)) r 0 (fields_of o) at) e

  braces_find : (left : ℕ) (all : Trees.Arguments) (last : Option ℕ) (right : ℕ) → FindsElements g w ls all → FindsFields g w ls all
      → Finds g w ls (Trees.braces left all last right)
  braces_find left all last right i j s c t at parts full f known b h k = by_form h
    where
      answered : (u : CType) (r : Checked (List Part)) (x : List Part) → t ≡ u → InBraces left all last right s c u at ≡ r → parts ≡ x
          → Done g c (Here g w ls s (Walks g w ls all)) r x
          → Done g c (Here g w ls s (Walks g w ls all)) (initialized (Trees.braces left all last right) (moved s (part g c)) t at) parts
      answered u r x e q p z =
          other_done g c _ _ _ r parts x refl (braces_are left all last right s c t at ∙ ap (λ t. InBraces left all last right s c t at) e ∙ q) p z

      by_text : (o : Option (List Spelling)) → texts_of (Trees.braces left all last right) ≡ o → IsText o (whole g ls s) t at parts
          → Done g c (Here g w ls s (Walks g w ls all)) (initialized (Trees.braces left all last right) (moved s (part g c)) t at) parts
      by_text None e x = absurd x
      by_text (Some ts) e x =
          let bytes = x.0 in
          let n = x.1.1 in
          let u : CType = integer x.1.0 in
          let is : IsTextOf (array u n) ts bytes = subst (λ t. IsTextOf t ts bytes) x.1.2 x.1 in
          let v : Here g w ls s (Walks g w ls all) ≡ [] = ap (λ all. seen s.is_inside s.purpose all)
          (texts_in_braces left all last right ts g.untagged g.objects e (none_begins g.objects (first_text ts) x.2)) in
          let z = text_done g w ls c u n left at ts bytes (subst (IsBefore g c) v b) is in
          answered (array u n) (with_file (part g c) (text_of_array left at n (is_character u) (Some ts))) parts x.1.2
          (text_braces left all last right s c u n at ts (character_of u n ts bytes is) e) refl
          (other_done g c (Here g w ls s (Walks g w ls all)) [] _ _ parts (part_at at (Typed.text bytes)) v refl x.3 z)

      by_form : ((x : Expression) × (is_scalar t ≡ true) × (type_of x ≡ t) × (parts ≡ part_at at (Typed.value x)) × IsOneValue all (whole g ls s) x)
          ⊎ ((n : ℕ) × (u : CType) × (t ≡ array u n) × IsNoText u (texts_of (Trees.braces left all last right))
          × InitializeElements all (whole g ls s) u n at parts)
          ⊎ ((r : ℕ) × (rec : Record) × (t ≡ structure r) × (slice_get g.records r ≡ Some rec)
          × InitializeFields all (whole g ls s) r 0 rec.fields at parts)
          ⊎ IsText (texts_of (Trees.braces left all last right)) (whole g ls s) t at parts
          → Done g c (Here g w ls s (Walks g w ls all)) (initialized (Trees.braces left all last right) (moved s (part g c)) t at) parts
      by_form (inl x) =
          let k = subst (Holds g w ls s) x.3 k in
          answered t (one_value left all (moved s (part g c)) t at) (part_at at (Typed.value x.0)) refl
          (scalar_braces left all last right s c t at x.1) x.3
          (one_finds g w ls left all s c t at x.0 full f b x.1 x.2 x.4 k.0)
      by_form (inr (inl x)) =
          let known = subst (λ t. is_object (length c.records) t ≡ true) x.2 known in
          let u = (and_parts (nat_lt 0 x.0) (is_object (length c.records) x.1) known).1 in
          answered (array x.1 x.0) (elements all (moved s (part g c)) x.1 x.0 at) parts x.2
          (array_braces left all last right s c x.1 x.0 at (no_text x.1 (texts_of (Trees.braces left all last right)) x.3)) refl
          (i s c x.1 x.0 at parts full f u b x.4 k)
      by_form (inr (inr (inl x))) =
          let known = subst (λ t. is_object (length c.records) t ≡ true) x.2 known in
          let less : x.0 < length c.records = ltb-true x.0 (length c.records) known in
          let there = in_front c.records b.extends.records.0 g.records x.0 x.1 b.extends.records.1 less x.3 in
          answered (structure x.0) (fields_from all (moved s (part g c)) x.0 0 x.1.fields at) parts x.2
          (record_braces left all last right s c x.0 at x.1 there) refl
          (j s c x.0 0 x.1.fields at parts full f less (λ j f e. w.fields_complete x.0 j x.1 f x.3 e) b x.4 k)
      by_form (inr (inr (inr x))) = by_text (texts_of (Trees.braces left all last right)) refl x

  -- ---- the recursion

  mutual
    unfolding elements fields_from

    pub finds : (a : Trees.Expression) → Finds g w ls a
    finds (Trees.name x) = plain_finds g w ls (Trees.name x) (plain (Trees.name x) refl)
    finds (Trees.number x n kind) = plain_finds g w ls (Trees.number x n kind) (plain (Trees.number x n kind) refl)
    finds (Trees.character x n) = plain_finds g w ls (Trees.character x n) (plain (Trees.character x n) refl)
    finds (Trees.texts ts) = plain_finds g w ls (Trees.texts ts) (plain (Trees.texts ts) refl)
    finds (Trees.paren left a right) = plain_finds g w ls (Trees.paren left a right) (plain (Trees.paren left a right) refl)
    finds (Trees.index a left b right) = plain_finds g w ls (Trees.index a left b right) (plain (Trees.index a left b right) refl)
    finds (Trees.call f left all right) = plain_finds g w ls (Trees.call f left all right) (plain (Trees.call f left all right) refl)
    finds (Trees.dot a at x) = plain_finds g w ls (Trees.dot a at x) (plain (Trees.dot a at x) refl)
    finds (Trees.arrow a at x) = plain_finds g w ls (Trees.arrow a at x) (plain (Trees.arrow a at x) refl)
    finds (Trees.post a op at) = plain_finds g w ls (Trees.post a op at) (plain (Trees.post a op at) refl)
    finds (Trees.pre op at a) = plain_finds g w ls (Trees.pre op at a) (plain (Trees.pre op at a) refl)
    finds (Trees.unary op at a) = plain_finds g w ls (Trees.unary op at a) (plain (Trees.unary op at a) refl)
    finds (Trees.sizeof_expression at a) = plain_finds g w ls (Trees.sizeof_expression at a) (plain (Trees.sizeof_expression at a) refl)
    finds (Trees.sizeof_type at left n right) = plain_finds g w ls (Trees.sizeof_type at left n right) (plain
        (Trees.sizeof_type at left n right) refl)
    finds (Trees.cast left n right a) = plain_finds g w ls (Trees.cast left n right a) (plain (Trees.cast left n right a) refl)
    finds (Trees.binary a op at b) = plain_finds g w ls (Trees.binary a op at b) (plain (Trees.binary a op at b) refl)
    finds (Trees.cond a question b colon c) = plain_finds g w ls (Trees.cond a question b colon c) (plain (Trees.cond a question b colon c) refl)
    finds (Trees.assign a op at b) = plain_finds g w ls (Trees.assign a op at b) (plain (Trees.assign a op at b) refl)
    finds (Trees.comma a at b) = plain_finds g w ls (Trees.comma a at b) (plain (Trees.comma a at b) refl)
    finds (Trees.braces left all last right) = braces_find left all last right (finds_elements all) (finds_fields all)

    finds_elements : (all : Trees.Arguments) → FindsElements g w ls all
    finds_elements Trees.no_arguments = λ s c u n at parts full f known b h k. no_part g w ls s c _ parts b refl h
    finds_elements (Trees.and_argument comma a more) = elements_after g w ls comma a more (finds a) (finds_elements more)

    finds_fields : (all : Trees.Arguments) → FindsFields g w ls all
    finds_fields Trees.no_arguments = λ s c r m fields at parts full f less known b h k. no_part g w ls s c _ parts b refl h
    finds_fields (Trees.and_argument comma a more) = fields_after g w ls comma a more (finds a) (finds_fields more)
