-- The value of one part of an object: it is found where no braces stand around it (C99 6.7.8).
use Rattle.std.proofs.Common.{◌≡◌, ℕ, true, refl, sym, ap, ◌∙◌, subst, List, [], ◌∷◌, ◌++◌, length}
use Rattle.std.specs.Prelude.{Option, Some, Ok}
use Rattle.c_types.specs.Types.{CType, void, integer, pointer, array, function, structure}
use Rattle.c_types.proofs.SameTypes.{same_self}
use Rattle.c_ast.specs.declared.words.Spelling.{Spelling}
use Rattle.c_ast.specs.Trees
use Rattle.c_ast.specs.Places.{first}
use Rattle.c_typed.specs.Trees as Typed
use Rattle.c_typed.specs.Conversions.{is_scalar}
use Rattle.c_typed.specs.Fits.{assigns}
use Rattle.c_typed.specs.Mapped.{of_types, mapped_value}
use Rattle.c_typed.specs.Typed.{Declared, IsConverted}
use Rattle.c_typed.specs.TypedStatements.{IsTypedValue}
use Rattle.c_erasure.specs.Erasure.{typed, place_in, Values, Erases}
use Rattle.c_erasure.specs.Initializers.{Part, part_at, IsTextOf, is_character}
use Rattle.c_erasure.specs.Noted.{Noted, Expression, an_object, type_of, type_of_path, unconverted}
use Rattle.c_erasure.specs.Scopes.{ALocal, FileScope, Scope, declared}
use Rattle.c_erasure.specs.Checking.Answers.{◌>>=◌, with_file, moved}
use Rattle.c_erasure.specs.Checking.Nodes.{null}
use Rattle.c_erasure.specs.Checking.Finding.{value_at, find}
use Rattle.c_erasure.specs.Checking.Initializers.{initial_value_in, initial_record_in, without_braces, text_of_array}
use Rattle.c_checking_laws.proofs.Values.{type_same}
use Rattle.c_checking_laws.proofs.CompleteNodes
use Rattle.c_checking_laws.proofs.CompletePart.{whole, Lists, part, IsWhole, IsBefore, Done, BlocksFit, none_after}
use Rattle.c_checking_laws.proofs.CompleteOperands.{Seen, operand}
use Rattle.c_checking_laws.proofs.CompleteTrees.{complete}
use Rattle.c_checking_laws.proofs.WholeFiles.CompleteTexts.{character_of, text_back}

-- ---- the value of each part is typed, as that of some type

abbrev pub HasType : Declared → Typed.PartValue Noted → Type 0
HasType d v = (u : CType) × IsTypedValue d u (mapped_value (of_types (λ t. t.ty)) v)

abbrev pub HaveTypes : Declared → List Part → Type 0
HaveTypes d [] = Unit {0}
HaveTypes d (part ∷ more) = HasType d part.value × HaveTypes d more

pub types_left : (d : Declared) (a b : List Part) → HaveTypes d (a ++ b) → HaveTypes d a
types_left d [] b h = tt
types_left d (part ∷ a) b h = (h.0, types_left d a b h.1)

pub types_right : (d : Declared) (a b : List Part) → HaveTypes d (a ++ b) → HaveTypes d b
types_right d [] b h = h
types_right d (part ∷ a) b h = types_right d a b h.1

module _ (g : FileScope) (w : IsWhole g) (ls : List ALocal) where
  initial_back : (s : Scope) (at : ℕ) (t : CType) (x : Expression) → CompleteNodes.Left (declared (whole g ls s)) (place_in (whole g ls s) at) x
      → IsConverted (typed x) t → initial_value_in at t (unconverted x) ≡ Ok x
  unfolding initial_value_in
  initial_back s at t x o h =
      let a : assigns (type_of (unconverted x)) (null (unconverted x)) t ≡ true = rw (sym o.bare_type, sym o.null_same) h.0 in
      rw (a, CompleteNodes.back_to (declared (whole g ls s)) (place_in (whole g ls s) at) x o t h.1) refl

  -- a number or a pointer
  pub value_done : (a : Trees.Expression) (s : Scope) (c : Lists) (t : CType) (at : ℕ) (o : Option (List Spelling)) (x : Expression)
      → BlocksFit g (length c.records) s.blocks → IsBefore g c (Seen g w ls s a) → is_scalar t ≡ true → type_of x ≡ t
      → Values (Erases a (whole g ls s)) x → HasType (declared (whole g ls s)) (Typed.value x)
      → Done g c (Seen g w ls s a) (without_braces (first a) at t o (part g c) (find a (moved s (part g c)))) (part_at at (Typed.value x))
  value_done a s c t at o x f b i e v h =
      let z = operand g w ls a (complete g w ls a) s c x f b v h.1.0 in
      let same : h.0 ≡ t = sym h.1.2.1 ∙ type_same x ∙ e in
      let r = initial_back s (first a) t x z.left (subst (IsConverted (typed x)) same h.1.2) in
      record { lists = z.lists; is = by_type t i r z.value_is; after = z.after }
    where
      by_type : (t : CType) → is_scalar t ≡ true → initial_value_in (first a) t (unconverted x) ≡ Ok x → {l : Lists}
          → value_at (first a) (find a (moved s (part g c))) ≡ Ok (unconverted x, part g l)
          → without_braces (first a) at t o (part g c) (find a (moved s (part g c))) ≡ Ok (part_at at (Typed.value x), part g l)
      by_type (integer kind) i r v = rw (v, r) refl
      by_type (pointer u) i r v = rw (v, r) refl
      by_type void i r v = cc
      by_type (array u n) i r v = cc
      by_type (function u all) i r v = cc
      by_type (structure k) i r v = cc

  record_back : (from at : ℕ) (t : CType) (p : Typed.Path Noted) → type_of_path p ≡ t
      → initial_record_in from at t (an_object p) ≡ Ok (part_at at (Typed.record_of p))
  unfolding initial_record_in
  record_back from at t p e = let s = same_self (type_of_path p) t e in rw s refl

  -- a record by another one
  pub record_done : (a : Trees.Expression) (s : Scope) (c : Lists) (t : CType) (r at : ℕ) (o : Option (List Spelling)) (p : Typed.Path Noted)
      → BlocksFit g (length c.records) s.blocks → IsBefore g c (Seen g w ls s a) → t ≡ structure r → type_of_path p ≡ t
      → Erases a (whole g ls s) (an_object p) → HasType (declared (whole g ls s)) (Typed.record_of p)
      → Done g c (Seen g w ls s a) (without_braces (first a) at t o (part g c) (find a (moved s (part g c)))) (part_at at (Typed.record_of p))
  record_done a s c t r at o p f b i e v h =
      let z = (complete g w ls a s c (an_object p) f b v h.1.1).done in
      let k = record_back (first a) at (structure r) p (e ∙ i) in
      record {
        lists = z.lists;
        is = ap (λ t. without_braces (first a) at t o (part g c) (find a (moved s (part g c)))) i
            ∙ ap (λ x. x >>= λ x. with_file x.1 (initial_record_in (first a) at (structure r) x.0)) z.is ∙ ap (with_file (part g z.lists)) k;
        after = z.after;
      }

  -- the bytes of string literals, which make no object
  pub text_done : (c : Lists) (u : CType) (n from at : ℕ) (all : List Spelling) (bytes : List ℕ) → IsBefore g c [] → IsTextOf (array u n) all bytes
      → Done g c [] (with_file (part g c) (text_of_array from at n (is_character u) (Some all))) (part_at at (Typed.text bytes))
  text_done c u n from at all bytes b h =
      let k = character_of u n all bytes h in
      record {
        lists = c;
        is = ap (λ k. with_file (part g c) (text_of_array from at n k (Some all))) k ∙ ap (with_file (part g c)) (text_back from at n u all bytes h);
        after = none_after g c [] b refl refl refl;
      }
