-- The parts of an object that an initializer stands for are found, in braces and without (C99 6.7.8).
use Rattle.std.proofs.Common.{◌≡◌, ℕ, zero, suc, ◌+◌, ◌<◌, Bool, true, false, refl, sym, ap, ◌∙◌, subst, List, [], ◌∷◌, ◌++◌, length}
use Rattle.std.proofs.Common.{append-nil, arith, inl, inr}
use Rattle.std.specs.Prelude.{◌&&◌, Option, Some, None, Ok, slice_get}
use Rattle.c_types.specs.Types.{CType, integer, array, Field}
use Rattle.c_types.specs.Layouts.{size_of, offset_of}
use Rattle.c_types.specs.Objects.{is_object}
use Rattle.c_types.proofs.Growing.{layouts_stay}
use Rattle.c_ast.specs.declared.words.Spelling.{Spelling}
use Rattle.c_ast.specs.Trees
use Rattle.c_ast.specs.Places.{first, first_text}
use Rattle.c_typed.specs.Trees as Typed
use Rattle.c_typed.specs.Conversions.{is_scalar}
use Rattle.c_erasure.specs.Erasure.{literal_object, place_in, literal_of, IsLiteralFor, Values, Erases}
use Rattle.c_erasure.specs.Initializers.{Part, part_at, texts_of, is_character, IsTextOf, IsText, IsNoText, Initializes, IsOneValue}
use Rattle.c_erasure.specs.Initializers.{InitializeElements, InitializeFields}
use Rattle.c_erasure.specs.Noted.{Expression, Thing, an_object, type_of}
use Rattle.c_erasure.specs.Scopes.{ALocal, FileScope, Scope, in_full, declared}
use Rattle.c_erasure.specs.Checking.Answers.{Checked, with_file, moved}
use Rattle.c_erasure.specs.Checking.Finding.{find}
use Rattle.c_erasure.specs.Checking.Initializers.{without_braces, is_text, text_of_array, initialized, one_value, elements, fields_from}
use Rattle.c_checking_laws.proofs.Results.{ok}
use Rattle.c_checking_laws.proofs.Extends.{Extends}
use Rattle.c_checking_laws.proofs.CompleteWalk.{Event, seen}
use Rattle.c_checking_laws.proofs.CompletePart.{whole, Lists, part, IsWhole, IsBefore, IsAfter, Done, BlocksFit, blocks_stay, none_after, grown}
use Rattle.c_checking_laws.proofs.CompletePart.{complete_stays, left_seen, right_seen, then_seen}
use Rattle.c_checking_laws.proofs.CompleteOperands.{Seen}
use Rattle.c_checking_laws.proofs.CompleteCalls.{size_same}
use Rattle.c_checking_laws.proofs.CompleteLocals.{begins, walk_of_initializer, walk_of_initializers}
use Rattle.c_checking_laws.proofs.WholeFiles.CompleteValues.{HasType, HaveTypes, types_left, types_right, value_done, record_done, text_done}
use Rattle.c_checking_laws.proofs.WholeFiles.CompletePlain.{one_begins, none_begins, Plainly, IsPlain, plain, no_braces}

-- the same answer, and the same part
pub other_done : {A : Type 0} (g : FileScope) (c : Lists) (u v : List Event) (r q : Checked A) (x y : A) → u ≡ v → r ≡ q → x ≡ y → Done g c v q y
    → Done g c u r x
other_done g c u v r q x y e f h z = record {
  lists = z.lists;
  is = f ∙ z.is ∙ ap (λ x. ok (x, part g z.lists)) (sym h);
  after = subst (λ u. IsAfter g c u z.lists) (sym e) z.after;
}

pub in_front : {X : Type 0} (xs ys all : List X) (k : ℕ) (x : X) → all ≡ xs ++ ys → k < length xs → slice_get all k ≡ Some x → slice_get xs k ≡ Some x
in_front {X} xs ys all k x e l h = at xs k l (subst (λ all. slice_get all k ≡ Some x) e h)
  where
    at : (xs : List X) (k : ℕ) → k < length xs → slice_get (xs ++ ys) k ≡ Some x → slice_get xs k ≡ Some x
    at [] k l h = absurd (omega (arith, l))
    at (z ∷ xs) zero l h = h
    at (z ∷ xs) (suc k) l h = at xs k (omega (arith, l)) h

pub no_text : (u : CType) (o : Option (List Spelling)) → IsNoText u o → is_text u o ≡ false
no_text u None h = by_test (is_character u)
  where
    by_test : (b : Bool) → (b && false) ≡ false
    by_test true = refl
    by_test false = refl
no_text u (Some all) h = ap (λ b. b && true) h

module _ (g : FileScope) (w : IsWhole g) (ls : List ALocal) where
  abbrev pub Walk : Trees.Expression → List Event
  Walk a = walk_of_initializer g.untagged g.objects a

  abbrev pub Walks : Trees.Arguments → List Event
  Walks all = walk_of_initializers g.untagged g.objects all

  abbrev pub Here : Scope → List Event → List Event
  Here s all = seen s.is_inside s.purpose all

  abbrev pub Holds : Scope → List Part → Type 0
  Holds s parts = HaveTypes (declared (whole g ls s)) parts

  -- what stands for an initializer is found for it
  abbrev pub Finds : Trees.Expression → Type 0
  Finds a = (s : Scope) (c : Lists) (t : CType) (at : ℕ) (parts : List Part) → s.purpose ≡ in_full → BlocksFit g (length c.records) s.blocks
      → is_object (length c.records) t ≡ true → IsBefore g c (Here s (Walk a)) → Initializes a (whole g ls s) t at parts → Holds s parts
      → Done g c (Here s (Walk a)) (initialized a (moved s (part g c)) t at) parts

  abbrev pub FindsElements : Trees.Arguments → Type 0
  FindsElements all = (s : Scope) (c : Lists) (u : CType) (n at : ℕ) (parts : List Part) → s.purpose ≡ in_full
      → BlocksFit g (length c.records) s.blocks
      → is_object (length c.records) u ≡ true → IsBefore g c (Here s (Walks all)) → InitializeElements all (whole g ls s) u n at parts → Holds s parts
      → Done g c (Here s (Walks all)) (elements all (moved s (part g c)) u n at) parts

  -- fields of a structure are complete before it is
  abbrev pub AreKnown : ℕ → List Field → Type 0
  AreKnown r fields = (j : ℕ) (f : Field) → slice_get fields j ≡ Some f → is_object r f.ty ≡ true

  abbrev pub FindsFields : Trees.Arguments → Type 0
  FindsFields all = (s : Scope) (c : Lists) (r k : ℕ) (fields : List Field) (at : ℕ) (parts : List Part) → s.purpose ≡ in_full
      → BlocksFit g (length c.records) s.blocks → r < length c.records → AreKnown r fields → IsBefore g c (Here s (Walks all))
      → InitializeFields all (whole g ls s) r k fields at parts → Holds s parts
      → Done g c (Here s (Walks all)) (fields_from all (moved s (part g c)) r k fields at) parts

  -- ---- without braces

  -- a string literal that stands for a thing is an object
  pub literal_begins : (a : Trees.Expression) (s : Scope) (th : Thing) → s.purpose ≡ in_full → Erases a (whole g ls s) th → (all : List Spelling)
      → a ≡ Trees.texts all → begins g.objects (first_text all) ≡ true
  literal_begins a s th full v all e =
      let v : Erases (Trees.texts all) (whole g ls s) th = subst (λ a. Erases a (whole g ls s) th) e v in
      let at = place_in (whole g ls s) (first (Trees.texts all)) in
      let v : IsLiteralFor in_full (whole g ls s) at (literal_of all) th = subst (λ p. IsLiteralFor p (whole g ls s) at (literal_of all) th) full v in
      one_begins g.objects v.0 (literal_object at (literal_of all)) v.2

  pub plain_finds : (a : Trees.Expression) → IsPlain a → Finds a
  plain_finds a p s c t at parts full f known b h k = by_form (p.stands (whole g ls s) t at parts h)
    where
      as_found : (x : List Part) → ((all : List Spelling) → texts_of a ≡ Some all → begins g.objects (first_text all) ≡ true) → parts ≡ x
          → (IsBefore g c (Seen g w ls s a)
          → Done g c (Seen g w ls s a) (without_braces (first a) at t (texts_of a) (part g c) (find a (moved s (part g c)))) x)
          → Done g c (Here s (Walk a)) (initialized a (moved s (part g c)) t at) parts
      as_found x all e z =
          let v : Here s (Walk a) ≡ Seen g w ls s a = ap (λ all. seen s.is_inside s.purpose all) (p.walked g.untagged g.objects all) in
          other_done g c (Here s (Walk a)) (Seen g w ls s a) _ _ parts x v (p.found (moved s (part g c)) t at) e (z (subst (IsBefore g c) v b))

      by_text : (o : Option (List Spelling)) → texts_of a ≡ o → IsText o (whole g ls s) t at parts
          → Done g c (Here s (Walk a)) (initialized a (moved s (part g c)) t at) parts
      by_text None e x = absurd x
      by_text (Some all) e x =
          let bytes = x.0 in
          let n = x.1.1 in
          let u : t ≡ array (integer x.1.0) n = x.1.2 in
          let v : Here s (Walk a) ≡ [] =
          ap (λ all. seen s.is_inside s.purpose all) (p.bytes g.untagged g.objects all e (none_begins g.objects (first_text all) x.2)) in
          let is : IsTextOf (array (integer x.1.0) n) all bytes = subst (λ t. IsTextOf t all bytes) u x.1 in
          other_done g c (Here s (Walk a)) [] _ _ parts (part_at at (Typed.text bytes)) v
          (p.found (moved s (part g c)) t at
          ∙ ap (λ t. without_braces (first a) at t (texts_of a) (part g c) (find a (moved s (part g c)))) u
          ∙ ap (λ o. with_file (part g c) (text_of_array (first a) at n (is_character (integer x.1.0)) o)) e)
          x.3 (text_done g w ls c (integer x.1.0) n (first a) at all bytes (subst (IsBefore g c) v b) is)

      by_form : Plainly a (whole g ls s) t at parts
          → Done g c (Here s (Walk a)) (initialized a (moved s (part g c)) t at) parts
      by_form (inl x) =
          let k = subst (Holds s) x.3 k in
          as_found (part_at at (Typed.value x.0)) (λ all e. literal_begins a s x.4.0 full x.4.2 all (p.is_texts all e)) x.3
          (λ b. value_done g w ls a s c t at (texts_of a) x.0 f b x.1 x.2 x.4 k.0)
      by_form (inr (inl x)) =
          let k = subst (Holds s) x.4 k in
          as_found (part_at at (Typed.record_of x.1)) (λ all e. literal_begins a s (an_object x.1) full x.5 all (p.is_texts all e)) x.4
          (λ b. record_done g w ls a s c t x.0 at (texts_of a) x.1 f b x.2 x.3 x.5 k.0)
      by_form (inr (inr x)) = by_text (texts_of a) refl x

  -- ---- one value in braces

  one_found : (left : ℕ) (comma : Option ℕ) (a : Trees.Expression) → IsPlain a → (s : Scope) (c : Lists) (t : CType) (at : ℕ) (x : Expression)
      → s.purpose ≡ in_full → BlocksFit g (length c.records) s.blocks → IsBefore g c (Here s (Walk a ++ [])) → is_scalar t ≡ true → type_of x ≡ t
      → Values (Erases a (whole g ls s)) x → HasType (declared (whole g ls s)) (Typed.value x)
      → Done g c (Here s (Walk a ++ [])) (one_value left (Trees.and_argument comma a Trees.no_arguments) (moved s (part g c)) t at) (part_at at
      (Typed.value x))
  one_found left comma a p s c t at x full f b i e v k =
      let q : Here s (Walk a ++ []) ≡ Seen g w ls s a =
      ap (λ all. seen s.is_inside s.purpose all)
      (append-nil (Walk a) ∙ p.walked g.untagged g.objects (λ all e. literal_begins a s v.0 full v.2 all (p.is_texts all e))) in
      other_done g c (Here s (Walk a ++ [])) (Seen g w ls s a) _ _ _ _ q (p.one left comma (moved s (part g c)) t at) refl
      (value_done g w ls a s c t at None x f (subst (IsBefore g c) q b) i e v k)

  pub one_finds : (left : ℕ) (all : Trees.Arguments) (s : Scope) (c : Lists) (t : CType) (at : ℕ) (x : Expression)
      → s.purpose ≡ in_full → BlocksFit g (length c.records) s.blocks → IsBefore g c (Here s (Walks all)) → is_scalar t ≡ true → type_of x ≡ t
      → IsOneValue all (whole g ls s) x → HasType (declared (whole g ls s)) (Typed.value x)
      → Done g c (Here s (Walks all)) (one_value left all (moved s (part g c)) t at) (part_at at (Typed.value x))
  one_finds left Trees.no_arguments s c t at x full f b i e v k = absurd v
  one_finds left (Trees.and_argument comma a Trees.no_arguments) s c t at x full f b i e v k =
      one_found left comma a (plain a (no_braces a (whole g ls s) v.0 v.2)) s c t at x full f b i e v k
  one_finds left (Trees.and_argument comma a (Trees.and_argument between d more)) s c t at x full f b i e v k = absurd v

  -- ---- parts one after another

  pub no_part : (s : Scope) (c : Lists) (r : Checked (List Part)) (parts : List Part) → IsBefore g c [] → r ≡ Ok ([], part g c) → parts ≡ []
      → Done g c [] r parts
  no_part s c r parts b e h = record { lists = c; is = e ∙ ap (λ x. ok (x, part g c)) (sym h); after = none_after g c [] b refl refl refl }

  element_joined : (comma : Option ℕ) (a : Trees.Expression) (more : Trees.Arguments) (s : Scope) (c d e : Lists) (u : CType) (n at : ℕ)
      (own rest : List Part) → initialized a (moved s (part g c)) u at ≡ Ok (own, part g d)
      → elements more (moved s (part g d)) u n (at + size_of d.records u) ≡ Ok (rest, part g e)
      → elements (Trees.and_argument comma a more) (moved s (part g c)) u (suc n) at ≡ Ok (own ++ rest, part g e)
  unfolding elements
  element_joined comma a more s c d e u n at own rest p q = rw (p, q) refl

  pub elements_after : (comma : Option ℕ) (a : Trees.Expression) (more : Trees.Arguments) → Finds a → FindsElements more
      → FindsElements (Trees.and_argument comma a more)
  elements_after comma a more i j s c u n at parts full f known b h k =
      let left = h.0 in
      let k = subst (Holds s) h.4 k in
      let z = i s c u at h.1 full f known (left_seen g s.is_inside s.purpose c (Walk a) (Walks more) b) h.5
      (types_left (declared (whole g ls s)) h.1 h.2 k) in
      let d = z.lists in
      let known = complete_stays (length c.records) (length d.records) u (grown z.after) known in
      let size = size_same g w ls d u z.after.extends known in
      let q = j s d u left (at + size_of d.records u) h.2 full (blocks_stay g (length c.records) (length d.records) s.blocks (grown z.after) f) known
      (right_seen g s.is_inside s.purpose c d (Walk a) (Walks more) b z.after)
      (subst (λ z. InitializeElements more (whole g ls s) u left (at + z) h.2) (sym size) h.6) (types_right (declared (whole g ls s)) h.1 h.2 k) in
      let n' : n ≡ suc left = let e = h.3 in omega (arith, e) in
      record {
        lists = q.lists;
        is = ap (λ n. elements (Trees.and_argument comma a more) (moved s (part g c)) u n at) n'
            ∙ element_joined comma a more s c d q.lists u left at h.1 h.2 z.is q.is ∙ ap (λ x. ok (x, part g q.lists)) (sym h.4);
        after = then_seen g s.is_inside s.purpose c d q.lists (Walk a) (Walks more) z.after q.after;
      }

  field_joined : (comma : Option ℕ) (a : Trees.Expression) (more : Trees.Arguments) (s : Scope) (c d e : Lists) (r k : ℕ) (f : Field)
      (later : List Field)
      (at : ℕ) (own rest : List Part) → initialized a (moved s (part g c)) f.ty (at + offset_of c.records r k) ≡ Ok (own, part g d)
      → fields_from more (moved s (part g d)) r (k + 1) later at ≡ Ok (rest, part g e)
      → fields_from (Trees.and_argument comma a more) (moved s (part g c)) r k (f ∷ later) at ≡ Ok (own ++ rest, part g e)
  unfolding fields_from
  field_joined comma a more s c d e r k f later at own rest p q = rw (p, q) refl

  offset_same : (c : Lists) (r k : ℕ) → Extends (part g c) g → r < length c.records → offset_of c.records r k ≡ offset_of g.records r k
  offset_same c r k p l = sym (ap (λ all. offset_of all r k) p.records.1 ∙ (layouts_stay c.records p.records.0).offsets r k l)

  pub fields_after : (comma : Option ℕ) (a : Trees.Expression) (more : Trees.Arguments) → Finds a → FindsFields more
      → FindsFields (Trees.and_argument comma a more)
  fields_after comma a more i j s c r m fields at parts full f less known b h k =
      let field = h.0 in
      let k = subst (Holds s) h.5 k in
      let known : AreKnown r (field ∷ h.1) = subst (AreKnown r) h.4 known in
      let there = complete_stays r (length c.records) field.ty (omega (arith, less)) (known 0 field refl) in
      let offset = offset_same c r m b.extends less in
      let z = i s c field.ty (at + offset_of c.records r m) h.2 full f there (left_seen g s.is_inside s.purpose c (Walk a) (Walks more) b)
      (subst (λ z. Initializes a (whole g ls s) field.ty (at + z) h.2) (sym offset) h.6) (types_left (declared (whole g ls s)) h.2 h.3 k) in
      let d = z.lists in
      let grew = grown z.after in
      let q = j s d r (m + 1) h.1 at h.3 full (blocks_stay g (length c.records) (length d.records) s.blocks grew f) (omega (arith, less, grew))
      (λ j f e. known (suc j) f e) (right_seen g s.is_inside s.purpose c d (Walk a) (Walks more) b z.after) h.7
      (types_right (declared (whole g ls s)) h.2 h.3 k) in
      record {
        lists = q.lists;
        is = ap (λ fields. fields_from (Trees.and_argument comma a more) (moved s (part g c)) r m fields at) h.4
            ∙ field_joined comma a more s c d q.lists r m field h.1 at h.2 h.3 z.is q.is ∙ ap (λ x. ok (x, part g q.lists)) (sym h.5);
        after = then_seen g s.is_inside s.purpose c d q.lists (Walk a) (Walks more) z.after q.after;
      }
