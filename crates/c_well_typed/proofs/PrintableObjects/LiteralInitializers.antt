-- What stands for an initializer refers to the objects of its string literals, each where it stands; one that gives its bytes to an array has no object
-- (C99 6.4.5, 6.7.8).
use Rattle.std.proofs.Common.{◌≡◌, ◌≢◌, ◌∙◌, ℕ, ◌+◌, Bool, true, false, refl, sym, ap, subst, List, [], ◌∷◌, ◌++◌, flat_map, arith, append-nil, inl, inr}
use Rattle.std.specs.Prelude.{◌⊎◌, ◌==◌, if◌then◌else◌, All, Option, Some, None, slice_get}
use Rattle.c_types.specs.Types.{CType, structure, Field}
use Rattle.c_ast.specs.declared.words.Spelling.{Spelling}
use Rattle.c_ast.specs.Places.{first_text}
use Rattle.c_ast.specs.Trees
use Rattle.c_typed.specs.Conversions.{is_scalar}
use Rattle.c_typed.specs.References.{Reference, references, references_by_value, references_by_initializer, references_by_initial}
use Rattle.c_typed.specs.Trees as Typed
use Rattle.c_erasure.specs.Erasure.{Values, Erases}
use Rattle.c_erasure.specs.Initializers.{Part, part_at, texts_of, IsText, Initializes, IsOneValue, InitializeElements, InitializeFields, IsInitializer}
use Rattle.c_erasure.specs.Literals.{literals, literals_of_all, literals_of_value}
use Rattle.c_erasure.specs.Noted.{Noted, Expression, Path, an_object, type_of, type_of_path}
use Rattle.c_erasure.specs.Scopes.{AnObject, FileScope, Scope}
use Rattle.c_erasure.specs.Statements.{HasInitializer, HasConstants}
use Rattle.c_checking_laws.proofs.WholeFiles.Names.{all_at}
use Rattle.c_well_typed.specs.Printable.Programs.{times}
use Rattle.c_well_typed.proofs.PrintableObjects.Counts.{same_number, times_both}
use Rattle.c_well_typed.proofs.PrintableObjects.Literals.{Walk, IsTextAt, Counts, none, both, IsFull, counted, value_counted}

-- what some parts refer to
abbrev pub of_parts : List Part → List Reference
of_parts parts = flat_map (λ part. references_by_value part.value) parts

module _ (w : Walk) where
  abbrev n : ℕ
  n = w.number

  abbrev Full : Scope → Type 0
  Full s = IsFull w s

  abbrev Of : List ℕ → List Part → Type 0
  Of places parts = Counts w places (times n (of_parts parts))

  parts_both : (a b : List Part) → times n (of_parts (a ++ b)) ≡ times n (of_parts a) + times n (of_parts b)
  parts_both [] b = omega arith
  parts_both (part ∷ a) b =
      let own = references_by_value part.value in
      let r = parts_both a b in
      let x = times_both n own (of_parts (a ++ b)) in
      let y = times_both n own (of_parts a) in
      omega (arith, r, x, y)

  together : {p q : List ℕ} (parts a b : List Part) → parts ≡ a ++ b → Of p a → Of q b → Of (p ++ q) parts
  together {p} {q} parts a b e h k =
      subst (Counts w (p ++ q)) (sym (ap (λ parts. times n (of_parts parts)) e ∙ parts_both a b)) (both w (times n (of_parts a)) (times n (of_parts b)) h k)

  one_part : {p : List ℕ} (parts : List Part) (at : ℕ) (v : Typed.PartValue Noted) → parts ≡ part_at at v → Counts w p (times n (references_by_value v))
      → Of p parts
  one_part {p} parts at v e h =
      subst (Counts w p) (sym (ap (λ parts. times n (of_parts parts)) e ∙ ap (times n) (append-nil (references_by_value v)))) h

  no_parts : (parts : List Part) → parts ≡ [] → Of [] parts
  no_parts parts e = subst (λ parts. Of [] parts) (sym e) (none w)

  -- ---- the text of an array

  text_counted : (all : List Spelling) (s : Scope) (t : CType) (at : ℕ) (parts : List Part) → Full s → IsText (Some all) s t at parts
      → Of (first_text all ∷ []) parts
  text_counted all s t at parts i h =
      one_part parts at (Typed.text h.0) h.3 (record { sum = alone; literals = ((λ m q e first. absurd (elsewhere m q e first)), tt) })
    where
      elsewhere : (m : ℕ) (q : AnObject) → slice_get w.file.objects m ≡ Some q → q.first ≡ first_text all → ⊥
      elsewhere m q e first =
          all_at (λ (o : AnObject). o.first ≢ first_text all) w.file.objects (subst (λ (f : FileScope). All (λ o. o.first ≢ first_text all) f.objects) i.made.0 h.2) m q e first

      alone : IsTextAt w → 0 ≡ (if first_text all == w.at then 1 else 0) + 0
      alone x = by_test (first_text all == w.at) refl
        where
          by_test : (b : Bool) → (first_text all == w.at) ≡ b → 0 ≡ (if b then 1 else 0) + 0
          by_test false e = refl
          by_test true e = absurd (elsewhere n x.0 x.1 (x.2 ∙ sym (same_number (first_text all) w.at e)))

  in_braces : (left : ℕ) (all : Trees.Arguments) (last : Option ℕ) (right : ℕ) (s : Scope) (t : CType) (at : ℕ) (parts : List Part) → Full s
      → IsText (texts_of (Trees.braces left all last right)) s t at parts → Of (literals_of_all all) parts
  in_braces left Trees.no_arguments last right s t at parts i h = absurd h
  in_braces left (Trees.and_argument comma (Trees.texts all) Trees.no_arguments) last right s t at parts i h = text_counted all s t at parts i h
  in_braces left (Trees.and_argument comma (Trees.texts all) (Trees.and_argument second c more)) last right s t at parts i h = absurd h
  in_braces left (Trees.and_argument comma a more) last right s t at parts i h = absurd h

  single_text : (a : Trees.Expression) (s : Scope) (t : CType) (at : ℕ) (parts : List Part) → Full s → IsText (texts_of a) s t at parts → Of (literals a) parts
  single_text (Trees.texts all) s t at parts i h = text_counted all s t at parts i h
  single_text (Trees.braces left all last right) s t at parts i h = in_braces left all last right s t at parts i h
  single_text a s t at parts i h = absurd h

  -- ---- parts

  abbrev IsSingle : Trees.Expression → Scope → CType → ℕ → List Part → Type 0
  IsSingle a s t at parts =
      ((x : Expression) × (is_scalar t ≡ true) × (type_of x ≡ t) × (parts ≡ part_at at (Typed.value x)) × Values (Erases a s) x)
      ⊎ ((r : ℕ) × (p : Path) × (t ≡ structure r) × (type_of_path p ≡ t) × (parts ≡ part_at at (Typed.record_of p)) × Erases a s (an_object p))
      ⊎ IsText (texts_of a) s t at parts

  single : (a : Trees.Expression) (s : Scope) (t : CType) (at : ℕ) (parts : List Part) → Full s → IsSingle a s t at parts → Of (literals a) parts
  single a s t at parts i (inl h) = one_part parts at (Typed.value h.0) h.3 (value_counted w a s h.0 i h.4)
  single a s t at parts i (inr (inl h)) = one_part parts at (Typed.record_of h.1) h.4 (counted w a s (an_object h.1) i h.5)
  single a s t at parts i (inr (inr h)) = single_text a s t at parts i h

  one_value : (all : Trees.Arguments) (s : Scope) (x : Expression) → Full s → IsOneValue all s x → Counts w (literals_of_all all) (times n (references x))
  one_value Trees.no_arguments s x i h = absurd h
  one_value (Trees.and_argument comma a Trees.no_arguments) s x i h =
      subst (λ places. Counts w places (times n (references x))) (sym (append-nil (literals a))) (value_counted w a s x i h)
  one_value (Trees.and_argument comma a (Trees.and_argument second c more)) s x i h = absurd h

  mutual
    parts_counted : (a : Trees.Expression) (s : Scope) (t : CType) (at : ℕ) (parts : List Part) → Full s → Initializes a s t at parts → Of (literals a) parts
    parts_counted (Trees.braces left all last right) s t at parts i (inl h) = one_part parts at (Typed.value h.0) h.3 (one_value all s h.0 i h.4)
    parts_counted (Trees.braces left all last right) s t at parts i (inr (inl h)) = elements_counted all s h.1 h.0 at parts i h.4
    parts_counted (Trees.braces left all last right) s t at parts i (inr (inr (inl h))) = fields_counted all s h.0 0 h.1.fields at parts i h.4
    parts_counted (Trees.braces left all last right) s t at parts i (inr (inr (inr h))) = in_braces left all last right s t at parts i h
    parts_counted a s t at parts i h = single a s t at parts i h

    elements_counted : (all : Trees.Arguments) (s : Scope) (u : CType) (k at : ℕ) (parts : List Part) → Full s → InitializeElements all s u k at parts
        → Of (literals_of_all all) parts
    elements_counted Trees.no_arguments s u k at parts i h = no_parts parts h
    elements_counted (Trees.and_argument comma a more) s u k at parts i h =
        together parts h.1 h.2 h.4 (parts_counted a s u at h.1 i h.5) (elements_counted more s u h.0 _ h.2 i h.6)

    fields_counted : (all : Trees.Arguments) (s : Scope) (r k : ℕ) (fields : List Field) (at : ℕ) (parts : List Part) → Full s
        → InitializeFields all s r k fields at parts → Of (literals_of_all all) parts
    fields_counted Trees.no_arguments s r k fields at parts i h = no_parts parts h
    fields_counted (Trees.and_argument comma a more) s r k fields at parts i h =
        together parts h.2 h.3 h.5 (parts_counted a s h.0.ty _ h.2 i h.6) (fields_counted more s r (k + 1) h.1 at h.3 i h.7)

  -- ---- of whole objects

  alone : {p : List ℕ} (at : ℕ) (v : Typed.PartValue Noted) → Of p (part_at at v) → Counts w p (times n (references_by_value v))
  alone {p} at v h = subst (Counts w p) (ap (times n) (append-nil (references_by_value v))) h

  is_initializer : {p : List ℕ} (i own : Typed.Initializer Noted) → i ≡ own → Counts w p (times n (references_by_initializer own))
      → Counts w p (times n (references_by_initializer i))
  is_initializer {p} i own e h = subst (λ i. Counts w p (times n (references_by_initializer i))) (sym e) h

  pub initializer_counted : (a : Trees.Expression) (s : Scope) (t : CType) (i : Typed.Initializer Noted) → Full s → IsInitializer a s t i
      → Counts w (literals a) (times n (references_by_initializer i))
  initializer_counted a s t i full (inl h) = is_initializer i _ h.1 (alone 0 (Typed.value h.0) (parts_counted a s t 0 _ full h.3))
  initializer_counted a s t i full (inr (inl h)) = is_initializer i _ h.1 (alone 0 (Typed.record_of h.0) (parts_counted a s t 0 _ full h.4))
  initializer_counted a s t i full (inr (inr h)) = is_initializer i _ h.1 (parts_counted a s t 0 h.0 full h.3)

  pub constants_counted : (v : Option (ℕ × Trees.Expression)) (s : Scope) (t : CType) (i : Typed.Initializer Noted) → Full s → HasConstants s t v i
      → Counts w (literals_of_value v) (times n (references_by_initializer i))
  constants_counted None s t i full h = is_initializer i _ h (none w)
  constants_counted (Some v) s t i full h = initializer_counted v.1 s t i full h.0

  pub initial_counted : (v : Option (ℕ × Trees.Expression)) (s : Scope) (t : CType) (i : Option (Typed.Initializer Noted)) → Full s
      → HasInitializer s t v i → Counts w (literals_of_value v) (times n (references_by_initial i))
  initial_counted None s t i full h = subst (λ i. Counts w [] (times n (references_by_initial i))) (sym h) (none w)
  initial_counted (Some v) s t i full h =
      subst (λ i. Counts w (literals v.1) (times n (references_by_initial i))) (sym h.1) (initializer_counted v.1 s t h.0 full h.2)
