-- What initializes an object does so wherever the object begins in the whole (C99 6.7.8).
use Rattle.std.proofs.Common.{◌≡◌, ℕ, ◌+◌, true, refl, List, [], ◌++◌, inl, inr}
use Rattle.std.specs.Prelude.{Option, Some, None, ◌⊎◌}
use Rattle.c_types.specs.Layouts.{size_of, offset_of}
use Rattle.c_types.specs.Types.{CType, structure, Field}
use Rattle.c_ast.specs.declared.words.Spelling.{Spelling}
use Rattle.c_ast.specs.Trees
use Rattle.c_typed.specs.Trees as Typed
use Rattle.c_typed.specs.Conversions.{is_scalar}
use Rattle.c_erasure.specs.Erasure.{Values, Erases}
use Rattle.c_erasure.specs.Initializers.{Part, part_at, texts_of, IsText, Initializes, InitializeElements, InitializeFields}
use Rattle.c_erasure.specs.Noted.{Noted, Expression, an_object, type_of, type_of_path}
use Rattle.c_erasure.specs.Scopes.{Scope}

shifted_text : (o : Option (List Spelling)) (s : Scope) (t : CType) (at to : ℕ) (parts : List Part) → IsText o s t at parts
    → (others : List Part) × IsText o s t to others
shifted_text None s t at to parts h = absurd h
shifted_text (Some all) s t at to parts h = (part_at to (Typed.text h.0), (h.0, h.1, h.2, refl))

abbrev Plainly : Trees.Expression → Option (List Spelling) → Scope → CType → ℕ → List Part → Type 0
Plainly a o s t at parts =
    ((x : Expression) × (is_scalar t ≡ true) × (type_of x ≡ t) × (parts ≡ part_at at (Typed.value x)) × Values (Erases a s) x)
    ⊎ ((r : ℕ) × (p : Typed.Path Noted) × (t ≡ structure r) × (type_of_path p ≡ t) × (parts ≡ part_at at (Typed.record_of p)) × Erases a s (an_object p))
    ⊎ IsText o s t at parts

plainly : (a : Trees.Expression) (o : Option (List Spelling)) (s : Scope) (t : CType) (at to : ℕ) (parts : List Part) → Plainly a o s t at parts
    → (others : List Part) × Plainly a o s t to others
plainly a o s t at to parts (inl h) = (part_at to (Typed.value h.0), inl (h.0, h.1, h.2, refl, h.4))
plainly a o s t at to parts (inr (inl h)) = (part_at to (Typed.record_of h.1), inr (inl (h.0, h.1, h.2, h.3, refl, h.5)))
plainly a o s t at to parts (inr (inr h)) = let p = shifted_text o s t at to parts h in (p.0, inr (inr p.1))

abbrev IsShifted : (ℕ → List Part → Type 0) → ℕ → Type 0
IsShifted Is to = (others : List Part) × Is to others

mutual
  pub shifted : (a : Trees.Expression) (s : Scope) (t : CType) (at to : ℕ) (parts : List Part) → Initializes a s t at parts
      → IsShifted (λ at parts. Initializes a s t at parts) to
  shifted (Trees.name y) s t at to parts h = plainly (Trees.name y) (texts_of (Trees.name y)) s t at to parts h
  shifted (Trees.number y v kind) s t at to parts h = plainly (Trees.number y v kind) (texts_of (Trees.number y v kind)) s t at to parts h
  shifted (Trees.character y v) s t at to parts h = plainly (Trees.character y v) (texts_of (Trees.character y v)) s t at to parts h
  shifted (Trees.texts ts) s t at to parts h = plainly (Trees.texts ts) (texts_of (Trees.texts ts)) s t at to parts h
  shifted (Trees.paren b a c) s t at to parts h = plainly (Trees.paren b a c) (texts_of (Trees.paren b a c)) s t at to parts h
  shifted (Trees.index a b d c) s t at to parts h = plainly (Trees.index a b d c) (texts_of (Trees.index a b d c)) s t at to parts h
  shifted (Trees.call d b ds c) s t at to parts h = plainly (Trees.call d b ds c) (texts_of (Trees.call d b ds c)) s t at to parts h
  shifted (Trees.dot a b y) s t at to parts h = plainly (Trees.dot a b y) (texts_of (Trees.dot a b y)) s t at to parts h
  shifted (Trees.arrow a b y) s t at to parts h = plainly (Trees.arrow a b y) (texts_of (Trees.arrow a b y)) s t at to parts h
  shifted (Trees.post a op b) s t at to parts h = plainly (Trees.post a op b) (texts_of (Trees.post a op b)) s t at to parts h
  shifted (Trees.pre op b a) s t at to parts h = plainly (Trees.pre op b a) (texts_of (Trees.pre op b a)) s t at to parts h
  shifted (Trees.unary op b a) s t at to parts h = plainly (Trees.unary op b a) (texts_of (Trees.unary op b a)) s t at to parts h
  shifted (Trees.sizeof_expression b a) s t at to parts h = plainly (Trees.sizeof_expression b a) (texts_of (Trees.sizeof_expression b a)) s t at to parts h
  shifted (Trees.sizeof_type b c m d) s t at to parts h = plainly (Trees.sizeof_type b c m d) (texts_of (Trees.sizeof_type b c m d)) s t at to parts h
  shifted (Trees.cast b m c a) s t at to parts h = plainly (Trees.cast b m c a) (texts_of (Trees.cast b m c a)) s t at to parts h
  shifted (Trees.binary a op b c) s t at to parts h = plainly (Trees.binary a op b c) (texts_of (Trees.binary a op b c)) s t at to parts h
  shifted (Trees.cond a b c d e) s t at to parts h = plainly (Trees.cond a b c d e) (texts_of (Trees.cond a b c d e)) s t at to parts h
  shifted (Trees.assign a op b c) s t at to parts h = plainly (Trees.assign a op b c) (texts_of (Trees.assign a op b c)) s t at to parts h
  shifted (Trees.comma a b c) s t at to parts h = plainly (Trees.comma a b c) (texts_of (Trees.comma a b c)) s t at to parts h
  shifted (Trees.braces from all last to') s t at to parts (inl h) = (part_at to (Typed.value h.0), inl (h.0, h.1, h.2, refl, h.4))
  shifted (Trees.braces from all last to') s t at to parts (inr (inl h)) =
      let p = shifted_elements all s h.1 h.0 at to parts h.4 in
      (p.0, inr (inl (h.0, h.1, h.2, h.3, p.1)))
  shifted (Trees.braces from all last to') s t at to parts (inr (inr (inl h))) =
      let p = shifted_fields all s h.0 0 h.1.fields at to parts h.4 in
      (p.0, inr (inr (inl (h.0, h.1, h.2, h.3, p.1))))
  shifted (Trees.braces from all last to') s t at to parts (inr (inr (inr h))) =
      let p = shifted_text (texts_of (Trees.braces from all last to')) s t at to parts h in
      (p.0, inr (inr (inr p.1)))

  shifted_elements : (all : Trees.Arguments) (s : Scope) (u : CType) (n at to : ℕ) (parts : List Part) → InitializeElements all s u n at parts
      → IsShifted (λ at parts. InitializeElements all s u n at parts) to
  shifted_elements Trees.no_arguments s u n at to parts h = ([], refl)
  shifted_elements (Trees.and_argument comma a more) s u n at to parts h =
      let p = shifted a s u at to h.1 h.5 in
      let q = shifted_elements more s u h.0 (at + size_of s.file.records u) (to + size_of s.file.records u) h.2 h.6 in
      (p.0 ++ q.0, (h.0, p.0, q.0, h.3, refl, p.1, q.1))

  shifted_fields : (all : Trees.Arguments) (s : Scope) (r k : ℕ) (fields : List Field) (at to : ℕ) (parts : List Part)
      → InitializeFields all s r k fields at parts → IsShifted (λ at parts. InitializeFields all s r k fields at parts) to
  shifted_fields Trees.no_arguments s r k fields at to parts h = ([], refl)
  shifted_fields (Trees.and_argument comma a more) s r k fields at to parts h =
      let p = shifted a s h.0.ty (at + offset_of s.file.records r k) (to + offset_of s.file.records r k) h.2 h.6 in
      let q = shifted_fields more s r (k + 1) h.1 at to h.3 h.7 in
      (p.0 ++ q.0, (h.0, h.1, p.0, q.0, h.4, refl, p.1, q.1))
