-- An initializer weighs so much for each of its nodes (C99 6.7.8).
use Rattle.std.proofs.Common.{◌≡◌, ℕ, ◌+◌, ◌*◌, ◌≤◌, true, sym, subst, List, [], ◌∷◌, ◌++◌, arith, inl, inr}
use Rattle.std.proofs.Math.Nat.{mul-le-mul_left}
use Rattle.std.specs.Prelude.{◌⊎◌, Option, Some, None}
use Rattle.c_types.specs.Types.{CType, structure, Field}
use Rattle.c_ast.specs.declared.size.Size.{Size}
use Rattle.c_ast.specs.declared.words.Spelling.{Spelling}
use Rattle.c_ast.specs.Trees
use Rattle.c_ast.specs.Sizes.{size, size_initializers, size_initializer, as_initializer, size_value}
use Rattle.c_typed.specs.Trees as Typed
use Rattle.c_typed.specs.Conversions.{is_scalar}
use Rattle.c_erasure.specs.Erasure.{Erases, Values}
use Rattle.c_erasure.specs.Initializers.{Part, part_at, texts_of, IsText, Initializes, IsOneValue, InitializeElements, InitializeFields, IsInitializer}
use Rattle.c_erasure.specs.Noted.{Noted, Expression, an_object, type_of, type_of_path}
use Rattle.c_erasure.specs.Scopes.{Scope}
use Rattle.c_erasure.specs.Statements.{HasInitializer}
use Rattle.c_well_typed.specs.ProgramWeights.Counted.{Kind, argument}
use Rattle.c_well_typed.specs.ProgramWeights.Weights.{weight, weight_of_parts, weight_of_initializer, weight_of_initial}
use Rattle.c_well_typed.proofs.ProgramWeights.Expressions.{paid, operand_paid}
use Rattle.c_well_typed.proofs.ProgramWeights.Within.{AreWithin}

-- a node may stand above an expression that is an initializer
pub node_above : (a : Trees.Expression) (own : Size) → own.nodes ≤ (as_initializer a own).nodes
node_above (Trees.braces left all comma right) own = omega arith
node_above a own = omega arith

parts_append : (n : Kind → ℕ) (a b : List Part) → weight_of_parts n (a ++ b) ≡ weight_of_parts n a + weight_of_parts n b
parts_append n [] b = omega arith
parts_append n (p ∷ a) b = let e = parts_append n a b in omega (arith, e)

pub more_paid : (most i j : ℕ) → i ≤ j → most * i ≤ most * j
more_paid most i j h = mul-le-mul_left most h

-- what is not in braces
abbrev pub IsSingle : Trees.Expression → Scope → CType → ℕ → List Part → Type 0
IsSingle a s t at parts =
    ((x : Expression) × (is_scalar t ≡ true) × (type_of x ≡ t) × (parts ≡ part_at at (Typed.value x)) × Values (Erases a s) x)
    ⊎ ((r : ℕ) × (p : Typed.Path Noted) × (t ≡ structure r) × (type_of_path p ≡ t) × (parts ≡ part_at at (Typed.record_of p)) × Erases a s (an_object p))
    ⊎ IsText (texts_of a) s t at parts

module _ (n : Kind → ℕ) (most : ℕ) (w : AreWithin n most) where
  abbrev ArePaid : List Part → ℕ → Type 0
  ArePaid parts nodes = weight_of_parts n parts ≤ most * nodes

  text_paid : (o : Option (List Spelling)) (s : Scope) (t : CType) (at : ℕ) (parts : List Part) (k : ℕ) → IsText o s t at parts → ArePaid parts (k + 1)
  text_paid None s t at parts k h = absurd h
  text_paid (Some all) s t at parts k h = subst (λ parts. ArePaid parts (k + 1)) (sym h.3) (let a = w.part_node in omega (arith, a))

  single_paid : (a : Trees.Expression) (s : Scope) (t : CType) (at : ℕ) (parts : List Part) → IsSingle a s t at parts → ArePaid parts ((size a).nodes + 1)
  single_paid a s t at parts (inl h) =
      let f = operand_paid n most w a s h.0 h.4 in
      let l = w.part_node in
      subst (λ parts. ArePaid parts ((size a).nodes + 1)) (sym h.3) (omega (arith, f, l))
  single_paid a s t at parts (inr (inl h)) =
      let f = paid n most w a s (an_object h.1) h.5 in
      let l = w.part_node in
      subst (λ parts. ArePaid parts ((size a).nodes + 1)) (sym h.4) (omega (arith, f, l))
  single_paid a s t at parts (inr (inr h)) = text_paid (texts_of a) s t at parts (size a).nodes h

  one_value_paid : (all : Trees.Arguments) (s : Scope) (x : Expression) → IsOneValue all s x → n argument + weight n x ≤ most * (size_initializers all).nodes
  one_value_paid Trees.no_arguments s x h = absurd h
  one_value_paid (Trees.and_argument comma a Trees.no_arguments) s x h =
      let f = operand_paid n most w a s x h in
      let l = more_paid most (size a).nodes (as_initializer a (size a)).nodes (node_above a (size a)) in omega (arith, f, l)
  one_value_paid (Trees.and_argument comma a (Trees.and_argument second b more)) s x h = absurd h

  mutual
    pub initial_paid : (a : Trees.Expression) (s : Scope) (t : CType) (at : ℕ) (parts : List Part) → Initializes a s t at parts
        → ArePaid parts (as_initializer a (size a)).nodes
    initial_paid (Trees.braces left all last right) s t at parts (inl h) =
        let f = one_value_paid all s h.0 h.4 in
        let l = w.part_node in
        subst (λ parts. ArePaid parts ((size_initializers all).nodes + 1)) (sym h.3) (omega (arith, f, l))
    initial_paid (Trees.braces left all last right) s t at parts (inr (inl h)) = let f = elements_paid all s h.1 h.0 at parts h.4 in omega (arith, f)
    initial_paid (Trees.braces left all last right) s t at parts (inr (inr (inl h))) = let f = fields_paid all s h.0 0 h.1.fields at parts h.4 in omega (arith, f)
    initial_paid (Trees.braces left all last right) s t at parts (inr (inr (inr h))) =
        text_paid (texts_of (Trees.braces left all last right)) s t at parts (size_initializers all).nodes h
    initial_paid a s t at parts h = single_paid a s t at parts h

    elements_paid : (all : Trees.Arguments) (s : Scope) (u : CType) (k at : ℕ) (parts : List Part) → InitializeElements all s u k at parts
        → ArePaid parts (size_initializers all).nodes
    elements_paid Trees.no_arguments s u k at parts h = subst (λ parts. ArePaid parts 0) (sym h) (omega arith)
    elements_paid (Trees.and_argument comma a more) s u k at parts h =
        let f = initial_paid a s u at h.1 h.5 in
        let g = elements_paid more s u h.0 _ h.2 h.6 in
        let e = parts_append n h.1 h.2 in
        subst (λ parts. ArePaid parts ((as_initializer a (size a)).nodes + (size_initializers more).nodes)) (sym h.4) (omega (arith, f, g, e))

    fields_paid : (all : Trees.Arguments) (s : Scope) (r k : ℕ) (fields : List Field) (at : ℕ) (parts : List Part) → InitializeFields all s r k fields at parts
        → ArePaid parts (size_initializers all).nodes
    fields_paid Trees.no_arguments s r k fields at parts h = subst (λ parts. ArePaid parts 0) (sym h) (omega arith)
    fields_paid (Trees.and_argument comma a more) s r k fields at parts h =
        let f = initial_paid a s h.0.ty _ h.2 h.6 in
        let g = fields_paid more s r (k + 1) h.1 at h.3 h.7 in
        let e = parts_append n h.2 h.3 in
        subst (λ parts. ArePaid parts ((as_initializer a (size a)).nodes + (size_initializers more).nodes)) (sym h.5) (omega (arith, f, g, e))

  pub initializer_paid : (a : Trees.Expression) (s : Scope) (t : CType) (i : Typed.Initializer Noted) → IsInitializer a s t i
      → weight_of_initializer n i ≤ most * (size_initializer a).nodes
  initializer_paid a s t i (inl h) =
      let f = initial_paid a s t 0 _ h.3 in
      subst (λ i. weight_of_initializer n i ≤ most * (size_initializer a).nodes) (sym h.1) (omega (arith, f))
  initializer_paid a s t i (inr (inl h)) =
      let f = initial_paid a s t 0 _ h.4 in
      subst (λ i. weight_of_initializer n i ≤ most * (size_initializer a).nodes) (sym h.1) (omega (arith, f))
  initializer_paid a s t i (inr (inr h)) =
      subst (λ i. weight_of_initializer n i ≤ most * (size_initializer a).nodes) (sym h.1) (initial_paid a s t 0 h.0 h.3)

  pub has_initializer_paid : (s : Scope) (t : CType) (value : Option (ℕ × Trees.Expression)) (i : Option (Typed.Initializer Noted)) → HasInitializer s t value i
      → weight_of_initial n i ≤ most * (size_value value).nodes
  has_initializer_paid s t None i h = subst (λ i. weight_of_initial n i ≤ most * 0) (sym h) (omega arith)
  has_initializer_paid s t (Some value) i h =
      subst (λ i. weight_of_initial n i ≤ most * (size_initializer value.1).nodes) (sym h.1) (initializer_paid value.1 s t h.0 h.2)
