-- The numbers of records that recognised allocations make are well typed, and the records complete.
use Rattle.std.proofs.Common.{◌≡◌, ◌∙◌, ℕ, ◌<◌, Bool, true, false, refl, sym, subst, cond}
use Rattle.std.specs.Prelude.{Option, Some, None}
use Rattle.std.proofs.lemmas.Bool.{ltb-true}
use Rattle.c_types.specs.declared.ty.IntKind.TheVariants.{UInt}
use Rattle.c_types.specs.Types.{CType, CTypes, integer, function, structure, no_types, and_type}
use Rattle.c_types.specs.Objects.{is_object}
use Rattle.c_types.specs.Sameness.{same_type}
use Rattle.c_types.proofs.SameTypes.{same_is, same_self}
use Rattle.c_typed.specs.declared.operators.BinaryOp.TheVariants.{Multiply}
use Rattle.c_typed.specs.declared.operators.LibraryFunction.TheVariants.{Malloc, Calloc}
use Rattle.c_typed.specs.Trees as Trees
use Rattle.c_typed.specs.Conversions.{is_integer}
use Rattle.c_typed.specs.Constants.{ty}
use Rattle.c_typed.specs.Mapped.{of_types, mapped_if_any}
use Rattle.c_typed.specs.Typed.{Declared, bare, is_bare, bare_ty, IsConverted, IsTyped, IsCount, AreArguments}
use Rattle.c_erasure.specs.Erasure.{typed}
use Rattle.c_erasure.specs.Noted.{Noted, Note, nothing, size_of, Expression, value, unconverted}
use Rattle.c_erasure.specs.Recognised.{as_unsigned, as_unsigned_from, counted, is_size, is_constant_of, is_note_of, allocated, allocation}
use Rattle.c_well_typed.proofs.Fitting.{on_numbers_is, assigned_integer, assigns_integer}
use Rattle.c_well_typed.proofs.Notes.{IsSizeNote, IsNoted, bare_noted}

-- ---- operands without their conversions

pub bare_itself : (e : Trees.Expression CType) → is_bare e ≡ true → bare e ≡ e
bare_itself (Trees.expression t at (Trees.convert e false)) h = cc
bare_itself e h = refl

pub unconverted_is : (count : ℕ) (M : Type 0) (e : Expression) → IsNoted count M e → typed (unconverted e) ≡ bare (typed e)
unconverted_is count M (Trees.expression t at (Trees.convert e false)) h = by_note t.ty t.note h.0
  where
    by_note : (s : CType) (note : Note) → note ≡ nothing
        → typed (unconverted (Trees.expression (record { ty = s; note = note }) at (Trees.convert e false))) ≡ typed e
    by_note s nothing p = refl
    by_note s (size_of u by) p = cc
unconverted_is count M (Trees.expression t at (Trees.convert e true)) h = refl
unconverted_is count M (Trees.expression t at node) h = refl

-- ---- a note tells of a record that is complete

note_complete : (count r : ℕ) (note : Note) → IsSizeNote count (Unit {0}) note → is_note_of r note ≡ true → r < count
note_complete count r nothing h n = cc
note_complete count r (size_of t at) h n =
    ltb-true r count (subst (λ t. is_object count t ≡ true) (same_is t (structure r) n) h)

constant_complete : (count r : ℕ) (e : Expression) → IsNoted count (Unit {0}) e → is_constant_of r e ≡ true → r < count
constant_complete count r (Trees.expression t at (Trees.constant v)) h n = note_complete count r t.note h.0 n
constant_complete count r e h n = cc

size_complete : (count r : ℕ) (e : Expression) → IsNoted count (Unit {0}) e → is_size r e ≡ true → r < count
size_complete count r e h n = constant_complete count r (unconverted e) (bare_noted count (Unit {0}) e h) n

module _ (d : Declared) where
  pub typed_bare : (e : Trees.Expression CType) → IsTyped d e → IsTyped d (bare e) × (is_bare (bare e) ≡ true)
  typed_bare (Trees.expression t at (Trees.convert e false)) h = (h.0, h.1)
  typed_bare (Trees.expression t at (Trees.convert e true)) h = (h, refl)
  typed_bare (Trees.expression t at node) h = (h, refl)

  -- ---- a number as an unsigned

  abbrev IsNumber : Expression → Type 0
  IsNumber e = IsTyped d (typed e) × IsConverted (typed e) (integer UInt)

  unsigned_from_typed : (e : Expression) → IsTyped d (typed e) → is_bare (typed e) ≡ true → is_integer (ty (typed e)) ≡ true → IsNumber (as_unsigned_from e)
  unsigned_from_typed (Trees.expression t at node) h b i = by_type (same_type t.ty (integer UInt)) refl
    where
      own : Expression
      own = Trees.expression t at node

      by_type : (c : Bool) → same_type t.ty (integer UInt) ≡ c
          → IsNumber (cond c (Trees.expression t at node) (value (integer UInt) at (Trees.convert (Trees.expression t at node) false)))
      by_type true e =
          let itself = bare_itself (typed (Trees.expression t at node)) b in
          (h, (rw itself (assigns_integer t.ty _ UInt i), same_is t.ty (integer UInt) e))
      by_type false e =
          ((h, b, (λ f. different f e), refl), (assigns_integer t.ty _ UInt i, refl))
        where
          different : integer UInt ≡ t.ty → same_type t.ty (integer UInt) ≡ false → ⊥
          different f e = let true_is_false = sym (same_self t.ty (integer UInt) (sym f)) ∙ e in cc

  module _ (count : ℕ) where
    abbrev IsNotedAfter : Expression → Type 0
    IsNotedAfter = IsNoted count (Unit {0})

    unsigned_typed : (e : Expression) → IsTyped d (typed e) → IsNotedAfter e → is_integer (bare_ty (typed e)) ≡ true → IsNumber (as_unsigned e)
    unsigned_typed e h n i =
        let is = sym (unconverted_is count (Unit {0}) e n) in
        let b = typed_bare (typed e) h in
        unsigned_from_typed (unconverted e) (subst (IsTyped d) is b.0) (subst (λ e. is_bare e ≡ true) is b.1)
        (subst (λ e. is_integer (ty e) ≡ true) is i)

    -- ---- numbers of records

    abbrev IsNumberOf : ℕ → Trees.OptionalExpression Noted → Type 0
    IsNumberOf r n = IsCount d (mapped_if_any (of_types (λ t. t.ty)) n) × (r < count)

    abbrev CountIsTyped : ℕ → Option (Trees.OptionalExpression Noted) → Type 0
    CountIsTyped r None = Unit {0}
    CountIsTyped r (Some n) = IsNumberOf r n

    counted_typed : (r : ℕ) (e : Expression) → IsTyped d (typed e) → IsNotedAfter e → CountIsTyped r (counted r e)
    counted_typed r (Trees.expression t at (Trees.constant v)) h n = by_note (is_note_of r t.note) refl
      where
        by_note : (b : Bool) → is_note_of r t.note ≡ b → CountIsTyped r (cond b (Some Trees.no_expression) None)
        by_note true e = (tt, note_complete count r t.note n.0 e)
        by_note false e = tt
    counted_typed r (Trees.expression t at (Trees.binary Multiply x y)) h n =
        by_sizes (is_size r y) refl (is_size r x) refl
      where
        by_sizes : (b : Bool) → is_size r y ≡ b → (c : Bool) → is_size r x ≡ c
            → CountIsTyped r (cond b (Some (Trees.some_expression (as_unsigned x))) (cond c (Some (Trees.some_expression (as_unsigned y))) None))
        by_sizes true e c f =
            let i = on_numbers_is Multiply (bare_ty (typed x)) (bare_ty (typed y)) t.ty (ty (typed y)) h.2 in
            (unsigned_typed x h.0 n.1.0 i.0, size_complete count r y n.1.1 e)
        by_sizes false e true f =
            let i = on_numbers_is Multiply (bare_ty (typed x)) (bare_ty (typed y)) t.ty (ty (typed y)) h.2 in
            (unsigned_typed y h.1 n.1.1 i.1, size_complete count r x n.1.0 f)
        by_sizes false e false f = tt
    counted_typed r e h n = tt

    abbrev pub AllocationIsTyped : ℕ → Option (Trees.OptionalExpression Noted × Bool) → Type 0
    AllocationIsTyped r None = Unit {0}
    AllocationIsTyped r (Some a) = IsNumberOf r a.0

    allocated_typed : (r : ℕ) (n : Option (Trees.OptionalExpression Noted)) (zeroed : Bool) → CountIsTyped r n → AllocationIsTyped r (allocated n zeroed)
    allocated_typed r None zeroed h = tt
    allocated_typed r (Some n) zeroed h = h

    parameters_are : (s t : CType) (p q : CTypes) → function s p ≡ function t q → q ≡ p
    parameters_are s t p q e = cc

    pub allocation_typed : (r : ℕ) (e : Expression) → IsTyped d (typed e) → IsNotedAfter e → AllocationIsTyped r (allocation r e)
    allocation_typed r (Trees.expression t at (Trees.library Malloc (Trees.and_expression x Trees.no_expressions))) h n =
        let all = Trees.and_expression (typed x) Trees.no_expressions in
        let a : AreArguments d (and_type (integer UInt) no_types) all =
        subst (λ parameters. AreArguments d parameters all) (parameters_are _ t.ty _ h.0 h.1) h.2 in
        let is = sym (unconverted_is count (Unit {0}) x n.1.0) in
        allocated_typed r (counted r (unconverted x)) false
        (counted_typed r (unconverted x) (subst (IsTyped d) is (typed_bare (typed x) a.0).0) (bare_noted count (Unit {0}) x n.1.0))
    allocation_typed r (Trees.expression t at (Trees.library Calloc (Trees.and_expression x (Trees.and_expression y Trees.no_expressions)))) h n =
        by_size (is_size r y) refl
      where
        all : Trees.Expressions CType
        all = Trees.and_expression (typed x) (Trees.and_expression (typed y) Trees.no_expressions)

        args : AreArguments d (and_type (integer UInt) (and_type (integer UInt) no_types)) all
        args = subst (λ parameters. AreArguments d parameters all) (parameters_are _ t.ty _ h.0 h.1) h.2

        by_size : (b : Bool) → is_size r y ≡ b → AllocationIsTyped r (cond b (Some (Trees.some_expression (as_unsigned x), true)) None)
        by_size true e =
            (unsigned_typed x args.0 n.1.0 (assigned_integer (bare_ty (typed x)) _ UInt args.1.0), size_complete count r y n.1.1.0 e)
        by_size false e = tt
    allocation_typed r e h n = tt
