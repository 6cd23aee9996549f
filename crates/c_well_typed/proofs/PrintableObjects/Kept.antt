-- A well typed expression refers to the same objects and functions where its allocations and null pointers are recognised (C99 6.3.2.3): what is dropped
-- is an integer constant or the size of a record.
use Rattle.std.proofs.Common.{◌≡◌, ◌∙◌, ℕ, Bool, true, false, refl, sym, ap, subst, cond, List, [], ◌∷◌, ◌++◌, append-nil, inl, inr}
use Rattle.std.specs.Prelude.{◌⊎◌, Option, Some, None}
use Rattle.lay_base.specs.declared.place.Place.{Place}
use Rattle.c_types.specs.declared.ty.IntKind.TheVariants.{UInt}
use Rattle.c_types.specs.Types.{CType, CTypes, void, integer, pointer, structure, no_types, and_type}
use Rattle.c_typed.specs.declared.operators.BinaryOp.TheVariants.{Multiply}
use Rattle.c_typed.specs.declared.operators.CompareOp.{CompareOp}
use Rattle.c_typed.specs.declared.operators.CompareOp.TheVariants.{Equal, NotEqual}
use Rattle.c_typed.specs.declared.operators.LibraryFunction.TheVariants.{Malloc, Calloc}
use Rattle.c_typed.specs.declared.operators.PointerOp.{PointerOp}
use Rattle.c_typed.specs.declared.operators.PointerOp.TheVariants as P
use Rattle.c_typed.specs.Trees as Trees
use Rattle.c_typed.specs.Conversions.{is_integer, is_pointer}
use Rattle.c_typed.specs.Constants.{none, ty, constant_of, is_zero, is_null}
use Rattle.c_typed.specs.Fits.{assigns, casts, meeting, ordered, compared}
use Rattle.c_typed.specs.Mapped.{of_types, mapped_if_any, mapped_node}
use Rattle.c_typed.specs.References.{Reference, a_function, references, references_by_node, references_by_path, references_by_step, references_by_all}
use Rattle.c_typed.specs.References.{references_by_optional}
use Rattle.c_typed.specs.Rules.{arithmetic, or_else, both_void, comparing, choosing}
use Rattle.c_typed.specs.Typed.{Declared, bare, is_bare, bare_ty, IsConverted, IsSubscript, IsMoved, IsMove, IsTyped, IsTypedNode, AreArguments}
use Rattle.c_typed.specs.Typed.{IsCount, IsTypedPath, IsTypedStep}
use Rattle.c_erasure.specs.Erasure.{typed}
use Rattle.c_erasure.specs.Noted.{Noted, Expression, Path, Node, PathNode, unconverted}
use Rattle.c_erasure.specs.Recognised.{is_note_of, is_size, counted, allocated, allocation, or_converted, is_null_constant, converted, as_unsigned}
use Rattle.c_erasure.specs.Recognised.{recognised, recognised_node, recognised_optional, recognised_path, recognised_step, recognised_all}
use Rattle.c_well_typed.proofs.Allocations.{bare_itself}
use Rattle.c_well_typed.proofs.Fitting.{promoting_is, on_numbers_is}
use Rattle.c_well_typed.proofs.Monotone.{moved_number, updated_number}
use Rattle.c_well_typed.proofs.Nulls.{is_zero_is, IsCast, null_or_cast}
use Rattle.c_well_typed.proofs.Recognised.{typed_path, typed_step, typed_all}
use Rattle.c_well_typed.proofs.PrintableObjects.Constants.{constant_alone, unconverted_same, size_alone, unsigned_same}
use Rattle.c_well_typed.proofs.PrintableObjects.Renamed.{types_alike}

some_is : {A : Type 0} (x y : A) → Some x ≡ Some y → x ≡ y
some_is x y h = cc

-- ---- what an allocation refers to

abbrev Keeps : Option (Trees.OptionalExpression Noted) → List Reference → Type 0
Keeps None own = Unit {0}
Keeps (Some n) own = references_by_optional n ≡ own

counted_kept : (r : ℕ) (e : Expression) → Keeps (counted r e) (references e)
counted_kept r (Trees.expression t at (Trees.constant v)) = by_note (is_note_of r t.note)
  where
    by_note : (b : Bool) → Keeps (cond b (Some Trees.no_expression) None) []
    by_note true = refl
    by_note false = tt
counted_kept r (Trees.expression t at (Trees.binary Multiply x y)) = by_sizes (is_size r y) refl (is_size r x) refl
  where
    by_sizes : (b : Bool) → is_size r y ≡ b → (c : Bool) → is_size r x ≡ c
        → Keeps (cond b (Some (Trees.some_expression (as_unsigned x))) (cond c (Some (Trees.some_expression (as_unsigned y))) None)) (references x ++ references y)
    by_sizes true e c f = unsigned_same x ∙ sym (ap (λ own. references x ++ own) (size_alone r y e) ∙ append-nil (references x))
    by_sizes false e true f = unsigned_same y ∙ sym (ap (λ own. own ++ references y) (size_alone r x f))
    by_sizes false e false f = tt
counted_kept r e = tt

abbrev KeepsAllocation : Option (Trees.OptionalExpression Noted × Bool) → List Reference → Type 0
KeepsAllocation None own = Unit {0}
KeepsAllocation (Some a) own = references_by_optional a.0 ≡ own

allocated_kept : (n : Option (Trees.OptionalExpression Noted)) (zeroed : Bool) (own other : List Reference) → own ≡ other → Keeps n own
    → KeepsAllocation (allocated n zeroed) other
allocated_kept None zeroed own other e h = tt
allocated_kept (Some n) zeroed own other e h = h ∙ e

allocation_kept : (r : ℕ) (e : Expression) → KeepsAllocation (allocation r e) (references e)
allocation_kept r (Trees.expression t at (Trees.library Malloc (Trees.and_expression x Trees.no_expressions))) =
    allocated_kept (counted r (unconverted x)) false (references (unconverted x)) (references x ++ []) (unconverted_same x ∙ sym (append-nil (references x)))
    (counted_kept r (unconverted x))
allocation_kept r (Trees.expression t at (Trees.library Calloc (Trees.and_expression x (Trees.and_expression y Trees.no_expressions)))) =
    by_size (is_size r y) refl
  where
    by_size : (b : Bool) → is_size r y ≡ b
        → KeepsAllocation (cond b (Some (Trees.some_expression (as_unsigned x), true)) None) (references x ++ (references y ++ []))
    by_size true e = unsigned_same x ∙ sym (ap (λ own. references x ++ (own ++ [])) (size_alone r y e) ∙ append-nil (references x))
    by_size false e = tt
allocation_kept r e = tt

or_converted_kept : (r : ℕ) (a : Option (Trees.OptionalExpression Noted × Bool)) (e : Expression) (written : Bool) → KeepsAllocation a (references e)
    → references_by_node (or_converted r a e written) ≡ references e
or_converted_kept r None e written h = refl
or_converted_kept r (Some a) e written h = h

-- a conversion refers to what its operand does, where a null pointer constant refers to nothing
converted_kept : (t : CType) (e : Expression) (written : Bool) → (is_pointer t ≡ true → is_null_constant e ≡ true → references e ≡ [])
    → references_by_node (converted t e written) ≡ references e
converted_kept (pointer (structure r)) e written null =
    null_or (is_null_constant e) refl (or_converted r (allocation r e) e written) (or_converted_kept r (allocation r e) e written (allocation_kept r e))
  where
    null_or : (b : Bool) → is_null_constant e ≡ b → (node : Node) → references_by_node node ≡ references e
        → references_by_node (cond b Trees.null node) ≡ references e
    null_or true n node h = sym (null refl n)
    null_or false n node h = h
converted_kept (pointer t) e written null = null_or (is_null_constant e) refl
  where
    null_or : (b : Bool) → is_null_constant e ≡ b → references_by_node (cond b Trees.null (Trees.convert e written)) ≡ references e
    null_or true n = sym (null refl n)
    null_or false n = refl
converted_kept t e written null = refl

-- ---- an integer becomes a pointer where it is a null pointer constant alone

no_both : (t : CType) → is_pointer t ≡ true → is_integer t ≡ true → ⊥
no_both (pointer t) p i = cc
no_both t p i = cc

assigned : (s : CType) (b : Bool) (t : CType) → assigns s b t ≡ true → is_pointer t ≡ true → is_integer s ≡ true → b ≡ true
assigned (integer k) b (pointer t) h p i = h
assigned s b (pointer t) h p i = cc
assigned s b t h p i = cc

pub cast : (s : CType) (b : Bool) (t : CType) → casts s b t ≡ true → is_pointer t ≡ true → is_integer s ≡ true → b ≡ true
cast (integer k) b (pointer t) h p i = h
cast s b (pointer t) h p i = cc
cast s b t h p i = cc

-- of two operands that meet in a pointer type
abbrev AreNull : CType → Bool → CType → Bool → Type 0
AreNull s b t c = (is_integer s ≡ true → b ≡ true) × (is_integer t ≡ true → c ≡ true)

of_numbers : (s t u : CType) → arithmetic s t ≡ Some u → is_pointer u ≡ true → ⊥
of_numbers (integer k) (integer l) u h p = let e = some_is _ u h in cc
of_numbers s t u h p = cc

meeting_null : (s : CType) (b : Bool) (t : CType) (c : Bool) (u : CType) → meeting s b t c ≡ Some u → AreNull s b t c
meeting_null (pointer s) b (pointer t) c u h = (λ i. cc, λ i. cc)
meeting_null (pointer s) b (integer l) true u h = (λ i. cc, λ i. refl)
meeting_null (integer k) true (pointer t) c u h = (λ i. refl, λ i. cc)
meeting_null s b t c u h = cc

ordered_null : (s t u : CType) (b c : Bool) → ordered s t ≡ Some u → AreNull s b t c
ordered_null (pointer s) (pointer t) u b c h = (λ i. cc, λ i. cc)
ordered_null s t u b c h = cc

compared_null : (op : CompareOp) (s : CType) (b : Bool) (t : CType) (c : Bool) (u : CType) → compared op s b t c ≡ Some u → AreNull s b t c
compared_null Equal s b t c u h = meeting_null s b t c u h
compared_null NotEqual s b t c u h = meeting_null s b t c u h
compared_null op s b t c u h = ordered_null s t u b c h

comparing_null : (op : CompareOp) (s : CType) (b : Bool) (t : CType) (c : Bool) (u : CType) → comparing op s b t c ≡ Some u → is_pointer u ≡ true
    → AreNull s b t c
comparing_null op s b t c u h p = by_numbers (arithmetic s t) refl h
  where
    by_numbers : (o : Option CType) → arithmetic s t ≡ o → or_else o (compared op s b t c) ≡ Some u → AreNull s b t c
    by_numbers (Some x) e h = absurd (of_numbers s t u (e ∙ h) p)
    by_numbers None e h = compared_null op s b t c u h

void_only : (s t u : CType) → both_void s t ≡ Some u → is_pointer u ≡ true → ⊥
void_only void void u h p = let e = some_is void u h in cc
void_only s t u h p = cc

choosing_null : (s : CType) (b : Bool) (t : CType) (c : Bool) (u : CType) → choosing s b t c ≡ Some u → is_pointer u ≡ true → AreNull s b t c
choosing_null s b t c u h p = by_numbers (arithmetic s t) refl h
  where
    by_pointers : (o : Option CType) → meeting s b t c ≡ o → or_else o (both_void s t) ≡ Some u → AreNull s b t c
    by_pointers (Some x) e h = meeting_null s b t c x e
    by_pointers None e h = absurd (void_only s t u h p)

    by_numbers : (o : Option CType) → arithmetic s t ≡ o → or_else o (or_else (meeting s b t c) (both_void s t)) ≡ Some u → AreNull s b t c
    by_numbers (Some x) e h = absurd (of_numbers s t u (e ∙ h) p)
    by_numbers None e h = by_pointers (meeting s b t c) refl h

-- what stands there, converted or not, is a null pointer constant where it is an integer that becomes a pointer
abbrev pub IsSettled : Trees.Expression CType → Type 0
IsSettled e = is_pointer (ty e) ≡ true → is_integer (bare_ty e) ≡ true → is_null (bare e) ≡ true

pub bare_settled : (e : Trees.Expression CType) → is_bare e ≡ true → IsSettled e
bare_settled e b p i = absurd (no_both (ty e) p (subst (λ x. is_integer (ty x) ≡ true) (bare_itself e b) i))

pub number_settled : (e : Trees.Expression CType) → is_integer (ty e) ≡ true → IsSettled e
number_settled e n p i = absurd (no_both (ty e) p n)

pub converted_settled : (e : Trees.Expression CType) (t : CType) → IsConverted e t → IsSettled e
converted_settled e t h p i = assigned (bare_ty e) (is_null (bare e)) t h.0 (subst (λ t. is_pointer t ≡ true) h.1 p) i

pub subscript_settled : (e : Trees.Expression CType) → IsSubscript e → IsSettled e
subscript_settled e h = number_settled e (promoting_is (bare_ty e) (ty e) h).1

-- ---- null pointer constants refer to nothing

zero_alone : (e : Trees.Expression CType) → is_zero (constant_of e) ≡ true → references e ≡ []
zero_alone e z = let v = is_zero_is (constant_of e) z in constant_alone e (λ n. let no : _ ≡ none = sym v.1 ∙ n in cc)

null_alone : (e : Expression) → is_integer (ty (typed e)) ≡ true → is_null (typed e) ≡ true → references e ≡ []
null_alone e i n = sym (types_alike (λ (t : Noted). t.ty) e) ∙ by_case (null_or_cast (typed e) n)
  where
    by_case : (is_zero (constant_of (typed e)) ≡ true) ⊎ IsCast (typed e) → references (typed e) ≡ []
    by_case (inl z) = zero_alone (typed e) z
    by_case (inr c) = absurd (no_both (pointer void) refl (subst (λ x. is_integer (ty x) ≡ true) c.2 i))

-- after its nulls are recognised an expression is a null pointer, or an integer as it was
pub recognised_alone : (e : Expression) → (is_integer (ty (typed e)) ≡ true → is_null (typed e) ≡ true) → references (recognised e) ≡ references e
    → is_null_constant (recognised e) ≡ true → references (recognised e) ≡ []
recognised_alone (Trees.expression t at node) null kept n = by_node (recognised_node t node) kept n
  where
    of_integer : (own : List Reference) → own ≡ references_by_node node → is_integer t.ty ≡ true → own ≡ []
    of_integer own k i = k ∙ null_alone (Trees.expression t at node) i (null i)

    by_node : (own : Node) → references_by_node own ≡ references_by_node node → is_null_constant (Trees.expression t at own) ≡ true
        → references_by_node own ≡ []
    by_node Trees.null k n = refl
    by_node own k n = of_integer (references_by_node own) k n

module _ (d : Declared) where
  abbrev bare_node : Node → Trees.Node CType
  bare_node = mapped_node (of_types (λ (t : Noted). t.ty))

  two : (a b c e : List Reference) → a ≡ c → b ≡ e → a ++ b ≡ c ++ e
  two a b c e h k = rw (h, k) refl

  moved : (n : ℕ) (x y : Expression) (t : CType) → IsMoved n (typed x) (typed y) t → IsSettled (typed x) × IsSettled (typed y)
  moved n x y t h =
      (bare_settled (typed x) h.0, number_settled (typed y) (moved_number n (ty (typed x)) (bare_ty (typed y)) (ty (typed y)) h.1))

  pub move : (op : PointerOp) (n : ℕ) (x y : Expression) (t : CType) → IsMove op n (typed x) (typed y) t → IsSettled (typed x) × IsSettled (typed y)
  move P.Add n x y t (inl h) = moved n x y t h
  move P.Add n x y t (inr h) = let r = moved n y x t h in (r.1, r.0)
  move P.Subtract n x y t h = moved n x y t h

  mutual
    pub kept : (e : Expression) → IsTyped d (typed e) → IsSettled (typed e) → references (recognised e) ≡ references e
    kept (Trees.expression t at node) h s = kept_node t at node h s

    kept_node : (t : Noted) (at : Place) (node : Node) → IsTypedNode d t.ty at (bare_node node) → IsSettled (typed (Trees.expression t at node))
        → references_by_node (recognised_node t node) ≡ references_by_node node
    kept_node t at (Trees.constant v) h s = refl
    kept_node t at Trees.null h s = refl
    kept_node t at (Trees.function_name g) h s = refl
    kept_node t at (Trees.load p) h s = path_kept p h.0
    kept_node t at (Trees.address_of p) h s = path_kept p h.0
    kept_node t at (Trees.decay p) h s = path_kept p h.0
    kept_node t at (Trees.convert e false) h s =
        let k = kept e h.0 (bare_settled (typed e) h.1) in
        converted_kept t.ty (recognised e) false (λ p n. recognised_alone e (s p) k n) ∙ k
    kept_node t at (Trees.convert e true) h s =
        let k = kept e h.0 (bare_settled (typed e) h.1) in
        converted_kept t.ty (recognised e) true (λ p n. recognised_alone e (λ i. cast (ty (typed e)) (is_null (typed e)) t.ty h.2 p i) k n) ∙ k
    kept_node t at (Trees.unary op x) h s =
        kept x h.0 (number_settled (typed x) (subst (λ t. is_integer t ≡ true) (sym h.2) (promoting_is (bare_ty (typed x)) t.ty h.1).1))
    kept_node t at (Trees.binary op x y) h s =
        let i = on_numbers_is op (bare_ty (typed x)) (bare_ty (typed y)) t.ty (ty (typed y)) h.2 in
        two (references (recognised x)) (references (recognised y)) (references x) (references y)
        (kept x h.0 (number_settled (typed x) (subst (λ t. is_integer t ≡ true) (sym h.3) i.2))) (kept y h.1 (number_settled (typed y) i.3))
    kept_node t at (Trees.compare op x y) h s =
        let n = comparing_null op (bare_ty (typed x)) (is_null (bare (typed x))) (bare_ty (typed y)) (is_null (bare (typed y))) (ty (typed x)) h.2 in
        two (references (recognised x)) (references (recognised y)) (references x) (references y) (kept x h.0 (λ p. (n p).0))
        (kept y h.1 (λ p. (n (subst (λ t. is_pointer t ≡ true) h.3 p)).1))
    kept_node t at (Trees.pointer_add op x y) h s =
        let m = move op (d.complete at.at) x y t.ty h.2 in
        two (references (recognised x)) (references (recognised y)) (references x) (references y) (kept x h.0 m.0) (kept y h.1 m.1)
    kept_node t at (Trees.pointer_difference x y) h s =
        two (references (recognised x)) (references (recognised y)) (references x) (references y) (kept x h.0 (bare_settled (typed x) h.2))
        (kept y h.1 (bare_settled (typed y) h.3))
    kept_node t at (Trees.both x y) h s =
        two (references (recognised x)) (references (recognised y)) (references x) (references y) (kept x h.0 (bare_settled (typed x) h.2.0))
        (kept y h.1 (bare_settled (typed y) h.3.0))
    kept_node t at (Trees.either x y) h s =
        two (references (recognised x)) (references (recognised y)) (references x) (references y) (kept x h.0 (bare_settled (typed x) h.2.0))
        (kept y h.1 (bare_settled (typed y) h.3.0))
    kept_node t at (Trees.not x) h s = kept x h.0 (bare_settled (typed x) h.1.0)
    kept_node t at (Trees.choose x y z) h s =
        let n = choosing_null (bare_ty (typed y)) (is_null (bare (typed y))) (bare_ty (typed z)) (is_null (bare (typed z))) t.ty h.4 in
        two (references (recognised x) ++ references (recognised y)) (references (recognised z)) (references x ++ references y) (references z)
        (two (references (recognised x)) (references (recognised y)) (references x) (references y) (kept x h.0 (bare_settled (typed x) h.3.0))
        (kept y h.1 (λ p. (n (subst (λ t. is_pointer t ≡ true) h.5 p)).0))) (kept z h.2 (λ p. (n (subst (λ t. is_pointer t ≡ true) h.6 p)).1))
    kept_node t at (Trees.comma x y) h s =
        two (references (recognised x)) (references (recognised y)) (references x) (references y) (kept x h.0 (bare_settled (typed x) h.2))
        (kept y h.1 (bare_settled (typed y) h.3))
    kept_node t at (Trees.assign p x) h s =
        two (references_by_path (recognised_path p)) (references (recognised x)) (references_by_path p) (references x) (path_kept p h.0)
        (kept x h.1 (converted_settled (typed x) t.ty h.4))
    kept_node t at (Trees.assign_op op p x) h s =
        two (references_by_path (recognised_path p)) (references (recognised x)) (references_by_path p) (references x) (path_kept p h.0)
        (kept x h.1 (number_settled (typed x) (updated_number (d.complete at.at) op t.ty (bare_ty (typed x)) (ty (typed x)) h.3)))
    kept_node t at (Trees.step op before p) h s = path_kept p h.0
    kept_node t at (Trees.copy_record to from) h s =
        two (references_by_path (recognised_path to)) (references_by_path (recognised_path from)) (references_by_path to) (references_by_path from)
        (path_kept to h.0) (path_kept from h.1)
    kept_node t at (Trees.call g all) h s = ap (λ own. a_function g ∷ own) (arguments_kept h.0 all h.2)
    kept_node t at (Trees.call_through e all) h s =
        two (references (recognised e)) (references_by_all (recognised_all all)) (references e) (references_by_all all)
        (kept e h.1 (bare_settled (typed e) h.2)) (arguments_kept h.0 all h.4)
    kept_node t at (Trees.library which all) h s = arguments_kept h.0 all h.2
    kept_node t at (Trees.allocate r n zeroed) h s = count_kept n h.2

    count_kept : (n : Trees.OptionalExpression Noted) → IsCount d (mapped_if_any (of_types (λ (t : Noted). t.ty)) n)
        → references_by_optional (recognised_optional n) ≡ references_by_optional n
    count_kept Trees.no_expression h = refl
    count_kept (Trees.some_expression x) h = kept x h.0 (converted_settled (typed x) (integer UInt) h.1)

    arguments_kept : (parameters : CTypes) (all : Trees.Expressions Noted) → AreArguments d parameters (typed_all all)
        → references_by_all (recognised_all all) ≡ references_by_all all
    arguments_kept no_types Trees.no_expressions h = refl
    arguments_kept no_types (Trees.and_expression x all) h = absurd h
    arguments_kept (and_type t more) Trees.no_expressions h = absurd h
    arguments_kept (and_type t more) (Trees.and_expression x all) h =
        two (references (recognised x)) (references_by_all (recognised_all all)) (references x) (references_by_all all)
        (kept x h.0 (converted_settled (typed x) t h.1)) (arguments_kept more all h.2)

    pub path_kept : (p : Path) → IsTypedPath d (typed_path p) → references_by_path (recognised_path p) ≡ references_by_path p
    path_kept (Trees.path t at step) h = step_kept t.ty at step h

    step_kept : (t : CType) (at : Place) (step : PathNode) → IsTypedStep d t at (typed_step step)
        → references_by_step (recognised_step step) ≡ references_by_step step
    step_kept t at (Trees.local n) h = refl
    step_kept t at (Trees.object n) h = refl
    step_kept t at (Trees.deref e) h = kept e h.0 (bare_settled (typed e) h.1)
    step_kept t at (Trees.index e i) h =
        two (references (recognised e)) (references (recognised i)) (references e) (references i) (kept e h.0 (bare_settled (typed e) h.2))
        (kept i h.1 (subscript_settled (typed i) h.4))
    step_kept t at (Trees.member p r field) h = path_kept p h.0
    step_kept t at (Trees.element p i) h =
        two (references_by_path (recognised_path p)) (references (recognised i)) (references_by_path p) (references i) (path_kept p h.0)
        (kept i h.1 (subscript_settled (typed i) h.2))
