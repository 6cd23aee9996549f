-- What two evaluations do is related where what their calls do is.
use Rattle.std.proofs.Common.{◌≡◌, refl, ℕ, ◌*◌, ◌^◌, Bool, true, false, not, List, [], ◌∷◌, Option, Some, None, ℤ, pos, nat_lt, slice_get, slice_set}
use Rattle.std.proofs.Common.{if◌then◌else◌}
use Rattle.std.specs.Prelude.{◌+ℤ◌, ◌*ℤ◌}
use Rattle.lay_base.specs.declared.faults.UndefinedKind.TheVariants as K
use Rattle.lay_base.specs.declared.place.Place.{Place}
use Rattle.c_types.specs.Layouts.{offset_of}
use Rattle.c_types.specs.Sameness.{same_type}
use Rattle.c_types.specs.Types.{CType, void, pointer as pointer_to}
use Rattle.c_typed.specs.declared.operators.LibraryFunction.{LibraryFunction}
use Rattle.c_typed.specs.declared.operators.LibraryFunction.TheVariants as L
use Rattle.c_typed.specs.declared.operators.PointerOp.TheVariants.{Add}
use Rattle.c_typed.specs.Trees as T
use Rattle.c_typed.specs.Trees.{Expression, expression, Node, Path, path, PathNode, Expressions, OptionalExpression}
use Rattle.c_typed.specs.Constants.{ty, kind_of}
use Rattle.c_typed.specs.Conversions.{number_of}
use Rattle.c_typed.specs.Programs.{ProgramData, FunctionData}
use Rattle.c_typed.specs.Typed.{at_of, path_ty}
use Rattle.memory_words.specs.declared.cell_words.pointer.Ptr.{Ptr}
use Rattle.memory_words.specs.declared.cell_words.pointer.Ptr.TheVariants as P
use Rattle.block_memory.specs.RunWorlds.Doing.{Doing, ◌>>=◌, pure}
use Rattle.block_memory.specs.RunWorlds.Events.{reached}
use Rattle.block_memory.specs.RunWorlds.Scalars.{as_word, as_pointer, pointer_of}
use Rattle.block_memory.specs.declared.run_worlds.value.Value.{Value}
use Rattle.block_memory.specs.declared.run_worlds.value.Value.TheVariants.{Word as word, Pointer as pointer}
use Rattle.block_memory.specs.RunWorlds.LibraryCalls.{allocated, the, given, number, address, library, is_same_place}
use Rattle.block_memory.specs.RunWorlds.Operators.{converted, is_true, flag, unary, moved, updated, next}
use Rattle.c_meaning.specs.Expressions.{or_no_value, part_in, part_of, is_subscript, element_of, field_in, field_through, address_of, copy_record}
use Rattle.c_meaning.specs.Expressions.{through, as_type, value, used, value_of, how_many, arguments, spot, spot_of}
use Rattle.c_meaning.specs.Frames.{Frame, with_slot, slot_now, spot_of as slot_spot, local_spot, known, fetch, put}
use Rattle.c_meaning.specs.declared.frame.Spot.{Spot}
use Rattle.c_meaning.specs.declared.frame.Spot.TheVariants.{Kept as kept, Placed as placed}
use Rattle.c_meaning.specs.declared.frame.Slot.{Slot}
use Rattle.c_meaning.specs.declared.frame.Slot.TheVariants.{ByName as by_name, InBlock as in_block}
use Rattle.c_meaning.specs.Program.{type_at, size_at, element_size, length_of, access_at}
use Rattle.c_meaning.proofs.Closed.{Relation}
use Rattle.c_meaning.proofs.ClosedRuns as Runs

-- what a call of a function does
abbrev pub Calls : Type 0
Calls = Place → (f : ℕ) → List Value → Doing Frame (Option Value)

module _ (r : Relation) where
  abbrev pub Itself : (A : Type 0) → Doing Frame A → Type 0
  Itself A m = Runs.Itself r Frame A m

  by_bind : {A B : Type 0} {m : Doing Frame A} {next : A → Doing Frame B} → Itself A m → ((x : A) → Itself B (next x)) → Itself B (m >>= next)
  by_bind one other = Runs.by_bind r one other

  -- ---- parts

  pub by_or_no_value : (place : Place) (v : Option Value) → Itself Value (or_no_value place v)
  by_or_no_value place None = Runs.by_undefined r K.NoValue place
  by_or_no_value place (Some v) = Runs.by_pure r v

  pub by_with_slot : (x : ℕ) (s : Slot) → Itself (Unit {0}) (with_slot x s)
  by_with_slot x s = Runs.by_own r (λ f. tt) (λ f. slice_set f x s)

  pub by_slot_now : (x : ℕ) → Itself (Option Slot) (slot_now x)
  by_slot_now x = Runs.by_own r (λ f. slice_get f x) (λ f. f)

  by_slot_spot : (place : Place) (x : ℕ) (s : Option Slot) → Itself Spot (slot_spot place x s)
  by_slot_spot place x None = Runs.by_undefined r K.Dead place
  by_slot_spot place x (Some (by_name v)) = Runs.by_pure r (kept x)
  by_slot_spot place x (Some (in_block None)) = Runs.by_undefined r K.Dead place
  by_slot_spot place x (Some (in_block (Some b))) = Runs.by_pure r (placed (P.Block b 0))

  pub by_local_spot : (place : Place) (x : ℕ) → Itself Spot (local_spot place x)
  by_local_spot place x = by_bind (by_slot_now x) (by_slot_spot place x)

  pub by_choice : {A : Type 0} (test : Bool) {m n : Doing Frame A} → Itself A m → Itself A n → Itself A (if test then m else n)
  by_choice true one other = one
  by_choice false one other = other

  pub by_part_of : (place : Place) (by : ℤ) (s : Spot) → Itself Spot (part_of place by s)
  by_part_of place by (placed q) = by_bind (Runs.by_memory r) (λ m. by_bind (Runs.by_tested r place (part_in m q by)) (λ p. Runs.by_pure r (placed p)))
  by_part_of place by (kept x) = Runs.by_undefined r K.Dead place

  pub by_element_of : (place : Place) (n size : ℕ) (addressed : Bool) (s : Spot) (i : ℤ) → Itself Spot (element_of place n size addressed s i)
  by_element_of place n size addressed s i = by_choice (is_subscript n addressed i) (by_part_of place (i *ℤ pos size) s) (Runs.by_undefined r K.Subscript place)

  pub by_field_through : (place : Place) (q : Ptr) (by : ℤ) → Itself Spot (field_through place q by)
  by_field_through place q by =
      by_bind (Runs.by_memory r) (λ m. by_bind (Runs.by_tested r place (field_in m q by)) (λ p. by_bind (Runs.by_note_in r m p (λ b at. reached b at)) (λ a. Runs.by_pure r (placed p))))

  pub by_address_of : (place : Place) (s : Spot) → Itself Ptr (address_of place s)
  by_address_of place (placed q) = Runs.by_pure r q
  by_address_of place (kept x) = Runs.by_undefined r K.Dead place

  pub by_allocated : (place : Place) (record_number size : ℕ) (count : Value) (zeroed : Bool) → Itself Value (allocated place record_number size count zeroed)
  by_allocated place record_number size count zeroed =
      by_bind (Runs.by_tested r place (as_word count))
      (λ n. by_choice (nat_lt (n * size) (2 ^ 28)) (Runs.by_allocate r _ _ zeroed) (Runs.by_undefined r K.Huge place))

  by_the : {A : Type 0} {m : Doing Frame A} → Itself A m → (f : A → Value) → Itself (Option Value) (the m f)
  by_the one f = by_bind one (λ x. Runs.by_pure r (Some (f x)))

  by_given : {m : Doing Frame Value} → Itself Value m → Itself (Option Value) (given m)
  by_given one = by_bind one (λ v. Runs.by_pure r (Some v))

  by_number : (place : Place) (v : Value) → Itself ℕ (number place v)
  by_number place v = Runs.by_tested r place (as_word v)

  by_address : (place : Place) (v : Value) → Itself Ptr (address place v)
  by_address place v = Runs.by_tested r place (as_pointer v)

  pub by_library : (place : Place) (which : LibraryFunction) (all : List Value) → Itself (Option Value) (library place which all)
  by_library place L.Malloc (v ∷ []) = by_bind (by_number place v) (λ n. by_given (Runs.by_allocate r None n false))
  by_library place L.Calloc (v ∷ w ∷ []) = by_bind (by_number place v) (λ n. by_bind (by_number place w) (λ k. by_given (Runs.by_allocate r None _ true)))
  by_library place L.Free (v ∷ []) = by_bind (by_address place v) (λ p. by_bind (Runs.by_free r place p) (λ a. Runs.by_pure r None))
  by_library place L.Memcpy (v ∷ w ∷ x ∷ []) =
      by_bind (by_address place v) (λ p. by_bind (by_address place w) (λ q. by_bind (by_number place x) (λ n. by_given (Runs.by_copy r place p q n false))))
  by_library place L.Memmove (v ∷ w ∷ x ∷ []) =
      by_bind (by_address place v) (λ p. by_bind (by_address place w) (λ q. by_bind (by_number place x) (λ n. by_given (Runs.by_copy r place p q n true))))
  by_library place L.Memset (v ∷ w ∷ x ∷ []) =
      by_bind (by_address place v) (λ p. by_bind (by_number place w) (λ byte. by_bind (by_number place x) (λ n. by_given (Runs.by_fill r place p byte n))))
  by_library place L.Memcmp (v ∷ w ∷ x ∷ []) =
      by_bind (by_address place v) (λ p. by_bind (by_address place w) (λ q. by_bind (by_number place x) (λ n. by_given (Runs.by_compare r place p q n))))
  by_library place L.Putchar (v ∷ []) = by_bind (by_number place v) (λ n. by_given (Runs.by_putchar r n))
  by_library place L.Getchar [] = by_given (Runs.by_getchar r)
  by_library place L.Exit (v ∷ []) = by_bind (by_number place v) (λ n. Runs.by_exit r n)
  by_library place which all = Runs.by_undefined r K.Call place

  pub by_copy_record : (place : Place) (size : ℕ) (to from : Spot) → Itself (Unit {0}) (copy_record place size to from)
  by_copy_record place size (placed q) (placed s) = by_bind (Runs.by_copy r place q s size (is_same_place q s)) (λ a. Runs.by_pure r tt)
  by_copy_record place size (placed q) (kept x) = Runs.by_undefined r K.Dead place
  by_copy_record place size (kept x) from = Runs.by_undefined r K.Dead place

  module _ (p : ProgramData) where
    by_known : (place : Place) (s : Option Slot) → Itself Value (known p place s)
    by_known place (Some (by_name (Some v))) = Runs.by_pure r v
    by_known place (Some (by_name None)) = Runs.by_undefined r K.Empty place
    by_known place (Some (in_block b)) = Runs.by_undefined r K.Empty place
    by_known place None = Runs.by_undefined r K.Empty place

    pub by_fetch : (place : Place) (s : Spot) (type : ℕ) → Itself Value (fetch p place s type)
    by_fetch place (kept x) type = by_bind (by_slot_now x) (by_known place)
    by_fetch place (placed q) type = Runs.by_load r place q (access_at p type)

    pub by_put : (place : Place) (s : Spot) (type : ℕ) (v : Value) → Itself (Unit {0}) (put p place s type v)
    by_put place (kept x) type v = by_with_slot x (by_name (Some v))
    by_put place (placed q) type v = Runs.by_store r place q (access_at p type) v

    -- ---- with what the calls do

    module _ (call call' : Calls) (b : ℕ) (calls : (place : Place) (f : ℕ) (values : List Value) → r.Related b Frame (Option Value) (call place f values) (call' place f values)) where
      abbrev Alike : (A : Type 0) → (m m' : Doing Frame A) → Type 0
      Alike A m m' = r.Related b Frame A m m'

      bind : {A B : Type 0} {m m' : Doing Frame A} {next next' : A → Doing Frame B} → Alike A m m' → ((x : A) → Alike B (next x) (next' x))
          → Alike B (m >>= next) (m' >>= next')
      bind one other = Runs.bind r one other

      pure_alike : {A : Type 0} (x : A) → Alike A (pure x) (pure x)
      pure_alike x = r.on_pure b _ _ x

      choice_alike : {A : Type 0} (test : Bool) {m m' n n' : Doing Frame A} → Alike A m m' → Alike A n n' → Alike A (if test then m else n) (if test then m' else n')
      choice_alike true one other = one
      choice_alike false one other = other

      the_alike : {A : Type 0} {m m' : Doing Frame A} → Alike A m m' → (f : A → Value) → Alike (Option Value) (the m f) (the m' f)
      the_alike one f = bind one (λ x. pure_alike (Some (f x)))

      as_type_alike : (t : CType) (place : Place) (v : Option Value) → Alike (Option Value) (as_type p call t place v) (as_type p call' t place v)
      as_type_alike void place v = pure_alike None
      as_type_alike t place v = bind (by_or_no_value place v b) (λ v. by_given (Runs.by_tested r place (converted t v)) b)

      through_alike : (place : Place) (t : CType) (q : Ptr) (all : List Value) → Alike (Option Value) (through p call place t q all) (through p call' place t q all)
      through_alike place t (P.Function f) all = by_function (slice_get p.functions f) refl
        where
          by_function : (g : Option FunctionData) → slice_get p.functions f ≡ g
              → Alike (Option Value) (through p call place t (P.Function f) all) (through p call' place t (P.Function f) all)
          by_function None e = rw e (Runs.by_undefined r K.Call place b)
          by_function (Some g) e = rw e (choice_alike (same_type t (pointer_to (type_at p g.ty))) (calls place f all) (Runs.by_undefined r K.Call place b))
      through_alike place t P.Null all = Runs.by_undefined r K.Call place b
      through_alike place t (P.Block c at) all = Runs.by_undefined r K.Call place b

      mutual
        pub value_alike : (e : Expression ℕ) → Alike (Option Value) (value p call e) (value p call' e)
        value_alike (expression t at node) = node_alike t at node

        pub used_alike : (e : Expression ℕ) → Alike Value (used p call e) (used p call' e)
        used_alike (expression t at node) = bind (node_alike t at node) (λ v. by_or_no_value at v b)

        node_alike : (t : ℕ) (at : Place) (node : Node ℕ) → Alike (Option Value) (value_of p call t at node) (value_of p call' t at node)
        node_alike t at (T.constant v) = pure_alike (Some (word v))
        node_alike t at T.null = pure_alike (Some (pointer P.Null))
        node_alike t at (T.function_name f) = pure_alike (Some (pointer (P.Function f)))
        node_alike t at (T.load q) = bind (spot_alike false q) (λ s. bind (by_fetch at s t b) (λ v. pure_alike (Some v)))
        node_alike t at (T.address_of (path u c (T.deref e))) = value_alike e
        node_alike t at (T.decay (path u c (T.deref e))) = value_alike e
        node_alike t at (T.address_of q) = bind (spot_alike true q) (λ s. the_alike (by_address_of at s b) pointer)
        node_alike t at (T.decay q) = bind (spot_alike false q) (λ s. the_alike (by_address_of at s b) pointer)
        node_alike t at (T.convert e written) = bind (value_alike e) (as_type_alike (type_at p t) (at_of e))
        node_alike t at (T.unary op x) = bind (used_alike x) (λ v. by_given (Runs.by_tested r at (unary op v)) b)
        node_alike t at (T.binary op x y) = bind (used_alike x) (λ v. bind (used_alike y) (λ w. by_given (Runs.by_tested r at _) b))
        node_alike t at (T.compare op x y) =
            bind (used_alike x) (λ v. bind (used_alike y) (λ w. bind (Runs.by_memory r b) (λ m. by_given (Runs.by_tested r at _) b)))
        node_alike t at (T.pointer_add op x y) =
            bind (used_alike x) (λ v. bind (used_alike y) (λ w. bind (Runs.by_memory r b) (λ m. by_given (Runs.by_tested r at _) b)))
        node_alike t at (T.pointer_difference x y) = bind (used_alike x) (λ v. bind (used_alike y) (λ w. by_given (Runs.by_tested r at _) b))
        node_alike t at (T.both x y) =
            bind (used_alike x) (λ v. choice_alike (is_true v) (the_alike (used_alike y) (λ w. flag (is_true w))) (pure_alike (Some (flag false))))
        node_alike t at (T.either x y) =
            bind (used_alike x) (λ v. choice_alike (is_true v) (pure_alike (Some (flag true))) (the_alike (used_alike y) (λ w. flag (is_true w))))
        node_alike t at (T.not x) = the_alike (used_alike x) (λ v. flag (not (is_true v)))
        node_alike t at (T.choose x y z) = bind (used_alike x) (λ v. choice_alike (is_true v) (value_alike y) (value_alike z))
        node_alike t at (T.comma x y) = bind (value_alike x) (λ v. value_alike y)
        node_alike t at (T.assign q x) =
            bind (spot_alike false q) (λ s. bind (used_alike x) (λ v. bind (by_put at s t v b) (λ a. pure_alike (Some v))))
        node_alike t at (T.assign_op op q x) =
            bind (spot_alike false q) (λ s. bind (used_alike x) (λ w. bind (by_fetch at s t b) (λ v. bind (Runs.by_memory r b) (λ m.
            bind (Runs.by_tested r at (updated m op (element_size p (type_at p t)) (type_at p t) v (type_at p (ty x)) w) b) (λ new.
            bind (by_put at s t new b) (λ a. pure_alike (Some new)))))))
        node_alike t at (T.step op before q) =
            bind (spot_alike false q) (λ s. bind (by_fetch at s t b) (λ v. bind (Runs.by_memory r b) (λ m.
            bind (Runs.by_tested r at (next m op (element_size p (type_at p t)) (type_at p t) v) b) (λ new.
            bind (by_put at s t new b) (λ a. pure_alike (Some (if before then new else v)))))))
        node_alike t at (T.copy_record to from) =
            bind (spot_alike false to) (λ s. bind (spot_alike false from) (λ z. bind (by_copy_record at (size_at p (path_ty to)) s z b) (λ a. pure_alike None)))
        node_alike t at (T.call f all) = bind (arguments_alike all) (λ vs. calls at f vs)
        node_alike t at (T.call_through e all) =
            bind (used_alike e) (λ v. bind (arguments_alike all) (λ vs. through_alike at (type_at p (ty e)) (pointer_of v) vs))
        node_alike t at (T.library which all) = bind (arguments_alike all) (λ vs. by_library at which vs b)
        node_alike t at (T.allocate record_number count zeroed) =
            bind (count_alike count) (λ n. by_given (by_allocated at record_number (element_size p (type_at p t)) n zeroed) b)

        count_alike : (count : OptionalExpression ℕ) → Alike Value (how_many p call count) (how_many p call' count)
        count_alike T.no_expression = pure_alike (word 1)
        count_alike (T.some_expression e) = used_alike e

        arguments_alike : (all : Expressions ℕ) → Alike (List Value) (arguments p call all) (arguments p call' all)
        arguments_alike T.no_expressions = pure_alike []
        arguments_alike (T.and_expression e more) = bind (used_alike e) (λ v. bind (arguments_alike more) (λ vs. pure_alike (v ∷ vs)))

        pub spot_alike : (addressed : Bool) (q : Path ℕ) → Alike Spot (spot p call addressed q) (spot p call' addressed q)
        spot_alike addressed (path t at step) = step_alike t addressed at step

        step_alike : (t : ℕ) (addressed : Bool) (at : Place) (step : PathNode ℕ)
            → Alike Spot (spot_of p call t addressed at step) (spot_of p call' t addressed at step)
        step_alike t addressed at (T.local x) = by_local_spot at x b
        step_alike t addressed at (T.object n) = pure_alike (placed (P.Block n 0))
        step_alike t addressed at (T.deref e) = bind (used_alike e) (λ v. pure_alike (placed (pointer_of v)))
        step_alike t addressed at (T.index e i) =
            bind (used_alike e) (λ v. bind (used_alike i) (λ w. bind (Runs.by_memory r b) (λ m.
            bind (Runs.by_tested r at (moved m Add (size_at p t) (kind_of (type_at p (ty i))) v w) b) (λ q. pure_alike (placed (pointer_of q))))))
        step_alike t addressed at (T.member (path u c (T.deref e)) n field) =
            bind (used_alike e) (λ v. by_field_through at (pointer_of v) (pos (offset_of p.records n field)) b)
        step_alike t addressed at (T.member (path u c (T.index e i)) n field) =
            bind (used_alike e) (λ v. bind (used_alike i) (λ w. bind (Runs.by_tested r at (as_word w) b) (λ k. by_field_through at (pointer_of v)
            (number_of (kind_of (type_at p (ty i))) k *ℤ pos (size_at p u) +ℤ pos (offset_of p.records n field)) b)))
        step_alike t addressed at (T.member q n field) = bind (spot_alike false q) (λ s. by_part_of at (pos (offset_of p.records n field)) s b)
        step_alike t addressed at (T.element q i) =
            bind (spot_alike false q) (λ s. bind (used_alike i) (λ v. bind (Runs.by_tested r at (as_word v) b) (λ n.
            by_element_of at (length_of (type_at p (path_ty q))) (size_at p t) addressed s (number_of (kind_of (type_at p (ty i))) n) b)))
