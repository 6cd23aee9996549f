-- An undefined step of an expression stands at a place in it, where that holds of what its calls do.
use Rattle.std.proofs.Common.{◌≡◌, refl, ℕ, ◌*◌, ◌^◌, Bool, true, false, not, List, [], ◌∷◌, Option, Some, None, ℤ, pos, nat_lt, slice_get, slice_set}
use Rattle.std.proofs.Common.{if◌then◌else◌}
use Rattle.std.specs.Prelude.{◌+ℤ◌, ◌*ℤ◌}
use Rattle.lay_base.specs.declared.faults.UndefinedKind.TheVariants as K
use Rattle.lay_base.specs.declared.place.Place.{Place}
use Rattle.c_types.specs.Layouts.{offset_of}
use Rattle.c_types.specs.Sameness.{same_type}
use Rattle.c_types.specs.Types.{CType, void, pointer as pointer_to}
use Rattle.c_typed.specs.declared.operators.LibraryFunction.{LibraryFunction}
use Rattle.c_typed.specs.declared.operators.LibraryFunction.TheVariants as L
use Rattle.c_typed.specs.Trees as T
use Rattle.c_typed.specs.Trees.{Expression, expression, Node, Path, path, PathNode, Expressions, OptionalExpression}
use Rattle.c_typed.specs.Constants.{ty, kind_of}
use Rattle.c_typed.specs.Conversions.{number_of}
use Rattle.c_typed.specs.Programs.{ProgramData, FunctionData}
use Rattle.c_typed.specs.Typed.{at_of, path_ty}
use Rattle.memory_words.specs.declared.cell_words.pointer.Ptr.{Ptr}
use Rattle.memory_words.specs.declared.cell_words.pointer.Ptr.TheVariants as P
use Rattle.block_memory.specs.RunWorlds.Doing.{Doing, ◌>>=◌}
use Rattle.block_memory.specs.RunWorlds.Events.{reached}
use Rattle.block_memory.specs.RunWorlds.Scalars.{as_word, as_pointer, pointer_of}
use Rattle.block_memory.specs.declared.run_worlds.value.Value.{Value}
use Rattle.block_memory.specs.declared.run_worlds.value.Value.TheVariants.{Word as word, Pointer as pointer}
use Rattle.block_memory.specs.RunWorlds.LibraryCalls.{allocated, the, given, number, address, library, is_same_place}
use Rattle.block_memory.specs.RunWorlds.Operators.{converted, is_true, flag, unary}
use Rattle.c_meaning.specs.Expressions.{or_no_value, part_in, part_of, is_subscript, element_of, field_in, field_through, address_of}
use Rattle.c_meaning.specs.Expressions.{copy_record, through, as_type, value, used, value_of, how_many, arguments, spot, spot_of}
use Rattle.c_meaning.specs.Frames.{Frame, with_slot, slot_now, spot_of as slot_spot, local_spot, known, fetch, put}
use Rattle.c_meaning.specs.declared.frame.Spot.{Spot}
use Rattle.c_meaning.specs.declared.frame.Spot.TheVariants.{Kept as kept, Placed as placed}
use Rattle.c_meaning.specs.declared.frame.Slot.{Slot}
use Rattle.c_meaning.specs.declared.frame.Slot.TheVariants.{ByName as by_name, InBlock as in_block}
use Rattle.c_meaning.specs.Program.{type_at, size_at, element_size, length_of, access_at}
use Rattle.c_undefined_places.specs.Placed.{IsPlaced, IsPlacedNode, IsPlacedPath, IsPlacedStep, ArePlaced, IsPlacedCount}
use Rattle.c_undefined_places.proofs.Standing as Runs

-- what a call of a function does
abbrev pub Calls : Type 0
Calls = Place → (f : ℕ) → List Value → Doing Frame (Option Value)

module _ (Is : Place → Type 0) where
  abbrev pub Stands : {A : Type 0} → Doing Frame A → Type 0
  Stands m = Runs.Stands Is m

  bind : {A B : Type 0} {m : Doing Frame A} {next : A → Doing Frame B} → Stands m → ((x : A) → Stands (next x)) → Stands (m >>= next)
  bind one other = Runs.bind Is one other

  -- ---- parts

  pub own_place : (e : Expression ℕ) → IsPlaced Is e → Is (at_of e)
  own_place (expression t at node) h = h.0

  pub by_or_no_value : (place : Place) (v : Option Value) → Is place → Stands (or_no_value place v)
  by_or_no_value place None i = Runs.by_undefined Is K.NoValue place i
  by_or_no_value place (Some v) i = Runs.by_pure Is v

  pub by_with_slot : (x : ℕ) (s : Slot) → Stands (with_slot x s)
  by_with_slot x s = Runs.by_own Is (λ f. tt) (λ f. slice_set f x s)

  pub by_slot_now : (x : ℕ) → Stands (slot_now x)
  by_slot_now x = Runs.by_own Is (λ f. slice_get f x) (λ f. f)

  by_slot_spot : (place : Place) (x : ℕ) (s : Option Slot) → Is place → Stands (slot_spot place x s)
  by_slot_spot place x None i = Runs.by_undefined Is K.Dead place i
  by_slot_spot place x (Some (by_name v)) i = Runs.by_pure Is (kept x)
  by_slot_spot place x (Some (in_block None)) i = Runs.by_undefined Is K.Dead place i
  by_slot_spot place x (Some (in_block (Some b))) i = Runs.by_pure Is (placed (P.Block b 0))

  by_local_spot : (place : Place) (x : ℕ) → Is place → Stands (local_spot place x)
  by_local_spot place x i = bind (by_slot_now x) (λ s. by_slot_spot place x s i)

  by_part_of : (place : Place) (by : ℤ) (s : Spot) → Is place → Stands (part_of place by s)
  by_part_of place by (placed q) i =
      bind (Runs.by_memory Is) (λ m. bind (Runs.by_tested Is place (part_in m q by) i) (λ p. Runs.by_pure Is (placed p)))
  by_part_of place by (kept x) i = Runs.by_undefined Is K.Dead place i

  by_element_of : (place : Place) (n size : ℕ) (addressed : Bool) (s : Spot) (z : ℤ) → Is place → Stands (element_of place n size addressed s z)
  by_element_of place n size addressed s z i =
      Runs.by_choice Is (is_subscript n addressed z) (by_part_of place (z *ℤ pos size) s i) (Runs.by_undefined Is K.Subscript place i)

  by_field_through : (place : Place) (q : Ptr) (by : ℤ) → Is place → Stands (field_through place q by)
  by_field_through place q by i =
      bind (Runs.by_memory Is) (λ m. bind (Runs.by_tested Is place (field_in m q by) i)
      (λ p. bind (Runs.by_note_in Is m p (λ b at. reached b at)) (λ a. Runs.by_pure Is (placed p))))

  by_address_of : (place : Place) (s : Spot) → Is place → Stands (address_of place s)
  by_address_of place (placed q) i = Runs.by_pure Is q
  by_address_of place (kept x) i = Runs.by_undefined Is K.Dead place i

  by_allocated : (place : Place) (record_number size : ℕ) (count : Value) (zeroed : Bool) → Is place → Stands (allocated place record_number size count zeroed)
  by_allocated place record_number size count zeroed i =
      bind (Runs.by_tested Is place (as_word count) i)
      (λ n. Runs.by_choice Is (nat_lt (n * size) (2 ^ 28)) (Runs.by_allocate Is _ _ zeroed) (Runs.by_undefined Is K.Huge place i))

  by_the : {A : Type 0} {m : Doing Frame A} → Stands m → (f : A → Value) → Stands (the m f)
  by_the one f = bind one (λ x. Runs.by_pure Is (Some (f x)))

  by_given : {m : Doing Frame Value} → Stands m → Stands (given m)
  by_given one = bind one (λ v. Runs.by_pure Is (Some v))

  by_number : (place : Place) (v : Value) → Is place → Stands (number place v)
  by_number place v i = Runs.by_tested Is place (as_word v) i

  by_address : (place : Place) (v : Value) → Is place → Stands (address place v)
  by_address place v i = Runs.by_tested Is place (as_pointer v) i

  by_library : (place : Place) (which : LibraryFunction) (all : List Value) → Is place → Stands (library place which all)
  by_library place L.Malloc (v ∷ []) i = bind (by_number place v i) (λ n. by_given (Runs.by_allocate Is None n false))
  by_library place L.Calloc (v ∷ w ∷ []) i = bind (by_number place v i) (λ n. bind (by_number place w i) (λ k. by_given (Runs.by_allocate Is None _ true)))
  by_library place L.Free (v ∷ []) i = bind (by_address place v i) (λ p. bind (Runs.by_free Is place p i) (λ a. Runs.by_pure Is None))
  by_library place L.Memcpy (v ∷ w ∷ x ∷ []) i =
      bind (by_address place v i) (λ p. bind (by_address place w i) (λ q. bind (by_number place x i) (λ n. by_given (Runs.by_copy Is place p q n false i))))
  by_library place L.Memmove (v ∷ w ∷ x ∷ []) i =
      bind (by_address place v i) (λ p. bind (by_address place w i) (λ q. bind (by_number place x i) (λ n. by_given (Runs.by_copy Is place p q n true i))))
  by_library place L.Memset (v ∷ w ∷ x ∷ []) i =
      bind (by_address place v i) (λ p. bind (by_number place w i) (λ byte. bind (by_number place x i) (λ n. by_given (Runs.by_fill Is place p byte n i))))
  by_library place L.Memcmp (v ∷ w ∷ x ∷ []) i =
      bind (by_address place v i) (λ p. bind (by_address place w i) (λ q. bind (by_number place x i) (λ n. by_given (Runs.by_compare Is place p q n i))))
  by_library place L.Putchar (v ∷ []) i = bind (by_number place v i) (λ n. by_given (Runs.by_putchar Is n))
  by_library place L.Getchar [] i = by_given (Runs.by_getchar Is)
  by_library place L.Exit (v ∷ []) i = bind (by_number place v i) (λ n. Runs.by_exit Is n)
  by_library place which all i = Runs.by_undefined Is K.Call place i

  pub by_copy_record : (place : Place) (size : ℕ) (to from : Spot) → Is place → Stands (copy_record place size to from)
  by_copy_record place size (placed q) (placed s) i = bind (Runs.by_copy Is place q s size (is_same_place q s) i) (λ a. Runs.by_pure Is tt)
  by_copy_record place size (placed q) (kept x) i = Runs.by_undefined Is K.Dead place i
  by_copy_record place size (kept x) from i = Runs.by_undefined Is K.Dead place i

  module _ (p : ProgramData) where
    by_known : (place : Place) (s : Option Slot) → Is place → Stands (known p place s)
    by_known place (Some (by_name (Some v))) i = Runs.by_pure Is v
    by_known place (Some (by_name None)) i = Runs.by_undefined Is K.Empty place i
    by_known place (Some (in_block b)) i = Runs.by_undefined Is K.Empty place i
    by_known place None i = Runs.by_undefined Is K.Empty place i

    by_fetch : (place : Place) (s : Spot) (type : ℕ) → Is place → Stands (fetch p place s type)
    by_fetch place (kept x) type i = bind (by_slot_now x) (λ s. by_known place s i)
    by_fetch place (placed q) type i = Runs.by_load Is place q (access_at p type) i

    by_put : (place : Place) (s : Spot) (type : ℕ) (v : Value) → Is place → Stands (put p place s type v)
    by_put place (kept x) type v i = by_with_slot x (by_name (Some v))
    by_put place (placed q) type v i = Runs.by_store Is place q (access_at p type) v i

    -- ---- with what the calls do

    module _ (call : Calls) (calls : (place : Place) → Is place → (f : ℕ) (values : List Value) → Stands (call place f values)) where
      by_as_type : (t : CType) (place : Place) (v : Option Value) → Is place → Stands (as_type p call t place v)
      by_as_type void place v i = Runs.by_pure Is None
      by_as_type t place v i = bind (by_or_no_value place v i) (λ v. by_given (Runs.by_tested Is place (converted t v) i))

      by_through : (place : Place) (t : CType) (q : Ptr) (all : List Value) → Is place → Stands (through p call place t q all)
      by_through place t (P.Function f) all i = by_function (slice_get p.functions f) refl
        where
          by_function : (g : Option FunctionData) → slice_get p.functions f ≡ g → Stands (through p call place t (P.Function f) all)
          by_function None e = rw e (Runs.by_undefined Is K.Call place i)
          by_function (Some g) e =
              rw e (Runs.by_choice Is (same_type t (pointer_to (type_at p g.ty))) (calls place i f all) (Runs.by_undefined Is K.Call place i))
      by_through place t P.Null all i = Runs.by_undefined Is K.Call place i
      by_through place t (P.Block c at) all i = Runs.by_undefined Is K.Call place i

      mutual
        pub by_value : (e : Expression ℕ) → IsPlaced Is e → Stands (value p call e)
        by_value (expression t at node) h = by_node t at node h.0 h.1

        pub by_used : (e : Expression ℕ) → IsPlaced Is e → Stands (used p call e)
        by_used (expression t at node) h = bind (by_node t at node h.0 h.1) (λ v. by_or_no_value at v h.0)

        by_node : (t : ℕ) (at : Place) (node : Node ℕ) → Is at → IsPlacedNode Is node → Stands (value_of p call t at node)
        by_node t at (T.constant v) i h = Runs.by_pure Is (Some (word v))
        by_node t at T.null i h = Runs.by_pure Is (Some (pointer P.Null))
        by_node t at (T.function_name f) i h = Runs.by_pure Is (Some (pointer (P.Function f)))
        by_node t at (T.load q) i h = bind (by_spot false q h) (λ s. bind (by_fetch at s t i) (λ v. Runs.by_pure Is (Some v)))
        by_node t at (T.address_of (path u c (T.deref e))) i h = by_value e h.1
        by_node t at (T.decay (path u c (T.deref e))) i h = by_value e h.1
        by_node t at (T.address_of q) i h = bind (by_spot true q h) (λ s. by_the (by_address_of at s i) pointer)
        by_node t at (T.decay q) i h = bind (by_spot false q h) (λ s. by_the (by_address_of at s i) pointer)
        by_node t at (T.convert e written) i h = bind (by_value e h) (λ v. by_as_type (type_at p t) (at_of e) v (own_place e h))
        by_node t at (T.unary op x) i h = bind (by_used x h) (λ v. by_given (Runs.by_tested Is at (unary op v) i))
        by_node t at (T.binary op x y) i h = bind (by_used x h.0) (λ v. bind (by_used y h.1) (λ w. by_given (Runs.by_tested Is at _ i)))
        by_node t at (T.compare op x y) i h =
            bind (by_used x h.0) (λ v. bind (by_used y h.1) (λ w. bind (Runs.by_memory Is) (λ m. by_given (Runs.by_tested Is at _ i))))
        by_node t at (T.pointer_add op x y) i h =
            bind (by_used x h.0) (λ v. bind (by_used y h.1) (λ w. bind (Runs.by_memory Is) (λ m. by_given (Runs.by_tested Is at _ i))))
        by_node t at (T.pointer_difference x y) i h = bind (by_used x h.0) (λ v. bind (by_used y h.1) (λ w. by_given (Runs.by_tested Is at _ i)))
        by_node t at (T.both x y) i h =
            bind (by_used x h.0) (λ v. Runs.by_choice Is (is_true v) (by_the (by_used y h.1) (λ w. flag (is_true w))) (Runs.by_pure Is (Some (flag false))))
        by_node t at (T.either x y) i h =
            bind (by_used x h.0) (λ v. Runs.by_choice Is (is_true v) (Runs.by_pure Is (Some (flag true))) (by_the (by_used y h.1) (λ w. flag (is_true w))))
        by_node t at (T.not x) i h = by_the (by_used x h) (λ v. flag (not (is_true v)))
        by_node t at (T.choose x y z) i h = bind (by_used x h.0) (λ v. Runs.by_choice Is (is_true v) (by_value y h.1) (by_value z h.2))
        by_node t at (T.comma x y) i h = bind (by_value x h.0) (λ v. by_value y h.1)
        by_node t at (T.assign q x) i h =
            bind (by_spot false q h.0) (λ s. bind (by_used x h.1) (λ v. bind (by_put at s t v i) (λ a. Runs.by_pure Is (Some v))))
        by_node t at (T.assign_op op q x) i h =
            bind (by_spot false q h.0) (λ s. bind (by_used x h.1) (λ w. bind (by_fetch at s t i) (λ v. bind (Runs.by_memory Is) (λ m.
            bind (Runs.by_tested Is at _ i) (λ new. bind (by_put at s t new i) (λ a. Runs.by_pure Is (Some new)))))))
        by_node t at (T.step op before q) i h =
            bind (by_spot false q h) (λ s. bind (by_fetch at s t i) (λ v. bind (Runs.by_memory Is) (λ m.
            bind (Runs.by_tested Is at _ i) (λ new. bind (by_put at s t new i) (λ a. Runs.by_pure Is (Some (if before then new else v)))))))
        by_node t at (T.copy_record to from) i h =
            bind (by_spot false to h.0) (λ s. bind (by_spot false from h.1)
            (λ z. bind (by_copy_record at (size_at p (path_ty to)) s z i) (λ a. Runs.by_pure Is None)))
        by_node t at (T.call f all) i h = bind (by_arguments all h) (λ vs. calls at i f vs)
        by_node t at (T.call_through e all) i h =
            bind (by_used e h.0) (λ v. bind (by_arguments all h.1) (λ vs. by_through at (type_at p (ty e)) (pointer_of v) vs i))
        by_node t at (T.library which all) i h = bind (by_arguments all h) (λ vs. by_library at which vs i)
        by_node t at (T.allocate record_number count zeroed) i h =
            bind (by_count count h) (λ n. by_given (by_allocated at record_number (element_size p (type_at p t)) n zeroed i))

        by_count : (count : OptionalExpression ℕ) → IsPlacedCount Is count → Stands (how_many p call count)
        by_count T.no_expression h = Runs.by_pure Is (word 1)
        by_count (T.some_expression e) h = by_used e h

        by_arguments : (all : Expressions ℕ) → ArePlaced Is all → Stands (arguments p call all)
        by_arguments T.no_expressions h = Runs.by_pure Is []
        by_arguments (T.and_expression e more) h =
            bind (by_used e h.0) (λ v. bind (by_arguments more h.1) (λ vs. Runs.by_pure Is (v ∷ vs)))

        pub by_spot : (addressed : Bool) (q : Path ℕ) → IsPlacedPath Is q → Stands (spot p call addressed q)
        by_spot addressed (path t at step) h = by_step t addressed at step h.0 h.1

        by_step : (t : ℕ) (addressed : Bool) (at : Place) (step : PathNode ℕ) → Is at → IsPlacedStep Is step
            → Stands (spot_of p call t addressed at step)
        by_step t addressed at (T.local x) i h = by_local_spot at x i
        by_step t addressed at (T.object n) i h = Runs.by_pure Is (placed (P.Block n 0))
        by_step t addressed at (T.deref e) i h = bind (by_used e h) (λ v. Runs.by_pure Is (placed (pointer_of v)))
        by_step t addressed at (T.index e x) i h =
            bind (by_used e h.0) (λ v. bind (by_used x h.1) (λ w. bind (Runs.by_memory Is) (λ m.
            bind (Runs.by_tested Is at _ i) (λ q. Runs.by_pure Is (placed (pointer_of q))))))
        by_step t addressed at (T.member (path u c (T.deref e)) n field) i h =
            bind (by_used e h.1) (λ v. by_field_through at (pointer_of v) (pos (offset_of p.records n field)) i)
        by_step t addressed at (T.member (path u c (T.index e x)) n field) i h =
            bind (by_used e h.1.0) (λ v. bind (by_used x h.1.1) (λ w. bind (Runs.by_tested Is at (as_word w) i) (λ k. by_field_through at (pointer_of v)
            (number_of (kind_of (type_at p (ty x))) k *ℤ pos (size_at p u) +ℤ pos (offset_of p.records n field)) i)))
        by_step t addressed at (T.member q n field) i h =
            bind (by_spot false q h) (λ s. by_part_of at (pos (offset_of p.records n field)) s i)
        by_step t addressed at (T.element q x) i h =
            bind (by_spot false q h.0) (λ s. bind (by_used x h.1) (λ v. bind (Runs.by_tested Is at (as_word v) i) (λ k.
            by_element_of at (length_of (type_at p (path_ty q))) (size_at p t) addressed s (number_of (kind_of (type_at p (ty x))) k) i)))
