-- Steps that lead to the next one keep what a run stands on.
use Rattle.std.proofs.Common.{◌≡◌, refl, ℕ, ◌*◌, Bool, true, false, if◌then◌else◌, List, [], ◌∷◌, Option, Some, None, Result, Ok, Err}
use Rattle.std.specs.Prelude.{ℤ, ◌%◌, ◌^◌}
use Rattle.lay_base.specs.declared.place.Place.{Place}
use Rattle.c_typed.specs.declared.operators.LibraryFunction.{LibraryFunction}
use Rattle.c_typed.specs.declared.operators.LibraryFunction.TheVariants as L
use Rattle.memory_words.specs.declared.cell_words.pointer.Ptr.TheVariants as P
use Rattle.block_memory.specs.Tested.{Tested}
use Rattle.block_memory.specs.declared.run_worlds.value.Value.{Value}
use Rattle.c_meaning.specs.declared.frame.Slot.{Slot}
use Rattle.c_meaning.specs.declared.frame.Slot.TheVariants.{ByName as by_name, InBlock as in_block}
use Rattle.source_state.specs.Steps.Cores.{Core}
use Rattle.source_state.specs.declared.ends.Final.{Final}
use Rattle.source_state.specs.declared.ends.Moved.{Moved}
use Rattle.source_state.specs.declared.ends.Moved.TheVariants.{Puts, Over}
use Rattle.tac_engine.specs.States.{State, Moves, changing, finding, found, given, goes, in_core, part, putting, putting_any, through, with_core}
use Rattle.tac_engine.specs.States.{with_found, put_slot, undefined}
use Rattle.tac_engine.specs.Steps.{copied, inside, library, made, written}
use Rattle.tac_engine.proofs.Stays as Stays
use Rattle.lay_base.specs.declared.faults.UndefinedKind.TheVariants as K
use Rattle.block_memory.specs.RunWorlds.Scalars.{as_pointer, as_word, pointer_of}
use Rattle.c_meaning.specs.Expressions.{field_in, part_in}
use Rattle.source_state.specs.Steps.Memories.{allocate, compare, copy, fill, free, zeroed}
use Rattle.block_memory.specs.declared.run_worlds.value.Value.TheVariants.{Word as word, Pointer as pointer}
use Rattle.source_state.specs.declared.ends.Final.TheVariants.{Ends, Undefined}

module _ (sizes : ℕ → ℕ) (s : State) where
  pub record Plain (new : State) : Type 0 where
    pub code_is : new.code ≡ s.code
    pub callers : new.callers ≡ s.callers
    pub routine : new.routine ≡ s.routine
    pub more : new.more ≡ s.more
    pub core : Stays.Stays sizes s.core new.core

  abbrev pub PlainBy : Moved → State → Type 0
  PlainBy (Over end) new = Unit {0}
  PlainBy moved new = Plain new

  pub record PlainTo (m : Moves) : Type 0 where
    pub is : PlainBy m.0 m.1

  pub plain_core : (c : Core) → Stays.Stays sizes s.core c → Plain (with_core c s)
  plain_core c h = record { code_is = refl; callers = refl; routine = refl; more = refl; core = h }

  pub plain_given : (t : ℕ) (v : Option Value) → Plain (given t v s)
  plain_given t v = plain_core (put_slot t (by_name v) s.core) (Stays.stays_temp sizes t v s.core)

  pub by_put : (t : ℕ) (v : Option Value) → PlainTo (putting_any t v s)
  by_put t v = record { is = plain_given t v }

  over : (end : Final) (new : State) → PlainTo (Over end, new)
  over end new = record { is = tt }

  pub plain_same : Plain s
  plain_same = plain_core s.core (Stays.stays_same sizes s.core)

  pub by_found : {A : Type 0} (r : Result A Final) (next : A → Moves) → ((x : A) → PlainTo (next x)) → PlainTo (with_found r s next)
  by_found (Ok x) next h = h x
  by_found (Err end) next h = over end s

  pub by_finding : {A : Type 0} (at : Place) (r : Tested A) (next : A → Moves) → ((x : A) → PlainTo (next x)) → PlainTo (finding at r s next)
  by_finding at (Ok x) next h = h x
  by_finding at (Err kind) next h = over (Undefined kind at) s

  pub by_value : (t : ℕ) (at : Place) (r : Tested Value) → PlainTo (found t at r s)
  by_value t at r = by_finding at r (λ v. putting t v s) (λ v. by_put t (Some v))

  pub by_change : (at : Place) (r : Tested Core) (next : State → Moves) → Stays.StaysIf sizes s.core r
      → ((c : Core) → Stays.Stays sizes s.core c → PlainTo (next (with_core c s))) → PlainTo (changing at r s next)
  by_change at (Ok c) next h k = k c h
  by_change at (Err kind) next h k = over (Undefined kind at) s

  pub by_doing : {A : Type 0} (r : Result A Final) (c : Core) (next : A → State → Moves) → Stays.StaysWhere sizes s.core r c
      → ((x : A) → Stays.Stays sizes s.core c → PlainTo (next x (with_core c s))) → PlainTo (in_core r c s next)
  by_doing (Ok x) c next h k = k x h
  by_doing (Err end) c next h k = over end (with_core c s)

  -- a value behind another change
  then_put : (c : Core) (t : ℕ) (v : Option Value) → Stays.Stays sizes s.core c → PlainTo (putting_any t v (with_core c s))
  then_put c t v h = record { is = plain_core (put_slot t (by_name v) c) (Stays.stays_then sizes h (Stays.stays_temp sizes t v c)) }

  pub by_core : (c : Core) → Stays.Stays sizes s.core c → PlainTo (goes (with_core c s))
  by_core c h = record { is = plain_core c h }

  -- ---- places, allocations and the library

  pub by_through : (t : ℕ) (at : Place) (v : Value) (by : ℤ) → PlainTo (through t at v by s)
  by_through t at v by =
      by_finding at (field_in s.core.memory (pointer_of v) by) (λ q. putting t (pointer q) s) (λ q. by_put t (Some (pointer q)))

  pub by_part : (t : ℕ) (at : Place) (by : ℤ) (v : Value) → PlainTo (part t at by v s)
  by_part t at by v =
      by_finding at (part_in s.core.memory (pointer_of v) by) (λ q. putting t (pointer q) s) (λ q. by_put t (Some (pointer q)))

  pub by_element : (test : Bool) (t : ℕ) (at : Place) (by : ℤ) (v : Value) → PlainTo (if test then part t at by v s else undefined K.Subscript at s)
  by_element true t at by v = by_part t at by v
  by_element false t at by v = over (Undefined K.Subscript at) s

  pub by_inside : (t : ℕ) (at : Place) (by : ℕ) (o : Option Slot) → PlainTo (inside t at by o s)
  by_inside t at by (Some (in_block (Some b))) = by_put t (Some (pointer (P.Block b by)))
  by_inside t at by (Some (in_block None)) = over (Undefined K.Dead at) s
  by_inside t at by (Some (by_name v)) = over (Undefined K.Dead at) s
  by_inside t at by None = over (Undefined K.Dead at) s

  pub by_written : (change : (b : ℕ) → Core → Core) (o : Option Slot) → ((b : ℕ) → Stays.Stays sizes s.core (change b s.core)) → PlainTo (written change o s)
  by_written change (Some (in_block (Some b))) h = by_core (change b s.core) (h b)
  by_written change (Some (in_block None)) h = record { is = plain_same }
  by_written change (Some (by_name v)) h = record { is = plain_same }
  by_written change None h = record { is = plain_same }

  pub by_made : (t n : ℕ) (zeroed : Bool) → PlainTo (made t n zeroed s)
  by_made t n zeroed = let d = allocate n zeroed s.core in
      by_doing d.0 d.1 (λ v s. putting t v s) (Stays.stays_allocate sizes n zeroed s.core) (λ v h. then_put d.1 t (Some v) h)

  pub by_allocated : (test : Bool) (t : ℕ) (at : Place) (n : ℕ) (zeroed : Bool) → PlainTo (if test then made t n zeroed s else undefined K.Huge at s)
  by_allocated true t at n zeroed = by_made t n zeroed
  by_allocated false t at n zeroed = over (Undefined K.Huge at) s

  pub by_copied : (t : ℕ) (at : Place) (to from count : Value) (overlap : Bool) → PlainTo (copied t at to from count overlap s)
  by_copied t at to from count overlap =
      by_finding at (as_pointer to) _ (λ p. by_finding at (as_pointer from) _ (λ q. by_finding at (as_word count) _ (λ n.
      by_change at (copy p q n overlap s.core) (λ s. putting t (pointer p) s) (Stays.stays_copy sizes p q n overlap s.core)
      (λ c h. then_put c t (Some (pointer p)) h))))

  pub by_library : (t : ℕ) (at : Place) (which : LibraryFunction) (all : List Value) → PlainTo (library t at which all s)
  by_library t at L.Malloc [] = over (Undefined K.Call at) s
  by_library t at L.Malloc (v ∷ []) = by_finding at (as_word v) _ (λ n. by_made t n false)
  by_library t at L.Malloc (v ∷ w ∷ more) = over (Undefined K.Call at) s
  by_library t at L.Calloc [] = over (Undefined K.Call at) s
  by_library t at L.Calloc (v ∷ []) = over (Undefined K.Call at) s
  by_library t at L.Calloc (v ∷ w ∷ []) = by_finding at (as_word v) _ (λ n. by_finding at (as_word w) _ (λ k. by_made t (n * k) true))
  by_library t at L.Calloc (v ∷ w ∷ x ∷ more) = over (Undefined K.Call at) s
  by_library t at L.Free [] = over (Undefined K.Call at) s
  by_library t at L.Free (v ∷ []) = by_finding at (as_pointer v) _ (λ p.
      by_change at (free p s.core) (λ s. putting_any t None s) (Stays.stays_free sizes p s.core) (λ c h. then_put c t None h))
  by_library t at L.Free (v ∷ w ∷ more) = over (Undefined K.Call at) s
  by_library t at L.Memcpy [] = over (Undefined K.Call at) s
  by_library t at L.Memcpy (v ∷ []) = over (Undefined K.Call at) s
  by_library t at L.Memcpy (v ∷ w ∷ []) = over (Undefined K.Call at) s
  by_library t at L.Memcpy (v ∷ w ∷ x ∷ []) = by_copied t at v w x false
  by_library t at L.Memcpy (v ∷ w ∷ x ∷ y ∷ more) = over (Undefined K.Call at) s
  by_library t at L.Memmove [] = over (Undefined K.Call at) s
  by_library t at L.Memmove (v ∷ []) = over (Undefined K.Call at) s
  by_library t at L.Memmove (v ∷ w ∷ []) = over (Undefined K.Call at) s
  by_library t at L.Memmove (v ∷ w ∷ x ∷ []) = by_copied t at v w x true
  by_library t at L.Memmove (v ∷ w ∷ x ∷ y ∷ more) = over (Undefined K.Call at) s
  by_library t at L.Memset [] = over (Undefined K.Call at) s
  by_library t at L.Memset (v ∷ []) = over (Undefined K.Call at) s
  by_library t at L.Memset (v ∷ w ∷ []) = over (Undefined K.Call at) s
  by_library t at L.Memset (v ∷ w ∷ x ∷ []) =
      by_finding at (as_pointer v) _ (λ p. by_finding at (as_word w) _ (λ byte. by_finding at (as_word x) _ (λ n.
      by_change at (fill p byte n s.core) (λ s. putting t (pointer p) s) (Stays.stays_fill sizes p byte n s.core) (λ c h. then_put c t (Some (pointer p)) h))))
  by_library t at L.Memset (v ∷ w ∷ x ∷ y ∷ more) = over (Undefined K.Call at) s
  by_library t at L.Memcmp [] = over (Undefined K.Call at) s
  by_library t at L.Memcmp (v ∷ []) = over (Undefined K.Call at) s
  by_library t at L.Memcmp (v ∷ w ∷ []) = over (Undefined K.Call at) s
  by_library t at L.Memcmp (v ∷ w ∷ x ∷ []) = by_finding at (as_pointer v) _ (λ p. by_finding at (as_pointer w) _ (λ q. by_finding at (as_word x) _ (λ n.
      by_value t at (compare p q n s.core))))
  by_library t at L.Memcmp (v ∷ w ∷ x ∷ y ∷ more) = over (Undefined K.Call at) s
  by_library t at L.Putchar [] = over (Undefined K.Call at) s
  by_library t at L.Putchar (v ∷ []) = by_finding at (as_word v) (λ n. (Puts (n % 2 ^ 8), given t (Some (word (n % 2 ^ 8))) s)) (λ n. record { is = plain_given t (Some (word (n % 2 ^ 8))) })
  by_library t at L.Putchar (v ∷ w ∷ more) = over (Undefined K.Call at) s
  by_library t at L.Getchar [] = record { is = record { code_is = refl; callers = refl; routine = refl; more = refl; core = Stays.stays_same sizes s.core } }
  by_library t at L.Getchar (v ∷ more) = over (Undefined K.Call at) s
  by_library t at L.Exit [] = over (Undefined K.Call at) s
  by_library t at L.Exit (v ∷ []) = by_finding at (as_word v) (λ n. (Over (Ends (n % 2 ^ 8)), s)) (λ n. over (Ends (n % 2 ^ 8)) s)
  by_library t at L.Exit (v ∷ w ∷ more) = over (Undefined K.Call at) s
