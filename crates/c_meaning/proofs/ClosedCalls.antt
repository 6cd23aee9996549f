-- What two calls of one function do is related where the numbers that bound them may.
use Rattle.std.proofs.Common.{ℕ, zero, suc, ◌+◌, List, [], ◌∷◌, length, Option, Some, None, slice_get}
use Rattle.lay_base.specs.declared.faults.UndefinedKind.TheVariants as K
use Rattle.lay_base.specs.declared.place.Place.{Place}
use Rattle.c_typed.specs.declared.program.Local.{Local}
use Rattle.c_typed.specs.Trees.{Statement}
use Rattle.c_typed.specs.Programs.{ProgramData, FunctionData}
use Rattle.memory_words.specs.declared.cell_words.pointer.Ptr.TheVariants as P
use Rattle.block_memory.specs.RunWorlds.Doing.{Doing}
use Rattle.block_memory.specs.RunWorlds.Events.{entered}
use Rattle.block_memory.specs.declared.run_worlds.value.Value.{Value}
use Rattle.c_meaning.specs.Frames.{Frame, frame_of}
use Rattle.c_meaning.specs.declared.frame.Slot.{Slot}
use Rattle.c_meaning.specs.declared.frame.Slot.TheVariants.{ByName as by_name, InBlock as in_block}
use Rattle.c_meaning.specs.Program.{access_at, all_locals}
use Rattle.c_meaning.specs.Run.{result_of, received, receive, numbers, body_of, ending, function_of, called}
use Rattle.c_meaning.proofs.Closed.{Relation}
use Rattle.c_meaning.proofs.ClosedRuns as Runs
use Rattle.c_meaning.proofs.ClosedExpressions as Expressions
use Rattle.c_meaning.proofs.ClosedExpressions.{Calls}
use Rattle.c_meaning.proofs.ClosedStatements as Statements
use Rattle.c_meaning.proofs.ClosedStatements.{Under}

module _ (r : Relation) (p : ProgramData) where
  by_received : (place : Place) (x type : ℕ) (v : Value) (s : Option Slot) → Runs.Itself r Frame (Unit {0}) (received p place x type v s)
  by_received place x type v (Some (in_block (Some b))) = Runs.by_store r place (P.Block b 0) (access_at p type) v
  by_received place x type v (Some (in_block None)) = Expressions.by_with_slot r x (by_name (Some v))
  by_received place x type v (Some (by_name w)) = Expressions.by_with_slot r x (by_name (Some v))
  by_received place x type v None = Expressions.by_with_slot r x (by_name (Some v))

  pub by_receive : (place : Place) (x : ℕ) (locals : List Local) (values : List Value) → Runs.Itself r Frame (Unit {0}) (receive p place x locals values)
  by_receive place x [] values = Runs.by_pure r tt
  by_receive place x (l ∷ more) [] = Runs.by_pure r tt
  by_receive place x (l ∷ more) (v ∷ rest) =
      Runs.by_bind r (Runs.by_bind r (Statements.by_begin r p x (Some l)) (λ a. Runs.by_bind r (Expressions.by_slot_now r x) (by_received place x l.ty v)))
      (λ a. by_receive place (x + 1) more rest)

  -- calls, where n and m bound them
  abbrev Calling : (n m : ℕ) (call call' : Calls) → Type 0
  Calling n m call call' =
      (b : ℕ) → r.Fuels b n m → (place : Place) (f : ℕ) (values : List Value) → r.Related b Frame (Option Value) (call place f values) (call' place f values)

  body_alike : (call call' : Calls) (n m : ℕ) → Calling n m call call'
      → (place : Place) (f : ℕ) (values : List Value) (g : FunctionData) (body : Option (Statement ℕ))
      → Under r n m (Option Value) (body_of p call n place f values g body) (body_of p call' m place f values g body)
  body_alike call call' n m calls place f values g None b h = Runs.by_undefined r K.Call place b
  body_alike call call' n m calls place f values g (Some body) b h =
      Runs.bind r (by_receive place 0 g.parameters values b) (λ a. Runs.bind r (Statements.execute_alike r p call call' n m calls f (all_locals g) 0 body b h) (λ way.
      Runs.bind r (Statements.by_finish_all r p (numbers (length g.parameters)) b) (λ c. r.on_pure b _ _ (result_of p f way))))

  ending_alike : (b : ℕ) {m m' : Doing Frame (Option Value)} → r.Related b Frame (Option Value) m m' → r.Related b Frame (Option Value) (ending p m) (ending p m')
  ending_alike b one = Runs.bind r one (λ v. Runs.bind r (Runs.bind r (Runs.by_own r (λ f. f) (λ f. f) b) (λ f. Statements.by_end_all r f b)) (λ a. r.on_pure b _ _ v))

  function_alike : (call call' : Calls) (n m : ℕ) → Calling n m call call' → (place : Place) (f : ℕ) (values : List Value) (g : Option FunctionData)
      (b : ℕ) → r.Fuels b (suc n) (suc m) → r.Related b Frame (Option Value) (function_of p call n place f values g) (function_of p call' m place f values g)
  function_alike call call' n m calls place f values None b h = Runs.by_undefined r K.Call place b
  function_alike call call' n m calls place f values (Some g) b h =
      r.on_turn b n m _ _ _ _ h (λ c k. Runs.bind r (r.on_deeper c _) (λ a. Runs.bind r (Runs.by_note r (entered f) c) (λ a.
      Runs.bind r (r.on_apart c _ _ (frame_of p g) _ _ (ending_alike c (body_alike call call' n m calls place f values g g.body c k))) (λ v.
      Runs.bind r (r.on_leave c _) (λ a. r.on_pure c _ _ v)))))

  -- the theorem
  pub called_alike : (n m : ℕ) → Calling n m (called p n) (called p m)
  called_alike zero zero b h place f values = r.on_none b _ _ h
  called_alike zero (suc m) b h place f values = absurd (r.not_left b m h)
  called_alike (suc n) zero b h place f values = absurd (r.not_right b n h)
  called_alike (suc n) (suc m) b h place f values = function_alike (called p n) (called p m) n m (called_alike n m) place f values (slice_get p.functions f) b h
