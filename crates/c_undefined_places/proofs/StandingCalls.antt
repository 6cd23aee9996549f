-- An undefined step of a run stands at a place in the body of a function, where the program has a `main` with a body.
use Rattle.std.proofs.Common.{◌≡◌, refl, sym, subst, ℕ, zero, suc, ◌+◌, Bool, List, [], ◌∷◌, length, Option, Some, None, slice_get}
use Rattle.std.proofs.lemmas.List.Elements.{recursion_from_All}
use Rattle.std.specs.Prelude.{IfSome}
use Rattle.std.specs.List.{AllByRecursion}
use Rattle.lay_base.specs.declared.faults.UndefinedKind.{UndefinedKind}
use Rattle.lay_base.specs.declared.faults.UndefinedKind.TheVariants as K
use Rattle.lay_base.specs.declared.place.Place.{Place}
use Rattle.c_typed.specs.declared.program.Local.{Local}
use Rattle.c_typed.specs.Trees.{Statement}
use Rattle.c_typed.specs.Programs.{ProgramData, FunctionData}
use Rattle.memory_words.specs.declared.cell_words.pointer.Ptr.TheVariants as P
use Rattle.block_memory.specs.RunWorlds.Doing.{Doing}
use Rattle.block_memory.specs.RunWorlds.Events.{entered}
use Rattle.block_memory.specs.RunWorlds.Worlds.{World, End, ends, goes_on, undefined, out_of_room}
use Rattle.block_memory.specs.declared.run_worlds.value.Value.{Value}
use Rattle.block_memory.specs.declared.run_worlds.value.Value.TheVariants.{Word as word, Pointer as pointer}
use Rattle.c_meaning.specs.Frames.{Frame, frame_of}
use Rattle.c_meaning.specs.declared.frame.Slot.{Slot}
use Rattle.c_meaning.specs.declared.frame.Slot.TheVariants.{ByName as by_name, InBlock as in_block}
use Rattle.c_meaning.specs.Program.{access_at, all_locals}
use Rattle.c_meaning.specs.Run.{result_of, received, receive, numbers, body_of, ending, function_of, called, end_by, place_of, main_place, start, no_place}
use Rattle.c_meaning.specs.Run.{run_of, was_undefined, seen}
use Rattle.c_undefined_places.specs.Placed.{IsPlacedStatement, IsPlacedFunction, FunctionsArePlaced}
use Rattle.c_undefined_places.proofs.Standing as Runs
use Rattle.c_undefined_places.proofs.StandingExpressions as Expressions
use Rattle.c_undefined_places.proofs.StandingExpressions.{Calls}
use Rattle.c_undefined_places.proofs.StandingStatements as Statements

pub each_at : {A : Type 0} (Q : A → Type 0) (all : List A) → AllByRecursion Q all → (k : ℕ) (x : A) → slice_get all k ≡ Some x → Q x
each_at Q [] h k x e = cc
each_at Q (y ∷ all) h zero x e = let is : y ≡ x = cc in subst Q is h.0
each_at Q (y ∷ all) h (suc k) x e = each_at Q all h.1 k x e

module _ (Is : Place → Type 0) (p : ProgramData) (placed : FunctionsArePlaced Is p) where
  abbrev HasPlacedBody : FunctionData → Type 0
  HasPlacedBody g = IfSome g.body (IsPlacedStatement Is)

  function_placed : (f : ℕ) (g : FunctionData) → slice_get p.functions f ≡ Some g → IsPlacedFunction Is g
  function_placed f g e = each_at (IsPlacedFunction Is) p.functions (recursion_from_All (IsPlacedFunction Is) p.functions placed) f g e

  body_placed : (f : ℕ) (g : FunctionData) → slice_get p.functions f ≡ Some g → HasPlacedBody g
  body_placed f g e = (function_placed f g e).1

  -- ---- parameters

  by_received : (place : Place) (x type : ℕ) (v : Value) (s : Option Slot) → Is place → Expressions.Stands Is (received p place x type v s)
  by_received place x type v (Some (in_block (Some b))) i = Runs.by_store Is place (P.Block b 0) (access_at p type) v i
  by_received place x type v (Some (in_block None)) i = Expressions.by_with_slot Is x (by_name (Some v))
  by_received place x type v (Some (by_name w)) i = Expressions.by_with_slot Is x (by_name (Some v))
  by_received place x type v None i = Expressions.by_with_slot Is x (by_name (Some v))

  by_receive : (place : Place) (x : ℕ) (locals : List Local) (values : List Value) → Is place → Expressions.Stands Is (receive p place x locals values)
  by_receive place x [] values i = Runs.by_pure Is tt
  by_receive place x (l ∷ more) [] i = Runs.by_pure Is tt
  by_receive place x (l ∷ more) (v ∷ rest) i =
      Runs.bind Is (Runs.bind Is (Statements.by_begin Is p x (Some l))
      (λ a. Runs.bind Is (Expressions.by_slot_now Is x) (λ s. by_received place x l.ty v s i)))
      (λ a. by_receive place (x + 1) more rest i)

  -- where there is no argument, the place of the call is not asked
  by_none : (place : Place) (x : ℕ) (locals : List Local) → Expressions.Stands Is (receive p place x locals [])
  by_none place x [] = Runs.by_pure Is tt
  by_none place x (l ∷ more) = Runs.by_pure Is tt

  -- ---- functions

  abbrev AreStanding : Calls → Type 0
  AreStanding call = (place : Place) → Is place → (f : ℕ) (values : List Value) → Expressions.Stands Is (call place f values)

  by_body : (call : Calls) → AreStanding call → (n : ℕ) (place : Place) (f : ℕ) (values : List Value) (g : FunctionData) (body : Statement ℕ)
      → IsPlacedStatement Is body → Expressions.Stands Is (receive p place 0 g.parameters values)
      → Expressions.Stands Is (body_of p call n place f values g (Some body))
  by_body call calls n place f values g body h r =
      Runs.bind Is r (λ a. Runs.bind Is (Statements.by_execute Is p call calls n f (all_locals g) 0 body h)
      (λ way. Runs.bind Is (Statements.by_finish_all Is p (numbers (length g.parameters))) (λ c. Runs.by_pure Is (result_of p f way))))

  by_body_if_any : (call : Calls) → AreStanding call → (n : ℕ) (place : Place) (f : ℕ) (values : List Value) (g : FunctionData)
      (body : Option (Statement ℕ)) → Is place → IfSome body (IsPlacedStatement Is) → Expressions.Stands Is (body_of p call n place f values g body)
  by_body_if_any call calls n place f values g None i h = Runs.by_undefined Is K.Call place i
  by_body_if_any call calls n place f values g (Some body) i h = by_body call calls n place f values g body h (by_receive place 0 g.parameters values i)

  by_ending : {m : Doing Frame (Option Value)} → Expressions.Stands Is m → Expressions.Stands Is (ending p m)
  by_ending one =
      Runs.bind Is one (λ v. Runs.bind Is (Runs.bind Is (Runs.by_own Is (λ f. f) (λ f. f)) (λ f. Statements.by_end_all Is f)) (λ a. Runs.by_pure Is v))

  by_entered : (call : Calls) (n : ℕ) (place : Place) (f : ℕ) (values : List Value) (g : FunctionData)
      → Expressions.Stands Is (body_of p call n place f values g g.body) → Expressions.Stands Is (function_of p call n place f values (Some g))
  by_entered call n place f values g one =
      Runs.bind Is (Runs.bind Is (Runs.by_turn Is) (λ a. Runs.bind Is (Runs.by_deeper Is) (λ a. Runs.by_note Is (entered f))))
      (λ a. Runs.bind Is (Runs.by_apart Is (frame_of p g) (by_ending one)) (λ v. Runs.bind Is (Runs.by_leave Is) (λ a. Runs.by_pure Is v)))

  by_function : (call : Calls) → AreStanding call → (n : ℕ) (place : Place) (f : ℕ) (values : List Value) (g : Option FunctionData)
      → Is place → IfSome g HasPlacedBody → Expressions.Stands Is (function_of p call n place f values g)
  by_function call calls n place f values None i h = Runs.by_undefined Is K.Call place i
  by_function call calls n place f values (Some g) i h = by_entered call n place f values g (by_body_if_any call calls n place f values g g.body i h)

  if_function : (f : ℕ) (g : Option FunctionData) → slice_get p.functions f ≡ g → IfSome g HasPlacedBody
  if_function f None e = tt
  if_function f (Some g) e = body_placed f g e

  by_called : (n : ℕ) → AreStanding (called p n)
  by_called zero place i f values = Runs.by_stop Is
  by_called (suc n) place i f values =
      by_function (called p n) (by_called n) n place f values (slice_get p.functions f) i (if_function f (slice_get p.functions f) refl)

  -- ---- the run

  module _ (g : FunctionData) (body : Statement ℕ) (there : slice_get p.functions p.main ≡ Some g) (has : g.body ≡ Some body) where
    by_main : (n : ℕ) → Expressions.Stands Is (called p n (no_place p) p.main [])
    by_main zero = Runs.by_stop Is
    by_main (suc n) =
        let call = called p n in
        let own = subst (λ o. IfSome o (IsPlacedStatement Is)) has (body_placed p.main g there) in
        let one = by_body call (by_called n) n (no_place p) p.main [] g body own (by_none (no_place p) 0 g.parameters) in
        let whole = by_entered call n (no_place p) p.main [] g
        (subst (λ o. Expressions.Stands Is (body_of p call n (no_place p) p.main [] g o)) (sym has) one) in
        subst (λ o. Expressions.Stands Is (function_of p call n (no_place p) p.main [] o)) (sym there) whole

    main_stands : Is (main_place p)
    main_stands = subst (λ o. Is (place_of p o)) (sym there) (function_placed p.main g there).0

    by_end : (v : Option Value) (w : World) → Runs.EndsAt Is (end_by (main_place p) v w)
    by_end None w = main_stands
    by_end (Some (word v)) w = tt
    by_end (Some (pointer q)) w = main_stands

    run_ends : (input : List ℕ) (turns : ℕ) (limited : Bool) → Runs.EndsAt Is (run_of p input turns limited)
    run_ends input turns limited =
        (by_main (turns + 1)).stands (λ v f w. end_by (main_place p) v w) [] (start p input turns limited) (λ v f w. by_end v w)

    of_end : (e : End) (kind : UndefinedKind) (place : Place) (output rest : List ℕ) → Runs.EndsAt Is e
        → seen e ≡ was_undefined kind place output rest → Is place
    of_end (ends status w) kind place output rest h e = cc
    of_end (goes_on w) kind place output rest h e = cc
    of_end (out_of_room what counted w) kind place output rest h e = cc
    of_end (undefined own at w) kind place output rest h e = let is : at ≡ place = cc in subst Is is h

    pub undefined_at : (input : List ℕ) (turns : ℕ) (limited : Bool) (kind : UndefinedKind) (place : Place) (output rest : List ℕ)
        → seen (run_of p input turns limited) ≡ was_undefined kind place output rest → Is place
    undefined_at input turns limited kind place output rest e =
        of_end (run_of p input turns limited) kind place output rest (run_ends input turns limited) e
