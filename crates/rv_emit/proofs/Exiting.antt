-- Calls of `exit`, and returns of what a temporary holds.
use Rattle.std.proofs.Common.{◌≡◌, ℕ, ◌+◌, ◌*◌, ◌/◌, ◌%◌, ◌^◌, ◌<◌, inl, inr, Bool, true, false, cond, List, [], ◌∷◌, ◌++◌, length, Option, Some, None}
use Rattle.std.proofs.Common.{slice_get, slice_index, refl, ap, sym, ◌∙◌, subst, arith, append_assoc}
use Rattle.lay_base.specs.declared.faults.UndefinedKind.TheVariants as K
use Rattle.lay_base.specs.declared.place.Place.{Place}
use Rattle.c_typed.specs.declared.operators.LibraryFunction.TheVariants as L
use Rattle.block_memory.specs.RunWorlds.Doing.{less_deep}
use Rattle.block_memory.specs.RunWorlds.Events as E
use Rattle.block_memory.specs.RunWorlds.LibraryCalls.{library}
use Rattle.block_memory.specs.RunWorlds.Scalars.{as_word}
use Rattle.block_memory.specs.RunWorlds.Worlds.{End, ends}
use Rattle.block_memory.specs.declared.run_worlds.value.Value.{Value}
use Rattle.c_meaning.specs.Frames.{end_all}
use Rattle.c_meaning.specs.declared.frame.Slot.{Slot}
use Rattle.c_meaning.specs.declared.frame.Slot.TheVariants.{ByName as by_name, InBlock as in_block}
use Rattle.rv_isa.specs.declared.instruction.Inst.{Inst}
use Rattle.rv_isa.specs.declared.instruction.Inst.TheVariants.{Jalr}
use Rattle.rv_isa.specs.Arithmetic.{plus}
use Rattle.rv_isa.specs.Memory.{word_at}
use Rattle.rv_isa.specs.Step.{Ends, Exits, register}
use Rattle.rv_runtime.specs.Steps.States.{at, put}
use Rattle.rv_runtime.proofs.Steps.Registers.{register_is}
use Rattle.rv_runtime.proofs.Steps.Steps.{by_enter}
use Rattle.rv_runtime.specs.Routines.{exit_entry}
use Rattle.rv_runtime.proofs.Working.{exit_ends}
use Rattle.rv_code.specs.Code.{is_block, one_code, return_code, steps_code, temporary_code}
use Rattle.rv_code.specs.Frames.{slot_at, slots}
use Rattle.rv_code.specs.Words.{address_code, fetch_code, jump_code, lower, upper}
use Rattle.tac_ir.specs.Running.{Next, put_any, returns, value_in}
use Rattle.tac_ir.specs.declared.step.Row.{Row}
use Rattle.tac_ir.specs.declared.step.Step.TheVariants as S
use Rattle.rv_emit.specs.Maps.{Means}
use Rattle.rv_emit.specs.Grounds.{Ground}
use Rattle.rv_emit.specs.Relation.{Program, Moment, Point, Ready, Here, IsBuilt}
use Rattle.rv_emit.specs.Claims.{AreClaims, Claims, Follows, state}
use Rattle.rv_emit.proofs.Calling.{leads_back}
use Rattle.rv_emit.proofs.Giving.{slot_place}
use Rattle.rv_emit.proofs.Moves.{by_address, by_fetch, by_lui, code_front, number_value, parts}
use Rattle.rv_emit.proofs.Plain.{Works, aim}
use Rattle.rv_emit.proofs.Ranging.{number_is}
use Rattle.rv_emit.proofs.Returning.{returned_from}
use Rattle.rv_emit.proofs.Rows.{HasRow, by_argument, by_row, open_at}
use Rattle.rv_emit.proofs.Values.{by_tested, get_temporary, moved, with_register}

module _ (ground : Ground) (p : Program) (built : IsBuilt ground p) (Claim : Claims) (claims : AreClaims ground p Claim) (next : Next)
    (follows : Follows ground p Claim next) (m : Moment) (q : Point) (ready : Ready ground p m q) where
  pub exit_works : (t : ℕ) (at : Place) (all : Row) → Works ground p built Claim claims next m q (S.Library t at L.Exit all)
  exit_works t at' all code fits =
      by_row ground p built Claim claims at' all.first all.count _ m.frame m.w m.w.turns q by_list
    where
      by_list : (vs : List Value) → HasRow m.frame all.first vs → length vs ≡ all.count
          → Claim (library at' L.Exit vs (λ v. put_any t v (λ u. next m.callers m.g m.more)) m.frame m.w) m.w.turns (state q) q.before
      by_list [] row long = claims.undefined K.Call at' m.w m.w.turns (state q) q.before
      by_list (v ∷ u ∷ vs) row long = claims.undefined K.Call at' m.w m.w.turns (state q) q.before
      by_list (v ∷ []) row long =
          let one = one_code all.first in
          let jump = jump_code exit_entry in
          let rest = steps_code p.places m.g m.l m.more in
          let world = ready.world in
          by_tested ground p built Claim claims (as_word v) at' _ m.frame m.w m.w.turns q
          λ k is.
          let e = ends (k % 2 ^ 8) m.w in
          by_argument ground p built Claim claims m q ready e m.w.turns 10 all.first v (jump ++ rest) (omega arith) (omega arith) row.0
          (open_at ground m all fits.row 0 all.first (omega (arith, long)) (omega arith)) (subst (Here ground p q.pc) (append_assoc one jump rest) code)
          λ x means small ready_x code_x.
          let q1 = with_register q 10 x one in
          let goal = aim ground p built Claim claims e m.w.turns q1 in
          let f1 = put q1.f 5 (upper exit_entry * 2 ^ 12) in
          let s = at f1 (q1.pc + 4) q.memory q.input q.output in
          let to = plus (register s 5) (lower exit_entry) / 2 * 2 in
          let same : to ≡ exit_entry = ap (λ (z : ℕ). plus z (lower exit_entry) / 2 * 2) (register_is f1 5 (omega arith))
          ∙ ap (λ (z : ℕ). z / 2 * 2) (number_value exit_entry) ∙ omega arith in
          let over = exit_ends ground.segments ground.text q.memory q.input q.output f1 ground.runtime world.keeps ready.nil in
          by_lui ground goal q1.f q1.pc q.memory world.keeps ready_x.code 5 (upper exit_entry) code_x.0 (omega arith)
          (goal.claim.fewer goal.n s goal.before
          (by_enter ground.segments ground.text goal.Claim goal.claim f1 (q1.pc + 4) q.memory q.input q.output world.keeps (omega (arith, ready_x.code)) goal.n goal.before []
          (Jalr 0 5 (lower exit_entry)) f1 to exit_entry code_x.1.0 refl refl same refl refl
          (leads_back ground goal (at f1 exit_entry q.memory q.input q.output) (at (put f1 17 93) (exit_entry + 4) q.memory q.input q.output) [] over.0
          (claims.exits m.blocks (k % 2 ^ 8) m.w m.w.turns (at (put f1 17 93) (exit_entry + 4) q.memory q.input q.output) q.before
          (over.1 ∙ ap (λ (z : ℕ). Ends (Exits (z % 2 ^ 8))) (sym (number_is ground p built Claim claims next follows m v k x is means)))
          world.output_is world.input_is world.made))))

  -- ---- what a temporary holds is returned, or nothing

  any_in : (e : End) (n t : ℕ) (b : Bool) (tail : List Inst) → t < slots m.g
      → Here ground p q.pc (cond b (address_code 10 2 (slice_index m.l.blocks t)) (fetch_code 10 2 (slot_at t)) ++ tail)
      → ((x : ℕ) → Claim e n (state (with_register q 10 x (cond b (address_code 10 2 (slice_index m.l.blocks t)) (fetch_code 10 2 (slot_at t))))) q.before)
      → Claim e n (state q) q.before
  any_in e n t true tail lt code c =
      let offset = slice_index m.l.blocks t in
      let a = (q.f 2 + offset) % 2 ^ 32 in
      by_address ground (aim ground p built Claim claims e n q) q.f q.pc q.memory ready.world.keeps ready.code 10 2 offset a (omega arith) (omega arith) (omega arith)
      (λ d. omega arith) (code_front ground q.pc (address_code 10 2 offset) tail code) refl (c a)
  any_in e n t false tail lt code c =
      let place = slot_place ground p m q ready t lt in
      let a = m.sp + slot_at t in
      by_fetch ground (aim ground p built Claim claims e n q) q.f q.pc q.memory ready.world.keeps ready.code 10 2 (slot_at t) a (omega arith) (omega arith) (omega arith)
      (λ d. omega arith) (code_front ground q.pc (fetch_code 10 2 (slot_at t)) tail code) place.is place.whole (ground.read a 4 (inr (inl (place.low, place.high))))
      (ground.quiet_load a 4 (omega (arith, place.high, ground.stack_end))) (c (word_at q.memory a))

  abbrev Left : Option Value → Type 0
  Left v = Claim (end_all m.frame (λ u own w. returns p.types p.code next m.callers v (record w { depth = less_deep w.depth; trace = E.left ∷ w.trace })) m.frame m.w)
      m.w.turns (state q) q.before

  pub return_held_works : (t : ℕ) → Works ground p built Claim claims next m q (S.ReturnHeld t)
  return_held_works t code fits = by_slot (slice_get m.frame t) refl
    where
      nothing : Left None
      nothing =
          let get = temporary_code m.g m.l 10 t in
          let rest = steps_code p.places m.g m.l m.more in
          let d = parts ground q.pc get (return_code m.l) rest code in
          any_in _ m.w.turns t (is_block m.g t) (return_code m.l ++ rest) fits.slot (subst (Here ground p q.pc) (append_assoc get (return_code m.l) rest) code)
          λ x. returned_from ground p built Claim claims next follows m (with_register q 10 x get)
          (moved ground p built Claim claims m q ready (ends 0 m.w) m.w.turns 10 (omega arith) (omega arith) x get) None x rest
          (record { small = λ u e. absurd cc; means = λ u e. absurd cc }) refl d.1

      by_slot : (o : Option Slot) → slice_get m.frame t ≡ o → Left (value_in o)
      by_slot (Some (by_name (Some v))) is =
          let get = temporary_code m.g m.l 10 t in
          let rest = steps_code p.places m.g m.l m.more in
          let d = parts ground q.pc get (return_code m.l) rest code in
          get_temporary ground p built Claim claims m q ready _ m.w.turns 10 (omega arith) (omega arith) t v (inl is) d.0
          λ x means small ready'. returned_from ground p built Claim claims next follows m (with_register q 10 x get) ready' (Some v) x rest
          (record { small = λ u e. small; means = λ u e. let k : v ≡ u = cc in subst (λ i. Means p.code p.places m.blocks i x) k means }) refl d.1
      by_slot (Some (by_name None)) is = nothing
      by_slot (Some (in_block b)) is = nothing
      by_slot None is = nothing
