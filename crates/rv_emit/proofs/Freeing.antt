-- Calls of `free`: the block ends, and the routine does nothing.
use Rattle.std.proofs.Common.{◌≡◌, ℕ, zero, suc, ◌+◌, Bool, true, false, cond, not, eqb, ne_eqb, ◌&&◌, List, [], ◌∷◌, ◌++◌, length, Option, Some, None, Ok, Err}
use Rattle.std.proofs.Common.{slice_get, refl, ap, ◌∙◌, subst, arith, append_assoc}
use Rattle.lay_base.specs.declared.faults.UndefinedKind.TheVariants as K
use Rattle.lay_base.specs.declared.place.Place.{Place}
use Rattle.c_typed.specs.declared.operators.LibraryFunction.TheVariants as L
use Rattle.memory_words.specs.declared.cell_words.pointer.Ptr.{Ptr}
use Rattle.memory_words.specs.declared.cell_words.pointer.Ptr.TheVariants as P
use Rattle.block_memory.specs.Blocks.{Memory, is_live, kind}
use Rattle.block_memory.specs.Lifetimes.{free, is_heap, with_end}
use Rattle.block_memory.specs.RunWorlds.Events as E
use Rattle.block_memory.specs.RunWorlds.Library.{note_freed}
use Rattle.block_memory.specs.RunWorlds.LibraryCalls.{library}
use Rattle.block_memory.specs.RunWorlds.Scalars.{as_pointer}
use Rattle.block_memory.specs.RunWorlds.Worlds.{World}
use Rattle.block_memory.specs.declared.run_worlds.value.Value.{Value}
use Rattle.block_memory.specs.declared.run_worlds.value.Value.TheVariants.{Word as word, Pointer as pointer}
use Rattle.c_meaning.specs.declared.frame.Slot.TheVariants.{ByName as by_name}
use Rattle.rv_isa.specs.Memory.{word_at}
use Rattle.rv_isa.specs.Events.{MachineEvent, Release, entered, free_entry}
use Rattle.rv_runtime.specs.Steps.States.{at, later, put}
use Rattle.rv_runtime.specs.Laws.{Entered}
use Rattle.rv_runtime.proofs.Working.{routines_work}
use Rattle.rv_code.specs.Code.{one_code, steps_code}
use Rattle.rv_code.specs.Words.{call_code}
use Rattle.tac_ir.specs.Running.{Next, put_any, with_temp}
use Rattle.tac_ir.specs.declared.step.Row.{Row}
use Rattle.tac_ir.specs.declared.step.Step.TheVariants as S
use Rattle.rv_emit.specs.Maps.{Extent, Means}
use Rattle.rv_emit.specs.Grounds.{Ground}
use Rattle.rv_emit.specs.Relation.{Program, Moment, Point, Ready, Here, IsBuilt}
use Rattle.rv_emit.specs.Claims.{AreClaims, Claims, Follows, state}
use Rattle.rv_emit.proofs.Calling.{by_routine, leads_back}
use Rattle.rv_emit.proofs.Ending.{callers_fewer, fewer_without, flat_ended, framed_fewer, without, world_fewer}
use Rattle.rv_emit.proofs.Giving.{cleared, elsewhere}
use Rattle.rv_emit.proofs.Moves.{code_front}
use Rattle.rv_emit.proofs.Noting.{told}
use Rattle.rv_emit.proofs.Plain.{Takes, Works, aim, takes}
use Rattle.rv_emit.proofs.Rows.{HasRow, by_argument, by_row, open_at}
use Rattle.rv_emit.proofs.Values.{by_tested, extent_small, with_register}

module _ (ground : Ground) (p : Program) (m : Moment) (q : Point) (ready : Ready ground p m q) where
  abbrev freed_world : ℕ → World
  freed_world b = record m.w { memory = with_end m.w.memory b; trace = E.freed b ∷ m.w.trace }

  -- the block has ended, and this is told
  freed_ready : (b : ℕ) (e : Extent) → slice_get m.blocks b ≡ Some e
      → Ready ground p (record m { owner = without m.owner b; w = freed_world b }) (record q { before = Release e.at ∷ q.before })
  freed_ready b e is =
      let fewer = fewer_without m.owner b in
      let new = without m.owner b in
      let w : World = record m.w { memory = with_end m.w.memory b } in
      let m1 : Moment = record m { owner = new; w = w } in
      let ready1 : Ready ground p m1 q = record {
        nil = ready.nil;
        stack = ready.stack;
        code = ready.code;
        whole = ready.whole;
        fits = ready.fits;
        world = world_fewer ground p m.blocks m.owner new fewer q.memory m.w (with_end m.w.memory b) q.input q.output q.before
            (flat_ended ground p m.blocks m.owner m.w.memory q.memory ready.world.flat b) ready.world;
        frame = framed_fewer ground p m.blocks m.owner new fewer q.memory m.number m.g m.l m.frame m.sp ready.frame;
        callers = callers_fewer ground p m.blocks m.owner new fewer q.memory m.numbers m.callers (m.sp + m.l.size) (word_at q.memory m.sp) ready.callers;
        below = λ a low high. fewer.none a (ready.below a low high);
        runs = ready.runs;
      } in
      told ground p m1 q ready1 (freed_world b) (Release e.at ∷ q.before) refl refl refl (omega arith) refl (e, q.before, is, refl, ready1.world.made)

module _ (ground : Ground) (p : Program) (built : IsBuilt ground p) (Claim : Claims) (claims : AreClaims ground p Claim) (next : Next)
    (follows : Follows ground p Claim next) (m : Moment) where
  by_release : (q : Point) (ready : Ready ground p m q) (t : ℕ) (owner : ℕ → Option ℕ) (w : World) (made : List MachineEvent)
      → Takes ground p built Claim claims next follows m t
      → Ready ground p (record m { owner = owner; w = w }) (record q { before = later made q.before })
      → entered (at (put q.f 1 (q.pc + 4 + 4)) free_entry q.memory q.input q.output) ≡ made
      → Here ground p q.pc (call_code free_entry ++ steps_code p.places m.g m.l m.more)
      → Claim (next m.callers m.g m.more (with_temp t (by_name None) m.frame) w) w.turns (state q) q.before
  by_release q ready t owner w made takes_it done told_is code =
      let e = next m.callers m.g m.more (with_temp t (by_name None) m.frame) w in
      let back = q.pc + 4 + 4 in
      let called = put q.f 1 back in
      let goal = aim ground p built Claim claims e w.turns q in
      let q1 : Point = record q { before = later made q.before } in
      let goal' = aim ground p built Claim claims e w.turns q1 in
      let entered_is : Entered ground.segments ground.text q.memory called back = record {
        runtime = ground.runtime;
        keeps = ready.world.keeps;
        returns = record { nil = ready.nil; link = refl; whole = omega (arith, ready.whole); code = omega (arith, ready.code); small = omega (arith, code.1.0.below) };
      } in
      let m1 : Moment = record m { owner = owner; w = w } in
      let q2 : Point = record q1 { f = called; pc = back } in
      let done' = elsewhere ground p m1 q1 done called back refl refl (omega (arith, ready.code)) (omega (arith, ready.whole)) in
      by_routine ground goal q.f q.pc q.memory free_entry made ready.world.keeps ready.code
      (code_front ground q.pc (call_code free_entry) (steps_code p.places m.g m.l m.more) code) refl (omega arith) told_is
      (leads_back ground goal' (at called free_entry q.memory q.input q.output) (at called back q.memory q.input q.output) []
      (routines_work ground.segments ground.text q.memory q.input q.output called back entered_is).free
      (follows (record m1 { frame = with_temp t (by_name None) m.frame }) q2 (cleared ground p m1 q2 done' t None takes_it.slot takes_it.opened refl) code.1.1))

  -- by the pointer that is given back
  by_pointer : (q : Point) (ready : Ready ground p m q) (t : ℕ) (at' : Place) (r : Ptr) (x : ℕ) → Means p.code p.places m.blocks (pointer r) x
      → Takes ground p built Claim claims next follows m t → q.f 10 ≡ x
      → Here ground p q.pc (call_code free_entry ++ steps_code p.places m.g m.l m.more) → (after : Memory) → free m.w.memory r ≡ Ok after
      → Claim (note_freed r (λ u f w. next m.callers m.g m.more (with_temp t (by_name None) f) w) m.frame (record m.w { memory = after })) m.w.turns (state q) q.before
  by_pointer q ready t at' P.Null x means takes_it ten code after is =
      let same : m.w.memory ≡ after = cc in
      subst (λ z. Claim (next m.callers m.g m.more (with_temp t (by_name None) m.frame) (record m.w { memory = z })) m.w.turns (state q) q.before) same
      (by_release q ready t m.owner m.w [] takes_it ready (ap (λ (z : ℕ). cond (not (eqb z 0)) (Release z ∷ []) []) (ten ∙ means)) code)
  by_pointer q ready t at' (P.Block b zero) x means takes_it ten code after is = by_live (is_live m.w.memory b && is_heap (kind m.w.memory b)) refl is
    where
      by_live : (test : Bool) → (is_live m.w.memory b && is_heap (kind m.w.memory b)) ≡ test → cond test (Ok (with_end m.w.memory b)) (Err K.Free) ≡ Ok after
          → Claim (next m.callers m.g m.more (with_temp t (by_name None) m.frame) (record m.w { memory = after; trace = E.freed b ∷ m.w.trace })) m.w.turns (state q) q.before
      by_live false e d = absurd cc
      by_live true e d =
          let same : with_end m.w.memory b ≡ after = cc in
          let ext = means.0 in
          let low = (extent_small ground p built m q ready b ext means.1).0 in
          let address : q.f 10 ≡ ext.at = omega (arith, ten, means.3) in
          let made : cond (not (eqb (q.f 10) 0)) (Release (q.f 10) ∷ []) [] ≡ Release ext.at ∷ [] =
          ap (λ (t : Bool). cond (not t) (Release (q.f 10) ∷ []) []) (ne_eqb (q.f 10) 0 (λ z. omega arith)) ∙ ap (λ (z : ℕ). Release z ∷ []) address in
          subst (λ z. Claim (next m.callers m.g m.more (with_temp t (by_name None) m.frame) (record m.w { memory = z; trace = E.freed b ∷ m.w.trace })) m.w.turns
          (state q) q.before) same
          (by_release q ready t (without m.owner b) (freed_world ground p m q ready b) (Release ext.at ∷ []) takes_it (freed_ready ground p m q ready b ext means.1) made code)
  by_pointer q ready t at' (P.Block b (suc k)) x means takes_it ten code after is = absurd cc
  by_pointer q ready t at' (P.Function f) x means takes_it ten code after is = absurd cc

  pub pointer_is : (v : Value) (r : Ptr) → as_pointer v ≡ Ok r → v ≡ pointer r
  pointer_is (word n) r e = absurd cc
  pointer_is (pointer s) r e = (let d : s ≡ r = cc in ap (λ i. pointer i) d)

  pub free_works : (q : Point) → Ready ground p m q → (t : ℕ) (at : Place) (all : Row)
      → Works ground p built Claim claims next m q (S.Library t at L.Free all)
  free_works q ready t at all code fits =
      by_row ground p built Claim claims at all.first all.count _ m.frame m.w m.w.turns q by_values
    where
      by_values : (vs : List Value) → HasRow m.frame all.first vs → length vs ≡ all.count
          → Claim (library at L.Free vs (λ v. put_any t v (λ u. next m.callers m.g m.more)) m.frame m.w) m.w.turns (state q) q.before
      by_values [] row long = claims.undefined K.Call at m.w m.w.turns (state q) q.before
      by_values (v ∷ w ∷ vs) row long = claims.undefined K.Call at m.w m.w.turns (state q) q.before
      by_values (v ∷ []) row long =
          let one = one_code all.first in
          let call = call_code free_entry in
          let rest = steps_code p.places m.g m.l m.more in
          let c1 = subst (Here ground p q.pc) (append_assoc one call rest) code in
          by_tested ground p built Claim claims (as_pointer v) at _ m.frame m.w m.w.turns q
          λ r is. by_tested ground p built Claim claims (free m.w.memory r) at _ m.frame m.w m.w.turns q
          λ after is'.
          let e = note_freed r (λ u f w. next m.callers m.g m.more (with_temp t (by_name None) f) w) m.frame (record m.w { memory = after }) in
          by_argument ground p built Claim claims m q ready e m.w.turns 10 all.first v (call ++ rest) (omega arith) (omega arith) row.0
          (open_at ground m all fits.row 0 all.first (omega (arith, long)) (omega arith)) c1
          λ x means small ready_x code_x.
          by_pointer (with_register q 10 x one) ready_x t at r x (subst (λ z. Means p.code p.places m.blocks z x) (pointer_is v r is) means)
          (takes ground p built Claim claims next follows m t fits.slot fits.kinds.0) refl code_x after is'
