-- Calls of `memcpy` and `memmove`.
use Rattle.std.proofs.Common.{◌≡◌, ℕ, ◌+◌, ◌^◌, ◌<◌, inl, Bool, true, false, List, [], ◌∷◌, ◌++◌, length, Some, Ok, refl, sym, ◌∙◌, subst, arith, append_assoc}
use Rattle.lay_base.specs.declared.faults.UndefinedKind.TheVariants as K
use Rattle.lay_base.specs.declared.place.Place.{Place}
use Rattle.c_typed.specs.declared.operators.LibraryFunction.TheVariants as L
use Rattle.memory_words.specs.declared.cell_words.pointer.Ptr.{Ptr}
use Rattle.block_memory.specs.Blocks.{Memory}
use Rattle.block_memory.specs.Ranges.{copy}
use Rattle.block_memory.specs.RunWorlds.LibraryCalls.{library}
use Rattle.block_memory.specs.RunWorlds.Scalars.{as_pointer, as_word}
use Rattle.block_memory.specs.RunWorlds.Worlds.{World}
use Rattle.block_memory.specs.declared.run_worlds.value.Value.{Value}
use Rattle.block_memory.specs.declared.run_worlds.value.Value.TheVariants.{Word as word, Pointer as pointer}
use Rattle.c_meaning.specs.declared.frame.Slot.TheVariants.{ByName as by_name}
use Rattle.rv_runtime.specs.Steps.States.{at, put}
use Rattle.rv_runtime.specs.Laws.{Entered}
use Rattle.rv_runtime.specs.Routines.{copy_entry}
use Rattle.rv_runtime.proofs.Working.{routines_work}
use Rattle.rv_code.specs.Code.{give_code, steps_code, three_code}
use Rattle.rv_code.specs.Words.{call_code}
use Rattle.tac_ir.specs.Running.{Next, put_any, with_temp}
use Rattle.tac_ir.specs.declared.step.Row.{Row}
use Rattle.tac_ir.specs.declared.step.Step.TheVariants as S
use Rattle.rv_emit.specs.Maps.{Means}
use Rattle.rv_emit.specs.Grounds.{Ground}
use Rattle.rv_emit.specs.Fitting.{RowFitsIfAny}
use Rattle.rv_emit.specs.Relation.{Program, Moment, Point, Ready, Here, IsBuilt}
use Rattle.rv_emit.specs.Claims.{AreClaims, Claims, Follows, state}
use Rattle.rv_emit.proofs.Calling.{by_routine, leads_back}
use Rattle.rv_emit.proofs.Copying.{Copies, copies}
use Rattle.rv_emit.proofs.Freeing.{pointer_is}
use Rattle.rv_emit.proofs.Giving.{elsewhere}
use Rattle.rv_emit.proofs.Moves.{code_front}
use Rattle.rv_emit.proofs.Plain.{Takes, Works, aim, takes}
use Rattle.rv_emit.proofs.Rows.{HasRow, by_row, by_three, three_in}
use Rattle.rv_emit.proofs.Values.{by_give, by_tested}

module _ (ground : Ground) (p : Program) (built : IsBuilt ground p) (Claim : Claims) (claims : AreClaims ground p Claim) (next : Next)
    (follows : Follows ground p Claim next) (m : Moment) where
  -- the call, with both addresses and the number of bytes in x10 to x12
  by_copied : (q : Point) (ready : Ready ground p m q) (t : ℕ) (v u : Value) (after : Memory)
      → Copies ground p built m q ready v u (q.f 10) (q.f 11) (q.f 12) after → Takes ground p built Claim claims next follows m t
      → Means p.code p.places m.blocks v (q.f 10) → q.f 10 < 2 ^ 32
      → Here ground p q.pc (call_code copy_entry ++ (give_code t 10 ++ steps_code p.places m.g m.l m.more))
      → Claim (next m.callers m.g m.more (with_temp t (by_name (Some v)) m.frame) (record m.w { memory = after })) m.w.turns (state q) q.before
  by_copied q ready t v u after copies takes_it means small code =
      let w : World = record m.w { memory = after } in
      let e = next m.callers m.g m.more (with_temp t (by_name (Some v)) m.frame) w in
      let goal = aim ground p built Claim claims e w.turns q in
      let back = q.pc + 4 + 4 in
      let called = put q.f 1 back in
      let entered : Entered ground.segments ground.text q.memory called back = record {
        runtime = ground.runtime;
        keeps = ready.world.keeps;
        returns = record { nil = ready.nil; link = refl; whole = omega (arith, ready.whole); code = omega (arith, ready.code); small = omega (arith, code.1.0.below) };
      } in
      let done = (routines_work ground.segments ground.text q.memory q.input q.output called back entered).copy copies.fits_to copies.fits_from copies.low copies.reads
      copies.writes in
      let comes = done.2 in
      let m1 : Moment = record m { w = w } in
      let q1 : Point = record q { memory = done.0 } in
      by_routine ground goal q.f q.pc q.memory copy_entry [] ready.world.keeps ready.code
      (code_front ground q.pc (call_code copy_entry) (give_code t 10 ++ steps_code p.places m.g m.l m.more) code) refl (omega arith) refl
      (leads_back ground goal (at called copy_entry q.memory q.input q.output) (at comes.registers back done.0 q.input q.output) [] comes.leads
      (by_give ground p built Claim claims next follows m1 (record q1 { f = comes.registers; pc = back })
      (elsewhere ground p m1 q1 (copies.done done.0 done.1) comes.registers back (comes.leaves 0 (inl (omega arith))) (comes.leaves 2 (inl (omega arith)))
      (omega (arith, ready.code)) (omega (arith, ready.whole)))
      10 t (q.f 10) (Some v) (omega arith) (λ d. omega arith) comes.answers (λ i k. small) takes_it.slot takes_it.opened
      (λ i k. let d : v ≡ i = cc in subst (λ z. Means p.code p.places m.blocks z (q.f 10)) d means) code.1.1))

  pub number_is : (w : Value) (i y : ℕ) → as_word w ≡ Ok i → Means p.code p.places m.blocks w y → i ≡ y
  number_is (word n) i y e means = (let d : n ≡ i = cc in sym d ∙ sym means)
  number_is (pointer r) i y e means = absurd cc

  module _ (q : Point) (ready : Ready ground p m q) (t : ℕ) (all : Row) (opened : RowFitsIfAny m.g (Some all))
      (takes_it : Takes ground p built Claim claims next follows m t)
      (code : Here ground p q.pc ((three_code all.first ++ (call_code copy_entry ++ give_code t 10)) ++ steps_code p.places m.g m.l m.more)) where
    by_values : (overlap : Bool) (v u w : Value) (r s : Ptr) (n : ℕ) (after : Memory) → HasRow m.frame all.first (v ∷ u ∷ w ∷ []) → 3 ≡ all.count → as_pointer v ≡ Ok r
        → as_pointer u ≡ Ok s → as_word w ≡ Ok n → copy m.w.memory r s n overlap ≡ Ok after
        → Claim (next m.callers m.g m.more (with_temp t (by_name (Some (pointer r))) m.frame) (record m.w { memory = after })) m.w.turns (state q) q.before
    by_values overlap v u w r s n after row long is_v is_u is_w is =
        let call = call_code copy_entry in
        let give = give_code t 10 in
        let rest = steps_code p.places m.g m.l m.more in
        let e = next m.callers m.g m.more (with_temp t (by_name (Some (pointer r))) m.frame) (record m.w { memory = after }) in
        by_three ground p built Claim claims m q ready e m.w.turns all v u w ((call ++ give) ++ rest) opened long row
        (subst (Here ground p q.pc) (append_assoc (three_code all.first) (call ++ give) rest) code)
        λ x y z means_v means_u means_w small_x small_y small_z ready' code'.
        let q' = three_in ground p built Claim claims q all.first x y z in
        let means_r = subst (λ i. Means p.code p.places m.blocks i x) (pointer_is ground p built Claim claims next follows m v r is_v) means_v in
        let means_s = subst (λ i. Means p.code p.places m.blocks i y) (pointer_is ground p built Claim claims next follows m u s is_u) means_u in
        let is' = subst (λ k. copy m.w.memory r s k overlap ≡ Ok after) (number_is w n z is_w means_w) is in
        by_copied q' ready' t (pointer r) (pointer s) after
        (copies ground p built m q' ready' (pointer r) (pointer s) x y z overlap after is' means_r means_s small_x small_y) takes_it means_r small_x
        (subst (Here ground p q'.pc) (append_assoc call give rest) code')

  pub memcpy_works : (q : Point) → Ready ground p m q → (t : ℕ) (at : Place) (all : Row)
      → Works ground p built Claim claims next m q (S.Library t at L.Memcpy all)
  memcpy_works q ready t at all code fits =
      by_row ground p built Claim claims at all.first all.count _ m.frame m.w m.w.turns q by_list
    where
      by_list : (vs : List Value) → HasRow m.frame all.first vs → length vs ≡ all.count
          → Claim (library at L.Memcpy vs (λ v. put_any t v (λ u. next m.callers m.g m.more)) m.frame m.w) m.w.turns (state q) q.before
      by_list [] row long = claims.undefined K.Call at m.w m.w.turns (state q) q.before
      by_list (v ∷ []) row long = claims.undefined K.Call at m.w m.w.turns (state q) q.before
      by_list (v ∷ u ∷ []) row long = claims.undefined K.Call at m.w m.w.turns (state q) q.before
      by_list (v ∷ u ∷ w ∷ x ∷ vs) row long = claims.undefined K.Call at m.w m.w.turns (state q) q.before
      by_list (v ∷ u ∷ w ∷ []) row long =
          by_tested ground p built Claim claims (as_pointer v) at _ m.frame m.w m.w.turns q
          λ r is_v. by_tested ground p built Claim claims (as_pointer u) at _ m.frame m.w m.w.turns q
          λ s is_u. by_tested ground p built Claim claims (as_word w) at _ m.frame m.w m.w.turns q
          λ n is_w. by_tested ground p built Claim claims (copy m.w.memory r s n false) at _ m.frame m.w m.w.turns q
          λ after is. by_values q ready t all fits.row (takes ground p built Claim claims next follows m t fits.slot fits.kinds.0) code false v u w r s n after
          row long is_v is_u is_w is

  pub memmove_works : (q : Point) → Ready ground p m q → (t : ℕ) (at : Place) (all : Row)
      → Works ground p built Claim claims next m q (S.Library t at L.Memmove all)
  memmove_works q ready t at all code fits =
      by_row ground p built Claim claims at all.first all.count _ m.frame m.w m.w.turns q by_list
    where
      by_list : (vs : List Value) → HasRow m.frame all.first vs → length vs ≡ all.count
          → Claim (library at L.Memmove vs (λ v. put_any t v (λ u. next m.callers m.g m.more)) m.frame m.w) m.w.turns (state q) q.before
      by_list [] row long = claims.undefined K.Call at m.w m.w.turns (state q) q.before
      by_list (v ∷ []) row long = claims.undefined K.Call at m.w m.w.turns (state q) q.before
      by_list (v ∷ u ∷ []) row long = claims.undefined K.Call at m.w m.w.turns (state q) q.before
      by_list (v ∷ u ∷ w ∷ x ∷ vs) row long = claims.undefined K.Call at m.w m.w.turns (state q) q.before
      by_list (v ∷ u ∷ w ∷ []) row long =
          by_tested ground p built Claim claims (as_pointer v) at _ m.frame m.w m.w.turns q
          λ r is_v. by_tested ground p built Claim claims (as_pointer u) at _ m.frame m.w m.w.turns q
          λ s is_u. by_tested ground p built Claim claims (as_word w) at _ m.frame m.w m.w.turns q
          λ n is_w. by_tested ground p built Claim claims (copy m.w.memory r s n true) at _ m.frame m.w m.w.turns q
          λ after is. by_values q ready t all fits.row (takes ground p built Claim claims next follows m t fits.slot fits.kinds.0) code true v u w r s n after
          row long is_v is_u is_w is
