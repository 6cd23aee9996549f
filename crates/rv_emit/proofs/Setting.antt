-- Calls of `memset`.
use Rattle.std.proofs.Common.{◌≡◌, ℕ, zero, suc, ◌+◌, ◌%◌, ◌^◌, ◌<◌, ◌≤◌, ◌⊎◌, inl, inr, true, List, [], ◌∷◌, ◌++◌, length, replicate, Some, Ok, slice_get, refl, ap, sym, ◌∙◌, subst, arith, append_assoc}
use Rattle.std.proofs.lemmas.Bool.{cases_lt}
use Rattle.std.proofs.lemmas.List.{length-replicate}
use Rattle.lay_base.specs.declared.faults.UndefinedKind.TheVariants as K
use Rattle.lay_base.specs.declared.place.Place.{Place}
use Rattle.c_typed.specs.declared.operators.LibraryFunction.TheVariants as L
use Rattle.memory_words.specs.declared.cell_words.cell.Cell.{Cell}
use Rattle.memory_words.specs.declared.cell_words.cell.Cell.TheVariants as C
use Rattle.memory_words.specs.declared.cell_words.pointer.Ptr.{Ptr}
use Rattle.block_memory.specs.Accesses.{place}
use Rattle.block_memory.specs.Blocks.{Memory, kind, with_cells}
use Rattle.block_memory.specs.Ranges.{fill}
use Rattle.block_memory.specs.RunWorlds.LibraryCalls.{library}
use Rattle.block_memory.specs.RunWorlds.Scalars.{as_pointer, as_word}
use Rattle.block_memory.specs.RunWorlds.Worlds.{World}
use Rattle.block_memory.specs.declared.run_worlds.value.Value.{Value}
use Rattle.block_memory.specs.declared.run_worlds.value.Value.TheVariants.{Pointer as pointer}
use Rattle.c_meaning.specs.declared.frame.Slot.TheVariants.{ByName as by_name}
use Rattle.rv_isa.specs.Memory as M
use Rattle.rv_isa.specs.Memory.{are_mapped, writable}
use Rattle.rv_runtime.specs.Steps.States.{at, code_end, put}
use Rattle.rv_runtime.proofs.Steps.Ranges.{mapped_each}
use Rattle.rv_runtime.specs.Effects.{Filled}
use Rattle.rv_runtime.specs.Laws.{Entered}
use Rattle.rv_runtime.specs.Routines.{fill_entry}
use Rattle.rv_runtime.proofs.Working.{routines_work}
use Rattle.rv_code.specs.Code.{give_code, steps_code, three_code}
use Rattle.rv_code.specs.Words.{call_code}
use Rattle.tac_ir.specs.Running.{Next, put_any, with_temp}
use Rattle.tac_ir.specs.declared.step.Row.{Row}
use Rattle.tac_ir.specs.declared.step.Step.TheVariants as S
use Rattle.rv_emit.specs.Maps.{Flat, Means, Shows}
use Rattle.rv_emit.specs.Grounds.{Ground}
use Rattle.rv_emit.specs.Relation.{Program, Moment, Point, Ready, Here, IsBuilt}
use Rattle.rv_emit.specs.Claims.{AreClaims, Claims, Follows, state}
use Rattle.rv_emit.proofs.Accesses.{bind_is}
use Rattle.rv_emit.proofs.Calling.{by_routine, leads_back}
use Rattle.rv_emit.proofs.Cells.{flat_written, found}
use Rattle.rv_emit.proofs.Filling.{filled_keeps}
use Rattle.rv_emit.proofs.Freeing.{pointer_is}
use Rattle.rv_emit.proofs.Giving.{elsewhere}
use Rattle.rv_emit.proofs.Keeping.{flat_stays}
use Rattle.rv_emit.proofs.Loading.{address_is, lies, live_extent}
use Rattle.rv_emit.proofs.Moves.{code_front}
use Rattle.rv_emit.proofs.Plain.{Takes, Works, aim, takes}
use Rattle.rv_emit.proofs.Ranging.{number_is}
use Rattle.rv_emit.proofs.Rows.{HasRow, by_row, by_three, three_in}
use Rattle.rv_emit.proofs.Storing.{changed, outside_range}
use Rattle.rv_emit.proofs.Values.{by_give, by_tested}

module _ (ground : Ground) (p : Program) (built : IsBuilt ground p) (m : Moment) (q : Point) (ready : Ready ground p m q) where
  -- where a range is filled with the low byte of a number
  record Fills (x y n : ℕ) (after : Memory) : Type 0 where
    fits : x + n < 2 ^ 32
    low : 0 < n → code_end ≤ x
    writes : are_mapped ground.segments writable x n ≡ true
    done : (new : M.Memory) → Filled q.memory new x y n → Ready ground p (record m { w = record m.w { memory = after } }) (record q { memory = new })

  fills : (r : Ptr) (x y n : ℕ) (after : Memory) → fill m.w.memory r (y % 2 ^ 8) n ≡ Ok after → Means p.code p.places m.blocks (pointer r) x → x < 2 ^ 32
      → Fills x y n after
  fills r x y zero after e means small =
      let same : m.w.memory ≡ after = cc in
      record {
        fits = omega arith;
        low = λ lt. absurd (omega arith);
        writes = mapped_each ground.segments writable x 0 (λ i lt. absurd (omega arith));
        done = λ new filled.
            let all : (a : ℕ) → new a ≡ q.memory a = λ a. filled.outside a (apart a) in
            changed ground p m q ready after new (record {
              same = λ a lt. all a ∙ ready.world.keeps.same a lt;
              bytes = λ a. subst (λ (z : ℕ). z < 2 ^ 8) (sym (all a)) (ready.world.keeps.bytes a);
            })
            (subst (λ z. Flat p.code p.places ground.room m.blocks m.owner z new) same
            (flat_stays p.code p.places ground.room m.blocks m.owner m.w.memory q.memory new ready.world.flat (λ a b o. all a))) (λ c none. all c);
      }
    where
      apart : (a : ℕ) → (a < x) ⊎ (x + 0 ≤ a)
      apart a = elim (cases_lt a x) [
        | inl lt ↦ inl lt
        | inr ge ↦ inr (omega arith)
      ]
  fills r x y (suc n) after e means small =
      let h = bind_is (place m.w.memory r (suc n) 1 true) _ after e in
      let b = h.0.0 in
      let o = h.0.1 in
      let f = found m.w.memory r (suc n) 1 true h.0 h.1 in
      let cells = replicate (suc n) (C.Byte (y % 2 ^ 8)) in
      let same : with_cells m.w.memory b o cells ≡ after = (let d = h.2 in cc) in
      let ext = live_extent ground p built m q ready b f.live in
      let placed = ready.world.flat.placed b ext.0 ext.1 in
      let lie = lies ground (kind m.w.memory b) ext.0 o (suc n) placed.within (omega (arith, f.fits, placed.sized)) in
      let at_x = address_is ground p built m q ready (pointer r) b o x ext.0 f.is means ext.1 in
      let long = length-replicate (suc n) (C.Byte (y % 2 ^ 8)) in
      record {
        fits = omega (arith, lie.below);
        low = λ lt. omega (arith, lie.above);
        writes = ap (λ (a : ℕ). are_mapped ground.segments writable a (suc n)) at_x ∙ ground.write (ext.0.at + o) (suc n) lie.in_room;
        done = λ new filled.
            changed ground p m q ready after new (filled_keeps ground.text q.memory new x y (suc n) ready.world.keeps filled (omega (arith, lie.above)))
            (subst (λ z. Flat p.code p.places ground.room m.blocks m.owner z new) same
            (flat_written p.code p.places ground.room m.blocks m.owner m.w.memory q.memory new ready.world.flat b o ext.0 cells f.live
            (omega (arith, f.fits, long)) ext.1
            (λ i c gets.
            let t = filled_cell (suc n) i c gets in
            let z : x + i ≡ ext.0.at + o + i = ap (λ (a : ℕ). a + i) at_x in
            subst (λ k. Shows p.code p.places m.blocks k (new (ext.0.at + o + i))) t.1 (ap new (sym z) ∙ filled.inside i t.0))
            (λ c out. filled.outside c (outside c (ext.0.at + o) at_x (length cells) long out))))
            (λ c none. filled.outside c (outside c (ext.0.at + o) at_x (suc n) refl (outside_range ground p m q ready b o (suc n) ext.0 f.live f.fits ext.1 c none)));
      }
    where
      outside : (c a : ℕ) → x ≡ a → (k : ℕ) → k ≡ suc n → (c < a) ⊎ (a + k ≤ c) → (c < x) ⊎ (x + suc n ≤ c)
      outside c a e k d (inl lt) = inl (omega arith)
      outside c a e k d (inr le) = inr (omega arith)

      filled_cell : (k i : ℕ) (c : Cell) → slice_get (replicate k (C.Byte (y % 2 ^ 8))) i ≡ Some c → (i < k) × (C.Byte (y % 2 ^ 8) ≡ c)
      filled_cell zero i c g = absurd cc
      filled_cell (suc k) zero c g = (omega arith, cc)
      filled_cell (suc k) (suc i) c g = (let h = filled_cell k i c g in (omega (arith, h.0), h.1))

module _ (ground : Ground) (p : Program) (built : IsBuilt ground p) (Claim : Claims) (claims : AreClaims ground p Claim) (next : Next)
    (follows : Follows ground p Claim next) (m : Moment) where
  by_filled : (q : Point) (ready : Ready ground p m q) (t : ℕ) (v : Value) (after : Memory)
      → Fills ground p built m q ready (q.f 10) (q.f 11) (q.f 12) after → Takes ground p built Claim claims next follows m t
      → Means p.code p.places m.blocks v (q.f 10) → q.f 10 < 2 ^ 32
      → Here ground p q.pc (call_code fill_entry ++ (give_code t 10 ++ steps_code p.places m.g m.l m.more))
      → Claim (next m.callers m.g m.more (with_temp t (by_name (Some v)) m.frame) (record m.w { memory = after })) m.w.turns (state q) q.before
  by_filled q ready t v after fills takes_it means small code =
      let w : World = record m.w { memory = after } in
      let e = next m.callers m.g m.more (with_temp t (by_name (Some v)) m.frame) w in
      let goal = aim ground p built Claim claims e w.turns q in
      let back = q.pc + 4 + 4 in
      let called = put q.f 1 back in
      let entered : Entered ground.segments ground.text q.memory called back = record {
        runtime = ground.runtime;
        keeps = ready.world.keeps;
        returns = record { nil = ready.nil; link = refl; whole = omega (arith, ready.whole); code = omega (arith, ready.code); small = omega (arith, code.1.0.below) };
      } in
      let done = (routines_work ground.segments ground.text q.memory q.input q.output called back entered).fill fills.fits fills.low fills.writes in
      let comes = done.2 in
      let m1 : Moment = record m { w = w } in
      let q1 : Point = record q { memory = done.0 } in
      by_routine ground goal q.f q.pc q.memory fill_entry [] ready.world.keeps ready.code
      (code_front ground q.pc (call_code fill_entry) (give_code t 10 ++ steps_code p.places m.g m.l m.more) code) refl (omega arith) refl
      (leads_back ground goal (at called fill_entry q.memory q.input q.output) (at comes.registers back done.0 q.input q.output) [] comes.leads
      (by_give ground p built Claim claims next follows m1 (record q1 { f = comes.registers; pc = back })
      (elsewhere ground p m1 q1 (fills.done done.0 done.1) comes.registers back (comes.leaves 0 (inl (omega arith))) (comes.leaves 2 (inl (omega arith)))
      (omega (arith, ready.code)) (omega (arith, ready.whole)))
      10 t (q.f 10) (Some v) (omega arith) (λ d. omega arith) comes.answers (λ i k. small) takes_it.slot takes_it.opened
      (λ i k. let d : v ≡ i = cc in subst (λ z. Means p.code p.places m.blocks z (q.f 10)) d means) code.1.1))

  pub memset_works : (q : Point) → Ready ground p m q → (t : ℕ) (at : Place) (all : Row)
      → Works ground p built Claim claims next m q (S.Library t at L.Memset all)
  memset_works q ready t at all code fits =
      by_row ground p built Claim claims at all.first all.count _ m.frame m.w m.w.turns q by_list
    where
      by_list : (vs : List Value) → HasRow m.frame all.first vs → length vs ≡ all.count
          → Claim (library at L.Memset vs (λ v. put_any t v (λ u. next m.callers m.g m.more)) m.frame m.w) m.w.turns (state q) q.before
      by_list [] row long = claims.undefined K.Call at m.w m.w.turns (state q) q.before
      by_list (v ∷ []) row long = claims.undefined K.Call at m.w m.w.turns (state q) q.before
      by_list (v ∷ u ∷ []) row long = claims.undefined K.Call at m.w m.w.turns (state q) q.before
      by_list (v ∷ u ∷ w ∷ x ∷ vs) row long = claims.undefined K.Call at m.w m.w.turns (state q) q.before
      by_list (v ∷ u ∷ w ∷ []) row long =
          let call = call_code fill_entry in
          let give = give_code t 10 in
          let rest = steps_code p.places m.g m.l m.more in
          by_tested ground p built Claim claims (as_pointer v) at _ m.frame m.w m.w.turns q
          λ r is_v. by_tested ground p built Claim claims (as_word u) at _ m.frame m.w m.w.turns q
          λ k is_u. by_tested ground p built Claim claims (as_word w) at _ m.frame m.w m.w.turns q
          λ n is_w. by_tested ground p built Claim claims (fill m.w.memory r (k % 2 ^ 8) n) at _ m.frame m.w m.w.turns q
          λ after is.
          let e = next m.callers m.g m.more (with_temp t (by_name (Some (pointer r))) m.frame) (record m.w { memory = after }) in
          by_three ground p built Claim claims m q ready e m.w.turns all v u w ((call ++ give) ++ rest) fits.row long row
          (subst (Here ground p q.pc) (append_assoc (three_code all.first) (call ++ give) rest) code)
          λ x y z means_v means_u means_w small_x small_y small_z ready' code'.
          let q' = three_in ground p built Claim claims q all.first x y z in
          let means_r = subst (λ i. Means p.code p.places m.blocks i x) (pointer_is ground p built Claim claims next follows m v r is_v) means_v in
          let is1 = subst (λ j. fill m.w.memory r (k % 2 ^ 8) j ≡ Ok after) (number_is ground p built Claim claims next follows m w n z is_w means_w) is in
          let is2 = subst (λ j. fill m.w.memory r (j % 2 ^ 8) z ≡ Ok after) (number_is ground p built Claim claims next follows m u k y is_u means_u) is1 in
          by_filled q' ready' t (pointer r) after (fills ground p built m q' ready' r x y z after is2 means_r small_x)
          (takes ground p built Claim claims next follows m t fits.slot fits.kinds.0) means_r small_x
          (subst (Here ground p q'.pc) (append_assoc call give rest) code')
