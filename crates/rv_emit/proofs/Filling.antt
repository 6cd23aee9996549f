-- Blocks of locals that hold zeros: a call of the routine that fills.
use Rattle.std.proofs.Common.{◌≡◌, ℕ, zero, suc, ◌+◌, ◌-◌, ◌*◌, ◌%◌, ◌^◌, ◌<◌, ◌≤◌, ◌⊎◌, inl, inr, Bool, true, false, List, [], ◌∷◌, ◌++◌, length, replicate, Option, Some, None, pos}
use Rattle.std.proofs.Common.{slice_get, slice_index, refl, ap, sym, ◌∙◌, subst, arith, append_assoc}
use Rattle.std.specs.Prelude.{unwrap_or}
use Rattle.std.proofs.lemmas.List.{length-replicate}
use Rattle.std.proofs.lemmas.Bool.{both_ways, cases_lt}
use Rattle.memory_words.specs.declared.cell_words.cell.Cell.{Cell}
use Rattle.memory_words.specs.declared.cell_words.cell.Cell.TheVariants as C
use Rattle.block_memory.specs.Blocks.{with_cells}
use Rattle.block_memory.specs.RunWorlds.Worlds.{World}
use Rattle.block_memory.specs.declared.run_worlds.value.Value.{Value}
use Rattle.c_meaning.specs.Frames.{Frame}
use Rattle.c_meaning.specs.declared.frame.Slot.{Slot}
use Rattle.c_meaning.specs.declared.frame.Slot.TheVariants.{ByName as by_name, InBlock as in_block}
use Rattle.rv_isa.specs.declared.instruction.Inst.TheVariants.{Addi}
use Rattle.rv_isa.specs.Arithmetic.{plus}
use Rattle.rv_isa.specs.Memory as M
use Rattle.rv_isa.specs.Memory.{are_mapped, writable}
use Rattle.rv_runtime.specs.Steps.States.{Keeps, at, code_end, put}
use Rattle.rv_runtime.specs.Effects.{Filled}
use Rattle.rv_runtime.specs.Laws.{Entered}
use Rattle.rv_runtime.specs.Routines.{fill_entry}
use Rattle.rv_runtime.proofs.Working.{routines_work}
use Rattle.rv_code.specs.Code.{block_code, is_block, steps_code}
use Rattle.rv_code.specs.Frames.{block_places, block_sizes, slot_at, slots}
use Rattle.rv_code.specs.Words.{call_code, number_code}
use Rattle.tac_ir.specs.Running.{Next, written}
use Rattle.tac_ir.specs.declared.step.Step.TheVariants as S
use Rattle.rv_emit.specs.Maps.{Shows}
use Rattle.rv_emit.specs.Grounds.{Ground}
use Rattle.rv_emit.specs.Relation.{Program, Moment, Point, Ready, Here, IsBuilt, OwnedBy, SlotShows}
use Rattle.rv_emit.specs.Claims.{Claims, AreClaims, Follows, state}
use Rattle.rv_emit.proofs.Beginning.{block_known}
use Rattle.rv_emit.proofs.Calling.{by_routine, leads_back}
use Rattle.rv_emit.proofs.Giving.{elsewhere}
use Rattle.rv_emit.proofs.Keeping.{flat_stays}
use Rattle.rv_emit.proofs.Lists.{get_below, place_within}
use Rattle.rv_emit.proofs.Moves.{by_addi, by_address, by_number, code_back, code_front}
use Rattle.rv_emit.proofs.Plain.{Works, aim}
use Rattle.rv_emit.proofs.Zeroing.{changed_inside, written_inside}

-- filling above the text keeps it
pub filled_keeps : (text old new : M.Memory) (to value n : ℕ) → Keeps text old → Filled old new to value n → code_end ≤ to → Keeps text new
filled_keeps text old new to value n keeps filled le = record {
  same = λ a lt. filled.outside a (inl (omega arith)) ∙ keeps.same a lt;
  bytes = bytes;
}
  where
    bytes : (a : ℕ) → new a < 2 ^ 8
    bytes a = elim (cases_lt a to) [
      | inl lt ↦ subst (λ (z : ℕ). z < 2 ^ 8) (sym (filled.outside a (inl lt))) (keeps.bytes a)
      | inr ge ↦ elim (cases_lt a (to + n)) [
        | inl lt ↦
            (let e : to + (a - to) ≡ a = omega arith in
            let d : new a ≡ value % 2 ^ 8 = ap new (sym e) ∙ filled.inside (a - to) (omega arith) in
            omega arith)
        | inr le' ↦ subst (λ (z : ℕ). z < 2 ^ 8) (sym (filled.outside a (inr le'))) (keeps.bytes a)
      ]
    ]

-- where a local's block is in its frame
pub record BlockWithin (m : Moment) (x : ℕ) : Type 0 where
  pub low : slot_at (slots m.g) ≤ slice_index m.l.blocks x
  pub high : slice_index m.l.blocks x + slice_index (block_sizes m.g) x ≤ m.l.size

module _ (ground : Ground) (p : Program) (m : Moment) (q : Point) (ready : Ready ground p m q) where
  pub block_within : (x : ℕ) → is_block m.g x ≡ true → BlockWithin m x
  block_within x is =
      let laid = ready.frame.laid in
      let where' : slice_index m.l.blocks x ≡ slice_index (block_places m.g) x = ap (λ (z : List ℕ). slice_index z x) laid.blocks in
      let within = place_within (slot_at (slots m.g)) (block_sizes m.g) x (block_known m.g x is) (omega arith) in
      record { low = omega (arith, within.0); high = omega (arith, laid.size, within.1) }

  module _ (built : IsBuilt ground p) (Claim : Claims) (claims : AreClaims ground p Claim) (next : Next) (follows : Follows ground p Claim next) where
    -- the call, after which memory shows what the run has made of its blocks
    by_fill : (x n : ℕ) → is_block m.g x ≡ true → n ≤ slice_index (block_sizes m.g) x
        → Here ground p q.pc ((block_code m.l 10 x 0 ++ (Addi 11 0 (pos 0) ∷ (number_code 12 n ++ call_code fill_entry))) ++ steps_code p.places m.g m.l m.more)
        → (w : World)
        → ((new : M.Memory) → Keeps ground.text new → Filled q.memory new (m.sp + slice_index m.l.blocks x) 0 n
        → Ready ground p (record m { w = w }) (record q { memory = new }))
        → Claim (next m.callers m.g m.more m.frame w) w.turns (state q) q.before
    by_fill x n is fits code w show =
        let within = block_within x is in
        let fr = ready.frame in
        let top = ground.stack_end in
        let e = next m.callers m.g m.more m.frame w in
        let goal = aim ground p built Claim claims e w.turns q in
        let rest = steps_code p.places m.g m.l m.more in
        let a = m.sp + slice_index m.l.blocks x in
        let address = block_code m.l 10 x 0 in
        let number = number_code 12 n in
        let call = call_code fill_entry in
        let c1 = subst (Here ground p q.pc) (append_assoc address (Addi 11 0 (pos 0) ∷ (number ++ call)) rest) code in
        let pc1 = q.pc + 4 * length address in
        let c2 = code_back ground q.pc address ((Addi 11 0 (pos 0) ∷ (number ++ call)) ++ rest) c1 in
        let pc2 = pc1 + 4 in
        let c3 = subst (Here ground p pc2) (append_assoc number call rest) c2.1 in
        let pc3 = pc2 + 4 * length number in
        let c4 = code_back ground pc2 number (call ++ rest) c3 in
        let back = pc3 + 4 + 4 in
        let f1 = put q.f 10 a in
        let f2 = put f1 11 0 in
        let f3 = put f2 12 (n % 2 ^ 32) in
        let f4 = put f3 1 back in
        let keeps = ready.world.keeps in
        let same : n % 2 ^ 32 ≡ n = omega (arith, fr.high, within.high) in
        let at_a : (q.f 2 + (slice_index m.l.blocks x + 0)) % 2 ^ 32 ≡ a = omega (arith, ready.stack, fr.high, within.high) in
        let zero' : plus (f1 0) (pos 0) ≡ 0 = ap (λ (z : ℕ). plus z (pos 0)) ready.nil in
        let small : back < 2 ^ 32 = omega (arith, c4.1.0.below) in
        let entered : Entered ground.segments ground.text q.memory f4 back = record {
          runtime = ground.runtime;
          keeps = keeps;
          returns = record { nil = ready.nil; link = refl; whole = omega (arith, ready.whole); code = omega (arith, ready.code); small = small };
        } in
        let fill = (routines_work ground.segments ground.text q.memory q.input q.output f4 back entered).fill (omega (arith, fr.high, within.high))
        (λ lt. omega (arith, fr.low)) (subst (λ (k : ℕ). are_mapped ground.segments writable a k ≡ true) (sym same)
        (ground.write a n (inr (inl (omega (arith, fr.low), omega (arith, fr.high, within.high)))))) in
        let after = fill.0 in
        let filled : Filled q.memory after a 0 n = subst (λ (k : ℕ). Filled q.memory after a 0 k) same fill.1 in
        let comes = fill.2 in
        let done = show after (filled_keeps ground.text q.memory after a 0 n keeps filled (omega (arith, fr.low))) filled in
        by_address ground goal q.f q.pc q.memory keeps ready.code 10 2 (slice_index m.l.blocks x + 0) a (omega arith) (omega arith) (omega arith) (λ d. omega arith)
        (code_front ground q.pc address ((Addi 11 0 (pos 0) ∷ (number ++ call)) ++ rest) c1) at_a
        (by_addi ground goal f1 pc1 q.memory keeps (omega (arith, ready.code)) 11 0 0 (pos 0) c2.0 (omega arith) (omega arith) zero'
        (by_number ground goal f2 pc2 q.memory keeps (omega (arith, ready.code)) 12 n (omega arith) (omega arith) ready.nil (code_front ground pc2 number (call ++ rest) c3)
        (by_routine ground goal f3 pc3 q.memory fill_entry [] keeps (omega (arith, ready.code)) (code_front ground pc3 call rest c4) refl (omega arith) refl
        (leads_back ground goal (at f4 fill_entry q.memory q.input q.output) (at comes.registers back after q.input q.output) [] comes.leads
        (follows (record m { w = w }) (record q { f = comes.registers; pc = back; memory = after })
        (elsewhere ground p (record m { w = w }) (record q { memory = after }) done comes.registers back (comes.leaves 0 (inl (omega arith)))
        (comes.leaves 2 (inl (omega arith))) (omega (arith, ready.code)) (omega (arith, ready.whole)))
        c4.1.1)))))

    pub zeros_works : (x n : ℕ) → Works ground p built Claim claims next m q (S.Zeros x n)
    zeros_works x n code fits = by_slot (slice_get m.frame x) refl
      where
        plain : (v : Option Value) → SlotShows ground p m.blocks m.owner q.memory m.g m.l m.sp x (by_name v) → is_block m.g x ≡ false
        plain None h = h
        plain (Some v) h = h.0

        none : (all : Frame) (i : ℕ) → i < length all → slice_get all i ≡ None → ⊥
        none [] i lt e = omega arith
        none (s ∷ all) zero lt e = cc
        none (s ∷ all) (suc i) lt e = none all i (omega arith) e

        known : is_block m.g x ≡ true
        known = ap (λ (o : Option Bool). unwrap_or o false) fits.kinds.1

        zero_cell : (k i : ℕ) (c : Cell) → slice_get (replicate k (C.Byte 0)) i ≡ Some c → (i < k) × (C.Byte 0 ≡ c)
        zero_cell zero i c g = absurd cc
        zero_cell (suc k) zero c g = (omega arith, cc)
        zero_cell (suc k) (suc i) c g = (let h = zero_cell k i c g in (omega (arith, h.0), h.1))

        by_slot : (o : Option Slot) → slice_get m.frame x ≡ o
            → Claim (written 0 (replicate n (C.Byte 0)) o (λ u. next m.callers m.g m.more) m.frame m.w) m.w.turns (state q) q.before
        by_slot (Some (in_block (Some b))) is =
            let a = m.sp + slice_index m.l.blocks x in
            let within = block_within x known in
            let cells = replicate n (C.Byte 0) in
            let long = length-replicate n (C.Byte 0) in
            by_fill x n known fits.numbers code (record m.w { memory = with_cells m.w.memory b 0 cells })
            λ new keeps filled. changed_inside ground p m q ready x 0 n (with_cells m.w.memory b 0 cells) new (omega (arith, fits.numbers)) within.low within.high keeps
            (written_inside ground p m q ready x b is 0 cells new (omega (arith, long, fits.numbers))
            (λ i c g. let h = zero_cell n i c g in
            let z : a + i ≡ a + 0 + i = omega arith in
            subst (λ k. Shows p.code p.places m.blocks k (new (a + 0 + i))) h.1 (ap new (sym z) ∙ filled.inside i h.0))
            (λ c out. filled.outside c (outside (length cells) c a long out)))
            (λ c out. filled.outside c (outside n c a refl out))
          where
            outside : (k c a : ℕ) → k ≡ n → (c < a + 0) ⊎ (a + 0 + k ≤ c) → (c < a) ⊎ (a + n ≤ c)
            outside k c a e (inl lt) = inl (omega arith)
            outside k c a e (inr le) = inr (omega arith)
        by_slot (Some (in_block None)) is =
            let a = m.sp + slice_index m.l.blocks x in
            let within = block_within x known in
            by_fill x n known fits.numbers code m.w
            λ new keeps filled. changed_inside ground p m q ready x 0 n m.w.memory new (omega (arith, fits.numbers)) within.low within.high keeps
            (flat_stays p.code p.places ground.room m.blocks m.owner m.w.memory q.memory new ready.world.flat
            (λ c b o. filled.outside c (apart c b o (ready.frame.shows x (in_block None) is).1)))
            (λ c out. filled.outside c (outside c a out))
          where
            outside : (c a : ℕ) → (c < a + 0) ⊎ (a + 0 + n ≤ c) → (c < a) ⊎ (a + n ≤ c)
            outside c a (inl lt) = inl (omega arith)
            outside c a (inr le) = inr (omega arith)

            apart : (c b : ℕ) → m.owner c ≡ Some b
                → OwnedBy ground p m.blocks m.owner q.memory (m.sp + slice_index m.l.blocks x) (slice_index (block_sizes m.g) x) None
                → (c < m.sp + slice_index m.l.blocks x) ⊎ (m.sp + slice_index m.l.blocks x + n ≤ c)
            apart c b o h = elim (cases_lt c (m.sp + slice_index m.l.blocks x)) [
              | inl lt ↦ inl lt
              | inr le ↦ elim (cases_lt c (m.sp + slice_index m.l.blocks x + n)) [
                | inl lt ↦ absurd (let d : None ≡ Some b = h c b le (omega (arith, fits.numbers)) o in cc)
                | inr ge ↦ inr ge
              ]
            ]
        by_slot (Some (by_name v)) is = absurd (both_ways (is_block m.g x) (plain v (ready.frame.shows x (by_name v) is)) known)
        by_slot None is = absurd (none m.frame x (omega (arith, ready.frame.locals, get_below m.g.locals x true fits.kinds.1)) is)
