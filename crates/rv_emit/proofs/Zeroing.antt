-- Blocks of locals that hold zeros: a call of the routine that fills.
use Rattle.std.proofs.Common.{◌≡◌, ◌≢◌, ℕ, ◌+◌, ◌<◌, ◌≤◌, ◌⊎◌, inl, inr, List, length, Some}
use Rattle.std.proofs.Common.{slice_get, slice_set, slice_index, refl, ap, sym, ◌∙◌, subst, arith}
use Rattle.std.proofs.lemmas.Bool.{cases_lt}
use Rattle.memory_words.specs.declared.cell_words.cell.Cell.{Cell}
use Rattle.block_memory.specs.Blocks.{Memory, Contents, living, ended, overwritten, block, kind, lives_in, size_in, with_cells}
use Rattle.block_memory.specs.Lifetimes.{with_end}
use Rattle.c_meaning.specs.declared.frame.Slot.TheVariants.{InBlock as in_block}
use Rattle.rv_isa.specs.Memory as M
use Rattle.rv_isa.specs.Memory.{are_mapped, word_at, writable}
use Rattle.rv_runtime.specs.Steps.States.{Keeps, at}
use Rattle.rv_runtime.proofs.Steps.Words.{word_same}
use Rattle.rv_code.specs.Frames.{block_sizes, slot_at, slots}
use Rattle.rv_emit.specs.Maps.{Extent, Flat, Shows}
use Rattle.rv_emit.specs.Grounds.{Ground}
use Rattle.rv_emit.specs.Relation.{Program, Moment, Point, Ready, Callers, OwnedBy}
use Rattle.rv_emit.proofs.Cells.{flat_written}
use Rattle.rv_emit.proofs.Ending.{flat_dead, other_cell}
use Rattle.rv_emit.proofs.Keeping.{KeepsOther, callers_stay, framed_private, world_moved}

module _ (ground : Ground) (p : Program) (m : Moment) (q : Point) (ready : Ready ground p m q) (x : ℕ) where
  abbrev place : ℕ
  place = m.sp + slice_index m.l.blocks x

  abbrev extent : Extent
  extent = record { at = place; size = slice_index (block_sizes m.g) x }

  -- memory that changes in the block of a local alone, and shows what blocks hold then
  pub changed_inside : (at n : ℕ) (after : Memory) (new : M.Memory) → at + n ≤ slice_index (block_sizes m.g) x → slot_at (slots m.g) ≤ slice_index m.l.blocks x
      → slice_index m.l.blocks x + slice_index (block_sizes m.g) x ≤ m.l.size → Keeps ground.text new → Flat p.code p.places ground.room m.blocks m.owner after new
      → ((c : ℕ) → (c < place + at) ⊎ (place + at + n ≤ c) → new c ≡ q.memory c)
      → Ready ground p (record m { w = record m.w { memory = after } }) (record q { memory = new })
  changed_inside at n after new fits low high keeps flat others =
      let fr = ready.frame in
      let top = ground.stack_end in
      let above : KeepsOther m.owner (m.sp + m.l.size) q.memory new = λ c none le. others c (inr (omega arith)) in
      let back : word_at new m.sp ≡ word_at q.memory m.sp = word_same q.memory new m.sp (λ k lt. others (m.sp + k) (inl (omega arith))) in
      let callers = callers_stay ground p m.blocks m.owner q.memory new m.numbers m.callers (m.sp + m.l.size) (word_at q.memory m.sp) above ready.callers in
      record {
        nil = ready.nil;
        stack = ready.stack;
        code = ready.code;
        whole = ready.whole;
        fits = ready.fits;
        world = world_moved ground p m.blocks m.owner q.memory new m.w after q.input q.output q.before keeps flat
            (λ c none out ne. others c (outside c out fr.low fr.high top)) ready.world;
        frame = framed_private ground p m.blocks m.owner q.memory new m.number m.g m.l m.frame m.sp (λ c lo hi. others c (inl (omega arith))) fr;
        callers = subst (Callers ground p m.blocks m.owner new m.numbers m.callers (m.sp + m.l.size)) (sym back) callers;
        below = ready.below;
        runs = ready.runs;
      }
    where
      outside : (c : ℕ) → (c < 0x10000000) ⊎ (0x18000000 ≤ c) → 0x10000000 ≤ m.sp → m.sp + m.l.size ≤ ground.room.stack_end → ground.room.stack_end ≤ 0x18000000
          → (c < place + at) ⊎ (place + at + n ≤ c)
      outside c (inl lt) lo hi top = inl (omega arith)
      outside c (inr le) lo hi top = inr (omega arith)

  module _ (b : ℕ) (is : slice_get m.frame x ≡ Some (in_block (Some b))) where
    -- bytes in the place of a local's block show cells that are written there
    pub written_inside : (at : ℕ) (cells : List Cell) (new : M.Memory) → at + length cells ≤ slice_index (block_sizes m.g) x
        → ((i : ℕ) (c : Cell) → slice_get cells i ≡ Some c → Shows p.code p.places m.blocks c (new (place + at + i)))
        → ((c : ℕ) → (c < place + at) ⊎ (place + at + length cells ≤ c) → new c ≡ q.memory c)
        → Flat p.code p.places ground.room m.blocks m.owner (with_cells m.w.memory b at cells) new
    written_inside at cells new fits shows others = by_contents (block m.w.memory b).contents refl
      where
        flat : Flat p.code p.places ground.room m.blocks m.owner m.w.memory q.memory
        flat = ready.world.flat

        by_contents : (k : Contents) → (block m.w.memory b).contents ≡ k → Flat p.code p.places ground.room m.blocks m.owner (with_cells m.w.memory b at cells) new
        by_contents (living all) e =
            let mine = ready.frame.shows x (in_block (Some b)) is in
            let placed = flat.placed b extent mine.2 in
            flat_written p.code p.places ground.room m.blocks m.owner m.w.memory q.memory new flat b at extent cells (ap lives_in e) (omega (arith, placed.sized))
            mine.2 shows others
        -- a block that has ended has no cells, and the addresses are no other block's
        by_contents (ended k) e =
            let mine = ready.frame.shows x (in_block (Some b)) is in
            let dead = flat_dead ground p m.blocks m.owner m.w.memory q.memory flat b in
            let same : with_end m.w.memory b ≡ with_cells m.w.memory b at cells =
            ap (λ (z : Contents). slice_set m.w.memory b (record { kind = kind m.w.memory b; contents = ended (size_in z) })) e
            ∙ sym (ap (λ (z : Contents). slice_set m.w.memory b (record { kind = kind m.w.memory b; contents = overwritten z at cells })) e) in
            subst (λ z. Flat p.code p.places ground.room m.blocks m.owner z new) same
            (record {
              long = dead.long;
              placed = dead.placed;
              shows = λ c i ext cell h g.
                  let o = other_cell ground p m.blocks m.owner m.w.memory q.memory flat b c i cell g in
                  let owned = flat.owned c i ext cell h o.1 in
                  let kept : new (ext.at + i) ≡ q.memory (ext.at + i) = others (ext.at + i) (apart (ext.at + i) c owned o.0 mine.1) in
                  subst (Shows p.code p.places m.blocks cell) (sym kept) (flat.shows c i ext cell h o.1);
              owned = dead.owned;
            })
          where
            apart : (a c : ℕ) → m.owner a ≡ Some c → c ≢ b → OwnedBy ground p m.blocks m.owner q.memory place (slice_index (block_sizes m.g) x) (Some b)
                → (a < place + at) ⊎ (place + at + length cells ≤ a)
            apart a c o ne h = elim (cases_lt a (place + at)) [
              | inl lt ↦ inl lt
              | inr le ↦ elim (cases_lt a (place + at + length cells)) [
                | inl lt ↦ absurd (let d : Some b ≡ Some c = h a c (omega arith) (omega (arith, fits)) o in let k : b ≡ c = cc in ne (sym k))
                | inr ge ↦ inr ge
              ]
            ]
