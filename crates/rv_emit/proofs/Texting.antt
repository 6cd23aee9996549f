-- Bytes of texts that come to blocks of locals: a call of the routine that copies.
use Rattle.std.proofs.Common.{◌≡◌, ℕ, zero, suc, ◌+◌, ◌*◌, ◌%◌, ◌^◌, ◌<◌, ◌≤◌, ◌⊎◌, inl, inr, Bool, true, false, List, [], ◌∷◌, ◌++◌, length, map, get_or, Option, Some, None}
use Rattle.std.proofs.Common.{slice_get, slice_index, refl, ap, sym, ◌∙◌, subst, arith, append_assoc}
use Rattle.std.specs.Prelude.{unwrap_or}
use Rattle.std.proofs.lemmas.Bool.{both_ways, cases_lt}
use Rattle.memory_words.specs.declared.cell_words.cell.Cell.{Cell}
use Rattle.memory_words.specs.declared.cell_words.cell.Cell.TheVariants as C
use Rattle.block_memory.specs.Blocks.{Memory, with_cells}
use Rattle.block_memory.specs.declared.run_worlds.value.Value.{Value}
use Rattle.block_memory.specs.declared.run_worlds.value.Value.TheVariants.{Word as word}
use Rattle.c_meaning.specs.Frames.{Frame}
use Rattle.c_meaning.specs.declared.frame.Slot.{Slot}
use Rattle.c_meaning.specs.declared.frame.Slot.TheVariants.{ByName as by_name, InBlock as in_block}
use Rattle.rv_isa.specs.Memory as M
use Rattle.rv_isa.specs.Memory.{are_mapped, readable}
use Rattle.rv_runtime.specs.Steps.States.{Keeps, put}
use Rattle.rv_runtime.proofs.Steps.Ranges.{mapped_each}
use Rattle.rv_runtime.specs.Effects.{Copied}
use Rattle.rv_runtime.specs.Routines.{copy_entry}
use Rattle.rv_code.specs.Code.{block_code, is_block, steps_code}
use Rattle.rv_code.specs.Frames.{block_sizes}
use Rattle.rv_code.specs.Words.{call_code, number_code, place_code}
use Rattle.rv_code.proofs.Lists.{text_found, text_missing}
use Rattle.tac_ir.specs.Running.{Next, written}
use Rattle.tac_ir.specs.declared.step.Step.TheVariants as S
use Rattle.rv_emit.specs.Maps.{Shows}
use Rattle.rv_emit.specs.Grounds.{Ground}
use Rattle.rv_emit.specs.Relation.{Program, Moment, Point, Ready, Here, IsBuilt, OwnedBy, SlotShows}
use Rattle.rv_emit.specs.Claims.{Claims, AreClaims, Follows, state}
use Rattle.rv_emit.proofs.Copying.{Copies, by_copy, copied_keeps}
use Rattle.rv_emit.proofs.Filling.{block_within}
use Rattle.rv_emit.proofs.Giving.{elsewhere}
use Rattle.rv_emit.proofs.Keeping.{flat_stays}
use Rattle.rv_emit.proofs.Lists.{get_below}
use Rattle.rv_emit.proofs.Moves.{by_address, by_place, parts}
use Rattle.rv_emit.proofs.Plain.{Works, aim}
use Rattle.rv_emit.proofs.Zeroing.{changed_inside, written_inside}

byte_cell : (bytes : List ℕ) (i : ℕ) (c : Cell) → slice_get (map C.Byte bytes) i ≡ Some c → (i < length bytes) × (C.Byte (slice_index bytes i) ≡ c)
byte_cell [] i c g = absurd cc
byte_cell (x ∷ bytes) zero c g = (omega arith, cc)
byte_cell (x ∷ bytes) (suc i) c g = (let h = byte_cell bytes i c g in (omega (arith, h.0), h.1))

cells_long : (bytes : List ℕ) → length (map C.Byte bytes) ≡ length bytes
cells_long [] = refl
cells_long (x ∷ bytes) = ap suc (cells_long bytes)

-- bytes that stand in memory, and may be read, from the low bits of a place on
record Text (ground : Ground) (memory : M.Memory) (y : ℕ) (bytes : List ℕ) : Type 0 where
  fits : y + length bytes < 2 ^ 32
  reads : are_mapped ground.segments readable y (length bytes) ≡ true
  holds : (i : ℕ) → i < length bytes → memory (y + i) ≡ slice_index bytes i

module _ (ground : Ground) (p : Program) (built : IsBuilt ground p) (m : Moment) (q : Point) (ready : Ready ground p m q) where
  text_there : (n : ℕ) → Text ground q.memory (slice_index m.l.texts n % 2 ^ 32) (get_or m.g.texts n [])
  text_there n = by_option (slice_get m.g.texts n) refl
    where
      by_option : (o : Option (List ℕ)) → slice_get m.g.texts n ≡ o → Text ground q.memory (slice_index m.l.texts n % 2 ^ 32) (get_or m.g.texts n [])
      by_option (Some bytes) e =
          let t = slice_index m.l.texts n in
          let h = ready.world.texts t bytes (ready.frame.laid.texts n bytes e) in
          let top = ground.data_end in
          let same : t % 2 ^ 32 ≡ t = omega (arith, h.2) in
          subst (Text ground q.memory (t % 2 ^ 32)) (sym (text_found m.g.texts n bytes e))
          (subst (λ k. Text ground q.memory k bytes) (sym same)
          (record { fits = omega (arith, h.2); reads = ground.read t (length bytes) (inl (omega (arith, h.1), h.2)); holds = λ i lt. (h.0).by i lt }))
      by_option None e =
          let t = slice_index m.l.texts n % 2 ^ 32 in
          subst (Text ground q.memory t) (sym (text_missing m.g.texts n e))
          (record { fits = omega arith; reads = mapped_each ground.segments readable t 0 (λ i lt. absurd (omega arith)); holds = λ i lt. absurd (omega arith) })

  module _ (Claim : Claims) (claims : AreClaims ground p Claim) (next : Next) (follows : Follows ground p Claim next) where
    pub text_works : (x by n : ℕ) → Works ground p built Claim claims next m q (S.Text x by n)
    text_works x by n code fits = by_slot (slice_get m.frame x) refl
      where
        plain : (v : Option Value) → SlotShows ground p m.blocks m.owner q.memory m.g m.l m.sp x (by_name v) → is_block m.g x ≡ false
        plain None h = h
        plain (Some v) h = h.0

        none : (all : Frame) (i : ℕ) → i < length all → slice_get all i ≡ None → ⊥
        none [] i lt e = omega arith
        none (s ∷ all) zero lt e = cc
        none (s ∷ all) (suc i) lt e = none all i (omega arith) e

        known : is_block m.g x ≡ true
        known = ap (λ (o : Option Bool). unwrap_or o false) fits.kinds.1

        -- the call, after which memory shows what the run has made of its blocks
        by_text : (after : Memory)
            → ((new : M.Memory) → Keeps ground.text new
            → Copied q.memory new (m.sp + (slice_index m.l.blocks x + by)) (slice_index m.l.texts n % 2 ^ 32) (length (get_or m.g.texts n []))
            → Ready ground p (record m { w = record m.w { memory = after } }) (record q { memory = new }))
            → Claim (next m.callers m.g m.more m.frame (record m.w { memory = after })) m.w.turns (state q) q.before
        by_text after show =
            let t = slice_index m.l.texts n in
            let y = t % 2 ^ 32 in
            let k = length (get_or m.g.texts n []) in
            let there = text_there n in
            let within = block_within ground p m q ready x known in
            let fr = ready.frame in
            let top = ground.stack_end in
            let offset = slice_index m.l.blocks x + by in
            let a = m.sp + offset in
            let address = block_code m.l 10 x by in
            let source = place_code 11 t in
            let tail = number_code 12 k ++ call_code copy_entry in
            let rest = steps_code p.places m.g m.l m.more in
            let d = parts ground q.pc address (source ++ tail) rest code in
            let pc1 = q.pc + 4 * length address in
            let d' = subst (Here ground p pc1) (append_assoc source tail rest) d.1 in
            let e = next m.callers m.g m.more m.frame (record m.w { memory = after }) in
            let goal = aim ground p built Claim claims e m.w.turns q in
            let f1 = put q.f 10 a in
            let f2 = put f1 11 y in
            let pc2 = pc1 + 4 + 4 in
            let r : Point = record q { f = f2; pc = pc2 } in
            let at_a : (q.f 2 + offset) % 2 ^ 32 ≡ a = omega (arith, ready.stack, fr.high, within.high, fits.numbers) in
            let copies : Copies ground p built m q ready (word 0) (word 0) a y k after = record {
              fits_to = omega (arith, fr.high, within.high, fits.numbers);
              fits_from = there.fits;
              low = λ lt. omega (arith, fr.low);
              reads = there.reads;
              writes = ground.write a k (inr (inl (omega (arith, fr.low), omega (arith, fr.high, within.high, fits.numbers))));
              done = λ new copied. show new (copied_keeps ground.text q.memory new a y k ready.world.keeps copied (λ lt. omega (arith, fr.low))) copied;
            } in
            by_address ground goal q.f q.pc q.memory ready.world.keeps ready.code 10 2 offset a (omega arith) (omega arith) (omega arith) (λ z. omega arith) d.0 at_a
            (by_place ground goal f1 pc1 q.memory ready.world.keeps (omega (arith, ready.code)) 11 t (omega arith) (omega arith) (d'.0, (d'.1.0, tt))
            (by_copy ground p built m q ready Claim claims next follows (word 0) (word 0) a y k after copies
            (omega (arith, fr.high, within.high, fits.numbers)) r
            (elsewhere ground p m q ready f2 pc2 refl refl (omega (arith, ready.code)) (omega (arith, ready.whole))) refl refl refl refl refl refl d'.1.1))

        by_slot : (o : Option Slot) → slice_get m.frame x ≡ o
            → Claim (written by (map C.Byte (get_or m.g.texts n [])) o (λ u. next m.callers m.g m.more) m.frame m.w) m.w.turns (state q) q.before
        by_slot (Some (by_name v)) is = absurd (both_ways (is_block m.g x) (plain v (ready.frame.shows x (by_name v) is)) known)
        by_slot None is = absurd (none m.frame x (omega (arith, ready.frame.locals, get_below m.g.locals x true fits.kinds.1)) is)
        by_slot (Some (in_block (Some b))) is =
            let bytes = get_or m.g.texts n [] in
            let cells = map C.Byte bytes in
            let a = m.sp + slice_index m.l.blocks x in
            let within = block_within ground p m q ready x known in
            let there = text_there n in
            by_text (with_cells m.w.memory b by cells)
            λ new keeps copied. changed_inside ground p m q ready x by (length bytes) (with_cells m.w.memory b by cells) new fits.numbers within.low within.high keeps
            (written_inside ground p m q ready x b is by cells new (omega (arith, cells_long bytes, fits.numbers))
            (λ i c g. let h = byte_cell bytes i c g in
            let z : m.sp + (slice_index m.l.blocks x + by) + i ≡ a + by + i = omega arith in
            subst (λ k. Shows p.code p.places m.blocks k (new (a + by + i))) h.1 (ap new (sym z) ∙ copied.inside i h.0 ∙ there.holds i h.0))
            (λ c out. copied.outside c (moved c (length cells) (cells_long bytes) out)))
            (λ c out. copied.outside c (moved c (length bytes) refl out))
          where
            moved : (c k : ℕ) → k ≡ length (get_or m.g.texts n []) → (c < m.sp + slice_index m.l.blocks x + by) ⊎ (m.sp + slice_index m.l.blocks x + by + k ≤ c)
                → (c < m.sp + (slice_index m.l.blocks x + by)) ⊎ (m.sp + (slice_index m.l.blocks x + by) + length (get_or m.g.texts n []) ≤ c)
            moved c k e (inl lt) = inl (omega arith)
            moved c k e (inr le) = inr (omega arith)
        by_slot (Some (in_block None)) is =
            let within = block_within ground p m q ready x known in
            by_text m.w.memory
            λ new keeps copied. changed_inside ground p m q ready x by (length (get_or m.g.texts n [])) m.w.memory new fits.numbers within.low within.high keeps
            (flat_stays p.code p.places ground.room m.blocks m.owner m.w.memory q.memory new ready.world.flat
            (λ c b o. copied.outside c (apart c b o (ready.frame.shows x (in_block None) is).1)))
            (λ c out. copied.outside c (moved c out))
          where
            moved : (c : ℕ) → (c < m.sp + slice_index m.l.blocks x + by) ⊎ (m.sp + slice_index m.l.blocks x + by + length (get_or m.g.texts n []) ≤ c)
                → (c < m.sp + (slice_index m.l.blocks x + by)) ⊎ (m.sp + (slice_index m.l.blocks x + by) + length (get_or m.g.texts n []) ≤ c)
            moved c (inl lt) = inl (omega arith)
            moved c (inr le) = inr (omega arith)

            apart : (c b : ℕ) → m.owner c ≡ Some b
                → OwnedBy ground p m.blocks m.owner q.memory (m.sp + slice_index m.l.blocks x) (slice_index (block_sizes m.g) x) None
                → (c < m.sp + (slice_index m.l.blocks x + by)) ⊎ (m.sp + (slice_index m.l.blocks x + by) + length (get_or m.g.texts n []) ≤ c)
            apart c b o h = elim (cases_lt c (m.sp + (slice_index m.l.blocks x + by))) [
              | inl lt ↦ inl lt
              | inr le ↦ elim (cases_lt c (m.sp + (slice_index m.l.blocks x + by) + length (get_or m.g.texts n []))) [
                | inl lt ↦ absurd (let d : None ≡ Some b = h c b (omega arith) (omega (arith, fits.numbers)) o in cc)
                | inr ge ↦ inr ge
              ]
            ]
