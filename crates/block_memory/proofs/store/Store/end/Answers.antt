use Rattle.std.proofs.Common.{◌≡◌, ◌+◌, ◌*◌, length, replicate, true, false, arith, refl, sym, ap, ◌∙◌}
use Rattle.std.proofs.lemmas.List.{length-replicate}
use Rattle.memory_words.specs.declared.cell_words.cell.Cell.TheVariants.{Empty}
use Rattle.block_memory.specs.declared.slot.Slot.{Slot}
use Rattle.block_memory.specs.Cells.{over}
use Rattle.block_memory.specs.Lifetimes.{with_end}
use Rattle.block_memory.specs.Slots.{end_of, holds, slot_at}
use Rattle.block_memory.proofs.Beginning.{ended_before, ended_now, sound_ended, sound_given}
use Rattle.block_memory.proofs.Gathering.{settled_ended}
use Rattle.block_memory.proofs.Overs.{length_over}
use Rattle.block_memory.proofs.Sound.{holds_of_live, known_of_live}
use Rattle.block_memory.proofs.store.Store.end.Goals as goal

pub invariant_of-self : goal.invariant_of-self
invariant_of-self c =
    let s = c.unsettle.new.self in
    let is = c.unsettle.ensures.slot in
    let lives : (slot_at s.slots c.args.block).live ≡ true = ap (λ s. s.live) (sym is) ∙ c.if-slot.true in
    let after : Slot = record { kind = c.slot-slot.result.kind; live = false; start = 0; size = c.slot-slot.result.size } in
    let there = s.sound.there c.args.block lives in
    let long : length c.fill.new.self ≡ length s.arena = ap length c.fill.ensures
    ∙ length_over s.arena (replicate c.slot-slot.result.size Empty) (4 * c.slot-slot.result.start) (omega (arith, there, ap (λ s. s.start) is, ap (λ s. s.size) is, length-replicate c.slot-slot.result.size Empty)) in
    let held : holds (slot_at s.slots c.args.block) ≡ true = holds_of_live (slot_at s.slots c.args.block) lives (omega (arith, ap (λ s. s.size) is, c.if-slot-gt0.true)) in
    let last : end_of (slot_at s.slots c.args.block) ≡ s.free = ap end_of (sym is) ∙ ap (λ n. c.slot-slot.result.start + n) (sym c.words_for-count.ensures.is) ∙ c.if-start-count.true in
    record {
      sound = rw is (sound_given s.slots c.set.new.self s.arena c.fill.new.self s.free c.args.block after s.sound (known_of_live s.slots c.args.block lives) refl c.set.ensures long held last);
      settles = settled_ended s.slots c.set.new.self s.free c.slot-slot.result.start c.args.block s.settled s.settled_words after s.settles (known_of_live s.slots c.args.block lives) refl c.set.ensures
          (let behind = s.settles.gathered.behind c.args.block (c.unsettle.ensures.settled (ap holds is ∙ held)) held in omega (arith, behind, ap (λ s. s.start) is));
    }

pub invariant_of-self-else-slot-gt0 : goal.invariant_of-self-else-slot-gt0
invariant_of-self-else-slot-gt0 c =
    let s = c.unsettle.new.self in
    let is = c.unsettle.ensures.slot in
    let lives : (slot_at s.slots c.args.block).live ≡ true = ap (λ s. s.live) (sym is) ∙ c.if-slot.true in
    let after : Slot = record { kind = c.slot-slot.result.kind; live = false; start = 0; size = c.slot-slot.result.size } in
    let there = s.sound.there c.args.block lives in
    let long : length c.fill.new.self ≡ length s.arena = ap length c.fill.ensures
    ∙ length_over s.arena (replicate c.slot-slot.result.size Empty) (4 * c.slot-slot.result.start) (omega (arith, there, ap (λ s. s.start) is, ap (λ s. s.size) is, length-replicate c.slot-slot.result.size Empty)) in
    record {
      sound = sound_ended s.slots c.set.new.self s.arena c.fill.new.self s.free c.args.block after s.sound (known_of_live s.slots c.args.block lives) refl c.set.ensures long;
      settles = settled_ended s.slots c.set.new.self s.free s.free c.args.block s.settled s.settled_words after s.settles (known_of_live s.slots c.args.block lives) refl c.set.ensures s.settles.within;
    }

pub returns-then-start-count : goal.returns-then-start-count
returns-then-start-count c =
    let s = c.unsettle.new.self in
    let r = c.slot-slot.result in
    let is = c.unsettle.ensures.slot in
    let lives : (slot_at s.slots c.args.block).live ≡ true = ap (λ s. s.live) (sym is) ∙ c.if-slot.true in
    let after : Slot = record { kind = r.kind; live = false; start = 0; size = r.size } in
    ended_now s.slots c.set.new.self s.arena c.fill.new.self s.free c.args.block after (replicate r.size Empty) s.sound lives
    (omega (arith, length-replicate r.size Empty, ap (λ s. s.size) is))
    (c.fill.ensures ∙ ap (λ s. over c.unsettle.new.self.arena (4 * s.start) (replicate r.size Empty)) is)
    (ap (λ s. record { kind = s.kind; live = false; start = 0; size = s.size }) is) c.set.ensures
    ∙ ap (λ m. with_end m c.args.block) c.unsettle.ensures.memory

pub returns-else-slot-gt0 : goal.returns-else-slot-gt0
returns-else-slot-gt0 c =
    let s = c.unsettle.new.self in
    let r = c.slot-slot.result in
    let is = c.unsettle.ensures.slot in
    let lives : (slot_at s.slots c.args.block).live ≡ true = ap (λ s. s.live) (sym is) ∙ c.if-slot.true in
    let after : Slot = record { kind = r.kind; live = false; start = 0; size = r.size } in
    ended_now s.slots c.set.new.self s.arena c.fill.new.self s.free c.args.block after (replicate r.size Empty) s.sound lives
    (omega (arith, length-replicate r.size Empty, ap (λ s. s.size) is))
    (c.fill.ensures ∙ ap (λ s. over c.unsettle.new.self.arena (4 * s.start) (replicate r.size Empty)) is)
    (ap (λ s. record { kind = s.kind; live = false; start = 0; size = s.size }) is) c.set.ensures
    ∙ ap (λ m. with_end m c.args.block) c.unsettle.ensures.memory

pub returns-else-slot : goal.returns-else-slot
returns-else-slot c =
    let s = c.args.self.now in ended_before s.slots s.arena c.args.block c.slot-slot.result c.slot-slot.ensures.is c.if-slot.false

pub fill-requires-clause-within : goal.fill-requires-clause-within
fill-requires-clause-within c =
    let s = c.unsettle.new.self in
    let is = c.unsettle.ensures.slot in
    let there = s.sound.there c.args.block (ap (λ s. s.live) (sym is) ∙ c.if-slot.true) in
    omega (arith, there, ap (λ s. s.start) is, ap (λ s. s.size) is)

pub set-requires-clause-known : goal.set-requires-clause-known
set-requires-clause-known c = known_of_live c.unsettle.new.self.slots c.args.block (ap (λ s. s.live) (sym c.unsettle.ensures.slot) ∙ c.if-slot.true)
