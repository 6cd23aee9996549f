use Rattle.std.proofs.Common.{refl, ◌≡◌, sym, ap, ◌∙◌, arith}
use Rattle.block_memory.specs.declared.slot.Slot.{Slot}
use Rattle.block_memory.specs.Cells.{IsShifted}
use Rattle.block_memory.specs.Slots.{slot_at, words_for}
use Rattle.block_memory.proofs.Gathering.{lowered_gathered, lowered_memory, lowered_sound, settled_lowered}
use Rattle.block_memory.proofs.Sound.{before_free, known_of_live, live_of_holds}
use Rattle.block_memory.proofs.store.Store.lower.Goals as goal

pub invariant_of-self : goal.invariant_of-self
invariant_of-self c =
    let s = c.args.self.now in
    let is = c.slot-slot.ensures.is in
    let shift : IsShifted s.arena c.shift.new.self (slot_at s.slots c.args.block).start c.args.to (words_for (slot_at s.slots c.args.block).size) =
    rw (sym is, sym c.words_for-count.ensures.is) c.shift.ensures in
    let after : Slot = record { kind = c.slot-slot.result.kind; live = c.slot-slot.result.live; start = c.args.to; size = c.slot-slot.result.size } in
    record {
      sound = lowered_sound s.slots c.set.new.self s.arena c.shift.new.self s.free c.args.block c.args.to after s.sound c.requires.gathered c.requires.holds c.requires.down shift
          (ap (λ s. record { kind = s.kind; live = s.live; start = c.args.to; size = s.size }) is) c.set.ensures;
      settles = settled_lowered s.slots c.set.new.self s.free c.args.block s.settled s.settled_words c.args.to after s.settles c.requires.settled
          (known_of_live s.slots c.args.block (live_of_holds (slot_at s.slots c.args.block) c.requires.holds)) c.requires.behind refl c.set.ensures;
    }

pub returns-clause-memory : goal.returns-clause-memory
returns-clause-memory c =
    let s = c.args.self.now in
    let is = c.slot-slot.ensures.is in
    let shift : IsShifted s.arena c.shift.new.self (slot_at s.slots c.args.block).start c.args.to (words_for (slot_at s.slots c.args.block).size) =
    rw (sym is, sym c.words_for-count.ensures.is) c.shift.ensures in
    let after : Slot = record { kind = c.slot-slot.result.kind; live = c.slot-slot.result.live; start = c.args.to; size = c.slot-slot.result.size } in
    lowered_memory s.slots c.set.new.self s.arena c.shift.new.self s.free c.args.block c.args.to after s.sound c.requires.gathered c.requires.holds c.requires.down shift
    (ap (λ s. record { kind = s.kind; live = s.live; start = c.args.to; size = s.size }) is) c.set.ensures

pub returns-clause-gathered : goal.returns-clause-gathered
returns-clause-gathered c =
    let s = c.args.self.now in
    let is = c.slot-slot.ensures.is in
    let shift : IsShifted s.arena c.shift.new.self (slot_at s.slots c.args.block).start c.args.to (words_for (slot_at s.slots c.args.block).size) =
    rw (sym is, sym c.words_for-count.ensures.is) c.shift.ensures in
    let after : Slot = record { kind = c.slot-slot.result.kind; live = c.slot-slot.result.live; start = c.args.to; size = c.slot-slot.result.size } in
    let count : c.words_for-count.result ≡ words_for (slot_at s.slots c.args.block).size = c.words_for-count.ensures.is ∙ ap (λ s. words_for s.size) is in
    rw count (lowered_gathered s.slots c.set.new.self s.arena c.shift.new.self s.free c.args.block c.args.to after s.sound c.requires.gathered c.requires.holds c.requires.down shift
    (ap (λ s. record { kind = s.kind; live = s.live; start = c.args.to; size = s.size }) is) c.set.ensures)

pub shift-requires-clause-within : goal.shift-requires-clause-within
shift-requires-clause-within c =
    let s = c.args.self.now in
    let ends = before_free s.slots s.arena s.free c.args.block c.words_for-count.result c.slot-slot.result s.sound c.requires.holds c.slot-slot.ensures.is c.words_for-count.ensures.is in
    omega (arith, ends, s.sound.within)

pub set-requires-clause-known : goal.set-requires-clause-known
set-requires-clause-known c = let s = c.args.self.now in known_of_live s.slots c.args.block (live_of_holds (slot_at s.slots c.args.block) c.requires.holds)

pub set-requires-clause-small : goal.set-requires-clause-small
set-requires-clause-small c = omega (arith, ap (λ s. s.start) c.slot-slot.ensures.is)

pub returns-clause-within : goal.returns-clause-within
returns-clause-within c =
    let s = c.args.self.now in
    let ends = before_free s.slots s.arena s.free c.args.block c.words_for-count.result c.slot-slot.result s.sound c.requires.holds c.slot-slot.ensures.is c.words_for-count.ensures.is in
    omega (arith, ends, ap (λ s. s.start) c.slot-slot.ensures.is)
