use Rattle.std.proofs.Common.{◌≡◌, true, false, arith, sym, ap, ◌∙◌}
use Rattle.block_memory.specs.Slots.{holds, slot_at}
use Rattle.block_memory.proofs.Gathering.{gathered_past, gathered_there}
use Rattle.block_memory.proofs.Near.{holds_words}
use Rattle.block_memory.proofs.Sound.{before_free}
use Rattle.block_memory.proofs.store.Store.lower_one.Goals as goal

pub returns-then-not-holds-clause-gathered : goal.returns-then-not-holds-clause-gathered
returns-then-not-holds-clause-gathered c =
    let s = c.args.self.now in
    let none : holds (slot_at s.slots c.args.block) ≡ false = ap holds (sym c.slot-slot.ensures.is) ∙ sym c.holds.ensures ∙ c.if-not-holds.true in
    gathered_past s.slots c.args.block c.args.to c.requires.gathered none

pub returns-else-to-slot-clause-gathered : goal.returns-else-to-slot-clause-gathered
returns-else-to-slot-clause-gathered c =
    let s = c.args.self.now in
    let is = c.slot-slot.ensures.is in
    let held : holds (slot_at s.slots c.args.block) ≡ true = ap holds (sym is) ∙ sym c.holds.ensures ∙ c.if-not-holds.false in
    rw (c.words_for.ensures.is, is) (gathered_there s.slots s.arena s.free c.args.block c.args.to s.sound c.requires.gathered held (omega (arith, c.if-to-slot.false, ap (λ s. s.start) is)))

pub returns-else-to-slot-clause-within : goal.returns-else-to-slot-clause-within
returns-else-to-slot-clause-within c =
    let s = c.args.self.now in
    let is = c.slot-slot.ensures.is in
    let held : holds (slot_at s.slots c.args.block) ≡ true = ap holds (sym is) ∙ sym c.holds.ensures ∙ c.if-not-holds.false in
    let ends = before_free s.slots s.arena s.free c.args.block c.words_for.result c.slot-slot.result s.sound held is c.words_for.ensures.is in
    let behind = c.requires.gathered.behind c.args.block (omega arith) held in
    omega (arith, ends, behind, ap (λ s. s.start) is)

pub returns-then-to-slot-clause-near : goal.returns-then-to-slot-clause-near
returns-then-to-slot-clause-near c =
    let s = c.args.self.now in
    let held : holds (slot_at s.slots c.args.block) ≡ true = ap holds (sym c.slot-slot.ensures.is) ∙ sym c.holds.ensures ∙ c.if-not-holds.false in
    let words = holds_words s.slots s.arena s.free c.args.block s.sound held in
    omega (arith, words, c.lower.ensures.further)

pub returns-else-to-slot-clause-near : goal.returns-else-to-slot-clause-near
returns-else-to-slot-clause-near c =
    let s = c.args.self.now in
    let is = c.slot-slot.ensures.is in
    let held : holds (slot_at s.slots c.args.block) ≡ true = ap holds (sym is) ∙ sym c.holds.ensures ∙ c.if-not-holds.false in
    let words = holds_words s.slots s.arena s.free c.args.block s.sound held in
    omega (arith, words, c.words_for.ensures.is, ap (λ s. s.size) is)
