use Rattle.std.proofs.Common.{◌+◌, ◌≡◌, ◌*◌, length, replicate, true, arith, refl, rules, sym, ap, ◌∙◌}
use Rattle.std.proofs.lemmas.List.{length-map, length-replicate}
use Rattle.memory_words.specs.declared.cell_words.cell.Cell.TheVariants.{Empty}
use Rattle.block_memory.specs.declared.slot.Slot.{Slot}
use Rattle.block_memory.specs.Lifetimes.{with_block}
use Rattle.block_memory.specs.Slots.{block_in, memory_in}
use Rattle.block_memory.proofs.Beginning.{begun, begun_refused, sound_begun}
use Rattle.block_memory.proofs.Gathering.{settled_more}
use Rattle.block_memory.proofs.Overs.{length_over}
use Rattle.block_memory.proofs.Sound.{sound_changed}
use Rattle.block_memory.proofs.store.Store.alloc.Goals as goal

pub invariant_of-self-2 : goal.invariant_of-self-2
invariant_of-self-2 c =
    let m = c.make_room.new.self in
    let room = c.in_ok-make_room.ensures.enough in
    let size = c.args.size in
    let n = length-replicate size Empty in
    let slot : Slot = record { kind = c.args.kind; live = true; start = m.free; size = size } in
    let long : length c.fill.new.self ≡ length m.arena =
    ap length c.fill.ensures ∙ length_over m.arena (replicate size Empty) (4 * m.free) (omega (arith, room.0, n, c.words_for-count.ensures.is)) in
    record {
      sound = sound_begun m.slots c.push.new.self m.arena c.fill.new.self m.free c.words_for-count.result slot m.sound refl c.words_for-count.ensures.is room.1 (omega (arith, room.0, long)) (omega (arith, long)) c.in_ok-push.ensures;
      settles = settled_more m.slots c.push.new.self m.free (m.free + c.words_for-count.result) m.settled m.settled_words slot m.settles refl (omega arith) c.in_ok-push.ensures;
    }

pub invariant_of-self : goal.invariant_of-self
invariant_of-self c =
    let m = c.make_room.new.self in
    record {
      sound = rw c.in_err-push.ensures (sound_changed m.slots m.arena c.fill.new.self m.free (4 * m.free) (replicate c.args.size Empty) m.sound c.fill.ensures);
      settles = rw c.in_err-push.ensures m.settles;
    }

pub returns : goal.returns
returns c =
    let s = c.args.self.now in
    let m = c.make_room.new.self in
    let room = c.in_ok-make_room.ensures.enough in
    record {
      gives = (
        c.len-number.ensures ∙ sym (length-map s.slots (block_in s.arena)),
        begun m.slots c.push.new.self m.arena c.fill.new.self m.free c.args.size c.args.kind m.sound (omega (arith, room.0, c.words_for-count.ensures.is)) c.fill.ensures c.in_ok-push.ensures
            ∙ ap (λ m. with_block m c.args.size c.args.kind) c.make_room.ensures.memory,
      );
    }

pub returns-in_err-push : goal.returns-in_err-push
returns-in_err-push c =
    let m = c.make_room.new.self in
    let room = c.in_ok-make_room.ensures.enough in
    let same : memory_in c.push.new.self c.fill.new.self ≡ memory_in c.args.self.now.slots c.args.self.now.arena
    = ap (λ s. memory_in s c.fill.new.self) c.in_err-push.ensures
    ∙ begun_refused m.slots m.arena c.fill.new.self m.free c.args.size m.sound (omega (arith, room.0, c.words_for-count.ensures.is)) c.fill.ensures
    ∙ c.make_room.ensures.memory in
    search (rules, same)
