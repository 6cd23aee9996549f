use Rattle.std.proofs.Common.{◌≡◌, ◌+◌, ◌-◌, ◌*◌, ◌/◌, take, arith, ap, sym, ◌∙◌}
use Rattle.block_memory.specs.Cells.{over, range}
use Rattle.block_memory.proofs.Copying.{Copies, down_all}
use Rattle.block_memory.proofs.CopyingWords.{down_chunk}
use Rattle.block_memory.proofs.RangesHold.{range_in}
use Rattle.block_memory.proofs.arena.Arena.copy_down.Goals as goal

pub returns-then-from-eq0 : goal.returns-then-from-eq0
returns-then-from-eq0 c =
    let all = c.args.self.now in
    let mid = c.copy_words_down.new.self in
    let f = c.args.count / 4 * 4 in
    let known : Copies all c.args.to c.args.from c.args.count = record { to_within = c.requires.to; from_within = c.requires.from } in
    let a : 4 * (c.args.to / 4) ≡ c.args.to = omega (arith, c.if-to-eq0.true) in
    let b : 4 * (c.args.from / 4) ≡ c.args.from + 0 = omega (arith, c.if-from-eq0.true) in
    let n : 4 * (c.args.count / 4) ≡ f = omega arith in
    let front : mid ≡ over all c.args.to (take f (range all c.args.from c.args.count)) =
    c.copy_words_down.ensures ∙ ap (λ m. over all m (range all (4 * (c.args.from / 4)) (4 * (c.args.count / 4)))) a
    ∙ ap (λ m. over all c.args.to (range all m (4 * (c.args.count / 4)))) b ∙ ap (λ m. over all c.args.to (range all (c.args.from + 0) m)) n
    ∙ ap (λ r. over all c.args.to r) (sym (range_in all c.args.from c.args.count 0 f c.requires.from (omega arith))) in
    let whole_is : f + (c.args.count - f) ≡ c.args.count = omega arith in
    down_all all c.copy_cells_down.new.self c.args.to c.args.from c.args.count known
    (down_chunk all mid c.copy_cells_down.new.self c.args.to c.args.from c.args.count f (c.args.count - f) known (omega arith) c.requires.down front c.copy_cells_down.ensures
    ∙ ap (λ m. over all c.args.to (take m (range all c.args.from c.args.count))) whole_is)
