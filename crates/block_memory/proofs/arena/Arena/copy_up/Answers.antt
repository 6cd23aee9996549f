use Rattle.std.proofs.Common.{◌≡◌, ◌+◌, ◌*◌, ◌/◌, drop, arith, ap, sym, ◌∙◌}
use Rattle.block_memory.specs.Cells.{over, range}
use Rattle.block_memory.proofs.Copying.{Copies, up_all}
use Rattle.block_memory.proofs.CopyingWords.{drop_is, up_chunk}
use Rattle.block_memory.proofs.arena.Arena.copy_up.Goals as goal

pub returns-then-from-eq0 : goal.returns-then-from-eq0
returns-then-from-eq0 c =
    let all = c.args.self.now in
    let mid = c.copy_cells_up.new.self in
    let f = c.args.count / 4 * 4 in
    let known : Copies all c.args.to c.args.from c.args.count = record { to_within = c.requires.to; from_within = c.requires.from } in
    let a : 4 * (c.args.to / 4) ≡ c.args.to + 0 = omega (arith, c.if-to-eq0.true) in
    let b : 4 * (c.args.from / 4) ≡ c.args.from + 0 = omega (arith, c.if-from-eq0.true) in
    let n : 4 * (c.args.count / 4) ≡ f = omega arith in
    let none : f ≡ 0 + f = omega arith in
    let back : mid ≡ over all (c.args.to + (0 + f)) (drop (0 + f) (range all c.args.from c.args.count)) =
    c.copy_cells_up.ensures ∙ ap (λ r. over all (c.args.to + f) r) (sym (drop_is all c.args.from c.args.count f c.requires.from (omega arith)))
    ∙ ap (λ m. over all (c.args.to + m) (drop m (range all c.args.from c.args.count))) none in
    let put : c.copy_words_up.new.self ≡ over mid (c.args.to + 0) (range mid (c.args.from + 0) f) =
    c.copy_words_up.ensures ∙ ap (λ m. over mid m (range mid (4 * (c.args.from / 4)) (4 * (c.args.count / 4)))) a
    ∙ ap (λ m. over mid (c.args.to + 0) (range mid m (4 * (c.args.count / 4)))) b ∙ ap (λ m. over mid (c.args.to + 0) (range mid (c.args.from + 0) m)) n in
    up_all all c.copy_words_up.new.self c.args.to c.args.from c.args.count
    (up_chunk all mid c.copy_words_up.new.self c.args.to c.args.from c.args.count 0 f known (omega arith) c.requires.up back put)
