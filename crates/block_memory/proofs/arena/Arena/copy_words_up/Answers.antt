use Rattle.std.proofs.Common.{◌≡◌, ◌+◌, ◌-◌, ◌*◌, ◌<◌, length, drop, arith, refl, ap, sym, ◌∙◌}
use Rattle.std.proofs.lemmas.List.{length-set}
use Rattle.memory_words.specs.CellWords.Words.{four_at}
use Rattle.block_memory.specs.Cells.{flat, over, range}
use Rattle.block_memory.proofs.Copying.{Copies, up_all, up_none}
use Rattle.block_memory.proofs.CopyingWords.{up_chunk, word_copied}
use Rattle.block_memory.proofs.Flat.{length_flat}
use Rattle.block_memory.proofs.arena.Arena.copy_words_up.Goals as goal

pub loop-i-init : goal.loop-i-init
loop-i-init c =
    let fours = c.self.inside.words in
    let view = ap length c.self.view_is in
    let known : Copies (flat fours) (4 * c.args.to) (4 * c.args.from) (4 * c.args.count) =
    record { to_within = omega (arith, c.requires.to, view); from_within = omega (arith, c.requires.from, view) } in
    record { most = omega arith; is = up_none (flat fours) (4 * c.args.to) (4 * c.args.from) (4 * c.args.count) known; long = refl }

pub loop-i-preserved : goal.loop-i-preserved
loop-i-preserved c =
    let fours = c.self.inside.words in
    let with = c.loop-i.self-inside.words in
    let new = c.copy.new.self in
    let n = c.loop-i.i - 1 in
    let size = length_flat fours in
    let view = ap length c.self.view_is in
    let known : Copies (flat fours) (4 * c.args.to) (4 * c.args.from) (4 * c.args.count) =
    record { to_within = omega (arith, c.requires.to, view); from_within = omega (arith, c.requires.from, view) } in
    let next : 4 * c.loop-i.i ≡ 4 * n + 4 = omega arith in
    let less : n < c.args.count = omega (arith, c.loop-i.invariant.most) in
    let was : flat with ≡ over (flat fours) (4 * c.args.to + (4 * n + 4)) (drop (4 * n + 4) (range (flat fours) (4 * c.args.from) (4 * c.args.count))) =
    c.loop-i.invariant.is ∙ ap (λ m. over (flat fours) (4 * c.args.to + m) (drop m (range (flat fours) (4 * c.args.from) (4 * c.args.count)))) next in
    let a : 4 * (c.args.to + n) ≡ 4 * c.args.to + 4 * n = omega arith in
    let b : 4 * (c.args.from + n) ≡ 4 * c.args.from + 4 * n = omega arith in
    let put : flat new ≡ over (flat with) (4 * c.args.to + 4 * n) (range (flat with) (4 * c.args.from + 4 * n) 4) =
    word_copied with new (c.args.to + n) (c.args.from + n) (omega (arith, c.loop-i.invariant.long, size, view, c.requires.to, less)) (omega (arith, c.loop-i.invariant.long, size, view, c.requires.from, less)) c.copy.ensures
    ∙ ap (λ m. over (flat with) m (range (flat with) (4 * (c.args.from + n)) 4)) a ∙ ap (λ m. over (flat with) (4 * c.args.to + 4 * n) (range (flat with) m 4)) b in
    record {
      most = omega (arith, less);
      is = up_chunk (flat fours) (flat with) (flat new) (4 * c.args.to) (4 * c.args.from) (4 * c.args.count) (4 * n) 4 known (omega (arith, less)) (omega (arith, c.requires.up)) was put;
      long = ap length c.copy.ensures ∙ length-set with (c.args.to + n) (four_at with (c.args.from + n)) ∙ c.loop-i.invariant.long;
    }

pub returns : goal.returns
returns c =
    let fours = c.self.inside.words in
    let zero_is : 4 * c.loop-i.i ≡ 0 = omega arith in
    rw (sym c.self.view_is) (up_all (flat fours) (flat c.loop-i.self-inside.words) (4 * c.args.to) (4 * c.args.from) (4 * c.args.count)
    (c.loop-i.invariant.is ∙ ap (λ n. over (flat fours) (4 * c.args.to + n) (drop n (range (flat fours) (4 * c.args.from) (4 * c.args.count)))) zero_is))

pub copy-requires-clause-to : goal.copy-requires-clause-to
copy-requires-clause-to c = omega (arith, c.loop-i.invariant.long, length_flat c.self.inside.words, ap length c.self.view_is, c.requires.to, c.loop-i.invariant.most)

pub copy-requires-clause-from : goal.copy-requires-clause-from
copy-requires-clause-from c = omega (arith, c.loop-i.invariant.long, length_flat c.self.inside.words, ap length c.self.view_is, c.requires.from, c.loop-i.invariant.most)
