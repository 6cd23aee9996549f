use Rattle.std.proofs.Common.{◌≡◌, ◌+◌, ◌*◌, ◌<◌, length, take, arith, refl, ap, sym, ◌∙◌}
use Rattle.std.proofs.lemmas.List.{length-set}
use Rattle.memory_words.specs.CellWords.Words.{four_at}
use Rattle.block_memory.specs.Cells.{flat, over, range}
use Rattle.block_memory.proofs.Copying.{Copies, down_all}
use Rattle.block_memory.proofs.CopyingWords.{down_chunk, word_copied}
use Rattle.block_memory.proofs.Flat.{length_flat}
use Rattle.block_memory.proofs.Overs.{over_none}
use Rattle.block_memory.proofs.arena.Arena.copy_words_down.Goals as goal

pub loop-i-init : goal.loop-i-init
loop-i-init c = record { is = over_none (flat c.self.inside.words) (4 * c.args.to); long = refl }

pub loop-i-preserved : goal.loop-i-preserved
loop-i-preserved c =
    let fours = c.self.inside.words in
    let with = c.loop-i.self-inside.words in
    let new = c.copy.new.self in
    let size = length_flat fours in
    let view = ap length c.self.view_is in
    let known : Copies (flat fours) (4 * c.args.to) (4 * c.args.from) (4 * c.args.count) =
    record { to_within = omega (arith, c.requires.to, view); from_within = omega (arith, c.requires.from, view) } in
    let less : c.loop-i.i < c.args.count = omega (arith, c.loop-i-test.true) in
    let a : 4 * (c.args.to + c.loop-i.i) ≡ 4 * c.args.to + 4 * c.loop-i.i = omega arith in
    let b : 4 * (c.args.from + c.loop-i.i) ≡ 4 * c.args.from + 4 * c.loop-i.i = omega arith in
    let next : 4 * c.loop-i.i + 4 ≡ 4 * (c.loop-i.i + 1) = omega arith in
    let put : flat new ≡ over (flat with) (4 * c.args.to + 4 * c.loop-i.i) (range (flat with) (4 * c.args.from + 4 * c.loop-i.i) 4) =
    word_copied with new (c.args.to + c.loop-i.i) (c.args.from + c.loop-i.i) (omega (arith, c.loop-i.invariant.long, size, view, c.requires.to, less)) (omega (arith, c.loop-i.invariant.long, size, view, c.requires.from, less)) c.copy.ensures
    ∙ ap (λ n. over (flat with) n (range (flat with) (4 * (c.args.from + c.loop-i.i)) 4)) a ∙ ap (λ n. over (flat with) (4 * c.args.to + 4 * c.loop-i.i) (range (flat with) n 4)) b in
    record {
      is = down_chunk (flat fours) (flat with) (flat new) (4 * c.args.to) (4 * c.args.from) (4 * c.args.count) (4 * c.loop-i.i) 4 known (omega (arith, less)) (omega (arith, c.requires.down)) c.loop-i.invariant.is put
          ∙ ap (λ n. over (flat fours) (4 * c.args.to) (take n (range (flat fours) (4 * c.args.from) (4 * c.args.count)))) next;
      long = ap length c.copy.ensures ∙ length-set with (c.args.to + c.loop-i.i) (four_at with (c.args.from + c.loop-i.i)) ∙ c.loop-i.invariant.long;
    }

pub returns : goal.returns
returns c =
    let fours = c.self.inside.words in
    let view = ap length c.self.view_is in
    let known : Copies (flat fours) (4 * c.args.to) (4 * c.args.from) (4 * c.args.count) =
    record { to_within = omega (arith, c.requires.to, view); from_within = omega (arith, c.requires.from, view) } in
    let last : 4 * c.loop-i.i ≡ 4 * c.args.count = omega (arith, c.loop-i-test.false) in
    rw (sym c.self.view_is) (down_all (flat fours) (flat c.loop-i.self-inside.words) (4 * c.args.to) (4 * c.args.from) (4 * c.args.count) known
    (c.loop-i.invariant.is ∙ ap (λ n. over (flat fours) (4 * c.args.to) (take n (range (flat fours) (4 * c.args.from) (4 * c.args.count)))) last))

pub copy-requires-clause-to : goal.copy-requires-clause-to
copy-requires-clause-to c = omega (arith, c.loop-i.invariant.long, length_flat c.self.inside.words, ap length c.self.view_is, c.requires.to, c.loop-i-test.true)

pub copy-requires-clause-from : goal.copy-requires-clause-from
copy-requires-clause-from c = omega (arith, c.loop-i.invariant.long, length_flat c.self.inside.words, ap length c.self.view_is, c.requires.from, c.loop-i-test.true)
