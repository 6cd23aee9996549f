use Rattle.std.proofs.Common.{refl, sym, ap, arith, ◌∙◌}
use Rattle.std.proofs.Common.{◌≡◌, ◌+◌, length}
use Rattle.memory_words.specs.declared.cell_words.packed.Packed.{Packed}
use Rattle.memory_words.proofs.CellWords.Steps.{fours_added, fours_kept, long, packed_added}
use Rattle.memory_words.proofs.cell_words.words.Words.grow.Goals as goal

pub invariant_of-self-2 : goal.invariant_of-self-2
invariant_of-self-2 c =
    let p = c.reserve.new.self in
    let new : Packed = record { words = c.add.new.self; pointers = p.pointers; groups = p.groups } in
    let same : length p.words.items ≡ length c.args.self.now = ap length c.reserve.ensures.words ∙ sym (long c.self.inside.packed) ∙ ap length c.self.view_is in
    let many : c.len.result + c.args.count ≡ length p.words.items + c.args.count = ap (λ n. n + c.args.count) (c.len.ensures.is ∙ ap length (sym c.reserve.ensures.words)) in
    packed_added p new c.args.count (c.len.result + c.args.count) c.add.result many c.reserve.ensures.packed (omega (arith, same, c.requires)) c.add.ensures.items refl refl c.in_ok-reserve.ensures.room.0 c.in_ok-reserve.ensures.room.1

pub returns : goal.returns
returns c =
    let p = c.reserve.new.self in
    let new : Packed = record { words = c.add.new.self; pointers = p.pointers; groups = p.groups } in
    fours_added c.args.self.now p new c.args.count c.add.result
    (fours_kept c.self.inside.packed p c.reserve.ensures.words c.reserve.ensures.pointers c.reserve.ensures.groups ∙ c.self.view_is) c.add.ensures.items refl refl
