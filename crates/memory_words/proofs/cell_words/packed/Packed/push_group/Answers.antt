use Rattle.std.proofs.Common.{◌<◌, length, refl, arith}
use Rattle.memory_words.proofs.CellWords.ChosenTables.{groups}
use Rattle.memory_words.proofs.CellWords.Steps.{place_fits, put_new, put_same, replaced, space}
use Rattle.memory_words.proofs.cell_words.packed.Packed.push_group.Goals as goal

pub push-e-requires : goal.push-e-requires
push-e-requires c =
    let p = c.release.new.self in
    let known : c.args.i < length p.words.items = omega (arith, c.requires.known, c.release.ensures.long) in
    space groups p c.args.i c.release.ensures.packed known c.release.ensures.plain

pub overflow_cast-e : goal.overflow_cast-e
overflow_cast-e c = let fits = place_fits groups c.release.new.self c.release.ensures.packed in omega (arith, fits, c.push-e.ensures.place)

pub returns : goal.returns
returns c =
    let p = c.release.new.self in
    let known : c.args.i < length p.words.items = omega (arith, c.requires.known, c.release.ensures.long) in
    replaced c.args.i c.args.four c.args.self.now p _ c.release.ensures (put_same c.args.i p _ c.group_of.ensures
    (put_new groups p _ c.args.i c.push-e.result c.group_of.result c.release.ensures.packed known c.release.ensures.plain c.push-e.ensures.place c.set.ensures.items
    c.push-e.ensures.values c.push-e.ensures.owners c.push-e.ensures.keeps refl))
