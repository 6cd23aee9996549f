use Rattle.std.proofs.Common.{refl, sym, ap, arith, ◌∙◌}
use Rattle.std.proofs.Common.{◌≡◌, ◌<◌, false, length}
use Rattle.std.proofs.Math.ListN.{set}
use Rattle.memory_words.specs.declared.cell_words.packed.Packed.{Packed}
use Rattle.memory_words.specs.CellWords.Words.{empty_word, is_tabled, whole, word_at}
use Rattle.memory_words.proofs.CellWords.Steps.{long, put_plain}
use Rattle.memory_words.proofs.cell_words.words.Words.put_whole.Goals as goal

pub invariant_of-self-else-is_tabled : goal.invariant_of-self-else-is_tabled
invariant_of-self-else-is_tabled c =
    let p = c.self.inside.packed in
    let known : c.args.i < length p.words.items = omega (arith, long p, ap length c.self.view_is, c.requires.known) in
    let was : is_tabled (word_at p.words.items c.args.i) ≡ false = ap is_tabled (sym (c.get.ensures empty_word)) ∙ sym c.is_tabled.ensures ∙ c.if-is_tabled.false in
    let new : Packed = record { words = c.set.new.self; pointers = p.pointers; groups = p.groups } in
    let put = put_plain p new c.args.i c.args.word c.self.invariant known was c.requires.plain c.set.ensures.items refl refl in
    put.packed

pub returns-else-is_tabled : goal.returns-else-is_tabled
returns-else-is_tabled c =
    let p = c.self.inside.packed in
    let known : c.args.i < length p.words.items = omega (arith, long p, ap length c.self.view_is, c.requires.known) in
    let was : is_tabled (word_at p.words.items c.args.i) ≡ false = ap is_tabled (sym (c.get.ensures empty_word)) ∙ sym c.is_tabled.ensures ∙ c.if-is_tabled.false in
    let new : Packed = record { words = c.set.new.self; pointers = p.pointers; groups = p.groups } in
    let put = put_plain p new c.args.i c.args.word c.self.invariant known was c.requires.plain c.set.ensures.items refl refl in
    put.is ∙ ap (λ fours. set fours c.args.i (whole c.args.word)) c.self.view_is
