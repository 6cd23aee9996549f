use Rattle.std.proofs.Common.{◌≡◌, ◌%◌, refl, sym, ap, ◌∙◌}
use Rattle.memory_words.specs.declared.cell_words.cell.Cell.TheVariants.{Byte, Fragment}
use Rattle.memory_words.specs.declared.cell_words.pointer.Ptr.TheVariants as P
use Rattle.memory_words.specs.declared.cell_words.word.Four.{Four}
use Rattle.memory_words.specs.declared.cell_words.word.Word.TheVariants as W
use Rattle.memory_words.specs.CellWords.Words.{empty_word, four_at, four_pointer}
use Rattle.memory_words.proofs.CellWords.ChosenTables.{pointers}
use Rattle.memory_words.proofs.CellWords.Steps.{four_at_value, read_whole, same_pointer_in, within}
use Rattle.memory_words.proofs.cell_words.words.Words.pointer.Goals as goal

pub get-requires-in-Pointer : goal.get-requires-in-Pointer
get-requires-in-Pointer c = within pointers c.self.inside.packed c.args.i c.in-Pointer.e c.self.invariant (sym (c.get.ensures empty_word) ∙ c.in-Pointer.is)

pub returns-in-Null : goal.returns-in-Null
returns-in-Null c =
    read_whole c.self.inside.packed c.args.self.now c.args.i (W.Null c.in-Null.t) c.self.view_is (sym (c.get.ensures empty_word) ∙ c.in-Null.is) refl
    ∙ ap (λ t. four_pointer t P.Null) c.if-t-type_number.true

pub returns-in-Pointer : goal.returns-in-Pointer
returns-in-Pointer c =
    let p = c.self.inside.packed in
    same_pointer_in (four_at c.args.self.now c.args.i) _ c.args.type_number c.pointer_in.result
    (ap (λ fours. four_at fours c.args.i) (sym c.self.view_is)
    ∙ four_at_value pointers p c.args.i c.in-Pointer.e c.get-in-Pointer.result c.self.invariant (sym (c.get.ensures empty_word) ∙ c.in-Pointer.is) (c.get-in-Pointer.ensures c.get-in-Pointer.result))
    c.pointer_in.ensures

pub returns-in-Number : goal.returns-in-Number
returns-in-Number c = λ p same.
    let v = c.in-Number.field-0 in
    let is = read_whole c.self.inside.packed c.args.self.now c.args.i (W.Number v) c.self.view_is (sym (c.get.ensures empty_word) ∙ c.in-Number.is) refl in
    let wrong : Byte (v % 256) ≡ Fragment c.args.type_number p 0 = ap (λ (f : Four). f.a) (sym is ∙ same) in cc

pub returns-in_default : goal.returns-in_default
returns-in_default c =
    same_pointer_in (four_at c.args.self.now c.args.i) c.four.result c.args.type_number c.pointer_in_four.result
    (ap (λ fours. four_at fours c.args.i) (sym c.self.view_is) ∙ sym c.four.ensures) c.pointer_in_four.ensures
