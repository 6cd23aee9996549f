use Rattle.std.proofs.Common.{sym, ap, ◌∙◌}
use Rattle.memory_words.specs.CellWords.Words.{empty_word}
use Rattle.memory_words.proofs.CellWords.ChosenTables.{groups, pointers}
use Rattle.memory_words.proofs.CellWords.Steps.{both_set, carried, carried_plain, not_tabled, owned}
use Rattle.memory_words.specs.declared.cell_words.packed.Packed.{Packed}
use Rattle.memory_words.specs.declared.cell_words.word.Word.TheVariants as W
use Rattle.memory_words.proofs.cell_words.packed.Packed.carry.Goals as goal
use Rattle.memory_words.proofs.cell_words.packed.Packed.carry.Goals.{in-Pointer, in-Group, in_default}

pub set-requires : goal.set-requires
set-requires c = owned pointers c.args.self.now c.args.from c.in-Pointer.e c.requires.packed (sym (c.get-word.ensures empty_word) ∙ c.in-Pointer.is)

pub set-requires-in-Group : goal.set-requires-in-Group
set-requires-in-Group c = owned groups c.args.self.now c.args.from c.in-Group.e c.requires.packed (sym (c.get-word.ensures empty_word) ∙ c.in-Group.is)

pub returns : goal.returns
returns c = elim c.match-word.branch [
  | in-Pointer w ↦
      carried pointers c.args.self.now _ c.args.from c.args.to w.in-Pointer.e c.requires.packed c.requires.known c.requires.before c.requires.plain
      (sym (c.get-word.ensures empty_word) ∙ w.in-Pointer.is)
      (both_set c.args.self.now.words.items c.match-word.self.words.items c.set-2.new.self.items c.set-3.new.self.items c.args.from c.args.to c.match-word.word (W.Pointer w.in-Pointer.e)
      (ap (λ (p : Packed). p.words.items) w.self-is) w.word-is c.set-2.ensures.items c.set-3.ensures.items)
      (ap (λ (p : Packed). p.pointers.values) w.self-is) (ap (λ (p : Packed). p.pointers.owners.items) w.self-is ∙ w.set.ensures.items)
      (ap (λ (p : Packed). p.pointers.owners.room) w.self-is ∙ w.set.ensures.room)
      (ap (λ (p : Packed). p.groups) w.self-is)
  | in-Group w ↦
      carried groups c.args.self.now _ c.args.from c.args.to w.in-Group.e c.requires.packed c.requires.known c.requires.before c.requires.plain
      (sym (c.get-word.ensures empty_word) ∙ w.in-Group.is)
      (both_set c.args.self.now.words.items c.match-word.self.words.items c.set-2.new.self.items c.set-3.new.self.items c.args.from c.args.to c.match-word.word (W.Group w.in-Group.e)
      (ap (λ (p : Packed). p.words.items) w.self-is) w.word-is c.set-2.ensures.items c.set-3.ensures.items)
      (ap (λ (p : Packed). p.groups.values) w.self-is) (ap (λ (p : Packed). p.groups.owners.items) w.self-is ∙ w.set-in-Group.ensures.items)
      (ap (λ (p : Packed). p.groups.owners.room) w.self-is ∙ w.set-in-Group.ensures.room)
      (ap (λ (p : Packed). p.pointers) w.self-is)
  | in_default w ↦
      carried_plain c.args.self.now _ c.args.from c.args.to c.get-word.result c.requires.packed c.requires.known c.requires.before c.requires.plain
      (c.get-word.ensures empty_word) (not_tabled c.get-word.result w.in_default.not-Pointer w.in_default.not-Group)
      (both_set c.args.self.now.words.items c.match-word.self.words.items c.set-2.new.self.items c.set-3.new.self.items c.args.from c.args.to c.match-word.word c.get-word.result
      (ap (λ (p : Packed). p.words.items) w.self-is) w.word-is c.set-2.ensures.items c.set-3.ensures.items)
      (ap (λ (p : Packed). p.pointers) w.self-is) (ap (λ (p : Packed). p.groups) w.self-is)
]
