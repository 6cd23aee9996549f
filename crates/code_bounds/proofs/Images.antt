-- The image of a program of files is within the parts of the address space.
use Rattle.std.proofs.Common.{◌≡◌, ℕ, ◌+◌, ◌-◌, ◌*◌, ◌^◌, ◌≤◌, length, subst, sym, arith}
use Rattle.c_typed.specs.Programs.{ProgramData}
use Rattle.c_link.specs.Texts.{texts_in_functions}
use Rattle.code_bounds.specs.CompiledLaws.{CodeFits, DataFits, ProgramFits, ProgramIsSmall, TextsAreWithin}
use Rattle.rv_code.specs.Programs.{all_texts_end, places_of, program_code}
use Rattle.rv_image.specs.Data.{data_of_program, data_size, object_places, objects_at, texts_at}
use Rattle.rv_image.specs.Images.{end_of_room, text_of_program}
use Rattle.rv_image.proofs.Lengths.{data_length, text_length}
use Rattle.tac_ir.specs.Code.{Code, code_of}
use Rattle.tac_ir.specs.declared.step.Tac.{Tac}

pub program_fits : (p : ProgramData) (t : Tac) → ((first_text : ℕ) → ProgramIsSmall p t first_text) → CodeFits p t → DataFits → TextsAreWithin → ProgramFits p t
program_fits p t small code globals texts files is same =
    let bytes : texts_at p + texts_in_functions p.functions ≤ objects_at + 2 ^ 24 = globals files p is objects_at in
    let behind : all_texts_end (texts_at p) (code_of t).routines ≤ texts_at p + texts_in_functions p.functions
    = subst (λ (c : Code). all_texts_end (texts_at p) c.routines ≤ texts_at p + texts_in_functions p.functions) (sym same) (texts p (texts_at p)) in
    record {
      small = small (texts_at p) files is same (omega arith);
      text = λ stack.
          let few : 4 * length (program_code (code_of t) (end_of_room 0x10000000 stack) (object_places p) (texts_at p)) ≤ 2 ^ 26
          = code files is same (end_of_room 0x10000000 stack) (object_places p) (texts_at p) in
          let long : length (text_of_program p (code_of t) stack)
          ≡ 4096 + 4 * length (program_code (code_of t) (end_of_room 0x10000000 stack) (object_places p) (texts_at p)) = text_length p (code_of t) stack in
          omega arith;
      globals = λ heap_end.
          let long : length (data_of_program p (code_of t) (places_of (code_of t) (object_places p)) heap_end) ≡ 256 + (data_size p (code_of t) - 256)
          = data_length p (code_of t) (places_of (code_of t) (object_places p)) heap_end in
          omega arith;
    }
