-- A program whose machine stands ready at its first step, with no premise left of it: int main(void) { return 7; }
use Rattle.std.proofs.Common.{◌≡◌, ℕ, zero, suc, ◌+◌, ◌-◌, ◌*◌, ◌^◌, ◌<◌, false, List, [], ◌∷◌, All, length, Some, refl, sym, ap, subst, arith}
use Rattle.std.specs.Prelude.{◌==◌, if◌then◌else◌, slice_get}
use Rattle.std.proofs.lemmas.List.Elements.{All-cons, All-nil}
use Rattle.c_meaning.specs.ExampleParts.{gives, main, number}
use Rattle.c_meaning.specs.Run.{main_place, start}
use Rattle.c_typed.specs.Programs.{ProgramData}
use Rattle.code_bounds.specs.CompiledLaws.{FunctionsAreAsLong, ProgramsAreAsLong, StepsAreAsLong}
use Rattle.lower_tac.specs.Statements.{lowered}
use Rattle.elf32.specs.Written.{elf_file}
use Rattle.rv_code.specs.Programs.{IsSmall, places_of}
use Rattle.rv_code.specs.declared.layout.Layout.{Layout}
use Rattle.rv_emit.specs.Fitting.{OperandFits, StepFits}
use Rattle.rv_emit.specs.Grounds.{Ground}
use Rattle.rv_emit.specs.Maps.{Room}
use Rattle.rv_emit.specs.Relation.{IsBuilt, IsLaid, Moment, Point, Ready}
use Rattle.rv_image.specs.Data.{data_of_program, object_places}
use Rattle.rv_image.specs.Images.{Fits, image_of, text_of_program}
use Rattle.rv_image.proofs.Lengths.{data_length, text_length}
use Rattle.rv_isa.specs.Events.{code_address}
use Rattle.rv_isa.specs.Memory.{Memory, initial_memory}
use Rattle.tac_ir.specs.Code.{Code, RoutineData, code_of, data_of}
use Rattle.tac_ir.specs.declared.step.Operand.TheVariants as O
use Rattle.tac_ir.specs.declared.step.Routine.{Routine}
use Rattle.tac_ir.specs.declared.step.Step.TheVariants as S
use Rattle.tac_ir.specs.declared.step.Tac.{Tac}
use Rattle.compiled_files.specs.Placing.{placed, room_of}
use Rattle.compiled_files.specs.Sound.{IsSound, RoutineFits}
use Rattle.compiled_files.proofs.InImage.Images as Images
use Rattle.compiled_files.proofs.Starting.Bytes.{memory_holds_bytes}
use Rattle.compiled_files.proofs.Starting.FirstCall.{first_ready}
use Rattle.compiled_files.proofs.Starting.FirstWorld.{blocks_of, first_world, no_owner, owner_of}
use Rattle.compiled_files.proofs.Starting.Putting.{AreBytes}

abbrev p : ProgramData
p = main [] [] (gives (number 7) ∷ [])

-- the last step first, as it is stored
abbrev routine : Routine
routine = record {
  ty = 7;
  locals = [];
  parameters = [];
  code = S.Return (Some (O.Word 0)) ∷ S.Return (Some (O.Word 7)) ∷ [];
  labels = [];
  texts = [];
}

abbrev t : Tac
t = record { routines = routine ∷ []; main = 0; place = main_place p }

abbrev c : Code
c = code_of t

lowers : code_of t ≡ lowered p
lowers = refl

-- ---- it fits, and its code is sound

one : {A : Type 0} (P : A → Type 0) (x : A) → P x → All P (x ∷ [])
one P x h = All-cons P x [] h (All-nil P)

fits : Fits p t
fits = record {
  small = record {
    each = one (λ (g : Routine). IsSmall (data_of g)) routine
        (record { frame = omega arith; parameters = omega arith; texts = All-nil (λ (bytes : List ℕ). length bytes < 2 ^ 32) });
    code = omega arith;
    texts = omega arith;
  };
  text = λ stack. let n : length (text_of_program p c stack) ≡ 4096 + 4 * 22 = text_length p c stack in omega (arith, n);
  globals = λ heap_end.
      let q = places_of c (object_places p) in
      let n : length (data_of_program p c q heap_end) ≡ 256 = data_length p c q heap_end in omega (arith, n);
}

word_fits : (n : ℕ) → n < 2 ^ 32 → StepFits p.types c (places_of c (object_places p)) (data_of routine) (S.Return (Some (O.Word n)))
word_fits n lt = record {
  operands = one (OperandFits c (places_of c (object_places p))) (O.Word n) lt;
  numbers = tt;
  kinds = (tt, tt);
  target = tt;
  slot = tt;
  row = tt;
  arguments = tt;
}

routine_fits : RoutineFits p c (data_of routine)
routine_fits = record {
  code = All-cons (StepFits p.types c (places_of c (object_places p)) (data_of routine)) (S.Return (Some (O.Word 7))) (S.Return (Some (O.Word 0)) ∷ [])
      (word_fits 7 (omega arith))
      (one (StepFits p.types c (places_of c (object_places p)) (data_of routine)) (S.Return (Some (O.Word 0))) (word_fits 0 (omega arith)));
  parameters = λ x r e. absurd cc;
}

by_number : (f : ℕ) (g : RoutineData) → slice_get c.routines f ≡ Some g → RoutineFits p c g
by_number zero g e = (let d : data_of routine ≡ g = cc in subst (RoutineFits p c) d routine_fits)
by_number (suc f) g e = absurd cc

sound : IsSound p c
sound = record {
  objects = λ n o e. absurd cc;
  routines = by_number;
  main = λ g e. let d : data_of routine ≡ g = cc in ap (λ (z : RoutineData). z.parameters) (sym d);
}

-- ---- the machine stands in front of its first step, with a MiB of heap and of stack, whatever the input and the turns are

module _ (steps : StepsAreAsLong) (functions : FunctionsAreAsLong) (programs : ProgramsAreAsLong) (file : AreBytes (elf_file (image_of p c 1 1)))
    (input : List ℕ) (bytes : All (λ b. b < 2 ^ 8) input) (n : ℕ) where
  abbrev ground : Ground
  ground = Images.ground p t 1 1 fits (omega arith) (omega arith)

  room : ground.room ≡ room_of p c 1 1
  room = Images.ground_room p t 1 1 fits (omega arith) (omega arith)

  built : IsBuilt ground (placed p c)
  built = Images.built p t 1 1 fits (omega arith) (omega arith) steps functions programs sound

  text : (a : ℕ) → ground.text a ≡ initial_memory (image_of p c 1 1).segments a
  text a = ap (λ (m : Memory). m a) (Images.ground_text p t 1 1 fits (omega arith) (omega arith))

  small : (a : ℕ) → initial_memory (image_of p c 1 1).segments a < 2 ^ 8
  small = memory_holds_bytes p c 1 1 file

  stack_end : ground.room.stack_end ≡ 0x10100000
  stack_end = ap (λ (r : Room). r.stack_end) room

  data_end : ground.room.data_end ≡ 0x08000100
  data_end = ap (λ (r : Room). r.data_end) room

  laid : (l : Layout) × IsLaid ground (placed p c) 0 (data_of routine) l
  laid = built.laid 0 (data_of routine) refl (λ e. cc)

  stands_ready : (m : Moment) × (q : Point) × Ready ground (placed p c) m q
  stands_ready =
      let texts = Images.texts_hold p t 1 1 fits (omega arith) (omega arith) in
      let world = first_world p t 1 1 fits sound small ground text room texts input bytes n false in
      let l = laid.0 in
      let size : l.size ≡ 16 = laid.1.size in
      let sp = ground.room.stack_end - l.size in
      let f : ℕ → ℕ = λ r. if r == 2 then sp else 0 in (
        _,
        _,
        first_ready ground (placed p c) (blocks_of p) (owner_of p) (start p input n false) (initial_memory (image_of p c 1 1).segments) input [] [] world
            (λ a low high. no_owner p t 1 1 fits sound small ground text room texts a (omega (arith, data_end))) (omega (arith, stack_end)) refl 0
            (data_of routine) l laid.1 (omega (arith, size, stack_end)) built.end n f code_address refl refl (omega arith) refl,
      )
