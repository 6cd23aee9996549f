-- What a run of the machine leaves of the outside.
use Rattle.std.proofs.Common.{◌≡◌, ℕ, ◌≤◌, List, ◌++◌, length, take, drop, Option, Some, None, sym, ap, ◌∙◌, subst}
use Rattle.std.specs.Prelude.{Ok, option_map}
use Rattle.std.proofs.lemmas.List.{append_assoc}
use Rattle.std.proofs.Math.Seq.{drop-append_seam}
use Rattle.lay_base.specs.Known.{Contents, IfKnown, Appends, FilesKeep}
use Rattle.rv_isa.specs.declared.image.Image.{Image}
use Rattle.rv_isa.specs.Step.{Standing, Running, Exits, Trap, Break}
use Rattle.rv_isa.specs.Run.{Shown}
use Rattle.elf32.specs.Loaded.{loaded}
use Rattle.rv_machine.specs.declared.machine.MachineEnd.{MachineEnd}
use Rattle.rv_machine.specs.declared.machine.MachineEnd.TheVariants as E
use Rattle.rv_machine.specs.Advances.{Streams, streams, ReadsPart, WritesPart}
use Rattle.rv_machine.specs.Runs.{Observation, Left, Stopped as MachineStopped, RunGives as MachineGives, run_of}
use Rattle.lay_compile.specs.ProgramFiles.Outside.{Stream, Outside, outside}
use Rattle.lay_commands.specs.Running.{elf_limit, HoldsElf, Ran, CameTo, StoppedInRead, StoppedInWrite, asked_bytes, state_at}
use Rattle.lay_commands.specs.Stages.{RunGives, answer_for}

-- ---- streams

-- what is left where the first bytes were taken
left_after : (now : Option (List ℕ)) (piece rest : List ℕ) → Some rest ≡ option_map (λ bytes. piece ++ bytes) now → now ≡ Some (drop (length piece) rest)
left_after None piece rest e = cc
left_after (Some left) piece rest e = let s = drop-append_seam piece left in cc

-- two pieces, one after the other
append_twice : (a b c : Option (List ℕ)) (p q : List ℕ) → Appends a b p → Appends b c q → Appends a c (p ++ q)
append_twice None b c p q x y = cc
append_twice (Some a) b c p q x y = y ∙ ap (option_map (λ bytes. bytes ++ q)) x ∙ ap Some (append_assoc a p q)

-- ---- after a run

module _ (limit : ℕ) (elf : List ℕ) (f0 f1 : Option Contents)
    (reads0 reads1 writes0 writes1 : List ℕ → ℕ) (in0 in1 out0 out1 : Stream) (image : Image) (machine : Observation) where
  abbrev before : Outside
  before = outside f0 reads0 writes0 in0 out0

  abbrev now : Outside
  now = outside f1 reads1 writes1 in1 out1

  abbrev observed_before : Streams
  observed_before = streams in0.bytes in0.faults out0.bytes out0.faults

  abbrev observed_now : Streams
  observed_now = streams in1.bytes in1.faults out1.bytes out1.faults

  came : (input : List ℕ) (standing : Standing) → Left (run_of image) observed_before observed_now input standing machine
      → CameTo standing before now image input machine.steps
  came input standing l = record {
    stands = ap (λ (s : Shown). s.standing) l.came.shows;
    written = subst (λ (o : List ℕ). Appends out0.bytes out1.bytes o) (sym (ap (λ (s : Shown). s.output) l.came.shows)) l.written;
    left = l.left ∙ sym (ap (λ (s : Shown). Some s.rest) l.came.shows);
  }

  read_partly : (input : List ℕ) → MachineStopped (run_of image) observed_before observed_now input 63 ReadsPart machine
      → StoppedInRead before now image input machine.steps
  read_partly input s = record {
    stands = ap (λ (x : Shown). x.standing) s.came.shows;
    call = s.call;
    goes = s.goes;
    written = subst (λ (o : List ℕ). Appends out0.bytes out1.bytes o) (sym (ap (λ (x : Shown). x.output) s.came.shows)) (s.part.3 ∙ s.written);
    taken = (
      length s.part.0,
      s.part.1,
      left_after in1.bytes s.part.0 s.rest (sym s.left ∙ s.part.2) ∙ sym (ap (λ (x : Shown). Some (drop (length s.part.0) x.rest)) s.came.shows),
    );
  }

  wrote_partly : (input : List ℕ) → MachineStopped (run_of image) observed_before observed_now input 64 WritesPart machine
      → StoppedInWrite before now image input machine.steps
  wrote_partly input s = record {
    stands = ap (λ (x : Shown). x.standing) s.came.shows;
    call = s.call;
    goes = s.goes;
    written = (
      s.part.0,
      subst (λ (o : List ℕ). Appends out0.bytes out1.bytes (o ++ take s.part.0 (asked_bytes (state_at image input machine.steps))))
          (sym (ap (λ (x : Shown). x.output) s.came.shows))
          (append_twice out0.bytes s.middle.written out1.bytes s.output _ s.written s.part.1),
    );
    left = s.part.2 ∙ s.left ∙ sym (ap (λ (x : Shown). Some x.rest) s.came.shows);
  }

  module _ (bytes : List ℕ) (keeps : FilesKeep f0 f1) (was : IfKnown f0 elf (λ file. file ≡ Some bytes))
      (few : length bytes ≤ elf_limit) (loads : loaded bytes ≡ Ok image) where
    holds : (f : Option Contents) (P : Image → List ℕ → Type 0) → IfKnown f elf (λ file. file ≡ Some bytes)
        → ((input : List ℕ) → in0.bytes ≡ Some input → P image input)
        → HoldsElf f elf (λ b. (i : Image) × (loaded b ≡ Ok i) × ((input : List ℕ) → in0.bytes ≡ Some input → P i input))
    holds None P w known = tt
    holds (Some files) P w known = (bytes, w, few, (image, loads, known))

    ran : (P : Image → List ℕ → Type 0) → ((input : List ℕ) → in0.bytes ≡ Some input → P image input) → Ran elf before now P
    ran P known = record { program = holds f0 P was known; files = keeps }

    pub run_gives : (end : MachineEnd) → MachineGives (run_of image) limit observed_before observed_now machine end
        → RunGives limit elf before now (answer_for end)
    run_gives (E.StepLimit n) g =
        (g.0, ran _ (λ input known. subst (λ (m : ℕ). CameTo Running before now image input m) g.1 (came input Running (g.3 input known))))
    run_gives E.ReadFault g = (g.0, ran _ (λ input known. (machine.steps, g.1, read_partly input (g.2 input known))))
    run_gives E.WriteFault g = (g.0, ran _ (λ input known. (machine.steps, g.1, wrote_partly input (g.2 input known))))
    run_gives (E.Exits status) g = ran _ (λ input known. (machine.steps, g.0, came input (Exits status) (g.2 input known)))
    run_gives (E.Trap kind pc) g = ran _ (λ input known. (machine.steps, g.0, came input (Trap kind pc) (g.2 input known)))
    run_gives (E.Break pc) g = ran _ (λ input known. (machine.steps, g.0, came input (Break pc) (g.2 input known)))
