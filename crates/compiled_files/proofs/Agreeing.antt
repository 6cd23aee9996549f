-- The machine on the image of a program does what the program does, and its events are those of the program.
use Rattle.std.proofs.Common.{◌≡◌, ℕ, ◌^◌, ◌<◌, ◌≤◌, false, List, [], All, Ok, refl, ap, subst, arith}
use Rattle.std.specs.Prelude.{Contains}
use Rattle.agreement.specs.Agreement.{AgreesFor, shows}
use Rattle.agreement.specs.Real.{ComesTo, IsRealFor, events_of}
use Rattle.agreement.proofs.NothingElse.{agrees_for}
use Rattle.block_memory.specs.RunWorlds.Events.{Event, output_of}
use Rattle.block_memory.specs.RunWorlds.Worlds.{World, End, ends, goes_on, undefined, out_of_room, world_of}
use Rattle.block_memory.specs.SourceEnd.{SourceEnd, Ends, GoesOn, Undefined}
use Rattle.c_meaning.specs.Longer.{HadRoom}
use Rattle.c_meaning.specs.Run.{run, run_of, seen}
use Rattle.c_meaning.specs.SourceRun.{source_end, source_run}
use Rattle.c_meaning.specs.Weights.{IsLight}
use Rattle.c_typed.specs.Programs.{ProgramData}
use Rattle.rv_emit.specs.Claims.{Comes}
use Rattle.rv_emit.specs.Grounds.{Ground}
use Rattle.elf32.specs.Loaded.{loaded}
use Rattle.elf32.specs.Written.{heap_address, stack_address}
use Rattle.rv_image.specs.Images.{image_of, room_segment}
use Rattle.rv_isa.specs.declared.image.Image.{Image}
use Rattle.rv_isa.specs.Events.{events}
use Rattle.rv_isa.specs.declared.image.Segment.{Segment}
use Rattle.rv_isa.specs.Run.{Shown, run as machine, start as machine_start}
use Rattle.rv_isa.specs.Step.{Running, Exits, Standing}
use Rattle.tac_ir.specs.Code.{Code}
use Rattle.compiled_files.specs.Files.{IsFileOf, trace_in}
use Rattle.compiled_files.specs.Placing.{placed, room_of}
use Rattle.compiled_files.proofs.Events.{events_are, place_in}
use Rattle.compiled_files.proofs.Room.{Claim, DoesFit}

module _ (p : ProgramData) (c : Code) (heap stack : ℕ) (ground : Ground) (room : ground.room ≡ room_of p c heap stack)
    (same : ground.segments ≡ (image_of p c heap stack).segments) where
  abbrev image : Image
  image = image_of p c heap stack

  -- what is claimed of an end, of the machine's run on an input
  abbrev pub Claimed : End → (turns : ℕ) → (input : List ℕ) → Type 0
  Claimed e turns input = Claim p c heap stack ground room e turns (machine_start image input) []

  -- the machine comes so far in so many steps, with the events of the trace
  comes_to : (standing : Standing) (w : World) (input : List ℕ) (k : ℕ)
      → Comes ground (placed p c) (DoesFit p c heap stack ground room) standing w (machine_start image input) [] k
      → ComesTo image input k (shows standing (output_of w.trace) w.input) w.trace
  comes_to standing w input k comes = record {
    shows_it = subst (λ (all : List Segment). machine all k (machine_start image input) ≡ shows standing (output_of w.trace) w.input) same comes.run_is;
    address = place_in comes.blocks;
    events_are = subst (λ (all : List Segment). events all k (machine_start image input) ≡ events_of (place_in comes.blocks) w.trace) same
        (events_are ground (placed p c) comes.blocks w.trace (events ground.segments k (machine_start image input)) comes.made);
  }

  -- ---- what the source comes to

  abbrev shown_by : SourceEnd → Shown
  shown_by (Ends output status rest) = shows (Exits status) output rest
  shown_by (GoesOn output rest) = shows Running output rest
  shown_by (Undefined kind place output rest) = shows Running output rest

  as_shown : (input : List ℕ) (k : ℕ) (trace : List Event) (a b : Shown) → a ≡ b → ComesTo image input k a trace → ComesTo image input k b trace
  as_shown input k trace a b e comes = subst (λ (z : Shown). ComesTo image input k z trace) e comes

  module _ (input : List ℕ) (n : ℕ) (output rest : List ℕ) where
    by_end : (status : ℕ) (e : End) → Claimed e n input → DoesFit p c heap stack ground room e → source_end (seen e) ≡ Ends output status rest
        → (m : ℕ) × ComesTo image input m (shows (Exits status) output rest) (world_of e).trace
    by_end status (ends own w) claim fits says =
        let h = claim fits in (h.0, as_shown input h.0 w.trace _ _ (ap shown_by says) (comes_to (Exits own) w input h.0 h.1))
    by_end status (goes_on w) claim fits says = cc
    by_end status (undefined kind place w) claim fits says = cc
    by_end status (out_of_room kind counted w) claim fits says = cc

    by_going : (e : End) → Claimed e n input → DoesFit p c heap stack ground room e → HadRoom (seen e) → source_end (seen e) ≡ GoesOn output rest
        → (m : ℕ) × (n ≤ m) × ComesTo image input m (shows Running output rest) (world_of e).trace
    by_going (goes_on w) claim fits had says =
        let h = claim fits in (h.0, h.1, as_shown input h.0 w.trace _ _ (ap shown_by says) (comes_to Running w input h.0 h.2))
    by_going (ends status w) claim fits had says = cc
    by_going (undefined kind place w) claim fits had says = cc
    by_going (out_of_room kind counted w) claim fits had says = absurd had

  -- ---- the file

  module _ (claims : (input : List ℕ) → All (λ b. b < 2 ^ 8) input → (n : ℕ) → Claimed (run_of p input n false) n input)
      (fits : (input : List ℕ) (n : ℕ) → IsLight p heap stack input n → DoesFit p c heap stack ground room (run_of p input n false))
      (had : (input : List ℕ) (n : ℕ) → HadRoom (run p input n)) where
    real_for : (input : List ℕ) → All (λ b. b < 2 ^ 8) input → IsRealFor (source_run p) (trace_in p) (IsLight p heap stack) image input
    real_for input bytes = record {
      ends = λ n output status rest says light.
          by_end input n output rest status (run_of p input n false) (claims input bytes n) (fits input n light) says;
      goes_on = λ n output rest says light.
          by_going input n output rest (run_of p input n false) (claims input bytes n) (fits input n light) (had input n) says;
    }

    agrees_so : (input : List ℕ) → All (λ b. b < 2 ^ 8) input → AgreesFor (source_run p) (IsLight p heap stack) image input
    agrees_so input bytes =
        let r = real_for input bytes in
        agrees_for (source_run p) (IsLight p heap stack) image input
        (λ n output status rest says light. let h = r.ends n output status rest says light in (h.0, h.1.shows_it))
        (λ n output rest says light. let h = r.goes_on n output rest says light in (h.0, h.1, h.2.shows_it))

    pub is_file : (elf : List ℕ) → loaded elf ≡ Ok image → IsFileOf p heap stack elf
    is_file elf loads = record {
      agrees = record {
        image = image;
        loads = loads;
        heap_room = record { segment = room_segment heap_address heap; among = among_heap; is_at = refl; size = refl };
        stack_room = record { segment = room_segment stack_address stack; among = among_stack; is_at = refl; size = refl };
        each_input = agrees_so;
      };
      real = record { image = image; loads = loads; each_input = real_for };
    }
      where
        among_stack : Contains image.segments (room_segment stack_address stack)
        among_stack = (2, omega arith, refl)

        among_heap : Contains image.segments (room_segment heap_address heap)
        among_heap = (3, omega arith, refl)
