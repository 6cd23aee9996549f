-- The file of a program of files is one of it.
use Rattle.std.proofs.Common.{◌≡◌, ℕ, ◌+◌, ◌^◌, ◌<◌, ◌≤◌, false, List, [], All, Ok, refl, ap, subst, arith}
use Rattle.block_memory.specs.RunWorlds.Worlds.{End, goes_on}
use Rattle.c_meaning.specs.Longer.{HadRoom}
use Rattle.c_meaning.specs.Run.{run as source, run_of, start}
use Rattle.c_typed.specs.Programs.{ProgramData}
use Rattle.elf32.specs.Loaded.{loaded}
use Rattle.lower_tac.specs.Same.{RunsAreSame}
use Rattle.lower_tac.specs.Statements.{lowered}
use Rattle.rv_emit.specs.Claims.{Claims}
use Rattle.rv_emit.specs.Grounds.{Ground}
use Rattle.rv_emit.specs.Relation.{IsBuilt}
use Rattle.rv_emit.proofs.Runs.{claims_are, runs}
use Rattle.rv_image.specs.Images.{Fits, image_of}
use Rattle.rv_isa.specs.Events.{events}
use Rattle.rv_isa.specs.Memory.{Memory, initial_memory}
use Rattle.rv_isa.specs.Run.{run, start as machine_start}
use Rattle.tac_ir.specs.Code.{Code, code_of}
use Rattle.tac_ir.specs.Running.{code_run, go}
use Rattle.tac_ir.specs.declared.step.Tac.{Tac}
use Rattle.code_bounds.specs.CompiledLaws.{FunctionsAreAsLong, ProgramsAreAsLong, StepsAreAsLong}
use Rattle.compiled_files.specs.CodeRuns.Laws.{EarlierFits, LightRunsFit, RunsAdd, StepsAdd}
use Rattle.compiled_files.specs.CodeRuns.Room.{AllocationHasRoom, AreWithin, CallHasRoom}
use Rattle.compiled_files.specs.Files.{IsFileOf}
use Rattle.compiled_files.specs.Placing.{placed, room_of}
use Rattle.compiled_files.specs.Sound.{IsSound}
use Rattle.compiled_files.proofs.Agreeing as Agreeing
use Rattle.compiled_files.proofs.InImage.Images as Images
use Rattle.compiled_files.proofs.Room as Room
use Rattle.compiled_files.proofs.Room.{frame_in}
use Rattle.compiled_files.proofs.Starting.FirstRun.{first}

module _ (p : ProgramData) (t : Tac) (heap stack : ℕ) (fits : Fits p t) (heap_high : heap ≤ 1024) (stack_high : stack ≤ 128) (code : code_of t ≡ lowered p)
    (sound : IsSound p (code_of t)) (steps : StepsAreAsLong) (functions : FunctionsAreAsLong) (programs : ProgramsAreAsLong) where
  abbrev c : Code
  c = code_of t

  abbrev ground : Ground
  ground = Images.ground p t heap stack fits heap_high stack_high

  room : ground.room ≡ room_of p c heap stack
  room = Images.ground_room p t heap stack fits heap_high stack_high

  segments : ground.segments ≡ (image_of p c heap stack).segments
  segments = Images.ground_segments p t heap stack fits heap_high stack_high

  built : IsBuilt ground (placed p c)
  built = Images.built p t heap stack fits heap_high stack_high steps functions programs sound

  module _ (same : RunsAreSame) (adds : RunsAdd) (steps_add : StepsAdd) (earlier : EarlierFits) (call_room : CallHasRoom) (heap_room : AllocationHasRoom)
      (small : (a : ℕ) → initial_memory (image_of p c heap stack).segments a < 2 ^ 8) where
    abbrev Claim : Claims
    Claim = Room.Claim p c heap stack ground room

    -- where no turn is left no step is needed
    no_turn : (input : List ℕ) → Claim (goes_on (start p input 0 false)) 0 (machine_start (image_of p c heap stack) input) []
    unfolding run events
    no_turn input = λ light. (0, omega arith, record { run_is = refl; blocks = []; made = refl })

    -- what a run of so many turns comes to, the machine comes to
    claimed : (input : List ℕ) → All (λ b. b < 2 ^ 8) input → (n : ℕ) → Agreeing.Claimed p c heap stack ground room segments (run_of p input n false) n input
    claimed input bytes n =
        let claims = claims_are ground (placed p c) (Room.DoesFit p c heap stack ground room) in
        let covers = same p input n false in
        let k = covers.steps + 0 in
        let follows = runs ground (placed p c) built Claim claims (Room.calls_have_room p c heap stack ground room earlier adds steps_add call_room)
        (Room.allocations_have_room p c heap stack ground room earlier adds steps_add heap_room) k in
        let text = λ (a : ℕ). ap (λ (m : Memory). m a) (Images.ground_text p t heap stack fits heap_high stack_high) in
        subst (λ (e : End). Agreeing.Claimed p c heap stack ground room segments e n input) (covers.is 0)
        (subst (λ (z : Code). Agreeing.Claimed p c heap stack ground room segments (code_run p.types z (start p input n false) k) n input) code
        (first p t heap stack fits sound small ground text room (Images.texts_hold p t heap stack fits heap_high stack_high) built
        (Images.program_here p t heap stack fits heap_high stack_high) Claim claims (go p.types c k) follows no_turn
        (Room.main_has_room p c heap stack ground room earlier adds steps_add call_room k) input bytes n))

    -- the file of the image is one of the program
    pub file_is : LightRunsFit → AreWithin p (frame_in c) → ((input : List ℕ) (n : ℕ) → HadRoom (source p input n)) → (elf : List ℕ)
        → loaded elf ≡ Ok (image_of p c heap stack) → IsFileOf p heap stack elf
    file_is light within had elf loads =
        Agreeing.is_file p c heap stack ground room segments claimed
        (λ input n h. light p heap stack input n h (frame_in c) within) had elf loads
