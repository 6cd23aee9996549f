-- A run from its start: what is claimed of the call of `main` is claimed of the machine before its first step.
use Rattle.std.proofs.Common.{◌≡◌, ◌≢◌, ℕ, zero, suc, ◌+◌, ◌/◌, ◌^◌, ◌≤◌, false, List, [], ◌∷◌, ◌++◌, length, map, Option, Some, None}
use Rattle.std.proofs.Common.{slice_get, slice_index, refl, ap, sym, ◌∙◌, subst, arith}
use Rattle.std.specs.Prelude.{All, Contains, ◌<◌}
use Rattle.lay_base.specs.declared.faults.UndefinedKind.TheVariants as K
use Rattle.block_memory.specs.RunWorlds.Events.{entered}
use Rattle.block_memory.specs.RunWorlds.Worlds.{World, goes_on}
use Rattle.c_typed.specs.Programs.{ProgramData}
use Rattle.c_meaning.specs.Run.{start}
use Rattle.rv_isa.specs.declared.instruction.Inst.TheVariants.{Lui}
use Rattle.rv_isa.specs.Events.{MachineEvent, code_address}
use Rattle.rv_isa.specs.Memory as M
use Rattle.rv_isa.specs.Run as Machine
use Rattle.rv_isa.specs.Step.{State}
use Rattle.rv_runtime.specs.Bytes.{Holds}
use Rattle.tac_ir.specs.Code.{Code, RoutineData, code_of}
use Rattle.tac_ir.specs.Running.{Next, body, calls, empty_slot, no_place, receive}
use Rattle.tac_ir.specs.declared.step.Step.{Step}
use Rattle.tac_ir.specs.declared.step.Tac.{Tac}
use Rattle.rv_code.specs.Code.{code_if_any, entry_code, stack_place, steps_code}
use Rattle.rv_code.specs.Programs.{program_code}
use Rattle.rv_code.specs.Words.{call_code}
use Rattle.rv_code.specs.declared.layout.Layout.{Layout}
use Rattle.elf32.specs.Written.{stack_address}
use Rattle.rv_image.specs.Data.{object_places, texts_at}
use Rattle.rv_image.specs.Images.{Fits, end_of_room, image_of}
use Rattle.rv_emit.specs.Maps.{Room}
use Rattle.rv_emit.specs.Grounds.{Ground}
use Rattle.rv_emit.specs.Relation.{Here, IsBuilt, IsLaid, Worldly}
use Rattle.rv_emit.specs.Claims.{AreClaims, Claims, Follows}
use Rattle.rv_emit.proofs.Moves.{Goal}
use Rattle.compiled_files.specs.Placing.{placed, room_of}
use Rattle.compiled_files.specs.Sound.{IsSound}
use Rattle.compiled_files.proofs.Starting.FirstCall.{by_entry}
use Rattle.compiled_files.proofs.Starting.FirstSteps.{by_start}
use Rattle.compiled_files.proofs.Starting.FirstWorld.{blocks_of, first_world, no_owner, owner_of}

module _ (p : ProgramData) (t : Tac) (heap stack : ℕ) (fits : Fits p t) (sound : IsSound p (code_of t))
    -- memory holds bytes
    (small : (a : ℕ) → M.initial_memory (image_of p (code_of t) heap stack).segments a < 2 ^ 8)
    -- the ground is that of the image
    (ground : Ground) (text_is : (a : ℕ) → ground.text a ≡ M.initial_memory (image_of p (code_of t) heap stack).segments a)
    (room_is : ground.room ≡ room_of p (code_of t) heap stack)
    -- texts stand among the data
    (texts_hold : (at : ℕ) (bytes : List ℕ) → Contains (placed p (code_of t)).texts (at, bytes)
    → Holds (M.initial_memory (image_of p (code_of t) heap stack).segments) at bytes × (0x08000100 ≤ at)
    × (at + length bytes ≤ (room_of p (code_of t) heap stack).data_end))
    -- the code stands
    (built : IsBuilt ground (placed p (code_of t)))
    (stands : Here ground (placed p (code_of t)) code_address
    (program_code (code_of t) (end_of_room stack_address stack) (object_places p) (texts_at p))) where
  abbrev c : Code
  c = code_of t

  abbrev memory : M.Memory
  memory = M.initial_memory (image_of p c heap stack).segments

  abbrev main : ℕ
  main = slice_index (placed p c).places.entries c.main

  -- the world in which `main` begins, with so many turns left
  abbrev main_entered : (input : List ℕ) (turns : ℕ) → World
  main_entered input n = record (start p input (suc n) false) { turns = n; depth = 1; trace = entered c.main ∷ [] }

  stack_end : ground.room.stack_end ≡ end_of_room stack_address stack
  stack_end = ap (λ (r : Room). r.stack_end) room_is

  -- its first instructions are the end of the stack and a call
  begins : Here ground (placed p c) code_address (Lui 2 (ground.room.stack_end / 2 ^ 12) ∷ call_code main)
  begins =
      subst (λ top. Here ground (placed p c) code_address (Lui 2 (top / 2 ^ 12) ∷ call_code main)) (sym stack_end) (stands.0, (stands.1.0, (stands.1.1.0, tt)))

  world : (input : List ℕ) → All (λ b. b < 2 ^ 8) input → (turns : ℕ) → Worldly ground (placed p c) (blocks_of p) (owner_of p) (start p input turns false) memory input [] []
  world input bytes turns = first_world p t heap stack fits sound small ground text_is room_is texts_hold input bytes turns false

  module _ (Claim : Claims) (claims : AreClaims ground (placed p c) Claim) (next : Next) (follows : Follows ground (placed p c) Claim next)
      -- where no turn is left the run goes on, wherever the machine stands
      (no_turn : (input : List ℕ) → Claim (goes_on (start p input 0 false)) 0 (Machine.start (image_of p c heap stack) input) [])
      -- the stack has room for the frame of `main`
      (main_has_room : (g : RoutineData) (l : Layout) → IsLaid ground (placed p c) c.main g l → (w : World) → w.trace ≡ entered c.main ∷ []
      → (n : ℕ) (s : State) (before : List MachineEvent)
      → (stack_place + l.size ≤ ground.room.stack_end → Claim (body p.types c next no_place [] g g.code [] w) n s before)
      → Claim (body p.types c next no_place [] g g.code [] w) n s before) where
    pub first : (input : List ℕ) → All (λ b. b < 2 ^ 8) input → (turns : ℕ)
        → Claim (calls p.types c next no_place c.main [] (slice_get c.routines c.main) [] [] (start p input turns false)) turns
        (Machine.start (image_of p c heap stack) input) []
    first input bytes turns = by_routine turns (slice_get c.routines c.main) refl
      where
        s : State
        s = Machine.start (image_of p c heap stack) input

        -- where the stack has room
        with_room : (n : ℕ) (g : RoutineData) → slice_get c.routines c.main ≡ Some g → (l : Layout) → IsLaid ground (placed p c) c.main g l
            → Here ground (placed p c) main (entry_code l g.parameters ++ steps_code (placed p c).places g l g.code)
            → stack_place + l.size ≤ ground.room.stack_end → Claim (next [] g g.code (map empty_slot g.locals) (main_entered input n)) (n + 1) s []
        with_room n g is l laid code enough =
            let none : g.parameters ≡ [] = sound.main g is in
            let end = next [] g g.code (map empty_slot g.locals) (main_entered input n) in
            let goal : Goal ground = record { Claim = Claim end; claim = claims.backward end; n = n + 1; input = input; output = []; before = [] } in
            let w = world input bytes (suc n) in
            let low = ground.data_end in
            by_start ground goal memory w.keeps (λ r. 0) ground.room.stack_end main refl begins (omega (arith, stack_end)) laid.entry.whole
            (omega (arith, laid.entry.small)) laid.entry.code
            λ f nil one top. by_entry ground (placed p c) (blocks_of p) (owner_of p) (start p input (suc n) false) memory input [] [] w
            (λ a le lt. no_owner p t heap stack fits sound small ground text_is room_is texts_hold a (omega arith))
            (omega (arith, stack_end)) refl c.main g l laid enough built.end Claim claims next follows none n f nil one top code

        by_code : (n : ℕ) (g : RoutineData) → slice_get c.routines c.main ≡ Some g → (code : List Step) → g.code ≡ code
            → Claim (body p.types c next no_place [] g code [] (main_entered input n)) (suc n) s []
        by_code n g is [] e = claims.undefined K.Call no_place (main_entered input n) (suc n) s []
        by_code n g is (z ∷ more) e =
            let w = main_entered input n in
            let none : g.parameters ≡ [] = sound.main g is in
            let some : g.code ≢ [] = λ d. (let b : z ∷ more ≡ [] = sym e ∙ d in cc) in
            let has = built.laid c.main g is some in
            let l = has.0 in
            let laid = has.1 in
            let count : n + 1 ≡ suc n = omega arith in
            let code : Here ground (placed p c) main (entry_code l g.parameters ++ steps_code (placed p c).places g l g.code) =
            subst (λ x. Here ground (placed p c) main (entry_code l g.parameters ++ steps_code (placed p c).places g l x)) (sym e)
            (subst (λ x. Here ground (placed p c) main (code_if_any (placed p c).places g l x)) e laid.stands) in
            subst (λ x. Claim (body p.types c next no_place [] g x [] w) (suc n) s []) e
            (main_has_room g l laid w refl (suc n) s []
            λ enough. subst (λ x. Claim (body p.types c next no_place [] g x [] w) (suc n) s []) (sym e)
            (subst (λ r. Claim (receive no_place 0 r [] (λ u f. next [] g (z ∷ more) f) (map empty_slot g.locals) w) (suc n) s []) (sym none)
            (subst (λ x. Claim (next [] g x (map empty_slot g.locals) w) (suc n) s []) e
            (subst (λ i. Claim (next [] g g.code (map empty_slot g.locals) w) i s []) count (with_room n g is l laid code enough)))))

        by_routine : (turns : ℕ) (o : Option RoutineData) → slice_get c.routines c.main ≡ o
            → Claim (calls p.types c next no_place c.main [] o [] [] (start p input turns false)) turns s []
        by_routine turns None is = claims.undefined K.Call no_place (start p input turns false) turns s []
        by_routine zero (Some g) is = no_turn input
        by_routine (suc n) (Some g) is = by_code n g is g.code refl
