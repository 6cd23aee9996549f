-- Runs: what three-address code comes to in some steps, the machine comes to.
use Rattle.std.proofs.Common.{◌≡◌, ℕ, zero, suc, List, [], ◌∷◌, ◌++◌, ap, sym, ◌∙◌, subst, arith}
use Rattle.lay_base.specs.declared.faults.UndefinedKind.TheVariants as Undefined
use Rattle.lay_base.specs.declared.place.Place.{Place}
use Rattle.agreement.specs.Agreement.{shows}
use Rattle.c_typed.specs.declared.operators.LibraryFunction.{LibraryFunction}
use Rattle.c_typed.specs.declared.operators.LibraryFunction.TheVariants as L
use Rattle.block_memory.specs.RunWorlds.Events.{output_of}
use Rattle.block_memory.specs.RunWorlds.Worlds.{World, End, ends, goes_on, undefined, out_of_room}
use Rattle.rv_isa.specs.Events.{MachineEvent, events, events_then, step_events}
use Rattle.rv_isa.specs.Run.{after, run}
use Rattle.rv_isa.specs.Step.{State, Standing, Running, Ends, Exits, Goes, step}
use Rattle.rv_isa.proofs.Runs.{events_goes, run_goes}
use Rattle.rv_runtime.specs.Steps.States.{IsBackward, later}
use Rattle.rv_runtime.proofs.Steps.Reaching.{later_both}
use Rattle.rv_code.specs.Code.{steps_code}
use Rattle.tac_ir.specs.Running.{Next, go, no_place}
use Rattle.tac_ir.specs.declared.step.Row.{Row}
use Rattle.tac_ir.specs.declared.step.Step.{Step}
use Rattle.tac_ir.specs.declared.step.Step.TheVariants as S
use Rattle.rv_emit.specs.Maps.{Extents}
use Rattle.rv_emit.specs.Grounds.{Ground}
use Rattle.rv_emit.specs.Fitting.{CodeFits}
use Rattle.rv_emit.specs.Relation.{Program, Moment, Point, Ready, Here, IsBuilt, IsMade}
use Rattle.rv_emit.specs.Claims.{AllocationsHaveRoom, AreClaims, CallsHaveRoom, Claim as Claimed, Claims, Comes, Follows, state}
use Rattle.rv_emit.proofs.Beginning.{begin_works}
use Rattle.rv_emit.proofs.Calculating.{binary_works, convert_works, not_works, number_works, pointer_works, unary_works}
use Rattle.rv_emit.proofs.Calls.{call_through_works, call_works}
use Rattle.rv_emit.proofs.Comparing.{compare_works}
use Rattle.rv_emit.proofs.Copying.{copy_record_works}
use Rattle.rv_emit.proofs.Differing.{memcmp_works}
use Rattle.rv_emit.proofs.Ending.{end_works, fail_works, forget_works}
use Rattle.rv_emit.proofs.Exiting.{exit_works, return_held_works}
use Rattle.rv_emit.proofs.Fields.{element_field_works, field_works, inside_works, update_works}
use Rattle.rv_emit.proofs.Filling.{zeros_works}
use Rattle.rv_emit.proofs.Freeing.{free_works}
use Rattle.rv_emit.proofs.Jumping.{began_works, branch_works, case_works, jump_works, test_works}
use Rattle.rv_emit.proofs.Loading.{load_works}
use Rattle.rv_emit.proofs.Mallocs.{calloc_works, malloc_works}
use Rattle.rv_emit.proofs.Parts.{distance_works, element_works, part_works}
use Rattle.rv_emit.proofs.Plain.{Works, clear_works, set_works}
use Rattle.rv_emit.proofs.Pointing.{move_works}
use Rattle.rv_emit.proofs.Ranging.{memcpy_works, memmove_works}
use Rattle.rv_emit.proofs.Reading.{getchar_works}
use Rattle.rv_emit.proofs.Requesting.{allocate_works}
use Rattle.rv_emit.proofs.Returning.{return_works}
use Rattle.rv_emit.proofs.Setting.{memset_works}
use Rattle.rv_emit.proofs.Storing.{store_works}
use Rattle.rv_emit.proofs.Texting.{text_works}
use Rattle.rv_emit.proofs.Writing.{putchar_works}

-- ---- what is claimed is such a claim

module _ (ground : Ground) (p : Program) (IsLight : End → Type 0) where
  -- one step more in front
  comes_back : (standing : Standing) (w : World) (s t : State) (before made : List MachineEvent) (k : ℕ) → step ground.segments s ≡ Goes t
      → step_events ground.segments s t ≡ made → Comes ground p IsLight standing w t (later made before) k → Comes ground p IsLight standing w s before (suc k)
  comes_back standing w s t before made k e m c = record {
    run_is = run_goes ground.segments k s t e ∙ c.run_is;
    blocks = c.blocks;
    made =
        let same : later (events ground.segments (suc k) s) before ≡ later (events ground.segments k t) (later made before) =
        ap (λ (x : List MachineEvent). later x before) (events_goes ground.segments k s t e ∙ ap (λ (x : List MachineEvent). x ++ events ground.segments k t) m)
        ∙ later_both made (events ground.segments k t) before in
        subst (IsMade ground p c.blocks w.trace) (sym same) c.made;
  }

  claim_back : (e : End) → IsBackward ground.segments (Claimed ground p IsLight e)
  claim_back (ends status w) = record {
    back = λ n s t before made e m c light. let h = c light in (suc h.0, comes_back (Exits status) w s t before made h.0 e m h.1);
    fewer = λ n s before c. c;
  }
  claim_back (goes_on w) = record {
    back = λ n s t before made e m c light. let h = c light in (suc h.0, omega (arith, h.1), comes_back Running w s t before made h.0 e m h.2);
    fewer = λ n s before c light. let h = c light in (h.0, omega (arith, h.1), h.2);
  }
  claim_back (undefined kind place w) = record { back = λ n s t before made e m c. tt; fewer = λ n s before c. tt }
  claim_back (out_of_room kind counted w) = record { back = λ n s t before made e m c. tt; fewer = λ n s before c. tt }

  -- no step is needed where no turn is left
  now : (m : Moment) (q : Point) → Ready ground p m q → Comes ground p IsLight Running m.w (state q) q.before 0
  unfolding run events
  now m q ready = record {
    run_is = ap (λ (x : List ℕ). shows Running x q.input) ready.world.output_is ∙ ap (λ (x : List ℕ). shows Running (output_of m.w.trace) x) ready.world.input_is;
    blocks = m.blocks;
    made = ready.world.made;
  }

  at_last : (blocks : Extents) (status : ℕ) (w : World) (s : State) (before : List MachineEvent) → step ground.segments s ≡ Ends (Exits status)
      → s.output ≡ output_of w.trace → s.input ≡ w.input → IsMade ground p blocks w.trace before → Comes ground p IsLight (Exits status) w s before 1
  unfolding run events
  at_last blocks status w s before e output input made = record {
    run_is = ap (after (run ground.segments 0) s) e ∙ ap (λ (x : List ℕ). shows (Exits status) x s.input) output
        ∙ ap (λ (x : List ℕ). shows (Exits status) (output_of w.trace) x) input;
    blocks = blocks;
    made = subst (λ (x : List MachineEvent). IsMade ground p blocks w.trace (later x before)) (sym (ap (events_then (events ground.segments 0) ground.segments s) e)) made;
  }

  pub claims_are : AreClaims ground p (Claimed ground p IsLight)
  claims_are = record {
    backward = claim_back;
    undefined = λ kind place w n s before. tt;
    out_of_room = λ kind counted w n s before. tt;
    exits = λ blocks status w n s before e output input made light. (1, at_last blocks status w s before e output input made);
    going = λ m q ready light. (0, omega arith, now m q ready);
  }

-- ---- steps

module _ (ground : Ground) (p : Program) (built : IsBuilt ground p) (Claim : Claims) (claims : AreClaims ground p Claim) (next : Next)
    (follows : Follows ground p Claim next) (room : CallsHaveRoom ground p Claim next) (has_room : AllocationsHaveRoom ground p Claim next) (m : Moment)
    (q : Point) (ready : Ready ground p m q) where
  library_works : (t : ℕ) (at : Place) (which : LibraryFunction) (all : Row) → Works ground p built Claim claims next m q (S.Library t at which all)
  library_works t at L.Malloc all = malloc_works ground p built Claim claims next follows has_room m q ready t at all
  library_works t at L.Calloc all = calloc_works ground p built Claim claims next follows has_room m q ready t at all
  library_works t at L.Free all = free_works ground p built Claim claims next follows m q ready t at all
  library_works t at L.Memcpy all = memcpy_works ground p built Claim claims next follows m q ready t at all
  library_works t at L.Memmove all = memmove_works ground p built Claim claims next follows m q ready t at all
  library_works t at L.Memset all = memset_works ground p built Claim claims next follows m q ready t at all
  library_works t at L.Memcmp all = memcmp_works ground p built Claim claims next follows m q ready t at all
  library_works t at L.Putchar all = putchar_works ground p built Claim claims next follows m q ready t at all
  library_works t at L.Getchar all = getchar_works ground p built Claim claims next follows m q ready t at all
  library_works t at L.Exit all = exit_works ground p built Claim claims next follows m q ready t at all

  pub step_works : (s : Step) → Works ground p built Claim claims next m q s
  step_works (S.Set t a) = set_works ground p built Claim claims next follows m q ready t a
  step_works (S.Clear t) = clear_works ground p built Claim claims next follows m q ready t
  step_works (S.Unary t at op a) = unary_works ground p built Claim claims next follows m q ready t at op a
  step_works (S.Not t a) = not_works ground p built Claim claims next follows m q ready t a
  step_works (S.Convert t at k a) = convert_works ground p built Claim claims next follows m q ready t at k a
  step_works (S.AsPointer t at a) = pointer_works ground p built Claim claims next follows m q ready t at a
  step_works (S.Number t at a) = number_works ground p built Claim claims next follows m q ready t at a
  step_works (S.Binary t at op k right a b) = binary_works ground p built Claim claims next follows m q ready t at op k right a b
  step_works (S.Compare t at op k a b) = compare_works ground p built m q ready Claim claims next follows t at op k a b
  step_works (S.Move t at op size left k a b) = move_works ground p built m q ready Claim claims next follows t at op size left k a b
  step_works (S.Distance t at size a b) = distance_works ground p built m q ready Claim claims next follows t at size a b
  step_works (S.Update t at op size sort right a b) = update_works ground p built m q ready Claim claims next follows t at op size sort right a b
  step_works (S.Field t at by a) = field_works ground p built m q ready Claim claims next follows t at by a
  step_works (S.ElementField t at size k by a b) = element_field_works ground p built m q ready Claim claims next follows t at size k by a b
  step_works (S.Element t at n size addressed k a b) = element_works ground p built m q ready Claim claims next follows t at n size addressed k a b
  step_works (S.Part t at by a) = part_works ground p built m q ready Claim claims next follows t at by a
  step_works (S.Inside t at x by) = inside_works ground p built m q ready Claim claims next follows t at x by
  step_works (S.Load t at access a) = load_works ground p built m q ready Claim claims next follows t at access a
  step_works (S.Store at access a b) = store_works ground p built m q ready Claim claims next follows at access a b
  step_works (S.Jump to) = jump_works ground p built Claim claims next follows m q ready to
  step_works (S.Branch when a to) = branch_works ground p built Claim claims next follows m q ready when a to
  step_works (S.Test at op k when a b to) = test_works ground p built Claim claims next follows m q ready at op k when a b to
  step_works (S.Case n a to) = case_works ground p built Claim claims next follows m q ready n a to
  step_works (S.Began f l) = began_works ground p built Claim claims next follows m q ready f l
  step_works (S.Begin x size) = begin_works ground p built m q ready Claim claims next follows x size
  step_works (S.End x) = end_works ground p m q ready Claim claims built next follows x
  step_works (S.Forget x size) = forget_works ground p m q ready Claim claims built next follows x size
  step_works (S.Fail k at) = fail_works ground p m q ready Claim claims built next follows k at
  step_works (S.Zeros x size) = zeros_works ground p m q ready built Claim claims next follows x size
  step_works (S.CopyRecord at size a b) = copy_record_works ground p built m q ready Claim claims next follows at size a b
  step_works (S.Call t at f all) = call_works ground p built Claim claims next follows room m q ready t at f all
  step_works (S.CallThrough t at ty a all) = call_through_works ground p built Claim claims next follows room m q ready t at ty a all
  step_works (S.Library t at which all) = library_works t at which all
  step_works (S.Allocate t at r size zeroed a) = allocate_works ground p built Claim claims next follows has_room m q ready t at r size zeroed a
  step_works (S.Text x by n) = text_works ground p built m q ready Claim claims next follows x by n
  step_works (S.Return a) = return_works ground p built Claim claims next follows m q ready a
  step_works (S.ReturnHeld t) = return_held_works ground p built Claim claims next follows m q ready t

-- ---- so many steps

module _ (ground : Ground) (p : Program) (built : IsBuilt ground p) (Claim : Claims) (claims : AreClaims ground p Claim)
    (room : (n : ℕ) → CallsHaveRoom ground p Claim (go p.types p.code n)) (has_room : (n : ℕ) → AllocationsHaveRoom ground p Claim (go p.types p.code n)) where
  -- wherever the machine stands as a run does, it comes to what the run comes to
  pub runs : (n : ℕ) → Follows ground p Claim (go p.types p.code n)
  runs zero m q ready code = claims.undefined Undefined.Call no_place m.w m.w.turns (state q) q.before
  runs (suc n) m q ready code = by_steps m.more (runs n) ready.fits code
    where
      by_steps : (steps : List Step) → Follows ground p Claim (go p.types p.code n) → CodeFits p.types p.code p.places m.g steps
          → Here ground p q.pc (steps_code p.places m.g m.l steps)
          → Claim (go p.types p.code (suc n) m.callers m.g steps m.frame m.w) m.w.turns (state q) q.before
      by_steps [] follows fits code = claims.undefined Undefined.Call no_place m.w m.w.turns (state q) q.before
      by_steps (s ∷ more) follows fits code =
          let m' : Moment = record m { more = more } in
          let ready' : Ready ground p m' q = record {
            nil = ready.nil;
            stack = ready.stack;
            code = ready.code;
            whole = ready.whole;
            fits = λ k d lt. fits (suc k) d (omega arith);
            world = ready.world;
            frame = ready.frame;
            callers = ready.callers;
            below = ready.below;
            runs = ready.runs;
          } in
          step_works ground p built Claim claims (go p.types p.code n) follows (room n) (has_room n) m' q ready' s code
          (fits 0 s (omega arith))
