-- What runs add to a world, and through which moments they pass.
use Rattle.std.proofs.Common.{◌≡◌, refl, sym, ap, ◌∙◌, subst, ℕ, zero, suc, ◌+◌, List, [], ◌∷◌, slice_get, arith}
use Rattle.lay_base.specs.declared.faults.UndefinedKind.TheVariants as K
use Rattle.c_types.specs.Types.{CType}
use Rattle.block_memory.specs.RunWorlds.Worlds.{World, End, undefined, world_of}
use Rattle.c_meaning.specs.Frames.{Frame}
use Rattle.tac_ir.specs.Code.{Code, RoutineData}
use Rattle.tac_ir.specs.Covering.{Covers}
use Rattle.tac_ir.specs.Running.{no_place, Caller, Next, go, code_run}
use Rattle.tac_ir.specs.declared.step.Step.{Step}
use Rattle.compiled_files.specs.CodeRuns.Active.{active, HasActive}
use Rattle.compiled_files.specs.CodeRuns.Growth.{Onward, OnlyAdds}
use Rattle.compiled_files.specs.CodeRuns.Laws.{Lead, Add}
use Rattle.compiled_files.specs.CodeRuns.Leading.{Leads}
use Rattle.compiled_files.specs.CodeRuns.Moments.{Moved, to, over, world_behind, go_on}
use Rattle.compiled_files.specs.CodeRuns.Passing.{Passes, PassesTo}
use Rattle.compiled_files.proofs.CodeRuns.Adding.{onward_same, onward_then}
use Rattle.compiled_files.proofs.CodeRuns.Steps.{step_leads, body_leads, calls_lead, returns_lead}

module _ (types : List CType) (c : Code) where
  pub lead : Lead types c
  lead = record {
    steps = λ cs g s more f w. step_leads c types cs g s more f w;
    bodies = λ at cs g code all w. body_leads c types at cs g code all w;
    calls = λ at k cs all f w. calls_lead c types at k cs (slice_get c.routines k) all f w refl;
    returns = λ cs v w. returns_lead c types cs v w;
  }

  -- ---- growth

  moved_grows : (next : Next) → OnlyAdds next → (m : Moved) → Onward (world_behind m) (world_of (go_on next m))
  moved_grows next grows (to m) = grows m.callers m.routine m.more m.frame m.world
  moved_grows next grows (over e) = onward_same (world_of e)

  led_grows : {w : World} {Holds : Moved → Type 0} {run : Next → End} → Leads w Holds run → (next : Next) → OnlyAdds next → Onward w (world_of (run next))
  led_grows {w} one next grows =
      subst (λ (e : End). Onward w (world_of e)) (sym (one.is next)) (onward_then one.onward (moved_grows next grows one.moved))

  pub go_grows : (n : ℕ) → OnlyAdds (go types c n)
  go_grows zero cs g more f w = onward_same w
  go_grows (suc n) cs g [] f w = onward_same w
  go_grows (suc n) cs g (s ∷ more) f w = led_grows (step_leads c types cs g s more f w) (go types c n) (go_grows n)

  pub add : (next : Next) → OnlyAdds next → Add types c next
  add next adds = record {
    steps = λ cs g s more f w. led_grows (step_leads c types cs g s more f w) next adds;
    bodies = λ at cs g code all w. led_grows (body_leads c types at cs g code all w) next adds;
    calls = λ at k cs all f w. led_grows (calls_lead c types at k cs (slice_get c.routines k) all f w refl) next adds;
    returns = λ cs v w. led_grows (returns_lead c types cs v w) next adds;
  }

  -- ---- moments

  -- from there on
  abbrev Goes : (m : Moved) (k : ℕ) → Type 0
  Goes m k = Passes types c (world_behind m) k (λ n. go_on (go types c n) m)

  stays : (e : End) (k : ℕ) → Goes (over e) k
  stays e k = record { moved = over e; is = λ n. refl; onward = onward_same (world_of e); active = tt }

  -- one step later
  later : {w v : World} {run other : ℕ → End} (k : ℕ) → Onward w v → ((n : ℕ) → run (suc n) ≡ other n) → Passes types c v k other → Passes types c w (suc k) run
  later {run = run} k h same one = record {
    moved = one.moved;
    is = λ n. (let e : suc k + n ≡ suc (k + n) = omega arith in ap run e ∙ same (k + n) ∙ one.is n);
    onward = onward_then h one.onward;
    active = one.active;
  }

  goes_from : (k : ℕ) → ((m : Moved) → HasActive c m → Goes m k) → (cs : List Caller) (g : RoutineData) (more : List Step) (f : Frame) (w : World)
      → HasActive c (to (record { callers = cs; routine = g; more = more; frame = f; world = w }))
      → Passes types c w (suc k) (λ n. go types c n cs g more f w)
  goes_from k next cs g [] f w h = later k (onward_same w) (λ n. refl) (stays (undefined K.Call no_place w) k)
  goes_from k next cs g (s ∷ more) f w h =
      let one = step_leads c types cs g s more f w in
      later k one.onward (λ n. one.is (go types c n)) (next one.moved (one.holds h.0 h.1 h.2))

  goes : (k : ℕ) (m : Moved) → HasActive c m → Goes m k
  goes zero m h = record {
    moved = m;
    is = λ n. (let e : 0 + n ≡ n = omega arith in ap (λ (z : ℕ). go_on (go types c z) m) e);
    onward = onward_same (world_behind m);
    active = h;
  }
  goes (suc k) (over e) h = stays e (suc k)
  goes (suc k) (to m) h = goes_from k (goes k) m.callers m.routine m.more m.frame m.world h

  pub runs_pass : (w : World) → active w.trace ≡ [] → (k : ℕ) → Passes types c w k (code_run types c w)
  runs_pass w h k =
      let one = calls_lead c types no_place c.main [] (slice_get c.routines c.main) [] [] w refl in
      let behind = goes k one.moved (one.holds [] tt h) in
      record {
        moved = behind.moved;
        is = λ n. one.is (go types c (k + n)) ∙ behind.is n;
        onward = onward_then one.onward behind.onward;
        active = behind.active;
      }

  pub covered_runs_pass : (w : World) (e : End) → active w.trace ≡ [] → Covers e (code_run types c w) → (k : ℕ)
      → PassesTo types c e w k (code_run types c w)
  covered_runs_pass w e h covers k =
      let passes = runs_pass w h k in
      let same : k + covers.steps ≡ covers.steps + k = omega arith in
      let is = sym (passes.is covers.steps) ∙ ap (λ (n : ℕ). code_run types c w n) same ∙ covers.is k in
      record {
        passes = passes;
        onward = subst (λ (z : End). Onward (world_behind passes.moved) (world_of z)) is
            (moved_grows (go types c covers.steps) (go_grows covers.steps) passes.moved);
      }
