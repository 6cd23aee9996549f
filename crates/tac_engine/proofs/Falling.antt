-- Each step of the engine leaves less. So a run of steady code is over some time.
use Rattle.std.proofs.Common.{◌≡◌, refl, sym, ap, ◌∙◌, subst, ℕ, zero, suc, ◌+◌, ◌*◌, ◌<◌, ◌≤◌, ◌==◌, Bool, true, false, not, if◌then◌else◌, nat_lt}
use Rattle.std.proofs.Common.{List, [], ◌∷◌, length, Option, Some, None, Result, Ok, Err, slice_get, get_or, arith, length-drop}
use Rattle.std.proofs.lemmas.List.{length-reverse}
use Rattle.std.specs.Prelude.{◌-◌, ℤ, pos, ◌*ℤ◌, ◌+ℤ◌, ◌^◌}
use Rattle.lay_base.specs.declared.place.Place.{Place}
use Rattle.c_types.specs.Types.{CType, integer, pointer as pointer_to}
use Rattle.c_types.specs.Sameness.{same_type}
use Rattle.memory_words.specs.declared.cell_words.pointer.Ptr.{Ptr}
use Rattle.memory_words.specs.declared.cell_words.pointer.Ptr.TheVariants as P
use Rattle.block_memory.specs.RunWorlds.Operators.{is_true, binary, compared, converted, distance, flag, moved_from, null_or_pointer, unary, updated}
use Rattle.block_memory.specs.Tested.{Tested}
use Rattle.block_memory.specs.declared.run_worlds.value.Value.{Value}
use Rattle.c_meaning.specs.Expressions.{is_subscript}
use Rattle.source_state.specs.Steps.Calls.{begun_by, enter_by, leave}
use Rattle.source_state.specs.Steps.Cores.{Core, Does, done}
use Rattle.source_state.specs.Steps.Locals.{slot, end_all, begin_as, emptied, finish}
use Rattle.source_state.specs.declared.ends.Final.{Final}
use Rattle.source_state.specs.declared.ends.Moved.{Moved}
use Rattle.source_state.specs.declared.ends.Moved.TheVariants.{Goes, Puts, Gets, Over}
use Rattle.tac_ir.specs.Code.{RoutineData, code_of, data_of, left, led}
use Rattle.tac_ir.specs.Running.{Caller, no_place, value_in, as_number, type_of_sort}
use Rattle.tac_ir.specs.Sizes.{AllFitBlocks}
use Rattle.tac_ir.specs.Turns.{AllLeadOn, LeadsOn, takes_turn}
use Rattle.tac_ir.specs.declared.step.Routine.{Routine}
use Rattle.tac_ir.specs.declared.step.Step.{Step}
use Rattle.tac_ir.specs.declared.step.Step.TheVariants as S
use Rattle.tac_ir.specs.declared.step.Tac.{Tac}
use Rattle.tac_ir.specs.declared.step.Target.{Target}
use Rattle.tac_ir.specs.declared.step.Target.TheVariants as To
use Rattle.tac_engine.specs.States.{State, Moves, changing, doing, element, finding, found, goes, in_core, jumped, jumps_if, part, putting, read}
use Rattle.tac_engine.specs.States.{read_both, read_row, reading, reading_both, through, with_core, with_found, undefined, number}
use Rattle.tac_engine.specs.Steps.{allocated, called, calls, calls_through, calls_typed, enacted, enacted_next, framed, library, made, main_called}
use Rattle.tac_engine.specs.Steps.{read_given, receive, returned, started, stepped, waiting}
use Rattle.tac_engine.proofs.Stays as Stays
use Rattle.tac_engine.proofs.Stays.{has_none}
use Rattle.tac_ir.specs.Steady.{AllSteady, IsSteady}
use Rattle.tac_ir.specs.declared.step.Operand.{Operand}
use Rattle.lay_base.specs.declared.faults.RoomKind.TheVariants.{Depth}
use Rattle.lay_base.specs.declared.faults.UndefinedKind.TheVariants as K
use Rattle.c_typed.specs.Conversions.{number_of}
use Rattle.c_typed.specs.Programs.{program_data}
use Rattle.c_meaning.specs.Program.{type_at}
use Rattle.block_memory.specs.RunWorlds.Worlds.{greatest_depth}
use Rattle.block_memory.specs.RunWorlds.Scalars.{as_word, load_in, pointer_of, store_in}
use Rattle.source_state.specs.Steps.Memories.{changed, copy_record, with_text, zeroed}
use Rattle.c_meaning.specs.declared.frame.Spot.TheVariants.{Placed as placed}
use Rattle.source_state.specs.Steps.Counting.{with_entry}
use Rattle.source_state.specs.declared.ends.Final.TheVariants.{Room, TurnLimit, Undefined}
use Rattle.tac_engine.proofs.Lessening.{AllStand, Falls, FallsBy, IsAt, IsSteadyAt, Stands, all_later, drop_fits, drop_leads, later, limit, measure}
use Rattle.tac_engine.proofs.Lessening.{most_got, most_steps, steady_got, weight, weight_least, weight_most, weight_of_turn, weights}
use Rattle.tac_engine.proofs.Plain.{Plain, PlainBy, PlainTo, by_allocated, by_change, by_core, by_doing, by_element, by_finding, by_found, by_inside}
use Rattle.tac_engine.proofs.Plain.{by_library, by_part, by_put, by_through, by_value, by_written, plain_same}

module _ (code : Tac) where
  pub record FallsTo (s : State) (m : Moves) : Type 0 where
    pub is : FallsBy code m.0 s m.1

  over : (s : State) (end : Final) (new : State) → FallsTo s (Over end, new)
  over s end new = record { is = tt }

  -- ---- a function that has begun

  pub record Begun (callers : List Caller) (g : Routine) (turns : ℕ) (new : State) : Type 0 where
    pub at : IsAt code new
    pub turns_are : new.core.turns ≡ turns
    pub more : new.more ≡ (data_of g).code
    pub callers_are : new.callers ≡ callers

  abbrev pub BegunBy : List Caller → Routine → (turns : ℕ) → Moved → State → Type 0
  BegunBy callers g turns (Over end) new = Unit {0}
  BegunBy callers g turns moved new = Begun callers g turns new

  started_begins : (place : Place) (callers : List Caller) (g : Routine) (own : List Step) (values : List Value) (s : State) → s.code ≡ code
      → AllStand code s.core.memory callers → IsSteady (data_of g) → length g.code ≤ limit code
      → BegunBy callers g s.core.turns (started place callers g own values s).0 (started place callers g own values s).1
  started_begins place callers g [] values s is stand steady few = tt
  started_begins place callers g (j ∷ rest) values s is stand steady few =
      by_result (receive place 0 g.parameters values new.core).0 (receive place 0 g.parameters values new.core).1
      (Stays.stays_receive steady.blocks.size place 0 g.parameters values new.core steady.blocks.parameters)
    where
      new : State
      new = framed callers g s

      short : length (data_of g).code ≤ limit code
      short = let many = length-reverse g.code in omega (arith, few, many)

      by_result : (r : Result (Unit {0}) Final) (d : Core) → Stays.StaysWhere steady.blocks.size new.core r d
          → BegunBy callers g s.core.turns (in_core r d new (λ u s. goes s)).0 (in_core r d new (λ u s. goes s)).1
      by_result (Err end) d h = tt
      by_result (Ok u) d h = record {
        at = record {
          code_is = is;
          here = record {
            sizes = steady.blocks.size;
            all_lead = steady.leads;
            all_fit = steady.blocks.steps;
            few = short;
            lead = steady.leads;
            fit = steady.blocks.steps;
            short = short;
            has = h.frame (has_none steady.blocks.size g.locals s.core.memory);
          };
          callers = all_later code s.core.memory d.memory callers h.memory stand;
        };
        turns_are = h.turns;
        more = refl;
        callers_are = refl;
      }

  -- ---- the step that comes next

  module _ (all : AllSteady (code_of code).routines) (s : State) (at : IsAt code s) (i : Step) (more : List Step) (next : s.more ≡ i ∷ more) where
    -- the engine behind it, but for what the step does
    abbrev after : State
    after = record s { more = more }

    abbrev sizes : ℕ → ℕ
    sizes = at.here.sizes

    lead : AllLeadOn s.routine (i ∷ more)
    lead = subst (λ (rest : List Step). AllLeadOn s.routine rest) next at.here.lead

    fit : AllFitBlocks sizes s.routine.texts (i ∷ more)
    fit = subst (λ (rest : List Step). AllFitBlocks sizes s.routine.texts rest) next at.here.fit

    short : length more ≤ limit code
    short = let h = at.here.short in let e : length s.more ≡ suc (length more) = ap length next in omega (arith, h, e)

    heavy : weight s.more ≡ weight (i ∷ more)
    heavy = ap weight next

    -- with other steps left, of the same function
    stands_with : (rest : List Step) (c : Core) → AllLeadOn s.routine rest → AllFitBlocks sizes s.routine.texts rest → length rest ≤ limit code
        → Stays.Stays sizes s.core c → Stands code c.memory s.routine rest c.frame
    stands_with rest c leads fits few h = record {
      sizes = sizes;
      all_lead = at.here.all_lead;
      all_fit = at.here.all_fit;
      few = at.here.few;
      lead = leads;
      fit = fits;
      short = few;
      has = h.frame at.here.has;
    }

    on : (rest : List Step) (c : Core) → AllLeadOn s.routine rest → AllFitBlocks sizes s.routine.texts rest → length rest ≤ limit code
        → Stays.Stays sizes s.core c → weight rest < weight (i ∷ more) → Falls code s (record s { more = rest; core = c })
    on rest c leads fits few h less = record {
      at = record {
        code_is = at.code_is;
        here = stands_with rest c leads fits few h;
        callers = all_later code s.core.memory c.memory s.callers h.memory at.callers;
      };
      less = let e : c.turns * (2 + most_steps (code_of s.code).routines) ≡ s.core.turns * (2 + most_steps (code_of s.code).routines)
          = ap (λ (n : ℕ). n * (2 + most_steps (code_of s.code).routines)) h.turns in
          let w = heavy in omega (arith, e, w, less);
    }

    -- a plain step leads to the next one
    module _ (turns : takes_turn i ≡ false) where
      lighter : weight more < weight (i ∷ more)
      lighter =
          let a = weight_most more in
          let b : weight (i ∷ more) ≡ 2 + length more = ap (λ (b : Bool). if b then 1 else 2 + length more) turns in omega (arith, a, b)

      same_state : (new : State) → Plain sizes after new → Falls code s new
      same_state new h =
          let one = on more new.core lead.1 fit.1 short h.core lighter in
          record {
            at = record {
              code_is = h.code_is ∙ at.code_is;
              here = subst (λ (rest : List Step). Stands code new.core.memory new.routine rest new.core.frame) (sym h.more)
                  (subst (λ (g : RoutineData). Stands code new.core.memory g more new.core.frame) (sym h.routine) one.at.here);
              callers = subst (λ (all : List Caller). AllStand code new.core.memory all) (sym h.callers) one.at.callers;
            };
            less =
                let a : new.core.turns * (2 + most_steps (code_of new.code).routines) ≡ s.core.turns * (2 + most_steps (code_of s.code).routines)
                = ap (λ (code : Tac). new.core.turns * (2 + most_steps (code_of code).routines)) h.code_is
                ∙ ap (λ (n : ℕ). n * (2 + most_steps (code_of s.code).routines)) h.core.turns in
                let w : weight new.more ≡ weight more = ap weight h.more in
                let v : weights new.callers ≡ weights s.callers = ap weights h.callers in
                let l = lighter in let e = heavy in omega (arith, a, w, v, l, e);
          }

      plain_falls : (moved : Moved) (new : State) → PlainBy sizes after moved new → FallsBy code moved s new
      plain_falls (Over end) new h = tt
      plain_falls Goes new h = same_state new h
      plain_falls (Puts byte) new h = same_state new h
      plain_falls Gets new h = same_state new h

    plain : takes_turn i ≡ false → (m : Moves) → PlainTo sizes after m → FallsTo s m
    plain turns m h = record { is = plain_falls turns m.0 m.1 h.is }

    -- ---- jumps

    led_leads : (to : Target) → AllLeadOn s.routine (led s.routine to)
    led_leads (To.Left n) = drop_leads s.routine _ s.routine.code at.here.all_lead
    led_leads (To.Label l) = drop_leads s.routine _ s.routine.code at.here.all_lead

    led_fits : (to : Target) → AllFitBlocks sizes s.routine.texts (led s.routine to)
    led_fits (To.Left n) = drop_fits sizes s.routine.texts _ s.routine.code at.here.all_fit
    led_fits (To.Label l) = drop_fits sizes s.routine.texts _ s.routine.code at.here.all_fit

    left_short : (n : ℕ) → length (left n s.routine.code) ≤ limit code
    left_short n = let few = at.here.few in let e = length-drop (length s.routine.code - n) s.routine.code in omega (arith, few, e)

    led_short : (to : Target) → length (led s.routine to) ≤ limit code
    led_short (To.Left n) = left_short n
    led_short (To.Label l) = left_short (get_or s.routine.labels l 0)

    led_light : (to : Target) → LeadsOn s.routine (length more) to → weight (led s.routine to) < 2 + length more
    led_light (To.Left n) h =
        let a = weight_most (left n s.routine.code) in
        let e = length-drop (length s.routine.code - n) s.routine.code in omega (arith, a, e, h)
    led_light (To.Label l) h = let a = weight_of_turn (led s.routine (To.Label l)) h in omega (arith, a)

    jump_falls : takes_turn i ≡ false → (to : Target) → LeadsOn s.routine (length more) to → Falls code s (jumped to after)
    jump_falls turns to h = on (led s.routine to) s.core (led_leads to) (led_fits to) (led_short to) (Stays.stays_same sizes s.core)
        (let light = led_light to h in
        let b : weight (i ∷ more) ≡ 2 + length more = ap (λ (b : Bool). if b then 1 else 2 + length more) turns in omega (arith, light, b))

    stay_falls : takes_turn i ≡ false → Falls code s after
    stay_falls turns = same_state turns after (plain_same sizes after)

    -- where a test holds, or else to the next step
    test_falls : takes_turn i ≡ false → (to : Target) → LeadsOn s.routine (length more) to → (test : Bool)
        → FallsTo s (if test then goes (jumped to after) else goes after)
    test_falls turns to h true = record { is = jump_falls turns to h }
    test_falls turns to h false = record { is = stay_falls turns }

    found_falls : {A : Type 0} (r : Result A Final) (next : A → Moves) → ((x : A) → FallsTo s (next x)) → FallsTo s (with_found r after next)
    found_falls (Ok x) next h = h x
    found_falls (Err end) next h = over s end after

    finding_falls : {A : Type 0} (place : Place) (r : Tested A) (next : A → Moves) → ((x : A) → FallsTo s (next x)) → FallsTo s (finding place r after next)
    finding_falls place (Ok x) next h = h x
    finding_falls place (Err kind) next h = over s (Undefined kind place) after

    -- ---- turns

    turn_less : (n : ℕ) (light : ℕ) → s.core.turns ≡ suc n → light < 2 + limit code + weight (i ∷ more) + weights s.callers
        → n * (2 + most_steps (code_of s.code).routines) + light < measure s
    turn_less n light e h =
        let same : s.core.turns * (2 + most_steps (code_of s.code).routines) ≡ suc n * (2 + most_steps (code_of s.code).routines)
        = ap (λ (n : ℕ). n * (2 + most_steps (code_of s.code).routines)) e in
        let own : most_steps (code_of s.code).routines ≡ limit code = ap (λ (code : Tac). most_steps (code_of code).routines) at.code_is in
        let w = heavy in omega (arith, same, own, w, h)

    began_falls : (g l n : ℕ) → s.core.turns ≡ n → FallsTo s (doing (begun_by n g l after.core) after (λ u s. goes s))
    began_falls g l zero e = over s TurnLimit after
    began_falls g l (suc n) e = record {
      is = record {
        at = record {
          code_is = at.code_is;
          here = stands_with more s.core lead.1 fit.1 short (Stays.stays_same sizes s.core);
          callers = at.callers;
        };
        less = turn_less n (weight more + weights s.callers) e (let a = weight_most more in let b = weight_least (i ∷ more) in let f = short in omega (arith, a, b, f));
      };
    }

    -- ---- calls

    abbrev waits_here : ℕ → Caller
    waits_here t = record { to = t; routine = s.routine; more = more; frame = s.core.frame }

    abbrev entered : (f n : ℕ) → Core
    entered f n = record s.core { turns = n; depth = s.core.depth + 1; counts = with_entry s.core.counts f }

    module _ (turns : takes_turn i ≡ false) (place : Place) (t : ℕ) where
      call_light : (own : List Step) → length own ≤ limit code
          → weight own + (weight more + weights s.callers) < 2 + limit code + weight (i ∷ more) + weights s.callers
      call_light own few =
          let a = weight_most own in
          let b = weight_most more in
          let c : weight (i ∷ more) ≡ 2 + length more = ap (λ (b : Bool). if b then 1 else 2 + length more) turns in omega (arith, a, b, c, few)

      begun_less : (g : Routine) (n : ℕ) (new : State) → s.core.turns ≡ suc n → length g.code ≤ limit code
          → Begun (waits_here t ∷ s.callers) g n new → Falls code s new
      begun_less g n new e few h = record {
        at = h.at;
        less =
            let many = length-reverse g.code in
            let a : new.core.turns * (2 + most_steps (code_of new.code).routines) ≡ n * (2 + most_steps (code_of s.code).routines)
            = ap (λ (code : Tac). new.core.turns * (2 + most_steps (code_of code).routines)) (h.at.code_is ∙ sym at.code_is)
            ∙ ap (λ (n : ℕ). n * (2 + most_steps (code_of s.code).routines)) h.turns_are in
            let w : weight new.more ≡ weight (data_of g).code = ap weight h.more in
            let v : weights new.callers ≡ weight more + weights s.callers = ap weights h.callers_are in
            let l = turn_less n (weight (data_of g).code + (weight more + weights s.callers)) e (call_light (data_of g).code (omega (arith, few, many))) in
            omega (arith, a, w, v, l);
      }

      begun_falls : (g : Routine) (n : ℕ) (moved : Moved) (new : State) → s.core.turns ≡ suc n → length g.code ≤ limit code
          → BegunBy (waits_here t ∷ s.callers) g n moved new → FallsBy code moved s new
      begun_falls g n (Over end) new e few h = tt
      begun_falls g n Goes new e few h = begun_less g n new e few h
      begun_falls g n (Puts byte) new e few h = begun_less g n new e few h
      begun_falls g n Gets new e few h = begun_less g n new e few h

      called_falls : (f : ℕ) (o : Option Routine) (values : List Value) → slice_get s.code.routines f ≡ o
          → FallsTo s (called place f (waits_here t ∷ s.callers) o values after)
      called_falls f None values is = over s (Undefined K.Call place) after
      called_falls f (Some g) values is = by_turns s.core.turns refl
        where
          of_code : slice_get code.routines f ≡ Some g
          of_code = subst (λ (code : Tac). slice_get code.routines f ≡ Some g) at.code_is is

          begin : State → Moves
          begin new = started place (waits_here t ∷ s.callers) g g.code values new

          by_depth : (n : ℕ) → s.core.turns ≡ suc n → (test : Bool)
              → FallsTo s (doing (if◌then◌else◌ {A = Does (Unit {0})} test (Err (Room Depth (s.core.depth + 1)), record s.core { turns = n }) (done tt (entered f n)))
              after (λ u new. begin new))
          by_depth n e true = over s (Room Depth (s.core.depth + 1)) (with_core (record s.core { turns = n }) after)
          by_depth n e false =
              let few = most_got code.routines f g of_code in
              let made = begin (with_core (entered f n) after) in record {
                is = begun_falls g n made.0 made.1 e few (started_begins place (waits_here t ∷ s.callers) g g.code values (with_core (entered f n) after)
                    at.code_is (stands_with more s.core lead.1 fit.1 short (Stays.stays_same sizes s.core), at.callers)
                    (steady_got code.routines f g all of_code) few);
              }

          by_turns : (n : ℕ) → s.core.turns ≡ n → FallsTo s (doing (enter_by n f s.core) after (λ u new. begin new))
          by_turns zero e = over s TurnLimit after
          by_turns (suc n) e = by_depth n e (nat_lt greatest_depth (s.core.depth + 1))

      call_falls : (f : ℕ) (values : List Value) → FallsTo s (calls (Some t) place f values after)
      call_falls f values = called_falls f (slice_get s.code.routines f) values refl

      typed_falls : (type : CType) (f : ℕ) (o : Option Routine) (values : List Value)
          → FallsTo s (calls_typed t place type f o values after)
      typed_falls type f None values = over s (Undefined K.Call place) after
      typed_falls type f (Some g) values = by_type (same_type type (pointer_to (type_at (program_data s.typed) g.ty)))
        where
          by_type : (test : Bool) → FallsTo s (if test then calls (Some t) place f values after else undefined K.Call place after)
          by_type true = call_falls f values
          by_type false = over s (Undefined K.Call place) after

      through_falls : (type : ℕ) (q : Ptr) (values : List Value) → FallsTo s (calls_through t place type q values after)
      through_falls type (P.Function f) values = typed_falls (type_at (program_data s.typed) type) f (slice_get s.code.routines f) values
      through_falls type P.Null values = over s (Undefined K.Call place) after
      through_falls type (P.Block b by) values = over s (Undefined K.Call place) after

    -- ---- returns

    back_falls : (v : Option Value) (callers : List Caller) → s.callers ≡ callers
        → FallsTo s (returned v callers after)
    back_falls v [] e = record { is = tt }
    back_falls v (one ∷ rest) e =
        let ended = end_all s.core.frame s.core in
        let h = Stays.stays_end_all sizes s.core.frame s.core in
        let waiting = subst (λ (all : List Caller). AllStand code s.core.memory all) e at.callers in
        let its = later code s.core.memory ended.memory one.routine one.more one.frame h.memory waiting.0 in
        record {
          is = record {
            at = record {
              code_is = at.code_is;
              here = record {
                sizes = its.sizes;
                all_lead = its.all_lead;
                all_fit = its.all_fit;
                few = its.few;
                lead = its.lead;
                fit = its.fit;
                short = its.short;
                has = (Stays.stays_temp its.sizes one.to v (leave one.frame ended)).frame its.has;
              };
              callers = all_later code s.core.memory ended.memory rest h.memory waiting.1;
            };
            less = let t : ended.turns * (2 + most_steps (code_of s.code).routines) ≡ s.core.turns * (2 + most_steps (code_of s.code).routines)
                = ap (λ (n : ℕ). n * (2 + most_steps (code_of s.code).routines)) h.turns in
                let w : weights s.callers ≡ weight one.more + weights rest = ap weights e in
                let least = weight_least s.more in omega (arith, t, w, least);
          };
        }

  -- ---- any step

  module _ (all : AllSteady (code_of code).routines) (s : State) (at : IsAt code s) where
    abbrev sizes_here : ℕ → ℕ
    sizes_here = at.here.sizes

    abbrev with_more : List Step → State
    with_more more = record s { more = more }

    abbrev Leaves : Step → List Step → Type 0
    Leaves i more = s.more ≡ i ∷ more → FallsTo s (enacted i (with_more more))

    simple : (i : Step) (more : List Step) → takes_turn i ≡ false → PlainTo sizes_here (with_more more) (enacted i (with_more more)) → Leaves i more
    simple i more turns h next = plain all s at i more next turns (enacted i (with_more more)) h

    -- with a value of the operand, or of both
    of_one : (i : Step) (more : List Step) (a : Operand) (make : State → Value → Moves) → takes_turn i ≡ false
        → enacted i (with_more more) ≡ reading a (with_more more) (make (with_more more))
        → ((v : Value) → PlainTo sizes_here (with_more more) (make (with_more more) v)) → Leaves i more
    of_one i more a make turns is h = simple i more turns (subst (λ (m : Moves). PlainTo sizes_here (with_more more) m) (sym is)
        (by_found sizes_here (with_more more) (read a s.core) (make (with_more more)) h))

    of_both : (i : Step) (more : List Step) (a b : Operand) (make : State → Value → Value → Moves) → takes_turn i ≡ false
        → enacted i (with_more more) ≡ reading_both a b (with_more more) (make (with_more more))
        → ((v w : Value) → PlainTo sizes_here (with_more more) (make (with_more more) v w)) → Leaves i more
    of_both i more a b make turns is h = simple i more turns (subst (λ (m : Moves). PlainTo sizes_here (with_more more) m) (sym is)
        (by_found sizes_here (with_more more) (read_both a b s.core) (λ both. make (with_more more) both.0 both.1) (λ both. h both.0 both.1)))

    -- a value that is found goes to a temporary
    one_found : (i : Step) (more : List Step) (a : Operand) (t : ℕ) (place : Place) (make : Value → Tested Value) → takes_turn i ≡ false
        → enacted i (with_more more) ≡ reading a (with_more more) (λ v. found t place (make v) (with_more more)) → Leaves i more
    one_found i more a t place make turns is =
        of_one i more a (λ s v. found t place (make v) s) turns is (λ v. by_value sizes_here (with_more more) t place (make v))

    both_found : (i : Step) (more : List Step) (a b : Operand) (t : ℕ) (place : Place) (make : Value → Value → Tested Value) → takes_turn i ≡ false
        → enacted i (with_more more) ≡ reading_both a b (with_more more) (λ v w. found t place (make v w) (with_more more)) → Leaves i more
    both_found i more a b t place make turns is =
        of_both i more a b (λ s v w. found t place (make v w) s) turns is (λ v w. by_value sizes_here (with_more more) t place (make v w))

    step : (i : Step) (more : List Step) → Leaves i more
    step (S.Set t a) more = of_one (S.Set t a) more a (λ s v. putting t v s) refl refl (λ v. by_put sizes_here (with_more more) t (Some v))
    step (S.Clear t) more = simple (S.Clear t) more refl (by_put sizes_here (with_more more) t None)
    step (S.Unary t place op a) more = one_found (S.Unary t place op a) more a t place (λ v. unary op v) refl refl
    step (S.Not t a) more = of_one (S.Not t a) more a (λ s v. putting t (flag (not (is_true v))) s) refl refl
        (λ v. by_put sizes_here (with_more more) t (Some (flag (not (is_true v)))))
    step (S.Convert t place kind a) more = one_found (S.Convert t place kind a) more a t place (λ v. converted (integer kind) v) refl refl
    step (S.AsPointer t place a) more = one_found (S.AsPointer t place a) more a t place (λ v. null_or_pointer v) refl refl
    step (S.Number t place a) more = one_found (S.Number t place a) more a t place (λ v. as_number v) refl refl
    step (S.Binary t place op kind right a b) more =
        both_found (S.Binary t place op kind right a b) more a b t place (λ v w. binary op kind v right w) refl refl
    step (S.Compare t place op kind a b) more =
        both_found (S.Compare t place op kind a b) more a b t place (λ v w. compared op s.core.memory kind v w) refl refl
    step (S.Move t place op size left kind a b) more =
        both_found (S.Move t place op size left kind a b) more a b t place (λ v w. moved_from left s.core.memory op size kind v w) refl refl
    step (S.Distance t place size a b) more = both_found (S.Distance t place size a b) more a b t place (λ v w. distance size v w) refl refl
    step (S.Update t place op size sort right a b) more = both_found (S.Update t place op size sort right a b) more b a t place
        (λ w v. updated s.core.memory op size (type_of_sort sort) v (integer right) w) refl refl
    step (S.Field t place by a) more = of_one (S.Field t place by a) more a (λ s v. through t place v (pos by) s) refl refl
        (λ v. by_through sizes_here (with_more more) t place v (pos by))
    step (S.ElementField t place size kind by a b) more = of_both (S.ElementField t place size kind by a b) more a b
        (λ s v w. number place w s (λ n. through t place v (number_of kind n *ℤ pos size +ℤ pos by) s)) refl refl
        (λ v w. by_finding sizes_here (with_more more) place (as_word w) (λ n. through t place v (number_of kind n *ℤ pos size +ℤ pos by) (with_more more))
        (λ n. by_through sizes_here (with_more more) t place v (number_of kind n *ℤ pos size +ℤ pos by)))
    step (S.Element t place n size addressed kind a b) more = of_both (S.Element t place n size addressed kind a b) more a b
        (λ s v w. number place w s (λ i. element t place n addressed size (number_of kind i) v s)) refl refl
        (λ v w. by_finding sizes_here (with_more more) place (as_word w) (λ i. element t place n addressed size (number_of kind i) v (with_more more))
        (λ i. by_element sizes_here (with_more more) (is_subscript n addressed (number_of kind i)) t place (number_of kind i *ℤ pos size) v))
    step (S.Part t place by a) more = of_one (S.Part t place by a) more a (λ s v. part t place (pos by) v s) refl refl
        (λ v. by_part sizes_here (with_more more) t place (pos by) v)
    step (S.Inside t place x by) more = simple (S.Inside t place x by) more refl (by_inside sizes_here (with_more more) t place by (slot s.core x))
    step (S.Load t place access a) more =
        one_found (S.Load t place access a) more a t place (λ q. load_in s.core.memory (pointer_of q) access) refl refl
    step (S.Store place access a b) more = of_both (S.Store place access a b) more a b
        (λ s q v. changing place (changed (store_in s.core.memory (pointer_of q) access v) s.core) s (λ s. goes s)) refl refl
        (λ q v. by_change sizes_here (with_more more) place (changed (store_in s.core.memory (pointer_of q) access v) s.core) (λ s. goes s)
        (Stays.stays_store sizes_here (pointer_of q) access v s.core) (λ c h. by_core sizes_here (with_more more) c h))
    step (S.CopyRecord place size a b) more = of_both (S.CopyRecord place size a b) more a b
        (λ s q r. changing place (copy_record size (placed (pointer_of q)) (placed (pointer_of r)) s.core) s (λ s. goes s)) refl refl
        (λ q r. by_change sizes_here (with_more more) place (copy_record size (placed (pointer_of q)) (placed (pointer_of r)) s.core) (λ s. goes s)
        (Stays.stays_copy_record sizes_here size (placed (pointer_of q)) (placed (pointer_of r)) s.core) (λ c h. by_core sizes_here (with_more more) c h))
    step (S.Jump to) more = λ next. record { is = jump_falls all s at (S.Jump to) more next refl to (lead all s at (S.Jump to) more next).0 }
    step (S.Branch when a to) more = λ next. let i = S.Branch when a to in
        found_falls all s at i more next (read a s.core) (λ v. jumps_if when to v (with_more more))
        (λ v. test_falls all s at i more next refl to (lead all s at i more next).0 (if is_true v then when else not when))
    step (S.Test place op kind when a b to) more = λ next. let i = S.Test place op kind when a b to in
        found_falls all s at i more next (read_both a b s.core)
        (λ both. finding place (compared op s.core.memory kind both.0 both.1) (with_more more) (λ z. jumps_if when to z (with_more more)))
        (λ both. finding_falls all s at i more next place (compared op s.core.memory kind both.0 both.1) (λ z. jumps_if when to z (with_more more))
        (λ z. test_falls all s at i more next refl to (lead all s at i more next).0 (if is_true z then when else not when)))
    step (S.Case n a to) more = λ next. let i = S.Case n a to in
        found_falls all s at i more next (read a s.core)
        (λ v. number no_place v (with_more more) (λ k. if n == k then goes (jumped to (with_more more)) else goes (with_more more)))
        (λ v. finding_falls all s at i more next no_place (as_word v) (λ k. if n == k then goes (jumped to (with_more more)) else goes (with_more more))
        (λ k. test_falls all s at i more next refl to (lead all s at i more next).0 (n == k)))
    step (S.Call t place f row) more = λ next. let i = S.Call t place f row in
        found_falls all s at i more next (read_row place row.first row.count s.core) (λ values. calls (Some t) place f values (with_more more))
        (λ values. call_falls all s at i more next refl place t f values)
    step (S.CallThrough t place type a row) more = λ next. let i = S.CallThrough t place type a row in
        found_falls all s at i more next (read a s.core)
        (λ v. with_found (read_row place row.first row.count s.core) (with_more more) (λ values. calls_through t place type (pointer_of v) values (with_more more)))
        (λ v. found_falls all s at i more next (read_row place row.first row.count s.core)
        (λ values. calls_through t place type (pointer_of v) values (with_more more))
        (λ values. through_falls all s at i more next refl place t type (pointer_of v) values))
    step (S.Library t place which row) more = simple (S.Library t place which row) more refl
        (by_found sizes_here (with_more more) (read_row place row.first row.count s.core) (λ values. library t place which values (with_more more))
        (λ values. by_library sizes_here (with_more more) t place which values))
    step (S.Allocate t place r size zeroed a) more = of_one (S.Allocate t place r size zeroed a) more a
        (λ s v. number place v s (λ n. allocated t place size n zeroed s)) refl refl
        (λ v. by_finding sizes_here (with_more more) place (as_word v) (λ n. allocated t place size n zeroed (with_more more))
        (λ n. by_allocated sizes_here (with_more more) (nat_lt (n * size) (2 ^ 28)) t place (n * size) zeroed))
    step (S.Begin x size) more = λ next. let d = begin_as x true size s.core in
        simple (S.Begin x size) more refl (by_doing sizes_here (with_more more) d.0 d.1 (λ u s. goes s)
        (Stays.stays_begin sizes_here x true size s.core (λ e. (fit all s at (S.Begin x size) more next).0))
        (λ u h. by_core sizes_here (with_more more) d.1 h)) next
    step (S.End x) more = simple (S.End x) more refl (by_core sizes_here (with_more more) (finish x s.core) (Stays.stays_finish sizes_here x s.core))
    step (S.Forget x size) more = simple (S.Forget x size) more refl
        (by_core sizes_here (with_more more) (emptied x size (slot s.core x) s.core) (Stays.stays_emptied sizes_here x size (slot s.core x) s.core))
    step (S.Zeros x size) more = simple (S.Zeros x size) more refl
        (by_written sizes_here (with_more more) (λ b c. zeroed true b size c) (slot s.core x) (λ b. Stays.stays_zeroed sizes_here true b size s.core))
    step (S.Text x by n) more = simple (S.Text x by n) more refl
        (by_written sizes_here (with_more more) (λ b c. with_text b by (get_or s.routine.texts n []) c) (slot s.core x)
        (λ b. Stays.stays_text sizes_here b by (get_or s.routine.texts n []) s.core))
    step (S.Began g l) more = λ next. began_falls all s at (S.Began g l) more next g l s.core.turns refl
    step (S.Return None) more = λ next. back_falls all s at (S.Return None) more next None s.callers refl
    step (S.Return (Some a)) more = λ next. let i = S.Return (Some a) in
        found_falls all s at i more next (read a s.core) (λ v. returned (Some v) s.callers (with_more more))
        (λ v. back_falls all s at i more next (Some v) s.callers refl)
    step (S.ReturnHeld t) more = λ next. back_falls all s at (S.ReturnHeld t) more next (value_in (slot s.core t)) s.callers refl
    step (S.Fail kind place) more = λ next. over s (Undefined kind place) (with_more more)

    next_falls : (rest : List Step) → s.more ≡ rest → FallsTo s (enacted_next rest s)
    next_falls [] e = over s (Undefined K.Call no_place) s
    next_falls (i ∷ more) e = step i more e

    -- the theorem
    pub step_falls : FallsTo s (stepped s)
    step_falls = next_falls s.more refl

  -- ---- the start

  -- what is read goes to the frame
  pub given_at : (v : Value) (s : State) → IsAt code s → IsAt code (read_given v s)
  given_at v s at = record {
    code_is = at.code_is;
    here = record {
      sizes = at.here.sizes;
      all_lead = at.here.all_lead;
      all_fit = at.here.all_fit;
      few = at.here.few;
      lead = at.here.lead;
      fit = at.here.fit;
      short = at.here.short;
      has = (Stays.stays_temp at.here.sizes s.to (Some v) s.core).frame at.here.has;
    };
    callers = at.callers;
  }

  abbrev pub AtBy : Moved → State → Type 0
  AtBy (Over end) new = Unit {0}
  AtBy moved new = IsAt code new

  pub record AtTo (m : Moves) : Type 0 where
    pub is : AtBy m.0 m.1

  -- `main` is called
  module _ (all : AllSteady (code_of code).routines) (s : State) (is : s.code ≡ code) (none : s.callers ≡ []) where
    begun_at : (g : Routine) (turns : ℕ) (moved : Moved) (new : State) → BegunBy s.callers g turns moved new → AtBy moved new
    begun_at g turns (Over end) new h = tt
    begun_at g turns Goes new h = h.at
    begun_at g turns (Puts byte) new h = h.at
    begun_at g turns Gets new h = h.at

    main_at : (f : ℕ) (o : Option Routine) → slice_get code.routines f ≡ o → AtTo (called no_place f s.callers o [] s)
    main_at f None e = record { is = tt }
    main_at f (Some g) e = by_turns s.core.turns
      where
        begin : State → Moves
        begin new = started no_place s.callers g g.code [] new

        entered : ℕ → Core
        entered n = record s.core { turns = n; depth = s.core.depth + 1; counts = with_entry s.core.counts f }

        by_depth : (n : ℕ) (test : Bool)
            → AtTo (doing (if◌then◌else◌ {A = Does (Unit {0})} test (Err (Room Depth (s.core.depth + 1)), record s.core { turns = n }) (done tt (entered n)))
            s (λ u new. begin new))
        by_depth n true = record { is = tt }
        by_depth n false = let made = begin (with_core (entered n) s) in record {
          is = begun_at g n made.0 made.1 (started_begins no_place s.callers g g.code [] (with_core (entered n) s) is
              (subst (λ (callers : List Caller). AllStand code s.core.memory callers) (sym none) tt) (steady_got code.routines f g all e)
              (most_got code.routines f g e));
        }

        by_turns : (n : ℕ) → AtTo (doing (enter_by n f s.core) s (λ u new. begin new))
        by_turns zero = record { is = tt }
        by_turns (suc n) = by_depth n (nat_lt greatest_depth (s.core.depth + 1))

    pub start_at : AtTo (main_called s)
    start_at = main_at s.code.main (slice_get s.code.routines s.code.main)
        (subst (λ (c : Tac). slice_get c.routines s.code.main ≡ slice_get s.code.routines s.code.main) is refl)

-- ---- steady runs

pub record Onward (s new : State) : Type 0 where
  pub steady : IsSteadyAt new
  pub less : measure new < measure s

abbrev pub OnwardBy : Moved → State → State → Type 0
OnwardBy (Over end) s new = Unit {0}
OnwardBy moved s new = Onward s new

onward : (code : Tac) (steady : AllSteady (code_of code).routines) (moved : Moved) (s new : State) → FallsBy code moved s new → OnwardBy moved s new
onward code steady (Over end) s new h = tt
onward code steady Goes s new h = record { steady = record { code = code; steady = steady; at = h.at }; less = h.less }
onward code steady (Puts byte) s new h = record { steady = record { code = code; steady = steady; at = h.at }; less = h.less }
onward code steady Gets s new h = record { steady = record { code = code; steady = steady; at = h.at }; less = h.less }

-- the theorem
pub steady_falls : (s : State) → IsSteadyAt s → OnwardBy (stepped s).0 s (stepped s).1
steady_falls s h = onward h.code h.steady (stepped s).0 s (stepped s).1 (step_falls h.code h.steady s h.at).is

pub steady_given : (v : Value) (s : State) → IsSteadyAt s → IsSteadyAt (read_given v s)
steady_given v s h = record { code = h.code; steady = h.steady; at = given_at h.code v s h.at }

abbrev pub SteadyBy : Moved → State → Type 0
SteadyBy (Over end) new = Unit {0}
SteadyBy moved new = IsSteadyAt new

begins : (code : Tac) (steady : AllSteady (code_of code).routines) (moved : Moved) (new : State) → AtBy code moved new → SteadyBy moved new
begins code steady (Over end) new h = tt
begins code steady Goes new h = record { code = code; steady = steady; at = h }
begins code steady (Puts byte) new h = record { code = code; steady = steady; at = h }
begins code steady Gets new h = record { code = code; steady = steady; at = h }

-- the call of `main`
pub steady_begins : (s : State) → AllSteady (code_of s.code).routines → s.callers ≡ [] → SteadyBy (main_called s).0 (main_called s).1
steady_begins s steady none = begins s.code steady (main_called s).0 (main_called s).1 (start_at s.code steady s refl none).is
