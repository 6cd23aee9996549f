-- Each routine from its first word back to the caller, by the laws that go backwards.
use Rattle.std.proofs.Common.{◌≡◌, ℕ, ◌+◌, ◌*◌, List, [], ◌∷◌, refl}
use Rattle.rv_isa.specs.declared.image.Segment.{Segment}
use Rattle.rv_isa.specs.declared.instruction.Inst.TheVariants.{Ebreak}
use Rattle.rv_isa.specs.Events.{MachineEvent, Reply, code_address, malloc_entry, calloc_entry, free_entry, events}
use Rattle.rv_isa.specs.Memory.{Memory, with_word}
use Rattle.rv_isa.specs.Step.{State, Ends, Break, step}
use Rattle.rv_runtime.specs.Steps.States.{put, at, later, Keeps, Leads, Reaches, Stands}
use Rattle.rv_runtime.proofs.Steps.Reaching.{in_order, reached, reaching}
use Rattle.rv_runtime.proofs.Steps.Steps.{break_ends}
use Rattle.rv_runtime.specs.Effects.{Leaves, Copied, Filled, compared}
use Rattle.rv_runtime.specs.Laws.{Entered, ComesBack, Breaks, MallocGives, CallocGives, MallocBreaks, CallocBreaks, FreeDoesNothing, CopyCopies}
use Rattle.rv_runtime.specs.Laws.{FillFills, CompareAnswers, RoutinesDo, StartLeads, ExitEnds}
use Rattle.rv_runtime.specs.Routines.{start_entry, exit_entry, copy_entry, fill_entry, compare_entry, data_place, head, taken}
use Rattle.rv_runtime.proofs.Allocation.{malloc_works, calloc_works}
use Rattle.rv_runtime.proofs.Breaking.{malloc_stops, calloc_stops}
use Rattle.rv_runtime.proofs.Comparing.{compare_works}
use Rattle.rv_runtime.proofs.Copying.{copy_works}
use Rattle.rv_runtime.proofs.Ends.{free_works, start_works, exit_works, exit_is_end}
use Rattle.rv_runtime.proofs.Filling.{fill_works}

-- ---- a goal that says where a state leads

-- this is the state, and these are the events, the last first
abbrev Is : State → List MachineEvent → State → List MachineEvent → Type 0
Is t told u made = (u ≡ t) × (made ≡ told)

leads_of : (segments : List Segment) (s t : State) (told : List MachineEvent) → Reaches segments (Is t told) s [] → Leads segments s t (later told [])
leads_of segments s t told h = record { steps = h.0; arrives = h.1.0; makes = in_order (events segments h.0 s) told h.1.1 }

module _ (segments : List Segment) (memory : Memory) (input output : List ℕ) (f : ℕ → ℕ) (place : ℕ) where
  -- a goal of coming back, with memory as P says
  abbrev Back : (P : Memory → Type 0) (answer : ℕ) (told : List MachineEvent) → State → List MachineEvent → Type 0
  Back P answer told u made =
      (g : ℕ → ℕ) × (after : Memory) × P after × (g 10 ≡ answer) × Leaves f g × (u ≡ at g place after input output) × (made ≡ told)

  back_of : (entry answer : ℕ) (P : Memory → Type 0) (told : List MachineEvent)
      → Reaches segments (Back P answer told) (at f entry memory input output) []
      → (after : Memory) × P after × ComesBack segments memory after input output f entry place answer (later told [])
  back_of entry answer P told h =
      let r = h.1 in (
        r.1,
        r.2,
        record {
          registers = r.0;
          leads = record { steps = h.0; arrives = r.5; makes = in_order (events segments h.0 (at f entry memory input output)) told r.6 };
          answers = r.3;
          leaves = r.4;
        },
      )

  come : (P : Memory → Type 0) (answer : ℕ) (told : List MachineEvent) (g : ℕ → ℕ) (after : Memory) → P after → g 10 ≡ answer → Leaves f g
      → Reaches segments (Back P answer told) (at g place after input output) told
  come P answer told g after holds is leaves =
      reached segments (Back P answer told) (at g place after input output) told (g, after, holds, is, leaves, refl, refl)

  -- with memory that is known
  known : (entry answer : ℕ) (after : Memory) (told : List MachineEvent)
      → Reaches segments (λ u made. (g : ℕ → ℕ) × (g 10 ≡ answer) × Leaves f g × Is (at g place after input output) told u made)
      (at f entry memory input output) []
      → ComesBack segments memory after input output f entry place answer (later told [])
  known entry answer after told h =
      let r = h.1 in
      record {
        registers = r.0;
        leads = record { steps = h.0; arrives = r.3.0; makes = in_order (events segments h.0 (at f entry memory input output)) told r.3.1 };
        answers = r.1;
        leaves = r.2;
      }

  abbrev To : (answer : ℕ) (after : Memory) (told : List MachineEvent) → State → List MachineEvent → Type 0
  To answer after told u made = (g : ℕ → ℕ) × (g 10 ≡ answer) × Leaves f g × Is (at g place after input output) told u made

  arrive : (answer : ℕ) (after : Memory) (told : List MachineEvent) (g : ℕ → ℕ) → g 10 ≡ answer → Leaves f g
      → Reaches segments (To answer after told) (at g place after input output) told
  arrive answer after told g is leaves =
      reached segments (To answer after told) (at g place after input output) told (g, is, leaves, (refl, refl))

  -- a goal of stopping at an EBREAK, with memory, the input and the output as they are
  abbrev Stopped : State → List MachineEvent → Type 0
  Stopped u made =
      (g : ℕ → ℕ) × (pc : ℕ) × (step segments (at g pc memory input output) ≡ Ends (Break pc)) × Is (at g pc memory input output) [] u made

  stop : (text : Memory) → Keeps text memory → (g : ℕ → ℕ) (pc : ℕ) → Stands segments text pc Ebreak
      → Reaches segments Stopped (at g pc memory input output) []
  stop text keeps g pc stands =
      reached segments Stopped (at g pc memory input output) [] (g, pc, break_ends segments text g pc memory input output keeps stands, (refl, refl))

  breaks_of : (entry : ℕ) → Reaches segments Stopped (at f entry memory input output) [] → Breaks segments memory input output f entry
  breaks_of entry h =
      let r = h.1 in
      record {
        registers = r.0;
        place = r.1;
        leads = record { steps = h.0; arrives = r.3.0; makes = in_order (events segments h.0 (at f entry memory input output)) [] r.3.1 };
        ends = r.2;
      }

  module _ (text : Memory) (entered : Entered segments text memory f place) where
    malloc_gives : (unused end : ℕ) → MallocGives segments memory input output f place unused end
    malloc_gives unused end heap room =
        let after = with_word memory data_place (unused + head + taken (f 10)) in
        let told = Reply (unused + head) ∷ [] in
        known malloc_entry (unused + head) after told
        (malloc_works segments text (λ n s before. Reaches segments (To (unused + head) after told) s before) (reaching segments (To (unused + head) after told))
        entered.runtime 0 [] memory input output entered.keeps unused end heap f place entered.returns room
        (λ g is leaves. arrive (unused + head) after told g is leaves))

    calloc_gives : (unused end : ℕ) → CallocGives segments memory input output f place unused end
    calloc_gives unused end heap word room =
        let after = with_word memory data_place (unused + head + taken (f 10 * f 11)) in
        let told = Reply (unused + head) ∷ [] in
        known calloc_entry (unused + head) after told
        (calloc_works segments text (λ n s before. Reaches segments (To (unused + head) after told) s before) (reaching segments (To (unused + head) after told))
        entered.runtime 0 [] memory input output entered.keeps unused end heap f place entered.returns word room
        (λ g is leaves. arrive (unused + head) after told g is leaves))

    malloc_breaks : (unused end : ℕ) → MallocBreaks segments memory input output f place unused end
    malloc_breaks unused end room =
        breaks_of malloc_entry
        (malloc_stops segments text (λ n s before. Reaches segments Stopped s before) (reaching segments Stopped) entered.runtime 0 [] memory input output
        entered.keeps f place entered.returns unused end room (stop text entered.keeps))

    calloc_breaks : (unused end : ℕ) → CallocBreaks segments memory input output f place unused end
    calloc_breaks unused end room =
        breaks_of calloc_entry
        (calloc_stops segments text (λ n s before. Reaches segments Stopped s before) (reaching segments Stopped) entered.runtime 0 [] memory input output
        entered.keeps f place entered.returns unused end room (stop text entered.keeps))

    free_does_nothing : FreeDoesNothing segments memory input output f place
    free_does_nothing =
        let t = at f place memory input output in
        leads_of segments (at f free_entry memory input output) t []
        (free_works segments text (λ n s before. Reaches segments (Is t []) s before) (reaching segments (Is t [])) entered.runtime 0 [] f memory input output
        entered.keeps place entered.returns (reached segments (Is t []) t [] (refl, refl)))

    copy_copies : CopyCopies segments memory input output f place
    copy_copies fits fits' low reads writes =
        let P = λ (after : Memory). Copied memory after (f 10) (f 11) (f 12) in
        back_of copy_entry (f 10) P []
        (copy_works segments text (λ n s before. Reaches segments (Back P (f 10) []) s before) (reaching segments (Back P (f 10) [])) entered.runtime 0 [] input
        output f place (f 10) (f 11) (f 12) memory entered.keeps entered.returns refl refl refl fits fits' low reads writes
        (λ g after copied keeps is leaves. come P (f 10) [] g after copied is leaves))

    fill_fills : FillFills segments memory input output f place
    fill_fills fits low writes =
        let P = λ (after : Memory). Filled memory after (f 10) (f 11) (f 12) in
        back_of fill_entry (f 10) P []
        (fill_works segments text (λ n s before. Reaches segments (Back P (f 10) []) s before) (reaching segments (Back P (f 10) [])) entered.runtime 0 [] input
        output f place (f 10) (f 11) (f 12) memory entered.keeps entered.returns refl refl refl fits low writes
        (λ g after filled keeps is leaves. come P (f 10) [] g after filled is leaves))

    compare_answers : CompareAnswers segments memory input output f place
    compare_answers fits fits' reads reads' =
        let answer = compared memory (f 10) (f 11) (f 12) in
        known compare_entry answer memory []
        (compare_works segments text (λ n s before. Reaches segments (To answer memory []) s before) (reaching segments (To answer memory [])) entered.runtime 0 []
        memory input output entered.keeps f place (f 10) (f 11) (f 12) entered.returns refl refl refl fits fits' reads reads'
        (λ g is leaves. arrive answer memory [] g is leaves))

pub routines_work : (segments : List Segment) (text memory : Memory) (input output : List ℕ) (f : ℕ → ℕ) (place : ℕ) → Entered segments text memory f place
    → RoutinesDo segments memory input output f place
routines_work segments text memory input output f place entered = record {
  malloc = malloc_gives segments memory input output f place text entered;
  calloc = calloc_gives segments memory input output f place text entered;
  malloc_breaks = malloc_breaks segments memory input output f place text entered;
  calloc_breaks = calloc_breaks segments memory input output f place text entered;
  free = free_does_nothing segments memory input output f place text entered;
  copy = copy_copies segments memory input output f place text entered;
  fill = fill_fills segments memory input output f place text entered;
  compare = compare_answers segments memory input output f place text entered;
}

pub start_leads : StartLeads
start_leads segments text memory input output f runtime keeps =
    let t = at f code_address memory input output in
    leads_of segments (at f start_entry memory input output) t []
    (start_works segments text (λ n s before. Reaches segments (Is t []) s before) (reaching segments (Is t [])) runtime 0 [] f memory input output keeps
    (reached segments (Is t []) t [] (refl, refl)))

pub exit_ends : ExitEnds
exit_ends segments text memory input output f runtime keeps nil =
    let t = at (put f 17 93) (exit_entry + 4) memory input output in (
      leads_of segments (at f exit_entry memory input output) t []
          (exit_works segments text (λ n s before. Reaches segments (Is t []) s before) (reaching segments (Is t [])) runtime 0 [] f memory input output keeps nil
          (reached segments (Is t []) t [] (refl, refl))),
      exit_is_end segments text runtime f memory input output keeps,
    )
