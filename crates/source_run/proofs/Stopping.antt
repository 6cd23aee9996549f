-- What a run gives where it stops.
use Rattle.std.proofs.Common.{◌≡◌, refl, sym, ap, ◌∙◌, subst, ◌⊎◌, inl, inr, ℕ, true, List, [], ◌∷◌, ◌++◌, Some}
use Rattle.std.proofs.lemmas.List.{append-nil, append_assoc}
use Rattle.c_typed.specs.RunCounts.Counting.{counts_by}
use Rattle.c_typed.specs.declared.run_counts.counts.Counts.{Counts}
use Rattle.c_typed.specs.Programs.{ProgramData}
use Rattle.lay_base.specs.Known.{Appends, Rose}
use Rattle.lay_base.specs.Want.{no_memory}
use Rattle.block_memory.specs.RunWorlds.Events.{Event, Call, putting, getting, calls_of, output_of, entries_of, begins_of}
use Rattle.block_memory.specs.RunWorlds.Worlds.{World, End, world_of}
use Rattle.c_meaning.specs.Run.{RunEnd, ended, kept, no_room, run_of, seen, trace_of, was_undefined, went_on}
use Rattle.source_run.specs.Advances.{ReadFails, WriteFails, Lacks, WritesNone}
use Rattle.source_run.specs.RunGives.{RunGives, Comes, Stopped, bytes_put, rest_behind, any_calls, nothing, is_put, maybe_that}
use Rattle.source_run.specs.Starting.{AreCounts, HasFinished, answer_of, first_core}
use Rattle.source_run.specs.Streams.{Streams}
use Rattle.source_run.specs.declared.end.RunEnd.{RunEnd as Answer}
use Rattle.source_run.specs.declared.end.RunEnd.TheVariants as E
use Rattle.source_run.proofs.Appending.{appends_none, appends_more, output_put, put_got, rest_got}
use Rattle.source_run.proofs.Reaching.{Came, Ended, FarAt, FarWith, far_get, far_where, steady_then}
use Rattle.source_start.proofs.NoCounts.{has_all}
use Rattle.source_start.proofs.Telling.{counts_of_run}
use Rattle.source_state.specs.Steps.Agreeing.{behind_next, end_of, world}
use Rattle.source_state.specs.Steps.Cores.{Core}
use Rattle.source_state.specs.declared.ends.Final.{Final}
use Rattle.source_state.specs.declared.ends.Final.TheVariants.{Ends, TurnLimit, Undefined, Room}
use Rattle.source_state.specs.declared.ends.Moved.TheVariants.{Gets, Over, Puts}
use Rattle.tac_engine.specs.States.{State}
use Rattle.tac_engine.specs.Steps.{stepped}
use Rattle.tac_engine.proofs.Onwards.{at_end, goes_on}

-- ---- what is told of the end

abbrev seen_as : Final → (output rest : List ℕ) → RunEnd
seen_as (Ends status) output rest = ended output status rest
seen_as TurnLimit output rest = went_on output rest
seen_as (Undefined kind at) output rest = was_undefined kind at output rest
seen_as (Room kind counted) output rest = no_room kind counted output rest

seen_so : (end : Final) (w : World) → seen (end_of end w) ≡ seen_as end (output_of w.trace) w.input
seen_so (Ends status) w = refl
seen_so TurnLimit w = refl
seen_so (Undefined kind at) w = refl
seen_so (Room kind counted) w = refl

module _ (p : ProgramData) (turns : ℕ) where
  module _ (input : List ℕ) (end : Final) (c : Core) (calls : List Call) (over : Ended p turns input end c calls) where
    kept_is : kept p input turns ≡ seen_as end (bytes_put calls) (rest_behind calls input)
    kept_is = ap seen over.is ∙ seen_so end (world c (rest_behind calls input) over.trace)
        ∙ ap (λ output. seen_as end output (rest_behind calls input)) (output_put over.trace ∙ ap bytes_put over.calls_are)

    trace_is : trace_of p input turns ≡ over.trace
    trace_is = ap (λ (e : End). (world_of e).trace) over.is ∙ ap (λ (w : World). w.trace) (at_end end (world c (rest_behind calls input) over.trace))

    calls_told : calls_of (trace_of p input turns) ≡ calls
    calls_told = ap calls_of trace_is ∙ over.calls_are

    counts_told : (counts : Counts) → AreCounts p c.counts counts
        → counts ≡ counts_by (λ f. entries_of f (trace_of p input turns)) (λ f l. begins_of f l (trace_of p input turns)) p
    counts_told counts are = are ∙ counts_of_run p (first_core p turns) c over.trace (has_all p) over.agrees
        ∙ ap (λ (t : List Event). counts_by (λ f. entries_of f t) (λ f l. begins_of f l t) p) (sym trace_is)

  -- ---- the calls so far are first ones of the run's

  going_on : (input : List ℕ) (s : State) (calls : List Call) → Came p turns input s calls → (more : List Call) × (calls_of (trace_of p input turns) ≡ calls ++ more)
  going_on input s calls came =
      let g = goes_on (run_of p input turns true) (first_core p turns) came.steps s (rest_behind calls input) came.trace came.agrees came.leads in
      (g.more, g.begins ∙ ap (λ all. all ++ g.more) came.calls_are)

  after_one : (input : List ℕ) (s : State) (calls : List Call) (call : Call) → Came p turns input s (calls ++ call ∷ [])
      → (more : List Call) × (calls_of (trace_of p input turns) ≡ calls ++ (call ∷ more))
  after_one input s calls call came =
      let g = going_on input s (calls ++ call ∷ []) came in
      (g.0, g.1 ∙ append_assoc calls (call ∷ []) g.0)

  -- ---- it is over

  module _ (before now here : Streams) (new : State) (counts : Counts) where
    comes_over : (end : Final) → FarWith p turns before now (Over end) new → here ≡ now → AreCounts p new.core.counts counts
        → Comes p turns before here counts (seen_as end)
    comes_over end far same are = subst (λ (u : Streams). Comes p turns before u counts (seen_as end)) (sym same) (
      far.steady,
      λ input known.
          let r = far.reached input known in
          record {
            output = bytes_put r.calls;
            rest = rest_behind r.calls input;
            is = kept_is input end new.core r.calls r.at;
            written = r.written;
            left = r.left;
            counted = counts_told input end new.core r.calls r.at counts are;
          },
    )

    gives_end : (end : Final) → Comes p turns before here counts (seen_as end) → RunGives p turns before here counts (answer_of end turns)
    gives_end (Ends status) h = h
    gives_end TurnLimit h = (refl, h)
    gives_end (Undefined kind at) h = h
    gives_end (Room kind counted) h = h

    no_memory_over : (end : Final) → FarWith p turns before now (Over end) new → here ≡ now → RunGives p turns before here counts (E.Memory no_memory)
    no_memory_over end far same = subst (λ (u : Streams). RunGives p turns before u counts (E.Memory no_memory)) (sym same) (
      far.steady,
      λ input known.
          let r = far.reached input known in
          record {
            calls = r.calls;
            more = [];
            are = calls_told input end new.core r.calls r.at ∙ sym (append-nil r.calls);
            is_next = tt;
            behind = [];
            besides = refl;
            written = rw append-nil r.written;
            left = r.left;
          },
    )

    pub is_over : (end : Final) → FarWith p turns before now (Over end) new → here ≡ now → (answer : Answer)
        → HasFinished p new.core.counts counts end turns answer → RunGives p turns before here counts answer
    is_over end far same answer (inl h) =
        subst (λ (a : Answer). RunGives p turns before here counts a) (sym h.0) (gives_end end (comes_over end far same h.1))
    is_over end far same answer (inr h) =
        subst (λ (a : Answer). RunGives p turns before here counts a) (sym h) (no_memory_over end far same)

  module _ (before now here : Streams) (s new : State) (counts : Counts) (far : FarAt p turns before now s) where
    -- ---- the outside failed

    pub fails_reading : ReadFails s new now here → RunGives p turns before here counts E.ReadFault
    fails_reading w = (
      subst (λ (n : ℕ). Rose n here.read_faults) far.steady.reads w.rose,
      λ input known.
          let r = (far_get p turns before now s far w.steps).reached input known in
          let after = after_one input _ r.calls getting r.at in
          record {
            calls = r.calls;
            more = getting ∷ after.0;
            are = after.1;
            is_next = tt;
            behind = [];
            besides = refl;
            written = rw append-nil (w.written ∙ r.written);
            left = w.left ∙ r.left;
          },
    )

    written_some : (byte : ℕ) (calls : List Call) (input : List ℕ) (more : List Call) → calls_of (trace_of p input turns) ≡ calls ++ (putting byte ∷ more)
        → Appends before.written now.written (bytes_put calls) → WritesNone byte now.written here.written → here.left ≡ Some (rest_behind calls input)
        → Stopped p turns before here is_put maybe_that input
    written_some byte calls input more are written (inl none) left = record {
      calls = calls;
      more = putting byte ∷ more;
      are = are;
      is_next = tt;
      behind = [];
      besides = inl refl;
      written = appends_more _ _ _ (bytes_put calls) [] written none;
      left = left;
    }
    written_some byte calls input more are written (inr one) left = record {
      calls = calls;
      more = putting byte ∷ more;
      are = are;
      is_next = tt;
      behind = byte ∷ [];
      besides = inr refl;
      written = appends_more _ _ _ (bytes_put calls) (byte ∷ []) written one;
      left = left;
    }

    pub fails_writing : (byte : ℕ) → WriteFails s new now here byte → RunGives p turns before here counts E.WriteFault
    fails_writing byte w = (
      subst (λ (n : ℕ). Rose n here.write_faults) far.steady.writes w.rose,
      λ input known.
          let r = (far_where p turns before now s far (Puts byte) new w.steps).reached input known in
          let after = after_one input new r.calls (putting byte) r.at in
          written_some byte r.calls input after.0 after.1 r.written w.written (w.left ∙ r.left),
    )

    -- ---- there was no memory

    lacks_so : (input : List ℕ) → before.left ≡ Some input → here.written ≡ now.written
        → (here.left ≡ now.left) ⊎ (((stepped s).0 ≡ Gets) × ((rest : List ℕ) → now.left ≡ Some rest → here.left ≡ Some (behind_next rest)))
        → Stopped p turns before here any_calls nothing input
    lacks_so input known written (inl left) =
        let r = far.reached input known in
        let g = going_on input s r.calls r.at in
        record {
          calls = r.calls;
          more = g.0;
          are = g.1;
          is_next = tt;
          behind = [];
          besides = refl;
          written = rw append-nil (written ∙ r.written);
          left = left ∙ r.left;
        }
    lacks_so input known written (inr h) =
        let r = (far_get p turns before now s far h.0).reached input known in
        let g = going_on input _ (r.calls ++ getting ∷ []) r.at in
        record {
          calls = r.calls ++ getting ∷ [];
          more = g.0;
          are = g.1;
          is_next = tt;
          behind = [];
          besides = refl;
          written = rw (append-nil, put_got r.calls) (written ∙ r.written);
          left = h.1 (rest_behind r.calls input) r.left ∙ ap Some (sym (rest_got r.calls input));
        }

    pub lacks_memory : Lacks s new now here → RunGives p turns before here counts (E.Memory no_memory)
    lacks_memory w = (steady_then before now here far.steady w.steady, λ input known. lacks_so input known w.written w.left)

  -- at the start
  pub none_at_all : (before : Streams) (counts : Counts) → RunGives p turns before before counts (E.Memory no_memory)
  none_at_all before counts = (
    record { reads = refl; writes = refl },
    λ input known. record {
      calls = [];
      more = calls_of (trace_of p input turns);
      are = refl;
      is_next = tt;
      behind = [];
      besides = refl;
      written = appends_none before.written;
      left = known;
    },
  )
