-- Another frame of locals and temporaries, and what ends with a function.
use Rattle.std.proofs.Common.{refl, ℕ, List, [], ◌∷◌, Some, None, slice_set}
use Rattle.block_memory.specs.RunWorlds.Doing.{◌>>=◌}
use Rattle.block_memory.specs.RunWorlds.Events.{Event}
use Rattle.c_meaning.specs.Frames as Frames
use Rattle.c_meaning.specs.Frames.{Frame, frame_now}
use Rattle.c_meaning.specs.declared.frame.Slot.{Slot}
use Rattle.c_meaning.specs.declared.frame.Slot.TheVariants.{ByName as by_name, InBlock as in_block}
use Rattle.source_state.specs.Steps.Agreeing.{Agrees}
use Rattle.source_state.specs.Steps.Cores.{Core, done}
use Rattle.source_state.specs.Steps.Locals.{with_slot, end_of, end_all}
use Rattle.source_state.proofs.Steps.Memories.{end_part}
use Rattle.source_state.proofs.Steps.Parts.{Part, pure_part, bind_part}

-- the frame is not counted
pub agrees_framed : (start c : Core) (own : Frame) (trace : List Event) → Agrees start c trace → Agrees start (record c { frame = own }) trace
agrees_framed start c own trace h = record {
  few = h.few;
  live = h.live;
  shape = h.shape;
  entries = h.entries;
  begins = h.begins;
  all_entries = h.all_entries;
  all_begins = h.all_begins;
}

pub with_slot_part : (x : ℕ) (s : Slot) (c : Core) → Part c (Frames.with_slot x s) (done tt (with_slot x s c))
with_slot_part x s c = record {
  gives = λ start input trace h. record {
    later = trace;
    does = λ rest. refl;
    agrees = agrees_framed start c (slice_set c.frame x s) trace h;
    calls = refl;
  };
}

-- ---- what has begun ends with its function

end_of_part : (s : Slot) (c : Core) → Part c (Frames.end_of s) (done tt (end_of s c))
end_of_part (in_block (Some b)) c = end_part b c
end_of_part (in_block None) c = pure_part tt c
end_of_part (by_name v) c = pure_part tt c

all_part : (f : Frame) (c : Core) → Part c (Frames.end_all f) (done tt (end_all f c))
all_part [] c = pure_part tt c
all_part (s ∷ more) c = bind_part (end_of_part s c) (λ u d. all_part more d)

pub end_all_part : (c : Core) → Part c (frame_now >>= Frames.end_all) (done tt (end_all c.frame c))
end_all_part c = record { gives = (all_part c.frame c).gives }
