use Rattle.std.proofs.Common.{◌≡◌, Bool, false, Ok, sym, ap, ◌∙◌}
use Rattle.std.specs.Prelude.{◌&&◌, not}
use Rattle.block_memory.specs.Cells.{range}
use Rattle.block_memory.specs.Places.{copied}
use Rattle.block_memory.specs.Ranges.{do_overlap}
use Rattle.block_memory.specs.Slots.{memory_in}
use Rattle.block_memory.proofs.Reached.{apart_else, apart_if, copied_apart}
use Rattle.block_memory.proofs.Sound.{sound_changed}
use Rattle.block_memory.proofs.store.Store.copy_places.Goals as goal
use Rattle.block_memory.proofs.store.Store.copy_places.Goals.{else-not-overlap-via-then-not-overlap+else-do_overlap, else-not-overlap-via-else-not-overlap}

pub returns : goal.returns
returns c =
    let s = c.args.self.now in
    let shared : Bool = do_overlap (c.args.a.block, c.args.a.at) (c.args.b.block, c.args.b.at) c.args.count in
    let by : (not c.args.overlap && shared) ≡ false → copied (memory_in s.slots s.arena) c.args.a c.args.b c.args.count c.args.overlap ≡ Ok (memory_in s.slots c.copy.new.self) =
    λ allowed. copied_apart s.slots s.arena c.copy.new.self s.free c.args.a c.args.b c.args.count c.args.overlap s.sound c.requires.to c.requires.from allowed c.copy.ensures in
    elim c.else-not-overlap.branch [
      | else-not-overlap-via-then-not-overlap+else-do_overlap w ↦ by (apart_if (not c.args.overlap) shared (sym w.do_overlap.ensures ∙ w.if-do_overlap.false))
      | else-not-overlap-via-else-not-overlap w ↦ by (apart_else (not c.args.overlap) shared (ap not w.if-not-overlap.false))
    ]

pub invariant_of-self : goal.invariant_of-self
invariant_of-self c =
    let s = c.args.self.now in
    record { sound = sound_changed s.slots s.arena c.copy.new.self s.free c.args.a.cell (range s.arena c.args.b.cell c.args.count) s.sound c.copy.ensures; settles = s.settles }
