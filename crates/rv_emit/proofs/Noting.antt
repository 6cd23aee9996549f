-- What the machine does not tell of changes nothing where it stands.
use Rattle.std.proofs.Common.{◌≡◌, ℕ, ◌^◌, ◌<◌, ◌≤◌, List, sym, ◌∙◌, subst, arith}
use Rattle.std.specs.Prelude.{All}
use Rattle.block_memory.specs.RunWorlds.Events.{output_of, heap_weight}
use Rattle.block_memory.specs.RunWorlds.Worlds.{World}
use Rattle.rv_isa.specs.Events.{MachineEvent}
use Rattle.rv_emit.specs.Maps.{Flat}
use Rattle.rv_emit.specs.Grounds.{Ground}
use Rattle.rv_emit.specs.Relation.{Program, Moment, Point, Ready, IsMade, active}

module _ (ground : Ground) (p : Program) (m : Moment) (q : Point) (ready : Ready ground p m q) where
  -- the same blocks in another world, with its input, its output and its events
  pub heard : (w : World) (input output : List ℕ) (before : List MachineEvent) → w.memory ≡ m.w.memory → input ≡ w.input → All (λ (b : ℕ). b < 2 ^ 8) input
      → output ≡ output_of w.trace → heap_weight m.w.trace ≤ heap_weight w.trace → active w.trace ≡ active m.w.trace → IsMade ground p m.blocks w.trace before
      → Ready ground p (record m { w = w }) (record q { input = input; output = output; before = before })
  heard w input output before same input_is input_bytes output_is weight runs made =
      let world = ready.world in
      record {
        nil = ready.nil;
        stack = ready.stack;
        code = ready.code;
        whole = ready.whole;
        fits = ready.fits;
        world = record {
          keeps = world.keeps;
          flat = subst (λ z. Flat p.code p.places ground.room m.blocks m.owner z q.memory) (sym same) world.flat;
          objects = world.objects;
          unused = world.unused;
          zero = world.zero;
          heap_low = world.heap_low;
          heap_high = world.heap_high;
          heap_whole = world.heap_whole;
          heap_used = omega (arith, world.heap_used);
          heap_limit = world.heap_limit;
          runtime = world.runtime;
          texts = world.texts;
          input_is = input_is;
          input_bytes = input_bytes;
          output_is = output_is;
          made = made;
        };
        frame = ready.frame;
        callers = ready.callers;
        below = ready.below;
        runs = runs ∙ ready.runs;
      }

  -- what it tells stands among its events
  pub told : (w : World) (before : List MachineEvent) → w.memory ≡ m.w.memory → w.input ≡ m.w.input → output_of w.trace ≡ output_of m.w.trace
      → heap_weight m.w.trace ≤ heap_weight w.trace → active w.trace ≡ active m.w.trace → IsMade ground p m.blocks w.trace before
      → Ready ground p (record m { w = w }) (record q { before = before })
  told w before same input output weight runs made =
      heard w q.input q.output before same (ready.world.input_is ∙ sym input) ready.world.input_bytes (ready.world.output_is ∙ sym output) weight runs made

  pub noted : (w : World) → w.memory ≡ m.w.memory → w.input ≡ m.w.input → output_of w.trace ≡ output_of m.w.trace → heap_weight m.w.trace ≤ heap_weight w.trace
      → active w.trace ≡ active m.w.trace → (IsMade ground p m.blocks m.w.trace q.before → IsMade ground p m.blocks w.trace q.before)
      → Ready ground p (record m { w = w }) q
  noted w same input output weight runs made = told w q.before same input output weight runs (made ready.world.made)
