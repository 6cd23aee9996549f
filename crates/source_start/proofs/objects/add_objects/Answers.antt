use Rattle.std.proofs.Common.{rules, ◌≡◌, ◌+◌, ◌∷◌, [], ◌++◌, ap, sym, ◌∙◌, drop, fold, arith}
use Rattle.std.specs.Prelude.{All}
use Rattle.block_memory.specs.View.{memory_of}
use Rattle.block_memory.specs.RunWorlds.Worlds.{live_bytes}
use Rattle.c_meaning.specs.Program.{none_or, object_block, object_size}
use Rattle.c_typed.specs.Programs.{program_data}
use Rattle.source_start.specs.Fits.{IsFitValue}
use Rattle.source_start.proofs.Bytes.{live_last, next_counted, next_few, next_placed, object_lives}
use Rattle.source_start.proofs.objects.add_objects.Goals as goal

pub add_object-requires-clause-few : goal.add_object-requires-clause-few
add_object-requires-clause-few c =
    let l = c.loop-o in
    let few = next_few (program_data c.args.types.now) c.as_slice-o-items.result.now l.o-index l.live _ c.o-item.result c.loop-o-test.true c.o-item.is l.invariant.few in
    omega (arith, few, l.invariant.live, c.requires.fits.bytes)

pub overflow_add-live : goal.overflow_add-live
overflow_add-live c =
    let l = c.loop-o in
    let few = next_few (program_data c.args.types.now) c.as_slice-o-items.result.now l.o-index l.live _ c.o-item.result c.loop-o-test.true c.o-item.is l.invariant.few in
    omega (arith, few, c.in_ok-size.ensures.live, c.requires.fits.bytes)

pub loop-o-preserved : goal.loop-o-preserved
loop-o-preserved c =
    let l = c.loop-o in
    let p = program_data c.args.types.now in
    let o = c.o-item.result in
    let items = c.as_slice-o-items.result.now in
    let fits : All (IsFitValue p o) (none_or o.initial) = search rules in
    let last = live_last (memory_of l.store) (object_block p o) in
    let lives = object_lives p o fits in
    let more : live_bytes (memory_of c.add_object.new.store) ≡ live_bytes (memory_of l.store ++ object_block p o ∷ []) = ap live_bytes c.in_ok-size.ensures.memory in
    record {
      memory = next_placed (memory_of l.store) (memory_of c.add_object.new.store) (object_block p) items l.o-index o c.loop-o-test.true c.o-item.is
          c.in_ok-size.ensures.memory ∙ l.invariant.memory;
      live = omega (arith, l.invariant.live, c.in_ok-size.ensures.live, last, lives, more);
      few = ap (λ n. fold (λ n o. n + object_size p o) (l.live + n) (drop (l.o-index + 1) items)) c.in_ok-size.ensures.live
          ∙ sym (next_counted p items l.o-index l.live o c.loop-o-test.true c.o-item.is) ∙ l.invariant.few;
    }
