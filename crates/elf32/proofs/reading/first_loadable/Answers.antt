use Rattle.std.proofs.Common.{◌==◌, filter, rules, arith}
use Rattle.std.proofs.lemmas.Grind.{common_steps}
use Rattle.elf32.specs.Header.{headers_from, headers_offset}
use Rattle.elf32.proofs.Headers.{loadable_taken, loadable_passed}
use Rattle.elf32.proofs.reading.first_loadable.Goals as goal
use Rattle.elf32.proofs.reading.first_loadable.Goals.{then-header-eq-LOAD+in_ok-add, else-header-eq-LOAD}

pub loop-i-preserved : goal.loop-i-preserved
loop-i-preserved c =
    elim c.if-header-eq-LOAD.branch [
      | then-header-eq-LOAD+in_ok-add w ↦
          let taken = loadable_taken c.args.bytes.now (headers_offset c.args.bytes.now) c.loop-i.i c.header_at-header.result (search rules)
          w.if-header-eq-LOAD.true in
          let added = w.in_ok-add.ensures.first (filter (λ h. h.kind == 1)
          (headers_from c.args.bytes.now (headers_offset c.args.bytes.now) c.loop-i.i)) c.loop-i.invariant.found in
          record {
            found = rw (w.found-is, taken) added;
            fits = grind (arith, common_steps);
          }
      | else-header-eq-LOAD w ↦
          let passed = loadable_passed c.args.bytes.now (headers_offset c.args.bytes.now) c.loop-i.i c.header_at-header.result (search rules)
          w.if-header-eq-LOAD.false in
          record {
            found = rw (w.found-is, passed) c.loop-i.invariant.found;
            fits = grind (arith, common_steps);
          }
    ]
