use Rattle.std.proofs.Common.{◌∙◌, refl, arith}
use Rattle.rv_machine.proofs.Pieces.{comes_more, stored_in}
use Rattle.rv_machine.proofs.memory.Memory.read_in.Goals as goal

pub loop-i-preserved : goal.loop-i-preserved
loop-i-preserved g c =
    let rows = c.loop-i.invariant.rows in
    let gives = rw c.in-Some.is at c.in_ok-byte.ensures.gives in
    let stored = stored_in c.args.self.now c.loop-i.self c.put.new.self c.args.address c.args.count c.loop-i.i c.in-Some.byte c.put.result c.requires
    (omega arith) rows c.put.ensures.mapped c.put.ensures.content in
    record {
      rows = c.put.ensures.rows ∙ rows;
      kept = c.in_ok-byte.ensures.kept refl ∙ c.loop-i.invariant.kept;
      came = comes_more _ _ _ _ _ _ _ _ c.in-Some.byte c.in-Some.byte c.loop-i.invariant.came gives stored (omega arith);
    }
