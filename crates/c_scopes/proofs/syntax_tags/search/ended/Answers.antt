use Rattle.std.proofs.Common.{arith}
use Rattle.c_scopes.proofs.SyntaxTags.Searching.{lower, upper, counted}
use Rattle.c_scopes.proofs.syntax_tags.search.ended.Goals as goal

pub loop-low-preserved-then-places-middle : goal.loop-low-preserved-then-places-middle
loop-low-preserved-then-places-middle c =
    lower c.args.places.now c.requires.order c.args.at c.loop-low.low c.loop-low.high _ c.loop-low.invariant (omega arith) (omega arith)
    c.if-places-middle.true

pub loop-low-preserved : goal.loop-low-preserved
loop-low-preserved c =
    upper c.args.places.now c.requires.order c.args.at c.loop-low.low c.loop-low.high _ c.loop-low.invariant (omega arith) (omega arith)
    c.if-places-middle.false

pub returns : goal.returns
returns c = counted c.args.places.now c.args.at c.loop-low.low c.loop-low.high c.loop-low.invariant c.loop-low-test.false
