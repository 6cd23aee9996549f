use Rattle.std.proofs.Common.{rules, ◌≡◌, ◌++◌, ◌∷◌, [], ◌≤◌, Some, map, subst, sym}
use Rattle.std.specs.List.{All}
use Rattle.std.proofs.lemmas.List.Elements.{All-push}
use Rattle.profile_file.specs.Reading.{loop_at}
use Rattle.profile_file.specs.Text.{greatest_count, loop_line, text_of}
use Rattle.profile_file.proofs.LineTexts.{loop_shorter, loop_taken, loops_more}
use Rattle.profile_file.proofs.lines.read_loops.Goals as goal

pub loop-count-smaller : goal.loop-count-smaller
loop-count-smaller c =
    let e : loop_at c.loop-count.rest.now ≡ Some (c.in-Some.count, c.in-Some.more.now) = search rules in
    loop_shorter c.loop-count.rest.now c.in-Some.count c.in-Some.more.now e

pub loop-count-preserved : goal.loop-count-preserved
loop-count-preserved c =
    let e : loop_at c.loop-count.rest.now ≡ Some (c.in-Some.count, c.in-Some.more.now) = search rules in
    let added : c.add.new.list ≡ c.loop-count.loops ++ c.in-Some.count ∷ [] = search rules in
    record {
      is = subst (λ ls. c.args.text.now ≡ text_of (map loop_line ls) ++ c.in-Some.more.now) (sym added)
          (loops_more c.args.text.now c.loop-count.loops c.loop-count.rest.now c.in-Some.count c.in-Some.more.now c.loop-count.invariant.is e);
      small = subst (All (λ n. n ≤ greatest_count)) (sym added)
          (All-push (λ n. n ≤ greatest_count) c.loop-count.loops c.in-Some.count c.loop-count.invariant.small
          (loop_taken c.loop-count.rest.now c.in-Some.count c.in-Some.more.now e).0);
    }
