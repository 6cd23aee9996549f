use Rattle.std.proofs.Common.{rules, sym, ◌∙◌}
use Rattle.c_lexer.proofs.Scans.{goes_on, goes_over_white, stops_with, ends}
use Rattle.c_lexer.proofs.lexing.tokens_of.Goals as goal

pub returns-in-Err : goal.returns-in-Err
returns-in-Err c = stops_with c.fault_at.result c.loop-rest.tokens.items c.loop-rest.at c.loop-rest.begins_line c.loop-rest.rest.now c.in-Err.kind _
    c.fault_at.ensures (search rules) (sym c.step_at.ensures.is ∙ c.in-Err.is) c.loop-rest.invariant.goes

pub loop-rest-preserved-in-Some : goal.loop-rest-preserved-in-Some
loop-rest-preserved-in-Some c = record {
  goes = goes_over_white c.loop-rest.tokens.items c.loop-rest.at c.loop-rest.begins_line c.in-Some.begins c.loop-rest.rest.now
      c.split_at.result.1.now _ c.in-Some.ensures.within c.in-Some.ensures.is c.in-Some.ensures.line c.split_at.ensures.back c.loop-rest.invariant.goes;
  place = search rules;
}

pub loop-rest-preserved : goal.loop-rest-preserved
loop-rest-preserved c = record {
  goes = rw c.in_ok-add.ensures.added (goes_on c.loop-rest.tokens.items c.loop-rest.at c.loop-rest.begins_line c.loop-rest.rest.now
      c.split_at-in_default.result.1.now c.in-Ok.step _ (search rules) (sym c.step_at.ensures.is ∙ c.in-Ok.is)
      (search rules) c.split_at-in_default.ensures.back c.loop-rest.invariant.goes);
  place = search rules;
}

pub returns : goal.returns
returns c = ends c.loop-rest.tokens.items c.loop-rest.at c.loop-rest.begins_line c.loop-rest.rest.now _ (search rules) c.loop-rest.invariant.goes
