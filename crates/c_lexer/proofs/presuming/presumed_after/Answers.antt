use Rattle.std.proofs.Common.{◌≡◌, take, rules, sym, ◌∙◌}
use Rattle.std.proofs.Math.Logic.{∥∥₁_map}
use Rattle.c_lexer.specs.PresumingScan.{last_line}
use Rattle.c_lexer.proofs.Exactness.{parts_are_exact}
use Rattle.c_lexer.proofs.LinesOfParts.{between_places, presumed_from, leads_more, cut_small, cut_never, cut_ends}
use Rattle.c_lexer.proofs.presuming.presumed_after.Goals as goal

pub loop-rest-init : goal.loop-rest-init
loop-rest-init c = record {
  leads = λ t. rw (c.split_at-2.ensures.back, c.split_at.ensures.front, between_places c.args.start.from c.args.at c.args.bytes.now c.requires.before)
      (c.requires.read c.args.at c.requires.before c.requires.within t);
  place = search rules;
}

pub returns-in_default : goal.returns-in_default
returns-in_default c =
    absurd (cut_never parts_are_exact _ c.loop-rest.reached.from c.loop-rest.reached.begins_line c.loop-rest.rest.now c.loop-rest.reached.lines
    c.in_default.field-0 (sym c.part_at.ensures.is ∙ c.in_default.is) (search rules) (c.loop-rest.invariant.leads c.requires.tokens))

pub after_part-requires-clause-small : goal.after_part-requires-clause-small
after_part-requires-clause-small c = cut_small _ c.loop-rest.reached.from c.loop-rest.reached.begins_line c.loop-rest.rest.now
    c.loop-rest.reached.lines (c.loop-rest.invariant.leads c.requires.tokens)

pub loop-rest-preserved : goal.loop-rest-preserved
loop-rest-preserved c = record {
  leads = λ t. rw (
    c.begins_line_after_part.ensures,
    c.split_at-in-loop-rest.ensures.back,
    c.after_part.ensures,
    c.split_at-in-loop-rest.ensures.front,
  ) (∥∥₁_map (c.loop-rest.invariant.leads t)
      (leads_more parts_are_exact (λ line. line ≡ last_line (take c.args.at c.args.bytes.now) t.0 t.1) c.loop-rest.reached.from
      c.loop-rest.reached.begins_line c.loop-rest.rest.now c.loop-rest.reached.lines c.in-Ok.kind c.in-Ok.size (search rules) (search rules)));
  place = search rules;
}

pub returns : goal.returns
returns c = presumed_from _ c.requires.tokens.0 c.requires.tokens.1 _
    (cut_ends parts_are_exact _ c.loop-rest.reached.from c.loop-rest.reached.begins_line c.loop-rest.rest.now c.loop-rest.reached.lines (search rules)
    (c.loop-rest.invariant.leads c.requires.tokens))
