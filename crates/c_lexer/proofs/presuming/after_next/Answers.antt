use Rattle.std.proofs.Common.{arith, ap, length, sym, ◌∙◌}
use Rattle.c_tokens.specs.declared.part.PartKind.TheVariants as P
use Rattle.c_tokens.specs.declared.part.Shape.TheVariants as S
use Rattle.c_lexer.proofs.Exactness.{parts_are_exact}
use Rattle.c_lexer.proofs.LinesOfParts.{read_more, cut_small}
use Rattle.c_lexer.proofs.Scans.{one_byte}
use Rattle.c_lexer.proofs.presuming.after_next.Goals as goal

pub returns-clause-read : goal.returns-clause-read
returns-clause-read c = rw (c.begins_line_after_part.ensures, c.after_part.ensures, c.split_at-2.ensures.front, c.split_at.ensures.back)
    (read_more parts_are_exact c.args.bytes.now c.args.reached.from c.args.reached.begins_line c.args.reached.lines c.in-Ok.kind c.in-Ok.size
    (rw (← c.split_at.ensures.back) (sym c.part_at.ensures.is ∙ c.in-Ok.is)) c.requires.read)

pub returns-in-Some-clause-read : goal.returns-in-Some-clause-read
returns-in-Some-clause-read c =
    rw (← c.in-Some.ensures.line, c.after_bytes.ensures, c.split_at-in-Some.ensures.front, c.split_at.ensures.back)
    (read_more parts_are_exact c.args.bytes.now c.args.reached.from c.args.reached.begins_line c.args.reached.lines P.White 1
    (rw (← c.split_at.ensures.back) c.in-Some.ensures.is) c.requires.read)

pub after_bytes-requires : goal.after_bytes-requires
after_bytes-requires c =
    let small = cut_small _ c.args.reached.from _ _ c.args.reached.lines
    (c.requires.read c.args.at c.requires.before c.requires.within c.requires.tokens) in
    omega (arith, small, ap length c.split_at-in-Some.ensures.front ∙ one_byte c.split_at.result.1.now c.in-Some.ensures.within)

pub returns-in-Some-punctuator_alone-clause-read : goal.returns-in-Some-punctuator_alone-clause-read
returns-in-Some-punctuator_alone-clause-read c =
    rw (← c.in-Some-punctuator_alone.ensures.plain c.args.reached.lines, c.split_at.ensures.back)
    (read_more parts_are_exact c.args.bytes.now c.args.reached.from c.args.reached.begins_line c.args.reached.lines
    (P.Word (S.Punctuator c.in-Some-punctuator_alone._punctuator)) 1 (rw (← c.split_at.ensures.back) (c.in-Some-punctuator_alone.ensures.is c.args.reached.begins_line)) c.requires.read)

pub after_part-requires-clause-small : goal.after_part-requires-clause-small
after_part-requires-clause-small c = cut_small _ c.args.reached.from _ _ c.args.reached.lines
    (c.requires.read c.args.at c.requires.before c.requires.within c.requires.tokens)
