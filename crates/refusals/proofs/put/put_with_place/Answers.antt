use Rattle.std.proofs.Common.{sym}
use Rattle.refusals.specs.Table.{refusal_text}
use Rattle.refusals.proofs.put.put_with_place.Goals as goal

pub returns-in-BadByte : goal.returns-in-BadByte
unfolding refusal_text
returns-in-BadByte g c = rw c.in-BadByte.is c.put_line_at.ensures

pub returns-in-BadLiteral : goal.returns-in-BadLiteral
unfolding refusal_text
returns-in-BadLiteral g c = rw c.in-BadLiteral.is c.put_line_at-in-BadLiteral.ensures

pub returns-in-Unclosed : goal.returns-in-Unclosed
unfolding refusal_text
returns-in-Unclosed g c = rw c.in-Unclosed.is c.put_line_at-in-Unclosed.ensures

pub returns-in-Unsupported : goal.returns-in-Unsupported
unfolding refusal_text
returns-in-Unsupported g c = rw (c.in-Unsupported.is, sym c.keyword_text.ensures) c.put_line_at-in-Unsupported.ensures

pub returns-in-TooBig : goal.returns-in-TooBig
unfolding refusal_text
returns-in-TooBig g c = rw c.in-TooBig.is c.put_line_at-in-TooBig.ensures

pub returns-in-Undeclared : goal.returns-in-Undeclared
unfolding refusal_text
returns-in-Undeclared g c = rw (c.in-Undeclared.is, sym c.as_slice.ensures) c.put_line_at-in-Undeclared.ensures

pub returns-in-Redeclared : goal.returns-in-Redeclared
unfolding refusal_text
returns-in-Redeclared g c = rw (c.in-Redeclared.is, sym c.as_slice-in-Redeclared.ensures) c.put_line_at-in-Redeclared.ensures

pub returns-in-Twice : goal.returns-in-Twice
unfolding refusal_text
returns-in-Twice g c = rw (c.in-Twice.is, sym c.as_slice-in-Twice.ensures) c.put_line_at-in-Twice.ensures

pub returns-in-TagClash : goal.returns-in-TagClash
unfolding refusal_text
returns-in-TagClash g c = rw (c.in-TagClash.is, sym c.as_slice-in-TagClash.ensures) c.put_line_at-in-TagClash.ensures

pub returns-in-NameClash : goal.returns-in-NameClash
unfolding refusal_text
returns-in-NameClash g c = rw (c.in-NameClash.is, sym c.as_slice-in-NameClash.ensures) c.put_line_at-in-NameClash.ensures

pub returns-in-Undefined : goal.returns-in-Undefined
unfolding refusal_text
returns-in-Undefined g c = rw (c.in-Undefined.is, sym c.undefined_name.ensures) c.put_line_at-in-Undefined.ensures
