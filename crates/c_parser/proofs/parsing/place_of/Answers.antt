use Rattle.std.proofs.Common.{inl, inr, refl, sym, ◌∙◌}
use Rattle.c_parser.proofs.PlacesOfTokens.{token_found}
use Rattle.c_parser.proofs.parsing.place_of.Goals as goal
use Rattle.c_parser.proofs.parsing.place_of.Goals.{in-Some, in-None}

pub returns : goal.returns
returns c = (
  refl,
  elim c.match-get.branch [
    | in-Some w ↦
        let lookup = w.in-Some.ensures.lookup in
        let found = token_found c.as_slice-list.result.now c.saturating_sub.result w.in-Some.token.now lookup.3.0 (lookup.3.1 w.in-Some.token.now) in
        inl (found.0, found.1, w.in-Some.token.now, sym c.as_slice-list.ensures ∙ found.2, w.at-is)
    | in-None w ↦ inr (w.at-is ∙ w.len.ensures)
  ],
)
