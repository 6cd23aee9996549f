use Rattle.std.proofs.Common.{All, subst, sym}
use Rattle.c_tokens.specs.TokenPlaces.{IsPlaceIn}
use Rattle.text_rows.proofs.tokens.put_asked.Goals as goal

-- src/tokens.rt:43:28
pub put_lines-requires-clause-places : goal.put_lines-requires-clause-places
put_lines-requires-clause-places c =
    subst (All (λ token. IsPlaceIn c.args.text.now token.from)) (sym c.as_slice-list.ensures) (c.tokens_have_places.ensures.of_tokens _ _ c.requires.tokens)
