use Rattle.std.proofs.Common.{sym, ap, ◌∙◌}
use Rattle.std.specs.Option.{option_map}
use Rattle.c_scopes.proofs.SyntaxTags.TagTables.{placed}
use Rattle.c_scopes.proofs.syntax_tags.table.TagTable.place_of.Goals as goal

pub returns-in-Some : goal.returns-in-Some
returns-in-Some c = rw (← c.self.view_is) (ap (option_map (λ k. k.place)) c.in-Some.ensures ∙ sym (placed c.self.inside.known.entries c.args.name.now))

pub returns-in-None : goal.returns-in-None
returns-in-None c = rw (← c.self.view_is) (ap (option_map (λ k. k.place)) c.in-None.ensures ∙ sym (placed c.self.inside.known.entries c.args.name.now))
