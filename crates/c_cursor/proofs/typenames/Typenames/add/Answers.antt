use Rattle.std.proofs.Common.{rules, ◌≡◌, ◌++◌, ◌∷◌, [], ◌∙◌, ap}
use Rattle.c_ast.specs.WellFormed.{is_typename}
use Rattle.c_cursor.proofs.typenames.Typenames.add.Goals as goal
use Rattle.c_grammar.proofs.Tables.{one_more}

pub invariant_of-self-2 : goal.invariant_of-self-2
invariant_of-self-2 c x =
    let e : c.self.inside.names.items ++ c.in_ok-key.key.items ∷ [] ≡ c.push_reserved.new.self.items = search rules in
    one_more c.self.inside.table.keys c.put_key.new.keys.keys c.self.inside.names.items c.in_ok-key.key c.self.invariant c.in_ok-put_key.ensures.put x
    ∙ ap (λ names. is_typename names x) e
