use Rattle.std.proofs.Common.{◌≡◌, ◌∙◌, ◌++◌, ◌∷◌, [], Bool, false, ap, sym, refl}
use Rattle.std.specs.Prelude.{◌==◌, if◌then◌else◌}
use Rattle.std.specs.List.{list_any}
use Rattle.c_check_statements.proofs.StatementParts.LabelsInTurn.{case_added}
use Rattle.c_check_statements.proofs.statement_parts.labels.with_case.Goals as goal

pub returns-in-Ok : goal.returns-in-Ok
returns-in-Ok c =
    let cases = c.args.all.now.cases in
    let absent : list_any (λ w. w == c.args.v) cases ≡ false = sym c.if-contains.ensures in
    case_added c.args.all.now (record { cases = c.add.new.self; defaults = c.args.all.now.defaults }) c.args.at c.args.v absent
    (c.in-Ok.ensures.added ∙ ap (λ b. if b then cases else cases ++ c.args.v ∷ []) absent) refl
