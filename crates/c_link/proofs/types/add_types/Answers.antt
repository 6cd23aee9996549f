use Rattle.std.proofs.Common.{◌∙◌, ap, fold, map, sym, ℕ}
use Rattle.std.proofs.lemmas.List.{drop_all}
use Rattle.c_numbers.specs.NewNumbers.Numbers.{number_at}
use Rattle.c_numbers.specs.TypeNumbers.Adding.{with_type}
use Rattle.c_numbers.specs.TypeNumbers.Renumbered.{renumbered}
use Rattle.c_types.specs.Views.{type_of}
use Rattle.c_link.proofs.types.add_types.Goals as goal

pub returns : goal.returns
returns c =
    let before = map type_of c.args.types.now in
    let items = c.as_slice-t-items.result.now in
    let e = drop_all c.loop-t.t-index items c.loop-t-test.false in
    let number = number_at c.in_ok-records.records in
    ap (λ rest. fold with_type (map type_of c.loop-t.types) (map (renumbered number) (map type_of rest))) (sym e) ∙ c.loop-t.invariant
    ∙ ap (λ them. fold with_type before (map (renumbered number) (map type_of them))) c.as_slice-t-items.ensures
    ∙ ap (λ (f : ℕ → ℕ). fold with_type before (map (renumbered f) (map type_of c.args.u.now.types))) c.in_ok-records.ensures
