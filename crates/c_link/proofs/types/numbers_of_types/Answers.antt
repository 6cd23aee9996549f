use Rattle.std.proofs.Common.{◌≡◌, ◌++◌, ◌∙◌, append-nil, ap, map, rules, sym}
use Rattle.std.proofs.lemmas.List.{drop_all}
use Rattle.c_erasure.specs.Units.{number_in}
use Rattle.c_numbers.specs.NewNumbers.Numbers.{number_at}
use Rattle.c_numbers.specs.TypeNumbers.Renumbered.{renumbered}
use Rattle.c_types.specs.declared.ty.Ty.TheVariants as T
use Rattle.c_types.specs.Types.{CType, void}
use Rattle.c_types.specs.Views.{type_of}
use Rattle.c_link.proofs.NumberLists.{numbers_are, void_is}
use Rattle.c_link.proofs.types.numbers_of_types.Goals as goal

pub returns : goal.returns
returns c =
    let number = λ (t : CType). number_in (map type_of c.args.types.now) (renumbered (number_at c.args.records.now) t) in
    let all = map type_of c.args.all.now in
    let e = drop_all c.loop-t.t-index c.args.all.now c.loop-t-test.false in
    let first : c.loop-t.entries ≡ map number all =
    sym (append-nil c.loop-t.entries) ∙ ap (λ rest. c.loop-t.entries ++ map number (map type_of rest)) (sym e) ∙ c.loop-t.invariant in
    let second : c.in_ok-otherwise.otherwise ≡ number_in (map type_of c.args.types.now) (type_of T.Void) = search rules in
    numbers_are number void all _ first (second ∙ ap (number_in (map type_of c.args.types.now)) void_is)
