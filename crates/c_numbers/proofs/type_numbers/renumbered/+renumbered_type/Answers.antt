use Rattle.std.proofs.Common.{◌≡◌, ◌∙◌, ap, sym, rules}
use Rattle.c_numbers.specs.NewNumbers.Numbers.{number_at}
use Rattle.c_numbers.specs.TypeNumbers.Renumbered.{renumbered}
use Rattle.c_types.specs.declared.ty.Ty.TheVariants as T
use Rattle.c_types.specs.Views.{type_of}
use Rattle.c_numbers.proofs.TypeNumbers.Lists.{function_of_loop}
use Rattle.c_numbers.proofs.type_numbers.renumbered.+renumbered_type.Goals as goal

pub returns-in_ok-shared-in-Function : goal.returns-in_ok-shared-in-Function
returns-in_ok-shared-in-Function t c =
    let number = number_at c.args.records.now in
    let a = c.in-Function in
    let all = c.as_slice-parameter-items in
    let h : type_of c.returned-in-Function.inside.inner.value ≡ renumbered number (type_of a.result) = search rules in
    let copies : c.in_ok-shared-in-Function.field-0 ≡ c.loop-parameter.copies = search rules in
    let items : all.result.now ≡ a.parameters = search rules in
    ap (λ them. type_of (T.Function c.returned-in-Function.inside.inner.value them)) copies
    ∙ function_of_loop number a.result c.returned-in-Function.inside.inner.value all.result.now c.loop-parameter.copies c.loop-parameter.parameter-index
    c.loop-parameter-test.false h c.loop-parameter.invariant
    ∙ ap (λ them. renumbered number (type_of (T.Function a.result them))) items
    ∙ ap (λ t. renumbered number (type_of t)) (sym a.is)
