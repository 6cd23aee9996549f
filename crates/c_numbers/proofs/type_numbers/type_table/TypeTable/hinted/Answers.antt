use Rattle.std.proofs.Common.{◌≡◌, ◌∙◌, ap, sym, arith, map, slice_index_or, ◌%◌, ◌<◌, length}
use Rattle.std.specs.Prelude.{Some}
use Rattle.std.specs.List.{slice_get}
use Rattle.std.proofs.lemmas.Option.{slice_get-get_or, slice_get_within}
use Rattle.std.proofs.lemmas.List.{length-map}
use Rattle.c_erasure.specs.Units.{number_in}
use Rattle.c_types.specs.Views.{type_of}
use Rattle.c_numbers.specs.TypeNumbers.Adding.{with_type}
use Rattle.c_numbers.proofs.TypeNumbers.Once.{number_is}
use Rattle.c_numbers.proofs.TypeNumbers.Places.{is_there}
use Rattle.c_numbers.proofs.type_numbers.type_table.TypeTable.hinted.Goals as goal

pub returns-in-Some-clause-is : goal.returns-in-Some-clause-is
returns-in-Some-clause-is c =
    let types = c.self.inside.types.items in
    let s = c.in-Some.found.now in
    let t = type_of c.args.t.now in
    let n = slice_index_or c.self.inside.hints (c.hint.result % 4096) 0 in
    let at = c.in-Some.ensures.lookup.3 in
    let found : slice_get types n ≡ Some s =
    sym (ap (λ them. slice_get them n) c.deref.ensures.value) ∙ slice_get-get_or c.deref.result.now n s at.0 ∙ ap Some (sym (at.1 s)) in
    number_is types n s t c.self.invariant.once found (c.same.ensures.exact.0 c.if-same.true) ∙ ap (λ them. number_in (map type_of them) t) c.self.view_is

pub returns-in-Some-clause-there : goal.returns-in-Some-clause-there
returns-in-Some-clause-there c =
    let types = c.self.inside.types.items in
    let s = c.in-Some.found.now in
    let t = type_of c.args.t.now in
    let n = slice_index_or c.self.inside.hints (c.hint.result % 4096) 0 in
    let at = c.in-Some.ensures.lookup.3 in
    let found : slice_get types n ≡ Some s =
    sym (ap (λ them. slice_get them n) c.deref.ensures.value) ∙ slice_get-get_or c.deref.result.now n s at.0 ∙ ap Some (sym (at.1 s)) in
    let number : n ≡ number_in (map type_of types) t = number_is types n s t c.self.invariant.once found (c.same.ensures.exact.0 c.if-same.true) in
    let within = slice_get_within types n s found in
    let all = length-map types type_of in
    let there : number_in (map type_of types) t < length (map type_of types) = omega (arith, number, within, all) in
    ap (map type_of) (sym c.self.view_is) ∙ is_there (map type_of types) t there ∙ ap (λ them. with_type (map type_of them) t) c.self.view_is
