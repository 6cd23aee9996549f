use Rattle.std.proofs.Common.{◌≡◌, ◌∙◌, [], ap, ℕ, List, map, rules}
use Rattle.std.specs.Prelude.{get_or}
use Rattle.c_erasure.specs.Units.{number_in}
use Rattle.c_numbers.specs.KeyNumbers.Keys.{position}
use Rattle.c_numbers.specs.NewNumbers.Numbers.{number_at}
use Rattle.c_numbers.specs.TypeNumbers.Renumbered.{renumbered}
use Rattle.c_typed.specs.Programs.{unit_data}
use Rattle.c_types.specs.Types.{CType, void}
use Rattle.c_types.specs.Views.{type_of}
use Rattle.c_link.specs.Joining.{function_identities, object_identities}
use Rattle.c_link.specs.Views.{tables_of}
use Rattle.c_link.proofs.tables.renumbering.Goals as goal

pub returns : goal.returns
returns c =
    let t = tables_of c.args.tags.now c.args.tables.now in
    let u = unit_data c.args.u.now in
    let r = c.in_ok-records.ensures in
    let at = λ (keys all : List (List ℕ)). λ (n : ℕ). position keys (get_or all n []) in
    let objects : map (λ key. key.items) c.as_slice-3.result.now ≡ object_identities c.args.unit 0 u.objects = search rules in
    let functions : map (λ key. key.items) c.as_slice-5.result.now ≡ function_identities c.args.unit 0 u.functions = search rules in
    let types : map type_of c.as_slice.result.now ≡ u.types = search rules in
    let ty = c.in_ok-types.ensures
    ∙ ap (λ (all : List CType). λ (i : ℕ). number_in t.types (renumbered (number_at c.in_ok-records.records) (get_or all i void))) types
    ∙ ap (λ (f : ℕ → ℕ). λ (i : ℕ). number_in t.types (renumbered f (get_or u.types i void))) r in
    let o = c.in_ok-objects.ensures ∙ ap (at t.objects) objects in
    let f = c.in_ok-functions.ensures ∙ ap (at t.functions) functions in
    λ i. record { ty = ty i; object = o i; function = f i; structure = r i }
