use Rattle.std.proofs.Common.{◌≡◌, ◌∙◌, ℕ, List, [], true, ap, fold, map, rules, subst, sym}
use Rattle.std.specs.Prelude.{codes, flat_map}
use Rattle.c_typed.specs.Programs.{ProgramData, unit_data}
use Rattle.c_numbers.specs.KeyNumbers.Keys.{position}
use Rattle.c_link.specs.Joining.{Tables, named, numbered_from, records_in, tables}
use Rattle.c_link.specs.Placing.{placed}
use Rattle.c_link.specs.JoinedRecords.{AreWhole}
use Rattle.c_link.specs.JoinedViews.{assembled, nothing, tagged, with_unit}
use Rattle.c_link.specs.Views.{joined_of, tables_of}
use Rattle.c_link.proofs.Whole.{assembled_is, records_are}
use Rattle.c_link.proofs.program.join.Goals as goal

pub returns : goal.returns
returns c =
    let units = map unit_data c.args.units in
    let t = tables_of c.args.tags.now c.in_ok-tables.tables in
    let whole : Tables → ProgramData =
    λ them. assembled (placed (λ r. true) them.tags [] (map tagged (flat_map (records_in them.tags) units))) them.types
    (fold (with_unit them) nothing (numbered_from 0 units)) (position them.functions (named (codes "main"))) in
    let e : t ≡ tables units = c.in_ok-tables.ensures ∙ ap (λ them. tables (map unit_data them)) c.as_slice.ensures in
    let a = c.in_ok-all.ensures ∙ ap (λ them. flat_map (records_in t.tags) (map unit_data them)) c.as_slice-2.ensures in
    let r = c.in_ok-records.ensures ∙ ap (λ them. placed (λ r. true) t.tags [] (map tagged them)) a in
    let main : c.number-main.result ≡ position t.functions (named (codes "main")) = search rules in
    c.assembled.ensures
    ∙ ap (λ them. assembled them t.types (joined_of c.in_ok-joined.joined) c.number-main.result) r
    ∙ ap (λ j. assembled (placed (λ r. true) t.tags [] (map tagged (flat_map (records_in t.tags) units))) t.types j c.number-main.result) c.in_ok-joined.ensures
    ∙ ap (assembled (placed (λ r. true) t.tags [] (map tagged (flat_map (records_in t.tags) units))) t.types (fold (with_unit t) nothing (numbered_from 0 units))) main
    ∙ ap whole e ∙ assembled_is units

pub joined_records-requires : goal.joined_records-requires
joined_records-requires c =
    let units = map unit_data c.args.units in
    let tags = c.args.tags.now in
    let a = c.in_ok-all.ensures ∙ ap (λ them. flat_map (records_in tags) (map unit_data them)) c.as_slice-2.ensures in
    subst AreWhole
    (sym (ap (λ them. placed (λ r. true) tags [] (map tagged them)) a
    ∙ ap (λ (them : List (List ℕ)). placed (λ r. true) them [] (map tagged (flat_map (records_in them) units))) c.requires.tags ∙ records_are units)) c.requires.whole
