use Rattle.std.proofs.Common.{◌≡◌, List, All, map, subst, sym, rules}
use Rattle.c_link.specs.Joining.{joined}
use Rattle.c_typed.specs.declared.program.Unit.{Unit}
use Rattle.c_typed.specs.Programs.{UnitData, program_data, unit_data}
use Rattle.c_types.specs.Limits.{AreSmall}
use Rattle.c_link.specs.Counting.{AreMeasured}
use Rattle.c_link.proofs.Lacks.{lack_is_gap}
use Rattle.c_link.proofs.Measures.{are_measured}
use Rattle.c_link.proofs.WholeRecords.{whole_records}
use Rattle.c_link.proofs.linking.whole_program.Goals as goal

abbrev AreAllSmall : List Unit → Type 0
AreAllSmall units = All (λ (u : UnitData). AreSmall u.records) (map unit_data units)

pub join-requires-clause-whole : goal.join-requires-clause-whole
join-requires-clause-whole c =
    let e : c.as_slice.result.now ≡ c.args.units = search rules in
    whole_records (map unit_data c.args.units) c.requires.agree c.requires.countable (subst AreAllSmall e c.records_are_small.ensures)

pub returns-in-Err : goal.returns-in-Err
returns-in-Err c =
    let units = map unit_data c.args.units in
    let p = program_data c.in_ok-p.p in
    let f : p ≡ joined units = search rules in
    lack_is_gap units c.args.tags.now p c.in-Err.gap c.requires.agree c.requires.tags f c.in-Err.ensures

pub within_limits-requires : goal.within_limits-requires
within_limits-requires c =
    let units = map unit_data c.args.units in
    let f : program_data c.in_ok-p.p ≡ joined units = search rules in
    let e : c.as_slice.result.now ≡ c.args.units = search rules in
    let w = whole_records units c.requires.agree c.requires.countable (subst AreAllSmall e c.records_are_small.ensures) in
    subst AreMeasured (sym f) (are_measured units c.requires.agree w.complete c.requires.countable)
