use Rattle.std.proofs.Common.{◌≡◌, [], drop, fold, map}
use Rattle.std.specs.Prelude.{flat_map}
use Rattle.c_numbers.specs.KeyNumbers.Keys.{with_key}
use Rattle.c_typed.specs.Programs.{unit_data}
use Rattle.c_link.specs.Joining.{complete_in, complete_tags}
use Rattle.c_link.proofs.tags.all_tags.Given as goal

abbrev pub invariant-loop-u : goal.invariant-loop-u
invariant-loop-u l = fold with_key l.tags (flat_map complete_in (map unit_data (drop l.u-index l.units))) ≡ fold with_key [] (flat_map complete_in (map unit_data l.units))

abbrev pub invariant-loop-r : goal.invariant-loop-r
invariant-loop-r l = fold with_key l.tags (map (λ r. r.tag) (drop l.r-index l.r-items)) ≡ fold with_key l.initial.tags (map (λ r. r.tag) l.r-items)

abbrev pub invariant-loop-u-2 : goal.invariant-loop-u-2
invariant-loop-u-2 l = fold with_key l.tags (flat_map (λ u. u.incomplete) (map unit_data (drop l.u-index l.units)))
    ≡ fold with_key (complete_tags (map unit_data l.units)) (flat_map (λ u. u.incomplete) (map unit_data l.units))

abbrev pub invariant-loop-name : goal.invariant-loop-name
invariant-loop-name l = fold with_key l.tags (drop l.name-index l.name-items) ≡ fold with_key l.initial.tags l.name-items
