use Rattle.std.proofs.Common.{◌≡◌, ◌++◌, ◌∙◌, None, ap, fold, flat_map, length, map, sym, rules}
use Rattle.std.proofs.lemmas.Grind.{flat_map-append}
use Rattle.std.proofs.lemmas.List.{length-map}
use Rattle.c_types.specs.Types.{field_types}
use Rattle.c_types.specs.Views.{record_of}
use Rattle.c_typed.specs.Programs.{program_data}
use Rattle.c_link.specs.Gaps.{structures_in, type_at, types_of_function, types_of_object}
use Rattle.c_link.specs.Missing.{least_among, least_in, lesser_at}
use Rattle.c_link.proofs.OpenStructures.{by_numbers, least_append, open_or_none}
use Rattle.c_link.proofs.structures.least_open.Goals as goal

pub returns : goal.returns
returns c =
    let p = program_data c.args.p.now in
    let count = c.len-count.result in
    let fields = flat_map structures_in (flat_map field_types p.records) in
    let held = flat_map types_of_object p.objects ++ flat_map types_of_function p.functions in
    let l : c.as_slice-3.result.now ≡ map (least_in count) p.types = search rules in
    let b : c.least_in_records-best.result ≡ least_among count None fields = search rules in
    let m : count ≡ length c.args.p.now.records = search rules in
    let r : c.in_ok-least.least ≡ fold (lesser_at c.as_slice-3.result.now) c.least_in_records-best.result held = search rules in
    let k = r
    ∙ ap (λ ls. fold (lesser_at ls) c.least_in_records-best.result held) l
    ∙ ap (λ best. fold (lesser_at (map (least_in count) p.types)) best held) b
    ∙ by_numbers count p.types (least_among count None fields) held
    ∙ sym (least_append count None fields (flat_map structures_in (map (type_at p) held)))
    ∙ ap (least_among count None) (sym (flat_map-append structures_in (flat_map field_types p.records) (map (type_at p) held))) in
    open_or_none p count c.in_ok-least.least k (m ∙ sym (length-map c.args.p.now.records record_of))
