use Rattle.std.proofs.Common.{◌≡◌, ℕ, ◌+◌, ◌++◌, ◌∙◌, List, map, ap, rules}
use Rattle.c_numbers.specs.NewNumbers.Numbers.{renaming_of}
use Rattle.c_numbers.specs.NewNumbers.Parts.{function_in, mention_in, object_in}
use Rattle.c_typed.specs.Programs.{data_of, unit_data}
use Rattle.c_typed.specs.declared.program.Mention.{Mention}
use Rattle.c_link.specs.Joining.{is_function_defined, is_object_defined}
use Rattle.c_link.specs.Placing.{placed_by}
use Rattle.c_link.specs.Views.{joined_of, tables_of}
use Rattle.c_link.proofs.Pairs.{unit_joined}
use Rattle.c_link.proofs.Placed.{on_ok}
use Rattle.c_link.proofs.joining.join_unit.Goals as goal

pub returns-clause-joined : goal.returns-clause-joined
returns-clause-joined c =
    let t = tables_of c.args.tags.now c.args.tables.now in
    let j = joined_of c.args.joined.now in
    let u = unit_data c.args.u.now in
    let m = renaming_of c.in_ok-to.to in
    let objects = c.join_objects.new.all.items in
    let functions = map data_of c.join_functions.new.all.items in
    let o : objects ≡ placed_by is_object_defined m.object j.objects (map (object_in m) u.objects) = search rules in
    let f : functions ≡ placed_by is_function_defined m.function j.functions (map (function_in m) u.functions) = search rules in
    let nodes : c.from.result ≡ u.nodes = search rules in
    let mentions : c.replace-mentions.result ≡ u.mentions = search rules in
    on_ok c.join_mentions.result
    (λ (e : c.join_mentions.new.all ≡ j.mentions ++ map (mention_in m) c.replace-mentions.result).
    ap (λ (mentions : List Mention). record { objects = objects; functions = functions; mentions = mentions; nodes = j.nodes + c.from.result })
    (e ∙ ap (λ given. j.mentions ++ map (mention_in m) given) mentions)
    ∙ ap (λ (n : ℕ). record { objects = objects; functions = functions; mentions = j.mentions ++ map (mention_in m) u.mentions; nodes = j.nodes + n }) nodes
    ∙ unit_joined t j c.args.unit u m objects functions c.in_ok-to.ensures o f)
    c.join_mentions.ensures
