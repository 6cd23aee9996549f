use Rattle.std.proofs.Common.{◌≡◌, ◌∙◌, ◌∷◌, ◌++◌, [], ap, false, fold, map, rules, sym, ℕ}
use Rattle.std.specs.Prelude.{if◌then◌else◌, not}
use Rattle.std.proofs.lemmas.Result.{on_ok_weaker}
use Rattle.c_annotated.specs.FileViews.{mention_of}
use Rattle.c_erasure.specs.Units.{is_among, number_in}
use Rattle.c_numbers.specs.TypeNumbers.Adding.{with_type}
use Rattle.c_typed.specs.declared.program.Mention.{Mention}
use Rattle.c_types.specs.Views.{type_of}
use Rattle.c_units.specs.NumberedParts.{mention_in}
use Rattle.c_units.specs.SizeOperands.{is_operand, kept}
use Rattle.c_units.proofs.Stable.{mention_stays}
use Rattle.c_units.proofs.mentions.add_mention.Goals as goal

pub returns-clause-numbered : goal.returns-clause-numbered
returns-clause-numbered c later =
    let is_size = is_among c.args.sizes.now in
    let m = mention_of c.args.m.now in
    let t = type_of c.args.m.now.ty in
    let before = map type_of c.args.types.now in
    let types = map type_of c.add_copy.new.self in
    let a : types ≡ with_type before t = c.in_ok-add_copy.ensures.added in
    let no : is_operand is_size m ≡ false = search rules in
    let k : kept is_size (m ∷ []) ≡ m ∷ [] = ap (λ b. if not b then m ∷ [] else []) no in
    let n : c.in_ok-ty.ty ≡ number_in (fold with_type types later) t =
    c.in_ok-ty.ensures ∙ ap (λ them. number_in them t) a ∙ mention_stays before later t ∙ ap (λ them. number_in (fold with_type them later) t) (sym a) in
    let one : ℕ → Mention = λ ty. record { kind = m.kind; ty = ty; place = record { file = c.args.file; at = m.at } } in
    on_ok_weaker c.add.result
    (λ (e : c.add.new.list ≡ c.args.found.now ++ one c.in_ok-ty.ty ∷ []).
    e ∙ ap (λ ty. c.args.found.now ++ one ty ∷ []) n
    ∙ ap (λ them. c.args.found.now ++ map (mention_in (fold with_type types later) c.args.file) them) (sym k))
    c.add.ensures.added
