use Rattle.std.proofs.Common.{◌≡◌, ◌<◌, ◌≤◌, ◌++◌, ◌∷◌, [], ◌∙◌, ap, sym, subst, map, length, rules}
use Rattle.std.proofs.lemmas.List.{map-append}
use Rattle.c_types.specs.Views.{type_of}
use Rattle.c_numbers.specs.KeyNumbers.Keys.{position, with_key}
use Rattle.c_numbers.specs.TypeNumbers.Adding.{AreOnce, with_type}
use Rattle.c_numbers.specs.TypeNumbers.TypeKeys.{type_key}
use Rattle.c_numbers.proofs.TypeNumbers.Once.{one_more_once}
use Rattle.c_numbers.proofs.TypeNumbers.Places.{grows, not_there, one_more, stays}
use Rattle.c_numbers.proofs.type_numbers.type_table.TypeTable.add.Goals as goal

pub returns-then-number-n-clause-added : goal.returns-then-number-n-clause-added
returns-then-number-n-clause-added c =
    let types = map type_of c.self.inside.types.items in
    let t = type_of c.args.t in
    let h : position (map type_key types) (type_key t) < length (map type_key types) = search rules in
    ap (map type_of) (sym c.self.view_is) ∙ stays types t h ∙ ap (λ them. with_type (map type_of them) t) c.self.view_is

pub invariant_of-self-2 : goal.invariant_of-self-2
invariant_of-self-2 c =
    let types = map type_of c.self.inside.types.items in
    let t = type_of c.args.t in
    let h : length (map type_key types) ≤ position (map type_key types) (type_key t) = search rules in
    let added : c.add.new.self ≡ with_key (map type_key types) (type_key t) = search rules in
    let pushed : c.push_reserved.new.self.items ≡ c.self.inside.types.items ++ c.args.t ∷ [] = search rules in
    let all : types ++ t ∷ [] ≡ map type_of c.push_reserved.new.self.items = sym (map-append type_of c.self.inside.types.items (c.args.t ∷ [])) ∙ ap (map type_of) (sym pushed) in
    record {
      keys = added ∙ one_more types t ∙ ap (map type_key) (sym (grows types t h) ∙ all);
      once = subst AreOnce all (one_more_once types t c.self.invariant.once (not_there types t h));
    }

pub returns-clause-added : goal.returns-clause-added
returns-clause-added c =
    let types = map type_of c.self.inside.types.items in
    let t = type_of c.args.t in
    let h : length (map type_key types) ≤ position (map type_key types) (type_key t) = search rules in
    let pushed : c.push_reserved.new.self.items ≡ c.self.inside.types.items ++ c.args.t ∷ [] = search rules in
    ap (map type_of) pushed ∙ map-append type_of c.self.inside.types.items (c.args.t ∷ []) ∙ grows types t h
    ∙ ap (λ them. with_type (map type_of them) t) c.self.view_is
