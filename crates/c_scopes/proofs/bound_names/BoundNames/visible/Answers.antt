use Rattle.std.proofs.Common.{◌≡◌, map, Some, ap, sym, ◌∙◌}
use Rattle.std.specs.Option.{option_copied, option_map}
use Rattle.c_erasure.specs.Checking.Declaring.{declared_among}
use Rattle.c_annotated.specs.FileViews.{bound_of}
use Rattle.c_scopes.proofs.FirstBounds.{seen}
use Rattle.c_scopes.proofs.bound_names.BoundNames.visible.Goals as goal

pub returns-then-b-at : goal.returns-then-b-at
returns-then-b-at c =
    let found : declared_among (map bound_of c.args.self.now) c.args.x.now ≡ Some (bound_of c.in-Some.b.now) =
    sym c.first.ensures ∙ ap (λ r. option_map bound_of (option_copied r)) c.in-Some.is in
    sym (seen (map bound_of c.args.self.now) c.args.x.now c.args.at (bound_of c.in-Some.b.now) found c.if-b-at.true)
