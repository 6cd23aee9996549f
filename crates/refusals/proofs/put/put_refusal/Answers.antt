use Rattle.std.proofs.Common.{◌≡◌, true, false, ap}
use Rattle.std.specs.Prelude.{Option, is_some}
use Rattle.lay_base.specs.declared.place.Place.{Place}
use Rattle.refusals.specs.Table.{HasPlace}
use Rattle.refusals.proofs.Texts.{refusal_text-no_place}
use Rattle.refusals.proofs.put.put_refusal.Goals as goal

pub returns-else-is_some-clause-gives : goal.returns-else-is_some-clause-gives
returns-else-is_some-clause-gives g c =
    let alone : ¬ HasPlace c.args.refusal.now = λ place.
    let told = ap (λ (p : Option Place × Option Place). is_some p.0) c.places_of.ensures in
    let none = c.if-is_some.false in let asked = c.is_some.ensures in cc
    in
    rw (refusal_text-no_place c.args.at.now c.args.first.now c.args.refusal.now alone) c.put_without_place.ensures.gives
