use Rattle.std.proofs.Common.{◌≡◌, Some, None, ap, ◌∙◌, sym, arith}
use Rattle.rv_machine.specs.Rows.{row_at}
use Rattle.rv_machine.proofs.Places.{row_at_holds, row_at_serves, place_found, mapped_none}
use Rattle.rv_machine.proofs.memory.Memory.place_of.Goals as goal

found : (c : goal.After-row-in-Some-1) → row_at c.args.self.now.rows.items c.args.address ≡ Some c.in-Some.row
found c = ap (λ rows. row_at rows c.args.address) (sym c.deref.ensures.value) ∙ sym c.row_with.ensures ∙ c.in-Some.is

pub place_at-requires-clause-held : goal.place_at-requires-clause-held
place_at-requires-clause-held c = row_at_holds _ _ _ (found c)

pub place_at-requires-clause-room : goal.place_at-requires-clause-room
place_at-requires-clause-room c =
    let serves = row_at_serves _ _ _ _ c.args.self.now.sound (found c) in
    omega (arith, serves.place)

pub returns-in-Some : goal.returns-in-Some
returns-in-Some c =
    let e : row_at c.args.self.now.rows.items c.args.address ≡ Some c.in-Some.row =
    ap (λ rows. row_at rows c.args.address) (sym c.deref.ensures.value) ∙ sym c.row_with.ensures ∙ c.in-Some.is in
    place_found _ _ c.args.flag _ _ c.args.self.now.sound e _ c.place_at.ensures

pub returns-in-None : goal.returns-in-None
returns-in-None c =
    let e : row_at c.args.self.now.rows.items c.args.address ≡ None = ap (λ rows. row_at rows c.args.address) (sym c.deref.ensures.value)
    ∙ sym c.row_with.ensures ∙ c.in-None.is in
    mapped_none _ _ c.args.flag _ c.args.self.now.sound e
