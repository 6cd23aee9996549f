use Rattle.std.proofs.Common.{◌≡◌, Some, None, ap, ◌∙◌, sym, arith}
use Rattle.rv_machine.specs.Rows.{row_at}
use Rattle.rv_machine.proofs.Places.{row_at_holds, row_at_serves, held_between, stretch_found, mapped_none, mapped_not}
use Rattle.rv_machine.proofs.memory.Memory.stretch.Goals as goal

pub returns-in_err-row : goal.returns-in_err-row
returns-in_err-row c =
    let e : row_at c.args.self.now.rows.items c.args.address ≡ None = ap (λ rows. row_at rows c.args.address) (sym c.deref.ensures.value)
    ∙ sym c.in_err-row.ensures in
    rw c.from_residual.ensures (mapped_none _ _ c.args.flag _ c.args.self.now.sound e)

pub place_at-requires-clause-held : goal.place_at-requires-clause-held
place_at-requires-clause-held c =
    let e : row_at c.args.self.now.rows.items c.args.address ≡ Some c.in_ok-row.row =
    ap (λ rows. row_at rows c.args.address) (sym c.deref.ensures.value) ∙ sym c.in_ok-row.ensures in
    row_at_holds _ _ _ e

pub place_at-requires-clause-room : goal.place_at-requires-clause-room
place_at-requires-clause-room c =
    let e : row_at c.args.self.now.rows.items c.args.address ≡ Some c.in_ok-row.row =
    ap (λ rows. row_at rows c.args.address) (sym c.deref.ensures.value) ∙ sym c.in_ok-row.ensures in
    let serves = row_at_serves _ _ _ _ c.args.self.now.sound e in
    omega (arith, serves.place)

pub returns-in_err-place : goal.returns-in_err-place
returns-in_err-place c =
    let e : row_at c.args.self.now.rows.items c.args.address ≡ Some c.in_ok-row.row =
    ap (λ rows. row_at rows c.args.address) (sym c.deref.ensures.value) ∙ sym c.in_ok-row.ensures in
    rw c.from_residual-in_err-place.ensures (mapped_not _ _ c.args.flag _ _ c.args.self.now.sound e c.in_err-place.ensures)

pub overflow_add-left : goal.overflow_add-left
overflow_add-left c =
    let e : row_at c.args.self.now.rows.items c.args.address ≡ Some c.in_ok-row.row =
    ap (λ rows. row_at rows c.args.address) (sym c.deref.ensures.value) ∙ sym c.in_ok-row.ensures in
    let serves = row_at_serves _ _ _ _ c.args.self.now.sound e in
    omega (arith, serves.end)

pub overflow_sub-left : goal.overflow_sub-left
overflow_sub-left c =
    let e : row_at c.args.self.now.rows.items c.args.address ≡ Some c.in_ok-row.row =
    ap (λ rows. row_at rows c.args.address) (sym c.deref.ensures.value) ∙ sym c.in_ok-row.ensures in
    let ends = held_between c.in_ok-row.row c.args.address (row_at_holds _ _ _ e) in
    omega (arith, ends.1)

pub returns : goal.returns
returns c =
    let e : row_at c.args.self.now.rows.items c.args.address ≡ Some c.in_ok-row.row =
    ap (λ rows. row_at rows c.args.address) (sym c.deref.ensures.value) ∙ sym c.in_ok-row.ensures in
    let ends = held_between c.in_ok-row.row c.args.address (row_at_holds _ _ _ e) in (
      stretch_found _ _ c.args.flag c.args.address c.min.result c.in_ok-place.place c.in_ok-row.row c.args.self.now.sound e c.in_ok-place.ensures.0
          c.in_ok-place.ensures.1 (omega (arith, ends.1)),
      omega (arith, ends.1),
      omega arith,
    )
