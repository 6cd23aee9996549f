-- What is asked of a type, by the sort that is kept of it.
use Rattle.std.proofs.Common.{◌≡◌, ◌∷◌, ◌⊎◌, inl, inr, ℕ, refl, sym, ap, ◌∙◌}
use Rattle.lay_base.specs.declared.place.Place.{Place}
use Rattle.c_types.specs.declared.ty.IntKind.{IntKind}
use Rattle.c_types.specs.Types.{CType, void, integer, pointer as pointer_to}
use Rattle.c_typed.specs.Conversions.{promoted_kind}
use Rattle.c_typed.specs.Programs.{ProgramData}
use Rattle.c_meaning.specs.Program.{type_at}
use Rattle.source_values.specs.Rows.{row_of}
use Rattle.source_values.specs.Sorts as Kept
use Rattle.source_values.specs.declared.row.Sort.TheVariants as K
use Rattle.source_values.specs.declared.row.TypeRow.{TypeRow}
use Rattle.tac_ir.specs.declared.step.Operand.{Operand}
use Rattle.tac_ir.specs.declared.step.Sort.TheVariants as Sorts
use Rattle.tac_ir.specs.declared.step.Step.TheVariants as S
use Rattle.lower_tac.specs.Expressions.{convert_step, sort_of, unit_kind}
use Rattle.lower_tac.specs.Parts.{Steps}

number_is : (t : CType) (kind : IntKind) → Kept.sort_of t ≡ K.Number kind → t ≡ integer kind
number_is void kind e = cc
number_is (integer k) kind e = cc
number_is (pointer_to t) kind e = cc
number_is t kind e = cc

pointer_step_of : (t : CType) → Kept.sort_of t ≡ K.Pointer → (at : Place) (to : ℕ) (a : Operand) (code : Steps) → convert_step t at to a code ≡ S.AsPointer to at a ∷ code
pointer_step_of (pointer_to t) e at to a code = refl
pointer_step_of (integer k) e at to a code = cc
pointer_step_of t e at to a code = cc

void_step_of : (t : CType) → Kept.sort_of t ≡ K.Void → (at : Place) (to : ℕ) (a : Operand) (code : Steps) → convert_step t at to a code ≡ S.Set to a ∷ code
void_step_of void e at to a code = refl
void_step_of (integer k) e at to a code = cc
void_step_of (pointer_to t) e at to a code = cc
void_step_of t e at to a code = cc

other_step_of : (t : CType) → Kept.sort_of t ≡ K.Other → (at : Place) (to : ℕ) (a : Operand) (code : Steps) → convert_step t at to a code ≡ S.Set to a ∷ code
other_step_of void e at to a code = refl
other_step_of (integer k) e at to a code = cc
other_step_of (pointer_to t) e at to a code = cc
other_step_of t e at to a code = refl

module _ (p : ProgramData) (n : ℕ) (r : TypeRow) (kept : r ≡ row_of p n) where
  sort_is : Kept.sort_of (type_at p n) ≡ r.sort
  sort_is = ap (λ (r : TypeRow). r.sort) (sym kept)

  number_at : (kind : IntKind) → r.sort ≡ K.Number kind → type_at p n ≡ integer kind
  number_at kind e = number_is (type_at p n) kind (sort_is ∙ e)

  pub updated_is : (kind : IntKind) → r.sort ≡ K.Number kind → sort_of (type_at p n) ≡ Sorts.Number kind
  updated_is kind e = rw (number_at kind e) refl

  pub unit_is : (kind : IntKind) → r.sort ≡ K.Number kind → unit_kind (type_at p n) ≡ promoted_kind kind
  unit_is kind e = rw (number_at kind e) refl

  pub number_step : (kind : IntKind) → r.sort ≡ K.Number kind → (at : Place) (to : ℕ) (a : Operand) (code : Steps)
      → convert_step (type_at p n) at to a code ≡ S.Convert to at kind a ∷ code
  number_step kind e at to a code = rw (number_at kind e) refl

  pub pointer_step : r.sort ≡ K.Pointer → (at : Place) (to : ℕ) (a : Operand) (code : Steps) → convert_step (type_at p n) at to a code ≡ S.AsPointer to at a ∷ code
  pointer_step e = pointer_step_of (type_at p n) (sort_is ∙ e)

  pub set_step : (r.sort ≡ K.Void) ⊎ (r.sort ≡ K.Other) → (at : Place) (to : ℕ) (a : Operand) (code : Steps) → convert_step (type_at p n) at to a code ≡ S.Set to a ∷ code
  set_step (inl e) = void_step_of (type_at p n) (sort_is ∙ e)
  set_step (inr e) = other_step_of (type_at p n) (sort_is ∙ e)
