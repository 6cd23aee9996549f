-- What the answers of the functions on types and constants stand for. An answer names a type by those of the operands, so that none is made.
use Rattle.c_types.specs.Types.{CType, void, integer, pointer}
use Rattle.c_typed.specs.declared.constants.Constant as C
use Rattle.c_typed.specs.declared.constants.Constant.TheVariants as V
use Rattle.c_typed.specs.declared.fits.Met.{Met}
use Rattle.c_typed.specs.declared.fits.Met.TheVariants.{Left, Right, VoidPointer}
use Rattle.c_typed.specs.declared.rules.OperandKinds.{OperandKinds}
use Rattle.c_typed.specs.declared.rules.CommonType.{CommonType}
use Rattle.c_typed.specs.declared.rules.CommonType.TheVariants.{Number, Void, Pointer}
use Rattle.c_typed.specs.Constants.{Constant, none, undefined, valued}

-- the type to which two operands are converted, of which one at least is a pointer
abbrev pub met_type : (left right : CType) → Met → CType
met_type s t Left = s
met_type s t Right = t
met_type s t VoidPointer = pointer void

-- the type to which two operands of any types are converted
abbrev pub common_type : (left right : CType) → CommonType → CType
common_type s t (Number kind) = integer kind
common_type s t Void = void
common_type s t (Pointer met) = met_type s t met

-- the types to which the left and the right operand are converted
abbrev pub operand_types : OperandKinds → CType × CType
operand_types kinds = (integer kinds.left, integer kinds.right)

abbrev pub constant_view : C.Constant → Constant
constant_view V.None = none
constant_view V.Undefined = undefined
constant_view (V.Valued v) = valued v
