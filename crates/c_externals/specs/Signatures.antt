-- The types in the signatures of the library.
use Rattle.c_types.specs.declared.ty.IntKind.TheVariants.{Int, UInt}
use Rattle.c_types.specs.Types.{CType, integer, pointer, void}
use Rattle.c_externals.specs.declared.library.Simple.{Simple}
use Rattle.c_externals.specs.declared.library.Simple.TheVariants as S

abbrev pub simple_type : Simple → CType
simple_type S.Void = void
simple_type S.Int = integer Int
simple_type S.Size = integer UInt
simple_type S.Bytes = pointer void
