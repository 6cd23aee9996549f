-- What types are for conversions (C99 6.3).
use Rattle.c_types.specs.Types.{CType, void, integer, pointer as pointer_to}
use Rattle.source_values.specs.declared.row.Sort.{Sort}
use Rattle.source_values.specs.declared.row.Sort.TheVariants.{Void, Number, Pointer, Other}

abbrev pub sort_of : CType → Sort
sort_of void = Void
sort_of (integer kind) = Number kind
sort_of (pointer_to t) = Pointer
sort_of t = Other
