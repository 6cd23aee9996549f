-- What a binary operator does, as the program has it.
use Rattle.c_erasure.specs.Operators.{Kind, computes, compares, all_of, any_of}
use Rattle.c_nodes.specs.declared.operator_nodes.kinds.BinaryKind.{BinaryKind}
use Rattle.c_nodes.specs.declared.operator_nodes.kinds.BinaryKind.TheVariants.{Computes, Compares, AllOf, AnyOf}

abbrev pub kind_view : BinaryKind → Kind
kind_view (Computes op) = computes op
kind_view (Compares op) = compares op
kind_view AllOf = all_of
kind_view AnyOf = any_of
