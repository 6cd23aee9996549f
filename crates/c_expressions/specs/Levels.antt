-- The reader of expressions of a level.
use Rattle.c_ast.specs.Trees
use Rattle.c_expressions.specs.declared.level.Level.{Level}
use Rattle.c_expressions.specs.declared.level.Level.TheVariants as L
use Rattle.c_grammar.specs.Reading.{Inner, Reader}

abbrev pub read : Level → Inner → Reader Trees.Expression
read L.Expression inner = inner.expression
read L.Assignment inner = inner.assignment
read L.Conditional inner = inner.conditional
read (L.Operators least) inner = inner.operators least
read L.Operand inner = inner.operand
read L.Unary inner = inner.unary
