-- The types of annotated trees of the program.
use Rattle.c_annotated.specs.declared.expression.Noted.{Noted}
use Rattle.c_typed.specs.declared.expression.Expression as E
use Rattle.c_typed.specs.declared.expression.ExpressionNode as N
use Rattle.c_typed.specs.declared.expression.Path as P
use Rattle.c_typed.specs.declared.expression.PathNode as Q
use Rattle.c_typed.specs.declared.statement.Arm as A
use Rattle.c_typed.specs.declared.statement.Initializer as I
use Rattle.c_typed.specs.declared.statement.InitializerPart as J
use Rattle.c_typed.specs.declared.statement.PartValue as V
use Rattle.c_typed.specs.declared.statement.Statement as S

abbrev pub Expression : Type 0
Expression = E.Expression Noted

abbrev pub ExpressionNode : Type 0
ExpressionNode = N.ExpressionNode Noted

abbrev pub Path : Type 0
Path = P.Path Noted

abbrev pub PathNode : Type 0
PathNode = Q.PathNode Noted

abbrev pub Statement : Type 0
Statement = S.Statement Noted

abbrev pub Arm : Type 0
Arm = A.Arm Noted

abbrev pub Initializer : Type 0
Initializer = I.Initializer Noted

abbrev pub InitializerPart : Type 0
InitializerPart = J.InitializerPart Noted

abbrev pub PartValue : Type 0
PartValue = V.PartValue Noted
