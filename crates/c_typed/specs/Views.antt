-- What a typed tree of a program stands for, whose types stand at its nodes by their numbers.
use Rattle.std.specs.Prelude.{ℕ, List, Option}
use Rattle.c_typed.specs.declared.expression.Expression.{Expression}
use Rattle.c_typed.specs.declared.expression.ExpressionNode.{ExpressionNode}
use Rattle.c_typed.specs.declared.expression.Path.{Path}
use Rattle.c_typed.specs.declared.expression.PathNode.{PathNode}
use Rattle.c_typed.specs.declared.statement.Arm.{Arm}
use Rattle.c_typed.specs.declared.statement.Initializer.{Initializer}
use Rattle.c_typed.specs.declared.statement.InitializerPart.{InitializerPart}
use Rattle.c_typed.specs.declared.statement.PartValue.{PartValue}
use Rattle.c_typed.specs.declared.statement.Statement.{Statement}
use Rattle.c_typed.specs.TreeViews as TreeViews
use Rattle.c_typed.specs.Trees

abbrev pub AnExpression : Type 0
AnExpression = Trees.Expression ℕ

abbrev pub AStatement : Type 0
AStatement = Trees.Statement ℕ

abbrev pub OneArm : Type 0
OneArm = TreeViews.OneArm ℕ

abbrev pub expressions_of : List AnExpression → Trees.Expressions ℕ
expressions_of = TreeViews.expressions_of

abbrev pub optional_of : Option AnExpression → Trees.OptionalExpression ℕ
optional_of = TreeViews.optional_of

abbrev pub expression_of : Expression ℕ → AnExpression
expression_of = TreeViews.expression_of (λ t. t)

abbrev pub node_of : ExpressionNode ℕ → Trees.Node ℕ
node_of = TreeViews.node_of (λ t. t)

abbrev pub path_of : Path ℕ → Trees.Path ℕ
path_of = TreeViews.path_of (λ t. t)

abbrev pub path_node_of : PathNode ℕ → Trees.PathNode ℕ
path_node_of = TreeViews.path_node_of (λ t. t)

abbrev pub part_value_of : PartValue ℕ → Trees.PartValue ℕ
part_value_of = TreeViews.part_value_of (λ t. t)

abbrev pub part_of : InitializerPart ℕ → Trees.Part ℕ
part_of = TreeViews.part_of (λ t. t)

abbrev pub initializer_of : Initializer ℕ → Trees.Initializer ℕ
initializer_of = TreeViews.initializer_of (λ t. t)

abbrev pub statements_of : List AStatement → Trees.Statements ℕ
statements_of = TreeViews.statements_of

abbrev pub arms_of : List OneArm → Trees.Arms ℕ
arms_of = TreeViews.arms_of

abbrev pub statement_of : Statement ℕ → AStatement
statement_of = TreeViews.statement_of (λ t. t)

abbrev pub arm_of : Arm ℕ → OneArm
arm_of = TreeViews.arm_of (λ t. t)
