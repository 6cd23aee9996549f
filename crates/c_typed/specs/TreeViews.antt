-- What a typed tree of the program stands for, whatever stands for a type at its nodes: `view` says what that is.
use Rattle.std.specs.Prelude.{ℕ, Bool, List, [], ◌∷◌, map, Option, Some, None}
use Rattle.std.specs.Option.{option_map}
use Rattle.c_typed.specs.declared.expression.Expression.{Expression, fold-Expression}
use Rattle.c_typed.specs.declared.expression.ExpressionNode.{ExpressionNode, fold-ExpressionNode}
use Rattle.c_typed.specs.declared.expression.ExpressionNode.TheOpen as E
use Rattle.c_typed.specs.declared.expression.Path.{Path, fold-Path}
use Rattle.c_typed.specs.declared.expression.PathNode.{PathNode, fold-PathNode}
use Rattle.c_typed.specs.declared.statement.Arm.{Arm, fold-Arm}
use Rattle.c_typed.specs.declared.statement.Initializer.{Initializer}
use Rattle.c_typed.specs.declared.statement.Initializer.TheVariants as I
use Rattle.c_typed.specs.declared.statement.InitializerPart.{InitializerPart}
use Rattle.c_typed.specs.declared.statement.PartValue.{PartValue}
use Rattle.c_typed.specs.declared.statement.PartValue.TheVariants as V
use Rattle.c_typed.specs.declared.statement.Statement.{Statement, fold-Statement}
use Rattle.c_typed.specs.declared.statement.Statement.TheOpen as O
use Rattle.c_typed.specs.Trees

-- ---- expressions and paths

abbrev pub expressions_of : {S : Type 0} → List (Trees.Expression S) → Trees.Expressions S
expressions_of [] = Trees.no_expressions
expressions_of (e ∷ more) = Trees.and_expression e (expressions_of more)

abbrev pub optional_of : {S : Type 0} → Option (Trees.Expression S) → Trees.OptionalExpression S
optional_of None = Trees.no_expression
optional_of (Some e) = Trees.some_expression e

-- what each sort of node stands for, enums before structs, each by name
abbrev pub OfExpressions : (T S : Type 0) → (Type 0 → Type 0 → Type 0 → Type 0 → Type 0 → Type 0) → Type 0
OfExpressions T S Node = Node T (Trees.Node S) (Trees.PathNode S) (Trees.Expression S) (Trees.Path S)

abbrev pub node_layer : {T S : Type 0} → OfExpressions T S E.ExpressionNode-F → Trees.Node S
node_layer (E.Constant v) = Trees.constant v
node_layer E.Null = Trees.null
node_layer (E.FunctionName f) = Trees.function_name f
node_layer (E.Load p) = Trees.load p
node_layer (E.AddressOf p) = Trees.address_of p
node_layer (E.Decay p) = Trees.decay p
node_layer (E.Convert e written) = Trees.convert e written
node_layer (E.Unary op x) = Trees.unary op x
node_layer (E.Binary op x y) = Trees.binary op x y
node_layer (E.Compare op x y) = Trees.compare op x y
node_layer (E.PointerAdd op x y) = Trees.pointer_add op x y
node_layer (E.PointerDiff x y) = Trees.pointer_difference x y
node_layer (E.And x y) = Trees.both x y
node_layer (E.Or x y) = Trees.either x y
node_layer (E.Not x) = Trees.not x
node_layer (E.Cond x y z) = Trees.choose x y z
node_layer (E.Comma x y) = Trees.comma x y
node_layer (E.Assign p x) = Trees.assign p x
node_layer (E.AssignOp op p x) = Trees.assign_op op p x
node_layer (E.Step op before p) = Trees.step op before p
node_layer (E.CopyRecord to from) = Trees.copy_record to from
node_layer (E.Call f all) = Trees.call f (expressions_of all)
node_layer (E.CallThrough e all) = Trees.call_through e (expressions_of all)
node_layer (E.Library which all) = Trees.library which (expressions_of all)
node_layer (E.Allocate r count zeroed) = Trees.allocate r (optional_of count) zeroed

abbrev pub path_node_layer : {T S : Type 0} → OfExpressions T S E.PathNode-F → Trees.PathNode S
path_node_layer (E.Named n) = Trees.local n
path_node_layer (E.Object n) = Trees.object n
path_node_layer (E.Deref e) = Trees.deref e
path_node_layer (E.Index e i) = Trees.index e i
path_node_layer (E.Member p r field) = Trees.member p r field
path_node_layer (E.Element p i) = Trees.element p i

-- ---- statements

abbrev pub statements_of : {S : Type 0} → List (Trees.Statement S) → Trees.Statements S
statements_of [] = Trees.no_statements
statements_of (s ∷ more) = Trees.and_statement s (statements_of more)

-- the labels of an arm, and its statements
abbrev pub OneArm : Type 0 → Type 0
OneArm S = List ℕ × Bool × Trees.Statements S

abbrev pub arms_of : {S : Type 0} → List (OneArm S) → Trees.Arms S
arms_of [] = Trees.no_arms
arms_of (arm ∷ more) = Trees.and_arm arm.0 arm.1 arm.2 (arms_of more)

abbrev pub statement_or_both : {S : Type 0} → Trees.Expression S → Trees.Statement S → Option (Trees.Statement S) → Trees.Statement S
statement_or_both e one None = Trees.when e one
statement_or_both e one (Some other) = Trees.when_else e one other

-- what each sort of node stands for, enums before structs
abbrev pub OfStatements : (T S : Type 0) → (Type 0 → Type 0 → Type 0 → Type 0) → Type 0
OfStatements T S Node = Node T (Trees.Statement S) (OneArm S)

abbrev pub arm_layer : {T S : Type 0} → OfStatements T S O.Arm-F → OneArm S
arm_layer arm = (arm.cases, arm.is_default, statements_of arm.statements)

-- ---- whole trees

module _ {T S : Type 0} (view : T → S) where
  abbrev pub expression_layer : OfExpressions T S E.Expression-F → Trees.Expression S
  expression_layer e = Trees.expression (view e.ty) e.place e.node

  abbrev pub path_layer : OfExpressions T S E.Path-F → Trees.Path S
  path_layer p = Trees.path (view p.ty) p.place p.node

  abbrev pub expression_of : Expression T → Trees.Expression S
  expression_of =
      fold-Expression T (Trees.Node S) (Trees.PathNode S) (Trees.Expression S) (Trees.Path S) node_layer path_node_layer expression_layer path_layer

  abbrev pub node_of : ExpressionNode T → Trees.Node S
  node_of =
      fold-ExpressionNode T (Trees.Node S) (Trees.PathNode S) (Trees.Expression S) (Trees.Path S) node_layer path_node_layer expression_layer path_layer

  abbrev pub path_of : Path T → Trees.Path S
  path_of =
      fold-Path T (Trees.Node S) (Trees.PathNode S) (Trees.Expression S) (Trees.Path S) node_layer path_node_layer expression_layer path_layer

  abbrev pub path_node_of : PathNode T → Trees.PathNode S
  path_node_of =
      fold-PathNode T (Trees.Node S) (Trees.PathNode S) (Trees.Expression S) (Trees.Path S) node_layer path_node_layer expression_layer path_layer

  abbrev pub part_value_of : PartValue T → Trees.PartValue S
  part_value_of (V.Value e) = Trees.value (expression_of e)
  part_value_of (V.Record p) = Trees.record_of (path_of p)
  part_value_of (V.Text bytes) = Trees.text bytes

  abbrev pub part_of : InitializerPart T → Trees.Part S
  part_of part = record { offset = part.offset; value = part_value_of part.value }

  abbrev pub initializer_of : Initializer T → Trees.Initializer S
  initializer_of (I.Value e) = Trees.whole (expression_of e)
  initializer_of (I.Record p) = Trees.whole_record (path_of p)
  initializer_of (I.Parts all) = Trees.parts (map part_of all)

  abbrev pub statement_layer : OfStatements T S O.Statement-F → Trees.Statement S
  statement_layer (O.Do e) = Trees.evaluate (expression_of e)
  statement_layer (O.Block locals all) = Trees.block locals (statements_of all)
  statement_layer (O.Declare n initial) = Trees.declare n (option_map initializer_of initial)
  statement_layer (O.If e one other) = statement_or_both (expression_of e) one other
  statement_layer (O.While e body) = Trees.while (expression_of e) body
  statement_layer (O.DoWhile body e) = Trees.do_while body (expression_of e)
  statement_layer (O.For locals start test step body) =
      Trees.for locals (statements_of start) (option_map expression_of test) (option_map expression_of step) body
  statement_layer (O.Switch e locals arms) = Trees.switch (expression_of e) locals (arms_of arms)
  statement_layer O.Break = Trees.break
  statement_layer O.Continue = Trees.continue
  statement_layer (O.Return e) = Trees.return (option_map expression_of e)

  abbrev pub statement_of : Statement T → Trees.Statement S
  statement_of = fold-Statement T (Trees.Statement S) (OneArm S) statement_layer arm_layer

  abbrev pub arm_of : Arm T → OneArm S
  arm_of = fold-Arm T (Trees.Statement S) (OneArm S) statement_layer arm_layer
