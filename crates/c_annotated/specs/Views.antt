-- What an annotated tree of the program stands for.
use Rattle.std.specs.Prelude.{List, Option, Some, None}
use Rattle.c_types.specs.Views.{type_of}
use Rattle.c_typed.specs.Trees
use Rattle.c_typed.specs.TreeViews as TreeViews
use Rattle.c_erasure.specs.Noted.{Note, nothing, size_of, Noted}
use Rattle.c_erasure.specs.Noted as Noted
use Rattle.c_annotated.specs.declared.expression.Noted as Program
use Rattle.c_annotated.specs.declared.expression.SizeOf.{SizeOf}
use Rattle.c_annotated.specs.declared.thing.Thing.{Thing}
use Rattle.c_annotated.specs.declared.thing.Thing.TheVariants as T
use Rattle.c_annotated.specs.Trees.{Expression, ExpressionNode, Path, PathNode, Statement, Arm, Initializer, InitializerPart, PartValue}

abbrev pub note_of : Option SizeOf → Note
note_of None = nothing
note_of (Some it) = size_of (type_of it.ty) it.at

abbrev pub noted_of : Program.Noted → Noted
noted_of t = record { ty = type_of t.ty; note = note_of t.note }

abbrev pub AStatement : Type 0
AStatement = Trees.Statement Noted

abbrev pub OneArm : Type 0
OneArm = TreeViews.OneArm Noted

-- ---- expressions and paths

abbrev pub expressions_of : List Noted.Expression → Trees.Expressions Noted
expressions_of = TreeViews.expressions_of

abbrev pub optional_of : Option Noted.Expression → Trees.OptionalExpression Noted
optional_of = TreeViews.optional_of

abbrev pub expression_of : Expression → Noted.Expression
expression_of = TreeViews.expression_of noted_of

abbrev pub node_of : ExpressionNode → Noted.Node
node_of = TreeViews.node_of noted_of

abbrev pub path_of : Path → Noted.Path
path_of = TreeViews.path_of noted_of

abbrev pub path_node_of : PathNode → Noted.PathNode
path_node_of = TreeViews.path_node_of noted_of

abbrev pub thing_of : Thing → Noted.Thing
thing_of (T.Object p) = Noted.an_object (path_of p)
thing_of (T.Value e) = Noted.a_value (expression_of e)
thing_of (T.Function at f t) = Noted.a_function at f (type_of t)
thing_of (T.FunctionAt e) = Noted.a_function_at (expression_of e)
thing_of (T.LibraryFunction at which) = Noted.a_library_function at which

-- ---- initializers and statements

abbrev pub part_value_of : PartValue → Trees.PartValue Noted
part_value_of = TreeViews.part_value_of noted_of

abbrev pub part_of : InitializerPart → Trees.Part Noted
part_of = TreeViews.part_of noted_of

abbrev pub initializer_of : Initializer → Trees.Initializer Noted
initializer_of = TreeViews.initializer_of noted_of

abbrev pub statements_of : List AStatement → Trees.Statements Noted
statements_of = TreeViews.statements_of

abbrev pub arms_of : List OneArm → Trees.Arms Noted
arms_of = TreeViews.arms_of

abbrev pub statement_or_both : Noted.Expression → AStatement → Option AStatement → AStatement
statement_or_both = TreeViews.statement_or_both

abbrev pub statement_of : Statement → AStatement
statement_of = TreeViews.statement_of noted_of

abbrev pub arm_of : Arm → OneArm
arm_of = TreeViews.arm_of noted_of
