-- The bounds on nodes: what a unit weighs against the tree of its file, and a program against its units.
use Rattle.std.specs.Prelude.{◌≡◌, ℕ, ◌*◌, ◌≤◌, List, All, Some, slice_get}
use Rattle.lay_base.specs.declared.place.File.{File}
use Rattle.c_ast.specs.Trees as Syntax
use Rattle.c_ast.specs.Sizes.{size_items}
use Rattle.c_ast.specs.TreesOfFiles.{IsTreeOf}
use Rattle.c_typed.specs.Programs.{FunctionData, UnitData, ProgramData}
use Rattle.c_erasure.specs.Erasing.{ErasesTo}
use Rattle.c_link.specs.Joining.{joined}
use Rattle.c_link.specs.Programs.{IsProgramOf}
use Rattle.c_well_typed.specs.ProgramWeights.Counted.{Kind}
use Rattle.c_well_typed.specs.ProgramWeights.Weights.{code_weight_of_unit, code_weight_of_units, code_weight_of_program, frame_weight, weight_of_function}

-- at most 512 bytes of code for each node of the tree, and in each function at most 64 bytes of the frame for each node of its item
pub record IsBounded (items : List Syntax.Item) (u : UnitData) : Type 0 where
  pub code : code_weight_of_unit u ≤ 512 * (size_items items).nodes
  pub frames : All (λ g. frame_weight g ≤ 64 * g.nodes) u.functions

-- of the unit of the tree of a file
abbrev pub UnitsAreBounded : Type 0
UnitsAreBounded = (file : ℕ) (name bytes : List ℕ) (items : List Syntax.Item) (u : UnitData) → IsTreeOf bytes items → ErasesTo file name bytes items u
    → IsBounded items u

-- a function of a program is one of a unit: it keeps its name, its place and the nodes of its item, and weighs as much by any numbers
pub record IsOfUnit (units : List UnitData) (g : FunctionData) : Type 0 where
  pub number : ℕ
  pub unit : UnitData
  pub is_unit : slice_get units number ≡ Some unit
  pub function : ℕ
  pub own : FunctionData
  pub is_own : slice_get unit.functions function ≡ Some own
  pub name : g.name ≡ own.name
  pub place : g.place ≡ own.place
  pub nodes : g.nodes ≡ own.nodes
  pub weight : (n : Kind → ℕ) → weight_of_function n g ≡ weight_of_function n own

-- joining units adds no weight, in bytes of code as a whole and in bytes of the frame for each function
pub record JoiningAddsNothing (units : List UnitData) : Type 0 where
  pub code : code_weight_of_program (joined units) ≤ code_weight_of_units units
  pub functions : All (IsOfUnit units) (joined units).functions

-- a program within these bounds, by the numbers of nodes that it holds
pub record IsProgramBounded (p : ProgramData) : Type 0 where
  pub code : code_weight_of_program p ≤ 512 * p.nodes
  pub frames : All (λ g. frame_weight g ≤ 64 * g.nodes) p.functions

-- units of trees within the bounds make a program within them
abbrev pub JoinedAreBounded : Type 0
JoinedAreBounded = (units : List UnitData)
    → ((k : ℕ) (u : UnitData) → slice_get units k ≡ Some u → (items : List Syntax.Item) × IsBounded items u × (u.nodes ≡ (size_items items).nodes))
    → IsProgramBounded (joined units)

-- the program of some files is within the bounds, by the number of nodes of their trees
abbrev pub ProgramsAreBounded : Type 0
ProgramsAreBounded = (files : List File) (p : ProgramData) → IsProgramOf files p → IsProgramBounded p
