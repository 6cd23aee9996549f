-- The names that stand in the texts of refusals, but for those of keywords.
use Rattle.std.specs.Prelude.{ℕ, List, codes}
use Rattle.lay_base.specs.declared.faults.Rule.{Rule}
use Rattle.lay_base.specs.declared.faults.Rule.TheVariants as R
use Rattle.lay_base.specs.declared.faults.LimitKind.{LimitKind}
use Rattle.lay_base.specs.declared.faults.LimitKind.TheVariants as L
use Rattle.lay_base.specs.declared.faults.RoomKind.{RoomKind}
use Rattle.lay_base.specs.declared.faults.RoomKind.TheVariants as O
use Rattle.lay_base.specs.declared.faults.UndefinedKind.{UndefinedKind}
use Rattle.lay_base.specs.declared.faults.UndefinedKind.TheVariants as U
use Rattle.lay_base.specs.declared.faults.TrapKind.{TrapKind}
use Rattle.lay_base.specs.declared.faults.TrapKind.TheVariants as T
use Rattle.lay_base.specs.declared.faults.ElfField.{ElfField}
use Rattle.lay_base.specs.declared.faults.ElfField.TheVariants as E

-- the name of a typing rule
abbrev pub rule_name : Rule → List ℕ
rule_name R.Specifiers = codes "Specifiers"
rule_name R.Constant = codes "Constant"
rule_name R.Length = codes "Length"
rule_name R.Incomplete = codes "Incomplete"
rule_name R.ByValue = codes "ByValue"
rule_name R.Operands = codes "Operands"
rule_name R.Lvalue = codes "Lvalue"
rule_name R.Assign = codes "Assign"
rule_name R.Arguments = codes "Arguments"
rule_name R.Callee = codes "Callee"
rule_name R.Return = codes "Return"
rule_name R.Condition = codes "Condition"
rule_name R.Member = codes "Member"
rule_name R.Cast = codes "Cast"
rule_name R.Label = codes "Label"
rule_name R.Jump = codes "Jump"
rule_name R.Init = codes "Init"
rule_name R.Library = codes "Library"
rule_name R.Main = codes "Main"
rule_name R.Scope = codes "Scope"

-- the name of a limit
abbrev pub limit_name : LimitKind → List ℕ
limit_name L.Files = codes "Files"
limit_name L.Nodes = codes "Nodes"
limit_name L.Fields = codes "Fields"
limit_name L.Frame = codes "Frame"
limit_name L.Globals = codes "Globals"
limit_name L.PrintNodes = codes "PrintNodes"
limit_name L.PrintDepth = codes "PrintDepth"
limit_name L.PrintText = codes "PrintText"

-- the name of what the interpreter ran out of
abbrev pub room_name : RoomKind → List ℕ
room_name O.Live = codes "Live"
room_name O.Depth = codes "Depth"

-- the name of a kind of undefined step
abbrev pub undefined_name : UndefinedKind → List ℕ
undefined_name U.Division = codes "Division"
undefined_name U.Shift = codes "Shift"
undefined_name U.Null = codes "Null"
undefined_name U.Dead = codes "Dead"
undefined_name U.Outside = codes "Outside"
undefined_name U.Align = codes "Align"
undefined_name U.ReadOnly = codes "ReadOnly"
undefined_name U.Empty = codes "Empty"
undefined_name U.Pointer = codes "Pointer"
undefined_name U.Subscript = codes "Subscript"
undefined_name U.Range = codes "Range"
undefined_name U.TwoBlocks = codes "TwoBlocks"
undefined_name U.Edge = codes "Edge"
undefined_name U.Call = codes "Call"
undefined_name U.NoValue = codes "NoValue"
undefined_name U.Free = codes "Free"
undefined_name U.Overlap = codes "Overlap"
undefined_name U.Huge = codes "Huge"

-- the name of a trap
abbrev pub trap_name : TrapKind → List ℕ
trap_name T.Unmapped = codes "Unmapped"
trap_name T.Illegal = codes "Illegal"
trap_name T.Jump = codes "Jump"
trap_name T.Misaligned = codes "Misaligned"
trap_name T.Call = codes "Call"

-- the name of a field of an ELF file
abbrev pub field_name : ElfField → List ℕ
field_name E.Length = codes "Length"
field_name E.Magic = codes "Magic"
field_name E.Class = codes "Class"
field_name E.Data = codes "Data"
field_name E.Ident = codes "Ident"
field_name E.Kind = codes "Kind"
field_name E.Machine = codes "Machine"
field_name E.Version = codes "Version"
field_name E.HeaderSize = codes "HeaderSize"
field_name E.Headers = codes "Headers"
field_name E.Loads = codes "Loads"
field_name E.FileRange = codes "FileRange"
field_name E.Sizes = codes "Sizes"
field_name E.Address = codes "Address"
field_name E.Overlap = codes "Overlap"
field_name E.Total = codes "Total"
field_name E.Entry = codes "Entry"
