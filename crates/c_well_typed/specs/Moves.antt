-- Moves: other numbers for types, records, objects and functions, under which each of them keeps what it is.
use Rattle.std.specs.Prelude.{◌≡◌, ℕ, ◌<◌, Bool, ◌++◌, map, length, All, Some, slice_get}
use Rattle.c_types.specs.Limits.{AreComplete}
use Rattle.c_types.specs.Types.{CType, Record, field_types}
use Rattle.c_typed.specs.declared.program.Object.{Object}
use Rattle.c_typed.specs.Mapped.{Renaming, of_types, mapped_statement}
use Rattle.c_typed.specs.Programs.{FunctionData}
use Rattle.c_typed.specs.Trees as Trees
use Rattle.c_typed.specs.TypedStatements.{IsTypedStatement}
use Rattle.c_typed.specs.Walk.{types_in_statement}
use Rattle.c_numbers.specs.TypeNumbers.Renumbered.{renumbered}
use Rattle.c_numbers.specs.NewNumbers.Parts.{function_in, object_in}
use Rattle.c_well_typed.specs.WellTyped.{Lists, ty, declared_in, HasObjectType, IsTypedFunction}

-- a type, with the numbers that its records have afterwards
abbrev pub moved_type : Renaming ℕ ℕ → CType → CType
moved_type move t = renumbered move.structure t

-- from one set of lists to another: what stands under a number there stands under its new number here, with the same type. A complete record
-- stays one, whose members have the same types in the same order
pub record IsMove (move : Renaming ℕ ℕ) (from to : Lists) : Type 0 where
  pub types : (i : ℕ) → i < length from.types → (move.ty i < length to.types) × (ty to (move.ty i) ≡ moved_type move (ty from i))
  pub records : (r : ℕ) (rec : Record) → slice_get from.records r ≡ Some rec → (other : Record) × (slice_get to.records (move.structure r) ≡ Some other)
      × (field_types other ≡ map (moved_type move) (field_types rec))
  pub objects : (n : ℕ) (o : Object) → slice_get from.objects n ≡ Some o → (other : Object) × (slice_get to.objects (move.object n) ≡ Some other)
      × (ty to other.ty ≡ moved_type move (ty from o.ty))
  pub functions : (n : ℕ) (g : FunctionData) → slice_get from.functions n ≡ Some g → (other : FunctionData)
      × (slice_get to.functions (move.function n) ≡ Some other) × (ty to other.ty ≡ moved_type move (ty from g.ty))

-- a statement over the types for which its numbers stand
abbrev pub over : Lists → Trees.Statement ℕ → Trees.Statement CType
over l s = mapped_statement (of_types (ty l)) s

-- what is well typed over one set of lists is so, moved, over the other: each statement of a function, the function, and an object's type
pub record KeepsTyping (move : Renaming ℕ ℕ) (from to : Lists) : Type 0 where
  pub statement : (g : FunctionData) (result : CType) (loop switch : Bool) (s : Trees.Statement ℕ)
      → All (λ x. x.ty < length from.types) (g.parameters ++ g.locals) → All (λ i. i < length from.types) (types_in_statement s)
      → IsTypedStatement (declared_in from g) result loop switch (over from s)
      → IsTypedStatement (declared_in to (function_in move g)) (moved_type move result) loop switch (over to (mapped_statement move s))
  pub function : (g : FunctionData) → IsTypedFunction from g → IsTypedFunction to (function_in move g)
  pub object : (o : Object) → HasObjectType from o → HasObjectType to (object_in move o)

abbrev pub MovesKeepTyping : Type 0
MovesKeepTyping = (move : Renaming ℕ ℕ) (from to : Lists) → AreComplete from.records → AreComplete to.records → IsMove move from to
    → KeepsTyping move from to
