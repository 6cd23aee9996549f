-- Typed expressions that a C text can have (C99 6.5), where each conversion may be written as a cast.
use Rattle.std.specs.Prelude.{◌≡◌, ◌≢◌, ℕ, ◌<◌, ◌^◌, Bool, true, false}
use Rattle.c_types.specs.declared.ty.IntKind.TheVariants.{Int, UInt, Long, ULong}
use Rattle.c_types.specs.Types.{CType, void, integer, pointer}
use Rattle.c_typed.specs.Trees as Trees
use Rattle.c_typed.specs.Trees.{Expression, expression, Node, Path, path, PathNode, Expressions, OptionalExpression, no_expression}
use Rattle.c_typed.specs.Constants.{ty}
use Rattle.c_typed.specs.Conversions.{is_integer}

-- the values of literals and enumerators (6.4.4): a negative one is an enumerator's, which is an int
abbrev pub IsConstant : CType → ℕ → Type 0
IsConstant (integer Int) v = Unit {0}
IsConstant (integer UInt) v = Unit {0}
IsConstant (integer Long) v = v < 2 ^ 31
IsConstant (integer ULong) v = Unit {0}
IsConstant t v = ⊥

-- `(void *)0`
abbrev pub is_void_null : Expression CType → Bool
is_void_null (expression (pointer void) at Trees.null) = true
is_void_null e = false

-- what is converted to a pointer is no null pointer constant: that gives a null pointer (6.3.2.3)
abbrev pub IsConversion : CType → Expression CType → Type 0
IsConversion (pointer t) e = (is_integer (ty e) ≡ false) × (is_void_null e ≡ false)
IsConversion t e = Unit {0}

-- `malloc` or `calloc`: the second is told how many (own)
abbrev pub IsAllocation : OptionalExpression CType → (zeroed : Bool) → Type 0
IsAllocation count true = count ≢ no_expression
IsAllocation count false = Unit {0}

abbrev mutual
  pub IsPrintable : Expression CType → Type 0
  IsPrintable (expression t at node) = IsPrintableNode t node

  pub IsPrintableNode : CType → Node CType → Type 0
  IsPrintableNode t (Trees.constant v) = IsConstant t v
  IsPrintableNode t Trees.null = Unit {0}
  IsPrintableNode t (Trees.function_name f) = Unit {0}
  IsPrintableNode t (Trees.load p) = IsPrintablePath p
  IsPrintableNode t (Trees.address_of p) = IsPrintablePath p
  IsPrintableNode t (Trees.decay p) = IsPrintablePath p
  IsPrintableNode t (Trees.convert e written) = IsConversion t e × IsPrintable e
  IsPrintableNode t (Trees.unary op x) = IsPrintable x
  IsPrintableNode t (Trees.binary op x y) = IsPrintable x × IsPrintable y
  IsPrintableNode t (Trees.compare op x y) = IsPrintable x × IsPrintable y
  IsPrintableNode t (Trees.pointer_add op x y) = IsPrintable x × IsPrintable y
  IsPrintableNode t (Trees.pointer_difference x y) = IsPrintable x × IsPrintable y
  IsPrintableNode t (Trees.both x y) = IsPrintable x × IsPrintable y
  IsPrintableNode t (Trees.either x y) = IsPrintable x × IsPrintable y
  IsPrintableNode t (Trees.not x) = IsPrintable x
  IsPrintableNode t (Trees.choose x y z) = IsPrintable x × IsPrintable y × IsPrintable z
  IsPrintableNode t (Trees.comma x y) = IsPrintable x × IsPrintable y
  IsPrintableNode t (Trees.assign p x) = IsPrintablePath p × IsPrintable x
  IsPrintableNode t (Trees.assign_op op p x) = IsPrintablePath p × IsPrintable x
  IsPrintableNode t (Trees.step op before p) = IsPrintablePath p
  IsPrintableNode t (Trees.copy_record to from) = IsPrintablePath to × IsPrintablePath from
  IsPrintableNode t (Trees.call f all) = ArePrintable all
  IsPrintableNode t (Trees.call_through e all) = IsPrintable e × ArePrintable all
  IsPrintableNode t (Trees.library which all) = ArePrintable all
  IsPrintableNode t (Trees.allocate r count zeroed) = IsAllocation count zeroed × IsPrintableCount count

  pub IsPrintablePath : Path CType → Type 0
  IsPrintablePath (path t at step) = IsPrintableStep step

  pub IsPrintableStep : PathNode CType → Type 0
  IsPrintableStep (Trees.local n) = Unit {0}
  IsPrintableStep (Trees.object n) = Unit {0}
  IsPrintableStep (Trees.deref e) = IsPrintable e
  IsPrintableStep (Trees.index e i) = IsPrintable e × IsPrintable i
  IsPrintableStep (Trees.member p r field) = IsPrintablePath p
  IsPrintableStep (Trees.element p i) = IsPrintablePath p × IsPrintable i

  pub ArePrintable : Expressions CType → Type 0
  ArePrintable Trees.no_expressions = Unit {0}
  ArePrintable (Trees.and_expression e more) = IsPrintable e × ArePrintable more

  pub IsPrintableCount : OptionalExpression CType → Type 0
  IsPrintableCount Trees.no_expression = Unit {0}
  IsPrintableCount (Trees.some_expression e) = IsPrintable e
