-- The words of steps that take the most of them, by computation: temporaries far from the stack pointer, and numbers of 32 bits.
use Rattle.std.specs.Prelude.{◌≡◌, ◌*◌, ◌+◌, true, false, [], ◌∷◌, refl}
use Rattle.lay_base.specs.declared.faults.UndefinedKind.TheVariants as K
use Rattle.lay_base.specs.declared.place.Place.{Place}
use Rattle.block_memory.specs.declared.kinds.Access.TheVariants.{Number}
use Rattle.c_types.specs.declared.ty.IntKind.TheVariants.{Int}
use Rattle.c_typed.specs.declared.operators.LibraryFunction.TheVariants as L
use Rattle.c_typed.specs.declared.operators.PointerOp.TheVariants as P
use Rattle.tac_ir.specs.Code.{RoutineData}
use Rattle.tac_ir.specs.declared.step.Operand.{Operand}
use Rattle.tac_ir.specs.declared.step.Operand.TheVariants as O
use Rattle.tac_ir.specs.declared.step.Step.TheVariants as S
use Rattle.code_bounds.specs.Prices.{in_bytes}
use Rattle.rv_code.specs.Programs.{words_of, words_of_function}

abbrev at : Place
at = record { file = 0; at = 0 }

abbrev far : Operand
far = O.Temp K.NoValue 1000 at

-- a function with one parameter that lies far behind the stack pointer, since its block does
abbrev routine : RoutineData
routine = record {
  ty = 0;
  locals = true ∷ [];
  parameters = record { block = true; size = 4; access = Number Int } ∷ [];
  code = S.Set 1000 far ∷ [];
  labels = [];
  texts = [];
}

-- 16 words, as many as a wide step pays for
field_of_element : 4 * words_of routine (S.ElementField 1000 at 100000 Int 100000 far far) ≡ in_bytes.wide
field_of_element = refl

element : words_of routine (S.Element 1000 at 10 100000 true Int far far) ≡ 13
element = refl

move : words_of routine (S.Move 1000 at P.Add 100000 true Int far far) ≡ 13
move = refl

copying : words_of routine (S.Library 1000 at L.Memcpy (record { first = 1000; count = 3 })) ≡ 14
copying = refl

-- 11 words, as many as any other step pays for
allocation : 4 * words_of routine (S.Allocate 1000 at 0 100000 false far) ≡ in_bytes.step
allocation = refl

-- a parameter takes a word from the row of arguments, and is kept in its block in three; eight words stand before it, and six are those of the step
entered : words_of_function routine ≡ 8 + 1 + 3 + 6
entered = refl
