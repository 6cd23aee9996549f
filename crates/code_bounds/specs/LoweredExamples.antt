-- Jumps, prices and temporaries of lowered code, by computation.
use Rattle.std.specs.Prelude.{◌≡◌, ℕ, ◌+◌, ◌*◌, List, [], ◌∷◌, None, refl, map}
use Rattle.c_typed.specs.declared.operators.BinaryOp.TheVariants as B
use Rattle.c_typed.specs.Programs.{ProgramData}
use Rattle.c_typed.specs.Trees as T
use Rattle.c_meaning.specs.ExampleParts.{int, of_nothing, of_int, number, get, binary, call, gives, named, in_memory}
use Rattle.c_meaning.specs.ExampleParts.{a_function, program, main, all}
use Rattle.c_well_typed.specs.ProgramWeights.Counted.{Kind}
use Rattle.c_well_typed.specs.ProgramWeights.Weights.{weight_of_function}
use Rattle.lower_tac.specs.Statements.{lowered}
use Rattle.code_bounds.specs.Prices.{in_bytes, in_steps, paid, price_of_routine}
use Rattle.tac_ir.specs.Temporaries.{top_of_all}

abbrev bytes : ProgramData → List ℕ
bytes p = map (price_of_routine in_bytes) (lowered p).routines

abbrev weights : (Kind → ℕ) → ProgramData → List ℕ
weights n p = map (weight_of_function n) p.functions

abbrev tops : ProgramData → List ℕ
tops p = map (λ r. top_of_all r.code) (lowered p).routines

-- ---- a call: int f(int n) { return n + 1; } int main(void) { return f(2) * 3; }

abbrev calling : ProgramData
calling = program [] (a_function of_nothing [] [] (gives (binary B.Multiply (call 1 (number 2 ∷ [])) (number 3)))
    ∷ a_function of_int (named int ∷ []) [] (gives (binary B.Add (get int 0) (number 1))) ∷ [])

-- five steps, and three with a parameter; each function is a step more
calling_bytes : bytes calling ≡ (6 * 44) ∷ (4 * 44 + 24) ∷ []
calling_bytes = refl

-- the arguments stand behind the locals, and so does the sum
calling_tops : tops calling ≡ 1 ∷ 2 ∷ []
calling_tops = refl

-- ---- a loop with a block: for (int i; ; ) { } with i in memory

abbrev looping : ProgramData
looping = main (in_memory int ∷ []) [] (T.for (0 ∷ []) (all (T.declare 0 None ∷ [])) None None (T.block [] (all [])) ∷ [])

-- the block begins, so does the body, two jumps, the declaration, four ends of the block with a jump each, the last return, and one for the function
looping_steps : map (price_of_routine in_steps) (lowered looping).routines ≡ (1 + 1 + 2 + 1 + 8 + 1 + 1) ∷ []
looping_steps = refl

-- the loop, its declaration and its local pay for just what the loop has; the function and two blocks pay for more than they have
looping_pays : weights (paid in_steps) looping ≡ (4 * 4 + 5 + 6) ∷ []
looping_pays = refl
