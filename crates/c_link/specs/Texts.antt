-- How many bytes the strings have that initialize arrays of locals (C99 6.7.8): a compiled file holds them as data (own).
use Rattle.std.specs.Prelude.{ℕ, ◌+◌, List, [], ◌∷◌, length, Option, Some, None}
use Rattle.std.specs.Int.{next_multiple_of}
use Rattle.c_typed.specs.Programs.{FunctionData}
use Rattle.c_typed.specs.Trees as Trees

-- of a part, rounded up to a multiple of 4
abbrev pub text_bytes : {T : Type 0} → Trees.PartValue T → ℕ
text_bytes (Trees.value e) = 0
text_bytes (Trees.record_of p) = 0
text_bytes (Trees.text bytes) = next_multiple_of (length bytes) 4

abbrev pub texts_in_parts : {T : Type 0} → List (Trees.Part T) → ℕ
texts_in_parts [] = 0
texts_in_parts (part ∷ more) = text_bytes part.value + texts_in_parts more

abbrev pub texts_in_initial : {T : Type 0} → Option (Trees.Initializer T) → ℕ
texts_in_initial None = 0
texts_in_initial (Some (Trees.whole e)) = 0
texts_in_initial (Some (Trees.whole_record p)) = 0
texts_in_initial (Some (Trees.parts all)) = texts_in_parts all

-- of a statement
abbrev mutual
  pub texts_in : {T : Type 0} → Trees.Statement T → ℕ
  texts_in (Trees.evaluate e) = 0
  texts_in (Trees.block locals all) = texts_in_all all
  texts_in (Trees.declare n initial) = texts_in_initial initial
  texts_in (Trees.when e one) = texts_in one
  texts_in (Trees.when_else e one other) = texts_in one + texts_in other
  texts_in (Trees.while e body) = texts_in body
  texts_in (Trees.do_while body e) = texts_in body
  texts_in (Trees.for locals start test step body) = texts_in_all start + texts_in body
  texts_in (Trees.switch e locals arms) = texts_in_arms arms
  texts_in Trees.break = 0
  texts_in Trees.continue = 0
  texts_in (Trees.return e) = 0

  pub texts_in_all : {T : Type 0} → Trees.Statements T → ℕ
  texts_in_all Trees.no_statements = 0
  texts_in_all (Trees.and_statement s more) = texts_in s + texts_in_all more

  pub texts_in_arms : {T : Type 0} → Trees.Arms T → ℕ
  texts_in_arms Trees.no_arms = 0
  texts_in_arms (Trees.and_arm cases is_default all more) = texts_in_all all + texts_in_arms more

-- a function that is only declared has none
abbrev pub texts_in_body : {T : Type 0} → Option (Trees.Statement T) → ℕ
texts_in_body None = 0
texts_in_body (Some body) = texts_in body

abbrev pub texts_in_functions : List FunctionData → ℕ
texts_in_functions [] = 0
texts_in_functions (f ∷ more) = texts_in_body f.body + texts_in_functions more

-- ---- the sum of some lengths, each rounded up

abbrev pub rounded : List ℕ → ℕ
rounded [] = 0
rounded (n ∷ more) = next_multiple_of n 4 + rounded more
