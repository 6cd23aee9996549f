-- What the functions of a program say of types and fields, in the order of profiles.
use Rattle.std.specs.Prelude.{ℕ, List, [], ◌∷◌, flat_map, Option, Some, None, slice_get}
use Rattle.c_typed.specs.declared.run_counts.order.Defined.{Defined}
use Rattle.c_typed.specs.Programs.{FunctionData, ProgramData}
use Rattle.c_typed.specs.RunCounts.Order.{profile_order}
use Rattle.c_typed.specs.Trees.{Statement}
use Rattle.c_facts.specs.declared.fact.Fact.{Fact}
use Rattle.c_facts.specs.declared.fact.Fact.TheVariants.{FunctionBegins}
use Rattle.c_facts.specs.Facts.{facts_by_statement}

-- of a body, if there is one
abbrev pub facts_by_body : Option (Statement ℕ) → List Fact
facts_by_body None = []
facts_by_body (Some body) = facts_by_statement body

abbrev pub facts_by_function : FunctionData → List Fact
facts_by_function f = facts_by_body f.body

abbrev pub facts_of_any : Option FunctionData → List Fact
facts_of_any None = []
facts_of_any (Some f) = facts_by_function f

-- of the function of that number
abbrev pub facts_at : ProgramData → ℕ → List Fact
facts_at p number = facts_of_any (slice_get p.functions number)

abbrev pub facts_in : ProgramData → List Defined → List Fact
facts_in p order = flat_map (λ f. FunctionBegins ∷ facts_at p f.number) order

abbrev pub facts_of : ProgramData → List Fact
facts_of p = facts_in p (profile_order p)
