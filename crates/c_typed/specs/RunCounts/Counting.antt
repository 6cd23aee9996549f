-- The counts of a program: how often each function that it defines was entered, and how often the body of each of its loops began.
use Rattle.std.specs.Prelude.{ℕ, zero, suc, List, [], ◌∷◌, ◌++◌, map, Option, Some, None, slice_get}
use Rattle.c_typed.specs.declared.run_counts.counts.Counts.{Counts}
use Rattle.c_typed.specs.declared.run_counts.counts.FunCount.{FunCount}
use Rattle.c_typed.specs.RunCounts.Loops.{loops_at}
use Rattle.c_typed.specs.RunCounts.Order.{profile_order}
use Rattle.c_typed.specs.Programs.{FunctionData, ProgramData}

abbrev pub name_of_any : Option FunctionData → List ℕ
name_of_any None = []
name_of_any (Some f) = f.name

-- of the function of that number
abbrev pub name_at : ProgramData → ℕ → List ℕ
name_at p number = name_of_any (slice_get p.functions number)

abbrev pub numbers_below : ℕ → List ℕ
numbers_below zero = []
numbers_below (suc n) = numbers_below n ++ n ∷ []

-- where `entries` says how often a function was entered, by its number, and `begins` how often the body of one of its loops began
module _ (entries : (function : ℕ) → ℕ) (begins : (function loop : ℕ) → ℕ) where
  abbrev pub count_at : ProgramData → ℕ → FunCount
  count_at p number = record {
    name = name_at p number;
    entries = entries number;
    loops = map (begins number) (numbers_below (loops_at p number));
  }

  abbrev pub counts_by : ProgramData → Counts
  counts_by p = record { functions = map (λ f. count_at p f.number) (profile_order p) }
