-- The first difference of counts from a program.
use Rattle.std.specs.Prelude.{ℕ, ◌+◌, ◌==◌, ◌≡◌, if◌then◌else◌, List, [], ◌∷◌, map, length, Option, Some, None, Result, Ok, Err}
use Rattle.std.specs.List.{position_or_len}
use Rattle.std.specs.Option.{option_or}
use Rattle.std.specs.Str.{bytes_eq}
use Rattle.lay_base.specs.declared.faults.Stale.{Stale}
use Rattle.lay_base.specs.declared.faults.StaleKind.TheVariants.{Functions, Order, Loops}
use Rattle.c_typed.specs.declared.run_counts.counts.Counts.{Counts}
use Rattle.c_typed.specs.declared.run_counts.order.Defined.{Defined}
use Rattle.c_typed.specs.RunCounts.Counting.{name_at}
use Rattle.c_typed.specs.RunCounts.Loops.{loops_at}
use Rattle.c_typed.specs.RunCounts.Order.{defined_in, profile_order}
use Rattle.c_typed.specs.Programs.{ProgramData}

-- ---- what is compared

abbrev pub names_among : ProgramData → List Defined → List (List ℕ)
names_among p order = map (λ f. name_at p f.number) order

abbrev pub loops_among : ProgramData → List Defined → List ℕ
loops_among p order = map (λ f. loops_at p f.number) order

abbrev pub names_in : Counts → List (List ℕ)
names_in c = map (λ f. f.name) c.functions

abbrev pub loops_in_each : Counts → List ℕ
loops_in_each c = map (λ f. length f.loops) c.functions

-- ---- the differences: expected is the program's number, found the profile's

abbrev pub functions_differ : (program profile : ℕ) → Option Stale
functions_differ n m = if n == m then None else Some (record { kind = Functions; function = 0; expected = n; found = m })

-- the first place in the profile of the program's name, or the number of the profile's names
abbrev pub place_of : List (List ℕ) → List ℕ → ℕ
place_of profile name = position_or_len (bytes_eq name) profile

-- the first place where names differ, counted from k on
abbrev pub order_differs : (profile : List (List ℕ)) → (k : ℕ) → (of_program of_profile : List (List ℕ)) → Option Stale
order_differs profile k [] ys = None
order_differs profile k (x ∷ xs) [] = None
order_differs profile k (x ∷ xs) (y ∷ ys) =
    if bytes_eq x y then order_differs profile (k + 1) xs ys else Some (record { kind = Order; function = k; expected = k; found = place_of profile x })

-- the first function whose numbers of loops differ, counted from k on
abbrev pub loops_differ : (k : ℕ) → (of_program of_profile : List ℕ) → Option Stale
loops_differ k [] ms = None
loops_differ k (n ∷ ns) [] = None
loops_differ k (n ∷ ns) (m ∷ ms) = if n == m then loops_differ (k + 1) ns ms else Some (record { kind = Loops; function = k; expected = n; found = m })

abbrev pub order_stale : Counts → ProgramData → Option Stale
order_stale c p = order_differs (names_in c) 0 (names_among p (profile_order p)) (names_in c)

abbrev pub loops_stale : Counts → ProgramData → Option Stale
loops_stale c p = loops_differ 0 (loops_among p (profile_order p)) (loops_in_each c)

-- the first of the differences
abbrev pub stale : Counts → ProgramData → Option Stale
stale c p = option_or (functions_differ (length (defined_in p)) (length c.functions)) (option_or (order_stale c p) (loops_stale c p))

-- ---- what a test answers

abbrev pub unless_stale : Option Stale → Result (Unit {0}) Stale
unless_stale None = Ok tt
unless_stale (Some difference) = Err difference

abbrev pub Fits : Counts → ProgramData → Type 0
Fits c p = stale c p ≡ None
