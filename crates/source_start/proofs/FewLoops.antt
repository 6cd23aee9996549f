-- Each function has few loops where all have.
use Rattle.std.proofs.Common.{◌<◌, ◌-◌, ◌^◌, ℕ, zero, suc, List, [], ◌∷◌, map, arith}
use Rattle.std.specs.Prelude.{All, slice_get}
use Rattle.std.proofs.lemmas.List.Elements.{All-cons, All-head, All-nil, All-tail, All-weaker}
use Rattle.c_typed.specs.declared.program.Function.{Function}
use Rattle.c_typed.specs.declared.program.Typed.{Typed}
use Rattle.c_typed.specs.Programs.{data_of, program_data}
use Rattle.c_typed.specs.RunCounts.Loops.{loops_at, loops_of, loops_of_any}
use Rattle.source_start.specs.Fits.{StartsFit}

all_of_mapped : {X Y : Type 0} (P : Y → Type 0) (f : X → Y) (xs : List X) → All P (map f xs) → All (λ x. P (f x)) xs
all_of_mapped P f [] h = All-nil (λ x. P (f x))
all_of_mapped P f (x ∷ more) h =
    All-cons (λ x. P (f x)) x more (All-head P (f x) (map f more) h) (all_of_mapped P f more (All-tail P (f x) (map f more) h))

few : (fs : List Function) (number : ℕ) → All (λ f. loops_of (data_of f) < 2 ^ 32) fs → loops_of_any (slice_get (map data_of fs) number) < 2 ^ 32
few [] number all = omega arith
few (f ∷ fs) number all = go number (λ k. few fs k (All-tail (λ f. loops_of (data_of f) < 2 ^ 32) f fs all))
  where
    go : (k : ℕ) → ((k : ℕ) → loops_of_any (slice_get (map data_of fs) k) < 2 ^ 32) → loops_of_any (slice_get (map data_of (f ∷ fs)) k) < 2 ^ 32
    go zero later = All-head (λ f. loops_of (data_of f) < 2 ^ 32) f fs all
    go (suc k) later = later k

pub few_in_each : (p : Typed) → StartsFit (program_data p) → All (λ f. loops_of (data_of f) < 2 ^ 32) p.functions
few_in_each p starts =
    All-weaker (λ f. loops_of (data_of f) < 2 ^ 32 - 1) (λ f. loops_of (data_of f) < 2 ^ 32) (λ f small. omega (arith, small)) p.functions
    (all_of_mapped (λ f. loops_of f < 2 ^ 32 - 1) data_of p.functions starts.loops)

pub few_loops : (p : Typed) (number : ℕ) → StartsFit (program_data p) → loops_at (program_data p) number < 2 ^ 32
few_loops p number starts = few p.functions number (few_in_each p starts)
