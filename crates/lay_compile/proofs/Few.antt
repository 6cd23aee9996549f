-- Functions and loops that are few by the data of a program.
use Rattle.std.proofs.Common.{ℕ, ◌<◌, ◌≤◌, ◌^◌, List, length, map, arith}
use Rattle.std.specs.Prelude.{All}
use Rattle.std.proofs.lemmas.List.{length-map}
use Rattle.std.proofs.lemmas.List.Elements.{All-weaker}
use Rattle.c_link.proofs.Counted.{all_of_mapped}
use Rattle.c_typed.specs.declared.program.Function.{Function}
use Rattle.c_typed.specs.Programs.{data_of}
use Rattle.c_typed.specs.RunCounts.Loops.{loops_of}

pub few_functions : (fs : List Function) → length (map data_of fs) ≤ 131072 → length fs < 2 ^ 32
few_functions fs h = let same = length-map fs data_of in omega (arith, same, h)

pub few_loops : (fs : List Function) → All (λ f. loops_of f ≤ 131072) (map data_of fs) → All (λ f. loops_of (data_of f) < 2 ^ 32) fs
few_loops fs h =
    All-weaker (λ f. loops_of (data_of f) ≤ 131072) (λ f. loops_of (data_of f) < 2 ^ 32) (λ f few. omega (arith, few)) fs
    (all_of_mapped (λ f. loops_of f ≤ 131072) data_of fs h)
