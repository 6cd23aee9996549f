use Rattle.std.proofs.Common.{◌≡◌, ◌+◌, drop}
use Rattle.std.specs.Prelude.{map}
use Rattle.c_typed.specs.RunCounts.Stale.{place_of}
use Rattle.profile_file.proofs.fitting.place_of.Given as goal

abbrev pub invariant-loop-f : goal.invariant-loop-f
invariant-loop-f l = record {
  at : l.place ≡ l.f-index;
  left : l.place + place_of (map (λ f. f.name) (drop l.f-index l.functions)) l.name ≡ place_of (map (λ f. f.name) l.fn.functions) l.fn.name;
}
