use Rattle.std.proofs.Common.{◌≡◌, drop, fold, map}
use Rattle.c_link.specs.Missing.{lesser_at}
use Rattle.c_link.proofs.structures.least_in_held.Given as goal

abbrev pub invariant-loop-number : goal.invariant-loop-number
invariant-loop-number l = fold (lesser_at l.leasts) l.best (map (λ n. n.now) (drop l.number-index l.numbers))
    ≡ fold (lesser_at l.leasts) l.initial.best (map (λ n. n.now) l.numbers)
