use Rattle.std.proofs.Common.{◌≡◌, ◌++◌, [], drop, map}
use Rattle.c_link.specs.Clashes.{trouble_of}
use Rattle.c_link.specs.Names.{counts, linked_of, told_by}
use Rattle.c_link.specs.Repeats.{repeats}
use Rattle.c_link.proofs.names.name_troubles.Given as goal

abbrev pub invariant-loop-l : goal.invariant-loop-l
invariant-loop-l l = map trouble_of l.troubles
    ++ repeats (λ l. l.name) (counts l.asked) (told_by l.asked) l.names (map (λ it. linked_of it.now) l.firsts.items) (map linked_of (drop l.l-index l.all))
    ≡ repeats (λ l. l.name) (counts l.asked) (told_by l.asked) l.names [] (map linked_of l.all)
