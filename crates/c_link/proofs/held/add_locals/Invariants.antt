use Rattle.std.proofs.Common.{◌≡◌, ◌++◌, drop, map}
use Rattle.c_walks.specs.NodeTypes.{references_in, types_found}
use Rattle.c_link.proofs.held.add_locals.Given as goal

abbrev pub invariant-loop-l : goal.invariant-loop-l
invariant-loop-l l =
    (types_found (λ n. n) l.found ++ map (λ l. l.ty) (drop l.l-index l.locals) ≡ types_found (λ n. n) l.initial.found ++ map (λ l. l.ty) l.locals)
    × (references_in l.found ≡ references_in l.initial.found)
