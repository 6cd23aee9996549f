-- A mark more.
use Rattle.std.proofs.Common.{◌≡◌, List, [], ◌∷◌, ◌++◌, map, refl, ap, ◌∙◌}
use Rattle.c_file_tags.specs.declared.marks.Mark.{Mark}
use Rattle.c_file_tags.specs.declared.marks.Marks.{Marks}
use Rattle.c_file_tags.specs.Marks.{mark_of, marks_in}

mapped : (all : List Mark) (m : Mark) → map mark_of (all ++ m ∷ []) ≡ map mark_of all ++ mark_of m ∷ []
mapped [] m = refl
mapped (x ∷ all) m = ap (λ rest. mark_of x ∷ rest) (mapped all m)

pub one_mark_more : (old new : Marks) (m : Mark) → new.list.items ≡ old.list.items ++ m ∷ [] → marks_in new ≡ marks_in old ++ mark_of m ∷ []
unfolding marks_in
one_mark_more old new m e = ap (map mark_of) e ∙ mapped old.list.items m
