-- A mention among others, as the file has it.
use Rattle.std.proofs.Common.{◌≡◌, ℕ, zero, suc, List, [], ◌∷◌, ◌++◌, drop, map, take, refl, ap}
use Rattle.c_annotated.specs.declared.file.Mention.{Mention}
use Rattle.c_annotated.specs.FileViews.{mention_of}

pub as_seen : (n : ℕ) (all : List Mention) (m : Mention)
    → map mention_of (take n all ++ m ∷ drop n all) ≡ take n (map mention_of all) ++ mention_of m ∷ drop n (map mention_of all)
as_seen zero all m = refl
as_seen (suc n) [] m = refl
as_seen (suc n) (x ∷ all) m = ap (λ z. mention_of x ∷ z) (as_seen n all m)
