-- What is asked of the elements of a list.
use Rattle.std.proofs.Common.{◌++◌, List, [], ◌∷◌, map}
use Rattle.std.specs.Prelude.{All}
use Rattle.std.proofs.lemmas.List.Elements.{All-cons, All-head, All-nil, All-tail}

pub all_after : {X : Type 0} (P : X → Type 0) (xs ys : List X) → All P (xs ++ ys) → All P ys
all_after P [] ys h = h
all_after P (x ∷ more) ys h = all_after P more ys (All-tail P x (more ++ ys) h)

pub all_of_mapped : {X Y : Type 0} (P : Y → Type 0) (f : X → Y) (xs : List X) → All P (map f xs) → All (λ x. P (f x)) xs
all_of_mapped P f [] h = All-nil (λ x. P (f x))
all_of_mapped P f (x ∷ more) h =
    All-cons (λ x. P (f x)) x more (All-head P (f x) (map f more) h) (all_of_mapped P f more (All-tail P (f x) (map f more) h))
