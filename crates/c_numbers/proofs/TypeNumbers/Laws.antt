-- Adding types one after another gives each once, in the order in which they stand first.
use Rattle.std.proofs.Common.{◌≡◌, Bool, true, false, ◌||◌, List, [], ◌∷◌, ◌++◌, fold, refl, sym, ap, ◌∙◌, append_assoc}
use Rattle.std.specs.List.{list_any}
use Rattle.std.proofs.lemmas.List.{append-nil}
use Rattle.std.proofs.lemmas.List.Folds.{list_any-append}
use Rattle.c_erasure.specs.Units.{new_among}
use Rattle.c_types.specs.Sameness.{same_type}
use Rattle.c_types.specs.Types.{CType}
use Rattle.c_numbers.specs.TypeNumbers.Adding.{with_type}

abbrev Alike : List CType → List CType → Type 0
Alike table known = (t : CType) → list_any (same_type t) table ≡ list_any (same_type t) known

turned : (a b : Bool) → (a || (b || false)) ≡ (b || a)
turned true true = refl
turned true false = refl
turned false true = refl
turned false false = refl

one_more : (table known : List CType) (t : CType) → Alike table known → Alike (table ++ t ∷ []) (t ∷ known)
one_more table known t h s =
    list_any-append (same_type s) table (t ∷ []) ∙ turned (list_any (same_type s) table) (same_type s t) ∙ ap (λ b. same_type s t || b) (h s)

all_added : (all table known : List CType) → Alike table known → fold with_type table all ≡ table ++ new_among known all
all_added [] table known h = sym (append-nil table)
all_added (t ∷ more) table known h =
    go (list_any (same_type t) known) refl (λ a k. all_added more a k)
  where
    go : (b : Bool) → list_any (same_type t) known ≡ b → ((a k : List CType) → Alike a k → fold with_type a more ≡ a ++ new_among k more)
        → fold with_type table (t ∷ more) ≡ table ++ new_among known (t ∷ more)
    go true e rest = rw (h t) (rw e (rest table known h))
    go false e rest = rw (h t) (rw e (rest (table ++ t ∷ []) (t ∷ known) (one_more table known t h) ∙ append_assoc table (t ∷ []) _))

-- from nothing on
pub all_new : (all : List CType) → fold with_type [] all ≡ new_among [] all
all_new all = all_added all [] [] (λ t. refl)
