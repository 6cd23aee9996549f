-- Look-ups in the tables of tags, as the checker has them.
use Rattle.std.proofs.Common.{◌≡◌, ℕ, ◌+◌, Bool, true, false, List, [], ◌∷◌, Option, Some, None, refl, cond, arith}
use Rattle.std.proofs.lemmas.Slice.Eq.{bytes_eq-Decides}
use Rattle.std.specs.Prelude.{unwrap_or}
use Rattle.std.specs.Option.{option_map}
use Rattle.std.specs.Str.{bytes_eq}
use Rattle.c_scopes.specs.SyntaxTags.Names.{number_in}
use Rattle.c_scopes.specs.SyntaxTags.Tables as Tables
use Rattle.c_erasure.specs.Scopes.{Tag}
use Rattle.c_erasure.specs.Checking.Declaring.{next, number_among, place_of_tag, tag_named}

pub turned : (x y : List ℕ) → bytes_eq x y ≡ bytes_eq y x
turned x y = grind (arith, bytes_eq-Decides x y, bytes_eq-Decides y x)

next_is : (o : Option ℕ) → option_map (λ k. k + 1) o ≡ next o
next_is None = refl
next_is (Some k) = refl

pub same_number : (all : List (List ℕ)) (x : List ℕ) → number_in all x ≡ number_among all x
same_number [] x = refl
same_number (y ∷ all) x = rw (turned x y, same_number all x, next_is (number_among all x)) refl

here_or : (test : Bool) (t : Tag) (o : Option Tag) → option_map (λ (t : Tag). t.place) (cond test (Some t) o) ≡ cond test (Some t.place) (option_map (λ (t : Tag). t.place) o)
here_or true t o = refl
here_or false t o = refl

pub place_if_any : (tags : List Tag) (x : List ℕ) → Tables.place_of_tag tags x ≡ option_map (λ (t : Tag). t.place) (tag_named tags x)
place_if_any [] x = refl
place_if_any (t ∷ tags) x = rw (here_or (bytes_eq t.name x) t (tag_named tags x), place_if_any tags x) refl

or_zero : (o : Option Tag) → unwrap_or (option_map (λ (t : Tag). t.place) o) 0 ≡ place_of_tag o
or_zero None = refl
or_zero (Some t) = refl

pub place_of_first : (tags : List Tag) (x : List ℕ) → unwrap_or (Tables.place_of_tag tags x) 0 ≡ place_of_tag (tag_named tags x)
place_of_first tags x = rw (place_if_any tags x) (or_zero (tag_named tags x))
