-- Where names are declared and defined in a list, and a table of these places.
use Rattle.std.specs.Prelude.{◌≡◌, ℕ, ◌+◌, Bool, true, false, ◌&&◌, List, [], ◌∷◌, if◌then◌else◌, Option, Some, None}
use Rattle.std.specs.Option.{option_and_then, option_map}
use Rattle.std.specs.Global.{Vec}
use Rattle.std.specs.Str.{bytes_eq}
use Rattle.c_annotated.specs.declared.names.Bound.{Bound}
use Rattle.c_annotated.specs.declared.names.How.{How}
use Rattle.c_annotated.specs.declared.names.How.TheVariants as H
use Rattle.c_scopes.specs.declared.places.Places.{Places}
use Rattle.c_scopes.specs.SyntaxTags.Keys.{found_at}

abbrev pub is_defining : How → Bool
is_defining H.Defines = true
is_defining how = false

abbrev pub declares : List ℕ → Bound → Bool
declares x b = bytes_eq b.name x

abbrev pub defines : List ℕ → Bound → Bool
defines x b = bytes_eq b.name x && is_defining b.how

-- the place of the first that passes a test
abbrev pub first_place : (Bound → Bool) → List Bound → Option ℕ
first_place test [] = None
first_place test (b ∷ more) = if test b then Some 0 else option_map (λ k. k + 1) (first_place test more)

-- ---- what a table has of a name

abbrev pub declared_at : List (Vec ℕ × Places) → List ℕ → Option ℕ
declared_at entries x = option_map (λ p. p.declared) (found_at entries x)

abbrev pub defined_at : List (Vec ℕ × Places) → List ℕ → Option ℕ
defined_at entries x = option_and_then (λ p. p.defined) (found_at entries x)

-- a table has each name with the places of its first declaration and of its first definition
pub record HasPlaces (entries : List (Vec ℕ × Places)) (all : List Bound) : Type 0 where
  pub declared : (x : List ℕ) → declared_at entries x ≡ first_place (declares x) all
  pub defined : (x : List ℕ) → defined_at entries x ≡ first_place (defines x) all
