-- The first declaration of a name, and its first definition, stand at the first places where a list has them.
use Rattle.std.proofs.Common.{◌≡◌, ℕ, zero, suc, ◌+◌, Bool, true, false, List, [], ◌∷◌, map, Option, Some, None, refl, sym, ap, ◌∙◌, cond, arith, ◌≤◌}
use Rattle.std.proofs.lemmas.Bool.Decides.{nat_tests}
use Rattle.std.specs.Prelude.{◌&&◌, if◌then◌else◌, nat_le, slice_get}
use Rattle.std.specs.Option.{option_map}
use Rattle.std.specs.Str.{bytes_eq}
use Rattle.c_erasure.specs.Scopes as Scopes
use Rattle.c_erasure.specs.Checking.Declaring.{declared_among}
use Rattle.c_erasure.specs.Checking.Files.{defined_among}
use Rattle.c_annotated.specs.declared.names.Bound.{Bound}
use Rattle.c_annotated.specs.declared.names.How.{How}
use Rattle.c_annotated.specs.declared.names.How.TheVariants as H
use Rattle.c_annotated.specs.FileViews.{bound_of, how_of}
use Rattle.c_scopes.specs.Places.{declares, defines, first_place, is_defining}

-- ---- the first that passes a test

abbrev first_of : (Bound → Bool) → List Bound → Option Scopes.Bound
first_of test [] = None
first_of test (b ∷ more) = if test b then Some (bound_of b) else first_of test more

none_next : (o : Option ℕ) → option_map (λ k. k + 1) o ≡ None → o ≡ None
none_next None h = refl
none_next (Some k) h = cc

some_next : (o : Option ℕ) (n : ℕ) → option_map (λ k. k + 1) o ≡ Some n → (k : ℕ) × (o ≡ Some k) × (n ≡ suc k)
some_next None n h = cc
some_next (Some k) n h = let e : k + 1 ≡ n = cc in (k, refl, omega (arith, e))

missing_by : (passes : Bool) (b : Bound) (o : Option ℕ) (p : Option Scopes.Bound) → (o ≡ None → p ≡ None)
    → cond passes (Some 0) (option_map (λ k. k + 1) o) ≡ None → cond passes (Some (bound_of b)) p ≡ None
missing_by true b o p f h = cc
missing_by false b o p f h = f (none_next o h)

missing : (test : Bound → Bool) (all : List Bound) → first_place test all ≡ None → first_of test all ≡ None
missing test [] h = refl
missing test (b ∷ all) h = missing_by (test b) b (first_place test all) (first_of test all) (missing test all) h

found_by : (passes : Bool) (b : Bound) (all : List Bound) (o : Option ℕ) (p : Option Scopes.Bound) (n : ℕ)
    → ((k : ℕ) → o ≡ Some k → option_map bound_of (slice_get all k) ≡ p)
    → cond passes (Some 0) (option_map (λ k. k + 1) o) ≡ Some n → option_map bound_of (slice_get (b ∷ all) n) ≡ cond passes (Some (bound_of b)) p
found_by true b all o p zero f h = refl
found_by true b all o p (suc n) f h = cc
found_by false b all o p n f h =
    let k = some_next o n h in
    rw k.2 (f k.0 k.1)

found : (test : Bound → Bool) (all : List Bound) (n : ℕ) → first_place test all ≡ Some n → option_map bound_of (slice_get all n) ≡ first_of test all
found test [] n h = cc
found test (b ∷ all) n h = found_by (test b) b all (first_place test all) (first_of test all) n (found test all) h

-- ---- the first declaration of a name

declared_first : (all : List Bound) (x : List ℕ) → first_of (declares x) all ≡ declared_among (map bound_of all) x
declared_first [] x = refl
declared_first (b ∷ all) x = ap (λ r. cond (bytes_eq b.name x) (Some (bound_of b)) r) (declared_first all x)

pub declared_there : (all : List Bound) (x : List ℕ) (n : ℕ) → first_place (declares x) all ≡ Some n
    → option_map bound_of (slice_get all n) ≡ declared_among (map bound_of all) x
declared_there all x n h = found (declares x) all n h ∙ declared_first all x

pub declared_nowhere : (all : List Bound) (x : List ℕ) → first_place (declares x) all ≡ None → declared_among (map bound_of all) x ≡ None
declared_nowhere all x h = sym (declared_first all x) ∙ missing (declares x) all h

-- ---- the first definition of a name

defined_step : (b : Bound) (more : List Scopes.Bound) (x : List ℕ)
    → cond (bytes_eq b.name x && is_defining b.how) (Some (bound_of b)) (defined_among more x) ≡ defined_among (bound_of b ∷ more) x
defined_step b more x = go b.how
  where
    seen_as : How → Scopes.Bound
    seen_as h = record { name = b.name; place = b.place; from = b.from; how = how_of h; entity = (bound_of b).entity }

    go : (h : How) → cond (bytes_eq b.name x && is_defining h) (Some (seen_as h)) (defined_among more x) ≡ defined_among (seen_as h ∷ more) x
    go H.Declares = refl
    go H.Tentative = refl
    go H.Defines = refl

defined_first : (all : List Bound) (x : List ℕ) → first_of (defines x) all ≡ defined_among (map bound_of all) x
defined_first [] x = refl
defined_first (b ∷ all) x =
    ap (λ r. cond (bytes_eq b.name x && is_defining b.how) (Some (bound_of b)) r) (defined_first all x) ∙ defined_step b (map bound_of all) x

pub defined_there : (all : List Bound) (x : List ℕ) (n : ℕ) → first_place (defines x) all ≡ Some n
    → option_map bound_of (slice_get all n) ≡ defined_among (map bound_of all) x
defined_there all x n h = found (defines x) all n h ∙ defined_first all x

pub defined_nowhere : (all : List Bound) (x : List ℕ) → first_place (defines x) all ≡ None → defined_among (map bound_of all) x ≡ None
defined_nowhere all x h = sym (defined_first all x) ∙ missing (defines x) all h

-- ---- a name is visible where the scope of its first declaration began, and only where it has one

seen_by : (test : Bool) (b c : Scopes.Bound) (p : Option Scopes.Bound) (o : Option Scopes.Entity) (at : ℕ) → c.from ≤ at
    → (p ≡ Some c → o ≡ Some c.entity) → cond test (Some b) p ≡ Some c
    → Scopes.or_else (cond (test && nat_le b.from at) (Some b.entity) None) o ≡ Some c.entity
seen_by true b c p o at l f h = let e : b ≡ c = cc in let t : nat_le b.from at ≡ true = rw e (grind (arith, nat_tests, l)) in rw (t, e) refl
seen_by false b c p o at l f h = f h

pub seen : (all : List Scopes.Bound) (x : List ℕ) (at : ℕ) (c : Scopes.Bound) → declared_among all x ≡ Some c → c.from ≤ at
    → Scopes.visible all x at ≡ Some c.entity
seen [] x at c h l = cc
seen (b ∷ all) x at c h l = seen_by (bytes_eq b.name x) b c (declared_among all x) (Scopes.visible all x at) at l (λ h. seen all x at c h l) h

unseen_by : (test : Bool) (b : Scopes.Bound) (p : Option Scopes.Bound) (o : Option Scopes.Entity) (at : ℕ) → (p ≡ None → o ≡ None)
    → cond test (Some b) p ≡ None → Scopes.or_else (cond (test && nat_le b.from at) (Some b.entity) None) o ≡ None
unseen_by true b p o at f h = cc
unseen_by false b p o at f h = f h

pub unseen : (all : List Scopes.Bound) (x : List ℕ) (at : ℕ) → declared_among all x ≡ None → Scopes.visible all x at ≡ None
unseen [] x at h = refl
unseen (b ∷ all) x at h = unseen_by (bytes_eq b.name x) b (declared_among all x) (Scopes.visible all x at) at (unseen all x at) h
