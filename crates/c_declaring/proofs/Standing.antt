-- The first of some names stands at the first place of its text.
use Rattle.std.proofs.Common.{◌≡◌, ℕ, zero, suc, ◌+◌, Bool, true, false, List, [], ◌∷◌, map, Option, Some, None, refl, cond, arith}
use Rattle.std.specs.Prelude.{slice_get}
use Rattle.std.specs.Borrow.{Bor}
use Rattle.std.specs.Option.{option_map, option_copied}
use Rattle.std.specs.Str.{bytes_eq}
use Rattle.c_ast.specs.declared.words.Spelling.{Spelling}
use Rattle.c_scopes.specs.SyntaxTags.Names.{number_in}
use Rattle.c_erasure.specs.Checking.Declaring.{standing}
use Rattle.c_declaring.specs.Adding.{lent}
use Rattle.c_declaring.proofs.Tables.{turned}

abbrev text_of : Bor Spelling → List ℕ
text_of b = b.now.text

none_next : (o : Option ℕ) → option_map (λ k. k + 1) o ≡ None → o ≡ None
none_next None h = refl
none_next (Some k) h = cc

some_next : (o : Option ℕ) (n : ℕ) → option_map (λ k. k + 1) o ≡ Some n → (k : ℕ) × (o ≡ Some k) × (n ≡ suc k)
some_next None n h = cc
some_next (Some k) n h = let e : k + 1 ≡ n = cc in (k, refl, omega (arith, e))

missing_by : (test : Bool) (y : Spelling) (o : Option ℕ) (p : Option Spelling) → (o ≡ None → p ≡ None)
    → cond test (Some 0) (option_map (λ k. k + 1) o) ≡ None → cond test (Some y) p ≡ None
missing_by true y o p f h = cc
missing_by false y o p f h = f (none_next o h)

pub missing_is : (all : List (Bor Spelling)) (x : List ℕ) → number_in (map text_of all) x ≡ None → standing (lent all) x ≡ None
missing_is [] x h = refl
missing_is (b ∷ all) x h = rw (turned b.now.text x)
    (missing_by (bytes_eq x b.now.text) b.now (number_in (map text_of all) x) (standing (lent all) x) (missing_is all x) h)

found_by : (test : Bool) (b : Bor Spelling) (all : List (Bor Spelling)) (o : Option ℕ) (p : Option Spelling) (n : ℕ)
    → ((k : ℕ) → o ≡ Some k → option_copied (slice_get all k) ≡ p)
    → cond test (Some 0) (option_map (λ k. k + 1) o) ≡ Some n → option_copied (slice_get (b ∷ all) n) ≡ cond test (Some b.now) p
found_by true b all o p zero f h = refl
found_by true b all o p (suc n) f h = cc
found_by false b all o p n f h =
    let k = some_next o n h in
    rw k.2 (f k.0 k.1)

pub found_is : (all : List (Bor Spelling)) (x : List ℕ) (n : ℕ) → number_in (map text_of all) x ≡ Some n
    → option_copied (slice_get all n) ≡ standing (lent all) x
found_is [] x n h = cc
found_is (b ∷ all) x n h = rw (turned b.now.text x)
    (found_by (bytes_eq x b.now.text) b all (number_in (map text_of all) x) (standing (lent all) x) n (found_is all x) h)
