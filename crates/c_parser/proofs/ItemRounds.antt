-- Rounds of the loop over the items of a file.
use Rattle.std.proofs.Common.{◌≡◌, ◌<◌, ◌↔◌, ℕ, Bool, true, false, zero, suc, ◌-◌, List, [], ◌∷◌, ◌++◌, length, Option, Some, None, refl, ap, sym}
use Rattle.std.proofs.Common.{◌∙◌, arith, append_assoc, append-nil}
use Rattle.std.specs.Prelude.{IsTrue}
use Rattle.c_ast.specs.Trees
use Rattle.c_ast.specs.Spelling.{Lexeme}
use Rattle.c_ast.specs.WellFormed.{types_after}
use Rattle.c_cursor.specs.declared.failure.Failure.{Failure}
use Rattle.c_cursor.specs.declared.failure.Failure.TheVariants.{Memory, NoParse}
use Rattle.c_cursor.specs.Gives.{Fails}
use Rattle.c_grammar.specs.Reading.{◌>>=◌}
use Rattle.c_grammar.specs.StatementReading.{item_in, items_in}

-- the items so far, and those of the rest
abbrev pub with_front : List Trees.Item → Option (List Trees.Item) → Option (List Trees.Item)
with_front done None = None
with_front done (Some more) = Some (done ++ more)

pub front_nothing : (o : Option (List Trees.Item)) → with_front [] o ≡ o
front_nothing None = refl
front_nothing (Some more) = refl

pub items_end : (done : List Trees.Item) (n : ℕ) (types : List (List ℕ)) (tokens : List Lexeme) (read : Option (List Trees.Item)) → length tokens ≡ 0
    → with_front done (items_in 399 n types tokens) ≡ read → read ≡ Some done
unfolding items_in
items_end done zero types [] read h e = sym e ∙ ap Some (append-nil done)
items_end done (suc n) types [] read h e = sym e ∙ ap Some (append-nil done)
items_end done n types (t ∷ tokens) read h e = absurd (omega (arith, h))

pub items_out : (done : List Trees.Item) (n : ℕ) (types : List (List ℕ)) (tokens : List Lexeme) (read : Option (List Trees.Item)) → 0 < length tokens
    → n ≡ 0 → with_front done (items_in 399 n types tokens) ≡ read → read ≡ None
unfolding items_in
items_out done n types [] read h z e = absurd (omega (arith, h))
items_out done zero types (t ∷ tokens) read h z e = sym e
items_out done (suc n) types (t ∷ tokens) read h z e = absurd (omega (arith, z))

pub items_stop : (done : List Trees.Item) (n : ℕ) (types : List (List ℕ)) (tokens : List Lexeme) (read : Option (List Trees.Item)) → 0 < length tokens
    → 0 < n → item_in types 399 tokens ≡ None → with_front done (items_in 399 n types tokens) ≡ read → read ≡ None
unfolding items_in
items_stop done n types [] read h z p e = absurd (omega (arith, h))
items_stop done zero types (t ∷ tokens) read h z p e = absurd (omega (arith, z))
items_stop done (suc n) types (t ∷ tokens) read h z p e = sym e ∙ rw p refl

front_one : (done : List Trees.Item) (item : Trees.Item) (o : Option (List Trees.Item)) → with_front done (o >>= λ more. Some (item ∷ more))
    ≡ with_front (done ++ item ∷ []) o
front_one done item None = refl
front_one done item (Some more) = ap Some (sym (append_assoc done (item ∷ []) more))

pub items_go : (done : List Trees.Item) (n m : ℕ) (types others : List (List ℕ)) (tokens rest : List Lexeme) (item : Trees.Item) (d : ℕ)
    (read : Option (List Trees.Item)) → 0 < length tokens → m ≡ n - 1 → 0 < n → item_in types 399 tokens ≡ Some (item, d, rest) → others
    ≡ types_after types item → with_front done (items_in 399 n types tokens) ≡ read → with_front (done ++ item ∷ []) (items_in 399 m others rest) ≡ read
unfolding items_in
items_go done n m types others [] rest item d read h l z p o e = absurd (omega (arith, h))
items_go done zero m types others (t ∷ tokens) rest item d read h l z p o e = absurd (omega (arith, z))
items_go done (suc n) m types others (t ∷ tokens) rest item d read h l z p o e =
    let s : m ≡ n = omega (arith, l) in
    rw (s, o) (sym (front_one done item (items_in 399 n (types_after types item) rest))
    ∙ ap (with_front done) (sym (ap (λ r. r >>= λ x. items_in 399 n (types_after types x.0) x.2 >>= λ more. Some (x.0 ∷ more)) p)) ∙ e)

-- an item that was not read
pub items_fail : (failure : Failure) (done : List Trees.Item) (n : ℕ) (types : List (List ℕ)) (tokens : List Lexeme) (read : Option (List Trees.Item))
    → 0 < length tokens → 0 < n → Fails failure (item_in types 399 tokens) → with_front done (items_in 399 n types tokens) ≡ read → Fails failure read
items_fail (Memory want) done n types tokens read h z p e = tt
items_fail (NoParse left) done n types tokens read h z p e = items_stop done n types tokens read h z p e

-- ---- whether tokens are left

pub some_tokens : (empty : Bool) (tokens : List Lexeme) → (IsTrue empty ↔ (tokens ≡ [])) → empty ≡ false → 0 < length tokens
some_tokens empty [] h e = let f = h.1 refl in cc
some_tokens empty (t ∷ tokens) h e = omega arith

pub no_tokens : (empty : Bool) (tokens : List Lexeme) → (IsTrue empty ↔ (tokens ≡ [])) → empty ≡ true → length tokens ≡ 0
no_tokens empty tokens h e = ap length (h.0 e)
