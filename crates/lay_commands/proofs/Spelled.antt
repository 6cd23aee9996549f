-- Numbers on the command line.
use Rattle.std.proofs.Common.{◌≡◌, ℕ, ◌<◌, ◌^◌, List, [], ◌∷◌, length, None, true, arith, refl, rules}
use Rattle.std.specs.Prelude.{Result, Err}
use Rattle.std.specs.List.{list_all}
use Rattle.std.specs.Char.{is_ascii_digit}
use Rattle.std.specs.Str.Parse.{ParsesUnsigned, digits_value}
use Rattle.std.proofs.lemmas.Str.Parse.{IsNumeralModel, numerals_by_value, parse_digits}
use Rattle.lay_commands.specs.Words.{number_in}

numerals : IsNumeralModel (λ ds. list_all is_ascii_digit ds ≡ true) (digits_value 10)
numerals = numerals_by_value _ (search rules)

-- digits whose value has more than 64 bits, or none, spell no number within a limit of 64 bits
by_value : (most : ℕ) (word : List ℕ) → most < 2 ^ 64 → ((0 < length word) × (digits_value 10 word < 2 ^ 64) → ⊥) → None ≡ number_in most word
by_value most [] fits unfit = refl
by_value most (c ∷ cs) fits unfit =
    let few : digits_value 10 (c ∷ cs) < 2 ^ 64 → ⊥ = λ l. unfit (omega arith, l) in
    let great : most < digits_value 10 (c ∷ cs) = omega (arith, few) in
    grind arith

-- digits that are not read spell no such number
pub unread : {E : Type 0} (most : ℕ) (word : List ℕ) (r : Result ℕ E) (e : E) → r ≡ Err e → ParsesUnsigned 64 10 word r → most < 2 ^ 64
    → list_all is_ascii_digit word ≡ true → None ≡ number_in most word
unread most word r e fails parses fits digits =
    let unfit = parse_digits numerals 64 word r parses digits in
    by_value most word fits (rw fails at unfit)
