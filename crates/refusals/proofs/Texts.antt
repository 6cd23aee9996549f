-- Laws of the texts of refusals.
use Rattle.std.proofs.Common.{◌≡◌, ℕ, List, [], ◌∷◌, ◌++◌, append_assoc, refl}
use Rattle.refusals.specs.declared.refusal.Refusal.{Refusal}
use Rattle.refusals.specs.declared.refusal.Refusal.TheVariants.{BadByte, BadLiteral, Unclosed, TooWide, NoParse, Unsupported, TooBig, IllTyped}
use Rattle.refusals.specs.declared.refusal.Refusal.TheVariants.{Undeclared, Redeclared, Twice, TagClash, Undefined, NameClash}
use Rattle.refusals.specs.Table.{HasPlace, line, refusal_text}

-- a text with no place in it is the same for any texts of places
pub refusal_text-no_place : (at first : List ℕ) (refusal : Refusal) → ¬ HasPlace refusal → refusal_text at first refusal ≡ refusal_text [] [] refusal
unfolding refusal_text
refusal_text-no_place at first (BadByte place) alone = absurd (alone refl)
refusal_text-no_place at first (BadLiteral place) alone = absurd (alone refl)
refusal_text-no_place at first (Unclosed place) alone = absurd (alone refl)
refusal_text-no_place at first (TooWide place) alone = absurd (alone refl)
refusal_text-no_place at first (NoParse place) alone = absurd (alone refl)
refusal_text-no_place at first (Unsupported keyword place) alone = absurd (alone refl)
refusal_text-no_place at first (TooBig place) alone = absurd (alone refl)
refusal_text-no_place at first (IllTyped rule place) alone = absurd (alone refl)
refusal_text-no_place at first (Undeclared name place) alone = absurd (alone refl)
refusal_text-no_place at first (Redeclared name place earlier) alone = absurd (alone refl)
refusal_text-no_place at first (Twice name place earlier) alone = absurd (alone refl)
refusal_text-no_place at first (TagClash tag place earlier) alone = absurd (alone refl)
refusal_text-no_place at first (Undefined kind place) alone = absurd (alone refl)
refusal_text-no_place at first (NameClash name place earlier) alone = absurd (alone refl)
refusal_text-no_place at first _ alone = refl

-- a piece may be put in two parts
pub line-joined : (first p q : List ℕ) (rest : List (List ℕ)) → line (first ∷ (p ++ q) ∷ rest) ≡ line (first ∷ p ∷ q ∷ rest)
unfolding line
line-joined first p q rest = simp append_assoc
