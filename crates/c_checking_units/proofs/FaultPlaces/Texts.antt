-- The tokens of a text stand at its places, so what the checker answers for its tree does.
use Rattle.std.proofs.Common.{◌≡◌, ℕ, List, [], ◌∷◌, Ok, Err, refl, subst, arith}
use Rattle.std.specs.List.{AllByRecursion}
use Rattle.std.proofs.lemmas.List.Elements.{recursion_from_All}
use Rattle.c_tokens.specs.declared.token.Token.{Token}
use Rattle.c_tokens.specs.TokenPlaces.{IsPlaceIn, TokensHavePlaces}
use Rattle.c_ast.specs.Lexemes.{lexemes_of}
use Rattle.c_ast.specs.Spelling.{spell}
use Rattle.c_ast.specs.Trees
use Rattle.c_ast.specs.TreesOfFiles.{IsTreeOf}
use Rattle.c_erasure.specs.Broken.{Fault}
use Rattle.c_erasure.specs.Scopes.{FileScope}
use Rattle.c_erasure.specs.Checking.Files.{annotated}
use Rattle.c_checking_units.specs.FaultPlaces.Places.{Stands, FaultsHavePlaces}
use Rattle.c_checking_units.proofs.FaultPlaces.Given.{Gives, AreAt}
use Rattle.c_checking_units.proofs.FaultPlaces.Tokens.{Tokens}
use Rattle.c_checking_units.proofs.FaultPlaces.Definitions.{file_found}

-- before the first byte of a text there are no tokens
pub beginning : (bytes : List ℕ) → IsPlaceIn bytes 0
beginning bytes = (omega arith, ([], record { parts = []; bytes_are = refl; are_parts = tt; are_tokens = refl }))

of_lexemes : (P : ℕ → Type 0) (bytes : List ℕ) (tokens : List Token) → AllByRecursion (λ token. P token.from) tokens
    → AllByRecursion (λ token. P token.from) (lexemes_of bytes tokens)
of_lexemes P bytes [] h = tt
of_lexemes P bytes (token ∷ tokens) h = (h.0, of_lexemes P bytes tokens h.1)

pub tokens_of : TokensHavePlaces → (bytes : List ℕ) (items : List Trees.Item) → IsTreeOf bytes items → Tokens (IsPlaceIn bytes) (spell items)
tokens_of p bytes items t =
    let all = of_lexemes (IsPlaceIn bytes) bytes t.0 (recursion_from_All (λ token. IsPlaceIn bytes token.from) t.0 (p.of_tokens bytes t.0 t.1)) in
    record { each = subst (AllByRecursion (λ token. IsPlaceIn bytes token.from)) t.3.spelled all }

module _ (p : TokensHavePlaces) (number : ℕ) (untagged : ℕ → List ℕ) (bytes : List ℕ) (items : List Trees.Item) (t : IsTreeOf bytes items) where
  answered : Gives (IsPlaceIn bytes) (AreAt number (IsPlaceIn bytes)) (annotated number untagged items)
  answered = file_found number (IsPlaceIn bytes) (beginning bytes) untagged items (tokens_of p bytes items t)

  pub fault_places : (fault : Fault) → annotated number untagged items ≡ Err fault → Stands (IsPlaceIn bytes) fault
  fault_places fault h = (subst (Gives (IsPlaceIn bytes) (AreAt number (IsPlaceIn bytes))) h answered).given

  pub file_places : (f : FileScope) → annotated number untagged items ≡ Ok f → AreAt number (IsPlaceIn bytes) f
  file_places f h = (subst (Gives (IsPlaceIn bytes) (AreAt number (IsPlaceIn bytes))) h answered).given

pub faults_have_places : TokensHavePlaces → FaultsHavePlaces
faults_have_places p number untagged bytes items fault t h = fault_places p number untagged bytes items t fault h
