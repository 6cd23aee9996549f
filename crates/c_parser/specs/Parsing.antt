-- What the parser answers.
use Rattle.std.specs.Prelude.{◌≡◌, ◌⊎◌, length, List, ◌∷◌, ◌++◌, Some, None, Result, Ok, Err}
use Rattle.lay_base.specs.declared.place.Place.{Place}
use Rattle.c_tokens.specs.declared.token.Token.{Token}
use Rattle.c_tokens.specs.declared.token.Tokens.{Tokens}
use Rattle.c_ast.specs.declared.tree.Tree.{Tree}
use Rattle.c_ast.specs.Trees
use Rattle.c_ast.specs.TreesOfFiles.{IsTreeOf, first_unsupported}
use Rattle.c_ast.specs.Views.{items_of}
use Rattle.c_parser.specs.declared.faults.ParseFault.{ParseFault}
use Rattle.c_parser.specs.declared.faults.ParseFault.TheVariants as F

-- the place of one of the tokens, or of the end of the file
abbrev pub IsPlaceIn : Tokens → Place → Type 0
IsPlaceIn tokens place =
    (place.file ≡ tokens.file)
    × (((before after : List Token) × (token : Token) × (tokens.list ≡ before ++ token ∷ after) × (place.at ≡ token.from)) ⊎ (place.at ≡ length tokens.bytes))

-- want of memory says nothing
abbrev pub ParseGives : Tokens → Result Tree ParseFault → Type 0
ParseGives tokens (Ok tree) = (tree.file ≡ tokens.file) × IsTreeOf tokens.bytes (items_of tree)
ParseGives tokens (Err (F.NoParse place)) =
    IsPlaceIn tokens place × (first_unsupported tokens.list ≡ None) × ((items : List Trees.Item) → IsTreeOf tokens.bytes items → ⊥)
ParseGives tokens (Err (F.Unsupported keyword place)) = (place.file ≡ tokens.file) × (first_unsupported tokens.list ≡ Some (keyword, place.at))
ParseGives tokens (Err (F.Memory want)) = Unit {0}
