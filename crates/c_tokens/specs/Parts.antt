-- The parts of a text: white space, comments (C99 6.4.9), directives and words.
use Rattle.std.specs.Prelude.{◌≡◌, ℕ, ◌==◌, ◌&&◌, ◌||◌, Bool, false, IsTrue, List, [], ◌∷◌, ◌++◌, All}
use Rattle.c_tokens.specs.declared.part.PartKind.{PartKind}
use Rattle.c_tokens.specs.declared.part.PartKind.TheVariants as P
use Rattle.c_tokens.specs.Characters.{is_white, is_line_feed, begins}
use Rattle.c_tokens.specs.Words.{IsWord, IsLongest}
use Rattle.c_tokens.specs.declared.directive.Directive.{Directive}
use Rattle.c_tokens.specs.Directives.{IsDirective}

pub record Part : Type 0 where
  pub kind : PartKind
  pub text : List ℕ

abbrev pub text_of : List Part → List ℕ
text_of [] = []
text_of (part ∷ parts) = part.text ++ text_of parts

-- does "*/" stand in the bytes?
abbrev pub has_end : List ℕ → Bool
has_end [] = false
has_end (b ∷ bytes) = (b == 42 && begins (λ c. c == 47) bytes) || has_end bytes

-- "/" before "*" or "/" begins a comment and no word
abbrev pub begins_comment : List ℕ → Bool
begins_comment [] = false
begins_comment (b ∷ bytes) = b == 47 && begins (λ c. c == 42 || c == 47) bytes

abbrev pub HasNoLineFeed : List ℕ → Type 0
HasNoLineFeed bytes = All (λ b. is_line_feed b ≡ false) bytes

-- the end of a line, or of the file
abbrev pub IsLineEnd : List ℕ → Type 0
IsLineEnd [] = Unit {0}
IsLineEnd (b ∷ bytes) = IsTrue (is_line_feed b)

-- is there only white space before it on its line?
abbrev pub begins_line_after_part : Bool → Part → Bool
begins_line_after_part begins_line part = after part.kind part.text
  where
    after : PartKind → List ℕ → Bool
    after P.White (b ∷ []) = begins_line || is_line_feed b
    after _ _ = false

-- a part of such a kind and text, at a place that begins its line or not, before what follows
abbrev pub Stands : Bool → PartKind → List ℕ → List ℕ → Type 0
Stands begins_line P.White text rest = (b : ℕ) × (text ≡ b ∷ []) × IsTrue (is_white b)
Stands begins_line P.Comment text rest = (body : List ℕ) × (text ≡ 47 ∷ 42 ∷ body ++ 42 ∷ 47 ∷ []) × (has_end body ≡ false)
Stands begins_line P.LineComment text rest = (body : List ℕ) × (text ≡ 47 ∷ 47 ∷ body) × HasNoLineFeed body × IsLineEnd rest
Stands begins_line P.Directive text rest = (content : List ℕ) × (directive : Directive) × (text ≡ 35 ∷ content) × IsTrue begins_line
    × HasNoLineFeed content × IsLineEnd rest × IsDirective content directive
Stands begins_line (P.Word shape) text rest = IsWord shape text × IsLongest text rest × (begins_comment (text ++ rest) ≡ false)

-- parts, one after the other, before what follows
abbrev pub AreParts : Bool → List Part → List ℕ → Type 0
AreParts begins_line [] rest = Unit {0}
AreParts begins_line (part ∷ parts) rest = Stands begins_line part.kind part.text (text_of parts ++ rest)
    × AreParts (begins_line_after_part begins_line part) parts rest

-- is there only white space before what stands after the parts on its line?
abbrev pub begins_line_after_parts : Bool → List Part → Bool
begins_line_after_parts begins_line [] = begins_line
begins_line_after_parts begins_line (part ∷ parts) = begins_line_after_parts (begins_line_after_part begins_line part) parts
