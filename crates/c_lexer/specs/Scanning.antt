-- Reading the parts and the tokens of a text from the left: what the private functions compute. No public clause cites
-- it.
use Rattle.std.specs.Prelude.{◌≡◌, ℕ, zero, suc, ◌+◌, nat_le, ◌==◌, ◌&&◌, ◌||◌, not, Bool, true, false, List, [], ◌∷◌, take, drop, length, Option}
use Rattle.std.specs.Prelude.{Some, None, is_some, option_map, Result, Ok, Err, if◌then◌else◌}
use Rattle.std.specs.List.{prefix_len}
use Rattle.lay_base.specs.declared.faults.Keyword.{Keyword}
use Rattle.c_tokens.specs.declared.punctuator.Punctuator.{Punctuator}
use Rattle.c_tokens.specs.declared.punctuator.Punctuator.TheVariants as M
use Rattle.c_tokens.specs.declared.part.Shape.{Shape}
use Rattle.c_tokens.specs.declared.part.Shape.TheVariants as S
use Rattle.c_tokens.specs.declared.part.PartKind.{PartKind}
use Rattle.c_tokens.specs.declared.part.PartKind.TheVariants as P
use Rattle.c_tokens.specs.declared.token.Token.{Token}
use Rattle.c_lexer.specs.declared.lexing.Step.{Step}
use Rattle.c_tokens.specs.declared.token.TokenKind.{TokenKind}
use Rattle.c_tokens.specs.declared.token.TokenKind.TheVariants as K
use Rattle.c_tokens.specs.declared.fault.FaultKind.{FaultKind}
use Rattle.c_tokens.specs.declared.fault.FaultKind.TheVariants as F
use Rattle.c_lexer.specs.declared.fault.LexFault.{LexFault}
use Rattle.c_lexer.specs.declared.fault.LexFault.TheVariants as L
use Rattle.c_tokens.specs.Characters.{is_white, is_line_feed, is_letter, goes_on_in_name, begins}
use Rattle.lay_base.specs.KeywordScan.{keyword_of}
use Rattle.c_tokens.specs.Punctuators.{punctuator_text}
use Rattle.c_tokens.specs.Numbers.{begins_number}
use Rattle.c_lexer.specs.NumberScan.{number_length, number_of}
use Rattle.c_tokens.specs.QuotedScan.{quoted_length, character_of, string_of}
use Rattle.c_lexer.specs.DirectiveScan.{directive_in}
use Rattle.c_tokens.specs.Words.{longest_name}
use Rattle.c_lexer.specs.Answers.{OnFault}

-- ---- the word at the front

-- is the first list a front of the second?
abbrev pub is_front : List ℕ → List ℕ → Bool
is_front [] bytes = true
is_front (w ∷ word) [] = false
is_front (w ∷ word) (b ∷ bytes) = w == b && is_front word bytes

-- the first punctuator of a table that is a front
abbrev pub first_punctuator : List Punctuator → List ℕ → Option Punctuator
first_punctuator [] bytes = None
first_punctuator (punctuator ∷ punctuators) bytes = if is_front (punctuator_text punctuator) bytes then Some punctuator else first_punctuator punctuators bytes

-- all punctuators, none after one that it begins with
abbrev pub punctuators : List Punctuator
punctuators =
    M.OpenSquare ∷ M.CloseSquare ∷ M.Open ∷ M.Close ∷ M.OpenBrace ∷ M.CloseBrace ∷ M.Dots ∷ M.Dot ∷ M.Arrow ∷
    M.MinusMinus ∷ M.MinusEqual ∷ M.Minus ∷ M.PlusPlus ∷ M.PlusEqual ∷ M.Plus ∷ M.AndAnd ∷ M.AndEqual ∷ M.And ∷
    M.StarEqual ∷ M.Star ∷ M.Tilde ∷ M.NotEqual ∷ M.Not ∷ M.SlashEqual ∷ M.Slash ∷ M.PercentEqual ∷ M.Percent ∷
    M.ShiftLeftEqual ∷ M.ShiftLeft ∷ M.LessEqual ∷ M.Less ∷ M.ShiftRightEqual ∷ M.ShiftRight ∷ M.GreaterEqual ∷
    M.Greater ∷ M.EqualEqual ∷ M.Equal ∷ M.CaretEqual ∷ M.Caret ∷ M.BarBar ∷ M.BarEqual ∷ M.Bar ∷ M.Question ∷
    M.Colon ∷ M.Semicolon ∷ M.Comma ∷ []

abbrev pub punctuator_word : Option Punctuator → Option (Shape × ℕ)
punctuator_word None = None
punctuator_word (Some punctuator) = Some (S.Punctuator punctuator, length (punctuator_text punctuator))

-- the same, by a table of texts
abbrev pub row_of : Punctuator → List ℕ × Punctuator
row_of punctuator = (punctuator_text punctuator, punctuator)

unfoldable pub word_by : List (List ℕ × Punctuator) → List ℕ → Option (Shape × ℕ)
word_by [] bytes = None
word_by (row ∷ rows) bytes = if is_front row.0 bytes then Some (S.Punctuator row.1, length row.0) else word_by rows bytes

-- the shape and the length of the word at the front, which is neither a character nor a string
abbrev pub word_at : List ℕ → Option (Shape × ℕ)
word_at [] = None
word_at (b ∷ bytes) =
    if is_letter b then Some (S.Name, prefix_len goes_on_in_name bytes + 1)
    else if begins_number (b ∷ bytes) then Some (S.Number, number_length b bytes + 1)
    else punctuator_word (first_punctuator punctuators (b ∷ bytes))

-- ---- the part at the front

-- how many bytes go up to "*/", and with it; is the byte before a star?
abbrev pub comment_length : Bool → List ℕ → Option ℕ
comment_length starred [] = None
comment_length starred (b ∷ bytes) = if starred && b == 47 then Some 1 else option_map suc (comment_length (b == 42) bytes)

abbrev pub line_length : List ℕ → ℕ
line_length bytes = prefix_len (λ b. not (is_line_feed b)) bytes

-- a part that goes so far after so many bytes, or one without its end
abbrev pub closed : PartKind → ℕ → Option ℕ → Result (PartKind × ℕ) FaultKind
closed kind front None = Err F.Unclosed
closed kind front (Some n) = Ok (kind, front + n)

abbrev pub word_part : Option (Shape × ℕ) → Result (PartKind × ℕ) FaultKind
word_part None = Err F.BadByte
word_part (Some word) = Ok (P.Word word.0, word.1)

abbrev pub directive_part : Bool → List ℕ → Result (PartKind × ℕ) FaultKind
directive_part begins_line bytes =
    let n = line_length bytes in
    if begins_line && is_some (directive_in (take n bytes)) then Ok (P.Directive, n + 1) else Err F.BadByte

-- after a "/", which is among the bytes
abbrev pub slash_part : List ℕ → Result (PartKind × ℕ) FaultKind
slash_part bytes =
    if begins (λ c. c == 42) (drop 1 bytes) then closed P.Comment 2 (comment_length false (drop 2 bytes))
    else if begins (λ c. c == 47) (drop 1 bytes) then Ok (P.LineComment, line_length (drop 2 bytes) + 2)
    else word_part (word_at bytes)

abbrev pub part_from : Bool → ℕ → List ℕ → Result (PartKind × ℕ) FaultKind
part_from begins_line b bytes =
    if is_white b then Ok (P.White, 1)
    else if b == 47 then slash_part (b ∷ bytes)
    else if b == 35 then directive_part begins_line bytes
    else if b == 39 then closed (P.Word S.Character) 1 (quoted_length 39 false bytes)
    else if b == 34 then closed (P.Word S.Text) 1 (quoted_length 34 false bytes)
    else word_part (word_at (b ∷ bytes))

-- the kind and the length of the part at the front of a text, at the beginning of a line or not
unfoldable pub part_at : Bool → List ℕ → Result (PartKind × ℕ) FaultKind
part_at begins_line [] = Err F.BadByte
part_at begins_line (b ∷ bytes) = part_from begins_line b bytes

-- ---- the token that a word is

abbrev pub name_with : ℕ → Option Keyword → Result TokenKind FaultKind
name_with size (Some keyword) = Ok (K.Keyword keyword)
name_with size None = if nat_le size longest_name then Ok K.Name else Err F.TooWide

abbrev pub token_of : Shape → List ℕ → Result TokenKind FaultKind
token_of S.Name word = name_with (length word) (keyword_of word)
token_of S.Number word = number_of word
token_of S.Character word = character_of word
token_of S.Text word = string_of word
token_of (S.Punctuator punctuator) word = Ok (K.Punctuator punctuator)

-- ---- the whole text

-- after a part: is there only white space before it on its line?
abbrev pub begins_line_after_kind : Bool → PartKind → List ℕ → Bool
begins_line_after_kind begins_line P.White text = begins_line || begins is_line_feed text
begins_line_after_kind begins_line _ text = false

-- what a part gives: nothing, a token, or a fault
abbrev pub token_in : ℕ → PartKind → List ℕ → Result (Option Token) FaultKind
token_in at (P.Word shape) text = word_token at text (token_of shape text)
  where
    word_token : ℕ → List ℕ → Result TokenKind FaultKind → Result (Option Token) FaultKind
    word_token at text (Err fault) = Err fault
    word_token at text (Ok kind) = Ok (Some (record { kind = kind; from = at; to = at + length text }))
token_in at _ text = Ok None

abbrev pub step_with : ℕ → Bool → Result (Option Token) FaultKind → Result Step FaultKind
step_with size begins_line (Err fault) = Err fault
step_with size begins_line (Ok found) = Ok (record { found = found; size = size; begins_line = begins_line })

abbrev pub step_over : ℕ → Bool → List ℕ → Result (PartKind × ℕ) FaultKind → Result Step FaultKind
step_over at begins_line text (Err fault) = Err fault
step_over at begins_line text (Ok part) =
    step_with part.1 (begins_line_after_kind begins_line part.0 (take part.1 text)) (token_in at part.0 (take part.1 text))

-- what the part at the front gives
unfoldable pub step_at : ℕ → Bool → List ℕ → Result Step FaultKind
step_at at begins_line text = step_over at begins_line text (part_at begins_line text)

-- all tokens, or the first fault with its place
abbrev pub Scanned : Type 0
Scanned = Result (List Token) (FaultKind × ℕ)

abbrev pub with_token : Option Token → Scanned → Scanned
with_token None more = more
with_token (Some token) (Ok tokens) = Ok (token ∷ tokens)
with_token (Some token) (Err fault) = Err fault

abbrev pub with_step : ℕ → Result Step FaultKind → (Step → Scanned) → Scanned
with_step at (Err fault) more = Err (fault, at)
with_step at (Ok step) more = with_token step.found (more step)

-- the tokens of the text from a byte of the file on, or the first fault; a text of n bytes has no more than n parts
unfoldable pub scan : ℕ → ℕ → Bool → List ℕ → Scanned
scan n at begins_line [] = Ok []
scan zero at begins_line (b ∷ bytes) = Ok []
scan (suc n) at begins_line (b ∷ bytes) =
    with_step at (step_at at begins_line (b ∷ bytes)) (λ step. scan n (at + step.size) step.begins_line (drop step.size (b ∷ bytes)))

-- ---- what the functions that scan answer

abbrev pub fault_at : FaultKind → ℕ → LexFault
fault_at F.BadByte at = L.BadByte at
fault_at F.BadLiteral at = L.BadLiteral at
fault_at F.Unclosed at = L.Unclosed at
fault_at F.TooWide at = L.TooWide at

-- what was scanned, seen through a view
abbrev pub ScanGives : {X : Type 0} → (X → List Token) → Scanned → Result X LexFault → Type 0
ScanGives view scanned (Ok tokens) = scanned ≡ Ok (view tokens)
ScanGives view scanned (Err fault) = OnFault fault (λ kind at. scanned ≡ Err (kind, at))
