-- Lines that begin with '#' in preprocessed text: line markers and #line (C99 6.10.4), #pragma (6.10.6), and the
-- null directive (6.10.7).
use Rattle.std.specs.Prelude.{◌≡◌, ℕ, ◌^◌, ◌<◌, ◌+◌, ◌==◌, ◌||◌, IsTrue, Bool, true, false, List, [], ◌∷◌, ◌++◌, All, codes, length, take, drop, bytes_eq}
use Rattle.std.specs.Prelude.{Option}
use Rattle.std.specs.Prelude.{Some, None}
use Rattle.std.specs.List.{prefix_len}
use Rattle.c_tokens.specs.declared.directive.Directive.{Directive}
use Rattle.c_tokens.specs.declared.directive.Directive.TheVariants.{Silent, Renumbers}
use Rattle.c_tokens.specs.declared.directive.NameRange.{NameRange}
use Rattle.c_tokens.specs.Characters.{is_blank, is_digit, goes_on_in_name, begins, value_of_digits}
use Rattle.c_tokens.specs.Quoted.{IsInside}

abbrev pub AreBlank : List ℕ → Type 0
AreBlank bytes = All (λ b. IsTrue (is_blank b)) bytes

abbrev pub AreDigits : List ℕ → Type 0
AreDigits digits = IsTrue (begins is_digit digits) × All (λ d. IsTrue (is_digit d)) digits

-- blanks, of which there is at least one
abbrev pub IsGap : List ℕ → Type 0
IsGap bytes = IsTrue (begins is_blank bytes) × AreBlank bytes

-- the pieces of `NUMBER`, `NUMBER "NAME"` and `NUMBER "NAME" FLAG ..`, with the blanks before and after each
pub record Marker : Type 0 where
  -- does the word "line" stand before the number?
  pub worded : Bool
  -- the blanks after the '#', and those after that word
  pub front : List ℕ
  pub middle : List ℕ
  pub digits : List ℕ
  -- the blanks before the name, and the name
  pub name : Option (List ℕ × List ℕ)
  -- the blanks before each flag, and the flag
  pub flags : List (List ℕ × List ℕ)
  pub back : List ℕ

abbrev pub word_text : Bool → List ℕ → List ℕ
word_text false middle = []
word_text true middle = codes "line" ++ middle

abbrev pub name_text : Option (List ℕ × List ℕ) → List ℕ
name_text None = []
name_text (Some name) = name.0 ++ 34 ∷ name.1 ++ 34 ∷ []

abbrev pub flags_text : List (List ℕ × List ℕ) → List ℕ
flags_text [] = []
flags_text (flag ∷ flags) = flag.0 ++ flag.1 ++ flags_text flags

abbrev pub marker_text : Marker → List ℕ
marker_text m = m.front ++ word_text m.worded m.middle ++ m.digits ++ name_text m.name ++ flags_text m.flags ++ m.back

-- blanks stand after the word "line"; only a marker without that word has flags
abbrev pub IsWordGap : Bool → List ℕ → List (List ℕ × List ℕ) → Type 0
IsWordGap false middle flags = middle ≡ []
IsWordGap true middle flags = IsGap middle × (flags ≡ [])

abbrev pub IsMarkerName : Option (List ℕ × List ℕ) → Type 0
IsMarkerName None = Unit {0}
IsMarkerName (Some name) = AreBlank name.0 × IsInside 34 false name.1

pub record IsMarker (m : Marker) : Type 0 where
  pub front : AreBlank m.front
  pub word : IsWordGap m.worded m.middle m.flags
  pub digits : AreDigits m.digits
  pub small : value_of_digits 10 m.digits < 2 ^ 31
  pub name : IsMarkerName m.name
  pub flags : All (λ flag. IsGap flag.0 × AreDigits flag.1) m.flags
  pub back : AreBlank m.back

-- ---- pragmas by which GCC lays structures out in another way, which are refused

-- is it the first word of such a pragma?
abbrev pub is_layout_word : List ℕ → Bool
is_layout_word word = bytes_eq word (codes "pack") || (bytes_eq word (codes "ms_struct") || bytes_eq word (codes "scalar_storage_order"))

abbrev pub after_blanks : List ℕ → List ℕ
after_blanks text = drop (prefix_len is_blank text) text

abbrev pub first_word : List ℕ → List ℕ
first_word text = take (prefix_len goes_on_in_name text) text

-- does such a word stand first after "pragma", or a "/", which may begin a comment before it?
abbrev pub may_change_layout : List ℕ → Bool
may_change_layout text = begins (λ b. b == 47) (after_blanks text) || is_layout_word (first_word (after_blanks text))

-- ---- a line

-- where the name stands after the '#'
abbrev pub name_range : ℕ → Option (List ℕ × List ℕ) → Option NameRange
name_range at None = None
name_range at (Some name) = Some (record { from = at + length name.0 + 1; to = at + length name.0 + 1 + length name.1 })

abbrev pub directive_of : Marker → Directive
directive_of m = Renumbers (value_of_digits 10 m.digits) (name_range (length (m.front ++ word_text m.worded m.middle ++ m.digits)) m.name)

-- the bytes after '#', up to the end of the line, are a directive
pub data IsDirective : List ℕ → Directive → Type 0 where
  -- `#` alone
  null : {content : List ℕ} → AreBlank content → IsDirective content Silent
  -- `#pragma` with anything that changes no layout
  pragma : (front anything : List ℕ) → AreBlank front → begins goes_on_in_name anything ≡ false → may_change_layout anything ≡ false
      → IsDirective (front ++ codes "pragma" ++ anything) Silent
  -- `# NUMBER ["NAME"] {FLAG}`, `#line NUMBER ["NAME"]`
  marker : (m : Marker) → IsMarker m → IsDirective (marker_text m) (directive_of m)
