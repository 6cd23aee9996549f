-- Reading directives from the left: what the private functions compute. No public clause cites it.
use Rattle.std.specs.Prelude.{ℕ, ◌+◌, ◌^◌, ◌-◌, nat_lt, ◌==◌, ◌&&◌, Bool, true, false, List, [], ◌∷◌, take, drop, codes, Option, Some, None, if◌then◌else◌}
use Rattle.std.specs.List.{prefix_len, list_all}
use Rattle.std.specs.Str.{bytes_eq}
use Rattle.c_tokens.specs.declared.directive.Directive.{Directive}
use Rattle.c_tokens.specs.declared.directive.Directive.TheVariants.{Silent, Renumbers}
use Rattle.c_tokens.specs.declared.directive.NameRange.{NameRange}
use Rattle.c_tokens.specs.Characters.{is_blank, is_digit, goes_on_in_name, begins}
use Rattle.c_tokens.specs.Directives.{may_change_layout}
use Rattle.c_lexer.specs.NumberScan.{capped_value}
use Rattle.c_tokens.specs.QuotedScan.{quoted_length}

-- are there only flags and blanks? May a digit come first?
abbrev pub are_flags : Bool → List ℕ → Bool
are_flags digit_may_come [] = true
are_flags digit_may_come (b ∷ bytes) = if is_blank b then are_flags true bytes else digit_may_come && is_digit b && are_flags true bytes

-- is the rest of a marker well formed?
abbrev pub is_marker_end : Bool → List ℕ → Bool
is_marker_end worded rest = if worded then list_all is_blank rest else are_flags false rest

abbrev pub renumbers_if : Bool → ℕ → Option NameRange → Option Directive
renumbers_if false number name = None
renumbers_if true number name = Some (Renumbers number name)

-- a name of so many bytes, with its closing quote, that begin at a byte after the '#'
abbrev pub named : Bool → ℕ → ℕ → List ℕ → Option ℕ → Option Directive
named worded number at text None = None
named worded number at text (Some size) = renumbers_if (is_marker_end worded (drop size text)) number (Some (record { from = at; to = at + size - 1 }))

-- after the number
abbrev pub marker_after : Bool → ℕ → ℕ → List ℕ → Option Directive
marker_after worded number at text =
    let n = prefix_len is_blank text in
    if begins (λ b. b == 34) (drop n text)
    then named worded number (at + n + 1) (drop (n + 1) text) (quoted_length 34 false (drop (n + 1) text))
    else renumbers_if (is_marker_end worded text) number None

-- from the number on
abbrev pub marker_at : Bool → ℕ → List ℕ → Option Directive
marker_at worded at text =
    let n = prefix_len is_digit text in
    let number = capped_value 10 (take n text) in
    if begins is_digit text && nat_lt number (2 ^ 31) then marker_after worded number (at + n) (drop n text) else None

-- after the word "line"
abbrev pub line_at : ℕ → List ℕ → Option Directive
line_at at text =
    let n = prefix_len is_blank text in
    if begins is_blank text then marker_at true (at + n) (drop n text) else None

abbrev pub silent_unless : Bool → Option Directive
silent_unless false = Some Silent
silent_unless true = None

-- after the blanks that follow the '#'
abbrev pub directive_after : ℕ → List ℕ → Option Directive
directive_after at text =
    let n = prefix_len goes_on_in_name text in
    if begins is_digit text then marker_at false at text
    else if bytes_eq text [] then Some Silent
    else if bytes_eq (take n text) (codes "pragma") then silent_unless (may_change_layout (drop n text))
    else if bytes_eq (take n text) (codes "line") then line_at (at + n) (drop n text)
    else None

-- the directive that the bytes after '#' are
unfoldable pub directive_in : List ℕ → Option Directive
directive_in content = let n = prefix_len is_blank content in directive_after n (drop n content)
