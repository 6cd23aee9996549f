-- Codes, exit statuses and texts of refusals: one table, by its columns.
use Rattle.std.specs.Prelude.{◌≡◌, ℕ, ◌+◌, ◌/◌, ◌%◌, ◌^◌, nat_lt, true, if◌then◌else◌, List, [], ◌∷◌, ◌++◌, map, codes, decimal}
use Rattle.std.specs.Prelude.{Option, Some, None, is_some}
use Rattle.std.specs.List.{concat}
use Rattle.lay_base.specs.declared.place.Place.{Place}
use Rattle.lay_base.specs.declared.faults.Stale.{Stale as Difference}
use Rattle.lay_base.specs.declared.faults.StaleKind.{StaleKind}
use Rattle.lay_base.specs.declared.faults.StaleKind.TheVariants.{Functions, Order, Loops, Arms}
use Rattle.refusals.specs.declared.refusal.Refusal.{Refusal}
use Rattle.refusals.specs.declared.refusal.Refusal.TheVariants.{BadByte, BadLiteral, Unclosed, TooWide, NoParse, Unsupported, TooBig, IllTyped}
use Rattle.refusals.specs.declared.refusal.Refusal.TheVariants.{Undeclared, Redeclared, Missing, Twice, TagClash, NoMain, Limit, Undefined, TurnLimit}
use Rattle.refusals.specs.declared.refusal.Refusal.TheVariants.{Room, ReadFault, WriteFault, BadProfile, Stale, BadElf, Trap, Break, StepLimit, Usage}
use Rattle.refusals.specs.declared.refusal.Refusal.TheVariants.{FileFault, TooLong, Memory, Unread, NameClash, NotBuilt}
use Rattle.lay_base.specs.Keywords.{keyword_text}
use Rattle.refusals.specs.Names.{rule_name, limit_name, room_name, undefined_name, trap_name, field_name}

-- ---- codes and exit statuses

-- the code of a refusal, and its exit status: 120 for words that ask for nothing, 121 for files and
-- streams, 122 for a program that is not compiled, 123 for a profile, 124 for an ELF file, 125 for
-- a run that is undefined or trapped, 126 for a limit of a run, 127 for want of memory
abbrev pub numbers : Refusal → ℕ × ℕ
numbers (BadByte place) = (1, 122)
numbers (BadLiteral place) = (2, 122)
numbers (Unclosed place) = (3, 122)
numbers (TooWide place) = (4, 122)
numbers (NoParse place) = (5, 122)
numbers (Unsupported keyword place) = (6, 122)
numbers (TooBig place) = (7, 122)
numbers (IllTyped rule place) = (8, 122)
numbers (Undeclared name place) = (9, 122)
numbers (Redeclared name place earlier) = (10, 122)
numbers (Missing name) = (11, 122)
numbers (Twice name place earlier) = (12, 122)
numbers (TagClash tag place earlier) = (13, 122)
numbers NoMain = (14, 122)
numbers (Limit which counted) = (15, 122)
numbers (Undefined kind place) = (17, 125)
numbers (TurnLimit turns) = (18, 126)
numbers (Room what counted) = (19, 126)
numbers ReadFault = (20, 121)
numbers WriteFault = (21, 121)
numbers (BadProfile number) = (22, 123)
numbers (Stale name stale) = (23, 123)
numbers (BadElf field found) = (24, 124)
numbers (Trap kind pc) = (25, 125)
numbers (Break pc) = (26, 125)
numbers (StepLimit steps) = (27, 126)
numbers Usage = (28, 120)
numbers (FileFault name) = (29, 121)
numbers (TooLong name) = (30, 121)
numbers (Memory want) = (31, 127)
numbers Unread = (31, 127)
numbers (NameClash name place earlier) = (32, 122)
numbers (NotBuilt name) = (33, 122)

-- the number by which a refusal is known
abbrev pub code : Refusal → ℕ
code refusal = (numbers refusal).0

-- the status with which the command exits
abbrev pub status : Refusal → ℕ
status refusal = (numbers refusal).1

-- ---- texts

-- the pieces of a message as a line
unfoldable pub line : List (List ℕ) → List ℕ
line pieces = codes "layc: " ++ (concat pieces ++ codes "\n")

-- the same after the place FILE:LINE of which it speaks
unfoldable pub line_at : List ℕ → List (List ℕ) → List ℕ
line_at at pieces = line (at ∷ codes ": " ∷ pieces)

-- a digit below 16, in lower case
abbrev pub hexadecimal_digit : ℕ → ℕ
hexadecimal_digit digit = if nat_lt digit 10 then 48 + digit else (87 + digit)

-- the eight hexadecimal digits of a number below 2 ^ 32, from the highest on
abbrev pub hexadecimal : ℕ → List ℕ
hexadecimal n = map (λ k. hexadecimal_digit (n / 16 ^ k % 16)) (7 ∷ 6 ∷ 5 ∷ 4 ∷ 3 ∷ 2 ∷ 1 ∷ 0 ∷ [])

-- in what a profile differs from the program, at a function of that name
abbrev pub difference : StaleKind → List ℕ → List ℕ
difference Functions name = codes "functions"
difference Order name = codes "place of " ++ name
difference Loops name = codes "loops of " ++ name
difference Arms name = codes "arms of " ++ name

-- the line of a profile of another program, at a function of that name
abbrev pub stale_line : List ℕ → Difference → List ℕ
stale_line name stale = line
    (codes "stale profile: " ∷ difference stale.kind name
    ∷ codes ": " ∷ decimal stale.expected ∷ codes " in the program, "
    ∷ decimal stale.found ∷ codes " in the profile" ∷ [])

-- how the program is called
unfoldable pub usage : List ℕ
usage = concat
    (codes "usage: layc compile -o OUT [--profile P] [--plain] [--heap MIB] [--stack MIB] FILE...\n"
    ∷ codes "       layc profile -o P [--turns N] FILE...\n"
    ∷ codes "       layc interp [--turns N] FILE...\n"
    ∷ codes "       layc run [--steps N] ELF\n" ∷ [])

-- the text of a refusal, `at` and `first` being the texts FILE:LINE of its first place and its second
unfoldable pub refusal_text : (at first : List ℕ) → Refusal → List ℕ
refusal_text at first (BadByte place) = line_at at (codes "unexpected byte" ∷ [])
refusal_text at first (BadLiteral place) = line_at at (codes "bad literal" ∷ [])
refusal_text at first (Unclosed place) = line_at at (codes "not closed" ∷ [])
refusal_text at first (TooWide place) = line_at at (codes "literal or name too wide" ∷ [])
refusal_text at first (NoParse place) = line_at at (codes "syntax error" ∷ [])
refusal_text at first (Unsupported keyword place) = line_at at (codes "keyword " ∷ keyword_text keyword ∷ codes " is not supported" ∷ [])
refusal_text at first (TooBig place) = line_at at (codes "type too big" ∷ [])
refusal_text at first (IllTyped rule place) = line_at at (codes "type rule " ∷ rule_name rule ∷ codes " broken" ∷ [])
refusal_text at first (Undeclared name place) = line_at at (codes "undeclared name " ∷ name ∷ [])
refusal_text at first (Redeclared name place earlier) = line_at at (name ∷ codes " declared again, first at " ∷ first ∷ [])
refusal_text at first (Missing name) = line (codes "no definition of " ∷ name ∷ [])
refusal_text at first (Twice name place earlier) = line_at at (name ∷ codes " defined again, first at " ∷ first ∷ [])
refusal_text at first (TagClash tag place earlier) = line_at at (codes "record " ∷ tag ∷ codes " differs from " ∷ first ∷ [])
refusal_text at first NoMain = line (codes "no function main" ∷ [])
refusal_text at first (Limit which counted) = line (codes "limit " ∷ limit_name which ∷ codes " passed: " ∷ decimal counted ∷ [])
refusal_text at first (Undefined kind place) = line_at at (codes "undefined: " ∷ undefined_name kind ∷ [])
refusal_text at first (TurnLimit turns) = line (codes "turn limit " ∷ decimal turns ∷ codes " reached" ∷ [])
refusal_text at first (Room what counted) = line (codes "room " ∷ room_name what ∷ codes " passed: " ∷ decimal counted ∷ [])
refusal_text at first ReadFault = line (codes "read failed" ∷ [])
refusal_text at first WriteFault = line (codes "write failed" ∷ [])
refusal_text at first (BadProfile number) = line (codes "bad profile at line " ∷ decimal number ∷ [])
refusal_text at first (Stale name stale) = stale_line name stale
refusal_text at first (BadElf field found) = line (codes "bad ELF: " ∷ field_name field ∷ codes " " ∷ decimal found ∷ [])
refusal_text at first (Trap kind pc) = line (codes "trap " ∷ trap_name kind ∷ codes " at 0x" ∷ hexadecimal pc ∷ [])
refusal_text at first (Break pc) = line (codes "out of room at 0x" ∷ hexadecimal pc ∷ [])
refusal_text at first (StepLimit steps) = line (codes "step limit " ∷ decimal steps ∷ codes " reached" ∷ [])
refusal_text at first Usage = usage
refusal_text at first (FileFault name) = line (codes "cannot read " ∷ name ∷ [])
refusal_text at first (TooLong name) = line (name ∷ codes " is too long" ∷ [])
refusal_text at first (Memory want) = line (codes "out of memory" ∷ [])
refusal_text at first Unread = line (codes "out of memory" ∷ [])
refusal_text at first (NameClash name place earlier) = line_at at (codes "type of " ∷ name ∷ codes " differs from " ∷ first ∷ [])
refusal_text at first (NotBuilt name) = line (name ∷ codes ": form not built yet" ∷ [])

-- ---- places

-- the place of which a refusal speaks, and that of the first definition where it names two
abbrev pub places : Refusal → Option Place × Option Place
places (BadByte place) = (Some place, None)
places (BadLiteral place) = (Some place, None)
places (Unclosed place) = (Some place, None)
places (TooWide place) = (Some place, None)
places (NoParse place) = (Some place, None)
places (Unsupported keyword place) = (Some place, None)
places (TooBig place) = (Some place, None)
places (IllTyped rule place) = (Some place, None)
places (Undeclared name place) = (Some place, None)
places (Redeclared name place earlier) = (Some place, Some earlier)
places (Twice name place earlier) = (Some place, Some earlier)
places (TagClash tag place earlier) = (Some place, Some earlier)
places (Undefined kind place) = (Some place, None)
places (NameClash name place earlier) = (Some place, Some earlier)
places _ = (None, None)

abbrev pub HasPlace : Refusal → Type 0
HasPlace refusal = is_some (places refusal).0 ≡ true
