-- The lines of a text that was joined of lines.
use Rattle.std.proofs.Common.{◌≡◌, ℕ, ◌≤◌, Bool, true, false, List, [], ◌∷◌, ◌++◌, refl, sym, ap, ◌∙◌, arith, append_assoc, append-nil}
use Rattle.std.specs.Prelude.{codes, decimal, flat_map, if◌then◌else◌, map, ◌==◌}
use Rattle.std.specs.List.{All, AllByRecursion, list_all}
use Rattle.std.proofs.lemmas.Bool.{and_parts}
use Rattle.std.proofs.lemmas.Bool.Decides.{nat_tests}
use Rattle.std.proofs.lemmas.List.Elements.{All-head, All-tail}
use Rattle.c_typed.specs.declared.run_counts.counts.Counts.{Counts}
use Rattle.c_typed.specs.declared.run_counts.counts.FunCount.{FunCount}
use Rattle.profile_file.specs.Text.{HasLines, IsName, IsProfile, ended, first_line, function_line, function_lines, goes_on_in_name, greatest_count, last_line}
use Rattle.profile_file.specs.Text.{loop_line, profile_lines, profile_text, text_of}
use Rattle.profile_file.specs.Lines.{lines_of, with_byte}
use Rattle.profile_file.specs.Reading.{is_digit}
use Rattle.profile_file.proofs.Fronts.{decimal_digits}

-- ---- lines with no line feed in them

abbrev pub NoFeed : List ℕ → Type 0
NoFeed line = AllByRecursion (λ b. (b == 10) ≡ false) line

no_feed-append : (xs ys : List ℕ) → NoFeed xs → NoFeed ys → NoFeed (xs ++ ys)
no_feed-append [] ys h g = g
no_feed-append (x ∷ xs) ys h g = (h.0, no_feed-append xs ys h.1 g)

no_feed_by : (p : ℕ → Bool) → ((b : ℕ) → p b ≡ true → (b == 10) ≡ false) → (xs : List ℕ) → list_all p xs ≡ true → NoFeed xs
no_feed_by p f [] h = tt
no_feed_by p f (x ∷ xs) h = let parts = and_parts (p x) (list_all p xs) h in (f x parts.0, no_feed_by p f xs parts.1)

digit_no_feed : (b : ℕ) → is_digit b ≡ true → (b == 10) ≡ false
digit_no_feed b h = grind (arith, nat_tests)

name_no_feed : (b : ℕ) → goes_on_in_name b ≡ true → (b == 10) ≡ false
name_no_feed b h = grind (arith, nat_tests)

number_no_feed : (n : ℕ) → n ≤ greatest_count → NoFeed (decimal n)
number_no_feed n le = no_feed_by is_digit digit_no_feed (decimal n) (decimal_digits n le)

loop_no_feed : (n : ℕ) → n ≤ greatest_count → NoFeed (loop_line n)
loop_no_feed n le = no_feed-append (codes "loop ") (decimal n) (refl, (refl, (refl, (refl, (refl, tt))))) (number_no_feed n le)

function_no_feed : (name : List ℕ) (n : ℕ) → IsName name → n ≤ greatest_count → NoFeed (function_line name n)
function_no_feed name n is le =
    no_feed-append (codes "fun ") (name ++ 32 ∷ decimal n) (refl, (refl, (refl, (refl, tt))))
    (no_feed-append name (32 ∷ decimal n) (no_feed_by goes_on_in_name name_no_feed name is.goes_on) (refl, number_no_feed n le))

abbrev AllNoFeed : List (List ℕ) → Type 0
AllNoFeed lines = AllByRecursion NoFeed lines

all-append : (P : List ℕ → Type 0) (xs ys : List (List ℕ)) → AllByRecursion P xs → AllByRecursion P ys → AllByRecursion P (xs ++ ys)
all-append P [] ys h g = g
all-append P (x ∷ xs) ys h g = (h.0, all-append P xs ys h.1 g)

-- each line of functions, where each line of one function is so
loops_all : (P : List ℕ → Type 0) → ((n : ℕ) → n ≤ greatest_count → P (loop_line n)) → (ns : List ℕ) → All (λ n. n ≤ greatest_count) ns → AllByRecursion P (map loop_line ns)
loops_all P f [] h = tt
loops_all P f (n ∷ ns) h = (f n (All-head (λ m. m ≤ greatest_count) n ns h), loops_all P f ns (All-tail (λ m. m ≤ greatest_count) n ns h))

pub functions_all : (P : List ℕ → Type 0) → ((name : List ℕ) (n : ℕ) → IsName name → n ≤ greatest_count → P (function_line name n))
    → ((n : ℕ) → n ≤ greatest_count → P (loop_line n)) → (fs : List FunCount) → All HasLines fs → AllByRecursion P (flat_map function_lines fs)
functions_all P f g [] h = tt
functions_all P f g (c ∷ fs) h =
    let has = All-head HasLines c fs h in
    all-append P (function_lines c) (flat_map function_lines fs) (f c.name c.entries has.name has.entries, loops_all P g c.loops has.loops)
    (functions_all P f g fs (All-tail HasLines c fs h))

lines_no_feed : (fs : List FunCount) → All HasLines fs → AllNoFeed (flat_map function_lines fs)
lines_no_feed fs h = functions_all NoFeed function_no_feed loop_no_feed fs h

first_no_feed : NoFeed first_line
first_no_feed = (refl, (refl, (refl, (refl, (refl, (refl, (refl, (refl, (refl, (refl, (refl, (refl, (refl, (refl, tt))))))))))))))

last_no_feed : NoFeed last_line
last_no_feed = (refl, (refl, (refl, tt)))

-- ---- they are the lines of their text

split_line : (line rest : List ℕ) → NoFeed line → lines_of (ended line ++ rest) ≡ ended line ∷ lines_of rest
split_line [] rest h = refl
split_line (b ∷ line) rest h = rw h.0 (ap (with_byte b) (split_line line rest h.1))

split_lines : (ls : List (List ℕ)) (rest : List ℕ) → AllNoFeed ls → lines_of (text_of ls ++ rest) ≡ map ended ls ++ lines_of rest
split_lines [] rest h = refl
split_lines (l ∷ ls) rest h =
    ap lines_of (append_assoc (ended l) (text_of ls) rest) ∙ split_line l (text_of ls ++ rest) h.0 ∙ ap (λ xs. ended l ∷ xs) (split_lines ls rest h.1)

-- those that were read
abbrev pub read_lines : List FunCount → List (List ℕ)
read_lines fs = first_line ∷ flat_map function_lines fs

pub lines_read : (fs : List FunCount) (rest : List ℕ) → All HasLines fs → lines_of (text_of (read_lines fs) ++ rest) ≡ map ended (read_lines fs) ++ lines_of rest
lines_read fs rest h = split_lines (read_lines fs) rest (first_no_feed, lines_no_feed fs h)

pub lines_whole : (c : Counts) (rest : List ℕ) → IsProfile c → lines_of (profile_text c ++ rest) ≡ map ended (profile_lines c) ++ lines_of rest
lines_whole c rest h = split_lines (profile_lines c) rest
    (first_no_feed, all-append NoFeed (flat_map function_lines c.functions) (last_line ∷ []) (lines_no_feed c.functions h) (last_no_feed, tt))

pub lines_of_profile : (c : Counts) → IsProfile c → lines_of (profile_text c) ≡ map ended (profile_lines c) ++ [] ∷ []
lines_of_profile c h = ap lines_of (sym (append-nil (profile_text c))) ∙ lines_whole c [] h

-- ---- the first line of any text

pub a_first_line : (text : List ℕ) → (line : List ℕ) × (more : List (List ℕ)) × (lines_of text ≡ line ∷ more)
a_first_line [] = ([], [], refl)
a_first_line (b ∷ text) = go (b == 10) (a_first_line text)
  where
    go : (c : Bool) → ((line : List ℕ) × (more : List (List ℕ)) × (lines_of text ≡ line ∷ more))
        → (line : List ℕ) × (more : List (List ℕ)) × ((if c then (10 ∷ []) ∷ lines_of text else with_byte b (lines_of text)) ≡ line ∷ more)
    go true found = (10 ∷ [], lines_of text, refl)
    go false found = (b ∷ found.0, found.1, ap (with_byte b) found.2)

-- no text of at least one byte has an empty line in front
pub not_empty : (b : ℕ) (text : List ℕ) (more : List (List ℕ)) → lines_of (b ∷ text) ≡ [] ∷ more → ⊥
not_empty b text more e = go (b == 10) (a_first_line text) e
  where
    differ : (x : ℕ) (xs : List ℕ) (yss zss : List (List ℕ)) → (x ∷ xs) ∷ yss ≡ [] ∷ zss → ⊥
    differ x xs yss zss f = cc

    go : (c : Bool) → ((line : List ℕ) × (more : List (List ℕ)) × (lines_of text ≡ line ∷ more))
        → (if c then (10 ∷ []) ∷ lines_of text else with_byte b (lines_of text)) ≡ [] ∷ more → ⊥
    go true found f = differ 10 [] (lines_of text) more f
    go false found f = differ b found.0 found.1 more (sym (ap (with_byte b) found.2) ∙ f)

nothing_ended : (line : List ℕ) → [] ≡ ended line → ⊥
nothing_ended [] e = cc
nothing_ended (b ∷ line) e = cc

same_head : (x y : List ℕ) (xs ys : List (List ℕ)) → x ∷ xs ≡ y ∷ ys → x ≡ y
same_head x y xs ys e = cc

-- where a line with its line feed is in front, the text begins with it

is_feed : (b : ℕ) → (b == 10) ≡ true → b ≡ 10
is_feed b h = grind (arith, nat_tests)

no_feed_is : (b : ℕ) → (b == 10) ≡ false → b ≡ 10 → ⊥
no_feed_is b h e = grind (arith, nat_tests)

first_byte : (b c : ℕ) (xs ys : List ℕ) → b ∷ xs ≡ c ∷ ys → b ≡ c
first_byte b c xs ys e = cc

other_bytes : (b c : ℕ) (xs ys : List ℕ) → b ∷ xs ≡ c ∷ ys → xs ≡ ys
other_bytes b c xs ys e = cc

abbrev BeginsWithLine : List ℕ → List ℕ → Type 0
BeginsWithLine text line = (rest : List ℕ) × (text ≡ ended line ++ rest)

behind_feed : (b : ℕ) (text line : List ℕ) (more : List (List ℕ)) → b ≡ 10 → (10 ∷ []) ∷ lines_of text ≡ ended line ∷ more → BeginsWithLine (b ∷ text) line
behind_feed b text line more is e = (text, ap (λ c. c ∷ text) is ∙ ap (λ l. l ++ text) (same_head (10 ∷ []) (ended line) (lines_of text) more e))

behind_byte : (b : ℕ) (text line r : List ℕ) (rs : List (List ℕ)) → (b ≡ 10 → ⊥) → lines_of text ≡ r ∷ rs → b ∷ r ≡ ended line
    → ((l : List ℕ) (m : List (List ℕ)) → lines_of text ≡ ended l ∷ m → BeginsWithLine text l) → BeginsWithLine (b ∷ text) line
behind_byte b text [] r rs not found e later = absurd (not (first_byte b 10 r [] e))
behind_byte b text (c ∷ line) r rs not found e later =
    let here = later line rs (found ∙ ap (λ l. l ∷ rs) (other_bytes b c r (ended line) e)) in
    (here.0, ap (λ t. b ∷ t) here.1 ∙ ap (λ x. x ∷ ended line ++ here.0) (first_byte b c r (ended line) e))

pub line_in_front : (text line : List ℕ) (more : List (List ℕ)) → lines_of text ≡ ended line ∷ more → BeginsWithLine text line
line_in_front [] line more e = absurd (nothing_ended line (same_head [] (ended line) [] more e))
line_in_front (b ∷ text) line more e = go (b == 10) refl e (λ l m f. line_in_front text l m f) (a_first_line text)
  where
    go : (c : Bool) → (b == 10) ≡ c → (if c then (10 ∷ []) ∷ lines_of text else with_byte b (lines_of text)) ≡ ended line ∷ more
        → ((l : List ℕ) (m : List (List ℕ)) → lines_of text ≡ ended l ∷ m → BeginsWithLine text l)
        → ((r : List ℕ) × (rs : List (List ℕ)) × (lines_of text ≡ r ∷ rs)) → BeginsWithLine (b ∷ text) line
    go true h f later found = behind_feed b text line more (is_feed b h) f
    go false h f later found = behind_byte b text line found.0 found.1 (no_feed_is b h) found.2
        (same_head (b ∷ found.0) (ended line) found.1 more (sym (ap (with_byte b) found.2) ∙ f)) later
