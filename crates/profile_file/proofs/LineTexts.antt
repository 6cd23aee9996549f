-- Lines of functions and loops, as the reader finds them and as the text has them.
use Rattle.std.proofs.Common.{◌≡◌, ℕ, ◌+◌, ◌≤◌, ◌<◌, List, [], ◌∷◌, ◌++◌, length, Option, Some, None, refl, sym, ap, ◌∙◌, subst, arith, append_assoc}
use Rattle.std.proofs.Common.{append-nil}
use Rattle.std.specs.Prelude.{codes, decimal, map, option_map}
use Rattle.std.specs.Option.{option_and_then}
use Rattle.std.proofs.lemmas.List.{length-append, length-map}
use Rattle.c_typed.specs.declared.run_counts.counts.FunCount.{FunCount}
use Rattle.profile_file.specs.Text.{IsName, ended, function_line, greatest_count, loop_line, text_of}
use Rattle.profile_file.specs.Reading.{after, AreLoops, count_at, entries_at, function_at, IsFunction, loop_at, name_at}
use Rattle.profile_file.proofs.Fronts.{after_front, after_taken, count_read, count_taken, name_read, name_taken, none_some, some_same}
use Rattle.profile_file.proofs.Texts.{text_longer, text_of-append}

-- ---- the texts, grouped as they are read

loop_grouped : (n : ℕ) (more : List ℕ) → ended (loop_line n) ++ more ≡ codes "loop " ++ (decimal n ++ 10 ∷ more)
loop_grouped n more = ap (λ t. codes "loop " ++ t) (append_assoc (decimal n) (10 ∷ []) more)

function_grouped : (name : List ℕ) (n : ℕ) (more : List ℕ) → ended (function_line name n) ++ more ≡ codes "fun " ++ (name ++ 32 ∷ (decimal n ++ 10 ∷ more))
function_grouped name n more = ap (λ t. codes "fun " ++ t)
    (ap (λ t. t ++ more) (append_assoc name (32 ∷ decimal n) (10 ∷ [])) ∙ append_assoc name (32 ∷ (decimal n ++ 10 ∷ [])) more
    ∙ ap (λ t. name ++ 32 ∷ t) (append_assoc (decimal n) (10 ∷ []) more))

-- ---- they are read

pub loop_read : (n : ℕ) (more : List ℕ) → n ≤ greatest_count → loop_at (ended (loop_line n) ++ more) ≡ Some (n, more)
loop_read n more le =
    ap loop_at (loop_grouped n more) ∙ ap (option_and_then count_at) (after_front (codes "loop ") (decimal n ++ 10 ∷ more)) ∙ count_read n more le

pub function_read : (name : List ℕ) (n : ℕ) (more : List ℕ) → IsName name → n ≤ greatest_count
    → function_at (ended (function_line name n) ++ more) ≡ Some (name, n, more)
function_read name n more is le =
    ap function_at (function_grouped name n more)
    ∙ ap (λ t. option_and_then entries_at (option_and_then name_at t)) (after_front (codes "fun ") (name ++ 32 ∷ (decimal n ++ 10 ∷ more)))
    ∙ ap (option_and_then entries_at) (name_read name (decimal n ++ 10 ∷ more) is)
    ∙ ap (option_map (λ counted. (name, counted.0, counted.1))) (count_read n more le)

-- ---- what is read stands there

and_then_taken : {A B : Type 0} (f : A → Option B) (o : Option A) (y : B) → option_and_then f o ≡ Some y → (x : A) × (o ≡ Some x) × (f x ≡ Some y)
and_then_taken f None y e = absurd (none_some y e)
and_then_taken f (Some x) y e = (x, refl, e)

pub loop_taken : (text : List ℕ) (n : ℕ) (more : List ℕ) → loop_at text ≡ Some (n, more) → (n ≤ greatest_count) × (text ≡ ended (loop_line n) ++ more)
loop_taken text n more e =
    let found = and_then_taken count_at (after (codes "loop ") text) (n, more) e in
    let counted = count_taken found.0 n more found.2 in
    (counted.0, after_taken (codes "loop ") text found.0 found.1 ∙ ap (λ t. codes "loop " ++ t) counted.1 ∙ sym (loop_grouped n more))

map_taken : {A B : Type 0} (f : A → B) (o : Option A) (y : B) → option_map f o ≡ Some y → (x : A) × (o ≡ Some x) × (f x ≡ y)
map_taken f None y h = absurd (none_some y h)
map_taken f (Some x) y h = (x, refl, some_same (f x) y h)

pub function_taken : (text name : List ℕ) (n : ℕ) (more : List ℕ) → function_at text ≡ Some (name, n, more)
    → IsName name × (n ≤ greatest_count) × (text ≡ ended (function_line name n) ++ more)
function_taken text name n more e =
    let named = and_then_taken entries_at (option_and_then name_at (after (codes "fun ") text)) (name, n, more) e in
    let found = and_then_taken name_at (after (codes "fun ") text) named.0 named.1 in
    let counted = map_taken (λ counted. (named.0.0, counted.0, counted.1)) (count_at named.0.1) (name, n, more) named.2 in
    let name_is : named.0.0 ≡ name = ap (λ q. q.0) counted.2 in
    let n_is : counted.0.0 ≡ n = ap (λ q. q.1) counted.2 in
    let more_is : counted.0.1 ≡ more = ap (λ q. q.2) counted.2 in
    let a_name = name_taken found.0 named.0.0 named.0.1 found.2 in
    let a_count = count_taken named.0.1 counted.0.0 counted.0.1 counted.1 in (
      subst IsName name_is a_name.0,
      omega (arith, a_count.0, n_is),
      after_taken (codes "fun ") text found.0 found.1 ∙ ap (λ t. codes "fun " ++ t) (a_name.1 ∙ ap (λ t. named.0.0 ++ 32 ∷ t) a_count.1)
          ∙ sym (function_grouped named.0.0 counted.0.0 counted.0.1)
          ∙ ap (λ x. ended (function_line x counted.0.0) ++ counted.0.1) name_is ∙ ap (λ k. ended (function_line name k) ++ counted.0.1) n_is
          ∙ ap (λ t. ended (function_line name n) ++ t) more_is,
    )

-- ---- loops one by one

map-push : (ns : List ℕ) (n : ℕ) → map loop_line (ns ++ n ∷ []) ≡ map loop_line ns ++ loop_line n ∷ []
map-push [] n = refl
map-push (m ∷ ns) n = ap (λ ls. loop_line m ∷ ls) (map-push ns n)

pub loops_more : (text ns rest : List ℕ) (n : ℕ) (more : List ℕ) → text ≡ text_of (map loop_line ns) ++ rest → loop_at rest ≡ Some (n, more)
    → text ≡ text_of (map loop_line (ns ++ n ∷ [])) ++ more
loops_more text ns rest n more is e =
    is ∙ ap (λ t. text_of (map loop_line ns) ++ t) ((loop_taken rest n more e).1)
    ∙ sym (ap (λ ls. text_of ls ++ more) (map-push ns n) ∙ ap (λ t. t ++ more) (text_of-append (map loop_line ns) (loop_line n ∷ []) ∙ ap (λ t. text_of (map loop_line ns) ++ t) (only (loop_line n)))
    ∙ append_assoc (text_of (map loop_line ns)) (ended (loop_line n)) more)
  where
    only : (line : List ℕ) → text_of (line ∷ []) ≡ ended line
    only line = append-nil (ended line)

pub loop_shorter : (rest : List ℕ) (n : ℕ) (more : List ℕ) → loop_at rest ≡ Some (n, more) → length more < length rest
loop_shorter rest n more e =
    let is : length rest ≡ length (ended (loop_line n)) + length more = ap length ((loop_taken rest n more e).1) ∙ length-append (ended (loop_line n)) more in
    let long : 0 < length (ended (loop_line n)) = omega arith in
    omega (arith, is, long)

-- ---- a function with its loops

pub function_whole : (text name : List ℕ) (n : ℕ) (rest : List ℕ) (f : FunCount) (more : List ℕ) → function_at text ≡ Some (name, n, rest)
    → f.name ≡ name → f.entries ≡ n → AreLoops rest f.loops more → IsFunction text f more
function_whole text name n rest f more e name_is n_is loops =
    let taken = function_taken text name n rest e in
    let line = ended (function_line name n) in
    let whole : length text ≡ length line + length rest = ap length taken.2 ∙ length-append line rest in
    let loop_lines : length rest ≡ length (text_of (map loop_line f.loops)) + length more = ap length loops.is ∙ length-append (text_of (map loop_line f.loops)) more in
    let one : length line ≡ length (function_line name n) + 1 = length-append (function_line name n) (10 ∷ []) in
    record {
      few = omega (arith, whole, loop_lines, one, text_longer (map loop_line f.loops), length-map f.loops loop_line);
      is = taken.2 ∙ ap (λ t. ended (function_line name n) ++ t) loops.is
          ∙ sym (append_assoc (ended (function_line name n)) (text_of (map loop_line f.loops)) more)
          ∙ ap (λ x. (ended (function_line x n) ++ text_of (map loop_line f.loops)) ++ more) (sym name_is)
          ∙ ap (λ k. (ended (function_line f.name k) ++ text_of (map loop_line f.loops)) ++ more) (sym n_is);
      has = record { name = subst IsName (sym name_is) taken.0; entries = omega (arith, n_is, taken.1); loops = loops.small };
      stops = loops.stops;
    }
