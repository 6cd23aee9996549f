-- Tags as they are collected, mark by mark.
use Rattle.std.proofs.Common.{◌≡◌, ℕ, zero, suc, ◌≤◌, length, drop, arith, List, [], ◌∷◌, ◌++◌, map, filter, Bool, true, false, not, ◌||◌, refl, sym, ap}
use Rattle.std.proofs.Common.{◌∙◌, append_assoc, append-nil, if◌then◌else◌}
use Rattle.std.specs.Prelude.{fold}
use Rattle.std.specs.Str.{bytes_eq}
use Rattle.c_erasure.specs.Scopes.{Tag}
use Rattle.c_erasure.specs.Marks.{Mark, a_tag, an_end, a_name, tags_in, is_among, firsts, defined_in, undefined_in}
use Rattle.c_scopes.specs.SyntaxTags.Names.{with_new}
use Rattle.c_scopes.specs.SyntaxTags.Tables.{after_tag, after_structure}

abbrev names_of : List Tag → List (List ℕ)
names_of tags = map (λ t. t.name) tags

-- two lists have the same names
record HaveSame (a b : List (List ℕ)) : Type 0 where
  pub same : (x : List ℕ) → is_among a x ≡ is_among b x

among_more : (names : List (List ℕ)) (y x : List ℕ) → (bytes_eq x y || is_among names x) ≡ is_among (names ++ y ∷ []) x
among_more [] y x = refl
among_more (name ∷ names) y x = by (bytes_eq x name) (bytes_eq x y) (is_among names x) (among_more names y x)
  where
    by : (a b c : Bool) → (b || c) ≡ is_among (names ++ y ∷ []) x → (b || (a || c)) ≡ (a || is_among (names ++ y ∷ []) x)
    by true true c h = refl
    by true false c h = refl
    by false b c h = h

one_same : (known names : List (List ℕ)) (y : List ℕ) → HaveSame known names → HaveSame (y ∷ known) (names ++ y ∷ [])
one_same known names y s = record { same = λ x. ap (λ b. bytes_eq x y || b) (s.same x) ∙ among_more names y x }

names_more : (tags : List Tag) (t : Tag) → names_of (tags ++ t ∷ []) ≡ names_of tags ++ t.name ∷ []
names_more [] t = refl
names_more (u ∷ tags) t = ap (λ more. u.name ∷ more) (names_more tags t)

-- ---- tags

firsts_after : (known : List (List ℕ)) (tags : List Tag) (marks : List Mark) → HaveSame known (names_of tags)
    → fold after_tag tags marks ≡ tags ++ firsts known (tags_in marks)
firsts_after known tags [] s = sym (append-nil tags)
firsts_after known tags (an_end tag right ∷ marks) s = firsts_after known tags marks s
firsts_after known tags (a_name from ∷ marks) s = firsts_after known tags marks s
firsts_after known tags (a_tag t ∷ marks) s =
    by (is_among known t.name) (is_among (names_of tags) t.name) (s.same t.name) (firsts_after known tags marks s)
    (firsts_after (t.name ∷ known) (tags ++ t ∷ []) marks
    (record { same = λ x. (one_same known (names_of tags) t.name s).same x ∙ ap (λ all. is_among all x) (sym (names_more tags t)) }))
  where
    by : (a b : Bool) → a ≡ b → fold after_tag tags marks ≡ tags ++ firsts known (tags_in marks)
        → fold after_tag (tags ++ t ∷ []) marks ≡ (tags ++ t ∷ []) ++ firsts (t.name ∷ known) (tags_in marks)
        → fold after_tag (if b then tags else tags ++ t ∷ []) marks
        ≡ tags ++ (if a then firsts known (tags_in marks) else t ∷ firsts (t.name ∷ known) (tags_in marks))
    by true true e h k = h
    by false false e h k = k ∙ append_assoc tags (t ∷ []) (firsts (t.name ∷ known) (tags_in marks))
    by true false e h k = cc
    by false true e h k = cc

pub first_tags : (marks : List Mark) → fold after_tag [] marks ≡ firsts [] (tags_in marks)
first_tags marks = firsts_after [] [] marks (record { same = λ x. refl })

-- ---- structures

structures_after : (known names : List (List ℕ)) (marks : List Mark) → HaveSame known names
    → fold after_structure names marks ≡ names ++ names_of (firsts known (filter (λ t. not t.is_enumeration) (tags_in marks)))
structures_after known names [] s = sym (append-nil names)
structures_after known names (an_end tag right ∷ marks) s = structures_after known names marks s
structures_after known names (a_name from ∷ marks) s = structures_after known names marks s
structures_after known names (a_tag t ∷ marks) s =
    by t.is_enumeration (structures_after known names marks s)
    (structures_after (t.name ∷ known) (names ++ t.name ∷ []) marks (one_same known names t.name s))
  where
    structures : List Tag
    structures = filter (λ t. not t.is_enumeration) (tags_in marks)

    here : (a b : Bool) → a ≡ b → fold after_structure names marks ≡ names ++ names_of (firsts known structures)
        → fold after_structure (names ++ t.name ∷ []) marks ≡ (names ++ t.name ∷ []) ++ names_of (firsts (t.name ∷ known) structures)
        → fold after_structure (if b then names else names ++ t.name ∷ []) marks
        ≡ names ++ names_of (if a then firsts known structures else t ∷ firsts (t.name ∷ known) structures)
    here true true e h k = h
    here false false e h k = k ∙ append_assoc names (t.name ∷ []) (names_of (firsts (t.name ∷ known) structures))
    here true false e h k = cc
    here false true e h k = cc

    by : (c : Bool) → fold after_structure names marks ≡ names ++ names_of (firsts known structures)
        → fold after_structure (names ++ t.name ∷ []) marks ≡ (names ++ t.name ∷ []) ++ names_of (firsts (t.name ∷ known) structures)
        → fold after_structure (if c then names else with_new names t.name) marks
        ≡ names ++ names_of (firsts known (if not c then t ∷ structures else structures))
    by true h k = h
    by false h k = here (is_among known t.name) (is_among names t.name) (s.same t.name) h k

pub other_structures : (marks : List Mark) → fold after_structure (defined_in marks) marks ≡ defined_in marks ++ undefined_in marks
other_structures marks = structures_after (defined_in marks) (defined_in marks) marks (record { same = λ x. refl })

-- ---- at the end of a loop

pub none_left : {A : Type 0} (xs : List A) (n : ℕ) → length xs ≤ n → drop n xs ≡ []
none_left [] zero h = refl
none_left [] (suc n) h = refl
none_left (x ∷ xs) zero h = absurd (omega arith)
none_left (x ∷ xs) (suc n) h = none_left xs n (omega arith)
