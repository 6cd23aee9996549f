-- Tags, each where it stands first.
use Rattle.std.specs.Prelude.{◌≡◌, ℕ, List, [], ◌∷◌, ◌++◌, map, if◌then◌else◌, Option, Some, None}
use Rattle.std.specs.Global.{Vec}
use Rattle.std.specs.Str.{bytes_eq}
use Rattle.c_erasure.specs.Scopes.{Tag}
use Rattle.c_erasure.specs.Marks.{Mark, a_tag, an_end, a_name, is_among}
use Rattle.c_scopes.specs.declared.syntax_tags.table.Known.{Known}
use Rattle.c_scopes.specs.declared.syntax_tags.table.TagMark.{TagMark}
use Rattle.c_scopes.specs.SyntaxTags.Keys.{found_at}
use Rattle.c_scopes.specs.SyntaxTags.Names.{with_new}

abbrev pub tag_of : TagMark → Tag
tag_of t = record { name = t.name.now; place = t.place; from = t.from; is_enumeration = t.is_enumeration }

abbrev pub tag_of_entry : Vec ℕ × Known → Tag
tag_of_entry e = record { name = e.0.items; place = e.1.place; from = e.1.from; is_enumeration = e.1.is_enumeration }

abbrev pub tags_of_entries : List (Vec ℕ × Known) → List Tag
tags_of_entries entries = map tag_of_entry entries

-- no two entries have one name
abbrev pub AreApart : List (Vec ℕ × Known) → Type 0
AreApart [] = Unit {0}
AreApart (e ∷ entries) = (found_at entries e.0.items ≡ None) × AreApart entries

-- where a tag stands first
abbrev pub place_of_tag : List Tag → List ℕ → Option ℕ
place_of_tag [] x = None
place_of_tag (t ∷ tags) x = if bytes_eq t.name x then Some t.place else place_of_tag tags x

-- with a tag that does not stand before
abbrev pub with_first : List Tag → Tag → List Tag
with_first tags t = if is_among (map (λ t. t.name) tags) t.name then tags else tags ++ t ∷ []

-- ---- mark by mark

abbrev pub after_tag : List Tag → Mark → List Tag
after_tag tags (a_tag t) = with_first tags t
after_tag tags (an_end tag right) = tags
after_tag tags (a_name from) = tags

abbrev pub after_structure : List (List ℕ) → Mark → List (List ℕ)
after_structure names (a_tag t) = if t.is_enumeration then names else with_new names t.name
after_structure names (an_end tag right) = names
after_structure names (a_name from) = names
