-- Names: what passes the reader's test is a name.
use Rattle.std.proofs.Common.{◌≡◌, ℕ, true, false, not, List, [], length, Option, Some, None, refl, sym, ap, subst, ◌∙◌, arith}
use Rattle.std.specs.Prelude.{◌≢◌, ◌&&◌, is_some, nat_le}
use Rattle.std.specs.List.{list_all}
use Rattle.std.proofs.lemmas.Bool.{and_parts}
use Rattle.std.proofs.lemmas.Bool.Decides.{nat_tests}
use Rattle.lay_base.specs.Keywords.{keyword_text}
use Rattle.lay_base.specs.declared.faults.Keyword.{Keyword}
use Rattle.lay_base.specs.KeywordScan.{keyword_of}
use Rattle.lay_base.proofs.Spellings.{keyword_found, keyword_taken}
use Rattle.profile_file.specs.Text.{IsName, begins_name, goes_on_in_name}
use Rattle.profile_file.specs.Reading.{is_name}

no_keyword_passes : (name : List ℕ) → ((keyword : Keyword) → name ≡ keyword_text keyword → ⊥) → not (is_some (keyword_of name)) ≡ true
no_keyword_passes name never = go (keyword_of name) refl
  where
    go : (found : Option Keyword) → keyword_of name ≡ found → not (is_some found) ≡ true
    go (Some keyword) e = absurd (never keyword (keyword_taken name keyword e))
    go None e = refl

is_no_keyword : (name : List ℕ) → begins_name name ≡ true → not (is_some (keyword_of name)) ≡ true → (keyword : Keyword) → name ≡ keyword_text keyword → ⊥
is_no_keyword name begins h keyword e =
    let some : keyword_text keyword ≢ [] = λ none. let f : false ≡ true = subst (λ l. begins_name l ≡ true) (e ∙ none) begins in cc in
    let passes : not true ≡ true = sym (ap (λ found. not (is_some found)) (ap keyword_of e ∙ keyword_found keyword some)) ∙ h in cc

pub name_passes : (name : List ℕ) → IsName name → is_name name ≡ true
name_passes name h =
    let short : nat_le (length name) 255 ≡ true = (let s = h.short in grind (arith, nat_tests)) in
    rw (h.begins, h.goes_on, short, no_keyword_passes name h.no_keyword) refl

pub is_a_name : (name : List ℕ) → is_name name ≡ true → IsName name
is_a_name name h =
    let first = and_parts (begins_name name) (list_all goes_on_in_name name && (nat_le (length name) 255 && not (is_some (keyword_of name)))) h in
    let second = and_parts (list_all goes_on_in_name name) (nat_le (length name) 255 && not (is_some (keyword_of name))) first.1 in
    let third = and_parts (nat_le (length name) 255) (not (is_some (keyword_of name))) second.1 in
    record {
      begins = first.0;
      goes_on = second.0;
      short = (let s = third.0 in grind (arith, nat_tests));
      no_keyword = is_no_keyword name first.0 third.1;
    }
