-- The first specifier that is no keyword.
use Rattle.std.proofs.Common.{◌≤◌, [], subst, sym, ap, ◌∙◌}
use Rattle.c_types.specs.Types.{CType}
use Rattle.c_erasure.specs.Checking.Answers.{Checked}
use Rattle.c_check_expressions.proofs.Answers.{all_passed}
use Rattle.std.proofs.Common.{ℕ, List, ◌<◌, ◌+◌, length, drop, get_or, map}
use Rattle.lay_base.specs.declared.faults.Rule.TheVariants as R
use Rattle.c_ast.specs.declared.operators.SpecifierKeyword.{SpecifierKeyword}
use Rattle.c_ast.specs.declared.expression.Specifier.{Specifier}
use Rattle.c_ast.specs.Views.{specifier_of, specifiers_of}
use Rattle.c_erasure.specs.Checking.Answers.{refused}
use Rattle.c_check_expressions.proofs.Answers.{drop_item}
use Rattle.std.proofs.Common.{◌≡◌, refl}
use Rattle.c_ast.specs.Trees
use Rattle.c_erasure.specs.Scopes.{Scope}
use Rattle.c_erasure.specs.Specifiers.{is_word}
use Rattle.c_erasure.specs.Checking.Finding.{one_of, specified}
use Rattle.std.specs.Prelude.{true, false}

pub one_found : (specifier : Trees.Specifier) (more : Trees.Specifiers) (s : Scope) → is_word specifier ≡ false
    → one_of (Trees.and_specifier specifier more) s ≡ specified specifier s
unfolding one_of
one_found (Trees.plain word at) more s h = cc
one_found (Trees.typename x) more s h = refl
one_found (Trees.struct_named at x) more s h = refl
one_found (Trees.struct_body at x left all right) more s h = refl
one_found (Trees.enum_named at x) more s h = refl
one_found (Trees.enum_body at x left all comma right) more s h = refl

pub keyword_passed : (word : SpecifierKeyword) (at : ℕ) (more : Trees.Specifiers) (s : Scope)
    → one_of (Trees.and_specifier (Trees.plain word at) more) s ≡ one_of more s
unfolding one_of
keyword_passed word at more s = refl

word_passed : (x : Trees.Specifier) (more : Trees.Specifiers) (s : Scope) → is_word x ≡ true → one_of (Trees.and_specifier x more) s ≡ one_of more s
word_passed (Trees.plain word at) more s h = keyword_passed word at more s
word_passed (Trees.typename x) more s h = cc
word_passed (Trees.struct_named at x) more s h = cc
word_passed (Trees.struct_body at x left all right) more s h = cc
word_passed (Trees.enum_named at x) more s h = cc
word_passed (Trees.enum_body at x left all comma right) more s h = cc

pub none_found : (s : Scope) → one_of Trees.no_specifiers s ≡ refused R.Specifiers 0
unfolding one_of
none_found s = refl

-- ---- the same of the specifiers of a program

abbrev pub specifiers_from : ℕ → List Specifier → Trees.Specifiers
specifiers_from i all = specifiers_of (map specifier_of (drop i all))

pub next_is_one : (all : List Specifier) (i : ℕ) (x : Specifier) (s : Scope) → i < length all → x ≡ get_or all i x → is_word (specifier_of x) ≡ false
    → one_of (specifiers_from i all) s ≡ specified (specifier_of x) s
next_is_one all i x s p e h = rw (drop_item all i x p e) (one_found (specifier_of x) (specifiers_from (i + 1) all) s h)

pub next_is_word : (all : List Specifier) (i : ℕ) (x : Specifier) (s : Scope) → i < length all → x ≡ get_or all i x → is_word (specifier_of x) ≡ true
    → one_of (specifiers_from i all) s ≡ one_of (specifiers_from (i + 1) all) s
next_is_word all i x s p e h = rw (drop_item all i x p e) (word_passed (specifier_of x) (specifiers_from (i + 1) all) s h)

-- ---- turns of a loop

pub word_turn : (all items : List Specifier) (i : ℕ) (x : Specifier) (s : Scope) (whole : Checked CType)
    → i < length items → x ≡ get_or items i x → items ≡ all → is_word (specifier_of x) ≡ true
    → one_of (specifiers_from i all) s ≡ whole → one_of (specifiers_from (i + 1) all) s ≡ whole
word_turn all items i x s whole q e same is h =
    let within : i < length all = subst (λ z. i < length z) same q in
    let item : x ≡ get_or all i x = subst (λ z. x ≡ get_or z i x) same e in
    sym (next_is_word all i x s within item is) ∙ h

pub one_turn : (all items : List Specifier) (i : ℕ) (x : Specifier) (s : Scope) (whole : Checked CType)
    → i < length items → x ≡ get_or items i x → items ≡ all → is_word (specifier_of x) ≡ false
    → one_of (specifiers_from i all) s ≡ whole → specified (specifier_of x) s ≡ whole
one_turn all items i x s whole q e same is h =
    let within : i < length all = subst (λ z. i < length z) same q in
    let item : x ≡ get_or all i x = subst (λ z. x ≡ get_or z i x) same e in
    sym (next_is_one all i x s within item is) ∙ h

pub end : (all items : List Specifier) (i : ℕ) (s : Scope) (whole : Checked CType) → length items ≤ i → items ≡ all
    → one_of (specifiers_from i all) s ≡ whole → whole ≡ refused R.Specifiers 0
end all items i s whole q same h =
    let passed : drop i all ≡ [] = all_passed all i (subst (λ z. length z ≤ i) same q) in
    sym h ∙ ap (λ z. one_of (specifiers_of (map specifier_of z)) s) passed ∙ none_found s
