-- Initializers in braces, and those without.
use Rattle.std.proofs.Common.{◌≡◌, ◌≢◌, ◌∙◌, ℕ, ◌+◌, List, [], ◌∷◌, length, get_or, refl, sym, ap, arith, rules, add-one}
use Rattle.std.specs.Prelude.{Option, None, map}
use Rattle.c_types.specs.Types.{CType}
use Rattle.c_ast.specs.Trees
use Rattle.c_ast.specs.declared.expression.Argument.{Argument, the_lemmas}
use Rattle.c_ast.specs.Views.{argument_of, arguments_of, expression_of}
use Rattle.c_erasure.specs.Initializers.{count_of, texts_of}
use Rattle.c_erasure.specs.Scopes.{Scope}
use Rattle.c_erasure.specs.Checking.Answers.{refused}
use Rattle.c_erasure.specs.Checking.Initializers.{one_value}
use Rattle.lay_base.specs.declared.faults.Rule.TheVariants as R
use Rattle.c_check_parts.specs.InitializerParts.Parts.{texts_alone, texts_among, value_alone}

pub no_texts : (all : List Argument) → length all ≢ 1 → texts_among (arguments_of (map argument_of all)) ≡ None
no_texts [] h = refl
no_texts (item ∷ []) h = absurd (h refl)
no_texts (item ∷ other ∷ more) h = refl

pub texts_in_braces : (left : ℕ) (all : Trees.Arguments) (last : Option ℕ) (right : ℕ) → texts_of (Trees.braces left all last right) ≡ texts_among all
texts_in_braces left Trees.no_arguments last right = refl
texts_in_braces left (Trees.and_argument comma (Trees.texts all) Trees.no_arguments) last right = refl
texts_in_braces left (Trees.and_argument comma (Trees.texts all) (Trees.and_argument other a more)) last right = refl
texts_in_braces left (Trees.and_argument comma a Trees.no_arguments) last right = refl
texts_in_braces left (Trees.and_argument comma a (Trees.and_argument other b more)) last right = refl

pub counted : (all : List Argument) → length all ≡ count_of (arguments_of (map argument_of all))
counted [] = refl
counted (item ∷ all) = sym (add-one (length all)) ∙ ap (λ n. n + 1) (counted all)

not_two : (left : ℕ) (comma other : Option ℕ) (a b : Trees.Expression) (more : Trees.Arguments) (s : Scope) (t : CType) (at : ℕ)
    → one_value left (Trees.and_argument comma a (Trees.and_argument other b more)) s t at ≡ refused R.Init left
unfolding one_value
not_two left comma other (Trees.braces inner all last right) b more s t at = refl
not_two left comma other a b more s t at = refl

pub not_one : (left : ℕ) (all : List Argument) (s : Scope) (t : CType) (at : ℕ) → length all ≢ 1
    → one_value left (arguments_of (map argument_of all)) s t at ≡ refused R.Init left
unfolding one_value
not_one left [] s t at h = refl
not_one left (item ∷ []) s t at h = absurd (h refl)
not_one left (item ∷ other ∷ more) s t at h =
    not_two left (argument_of item).0 (argument_of other).0 (argument_of item).1 (argument_of other).1 (arguments_of (map argument_of more)) s t at

alone : (left : ℕ) (comma : Option ℕ) (a : Trees.Expression) (s : Scope) (t : CType) (at : ℕ)
    → one_value left (Trees.and_argument comma a Trees.no_arguments) s t at ≡ value_alone a s t at
unfolding one_value
alone left comma (Trees.braces inner all last right) s t at = refl
alone left comma a s t at = refl

-- ---- lists of one item

view : (item : Argument) → argument_of item ≡ (item.comma, expression_of item.value)
view item = search (rules, the_lemmas)

only_item : (all : List Argument) (item : Argument) → length all ≡ 1 → item ≡ get_or all 0 item
    → arguments_of (map argument_of all) ≡ Trees.and_argument item.comma (expression_of item.value) Trees.no_arguments
only_item (own ∷ []) item h e = ap (λ it. Trees.and_argument it.0 it.1 Trees.no_arguments) (ap argument_of (sym e) ∙ view item)
only_item [] item h e = cc
only_item (own ∷ other ∷ all) item h e = absurd (omega (arith, h))

pub one_text : (all : List Argument) (item : Argument) → length all ≡ 1 → item ≡ get_or all 0 item
    → texts_among (arguments_of (map argument_of all)) ≡ texts_alone (expression_of item.value)
one_text all item h e = ap texts_among (only_item all item h e)

pub one_alone : (left : ℕ) (all : List Argument) (item : Argument) (s : Scope) (t : CType) (at : ℕ) → length all ≡ 1 → item ≡ get_or all 0 item
    → one_value left (arguments_of (map argument_of all)) s t at ≡ value_alone (expression_of item.value) s t at
one_alone left all item s t at h e =
    ap (λ it. one_value left it s t at) (only_item all item h e) ∙ alone left item.comma (expression_of item.value) s t at
