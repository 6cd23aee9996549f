-- Calls that allocate records.
use Rattle.std.proofs.Common.{◌≡◌, ℕ, ◌<◌, ◌≤◌, Bool, true, false, List, [], ◌∷◌, length, map, refl, ap, sym, ◌∙◌, arith, rules}
use Rattle.std.specs.Prelude.{if◌then◌else◌, IsTrue, Option, Some, None, is_some}
use Rattle.lay_base.specs.declared.place.Place.{Place}
use Rattle.c_typed.specs.declared.operators.LibraryFunction.{LibraryFunction}
use Rattle.c_typed.specs.declared.operators.LibraryFunction.TheVariants.{Malloc, Calloc, Free, Memcpy, Memmove, Memset, Memcmp, Putchar, Getchar, Exit}
use Rattle.c_typed.specs.Trees as Trees
use Rattle.c_annotated.specs.Trees.{Expression}
use Rattle.c_typed.specs.declared.expression.Expression.{the_lemmas}
use Rattle.c_typed.specs.declared.expression.ExpressionNode.TheVariants as E
use Rattle.c_annotated.specs.Views.{expression_of, expressions_of, node_of, noted_of}
use Rattle.c_erasure.specs.Noted.{Noted}
use Rattle.c_erasure.specs.Recognised.{allocated, allocation, as_unsigned, is_size}
use Rattle.c_recognised.specs.Calls.{by_call, malloc_count, calloc_count}

abbrev pub listed : List Expression → Trees.Expressions Noted
listed all = expressions_of (map expression_of all)

any_allocated : (count : Option (Trees.OptionalExpression Noted)) (zeroed : Bool) → is_some count ≡ is_some (allocated count zeroed)
any_allocated None zeroed = refl
any_allocated (Some count) zeroed = refl

any_chosen : (b : Bool) (x : Trees.OptionalExpression Noted) → (if b then Some (x, true) else None) ≡ allocated (if b then Some x else None) true
any_chosen true x = refl
any_chosen false x = refl

malloc_is : (r : ℕ) (t : Noted) (at : Place) (all : Trees.Expressions Noted)
    → allocation r (Trees.expression t at (Trees.library Malloc all)) ≡ allocated (malloc_count r all) false
malloc_is r t at Trees.no_expressions = refl
malloc_is r t at (Trees.and_expression x Trees.no_expressions) = refl
malloc_is r t at (Trees.and_expression x (Trees.and_expression y more)) = refl

calloc_is : (r : ℕ) (t : Noted) (at : Place) (all : Trees.Expressions Noted)
    → allocation r (Trees.expression t at (Trees.library Calloc all)) ≡ allocated (calloc_count r all) true
calloc_is r t at Trees.no_expressions = refl
calloc_is r t at (Trees.and_expression x Trees.no_expressions) = refl
calloc_is r t at (Trees.and_expression x (Trees.and_expression y Trees.no_expressions)) =
    any_chosen (is_size r y) (Trees.some_expression (as_unsigned x))
calloc_is r t at (Trees.and_expression x (Trees.and_expression y (Trees.and_expression z more))) = refl

pub malloc_found : (r : ℕ) (t : Noted) (at : Place) (all : Trees.Expressions Noted)
    → is_some (malloc_count r all) ≡ is_some (allocation r (Trees.expression t at (Trees.library Malloc all)))
malloc_found r t at all = any_allocated (malloc_count r all) false ∙ sym (ap is_some (malloc_is r t at all))

pub calloc_found : (r : ℕ) (t : Noted) (at : Place) (all : Trees.Expressions Noted)
    → is_some (calloc_count r all) ≡ is_some (allocation r (Trees.expression t at (Trees.library Calloc all)))
calloc_found r t at all = any_allocated (calloc_count r all) true ∙ sym (ap is_some (calloc_is r t at all))

node_is : (which : LibraryFunction) (all : List Expression) → node_of (E.Library which all) ≡ Trees.library which (listed all)
node_is which all = search (rules, the_lemmas)

expression_is : (e : Expression) → expression_of e ≡ Trees.expression (noted_of e.ty) e.place (node_of e.node)
expression_is e = search (rules, the_lemmas)

call_is : (e : Expression) (which : LibraryFunction) (all : List Expression) → e.node ≡ E.Library which all
    → expression_of e ≡ Trees.expression (noted_of e.ty) e.place (Trees.library which (listed all))
call_is e which all i = expression_is e ∙ ap (Trees.expression (noted_of e.ty) e.place) (ap node_of i ∙ node_is which all)

by_arguments : (r : ℕ) (t : Noted) (at : Place) (which : LibraryFunction) (all : Trees.Expressions Noted)
    → allocation r (Trees.expression t at (Trees.library which all)) ≡ by_call r which all
by_arguments r t at Malloc all = malloc_is r t at all
by_arguments r t at Calloc all = calloc_is r t at all
by_arguments r t at Free all = refl
by_arguments r t at Memcpy all = refl
by_arguments r t at Memmove all = refl
by_arguments r t at Memset all = refl
by_arguments r t at Memcmp all = refl
by_arguments r t at Putchar all = refl
by_arguments r t at Getchar all = refl
by_arguments r t at Exit all = refl

pub of_call : (r : ℕ) (e : Expression) (which : LibraryFunction) (all : List Expression) → e.node ≡ E.Library which all
    → allocation r (expression_of e) ≡ by_call r which (listed all)
of_call r e which all i = ap (allocation r) (call_is e which all i) ∙ by_arguments r (noted_of e.ty) e.place which (listed all)

pub malloc_of_more : (r : ℕ) (all : List Expression) → 2 ≤ length all → false ≡ is_some (malloc_count r (listed all))
malloc_of_more r [] n = absurd (omega (arith, n))
malloc_of_more r (y ∷ []) n = absurd (omega (arith, n))
malloc_of_more r (y ∷ z ∷ more) n = refl

pub calloc_of_more : (r : ℕ) (all : List Expression) → 3 ≤ length all → false ≡ is_some (calloc_count r (listed all))
calloc_of_more r [] n = absurd (omega (arith, n))
calloc_of_more r (y ∷ []) n = absurd (omega (arith, n))
calloc_of_more r (y ∷ z ∷ []) n = absurd (omega (arith, n))
calloc_of_more r (y ∷ z ∷ w ∷ more) n = refl

pub calloc_of_less : (r : ℕ) (all : List Expression) → length all < 2 → false ≡ is_some (calloc_count r (listed all))
calloc_of_less r [] n = refl
calloc_of_less r (y ∷ []) n = refl
calloc_of_less r (y ∷ z ∷ more) n = absurd (omega (arith, n))

-- where records are allocated there are as many arguments as the function has parameters
pub malloc_has_one : (r : ℕ) (all : List Expression) → IsTrue (is_some (malloc_count r (listed all))) → length all ≡ 1
malloc_has_one r [] h = cc
malloc_has_one r (x ∷ []) h = refl
malloc_has_one r (x ∷ y ∷ more) h = cc

pub calloc_has_two : (r : ℕ) (all : List Expression) → IsTrue (is_some (calloc_count r (listed all))) → length all ≡ 2
calloc_has_two r [] h = cc
calloc_has_two r (x ∷ []) h = cc
calloc_has_two r (x ∷ y ∷ []) h = refl
calloc_has_two r (x ∷ y ∷ z ∷ more) h = cc

any_some : (b : Bool) (x : Trees.OptionalExpression Noted) → b ≡ is_some (if b then Some x else None)
any_some true x = refl
any_some false x = refl

pub calloc_of_two : (r : ℕ) (x y : Expression) → is_size r (expression_of y) ≡ is_some (calloc_count r (listed (x ∷ y ∷ [])))
calloc_of_two r x y = any_some (is_size r (expression_of y)) (Trees.some_expression (as_unsigned (expression_of x)))
