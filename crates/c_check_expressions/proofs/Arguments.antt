-- Arguments, one after the other.
use Rattle.std.proofs.Common.{◌≤◌, subst}
use Rattle.c_types.specs.declared.ty.Ty.{Ty}
use Rattle.c_types.specs.Views.{type_of, types_of}
use Rattle.c_scopes.specs.declared.file_scope.FileScope as Files
use Rattle.c_scopes.specs.declared.scope.Scope as Around
use Rattle.c_scopes.specs.Scoping.{file_of, scope_of}
use Rattle.c_check_expressions.proofs.Answers.{all_passed}
use Rattle.std.proofs.Common.{◌<◌, ◌+◌, length, drop, get_or, map}
use Rattle.std.proofs.lemmas.List.{map-append}
use Rattle.lay_base.specs.declared.faults.Rule.TheVariants as R
use Rattle.c_ast.specs.declared.expression.Argument.{Argument}
use Rattle.c_ast.specs.Views.{argument_of, arguments_of}
use Rattle.c_check_expressions.proofs.Answers.{drop_item}
use Rattle.std.proofs.Common.{◌≡◌, ℕ, List, [], ◌∷◌, ◌++◌, refl, ap, ◌∙◌, sym}
use Rattle.std.specs.Prelude.{Option, Ok, Err}
use Rattle.c_types.specs.Types.{CType, CTypes, no_types, and_type}
use Rattle.c_ast.specs.Trees
use Rattle.c_typed.specs.Trees as Typed
use Rattle.c_erasure.specs.Noted.{Noted, Expression}
use Rattle.c_erasure.specs.Scopes.{FileScope, Scope}
use Rattle.c_annotated.specs.Trees as Program
use Rattle.c_annotated.specs.Views.{expression_of, expressions_of}
use Rattle.c_erasure.specs.Checking.Answers.{◌>>=◌, refused, Checked, moved, with_file}
use Rattle.c_erasure.specs.Checking.Finding.{arguments, find, value_at}
use Rattle.c_erasure.specs.Checking.Nodes.{argument_in}
use Rattle.c_ast.specs.Places.{first}
use Rattle.c_nodes.specs.declared.fault.Fault.{Fault}
use Rattle.c_nodes.specs.Gives.{Fails}
use Rattle.c_check_expressions.specs.Parts.{argument_found}
use Rattle.c_check_expressions.proofs.Answers.{in_turn, then_found, then_fails, as_found}

-- those that are found, then others
abbrev pub before : List Expression → Typed.Expressions Noted → Typed.Expressions Noted
before [] more = more
before (x ∷ done) more = Typed.and_expression x (before done more)

before_none : (done : List Expression) → before done Typed.no_expressions ≡ expressions_of done
before_none [] = refl
before_none (x ∷ done) = ap (Typed.and_expression x) (before_none done)

before_more : (done : List Expression) (x : Expression) (more : Typed.Expressions Noted)
    → before (done ++ x ∷ []) more ≡ before done (Typed.and_expression x more)
before_more [] x more = refl
before_more (y ∷ done) x more = ap (Typed.and_expression y) (before_more done x more)

-- before those that are found later
abbrev onto : Expression → Typed.Expressions Noted × FileScope → Checked (Typed.Expressions Noted)
onto x ys = Ok (Typed.and_expression x ys.0, ys.1)

abbrev pub preceded : List Expression → Typed.Expressions Noted × FileScope → Checked (Typed.Expressions Noted)
preceded done ys = Ok (before done ys.0, ys.1)

-- those that are found, and then those of the rest
abbrev pub arguments_after : List Expression → (right : ℕ) → CTypes → Trees.Arguments → Scope → Checked (Typed.Expressions Noted)
arguments_after done right types all s = arguments right types all s >>= preceded done

pub arguments_begin : (right : ℕ) (types : CTypes) (all : Trees.Arguments) (s : Scope) → arguments_after [] right types all s ≡ arguments right types all s
arguments_begin right types all s = as_found (arguments right types all s)

pub arguments_end : (done : List Expression) (right : ℕ) (s : Scope)
    → arguments_after done right no_types Trees.no_arguments s ≡ Ok (expressions_of done, s.file)
unfolding arguments
arguments_end done right s = ap (λ all. Ok (all, s.file)) (before_none done)

rest_after : (done : List Expression) (x : Expression) (r : Checked (Typed.Expressions Noted))
    → ((r >>= onto x) >>= preceded done) ≡ (r >>= preceded (done ++ x ∷ []))
rest_after done x (Ok ys) = ap (λ all. Ok (all, ys.1)) (sym (before_more done x ys.0))
rest_after done x (Err e) = refl

step : (right : ℕ) (t : CType) (more : CTypes) (comma : Option ℕ) (a : Trees.Expression) (rest : Trees.Arguments) (s : Scope)
    → arguments right (and_type t more) (Trees.and_argument comma a rest) s
    ≡ (argument_found t a s >>= λ y. arguments right more rest (moved s y.1) >>= onto y.0)
unfolding arguments
step right t more comma a rest s =
    in_turn (value_at (first a) (find a s)) (λ x. with_file x.1 (argument_in (first a) t x.0))
    (λ y. arguments right more rest (moved s y.1) >>= onto y.0)

pub arguments_more : (done : List Expression) (right : ℕ) (t : CType) (more : CTypes) (comma : Option ℕ) (a : Trees.Expression) (rest : Trees.Arguments)
    (s : Scope) (x : Expression) (f : FileScope) → argument_found t a s ≡ Ok (x, f)
    → arguments_after done right (and_type t more) (Trees.and_argument comma a rest) s ≡ arguments_after (done ++ x ∷ []) right more rest (moved s f)
arguments_more done right t more comma a rest s x f h =
    ap (λ r. r >>= preceded done) (step right t more comma a rest s
    ∙ then_found (argument_found t a s) (x, f) (λ y. arguments right more rest (moved s y.1) >>= onto y.0) h)
    ∙ rest_after done x (arguments right more rest (moved s f))

pub arguments_fail : (done : List Expression) (right : ℕ) (t : CType) (more : CTypes) (comma : Option ℕ) (a : Trees.Expression) (rest : Trees.Arguments)
    (s : Scope) (fault : Fault) → Fails fault (argument_found t a s)
    → Fails fault (arguments_after done right (and_type t more) (Trees.and_argument comma a rest) s)
arguments_fail done right t more comma a rest s fault h =
    then_fails fault _ (preceded done) (rw (step right t more comma a rest s)
    (then_fails fault (argument_found t a s) (λ y. arguments right more rest (moved s y.1) >>= onto y.0) h))

pub arguments_few : (done : List Expression) (right : ℕ) (t : CType) (more : CTypes) (s : Scope)
    → arguments_after done right (and_type t more) Trees.no_arguments s ≡ refused R.Arguments right
unfolding arguments
arguments_few done right t more s = refl

pub arguments_many : (done : List Expression) (right : ℕ) (comma : Option ℕ) (a : Trees.Expression) (rest : Trees.Arguments) (s : Scope)
    → arguments_after done right no_types (Trees.and_argument comma a rest) s ≡ refused R.Arguments (first a)
unfolding arguments
arguments_many done right comma a rest s = refl

-- ---- the same of the arguments of a program

abbrev pub rest_from : ℕ → List Argument → Trees.Arguments
rest_from i all = arguments_of (map argument_of (drop i all))

pub next_argument : (done : List Program.Expression) (right : ℕ) (t : CType) (more : CTypes) (all : List Argument) (i : ℕ) (a : Argument) (s : Scope)
    (x : Program.Expression) (f : FileScope) → i < length all → a ≡ get_or all i a → argument_found t (argument_of a).1 s ≡ Ok (expression_of x, f)
    → arguments_after (map expression_of done) right (and_type t more) (rest_from i all) s
    ≡ arguments_after (map expression_of (done ++ x ∷ [])) right more (rest_from (i + 1) all) (moved s f)
next_argument done right t more all i a s x f p e h =
    rw (drop_item all i a p e, map-append expression_of done (x ∷ []))
    (arguments_more (map expression_of done) right t more (argument_of a).0 (argument_of a).1 (rest_from (i + 1) all) s (expression_of x) f h)

pub next_fails : (done : List Program.Expression) (right : ℕ) (t : CType) (more : CTypes) (all : List Argument) (i : ℕ) (a : Argument) (s : Scope)
    (fault : Fault) → i < length all → a ≡ get_or all i a → Fails fault (argument_found t (argument_of a).1 s)
    → Fails fault (arguments_after (map expression_of done) right (and_type t more) (rest_from i all) s)
next_fails done right t more all i a s fault p e h =
    rw (drop_item all i a p e) (arguments_fail (map expression_of done) right t more (argument_of a).0 (argument_of a).1 (rest_from (i + 1) all) s fault h)

pub next_is_many : (done : List Program.Expression) (right : ℕ) (all : List Argument) (i : ℕ) (a : Argument) (s : Scope) → i < length all → a ≡ get_or all i a
    → arguments_after (map expression_of done) right no_types (rest_from i all) s ≡ refused R.Arguments (first (argument_of a).1)
next_is_many done right all i a s p e =
    rw (drop_item all i a p e) (arguments_many (map expression_of done) right (argument_of a).0 (argument_of a).1 (rest_from (i + 1) all) s)

-- ---- turns of a loop, after which what is found, and what is left, are still the whole

pub turn : (all items : List Argument) (i : ℕ) (a : Argument) (done new_done : List Program.Expression) (x : Program.Expression) (right : ℕ)
    (types more : List Ty) (t : Ty) (file new_file : Files.FileScope) (s : Around.Scope) (whole : Checked (Typed.Expressions Noted))
    → i < length items → a ≡ get_or items i a → items ≡ all → types ≡ t ∷ more
    → argument_found (type_of t) (argument_of a).1 (scope_of file s) ≡ Ok (expression_of x, file_of new_file) → new_done ≡ done ++ x ∷ []
    → arguments_after (map expression_of done) right (types_of types) (rest_from i all) (scope_of file s) ≡ whole
    → arguments_after (map expression_of new_done) right (types_of more) (rest_from (i + 1) all) (scope_of new_file s) ≡ whole
turn all items i a done new_done x right types more t file new_file s whole q e same front found added h =
    let within : i < length all = subst (λ z. i < length z) same q in
    let item : a ≡ get_or all i a = subst (λ z. a ≡ get_or z i a) same e in
    let g : arguments_after (map expression_of done) right (and_type (type_of t) (types_of more)) (rest_from i all) (scope_of file s) ≡ whole =
    subst (λ z. arguments_after (map expression_of done) right (types_of z) (rest_from i all) (scope_of file s) ≡ whole) front h in
    rw added (sym (next_argument done right (type_of t) (types_of more) all i a (scope_of file s) x (file_of new_file) within item found) ∙ g)

pub stop : (all items : List Argument) (i : ℕ) (a : Argument) (done : List Program.Expression) (right : ℕ)
    (types more : List Ty) (t : Ty) (file : Files.FileScope) (s : Around.Scope) (whole : Checked (Typed.Expressions Noted)) (fault : Fault)
    → i < length items → a ≡ get_or items i a → items ≡ all → types ≡ t ∷ more
    → Fails fault (argument_found (type_of t) (argument_of a).1 (scope_of file s))
    → arguments_after (map expression_of done) right (types_of types) (rest_from i all) (scope_of file s) ≡ whole → Fails fault whole
stop all items i a done right types more t file s whole fault q e same front found h =
    let within : i < length all = subst (λ z. i < length z) same q in
    let item : a ≡ get_or all i a = subst (λ z. a ≡ get_or z i a) same e in
    let g : arguments_after (map expression_of done) right (and_type (type_of t) (types_of more)) (rest_from i all) (scope_of file s) ≡ whole =
    subst (λ z. arguments_after (map expression_of done) right (types_of z) (rest_from i all) (scope_of file s) ≡ whole) front h in
    subst (Fails fault) g (next_fails done right (type_of t) (types_of more) all i a (scope_of file s) fault within item found)

pub many : (all items : List Argument) (i : ℕ) (a : Argument) (done : List Program.Expression) (right at : ℕ)
    (types : List Ty) (file : Files.FileScope) (s : Around.Scope) (whole : Checked (Typed.Expressions Noted))
    → i < length items → a ≡ get_or items i a → items ≡ all → types ≡ [] → at ≡ first (argument_of a).1
    → arguments_after (map expression_of done) right (types_of types) (rest_from i all) (scope_of file s) ≡ whole → whole ≡ refused R.Arguments at
many all items i a done right at types file s whole q e same none place h =
    let within : i < length all = subst (λ z. i < length z) same q in
    let item : a ≡ get_or all i a = subst (λ z. a ≡ get_or z i a) same e in
    let g : arguments_after (map expression_of done) right no_types (rest_from i all) (scope_of file s) ≡ whole =
    subst (λ z. arguments_after (map expression_of done) right (types_of z) (rest_from i all) (scope_of file s) ≡ whole) none h in
    sym g ∙ next_is_many done right all i a (scope_of file s) within item ∙ ap (λ z. refused R.Arguments z) (sym place)

pub end : (all items : List Argument) (i : ℕ) (done : List Program.Expression) (right : ℕ)
    (types : List Ty) (file : Files.FileScope) (s : Around.Scope) (whole : Checked (Typed.Expressions Noted))
    → length items ≤ i → items ≡ all → types ≡ []
    → arguments_after (map expression_of done) right (types_of types) (rest_from i all) (scope_of file s) ≡ whole
    → whole ≡ Ok (expressions_of (map expression_of done), file_of file)
end all items i done right types file s whole q same none h =
    let passed : drop i all ≡ [] = all_passed all i (subst (λ z. length z ≤ i) same q) in
    sym h ∙ ap (λ z. arguments_after (map expression_of done) right (types_of z) (rest_from i all) (scope_of file s)) none
    ∙ ap (λ z. arguments_after (map expression_of done) right no_types (arguments_of (map argument_of z)) (scope_of file s)) passed
    ∙ arguments_end (map expression_of done) right (scope_of file s)

pub few : (all items : List Argument) (i : ℕ) (done : List Program.Expression) (right : ℕ)
    (types more : List Ty) (t : Ty) (file : Files.FileScope) (s : Around.Scope) (whole : Checked (Typed.Expressions Noted))
    → length items ≤ i → items ≡ all → types ≡ t ∷ more
    → arguments_after (map expression_of done) right (types_of types) (rest_from i all) (scope_of file s) ≡ whole
    → whole ≡ refused R.Arguments right
few all items i done right types more t file s whole q same front h =
    let passed : drop i all ≡ [] = all_passed all i (subst (λ z. length z ≤ i) same q) in
    sym h ∙ ap (λ z. arguments_after (map expression_of done) right (types_of z) (rest_from i all) (scope_of file s)) front
    ∙ ap (λ z. arguments_after (map expression_of done) right (and_type (type_of t) (types_of more)) (arguments_of (map argument_of z)) (scope_of file s)) passed
    ∙ arguments_few (map expression_of done) right (type_of t) (types_of more) (scope_of file s)
