-- Parameters, one after the other.
use Rattle.std.proofs.Common.{◌≤◌, subst}
use Rattle.c_scopes.specs.Scoping.{file_of, scope_of}
use Rattle.c_check_expressions.proofs.Answers.{all_passed}
use Rattle.std.proofs.Common.{◌<◌, ◌+◌, length, drop, get_or}
use Rattle.c_ast.specs.declared.expression.Parameter.{Parameter}
use Rattle.c_ast.specs.Views.{parameter_of, parameters_of}
use Rattle.c_check_expressions.proofs.Answers.{drop_item}
use Rattle.std.proofs.Common.{◌≡◌, ℕ, List, [], ◌∷◌, ◌++◌, refl, ap, ◌∙◌, sym}
use Rattle.std.specs.Prelude.{Option, Some, None, Ok, Err, map}
use Rattle.std.proofs.lemmas.List.{map-append}
use Rattle.c_types.specs.Types.{CType, CTypes, no_types, and_type}
use Rattle.c_types.specs.declared.ty.Ty.{Ty}
use Rattle.c_types.specs.Views.{type_of, types_of}
use Rattle.c_ast.specs.declared.words.Spelling.{Spelling}
use Rattle.c_ast.specs.Trees
use Rattle.c_ast.specs.Places.{first_declarator, first_specifiers}
use Rattle.c_typed.specs.declared.program.MentionKind.TheVariants.{Named}
use Rattle.c_erasure.specs.Declarators.{declared_name, parameter_type}
use Rattle.c_erasure.specs.Erasure.{with_parameter_if_named}
use Rattle.c_erasure.specs.Scopes.{Bound, FileScope, Scope}
use Rattle.c_erasure.specs.Checking.Answers.{◌>>=◌, Checked, moved, with_file}
use Rattle.c_erasure.specs.Checking.Declaring.{derived, mentions_in, new_if_named, scalar_parameter, with_mention}
use Rattle.c_erasure.specs.Checking.Finding.{derivations, parameters}
use Rattle.c_nodes.specs.declared.fault.Fault.{Fault}
use Rattle.c_nodes.specs.Gives.{Fails}
use Rattle.c_declaring.specs.Adding.{blocks_with, parameter_in, parameter_made, scope_within}
use Rattle.c_scopes.specs.declared.file_scope.FileScope as Program
use Rattle.c_scopes.specs.declared.scope.Scope as Around
use Rattle.c_check_expressions.specs.Parts.{base_of_parameter, parameter_found}
use Rattle.c_check_expressions.proofs.Answers.{in_turn, same_then, then_found, then_fails, as_found}

-- types that are found, then others
abbrev pub before : List CType → CTypes → CTypes
before [] more = more
before (t ∷ done) more = and_type t (before done more)

before_none : (done : List Ty) → before (map type_of done) no_types ≡ types_of done
before_none [] = refl
before_none (t ∷ done) = ap (and_type (type_of t)) (before_none done)

before_more : (done : List CType) (t : CType) (more : CTypes) → before (done ++ t ∷ []) more ≡ before done (and_type t more)
before_more [] t more = refl
before_more (u ∷ done) t more = ap (and_type u) (before_more done t more)

-- before those that are found later
abbrev pub preceded : List CType → CTypes × FileScope → Checked CTypes
preceded done rest = Ok (before done rest.0, rest.1)

abbrev onto : CType → CTypes × FileScope → Checked CTypes
onto t rest = Ok (and_type t rest.0, rest.1)

abbrev pub parameters_after : List CType → Trees.Parameters → Scope → Checked CTypes
parameters_after done all s = parameters all s >>= preceded done

pub parameters_begin : (all : Trees.Parameters) (s : Scope) → parameters_after [] all s ≡ parameters all s
parameters_begin all s = as_found (parameters all s)

pub parameters_end : (done : List Ty) (s : Scope) → parameters_after (map type_of done) Trees.no_parameters s ≡ Ok (types_of done, s.file)
unfolding parameters
parameters_end done s = ap (λ all. Ok (all, s.file)) (before_none done)

rest_after : (done : List CType) (t : CType) (r : Checked CTypes)
    → ((r >>= onto t) >>= preceded done) ≡ (r >>= preceded (done ++ t ∷ []))
rest_after done t (Ok rest) = ap (λ all. Ok (all, rest.1)) (sym (before_more done t rest.0))
rest_after done t (Err e) = refl

-- the rest, where that parameter is known
abbrev rest_of : Trees.Declarator → Trees.Parameters → Scope → CType × FileScope → Checked CTypes
rest_of d more s t = parameters more (with_parameter_if_named (moved s t.1) (declared_name d) t.0) >>= onto t.0

step : (comma : Option ℕ) (specs : Trees.Specifiers) (d : Trees.Declarator) (more : Trees.Parameters) (s : Scope)
    → parameters (Trees.and_parameter comma specs d more) s ≡ (parameter_found specs d s >>= rest_of d more s)
unfolding parameters
step comma specs d more s =
    let at = first_declarator d (first_specifiers specs) in
    let x = declared_name d in
    let k : CType × FileScope → Checked CTypes = rest_of d more s in
    let listed : ℕ → CType × FileScope → Checked CType = λ before t. Ok (t.0, with_mention s before Named t.0 at t.1) in
    same_then (base_of_parameter specs s) _
    (λ b. (derivations d (moved s b.1) >>= λ steps. parameter_in (moved s steps.1) (mentions_in b.1) at x steps.1 steps.0 b.0) >>= k)
    (λ b. same_then (derivations d (moved s b.1)) _ (λ steps. parameter_in (moved s steps.1) (mentions_in b.1) at x steps.1 steps.0 b.0 >>= k)
    (λ steps. same_then (with_file steps.1 (derived steps.1.records steps.0 b.0)) _
    (λ shape. parameter_made (moved s steps.1) (mentions_in b.1) at x shape.1 shape.0 >>= k)
    (λ shape. in_turn (new_if_named s x (with_file shape.1 (scalar_parameter at (parameter_type shape.0)))) (listed (mentions_in b.1)) k)
    ∙ in_turn (with_file steps.1 (derived steps.1.records steps.0 b.0)) (λ shape. parameter_made (moved s steps.1) (mentions_in b.1) at x shape.1 shape.0) k)
    ∙ in_turn (derivations d (moved s b.1)) (λ steps. parameter_in (moved s steps.1) (mentions_in b.1) at x steps.1 steps.0 b.0) k)
    ∙ in_turn (base_of_parameter specs s) (λ b. derivations d (moved s b.1) >>= λ steps. parameter_in (moved s steps.1) (mentions_in b.1) at x steps.1 steps.0 b.0) k

pub parameters_more : (done : List CType) (comma : Option ℕ) (specs : Trees.Specifiers) (d : Trees.Declarator) (more : Trees.Parameters) (s : Scope)
    (t : CType) (f : FileScope) → parameter_found specs d s ≡ Ok (t, f)
    → parameters_after done (Trees.and_parameter comma specs d more) s
    ≡ parameters_after (done ++ t ∷ []) more (with_parameter_if_named (moved s f) (declared_name d) t)
parameters_more done comma specs d more s t f h =
    ap (λ r. r >>= preceded done) (step comma specs d more s
    ∙ then_found (parameter_found specs d s) (t, f) (rest_of d more s) h)
    ∙ rest_after done t (parameters more (with_parameter_if_named (moved s f) (declared_name d) t))

pub parameters_fail : (done : List CType) (comma : Option ℕ) (specs : Trees.Specifiers) (d : Trees.Declarator) (more : Trees.Parameters) (s : Scope)
    (fault : Fault) → Fails fault (parameter_found specs d s) → Fails fault (parameters_after done (Trees.and_parameter comma specs d more) s)
parameters_fail done comma specs d more s fault h =
    then_fails fault (parameters (Trees.and_parameter comma specs d more) s) (preceded done)
    (rw (step comma specs d more s) (then_fails fault (parameter_found specs d s) (rest_of d more s) h))

-- ---- the same of the parameters of a program

abbrev pub parameters_from : ℕ → List Parameter → Trees.Parameters
parameters_from i all = parameters_of (map parameter_of (drop i all))

pub next_parameter : (done : List Ty) (all : List Parameter) (i : ℕ) (p : Parameter) (s : Scope) (t : Ty) (f : FileScope)
    → i < length all → p ≡ get_or all i p → parameter_found (parameter_of p).1 (parameter_of p).2 s ≡ Ok (type_of t, f)
    → parameters_after (map type_of done) (parameters_from i all) s
    ≡ parameters_after (map type_of (done ++ t ∷ [])) (parameters_from (i + 1) all)
    (with_parameter_if_named (moved s f) (declared_name (parameter_of p).2) (type_of t))
next_parameter done all i p s t f q e h =
    let m = parameter_of p in
    rw (drop_item all i p q e, map-append type_of done (t ∷ []))
    (parameters_more (map type_of done) m.0 m.1 m.2 (parameters_from (i + 1) all) s (type_of t) f h)

pub next_parameter_fails : (done : List Ty) (all : List Parameter) (i : ℕ) (p : Parameter) (s : Scope) (fault : Fault)
    → i < length all → p ≡ get_or all i p → Fails fault (parameter_found (parameter_of p).1 (parameter_of p).2 s)
    → Fails fault (parameters_after (map type_of done) (parameters_from i all) s)
next_parameter_fails done all i p s fault q e h =
    let m = parameter_of p in
    rw (drop_item all i p q e) (parameters_fail (map type_of done) m.0 m.1 m.2 (parameters_from (i + 1) all) s fault h)

pub within_after : (f : Program.FileScope) (blocks : List (List Bound)) (s : Around.Scope) (o : Option Spelling) (t : CType)
    → with_parameter_if_named (scope_within f blocks s) o t ≡ scope_within f (blocks_with blocks o t) s
within_after f blocks s None t = refl
within_after f blocks s (Some x) t = refl

-- ---- turns of a loop, after which what is found, and what is left, are still the whole

pub turn : (all items : List Parameter) (i : ℕ) (p : Parameter) (done new_done : List Ty) (t : Ty) (file new_file : Program.FileScope)
    (blocks new_blocks : List (List Bound)) (s inner : Around.Scope) (whole : Checked CTypes)
    → i < length items → p ≡ get_or items i p → items ≡ all → scope_of file inner ≡ scope_within file blocks s
    → parameter_found (parameter_of p).1 (parameter_of p).2 (scope_of file inner) ≡ Ok (type_of t, file_of new_file)
    → new_done ≡ done ++ t ∷ [] → new_blocks ≡ blocks_with blocks (declared_name (parameter_of p).2) (type_of t)
    → parameters_after (map type_of done) (parameters_from i all) (scope_within file blocks s) ≡ whole
    → parameters_after (map type_of new_done) (parameters_from (i + 1) all) (scope_within new_file new_blocks s) ≡ whole
turn all items i p done new_done t file new_file blocks new_blocks s inner whole q e same around found added named h =
    let f : parameter_found (parameter_of p).1 (parameter_of p).2 (scope_within file blocks s) ≡ Ok (type_of t, file_of new_file) =
    subst (λ z. parameter_found (parameter_of p).1 (parameter_of p).2 z ≡ Ok (type_of t, file_of new_file)) around found in
    let within : i < length all = subst (λ z. i < length z) same q in
    let item : p ≡ get_or all i p = subst (λ z. p ≡ get_or z i p) same e in
    rw (added, named, sym (within_after new_file blocks s (declared_name (parameter_of p).2) (type_of t)))
    (sym (next_parameter done all i p (scope_within file blocks s) t (file_of new_file) within item f) ∙ h)

pub stop : (all items : List Parameter) (i : ℕ) (p : Parameter) (done : List Ty) (file : Program.FileScope)
    (blocks : List (List Bound)) (s inner : Around.Scope) (whole : Checked CTypes) (fault : Fault)
    → i < length items → p ≡ get_or items i p → items ≡ all → scope_of file inner ≡ scope_within file blocks s
    → Fails fault (parameter_found (parameter_of p).1 (parameter_of p).2 (scope_of file inner))
    → parameters_after (map type_of done) (parameters_from i all) (scope_within file blocks s) ≡ whole → Fails fault whole
stop all items i p done file blocks s inner whole fault q e same around found h =
    let f : Fails fault (parameter_found (parameter_of p).1 (parameter_of p).2 (scope_within file blocks s)) =
    subst (λ z. Fails fault (parameter_found (parameter_of p).1 (parameter_of p).2 z)) around found in
    let within : i < length all = subst (λ z. i < length z) same q in
    let item : p ≡ get_or all i p = subst (λ z. p ≡ get_or z i p) same e in
    subst (Fails fault) h (next_parameter_fails done all i p (scope_within file blocks s) fault within item f)

pub end : (all items : List Parameter) (i : ℕ) (done : List Ty) (file : Program.FileScope) (blocks : List (List Bound)) (s : Around.Scope)
    (whole : Checked CTypes) → length items ≤ i → items ≡ all
    → parameters_after (map type_of done) (parameters_from i all) (scope_within file blocks s) ≡ whole → whole ≡ Ok (types_of done, file_of file)
end all items i done file blocks s whole q same h =
    let passed : drop i all ≡ [] = all_passed all i (subst (λ z. length z ≤ i) same q) in
    sym h ∙ ap (λ z. parameters_after (map type_of done) (parameters_of (map parameter_of z)) (scope_within file blocks s)) passed
    ∙ parameters_end done (scope_within file blocks s)
