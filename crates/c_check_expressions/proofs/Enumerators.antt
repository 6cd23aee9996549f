-- Enumerators, one after the other.
use Rattle.std.proofs.Common.{◌≤◌, [], ◌∷◌, zero, suc, subst, add-one}
use Rattle.c_scopes.specs.declared.file_scope.FileScope as Files
use Rattle.c_scopes.specs.declared.scope.Scope as Around
use Rattle.c_scopes.specs.Scoping.{file_of, scope_of}
use Rattle.c_check_expressions.proofs.Answers.{all_passed}
use Rattle.std.proofs.Common.{◌<◌, length, drop, get_or, map, List}
use Rattle.c_ast.specs.declared.expression.Enumerator.{Enumerator}
use Rattle.c_ast.specs.Views.{enumerator_of, enumerators_of}
use Rattle.c_check_expressions.proofs.Answers.{drop_item}
use Rattle.std.proofs.Common.{◌≡◌, ℕ, ◌+◌, refl, ap, ◌∙◌, sym}
use Rattle.std.specs.Prelude.{◌%◌, ◌^◌, Option, Ok, Err}
use Rattle.c_ast.specs.declared.words.Spelling.{Spelling}
use Rattle.c_ast.specs.Trees
use Rattle.c_erasure.specs.Erasure.{comma_or}
use Rattle.c_erasure.specs.Scopes.{Bound, FileScope, Scope, defines, enumerator}
use Rattle.c_erasure.specs.Checking.Answers.{Answer, ◌>>=◌, Checked, moved}
use Rattle.c_erasure.specs.Checking.Declaring.{enumerator_in}
use Rattle.c_erasure.specs.Checking.Finding.{enumerator_value, enumerators}
use Rattle.c_nodes.specs.declared.fault.Fault.{Fault}
use Rattle.c_nodes.specs.Gives.{Fails}
use Rattle.c_declaring.specs.Adding.{with_enumerator}
use Rattle.c_check_expressions.specs.Parts.{enumerator_found}
use Rattle.c_check_expressions.proofs.Answers.{in_turn, same_then, then_found, then_fails}

pub enumerators_end : (s : Scope) (next after : ℕ) → enumerators Trees.no_enumerators s next after ≡ Ok (tt, s.file)
unfolding enumerators
enumerators_end s next after = refl

abbrev bound : Spelling → (from v : ℕ) → Bound
bound x from v = record { name = x.text; place = x.from; from = from; how = defines; entity = enumerator v }

abbrev declared : FileScope → Checked (Unit {0})
declared g = Ok (tt, g)

abbrev valued : ℕ → (Unit {0}) × FileScope → Checked ℕ
valued v f = Ok (v, f.1)

declared_step : (v : ℕ) (r : Answer FileScope) (k : ℕ × FileScope → Checked (Unit {0}))
    → (r >>= λ f. k (v, f)) ≡ (((r >>= declared) >>= valued v) >>= k)
declared_step v (Ok f) k = refl
declared_step v (Err e) k = refl

step : (comma : Option ℕ) (x : Spelling) (value : Trees.EnumeratorValue) (more : Trees.Enumerators) (s : Scope) (next after : ℕ)
    → enumerators (Trees.and_enumerator comma x value more) s next after
    ≡ (enumerator_found x value (comma_or more after) s next >>= λ v. enumerators more (moved s v.1) ((v.0 + 1) % 2 ^ 32) after)
unfolding enumerators
step comma x value more s next after =
    let k : ℕ × FileScope → Checked (Unit {0}) = λ v. enumerators more (moved s v.1) ((v.0 + 1) % 2 ^ 32) after in
    same_then (enumerator_value value s x.from next) _
    (λ v. (with_enumerator v.1 (bound x (comma_or more after) v.0) >>= valued v.0) >>= k)
    (λ v. declared_step v.0 (enumerator_in v.1 (bound x (comma_or more after) v.0)) k)
    ∙ in_turn (enumerator_value value s x.from next) (λ v. with_enumerator v.1 (bound x (comma_or more after) v.0) >>= valued v.0) k

pub enumerators_more : (comma : Option ℕ) (x : Spelling) (value : Trees.EnumeratorValue) (more : Trees.Enumerators) (s : Scope) (next after v : ℕ)
    (f : FileScope) → enumerator_found x value (comma_or more after) s next ≡ Ok (v, f)
    → enumerators (Trees.and_enumerator comma x value more) s next after ≡ enumerators more (moved s f) ((v + 1) % 2 ^ 32) after
enumerators_more comma x value more s next after v f h =
    step comma x value more s next after
    ∙ then_found (enumerator_found x value (comma_or more after) s next) (v, f) (λ v. enumerators more (moved s v.1) ((v.0 + 1) % 2 ^ 32) after) h

pub enumerators_fail : (comma : Option ℕ) (x : Spelling) (value : Trees.EnumeratorValue) (more : Trees.Enumerators) (s : Scope) (next after : ℕ)
    (fault : Fault) → Fails fault (enumerator_found x value (comma_or more after) s next)
    → Fails fault (enumerators (Trees.and_enumerator comma x value more) s next after)
enumerators_fail comma x value more s next after fault h =
    rw (step comma x value more s next after)
    (then_fails fault (enumerator_found x value (comma_or more after) s next) (λ v. enumerators more (moved s v.1) ((v.0 + 1) % 2 ^ 32) after) h)

-- ---- the same of the enumerators of a program

abbrev pub enumerators_from : ℕ → List Enumerator → Trees.Enumerators
enumerators_from i all = enumerators_of (map enumerator_of (drop i all))

pub next_enumerator : (all : List Enumerator) (i : ℕ) (e : Enumerator) (s : Scope) (next after v : ℕ) (f : FileScope)
    → i < length all → e ≡ get_or all i e
    → enumerator_found (enumerator_of e).1 (enumerator_of e).2 (comma_or (enumerators_from (i + 1) all) after) s next ≡ Ok (v, f)
    → enumerators (enumerators_from i all) s next after ≡ enumerators (enumerators_from (i + 1) all) (moved s f) ((v + 1) % 2 ^ 32) after
next_enumerator all i e s next after v f p q h =
    let m = enumerator_of e in
    rw (drop_item all i e p q) (enumerators_more m.0 m.1 m.2 (enumerators_from (i + 1) all) s next after v f h)

pub next_enumerator_fails : (all : List Enumerator) (i : ℕ) (e : Enumerator) (s : Scope) (next after : ℕ) (fault : Fault)
    → i < length all → e ≡ get_or all i e
    → Fails fault (enumerator_found (enumerator_of e).1 (enumerator_of e).2 (comma_or (enumerators_from (i + 1) all) after) s next)
    → Fails fault (enumerators (enumerators_from i all) s next after)
next_enumerator_fails all i e s next after fault p q h =
    let m = enumerator_of e in
    rw (drop_item all i e p q) (enumerators_fail m.0 m.1 m.2 (enumerators_from (i + 1) all) s next after fault h)

-- ---- turns of a loop

drop_suc : {X : Type 0} (all : List X) (i : ℕ) → drop 1 (drop i all) ≡ drop (suc i) all
drop_suc [] zero = refl
drop_suc [] (suc i) = refl
drop_suc (x ∷ all) zero = refl
drop_suc (x ∷ all) (suc i) = drop_suc all i

drop_next : {X : Type 0} (all : List X) (i : ℕ) → drop 1 (drop i all) ≡ drop (i + 1) all
drop_next all i = rw add-one (drop_suc all i)

pub rest_turn : (all rest new_rest : List Enumerator) (i : ℕ) → rest ≡ drop i all → new_rest ≡ drop 1 rest → new_rest ≡ drop (i + 1) all
rest_turn all rest new_rest i e h = h ∙ ap (drop 1) e ∙ drop_next all i

pub turn : (all items rest : List Enumerator) (i : ℕ) (e : Enumerator) (from next new_next after v : ℕ) (file new_file : Files.FileScope)
    (s : Around.Scope) (whole : Checked (Unit {0}))
    → i < length items → e ≡ get_or items i e → items ≡ all → rest ≡ drop (i + 1) all
    → from ≡ comma_or (enumerators_of (map enumerator_of rest)) after
    → enumerator_found (enumerator_of e).1 (enumerator_of e).2 from (scope_of file s) next ≡ Ok (v, file_of new_file)
    → new_next ≡ (v + 1) % 2 ^ 32
    → enumerators (enumerators_from i all) (scope_of file s) next after ≡ whole
    → enumerators (enumerators_from (i + 1) all) (scope_of new_file s) new_next after ≡ whole
turn all items rest i e from next new_next after v file new_file s whole q item same left known found n h =
    let within : i < length all = subst (λ z. i < length z) same q in
    let item : e ≡ get_or all i e = subst (λ z. e ≡ get_or z i e) same item in
    let here : from ≡ comma_or (enumerators_from (i + 1) all) after = known ∙ ap (λ z. comma_or (enumerators_of (map enumerator_of z)) after) left in
    let f : enumerator_found (enumerator_of e).1 (enumerator_of e).2 (comma_or (enumerators_from (i + 1) all) after) (scope_of file s) next ≡ Ok (v, file_of new_file) =
    subst (λ z. enumerator_found (enumerator_of e).1 (enumerator_of e).2 z (scope_of file s) next ≡ Ok (v, file_of new_file)) here found in
    ap (λ z. enumerators (enumerators_from (i + 1) all) (scope_of new_file s) z after) n
    ∙ sym (next_enumerator all i e (scope_of file s) next after v (file_of new_file) within item f) ∙ h

pub stop : (all items rest : List Enumerator) (i : ℕ) (e : Enumerator) (from next after : ℕ) (file : Files.FileScope)
    (s : Around.Scope) (whole : Checked (Unit {0})) (fault : Fault)
    → i < length items → e ≡ get_or items i e → items ≡ all → rest ≡ drop (i + 1) all
    → from ≡ comma_or (enumerators_of (map enumerator_of rest)) after
    → Fails fault (enumerator_found (enumerator_of e).1 (enumerator_of e).2 from (scope_of file s) next)
    → enumerators (enumerators_from i all) (scope_of file s) next after ≡ whole → Fails fault whole
stop all items rest i e from next after file s whole fault q item same left known found h =
    let within : i < length all = subst (λ z. i < length z) same q in
    let item : e ≡ get_or all i e = subst (λ z. e ≡ get_or z i e) same item in
    let here : from ≡ comma_or (enumerators_from (i + 1) all) after = known ∙ ap (λ z. comma_or (enumerators_of (map enumerator_of z)) after) left in
    let f : Fails fault (enumerator_found (enumerator_of e).1 (enumerator_of e).2 (comma_or (enumerators_from (i + 1) all) after) (scope_of file s) next) =
    subst (λ z. Fails fault (enumerator_found (enumerator_of e).1 (enumerator_of e).2 z (scope_of file s) next)) here found in
    subst (Fails fault) h (next_enumerator_fails all i e (scope_of file s) next after fault within item f)

pub end : (all items : List Enumerator) (i next after : ℕ) (file : Files.FileScope) (s : Around.Scope)
    (whole : Checked (Unit {0})) → length items ≤ i → items ≡ all
    → enumerators (enumerators_from i all) (scope_of file s) next after ≡ whole → whole ≡ Ok (tt, file_of file)
end all items i next after file s whole q same h =
    let passed : drop i all ≡ [] = all_passed all i (subst (λ z. length z ≤ i) same q) in
    sym h ∙ ap (λ z. enumerators (enumerators_of (map enumerator_of z)) (scope_of file s) next after) passed ∙ enumerators_end (scope_of file s) next after
