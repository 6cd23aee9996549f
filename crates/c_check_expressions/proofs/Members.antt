-- Members of structures, one after the other.
use Rattle.std.proofs.Common.{◌≤◌, subst, sym}
use Rattle.c_scopes.specs.declared.file_scope.FileScope as Files
use Rattle.c_scopes.specs.declared.scope.Scope as Around
use Rattle.c_scopes.specs.Scoping.{file_of, scope_of}
use Rattle.c_check_expressions.proofs.Answers.{all_passed}
use Rattle.std.proofs.Common.{◌<◌, ◌+◌, length, drop, get_or, map}
use Rattle.c_ast.specs.declared.expression.MemberDeclaration.{MemberDeclaration}
use Rattle.c_ast.specs.declared.expression.MemberDeclarator.{MemberDeclarator}
use Rattle.c_ast.specs.Views.{member_declaration_of, member_declarations_of, member_declarator_of, member_declarators_of}
use Rattle.c_check_expressions.proofs.Answers.{drop_item}
use Rattle.std.proofs.Common.{◌≡◌, ℕ, List, [], ◌∷◌, ◌++◌, refl, ap, ◌∙◌, append_assoc, append-nil}
use Rattle.std.specs.Prelude.{Option, Some, None, Ok, Err}
use Rattle.lay_base.specs.declared.place.Place.{Place}
use Rattle.std.proofs.lemmas.List.{map-append}
use Rattle.c_types.specs.declared.record.Field as Program
use Rattle.c_types.specs.Types.{CType, Field}
use Rattle.c_types.specs.Views.{field_of}
use Rattle.c_ast.specs.declared.words.Spelling.{Spelling}
use Rattle.c_ast.specs.Trees
use Rattle.c_ast.specs.Places.{first_declarator}
use Rattle.c_typed.specs.declared.program.MentionKind.TheVariants.{Named}
use Rattle.c_erasure.specs.Declarators.{declared_name}
use Rattle.c_erasure.specs.Erasure.{place_in}
use Rattle.c_erasure.specs.Scopes.{FileScope, Scope}
use Rattle.c_erasure.specs.Checking.Answers.{◌>>=◌, Checked, moved, with_file}
use Rattle.c_erasure.specs.Checking.Declaring.{mentions_in, object_at, with_mention}
use Rattle.c_erasure.specs.Checking.Finding.{complete, derivations, member_declarators, members, type_of_derived, with_member}
use Rattle.c_nodes.specs.declared.fault.Fault.{Fault}
use Rattle.c_nodes.specs.Gives.{Fails}
use Rattle.c_declaring.specs.Adding.{field_in, field_with}
use Rattle.c_check_expressions.specs.Parts.{base_alone, line_found, member_found}
use Rattle.c_check_expressions.proofs.Answers.{in_turn, same_then, then_found, then_fails, as_found}

-- fields before those that are found later
abbrev pub preceded : List Field → List Field × FileScope → Checked (List Field)
preceded done rest = Ok (done ++ rest.0, rest.1)

abbrev onto : Field → List Field × FileScope → Checked (List Field)
onto x rest = Ok (x ∷ rest.0, rest.1)

-- ---- lines

-- the fields that are found, and then those of the rest
abbrev pub members_after : List Field → Trees.MemberDeclarations → Scope → Checked (List Field)
members_after done all s = members all s >>= preceded done

pub members_begin : (all : Trees.MemberDeclarations) (s : Scope) → members_after [] all s ≡ members all s
members_begin all s = as_found (members all s)

pub members_end : (done : List Field) (s : Scope) → members_after done Trees.no_member_declarations s ≡ Ok (done, s.file)
unfolding members
members_end done s = ap (λ all. Ok (all, s.file)) (append-nil done)

rest_after : (done own : List Field) (r : Checked (List Field))
    → ((r >>= preceded own) >>= preceded done) ≡ (r >>= preceded (done ++ own))
rest_after done own (Ok rest) = rw append_assoc refl
rest_after done own (Err e) = refl

line_step : (specs : Trees.Specifiers) (ds : Trees.MemberDeclarators) (semicolon : ℕ) (more : Trees.MemberDeclarations) (s : Scope)
    → members (Trees.and_member_declaration specs ds semicolon more) s
    ≡ (line_found specs ds semicolon s >>= λ own. members more (moved s own.1) >>= preceded own.0)
unfolding members
line_step specs ds semicolon more s =
    in_turn (base_alone specs s) (λ b. member_declarators ds b.0 semicolon (moved s b.1))
    (λ own. members more (moved s own.1) >>= preceded own.0)

pub members_more : (done : List Field) (specs : Trees.Specifiers) (ds : Trees.MemberDeclarators) (semicolon : ℕ) (more : Trees.MemberDeclarations)
    (s : Scope) (own : List Field) (f : FileScope) → line_found specs ds semicolon s ≡ Ok (own, f)
    → members_after done (Trees.and_member_declaration specs ds semicolon more) s ≡ members_after (done ++ own) more (moved s f)
members_more done specs ds semicolon more s own f h =
    ap (λ r. r >>= preceded done) (line_step specs ds semicolon more s
    ∙ then_found (line_found specs ds semicolon s) (own, f) (λ own. members more (moved s own.1) >>= preceded own.0) h)
    ∙ rest_after done own (members more (moved s f))

pub members_fail : (done : List Field) (specs : Trees.Specifiers) (ds : Trees.MemberDeclarators) (semicolon : ℕ) (more : Trees.MemberDeclarations)
    (s : Scope) (fault : Fault) → Fails fault (line_found specs ds semicolon s)
    → Fails fault (members_after done (Trees.and_member_declaration specs ds semicolon more) s)
members_fail done specs ds semicolon more s fault h =
    then_fails fault (members (Trees.and_member_declaration specs ds semicolon more) s) (preceded done)
    (rw (line_step specs ds semicolon more s)
    (then_fails fault (line_found specs ds semicolon s) (λ own. members more (moved s own.1) >>= preceded own.0) h))

-- ---- the declarators of a line

abbrev pub declarators_after : List Field → Trees.MemberDeclarators → CType → (semicolon : ℕ) → Scope → Checked (List Field)
declarators_after done all base semicolon s = member_declarators all base semicolon s >>= preceded done

pub declarators_begin : (all : Trees.MemberDeclarators) (base : CType) (semicolon : ℕ) (s : Scope)
    → declarators_after [] all base semicolon s ≡ member_declarators all base semicolon s
declarators_begin all base semicolon s = as_found (member_declarators all base semicolon s)

pub declarators_end : (done : List Field) (base : CType) (semicolon : ℕ) (s : Scope)
    → declarators_after done Trees.no_member_declarators base semicolon s ≡ Ok (done, s.file)
unfolding member_declarators
declarators_end done base semicolon s = ap (λ all. Ok (all, s.file)) (append-nil done)

one_before : (done : List Field) (x : Field) (r : Checked (List Field))
    → ((r >>= onto x) >>= preceded done) ≡ (r >>= preceded (done ++ x ∷ []))
one_before done x (Ok rest) = rw append_assoc refl
one_before done x (Err e) = refl

-- a field before others
named_step : (at : Place) (t : CType) (o : Option Spelling) (f : FileScope) (later : FileScope → Checked (List Field))
    → with_member at t o (later f) ≡ (field_with at t o f >>= λ x. later x.1 >>= onto x.0)
named_step at t None f later = refl
named_step at t (Some x) f later = refl

abbrev rest_of : Trees.MemberDeclarators → CType → ℕ → Scope → FileScope → Checked (List Field)
rest_of more base semicolon s f = member_declarators more base semicolon (moved s f)

member_step : (comma : Option ℕ) (d : Trees.Declarator) (more : Trees.MemberDeclarators) (base : CType) (semicolon : ℕ) (s : Scope)
    → member_declarators (Trees.and_member_declarator comma d more) base semicolon s
    ≡ (member_found d base semicolon s >>= λ x. rest_of more base semicolon s x.1 >>= onto x.0)
unfolding member_declarators
member_step comma d more base semicolon s =
    let at = place_in s (first_declarator d semicolon) in
    let b = first_declarator d semicolon in
    let k : Field × FileScope → Checked (List Field) = λ x. rest_of more base semicolon s x.1 >>= onto x.0 in
    same_then (derivations d s) _ (λ steps. field_in s (mentions_in s.file) (complete s b) at (declared_name d) steps.1 steps.0 base >>= k)
    (λ steps. same_then (with_file steps.1 (type_of_derived b steps.1 steps.0 base)) _
    (λ t. (with_file t.1 (object_at t.1.records (complete s b) b t.0) >>= λ u. field_with at u.0 (declared_name d) (with_mention s (mentions_in s.file) Named u.0 b u.1)) >>= k)
    (λ t. same_then (with_file t.1 (object_at t.1.records (complete s b) b t.0)) _
    (λ u. field_with at u.0 (declared_name d) (with_mention s (mentions_in s.file) Named u.0 b u.1) >>= k)
    (λ u. named_step at u.0 (declared_name d) (with_mention s (mentions_in s.file) Named u.0 b u.1) (rest_of more base semicolon s))
    ∙ in_turn (with_file t.1 (object_at t.1.records (complete s b) b t.0))
    (λ u. field_with at u.0 (declared_name d) (with_mention s (mentions_in s.file) Named u.0 b u.1)) k)
    ∙ in_turn (with_file steps.1 (type_of_derived b steps.1 steps.0 base))
    (λ t. with_file t.1 (object_at t.1.records (complete s b) b t.0) >>= λ u. field_with at u.0 (declared_name d) (with_mention s (mentions_in s.file) Named u.0 b u.1)) k)
    ∙ in_turn (derivations d s) (λ steps. field_in s (mentions_in s.file) (complete s b) at (declared_name d) steps.1 steps.0 base) k

pub declarators_more : (done : List Field) (comma : Option ℕ) (d : Trees.Declarator) (more : Trees.MemberDeclarators) (base : CType) (semicolon : ℕ)
    (s : Scope) (x : Field) (f : FileScope) → member_found d base semicolon s ≡ Ok (x, f)
    → declarators_after done (Trees.and_member_declarator comma d more) base semicolon s ≡ declarators_after (done ++ x ∷ []) more base semicolon (moved s f)
declarators_more done comma d more base semicolon s x f h =
    ap (λ r. r >>= preceded done) (member_step comma d more base semicolon s
    ∙ then_found (member_found d base semicolon s) (x, f) (λ x. rest_of more base semicolon s x.1 >>= onto x.0) h)
    ∙ one_before done x (member_declarators more base semicolon (moved s f))

pub declarators_fail : (done : List Field) (comma : Option ℕ) (d : Trees.Declarator) (more : Trees.MemberDeclarators) (base : CType) (semicolon : ℕ)
    (s : Scope) (fault : Fault) → Fails fault (member_found d base semicolon s)
    → Fails fault (declarators_after done (Trees.and_member_declarator comma d more) base semicolon s)
declarators_fail done comma d more base semicolon s fault h =
    then_fails fault (member_declarators (Trees.and_member_declarator comma d more) base semicolon s) (preceded done)
    (rw (member_step comma d more base semicolon s)
    (then_fails fault (member_found d base semicolon s) (λ x. rest_of more base semicolon s x.1 >>= onto x.0) h))

-- ---- the same of the members of a program

abbrev pub lines_from : ℕ → List MemberDeclaration → Trees.MemberDeclarations
lines_from i all = member_declarations_of (map member_declaration_of (drop i all))

pub next_line : (done : List Program.Field) (all : List MemberDeclaration) (i : ℕ) (line : MemberDeclaration) (s : Scope) (own : List Program.Field) (f : FileScope)
    → i < length all → line ≡ get_or all i line
    → line_found (member_declaration_of line).0 (member_declaration_of line).1 (member_declaration_of line).2 s ≡ Ok (map field_of own, f)
    → members_after (map field_of done) (lines_from i all) s ≡ members_after (map field_of (done ++ own)) (lines_from (i + 1) all) (moved s f)
next_line done all i line s own f p e h =
    let m = member_declaration_of line in
    rw (drop_item all i line p e, map-append field_of done own)
    (members_more (map field_of done) m.0 m.1 m.2 (lines_from (i + 1) all) s (map field_of own) f h)

pub next_line_fails : (done : List Program.Field) (all : List MemberDeclaration) (i : ℕ) (line : MemberDeclaration) (s : Scope) (fault : Fault)
    → i < length all → line ≡ get_or all i line
    → Fails fault (line_found (member_declaration_of line).0 (member_declaration_of line).1 (member_declaration_of line).2 s)
    → Fails fault (members_after (map field_of done) (lines_from i all) s)
next_line_fails done all i line s fault p e h =
    let m = member_declaration_of line in
    rw (drop_item all i line p e) (members_fail (map field_of done) m.0 m.1 m.2 (lines_from (i + 1) all) s fault h)

abbrev pub declarators_from : ℕ → List MemberDeclarator → Trees.MemberDeclarators
declarators_from i all = member_declarators_of (map member_declarator_of (drop i all))

pub next_declarator : (done : List Program.Field) (all : List MemberDeclarator) (i : ℕ) (d : MemberDeclarator) (base : CType) (semicolon : ℕ) (s : Scope)
    (x : Program.Field) (f : FileScope) → i < length all → d ≡ get_or all i d → member_found (member_declarator_of d).1 base semicolon s ≡ Ok (field_of x, f)
    → declarators_after (map field_of done) (declarators_from i all) base semicolon s
    ≡ declarators_after (map field_of (done ++ x ∷ [])) (declarators_from (i + 1) all) base semicolon (moved s f)
next_declarator done all i d base semicolon s x f p e h =
    let m = member_declarator_of d in
    rw (drop_item all i d p e, map-append field_of done (x ∷ []))
    (declarators_more (map field_of done) m.0 m.1 (declarators_from (i + 1) all) base semicolon s (field_of x) f h)

pub next_declarator_fails : (done : List Program.Field) (all : List MemberDeclarator) (i : ℕ) (d : MemberDeclarator) (base : CType) (semicolon : ℕ) (s : Scope)
    (fault : Fault) → i < length all → d ≡ get_or all i d → Fails fault (member_found (member_declarator_of d).1 base semicolon s)
    → Fails fault (declarators_after (map field_of done) (declarators_from i all) base semicolon s)
next_declarator_fails done all i d base semicolon s fault p e h =
    let m = member_declarator_of d in
    rw (drop_item all i d p e) (declarators_fail (map field_of done) m.0 m.1 (declarators_from (i + 1) all) base semicolon s fault h)

-- ---- turns of a loop, after which what is found, and what is left, are still the whole

pub line_turn : (all items : List MemberDeclaration) (i : ℕ) (line : MemberDeclaration) (done new_done own : List Program.Field)
    (file new_file : Files.FileScope) (s : Around.Scope) (whole : Checked (List Field))
    → i < length items → line ≡ get_or items i line → items ≡ all
    → line_found (member_declaration_of line).0 (member_declaration_of line).1 (member_declaration_of line).2 (scope_of file s)
    ≡ Ok (map field_of own, file_of new_file) → new_done ≡ done ++ own
    → members_after (map field_of done) (lines_from i all) (scope_of file s) ≡ whole
    → members_after (map field_of new_done) (lines_from (i + 1) all) (scope_of new_file s) ≡ whole
line_turn all items i line done new_done own file new_file s whole q e same found added h =
    let within : i < length all = subst (λ z. i < length z) same q in
    let item : line ≡ get_or all i line = subst (λ z. line ≡ get_or z i line) same e in
    rw added (sym (next_line done all i line (scope_of file s) own (file_of new_file) within item found) ∙ h)

pub line_stop : (all items : List MemberDeclaration) (i : ℕ) (line : MemberDeclaration) (done : List Program.Field)
    (file : Files.FileScope) (s : Around.Scope) (whole : Checked (List Field)) (fault : Fault)
    → i < length items → line ≡ get_or items i line → items ≡ all
    → Fails fault (line_found (member_declaration_of line).0 (member_declaration_of line).1 (member_declaration_of line).2 (scope_of file s))
    → members_after (map field_of done) (lines_from i all) (scope_of file s) ≡ whole → Fails fault whole
line_stop all items i line done file s whole fault q e same found h =
    let within : i < length all = subst (λ z. i < length z) same q in
    let item : line ≡ get_or all i line = subst (λ z. line ≡ get_or z i line) same e in
    subst (Fails fault) h (next_line_fails done all i line (scope_of file s) fault within item found)

pub line_end : (all items : List MemberDeclaration) (i : ℕ) (done : List Program.Field) (file : Files.FileScope) (s : Around.Scope)
    (whole : Checked (List Field)) → length items ≤ i → items ≡ all
    → members_after (map field_of done) (lines_from i all) (scope_of file s) ≡ whole → whole ≡ Ok (map field_of done, file_of file)
line_end all items i done file s whole q same h =
    let passed : drop i all ≡ [] = all_passed all i (subst (λ z. length z ≤ i) same q) in
    sym h ∙ ap (λ z. members_after (map field_of done) (member_declarations_of (map member_declaration_of z)) (scope_of file s)) passed
    ∙ members_end (map field_of done) (scope_of file s)

pub declarator_turn : (all items : List MemberDeclarator) (i : ℕ) (d : MemberDeclarator) (done new_done : List Program.Field) (x : Program.Field)
    (base : CType) (semicolon : ℕ) (file new_file : Files.FileScope) (s : Around.Scope) (whole : Checked (List Field))
    → i < length items → d ≡ get_or items i d → items ≡ all
    → member_found (member_declarator_of d).1 base semicolon (scope_of file s) ≡ Ok (field_of x, file_of new_file) → new_done ≡ done ++ x ∷ []
    → declarators_after (map field_of done) (declarators_from i all) base semicolon (scope_of file s) ≡ whole
    → declarators_after (map field_of new_done) (declarators_from (i + 1) all) base semicolon (scope_of new_file s) ≡ whole
declarator_turn all items i d done new_done x base semicolon file new_file s whole q e same found added h =
    let within : i < length all = subst (λ z. i < length z) same q in
    let item : d ≡ get_or all i d = subst (λ z. d ≡ get_or z i d) same e in
    rw added (sym (next_declarator done all i d base semicolon (scope_of file s) x (file_of new_file) within item found) ∙ h)

pub declarator_stop : (all items : List MemberDeclarator) (i : ℕ) (d : MemberDeclarator) (done : List Program.Field)
    (base : CType) (semicolon : ℕ) (file : Files.FileScope) (s : Around.Scope) (whole : Checked (List Field)) (fault : Fault)
    → i < length items → d ≡ get_or items i d → items ≡ all
    → Fails fault (member_found (member_declarator_of d).1 base semicolon (scope_of file s))
    → declarators_after (map field_of done) (declarators_from i all) base semicolon (scope_of file s) ≡ whole → Fails fault whole
declarator_stop all items i d done base semicolon file s whole fault q e same found h =
    let within : i < length all = subst (λ z. i < length z) same q in
    let item : d ≡ get_or all i d = subst (λ z. d ≡ get_or z i d) same e in
    subst (Fails fault) h (next_declarator_fails done all i d base semicolon (scope_of file s) fault within item found)

pub declarator_end : (all items : List MemberDeclarator) (i : ℕ) (done : List Program.Field) (base : CType) (semicolon : ℕ)
    (file : Files.FileScope) (s : Around.Scope) (whole : Checked (List Field)) → length items ≤ i → items ≡ all
    → declarators_after (map field_of done) (declarators_from i all) base semicolon (scope_of file s) ≡ whole
    → whole ≡ Ok (map field_of done, file_of file)
declarator_end all items i done base semicolon file s whole q same h =
    let passed : drop i all ≡ [] = all_passed all i (subst (λ z. length z ≤ i) same q) in
    sym h ∙ ap (λ z. declarators_after (map field_of done) (member_declarators_of (map member_declarator_of z)) base semicolon (scope_of file s)) passed
    ∙ declarators_end (map field_of done) base semicolon (scope_of file s)
