-- The fields of a structure have types that are complete before its definition ends (C99 6.7.2.1).
use Rattle.std.proofs.Common.{◌≡◌, ℕ, zero, suc, ◌+◌, ◌≤◌, true, false, List, [], ◌∷◌, ◌++◌, length, sym, subst, arith, inl, inr}
use Rattle.std.specs.Prelude.{◌⊎◌, Some, slice_get}
use Rattle.c_types.specs.Types.{CType, Field}
use Rattle.c_types.specs.Objects.{is_object}
use Rattle.c_ast.specs.Trees
use Rattle.c_ast.specs.Places.{first_declarator}
use Rattle.c_erasure.specs.Erasure.{AreFields, AreMembers}
use Rattle.c_erasure.specs.Marks.{marks_of_specifiers, marks_of_members, marks_of_member_declarators, marks_of_declarator}
use Rattle.c_erasure.specs.Scopes.{Scope, ended}
use Rattle.c_checking_laws.proofs.Agreement.{added}
use Rattle.c_checking_laws.proofs.CompletePart.{complete_stays}
use Rattle.c_checking_laws.proofs.Extends.{one_of_both}
use Rattle.c_checking_laws.proofs.FaultPremises.{AreMembersTimely, AreDeclaratorsTimely}
use Rattle.c_checking_laws.proofs.Settled.{AreWhole}
use Rattle.c_checking_laws.proofs.Ahead.{added_both}

none_there : (n : ℕ) (fields : List Field) → fields ≡ [] → AreWhole n fields
none_there n fields e j x at = let z : slice_get [] j ≡ Some x = subst (λ all. slice_get all j ≡ Some x) e at in cc

one_more : (n : ℕ) (x : Field) (rest fields : List Field) → is_object n x.ty ≡ true → AreWhole n rest → fields ≡ x ∷ rest → AreWhole n fields
one_more n x rest fields o h e = subst (AreWhole n) (sym e) own
  where
    own : AreWhole n (x ∷ rest)
    own zero y at = let same : x ≡ y = cc in subst (λ (y : Field). is_object n y.ty ≡ true) same o
    own (suc j) y at = h j y at

all_of_both : (n : ℕ) (own rest fields : List Field) → AreWhole n own → AreWhole n rest → fields ≡ own ++ rest → AreWhole n fields
all_of_both n own rest fields h k e j x at = by_part (one_of_both own rest j x (subst (λ all. slice_get all j ≡ Some x) e at))
  where
    by_part : (slice_get own j ≡ Some x) ⊎ ((i : ℕ) × (j ≡ length own + i) × (slice_get rest i ≡ Some x)) → is_object n x.ty ≡ true
    by_part (inl g) = h j x g
    by_part (inr g) = k g.0 x g.2

-- `m` records are complete behind the members, `n` before them
members_known : (ds : Trees.MemberDeclarators) (s : Scope) (base : CType) (semicolon : ℕ) (fields : List Field) (n m : ℕ)
    → n + added false (marks_of_member_declarators s.file.untagged ds) ≤ m → AreDeclaratorsTimely s.file.untagged s.file.ends false n ds semicolon
    → AreMembers s base ds semicolon fields → AreWhole m fields
members_known Trees.no_member_declarators s base semicolon fields n m l t h = none_there m fields h
members_known (Trees.and_member_declarator comma d more) s base semicolon fields n m l t h =
    let u = marks_of_declarator s.file.untagged d in
    let e = added_both false u (marks_of_member_declarators s.file.untagged more) in
    let known = t.1 in
    let less : ended s.file.ends (first_declarator d semicolon) ≤ m = omega (arith, known, l, e) in
    one_more m _ h.2 fields (complete_stays (ended s.file.ends (first_declarator d semicolon)) m h.1 less h.5)
    (members_known more s base semicolon h.2 (n + added false u) m (omega (arith, l, e)) t.3 h.8) h.7

pub fields_known : (all : Trees.MemberDeclarations) (s : Scope) (fields : List Field) (n m : ℕ)
    → n + added false (marks_of_members s.file.untagged all) ≤ m → AreMembersTimely s.file.untagged s.file.ends false n all
    → AreFields s all fields → AreWhole m fields
fields_known Trees.no_member_declarations s fields n m l t h = none_there m fields h
fields_known (Trees.and_member_declaration specs ds semicolon more) s fields n m l t h =
    let u = marks_of_specifiers s.file.untagged specs in
    let v = marks_of_member_declarators s.file.untagged ds in
    let k = marks_of_members s.file.untagged more in
    let e = added_both false u v in
    let g = added_both false (u ++ v) k in
    all_of_both m h.1 h.2 fields
    (members_known ds s h.0 semicolon h.1 (n + added false u) m (omega (arith, l, e, g)) t.1 h.6)
    (fields_known more s h.2 (n + added false u + added false v) m (omega (arith, l, e, g)) t.2 h.7) h.3
