-- In each expression, type name, specifier and declarator whose rule holds, what begins to be in scope and what is defined is of the file (C99 6.2.1, 6.7.2).
use Rattle.std.proofs.Common.{◌≡◌, ℕ, ◌+◌, ◌<◌, ◌%◌, ◌^◌, true, false, List, [], ◌∷◌, ◌++◌, length, refl, sym, ◌∙◌, subst, arith, inl, inr}
use Rattle.std.specs.Prelude.{Option, Some, None, slice_get}
use Rattle.c_types.specs.Types.{CType}
use Rattle.c_types.specs.declared.ty.IntKind.TheVariants.{Int}
use Rattle.c_ast.specs.declared.operators.UnaryOp.TheVariants as U
use Rattle.c_ast.specs.declared.words.Spelling.{Spelling}
use Rattle.c_ast.specs.Trees
use Rattle.c_typed.specs.Conversions.{as_kind}
use Rattle.c_typed.specs.Trees as Typed
use Rattle.c_erasure.specs.Declarators.{Shape, closed, is_name}
use Rattle.c_erasure.specs.Erasure.{typed, after_all, comma_or, tag_text, Erases, AreValues, IsTypeName, IsBase, IsOne, Specifies, Declares, AreFields}
use Rattle.c_erasure.specs.Erasure.{AreMembers, AreEnumerators, IsEnumeratorValue}
use Rattle.c_erasure.specs.Files.{AreAscending}
use Rattle.c_erasure.specs.Marks as Marks
use Rattle.c_erasure.specs.Marks.{Mark, an_end, a_name, marks, marks_of_all, marks_of_type, marks_of_specifiers, marks_of_specifier}
use Rattle.c_erasure.specs.Marks.{marks_of_members, marks_of_member_declarators, marks_of_enumerators, marks_of_value, marks_of_declarator, an_enumeration}
use Rattle.c_erasure.specs.Noted.{Noted, Thing, an_object}
use Rattle.c_erasure.specs.Scopes.{FileScope, Scope, enumerator, defines, for_value, measured, declared}
use Rattle.c_erasure.specs.Specifiers.{types_among}
use Rattle.c_checking_laws.proofs.Agreement.{added}
use Rattle.c_checking_laws.proofs.Derived.{words_mark_nothing}
use Rattle.c_checking_laws.proofs.FaultPremises.{IsTimely, AreTimely, IsTypeTimely, AreSpecifiersTimely, AreMembersTimely, AreDeclaratorsTimely}
use Rattle.c_checking_laws.proofs.FaultPremises.{AreEnumeratorsTimely, IsValueTimely, IsDeclaratorTimely}
use Rattle.c_checking_laws.proofs.Ranges.{constant_below}
use Rattle.c_checking_laws.proofs.Settled.{AreWhole}
use Rattle.c_checking_laws.proofs.Ahead.{Standing, standing_left, standing_right}
use Rattle.c_checking_units.proofs.Lists.{ascending_apart}
use Rattle.c_checking_units.proofs.Tracing.{AreTraced, traced_both, two, three}
use Rattle.c_checking_units.proofs.Members.{fields_known}

-- a name without parameters and lengths marks nothing
pub name_marks_nothing : (untagged : ℕ → List ℕ) (d : Trees.Declarator) → is_name d ≡ true → marks_of_declarator untagged d ≡ []
name_marks_nothing untagged Trees.nothing h = refl
name_marks_nothing untagged (Trees.named x) h = refl
name_marks_nothing untagged (Trees.enclosed left d right) h = name_marks_nothing untagged d h
name_marks_nothing untagged (Trees.pointer at consts d) h = cc
name_marks_nothing untagged (Trees.array d left length right) h = cc
name_marks_nothing untagged (Trees.function d left all right) h = cc

none_traced : (f : FileScope) (u : List Mark) → u ≡ [] → AreTraced f u
none_traced f u e = subst (AreTraced f) (sym e) tt

-- the type of specifiers is that of their words, or of the one specifier that is no word
pub base_traced : (specs : Trees.Specifiers) (s : Scope) (t : CType)
    → (IsOne s specs t → AreTraced s.file (marks_of_specifiers s.file.untagged specs)) → IsBase (IsOne s specs) specs t
    → AreTraced s.file (marks_of_specifiers s.file.untagged specs)
base_traced specs s t one (inl h) = none_traced s.file _ (words_mark_nothing s.file.untagged specs h.0)
base_traced specs s t one (inr h) = one h.1

words_traced : (f : FileScope) (u : List Mark) (more : Trees.Specifiers) → AreTraced f u → types_among more ≡ []
    → AreTraced f (u ++ marks_of_specifiers f.untagged more)
words_traced f u more h e = traced_both f u (marks_of_specifiers f.untagged more) h (none_traced f _ (words_mark_nothing f.untagged more e))

enumeration_traced : (f : FileScope) (x : Option Spelling) (right : ℕ) → AreTraced f (an_enumeration f.untagged x right)
enumeration_traced f None right = tt
enumeration_traced f (Some x) right = tt

tag_same : (s : Scope) (at : ℕ) (x : Option Spelling) → tag_text s at x ≡ Marks.tag_name s.file.untagged at x
tag_same s at None = refl
tag_same s at (Some x) = refl

int_itself : (v : ℕ) → v < 2 ^ 32 → as_kind Int v ≡ v
int_itself v l = omega (arith, l)

value_below : (value : Trees.EnumeratorValue) (s : Scope) (next v : ℕ) → next < 2 ^ 32 → IsEnumeratorValue s next value v → v < 2 ^ 32
value_below Trees.no_value s next v l h = let e = h.0 in omega (arith, e, l)
value_below (Trees.valued equal a) s next v l h = constant_below (declared s) (typed h.1.0) v h.1.2 h.1.5

-- a structure whose members are traced
structure_traced : (at : ℕ) (x : Option Spelling) (left : ℕ) (all : Trees.MemberDeclarations) (right : ℕ) (s : Scope) (ty : CType) (n : ℕ)
    → AreAscending s.file.ends → AreMembersTimely s.file.untagged s.file.ends false n all
    → Standing s.file.ends false n (marks_of_members s.file.untagged all ++ an_end (Marks.tag_name s.file.untagged at x) right ∷ [])
    → (h : Specifies s (Trees.struct_body at x left all right) ty) → AreTraced s.file (marks_of_members s.file.untagged all)
    → AreTraced s.file (marks_of_specifier s.file.untagged (Trees.struct_body at x left all right))
structure_traced at x left all right s ty n c t st h members =
    let u = marks_of_members s.file.untagged all in
    let tag = Marks.tag_name s.file.untagged at x in
    let ends = s.file.ends in
    let m : ℕ = n + added false u in
    let own = standing_right ends false n u (an_end tag right ∷ []) st refl 0 right refl in
    let number : h.0 ≡ m = ascending_apart ends c h.0 m right h.6 (subst (λ k. slice_get ends k ≡ Some right) (let z : m + 0 ≡ m = omega arith in z) own) in
    let fields = fields_known all s h.1.fields n m (omega arith) t h.9 in
    traced_both s.file u (an_end tag right ∷ []) members (
      record {
        number = h.0;
        defined = h.1;
        stands = h.5;
        tag_is = h.7 ∙ tag_same s at x;
        different = h.10;
        whole = subst (λ k. AreWhole k h.1.fields) (sym number) fields;
      },
      tt,
    )

mutual
  pub traced : (a : Trees.Expression) (s : Scope) (th : Thing) (n : ℕ) → AreAscending s.file.ends → IsTimely s.file.untagged s.file.ends false n a
      → Standing s.file.ends false n (marks s.file.untagged a) → Erases a s th → AreTraced s.file (marks s.file.untagged a)
  traced (Trees.name x) s th n c t st h = tt
  traced (Trees.number x v kind) s th n c t st h = tt
  traced (Trees.character x v) s th n c t st h = tt
  traced (Trees.texts all) s th n c t st h = tt
  traced (Trees.paren left a right) s th n c t st h = traced a s th n c t st h
  traced (Trees.index a left b right) s th n c t st (inl h) =
      two s.file n (marks s.file.untagged a) (marks s.file.untagged b) st
      (λ st. traced a s (an_object h.1) n c t.0 st h.5) (λ st. traced b s h.6.0 (n + added false (marks s.file.untagged a)) c t.1 st h.6.2)
  traced (Trees.index a left b right) s th n c t st (inr (inl h)) =
      two s.file n (marks s.file.untagged a) (marks s.file.untagged b) st
      (λ st. traced a s h.4.0 n c t.0 st h.4.2) (λ st. traced b s h.5.0 (n + added false (marks s.file.untagged a)) c t.1 st h.5.2)
  traced (Trees.index a left b right) s th n c t st (inr (inr h)) =
      two s.file n (marks s.file.untagged a) (marks s.file.untagged b) st
      (λ st. traced a s h.5.0 n c t.0 st h.5.2) (λ st. traced b s h.6.0 (n + added false (marks s.file.untagged a)) c t.1 st h.6.2)
  traced (Trees.call f left all right) s th n c t st h =
      two s.file n (marks s.file.untagged f) (marks_of_all s.file.untagged all) st
      (λ st. traced f s h.1 n c t.0 st h.4) (λ st. all_traced all s h.2 (n + added false (marks s.file.untagged f)) c t.1 st h.5)
  traced (Trees.dot a at x) s th n c t st h = traced a s (an_object h.1) n c t.0 st h.6
  traced (Trees.arrow a at x) s th n c t st h = traced a s h.6.0 n c t.0 st h.6.2
  traced (Trees.post a op at) s th n c t st h = traced a s (an_object h.1) n c t st h.3
  traced (Trees.pre op at a) s th n c t st h = traced a s (an_object h.1) n c t st h.3
  traced (Trees.unary U.Address at a) s th n c t st h = traced a s h.0 n c t st h.2
  traced (Trees.unary U.Deref at a) s th n c t st h = traced a s h.2.0 n c t st h.2.2
  traced (Trees.unary U.Plus at a) s th n c t st h = traced a s h.3.0 n c t st h.3.2
  traced (Trees.unary U.Minus at a) s th n c t st h = traced a s h.3.0 n c t st h.3.2
  traced (Trees.unary U.Complement at a) s th n c t st h = traced a s h.3.0 n c t st h.3.2
  traced (Trees.unary U.Not at a) s th n c t st h = traced a s h.3.0 n c t st h.3.2
  traced (Trees.sizeof_expression at a) s th n c t st h = traced a (measured s) h.1.0 n c t.0 st h.1.1
  traced (Trees.sizeof_type at left m right) s th n c t st h = type_traced m s h.0 n c t.0 st h.1
  traced (Trees.cast left m right a) s th n c t st h =
      two s.file n (marks_of_type s.file.untagged m) (marks s.file.untagged a) st
      (λ st. type_traced m s h.0 n c t.0 st h.2) (λ st. traced a s h.4.0 (n + added false (marks_of_type s.file.untagged m)) c t.1 st h.4.2)
  traced (Trees.binary a op at b) s th n c t st h =
      two s.file n (marks s.file.untagged a) (marks s.file.untagged b) st
      (λ st. traced a s h.4.0 n c t.0 st h.4.2) (λ st. traced b s h.5.0 (n + added false (marks s.file.untagged a)) c t.1 st h.5.2)
  traced (Trees.cond a question b colon d) s th n c t st h =
      let u = marks s.file.untagged a in
      let v = marks s.file.untagged b in
      three s.file n u v (marks s.file.untagged d) st
      (λ st. traced a s h.5.0 n c t.0 st h.5.2) (λ st. traced b s h.6.0 (n + added false u) c t.1 st h.6.2)
      (λ st. traced d s h.7.0 (n + added false u + added false v) c t.2 st h.7.2)
  traced (Trees.assign a op at b) s th n c t st (inl h) =
      two s.file n (marks s.file.untagged a) (marks s.file.untagged b) st
      (λ st. traced a s (an_object h.1) n c t.0 st h.5) (λ st. traced b s h.6.0 (n + added false (marks s.file.untagged a)) c t.1 st h.6.2)
  traced (Trees.assign a op at b) s th n c t st (inr (inl h)) =
      two s.file n (marks s.file.untagged a) (marks s.file.untagged b) st
      (λ st. traced a s (an_object h.1) n c t.0 st h.5) (λ st. traced b s (an_object h.2) (n + added false (marks s.file.untagged a)) c t.1 st h.6)
  traced (Trees.assign a op at b) s th n c t st (inr (inr h)) =
      two s.file n (marks s.file.untagged a) (marks s.file.untagged b) st
      (λ st. traced a s (an_object h.1) n c t.0 st h.6) (λ st. traced b s h.7.0 (n + added false (marks s.file.untagged a)) c t.1 st h.7.2)
  traced (Trees.comma a at b) s th n c t st h =
      two s.file n (marks s.file.untagged a) (marks s.file.untagged b) st
      (λ st. traced a s h.4.0 n c t.0 st h.4.2) (λ st. traced b s h.5.0 (n + added false (marks s.file.untagged a)) c t.1 st h.5.2)
  traced (Trees.braces left all comma right) s th n c t st h = absurd h

  all_traced : (all : Trees.Arguments) (s : Scope) (xs : Typed.Expressions Noted) (n : ℕ) → AreAscending s.file.ends
      → AreTimely s.file.untagged s.file.ends false n all → Standing s.file.ends false n (marks_of_all s.file.untagged all) → AreValues s xs all
      → AreTraced s.file (marks_of_all s.file.untagged all)
  all_traced Trees.no_arguments s xs n c t st h = tt
  all_traced (Trees.and_argument comma a more) s xs n c t st h =
      two s.file n (marks s.file.untagged a) (marks_of_all s.file.untagged more) st
      (λ st. traced a s h.3.0 n c t.0 st h.3.2) (λ st. all_traced more s h.1 (n + added false (marks s.file.untagged a)) c t.1 st h.4)

  pub type_traced : (m : Trees.TypeName) (s : Scope) (ty : CType) (n : ℕ) → AreAscending s.file.ends → IsTypeTimely s.file.untagged s.file.ends false n m
      → Standing s.file.ends false n (marks_of_type s.file.untagged m) → IsTypeName s m ty → AreTraced s.file (marks_of_type s.file.untagged m)
  type_traced (Trees.type_name specs d) s ty n c t st h =
      let u = marks_of_specifiers s.file.untagged specs in
      two s.file n u (marks_of_declarator s.file.untagged d) st
      (λ st. base_traced specs s h.0 (λ o. one_traced specs s h.0 n c t.0 st o) h.2)
      (λ st. declarator_traced d s h.0 (closed ty) (n + added false u) c t.1 st h.3)

  -- the one specifier that is no word
  pub one_traced : (specs : Trees.Specifiers) (s : Scope) (ty : CType) (n : ℕ) → AreAscending s.file.ends
      → AreSpecifiersTimely s.file.untagged s.file.ends false n specs → Standing s.file.ends false n (marks_of_specifiers s.file.untagged specs)
      → IsOne s specs ty → AreTraced s.file (marks_of_specifiers s.file.untagged specs)
  one_traced Trees.no_specifiers s ty n c t st h = absurd h
  one_traced (Trees.and_specifier (Trees.plain word at) more) s ty n c t st h = one_traced more s ty n c t st h
  one_traced (Trees.and_specifier (Trees.typename x) more) s ty n c t st h = words_traced s.file [] more tt h.1
  one_traced (Trees.and_specifier (Trees.struct_named at x) more) s ty n c t st h =
      words_traced s.file (marks_of_specifier s.file.untagged (Trees.struct_named at x)) more tt h.1
  one_traced (Trees.and_specifier (Trees.enum_named at x) more) s ty n c t st h = words_traced s.file [] more tt h.1
  one_traced (Trees.and_specifier (Trees.struct_body at x left all right) more) s ty n c t st h =
      let w = marks_of_specifier s.file.untagged (Trees.struct_body at x left all right) in
      let u = marks_of_members s.file.untagged all in
      let v : List Mark = an_end (Marks.tag_name s.file.untagged at x) right ∷ [] in
      let own : Standing s.file.ends false n (u ++ v) = standing_left s.file.ends false n w (marks_of_specifiers s.file.untagged more) st in
      let members = members_traced all s h.0.1.fields n c t (standing_left s.file.ends false n u v own) h.0.9 in
      words_traced s.file w more (structure_traced at x left all right s ty n c t own h.0 members) h.1
  one_traced (Trees.and_specifier (Trees.enum_body at x left all comma right) more) s ty n c t st h =
      let v = marks_of_enumerators s.file.untagged all (after_all comma right) in
      let w = an_enumeration s.file.untagged x right in
      let own = standing_left s.file.ends false n (v ++ w) (marks_of_specifiers s.file.untagged more) st in
      words_traced s.file (v ++ w) more
      (traced_both s.file v w (enumerators_traced all s 0 (after_all comma right) n c (omega arith) t (standing_left s.file.ends false n v w own) h.0.2)
      (enumeration_traced s.file x right)) h.1

  members_traced : (all : Trees.MemberDeclarations) (s : Scope) (fields : List Rattle.c_types.specs.Types.Field) (n : ℕ) → AreAscending s.file.ends
      → AreMembersTimely s.file.untagged s.file.ends false n all → Standing s.file.ends false n (marks_of_members s.file.untagged all)
      → AreFields s all fields → AreTraced s.file (marks_of_members s.file.untagged all)
  members_traced Trees.no_member_declarations s fields n c t st h = tt
  members_traced (Trees.and_member_declaration specs ds semicolon more) s fields n c t st h =
      let u = marks_of_specifiers s.file.untagged specs in
      let v = marks_of_member_declarators s.file.untagged ds in
      three s.file n u v (marks_of_members s.file.untagged more) st
      (λ st. base_traced specs s h.0 (λ o. one_traced specs s h.0 n c t.0 st o) h.5)
      (λ st. declarators_traced ds s h.0 semicolon h.1 (n + added false u) c t.1 st h.6)
      (λ st. members_traced more s h.2 (n + added false u + added false v) c t.2 st h.7)

  declarators_traced : (ds : Trees.MemberDeclarators) (s : Scope) (base : CType) (semicolon : ℕ) (fields : List Rattle.c_types.specs.Types.Field) (n : ℕ)
      → AreAscending s.file.ends → AreDeclaratorsTimely s.file.untagged s.file.ends false n ds semicolon
      → Standing s.file.ends false n (marks_of_member_declarators s.file.untagged ds) → AreMembers s base ds semicolon fields
      → AreTraced s.file (marks_of_member_declarators s.file.untagged ds)
  declarators_traced Trees.no_member_declarators s base semicolon fields n c t st h = tt
  declarators_traced (Trees.and_member_declarator comma d more) s base semicolon fields n c t st h =
      let u = marks_of_declarator s.file.untagged d in
      two s.file n u (marks_of_member_declarators s.file.untagged more) st
      (λ st. declarator_traced d s base (closed h.1) n c t.0 st h.4)
      (λ st. declarators_traced more s base semicolon h.2 (n + added false u) c t.3 st h.8)

  enumerators_traced : (all : Trees.Enumerators) (s : Scope) (next after n : ℕ) → AreAscending s.file.ends → next < 2 ^ 32
      → AreEnumeratorsTimely s.file.untagged s.file.ends false n all → Standing s.file.ends false n (marks_of_enumerators s.file.untagged all after)
      → AreEnumerators s next all after → AreTraced s.file (marks_of_enumerators s.file.untagged all after)
  enumerators_traced Trees.no_enumerators s next after n c l t st h = tt
  enumerators_traced (Trees.and_enumerator comma x value more) s next after n c l t st h =
      let u = marks_of_value s.file.untagged value in
      let k = marks_of_enumerators s.file.untagged more after in
      two s.file n u (a_name (comma_or more after) ∷ k) st
      (λ st. value_traced value s next h.0 n c t.0 st h.1)
      (λ st. (
        record {
          binding = record { name = x.text; place = x.from; from = comma_or more after; how = defines; entity = enumerator h.0 };
          value = h.0;
          stands = h.2;
          begins = refl;
          is = refl;
          fit = int_itself h.0 (value_below value s next h.0 l h.1);
        },
        enumerators_traced more s ((h.0 + 1) % 2 ^ 32) after (n + added false u) c (omega arith) t.1 st h.3,
      ))

  value_traced : (value : Trees.EnumeratorValue) (s : Scope) (next v n : ℕ) → AreAscending s.file.ends
      → IsValueTimely s.file.untagged s.file.ends false n value → Standing s.file.ends false n (marks_of_value s.file.untagged value)
      → IsEnumeratorValue s next value v → AreTraced s.file (marks_of_value s.file.untagged value)
  value_traced Trees.no_value s next v n c t st h = tt
  value_traced (Trees.valued equal a) s next v n c t st h = traced a (for_value s) h.1.1.0 n c t st h.1.1.2

  pub declarator_traced : (d : Trees.Declarator) (s : Scope) (base : CType) (shape : Shape) (n : ℕ) → AreAscending s.file.ends
      → IsDeclaratorTimely s.file.untagged s.file.ends false n d → Standing s.file.ends false n (marks_of_declarator s.file.untagged d)
      → Declares s d base shape → AreTraced s.file (marks_of_declarator s.file.untagged d)
  declarator_traced Trees.nothing s base shape n c t st h = tt
  declarator_traced (Trees.named x) s base shape n c t st h = tt
  declarator_traced (Trees.pointer at consts d) s base shape n c t st h = declarator_traced d s _ shape n c t st h.1
  declarator_traced (Trees.enclosed left d right) s base shape n c t st h = declarator_traced d s base shape n c t st h
  declarator_traced (Trees.array d left (Trees.some_expression a) right) s base shape n c t st h =
      let u = marks_of_declarator s.file.untagged d in
      two s.file n u (marks s.file.untagged a) st
      (λ st. declarator_traced d s _ shape n c t.0 st h.8) (λ st. traced a (for_value s) h.3.1.0 (n + added false u) c t.2 st h.3.1.2)
  declarator_traced (Trees.array d left Trees.no_expression right) s base shape n c t st h =
      traced_both s.file (marks_of_declarator s.file.untagged d) [] (none_traced s.file _ (name_marks_nothing s.file.untagged d h.1)) tt
  declarator_traced (Trees.function d left all right) s base shape n c t st h = declarator_traced d s _ shape n c t.0 st h.4
