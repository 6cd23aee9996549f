-- In an annotated file an enumerator has its name, and a string literal its object: of expressions and types (C99 6.4.5, 6.7.2.2).
use Rattle.std.proofs.Common.{◌≡◌, ℕ, Bool, true, false, List, [], ◌∷◌, ◌++◌, Option, Some, None, refl, sym, subst, inl, inr}
use Rattle.std.specs.Prelude.{slice_get}
use Rattle.c_types.specs.Types.{CType, CTypes, Field}
use Rattle.c_ast.specs.declared.operators.UnaryOp.{UnaryOp}
use Rattle.c_ast.specs.declared.operators.AssignOp.{AssignOp}
use Rattle.c_ast.specs.declared.operators.BinaryOp.{BinaryOp}
use Rattle.c_ast.specs.declared.operators.StepOp.{StepOp}
use Rattle.c_ast.specs.declared.operators.UnaryOp.TheVariants as U
use Rattle.c_ast.specs.declared.words.Spelling.{Spelling}
use Rattle.c_ast.specs.Trees
use Rattle.c_ast.specs.Places.{first_text}
use Rattle.c_erasure.specs.Declarators.{Shape, is_name, declared_name, parameter_type}
use Rattle.c_erasure.specs.Erasure.{IsBound, IsBase, Erases, AreValues, IsTypeName, IsOne, Declares, AreParameters}
use Rattle.c_erasure.specs.Erasure.{AreListed, AreFields, AreMembers, AreEnumerators, IsEnumeratorValue, IsLiteralFor, place_in, literal_of}
use Rattle.c_erasure.specs.Erasure.{with_parameter_if_named}
use Rattle.c_erasure.specs.Erasure.{after_all, comma_or}
use Rattle.c_erasure.specs.Marks.{tag_name}
use Rattle.c_erasure.specs.Noted.{Thing}
use Rattle.c_erasure.specs.Scopes.{Bound, AnObject, FileScope, Scope, Purpose, in_full, value_alone, type_alone, purpose_of_value, enumerator, at_file_scope}
use Rattle.c_erasure.specs.Scopes.{inside}
use Rattle.c_erasure.specs.Scopes.{for_value, measured}
use Rattle.c_erasure.specs.Specifiers.{types_among}
use Rattle.c_typed.specs.Trees as Typed
use Rattle.c_erasure.specs.Noted.{Noted}
use Rattle.c_checking_laws.proofs.CompleteWalk.{Event, a_use, a_look, a_tag, an_end, a_name, a_literal, seen, with_event, is_kept, walk, walk_of_all}
use Rattle.c_checking_laws.proofs.CompleteWalk.{walk_of_type, walk_of_specifiers, walk_of_members, walk_of_member_declarators, walk_of_enumerators}
use Rattle.c_checking_laws.proofs.CompleteWalk.{walk_of_value, walk_of_declarator, walk_of_parameter_list, walk_of_parameters, an_enumeration}

-- what an event says of the file: an enumerator's name, or an object
abbrev pub IsEnumeratorFrom : FileScope → ℕ → Type 0
IsEnumeratorFrom g from = (b : Bound) × (v : ℕ) × IsBound (at_file_scope g) b × (b.from ≡ from) × (b.entity ≡ enumerator v)

abbrev pub HasObject : FileScope → ℕ → Type 0
HasObject g at = (n : ℕ) × (o : AnObject) × (slice_get g.objects n ≡ Some o) × (o.first ≡ at)

abbrev pub IsThere : FileScope → Event → Type 0
IsThere g (a_name from) = IsEnumeratorFrom g from
IsThere g (a_literal at) = HasObject g at
IsThere g e = Unit {0}

-- of those that are seen
abbrev pub AreThere : FileScope → Bool → Purpose → List Event → Type 0
AreThere g i p [] = Unit {0}
AreThere g i p (e ∷ all) = (is_kept e i p ≡ true → IsThere g e) × AreThere g i p all

pub there_both : (g : FileScope) (i : Bool) (p : Purpose) (a b : List Event) → AreThere g i p a → AreThere g i p b → AreThere g i p (a ++ b)
there_both g i p [] b h k = k
there_both g i p (e ∷ a) b h k = (h.0, there_both g i p a b h.1 k)

there_seen : (g : FileScope) (i j k : Bool) (p q r : Purpose) → ((e : Event) → is_kept e j q ≡ true → is_kept e i p ≡ true → is_kept e k r ≡ true)
    → (all : List Event) → AreThere g k r all → AreThere g i p (seen j q all)
there_seen g i j k p q r agree [] h = tt
there_seen g i j k p q r agree (e ∷ all) h = by_test (is_kept e j q) refl (there_seen g i j k p q r agree all h.1)
  where
    by_test : (b : Bool) → is_kept e j q ≡ b → AreThere g i p (seen j q all) → AreThere g i p (with_event b e (seen j q all))
    by_test true f rest = (λ m. h.0 (agree e f m), rest)
    by_test false f rest = rest

pub for_value_there : (g : FileScope) (i : Bool) (p : Purpose) (all : List Event) → AreThere g i (purpose_of_value p) all
    → AreThere g i p (seen false value_alone all)
for_value_there g i p all h = there_seen g i false i p value_alone (purpose_of_value p) agree all h
  where
    agree : (e : Event) → is_kept e false value_alone ≡ true → is_kept e i p ≡ true → is_kept e i (purpose_of_value p) ≡ true
    agree (a_use at) f m = refl
    agree (a_look at) f m = refl
    agree (a_tag t) f m = m
    agree (an_end tag right) f m = m
    agree (a_name from) f m = m
    agree (a_literal at) f m = cc

measured_there : (g : FileScope) (i : Bool) (p : Purpose) (all : List Event) → AreThere g i type_alone all → AreThere g i p (seen false value_alone all)
measured_there g i p all h = there_seen g i false i p value_alone type_alone agree all h
  where
    agree : (e : Event) → is_kept e false value_alone ≡ true → is_kept e i p ≡ true → is_kept e i type_alone ≡ true
    agree (a_use at) f m = refl
    agree (a_look at) f m = refl
    agree (a_tag t) f m = m
    agree (an_end tag right) f m = m
    agree (a_name from) f m = m
    agree (a_literal at) f m = cc

inside_there : (g : FileScope) (i : Bool) (p : Purpose) (all : List Event) → AreThere g true p all → AreThere g i p (seen true in_full all)
inside_there g i p all h = there_seen g i true true p in_full p agree all h
  where
    kept : (at : ℕ) (p : Purpose) → is_kept (a_literal at) i p ≡ true → is_kept (a_literal at) true p ≡ true
    kept at in_full m = refl
    kept at value_alone m = m
    kept at type_alone m = m

    agree : (e : Event) → is_kept e true in_full ≡ true → is_kept e i p ≡ true → is_kept e true p ≡ true
    agree (a_use at) f m = refl
    agree (a_look at) f m = refl
    agree (a_tag t) f m = cc
    agree (an_end tag right) f m = cc
    agree (a_name from) f m = cc
    agree (a_literal at) f m = kept at p m

-- words alone declare nothing
words_walk : (u : ℕ → List ℕ) (specs : Trees.Specifiers) → types_among specs ≡ [] → walk_of_specifiers u specs ≡ []
words_walk u Trees.no_specifiers h = refl
words_walk u (Trees.and_specifier (Trees.plain word at) more) h = words_walk u more h
words_walk u (Trees.and_specifier (Trees.typename x) more) h = cc
words_walk u (Trees.and_specifier (Trees.struct_named at x) more) h = cc
words_walk u (Trees.and_specifier (Trees.struct_body at x left all right) more) h = cc
words_walk u (Trees.and_specifier (Trees.enum_named at x) more) h = cc
words_walk u (Trees.and_specifier (Trees.enum_body at x left all comma right) more) h = cc

-- of a scope
abbrev pub There : Scope → List Event → Type 0
There s all = AreThere s.file s.is_inside s.purpose all

pub both : (s : Scope) (a b : List Event) → There s a → There s b → There s (a ++ b)
both s a b h k = there_both s.file s.is_inside s.purpose a b h k

look_at : (s : Scope) (at : ℕ) (all : List Event) → There s all → There s (a_look at ∷ all)
look_at s at all h = (λ m. tt, h)

look_use : (s : Scope) (at : ℕ) → There s (a_use at ∷ [])
look_use s at = (λ m. tt, tt)

end_at : (s : Scope) (tag : List ℕ) (right : ℕ) → There s (an_end tag right ∷ [])
end_at s tag right = (λ m. tt, tt)

name_at : (s : Scope) (from : ℕ) (all : List Event) → IsEnumeratorFrom s.file from → There s all → There s (a_name from ∷ all)
name_at s from all e h = (λ m. e, h)

literal_there : (s : Scope) (at : ℕ) (bytes : List ℕ) (th : Thing) (p : Purpose) → IsLiteralFor p s (place_in s at) bytes th
    → AreThere s.file s.is_inside p (a_literal at ∷ [])
literal_there s at bytes th in_full h = (λ m. (h.0, _, h.2, refl), tt)
literal_there s at bytes th value_alone h = (λ m. cc, tt)
literal_there s at bytes th type_alone h = (λ m. cc, tt)

there_nothing : (s : Scope) (specs : Trees.Specifiers) → types_among specs ≡ [] → There s (walk_of_specifiers s.file.untagged specs)
there_nothing s specs e = subst (There s) (sym (words_walk s.file.untagged specs e)) tt

enumeration_there : (s : Scope) (x : Option Spelling) (right : ℕ) → There s (an_enumeration s.file.untagged x right)
enumeration_there s None right = tt
enumeration_there s (Some x) right = (λ m. tt, tt)

parameter_inside : (s : Scope) (o : Option Spelling) (t : CType) → s.is_inside ≡ true → (with_parameter_if_named s o t).is_inside ≡ true
parameter_inside s None t e = e
parameter_inside s (Some x) t e = refl

behind_parameter : (s : Scope) (o : Option Spelling) (t : CType) (more : Trees.Parameters)
    → AreThere (with_parameter_if_named s o t).file true (with_parameter_if_named s o t).purpose
    (walk_of_parameters (with_parameter_if_named s o t).file.untagged more)
    → AreThere s.file true s.purpose (walk_of_parameters s.file.untagged more)
behind_parameter s None t more h = h
behind_parameter s (Some x) t more h = h

-- ---- what is said of each part of a tree

abbrev Operand : Trees.Expression → Type 0
Operand a = (s : Scope) (th : Thing) → Erases a s th → There s (walk s.file.untagged a)

abbrev OfAll : Trees.Arguments → Type 0
OfAll all = (s : Scope) (xs : Typed.Expressions Noted) → AreValues s xs all → There s (walk_of_all s.file.untagged all)

abbrev OfType : Trees.TypeName → Type 0
OfType n = (s : Scope) (t : CType) → IsTypeName s n t → There s (walk_of_type s.file.untagged n)

abbrev OfOne : Trees.Specifiers → Type 0
OfOne specs = (s : Scope) (t : CType) → IsOne s specs t → There s (walk_of_specifiers s.file.untagged specs)

abbrev OfMembers : Trees.MemberDeclarations → Type 0
OfMembers all = (s : Scope) (fields : List Field) → AreFields s all fields → There s (walk_of_members s.file.untagged all)

abbrev OfMemberDeclarators : Trees.MemberDeclarators → Type 0
OfMemberDeclarators all = (s : Scope) (base : CType) (semicolon : ℕ) (fields : List Field) → AreMembers s base all semicolon fields
    → There s (walk_of_member_declarators s.file.untagged all semicolon)

abbrev OfEnumerators : Trees.Enumerators → Type 0
OfEnumerators all = (s : Scope) (next after : ℕ) → AreEnumerators s next all after → There s (walk_of_enumerators s.file.untagged all after)

abbrev OfValue : Trees.EnumeratorValue → Type 0
OfValue value = (s : Scope) (next v : ℕ) → IsEnumeratorValue s next value v → There s (walk_of_value s.file.untagged value)

abbrev OfDeclarator : Trees.Declarator → Type 0
OfDeclarator d = (s : Scope) (t : CType) (shape : Shape) → Declares s d t shape → There s (walk_of_declarator s.file.untagged d)

-- a parameter's name is no name of the file
abbrev OfParameterList : Trees.ParameterList → Type 0
OfParameterList all = (s : Scope) (types : CTypes) → s.is_inside ≡ true → AreParameters s all types
    → AreThere s.file true s.purpose (walk_of_parameter_list s.file.untagged all)

abbrev OfParameters : Trees.Parameters → Type 0
OfParameters all = (s : Scope) (types : CTypes) → s.is_inside ≡ true → AreListed s all types
    → AreThere s.file true s.purpose (walk_of_parameters s.file.untagged all)

-- ---- each node, where its parts are known

of_name : (x : Spelling) → Operand (Trees.name x)
of_name x s th h = look_use s x.from

of_texts : (all : List Spelling) → Operand (Trees.texts all)
of_texts all s th h = literal_there s (first_text all) (literal_of all) th s.purpose h

of_index : (a : Trees.Expression) (left : ℕ) (b : Trees.Expression) (right : ℕ) → Operand a → Operand b → Operand (Trees.index a left b right)
of_index a left b right p q s th (inl h) = (λ m. tt, both s _ _ (p s _ h.5) (q s _ h.6.2))
of_index a left b right p q s th (inr (inl h)) = (λ m. tt, both s _ _ (p s _ h.4.2) (q s _ h.5.2))
of_index a left b right p q s th (inr (inr h)) = (λ m. tt, both s _ _ (p s _ h.5.2) (q s _ h.6.2))

of_call : (f : Trees.Expression) (left : ℕ) (all : Trees.Arguments) (right : ℕ) → Operand f → OfAll all → Operand (Trees.call f left all right)
of_call f left all right p q s th h = both s _ _ (p s h.1 h.4) (q s h.2 h.5)

of_dot : (a : Trees.Expression) (at : ℕ) (x : Spelling) → Operand a → Operand (Trees.dot a at x)
of_dot a at x p s th h = both s _ _ (p s _ h.6) (look_at s at [] tt)

of_arrow : (a : Trees.Expression) (at : ℕ) (x : Spelling) → Operand a → Operand (Trees.arrow a at x)
of_arrow a at x p s th h = (λ m. tt, p s _ h.6.2)

of_post : (a : Trees.Expression) (op : StepOp) (at : ℕ) → Operand a → Operand (Trees.post a op at)
of_post a op at p s th h = p s _ h.3

of_pre : (op : StepOp) (at : ℕ) (a : Trees.Expression) → Operand a → Operand (Trees.pre op at a)
of_pre op at a p s th h = p s _ h.3

of_unary : (op : UnaryOp) (at : ℕ) (a : Trees.Expression) → Operand a → Operand (Trees.unary op at a)
of_unary U.Address at a p s th h = (λ m. tt, p s h.0 h.2)
of_unary U.Deref at a p s th h = (λ m. tt, p s _ h.2.2)
of_unary U.Plus at a p s th h = (λ m. tt, p s _ h.3.2)
of_unary U.Minus at a p s th h = (λ m. tt, p s _ h.3.2)
of_unary U.Complement at a p s th h = (λ m. tt, p s _ h.3.2)
of_unary U.Not at a p s th h = (λ m. tt, p s _ h.3.2)

of_sizeof : (at : ℕ) (a : Trees.Expression) → Operand a → Operand (Trees.sizeof_expression at a)
of_sizeof at a p s th h = (λ m. tt, measured_there s.file s.is_inside s.purpose (walk s.file.untagged a) (p (measured s) h.1.0 h.1.1))

of_sizeof_type : (at left : ℕ) (n : Trees.TypeName) (right : ℕ) → OfType n → Operand (Trees.sizeof_type at left n right)
of_sizeof_type at left n right p s th h = both s _ _ (p s h.0 h.1) (look_at s right [] tt)

of_cast : (left : ℕ) (n : Trees.TypeName) (right : ℕ) (a : Trees.Expression) → OfType n → Operand a → Operand (Trees.cast left n right a)
of_cast left n right a p q s th h = both s _ _ (p s h.0 h.2) (q s _ h.4.2)

of_binary : (a : Trees.Expression) (op : BinaryOp) (at : ℕ) (b : Trees.Expression) → Operand a → Operand b → Operand (Trees.binary a op at b)
of_binary a op at b p q s th h = (λ m. tt, both s _ _ (p s _ h.4.2) (q s _ h.5.2))

of_cond : (a : Trees.Expression) (question : ℕ) (b : Trees.Expression) (colon : ℕ) (c : Trees.Expression) → Operand a → Operand b → Operand c
    → Operand (Trees.cond a question b colon c)
of_cond a question b colon c p q r s th h = both s _ _ (both s _ _ (p s _ h.5.2) (q s _ h.6.2)) (r s _ h.7.2)

of_assign : (a : Trees.Expression) (op : AssignOp) (at : ℕ) (b : Trees.Expression) → Operand a → Operand b → Operand (Trees.assign a op at b)
of_assign a op at b p q s th (inl h) = both s _ _ (p s _ h.5) (q s _ h.6.2)
of_assign a op at b p q s th (inr (inl h)) = both s _ _ (p s _ h.5) (q s _ h.6)
of_assign a op at b p q s th (inr (inr h)) = both s _ _ (p s _ h.6) (q s _ h.7.2)

of_comma : (a : Trees.Expression) (at : ℕ) (b : Trees.Expression) → Operand a → Operand b → Operand (Trees.comma a at b)
of_comma a at b p q s th h = both s _ _ (p s _ h.4.2) (q s _ h.5.2)

of_argument : (comma : Option ℕ) (a : Trees.Expression) (more : Trees.Arguments) → Operand a → OfAll more → OfAll (Trees.and_argument comma a more)
of_argument comma a more p q s xs h = both s _ _ (p s _ h.3.2) (q s h.1 h.4)

-- ---- types

pub of_specifiers : (specs : Trees.Specifiers) → OfOne specs → (s : Scope) (t : CType) → IsBase (IsOne s specs) specs t
    → There s (walk_of_specifiers s.file.untagged specs)
of_specifiers specs p s t (inl h) = there_nothing s specs h.0
of_specifiers specs p s t (inr h) = p s t h.1

of_type : (specs : Trees.Specifiers) (d : Trees.Declarator) → OfOne specs → OfDeclarator d → OfType (Trees.type_name specs d)
of_type specs d p q s t h = both s _ _ (of_specifiers specs p s h.0 h.2) (q s h.0 _ h.3)

of_typename : (x : Spelling) (more : Trees.Specifiers) → OfOne (Trees.and_specifier (Trees.typename x) more)
of_typename x more s t h = (λ m. tt, there_nothing s more h.1)

of_struct_named : (at : ℕ) (x : Spelling) (more : Trees.Specifiers) → OfOne (Trees.and_specifier (Trees.struct_named at x) more)
of_struct_named at x more s t h = (λ m. tt, there_nothing s more h.1)

of_struct : (at : ℕ) (x : Option Spelling) (left : ℕ) (all : Trees.MemberDeclarations) (right : ℕ) (more : Trees.Specifiers) → OfMembers all
    → OfOne (Trees.and_specifier (Trees.struct_body at x left all right) more)
of_struct at x left all right more p s t h =
    (λ m. tt, both s _ _ (both s _ _ (p s _ h.0.9) (end_at s (tag_name s.file.untagged at x) right)) (there_nothing s more h.1))

of_enum_named : (at : ℕ) (x : Spelling) (more : Trees.Specifiers) → OfOne (Trees.and_specifier (Trees.enum_named at x) more)
of_enum_named at x more s t h = there_nothing s more h.1

of_enum : (at : ℕ) (x : Option Spelling) (left : ℕ) (all : Trees.Enumerators) (comma : Option ℕ) (right : ℕ) (more : Trees.Specifiers)
    → OfEnumerators all → OfOne (Trees.and_specifier (Trees.enum_body at x left all comma right) more)
of_enum at x left all comma right more p s t h =
    both s _ _ (both s _ _ (p s 0 (after_all comma right) h.0.2) (enumeration_there s x right)) (there_nothing s more h.1)

of_member : (specs : Trees.Specifiers) (ds : Trees.MemberDeclarators) (semicolon : ℕ) (more : Trees.MemberDeclarations) → OfOne specs
    → OfMemberDeclarators ds → OfMembers more → OfMembers (Trees.and_member_declaration specs ds semicolon more)
of_member specs ds semicolon more p q r s fields h =
    both s _ _ (both s _ _ (of_specifiers specs p s h.0 h.5) (q s h.0 semicolon h.1 h.6)) (r s h.2 h.7)

of_member_declarator : (comma : Option ℕ) (d : Trees.Declarator) (more : Trees.MemberDeclarators) → OfDeclarator d → OfMemberDeclarators more
    → OfMemberDeclarators (Trees.and_member_declarator comma d more)
of_member_declarator comma d more p q s base semicolon fields h = (λ m. tt, both s _ _ (p s base _ h.4) (q s base semicolon h.2 h.8))

of_enumerator : (comma : Option ℕ) (x : Spelling) (value : Trees.EnumeratorValue) (more : Trees.Enumerators) → OfValue value → OfEnumerators more
    → OfEnumerators (Trees.and_enumerator comma x value more)
of_enumerator comma x value more p q s next after h =
    both s _ _ (p s next h.0 h.1) (name_at s (comma_or more after) _ (_, h.0, h.2, refl, refl) (q s _ after h.3))

of_value : (equal : ℕ) (a : Trees.Expression) → Operand a → OfValue (Trees.valued equal a)
of_value equal a p s next v h = for_value_there s.file s.is_inside s.purpose (walk s.file.untagged a) (p (for_value s) _ h.1.1.2)

of_pointer : (at : ℕ) (consts : List ℕ) (d : Trees.Declarator) → OfDeclarator d → OfDeclarator (Trees.pointer at consts d)
of_pointer at consts d p s t shape h = p s _ shape h.1

of_array : (d : Trees.Declarator) (left : ℕ) (a : Trees.Expression) (right : ℕ) → OfDeclarator d → Operand a
    → OfDeclarator (Trees.array d left (Trees.some_expression a) right)
of_array d left a right p q s t shape h =
    both s _ _ (p s _ shape h.8)
    (look_at s left _ (for_value_there s.file s.is_inside s.purpose (walk s.file.untagged a) (q (for_value s) _ h.3.1.2)))

of_bare : (d : Trees.Declarator) (s : Scope) → is_name d ≡ true → There s (walk_of_declarator s.file.untagged d)
of_bare Trees.nothing s h = tt
of_bare (Trees.named x) s h = tt
of_bare (Trees.enclosed left d right) s h = of_bare d s h
of_bare (Trees.pointer at consts d) s h = cc
of_bare (Trees.array d left length right) s h = cc
of_bare (Trees.function d left all right) s h = cc

of_open : (d : Trees.Declarator) (left right : ℕ) → OfDeclarator (Trees.array d left Trees.no_expression right)
of_open d left right s t shape h = both s _ _ (of_bare d s h.1) (look_at s left [] tt)

of_function : (d : Trees.Declarator) (left : ℕ) (all : Trees.ParameterList) (right : ℕ) → OfDeclarator d → OfParameterList all
    → OfDeclarator (Trees.function d left all right)
of_function d left all right p q s t shape h =
    both s _ _ (p s _ shape h.4) (inside_there s.file s.is_inside s.purpose (walk_of_parameter_list s.file.untagged all) (q (inside s) h.0 refl h.1))

of_parameter : (comma : Option ℕ) (specs : Trees.Specifiers) (d : Trees.Declarator) (more : Trees.Parameters) → OfOne specs → OfDeclarator d
    → OfParameters more → OfParameters (Trees.and_parameter comma specs d more)
of_parameter comma specs d more p q r s types e h =
    let t = parameter_type h.1 in
    there_both s.file true s.purpose _ _
    (subst (λ i. AreThere s.file i s.purpose (walk_of_specifiers s.file.untagged specs ++ walk_of_declarator s.file.untagged d)) e
    (both s _ _ (of_specifiers specs p s h.0 h.5) (q s h.0 h.1 h.6)))
    (behind_parameter s (declared_name d) t more
    (r (with_parameter_if_named s (declared_name d) t) h.2 (parameter_inside s (declared_name d) t e) h.10))

-- ---- each part of a tree

mutual
  pub there : (a : Trees.Expression) → Operand a
  there (Trees.name x) = of_name x
  there (Trees.number x n kind) = λ s th h. tt
  there (Trees.character x n) = λ s th h. tt
  there (Trees.texts all) = of_texts all
  there (Trees.paren left a right) = there a
  there (Trees.index a left b right) = of_index a left b right (there a) (there b)
  there (Trees.call f left all right) = of_call f left all right (there f) (there_all all)
  there (Trees.dot a at x) = of_dot a at x (there a)
  there (Trees.arrow a at x) = of_arrow a at x (there a)
  there (Trees.post a op at) = of_post a op at (there a)
  there (Trees.pre op at a) = of_pre op at a (there a)
  there (Trees.unary op at a) = of_unary op at a (there a)
  there (Trees.sizeof_expression at a) = of_sizeof at a (there a)
  there (Trees.sizeof_type at left n right) = of_sizeof_type at left n right (there_type n)
  there (Trees.cast left n right a) = of_cast left n right a (there_type n) (there a)
  there (Trees.binary a op at b) = of_binary a op at b (there a) (there b)
  there (Trees.cond a question b colon c) = of_cond a question b colon c (there a) (there b) (there c)
  there (Trees.assign a op at b) = of_assign a op at b (there a) (there b)
  there (Trees.comma a at b) = of_comma a at b (there a) (there b)
  there (Trees.braces left all comma right) = λ s th h. absurd h

  there_all : (all : Trees.Arguments) → OfAll all
  there_all Trees.no_arguments = λ s xs h. tt
  there_all (Trees.and_argument comma a more) = of_argument comma a more (there a) (there_all more)

  there_type : (n : Trees.TypeName) → OfType n
  there_type (Trees.type_name specs d) = of_type specs d (there_one specs) (there_declarator d)

  pub there_one : (specs : Trees.Specifiers) → OfOne specs
  there_one Trees.no_specifiers = λ s t h. absurd h
  there_one (Trees.and_specifier (Trees.plain word at) more) = there_one more
  there_one (Trees.and_specifier (Trees.typename x) more) = of_typename x more
  there_one (Trees.and_specifier (Trees.struct_named at x) more) = of_struct_named at x more
  there_one (Trees.and_specifier (Trees.struct_body at x left all right) more) = of_struct at x left all right more (there_members all)
  there_one (Trees.and_specifier (Trees.enum_named at x) more) = of_enum_named at x more
  there_one (Trees.and_specifier (Trees.enum_body at x left all comma right) more) = of_enum at x left all comma right more (there_enumerators all)

  there_members : (all : Trees.MemberDeclarations) → OfMembers all
  there_members Trees.no_member_declarations = λ s fields h. tt
  there_members (Trees.and_member_declaration specs ds semicolon more) =
      of_member specs ds semicolon more (there_one specs) (there_member_declarators ds) (there_members more)

  there_member_declarators : (all : Trees.MemberDeclarators) → OfMemberDeclarators all
  there_member_declarators Trees.no_member_declarators = λ s base semicolon fields h. tt
  there_member_declarators (Trees.and_member_declarator comma d more) =
      of_member_declarator comma d more (there_declarator d) (there_member_declarators more)

  there_enumerators : (all : Trees.Enumerators) → OfEnumerators all
  there_enumerators Trees.no_enumerators = λ s next after h. tt
  there_enumerators (Trees.and_enumerator comma x value more) = of_enumerator comma x value more (there_value value) (there_enumerators more)

  there_value : (value : Trees.EnumeratorValue) → OfValue value
  there_value Trees.no_value = λ s next v h. tt
  there_value (Trees.valued equal a) = of_value equal a (there a)

  pub there_declarator : (d : Trees.Declarator) → OfDeclarator d
  there_declarator Trees.nothing = λ s t shape h. tt
  there_declarator (Trees.named x) = λ s t shape h. tt
  there_declarator (Trees.pointer at consts d) = of_pointer at consts d (there_declarator d)
  there_declarator (Trees.enclosed left d right) = there_declarator d
  there_declarator (Trees.array d left (Trees.some_expression a) right) = of_array d left a right (there_declarator d) (there a)
  there_declarator (Trees.array d left Trees.no_expression right) = of_open d left right
  there_declarator (Trees.function d left all right) = of_function d left all right (there_declarator d) (there_parameter_list all)

  there_parameter_list : (all : Trees.ParameterList) → OfParameterList all
  there_parameter_list (Trees.void_alone at) = λ s types e h. tt
  there_parameter_list (Trees.listed all) = there_parameters all

  there_parameters : (all : Trees.Parameters) → OfParameters all
  there_parameters Trees.no_parameters = λ s types e h. tt
  there_parameters (Trees.and_parameter comma specs d more) =
      of_parameter comma specs d more (there_one specs) (there_declarator d) (there_parameters more)

pub there_specifiers : (specs : Trees.Specifiers) (s : Scope) (t : CType) → IsBase (IsOne s specs) specs t
    → There s (walk_of_specifiers s.file.untagged specs)
there_specifiers specs s t h = of_specifiers specs (there_one specs) s t h
