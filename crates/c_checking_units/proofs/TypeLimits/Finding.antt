-- What is found of expressions, type names, specifiers and declarators has types within the limits, and so has the file after it (C99 6.5 to 6.7).
use Rattle.std.proofs.Common.{◌≡◌, ℕ, ◌+◌, ◌≤◌, Bool, true, false, refl, sym, subst, cond, List, [], ◌∷◌, ◌++◌, length, arith, length-append, inl, inr}
use Rattle.std.proofs.lemmas.Bool.{ltb-true, ltb-false}
use Rattle.std.specs.Prelude.{◌%◌, ◌^◌, ◌==◌, Option, Some, None, Ok, nat_lt}
use Rattle.std.specs.List.{AllByRecursion}
use Rattle.lay_base.specs.declared.place.Place.{Place}
use Rattle.c_types.specs.declared.ty.IntKind.{IntKind}
use Rattle.c_types.specs.declared.ty.IntKind.TheVariants as K
use Rattle.c_types.proofs.Growing.{has_its_size, layouts_stay}
use Rattle.c_types.specs.Layouts.{size_of, size_of_record}
use Rattle.c_types.specs.Limits.{AreSmall}
use Rattle.c_types.specs.Objects.{parts, parts_of_all}
use Rattle.c_types.specs.Types.{CType, CTypes, integer, pointer, array, structure, no_types, and_type, Field, Record}
use Rattle.c_ast.specs.declared.operators.SpecifierKeyword.{SpecifierKeyword}
use Rattle.c_ast.specs.declared.operators.UnaryOp.{UnaryOp}
use Rattle.c_ast.specs.declared.operators.UnaryOp.TheVariants as U
use Rattle.c_ast.specs.declared.words.Spelling.{Spelling}
use Rattle.c_ast.specs.Places.{first, first_specifiers, first_declarator}
use Rattle.c_ast.specs.Trees
use Rattle.c_typed.specs.declared.operators.BinaryOp.{BinaryOp}
use Rattle.c_typed.specs.declared.program.MentionKind.TheVariants.{Named, Sizeof}
use Rattle.c_typed.specs.Trees as Typed
use Rattle.c_erasure.specs.Broken.{member_names, tag_place}
use Rattle.c_erasure.specs.Declarators.{declared_name, parameter_type}
use Rattle.c_erasure.specs.Erasure.{place_in, tag_text, after_all, literal_of, literal_object, unmade, with_parameter_if_named}
use Rattle.c_erasure.specs.Noted.{Noted, Expression, Path, Thing, an_object, a_value, a_function, a_function_at, a_library_function, value, way}
use Rattle.c_erasure.specs.Operators.{kind_of, update_of, step_of}
use Rattle.c_erasure.specs.Scopes.{tag_at, Tag, Bound, Entity, typedef, a_parameter, FileScope, Scope, Purpose, in_full, value_alone, type_alone, inside}
use Rattle.c_erasure.specs.Scopes.{measured, for_value, named, with_name}
use Rattle.c_erasure.specs.Specifiers.{types_among, storage_of, words_of, found_in, table, Words, same_words, counted}
use Rattle.c_erasure.specs.Checking.Answers.{Answer, ◌>>=◌, Checked, with_file, moved}
use Rattle.c_erasure.specs.Checking.Nodes.{worth, named_in, array_of, element_in, index_in, signature_in, argument_in, call_in, dot_in, arrow_in, step_in}
use Rattle.c_erasure.specs.Checking.Nodes.{size_node}
use Rattle.c_erasure.specs.Checking.Nodes.{measured_in, sized_type, cast_in, binary_in, tested, chosen_in, Target, scalar_at, record_at, path_of, target_in}
use Rattle.c_erasure.specs.Checking.Nodes.{address_in, assigned_in, copied_in, updated_in, comma_in}
use Rattle.c_erasure.specs.Checking.Declaring.{with_record, with_bound, with_mention, with_object, mentions_in, literal_for, literal_in, enumerator_in}
use Rattle.c_erasure.specs.Checking.Declaring.{constant_in, tagged_in}
use Rattle.c_erasure.specs.Checking.Declaring.{structure_of, tagged, number_among, enumerated, enumerated_in, type_named, enumeration_of, only_tag, tag_named}
use Rattle.c_erasure.specs.Checking.Declaring.{Derivation, to_pointer, to_array, to_open_array, to_function, derived, length_value, object_at, base_kind}
use Rattle.c_erasure.specs.Checking.Declaring.{without_storage, parameter_storage}
use Rattle.c_erasure.specs.Checking.Declaring.{scalar_parameter, int_value, next_value}
use Rattle.c_erasure.specs.Checking.Finding.{complete, value_at, tested_at, constant_at, subscripted, assigned, base_type, on_value, unary_on, type_of_derived}
use Rattle.c_erasure.specs.Checking.Finding.{with_member}
use Rattle.c_erasure.specs.Checking.Finding.{find, arguments, type_name, one_of, specified, members, member_declarators, enumerators, enumerator_value}
use Rattle.c_erasure.specs.Checking.Finding.{derivations, array_step, parameter_list, parameters}
use Rattle.c_erasure.specs.Scopes as Scopes
use Rattle.c_checking_laws.proofs.Results.{bound_ok, bound_with, chosen, given, ok, with_file_ok}
use Rattle.c_checking_laws.proofs.Declared.{no_storage_is, parameter_storage_is, unless_ok, completed_is, enumerator_is}
use Rattle.c_checking_laws.proofs.Derived.{IsBaseOf, base_is}
use Rattle.c_checking_laws.proofs.FoundTypes.{bound_of}
use Rattle.c_checking_laws.proofs.FoundDeclarators.{new_bound}
use Rattle.c_checking_units.proofs.TypeLimits.Types.{IsWithin, AreWithin, IsLonger, same_list, stays, all_stay_within, number_within, record_within}
use Rattle.c_checking_units.proofs.TypeLimits.Types.{void_within}
use Rattle.c_checking_units.proofs.TypeLimits.Trees.{EachOfAll}
use Rattle.c_checking_units.proofs.TypeLimits.TreesKept.{each_more, path_more}
use Rattle.c_checking_units.proofs.TypeLimits.Nodes.{EachValue, EachPath, IsThing, IsEntity, IsEntityIfAny, AreFields, IsArray, worth_is, named_is, array_is}
use Rattle.c_checking_units.proofs.TypeLimits.Nodes.{element_is}
use Rattle.c_checking_units.proofs.TypeLimits.Nodes.{index_is}
use Rattle.c_checking_units.proofs.TypeLimits.Nodes.{signature_is, argument_is, call_is, dot_is, arrow_is, step_is, address_is, deref_is, unary_is, not_is}
use Rattle.c_checking_units.proofs.TypeLimits.Nodes.{size_is}
use Rattle.c_checking_units.proofs.TypeLimits.Nodes.{sized_is, measured_is}
use Rattle.c_checking_units.proofs.TypeLimits.Nodes.{cast_is, binary_is, comma_is, tested_is, chosen_is, target_is, assigned_is, copied_is, updated_is}
use Rattle.c_checking_units.proofs.TypeLimits.States.{joined, one_more, AreBlocks, IsScope, IsObject, Goes, stands, goes_on, scope_after, mentioned}
use Rattle.c_checking_units.proofs.TypeLimits.States.{mentioned_same}
use Rattle.c_checking_units.proofs.TypeLimits.States.{named_within}
use Rattle.c_checking_units.proofs.TypeLimits.States.{bounds_stay, records_stay, objects_stay, functions_stay, mentions_stay, fields_stay}
use Rattle.c_checking_units.proofs.TypeLimits.Literals.{IsShort, Short, ShortArguments, ShortTypeName, ShortSpecifiers, ShortSpecifier, ShortMembers}
use Rattle.c_checking_units.proofs.TypeLimits.Literals.{ShortMemberDeclarators}
use Rattle.c_checking_units.proofs.TypeLimits.Literals.{ShortEnumerators, ShortValue, ShortDeclarator, ShortParameterList, ShortParameters}
use Rattle.c_checking_units.proofs.TypeLimits.Derived.{AreSteps, HaveFewParameters, steps_stay, few_parameters, derived_is, closed_is, object_is, parameter_is}
use Rattle.c_checking_units.proofs.TypeLimits.Derived.{parameter_pointer, scalar_is}

-- ---- what is found

abbrev pub FoundThing : Scope → Thing × FileScope → Type 0
FoundThing s z = Goes s.file z.1 × IsThing z.1.records z.0

abbrev pub FoundValue : Scope → Expression × FileScope → Type 0
FoundValue s z = Goes s.file z.1 × EachValue z.1.records z.0

abbrev pub FoundAll : Scope → Typed.Expressions Noted × FileScope → Type 0
FoundAll s z = Goes s.file z.1 × EachOfAll (IsWithin z.1.records) z.0

abbrev pub FoundType : Scope → CType × FileScope → Type 0
FoundType s z = Goes s.file z.1 × IsWithin z.1.records z.0

abbrev pub FoundTypes : Scope → CTypes × FileScope → Type 0
FoundTypes s z = Goes s.file z.1 × AreWithin z.1.records z.0

abbrev pub FoundFields : Scope → List Field × FileScope → Type 0
FoundFields s z = Goes s.file z.1 × AreFields z.1.records z.0

abbrev pub FoundSteps : Scope → List Derivation × FileScope → Type 0
FoundSteps s z = Goes s.file z.1 × AreSteps z.1.records z.0

pub value_stays : {records all : List Record} → IsLonger records all → (e : Expression) → EachValue records e → EachValue all e
value_stays {records} {all} p e h = each_more (IsWithin records) (IsWithin all) (λ t k. stays p t k) e h

pub path_stays : {records all : List Record} → IsLonger records all → (q : Path) → EachPath records q → EachPath all q
path_stays {records} {all} p q h = path_more (IsWithin records) (IsWithin all) (λ t k. stays p t k) q h

thing_stays : {records all : List Record} → IsLonger records all → (th : Thing) → IsThing records th → IsThing all th
thing_stays p (an_object q) h = path_stays p q h
thing_stays p (a_value e) h = value_stays p e h
thing_stays p (a_function at f t) h = (stays p t h.0, stays p (pointer t) h.1)
thing_stays p (a_function_at e) h = value_stays p e h
thing_stays p (a_library_function at which) h = h

pub beside : {A : Type 0} (P : List Record → A → Type 0) (s : Scope) (f : FileScope) (r : Answer A) (z : A × FileScope) → with_file f r ≡ Ok z → Goes s.file f
    → ((x : A) → r ≡ Ok x → P f.records x) → Goes s.file z.1 × P z.1.records z.0
beside P s f r z h p k = let w = with_file_ok f r z h in subst (λ g. Goes s.file g × P g.records z.0) w.1 (p, k z.0 w.0)

pub file_beside : {A : Type 0} (s : Scope) (f : FileScope) (r : Answer A) (z : A × FileScope) → with_file f r ≡ Ok z → Goes s.file f → Goes s.file z.1
file_beside s f r z h p = let w = with_file_ok f r z h in subst (λ g. Goes s.file g) w.1 p

pub value_found : (s : Scope) (at : ℕ) (r : Checked Thing) → ((y : Thing × FileScope) → r ≡ Ok y → FoundThing s y) → (z : Expression × FileScope)
    → value_at at r ≡ Ok z → FoundValue s z
value_found s at r found z h =
    let x = bound_ok r _ z h in
    let k = found x.0 x.1 in
    beside EachValue s x.0.1 (worth at x.0.0) z x.2 k.0 (λ e i. worth_is x.0.1.records at x.0.0 e i k.1)

tested_found : (s : Scope) (at : ℕ) (r : Checked Expression) → ((y : Expression × FileScope) → r ≡ Ok y → FoundValue s y) → (z : Expression × FileScope)
    → tested_at at r ≡ Ok z → FoundValue s z
tested_found s at r found z h =
    let x = bound_ok r _ z h in
    let k = found x.0 x.1 in
    beside EachValue s x.0.1 (tested at x.0.0) z x.2 k.0 (λ e i. tested_is x.0.1.records at x.0.0 e i k.1)

constant_found : (s : Scope) (at : ℕ) (r : Checked Expression) → ((y : Expression × FileScope) → r ≡ Ok y → Goes s.file y.1)
    → (z : (IntKind × ℕ) × FileScope) → constant_at at r ≡ Ok z → Goes s.file z.1
constant_found s at r found z h =
    let x = bound_ok r _ z h in
    file_beside s x.0.1 (constant_in at x.0.0) z x.2 (found x.0 x.1)

-- ---- scopes

pub as_measured : (s : Scope) → IsScope s → IsScope (measured s)
as_measured s h = record { file = h.file; blocks = h.blocks; locals = h.locals }

pub as_value : (s : Scope) → IsScope s → IsScope (for_value s)
as_value s h = record { file = h.file; blocks = h.blocks; locals = h.locals }

pub as_inside : (s : Scope) → IsScope s → IsScope (inside s)
as_inside s h = record { file = h.file; blocks = (tt, h.blocks); locals = h.locals }

pub name_more : (records : List Record) (blocks : List (List Bound)) (b : Bound) → AreBlocks records blocks
    → IsEntity records b.entity → AreBlocks records (with_name blocks b)
name_more records [] b h k = ((k, tt), tt)
name_more records (block ∷ outer) b h k = (one_more (λ (b : Bound). IsEntity records b.entity) block b h.0 k, h.1)

parameter_scope : (s : Scope) (x : Option Spelling) (t : CType) → IsScope s → IsEntity s.file.records (a_parameter t) → IsScope (with_parameter_if_named s x t)
parameter_scope s None t h w = h
parameter_scope s (Some x) t h w = record { file = h.file; blocks = name_more s.file.records s.blocks _ h.blocks w; locals = h.locals }

same_file : (s : Scope) (x : Option Spelling) (t : CType) (g : FileScope) → Goes (with_parameter_if_named s x t).file g → Goes s.file g
same_file s None t g p = p
same_file s (Some x) t g p = p

-- ---- string literals

literal_within : (records : List Record) (all : List Spelling) → IsShort all → IsWithin records (array (integer K.Char) (length (literal_of all)))
literal_within records all l = record { arrays = (refl, omega (arith, l), tt); parts = omega arith }

literal_found : (s : Scope) (at : Place) (all : List Spelling) → IsScope s → IsShort all → (p : Purpose) (z : Thing × FileScope)
    → literal_for p s at (literal_of all) ≡ Ok z → FoundThing s z
literal_found s at all c l in_full z h =
    let w = literal_within s.file.records all l in
    let o = literal_object at (literal_of all) in
    given (FoundThing s) (an_object (way (array (integer K.Char) (length (literal_of all))) at (Typed.object (length s.file.objects))), with_object s.file o) z h (
      record {
        longer = same_list s.file.records;
        file = record {
          names = c.file.names;
          records = c.file.records;
          sizes = c.file.sizes;
          objects = one_more (IsObject s.file.records) s.file.objects o c.file.objects (w, (tt, tt));
          functions = c.file.functions;
          mentions = c.file.mentions;
        };
      },
      (tt, w),
    )
literal_found s at all c l value_alone z h =
    let w = literal_within s.file.records all l in
    given (FoundThing s) _ z h (unmade_found w)
  where
    unmade_found : IsWithin s.file.records (array (integer K.Char) (length (literal_of all)))
        → FoundThing s (unmade at (array (integer K.Char) (length (literal_of all))), s.file)
    unmade_found w = (stands s.file c.file, ((tt, record { arrays = w.arrays; parts = omega arith }), w))
literal_found s at all c l type_alone z h =
    let w = literal_within s.file.records all l in
    given (FoundThing s) _ z h (unmade_found w)
  where
    unmade_found : IsWithin s.file.records (array (integer K.Char) (length (literal_of all)))
        → FoundThing s (unmade at (array (integer K.Char) (length (literal_of all))), s.file)
    unmade_found w = (stands s.file c.file, ((tt, record { arrays = w.arrays; parts = omega arith }), w))

literals_found : (s : Scope) (at : Place) (all : List Spelling) → IsScope s → IsShort all → (z : Thing × FileScope)
    → literal_in s at (literal_of all) ≡ Ok z → FoundThing s z
unfolding literal_in
literals_found s at all c l z h = literal_found s at all c l s.purpose z h

-- ---- nodes by what their operands are

index_found : (s : Scope) (count from left : ℕ) (at : Place) (x : Thing × FileScope) (number : FileScope → Checked Expression) → FoundThing s x
    → ((i : Expression × FileScope) → number x.1 ≡ Ok i → FoundValue (moved s x.1) i)
    → (o : Option (Path × CType)) → IsArray x.1.records o → (z : Thing × FileScope) → subscripted count from left at x.0 x.1 number o ≡ Ok z → FoundThing s z
index_found s count from left at x number found later (Some a) w z h =
    let i = bound_ok (number x.1) _ z h in
    let k = later i.0 i.1 in
    let p = k.0.longer in
    beside IsThing s i.0.1 (element_in left at a i.0.0) z i.2 (goes_on found.0 k.0)
    (λ th e. element_is i.0.1.records left at a i.0.0 th e (path_stays p a.0 w.0) (stays p a.1 w.1) k.1)
index_found s count from left at x number found later None w z h =
    let v = bound_with x.1 (worth from x.0) _ z h in
    let e = worth_is x.1.records from x.0 v.0 v.1 found.1 in
    let i = bound_ok (number x.1) _ z v.2 in
    let k = later i.0 i.1 in
    beside IsThing s i.0.1 (index_in count left at v.0 i.0.0) z i.2 (goes_on found.0 k.0)
    (λ th j. index_is i.0.1.records count left at v.0 i.0.0 th j (value_stays k.0.longer v.0 e) k.1)

on_value_is : (records : List Record) (op : UnaryOp) (count at : ℕ) (s : Scope) (x : Expression) (th : Thing) → on_value op count at s x ≡ Ok th
    → EachValue records x → IsThing records th
on_value_is records U.Deref count at s x th h k = deref_is records count (place_in s at) x th h k
on_value_is records U.Plus count at s x th h k = unary_is records (place_in s at) _ x th h k
on_value_is records U.Minus count at s x th h k = unary_is records (place_in s at) _ x th h k
on_value_is records U.Complement count at s x th h k = unary_is records (place_in s at) _ x th h k
on_value_is records U.Not count at s x th h k = not_is records (place_in s at) x th h k
on_value_is records U.Address count at s x th h k = cc

unary_value : (s : Scope) (op : UnaryOp) (count from at : ℕ) (r : Checked Thing) → ((y : Thing × FileScope) → r ≡ Ok y → FoundThing s y)
    → (z : Thing × FileScope) → (value_at from r >>= λ x. with_file x.1 (on_value op count at s x.0)) ≡ Ok z → FoundThing s z
unary_value s op count from at r found z h =
    let x = bound_ok (value_at from r) _ z h in
    let k = value_found s from r found x.0 x.1 in
    beside IsThing s x.0.1 (on_value op count at s x.0.0) z x.2 k.0 (λ th i. on_value_is x.0.1.records op count at s x.0.0 th i k.1)

unary_found : (s : Scope) (op : UnaryOp) (count from at : ℕ) (r : Checked Thing) → ((y : Thing × FileScope) → r ≡ Ok y → FoundThing s y)
    → (z : Thing × FileScope) → unary_on op count from at s r ≡ Ok z → FoundThing s z
unary_found s U.Address count from at r found z h =
    let x = bound_ok r _ z h in
    let k = found x.0 x.1 in
    beside IsThing s x.0.1 (address_in from (place_in s at) x.0.0) z x.2 k.0
    (λ th i. address_is x.0.1.records from (place_in s at) x.0.0 th i k.1)
unary_found s U.Deref count from at r found z h = unary_value s U.Deref count from at r found z h
unary_found s U.Plus count from at r found z h = unary_value s U.Plus count from at r found z h
unary_found s U.Minus count from at r found z h = unary_value s U.Minus count from at r found z h
unary_found s U.Complement count from at r found z h = unary_value s U.Complement count from at r found z h
unary_found s U.Not count from at r found z h = unary_value s U.Not count from at r found z h

assigned_found : (s : Scope) (count op_at from : ℕ) (at : Place) (t : Target) (f : FileScope) (right : FileScope → Checked Thing) → Goes s.file f
    → EachPath f.records (path_of t) → ((y : Thing × FileScope) → right f ≡ Ok y → FoundThing (moved s f) y)
    → (o : Option BinaryOp) (z : Thing × FileScope) → assigned count op_at from at t f right o ≡ Ok z → FoundThing s z
assigned_found s count op_at from at t f right p k later (Some op) z h =
    let x = bound_ok (value_at from (right f)) _ z h in
    let v = value_found (moved s f) from (right f) later x.0 x.1 in
    beside IsThing s x.0.1 (updated_in count op_at at op (path_of t) x.0.0) z x.2 (goes_on p v.0)
    (λ th i. updated_is x.0.1.records count op_at at op (path_of t) x.0.0 th i (path_stays v.0.longer (path_of t) k) v.1)
assigned_found s count op_at from at (scalar_at q) f right p k later None z h =
    let x = bound_ok (value_at from (right f)) _ z h in
    let v = value_found (moved s f) from (right f) later x.0 x.1 in
    beside IsThing s x.0.1 (assigned_in op_at at q x.0.0) z x.2 (goes_on p v.0)
    (λ th i. assigned_is x.0.1.records op_at at q x.0.0 th i (path_stays v.0.longer q k) v.1)
assigned_found s count op_at from at (record_at q) f right p k later None z h =
    let x = bound_ok (right f) _ z h in
    let v = later x.0 x.1 in
    beside IsThing s x.0.1 (copied_in op_at from at q x.0.0) z x.2 (goes_on p v.0)
    (λ th i. copied_is x.0.1.records op_at from at q x.0.0 th i (path_stays v.0.longer q k) v.1)

-- ---- specifiers

named_by_within : (records : List Record) (rows : List (List SpecifierKeyword × CType)) (w : Words)
    → AllByRecursion (λ (row : List SpecifierKeyword × CType). IsWithin records row.1) rows
    → (t : CType) → found_in rows w ≡ Some t → IsWithin records t
named_by_within records [] w h t e = cc
named_by_within records (row ∷ more) w h t e = by_words (same_words (counted row.0) w) (named_by_within records more w h.1 t) e
  where
    by_words : (b : Bool) → (found_in more w ≡ Some t → IsWithin records t) → cond b (Some row.1) (found_in more w) ≡ Some t → IsWithin records t
    by_words true k e = let is : row.1 ≡ t = cc in subst (IsWithin records) is h.0
    by_words false k e = k e

rows_within : (records : List Record)
    → AllByRecursion (λ (row : List SpecifierKeyword × CType). IsWithin records row.1) table
rows_within records = (void_within records, (number_within records _, (number_within records _, (number_within records _, (number_within records _, (number_within records _, (number_within records _, (number_within records _, (number_within records _, (number_within records _, (number_within records _, (number_within records _, (number_within records _, (number_within records _, (number_within records _, (number_within records _, (number_within records _, (number_within records _, (number_within records _, (number_within records _, (number_within records _, tt)))))))))))))))))))))

base_found : (s : Scope) (specs : Trees.Specifiers) (at : ℕ) (one : Checked CType) → IsScope s
    → ((x : Trees.Specifier) → types_among specs ≡ x ∷ [] → (y : CType × FileScope) → one ≡ Ok y → FoundType s y)
    → (z : CType × FileScope) → base_type (base_kind specs) at s.file one ≡ Ok z → FoundType s z
base_found s specs at one c found z h = by_way (base_is specs at s.file one z h)
  where
    by_way : IsBaseOf specs s.file one z → FoundType s z
    by_way (inl w) =
        subst (λ g. Goes s.file g × IsWithin g.records z.0) w.2
        (stands s.file c.file, named_by_within s.file.records table (words_of specs) (rows_within s.file.records) z.0 w.1)
    by_way (inr w) = found w.0 w.1 z w.3

typename_within : (records : List Record) (x : Spelling) (o : Option Entity) (t : CType) → type_named x o ≡ Ok t → IsEntityIfAny records o → IsWithin records t
typename_within records x (Some (typedef u)) t h w = given (IsWithin records) u t h w
typename_within records x (Some (Scopes.enumerator v)) t h w = cc
typename_within records x (Some (Scopes.an_object n u)) t h w = cc
typename_within records x (Some (Scopes.a_function n u)) t h w = cc
typename_within records x (Some (Scopes.a_library_function which)) t h w = cc
typename_within records x (Some (Scopes.a_local n u)) t h w = cc
typename_within records x (Some (a_parameter u)) t h w = cc
typename_within records x None t h w = cc

structure_within : (records : List Record) (at : ℕ) (o : Option ℕ) (t : CType) → structure_of at o ≡ Ok t → IsWithin records t
structure_within records at None t h = cc
structure_within records at (Some r) t h = given (IsWithin records) (structure r) t h (record_within records r)

tagged_within : (records : List Record) (s : Scope) (at : ℕ) (x : Spelling) (t : CType) → tagged_in s at x ≡ Ok t → IsWithin records t
unfolding tagged_in
tagged_within records s at x t h = by_tag (tag_at s.file.tags x.text x.from) h
  where
    by_tag : (o : Option Bool) → tagged s at x o ≡ Ok t → IsWithin records t
    by_tag (Some false) h = structure_within records at (number_among s.file.numbered x.text) t h
    by_tag (Some true) h = cc
    by_tag None h =
        chosen s.is_inside _ (structure_of at (number_among s.file.numbered x.text)) t (IsWithin records t) h (λ b h. cc)
        (λ b h. structure_within records at (number_among s.file.numbered x.text) t h)

enumerated_within : (records : List Record) (f : FileScope) (x : Spelling) (t : CType) → enumerated_in f x ≡ Ok t → IsWithin records t
unfolding enumerated_in
enumerated_within records f x t h = by_tag (tag_at f.tags x.text x.from) h
  where
    by_tag : (o : Option Bool) → enumerated f x o ≡ Ok t → IsWithin records t
    by_tag (Some true) h = given (IsWithin records) (integer K.Int) t h (number_within records K.Int)
    by_tag (Some false) h = cc
    by_tag None h = cc

enumeration_within : (records : List Record) (f : FileScope) (x : Option Spelling) (t : CType) → enumeration_of f x ≡ Ok t → IsWithin records t
enumeration_within records f None t h = given (IsWithin records) (integer K.Int) t h (number_within records K.Int)
enumeration_within records f (Some x) t h = by_tag (tag_named f.tags x.text) h
  where
    by_tag : (o : Option Tag) → only_tag x o ≡ Ok t → IsWithin records t
    by_tag None h = given (IsWithin records) (integer K.Int) t h (number_within records K.Int)
    by_tag (Some u) h =
        chosen (u.place == x.from) (Ok (integer K.Int)) _ t (IsWithin records t) h
        (λ b h. given (IsWithin records) (integer K.Int) t h (number_within records K.Int)) (λ b h. cc)

-- ---- what a file has more

-- one more record, whose fields' types are within the limits
sizes_more : (records : List Record) (r : Record) → size_of_record records r ≤ 16777216 → AreSmall records → AreSmall (records ++ r ∷ [])
sizes_more records r small h k l = by_place (nat_lt k (length records)) refl
  where
    by_place : (b : Bool) → nat_lt k (length records) ≡ b → size_of (records ++ r ∷ []) (structure k) ≤ 16777216
    by_place true e =
        let own = h k (ltb-true k (length records) e) in
        subst (λ n. n ≤ 16777216) (sym ((layouts_stay records (r ∷ [])).sizes (structure k) e)) own
    by_place false e =
        let a = length-append records (r ∷ []) in
        let same : k ≡ length records = omega (arith, a, l, ltb-false k (length records) e) in
        subst (λ k. size_of (records ++ r ∷ []) (structure k) ≤ 16777216) (sym same) (subst (λ n. n ≤ 16777216) (sym (has_its_size records r)) small)

record_goes : (s : Scope) (f : FileScope) (r : Record) → Goes s.file f → AreFields f.records r.fields → size_of_record f.records r ≤ 16777216
    → Goes s.file (with_record f r)
record_goes s f r p w small =
    let more : IsLonger f.records (f.records ++ r ∷ []) = record { more = r ∷ []; are = refl } in
    goes_on p (record {
      longer = more;
      file = record {
        names = bounds_stay more f.names p.file.names;
        records = one_more (λ (q : Record). AreFields (f.records ++ r ∷ []) q.fields) f.records r
            (records_stay more f.records p.file.records) (fields_stay more r.fields w);
        sizes = sizes_more f.records r small p.file.sizes;
        objects = objects_stay more f.objects p.file.objects;
        functions = functions_stay more f.functions p.file.functions;
        mentions = mentions_stay more f.mentions p.file.mentions;
      };
    })

pub bound_goes : (s : Scope) (f : FileScope) (b : Bound) → Goes s.file f → IsEntity f.records b.entity
    → Goes s.file (with_bound f b)
bound_goes s f b p w = record {
  longer = p.longer;
  file = record {
    names = one_more (λ (b : Bound). IsEntity f.records b.entity) f.names b p.file.names w;
    records = p.file.records;
    sizes = p.file.sizes;
    objects = p.file.objects;
    functions = p.file.functions;
    mentions = p.file.mentions;
  };
}

-- a field before others
member_found : (s : Scope) (at : Place) (t : CType) (x : Option Spelling) (r : Checked (List Field))
    → ((y : List Field × FileScope) → r ≡ Ok y → FoundFields s y × IsWithin y.1.records t)
    → (z : List Field × FileScope) → with_member at t x r ≡ Ok z → FoundFields s z
member_found s at t None r found z h = cc
member_found s at t (Some x) r found z h =
    let y = bound_ok r _ z h in
    let k = found y.0 y.1 in
    given (FoundFields s) (record { name = x.text; ty = t; place = at } ∷ y.0.0, y.0.1) z y.2 (k.0.0, (k.1, k.0.1))

number_found : (s : Scope) (kind : IntKind) (at : Place) (v : ℕ) → IsScope s → FoundThing s (a_value (value (integer kind) at (Typed.constant v)), s.file)
number_found s kind at v c = (stands s.file c.file, (tt, number_within s.file.records kind))

same_steps : (y z : List Derivation × FileScope) → ok y ≡ Ok z → y ≡ z
same_steps y z h = cc

same_types : (y z : CTypes × FileScope) → ok y ≡ Ok z → y ≡ z
same_types y z h = cc

-- ---- the recursion

mutual
  unfolding find arguments type_name one_of specified members member_declarators enumerators enumerator_value derivations array_step parameter_list parameters

  pub find_within : (a : Trees.Expression) (s : Scope) → Short a → IsScope s → (z : Thing × FileScope) → find a s ≡ Ok z → FoundThing s z
  find_within (Trees.name x) s l c z h =
      beside IsThing s s.file (named_in (place_in s x.from) x.text (named s x.text x.from)) z h (stands s.file c.file)
      (λ th i. named_is s.file.records (place_in s x.from) x.text (named s x.text x.from) th i (named_within s x.text x.from c))
  find_within (Trees.number x v kind) s l c z h = given (FoundThing s) _ z h (number_found s kind (place_in s x.from) v c)
  find_within (Trees.character x v) s l c z h = given (FoundThing s) _ z h (number_found s K.Int (place_in s x.from) v c)
  find_within (Trees.texts all) s l c z h = literals_found s (place_in s (first (Trees.texts all))) all c l z h
  find_within (Trees.paren from a to) s l c z h = find_within a s l c z h
  find_within (Trees.index a from b to) s l c z h =
      let x = bound_ok (find a s) _ z h in
      let v = find_within a s l.0 c x.0 x.1 in
      index_found s (complete s (first a)) (first a) from (place_in s (first a)) x.0 (λ f. value_at (first b) (find b (moved s f))) v
      (λ i j. value_found (moved s x.0.1) (first b) (find b (moved s x.0.1))
      (λ y k. find_within b (moved s x.0.1) l.1 (scope_after s x.0.1 c v.0) y k) i j)
      (array_of x.0.0) (array_is x.0.1.records x.0.0 v.1) z x.2
  find_within (Trees.call f from all to) s l c z h =
      let x = bound_ok (find f s) _ z h in
      let v = find_within f s l.0 c x.0 x.1 in
      let t = bound_with x.0.1 (signature_in (first f) x.0.0) _ z x.2 in
      let w = signature_is x.0.1.records (first f) x.0.0 t.0 t.1 v.1 in
      let xs = bound_ok (arguments to t.0.0 all (moved s x.0.1)) _ z t.2 in
      let u = arguments_within all to t.0.0 (moved s x.0.1) l.1 (scope_after s x.0.1 c v.0) w.0 xs.0 xs.1 in
      beside IsThing s xs.0.1 (call_in (place_in s (first f)) x.0.0 t.0.1 xs.0.0) z xs.2 (goes_on v.0 u.0)
      (λ th i. call_is xs.0.1.records (place_in s (first f)) x.0.0 t.0.1 xs.0.0 th i (thing_stays u.0.longer x.0.0 v.1) (stays u.0.longer t.0.1 w.1) u.1)
  find_within (Trees.dot a at x) s l c z h =
      let p = bound_ok (find a s) _ z h in
      let v = find_within a s l c p.0 p.1 in
      beside IsThing s p.0.1 (dot_in p.0.1.records (complete s at) x.from (place_in s (first a)) p.0.0 x.text) z p.2 v.0
      (λ th i. dot_is p.0.1.records p.0.1.records (complete s at) x.from (place_in s (first a)) p.0.0 x.text th i v.0.file.records v.1)
  find_within (Trees.arrow a at x) s l c z h =
      let p = bound_ok (value_at (first a) (find a s)) _ z h in
      let v = value_found s (first a) (find a s) (λ y k. find_within a s l c y k) p.0 p.1 in
      beside IsThing s p.0.1 (arrow_in p.0.1.records (complete s (first a)) x.from (place_in s (first a)) p.0.0 x.text) z p.2 v.0
      (λ th i. arrow_is p.0.1.records p.0.1.records (complete s (first a)) x.from (place_in s (first a)) p.0.0 x.text th i v.0.file.records v.1)
  find_within (Trees.post a op at) s l c z h =
      let p = bound_ok (find a s) _ z h in
      let v = find_within a s l c p.0 p.1 in
      beside IsThing s p.0.1 (step_in (complete s (first a)) (first a) at (place_in s (first a)) (step_of op) false p.0.0) z p.2 v.0
      (λ th i. step_is p.0.1.records (complete s (first a)) (first a) at (place_in s (first a)) (step_of op) false p.0.0 th i v.1)
  find_within (Trees.pre op at a) s l c z h =
      let p = bound_ok (find a s) _ z h in
      let v = find_within a s l c p.0 p.1 in
      beside IsThing s p.0.1 (step_in (complete s at) (first a) at (place_in s at) (step_of op) true p.0.0) z p.2 v.0
      (λ th i. step_is p.0.1.records (complete s at) (first a) at (place_in s at) (step_of op) true p.0.0 th i v.1)
  find_within (Trees.unary op at a) s l c z h =
      unary_found s op (complete s at) (first a) at (find a s) (λ y k. find_within a s l c y k) z h
  find_within (Trees.sizeof_expression at a) s l c z h =
      let x = bound_ok (find a (measured s)) _ z h in
      let v = find_within a (measured s) l (as_measured s c) x.0 x.1 in
      let t = bound_with x.0.1 (measured_in x.0.1.records (complete s at) at (first a) x.0.0) _ z x.2 in
      let w = measured_is x.0.1.records x.0.1.records (complete s at) at (first a) x.0.0 t.0 t.1 v.1 in
      let g = with_mention s (mentions_in x.0.1) Sizeof t.0 at x.0.1 in
      given (FoundThing s) (size_node x.0.1.records (place_in s at) t.0, g) z t.2
      (mentioned s s.file x.0.1 (mentions_in x.0.1) Sizeof t.0 at v.0 w, size_is g.records x.0.1.records (place_in s at) t.0)
  find_within (Trees.sizeof_type at from m to) s l c z h =
      let x = bound_ok (type_name m s) _ z h in
      let v = type_name_within m s l c x.0 x.1 in
      let t = bound_with x.0.1 (sized_type x.0.1.records (complete s to) at x.0.0) _ z x.2 in
      let w = sized_is x.0.1.records x.0.1.records (complete s to) at x.0.0 t.0 t.1 v.1 in
      let g = with_mention s (mentions_in s.file) Sizeof t.0 at x.0.1 in
      given (FoundThing s) (size_node x.0.1.records (place_in s at) t.0, g) z t.2
      (mentioned s s.file x.0.1 (mentions_in s.file) Sizeof t.0 at v.0 w, size_is g.records x.0.1.records (place_in s at) t.0)
  find_within (Trees.cast from m to a) s l c z h =
      let t = bound_ok (type_name m s) _ z h in
      let v = type_name_within m s l.0 c t.0 t.1 in
      let x = bound_ok (value_at (first a) (find a (moved s t.0.1))) _ z t.2 in
      let w = value_found (moved s t.0.1) (first a) (find a (moved s t.0.1))
      (λ y k. find_within a (moved s t.0.1) l.1 (scope_after s t.0.1 c v.0) y k) x.0 x.1 in
      beside IsThing s x.0.1 (cast_in (place_in s from) t.0.0 x.0.0) z x.2 (goes_on v.0 w.0)
      (λ th i. cast_is x.0.1.records (place_in s from) t.0.0 x.0.0 th i (stays w.0.longer t.0.0 v.1) w.1)
  find_within (Trees.binary a op at b) s l c z h =
      let x = bound_ok (value_at (first a) (find a s)) _ z h in
      let v = value_found s (first a) (find a s) (λ y k. find_within a s l.0 c y k) x.0 x.1 in
      let y = bound_ok (value_at (first b) (find b (moved s x.0.1))) _ z x.2 in
      let w = value_found (moved s x.0.1) (first b) (find b (moved s x.0.1))
      (λ y k. find_within b (moved s x.0.1) l.1 (scope_after s x.0.1 c v.0) y k) y.0 y.1 in
      beside IsThing s y.0.1 (binary_in (complete s (first a)) at (place_in s (first a)) (kind_of op) x.0.0 y.0.0) z y.2 (goes_on v.0 w.0)
      (λ th i. binary_is y.0.1.records x.0.0 y.0.0 (value_stays w.0.longer x.0.0 v.1) w.1 (complete s (first a)) at (place_in s (first a)) (kind_of op) th i)
  find_within (Trees.cond a question b colon d) s l c z h =
      let x = bound_ok (tested_at question (value_at (first a) (find a s))) _ z h in
      let v = tested_found s question (value_at (first a) (find a s))
      (λ y k. value_found s (first a) (find a s) (λ y k. find_within a s l.0 c y k) y k) x.0 x.1 in
      let y = bound_ok (value_at (first b) (find b (moved s x.0.1))) _ z x.2 in
      let w = value_found (moved s x.0.1) (first b) (find b (moved s x.0.1))
      (λ y k. find_within b (moved s x.0.1) l.1 (scope_after s x.0.1 c v.0) y k) y.0 y.1 in
      let p = goes_on v.0 w.0 in
      let u = bound_ok (value_at (first d) (find d (moved s y.0.1))) _ z y.2 in
      let t = value_found (moved s y.0.1) (first d) (find d (moved s y.0.1))
      (λ y' k. find_within d (moved s y.0.1) l.2 (scope_after s y.0.1 c p) y' k) u.0 u.1 in
      beside IsThing s u.0.1 (chosen_in colon (place_in s (first a)) x.0.0 y.0.0 u.0.0) z u.2 (goes_on p t.0)
      (λ th i. chosen_is u.0.1.records colon (place_in s (first a)) x.0.0 y.0.0 u.0.0 th i
      (value_stays t.0.longer x.0.0 (value_stays w.0.longer x.0.0 v.1)) (value_stays t.0.longer y.0.0 w.1) t.1)
  find_within (Trees.assign a op at b) s l c z h =
      let p = bound_ok (find a s) _ z h in
      let v = find_within a s l.0 c p.0 p.1 in
      let t = bound_with p.0.1 (target_in (first a) p.0.0) _ z p.2 in
      let k = target_is p.0.1.records (first a) p.0.0 t.0 t.1 v.1 in
      assigned_found s (complete s (first a)) at (first b) (place_in s (first a)) t.0 p.0.1 (λ f. find b (moved s f)) v.0 k
      (λ y i. find_within b (moved s p.0.1) l.1 (scope_after s p.0.1 c v.0) y i) (update_of op) z t.2
  find_within (Trees.comma a at b) s l c z h =
      let x = bound_ok (value_at (first a) (find a s)) _ z h in
      let v = value_found s (first a) (find a s) (λ y k. find_within a s l.0 c y k) x.0 x.1 in
      let y = bound_ok (value_at (first b) (find b (moved s x.0.1))) _ z x.2 in
      let w = value_found (moved s x.0.1) (first b) (find b (moved s x.0.1))
      (λ y k. find_within b (moved s x.0.1) l.1 (scope_after s x.0.1 c v.0) y k) y.0 y.1 in
      beside IsThing s y.0.1 (comma_in (place_in s (first a)) x.0.0 y.0.0) z y.2 (goes_on v.0 w.0)
      (λ th i. comma_is y.0.1.records x.0.0 y.0.0 (value_stays w.0.longer x.0.0 v.1) w.1 (place_in s (first a)) th i)
  find_within (Trees.braces from all comma to) s l c z h = cc

  arguments_within : (all : Trees.Arguments) (right : ℕ) (types : CTypes) (s : Scope) → ShortArguments all → IsScope s → AreWithin s.file.records types
      → (z : Typed.Expressions Noted × FileScope) → arguments right types all s ≡ Ok z → FoundAll s z
  arguments_within Trees.no_arguments right no_types s l c w z h = given (FoundAll s) (Typed.no_expressions, s.file) z h (stands s.file c.file, tt)
  arguments_within Trees.no_arguments right (and_type t more) s l c w z h = cc
  arguments_within (Trees.and_argument comma a rest) right no_types s l c w z h = cc
  arguments_within (Trees.and_argument comma a rest) right (and_type t more) s l c w z h =
      let x = bound_ok (value_at (first a) (find a s)) _ z h in
      let v = value_found s (first a) (find a s) (λ y k. find_within a s l.0 c y k) x.0 x.1 in
      let y = bound_with x.0.1 (argument_in (first a) t x.0.0) _ z x.2 in
      let u = argument_is x.0.1.records (first a) t x.0.0 y.0 y.1 (stays v.0.longer t w.0) v.1 in
      let ys = bound_ok (arguments right more rest (moved s x.0.1)) _ z y.2 in
      let k = arguments_within rest right more (moved s x.0.1) l.1 (scope_after s x.0.1 c v.0) (all_stay_within v.0.longer more w.1) ys.0 ys.1 in
      given (FoundAll s) (Typed.and_expression y.0 ys.0.0, ys.0.1) z ys.2 (goes_on v.0 k.0, (value_stays k.0.longer y.0 u, k.1))

  -- ---- types

  pub type_name_within : (m : Trees.TypeName) (s : Scope) → ShortTypeName m → IsScope s → (z : CType × FileScope) → type_name m s ≡ Ok z → FoundType s z
  type_name_within (Trees.type_name specs d) s l c z h =
      let at = first_specifiers specs in
      let place = first_declarator d at in
      let b = bound_ok (without_storage at (storage_of specs) (base_type (base_kind specs) at s.file (one_of specs s))) _ z h in
      let q = no_storage_is at (storage_of specs) (base_type (base_kind specs) at s.file (one_of specs s)) b.0 b.1 in
      let v = base_found s specs at (one_of specs s) c (λ x i y k. one_within specs s l.0 c x i y k) b.0 q.1 in
      let steps = bound_ok (derivations d (moved s b.0.1)) _ z b.2 in
      let t = bound_with steps.0.1 (type_of_derived place steps.0.1 steps.0.0 b.0.0) _ z steps.2 in
      let shape = bound_ok (derived steps.0.1.records steps.0.0 b.0.0) _ t.0 t.1 in
      let few = few_parameters steps.0.1.records steps.0.0 b.0.0 shape.0 shape.1 in
      let w = derivations_within d (moved s b.0.1) l.1 (scope_after s b.0.1 c v.0) steps.0 steps.1 few in
      let is = derived_is steps.0.1.records steps.0.0 b.0.0 shape.0 shape.1 (stays w.0.longer b.0.0 v.1) w.1 in
      let u = closed_is steps.0.1.records place shape.0 t.0 shape.2 is in
      let p = goes_on v.0 w.0 in
      given (FoundType s) (t.0, with_mention s (mentions_in b.0.1) Named t.0 place steps.0.1) z t.2
      (mentioned s s.file steps.0.1 (mentions_in b.0.1) Named t.0 place p u, mentioned_same s (mentions_in b.0.1) Named t.0 t.0 place steps.0.1 u)

  one_within : (specs : Trees.Specifiers) (s : Scope) → ShortSpecifiers specs → IsScope s → (x : Trees.Specifier) → types_among specs ≡ x ∷ []
      → (z : CType × FileScope) → one_of specs s ≡ Ok z → FoundType s z
  one_within Trees.no_specifiers s l c x e z h = cc
  one_within (Trees.and_specifier (Trees.plain word at) more) s l c x e z h = one_within more s l.1 c x e z h
  one_within (Trees.and_specifier (Trees.typename y) more) s l c x e z h = specified_within (Trees.typename y) s l.0 c z h
  one_within (Trees.and_specifier (Trees.struct_named at y) more) s l c x e z h = specified_within (Trees.struct_named at y) s l.0 c z h
  one_within (Trees.and_specifier (Trees.struct_body at y from all to) more) s l c x e z h = specified_within (Trees.struct_body at y from all to) s l.0 c z h
  one_within (Trees.and_specifier (Trees.enum_named at y) more) s l c x e z h = specified_within (Trees.enum_named at y) s l.0 c z h
  one_within (Trees.and_specifier (Trees.enum_body at y from all comma to) more) s l c x e z h =
      specified_within (Trees.enum_body at y from all comma to) s l.0 c z h

  specified_within : (x : Trees.Specifier) (s : Scope) → ShortSpecifier x → IsScope s → (z : CType × FileScope) → specified x s ≡ Ok z → FoundType s z
  specified_within (Trees.plain word at) s l c z h = cc
  specified_within (Trees.typename x) s l c z h =
      beside IsWithin s s.file (type_named x (named s x.text x.from)) z h (stands s.file c.file)
      (λ t i. typename_within s.file.records x (named s x.text x.from) t i (named_within s x.text x.from c))
  specified_within (Trees.struct_named at x) s l c z h =
      beside IsWithin s s.file (tagged_in s at x) z h (stands s.file c.file) (λ t i. tagged_within s.file.records s at x t i)
  specified_within (Trees.struct_body at x from all to) s l c z h =
      chosen s.is_inside _ _ z (FoundType s z) h (λ i h. cc)
      (λ i h.
      let u = unless_ok _ _ z h in
      let m = bound_ok (members all s) _ z u.1 in
      let v = members_within all s l c m.0 m.1 in
      let rec : Record = record { tag = tag_text s at x; place = place_in s at; fields = m.0.0 } in
      let k = completed_is m.0.1 (tag_place at x) (member_names all) rec z m.2 in (
        subst (Goes s.file) (sym k.file_is) (record_goes s m.0.1 rec v.0 v.1 k.small),
        subst (IsWithin z.1.records) (sym k.ty_is) (record_within z.1.records (length m.0.1.records)),
      ))
  specified_within (Trees.enum_named at x) s l c z h =
      beside IsWithin s s.file (enumerated_in s.file x) z h (stands s.file c.file) (λ t i. enumerated_within s.file.records s.file x t i)
  specified_within (Trees.enum_body at x from all comma to) s l c z h =
      chosen s.is_inside _ _ z (FoundType s z) h (λ i h. cc)
      (λ i h.
      let f = bound_ok (enumerators all s 0 (after_all comma to)) _ z h in
      let v = enumerators_within all s 0 (after_all comma to) l c f.0 f.1 in
      beside IsWithin s f.0.1 (enumeration_of f.0.1 x) z f.2 v (λ t i. enumeration_within f.0.1.records f.0.1 x t i))

  members_within : (all : Trees.MemberDeclarations) (s : Scope) → ShortMembers all → IsScope s → (z : List Field × FileScope) → members all s ≡ Ok z
      → FoundFields s z
  members_within Trees.no_member_declarations s l c z h = given (FoundFields s) ([], s.file) z h (stands s.file c.file, tt)
  members_within (Trees.and_member_declaration specs ds semicolon more) s l c z h =
      let at = first_specifiers specs in
      let b = bound_ok (without_storage at (storage_of specs) (base_type (base_kind specs) at s.file (one_of specs s))) _ z h in
      let q = no_storage_is at (storage_of specs) (base_type (base_kind specs) at s.file (one_of specs s)) b.0 b.1 in
      let v = base_found s specs at (one_of specs s) c (λ x i y k. one_within specs s l.0 c x i y k) b.0 q.1 in
      let own = bound_ok (member_declarators ds b.0.0 semicolon (moved s b.0.1)) _ z b.2 in
      let w = member_declarators_within ds b.0.0 semicolon (moved s b.0.1) l.1 (scope_after s b.0.1 c v.0) v.1 own.0 own.1 in
      let p = goes_on v.0 w.0 in
      let rest = bound_ok (members more (moved s own.0.1)) _ z own.2 in
      let u = members_within more (moved s own.0.1) l.2 (scope_after s own.0.1 c p) rest.0 rest.1 in
      given (FoundFields s) (own.0.0 ++ rest.0.0, rest.0.1) z rest.2 (
        goes_on p u.0,
        joined (λ (f : Field). IsWithin rest.0.1.records f.ty) own.0.0 rest.0.0 (fields_stay u.0.longer own.0.0 w.1) u.1,
      )

  member_declarators_within : (all : Trees.MemberDeclarators) (base : CType) (semicolon : ℕ) (s : Scope) → ShortMemberDeclarators all → IsScope s
      → IsWithin s.file.records base → (z : List Field × FileScope) → member_declarators all base semicolon s ≡ Ok z → FoundFields s z
  member_declarators_within Trees.no_member_declarators base semicolon s l c b z h = given (FoundFields s) ([], s.file) z h (stands s.file c.file, tt)
  member_declarators_within (Trees.and_member_declarator comma d more) base semicolon s l c b z h =
      let at = first_declarator d semicolon in
      let steps = bound_ok (derivations d s) _ z h in
      let t = bound_with steps.0.1 (type_of_derived at steps.0.1 steps.0.0 base) _ z steps.2 in
      let shape = bound_ok (derived steps.0.1.records steps.0.0 base) _ t.0 t.1 in
      let few = few_parameters steps.0.1.records steps.0.0 base shape.0 shape.1 in
      let w = derivations_within d s l.0 c steps.0 steps.1 few in
      let is = derived_is steps.0.1.records steps.0.0 base shape.0 shape.1 (stays w.0.longer base b) w.1 in
      let u = closed_is steps.0.1.records at shape.0 t.0 shape.2 is in
      let o = bound_with steps.0.1 (object_at steps.0.1.records (complete s at) at t.0) _ z t.2 in
      let v = object_is steps.0.1.records (complete s at) at t.0 o.0 o.1 u in
      let n = mentions_in s.file in
      let f = with_mention s n Named o.0 at steps.0.1 in
      let p = mentioned s s.file steps.0.1 n Named o.0 at w.0 v in
      let v' = mentioned_same s n Named o.0 o.0 at steps.0.1 v in
      member_found s (place_in s at) o.0 (declared_name d) (member_declarators more base semicolon (moved s f))
      (λ y i.
      let k = member_declarators_within more base semicolon (moved s f) l.1 (scope_after s f c p) (stays p.longer base b) y i in
      ((goes_on p k.0, k.1), stays k.0.longer o.0 v')) z o.2

  enumerators_within : (all : Trees.Enumerators) (s : Scope) (next after : ℕ) → ShortEnumerators all → IsScope s → (z : Unit {0} × FileScope)
      → enumerators all s next after ≡ Ok z → Goes s.file z.1
  enumerators_within Trees.no_enumerators s next after l c z h = given (λ (z : Unit {0} × FileScope). Goes s.file z.1) (tt, s.file) z h (stands s.file c.file)
  enumerators_within (Trees.and_enumerator comma x own more) s next after l c z h =
      let v = bound_ok (enumerator_value own s x.from next) _ z h in
      let w = enumerator_value_within own s x.from next l.0 c v.0 v.1 in
      let b = bound_of s.file.untagged x more after v.0.0 in
      let f = bound_ok (enumerator_in v.0.1 b) _ z v.2 in
      let p = subst (Goes s.file) (enumerator_is v.0.1 b f.0 f.1) (bound_goes s v.0.1 b w tt) in
      goes_on p (enumerators_within more (moved s f.0) ((v.0.0 + 1) % 2 ^ 32) after l.1 (scope_after s f.0 c p) z f.2)

  enumerator_value_within : (own : Trees.EnumeratorValue) (s : Scope) (at next : ℕ) → ShortValue own → IsScope s → (z : ℕ × FileScope)
      → enumerator_value own s at next ≡ Ok z → Goes s.file z.1
  enumerator_value_within Trees.no_value s at next l c z h = file_beside s s.file (next_value at next) z h (stands s.file c.file)
  enumerator_value_within (Trees.valued equal a) s at next l c z h =
      let k = bound_ok (constant_at (first a) (value_at (first a) (find a (for_value s)))) _ z h in
      file_beside s k.0.1 (int_value (first a) k.0.0) z k.2 (constant_found s (first a) (value_at (first a) (find a (for_value s)))
      (λ y i. (value_found (for_value s) (first a) (find a (for_value s)) (λ y i. find_within a (for_value s) l (as_value s c) y i) y i).0) k.0 k.1)

  -- the steps of a declarator, where a function has no more parameters than it may
  pub derivations_within : (d : Trees.Declarator) (s : Scope) → ShortDeclarator d → IsScope s → (z : List Derivation × FileScope) → derivations d s ≡ Ok z
      → HaveFewParameters z.0 → FoundSteps s z
  derivations_within Trees.nothing s l c z h few = given (FoundSteps s) ([], s.file) z h (stands s.file c.file, tt)
  derivations_within (Trees.named x) s l c z h few = given (FoundSteps s) ([], s.file) z h (stands s.file c.file, tt)
  derivations_within (Trees.pointer at consts d) s l c z h few =
      let steps = bound_ok (derivations d s) _ z h in
      let is = same_steps (to_pointer at ∷ steps.0.0, steps.0.1) z steps.2 in
      let v = derivations_within d s l c steps.0 steps.1 (subst (λ (z : List Derivation × FileScope). HaveFewParameters z.0) (sym is) few).1 in
      subst (FoundSteps s) is (v.0, (tt, v.1))
  derivations_within (Trees.enclosed from d to) s l c z h few = derivations_within d s l c z h few
  derivations_within (Trees.array d from Trees.no_expression to) s l c z h few =
      let steps = bound_ok (derivations d s) _ z h in
      let is = same_steps (to_open_array (complete s from) from ∷ steps.0.0, steps.0.1) z steps.2 in
      let v = derivations_within d s l.0 c steps.0 steps.1 (subst (λ (z : List Derivation × FileScope). HaveFewParameters z.0) (sym is) few).1 in
      subst (FoundSteps s) is (v.0, (tt, v.1))
  derivations_within (Trees.array d from (Trees.some_expression a) to) s l c z h few =
      let steps = bound_ok (derivations d s) _ z h in
      let k = bound_ok (constant_at (first a) (value_at (first a) (find a (for_value (moved s steps.0.1))))) _ z steps.2 in
      let n = bound_with k.0.1 (length_value (first a) k.0.0) _ z k.2 in
      let is = same_steps (to_array (complete s from) from n.0 ∷ steps.0.0, k.0.1) z n.2 in
      let v = derivations_within d s l.0 c steps.0 steps.1 (subst (λ (z : List Derivation × FileScope). HaveFewParameters z.0) (sym is) few).1 in
      let after = moved s steps.0.1 in
      let known = as_value after (scope_after s steps.0.1 c v.0) in
      let w = constant_found after (first a) (value_at (first a) (find a (for_value after)))
      (λ y i. (value_found (for_value after) (first a) (find a (for_value after)) (λ y i. find_within a (for_value after) l.1 known y i) y i).0) k.0 k.1 in
      subst (FoundSteps s) is (goes_on v.0 w, (tt, steps_stay w.longer steps.0.0 v.1))
  derivations_within (Trees.function d from all to) s l c z h few =
      let steps = bound_ok (derivations d s) _ z h in
      let types = bound_ok (parameter_list all (inside (moved s steps.0.1))) _ z steps.2 in
      let is = same_steps (to_function from types.0.0 ∷ steps.0.0, types.0.1) z types.2 in
      let own = subst (λ (z : List Derivation × FileScope). HaveFewParameters z.0) (sym is) few in
      let v = derivations_within d s l.0 c steps.0 steps.1 own.1 in
      let w = parameter_list_within all (inside (moved s steps.0.1)) l.1 (as_inside (moved s steps.0.1) (scope_after s steps.0.1 c v.0)) types.0 types.1 own.0 in
      subst (FoundSteps s) is (goes_on v.0 w.0, (w.1, steps_stay w.0.longer steps.0.0 v.1))

  parameter_list_within : (all : Trees.ParameterList) (s : Scope) → ShortParameterList all → IsScope s → (z : CTypes × FileScope)
      → parameter_list all s ≡ Ok z → parts_of_all z.0 ≤ 1021 → FoundTypes s z
  parameter_list_within (Trees.void_alone at) s l c z h few = given (FoundTypes s) (no_types, s.file) z h (stands s.file c.file, tt)
  parameter_list_within (Trees.listed all) s l c z h few = parameters_within all s l c z h few

  parameters_within : (all : Trees.Parameters) (s : Scope) → ShortParameters all → IsScope s → (z : CTypes × FileScope) → parameters all s ≡ Ok z
      → parts_of_all z.0 ≤ 1021 → FoundTypes s z
  parameters_within Trees.no_parameters s l c z h few = given (FoundTypes s) (no_types, s.file) z h (stands s.file c.file, tt)
  parameters_within (Trees.and_parameter comma specs d more) s l c z h few =
      let at = first_specifiers specs in
      let place = first_declarator d at in
      let b = bound_ok (parameter_storage at (storage_of specs) (base_type (base_kind specs) at s.file (one_of specs s))) _ z h in
      let q = parameter_storage_is at (storage_of specs) (base_type (base_kind specs) at s.file (one_of specs s)) b.0 b.1 in
      let v = base_found s specs at (one_of specs s) c (λ x i y k. one_within specs s l.0 c x i y k) b.0 q.1 in
      let steps = bound_ok (derivations d (moved s b.0.1)) _ z b.2 in
      let shape = bound_with steps.0.1 (derived steps.0.1.records steps.0.0 b.0.0) _ z steps.2 in
      let fewer = few_parameters steps.0.1.records steps.0.0 b.0.0 shape.0 shape.1 in
      let w = derivations_within d (moved s b.0.1) l.1 (scope_after s b.0.1 c v.0) steps.0 steps.1 fewer in
      let t = new_bound s (declared_name d) steps.0.1 (scalar_parameter place (parameter_type shape.0)) _ z shape.2 in
      let same = scalar_is steps.0.1.records place (parameter_type shape.0) t.1.0 t.1.1 in
      let n = mentions_in b.0.1 in
      let f = with_mention s n Named t.1.0 place steps.0.1 in
      let scope = with_parameter_if_named (moved s f) (declared_name d) t.1.0 in
      let rest = bound_ok (parameters more scope) _ z t.1.2 in
      let is = same_types (and_type t.1.0 rest.0.0, rest.0.1) z rest.2 in
      let own : parts t.1.0 + parts_of_all rest.0.0 ≤ 1021 = subst (λ (z : CTypes × FileScope). parts_of_all z.0 ≤ 1021) (sym is) few in
      let few_own : parts (parameter_type shape.0) ≤ 1021 = subst (λ t. parts t ≤ 1021) (sym same) (omega (arith, own)) in
      let few_rest : parts_of_all rest.0.0 ≤ 1021 = omega (arith, own) in
      let sh = derived_is steps.0.1.records steps.0.0 b.0.0 shape.0 shape.1 (stays w.0.longer b.0.0 v.1) w.1 in
      let u = subst (IsWithin steps.0.1.records) same (parameter_is steps.0.1.records shape.0 sh few_own) in
      let up = subst (λ t. IsWithin steps.0.1.records (pointer t)) same (parameter_pointer steps.0.1.records shape.0 sh few_own) in
      let p = mentioned s s.file steps.0.1 n Named t.1.0 place (goes_on v.0 w.0) u in
      let u' = mentioned_same s n Named t.1.0 t.1.0 place steps.0.1 u in
      let up' = mentioned_same s n Named t.1.0 (pointer t.1.0) place steps.0.1 up in
      let k = parameters_within more scope l.2 (parameter_scope (moved s f) (declared_name d) t.1.0 (scope_after s f c p) (u', up')) rest.0 rest.1 few_rest in
      let g = same_file (moved s f) (declared_name d) t.1.0 rest.0.1 k.0 in
      subst (FoundTypes s) is (goes_on p g, (stays g.longer t.1.0 u', k.1))

-- an integer constant expression
pub constant_within : (a : Trees.Expression) (s : Scope) → Short a → IsScope s → (z : (IntKind × ℕ) × FileScope)
    → constant_at (first a) (value_at (first a) (find a (for_value s))) ≡ Ok z → Goes s.file z.1
constant_within a s l c z h =
    constant_found s (first a) (value_at (first a) (find a (for_value s)))
    (λ y k. (value_found (for_value s) (first a) (find a (for_value s)) (λ y k. find_within a (for_value s) l (as_value s c) y k) y k).0) z h

-- the type that specifiers name
pub base_within : (specs : Trees.Specifiers) (s : Scope) (at : ℕ) → ShortSpecifiers specs → IsScope s → (z : CType × FileScope)
    → base_type (base_kind specs) at s.file (one_of specs s) ≡ Ok z → FoundType s z
base_within specs s at l c z h = base_found s specs at (one_of specs s) c (λ x i y k. one_within specs s l c x i y k) z h
