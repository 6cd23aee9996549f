-- Records are added to a file and never taken from it, so the fields of a structure, whose types are complete where they stand, are of complete types
-- where it ends.
use Rattle.std.proofs.Common.{◌≡◌, ◌≤◌, ◌+◌, ℕ, Bool, true, false, refl, subst, List, [], ◌∷◌, ◌++◌, length, length-append, arith}
use Rattle.std.proofs.Common.{IsTrue}
use Rattle.std.proofs.lemmas.Bool.{and_from, and_parts, lt-ltb, ltb-true}
use Rattle.std.proofs.lemmas.List.{length-map}
use Rattle.std.proofs.lemmas.List.Elements.{All-nil, All-cons}
use Rattle.std.specs.Prelude.{All, map, nat_lt, nat_le, Option, Some, None, Ok, Err, if◌then◌else◌, ◌%◌, ◌^◌}
use Rattle.lay_base.specs.declared.faults.Rule.TheVariants as R
use Rattle.lay_base.specs.declared.place.Place.{Place}
use Rattle.c_types.specs.declared.record.Field as Program
use Rattle.c_types.specs.Layouts.{size_of_record}
use Rattle.c_types.specs.Objects.{is_object}
use Rattle.c_types.specs.Types.{CType, CTypes, void, integer, pointer, array, function, structure, no_types, and_type, Field, Record}
use Rattle.c_types.specs.Views.{field_of, record_of, type_of}
use Rattle.c_ast.specs.declared.words.Spelling.{Spelling}
use Rattle.c_ast.specs.declared.operators.UnaryOp.{UnaryOp}
use Rattle.c_ast.specs.declared.operators.UnaryOp.TheVariants as U
use Rattle.c_ast.specs.Trees
use Rattle.c_ast.specs.Places.{first, first_specifiers, first_declarator}
use Rattle.c_typed.specs.declared.program.MentionKind.{MentionKind}
use Rattle.c_typed.specs.declared.program.MentionKind.TheVariants.{Named, Sizeof}
use Rattle.c_typed.specs.declared.operators.BinaryOp.{BinaryOp}
use Rattle.c_erasure.specs.Broken.{Fault, member_names, tag_place}
use Rattle.c_erasure.specs.Declarators.{declared_name, parameter_type}
use Rattle.c_erasure.specs.Erasure.{after_all, place_in, literal_of, with_parameter_if_named}
use Rattle.c_erasure.specs.Noted.{Expression, Path, Thing}
use Rattle.c_erasure.specs.Operators.{update_of}
use Rattle.c_erasure.specs.Scopes.{AMention, Bound, FileScope, Scope, Purpose, in_full, inside, measured, for_value, is_measured, here}
use Rattle.c_erasure.specs.Specifiers.{Storage, no_storage, is_register, storage_of}
use Rattle.c_erasure.specs.Checking.Answers.{Answer, ◌>>=◌, refused, Checked, with_file, moved}
use Rattle.c_erasure.specs.Checking.Nodes.{Target, scalar_at, record_at, worth, tested, array_of, signature_in, argument_in, is_complete, measured_in, sized_type}
use Rattle.c_erasure.specs.Checking.Nodes.{target_in}
use Rattle.c_erasure.specs.Checking.Declaring.{Base, by_words, by_one, no_type, base_kind, completed_in, constant_in, definable}
use Rattle.c_erasure.specs.Checking.Declaring.{declared_among, derived, enumerator_in, is_next, known_tag, length_value, literal_for, literal_in, mentions_in}
use Rattle.c_erasure.specs.Checking.Declaring.{new_here, new_if_named, new_name, number_among, object_at, parameter_storage, repeated, scalar_parameter}
use Rattle.c_erasure.specs.Checking.Declaring.{unless, with_mention, without_storage, Derivation}
use Rattle.c_erasure.specs.Checking.Finding.{assigned, base_type, complete, constant_at, on_value, subscripted, tested_at, type_of_derived, unary_on, value_at}
use Rattle.c_erasure.specs.Checking.Finding.{with_member}
use Rattle.c_erasure.specs.Checking.Finding.{find, arguments, type_name, one_of, specified, members, member_declarators, enumerators, enumerator_value}
use Rattle.c_erasure.specs.Checking.Finding.{derivations, array_step, parameter_list, parameters}
use Rattle.c_scopes.specs.declared.file_scope.FileScope as Files
use Rattle.c_scopes.specs.Scoping.{file_of}
use Rattle.c_declaring.specs.Adding as Adding

-- ---- what holds of all that is found

abbrev Each : {A : Type 0} → (A → Type 0) → Answer A → Type 0
Each P (Ok x) = P x
Each P (Err e) = Unit {0}

then_each : {A B : Type 0} (P : A → Type 0) (Q : B → Type 0) (r : Answer A) (f : A → Answer B) → Each P r → ((x : A) → P x → Each Q (f x)) → Each Q (r >>= f)
then_each P Q (Ok x) f p k = k x p
then_each P Q (Err e) f p k = tt

each_if : {A : Type 0} (P : A → Type 0) (b : Bool) (r q : Answer A) → Each P r → Each P q → Each P (if b then r else q)
each_if P true r q p k = p
each_if P false r q p k = k

each_unless : {A : Type 0} (P : A → Type 0) (o : Option Fault) (r : Answer A) → Each P r → Each P (unless o r)
each_unless P None r p = p
each_unless P (Some f) r p = tt

each_without : {A : Type 0} (P : A → Type 0) (at : ℕ) (words : Storage) (r : Answer A) → Each P r → Each P (without_storage at words r)
each_without P at no_storage r p = p
each_without P at words r p = tt

each_parameter : {A : Type 0} (P : A → Type 0) (at : ℕ) (words : Storage) (r : Answer A) → Each P r → Each P (parameter_storage at words r)
each_parameter P at no_storage r p = p
each_parameter P at is_register r p = p
each_parameter P at words r p = tt

each_new_here : {A : Type 0} (P : A → Type 0) (x : Spelling) (o : Option Bound) (r : Answer A) → Each P r → Each P (new_here x o r)
each_new_here P x None r p = p
each_new_here P x (Some b) r p = tt

each_new : {A : Type 0} (P : A → Type 0) (s : Scope) (x : Option Spelling) (r : Answer A) → Each P r → Each P (new_if_named s x r)
each_new P s None r p = p
each_new P s (Some x) r p = each_new_here P x (here s x.text) r p

-- ---- at least so many records

abbrev HasAtLeast : ℕ → FileScope → Type 0
HasAtLeast n f = n ≤ length f.records

abbrev Keeps : {A : Type 0} → ℕ → A × FileScope → Type 0
Keeps n z = HasAtLeast n z.1

keeps_then : {A B : Type 0} (n : ℕ) (r : Checked A) (f : A × FileScope → Checked B) → Each (Keeps n) r → ((z : A × FileScope) → Keeps n z → Each (Keeps n) (f z))
    → Each (Keeps n) (r >>= f)
keeps_then n r f p k = then_each (Keeps n) (Keeps n) r f p k

beside : {A : Type 0} (n : ℕ) (f : FileScope) (r : Answer A) → HasAtLeast n f → Each (Keeps n) (with_file f r)
beside n f (Ok x) p = p
beside n f (Err e) p = tt

-- an answer that depends on what is found leaves the file as it is
last : {A B : Type 0} (n : ℕ) (r : Checked A) (f : A × FileScope → Answer B) → Each (Keeps n) r → Each (Keeps n) (r >>= λ z. with_file z.1 (f z))
last n r f p = keeps_then n r (λ z. with_file z.1 (f z)) p (λ z q. beside n z.1 (f z) q)

value_keeps : (n at : ℕ) (r : Checked Thing) → Each (Keeps n) r → Each (Keeps n) (value_at at r)
value_keeps n at r p = last n r (λ x. worth at x.0) p

tested_keeps : (n at : ℕ) (r : Checked Expression) → Each (Keeps n) r → Each (Keeps n) (tested_at at r)
tested_keeps n at r p = last n r (λ x. tested at x.0) p

constant_keeps : (n at : ℕ) (r : Checked Thing) → Each (Keeps n) r → Each (Keeps n) (constant_at at (value_at at r))
constant_keeps n at r p = last n (value_at at r) (λ x. constant_in at x.0) (value_keeps n at r p)

mention_by : (n : ℕ) (b : Bool) (f : FileScope) (all : List AMention) → HasAtLeast n f → HasAtLeast n (if b then f else record f { mentions = all })
mention_by n true f all p = p
mention_by n false f all p = p

mentioned : (n : ℕ) (s : Scope) (before : ℕ) (kind : MentionKind) (t : CType) (at : ℕ) (f : FileScope) → HasAtLeast n f
    → HasAtLeast n (with_mention s before kind t at f)
mentioned n s before kind t at f p = mention_by n (is_measured s.purpose) f _ p

literal_by : (n : ℕ) (p : Purpose) (s : Scope) (at : Place) (bytes : List ℕ) → HasAtLeast n s.file → Each (Keeps n) (literal_for p s at bytes)
literal_by n in_full s at bytes h = h
literal_by n p s at bytes h = h

literal_keeps : (n : ℕ) (s : Scope) (at : Place) (bytes : List ℕ) → HasAtLeast n s.file → Each (Keeps n) (literal_in s at bytes)
unfolding literal_in
literal_keeps n s at bytes h = literal_by n s.purpose s at bytes h

operator_keeps : (n : ℕ) (op : UnaryOp) (count from at : ℕ) (s : Scope) (r : Checked Thing) → Each (Keeps n) r → Each (Keeps n) (unary_on op count from at s r)
operator_keeps n U.Address count from at s r p = last n r _ p
operator_keeps n U.Deref count from at s r p = last n (value_at from r) (λ x. on_value U.Deref count at s x.0) (value_keeps n from r p)
operator_keeps n U.Plus count from at s r p = last n (value_at from r) (λ x. on_value U.Plus count at s x.0) (value_keeps n from r p)
operator_keeps n U.Minus count from at s r p = last n (value_at from r) (λ x. on_value U.Minus count at s x.0) (value_keeps n from r p)
operator_keeps n U.Complement count from at s r p = last n (value_at from r) (λ x. on_value U.Complement count at s x.0) (value_keeps n from r p)
operator_keeps n U.Not count from at s r p = last n (value_at from r) (λ x. on_value U.Not count at s x.0) (value_keeps n from r p)

subscript_keeps : (n count from left : ℕ) (at : Place) (th : Thing) (f : FileScope) (number : FileScope → Checked Expression) → HasAtLeast n f
    → ((g : FileScope) → HasAtLeast n g → Each (Keeps n) (number g)) → (o : Option (Path × CType)) → Each (Keeps n) (subscripted count from left at th f number o)
subscript_keeps n count from left at th f number p k (Some a) = last n (number f) _ (k f p)
subscript_keeps n count from left at th f number p k None =
    keeps_then n (with_file f (worth from th)) _ (beside n f (worth from th) p) (λ x q. last n (number x.1) _ (k x.1 q))

assigned_keeps : (n count op_at from : ℕ) (at : Place) (target : Target) (f : FileScope) (right : FileScope → Checked Thing) → Each (Keeps n) (right f)
    → (o : Option BinaryOp) → Each (Keeps n) (assigned count op_at from at target f right o)
assigned_keeps n count op_at from at target f right p (Some op) = last n (value_at from (right f)) _ (value_keeps n from (right f) p)
assigned_keeps n count op_at from at (scalar_at q) f right p None = last n (value_at from (right f)) _ (value_keeps n from (right f) p)
assigned_keeps n count op_at from at (record_at q) f right p None = last n (right f) _ p

base_keeps : (n : ℕ) (base : Base) (at : ℕ) (f : FileScope) (one : Checked CType) → HasAtLeast n f → Each (Keeps n) one → Each (Keeps n) (base_type base at f one)
base_keeps n (by_words t) at f one p q = p
base_keeps n by_one at f one p q = q
base_keeps n no_type at f one p q = tt

completed_keeps : (n : ℕ) (f : FileScope) (named : ℕ) (names : List Spelling) (r : Record) → HasAtLeast n f → Each (Keeps n) (completed_in f named names r)
unfolding completed_in
completed_keeps n f named names r p =
    each_unless (Keeps n) (repeated [] names) _
    (each_if (Keeps n) (is_next (length f.records) (number_among f.numbered r.tag)) _ _
    (each_if (Keeps n) (nat_le (size_of_record f.records r) 16777216) _ _ (omega (arith, p, length-append f.records (r ∷ []))) tt) tt)

name_keeps : (n : ℕ) (f : FileScope) (b : Bound) (o : Option Bound) → HasAtLeast n f → Each (HasAtLeast n) (new_name f b o)
name_keeps n f b None p = p
name_keeps n f b (Some old) p = tt

enumerator_keeps : (n : ℕ) (f : FileScope) (b : Bound) → HasAtLeast n f → Each (HasAtLeast n) (enumerator_in f b)
unfolding enumerator_in
enumerator_keeps n f b p = name_keeps n f b (declared_among f.names b.name) p

parameter_file : (n : ℕ) (s : Scope) (x : Option Spelling) (t : CType) → HasAtLeast n s.file → HasAtLeast n (with_parameter_if_named s x t).file
parameter_file n s None t p = p
parameter_file n s (Some x) t p = p

-- ---- fields of complete types

abbrev AreObjects : ℕ → List Field → Type 0
AreObjects n [] = Unit {0}
AreObjects n (x ∷ more) = IsTrue (is_object n x.ty) × AreObjects n more

object_stays : (n m : ℕ) (t : CType) → n ≤ m → IsTrue (is_object n t) → IsTrue (is_object m t)
object_stays n m void h e = e
object_stays n m (integer kind) h e = e
object_stays n m (pointer t) h e = e
object_stays n m (array t k) h e =
    let parts = and_parts (nat_lt 0 k) (is_object n t) e in
    and_from (nat_lt 0 k) (is_object m t) parts.0 (object_stays n m t h parts.1)
object_stays n m (function t all) h e = e
object_stays n m (structure number) h e = lt-ltb number m (omega (arith, h, ltb-true number n e))

objects_stay : (n m : ℕ) (own : List Field) → n ≤ m → AreObjects n own → AreObjects m own
objects_stay n m [] h p = tt
objects_stay n m (x ∷ own) h p = (object_stays n m x.ty h p.0, objects_stay n m own h p.1)

objects_append : (n : ℕ) (own more : List Field) → AreObjects n own → AreObjects n more → AreObjects n (own ++ more)
objects_append n [] more p q = q
objects_append n (x ∷ own) more p q = (p.0, objects_append n own more p.1 q)

abbrev HasFields : ℕ → List Field × FileScope → Type 0
HasFields n z = HasAtLeast n z.1 × AreObjects (length z.1.records) z.0

abbrev HasObject : ℕ → CType × FileScope → Type 0
HasObject n z = HasAtLeast n z.1 × IsTrue (is_object (length z.1.records) z.0)

object_by : (n : ℕ) (b : Bool) (f : FileScope) (at : ℕ) (t : CType) → HasAtLeast n f → (IsTrue b → IsTrue (is_object (length f.records) t))
    → Each (HasObject n) (with_file f (if b then Ok t else refused R.Incomplete at))
object_by n true f at t p k = (p, k refl)
object_by n false f at t p k = tt

object_found : (n : ℕ) (f : FileScope) (count at : ℕ) (t : CType) → HasAtLeast n f → Each (HasObject n) (with_file f (object_at f.records count at t))
unfolding object_at
object_found n f count at t p =
    object_by n (is_complete f.records count t) f at t p (λ e. (and_parts (is_object count t) (is_object (length f.records) t) e).1)

member_found : (n m : ℕ) (at : Place) (t : CType) (x : Option Spelling) (later : Checked (List Field)) → n ≤ m → IsTrue (is_object m t)
    → Each (HasFields m) later → Each (HasFields n) (with_member at t x later)
member_found n m at t None later h e p = tt
member_found n m at t (Some x) later h e p =
    then_each (HasFields m) (HasFields n) later _ p (λ rest q. (omega (arith, h, q.0), (object_stays m (length rest.1.records) t q.0 e, q.1)))

-- ---- the recursion

mutual
  unfolding find arguments type_name one_of specified members member_declarators enumerators enumerator_value derivations array_step parameter_list parameters

  finds : (n : ℕ) (a : Trees.Expression) (s : Scope) → HasAtLeast n s.file → Each (Keeps n) (find a s)
  finds n (Trees.name x) s p = beside n s.file _ p
  finds n (Trees.number x v kind) s p = p
  finds n (Trees.character x v) s p = p
  finds n (Trees.texts all) s p = literal_keeps n s (place_in s (first (Trees.texts all))) (literal_of all) p
  finds n (Trees.paren left a right) s p = finds n a s p
  finds n (Trees.index a left b right) s p = keeps_then n (find a s) _ (finds n a s p) (λ x q.
      subscript_keeps n (complete s (first a)) (first a) left (place_in s (first a)) x.0 x.1 (λ f. value_at (first b) (find b (moved s f))) q
      (λ g r. value_keeps n (first b) (find b (moved s g)) (finds n b (moved s g) r)) (array_of x.0))
  finds n (Trees.call g left all right) s p = keeps_then n (find g s) _ (finds n g s p) (λ x q.
      keeps_then n (with_file x.1 (signature_in (first g) x.0)) _ (beside n x.1 _ q) (λ t r.
      last n (arguments right t.0.0 all (moved s t.1)) _ (finds_all n right t.0.0 all (moved s t.1) r)))
  finds n (Trees.dot a at x) s p = last n (find a s) _ (finds n a s p)
  finds n (Trees.arrow a at x) s p = last n (value_at (first a) (find a s)) _ (value_keeps n (first a) (find a s) (finds n a s p))
  finds n (Trees.post a op at) s p = last n (find a s) _ (finds n a s p)
  finds n (Trees.pre op at a) s p = last n (find a s) _ (finds n a s p)
  finds n (Trees.unary op at a) s p = operator_keeps n op (complete s at) (first a) at s (find a s) (finds n a s p)
  finds n (Trees.sizeof_expression at a) s p = keeps_then n (find a (measured s)) _ (finds n a (measured s) p) (λ x q.
      keeps_then n (with_file x.1 (measured_in x.1.records (complete s at) at (first a) x.0)) _ (beside n x.1 _ q) (λ t r.
      mentioned n s (mentions_in t.1) Sizeof t.0 at t.1 r))
  finds n (Trees.sizeof_type at left m right) s p = keeps_then n (type_name m s) _ (finds_type n m s p) (λ x q.
      keeps_then n (with_file x.1 (sized_type x.1.records (complete s right) at x.0)) _ (beside n x.1 _ q) (λ t r.
      mentioned n s (mentions_in s.file) Sizeof t.0 at t.1 r))
  finds n (Trees.cast left m right a) s p = keeps_then n (type_name m s) _ (finds_type n m s p) (λ t q.
      last n (value_at (first a) (find a (moved s t.1))) _ (value_keeps n (first a) (find a (moved s t.1)) (finds n a (moved s t.1) q)))
  finds n (Trees.binary a op at b) s p = keeps_then n (value_at (first a) (find a s)) _ (value_keeps n (first a) (find a s) (finds n a s p)) (λ x q.
      last n (value_at (first b) (find b (moved s x.1))) _ (value_keeps n (first b) (find b (moved s x.1)) (finds n b (moved s x.1) q)))
  finds n (Trees.cond a question b colon c) s p =
      keeps_then n (tested_at question (value_at (first a) (find a s))) _
      (tested_keeps n question (value_at (first a) (find a s)) (value_keeps n (first a) (find a s) (finds n a s p))) (λ x q.
      keeps_then n (value_at (first b) (find b (moved s x.1))) _ (value_keeps n (first b) (find b (moved s x.1)) (finds n b (moved s x.1) q)) (λ y r.
      last n (value_at (first c) (find c (moved s y.1))) _ (value_keeps n (first c) (find c (moved s y.1)) (finds n c (moved s y.1) r))))
  finds n (Trees.assign a op at b) s p = keeps_then n (find a s) _ (finds n a s p) (λ x q.
      keeps_then n (with_file x.1 (target_in (first a) x.0)) _ (beside n x.1 _ q) (λ t r.
      assigned_keeps n (complete s (first a)) at (first b) (place_in s (first a)) t.0 t.1 (λ f. find b (moved s f)) (finds n b (moved s t.1) r) (update_of op)))
  finds n (Trees.comma a at b) s p = keeps_then n (value_at (first a) (find a s)) _ (value_keeps n (first a) (find a s) (finds n a s p)) (λ x q.
      last n (value_at (first b) (find b (moved s x.1))) _ (value_keeps n (first b) (find b (moved s x.1)) (finds n b (moved s x.1) q)))
  finds n (Trees.braces left all comma right) s p = tt

  finds_all : (n right : ℕ) (types : CTypes) (all : Trees.Arguments) (s : Scope) → HasAtLeast n s.file → Each (Keeps n) (arguments right types all s)
  finds_all n right no_types Trees.no_arguments s p = p
  finds_all n right (and_type t more) Trees.no_arguments s p = tt
  finds_all n right no_types (Trees.and_argument comma a rest) s p = tt
  finds_all n right (and_type t more) (Trees.and_argument comma a rest) s p =
      keeps_then n (value_at (first a) (find a s)) _ (value_keeps n (first a) (find a s) (finds n a s p)) (λ x q.
      keeps_then n (with_file x.1 (argument_in (first a) t x.0)) _ (beside n x.1 _ q) (λ y r.
      keeps_then n (arguments right more rest (moved s y.1)) _ (finds_all n right more rest (moved s y.1) r) (λ ys o. o)))

  finds_type : (n : ℕ) (m : Trees.TypeName) (s : Scope) → HasAtLeast n s.file → Each (Keeps n) (type_name m s)
  finds_type n (Trees.type_name specs d) s p =
      let at = first_specifiers specs in
      keeps_then n (without_storage at (storage_of specs) (base_type (base_kind specs) at s.file (one_of specs s))) _
      (each_without (Keeps n) at (storage_of specs) _ (base_keeps n (base_kind specs) at s.file (one_of specs s) p (finds_one n specs s p))) (λ b q.
      keeps_then n (derivations d (moved s b.1)) _ (finds_steps n d (moved s b.1) q) (λ steps r.
      keeps_then n (with_file steps.1 (type_of_derived (first_declarator d at) steps.1 steps.0 b.0)) _ (beside n steps.1 _ r) (λ t o.
      mentioned n s (mentions_in b.1) Named t.0 (first_declarator d at) t.1 o)))

  finds_one : (n : ℕ) (specs : Trees.Specifiers) (s : Scope) → HasAtLeast n s.file → Each (Keeps n) (one_of specs s)
  finds_one n Trees.no_specifiers s p = tt
  finds_one n (Trees.and_specifier (Trees.plain word at) more) s p = finds_one n more s p
  finds_one n (Trees.and_specifier (Trees.typename x) more) s p = finds_specifier n (Trees.typename x) s p
  finds_one n (Trees.and_specifier (Trees.struct_named at x) more) s p = finds_specifier n (Trees.struct_named at x) s p
  finds_one n (Trees.and_specifier (Trees.struct_body at x left all right) more) s p = finds_specifier n (Trees.struct_body at x left all right) s p
  finds_one n (Trees.and_specifier (Trees.enum_named at x) more) s p = finds_specifier n (Trees.enum_named at x) s p
  finds_one n (Trees.and_specifier (Trees.enum_body at x left all comma right) more) s p = finds_specifier n (Trees.enum_body at x left all comma right) s p

  finds_specifier : (n : ℕ) (x : Trees.Specifier) (s : Scope) → HasAtLeast n s.file → Each (Keeps n) (specified x s)
  finds_specifier n (Trees.plain word at) s p = tt
  finds_specifier n (Trees.typename x) s p = beside n s.file _ p
  finds_specifier n (Trees.struct_named at x) s p = beside n s.file _ p
  finds_specifier n (Trees.struct_body at x left all right) s p =
      each_if (Keeps n) s.is_inside _ _ tt
      (each_unless (Keeps n) (definable s at x (known_tag s x)) _
      (then_each (HasFields n) (Keeps n) (members all s) _ (finds_members n all s p) (λ m q. completed_keeps n m.1 (tag_place at x) (member_names all) _ q.0)))
  finds_specifier n (Trees.enum_named at x) s p = beside n s.file _ p
  finds_specifier n (Trees.enum_body at x left all comma right) s p =
      each_if (Keeps n) s.is_inside _ _ tt (last n (enumerators all s 0 (after_all comma right)) _ (finds_enumerators n all s 0 (after_all comma right) p))

  finds_members : (n : ℕ) (all : Trees.MemberDeclarations) (s : Scope) → HasAtLeast n s.file → Each (HasFields n) (members all s)
  finds_members n Trees.no_member_declarations s p = (p, tt)
  finds_members n (Trees.and_member_declaration specs ds semicolon more) s p =
      let at = first_specifiers specs in
      then_each (Keeps n) (HasFields n) (without_storage at (storage_of specs) (base_type (base_kind specs) at s.file (one_of specs s))) _
      (each_without (Keeps n) at (storage_of specs) _ (base_keeps n (base_kind specs) at s.file (one_of specs s) p (finds_one n specs s p))) (λ b q.
      then_each (HasFields n) (HasFields n) (member_declarators ds b.0 semicolon (moved s b.1)) _ (finds_declarators n ds b.0 semicolon (moved s b.1) q) (λ own r.
      then_each (HasFields (length own.1.records)) (HasFields n) (members more (moved s own.1)) _
      (finds_members (length own.1.records) more (moved s own.1) (omega arith)) (λ rest o. (
        omega (arith, r.0, o.0),
        objects_append (length rest.1.records) own.0 rest.0 (objects_stay (length own.1.records) (length rest.1.records) own.0 o.0 r.1) o.1,
      ))))

  finds_declarators : (n : ℕ) (all : Trees.MemberDeclarators) (base : CType) (semicolon : ℕ) (s : Scope) → HasAtLeast n s.file
      → Each (HasFields n) (member_declarators all base semicolon s)
  finds_declarators n Trees.no_member_declarators base semicolon s p = (p, tt)
  finds_declarators n (Trees.and_member_declarator comma d more) base semicolon s p =
      let at = first_declarator d semicolon in
      then_each (Keeps n) (HasFields n) (derivations d s) _ (finds_steps n d s p) (λ steps q.
      then_each (Keeps n) (HasFields n) (with_file steps.1 (type_of_derived at steps.1 steps.0 base)) _ (beside n steps.1 _ q) (λ t r.
      then_each (HasObject n) (HasFields n) (with_file t.1 (object_at t.1.records (complete s at) at t.0)) _
      (object_found n t.1 (complete s at) at t.0 r) (λ u o.
      let f = with_mention s (mentions_in s.file) Named u.0 at u.1 in
      member_found n (length u.1.records) (place_in s at) u.0 (declared_name d) (member_declarators more base semicolon (moved s f)) o.0 o.1
      (finds_declarators (length u.1.records) more base semicolon (moved s f) (mentioned (length u.1.records) s (mentions_in s.file) Named u.0 at u.1 (omega arith))))))

  finds_enumerators : (n : ℕ) (all : Trees.Enumerators) (s : Scope) (next after : ℕ) → HasAtLeast n s.file → Each (Keeps n) (enumerators all s next after)
  finds_enumerators n Trees.no_enumerators s next after p = p
  finds_enumerators n (Trees.and_enumerator comma x value more) s next after p =
      keeps_then n (enumerator_value value s x.from next) _ (finds_value n value s x.from next p) (λ v q.
      then_each (HasAtLeast n) (Keeps n) (enumerator_in v.1 _) _ (enumerator_keeps n v.1 _ q) (λ f r.
      finds_enumerators n more (moved s f) ((v.0 + 1) % 2 ^ 32) after r))

  finds_value : (n : ℕ) (value : Trees.EnumeratorValue) (s : Scope) (at next : ℕ) → HasAtLeast n s.file → Each (Keeps n) (enumerator_value value s at next)
  finds_value n Trees.no_value s at next p = beside n s.file _ p
  finds_value n (Trees.valued equal a) s at next p =
      last n (constant_at (first a) (value_at (first a) (find a (for_value s)))) _ (constant_keeps n (first a) (find a (for_value s)) (finds n a (for_value s) p))

  finds_steps : (n : ℕ) (d : Trees.Declarator) (s : Scope) → HasAtLeast n s.file → Each (Keeps n) (derivations d s)
  finds_steps n Trees.nothing s p = p
  finds_steps n (Trees.named x) s p = p
  finds_steps n (Trees.pointer at consts d) s p = keeps_then n (derivations d s) _ (finds_steps n d s p) (λ steps q. q)
  finds_steps n (Trees.enclosed left d right) s p = finds_steps n d s p
  finds_steps n (Trees.array d left number right) s p = keeps_then n (derivations d s) _ (finds_steps n d s p) (λ steps q.
      finds_length n number left (complete s left) steps.0 (moved s steps.1) q)
  finds_steps n (Trees.function d left all right) s p = keeps_then n (derivations d s) _ (finds_steps n d s p) (λ steps q.
      keeps_then n (parameter_list all (inside (moved s steps.1))) _ (finds_list n all (inside (moved s steps.1)) q) (λ types r. r))

  finds_length : (n : ℕ) (number : Trees.OptionalExpression) (left count : ℕ) (steps : List Derivation) (s : Scope) → HasAtLeast n s.file
      → Each (Keeps n) (array_step number left count steps s)
  finds_length n Trees.no_expression left count steps s p = p
  finds_length n (Trees.some_expression a) left count steps s p =
      keeps_then n (constant_at (first a) (value_at (first a) (find a (for_value s)))) _
      (constant_keeps n (first a) (find a (for_value s)) (finds n a (for_value s) p)) (λ c q.
      keeps_then n (with_file c.1 (length_value (first a) c.0)) _ (beside n c.1 _ q) (λ l r. r))

  finds_list : (n : ℕ) (all : Trees.ParameterList) (s : Scope) → HasAtLeast n s.file → Each (Keeps n) (parameter_list all s)
  finds_list n (Trees.void_alone at) s p = p
  finds_list n (Trees.listed all) s p = finds_parameters n all s p

  finds_parameters : (n : ℕ) (all : Trees.Parameters) (s : Scope) → HasAtLeast n s.file → Each (Keeps n) (parameters all s)
  finds_parameters n Trees.no_parameters s p = p
  finds_parameters n (Trees.and_parameter comma specs d more) s p =
      let at = first_specifiers specs in
      keeps_then n (parameter_storage at (storage_of specs) (base_type (base_kind specs) at s.file (one_of specs s))) _
      (each_parameter (Keeps n) at (storage_of specs) _ (base_keeps n (base_kind specs) at s.file (one_of specs s) p (finds_one n specs s p))) (λ b q.
      keeps_then n (derivations d (moved s b.1)) _ (finds_steps n d (moved s b.1) q) (λ steps r.
      keeps_then n (with_file steps.1 (derived steps.1.records steps.0 b.0)) _ (beside n steps.1 _ r) (λ shape o.
      keeps_then n (new_if_named s (declared_name d) (with_file shape.1 (scalar_parameter (first_declarator d at) (parameter_type shape.0)))) _
      (each_new (Keeps n) s (declared_name d) _ (beside n shape.1 _ o)) (λ t w.
      let f = with_mention s (mentions_in b.1) Named t.0 (first_declarator d at) t.1 in
      let scope = with_parameter_if_named (moved s f) (declared_name d) t.0 in
      keeps_then n (parameters more scope) _
      (finds_parameters n more scope (parameter_file n (moved s f) (declared_name d) t.0 (mentioned n s (mentions_in b.1) Named t.0 (first_declarator d at) t.1 w)))
      (λ rest v. v)))))

-- ---- the fields of a structure where it ends

listed : (n : ℕ) (fields : List Program.Field) → AreObjects n (map field_of fields) → All (λ (f : Program.Field). IsTrue (is_object n (type_of f.ty))) fields
listed n [] h = All-nil (λ (f : Program.Field). IsTrue (is_object n (type_of f.ty)))
listed n (f ∷ more) h = All-cons (λ (f : Program.Field). IsTrue (is_object n (type_of f.ty))) f more h.0 (listed n more h.1)

pub fields_are_objects : (all : Trees.MemberDeclarations) (s : Scope) (fields : List Program.Field) (file : Files.FileScope)
    → members all s ≡ Ok (map field_of fields, file_of file) → Adding.AreObjects file.records fields
fields_are_objects all s fields file e =
    let found : Each (HasFields 0) (members all s) = finds_members 0 all s (omega arith) in
    let is : HasFields 0 (map field_of fields, file_of file) = subst (λ r. Each (HasFields 0) r) e found in
    subst (λ n. All (λ (f : Program.Field). IsTrue (is_object n (type_of f.ty))) fields) (length-map file.records record_of)
    (listed (length (file_of file).records) fields is.1)
