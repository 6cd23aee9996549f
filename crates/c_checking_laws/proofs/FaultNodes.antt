-- What the faults of nodes say: the rule that is named is false of their parts (C99 6.5).
use Rattle.std.proofs.Common.{◌≡◌, ℕ, zero, suc, ◌+◌, ◌≤◌, ◌<◌, Bool, true, false, refl, cond, List, [], ◌∷◌, length, inl, inr, arith}
use Rattle.std.proofs.lemmas.Bool.{and_parts, and_from, lt-ltb, ltb-true}
use Rattle.std.proofs.lemmas.Bool.Decides.{nat_tests}
use Rattle.std.specs.Prelude.{Option, Some, None, Err, ◌⊎◌, ◌&&◌, ◌||◌, nat_lt, nat_le, slice_get}
use Rattle.std.specs.Str.{bytes_eq}
use Rattle.lay_base.specs.declared.place.Place.{Place}
use Rattle.lay_base.specs.declared.faults.Rule.{Rule}
use Rattle.lay_base.specs.declared.faults.Rule.TheVariants as R
use Rattle.c_types.specs.Types.{CType, CTypes, void, integer, pointer, array, function, structure, Field, Record}
use Rattle.c_types.specs.Layouts.{size_of}
use Rattle.c_types.specs.Objects.{is_object, parts}
use Rattle.c_types.specs.Sameness.{same_type}
use Rattle.c_types.proofs.SameTypes.{same_self}
use Rattle.c_typed.specs.declared.operators.UnaryOp.{UnaryOp}
use Rattle.c_typed.specs.declared.operators.StepOp.{StepOp}
use Rattle.c_typed.specs.declared.operators.BinaryOp.{BinaryOp}
use Rattle.c_typed.specs.declared.operators.BinaryOp.TheVariants as B
use Rattle.c_typed.specs.Trees as Typed
use Rattle.c_typed.specs.Conversions.{is_integer, is_scalar, is_array, is_function, is_record}
use Rattle.c_typed.specs.Fits.{assigns, casts}
use Rattle.c_typed.specs.Rules.{on_numbers, comparing, choosing, moving, differing, updating, is_stepped, points_to_object}
use Rattle.c_erasure.specs.Broken.{Fault, ill_typed, undeclared, too_big, called_type, pointed_type, IsNoFunction, AreUnfit, is_subscript}
use Rattle.c_erasure.specs.Broken.{IsNoObject, IsArrayObject, IsNotAssigned, IsObjectOf, has_field, IsMemberless, NoMemberOf, NoMemberAt, IsLibrary}
use Rattle.c_erasure.specs.Broken.{misplaced, IsOnlyValue, IsOfGreatestType, IsPointless, IsSizeless, IsNoRecord, IsValueless}
use Rattle.c_erasure.specs.Erasure.{IsOfType}
use Rattle.c_erasure.specs.Noted.{Noted, Expression, Path, Thing, an_object, a_value, a_function, a_function_at, a_library_function, type_of, type_of_path}
use Rattle.c_erasure.specs.Noted.{object_value}
use Rattle.c_erasure.specs.Operators.{Kind, computes, compares, all_of, any_of}
use Rattle.c_erasure.specs.Scopes.{Scope, Entity, typedef, enumerator, a_local, a_parameter, ended}
use Rattle.c_erasure.specs.Scopes as Scopes
use Rattle.c_erasure.specs.Checking.Nodes.{null, valued, worth, named_in, array_of, array_of_type, element_in, index_to, turned_to, index_in, signature_of}
use Rattle.c_erasure.specs.Checking.Nodes.{signature_in, argument_in}
use Rattle.c_erasure.specs.Checking.Nodes.{call_through, call_in, field_from, field_in, member_to, member_of_type, dot_in, arrow_to, arrow_in, step_in}
use Rattle.c_erasure.specs.Checking.Nodes.{address_in}
use Rattle.c_erasure.specs.Checking.Nodes.{pointed_to}
use Rattle.c_erasure.specs.Checking.Nodes.{deref_in, unary_in, not_in, measured_type, is_complete, sized_or, sized_type, measured_in, cast_in}
use Rattle.c_erasure.specs.Checking.Nodes.{on_pointers, computed_in, compared_in, tested_in, binary_in, tested, chosen_in}
use Rattle.c_erasure.specs.Checking.Nodes.{Target, target_of_type, target_in, assigned_in, copied_in, updated_in, comma_in}
use Rattle.c_checking_laws.proofs.Agreement.{IsObjectType}
use Rattle.c_checking_laws.proofs.FaultResults.{bad, same_fault, chosen_err, unless_err, option_err}

-- ---- tests

pub either_false : (b c : Bool) → b ≡ false → c ≡ false → (b || c) ≡ false
either_false false false p q = refl
either_false true c p q = cc
either_false false true p q = cc

pub over : (n m : ℕ) → nat_le n m ≡ false → m < n
over n m h = grind (arith, nat_tests)

pub no_less : (n m : ℕ) → nat_lt n m ≡ false → m ≤ n
no_less n m h = grind (arith, nat_tests)

-- what so many records complete, more do
pub more_complete : (n m : ℕ) (t : CType) → n ≤ m → is_object n t ≡ true → is_object m t ≡ true
more_complete n m void l h = h
more_complete n m (integer kind) l h = h
more_complete n m (pointer t) l h = h
more_complete n m (array t k) l h =
    let b = and_parts (nat_lt 0 k) (is_object n t) h in and_from (nat_lt 0 k) (is_object m t) b.0 (more_complete n m t l b.1)
more_complete n m (function t all) l h = h
more_complete n m (structure k) l h = lt-ltb k m (omega (arith, l, ltb-true k n h))

-- where all that are complete are known
pub incomplete : (records : List Record) (count : ℕ) (t : CType) → count ≤ length records → is_complete records count t ≡ false → is_object count t ≡ false
incomplete records count t l h = by_test (is_object count t) refl h
  where
    by_test : (b : Bool) → is_object count t ≡ b → (b && is_object (length records) t) ≡ false → b ≡ false
    by_test true e h = let k = more_complete count (length records) t l e in cc
    by_test false e h = refl

-- ---- values: an object has a type of objects, complete or not

abbrev pub IsProper : Thing → Type 0
IsProper (an_object p) = IsObjectType (type_of_path p)
IsProper th = Unit {0}

no_value_of : (p : Path) (t : CType) → IsObjectType t → object_value p t ≡ None → is_record t ≡ true
no_value_of p (structure r) o h = refl
no_value_of p void o h = let f = o.1 in cc
no_value_of p (function t all) o h = let f = o.1 in cc
no_value_of p (integer kind) o h = cc
no_value_of p (pointer t) o h = cc
no_value_of p (array t n) o h = cc

pub worth_fault : (at : ℕ) (th : Thing) → IsProper th → (f : Fault) → worth at th ≡ Err f → (rule : Rule) × IsValueless th rule × (f ≡ ill_typed rule at)
unfolding worth
worth_fault at (an_object p) o f h = by_value (object_value p (type_of_path p)) refl h
  where
    by_value : (v : Option Expression) → object_value p (type_of_path p) ≡ v → valued at (an_object p) v ≡ Err f
        → (rule : Rule) × IsValueless (an_object p) rule × (f ≡ ill_typed rule at)
    by_value (Some x) e h = cc
    by_value None e h = (R.ByValue, (refl, no_value_of p (type_of_path p) o e), same_fault Expression (ill_typed R.ByValue at) f h)
worth_fault at (a_value e) o f h = cc
worth_fault at (a_function from n t) o f h = cc
worth_fault at (a_function_at e) o f h = cc
worth_fault at (a_library_function from which) o f h = (R.Library, refl, same_fault Expression (ill_typed R.Library at) f h)

-- ---- primary expressions (6.5.1)

pub named_fault : (at : Place) (x : List ℕ) (o : Option Entity) (f : Fault) → named_in at x o ≡ Err f
    → ((o ≡ None) × (f ≡ undeclared x at.at)) ⊎ ((t : CType) × (o ≡ Some (typedef t)) × (f ≡ ill_typed R.Operands at.at))
unfolding named_in
named_fault at x None f h = inl (refl, same_fault Thing (undeclared x at.at) f h)
named_fault at x (Some (typedef t)) f h = inr (t, refl, same_fault Thing (ill_typed R.Operands at.at) f h)
named_fault at x (Some (enumerator v)) f h = cc
named_fault at x (Some (Scopes.an_object n t)) f h = cc
named_fault at x (Some (Scopes.a_function n t)) f h = cc
named_fault at x (Some (Scopes.a_library_function which)) f h = cc
named_fault at x (Some (a_local n t)) f h = cc
named_fault at x (Some (a_parameter t)) f h = cc

-- ---- subscripts (6.5.2.1)

pub element_fault : (left : ℕ) (at : Place) (a : Path × CType) (i : Expression) (f : Fault) → element_in left at a i ≡ Err f
    → (f ≡ ill_typed R.Operands left) × (is_integer (type_of i) ≡ false)
unfolding element_in
element_fault left at a i f h = let b = unless_err (is_integer (type_of i)) _ _ _ f h in (b.1, b.0)

pub array_is : (th : Thing) (a : Path × CType) → array_of th ≡ Some a → IsArrayObject th
unfolding array_of
array_is (an_object p) a h = by_type (type_of_path p) h
  where
    by_type : (t : CType) → array_of_type p t ≡ Some a → is_array t ≡ true
    by_type (array t n) h = refl
    by_type void h = cc
    by_type (integer kind) h = cc
    by_type (pointer t) h = cc
    by_type (function t all) h = cc
    by_type (structure r) h = cc
array_is (a_value e) a h = cc
array_is (a_function from n t) a h = cc
array_is (a_function_at e) a h = cc
array_is (a_library_function from which) a h = cc

forward_fault : (count : ℕ) (at : Place) (x y : Expression) (t : CType) → points_to_object count t ≡ true → (f : Fault) → index_to at x y t ≡ Err f → ⊥
forward_fault count at x y (pointer t) p f h = cc
forward_fault count at x y void p f h = cc
forward_fault count at x y (integer kind) p f h = cc
forward_fault count at x y (array t n) p f h = cc
forward_fault count at x y (function t all) p f h = cc
forward_fault count at x y (structure r) p f h = cc

backward_fault : (count : ℕ) (at : Place) (x y : Expression) (t : CType) → points_to_object count t ≡ true → (f : Fault) → turned_to at x y t ≡ Err f → ⊥
backward_fault count at x y (pointer t) p f h = cc
backward_fault count at x y void p f h = cc
backward_fault count at x y (integer kind) p f h = cc
backward_fault count at x y (array t n) p f h = cc
backward_fault count at x y (function t all) p f h = cc
backward_fault count at x y (structure r) p f h = cc

pub index_fault : (count left : ℕ) (at : Place) (x y : Expression) (f : Fault) → index_in count left at x y ≡ Err f
    → (f ≡ ill_typed R.Operands left) × (is_subscript count (type_of x) (type_of y) ≡ false)
unfolding index_in
index_fault count left at x y f h =
    let a : Bool = points_to_object count (type_of x) && is_integer (type_of y) in
    let b : Bool = is_integer (type_of x) && points_to_object count (type_of y) in
    chosen_err a _ _ f ((f ≡ ill_typed R.Operands left) × (is_subscript count (type_of x) (type_of y) ≡ false)) h
    (λ p h. absurd (forward_fault count at x y (type_of x) (and_parts (points_to_object count (type_of x)) (is_integer (type_of y)) p).0 f h))
    (λ p h. chosen_err b _ _ f ((f ≡ ill_typed R.Operands left) × (is_subscript count (type_of x) (type_of y) ≡ false)) h
    (λ q h. absurd (backward_fault count at x y (type_of y) (and_parts (is_integer (type_of x)) (points_to_object count (type_of y)) q).1 f h))
    (λ q h. (same_fault Thing (ill_typed R.Operands left) f h, either_false a b p q)))

-- ---- calls (6.5.2.2)

pub signature_fault : (at : ℕ) (th : Thing) (f : Fault) → signature_in at th ≡ Err f → (f ≡ ill_typed R.Callee at) × IsNoFunction (called_type th)
unfolding signature_in
signature_fault at th f h = by_type (called_type th) h
  where
    refused_so : (o : Option CType) → IsNoFunction o → bad (CTypes × CType) (ill_typed R.Callee at) ≡ Err f → (f ≡ ill_typed R.Callee at) × IsNoFunction o
    refused_so o n h = (same_fault (CTypes × CType) (ill_typed R.Callee at) f h, n)

    by_type : (o : Option CType) → signature_of at o ≡ Err f → (f ≡ ill_typed R.Callee at) × IsNoFunction o
    by_type None h = refused_so None tt h
    by_type (Some void) h = refused_so (Some void) tt h
    by_type (Some (integer kind)) h = refused_so (Some (integer kind)) tt h
    by_type (Some (pointer t)) h = refused_so (Some (pointer t)) tt h
    by_type (Some (array t n)) h = refused_so (Some (array t n)) tt h
    by_type (Some (structure r)) h = refused_so (Some (structure r)) tt h
    by_type (Some (function t all)) h = cc

pub argument_fault : (at : ℕ) (t : CType) (x : Expression) (f : Fault) → argument_in at t x ≡ Err f
    → (f ≡ ill_typed R.Arguments at) × (assigns (type_of x) (null x) t ≡ false)
unfolding argument_in
argument_fault at t x f h = let b = unless_err (assigns (type_of x) (null x) t) _ _ _ f h in (b.1, b.0)

-- what has a signature is called
pub call_fault : (at : Place) (th : Thing) (t : CType) (all : Typed.Expressions Noted) (u : CType) → called_type th ≡ Some u → (f : Fault)
    → call_in at th t all ≡ Err f → ⊥
unfolding call_in
call_fault at (a_function from n u) t all v c f h = cc
call_fault at (a_library_function from which) t all v c f h = cc
call_fault at (a_value e) t all v c f h = cc
call_fault at (a_function_at e) t all v c f h = cc
call_fault at (an_object p) t all v c f h = by_type (type_of_path p) c h
  where
    by_type : (w : CType) → pointed_type w ≡ Some v → call_through t at all (object_value p w) ≡ Err f → ⊥
    by_type (pointer w) c h = cc
    by_type void c h = cc
    by_type (integer kind) c h = cc
    by_type (array w n) c h = cc
    by_type (function w l) c h = cc
    by_type (structure r) c h = cc

-- ---- members (6.5.2.3)

no_field : (k : ℕ) (all : List Field) (x : List ℕ) → field_from k all x ≡ None → has_field all x ≡ false
no_field k [] x h = refl
no_field k (f ∷ more) x h = by_test (bytes_eq f.name x) (λ h. no_field (k + 1) more x h) h
  where
    by_test : (b : Bool) → (field_from (k + 1) more x ≡ None → has_field more x ≡ false) → cond b (Some (k, f.ty)) (field_from (k + 1) more x) ≡ None
        → (b || has_field more x) ≡ false
    by_test true later h = cc
    by_test false later h = later h

there_is : {X : Type 0} (all : List X) (k : ℕ) → k < length all → slice_get all k ≡ None → ⊥
there_is [] k l h = absurd (omega (arith, l))
there_is (x ∷ all) zero l h = cc
there_is (x ∷ all) (suc k) l h = there_is all k (omega (arith, l)) h

-- `at` is where records are looked for, `named` where the field's name stands
abbrev Memberless : Scope → (at named : ℕ) → CType → List ℕ → Fault → Type 0
Memberless s at named t x f = (rule : Rule) × IsMemberless s at t x rule × (f ≡ ill_typed rule named)

member_fault : (s : Scope) (at named : ℕ) (place : Place) (p : Path) (t : CType) (x : List ℕ) → ended s.file.ends at ≤ length s.file.records → (f : Fault)
    → member_of_type s.file.records (ended s.file.ends at) named place p t x ≡ Err f → (rule : Rule) × IsMemberless s at t x rule × (f ≡ ill_typed rule named)
member_fault s at named place p void x l f h = (R.Member, refl, same_fault Thing (ill_typed R.Member named) f h)
member_fault s at named place p (integer kind) x l f h = (R.Member, refl, same_fault Thing (ill_typed R.Member named) f h)
member_fault s at named place p (pointer t) x l f h = (R.Member, refl, same_fault Thing (ill_typed R.Member named) f h)
member_fault s at named place p (array t n) x l f h = (R.Member, refl, same_fault Thing (ill_typed R.Member named) f h)
member_fault s at named place p (function t all) x l f h = (R.Member, refl, same_fault Thing (ill_typed R.Member named) f h)
member_fault s at named place p (structure r) x l f h =
    chosen_err (is_object (ended s.file.ends at) (structure r)) _ _ f (Memberless s at named (structure r) x f) h
    (λ b h. by_record b (slice_get s.file.records r) refl h)
    (λ b h. (R.Incomplete, inl (refl, b), same_fault Thing (ill_typed R.Incomplete named) f h))
  where
    by_field : is_object (ended s.file.ends at) (structure r) ≡ true → (rec : Record) → slice_get s.file.records r ≡ Some rec
        → (o : Option (ℕ × CType)) → field_from 0 rec.fields x ≡ o → member_to named place p r o ≡ Err f → Memberless s at named (structure r) x f
    by_field b rec e (Some z) w h = cc
    by_field b rec e None w h = (R.Member, inr (rec, refl, b, e, no_field 0 rec.fields x w), same_fault Thing (ill_typed R.Member named) f h)

    by_record : is_object (ended s.file.ends at) (structure r) ≡ true → (o : Option Record) → slice_get s.file.records r ≡ o
        → member_to named place p r (field_in o x) ≡ Err f → Memberless s at named (structure r) x f
    by_record b (Some rec) e h = by_field b rec e (field_from 0 rec.fields x) refl h
    by_record b None e h = absurd (there_is s.file.records r (omega (arith, l, ltb-true r (ended s.file.ends at) b)) e)

pub dot_fault : (s : Scope) (at named : ℕ) (place : Place) (th : Thing) (x : List ℕ) → ended s.file.ends at ≤ length s.file.records → (f : Fault)
    → dot_in s.file.records (ended s.file.ends at) named place th x ≡ Err f → (rule : Rule) × NoMemberOf s at th x rule × (f ≡ misplaced th rule named place.at)
unfolding dot_in
dot_fault s at named place (an_object p) x l f h = member_fault s at named place p (type_of_path p) x l f h
dot_fault s at named place (a_value e) x l f h = (R.Member, refl, same_fault Thing (misplaced (a_value e) R.Member named place.at) f h)
dot_fault s at named place (a_function from n t) x l f h = (R.Member, refl, same_fault Thing (ill_typed R.Member named) f h)
dot_fault s at named place (a_function_at e) x l f h = (R.Member, refl, same_fault Thing (ill_typed R.Member named) f h)
dot_fault s at named place (a_library_function from which) x l f h = (R.Member, refl, same_fault Thing (ill_typed R.Member named) f h)

pub arrow_fault : (s : Scope) (at named : ℕ) (place : Place) (e : Expression) (x : List ℕ) → ended s.file.ends at ≤ length s.file.records → (f : Fault)
    → arrow_in s.file.records (ended s.file.ends at) named place e x ≡ Err f
    → (rule : Rule) × NoMemberAt s at (type_of e) x rule × (f ≡ ill_typed rule named)
unfolding arrow_in
arrow_fault s at named place e x l f h = by_type (type_of e) h
  where
    by_type : (t : CType) → arrow_to s.file.records (ended s.file.ends at) named place e t x ≡ Err f
        → (rule : Rule) × NoMemberAt s at t x rule × (f ≡ ill_typed rule named)
    by_type (pointer t) h = member_fault s at named place _ t x l f h
    by_type void h = (R.Member, refl, same_fault Thing (ill_typed R.Member named) f h)
    by_type (integer kind) h = (R.Member, refl, same_fault Thing (ill_typed R.Member named) f h)
    by_type (array t n) h = (R.Member, refl, same_fault Thing (ill_typed R.Member named) f h)
    by_type (function t all) h = (R.Member, refl, same_fault Thing (ill_typed R.Member named) f h)
    by_type (structure r) h = (R.Member, refl, same_fault Thing (ill_typed R.Member named) f h)

-- ---- unary operators (6.5.2.4, 6.5.3)

pub step_fault : (count from op_at : ℕ) (at : Place) (op : StepOp) (before : Bool) (th : Thing) (f : Fault) → step_in count from op_at at op before th ≡ Err f
    → ((f ≡ ill_typed R.Lvalue from) × IsNoObject th)
    ⊎ ((t : CType) × (f ≡ ill_typed R.Operands op_at) × IsObjectOf th t × (is_stepped count t ≡ false))
unfolding step_in
step_fault count from op_at at op before (an_object p) f h =
    let b = unless_err (is_stepped count (type_of_path p)) _ _ _ f h in inr (type_of_path p, b.1, refl, b.0)
step_fault count from op_at at op before (a_value e) f h = inl (same_fault Thing (ill_typed R.Lvalue from) f h, tt)
step_fault count from op_at at op before (a_function f_at n t) f h = inl (same_fault Thing (ill_typed R.Lvalue from) f h, tt)
step_fault count from op_at at op before (a_function_at e) f h = inl (same_fault Thing (ill_typed R.Lvalue from) f h, tt)
step_fault count from op_at at op before (a_library_function f_at which) f h = inl (same_fault Thing (ill_typed R.Lvalue from) f h, tt)

pub address_fault : (from : ℕ) (at : Place) (th : Thing) (f : Fault) → address_in from at th ≡ Err f
    → ((f ≡ too_big at.at) × IsOfGreatestType th) ⊎ (IsOnlyValue th × (f ≡ misplaced th R.Lvalue at.at from)) ⊎ ((f ≡ ill_typed R.Library from) × IsLibrary th)
unfolding address_in
address_fault from at (an_object p) f h =
    chosen_err (nat_lt (parts (type_of_path p)) 1024) _ _ f _ h (λ b h. cc)
    (λ b h. inl (same_fault Thing (too_big at.at) f h, no_less (parts (type_of_path p)) 1024 b))
address_fault from at (a_function f_at n t) f h = cc
address_fault from at (a_function_at e) f h = cc
address_fault from at (a_value e) f h = inr (inl (tt, same_fault Thing (misplaced (a_value e) R.Lvalue at.at from) f h))
address_fault from at (a_library_function f_at which) f h = inr (inr (same_fault Thing (ill_typed R.Library from) f h, tt))

pub deref_fault : (count : ℕ) (at : Place) (x : Expression) (f : Fault) → deref_in count at x ≡ Err f
    → (rule : Rule) × (f ≡ ill_typed rule at.at) × IsPointless count (type_of x) rule
unfolding deref_in
deref_fault count at x f h = by_type (type_of x) h
  where
    by_type : (t : CType) → pointed_to count at x t ≡ Err f → (rule : Rule) × (f ≡ ill_typed rule at.at) × IsPointless count t rule
    by_type (pointer t) h =
        chosen_err (is_function t) _ _ f ((rule : Rule) × (f ≡ ill_typed rule at.at) × IsPointless count (pointer t) rule) h (λ b h. cc)
        (λ b h. let c = unless_err (is_object count t) _ _ _ f h in (R.Incomplete, c.1, (refl, either_false (is_object count t) (is_function t) c.0 b)))
    by_type void h = (R.Operands, same_fault Thing (ill_typed R.Operands at.at) f h, refl)
    by_type (integer kind) h = (R.Operands, same_fault Thing (ill_typed R.Operands at.at) f h, refl)
    by_type (array t n) h = (R.Operands, same_fault Thing (ill_typed R.Operands at.at) f h, refl)
    by_type (function t all) h = (R.Operands, same_fault Thing (ill_typed R.Operands at.at) f h, refl)
    by_type (structure r) h = (R.Operands, same_fault Thing (ill_typed R.Operands at.at) f h, refl)

pub unary_fault : (at : Place) (op : UnaryOp) (x : Expression) (f : Fault) → unary_in at op x ≡ Err f
    → (f ≡ ill_typed R.Operands at.at) × (is_integer (type_of x) ≡ false)
unfolding unary_in
unary_fault at op x f h = let b = unless_err (is_integer (type_of x)) _ _ _ f h in (b.1, b.0)

pub not_fault : (at : Place) (x : Expression) (f : Fault) → not_in at x ≡ Err f → (f ≡ ill_typed R.Operands at.at) × (is_scalar (type_of x) ≡ false)
unfolding not_in
not_fault at x f h = let b = unless_err (is_scalar (type_of x)) _ _ _ f h in (b.1, b.0)

-- ---- `sizeof` and casts (6.5.3.4, 6.5.4)

sized_or_fault : (records : List Record) (count at : ℕ) (sizeless : Fault) (t : CType) → count ≤ length records → (f : Fault)
    → sized_or records count at sizeless t ≡ Err f
    → ((f ≡ sizeless) × (is_object count t ≡ false)) ⊎ ((f ≡ too_big at) × (16777216 < size_of records t))
sized_or_fault records count at sizeless t l f h =
    chosen_err (is_complete records count t) _ _ f _ h
    (λ b h. chosen_err (nat_le (size_of records t) 16777216) _ _ f _ h (λ c h. cc)
    (λ c h. inr (same_fault CType (too_big at) f h, over (size_of records t) 16777216 c)))
    (λ b h. inl (same_fault CType sizeless f h, incomplete records count t l b))

pub sized_fault : (records : List Record) (count at : ℕ) (t : CType) → count ≤ length records → (f : Fault) → sized_type records count at t ≡ Err f
    → ((f ≡ ill_typed R.Incomplete at) × (is_object count t ≡ false)) ⊎ ((f ≡ too_big at) × (16777216 < size_of records t))
unfolding sized_type
sized_fault records count at t l f h = sized_or_fault records count at (ill_typed R.Incomplete at) t l f h

abbrev Unmeasured : List Record → (count at from : ℕ) → Thing → Fault → Type 0
Unmeasured records count at from th f = (IsSizeless count th × (f ≡ misplaced th R.Incomplete at from))
    ⊎ ((f ≡ too_big at) × ((t : CType) × IsOfType th t × (16777216 < size_of records t)))

unmeasured : (records : List Record) (count at from : ℕ) (th : Thing) (t : CType) → (is_object count t ≡ false → IsSizeless count th) → IsOfType th t
    → count ≤ length records → (f : Fault) → sized_or records count at (misplaced th R.Incomplete at from) t ≡ Err f → Unmeasured records count at from th f
unmeasured records count at from th t sizeless is l f h = by_rule (sized_or_fault records count at (misplaced th R.Incomplete at from) t l f h)
  where
    by_rule : ((f ≡ misplaced th R.Incomplete at from) × (is_object count t ≡ false)) ⊎ ((f ≡ too_big at) × (16777216 < size_of records t))
        → Unmeasured records count at from th f
    by_rule (inl b) = inl (sizeless b.1, b.0)
    by_rule (inr b) = inr (b.0, (t, is, b.1))

pub measured_fault : (records : List Record) (count at from : ℕ) (th : Thing) → count ≤ length records → (f : Fault)
    → measured_in records count at from th ≡ Err f → Unmeasured records count at from th f
unfolding measured_in measured_type
measured_fault records count at from (an_object p) l f h = unmeasured records count at from (an_object p) (type_of_path p) (λ e. e) refl l f h
measured_fault records count at from (a_value e) l f h = unmeasured records count at from (a_value e) (type_of e) (λ e. e) refl l f h
measured_fault records count at from (a_function f_at n t) l f h = inl (tt, same_fault CType (ill_typed R.Incomplete at) f h)
measured_fault records count at from (a_function_at e) l f h = inl (tt, same_fault CType (ill_typed R.Incomplete at) f h)
measured_fault records count at from (a_library_function f_at which) l f h = inl (tt, same_fault CType (ill_typed R.Incomplete at) f h)

pub cast_fault : (at : Place) (t : CType) (x : Expression) (f : Fault) → cast_in at t x ≡ Err f
    → (f ≡ ill_typed R.Cast at.at) × (casts (type_of x) (null x) t ≡ false)
unfolding cast_in
cast_fault at t x f h = let b = unless_err (casts (type_of x) (null x) t) _ _ _ f h in (b.1, b.0)

-- ---- binary operators (6.5.5 to 6.5.14)

abbrev Unfit : (count op_at : ℕ) → Kind → Expression → Expression → Fault → Type 0
Unfit count op_at kind x y f = (f ≡ ill_typed R.Operands op_at) × AreUnfit count kind x y

pointers_fault : (count op_at : ℕ) (at : Place) (op : BinaryOp) (x y : Expression) → on_numbers op (type_of x) (type_of y) ≡ None → (f : Fault)
    → on_pointers count op_at at op x y ≡ Err f → Unfit count op_at (computes op) x y f
pointers_fault count op_at at B.Add x y n f h =
    option_err (moving count (type_of x) (type_of y)) _ _ f (Unfit count op_at (computes B.Add) x y f) h (λ t e h. cc)
    (λ m h. option_err (moving count (type_of y) (type_of x)) _ _ f (Unfit count op_at (computes B.Add) x y f) h (λ t e h. cc)
    (λ k h. (same_fault Thing (ill_typed R.Operands op_at) f h, (n, m, k))))
pointers_fault count op_at at B.Subtract x y n f h =
    option_err (moving count (type_of x) (type_of y)) _ _ f (Unfit count op_at (computes B.Subtract) x y f) h (λ t e h. cc)
    (λ m h. let b = unless_err (differing count (type_of x) (type_of y)) _ _ _ f h in (b.1, (n, m, b.0)))
pointers_fault count op_at at B.Multiply x y n f h = (same_fault Thing (ill_typed R.Operands op_at) f h, n)
pointers_fault count op_at at B.Divide x y n f h = (same_fault Thing (ill_typed R.Operands op_at) f h, n)
pointers_fault count op_at at B.Remainder x y n f h = (same_fault Thing (ill_typed R.Operands op_at) f h, n)
pointers_fault count op_at at B.ShiftLeft x y n f h = (same_fault Thing (ill_typed R.Operands op_at) f h, n)
pointers_fault count op_at at B.ShiftRight x y n f h = (same_fault Thing (ill_typed R.Operands op_at) f h, n)
pointers_fault count op_at at B.BitAnd x y n f h = (same_fault Thing (ill_typed R.Operands op_at) f h, n)
pointers_fault count op_at at B.BitXor x y n f h = (same_fault Thing (ill_typed R.Operands op_at) f h, n)
pointers_fault count op_at at B.BitOr x y n f h = (same_fault Thing (ill_typed R.Operands op_at) f h, n)

pub binary_fault : (count op_at : ℕ) (at : Place) (kind : Kind) (x y : Expression) (f : Fault) → binary_in count op_at at kind x y ≡ Err f
    → Unfit count op_at kind x y f
unfolding computed_in compared_in tested_in
binary_fault count op_at at (computes op) x y f h =
    option_err (on_numbers op (type_of x) (type_of y)) _ _ f (Unfit count op_at (computes op) x y f) h (λ t e h. cc)
    (λ n h. pointers_fault count op_at at op x y n f h)
binary_fault count op_at at (compares op) x y f h =
    option_err (comparing op (type_of x) (null x) (type_of y) (null y)) _ _ f (Unfit count op_at (compares op) x y f) h (λ t e h. cc)
    (λ n h. (same_fault Thing (ill_typed R.Operands op_at) f h, n))
binary_fault count op_at at all_of x y f h = let b = unless_err (is_scalar (type_of x) && is_scalar (type_of y)) _ _ _ f h in (b.1, b.0)
binary_fault count op_at at any_of x y f h = let b = unless_err (is_scalar (type_of x) && is_scalar (type_of y)) _ _ _ f h in (b.1, b.0)

-- ---- `?:`, assignments and the comma (6.5.15 to 6.5.17)

pub tested_fault : (at : ℕ) (x : Expression) (f : Fault) → tested at x ≡ Err f → (f ≡ ill_typed R.Operands at) × (is_scalar (type_of x) ≡ false)
unfolding tested
tested_fault at x f h = let b = unless_err (is_scalar (type_of x)) _ _ _ f h in (b.1, b.0)

pub chosen_fault : (colon : ℕ) (at : Place) (x y z : Expression) (f : Fault) → chosen_in colon at x y z ≡ Err f
    → (f ≡ ill_typed R.Operands colon) × (choosing (type_of y) (null y) (type_of z) (null z) ≡ None)
unfolding chosen_in
chosen_fault colon at x y z f h =
    option_err (choosing (type_of y) (null y) (type_of z) (null z)) _ _ f _ h (λ t e h. cc) (λ n h. (same_fault Thing (ill_typed R.Operands colon) f h, n))

pub target_fault : (from : ℕ) (th : Thing) (f : Fault) → target_in from th ≡ Err f → (f ≡ ill_typed R.Lvalue from) × IsNotAssigned th
unfolding target_in
target_fault from (an_object p) f h = by_type (type_of_path p) h
  where
    by_type : (t : CType) → target_of_type from p t ≡ Err f → (f ≡ ill_typed R.Lvalue from) × ((is_scalar t || is_record t) ≡ false)
    by_type (integer kind) h = cc
    by_type (pointer t) h = cc
    by_type (structure r) h = cc
    by_type void h = (same_fault Target (ill_typed R.Lvalue from) f h, refl)
    by_type (array t n) h = (same_fault Target (ill_typed R.Lvalue from) f h, refl)
    by_type (function t all) h = (same_fault Target (ill_typed R.Lvalue from) f h, refl)
target_fault from (a_value e) f h = (same_fault Target (ill_typed R.Lvalue from) f h, tt)
target_fault from (a_function f_at n t) f h = (same_fault Target (ill_typed R.Lvalue from) f h, tt)
target_fault from (a_function_at e) f h = (same_fault Target (ill_typed R.Lvalue from) f h, tt)
target_fault from (a_library_function f_at which) f h = (same_fault Target (ill_typed R.Lvalue from) f h, tt)

pub assigned_fault : (op_at : ℕ) (at : Place) (p : Path) (x : Expression) (f : Fault) → assigned_in op_at at p x ≡ Err f
    → (f ≡ ill_typed R.Assign op_at) × (assigns (type_of x) (null x) (type_of_path p) ≡ false)
unfolding assigned_in
assigned_fault op_at at p x f h = let b = unless_err (assigns (type_of x) (null x) (type_of_path p)) _ _ _ f h in (b.1, b.0)

pub copied_fault : (op_at from : ℕ) (at : Place) (p : Path) (th : Thing) (f : Fault) → copied_in op_at from at p th ≡ Err f
    → IsNoRecord th (type_of_path p) × (f ≡ misplaced th R.Assign op_at from)
unfolding copied_in
copied_fault op_at from at p (an_object q) f h =
    let b = unless_err (same_type (type_of_path q) (type_of_path p)) _ _ _ f h in
    (λ e. let g = same_self (type_of_path q) (type_of_path p) e in let c = b.0 in cc, b.1)
copied_fault op_at from at p (a_value e) f h = (tt, same_fault Thing (misplaced (a_value e) R.Assign op_at from) f h)
copied_fault op_at from at p (a_function f_at n t) f h = (tt, same_fault Thing (ill_typed R.Assign op_at) f h)
copied_fault op_at from at p (a_function_at e) f h = (tt, same_fault Thing (ill_typed R.Assign op_at) f h)
copied_fault op_at from at p (a_library_function f_at which) f h = (tt, same_fault Thing (ill_typed R.Assign op_at) f h)

pub updated_fault : (count op_at : ℕ) (at : Place) (op : BinaryOp) (p : Path) (x : Expression) (f : Fault) → updated_in count op_at at op p x ≡ Err f
    → (f ≡ ill_typed R.Operands op_at) × (updating count op (type_of_path p) (type_of x) ≡ None)
unfolding updated_in
updated_fault count op_at at op p x f h =
    option_err (updating count op (type_of_path p) (type_of x)) _ _ f _ h (λ t e h. cc) (λ n h. (same_fault Thing (ill_typed R.Operands op_at) f h, n))

pub comma_fault : (at : Place) (x y : Expression) (f : Fault) → comma_in at x y ≡ Err f → ⊥
unfolding comma_in
comma_fault at x y f h = cc
