-- Expressions that are well typed, and some that are not (C99 6.5), in the scope of
--     struct S { int x; struct S *next; };
--     void f(struct S *p, int a[3], int i, long l, void *v, char c) with `a` an array object
use Rattle.std.proofs.Common.{refl, ap, inl, inr}
use Rattle.std.specs.Prelude.{◌≡◌, ℕ, List, [], ◌∷◌, true, false, Option, Some, None}
use Rattle.lay_base.specs.declared.place.Place.{Place}
use Rattle.c_types.specs.declared.ty.IntKind.TheVariants.{Char, Int, UInt, Long}
use Rattle.c_types.specs.Types.{CType, void, integer, pointer, array, function, structure, no_types, and_type, Field, Record}
use Rattle.c_typed.specs.declared.operators.BinaryOp.TheVariants.{Add, Subtract, ShiftLeft}
use Rattle.c_typed.specs.declared.operators.CompareOp.TheVariants.{Equal, Less}
use Rattle.c_typed.specs.declared.operators.PointerOp.TheVariants as P
use Rattle.c_typed.specs.declared.operators.LibraryFunction.TheVariants.{Malloc}
use Rattle.c_typed.specs.Trees
use Rattle.c_typed.specs.Typed.{Declared, IsTyped, IsTypedPath}

abbrev int : CType
int = integer Int

abbrev long : CType
long = integer Long

abbrev at : Place
at = record { file = 0; at = 100 }

abbrev field : List ℕ → CType → Field
field x t = record { name = x; ty = t; place = at }

abbrev s : Record
s = record { tag = 83 ∷ []; place = at; fields = field (120 ∷ []) int ∷ field (110 ∷ []) (pointer (structure 0)) ∷ [] }

abbrev here : Declared
here = record {
  records = s ∷ [];
  complete = λ byte. 1;
  locals = pointer (structure 0) ∷ array int 3 ∷ int ∷ long ∷ pointer void ∷ integer Char ∷ pointer int ∷ [];
  objects = [];
  functions = function int (and_type (integer Char) no_types) ∷ [];
}

abbrev Exp : Type 0
Exp = Trees.Expression CType

abbrev Way : Type 0
Way = Trees.Path CType

abbrev node : CType → Trees.Node CType → Exp
node t n = Trees.expression t at n

abbrev way : CType → Trees.PathNode CType → Way
way t n = Trees.path t at n

abbrev number : ℕ → Exp
number v = node int (Trees.constant v)

abbrev to : CType → Exp → Exp
to t e = node t (Trees.convert e false)

abbrev p : Way
p = way (pointer (structure 0)) (Trees.local 0)

abbrev a : Way
a = way (array int 3) (Trees.local 1)

abbrev i : Way
i = way int (Trees.local 2)

abbrev l : Way
l = way long (Trees.local 3)

abbrev v : Way
v = way (pointer void) (Trees.local 4)

abbrev c : Way
c = way (integer Char) (Trees.local 5)

abbrev q : Way
q = way (pointer int) (Trees.local 6)

abbrev load : CType → Way → Exp
load t w = node t (Trees.load w)

abbrev the_p : Exp
the_p = load (pointer (structure 0)) p

abbrev the_i : Exp
the_i = load int i

abbrev the_q : Exp
the_q = load (pointer int) q

abbrev decayed : Exp
decayed = node (pointer int) (Trees.decay a)

-- ---- well typed

-- 72 - 3 - 4
difference : IsTyped here (node int (Trees.binary Subtract (node int (Trees.binary Subtract (number 72) (number 3))) (number 4)))
difference = (((Int, refl, refl), (Int, refl, refl), refl, refl), (Int, refl, refl), refl, refl)

-- p->next
next : IsTyped here (load (pointer (structure 0)) (way (pointer (structure 0)) (Trees.member (way (structure 0) (Trees.deref the_p)) 0 1)))
next = ((((refl, refl, refl, refl), refl, refl, refl), refl, refl), refl, refl, refl)

-- a[i], with `a` an array, and a[c], whose subscript is promoted
element : IsTypedPath here (way int (Trees.element a the_i))
element = (refl, (refl, refl, refl, refl), refl, refl)

element_by_character : IsTypedPath here (way int (Trees.element a (to int (load (integer Char) c))))
element_by_character = (refl, ((refl, refl, refl, refl), refl, (λ e. cc), refl), refl, refl)

-- q[i], with `q` a pointer
subscripted : IsTypedPath here (way int (Trees.index the_q the_i))
subscripted = ((refl, refl, refl, refl), (refl, refl, refl, refl), refl, refl, refl, refl, refl)

-- *q, &*p, &a
target : IsTypedPath here (way int (Trees.deref the_q))
target = ((refl, refl, refl, refl), refl, refl, refl)

address : IsTyped here (node (pointer (structure 0)) (Trees.address_of (way (structure 0) (Trees.deref the_p))))
address = (((refl, refl, refl, refl), refl, refl, refl), refl)

array_address : IsTyped here (node (pointer (array int 3)) (Trees.address_of a))
array_address = (refl, refl)

-- i += 1L, computed as long; i <<= c
update : IsTyped here (node int (Trees.assign_op Add i (node long (Trees.constant 1))))
update = (refl, (Long, refl, refl), refl, refl)

shift_update : IsTyped here (node int (Trees.assign_op ShiftLeft i (to int (load (integer Char) c))))
shift_update = (refl, ((refl, refl, refl, refl), refl, (λ e. cc), refl), refl, refl)

-- q - q, a - q, q + i, i + q
pointer_difference : IsTyped here (node int (Trees.pointer_difference the_q the_q))
pointer_difference = ((refl, refl, refl, refl), (refl, refl, refl, refl), refl, refl, refl, refl)

array_difference : IsTyped here (node int (Trees.pointer_difference decayed the_q))
array_difference = ((refl, refl, refl), (refl, refl, refl, refl), refl, refl, refl, refl)

forward : IsTyped here (node (pointer int) (Trees.pointer_add P.Add the_q the_i))
forward = ((refl, refl, refl, refl), (refl, refl, refl, refl), inl (refl, refl, refl))

forward_turned : IsTyped here (node (pointer int) (Trees.pointer_add P.Add the_i the_q))
forward_turned = ((refl, refl, refl, refl), (refl, refl, refl, refl), inr (refl, refl, refl))

-- i ? p : 0
choice : IsTyped here (node (pointer (structure 0)) (Trees.choose the_i the_p (to (pointer (structure 0)) (number 0))))
choice = ((refl, refl, refl, refl), (refl, refl, refl, refl), ((Int, refl, refl), refl, (λ e. cc), refl), (refl, refl), refl, refl, refl)

-- p == (void *)0: the null pointer constant is converted
null_test : IsTyped here (node int (Trees.compare Equal the_p (to (pointer (structure 0)) (node (pointer void) (Trees.convert (number 0) true)))))
null_test = ((refl, refl, refl, refl), (((Int, refl, refl), refl, refl), refl, (λ e. cc), refl), refl, refl, refl)

-- p = v, where void * is converted; p = malloc(8u)
assigned : IsTyped here (node (pointer (structure 0)) (Trees.assign p (to (pointer (structure 0)) (load (pointer void) v))))
assigned = (refl, ((refl, refl, refl, refl), refl, (λ e. cc), refl), refl, refl, (refl, refl))

allocated : IsTyped here (node (pointer (structure 0)) (Trees.assign p (to (pointer (structure 0))
    (node (pointer void) (Trees.library Malloc (Trees.and_expression (node (integer UInt) (Trees.constant 8)) Trees.no_expressions))))))
allocated = (refl, ((and_type (integer UInt) no_types, refl, ((UInt, refl, refl), (refl, refl), tt)), refl, (λ e. cc), refl), refl, refl, (refl, refl))

-- *p = *p, which has no value
copied : IsTyped here (node void (Trees.copy_record (way (structure 0) (Trees.deref the_p)) (way (structure 0) (Trees.deref the_p))))
copied = (((refl, refl, refl, refl), refl, refl, refl), ((refl, refl, refl, refl), refl, refl, refl), refl, refl, (0, refl))

-- g(i), of int g(char)
called : IsTyped here (node int (Trees.call 0 (Trees.and_expression (to (integer Char) the_i) Trees.no_expressions)))
called = (and_type (integer Char) no_types, refl, (((refl, refl, refl, refl), refl, (λ e. cc), refl), (refl, refl), tt))

-- ---- ill typed: a conversion is missing, or one is too many

-- c + i, where c is not promoted
unpromoted : IsTyped here (node int (Trees.binary Add (load (integer Char) c) the_i)) → ⊥
unpromoted w = cc (w.3)

-- i + 1L as int
abbrev kind_left : Option (CType × CType) → CType
kind_left None = void
kind_left (Some types) = types.0

not_common : IsTyped here (node int (Trees.binary Add the_i (node long (Trees.constant 1)))) → ⊥
not_common w = let e : long ≡ int = ap kind_left w.2 in cc

-- i + i, where the left one is converted to its own type
converted_to_itself : IsTyped here (to int the_i) → ⊥
converted_to_itself w = w.2 refl

-- a conversion over a conversion
twice : IsTyped here (to int (to (integer Char) the_i)) → ⊥
twice w = let e : false ≡ true = w.1 in cc

-- ---- ill typed: no rule allows it

-- p + p, p * .., *v, *i
pointer_sum : IsTyped here (node (pointer int) (Trees.pointer_add P.Add the_q the_q)) → ⊥
pointer_sum (x, y, inl m) = let e : None ≡ Some (pointer int) = m.1 in cc
pointer_sum (x, y, inr m) = let e : None ≡ Some (pointer int) = m.1 in cc

void_target : (t : CType) → IsTypedPath here (way t (Trees.deref (load (pointer void) v))) → ⊥
void_target void w = let e : false ≡ true = w.3 in cc
void_target (integer kind) w = let e : Some void ≡ Some (integer kind) = w.2 in cc
void_target (pointer t) w = let e : Some void ≡ Some (pointer t) = w.2 in cc
void_target (array t n) w = let e : Some void ≡ Some (array t n) = w.2 in cc
void_target (function t all) w = let e : Some void ≡ Some (function t all) = w.2 in cc
void_target (structure r) w = let e : Some void ≡ Some (structure r) = w.2 in cc

number_target : (t : CType) → IsTypedPath here (way t (Trees.deref the_i)) → ⊥
number_target t w = let e : None ≡ Some t = w.2 in cc

-- i = p, p = i, a = a
pointer_as_number : IsTyped here (node int (Trees.assign i (to int the_p))) → ⊥
pointer_as_number w = let e : false ≡ true = w.4.0 in cc

number_as_pointer : IsTyped here (node (pointer (structure 0)) (Trees.assign p (to (pointer (structure 0)) the_i))) → ⊥
number_as_pointer w = let e : false ≡ true = w.4.0 in cc

array_assigned : (x : Exp) → IsTyped here (node (array int 3) (Trees.assign a x)) → ⊥
array_assigned x w = let e : false ≡ true = w.2 in cc

-- p < 0
ordered_by_null : (t : CType) → IsTyped here (node int (Trees.compare Less the_p (to t (number 0)))) → ⊥
ordered_by_null t w = let e : None ≡ Some (pointer (structure 0)) = w.2 in cc

-- g(): an argument is missing
too_few : IsTyped here (node int (Trees.call 0 Trees.no_expressions)) → ⊥
too_few (and_type t no_types, e, w) = w
too_few (no_types, e, w) = cc
too_few (and_type t (and_type u more), e, w) = w

-- a field that the record has not
no_field : (t : CType) → IsTypedPath here (way t (Trees.member (way (structure 0) (Trees.deref the_p)) 0 2)) → ⊥
no_field t w = let e : None ≡ Some t = w.2 in cc

-- an array subscripted as a pointer
decayed_subscript : (t : CType) → IsTypedPath here (way t (Trees.index decayed the_i)) → ⊥
decayed_subscript t w = let e : true ≡ false = w.3 in cc

-- a record that is loaded
loaded_record : IsTyped here (load (structure 0) (way (structure 0) (Trees.deref the_p))) → ⊥
loaded_record w = let e : false ≡ true = w.1 in cc
