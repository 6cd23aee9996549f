-- Typed trees of expressions (C99 6.5), in the scope of
--     struct S { int x; struct S *next; };
--     void f(struct S *p, int a[3], int i, long l, void *v, char c, int *q)
-- with `a` an array object.
use Rattle.std.proofs.Common.{refl, sym, subst, inl, inr, arith}
use Rattle.std.specs.Prelude.{◌≡◌, ℕ, ◌+◌, List, [], ◌∷◌, true, false, Some, codes}
use Rattle.lay_base.specs.declared.place.Place.{Place}
use Rattle.c_types.specs.declared.ty.IntKind.TheVariants.{Char, Int, UInt, Long}
use Rattle.c_types.specs.Types.{CType, void, integer, pointer, array, function, structure, no_types, Field, Record}
use Rattle.c_tokens.specs.QuotedScan.{string_bytes}
use Rattle.c_ast.specs.declared.operators.BinaryOp.TheVariants as O
use Rattle.c_ast.specs.declared.operators.UnaryOp.TheVariants as U
use Rattle.c_ast.specs.Trees
use Rattle.c_typed.specs.declared.operators.BinaryOp.TheVariants.{Add, Subtract}
use Rattle.c_typed.specs.declared.operators.PointerOp.TheVariants as P
use Rattle.c_typed.specs.Trees as Typed
use Rattle.c_typed.specs.Typed.{IsTyped}
use Rattle.c_typed.specs.Conversions.{is_integer}
use Rattle.c_typed.specs.declared.program.MentionKind.TheVariants.{Named, Sizeof}
use Rattle.c_erasure.specs.Noted.{size_of, value, way, value_of, type_of, unconverted, Thing, an_object, a_value, a_function, a_function_at}
use Rattle.c_erasure.specs.Noted.{a_library_function, Expression, Path}
use Rattle.c_erasure.specs.Scopes.{Bound, defines, a_local, FileScope, Scope, in_full, declared}
use Rattle.c_erasure.specs.Erasure.{Erases, Values, IsTypedThing, IsNamed, unmade, typed}
use Rattle.c_erasure.proofs.ExampleParts.{mention, value_of_some}

abbrev int : CType
int = integer Int

abbrev long : CType
long = integer Long

abbrev place : ℕ → Place
place n = record { file = 0; at = n }

abbrev field : List ℕ → CType → Field
field x t = record { name = x; ty = t; place = place 0 }

abbrev the_record : Record
the_record = record { tag = codes "S"; place = place 0; fields = field (codes "x") int ∷ field (codes "next") (pointer (structure 0)) ∷ [] }

abbrev file : FileScope
file = record {
  file = 0;
  names = [];
  tags = record { name = codes "S"; place = 7; from = 7; is_enumeration = false } ∷ [];
  records = the_record ∷ [];
  ends = 20 ∷ [];
  numbered = codes "S" ∷ [];
  objects = [];
  functions = [];
  mentions = mention Named (structure 0) 107 ∷ mention Sizeof (structure 0) 100 ∷ mention Sizeof (array int 3) 100
      ∷ mention Sizeof (array (integer Char) 3) 100 ∷ mention Named (pointer (structure 0)) 110 ∷ [];
  untagged = λ at. [];
}

abbrev local : List ℕ → ℕ → CType → Bound
local x n t = record { name = x; place = 30 + n; from = 30 + n; how = defines; entity = a_local n t }

abbrev here : Scope
here = record {
  file = file;
  blocks = (local (codes "p") 0 (pointer (structure 0)) ∷ local (codes "a") 1 (array int 3) ∷ local (codes "i") 2 int ∷ local (codes "l") 3 long
      ∷ local (codes "v") 4 (pointer void) ∷ local (codes "c") 5 (integer Char) ∷ local (codes "q") 6 (pointer int) ∷ []) ∷ [];
  is_inside = true;
  purpose = in_full;
  locals = record { name = codes "p"; ty = pointer (structure 0) } ∷ record { name = codes "a"; ty = array int 3 } ∷ record { name = codes "i"; ty = int }
      ∷ record { name = codes "l"; ty = long } ∷ record { name = codes "v"; ty = pointer void } ∷ record { name = codes "c"; ty = integer Char }
      ∷ record { name = codes "q"; ty = pointer int } ∷ [];
}

-- a name that stands at a byte
abbrev name : List ℕ → ℕ → Trees.Expression
name x at = Trees.name (record { from = at; to = at + 1; text = x })

abbrev the_q : ℕ → Expression
the_q at = value (pointer int) (place at) (Typed.load (way (pointer int) (place at) (Typed.local 6)))

abbrev the_i : ℕ → Expression
the_i at = value int (place at) (Typed.load (way int (place at) (Typed.local 2)))

abbrev q_stands : (at : ℕ) → Values (Erases (name (codes "q") at) here) (the_q at)
q_stands at = (an_object (way (pointer int) (place at) (Typed.local 6)), refl, (a_local 6 (pointer int), refl, refl))

abbrev i_stands : (at : ℕ) → Values (Erases (name (codes "i") at) here) (the_i at)
i_stands at = (an_object (way int (place at) (Typed.local 2)), refl, (a_local 2 int, refl, refl))

-- ---- subscripts

-- q[i] has one typed tree: it is not read as *(q + i), which is well typed too
abbrev subscript : Trees.Expression
subscript = Trees.index (name (codes "q") 100) 101 (name (codes "i") 102) 103

abbrev sum_target : ℕ → Expression → Expression → Thing
sum_target at x y = an_object (way int (place at) (Typed.deref (value (pointer int) (place at) (Typed.pointer_add P.Add x y))))

subscript_as_index : Erases subscript here (an_object (way int (place 100) (Typed.index (the_q 100) (the_i 102))))
subscript_as_index = inr (inl (int, the_q 100, the_i 102, refl, q_stands 100, i_stands 102))

index_typed : IsTypedThing here (an_object (way int (place 100) (Typed.index (the_q 100) (the_i 102))))
index_typed = ((refl, refl, refl, refl), (refl, refl, refl, refl), refl, refl, refl, refl, refl)

subscript_no_sum : Erases subscript here (sum_target 100 (the_q 100) (the_i 102)) → ⊥
subscript_no_sum (inl (t, p, i, is, e, x, y)) = cc
subscript_no_sum (inr (inl (t, e, i, r, x, y))) = cc
subscript_no_sum (inr (inr (t, u, i, e, n, x, y, r))) =
    let z : the_q 100 ≡ i = cc in let f : false ≡ true = subst (λ x. is_integer (type_of x) ≡ true) (sym z) n in cc

sum_typed : IsTypedThing here (sum_target 100 (the_q 100) (the_i 102))
sum_typed = (((refl, refl, refl, refl), (refl, refl, refl, refl), inl (refl, refl, refl)), refl, refl, refl)

-- i[q] is *(i + q)
turned : Erases (Trees.index (name (codes "i") 100) 101 (name (codes "q") 102) 103) here (sum_target 100 (the_i 100) (the_q 102))
turned = inr (inr (int, pointer int, the_i 100, the_q 102, refl, i_stands 100, q_stands 102, refl))

turned_typed : IsTypedThing here (sum_target 100 (the_i 100) (the_q 102))
turned_typed = (((refl, refl, refl, refl), (refl, refl, refl, refl), inr (refl, refl, refl)), refl, refl, refl)

-- ---- `*` and `&`

-- sizeof &*i: what is no pointer points to nothing, not even to a function after a conversion
abbrev address_of_target : Trees.Expression
address_of_target = Trees.unary U.Address 100 (Trees.unary U.Deref 101 (name (codes "i") 102))

abbrev as_function : Expression
as_function = value (pointer (function void no_types)) (place 102) (Typed.convert (the_i 102) false)

as_function_typed : IsTyped (declared here) (typed as_function)
as_function_typed = ((refl, refl, refl, refl), refl, (λ e. cc), refl)

no_function : Erases address_of_target here (a_value as_function) → ⊥
no_function (an_object p, (t, few, r), w) = cc
no_function (a_value e, r, w) = r
no_function (a_function at f t, r, w) = cc
no_function (a_library_function at which, r, w) = r
no_function (a_function_at f, r, (e, inl (t, is, p), v)) = cc
no_function (a_function_at f, r, (e, inr (t, of, is, bare, p), v)) =
    let z : e ≡ as_function = cc in let b : the_i 102 ≡ as_function = subst (λ e. unconverted e ≡ e) z bare in cc

-- ---- operators group from the left, and each operand is read as what it is

abbrev digit : List ℕ → ℕ → ℕ → Trees.Expression
digit x n at = Trees.number (record { from = at; to = at + 1; text = x }) n Int

abbrev number : ℕ → ℕ → Expression
number at n = value int (place at) (Typed.constant n)

abbrev minus : ℕ → Expression → Expression → Expression
minus at x y = value int (place at) (Typed.binary Subtract x y)

-- i - 3 - 4
abbrev differences : Trees.Expression
differences = Trees.binary (Trees.binary (name (codes "i") 100) O.Subtract 102 (digit (codes "3") 3 104)) O.Subtract 106 (digit (codes "4") 4 108)

grouped_left : Erases differences here (a_value (minus 100 (minus 100 (the_i 100) (number 104 3)) (number 108 4)))
grouped_left = (
  int,
  minus 100 (the_i 100) (number 104 3),
  number 108 4,
  Typed.binary Subtract (minus 100 (the_i 100) (number 104 3)) (number 108 4),
  (
    a_value (minus 100 (the_i 100) (number 104 3)),
    refl,
    (
      int,
      the_i 100,
      number 104 3,
      Typed.binary Subtract (the_i 100) (number 104 3),
      i_stands 100,
      (a_value (number 104 3), refl, refl),
      inl refl,
      refl,
    ),
  ),
  (a_value (number 108 4), refl, refl),
  inl refl,
  refl,
)

grouped_right : Erases differences here (a_value (minus 100 (the_i 100) (minus 104 (number 104 3) (number 108 4)))) → ⊥
grouped_right (t, x, y, node, vx, (th, v, four), inl j, r) =
    let z : minus 104 (number 104 3) (number 108 4) ≡ y = cc in
    let w : Some (number 108 4) ≡ Some (minus 104 (number 104 3) (number 108 4))
    = subst (λ y. Some (number 108 4) ≡ Some (unconverted y)) (sym z) (subst (λ th. value_of th ≡ Some (unconverted y)) four v) in
    cc
grouped_right (t, x, y, node, vx, vy, inr (inl j), r) = cc
grouped_right (t, x, y, node, vx, vy, inr (inr j), r) = cc

-- a as a value is no load
abbrev a_path : ℕ → Path
a_path at = way (array int 3) (place at) (Typed.local 1)

decays : Values (Erases (name (codes "a") 100) here) (value (pointer int) (place 100) (Typed.decay (a_path 100)))
decays = (an_object (a_path 100), refl, (a_local 1 (array int 3), refl, refl))

no_load : (t : CType) → Values (Erases (name (codes "a") 100) here) (value t (place 100) (Typed.load (a_path 100))) → ⊥
no_load t (th, v, (e, named, is)) =
    let z : a_local 1 (array int 3) ≡ e = value_of_some (a_local 1 (array int 3)) e named in
    let o : th ≡ an_object (a_path 100) = subst (λ e. IsNamed (place 100) e th) (sym z) is in
    let w : Some (value (pointer int) (place 100) (Typed.decay (a_path 100))) ≡ Some (value t (place 100) (Typed.load (a_path 100)))
    = subst (λ th. value_of th ≡ Some (value t (place 100) (Typed.load (a_path 100)))) o v in
    cc

-- c + i: a conversion stands over c, and where it is missing the tree is ill typed
abbrev the_c : Expression
the_c = value (integer Char) (place 100) (Typed.load (way (integer Char) (place 100) (Typed.local 5)))

abbrev promoted_c : Expression
promoted_c = value int (place 100) (Typed.convert the_c false)

abbrev character_sum : Expression → Expression
character_sum x = value int (place 100) (Typed.binary Add x (the_i 104))

abbrev c_plus_i : Trees.Expression
c_plus_i = Trees.binary (name (codes "c") 100) O.Add 102 (name (codes "i") 104)

promoted : Erases c_plus_i here (a_value (character_sum promoted_c))
promoted = (
  int,
  promoted_c,
  the_i 104,
  Typed.binary Add promoted_c (the_i 104),
  (an_object (way (integer Char) (place 100) (Typed.local 5)), refl, (a_local 5 (integer Char), refl, refl)),
  i_stands 104,
  inl refl,
  refl,
)

promoted_typed : IsTyped (declared here) (typed (character_sum promoted_c))
promoted_typed = (((refl, refl, refl, refl), refl, (λ e. cc), refl), (refl, refl, refl, refl), refl, refl)

unpromoted : Erases c_plus_i here (a_value (character_sum the_c))
unpromoted = (
  int,
  the_c,
  the_i 104,
  Typed.binary Add the_c (the_i 104),
  (an_object (way (integer Char) (place 100) (Typed.local 5)), refl, (a_local 5 (integer Char), refl, refl)),
  i_stands 104,
  inl refl,
  refl,
)

unpromoted_ill_typed : IsTyped (declared here) (typed (character_sum the_c)) → ⊥
unpromoted_ill_typed w = cc (w.3)

-- ---- sizeof a type name, sizeof an array, a cast

abbrev size : ℕ → CType → ℕ → Expression
size at t n = Typed.expression (record { ty = integer UInt; note = size_of t at }) (place at) (Typed.constant n)

abbrev struct_name : ℕ → Trees.Specifiers
struct_name at = Trees.and_specifier (Trees.struct_named at (record { from = at + 7; to = at + 8; text = codes "S" })) Trees.no_specifiers

-- sizeof(struct S)
record_size : Erases (Trees.sizeof_type 100 106 (Trees.type_name (struct_name 107) Trees.nothing) 115) here (a_value (size 100 (structure 0) 8))
record_size = (structure 0, (structure 0, refl, inr (refl, ((0, refl, refl, inl refl), refl)), refl), inr (0, refl), (refl, inr (1, refl), refl, omega arith))

-- sizeof a, with no decay
array_size : Erases (Trees.sizeof_expression 100 (name (codes "a") 107)) here (a_value (size 100 (array int 3) 12))
array_size = (array int 3, (an_object (a_path 107), (a_local 1 (array int 3), refl, refl), refl, refl), (refl, inr (2, refl), refl, omega arith))

-- sizeof "ab": the object of the literal stands in no file
literal_size : Erases (Trees.sizeof_expression 100 (Trees.texts (record { from = 107; to = 111; text = codes "\"ab\"" } ∷ []))) here
    (a_value (size 100 (array (integer Char) 3) 3))
unfolding string_bytes
literal_size = (
  array (integer Char) 3,
  (
    unmade (place 107) (array (integer Char) 3),
    refl,
    (refl, refl, refl, refl),
    refl,
  ),
  (refl, inr (3, refl), refl, omega arith),
)

-- (struct S *)v
cast : Erases (Trees.cast 100 (Trees.type_name (struct_name 101) (Trees.pointer 110 [] Trees.nothing)) 111 (name (codes "v") 112)) here
    (a_value (value (pointer (structure 0)) (place 100)
    (Typed.convert (value (pointer void) (place 112) (Typed.load (way (pointer void) (place 112) (Typed.local 4)))) true)))
cast = (
  pointer (structure 0),
  value (pointer void) (place 112) (Typed.load (way (pointer void) (place 112) (Typed.local 4))),
  (structure 0, refl, inr (refl, ((0, refl, refl, inl refl), refl)), (record { bytes = omega arith; parts = omega arith }, refl)),
  inr (4, refl),
  (an_object (way (pointer void) (place 112) (Typed.local 4)), refl, (a_local 4 (pointer void), refl, refl)),
  refl,
)
