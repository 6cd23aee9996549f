-- A constant is typed without the locals of a function (C99 6.6).
use Rattle.std.proofs.Common.{◌≡◌, ◌≢◌, ℕ, Bool, true, false, refl, ap, ◌∙◌, cond, List, [], ◌∷◌}
use Rattle.std.proofs.lemmas.Bool.{and_parts}
use Rattle.std.proofs.lemmas.List.Elements.{All-cons, All-nil, All-head, All-tail}
use Rattle.std.specs.Prelude.{All, map, get_or, nat_lt, Option, Some, None, ℤ, pos}
use Rattle.c_types.specs.Layouts.{size_of, offset_of}
use Rattle.c_types.specs.declared.ty.IntKind.{IntKind}
use Rattle.c_types.specs.Types.{CType, void, integer, pointer, array, function, structure}
use Rattle.c_typed.specs.declared.operators.PointerOp.{PointerOp}
use Rattle.c_typed.specs.declared.operators.PointerOp.TheVariants as P
use Rattle.c_typed.specs.Trees as Trees
use Rattle.c_typed.specs.Trees.{Expression, expression, Path, path, Node, PathNode}
use Rattle.c_typed.specs.Constants.{of_value, kind_of, Constant, none, undefined, valued, ty, converted_constant, unary_constant, with_both, decided_by, chosen}
use Rattle.c_typed.specs.Constants.{negated, constant_of}
use Rattle.c_typed.specs.Constants.{is_zero, is_null}
use Rattle.c_typed.specs.Arithmetic.{truth, binary_value, holds}
use Rattle.c_typed.specs.Conversions.{is_pointer}
use Rattle.c_typed.specs.InitialValues.{Address, InitialValue, element_size, number_in, moved, subscripted, inside, or_negated, path_type, address_of_path}
use Rattle.c_typed.specs.InitialValues.{address_in}
use Rattle.c_typed.specs.InitialValues.{function_in}
use Rattle.c_typed.specs.InitialValues.{is_null_in, as_function, as_address, as_number, initial_in, initial_value}
use Rattle.c_typed.specs.Mapped.{of_types, mapped_part, mapped_value}
use Rattle.c_typed.specs.Typed.{Declared, IsTyped, IsTypedPath}
use Rattle.c_typed.specs.TypedStatements.{IsTypedPart, IsTypedInitializer}
use Rattle.c_erasure.specs.Erasure.{typed}
use Rattle.c_erasure.specs.Initializers.{Part, HasConstant, AreConstants}
use Rattle.c_erasure.specs.Noted.{Noted}
use Rattle.c_checking_laws.proofs.WholeFiles.Wholes.{typed_initial}

abbrev pub without_locals : Declared → Declared
without_locals d = record { records = d.records; complete = d.complete; locals = []; objects = d.objects; functions = d.functions }

-- ---- parts of constants are constants

converted_none : (t : CType) → converted_constant t none ≡ none
converted_none void = refl
converted_none (integer kind) = refl
converted_none (pointer t) = refl
converted_none (array t n) = refl
converted_none (function t all) = refl
converted_none (structure r) = refl

both_none : (c : Constant) (f : ℕ → ℕ → Constant) → with_both c none f ≡ none
both_none none f = refl
both_none undefined f = refl
both_none (valued v) f = refl

decided_none : (b : Bool) (c : Constant) → decided_by b c none ≡ none
decided_none true none = refl
decided_none true undefined = refl
decided_none true (valued v) = refl
decided_none false none = refl
decided_none false undefined = refl
decided_none false (valued v) = refl

decided_first : (b : Bool) (d : Constant) → decided_by b none d ≡ none
decided_first true d = refl
decided_first false d = refl

second_none : (c e : Constant) → chosen c none e ≡ none
second_none none e = refl
second_none undefined e = refl
second_none (valued v) e = refl

third_none : (c d : Constant) → chosen c d none ≡ none
third_none none d = refl
third_none undefined none = refl
third_none undefined undefined = refl
third_none undefined (valued w) = refl
third_none (valued v) none = refl
third_none (valued v) undefined = refl
third_none (valued v) (valued w) = refl

-- ---- where a number is known

number_some : (t : CType) (c : Constant) (z : ℤ) → number_in t c ≡ Some z → c ≢ none
number_some t none z h e = cc
number_some t undefined z h e = cc
number_some t (valued v) z h e = cc

zero_is : (c : Constant) → is_zero c ≡ true → c ≢ none
zero_is none h e = cc
zero_is undefined h e = cc
zero_is (valued v) h e = cc

number_as : (d : Declared) (kind : IntKind) (c : Constant) (v : InitialValue) → as_number d kind c ≡ Some v → c ≢ none
number_as d kind none v h e = cc
number_as d kind undefined v h e = cc
number_as d kind (valued w) v h e = cc

module _ (d : Declared) where
  mutual
    constant_typed : (e : Expression CType) → constant_of e ≢ none → IsTyped d e → IsTyped (without_locals d) e
    constant_typed (expression t at (Trees.constant v)) n h = h
    constant_typed (expression t at (Trees.convert e false)) n h =
        (constant_typed e (λ k. n (ap (converted_constant t) k ∙ converted_none t)) h.0, h.1, h.2, h.3)
    constant_typed (expression t at (Trees.convert e true)) n h =
        (constant_typed e (λ k. n (ap (converted_constant t) k ∙ converted_none t)) h.0, h.1, h.2)
    constant_typed (expression t at (Trees.unary op x)) n h = (constant_typed x (λ k. n (ap (unary_constant op) k)) h.0, h.1, h.2)
    constant_typed (expression t at (Trees.binary op x y)) n h = (
      constant_typed x (λ k. n (ap (λ c. with_both c (constant_of y) (λ v w. of_value (binary_value op (kind_of t) v (kind_of (ty y)) w))) k)) h.0,
      constant_typed y (λ k. n (ap (λ c. with_both (constant_of x) c (λ v w. of_value (binary_value op (kind_of t) v (kind_of (ty y)) w))) k ∙ both_none (constant_of x) (λ v w. of_value (binary_value op (kind_of t) v (kind_of (ty y)) w)))) h.1,
      h.2,
      h.3,
    )
    constant_typed (expression t at (Trees.compare op x y)) n h = (
      constant_typed x (λ k. n (ap (λ c. with_both c (constant_of y) (λ v w. valued (truth (holds op (kind_of (ty x)) v w)))) k)) h.0,
      constant_typed y (λ k. n (ap (λ c. with_both (constant_of x) c (λ v w. valued (truth (holds op (kind_of (ty x)) v w)))) k ∙ both_none (constant_of x) (λ v w. valued (truth (holds op (kind_of (ty x)) v w))))) h.1,
      h.2,
      h.3,
      h.4,
    )
    constant_typed (expression t at (Trees.both x y)) n h = (
      constant_typed x (λ k. n (ap (λ c. decided_by false c (constant_of y)) k ∙ decided_first false (constant_of y))) h.0,
      constant_typed y (λ k. n (ap (λ c. decided_by false (constant_of x) c) k ∙ decided_none false (constant_of x))) h.1,
      h.2,
      h.3,
      h.4,
    )
    constant_typed (expression t at (Trees.either x y)) n h = (
      constant_typed x (λ k. n (ap (λ c. decided_by true c (constant_of y)) k ∙ decided_first true (constant_of y))) h.0,
      constant_typed y (λ k. n (ap (λ c. decided_by true (constant_of x) c) k ∙ decided_none true (constant_of x))) h.1,
      h.2,
      h.3,
      h.4,
    )
    constant_typed (expression t at (Trees.not x)) n h = (constant_typed x (λ k. n (ap negated k)) h.0, h.1, h.2)
    constant_typed (expression t at (Trees.choose x y z)) n h = (
      constant_typed x (λ k. n (ap (λ c. chosen c (constant_of y) (constant_of z)) k)) h.0,
      constant_typed y (λ k. n (ap (λ c. chosen (constant_of x) c (constant_of z)) k ∙ second_none (constant_of x) (constant_of z))) h.1,
      constant_typed z (λ k. n (ap (λ c. chosen (constant_of x) (constant_of y) c) k ∙ third_none (constant_of x) (constant_of y))) h.2,
      h.3,
      h.4,
      h.5,
      h.6,
    )
    constant_typed (expression t at node) n h = absurd (n refl)

  null_typed : (e : Expression CType) → is_null e ≡ true → IsTyped d e → IsTyped (without_locals d) e
  null_typed (expression (pointer void) at (Trees.convert e true)) h i = (constant_typed e (zero_is (constant_of e) h) i.0, i.1, i.2)
  null_typed e h i = constant_typed e (zero_is (constant_of e) h) i

  -- ---- addresses

  moved_parts : (o : Option Address) (k : Option ℤ) (size : ℕ) (a : Address) → moved d o k size ≡ Some a
      → ((b : Address) × (o ≡ Some b)) × ((z : ℤ) × (k ≡ Some z))
  moved_parts None k size a h = cc
  moved_parts (Some b) None size a h = cc
  moved_parts (Some b) (Some z) size a h = ((b, refl), (z, refl))

  subscripted_parts : (s : Bool) (t : CType) (o : Option Address) (k : Option ℤ) (a : Address) → subscripted d s t o k ≡ Some a
      → ((b : Address) × (o ≡ Some b)) × ((z : ℤ) × (k ≡ Some z))
  subscripted_parts s (array t n) (Some b) (Some z) a h = ((b, refl), (z, refl))
  subscripted_parts s (array t n) None k a h = cc
  subscripted_parts s (array t n) (Some b) None a h = cc
  subscripted_parts s void o k a h = cc
  subscripted_parts s (integer kind) o k a h = cc
  subscripted_parts s (pointer t) o k a h = cc
  subscripted_parts s (function t all) o k a h = cc
  subscripted_parts s (structure r) o k a h = cc

  negated_some : (op : PointerOp) (k : Option ℤ) (z : ℤ) → or_negated d op k ≡ Some z → (y : ℤ) × (k ≡ Some y)
  negated_some P.Add k z h = (z, h)
  negated_some P.Subtract None z h = cc
  negated_some P.Subtract (Some y) z h = (y, refl)

  if_pointer : {A : Type 0} (b : Bool) (o : Option A) (a : A) → cond b o None ≡ Some a → o ≡ Some a
  if_pointer true o a h = h
  if_pointer false o a h = cc

  inside_some : (o : Option Address) (a : Address) → inside d o ≡ Some a → o ≡ Some a
  inside_some None a h = cc
  inside_some (Some b) a h = if_pointer (nat_lt b.offset (size_of d.records (get_or d.objects b.object void))) (Some b) a h

  mutual
    path_typed : (s : Bool) (p : Path CType) (a : Address) → address_of_path d s p ≡ Some a → IsTypedPath d p → IsTypedPath (without_locals d) p
    path_typed s (path t at (Trees.local n)) a h i = cc
    path_typed s (path t at (Trees.object n)) a h i = i
    path_typed s (path t at (Trees.deref e)) a h i = (address_typed e a h i.0, i.1, i.2, i.3)
    path_typed s (path t at (Trees.index e j)) a h i =
        let m = moved_parts (address_in d e) (number_in (ty j) (constant_of j)) _ a h in
        (address_typed e m.0.0 m.0.1 i.0, constant_typed j (number_some (ty j) (constant_of j) m.1.0 m.1.1) i.1, i.2, i.3, i.4, i.5, i.6)
    path_typed s (path t at (Trees.member p r field)) a h i =
        let o = inside_some (moved d (address_of_path d false p) (Some (pos (offset_of d.records r field))) 1) a h in
        let m = moved_parts (address_of_path d false p) _ 1 a o in
        (path_typed false p m.0.0 m.0.1 i.0, i.1, i.2)
    path_typed s (path t at (Trees.element p j)) a h i =
        let m = subscripted_parts s (path_type d p) (address_of_path d false p) (number_in (ty j) (constant_of j)) a h in
        (path_typed false p m.0.0 m.0.1 i.0, constant_typed j (number_some (ty j) (constant_of j) m.1.0 m.1.1) i.1, i.2, i.3)

    address_typed : (e : Expression CType) (a : Address) → address_in d e ≡ Some a → IsTyped d e → IsTyped (without_locals d) e
    address_typed (expression t at (Trees.address_of p)) a h i = (path_typed true p a h i.0, i.1)
    address_typed (expression t at (Trees.decay p)) a h i = (path_typed false p a h i.0, i.1, i.2)
    address_typed (expression t at (Trees.convert e false)) a h i =
        (address_typed e a (if_pointer (is_pointer t) (address_in d e) a h) i.0, i.1, i.2, i.3)
    address_typed (expression t at (Trees.convert e true)) a h i =
        (address_typed e a (if_pointer (is_pointer t) (address_in d e) a h) i.0, i.1, i.2)
    address_typed (expression t at (Trees.pointer_add op x y)) a h i =
        by_side (element_size d.records t) (is_pointer (ty x)) h (λ b g. address_typed x b g i.0) (λ b g. address_typed y b g i.1)
      where
        by_side : (size : ℕ) (b : Bool)
            → cond b (moved d (address_in d x) (or_negated d op (number_in (ty y) (constant_of y))) size)
            (moved d (address_in d y) (number_in (ty x) (constant_of x)) size) ≡ Some a
            → ((b : Address) → address_in d x ≡ Some b → IsTyped (without_locals d) x)
            → ((b : Address) → address_in d y ≡ Some b → IsTyped (without_locals d) y)
            → IsTyped (without_locals d) (expression t at (Trees.pointer_add op x y))
        by_side size true h f g =
            let m = moved_parts (address_in d x) (or_negated d op (number_in (ty y) (constant_of y))) size a h in
            let n = negated_some op (number_in (ty y) (constant_of y)) m.1.0 m.1.1 in
            (f m.0.0 m.0.1, constant_typed y (number_some (ty y) (constant_of y) n.0 n.1) i.1, i.2)
        by_side size false h f g =
            let m = moved_parts (address_in d y) (number_in (ty x) (constant_of x)) size a h in
            (constant_typed x (number_some (ty x) (constant_of x) m.1.0 m.1.1) i.0, g m.0.0 m.0.1, i.2)
    address_typed (expression t at node) a h i = cc

  function_typed : (e : Expression CType) (f : ℕ) → function_in d e ≡ Some f → IsTyped d e → IsTyped (without_locals d) e
  function_typed (expression t at (Trees.function_name f)) g h i = i
  function_typed (expression t at (Trees.convert e false)) g h i = (function_typed e g (if_pointer (is_pointer t) (function_in d e) g h) i.0, i.1, i.2, i.3)
  function_typed (expression t at (Trees.convert e true)) g h i = (function_typed e g (if_pointer (is_pointer t) (function_in d e) g h) i.0, i.1, i.2)
  function_typed (expression t at node) g h i = cc

  null_in_typed : (e : Expression CType) → is_null_in d e ≡ true → IsTyped d e → IsTyped (without_locals d) e
  null_in_typed (expression t at Trees.null) h i = i
  null_in_typed (expression t at (Trees.convert e false)) h i =
      let p = and_parts (is_pointer t) (cond (is_null e) true (is_null_in d e)) h in
      (by_test (is_null e) refl p.1 (null_in_typed e), i.1, i.2, i.3)
    where
      by_test : (b : Bool) → is_null e ≡ b → cond b true (is_null_in d e) ≡ true
          → (is_null_in d e ≡ true → IsTyped d e → IsTyped (without_locals d) e) → IsTyped (without_locals d) e
      by_test true n h f = null_typed e n i.0
      by_test false n h f = f h i.0
  null_in_typed (expression t at (Trees.convert e true)) h i =
      let p = and_parts (is_pointer t) (cond (is_null e) true (is_null_in d e)) h in
      (by_test (is_null e) refl p.1 (null_in_typed e), i.1, i.2)
    where
      by_test : (b : Bool) → is_null e ≡ b → cond b true (is_null_in d e) ≡ true
          → (is_null_in d e ≡ true → IsTyped d e → IsTyped (without_locals d) e) → IsTyped (without_locals d) e
      by_test true n h f = null_typed e n i.0
      by_test false n h f = f h i.0
  null_in_typed (expression t at node) h i = cc

  pointer_typed : (e : Expression CType) (v : InitialValue)
      → cond (is_null_in d e) (Some Rattle.c_typed.specs.InitialValues.a_null) (as_address d (address_in d e) (as_function d (function_in d e))) ≡ Some v
      → IsTyped d e → IsTyped (without_locals d) e
  pointer_typed e v h i = by_null (is_null_in d e) refl h
    where
      by_function : (o : Option ℕ) → function_in d e ≡ o → as_function d o ≡ Some v → IsTyped (without_locals d) e
      by_function None n h = cc
      by_function (Some f) n h = function_typed e f n i

      by_address : (o : Option Address) → address_in d e ≡ o → as_address d o (as_function d (function_in d e)) ≡ Some v → IsTyped (without_locals d) e
      by_address None n h = by_function (function_in d e) refl h
      by_address (Some a) n h = address_typed e a n i

      by_null : (b : Bool) → is_null_in d e ≡ b
          → cond b (Some Rattle.c_typed.specs.InitialValues.a_null) (as_address d (address_in d e) (as_function d (function_in d e))) ≡ Some v
          → IsTyped (without_locals d) e
      by_null true n h = null_in_typed e n i
      by_null false n h = by_address (address_in d e) refl h

  value_by_type : (t : CType) (e : Expression CType) (v : InitialValue) → initial_in d t e ≡ Some v → IsTyped d e → IsTyped (without_locals d) e
  value_by_type (integer kind) e v h i = constant_typed e (number_as d kind (constant_of e) v h) i
  value_by_type void e v h i = pointer_typed e v h i
  value_by_type (pointer t) e v h i = pointer_typed e v h i
  value_by_type (array t n) e v h i = pointer_typed e v h i
  value_by_type (function t all) e v h i = pointer_typed e v h i
  value_by_type (structure r) e v h i = pointer_typed e v h i

  parts_typed : (t : CType) (all : List Part) → All (λ part. HasConstant d part.value) all
      → All (IsTypedPart d t) (map (mapped_part (of_types (λ t. t.ty))) all)
      → All (IsTypedPart (without_locals d) t) (map (mapped_part (of_types (λ t. t.ty))) all)
  parts_typed t [] c h = All-nil (IsTypedPart (without_locals d) t)
  parts_typed t (part ∷ more) c h =
      let one = mapped_part (of_types (λ t. t.ty)) part in
      let rest = map (mapped_part (of_types (λ t. t.ty))) more in
      All-cons (IsTypedPart (without_locals d) t) one rest
      (by_value part.offset part.value (All-head (λ (part : Part). HasConstant d part.value) part more c) (All-head (IsTypedPart d t) one rest h))
      (parts_typed t more (All-tail (λ (part : Part). HasConstant d part.value) part more c) (All-tail (IsTypedPart d t) one rest h))
    where
      by_value : (offset : ℕ) (v : Trees.PartValue Noted) → HasConstant d v
          → IsTypedPart d t (record { offset = offset; value = mapped_value (of_types (λ t. t.ty)) v })
          → IsTypedPart (without_locals d) t (record { offset = offset; value = mapped_value (of_types (λ t. t.ty)) v })
      by_value offset (Trees.value x) c h = (h.0, h.1, (value_by_type (ty (typed x)) (typed x) c.0 c.1 h.2.0, h.2.1, h.2.2))
      by_value offset (Trees.record_of p) c h = absurd c
      by_value offset (Trees.text bytes) c h = h

  pub constants_typed : (t : CType) (i : Trees.Initializer Noted) → AreConstants d i → IsTypedInitializer d t (typed_initial i)
      → IsTypedInitializer (without_locals d) t (typed_initial i)
  constants_typed t (Trees.whole x) c h = (value_by_type (ty (typed x)) (typed x) c.0 c.1 h.0, h.1, h.2)
  constants_typed t (Trees.whole_record p) c h = absurd c
  constants_typed t (Trees.parts all) c h = (h.0, parts_typed t all c h.1, h.2)
