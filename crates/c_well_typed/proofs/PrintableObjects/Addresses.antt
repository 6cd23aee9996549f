-- A constant expression that stands for an address refers to the object or function that it names and to nothing else, and a null pointer refers to
-- nothing (C99 6.6).
use Rattle.std.proofs.Common.{◌≡◌, ◌≢◌, ◌∙◌, ℕ, Bool, true, false, refl, sym, ap, subst, cond, List, [], ◌∷◌, ◌++◌, inl, inr}
use Rattle.std.proofs.lemmas.Bool.{and_parts}
use Rattle.std.specs.Prelude.{◌⊎◌, get_or, nat_le, nat_lt, Option, Some, None, ℤ, pos, negsuc}
use Rattle.c_types.specs.declared.ty.IntKind.{IntKind}
use Rattle.c_types.specs.Layouts.{size_of, offset_of}
use Rattle.c_types.specs.Types.{CType, void, integer, array}
use Rattle.c_typed.specs.declared.operators.PointerOp.{PointerOp}
use Rattle.c_typed.specs.declared.operators.PointerOp.TheVariants as P
use Rattle.c_typed.specs.Trees as Trees
use Rattle.c_typed.specs.Conversions.{is_pointer}
use Rattle.c_typed.specs.Constants.{Constant, none, undefined, valued, ty, constant_of, is_zero, is_null}
use Rattle.c_typed.specs.InitialValues.{Address, InitialValue, a_number, a_null, an_address, a_function, element_size, number_in, end_of, within, moved, subscripted}
use Rattle.c_typed.specs.InitialValues.{inside}
use Rattle.c_typed.specs.Subscripts.{is_subscript}
use Rattle.c_typed.specs.InitialValues.{or_negated, path_type, address_of_path, address_of_step, address_in, address_in_node, function_in, function_in_node}
use Rattle.c_typed.specs.InitialValues.{is_null_in, is_null_in_node, as_function, as_address, as_number, initial_in, initial_value}
use Rattle.c_typed.specs.References.{Reference, references, references_by_node, references_by_path, references_by_step}
use Rattle.c_typed.specs.References as References
use Rattle.c_typed.specs.Typed.{Declared}
use Rattle.c_well_typed.proofs.Nulls.{is_zero_is, IsCast, null_or_cast}
use Rattle.c_well_typed.proofs.PrintableObjects.Constants.{constant_alone}

some_is : {A : Type 0} (x y : A) → Some x ≡ Some y → x ≡ y
some_is x y h = cc

pub if_some : {A : Type 0} (b : Bool) (o : Option A) (a : A) → cond b o None ≡ Some a → (b ≡ true) × (o ≡ Some a)
if_some true o a h = (refl, h)
if_some false o a h = cc

abbrev pub to : ℕ → List Reference
to n = References.an_object n ∷ []

-- ---- where a number is known

number_there : (t : CType) (c : Constant) (z : ℤ) → number_in t c ≡ Some z → c ≢ none
number_there t none z h e = cc
number_there t undefined z h e = cc
number_there t (valued v) z h e = cc

negated_there : (d : Declared) (op : PointerOp) (k : Option ℤ) (z : ℤ) → or_negated d op k ≡ Some z → (w : ℤ) × (k ≡ Some w)
negated_there d P.Add (Some w) z h = (w, refl)
negated_there d P.Add None z h = cc
negated_there d P.Subtract (Some w) z h = (w, refl)
negated_there d P.Subtract None z h = cc

pub null_alone : (e : Trees.Expression CType) → is_null e ≡ true → references e ≡ []
null_alone e n = by_case (null_or_cast e n)
  where
    zero_alone : (x : Trees.Expression CType) → is_zero (constant_of x) ≡ true → references x ≡ []
    zero_alone x z = let v = is_zero_is (constant_of x) z in constant_alone x (λ n. let no : _ ≡ none = sym v.1 ∙ n in cc)

    by_case : (is_zero (constant_of e) ≡ true) ⊎ IsCast e → references e ≡ []
    by_case (inl z) = zero_alone e z
    by_case (inr c) = subst (λ e. references e ≡ []) (sym c.2) (zero_alone c.1 c.3)

module _ (d : Declared) where
  -- ---- addresses

  within_same : (n : ℕ) (z : ℤ) (a : Address) → within d n z ≡ Some a → a.object ≡ n
  within_same n (negsuc k) a h = cc
  within_same n (pos k) a h =
      let c = if_some (nat_le k (end_of d n)) (Some (record { object = n; offset = k })) a h in
      sym (ap (λ (a : Address). a.object) (some_is (record { object = n; offset = k }) a c.1))

  -- a place so far from another is in the same object, and the distance is known
  abbrev IsFrom : Option Address → Option ℤ → Address → Type 0
  IsFrom o k a = (b : Address) × (z : ℤ) × (o ≡ Some b) × (k ≡ Some z) × (a.object ≡ b.object)

  moved_from : (o : Option Address) (k : Option ℤ) (size : ℕ) (a : Address) → moved d o k size ≡ Some a → IsFrom o k a
  moved_from None k size a h = cc
  moved_from (Some b) None size a h = cc
  moved_from (Some b) (Some z) size a h = (b, z, refl, refl, within_same b.object _ a h)

  subscripted_from : (s : Bool) (t : CType) (o : Option Address) (k : Option ℤ) (a : Address) → subscripted d s t o k ≡ Some a → IsFrom o k a
  subscripted_from s (array t n) (Some b) (Some k) a h =
      moved_from (Some b) (Some k) (size_of d.records t) a (if_some (is_subscript n s k) (moved d (Some b) (Some k) (size_of d.records t)) a h).1
  subscripted_from s t o k a h = cc

  inside_some : (o : Option Address) (a : Address) → inside d o ≡ Some a → o ≡ Some a
  inside_some None a h = cc
  inside_some (Some b) a h = (if_some (nat_lt b.offset (size_of d.records (get_or d.objects b.object void))) (Some b) a h).1

  with_number : (own : List Reference) (i : Trees.Expression CType) (n m : ℕ) (z : ℤ) → own ≡ to m → number_in (ty i) (constant_of i) ≡ Some z → n ≡ m
      → own ++ references i ≡ to n
  with_number own i n m z h k e = rw (h, constant_alone i (number_there (ty i) (constant_of i) z k), e) refl

  before_number : (own : List Reference) (i : Trees.Expression CType) (n m : ℕ) (z : ℤ) → own ≡ to m → number_in (ty i) (constant_of i) ≡ Some z → n ≡ m
      → references i ++ own ≡ to n
  before_number own i n m z h k e = rw (h, constant_alone i (number_there (ty i) (constant_of i) z k), e) refl

  mutual
    pub address_alone : (e : Trees.Expression CType) (a : Address) → address_in d e ≡ Some a → references e ≡ to a.object
    address_alone (Trees.expression t at node) a h = node_address t node a h

    node_address : (t : CType) (node : Trees.Node CType) (a : Address) → address_in_node d t node ≡ Some a → references_by_node node ≡ to a.object
    node_address t (Trees.address_of p) a h = path_address true p a h
    node_address t (Trees.decay p) a h = path_address false p a h
    node_address t (Trees.convert e written) a h = address_alone e a (if_some (is_pointer t) (address_in d e) a h).1
    node_address t (Trees.pointer_add op x y) a h = by_side (is_pointer (ty x)) h (address_alone x) (address_alone y)
      where
        by_side : (b : Bool) → cond b (moved d (address_in d x) (or_negated d op (number_in (ty y) (constant_of y))) (element_size d.records t))
            (moved d (address_in d y) (number_in (ty x) (constant_of x)) (element_size d.records t)) ≡ Some a
            → ((b : Address) → address_in d x ≡ Some b → references x ≡ to b.object) → ((b : Address) → address_in d y ≡ Some b → references y ≡ to b.object)
            → references x ++ references y ≡ to a.object
        by_side true h p q =
            let m = moved_from (address_in d x) (or_negated d op (number_in (ty y) (constant_of y))) (element_size d.records t) a h in
            let w = negated_there d op (number_in (ty y) (constant_of y)) m.1 m.3 in
            with_number (references x) y a.object m.0.object w.0 (p m.0 m.2) w.1 m.4
        by_side false h p q =
            let m = moved_from (address_in d y) (number_in (ty x) (constant_of x)) (element_size d.records t) a h in
            before_number (references y) x a.object m.0.object m.1 (q m.0 m.2) m.3 m.4
    node_address t node a h = cc

    path_address : (s : Bool) (p : Trees.Path CType) (a : Address) → address_of_path d s p ≡ Some a → references_by_path p ≡ to a.object
    path_address s (Trees.path t at step) a h = step_address s step a h

    step_address : (s : Bool) (step : Trees.PathNode CType) (a : Address) → address_of_step d s step ≡ Some a → references_by_step step ≡ to a.object
    step_address s (Trees.local n) a h = cc
    step_address s (Trees.object n) a h = ap (λ (a : Address). to a.object) (some_is (record { object = n; offset = 0 }) a h)
    step_address s (Trees.deref e) a h = address_alone e a h
    step_address s (Trees.index e i) a h =
        let m = moved_from (address_in d e) (number_in (ty i) (constant_of i)) (element_size d.records (ty e)) a h in
        with_number (references e) i a.object m.0.object m.1 (address_alone e m.0 m.2) m.3 m.4
    step_address s (Trees.member p r field) a h =
        let o = inside_some (moved d (address_of_path d false p) (Some (pos (offset_of d.records r field))) 1) a h in
        let m = moved_from (address_of_path d false p) (Some (pos (offset_of d.records r field))) 1 a o in
        path_address false p m.0 m.2 ∙ ap to (sym m.4)
    step_address s (Trees.element p i) a h =
        let m = subscripted_from s (path_type d p) (address_of_path d false p) (number_in (ty i) (constant_of i)) a h in
        with_number (references_by_path p) i a.object m.0.object m.1 (path_address false p m.0 m.2) m.3 m.4

  -- ---- functions, and null pointers

  mutual
    pub function_alone : (e : Trees.Expression CType) (g : ℕ) → function_in d e ≡ Some g → references e ≡ References.a_function g ∷ []
    function_alone (Trees.expression t at node) g h = node_function t node g h

    node_function : (t : CType) (node : Trees.Node CType) (g : ℕ) → function_in_node d t node ≡ Some g → references_by_node node ≡ References.a_function g ∷ []
    node_function t (Trees.function_name f) g h = ap (λ f. References.a_function f ∷ []) (some_is f g h)
    node_function t (Trees.convert e written) g h = function_alone e g (if_some (is_pointer t) (function_in d e) g h).1
    node_function t node g h = cc

  mutual
    pub null_in_alone : (e : Trees.Expression CType) → is_null_in d e ≡ true → references e ≡ []
    null_in_alone (Trees.expression t at node) h = node_null t node h

    node_null : (t : CType) (node : Trees.Node CType) → is_null_in_node d t node ≡ true → references_by_node node ≡ []
    node_null t Trees.null h = refl
    node_null t (Trees.convert e written) h =
        by_null (is_null e) refl (and_parts (is_pointer t) (cond (is_null e) true (is_null_in d e)) h).1 (null_in_alone e)
      where
        by_null : (b : Bool) → is_null e ≡ b → cond b true (is_null_in d e) ≡ true → (is_null_in d e ≡ true → references e ≡ []) → references e ≡ []
        by_null true n h again = null_alone e n
        by_null false n h again = again h
    node_null t node h = cc

  -- ---- values

  abbrev pub referred : InitialValue → List Reference
  referred (a_number kind v) = []
  referred a_null = []
  referred (an_address a) = to a.object
  referred (a_function g) = References.a_function g ∷ []

  abbrev IsOf : Trees.Expression CType → InitialValue → Type 0
  IsOf e v = references e ≡ referred v

  number_of : (e : Trees.Expression CType) (kind : IntKind) (c : Constant) (v : InitialValue) → constant_of e ≡ c
      → as_number d kind c ≡ Some v → IsOf e v
  number_of e kind (valued w) v q h =
      subst (IsOf e) (some_is (a_number kind w) v h) (constant_alone e (λ n. let no : valued w ≡ none = sym q ∙ n in cc))
  number_of e kind none v q h = cc
  number_of e kind undefined v q h = cc

  function_of : (e : Trees.Expression CType) (o : Option ℕ) (v : InitialValue) → function_in d e ≡ o → as_function d o ≡ Some v → IsOf e v
  function_of e None v q h = cc
  function_of e (Some g) v q h = subst (IsOf e) (some_is (a_function g) v h) (function_alone e g q)

  address_of : (e : Trees.Expression CType) (o : Option Address) (v : InitialValue) → address_in d e ≡ o
      → as_address d o (as_function d (function_in d e)) ≡ Some v → IsOf e v
  address_of e None v q h = function_of e (function_in d e) v refl h
  address_of e (Some a) v q h = subst (IsOf e) (some_is (an_address a) v h) (address_alone e a q)

  pointer_of : (e : Trees.Expression CType) (b : Bool) (v : InitialValue) → is_null_in d e ≡ b
      → cond b (Some a_null) (as_address d (address_in d e) (as_function d (function_in d e))) ≡ Some v → IsOf e v
  pointer_of e true v q h = subst (IsOf e) (some_is a_null v h) (null_in_alone e q)
  pointer_of e false v q h = address_of e (address_in d e) v refl h

  -- an expression refers to what its value does
  pub value_alone : (e : Trees.Expression CType) (v : InitialValue) → initial_value d e ≡ Some v → references e ≡ referred v
  value_alone e v h = by_type (ty e) h
    where
      by_type : (t : CType) → initial_in d t e ≡ Some v → IsOf e v
      by_type (integer kind) h = number_of e kind (constant_of e) v refl h
      by_type t h = pointer_of e (is_null_in d e) v refl h
