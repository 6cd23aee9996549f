-- The address that an initializer stands for is the same in a later file, where it asks for records in time (C99 6.6).
use Rattle.std.proofs.Common.{◌≡◌, ℕ, zero, suc, ◌≤◌, Bool, true, false, refl, sym, ap, ◌∙◌, subst, cond, List, [], ◌∷◌, length, arith}
use Rattle.std.proofs.Common.{inl, inr, ◌+◌}
use Rattle.std.proofs.lemmas.Bool.{leb-true, ltb-true, lt-ltb, and_parts}
use Rattle.std.proofs.lemmas.Bool.Decides.{nat_tests}
use Rattle.std.proofs.lemmas.Option.{get_or_from_slice_get}
use Rattle.std.proofs.lemmas.List.Elements.{All-cons, All-nil, All-head, All-tail}
use Rattle.std.specs.Prelude.{All, ◌++◌, ◌&&◌}
use Rattle.std.specs.Prelude.{◌⊎◌, map, get_or, nat_le, nat_lt, Option, Some, None, slice_get, ℤ, pos, negsuc}
use Rattle.lay_base.specs.declared.place.Place.{Place}
use Rattle.c_types.specs.Layouts.{size_of, offset_of}
use Rattle.c_types.specs.Limits.{AreComplete}
use Rattle.c_types.specs.Objects.{is_object}
use Rattle.c_types.specs.declared.ty.IntKind.TheVariants.{Int, Char}
use Rattle.c_types.specs.Types.{CType, void, integer, pointer, array, function, structure}
use Rattle.c_ast.specs.declared.operators.UnaryOp.TheVariants as U
use Rattle.c_ast.specs.Trees
use Rattle.c_ast.specs.Places.{first}
use Rattle.c_typed.specs.declared.operators.BinaryOp.{BinaryOp}
use Rattle.c_typed.specs.declared.operators.BinaryOp.TheVariants as B
use Rattle.c_typed.specs.declared.operators.PointerOp.{PointerOp}
use Rattle.c_typed.specs.declared.operators.PointerOp.TheVariants as P
use Rattle.c_typed.specs.Trees as Typed
use Rattle.c_typed.specs.Constants.{ty, constant_of}
use Rattle.c_typed.specs.Conversions.{is_pointer, pointed, element_of}
use Rattle.c_typed.specs.InitialValues.{Address, element_size, number_in, end_of, within, moved as moved_to, subscripted, inside, or_negated}
use Rattle.c_typed.specs.InitialValues.{address_of_path, address_in}
use Rattle.c_typed.specs.Subscripts.{is_subscript}
use Rattle.c_typed.specs.InitialValues.{InitialValue, an_address, a_null, as_address, as_function, as_number, function_in, is_null_in, initial_in}
use Rattle.c_typed.specs.Constants.{Constant, valued}
use Rattle.c_typed.specs.Constants.{is_null}
use Rattle.c_typed.specs.Conversions.{is_scalar}
use Rattle.c_types.specs.Types.{Field}
use Rattle.c_ast.specs.declared.words.Spelling.{Spelling}
use Rattle.c_erasure.specs.Noted.{type_of}
use Rattle.c_erasure.specs.Initializers.{Part, part_at, texts_of, IsText, IsOneValue, Initializes, InitializeElements, InitializeFields, IsInitializer}
use Rattle.c_erasure.specs.Initializers.{HasConstant, AreConstants}
use Rattle.c_checking_laws.proofs.WholeFiles.InTime.{AreInTime}
use Rattle.c_checking_laws.proofs.WholeFiles.Scoped.{KeepsConstants}
use Rattle.c_checking_laws.proofs.WholeFiles.TypedValues.{IsValueTyped, AreValuesTyped}
use Rattle.c_typed.specs.Mapped.{of_types, mapped_path}
use Rattle.c_typed.specs.Rules.{moving}
use Rattle.c_typed.specs.Typed.{Declared, IsTyped, IsTypedPath, IsMove, bare_ty}
use Rattle.c_erasure.specs.Erasure.{typed, Values, Erases, IsNamed, IsLiteralFor, IsAddress, IsPointed, IsSum, IsJoined, IsCall, IsSize, literal_of, place_in}
use Rattle.c_erasure.specs.Noted.{Noted, nothing, size_of as sized, Expression, Path, Thing, an_object, a_value, a_function, a_function_at, a_library_function}
use Rattle.c_erasure.specs.Noted.{type_of_path, value_of, object_value, unconverted, value, way, Node}
use Rattle.c_erasure.specs.Operators.{Kind, computes, compares, all_of, any_of, kind_of}
use Rattle.c_erasure.specs.Scopes as Scopes
use Rattle.c_erasure.specs.Scopes.{FileScope, Scope, ALocal, Entity, Purpose, in_full, value_alone, type_alone, declared, ended}
use Rattle.c_erasure.specs.Checking.Answers.{moved}
use Rattle.c_checking_laws.proofs.Extends.{Extends}
use Rattle.c_checking_laws.proofs.Values.{path_type_same}
use Rattle.c_checking_laws.proofs.WholeFiles.InTime.{IsInTime}
use Rattle.c_checking_laws.proofs.WholeFiles.Kept.{AreObjectsWhole}
use Rattle.c_checking_laws.proofs.Settled.{object_more}
use Rattle.c_checking_laws.proofs.WholeFiles.Layouts.{size_stays, offset_stays, record_in, field_object}
use Rattle.c_checking_laws.proofs.WholeFiles.Longer.{seen}

less_so : (n m : ℕ) → n ≤ m → nat_le n m ≡ true
less_so n m h = grind (arith, nat_tests)

map_back : {X Y : Type 0} (v : X → Y) (xs : List X) (k : ℕ) (y : Y) → slice_get (map v xs) k ≡ Some y → (x : X) × (slice_get xs k ≡ Some x) × (v x ≡ y)
map_back v [] k y e = cc
map_back v (x ∷ xs) zero y e = (x, refl, let f : v x ≡ y = cc in f)
map_back v (x ∷ xs) (suc k) y e = map_back v xs k y e

get_cases : (xs : List CType) (k : ℕ) → ((t : CType) × (slice_get xs k ≡ Some t)) ⊎ (get_or xs k void ≡ void)
get_cases [] k = inr refl
get_cases (t ∷ xs) zero = inl (t, refl)
get_cases (t ∷ xs) (suc k) = get_cases xs k

if_some : {A : Type 0} (b : Bool) (o : Option A) (a : A) → cond b o None ≡ Some a → (b ≡ true) × (o ≡ Some a)
if_some true o a h = (refl, h)
if_some false o a h = cc

module _ (f g : FileScope) (p : Extends f g) (complete : AreComplete f.records) (whole : AreObjectsWhole f.records f.objects) (s : Scope) (l : List ALocal) where
  abbrev D : Declared
  D = declared (moved s f)

  abbrev E : Declared
  E = declared (seen s g l)

  abbrev n : ℕ
  n = length f.records

  abbrev mp : Path → Typed.Path CType
  mp q = mapped_path (of_types (λ t. t.ty)) q

  -- ---- sizes

  object_sizes : (m : ℕ) → size_of f.records (get_or D.objects m void) ≤ size_of g.records (get_or E.objects m void)
  object_sizes m = by_case (get_cases D.objects m)
    where
      by_case : ((t : CType) × (slice_get D.objects m ≡ Some t)) ⊎ (get_or D.objects m void ≡ void)
          → size_of f.records (get_or D.objects m void) ≤ size_of g.records (get_or E.objects m void)
      by_case (inr e) = let z = ap (size_of f.records) e in omega (arith, z)
      by_case (inl h) =
          let o = map_back (λ o. o.ty) f.objects m h.0 h.1 in
          let known : is_object n h.0 ≡ true = subst (λ t. is_object n t ≡ true) o.2 (whole m o.0 o.1) in
          let a = ap (size_of f.records) (get_or_from_slice_get D.objects m h.0 void h.1) in
          let b = ap (size_of g.records) (get_or_from_slice_get E.objects m h.0 void (p.types m h.0 h.1)) in
          let c = size_stays p h.0 known in
          omega (arith, a, b, c)

  within_stays : (m : ℕ) (z : ℤ) (a : Address) → within D m z ≡ Some a → within E m z ≡ Some a
  within_stays m (negsuc k) a h = cc
  within_stays m (pos o) a h =
      let c = if_some (nat_le o (end_of D m)) (Some (record { object = m; offset = o })) a h in
      let l : o ≤ end_of D m = leb-true o (end_of D m) c.0 in
      let k = object_sizes m in
      ap (λ b. cond b (Some (record { object = m; offset = o })) None) (less_so o (end_of E m) (omega (arith, l, k))) ∙ c.1

  -- so many elements further on
  moved_stays : (o q : Option Address) (k : Option ℤ) (size more : ℕ) (a : Address) → ((b : Address) → o ≡ Some b → q ≡ Some b) → more ≡ size
      → moved_to D o k size ≡ Some a → moved_to E q k more ≡ Some a
  moved_stays None q k size more a into e h = cc
  moved_stays (Some b) q None size more a into e h = cc
  moved_stays (Some b) q (Some z) size more a into e h =
      ap (λ q. moved_to E q (Some z) more) (into b refl) ∙ ap (λ w. moved_to E (Some b) (Some z) w) e ∙ within_stays b.object _ a h

  subscripted_stays : (s : Bool) (t : CType) (o q : Option Address) (k : Option ℤ) (a : Address) → is_object n t ≡ true
      → ((b : Address) → o ≡ Some b → q ≡ Some b) → subscripted D s t o k ≡ Some a → subscripted E s t q k ≡ Some a
  subscripted_stays s (array t m) (Some b) q (Some k) a i into h =
      let c = if_some (is_subscript m s k) (moved_to D (Some b) (Some k) (size_of f.records t)) a h in
      let known = (and_parts (nat_lt 0 m) (is_object n t) i).1 in
      ap (λ q. subscripted E s (array t m) q (Some k)) (into b refl)
      ∙ ap (λ c. cond c (moved_to E (Some b) (Some k) (size_of g.records t)) None) c.0
      ∙ moved_stays (Some b) (Some b) (Some k) (size_of f.records t) (size_of g.records t) a (λ b e. e) (size_stays p t known) c.1
  subscripted_stays s (array t m) (Some b) q None a i into h = cc
  subscripted_stays s (array t m) None q k a i into h = cc
  subscripted_stays s void o q k a i into h = cc
  subscripted_stays s (integer kind) o q k a i into h = cc
  subscripted_stays s (pointer t) o q k a i into h = cc
  subscripted_stays s (function t all) o q k a i into h = cc
  subscripted_stays s (structure r) o q k a i into h = cc

  -- a field that lies in its object
  inside_some : (o : Option Address) (a : Address) → inside D o ≡ Some a → o ≡ Some a
  inside_some None a h = cc
  inside_some (Some b) a h = (if_some (nat_lt b.offset (size_of f.records (get_or D.objects b.object void))) (Some b) a h).1

  inside_stays : (a : Address) → inside D (Some a) ≡ Some a → inside E (Some a) ≡ Some a
  inside_stays a h =
      let c = if_some (nat_lt a.offset (size_of f.records (get_or D.objects a.object void))) (Some a) a h in
      let l = ltb-true a.offset (size_of f.records (get_or D.objects a.object void)) c.0 in
      let k = object_sizes a.object in
      ap (λ b. cond b (Some a) None) (lt-ltb a.offset (size_of g.records (get_or E.objects a.object void)) (omega (arith, l, k)))

  -- what a pointer points to, where that is complete
  pointed_size : (t u : CType) → pointed t ≡ Some u → is_object n u ≡ true → element_size g.records t ≡ element_size f.records t
  pointed_size (pointer t) u e i = let same : t ≡ u = cc in size_stays p t (subst (λ u. is_object n u ≡ true) (sym same) i)
  pointed_size void u e i = cc
  pointed_size (integer kind) u e i = cc
  pointed_size (array t m) u e i = cc
  pointed_size (function t all) u e i = cc
  pointed_size (structure r) u e i = cc

  moved_size : (count : ℕ) (t u w : CType) → count ≤ n → moving count t u ≡ Some w → element_size g.records t ≡ element_size f.records t
  moved_size count (pointer t) u w l e = size_stays p t (object_more count n l t (if_some (is_object count t) _ w e).0)
  moved_size count void u w l e = cc
  moved_size count (integer kind) u w l e = cc
  moved_size count (array t m) u w l e = cc
  moved_size count (function t all) u w l e = cc
  moved_size count (structure r) u w l e = cc

  -- ---- what is to be shown of values and things

  abbrev ValueStays : Expression → Type 0
  ValueStays e = IsTyped D (typed e) → (a : Address) → address_in D (typed e) ≡ Some a → address_in E (typed e) ≡ Some a

  abbrev PathStays : Path → Type 0
  PathStays q = IsTypedPath D (mp q) → (s : Bool) (a : Address) → address_of_path D s (mp q) ≡ Some a
      → (address_of_path E s (mp q) ≡ Some a) × (is_object n (type_of_path q) ≡ true)

  abbrev ThingStays : Thing → Type 0
  ThingStays (an_object q) = PathStays q
  ThingStays (a_value e) = ValueStays e
  ThingStays (a_function at m t) = Unit {0}
  ThingStays (a_function_at e) = ValueStays e
  ThingStays (a_library_function at which) = Unit {0}

  -- the value of a thing
  object_value_stays : (q : Path) (t : CType) → PathStays q → (e : Expression) → object_value q t ≡ Some e → ValueStays e
  object_value_stays q (integer kind) h e i = let same : value (integer kind) (Rattle.c_erasure.specs.Noted.place_of_path q) (Typed.load q) ≡ e = cc in
      subst ValueStays same (λ w a k. cc)
  object_value_stays q (pointer t) h e i = let same : value (pointer t) (Rattle.c_erasure.specs.Noted.place_of_path q) (Typed.load q) ≡ e = cc in
      subst ValueStays same (λ w a k. cc)
  object_value_stays q (array t m) h e i = let same : value (pointer t) (Rattle.c_erasure.specs.Noted.place_of_path q) (Typed.decay q) ≡ e = cc in
      subst ValueStays same (λ w a k. (h w.0 false a k).0)
  object_value_stays q void h e i = cc
  object_value_stays q (function t all) h e i = cc
  object_value_stays q (structure r) h e i = cc

  thing_value : (th : Thing) → ThingStays th → (e : Expression) → value_of th ≡ Some e → ValueStays e
  thing_value (an_object q) h e i = object_value_stays q (type_of_path q) h e i
  thing_value (a_value x) h e i = let same : x ≡ e = cc in subst ValueStays same h
  thing_value (a_function at m t) h e i =
      let same : value (pointer t) at (Typed.function_name m) ≡ e = cc in subst ValueStays same (λ w a k. cc)
  thing_value (a_function_at x) h e i = let same : x ≡ e = cc in subst ValueStays same h
  thing_value (a_library_function at which) h e i = cc

  -- converted or not
  converted_stays : (x : Expression) → ValueStays (unconverted x) → ValueStays x
  converted_stays (Typed.expression t at (Typed.convert e false)) h w a i = by_note t.note refl h w a i
    where
      by_note : (m : Rattle.c_erasure.specs.Noted.Note) → t.note ≡ m
          → ValueStays (Rattle.c_erasure.specs.Noted.unless_noted m e (Typed.expression t at (Typed.convert e false)))
          → ValueStays (Typed.expression t at (Typed.convert e false))
      by_note nothing k h w a i =
          let c = if_some (is_pointer t.ty) (address_in D (typed e)) a i in
          ap (λ b. cond b (address_in E (typed e)) None) c.0 ∙ h w.0 a c.1
      by_note (sized u from) k h w a i = h w a i
  converted_stays (Typed.expression t at node) h w a i = h w a i

  value_stays : (Stands : Thing → Type 0) (x : Expression) → Values Stands x → ((th : Thing) → Stands th → ThingStays th) → ValueStays x
  value_stays Stands x v h = converted_stays x (thing_value v.0 (h v.0 v.2) (unconverted x) v.1)

  -- ---- nodes

  -- one that stands for no address
  none_here : (e : Expression) → address_in D (typed e) ≡ None → ValueStays e
  none_here e n w a i = let none_is_some = sym n ∙ i in cc

  pointer_add_stays : (t : CType) (at : Place) (op : PointerOp) (x y : Expression) → ended f.ends at.at ≤ n → ValueStays x → ValueStays y
      → ValueStays (value t at (Typed.pointer_add op x y))
  pointer_add_stays t at op x y l hx hy w a h = by_side (is_pointer (ty (typed x))) refl h
    where
      move_of : (op : PointerOp) → IsMove op (ended f.ends at.at) (typed x) (typed y) t → element_size g.records t ≡ element_size f.records t
      move_of P.Add (inl m) = subst (λ t. element_size g.records t ≡ element_size f.records t) (sym m.2)
          (moved_size (ended f.ends at.at) (ty (typed x)) (bare_ty (typed y)) (ty (typed y)) l m.1)
      move_of P.Add (inr m) = subst (λ t. element_size g.records t ≡ element_size f.records t) (sym m.2)
          (moved_size (ended f.ends at.at) (ty (typed y)) (bare_ty (typed x)) (ty (typed x)) l m.1)
      move_of P.Subtract m = subst (λ t. element_size g.records t ≡ element_size f.records t) (sym m.2)
          (moved_size (ended f.ends at.at) (ty (typed x)) (bare_ty (typed y)) (ty (typed y)) l m.1)

      by_side : (b : Bool) → is_pointer (ty (typed x)) ≡ b
          → cond b (moved_to D (address_in D (typed x)) (or_negated D op (number_in (ty (typed y)) (constant_of (typed y)))) (element_size f.records t))
          (moved_to D (address_in D (typed y)) (number_in (ty (typed x)) (constant_of (typed x))) (element_size f.records t)) ≡ Some a
          → cond b (moved_to E (address_in E (typed x)) (or_negated E op (number_in (ty (typed y)) (constant_of (typed y)))) (element_size g.records t))
          (moved_to E (address_in E (typed y)) (number_in (ty (typed x)) (constant_of (typed x))) (element_size g.records t)) ≡ Some a
      by_side true e h =
          moved_stays (address_in D (typed x)) (address_in E (typed x)) (or_negated D op (number_in (ty (typed y)) (constant_of (typed y))))
          (element_size f.records t) (element_size g.records t) a (λ b k. hx w.0 b k) (move_of op w.2) h
      by_side false e h =
          moved_stays (address_in D (typed y)) (address_in E (typed y)) (number_in (ty (typed x)) (constant_of (typed x)))
          (element_size f.records t) (element_size g.records t) a (λ b k. hy w.1 b k) (move_of op w.2) h

  deref_stays : (t : CType) (at : Place) (e : Expression) → ended f.ends at.at ≤ n → ValueStays e → PathStays (way t at (Typed.deref e))
  deref_stays t at e l h w s a i = (h w.0 a i, object_more (ended f.ends at.at) n l t w.3)

  member_stays : (t : CType) (at : Place) (q : Path) (r k : ℕ) → PathStays q → PathStays (way t at (Typed.member q r k))
  member_stays t at q r k h w s a i =
      let j = inside_some (moved_to D (address_of_path D false (mp q)) (Some (pos (offset_of f.records r k))) 1) a i in
      let m = moved_parts (address_of_path D false (mp q)) _ 1 a j in
      let b = h w.0 false m.0 m.1 in
      let is : is_object n (structure r) ≡ true = subst (λ t. is_object n t ≡ true) (sym (path_type_same q) ∙ w.1) b.1 in
      let rec = record_in f.records r is in (
        ap (λ o. inside E (moved_to E (address_of_path E false (mp q)) (Some (pos o)) 1)) (offset_stays p r k rec.0 rec.1)
            ∙ ap (inside E) (moved_stays (address_of_path D false (mp q)) (address_of_path E false (mp q)) (Some (pos (offset_of f.records r k))) 1 1 a
            (λ c e. (h w.0 false c e).0) refl j) ∙ inside_stays a (ap (inside D) (sym j) ∙ i),
        field_object f.records complete r k t w.2,
      )
    where
      moved_parts : (o : Option Address) (k : Option ℤ) (size : ℕ) (a : Address) → moved_to D o k size ≡ Some a → (b : Address) × (o ≡ Some b)
      moved_parts None k size a h = cc
      moved_parts (Some b) None size a h = cc
      moved_parts (Some b) (Some z) size a h = (b, refl)

  -- an element behind a pointer
  index_stays : (t : CType) (at : Place) (e i : Expression) → ended f.ends at.at ≤ n → ValueStays e → PathStays (way t at (Typed.index e i))
  index_stays t at e i l h w s a k = (
    moved_stays (address_in D (typed e)) (address_in E (typed e)) (number_in (ty (typed i)) (constant_of (typed i))) (element_size f.records (ty (typed e)))
        (element_size g.records (ty (typed e))) a (λ b c. h w.0 b c) (pointed_size (ty (typed e)) t w.5 (object_more (ended f.ends at.at) n l t w.6)) k,
    object_more (ended f.ends at.at) n l t w.6,
  )

  subscripted_parts : (s : Bool) (t : CType) (o : Option Address) (k : Option ℤ) (a : Address) → subscripted D s t o k ≡ Some a
      → (b : Address) × (o ≡ Some b)
  subscripted_parts s (array t m) (Some b) k a h = (b, refl)
  subscripted_parts s (array t m) None k a h = cc
  subscripted_parts s void o k a h = cc
  subscripted_parts s (integer kind) o k a h = cc
  subscripted_parts s (pointer t) o k a h = cc
  subscripted_parts s (function t all) o k a h = cc
  subscripted_parts s (structure r) o k a h = cc

  element_object : (t u : CType) → element_of t ≡ Some u → is_object n t ≡ true → is_object n u ≡ true
  element_object (array t m) u e i = let same : t ≡ u = cc in subst (λ t. is_object n t ≡ true) same (and_parts (nat_lt 0 m) (is_object n t) i).1
  element_object void u e i = cc
  element_object (integer kind) u e i = cc
  element_object (pointer t) u e i = cc
  element_object (function t all) u e i = cc
  element_object (structure r) u e i = cc

  element_stays : (t : CType) (at : Place) (q : Path) (i : Expression) → PathStays q → PathStays (way t at (Typed.element q i))
  element_stays t at (Typed.path u from step) i h w s a k =
      let q : Path = Typed.path u from step in
      let m = subscripted_parts s u.ty (address_of_path D false (mp q)) (number_in (ty (typed i)) (constant_of (typed i))) a k in
      let b = h w.0 false m.0 m.1 in (
        subscripted_stays s u.ty (address_of_path D false (mp q)) (address_of_path E false (mp q)) (number_in (ty (typed i)) (constant_of (typed i))) a b.1
            (λ c e. (h w.0 false c e).0) k,
        element_object u.ty t w.3 b.1,
      )

  object_stays : (t : CType) (at : Place) (m : ℕ) → PathStays (way t at (Typed.object m))
  object_stays t at m w s a k =
      let o = map_back (λ o. o.ty) f.objects m t w in
      (k, subst (λ t. is_object n t ≡ true) o.2 (whole m o.0 o.1))

  unmade_stays : (t : CType) (at : Place) → PathStays (way t at (Typed.deref (value (pointer t) at Typed.null)))
  unmade_stays t at w s a k = cc

  cast_stays : (t : CType) (at : Place) (e : Expression) → ValueStays e → ValueStays (value t at (Typed.convert e true))
  cast_stays t at e h w a i =
      let c = if_some (is_pointer t) (address_in D (typed e)) a i in
      ap (λ b. cond b (address_in E (typed e)) None) c.0 ∙ h w.0 a c.1

  named_stays : (at : Place) (e : Entity) (th : Thing) → IsNamed at e th → ThingStays th
  named_stays at (Scopes.typedef t) th h = absurd h
  named_stays at (Scopes.enumerator v) th h = subst ThingStays (sym h) (none_here (value (integer Int) at (Typed.constant v)) refl)
  named_stays at (Scopes.an_object m t) th h = subst ThingStays (sym h) (object_stays t at m)
  named_stays at (Scopes.a_function m t) th h = subst ThingStays (sym h) tt
  named_stays at (Scopes.a_library_function which) th h = subst ThingStays (sym h) tt
  named_stays at (Scopes.a_local m t) th h = subst ThingStays (sym h) (λ w s a k. cc)
  named_stays at (Scopes.a_parameter t) th h = subst ThingStays (sym h) (unmade_stays t at)

  literal_stays : (p : Purpose) (sc : Scope) (at : Place) (bytes : List ℕ) (th : Thing) → IsLiteralFor p sc at bytes th → ThingStays th
  literal_stays in_full sc at bytes th h = subst ThingStays (sym h.1) (object_stays (array (integer Char) (length bytes)) at h.0)
  literal_stays value_alone sc at bytes th h = subst ThingStays (sym h) (unmade_stays (array (integer Char) (length bytes)) at)
  literal_stays type_alone sc at bytes th h = subst ThingStays (sym h) (unmade_stays (array (integer Char) (length bytes)) at)

  address_stays : (at : Place) (operand th : Thing) → IsAddress at operand th → ThingStays operand → ThingStays th
  address_stays at (an_object q) th h k = subst ThingStays (sym h.2) (λ w a i. (k w.0 true a i).0)
  address_stays at (a_function from m t) th h k = subst ThingStays (sym h) (none_here (value (pointer t) at (Typed.function_name m)) refl)
  address_stays at (a_function_at e) th h k = subst ThingStays (sym h) k
  address_stays at (a_value e) th h k = absurd h
  address_stays at (a_library_function from which) th h k = absurd h

  pointed_stays : (at : Place) (e : Expression) (th : Thing) → ended f.ends at.at ≤ n → IsPointed at e th → ValueStays e → ThingStays th
  pointed_stays at e th l (inl h) k = subst ThingStays (sym h.2) (deref_stays h.0 at e l k)
  pointed_stays at e th l (inr h) k = subst ThingStays (sym h.4) k

  size_stays_here : (sc : Scope) (at by : ℕ) (t : CType) (th : Thing) → IsSize sc at by t th → ThingStays th
  size_stays_here sc at by t th h = subst ThingStays (sym h.2) (λ w a k. cc)

  call_stays : (c : Thing) (t : CType) (at : Place) (xs : Typed.Expressions Noted) (node : Node) → IsCall c xs node → ValueStays (value t at node)
  call_stays (a_function from m u) t at xs node h = subst (λ node. ValueStays (value t at node)) (sym h) (λ w a i. cc)
  call_stays (a_library_function from which) t at xs node h = subst (λ node. ValueStays (value t at node)) (sym h) (λ w a i. cc)
  call_stays (a_value e) t at xs node h = subst (λ node. ValueStays (value t at node)) (sym h) (λ w a i. cc)
  call_stays (a_function_at e) t at xs node h = subst (λ node. ValueStays (value t at node)) (sym h) (λ w a i. cc)
  call_stays (an_object p) t at xs node h = subst (λ node. ValueStays (value t at node)) (sym h.2) (λ w a i. cc)

  sum_stays : (op : BinaryOp) (t : CType) (at : Place) (x y : Expression) (node : Node) → ended f.ends at.at ≤ n → IsSum op x y node
      → ValueStays x → ValueStays y → ValueStays (value t at node)
  sum_stays B.Add t at x y node l (inl h) hx hy = subst (λ node. ValueStays (value t at node)) (sym h) (λ w a i. cc)
  sum_stays B.Add t at x y node l (inr h) hx hy = subst (λ node. ValueStays (value t at node)) (sym h) (pointer_add_stays t at P.Add x y l hx hy)
  sum_stays B.Subtract t at x y node l (inl h) hx hy = subst (λ node. ValueStays (value t at node)) (sym h) (λ w a i. cc)
  sum_stays B.Subtract t at x y node l (inr (inl h)) hx hy =
      subst (λ node. ValueStays (value t at node)) (sym h) (pointer_add_stays t at P.Subtract x y l hx hy)
  sum_stays B.Subtract t at x y node l (inr (inr h)) hx hy = subst (λ node. ValueStays (value t at node)) (sym h) (λ w a i. cc)
  sum_stays op t at x y node l h hx hy = subst (λ node. ValueStays (value t at node)) (sym h) (λ w a i. cc)

  joined_stays : (kind : Kind) (t : CType) (at : Place) (x y : Expression) (node : Node) → ended f.ends at.at ≤ n → IsJoined kind x y node
      → ValueStays x → ValueStays y → ValueStays (value t at node)
  joined_stays (computes op) t at x y node l h hx hy = sum_stays op t at x y node l h hx hy
  joined_stays (compares op) t at x y node l h hx hy = subst (λ node. ValueStays (value t at node)) (sym h) (λ w a i. cc)
  joined_stays all_of t at x y node l h hx hy = subst (λ node. ValueStays (value t at node)) (sym h) (λ w a i. cc)
  joined_stays any_of t at x y node l h hx hy = subst (λ node. ValueStays (value t at node)) (sym h) (λ w a i. cc)

  -- ---- expressions

  abbrev S : Scope
  S = seen s g l

  erased_stays : (a : Trees.Expression) (th : Thing) → Erases a S th → IsInTime f.ends n a → ThingStays th
  erased_stays (Trees.name x) th h i = named_stays (place_in S x.from) h.0 th h.2
  erased_stays (Trees.number x v kind) th h i = subst ThingStays (sym h) (λ w a k. cc)
  erased_stays (Trees.character x v) th h i = subst ThingStays (sym h) (λ w a k. cc)
  erased_stays (Trees.texts all) th h i = literal_stays S.purpose S (place_in S (first (Trees.texts all))) (literal_of all) th h
  erased_stays (Trees.paren left a right) th h i = erased_stays a th h i
  erased_stays (Trees.index a left b right) th (inl h) i =
      subst ThingStays (sym h.4) (element_stays h.0 (place_in S (first a)) h.1 h.2 (erased_stays a (an_object h.1) h.5 i.1))
  erased_stays (Trees.index a left b right) th (inr (inl h)) i =
      subst ThingStays (sym h.3)
      (index_stays h.0 (place_in S (first a)) h.1 h.2 i.0 (value_stays (Erases a S) h.1 h.4 (λ th k. erased_stays a th k i.1)))
  erased_stays (Trees.index a left b right) th (inr (inr h)) i =
      subst ThingStays (sym h.7)
      (deref_stays h.0 (place_in S (first a)) (value h.1 (place_in S (first a)) (Typed.pointer_add P.Add h.2 h.3)) i.0
      (pointer_add_stays h.1 (place_in S (first a)) P.Add h.2 h.3 i.0
      (value_stays (Erases a S) h.2 h.5 (λ th k. erased_stays a th k i.1))
      (value_stays (Erases b S) h.3 h.6 (λ th k. erased_stays b th k i.2))))
  erased_stays (Trees.call m left all right) th h i = subst ThingStays (sym h.7) (call_stays h.1 h.0 (place_in S (first m)) h.2 h.3 h.6)
  erased_stays (Trees.dot a at x) th h i =
      subst ThingStays (sym h.4) (member_stays h.0 (place_in S (first a)) h.1 h.2 h.3 (erased_stays a (an_object h.1) h.6 i))
  erased_stays (Trees.arrow a at x) th h i =
      subst ThingStays (sym h.7)
      (member_stays h.0 (place_in S (first a)) (way h.1 (place_in S (first a)) (Typed.deref h.2)) h.3 h.4
      (deref_stays h.1 (place_in S (first a)) h.2 i.0 (value_stays (Erases a S) h.2 h.6 (λ th k. erased_stays a th k i.1))))
  erased_stays (Trees.post a op at) th h i = subst ThingStays (sym h.2) (λ w a k. cc)
  erased_stays (Trees.pre op at a) th h i = subst ThingStays (sym h.2) (λ w a k. cc)
  erased_stays (Trees.unary U.Address at a) th h i = address_stays (place_in S at) h.0 th h.1 (erased_stays a h.0 h.2 i.1)
  erased_stays (Trees.unary U.Deref at a) th h i =
      pointed_stays (place_in S at) h.0 th i.0 h.1 (value_stays (Erases a S) h.0 h.2 (λ th k. erased_stays a th k i.1))
  erased_stays (Trees.unary U.Plus at a) th h i = subst ThingStays (sym h.2) (λ w a k. cc)
  erased_stays (Trees.unary U.Minus at a) th h i = subst ThingStays (sym h.2) (λ w a k. cc)
  erased_stays (Trees.unary U.Complement at a) th h i = subst ThingStays (sym h.2) (λ w a k. cc)
  erased_stays (Trees.unary U.Not at a) th h i = subst ThingStays (sym h.2) (λ w a k. cc)
  erased_stays (Trees.sizeof_expression at a) th h i = size_stays_here S at at h.0 th h.2
  erased_stays (Trees.sizeof_type at left m right) th h i = size_stays_here S at right h.0 th h.3
  erased_stays (Trees.cast left m right a) th h i =
      subst ThingStays (sym h.5) (cast_stays h.0 (place_in S left) h.1 (value_stays (Erases a S) h.1 h.4 (λ th k. erased_stays a th k i)))
  erased_stays (Trees.binary a op at b) th h i =
      subst ThingStays (sym h.7)
      (joined_stays (kind_of op) h.0 (place_in S (first a)) h.1 h.2 h.3 i.0 h.6
      (value_stays (Erases a S) h.1 h.4 (λ th k. erased_stays a th k i.1))
      (value_stays (Erases b S) h.2 h.5 (λ th k. erased_stays b th k i.2)))
  erased_stays (Trees.cond a question b colon c) th h i = subst ThingStays (sym h.4) (λ w a k. cc)
  erased_stays (Trees.assign a op at b) th (inl h) i = subst ThingStays (sym h.4) (λ w a k. cc)
  erased_stays (Trees.assign a op at b) th (inr (inl h)) i = subst ThingStays (sym h.4) (λ w a k. cc)
  erased_stays (Trees.assign a op at b) th (inr (inr h)) i = subst ThingStays (sym h.5) (λ w a k. cc)
  erased_stays (Trees.comma a at b) th h i = subst ThingStays (sym h.3) (λ w a k. cc)
  erased_stays (Trees.braces left all comma right) th h i = absurd h

  -- ---- initial values

  null_same : (e : Typed.Expression CType) → is_null_in D e ≡ is_null_in E e
  null_same (Typed.expression t at (Typed.convert e w)) = ap (λ b. is_pointer t && cond (is_null e) true b) (null_same e)
  null_same (Typed.expression t at node) = refl

  function_same : (e : Typed.Expression CType) → function_in D e ≡ function_in E e
  function_same (Typed.expression t at (Typed.convert e w)) = ap (λ o. cond (is_pointer t) o None) (function_same e)
  function_same (Typed.expression t at node) = refl

  address_or : (o q : Option Address) (other : Option InitialValue) (v : InitialValue) → ((a : Address) → o ≡ Some a → q ≡ Some a)
      → as_address D o other ≡ Some v → (w : InitialValue) × (as_address E q other ≡ Some w)
  address_or None None other v into h = (v, h)
  address_or None (Some a) other v into h = (an_address a, refl)
  address_or (Some a) q other v into h = (an_address a, ap (λ q. as_address E q other) (into a refl))

  function_as : (o : Option ℕ) → as_function D o ≡ as_function E o
  function_as None = refl
  function_as (Some k) = refl

  -- one that is no integer
  other_value : (e : Expression) → ValueStays e → IsTyped D (typed e) → (v : InitialValue)
      → cond (is_null_in D (typed e)) (Some a_null) (as_address D (address_in D (typed e)) (as_function D (function_in D (typed e)))) ≡ Some v
      → (w : InitialValue) × (cond (is_null_in E (typed e)) (Some a_null) (as_address E (address_in E (typed e)) (as_function E (function_in E (typed e)))) ≡ Some w)
  other_value e stays w v h = by_null (is_null_in D (typed e)) (is_null_in E (typed e)) (null_same (typed e)) h
    where
      by_null : (b c : Bool) → b ≡ c
          → cond b (Some a_null) (as_address D (address_in D (typed e)) (as_function D (function_in D (typed e)))) ≡ Some v
          → (w : InitialValue) × (cond c (Some a_null) (as_address E (address_in E (typed e)) (as_function E (function_in E (typed e)))) ≡ Some w)
      by_null true true q h = (a_null, refl)
      by_null false false q h =
          let same : as_function D (function_in D (typed e)) ≡ as_function E (function_in E (typed e)) =
          function_as (function_in D (typed e)) ∙ ap (as_function E) (function_same (typed e)) in
          address_or (address_in D (typed e)) (address_in E (typed e)) (as_function E (function_in E (typed e))) v (λ a i. stays w a i)
          (ap (as_address D (address_in D (typed e))) (sym same) ∙ h)
      by_null true false q h = cc
      by_null false true q h = cc

  abbrev Has : (d : Declared) → CType → Expression → Type 0
  Has d t e = (v : InitialValue) × (initial_in d t (typed e) ≡ Some v)

  value_has : (t : CType) (e : Expression) → ValueStays e → IsTyped D (typed e) → Has D t e → Has E t e
  value_has (integer kind) e stays w h = number_has (constant_of (typed e)) h
    where
      number_has : (c : Constant) → (v : InitialValue) × (as_number D kind c ≡ Some v) → (v : InitialValue) × (as_number E kind c ≡ Some v)
      number_has (valued v) h = h
      number_has c h = let e = h.1 in cc
  value_has void e stays w h = other_value e stays w h.0 h.1
  value_has (pointer t) e stays w h = other_value e stays w h.0 h.1
  value_has (array t m) e stays w h = other_value e stays w h.0 h.1
  value_has (function t all) e stays w h = other_value e stays w h.0 h.1
  value_has (structure r) e stays w h = other_value e stays w h.0 h.1

  -- ---- parts

  abbrev Was : Part → Type 0
  Was part = IsValueTyped D part.value × HasConstant D part.value

  abbrev Will : Part → Type 0
  Will part = HasConstant E part.value

  one_part : (at : ℕ) (x : Expression) → ValueStays x → All Was (part_at at (Typed.value x)) → All Will (part_at at (Typed.value x))
  one_part at x stays k =
      let h = All-head Was (record { offset = at; value = Typed.value x }) [] k in
      All-cons Will (record { offset = at; value = Typed.value x }) [] (value_has (ty (typed x)) x stays h.0 h.1) (All-nil Will)

  text_part : (o : Option (List Spelling)) (t : CType) (at : ℕ) (parts : List Part) → IsText o S t at parts → All Will parts
  text_part None t at parts h = absurd h
  text_part (Some all) t at parts h =
      subst (All Will) (sym h.3) (All-cons Will (record { offset = at; value = Typed.text h.0 }) [] tt (All-nil Will))

  plain_stays : (a : Trees.Expression) (o : Option (List Spelling)) (t : CType) (at : ℕ) (parts : List Part)
      → ((x : Expression) × (is_scalar t ≡ true) × (type_of x ≡ t) × (parts ≡ part_at at (Typed.value x)) × Values (Erases a S) x)
      ⊎ ((r : ℕ) × (p : Path) × (t ≡ structure r) × (type_of_path p ≡ t) × (parts ≡ part_at at (Typed.record_of p)) × Erases a S (an_object p))
      ⊎ IsText o S t at parts → IsInTime f.ends n a → All Was parts → All Will parts
  plain_stays a o t at parts (inl h) i k =
      subst (All Will) (sym h.3)
      (one_part at h.0 (value_stays (Erases a S) h.0 h.4 (λ th k. erased_stays a th k i)) (subst (All Was) h.3 k))
  plain_stays a o t at parts (inr (inl h)) i k =
      absurd (All-head Was (record { offset = at; value = Typed.record_of h.1 }) [] (subst (All Was) h.4 k)).1
  plain_stays a o t at parts (inr (inr h)) i k = text_part o t at parts h

  one_value_stays : (all : Trees.Arguments) (x : Expression) → IsOneValue all S x → AreInTime f.ends n all → ValueStays x
  one_value_stays Trees.no_arguments x h i = absurd h
  one_value_stays (Trees.and_argument comma a Trees.no_arguments) x h i = value_stays (Erases a S) x h (λ th k. erased_stays a th k i.0)
  one_value_stays (Trees.and_argument comma a (Trees.and_argument comma2 b more)) x h i = absurd h

  joined_parts : (own rest : List Part) → (All Was own → All Will own) → (All Was rest → All Will rest) → All Was (own ++ rest) → All Will (own ++ rest)
  joined_parts [] rest h k all = k all
  joined_parts (part ∷ own) rest h k all =
      All-cons Will part (own ++ rest) (All-head Will part own (h (firsts (part ∷ own) rest all)))
      (joined_parts own rest (λ w. All-tail Will part own (h (All-cons Was part own (All-head Was part (own ++ rest) all) w))) k
      (All-tail Was part (own ++ rest) all))
    where
      firsts : (xs ys : List Part) → All Was (xs ++ ys) → All Was xs
      firsts [] ys h = All-nil Was
      firsts (x ∷ xs) ys h = All-cons Was x xs (All-head Was x (xs ++ ys) h) (firsts xs ys (All-tail Was x (xs ++ ys) h))

  mutual
    initial_stays : (a : Trees.Expression) (t : CType) (at : ℕ) (parts : List Part) → Initializes a S t at parts → IsInTime f.ends n a
        → All Was parts → All Will parts
    initial_stays (Trees.braces left all last right) t at parts (inl h) i k =
        subst (All Will) (sym h.3) (one_part at h.0 (one_value_stays all h.0 h.4 i) (subst (All Was) h.3 k))
    initial_stays (Trees.braces left all last right) t at parts (inr (inl h)) i k = elements_stay all h.1 h.0 at parts h.4 i k
    initial_stays (Trees.braces left all last right) t at parts (inr (inr (inl h))) i k = fields_stay all h.0 0 h.1.fields at parts h.4 i k
    initial_stays (Trees.braces left all last right) t at parts (inr (inr (inr h))) i k =
        text_part (texts_of (Trees.braces left all last right)) t at parts h
    initial_stays a t at parts h i k = plain_stays a (texts_of a) t at parts h i k

    elements_stay : (all : Trees.Arguments) (u : CType) (m at : ℕ) (parts : List Part) → InitializeElements all S u m at parts → AreInTime f.ends n all
        → All Was parts → All Will parts
    elements_stay Trees.no_arguments u m at parts h i k = subst (All Will) (sym h) (All-nil Will)
    elements_stay (Trees.and_argument comma a more) u m at parts h i k =
        subst (All Will) (sym h.4)
        (joined_parts h.1 h.2 (initial_stays a u at h.1 h.5 i.0) (elements_stay more u h.0 (at + size_of g.records u) h.2 h.6 i.1) (subst (All Was) h.4 k))

    fields_stay : (all : Trees.Arguments) (r j : ℕ) (fields : List Field) (at : ℕ) (parts : List Part) → InitializeFields all S r j fields at parts
        → AreInTime f.ends n all → All Was parts → All Will parts
    fields_stay Trees.no_arguments r j fields at parts h i k = subst (All Will) (sym h) (All-nil Will)
    fields_stay (Trees.and_argument comma a more) r j fields at parts h i k =
        subst (All Will) (sym h.5)
        (joined_parts h.2 h.3 (initial_stays a h.0.ty (at + offset_of g.records r j) h.2 h.6 i.0) (fields_stay more r (j + 1) h.1 at h.3 h.7 i.1)
        (subst (All Was) h.5 k))

  -- ---- whole initializers

  both_parts : (parts : List Part) → All (λ part. IsValueTyped D part.value) parts → All (λ part. HasConstant D part.value) parts → All Was parts
  both_parts [] h k = All-nil Was
  both_parts (part ∷ more) h k =
      All-cons Was part more (All-head (λ (part : Part). IsValueTyped D part.value) part more h, All-head (λ (part : Part). HasConstant D part.value) part more k)
      (both_parts more (All-tail (λ (part : Part). IsValueTyped D part.value) part more h) (All-tail (λ (part : Part). HasConstant D part.value) part more k))

  pub constants_stay : (a : Trees.Expression) (t : CType) (i : Typed.Initializer Noted) → IsInTime f.ends n a → IsInitializer a S t i
      → AreValuesTyped D i → AreConstants D i → AreConstants E i
  constants_stay a t i timely (inl h) v k =
      let w = subst (AreValuesTyped D) h.1 v in
      let c = subst (AreConstants D) h.1 k in
      let was : All Was (part_at 0 (Typed.value h.0)) = All-cons Was (record { offset = 0; value = Typed.value h.0 }) [] (w, c) (All-nil Was) in
      let will = initial_stays a t 0 (part_at 0 (Typed.value h.0)) h.3 timely was in
      subst (AreConstants E) (sym h.1) (All-head Will (record { offset = 0; value = Typed.value h.0 }) [] will)
  constants_stay a t i timely (inr (inl h)) v k = absurd (subst (AreConstants D) h.1 k)
  constants_stay a t i timely (inr (inr h)) v k =
      let w = subst (AreValuesTyped D) h.1 v in
      let c = subst (AreConstants D) h.1 k in
      subst (AreConstants E) (sym h.1) (initial_stays a t 0 h.0 h.3 timely (both_parts h.0 w c))

-- the constants of an initializer are constants in a later file
pub keeps_constants : (f g : FileScope) → Extends f g → KeepsConstants f g
keeps_constants f g p complete whole a s t i l timely found is typed_so values constants =
    constants_stay f g p complete whole s l a t i timely is values constants
