-- The address that an expression stands for in the whole file is the same in the part that has what it reaches (C99 6.6).
use Rattle.std.proofs.Common.{◌≡◌, ℕ, zero, suc, ◌≤◌, ◌<◌, Bool, true, false, refl, sym, ap, ◌∙◌, subst, cond, List, [], ◌∷◌, length, arith}
use Rattle.std.proofs.Common.{inl, inr}
use Rattle.std.proofs.lemmas.Bool.{and_parts, ltb-true}
use Rattle.std.proofs.lemmas.Option.{get_or_from_slice_get}
use Rattle.std.specs.Prelude.{map, get_or, nat_le, nat_lt, min, ◌-◌, ◌^◌, Option, Some, None, slice_get, ℤ, pos, negsuc}
use Rattle.std.specs.Option.{option_map}
use Rattle.lay_base.specs.declared.place.Place.{Place}
use Rattle.c_types.specs.Layouts.{size_of, offset_of}
use Rattle.c_types.specs.Objects.{is_object}
use Rattle.c_types.specs.Types.{CType, void, integer, pointer, array, function, structure, Field, Record}
use Rattle.c_typed.specs.declared.operators.PointerOp.{PointerOp}
use Rattle.c_typed.specs.declared.operators.PointerOp.TheVariants as P
use Rattle.c_typed.specs.Trees as Typed
use Rattle.c_typed.specs.Constants.{ty, constant_of}
use Rattle.c_typed.specs.Conversions.{is_pointer, pointed, element_of}
use Rattle.c_typed.specs.InitialValues.{Address, element_size, number_in, end_of, within, moved as moved_to, subscripted, inside, or_negated}
use Rattle.c_typed.specs.InitialValues.{address_of_path}
use Rattle.c_typed.specs.Subscripts.{is_subscript}
use Rattle.c_typed.specs.InitialValues.{address_in}
use Rattle.c_typed.specs.Mapped.{of_types, mapped_path}
use Rattle.c_typed.specs.Rules.{moving}
use Rattle.c_typed.specs.Typed.{Declared, IsTyped, IsTypedPath, IsMove, bare_ty, field_type, type_in}
use Rattle.c_erasure.specs.Erasure.{typed, Values}
use Rattle.c_erasure.specs.Noted.{Note, nothing, size_of as sized, Expression, Path, Thing, an_object, a_value, a_function, a_function_at}
use Rattle.c_erasure.specs.Noted.{a_library_function, place_of_path, unless_noted, type_of_path, value_of, object_value, unconverted, value, way}
use Rattle.c_erasure.specs.Scopes.{FileScope, Scope, ALocal, AnObject, declared, ended}
use Rattle.c_erasure.specs.Checking.Answers.{moved}
use Rattle.c_checking_laws.proofs.Extends.{Extends}
use Rattle.c_checking_laws.proofs.Values.{path_type_same}
use Rattle.c_checking_laws.proofs.CompleteNodes.{some_is}
use Rattle.c_checking_laws.proofs.CompletePart.{whole, Lists, part, IsWhole, complete_stays}
use Rattle.c_checking_laws.proofs.WholeFiles.Layouts.{size_stays, offset_stays, record_in}

if_some : {A : Type 0} (b : Bool) (o : Option A) (a : A) → cond b o None ≡ Some a → (b ≡ true) × (o ≡ Some a)
if_some true o a h = (refl, h)
if_some false o a h = cc

taken : {X Y : Type 0} (v : X → Y) (xs : List X) (k : ℕ) → k < length xs → (y : Y) × (slice_get (map v xs) k ≡ Some y)
taken v [] k h = absurd (omega (arith, h))
taken v (x ∷ xs) zero h = (v x, refl)
taken v (x ∷ xs) (suc k) h = taken v xs k (omega (arith, h))

-- the field of a record
record IsFieldOf (records : List Record) (r k : ℕ) (t : CType) : Type 0 where
  pub rec : Record
  pub field : Field
  pub there : slice_get records r ≡ Some rec
  pub is : slice_get rec.fields k ≡ Some field
  pub same : field.ty ≡ t

field_of : (records : List Record) (r k : ℕ) (t : CType) → field_type records r k ≡ Some t → IsFieldOf records r k t
field_of records r k t h = by_record (slice_get records r) refl h
  where
    by_field : (rec : Record) → slice_get records r ≡ Some rec → (o : Option Field) → slice_get rec.fields k ≡ o → option_map (λ f. f.ty) o ≡ Some t
        → IsFieldOf records r k t
    by_field rec e None i h = cc
    by_field rec e (Some f) i h = record { rec = rec; field = f; there = e; is = i; same = some_is f.ty t h }

    by_record : (o : Option Record) → slice_get records r ≡ o → type_in o k ≡ Some t → IsFieldOf records r k t
    by_record None e h = cc
    by_record (Some rec) e h = by_field rec e (slice_get rec.fields k) refl h

module _ (g : FileScope) (w : IsWhole g) (ls : List ALocal) (s : Scope) (m : Lists) (p : Extends (part g m) g) where
  -- in the whole file, and in the part
  abbrev pub D : Declared
  D = declared (whole g ls s)

  abbrev pub E : Declared
  E = declared (moved s (part g m))

  abbrev pub n : ℕ
  n = length m.records

  abbrev pub mp : Path → Typed.Path CType
  mp q = mapped_path (of_types (λ t. t.ty)) q

  -- ---- sizes

  -- an object that the part has, of a type that is complete there
  abbrev pub IsKnown : ℕ → Type 0
  IsKnown k = (t : CType) × (slice_get E.objects k ≡ Some t) × (is_object n t ≡ true)

  abbrev Same : ℕ → Type 0
  Same k = size_of g.records (get_or D.objects k void) ≡ size_of m.records (get_or E.objects k void)

  size_known : (k : ℕ) → IsKnown k → Same k
  size_known k h =
      let a = ap (size_of m.records) (get_or_from_slice_get E.objects k h.0 void h.1) in
      let b = ap (size_of g.records) (get_or_from_slice_get D.objects k h.0 void (p.types k h.0 h.1)) in
      b ∙ size_stays p h.0 h.2 ∙ sym a

  -- an address in such an object
  abbrev pub IsBack : (o : Option Address) → Address → Type 0
  IsBack o a = (o ≡ Some a) × IsKnown a.object

  within_back : (k : ℕ) (z : ℤ) (a : Address) → IsKnown k → within D k z ≡ Some a → IsBack (within E k z) a
  within_back k (negsuc j) a i h = cc
  within_back k (pos o) a i h =
      let c = if_some (nat_le o (end_of D k)) (Some (record { object = k; offset = o })) a h in
      let e : k ≡ a.object = ap (λ (a : Address). a.object) (some_is (record { object = k; offset = o }) a c.1) in (
        ap (λ z. cond (nat_le o (min z (2 ^ 32 - 1))) (Some (record { object = k; offset = o })) None) (sym (size_known k i)) ∙ h,
        subst IsKnown e i,
      )

  -- so many elements further on
  moved_back : (o q : Option Address) (k : Option ℤ) (size other : ℕ) (a : Address) → ((b : Address) → o ≡ Some b → IsBack q b) → other ≡ size
      → moved_to D o k size ≡ Some a → IsBack (moved_to E q k other) a
  moved_back None q k size other a into e h = cc
  moved_back (Some b) q None size other a into e h = cc
  moved_back (Some b) q (Some z) size other a into e h =
      let i = into b refl in
      let j = within_back b.object _ a i.1 h in
      (ap (λ q. moved_to E q (Some z) other) i.0 ∙ ap (λ w. moved_to E (Some b) (Some z) w) e ∙ j.0, j.1)

  subscripted_back : (s : Bool) (t : CType) (o q : Option Address) (k : Option ℤ) (a : Address) → is_object n t ≡ true
      → ((b : Address) → o ≡ Some b → IsBack q b) → subscripted D s t o k ≡ Some a → IsBack (subscripted E s t q k) a
  subscripted_back s (array t c) (Some b) q (Some k) a i into h =
      let x = if_some (is_subscript c s k) (moved_to D (Some b) (Some k) (size_of g.records t)) a h in
      let known = (and_parts (nat_lt 0 c) (is_object n t) i).1 in
      let y = into b refl in
      let j = moved_back (Some b) (Some b) (Some k) (size_of g.records t) (size_of m.records t) a
      (λ d e. (e, subst (λ (d : Address). IsKnown d.object) (some_is b d e) y.1)) (sym (size_stays p t known)) x.1 in (
        ap (λ q. subscripted E s (array t c) q (Some k)) y.0 ∙ ap (λ c. cond c (moved_to E (Some b) (Some k) (size_of m.records t)) None) x.0 ∙ j.0,
        j.1,
      )
  subscripted_back s (array t c) (Some b) q None a i into h = cc
  subscripted_back s (array t c) None q k a i into h = cc
  subscripted_back s void o q k a i into h = cc
  subscripted_back s (integer kind) o q k a i into h = cc
  subscripted_back s (pointer t) o q k a i into h = cc
  subscripted_back s (function t all) o q k a i into h = cc
  subscripted_back s (structure r) o q k a i into h = cc

  -- a field that lies in its object
  inside_some : (o : Option Address) (a : Address) → inside D o ≡ Some a → o ≡ Some a
  inside_some None a h = cc
  inside_some (Some b) a h = (if_some (nat_lt b.offset (size_of g.records (get_or D.objects b.object void))) (Some b) a h).1

  inside_back : (a : Address) → IsKnown a.object → inside D (Some a) ≡ Some a → inside E (Some a) ≡ Some a
  inside_back a i h = ap (λ z. cond (nat_lt a.offset z) (Some a) None) (sym (size_known a.object i)) ∙ h

  -- what a pointer points to, where that is complete
  pointed_size : (t u : CType) → pointed t ≡ Some u → is_object n u ≡ true → element_size m.records t ≡ element_size g.records t
  pointed_size (pointer t) u e i =
      let same : t ≡ u = cc in sym (size_stays p t (subst (λ u. is_object n u ≡ true) (sym same) i))
  pointed_size void u e i = cc
  pointed_size (integer kind) u e i = cc
  pointed_size (array t c) u e i = cc
  pointed_size (function t all) u e i = cc
  pointed_size (structure r) u e i = cc

  moved_size : (count : ℕ) (t u v : CType) → count ≤ n → moving count t u ≡ Some v → element_size m.records t ≡ element_size g.records t
  moved_size count (pointer t) u v l e = sym (size_stays p t (complete_stays count n t l (if_some (is_object count t) _ v e).0))
  moved_size count void u v l e = cc
  moved_size count (integer kind) u v l e = cc
  moved_size count (array t c) u v l e = cc
  moved_size count (function t all) u v l e = cc
  moved_size count (structure r) u v l e = cc

  -- ---- what is to be shown of values and things

  abbrev pub ValueBack : Expression → Type 0
  ValueBack e = IsTyped D (typed e) → (a : Address) → address_in D (typed e) ≡ Some a → IsBack (address_in E (typed e)) a

  abbrev pub PathBack : Path → Type 0
  PathBack q = IsTypedPath D (mp q) → (s : Bool) (a : Address) → address_of_path D s (mp q) ≡ Some a
      → IsBack (address_of_path E s (mp q)) a × (is_object n (type_of_path q) ≡ true)

  abbrev pub ThingBack : Thing → Type 0
  ThingBack (an_object q) = PathBack q
  ThingBack (a_value e) = ValueBack e
  ThingBack (a_function at k t) = Unit {0}
  ThingBack (a_function_at e) = ValueBack e
  ThingBack (a_library_function at which) = Unit {0}

  -- the value of a thing
  object_value_back : (q : Path) (t : CType) → PathBack q → (e : Expression) → object_value q t ≡ Some e → ValueBack e
  object_value_back q (integer kind) h e i = let same : value (integer kind) (place_of_path q) (Typed.load q) ≡ e = cc in
      subst ValueBack same (λ w a k. cc)
  object_value_back q (pointer t) h e i = let same : value (pointer t) (place_of_path q) (Typed.load q) ≡ e = cc in
      subst ValueBack same (λ w a k. cc)
  object_value_back q (array t c) h e i = let same : value (pointer t) (place_of_path q) (Typed.decay q) ≡ e = cc in
      subst ValueBack same (λ w a k. (h w.0 false a k).0)
  object_value_back q void h e i = cc
  object_value_back q (function t all) h e i = cc
  object_value_back q (structure r) h e i = cc

  thing_value : (th : Thing) → ThingBack th → (e : Expression) → value_of th ≡ Some e → ValueBack e
  thing_value (an_object q) h e i = object_value_back q (type_of_path q) h e i
  thing_value (a_value x) h e i = let same : x ≡ e = cc in subst ValueBack same h
  thing_value (a_function at k t) h e i =
      let same : value (pointer t) at (Typed.function_name k) ≡ e = cc in subst ValueBack same (λ w a k. cc)
  thing_value (a_function_at x) h e i = let same : x ≡ e = cc in subst ValueBack same h
  thing_value (a_library_function at which) h e i = cc

  -- converted or not
  converted_back : (x : Expression) → ValueBack (unconverted x) → ValueBack x
  converted_back (Typed.expression t at (Typed.convert e false)) h w a i = by_note t.note refl h w a i
    where
      by_note : (m : Note) → t.note ≡ m → ValueBack (unless_noted m e (Typed.expression t at (Typed.convert e false)))
          → ValueBack (Typed.expression t at (Typed.convert e false))
      by_note nothing k h w a i =
          let c = if_some (is_pointer t.ty) (address_in D (typed e)) a i in
          let j = h w.0 a c.1 in
          (ap (λ b. cond b (address_in E (typed e)) None) c.0 ∙ j.0, j.1)
      by_note (sized u from) k h w a i = h w a i
  converted_back (Typed.expression t at node) h w a i = h w a i

  pub value_back : (Stands : Thing → Type 0) (x : Expression) → Values Stands x → ((th : Thing) → Stands th → ThingBack th) → ValueBack x
  value_back Stands x v h = converted_back x (thing_value v.0 (h v.0 v.2) (unconverted x) v.1)

  -- ---- nodes

  -- one that stands for no address
  pub none_here : (e : Expression) → address_in D (typed e) ≡ None → ValueBack e
  none_here e n w a i = let none_is_some = sym n ∙ i in cc

  pub pointer_add_back : (t : CType) (at : Place) (op : PointerOp) (x y : Expression) → ended g.ends at.at ≤ n → ValueBack x → ValueBack y
      → ValueBack (value t at (Typed.pointer_add op x y))
  pointer_add_back t at op x y l hx hy w a h = by_side (is_pointer (ty (typed x))) refl h
    where
      move_of : (op : PointerOp) → IsMove op (ended g.ends at.at) (typed x) (typed y) t → element_size m.records t ≡ element_size g.records t
      move_of P.Add (inl v) = subst (λ t. element_size m.records t ≡ element_size g.records t) (sym v.2)
          (moved_size (ended g.ends at.at) (ty (typed x)) (bare_ty (typed y)) (ty (typed y)) l v.1)
      move_of P.Add (inr v) = subst (λ t. element_size m.records t ≡ element_size g.records t) (sym v.2)
          (moved_size (ended g.ends at.at) (ty (typed y)) (bare_ty (typed x)) (ty (typed x)) l v.1)
      move_of P.Subtract v = subst (λ t. element_size m.records t ≡ element_size g.records t) (sym v.2)
          (moved_size (ended g.ends at.at) (ty (typed x)) (bare_ty (typed y)) (ty (typed y)) l v.1)

      by_side : (b : Bool) → is_pointer (ty (typed x)) ≡ b
          → cond b (moved_to D (address_in D (typed x)) (or_negated D op (number_in (ty (typed y)) (constant_of (typed y))))
          (element_size g.records t))
          (moved_to D (address_in D (typed y)) (number_in (ty (typed x)) (constant_of (typed x))) (element_size g.records t)) ≡ Some a
          → IsBack (cond b
          (moved_to E (address_in E (typed x)) (or_negated E op (number_in (ty (typed y)) (constant_of (typed y)))) (element_size m.records t))
          (moved_to E (address_in E (typed y)) (number_in (ty (typed x)) (constant_of (typed x))) (element_size m.records t))) a
      by_side true e h =
          moved_back (address_in D (typed x)) (address_in E (typed x)) (or_negated D op (number_in (ty (typed y)) (constant_of (typed y))))
          (element_size g.records t) (element_size m.records t) a (λ b k. hx w.0 b k) (move_of op w.2) h
      by_side false e h =
          moved_back (address_in D (typed y)) (address_in E (typed y)) (number_in (ty (typed x)) (constant_of (typed x)))
          (element_size g.records t) (element_size m.records t) a (λ b k. hy w.1 b k) (move_of op w.2) h

  pub deref_back : (t : CType) (at : Place) (e : Expression) → ended g.ends at.at ≤ n → ValueBack e → PathBack (way t at (Typed.deref e))
  deref_back t at e l h w s a i = (h w.0 a i, complete_stays (ended g.ends at.at) n t l w.3)

  -- fields of a complete record are complete
  field_known : (r k : ℕ) (t : CType) → is_object n (structure r) ≡ true → field_type g.records r k ≡ Some t → is_object n t ≡ true
  field_known r k t i h =
      let z = field_of g.records r k t h in
      let less : r < n = ltb-true r n i in
      subst (λ t. is_object n t ≡ true) z.same (complete_stays r n z.field.ty (omega (arith, less))
      (w.fields_complete r k z.rec z.field z.there z.is))

  moved_parts : (o : Option Address) (k : Option ℤ) (size : ℕ) (a : Address) → moved_to D o k size ≡ Some a → (b : Address) × (o ≡ Some b)
  moved_parts None k size a h = cc
  moved_parts (Some b) None size a h = cc
  moved_parts (Some b) (Some z) size a h = (b, refl)

  pub member_back : (t : CType) (at : Place) (q : Path) (r k : ℕ) → PathBack q → PathBack (way t at (Typed.member q r k))
  member_back t at q r k h v s a i =
      let c = inside_some (moved_to D (address_of_path D false (mp q)) (Some (pos (offset_of g.records r k))) 1) a i in
      let x = moved_parts (address_of_path D false (mp q)) _ 1 a c in
      let b = h v.0 false x.0 x.1 in
      let is : is_object n (structure r) ≡ true = subst (λ t. is_object n t ≡ true) (sym (path_type_same q) ∙ v.1) b.1 in
      let rec = record_in m.records r is in
      let j : moved_to D (address_of_path D false (mp q)) (Some (pos (offset_of m.records r k))) 1 ≡ Some a =
      subst (λ o. moved_to D (address_of_path D false (mp q)) (Some (pos o)) 1 ≡ Some a) (offset_stays p r k rec.0 rec.1) c in
      let y = moved_back (address_of_path D false (mp q)) (address_of_path E false (mp q)) (Some (pos (offset_of m.records r k))) 1 1 a
      (λ c e. (h v.0 false c e).0) refl j in
      ((ap (inside E) y.0 ∙ inside_back a y.1 (ap (inside D) (sym c) ∙ i), y.1), field_known r k t is v.2)

  -- an element behind a pointer
  pub index_back : (t : CType) (at : Place) (e i : Expression) → ended g.ends at.at ≤ n → ValueBack e → PathBack (way t at (Typed.index e i))
  index_back t at e i l h v s a k = (
    moved_back (address_in D (typed e)) (address_in E (typed e)) (number_in (ty (typed i)) (constant_of (typed i))) (element_size g.records (ty
        (typed e)))
        (element_size m.records (ty (typed e))) a (λ b c. h v.0 b c) (pointed_size (ty (typed e)) t v.5 (complete_stays
        (ended g.ends at.at) n t l v.6)) k,
    complete_stays (ended g.ends at.at) n t l v.6,
  )

  subscripted_parts : (s : Bool) (t : CType) (o : Option Address) (k : Option ℤ) (a : Address) → subscripted D s t o k ≡ Some a
      → (b : Address) × (o ≡ Some b)
  subscripted_parts s (array t c) (Some b) k a h = (b, refl)
  subscripted_parts s (array t c) None k a h = cc
  subscripted_parts s void o k a h = cc
  subscripted_parts s (integer kind) o k a h = cc
  subscripted_parts s (pointer t) o k a h = cc
  subscripted_parts s (function t all) o k a h = cc
  subscripted_parts s (structure r) o k a h = cc

  element_object : (t u : CType) → element_of t ≡ Some u → is_object n t ≡ true → is_object n u ≡ true
  element_object (array t c) u e i = let same : t ≡ u = cc in subst (λ t. is_object n t ≡ true) same (and_parts (nat_lt 0 c) (is_object n t) i).1
  element_object void u e i = cc
  element_object (integer kind) u e i = cc
  element_object (pointer t) u e i = cc
  element_object (function t all) u e i = cc
  element_object (structure r) u e i = cc

  pub element_back : (t : CType) (at : Place) (q : Path) (i : Expression) → PathBack q → PathBack (way t at (Typed.element q i))
  element_back t at (Typed.path u from step) i h v s a k =
      let q : Path = Typed.path u from step in
      let x = subscripted_parts s u.ty (address_of_path D false (mp q)) (number_in (ty (typed i)) (constant_of (typed i))) a k in
      let b = h v.0 false x.0 x.1 in (
        subscripted_back s u.ty (address_of_path D false (mp q)) (address_of_path E false (mp q)) (number_in (ty (typed i)) (constant_of (typed i))) a b.1
            (λ c e. (h v.0 false c e).0) k,
        element_object u.ty t v.3 b.1,
      )

  -- an object that the part has
  pub object_back : (t : CType) (at : Place) (k : ℕ) → k < length m.objects → is_object n t ≡ true → PathBack (way t at (Typed.object k))
  object_back t at k less i v s a h =
      let z = taken (λ (o : AnObject). o.ty) m.objects k less in
      let e : z.0 ≡ t = some_is z.0 t (sym (p.types k z.0 z.1) ∙ v) in
      let same : k ≡ a.object = ap (λ (a : Address). a.object) (some_is (record { object = k; offset = 0 }) a h) in
      ((h, subst IsKnown same (z.0, z.1, subst (λ t. is_object n t ≡ true) (sym e) i)), i)

  pub unmade_back : (t : CType) (at : Place) → PathBack (way t at (Typed.deref (value (pointer t) at Typed.null)))
  unmade_back t at v s a k = cc

  pub cast_back : (t : CType) (at : Place) (e : Expression) → ValueBack e → ValueBack (value t at (Typed.convert e true))
  cast_back t at e h v a i =
      let c = if_some (is_pointer t) (address_in D (typed e)) a i in
      let j = h v.0 a c.1 in
      (ap (λ b. cond b (address_in E (typed e)) None) c.0 ∙ j.0, j.1)
