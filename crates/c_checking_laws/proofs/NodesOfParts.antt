-- Members, calls, sizes and string literals: what is found stands for its part of the text and is well typed (C99 6.4.5, 6.5.2, 6.5.3.4).
use Rattle.std.proofs.Common.{◌≡◌, ℕ, suc, ◌+◌, ◌≤◌, Bool, true, false, refl, sym, ap, ◌∙◌, subst, cond, List, [], ◌∷◌, ◌++◌, length, arith}
use Rattle.std.proofs.lemmas.Bool.{and_parts}
use Rattle.std.proofs.lemmas.Slice.Eq.{bytes_eq-Decides}
use Rattle.std.proofs.lemmas.Bool.Decides.{nat_tests}
use Rattle.std.specs.Prelude.{Option, Some, None, Ok, slice_get, nat_le, ◌%◌, ◌^◌}
use Rattle.std.specs.Option.{option_map}
use Rattle.std.specs.Str.{bytes_eq}
use Rattle.lay_base.specs.declared.place.Place.{Place}
use Rattle.lay_base.specs.declared.faults.Rule.TheVariants as R
use Rattle.c_types.specs.declared.ty.IntKind.TheVariants.{UInt}
use Rattle.c_types.specs.Types.{CType, CTypes, void, integer, pointer, array, function, structure, Field, Record}
use Rattle.c_types.specs.Layouts.{size_of}
use Rattle.c_types.specs.Objects.{is_object}
use Rattle.c_types.proofs.Growing.{layouts_stay}
use Rattle.c_typed.specs.Trees as Typed
use Rattle.c_typed.specs.Mapped.{of_types, mapped_all}
use Rattle.c_typed.specs.Conversions.{pointed}
use Rattle.c_typed.specs.Fits.{assigns, library_type}
use Rattle.c_typed.specs.Typed.{field_type, type_in, IsTyped, IsTypedPath, IsConverted, AreArguments}
use Rattle.c_typed.specs.declared.program.MentionKind.TheVariants.{Sizeof}
use Rattle.c_erasure.specs.Broken.{Fault, ill_typed, called_type, pointed_type, misplaced}
use Rattle.c_erasure.specs.Erasure.{typed, Values, place_in, IsField, IsCall, IsSize, IsOfType}
use Rattle.c_erasure.specs.Noted.{Noted, Expression, Path, Node, Thing, an_object, a_value, a_function, a_function_at, a_library_function, value, way}
use Rattle.c_erasure.specs.Noted.{type_of, type_of_path, value_of}
use Rattle.c_erasure.specs.Noted.{object_value, size_of as sized}
use Rattle.c_erasure.specs.Scopes.{Scope, declared, IsMentioned}
use Rattle.c_erasure.specs.Checking.Nodes.{null, field_from, field_in, member_to, member_of_type, dot_in, arrow_to, arrow_in}
use Rattle.c_erasure.specs.Checking.Nodes.{signature_of, signature_in, argument_in, call_through, call_in, size_node, is_complete, sized_or, sized_type}
use Rattle.c_erasure.specs.Checking.Nodes.{measured_type}
use Rattle.c_erasure.specs.Checking.Nodes.{measured_in}
use Rattle.c_erasure.specs.Checking.Finding.{complete}
use Rattle.c_checking_laws.proofs.Results.{given, only_if, chosen}
use Rattle.c_checking_laws.proofs.Values.{typed_path, type_same, path_type_same, IsValue, Stands, operand, found_worth}

-- ---- members (6.5.2.3)

pub same_bytes : (x y : List ℕ) → bytes_eq x y ≡ true → x ≡ y
same_bytes x y h = (bytes_eq-Decides x y).0 h

abbrev IsFieldFrom : ℕ → List Field → List ℕ → ℕ × CType → Type 0
IsFieldFrom k all x z = (j : ℕ) × (f : Field) × (z.0 ≡ k + j) × (slice_get all j ≡ Some f) × (f.name ≡ x) × (f.ty ≡ z.1)

field_found : (k : ℕ) (all : List Field) (x : List ℕ) (z : ℕ × CType) → field_from k all x ≡ Some z → IsFieldFrom k all x z
field_found k [] x z h = cc
field_found k (f ∷ more) x z h = by_test (bytes_eq f.name x) refl (λ h. field_found (k + 1) more x z h) h
  where
    by_test : (b : Bool) → bytes_eq f.name x ≡ b → (field_from (k + 1) more x ≡ Some z → IsFieldFrom (k + 1) more x z)
        → cond b (Some (k, f.ty)) (field_from (k + 1) more x) ≡ Some z → IsFieldFrom k (f ∷ more) x z
    by_test true e later h =
        let q : (k, f.ty) ≡ z = cc in
        let n : k ≡ z.0 = ap (λ (z : ℕ × CType). z.0) q in
        (0, f, omega (arith, n), refl, same_bytes f.name x e, ap (λ (z : ℕ × CType). z.1) q)
    by_test false e later h = let r = later h in (suc r.0, r.1, omega (arith, r.2), r.3, r.4, r.5)

module _ (records : List Record) (s : Scope) (stay : (k : ℕ) (r : Record) → slice_get records k ≡ Some r → slice_get s.file.records k ≡ Some r) where
  pub record IsMember (count : ℕ) (at : Place) (p : Path) (u : CType) (x : List ℕ) (th : Thing) : Type 0 where
    pub r : ℕ
    pub k : ℕ
    pub t : CType
    pub is_record : u ≡ structure r
    pub is_complete : is_object count u ≡ true
    pub field : IsField s r x k t
    pub typed : field_type s.file.records r k ≡ Some t
    pub is : th ≡ an_object (way t at (Typed.member p r k))

  member_found : (count named : ℕ) (at : Place) (p : Path) (u : CType) (x : List ℕ) (th : Thing) → member_of_type records count named at p u x ≡ Ok th
      → IsMember count at p u x th
  member_found count named at p void x th h = cc
  member_found count named at p (integer kind) x th h = cc
  member_found count named at p (pointer t) x th h = cc
  member_found count named at p (array t n) x th h = cc
  member_found count named at p (function t all) x th h = cc
  member_found count named at p (structure r) x th h = by_record (slice_get records r) refl b.1
    where
      b : (is_object count (structure r) ≡ true) × (member_to named at p r (field_in (slice_get records r) x) ≡ Ok th)
      b = only_if (is_object count (structure r)) _ _ _ th h

      by_field : (rec : Record) → slice_get records r ≡ Some rec → (o : Option (ℕ × CType)) → field_from 0 rec.fields x ≡ o
          → member_to named at p r o ≡ Ok th → IsMember count at p (structure r) x th
      by_field rec e None f h = cc
      by_field rec e (Some z) f h =
          let w = field_found 0 rec.fields x z f in
          let n : z.0 ≡ w.0 = omega (arith, w.2) in
          let g : slice_get rec.fields z.0 ≡ Some w.1 = subst (λ k. slice_get rec.fields k ≡ Some w.1) (sym n) w.3 in
          let there = stay r rec e in
          given (IsMember count at p (structure r) x) _ th h (record {
            r = r;
            k = z.0;
            t = z.1;
            is_record = refl;
            is_complete = b.0;
            field = (rec, w.1, there, g, w.4, w.5);
            typed = ap (λ o. type_in o z.0) there ∙ ap (λ o. option_map (λ (f : Field). f.ty) o) g ∙ ap Some w.5;
            is = refl;
          })

      by_record : (o : Option Record) → slice_get records r ≡ o → member_to named at p r (field_in o x) ≡ Ok th → IsMember count at p (structure r) x th
      by_record None e h = cc
      by_record (Some rec) e h = by_field rec e (field_from 0 rec.fields x) refl h

  abbrev pub IsDot : (Thing → Type 0) → Place → List ℕ → Thing → Type 0
  IsDot Is at x th = (t : CType) × (p : Path) × (r k : ℕ) × (th ≡ an_object (way t at (Typed.member p r k))) × IsField s r x k t × Is (an_object p)

  pub dot_made : (Is : Thing → Type 0) (count named : ℕ) (at : Place) (operand : Thing) → Stands Is s operand → (x : List ℕ)
      → (th : Thing) → dot_in records count named at operand x ≡ Ok th → Stands (IsDot Is at x) s th
  unfolding dot_in
  dot_made Is count named at (an_object p) v x th h =
      let m = member_found count named at p (type_of_path p) x th h in
      let y : Stands (IsDot Is at x) s (an_object (way m.t at (Typed.member p m.r m.k))) =
      ((m.t, p, m.r, m.k, refl, m.field, v.0), (v.1, path_type_same p ∙ m.is_record, m.typed), tt) in
      subst (Stands (IsDot Is at x) s) (sym m.is) y
  dot_made Is count named at (a_value e) v x th h = cc
  dot_made Is count named at (a_function f_at f t) v x th h = cc
  dot_made Is count named at (a_function_at e) v x th h = cc
  dot_made Is count named at (a_library_function f_at which) v x th h = cc

  abbrev pub IsArrow : (Thing → Type 0) → Place → List ℕ → Thing → Type 0
  IsArrow Is at x th = (t u : CType) × (e : Expression) × (r k : ℕ) × IsField s r x k t × Values Is e
      × (th ≡ an_object (way t at (Typed.member (way u at (Typed.deref e)) r k)))

  pub arrow_made : (Is : Thing → Type 0) (named at : ℕ) (e : Expression) → IsValue Is s e → (x : List ℕ)
      → (th : Thing) → arrow_in records (complete s at) named (place_in s at) e x ≡ Ok th → Stands (IsArrow Is (place_in s at) x) s th
  unfolding arrow_in
  arrow_made Is named at e v x th h = by_type (type_of e) refl h
    where
      by_type : (u : CType) → type_of e ≡ u → arrow_to records (complete s at) named (place_in s at) e u x ≡ Ok th
          → Stands (IsArrow Is (place_in s at) x) s th
      by_type void q h = cc
      by_type (integer kind) q h = cc
      by_type (array t n) q h = cc
      by_type (function t all) q h = cc
      by_type (structure r) q h = cc
      by_type (pointer t) q h =
          let p : Path = way t (place_in s at) (Typed.deref e) in
          let m = member_found (complete s at) named (place_in s at) p t x th h in
          let d : IsTypedPath (declared s) (typed_path p) = (v.1, v.2, ap pointed (type_same e ∙ q), m.is_complete) in
          let y : Stands (IsArrow Is (place_in s at) x) s (an_object (way m.t (place_in s at) (Typed.member p m.r m.k))) =
          ((m.t, t, e, m.r, m.k, m.field, v.0, refl), (d, m.is_record, m.typed), tt) in
          subst (Stands (IsArrow Is (place_in s at) x) s) (sym m.is) y

-- ---- calls (6.5.2.2)

abbrev pub typed_all : Typed.Expressions Noted → Typed.Expressions CType
typed_all all = mapped_all (of_types (λ t. t.ty)) all

pub signature_is : (at : ℕ) (th : Thing) (z : CTypes × CType) → signature_in at th ≡ Ok z → called_type th ≡ Some (function z.1 z.0)
unfolding signature_in
signature_is at th z h = by_type (called_type th) h
  where
    by_type : (o : Option CType) → signature_of at o ≡ Ok z → o ≡ Some (function z.1 z.0)
    by_type None h = cc
    by_type (Some void) h = cc
    by_type (Some (integer kind)) h = cc
    by_type (Some (pointer t)) h = cc
    by_type (Some (array t n)) h = cc
    by_type (Some (structure r)) h = cc
    by_type (Some (function t all)) h = given (λ (z : CTypes × CType). Some (function t all) ≡ Some (function z.1 z.0)) (all, t) z h refl

pub argument_made : (Is : Thing → Type 0) (s : Scope) (at : ℕ) (t : CType) (x : Expression) → IsValue Is s x → (y : Expression) → argument_in at t x ≡ Ok y
    → Values Is y × IsTyped (declared s) (typed y) × IsConverted (typed y) t
unfolding argument_in
argument_made Is s at t x v y h =
    let b = only_if (assigns (type_of x) (null x) t) _ _ _ y h in
    let o = operand Is s t x v in
    given (λ y. Values Is y × IsTyped (declared s) (typed y) × IsConverted (typed y) t) _ y b.1
    (o.values, o.is_typed, (rw (o.bare_type_is, o.null_is) b.0, o.type_is))

-- the value through which a function is called
points_there : (t u : CType) → pointed_type t ≡ Some u → t ≡ pointer u
points_there (pointer v) u h = let e : v ≡ u = cc in ap pointer e
points_there void u h = cc
points_there (integer kind) u h = cc
points_there (array v n) u h = cc
points_there (function v all) u h = cc
points_there (structure r) u h = cc

pointer_value : (p : Path) (u : CType) (t : CType) → t ≡ pointer u → (e : Expression) → object_value p t ≡ Some e → type_of e ≡ pointer u
pointer_value p u (pointer v) q e h =
    let y : Expression = value (pointer v) _ (Typed.load p) in
    subst (λ e. type_of e ≡ pointer u) (some y e h) q
  where
    some : (y e : Expression) → Some y ≡ Some e → y ≡ e
    some y e h = cc
pointer_value p u void q e h = cc
pointer_value p u (integer kind) q e h = cc
pointer_value p u (array v n) q e h = cc
pointer_value p u (function v all) q e h = cc
pointer_value p u (structure r) q e h = cc

module _ (Is : Thing → Type 0) (s : Scope) (at : Place) (t : CType) (parameters : CTypes) (all : Typed.Expressions Noted)
    (typed_arguments : AreArguments (declared s) parameters (typed_all all)) where
  abbrev pub IsCalled : Thing → Type 0
  IsCalled th = (t : CType) × (g : Thing) × (node : Node) × Is g × IsCall g all node × (th ≡ a_value (value t at node))

  through : (g : Thing) (e : Expression) → IsValue Is s e → Is g → value_of g ≡ Some e → type_of e ≡ pointer (function t parameters)
      → ((node : Node) → node ≡ Typed.call_through e all → IsCall g all node)
      → (th : Thing) → call_through t at all (value_of g) ≡ Ok th → Stands IsCalled s th
  through g e v i w q call th h =
      let h : call_through t at all (Some e) ≡ Ok th = subst (λ o. call_through t at all o ≡ Ok th) w h in
      given (Stands IsCalled s) _ th h
      ((t, g, Typed.call_through e all, i, call _ refl, refl), (parameters, v.1, v.2, type_same e ∙ q, typed_arguments), (refl, λ count p. refl))

  pub call_made : (g : Thing) → Stands Is s g → called_type g ≡ Some (function t parameters) → (th : Thing) → call_in at g t all ≡ Ok th → Stands IsCalled s th
  unfolding call_in
  call_made (a_function from f u) v c th h =
      let e : u ≡ function t parameters = cc in
      given (Stands IsCalled s) _ th h
      ((t, a_function from f u, Typed.call f all, v.0, refl, refl), (parameters, v.1 ∙ c, typed_arguments), (refl, λ count p. refl))
  call_made (a_library_function from which) v c th h =
      let e : library_type which ≡ function t parameters = cc in
      given (Stands IsCalled s) _ th h
      ((t, a_library_function from which, Typed.library which all, v.0, refl, refl), (parameters, e, typed_arguments), (refl, λ count p. refl))
  call_made (a_value e) v c th h =
      through (a_value e) e (found_worth Is s (a_value e) v e refl).0 v.0 refl (points_there (type_of e) _ c) (λ node n. n) th h
  call_made (a_function_at e) v c th h =
      through (a_function_at e) e (found_worth Is s (a_function_at e) v e refl).0 v.0 refl (points_there (type_of e) _ c) (λ node n. n) th h
  call_made (an_object p) v c th h = by_value (value_of (an_object p)) refl
    where
      by_value : (o : Option Expression) → value_of (an_object p) ≡ o → Stands IsCalled s th
      by_value None e = let f : call_through t at all None ≡ Ok th = subst (λ o. call_through t at all o ≡ Ok th) e h in cc
      by_value (Some x) e =
          through (an_object p) x (found_worth Is s (an_object p) v x e).0 v.0 e
          (pointer_value p (function t parameters) (type_of_path p) (points_there (type_of_path p) _ c) x e) (λ node n. (x, e, n)) th h

-- ---- sizes (6.5.3.4)

pub complete_is : (records : List Record) (count : ℕ) (t : CType) → is_complete records count t ≡ true
    → (is_object count t ≡ true) × (is_object (length records) t ≡ true)
complete_is records count t h = and_parts (is_object count t) (is_object (length records) t) h

pub record IsSized (records : List Record) (count : ℕ) (t : CType) : Type 0 where
  pub is_complete : is_object count t ≡ true
  pub is_known : is_object (length records) t ≡ true
  pub is_limited : size_of records t ≤ 16777216

sized_or_is : (records : List Record) (count at : ℕ) (sizeless : Fault) (t u : CType) → sized_or records count at sizeless t ≡ Ok u
    → IsSized records count u × (t ≡ u)
sized_or_is records count at sizeless t u h =
    chosen (is_complete records count t) _ _ u (IsSized records count u × (t ≡ u)) h
    (λ b h. let c = complete_is records count t b in
    chosen (nat_le (size_of records t) 16777216) _ _ u (IsSized records count u × (t ≡ u)) h
    (λ l h. given (λ u. IsSized records count u × (t ≡ u)) t u h
    (record { is_complete = c.0; is_known = c.1; is_limited = limited (size_of records t) l }, refl))
    (λ l h. cc))
    (λ b h. cc)
  where
    limited : (n : ℕ) → nat_le n 16777216 ≡ true → n ≤ 16777216
    limited n h = grind (arith, nat_tests)

pub sized_is : (records : List Record) (count at : ℕ) (t u : CType) → sized_type records count at t ≡ Ok u → IsSized records count u × (t ≡ u)
unfolding sized_type
sized_is records count at t u h = sized_or_is records count at (ill_typed R.Incomplete at) t u h

pub measured_is : (records : List Record) (count at from : ℕ) (th : Thing) (u : CType) → measured_in records count at from th ≡ Ok u
    → IsSized records count u × IsOfType th u
unfolding measured_in measured_type
measured_is records count at from (an_object p) u h = sized_or_is records count at (misplaced (an_object p) R.Incomplete at from) (type_of_path p) u h
measured_is records count at from (a_value e) u h = sized_or_is records count at (misplaced (a_value e) R.Incomplete at from) (type_of e) u h
measured_is records count at from (a_function f_at f t) u h = cc
measured_is records count at from (a_function_at e) u h = cc
measured_is records count at from (a_library_function f_at which) u h = cc

pub size_made : (s : Scope) (records more : List Record) → s.file.records ≡ records ++ more → (at by : ℕ) (t : CType) → IsSized records (complete s by) t
    → IsMentioned s Sizeof t at → Stands (IsSize s at by t) s (size_node records (place_in s at) t)
size_made s records more e at by t z m =
    let n : size_of s.file.records t ≡ size_of records t = ap (λ all. size_of all t) e ∙ (layouts_stay records more).sizes t z.is_known in
    let l : size_of records t % 2 ^ 32 ≡ size_of records t = omega (arith, z.is_limited) in (
      (
        z.is_complete,
        m,
        ap (λ n. a_value (Typed.expression (record { ty = integer UInt; note = sized t at }) (place_in s at) (Typed.constant n))) (sym n),
        rw n z.is_limited,
      ),
      (UInt, refl, l),
      (refl, λ count p. cc),
    )
