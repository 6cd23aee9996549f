-- Subscripts, calls, members and sizes: what is made of the parts of a well typed node is that node (C99 6.5.2, 6.5.3.4).
use Rattle.std.proofs.Common.{◌≡◌, ◌≢◌, ℕ, zero, suc, ◌+◌, ◌≤◌, Bool, true, false, refl, sym, ap, ◌∙◌, subst, cond, inl, inr, arith, List, [], ◌∷◌, length}
use Rattle.std.proofs.lemmas.Bool.{le-leb}
use Rattle.std.proofs.lemmas.Slice.Eq.{bytes_eq-Decides}
use Rattle.std.specs.List.{AllByRecursion}
use Rattle.std.proofs.lemmas.List.Elements.{recursion_from_All}
use Rattle.std.specs.Prelude.{Some, Ok, ◌⊎◌, nat_le, slice_get, map, All}
use Rattle.std.specs.Str.{bytes_eq}
use Rattle.lay_base.specs.declared.place.Place.{Place}
use Rattle.lay_base.specs.declared.faults.Rule.TheVariants as R
use Rattle.c_types.specs.Types.{CType, CTypes, void, integer, pointer, array, function, structure, Field, Record}
use Rattle.c_types.specs.Layouts.{size_of}
use Rattle.c_types.specs.Objects.{is_object}
use Rattle.c_typed.specs.declared.operators.PointerOp.TheVariants as P
use Rattle.c_typed.specs.Trees as Typed
use Rattle.c_typed.specs.Mapped.{of_types, mapped_all}
use Rattle.c_typed.specs.Constants.{ty}
use Rattle.c_typed.specs.Conversions.{is_integer, pointed, element_of}
use Rattle.c_typed.specs.Fits.{assigns}
use Rattle.c_typed.specs.Rules.{promoting, points_to_object}
use Rattle.c_typed.specs.Typed.{Declared, bare_ty, IsTypedPath, IsMoved, IsConverted}
use Rattle.c_erasure.specs.Broken.{Fault, ill_typed, called_type, misplaced}
use Rattle.c_erasure.specs.Declarators.{AreDifferent}
use Rattle.c_erasure.specs.Erasure.{typed, IsCall, IsOfType}
use Rattle.c_erasure.specs.Noted.{Noted, Expression, Path, Node, Thing, an_object, a_value, a_function, a_function_at, a_library_function}
use Rattle.c_erasure.specs.Noted.{value, way, type_of, type_of_path, unconverted}
use Rattle.c_erasure.specs.Checking.Answers.{refused}
use Rattle.c_erasure.specs.Checking.Nodes.{null, index_in, array_of_type, array_of, element_in}
use Rattle.c_erasure.specs.Checking.Nodes.{signature_of, signature_in, argument_in, call_through, call_in, field_from, field_in, member_to, member_of_type}
use Rattle.c_erasure.specs.Checking.Nodes.{dot_in}
use Rattle.c_erasure.specs.Checking.Nodes.{arrow_to, arrow_in, measured_type, sized_or, sized_type, measured_in}
use Rattle.c_checking_laws.proofs.Results.{ok}
use Rattle.c_checking_laws.proofs.Values.{typed_path, unconverted_same}
use Rattle.c_checking_laws.proofs.CompleteNodes

abbrev pub typed_all : Typed.Expressions Noted → Typed.Expressions CType
typed_all all = mapped_all (of_types (λ t. t.ty)) all

-- ---- fields by their names

same_bytes : (x y : List ℕ) → x ≡ y → bytes_eq x y ≡ true
same_bytes x y h = (bytes_eq-Decides x y).1 h

other_bytes : (x y : List ℕ) → x ≢ y → bytes_eq x y ≡ false
other_bytes x y h = by_test (bytes_eq x y) refl
  where
    by_test : (b : Bool) → bytes_eq x y ≡ b → b ≡ false
    by_test true e = absurd (h ((bytes_eq-Decides x y).0 e))
    by_test false e = refl

recursion_at : {A : Type 0} (P : A → Type 0) (all : List A) → AllByRecursion P all → (k : ℕ) (x : A) → slice_get all k ≡ Some x → P x
recursion_at P [] h k x e = cc
recursion_at P (y ∷ all) h zero x e = subst P (CompleteNodes.some_is y x e) h.0
recursion_at P (y ∷ all) h (suc k) x e = recursion_at P all h.1 k x e

pub all_at : {A : Type 0} (P : A → Type 0) (all : List A) → All P all → (k : ℕ) (x : A) → slice_get all k ≡ Some x → P x
all_at P all h k x e = recursion_at P all (recursion_from_All P all h) k x e

name_at : (fields : List Field) (k : ℕ) (f : Field) → slice_get fields k ≡ Some f → slice_get (map (λ (f : Field). f.name) fields) k ≡ Some f.name
name_at [] k f e = cc
name_at (g ∷ more) zero f e = ap (λ (g : Field). CompleteNodes.some g.name) (CompleteNodes.some_is g f e)
name_at (g ∷ more) (suc k) f e = name_at more k f e

-- the first field of a name, where names differ
pub field_back : (j : ℕ) (fields : List Field) → AreDifferent (map (λ f. f.name) fields) → (k : ℕ) (f : Field) → slice_get fields k ≡ Some f
    → field_from j fields f.name ≡ Some (j + k, f.ty)
field_back j [] h k f e = cc
field_back j (g ∷ more) h zero f e =
    let q : g ≡ f = CompleteNodes.some_is g f e in
    let n : j ≡ j + 0 = omega arith in
    ap (λ b. cond b (CompleteNodes.some (j, g.ty)) (field_from (j + 1) more f.name)) (same_bytes g.name f.name (ap (λ (f : Field). f.name) q))
    ∙ ap (λ (g : Field). CompleteNodes.some (j, g.ty)) q ∙ ap (λ n. CompleteNodes.some (n, f.ty)) n
field_back j (g ∷ more) h (suc k) f e =
    let o : g.name ≢ f.name = all_at (λ y. g.name ≢ y) (map (λ (f : Field). f.name) more) h.0 k f.name (name_at more k f e) in
    let n : j + 1 + k ≡ j + suc k = omega arith in
    ap (λ b. cond b (CompleteNodes.some (j, g.ty)) (field_from (j + 1) more f.name)) (other_bytes g.name f.name o)
    ∙ field_back (j + 1) more h.1 k f e ∙ ap (λ n. CompleteNodes.some (n, f.ty)) n

integer_no_pointer : (m : ℕ) (t : CType) → is_integer t ≡ true → points_to_object m t ≡ true → ⊥
integer_no_pointer m (integer kind) i h = cc
integer_no_pointer m void i h = cc
integer_no_pointer m (pointer t) i h = cc
integer_no_pointer m (array t n) i h = cc
integer_no_pointer m (function t all) i h = cc
integer_no_pointer m (structure r) i h = cc

module _ (d : Declared) (at : Place) where
  abbrev count : ℕ
  count = d.complete at.at

  -- ---- subscripts

  pub array_back : (p : Path) (t : CType) → element_of (type_of_path p) ≡ Some t → array_of (an_object p) ≡ Some (p, t)
  unfolding array_of
  array_back p t h = by_type (type_of_path p) h
    where
      by_type : (u : CType) → element_of u ≡ Some t → array_of_type p u ≡ Some (p, t)
      by_type (array u n) h = ap (λ u. CompleteNodes.some (p, u)) (CompleteNodes.some_is u t h)
      by_type void h = cc
      by_type (integer kind) h = cc
      by_type (pointer u) h = cc
      by_type (function u all) h = cc
      by_type (structure r) h = cc

  pub element_back : (left : ℕ) (t : CType) (p : Path) (x : Expression) → CompleteNodes.Left d at x
      → IsTypedPath d (typed_path (way t at (Typed.element p x)))
      → element_in left at (p, t) (unconverted x) ≡ Ok (an_object (way t at (Typed.element p x)))
  unfolding element_in
  element_back left t p x o h =
      let m = CompleteNodes.promoting_back (type_of (unconverted x)) (ty (typed x)) (ap promoting (sym o.bare_type) ∙ h.2) in
      rw (m.is_integer, m.is_promoted, CompleteNodes.back_to d at x o (ty (typed x)) refl) refl

  pub index_back : (left : ℕ) (t : CType) (e x : Expression) → CompleteNodes.Left d at e → CompleteNodes.Left d at x
      → IsTypedPath d (typed_path (way t at (Typed.index e x)))
      → index_in count left at (unconverted e) (unconverted x) ≡ Ok (an_object (way t at (Typed.index e x)))
  unfolding index_in
  index_back left t e x o q h =
      let u = unconverted_same e h.2 in
      let m = CompleteNodes.promoting_back (type_of (unconverted x)) (ty (typed x)) (ap promoting (sym q.bare_type) ∙ h.4) in
      let p : type_of e ≡ pointer t = CompleteNodes.pointed_is d at (type_of e) t (ap pointed (sym o.type_same) ∙ h.5) in
      rw (u, p, h.6, m.is_integer, m.is_promoted, CompleteNodes.back_to d at x q (ty (typed x)) refl) refl

  -- the number stands first
  pub turned_back : (left : ℕ) (t u : CType) (x e : Expression) → CompleteNodes.Left d at x → CompleteNodes.Left d at e → is_integer (type_of x) ≡ true
      → IsTypedPath d (typed_path (way t at (Typed.deref (value u at (Typed.pointer_add P.Add x e)))))
      → index_in count left at (unconverted x) (unconverted e) ≡ Ok (an_object (way t at (Typed.deref (value u at (Typed.pointer_add P.Add x e)))))
  unfolding index_in
  turned_back left t u x e o q i h = by_order h.0.2
    where
      by_order : IsMoved count (typed x) (typed e) u ⊎ IsMoved count (typed e) (typed x) u
          → index_in count left at (unconverted x) (unconverted e) ≡ Ok (an_object (way t at (Typed.deref (value u at (Typed.pointer_add P.Add x e)))))
      by_order (inl m) =
          let c = CompleteNodes.moving_back count (ty (typed x)) (bare_ty (typed e)) (ty (typed e)) m.1 in
          absurd (integer_no_pointer count (type_of x) i (subst (λ u. points_to_object count u ≡ true) o.type_same c.points))
      by_order (inr m) =
          let c = CompleteNodes.moving_back count (ty (typed e)) (bare_ty (typed x)) (ty (typed x)) m.1 in
          let n = CompleteNodes.promoting_back (type_of (unconverted x)) (ty (typed x)) (ap promoting (sym o.bare_type) ∙ c.number) in
          let z : points_to_object count (type_of (unconverted x)) ≡ false =
          CompleteNodes.number_no_pointer count (type_of (unconverted x)) (ty (typed x)) (ap promoting (sym o.bare_type) ∙ c.number) in
          let v = unconverted_same e m.0 in
          let w : u ≡ pointer t = CompleteNodes.pointed_is d at u t h.2 in
          let p : type_of e ≡ pointer t = sym q.type_same ∙ sym m.2 ∙ w in
          rw (z, v, p, n.is_integer, h.3, n.is_promoted, CompleteNodes.back_to d at x o (ty (typed x)) refl, w) refl

  -- its number is one before it is converted
  pub turned_number : (t u : CType) (x e : Expression) → CompleteNodes.Left d at x → is_integer (type_of x) ≡ true
      → IsTypedPath d (typed_path (way t at (Typed.deref (value u at (Typed.pointer_add P.Add x e))))) → is_integer (type_of (unconverted x)) ≡ true
  turned_number t u x e o i h = by_order h.0.2
    where
      by_order : IsMoved count (typed x) (typed e) u ⊎ IsMoved count (typed e) (typed x) u → is_integer (type_of (unconverted x)) ≡ true
      by_order (inl m) = ap (λ x. is_integer (type_of x)) (unconverted_same x m.0) ∙ i
      by_order (inr m) =
          let c = CompleteNodes.moving_back count (ty (typed e)) (bare_ty (typed x)) (ty (typed x)) m.1 in
          (CompleteNodes.promoting_back (type_of (unconverted x)) (ty (typed x)) (ap promoting (sym o.bare_type) ∙ c.number)).is_integer

  -- ---- calls

  pub argument_back : (from : ℕ) (t : CType) (x : Expression) → CompleteNodes.Left d at x → IsConverted (typed x) t → argument_in from t (unconverted x) ≡ Ok x
  unfolding argument_in
  argument_back from t x o h =
      let a : assigns (type_of (unconverted x)) (null (unconverted x)) t ≡ true = rw (sym o.bare_type, sym o.null_same) h.0 in
      rw (a, CompleteNodes.back_to d at x o t h.1) refl

  pub signature_back : (from : ℕ) (th : Thing) (t : CType) (parameters : CTypes) → called_type th ≡ Some (function t parameters)
      → signature_in from th ≡ Ok (parameters, t)
  unfolding signature_in
  signature_back from th t parameters h = ap (signature_of from) h

  pub call_back : (th : Thing) (t : CType) (all : Typed.Expressions Noted) (node : Node) → IsCall th all node
      → call_in at th t all ≡ Ok (a_value (value t at node))
  unfolding call_in
  call_back (a_function from f s) t all node h = ap (λ node. ok (a_value (value t at node))) (sym h)
  call_back (a_library_function from which) t all node h = ap (λ node. ok (a_value (value t at node))) (sym h)
  call_back (a_value e) t all node h = ap (λ node. ok (a_value (value t at node))) (sym h)
  call_back (a_function_at e) t all node h = ap (λ node. ok (a_value (value t at node))) (sym h)
  call_back (an_object p) t all node h = ap (call_through t at all) h.1 ∙ ap (λ node. ok (a_value (value t at node))) (sym h.2)

  -- ---- members

  -- in the records up to there
  pub member_back : (records : List Record) (complete named : ℕ) (p : Path) (u : CType) (r k : ℕ) (rec : Record) (f : Field) (x : List ℕ)
      → u ≡ structure r → is_object complete u ≡ true → slice_get records r ≡ Some rec → slice_get rec.fields k ≡ Some f → f.name ≡ x
      → AreDifferent (map (λ f. f.name) rec.fields)
      → member_of_type records complete named at p u x ≡ Ok (an_object (way f.ty at (Typed.member p r k)))
  member_back records complete named p u r k rec f x e c s g n differ =
      let w : field_from 0 rec.fields x ≡ Some (k, f.ty) =
      subst (λ x. field_from 0 rec.fields x ≡ Some (k, f.ty)) n (field_back 0 rec.fields differ k f g ∙ ap (λ n. CompleteNodes.some (n, f.ty)) (omega arith)) in
      let c : is_object complete (structure r) ≡ true = subst (λ u. is_object complete u ≡ true) e c in
      ap (λ u. member_of_type records complete named at p u x) e
      ∙ ap (λ b. cond b (member_to named at p r (field_in (slice_get records r) x)) (refused R.Incomplete named)) c
      ∙ ap (λ o. member_to named at p r (field_in o x)) s
      ∙ ap (member_to named at p r) w

  pub dot_back : (records : List Record) (complete named : ℕ) (p : Path) (r k : ℕ) (rec : Record) (f : Field) (x : List ℕ)
      → type_of_path p ≡ structure r → is_object complete (type_of_path p) ≡ true → slice_get records r ≡ Some rec → slice_get rec.fields k ≡ Some f
      → f.name ≡ x
      → AreDifferent (map (λ f. f.name) rec.fields)
      → dot_in records complete named at (an_object p) x ≡ Ok (an_object (way f.ty at (Typed.member p r k)))
  unfolding dot_in
  dot_back records complete named p r k rec f x e c s g n differ = member_back records complete named p (type_of_path p) r k rec f x e c s g n differ

  pub arrow_back : (records : List Record) (named : ℕ) (u : CType) (e : Expression) (r k : ℕ) (rec : Record) (f : Field) (x : List ℕ)
      → CompleteNodes.Left d at e → IsTypedPath d (typed_path (way u at (Typed.deref e))) → u ≡ structure r
      → slice_get records r ≡ Some rec → slice_get rec.fields k ≡ Some f → f.name ≡ x → AreDifferent (map (λ f. f.name) rec.fields)
      → arrow_in records count named at (unconverted e) x ≡ Ok (an_object (way f.ty at (Typed.member (way u at (Typed.deref e)) r k)))
  unfolding arrow_in
  arrow_back records named u e r k rec f x o h q s g n differ =
      let v = unconverted_same e h.1 in
      let p : type_of e ≡ pointer u = CompleteNodes.pointed_is d at (type_of e) u (ap pointed (sym o.type_same) ∙ h.2) in
      ap (λ e. arrow_to records count named at e (type_of e) x) v
      ∙ ap (λ t. arrow_to records count named at e t x) p
      ∙ member_back records count named (way u at (Typed.deref e)) u r k rec f x q h.3 s g n differ

-- ---- sizes

size_or_back : (records : List Record) (n at : ℕ) (sizeless : Fault) (t : CType) → is_object n t ≡ true → is_object (length records) t ≡ true
    → size_of records t ≤ 16777216 → sized_or records n at sizeless t ≡ Ok t
size_or_back records n at sizeless t c l s =
    let b : nat_le (size_of records t) 16777216 ≡ true = le-leb (size_of records t) 16777216 s in
    rw (c, l, b) refl

pub size_back : (records : List Record) (n at : ℕ) (t : CType) → is_object n t ≡ true → is_object (length records) t ≡ true
    → size_of records t ≤ 16777216 → sized_type records n at t ≡ Ok t
unfolding sized_type
size_back records n at t c l s = size_or_back records n at (ill_typed R.Incomplete at) t c l s

pub measured_back : (records : List Record) (n at from : ℕ) (th : Thing) (t : CType) → IsOfType th t → is_object n t ≡ true
    → is_object (length records) t ≡ true → size_of records t ≤ 16777216 → measured_in records n at from th ≡ Ok t
unfolding measured_in measured_type
measured_back records n at from (an_object p) t h c l s =
    let f = misplaced (an_object p) R.Incomplete at from in ap (sized_or records n at f) h ∙ size_or_back records n at f t c l s
measured_back records n at from (a_value e) t h c l s =
    let f = misplaced (a_value e) R.Incomplete at from in ap (sized_or records n at f) h ∙ size_or_back records n at f t c l s
measured_back records n at from (a_function f_at f u) t h c l s = absurd h
measured_back records n at from (a_function_at e) t h c l s = absurd h
measured_back records n at from (a_library_function f_at which) t h c l s = absurd h
