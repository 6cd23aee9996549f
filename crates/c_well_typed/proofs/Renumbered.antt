-- An expression is well typed where records, objects and functions have other numbers, and types too.
use Rattle.std.proofs.Common.{◌≡◌, ◌≢◌, ◌∙◌, ℕ, ◌<◌, Bool, true, false, refl, sym, ap, subst, cond, inl, inr, length}
use Rattle.std.specs.Prelude.{◌⊎◌, Option, Some, None, slice_get}
use Rattle.std.specs.Option.{option_map}
use Rattle.std.proofs.lemmas.Bool.{and_parts, and_from, lt-ltb, ltb-true}
use Rattle.lay_base.specs.declared.place.Place.{Place}
use Rattle.c_types.specs.declared.ty.IntKind.TheVariants.{UInt}
use Rattle.c_types.specs.Types.{CType, CTypes, void, integer, pointer, array, function, structure, no_types, and_type}
use Rattle.c_types.specs.Objects.{is_object}
use Rattle.c_types.specs.Sameness.{same_type}
use Rattle.c_numbers.specs.TypeNumbers.Renumbered.{renumbered, all_renumbered}
use Rattle.c_typed.specs.declared.operators.BinaryOp.{BinaryOp}
use Rattle.c_typed.specs.declared.operators.CompareOp.{CompareOp}
use Rattle.c_typed.specs.declared.operators.PointerOp.{PointerOp}
use Rattle.c_typed.specs.declared.operators.PointerOp.TheVariants as P
use Rattle.c_typed.specs.Trees as Trees
use Rattle.c_typed.specs.Conversions.{is_integer, is_pointer, is_scalar, element_of}
use Rattle.c_typed.specs.Constants.{constant_of, constant_in, is_zero, is_null, ty, unary_constant, negated}
use Rattle.c_typed.specs.Fits.{assigns}
use Rattle.c_typed.specs.Mapped.{Renaming, mapped, mapped_node, mapped_path, mapped_step, mapped_all, mapped_if_any}
use Rattle.c_typed.specs.Parts.{IsPart}
use Rattle.c_typed.specs.Rules.{promoting, comparing, choosing, points_to_object, moving, is_move, updating, is_stepped, differing}
use Rattle.c_typed.specs.Typed.{Declared, field_type, at_of, path_ty, path_at, bare, is_bare, bare_ty, is_decay, IsTested, IsConverted, IsMoved}
use Rattle.c_typed.specs.Typed.{IsMove, IsTyped, IsTypedNode, AreArguments, IsCount, IsTypedPath, IsTypedStep}
use Rattle.c_well_typed.proofs.Allocations.{typed_bare}
use Rattle.c_well_typed.proofs.Fitting.{promoting_is, on_numbers_is}
use Rattle.c_well_typed.proofs.Monotone.{moved_number, updated_number}
use Rattle.c_well_typed.proofs.Nulls.{is_zero_is, valued_is_integer, null_or_cast, IsCast}
use Rattle.c_well_typed.proofs.RenumberedConversions.{IsVoidNull, integer_differs, assigned_differ, comparing_left_differ, comparing_right_differ}
use Rattle.c_well_typed.proofs.RenumberedConversions.{choosing_left_differ, choosing_right_differ}
use Rattle.c_well_typed.proofs.RenumberedTypes.{scalar_same, pointer_same, integer_same, pointed_same, element_same, kind_same, conversion_same, integer_stays}
use Rattle.c_well_typed.proofs.RenumberedTypes.{same_again, promoting_same, on_numbers_same, assigns_again, casts_same, comparing_again, choosing_again}
use Rattle.c_well_typed.proofs.RenumberedTypes.{library_same}
use Rattle.c_well_typed.proofs.RenumberedTypes.{arithmetic_same}

some_is : {A : Type 0} (x y : A) → Some x ≡ Some y → x ≡ y
some_is x y h = cc

-- what an operand is that is a null pointer constant and a pointer
void_null : (d : Declared) (e : Trees.Expression CType) → IsTyped d e → is_null e ≡ true → is_pointer (ty e) ≡ true → ty e ≡ pointer void
void_null d e h n p = by_case (null_or_cast e n)
  where
    number : (t : CType) → is_integer t ≡ true → is_pointer t ≡ true → ⊥
    number (integer k) i p = cc
    number t i p = cc

    by_case : (is_zero (constant_of e) ≡ true) ⊎ IsCast e → ty e ≡ pointer void
    by_case (inl z) =
        let v = is_zero_is (constant_of e) z in
        absurd (number (ty e) (valued_is_integer d e v.0 h v.1) p)
    by_case (inr c) = ap ty c.2

module _ (f object callee : ℕ → ℕ) where
  abbrev R : CType → CType
  R t = renumbered f t

  abbrev pub m : Renaming CType CType
  m = record { ty = λ t. renumbered f t; object = object; function = callee; structure = f }

  -- ---- what is seen of a node

  pub type_is : (e : Trees.Expression CType) → ty (mapped m e) ≡ R (ty e)
  type_is (Trees.expression t at node) = refl

  place_is : (e : Trees.Expression CType) → at_of (mapped m e) ≡ at_of e
  place_is (Trees.expression t at node) = refl

  pub path_type_is : (p : Trees.Path CType) → path_ty (mapped_path m p) ≡ R (path_ty p)
  path_type_is (Trees.path t at step) = refl

  path_place_is : (p : Trees.Path CType) → path_at (mapped_path m p) ≡ path_at p
  path_place_is (Trees.path t at step) = refl

  bare_is : (e : Trees.Expression CType) → bare (mapped m e) ≡ mapped m (bare e)
  bare_is (Trees.expression t at (Trees.convert e false)) = refl
  bare_is (Trees.expression t at (Trees.convert e true)) = refl
  bare_is e = refl

  pub bare_same : (e : Trees.Expression CType) → is_bare (mapped m e) ≡ is_bare e
  bare_same (Trees.expression t at (Trees.convert e false)) = refl
  bare_same (Trees.expression t at (Trees.convert e true)) = refl
  bare_same e = refl

  decay_same : (e : Trees.Expression CType) → is_decay (mapped m e) ≡ is_decay e
  decay_same (Trees.expression t at (Trees.decay p)) = refl
  decay_same e = refl

  pub bare_type_is : (e : Trees.Expression CType) → bare_ty (mapped m e) ≡ R (bare_ty e)
  bare_type_is e = ap ty (bare_is e) ∙ type_is (bare e)

  mutual
    constant_same : (e : Trees.Expression CType) → constant_of (mapped m e) ≡ constant_of e
    constant_same (Trees.expression t at node) = constant_in_same t node

    constant_in_same : (t : CType) (node : Trees.Node CType) → constant_in (R t) (mapped_node m node) ≡ constant_in t node
    constant_in_same t (Trees.constant v) = refl
    constant_in_same t (Trees.convert e written) = rw (constant_same e) (conversion_same f t (constant_of e))
    constant_in_same t (Trees.unary op x) = ap (unary_constant op) (constant_same x)
    constant_in_same t (Trees.binary op x y) = rw (constant_same x, constant_same y, type_is y, kind_same f t, kind_same f (ty y)) refl
    constant_in_same t (Trees.compare op x y) = rw (constant_same x, constant_same y, type_is x, kind_same f (ty x)) refl
    constant_in_same t (Trees.both x y) = rw (constant_same x, constant_same y) refl
    constant_in_same t (Trees.either x y) = rw (constant_same x, constant_same y) refl
    constant_in_same t (Trees.not x) = ap negated (constant_same x)
    constant_in_same t (Trees.choose x y z) = rw (constant_same x, constant_same y, constant_same z) refl
    constant_in_same t node = refl

  null_same : (e : Trees.Expression CType) → is_null (mapped m e) ≡ is_null e
  null_same (Trees.expression (pointer void) at (Trees.convert e true)) = ap is_zero (constant_same e)
  null_same (Trees.expression t at node) = ap is_zero (constant_in_same t node)

  bare_null_is : (e : Trees.Expression CType) → is_null (bare (mapped m e)) ≡ is_null (bare e)
  bare_null_is e = ap is_null (bare_is e) ∙ null_same (bare e)

  pub tested_again : (e : Trees.Expression CType) → IsTested e → IsTested (mapped m e)
  tested_again e h = (bare_same e ∙ h.0, ap is_scalar (type_is e) ∙ scalar_same f (ty e) ∙ h.1)

  pub converted_again : (e : Trees.Expression CType) (t : CType) → IsConverted e t → IsConverted (mapped m e) (R t)
  converted_again e t h = (rw (bare_type_is e, bare_null_is e) (assigns_again f (bare_ty e) t (is_null (bare e)) h.0), type_is e ∙ ap R h.1)

  pub promoted_again : (e : Trees.Expression CType) (t : CType) → promoting (bare_ty e) ≡ Some t → promoting (bare_ty (mapped m e)) ≡ Some (R t)
  promoted_again e t h =
      rw (bare_type_is e, promoting_same f (bare_ty e), integer_stays f t (promoting_is (bare_ty e) t h).1) h

  -- ---- an implicit conversion is one to another type

  abbrev pub Fits : Trees.Expression CType → Type 0
  Fits (Trees.expression t at (Trees.convert e false)) = R t ≢ R (ty e)
  Fits e = Unit {0}

  pub bare_fits : (e : Trees.Expression CType) → is_bare e ≡ true → Fits e
  bare_fits (Trees.expression t at (Trees.convert e false)) h = cc
  bare_fits (Trees.expression t at (Trees.convert e true)) h = tt
  bare_fits e h = tt

  abbrev IsNoConversion : Trees.Node CType → Type 0
  IsNoConversion (Trees.convert x written) = ⊥
  IsNoConversion node = Unit {0}

  module _ (d e : Declared) where
    -- what is declared has the same types, but for their numbers
    pub record AreRenumbered : Type 0 where
      pub locals : (n : ℕ) (t : CType) → slice_get d.locals n ≡ Some t → slice_get e.locals n ≡ Some (R t)
      pub objects : (n : ℕ) (t : CType) → slice_get d.objects n ≡ Some t → slice_get e.objects (object n) ≡ Some (R t)
      pub functions : (n : ℕ) (t : CType) → slice_get d.functions n ≡ Some t → slice_get e.functions (callee n) ≡ Some (R t)
      pub fields : (r k : ℕ) (t : CType) → field_type d.records r k ≡ Some t → field_type e.records (f r) k ≡ Some (R t)
      pub complete : (at : ℕ) (t : CType) → is_object (d.complete at) t ≡ true → is_object (e.complete at) (R t) ≡ true
      pub whole : (t : CType) → is_object (length d.records) t ≡ true → is_object (length e.records) (R t) ≡ true
      pub parts : (t u : CType) (at : ℕ) → is_object (length d.records) t ≡ true → IsPart d.records t at u → IsPart e.records (R t) at (R u)

    module _ (a : AreRenumbered) where
      -- ---- the rules of nodes

      fits_by : (x : Trees.Expression CType) → IsTyped d x → (bare_ty x ≢ ty x → R (bare_ty x) ≢ R (ty x)) → Fits x
      fits_by (Trees.expression t at (Trees.convert x false)) h k = λ q. k (λ p. h.2 (sym p)) (sym q)
      fits_by (Trees.expression t at (Trees.convert x true)) h k = tt
      fits_by (Trees.expression t at node) h k = tt

      number_fits : (x : Trees.Expression CType) → IsTyped d x → is_integer (ty x) ≡ true → Fits x
      number_fits x h i = fits_by x h (integer_differs f (bare_ty x) (ty x) i)

      void_null_bare : (x : Trees.Expression CType) → IsTyped d x → IsVoidNull f (bare_ty x) (is_null (bare x))
      void_null_bare x h = λ n p. void_null d (bare x) (typed_bare d x h).0 n p

      pub converted_fits : (x : Trees.Expression CType) (t : CType) → IsTyped d x → IsConverted x t → Fits x
      converted_fits x t h c =
          fits_by x h (assigned_differ f (bare_ty x) (ty x) (is_null (bare x)) (void_null_bare x h)
          (subst (λ t. assigns (bare_ty x) (is_null (bare x)) t ≡ true) (sym c.1) c.0))

      pub promoted_fits : (x : Trees.Expression CType) (t : CType) → IsTyped d x → promoting (bare_ty x) ≡ Some t → ty x ≡ t → Fits x
      promoted_fits x t h p e = number_fits x h (subst (λ t. is_integer t ≡ true) (sym e) (promoting_is (bare_ty x) t p).1)

      points_again : (at : ℕ) (t : CType) → points_to_object (d.complete at) t ≡ true → points_to_object (e.complete at) (R t) ≡ true
      points_again at (pointer t) h = a.complete at t h
      points_again at t h = cc

      moving_again : (at : ℕ) (p n t : CType) → moving (d.complete at) p n ≡ Some t → moving (e.complete at) (R p) (R n) ≡ Some (R t)
      moving_again at p n t h = by_object (points_to_object (d.complete at) p) refl h
        where
          by_object : (b : Bool) → points_to_object (d.complete at) p ≡ b → cond b (promoting n) None ≡ Some t
              → moving (e.complete at) (R p) (R n) ≡ Some (R t)
          by_object true q k =
              rw (points_again at p q, promoting_same f n, integer_stays f t (promoting_is n t k).1) k
          by_object false q k = cc

      moved_again : (at : ℕ) (x y : Trees.Expression CType) (t : CType) → IsMoved (d.complete at) x y t
          → IsMoved (e.complete at) (mapped m x) (mapped m y) (R t)
      moved_again at x y t h = (
        bare_same x ∙ h.0,
        rw (type_is x, bare_type_is y, type_is y) (moving_again at (ty x) (bare_ty y) (ty y) h.1),
        ap R h.2 ∙ sym (type_is x),
      )

      move_again : (op : PointerOp) (at : ℕ) (x y : Trees.Expression CType) (t : CType) → IsMove op (d.complete at) x y t
          → IsMove op (e.complete at) (mapped m x) (mapped m y) (R t)
      move_again P.Add at x y t (inl h) = inl (moved_again at x y t h)
      move_again P.Add at x y t (inr h) = inr (moved_again at y x t h)
      move_again P.Subtract at x y t h = moved_again at x y t h

      moved_fits : (count : ℕ) (x y : Trees.Expression CType) (t : CType) → IsTyped d y → IsMoved count x y t → Fits x × Fits y
      moved_fits count x y t h k = (bare_fits x k.0, number_fits y h (moved_number count (ty x) (bare_ty y) (ty y) k.1))

      move_fits : (op : PointerOp) (count : ℕ) (x y : Trees.Expression CType) (t : CType) → IsTyped d x → IsTyped d y → IsMove op count x y t
          → Fits x × Fits y
      move_fits P.Add count x y t h k (inl g) = moved_fits count x y t k g
      move_fits P.Add count x y t h k (inr g) = let z = moved_fits count y x t h g in (z.1, z.0)
      move_fits P.Subtract count x y t h k g = moved_fits count x y t k g

      differing_again : (at : ℕ) (s t : CType) → differing (d.complete at) s t ≡ true → differing (e.complete at) (R s) (R t) ≡ true
      differing_again at s t h =
          let p = and_parts (points_to_object (d.complete at) s) (same_type s t) h in
          and_from (points_to_object (e.complete at) (R s)) (same_type (R s) (R t)) (points_again at s p.0) (same_again f s t p.1)

      updating_again : (op : BinaryOp) (at : ℕ) (s t u : CType) → updating (d.complete at) op s t ≡ Some u
          → updating (e.complete at) op (R s) (R t) ≡ Some (R u)
      updating_again op at (integer k) t u h =
          let i = updated_number (d.complete at) op (integer k) t u h in
          rw (promoting_same f t, arithmetic_same f (integer k) t, integer_stays f u i) h
      updating_again op at (pointer s) t u h = by_move (is_move op) h
        where
          by_move : (b : Bool) → cond b (moving (d.complete at) (pointer s) t) None ≡ Some u
              → cond b (moving (e.complete at) (pointer (R s)) (R t)) None ≡ Some (R u)
          by_move true h = moving_again at (pointer s) t u h
          by_move false h = cc
      updating_again op at void t u h = by_move (is_move op) h
        where
          by_move : (b : Bool) → cond b (moving (d.complete at) void t) None ≡ Some u → cond b (moving (e.complete at) void (R t)) None ≡ Some (R u)
          by_move true h = moving_again at void t u h
          by_move false h = cc
      updating_again op at (array s n) t u h = by_move (is_move op) h
        where
          by_move : (b : Bool) → cond b (moving (d.complete at) (array s n) t) None ≡ Some u
              → cond b (moving (e.complete at) (array (R s) n) (R t)) None ≡ Some (R u)
          by_move true h = moving_again at (array s n) t u h
          by_move false h = cc
      updating_again op at (function s all) t u h = by_move (is_move op) h
        where
          by_move : (b : Bool) → cond b (moving (d.complete at) (function s all) t) None ≡ Some u
              → cond b (moving (e.complete at) (R (function s all)) (R t)) None ≡ Some (R u)
          by_move true h = moving_again at (function s all) t u h
          by_move false h = cc
      updating_again op at (structure r) t u h = by_move (is_move op) h
        where
          by_move : (b : Bool) → cond b (moving (d.complete at) (structure r) t) None ≡ Some u
              → cond b (moving (e.complete at) (structure (f r)) (R t)) None ≡ Some (R u)
          by_move true h = moving_again at (structure r) t u h
          by_move false h = cc

      stepped_again : (at : ℕ) (t : CType) → is_stepped (d.complete at) t ≡ true → is_stepped (e.complete at) (R t) ≡ true
      stepped_again at t h = rw (integer_same f t) (by_integer (is_integer t) h)
        where
          by_integer : (b : Bool) → cond b true (points_to_object (d.complete at) t) ≡ true → cond b true (points_to_object (e.complete at) (R t)) ≡ true
          by_integer true h = h
          by_integer false h = points_again at t h

      decayed_again : (o : Option CType) (t : CType) → option_map pointer o ≡ Some t → option_map pointer (option_map R o) ≡ Some (R t)
      decayed_again None t h = cc
      decayed_again (Some u) t h = ap (λ t. Some (R t)) (some_is (pointer u) t h)

      complete_again : (at r : ℕ) → r < d.complete at → f r < e.complete at
      complete_again at r l = ltb-true (f r) (e.complete at) (a.complete at (structure r) (lt-ltb r (d.complete at) l))

      compared_again : (op : CompareOp) (x y : Trees.Expression CType)
          → comparing op (bare_ty x) (is_null (bare x)) (bare_ty y) (is_null (bare y)) ≡ Some (ty x)
          → comparing op (bare_ty (mapped m x)) (is_null (bare (mapped m x))) (bare_ty (mapped m y)) (is_null (bare (mapped m y))) ≡ Some (ty (mapped m x))
      compared_again op x y h =
          rw (bare_type_is x, bare_type_is y, bare_null_is x, bare_null_is y, type_is x)
          (comparing_again f op (bare_ty x) (bare_ty y) (ty x) (is_null (bare x)) (is_null (bare y)) h)

      chosen_again : (x y : Trees.Expression CType) (t : CType)
          → choosing (bare_ty x) (is_null (bare x)) (bare_ty y) (is_null (bare y)) ≡ Some t
          → choosing (bare_ty (mapped m x)) (is_null (bare (mapped m x))) (bare_ty (mapped m y)) (is_null (bare (mapped m y))) ≡ Some (R t)
      chosen_again x y t h =
          rw (bare_type_is x, bare_type_is y, bare_null_is x, bare_null_is y)
          (choosing_again f (bare_ty x) (bare_ty y) t (is_null (bare x)) (is_null (bare y)) h)

      compared_fit : (op : CompareOp) (x y : Trees.Expression CType) → IsTyped d x → IsTyped d y
          → comparing op (bare_ty x) (is_null (bare x)) (bare_ty y) (is_null (bare y)) ≡ Some (ty x) → ty y ≡ ty x → Fits x × Fits y
      compared_fit op x y h k c q = (
        fits_by x h (comparing_left_differ f (bare_ty x) (bare_ty y) (ty x) (is_null (bare x)) (is_null (bare y)) op (void_null_bare x h) c),
        fits_by y k
            (comparing_right_differ f (bare_ty x) (bare_ty y) (ty y) (is_null (bare x)) (is_null (bare y)) op (void_null_bare y k) (c ∙ ap Some (sym q))),
      )

      chosen_fit : (x y : Trees.Expression CType) (t : CType) → IsTyped d x → IsTyped d y
          → choosing (bare_ty x) (is_null (bare x)) (bare_ty y) (is_null (bare y)) ≡ Some t → ty x ≡ t → ty y ≡ t → Fits x × Fits y
      chosen_fit x y t h k c p q = (
        fits_by x h (choosing_left_differ f (bare_ty x) (bare_ty y) (ty x) (is_null (bare x)) (is_null (bare y)) (void_null_bare x h) (c ∙ ap Some (sym p))),
        fits_by y k (choosing_right_differ f (bare_ty x) (bare_ty y) (ty y) (is_null (bare x)) (is_null (bare y)) (void_null_bare y k) (c ∙ ap Some (sym q))),
      )

      -- ---- expressions

      mutual
        pub again : (x : Trees.Expression CType) → Fits x → IsTyped d x → IsTyped e (mapped m x)
        again (Trees.expression t at (Trees.convert x false)) g h =
            (again x (bare_fits x h.1) h.0, bare_same x ∙ h.1, (λ q. g (q ∙ type_is x)), h.3 ∙ sym (place_is x))
        again (Trees.expression t at (Trees.convert x true)) g h =
            (again x (bare_fits x h.1) h.0, bare_same x ∙ h.1, rw (type_is x, null_same x, casts_same f (ty x) t (is_null x)) h.2)
        again (Trees.expression t at node) g h = node_again t at node tt h

        -- a conversion is seen with its expression
        node_again : (t : CType) (at : Place) (node : Trees.Node CType) → IsNoConversion node → IsTypedNode d t at node
            → IsTypedNode e (R t) at (mapped_node m node)
        node_again t at (Trees.constant v) k h = (h.0, ap R h.1, h.2)
        node_again t at Trees.null k h = pointer_same f t ∙ h
        node_again t at (Trees.function_name g) k h = (R h.0, a.functions g h.0 h.1, ap R h.2)
        node_again t at (Trees.load p) k h =
            (path_again p h.0, scalar_same f t ∙ h.1, ap R h.2 ∙ sym (path_type_is p), h.3 ∙ sym (path_place_is p))
        node_again t at (Trees.address_of p) k h = (path_again p h.0, ap R h.1 ∙ ap pointer (sym (path_type_is p)))
        node_again t at (Trees.decay p) k h = (
          path_again p h.0,
          rw (path_type_is p, element_same f (path_ty p)) (decayed_again (element_of (path_ty p)) t h.1),
          h.2 ∙ sym (path_place_is p),
        )
        node_again t at (Trees.convert x written) k h = absurd k
        node_again t at (Trees.unary op x) k h =
            (again x (promoted_fits x t h.0 h.1 h.2) h.0, promoted_again x t h.1, type_is x ∙ ap R h.2)
        node_again t at (Trees.binary op x y) k h =
            let i = on_numbers_is op (bare_ty x) (bare_ty y) t (ty y) h.2 in (
              again x (number_fits x h.0 (subst (λ t. is_integer t ≡ true) (sym h.3) i.2)) h.0,
              again y (number_fits y h.1 i.3) h.1,
              rw (bare_type_is x, bare_type_is y, on_numbers_same f op (bare_ty x) (bare_ty y), type_is y, integer_stays f t i.2, integer_stays f (ty y) i.3) h.2,
              type_is x ∙ ap R h.3,
            )
        node_again t at (Trees.compare op x y) k h =
            let g = compared_fit op x y h.0 h.1 h.2 h.3 in (
              again x g.0 h.0,
              again y g.1 h.1,
              compared_again op x y h.2,
              type_is y ∙ ap R h.3 ∙ sym (type_is x),
              ap R h.4,
            )
        node_again t at (Trees.pointer_add op x y) k h =
            let g = move_fits op (d.complete at.at) x y t h.0 h.1 h.2 in
            (again x g.0 h.0, again y g.1 h.1, move_again op at.at x y t h.2)
        node_again t at (Trees.pointer_difference x y) k h = (
          again x (bare_fits x h.2) h.0,
          again y (bare_fits y h.3) h.1,
          bare_same x ∙ h.2,
          bare_same y ∙ h.3,
          rw (type_is x, type_is y) (differing_again at.at (ty x) (ty y) h.4),
          ap R h.5,
        )
        node_again t at (Trees.both x y) k h =
            (again x (bare_fits x h.2.0) h.0, again y (bare_fits y h.3.0) h.1, tested_again x h.2, tested_again y h.3, ap R h.4)
        node_again t at (Trees.either x y) k h =
            (again x (bare_fits x h.2.0) h.0, again y (bare_fits y h.3.0) h.1, tested_again x h.2, tested_again y h.3, ap R h.4)
        node_again t at (Trees.not x) k h = (again x (bare_fits x h.1.0) h.0, tested_again x h.1, ap R h.2)
        node_again t at (Trees.choose x y z) k h =
            let g = chosen_fit y z t h.1 h.2 h.4 h.5 h.6 in (
              again x (bare_fits x h.3.0) h.0,
              again y g.0 h.1,
              again z g.1 h.2,
              tested_again x h.3,
              chosen_again y z t h.4,
              type_is y ∙ ap R h.5,
              type_is z ∙ ap R h.6,
            )
        node_again t at (Trees.comma x y) k h =
            (again x (bare_fits x h.2) h.0, again y (bare_fits y h.3) h.1, bare_same x ∙ h.2, bare_same y ∙ h.3, ap R h.4 ∙ sym (type_is y))
        node_again t at (Trees.assign p x) k h = (
          path_again p h.0,
          again x (converted_fits x t h.1 h.4) h.1,
          scalar_same f t ∙ h.2,
          ap R h.3 ∙ sym (path_type_is p),
          converted_again x t h.4,
        )
        node_again t at (Trees.assign_op op p x) k h =
            let i = updated_number (d.complete at.at) op t (bare_ty x) (ty x) h.3 in (
              path_again p h.0,
              again x (number_fits x h.1 i) h.1,
              ap R h.2 ∙ sym (path_type_is p),
              rw (bare_type_is x, type_is x) (updating_again op at.at t (bare_ty x) (ty x) h.3),
            )
        node_again t at (Trees.step op before p) k h = (path_again p h.0, ap R h.1 ∙ sym (path_type_is p), stepped_again at.at t h.2)
        node_again t at (Trees.copy_record to from) k h = (
          path_again to h.0,
          path_again from h.1,
          ap R h.2,
          path_type_is from ∙ ap R h.3 ∙ sym (path_type_is to),
          (f h.4.0, path_type_is to ∙ ap R h.4.1),
        )
        node_again t at (Trees.call g all) k h = (all_renumbered f h.0, a.functions g (function t h.0) h.1, all_again all h.0 h.2)
        node_again t at (Trees.call_through x all) k h =
            (all_renumbered f h.0, again x (bare_fits x h.2) h.1, bare_same x ∙ h.2, type_is x ∙ ap R h.3, all_again all h.0 h.4)
        node_again t at (Trees.library which all) k h =
            (all_renumbered f h.0, sym (library_same f which) ∙ ap R h.1, all_again all h.0 h.2)
        node_again t at (Trees.allocate r count zeroed) k h = (ap R h.0, complete_again at.at r h.1, count_again count h.2)

        all_again : (all : Trees.Expressions CType) (parameters : CTypes) → AreArguments d parameters all
            → AreArguments e (all_renumbered f parameters) (mapped_all m all)
        all_again Trees.no_expressions no_types h = h
        all_again Trees.no_expressions (and_type t more) h = absurd h
        all_again (Trees.and_expression x rest) no_types h = absurd h
        all_again (Trees.and_expression x rest) (and_type t more) h =
            (again x (converted_fits x t h.0 h.1) h.0, converted_again x t h.1, all_again rest more h.2)

        count_again : (count : Trees.OptionalExpression CType) → IsCount d count → IsCount e (mapped_if_any m count)
        count_again Trees.no_expression h = h
        count_again (Trees.some_expression x) h = (again x (converted_fits x (integer UInt) h.0 h.1) h.0, converted_again x (integer UInt) h.1)

        pub path_again : (p : Trees.Path CType) → IsTypedPath d p → IsTypedPath e (mapped_path m p)
        path_again (Trees.path t at step) h = step_again t at step h

        step_again : (t : CType) (at : Place) (step : Trees.PathNode CType) → IsTypedStep d t at step → IsTypedStep e (R t) at (mapped_step m step)
        step_again t at (Trees.local n) h = a.locals n t h
        step_again t at (Trees.object n) h = a.objects n t h
        step_again t at (Trees.deref x) h = (
          again x (bare_fits x h.1) h.0,
          bare_same x ∙ h.1,
          rw (type_is x, pointed_same f (ty x)) (ap (option_map R) h.2),
          a.complete at.at t h.3,
        )
        step_again t at (Trees.index x i) h = (
          again x (bare_fits x h.2) h.0,
          again i (promoted_fits i (ty i) h.1 h.4 refl) h.1,
          bare_same x ∙ h.2,
          decay_same x ∙ h.3,
          promoted_again i (ty i) h.4 ∙ ap Some (sym (type_is i)),
          rw (type_is x, pointed_same f (ty x)) (ap (option_map R) h.5),
          a.complete at.at t h.6,
        )
        step_again t at (Trees.member p r field) h = (path_again p h.0, path_type_is p ∙ ap R h.1, a.fields r field t h.2)
        step_again t at (Trees.element p i) h = (
          path_again p h.0,
          again i (promoted_fits i (ty i) h.1 h.2 refl) h.1,
          promoted_again i (ty i) h.2 ∙ ap Some (sym (type_is i)),
          rw (path_type_is p, element_same f (path_ty p)) (ap (option_map R) h.3),
        )
