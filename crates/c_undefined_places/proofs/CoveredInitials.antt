-- Where an object of a file holds an address of type `T *` at first, T is accused (C99 6.6, 6.7.8): the object in which the address lies is a T, or an array or
-- a record with one, or a pointer of another type was converted.
use Rattle.std.proofs.Common.{◌≡◌, ◌∙◌, ℕ, ◌+◌, Bool, true, false, refl, sym, ap, subst, cond, List, [], ◌∷◌, ◌++◌, map, flat_map, inl, inr}
use Rattle.std.proofs.lemmas.List.Elements.{recursion_from_All}
use Rattle.std.specs.Prelude.{not, ◌&&◌, Option, Some, None, slice_get, ℤ}
use Rattle.std.specs.List.{AllByRecursion}
use Rattle.std.specs.Option.{option_map}
use Rattle.lay_base.specs.declared.place.Place.{Place}
use Rattle.c_types.specs.declared.ty.IntKind.{IntKind}
use Rattle.c_types.specs.Sameness.{same_type}
use Rattle.c_types.specs.Types.{CType, integer, pointer, array, structure}
use Rattle.c_types.proofs.SameTypes.{same_is}
use Rattle.c_typed.specs.declared.operators.PointerOp.{PointerOp}
use Rattle.c_typed.specs.declared.operators.PointerOp.TheVariants as P
use Rattle.c_typed.specs.declared.program.MentionKind.TheVariants.{From, To}
use Rattle.c_typed.specs.Constants.{Constant, valued, ty, constant_of}
use Rattle.c_typed.specs.Conversions.{is_integer, is_pointer, element_of}
use Rattle.c_typed.specs.Conversions as Conversions
use Rattle.c_typed.specs.InitialValues.{Address, InitialValue, a_number, a_null, an_address, a_function, element_size, number_in, moved, subscripted}
use Rattle.c_typed.specs.InitialValues.{or_negated, path_type, address_of_path, address_in, address_in_node, is_null_in, function_in, as_number}
use Rattle.c_typed.specs.InitialValues.{as_address, as_function, initial_in, initial_value}
use Rattle.c_typed.specs.Rules.{moving}
use Rattle.c_typed.specs.Trees as Trees
use Rattle.c_typed.specs.Typed.{Declared, path_ty, is_bare, bare_ty, IsMoved, IsMove, IsTyped, IsTypedPath}
use Rattle.c_typed.specs.TypedStatements.{IsTypedValue, IsTypedPart}
use Rattle.c_erasure.specs.Erasure.{typed}
use Rattle.c_erasure.specs.Files.{IsTypedObject}
use Rattle.c_erasure.specs.InitialMentions as Mentions
use Rattle.c_erasure.specs.InitialMentions.{mention, is_null_node, place, of_conversion, told_by_node, told_by_path, told_by_step, told_by_value, told_by_initial}
use Rattle.c_erasure.specs.Noted.{Noted, Expression, Path, Node}
use Rattle.c_erasure.specs.Recognised.{allocation, or_converted, is_null_constant, converted, recognised, recognised_path}
use Rattle.c_erasure.specs.Scopes.{AMention, FileScope, at_file_scope, declared}
use Rattle.c_erasure.specs.Units as Units
use Rattle.c_erasure.specs.Units.{Stores, recognised_part, typed_initializer, of_text, stored, of_value, of_initializer}
use Rattle.c_link.proofs.JoinedRecords.{IsAmong, among_left, among_right}
use Rattle.c_well_typed.proofs.InitialAddresses.{bare_path}
use Rattle.c_well_typed.proofs.Leaves.{HasMadeLeaves, InPath, InValue, InParts, InInitializer}
use Rattle.c_well_typed.proofs.Monotone.{moved_number}
use Rattle.c_well_typed.proofs.NamesInScope.{joined}
use Rattle.c_well_typed.proofs.Nulls.{bare_node, type_stays}
use Rattle.c_well_typed.proofs.Numbers.{two_parts}
use Rattle.c_well_typed.proofs.RecognisedStatements.{typed_value, typed_part}
use Rattle.legality.specs.InTypes.{arrays_in, itself, pointed}
use Rattle.c_undefined_places.proofs.CoveredFiles.{AccusedIn, AreAccusedIn, by_mention, field_accused}
use Rattle.c_undefined_places.proofs.CoveredUnits.{values_in}

some_is : {A : Type 0} (x y : A) → Some x ≡ Some y → x ≡ y
some_is x y h = cc

-- ---- types

pointed_is : (p t : CType) → Conversions.pointed p ≡ Some t → p ≡ pointer t
pointed_is (pointer u) t h = ap pointer (some_is u t h)
pointed_is p t h = cc

decayed_is : (a t : CType) → option_map pointer (element_of a) ≡ Some t → is_pointer t ≡ true
decayed_is (array u n) t h = subst (λ t. is_pointer t ≡ true) (some_is (pointer u) t h) refl
decayed_is a t h = cc

integer_is : (t : CType) → is_integer t ≡ true → is_pointer t ≡ false
integer_is (integer kind) h = refl
integer_is t h = cc

moving_is : (count : ℕ) (p t u : CType) → moving count p t ≡ Some u → is_pointer p ≡ true
moving_is count (pointer v) t u h = refl
moving_is count p t u h = cc

-- what is asked of the casts of an initializer
abbrev pub anything : CType → Type 0
anything t = Unit {0}

module _ (f : FileScope) (objects : (n : ℕ) (t : CType) → slice_get (map (λ o. o.ty) f.objects) n ≡ Some t → AreAccusedIn f (values_in t)) where
  abbrev A : ℕ → Type 0
  A = AccusedIn f

  abbrev Are : List ℕ → Type 0
  Are = AreAccusedIn f

  -- of each array in a type
  abbrev pub AreArrays : CType → Type 0
  AreArrays t = Are (arrays_in t)

  abbrev d : Declared
  d = declared (at_file_scope f)

  -- a pointer to what is accused
  abbrev IsGood : CType → Type 0
  IsGood (pointer u) = Are (values_in u)
  IsGood t = Unit {0}

  abbrev Leaves : Expression → Type 0
  Leaves = HasMadeLeaves anything AreArrays

  -- the unit has all of some mentions
  abbrev Tells : List AMention → Type 0
  Tells all = (m : AMention) → IsAmong m all → IsAmong m (Units.mentions f)

  tells_left : (a b : List AMention) → Tells (a ++ b) → Tells a
  tells_left a b h m i = h m (among_left m a b i)

  tells_right : (a b : List AMention) → Tells (a ++ b) → Tells b
  tells_right a b h m i = h m (among_right m a b i)

  -- ---- addresses that are found

  abbrev IsFound : Option Address → Type 0
  IsFound o = (a : Address) × (o ≡ Some a)

  moved_found : (o : Option Address) (k : Option ℤ) (size : ℕ) (a : Address) → moved d o k size ≡ Some a → IsFound o
  moved_found None k size a h = cc
  moved_found (Some b) k size a h = (b, refl)

  subscripted_found : (s : Bool) (t : CType) (o : Option Address) (k : Option ℤ) (a : Address) → subscripted d s t o k ≡ Some a → IsFound o
  subscripted_found s (array t n) (Some b) k a h = (b, refl)
  subscripted_found s t o k a h = cc

  not_null : (x : Trees.Expression CType) (a : Address) → address_in d x ≡ Some a → is_null_node x ≡ false
  not_null (Trees.expression t at Trees.null) a h = cc
  not_null (Trees.expression t at node) a h = refl

  -- ---- types of pointers

  good_values : (p t : CType) → Conversions.pointed p ≡ Some t → IsGood p → Are (values_in t)
  good_values p t e g = subst IsGood (pointed_is p t e) g

  good_pointed : (t : CType) → IsGood t → Are (pointed t)
  good_pointed (pointer u) g = (two_parts A (itself u) (arrays_in u) g).0
  good_pointed t g = tt

  decayed_good : (a t : CType) → option_map pointer (element_of a) ≡ Some t → Are (values_in a) → IsGood t
  decayed_good (array u n) t h v = subst IsGood (some_is (pointer u) t h) v
  decayed_good a t h v = cc

  element_values : (a t : CType) → element_of a ≡ Some t → Are (values_in a) → Are (values_in t)
  element_values (array u n) t h v = subst (λ t. Are (values_in t)) (some_is u t h) v
  element_values a t h v = cc

  move_pointer : (op : PointerOp) (n : ℕ) (x y : Trees.Expression CType) (t : CType) → IsMove op n x y t → is_pointer t ≡ true
  move_pointer P.Add n x y t (inl h) = subst (λ t. is_pointer t ≡ true) (sym h.2) (moving_is n (ty x) (bare_ty y) (ty y) h.1)
  move_pointer P.Add n x y t (inr h) = subst (λ t. is_pointer t ≡ true) (sym h.2) (moving_is n (ty y) (bare_ty x) (ty x) h.1)
  move_pointer P.Subtract n x y t h = subst (λ t. is_pointer t ≡ true) (sym h.2) (moving_is n (ty x) (bare_ty y) (ty y) h.1)

  converted_pointer : (t : CType) (e : Expression) (written : Bool) (a : Address) → address_in_node d t (bare_node (converted t e written)) ≡ Some a
      → is_pointer t ≡ true
  converted_pointer (pointer t) e written a h = refl
  converted_pointer t e written a h = cc

  -- what has an address is a pointer
  has_pointer : (e : Expression) → IsTyped d (typed e) → (a : Address) → address_in d (typed (recognised e)) ≡ Some a → is_pointer (ty (typed e)) ≡ true
  has_pointer (Trees.expression t at (Trees.address_of p)) h a e = subst (λ t. is_pointer t ≡ true) (sym h.1) refl
  has_pointer (Trees.expression t at (Trees.decay p)) h a e = decayed_is (path_ty (bare_path p)) t.ty h.1
  has_pointer (Trees.expression t at (Trees.convert x written)) h a e = converted_pointer t.ty (recognised x) written a e
  has_pointer (Trees.expression t at (Trees.pointer_add op x y)) h a e = move_pointer op (d.complete at.at) (typed x) (typed y) t.ty h.2
  has_pointer (Trees.expression t at node) h a e = cc

  -- ---- conversions

  -- a pointer to a record that is one of another type before
  converted_accused : (r : ℕ) (x : Expression) (a : Address) → IsTyped d (typed x) → address_in d (typed (recognised x)) ≡ Some a
      → (IsGood (ty (typed x))) → Tells (of_conversion (pointer (structure r)) (typed (recognised x))) → Are (r ∷ [])
  converted_accused r x a h e good tells = by_same (same_type (pointer (structure r)) (ty y)) refl
    where
      y : Trees.Expression CType
      y = typed (recognised x)

      is : is_pointer (ty y) ≡ true
      is = ap is_pointer (type_stays x) ∙ has_pointer x h a e

      to : AMention
      to = mention To (pointer (structure r)) (place y)

      by_same : (b : Bool) → same_type (pointer (structure r)) (ty y) ≡ b → Are (r ∷ [])
      by_same true q = subst IsGood (sym (same_is (pointer (structure r)) (ty y) q ∙ type_stays x)) good
      by_same false q =
          let all : (is_pointer (ty y) && not (same_type (pointer (structure r)) (ty y)) && not (is_null_node y)) ≡ true = rw (is, q, not_null y a e) refl in
          let among : IsAmong to (of_conversion (pointer (structure r)) y) =
          subst (λ b. IsAmong to (cond b (mention From (ty y) (place y) ∷ to ∷ []) [])) (sym all) (inr (inl refl)) in
          by_mention f to (tells to among)

  -- ... where the conversion is left when allocations and null pointers are recognised
  target_accused : (r : ℕ) (at : Place) (x : Expression) (written : Bool) (a : Address) → IsTyped d (typed x)
      → (Tells (Mentions.told (typed (recognised x))) → address_in d (typed (recognised x)) ≡ Some a → IsGood (ty (typed x)))
      → Tells (told_by_node (pointer (structure r)) at (bare_node (converted (pointer (structure r)) (recognised x) written)))
      → address_in_node d (pointer (structure r)) (bare_node (converted (pointer (structure r)) (recognised x) written)) ≡ Some a → Are (r ∷ [])
  target_accused r at x written a h good tells e = by_null (is_null_constant (recognised x)) tells e
    where
      X : Trees.Expression CType
      X = typed (recognised x)

      Of : Node → Type 0
      Of node = Tells (told_by_node (pointer (structure r)) at (bare_node node)) → address_in_node d (pointer (structure r)) (bare_node node) ≡ Some a
          → Are (r ∷ [])

      by_count : (o : Option (Trees.OptionalExpression Noted × Bool)) → Of (or_converted r o (recognised x) written)
      by_count None tells e =
          let own = good (tells_left (Mentions.told X) (of_conversion (pointer (structure r)) X) tells) e in
          converted_accused r x a h e own (tells_right (Mentions.told X) (of_conversion (pointer (structure r)) X) tells)
      by_count (Some c) tells e = cc

      by_null : (n : Bool) → Of (cond n Trees.null (or_converted r (allocation r (recognised x)) (recognised x) written))
      by_null true tells e = cc
      by_null false tells e = by_count (allocation r (recognised x)) tells e

  -- what is converted to a pointer to a record
  target_told : (u : CType) (at : Place) (x : Expression) (written : Bool) (a : Address) → IsTyped d (typed x)
      → (Tells (Mentions.told (typed (recognised x))) → address_in d (typed (recognised x)) ≡ Some a → IsGood (ty (typed x)))
      → Tells (told_by_node (pointer u) at (bare_node (converted (pointer u) (recognised x) written)))
      → address_in_node d (pointer u) (bare_node (converted (pointer u) (recognised x) written)) ≡ Some a → Are (itself u)
  target_told (structure r) at x written a h good tells e = target_accused r at x written a h good tells e
  target_told u at x written a h good tells e = tt

  cast_told : (t : CType) (at : Place) (x : Expression) (a : Address) → IsTyped d (typed x)
      → (Tells (Mentions.told (typed (recognised x))) → address_in d (typed (recognised x)) ≡ Some a → IsGood (ty (typed x))) → AreArrays t
      → Tells (told_by_node t at (bare_node (converted t (recognised x) true))) → address_in_node d t (bare_node (converted t (recognised x) true)) ≡ Some a
      → IsGood t
  cast_told (pointer u) at x a h good arrays tells e = joined A (itself u) (arrays_in u) (target_told u at x true a h good tells e) arrays
  cast_told t at x a h good arrays tells e = cc

  -- ---- expressions and paths

  added : (op : PointerOp) (n : ℕ) (x y : Expression) (t : CType) (a : Address) → IsMove op n (typed x) (typed y) t
      → (is_bare (typed x) ≡ true → (a : Address) → address_in d (typed (recognised x)) ≡ Some a → IsGood (ty (typed x)))
      → (is_bare (typed y) ≡ true → (a : Address) → address_in d (typed (recognised y)) ≡ Some a → IsGood (ty (typed y)))
      → address_in_node d t (Trees.pointer_add op (typed (recognised x)) (typed (recognised y))) ≡ Some a → IsGood t
  added op n x y t a h p q e = by_op op h e
    where
      X : Trees.Expression CType
      X = typed (recognised x)

      Y : Trees.Expression CType
      Y = typed (recognised y)

      Of : PointerOp → Bool → Type 0
      Of op b = cond b (moved d (address_in d X) (or_negated d op (number_in (ty Y) (constant_of Y))) (element_size d.records t))
          (moved d (address_in d Y) (number_in (ty X) (constant_of X)) (element_size d.records t)) ≡ Some a

      left : (op : PointerOp) → IsMoved n (typed x) (typed y) t → Of op (is_pointer (ty X)) → IsGood t
      left op k e =
          let is = ap is_pointer (type_stays x) ∙ moving_is n (ty (typed x)) (bare_ty (typed y)) (ty (typed y)) k.1 in
          let z = moved_found (address_in d X) (or_negated d op (number_in (ty Y) (constant_of Y))) (element_size d.records t) a (subst (Of op) is e) in
          subst IsGood (sym k.2) (p k.0 z.0 z.1)

      right : (op : PointerOp) → IsMoved n (typed y) (typed x) t → Of op (is_pointer (ty X)) → IsGood t
      right op k e =
          let number = moved_number n (ty (typed y)) (bare_ty (typed x)) (ty (typed x)) k.1 in
          let is = ap is_pointer (type_stays x) ∙ integer_is (ty (typed x)) number in
          let z = moved_found (address_in d Y) (number_in (ty X) (constant_of X)) (element_size d.records t) a (subst (Of op) is e) in
          subst IsGood (sym k.2) (q k.0 z.0 z.1)

      by_op : (op : PointerOp) → IsMove op n (typed x) (typed y) t → Of op (is_pointer (ty X)) → IsGood t
      by_op P.Add (inl k) e = left P.Add k e
      by_op P.Add (inr k) e = right P.Add k e
      by_op P.Subtract k e = left P.Subtract k e

  mutual
    bare_told : (e : Expression) → is_bare (typed e) ≡ true → IsTyped d (typed e) → Leaves e → Tells (Mentions.told (typed (recognised e))) → (a : Address)
        → address_in d (typed (recognised e)) ≡ Some a → IsGood (ty (typed e))
    bare_told (Trees.expression t at (Trees.address_of p)) b h l tells a e = subst IsGood (sym h.1) (path_told true p h.0 l tells a e)
    bare_told (Trees.expression t at (Trees.decay p)) b h l tells a e = decayed_good (path_ty (bare_path p)) t.ty h.1 (path_told false p h.0 l tells a e)
    bare_told (Trees.expression t at (Trees.convert x false)) b h l tells a e = let false_is_true : false ≡ true = b in cc
    bare_told (Trees.expression t at (Trees.convert x true)) b h l tells a e = cast_told t.ty at x a h.0 (λ tells e. bare_told x h.1 h.0 l.1 tells a e) l.0 tells e
    bare_told (Trees.expression t at (Trees.pointer_add op x y)) b h l tells a e =
        let X = Mentions.told (typed (recognised x)) in
        let Y = Mentions.told (typed (recognised y)) in
        added op (d.complete at.at) x y t.ty a h.2 (λ b a e. bare_told x b h.0 l.0 (tells_left X Y tells) a e)
        (λ b a e. bare_told y b h.1 l.1 (tells_right X Y tells) a e) e
    bare_told (Trees.expression t at node) b h l tells a e = cc

    path_told : (s : Bool) (p : Path) → IsTypedPath d (bare_path p) → InPath anything AreArrays p → Tells (told_by_path (bare_path (recognised_path p)))
        → (a : Address) → address_of_path d s (bare_path (recognised_path p)) ≡ Some a → Are (values_in (path_ty (bare_path p)))
    path_told s (Trees.path t at (Trees.local n)) h l tells a e = cc
    path_told s (Trees.path t at (Trees.object n)) h l tells a e = objects n t.ty h
    path_told s (Trees.path t at (Trees.deref x)) h l tells a e = good_values (ty (typed x)) t.ty h.2 (bare_told x h.1 h.0 l tells a e)
    path_told s (Trees.path t at (Trees.index x i)) h l tells a e =
        let X = typed (recognised x) in
        let I = typed (recognised i) in
        let z = moved_found (address_in d X) (number_in (ty I) (constant_of I)) (element_size d.records (ty X)) a e in
        good_values (ty (typed x)) t.ty h.5 (bare_told x h.2 h.0 l.0 (tells_left (Mentions.told X) (Mentions.told I) tells) z.0 z.1)
    path_told s (Trees.path t at (Trees.member p r field)) h l tells a e = field_accused f r field t.ty h.2
    path_told s (Trees.path t at (Trees.element p i)) h l tells a e =
        let path = bare_path (recognised_path p) in
        let I = typed (recognised i) in
        let z = subscripted_found s (path_type d path) (address_of_path d false path) (number_in (ty I) (constant_of I)) a e in
        element_values (path_ty (bare_path p)) t.ty h.3 (path_told false p h.0 l.0 (tells_left (told_by_path path) (Mentions.told I) tells) z.0 z.1)

  -- the conversion at the top is by what is initialized
  top_told : (e : Expression) → IsTyped d (typed e) → Leaves e → Tells (Mentions.told (typed (recognised e))) → (a : Address)
      → address_in d (typed (recognised e)) ≡ Some a → Are (pointed (ty (typed e)))
  top_told (Trees.expression t at (Trees.convert x false)) h l tells a e = by_type t.ty tells e
    where
      by_type : (t : CType) → Tells (told_by_node t at (bare_node (converted t (recognised x) false)))
          → address_in_node d t (bare_node (converted t (recognised x) false)) ≡ Some a → Are (pointed t)
      by_type (pointer u) tells e = target_told u at x false a h.0 (λ tells e. bare_told x h.1 h.0 l tells a e) tells e
      by_type t tells e = tt
  top_told (Trees.expression t at (Trees.convert x true)) h l tells a e = good_pointed t.ty (bare_told (Trees.expression t at (Trees.convert x true)) refl h l tells a e)
  top_told (Trees.expression t at node) h l tells a e = good_pointed t.ty (bare_told (Trees.expression t at node) refl h l tells a e)

  -- ---- what is stored

  abbrev pub IsToldStore : Stores → Type 0
  IsToldStore (at, t, an_address a) = Are (pointed t)
  IsToldStore (at, t, v) = Unit {0}

  abbrev AreToldStores : List Stores → Type 0
  AreToldStores all = AllByRecursion IsToldStore all

  -- a value that is an address has it
  by_functions : (g : Option ℕ) (a : Address) → as_function d g ≡ Some (an_address a) → ⊥
  by_functions None a h = cc
  by_functions (Some g) a h = cc

  by_address : (o : Option Address) (g : Option ℕ) (a : Address) → as_address d o (as_function d g) ≡ Some (an_address a) → o ≡ Some a
  by_address (Some b) g a h = cc
  by_address None g a h = absurd (by_functions g a h)

  by_constant : (kind : IntKind) (c : Constant) (a : Address) → as_number d kind c ≡ Some (an_address a) → ⊥
  by_constant kind (valued v) a h = cc
  by_constant kind c a h = cc

  by_pointer : (n : Bool) (x : Trees.Expression CType) (a : Address)
      → cond n (Some a_null) (as_address d (address_in d x) (as_function d (function_in d x))) ≡ Some (an_address a) → address_in d x ≡ Some a
  by_pointer true x a h = cc
  by_pointer false x a h = by_address (address_in d x) (function_in d x) a h

  of_initial : (t : CType) (x : Trees.Expression CType) (a : Address) → initial_in d t x ≡ Some (an_address a) → address_in d x ≡ Some a
  of_initial (integer kind) x a h = absurd (by_constant kind (constant_of x) a h)
  of_initial t x a h = by_pointer (is_null_in d x) x a h

  expression_stored : (e : Expression) (at : ℕ) → IsTyped d (typed e) → Leaves e → Tells (Mentions.told (typed (recognised e)))
      → AreToldStores (stored (ty (typed (recognised e))) at (initial_value d (typed (recognised e))))
  expression_stored e at h l tells = by_value (initial_value d X) refl
    where
      X : Trees.Expression CType
      X = typed (recognised e)

      by_value : (o : Option InitialValue) → initial_value d X ≡ o → AreToldStores (stored (ty X) at o)
      by_value None q = tt
      by_value (Some a_null) q = tt
      by_value (Some (a_number kind v)) q = (tt, tt)
      by_value (Some (a_function g)) q = (tt, tt)
      by_value (Some (an_address a)) q =
          (subst (λ t. Are (pointed t)) (sym (type_stays e)) (top_told e h l tells a (of_initial (ty X) X a q)), tt)

  text_stored : (at : ℕ) (bytes : List ℕ) → AreToldStores (of_text at bytes)
  text_stored at [] = tt
  text_stored at (v ∷ bytes) = (tt, text_stored (at + 1) bytes)

  value_stored : (t : CType) (at : ℕ) (v : Trees.PartValue Noted) → IsTypedValue d t (typed_value v) → InValue anything AreArrays v
      → Tells (told_by_value (typed_value (Units.recognised_value v))) → AreToldStores (of_value f at (typed_value (Units.recognised_value v)))
  value_stored t at (Trees.value e) h l tells = expression_stored e at h.0 l tells
  value_stored t at (Trees.record_of p) h l tells = tt
  value_stored t at (Trees.text bytes) h l tells = text_stored at bytes

  parts_stored : (t : CType) (all : List (Trees.Part Noted)) → AllByRecursion (IsTypedPart d t) (map typed_part all) → InParts anything AreArrays all
      → Tells (flat_map (λ part. told_by_value part.value) (map typed_part (map recognised_part all)))
      → AreToldStores (flat_map (Units.of_part f) (map typed_part (map recognised_part all)))
  parts_stored t [] h l tells = tt
  parts_stored t (part ∷ all) h l tells =
      let own = told_by_value (typed_value (Units.recognised_value part.value)) in
      let more = flat_map (λ part. told_by_value part.value) (map typed_part (map recognised_part all)) in
      joined IsToldStore (of_value f part.offset (typed_value (Units.recognised_value part.value)))
      (flat_map (Units.of_part f) (map typed_part (map recognised_part all)))
      (value_stored h.0.0 part.offset part.value h.0.2 l.0 (tells_left own more tells)) (parts_stored t all h.1 l.1 (tells_right own more tells))

  pub initial_stored : (t : CType) (i : Trees.Initializer Noted) → IsTypedObject f t i → InInitializer anything AreArrays i
      → Tells (told_by_initial (Some (typed_initializer i))) → AreToldStores (of_initializer f (typed_initializer i))
  initial_stored t (Trees.whole e) h l tells = expression_stored e 0 h.0 l tells
  initial_stored t (Trees.whole_record p) h l tells = tt
  initial_stored t (Trees.parts []) h l tells = tt
  initial_stored t (Trees.parts (part ∷ all)) h l tells =
      parts_stored t (part ∷ all) (recursion_from_All (IsTypedPart d t) (map typed_part (part ∷ all)) h.1) l tells
