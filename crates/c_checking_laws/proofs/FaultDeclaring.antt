-- What the faults of declarations say: constants, tags, structures, enumerators, steps of declarators and specifiers (C99 6.6, 6.7).
use Rattle.std.proofs.Common.{◌≡◌, ◌≢◌, ℕ, zero, suc, ◌+◌, ◌≤◌, ◌<◌, Bool, true, false, refl, sym, ap, ◌∙◌, subst, cond, List, [], ◌∷◌, ◌++◌, length}
use Rattle.std.proofs.Common.{append_assoc, arith, inl, inr}
use Rattle.std.proofs.lemmas.Bool.{eqb-true, eq-eqb, lt-ltb}
use Rattle.std.proofs.lemmas.Bool.Decides.{nat_tests}
use Rattle.std.proofs.lemmas.Slice.Eq.{bytes_eq-Decides}
use Rattle.std.specs.Prelude.{Option, Some, None, Err, ◌⊎◌, ◌&&◌, nat_lt, nat_le, ◌==◌, ◌^◌, slice_get, ℤ, pos, negsuc}
use Rattle.std.specs.Str.{bytes_eq}
use Rattle.lay_base.specs.declared.faults.Rule.{Rule}
use Rattle.lay_base.specs.declared.faults.Rule.TheVariants as R
use Rattle.c_types.specs.declared.ty.IntKind.{IntKind}
use Rattle.c_types.specs.Types.{CType, void, integer, pointer, array, function, structure, Record}
use Rattle.c_types.specs.Layouts.{size_of, size_of_record}
use Rattle.c_types.specs.Objects.{is_object, parts}
use Rattle.c_ast.specs.declared.words.Spelling.{Spelling}
use Rattle.c_ast.specs.Trees
use Rattle.c_typed.specs.Conversions.{is_integer, number_of}
use Rattle.c_typed.specs.Constants.{Constant, none, undefined, valued, constant_of}
use Rattle.c_erasure.specs.Broken.{Fault, ill_typed, undeclared, redeclared, too_big, IsOtherTag, IsTagElsewhere, IsRepeated, IsNoLength, IsNoInt, IsTooBig}
use Rattle.c_erasure.specs.Broken.{IsNoResult}
use Rattle.c_erasure.specs.Broken.{IsNoParameter, AreNoType, IsOldName}
use Rattle.c_erasure.specs.Declarators.{Shape, closed, open_array}
use Rattle.c_erasure.specs.Erasure.{typed}
use Rattle.c_erasure.specs.Noted.{Expression, type_of}
use Rattle.c_erasure.specs.Scopes.{Bound, FileScope, Scope, Tag, Entity, typedef, enumerator, a_local, a_parameter, tag_at, here, or_else}
use Rattle.c_erasure.specs.Scopes as Scopes
use Rattle.c_erasure.specs.Specifiers.{Words, Storage, no_storage, is_register, a_typedef, is_extern, is_static, is_auto, several, types_among, words_of}
use Rattle.c_erasure.specs.Specifiers.{no_words, same_words, named_by}
use Rattle.c_erasure.specs.Checking.Answers.{Answer, Checked}
use Rattle.c_erasure.specs.Checking.Declaring.{constant_of_type, constant_in, tag_named, place_of_tag, next, number_among, structure_of, other_tag, tagged}
use Rattle.c_erasure.specs.Checking.Declaring.{tagged_in}
use Rattle.c_erasure.specs.Checking.Declaring.{enumerated}
use Rattle.c_erasure.specs.Checking.Declaring.{enumerated_in, type_named, standing, repeated_or, repeated, unless, definable, known_tag, place_of_record}
use Rattle.c_erasure.specs.Checking.Declaring.{record_if_any, completed_before}
use Rattle.c_erasure.specs.Checking.Declaring.{is_next, completed_in, declared_among, new_name, enumerator_in, is_int, int_value, next_value, only_tag}
use Rattle.c_erasure.specs.Checking.Declaring.{enumeration_of}
use Rattle.c_erasure.specs.Checking.Declaring.{is_small, small, element, is_result, result_type, length_of_number, length_value, closed_at, object_at, by_one}
use Rattle.c_erasure.specs.Checking.Declaring.{no_type}
use Rattle.c_erasure.specs.Checking.Declaring.{base_of_words, base_among, base_kind, without_storage, parameter_storage, new_here, new_if_named}
use Rattle.c_erasure.specs.Checking.Declaring.{scalar_parameter}
use Rattle.c_erasure.specs.Checking.Finding.{base_type}
use Rattle.c_checking_laws.proofs.Extends.{Extends, kept, behind}
use Rattle.c_checking_laws.proofs.Agreement.{IsSteady}
use Rattle.c_checking_laws.proofs.Declared.{number_is}
use Rattle.c_checking_laws.proofs.NodesOfParts.{same_bytes}
use Rattle.c_checking_laws.proofs.FaultResults.{bad, same_fault, chosen_err, unless_err}
use Rattle.c_checking_laws.proofs.FaultNodes.{over, incomplete}

-- ---- integer constant expressions (6.6)

pub constant_fault : (at : ℕ) (x : Expression) (f : Fault) → constant_in at x ≡ Err f
    → (f ≡ ill_typed R.Constant at) × ((is_integer (type_of x) ≡ false) ⊎ ((v : ℕ) → constant_of (typed x) ≢ valued v))
unfolding constant_in
constant_fault at x f h = by_parts (type_of x) (constant_of (typed x)) h
  where
    by_parts : (t : CType) (c : Constant) → constant_of_type at t c ≡ Err f
        → (f ≡ ill_typed R.Constant at) × ((is_integer t ≡ false) ⊎ ((v : ℕ) → c ≢ valued v))
    by_parts (integer kind) (valued v) h = cc
    by_parts (integer kind) none h = (same_fault (IntKind × ℕ) (ill_typed R.Constant at) f h, inr (λ v e. cc))
    by_parts (integer kind) undefined h = (same_fault (IntKind × ℕ) (ill_typed R.Constant at) f h, inr (λ v e. cc))
    by_parts void c h = (same_fault (IntKind × ℕ) (ill_typed R.Constant at) f h, inl refl)
    by_parts (pointer t) c h = (same_fault (IntKind × ℕ) (ill_typed R.Constant at) f h, inl refl)
    by_parts (array t n) c h = (same_fault (IntKind × ℕ) (ill_typed R.Constant at) f h, inl refl)
    by_parts (function t all) c h = (same_fault (IntKind × ℕ) (ill_typed R.Constant at) f h, inl refl)
    by_parts (structure r) c h = (same_fault (IntKind × ℕ) (ill_typed R.Constant at) f h, inl refl)

no_int : (z : ℤ) → is_int z ≡ false → IsNoInt z
no_int (pos n) h i = let t = lt-ltb n (2 ^ 31) i in cc
no_int (negsuc n) h i = let t = lt-ltb n (2 ^ 31) i in cc

pub int_fault : (at : ℕ) (c : IntKind × ℕ) (f : Fault) → int_value at c ≡ Err f → (f ≡ ill_typed R.Constant at) × IsNoInt (number_of c.0 c.1)
int_fault at c f h = let b = unless_err (is_int (number_of c.0 c.1)) _ _ _ f h in (b.1, no_int (number_of c.0 c.1) b.0)

pub next_fault : (at v : ℕ) (f : Fault) → next_value at v ≡ Err f → (f ≡ ill_typed R.Constant at) × (v ≡ 2 ^ 31)
next_fault at v f h =
    chosen_err (v == 2 ^ 31) _ _ f _ h (λ b h. (same_fault ℕ (ill_typed R.Constant at) f h, eqb-true v (2 ^ 31) b)) (λ b h. cc)

pub length_fault : (at : ℕ) (c : IntKind × ℕ) (f : Fault) → length_value at c ≡ Err f → (f ≡ ill_typed R.Length at) × IsNoLength (number_of c.0 c.1)
length_fault at c f h = by_number (number_of c.0 c.1) h
  where
    by_number : (z : ℤ) → length_of_number at z ≡ Err f → (f ≡ ill_typed R.Length at) × IsNoLength z
    by_number (pos zero) h = (same_fault ℕ (ill_typed R.Length at) f h, λ n l e. let g : 0 ≡ n = cc in absurd (omega (arith, l, g)))
    by_number (pos (suc n)) h = cc
    by_number (negsuc n) h = (same_fault ℕ (ill_typed R.Length at) f h, λ n l e. cc)

-- ---- what is so of the lists of a file: tags are known one after the other, those of structures have numbers, and definitions end one
-- after the other

pub record IsOrderly (f : FileScope) : Type 0 where
  pub tags_ascend : (j k : ℕ) (t u : Tag) → j < k → slice_get f.tags j ≡ Some t → slice_get f.tags k ≡ Some u → t.from ≤ u.from
  pub tags_numbered : (k : ℕ) (t : Tag) → slice_get f.tags k ≡ Some t → t.is_enumeration ≡ false → (r : ℕ) × (number_among f.numbered t.name ≡ Some r)
  pub ends_ascend : (j k a b : ℕ) → j < k → slice_get f.ends j ≡ Some a → slice_get f.ends k ≡ Some b → a < b

pub orderly_stays : {f g : FileScope} → Extends f g → IsOrderly f → IsOrderly g
orderly_stays {f} {g} p h = record {
  tags_ascend = λ j k t u l a b. h.tags_ascend j k t u l (subst (λ all. slice_get all j ≡ Some t) p.tags a) (subst (λ all. slice_get all k ≡ Some u) p.tags b);
  tags_numbered = λ k t a e. subst (λ all. (r : ℕ) × (number_among all t.name ≡ Some r)) (sym p.numbered)
      (h.tags_numbered k t (subst (λ all. slice_get all k ≡ Some t) p.tags a) e);
  ends_ascend = λ j k a b l d e. h.ends_ascend j k a b l (subst (λ all. slice_get all j ≡ Some a) p.ends d) (subst (λ all. slice_get all k ≡ Some b) p.ends e);
}

-- ---- tags (6.7.2.3)

abbrev IsSeen : List Tag → List ℕ → (at : ℕ) → Bool → ℕ → Tag → Type 0
IsSeen all x at sort k t = (slice_get all k ≡ Some t) × (t.name ≡ x) × (t.is_enumeration ≡ sort) × (t.from < at)

seen_of : (b : Bool) (o p : Option Bool) (sort : Bool) (P : Type 0) → or_else (cond b o None) p ≡ Some sort → (b ≡ true → or_else o p ≡ Some sort → P)
    → (b ≡ false → p ≡ Some sort → P) → P
seen_of true o p sort P h q r = q refl h
seen_of false o p sort P h q r = r refl h

both_so : (b c : Bool) → (b && c) ≡ true → (b ≡ true) × (c ≡ true)
both_so true true h = (refl, refl)
both_so true false h = cc
both_so false c h = cc

below_so : (n m : ℕ) → nat_lt n m ≡ true → n < m
below_so n m h = grind (arith, nat_tests)

same_sort : (b c : Bool) → Some b ≡ Some c → b ≡ c
same_sort b c e = cc

pub tag_seen : (all : List Tag) (x : List ℕ) (at : ℕ) (sort : Bool) → tag_at all x at ≡ Some sort → (k : ℕ) × (t : Tag) × IsSeen all x at sort k t
tag_seen [] x at sort h = cc
tag_seen (t ∷ more) x at sort h =
    seen_of (bytes_eq t.name x && nat_lt t.from at) (Some t.is_enumeration) (tag_at more x at) sort ((k : ℕ) × (u : Tag) × IsSeen (t ∷ more) x at sort k u) h
    (λ b h. let c = both_so (bytes_eq t.name x) (nat_lt t.from at) b in
    (0, t, (refl, same_bytes t.name x c.0, same_sort t.is_enumeration sort h, below_so t.from at c.1)))
    (λ b h. let r = tag_seen more x at sort h in (suc r.0, r.1, (r.2.0, r.2.1, r.2.2, r.2.3)))

abbrev AreKnownInOrder : List Tag → Type 0
AreKnownInOrder all = (j k : ℕ) (t u : Tag) → j < k → slice_get all j ≡ Some t → slice_get all k ≡ Some u → t.from ≤ u.from

-- the first tag of that name is seen
pub first_seen : (all : List Tag) (x : List ℕ) (at : ℕ) (sort : Bool) → AreKnownInOrder all → tag_at all x at ≡ Some sort
    → (k : ℕ) × (t : Tag) × IsSeen all x at sort k t × (place_of_tag (tag_named all x) ≡ t.place)
first_seen [] x at sort order h = cc
first_seen (t ∷ more) x at sort order h =
    by_name (bytes_eq t.name x) refl (nat_lt t.from at) refl h (λ h. first_seen more x at sort
    (λ j k u v l a b. order (suc j) (suc k) u v (omega (arith, l)) a b) h)
  where
    behind_it : (k : ℕ) (u : Tag) → IsSeen more x at sort k u → IsSeen (t ∷ more) x at sort (suc k) u
    behind_it k u s = (s.0, s.1, s.2, s.3)

    by_name : (b : Bool) → bytes_eq t.name x ≡ b → (c : Bool) → nat_lt t.from at ≡ c
        → or_else (cond (b && c) (Some t.is_enumeration) None) (tag_at more x at) ≡ Some sort
        → (tag_at more x at ≡ Some sort → (k : ℕ) × (u : Tag) × IsSeen more x at sort k u × (place_of_tag (tag_named more x) ≡ u.place))
        → (k : ℕ) × (u : Tag) × IsSeen (t ∷ more) x at sort k u × (place_of_tag (cond b (Some t) (tag_named more x)) ≡ u.place)
    by_name true e true g h later = (0, t, (refl, same_bytes t.name x e, same_sort t.is_enumeration sort h, below_so t.from at g), refl)
    by_name true e false g h later =
        let r = tag_seen more x at sort h in
        let l : t.from ≤ r.1.from = order 0 (suc r.0) t r.1 (omega arith) refl r.2.0 in
        let m : t.from < at = omega (arith, l, r.2.3) in
        let n = lt-ltb t.from at m in cc
    by_name false e c g h later = let r = later h in (suc r.0, r.1, behind_it r.0 r.1 r.2, r.3)

other_seen : (s : Scope) (x : Spelling) (sort : Bool) → IsOrderly s.file → tag_at s.file.tags x.text x.from ≡ Some sort → (f : Fault) → f ≡ other_tag s.file x
    → IsOtherTag s x sort f
other_seen s x sort order h f e =
    let t = first_seen s.file.tags x.text x.from sort order.tags_ascend h in
    (t.0, t.1, t.2.0, t.2.1, t.2.2, t.2.3, e ∙ ap (λ at. redeclared x.text x.from at) t.3)

pub tagged_fault : (s : Scope) (at : ℕ) (x : Spelling) → IsOrderly s.file
    → (s.is_inside ≡ false → (r : ℕ) × (number_among s.file.numbered x.text ≡ Some r)) → (f : Fault) → tagged_in s at x ≡ Err f
    → IsOtherTag s x true f ⊎ ((f ≡ ill_typed R.Scope at) × (s.is_inside ≡ true) × (tag_at s.file.tags x.text x.from ≡ None))
unfolding tagged_in
tagged_fault s at x order has f h = by_tag (tag_at s.file.tags x.text x.from) refl h
  where
    numbered : (r : ℕ) × (number_among s.file.numbered x.text ≡ Some r) → structure_of at (number_among s.file.numbered x.text) ≡ Err f → ⊥
    numbered n h = let g : structure_of at (Some n.0) ≡ Err f = subst (λ o. structure_of at o ≡ Err f) n.1 h in cc

    by_tag : (o : Option Bool) → tag_at s.file.tags x.text x.from ≡ o → tagged s at x o ≡ Err f
        → IsOtherTag s x true f ⊎ ((f ≡ ill_typed R.Scope at) × (s.is_inside ≡ true) × (o ≡ None))
    by_tag (Some true) e h = inl (other_seen s x true order e f (same_fault CType (other_tag s.file x) f h))
    by_tag (Some false) e h =
        let t = tag_seen s.file.tags x.text x.from false e in
        let n = order.tags_numbered t.0 t.1 t.2.0 t.2.2 in
        absurd (numbered (subst (λ tag. (r : ℕ) × (number_among s.file.numbered tag ≡ Some r)) t.2.1 n) h)
    by_tag None e h =
        chosen_err s.is_inside _ _ f (IsOtherTag s x true f ⊎ ((f ≡ ill_typed R.Scope at) × (s.is_inside ≡ true) × (None ≡ None))) h
        (λ b h. inr (same_fault CType (ill_typed R.Scope at) f h, b, refl)) (λ b h. absurd (numbered (has b) h))

pub enumerated_fault : (s : Scope) (x : Spelling) → IsOrderly s.file → (f : Fault) → enumerated_in s.file x ≡ Err f
    → IsOtherTag s x false f ⊎ ((f ≡ undeclared x.text x.from) × (tag_at s.file.tags x.text x.from ≡ None))
unfolding enumerated_in
enumerated_fault s x order f h = by_tag (tag_at s.file.tags x.text x.from) refl h
  where
    by_tag : (o : Option Bool) → tag_at s.file.tags x.text x.from ≡ o → enumerated s.file x o ≡ Err f
        → IsOtherTag s x false f ⊎ ((f ≡ undeclared x.text x.from) × (o ≡ None))
    by_tag (Some true) e h = cc
    by_tag (Some false) e h = inl (other_seen s x false order e f (same_fault CType (other_tag s.file x) f h))
    by_tag None e h = inr (same_fault CType (undeclared x.text x.from) f h, refl)

pub type_named_fault : (x : Spelling) (o : Option Entity) (f : Fault) → type_named x o ≡ Err f
    → ((t : CType) → o ≢ Some (typedef t)) × (f ≡ undeclared x.text x.from)
type_named_fault x None f h = (λ t e. cc, same_fault CType (undeclared x.text x.from) f h)
type_named_fault x (Some (typedef t)) f h = cc
type_named_fault x (Some (enumerator v)) f h = (λ t e. cc, same_fault CType (undeclared x.text x.from) f h)
type_named_fault x (Some (Scopes.an_object n t)) f h = (λ t e. cc, same_fault CType (undeclared x.text x.from) f h)
type_named_fault x (Some (Scopes.a_function n t)) f h = (λ t e. cc, same_fault CType (undeclared x.text x.from) f h)
type_named_fault x (Some (Scopes.a_library_function which)) f h = (λ t e. cc, same_fault CType (undeclared x.text x.from) f h)
type_named_fault x (Some (a_local n t)) f h = (λ t e. cc, same_fault CType (undeclared x.text x.from) f h)
type_named_fault x (Some (a_parameter t)) f h = (λ t e. cc, same_fault CType (undeclared x.text x.from) f h)

-- ---- definitions of structures (6.7.2.1)

pub unless_fault : {A : Type 0} (o : Option Fault) (r : Answer A) (f : Fault) (P : Type 0) → unless o r ≡ Err f → (o ≡ Some f → P)
    → (o ≡ None → r ≡ Err f → P) → P
unless_fault None r f P h p q = q refl h
unless_fault {A} (Some e) r f P h p q = p (ap Some (sym (same_fault A e f h)))

pub definable_fault : (s : Scope) (at : ℕ) (x : Option Spelling) → IsOrderly s.file → (f : Fault) → definable s at x (known_tag s x) ≡ Some f
    → (y : Spelling) × (x ≡ Some y) × IsOtherTag s y true f
definable_fault s at None order f h = cc
definable_fault s at (Some x) order f h = by_tag (tag_at s.file.tags x.text x.from) refl h
  where
    some_fault : (e : Fault) → Some e ≡ Some f → f ≡ e
    some_fault e h = cc

    by_tag : (o : Option Bool) → tag_at s.file.tags x.text x.from ≡ o → definable s at (Some x) o ≡ Some f
        → (y : Spelling) × (Some x ≡ Some y) × IsOtherTag s y true f
    by_tag (Some true) e h = (x, refl, other_seen s x true order e f (some_fault (other_tag s.file x) h))
    by_tag (Some false) e h = cc
    by_tag None e h = cc

stands_there : (before : List Spelling) (x : List ℕ) (y : Spelling) → standing before x ≡ Some y
    → (j : ℕ) × (j < length before) × (slice_get before j ≡ Some y) × (y.text ≡ x)
stands_there [] x y h = cc
stands_there (z ∷ before) x y h = by_test (bytes_eq z.text x) refl (λ h. stands_there before x y h) h
  where
    by_test : (b : Bool) → bytes_eq z.text x ≡ b
        → (standing before x ≡ Some y → (j : ℕ) × (j < length before) × (slice_get before j ≡ Some y) × (y.text ≡ x))
        → cond b (Some z) (standing before x) ≡ Some y → (j : ℕ) × (j < length (z ∷ before)) × (slice_get (z ∷ before) j ≡ Some y) × (y.text ≡ x)
    by_test true e later h =
        let w : z ≡ y = cc in
        (0, omega arith, h, subst (λ (y : Spelling). y.text ≡ x) w (same_bytes z.text x e))
    by_test false e later h = let r = later h in (suc r.0, omega (arith, r.1), r.2, r.3)

pub repeated_fault : (before names : List Spelling) (f : Fault) → repeated before names ≡ Some f → IsRepeated (before ++ names) f
repeated_fault before [] f h = cc
repeated_fault before (y ∷ more) f h = by_name (standing before y.text) refl (λ h. repeated_fault (before ++ y ∷ []) more f h) h
  where
    some_fault : (e : Fault) → Some e ≡ Some f → f ≡ e
    some_fault e h = cc

    by_name : (o : Option Spelling) → standing before y.text ≡ o → (repeated (before ++ y ∷ []) more ≡ Some f → IsRepeated ((before ++ y ∷ []) ++ more) f)
        → repeated_or y o (repeated (before ++ y ∷ []) more) ≡ Some f → IsRepeated (before ++ y ∷ more) f
    by_name None e later h = subst (λ all. IsRepeated all f) (append_assoc before (y ∷ []) more) (later h)
    by_name (Some x) e later h =
        let r = stands_there before y.text x e in (
          r.0,
          length before,
          x,
          y,
          r.1,
          kept before (y ∷ more) r.0 x r.2,
          behind before (y ∷ more) 0 (length before) y (omega arith) refl,
          r.3,
          some_fault (redeclared y.text y.from x.from) h,
        )

number_first : (all : List (List ℕ)) (x : List ℕ) (n : ℕ) → slice_get all n ≡ Some x → (k : ℕ) × (number_among all x ≡ Some k) × (k ≤ n)
number_first [] x n h = cc
number_first (t ∷ more) x zero h =
    let e : t ≡ x = cc in
    (0, ap (λ b. cond b (Some 0) (next (number_among more x))) ((bytes_eq-Decides t x).1 e), omega arith)
number_first (t ∷ more) x (suc n) h = by_test (bytes_eq t x) (number_first more x n h)
  where
    by_test : (b : Bool) → (k : ℕ) × (number_among more x ≡ Some k) × (k ≤ n)
        → (k : ℕ) × (cond b (Some 0) (next (number_among more x)) ≡ Some k) × (k ≤ suc n)
    by_test true r = (0, refl, omega arith)
    by_test false r = (r.0 + 1, ap next r.1, omega (arith, r.2))

-- what stands before something in a list
earlier : {X : Type 0} (all : List X) (k n : ℕ) (y : X) → k ≤ n → slice_get all n ≡ Some y → (x : X) × (slice_get all k ≡ Some x)
earlier [] k n y l h = cc
earlier (z ∷ all) zero n y l h = (z, refl)
earlier (z ∷ all) (suc k) zero y l h = absurd (omega (arith, l))
earlier (z ∷ all) (suc k) (suc n) y l h = earlier all k n y (omega (arith, l)) h

within : {X : Type 0} (all : List X) (k : ℕ) → k < length all → (x : X) × (slice_get all k ≡ Some x)
within [] k l = absurd (omega (arith, l))
within (x ∷ all) zero l = (x, refl)
within (x ∷ all) (suc k) l = within all k (omega (arith, l))

-- a definition that ended before one that ends at a byte
abbrev pub IsEarlier : FileScope → (tag : List ℕ) → (named right : ℕ) → Fault → Type 0
IsEarlier g tag named right f = (k end : ℕ) × (r : Record) × (slice_get g.records k ≡ Some r) × (r.tag ≡ tag) × (slice_get g.ends k ≡ Some end)
    × (end < right) × (f ≡ redeclared tag named r.place.at)

not_next : (n k : ℕ) → is_next n (Some k) ≡ false → k ≢ n
not_next n k h e = let f = eq-eqb k n e in cc

earlier_fault : (g : FileScope) (named : ℕ) (tag : List ℕ) (right : ℕ) → IsSteady g → IsOrderly g → slice_get g.numbered (length g.records) ≡ Some tag
    → slice_get g.ends (length g.records) ≡ Some right → is_next (length g.records) (number_among g.numbered tag) ≡ false → (f : Fault)
    → f ≡ completed_before g named tag → IsEarlier g tag named right f
earlier_fault g named tag right steady order numbered end b f h =
    let n = number_first g.numbered tag (length g.records) numbered in
    let c : n.0 ≢ length g.records = not_next (length g.records) n.0 (subst (λ o. is_next (length g.records) o ≡ false) n.1 b) in
    let l : n.0 < length g.records = less n.0 (length g.records) n.2 c in
    let r = within g.records n.0 l in
    let e = earlier g.ends n.0 (length g.records) right (omega (arith, l)) end in
    let own : Some r.0.tag ≡ Some tag = sym (steady.tagged n.0 r.0 r.1) ∙ number_is g.numbered tag n.0 n.1 in (
      n.0,
      e.0,
      r.0,
      r.1,
      some_tag r.0.tag tag own,
      e.1,
      order.ends_ascend n.0 (length g.records) e.0 right l e.1 end,
      h ∙ ap (λ o. redeclared tag named (place_of_record (record_if_any g.records o))) n.1 ∙ ap (λ o. redeclared tag named (place_of_record o)) r.1,
    )
  where
    some_tag : (x y : List ℕ) → Some x ≡ Some y → x ≡ y
    some_tag x y e = cc

    less : (k n : ℕ) → k ≤ n → k ≢ n → k < n
    less k n l c = omega (arith, l, c)

pub completed_fault : (g : FileScope) (named : ℕ) (names : List Spelling) (r : Record) (right : ℕ) → IsSteady g → IsOrderly g
    → slice_get g.numbered (length g.records) ≡ Some r.tag → slice_get g.ends (length g.records) ≡ Some right → (f : Fault)
    → completed_in g named names r ≡ Err f
    → IsRepeated names f ⊎ IsEarlier g r.tag named right f ⊎ ((f ≡ too_big r.place.at) × (16777216 < size_of_record g.records r))
unfolding completed_in
completed_fault g named names r right steady order numbered end f h =
    unless_fault (repeated [] names) _ f _ h (λ e. inl (repeated_fault [] names f e))
    (λ e h. chosen_err (is_next (length g.records) (number_among g.numbered r.tag)) _ _ f _ h
    (λ b h. chosen_err (nat_le (size_of_record g.records r) 16777216) _ _ f _ h (λ c h. cc)
    (λ c h. inr (inr (same_fault (CType × FileScope) (too_big r.place.at) f h, over (size_of_record g.records r) 16777216 c))))
    (λ b h. inr (inl (earlier_fault g named r.tag right steady order numbered end b f (same_fault (CType × FileScope) (completed_before g named r.tag) f h)))))

-- ---- enumerations (6.7.2.2)

declared_there : (all : List Bound) (x : List ℕ) (b : Bound) → declared_among all x ≡ Some b → (k : ℕ) × (slice_get all k ≡ Some b) × (b.name ≡ x)
declared_there [] x b h = cc
declared_there (c ∷ more) x b h = by_test (bytes_eq c.name x) refl (λ h. declared_there more x b h) h
  where
    by_test : (t : Bool) → bytes_eq c.name x ≡ t → (declared_among more x ≡ Some b → (k : ℕ) × (slice_get more k ≡ Some b) × (b.name ≡ x))
        → cond t (Some c) (declared_among more x) ≡ Some b → (k : ℕ) × (slice_get (c ∷ more) k ≡ Some b) × (b.name ≡ x)
    by_test true e later h = let w : c ≡ b = cc in (0, h, subst (λ (b : Bound). b.name ≡ x) w (same_bytes c.name x e))
    by_test false e later h = let r = later h in (suc r.0, r.1, r.2)

pub enumerator_fault : (g : FileScope) (b : Bound) (f : Fault) → enumerator_in g b ≡ Err f
    → (k : ℕ) × (old : Bound) × (slice_get g.names k ≡ Some old) × (old.name ≡ b.name) × (f ≡ redeclared b.name b.place old.place)
unfolding enumerator_in
enumerator_fault g b f h = by_name (declared_among g.names b.name) refl h
  where
    by_name : (o : Option Bound) → declared_among g.names b.name ≡ o → new_name g b o ≡ Err f
        → (k : ℕ) × (old : Bound) × (slice_get g.names k ≡ Some old) × (old.name ≡ b.name) × (f ≡ redeclared b.name b.place old.place)
    by_name None e h = cc
    by_name (Some old) e h =
        let d = declared_there g.names b.name old e in
        (d.0, old, d.1, d.2, same_fault FileScope (redeclared b.name b.place old.place) f h)

tag_there : (all : List Tag) (x : List ℕ) (t : Tag) → tag_named all x ≡ Some t → (k : ℕ) × (slice_get all k ≡ Some t) × (t.name ≡ x)
tag_there [] x t h = cc
tag_there (u ∷ more) x t h = by_test (bytes_eq u.name x) refl (λ h. tag_there more x t h) h
  where
    by_test : (b : Bool) → bytes_eq u.name x ≡ b → (tag_named more x ≡ Some t → (k : ℕ) × (slice_get more k ≡ Some t) × (t.name ≡ x))
        → cond b (Some u) (tag_named more x) ≡ Some t → (k : ℕ) × (slice_get (u ∷ more) k ≡ Some t) × (t.name ≡ x)
    by_test true e later h = let w : u ≡ t = cc in (0, h, subst (λ (t : Tag). t.name ≡ x) w (same_bytes u.name x e))
    by_test false e later h = let r = later h in (suc r.0, r.1, r.2)

pub enumeration_fault : (s : Scope) (x : Option Spelling) (f : Fault) → enumeration_of s.file x ≡ Err f
    → (y : Spelling) × (x ≡ Some y) × IsTagElsewhere s y f
enumeration_fault s None f h = cc
enumeration_fault s (Some x) f h = by_tag (tag_named s.file.tags x.text) refl h
  where
    by_tag : (o : Option Tag) → tag_named s.file.tags x.text ≡ o → only_tag x o ≡ Err f → (y : Spelling) × (Some x ≡ Some y) × IsTagElsewhere s y f
    by_tag None e h = cc
    by_tag (Some t) e h =
        chosen_err (t.place == x.from) _ _ f ((y : Spelling) × (Some x ≡ Some y) × IsTagElsewhere s y f) h (λ b h. cc)
        (λ b h. let d = tag_there s.file.tags x.text t e in
        (x, refl, (d.0, t, d.1, d.2, (λ q. let w = eq-eqb t.place x.from q in cc), same_fault CType (redeclared x.text x.from t.place) f h)))

-- ---- declarators (6.7.5)

pub small_fault : (s : Scope) (at : ℕ) (t : CType) (f : Fault) → small s.file.records at t ≡ Err f → IsTooBig s t at f
small_fault s at t f h =
    chosen_err (is_small s.file.records t) _ _ f (IsTooBig s t at f) h (λ b h. cc)
    (λ b h. (same_fault CType (too_big at) f h, λ i. not_small b i.bytes i.parts))
  where
    not_small : (nat_le (size_of s.file.records t) 16777216 && nat_le (parts t) 1024) ≡ false → size_of s.file.records t ≤ 16777216 → parts t ≤ 1024 → ⊥
    not_small b l m = by_test (nat_le (size_of s.file.records t) 16777216) refl b
      where
        by_test : (c : Bool) → nat_le (size_of s.file.records t) 16777216 ≡ c → (c && nat_le (parts t) 1024) ≡ false → ⊥
        by_test true e b = let k = over (parts t) 1024 b in absurd (omega (arith, k, m))
        by_test false e b = let k = over (size_of s.file.records t) 16777216 e in absurd (omega (arith, k, l))

pub element_incomplete : (records : List Record) (count at : ℕ) (t : CType) → count ≤ length records → (f : Fault) → element records count at t ≡ Err f
    → (f ≡ ill_typed R.Incomplete at) × (is_object count t ≡ false)
element_incomplete records count at t l f h =
    chosen_err _ _ _ f _ h (λ b h. cc) (λ b h. (same_fault CType (ill_typed R.Incomplete at) f h, incomplete records count t l b))

pub object_fault : (records : List Record) (count at : ℕ) (t : CType) → count ≤ length records → (f : Fault) → object_at records count at t ≡ Err f
    → (f ≡ ill_typed R.Incomplete at) × (is_object count t ≡ false)
unfolding object_at
object_fault records count at t l f h =
    chosen_err _ _ _ f _ h (λ b h. cc) (λ b h. (same_fault CType (ill_typed R.Incomplete at) f h, incomplete records count t l b))

no_result : (t : CType) → is_result t ≡ false → IsNoResult t
no_result void h = cc
no_result (integer kind) h = cc
no_result (pointer t) h = cc
no_result (array t n) h = (refl, λ e. cc)
no_result (function t all) h = (refl, λ e. cc)
no_result (structure r) h = (refl, λ e. cc)

pub result_fault : (at : ℕ) (t : CType) (f : Fault) → result_type at t ≡ Err f → (f ≡ ill_typed R.ByValue at) × IsNoResult t
result_fault at t f h = let b = unless_err (is_result t) _ _ _ f h in (b.1, no_result t b.0)

pub closed_fault : (at : ℕ) (shape : Shape) (f : Fault) → closed_at at shape ≡ Err f → (f ≡ ill_typed R.Length at) × ((u : CType) × (shape ≡ open_array u))
closed_fault at (closed t) f h = cc
closed_fault at (open_array u) f h = (same_fault CType (ill_typed R.Length at) f h, (u, refl))

-- ---- specifiers (6.7.1, 6.7.2)

pub storage_fault : {A : Type 0} (at : ℕ) (words : Storage) (r : Answer A) (f : Fault) (P : Type 0) → without_storage at words r ≡ Err f
    → ((f ≡ ill_typed R.Specifiers at) × (words ≢ no_storage) → P) → (r ≡ Err f → P) → P
storage_fault at no_storage r f P h p q = q h
storage_fault {A} at a_typedef r f P h p q = p (same_fault A (ill_typed R.Specifiers at) f h, λ e. cc)
storage_fault {A} at is_extern r f P h p q = p (same_fault A (ill_typed R.Specifiers at) f h, λ e. cc)
storage_fault {A} at is_static r f P h p q = p (same_fault A (ill_typed R.Specifiers at) f h, λ e. cc)
storage_fault {A} at is_auto r f P h p q = p (same_fault A (ill_typed R.Specifiers at) f h, λ e. cc)
storage_fault {A} at is_register r f P h p q = p (same_fault A (ill_typed R.Specifiers at) f h, λ e. cc)
storage_fault {A} at several r f P h p q = p (same_fault A (ill_typed R.Specifiers at) f h, λ e. cc)

pub parameter_storage_fault : {A : Type 0} (at : ℕ) (words : Storage) (r : Answer A) (f : Fault) (P : Type 0) → parameter_storage at words r ≡ Err f
    → ((f ≡ ill_typed R.Specifiers at) × (words ≢ no_storage) × (words ≢ is_register) → P) → (r ≡ Err f → P) → P
parameter_storage_fault at no_storage r f P h p q = q h
parameter_storage_fault at is_register r f P h p q = q h
parameter_storage_fault {A} at a_typedef r f P h p q = p (same_fault A (ill_typed R.Specifiers at) f h, (λ e. cc), (λ e. cc))
parameter_storage_fault {A} at is_extern r f P h p q = p (same_fault A (ill_typed R.Specifiers at) f h, (λ e. cc), (λ e. cc))
parameter_storage_fault {A} at is_static r f P h p q = p (same_fault A (ill_typed R.Specifiers at) f h, (λ e. cc), (λ e. cc))
parameter_storage_fault {A} at is_auto r f P h p q = p (same_fault A (ill_typed R.Specifiers at) f h, (λ e. cc), (λ e. cc))
parameter_storage_fault {A} at several r f P h p q = p (same_fault A (ill_typed R.Specifiers at) f h, (λ e. cc), (λ e. cc))

same_self_words : (w : Words) → same_words w w ≡ true
same_self_words w =
    rw (itself w.void, itself w.char, itself w.short, itself w.int, itself w.long, itself w.signed, itself w.unsigned) refl
  where
    itself : (n : ℕ) → (n == n) ≡ true
    itself n = eq-eqb n n refl

other_words : (v w : Words) → same_words v w ≡ false → v ≢ w
other_words v w h e = let k = same_self_words w in let g : same_words w w ≡ false = subst (λ v. same_words v w ≡ false) e h in cc

-- the specifiers name no type, or the one that names it by itself stops
pub base_fault : (specs : Trees.Specifiers) (at : ℕ) (g : FileScope) (one : Checked CType) (f : Fault) (P : Type 0)
    → base_type (base_kind specs) at g one ≡ Err f
    → ((f ≡ ill_typed R.Specifiers at) × AreNoType specs → P)
    → ((x : Trees.Specifier) → types_among specs ≡ x ∷ [] → one ≡ Err f → P) → P
base_fault specs at g one f P h p q = by_types (types_among specs) refl h
  where
    refused_so : bad (CType × FileScope) (ill_typed R.Specifiers at) ≡ Err f → f ≡ ill_typed R.Specifiers at
    refused_so h = same_fault (CType × FileScope) (ill_typed R.Specifiers at) f h

    by_words_alone : types_among specs ≡ [] → (o : Option CType) → named_by (words_of specs) ≡ o → base_type (base_of_words o) at g one ≡ Err f → P
    by_words_alone e None n h = p (refused_so h, inl (e, n))
    by_words_alone e (Some t) n h = cc

    by_test : (x : Trees.Specifier) → types_among specs ≡ x ∷ [] → (b : Bool) → same_words (words_of specs) no_words ≡ b
        → base_type (cond b by_one no_type) at g one ≡ Err f → P
    by_test x e true n h = q x e h
    by_test x e false n h = p (refused_so h, inr (inl ((λ k. let w : x ∷ [] ≡ [] = sym e ∙ k in cc), other_words (words_of specs) no_words n)))

    by_types : (all : List Trees.Specifier) → types_among specs ≡ all → base_type (base_among all specs) at g one ≡ Err f → P
    by_types [] e h = by_words_alone e (named_by (words_of specs)) refl h
    by_types (x ∷ []) e h = by_test x e (same_words (words_of specs) no_words) refl h
    by_types (x ∷ y ∷ more) e h = p (refused_so h, inr (inr (x, y, more, e)))

-- ---- parameters (6.7.5.3)

pub new_fault : {A : Type 0} (s : Scope) (x : Option Spelling) (r : Answer A) (f : Fault) (P : Type 0) → new_if_named s x r ≡ Err f
    → (IsOldName s x f → P) → (r ≡ Err f → P) → P
new_fault s None r f P h p q = q h
new_fault {A} s (Some x) r f P h p q = by_name (here s x.text) refl h
  where
    by_name : (o : Option Bound) → here s x.text ≡ o → new_here x o r ≡ Err f → P
    by_name None e h = q h
    by_name (Some b) e h = p (b, e, same_fault A (redeclared x.text x.from b.place) f h)

pub scalar_fault : (at : ℕ) (t : CType) (f : Fault) → scalar_parameter at t ≡ Err f → (rule : Rule) × IsNoParameter t rule × (f ≡ ill_typed rule at)
scalar_fault at (integer kind) f h = cc
scalar_fault at (pointer t) f h = cc
scalar_fault at (structure r) f h = (R.ByValue, refl, same_fault CType (ill_typed R.ByValue at) f h)
scalar_fault at void f h = (R.Incomplete, (refl, refl), same_fault CType (ill_typed R.Incomplete at) f h)
scalar_fault at (array t n) f h = (R.Incomplete, (refl, refl), same_fault CType (ill_typed R.Incomplete at) f h)
scalar_fault at (function t all) f h = (R.Incomplete, (refl, refl), same_fault CType (ill_typed R.Incomplete at) f h)
