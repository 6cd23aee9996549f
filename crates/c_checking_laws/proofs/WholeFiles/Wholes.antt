-- Initializers of whole objects, and those whose values are constants (C99 6.7.8).
use Rattle.std.proofs.Common.{◌≡◌, ℕ, ◌+◌, Bool, true, false, refl, sym, ap, ◌∙◌, subst, List, [], ◌∷◌, arith, inl, inr, cond}
use Rattle.std.proofs.lemmas.Bool.{and_parts}
use Rattle.std.proofs.lemmas.List.Elements.{All-cons, All-nil}
use Rattle.std.specs.Prelude.{◌⊎◌, ◌||◌, ◌&&◌, not, All, map, Option, Some, None, Ok, is_some}
use Rattle.c_types.specs.Layouts.{size_of}
use Rattle.c_types.specs.Types.{CType, void, integer, pointer, array, function, structure, Record}
use Rattle.c_ast.specs.declared.words.Spelling.{Spelling}
use Rattle.c_ast.specs.Trees
use Rattle.c_ast.specs.Places.{first}
use Rattle.c_typed.specs.Trees as Typed
use Rattle.c_typed.specs.Conversions.{is_scalar, is_array, is_record}
use Rattle.c_typed.specs.InitialValues.{InitialValue, initial_value}
use Rattle.c_typed.specs.Mapped.{of_types, mapped_initializer, mapped_part, mapped_value}
use Rattle.c_typed.specs.Parts as Lying
use Rattle.c_typed.specs.Parts.{IsPart}
use Rattle.c_typed.specs.Typed.{Declared}
use Rattle.c_typed.specs.TypedStatements.{IsTypedPart, IsTypedValue, IsTypedInitializer}
use Rattle.c_erasure.specs.Erasure.{typed, Values, Erases}
use Rattle.c_erasure.specs.Initializers.{Part, part_at, texts_of, is_braces, IsText, Initializes, IsInitializer, HasConstant, AreConstants}
use Rattle.c_erasure.specs.Literals.{literals}
use Rattle.c_erasure.specs.Marks.{marks}
use Rattle.c_erasure.specs.MentionPlaces.{spoken}
use Rattle.c_erasure.specs.Noted.{Noted, Expression, an_object, type_of, type_of_path}
use Rattle.c_erasure.specs.Scopes.{ALocal, FileScope, Scope, declared}
use Rattle.c_erasure.specs.Checking.Answers.{◌>>=◌, with_file}
use Rattle.c_erasure.specs.Checking.Finding.{find}
use Rattle.c_erasure.specs.Checking.Initializers.{initial_record_in, without_braces, initialized, initializer, whole_of, is_constant_part, are_constant_parts}
use Rattle.c_erasure.specs.Checking.Initializers.{are_constants, constants_in}
use Rattle.c_checking_laws.proofs.Results.{bound_ok, given, with_file_ok, only_if}
use Rattle.c_checking_laws.proofs.Extends.{Extends}
use Rattle.c_checking_laws.proofs.Agreement.{Ready, Grew}
use Rattle.c_checking_laws.proofs.Values.{Stands, path_type_same}
use Rattle.c_checking_laws.proofs.InRange.{IsInRange}
use Rattle.c_checking_laws.proofs.Adding.{Grows}
use Rattle.c_checking_laws.proofs.Sound.{sound}
use Rattle.c_checking_laws.proofs.WholeFiles.SameLocals.{with_locals, same_find}
use Rattle.c_checking_laws.proofs.WholeFiles.Longer.{seen, GoesOn, ready_longer}
use Rattle.c_checking_laws.proofs.WholeFiles.Layouts.{IsLaid}
use Rattle.c_checking_laws.proofs.WholeFiles.Parts.{Rise, are_rising, AreOver, all_over, Parted, NoneBegins, initial_record_is}
use Rattle.c_checking_laws.proofs.WholeFiles.Initials.{OfObject, ReadFrom, IsKnown, plain, sound_initial}

-- ---- what parts stand for an object of a type

abbrev Outline : (braces : Bool) → CType → ℕ → List Part → Type 0
Outline braces t at parts =
    ((x : Expression) × (is_scalar t ≡ true) × (parts ≡ part_at at (Typed.value x)))
    ⊎ ((r : ℕ) × (p : Typed.Path Noted) × (braces ≡ false) × (t ≡ structure r) × (parts ≡ part_at at (Typed.record_of p)))
    ⊎ ((is_array t ≡ true) ⊎ ((is_record t ≡ true) × (braces ≡ true)))

text_outline : (o : Option (List Spelling)) (s : Scope) (t : CType) (at : ℕ) (parts : List Part) → IsText o s t at parts → is_array t ≡ true
text_outline None s t at parts h = absurd h
text_outline (Some all) s t at parts h = let e = h.1.2 in ap is_array e

plain_outline : (a : Trees.Expression) (o : Option (List Spelling)) (s : Scope) (t : CType) (at : ℕ) (parts : List Part)
    → ((x : Expression) × (is_scalar t ≡ true) × (type_of x ≡ t) × (parts ≡ part_at at (Typed.value x)) × Values (Erases a s) x)
    ⊎ ((r : ℕ) × (p : Typed.Path Noted) × (t ≡ structure r) × (type_of_path p ≡ t) × (parts ≡ part_at at (Typed.record_of p)) × Erases a s (an_object p))
    ⊎ IsText o s t at parts → Outline false t at parts
plain_outline a o s t at parts (inl h) = inl (h.0, h.1, h.3)
plain_outline a o s t at parts (inr (inl h)) = inr (inl (h.0, h.1, refl, h.2, h.4))
plain_outline a o s t at parts (inr (inr h)) = inr (inr (inl (text_outline o s t at parts h)))

outline : (a : Trees.Expression) (s : Scope) (t : CType) (at : ℕ) (parts : List Part) → Initializes a s t at parts → Outline (is_braces a) t at parts
outline (Trees.name y) s t at parts h = plain_outline (Trees.name y) (texts_of (Trees.name y)) s t at parts h
outline (Trees.number y v kind) s t at parts h = plain_outline (Trees.number y v kind) (texts_of (Trees.number y v kind)) s t at parts h
outline (Trees.character y v) s t at parts h = plain_outline (Trees.character y v) (texts_of (Trees.character y v)) s t at parts h
outline (Trees.texts ts) s t at parts h = plain_outline (Trees.texts ts) (texts_of (Trees.texts ts)) s t at parts h
outline (Trees.paren b a c) s t at parts h = plain_outline (Trees.paren b a c) (texts_of (Trees.paren b a c)) s t at parts h
outline (Trees.index a b d c) s t at parts h = plain_outline (Trees.index a b d c) (texts_of (Trees.index a b d c)) s t at parts h
outline (Trees.call d b ds c) s t at parts h = plain_outline (Trees.call d b ds c) (texts_of (Trees.call d b ds c)) s t at parts h
outline (Trees.dot a b y) s t at parts h = plain_outline (Trees.dot a b y) (texts_of (Trees.dot a b y)) s t at parts h
outline (Trees.arrow a b y) s t at parts h = plain_outline (Trees.arrow a b y) (texts_of (Trees.arrow a b y)) s t at parts h
outline (Trees.post a op b) s t at parts h = plain_outline (Trees.post a op b) (texts_of (Trees.post a op b)) s t at parts h
outline (Trees.pre op b a) s t at parts h = plain_outline (Trees.pre op b a) (texts_of (Trees.pre op b a)) s t at parts h
outline (Trees.unary op b a) s t at parts h = plain_outline (Trees.unary op b a) (texts_of (Trees.unary op b a)) s t at parts h
outline (Trees.sizeof_expression b a) s t at parts h = plain_outline (Trees.sizeof_expression b a) (texts_of (Trees.sizeof_expression b a)) s t at parts h
outline (Trees.sizeof_type b c m d) s t at parts h = plain_outline (Trees.sizeof_type b c m d) (texts_of (Trees.sizeof_type b c m d)) s t at parts h
outline (Trees.cast b m c a) s t at parts h = plain_outline (Trees.cast b m c a) (texts_of (Trees.cast b m c a)) s t at parts h
outline (Trees.binary a op b c) s t at parts h = plain_outline (Trees.binary a op b c) (texts_of (Trees.binary a op b c)) s t at parts h
outline (Trees.cond a b c d e) s t at parts h = plain_outline (Trees.cond a b c d e) (texts_of (Trees.cond a b c d e)) s t at parts h
outline (Trees.assign a op b c) s t at parts h = plain_outline (Trees.assign a op b c) (texts_of (Trees.assign a op b c)) s t at parts h
outline (Trees.comma a b c) s t at parts h = plain_outline (Trees.comma a b c) (texts_of (Trees.comma a b c)) s t at parts h
outline (Trees.braces from all last to) s t at parts h = of_braces h
  where
    of_braces : Initializes (Trees.braces from all last to) s t at parts → Outline true t at parts
    of_braces (inl h) = inl (h.0, h.1, h.3)
    of_braces (inr (inl h)) = inr (inr (inl (ap is_array h.2)))
    of_braces (inr (inr (inl h))) = inr (inr (inr (ap is_record h.2, refl)))
    of_braces (inr (inr (inr h))) = inr (inr (inl (text_outline (texts_of (Trees.braces from all last to)) s t at parts h)))

-- ---- the whole by its parts

whole_is : (a : Trees.Expression) (s : Scope) (t : CType) (parts : List Part) → Initializes a s t 0 parts → IsInitializer a s t (whole_of t (is_braces a) parts)
whole_is a s t parts h = by_outline (outline a s t 0 parts h)
  where
    as_parts : (b : Bool) → b ≡ false → (i : Typed.Initializer Noted) → cond b i (Typed.parts parts) ≡ Typed.parts parts
    as_parts true e i = cc
    as_parts false e i = refl

    scalar_or : (b : Bool) → b ≡ true → (c : Bool) → (b || c) ≡ true
    scalar_or true e c = refl
    scalar_or false e c = cc

    chosen_first : (b : Bool) → b ≡ true → (i j : Typed.Initializer Noted) → cond b i j ≡ i
    chosen_first true e i j = refl
    chosen_first false e i j = cc

    array_parts : (t : CType) → is_array t ≡ true → (braces : Bool) → (is_scalar t || (is_record t && not braces)) ≡ false
    array_parts (array u n) e braces = refl
    array_parts void e braces = cc
    array_parts (integer kind) e braces = cc
    array_parts (pointer u) e braces = cc
    array_parts (function u all) e braces = cc
    array_parts (structure r) e braces = cc

    record_parts : (t : CType) → is_record t ≡ true → (is_scalar t || (is_record t && not true)) ≡ false
    record_parts (structure r) e = refl
    record_parts (array u n) e = cc
    record_parts void e = cc
    record_parts (integer kind) e = cc
    record_parts (pointer u) e = cc
    record_parts (function u all) e = cc

    by_outline : Outline (is_braces a) t 0 parts → IsInitializer a s t (whole_of t (is_braces a) parts)
    by_outline (inl x) =
        inl (
          x.0,
          ap (whole_of t (is_braces a)) x.2 ∙ chosen_first (is_scalar t || (is_record t && not (is_braces a))) (scalar_or (is_scalar t) x.1 _) _ _,
          x.1,
          subst (Initializes a s t 0) x.2 h,
        )
    by_outline (inr (inl x)) =
        let e : whole_of t (is_braces a) (part_at 0 (Typed.record_of x.1)) ≡ Typed.whole_record x.1 = rw (x.2, x.3) refl in
        inr (inl (x.1, ap (whole_of t (is_braces a)) x.4 ∙ e, ap is_record x.3, x.2, subst (Initializes a s t 0) x.4 h))
    by_outline (inr (inr (inl x))) =
        inr (inr (parts, as_parts (is_scalar t || (is_record t && not (is_braces a))) (array_parts t x (is_braces a)) _, inl x, h))
    by_outline (inr (inr (inr x))) =
        let f : (is_scalar t || (is_record t && not (is_braces a))) ≡ false =
        subst (λ b. (is_scalar t || (is_record t && not b)) ≡ false) (sym x.1) (record_parts t x.0) in
        inr (inr (parts, as_parts (is_scalar t || (is_record t && not (is_braces a))) f _, inr x, h))

-- ---- its type

abbrev pub typed_initial : Typed.Initializer Noted → Typed.Initializer CType
typed_initial i = mapped_initializer (of_types (λ t. t.ty)) i

scalar_part : (records : List Record) (t : CType) (k : ℕ) (u : CType) → IsPart records t k u → is_scalar t ≡ true → u ≡ t
scalar_part records t k u (Lying.itself v) h = refl
scalar_part records t k u (Lying.of_element v w n i at less p) h = cc
scalar_part records t k u (Lying.of_field v w r i at e p) h = cc

module _ (d : Declared) (g : FileScope) (records_are : d.records ≡ g.records) (t : CType) where
  one_typed : (x : Expression) → is_scalar t ≡ true → AreOver (OfObject t 0 g) d (part_at 0 (Typed.value x)) → IsTypedValue d t (Typed.value (typed x))
  one_typed x i h =
      let u = h.0.0 in
      let p = h.0.1 in
      subst (λ u. IsTypedValue d u (Typed.value (typed x))) (scalar_part g.records t p.0 u p.2 i) h.0.2

  all_typed : (parts : List Part) → AreOver (OfObject t 0 g) d parts → All (IsTypedPart d t) (map (mapped_part (of_types (λ t. t.ty))) parts)
  all_typed parts h =
      all_over (OfObject t 0 g) d parts (IsTypedPart d t)
      (λ part u p v.
      let e : part.offset ≡ p.0 = let o = p.1 in omega (arith, o) in
      (u, subst (λ records. IsPart records t part.offset u) (sym records_are) (subst (λ k. IsPart g.records t k u) (sym e) p.2), v)) h

  abbrev IsRecordHere : (braces : Bool) → List Part → Type 0
  IsRecordHere braces parts = (r : ℕ) (p : Typed.Path Noted) → braces ≡ false → t ≡ structure r → parts ≡ part_at 0 (Typed.record_of p)
      → IsTypedValue d t (mapped_value (of_types (λ t. t.ty)) (Typed.record_of p))

  abbrev IsTypedWhole : Typed.Initializer Noted → Type 0
  IsTypedWhole i = IsTypedInitializer d t (typed_initial i)

  scalar_whole : (b braces : Bool) (x : Expression) → is_scalar t ≡ true → IsTypedWhole (Typed.whole x)
      → IsTypedWhole (whole_of t braces (part_at 0 (Typed.value x)))
  scalar_whole b braces x i h = subst IsTypedWhole (sym (whole_there (is_scalar t) i (is_record t && not braces))) h
    where
      whole_there : (b : Bool) → b ≡ true → (c : Bool) → cond (b || c) (Typed.whole x) (Typed.parts (part_at 0 (Typed.value x))) ≡ Typed.whole x
      whole_there true e c = refl
      whole_there false e c = cc

  parts_whole : (braces : Bool) (parts : List Part) → (is_scalar t || (is_record t && not braces)) ≡ false → IsTypedWhole (Typed.parts parts)
      → IsTypedWhole (whole_of t braces parts)
  parts_whole braces parts e h = subst IsTypedWhole (sym (parts_there (is_scalar t || (is_record t && not braces)) e _)) h
    where
      parts_there : (b : Bool) → b ≡ false → (i : Typed.Initializer Noted) → cond b i (Typed.parts parts) ≡ Typed.parts parts
      parts_there true e i = cc
      parts_there false e i = refl

  typed_by_parts : (parts : List Part) → is_scalar t ≡ false → AreOver (OfObject t 0 g) d parts → (to : ℕ) → Rise 0 parts to → IsTypedWhole (Typed.parts parts)
  typed_by_parts parts e h to r = (e, all_typed parts h, are_rising d 0 parts to r)

array_no_scalar : (t : CType) → is_array t ≡ true → (braces : Bool) → (is_scalar t ≡ false) × ((is_scalar t || (is_record t && not braces)) ≡ false)
array_no_scalar (array u n) e braces = (refl, refl)
array_no_scalar void e braces = cc
array_no_scalar (integer kind) e braces = cc
array_no_scalar (pointer u) e braces = cc
array_no_scalar (function u all) e braces = cc
array_no_scalar (structure r) e braces = cc

record_no_scalar : (t : CType) → is_record t ≡ true → (is_scalar t ≡ false) × ((is_scalar t || (is_record t && not true)) ≡ false)
record_no_scalar (structure r) e = (refl, refl)
record_no_scalar (array u n) e = cc
record_no_scalar void e = cc
record_no_scalar (integer kind) e = cc
record_no_scalar (pointer u) e = cc
record_no_scalar (function u all) e = cc

whole_typed : (d : Declared) (g : FileScope) (same : d.records ≡ g.records) (t : CType) (braces : Bool) (parts : List Part) → Outline braces t 0 parts
    → AreOver (OfObject t 0 g) d parts → (to : ℕ) → Rise 0 parts to → IsRecordHere d g same t braces parts → IsTypedWhole d g same t (whole_of t braces parts)
whole_typed d g same t braces parts (inl x) h to r here =
    subst (λ parts. IsTypedWhole d g same t (whole_of t braces parts)) (sym x.2)
    (scalar_whole d g same t true braces x.0 x.1 (one_typed d g same t x.0 x.1 (subst (AreOver (OfObject t 0 g) d) x.2 h)))
whole_typed d g same t braces parts (inr (inl x)) h to r here =
    let v = here x.0 x.1 x.2 x.3 x.4 in
    let e : whole_of t braces (part_at 0 (Typed.record_of x.1)) ≡ Typed.whole_record x.1 = rw (x.2, x.3) refl in
    subst (λ parts. IsTypedWhole d g same t (whole_of t braces parts)) (sym x.4) (subst (IsTypedWhole d g same t) (sym e) v)
whole_typed d g same t braces parts (inr (inr (inl x))) h to r here =
    let n = array_no_scalar t x braces in
    parts_whole d g same t braces parts n.1 (typed_by_parts d g same t parts n.0 h to r)
whole_typed d g same t braces parts (inr (inr (inr x))) h to r here =
    let n = record_no_scalar t x.0 in
    let f : (is_scalar t || (is_record t && not braces)) ≡ false = subst (λ b. (is_scalar t || (is_record t && not b)) ≡ false) (sym x.1) n.1 in
    parts_whole d g same t braces parts f (typed_by_parts d g same t parts n.0 h to r)

abbrev path_of_value : Typed.Path Noted → Typed.PartValue Noted → Typed.Path Noted
path_of_value q (Typed.record_of p) = p
path_of_value q v = q

abbrev first_path : Typed.Path Noted → List Part → Typed.Path Noted
first_path q [] = q
first_path q (part ∷ more) = path_of_value q part.value

module _ (untagged : ℕ → List ℕ) where
  -- an initializer that stands for one of the text, and its type
  pub record FoundWhole (s : Scope) (a : Trees.Expression) (t : CType) (z : Typed.Initializer Noted × FileScope) : Type 0 where
    pub grew : Grew s (marks untagged a) z.1
    pub made : List ℕ
    pub texts : List ℕ
    pub parted : Parted (literals a) made texts
    pub grows : Grows s (marks untagged a) (spoken a) made z.1
    pub holds : (g : FileScope) (l : List ALocal) → Extends z.1 g → GoesOn s.locals l → IsLaid g → NoneBegins g texts
        → IsInitializer a (seen s g l) t z.0 × IsTypedInitializer (declared (seen s g l)) t (typed_initial z.0)

  -- the record that is found for an initializer without braces is of the type
  record_here : (a : Trees.Expression) (s : Scope) → IsInRange a → Ready s (marks untagged a) → (t : CType) (z : List Part × FileScope)
      → initialized a s t 0 ≡ Ok z → (g : FileScope) (l : List ALocal) → Extends z.1 g → GoesOn s.locals l
      → IsRecordHere (declared (seen s g l)) g refl t (is_braces a) z.0
  record_here a s n r t z h g l e b i p bare is parts =
      let f = sym ((plain untagged a bare).found s t 0) ∙ h in
      let k : (find a s >>= λ x. with_file x.1 (initial_record_in (first a) 0 (structure i) x.0)) ≡ Ok z =
      subst (λ t. without_braces (first a) 0 t (texts_of a) s.file (find a s) ≡ Ok z) is f in
      let x = bound_ok (find a s) _ z k in
      let w = with_file_ok x.0.1 (initial_record_in (first a) 0 (structure i) x.0.0) z x.2 in
      let q = initial_record_is (first a) 0 (structure i) x.0.0 z.0 w.0 in
      let v = (sound untagged a (with_locals l s) n (ready_longer b r) x.0 (same_find l a s ∙ x.1)).holds g (subst (λ f. Extends f g) (sym w.1) e) in
      let same : p ≡ q.0 = same_path p q.0 (sym parts ∙ q.3) in
      let u = subst (Stands (Erases a (seen s g l)) (seen s g l)) (q.1 ∙ ap an_object (sym same)) v in
      let typed_as = path_type_same p ∙ ap type_of_path same ∙ q.2 in
      (i, u.1, is, typed_as ∙ sym is)
    where
      same_path : (p q : Typed.Path Noted) → part_at 0 (Typed.record_of p) ≡ part_at 0 (Typed.record_of q) → p ≡ q
      same_path p q e = ap (first_path q) e

  pub sound_whole : (f : FileScope) (a : Trees.Expression) (s : Scope) → IsInRange a → Ready s (marks untagged a) → ReadFrom untagged f s → (t : CType)
      → IsKnown f t → (z : Typed.Initializer Noted × FileScope) → initializer a s t ≡ Ok z → FoundWhole s a t z
  sound_whole f a s n r q t k z h =
      let x = bound_ok (initialized a s t 0) _ z h in
      let v = sound_initial untagged f a s n r q t 0 k x.0 x.1 in
      given (FoundWhole s a t) (whole_of t (is_braces a) x.0.0, x.0.1) z x.2 (record {
        grew = v.grew;
        made = v.made;
        texts = v.texts;
        parted = v.parted;
        grows = v.grows;
        holds = λ g l e b laid m.
            let i = v.holds g l e b m in (
              whole_is a (seen s g l) t x.0.0 i,
              whole_typed (declared (seen s g l)) g refl t (is_braces a) x.0.0 (outline a (seen s g l) t 0 x.0.0 i) (v.typed g l e b) (0 + size_of g.records t)
                  (v.rises g e laid) (record_here a s n r t x.0 x.1 g l e b),
            );
      })

-- ---- constants

constant_is : (d : Declared) (v : Typed.PartValue Noted) → is_constant_part d v ≡ true → HasConstant d v
constant_is d (Typed.value x) h = some_is (initial_value d (typed x)) h
  where
    some_is : (o : Option InitialValue) → is_some o ≡ true → (v : InitialValue) × (o ≡ Some v)
    some_is None h = cc
    some_is (Some v) h = (v, refl)
constant_is d (Typed.record_of p) h = cc
constant_is d (Typed.text bytes) h = tt

constant_parts : (d : Declared) (parts : List Part) → are_constant_parts d parts ≡ true → All (λ part. HasConstant d part.value) parts
constant_parts d [] h = All-nil (λ (part : Part). HasConstant d part.value)
constant_parts d (part ∷ more) h =
    let b = and_parts (is_constant_part d part.value) (are_constant_parts d more) h in
    All-cons (λ (part : Part). HasConstant d part.value) part more (constant_is d part.value b.0) (constant_parts d more b.1)

are_so : (d : Declared) (i : Typed.Initializer Noted) → are_constants d i ≡ true → AreConstants d i
are_so d (Typed.whole x) h = constant_is d (Typed.value x) h
are_so d (Typed.whole_record p) h = cc
are_so d (Typed.parts all) h = constant_parts d all h

pub constants_are : (d : Declared) (at : ℕ) (i j : Typed.Initializer Noted) → constants_in d at i ≡ Ok j → (i ≡ j) × AreConstants d j
unfolding constants_in
constants_are d at i j h =
    let b = only_if (are_constants d i) _ _ _ j h in
    given (λ j. (i ≡ j) × AreConstants d j) i j b.1 (refl, are_so d i b.0)
