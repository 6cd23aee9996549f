-- What is found for initializers, in each file that goes on from the one that finding leaves (C99 6.7.8).
use Rattle.std.proofs.Common.{◌≡◌, ℕ, zero, suc, ◌+◌, ◌*◌, ◌≤◌, ◌<◌, Bool, true, false, refl, sym, ap, ◌∙◌, subst, List, [], ◌∷◌, ◌++◌, length}
use Rattle.std.proofs.Common.{append-nil, arith, inl, inr}
use Rattle.std.proofs.Math.Nat.{suc-mul, mul-suc, zero-mul}
use Rattle.std.proofs.lemmas.Bool.{and_parts}
use Rattle.std.specs.Prelude.{◌⊎◌, Option, Some, None, Ok, slice_get, nat_lt, ◌&&◌, is_some}
use Rattle.c_types.specs.Types.{CType, void, integer, pointer, array, function, structure, Field, Record}
use Rattle.c_types.specs.Layouts.{size_of, offset_of}
use Rattle.c_types.specs.Limits.{AreComplete}
use Rattle.c_types.specs.Objects.{is_object}
use Rattle.c_ast.specs.declared.words.Spelling.{Spelling}
use Rattle.c_ast.specs.Trees
use Rattle.c_ast.specs.Places.{first, first_text}
use Rattle.c_typed.specs.Trees as Typed
use Rattle.c_typed.specs.Conversions.{is_scalar}
use Rattle.c_typed.specs.Mapped.{of_types, mapped_value}
use Rattle.c_typed.specs.Parts as Lying
use Rattle.c_typed.specs.Parts.{IsPart}
use Rattle.c_typed.specs.Typed.{Declared, field_type}
use Rattle.c_typed.specs.TypedStatements.{IsTypedValue}
use Rattle.c_erasure.specs.Erasure.{Values, Erases}
use Rattle.c_erasure.specs.Initializers.{Part, part_at, texts_of, is_braces, is_character, IsText, IsNoText, Initializes, IsOneValue, InitializeElements}
use Rattle.c_erasure.specs.Initializers.{InitializeFields}
use Rattle.c_erasure.specs.Literals.{literals, literals_of_all}
use Rattle.c_erasure.specs.Marks.{Mark, marks, marks_of_all}
use Rattle.c_erasure.specs.MentionPlaces.{spoken, spoken_of_all}
use Rattle.c_erasure.specs.Noted.{Noted, Expression, Thing, an_object, type_of, type_of_path}
use Rattle.c_erasure.specs.Scopes.{ALocal, FileScope, Scope, declared, is_measured}
use Rattle.c_erasure.specs.Checking.Answers.{◌>>=◌, with_file, moved}
use Rattle.c_erasure.specs.Checking.Finding.{value_at, find}
use Rattle.c_erasure.specs.Checking.Initializers.{initial_value_in, value_part, initial_record_in, text_of_array, is_text, fields_of, without_braces}
use Rattle.c_erasure.specs.Checking.Initializers.{initialized, one_value, elements, fields_from}
use Rattle.c_checking_laws.proofs.Results.{bound_ok, bound_with, given, with_file_ok, chosen}
use Rattle.c_checking_laws.proofs.Extends.{Extends, further, record_stays}
use Rattle.c_checking_laws.proofs.Agreement.{Ready, Grew, then, left, right}
use Rattle.c_checking_laws.proofs.Values.{Stands, type_same, path_type_same}
use Rattle.c_checking_laws.proofs.InRange.{IsInRange, AreInRange}
use Rattle.c_checking_laws.proofs.Declared.{nothing_grown}
use Rattle.c_checking_laws.proofs.Adding.{Grows, makes_none, adds_nothing, adds_then}
use Rattle.c_checking_laws.proofs.Found.{Found, FoundValue}
use Rattle.c_checking_laws.proofs.Sound.{sound, sound_value_of}
use Rattle.c_checking_laws.proofs.Growth.{grow, grow_value_of}
use Rattle.c_checking_laws.proofs.WholeFiles.SameLocals.{with_locals, same_find}
use Rattle.c_checking_laws.proofs.WholeFiles.Longer.{seen, GoesOn, ready_longer}
use Rattle.c_checking_laws.proofs.WholeFiles.Layouts.{IsLaid, object_stays, size_stays, offset_stays, AreFields, fields_are, later_fields, first_field}
use Rattle.c_checking_laws.proofs.WholeFiles.Layouts.{field_within, fields_apart, field_stays, field_object, record_in}
use Rattle.c_checking_laws.proofs.WholeFiles.Parts.{Rise, rise_from, rise_to, rise_then, one_rises, AreOver, over_then, over_within, Parted, none, is_bytes}
use Rattle.c_checking_laws.proofs.WholeFiles.Parts.{all_made, parted_then}
use Rattle.c_checking_laws.proofs.WholeFiles.Parts.{NoneBegins, none_left, none_right, initial_value_made, initial_record_is, text_made}

pub nothing : (s : Scope) → Grows s [] [] [] s.file
nothing s = adds_nothing s.file s.is_inside (is_measured s.purpose) (makes_none s.purpose)

-- of an object that begins at that byte
abbrev pub OfObject : CType → ℕ → FileScope → ℕ → CType → Type 0
OfObject t at g o u = (k : ℕ) × (o ≡ at + k) × IsPart g.records t k u

-- of elements, of which there are so many
abbrev pub OfElements : CType → (n at : ℕ) → FileScope → ℕ → CType → Type 0
OfElements u n at g o v = (i k : ℕ) × (i < n) × (o ≡ at + (i * size_of g.records u + k)) × IsPart g.records u k v

-- of fields of a record from one on
abbrev pub OfFields : (r m at : ℕ) → FileScope → ℕ → CType → Type 0
OfFields r m at g o v = (j k : ℕ) × (w : CType) × (m ≤ j) × (field_type g.records r j ≡ Some w) × (o ≡ at + (offset_of g.records r j + k))
    × IsPart g.records w k v

abbrev pub RisesIn : CType → ℕ → FileScope → List Part → Type 0
RisesIn t at g parts = Rise at parts (at + size_of g.records t)

abbrev pub RisesInElements : CType → (n at : ℕ) → FileScope → List Part → Type 0
RisesInElements u n at g parts = Rise at parts (at + size_of g.records u * n)

abbrev pub RisesInFields : (r m at : ℕ) → FileScope → List Part → Type 0
RisesInFields r m at g parts = (low : ℕ) → low ≤ at + size_of g.records (structure r)
    → ((j : ℕ) (w : CType) → m ≤ j → field_type g.records r j ≡ Some w → low ≤ at + offset_of g.records r j)
    → Rise low parts (at + size_of g.records (structure r))

-- a type is complete in a file
abbrev pub IsKnown : FileScope → CType → Type 0
IsKnown f t = is_object (length f.records) t ≡ true

module _ (untagged : ℕ → List ℕ) where
  -- parts that stand for a part of the text, whose marks, mentions and literals are those: of which type each is, and in which order they stand
  pub record FoundParts (s : Scope) (u : List Mark) (x k : List ℕ) (Is : Scope → List Part → Type 0) (Where : FileScope → ℕ → CType → Type 0)
      (Rises : FileScope → List Part → Type 0) (z : List Part × FileScope) : Type 0 where
    pub grew : Grew s u z.1
    pub made : List ℕ
    -- where literals begin that are no objects
    pub texts : List ℕ
    pub parted : Parted k made texts
    pub grows : Grows s u x made z.1
    pub holds : (g : FileScope) (l : List ALocal) → Extends z.1 g → GoesOn s.locals l → NoneBegins g texts → Is (seen s g l) z.0
    pub typed : (g : FileScope) (l : List ALocal) → Extends z.1 g → GoesOn s.locals l → AreOver (Where g) (declared (seen s g l)) z.0
    pub rises : (g : FileScope) → Extends z.1 g → IsLaid g → Rises g z.0

  abbrev pub FoundInitial : Scope → Trees.Expression → CType → ℕ → List Part × FileScope → Type 0
  FoundInitial s a t at z =
      FoundParts s (marks untagged a) (spoken a) (literals a) (λ s parts. Initializes a s t at parts) (OfObject t at) (RisesIn t at) z

  pub same_locals : (s : Scope) → GoesOn s.locals s.locals
  same_locals s = ([], sym (append-nil s.locals))

  -- what is found is found with more locals too
  sound_longer : (a : Trees.Expression) (s : Scope) → IsInRange a → Ready s (marks untagged a) → (l : List ALocal) → GoesOn s.locals l
      → (y : Thing × FileScope) → find a s ≡ Ok y → Found untagged (with_locals l s) a y
  sound_longer a s n r l b y h = sound untagged a (with_locals l s) n (ready_longer b r) y (same_find l a s ∙ h)

  value_longer : (a : Trees.Expression) (s : Scope) → IsInRange a → Ready s (marks untagged a) → (l : List ALocal) → GoesOn s.locals l → (at : ℕ)
      → (y : Expression × FileScope) → value_at at (find a s) ≡ Ok y → FoundValue untagged (with_locals l s) a y
  value_longer a s n r l b at y h =
      sound_value_of untagged a (with_locals l s) n (ready_longer b r) at y (ap (value_at at) (same_find l a s) ∙ h)

  -- ---- one part

  one_over : (t : CType) (at : ℕ) (d : Declared) (g : FileScope) (v : Typed.PartValue Noted)
      → IsTypedValue d t (mapped_value (of_types (λ t. t.ty)) v) → AreOver (OfObject t at g) d (part_at at v)
  one_over t at d g v h = ((t, (0, omega arith, Lying.itself t), h), tt)

  one_in : (t : CType) (at : ℕ) (g : FileScope) (v : Typed.PartValue Noted) → is_object (length g.records) t ≡ true → IsLaid g → RisesIn t at g (part_at at v)
  one_in t at g v o l = one_rises at (size_of g.records t) v (l.not_empty t o)

  -- a value
  scalar_found : (a : Trees.Expression) (s : Scope) (t : CType) (at from : ℕ) → is_scalar t ≡ true → is_object (length s.file.records) t ≡ true
      → (Is : Scope → List Part → Type 0)
      → ((s : Scope) (x : Expression) → type_of x ≡ t → Values (Erases a s) x → Is s (part_at at (Typed.value x)))
      → ((l : List ALocal) → GoesOn s.locals l → (y : Expression × FileScope)
      → value_at from (find a s) ≡ Ok y → FoundValue untagged (with_locals l s) a y × Grows s (marks untagged a) (spoken a) (literals a) y.1)
      → (z : List Part × FileScope)
      → (value_at from (find a s) >>= λ x. with_file x.1 (initial_value_in from t x.0) >>= λ y. Ok (value_part at y.0, y.1)) ≡ Ok z
      → FoundParts s (marks untagged a) (spoken a) (literals a) Is (OfObject t at) (RisesIn t at) z
  scalar_found a s t at from i o Is stands sound z h =
      let x = bound_ok (value_at from (find a s)) _ z h in
      let v = sound s.locals (same_locals s) x.0 x.1 in
      let y = bound_with x.0.1 (initial_value_in from t x.0.0) _ z x.2 in
      given (FoundParts s (marks untagged a) (spoken a) (literals a) Is (OfObject t at) (RisesIn t at)) _ z y.2 (record {
        grew = v.0.grew;
        made = literals a;
        texts = [];
        parted = all_made (literals a);
        grows = v.1;
        holds = λ g l p b n.
            let m = initial_value_made (Erases a (seen s g l)) (seen s g l) from t x.0.0 ((sound l b x.0 x.1).0.holds g p) y.0 y.1 in
            stands (seen s g l) y.0 (sym (type_same y.0) ∙ m.2.1) m.0;
        typed = λ g l p b.
            let m = initial_value_made (Erases a (seen s g l)) (seen s g l) from t x.0.0 ((sound l b x.0 x.1).0.holds g p) y.0 y.1 in
            one_over t at (declared (seen s g l)) g (Typed.value y.0) (m.1, i, m.2);
        rises = λ g p l. one_in t at g (Typed.value y.0) (object_stays (further v.0.grew.extends p) t o) l;
      })

  -- a record of the same type
  record_found : (a : Trees.Expression) (s : Scope) (r at from : ℕ) → is_object (length s.file.records) (structure r) ≡ true
      → (Is : Scope → List Part → Type 0)
      → ((s : Scope) (p : Typed.Path Noted) → type_of_path p ≡ structure r → Erases a s (an_object p) → Is s (part_at at (Typed.record_of p)))
      → ((l : List ALocal) → GoesOn s.locals l → (y : Thing × FileScope)
      → find a s ≡ Ok y → Found untagged (with_locals l s) a y × Grows s (marks untagged a) (spoken a) (literals a) y.1)
      → (z : List Part × FileScope)
      → (find a s >>= λ x. with_file x.1 (initial_record_in from at (structure r) x.0)) ≡ Ok z
      → FoundParts s (marks untagged a) (spoken a) (literals a) Is (OfObject (structure r) at) (RisesIn (structure r) at) z
  record_found a s r at from o Is stands sound z h =
      let x = bound_ok (find a s) _ z h in
      let v = sound s.locals (same_locals s) x.0 x.1 in
      let w = with_file_ok x.0.1 (initial_record_in from at (structure r) x.0.0) z x.2 in
      let q = initial_record_is from at (structure r) x.0.0 z.0 w.0 in
      let e = λ (g : FileScope) (p : Extends z.1 g). subst (λ f. Extends f g) (sym w.1) p in
      record {
        grew = subst (λ f. Grew s (marks untagged a) f) w.1 v.0.grew;
        made = literals a;
        texts = [];
        parted = all_made (literals a);
        grows = subst (λ f. Grows s (marks untagged a) (spoken a) (literals a) f) w.1 v.1;
        holds = λ g l p b n.
            subst (λ parts. Is (seen s g l) parts) (sym q.3)
            (stands (seen s g l) q.0 q.2 (subst (Erases a (seen s g l)) q.1 ((sound l b x.0 x.1).0.holds g (e g p)).0));
        typed = λ g l p b.
            let t = subst (Stands (Erases a (seen s g l)) (seen s g l)) q.1 ((sound l b x.0 x.1).0.holds g (e g p)) in
            subst (λ parts. AreOver (OfObject (structure r) at g) (declared (seen s g l)) parts) (sym q.3)
            (one_over (structure r) at (declared (seen s g l)) g (Typed.record_of q.0) (r, t.1, refl, path_type_same q.0 ∙ q.2));
        rises = λ g p l.
            subst (λ parts. RisesIn (structure r) at g parts) (sym q.3)
            (one_in (structure r) at g (Typed.record_of q.0) (object_stays (further v.0.grew.extends (e g p)) (structure r) o) l);
      }

  -- an array of characters by literals
  text_found : (a : Trees.Expression) (s : Scope) (u : CType) (n at from : ℕ) → is_object (length s.file.records) (array u n) ≡ true
      → (o : Option (List Spelling))
      → ((all : List Spelling) → o ≡ Some all → (marks untagged a ≡ []) × (spoken a ≡ []) × (literals a ≡ first_text all ∷ []))
      → (Is : Scope → List Part → Type 0) → ((s : Scope) (parts : List Part) → IsText o s (array u n) at parts → Is s parts)
      → (b : Bool) → is_character u ≡ b
      → (z : List Part × FileScope) → with_file s.file (text_of_array from at n b o) ≡ Ok z
      → FoundParts s (marks untagged a) (spoken a) (literals a) Is (OfObject (array u n) at) (RisesIn (array u n) at) z
  text_found a s u n at from c o places Is stands b i z h =
      let w = with_file_ok s.file (text_of_array from at n b o) z h in
      let m = text_made from at n u b i o z.0 w.0 in
      let p = places m.texts m.is_text in
      let e = λ (g : FileScope) (p : Extends z.1 g). subst (λ f. Extends f g) (sym w.1) p in
      record {
        grew = subst (λ f. Grew s (marks untagged a) f) w.1 (subst (λ u. Grew s u s.file) (sym p.0) (nothing_grown s.file s.is_inside));
        made = [];
        texts = first_text m.texts ∷ [];
        parted = subst (λ k. Parted k [] (first_text m.texts ∷ [])) (sym p.2) (is_bytes (first_text m.texts) [] [] [] none);
        grows = subst (λ f. Grows s (marks untagged a) (spoken a) [] f) w.1
            (subst (λ u. Grows s u (spoken a) [] s.file) (sym p.0) (subst (λ x. Grows s [] x [] s.file) (sym p.1) (nothing s)));
        holds = λ g l q b k.
            stands (seen s g l) z.0 (subst (λ o. IsText o (seen s g l) (array u n) at z.0) (sym m.is_text) (m.bytes, m.text_of, k.0, m.parts_are));
        typed = λ g l q b.
            subst (λ parts. AreOver (OfObject (array u n) at g) (declared (seen s g l)) parts) (sym m.parts_are)
            (one_over (array u n) at (declared (seen s g l)) g (Typed.text m.bytes) (m.typed (declared (seen s g l))));
        rises = λ g q l.
            subst (λ parts. RisesIn (array u n) at g parts) (sym m.parts_are)
            (one_in (array u n) at g (Typed.text m.bytes) (object_stays (e g q) (array u n) c) l);
      }

  -- ---- parts one after another

  joined : (s : Scope) (u v : List Mark) (x y k l : List ℕ) (Is Js Ks : Scope → List Part → Type 0) (P Q R : FileScope → ℕ → CType → Type 0)
      (A B C : FileScope → List Part → Type 0)
      → (own : List Part × FileScope) → FoundParts s u x k Is P A own → (rest : List Part × FileScope)
      → FoundParts (moved s own.1) v y l Js Q B rest
      → ((g : FileScope) (l : List ALocal) → Extends own.1 g → Is (seen s g l) own.0 → Js (seen s g l) rest.0 → Ks (seen s g l) (own.0 ++ rest.0))
      → ((g : FileScope) → Extends own.1 g → (o : ℕ) (t : CType) → P g o t → R g o t)
      → ((g : FileScope) → Extends own.1 g → (o : ℕ) (t : CType) → Q g o t → R g o t)
      → ((g : FileScope) → Extends own.1 g → IsLaid g → A g own.0 → B g rest.0 → C g (own.0 ++ rest.0))
      → FoundParts s (u ++ v) (x ++ y) (k ++ l) Ks R C (own.0 ++ rest.0, rest.1)
  joined s u v x y k l Is Js Ks P Q R A B C own p rest q is first second rise = record {
    grew = then p.grew q.grew;
    made = p.made ++ q.made;
    texts = p.texts ++ q.texts;
    parted = parted_then p.parted q.parted;
    grows = adds_then p.grows q.grows;
    holds = λ g l e c n.
        let b = further q.grew.extends e in
        is g l b (p.holds g l b c (none_left g p.texts q.texts n)) (q.holds g l e c (none_right g p.texts q.texts n));
    typed = λ g l e c.
        let b = further q.grew.extends e in
        over_then (R g) (declared (seen s g l)) own.0 rest.0 (over_within (P g) (R g) (declared (seen s g l)) own.0 (first g b) (p.typed g l b c))
        (over_within (Q g) (R g) (declared (seen s g l)) rest.0 (second g b) (q.typed g l e c));
    rises = λ g e l.
        let b = further q.grew.extends e in
        rise g b l (p.rises g b l) (q.rises g e l);
  }

  -- nothing is left to say
  none_found : (s : Scope) (Is : Scope → List Part → Type 0) (P : FileScope → ℕ → CType → Type 0) (A : FileScope → List Part → Type 0)
      → ((g : FileScope) (l : List ALocal) → Is (seen s g l) []) → ((g : FileScope) → Extends s.file g → IsLaid g → A g [])
      → FoundParts s [] [] [] Is P A ([], s.file)
  none_found s Is P A is rise = record {
    grew = nothing_grown s.file s.is_inside;
    made = [];
    texts = [];
    parted = none;
    grows = nothing s;
    holds = λ g l e b n. is g l;
    typed = λ g l e b. tt;
    rises = λ g e l. rise g e l;
  }

  -- what stands for something else too
  as_other : (s : Scope) (u : List Mark) (x k : List ℕ) (Is Js : Scope → List Part → Type 0) (P Q : FileScope → ℕ → CType → Type 0)
      (A B : FileScope → List Part → Type 0) (z : List Part × FileScope) → FoundParts s u x k Is P A z
      → ((g : FileScope) (l : List ALocal) → Extends z.1 g → Is (seen s g l) z.0 → Js (seen s g l) z.0)
      → ((g : FileScope) → Extends z.1 g → (o : ℕ) (t : CType) → P g o t → Q g o t)
      → ((g : FileScope) → Extends z.1 g → IsLaid g → A g z.0 → B g z.0)
      → FoundParts s u x k Js Q B z
  as_other s u x k Is Js P Q A B z p is into rise = record {
    grew = p.grew;
    made = p.made;
    texts = p.texts;
    parted = p.parted;
    grows = p.grows;
    holds = λ g l e b n. is g l e (p.holds g l e b n);
    typed = λ g l e b. over_within (P g) (Q g) (declared (seen s g l)) z.0 (into g e) (p.typed g l e b);
    rises = λ g e l. rise g e l (p.rises g e l);
  }

  -- ---- what is no initializer in braces

  abbrev pub Plainly : Trees.Expression → Scope → CType → ℕ → List Part → Type 0
  Plainly a s t at parts =
      ((x : Expression) × (is_scalar t ≡ true) × (type_of x ≡ t) × (parts ≡ part_at at (Typed.value x)) × Values (Erases a s) x)
      ⊎ ((r : ℕ) × (p : Typed.Path Noted) × (t ≡ structure r) × (type_of_path p ≡ t) × (parts ≡ part_at at (Typed.record_of p)) × Erases a s (an_object p))
      ⊎ IsText (texts_of a) s t at parts

  abbrev pub AreBytes : Trees.Expression → Type 0
  AreBytes a = (all : List Spelling) → texts_of a ≡ Some all → (marks untagged a ≡ []) × (spoken a ≡ []) × (literals a ≡ first_text all ∷ [])

  pub record IsPlain (a : Trees.Expression) : Type 0 where
    pub found : (s : Scope) (t : CType) (at : ℕ) → initialized a s t at ≡ without_braces (first a) at t (texts_of a) s.file (find a s)
    pub stands : (s : Scope) (t : CType) (at : ℕ) (parts : List Part) → Plainly a s t at parts → Initializes a s t at parts
    pub bytes : AreBytes a
    pub one : (from : ℕ) (comma : Option ℕ) (s : Scope) (t : CType) (at : ℕ)
        → one_value from (Trees.and_argument comma a Trees.no_arguments) s t at ≡ without_braces (first a) at t None s.file (find a s)

  literal_bytes : (all : List Spelling) → AreBytes (Trees.texts all)
  literal_bytes all texts e = let f : all ≡ texts = cc in (refl, refl, ap (λ all. first_text all ∷ []) f)

  pub plain : (a : Trees.Expression) → is_braces a ≡ false → IsPlain a
  unfolding initialized one_value
  plain (Trees.name x) h = record { found = λ s t at. refl; stands = λ s t at parts p. p; bytes = λ all e. cc; one = λ from comma s t at. refl }
  plain (Trees.number x v kind) h = record { found = λ s t at. refl; stands = λ s t at parts p. p; bytes = λ all e. cc; one = λ from comma s t at. refl }
  plain (Trees.character x v) h = record { found = λ s t at. refl; stands = λ s t at parts p. p; bytes = λ all e. cc; one = λ from comma s t at. refl }
  plain (Trees.texts all) h = record { found = λ s t at. refl; stands = λ s t at parts p. p; bytes = literal_bytes all; one = λ from comma s t at. refl }
  plain (Trees.paren from a to) h = record { found = λ s t at. refl; stands = λ s t at parts p. p; bytes = λ all e. cc; one = λ from comma s t at. refl }
  plain (Trees.index a from b to) h = record { found = λ s t at. refl; stands = λ s t at parts p. p; bytes = λ all e. cc; one = λ from comma s t at. refl }
  plain (Trees.call f from all to) h = record { found = λ s t at. refl; stands = λ s t at parts p. p; bytes = λ all e. cc; one = λ from comma s t at. refl }
  plain (Trees.dot a at x) h = record { found = λ s t at. refl; stands = λ s t at parts p. p; bytes = λ all e. cc; one = λ from comma s t at. refl }
  plain (Trees.arrow a at x) h = record { found = λ s t at. refl; stands = λ s t at parts p. p; bytes = λ all e. cc; one = λ from comma s t at. refl }
  plain (Trees.post a op at) h = record { found = λ s t at. refl; stands = λ s t at parts p. p; bytes = λ all e. cc; one = λ from comma s t at. refl }
  plain (Trees.pre op at a) h = record { found = λ s t at. refl; stands = λ s t at parts p. p; bytes = λ all e. cc; one = λ from comma s t at. refl }
  plain (Trees.unary op at a) h = record { found = λ s t at. refl; stands = λ s t at parts p. p; bytes = λ all e. cc; one = λ from comma s t at. refl }
  plain (Trees.sizeof_expression at a) h = record { found = λ s t at. refl; stands = λ s t at parts p. p; bytes = λ all e. cc; one = λ from comma s t at. refl }
  plain (Trees.sizeof_type at from m to) h =
      record { found = λ s t at. refl; stands = λ s t at parts p. p; bytes = λ all e. cc; one = λ from comma s t at. refl }
  plain (Trees.cast from m to a) h = record { found = λ s t at. refl; stands = λ s t at parts p. p; bytes = λ all e. cc; one = λ from comma s t at. refl }
  plain (Trees.binary a op at b) h = record { found = λ s t at. refl; stands = λ s t at parts p. p; bytes = λ all e. cc; one = λ from comma s t at. refl }
  plain (Trees.cond a question b colon c) h =
      record { found = λ s t at. refl; stands = λ s t at parts p. p; bytes = λ all e. cc; one = λ from comma s t at. refl }
  plain (Trees.assign a op at b) h = record { found = λ s t at. refl; stands = λ s t at parts p. p; bytes = λ all e. cc; one = λ from comma s t at. refl }
  plain (Trees.comma a at b) h = record { found = λ s t at. refl; stands = λ s t at parts p. p; bytes = λ all e. cc; one = λ from comma s t at. refl }
  plain (Trees.braces from all comma to) h = cc

  -- the file from which a type is known, the scope, and what is asked of both
  pub record ReadFrom (f : FileScope) (s : Scope) : Type 0 where
    pub complete : AreComplete f.records
    pub extends : Extends f s.file
    pub same : s.file.untagged ≡ untagged

  pub behind : {f : FileScope} {s : Scope} {u : List Mark} {g : FileScope} → ReadFrom f s → Grew s u g → ReadFrom f (moved s g)
  behind q p = record { complete = q.complete; extends = further q.extends p.extends; same = p.extends.untagged ∙ q.same }

  plain_found : (f : FileScope) (a : Trees.Expression) → IsPlain a → (s : Scope) → IsInRange a → Ready s (marks untagged a) → ReadFrom f s
      → (t : CType) (at : ℕ)
      → IsKnown f t → (o : Option (List Spelling)) → (texts_of a ≡ o) ⊎ (o ≡ None) → (z : List Part × FileScope)
      → without_braces (first a) at t o s.file (find a s) ≡ Ok z → FoundInitial s a t at z
  plain_found f a p s n r q void at k o w z h = cc
  plain_found f a p s n r q (integer kind) at k o w z h =
      scalar_found a s (integer kind) at (first a) refl refl (λ s parts. Initializes a s (integer kind) at parts)
      (λ s x e v. p.stands s (integer kind) at _ (inl (x, refl, e, refl, v)))
      (λ l b y j. (value_longer a s n r l b (first a) y j, grow_value_of untagged a s q.same (first a) y j)) z h
  plain_found f a p s n r q (pointer t) at k o w z h =
      scalar_found a s (pointer t) at (first a) refl refl (λ s parts. Initializes a s (pointer t) at parts)
      (λ s x e v. p.stands s (pointer t) at _ (inl (x, refl, e, refl, v)))
      (λ l b y j. (value_longer a s n r l b (first a) y j, grow_value_of untagged a s q.same (first a) y j)) z h
  plain_found f a p s n r q (function t all) at k o w z h = cc
  plain_found f a p s n r q (structure i) at k o w z h =
      record_found a s i at (first a) (object_stays q.extends (structure i) k) (λ s parts. Initializes a s (structure i) at parts)
      (λ s path e v. p.stands s (structure i) at _ (inr (inl (i, path, refl, e, refl, v))))
      (λ l b y j. (sound_longer a s n r l b y j, grow untagged a s q.same y j)) z h
  plain_found f a p s n r q (array u m) at k o (inl w) z h =
      text_found a s u m at (first a) (object_stays q.extends (array u m) k) (texts_of a) p.bytes (λ s parts. Initializes a s (array u m) at parts)
      (λ s parts b. p.stands s (array u m) at parts (inr (inr b))) (is_character u) refl z
      (subst (λ o. with_file s.file (text_of_array (first a) at m (is_character u) o) ≡ Ok z) (sym w) h)
  plain_found f a p s n r q (array u m) at k o (inr w) z h =
      none_there (is_character u) (subst (λ o. with_file s.file (text_of_array (first a) at m (is_character u) o) ≡ Ok z) w h)
    where
      none_there : (b : Bool) → with_file s.file (text_of_array (first a) at m b None) ≡ Ok z → FoundInitial s a (array u m) at z
      none_there true h = cc
      none_there false h = cc

  -- ---- in braces

  not_text : (u : CType) (o : Option (List Spelling)) → is_text u o ≡ false → IsNoText u o
  not_text u None h = tt
  not_text u (Some all) h = of_test (is_character u) h
    where
      of_test : (b : Bool) → (b && true) ≡ false → b ≡ false
      of_test true h = h
      of_test false h = refl

  abbrev IsOnePart : Trees.Arguments → CType → ℕ → Scope → List Part → Type 0
  IsOnePart all t at s parts = (x : Expression) × (type_of x ≡ t) × (parts ≡ part_at at (Typed.value x)) × IsOneValue all s x

  abbrev FoundOne : Scope → Trees.Arguments → CType → ℕ → List Part × FileScope → Type 0
  FoundOne s all t at z =
      FoundParts s (marks_of_all untagged all) (spoken_of_all all) (literals_of_all all) (λ s parts. IsOnePart all t at s parts) (OfObject t at)
      (RisesIn t at) z

  one_found : (f : FileScope) (comma : Option ℕ) (a : Trees.Expression) (s : Scope) → IsInRange a → Ready s (marks untagged a ++ []) → ReadFrom f s
      → (t : CType)
      (at : ℕ) → is_scalar t ≡ true → (z : List Part × FileScope) → without_braces (first a) at t None s.file (find a s) ≡ Ok z
      → FoundOne s (Trees.and_argument comma a Trees.no_arguments) t at z
  one_found f comma a s n r q t at i z h = lengthened (by_type t i h)
    where
      by_value : (t : CType) → is_scalar t ≡ true → is_object (length s.file.records) t ≡ true
          → (value_at (first a) (find a s) >>= λ x. with_file x.1 (initial_value_in (first a) t x.0) >>= λ y. Ok (value_part at y.0, y.1)) ≡ Ok z
          → FoundParts s (marks untagged a) (spoken a) (literals a) (λ s parts. IsOnePart (Trees.and_argument comma a Trees.no_arguments) t at s parts)
          (OfObject t at) (RisesIn t at) z
      by_value t i o h =
          scalar_found a s t at (first a) i o (λ s parts. IsOnePart (Trees.and_argument comma a Trees.no_arguments) t at s parts)
          (λ s x e v. (x, e, refl, v))
          (λ l b y j. (value_longer a s n (left (marks untagged a) [] r) l b (first a) y j, grow_value_of untagged a s q.same (first a) y j)) z h

      by_type : (t : CType) → is_scalar t ≡ true → without_braces (first a) at t None s.file (find a s) ≡ Ok z
          → FoundParts s (marks untagged a) (spoken a) (literals a) (λ s parts. IsOnePart (Trees.and_argument comma a Trees.no_arguments) t at s parts)
          (OfObject t at) (RisesIn t at) z
      by_type (integer kind) i h = by_value (integer kind) i refl h
      by_type (pointer t) i h = by_value (pointer t) i refl h
      by_type void i h = cc
      by_type (array t n) i h = cc
      by_type (function t all) i h = cc
      by_type (structure r) i h = cc

      lengthened : FoundParts s (marks untagged a) (spoken a) (literals a) (λ s parts. IsOnePart (Trees.and_argument comma a Trees.no_arguments) t at s parts)
          (OfObject t at) (RisesIn t at) z → FoundOne s (Trees.and_argument comma a Trees.no_arguments) t at z
      lengthened p = record {
        grew = subst (λ u. Grew s u z.1) (sym (append-nil (marks untagged a))) p.grew;
        made = p.made;
        texts = p.texts;
        parted = subst (λ k. Parted k p.made p.texts) (sym (append-nil (literals a))) p.parted;
        grows = subst (λ u. Grows s u (spoken a ++ []) p.made z.1) (sym (append-nil (marks untagged a)))
            (subst (λ x. Grows s (marks untagged a) x p.made z.1) (sym (append-nil (spoken a))) p.grows);
        holds = λ g l e b n. p.holds g l e b n;
        typed = λ g l e b. p.typed g l e b;
        rises = λ g e l. p.rises g e l;
      }

  -- literals in braces
  pub braces_bytes : (from : ℕ) (all : Trees.Arguments) (last : Option ℕ) (to : ℕ) → AreBytes (Trees.braces from all last to)
  braces_bytes from Trees.no_arguments last to texts h = cc
  braces_bytes from (Trees.and_argument comma (Trees.texts ts) Trees.no_arguments) last to texts e =
      let f : ts ≡ texts = cc in (refl, refl, ap (λ all. first_text all ∷ []) f)
  braces_bytes from (Trees.and_argument comma (Trees.name y) more) last to texts h = cc
  braces_bytes from (Trees.and_argument comma (Trees.number y v kind) more) last to texts h = cc
  braces_bytes from (Trees.and_argument comma (Trees.character y v) more) last to texts h = cc
  braces_bytes from (Trees.and_argument comma (Trees.texts ts) more) last to texts h = cc
  braces_bytes from (Trees.and_argument comma (Trees.paren b a c) more) last to texts h = cc
  braces_bytes from (Trees.and_argument comma (Trees.index a b d c) more) last to texts h = cc
  braces_bytes from (Trees.and_argument comma (Trees.call d b ds c) more) last to texts h = cc
  braces_bytes from (Trees.and_argument comma (Trees.dot a b y) more) last to texts h = cc
  braces_bytes from (Trees.and_argument comma (Trees.arrow a b y) more) last to texts h = cc
  braces_bytes from (Trees.and_argument comma (Trees.post a op b) more) last to texts h = cc
  braces_bytes from (Trees.and_argument comma (Trees.pre op b a) more) last to texts h = cc
  braces_bytes from (Trees.and_argument comma (Trees.unary op b a) more) last to texts h = cc
  braces_bytes from (Trees.and_argument comma (Trees.sizeof_expression b a) more) last to texts h = cc
  braces_bytes from (Trees.and_argument comma (Trees.sizeof_type b c m d) more) last to texts h = cc
  braces_bytes from (Trees.and_argument comma (Trees.cast b m c a) more) last to texts h = cc
  braces_bytes from (Trees.and_argument comma (Trees.binary a op b c) more) last to texts h = cc
  braces_bytes from (Trees.and_argument comma (Trees.cond a b c d e) more) last to texts h = cc
  braces_bytes from (Trees.and_argument comma (Trees.assign a op b c) more) last to texts h = cc
  braces_bytes from (Trees.and_argument comma (Trees.comma a b c) more) last to texts h = cc
  braces_bytes from (Trees.and_argument comma (Trees.braces b all c d) more) last to texts h = cc

  -- more than one is none
  pub many_refused : (from : ℕ) (comma : Option ℕ) (a : Trees.Expression) (c : Option ℕ) (b : Trees.Expression) (more : Trees.Arguments) (s : Scope) (t : CType)
      (at : ℕ)
      (z : List Part × FileScope) → one_value from (Trees.and_argument comma a (Trees.and_argument c b more)) s t at ≡ Ok z → ⊥
  unfolding one_value
  many_refused from comma (Trees.name y) c' b' more s t at z h = cc
  many_refused from comma (Trees.number y v kind) c' b' more s t at z h = cc
  many_refused from comma (Trees.character y v) c' b' more s t at z h = cc
  many_refused from comma (Trees.texts ts) c' b' more s t at z h = cc
  many_refused from comma (Trees.paren b a c) c' b' more s t at z h = cc
  many_refused from comma (Trees.index a b d c) c' b' more s t at z h = cc
  many_refused from comma (Trees.call d b ds c) c' b' more s t at z h = cc
  many_refused from comma (Trees.dot a b y) c' b' more s t at z h = cc
  many_refused from comma (Trees.arrow a b y) c' b' more s t at z h = cc
  many_refused from comma (Trees.post a op b) c' b' more s t at z h = cc
  many_refused from comma (Trees.pre op b a) c' b' more s t at z h = cc
  many_refused from comma (Trees.unary op b a) c' b' more s t at z h = cc
  many_refused from comma (Trees.sizeof_expression b a) c' b' more s t at z h = cc
  many_refused from comma (Trees.sizeof_type b c m d) c' b' more s t at z h = cc
  many_refused from comma (Trees.cast b m c a) c' b' more s t at z h = cc
  many_refused from comma (Trees.binary a op b c) c' b' more s t at z h = cc
  many_refused from comma (Trees.cond a b c d e) c' b' more s t at z h = cc
  many_refused from comma (Trees.assign a op b c) c' b' more s t at z h = cc
  many_refused from comma (Trees.comma a b c) c' b' more s t at z h = cc
  many_refused from comma (Trees.braces b all c d) c' b' more s t at z h = cc

  pub braces_alone : (from : ℕ) (comma : Option ℕ) (inner : ℕ) (all : Trees.Arguments) (last : Option ℕ) (to : ℕ) (s : Scope) (t : CType) (at : ℕ)
      (z : List Part × FileScope) → one_value from (Trees.and_argument comma (Trees.braces inner all last to) Trees.no_arguments) s t at ≡ Ok z → ⊥
  unfolding one_value
  braces_alone from comma inner all last to s t at z h = cc

  sound_one : (f : FileScope) (from : ℕ) (all : Trees.Arguments) (s : Scope) → AreInRange all → Ready s (marks_of_all untagged all) → ReadFrom f s → (t : CType)
      (at : ℕ) → is_scalar t ≡ true → (z : List Part × FileScope) → one_value from all s t at ≡ Ok z → FoundOne s all t at z
  unfolding one_value
  sound_one f from Trees.no_arguments s n r q t at i z h = cc
  sound_one f from (Trees.and_argument comma a (Trees.and_argument c b more)) s n r q t at i z h = absurd (many_refused from comma a c b more s t at z h)
  sound_one f from (Trees.and_argument comma (Trees.braces inner all last to) Trees.no_arguments) s n r q t at i z h =
      absurd (braces_alone from comma inner all last to s t at z h)
  sound_one f from (Trees.and_argument comma (Trees.name y) Trees.no_arguments) s n r q t at i z h = one_found f comma (Trees.name y) s n.0 r q t at i z h
  sound_one f from (Trees.and_argument comma (Trees.number y v kind) Trees.no_arguments) s n r q t at i z h =
      one_found f comma (Trees.number y v kind) s n.0 r q t at i z h
  sound_one f from (Trees.and_argument comma (Trees.character y v) Trees.no_arguments) s n r q t at i z h =
      one_found f comma (Trees.character y v) s n.0 r q t at i z h
  sound_one f from (Trees.and_argument comma (Trees.texts ts) Trees.no_arguments) s n r q t at i z h = one_found f comma (Trees.texts ts) s n.0 r q t at i z h
  sound_one f from (Trees.and_argument comma (Trees.paren b a c) Trees.no_arguments) s n r q t at i z h =
      one_found f comma (Trees.paren b a c) s n.0 r q t at i z h
  sound_one f from (Trees.and_argument comma (Trees.index a b d c) Trees.no_arguments) s n r q t at i z h =
      one_found f comma (Trees.index a b d c) s n.0 r q t at i z h
  sound_one f from (Trees.and_argument comma (Trees.call d b ds c) Trees.no_arguments) s n r q t at i z h =
      one_found f comma (Trees.call d b ds c) s n.0 r q t at i z h
  sound_one f from (Trees.and_argument comma (Trees.dot a b y) Trees.no_arguments) s n r q t at i z h = one_found f comma (Trees.dot a b y) s n.0 r q t at i z h
  sound_one f from (Trees.and_argument comma (Trees.arrow a b y) Trees.no_arguments) s n r q t at i z h =
      one_found f comma (Trees.arrow a b y) s n.0 r q t at i z h
  sound_one f from (Trees.and_argument comma (Trees.post a op b) Trees.no_arguments) s n r q t at i z h =
      one_found f comma (Trees.post a op b) s n.0 r q t at i z h
  sound_one f from (Trees.and_argument comma (Trees.pre op b a) Trees.no_arguments) s n r q t at i z h =
      one_found f comma (Trees.pre op b a) s n.0 r q t at i z h
  sound_one f from (Trees.and_argument comma (Trees.unary op b a) Trees.no_arguments) s n r q t at i z h =
      one_found f comma (Trees.unary op b a) s n.0 r q t at i z h
  sound_one f from (Trees.and_argument comma (Trees.sizeof_expression b a) Trees.no_arguments) s n r q t at i z h =
      one_found f comma (Trees.sizeof_expression b a) s n.0 r q t at i z h
  sound_one f from (Trees.and_argument comma (Trees.sizeof_type b c m d) Trees.no_arguments) s n r q t at i z h =
      one_found f comma (Trees.sizeof_type b c m d) s n.0 r q t at i z h
  sound_one f from (Trees.and_argument comma (Trees.cast b m c a) Trees.no_arguments) s n r q t at i z h =
      one_found f comma (Trees.cast b m c a) s n.0 r q t at i z h
  sound_one f from (Trees.and_argument comma (Trees.binary a op b c) Trees.no_arguments) s n r q t at i z h =
      one_found f comma (Trees.binary a op b c) s n.0 r q t at i z h
  sound_one f from (Trees.and_argument comma (Trees.cond a b c d e) Trees.no_arguments) s n r q t at i z h =
      one_found f comma (Trees.cond a b c d e) s n.0 r q t at i z h
  sound_one f from (Trees.and_argument comma (Trees.assign a op b c) Trees.no_arguments) s n r q t at i z h =
      one_found f comma (Trees.assign a op b c) s n.0 r q t at i z h
  sound_one f from (Trees.and_argument comma (Trees.comma a b c) Trees.no_arguments) s n r q t at i z h =
      one_found f comma (Trees.comma a b c) s n.0 r q t at i z h

  -- ---- elements and fields

  element_then : (s : Scope) (u v : List Mark) (x y k l : List ℕ) (comma : Option ℕ) (a : Trees.Expression) (more : Trees.Arguments) (t : CType) (n at : ℕ)
      (own : List Part × FileScope) → IsKnown own.1 t
      → FoundParts s u x k (λ s parts. Initializes a s t at parts) (OfObject t at) (RisesIn t at) own → (rest : List Part × FileScope)
      → FoundParts (moved s own.1) v y l (λ s parts. InitializeElements more s t n (at + size_of own.1.records t) parts)
      (OfElements t n (at + size_of own.1.records t)) (RisesInElements t n (at + size_of own.1.records t)) rest
      → FoundParts s (u ++ v) (x ++ y) (k ++ l) (λ s parts. InitializeElements (Trees.and_argument comma a more) s t (suc n) at parts)
      (OfElements t (suc n) at) (RisesInElements t (suc n) at) (own.0 ++ rest.0, rest.1)
  element_then s u v x y k l comma a more t n at own o p rest q =
      joined s u v x y k l _ _ _ _ _ _ _ _ _ own p rest q
      (λ g l e is js. (
        n,
        own.0,
        rest.0,
        omega arith,
        refl,
        is,
        subst (λ z. InitializeElements more (seen s g l) t n (at + z) rest.0) (sym (size_stays e t o)) js,
      ))
      (λ g e b w h. (0, h.0, omega arith, first g b h.0 h.1, h.2))
      (λ g e b w h. (suc h.0, h.1, let lt = h.2 in omega (arith, lt), later g e b h.0 h.1 h.3, h.4))
      (λ g e l is js.
      let z = size_stays e t o in
      let m = mul-suc (size_of g.records t) n in
      rise_then at own.0 (at + size_of g.records t) rest.0 (at + size_of g.records t * suc n) is
      (rise_to (at + size_of g.records t) rest.0 (at + size_of g.records t + size_of g.records t * n) (at + size_of g.records t * suc n) (omega (arith, m))
      (subst (λ z. Rise (at + z) rest.0 (at + z + size_of g.records t * n)) (sym z) js)))
    where
      first : (g : FileScope) (b k : ℕ) → b ≡ at + k → b ≡ at + (0 * size_of g.records t + k)
      first g b k e = let z = zero-mul (size_of g.records t) in omega (arith, e, z)

      later : (g : FileScope) → Extends own.1 g → (b i k : ℕ) → b ≡ at + size_of own.1.records t + (i * size_of g.records t + k)
          → b ≡ at + (suc i * size_of g.records t + k)
      later g e b i k h =
          let z = size_stays e t o in
          let m = suc-mul i (size_of g.records t) in
          omega (arith, h, z, m)

  field_then : (s : Scope) (u v : List Mark) (x y k l : List ℕ) (comma : Option ℕ) (a : Trees.Expression) (more : Trees.Arguments) (i m at : ℕ) (f : Field)
      (later : List Field) (rec : Record) → slice_get s.file.records i ≡ Some rec → field_type s.file.records i m ≡ Some f.ty
      → (own : List Part × FileScope)
      → FoundParts s u x k (λ c parts. Initializes a c f.ty (at + offset_of s.file.records i m) parts) (OfObject f.ty (at + offset_of s.file.records i m))
      (RisesIn f.ty (at + offset_of s.file.records i m)) own → (rest : List Part × FileScope)
      → FoundParts (moved s own.1) v y l (λ s parts. InitializeFields more s i (m + 1) later at parts) (OfFields i (m + 1) at) (RisesInFields i (m + 1) at) rest
      → FoundParts s (u ++ v) (x ++ y) (k ++ l) (λ s parts. InitializeFields (Trees.and_argument comma a more) s i m (f ∷ later) at parts)
      (OfFields i m at) (RisesInFields i m at) (own.0 ++ rest.0, rest.1)
  field_then s u v x y k l comma a more i m at f later rec known field own p rest q =
      joined s u v x y k l (λ c parts. Initializes a c f.ty (at + offset_of s.file.records i m) parts) _ _
      (OfObject f.ty (at + offset_of s.file.records i m)) _ _ (RisesIn f.ty (at + offset_of s.file.records i m)) _ _ own p rest q
      (λ g l e is js.
      (f, later, own.0, rest.0, refl, refl, subst (λ z. Initializes a (seen s g l) f.ty (at + z) own.0) (sym (stays g e)) is, js))
      (λ g e b w h. (m, h.0, f.ty, omega arith, field_stays (after g e) i m f.ty field, first g e b h.0 h.1, h.2))
      (λ g e b w h. (h.0, h.1, h.2, let lt = h.3 in omega (arith, lt), h.4, h.5, h.6))
      (λ g e c is js.
      λ low top below.
      let o = stays g e in
      let t = field_stays (after g e) i m f.ty field in
      let within = field_within g.records c.complete i m f.ty t in
      let lowest = below m f.ty (omega arith) t in
      rise_then low own.0 (at + offset_of s.file.records i m + size_of g.records f.ty) rest.0 (at + size_of g.records (structure i))
      (rise_from low (at + offset_of s.file.records i m) own.0 (at + offset_of s.file.records i m + size_of g.records f.ty) (omega (arith, lowest, o)) is)
      (js (at + offset_of s.file.records i m + size_of g.records f.ty) (omega (arith, within, o))
      (λ j w less is_there.
      let next = fields_apart g.records c.complete i m j f.ty w t is_there (omega (arith, less)) in
      omega (arith, next, o))))
    where
      after : (g : FileScope) → Extends own.1 g → Extends s.file g
      after g e = further p.grew.extends e

      stays : (g : FileScope) → Extends own.1 g → offset_of g.records i m ≡ offset_of s.file.records i m
      stays g e = offset_stays (after g e) i m rec known

      first : (g : FileScope) → Extends own.1 g → (b k : ℕ) → b ≡ at + offset_of s.file.records i m + k → b ≡ at + (offset_of g.records i m + k)
      first g e b k h = let o = stays g e in omega (arith, h, o)

  mutual
    unfolding initialized elements fields_from

    pub sound_initial : (f : FileScope) (a : Trees.Expression) (s : Scope) → IsInRange a → Ready s (marks untagged a) → ReadFrom f s → (t : CType) (at : ℕ)
        → IsKnown f t → (z : List Part × FileScope) → initialized a s t at ≡ Ok z → FoundInitial s a t at z
    sound_initial f (Trees.name y) s n r q t at k z h =
        plain_found f (Trees.name y) (plain (Trees.name y) refl) s n r q t at k (texts_of (Trees.name y)) (inl refl) z h
    sound_initial f (Trees.number y v kind) s n r q t at k z h =
        plain_found f (Trees.number y v kind) (plain (Trees.number y v kind) refl) s n r q t at k (texts_of (Trees.number y v kind)) (inl refl) z h
    sound_initial f (Trees.character y v) s n r q t at k z h =
        plain_found f (Trees.character y v) (plain (Trees.character y v) refl) s n r q t at k (texts_of (Trees.character y v)) (inl refl) z h
    sound_initial f (Trees.texts ts) s n r q t at k z h =
        plain_found f (Trees.texts ts) (plain (Trees.texts ts) refl) s n r q t at k (texts_of (Trees.texts ts)) (inl refl) z h
    sound_initial f (Trees.paren b a c) s n r q t at k z h =
        plain_found f (Trees.paren b a c) (plain (Trees.paren b a c) refl) s n r q t at k (texts_of (Trees.paren b a c)) (inl refl) z h
    sound_initial f (Trees.index a b d c) s n r q t at k z h =
        plain_found f (Trees.index a b d c) (plain (Trees.index a b d c) refl) s n r q t at k (texts_of (Trees.index a b d c)) (inl refl) z h
    sound_initial f (Trees.call d b ds c) s n r q t at k z h =
        plain_found f (Trees.call d b ds c) (plain (Trees.call d b ds c) refl) s n r q t at k (texts_of (Trees.call d b ds c)) (inl refl) z h
    sound_initial f (Trees.dot a b y) s n r q t at k z h =
        plain_found f (Trees.dot a b y) (plain (Trees.dot a b y) refl) s n r q t at k (texts_of (Trees.dot a b y)) (inl refl) z h
    sound_initial f (Trees.arrow a b y) s n r q t at k z h =
        plain_found f (Trees.arrow a b y) (plain (Trees.arrow a b y) refl) s n r q t at k (texts_of (Trees.arrow a b y)) (inl refl) z h
    sound_initial f (Trees.post a op b) s n r q t at k z h =
        plain_found f (Trees.post a op b) (plain (Trees.post a op b) refl) s n r q t at k (texts_of (Trees.post a op b)) (inl refl) z h
    sound_initial f (Trees.pre op b a) s n r q t at k z h =
        plain_found f (Trees.pre op b a) (plain (Trees.pre op b a) refl) s n r q t at k (texts_of (Trees.pre op b a)) (inl refl) z h
    sound_initial f (Trees.unary op b a) s n r q t at k z h =
        plain_found f (Trees.unary op b a) (plain (Trees.unary op b a) refl) s n r q t at k (texts_of (Trees.unary op b a)) (inl refl) z h
    sound_initial f (Trees.sizeof_expression b a) s n r q t at k z h =
        plain_found f (Trees.sizeof_expression b a) (plain (Trees.sizeof_expression b a) refl) s n r q t at k (texts_of (Trees.sizeof_expression b a))
        (inl refl) z h
    sound_initial f (Trees.sizeof_type b c m d) s n r q t at k z h =
        plain_found f (Trees.sizeof_type b c m d) (plain (Trees.sizeof_type b c m d) refl) s n r q t at k (texts_of (Trees.sizeof_type b c m d)) (inl refl) z h
    sound_initial f (Trees.cast b m c a) s n r q t at k z h =
        plain_found f (Trees.cast b m c a) (plain (Trees.cast b m c a) refl) s n r q t at k (texts_of (Trees.cast b m c a)) (inl refl) z h
    sound_initial f (Trees.binary a op b c) s n r q t at k z h =
        plain_found f (Trees.binary a op b c) (plain (Trees.binary a op b c) refl) s n r q t at k (texts_of (Trees.binary a op b c)) (inl refl) z h
    sound_initial f (Trees.cond a b c d e) s n r q t at k z h =
        plain_found f (Trees.cond a b c d e) (plain (Trees.cond a b c d e) refl) s n r q t at k (texts_of (Trees.cond a b c d e)) (inl refl) z h
    sound_initial f (Trees.assign a op b c) s n r q t at k z h =
        plain_found f (Trees.assign a op b c) (plain (Trees.assign a op b c) refl) s n r q t at k (texts_of (Trees.assign a op b c)) (inl refl) z h
    sound_initial f (Trees.comma a b c) s n r q t at k z h =
        plain_found f (Trees.comma a b c) (plain (Trees.comma a b c) refl) s n r q t at k (texts_of (Trees.comma a b c)) (inl refl) z h
    sound_initial f (Trees.braces from all last to) s n r q void at k z h = cc
    sound_initial f (Trees.braces from all last to) s n r q (integer kind) at k z h =
        as_other s _ _ _ (λ s parts. IsOnePart all (integer kind) at s parts) _ _ _ _ _ z (sound_one f from all s n r q (integer kind) at refl z h)
        (λ g l e i. inl (i.0, refl, i.1, i.2, i.3)) (λ g e o t h. h) (λ g e l h. h)
    sound_initial f (Trees.braces from all last to) s n r q (pointer t) at k z h =
        as_other s _ _ _ (λ s parts. IsOnePart all (pointer t) at s parts) _ _ _ _ _ z (sound_one f from all s n r q (pointer t) at refl z h)
        (λ g l e i. inl (i.0, refl, i.1, i.2, i.3)) (λ g e o t h. h) (λ g e l h. h)
    sound_initial f (Trees.braces from all last to) s n r q (function t types) at k z h = cc
    sound_initial f (Trees.braces from all last to) s n r q (array u m) at k z h =
        let a = Trees.braces from all last to in
        chosen (is_text u (texts_of a)) _ _ z (FoundInitial s a (array u m) at z) h
        (λ b h.
        text_found a s u m at from (object_stays q.extends (array u m) k) (texts_of a) (braces_bytes from all last to)
        (λ s parts. Initializes a s (array u m) at parts) (λ s parts b. inr (inr (inr b))) true
        ((and_parts (is_character u) (is_some (texts_of a)) b).0) z h)
        (λ b h.
        as_other s _ _ _ (λ s parts. InitializeElements all s u m at parts) _ (OfElements u m at) _ (RisesInElements u m at) _ z
        (sound_elements f all s n r q u m at ((and_parts (nat_lt 0 m) (is_object (length f.records) u) k).1) z h)
        (λ g l e i. inr (inl (m, u, refl, not_text u (texts_of a) b, i)))
        (λ g e o v h. (h.0 * size_of g.records u + h.1, h.3, Lying.of_element u v m h.0 h.1 h.2 h.4)) (λ g e l h. h))
    sound_initial f (Trees.braces from all last to) s n r q (structure i) at k z h =
        let a = Trees.braces from all last to in
        let rec = record_in f.records i k in
        let known = record_stays q.extends i rec.0 rec.1 in
        let v = sound_fields f all s n r q i 0 rec.0 rec.1 rec.0.fields at (fields_are f.records i rec.0 rec.1) z
        (subst (λ o. fields_from all s i 0 (fields_of o) at ≡ Ok z) known h) in
        as_other s _ _ _ (λ s parts. InitializeFields all s i 0 rec.0.fields at parts) _ (OfFields i 0 at) _ (RisesInFields i 0 at) _ z v
        (λ g l e j. inr (inr (inl (i, rec.0, refl, record_stays (further v.grew.extends e) i rec.0 known, j))))
        (λ g e o v h. (offset_of g.records i h.0 + h.1, h.5, Lying.of_field h.2 v i h.0 h.1 h.4 h.6))
        (λ g e l h. h at (omega arith) (λ j w less there. omega arith))

    sound_elements : (f : FileScope) (all : Trees.Arguments) (s : Scope) → AreInRange all → Ready s (marks_of_all untagged all) → ReadFrom f s → (u : CType)
        (m at : ℕ) → IsKnown f u → (z : List Part × FileScope) → elements all s u m at ≡ Ok z
        → FoundParts s (marks_of_all untagged all) (spoken_of_all all) (literals_of_all all) (λ s parts. InitializeElements all s u m at parts)
        (OfElements u m at) (RisesInElements u m at) z
    sound_elements f Trees.no_arguments s n r q u m at k z h =
        given (FoundParts s [] [] [] (λ s parts. InitializeElements Trees.no_arguments s u m at parts) (OfElements u m at) (RisesInElements u m at)) _ z h
        (none_found s _ _ _ (λ g l. refl) (λ g e l. omega arith))
    sound_elements f (Trees.and_argument comma a more) s n r q u zero at k z h = cc
    sound_elements f (Trees.and_argument comma a more) s n r q u (suc m) at k z h =
        let own = bound_ok (initialized a s u at) _ z h in
        let v = sound_initial f a s n.0 (left (marks untagged a) (marks_of_all untagged more) r) q u at k own.0 own.1 in
        let at' = at + size_of own.0.1.records u in
        let rest = bound_ok (elements more (moved s own.0.1) u m at') _ z own.2 in
        let later = right (marks untagged a) (marks_of_all untagged more) r v.grew in
        let q' = behind q v.grew in
        let w = sound_elements f more (moved s own.0.1) n.1 later q' u m at' k rest.0 rest.1 in
        given (FoundParts s _ _ _ (λ s parts. InitializeElements (Trees.and_argument comma a more) s u (suc m) at parts) (OfElements u (suc m) at)
        (RisesInElements u (suc m) at)) _ z rest.2
        (element_then s _ _ _ _ _ _ comma a more u m at own.0 (object_stays q'.extends u k) v rest.0 w)

    sound_fields : (f : FileScope) (all : Trees.Arguments) (s : Scope) → AreInRange all → Ready s (marks_of_all untagged all) → ReadFrom f s → (i m : ℕ)
        (rec : Record) → slice_get f.records i ≡ Some rec → (fields : List Field) (at : ℕ) → AreFields f.records i m fields
        → (z : List Part × FileScope) → fields_from all s i m fields at ≡ Ok z
        → FoundParts s (marks_of_all untagged all) (spoken_of_all all) (literals_of_all all) (λ s parts. InitializeFields all s i m fields at parts)
        (OfFields i m at) (RisesInFields i m at) z
    sound_fields f Trees.no_arguments s n r q i m rec known fields at are z h =
        given (FoundParts s [] [] [] (λ s parts. InitializeFields Trees.no_arguments s i m fields at parts) (OfFields i m at) (RisesInFields i m at)) _ z h
        (none_found s _ _ _ (λ g l. refl) (λ g e l low top below. top))
    sound_fields f (Trees.and_argument comma a more) s n r q i m rec known [] at are z h = cc
    sound_fields f (Trees.and_argument comma a more) s n r q i m rec known (x ∷ fields) at are z h =
        let at' = at + offset_of s.file.records i m in
        let own = bound_ok (initialized a s x.ty at') _ z h in
        let t = first_field f.records i m x fields are in
        let v = sound_initial f a s n.0 (left (marks untagged a) (marks_of_all untagged more) r) q x.ty at' (field_object f.records q.complete i m x.ty t)
        own.0 own.1 in
        let rest = bound_ok (fields_from more (moved s own.0.1) i (m + 1) fields at) _ z own.2 in
        let later = right (marks untagged a) (marks_of_all untagged more) r v.grew in
        let w = sound_fields f more (moved s own.0.1) n.1 later (behind q v.grew) i (m + 1) rec known fields at (later_fields f.records i m x fields are)
        rest.0 rest.1 in
        given (FoundParts s _ _ _ (λ s parts. InitializeFields (Trees.and_argument comma a more) s i m (x ∷ fields) at parts) (OfFields i m at)
        (RisesInFields i m at)) _ z rest.2
        (field_then s _ _ _ _ _ _ comma a more i m at x fields rec (record_stays q.extends i rec known) (field_stays q.extends i m x.ty t) own.0 v rest.0 w)
