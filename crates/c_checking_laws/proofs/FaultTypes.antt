-- Where finding stops in a type name, a specifier, a member or a parameter, a rule is broken.
use Rattle.std.proofs.Common.{◌≡◌, ℕ, ◌<◌, true, false, refl, sym, ap, ◌∙◌, subst, List, [], ◌∷◌, length, inl, inr, arith}
use Rattle.std.specs.Prelude.{Option, Some, None, Ok, Err, ◌⊎◌, slice_get}
use Rattle.lay_base.specs.declared.faults.Rule.TheVariants as R
use Rattle.c_types.specs.Types.{CType, Field, Record}
use Rattle.c_types.specs.Layouts.{size_of_record}
use Rattle.c_ast.specs.declared.words.Spelling.{Spelling}
use Rattle.c_ast.specs.Trees
use Rattle.c_erasure.specs.Broken.{Fault, ill_typed, redeclared, too_big, AreNoType, AreBroken, IsBrokenDeclarator, IsBrokenWithin, IsBrokenSpecifier}
use Rattle.c_erasure.specs.Broken.{IsBrokenAmong}
use Rattle.c_erasure.specs.Broken.{IsRepeated, IsDefinedBefore, IsDeclaredBefore, member_names, tag_place}
use Rattle.c_erasure.specs.Declarators.{open_array}
use Rattle.c_erasure.specs.Erasure.{Declares, tag_text, place_in, with_parameter_if_named}
use Rattle.c_erasure.specs.Marks as Marks
use Rattle.c_erasure.specs.Marks.{Mark, a_tag, an_end, a_name, marks_of_specifier}
use Rattle.c_erasure.specs.Scopes.{Bound, FileScope, Scope}
use Rattle.c_erasure.specs.Specifiers.{types_among}
use Rattle.c_erasure.specs.Checking.Answers.{Checked, with_file, moved}
use Rattle.c_erasure.specs.Checking.Declaring.{Derivation, derived, base_kind, tagged_in, enumerated_in, completed_in, enumerator_in}
use Rattle.c_erasure.specs.Checking.Finding.{base_type, type_of_derived}
use Rattle.c_typed.specs.Conversions.{is_scalar}
use Rattle.c_checking_laws.proofs.Results.{ok}
use Rattle.c_checking_laws.proofs.Extends.{itself}
use Rattle.c_checking_laws.proofs.FoundTypes.{FoundSteps, FoundFields, tag_text_same, ready_inside}
use Rattle.c_checking_laws.proofs.FoundDeclarators.{parameter_ready}
use Rattle.c_checking_laws.proofs.FaultResults.{Reaches, reaches_outside, Broken, bound_err, with_file_err, here, there}
use Rattle.c_checking_laws.proofs.FaultDeclaring.{base_fault, closed_fault, tagged_fault, enumerated_fault, completed_fault, IsEarlier, enumerator_fault}
use Rattle.c_checking_laws.proofs.FaultPremises.{Prepared, inside_prepared}
use Rattle.c_checking_laws.proofs.FaultSteps.{ReadSteps}

-- ---- declarators (6.7.5)

pub within_broken : (d : Trees.Declarator) (s : Scope) (t : CType) (f : Fault) → IsBrokenWithin d s f → IsBrokenDeclarator d s t f
within_broken Trees.nothing s t f h = absurd h
within_broken (Trees.named x) s t f h = absurd h
within_broken (Trees.pointer at consts d) s t f h = inr (within_broken d s _ f h)
within_broken (Trees.enclosed left d right) s t f h = within_broken d s t f h
within_broken (Trees.array d left n right) s t f (inl h) = inr (inr (inr (inr h)))
within_broken (Trees.array d left n right) s t f (inr h) = inl h
within_broken (Trees.function d left all right) s t f (inl h) = inr (inr (inr h))
within_broken (Trees.function d left all right) s t f (inr h) = inl h

-- the specifiers of a declaration
pub base_stops : (May : FileScope → Type 0) (s : Scope) (specs : Trees.Specifiers) (at : ℕ) (one : Checked CType) (f : Fault)
    → ((x : Trees.Specifier) → types_among specs ≡ x ∷ [] → one ≡ Err f → Broken May s (λ s. AreBroken specs s f))
    → base_type (base_kind specs) at s.file one ≡ Err f → (P : Type 0) → ((f ≡ ill_typed R.Specifiers at) × AreNoType specs → P)
    → (Broken May s (λ s. AreBroken specs s f) → P) → P
base_stops May s specs at one f names h P p q = base_fault specs at s.file one f P h p (λ x e k. q (names x e k))

module _ (untagged : ℕ → List ℕ) (ends : List ℕ) (May : FileScope → Type 0) where
  -- the type that a declarator makes stops, or leaves a length out
  pub shape_stops : (s : Scope) (d : Trees.Declarator) (steps : List Derivation × FileScope) → FoundSteps untagged s d steps → ReadSteps untagged ends s d steps
      → (at : ℕ) (base : CType) (f : Fault) → type_of_derived at steps.1 steps.0 base ≡ Err f
      → IsBrokenDeclarator d (moved s steps.1) base f
      ⊎ ((u : CType) × Declares (moved s steps.1) d base (open_array u) × (f ≡ ill_typed R.Length at))
  shape_stops s d steps v w at base f h =
      bound_err (derived steps.1.records steps.0 base) _ f _ h (λ e. inl (w.broken steps.1 (itself steps.1) base f e))
      (λ shape e h.
      let c = closed_fault at shape f h in
      let g : derived steps.1.records steps.0 base ≡ Ok (open_array c.1.0) = e ∙ ap (λ s. ok s) c.1.1 in
      let p = itself steps.1 in
      inr (c.1.0, v.holds steps.1 p steps.1.records p.records.0 p.records.1 base (open_array c.1.0) g, c.0))

  -- ---- specifiers (6.7.2)

  pub struct_named_stops : (s : Scope) (at : ℕ) (x : Spelling) → Prepared untagged ends s (marks_of_specifier untagged (Trees.struct_named at x)) → (f : Fault)
      → with_file s.file (tagged_in s at x) ≡ Err f → Broken May s (λ s. IsBrokenSpecifier (Trees.struct_named at x) s f)
  struct_named_stops s at x p f h =
      here May s (λ s. IsBrokenSpecifier (Trees.struct_named at x) s f)
      (tagged_fault s at x p.orderly (λ i. p.tags_numbered i 0 _ refl refl) f (with_file_err s.file (tagged_in s at x) f h))

  pub enum_named_stops : (s : Scope) (at : ℕ) (x : Spelling) → Prepared untagged ends s [] → (f : Fault)
      → with_file s.file (enumerated_in s.file x) ≡ Err f → Broken May s (λ s. IsBrokenSpecifier (Trees.enum_named at x) s f)
  enum_named_stops s at x p f h =
      here May s (λ s. IsBrokenSpecifier (Trees.enum_named at x) s f) (enumerated_fault s x p.orderly f (with_file_err s.file (enumerated_in s.file x) f h))

  -- the tag that a definition has
  pub own_tag : (s : Scope) → s.file.untagged ≡ untagged → (at : ℕ) (x : Option Spelling) → Marks.tag_name untagged at x ≡ tag_text s at x
  own_tag s e at None = ap (λ (names : ℕ → List ℕ). names at) (sym e)
  own_tag s e at (Some x) = refl

  pub struct_body_stops : (s : Scope) (at : ℕ) (x : Option Spelling) (left_at : ℕ) (all : Trees.MemberDeclarations) (right_at : ℕ)
      → s.file.untagged ≡ untagged → s.is_inside ≡ false → (m : List Field × FileScope) → FoundFields untagged s all m
      → Reaches May s.file s.is_inside m.1
      → Prepared untagged ends (moved s m.1) (an_end (Marks.tag_name untagged at x) right_at ∷ []) → (f : Fault)
      → completed_in m.1 (tag_place at x) (member_names all) (record { tag = tag_text s at x; place = place_in s at; fields = m.0 }) ≡ Err f
      → Broken May s (λ s. IsBrokenSpecifier (Trees.struct_body at x left_at all right_at) s f)
  struct_body_stops s at x left_at all right_at same i m v r p f h =
      let rec : Record = record { tag = tag_text s at x; place = place_in s at; fields = m.0 } in
      let numbered = subst (λ n. slice_get m.1.numbered n ≡ Some (Marks.tag_name untagged at x)) (omega arith) (p.numbers_stand i 0 _ refl) in
      let own = subst (λ tag. slice_get m.1.numbered (length m.1.records) ≡ Some tag) (own_tag s same at x) numbered in
      let end = subst (λ n. slice_get m.1.ends n ≡ Some right_at) (omega arith) (p.ready.ends_stand i 0 right_at refl) in
      there May s (λ s. IsBrokenSpecifier (Trees.struct_body at x left_at all right_at) s f) m.1 r
      (by_rule (completed_fault m.1 (tag_place at x) (member_names all) rec right_at p.steady p.orderly own end f h))
    where
      by_rule : IsRepeated (member_names all) f ⊎ IsEarlier m.1 (tag_text s at x) (tag_place at x) right_at f
          ⊎ ((f ≡ too_big at) × (16777216 < size_of_record m.1.records (record { tag = tag_text s at x; place = place_in s at; fields = m.0 })))
          → IsBrokenSpecifier (Trees.struct_body at x left_at all right_at) (moved s m.1) f
      by_rule (inl n) = inr (inr (inl n))
      by_rule (inr (inl n)) =
          let e : IsDefinedBefore (moved s m.1) at x right_at f =
          subst (λ tag. IsEarlier m.1 tag (tag_place at x) right_at f) (sym (tag_text_same untagged s m.1 v.grew.extends at x)) n in
          inr (inr (inr (inl e)))
      by_rule (inr (inr n)) = inr (inr (inr (inr (inr (m.0, v.holds m.1 (itself m.1), n.0, n.1)))))

  -- an enumerator whose name is declared
  pub enumerator_stops : (s : Scope) (g : FileScope) (x : Spelling) (from : ℕ) (rest : List Mark) (b : Bound) → b.name ≡ x.text → b.place ≡ x.from
      → s.is_inside ≡ false → Prepared untagged ends (moved s g) (a_name from ∷ rest) → (f : Fault) → enumerator_in g b ≡ Err f
      → (first : ℕ) × IsDeclaredBefore g.names x.text from first × (f ≡ redeclared x.text x.from first)
  enumerator_stops s g x from rest b n w i p f h =
      let e = enumerator_fault g b f h in (
        e.1.place,
        (e.0, e.1, e.2, e.3 ∙ n, p.begun i 0 from refl e.0 e.1 e.2, refl),
        e.4 ∙ ap (λ name. redeclared name b.place e.1.place) n
            ∙ ap (λ at. redeclared x.text at e.1.place) w,
      )

  -- ---- parameters (6.7.5.3)

  pub prepared_inside : (s : Scope) → s.is_inside ≡ true → (u v : List Mark) → Prepared untagged ends s u → Prepared untagged ends s v
  prepared_inside s i u v p =
      inside_prepared untagged ends i v (ready_inside i u v p.ready) p.ends_are p.untagged_are p.steady p.orderly p.locals_are

  pub parameter_prepared : (s : Scope) (x : Option Spelling) (t : CType) → is_scalar t ≡ true → s.is_inside ≡ true → Prepared untagged ends s []
      → Prepared untagged ends (with_parameter_if_named s x t) []
  parameter_prepared s None t k i p = p
  parameter_prepared s (Some x) t k i p =
      inside_prepared untagged ends refl [] (parameter_ready s (Some x) t k i p.ready) p.ends_are p.untagged_are p.steady p.orderly p.locals_are

  pub parameter_file : (s : Scope) (x : Option Spelling) (t : CType) → (with_parameter_if_named s x t).file ≡ s.file
  parameter_file s None t = refl
  parameter_file s (Some x) t = refl

  -- what is broken behind a parameter
  pub behind_broken : (s : Scope) (x : Option Spelling) (t : CType) (more : Trees.Parameters) (f : Fault)
      → Broken May (with_parameter_if_named s x t) (λ s. IsBrokenAmong more s f) → Broken May s (λ s. IsBrokenAmong more (with_parameter_if_named s x t) f)
  behind_broken s None t more f b = record { file = b.file; reaches = b.reaches; is = b.is }
  behind_broken s (Some x) t more f b = record { file = b.file; reaches = reaches_outside s.is_inside b.reaches; is = b.is }
