-- In the unit of a file what objects hold at first and the bodies of functions refer to the object of each string literal once (C99 6.4.5).
use Rattle.std.proofs.Common.{◌≡◌, ◌≢◌, ◌∙◌, ℕ, ◌+◌, true, false, refl, sym, ap, subst, List, [], ◌∷◌, length, map, flat_map, append-nil, arith, inl, inr}
use Rattle.std.proofs.lemmas.List.Elements.{All-from_recursion}
use Rattle.std.specs.Prelude.{◌⊎◌, Option, Some, None, slice_get, is_some}
use Rattle.std.specs.Option.{option_map}
use Rattle.c_types.specs.Types.{CType}
use Rattle.c_ast.specs.Trees
use Rattle.c_ast.specs.TreesOfFiles.{IsTreeOf}
use Rattle.c_typed.specs.declared.program.Object.{Object}
use Rattle.c_typed.specs.Mapped.{of_types, mapped_statement}
use Rattle.c_typed.specs.Programs.{FunctionData, ProgramData}
use Rattle.c_typed.specs.References.{Reference, references_by_initializer, references_by_initial, references_by_statement}
use Rattle.c_typed.specs.Trees as Typed
use Rattle.c_typed.specs.TypedStatements.{declared_by, IsTypedInitializer}
use Rattle.c_erasure.specs.Erasure.{literal_of}
use Rattle.c_erasure.specs.Files.{AreAscending, IsFileOf, IsTypedObject}
use Rattle.c_erasure.specs.Initializers.{Part, HasConstant, AreConstants}
use Rattle.c_erasure.specs.Marks.{marks_of_file, scope_beginnings}
use Rattle.c_erasure.specs.Noted.{Noted}
use Rattle.c_erasure.specs.Scopes.{ALocal, AFunction, AnObject, FileScope, at_file_scope, declared}
use Rattle.c_erasure.specs.Units as Units
use Rattle.c_erasure.specs.Units.{recognised_statement, number_in, of_initializer, typed_initializer, types, unit_of}
use Rattle.c_checking_laws.specs.TextOrder.TextOrder.{AreInTextOrder}
use Rattle.c_well_typed.proofs.ProgramWeights.Numbered.{total}
use Rattle.c_well_typed.proofs.Definitions.{in_function, IsDefinedFunction, function_known}
use Rattle.c_well_typed.proofs.JoinedFunctions.{unmapped_at}
use Rattle.c_well_typed.proofs.RecognisedStatements.{typed_initial}
use Rattle.c_well_typed.proofs.UnitFunctions.{records_ended, functions_numbered, at_place, source_typed}
use Rattle.c_well_typed.specs.Printable.Programs.{if_any, times, references, referred_by, StandsOnce}
use Rattle.c_well_typed.proofs.PrintableObjects.Counts.{times_both}
use Rattle.c_well_typed.proofs.PrintableObjects.FileLiterals.{walk, IsCovered, object_covered, object_weight, weight_of_function, once}
use Rattle.c_well_typed.proofs.PrintableObjects.KeptStatements.{statement_kept}
use Rattle.c_well_typed.proofs.PrintableObjects.Renamed.{statements_alike}
use Rattle.c_well_typed.proofs.PrintableObjects.Sources.{IsFilled}
use Rattle.c_well_typed.proofs.PrintableObjects.StayingValues.{with_locals}
use Rattle.c_well_typed.proofs.PrintableObjects.StoredReferences.{referred_by_all, initializer_refers}
use Rattle.c_well_typed.proofs.PrintableObjects.Totals.{total_mapped}
use Rattle.c_well_typed.proofs.PrintableObjects.UnitObjects.{as_program}
use Rattle.c_well_typed.proofs.PrintableObjects.WalkedFiles.{body_weight}

-- ---- what refers to an object, in each object and each function

abbrev pub by_object : Object → List Reference
by_object o = flat_map (flat_map (λ i. referred_by i.value)) (if_any o.initial)

abbrev pub by_function : FunctionData → List Reference
by_function g = flat_map references_by_statement (if_any g.body)

times_each : {A : Type 0} (n : ℕ) (v : A → List Reference) (xs : List A) → times n (flat_map v xs) ≡ total (λ x. times n (v x)) xs
times_each n v [] = refl
times_each n v (x ∷ xs) = let r = times_each n v xs in let b = times_both n (v x) (flat_map v xs) in omega (arith, r, b)

pub times_in : (n : ℕ) (p : ProgramData)
    → times n (references p) ≡ total (λ o. times n (by_object o)) p.objects + total (λ g. times n (by_function g)) p.functions
times_in n p =
    let a = times_both n (flat_map by_object p.objects) (flat_map by_function p.functions) in
    let b = times_each n by_object p.objects in
    let c = times_each n by_function p.functions in
    omega (arith, a, b, c)

module _ (bytes : List ℕ) (items : List Trees.Item) (f : FileScope) (tree : IsTreeOf bytes items) (h : IsFileOf items f)
    (beginnings : AreAscending (scope_beginnings (marks_of_file f.untagged items))) where
  abbrev U : ProgramData
  U = as_program (unit_of items f)

  -- ---- objects

  abbrev AreKnown : List CType → Typed.Initializer Noted → Type 0
  AreKnown L i = AreConstants (with_locals L (declared (at_file_scope f))) i

  typed_or_zero : (t : CType) (i : Typed.Initializer Noted) → IsTypedObject f t i
      → (i ≡ Typed.parts []) ⊎ IsTypedInitializer (declared (at_file_scope f)) t (typed_initial i)
  typed_or_zero t (Typed.parts []) k = inl refl
  typed_or_zero t (Typed.parts (part ∷ all)) k = inr k
  typed_or_zero t (Typed.whole e) k = inr k
  typed_or_zero t (Typed.whole_record p) k = inr k

  abbrev Refers : Typed.Initializer Noted → Type 0
  Refers i = referred_by_all (map (Units.initial f) (of_initializer f (typed_initializer i))) ≡ references_by_initializer i

  refers : (o : AnObject) (i : Typed.Initializer Noted) → IsTypedObject f o.ty i → (i ≡ Typed.parts []) ⊎ ((L : List CType) × AreKnown L i) → Refers i
  refers o i k (inl e) = subst Refers (sym e) refl
  refers o i k (inr c) =
      elim (typed_or_zero o.ty i k) [
        | inl e ↦ subst Refers (sym e) refl
        | inr t ↦ initializer_refers f c.0 o.ty i c.1 t
      ]

  known : (n : ℕ) (o : AnObject) → slice_get f.objects n ≡ Some o → (i : Typed.Initializer Noted) → o.initial ≡ Some i
      → (i ≡ Typed.parts []) ⊎ ((L : List CType) × AreKnown L i)
  known n o e i q = by_kind (object_covered bytes items f tree h beginnings 0 0 n o e)
    where
      of_source : IsFilled (walk bytes items f tree h beginnings 0 0) o.ty i → (i ≡ Typed.parts []) ⊎ ((L : List CType) × AreKnown L i)
      of_source (inl z) = inl z
      of_source (inr x) =
          let full = x.full in
          let L = map (λ (l : ALocal). l.ty) x.scope.locals in
          inr (L, subst (λ (g : FileScope). AreConstants (with_locals L (declared (at_file_scope g))) i) full.made.0 x.constants)

      by_kind : IsCovered bytes items f tree h beginnings 0 0 n o → (i ≡ Typed.parts []) ⊎ ((L : List CType) × AreKnown L i)
      by_kind (inr s) = of_source (s.0.filled i q)
      by_kind (inl l) = inr ([], of_text i (sym q ∙ ap (λ (o : AnObject). o.initial) l.1))
        where
          of_text : (i : Typed.Initializer Noted) → Some i ≡ Some (Typed.parts (record { offset = 0; value = Typed.text (literal_of l.0) } ∷ [])) → AreKnown [] i
          of_text i e =
              let is : i ≡ Typed.parts (record { offset = 0; value = Typed.text (literal_of l.0) } ∷ []) = cc in
              subst (AreKnown []) (sym is)
              (All-from_recursion (λ (part : Part). HasConstant (with_locals [] (declared (at_file_scope f))) part.value)
              (record { offset = 0; value = Typed.text (literal_of l.0) } ∷ []) (tt, tt))

  object_refers : (m n : ℕ) (o : AnObject) → slice_get f.objects n ≡ Some o
      → times m (by_object (Units.object f o)) ≡ object_weight bytes items f tree h beginnings m 0 o
  object_refers m n o e = by_initial o.initial refl
    where
      by_initial : (i : Option (Typed.Initializer Noted)) → o.initial ≡ i
          → times m (flat_map referred_by_all (if_any (option_map (λ i. map (Units.initial f) (of_initializer f (typed_initializer i))) i)))
          ≡ times m (references_by_initial i)
      by_initial None q = refl
      by_initial (Some i) q =
          let own = referred_by_all (map (Units.initial f) (of_initializer f (typed_initializer i))) in
          ap (times m) (append-nil own ∙ refers o i (h.initialized n o i e q) (known n o e i q))

  -- ---- functions

  abbrev IsSameBody : ℕ → Option (Typed.Statement Noted) → Type 0
  IsSameBody m b = times m (flat_map references_by_statement (if_any (option_map (λ s. mapped_statement (of_types (λ t. number_in (types f) t.ty)) (recognised_statement s)) b)))
      ≡ body_weight (walk bytes items f tree h beginnings m 0) b

  function_refers : (m n : ℕ) (g : AFunction) → slice_get f.functions n ≡ Some g
      → times m (by_function (Units.function f g)) ≡ weight_of_function bytes items f tree h beginnings m 0 g
  function_refers m n g e = by_body (function_known f (length f.records) (records_ended items f h beginnings) items h beginnings n g e)
    where
      by_body : ((g.body ≡ None) × (g.parameters ≡ []) × (g.locals ≡ [])) ⊎ IsDefinedFunction f (length f.records) g → IsSameBody m g.body
      by_body (inl k) = subst (IsSameBody m) (sym k.0) refl
      by_body (inr d) =
          let numbered = at_place _ f.functions (functions_numbered items f h beginnings) n g e in
          let S = Typed.block (declared_by d.all) d.all in
          let typed = source_typed items f h beginnings g numbered d in
          subst (IsSameBody m) (sym d.body)
          (ap (times m) (append-nil _ ∙ statements_alike (λ (t : Noted). number_in (types f) t.ty) (recognised_statement S)
          ∙ statement_kept (in_function f g) d.result S false false typed))

  -- ---- once

  pub literals_once : AreInTextOrder f.untagged items → StandsOnce U
  literals_once order n o e text =
      let z = unmapped_at (Units.object f) f.objects n o e in
      let own = literal z.0.literal (ap (λ (o : Object). o.text) z.2 ∙ text) in
      let a = times_in n U in
      let b = total_mapped (λ o. times n (by_object o)) (object_weight bytes items f tree h beginnings n 0) (Units.object f) f.objects (object_refers n) in
      let c = total_mapped (λ g. times n (by_function g)) (weight_of_function bytes items f tree h beginnings n 0) (Units.function f) f.functions (function_refers n) in
      let d = once bytes items f tree h beginnings n z.0.first order (z.0, z.1, refl, own) in
      omega (arith, a, b, c, d)
    where
      literal : {A : Type 0} (l : Option A) → is_some l ≡ true → l ≢ None
      literal None t = cc
      literal (Some x) t = λ e. cc
