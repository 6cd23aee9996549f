-- The body of a function of a file: it is found, and the file after it is a part of the whole one (C99 6.9.1).
use Rattle.std.proofs.Common.{◌≡◌, ℕ, zero, suc, ◌<◌, refl, sym, ap, ◌∙◌, subst, List, [], ◌∷◌, ◌++◌, length}
use Rattle.std.proofs.Common.{arith, inl, inr}
use Rattle.std.specs.Prelude.{◌⊎◌, Option, Some, slice_get, slice_set}
use Rattle.std.specs.Option.{IsSome}
use Rattle.c_types.specs.Types.{CType, CTypes}
use Rattle.c_ast.specs.Trees
use Rattle.c_erasure.specs.Files.{HasParameters, IsBody}
use Rattle.c_erasure.specs.Scopes.{FileScope, Bound, Entity, typedef, enumerator, an_object, a_function, a_library_function, a_local, a_parameter}
use Rattle.c_erasure.specs.Scopes.{AnObject, AFunction, ALocal}
use Rattle.c_erasure.specs.Checking.Answers.{◌>>=◌}
use Rattle.c_erasure.specs.Checking.Files.{with_body, function_body}
use Rattle.c_checking_laws.proofs.Agreement.{IsFit, AreFit}
use Rattle.c_checking_laws.proofs.CompleteNodes.{some, some_is}
use Rattle.c_checking_laws.proofs.CompletePart.{Lists, part, IsAfter}
use Rattle.c_checking_laws.proofs.CompleteStatements.{inner, Seen}
use Rattle.c_checking_laws.proofs.CompleteWalk.{Event}
use Rattle.c_checking_laws.proofs.Extends.{Extends, bound_stays, record_stays}
use Rattle.c_checking_laws.proofs.Results.{ok}
use Rattle.c_checking_laws.proofs.WholeFiles.CompleteBodies.{AreScalar, parameters_complete, parameters_fit, all_locals, walk_of_body, body_complete, IsBegun}
use Rattle.c_checking_laws.proofs.WholeFiles.CompleteBodies.{function_complete}
use Rattle.c_checking_laws.proofs.WholeFiles.CompleteObjects.{mapped_at, set_of, set_length}
use Rattle.c_checking_laws.proofs.WholeFiles.Bodies.{IsReadyFile, body_found}
use Rattle.c_checking_laws.proofs.WholeFiles.FileScopes.{IsSameObject, IsSameFunction}
use Rattle.c_checking_laws.proofs.WholeFiles.Scoped.{IsInner}
use Rattle.c_checking_units.proofs.Constants.{names_among}
use Rattle.c_checking_units.proofs.Filed.{IsWholeFile, IsFiled}
use Rattle.c_checking_units.proofs.Functions.{with_functions, functions_filed}
use Rattle.c_checking_units.proofs.ObjectDeclarators.{FoundFile}
use Rattle.c_checking_units.proofs.Steps.{Step, events, a_body, steps_at, IsReady}

there_in : {X : Type 0} (xs : List X) (n : ℕ) → n < length xs → (x : X) × (slice_get xs n ≡ Some x)
there_in [] n l = absurd (omega (arith, l))
there_in (x ∷ xs) zero l = (x, refl)
there_in (x ∷ xs) (suc n) l = there_in xs n (omega (arith, l))

same_front : {X : Type 0} (xs ys a b : List X) → xs ++ a ≡ ys ++ b → length xs ≡ length ys → xs ≡ ys
same_front [] [] a b e l = refl
same_front [] (y ∷ ys) a b e l = absurd (omega (arith, l))
same_front (x ∷ xs) [] a b e l = absurd (omega (arith, l))
same_front (x ∷ xs) (y ∷ ys) a b e l =
    let f : x ≡ y = cc in
    let h : xs ++ a ≡ ys ++ b = cc in
    ap (λ z. z ∷ xs) f ∙ ap (λ z. y ∷ z) (same_front xs ys a b h (omega (arith, l)))

all_fit : (f : FileScope) (all : List Bound) → ((k : ℕ) (b : Bound) → slice_get all k ≡ Some b → IsFit f [] b.entity) → AreFit f [] all
all_fit f [] h = tt
all_fit f (b ∷ all) h = (h 0 b refl, all_fit f all (λ k c e. h (suc k) c e))

module _ (g : FileScope) (w : IsWholeFile g) where
  -- ---- a part is ready for a body

  entity_fits : (m : Lists) → IsFiled g m → (e : Entity) → IsFit g [] e → ((n : ℕ) (t : CType) → e ≡ an_object n t → n < length m.objects)
      → ((n : ℕ) (t : CType) → e ≡ a_function n t → n < length m.functions) → IsFit (part g m) [] e
  entity_fits m f (typedef t) h o i = tt
  entity_fits m f (enumerator v) h o i = h
  entity_fits m f (an_object n t) h o i =
      let z = there_in m.objects n (o n t refl) in
      let q = f.objects n z.0 z.1 in
      let same : q.0.ty ≡ t = some_is q.0.ty t (sym (mapped_at (λ (o : AnObject). o.ty) g.objects n q.0 q.1) ∙ h) in
      mapped_at (λ (o : AnObject). o.ty) m.objects n z.0 z.1 ∙ ap (λ t. some t) (sym q.2.ty ∙ same)
  entity_fits m f (a_function n t) h o i =
      let z = there_in m.functions n (i n t refl) in
      let q = f.functions n z.0 z.1 in
      let same : q.0.ty ≡ t = some_is q.0.ty t (sym (mapped_at (λ (o : AFunction). o.ty) g.functions n q.0 q.1) ∙ h) in
      mapped_at (λ (o : AFunction). o.ty) m.functions n z.0 z.1 ∙ ap (λ t. some t) (sym q.2.ty ∙ same)
  entity_fits m f (a_library_function which) h o i = tt
  entity_fits m f (a_local n t) h o i = cc
  entity_fits m f (a_parameter t) h o i = h

  ready_file : (m : Lists) → IsFiled g m → IsReadyFile g.untagged (part g m)
  ready_file m f = record {
    names_fit = all_fit (part g m) m.names (λ k b e. entity_fits m f b.entity (w.names_stand k b (bound_stays f.extends k b e)) (f.objects_there k b e)
        (f.functions_there k b e));
    complete = λ k r e. w.complete k r (record_stays f.extends k r e);
    whole = f.whole;
    same = refl;
  }

  -- ---- the body

  abbrev pub Body : CType → AFunction → Trees.BlockItems → List Event
  Body result fn items = Seen g w.whole (all_locals g w.whole w.typed result fn) (walk_of_body g w.whole w.typed result fn items)

  same_names : (s m : Lists) → Extends (part g s) g → Extends (part g m) g → length m.names ≡ length s.names → m.names ≡ s.names
  same_names s m p q e = same_front m.names s.names q.names.0 p.names.0 (sym q.names.1 ∙ p.names.1) e

  abbrev Inside : CType → (s m : Lists) → AFunction → List Bound → List (List Bound) → Type 0
  Inside result s m fn bounds blocks = (n : ℕ) (o : AnObject) → slice_get m.objects n ≡ Some o → (slice_get s.objects n ≡ Some o) ⊎ IsSome o.initial

  body_filed : (s m : Lists) (u : List Event) → IsFiled g s → IsAfter g s u m → Rattle.c_checking_laws.proofs.CompleteWalk.names_in u ≡ 0
      → ((n : ℕ) (o : AnObject) → slice_get m.objects n ≡ Some o → (slice_get s.objects n ≡ Some o) ⊎ IsSome o.initial)
      → Rattle.c_checking_laws.proofs.WholeFiles.Kept.AreObjectsWhole m.records m.objects → IsFiled g m
  body_filed s m u f a none inside whole = record {
    extends = a.extends;
    objects = λ n o e. by_kind n o e (inside n o e);
    functions = λ n o e. f.functions n o (subst (λ all. slice_get all n ≡ Some o) a.functions e);
    objects_there = λ k b e n t is.
        let l = f.objects_there k b (subst (λ all. slice_get all k ≡ Some b) names e) n t is in
        let o = a.objects in
        omega (arith, l, o);
    functions_there = λ k b e n t is. subst (λ all. n < length all) (sym a.functions)
        (f.functions_there k b (subst (λ all. slice_get all k ≡ Some b) names e) n t is);
    whole = whole;
  }
    where
      names : m.names ≡ s.names
      names = same_names s m f.extends a.extends (let n = a.names in omega (arith, n, none))

      by_kind : (n : ℕ) (o : AnObject) → slice_get m.objects n ≡ Some o → (slice_get s.objects n ≡ Some o) ⊎ IsSome o.initial
          → (p : AnObject) × (slice_get g.objects n ≡ Some p) × IsSameObject o p
      by_kind n o e (inl h) = f.objects n o h
      by_kind n o e (inr h) =
          (o, a.extends.objects n o e h, record { name = refl; first = refl; ty = refl; is_linked = refl; literal = refl; settled = λ s. refl })

  is_begun : (result : CType) (o fn : AFunction) → IsSameFunction o fn → IsBegun g w.whole w.typed result o fn
  is_begun result o fn s = (sym s.name, sym s.first, sym s.ty, sym s.is_linked)

  put_filed : (m : Lists) (n : ℕ) (fn : AFunction) → IsFiled g m → slice_get g.functions n ≡ Some fn
      → IsFiled g (with_functions m (slice_set m.functions n fn))
  put_filed m n fn f there =
      let size = set_length m.functions n fn in
      functions_filed g m (slice_set m.functions n fn) f (λ k p e. one k p (set_of m.functions n fn k p e)) (omega (arith, size))
    where
      one : (k : ℕ) (p : AFunction) → (slice_get m.functions k ≡ Some p) ⊎ ((k ≡ n) × (fn ≡ p))
          → (q : AFunction) × (slice_get g.functions k ≡ Some q) × IsSameFunction p q
      one k p (inl e) = f.functions k p e
      one k p (inr e) = (
        fn,
        subst (λ k. slice_get g.functions k ≡ Some fn) (sym e.0) there,
        subst (λ p. IsSameFunction p fn) e.1 (record { name = refl; first = refl; ty = refl; is_linked = refl; settled = λ s. refl }),
      )

  pub function_body_found : (result : CType) (types : CTypes) (list : Option Trees.ParameterList) (s : Lists) (fn : AFunction) (bounds : List Bound)
      (items : Trees.BlockItems) (n place : ℕ) (rest : List Step) → IsReady g s (a_body items ∷ events (Body result fn items) ∷ rest)
      → HasParameters list types fn.parameters bounds → AreScalar types → IsBody g result bounds fn items → slice_get g.functions n ≡ Some fn
      → n < length s.functions → fn.place ≡ record { file = g.file; at = place }
      → FoundFile g w (function_body (part g s) n place fn.nodes result items (record { locals = fn.parameters; bounds = bounds })) rest
  function_body_found result types list s fn bounds items n place rest ready has scalar h there less stands =
      let f = ready.filed in
      let fit = parameters_fit g s bounds list types fn.parameters has scalar (names_among g w s f) in
      let z = body_complete g w.whole w.typed result s fn bounds items fit (record { extends = f.extends; follows = ready.steps.1.0 }) h in
      let m = z.lists in
      let o = there_in s.functions n less in
      let q = f.functions n o.0 o.1 in
      let same : q.0 ≡ fn = some_is q.0 fn (sym q.1 ∙ there) in
      let begun = is_begun result o.0 fn (subst (λ p. IsSameFunction o.0 p) same q.2) in
      let made = function_complete g w.whole w.typed result s fn o.0 bounds items place z stands begun in
      let old : slice_get m.functions n ≡ Some o.0 = ap (λ all. slice_get all n) z.after.functions ∙ o.1 in
      let v = body_found g.untagged (part g s) place fn.nodes result items list types (record { locals = fn.parameters; bounds = bounds })
      (parameters_complete list types fn.parameters bounds has) ready.steps.0 (ready_file s f)
      (z.all, inner g w.whole (all_locals g w.whole w.typed result fn) z.blocks (all_locals g w.whole w.typed result fn) m) z.is in
      let filed = body_filed s m (Body result fn items) f z.after
      (Rattle.c_checking_laws.proofs.CompleteFit.no_names (walk_of_body g w.whole w.typed result fn items)) (λ k p e. inside (v.inner k p e)) v.within.whole in
      let last = with_functions m (slice_set m.functions n fn) in
      let size = set_length m.functions n fn in
      let a = z.after in
      record {
        lists = last;
        is = ap (λ r. r >>= λ all. ok (with_body all.1.file n place (length fn.parameters) fn.nodes all.0 all.1.locals (slice_get all.1.file.functions n))) z.is
            ∙ ap (λ o. ok (with_body (part g m) n place (length fn.parameters) fn.nodes z.all (all_locals g w.whole w.typed result fn) o)) old
            ∙ ap (λ fn. ok (part g (with_functions m (slice_set m.functions n fn)))) made;
        ready = record {
          filed = put_filed m n fn filed there;
          steps = steps_at g _ _ _ (length s.functions) (length m.names) (length m.records) (length m.objects) (length last.functions) rest
              (sym a.names) (sym a.records) (sym a.objects) (sym (size ∙ ap length a.functions)) ready.steps.1.1;
        };
      }
    where
      inside : {A : Type 0} {p : AnObject} {f : FileScope} {b : Rattle.c_erasure.specs.Scopes.Scope} {texts : List ℕ} → A ⊎ IsInner f b texts p
          → A ⊎ IsSome p.initial
      inside (inl h) = inl h
      inside {A} {p} (inr h) = inr (subst IsSome (sym h.initial_is) refl)
