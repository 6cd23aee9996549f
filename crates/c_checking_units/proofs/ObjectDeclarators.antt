-- A declarator of an object at file scope: what it declares is what is found (C99 6.7.8, 6.9.2).
use Rattle.std.proofs.Common.{◌≡◌, ℕ, zero, suc, ◌+◌, ◌<◌, true, refl, sym, ap, ◌∙◌, subst, List, [], ◌∷◌, length}
use Rattle.std.proofs.Common.{length-append, arith, inl, inr}
use Rattle.std.specs.Prelude.{◌⊎◌, Option, Some, None, Ok, slice_get, slice_set, is_none}
use Rattle.c_types.specs.Objects.{is_object}
use Rattle.c_types.specs.Types.{CType}
use Rattle.c_ast.specs.declared.words.Spelling.{Spelling}
use Rattle.c_ast.specs.Trees
use Rattle.c_ast.specs.WellFormed.{IsValue}
use Rattle.c_typed.specs.Trees as Typed
use Rattle.c_erasure.specs.Erasure.{IsBound}
use Rattle.c_erasure.specs.Files.{IsOwnName, is_first, object_how, bound, IsDefinition}
use Rattle.c_erasure.specs.Noted.{Noted}
use Rattle.c_erasure.specs.Scopes.{FileScope, an_object, AnObject, at_file_scope, defines}
use Rattle.c_erasure.specs.Specifiers.{Storage}
use Rattle.c_erasure.specs.Checking.Answers.{Answer, ◌>>=◌}
use Rattle.c_erasure.specs.Checking.Declaring.{declared_among, with_bound}
use Rattle.c_erasure.specs.Checking.Files.{own_name, object_of, defined_object, with_definition, define_object, defined_once, once, declare_object}
use Rattle.c_checking_laws.proofs.CompleteNodes.{some_is}
use Rattle.c_checking_laws.proofs.CompletePart.{Lists, part, complete_stays}
use Rattle.c_checking_laws.proofs.CompleteWalk.{a_name}
use Rattle.c_checking_laws.proofs.Results.{ok}
use Rattle.c_checking_laws.proofs.WholeFiles.CompleteObjects.{with_objects, one_put, set_of, set_length}
use Rattle.c_checking_laws.proofs.WholeFiles.FileScopes.{IsSameObject, MayDeclare}
use Rattle.c_checking_units.proofs.Constants.{Initial, constants_found}
use Rattle.c_checking_units.proofs.Filed.{IsWholeFile, IsFiled, naming, next_bound, naming_filed}
use Rattle.c_checking_units.proofs.Names.{own_back}
use Rattle.c_checking_units.proofs.Objects.{IsOwn, own_found, none_defined}
use Rattle.c_checking_units.proofs.Steps.{Step, events, an_own, steps_at, At, IsReady}

module _ (g : FileScope) (w : IsWholeFile g) where
  -- what is found, and the part that is ready for what stands behind
  pub record FoundFile (r : Answer FileScope) (rest : List Step) : Type 0 where
    pub lists : Lists
    pub is : r ≡ Ok (part g lists)
    pub ready : IsReady g lists rest

  -- ---- an object of the whole file in the place of that of a part

  same_whole : (z o : AnObject) (i : Typed.Initializer Noted) (place : ℕ) → IsSameObject z o → o.initial ≡ Some i
      → o.place ≡ record { file = g.file; at = place } → record z { place = record { file = g.file; at = place }; initial = Some i } ≡ o
  same_whole z o i place s e p = rw (sym s.name, sym s.first, sym s.ty, sym s.is_linked, sym s.literal, sym e, sym p) refl

  put_filed : (c : Lists) (n : ℕ) (o : AnObject) → IsFiled g c → slice_get g.objects n ≡ Some o → is_object (length c.records) o.ty ≡ true
      → IsFiled g (with_objects c (slice_set c.objects n o))
  put_filed c n o f there known = record {
    extends = one_put g c n o f.extends there;
    objects = λ k p e. one k p (set_of c.objects n o k p e);
    functions = f.functions;
    objects_there = λ k b e m u is.
        let l = f.objects_there k b e m u is in
        let s = set_length c.objects n o in
        omega (arith, l, s);
    functions_there = f.functions_there;
    whole = λ k p e. whole_there k p (set_of c.objects n o k p e);
  }
    where
      whole_there : (k : ℕ) (p : AnObject) → (slice_get c.objects k ≡ Some p) ⊎ ((k ≡ n) × (o ≡ p)) → is_object (length c.records) p.ty ≡ true
      whole_there k p (inl e) = f.whole k p e
      whole_there k p (inr e) = subst (λ (o : AnObject). is_object (length c.records) o.ty ≡ true) e.1 known

      one : (k : ℕ) (p : AnObject) → (slice_get c.objects k ≡ Some p) ⊎ ((k ≡ n) × (o ≡ p)) → (q : AnObject) × (slice_get g.objects k ≡ Some q) × IsSameObject p q
      one k p (inl e) = f.objects k p e
      one k p (inr e) = (
        o,
        subst (λ k. slice_get g.objects k ≡ Some o) (sym e.0) there,
        subst (λ p. IsSameObject p o) e.1
            (record { name = refl; first = refl; ty = refl; is_linked = refl; literal = refl; settled = λ s. refl }),
      )

  there_in : {X : Type 0} (xs : List X) (n : ℕ) → n < length xs → (x : X) × (slice_get xs n ≡ Some x)
  there_in [] n l = absurd (omega (arith, l))
  there_in (x ∷ xs) zero l = (x, refl)
  there_in (x ∷ xs) (suc n) l = there_in xs n (omega (arith, l))

  -- ---- with its initializer, or without one

  pub define_found : (types : List (List ℕ)) (value : Option (ℕ × Trees.Expression)) (c : Lists) (place : ℕ) (t : CType) (n : ℕ) (o : AnObject)
      (rest : List Step) → IsValue types value → IsReady g c (events (Initial g w value) ∷ rest) → n < length c.objects
      → is_object (length c.records) t ≡ true → slice_get g.objects n ≡ Some o → o.ty ≡ t → IsDefinition (at_file_scope g) place t value o
      → FoundFile (define_object (part g c) n place value t) rest
  define_found types None c place t n o rest formed ready less known there ty h = record {
    lists = c;
    is = refl;
    ready = record {
      filed = ready.filed;
      steps = steps_at g (length c.names + 0) (length c.records + 0) (length c.objects + 0) (length c.functions) (length c.names) (length c.records)
          (length c.objects) (length c.functions) rest (omega arith) (omega arith) (omega arith) refl ready.steps.1;
    };
  }
  define_found types (Some value) c place t n o rest formed ready less known there ty h =
      let i = h.0 in
      let typed = subst (λ t. Rattle.c_erasure.specs.Files.IsTypedObject g t i) ty (w.typed n o i there h.2) in
      let z = constants_found g w types value c t i formed ready.filed known
      (record { extends = ready.filed.extends; follows = ready.steps.0 }) h.1 typed in
      let m = z.lists in
      let a = z.after in
      let grown = a.objects in
      let y = there_in m.objects n (omega (arith, less, grown)) in
      let q = z.filed.objects n y.0 y.1 in
      let same : q.0 ≡ o = some_is q.0 o (sym q.1 ∙ there) in
      let made = same_whole y.0 o i place (subst (λ o. IsSameObject y.0 o) same q.2) h.2 h.3 in
      let last = with_objects m (slice_set m.objects n o) in
      let size = set_length m.objects n o in
      record {
        lists = last;
        is = ap (λ r. r >>= λ i. ok (with_definition i.1 n (defined_object (part g c) place i.0 (slice_get i.1.objects n)))) z.is
            ∙ ap (λ o. ok (with_definition (part g m) n (defined_object (part g c) place i o))) y.1
            ∙ ap (λ o. ok (part g (with_objects m (slice_set m.objects n o)))) made;
        ready = record {
          filed = put_filed m n o z.filed there (subst (λ t. is_object (length m.records) t ≡ true) (sym ty)
              (complete_stays (length c.records) (length m.records) t (let r = a.records in omega (arith, r)) known));
          steps = steps_at g _ _ _ (length c.functions) (length m.names) (length m.records) (length last.objects) (length m.functions) rest
              (sym a.names) (sym a.records) (let o = a.objects in omega (arith, o, size)) (sym (ap length a.functions)) ready.steps.1;
        };
      }

  -- ---- the declarator

  once_found : {A : Type 0} (c : Lists) (x : Spelling) (value : Option (ℕ × Trees.Expression)) (words : Storage) (from : ℕ) (n : ℕ) (t : CType)
      (r : Answer A) → IsFiled g c → slice_get g.names (length c.names) ≡ Some (bound x from (object_how words value) (an_object n t))
      → defined_once (part g c) x value r ≡ r
  once_found c x None words from n t r f e = refl
  once_found c x (Some value) words from n t r f e =
      let none = none_defined g w c (bound x from defines (an_object n t)) f.extends e refl in
      ap (λ o. once x o r) none

  pub object_found : (types : List (List ℕ)) (words : Storage) (c : Lists) (x : Spelling) (place from : ℕ) (t : CType) (value : Option (ℕ × Trees.Expression))
      (n : ℕ) (o : AnObject) (rest : List Step) → MayDeclare words → IsValue types value
      → is_first g x ≡ is_none (declared_among c.names x.text)
      → IsReady g c (an_own (Some (an_object n t)) (is_first g x) place ∷ events (At (a_name from ∷ [])) ∷ events (Initial g w value) ∷ rest)
      → is_object (length c.records) t ≡ true → IsOwnName x.text → IsOwn g w x words place t n (is_first g x) o
      → IsBound (at_file_scope g) (bound x from (object_how words value) (an_object n t)) → IsDefinition (at_file_scope g) place t value o
      → FoundFile (declare_object (part g c) words x place from t value) rest
  object_found types words c x place from t value n o rest may formed first ready known own is binds h =
      let b = bound x from (object_how words value) (an_object n t) in
      let f = ready.filed in
      let s = ready.steps in
      let next = next_bound g w c b s.1.0.0 binds in
      let z = own_found g w c words x place t n o (is_first g x) (declared_among c.names x.text) b may f refl first s.0 is refl next known in
      let m = z.lists in
      let next_there : slice_get g.names (length m.names) ≡ Some b = subst (λ all. slice_get g.names (length all) ≡ Some b) (sym z.names) next in
      let named = naming_filed g w m z.filed b next_there
      (λ k u e. let k_is : n ≡ k = cc in let l = z.there in omega (arith, l, k_is)) (λ k u e. cc) in
      let longer = length-append m.names (b ∷ []) in
      let same = ap length z.names in
      let count = z.objects in
      let y = define_found types value (naming m b) place t n o rest formed (record {
        filed = named;
        steps = steps_at g _ _ _ _ (length (naming m b).names) (length m.records) (length m.objects) (length m.functions)
            (events (Initial g w value) ∷ rest) (omega (arith, longer, same)) (let r = ap length z.records in omega (arith, r)) (omega (arith, count))
            (let k = ap length z.functions in omega (arith, k)) s.1.1;
      }) z.there (subst (λ all. is_object (length all) t ≡ true) (sym z.records) known) is.there is.ty h in
      record {
        lists = y.lists;
        is = ap (λ l. own_name x.from l (object_of (part g c) words x place t (declared_among c.names x.text) >>= λ n. defined_once (part g c) x value
            (define_object (with_bound n.1 (bound x from (object_how words value) (an_object n.0 t))) n.0 place value t))) (own_back x.text own)
            ∙ ap (λ r. r >>= λ n. defined_once (part g c) x value
            (define_object (with_bound n.1 (bound x from (object_how words value) (an_object n.0 t))) n.0 place value t)) z.is
            ∙ once_found c x value words from n t (define_object (part g (naming m b)) n place value t) f next ∙ y.is;
        ready = y.ready;
      }
