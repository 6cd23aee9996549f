-- A declarator of the file scope before it declares its name: its type is found, and the file speaks of it (C99 6.7).
use Rattle.std.proofs.Common.{◌≡◌, ◌≢◌, ℕ, zero, suc, ◌+◌, ◌≤◌, ◌<◌, true, false, refl, sym, ap, ◌∙◌, subst, List, [], ◌∷◌, length}
use Rattle.std.proofs.Common.{arith}
use Rattle.std.specs.Prelude.{Option, Some, None, Ok, slice_get, is_none}
use Rattle.c_types.specs.Types.{CType, array, Record}
use Rattle.c_types.specs.Objects.{is_object}
use Rattle.c_ast.specs.declared.words.Spelling.{Spelling}
use Rattle.c_ast.specs.Trees
use Rattle.c_ast.specs.Places.{first, first_declarator}
use Rattle.c_ast.specs.WellFormed.{IsDeclarator}
use Rattle.c_typed.specs.declared.program.MentionKind.{MentionKind}
use Rattle.c_erasure.specs.Declarators.{Shape, closed, open_array}
use Rattle.c_erasure.specs.Erasure.{IsBound, Declares}
use Rattle.c_erasure.specs.Files.{is_first}
use Rattle.c_erasure.specs.Initializers.{texts_of, length_of}
use Rattle.c_erasure.specs.Scopes.{FileScope, Bound, enumerator, at_file_scope, ended, IsMentioned}
use Rattle.c_erasure.specs.Specifiers.{Storage}
use Rattle.c_erasure.specs.Statements.{IsSized}
use Rattle.c_erasure.specs.Checking.Declaring.{Derivation, declared_among, with_mention, mentions_in, derived, small, object_at}
use Rattle.c_erasure.specs.Checking.Files.{declare_as, declarator_named}
use Rattle.c_erasure.specs.Checking.Finding.{derivations}
use Rattle.c_erasure.specs.Checking.Statements.{counted_array, sized_in}
use Rattle.c_checking_laws.proofs.CompleteCalls.{size_same}
use Rattle.c_checking_laws.proofs.CompleteDeclarators.{small_back}
use Rattle.c_checking_laws.proofs.CompleteLocals.{walk_of_initial}
use Rattle.c_checking_laws.proofs.CompletePart.{Lists, part, mentioned}
use Rattle.c_checking_laws.proofs.CompleteTrees.{complete_declarator}
use Rattle.c_checking_laws.proofs.CompleteWalk.{a_look, a_name, walk_of_declarator}
use Rattle.c_checking_laws.proofs.Extends.{Extends}
use Rattle.c_checking_laws.proofs.Results.{ok}
use Rattle.c_checking_laws.proofs.WholeFiles.Keeping.{keep_steps}
use Rattle.c_checking_units.proofs.Filed.{IsWholeFile, IsFiled, next_bound}
use Rattle.c_checking_units.proofs.Names.{keeps_filed, first_same}
use Rattle.c_checking_units.proofs.Steps.{Step, events, a_declarator, an_own, entity_at, AreSteps, steps_at, At, IsReady}

-- ---- what stands in a declarator, with its initializer

module _ (g : FileScope) where
  abbrev pub behind_type : Trees.InitDeclarator → Spelling → (from : ℕ) → List Step → List Step
  behind_type d x from rest = an_own (entity_at g.names from) (is_first g x) (first_declarator d.declarator x.from) ∷ events (At (a_name from ∷ []))
      ∷ events (At (walk_of_initial g.untagged g.objects d.value)) ∷ rest

  abbrev pub steps_of_declarator : Trees.InitDeclarator → Spelling → (from : ℕ) → List Step → List Step
  steps_of_declarator d x from rest = a_declarator x.from ∷ events (At (a_look x.from ∷ walk_of_declarator g.untagged d.declarator))
      ∷ behind_type d x from rest

  pub skip_nothing : (c : Lists) (value : Option (ℕ × Trees.Expression)) (rest : List Step) → value ≡ None
      → IsReady g c (events (At (walk_of_initial g.untagged g.objects value)) ∷ rest) → IsReady g c rest
  skip_nothing c (Some value) rest e ready = cc
  skip_nothing c None rest e ready = record {
    filed = ready.filed;
    steps = steps_at g (length c.names + 0) (length c.records + 0) (length c.objects + 0) (length c.functions) (length c.names) (length c.records)
        (length c.objects) (length c.functions) rest (omega arith) (omega arith) (omega arith) refl ready.steps.1;
  }

  pub same_filed : (d e : Lists) → IsFiled g d → Extends (part g e) g → d.names ≡ e.names → d.records ≡ e.records → d.objects ≡ e.objects
      → d.functions ≡ e.functions → IsFiled g e
  same_filed d e f p names records objects functions = record {
    extends = p;
    objects = subst (λ all. (n : ℕ) (o : Rattle.c_erasure.specs.Scopes.AnObject) → slice_get all n ≡ Some o
        → (p : Rattle.c_erasure.specs.Scopes.AnObject) × (slice_get g.objects n ≡ Some p)
        × Rattle.c_checking_laws.proofs.WholeFiles.FileScopes.IsSameObject o p) objects f.objects;
    functions = subst (λ all. (n : ℕ) (o : Rattle.c_erasure.specs.Scopes.AFunction) → slice_get all n ≡ Some o
        → (p : Rattle.c_erasure.specs.Scopes.AFunction) × (slice_get g.functions n ≡ Some p)
        × Rattle.c_checking_laws.proofs.WholeFiles.FileScopes.IsSameFunction o p) functions f.functions;
    objects_there = λ k b i n t is. subst (λ all. n < length all) objects
        (f.objects_there k b (subst (λ all. slice_get all k ≡ Some b) (sym names) i) n t is);
    functions_there = λ k b i n t is. subst (λ all. n < length all) functions
        (f.functions_there k b (subst (λ all. slice_get all k ≡ Some b) (sym names) i) n t is);
    whole = subst (λ records. Rattle.c_checking_laws.proofs.WholeFiles.Kept.AreObjectsWhole records e.objects) records
        (subst (Rattle.c_checking_laws.proofs.WholeFiles.Kept.AreObjectsWhole d.records) objects f.whole);
  }

-- ---- types of objects

pub object_back : (records : List Record) (count at : ℕ) (t : CType) → is_object count t ≡ true → is_object (length records) t ≡ true
    → object_at records count at t ≡ Ok t
unfolding object_at
object_back records count at t c l = rw (c, l) refl

counted_back : (records : List Record) (at : ℕ) (u : CType) (n : ℕ) → 1 ≤ n → small records at (array u n) ≡ Ok (array u n)
    → counted_array records at u n ≡ Ok (array u n)
counted_back records at u zero l h = absurd (omega (arith, l))
counted_back records at u (suc n) l h = h

module _ (g : FileScope) (w : IsWholeFile g) where
  pub sized_back : (c : Lists) (at : ℕ) (shape : Shape) (value : Option (ℕ × Trees.Expression)) (t : CType) → Extends (part g c) g
      → is_object (length c.records) t ≡ true → IsSized (at_file_scope g) shape value t → sized_in c.records at shape value ≡ Ok t
  unfolding sized_in
  sized_back c at (closed u) value t p o h = ap ok (sym h)
  sized_back c at (open_array u) None t p o h = absurd h
  sized_back c at (open_array u) (Some value) t p o h =
      let same = size_same g w.whole [] c t p o in
      let bytes = h.2.bytes in
      let k = small_back c.records (first value.1) t (omega (arith, same, bytes)) h.2.parts in
      counted_back c.records (first value.1) u (length_of u (texts_of value.1) value.1) h.1 (subst (λ t. small c.records (first value.1) t ≡ Ok t) h.0 k)
      ∙ ap ok (sym h.0)

  pub closed_sized : (records : List Record) (at : ℕ) (t : CType) (value : Option (ℕ × Trees.Expression)) → sized_in records at (closed t) value ≡ Ok t
  unfolding sized_in
  closed_sized records at t value = refl

  -- ---- the declarator, up to its type

  pub record Prepared (c : Lists) (d : Trees.InitDeclarator) (x : Spelling) (from : ℕ) (base : CType) (shape : Shape) (kind : MentionKind) (t : CType)
      (rest : List Step) : Type 0 where
    pub steps : List Derivation
    pub middle : Lists
    pub lists : Lists
    pub is : derivations d.declarator (at_file_scope (part g c)) ≡ Ok (steps, part g middle)
    pub extends : Extends (part g middle) g
    pub shape_is : derived middle.records steps base ≡ Ok shape
    pub said : with_mention (at_file_scope (part g middle)) (mentions_in (part g c)) kind t (first_declarator d.declarator x.from) (part g middle)
        ≡ part g lists
    pub records : lists.records ≡ middle.records
    pub complete : ended g.ends x.from ≤ length lists.records
    pub ready : IsReady g lists (behind_type g d x from rest)
    pub first : (b : Bound) → b.name ≡ x.text → b.from ≡ from → IsBound (at_file_scope g) b → ((v : ℕ) → b.entity ≢ enumerator v)
        → is_first g x ≡ is_none (declared_among lists.names x.text)

  pub prepared : (types : List (List ℕ)) (c : Lists) (d : Trees.InitDeclarator) (x : Spelling) (from : ℕ) (base : CType) (shape : Shape)
      (kind : MentionKind) (t : CType) (rest : List Step) → IsDeclarator types d.declarator → IsReady g c (steps_of_declarator g d x from rest)
      → Declares (at_file_scope g) d.declarator base shape → IsMentioned (at_file_scope g) kind t (first_declarator d.declarator x.from)
      → Prepared c d x from base shape kind t rest
  prepared types c d x from base shape kind t rest formed ready h m =
      let s = ready.steps in
      let follows = s.1.0 in
      let z = complete_declarator g w.whole [] d.declarator (at_file_scope g) c base shape (λ x e i. cc)
      (record { extends = ready.filed.extends; follows = follows.1 }) h in
      let kept = keep_steps g.untagged types d.declarator (at_file_scope (part g c)) refl (λ e. formed) (z.steps, part g z.lists) z.is in
      let filed = keeps_filed g c z.lists false _ ready.filed z.after.extends kept in
      let y = mentioned g [] (at_file_scope g) c z.lists (At (walk_of_declarator g.untagged d.declarator)) (mentions_in (part g c)) kind t
      (first_declarator d.declarator x.from) m z.after in
      let lists = y.0 in
      let names : z.lists.names ≡ lists.names = ap (λ (f : FileScope). f.names) y.1 in
      let objects : z.lists.objects ≡ lists.objects = ap (λ (f : FileScope). f.objects) y.1 in
      let functions : z.lists.functions ≡ lists.functions = ap (λ (f : FileScope). f.functions) y.1 in
      let filed = same_filed g z.lists lists filed y.3.extends names (sym y.2) objects functions in
      let n = y.3.names in
      let r = y.3.records in
      let o = y.3.objects in
      let looked = follows.0 in
      let steps : AreSteps g (length lists.names) (length lists.records) (length lists.objects) (length lists.functions) (behind_type g d x from rest) =
      steps_at g _ _ _ (length c.functions) (length lists.names) (length lists.records) (length lists.objects) (length lists.functions)
      (behind_type g d x from rest) (sym n) (sym r) (sym o) (sym (ap length y.3.functions)) s.1.1 in
      record {
        steps = z.steps;
        middle = z.lists;
        lists = lists;
        is = z.is;
        extends = z.after.extends;
        shape_is = z.derive z.lists z.after.extends (omega arith);
        said = y.1;
        records = y.2;
        complete = omega (arith, looked, r);
        ready = record { filed = filed; steps = steps };
        first = λ b e f binds proper.
            let next = next_bound g w lists b (subst (λ from. Rattle.c_checking_laws.proofs.CompleteWalk.IsNamedFrom g.names (length lists.names) from) (sym f)
            (named lists (events (At (walk_of_initial g.untagged g.objects d.value)) ∷ rest) steps)) binds in
            first_same g w c lists (length c.records) x b ready.filed.extends filed.extends
            (kept.names.0, sym names ∙ kept.names.1, kept.names.2) s.0.0 s.0.1 e next proper;
      }
    where
      named : (m : Lists) (more : List Step)
          → AreSteps g (length m.names) (length m.records) (length m.objects) (length m.functions)
          (an_own (entity_at g.names from) (is_first g x) (first_declarator d.declarator x.from) ∷ events (At (a_name from ∷ [])) ∷ more)
          → Rattle.c_checking_laws.proofs.CompleteWalk.IsNamedFrom g.names (length m.names) from
      named m more s = s.1.0.0

  pub joined : (c m : Lists) (d : Trees.InitDeclarator) (x : Spelling) (steps : List Derivation) (shape : Shape) (t : CType) (words : Storage) (base : CType)
      (from nodes : ℕ) → derivations d.declarator (at_file_scope (part g c)) ≡ Ok (steps, part g m) → derived m.records steps base ≡ Ok shape
      → sized_in m.records x.from shape d.value ≡ Ok t → declarator_named (part g c) words base d from nodes (Some x)
      ≡ declare_as words (mentions_in (part g c)) (first_declarator d.declarator x.from) from x t d nodes (part g m)
  joined c m d x steps shape t words base from nodes a k s = rw (a, k, s) refl
