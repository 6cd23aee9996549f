-- Declarators of the file scope: what each adds to the file, and what it declares (C99 6.7, 6.9).
use Rattle.std.proofs.Common.{◌≡◌, ◌≢◌, ℕ, ◌+◌, ◌≤◌, ◌<◌, true, false, refl, sym, ap, ◌∙◌, subst, cond, List, [], ◌∷◌, ◌++◌, length}
use Rattle.std.proofs.Common.{append-nil, arith, inl, inr}
use Rattle.std.specs.Prelude.{◌⊎◌, map, Option, Some, None, Ok, slice_get, is_none}
use Rattle.c_types.specs.Types.{CType}
use Rattle.c_ast.specs.declared.words.Spelling.{Spelling}
use Rattle.c_ast.specs.Trees
use Rattle.c_ast.specs.Places.{first_declarator}
use Rattle.c_ast.specs.WellFormed.{IsDeclarator, IsValue}
use Rattle.c_typed.specs.Conversions.{is_function}
use Rattle.c_typed.specs.declared.operators.LibraryFunction.{LibraryFunction}
use Rattle.c_typed.specs.declared.program.MentionKind.{MentionKind}
use Rattle.c_typed.specs.declared.program.MentionKind.TheVariants.{Object, Named}
use Rattle.c_erasure.specs.Declarators.{Shape}
use Rattle.c_erasure.specs.Erasure.{IsBound}
use Rattle.c_erasure.specs.Files.{may_stand_in_file, bound, object_how, is_first, IsObject, IsFunction, IsFileDeclarator}
use Rattle.c_erasure.specs.Literals.{literals_of_value}
use Rattle.c_erasure.specs.Marks.{Mark, a_name, marks_of_declarator, marks_of_initial, ends_in, scope_beginnings}
use Rattle.c_erasure.specs.MentionPlaces.{spoken_of_declarator, spoken_by_value}
use Rattle.c_erasure.specs.Scopes.{FileScope, Bound, declares, Entity, enumerator, an_object, a_function, a_library_function, AnObject, AFunction}
use Rattle.c_erasure.specs.Scopes.{at_file_scope, ended}
use Rattle.c_erasure.specs.Specifiers.{Storage, no_storage, a_typedef, is_extern, is_static, is_auto, is_register, several}
use Rattle.c_erasure.specs.Checking.Answers.{Answer, ◌>>=◌}
use Rattle.c_erasure.specs.Checking.Declaring.{declared_among, with_mention, mentions_in, Derivation, derived, object_at}
use Rattle.c_erasure.specs.Checking.Files.{library_named, declare_typedef, declare_function, declare_object, without_value, declare_as, declarator_named}
use Rattle.c_erasure.specs.Checking.Finding.{complete, derivations}
use Rattle.c_erasure.specs.Checking.Statements.{sized_in}
use Rattle.c_checking_laws.proofs.Adding.{Adds, mention_before}
use Rattle.c_checking_laws.proofs.Agreement as Agreement
use Rattle.c_checking_laws.proofs.Agreement.{Ready, IsGrown}
use Rattle.c_checking_laws.proofs.Declared.{mentioned}
use Rattle.c_checking_laws.proofs.Extends.{Extends, further}
use Rattle.c_checking_laws.proofs.Growth.{grow_steps}
use Rattle.c_checking_laws.proofs.InRange.{IsDeclaratorInRange}
use Rattle.c_checking_laws.proofs.Results.{bound_ok, chosen}
use Rattle.c_checking_laws.proofs.Sound.{sound_steps}
use Rattle.c_checking_laws.proofs.Settled.{object_whole}
use Rattle.c_checking_laws.proofs.WholeFiles.FileDeclarators.{typedef_found, function_found}
use Rattle.c_checking_laws.proofs.WholeFiles.FileObjectDeclarators.{object_found}
use Rattle.c_checking_laws.proofs.WholeFiles.FileScopes.{Continues, MayDeclare}
use Rattle.c_checking_laws.proofs.WholeFiles.Keeping.{keep_steps}
use Rattle.c_checking_laws.proofs.WholeFiles.Kept.{Keeps, keeps_mention}
use Rattle.c_checking_laws.proofs.WholeFiles.LocalObjects.{IsValueInRange}
use Rattle.c_checking_laws.proofs.WholeFiles.Known.{IsKnown, none_new}
use Rattle.c_checking_laws.proofs.WholeFiles.Stepping.{IsFinal, Stepped, stepped_then, found_step, said_otherwise}
use Rattle.c_checking_laws.proofs.WholeFiles.ObjectSteps.{stands_for}
use Rattle.c_checking_laws.proofs.WholeFiles.ObjectDeclared.{object_step}
use Rattle.c_checking_laws.proofs.WholeFiles.FunctionDeclared.{typedef_step, library_step, function_step}
use Rattle.c_checking_laws.proofs.WholeFiles.FirstNames.{first_is}

no_value : {A : Type 0} (at : ℕ) (o : Option (ℕ × Trees.Expression)) (r : Answer A) (z : A) → without_value at o r ≡ Ok z
    → (o ≡ None) × (r ≡ Ok z)
no_value at None r z h = (refl, h)
no_value at (Some value) r z h = cc

no_firsts : (more : List AnObject) → map (λ o. o.first) more ≡ [] → more ≡ []
no_firsts [] e = refl
no_firsts (o ∷ more) e = cc

-- ---- storage classes that may stand there

by_storage : (words : Storage) → may_stand_in_file words ≡ true → (words ≡ a_typedef) ⊎ MayDeclare words
by_storage a_typedef m = inl refl
by_storage no_storage m = inr tt
by_storage is_extern m = inr tt
by_storage is_static m = inr tt
by_storage is_auto m = cc
by_storage is_register m = cc
by_storage several m = cc

declared_as : (words : Storage) → MayDeclare words → (before place from : ℕ) (x : Spelling) (t : CType) (d : Trees.InitDeclarator) (nodes : ℕ) (f : FileScope)
    → declare_as words before place from x t d nodes f
    ≡ cond (is_function t) (without_value x.from d.value (declare_function (with_mention (at_file_scope f) before Named t place f) words x place from t nodes
    (library_named x.text)))
    (object_at f.records (complete (at_file_scope f) x.from) x.from t
    >>= λ u. declare_object (with_mention (at_file_scope f) before Object u place f) words x place from u d.value)
declared_as no_storage m before place from x t d nodes f = refl
declared_as is_extern m before place from x t d nodes f = refl
declared_as is_static m before place from x t d nodes f = refl
declared_as a_typedef m before place from x t d nodes f = absurd m
declared_as is_auto m before place from x t d nodes f = absurd m
declared_as is_register m before place from x t d nodes f = absurd m
declared_as several m before place from x t d nodes f = absurd m

is_declared : (h : FileScope) (words : Storage) → MayDeclare words → (base : CType) (d : Trees.InitDeclarator) (x : Spelling) (place from : ℕ)
    → IsFunction h words base d x place from ⊎ IsObject h words base d x place from → IsFileDeclarator h words base d x place from
is_declared h no_storage m base d x place from i = i
is_declared h is_extern m base d x place from i = i
is_declared h is_static m base d x place from i = i
is_declared h a_typedef m base d x place from i = absurd m
is_declared h is_auto m base d x place from i = absurd m
is_declared h is_register m base d x place from i = absurd m
is_declared h several m base d x place from i = absurd m

module _ (untagged : ℕ → List ℕ) (types : List (List ℕ)) (nodes_at : ℕ → ℕ) where
  -- what is asked of the file and the declarator; the name is in scope from a byte on
  pub record MayDeclareIt (f : FileScope) (d : Trees.InitDeclarator) (x : Spelling) (from nodes : ℕ) : Type 0 where
    pub same : f.untagged ≡ untagged
    pub formed : IsDeclarator types d.declarator
    pub value_formed : IsValue types d.value
    pub in_range : IsDeclaratorInRange d.declarator
    pub value_in_range : IsValueInRange f.ends
        (length f.records + length (ends_in (marks_of_declarator untagged d.declarator)) + length (ends_in (marks_of_initial untagged d.value))) d.value
    pub ready : Ready (at_file_scope f) (marks_of_declarator untagged d.declarator ++ a_name from ∷ marks_of_initial untagged d.value)
    pub counted : nodes ≡ nodes_at (first_declarator d.declarator x.from)
    pub objects_before : (n : ℕ) (o : AnObject) → slice_get f.objects n ≡ Some o → o.first < first_declarator d.declarator x.from
    pub functions_before : (n : ℕ) (g : AFunction) → slice_get f.functions n ≡ Some g → g.first < first_declarator d.declarator x.from
    pub begun : (k : ℕ) (b : Bound) → slice_get f.names k ≡ Some b → b.from ≤ x.from
    pub less : x.from < from

  module _ (before : List ℕ) (f : FileScope) (d : Trees.InitDeclarator) (x : Spelling) (from nodes : ℕ) (may : MayDeclareIt f d x from nodes)
      (k : IsKnown nodes_at before none_new none_new f) (steps : List Derivation × FileScope) (is_steps : derivations d.declarator (at_file_scope f) ≡ Ok steps)
    where
      abbrev place : ℕ
      place = first_declarator d.declarator x.from

      abbrev own_marks : List Mark
      own_marks = marks_of_declarator untagged d.declarator

      abbrev said : MentionKind → CType → FileScope
      said kind t = with_mention (at_file_scope f) (mentions_in f) kind t place steps.1

      before_name : Ready (at_file_scope f) own_marks
      before_name = Agreement.left own_marks (a_name from ∷ marks_of_initial untagged d.value) may.ready

      grown : (kind : MentionKind) (t : CType) → IsGrown f false own_marks (said kind t)
      grown kind t =
          mentioned (at_file_scope f) (mentions_in f) kind t place
          (sound_steps untagged d.declarator (at_file_scope f) may.in_range before_name steps is_steps).grew

      kept_so : (kind : MentionKind) (t : CType) → Keeps f false own_marks (said kind t)
      kept_so kind t =
          keeps_mention (at_file_scope f) (mentions_in f) kind t place
          (keep_steps untagged types d.declarator (at_file_scope f) may.same (λ i. may.formed) steps is_steps)

      adds : (kind : MentionKind) (t : CType) → Adds f false false false own_marks (place ∷ spoken_of_declarator d.declarator) [] (said kind t)
      adds kind t = mention_before (at_file_scope f) kind t place (grow_steps untagged d.declarator (at_file_scope f) may.same steps is_steps)

      -- the declarator without the name
      first_step : (kind : MentionKind) (t : CType)
          → Stepped nodes_at own_marks (place ∷ spoken_of_declarator d.declarator) [] [] f (λ h. Unit {0}) (said kind t)
      first_step kind t = found_step nodes_at f (said kind t) (λ h. Unit {0}) (grown kind t) (kept_so kind t) (adds kind t) (λ h e. tt)

      known_then : (kind : MentionKind) (t : CType) → IsKnown nodes_at before none_new none_new (said kind t)
      known_then kind t =
          subst (λ made. IsKnown nodes_at made none_new none_new (said kind t)) (append-nil before) ((first_step kind t).known before k)

      same_objects : (kind : MentionKind) (t : CType) → (said kind t).objects ≡ f.objects
      same_objects kind t =
          let o = (adds kind t).objects in
          o.1 ∙ ap (λ z. f.objects ++ z) (no_firsts o.0 o.2) ∙ append-nil f.objects

      objects_then : (kind : MentionKind) (t : CType) (n : ℕ) (o : AnObject) → slice_get (said kind t).objects n ≡ Some o → o.first < place
      objects_then kind t n o e = may.objects_before n o (subst (λ all. slice_get all n ≡ Some o) (same_objects kind t) e)

      functions_then : (kind : MentionKind) (t : CType) (n : ℕ) (g : AFunction) → slice_get (said kind t).functions n ≡ Some g → g.first < place
      functions_then kind t n g e = may.functions_before n g (subst (λ all. slice_get all n ≡ Some g) (adds kind t).functions e)

      is_the_first : (kind : MentionKind) (t : CType) (g h : FileScope) (others : List ℕ) (u : List Mark) (how : Rattle.c_erasure.specs.Scopes.How) (e : Entity)
          → map (λ b. b.from) g.names ≡ map (λ b. b.from) (said kind t).names ++ scope_beginnings (a_name from ∷ u) → IsFinal others h
          → Extends (said kind t) g → Extends g h → IsBound (at_file_scope h) (bound x from how e) → ((v : ℕ) → e ≢ enumerator v)
          → is_first h x ≡ is_none (declared_among (said kind t).names x.text)
      is_the_first kind t g h others u how e names final there later binds proper =
          let m = (kept_so kind t).names in
          first_is f (said kind t) g h x from u others how e final later names m.0 m.1 m.2 (further there later) may.begun may.less binds proper

      -- ---- typedefs

      abbrev Whole : (words : Storage) (base : CType) (value : Option (ℕ × Trees.Expression)) → (FileScope → Type 0) → FileScope → Type 0
      Whole words base value A g = Stepped nodes_at (own_marks ++ a_name from ∷ marks_of_initial untagged value)
          (place ∷ spoken_of_declarator d.declarator ++ spoken_by_value value) (place ∷ literals_of_value value) (literals_of_value value) f A g

      abbrev Is : (words : Storage) (base : CType) → FileScope → Type 0
      Is words base h = IsFileDeclarator h words base d x place from

      typedef_case : (base t : CType) (g : FileScope) → declarator_named f a_typedef base d from nodes (Some x) ≡ Ok g
          → without_value x.from d.value (declare_typedef (said Named t) x from t) ≡ Ok g → Whole a_typedef base d.value (Is a_typedef base) g
      typedef_case base t g whole h =
          let o = no_value x.from d.value (declare_typedef (said Named t) x from t) g h in
          let s = typedef_step nodes_at (said Named t) x place from t g o.1 in
          subst (λ value. Whole a_typedef base value (Is a_typedef base) g) (sym o.0)
          (subst (λ y. Stepped nodes_at (own_marks ++ a_name from ∷ []) y (place ∷ []) [] f (Is a_typedef base) g) refl
          (stepped_then nodes_at f (said Named t) g (first_step Named t) s.1
          (λ i c e a b. typedef_found untagged f base d x from nodes may.in_range before_name g whole i c.extends)))

      -- ---- functions

      function_case : (words : Storage) → MayDeclare words → (base : CType) (shape : Shape) → derived steps.1.records steps.0 base ≡ Ok shape → (t : CType)
          → sized_in steps.1.records x.from shape d.value ≡ Ok t → is_function t ≡ true → (g : FileScope)
          → without_value x.from d.value (declare_function (said Named t) words x place from t nodes (library_named x.text)) ≡ Ok g
          → Whole words base d.value (λ h. IsFunction h words base d x place from) g
      function_case words m base shape is_shape t is_sized is_fun g h =
          let o = no_value x.from d.value (declare_function (said Named t) words x place from t nodes (library_named x.text)) g h in
          subst (λ value. Whole words base value (λ h. IsFunction h words base d x place from) g) (sym o.0) (by_name (library_named x.text) refl o.1)
        where
          stands : (later : FileScope) → Continues g later
              → is_first later x ≡ is_none (declared_among (said Named t).names x.text) → IsFunction later words base d x place from
          stands later c first =
              function_found untagged f words m base d x from nodes may.in_range before_name steps is_steps shape is_shape t is_sized is_fun
              (stands_for nodes_at before (said Named t) x place (known_then Named t) (objects_then Named t) (functions_then Named t)) g h later c first

          by_name : (l : Option LibraryFunction) → library_named x.text ≡ l → declare_function (said Named t) words x place from t nodes l ≡ Ok g
              → Whole words base None (λ h. IsFunction h words base d x place from) g
          by_name None own h =
              let s = function_step nodes_at before (said Named t) words x place from t nodes
              (record { may = m; counted = may.counted; objects_before = objects_then Named t; functions_before = functions_then Named t })
              (known_then Named t) g h in
              stepped_then nodes_at f (said Named t) g (first_step Named t) s
              (λ i c e a b. stands i c
              (is_the_first Named t g i _ [] declares (a_function b.number t) s.names e s.continues.extends c.extends b.binds (λ v e. cc)))
          by_name (Some which) named h =
              let s = library_step nodes_at (said Named t) words x place from t which named g h in
              stepped_then nodes_at f (said Named t) g (first_step Named t) s
              (λ i c e a b. stands i c
              (is_the_first Named t g i _ [] declares (a_library_function which) s.names e s.continues.extends c.extends b (λ v e. cc)))

      -- ---- objects

      object_case : (words : Storage) → MayDeclare words → (base : CType) (shape : Shape) → derived steps.1.records steps.0 base ≡ Ok shape → (t : CType)
          → sized_in steps.1.records x.from shape d.value ≡ Ok t → (u : CType)
          → object_at steps.1.records (ended f.ends x.from) x.from t ≡ Ok u → (g : FileScope)
          → declare_object (said Object u) words x place from u d.value ≡ Ok g → Whole words base d.value (λ h. IsObject h words base d x place from) g
      object_case words m base shape is_shape t is_sized u is_object_type g h =
          let w = grown Object u in
          let c = w.counted in
          let counts : length f.records + length (ends_in own_marks) + length (ends_in (marks_of_initial untagged d.value))
          ≡ length (said Object u).records + length (ends_in (marks_of_initial untagged d.value)) = omega (arith, c) in
          let s = object_step untagged types nodes_at before (said Object u) words x place from u d.value (record {
            may = m;
            whole = object_whole steps.1.records (ended f.ends x.from) x.from t u is_object_type;
            same = (kept_so Object u).untagged ∙ may.same;
            formed = may.value_formed;
            in_range = subst (λ n. IsValueInRange (said Object u).ends n d.value) counts
                (subst (λ ends. IsValueInRange ends (length f.records + length (ends_in own_marks) + length (ends_in (marks_of_initial untagged d.value)))
                d.value) (sym w.extends.ends) may.value_in_range);
            ready = Agreement.right own_marks (a_name from ∷ marks_of_initial untagged d.value) may.ready w;
            objects_before = objects_then Object u;
            functions_before = functions_then Object u;
          }) (known_then Object u) g h in
          stepped_then nodes_at f (said Object u) g (first_step Object u) s.1
          (λ i c e a b. object_found untagged f d x u steps words base from may.in_range before_name is_steps shape is_shape t is_sized is_object_type g s.0
          s.1.continues i c b
          (is_the_first Object u g i _ (marks_of_initial untagged d.value) (object_how words d.value) (an_object b.number u) s.1.names e s.1.continues.extends
          c.extends b.binds (λ v e. cc)))

      -- ---- by the storage class

      either_case : (words : Storage) → MayDeclare words → (base : CType) (shape : Shape) → derived steps.1.records steps.0 base ≡ Ok shape → (t : CType)
          → sized_in steps.1.records x.from shape d.value ≡ Ok t → (g : FileScope)
          → cond (is_function t) (without_value x.from d.value (declare_function (said Named t) words x place from t nodes (library_named x.text)))
          (object_at steps.1.records (complete (at_file_scope steps.1) x.from) x.from t
          >>= λ u. declare_object (said Object u) words x place from u d.value) ≡ Ok g
          → Whole words base d.value (λ h. IsFunction h words base d x place from ⊎ IsObject h words base d x place from) g
      either_case words m base shape is_shape t is_sized g h =
          let ends = (sound_steps untagged d.declarator (at_file_scope f) may.in_range before_name steps is_steps).grew.extends.ends in
          chosen (is_function t) _ _ g (Whole words base d.value (λ h. IsFunction h words base d x place from ⊎ IsObject h words base d x place from) g) h
          (λ b h. said_otherwise nodes_at f g (function_case words m base shape is_shape t is_sized b g h) (λ i c e a. inl a))
          (λ b h.
          let u = bound_ok (object_at steps.1.records (complete (at_file_scope steps.1) x.from) x.from t) _ g h in
          let v : object_at steps.1.records (ended f.ends x.from) x.from t ≡ Ok u.0 =
          subst (λ ends. object_at steps.1.records (ended ends x.from) x.from t ≡ Ok u.0) ends u.1 in
          said_otherwise nodes_at f g (object_case words m base shape is_shape t is_sized u.0 v g u.2) (λ i c e a. inr a))

      by_words : (words : Storage) → (words ≡ a_typedef) ⊎ MayDeclare words → (base : CType) (shape : Shape) → derived steps.1.records steps.0 base ≡ Ok shape
          → (t : CType) → sized_in steps.1.records x.from shape d.value ≡ Ok t → (g : FileScope)
          → declarator_named f words base d from nodes (Some x) ≡ Ok g → declare_as words (mentions_in f) place from x t d nodes steps.1 ≡ Ok g
          → Whole words base d.value (Is words base) g
      by_words words (inl e) base shape is_shape t is_sized g whole h =
          subst (λ words. Whole words base d.value (Is words base) g) (sym e)
          (typedef_case base t g (subst (λ words. declarator_named f words base d from nodes (Some x) ≡ Ok g) e whole)
          (subst (λ words. declare_as words (mentions_in f) place from x t d nodes steps.1 ≡ Ok g) e h))
      by_words words (inr m) base shape is_shape t is_sized g whole h =
          said_otherwise nodes_at f g
          (either_case words m base shape is_shape t is_sized g (sym (declared_as words m (mentions_in f) place from x t d nodes steps.1) ∙ h))
          (λ i c e a. is_declared i words m base d x place from a)

  abbrev pub Declarator : FileScope → Storage → CType → Trees.InitDeclarator → Spelling → (from : ℕ) → FileScope → Type 0
  Declarator f words base d x from g = Stepped nodes_at (marks_of_declarator untagged d.declarator ++ a_name from ∷ marks_of_initial untagged d.value)
      (first_declarator d.declarator x.from ∷ spoken_of_declarator d.declarator ++ spoken_by_value d.value)
      (first_declarator d.declarator x.from ∷ literals_of_value d.value) (literals_of_value d.value) f
      (λ h. IsFileDeclarator h words base d x (first_declarator d.declarator x.from) from) g

  pub declarator_step : (before : List ℕ) (f : FileScope) (words : Storage) → may_stand_in_file words ≡ true → (base : CType) (d : Trees.InitDeclarator)
      (x : Spelling) (from nodes : ℕ) → MayDeclareIt f d x from nodes → IsKnown nodes_at before none_new none_new f → (g : FileScope)
      → declarator_named f words base d from nodes (Some x) ≡ Ok g → Declarator f words base d x from g
  declarator_step before f words m base d x from nodes may k g h =
      let steps = bound_ok (derivations d.declarator (at_file_scope f)) _ g h in
      let shape = bound_ok (derived steps.0.1.records steps.0.0 base) _ g steps.2 in
      let t = bound_ok (sized_in steps.0.1.records x.from shape.0 d.value) _ g shape.2 in
      by_words before f d x from nodes may k steps.0 steps.1 words (by_storage words m) base shape.0 shape.1 t.0 t.1 g h t.2
