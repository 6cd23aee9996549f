-- Where a declarator of the file scope stops, with all that it declares, a rule is broken (C99 6.7, 6.9).
use Rattle.std.proofs.Common.{◌≡◌, ℕ, ◌+◌, ◌≤◌, true, false, refl, sym, ap, ◌∙◌, subst, List, [], ◌∷◌, ◌++◌, length, inl, inr, arith}
use Rattle.std.proofs.Common.{append-nil}
use Rattle.std.specs.Prelude.{◌⊎◌, map, Some, None, Ok, Err, slice_get}
use Rattle.c_types.specs.Types.{CType}
use Rattle.c_ast.specs.declared.words.Spelling.{Spelling}
use Rattle.c_ast.specs.Trees
use Rattle.c_ast.specs.Places.{first_declarator}
use Rattle.c_typed.specs.Conversions.{is_function}
use Rattle.c_typed.specs.declared.program.MentionKind.{MentionKind}
use Rattle.c_typed.specs.declared.program.MentionKind.TheVariants.{Object, Named}
use Rattle.c_erasure.specs.Broken.{Fault, IsBrokenWithin}
use Rattle.c_erasure.specs.BrokenFiles.{IsBrokenFileDeclarator}
use Rattle.c_erasure.specs.Declarators.{declared_name, Shape}
use Rattle.c_erasure.specs.Erasure.{Declares}
use Rattle.c_erasure.specs.Files.{may_stand_in_file}
use Rattle.c_erasure.specs.Literals.{literals_of_value}
use Rattle.c_erasure.specs.Marks.{Mark, a_name, marks_of_declarator, marks_of_initial, ends_in}
use Rattle.c_erasure.specs.MentionPlaces.{spoken_of_declarator}
use Rattle.c_erasure.specs.Scopes.{FileScope, AnObject, at_file_scope, ended}
use Rattle.c_erasure.specs.Specifiers.{Storage, a_typedef}
use Rattle.c_erasure.specs.Checking.Answers.{◌>>=◌}
use Rattle.c_erasure.specs.Checking.Declaring.{Derivation, derived, with_mention, mentions_in, object_at}
use Rattle.c_erasure.specs.Checking.Files.{library_named, declare_typedef, declare_function, declare_object, without_value, declare_as, declarator_named}
use Rattle.c_erasure.specs.Checking.Finding.{complete, derivations}
use Rattle.c_erasure.specs.Checking.Statements.{sized_in}
use Rattle.c_checking_laws.proofs.Adding.{Adds, mention_before}
use Rattle.c_checking_laws.proofs.Agreement.{IsGrown, AreBegun}
use Rattle.c_checking_laws.proofs.Declared.{before_mention, mentioned}
use Rattle.c_checking_laws.proofs.Derived.{object_is}
use Rattle.c_checking_laws.proofs.Extends.{Extends, itself, further}
use Rattle.c_checking_laws.proofs.FaultDeclaring.{object_fault}
use Rattle.c_checking_laws.proofs.FaultPremises.{IsPrepared, left, right, IsDeclaratorTimely, AreKnown}
use Rattle.c_checking_laws.proofs.FaultAdditions.{of_declarator, behind_name}
use Rattle.c_checking_laws.proofs.FaultResults.{Up, bound_err, chosen_err}
use Rattle.c_checking_laws.proofs.Within.{Additions, both, within_all, within_said}
use Rattle.c_checking_laws.proofs.FaultSteps.{read_steps}
use Rattle.c_checking_laws.proofs.FaultTypes.{within_broken}
use Rattle.c_checking_laws.proofs.Faults.{faults_steps}
use Rattle.c_checking_laws.proofs.FoundTypes.{FoundSteps}
use Rattle.c_checking_laws.proofs.Growth.{grow_steps}
use Rattle.c_checking_laws.proofs.Sound.{sound_steps}
use Rattle.c_checking_laws.proofs.Settled.{object_whole}
use Rattle.c_checking_laws.proofs.WholeFiles.FileScopes.{MayDeclare, adds_continues}
use Rattle.c_checking_laws.proofs.WholeFiles.Keeping.{keep_steps}
use Rattle.c_checking_laws.proofs.WholeFiles.Kept.{Keeps, keeps_mention}
use Rattle.c_checking_laws.proofs.WholeFiles.Locals.{IsSizedOver, sized_so}
use Rattle.c_checking_laws.proofs.WholeFiles.DeclaratorSteps.{MayDeclareIt}
use Rattle.c_checking_laws.proofs.WholeFiles.Known.{IsKnown, none_new}
use Rattle.c_checking_laws.proofs.WholeFiles.Stepping.{found_step}
use Rattle.c_checking_units.proofs.FirstStops.Clear.{AreFresh}
use Rattle.c_checking_units.proofs.FirstStops.UpTo.{Exactly, up_to_first, up_to_exactly, up_to_within, exactly_adds}
use Rattle.c_checking_units.proofs.FirstStops.Behind.{StopsIn, GoesUpTo, stops_there, stops_later, stops_of}
use Rattle.c_checking_units.proofs.FirstStops.DeclaratorStops.{ruled_here, sized_fault, sized_here, typedef_stops, function_stops, no_typedef}
use Rattle.c_checking_units.proofs.FirstStops.DeclaratorStops.{by_storage, declared_as}
use Rattle.c_checking_units.proofs.FirstStops.ObjectStops.{IsValueTimely, of_initial, object_stops}
use Rattle.c_checking_units.proofs.FirstStops.Tests.{AreOwnFunctions}

module _ (untagged : ℕ → List ℕ) (types : List (List ℕ)) (nodes_at : ℕ → ℕ) (ends : List ℕ) where
  -- what is asked of the file and of a declarator; its name is in scope from a byte on
  pub record MayStop (f : FileScope) (d : Trees.InitDeclarator) (x : Spelling) (from nodes : ℕ) : Type 0 where
    pub may : MayDeclareIt untagged types nodes_at f d x from nodes
    pub prepared : IsPrepared untagged ends f [] [] false
        (marks_of_declarator untagged d.declarator ++ a_name from ∷ marks_of_initial untagged d.value)
    pub timely : IsDeclaratorTimely untagged ends false (length f.records) d.declarator
    -- the name asks for the records before it
    pub asks : AreKnown untagged ends (length f.records + length (ends_in (marks_of_declarator untagged d.declarator))) x.from
    pub value_timely : IsValueTimely untagged types nodes_at ends (length f.records + length (ends_in
        (marks_of_declarator untagged d.declarator))) d.value
    pub own_functions : AreOwnFunctions f.names
    pub fresh : AreFresh f (first_declarator d.declarator x.from ∷ literals_of_value d.value)
    pub from_is : (v : ℕ × Trees.Expression) → d.value ≡ Some v → from ≡ v.0

  module _ (before : List ℕ) (f : FileScope) (words : Storage) (base : CType) (d : Trees.InitDeclarator) (x : Spelling) (from nodes : ℕ)
      (may : MayStop f d x from nodes) (k : IsKnown nodes_at before none_new none_new f) (name : declared_name d.declarator ≡ Some x)
      (fault : Fault) where
    abbrev place : ℕ
    place = first_declarator d.declarator x.from

    abbrev bytes : List ℕ
    bytes = place ∷ literals_of_value d.value

    abbrev own : Additions
    own = behind_name untagged place d.declarator

    abbrev rest : Additions
    rest = of_initial untagged place from d.value

    abbrev all : Additions
    all = both own rest

    abbrev own_marks : List Mark
    own_marks = marks_of_declarator untagged d.declarator

    abbrev Is : FileScope → Type 0
    Is g = IsBrokenFileDeclarator g words base d from fault

    before_name : IsPrepared untagged ends f [] [] false own_marks
    before_name = left untagged ends own_marks (a_name from ∷ marks_of_initial untagged d.value) may.prepared

    module _ (steps : List Derivation × FileScope) (is_steps : derivations d.declarator (at_file_scope f) ≡ Ok steps) where
      found : FoundSteps untagged (at_file_scope f) d.declarator steps
      found = sound_steps untagged d.declarator (at_file_scope f) may.may.in_range before_name.ready steps is_steps

      steps_reach : GoesUpTo all f steps.1
      steps_reach = record {
        continues = adds_continues found.grew.extends (grow_steps untagged d.declarator (at_file_scope f) may.may.same steps is_steps);
        up_to = up_to_first own rest (up_to_within own (within_said place (of_declarator untagged d.declarator)
            (within_all [] (grow_steps untagged d.declarator (at_file_scope f) may.may.same steps is_steps) tt)) found.grew.settled);
      }

      abbrev said : MentionKind → CType → FileScope
      said kind t = with_mention (at_file_scope f) (mentions_in f) kind t place steps.1

      said_extends : (kind : MentionKind) (t : CType) → Extends steps.1 (said kind t)
      said_extends kind t = before_mention (at_file_scope f) steps.1 (said kind t) (mentions_in f) kind t place (itself (said kind t))

      said_grown : (kind : MentionKind) (t : CType) → IsGrown f false own_marks (said kind t)
      said_grown kind t = mentioned (at_file_scope f) (mentions_in f) kind t place found.grew

      -- all names are in scope before that of the declarator
      said_begun : (kind : MentionKind) (t : CType) → AreBegun (said kind t).names from
      said_begun kind t =
          (right untagged ends own_marks (a_name from ∷ marks_of_initial untagged d.value) may.prepared (said_grown kind t)).begun refl 0 from refl

      said_kept : (kind : MentionKind) (t : CType) → Keeps f false own_marks (said kind t)
      said_kept kind t =
          keeps_mention (at_file_scope f) (mentions_in f) kind t place
          (keep_steps untagged types d.declarator (at_file_scope f) may.may.same (λ i. may.may.formed) steps is_steps)

      said_adds : (kind : MentionKind) (t : CType) → Adds f false false false own_marks (place ∷ spoken_of_declarator d.declarator) [] (said kind t)
      said_adds kind t = mention_before (at_file_scope f) kind t place (grow_steps untagged d.declarator
          (at_file_scope f) may.may.same steps is_steps)

      said_exactly : (kind : MentionKind) (t : CType) → Exactly f own (said kind t)
      said_exactly kind t = exactly_adds [] (said_adds kind t) tt (said_grown kind t).settled

      said_reaches : (kind : MentionKind) (t : CType) → GoesUpTo all f (said kind t)
      said_reaches kind t = record {
        continues = adds_continues (further found.grew.extends (said_extends kind t)) (said_adds kind t);
        up_to = up_to_first own rest (up_to_exactly (said_exactly kind t));
      }

      said_known : (kind : MentionKind) (t : CType) → IsKnown nodes_at before none_new none_new (said kind t)
      said_known kind t =
          subst (λ made. IsKnown nodes_at made none_new none_new (said kind t)) (append-nil before)
          ((found_step nodes_at f (said kind t) (λ h. Unit {0}) (said_grown kind t) (said_kept kind t) (said_adds kind t) (λ h e. tt)).known before k)

      no_firsts : (more : List AnObject) → map (λ o. o.first) more ≡ [] → more ≡ []
      no_firsts [] e = refl
      no_firsts (o ∷ more) e = cc

      same_objects : (kind : MentionKind) (t : CType) → (said kind t).objects ≡ f.objects
      same_objects kind t =
          let o = (said_adds kind t).objects in
          o.1 ∙ ap (λ z. f.objects ++ z) (no_firsts o.0 o.2) ∙ append-nil f.objects

      -- names that the declarator itself declares are enumerators
      pub said_own : (kind : MentionKind) (t : CType) → AreOwnFunctions (said kind t).names
      said_own kind t n b e m u is = by_part (Rattle.c_checking_laws.proofs.Extends.one_of_both f.names names.0 n b (subst
          (λ all. slice_get all n ≡ Some b) names.1 e))
        where
          names : (more : List Rattle.c_erasure.specs.Scopes.Bound) × ((said kind t).names ≡ f.names ++ more)
              × ((k : ℕ) (b : Rattle.c_erasure.specs.Scopes.Bound) → slice_get more k ≡ Some b → Rattle.c_checking_laws.proofs.WholeFiles.Kept.IsAnEnumerator b)
          names = (said_kept kind t).names

          by_part : (slice_get f.names n ≡ Some b) ⊎ ((j : ℕ) × (n ≡ length f.names + j) × (slice_get names.0 j ≡ Some b))
              → library_named b.name ≡ None
          by_part (inl e) = may.own_functions n b e m u is
          by_part (inr e) = let v = names.2 e.0 b e.2 in let i = sym is ∙ v.1 in cc

      said_fresh : (kind : MentionKind) (t : CType) → AreFresh (said kind t) bytes
      said_fresh kind t = record {
        apart = may.fresh.apart;
        none_at = λ n o e i. may.fresh.none_at n o (subst (λ all. slice_get all n ≡ Some o) (same_objects kind t) e) i;
      }

      module _ (shape : Shape) (is_shape : derived steps.1.records steps.0 base ≡ Ok shape) (t : CType)
          (is_sized : sized_in steps.1.records x.from shape d.value ≡ Ok t) where
        declares : (g : FileScope) → Extends steps.1 g → Declares (at_file_scope g) d.declarator base shape
        declares g p = found.holds g p steps.1.records p.records.0 p.records.1 base shape is_shape

        over : IsSizedOver steps.1.records shape d.value t
        over = sized_so steps.1.records x.from shape d.value t is_sized

        as_typedef : without_value x.from d.value (declare_typedef (said Named t) x from t) ≡ Err fault → words ≡ a_typedef → StopsIn all f Is
        as_typedef h e =
            let g = said Named t in
            stops_there all f g Is (said_reaches Named t)
            (subst (λ words. IsBrokenFileDeclarator g words base d from fault) (sym e)
            (typedef_stops g base d x t name shape (declares g (said_extends Named t)) (sized_here
            (at_file_scope g) shape d.value t over) from (said_begun Named t) fault h))

        as_function : MayDeclare words → is_function t ≡ true
            → without_value x.from d.value (declare_function (said Named t) words x place from t nodes (library_named x.text)) ≡ Err fault
            → StopsIn all f Is
        as_function m is_one h =
            let g = said Named t in
            stops_there all f g Is (said_reaches Named t)
            (function_stops g base d x t name shape (declares g (said_extends Named t)) (sized_here (at_file_scope g) shape d.value t over)
            from (said_begun Named t) fault nodes_at before (said_known Named t) (said_own Named t) words m is_one place nodes h)

        as_object : MayDeclare words → is_function t ≡ false
            → (object_at steps.1.records (complete (at_file_scope steps.1) x.from) x.from t
            >>= λ u. declare_object (said Object u) words x place from u d.value) ≡ Err fault → StopsIn all f Is
        as_object m is_none h =
            let grew = found.grew in
            let many : length f.records + length (ends_in own_marks) ≤ length steps.1.records = let c = grew.counted in omega (arith, c) in
            let known : ended steps.1.ends x.from ≤ length steps.1.records =
            let a = subst (λ ends. ended ends x.from ≤ length f.records + length (ends_in own_marks)) (sym (grew.extends.ends
            ∙ before_name.ends_are)) may.asks in
            omega (arith, a, many) in
            bound_err (object_at steps.1.records (complete (at_file_scope steps.1) x.from) x.from t) _ fault (StopsIn all f Is) h
            (λ e.
            let o = object_fault steps.1.records (complete (at_file_scope steps.1) x.from) x.from t known fault e in
            stops_there all f steps.1 Is steps_reach
            (ruled_here steps.1 words base d x t from fault name shape (declares steps.1 (itself steps.1)) (sized_here
            (at_file_scope steps.1) shape d.value t over)
            (inr (inr (inl (o.0, no_typedef words m, is_none, o.1))))))
            (λ u e h.
            let same : t ≡ u = (object_is steps.1.records (complete (at_file_scope steps.1) x.from) x.from t u e).1 in
            let whole = object_whole steps.1.records (complete (at_file_scope steps.1) x.from) x.from t u e in
            let g = said Object u in
            let w = said_grown Object u in
            let prepared = right untagged ends own_marks (a_name from ∷ marks_of_initial untagged d.value) may.prepared w in
            stops_later own rest Is (said_reaches Object u).continues (said_exactly Object u)
            (object_stops untagged types nodes_at ends before g words m base d x place from (length f.records + length
            (ends_in own_marks)) u name shape
            (λ h p. declares h (further (said_extends Object u) p)) (subst (IsSizedOver steps.1.records shape d.value) same over)
            (subst (λ t. is_function t ≡ false) same is_none) whole (said_known Object u)
            (λ n o e. may.may.objects_before n o (subst (λ all. slice_get all n ≡ Some o) (same_objects Object u) e))
            (λ n q e. may.may.functions_before n q (subst (λ all. slice_get all n ≡ Some q) (said_adds Object u).functions e)) fault
            (record {
              formed = may.may.value_formed;
              ends_there = f.ends;
              complete = length f.records + length (ends_in own_marks) + length (ends_in (marks_of_initial untagged d.value));
              in_range = may.may.value_in_range;
              prepared = prepared;
              many = many;
              timely = may.value_timely;
              fresh = said_fresh Object u;
              from_is = may.from_is;
            }) h))

        by_words : (words ≡ a_typedef) ⊎ MayDeclare words → declare_as words (mentions_in f) place from x t d nodes steps.1 ≡ Err fault
            → StopsIn all f Is
        by_words (inl e) h = as_typedef (subst (λ words. declare_as words (mentions_in f) place from x t d nodes steps.1 ≡ Err fault) e h) e
        by_words (inr m) h =
            chosen_err (is_function t) _ _ fault (StopsIn all f Is) (sym (declared_as words m (mentions_in f) place from x t d nodes steps.1) ∙ h)
            (λ b h. as_function m b h) (λ b h. as_object m b h)

    pub declarator_stops : may_stand_in_file words ≡ true → declarator_named f words base d from nodes (Some x) ≡ Err fault → StopsIn all f Is
    declarator_stops stands h =
        let s = at_file_scope f in
        bound_err (derivations d.declarator s) _ fault (StopsIn all f Is) h
        (λ e. stops_of (of_declarator untagged d.declarator) all (λ n o e i. i)
        (λ g w settled. up_to_first own rest (up_to_within own (within_said place (of_declarator untagged d.declarator) w) settled))
        (λ s. IsBrokenWithin d.declarator s fault) Is
        (faults_steps untagged ends (Up s (of_declarator untagged d.declarator)) d.declarator s (length f.records) may.may.in_range before_name (omega arith) may.timely
        (λ g w. w) fault e)
        (λ g p h. inl (within_broken d.declarator (at_file_scope g) base fault h)))
        (λ steps e h.
        let w = read_steps untagged ends d.declarator s (length f.records) may.may.in_range before_name.ready before_name.ends_are
        (omega arith) may.timely steps e in
        bound_err (derived steps.1.records steps.0 base) _ fault (StopsIn all f Is) h
        (λ i. stops_there all f steps.1 Is (steps_reach steps e) (inl (w.broken steps.1 (itself steps.1) base fault i)))
        (λ shape i h. bound_err (sized_in steps.1.records x.from shape d.value) _ fault (StopsIn all f Is) h
        (λ j. stops_there all f steps.1 Is (steps_reach steps e)
        (inr (
          x,
          shape,
          name,
          (found steps e).holds steps.1 (itself steps.1) steps.1.records (itself steps.1).records.0
              (itself steps.1).records.1 base shape i,
          inl (sized_fault (at_file_scope steps.1) x.from shape d.value fault j),
        )))
        (λ t j h. by_words steps e shape i t j (by_storage words stands) h)))
