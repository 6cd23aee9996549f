-- Where a declaration of the file scope stops, a rule is broken (C99 6.7, 6.9).
use Rattle.std.proofs.Common.{◌≡◌, ℕ, ◌+◌, ◌<◌, Bool, true, false, refl, sym, ap, ◌∙◌, subst, List, [], ◌∷◌, ◌++◌, length}
use Rattle.std.proofs.Common.{append-nil, append_assoc, arith, inl, inr}
use Rattle.std.specs.Prelude.{◌⊎◌, Some, Err, slice_get, ◌&&◌, not}
use Rattle.lay_base.specs.declared.faults.Rule.TheVariants as R
use Rattle.c_types.specs.Types.{CType}
use Rattle.c_ast.specs.Trees
use Rattle.c_ast.specs.Places.{first_specifiers}
use Rattle.c_erasure.specs.Broken.{Fault, ill_typed, AreBroken}
use Rattle.c_erasure.specs.BrokenFiles.{IsBrokenFileDeclaration}
use Rattle.c_erasure.specs.Erasure.{IsBase, IsOne}
use Rattle.c_erasure.specs.Files.{may_stand_in_file, declares_tag, DeclaresSomething}
use Rattle.c_erasure.specs.Marks.{Mark, marks_of_specifiers, marks_of_declarators, ends_in, scope_beginnings}
use Rattle.c_erasure.specs.MentionPlaces.{spoken_of_specifiers, spoken_of_declaration, spoken_of_declarators}
use Rattle.c_erasure.specs.Scopes.{FileScope, at_file_scope}
use Rattle.c_erasure.specs.Specifiers.{storage_of}
use Rattle.c_erasure.specs.Checking.Declaring.{base_kind}
use Rattle.c_erasure.specs.Checking.Files.{file_declaration, is_empty}
use Rattle.c_erasure.specs.Checking.Finding.{base_type, one_of}
use Rattle.c_checking_laws.proofs.FaultPremises.{IsPrepared, left, right, AreSpecifiersTimely}
use Rattle.c_checking_laws.proofs.FaultAdditions.{of_specifiers}
use Rattle.c_checking_laws.proofs.FaultResults.{Up, same_fault, bound_err, chosen_err}
use Rattle.c_checking_laws.proofs.Within.{Additions, both}
use Rattle.c_checking_laws.proofs.FaultTypes.{base_stops}
use Rattle.c_checking_laws.proofs.Faults.{faults_one}
use Rattle.c_checking_laws.proofs.Growth.{grow_base}
use Rattle.c_checking_laws.proofs.Sound.{sound_base}
use Rattle.c_checking_laws.proofs.WholeFiles.Keeping.{keep_base}
use Rattle.c_checking_laws.specs.TextOrder.TextOrder.{places_of_declarators, names_of_declarators}
use Rattle.c_checking_laws.proofs.WholeFiles.DeclarationItems.{AreDeclaratorsFit, MayDeclareIn}
use Rattle.c_checking_laws.proofs.WholeFiles.Known.{IsKnown, none_new}
use Rattle.c_checking_laws.proofs.WholeFiles.Rises.{passed, below_then, part_of}
use Rattle.c_checking_laws.proofs.WholeFiles.Stepping.{Stepped, stepped_then, no_step, found_step}
use Rattle.c_checking_units.proofs.FirstStops.UpTo.{up_to_first, up_to_within}
use Rattle.c_checking_units.proofs.FirstStops.Behind.{StopsIn, GoesUpTo, stops_here, stops_of}
use Rattle.c_checking_units.proofs.FirstStops.DeclaratorsStop.{AreStopped, AreTimely, declarators_stop}
use Rattle.c_checking_units.proofs.FirstStops.OwnFunctions.{own_enumerators}
use Rattle.c_checking_units.proofs.FirstStops.Tests.{AreOwnFunctions}

-- a declaration that stops: it is broken in a file, or one of its declarators is, where those before are declared in another
abbrev pub IsStoppedDeclaration : FileScope → FileScope → Trees.Declaration → Fault → Type 0
IsStoppedDeclaration m g d fault = IsBrokenFileDeclaration g d fault
    ⊎ ((base : CType) × IsBase (IsOne (at_file_scope m) d.specs) d.specs base × AreStopped m g (storage_of d.specs) base d.all d.semicolon fault)

nothing_declared : (d : Trees.Declaration) → (is_empty d.all && not (declares_tag d.specs)) ≡ true → DeclaresSomething d → ⊥
nothing_declared d h (inl some) = by_list d.all refl h
  where
    by_list : (all : List Trees.InitDeclarator) → d.all ≡ all → (is_empty all && not (declares_tag d.specs)) ≡ true → ⊥
    by_list [] e g = some e
    by_list (one ∷ more) e g = cc
nothing_declared d h (inr tag) = by_list (is_empty d.all) h
  where
    by_tag : (b : Bool) → b ≡ true → not b ≡ true → ⊥
    by_tag true e g = cc
    by_tag false e g = cc

    by_list : (b : Bool) → (b && not (declares_tag d.specs)) ≡ true → ⊥
    by_list true g = by_tag (declares_tag d.specs) tag g
    by_list false g = cc

module _ (untagged : ℕ → List ℕ) (types : List (List ℕ)) (nodes_at : ℕ → ℕ) (ends : List ℕ) where
  -- what stops, behind what is read before it
  pub record DeclarationStops (f : FileScope) (d : Trees.Declaration) (fault : Fault) : Type 0 where
    pub middle : FileScope
    pub file : FileScope
    pub marks : List Mark
    pub types_said : List ℕ
    pub places : List ℕ
    pub made : List ℕ
    pub later : List ℕ
    pub marks_later : List Mark
    pub said_later : List ℕ
    pub step : Stepped nodes_at marks types_said places made f (λ h. IsStoppedDeclaration h file d fault) middle
    pub places_are : places ++ later ≡ places_of_declarators d.all d.semicolon
    pub marks_are : marks ++ marks_later ≡ marks_of_specifiers untagged d.specs ++ marks_of_declarators untagged d.all d.semicolon
    pub said_are : types_said ++ said_later ≡ spoken_of_declaration d
    pub reaches : GoesUpTo (record { marks = marks_later; said = said_later; made = later }) middle file

  -- what is asked of the file and of a declaration
  pub record MayStopDeclaration (f : FileScope) (d : Trees.Declaration) (nodes at in_scope : ℕ) : Type 0 where
    pub may : MayDeclareIn untagged types nodes_at f d nodes at in_scope
    pub prepared : IsPrepared untagged ends f [] [] false (marks_of_specifiers untagged d.specs ++ marks_of_declarators untagged d.all d.semicolon)
    pub specifiers_timely : AreSpecifiersTimely untagged ends false (length f.records) d.specs
    pub timely : AreTimely untagged types nodes_at ends (length f.records + length (ends_in (marks_of_specifiers untagged d.specs))) d.all
    pub own_functions : AreOwnFunctions f.names

  abbrev of_declarators : List Trees.InitDeclarator → ℕ → Additions
  of_declarators all semicolon = record {
    marks = marks_of_declarators untagged all semicolon;
    said = spoken_of_declarators all semicolon;
    made = places_of_declarators all semicolon;
  }

  abbrev of_declaration : Trees.Declaration → Additions
  of_declaration d = both (of_specifiers untagged d.specs) (of_declarators d.all d.semicolon)

  at_once : (f : FileScope) (d : Trees.Declaration) (fault : Fault)
      → StopsIn (of_declaration d) f (λ g. IsBrokenFileDeclaration g d fault) → DeclarationStops f d fault
  at_once f d fault b = record {
    middle = f;
    file = b.file;
    marks = [];
    types_said = [];
    places = [];
    made = [];
    later = places_of_declarators d.all d.semicolon;
    marks_later = marks_of_specifiers untagged d.specs ++ marks_of_declarators untagged d.all d.semicolon;
    said_later = spoken_of_declaration d;
    step = no_step nodes_at f (λ h. IsStoppedDeclaration h b.file d fault) (λ h c. inl b.is);
    places_are = refl;
    marks_are = refl;
    said_are = refl;
    reaches = b.reaches;
  }

  pub declaration_stops : (before : List ℕ) (d : Trees.Declaration) (f : FileScope) (nodes at in_scope : ℕ) → MayStopDeclaration f d nodes at in_scope
      → IsKnown nodes_at before none_new none_new f → (fault : Fault) → file_declaration d f nodes ≡ Err fault → DeclarationStops f d fault
  declaration_stops before d f nodes at in_scope may k fault h =
      let u = marks_of_specifiers untagged d.specs in
      let w = marks_of_declarators untagged d.all d.semicolon in
      let from = first_specifiers d.specs in
      let s = at_file_scope f in
      let m = may.may in
      let all = of_declaration d in
      let Is = λ (g : FileScope). IsBrokenFileDeclaration g d fault in
      let own = left untagged ends u w may.prepared in
      chosen_err (may_stand_in_file (storage_of d.specs)) _ _ fault (DeclarationStops f d fault) h
      (λ stands h. bound_err (base_type (base_kind d.specs) from f (one_of d.specs s)) _ fault (DeclarationStops f d fault) h
      (λ e. base_stops (Up s (of_specifiers untagged d.specs)) s d.specs from (one_of d.specs s) fault
      (λ y q j. faults_one untagged ends (Up s (of_specifiers untagged d.specs)) d.specs s (length f.records) m.specifiers_in_range own
      (omega arith) may.specifiers_timely
      (λ g w. w)
      y q fault j) e
      (DeclarationStops f d fault)
      (λ n. at_once f d fault (stops_here all f Is (inl (n.0, inr (inl n.1)))))
      (λ b. at_once f d fault (stops_of (of_specifiers untagged d.specs) all (λ n o e i. i)
      (λ g w settled. up_to_first (of_specifiers untagged d.specs) (of_declarators d.all d.semicolon)
      (up_to_within (of_specifiers untagged d.specs) w settled))
      (λ s. AreBroken d.specs s fault) Is b (λ g p h. inr (inl h)))))
      (λ b e h.
      chosen_err (is_empty d.all && not (declares_tag d.specs)) _ _ fault (DeclarationStops f d fault) h
      (λ none h. at_once f d fault (stops_here all f Is
      (inl (same_fault FileScope (ill_typed R.Specifiers from) fault h, inr (inr (nothing_declared d none))))))
      (λ some h.
      let v = sound_base untagged d.specs s m.specifiers_in_range own.ready from b e in
      let keeps = keep_base untagged types d.specs s m.same (λ i. m.formed.0) from b e in
      let adds = grow_base untagged d.specs s m.same from b e in
      let first = found_step nodes_at f b.1 (λ h. IsBase (IsOne (at_file_scope h) d.specs) d.specs b.0) v.grew keeps adds (λ h e. v.holds h e) in
      let p = passed in_scope (scope_beginnings u) (names_of_declarators untagged d.all d.semicolon) m.names in
      let same_ends = v.grew.extends.ends in
      let counts = v.grew.counted in
      let prepared = right untagged ends u w may.prepared v.grew in
      let stop = declarators_stop untagged types nodes_at ends (storage_of d.specs) stands b.0 d.semicolon nodes d.all before b.1 true at p.to
      (record {
        may = record {
          same = v.grew.extends.untagged ∙ m.same;
          formed = m.formed.1;
          fit = subst (λ n. AreDeclaratorsFit untagged b.1.ends n d.all) (sym counts)
              (subst (λ ends. AreDeclaratorsFit untagged ends (length f.records + length (ends_in u)) d.all) (sym same_ends) m.fit);
          ready = prepared.ready;
          counted = m.counted;
          places = m.places;
          objects_before = below_then (λ o. o.first) f.objects b.1.objects first.objects at at first.objects_are (omega arith) m.objects_before
              (λ k r e. none_there first.objects first.others first.objects_parted k r e);
          functions_before = λ n o e. m.functions_before n o (subst (λ all. slice_get all n ≡ Some o) adds.functions e);
          names = p.rest;
          begun = below_then (λ b. b.from) f.names b.1.names (scope_beginnings u) in_scope p.to first.names p.later m.begun p.below;
        };
        prepared = prepared;
        timely = subst (λ n. AreTimely untagged types nodes_at ends n d.all) (sym counts) may.timely;
        own_functions = own_enumerators f.names b.1.names keeps.names.0 keeps.names.1 keeps.names.2 may.own_functions;
      }) (subst (λ made. IsKnown nodes_at made none_new none_new b.1) (append-nil before) (first.known before k)) fault h in
      record {
        middle = stop.middle;
        file = stop.file;
        marks = u ++ stop.marks;
        types_said = spoken_of_specifiers d.specs ++ stop.types_said;
        places = stop.places;
        made = stop.made;
        later = stop.later;
        marks_later = stop.marks_later;
        said_later = stop.said_later;
        step = stepped_then nodes_at f b.1 stop.middle first stop.step (λ i c e a q. inr (b.0, a, q));
        places_are = stop.places_are;
        marks_are = append_assoc u stop.marks stop.marks_later ∙ ap (λ z. u ++ z) stop.marks_are;
        said_are = append_assoc (spoken_of_specifiers d.specs) stop.types_said stop.said_later ∙ ap (λ z. spoken_of_specifiers d.specs ++ z) stop.said_are;
        reaches = stop.reaches;
      })))
      (λ none h. at_once f d fault (stops_here all f Is (inl (same_fault FileScope (ill_typed R.Specifiers from) fault h, inl none))))
    where
      none_there : (objects others : List ℕ) → Rattle.c_checking_laws.proofs.WholeFiles.Parts.Parted [] objects others → (k r : ℕ)
          → slice_get objects k ≡ Some r → r < at
      none_there objects others p k r e = let m = part_of [] objects others p k r e in cc
