-- Declarations at file scope: what each adds to the file, and that it stands in the whole file (C99 6.7, 6.9).
use Rattle.std.proofs.Common.{◌≡◌, ℕ, ◌+◌, ◌≤◌, ◌<◌, Bool, true, false, refl, sym, ap, ◌∙◌, subst, List, [], ◌∷◌, ◌++◌, length}
use Rattle.std.proofs.Common.{append-nil, length-append, arith, inl, inr}
use Rattle.std.specs.Prelude.{Option, Some, None, Ok, slice_get, ◌&&◌, not}
use Rattle.c_types.specs.Types.{CType}
use Rattle.c_ast.specs.declared.words.Spelling.{Spelling}
use Rattle.c_ast.specs.Trees
use Rattle.c_ast.specs.Places.{first_specifiers, first_declarator}
use Rattle.c_ast.specs.WellFormed.{AreInitDeclarators, IsDeclaration}
use Rattle.c_erasure.specs.Declarators.{declared_name}
use Rattle.c_erasure.specs.Erasure.{IsBase, IsOne}
use Rattle.c_erasure.specs.Files.{may_stand_in_file, AreFileDeclarators, declares_tag, DeclaresSomething, ErasesItem}
use Rattle.c_erasure.specs.Literals.{literals_of_value, initial_literals}
use Rattle.c_erasure.specs.Marks.{Mark, a_name, marks_of_specifiers, marks_of_declarator, marks_of_initial, marks_of_declarators, marks_of_item, name_from}
use Rattle.c_erasure.specs.Marks.{after_declarator, ends_in, scope_beginnings}
use Rattle.c_erasure.specs.MentionPlaces.{spoken_of_declarator, spoken_by_value, spoken_of_declarators, spoken_of_declaration}
use Rattle.c_erasure.specs.Scopes.{FileScope, Bound, AnObject, AFunction, at_file_scope}
use Rattle.c_erasure.specs.Specifiers.{Storage, storage_of}
use Rattle.c_erasure.specs.Checking.Declaring.{base_kind}
use Rattle.c_erasure.specs.Checking.Files.{declarator_named, file_declarators, file_declaration, is_empty}
use Rattle.c_erasure.specs.Checking.Finding.{base_type, one_of}
use Rattle.c_checking_laws.proofs.Agreement as Agreement
use Rattle.c_checking_laws.proofs.Agreement.{Ready, beginnings_append}
use Rattle.c_checking_laws.proofs.Extends.{behind}
use Rattle.c_checking_laws.proofs.Growth.{grow_base}
use Rattle.c_checking_laws.proofs.InRange.{IsDeclaratorInRange, AreSpecifiersInRange}
use Rattle.c_checking_laws.proofs.Results.{bound_ok, given, chosen, only_if}
use Rattle.c_checking_laws.proofs.Sound.{sound_base}
use Rattle.c_checking_laws.proofs.WholeFiles.Declarations.{first_named}
use Rattle.c_checking_laws.proofs.WholeFiles.Keeping.{keep_base}
use Rattle.c_checking_laws.proofs.WholeFiles.LocalObjects.{IsValueInRange}
use Rattle.c_checking_laws.specs.TextOrder.TextOrder.{Rising, places_of_declarators, names_of_declarators, place_of_name}
use Rattle.c_checking_laws.proofs.WholeFiles.Known.{IsKnown, none_new}
use Rattle.c_checking_laws.proofs.WholeFiles.Rises.{passed, below_then, part_of}
use Rattle.c_checking_laws.proofs.WholeFiles.Stepping.{Stepped, stepped_then, no_step, found_step, counted_by, ready_behind, ends_append}
use Rattle.c_checking_laws.proofs.WholeFiles.DeclaratorSteps.{MayDeclareIt, Declarator, declarator_step}

no_name : (f : FileScope) (words : Storage) (base : CType) (d : Trees.InitDeclarator) (from nodes : ℕ) (m : FileScope)
    → declarator_named f words base d from nodes None ≡ Ok m → ⊥
no_name f words base d from nodes m h = cc

abbrev many : List Mark → ℕ
many u = length (ends_in u)

module _ (untagged : ℕ → List ℕ) where
  -- the literals of declarators are in range, and their initializers ask for records in time; so many records are complete before them
  abbrev pub AreDeclaratorsFit : (ends : List ℕ) → ℕ → List Trees.InitDeclarator → Type 0
  AreDeclaratorsFit ends n [] = Unit {0}
  AreDeclaratorsFit ends n (d ∷ more) = IsDeclaratorInRange d.declarator
      × IsValueInRange ends (n + length (ends_in (marks_of_declarator untagged d.declarator)) + length (ends_in (marks_of_initial untagged d.value))) d.value
      × AreDeclaratorsFit ends (n + length (ends_in (marks_of_declarator untagged d.declarator)) + length (ends_in (marks_of_initial untagged d.value))) more

module _ (untagged : ℕ → List ℕ) (types : List (List ℕ)) (nodes_at : ℕ → ℕ) where
  -- what is asked of the file and of the declarators that are left
  pub record MayDeclareAll (f : FileScope) (all : List Trees.InitDeclarator) (lead : Bool) (semicolon nodes at in_scope : ℕ) : Type 0 where
    pub same : f.untagged ≡ untagged
    pub formed : AreInitDeclarators types lead all
    pub fit : AreDeclaratorsFit untagged f.ends (length f.records) all
    pub ready : Ready (at_file_scope f) (marks_of_declarators untagged all semicolon)
    pub counted : (k p : ℕ) → slice_get (places_of_declarators all semicolon) k ≡ Some p → nodes ≡ nodes_at p
    pub places : Rising at (places_of_declarators all semicolon)
    pub objects_before : (n : ℕ) (o : AnObject) → slice_get f.objects n ≡ Some o → o.first < at
    pub functions_before : (n : ℕ) (g : AFunction) → slice_get f.functions n ≡ Some g → g.first < at
    pub names : Rising in_scope (names_of_declarators untagged all semicolon)
    pub begun : (k : ℕ) (b : Bound) → slice_get f.names k ≡ Some b → b.from < in_scope

  abbrev pub Declarators : FileScope → Storage → CType → List Trees.InitDeclarator → ℕ → FileScope → Type 0
  Declarators f words base all semicolon g = Stepped nodes_at (marks_of_declarators untagged all semicolon) (spoken_of_declarators all semicolon)
      (places_of_declarators all semicolon) (initial_literals all) f (λ h. AreFileDeclarators h words base all semicolon) g

  module _ (words : Storage) (stands : may_stand_in_file words ≡ true) (base : CType) (semicolon nodes : ℕ) where
    -- what is asked of one of them
    one_may : (f : FileScope) (d : Trees.InitDeclarator) (more : List Trees.InitDeclarator) (lead : Bool) (at in_scope : ℕ) (x : Spelling)
        → declared_name d.declarator ≡ Some x → MayDeclareAll f (d ∷ more) lead semicolon nodes at in_scope
        → MayDeclareIt untagged types nodes_at f d x (name_from d.value (after_declarator more semicolon)) nodes
    one_may f d more lead at in_scope x name may =
        let from = name_from d.value (after_declarator more semicolon) in
        let u = marks_of_declarator untagged d.declarator in
        let i = marks_of_initial untagged d.value in
        let place : first_declarator d.declarator semicolon ≡ first_declarator d.declarator x.from = first_named d.declarator x name semicolon x.from in
        let names = subst (λ o. Rising in_scope (place_of_name o ++ scope_beginnings (u ++ a_name from ∷ i) ++ names_of_declarators untagged more semicolon))
        name may.names in
        let late : at ≤ first_declarator d.declarator x.from = let p = may.places.0 in omega (arith, p, place) in
        record {
          same = may.same;
          formed = may.formed.1;
          value_formed = may.formed.3;
          in_range = may.fit.0;
          value_in_range = may.fit.1;
          ready = Agreement.left (u ++ a_name from ∷ i) (marks_of_declarators untagged more semicolon) may.ready;
          counted = may.counted 0 (first_declarator d.declarator semicolon) refl ∙ ap nodes_at place;
          objects_before = λ n o e. let b = may.objects_before n o e in omega (arith, b, late);
          functions_before = λ n g e. let b = may.functions_before n g e in omega (arith, b, late);
          begun = λ k b e. let c = may.begun k b e in let n = names.0 in omega (arith, c, n);
          less = let l = name_less (x.from + 1) u i from (names_of_declarators untagged more semicolon) names.1 in omega (arith, l);
        }
      where
        name_less : (at : ℕ) (u i : List Mark) (from : ℕ) (more : List ℕ) → Rising at (scope_beginnings (u ++ a_name from ∷ i) ++ more) → at ≤ from
        name_less at u i from more r =
            let p = passed at (scope_beginnings (u ++ a_name from ∷ i)) more r in
            p.from (length (scope_beginnings u) + 0) from
            (subst (λ all. slice_get all (length (scope_beginnings u) + 0) ≡ Some from) (sym (beginnings_append u (a_name from ∷ i)))
            (behind (scope_beginnings u) (from ∷ scope_beginnings i) 0 (length (scope_beginnings u) + 0) from refl refl))

    -- and of those behind it
    others_may : (before : List ℕ) (f : FileScope) (d : Trees.InitDeclarator) (more : List Trees.InitDeclarator) (lead : Bool) (at in_scope : ℕ) (x : Spelling)
        → declared_name d.declarator ≡ Some x → MayDeclareAll f (d ∷ more) lead semicolon nodes at in_scope → (g : FileScope)
        → Declarator untagged types nodes_at f words base d x (name_from d.value (after_declarator more semicolon)) g
        → IsKnown nodes_at before none_new none_new f
        → (at : ℕ) × (in_scope : ℕ) × MayDeclareAll g more false semicolon nodes at in_scope
    others_may before f d more lead at in_scope x name may g s k =
        let from = name_from d.value (after_declarator more semicolon) in
        let u = marks_of_declarator untagged d.declarator in
        let i = marks_of_initial untagged d.value in
        let own = u ++ a_name from ∷ i in
        let place : first_declarator d.declarator semicolon ≡ first_declarator d.declarator x.from = first_named d.declarator x name semicolon x.from in
        let names = subst (λ o. Rising in_scope (place_of_name o ++ scope_beginnings own ++ names_of_declarators untagged more semicolon)) name may.names in
        let spots = subst (λ p. Rising at ((p ∷ literals_of_value d.value) ++ places_of_declarators more semicolon)) place may.places in
        let p = passed at (first_declarator d.declarator x.from ∷ literals_of_value d.value) (places_of_declarators more semicolon) spots in
        let q = passed (x.from + 1) (scope_beginnings own) (names_of_declarators untagged more semicolon) names.1 in
        let first = names.0 in
        let later = q.later in
        let same_ends = s.continues.extends.ends in
        let counts : length g.records ≡ length f.records + many own = counted_by own f g s.records in
        let split : many own ≡ many u + many i = ap length (ends_append u (a_name from ∷ i)) ∙ length-append (ends_in u) (ends_in i) in
        let number : length f.records + many u + many i ≡ length g.records = omega (arith, counts, split) in (
          p.to,
          q.to,
          record {
            same = s.continues.extends.untagged ∙ may.same;
            formed = may.formed.4;
            fit = subst (λ n. AreDeclaratorsFit untagged g.ends n more) number
                (subst (λ ends. AreDeclaratorsFit untagged ends (length f.records + many u + many i) more) (sym same_ends) may.fit.2);
            ready = ready_behind f g own (marks_of_declarators untagged more semicolon) may.ready same_ends counts (s.known before k).fits;
            counted = λ k r e. may.counted (length (first_declarator d.declarator semicolon ∷ literals_of_value d.value) + k) r
                (behind (first_declarator d.declarator semicolon ∷ literals_of_value d.value) (places_of_declarators more semicolon) k
                (length (first_declarator d.declarator semicolon ∷ literals_of_value d.value) + k) r refl e);
            places = p.rest;
            objects_before = below_then (λ o. o.first) f.objects g.objects s.objects at p.to s.objects_are p.later may.objects_before
                (λ k r e. let m = part_of _ s.objects s.others s.objects_parted k r e in p.below m.0 r m.1);
            functions_before = below_then (λ o. o.first) f.functions g.functions s.functions at p.to s.functions_are p.later may.functions_before
                (λ k r e. let m = part_of _ s.functions s.no_functions s.functions_parted k r e in p.below m.0 r m.1);
            names = q.rest;
            begun = below_then (λ b. b.from) f.names g.names (scope_beginnings own) in_scope q.to s.names (omega (arith, first, later)) may.begun q.below;
          },
        )

    -- the declarators, as a whole
    record AreDone (f : FileScope) (all : List Trees.InitDeclarator) (g : FileScope) : Type 0 where
      pub step : Declarators f words base all semicolon g

    none_done : (f g : FileScope) → file_declarators [] f words base semicolon nodes ≡ Ok g → AreDone f [] g
    unfolding file_declarators
    none_done f g h = given (AreDone f []) f g h (record { step = no_step nodes_at f (λ h. Unit {0}) (λ h c. tt) })

    abbrev MayGoOn : List Trees.InitDeclarator → FileScope → FileScope → Type 0
    MayGoOn more m g = (before : List ℕ) (at in_scope : ℕ) → MayDeclareAll m more false semicolon nodes at in_scope
        → IsKnown nodes_at before none_new none_new m → AreDone m more g

    named_done : (before : List ℕ) (d : Trees.InitDeclarator) (more : List Trees.InitDeclarator) (f : FileScope) (lead : Bool) (at in_scope : ℕ)
        → MayDeclareAll f (d ∷ more) lead semicolon nodes at in_scope → IsKnown nodes_at before none_new none_new f → (x : Spelling)
        → declared_name d.declarator ≡ Some x → (m : FileScope)
        → declarator_named f words base d (name_from d.value (after_declarator more semicolon)) nodes (Some x) ≡ Ok m → (g : FileScope)
        → MayGoOn more m g → AreDone f (d ∷ more) g
    named_done before d more f lead at in_scope may k x name m h g later =
        let from = name_from d.value (after_declarator more semicolon) in
        let place : first_declarator d.declarator x.from ≡ first_declarator d.declarator semicolon = first_named d.declarator x name x.from semicolon in
        let s = declarator_step untagged types nodes_at before f words stands base d x from nodes (one_may f d more lead at in_scope x name may) k m h in
        let o = others_may before f d more lead at in_scope x name may m s k in
        let t = (later (before ++ literals_of_value d.value) o.0 o.1 o.2 (s.known before k)).step in
        record {
          step = subst (λ p. Stepped nodes_at (marks_of_declarators untagged (d ∷ more) semicolon)
              (p ∷ spoken_of_declarator d.declarator ++ spoken_by_value d.value ++ spoken_of_declarators more semicolon)
              (p ∷ literals_of_value d.value ++ places_of_declarators more semicolon) (initial_literals (d ∷ more)) f
              (λ h. AreFileDeclarators h words base (d ∷ more) semicolon) g) place
              (stepped_then nodes_at f m g s t (λ i c e a b. (x, name, a, b)));
        }

    one_done : (before : List ℕ) (d : Trees.InitDeclarator) (more : List Trees.InitDeclarator) (f : FileScope) (lead : Bool) (at in_scope : ℕ)
        → MayDeclareAll f (d ∷ more) lead semicolon nodes at in_scope → IsKnown nodes_at before none_new none_new f → (g : FileScope)
        → file_declarators (d ∷ more) f words base semicolon nodes ≡ Ok g
        → ((m : FileScope) → file_declarators more m words base semicolon nodes ≡ Ok g → MayGoOn more m g) → AreDone f (d ∷ more) g
    unfolding file_declarators
    one_done before d more f lead at in_scope may k g h later =
        let x = bound_ok (declarator_named f words base d (name_from d.value (after_declarator more semicolon)) nodes (declared_name d.declarator)) _ g h in
        by_name (declared_name d.declarator) refl x.0 x.1 (later x.0 x.2)
      where
        by_name : (o : Option Spelling) → declared_name d.declarator ≡ o → (m : FileScope)
            → declarator_named f words base d (name_from d.value (after_declarator more semicolon)) nodes o ≡ Ok m → MayGoOn more m g
            → AreDone f (d ∷ more) g
        by_name None name m h later = absurd (no_name f words base d (name_from d.value (after_declarator more semicolon)) nodes m h)
        by_name (Some x) name m h later = named_done before d more f lead at in_scope may k x name m h g later

    all_done : (all : List Trees.InitDeclarator) (before : List ℕ) (f : FileScope) (lead : Bool) (at in_scope : ℕ)
        → MayDeclareAll f all lead semicolon nodes at in_scope → IsKnown nodes_at before none_new none_new f → (g : FileScope)
        → file_declarators all f words base semicolon nodes ≡ Ok g → AreDone f all g
    all_done [] before f lead at in_scope may k g h = none_done f g h
    all_done (d ∷ more) before f lead at in_scope may k g h =
        one_done before d more f lead at in_scope may k g h (λ m e before at in_scope may k. all_done more before m false at in_scope may k g e)

    declarators_step : (before : List ℕ) (all : List Trees.InitDeclarator) (f : FileScope) (lead : Bool) (at in_scope : ℕ)
        → MayDeclareAll f all lead semicolon nodes at in_scope → IsKnown nodes_at before none_new none_new f → (g : FileScope)
        → file_declarators all f words base semicolon nodes ≡ Ok g → Declarators f words base all semicolon g
    declarators_step before all f lead at in_scope may k g h = (all_done all before f lead at in_scope may k g h).step

  -- ---- declarations

  -- what is asked of a declaration
  pub record MayDeclareIn (f : FileScope) (d : Trees.Declaration) (nodes at in_scope : ℕ) : Type 0 where
    pub same : f.untagged ≡ untagged
    pub formed : IsDeclaration types d
    pub specifiers_in_range : AreSpecifiersInRange d.specs
    pub fit : AreDeclaratorsFit untagged f.ends (length f.records + length (ends_in (marks_of_specifiers untagged d.specs))) d.all
    pub ready : Ready (at_file_scope f) (marks_of_specifiers untagged d.specs ++ marks_of_declarators untagged d.all d.semicolon)
    pub counted : (k p : ℕ) → slice_get (places_of_declarators d.all d.semicolon) k ≡ Some p → nodes ≡ nodes_at p
    pub places : Rising at (places_of_declarators d.all d.semicolon)
    pub objects_before : (n : ℕ) (o : AnObject) → slice_get f.objects n ≡ Some o → o.first < at
    pub functions_before : (n : ℕ) (g : AFunction) → slice_get f.functions n ≡ Some g → g.first < at
    pub names : Rising in_scope (scope_beginnings (marks_of_specifiers untagged d.specs) ++ names_of_declarators untagged d.all d.semicolon)
    pub begun : (k : ℕ) (b : Bound) → slice_get f.names k ≡ Some b → b.from < in_scope

  something : (d : Trees.Declaration) (b : Bool) → (is_empty d.all && not (declares_tag d.specs)) ≡ b → b ≡ false → DeclaresSomething d
  something d b e f = by_list d.all refl (e ∙ f)
    where
      by_list : (all : List Trees.InitDeclarator) → d.all ≡ all → (is_empty d.all && not (declares_tag d.specs)) ≡ false → DeclaresSomething d
      by_list [] e g = inr (by_tag (declares_tag d.specs) refl (subst (λ all. (is_empty all && not (declares_tag d.specs)) ≡ false) e g))
        where
          by_tag : (c : Bool) → declares_tag d.specs ≡ c → not (declares_tag d.specs) ≡ false → declares_tag d.specs ≡ true
          by_tag true e g = e
          by_tag false e g = let f = sym (ap not e) ∙ g in cc
      by_list (one ∷ more) e g = inl (λ h. let f = sym e ∙ h in cc)

  pub declaration_step : (before : List ℕ) (d : Trees.Declaration) (f : FileScope) (nodes at in_scope : ℕ) → MayDeclareIn f d nodes at in_scope
      → IsKnown nodes_at before none_new none_new f → (g : FileScope) → file_declaration d f nodes ≡ Ok g
      → Stepped nodes_at (marks_of_item untagged (Trees.declaration d)) (spoken_of_declaration d) (places_of_declarators d.all d.semicolon)
      (initial_literals d.all) f (λ h. ErasesItem h (Trees.declaration d)) g
  declaration_step before d f nodes at in_scope may k g h =
      let u = marks_of_specifiers untagged d.specs in
      let from = first_specifiers d.specs in
      let s = at_file_scope f in
      let m = only_if (may_stand_in_file (storage_of d.specs)) _ _ _ g h in
      let b = bound_ok (base_type (base_kind d.specs) from f (one_of d.specs s)) _ g m.1 in
      let v = sound_base untagged d.specs s may.specifiers_in_range (Agreement.left u (marks_of_declarators untagged d.all d.semicolon) may.ready) from b.0 b.1 in
      let keeps = keep_base untagged types d.specs s may.same (λ i. may.formed.0) from b.0 b.1 in
      let adds = grow_base untagged d.specs s may.same from b.0 b.1 in
      let first = found_step nodes_at f b.0.1 (λ h. IsBase (IsOne (at_file_scope h) d.specs) d.specs b.0.0) v.grew keeps adds (λ h e. v.holds h e) in
      let p = passed in_scope (scope_beginnings u) (names_of_declarators untagged d.all d.semicolon) may.names in
      let ends = v.grew.extends.ends in
      let counts = v.grew.counted in
      chosen (is_empty d.all && not (declares_tag d.specs)) _ _ g
      (Stepped nodes_at (marks_of_item untagged (Trees.declaration d)) (spoken_of_declaration d) (places_of_declarators d.all d.semicolon)
      (initial_literals d.all) f (λ h. ErasesItem h (Trees.declaration d)) g) b.2 (λ c h. cc)
      (λ c h.
      let all = declarators_step (storage_of d.specs) m.0 b.0.0 d.semicolon nodes before d.all b.0.1 true at p.to (record {
        same = v.grew.extends.untagged ∙ may.same;
        formed = may.formed.1;
        fit = subst (λ n. AreDeclaratorsFit untagged b.0.1.ends n d.all) (sym counts)
            (subst (λ ends. AreDeclaratorsFit untagged ends (length f.records + length (ends_in u)) d.all) (sym ends) may.fit);
        ready = Agreement.right u (marks_of_declarators untagged d.all d.semicolon) may.ready v.grew;
        counted = may.counted;
        places = may.places;
        objects_before = λ n o e. let l = below_then (λ o. o.first) f.objects b.0.1.objects first.objects at at first.objects_are (omega arith) may.objects_before
            (λ k r e. none_there first.objects first.others first.objects_parted k r e) n o e in l;
        functions_before = λ n o e. may.functions_before n o (subst (λ all. slice_get all n ≡ Some o) adds.functions e);
        names = p.rest;
        begun = below_then (λ b. b.from) f.names b.0.1.names (scope_beginnings u) in_scope p.to first.names p.later may.begun p.below;
      }) (subst (λ made. IsKnown nodes_at made none_new none_new b.0.1) (append-nil before) (first.known before k)) g h in
      stepped_then nodes_at f b.0.1 g first all (λ i k e a q. (b.0.0, m.0, a, something d _ refl c, q)))
    where
      none_there : (objects others : List ℕ) → Rattle.c_checking_laws.proofs.WholeFiles.Parts.Parted [] objects others → (k r : ℕ) → slice_get objects k ≡ Some r → r < at
      none_there objects others p k r e = let m = part_of [] objects others p k r e in cc
