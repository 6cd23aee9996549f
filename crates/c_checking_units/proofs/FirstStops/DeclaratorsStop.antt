-- Where one of several declarators of the file scope stops, a rule is broken (C99 6.7, 6.9).
use Rattle.std.proofs.Common.{◌≡◌, ℕ, ◌+◌, ◌≤◌, ◌<◌, Bool, true, false, refl, sym, ap, ◌∙◌, subst, List, [], ◌∷◌, ◌++◌, length}
use Rattle.std.proofs.Common.{append_assoc, length-append, arith, inl, inr}
use Rattle.std.specs.Prelude.{◌⊎◌, Some, Ok, Err, slice_get}
use Rattle.c_types.specs.Types.{CType}
use Rattle.c_ast.specs.declared.words.Spelling.{Spelling}
use Rattle.c_ast.specs.Trees
use Rattle.c_ast.specs.Places.{first_declarator}
use Rattle.c_erasure.specs.Broken.{Fault}
use Rattle.c_erasure.specs.BrokenFiles.{IsBrokenFileDeclarator}
use Rattle.c_erasure.specs.BrokenStatements.{IsAmong}
use Rattle.c_erasure.specs.Declarators.{declared_name}
use Rattle.c_erasure.specs.Files.{may_stand_in_file, IsFileDeclarator}
use Rattle.c_erasure.specs.Literals.{literals_of_value}
use Rattle.c_erasure.specs.Marks.{Mark, a_name, marks_of_declarator, marks_of_initial, marks_of_declarators, name_from, after_declarator, ends_in}
use Rattle.c_erasure.specs.Marks.{scope_beginnings}
use Rattle.c_erasure.specs.MentionPlaces.{spoken_of_declarator, spoken_by_value, spoken_of_declarators}
use Rattle.c_erasure.specs.Scopes.{FileScope, AnObject}
use Rattle.c_erasure.specs.Specifiers.{Storage}
use Rattle.c_erasure.specs.Checking.Files.{declarator_named, file_declarators}
use Rattle.c_checking_laws.proofs.Agreement as Agreement
use Rattle.c_checking_laws.proofs.Agreement.{Ready, beginnings_append, IsGrown}
use Rattle.c_checking_laws.proofs.Extends.{behind}
use Rattle.c_checking_laws.proofs.FaultPremises.{IsPrepared, left, right, IsDeclaratorTimely, AreKnown}
use Rattle.c_checking_laws.proofs.FaultAdditions.{behind_name}
use Rattle.c_checking_laws.proofs.FaultResults.{bound_err}
use Rattle.c_checking_laws.proofs.Within.{Additions, both}
use Rattle.c_checking_laws.proofs.WholeFiles.Declarations.{first_named}
use Rattle.c_checking_laws.specs.TextOrder.TextOrder.{Rising, places_of_declarators, names_of_declarators, place_of_name}
use Rattle.c_checking_laws.proofs.WholeFiles.DeclarationItems.{AreDeclaratorsFit, MayDeclareAll}
use Rattle.c_checking_laws.proofs.WholeFiles.DeclaratorSteps.{MayDeclareIt, Declarator, declarator_step}
use Rattle.c_checking_laws.proofs.WholeFiles.Known.{IsKnown, none_new}
use Rattle.c_checking_laws.proofs.WholeFiles.Rises.{passed, below_then, part_of, rising_front}
use Rattle.c_checking_laws.proofs.WholeFiles.Stepping.{Stepped, stepped_then, no_step, counted_by, ready_behind, ends_append}
use Rattle.c_checking_units.proofs.FirstStops.Clear.{AreFresh, AreApart}
use Rattle.c_checking_units.proofs.FirstStops.Behind.{grown_by, StopsIn, GoesUpTo, stops_first}
use Rattle.c_checking_units.proofs.FirstStops.ObjectStops.{IsValueTimely, of_initial}
use Rattle.c_checking_units.proofs.FirstStops.OwnFunctions.{own_after}
use Rattle.c_checking_units.proofs.FirstStops.Tests.{AreOwnFunctions}
use Rattle.c_checking_units.proofs.FirstStops.WholeDeclarators.{MayStop, declarator_stops}

-- ---- places that rise differ, and are none of objects before

above : (at : ℕ) (all : List ℕ) → Rising at all → (x : ℕ) → IsAmong all x → at ≤ x
above at [] r x i = absurd i
above at (p ∷ all) r x (inl e) = let l = r.0 in omega (arith, l, e)
above at (p ∷ all) r x (inr i) = let l = r.0 in let m = above (p + 1) all r.1 x i in omega (arith, l, m)

rising_apart : (at : ℕ) (all : List ℕ) → Rising at all → AreApart all
rising_apart at [] r = tt
rising_apart at (p ∷ all) r = ((λ i. let l = above (p + 1) all r.1 p i in absurd (omega (arith, l))), rising_apart (p + 1) all r.1)

pub fresh_rising : (f : FileScope) (at : ℕ) (all : List ℕ) → Rising at all → ((n : ℕ) (o : AnObject) → slice_get f.objects n ≡ Some o → o.first < at)
    → AreFresh f all
fresh_rising f at all r before = record {
  apart = rising_apart at all r;
  none_at = λ n o e i. let l = before n o e in let m = above at all r o.first i in absurd (omega (arith, l, m));
}

-- ---- what stops among declarators: those before it are declared in one file, and it is broken in one that goes on from there

abbrev pub AreStopped : FileScope → FileScope → Storage → CType → List Trees.InitDeclarator → ℕ → Fault → Type 0
AreStopped m g words base [] semicolon fault = ⊥
AreStopped m g words base (d ∷ more) semicolon fault =
    IsBrokenFileDeclarator g words base d (name_from d.value (after_declarator more semicolon)) fault
    ⊎ ((x : Spelling) × (declared_name d.declarator ≡ Some x)
    × IsFileDeclarator m words base d x (first_declarator d.declarator x.from) (name_from d.value (after_declarator more semicolon))
    × AreStopped m g words base more semicolon fault)

abbrev many : List Mark → ℕ
many u = length (ends_in u)

module _ (untagged : ℕ → List ℕ) (types : List (List ℕ)) (nodes_at : ℕ → ℕ) (ends : List ℕ) where
  -- records are known where declarators ask for them
  abbrev pub AreTimely : ℕ → List Trees.InitDeclarator → Type 0
  AreTimely n [] = Unit {0}
  AreTimely n (d ∷ more) = IsDeclaratorTimely untagged ends false n d.declarator
      × ((x : Spelling) × (declared_name d.declarator ≡ Some x) × AreKnown untagged ends (n + length (ends_in
      (marks_of_declarator untagged d.declarator))) x.from)
      × IsValueTimely untagged types nodes_at ends (n + length (ends_in (marks_of_declarator untagged d.declarator))) d.value
      × AreTimely (n + length (ends_in (marks_of_declarator untagged d.declarator)) + length (ends_in (marks_of_initial untagged d.value))) more

  -- what stops, behind the declarators before it
  pub record DeclaratorsStop (f : FileScope) (words : Storage) (base : CType) (all : List Trees.InitDeclarator) (semicolon : ℕ)
      (fault : Fault) : Type 0 where
    pub middle : FileScope
    pub file : FileScope
    pub marks : List Mark
    pub types_said : List ℕ
    pub places : List ℕ
    pub made : List ℕ
    pub later : List ℕ
    pub marks_later : List Mark
    pub said_later : List ℕ
    pub step : Stepped nodes_at marks types_said places made f (λ h. AreStopped h file words base all semicolon fault) middle
    pub places_are : places ++ later ≡ places_of_declarators all semicolon
    pub marks_are : marks ++ marks_later ≡ marks_of_declarators untagged all semicolon
    pub said_are : types_said ++ said_later ≡ spoken_of_declarators all semicolon
    pub reaches : GoesUpTo (record { marks = marks_later; said = said_later; made = later }) middle file

  -- what is asked of the file and of the declarators that are left
  pub record MayStopAll (f : FileScope) (all : List Trees.InitDeclarator) (lead : Bool) (semicolon nodes at in_scope : ℕ) : Type 0 where
    pub may : MayDeclareAll untagged types nodes_at f all lead semicolon nodes at in_scope
    pub prepared : IsPrepared untagged ends f [] [] false (marks_of_declarators untagged all semicolon)
    pub timely : AreTimely (length f.records) all
    pub own_functions : AreOwnFunctions f.names

  module _ (words : Storage) (stands : may_stand_in_file words ≡ true) (base : CType) (semicolon nodes : ℕ) where
    -- what is asked of one of them
    pub one_may : (f : FileScope) (d : Trees.InitDeclarator) (more : List Trees.InitDeclarator) (lead : Bool) (at in_scope : ℕ) (x : Spelling)
        → declared_name d.declarator ≡ Some x → MayDeclareAll untagged types nodes_at f (d ∷ more) lead semicolon nodes at in_scope
        → MayDeclareIt untagged types nodes_at f d x (name_from d.value (after_declarator more semicolon)) nodes
    one_may f d more lead at in_scope x name may =
        let from = name_from d.value (after_declarator more semicolon) in
        let u = marks_of_declarator untagged d.declarator in
        let i = marks_of_initial untagged d.value in
        let place : first_declarator d.declarator semicolon ≡ first_declarator d.declarator x.from = first_named d.declarator x name semicolon x.from in
        let names = subst (λ o. Rising in_scope (place_of_name o ++ scope_beginnings
        (u ++ a_name from ∷ i) ++ names_of_declarators untagged more semicolon))
        name may.names in
        let late : at ≤ first_declarator d.declarator x.from = let p = may.places.0 in omega (arith, p, place) in
        record {
          same = may.same;
          formed = may.formed.1;
          value_formed = may.formed.3;
          in_range = may.fit.0;
          value_in_range = may.fit.1;
          ready = Agreement.left (u ++ a_name from ∷ i) (marks_of_declarators untagged more semicolon) may.ready;
          counted = may.counted 0 (first_declarator d.declarator semicolon) refl ∙ ap nodes_at place;
          objects_before = λ n o e. let b = may.objects_before n o e in omega (arith, b, late);
          functions_before = λ n g e. let b = may.functions_before n g e in omega (arith, b, late);
          begun = λ k b e. let c = may.begun k b e in let n = names.0 in omega (arith, c, n);
          less = let l = name_less (x.from + 1) u i from (names_of_declarators untagged more semicolon) names.1 in omega (arith, l);
        }
      where
        name_less : (at : ℕ) (u i : List Mark) (from : ℕ) (more : List ℕ) → Rising at (scope_beginnings (u ++ a_name from ∷ i) ++ more) → at ≤ from
        name_less at u i from more r =
            let p = passed at (scope_beginnings (u ++ a_name from ∷ i)) more r in
            p.from (length (scope_beginnings u) + 0) from
            (subst (λ all. slice_get all (length (scope_beginnings u) + 0) ≡ Some from) (sym (beginnings_append u (a_name from ∷ i)))
            (behind (scope_beginnings u) (from ∷ scope_beginnings i) 0 (length (scope_beginnings u) + 0) from refl refl))

    -- and of those behind it
    pub others_may : (before : List ℕ) (f : FileScope) (d : Trees.InitDeclarator) (more : List Trees.InitDeclarator) (lead : Bool)
        (at in_scope : ℕ) (x : Spelling)
        → declared_name d.declarator ≡ Some x → MayDeclareAll untagged types nodes_at f (d ∷ more) lead semicolon nodes at in_scope → (g : FileScope)
        → Declarator untagged types nodes_at f words base d x (name_from d.value (after_declarator more semicolon)) g
        → IsKnown nodes_at before none_new none_new f
        → (at : ℕ) × (in_scope : ℕ) × MayDeclareAll untagged types nodes_at g more false semicolon nodes at in_scope
    others_may before f d more lead at in_scope x name may g s k =
        let from = name_from d.value (after_declarator more semicolon) in
        let u = marks_of_declarator untagged d.declarator in
        let i = marks_of_initial untagged d.value in
        let own = u ++ a_name from ∷ i in
        let place : first_declarator d.declarator semicolon ≡ first_declarator d.declarator x.from = first_named d.declarator x name semicolon x.from in
        let names = subst (λ o. Rising in_scope
        (place_of_name o ++ scope_beginnings own ++ names_of_declarators untagged more semicolon)) name may.names in
        let spots = subst (λ p. Rising at ((p ∷ literals_of_value d.value) ++ places_of_declarators more semicolon)) place may.places in
        let p = passed at (first_declarator d.declarator x.from ∷ literals_of_value d.value) (places_of_declarators more semicolon) spots in
        let q = passed (x.from + 1) (scope_beginnings own) (names_of_declarators untagged more semicolon) names.1 in
        let first = names.0 in
        let later = q.later in
        let same_ends = s.continues.extends.ends in
        let counts : length g.records ≡ length f.records + many own = counted_by own f g s.records in
        let split : many own ≡ many u + many i = ap length (ends_append u (a_name from ∷ i)) ∙ length-append (ends_in u) (ends_in i) in
        let number : length f.records + many u + many i ≡ length g.records = omega (arith, counts, split) in (
          p.to,
          q.to,
          record {
            same = s.continues.extends.untagged ∙ may.same;
            formed = may.formed.4;
            fit = subst (λ n. AreDeclaratorsFit untagged g.ends n more) number
                (subst (λ ends. AreDeclaratorsFit untagged ends (length f.records + many u + many i) more) (sym same_ends) may.fit.2);
            ready = ready_behind f g own (marks_of_declarators untagged more semicolon) may.ready same_ends counts (s.known before k).fits;
            counted = λ k r e. may.counted (length (first_declarator d.declarator semicolon ∷ literals_of_value d.value) + k) r
                (behind (first_declarator d.declarator semicolon ∷ literals_of_value d.value) (places_of_declarators more semicolon) k
                (length (first_declarator d.declarator semicolon ∷ literals_of_value d.value) + k) r refl e);
            places = p.rest;
            objects_before = below_then (λ o. o.first) f.objects g.objects s.objects at p.to s.objects_are p.later may.objects_before
                (λ k r e. let m = part_of _ s.objects s.others s.objects_parted k r e in p.below m.0 r m.1);
            functions_before = below_then (λ o. o.first) f.functions g.functions s.functions at p.to s.functions_are p.later may.functions_before
                (λ k r e. let m = part_of _ s.functions s.no_functions s.functions_parted k r e in p.below m.0 r m.1);
            names = q.rest;
            begun = below_then (λ b. b.from) f.names g.names (scope_beginnings own) in_scope q.to s.names (omega
                (arith, first, later)) may.begun q.below;
          },
        )

    pub one_stop : (f : FileScope) (d : Trees.InitDeclarator) (more : List Trees.InitDeclarator) (lead : Bool) (at in_scope : ℕ) (x : Spelling)
        → declared_name d.declarator ≡ Some x → MayStopAll f (d ∷ more) lead semicolon nodes at in_scope
        → MayStop untagged types nodes_at ends f d x (name_from d.value (after_declarator more semicolon)) nodes
    one_stop f d more lead at in_scope x name may =
        let from = name_from d.value (after_declarator more semicolon) in
        let u = marks_of_declarator untagged d.declarator in
        let i = marks_of_initial untagged d.value in
        let place : first_declarator d.declarator semicolon ≡ first_declarator d.declarator x.from = first_named d.declarator x name semicolon x.from in
        let y = may.timely.1 in
        let same : x ≡ y.0 = one_name x y.0 (sym name ∙ y.1) in
        record {
          may = one_may f d more lead at in_scope x name may.may;
          prepared = left untagged ends (u ++ a_name from ∷ i) (marks_of_declarators untagged more semicolon) may.prepared;
          timely = may.timely.0;
          asks = subst (λ (x : Spelling). AreKnown untagged ends (length f.records + length (ends_in u)) x.from) (sym same) y.2;
          value_timely = may.timely.2;
          own_functions = may.own_functions;
          fresh = subst (λ p. AreFresh f (p ∷ literals_of_value d.value)) place
              (fresh_rising f at (first_declarator d.declarator semicolon ∷ literals_of_value d.value)
              (rising_front at (first_declarator d.declarator semicolon ∷ literals_of_value d.value)
              (places_of_declarators more semicolon) may.may.places)
              may.may.objects_before);
          from_is = λ v e. ap (λ value. name_from value (after_declarator more semicolon)) e;
        }
      where
        one_name : (x y : Spelling) → Some x ≡ Some y → x ≡ y
        one_name x y e = cc

    abbrev of_named : ℕ → Trees.InitDeclarator → ℕ → Additions
    of_named place d from = both (behind_name untagged place d.declarator) (of_initial untagged place from d.value)

    abbrev of_declarators : List Trees.InitDeclarator → ℕ → Additions
    of_declarators all semicolon = record {
      marks = marks_of_declarators untagged all semicolon;
      said = spoken_of_declarators all semicolon;
      made = places_of_declarators all semicolon;
    }

    abbrev Stop : FileScope → List Trees.InitDeclarator → Fault → Type 0
    Stop f all fault = DeclaratorsStop f words base all semicolon fault

    -- the first of them stops
    first_stops : (f : FileScope) (d : Trees.InitDeclarator) (more : List Trees.InitDeclarator) (x : Spelling) → declared_name d.declarator ≡ Some x
        → (fault : Fault)
        → StopsIn (of_named (first_declarator d.declarator x.from) d (name_from d.value (after_declarator more semicolon))) f
        (λ g. IsBrokenFileDeclarator g words base d (name_from d.value (after_declarator more semicolon)) fault)
        → Stop f (d ∷ more) fault
    first_stops f d more x name fault b =
        let Is = λ (g : FileScope). IsBrokenFileDeclarator g words base d (name_from d.value (after_declarator more semicolon)) fault in
        let place : first_declarator d.declarator x.from ≡ first_declarator d.declarator semicolon = first_named d.declarator x name x.from semicolon in
        let own = first_declarator d.declarator semicolon ∷ literals_of_value d.value in
        let from = name_from d.value (after_declarator more semicolon) in
        let there = stops_first (of_named (first_declarator d.declarator semicolon) d from) (of_declarators more semicolon) Is
        (subst (λ p. StopsIn (of_named p d from) f Is) place b) in
        record {
          middle = f;
          file = there.file;
          marks = [];
          types_said = [];
          places = [];
          made = [];
          later = own ++ places_of_declarators more semicolon;
          marks_later = marks_of_declarators untagged (d ∷ more) semicolon;
          said_later = spoken_of_declarators (d ∷ more) semicolon;
          step = no_step nodes_at f (λ h. AreStopped h there.file words base (d ∷ more) semicolon fault) (λ h c. inl there.is);
          places_are = refl;
          marks_are = refl;
          said_are = refl;
          reaches = there.reaches;
        }

    -- or one behind it
    later_stops : (before : List ℕ) (f m : FileScope) (d : Trees.InitDeclarator) (more : List Trees.InitDeclarator) (x : Spelling)
        → declared_name d.declarator ≡ Some x
        → Declarator untagged types nodes_at f words base d x (name_from d.value (after_declarator more semicolon)) m
        → (fault : Fault) → Stop m more fault → Stop f (d ∷ more) fault
    later_stops before f m d more x name s fault b =
        let place : first_declarator d.declarator x.from ≡ first_declarator d.declarator semicolon = first_named d.declarator x name x.from semicolon in
        let own = marks_of_declarator untagged d.declarator ++ a_name (name_from d.value (after_declarator more semicolon)) ∷ marks_of_initial untagged d.value in
        let said : List ℕ = first_declarator d.declarator x.from ∷ spoken_of_declarator d.declarator ++ spoken_by_value d.value in
        record {
          middle = b.middle;
          file = b.file;
          marks = (marks_of_declarator untagged d.declarator ++ a_name (name_from d.value
              (after_declarator more semicolon)) ∷ marks_of_initial untagged d.value)
              ++ b.marks;
          types_said = (first_declarator d.declarator x.from ∷ spoken_of_declarator d.declarator ++ spoken_by_value d.value) ++ b.types_said;
          places = (first_declarator d.declarator x.from ∷ literals_of_value d.value) ++ b.places;
          made = literals_of_value d.value ++ b.made;
          later = b.later;
          marks_later = b.marks_later;
          said_later = b.said_later;
          step = stepped_then nodes_at f m b.middle s b.step (λ i c e a q. inr (x, name, a, q));
          places_are = append_assoc (first_declarator d.declarator x.from ∷ literals_of_value d.value) b.places b.later
              ∙ ap (λ z. (first_declarator d.declarator x.from ∷ literals_of_value d.value) ++ z) b.places_are
              ∙ ap (λ p. (p ∷ literals_of_value d.value) ++ places_of_declarators more semicolon) place;
          marks_are = append_assoc own b.marks b.marks_later ∙ ap (λ z. own ++ z) b.marks_are;
          said_are = append_assoc said b.types_said b.said_later ∙ ap (λ z. said ++ z) b.said_are
              ∙ ap (λ p. (p ∷ spoken_of_declarator d.declarator ++ spoken_by_value d.value) ++ spoken_of_declarators more semicolon) place;
          reaches = b.reaches;
        }

    -- what is asked of those behind one that is declared
    pub rest_may : (before : List ℕ) (f : FileScope) (d : Trees.InitDeclarator) (more : List Trees.InitDeclarator) (lead : Bool) (at in_scope : ℕ)
        (x : Spelling)
        → declared_name d.declarator ≡ Some x → MayStopAll f (d ∷ more) lead semicolon nodes at in_scope → (m : FileScope)
        → declarator_named f words base d (name_from d.value (after_declarator more semicolon)) nodes (Some x) ≡ Ok m
        → Declarator untagged types nodes_at f words base d x (name_from d.value (after_declarator more semicolon)) m
        → IsKnown nodes_at before none_new none_new f
        → (at : ℕ) × (in_scope : ℕ) × MayStopAll m more false semicolon nodes at in_scope
    rest_may before f d more lead at in_scope x name may m h s k =
        let from = name_from d.value (after_declarator more semicolon) in
        let u = marks_of_declarator untagged d.declarator in
        let i = marks_of_initial untagged d.value in
        let own = u ++ a_name from ∷ i in
        let o = others_may before f d more lead at in_scope x name may.may m s k in
        let grown = grown_by nodes_at (before ++ literals_of_value d.value) none_new none_new f m own s.continues.extends s.records s.names
        (s.known before k) in
        let counts : length m.records ≡ length f.records + length (ends_in own) = counted_by own f m s.records in
        let split : length (ends_in own) ≡ length (ends_in u) + length (ends_in i) =
        ap length (ends_append u (a_name from ∷ i)) ∙ length-append (ends_in u) (ends_in i) in
        let number : length f.records + length (ends_in u) + length (ends_in i) ≡ length m.records = omega (arith, counts, split) in (
          o.0,
          o.1,
          record {
            may = o.2;
            prepared = right untagged ends own (marks_of_declarators untagged more semicolon) may.prepared grown;
            timely = subst (λ n. AreTimely n more) number may.timely.3;
            own_functions = own_after untagged types nodes_at ends before f words base d x from nodes
                (one_stop f d more lead at in_scope x name may) k name stands m h;
          },
        )

    abbrev MayGoOn : List Trees.InitDeclarator → FileScope → Fault → Type 0
    MayGoOn more m fault = (before : List ℕ) (at in_scope : ℕ) → MayStopAll m more false semicolon nodes at in_scope
        → IsKnown nodes_at before none_new none_new m → Stop m more fault

    behind_stops : (before : List ℕ) (f : FileScope) (d : Trees.InitDeclarator) (more : List Trees.InitDeclarator) (lead : Bool) (at in_scope : ℕ)
        → MayStopAll f (d ∷ more) lead semicolon nodes at in_scope → IsKnown nodes_at before none_new none_new f → (x : Spelling)
        → declared_name d.declarator ≡ Some x → (m : FileScope)
        → declarator_named f words base d (name_from d.value (after_declarator more semicolon)) nodes (Some x) ≡ Ok m → (fault : Fault)
        → MayGoOn more m fault → Stop f (d ∷ more) fault
    behind_stops before f d more lead at in_scope may k x name m g fault next =
        let from = name_from d.value (after_declarator more semicolon) in
        let s = declarator_step untagged types nodes_at before f words stands base d x from nodes
        (one_may f d more lead at in_scope x name may.may) k m g in
        let o = rest_may before f d more lead at in_scope x name may m g s k in
        later_stops before f m d more x name s fault (next (before ++ literals_of_value d.value) o.0 o.1 o.2 (s.known before k))

    this_stops : (before : List ℕ) (f : FileScope) (d : Trees.InitDeclarator) (more : List Trees.InitDeclarator) (lead : Bool) (at in_scope : ℕ)
        → MayStopAll f (d ∷ more) lead semicolon nodes at in_scope → IsKnown nodes_at before none_new none_new f → (x : Spelling)
        → declared_name d.declarator ≡ Some x → (fault : Fault)
        → declarator_named f words base d (name_from d.value (after_declarator more semicolon)) nodes (Some x) ≡ Err fault → Stop f (d ∷ more) fault
    this_stops before f d more lead at in_scope may k x name fault h =
        first_stops f d more x name fault
        (declarator_stops untagged types nodes_at ends before f words base d x (name_from d.value (after_declarator more semicolon)) nodes
        (one_stop f d more lead at in_scope x name may) k name fault stands h)

    none_stops : (f : FileScope) (fault : Fault) → file_declarators [] f words base semicolon nodes ≡ Err fault → ⊥
    unfolding file_declarators
    none_stops f fault h = cc

    -- which of them stops
    either_stops : (f : FileScope) (d : Trees.InitDeclarator) (more : List Trees.InitDeclarator) (x : Spelling) → declared_name d.declarator ≡ Some x
        → (fault : Fault) (P : Type 0) → file_declarators (d ∷ more) f words base semicolon nodes ≡ Err fault
        → (declarator_named f words base d (name_from d.value (after_declarator more semicolon)) nodes (Some x) ≡ Err fault → P)
        → ((m : FileScope) → declarator_named f words base d (name_from d.value (after_declarator more semicolon)) nodes (Some x) ≡ Ok m
        → file_declarators more m words base semicolon nodes ≡ Err fault → P) → P
    unfolding file_declarators
    either_stops f d more x name fault P h p q =
        bound_err (declarator_named f words base d (name_from d.value (after_declarator more semicolon)) nodes
        (declared_name d.declarator)) _ fault P h
        (λ e. p (subst (λ o. declarator_named f words base d (name_from d.value (after_declarator more semicolon)) nodes o ≡ Err fault) name e))
        (λ m e h. q m (subst (λ o. declarator_named f words base d (name_from d.value (after_declarator more semicolon)) nodes o ≡ Ok m) name e) h)

    one_stops : (before : List ℕ) (f : FileScope) (d : Trees.InitDeclarator) (more : List Trees.InitDeclarator) (lead : Bool) (at in_scope : ℕ)
        → MayStopAll f (d ∷ more) lead semicolon nodes at in_scope → IsKnown nodes_at before none_new none_new f → (fault : Fault)
        → file_declarators (d ∷ more) f words base semicolon nodes ≡ Err fault
        → ((m : FileScope) → file_declarators more m words base semicolon nodes ≡ Err fault → MayGoOn more m fault) → Stop f (d ∷ more) fault
    one_stops before f d more lead at in_scope may k fault h next =
        either_stops f d more may.timely.1.0 may.timely.1.1 fault (Stop f (d ∷ more) fault) h
        (λ e. this_stops before f d more lead at in_scope may k may.timely.1.0 may.timely.1.1 fault e)
        (λ m e h. behind_stops before f d more lead at in_scope may k may.timely.1.0 may.timely.1.1 m e fault (next m h))

    pub declarators_stop : (all : List Trees.InitDeclarator) (before : List ℕ) (f : FileScope) (lead : Bool) (at in_scope : ℕ)
        → MayStopAll f all lead semicolon nodes at in_scope → IsKnown nodes_at before none_new none_new f → (fault : Fault)
        → file_declarators all f words base semicolon nodes ≡ Err fault → Stop f all fault
    declarators_stop [] before f lead at in_scope may k fault h = absurd (none_stops f fault h)
    declarators_stop (d ∷ more) before f lead at in_scope may k fault h =
        one_stops before f d more lead at in_scope may k fault h
        (λ m h before at in_scope may k. declarators_stop more before m false at in_scope may k fault h)
