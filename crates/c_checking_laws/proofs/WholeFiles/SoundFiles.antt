-- The file that the checker answers for the items of a file is the annotated one (C99 6.7, 6.9).
use Rattle.std.proofs.Common.{◌≡◌, ◌≢◌, ℕ, zero, suc, ◌+◌, ◌<◌, Bool, true, false, refl, sym, ap, ◌∙◌, subst, List, [], ◌∷◌, ◌++◌, length, arith}
use Rattle.std.proofs.Common.{inl, inr}
use Rattle.std.specs.Prelude.{◌⊎◌, map, Option, Some, None, Ok, slice_get, codes}
use Rattle.std.specs.Option.{IsSome}
use Rattle.std.specs.List.{list_any}
use Rattle.c_types.specs.Types.{CType, Record}
use Rattle.c_ast.specs.Trees
use Rattle.c_ast.specs.WellFormed.{AreItems}
use Rattle.c_typed.specs.Trees as Typed
use Rattle.c_erasure.specs.Declarators.{AreDifferent}
use Rattle.c_erasure.specs.Files.{nodes_at, AreAscending, AreConsistentTags, IsIntroduced, IsOpen, IsDeclaredFunction, IsFileOf}
use Rattle.c_erasure.specs.Files.{IsTypedObject, IsMade, is_defined, declarations_of}
use Rattle.c_erasure.specs.Literals.{made_by_file}
use Rattle.c_erasure.specs.Marks.{marks_of_file, firsts, tags_in, ends_in, defined_in, undefined_in, scope_beginnings}
use Rattle.c_erasure.specs.Noted.{Noted}
use Rattle.c_erasure.specs.Scopes.{FileScope, Bound, Tag, an_object, a_function, AnObject, AFunction}
use Rattle.c_erasure.specs.Checking.Files.{unread, is_tentative, settled, closed_file, filed, annotated}
use Rattle.c_checking_laws.proofs.Results.{bound_ok, given}
use Rattle.c_checking_laws.proofs.WholeFiles.AddressesStay.{keeps_constants}
use Rattle.c_checking_laws.specs.TextOrder.TextOrder.{AreInTextOrder}
use Rattle.c_checking_laws.specs.WholeFiles.Found.{IsFound}
use Rattle.c_checking_laws.proofs.WholeFiles.Known.{IsADeclaredObject, IsObjectKnown, IsFunctionKnown, IsKnown, none_new}
use Rattle.c_checking_laws.proofs.WholeFiles.Names.{all_at}
use Rattle.c_checking_laws.proofs.WholeFiles.Declaring.{object_or_not, function_or_not}
use Rattle.c_checking_laws.proofs.WholeFiles.Stepping.{IsFinal}
use Rattle.c_checking_laws.proofs.WholeFiles.Items.{AreItemsFit, places_in, MayFileAll, AreFiled, all_filed}
use Rattle.c_checking_laws.proofs.WholeFiles.Orders.{all_from_slices, made_ascend, none_begins_there, rising_in, counted_by_items}
use Rattle.c_checking_laws.proofs.WholeFiles.FileTags.{tags_consistent}
use Rattle.c_checking_laws.proofs.WholeFiles.FileFacts.{laid_file, tags_different}
use Rattle.c_checking_laws.proofs.WholeFiles.Closing.{settled_is, settled_same, closed_object, closed_same, closed_continues, HasDeclarations, declarations}
use Rattle.c_checking_laws.proofs.WholeFiles.Closing.{tentative_same, left_so}

-- what is asked of the items of a file, and of the names that structures without a tag have
pub record AreFitItems (untagged : ℕ → List ℕ) (items : List Trees.Item) : Type 0 where
  pub formed : AreItems [] items
  pub order : AreInTextOrder untagged items
  pub beginnings : AreAscending (scope_beginnings (marks_of_file untagged items))
  pub fit : AreItemsFit untagged (ends_in (marks_of_file untagged items)) 0 items
  -- no enumeration has the name of a structure without a tag
  pub spelled : (k : ℕ) (t : Tag) → slice_get (tags_in (marks_of_file untagged items)) k ≡ Some t → t.is_enumeration ≡ true → (at : ℕ)
      → t.name ≢ untagged at

pub ascending_at : (all : List ℕ) → AreAscending all → (j k a b : ℕ) → j < k → slice_get all j ≡ Some a → slice_get all k ≡ Some b → a < b
ascending_at [] h j k a b l e f = cc
ascending_at (p ∷ all) h j zero a b l e f = absurd (omega (arith, l))
ascending_at (p ∷ all) h zero (suc k) a b l e f = let same : p ≡ a = cc in subst (λ a. a < b) same (all_at (λ m. p < m) all h.0 k b f)
ascending_at (p ∷ all) h (suc j) (suc k) a b l e f = ascending_at all h.1 j k a b (omega (arith, l)) e f

map_there : {X : Type 0} (v : X → ℕ) (xs : List X) (k : ℕ) (x : X) → slice_get xs k ≡ Some x → slice_get (map v xs) k ≡ Some (v x)
map_there v [] k x e = cc
map_there v (y ∷ xs) zero x e = let same : y ≡ x = cc in ap (λ x. Some (v x)) same
map_there v (y ∷ xs) (suc k) x e = map_there v xs k x e

pub nothing_known : (nodes : ℕ → ℕ) (file : ℕ) (untagged : ℕ → List ℕ) (items : List Trees.Item)
    → IsKnown nodes [] none_new none_new (unread file untagged items)
nothing_known nodes file untagged items = record {
  fits = tt;
  settled = record { first = λ k r e. cc; whole = λ k r e. cc; filled = λ k r e. cc; small = λ k r e. cc };
  whole = λ n o e. cc;
  consistent = tt;
  objects_bound = λ k b e. cc;
  functions_bound = λ k b e. cc;
  libraries_bound = λ k b e. cc;
  objects = λ n o e. cc;
  functions = λ n g e. cc;
}

module _ (file : ℕ) (untagged : ℕ → List ℕ) (items : List Trees.Item) (fit : AreFitItems untagged items) where
  abbrev start : FileScope
  start = unread file untagged items

  pub start_may : MayFileAll untagged (nodes_at items) [] start items 0 0
  start_may = record {
    same = refl;
    formed = fit.formed;
    fit = fit.fit;
    ready = record {
      names_fit = tt;
      blocks_fit = tt;
      ends_stand = λ i k right e. subst (λ n. slice_get start.ends n ≡ Some right) (let z : k ≡ 0 + k = omega arith in z) e;
    };
    counted = counted_by_items items fit.order.places;
    places = rising_in items 0 fit.order.places;
    objects_before = λ n o e. cc;
    functions_before = λ n g e. cc;
    names = fit.order.names;
    begun = λ k b e. cc;
  }

  module _ (g : FileScope) (s : AreFiled untagged (nodes_at items) start items g) where
    known : IsKnown (nodes_at items) (made_by_file items) none_new none_new g
    known = s.step.known [] (nothing_known (nodes_at items) file untagged items)

    same : g.untagged ≡ untagged
    same = s.step.continues.extends.untagged

    spots : map (λ o. o.first) (closed_file g).objects ≡ s.step.objects
    spots = closed_same (λ o. o.first) g.names 0 g.objects (λ m o. (settled_same g.names m o).first) ∙ s.step.objects_are

    final : IsFinal s.step.others (closed_file g)
    final = record {
      laid = laid_file (closed_file g) known.settled;
      none_begins = none_begins_there (closed_file g) 0 (places_in items) s.step.objects s.step.others (rising_in items 0 fit.order.places)
          s.step.objects_parted spots;
      constants = λ b p. keeps_constants b (closed_file g) p;
      consistent = known.consistent;
      rising = λ j k a b l e f.
          ascending_at (scope_beginnings (marks_of_file untagged items)) fit.beginnings j k a.from b.from l
          (subst (λ all. slice_get all j ≡ Some a.from) s.step.names (map_there (λ b. b.from) g.names j a e))
          (subst (λ all. slice_get all k ≡ Some b.from) s.step.names (map_there (λ b. b.from) g.names k b f));
    }

    -- ---- objects

    object_type : (n : ℕ) (o : AnObject) → slice_get g.objects n ≡ Some o → (k : ℕ) (b : Bound) → slice_get g.names k ≡ Some b → (u : CType)
        → b.entity ≡ an_object n u → u ≡ o.ty
    object_type n o e k b f u is =
        let q = known.objects_bound k b f n u is in
        sym q.3 ∙ ap (λ (o : AnObject). o.ty) (one q.0 o (sym q.1 ∙ e))
      where
        one : (p q : AnObject) → Some p ≡ Some q → p ≡ q
        one p q e = cc

    object_declarations : (n : ℕ) (o : AnObject) → slice_get g.objects n ≡ Some o → HasDeclarations g.names (an_object n o.ty)
    object_declarations n o e = declarations g.names (an_object n o.ty) (λ k b f. by_case k b f (object_or_not b.entity n o.ty))
      where
        by_case : (k : ℕ) (b : Bound) → slice_get g.names k ≡ Some b → ((u : CType) × (b.entity ≡ an_object n u)) ⊎ (b.entity ≢ an_object n o.ty)
            → (b.entity ≡ an_object n o.ty) ⊎ (b.entity ≢ an_object n o.ty)
        by_case k b f (inl h) = inl (h.1 ∙ ap (λ u. an_object n u) (object_type n o e k b f h.0 h.1))
        by_case k b f (inr h) = inr h

    introduced : (n : ℕ) (o : AnObject) → slice_get g.objects n ≡ Some o → IsIntroduced (closed_file g) items n (settled g.names n o)
    introduced n o e = by_kind (known.objects n o e)
      where
        not_yet : IsADeclaredObject g.file g.names n o → (d : HasDeclarations g.names (an_object n o.ty)) → is_defined d.all ≡ false → o.initial ≡ None
        not_yet k d no_one = by_initial o.initial refl
          where
            by_initial : (i : Option (Typed.Initializer Noted)) → o.initial ≡ i → i ≡ None
            by_initial None i = refl
            by_initial (Some x) i =
                let defined = d.defined (k.defined (subst IsSome (sym i) refl)) in
                let true_is_false = sym defined ∙ no_one in
                cc

        by_kind : ⊥ ⊎ IsObjectKnown g.file g.names (made_by_file items) n o → IsIntroduced (closed_file g) items n (settled g.names n o)
        by_kind (inl h) = absurd h
        by_kind (inr (inl h)) = inl (subst (IsMade (made_by_file items)) (sym (settled_same g.names n o).first) h.0)
        by_kind (inr (inr k)) =
            let d = object_declarations n o e in
            inr (
              d.all,
              d.filled k.declared,
              subst (λ t. declarations_of g.names (an_object n t) d.all) (sym (settled_same g.names n o).ty) d.are,
              left_so g n o d.all (λ i. (k.left i).0) (not_yet k d) (tentative_same g.names n o.ty d.all d.are (object_type n o e)),
            )

    held : (n : ℕ) (o : AnObject) → slice_get g.objects n ≡ Some o → (i : Typed.Initializer Noted) → (settled g.names n o).initial ≡ Some i
        → IsTypedObject (closed_file g) (settled g.names n o).ty i
    held n o e i h =
        subst (λ t. IsTypedObject (closed_file g) t i) (sym (settled_same g.names n o).ty)
        (by_case (settled_is g.names n o) (s.step.typed (closed_file g) (closed_continues g) final n o e))
      where
        parts_are : Some (Typed.parts []) ≡ Some i → Typed.parts [] ≡ i
        parts_are e = cc

        by_case : (settled g.names n o ≡ o) ⊎ ((o.initial ≡ None) × (list_any (is_tentative n) g.names ≡ true)
            × (settled g.names n o ≡ record o { initial = Some (Typed.parts []) }))
            → (slice_get start.objects n ≡ Some o) ⊎ ((i : Typed.Initializer Noted) → o.initial ≡ Some i → IsTypedObject (closed_file g) o.ty i)
            → IsTypedObject (closed_file g) o.ty i
        by_case (inl same) (inr well) = well i (sym (ap (λ (o : AnObject). o.initial) same) ∙ h)
        by_case (inl same) (inl there) = cc
        by_case (inr zeroed) t = subst (IsTypedObject (closed_file g) o.ty) (parts_are (sym (ap (λ (o : AnObject). o.initial) zeroed.2) ∙ h)) tt

    no_main : (n : ℕ) (o : AnObject) → slice_get g.objects n ≡ Some o → (settled g.names n o).is_linked ≡ true → (settled g.names n o).name ≢ codes "main"
    no_main n o e linked name =
        by_kind (known.objects n o e) (sym (settled_same g.names n o).is_linked ∙ linked) (sym (settled_same g.names n o).name ∙ name)
      where
        by_kind : ⊥ ⊎ IsObjectKnown g.file g.names (made_by_file items) n o → o.is_linked ≡ true → o.name ≡ codes "main" → ⊥
        by_kind (inl h) l m = h
        by_kind (inr (inl h)) l m = let true_is_false = sym l ∙ h.2 in cc
        by_kind (inr (inr k)) l m = k.not_main l m

    -- ---- functions

    function_known : (n : ℕ) (o : AFunction) → slice_get g.functions n ≡ Some o → IsFunctionKnown (nodes_at items) g.file g.names n o
    function_known n o e = by_kind (known.functions n o e)
      where
        by_kind : ⊥ ⊎ IsFunctionKnown (nodes_at items) g.file g.names n o → IsFunctionKnown (nodes_at items) g.file g.names n o
        by_kind (inl h) = absurd h
        by_kind (inr h) = h

    function_declarations : (n : ℕ) (o : AFunction) → slice_get g.functions n ≡ Some o → HasDeclarations g.names (a_function n o.ty)
    function_declarations n o e = declarations g.names (a_function n o.ty) (λ k b f. by_case k b f (function_or_not b.entity n o.ty))
      where
        one : (p q : AFunction) → Some p ≡ Some q → p ≡ q
        one p q e = cc

        by_case : (k : ℕ) (b : Bound) → slice_get g.names k ≡ Some b → ((u : CType) × (b.entity ≡ a_function n u)) ⊎ (b.entity ≢ a_function n o.ty)
            → (b.entity ≡ a_function n o.ty) ⊎ (b.entity ≢ a_function n o.ty)
        by_case k b f (inl h) =
            let q = known.functions_bound k b f n h.0 h.1 in
            inl (h.1 ∙ ap (λ u. a_function n u) (sym q.3 ∙ ap (λ (o : AFunction). o.ty) (one q.0 o (sym q.1 ∙ e))))
        by_case k b f (inr h) = inr h

    declared_function : (n : ℕ) (o : AFunction) → slice_get g.functions n ≡ Some o → IsDeclaredFunction (closed_file g) items n o
    declared_function n o e =
        let k = function_known n o e in
        let d = function_declarations n o e in
        (d.all, d.filled k.declared, d.are, left_open k d (is_defined d.all) refl)
      where
        left_open : IsFunctionKnown (nodes_at items) g.file g.names n o → (d : HasDeclarations g.names (a_function n o.ty)) → (b : Bool) → is_defined d.all ≡ b
            → IsOpen (closed_file g) items o b
        left_open k d true h = tt
        left_open k d false h = by_body o.body refl
          where
            by_body : (i : Option (Typed.Statement Noted)) → o.body ≡ i → IsOpen (closed_file g) items o false
            by_body None i = let l = k.left i in (i, l.0, l.1, l.2, l.3)
            by_body (Some x) i =
                let defined = d.defined (k.defined (subst IsSome (sym i) refl)) in
                let true_is_false = sym defined ∙ h in
                cc

    -- ---- the file

    is_file : IsFileOf items (closed_file g)
    is_file = record {
      tags = subst (λ u. g.tags ≡ firsts [] (tags_in (marks_of_file u items))) (sym same) s.step.continues.extends.tags;
      ends = subst (λ u. g.ends ≡ ends_in (marks_of_file u items)) (sym same) s.step.continues.extends.ends;
      numbered = subst (λ u. g.numbered ≡ defined_in (marks_of_file u items) ++ undefined_in (marks_of_file u items)) (sym same)
          s.step.continues.extends.numbered;
      records = subst (λ u. map (λ r. r.tag) g.records ≡ defined_in (marks_of_file u items)) (sym same) s.step.records;
      names = subst (λ u. map (λ b. b.from) g.names ≡ scope_beginnings (marks_of_file u items)) (sym same) s.step.names;
      mentions = s.step.mentions;
      each_item = s.step.holds (closed_file g) (closed_continues g) final;
      consistent = known.consistent;
      consistent_tags = subst (λ u. AreConsistentTags (tags_in (marks_of_file u items))) (sym same)
          (tags_consistent untagged (tags_in (marks_of_file untagged items)) fit.order.tags s.step.fit fit.spelled);
      defined_once = subst (λ u. AreDifferent (defined_in (marks_of_file u items))) (sym same)
          (subst AreDifferent s.step.records (tags_different g.numbered g.records known.settled));
      small = λ k l. let r = place g.records k l in known.settled.small k r.0 r.1;
      objects_in_order = subst AreAscending (sym spots)
          (made_ascend 0 (places_in items) s.step.objects s.step.others (rising_in items 0 fit.order.places) s.step.objects_parted);
      functions_in_order = subst AreAscending (sym s.step.functions_are)
          (made_ascend 0 (places_in items) s.step.functions s.step.no_functions (rising_in items 0 fit.order.places) s.step.functions_parted);
      objects = λ n o e. let r = closed_object g n o e in subst (IsIntroduced (closed_file g) items n) (sym r.2) (introduced n r.0 r.1);
      functions = λ n o e. declared_function n o e;
      initialized = λ n o i e h.
          let r = closed_object g n o e in
          subst (λ (o : AnObject). IsTypedObject (closed_file g) o.ty i) (sym r.2)
          (held n r.0 r.1 i (sym (ap (λ (o : AnObject). o.initial) r.2) ∙ h));
      main_is_no_object = all_from_slices (λ (o : AnObject). o.is_linked ≡ true → o.name ≢ codes "main") (closed_file g).objects
          (λ n o e. let r = closed_object g n o e in
          subst (λ (o : AnObject). o.is_linked ≡ true → o.name ≢ codes "main") (sym r.2) (no_main n r.0 r.1));
      main = λ n o e. (function_known n o e).main;
    }
      where
        place : (xs : List Record) (k : ℕ) → k < length xs → (r : Record) × (slice_get xs k ≡ Some r)
        place [] k l = absurd (omega (arith, l))
        place (r ∷ xs) zero l = (r, refl)
        place (r ∷ xs) (suc k) l = place xs k (omega (arith, l))

  -- what is known of the file behind its last item, before it is closed
  pub filed_known : (g : FileScope) → filed items start ≡ Ok g → IsKnown (nodes_at items) (made_by_file items) none_new none_new g
  filed_known g h = known g (all_filed untagged (nodes_at items) items [] [] start 0 0 start_may (nothing_known (nodes_at items) file untagged items) g h)

  pub sound_file : (f : FileScope) → annotated file untagged items ≡ Ok f → IsFound file untagged items f
  unfolding annotated
  sound_file f h =
      let g = bound_ok (filed items start) _ f h in
      let s = all_filed untagged (nodes_at items) items [] [] start 0 0 start_may (nothing_known (nodes_at items) file untagged items) g.0 g.1 in
      given (IsFound file untagged items) (closed_file g.0) f g.2 (record {
        is_file = is_file g.0 s;
        number = s.step.continues.extends.file;
        untagged_are = s.step.continues.extends.untagged;
      })
