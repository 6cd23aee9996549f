-- A declarator of an object at file scope: what it adds to the file, and what it declares (C99 6.7.8, 6.9.2).
use Rattle.std.proofs.Common.{false}
use Rattle.std.proofs.Common.{◌≡◌, ℕ, ◌+◌, ◌<◌, true, refl, sym, ap, ◌∙◌, subst, List, [], ◌∷◌, ◌++◌, length}
use Rattle.std.proofs.Common.{append-nil, append_assoc, arith, inl, inr}
use Rattle.std.proofs.lemmas.List.{map-append}
use Rattle.std.specs.Prelude.{◌⊎◌, map, Option, Some, None, Ok, slice_get, is_none}
use Rattle.std.specs.Option.{IsSome}
use Rattle.c_types.specs.Objects.{is_object}
use Rattle.c_types.specs.Types.{CType}
use Rattle.c_ast.specs.declared.words.Spelling.{Spelling}
use Rattle.c_ast.specs.Trees
use Rattle.c_ast.specs.WellFormed.{IsValue}
use Rattle.c_typed.specs.Trees as Typed
use Rattle.c_erasure.specs.Files.{IsOwnName, IsLinkage, bound, object_how}
use Rattle.c_erasure.specs.Literals.{literals, literals_of_value}
use Rattle.c_erasure.specs.Marks.{a_name, marks, marks_of_initial, ends_in, scope_beginnings, tags_in, defined_in}
use Rattle.c_erasure.specs.MentionPlaces.{spoken, spoken_by_value}
use Rattle.c_erasure.specs.Noted.{Noted}
use Rattle.c_erasure.specs.Scopes.{FileScope, Bound, defines, an_object, AnObject, AFunction, at_file_scope}
use Rattle.c_erasure.specs.Specifiers.{Storage}
use Rattle.c_erasure.specs.Checking.Declaring.{declared_among, with_bound}
use Rattle.c_erasure.specs.Checking.Files.{library_named, define_object, object_of, declare_object}
use Rattle.c_erasure.specs.Checking.Statements.{replaced_object}
use Rattle.c_checking_laws.proofs.Agreement.{Ready}
use Rattle.c_checking_laws.proofs.Extends.{Extends, further, kept}
use Rattle.c_checking_laws.proofs.Results.{bound_ok, given}
use Rattle.c_checking_laws.proofs.WholeFiles.FileObjectDeclarators.{IsObjectDeclared}
use Rattle.c_checking_laws.proofs.WholeFiles.FileObjects.{IsTheObject, object_is, definition_found, object_defined, set_types, set_same}
use Rattle.c_checking_laws.proofs.WholeFiles.FileScopes.{IsSameObject, Continues, continues_then, MayDeclare, own_answer, own_is, bound_there, bound_put}
use Rattle.c_checking_laws.proofs.WholeFiles.FileScopes.{first_later}
use Rattle.c_checking_laws.proofs.WholeFiles.InTime.{IsInTime}
use Rattle.c_checking_laws.proofs.Settled.{are_complete}
use Rattle.c_checking_laws.proofs.WholeFiles.Kept.{AreTagsFit}
use Rattle.c_checking_laws.proofs.WholeFiles.KeepingInitials.{keep_initializer}
use Rattle.c_checking_laws.proofs.WholeFiles.LocalObjects.{IsValueInRange}
use Rattle.c_checking_laws.proofs.WholeFiles.Parts.{parted_then}
use Rattle.c_checking_laws.proofs.WholeFiles.Known.{IsADeclaredObject, IsKnown, none_new, this_one, known_more}
use Rattle.c_checking_laws.proofs.WholeFiles.Making.{finding_known}
use Rattle.c_checking_laws.proofs.WholeFiles.Declaring.{replaced_known, settle_object}
use Rattle.c_checking_laws.proofs.WholeFiles.Stepping.{Stepped, all_bytes, ready_behind, IsWellHeld, as_typed_object, held_so, nothing_held, literal_held}
use Rattle.c_checking_laws.proofs.WholeFiles.Stepping.{from_set}
use Rattle.c_erasure.specs.Files.{IsTypedObject}
use Rattle.c_checking_laws.proofs.WholeFiles.Kept.{IsALiteral, Keeps}
use Rattle.c_checking_laws.proofs.WholeFiles.Scoped.{new_of}
use Rattle.c_checking_laws.proofs.WholeFiles.ObjectSteps.{IsNew, IsOld, entered, once_is, how_none, made_of_parts, made_both, stands_for, InMaking}
use Rattle.c_checking_laws.proofs.WholeFiles.ObjectSteps.{new_in_making}
use Rattle.c_checking_laws.proofs.WholeFiles.ObjectSteps.{old_in_making}

abbrev with_initial : FileScope → (place : ℕ) → Typed.Initializer Noted → AnObject → AnObject
with_initial f place i o = record o { place = record { file = f.file; at = place }; initial = Some i }

module _ (untagged : ℕ → List ℕ) (types : List (List ℕ)) (nodes_at : ℕ → ℕ) where
  -- what is asked of the file
  pub record MayDeclareObject (f : FileScope) (words : Storage) (place from : ℕ) (t : CType) (value : Option (ℕ × Trees.Expression)) : Type 0 where
    pub may : MayDeclare words
    pub whole : is_object (length f.records) t ≡ true
    pub same : f.untagged ≡ untagged
    pub formed : IsValue types value
    pub in_range : IsValueInRange f.ends (length f.records + length (ends_in (marks_of_initial untagged value))) value
    pub ready : Ready (at_file_scope f) (a_name from ∷ marks_of_initial untagged value)
    pub objects_before : (n : ℕ) (o : AnObject) → slice_get f.objects n ≡ Some o → o.first < place
    pub functions_before : (n : ℕ) (g : AFunction) → slice_get f.functions n ≡ Some g → g.first < place

  abbrev pub DeclaredObject : FileScope → Storage → Spelling → (place from : ℕ) → CType → Option (ℕ × Trees.Expression) → FileScope → Type 0
  DeclaredObject f words x place from t value g = IsOwnName x.text
      × Stepped nodes_at (a_name from ∷ marks_of_initial untagged value) (spoken_by_value value) (place ∷ literals_of_value value) (literals_of_value value) f
      (λ h. IsObjectDeclared untagged words x place from t value (is_none (declared_among f.names x.text)) h) g

  module _ (before : List ℕ) (f : FileScope) (words : Storage) (x : Spelling) (place from : ℕ) (t : CType) where
    -- an object without an initializer
    tentative_step : MayDeclareObject f words place from t None → IsKnown nodes_at before none_new none_new f → (n : ℕ × FileScope)
        → (v : IsTheObject f words x place t (is_none (declared_among f.names x.text)) n)
        → ((b : List ℕ) → IsKnown nodes_at b none_new none_new f → InMaking nodes_at b f words x place t (object_how words None) from n.0 n.1 v.object)
        → IsOwnName x.text → DeclaredObject f words x place from t None (with_bound n.1 (bound x from (object_how words None) (an_object n.0 t)))
    tentative_step may k n v in_making own =
        let b = bound x from (object_how words None) (an_object n.0 t) in
        let i = in_making before k in
        let names : n.1.names ≡ f.names = ap (λ (g : FileScope). g.names) i.same in (
          own,
          record {
            continues = continues_then v.continues (bound_put n.1 b);
            fit = tt;
            names = map-append (λ b. b.from) n.1.names (b ∷ []) ∙ ap (λ all. map (λ b. b.from) all ++ from ∷ []) names;
            records = ap (λ (g : FileScope). map (λ r. r.tag) g.records) i.same ∙ sym (append-nil _);
            mentions = ap (λ (g : FileScope). map (λ m. m.at) g.mentions) i.same ∙ sym (append-nil _);
            objects = i.objects;
            others = i.others;
            objects_parted = i.parted;
            objects_are = i.objects_are;
            functions = [];
            no_functions = place ∷ [];
            functions_parted = all_bytes (place ∷ []);
            functions_are = ap (λ (g : FileScope). map (λ o. o.first) g.functions) i.same ∙ sym (append-nil _);
            known = λ before k. known_after before k (in_making before k);
            holds = λ h c e.
                let q = (continues_then (bound_put n.1 b) c).objects n.0 v.object v.stands in
                record {
                  number = n.0;
                  object = q.0;
                  stands = q.1;
                  name = q.2.name ∙ v.name;
                  ty = q.2.ty ∙ v.ty;
                  literal = q.2.literal ∙ v.literal;
                  linkage = subst (IsLinkage words (is_none (declared_among f.names x.text))) (sym q.2.is_linked) v.linkage;
                  first_place = first_later (is_none (declared_among f.names x.text)) q.0.first v.object.first place q.2.first v.first_place;
                  binds = bound_there n.1 h b c.extends;
                  defined = tt;
                };
            typed = λ h c e m q there. held h m q (i.only m q there);
          },
        )
      where
        held : (h : FileScope) (m : ℕ) (q : AnObject) → (slice_get f.objects m ≡ Some q) ⊎ (q.initial ≡ None)
            → (slice_get f.objects m ≡ Some q) ⊎ IsWellHeld h q
        held h m q (inl e) = inl e
        held h m q (inr e) = inr (nothing_held h q e)

        known_after : (before : List ℕ) → IsKnown nodes_at before none_new none_new f
            → InMaking nodes_at before f words x place t (object_how words None) from n.0 n.1 v.object
            → IsKnown nodes_at (before ++ []) none_new none_new (with_bound n.1 (bound x from (object_how words None) (an_object n.0 t)))
        known_after before k i =
            let b = bound x from (object_how words None) (an_object n.0 t) in
            let d = i.as_declared (how_none words) in
            let file : f.file ≡ n.1.file = sym (ap (λ (g : FileScope). g.file) i.same) in
            let names : f.names ≡ n.1.names = sym (ap (λ (g : FileScope). g.names) i.same) in
            let there = subst (λ names. IsADeclaredObject n.1.file (names ++ b ∷ []) n.0 v.object) names
            (subst (λ file. IsADeclaredObject file (f.names ++ b ∷ []) n.0 v.object) file d) in
            subst (λ made. IsKnown nodes_at made none_new none_new (with_bound n.1 b)) (sym (append-nil before))
            (settle_object nodes_at before none_new (with_bound n.1 b) n.0 v.object v.stands (inr there) i.known)

    -- one with an initializer
    defined_step : (value : ℕ × Trees.Expression) → MayDeclareObject f words place from t (Some value) → IsKnown nodes_at before none_new none_new f
        → (n : ℕ × FileScope) → (v : IsTheObject f words x place t (is_none (declared_among f.names x.text)) n)
        → ((b : List ℕ) → IsKnown nodes_at b none_new none_new f → InMaking nodes_at b f words x place t defines from n.0 n.1 v.object)
        → IsOwnName x.text → (g : FileScope)
        → define_object (with_bound n.1 (bound x from defines (an_object n.0 t))) n.0 place (Some value) t ≡ Ok g
        → DeclaredObject f words x place from t (Some value) g
    defined_step value may k n v in_making own g h =
        let b = bound x from defines (an_object n.0 t) in
        let u = marks untagged value.1 in
        let f2 = with_bound n.1 b in
        let i = in_making before k in
        let s = at_file_scope f2 in
        let records : n.1.records ≡ f.records = ap (λ (g : FileScope). g.records) i.same in
        let ends : n.1.ends ≡ f.ends = ap (λ (g : FileScope). g.ends) i.same in
        let names : n.1.names ≡ f.names = ap (λ (g : FileScope). g.names) i.same in
        let whole : is_object (length n.1.records) t ≡ true = subst (λ records. is_object (length records) t ≡ true) (sym records) may.whole in
        let same : n.1.untagged ≡ untagged = ap (λ (g : FileScope). g.untagged) i.same ∙ may.same in
        let ready = ready_behind f f2 (a_name from ∷ []) u may.ready ends (let c = ap (λ all. length all) records in omega (arith, c)) i.known.fits in
        let d = definition_found untagged f2 n.0 place value t v.object v.stands (i.undefined refl) may.in_range.0 ready (are_complete i.known.settled) same
        whole g h in
        let keeps = keep_initializer untagged types value.1 s same (λ j. may.formed) t (d.initial, d.after) d.found in
        let new = with_initial f2 place d.initial v.object in
        let after_counts = d.whole.grew.counted in
        let there : slice_get d.after.objects n.0 ≡ Some v.object =
        subst (λ all. slice_get all n.0 ≡ Some v.object) (sym d.whole.grows.objects.1) (kept f2.objects d.whole.grows.objects.0 n.0 v.object v.stands) in
        let timely : IsInTime d.after.ends (length d.after.records) value.1 =
        subst (λ ends. IsInTime ends (length d.after.records) value.1) (sym (d.whole.grew.extends.ends ∙ ends))
        (subst (λ m. IsInTime f.ends m value.1) (let c = ap (λ all. length all) records in omega (arith, c, after_counts)) may.in_range.1) in
        let swap : Continues d.after (replaced_object d.after n.0 new) =
        object_defined d.after n.0 v.object new there (i.undefined refl) (same_object d.initial) in
        let into = made_of_parts (literals value.1) d.whole.made d.whole.texts d.whole.parted in (
          own,
          record {
            continues = continues_then v.continues (continues_then (bound_put n.1 b) d.continues);
            fit = subst (λ names. AreTagsFit names f.tags (tags_in u)) (ap (λ (g : FileScope). g.untagged) i.same)
                (subst (λ tags. AreTagsFit n.1.untagged tags (tags_in u)) (ap (λ (g : FileScope). g.tags) i.same) (keeps.fit refl));
            names = ap (λ (g : FileScope). map (λ b. b.from) g.names) d.file_is ∙ d.whole.grows.names
                ∙ ap (λ z. z ++ scope_beginnings u) (map-append (λ b. b.from) n.1.names (b ∷ []) ∙ ap (λ all. map (λ b. b.from) all ++ from ∷ []) names)
                ∙ append_assoc (map (λ b. b.from) f.names) (from ∷ []) (scope_beginnings u);
            records = ap (λ (g : FileScope). map (λ r. r.tag) g.records) d.file_is ∙ d.whole.grows.records
                ∙ ap (λ (g : FileScope). map (λ r. r.tag) g.records ++ defined_in u) i.same;
            mentions = ap (λ (g : FileScope). map (λ m. m.at) g.mentions) d.file_is ∙ d.whole.grows.mentions
                ∙ ap (λ (g : FileScope). map (λ m. m.at) g.mentions ++ spoken value.1) i.same;
            objects = i.objects ++ d.whole.made;
            others = i.others ++ d.whole.texts;
            objects_parted = parted_then i.parted d.whole.parted;
            objects_are = ap (λ (g : FileScope). map (λ o. o.first) g.objects) d.file_is
                ∙ set_types (λ o. o.first) d.after.objects n.0 v.object new there refl
                ∙ ap (λ all. map (λ o. o.first) all) d.whole.grows.objects.1 ∙ map-append (λ o. o.first) n.1.objects d.whole.grows.objects.0
                ∙ ap (λ z. map (λ o. o.first) n.1.objects ++ z) d.whole.grows.objects.2 ∙ ap (λ z. z ++ d.whole.made) i.objects_are
                ∙ append_assoc (map (λ o. o.first) f.objects) i.objects d.whole.made;
            functions = [];
            no_functions = place ∷ literals value.1;
            functions_parted = all_bytes (place ∷ literals value.1);
            functions_are = ap (λ (g : FileScope). map (λ o. o.first) g.functions) d.file_is ∙ ap (λ all. map (λ o. o.first) all) d.whole.grows.functions
                ∙ ap (λ (g : FileScope). map (λ o. o.first) g.functions) i.same ∙ sym (append-nil _);
            known = λ before k.
                let j = in_making before k in
                let l = finding_known nodes_at (this_one n.0) none_new before d.whole.grew keeps d.whole.grows j.known in
                let m = known_more nodes_at (before ++ d.whole.made) (before ++ literals value.1) (this_one n.0) none_new d.after
                (made_both before d.whole.made (literals value.1) into) l in
                let r = replaced_known nodes_at (before ++ literals value.1) none_new d.after n.0 v.object new there (same_object d.initial) swap.extends m in
                subst (IsKnown nodes_at (before ++ literals value.1) none_new none_new) (sym d.file_is)
                (settle_object nodes_at (before ++ literals value.1) none_new (replaced_object d.after n.0 new) n.0 new
                (set_same d.after.objects n.0 v.object new there)
                (inr (settled j d.initial d.after keeps.names.0 keeps.names.1)) r);
            holds = λ h c e.
                let all = continues_then d.continues c in
                let q = all.objects n.0 v.object v.stands in
                record {
                  number = n.0;
                  object = q.0;
                  stands = q.1;
                  name = q.2.name ∙ v.name;
                  ty = q.2.ty ∙ v.ty;
                  literal = q.2.literal ∙ v.literal;
                  linkage = subst (IsLinkage words (is_none (declared_among f.names x.text))) (sym q.2.is_linked) v.linkage;
                  first_place = first_later (is_none (declared_among f.names x.text)) q.0.first v.object.first place q.2.first v.first_place;
                  binds = bound_there n.1 h b all.extends;
                  defined = (d.holds h (record {
                    continues = c;
                    laid = e.laid;
                    none_begins = Rattle.c_checking_laws.proofs.WholeFiles.Parts.none_right h i.others d.whole.texts e.none_begins;
                  }) (
                    e.constants d.after (further swap.extends (subst (λ g. Extends g h) d.file_is c.extends)),
                    are_complete (keeps.settled i.known.settled),
                    keeps.whole i.known.whole,
                    timely,
                  ) q.0 q.1).0;
                };
            typed = λ h c e m q there.
                let all = continues_then d.continues c in
                let r = all.objects n.0 v.object v.stands in
                let own = (d.holds h (record {
                  continues = c;
                  laid = e.laid;
                  none_begins = Rattle.c_checking_laws.proofs.WholeFiles.Parts.none_right h i.others d.whole.texts e.none_begins;
                }) (
                  e.constants d.after (further swap.extends (subst (λ g. Extends g h) d.file_is c.extends)),
                  are_complete (keeps.settled i.known.settled),
                  keeps.whole i.known.whole,
                  timely,
                ) r.0 r.1).1 in
                held h m q d.initial (as_typed_object h t d.initial own) d.after keeps i.only
                (from_set d.after.objects n.0 m new q (subst (λ (g : FileScope). slice_get g.objects m ≡ Some q) d.file_is there));
          },
        )
      where
        held : (h : FileScope) (m : ℕ) (q : AnObject) (j : Typed.Initializer Noted) → IsTypedObject h t j → (after : FileScope)
            → Keeps (with_bound n.1 (bound x from defines (an_object n.0 t))) false (marks untagged value.1) after
            → ((m : ℕ) (q : AnObject) → slice_get n.1.objects m ≡ Some q → (slice_get f.objects m ≡ Some q) ⊎ (q.initial ≡ None))
            → ((m ≡ n.0) × (q ≡ with_initial (with_bound n.1 (bound x from defines (an_object n.0 t))) place j v.object)) ⊎ (slice_get after.objects m ≡ Some q)
            → (slice_get f.objects m ≡ Some q) ⊎ IsWellHeld h q
        held h m q j w after keeps only (inl e) =
            let new = with_initial (with_bound n.1 (bound x from defines (an_object n.0 t))) place j v.object in
            inr (subst (IsWellHeld h) (sym e.1) (held_so h new j refl (subst (λ t. IsTypedObject h t j) (sym v.ty) w)))
        held h m q j w after keeps only (inr e) = by_kind (new_of keeps m q e)
          where
            by_age : (slice_get f.objects m ≡ Some q) ⊎ (q.initial ≡ None) → (slice_get f.objects m ≡ Some q) ⊎ IsWellHeld h q
            by_age (inl e) = inl e
            by_age (inr e) = inr (nothing_held h q e)

            by_kind : (slice_get n.1.objects m ≡ Some q) ⊎ IsALiteral n.1.file q → (slice_get f.objects m ≡ Some q) ⊎ IsWellHeld h q
            by_kind (inl e) = by_age (only m q e)
            by_kind (inr e) = inr (literal_held h n.1.file q e)

        same_object : (i : Typed.Initializer Noted) → IsSameObject v.object (with_initial (with_bound n.1 (bound x from defines (an_object n.0 t))) place i v.object)
        same_object i = record { name = refl; first = refl; ty = refl; is_linked = refl; literal = refl; settled = λ s. absurd (no_initial s) }
          where
            no_initial : IsSome v.object.initial → ⊥
            no_initial s = let none_is_some = subst IsSome ((in_making before k).undefined refl) s in cc

        settled : {before : List ℕ} → InMaking nodes_at before f words x place t defines from n.0 n.1 v.object → (i : Typed.Initializer Noted)
            → (after : FileScope) (more : List Bound) → after.names ≡ (n.1.names ++ bound x from defines (an_object n.0 t) ∷ []) ++ more
            → IsADeclaredObject after.file after.names n.0 (with_initial (with_bound n.1 (bound x from defines (an_object n.0 t))) place i v.object)
        settled j i after more e =
            let b = bound x from defines (an_object n.0 t) in
            let at = kept (n.1.names ++ b ∷ []) more (length n.1.names) b (Rattle.c_checking_laws.proofs.Extends.at_end n.1.names b) in
            let there = subst (λ names. slice_get names (length n.1.names) ≡ Some b) (sym e) at in
            let is = ap (λ t. an_object n.0 t) (sym v.ty) in
            record {
              declared = (length n.1.names, b, there, is);
              left = λ e. cc;
              defined = λ s. (length n.1.names, b, there, is, refl);
              not_main = j.not_main;
            }

    pub object_step : (value : Option (ℕ × Trees.Expression)) → MayDeclareObject f words place from t value → IsKnown nodes_at before none_new none_new f
        → (g : FileScope) → declare_object f words x place from t value ≡ Ok g → DeclaredObject f words x place from t value g
    object_step value may k g h =
        let a = own_answer x.from (library_named x.text) _ g h in
        let n = bound_ok (object_of f words x place t (declared_among f.names x.text)) _ g a.1 in
        let v = object_is f words may.may x place t (declared_among f.names x.text)
        (stands_for nodes_at before f x place k may.objects_before may.functions_before) n.0 n.1 in
        let o = once_is f x value _ g n.2 in
        let e = entered f words x place t (declared_among f.names x.text) refl n.0 n.1 in
        by_value value may o.0 o.1 e v (own_is x.text a.0)
      where
        in_making : (value : Option (ℕ × Trees.Expression)) → MayDeclareObject f words place from t value
            → ((v : ℕ × Trees.Expression) → value ≡ Some v → Rattle.c_erasure.specs.Checking.Files.defined_among f.names x.text ≡ None)
            → (n : ℕ × FileScope) → IsNew f words x place t n ⊎ IsOld f x t n
            → (v : IsTheObject f words x place t (is_none (declared_among f.names x.text)) n) → (b : List ℕ) → IsKnown nodes_at b none_new none_new f
            → InMaking nodes_at b f words x place t (object_how words value) from n.0 n.1 v.object
        in_making value may once n (inl e) v b k = new_in_making nodes_at b f words may.may x place t (object_how words value) from may.whole k n e v
        in_making value may once n (inr e) v b k = old_in_making nodes_at b f words may.may x place t (object_how words value) from (by_value value once) k n e v
          where
            by_value : (value : Option (ℕ × Trees.Expression))
                → ((v : ℕ × Trees.Expression) → value ≡ Some v → Rattle.c_erasure.specs.Checking.Files.defined_among f.names x.text ≡ None)
                → object_how words value ≡ defines → Rattle.c_erasure.specs.Checking.Files.defined_among f.names x.text ≡ None
            by_value None once d = absurd (how_none words d)
            by_value (Some v) once d = once v refl

        by_value : (value : Option (ℕ × Trees.Expression)) → MayDeclareObject f words place from t value → {n : ℕ × FileScope}
            → define_object (with_bound n.1 (bound x from (object_how words value) (an_object n.0 t))) n.0 place value t ≡ Ok g
            → ((v : ℕ × Trees.Expression) → value ≡ Some v → Rattle.c_erasure.specs.Checking.Files.defined_among f.names x.text ≡ None)
            → IsNew f words x place t n ⊎ IsOld f x t n
            → (v : IsTheObject f words x place t (is_none (declared_among f.names x.text)) n) → IsOwnName x.text
            → DeclaredObject f words x place from t value g
        by_value None may {n} h once e v own =
            given (DeclaredObject f words x place from t None) (with_bound n.1 (bound x from (object_how words None) (an_object n.0 t))) g h
            (tentative_step may k n v (in_making None may once n e v) own)
        by_value (Some value) may {n} h once e v own = defined_step value may k n v (in_making (Some value) may once n e v) own g h
