-- Where a declarator of an object of the file scope stops behind its type, a rule is broken (C99 6.7.8, 6.9.2).
use Rattle.std.proofs.Common.{◌≡◌, ◌≢◌, ℕ, zero, suc, ◌≤◌, ◌<◌, true, false, refl, sym, ap, ◌∙◌, subst, List, [], ◌∷◌, ◌++◌, length, inl}
use Rattle.std.proofs.Common.{inr, arith}
use Rattle.std.proofs.Common.{append-nil}
use Rattle.std.proofs.lemmas.List.{map-append}
use Rattle.std.specs.Prelude.{◌⊎◌, map, Option, Some, None, Err, slice_get, is_none}
use Rattle.c_types.specs.Objects.{is_object}
use Rattle.c_types.specs.Types.{CType}
use Rattle.c_ast.specs.declared.words.Spelling.{Spelling}
use Rattle.c_ast.specs.Trees
use Rattle.c_ast.specs.WellFormed.{IsValue}
use Rattle.c_typed.specs.Conversions.{is_function}
use Rattle.c_erasure.specs.Broken.{Fault}
use Rattle.c_erasure.specs.BrokenFiles.{IsDefinedThere, IsBrokenFileDeclarator}
use Rattle.c_erasure.specs.BrokenStatements.{IsAmong, IsBrokenInitial, HasNoConstants}
use Rattle.c_erasure.specs.Declarators.{declared_name, Shape}
use Rattle.c_erasure.specs.Erasure.{Declares}
use Rattle.c_erasure.specs.Files.{bound, object_how}
use Rattle.c_erasure.specs.Literals.{literals, literals_of_value}
use Rattle.c_erasure.specs.Marks.{a_name, marks, marks_of_initial}
use Rattle.c_erasure.specs.MentionPlaces.{spoken_by_value}
use Rattle.c_erasure.specs.Scopes.{FileScope, AnObject, AFunction, defines, an_object, at_file_scope}
use Rattle.c_erasure.specs.Specifiers.{Storage}
use Rattle.c_erasure.specs.Statements.{IsSized}
use Rattle.c_erasure.specs.Checking.Declaring.{declared_among, with_bound}
use Rattle.c_erasure.specs.Checking.Files.{library_named, declare_object, object_of, defined_once, define_object, defined_among, new_object, with_new_object}
use Rattle.c_erasure.specs.Checking.Statements.{constants_if_any}
use Rattle.c_checking_laws.proofs.Extends.{Extends, itself, further, bound_stays, at_end, last_or}
use Rattle.c_checking_laws.proofs.FaultPremises.{IsPrepared, right}
use Rattle.c_checking_laws.proofs.FaultAdditions.{of}
use Rattle.c_checking_laws.proofs.FaultResults.{bound_err}
use Rattle.c_checking_laws.proofs.Within.{Additions}
use Rattle.c_checking_laws.proofs.WholeFiles.FileScopes.{MayDeclare, bound_put, continues_then}
use Rattle.c_checking_laws.proofs.WholeFiles.FileObjects.{IsTheObject, object_is}
use Rattle.c_checking_laws.proofs.Settled.{are_complete}
use Rattle.c_checking_laws.proofs.WholeFiles.KeepingInitials.{keep_initializer}
use Rattle.c_checking_laws.proofs.WholeFiles.LocalObjects.{IsValueInRange}
use Rattle.c_checking_laws.proofs.WholeFiles.Locals.{IsSizedOver, sized_later}
use Rattle.c_checking_laws.proofs.WholeFiles.FileFacts.{laid_file}
use Rattle.c_checking_laws.proofs.WholeFiles.Known.{IsKnown, none_new, this_one}
use Rattle.c_checking_laws.proofs.WholeFiles.ObjectSteps.{IsNew, IsOld, entered, stands_for, InMaking, new_in_making, old_in_making}
use Rattle.c_checking_units.proofs.FirstStops.BracesFaults.{IsInitialTimely}
use Rattle.c_checking_units.proofs.FirstStops.Clear.{AreFresh, BeginAt, fresh_right, picked_made}
use Rattle.c_checking_units.proofs.FirstStops.Constants.{constant_faults}
use Rattle.c_checking_units.proofs.FirstStops.UpTo.{Exactly, up_to_within}
use Rattle.c_checking_units.proofs.FirstStops.Behind.{grown_by, StopsIn, stops_here, stops_later, stops_of}
use Rattle.c_checking_units.proofs.FirstStops.DeclaratorStops.{ruled_here, taken_here, twice_here, main_linked, no_library_type}
use Rattle.c_checking_units.proofs.FirstStops.Tests.{named_is, own_fault, once_fault, object_of_fault, twice_defined}

-- ---- a new object, and a name more

new_begins : (f g : FileScope) (o : AnObject) → with_new_object f o ≡ g → BeginAt f (o.first ∷ []) g
new_begins f g o file = record {
  begins = λ n q h. by_part n q (last_or f.objects o n q (subst (λ (g : FileScope). slice_get g.objects n ≡ Some q) (sym file) h));
}
  where
    by_part : (n : ℕ) (q : AnObject) → (slice_get f.objects n ≡ Some q) ⊎ ((n ≡ length f.objects) × (o ≡ q))
        → (slice_get f.objects n ≡ Some q) ⊎ IsAmong (o.first ∷ []) q.first
    by_part n q (inl h) = inl h
    by_part n q (inr h) = inr (inl (sym (ap (λ (o : AnObject). o.first) h.1)))

type_at : (all : List AnObject) (n : ℕ) (o : AnObject) (t : CType) → slice_get all n ≡ Some o → o.ty ≡ t → slice_get (map (λ o. o.ty) all) n ≡ Some t
type_at [] n o t h e = cc
type_at (q ∷ all) zero o t h e = let same : q ≡ o = cc in ap Some (ap (λ (o : AnObject). o.ty) same ∙ e)
type_at (q ∷ all) (suc n) o t h e = type_at all n o t h e

entered_begins : (f : FileScope) (words : Storage) (x : Spelling) (place : ℕ) (t : CType) (n : ℕ × FileScope)
    → IsNew f words x place t n ⊎ IsOld f x t n → BeginAt f (place ∷ []) n.1
entered_begins f words x place t n (inl e) =
    new_begins f n.1 (new_object f words x place t) (ap (λ (z : ℕ × FileScope). z.1) e.1)
entered_begins f words x place t n (inr e) =
    subst (BeginAt f (place ∷ [])) e.3 (record { begins = λ m o h. inl h })

-- the name, and the place of the object
abbrev of_name : (place from : ℕ) → Additions
of_name place from = record { marks = a_name from ∷ []; said = []; made = place ∷ [] }

-- with its initializer, or none
abbrev pub of_initial : (untagged : ℕ → List ℕ) (place from : ℕ) → Option (ℕ × Trees.Expression) → Additions
of_initial untagged place from value = record {
  marks = a_name from ∷ marks_of_initial untagged value;
  said = spoken_by_value value;
  made = place ∷ literals_of_value value;
}

module _ (untagged : ℕ → List ℕ) (types : List (List ℕ)) (nodes_at : ℕ → ℕ) (ends : List ℕ) where
  -- records are known where an initializer of the file scope asks for them
  abbrev pub IsValueTimely : ℕ → Option (ℕ × Trees.Expression) → Type 0
  IsValueTimely n None = Unit {0}
  IsValueTimely n (Some value) = IsInitialTimely untagged ends false n value.1

  -- what is asked of an initializer, or none, of an object whose declarator is read
  pub record MayInitialize (f : FileScope) (place from n : ℕ) (value : Option (ℕ × Trees.Expression)) : Type 0 where
    pub formed : IsValue types value
    pub ends_there : List ℕ
    pub complete : ℕ
    pub in_range : IsValueInRange ends_there complete value
    pub prepared : IsPrepared untagged ends f [] [] false (a_name from ∷ marks_of_initial untagged value)
    pub many : n ≤ length f.records
    pub timely : IsValueTimely n value
    pub fresh : AreFresh f (place ∷ literals_of_value value)
    pub from_is : (v : ℕ × Trees.Expression) → value ≡ Some v → from ≡ v.0

  module _ (before : List ℕ) (f : FileScope) (words : Storage) (may : MayDeclare words) (base : CType) (d : Trees.InitDeclarator) (x : Spelling)
      (place from n : ℕ) (t : CType) (name : declared_name d.declarator ≡ Some x) (shape : Shape)
      (declares : (g : FileScope) → Extends f g → Declares (at_file_scope g) d.declarator base shape) (sized : IsSizedOver f.records shape d.value t)
      (no_function : is_function t ≡ false) (whole : is_object (length f.records) t ≡ true) (k : IsKnown nodes_at before none_new none_new f)
      (objects_before : (n : ℕ) (o : AnObject) → slice_get f.objects n ≡ Some o → o.first < place)
      (functions_before : (n : ℕ) (g : AFunction) → slice_get f.functions n ≡ Some g → g.first < place) (fault : Fault) where
    abbrev Is : FileScope → Type 0
    Is g = IsBrokenFileDeclarator g words base d from fault

    sized_at : (g : FileScope) → Extends f g → IsSized (at_file_scope g) shape d.value t
    sized_at g p = sized_later p (at_file_scope g) refl shape d.value t whole sized

    -- the object is entered, and its name bound
    in_making : (value : ℕ × Trees.Expression) (z : ℕ × FileScope) → IsNew f words x place t z ⊎ IsOld f x t z → defined_among f.names x.text ≡ None
        → (v : IsTheObject f words x place t (is_none (declared_among f.names x.text)) z)
        → InMaking nodes_at before f words x place t defines from z.0 z.1 v.object
    in_making value z (inl e) none v = new_in_making nodes_at before f words may x place t defines from whole k z e v
    in_making value z (inr e) none v =
        old_in_making nodes_at before f words may x place t defines from (λ d. none) k z e v

    initial_stops : (value : ℕ × Trees.Expression) → d.value ≡ Some value → MayInitialize f place from n (Some value) → (z : ℕ × FileScope)
        → IsNew f words x place t z ⊎ IsOld f x t z → defined_among f.names x.text ≡ None
        → (v : IsTheObject f words x place t (is_none (declared_among f.names x.text)) z)
        → constants_if_any (Some value) (at_file_scope (with_bound z.1 (bound x from defines (an_object z.0 t)))) t ≡ Err fault
        → StopsIn (of_initial untagged place from (Some value)) f Is
    initial_stops value is asks z e none v h =
        let b = bound x from defines (an_object z.0 t) in
        let c = with_bound z.1 b in
        let u = marks untagged value.1 in
        let i = in_making value z e none v in
        let records : z.1.records ≡ f.records = ap (λ (g : FileScope). g.records) i.same in
        let names : z.1.names ≡ f.names = ap (λ (g : FileScope). g.names) i.same in
        let p : Extends f c = further v.continues.extends (bound_put z.1 b).extends in
        let grown = grown_by nodes_at before (this_one z.0) none_new f c (a_name from ∷ []) p
        (ap (λ all. map (λ r. r.tag) all) records ∙ sym (append-nil _))
        (map-append (λ b. b.from) z.1.names (b ∷ []) ∙ ap (λ all. map (λ b. b.from) all ++ from ∷ []) names) i.known in
        let prepared = right untagged ends (a_name from ∷ []) u asks.prepared grown in
        let same : c.untagged ≡ untagged = prepared.untagged_are in
        let many : n ≤ length c.records = let m = asks.many in let l = ap (λ all. length all) records in omega (arith, m, l) in
        let begins : BeginAt f (place ∷ []) c = record { begins = (entered_begins f words x place t z e).begins } in
        let fresh : AreFresh c (literals value.1) = fresh_right (place ∷ []) (literals value.1) asks.fresh begins in
        let entered : Exactly f (of_name place from) c = record {
          names = map-append (λ b. b.from) z.1.names (b ∷ []) ∙ ap (λ all. map (λ b. b.from) all ++ from ∷ []) names;
          records = ap (λ all. map (λ r. r.tag) all) records ∙ sym (append-nil _);
          mentions = λ at h. inl (subst (λ (g : FileScope). IsAmong (map (λ m. m.at) g.mentions) at) i.same h);
          objects = (i.objects, i.objects_are, picked_made i.parted);
          functions = ([], ap (λ (g : FileScope). map (λ o. o.first) g.functions) i.same ∙ sym (append-nil _), tt);
          consistent = λ h. i.known.consistent;
          settled = λ h. i.known.settled;
        } in
        let known : is_object (length c.records) t ≡ true = subst (λ records. is_object (length records) t ≡ true) (sym records) whole in
        let stop = constant_faults untagged ends c value (at_file_scope c) n asks.in_range.0 prepared many asks.timely
        (record { complete = are_complete i.known.settled; extends = itself c; same = same }) fresh t known
        (λ y j. laid_file y.1 ((keep_initializer untagged types value.1 (at_file_scope c) same
        (λ e. asks.formed) t y j).settled i.known.settled)) fault h in
        stops_later (of_name place from) (of untagged value.1) Is (continues_then v.continues (bound_put z.1 b)) entered
        (stops_of (of untagged value.1) (of untagged value.1) fresh.none_at (λ g w settled. up_to_within (of untagged value.1) w settled)
        (λ s. IsBrokenInitial (Some value) s t fault ⊎ HasNoConstants (Some value) s t fault) Is stop
        (λ g q broken.
        let stands : slice_get g.names (length z.1.names) ≡ Some b = bound_stays q (length z.1.names) b (at_end z.1.names b) in
        ruled_here g words base d x t from fault name shape (declares g (further p q)) (sized_at g (further p q))
        (inr (inr (inr (inr (inr (inr (subst
        (λ v. IsDefinedThere g x t v × (IsBrokenInitial v (at_file_scope g) t fault ⊎ HasNoConstants v (at_file_scope g) t fault)) (sym is) (
          (
            z.0,
            q.types z.0 t (type_at z.1.objects z.0 v.object t v.stands v.ty),
            (
              length z.1.names,
              subst (λ from. slice_get g.names (length z.1.names) ≡ Some (bound x from defines (an_object z.0 t)))
                  (asks.from_is value refl) stands,
            ),
          ),
          broken,
        ))))))))))

    value_stops : (value : Option (ℕ × Trees.Expression)) → d.value ≡ value → MayInitialize f place from n value → (z : ℕ × FileScope)
        → IsNew f words x place t z ⊎ IsOld f x t z → (v : IsTheObject f words x place t (is_none (declared_among f.names x.text)) z)
        → defined_once f x value (define_object (with_bound z.1 (bound x from (object_how words value)
        (an_object z.0 t))) z.0 place value t) ≡ Err fault
        → StopsIn (of_initial untagged place from value) f Is
    value_stops None is asks z e v h = cc
    value_stops (Some value) is asks z e v h =
        once_fault x (defined_among f.names x.text) _ fault (StopsIn (of_initial untagged place from (Some value)) f Is) h
        (λ old i again. stops_here (of_initial untagged place from (Some value)) f Is
        (twice_here f words base d x t from fault name shape (declares f (itself f)) (sized_at f (itself f))
        (asks.prepared.begun refl 0 from refl) (some_is is)
        (twice_defined f x fault old i again)))
        (λ none h. bound_err (constants_if_any (Some value) (at_file_scope (with_bound z.1 (bound x from defines (an_object z.0 t)))) t) _ fault
        (StopsIn (of_initial untagged place from (Some value)) f Is) h (λ i. initial_stops value is asks z e none v i) (λ y i h. cc))
      where
        some_is : d.value ≡ Some value → d.value ≢ None
        some_is is none = let some_is_none = sym is ∙ none in cc

    pub object_stops : MayInitialize f place from n d.value → declare_object f words x place from t d.value ≡ Err fault
        → StopsIn (of_initial untagged place from d.value) f Is
    object_stops asks h =
        let here = stops_here (of_initial untagged place from d.value) f Is in
        let is_shape = declares f (itself f) in
        let is_sized = sized_at f (itself f) in
        own_fault x.from (library_named x.text) _ fault (StopsIn (of_initial untagged place from d.value) f Is) h
        (λ which e is. here (ruled_here f words base d x t from fault name shape is_shape is_sized
        (inl (is, (which, named_is x.text which e, inr (inr (no_library_type t no_function which)))))))
        (λ own h. bound_err (object_of f words x place t (declared_among f.names x.text)) _ fault (StopsIn (of_initial untagged place from d.value) f Is) h
        (λ e. object_of_fault f words may x place t no_function k.objects_bound (declared_among f.names x.text) refl fault
        (StopsIn (of_initial untagged place from d.value) f Is) e
        (λ is main linked none. here (ruled_here f words base d x t from fault name shape is_shape is_sized
        (inr (inl (is, (main, inr (no_function, main_linked f words may x linked none)))))))
        (λ taken. here (taken_here f words base d x t from fault name shape is_shape is_sized (asks.prepared.begun refl 0 from refl) taken)))
        (λ z e h.
        let v = object_is f words may x place t (declared_among f.names x.text)
        (stands_for nodes_at before f x place k objects_before functions_before) z e in
        value_stops d.value refl asks z (entered f words x place t (declared_among f.names x.text) refl z e) v h))
