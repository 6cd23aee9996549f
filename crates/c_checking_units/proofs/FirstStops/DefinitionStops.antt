-- Where the definition of a function stops, a rule is broken (C99 6.9.1).
use Rattle.std.proofs.Common.{◌≡◌, ℕ, zero, suc, ◌+◌, ◌<◌, false, refl, sym, ap, ◌∙◌, subst, List, [], ◌∷◌, ◌++◌, length, inl, inr}
use Rattle.std.proofs.Common.{append-nil}
use Rattle.std.proofs.lemmas.List.{map-append}
use Rattle.std.specs.Prelude.{◌⊎◌, map, Option, Some, None, Err, slice_get, is_none}
use Rattle.lay_base.specs.declared.faults.Rule.TheVariants as R
use Rattle.c_types.specs.Types.{CType, CTypes, function}
use Rattle.c_ast.specs.declared.words.Spelling.{Spelling}
use Rattle.c_ast.specs.Trees
use Rattle.c_ast.specs.Places.{first_specifiers, first_declarator}
use Rattle.c_typed.specs.Conversions.{is_function}
use Rattle.c_erasure.specs.Broken.{Fault, ill_typed}
use Rattle.c_erasure.specs.BrokenFiles.{IsFunctionStorage, IsBrokenBody, IsBrokenDefinition, IsBrokenMain, IsOtherwise, IsOld}
use Rattle.c_erasure.specs.BrokenFiles.{IsDefinition}
use Rattle.c_erasure.specs.BrokenStatements.{IsAmong}
use Rattle.c_erasure.specs.Declarators.{declared_name, closed}
use Rattle.c_erasure.specs.Erasure.{IsBase, IsOne, Declares}
use Rattle.c_erasure.specs.Files.{IsMainType, bound, parameters_of, in_body, library_name}
use Rattle.c_erasure.specs.Literals.{made_by_items}
use Rattle.c_erasure.specs.Marks.{a_name, marks_of_specifiers, marks_of_declarator, ends_in}
use Rattle.c_erasure.specs.MentionPlaces.{spoken_by_items}
use Rattle.c_erasure.specs.Scopes.{FileScope, AnObject, AFunction, defines, a_function, at_file_scope}
use Rattle.c_erasure.specs.Specifiers.{Storage, storage_of, no_storage, a_typedef, is_extern, is_static, is_auto, is_register, several}
use Rattle.c_typed.specs.declared.operators.LibraryFunction.{LibraryFunction}
use Rattle.c_erasure.specs.Checking.Answers.{Answer}
use Rattle.c_erasure.specs.Checking.Declaring.{declared_among, with_bound}
use Rattle.c_erasure.specs.Checking.Files.{function_storage, Received, received_by, library_named, function_of, defined_among, define_function}
use Rattle.c_erasure.specs.Checking.Statements.{items_in}
use Rattle.c_checking_laws.proofs.Agreement.{AreBegun}
use Rattle.c_checking_laws.proofs.Extends.{Extends, itself, further, at_end}
use Rattle.c_checking_laws.proofs.FaultDeclaring.{IsOrderly, orderly_stays}
use Rattle.c_checking_laws.proofs.FaultPremises.{IsPrepared, AreSpecifiersTimely, IsDeclaratorTimely}
use Rattle.c_checking_laws.proofs.FaultResults.{same_fault, bound_err}
use Rattle.c_checking_laws.proofs.Within.{Additions, within_inside}
use Rattle.c_checking_laws.proofs.WholeFiles.Bodies.{parameters_are}
use Rattle.c_checking_laws.proofs.WholeFiles.FileScopes.{MayDeclare, IsTheFunction, function_is, bound_put, continues_then}
use Rattle.c_checking_laws.proofs.Settled.{are_complete}
use Rattle.c_checking_laws.proofs.WholeFiles.StatementLaws.{AreItemsInRange}
use Rattle.c_checking_laws.proofs.WholeFiles.DefinitionItems.{MayDefineIn}
use Rattle.c_checking_laws.proofs.WholeFiles.FileFacts.{laid_file}
use Rattle.c_checking_laws.proofs.WholeFiles.FunctionSteps.{IsNewFunction, IsOldFunction, function_entered, FunctionInMaking, new_function_in_making}
use Rattle.c_checking_laws.proofs.WholeFiles.FunctionSteps.{old_function_in_making}
use Rattle.c_checking_laws.proofs.WholeFiles.Known.{IsKnown, none_new, this_one}
use Rattle.c_checking_laws.proofs.WholeFiles.ObjectSteps.{stands_for}
use Rattle.c_checking_units.proofs.FirstStops.BodyStops.{body_stops}
use Rattle.c_checking_units.proofs.FirstStops.Clear.{AreFresh, picked_made}
use Rattle.c_checking_units.proofs.FirstStops.InnerAdditions.{at_items}
use Rattle.c_checking_units.proofs.FirstStops.StatementTimely.{AreItemsTimely}
use Rattle.c_checking_units.proofs.FirstStops.Stopped.{within_inner}
use Rattle.c_checking_units.proofs.FirstStops.UpTo.{Exactly, up_to_within}
use Rattle.c_checking_units.proofs.FirstStops.Behind.{steady_known, StopsIn, stops_here, stops_later, continues_within}
use Rattle.c_checking_units.proofs.FirstStops.DeclaratorStops.{no_typedef}
use Rattle.c_checking_units.proofs.FirstStops.Parameters.{nameless, object_parameters}
use Rattle.c_checking_units.proofs.FirstStops.Tests.{named_is, own_fault, once_fault, main_function_fault, IsTaken, IsTakenOtherwise}
use Rattle.c_checking_units.proofs.FirstStops.Tests.{old_of, otherwise_of, function_of_fault, twice_defined}

-- ---- storage classes

pub storage_fault : {A : Type 0} (at : ℕ) (words : Storage) (r : Answer A) (fault : Fault) (P : Type 0) → function_storage at words r ≡ Err fault
    → (fault ≡ ill_typed R.Specifiers at → (IsFunctionStorage words → ⊥) → P) → (MayDeclare words → r ≡ Err fault → P) → P
storage_fault at no_storage r fault P h p q = q tt h
storage_fault at is_extern r fault P h p q = q tt h
storage_fault at is_static r fault P h p q = q tt h
storage_fault {A} at a_typedef r fault P h p q = p (same_fault A (ill_typed R.Specifiers at) fault h) (λ e. e)
storage_fault {A} at is_auto r fault P h p q = p (same_fault A (ill_typed R.Specifiers at) fault h) (λ e. e)
storage_fault {A} at is_register r fault P h p q = p (same_fault A (ill_typed R.Specifiers at) fault h) (λ e. e)
storage_fault {A} at several r fault P h p q = p (same_fault A (ill_typed R.Specifiers at) fault h) (λ e. e)

-- ---- what a definition adds before its body

type_at : (all : List AFunction) (n : ℕ) (g : AFunction) (t : CType) → slice_get all n ≡ Some g → g.ty ≡ t
    → slice_get (map (λ g. g.ty) all) n ≡ Some t
type_at [] n g t h e = cc
type_at (q ∷ all) zero g t h e = let same : q ≡ g = cc in ap Some (ap (λ (g : AFunction). g.ty) same ∙ e)
type_at (q ∷ all) (suc n) g t h e = type_at all n g t h e

-- the name, and the place of the function
abbrev of_name : (place left : ℕ) → Additions
of_name place left = record { marks = a_name left ∷ []; said = []; made = place ∷ [] }

-- with its body
abbrev pub of_body : (place left : ℕ) → Trees.BlockItems → Additions
of_body place left items = record { marks = a_name left ∷ []; said = spoken_by_items items; made = place ∷ made_by_items items }

-- ---- rules of a definition whose type is known

module _ (f : FileScope) (specs : Trees.Specifiers) (d : Trees.Declarator) (left : ℕ) (items : Trees.BlockItems) (fault : Fault) (base : CType)
    (is_base : IsBase (IsOne (at_file_scope f) specs) specs base) (x : Spelling) (name : declared_name d ≡ Some x) (t : CType)
    (declares : Declares (at_file_scope f) d base (closed t)) where
  abbrev pub IsRuled : Type 0
  IsRuled = ((fault ≡ ill_typed R.Specifiers (first_specifiers specs)) × (is_function t ≡ false))
      ⊎ ((which : LibraryFunction) × (x.text ≡ library_name which) × (fault ≡ ill_typed R.Library x.from))
      ⊎ ((fault ≡ ill_typed R.Main x.from) × IsBrokenMain f (storage_of specs) t x)
      ⊎ IsOtherwise f (storage_of specs) t x left fault
      ⊎ IsOld f x left IsDefinition fault
      ⊎ IsBrokenBody f t d x left items fault

  pub ruled : IsRuled → IsBrokenDefinition f specs d left items fault
  ruled r = inr (inr (base, is_base, inr (x, t, name, declares, r)))

  taken : AreBegun f.names left → IsTakenOtherwise f (storage_of specs) t x fault → IsBrokenDefinition f specs d left items fault
  taken begun h = ruled (inr (inr (inr (inl (otherwise_of f (storage_of specs) t x left fault begun h)))))

  twice : AreBegun f.names left → IsTaken f x IsDefinition fault → IsBrokenDefinition f specs d left items fault
  twice begun h = ruled (inr (inr (inr (inr (inl (old_of f x left IsDefinition fault begun h))))))

module _ (untagged : ℕ → List ℕ) (types_named : List (List ℕ)) (nodes_at : ℕ → ℕ) (ends : List ℕ) where
  -- ---- a function, in a file that has spoken of its type

  module _ (before : List ℕ) (f : FileScope) (specs : Trees.Specifiers) (d : Trees.Declarator) (left : ℕ) (items : Trees.BlockItems) (fault : Fault)
      (base : CType) (is_base : (g : FileScope) → Extends f g → IsBase (IsOne (at_file_scope g) specs) specs base) (x : Spelling)
      (name : declared_name d ≡ Some x) (result : CType) (types : CTypes)
      (declares : (g : FileScope) → Extends f g → Declares (at_file_scope g) d base (closed (function result types)))
      (words : MayDeclare (storage_of specs)) (k : IsKnown nodes_at before none_new none_new f) (same : f.untagged ≡ untagged)
      (same_ends : f.ends ≡ ends) (begun : AreBegun f.names left)
      (orderly : IsOrderly f) (in_range : AreItemsInRange f.ends (length f.records) items)
      (timely : (g : FileScope) → length g.records ≡ length f.records → AreItemsTimely untagged ends g items) (fresh : AreFresh f
      (made_by_items items)) where
    abbrev t : CType
    t = function result types

    abbrev Is : FileScope → Type 0
    Is g = IsBrokenDefinition g specs d left items fault

    in_making : (place nodes : ℕ) → nodes ≡ nodes_at place → IsMainType x.text t → defined_among f.names x.text ≡ None → (n : ℕ × FileScope)
        → IsNewFunction f (storage_of specs) x place t nodes n ⊎ IsOldFunction f x t n
        → (v : IsTheFunction f (storage_of specs) x place t (is_none (declared_among f.names x.text)) n)
        → FunctionInMaking nodes_at before f x place t defines left n.0 n.1 v.function
    in_making place nodes counted main once n (inl e) v =
        new_function_in_making nodes_at before f (storage_of specs) words x place t nodes defines left counted main k n e v
    in_making place nodes counted main once n (inr e) v =
        old_function_in_making nodes_at before f (storage_of specs) x place t defines left (λ d. once) k n e v

    in_body_stops : (place nodes : ℕ) → nodes ≡ nodes_at place → IsMainType x.text t → defined_among f.names x.text ≡ None → (n : ℕ × FileScope)
        → IsNewFunction f (storage_of specs) x place t nodes n ⊎ IsOldFunction f x t n
        → IsTheFunction f (storage_of specs) x place t (is_none (declared_among f.names x.text)) n → (p : Received)
        → received_by (parameters_of d) types ≡ Some p
        → items_in result items (in_body (with_bound n.1 (bound x left defines (a_function n.0 t))) p.bounds p.locals) false false ≡ Err fault
        → StopsIn (of_body place left items) f Is
    in_body_stops place nodes counted main once n e v p received h =
        let b = bound x left defines (a_function n.0 t) in
        let c = with_bound n.1 b in
        let i = in_making place nodes counted main once n e v in
        let q : Extends f c = further v.continues.extends (bound_put n.1 b).extends in
        let records : c.records ≡ f.records = ap (λ (g : FileScope). g.records) i.same in
        let c_ends : c.ends ≡ f.ends = ap (λ (g : FileScope). g.ends) i.same in
        let objects : c.objects ≡ f.objects = ap (λ (g : FileScope). g.objects) i.same in
        let parameters = parameters_are c (parameters_of d) types p received in
        let entered : Exactly f (of_name place left) c = record {
          names = map-append (λ b. b.from) n.1.names (b ∷ [])
              ∙ ap (λ (g : FileScope). map (λ b. b.from) g.names ++ left ∷ []) i.same;
          records = ap (λ all. map (λ r. r.tag) all) records ∙ sym (append-nil _);
          mentions = λ at h. inl (subst (λ (g : FileScope). IsAmong (map (λ m. m.at) g.mentions) at) i.same h);
          objects = ([], ap (λ (g : FileScope). map (λ o. o.first) g.objects) i.same ∙ sym (append-nil _), tt);
          functions = (i.functions, i.functions_are, picked_made i.parted);
          consistent = λ h. i.known.consistent;
          settled = λ h. i.known.settled;
        } in
        let is_fresh : AreFresh c (made_by_items items) =
        record { apart = fresh.apart; none_at = λ m o h j. fresh.none_at m o (subst (λ all. slice_get all m ≡ Some o) objects h) j } in
        let stop = body_stops untagged c result types d x left items p received n.0 (type_at n.1.functions n.0 v.function t v.stands v.ty)
        (length n.1.names, at_end n.1.names b)
        (record {
          names_fit = i.known.fits;
          complete = are_complete i.known.settled;
          whole = i.known.whole;
          same = ap (λ (g : FileScope). g.untagged) i.same ∙ same;
        }) (steady_known nodes_at before none_new (this_one n.0) c i.known) (orderly_stays q orderly) (laid_file c i.known.settled)
        (object_parameters d (at_file_scope f) base result types p.locals p.bounds (declares f (itself f)) parameters.has)
        (subst (λ records. AreItemsInRange c.ends (length records) items) (sym records)
        (subst (λ ends. AreItemsInRange ends (length f.records) items) (sym c_ends) in_range))
        (subst (λ ends. AreItemsTimely untagged ends c items) (sym (c_ends ∙ same_ends)) (timely c (ap (λ all. length all) records)))
        is_fresh fault h in
        stops_later (of_name place left) (at_items items) Is (continues_then v.continues (bound_put n.1 b)) entered (record {
          file = stop.file;
          reaches = record {
            continues = continues_within (at_items items) stop.reaches.extends (within_inner (at_items items) stop.reaches) is_fresh.none_at;
            up_to = up_to_within (at_items items) (within_inside {d = false} [] refl (within_inner (at_items items) stop.reaches)) stop.reaches.settled;
          };
          is = ruled stop.file specs d left items fault base (is_base stop.file (further q stop.reaches.extends)) x name t
              (declares stop.file (further q stop.reaches.extends)) (inr (inr (inr (inr (inr stop.is)))));
        })

    pub function_stops : (objects_before : (n : ℕ) (o : AnObject) → slice_get f.objects n ≡ Some o → o.first < first_declarator d x.from)
        → (functions_before : (n : ℕ) (g : AFunction) → slice_get f.functions n ≡ Some g → g.first < first_declarator d x.from) → (nodes : ℕ)
        → nodes ≡ nodes_at (first_declarator d x.from)
        → define_function f (storage_of specs) x (first_specifiers specs) (first_declarator d x.from) left nodes result types items
        (received_by (parameters_of d) types) ≡ Err fault → StopsIn (of_body (first_declarator d x.from) left items) f Is
    function_stops objects_before functions_before nodes counted h = by_parameters (received_by (parameters_of d) types) refl h
      where
        here : IsBrokenDefinition f specs d left items fault → StopsIn (of_body (first_declarator d x.from) left items) f Is
        here i = stops_here (of_body (first_declarator d x.from) left items) f Is i

        by_parameters : (o : Option Received) → received_by (parameters_of d) types ≡ o
            → define_function f (storage_of specs) x (first_specifiers specs) (first_declarator d x.from) left nodes result types items o ≡ Err fault
            → StopsIn (of_body (first_declarator d x.from) left items) f Is
        by_parameters None e h =
            here (inl (
              same_fault FileScope (ill_typed R.Specifiers (first_specifiers specs)) fault h,
              inr (inr (nameless d (at_file_scope f) base result types (declares f (itself f)) e)),
            ))
        by_parameters (Some p) e h =
            let is_ruled = ruled f specs d left items fault base (is_base f (itself f)) x name t (declares f (itself f)) in
            own_fault x.from (library_named x.text) _ fault (StopsIn (of_body (first_declarator d x.from) left items) f Is) h
            (λ which i is. here (is_ruled (inr (inl (which, named_is x.text which i, is)))))
            (λ own h. main_function_fault x.text x.from t _ fault (StopsIn (of_body (first_declarator d x.from) left items) f Is) h
            (λ is main other. here (is_ruled (inr (inr (inl (is, (main, inl (no_typedef (storage_of specs) words, refl, other))))))))
            (λ main h. bound_err (function_of f (storage_of specs) x (first_declarator d x.from) t nodes (declared_among f.names x.text)) _ fault
            (StopsIn (of_body (first_declarator d x.from) left items) f Is) h
            (λ i. here (taken f specs d left items fault base (is_base f (itself f)) x name t (declares f (itself f)) begun
            (function_of_fault f (storage_of specs) words x (first_declarator d x.from) t nodes refl k.functions_bound k.libraries_bound own
            (declared_among f.names x.text) refl fault i)))
            (λ n i h. once_fault x (defined_among f.names x.text) _ fault (StopsIn (of_body (first_declarator d x.from) left items) f Is) h
            (λ old j again. here (twice f specs d left items fault base (is_base f (itself f)) x name t (declares f (itself f)) begun
            (twice_defined f x fault old j again)))
            (λ once h. bound_err (items_in result items (in_body (with_bound n.1 (bound x left defines
            (a_function n.0 t))) p.bounds p.locals) false false) _ fault
            (StopsIn (of_body (first_declarator d x.from) left items) f Is) h
            (λ j. in_body_stops (first_declarator d x.from) nodes counted main once n
            (function_entered f (storage_of specs) x (first_declarator d x.from) t nodes (declared_among f.names x.text) refl n i)
            (function_is f (storage_of specs) words x (first_declarator d x.from) t nodes (declared_among f.names x.text)
            (stands_for nodes_at before f x (first_declarator d x.from) k objects_before functions_before) n i) p e j)
            (λ y j h. cc)))))

  -- ---- a whole definition

  -- what is asked of the file and of a definition
  pub record MayStopIn (f : FileScope) (specs : Trees.Specifiers) (d : Trees.Declarator) (left : ℕ) (items : Trees.BlockItems) (nodes at in_scope : ℕ)
      : Type 0 where
    pub may : MayDefineIn untagged types_named nodes_at f specs d left items nodes at in_scope
    pub prepared : IsPrepared untagged ends f [] [] false (marks_of_specifiers untagged specs ++ (marks_of_declarator untagged d ++ a_name left ∷ []))
    pub specifiers_timely : AreSpecifiersTimely untagged ends false (length f.records) specs
    pub timely : IsDeclaratorTimely untagged ends false (length f.records + length (ends_in (marks_of_specifiers untagged specs))) d
    pub items_timely : (g : FileScope) → length g.records
        ≡ length f.records + length (ends_in (marks_of_specifiers untagged specs)) + length (ends_in (marks_of_declarator untagged d))
        → AreItemsTimely untagged ends g items
    pub fresh : AreFresh f (made_by_items items)
