-- Where the definition of a function stops, from its specifiers on, a rule is broken (C99 6.9.1).
use Rattle.std.proofs.Common.{◌≡◌, ℕ, ◌+◌, ◌≤◌, refl, sym, ap, ◌∙◌, subst, List, [], ◌∷◌, ◌++◌, length, inl, inr, arith}
use Rattle.std.proofs.Common.{append-nil}
use Rattle.std.specs.Prelude.{map, Some, Ok, Err, slice_get}
use Rattle.lay_base.specs.declared.faults.Rule.TheVariants as R
use Rattle.c_types.specs.Types.{CType, CTypes, void, integer, pointer, array, function, structure}
use Rattle.c_ast.specs.declared.words.Spelling.{Spelling}
use Rattle.c_ast.specs.Trees
use Rattle.c_ast.specs.Places.{first_specifiers, first_declarator}
use Rattle.c_typed.specs.declared.program.MentionKind.TheVariants.{Named}
use Rattle.c_erasure.specs.Broken.{Fault, ill_typed, AreBroken, IsBrokenWithin}
use Rattle.c_erasure.specs.BrokenFiles.{HasNameless, IsBrokenDefinition}
use Rattle.c_erasure.specs.Declarators.{declared_name, Shape, closed, open_array}
use Rattle.c_erasure.specs.Erasure.{IsBase, IsOne, Declares}
use Rattle.c_erasure.specs.Files.{parameters_of}
use Rattle.c_erasure.specs.Marks.{Mark, a_name, marks_of_specifiers, marks_of_declarator, ends_in}
use Rattle.c_erasure.specs.Scopes.{FileScope, AnObject, at_file_scope}
use Rattle.c_erasure.specs.Specifiers.{storage_of}
use Rattle.c_erasure.specs.Checking.Declaring.{base_kind, derived, with_mention, mentions_in}
use Rattle.c_erasure.specs.Checking.Files.{received_by, define_function, define_shape, definition_named, function_definition}
use Rattle.c_erasure.specs.Checking.Finding.{base_type, one_of, derivations}
use Rattle.c_checking_laws.proofs.Adding.{mention_before}
use Rattle.c_checking_laws.proofs.Declared.{mentioned, before_mention}
use Rattle.c_checking_laws.proofs.Extends.{Extends, itself, further}
use Rattle.c_checking_laws.proofs.FaultDeclaring.{orderly_stays}
use Rattle.c_checking_laws.proofs.FaultPremises.{left, right}
use Rattle.c_checking_laws.proofs.FaultAdditions.{of_specifiers, of_declarator, behind_name}
use Rattle.c_checking_laws.proofs.FaultResults.{Up, same_fault, bound_err}
use Rattle.c_checking_laws.proofs.Within.{Additions, both, within_all, within_said}
use Rattle.c_checking_laws.proofs.FaultSteps.{read_steps}
use Rattle.c_checking_laws.proofs.FaultTypes.{within_broken, base_stops}
use Rattle.c_checking_laws.proofs.Faults.{faults_one, faults_steps}
use Rattle.c_checking_laws.proofs.Growth.{grow_base, grow_steps}
use Rattle.c_checking_laws.proofs.Sound.{sound_base, sound_steps}
use Rattle.c_checking_laws.proofs.WholeFiles.Declarations.{first_named}
use Rattle.c_checking_laws.proofs.WholeFiles.FileScopes.{MayDeclare, adds_continues, continues_then}
use Rattle.c_checking_laws.proofs.WholeFiles.Keeping.{keep_base, keep_steps}
use Rattle.c_checking_laws.proofs.WholeFiles.Kept.{keeps_mention}
use Rattle.c_checking_laws.proofs.WholeFiles.StatementLaws.{AreItemsInRange}
use Rattle.c_checking_laws.proofs.WholeFiles.Known.{IsKnown, none_new}
use Rattle.c_checking_laws.proofs.WholeFiles.Stepping.{found_step}
use Rattle.c_checking_units.proofs.FirstStops.UpTo.{Exactly, up_to_first, up_to_then, up_to_within, exactly_adds}
use Rattle.c_checking_units.proofs.FirstStops.Behind.{StopsIn, GoesUpTo, stops_here, stops_there, stops_later, stops_of}
use Rattle.c_checking_units.proofs.FirstStops.DefinitionStops.{storage_fault, ruled, function_stops, of_body, MayStopIn}
use Rattle.c_checking_units.proofs.FirstStops.Parameters.{open_without}

no_firsts : (more : List AnObject) → map (λ o. o.first) more ≡ [] → more ≡ []
no_firsts [] e = refl
no_firsts (o ∷ more) e = cc

no_objects : {xs ys : List AnObject} (more : List AnObject) → ys ≡ xs ++ more → map (λ o. o.first) more ≡ [] → ys ≡ xs
no_objects {xs} more e n = e ∙ ap (λ z. xs ++ z) (no_firsts more n) ∙ append-nil xs

module _ (untagged : ℕ → List ℕ) (types_named : List (List ℕ)) (nodes_at : ℕ → ℕ) (ends : List ℕ) (before : List ℕ) (specs : Trees.Specifiers)
    (d : Trees.Declarator) (left_at : ℕ) (items : Trees.BlockItems) (nodes at in_scope : ℕ) (f : FileScope)
    (may : MayStopIn untagged types_named nodes_at ends f specs d left_at items nodes at in_scope) (k : IsKnown nodes_at before none_new none_new f)
    (x : Spelling) (name : declared_name d ≡ Some x) (fault : Fault) where
  abbrev u : List Mark
  u = marks_of_specifiers untagged specs

  abbrev w : List Mark
  w = marks_of_declarator untagged d

  abbrev from : ℕ
  from = first_specifiers specs

  abbrev own : Additions
  own = of_specifiers untagged specs

  abbrev named : Additions
  named = behind_name untagged (first_declarator d x.from) d

  abbrev inner : Additions
  inner = of_body (first_declarator d x.from) left_at items

  abbrev all : Additions
  all = both own (both named inner)

  abbrev Is : FileScope → Type 0
  Is g = IsBrokenDefinition g specs d left_at items fault

  -- the type of the definition, in a file that goes on from the one behind its specifiers
  shape_stops : (b : CType × FileScope) → ((g : FileScope) → Extends b.1 g → IsBase (IsOne (at_file_scope g) specs) specs b.0)
      → MayDeclare (storage_of specs)
      → (steps : FileScope) → ((g : FileScope) → Extends steps g → Extends b.1 g)
      → ((t : CType) → Extends steps (with_mention (at_file_scope b.1) (mentions_in b.1) Named t (first_declarator d x.from) steps))
      → (shape : Shape) → ((g : FileScope) → Extends steps g → Declares (at_file_scope g) d b.0 shape) → GoesUpTo all f steps
      → ((result : CType) (types : CTypes) → shape ≡ closed (function result types)
      → define_function (with_mention (at_file_scope b.1) (mentions_in b.1) Named (function result types) (first_declarator d x.from) steps)
      (storage_of specs) x from (first_declarator d x.from) left_at nodes result types items (received_by (parameters_of d) types) ≡ Err fault
      → StopsIn all f Is)
      → define_shape steps (storage_of specs) x (mentions_in b.1) from (first_declarator d x.from) left_at nodes shape
      (parameters_of d) items ≡ Err fault
      → StopsIn all f Is
  shape_stops b is_base words steps into said (closed (function result types)) declares reach next h = next result types refl h
  shape_stops b is_base words steps into said (open_array t) declares reach next h =
      stops_there all f steps Is reach
      (inl (
        same_fault FileScope (ill_typed R.Specifiers from) fault h,
        inr (inr (subst HasNameless (sym (open_without d (at_file_scope steps) b.0 t (declares steps (itself steps)))) tt)),
      ))
  shape_stops b is_base words steps into said (closed void) declares reach next h =
      stops_there all f steps Is reach
      (ruled steps specs d left_at items fault b.0 (is_base steps (into steps (itself steps))) x name void (declares steps (itself steps))
      (inl (same_fault FileScope (ill_typed R.Specifiers from) fault h, refl)))
  shape_stops b is_base words steps into said (closed (integer kind)) declares reach next h =
      stops_there all f steps Is reach
      (ruled steps specs d left_at items fault b.0 (is_base steps (into steps (itself steps))) x name (integer kind) (declares steps (itself steps))
      (inl (same_fault FileScope (ill_typed R.Specifiers from) fault h, refl)))
  shape_stops b is_base words steps into said (closed (pointer t)) declares reach next h =
      stops_there all f steps Is reach
      (ruled steps specs d left_at items fault b.0 (is_base steps (into steps (itself steps))) x name (pointer t) (declares steps (itself steps))
      (inl (same_fault FileScope (ill_typed R.Specifiers from) fault h, refl)))
  shape_stops b is_base words steps into said (closed (array t n)) declares reach next h =
      stops_there all f steps Is reach
      (ruled steps specs d left_at items fault b.0 (is_base steps (into steps (itself steps))) x name (array t n) (declares steps (itself steps))
      (inl (same_fault FileScope (ill_typed R.Specifiers from) fault h, refl)))
  shape_stops b is_base words steps into said (closed (structure r)) declares reach next h =
      stops_there all f steps Is reach
      (ruled steps specs d left_at items fault b.0 (is_base steps (into steps (itself steps))) x name (structure r) (declares steps (itself steps))
      (inl (same_fault FileScope (ill_typed R.Specifiers from) fault h, refl)))

  -- behind the specifiers
  named_stops : MayDeclare (storage_of specs) → (b : CType × FileScope) → base_type (base_kind specs) from f (one_of specs (at_file_scope f)) ≡ Ok b
      → definition_named b.1 specs b.0 d left_at nodes items (Some x) ≡ Err fault → StopsIn all f Is
  named_stops words b is_base h =
      let s = at_file_scope f in
      let m = may.may in
      let v = sound_base untagged specs s m.specifiers_in_range (left untagged ends u (w ++ a_name left_at ∷ []) may.prepared).ready from b is_base in
      let adds = grow_base untagged specs s m.same from b is_base in
      let keeps = keep_base untagged types_named specs s m.same (λ i. m.specifiers_formed) from b is_base in
      let first = found_step nodes_at f b.1 (λ h. Unit {0}) v.grew keeps adds (λ h e. tt) in
      let k1 = subst (λ made. IsKnown nodes_at made none_new none_new b.1) (append-nil before) (first.known before k) in
      let read : Exactly f own b.1 = exactly_adds [] adds tt v.grew.settled in
      let s1 = at_file_scope b.1 in
      let same = v.grew.extends.untagged ∙ m.same in
      let prepared = right untagged ends u (w ++ a_name left_at ∷ []) may.prepared v.grew in
      let left_prepared = left untagged ends w (a_name left_at ∷ []) prepared in
      let n1 = length f.records + length (ends_in u) in
      let many : n1 ≤ length b.1.records = let c = v.grew.counted in omega (arith, c) in
      bound_err (derivations d s1) _ fault (StopsIn all f Is) h
      (λ e. stops_later own (both named inner) Is (adds_continues v.grew.extends adds) read
      (stops_of (of_declarator untagged d) (both named inner) (λ n o e i. i)
      (λ g w settled. up_to_first named inner (up_to_within named (within_said (first_declarator d x.from) (of_declarator untagged d) w) settled))
      (λ s. IsBrokenWithin d s fault) Is
      (faults_steps untagged ends (Up s1 (of_declarator untagged d)) d s1 n1 m.in_range left_prepared many may.timely (λ g w. w) fault e)
      (λ g p h. inr (inr (b.0, v.holds g p, inl (within_broken d (at_file_scope g) b.0 fault h))))))
      (λ steps e h.
      let found = sound_steps untagged d s1 m.in_range left_prepared.ready steps e in
      let derives = read_steps untagged ends d s1 n1 m.in_range left_prepared.ready left_prepared.ends_are many may.timely steps e in
      let adds1 = grow_steps untagged d s1 same steps e in
      let reach : GoesUpTo all f steps.1 = record {
        continues = continues_then (adds_continues v.grew.extends adds) (adds_continues found.grew.extends adds1);
        up_to = up_to_then own (both named inner) read (up_to_first named inner
            (up_to_within named (within_said (first_declarator d x.from) (of_declarator untagged d) (within_all [] adds1 tt)) found.grew.settled));
      } in
      bound_err (derived steps.1.records steps.0 b.0) _ fault (StopsIn all f Is) h
      (λ i. stops_there all f steps.1 Is reach
      (inr (inr (b.0, v.holds steps.1 found.grew.extends, inl (derives.broken steps.1 (itself steps.1) b.0 fault i)))))
      (λ shape i h.
      let place = first_declarator d x.from in
      let said_so : (t : CType) → Extends steps.1 (with_mention s1 (mentions_in b.1) Named t place steps.1) =
      λ t. before_mention s1 steps.1 (with_mention s1 (mentions_in b.1) Named t place steps.1) (mentions_in b.1) Named t place
      (itself (with_mention s1 (mentions_in b.1) Named t place steps.1)) in
      shape_stops b v.holds words steps.1 (λ g p. further found.grew.extends p) said_so shape
      (λ g p. found.holds g p steps.1.records p.records.0 p.records.1 b.0 shape i) reach
      (λ result types is h.
      let t = function result types in
      let said = with_mention s1 (mentions_in b.1) Named t place steps.1 in
      let grown = mentioned s1 (mentions_in b.1) Named t place found.grew in
      let keeps2 = keeps_mention s1 (mentions_in b.1) Named t place (keep_steps untagged types_named d s1 same (λ i. m.formed) steps e) in
      let adds2 = mention_before s1 Named t place adds1 in
      let second = found_step nodes_at b.1 said (λ h. Unit {0}) grown keeps2 adds2 (λ h e. tt) in
      let k2 = subst (λ made. IsKnown nodes_at made none_new none_new said) (append-nil before) (second.known before k1) in
      let there = first_named d x name left_at x.from in
      let late : at ≤ place = let p = m.place in omega (arith, p, there) in
      let objects : said.objects ≡ f.objects = no_objects adds2.objects.0 adds2.objects.1 adds2.objects.2
      ∙ no_objects adds.objects.0 adds.objects.1 adds.objects.2 in
      let functions : said.functions ≡ f.functions = adds2.functions ∙ adds.functions in
      let c1 = v.grew.counted in
      let c2 = grown.counted in
      let counts : length f.records + length (ends_in u) + length (ends_in w) ≡ length said.records = omega (arith, c1, c2) in
      let said_ends : said.ends ≡ f.ends = grown.extends.ends ∙ v.grew.extends.ends in
      stops_later own (both named inner) Is (adds_continues v.grew.extends adds) read
      (stops_later named inner Is (adds_continues (further found.grew.extends (said_so t)) adds2) (exactly_adds [] adds2 tt grown.settled)
      (function_stops untagged types_named nodes_at ends before said specs d left_at items fault b.0
      (λ g p. v.holds g (further found.grew.extends (further (said_so t) p))) x name result types
      (λ g p. subst (Declares (at_file_scope g) d b.0) is
      (let q = further (said_so t) p in found.holds g q steps.1.records q.records.0 q.records.1 b.0 shape i)) words k2
      (grown.extends.untagged ∙ same) (said_ends ∙ may.prepared.ends_are)
      ((right untagged ends w (a_name left_at ∷ []) prepared grown).begun refl 0 left_at refl) (orderly_stays (further v.grew.extends grown.extends) may.prepared.orderly)
      (subst (λ n. AreItemsInRange said.ends n items) counts
      (subst (λ ends. AreItemsInRange ends (length f.records + length (ends_in u) + length (ends_in w)) items) (sym said_ends) m.items_in_range))
      (λ g l. may.items_timely g (l ∙ sym counts))
      (record { apart = may.fresh.apart; none_at = λ n o h j. may.fresh.none_at n o (subst (λ all. slice_get all n ≡ Some o) objects h) j })
      (λ n o e. let b = m.objects_before n o (subst (λ all. slice_get all n ≡ Some o) objects e) in omega (arith, b, late))
      (λ n o e. let b = m.functions_before n o (subst (λ all. slice_get all n ≡ Some o) functions e) in omega (arith, b, late))
      nodes (m.counted ∙ ap nodes_at there) h))) h))

  pub definition_stops : function_definition specs d left_at items f nodes ≡ Err fault → StopsIn all f Is
  definition_stops h =
      let s = at_file_scope f in
      let prepared = left untagged ends u (w ++ a_name left_at ∷ []) may.prepared in
      storage_fault from (storage_of specs) _ fault (StopsIn all f Is) h
      (λ is none. stops_here all f Is (inl (is, inl none)))
      (λ words h. bound_err (base_type (base_kind specs) from f (one_of specs s)) _ fault (StopsIn all f Is) h
      (λ e. base_stops (Up s own) s specs from (one_of specs s) fault
      (λ y q j. faults_one untagged ends (Up s own) specs s (length f.records) may.may.specifiers_in_range prepared
      (omega arith) may.specifiers_timely (λ g w. w) y q
      fault j) e (StopsIn all f Is)
      (λ m. stops_here all f Is (inl (m.0, inr (inl m.1))))
      (λ b. stops_of own all (λ n o e i. i) (λ g w settled. up_to_first own (both named inner) (up_to_within own w settled))
      (λ s. AreBroken specs s fault) Is b (λ g p h. inr (inl h))))
      (λ b e h. named_stops words b e (subst (λ o. definition_named b.1 specs b.0 d left_at nodes items o ≡ Err fault) name h)))
