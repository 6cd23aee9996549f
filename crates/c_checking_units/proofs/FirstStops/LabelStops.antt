-- Where a label of a `switch` stops, a rule is broken (C99 6.8.4.2).
use Rattle.std.proofs.Common.{◌≡◌, ℕ, zero, suc, ◌+◌, ◌≤◌, Bool, true, false, refl, sym, ap, subst, List, [], ◌∷◌, ◌++◌, length, inl, inr, arith}
use Rattle.std.proofs.lemmas.Bool.{eqb-true, eqb-false}
use Rattle.std.specs.Prelude.{◌⊎◌, ◌||◌, ◌==◌, Ok, Err}
use Rattle.std.specs.List.{list_any}
use Rattle.lay_base.specs.declared.faults.Rule.TheVariants as R
use Rattle.c_types.specs.declared.ty.IntKind.{IntKind}
use Rattle.c_types.specs.Types.{CType}
use Rattle.c_ast.specs.Trees
use Rattle.c_ast.specs.Places.{first}
use Rattle.c_typed.specs.Conversions.{as_kind}
use Rattle.c_erasure.specs.Broken.{Fault, ill_typed}
use Rattle.c_erasure.specs.BrokenStatements.{Labels, IsAmong, AreBrokenLabels, AreBrokenSwitchItems}
use Rattle.c_erasure.specs.Marks.{marks}
use Rattle.c_erasure.specs.Scopes.{FileScope, Scope, for_value}
use Rattle.c_erasure.specs.Checking.Answers.{moved}
use Rattle.c_erasure.specs.Checking.Finding.{value_at, constant_at, find}
use Rattle.c_erasure.specs.Checking.Statements.{with_case, with_default, labels_in}
use Rattle.c_checking_laws.proofs.Results.{given, chosen, only_if}
use Rattle.c_checking_laws.proofs.FaultPremises.{IsTimely}
use Rattle.c_checking_laws.proofs.FaultParts.{StopsAtConstant}
use Rattle.c_checking_laws.proofs.FaultAdditions.{of_constant}
use Rattle.c_checking_laws.proofs.FaultResults.{Up, same_fault, bound_err, beside_err, chosen_err, unless_err}
use Rattle.c_checking_laws.proofs.Within.{Additions}
use Rattle.c_erasure.specs.MentionPlaces.{spoken}
use Rattle.c_checking_units.proofs.FirstStops.InnerAdditions.{at_labels}
use Rattle.c_checking_laws.proofs.Faults.{constant_faults}
use Rattle.c_checking_laws.proofs.WholeFiles.Labels.{AreLabelsInRange, pushed, constant_as}
use Rattle.c_checking_laws.proofs.WholeFiles.Longer.{seen}
use Rattle.c_checking_units.proofs.FirstStops.Clear.{among_left, among_right, among_split, AreFresh}
use Rattle.c_checking_units.proofs.FirstStops.Stopped.{Stopped, inner_left, stopped_here, stopped_more, IsIn, prepared, many, stopped_of, holds_there}
use Rattle.c_checking_units.proofs.FirstStops.Stopped.{stopped_there}
use Rattle.c_checking_units.proofs.FirstStops.Stopped.{stopped_later, in_same}
use Rattle.c_checking_units.proofs.FirstStops.ValueStops.{IsTimelyThere}

-- ---- what the tests of labels tell

either : (b c : Bool) → (b || c) ≡ true → (b ≡ true) ⊎ (c ≡ true)
either true c h = inl refl
either false c h = inr h

found_among : (all : List ℕ) (v : ℕ) → list_any (λ w. w == v) all ≡ true → IsAmong all v
found_among [] v h = cc
found_among (w ∷ more) v h = by_part (λ e. found_among more v e) (either (w == v) (list_any (λ w. w == v) more) h)
  where
    by_part : (list_any (λ w. w == v) more ≡ true → IsAmong more v) → ((w == v) ≡ true) ⊎ (list_any (λ w. w == v) more ≡ true) → IsAmong (w ∷ more) v
    by_part others (inl e) = inl (sym (eqb-true w v e))
    by_part others (inr e) = inr (others e)

case_fault : (at : ℕ) (before : Labels) (v : ℕ) (fault : Fault) → with_case at before v ≡ Err fault
    → (fault ≡ ill_typed R.Label at) × IsAmong before.cases v
case_fault at before v fault h =
    chosen_err (list_any (λ w. w == v) before.cases) _ _ fault ((fault ≡ ill_typed R.Label at) × IsAmong before.cases v) h
    (λ b h. (same_fault Labels (ill_typed R.Label at) fault h, found_among before.cases v b)) (λ b h. cc)

case_is : (at : ℕ) (before : Labels) (v : ℕ) (all : Labels) → with_case at before v ≡ Ok all → record before { cases = v ∷ before.cases } ≡ all
case_is at before v all h =
    chosen (list_any (λ w. w == v) before.cases) _ _ all (record before { cases = v ∷ before.cases } ≡ all) h (λ b h. cc)
    (λ b h. given (λ all. record before { cases = v ∷ before.cases } ≡ all) (record before { cases = v ∷ before.cases }) all h refl)

default_fault : (at : ℕ) (before : Labels) (fault : Fault) → with_default at before ≡ Err fault → (fault ≡ ill_typed R.Label at) × (1 ≤ before.defaults)
default_fault at before fault h =
    let b = unless_err (before.defaults == 0) _ _ _ fault h in
    let n = eqb-false before.defaults 0 b.0 in
    (b.1, some before.defaults n)
  where
    some : (n : ℕ) → (n ≡ 0 → ⊥) → 1 ≤ n
    some zero h = absurd (h refl)
    some (suc n) h = omega arith

default_is : (at : ℕ) (before all : Labels) → with_default at before ≡ Ok all → record before { defaults = before.defaults + 1 } ≡ all
default_is at before all h =
    let b = only_if (before.defaults == 0) _ _ _ all h in
    let z = eqb-true before.defaults 0 b.0 in
    let one : before.defaults + 1 ≡ 1 = omega (arith, z) in
    given (λ all. record before { defaults = before.defaults + 1 } ≡ all) (record before { defaults = 1 }) all b.1
    (ap (λ n. record before { defaults = n }) one)

-- ---- with more labels before

abbrev pub AreMore : Labels → Labels → Type 0
AreMore b c = ((v : ℕ) → IsAmong b.cases v → IsAmong c.cases v) × (b.defaults ≤ c.defaults)

pub more_labels : (labels : List Trees.Label) (s : Scope) (kind : IntKind) (b c : Labels) → AreMore b c → (fault : Fault)
    → AreBrokenLabels labels s kind b fault → AreBrokenLabels labels s kind c fault
more_labels [] s kind b c m fault h = absurd h
more_labels (Trees.case at a colon ∷ more) s kind b c m fault (inl h) = inl h
more_labels (Trees.case at a colon ∷ more) s kind b c m fault (inr (inl h)) = inr (inl h)
more_labels (Trees.case at a colon ∷ more) s kind b c m fault (inr (inr (inl h))) = inr (inr (inl h))
more_labels (Trees.case at a colon ∷ more) s kind b c m fault (inr (inr (inr (k, v, is, inl h)))) =
    inr (inr (inr (k, v, is, inl (h.0, m.0 (as_kind kind v) h.1))))
more_labels (Trees.case at a colon ∷ more) s kind b c m fault (inr (inr (inr (k, v, is, inr h)))) =
    inr (inr (inr (k, v, is, inr (more_labels more s kind _ _ ((λ w i. by_part w i), m.1) fault h))))
  where
    by_part : (w : ℕ) → IsAmong (as_kind kind v ∷ b.cases) w → IsAmong (as_kind kind v ∷ c.cases) w
    by_part w (inl i) = inl i
    by_part w (inr i) = inr (m.0 w i)
more_labels (Trees.default at colon ∷ more) s kind b c m fault (inl h) = inl (h.0, let l = h.1 in let k = m.1 in omega (arith, l, k))
more_labels (Trees.default at colon ∷ more) s kind b c m fault (inr h) =
    inr (more_labels more s kind _ _ (m.0, let k = m.1 in omega (arith, k)) fault h)

pub more_items : (result : CType) (items : Trees.SwitchItems) (s : Scope) (loop : Bool) (kind : IntKind) (b c : Labels) → AreMore b c → (fault : Fault)
    → AreBrokenSwitchItems result items s loop kind b fault → AreBrokenSwitchItems result items s loop kind c fault
more_items result Trees.no_switch_items s loop kind b c m fault h = absurd h
more_items result (Trees.and_switch_item (Trees.local_switch_item d) more) s loop kind b c m fault (inl h) = inl h
more_items result (Trees.and_switch_item (Trees.labelled labels a) more) s loop kind b c m fault (inl (inl h)) = inl (inl (more_labels labels s kind b c m fault h))
more_items result (Trees.and_switch_item (Trees.labelled labels a) more) s loop kind b c m fault (inl (inr h)) = inl (inr h)
more_items result (Trees.and_switch_item item more) s loop kind b c m fault (inr (cases, defaults, own, after, is, h)) =
    inr (cases, defaults, own, after, is, more_items result more after loop kind _ _ ((λ w i. by_part w (among_split cases b.cases w i)), fewer m.1) fault h)
  where
    by_part : (w : ℕ) → IsAmong cases w ⊎ IsAmong b.cases w → IsAmong (cases ++ c.cases) w
    by_part w (inl i) = among_left cases c.cases w i
    by_part w (inr i) = among_right cases c.cases w (m.0 w i)

    fewer : b.defaults ≤ c.defaults → defaults + b.defaults ≤ defaults + c.defaults
    fewer k = omega (arith, k)

-- the values that labels push in front of others are among them, or among the others
pub among_pushed : (before new : List ℕ) (v : ℕ) → IsAmong (pushed before new) v → IsAmong (new ++ before) v
among_pushed before [] v h = h
among_pushed before (w ∷ new) v h = by_part (among_split new (w ∷ before) v (among_pushed (w ∷ before) new v h))
  where
    by_part : IsAmong new v ⊎ IsAmong (w ∷ before) v → IsAmong (w ∷ new ++ before) v
    by_part (inl i) = inr (among_left new before v i)
    by_part (inr (inl e)) = inl e
    by_part (inr (inr i)) = inr (among_right new before v i)

module _ (untagged : ℕ → List ℕ) (ends : List ℕ) (f : FileScope) where
  abbrev pub AreLabelsTimely : List Trees.Label → Type 0
  AreLabelsTimely [] = Unit {0}
  AreLabelsTimely (Trees.case at a colon ∷ more) = IsTimelyThere untagged ends f a × AreLabelsTimely more
  AreLabelsTimely (Trees.default at colon ∷ more) = AreLabelsTimely more

  no_places : (g : FileScope) → AreFresh g []
  no_places g = record { apart = tt; none_at = λ n o e i. i }

  -- a case value is a constant, for which no literal is made an object
  pub labels_stop : (labels : List Trees.Label) (s : Scope) (kind : IntKind) (before : Labels) → IsIn untagged ends f s → AreLabelsInRange labels
      → AreLabelsTimely labels → (fault : Fault) → labels_in labels s kind before ≡ Err fault
      → Stopped (at_labels labels) s (λ s. AreBrokenLabels labels s kind before fault)
  unfolding labels_in
  labels_stop [] s kind before p i t fault h = cc
  labels_stop (Trees.case at a colon ∷ more) s kind before p i t fault h =
      let Is = λ (s : Scope). AreBrokenLabels (Trees.case at a colon ∷ more) s kind before fault in
      let all_places = at_labels (Trees.case at a colon ∷ more) in
      let own : Additions = record { marks = []; said = spoken a; made = [] } in
      let here = constant_at (first a) (value_at (first a) (find a (for_value s))) in
      bound_err here _ fault (Stopped all_places s Is) h
      (λ e. stopped_more {k = own} (StopsAtConstant untagged (Up s (of_constant untagged a)) a fault) Is (inner_left own (at_labels more)) (λ s b. constant_broken s b)
      (stopped_of untagged ends f s (StopsAtConstant untagged (Up s (of_constant untagged a)) a fault) p
      (constant_faults untagged ends (Up s (of_constant untagged a)) a s (length f.records) i.0 (prepared untagged ends f s p (marks untagged a)) (many untagged ends f s p)
      (subst (λ b. IsTimely untagged ends b (length f.records) a) (sym p.within.inside) t.0) (λ g w. w) fault e)))
      (λ c e h.
      let v = constant_as untagged f a s i.0 p.within c e in
      let value = as_kind kind c.0.1 in
      beside_err c.1 (with_case at before value) _ fault (Stopped all_places s Is) h
      (λ k.
      let n = case_fault at before value fault k in
      stopped_more {k = own} Is Is (inner_left own (at_labels more)) (λ s b. b) (stopped_there untagged ends f s _ _ _ _ _ v.found Is
      (inr (inr (inr (c.0.0, c.0.1, holds_there untagged ends f s _ _ _ _ _ v.found p (no_places s.file), inl n))))))
      (λ all k h.
      let q = in_same untagged ends f s _ _ _ _ _ v.found p (no_places s.file) refl in
      let same = case_is at before value all k in
      bound_err (labels_in more (moved s c.1) kind all) _ fault (Stopped all_places s Is) h
      (λ e. stopped_later untagged ends f s _ _ _ _ _ v.found p (at_labels more) (no_places s.file) Is (λ s. AreBrokenLabels more s kind all fault)
      (λ g l is b. inr (inr (inr (c.0.0, c.0.1, is, inr (subst (λ all. AreBrokenLabels more (seen s g l) kind all fault) (sym same) b)))))
      (labels_stop more (moved s c.1) kind all q i.1 t.1 fault e))
      (λ rest e h. cc)))
    where
      constant_broken : (t : Scope) → StopsAtConstant untagged (Up s (of_constant untagged a)) a fault t
          → AreBrokenLabels (Trees.case at a colon ∷ more) t kind before fault
      constant_broken t (inl b) = inl b
      constant_broken t (inr (inl b)) = inr (inl b)
      constant_broken t (inr (inr b)) = inr (inr (inl b))
  labels_stop (Trees.default at colon ∷ more) s kind before p i t fault h =
      let Is = λ (s : Scope). AreBrokenLabels (Trees.default at colon ∷ more) s kind before fault in
      bound_err (with_default at before) _ fault (Stopped (at_labels more) s Is) h
      (λ e. stopped_here (at_labels more) s Is (inl (default_fault at before fault e)))
      (λ all e h.
      let same = default_is at before all e in
      bound_err (labels_in more s kind all) _ fault (Stopped (at_labels more) s Is) h
      (λ e. stopped_more (λ s. AreBrokenLabels more s kind all fault) Is (λ g w. w)
      (λ s b. inr (subst (λ all. AreBrokenLabels more s kind all fault) (sym same) b)) (labels_stop more s kind all p i t fault e))
      (λ rest e h. cc))
