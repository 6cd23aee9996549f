-- Labels of a `switch`: they differ, and `default` stands there once at most (C99 6.8.4.2).
use Rattle.std.proofs.Common.{◌≡◌, ◌≢◌, ℕ, ◌+◌, ◌≤◌, false, refl, sym, ap, ◌∙◌, subst, List, [], ◌∷◌, ◌++◌, append-nil, arith}
use Rattle.std.proofs.lemmas.Bool.{or_parts, eqb-true, eq-eqb}
use Rattle.std.proofs.lemmas.List.Elements.{All-cons, All-nil, All-append}
use Rattle.std.proofs.Common.{inl, inr}
use Rattle.std.specs.Prelude.{◌⊎◌, All, Ok, ◌==◌}
use Rattle.std.specs.List.{list_any}
use Rattle.c_types.specs.declared.ty.IntKind.{IntKind}
use Rattle.c_ast.specs.Trees
use Rattle.c_ast.specs.Places.{first}
use Rattle.c_typed.specs.Conversions.{as_kind}
use Rattle.c_typed.specs.TypedStatements.{IsAbsent, AreDifferent}
use Rattle.c_erasure.specs.BrokenStatements.{Labels}
use Rattle.c_erasure.specs.Erasure.{IsConstant, Erases}
use Rattle.c_erasure.specs.Marks.{marks}
use Rattle.c_erasure.specs.MentionPlaces.{spoken, spoken_of_labels}
use Rattle.c_erasure.specs.Scopes.{FileScope, Scope, for_value}
use Rattle.c_erasure.specs.Statements.{AreLabels}
use Rattle.c_erasure.specs.Checking.Answers.{moved}
use Rattle.c_erasure.specs.Checking.Finding.{value_at, constant_at, find}
use Rattle.c_erasure.specs.Checking.Statements.{with_case, with_default, Found, labels_in}
use Rattle.c_checking_laws.proofs.Results.{bound_ok, bound_with, given, only_if, chosen}
use Rattle.c_checking_laws.proofs.InRange.{IsInRange}
use Rattle.c_checking_laws.proofs.Sound.{sound_constant}
use Rattle.c_checking_laws.proofs.Growth.{grow_constant}
use Rattle.c_checking_laws.proofs.WholeFiles.Parts.{none}
use Rattle.c_checking_laws.proofs.WholeFiles.SameLocals.{with_locals, same_find}
use Rattle.c_checking_laws.proofs.WholeFiles.Scoped.{IsWithin, ready_for, inside_grows, within_moved, inner_of, outside}
use Rattle.c_checking_laws.proofs.WholeFiles.Keeping.{keep_constant}
use Rattle.c_checking_laws.proofs.WholeFiles.StatementParts.{FoundAs, then_as, change_as, nothing_as}

-- ---- case values, each of which is none of those before

abbrev pub pushed : (before new : List ℕ) → List ℕ
pushed before [] = before
pushed before (v ∷ more) = pushed (v ∷ before) more

abbrev pub AreFresh : (before new : List ℕ) → Type 0
AreFresh before [] = Unit {0}
AreFresh before (v ∷ more) = IsAbsent v before × AreFresh (v ∷ before) more

pub fresh_then : (before u v : List ℕ) → AreFresh before u → AreFresh (pushed before u) v → AreFresh before (u ++ v)
fresh_then before [] v p q = q
fresh_then before (x ∷ u) v p q = (p.0, fresh_then (x ∷ before) u v p.1 q)

pub pushed_then : (before u v : List ℕ) → pushed (pushed before u) v ≡ pushed before (u ++ v)
pushed_then before [] v = refl
pushed_then before (x ∷ u) v = pushed_then (x ∷ before) u v

abbrev IsOf : List ℕ → ℕ → Type 0
IsOf [] b = ⊥
IsOf (x ∷ more) b = (b ≡ x) ⊎ IsOf more b

absent_one : (v : ℕ) (before : List ℕ) → IsAbsent v before → (b : ℕ) → IsOf before b → b ≢ v
absent_one v [] h b i = absurd i
absent_one v (x ∷ more) h b (inl e) = λ f. h.0 (sym f ∙ e)
absent_one v (x ∷ more) h b (inr i) = absent_one v more h.1 b i

-- so they differ, also from those before
different_from : (before new : List ℕ) → AreFresh before new → AreDifferent new × ((b : ℕ) → IsOf before b → IsAbsent b new)
different_from before [] h = (tt, λ b i. tt)
different_from before (v ∷ more) h =
    let r = different_from (v ∷ before) more h.1 in
    ((r.1 v (inl refl), r.0), λ b i. (absent_one v before h.0 b i, r.1 b (inr i)))

pub are_different : (new : List ℕ) → AreFresh [] new → AreDifferent new
are_different new h = (different_from [] new h).0

-- ---- what labels add to those before

pub record AreCounted (kind : IntKind) (before : Labels) (cases : List ℕ) (defaults : ℕ) (last : Labels) : Type 0 where
  pub fresh : AreFresh before.cases cases
  pub pushed_are : last.cases ≡ pushed before.cases cases
  pub values : All (λ v. as_kind kind v ≡ v) cases
  pub counted : last.defaults ≡ before.defaults + defaults
  pub bounded : before.defaults ≤ 1 → last.defaults ≤ 1

pub counted_then : (kind : IntKind) (a b c : Labels) (u v : List ℕ) (n m k : ℕ) → AreCounted kind a u n b → AreCounted kind b v m c → k ≡ n + m
    → AreCounted kind a (u ++ v) k c
counted_then kind a b c u v n m k p q e = record {
  fresh = fresh_then a.cases u v p.fresh (subst (λ all. AreFresh all v) p.pushed_are q.fresh);
  pushed_are = q.pushed_are ∙ ap (λ all. pushed all v) p.pushed_are ∙ pushed_then a.cases u v;
  values = All-append (λ v. as_kind kind v ≡ v) u v p.values q.values;
  counted = let x = p.counted in let y = q.counted in omega (arith, x, y, e);
  bounded = λ h. q.bounded (p.bounded h);
}

pub none_counted : (kind : IntKind) (a : Labels) → AreCounted kind a [] 0 a
none_counted kind a = record {
  fresh = tt;
  pushed_are = refl;
  values = All-nil (λ v. as_kind kind v ≡ v);
  counted = omega arith;
  bounded = λ h. h;
}

absent_all : (v : ℕ) (all : List ℕ) → list_any (λ w. w == v) all ≡ false → IsAbsent v all
absent_all v [] h = tt
absent_all v (w ∷ more) h =
    let o = or_parts (w == v) (list_any (λ w. w == v) more) h in
    (λ e. let t = eq-eqb w v (sym e) in let f = o.0 in cc, absent_all v more o.1)

case_counted : (kind : IntKind) (at : ℕ) (before : Labels) (v : ℕ) (all : Labels) → as_kind kind v ≡ v → with_case at before v ≡ Ok all
    → AreCounted kind before (v ∷ []) 0 all
case_counted kind at before v all k h =
    chosen (list_any (λ w. w == v) before.cases) _ _ all (AreCounted kind before (v ∷ []) 0 all) h (λ b h. cc)
    (λ b h. given (AreCounted kind before (v ∷ []) 0) (record before { cases = v ∷ before.cases }) all h (record {
      fresh = (absent_all v before.cases b, tt);
      pushed_are = refl;
      values = All-cons (λ v. as_kind kind v ≡ v) v [] k (All-nil (λ v. as_kind kind v ≡ v));
      counted = omega arith;
      bounded = λ h. h;
    }))

default_counted : (kind : IntKind) (at : ℕ) (before all : Labels) → with_default at before ≡ Ok all → AreCounted kind before [] 1 all
default_counted kind at before all h =
    let b = only_if (before.defaults == 0) _ _ _ all h in
    let z = eqb-true before.defaults 0 b.0 in
    given (AreCounted kind before [] 1) (record before { defaults = 1 }) all b.1 (record {
      fresh = tt;
      pushed_are = refl;
      values = All-nil (λ v. as_kind kind v ≡ v);
      counted = omega (arith, z);
      bounded = λ h. omega arith;
    })

abbrev pub AreLabelsInRange : List Trees.Label → Type 0
AreLabelsInRange [] = Unit {0}
AreLabelsInRange (Trees.case at a colon ∷ more) = IsInRange a × AreLabelsInRange more
AreLabelsInRange (Trees.default at colon ∷ more) = AreLabelsInRange more

module _ (untagged : ℕ → List ℕ) (f : FileScope) where
  pub constant_as : (a : Trees.Expression) (s : Scope) → IsInRange a → IsWithin untagged f s → (z : (IntKind × ℕ) × FileScope)
      → constant_at (first a) (value_at (first a) (find a (for_value s))) ≡ Ok z
      → FoundAs untagged f s (spoken a) [] (λ c. IsConstant (Erases a) c z.0.0 z.0.1) [] (moved s z.1)
  constant_as a s n w z h =
      let u = marks untagged a in
      let v = sound_constant untagged a s n (ready_for w s.locals ([], sym (append-nil s.locals)) u) z h in
      let keeps = keep_constant untagged [] a s w.same (λ i. outside w.inside i) z h in
      record {
        found = record {
          within = within_moved untagged f s u z.1 w v.grew keeps;
          extends = v.grew.extends;
          more = [];
          locals = sym (append-nil s.locals);
          numbered = refl;
          made = [];
          texts = [];
          parted = none;
          grows = inside_grows s u (spoken a) [] z.1 w.inside w.full (grow_constant untagged a s w.same z h);
          inner = inner_of f s (moved s z.1) [] keeps;
          holds = λ g l e.
              let same = ap (λ r. constant_at (first a) (value_at (first a) r)) (same_find l a (for_value s)) ∙ h in
              (sound_constant untagged a (with_locals l s) n (ready_for w l e.locals u) z same).holds g e.extends;
        };
        stays = refl;
      }

  -- labels, and what they add
  pub record FoundLabels (labels : List Trees.Label) (s : Scope) (kind : IntKind) (before : Labels) (z : Found × FileScope) : Type 0 where
    pub found : FoundAs untagged f s (spoken_of_labels labels) [] (λ c. AreLabels labels c kind z.0.cases z.0.defaults) [] (moved s z.1)
    pub counted : AreCounted kind before z.0.cases z.0.defaults z.0.all

  pub labels_found : (labels : List Trees.Label) (s : Scope) (kind : IntKind) → ((v : ℕ) → as_kind kind (as_kind kind v) ≡ as_kind kind v) → (before : Labels)
      → AreLabelsInRange labels → IsWithin untagged f s → (z : Found × FileScope) → labels_in labels s kind before ≡ Ok z → FoundLabels labels s kind before z
  unfolding labels_in
  labels_found [] s kind k before n w z h =
      given (FoundLabels [] s kind before) (record { cases = []; defaults = 0; all = before }, s.file) z h (record {
        found = nothing_as untagged f s (λ c. AreLabels [] c kind [] 0) w (λ c. (refl, refl));
        counted = none_counted kind before;
      })
  labels_found (Trees.case at a colon ∷ more) s kind k before n w z h =
      let c = bound_ok (constant_at (first a) (value_at (first a) (find a (for_value s)))) _ z h in
      let v = constant_as a s n.0 w c.0 c.1 in
      let all = bound_with c.0.1 (with_case at before (as_kind kind c.0.0.1)) _ z c.2 in
      let rest = bound_ok (labels_in more (moved s c.0.1) kind all.0) _ z all.2 in
      let u = labels_found more (moved s c.0.1) kind k all.0 n.1 v.found.within rest.0 rest.1 in
      given (FoundLabels (Trees.case at a colon ∷ more) s kind before) (record rest.0.0 { cases = as_kind kind c.0.0.1 ∷ rest.0.0.cases }, rest.0.1) z rest.2
      (record {
        found = then_as untagged f s (moved s c.0.1) (moved s rest.0.1) (spoken a) (spoken_of_labels more) [] []
            (λ e. IsConstant (Erases a) e c.0.0.0 c.0.0.1) (λ e. AreLabels more e kind rest.0.0.cases rest.0.0.defaults)
            (λ e. AreLabels (Trees.case at a colon ∷ more) e kind (as_kind kind c.0.0.1 ∷ rest.0.0.cases) rest.0.0.defaults) [] [] v u.found
            (λ e x y. (c.0.0.0, c.0.0.1, rest.0.0.cases, x, refl, y));
        counted = counted_then kind before all.0 rest.0.0.all (as_kind kind c.0.0.1 ∷ []) rest.0.0.cases 0 rest.0.0.defaults rest.0.0.defaults
            (case_counted kind at before (as_kind kind c.0.0.1) all.0 (k c.0.0.1) all.1) u.counted (omega arith);
      })
  labels_found (Trees.default at colon ∷ more) s kind k before n w z h =
      let all = bound_ok (with_default at before) _ z h in
      let rest = bound_ok (labels_in more s kind all.0) _ z all.2 in
      let u = labels_found more s kind k all.0 n w rest.0 rest.1 in
      given (FoundLabels (Trees.default at colon ∷ more) s kind before) (record rest.0.0 { defaults = rest.0.0.defaults + 1 }, rest.0.1) z rest.2 (record {
        found = change_as untagged f s (moved s rest.0.1) (spoken_of_labels more) [] (λ e. AreLabels more e kind rest.0.0.cases rest.0.0.defaults)
            (λ e. AreLabels (Trees.default at colon ∷ more) e kind rest.0.0.cases (rest.0.0.defaults + 1)) [] [] u.found refl
            (λ e y. (rest.0.0.defaults, refl, y));
        counted = counted_then kind before all.0 rest.0.0.all [] rest.0.0.cases 1 rest.0.0.defaults (rest.0.0.defaults + 1)
            (default_counted kind at before all.0 all.1) u.counted (omega arith);
      })
