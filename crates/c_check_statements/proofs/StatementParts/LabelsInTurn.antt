-- Labels in turn: one, and those after it.
use Rattle.std.proofs.Common.{◌≡◌, ◌∙◌, ◌<◌, ◌≤◌, ℕ, ◌+◌, List, [], ◌∷◌, ◌++◌, length, drop, get_or, map, Bool, true, false, refl, sym, ap, append-nil}
use Rattle.std.proofs.Common.{append_assoc, arith}
use Rattle.std.specs.Prelude.{Ok, Err, ◌==◌, ◌||◌, if◌then◌else◌, reverse}
use Rattle.lay_base.specs.declared.faults.Rule.TheVariants as R
use Rattle.std.specs.List.{list_any}
use Rattle.std.proofs.lemmas.List.{at_drop_all, reverse-append}
use Rattle.std.proofs.lemmas.List.Folds.{list_any-append}
use Rattle.c_types.specs.declared.ty.IntKind.{IntKind}
use Rattle.c_ast.specs.Places.{first}
use Rattle.c_ast.specs.Trees
use Rattle.c_ast.specs.Views.{label_of}
use Rattle.c_ast.specs.declared.statement.Label.{Label}
use Rattle.c_typed.specs.Conversions.{as_kind}
use Rattle.c_erasure.specs.BrokenStatements.{Labels}
use Rattle.c_erasure.specs.Scopes.{FileScope, Scope, for_value}
use Rattle.c_erasure.specs.Checking.Answers.{Answer, ◌>>=◌, Checked, moved, refused, with_file}
use Rattle.c_erasure.specs.Checking.Finding.{constant_at, find, value_at}
use Rattle.c_erasure.specs.Checking.Statements.{Found, labels_in, with_case, with_default}
use Rattle.c_check_parts.proofs.InitializerParts.Lists.{next_mapped}
use Rattle.c_check_statements.specs.declared.statement_parts.labels.SwitchLabels.{SwitchLabels}
use Rattle.c_check_statements.specs.StatementParts.Parts.{case_in, default_in, labels_after, switch_labels_of}

or_false : (b : Bool) → (b || false) ≡ b
or_false true = refl
or_false false = refl

or_turned : (b c : Bool) → (b || c) ≡ (c || b)
or_turned true true = refl
or_turned true false = refl
or_turned false true = refl
or_turned false false = refl

pub any_reversed : (v : ℕ) (cases : List ℕ) → list_any (λ w. w == v) (reverse cases) ≡ list_any (λ w. w == v) cases
any_reversed v [] = refl
any_reversed v (w ∷ cases) =
    ap (list_any (λ u. u == v)) (reverse-append (w ∷ []) cases)
    ∙ list_any-append (λ u. u == v) (reverse cases) (w ∷ [])
    ∙ ap (λ b. b || ((w == v) || false)) (any_reversed v cases)
    ∙ ap (λ b. list_any (λ u. u == v) cases || b) (or_false (w == v))
    ∙ or_turned (list_any (λ u. u == v) cases) (w == v)

pub case_repeated : (all : SwitchLabels) (at v : ℕ) → list_any (λ w. w == v) all.cases ≡ true → with_case at (switch_labels_of all) v ≡ refused R.Label at
case_repeated all at v h = ap (λ b. if b then refused R.Label at else Ok (record { cases = v ∷ reverse all.cases; defaults = all.defaults })) (any_reversed v all.cases ∙ h)

pub case_added : (old new : SwitchLabels) (at v : ℕ) → list_any (λ w. w == v) old.cases ≡ false → new.cases ≡ old.cases ++ v ∷ [] → new.defaults ≡ old.defaults
    → with_case at (switch_labels_of old) v ≡ Ok (switch_labels_of new)
case_added old new at v h e f =
    ap (λ b. if b then refused R.Label at else Ok (record { cases = v ∷ reverse old.cases; defaults = old.defaults })) (any_reversed v old.cases ∙ h)
    ∙ ap (λ cases. Ok (record { cases = cases; defaults = old.defaults })) (sym (ap reverse e ∙ reverse-append old.cases (v ∷ [])))
    ∙ ap (λ n. Ok (record { cases = reverse new.cases; defaults = n })) (sym f)

-- ---- a label and those after it

more_cases : (c : List ℕ) (d v : ℕ) (r : Checked Found)
    → labels_after c d (r >>= λ rest. Ok (record rest.0 { cases = v ∷ rest.0.cases }, rest.1)) ≡ labels_after (c ++ v ∷ []) (d + 0) r
more_cases c d v (Err fault) = refl
more_cases c d v (Ok rest) =
    ap (λ cases. Ok (record rest.0 { cases = cases; defaults = d + rest.0.defaults }, rest.1)) (sym (append_assoc c (v ∷ []) rest.0.cases))
    ∙ ap (λ n. Ok (record rest.0 { cases = (c ++ v ∷ []) ++ rest.0.cases; defaults = n }, rest.1)) (omega arith)

more_defaults : (c : List ℕ) (d : ℕ) (r : Checked Found)
    → labels_after c d (r >>= λ rest. Ok (record rest.0 { defaults = rest.0.defaults + 1 }, rest.1)) ≡ labels_after (c ++ []) (d + (0 + 1)) r
more_defaults c d (Err fault) = refl
more_defaults c d (Ok rest) =
    ap (λ cases. Ok (record rest.0 { cases = cases ++ rest.0.cases; defaults = d + (rest.0.defaults + 1) }, rest.1)) (sym (append-nil c))
    ∙ ap (λ n. Ok (record rest.0 { cases = (c ++ []) ++ rest.0.cases; defaults = n }, rest.1)) (omega arith)

module _ (c : List ℕ) (d : ℕ) (more : List Trees.Label) (s : Scope) (kind : IntKind) where
  abbrev next : Found × FileScope → Checked Found
  next x = labels_after x.0.cases x.0.defaults (labels_in more (moved s x.1) kind x.0.all)

  after_case : (v : ℕ) (f : FileScope) (r : Answer Labels)
      → labels_after c d (with_file f r >>= λ all. labels_in more (moved s all.1) kind all.0
      >>= λ rest. Ok (record rest.0 { cases = v ∷ rest.0.cases }, rest.1))
      ≡ (labels_after c d (with_file f r >>= λ all. labels_in [] (moved s all.1) kind all.0
      >>= λ rest. Ok (record rest.0 { cases = v ∷ rest.0.cases }, rest.1)) >>= next)
  unfolding labels_in
  after_case v f (Err fault) = refl
  after_case v f (Ok all) = more_cases c d v (labels_in more (moved s f) kind all)

  after_default : (r : Answer Labels)
      → labels_after c d (r >>= λ all. labels_in more s kind all >>= λ rest. Ok (record rest.0 { defaults = rest.0.defaults + 1 }, rest.1))
      ≡ (labels_after c d (r >>= λ all. labels_in [] s kind all >>= λ rest. Ok (record rest.0 { defaults = rest.0.defaults + 1 }, rest.1)) >>= next)
  unfolding labels_in
  after_default (Err fault) = refl
  after_default (Ok all) = more_defaults c d (labels_in more s kind all)

  after_constant : (at : ℕ) (before : Labels) (r : Checked (IntKind × ℕ))
      → labels_after c d (r >>= λ v. with_file v.1 (with_case at before (as_kind kind v.0.1)) >>= λ all. labels_in more (moved s all.1) kind all.0
      >>= λ rest. Ok (record rest.0 { cases = as_kind kind v.0.1 ∷ rest.0.cases }, rest.1))
      ≡ (labels_after c d (r >>= λ v. with_file v.1 (with_case at before (as_kind kind v.0.1)) >>= λ all. labels_in [] (moved s all.1) kind all.0
      >>= λ rest. Ok (record rest.0 { cases = as_kind kind v.0.1 ∷ rest.0.cases }, rest.1)) >>= next)
  after_constant at before (Err fault) = refl
  after_constant at before (Ok v) = after_case (as_kind kind v.0.1) v.1 (with_case at before (as_kind kind v.0.1))

pub labels_turn : (c : List ℕ) (d : ℕ) (l : Trees.Label) (more : List Trees.Label) (s : Scope) (kind : IntKind) (before : Labels)
    → labels_after c d (labels_in (l ∷ more) s kind before)
    ≡ (labels_after c d (labels_in (l ∷ []) s kind before) >>= λ x. labels_after x.0.cases x.0.defaults (labels_in more (moved s x.1) kind x.0.all))
unfolding labels_in
labels_turn c d (Trees.case at a colon) more s kind before =
    after_constant c d more s kind at before (constant_at (first a) (value_at (first a) (find a (for_value s))))
labels_turn c d (Trees.default at colon) more s kind before = after_default c d more s kind (with_default at before)

pub labels_begin : (r : Checked Found) → labels_after [] 0 r ≡ r
labels_begin (Err fault) = refl
labels_begin (Ok x) = ap (λ n. Ok (record x.0 { defaults = n }, x.1)) (omega arith)

-- ---- one label after those of its statement

module _ (c : List ℕ) (d : ℕ) (s : Scope) (kind : IntKind) (before : Labels) where
  a_case : (at v : ℕ) (f : FileScope) (r : Answer Labels)
      → labels_after c d (with_file f r >>= λ all. labels_in [] (moved s all.1) kind all.0
      >>= λ rest. Ok (record rest.0 { cases = v ∷ rest.0.cases }, rest.1))
      ≡ with_file f (r >>= λ all. Ok (record { cases = c ++ v ∷ []; defaults = d; all = all }))
  unfolding labels_in
  a_case at v f (Err fault) = refl
  a_case at v f (Ok all) = ap (λ n. Ok (record { cases = c ++ v ∷ []; defaults = n; all = all }, f)) (omega arith)

  after_constant_alone : (at : ℕ) (r : Checked (IntKind × ℕ))
      → labels_after c d (r >>= λ v. with_file v.1 (with_case at before (as_kind kind v.0.1)) >>= λ all. labels_in [] (moved s all.1) kind all.0
      >>= λ rest. Ok (record rest.0 { cases = as_kind kind v.0.1 ∷ rest.0.cases }, rest.1))
      ≡ (r >>= λ v. with_file v.1 (case_in at before (as_kind kind v.0.1) c d))
  after_constant_alone at (Err fault) = refl
  after_constant_alone at (Ok v) = a_case at (as_kind kind v.0.1) v.1 (with_case at before (as_kind kind v.0.1))

  a_default : (at : ℕ) (r : Answer Labels)
      → labels_after c d (r >>= λ all. labels_in [] s kind all >>= λ rest. Ok (record rest.0 { defaults = rest.0.defaults + 1 }, rest.1))
      ≡ with_file s.file (r >>= λ all. Ok (record { cases = c; defaults = d + 1; all = all }))
  unfolding labels_in
  a_default at (Err fault) = refl
  a_default at (Ok all) =
      ap (λ cases. Ok (record { cases = cases; defaults = d + (0 + 1); all = all }, s.file)) (append-nil c)
      ∙ ap (λ n. Ok (record { cases = c; defaults = n; all = all }, s.file)) (omega arith)

  pub one_case : (at : ℕ) (a : Trees.Expression) (colon : ℕ) → labels_after c d (labels_in (Trees.case at a colon ∷ []) s kind before)
      ≡ (constant_at (first a) (value_at (first a) (find a (for_value s))) >>= λ v. with_file v.1 (case_in at before (as_kind kind v.0.1) c d))
  unfolding labels_in
  one_case at a colon = after_constant_alone at (constant_at (first a) (value_at (first a) (find a (for_value s))))

  pub one_default : (at colon : ℕ) → labels_after c d (labels_in (Trees.default at colon ∷ []) s kind before) ≡ with_file s.file (default_in at before c d)
  unfolding labels_in
  one_default at colon = a_default at (with_default at before)

-- ---- the next label of a list, and its end

module _ (c : List ℕ) (d : ℕ) (all : List Label) (i : ℕ) (s : Scope) (kind : IntKind) (before : Labels) where
  pub labels_next : (l : Label) → i < length all → l ≡ get_or all i l → labels_after c d (labels_in (map label_of (drop i all)) s kind before)
      ≡ (labels_after c d (labels_in (label_of l ∷ []) s kind before)
      >>= λ x. labels_after x.0.cases x.0.defaults (labels_in (map label_of (drop (i + 1) all)) (moved s x.1) kind x.0.all))
  labels_next l h e =
      ap (λ rest. labels_after c d (labels_in rest s kind before)) (next_mapped label_of all i l h e)
      ∙ labels_turn c d (label_of l) (map label_of (drop (i + 1) all)) s kind before

  pub labels_end : length all ≤ i
      → labels_after c d (labels_in (map label_of (drop i all)) s kind before) ≡ Ok (record { cases = c; defaults = d; all = before }, s.file)
  unfolding labels_in
  labels_end h =
      rw (at_drop_all (map label_of) all i h)
      (ap (λ cases. Ok (record { cases = cases; defaults = d + 0; all = before }, s.file)) (append-nil c)
      ∙ ap (λ n. Ok (record { cases = c; defaults = n; all = before }, s.file)) (omega arith))
