-- `switch`: its labels and its items are those that are found (C99 6.8.1, 6.8.4.2).
use Rattle.std.proofs.Common.{◌≡◌, ◌≢◌, ℕ, suc, ◌+◌, ◌≤◌, true, false, List, [], ◌∷◌, ◌++◌, length, refl}
use Rattle.std.proofs.Common.{sym, ap, ◌∙◌, subst, arith}
use Rattle.std.proofs.lemmas.Bool.Decides.{nat_tests}
use Rattle.std.specs.Prelude.{◌==◌, Ok}
use Rattle.std.specs.List.{list_any}
use Rattle.c_types.specs.declared.ty.IntKind.{IntKind}
use Rattle.c_ast.specs.Trees
use Rattle.c_ast.specs.Places.{first}
use Rattle.c_typed.specs.Conversions.{as_kind}
use Rattle.c_typed.specs.TypedStatements.{IsAbsent, AreDifferent}
use Rattle.c_erasure.specs.BrokenStatements.{Labels}
use Rattle.c_erasure.specs.Scopes.{ALocal, Bound, FileScope, Scope, in_full, value_alone, for_value}
use Rattle.c_erasure.specs.Statements.{AreLabels}
use Rattle.c_erasure.specs.Checking.Answers.{moved}
use Rattle.c_erasure.specs.Checking.Finding.{constant_at, value_at, find}
use Rattle.c_erasure.specs.Checking.Statements.{Found, labels_in}
use Rattle.c_checking_laws.proofs.Results.{ok}
use Rattle.c_checking_laws.proofs.CompleteWalk.{Event, seen, walk}
use Rattle.c_checking_laws.proofs.CompletePart.{Lists, part, IsWhole, IsBefore, Done, BlocksFit, blocks_stay, none_after, grown, left_seen, right_seen}
use Rattle.c_checking_laws.proofs.CompletePart.{then_seen}
use Rattle.c_checking_laws.proofs.CompleteCalls.{constant_complete}
use Rattle.c_checking_laws.proofs.CompleteTrees.{complete}
use Rattle.c_checking_laws.proofs.CompleteStatements.{inner, outer, Seen, walk_of_labels}

-- ---- values of labels

-- none of some values stands among others, and they differ
abbrev pub AreFresh : List ℕ → List ℕ → Type 0
AreFresh known [] = Unit {0}
AreFresh known (v ∷ more) = (list_any (λ w. w == v) known ≡ false) × AreFresh (v ∷ known) more

abbrev pub onto : List ℕ → List ℕ → List ℕ
onto [] known = known
onto (v ∷ more) known = onto more (v ∷ known)

pub fresh_left : (known a b : List ℕ) → AreFresh known (a ++ b) → AreFresh known a
fresh_left known [] b h = tt
fresh_left known (v ∷ a) b h = (h.0, fresh_left (v ∷ known) a b h.1)

pub fresh_right : (known a b : List ℕ) → AreFresh known (a ++ b) → AreFresh (onto a known) b
fresh_right known [] b h = h
fresh_right known (v ∷ a) b h = fresh_right (v ∷ known) a b h.1

-- those that differ are fresh
AreAbsent : List ℕ → List ℕ → Type 0
AreAbsent [] all = Unit {0}
AreAbsent (k ∷ known) all = IsAbsent k all × AreAbsent known all

absent_rest : (known : List ℕ) (v : ℕ) (more : List ℕ) → AreAbsent known (v ∷ more) → AreAbsent known more
unfolding AreAbsent
absent_rest [] v more h = tt
absent_rest (k ∷ known) v more h = (h.0.1, absent_rest known v more h.1)

unequal : (n m : ℕ) → n ≢ m → (n == m) ≡ false
unequal n m h = grind (arith, nat_tests)

none_same : (known : List ℕ) (v : ℕ) (more : List ℕ) → AreAbsent known (v ∷ more) → list_any (λ w. w == v) known ≡ false
unfolding AreAbsent
none_same [] v more h = refl
none_same (k ∷ known) v more h = rw (unequal k v h.0.0, none_same known v more h.1) refl

different_fresh : (known all : List ℕ) → AreAbsent known all → AreDifferent all → AreFresh known all
unfolding AreAbsent
different_fresh known [] a d = tt
different_fresh known (v ∷ all) a d = (none_same known v all a, different_fresh (v ∷ known) all (d.0, absent_rest known v all a) d.1)

pub fresh_of_different : (all : List ℕ) → AreDifferent all → AreFresh [] all
unfolding AreAbsent
fresh_of_different all d = different_fresh [] all tt d

zero_back : (n m : ℕ) → n + suc m ≤ 1 → (n == 0) ≡ true
zero_back n m h = let e : n ≡ 0 = omega (arith, h) in rw (e) refl

module _ (g : FileScope) (w : IsWhole g) (ls : List ALocal) where
  abbrev labels_before : List ℕ → ℕ → Labels
  labels_before known n = record { cases = known; defaults = n }

  abbrev pub found_labels : List ℕ → ℕ → Labels → Found
  found_labels cases defaults before = record {
    cases = cases;
    defaults = defaults;
    all = record { cases = onto cases before.cases; defaults = before.defaults + defaults };
  }

  abbrev pub SeenLabels : (Trees.Declaration → List Event) → List Trees.Label → List Event
  SeenLabels own labels = Seen g w ls (walk_of_labels g.untagged own labels)

  case_joined : (at : ℕ) (a : Trees.Expression) (colon : ℕ) (more : List Trees.Label) (s t : Scope) (kind k : IntKind) (v : ℕ) (before : Labels) (rest : Found)
      (f : FileScope) → constant_at (first a) (value_at (first a) (find a (for_value s))) ≡ Ok ((k, v), f)
      → list_any (λ w. w == as_kind kind v) before.cases ≡ false
      → labels_in more (moved s f) kind (record { cases = as_kind kind v ∷ before.cases; defaults = before.defaults }) ≡ Ok (rest, t.file)
      → labels_in (Trees.case at a colon ∷ more) s kind before
      ≡ Ok (record { cases = as_kind kind v ∷ rest.cases; defaults = rest.defaults; all = rest.all }, t.file)
  unfolding labels_in
  case_joined at a colon more s t kind k v before rest f c n r = rw (c, n, r) refl

  default_joined : (at colon : ℕ) (more : List Trees.Label) (s t : Scope) (kind : IntKind) (before : Labels) (rest : Found) → (before.defaults == 0) ≡ true
      → labels_in more s kind (record { cases = before.cases; defaults = 1 }) ≡ Ok (rest, t.file)
      → labels_in (Trees.default at colon ∷ more) s kind before ≡ Ok (record { cases = rest.cases; defaults = rest.defaults + 1; all = rest.all }, t.file)
  unfolding labels_in
  default_joined at colon more s t kind before rest z r = rw (z, r) refl

  module _ (own : Trees.Declaration → List Event) where
    pub labels_complete : (labels : List Trees.Label) (b : List (List Bound)) (l : List ALocal) (c : Lists) (kind : IntKind) (cases : List ℕ) (defaults : ℕ)
        (before : Labels)
        → BlocksFit g (length c.records) b → IsBefore g c (SeenLabels own labels) → AreLabels labels (outer g w ls b) kind cases defaults
        → AreFresh before.cases cases → before.defaults + defaults ≤ 1
        → Done g c (SeenLabels own labels) (labels_in labels (inner g w ls b l c) kind before) (found_labels cases defaults before)
    unfolding labels_in
    labels_complete [] b l c kind cases defaults before f e h n d = record {
      lists = c;
      is = nothing_found cases defaults before h.0 h.1;
      after = none_after g c [] e refl refl refl;
    }
      where
        nothing_found : (cases : List ℕ) (defaults : ℕ) (before : Labels) → cases ≡ [] → defaults ≡ 0
            → ok {A = Found × FileScope} (record { cases = []; defaults = 0; all = before }, part g c) ≡ Ok (found_labels cases defaults before, part g c)
        nothing_found cases defaults before p q =
            let z : before.defaults ≡ before.defaults + defaults = omega (arith, q) in
            ap (λ n. ok {A = Found × FileScope} (record { cases = []; defaults = 0; all = record { cases = before.cases; defaults = n } }, part g c)) z
            ∙ ap (λ cases. ok {A = Found × FileScope}
            (record { cases = cases; defaults = 0; all = record { cases = onto cases before.cases; defaults = before.defaults + defaults } }, part g c))
            (sym p)
            ∙ ap (λ n. ok {A = Found × FileScope}
            (record { cases = cases; defaults = n; all = record { cases = onto cases before.cases; defaults = before.defaults + defaults } }, part g c))
            (sym q)
    labels_complete (Trees.case at a colon ∷ more) b l c kind cases defaults before f e h n d =
        let n = subst (AreFresh before.cases) h.4 n in
        let z = constant_complete g w ls a (complete g w ls a) (inner g w ls b l c) c h.0 h.1 f
        (left_seen g true in_full c (seen false value_alone (walk g.untagged a)) (walk_of_labels g.untagged own more) e) h.3 in
        let r = labels_complete more b l z.lists kind h.2 defaults (record { cases = as_kind kind h.1 ∷ before.cases; defaults = before.defaults })
        (blocks_stay g (length c.records) (length z.lists.records) b (grown z.after) f)
        (right_seen g true in_full c z.lists (seen false value_alone (walk g.untagged a)) (walk_of_labels g.untagged own more) e z.after) h.5 n.1 d in
        record {
          lists = r.lists;
          is = case_joined at a colon more (inner g w ls b l c) (inner g w ls b l r.lists) kind h.0 h.1 before
              (found_labels h.2 defaults (record { cases = as_kind kind h.1 ∷ before.cases; defaults = before.defaults })) (part g z.lists) z.is n.0 r.is
              ∙ ap (λ cases. ok {A = Found × FileScope} (found_labels cases defaults before, part g r.lists)) (sym h.4);
          after = then_seen g true in_full c z.lists r.lists (seen false value_alone (walk g.untagged a)) (walk_of_labels g.untagged own more) z.after r.after;
        }
    labels_complete (Trees.default at colon ∷ more) b l c kind cases defaults before f e h n d =
        let q = h.1 in
        let one : before.defaults + suc h.0 ≤ 1 = omega (arith, d, q) in
        let z = zero_back before.defaults h.0 one in
        let r = labels_complete more b l c kind cases h.0 (record { cases = before.cases; defaults = 1 }) f e h.2 n (omega (arith, one)) in
        let m : 1 + h.0 ≡ before.defaults + defaults = omega (arith, d, q) in
        record {
          lists = r.lists;
          is = default_joined at colon more (inner g w ls b l c) (inner g w ls b l r.lists) kind before
              (found_labels cases h.0 (record { cases = before.cases; defaults = 1 })) z r.is
              ∙ ap (λ n. ok {A = Found × FileScope}
              (record { cases = cases; defaults = h.0 + 1; all = record { cases = onto cases before.cases; defaults = n } }, part g r.lists)) m
              ∙ ap (λ n. ok {A = Found × FileScope} (
                record { cases = cases; defaults = n; all = record { cases = onto cases before.cases; defaults = before.defaults + defaults } },
                part g r.lists,
              )) (sym q);
          after = r.after;
        }
