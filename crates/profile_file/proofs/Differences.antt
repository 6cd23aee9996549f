-- How a walk in the order of the functions compares what is left.
use Rattle.std.proofs.Common.{◌≡◌, ℕ, zero, suc, ◌+◌, ◌<◌, ◌^◌, Bool, true, false, List, [], ◌∷◌, Option, Some, None, length, drop, get_or, ◌≤◌, Ok, refl, sym}
use Rattle.std.proofs.Common.{ap, ◌∙◌, add-one, arith}
use Rattle.std.specs.Prelude.{◌==◌, if◌then◌else◌, is_some, map, slice_get}
use Rattle.std.specs.List.{All}
use Rattle.std.specs.Str.{bytes_eq}
use Rattle.std.proofs.lemmas.List.{drop_all, length-map}
use Rattle.std.proofs.lemmas.List.Elements.{All-head, All-tail}
use Rattle.std.proofs.Math.Seq.{drop-cons}
use Rattle.lay_base.specs.declared.faults.Stale.{Stale}
use Rattle.lay_base.specs.declared.faults.StaleKind.TheVariants.{Order, Loops}
use Rattle.c_typed.specs.declared.run_counts.counts.FunCount.{FunCount}
use Rattle.c_typed.specs.declared.run_counts.order.Defined.{Defined}
use Rattle.c_typed.specs.RunCounts.Counting.{name_at}
use Rattle.c_typed.specs.RunCounts.Loops.{loops_at, loops_of, loops_of_any}
use Rattle.c_typed.specs.RunCounts.Order.{defined_from}
use Rattle.c_typed.specs.RunCounts.Stale.{loops_among, loops_differ, names_among, order_differs, place_of, unless_stale}
use Rattle.c_typed.specs.Programs.{FunctionData, ProgramData, data_of}
use Rattle.c_typed.specs.declared.program.Function.{Function}

none_some : {A : Type 0} (x : A) → None ≡ Some x → ⊥
none_some x e = cc

some_same : {A : Type 0} (x y : A) → Some x ≡ Some y → x ≡ y
some_same x y e = cc

pub found_at : (order : List Defined) (i : ℕ) (x : Defined) → i < length order → x ≡ get_or order i x → slice_get order i ≡ Some x
found_at [] i x lt is = absurd (omega (arith, lt))
found_at (y ∷ ys) zero x lt is = ap Some (sym is)
found_at (y ∷ ys) (suc i) x lt is = found_at ys i x (omega (arith, lt)) is

pub none_left : (order : List Defined) (i : ℕ) → slice_get order i ≡ None → drop i order ≡ []
none_left [] i e = drop_all i [] (omega arith)
none_left (y ∷ ys) zero e = absurd (none_some y (sym e))
none_left (y ∷ ys) (suc i) e = none_left ys i e

pub one_more : (order : List Defined) (i : ℕ) (x : Defined) → slice_get order i ≡ Some x → drop i order ≡ x ∷ drop (i + 1) order
one_more [] i x e = absurd (none_some x e)
one_more (y ∷ ys) zero x e = ap (λ z. z ∷ ys) (some_same y x e)
one_more (y ∷ ys) (suc i) x e =
    one_more ys i x e ∙ ap (λ n. x ∷ drop n ys) (add-one i) ∙ ap (λ n. x ∷ drop n (y ∷ ys)) (sym (add-one (suc i)))

-- ---- names

order_differs_none : (profile : List (List ℕ)) (i : ℕ) (xs : List (List ℕ)) → order_differs profile i xs [] ≡ None
order_differs_none profile i [] = refl
order_differs_none profile i (x ∷ xs) = refl

pub names_end : (p : ProgramData) (profile : List (List ℕ)) (order : List Defined) (i : ℕ) (w : Option Stale)
    → order_differs profile i (names_among p (drop i order)) [] ≡ w → w ≡ None
names_end p profile order i w e = sym e ∙ order_differs_none profile i (names_among p (drop i order))

pub names_over : (p : ProgramData) (profile : List (List ℕ)) (order : List Defined) (i : ℕ) (names : List (List ℕ)) (w : Option Stale)
    → slice_get order i ≡ None → order_differs profile i (names_among p (drop i order)) names ≡ w → w ≡ None
names_over p profile order i names w e h =
    sym h ∙ ap (λ zs. order_differs profile i (names_among p zs) names) (none_left order i e)

pub names_more : (p : ProgramData) (profile : List (List ℕ)) (order : List Defined) (i : ℕ) (x : Defined) (name : List ℕ) (names : List (List ℕ)) (w : Option Stale)
    → slice_get order i ≡ Some x → bytes_eq (name_at p x.number) name ≡ true
    → order_differs profile i (names_among p (drop i order)) (name ∷ names) ≡ w → order_differs profile (i + 1) (names_among p (drop (i + 1) order)) names ≡ w
names_more p profile order i x name names w e same h =
    let one : order_differs profile i (names_among p (x ∷ drop (i + 1) order)) (name ∷ names) ≡ order_differs profile (i + 1) (names_among p (drop (i + 1) order)) names = rw same refl in
    sym one ∙ ap (λ zs. order_differs profile i (names_among p zs) (name ∷ names)) (sym (one_more order i x e)) ∙ h

pub names_differ : (p : ProgramData) (profile : List (List ℕ)) (order : List Defined) (i : ℕ) (x : Defined) (name : List ℕ) (names : List (List ℕ)) (w : Option Stale)
    → slice_get order i ≡ Some x → bytes_eq (name_at p x.number) name ≡ false
    → order_differs profile i (names_among p (drop i order)) (name ∷ names) ≡ w
    → w ≡ Some (record { kind = Order; function = i; expected = i; found = place_of profile (name_at p x.number) })
names_differ p profile order i x name names w e other h =
    let one : order_differs profile i (names_among p (x ∷ drop (i + 1) order)) (name ∷ names)
    ≡ Some (record { kind = Order; function = i; expected = i; found = place_of profile (name_at p x.number) }) = rw other refl in
    sym h ∙ ap (λ zs. order_differs profile i (names_among p zs) (name ∷ names)) (one_more order i x e) ∙ one

-- ---- numbers of loops

loops_differ_none : (i : ℕ) (ns : List ℕ) → loops_differ i ns [] ≡ None
loops_differ_none i [] = refl
loops_differ_none i (n ∷ ns) = refl

pub loops_end : (p : ProgramData) (order : List Defined) (i : ℕ) (w : Option Stale) → loops_differ i (loops_among p (drop i order)) [] ≡ w → w ≡ None
loops_end p order i w e = sym e ∙ loops_differ_none i (loops_among p (drop i order))

pub loops_over : (p : ProgramData) (order : List Defined) (i : ℕ) (counts : List ℕ) (w : Option Stale)
    → slice_get order i ≡ None → loops_differ i (loops_among p (drop i order)) counts ≡ w → w ≡ None
loops_over p order i counts w e h = sym h ∙ ap (λ zs. loops_differ i (loops_among p zs) counts) (none_left order i e)

pub loops_more : (p : ProgramData) (order : List Defined) (i : ℕ) (x : Defined) (n : ℕ) (counts : List ℕ) (w : Option Stale)
    → slice_get order i ≡ Some x → (loops_at p x.number == n) ≡ true
    → loops_differ i (loops_among p (drop i order)) (n ∷ counts) ≡ w → loops_differ (i + 1) (loops_among p (drop (i + 1) order)) counts ≡ w
loops_more p order i x n counts w e same h =
    let one : loops_differ i (loops_among p (x ∷ drop (i + 1) order)) (n ∷ counts) ≡ loops_differ (i + 1) (loops_among p (drop (i + 1) order)) counts = rw same refl in
    sym one ∙ ap (λ zs. loops_differ i (loops_among p zs) (n ∷ counts)) (sym (one_more order i x e)) ∙ h

pub number_of_loops_differs : (p : ProgramData) (order : List Defined) (i : ℕ) (x : Defined) (n : ℕ) (counts : List ℕ) (w : Option Stale)
    → slice_get order i ≡ Some x → (loops_at p x.number == n) ≡ false
    → loops_differ i (loops_among p (drop i order)) (n ∷ counts) ≡ w → w ≡ Some (record { kind = Loops; function = i; expected = loops_at p x.number; found = n })
number_of_loops_differs p order i x n counts w e other h =
    let one : loops_differ i (loops_among p (x ∷ drop (i + 1) order)) (n ∷ counts) ≡ Some (record { kind = Loops; function = i; expected = loops_at p x.number; found = n }) = rw other refl in
    sym h ∙ ap (λ zs. loops_differ i (loops_among p zs) (n ∷ counts)) (one_more order i x e) ∙ one

-- ---- each function has few loops

pub few_loops : (fs : List Function) (number : ℕ) → All (λ f. loops_of (data_of f) < 2 ^ 32) fs → loops_of_any (slice_get (map data_of fs) number) < 2 ^ 32
few_loops [] number all = omega arith
few_loops (f ∷ fs) number all = go number (λ k. few_loops fs k (All-tail (λ f. loops_of (data_of f) < 2 ^ 32) f fs all))
  where
    go : (k : ℕ) → ((k : ℕ) → loops_of_any (slice_get (map data_of fs) k) < 2 ^ 32) → loops_of_any (slice_get (map data_of (f ∷ fs)) k) < 2 ^ 32
    go zero later = All-head (λ f. loops_of (data_of f) < 2 ^ 32) f fs all
    go (suc k) later = later k

-- ---- the walk over the profile's functions

dropped : (fs : List FunCount) (i : ℕ) (f : FunCount) → i < length fs → f ≡ get_or fs i f → drop i fs ≡ f ∷ drop (i + 1) fs
dropped fs i f lt is = drop-cons fs i f lt ∙ ap (λ g. g ∷ drop (suc i) fs) (sym is) ∙ ap (λ n. f ∷ drop n fs) (sym (add-one i))

pub names_next : (p : ProgramData) (profile : List (List ℕ)) (order : List Defined) (fs : List FunCount) (i : ℕ) (f : FunCount) (x : Defined) (w : Option Stale)
    → i < length fs → f ≡ get_or fs i f → slice_get order i ≡ Some x → bytes_eq (name_at p x.number) f.name ≡ true
    → order_differs profile i (names_among p (drop i order)) (map (λ g. g.name) (drop i fs)) ≡ w
    → order_differs profile (i + 1) (names_among p (drop (i + 1) order)) (map (λ g. g.name) (drop (i + 1) fs)) ≡ w
names_next p profile order fs i f x w lt is e same h =
    names_more p profile order i x f.name (map (λ g. g.name) (drop (i + 1) fs)) w e same
    (ap (λ gs. order_differs profile i (names_among p (drop i order)) (map (λ g. g.name) gs)) (sym (dropped fs i f lt is)) ∙ h)

pub names_at_end : (p : ProgramData) (profile : List (List ℕ)) (order : List Defined) (fs : List FunCount) (i : ℕ) (w : Option Stale) → length fs ≤ i
    → order_differs profile i (names_among p (drop i order)) (map (λ g. g.name) (drop i fs)) ≡ w → Ok tt ≡ unless_stale w
names_at_end p profile order fs i w le h =
    ap unless_stale (sym (names_end p profile order i w
    (ap (λ gs. order_differs profile i (names_among p (drop i order)) (map (λ g. g.name) gs)) (sym (drop_all i fs le)) ∙ h)))

pub loops_next : (p : ProgramData) (order : List Defined) (fs : List FunCount) (i : ℕ) (f : FunCount) (x : Defined) (w : Option Stale)
    → i < length fs → f ≡ get_or fs i f → slice_get order i ≡ Some x → (loops_at p x.number == length f.loops) ≡ true
    → loops_differ i (loops_among p (drop i order)) (map (λ g. length g.loops) (drop i fs)) ≡ w
    → loops_differ (i + 1) (loops_among p (drop (i + 1) order)) (map (λ g. length g.loops) (drop (i + 1) fs)) ≡ w
loops_next p order fs i f x w lt is e same h =
    loops_more p order i x (length f.loops) (map (λ g. length g.loops) (drop (i + 1) fs)) w e same
    (ap (λ gs. loops_differ i (loops_among p (drop i order)) (map (λ g. length g.loops) gs)) (sym (dropped fs i f lt is)) ∙ h)

pub loops_at_end : (p : ProgramData) (order : List Defined) (fs : List FunCount) (i : ℕ) (w : Option Stale) → length fs ≤ i
    → loops_differ i (loops_among p (drop i order)) (map (λ g. length g.loops) (drop i fs)) ≡ w → Ok tt ≡ unless_stale w
loops_at_end p order fs i w le h =
    ap unless_stale (sym (loops_end p order i w
    (ap (λ gs. loops_differ i (loops_among p (drop i order)) (map (λ g. length g.loops) gs)) (sym (drop_all i fs le)) ∙ h)))

-- ---- no more functions are defined than there are

pub few_defined : (k : ℕ) (fs : List FunctionData) → length (defined_from k fs) ≤ length fs
few_defined k [] = omega arith
few_defined k (f ∷ fs) = go (is_some f.body) (few_defined (k + 1) fs)
  where
    go : (b : Bool) → length (defined_from (k + 1) fs) ≤ length fs
        → length (if b then record { number = k; place = f.place } ∷ defined_from (k + 1) fs else defined_from (k + 1) fs) ≤ length (f ∷ fs)
    go true le = omega (arith, le)
    go false le = omega (arith, le)

pub few_defined_of : (fs : List Function) → length fs < 2 ^ 32 → length (defined_from 0 (map data_of fs)) < 2 ^ 32
few_defined_of fs h = omega (arith, h, few_defined 0 (map data_of fs), length-map fs data_of)
