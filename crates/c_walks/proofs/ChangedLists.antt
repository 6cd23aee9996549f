-- Lists of which each item is changed where it stands, one after another.
use Rattle.std.proofs.Common.{◌≡◌, ◌≤◌, ◌<◌, ℕ, zero, suc, ◌+◌, List, [], ◌∷◌, ◌++◌, append_assoc, drop, flat_map, get_or, length, map, set, take, refl, ap, sym, ◌∙◌, arith}
use Rattle.std.proofs.lemmas.List.{drop_more, get_or-map, map-set, take_all, take_at}
use Rattle.std.proofs.lemmas.List.Edits.{map_over_more}
use Rattle.c_typed.specs.Changed.{Change, changed, changed_all, changed_arms, changed_statement, changed_statements}
use Rattle.c_typed.specs.Trees
use Rattle.c_typed.specs.TreeViews.{OneArm, arms_of, expressions_of, statements_of}

-- an arm with its statements changed
abbrev pub changed_arm : {S : Type 0} → Change S S → OneArm S → OneArm S
changed_arm change arm = (arm.0, arm.1, changed_statements change arm.2)

module _ {S : Type 0} (change : Change S S) {X : Type 0} where
  listed : (view : X → Trees.Expression S) (all : List X)
      → expressions_of (map (λ e. changed change (view e)) all) ≡ changed_all change (expressions_of (map view all))
  listed view [] = refl
  listed view (e ∷ more) = ap (Trees.and_expression (changed change (view e))) (listed view more)

  pub all_changed : (view : X → Trees.Expression S) (all done : List X) → map view done ≡ map (λ e. changed change (view e)) all
      → expressions_of (map view done) ≡ changed_all change (expressions_of (map view all))
  all_changed view all done h = ap expressions_of h ∙ listed view all

  statements_listed : (view : X → Trees.Statement S) (all : List X)
      → statements_of (map (λ s. changed_statement change (view s)) all) ≡ changed_statements change (statements_of (map view all))
  statements_listed view [] = refl
  statements_listed view (s ∷ more) = ap (Trees.and_statement (changed_statement change (view s))) (statements_listed view more)

  pub all_statements_changed : (view : X → Trees.Statement S) (all done : List X) → map view done ≡ map (λ s. changed_statement change (view s)) all
      → statements_of (map view done) ≡ changed_statements change (statements_of (map view all))
  all_statements_changed view all done h = ap statements_of h ∙ statements_listed view all

  arms_listed : (view : X → OneArm S) (all : List X) → arms_of (map (λ a. changed_arm change (view a)) all) ≡ changed_arms change (arms_of (map view all))
  arms_listed view [] = refl
  arms_listed view (a ∷ more) =
      let one = changed_arm change (view a) in
      ap (Trees.and_arm one.0 one.1 one.2) (arms_listed view more)

  pub all_arms_changed : (view : X → OneArm S) (all done : List X) → map view done ≡ map (λ a. changed_arm change (view a)) all
      → arms_of (map view done) ≡ changed_arms change (arms_of (map view all))
  all_arms_changed view all done h = ap arms_of h ∙ arms_listed view all

-- one more item is changed; what it stands for is read off by `view`
pub one_more : {X Y : Type 0} (view : X → Y) (f : Y → Y) (before : List Y) (all : List X) (i : ℕ) (d x : X) → i < length before → i < length all
    → map view all ≡ map f (take i before) ++ drop i before → view x ≡ f (view (get_or all i d))
    → map view (set all i x) ≡ map f (take (i + 1) before) ++ drop (i + 1) before
one_more view f before all i d x h k e o =
    let old = view (get_or all i d) in
    map-set view all i x ∙ ap (set (map view all) i) o
    ∙ map_over_more f before (map view all) i old h e (sym (get_or-map view all i d old k))

beyond : {Y : Type 0} (f : Y → Y) (before : List Y) (i : ℕ) (y : Y) → i < length before → get_or (map f (take i before) ++ drop i before) i y ≡ get_or before i y
beyond f [] i y h = absurd (omega (arith, h))
beyond f (x ∷ more) zero y h = refl
beyond f (x ∷ more) (suc i) y h = beyond f more i y (omega (arith, h))

-- and of one more item something is kept, before it is changed
pub one_more_kept : {X Y Z : Type 0} (view : X → Y) (f : Y → Y) (part : Y → List Z) (before : List Y) (all : List X) (i : ℕ) (d : X) (kept after start : List Z)
    → i < length before → i < length all → map view all ≡ map f (take i before) ++ drop i before → after ≡ kept ++ part (view (get_or all i d))
    → kept ++ flat_map part (drop i before) ≡ start ++ flat_map part before
    → after ++ flat_map part (drop (i + 1) before) ≡ start ++ flat_map part before
one_more_kept view f part before all i d kept after start h k e a o =
    let old = view (get_or all i d) in
    let rest = flat_map part (drop (i + 1) before) in
    let same : get_or before i old ≡ old =
    sym (beyond f before i old h) ∙ ap (λ them. get_or them i old) (sym e) ∙ get_or-map view all i d old k in
    ap (λ them. them ++ rest) a ∙ append_assoc kept (part old) rest
    ∙ ap (λ them. kept ++ them) (ap (λ y. part y ++ rest) (sym same) ∙ ap (flat_map part) (sym (drop_more before i old h))) ∙ o

-- all items are changed
pub ended : {X Y : Type 0} (view g : X → Y) (all before items old : List X) (i n : ℕ) → length all ≡ length before → before ≡ items → items ≡ old
    → n ≡ length items → length items ≤ i → map view (take i all) ≡ map g (take i before)
    → map view (take n (all ++ drop (length all) items)) ≡ map g old
ended view g all before items old i n l b o m h e =
    let k : length all ≡ length items = l ∙ ap length b in
    ap (map view) (take_at all (drop (length all) items) n (k ∙ sym m))
    ∙ ap (map view) (sym (take_all i all (rw k h)))
    ∙ e ∙ ap (λ them. map g (take i them)) b ∙ ap (map g) (take_all i items h) ∙ ap (map g) o
