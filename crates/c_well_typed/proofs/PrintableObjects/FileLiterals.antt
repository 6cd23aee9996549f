-- In the tree of a text each object is that of a string literal, or has an initializer of the tree; and what initializes objects and the bodies of functions
-- refer to each object of a literal once (C99 6.4.5, 6.7.8, 6.9).
use Rattle.std.proofs.Common.{◌≡◌, ◌≢◌, ◌∙◌, ℕ, zero, suc, ◌+◌, ◌≤◌, ◌<◌, Bool, true, false, refl, sym, ap, subst, List, [], ◌∷◌, ◌++◌, length, map, arith, inl}
use Rattle.std.proofs.Common.{inr}
use Rattle.std.proofs.lemmas.List.Elements.{recursion_from_All}
use Rattle.std.specs.Prelude.{◌⊎◌, Option, Some, None, slice_get}
use Rattle.std.specs.List.{AllByRecursion}
use Rattle.c_types.specs.Types.{CType}
use Rattle.c_ast.specs.Trees
use Rattle.c_ast.specs.TreesOfFiles.{IsTreeOf}
use Rattle.c_typed.specs.References.{references_by_initial}
use Rattle.c_typed.specs.Trees as Typed
use Rattle.c_erasure.specs.Files.{count_up, AreAscending, ErasesItem, IsFileOf, IsMade as IsMadeThere, IsIntroduced, IsLeft, IsOpen, is_defined, is_tentative}
use Rattle.c_erasure.specs.Literals.{made_by_file}
use Rattle.c_erasure.specs.Marks.{marks_of_file, scope_beginnings}
use Rattle.c_erasure.specs.Noted.{Noted}
use Rattle.c_erasure.specs.Scopes.{Entity, an_object, a_function, Bound, AFunction, AnObject, FileScope}
use Rattle.c_erasure.specs.Scopes.{visible, ended}
use Rattle.c_checking_laws.proofs.WholeFiles.CompleteObjects.{mapped_at}
use Rattle.c_checking_units.proofs.Lists.{ascending_apart}
use Rattle.c_checking_units.proofs.Tracing.{name_at}
use Rattle.c_checking_units.proofs.WholeFiles.{visible_is}
use Rattle.c_checking_laws.specs.TextOrder.TextOrder.{AreInTextOrder, places_of_file}
use Rattle.c_well_typed.proofs.ProgramWeights.Numbered.{total}
use Rattle.c_well_typed.proofs.Definitions.{IsDeclaring, IsDefining, declaring, defining}
use Rattle.c_well_typed.proofs.Enumerators.{anything}
use Rattle.c_well_typed.proofs.FileObjects.{IsObjectName, name_known}
use Rattle.c_well_typed.proofs.MadeNames as MadeNames
use Rattle.c_well_typed.proofs.NamedTypes.{IsMadeEntity}
use Rattle.c_well_typed.proofs.LiteralObjects.{any_good}
use Rattle.c_well_typed.proofs.TokenBytes.{tree_of_bytes}
use Rattle.c_well_typed.proofs.UnitFunctions.{records_ended}
use Rattle.c_well_typed.specs.Printable.Programs.{times}
use Rattle.c_well_typed.proofs.PrintableObjects.Counts.{IsIn, sum_of, sum_below, sum_below_same, below_covered, one_below, some_weighs}
use Rattle.c_well_typed.proofs.PrintableObjects.Literals.{Walk, IsLiteralObject, IsTextAt}
use Rattle.c_well_typed.proofs.PrintableObjects.OwnNames.{IsOwn, IsOwnEntity}
use Rattle.c_well_typed.proofs.PrintableObjects.Sources.{IsMadeLocal, IsSourced, IsFilled, weight, weight_of, IsPlaced}
use Rattle.c_well_typed.proofs.PrintableObjects.Totals.{at_place, past_end, by_places, at_most_once, file_fewer, at_least_once}
use Rattle.c_well_typed.proofs.PrintableObjects.WalkedFiles.{body_weight, function_weight, function_weight_of, IsFine, IsNamedBy, IsMade, items_made}

some_is : {A : Type 0} (x y : A) → Some x ≡ Some y → x ≡ y
some_is x y h = cc

module _ (bytes : List ℕ) (items : List Trees.Item) (f : FileScope) (tree : IsTreeOf bytes items) (h : IsFileOf items f)
    (beginnings : AreAscending (scope_beginnings (marks_of_file f.untagged items))) where
  abbrev pub count : ℕ
  count = length f.records

  pub less : (at : ℕ) → ended f.ends at ≤ count
  less = records_ended items f h beginnings

  pub visible_made : (x : List ℕ) (at : ℕ) (e : Entity) → visible f.names x at ≡ Some e → IsMadeEntity f count less e
  visible_made = MadeNames.visible_made f count less h.consistent items tree.3.well_formed h beginnings

  name_own : (b : Bound) → IsObjectName f count less (any_good f) b → IsOwnEntity f b.entity
  name_own b k = by_entity b.entity (λ n t e. (k n t e).0)
    where
      by_entity : (e : Entity) → ((n : ℕ) (t : CType) → e ≡ an_object n t → IsOwn f n) → IsOwnEntity f e
      by_entity (an_object n t) k = k n t refl
      by_entity e k = tt

  pub visible_own : (x : List ℕ) (at : ℕ) (e : Entity) → visible f.names x at ≡ Some e → IsOwnEntity f e
  visible_own x at e v =
      let z = visible_is f.names x at e v in
      subst (IsOwnEntity f) z.5 (name_own z.1 (name_known f count less (any_good f) items (tree_of_bytes bytes items tree) h beginnings z.0 z.1 z.2))

  abbrev pub walk : (n at : ℕ) → Walk
  walk n at = record {
    file = f;
    count = count;
    less = less;
    visible_made = visible_made;
    visible_own = visible_own;
    ascending = h.objects_in_order;
    number = n;
    at = at;
  }

  module _ (n at : ℕ) where
    abbrev pub w : Walk
    w = walk n at

    pub made : IsMade w (marks_of_file f.untagged items) (made_by_file items)
    made = items_made w [] items tree.3.well_formed (recursion_from_All (ErasesItem f) items h.each_item)

    name_fine : (k : ℕ) (b : Bound) → slice_get f.names k ≡ Some b → IsFine w made.origins made.functions b
    name_fine k b e =
        let x = made in
        let names = subst AreAscending (sym h.names) beginnings in
        let from : slice_get (map (λ (b : Bound). b.from) f.names) k ≡ Some b.from = mapped_at (λ (b : Bound). b.from) f.names k b e in
        let all = x.names x.origins x.functions (λ k i. i) (λ k i. i) in
        let z = name_at (IsNamedBy w x.origins x.functions) anything (marks_of_file f.untagged items) k b.from all
        (subst (λ all. slice_get all k ≡ Some b.from) h.names from) in
        let other = mapped_at (λ (b : Bound). b.from) f.names z.1.0 z.0 z.1.1 ∙ ap Some z.2 in
        let number : z.1.0 ≡ k = ascending_apart (map (λ b. b.from) f.names) names z.1.0 k b.from other from in
        let there : slice_get f.names k ≡ Some z.0 = subst (λ k. slice_get f.names k ≡ Some z.0) number z.1.1 in
        subst (IsFine w x.origins x.functions) (some_is z.0 b (sym there ∙ e)) z.3

    -- ---- each object

    -- it is one of a literal, or has an initializer, and is among those that refer to something
    abbrev pub IsCovered : ℕ → AnObject → Type 0
    IsCovered m o = IsLiteralObject o ⊎ (IsSourced w o × (weight w m ≢ 0 → IsIn m made.origins))

    pub object_covered : (m : ℕ) (o : AnObject) → slice_get f.objects m ≡ Some o → IsCovered m o
    object_covered m o e = by_maker (h.objects m o e)
      where
        placed : IsLiteralObject o ⊎ (IsIn m made.origins × IsSourced w o) → IsCovered m o
        placed (inl l) = inl l
        placed (inr s) = inr (s.1, λ d. s.0)

        no_weight : (i : Option (Typed.Initializer Noted)) → o.initial ≡ i → times n (references_by_initial i) ≡ 0 → weight w m ≡ 0
        no_weight i q z = ap (weight_of w) e ∙ ap (λ i. times n (references_by_initial i)) q ∙ z

        of_initial : IsDeclaring f count less f.names (an_object m o.ty) → (i : Option (Typed.Initializer Noted)) → o.initial ≡ i
            → (i ≡ Some (Typed.parts [])) ⊎ (i ≡ None) → IsCovered m o
        of_initial d i q known =
            let k = name_fine d.0 d.1 d.2 in
            inr (
              record { own = own; made = (k.object m o.ty d.3).0; filled = λ j r. filled j (sym q ∙ r) known },
              λ z. absurd (z (no_weight i q (weightless known))),
            )
          where
            own : o.literal ≡ None
            own =
                let k = name_known f count less (any_good f) items (tree_of_bytes bytes items tree) h beginnings d.0 d.1 d.2 in
                let z = (k m o.ty d.3).0 in
                subst (λ (o : AnObject). o.literal ≡ None) (some_is z.0 o (sym z.1 ∙ e)) z.2

            filled : (j : Typed.Initializer Noted) → i ≡ Some j → (i ≡ Some (Typed.parts [])) ⊎ (i ≡ None) → IsFilled w o.ty j
            filled j r (inl p) = inl (some_is j (Typed.parts []) (sym r ∙ p))
            filled j r (inr p) = let no : None ≡ Some j = sym p ∙ r in cc

            weightless : (i ≡ Some (Typed.parts [])) ⊎ (i ≡ None) → times n (references_by_initial i) ≡ 0
            weightless (inl p) = ap (λ i. times n (references_by_initial i)) p
            weightless (inr p) = ap (λ i. times n (references_by_initial i)) p

        defined : IsDefining f count less f.names (an_object m o.ty) → IsCovered m o
        defined d =
            let k = name_fine d.0 d.1 d.2 in
            let s = (k.object m o.ty d.3).1 d.4 in
            inr (subst (IsSourced w) (some_is s.1.0 o (sym s.1.1 ∙ e)) s.1.2, λ z. s.0)

        by_left : (b c : Bool) → IsLeft f o b c → (b ≡ true → IsDefining f count less f.names (an_object m o.ty))
            → IsDeclaring f count less f.names (an_object m o.ty) → IsCovered m o
        by_left true c l k d = defined (k refl)
        by_left false true l k d = of_initial d o.initial refl (inl l.1)
        by_left false false l k d = of_initial d o.initial refl (inr l.1)

        among : (places : List ℕ) → IsMadeThere places o.first → AllByRecursion (IsPlaced w made.origins) places → IsCovered m o
        among [] i k = absurd i
        among (p ∷ places) (inl q) k = placed (k.0 m o e q)
        among (p ∷ places) (inr i) k = among places i k.1

        by_maker : IsIntroduced f items m o → IsCovered m o
        by_maker (inl i) = let x = made in among (made_by_file items) i (x.placed x.origins (λ k i. i))
        by_maker (inr d) =
            by_left (is_defined d.0) (is_tentative d.0) d.3 (λ t. defining f count less f.names (an_object m o.ty) d.0 d.2 t)
            (declaring f count less f.names (an_object m o.ty) d.0 d.2 d.1)

    literal_weightless : (m : ℕ) (o : AnObject) → slice_get f.objects m ≡ Some o → IsLiteralObject o → weight w m ≡ 0
    literal_weightless m o e l = ap (weight_of w) e ∙ ap (λ (o : AnObject). times n (references_by_initial o.initial)) l.1

    origin : (m : ℕ) → weight w m ≢ 0 → IsIn m made.origins
    origin m d = by_object (slice_get f.objects m) refl
      where
        by_object : (o : Option AnObject) → slice_get f.objects m ≡ o → IsIn m made.origins
        by_object None e = absurd (d (ap (weight_of w) e))
        by_object (Some o) e = by_kind (object_covered m o e)
          where
            by_kind : IsCovered m o → IsIn m made.origins
            by_kind (inl l) = absurd (d (literal_weightless m o e l))
            by_kind (inr s) = s.1 d

    -- ---- each function

    body_origin : (k : ℕ) → function_weight w k ≢ 0 → IsIn k made.functions
    body_origin k d = by_function (slice_get f.functions k) refl
      where
        by_function : (o : Option AFunction) → slice_get f.functions k ≡ o → IsIn k made.functions
        by_function None e = absurd (d (ap (function_weight_of w) e))
        by_function (Some g) e = let z = h.functions k g e in by_open (is_defined z.0) refl z.3
          where
            by_open : (b : Bool) → is_defined (h.functions k g e).0 ≡ b → IsOpen f items g b → IsIn k made.functions
            by_open true t o =
                let z = h.functions k g e in
                let b = defining f count less f.names (a_function k g.ty) z.0 z.2 t in
                let x = name_fine b.0 b.1 b.2 in
                (x.function k g.ty b.3 b.4).0
            by_open false t o = absurd (d (ap (function_weight_of w) e ∙ ap (body_weight w) o.0))

    -- its locals have types that functions and arrays can have
    pub locals_made : (k : ℕ) (g : AFunction) → slice_get f.functions k ≡ Some g → g.body ≢ None
        → AllByRecursion (IsMadeLocal w (g.parameters ++ g.locals)) (count_up (length g.parameters) (length g.locals))
    locals_made k g e d = let z = h.functions k g e in by_open (is_defined z.0) refl z.3
      where
        by_open : (b : Bool) → is_defined (h.functions k g e).0 ≡ b → IsOpen f items g b
            → AllByRecursion (IsMadeLocal w (g.parameters ++ g.locals)) (count_up (length g.parameters) (length g.locals))
        by_open true t o =
            let z = h.functions k g e in
            let b = defining f count less f.names (a_function k g.ty) z.0 z.2 t in
            let x = name_fine b.0 b.1 b.2 in
            let own = (x.function k g.ty b.3 b.4).1 in
            subst (λ (g : AFunction). AllByRecursion (IsMadeLocal w (g.parameters ++ g.locals)) (count_up (length g.parameters) (length g.locals)))
            (some_is own.0 g (sym own.1 ∙ e)) own.2
        by_open false t o = absurd (d o.0)

    -- ---- all of them

    abbrev pub object_weight : AnObject → ℕ
    object_weight o = times n (references_by_initial o.initial)

    abbrev pub weight_of_function : AFunction → ℕ
    weight_of_function g = body_weight w g.body

    objects_are : (m : ℕ) → at_place object_weight (slice_get f.objects m) ≡ weight w m
    objects_are m = by_object (slice_get f.objects m)
      where
        by_object : (o : Option AnObject) → at_place object_weight o ≡ weight_of w o
        by_object None = refl
        by_object (Some o) = refl

    functions_are : (k : ℕ) → at_place weight_of_function (slice_get f.functions k) ≡ function_weight w k
    functions_are k = by_function (slice_get f.functions k)
      where
        by_function : (o : Option AFunction) → at_place weight_of_function o ≡ function_weight_of w o
        by_function None = refl
        by_function (Some g) = refl

    -- the object of a literal is one that a literal makes
    made_there : IsTextAt w → IsMadeThere (made_by_file items) at
    made_there t = by_maker (h.objects n t.0 t.1)
      where
        by_maker : IsIntroduced f items n t.0 → IsMadeThere (made_by_file items) at
        by_maker (inl i) = subst (IsMadeThere (made_by_file items)) t.2 i
        by_maker (inr d) =
            let b = declaring f count less f.names (an_object n t.0.ty) d.0 d.2 d.1 in
            let k = name_known f count less (any_good f) items (tree_of_bytes bytes items tree) h beginnings b.0 b.1 b.2 in
            let own = (k n t.0.ty b.3).0 in
            absurd (t.3 (subst (λ (o : AnObject). o.literal ≡ None) (some_is own.0 t.0 (sym own.1 ∙ t.1)) own.2))

    -- what initializes objects and the bodies of functions refer to it once
    pub once : AreInTextOrder f.untagged items → IsTextAt w → total object_weight f.objects + total weight_of_function f.functions ≡ 1
    once order t =
        let x = made in
        let s = x.sum t in
        let most = at_most_once at 0 (places_of_file items) order.places in
        let fewer = file_fewer at items in
        let least = at_least_once (made_by_file items) at (made_there t) in
        let a = by_places object_weight f.objects ∙ sum_below_same _ (weight w) objects_are (length f.objects) in
        let b = by_places weight_of_function f.functions ∙ sum_below_same _ (function_weight w) functions_are (length f.functions) in
        let c = below_covered (weight w) (length f.objects) x.origins (λ m l. origin m) in
        let d = below_covered (function_weight w) (length f.functions) x.functions (λ k l. body_origin k) in
        let e = some_there (omega (arith, s, least)) in
        omega (arith, s, most, fewer, a, b, c, d, e)
      where
        weighs : (v : ℕ → ℕ) (k m : ℕ) → m < k → v m ≢ 0 → 1 ≤ sum_below v k
        weighs v k m l d = let o = one_below v k m l in omega (arith, o, d)

        of_objects : sum_of (weight w) made.origins ≢ 0 → 1 ≤ sum_below (weight w) (length f.objects)
        of_objects d =
            let z = some_weighs (weight w) made.origins d in
            weighs (weight w) (length f.objects) z.0 (past_end object_weight f.objects z.0 (λ e. z.1 (sym (objects_are z.0) ∙ e))) z.1

        of_functions : sum_of (function_weight w) made.functions ≢ 0 → 1 ≤ sum_below (function_weight w) (length f.functions)
        of_functions d =
            let z = some_weighs (function_weight w) made.functions d in
            weighs (function_weight w) (length f.functions) z.0 (past_end weight_of_function f.functions z.0 (λ e. z.1 (sym (functions_are z.0) ∙ e))) z.1

        some_there : 1 ≤ sum_of (weight w) made.origins + sum_of (function_weight w) made.functions
            → 1 ≤ sum_below (weight w) (length f.objects) + sum_below (function_weight w) (length f.functions)
        some_there l = by_sum (sum_of (weight w) made.origins) refl
          where
            by_sum : (k : ℕ) → sum_of (weight w) made.origins ≡ k
                → 1 ≤ sum_below (weight w) (length f.objects) + sum_below (function_weight w) (length f.functions)
            by_sum (suc k) e = let r = of_objects (λ z. omega (arith, z, e)) in omega (arith, r)
            by_sum zero e = let r = of_functions (λ z. omega (arith, z, e, l)) in omega (arith, r)
