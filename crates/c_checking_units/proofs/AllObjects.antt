-- The objects and functions of an annotated file are those that its steps declare and make, in their order (C99 6.7, 6.9).
use Rattle.std.proofs.Common.{◌≡◌, ℕ, zero, suc, ◌+◌, ◌≤◌, ◌<◌, Bool, true, false, List, [], ◌∷◌, refl, sym, ap, ◌∙◌, subst, inl, inr, cond, arith}
use Rattle.std.proofs.lemmas.Bool.{and_parts, leb-true}
use Rattle.std.proofs.lemmas.List.Elements.{All-head, All-tail}
use Rattle.std.specs.List.{AllByRecursion}
use Rattle.std.specs.Prelude.{◌≢◌, ◌&&◌, nat_le, All, map, Some, None, slice_get, is_none}
use Rattle.std.specs.Str.{bytes_eq}
use Rattle.c_types.specs.Types.{CType}
use Rattle.c_ast.specs.Trees
use Rattle.c_ast.specs.WellFormed.{AreItems}
use Rattle.c_erasure.specs.Files.{AreAscending, IsMade, IsFirst, is_first, declarations_of, MayStandTogether, IsIntroduced, IsFileOf}
use Rattle.c_erasure.specs.Marks.{scope_beginnings, marks_of_file}
use Rattle.c_erasure.specs.Scopes.{Bound, AnObject, AFunction, FileScope, Entity, How, an_object, a_function, enumerator, visible, or_else}
use Rattle.c_checking_laws.proofs.CompleteNodes.{some_is}
use Rattle.c_checking_laws.proofs.NodesOfParts.{same_bytes}
use Rattle.c_checking_laws.proofs.WholeFiles.CompletePlain.{one_begins}
use Rattle.c_checking_laws.proofs.WholeFiles.Names.{all_at}
use Rattle.c_checking_laws.proofs.WholeFiles.Rises.{rising_later}
use Rattle.c_checking_units.proofs.Filed.{IsWholeFile, consistent_at}
use Rattle.c_checking_units.proofs.Items.{steps_of_items}
use Rattle.c_checking_laws.specs.TextOrder.TextOrder.{Rising, places_of_file}
use Rattle.c_checking_units.proofs.Made.{Kept}
use Rattle.c_checking_units.proofs.NamedSteps.{HasFunction, IsNamedBy, IsNamed, AreNamed}
use Rattle.c_checking_units.proofs.Placed.{Any, objects_placed, all_functions_placed, all_begun}
use Rattle.c_checking_units.proofs.StepLists.{names_of, objects_of, functions_of}
use Rattle.c_checking_units.proofs.There.{HasObject, IsEnumeratorFrom}

-- ---- lists that rise

risen_above : (at p : ℕ) (all : List ℕ) → Rising at all → IsMade all p → at ≤ p
risen_above at p [] r m = absurd m
risen_above at p (x ∷ all) r (inl e) = let l = r.0 in omega (arith, l, e)
risen_above at p (x ∷ all) r (inr m) = let l = r.0 in let k = risen_above (x + 1) p all r.1 m in omega (arith, l, k)

-- with the same elements they are the same
same_risen : (at to : ℕ) (a b : List ℕ) → Rising at a → Rising to b → ((p : ℕ) → IsMade a p → IsMade b p) → ((p : ℕ) → IsMade b p → IsMade a p) → a ≡ b
same_risen at to [] [] r s h k = refl
same_risen at to [] (y ∷ b) r s h k = absurd (k y (inl refl))
same_risen at to (x ∷ a) [] r s h k = absurd (h x (inl refl))
same_risen at to (x ∷ a) (y ∷ b) r s h k =
    let l = risen_above y x (y ∷ b) (omega arith, s.1) (h x (inl refl)) in
    let m = risen_above x y (x ∷ a) (omega arith, r.1) (k y (inl refl)) in
    let e : x ≡ y = omega (arith, l, m) in
    ap (λ z. z ∷ a) e
    ∙ ap (λ z. y ∷ z) (same_risen (x + 1) (y + 1) a b r.1 s.1
    (λ p q. not_first p y b (h p (inr q)) (let c = risen_above (x + 1) p a r.1 q in omega (arith, c, e)))
    (λ p q. not_first p x a (k p (inr q)) (let c = risen_above (y + 1) p b s.1 q in omega (arith, c, e))))
  where
    not_first : (p first : ℕ) (rest : List ℕ) → IsMade (first ∷ rest) p → first < p → IsMade rest p
    not_first p first rest (inl e) l = absurd (omega (arith, e, l))
    not_first p first rest (inr m) l = m

all_made : (P : ℕ → Type 0) (all : List ℕ) → All P all → (p : ℕ) → IsMade all p → P p
all_made P [] h p m = absurd m
all_made P (x ∷ all) h p (inl e) = subst P (sym e) (All-head P x all h)
all_made P (x ∷ all) h p (inr m) = all_made P all (All-tail P x all h) p m

rising_of : (at : ℕ) (all : List ℕ) → AreAscending all → ((p : ℕ) → IsMade all p → at ≤ p) → Rising at all
rising_of at [] h k = tt
rising_of at (x ∷ all) h k =
    (k x (inl refl), rising_of (x + 1) all h.1 (λ p m. let l = all_made (λ m. x < m) all h.0 p m in omega (arith, l)))

kept_rises : (at : ℕ) (small all : List ℕ) → Rising at all → Kept Any small all → Rising at small
kept_rises at small [] r h = subst (Rising at) (sym h) tt
kept_rises at small (x ∷ all) r (inl h) = subst (Rising at) (sym h.1) (r.0, kept_rises (x + 1) h.0 all r.1 h.2)
kept_rises at small (x ∷ all) r (inr h) = let l = r.0 in rising_later at (x + 1) small (omega (arith, l)) (kept_rises (x + 1) small all r.1 h.1)

-- ---- elements by their numbers

every : (P : ℕ → Type 0) (all : List ℕ) → AllByRecursion P all → (p : ℕ) → IsMade all p → P p
every P [] h p m = absurd m
every P (x ∷ all) h p (inl e) = subst P (sym e) h.0
every P (x ∷ all) h p (inr m) = every P all h.1 p m

number_of : {X : Type 0} (v : X → ℕ) (xs : List X) (p : ℕ) → IsMade (map v xs) p → (n : ℕ) × (x : X) × (slice_get xs n ≡ Some x) × (v x ≡ p)
number_of v [] p m = absurd m
number_of v (x ∷ xs) p (inl e) = (0, x, refl, sym e)
number_of v (x ∷ xs) p (inr m) = let z = number_of v xs p m in (suc z.0, z.1, z.2, z.3)

made_of : {X : Type 0} (v : X → ℕ) (xs : List X) (n : ℕ) (x : X) → slice_get xs n ≡ Some x → IsMade (map v xs) (v x)
made_of v [] n x e = cc
made_of v (y ∷ xs) zero x e = inl (sym (ap v (some_is y x e)))
made_of v (y ∷ xs) (suc n) x e = inr (made_of v xs n x e)

at_number : {X : Type 0} (v : X → ℕ) (xs : List X) (n : ℕ) (x : X) → slice_get xs n ≡ Some x → slice_get (map v xs) n ≡ Some (v x)
at_number v [] n x e = cc
at_number v (y ∷ xs) zero x e = let same = some_is y x e in ap (λ y. Some (v y)) same
at_number v (y ∷ xs) (suc n) x e = at_number v xs n x e

-- what is less stands earlier
earlier_number : (all : List ℕ) → AreAscending all → (j k p q : ℕ) → slice_get all j ≡ Some p → slice_get all k ≡ Some q → p < q → j < k
earlier_number [] h j k p q e f l = cc
earlier_number (x ∷ all) h zero zero p q e f l = let a = some_is x p e in let b = some_is x q f in absurd (omega (arith, a, b, l))
earlier_number (x ∷ all) h zero (suc k) p q e f l = omega arith
earlier_number (x ∷ all) h (suc j) zero p q e f l =
    let a = all_at (λ m. x < m) all h.0 j p e in let b = some_is x q f in absurd (omega (arith, a, b, l))
earlier_number (x ∷ all) h (suc j) (suc k) p q e f l = let r = earlier_number all h.1 j k p q e f l in omega (arith, r)

-- ---- names

-- a name in scope
seen_name : (all : List Bound) (x : List ℕ) (at : ℕ) → is_none (visible all x at) ≡ false
    → (j : ℕ) × (a : Bound) × (slice_get all j ≡ Some a) × (a.name ≡ x) × (a.from ≤ at)
seen_name [] x at h = cc
seen_name (b ∷ all) x at h = by_test (bytes_eq b.name x && nat_le b.from at) refl h (λ h. seen_name all x at h)
  where
    by_test : (t : Bool) → (bytes_eq b.name x && nat_le b.from at) ≡ t → is_none (or_else (cond t (Some b.entity) None) (visible all x at)) ≡ false
        → (is_none (visible all x at) ≡ false → (j : ℕ) × (a : Bound) × (slice_get all j ≡ Some a) × (a.name ≡ x) × (a.from ≤ at))
        → (j : ℕ) × (a : Bound) × (slice_get (b ∷ all) j ≡ Some a) × (a.name ≡ x) × (a.from ≤ at)
    by_test true e h later =
        let z = and_parts (bytes_eq b.name x) (nat_le b.from at) e in (0, b, refl, same_bytes b.name x z.0, leb-true b.from at z.1)
    by_test false e h later = let z = later h in (suc z.0, z.1, z.2, z.3, z.4)

declared_some : (names : List Bound) (e : Entity) (all : List How) → declarations_of names e all → all ≢ []
    → (k : ℕ) × (b : Bound) × (slice_get names k ≡ Some b) × (b.entity ≡ e)
declared_some [] e all h n = absurd (n h)
declared_some (b ∷ names) e all (inl h) n = (0, b, refl, h.0)
declared_some (b ∷ names) e all (inr h) n = let z = declared_some names e all h.1 n in (suc z.0, z.1, z.2, z.3)

module _ (g : FileScope) (items : List Trees.Item) (h : IsFileOf items g) (w : IsWholeFile g) (formed : AreItems [] items)
    (ascend : AreAscending (scope_beginnings (marks_of_file g.untagged items))) (places : Rising 0 (places_of_file items))
    (n : AreNamed g (objects_of (steps_of_items g w items)) (functions_of (steps_of_items g w items)) (steps_of_items g w items))
    (froms : map (λ (b : Bound). b.from) g.names ≡ names_of (steps_of_items g w items))
  where
    abbrev Objects : List ℕ
    Objects = objects_of (steps_of_items g w items)

    abbrev Functions : List ℕ
    Functions = functions_of (steps_of_items g w items)

    named : (k : ℕ) (b : Bound) → slice_get g.names k ≡ Some b → IsNamed g Objects Functions b.from
    named k b e =
        every (IsNamed g Objects Functions) (map (λ (b : Bound). b.from) g.names)
        (subst (AllByRecursion (IsNamed g Objects Functions)) (sym froms) n.names) b.from (made_of (λ (b : Bound). b.from) g.names k b e)

    -- where names begin to be in scope tells them apart
    one_bound : (j k : ℕ) (a b : Bound) → slice_get g.names j ≡ Some a → slice_get g.names k ≡ Some b → a.from ≡ b.from → a ≡ b
    one_bound j k a b e f s =
        let same = w.whole.names_apart j k a b e f s in some_is a b (sym e ∙ ap (slice_get g.names) same ∙ f)

    no_enumerator : (k : ℕ) (b : Bound) → slice_get g.names k ≡ Some b → IsEnumeratorFrom g b.from → (v : ℕ) × (b.entity ≡ enumerator v)
    no_enumerator k b e m =
        let same = one_bound m.2.0 k m.0 b m.2.1 e m.3 in (m.1, subst (λ (b : Bound). b.entity ≡ enumerator m.1) same m.4)

    -- an earlier declaration of the name, which stands for the same
    earlier : (k : ℕ) (b : Bound) → slice_get g.names k ≡ Some b → (d : IsNamedBy g Objects Functions b.from) → is_first g d.x ≡ false
        → (j : ℕ) × (a : Bound) × (slice_get g.names j ≡ Some a) × (j < k) × (a.entity ≡ b.entity)
    earlier k b e d f =
        let z = seen_name g.names d.x.text d.x.from f in
        let same = one_bound d.own.binds.0 k d.own.b b d.own.binds.1 e d.own.from_is in
        let name : b.name ≡ d.x.text = subst (λ (b : Bound). b.name ≡ d.x.text) same d.own.name in
        let l = z.4 in
        let m = d.before in
        let less : z.0 < k =
        earlier_number (map (λ (b : Bound). b.from) g.names) (subst AreAscending (sym h.names) ascend) z.0 k z.1.from b.from
        (at_number (λ (b : Bound). b.from) g.names z.0 z.1 z.2) (at_number (λ (b : Bound). b.from) g.names k b e) (omega (arith, l, m)) in
        let both : MayStandTogether z.1 b = consistent_at g.names w.consistent z.0 k z.1 b less z.2 e (name ∙ sym z.3) in
        (z.0, z.1, z.2, less, both.same)

    -- ---- what is declared at file scope

    object_declared : (m k : ℕ) → k < m → (b : Bound) → slice_get g.names k ≡ Some b → (i : ℕ) (t : CType) → b.entity ≡ an_object i t → (o : AnObject)
        → slice_get g.objects i ≡ Some o → IsMade Objects o.first
    object_declared zero k l b e i t is o there = absurd (omega (arith, l))
    object_declared (suc m) k l b e i t is o there =
        by_name (named k b e) (λ j a f less same. object_declared m j (omega (arith, l, less)) a f i t (same ∙ is) o there)
      where
        by_first : (d : IsNamedBy g Objects Functions b.from) → d.own.b.entity ≡ an_object i t → (c : Bool) → is_first g d.x ≡ c
            → (p : AnObject) → slice_get g.objects i ≡ Some p → IsFirst c p.first d.place
            → ((j : ℕ) (a : Bound) → slice_get g.names j ≡ Some a → j < k → a.entity ≡ b.entity → IsMade Objects o.first) → IsMade Objects o.first
        by_first d entity true f p q first next =
            let same = some_is p o (sym q ∙ there) in
            subst (IsMade Objects) (sym first ∙ ap (λ (o : AnObject). o.first) same) (d.object_in i t entity f)
        by_first d entity false f p q first next = let z = earlier k b e d f in next z.0 z.1 z.2 z.3 z.4

        by_name : IsNamed g Objects Functions b.from
            → ((j : ℕ) (a : Bound) → slice_get g.names j ≡ Some a → j < k → a.entity ≡ b.entity → IsMade Objects o.first) → IsMade Objects o.first
        by_name (inl v) next = let z = no_enumerator k b e v in let no = sym is ∙ z.1 in cc
        by_name (inr d) next =
            let same = one_bound d.own.binds.0 k d.own.b b d.own.binds.1 e d.own.from_is in
            let entity : d.own.b.entity ≡ an_object i t = ap (λ (b : Bound). b.entity) same ∙ is in
            let z = d.own.object i t entity in
            by_first d entity (is_first g d.x) refl z.0 z.1 z.2 next

    function_declared : (m k : ℕ) → k < m → (b : Bound) → slice_get g.names k ≡ Some b → (i : ℕ) (t : CType) → b.entity ≡ a_function i t
        → (o : AFunction) → slice_get g.functions i ≡ Some o → IsMade Functions o.first
    function_declared zero k l b e i t is o there = absurd (omega (arith, l))
    function_declared (suc m) k l b e i t is o there =
        by_name (named k b e) (λ j a f less same. function_declared m j (omega (arith, l, less)) a f i t (same ∙ is) o there)
      where
        by_first : (d : IsNamedBy g Objects Functions b.from) → d.own.b.entity ≡ a_function i t → (c : Bool) → is_first g d.x ≡ c
            → (p : AFunction) → slice_get g.functions i ≡ Some p → IsFirst c p.first d.place
            → ((j : ℕ) (a : Bound) → slice_get g.names j ≡ Some a → j < k → a.entity ≡ b.entity → IsMade Functions o.first) → IsMade Functions o.first
        by_first d entity true f p q first next =
            let same = some_is p o (sym q ∙ there) in
            subst (IsMade Functions) (sym first ∙ ap (λ (o : AFunction). o.first) same) (d.function_in i t entity f)
        by_first d entity false f p q first next = let z = earlier k b e d f in next z.0 z.1 z.2 z.3 z.4

        by_name : IsNamed g Objects Functions b.from
            → ((j : ℕ) (a : Bound) → slice_get g.names j ≡ Some a → j < k → a.entity ≡ b.entity → IsMade Functions o.first) → IsMade Functions o.first
        by_name (inl v) next = let z = no_enumerator k b e v in let no = sym is ∙ z.1 in cc
        by_name (inr d) next =
            let same = one_bound d.own.binds.0 k d.own.b b d.own.binds.1 e d.own.from_is in
            let entity : d.own.b.entity ≡ a_function i t = ap (λ (b : Bound). b.entity) same ∙ is in
            let z = d.own.function i t entity in
            by_first d entity (is_first g d.x) refl z.0 z.1 z.2 next

    -- ---- all objects and functions

    object_made : (i : ℕ) (o : AnObject) → slice_get g.objects i ≡ Some o → IsMade Objects o.first
    object_made i o e = by_kind (h.objects i o e)
      where
        by_kind : IsIntroduced g items i o → IsMade Objects o.first
        by_kind (inl m) = all_begun g w [] items formed o.first (one_begins g.objects i o e) m
        by_kind (inr d) =
            let z = declared_some g.names (an_object i o.ty) d.0 d.2 d.1 in
            object_declared (suc z.0) z.0 (omega arith) z.1 z.2 i o.ty z.3 o e

    function_made : (i : ℕ) (o : AFunction) → slice_get g.functions i ≡ Some o → IsMade Functions o.first
    function_made i o e =
        let d = h.functions i o e in
        let z = declared_some g.names (a_function i o.ty) d.0 d.2 d.1 in
        function_declared (suc z.0) z.0 (omega arith) z.1 z.2 i o.ty z.3 o e

    pub objects_same : map (λ (o : AnObject). o.first) g.objects ≡ Objects
    objects_same =
        same_risen 0 0 (map (λ (o : AnObject). o.first) g.objects) Objects
        (rising_of 0 (map (λ (o : AnObject). o.first) g.objects) h.objects_in_order (λ p m. omega arith))
        (kept_rises 0 Objects (places_of_file items) places (objects_placed g w [] items formed))
        (λ p m. let z = number_of (λ (o : AnObject). o.first) g.objects p m in subst (IsMade Objects) z.3 (object_made z.0 z.1 z.2))
        (λ p m. let z = every (HasObject g) Objects n.all_objects p m in
        subst (IsMade (map (λ (o : AnObject). o.first) g.objects)) z.3 (made_of (λ (o : AnObject). o.first) g.objects z.0 z.1 z.2))

    pub functions_same : map (λ (o : AFunction). o.first) g.functions ≡ Functions
    functions_same =
        same_risen 0 0 (map (λ (o : AFunction). o.first) g.functions) Functions
        (rising_of 0 (map (λ (o : AFunction). o.first) g.functions) h.functions_in_order (λ p m. omega arith))
        (kept_rises 0 Functions (places_of_file items) places (all_functions_placed g w [] items formed))
        (λ p m. let z = number_of (λ (o : AFunction). o.first) g.functions p m in subst (IsMade Functions) z.3 (function_made z.0 z.1 z.2))
        (λ p m. let z = every (HasFunction g) Functions n.all_functions p m in
        subst (IsMade (map (λ (o : AFunction). o.first) g.functions)) z.3 (made_of (λ (o : AFunction). o.first) g.functions z.0 z.1 z.2))
