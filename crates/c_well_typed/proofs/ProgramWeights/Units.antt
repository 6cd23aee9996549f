-- A unit weighs so much for each node of its file's tree, and each of its functions so much for each node of its item, where names and
-- structures begin and end at different bytes, as they do in a text.
use Rattle.std.proofs.Common.{◌≡◌, ℕ, zero, suc, ◌+◌, ◌*◌, ◌≤◌, ◌<◌, Bool, true, false, refl, sym, ap, ◌∙◌, subst, List, [], ◌∷◌, map, arith, inl, inr}
use Rattle.std.proofs.lemmas.List.Elements.{recursion_from_All, All-from_recursion}
use Rattle.std.specs.Prelude.{◌⊎◌, All, Some, None, slice_get}
use Rattle.std.specs.List.{AllByRecursion}
use Rattle.std.specs.Option.{option_map}
use Rattle.c_tokens.specs.TokenPlaces.{TokensHavePlaces}
use Rattle.c_types.specs.Types.{Record}
use Rattle.c_ast.specs.Trees
use Rattle.c_ast.specs.Sizes.{size_items}
use Rattle.c_typed.specs.Mapped.{of_types, mapped_statement}
use Rattle.c_erasure.specs.Files.{AreAscending, ErasesItem, IsFileOf, IsOpen, declarations_of, is_defined}
use Rattle.c_erasure.specs.Marks.{Mark, a_tag, an_end, a_name, marks_of_file, scope_beginnings, ends_in, defined_in}
use Rattle.c_erasure.specs.Scopes.{How, declares, tentative, defines, Entity, a_function, Bound, AFunction, FileScope}
use Rattle.c_erasure.specs.Units.{unit_of, function, types, number_in, recognised_statement}
use Rattle.c_erasure.proofs.MarkPlaces.Ordered.{marks_are_in_order}
use Rattle.c_well_typed.specs.ProgramWeights.Bounds.{IsBounded, UnitsAreBounded}
use Rattle.c_well_typed.specs.ProgramWeights.Counted.{Kind, code, frame}
use Rattle.c_well_typed.specs.ProgramWeights.Weights.{weight_of_body, weight_of_function, weight_of_functions, weight_of_record, weight_of_records}
use Rattle.c_well_typed.proofs.ProgramWeights.Found.{Found, AreMarked, IsKnown, IsEnded, of_function}
use Rattle.c_well_typed.proofs.ProgramWeights.Items.{items_found}
use Rattle.c_well_typed.proofs.ProgramWeights.Numbered.{IsAmong, total, covered}
use Rattle.c_well_typed.proofs.ProgramWeights.Within.{AreWithin, code_within, frame_within}

-- ---- lists

same : {A : Type 0} (x y : A) → Some x ≡ Some y → x ≡ y
same x y h = cc

mapped_at : {A B : Type 0} (v : A → B) (xs : List A) (k : ℕ) (x : A) → slice_get xs k ≡ Some x → slice_get (map v xs) k ≡ Some (v x)
mapped_at v [] k x h = cc
mapped_at v (y ∷ xs) zero x h = ap (λ y. Some (v y)) (same y x h)
mapped_at v (y ∷ xs) (suc k) x h = mapped_at v xs k x h

pub all_at : {A : Type 0} (P : A → Type 0) (xs : List A) → AllByRecursion P xs → (k : ℕ) (x : A) → slice_get xs k ≡ Some x → P x
all_at P [] h k x e = cc
all_at P (y ∷ xs) h zero x e = subst P (same y x e) h.0
all_at P (y ∷ xs) h (suc k) x e = all_at P xs h.1 k x e

-- in an ascending list each number stands once
one_place : (all : List ℕ) → AreAscending all → (j k m : ℕ) → slice_get all j ≡ Some m → slice_get all k ≡ Some m → j ≡ k
one_place [] a j k m p q = cc
one_place (x ∷ all) a zero zero m p q = refl
one_place (x ∷ all) a zero (suc k) m p q =
    let l = all_at (λ y. x < y) all (recursion_from_All (λ y. x < y) all a.0) k m q in let e = same x m p in absurd (omega (arith, l, e))
one_place (x ∷ all) a (suc j) zero m p q =
    let l = all_at (λ y. x < y) all (recursion_from_All (λ y. x < y) all a.0) j m p in let e = same x m q in absurd (omega (arith, l, e))
one_place (x ∷ all) a (suc j) (suc k) m p q = let e = one_place all a.1 j k m p q in omega (arith, e)

each_mapped : {A B : Type 0} (P : B → Type 0) (v : A → B) (xs : List A) → ((j : ℕ) (x : A) → slice_get xs j ≡ Some x → P (v x))
    → AllByRecursion P (map v xs)
each_mapped P v [] h = tt
each_mapped P v (x ∷ xs) h = (h 0 x refl, each_mapped P v xs (λ j y e. h (suc j) y e))

-- ---- what marks tell

-- a structure whose definition ends is defined there
ended_at : (ms : List Mark) (k : ℕ) (tag : List ℕ) → slice_get (defined_in ms) k ≡ Some tag → (right : ℕ) × (slice_get (ends_in ms) k ≡ Some right)
ended_at [] k tag h = cc
ended_at (a_tag t ∷ ms) k tag h = ended_at ms k tag h
ended_at (a_name from ∷ ms) k tag h = ended_at ms k tag h
ended_at (an_end t right ∷ ms) zero tag h = (right, refl)
ended_at (an_end t right ∷ ms) (suc k) tag h = ended_at ms k tag h

-- ---- declarations

abbrev IsDefining : List Bound → Entity → Type 0
IsDefining names e = (k : ℕ) × (b : Bound) × (slice_get names k ≡ Some b) × (b.how ≡ defines) × (b.entity ≡ e)

one_further : (b : Bound) (names : List Bound) (e : Entity) → IsDefining names e → IsDefining (b ∷ names) e
one_further b names e h = (suc h.0, h.1, h.2, h.3, h.4)

defining : (names : List Bound) (e : Entity) (all : List How) → declarations_of names e all → is_defined all ≡ true → IsDefining names e
defining [] e all h d = let x : is_defined [] ≡ true = subst (λ all. is_defined all ≡ true) h d in cc
defining (b ∷ names) e all (inl h) d =
    by_how b.how refl (subst (λ all. is_defined all ≡ true) h.1.1 d) (λ d. defining names e h.1.0 h.1.2 d)
  where
    by_how : (how : How) → b.how ≡ how → is_defined (how ∷ h.1.0) ≡ true → (is_defined h.1.0 ≡ true → IsDefining names e) → IsDefining (b ∷ names) e
    by_how defines q d again = (zero, b, refl, q, h.0)
    by_how declares q d again = one_further b names e (again d)
    by_how tentative q d again = one_further b names e (again d)
defining (b ∷ names) e all (inr h) d = one_further b names e (defining names e all h.1 d)

module _ (n : Kind → ℕ) (most : ℕ) (w : AreWithin n most) (items : List Trees.Item) (f : FileScope) (h : IsFileOf items f) where
  abbrev M : List Mark
  M = marks_of_file f.untagged items

  known_at : (s a : List ℕ) (ms : List Mark) → AreMarked n most f s a ms → (k from : ℕ) → slice_get (scope_beginnings ms) k ≡ Some from
      → IsKnown n most f a from
  known_at s a [] m k from e = cc
  known_at s a (a_tag t ∷ ms) m k from e = known_at s a ms m k from e
  known_at s a (an_end tag right ∷ ms) m k from e = known_at s a ms m.1 k from e
  known_at s a (a_name at ∷ ms) m zero from e = subst (λ from. IsKnown n most f a from) (same at from e) m.0
  known_at s a (a_name at ∷ ms) m (suc k) from e = known_at s a ms m.1 k from e

  end_at : (s a : List ℕ) (ms : List Mark) → AreMarked n most f s a ms → (k right : ℕ) → slice_get (ends_in ms) k ≡ Some right → IsEnded n most f s right
  end_at s a [] m k right e = cc
  end_at s a (a_tag t ∷ ms) m k right e = end_at s a ms m k right e
  end_at s a (a_name at ∷ ms) m k right e = end_at s a ms m.1 k right e
  end_at s a (an_end tag at ∷ ms) m zero right e = subst (λ right. IsEnded n most f s right) (same at right e) m.0
  end_at s a (an_end tag at ∷ ms) m (suc k) right e = end_at s a ms m.1 k right e

  r : Found n most f 0 M (size_items items).nodes
  r = items_found n most w f items (recursion_from_All (ErasesItem f) items h.each_item)

  without_body : (g : AFunction) → g.body ≡ None → of_function n most f g ≡ 0
  without_body g e =
      subst (λ body. weight_of_body n (function f g)
      (option_map (λ s. mapped_statement (of_types (λ t. number_in (types f) t.ty)) (recognised_statement s)) body) ≡ 0) (sym e) refl

  module _ (names : AreAscending (scope_beginnings (marks_of_file f.untagged items))) (ends : AreAscending (ends_in (marks_of_file f.untagged items))) where
    function_known : (j : ℕ) (g : AFunction) → slice_get f.functions j ≡ Some g → (of_function n most f g ≡ 0) ⊎ IsAmong j r.functions
    function_known j g e = let d = h.functions j g e in by_open (is_defined d.0) refl d.3
      where
        is_known : is_defined (h.functions j g e).0 ≡ true → IsAmong j r.functions
        is_known t =
            let d = h.functions j g e in
            let x = defining f.names (a_function j g.ty) d.0 d.2 t in
            let at : slice_get (scope_beginnings M) x.0 ≡ Some x.1.from =
            subst (λ all. slice_get all x.0 ≡ Some x.1.from) h.names (mapped_at (λ (b : Bound). b.from) f.names x.0 x.1 x.2) in
            let y = known_at r.structures r.functions M r.marked x.0 x.1.from at in
            let too : slice_get (scope_beginnings M) y.0 ≡ Some y.1.from =
            subst (λ all. slice_get all y.0 ≡ Some y.1.from) h.names (mapped_at (λ (b : Bound). b.from) f.names y.0 y.1 y.2) in
            let k = one_place (scope_beginnings M) names y.0 x.0 x.1.from (too ∙ ap (λ m. Some m) y.3) at in
            let b = same y.1 x.1 (sym y.2 ∙ ap (slice_get f.names) k ∙ x.2) in
            y.4 j g.ty (ap (λ (b : Bound). b.how) b ∙ x.3) (ap (λ (b : Bound). b.entity) b ∙ x.4)

        by_open : (b : Bool) → is_defined (h.functions j g e).0 ≡ b → IsOpen f items g b → (of_function n most f g ≡ 0) ⊎ IsAmong j r.functions
        by_open true t o = inr (is_known t)
        by_open false t o = inl (without_body g o.0)

    record_known : (j : ℕ) (rec : Record) → slice_get f.records j ≡ Some rec → (weight_of_record n rec ≡ 0) ⊎ IsAmong j r.structures
    record_known j rec e =
        let tag = subst (λ all. slice_get all j ≡ Some rec.tag) h.records (mapped_at (λ (r : Record). r.tag) f.records j rec e) in
        let x = ended_at M j rec.tag tag in
        let y = end_at r.structures r.functions M r.marked j x.0 x.1 in
        let at = subst (λ all. slice_get all y.0 ≡ Some x.0) h.ends y.1 in
        let k = one_place (ends_in M) ends y.0 j x.0 at x.1 in
        inr (subst (λ j. IsAmong j r.structures) k y.2)

    functions_total : (all : List AFunction) → weight_of_functions n (map (function f) all) ≡ total (of_function n most f) all
    functions_total [] = refl
    functions_total (g ∷ all) = ap (λ m. of_function n most f g + m) (functions_total all)

    records_total : (all : List Record) → weight_of_records n all ≡ total (weight_of_record n) all
    records_total [] = refl
    records_total (g ∷ all) = ap (λ m. weight_of_record n g + m) (records_total all)

    pub unit_paid : weight_of_functions n (map (function f) f.functions) + weight_of_records n f.records ≤ most * (size_items items).nodes
    unit_paid =
        let a = covered (of_function n most f) f.functions r.functions function_known in
        let b = covered (weight_of_record n) f.records r.structures record_known in
        let c = functions_total f.functions in
        let d = records_total f.records in
        let p = r.paid in omega (arith, a, b, c, d, p)

    pub functions_paid : All (λ g. weight_of_function n g ≤ most * g.nodes) (map (function f) f.functions)
    functions_paid = All-from_recursion (λ g. weight_of_function n g ≤ most * g.nodes) (map (function f) f.functions)
        (each_mapped (λ g. weight_of_function n g ≤ most * g.nodes) (function f) f.functions (λ j g e. one_paid j g e (function_known j g e)))
      where
        one_paid : (j : ℕ) (g : AFunction) → slice_get f.functions j ≡ Some g → (of_function n most f g ≡ 0) ⊎ IsAmong j r.functions
            → of_function n most f g ≤ most * g.nodes
        one_paid j g e (inl z) = omega (arith, z)
        one_paid j g e (inr i) = r.each j g i e

-- ---- the two weights

-- of an annotated file whose names and structures begin and end one after the other
pub file_bounded : (items : List Trees.Item) (f : FileScope) → IsFileOf items f → AreAscending (scope_beginnings (marks_of_file f.untagged items))
    → AreAscending (ends_in (marks_of_file f.untagged items)) → IsBounded items (unit_of items f)
file_bounded items f h names ends = record {
  code = unit_paid code 512 code_within items f h names ends;
  frames = functions_paid frame 64 frame_within items f h names ends;
}

pub units_are_bounded : TokensHavePlaces → UnitsAreBounded
units_are_bounded p file name bytes items u t e =
    let o = marks_are_in_order p in
    subst (IsBounded items) (sym e.unit)
    (file_bounded items e.annotated e.of_tree (o.beginnings bytes items e.annotated.untagged t) (o.ends bytes items e.annotated.untagged t))
