-- Objects of the file scope: declared, declared again, and defined with an initializer (C99 6.7.8, 6.9.2).
use Rattle.std.proofs.Common.{◌≡◌, ℕ, zero, suc, Bool, true, false, refl, sym, ap, ◌∙◌, subst, List, [], ◌∷◌, ◌++◌, length}
use Rattle.std.proofs.Common.{inl, inr}
use Rattle.std.proofs.lemmas.Bool.{and_parts}
use Rattle.std.specs.Prelude.{◌⊎◌, map, Option, Some, None, Ok, slice_get, slice_set, is_none, not, ◌&&◌}
use Rattle.std.specs.Option.{IsSome}
use Rattle.c_types.specs.Limits.{AreComplete}
use Rattle.c_types.specs.Objects.{is_object}
use Rattle.c_types.specs.Sameness.{same_type}
use Rattle.c_types.specs.Types.{CType}
use Rattle.c_types.proofs.SameTypes.{same_is}
use Rattle.c_ast.specs.declared.words.Spelling.{Spelling}
use Rattle.c_ast.specs.Trees
use Rattle.c_ast.specs.Places.{first}
use Rattle.c_typed.specs.Trees as Typed
use Rattle.c_typed.specs.TypedStatements.{IsTypedInitializer}
use Rattle.c_erasure.specs.Erasure.{place_in}
use Rattle.c_erasure.specs.Files.{IsLinkage, IsFirst, IsDefinition}
use Rattle.c_erasure.specs.Initializers.{IsInitializer}
use Rattle.c_erasure.specs.Marks.{marks}
use Rattle.c_erasure.specs.Noted.{Noted}
use Rattle.c_erasure.specs.Scopes.{FileScope, Bound, AnObject, Entity, typedef, enumerator, an_object, a_function, a_library_function, a_local}
use Rattle.c_erasure.specs.Scopes.{a_parameter}
use Rattle.c_erasure.specs.Scopes.{at_file_scope, declared}
use Rattle.c_erasure.specs.Specifiers.{Storage, no_storage, a_typedef, is_extern, is_static, is_auto, is_register, several}
use Rattle.c_erasure.specs.Checking.Answers.{Answer, moved}
use Rattle.c_erasure.specs.Checking.Files.{links, main_object, is_main, linked_before, linkage_agrees, new_object, with_new_object, known_object, object_of}
use Rattle.c_erasure.specs.Checking.Files.{defined_object, with_definition, define_object}
use Rattle.c_erasure.specs.Checking.Initializers.{initializer, constants_in}
use Rattle.c_erasure.specs.Checking.Statements.{constants_if_any, replaced_object}
use Rattle.c_checking_laws.proofs.Results.{bound_ok, given, chosen, with_file_ok}
use Rattle.c_checking_laws.proofs.Extends.{itself, further, kept, at_end}
use Rattle.c_checking_laws.proofs.Agreement.{Ready}
use Rattle.c_checking_laws.proofs.InRange.{IsInRange}
use Rattle.c_checking_laws.proofs.WholeFiles.Layouts.{IsLaid}
use Rattle.c_checking_laws.proofs.WholeFiles.Parts.{NoneBegins}
use Rattle.c_checking_laws.proofs.WholeFiles.InTime.{IsTimely}
use Rattle.c_checking_laws.proofs.WholeFiles.Kept.{AreObjectsWhole}
use Rattle.c_checking_laws.proofs.WholeFiles.Scoped.{KeepsConstants}
use Rattle.c_checking_laws.proofs.WholeFiles.TypedValues.{AreValuesTyped, values_typed}
use Rattle.c_checking_laws.proofs.WholeFiles.Wholes.{typed_initial, FoundWhole, sound_whole, constants_are}
use Rattle.c_checking_laws.proofs.WholeFiles.FileScopes.{IsSameObject, Continues, continues_itself, continues_then, adds_continues, MayDeclare, StandsFor}

-- ---- declared for the first time, or again

new_linkage : (words : Storage) → MayDeclare words → IsLinkage words true (links words)
new_linkage no_storage m = refl
new_linkage is_extern m = refl
new_linkage is_static m = refl
new_linkage a_typedef m = absurd m
new_linkage is_auto m = absurd m
new_linkage is_register m = absurd m
new_linkage several m = absurd m

negation_false : (b : Bool) → not b ≡ true → b ≡ false
negation_false true h = cc
negation_false false h = refl

known_linkage : (words : Storage) → MayDeclare words → (linked : Bool) → linkage_agrees words linked ≡ true → IsLinkage words false linked
known_linkage no_storage m linked h = h
known_linkage is_extern m linked h = tt
known_linkage is_static m linked h = negation_false linked h
known_linkage a_typedef m linked h = absurd m
known_linkage is_auto m linked h = absurd m
known_linkage is_register m linked h = absurd m
known_linkage several m linked h = absurd m

same_object : (o : AnObject) → IsSameObject o o
same_object o = record { name = refl; first = refl; ty = refl; is_linked = refl; literal = refl; settled = λ s. refl }

map_kept : {X Y : Type 0} (v : X → Y) (xs ys : List X) (k : ℕ) (y : Y) → slice_get (map v xs) k ≡ Some y → slice_get (map v (xs ++ ys)) k ≡ Some y
map_kept v [] ys k y e = cc
map_kept v (x ∷ xs) ys zero y e = e
map_kept v (x ∷ xs) ys (suc k) y e = map_kept v xs ys k y e

object_added : (f : FileScope) (o : AnObject) → Continues f (with_new_object f o)
object_added f o = record {
  extends = record {
    file = refl;
    tags = refl;
    ends = refl;
    numbered = refl;
    untagged = refl;
    names = (itself f).names;
    records = (itself f).records;
    mentions = λ kind t at h. h;
    types = λ n t h. map_kept (λ o. o.ty) f.objects (o ∷ []) n t h;
    objects = λ n p h i. kept f.objects (o ∷ []) n p h;
    functions = λ n t h. h;
  };
  objects = λ n p h. (p, kept f.objects (o ∷ []) n p h, same_object p);
  functions = λ n p h. (continues_itself f).functions n p h;
}

-- an object of the file, under its number
pub record IsTheObject (f : FileScope) (words : Storage) (x : Spelling) (place : ℕ) (t : CType) (first : Bool) (z : ℕ × FileScope) : Type 0 where
  pub continues : Continues f z.1
  pub object : AnObject
  pub stands : slice_get z.1.objects z.0 ≡ Some object
  pub name : object.name ≡ x.text
  pub ty : object.ty ≡ t
  pub literal : object.literal ≡ None
  pub linkage : IsLinkage words first object.is_linked
  pub first_place : IsFirst first object.first place

known_is : (f : FileScope) (words : Storage) → MayDeclare words → (x : Spelling) (place : ℕ) (t : CType) (old : Bound) → StandsFor f x place old
    → (e : Entity) → old.entity ≡ e → (z : ℕ × FileScope) → known_object f words x t old e ≡ Ok z → IsTheObject f words x place t false z
known_is f words m x place t old k (an_object n u) e z h =
    let o = k.objects n u e in
    let linked = linked_before (slice_get f.objects n) in
    let there : linked ≡ o.0.is_linked = ap linked_before o.1 in
    chosen (same_type u t && linkage_agrees words linked) _ _ z (IsTheObject f words x place t false z) h
    (λ b h.
    let p = and_parts (same_type u t) (linkage_agrees words linked) b in
    given (IsTheObject f words x place t false) (n, f) z h (record {
      continues = continues_itself f;
      object = o.0;
      stands = o.1;
      name = o.2;
      ty = o.3 ∙ same_is u t p.0;
      literal = o.4;
      linkage = known_linkage words m o.0.is_linked (subst (λ b. linkage_agrees words b ≡ true) there p.1);
      first_place = o.5;
    }))
    (λ b h. cc)
known_is f words m x place t old k (typedef u) e z h = cc
known_is f words m x place t old k (enumerator v) e z h = cc
known_is f words m x place t old k (a_function n u) e z h = cc
known_is f words m x place t old k (a_library_function which) e z h = cc
known_is f words m x place t old k (a_local n u) e z h = cc
known_is f words m x place t old k (a_parameter u) e z h = cc

pub object_is : (f : FileScope) (words : Storage) → MayDeclare words → (x : Spelling) (place : ℕ) (t : CType) (o : Option Bound)
    → ((b : Bound) → o ≡ Some b → StandsFor f x place b) → (z : ℕ × FileScope) → object_of f words x place t o ≡ Ok z
    → IsTheObject f words x place t (is_none o) z
unfolding object_of
object_is f words m x place t None k z h =
    let o = new_object f words x place t in
    given (IsTheObject f words x place t true) (length f.objects, with_new_object f o) z (main_answer x.text x.from (links words) _ z h) (record {
      continues = object_added f o;
      object = o;
      stands = at_end f.objects o;
      name = refl;
      ty = refl;
      literal = refl;
      linkage = new_linkage words m;
      first_place = refl;
    })
  where
    main_answer : {A : Type 0} (x : List ℕ) (at : ℕ) (b : Bool) (r : Answer A) (z : A) → main_object x at b r ≡ Ok z → r ≡ Ok z
    main_answer x at b r z h = chosen (is_main x && b) _ _ z (r ≡ Ok z) h (λ b h. cc) (λ b h. h)
object_is f words m x place t (Some old) k z h = known_is f words m x place t old (k old refl) old.entity refl z h

-- ---- an object that is defined takes the place of the one that was declared

pub set_same : {X : Type 0} (xs : List X) (n : ℕ) (o p : X) → slice_get xs n ≡ Some o → slice_get (slice_set xs n p) n ≡ Some p
set_same [] n o p h = cc
set_same (x ∷ xs) zero o p h = refl
set_same (x ∷ xs) (suc n) o p h = set_same xs n o p h

pub set_other : {X : Type 0} (xs : List X) (n : ℕ) (o p : X) → slice_get xs n ≡ Some o → (k : ℕ) (q : X) → slice_get xs k ≡ Some q
    → ((k ≡ n) × (q ≡ o)) ⊎ (slice_get (slice_set xs n p) k ≡ Some q)
set_other [] n o p h k q i = cc
set_other (x ∷ xs) zero o p h zero q i = inl (refl, let a : x ≡ o = cc in let b : x ≡ q = cc in sym b ∙ a)
set_other (x ∷ xs) zero o p h (suc k) q i = inr i
set_other (x ∷ xs) (suc n) o p h zero q i = inr i
set_other (x ∷ xs) (suc n) o p h (suc k) q i = further_on (set_other xs n o p h k q i)
  where
    further_on : ((k ≡ n) × (q ≡ o)) ⊎ (slice_get (slice_set xs n p) k ≡ Some q)
        → ((suc k ≡ suc n) × (q ≡ o)) ⊎ (slice_get (slice_set (x ∷ xs) (suc n) p) (suc k) ≡ Some q)
    further_on (inl e) = inl (ap suc e.0, e.1)
    further_on (inr e) = inr e

pub set_types : {X Y : Type 0} (v : X → Y) (xs : List X) (n : ℕ) (o p : X) → slice_get xs n ≡ Some o → v p ≡ v o → map v (slice_set xs n p) ≡ map v xs
set_types v [] n o p h e = cc
set_types v (x ∷ xs) zero o p h e = let a : x ≡ o = cc in ap (λ t. t ∷ map v xs) (e ∙ ap v (sym a))
set_types v (x ∷ xs) (suc n) o p h e = ap (λ all. v x ∷ all) (set_types v xs n o p h e)

nothing_settled : (o q : AnObject) → o.initial ≡ None → q ≡ o → IsSome q.initial → ⊥
nothing_settled o q e f i = let none_is_some = subst IsSome (ap (λ (o : AnObject). o.initial) f ∙ e) i in cc

pub object_defined : (f : FileScope) (n : ℕ) (o p : AnObject) → slice_get f.objects n ≡ Some o → o.initial ≡ None → IsSameObject o p
    → Continues f (replaced_object f n p)
object_defined f n o p h e same = record {
  extends = record {
    file = refl;
    tags = refl;
    ends = refl;
    numbered = refl;
    untagged = refl;
    names = (itself f).names;
    records = (itself f).records;
    mentions = λ kind t at h. h;
    types = λ k t i. subst (λ all. slice_get all k ≡ Some t) (sym (set_types (λ o. o.ty) f.objects n o p h same.ty)) i;
    objects = λ k q i s. by_number k q s (set_other f.objects n o p h k q i);
    functions = λ n t h. h;
  };
  objects = λ k q i. found k q (set_other f.objects n o p h k q i);
  functions = λ k q i. (continues_itself f).functions k q i;
}
  where
    by_number : (k : ℕ) (q : AnObject) → IsSome q.initial → ((k ≡ n) × (q ≡ o)) ⊎ (slice_get (slice_set f.objects n p) k ≡ Some q)
        → slice_get (slice_set f.objects n p) k ≡ Some q
    by_number k q s (inl i) = absurd (nothing_settled o q e i.1 s)
    by_number k q s (inr i) = i

    found : (k : ℕ) (q : AnObject) → ((k ≡ n) × (q ≡ o)) ⊎ (slice_get (slice_set f.objects n p) k ≡ Some q)
        → (r : AnObject) × (slice_get (slice_set f.objects n p) k ≡ Some r) × IsSameObject q r
    found k q (inl i) =
        (p, subst (λ k. slice_get (slice_set f.objects n p) k ≡ Some p) (sym i.0) (set_same f.objects n o p h), subst (λ q. IsSameObject q p) (sym i.1) same)
    found k q (inr i) = (q, i, same_object q)

-- ---- the initializer of a definition

abbrev with_initial : FileScope → (place : ℕ) → Typed.Initializer Noted → AnObject → AnObject
with_initial f place i o = record o { place = place_in (at_file_scope f) place; initial = Some i }

module _ (untagged : ℕ → List ℕ) where
  -- what is asked of a file that goes on from a definition
  pub record IsLaterFile (f : FileScope) (texts : List ℕ) (g : FileScope) : Type 0 where
    pub continues : Continues f g
    pub laid : IsLaid g
    pub none_begins : NoneBegins g texts

  -- what is asked for the constants of an initializer
  abbrev pub KeepsValue : FileScope → Option (ℕ × Trees.Expression) → FileScope → Type 0
  KeepsValue f None g = Unit {0}
  KeepsValue f (Some value) g = KeepsConstants f g × AreComplete f.records × AreObjectsWhole f.records f.objects × IsTimely f value.1

  -- an object is defined by an initializer of constants, which is typed
  pub record FoundDefinition (f : FileScope) (n place : ℕ) (value : ℕ × Trees.Expression) (t : CType) (o : AnObject) (g : FileScope) : Type 0 where
    pub after : FileScope
    pub initial : Typed.Initializer Noted
    pub found : initializer value.1 (at_file_scope f) t ≡ Ok (initial, after)
    pub whole : FoundWhole untagged (at_file_scope f) value.1 t (initial, after)
    pub file_is : g ≡ replaced_object after n (with_initial f place initial o)
    pub continues : Continues f g
    pub holds : (h : FileScope) → IsLaterFile g whole.texts h → KeepsValue after (Some value) h → (p : AnObject) → slice_get h.objects n ≡ Some p
        → IsDefinition (at_file_scope h) place t (Some value) p × IsTypedInitializer (declared (at_file_scope h)) t (typed_initial initial)

  pub definition_found : (f : FileScope) (n place : ℕ) (value : ℕ × Trees.Expression) (t : CType) (o : AnObject) → slice_get f.objects n ≡ Some o
      → o.initial ≡ None → IsInRange value.1 → Ready (at_file_scope f) (marks untagged value.1) → AreComplete f.records → f.untagged ≡ untagged
      → is_object (length f.records) t ≡ true → (g : FileScope) → define_object f n place (Some value) t ≡ Ok g → FoundDefinition f n place value t o g
  definition_found f n place value t o stands e range r c same k g h =
      let s = at_file_scope f in
      let i = bound_ok (constants_if_any (Some value) s t) _ g h in
      let x = bound_ok (initializer value.1 s t) _ i.0 i.1 in
      let w = with_file_ok x.0.1 (constants_in (declared (moved s x.0.1)) (first value.1) x.0.0) i.0 x.2 in
      let d = constants_are (declared (moved s x.0.1)) (first value.1) x.0.0 i.0.0 w.0 in
      let v = sound_whole untagged f value.1 s range r (record { complete = c; extends = itself f; same = same }) t k x.0 x.1 in
      let u = subst (λ z. FoundWhole untagged s value.1 t z) (pair_is x.0 i.0 d.0 w.1) v in
      let typed_so = values_typed untagged f value.1 s range r (record { complete = c; extends = itself f; same = same }) t k x.0 x.1 in
      let values = subst (λ (z : Typed.Initializer Noted × FileScope). AreValuesTyped (declared (moved s z.1)) z.0) (pair_is x.0 i.0 d.0 w.1) typed_so in
      let step = adds_continues u.grew.extends u.grows in
      let there : slice_get i.0.1.objects n ≡ Some o =
      subst (λ all. slice_get all n ≡ Some o) (sym u.grows.objects.1) (kept f.objects u.grows.objects.0 n o stands) in
      let new = with_initial f place i.0.0 o in
      let last = object_defined i.0.1 n o new there e
      (record { name = refl; first = refl; ty = refl; is_linked = refl; literal = refl; settled = λ s. absurd (nothing_settled o o e refl s) }) in
      let file = defined_by i.0.1 n o new there place f i.0.0 refl g i.2 in
      let whole : Continues f g = subst (Continues f) (sym file) (continues_then step last) in
      record {
        after = i.0.1;
        initial = i.0.0;
        found = x.1 ∙ ap (λ z. Ok z) (pair_is x.0 i.0 d.0 w.1);
        whole = u;
        file_is = file;
        continues = whole;
        holds = λ h later keeps p found.
            let back = subst (λ g. Continues g h) file later.continues in
            let q = back.objects n new (set_same i.0.1.objects n o new there) in
            let is : p ≡ new = same_found p q.0 (sym found ∙ q.1) ∙ q.2.settled refl in
            let b = u.holds h [] (further last.extends back.extends) ([], refl) later.laid later.none_begins in
            let number : h.file ≡ f.file = (further whole.extends later.continues.extends).file in (
              (
                i.0.0,
                (
                  b.0,
                  keeps.0 keeps.1 keeps.2 value.1 s t i.0.0 [] keeps.3 (x.1 ∙ ap (λ z. Ok z) (pair_is x.0 i.0 d.0 w.1)) b.0 b.1 values
                      (subst (λ file. Rattle.c_erasure.specs.Initializers.AreConstants (declared (moved s file)) i.0.0) w.1 d.1),
                ),
                ap (λ (o : AnObject). o.initial) is,
                ap (λ (o : AnObject). o.place) is ∙ ap (λ file. record { file = file; at = place }) (sym number),
              ),
              b.1,
            );
      }
    where
      pair_is : (x z : Typed.Initializer Noted × FileScope) → x.0 ≡ z.0 → x.1 ≡ z.1 → x ≡ z
      pair_is x z p q = λ i. (p i, q i)

      same_found : (p q : AnObject) → Some p ≡ Some q → p ≡ q
      same_found p q e = cc

      defined_by : (b : FileScope) (n : ℕ) (o new : AnObject) → slice_get b.objects n ≡ Some o → (place : ℕ) (f : FileScope) (i : Typed.Initializer Noted)
          → new ≡ with_initial f place i o → (g : FileScope)
          → Rattle.c_checking_laws.proofs.Results.ok (with_definition b n (defined_object f place i (slice_get b.objects n))) ≡ Ok g → g ≡ replaced_object b n new
      defined_by b n o new there place f i is g h =
          given (λ g. g ≡ replaced_object b n new) _ g h
          (ap (λ o. with_definition b n (defined_object f place i o)) there ∙ ap (replaced_object b n) (sym is))
