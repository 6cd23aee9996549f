-- In an annotated file each record is accused that stands in an array of the types of names, of casts, and of the nodes of bodies, or that is the type of a
-- local (C99 6.5, 6.7): mentions accuse it, or a field.
use Rattle.std.proofs.Common.{◌≡◌, ◌∙◌, ℕ, ◌≤◌, Bool, true, false, refl, sym, ap, subst, cond, List, [], ◌∷◌, map, flat_map, filter, inl, inr}
use Rattle.std.proofs.Common.{length}
use Rattle.std.specs.Prelude.{not, ◌&&◌, Option, Some, None, slice_get}
use Rattle.std.specs.List.{AllByRecursion}
use Rattle.std.specs.Option.{option_map}
use Rattle.c_types.specs.Types.{CType, Field, Record}
use Rattle.c_ast.specs.Trees
use Rattle.c_ast.specs.TreesOfFiles.{IsTreeOf}
use Rattle.c_typed.specs.declared.program.MentionKind.{MentionKind}
use Rattle.c_typed.specs.declared.program.MentionKind.TheVariants.{Object, Named}
use Rattle.c_typed.specs.Typed.{type_in, field_type}
use Rattle.c_erasure.specs.Files.{AreAscending, IsFileOf}
use Rattle.c_erasure.specs.InitialMentions.{told_by_initial}
use Rattle.c_erasure.specs.Marks.{marks_of_file, scope_beginnings}
use Rattle.c_erasure.specs.Scopes.{Entity, AMention, AFunction, AnObject, FileScope, IsListedAt, IsMentioned, Scope, is_measured, visible, ended}
use Rattle.c_erasure.specs.Units as Units
use Rattle.c_erasure.specs.Units.{is_among, is_sizeof, is_size_operand, size_operands, typed_initializer}
use Rattle.c_link.proofs.JoinedRecords.{IsAmong, among_at, among_left, among_map}
use Rattle.c_well_typed.proofs.MadeNames as MadeNames
use Rattle.c_well_typed.proofs.MadeNames.{IsSpokenIn}
use Rattle.c_well_typed.proofs.NamedTypes.{IsMadeEntity}
use Rattle.c_well_typed.proofs.NamesInScope.{IsEntityOf, entity_again}
use Rattle.c_well_typed.proofs.Numbers.{two_parts}
use Rattle.c_well_typed.proofs.SpokenFiles.{field_made}
use Rattle.c_well_typed.proofs.UnitFunctions.{records_ended}
use Rattle.c_well_typed.proofs.WellMade.{IsWellMade}
use Rattle.legality.specs.InTypes.{arrays_in, itself}
use Rattle.c_undefined_places.proofs.CoveredTypes as CoveredTypes
use Rattle.c_undefined_places.proofs.CoveredUnits.{accused_by, values_in, IsAccused}

some_is : {A : Type 0} (x y : A) → Some x ≡ Some y → x ≡ y
some_is x y h = cc

-- ---- lists

pub kept_among : {B : Type 0} (p : B → Bool) (x : B) (all : List B) → p x ≡ true → IsAmong x all → IsAmong x (filter p all)
kept_among p x [] h i = absurd i
kept_among {B} p x (y ∷ all) h (inl e) = subst (λ b. IsAmong x (cond b (y ∷ filter p all) (filter p all))) (sym h ∙ ap p e) (inl e)
kept_among {B} p x (y ∷ all) h (inr i) = by_test (p y) (kept_among p x all h i)
  where
    by_test : (b : Bool) → IsAmong x (filter p all) → IsAmong x (cond b (y ∷ filter p all) (filter p all))
    by_test true k = inr k
    by_test false k = k

pub each_among : {B : Type 0} (P : B → Type 0) (all : List B) → ((x : B) → IsAmong x all → P x) → AllByRecursion P all
each_among P [] h = tt
each_among P (x ∷ all) h = (h x (inl refl), each_among P all (λ y i. h y (inr i)))

-- ---- what a file says

abbrev pub said_in : FileScope → List (MentionKind × CType)
said_in f = map (λ m. (m.kind, m.ty)) (Units.mentions f)

abbrev pub AccusedIn : FileScope → ℕ → Type 0
AccusedIn f r = IsAccused f.records (said_in f) r

abbrev pub AreAccusedIn : FileScope → List ℕ → Type 0
AreAccusedIn f numbers = AllByRecursion (AccusedIn f) numbers

-- a mention of the unit accuses
pub by_mention : (f : FileScope) (m : AMention) → IsAmong m (Units.mentions f) → AreAccusedIn f (accused_by m.kind m.ty)
by_mention f m i =
    each_among (AccusedIn f) (accused_by m.kind m.ty) (λ r k. inl ((m.kind, m.ty), among_map (λ (m : AMention). (m.kind, m.ty)) m (Units.mentions f) i, k))

-- so does one of the file that is for no `sizeof`
pub by_listed : (f : FileScope) (kind : MentionKind) (t : CType) (at : ℕ) → is_sizeof kind ≡ false → IsListedAt f.mentions kind t at
    → AreAccusedIn f (accused_by kind t)
by_listed f kind t at other l =
    let m : AMention = record { kind = kind; ty = t; at = at } in
    let listed = among_at f.mentions l.0 m l.1 in
    let is : not (is_size_operand f m) ≡ true = ap (λ b. not (b && is_among (size_operands f) at)) other in
    let kept = kept_among (λ m. not (is_size_operand f m)) m f.mentions is listed in
    by_mention f m
    (among_left m (filter (λ m. not (is_size_operand f m)) f.mentions)
    (flat_map (λ (o : AnObject). told_by_initial (option_map typed_initializer o.initial)) f.objects) kept)

pub object_accused : (f : FileScope) (t : CType) (at : ℕ) → IsListedAt f.mentions Object t at → AreAccusedIn f (values_in t)
object_accused f t at l = by_listed f Object t at refl l

pub named_accused : (f : FileScope) (t : CType) (at : ℕ) → IsListedAt f.mentions Named t at → AreAccusedIn f (arrays_in t)
named_accused f t at l = by_listed f Named t at refl l

pub spoken_accused : (f : FileScope) (t : CType) → IsSpokenIn f t → AreAccusedIn f (arrays_in t)
spoken_accused f t (inl l) = (two_parts (AccusedIn f) (itself t) (arrays_in t) (object_accused f t l.0 l.1)).1
spoken_accused f t (inr l) = named_accused f t l.0 l.1

-- where something is evaluated, what a scope says is said by its file
pub mentioned : (f : FileScope) (s : Scope) (kind : MentionKind) (t : CType) (at : ℕ) → s.file ≡ f → is_measured s.purpose ≡ false
    → IsMentioned s kind t at → IsListedAt f.mentions kind t at
mentioned f s kind t at e p (inl m) = let true_is_false : true ≡ false = sym m ∙ p in cc
mentioned f s kind t at e p (inr l) = subst (λ (f : FileScope). IsListedAt f.mentions kind t at) e l

-- the records that a field is, and those of which arrays stand in its type
pub field_accused : (f : FileScope) (r k : ℕ) (t : CType) → field_type f.records r k ≡ Some t → AreAccusedIn f (values_in t)
field_accused f r k t e = by_record (slice_get f.records r) refl e
  where
    by_field : (owner : Record) → IsAmong owner f.records → (o : Option Field) → slice_get owner.fields k ≡ o → option_map (λ (x : Field). x.ty) o ≡ Some t
        → AreAccusedIn f (values_in t)
    by_field owner i None q e = cc
    by_field owner i (Some x) q e =
        subst (λ t. AreAccusedIn f (values_in t)) (some_is x.ty t e)
        (each_among (AccusedIn f) (values_in x.ty) (λ n j. inr (owner, x, i, among_at owner.fields k x q, j)))

    by_record : (o : Option Record) → slice_get f.records r ≡ o → type_in o k ≡ Some t → AreAccusedIn f (values_in t)
    by_record None q e = cc
    by_record (Some owner) q e = by_field owner (among_at f.records r owner q) (slice_get owner.fields k) refl e

-- ---- the types of names, functions and fields

module _ (bytes : List ℕ) (items : List Trees.Item) (f : FileScope) (tree : IsTreeOf bytes items) (h : IsFileOf items f)
    (beginnings : AreAscending (scope_beginnings (marks_of_file f.untagged items))) where
  abbrev pub count : ℕ
  count = length f.records

  abbrev pub A : ℕ → Type 0
  A = AccusedIn f

  abbrev pub W : CType → Type 0
  W = CoveredTypes.IsTold count A

  pub less : (at : ℕ) → ended f.ends at ≤ count
  less = records_ended items f h beginnings

  pub visible_made : (x : List ℕ) (at : ℕ) (e : Entity) → visible f.names x at ≡ Some e → IsMadeEntity f count less e
  visible_made = MadeNames.visible_made f count less h.consistent items tree.3.well_formed h beginnings

  of_spoken : (t : CType) → IsWellMade count t × IsSpokenIn f t → W t
  of_spoken t k = CoveredTypes.told count A t k.0 (spoken_accused f t k.1)

  pub visible_told : (x : List ℕ) (at : ℕ) (e : Entity) → visible f.names x at ≡ Some e → IsEntityOf W e
  visible_told x at e v =
      entity_again (λ t. IsWellMade count t × IsSpokenIn f t) W of_spoken e
      (MadeNames.visible_spoken f count less h.consistent items tree.3.well_formed h beginnings x at e v)

  pub function_told : (n : ℕ) (g : AFunction) → slice_get f.functions n ≡ Some g → W g.ty
  function_told n g e = of_spoken g.ty (MadeNames.function_spoken f count less h.consistent items tree.3.well_formed h beginnings n g e)

  pub field_told : (r k : ℕ) (t : CType) → field_type f.records r k ≡ Some t → W t
  field_told r k t e =
      let made = field_made f count less visible_made (λ t. Unit {0}) (λ t w. tt) (λ a s t i m o. tt) bytes items tree h r k t e in
      CoveredTypes.told count A t made (two_parts A (itself t) (arrays_in t) (field_accused f r k t e)).1
