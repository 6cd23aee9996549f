-- What is found for the objects of a block and their initializers (C99 6.7, 6.7.8).
use Rattle.std.proofs.Common.{◌≡◌, ℕ, true, false, refl, sym, subst, List, [], ◌∷◌, ◌++◌, length, append-nil}
use Rattle.std.proofs.lemmas.List.Elements.{All-cons, All-nil, All-head, All-tail}
use Rattle.std.specs.Prelude.{All, map, Option, Some, None, Ok, slice_get}
use Rattle.std.specs.Option.{option_map}
use Rattle.c_types.specs.Types.{CType}
use Rattle.c_types.specs.Objects.{is_object}
use Rattle.c_ast.specs.declared.words.Spelling.{Spelling}
use Rattle.c_ast.specs.Trees
use Rattle.c_ast.specs.Places.{first}
use Rattle.c_typed.specs.Trees as Typed
use Rattle.c_typed.specs.InitialValues.{InitialValue, initial_value}
use Rattle.c_typed.specs.Mapped.{of_types, mapped_value, mapped_part}
use Rattle.c_typed.specs.Typed.{Declared, IsTyped}
use Rattle.c_typed.specs.TypedStatements.{IsTypedPart, IsTypedValue, IsTypedInitializer, IsInitialized, all_declared_by}
use Rattle.c_erasure.specs.Erasure.{typed}
use Rattle.c_erasure.specs.Initializers.{Part, HasConstant, AreConstants, IsInitializer}
use Rattle.c_erasure.specs.Literals.{literals, literals_of_value}
use Rattle.c_erasure.specs.Marks.{marks}
use Rattle.c_erasure.specs.MentionPlaces.{spoken_by_value, spoken}
use Rattle.c_erasure.specs.Noted.{Noted, Expression}
use Rattle.c_erasure.specs.Scopes.{FileScope, Scope, Bound, ALocal, with_name, declared}
use Rattle.c_erasure.specs.Statements.{Statements, HasInitializer, HasConstants, with_variable}
use Rattle.c_erasure.specs.Checking.Answers.{moved}
use Rattle.c_erasure.specs.Checking.Initializers.{initializer, constants_in}
use Rattle.c_erasure.specs.Checking.Statements.{initial_if_any, constants_if_any, with_new_local}
use Rattle.c_erasure.specs.Checking.Statements.{Performed, in_scope, declare_local}
use Rattle.c_checking_laws.proofs.Results.{bound_ok, given, with_file_ok}
use Rattle.c_checking_laws.proofs.Extends.{Extends, itself, further, kept, at_end}
use Rattle.c_checking_laws.proofs.Agreement.{IsFit, BlocksAreFit, one_more_fits}
use Rattle.c_checking_laws.proofs.InRange.{IsInRange}
use Rattle.c_checking_laws.proofs.Adding.{adds_nothing}
use Rattle.c_checking_laws.proofs.WholeFiles.Layouts.{object_stays}
use Rattle.c_checking_laws.proofs.WholeFiles.Parts.{Parted, none}
use Rattle.c_checking_laws.proofs.WholeFiles.Initials.{ReadFrom}
use Rattle.c_checking_laws.proofs.WholeFiles.TypedValues.{values_typed}
use Rattle.c_checking_laws.proofs.WholeFiles.Wholes.{typed_initial, sound_whole, constants_are}
use Rattle.c_checking_laws.proofs.WholeFiles.Longer.{seen, fits_longer, blocks_longer}
use Rattle.c_checking_laws.proofs.WholeFiles.Scoped.{IsWithin, ready_for, AddsInside, inside_grows, within_moved, IsLater, FoundIn}
use Rattle.std.proofs.Common.{inl, inr}
use Rattle.std.specs.Prelude.{◌⊎◌}
use Rattle.c_erasure.specs.Scopes.{AnObject}
use Rattle.c_checking_laws.proofs.WholeFiles.InTime.{IsInTime, timely_later}
use Rattle.c_checking_laws.proofs.WholeFiles.Kept.{IsALiteral}
use Rattle.c_checking_laws.proofs.WholeFiles.KeepingInitials.{keep_initializer}
use Rattle.c_checking_laws.proofs.WholeFiles.Scoped.{outside, new_of, IsMadeTyped, IsInner, literal_inner}

-- the initializer of a declarator
abbrev pub IsValueInRange : (ends : List ℕ) → ℕ → Option (ℕ × Trees.Expression) → Type 0
IsValueInRange ends n None = Unit {0}
IsValueInRange ends n (Some value) = IsInRange value.1 × IsInTime ends n value.1

abbrev pub typed_initial_if_any : Option (Typed.Initializer Noted) → Option (Typed.Initializer CType)
typed_initial_if_any i = option_map typed_initial i

-- ---- constants in later files

constant_value_later : (d e : Declared) (u : CType) (v : Typed.PartValue Noted) → IsTypedValue e u (mapped_value (of_types (λ t. t.ty)) v)
    → ((x : Expression) (v : InitialValue) → IsTyped e (typed x) → initial_value d (typed x) ≡ Some v → initial_value e (typed x) ≡ Some v)
    → HasConstant d v → HasConstant e v
constant_value_later d e u (Typed.value x) t keep c = (c.0, keep x c.0 t.0 c.1)
constant_value_later d e u (Typed.record_of p) t keep c = c
constant_value_later d e u (Typed.text bytes) t keep c = tt

constant_parts_later : (d e : Declared) (t : CType) (all : List Part)
    → ((x : Expression) (v : InitialValue) → IsTyped e (typed x) → initial_value d (typed x) ≡ Some v → initial_value e (typed x) ≡ Some v)
    → All (IsTypedPart e t) (map (mapped_part (of_types (λ t. t.ty))) all) → All (λ part. HasConstant d part.value) all
    → All (λ part. HasConstant e part.value) all
constant_parts_later d e t [] keep h c = All-nil (λ (part : Part). HasConstant e part.value)
constant_parts_later d e t (part ∷ more) keep h c =
    let m = mapped_part (of_types (λ t. t.ty)) part in
    let own = All-head (IsTypedPart e t) m (map (mapped_part (of_types (λ t. t.ty))) more) h in
    let rest = All-tail (IsTypedPart e t) m (map (mapped_part (of_types (λ t. t.ty))) more) h in
    All-cons (λ (part : Part). HasConstant e part.value) part more
    (constant_value_later d e own.0 part.value own.2 keep (All-head (λ (part : Part). HasConstant d part.value) part more c))
    (constant_parts_later d e t more keep rest (All-tail (λ (part : Part). HasConstant d part.value) part more c))

pub constants_later : (d e : Declared) (t : CType) (i : Typed.Initializer Noted)
    → ((x : Expression) (v : InitialValue) → IsTyped e (typed x) → initial_value d (typed x) ≡ Some v → initial_value e (typed x) ≡ Some v)
    → IsTypedInitializer e t (typed_initial i) → AreConstants d i → AreConstants e i
constants_later d e t (Typed.whole x) keep h c = constant_value_later d e t (Typed.value x) h keep c
constants_later d e t (Typed.whole_record p) keep h c = c
constants_later d e t (Typed.parts all) keep h c = constant_parts_later d e t all keep h.1 c

-- ---- one more name in the block

pub named_fits : (f : FileScope) (locals : List ALocal) (blocks : List (List Bound)) (b : Bound) → BlocksAreFit f locals blocks → IsFit f locals b.entity
    → BlocksAreFit f locals (with_name blocks b)
named_fits f locals [] b h p = ((p, tt), tt)
named_fits f locals (block ∷ outer) b h p = (one_more_fits f locals block b h.0 p, h.1)

pub last_mapped : {X Y : Type 0} (v : X → Y) (xs : List X) (x : X) → slice_get (map v (xs ++ x ∷ [])) (length xs) ≡ Some (v x)
last_mapped v [] x = refl
last_mapped v (z ∷ xs) x = last_mapped v xs x

module _ (untagged : ℕ → List ℕ) (f : FileScope) where
  read_from : (s : Scope) → IsWithin untagged f s → ReadFrom untagged s.file s
  read_from s w = record { complete = w.complete; extends = itself s.file; same = w.same }

  -- ---- initializers in a scope

  pub record FoundInitializer (s : Scope) (x k : List ℕ) (Holds : FileScope → List ALocal → Type 0) (g : FileScope) : Type 0 where
    pub within : IsWithin untagged f (moved s g)
    pub extends : Extends s.file g
    pub made : List ℕ
    pub texts : List ℕ
    pub parted : Parted k made texts
    pub grows : AddsInside s.file x made g
    pub literals : (n : ℕ) (o : AnObject) → slice_get g.objects n ≡ Some o → (slice_get s.file.objects n ≡ Some o) ⊎ IsALiteral s.file.file o
    pub holds : (h : FileScope) (l : List ALocal) → IsLater f (moved s g) texts h l → Holds h l

  abbrev pub IsInitialIn : Scope → CType → Option (ℕ × Trees.Expression) → Option (Typed.Initializer Noted) → FileScope → List ALocal → Type 0
  IsInitialIn s t value i g l = HasInitializer (seen s g l) t value i × IsInitialized (declared (seen s g l)) t (typed_initial_if_any i)

  pub whole_in : (a : Trees.Expression) (s : Scope) (t : CType) → IsInRange a → IsWithin untagged f s → is_object (length s.file.records) t ≡ true
      → (z : Typed.Initializer Noted × FileScope) → initializer a s t ≡ Ok z
      → FoundInitializer s (spoken a) (literals a)
      (λ g l. IsInitializer a (seen s g l) t z.0 × IsTypedInitializer (declared (seen s g l)) t (typed_initial z.0)) z.1
  whole_in a s t n w o z h =
      let v = sound_whole untagged s.file a s n (ready_for w s.locals ([], sym (append-nil s.locals)) (marks untagged a)) (read_from s w) t o z h in
      let keeps = keep_initializer untagged [] a s w.same (λ i. outside w.inside i) t z h in
      record {
        within = within_moved untagged f s (marks untagged a) z.1 w v.grew keeps;
        extends = v.grew.extends;
        made = v.made;
        texts = v.texts;
        parted = v.parted;
        grows = inside_grows s (marks untagged a) (spoken a) v.made z.1 w.inside w.full v.grows;
        literals = new_of keeps;
        holds = λ g l e. v.holds g l e.extends e.locals e.laid e.none_begins;
      }

  -- none, or one
  pub initial_in : (value : Option (ℕ × Trees.Expression)) (s : Scope) (t : CType) → IsValueInRange f.ends (length f.records) value → IsWithin untagged f s
      → is_object (length s.file.records) t ≡ true → (z : Option (Typed.Initializer Noted) × FileScope) → initial_if_any value s t ≡ Ok z
      → FoundInitializer s (spoken_by_value value) (literals_of_value value) (IsInitialIn s t value z.0) z.1
  initial_in None s t n w o z h =
      given (λ (z : Option (Typed.Initializer Noted) × FileScope). FoundInitializer s [] [] (IsInitialIn s t None z.0) z.1) (None, s.file) z h (record {
        within = w;
        extends = itself s.file;
        made = [];
        texts = [];
        parted = none;
        grows = adds_nothing s.file true false false;
        literals = λ n o h. inl h;
        holds = λ g l e. (refl, tt);
      })
  initial_in (Some value) s t n w o z h =
      let x = bound_ok (initializer value.1 s t) _ z h in
      let v = whole_in value.1 s t n.0 w o x.0 x.1 in
      given (λ (z : Option (Typed.Initializer Noted) × FileScope). FoundInitializer s (spoken value.1) (literals value.1)
      (IsInitialIn s t (Some value) z.0) z.1)
      (Some x.0.0, x.0.1) z x.2 (record {
        within = v.within;
        extends = v.extends;
        made = v.made;
        texts = v.texts;
        parted = v.parted;
        grows = v.grows;
        literals = v.literals;
        holds = λ g l e. let b = v.holds g l e in ((x.0.0, refl, b.0), b.1);
      })

  abbrev pub AreConstantsIn : Scope → CType → Option (ℕ × Trees.Expression) → Typed.Initializer Noted → FileScope → List ALocal → Type 0
  AreConstantsIn s t value i g l = HasConstants (seen s g l) t value i × IsMadeTyped (declared (seen s g l)) t i

  -- constants, or none
  pub constants_found : (value : Option (ℕ × Trees.Expression)) (s : Scope) (t : CType) → IsValueInRange f.ends (length f.records) value → IsWithin untagged f s
      → is_object (length s.file.records) t ≡ true → (z : Typed.Initializer Noted × FileScope) → constants_if_any value s t ≡ Ok z
      → FoundInitializer s (spoken_by_value value) (literals_of_value value) (AreConstantsIn s t value z.0) z.1
  constants_found None s t n w o z h =
      given (λ (z : Typed.Initializer Noted × FileScope). FoundInitializer s [] [] (AreConstantsIn s t None z.0) z.1) (Typed.parts [], s.file) z h (record {
        within = w;
        extends = itself s.file;
        made = [];
        texts = [];
        parted = none;
        grows = adds_nothing s.file true false false;
        literals = λ n o h. inl h;
        holds = λ g l e. (refl, inl refl);
      })
  constants_found (Some value) s t n w o z h =
      let x = bound_ok (initializer value.1 s t) _ z h in
      let v = whole_in value.1 s t n.0 w o x.0 x.1 in
      let c = with_file_ok x.0.1 (constants_in (declared (moved s x.0.1)) (first value.1) x.0.0) z x.2 in
      let k = constants_are (declared (moved s x.0.1)) (first value.1) x.0.0 z.0 c.0 in
      moved_to c.1 (record {
        within = v.within;
        extends = v.extends;
        made = v.made;
        texts = v.texts;
        parted = v.parted;
        grows = v.grows;
        literals = v.literals;
        holds = λ g l e.
            let b = v.holds g l e in
            let i = subst (λ i. IsInitializer value.1 (seen s g l) t i) k.0 b.0 in
            let d = subst (AreConstants (declared (moved s x.0.1))) (sym k.0) k.1 in
            let timely = timely_later v.within.extends value.1 n.1 in
            let values = values_typed untagged s.file value.1 s n.0 (ready_for w s.locals ([], sym (append-nil s.locals)) (marks untagged value.1)) (read_from s w)
            t o x.0 x.1 in
            let all = e.constants x.0.1 v.within.extends e.extends v.within.complete v.within.whole value.1 s t x.0.0 l timely x.1 b.0 b.1 values d in
            let there = subst (AreConstants (declared (seen s g l))) k.0 all in
            ((i, there), inr (subst (λ i. IsTypedInitializer (declared (seen s g l)) t (typed_initial i)) k.0 b.1, there));
      })
    where
      moved_to : {g : FileScope} → g ≡ z.1 → FoundInitializer s (spoken value.1) (literals value.1) (AreConstantsIn s t (Some value) z.0) g
          → FoundInitializer s (spoken value.1) (literals value.1) (AreConstantsIn s t (Some value) z.0) z.1
      moved_to e p = subst (FoundInitializer s (spoken value.1) (literals value.1) (AreConstantsIn s t (Some value) z.0)) e p

  -- ---- locals that are made when the block is entered

  pub new_within : (s : Scope) (x : Spelling) (t : CType) → IsWithin untagged f s → IsWithin untagged f (with_new_local s x t)
  new_within s x t w = record {
    inside = refl;
    full = w.full;
    ready = record {
      names_fit = fits_longer s.file s.locals (record { name = x.text; ty = t } ∷ []) s.file.names w.ready.names_fit;
      blocks_fit = named_fits s.file _ s.blocks _ (blocks_longer s.file s.locals (record { name = x.text; ty = t } ∷ []) s.blocks w.ready.blocks_fit)
          (last_mapped (λ l. l.ty) s.locals (record { name = x.text; ty = t }));
      ends_stand = λ j n right h. cc;
    };
    complete = w.complete;
    whole = w.whole;
    extends = w.extends;
    same = w.same;
  }

  -- the statement of a declarator, and the scope after it
  pub record IsDeclared (s : Scope) (d : Trees.InitDeclarator) (x : Spelling) (t : CType) (all : Statements) (after : Scope) (g : FileScope)
      (l : List ALocal) : Type 0 where
    pub initial : Option (Typed.Initializer Noted)
    pub all_is : all ≡ Typed.and_statement (Typed.declare (length s.locals) initial) Typed.no_statements
    pub local : slice_get l (length s.locals) ≡ Some (record { name = x.text; ty = t })
    pub initializer : HasInitializer (with_variable (seen s g l) x (length s.locals) t) t d.value initial
    pub after_is : seen after g l ≡ with_variable (seen s g l) x (length s.locals) t
    pub complete : is_object (length g.records) t ≡ true
    pub is_typed : IsInitialized (declared (seen s g l)) t (typed_initial_if_any initial)

  pub local_found : (s : Scope) (d : Trees.InitDeclarator) (x : Spelling) (t : CType) → IsValueInRange f.ends (length f.records) d.value → IsWithin untagged f s
      → is_object (length s.file.records) t ≡ true → (z : Statements × Scope) → declare_local s d x t ≡ Ok z
      → FoundIn untagged f s (spoken_by_value d.value) (literals_of_value d.value) (IsDeclared s d x t z.0 z.1) (all_declared_by z.0) z.1
  local_found s d x t n w o z h =
      let b = with_new_local s x t in
      let i = bound_ok (in_scope b (initial_if_any d.value b t)) _ z h in
      let j = bound_ok (initial_if_any d.value b t) _ i.0 i.1 in
      let v = initial_in d.value b t n (new_within s x t w) o j.0 j.1 in
      let r = given (λ (i : Option (Typed.Initializer Noted) × Scope). made_of i ≡ Ok z
      → FoundIn untagged f s (spoken_by_value d.value) (literals_of_value d.value)
      (IsDeclared s d x t z.0 z.1) (all_declared_by z.0) z.1) (j.0.0, moved b j.0.1) i.0 j.2
      (λ h. given (λ (z : Statements × Scope). FoundIn untagged f s (spoken_by_value d.value) (literals_of_value d.value) (IsDeclared s d x t z.0 z.1)
      (all_declared_by z.0) z.1) (Typed.and_statement (Typed.declare (length s.locals) j.0.0) Typed.no_statements, moved b j.0.1) z h (record {
        within = v.within;
        extends = v.extends;
        more = record { name = x.text; ty = t } ∷ [];
        locals = refl;
        numbered = refl;
        made = v.made;
        texts = v.texts;
        parted = v.parted;
        grows = v.grows;
        inner = λ k o e. by_part k o (v.literals k o e);
        holds = λ g l e.
            let m = v.holds g l e in
            record {
              initial = j.0.0;
              all_is = refl;
              local = subst (λ l. slice_get l (length s.locals) ≡ Some (record { name = x.text; ty = t })) (sym e.locals.1)
                  (kept (s.locals ++ record { name = x.text; ty = t } ∷ []) e.locals.0 (length s.locals) _
                  (at_end s.locals (record { name = x.text; ty = t })));
              initializer = m.0;
              after_is = refl;
              complete = object_stays (further v.extends e.extends) t o;
              is_typed = m.1;
            };
      })) in
      r i.2
    where
      by_part : {after : Scope} {texts : List ℕ} (k : ℕ) (o : AnObject) → (slice_get s.file.objects k ≡ Some o) ⊎ IsALiteral s.file.file o
          → (slice_get s.file.objects k ≡ Some o) ⊎ IsInner f after texts o
      by_part k o (inl e) = inl e
      by_part {after} {texts} k o (inr e) = inr (literal_inner f after texts s.file.file o e)

      made_of : Option (Typed.Initializer Noted) × Scope → Performed Statements
      made_of i = Ok (Typed.and_statement (Typed.declare (length s.locals) i.0) Typed.no_statements, i.1)
