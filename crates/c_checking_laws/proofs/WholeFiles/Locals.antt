-- What is found for declarations in blocks (C99 6.7).
use Rattle.std.proofs.Common.{◌≡◌, ℕ, zero, suc, ◌≤◌, Bool, true, false, refl, sym, ◌∙◌, subst, List, [], ◌∷◌, length, append-nil}
use Rattle.std.proofs.Common.{arith, cond}
use Rattle.std.proofs.lemmas.Bool.{and_parts, leb-true}
use Rattle.std.specs.Prelude.{◌⊎◌, map, Option, Some, None, Ok, slice_get, slice_set, nat_le, ◌&&◌}
use Rattle.c_types.specs.Types.{CType, array, Record}
use Rattle.c_types.specs.Layouts.{size_of}
use Rattle.c_types.specs.Objects.{is_object, parts}
use Rattle.c_ast.specs.declared.words.Spelling.{Spelling}
use Rattle.c_ast.specs.Trees
use Rattle.c_ast.specs.Places.{first, first_declarator}
use Rattle.c_typed.specs.declared.program.MentionKind.TheVariants.{Object}
use Rattle.c_typed.specs.Conversions.{is_function}
use Rattle.c_erasure.specs.Declarators.{declared_name, Shape, closed, open_array, IsSmall}
use Rattle.c_erasure.specs.Initializers.{texts_of, length_of}
use Rattle.c_erasure.specs.Marks.{marks_of_declarator}
use Rattle.c_erasure.specs.MentionPlaces.{spoken_of_declarator}
use Rattle.c_erasure.specs.Scopes.{FileScope, Scope, ALocal, ended}
use Rattle.c_erasure.specs.Statements.{IsSized, IsVariable}
use Rattle.c_erasure.specs.Checking.Answers.{moved}
use Rattle.c_erasure.specs.Checking.Declaring.{with_mention, mentions_in, derived, is_small, small, object_at}
use Rattle.c_erasure.specs.Checking.Finding.{complete, derivations}
use Rattle.c_erasure.specs.Checking.Nodes.{is_complete}
use Rattle.c_erasure.specs.Checking.Statements.{counted_array, sized_in, variable_type, variable_of}
use Rattle.c_checking_laws.proofs.Results.{bound_ok, bound_with, given, only_if, chosen}
use Rattle.c_checking_laws.proofs.Extends.{Extends, itself, further}
use Rattle.c_checking_laws.proofs.InRange.{IsDeclaratorInRange}
use Rattle.c_checking_laws.proofs.NodesOfParts.{complete_is}
use Rattle.c_checking_laws.proofs.Declared.{mentioned, is_mentioned, before_mention, new_is}
use Rattle.c_checking_laws.proofs.Adding.{mention_before}
use Rattle.c_checking_laws.proofs.Sound.{sound_steps}
use Rattle.c_checking_laws.proofs.Growth.{grow_steps}
use Rattle.c_checking_laws.proofs.WholeFiles.Layouts.{object_stays, size_stays}
use Rattle.c_checking_laws.proofs.WholeFiles.SameLocals.{with_locals, same_derivations}
use Rattle.c_checking_laws.proofs.WholeFiles.Longer.{seen, GoesOn}
use Rattle.c_checking_laws.proofs.WholeFiles.Scoped.{IsWithin, ready_for, AddsInside, inside_grows, within_moved, AreInner, inner_of, outside}
use Rattle.c_checking_laws.proofs.WholeFiles.Kept.{keeps_mention}
use Rattle.c_checking_laws.proofs.WholeFiles.Keeping.{keep_steps}

-- ---- types of objects

small_so : (records : List Record) (at : ℕ) (t u : CType) → small records at t ≡ Ok u → IsSmall records t × (t ≡ u)
small_so records at t u h =
    let b = only_small (is_small records t) h in
    let c = and_parts (nat_le (size_of records t) 16777216) (nat_le (parts t) 1024) b.0 in
    (record { bytes = leb-true (size_of records t) 16777216 c.0; parts = leb-true (parts t) 1024 c.1 }, b.1)
  where
    only_small : (b : Bool) → cond b (Ok t) (Rattle.std.specs.Prelude.Err (Rattle.c_erasure.specs.Broken.too_big at)) ≡ Ok u → (b ≡ true) × (t ≡ u)
    only_small true h = (refl, given (λ u. t ≡ u) t u h refl)
    only_small false h = cc

abbrev pub IsSizedOver : List Record → Shape → Option (ℕ × Trees.Expression) → CType → Type 0
IsSizedOver records (closed u) value t = t ≡ u
IsSizedOver records (open_array u) None t = ⊥
IsSizedOver records (open_array u) (Some value) t = (t ≡ array u (length_of u (texts_of value.1) value.1)) × (1 ≤ length_of u (texts_of value.1) value.1)
    × IsSmall records t

counted_so : (records : List Record) (at : ℕ) (u : CType) (n : ℕ) (t : CType) → counted_array records at u n ≡ Ok t
    → (t ≡ array u n) × (1 ≤ n) × IsSmall records t
counted_so records at u zero t h = cc
counted_so records at u (suc n) t h =
    let s = small_so records at (array u (suc n)) t h in
    (sym s.1, omega arith, subst (IsSmall records) s.1 s.0)

pub sized_so : (records : List Record) (at : ℕ) (shape : Shape) (value : Option (ℕ × Trees.Expression)) (t : CType) → sized_in records at shape value ≡ Ok t
    → IsSizedOver records shape value t
unfolding sized_in
sized_so records at (closed u) value t h = given (λ t. t ≡ u) u t h refl
sized_so records at (open_array u) None t h = cc
sized_so records at (open_array u) (Some value) t h = counted_so records (first value.1) u (length_of u (texts_of value.1) value.1) t h

-- what is small stays so
pub sized_later : {f g : FileScope} → Extends f g → (s : Scope) → s.file ≡ g → (shape : Shape) (value : Option (ℕ × Trees.Expression)) (t : CType)
    → is_object (length f.records) t ≡ true → IsSizedOver f.records shape value t → IsSized s shape value t
sized_later p s e (closed u) value t o h = h
sized_later p s e (open_array u) None t o h = h
sized_later {f} {g} p s e (open_array u) (Some value) t o h =
    let z = size_stays p t o in
    let b = h.2.bytes in
    (h.0, h.1, subst (λ g. IsSmall g.records t) (sym e) (record { bytes = omega (arith, z, b); parts = h.2.parts }))

pub variable_is : (records : List Record) (count at : ℕ) (t u : CType) → variable_type records count at t ≡ Ok u
    → (is_object count u ≡ true) × (is_object (length records) u ≡ true) × (t ≡ u) × (is_function u ≡ false)
unfolding variable_type object_at
variable_is records count at t u h =
    chosen (is_function t) _ _ u ((is_object count u ≡ true) × (is_object (length records) u ≡ true) × (t ≡ u) × (is_function u ≡ false)) h (λ b h. cc)
    (λ b h.
    let c = only_if (is_complete records count t) _ _ _ u h in
    let d = complete_is records count t c.0 in
    given (λ u. (is_object count u ≡ true) × (is_object (length records) u ≡ true) × (t ≡ u) × (is_function u ≡ false)) t u c.1 (d.0, d.1, refl, b))

module _ (untagged : ℕ → List ℕ) (f : FileScope) where
  -- a name of a complete object type
  pub record FoundVariable (s : Scope) (base : CType) (d : Trees.InitDeclarator) (x : Spelling) (z : CType × FileScope) : Type 0 where
    pub within : IsWithin untagged f (moved s z.1)
    pub extends : Extends s.file z.1
    pub complete : is_object (length z.1.records) z.0 ≡ true
    pub inner : AreInner f s (moved s z.1) []
    pub grows : AddsInside s.file (first_declarator d.declarator x.from ∷ spoken_of_declarator d.declarator) [] z.1
    pub holds : (g : FileScope) (l : List ALocal) → Extends z.1 g → GoesOn s.locals l → IsVariable (seen s g l) base d x z.0

  pub variable_found : (s : Scope) (base : CType) (d : Trees.InitDeclarator) (x : Spelling) → declared_name d.declarator ≡ Some x
      → IsDeclaratorInRange d.declarator → IsWithin untagged f s → (z : CType × FileScope) → variable_of s base d x ≡ Ok z → FoundVariable s base d x z
  variable_found s base d x name n w z h =
      let at = first_declarator d.declarator x.from in
      let u = marks_of_declarator untagged d.declarator in
      let steps = bound_ok (derivations d.declarator s) _ z h in
      let own = sound_steps untagged d.declarator s n (ready_for w s.locals ([], sym (append-nil s.locals)) u) steps.0 steps.1 in
      let shape = bound_with steps.0.1 (derived steps.0.1.records steps.0.0 base) _ z steps.2 in
      let t = bound_with steps.0.1 (sized_in steps.0.1.records x.from shape.0 d.value) _ z shape.2 in
      let v = bound_with steps.0.1 (variable_type steps.0.1.records (complete s x.from) x.from t.0) _ z t.2 in
      let keeps = keeps_mention s (mentions_in s.file) Object v.0 at
      (keep_steps untagged [] d.declarator s w.same (λ i. outside w.inside i) steps.0 steps.1) in
      let k = new_is s (Some x) (Ok (v.0, with_mention s (mentions_in s.file) Object v.0 at steps.0.1)) z v.2 in
      let c = variable_is steps.0.1.records (complete s x.from) x.from t.0 v.0 v.1 in
      given (FoundVariable s base d x) (v.0, with_mention s (mentions_in s.file) Object v.0 at steps.0.1) z k.1 (record {
        within = within_moved untagged f s u (with_mention s (mentions_in s.file) Object v.0 at steps.0.1) w
            (mentioned s (mentions_in s.file) Object v.0 at own.grew) keeps;
        extends = (mentioned s (mentions_in s.file) Object v.0 at own.grew).extends;
        complete = object_stays (before_mention s steps.0.1 _ (mentions_in s.file) Object v.0 at (itself _)) v.0 c.1;
        inner = inner_of f s (moved s (with_mention s (mentions_in s.file) Object v.0 at steps.0.1)) [] keeps;
        grows = inside_grows s u (at ∷ spoken_of_declarator d.declarator) [] (with_mention s (mentions_in s.file) Object v.0 at steps.0.1) w.inside w.full
            (mention_before s Object v.0 at (grow_steps untagged d.declarator s w.same steps.0 steps.1));
        holds = λ g l e p.
            let b = before_mention s steps.0.1 g (mentions_in s.file) Object v.0 at e in
            let same : derivations d.declarator (with_locals l s) ≡ Ok steps.0 = same_derivations l d.declarator s ∙ steps.1 in
            let made = sound_steps untagged d.declarator (with_locals l s) n (ready_for w l p u) steps.0 same in (
              shape.0,
              name,
              made.holds g b steps.0.1.records b.records.0 b.records.1 base shape.0 shape.1,
              sized_later b (seen s g l) refl shape.0 d.value v.0 c.1
                  (subst (IsSizedOver steps.0.1.records shape.0 d.value) c.2 (sized_so steps.0.1.records x.from shape.0 d.value t.0 t.1)),
              subst (λ ends. is_object (ended ends x.from) v.0 ≡ true) (sym (further own.grew.extends b).ends) c.0,
              k.0,
              is_mentioned (with_locals l s) steps.0.1 g (mentions_in s.file) Object v.0 at e,
            );
      })
