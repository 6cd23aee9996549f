-- Where a declarator of a block stops before its initializer, a rule is broken (C99 6.7).
use Rattle.std.proofs.Common.{◌≡◌, ℕ, zero, suc, ◌+◌, ◌≤◌, Bool, true, false, refl, sym, ap, subst, List, length, inl, inr, arith}
use Rattle.std.specs.Prelude.{◌⊎◌, Option, Some, None, Err}
use Rattle.lay_base.specs.declared.faults.Rule.TheVariants as R
use Rattle.c_types.specs.Types.{CType, array, Record}
use Rattle.c_types.specs.Objects.{is_object}
use Rattle.c_ast.specs.declared.words.Spelling.{Spelling}
use Rattle.c_ast.specs.Trees
use Rattle.c_ast.specs.Places.{first}
use Rattle.c_typed.specs.Conversions.{is_function}
use Rattle.c_erasure.specs.Broken.{Fault, ill_typed, IsTooBig, IsOldName, IsBrokenWithin}
use Rattle.c_erasure.specs.BrokenStatements.{IsEndless, IsBrokenInitial, HasNoConstants, with_declared, IsThere, IsBrokenLocal}
use Rattle.c_erasure.specs.Declarators.{declared_name, Shape, closed, open_array}
use Rattle.c_erasure.specs.Initializers.{texts_of, length_of}
use Rattle.c_erasure.specs.Marks.{marks_of_declarator}
use Rattle.c_erasure.specs.Scopes.{FileScope, Scope, ended}
use Rattle.c_erasure.specs.Statements.{IsSized, with_object}
use Rattle.c_erasure.specs.Checking.Answers.{moved}
use Rattle.c_erasure.specs.Checking.Declaring.{derived}
use Rattle.c_erasure.specs.Checking.Finding.{complete, derivations}
use Rattle.c_erasure.specs.Checking.Statements.{counted_array, sized_in, variable_type, variable_of}
use Rattle.c_checking_laws.proofs.Agreement.{added}
use Rattle.c_checking_laws.proofs.Extends.{itself, constants_stay}
use Rattle.c_checking_laws.proofs.Growth.{grow_steps}
use Rattle.c_checking_laws.proofs.InRange.{IsDeclaratorInRange}
use Rattle.c_checking_laws.proofs.Sound.{sound_steps}
use Rattle.c_checking_laws.proofs.FaultDeclaring.{small_fault, object_fault, new_fault}
use Rattle.c_checking_laws.proofs.FaultPremises.{known_after, AreKnown, IsDeclaratorTimely}
use Rattle.c_checking_laws.proofs.FaultAdditions.{of_declarator}
use Rattle.c_checking_laws.proofs.FaultResults as Results
use Rattle.c_checking_laws.proofs.FaultResults.{Up, same_fault, bound_err, beside_err, chosen_err, Broken, whole, there, reached}
use Rattle.c_checking_laws.proofs.FaultSteps.{read_steps, asked}
use Rattle.c_checking_laws.proofs.FaultTypes.{within_broken}
use Rattle.c_checking_laws.proofs.Faults.{faults_steps}
use Rattle.c_checking_laws.proofs.WholeFiles.Locals.{IsSizedOver, sized_so}
use Rattle.c_checking_units.proofs.FirstStops.Stopped.{IsIn, prepared, many}

-- ---- types of objects

counted_fault : (s : Scope) (at : ℕ) (u : CType) (n : ℕ) (fault : Fault) → counted_array s.file.records at u n ≡ Err fault
    → ((n ≡ 0) × (fault ≡ ill_typed R.Init at)) ⊎ IsTooBig s (array u n) at fault
counted_fault s at u zero fault h = inl (refl, same_fault CType (ill_typed R.Init at) fault h)
counted_fault s at u (suc n) fault h = inr (small_fault s at (array u (suc n)) fault h)

sized_fault : (s : Scope) (at : ℕ) (shape : Shape) (value : Option (ℕ × Trees.Expression)) (fault : Fault) → sized_in s.file.records at shape value ≡ Err fault
    → IsEndless s shape value at fault
unfolding sized_in
sized_fault s at (closed t) value fault h = cc
sized_fault s at (open_array u) None fault h = same_fault CType (ill_typed R.Length at) fault h
sized_fault s at (open_array u) (Some value) fault h = counted_fault s (first value.1) u (length_of u (texts_of value.1) value.1) fault h

sized_here : (s : Scope) (shape : Shape) (value : Option (ℕ × Trees.Expression)) (t : CType) → IsSizedOver s.file.records shape value t → IsSized s shape value t
sized_here s (closed u) value t h = h
sized_here s (open_array u) None t h = h
sized_here s (open_array u) (Some value) t h = h

-- an array is no function
closed_function : (records : List Record) (shape : Shape) (value : Option (ℕ × Trees.Expression)) (t : CType) → IsSizedOver records shape value t
    → is_function t ≡ true → shape ≡ closed t
closed_function records (closed u) value t h i = ap closed (sym h)
closed_function records (open_array u) None t h i = absurd h
closed_function records (open_array u) (Some value) t h i =
    let n = subst (λ t. is_function t ≡ true) h.0 i in
    cc

variable_fault : (records : List Record) (count at : ℕ) (t : CType) → count ≤ length records → (fault : Fault) → variable_type records count at t ≡ Err fault
    → ((is_function t ≡ true) × (fault ≡ ill_typed R.Scope at))
    ⊎ ((is_function t ≡ false) × (is_object count t ≡ false) × (fault ≡ ill_typed R.Incomplete at))
unfolding variable_type
variable_fault records count at t l fault h =
    chosen_err (is_function t) _ _ fault (((is_function t ≡ true) × (fault ≡ ill_typed R.Scope at))
    ⊎ ((is_function t ≡ false) × (is_object count t ≡ false) × (fault ≡ ill_typed R.Incomplete at))) h
    (λ b h. inl (b, same_fault CType (ill_typed R.Scope at) fault h))
    (λ b h. let m = object_fault records count at t l fault h in inr (b, m.1, m.0))

module _ (untagged : ℕ → List ℕ) (ends : List ℕ) (f : FileScope) where
  -- a name of a complete object type; no literal is made an object
  pub variable_stops : (s : Scope) (static : Bool) (base : CType) (d : Trees.InitDeclarator) (x : Spelling) → declared_name d.declarator ≡ Some x
      → IsIn untagged ends f s → IsDeclaratorInRange d.declarator → IsDeclaratorTimely untagged ends true (length f.records) d.declarator
      → AreKnown untagged ends (length f.records) x.from → (fault : Fault) → variable_of s base d x ≡ Err fault
      → Broken (Up s (of_declarator untagged d.declarator)) s (λ s. IsBrokenLocal s static base d fault)
  variable_stops s static base d x name p i t known fault h =
      let May = Up s (of_declarator untagged d.declarator) in
      let n = length f.records in
      let u = marks_of_declarator untagged d.declarator in
      let q = prepared untagged ends f s p u in
      let timely = subst (λ b. IsDeclaratorTimely untagged ends b n d.declarator) (sym p.within.inside) t in
      bound_err (derivations d.declarator s) _ fault (Broken May s (λ s. IsBrokenLocal s static base d fault)) h
      (λ e. whole May s (λ s. IsBrokenWithin d.declarator s fault) (λ s. IsBrokenLocal s static base d fault)
      (faults_steps untagged ends May d.declarator s n i q (many untagged ends f s p) timely (λ g w. w) fault e)
      (λ g r h. inl (within_broken d.declarator (moved s g) base fault h)))
      (λ steps e h.
      let v = sound_steps untagged d.declarator s i q.ready steps e in
      let w = read_steps untagged ends d.declarator s n i q.ready q.ends_are (many untagged ends f s p) timely steps e in
      let r = reached May s v.grew (grow_steps untagged d.declarator s q.untagged_are steps e) (λ g w. w) in
      let j = itself steps.1 in
      beside_err steps.1 (derived steps.1.records steps.0 base) _ fault (Broken May s (λ s. IsBrokenLocal s static base d fault)) h
      (λ k. there May s (λ s. IsBrokenLocal s static base d fault) steps.1 r (inl (w.broken steps.1 j base fault k)))
      (λ shape k h.
      let declares = v.holds steps.1 j steps.1.records j.records.0 j.records.1 base shape k in
      beside_err steps.1 (sized_in steps.1.records x.from shape d.value) _ fault (Broken May s (λ s. IsBrokenLocal s static base d fault)) h
      (λ k. there May s (λ s. IsBrokenLocal s static base d fault) steps.1 r
      (inr (inr (x, shape, name, declares, inl (sized_fault (moved s steps.1) x.from shape d.value fault k)))))
      (λ c k h.
      let sized = sized_so steps.1.records x.from shape d.value c k in
      let ask = asked untagged ends s (n + added s.is_inside u) x.from steps.1 q.ends_are (more_known n (added s.is_inside u) known)
      (known_after n (many untagged ends f s p) v.grew) in
      beside_err steps.1 (variable_type steps.1.records (complete s x.from) x.from c) _ fault (Broken May s (λ s. IsBrokenLocal s static base d fault)) h
      (λ k. there May s (λ s. IsBrokenLocal s static base d fault) steps.1 r
      (inr (inr (
        x,
        shape,
        name,
        declares,
        inr (by_rule (moved s steps.1) shape c sized (sized_here (moved s steps.1) shape d.value c sized)
            (constants_stay v.grew.extends (λ ends file. VariableFault (ended ends x.from) c) (variable_fault steps.1.records (complete s x.from) x.from c ask fault k))),
      ))))
      (λ o k h.
      new_fault s (Some x) _ fault (Broken May s (λ s. IsBrokenLocal s static base d fault)) h
      (λ old. Results.here May s (λ s. IsBrokenLocal s static base d fault) (inr (inl (subst (λ o. IsOldName s o fault) (sym name) old))))
      (λ h. cc)))))
    where
      VariableFault : ℕ → CType → Type 0
      VariableFault count c = ((is_function c ≡ true) × (fault ≡ ill_typed R.Scope x.from))
          ⊎ ((is_function c ≡ false) × (is_object count c ≡ false) × (fault ≡ ill_typed R.Incomplete x.from))

      more_known : (n m : ℕ) → AreKnown untagged ends n x.from → AreKnown untagged ends (n + m) x.from
      more_known n m k = omega (arith, k)

      by_rule : (s : Scope) (shape : Shape) (c : CType) → IsSizedOver s.file.records shape d.value c → IsSized s shape d.value c
          → VariableFault (ended s.file.ends x.from) c
          → ((c : CType) × (shape ≡ closed c) × (is_function c ≡ true) × (fault ≡ ill_typed R.Scope x.from))
          ⊎ ((c : CType) × IsSized s shape d.value c × (is_function c ≡ false) × (is_object (ended s.file.ends x.from) c ≡ false)
          × (fault ≡ ill_typed R.Incomplete x.from))
          ⊎ ((c : CType) × (n : ℕ) × IsSized s shape d.value c × IsThere s static x n c
          × IsBrokenInitial d.value (with_declared s static x n c) c fault)
          ⊎ ((c : CType) × (n : ℕ) × (static ≡ true) × IsSized s shape d.value c × IsThere s true x n c
          × HasNoConstants d.value (with_object s x n c) c fault)
      by_rule s shape c over sized (inl b) = inl (c, closed_function s.file.records shape d.value c over b.0, b.0, b.1)
      by_rule s shape c over sized (inr b) = inr (inl (c, sized, b.0, b.1, b.2))
