-- Where a declaration in a block stops, a rule is broken (C99 6.7).
use Rattle.std.proofs.Common.{◌≡◌, ℕ, Bool, true, false, refl, sym, ap, subst, List, [], ◌∷◌, ◌++◌, length, inl, inr}
use Rattle.std.specs.Prelude.{Some, Err}
use Rattle.lay_base.specs.declared.faults.Rule.TheVariants as R
use Rattle.c_types.specs.Types.{CType, void}
use Rattle.c_ast.specs.declared.words.Spelling.{Spelling}
use Rattle.c_ast.specs.Trees
use Rattle.c_ast.specs.Places.{first_specifiers, first_declarator}
use Rattle.c_typed.specs.Trees as Typed
use Rattle.c_erasure.specs.Broken.{Fault, ill_typed, AreBroken}
use Rattle.c_erasure.specs.BrokenStatements.{IsForbidden, IsBrokenLocal, AreBrokenLocals, is_static_storage, IsBrokenDeclaration}
use Rattle.c_erasure.specs.Declarators.{declared_name}
use Rattle.c_erasure.specs.Literals.{literals_of_value, place_if_static, made_by_declaration}
use Rattle.c_erasure.specs.Marks.{marks_of_specifiers}
use Rattle.c_erasure.specs.Scopes.{FileScope, Scope, declared}
use Rattle.c_erasure.specs.Specifiers.{Storage, no_storage, a_typedef, is_extern, is_static, is_auto, is_register, several, storage_of}
use Rattle.c_erasure.specs.Statements.{followed_by, IsVariable}
use Rattle.c_erasure.specs.Checking.Answers.{Answer, moved}
use Rattle.c_erasure.specs.Checking.Declaring.{base_kind}
use Rattle.c_erasure.specs.Checking.Finding.{base_type, one_of}
use Rattle.c_erasure.specs.Checking.Statements.{in_scope, variable_of, declare_as, declare_named, declare_all, local_storage, some_declared, local_declaration}
use Rattle.c_checking_laws.proofs.InRange.{IsDeclaratorInRange}
use Rattle.c_checking_laws.proofs.Results.{bound_ok, given}
use Rattle.c_checking_laws.proofs.FaultPremises.{AreKnown, AreSpecifiersTimely, IsDeclaratorTimely}
use Rattle.c_checking_laws.proofs.FaultResults.{Up, same_fault, bound_err}
use Rattle.c_checking_laws.proofs.FaultTypes.{base_stops}
use Rattle.c_checking_laws.proofs.Faults.{faults_one}
use Rattle.c_checking_laws.proofs.WholeFiles.Declarations.{IsDeclarationInRange, AreDeclaratorsInRange, static_places, made_by, made_same, first_named}
use Rattle.c_checking_laws.proofs.WholeFiles.Declarations.{variable_part}
use Rattle.c_checking_laws.proofs.WholeFiles.Declarations.{declarator_named}
use Rattle.c_checking_laws.proofs.WholeFiles.LocalObjects.{IsValueInRange}
use Rattle.c_checking_laws.proofs.WholeFiles.Locals.{variable_found}
use Rattle.c_checking_laws.proofs.WholeFiles.Longer.{seen}
use Rattle.c_checking_laws.proofs.WholeFiles.StatementParts.{base_in}
use Rattle.c_checking_units.proofs.FirstStops.Clear.{AreFresh, fresh_left}
use Rattle.c_checking_units.proofs.FirstStops.InnerAdditions.{inner, at_specifiers, at_declarator, at_object, at_named, at_local, at_locals, at_declaration}
use Rattle.c_checking_laws.proofs.FaultAdditions.{of_specifiers, of_declarator}
use Rattle.c_checking_laws.proofs.Within.{Additions, both, within_said}
use Rattle.c_erasure.specs.MentionPlaces.{spoken_of_declarators}
use Rattle.c_checking_units.proofs.FirstStops.DeclaredLocals.{objects_declared_by}
use Rattle.c_checking_units.proofs.FirstStops.LocalStops.{IsValueTimely, IsObjectBroken, object_stops}
use Rattle.c_checking_units.proofs.FirstStops.Stopped.{Stopped, stopped_here, stopped_more, inner_left, IsIn, prepared, many, stopped_of, stopped_later}
use Rattle.c_checking_units.proofs.FirstStops.Stopped.{fresh_later}
use Rattle.c_checking_units.proofs.FirstStops.Stopped.{in_later, in_same}
use Rattle.c_checking_units.proofs.FirstStops.Variables.{variable_stops}

-- ---- storage classes in a block

storage_stops : {A : Type 0} (at : ℕ) (words : Storage) (k : Bool → Answer A) (fault : Fault) (P : Type 0) → local_storage at words k ≡ Err fault
    → ((fault ≡ ill_typed R.Scope at) × IsForbidden words → P) → ((fault ≡ ill_typed R.Specifiers at) × (words ≡ several) → P)
    → (((at : ℕ) → place_if_static words at ≡ static_places (is_static_storage words) at) → k (is_static_storage words) ≡ Err fault → P) → P
storage_stops at no_storage k fault P h p q r = r (λ at. refl) h
storage_stops at is_auto k fault P h p q r = r (λ at. refl) h
storage_stops at is_register k fault P h p q r = r (λ at. refl) h
storage_stops at is_static k fault P h p q r = r (λ at. refl) h
storage_stops {A} at several k fault P h p q r = q (same_fault A (ill_typed R.Specifiers at) fault h, refl)
storage_stops {A} at a_typedef k fault P h p q r = p (same_fault A (ill_typed R.Scope at) fault h, tt)
storage_stops {A} at is_extern k fault P h p q r = p (same_fault A (ill_typed R.Scope at) fault h, tt)

some_stops : {A : Type 0} (at : ℕ) (all : List Trees.InitDeclarator) (r : Answer A) (fault : Fault) (P : Type 0) → some_declared at all r ≡ Err fault
    → ((fault ≡ ill_typed R.Specifiers at) × (all ≡ []) → P) → (r ≡ Err fault → P) → P
some_stops {A} at [] r fault P h p q = p (same_fault A (ill_typed R.Specifiers at) fault h, refl)
some_stops at (d ∷ more) r fault P h p q = q h

module _ (untagged : ℕ → List ℕ) (ends : List ℕ) (f : FileScope) where
  -- each declarator has a name, and records are known where it asks for them
  abbrev pub AreLocalsTimely : List Trees.InitDeclarator → Type 0
  AreLocalsTimely [] = Unit {0}
  AreLocalsTimely (d ∷ more) = IsDeclaratorTimely untagged ends true (length f.records) d.declarator
      × ((x : Spelling) × (declared_name d.declarator ≡ Some x) × AreKnown untagged ends (length f.records) x.from)
      × IsValueTimely untagged ends f d.value × AreLocalsTimely more

  abbrev pub IsDeclarationTimely : Trees.Declaration → Type 0
  IsDeclarationTimely d = AreSpecifiersTimely untagged ends true (length f.records) d.specs × AreLocalsTimely d.all

  -- ---- one declarator

  abbrev places : Bool → Trees.InitDeclarator → ℕ → List ℕ
  places static d at = static_places static (first_declarator d.declarator at) ++ literals_of_value d.value

  local_broken : (s : Scope) (static : Bool) (base : CType) (d : Trees.InitDeclarator) (x : Spelling) (t : CType) (fault : Fault) → IsVariable s base d x t
      → IsObjectBroken static d x t fault s → IsBrokenLocal s static base d fault
  local_broken s static base d x t fault v (inl b) = inr (inr (x, v.0, v.1, v.2, inr (inr (inr (inl (t, b.0, v.3, b.1, b.2))))))
  local_broken s static base d x t fault v (inr b) = inr (inr (x, v.0, v.1, v.2, inr (inr (inr (inr (t, b.0, b.1, v.3, b.2, b.3))))))

  named_stops : (static : Bool) (s : Scope) (base : CType) (d : Trees.InitDeclarator) (x : Spelling) → declared_name d.declarator ≡ Some x
      → IsIn untagged ends f s → IsDeclaratorInRange d.declarator → IsValueInRange f.ends (length f.records) d.value
      → IsDeclaratorTimely untagged ends true (length f.records) d.declarator → AreKnown untagged ends (length f.records) x.from
      → IsValueTimely untagged ends f d.value → AreFresh s.file (places static d x.from) → (fault : Fault)
      → declare_named static s base d (Some x) ≡ Err fault → Stopped (at_local static d x.from) s (λ s. IsBrokenLocal s static base d fault)
  named_stops static s base d x name p i n t known w fresh fault h =
      let k = at_local static d x.from in
      let at = first_declarator d.declarator x.from in
      let Is = λ (s : Scope). IsBrokenLocal s static base d fault in
      bound_err (in_scope s (variable_of s base d x)) _ fault (Stopped k s Is) h
      (λ e. bound_err (variable_of s base d x) _ fault (Stopped k s Is) e
      (λ e. stopped_more {k = inner (of_declarator untagged d.declarator)} Is Is
      (λ g w. inner_left (at_declarator at d.declarator) (at_object static at d.value) g (within_said at (inner (of_declarator untagged d.declarator)) w)) (λ s b. b)
      (stopped_of untagged ends f s Is p (variable_stops untagged ends f s static base d x name p i t known fault e)))
      (λ x e h. cc))
      (λ z e h.
      let u = bound_ok (variable_of s base d x) _ z e in
      let v = variable_found untagged f s base d x name i p.within u.0 u.1 in
      let part = variable_part untagged f s base d x u.0 v in
      let q = in_same untagged ends f s _ _ _ _ _ part p (fresh_left [] k.made fresh) refl in
      given (λ (z : CType × Scope). declare_as static z.1 d x z.0 ≡ Err fault → Stopped k s Is) (u.0.0, moved s u.0.1) z u.2
      (λ h. stopped_later untagged ends f s _ _ _ _ _ part p (at_object static at d.value) fresh Is (IsObjectBroken static d x u.0.0 fault)
      (λ g l is b. local_broken (seen s g l) static base d x u.0.0 fault is b)
      (object_stops untagged ends f static (moved s u.0.1) d x u.0.0 q v.complete n w (fresh_later untagged ends f s _ _ _ _ _ part k.made fresh) fault h)) h)

  declarator_stops : (static : Bool) (s : Scope) (base : CType) (d : Trees.InitDeclarator) (semicolon : ℕ) → IsIn untagged ends f s
      → IsDeclaratorInRange d.declarator → IsValueInRange f.ends (length f.records) d.value
      → IsDeclaratorTimely untagged ends true (length f.records) d.declarator
      → ((x : Spelling) × (declared_name d.declarator ≡ Some x) × AreKnown untagged ends (length f.records) x.from) → IsValueTimely untagged ends f d.value
      → AreFresh s.file (places static d semicolon) → (fault : Fault) → declare_named static s base d (declared_name d.declarator) ≡ Err fault
      → Stopped (at_local static d semicolon) s (λ s. IsBrokenLocal s static base d fault)
  declarator_stops static s base d semicolon p i n t x w fresh fault h =
      let at = first_named d.declarator x.0 x.1 semicolon x.0.from in
      let there = ap (λ at. static_places static at ++ literals_of_value d.value) at in
      let here = ap (λ at. at_named static at d) at in
      subst (λ k. Stopped k s (λ s. IsBrokenLocal s static base d fault)) (sym here)
      (named_stops static s base d x.0 x.1 p i n t x.2 w (subst (AreFresh s.file) there fresh) fault
      (subst (λ o. declare_named static s base d o ≡ Err fault) x.1 h))

  -- ---- all declarators

  all_stops : (all : List Trees.InitDeclarator) (s : Scope) (static : Bool) (base : CType) (semicolon : ℕ) → IsIn untagged ends f s
      → AreDeclaratorsInRange f.ends (length f.records) all → AreLocalsTimely all → AreFresh s.file (made_by static all semicolon) → (fault : Fault)
      → declare_all all s static base ≡ Err fault → Stopped (at_locals static all semicolon) s (λ s. AreBrokenLocals all s static base fault)
  unfolding declare_all
  all_stops [] s static base semicolon p n t fresh fault h = cc
  all_stops (d ∷ more) s static base semicolon p n t fresh fault h =
      let own = at_local static d semicolon in
      let rest = at_locals static more semicolon in
      let Is = λ (s : Scope). AreBrokenLocals (d ∷ more) s static base fault in
      bound_err (declare_named static s base d (declared_name d.declarator)) _ fault (Stopped (both own rest) s Is) h
      (λ e. stopped_more (λ s. IsBrokenLocal s static base d fault) Is (inner_left own rest) (λ s b. inl b)
      (declarator_stops static s base d semicolon p n.0 n.1 t.0 t.1 t.2 (fresh_left own.made rest.made fresh) fault e))
      (λ z e h.
      let v = declarator_named untagged f static s base d semicolon n.0 n.1 p.within (declared_name d.declarator) refl z e in
      let q = in_later untagged ends f s _ _ _ _ _ v p (fresh_left own.made rest.made fresh)
      (λ is m i u g. objects_declared_by (declared (seen s z.1.file z.1.locals)) void false false z.0 (is.is_typed void false false) m i u g) in
      bound_err (declare_all more z.1 static base) _ fault (Stopped (both own rest) s Is) h
      (λ e. stopped_later untagged ends f s _ _ _ _ _ v p rest fresh Is (λ s. AreBrokenLocals more s static base fault)
      (λ g l is b. inr (followed_by z.0 Typed.no_statements, seen z.1 g l, is.declares [] Typed.no_statements (seen z.1 g l) (refl, refl), b))
      (all_stops more z.1 static base semicolon q n.2 t.3 (fresh_later untagged ends f s _ _ _ _ _ v rest.made fresh) fault e))
      (λ others e h. cc))

  -- ---- a declaration

  pub declaration_stops : (d : Trees.Declaration) (s : Scope) → IsIn untagged ends f s → IsDeclarationInRange f.ends (length f.records) d
      → IsDeclarationTimely d → AreFresh s.file (made_by_declaration d) → (fault : Fault) → local_declaration d s ≡ Err fault
      → Stopped (at_declaration d) s (λ s. IsBrokenDeclaration d s fault)
  declaration_stops d s p i t fresh fault h =
      let k = at_declaration d in
      let others : Additions = record { marks = []; said = spoken_of_declarators d.all d.semicolon; made = made_by_declaration d } in
      let at = first_specifiers d.specs in
      let static = is_static_storage (storage_of d.specs) in
      let one = base_type (base_kind d.specs) at s.file (one_of d.specs s) in
      let Is = λ (s : Scope). IsBrokenDeclaration d s fault in
      storage_stops at (storage_of d.specs) _ fault (Stopped k s Is) h
      (λ b. stopped_here k s Is (inl b))
      (λ b. stopped_here k s Is (inr (inl b)))
      (λ where_static h.
      bound_err (in_scope s one) _ fault (Stopped k s Is) h
      (λ e. bound_err one _ fault (Stopped k s Is) e
      (λ e. base_stops (Up s (of_specifiers untagged d.specs)) s d.specs at (one_of d.specs s) fault
      (λ x q j. faults_one untagged ends (Up s (of_specifiers untagged d.specs)) d.specs s (length f.records) i.0 (prepared untagged ends f s p (marks_of_specifiers untagged d.specs))
      (many untagged ends f s p)
      (subst (λ b. AreSpecifiersTimely untagged ends b (length f.records) d.specs) (sym p.within.inside) t.0) (λ g w. w) x q fault j) e (Stopped k s Is)
      (λ m. stopped_here k s Is (inr (inr (inl (m.0, inl m.1)))))
      (λ b. stopped_more {k = at_specifiers d.specs} (λ s. AreBroken d.specs s fault) Is (inner_left (at_specifiers d.specs) others) (λ s b. inr (inr (inr (inl b))))
      (stopped_of untagged ends f s (λ s. AreBroken d.specs s fault) p b)))
      (λ x e h. cc))
      (λ z e h.
      let c = bound_ok one _ z e in
      let v = base_in untagged f d.specs s i.0 p.within c.0 c.1 in
      let q = in_same untagged ends f s _ _ _ _ _ v p (fresh_left [] k.made fresh) refl in
      let made = made_same static (storage_of d.specs) where_static d.all d.semicolon in
      given (λ (z : CType × Scope). some_declared at d.all (declare_all d.all z.1 static z.0) ≡ Err fault → Stopped k s Is) (c.0.0, moved s c.0.1) z c.2
      (λ h. some_stops at d.all _ fault (Stopped k s Is) h
      (λ m. stopped_here k s Is (inr (inr (inl (m.0, inr m.1)))))
      (λ h. stopped_later untagged ends f s _ _ _ _ _ v p others fresh Is (λ s. AreBrokenLocals d.all s static c.0.0 fault)
      (λ g l is b. inr (inr (inr (inr (c.0.0, is, b)))))
      (subst (λ m. Stopped (record { marks = []; said = spoken_of_declarators d.all d.semicolon; made = m }) (moved s c.0.1) (λ s. AreBrokenLocals d.all s static c.0.0 fault)) made
      (all_stops d.all (moved s c.0.1) static c.0.0 d.semicolon q i.1 t.1
      (subst (AreFresh c.0.1) (sym made) (fresh_later untagged ends f s _ _ _ _ _ v k.made fresh)) fault h)))) h))
