-- Statements that are well typed sit.
use Rattle.std.proofs.Common.{◌≡◌, ℕ, ◌+◌, ◌*◌, ◌≤◌, Bool, true, false, List, [], ◌∷◌, ◌++◌, length, map, flat_map, Option, Some, None, refl, ap}
use Rattle.std.proofs.Common.{sym, subst, ◌∙◌, arith, slice_get}
use Rattle.std.proofs.lemmas.List.Elements.{recursion_from_All}
use Rattle.std.specs.List.{AllByRecursion as Each}
use Rattle.std.specs.Option.{option_map}
use Rattle.std.specs.Prelude.{slice_index}
use Rattle.c_types.specs.declared.ty.IntKind.{IntKind}
use Rattle.c_types.specs.IntKinds.{width}
use Rattle.c_types.specs.Layouts.{size_of}
use Rattle.c_types.specs.Types.{CType}
use Rattle.c_typed.specs.Conversions.{as_kind}
use Rattle.c_typed.specs.Mapped.{of_types, mapped, mapped_value, mapped_part, mapped_initializer, mapped_statement, mapped_statements, mapped_arms}
use Rattle.c_typed.specs.Parts.{IsPart}
use Rattle.c_typed.specs.Programs.{ProgramData}
use Rattle.c_typed.specs.References.{Reference, references, references_by_value, references_by_initializer, references_by_initial, references_if_any}
use Rattle.c_typed.specs.References.{references_by_statement, references_by_statements, references_by_arms}
use Rattle.c_typed.specs.Trees as T
use Rattle.c_typed.specs.Trees.{Expression, PartValue, Part, Initializer, Statement, Statements, Arms}
use Rattle.c_typed.specs.Typed.{Declared, IsTyped}
use Rattle.c_typed.specs.TypedStatements.{IsTypedValue, IsTypedPart, IsTypedInitializer, IsInitialized, IsCondition, IsEffect, IsReturned, all_cases}
use Rattle.c_typed.specs.TypedStatements.{IsTypedStatement, AreTyped, AreTypedArms}
use Rattle.c_typed.specs.declared.program.Local.{Local}
use Rattle.c_meaning.specs.Program.{size_at, type_at}
use Rattle.tac_ir.specs.Code.{Code}
use Rattle.compiled_files.proofs.Soundness.Sitting.{SitsIfAny, SitsValue, PartsSit, SitsInitializer, SitsInitial, SitsDeclaration, OwnSit, CasesSit}
use Rattle.compiled_files.proofs.Soundness.Sitting.{StatementSits, StatementsSit, ArmsSit}
use Rattle.c_well_typed.proofs.Sizing.{index_map}
use Rattle.compiled_files.proofs.Soundness.Typing.{Facts, IsThere, front, back, kind_small}
use Rattle.compiled_files.proofs.Soundness.Typing as Typing

-- what is known of locals, and of parts of objects
pub record LocalFacts (p : ProgramData) (locals : List Local) (d : Declared) : Type 0 where
  pub types : (x : ℕ) (l : Local) (t : CType) → slice_get locals x ≡ Some l → slice_get d.locals x ≡ Some t → type_at p l.ty ≡ t
  pub parts : (t u : CType) (at : ℕ) → IsPart d.records t at u → at + size_of p.records u ≤ size_of p.records t

module _ (p : ProgramData) (c : Code) (objects : ℕ) (Here : ℕ → Type 0) (locals : List Local) (Used : ℕ → Type 0) (d : Declared)
    (facts : Facts p c objects Here locals Used d) (known : LocalFacts p locals d) where
  -- how large a local is
  abbrev pub size : ℕ → ℕ
  size x = slice_index (map (λ l. size_at p l.ty) locals) x

  abbrev There : List Reference → Type 0
  There = Each (IsThere Used)

  sits : (e : Expression ℕ) → IsTyped d (mapped (of_types (type_at p)) e) → There (references e) → Typing.Sit p c objects Here locals Used d facts e
  sits = Typing.sits p c objects Here locals Used d facts

  if_any_sits : (e : Option (Expression ℕ)) → IsEffect d (option_map (mapped (of_types (type_at p))) e) → There (references_if_any e)
      → SitsIfAny p c objects Here locals e
  if_any_sits None i r = tt
  if_any_sits (Some e) i r = sits e i.0 r

  condition_sits : (e : Option (Expression ℕ)) → IsCondition d (option_map (mapped (of_types (type_at p))) e) → There (references_if_any e)
      → SitsIfAny p c objects Here locals e
  condition_sits None i r = tt
  condition_sits (Some e) i r = sits e i.0 r

  returned_sits : (result : CType) (e : Option (Expression ℕ)) → IsReturned d result (option_map (mapped (of_types (type_at p))) e)
      → There (references_if_any e)
      → SitsIfAny p c objects Here locals e
  returned_sits result None i r = tt
  returned_sits result (Some e) i r = sits e i.0 r

  -- ---- initializers

  -- a text fits into an array of characters
  text_within : (n m w : ℕ) → w ≡ 1 → n ≤ m → n ≤ w * m
  text_within n m w e h = subst (λ (w : ℕ). n ≤ w * m) (sym e) (omega (arith, h))

  value_sits : (x offset : ℕ) (u : CType) (v : PartValue ℕ) → offset + size_of p.records u ≤ size x → IsTypedValue d u (mapped_value (of_types (type_at p)) v)
      → There (references_by_value v) → SitsValue p c objects Here locals size x offset v
  value_sits x offset u (T.value e) h i r = (omega (arith, h), sits e i.0 r)
  value_sits x offset u (T.record_of q) h i r =
      let small = Typing.small_record p c objects Here locals Used d facts q i.0 (i.3 ∙ i.2) in
      (omega (arith, h), Typing.path_sits p c objects Here locals Used d facts q i.1 r, small)
  value_sits x offset u (T.text bytes) h i r =
      let whole : size_of p.records u ≡ width i.0 * i.1 = ap (λ (u : CType). size_of p.records u) i.2 in
      let within = text_within (length bytes) i.1 (width i.0) i.3 i.4 in
      omega (arith, h, whole, within)

  parts_sit : (x : ℕ) (t : CType) → size_of p.records t ≡ size x → (all : List (Part ℕ)) → Each (IsTypedPart d t) (map (mapped_part (of_types (type_at p))) all)
      → There (flat_map (λ part. references_by_value part.value) all) → PartsSit p c objects Here locals size x all
  parts_sit x t whole [] i r = tt
  parts_sit x t whole (one ∷ more) i r =
      let own_references = references_by_value one.value in
      let others = flat_map (λ (part : Part ℕ). references_by_value part.value) more in
      let ends = known.parts t i.0.0 one.offset i.0.1 in (
        value_sits x one.offset i.0.0 one.value (omega (arith, ends, whole)) i.0.2 (front (IsThere Used) own_references others r),
        parts_sit x t whole more i.1 (back (IsThere Used) own_references others r),
      )

  initializer_sits : (block : Bool) (x : ℕ) (t : CType) → size_of p.records t ≡ size x → (i : Initializer ℕ)
      → IsTypedInitializer d t (mapped_initializer (of_types (type_at p)) i) → There (references_by_initializer i)
      → SitsInitializer p c objects Here locals size block x i
  initializer_sits true x t whole (T.whole e) i r = (omega arith, sits e i.0 r)
  initializer_sits true x t whole (T.whole_record q) i r =
      (omega arith, Typing.path_sits p c objects Here locals Used d facts q i.1 r, Typing.small_record p c objects Here locals Used d facts q i.0 (i.3 ∙ i.2))
  initializer_sits true x t whole (T.parts all) i r =
      parts_sit x t whole all (recursion_from_All (IsTypedPart d t) (map (mapped_part (of_types (type_at p))) all) i.1) r
  initializer_sits false x t whole (T.whole e) i r = sits e i.0 r
  initializer_sits false x t whole (T.whole_record q) i r = tt
  initializer_sits false x t whole (T.parts all) i r = tt

  initial_sits : (block : Bool) (x : ℕ) (t : CType) → size_of p.records t ≡ size x → (i : Option (Initializer ℕ))
      → IsInitialized d t (option_map (mapped_initializer (of_types (type_at p))) i) → There (references_by_initial i)
      → SitsInitial p c objects Here locals size block x i
  initial_sits block x t whole None i r = tt
  initial_sits block x t whole (Some one) i r = initializer_sits block x t whole one i r

  declaration_sits : (x : ℕ) (o : Option Local) → slice_get locals x ≡ o → (t : CType) → slice_get d.locals x ≡ Some t → (i : Option (Initializer ℕ))
      → IsInitialized d t (option_map (mapped_initializer (of_types (type_at p))) i) → There (references_by_initial i)
      → SitsDeclaration p c objects Here locals size o x i
  declaration_sits x None is t e i h r = tt
  declaration_sits x (Some l) is t e i h r =
      let same = index_map (λ (l : Local). size_at p l.ty) locals x l is in
      let whole : size_of p.records t ≡ size x = ap (λ (t : CType). size_of p.records t) (sym (known.types x l t is e)) ∙ sym same in
      ((λ b. sym same), initial_sits l.block x t whole i h r)

  -- a local that is made
  made_sits : (x : ℕ) (o : Option Local) → slice_get locals x ≡ o → SitsDeclaration p c objects Here locals size o x None
  made_sits x None is = tt
  made_sits x (Some l) is = ((λ b. sym (index_map (λ (l : Local). size_at p l.ty) locals x l is)), tt)

  pub own_sits : (all : List ℕ) → OwnSit p c objects Here locals size all
  own_sits [] = tt
  own_sits (x ∷ more) = (made_sits x (slice_get locals x) refl, own_sits more)

  -- ---- statements

  cases_sit : (kind : IntKind) (cases : List ℕ) → Each (λ v. as_kind kind v ≡ v) cases → CasesSit p c objects Here locals size cases
  cases_sit kind [] e = tt
  cases_sit kind (v ∷ more) e = (kind_small kind v e.0, cases_sit kind more e.1)

  module _ (result : CType) where
    mutual
      pub statement_sits : (loop switch : Bool) (s : Statement ℕ) → IsTypedStatement d result loop switch (mapped_statement (of_types (type_at p)) s)
          → There (references_by_statement s) → StatementSits p c objects Here locals size s
      statement_sits loop switch (T.evaluate e) i r = sits e i.0 r
      statement_sits loop switch (T.block own all) i r = (own_sits own, statements_sit loop switch all i.1 r)
      statement_sits loop switch (T.declare n initial) i r = declaration_sits n (slice_get locals n) refl i.0 i.1 initial i.3 r
      statement_sits loop switch (T.when e one) i r =
          let a = references e in
          let b = references_by_statement one in
          (sits e i.0 (front (IsThere Used) a b r), statement_sits loop switch one i.2 (back (IsThere Used) a b r))
      statement_sits loop switch (T.when_else e one other) i r =
          let a = references e in
          let b = references_by_statement one in
          let k = references_by_statement other in
          let both = front (IsThere Used) (a ++ b) k r in (
            sits e i.0 (front (IsThere Used) a b both),
            statement_sits loop switch one i.2 (back (IsThere Used) a b both),
            statement_sits loop switch other i.3 (back (IsThere Used) (a ++ b) k r),
          )
      statement_sits loop switch (T.while e body) i r =
          let a = references e in
          let b = references_by_statement body in
          (sits e i.0 (front (IsThere Used) a b r), statement_sits true switch body i.2 (back (IsThere Used) a b r))
      statement_sits loop switch (T.do_while body e) i r =
          let a = references_by_statement body in
          let b = references e in
          (statement_sits true switch body i.0 (front (IsThere Used) a b r), sits e i.1 (back (IsThere Used) a b r))
      statement_sits loop switch (T.for own start test step body) i r =
          let a = references_by_statements start in
          let b = references_if_any test in
          let k = references_if_any step in
          let m = references_by_statement body in
          let three = front (IsThere Used) (a ++ b ++ k) m r in
          let two = front (IsThere Used) (a ++ b) k three in (
            own_sits own,
            statements_sit false false start i.1 (front (IsThere Used) a b two),
            condition_sits test i.2 (back (IsThere Used) a b two),
            if_any_sits step i.3 (back (IsThere Used) (a ++ b) k three),
            statement_sits true switch body i.4 (back (IsThere Used) (a ++ b ++ k) m r),
          )
      statement_sits loop switch (T.switch e own arms) i r =
          let a = references e in
          let b = references_by_arms arms in
          let k = recursion_from_All (λ v. as_kind i.3.0 v ≡ v) (all_cases (mapped_arms (of_types (type_at p)) arms)) i.3.2 in
          (sits e i.0 (front (IsThere Used) a b r), own_sits own, arms_sit loop i.3.0 arms i.6 k (back (IsThere Used) a b r))
      statement_sits loop switch T.break i r = tt
      statement_sits loop switch T.continue i r = tt
      statement_sits loop switch (T.return e) i r = returned_sits result e i r

      pub statements_sit : (loop switch : Bool) (all : Statements ℕ) → AreTyped d result loop switch (mapped_statements (of_types (type_at p)) all)
          → There (references_by_statements all) → StatementsSit p c objects Here locals size all
      statements_sit loop switch T.no_statements i r = tt
      statements_sit loop switch (T.and_statement s more) i r = (
        statement_sits loop switch s i.0 (front (IsThere Used) (references_by_statement s) (references_by_statements more) r),
        statements_sit loop switch more i.1 (back (IsThere Used) (references_by_statement s) (references_by_statements more) r),
      )

      pub arms_sit : (loop : Bool) (kind : IntKind) (arms : Arms ℕ) → AreTypedArms d result loop (mapped_arms (of_types (type_at p)) arms)
          → Each (λ v. as_kind kind v ≡ v) (all_cases (mapped_arms (of_types (type_at p)) arms)) → There (references_by_arms arms)
          → ArmsSit p c objects Here locals size arms
      arms_sit loop kind T.no_arms i e r = tt
      arms_sit loop kind (T.and_arm cases is_default all more) i e r =
          let a = references_by_statements all in
          let b = references_by_arms more in
          let others = all_cases (mapped_arms (of_types (type_at p)) more) in (
            cases_sit kind cases (front (λ v. as_kind kind v ≡ v) cases others e),
            statements_sit loop true all i.0 (front (IsThere Used) a b r),
            arms_sit loop kind more i.1 (back (λ v. as_kind kind v ≡ v) cases others e) (back (IsThere Used) a b r),
          )
