-- Well typed statements and initializers: the rule of each (C99 6.7.8, 6.8).
use Rattle.std.specs.Prelude.{◌≡◌, ◌≢◌, ℕ, ◌+◌, ◌≤◌, ◌<◌, Bool, true, false, ◌||◌, List, [], ◌∷◌, ◌++◌, length, All, Option, Some, None, slice_get}
use Rattle.c_types.specs.declared.ty.IntKind.{IntKind}
use Rattle.c_types.specs.Types.{CType, void, integer, array, structure}
use Rattle.c_types.specs.Objects.{is_object}
use Rattle.c_types.specs.Layouts.{size_of}
use Rattle.c_typed.specs.Trees as Trees
use Rattle.c_typed.specs.Trees.{Expression, Path, PartValue, Part, Initializer, Statement, Statements, Arms}
use Rattle.c_typed.specs.Conversions.{is_scalar, as_kind}
use Rattle.c_typed.specs.Constants.{ty}
use Rattle.c_typed.specs.Rules.{promoting}
use Rattle.c_typed.specs.Typed.{Declared, path_ty, is_bare, bare_ty, IsTested, IsConverted, IsTyped, IsTypedPath}
use Rattle.c_typed.specs.Parts.{IsPart}

-- ---- locals and labels

-- the locals that some statements declare themselves, and no block within them
abbrev pub declared_by : {T : Type 0} → Statements T → List ℕ
declared_by Trees.no_statements = []
declared_by (Trees.and_statement (Trees.declare n initial) more) = n ∷ declared_by more
declared_by (Trees.and_statement s more) = declared_by more

abbrev pub declared_by_arms : {T : Type 0} → Arms T → List ℕ
declared_by_arms Trees.no_arms = []
declared_by_arms (Trees.and_arm cases is_default all more) = declared_by all ++ declared_by_arms more

-- all locals that are declared, in the order of the text
abbrev mutual
  pub all_declared : {T : Type 0} → Statement T → List ℕ
  all_declared (Trees.evaluate e) = []
  all_declared (Trees.block locals all) = all_declared_by all
  all_declared (Trees.declare n initial) = n ∷ []
  all_declared (Trees.when e one) = all_declared one
  all_declared (Trees.when_else e one other) = all_declared one ++ all_declared other
  all_declared (Trees.while e body) = all_declared body
  all_declared (Trees.do_while body e) = all_declared body
  all_declared (Trees.for locals start test step body) = all_declared_by start ++ all_declared body
  all_declared (Trees.switch e locals arms) = all_declared_by_arms arms
  all_declared Trees.break = []
  all_declared Trees.continue = []
  all_declared (Trees.return e) = []

  pub all_declared_by : {T : Type 0} → Statements T → List ℕ
  all_declared_by Trees.no_statements = []
  all_declared_by (Trees.and_statement s more) = all_declared s ++ all_declared_by more

  pub all_declared_by_arms : {T : Type 0} → Arms T → List ℕ
  all_declared_by_arms Trees.no_arms = []
  all_declared_by_arms (Trees.and_arm cases is_default all more) = all_declared_by all ++ all_declared_by_arms more

abbrev pub all_cases : {T : Type 0} → Arms T → List ℕ
all_cases Trees.no_arms = []
all_cases (Trees.and_arm cases is_default all more) = cases ++ all_cases more

abbrev pub one_if : Bool → ℕ
one_if true = 1
one_if false = 0

abbrev pub defaults : {T : Type 0} → Arms T → ℕ
defaults Trees.no_arms = 0
defaults (Trees.and_arm cases is_default all more) = one_if is_default + defaults more

abbrev pub IsAbsent : ℕ → List ℕ → Type 0
IsAbsent n [] = Unit {0}
IsAbsent n (m ∷ more) = (n ≢ m) × IsAbsent n more

abbrev pub AreDifferent : List ℕ → Type 0
AreDifferent [] = Unit {0}
AreDifferent (n ∷ more) = IsAbsent n more × AreDifferent more

module _ (d : Declared) where
  -- ---- initializers (6.7.8)

  abbrev pub IsTypedValue : CType → PartValue CType → Type 0
  IsTypedValue t (Trees.value e) = IsTyped d e × (is_scalar t ≡ true) × IsConverted e t
  IsTypedValue t (Trees.record_of p) = (r : ℕ) × IsTypedPath d p × (t ≡ structure r) × (path_ty p ≡ t)
  IsTypedValue t (Trees.text bytes) = (kind : IntKind) × (n : ℕ) × (t ≡ array (integer kind) n) × (size_of d.records (integer kind) ≡ 1) × (length bytes ≤ n)

  -- the type of a part's value is that of a part of the object
  abbrev pub IsTypedPart : CType → Part CType → Type 0
  IsTypedPart t part = (u : CType) × IsPart d.records t part.offset u × IsTypedValue u part.value

  -- parts follow one another
  abbrev pub AreRising : List (Part CType) → Type 0
  AreRising [] = Unit {0}
  AreRising (part ∷ more) = All (λ next. part.offset < next.offset) more × AreRising more

  abbrev pub IsTypedInitializer : CType → Initializer CType → Type 0
  IsTypedInitializer t (Trees.whole e) = IsTypedValue t (Trees.value e)
  IsTypedInitializer t (Trees.whole_record p) = IsTypedValue t (Trees.record_of p)
  IsTypedInitializer t (Trees.parts all) = (is_scalar t ≡ false) × All (IsTypedPart t) all × AreRising all

  abbrev pub IsInitialized : CType → Option (Initializer CType) → Type 0
  IsInitialized t None = Unit {0}
  IsInitialized t (Some initial) = IsTypedInitializer t initial

  -- ---- statements

  -- a controlling expression (6.8.4.1, 6.8.5), or none
  abbrev pub IsCondition : Option (Expression CType) → Type 0
  IsCondition None = Unit {0}
  IsCondition (Some e) = IsTyped d e × IsTested e

  -- an expression for its effects, or none
  abbrev pub IsEffect : Option (Expression CType) → Type 0
  IsEffect None = Unit {0}
  IsEffect (Some e) = IsTyped d e × (is_bare e ≡ true)

  -- the case values are those of an integer type (6.8.4.2)
  abbrev pub AreCases : CType → List ℕ → Type 0
  AreCases t cases = (kind : IntKind) × (t ≡ integer kind) × All (λ v. as_kind kind v ≡ v) cases

  -- a value where the function gives one, and none where it does not (6.8.6.4)
  abbrev pub IsReturned : (result : CType) → Option (Expression CType) → Type 0
  IsReturned result None = result ≡ void
  IsReturned result (Some e) = IsTyped d e × IsConverted e result

  -- where `break` may stand: in a loop or a switch; and `continue`: in a loop (6.8.6.2, 6.8.6.3)
  module _ (result : CType) where
    abbrev mutual
      pub IsTypedStatement : (loop switch : Bool) → Statement CType → Type 0
      IsTypedStatement loop switch (Trees.evaluate e) = IsTyped d e × (is_bare e ≡ true)
      IsTypedStatement loop switch (Trees.block locals all) = (locals ≡ declared_by all) × AreTyped loop switch all
      IsTypedStatement loop switch (Trees.declare n initial) = (t : CType) × (slice_get d.locals n ≡ Some t)
          × (is_object (length d.records) t ≡ true) × IsInitialized t initial
      IsTypedStatement loop switch (Trees.when e one) = IsTyped d e × IsTested e × IsTypedStatement loop switch one
      IsTypedStatement loop switch (Trees.when_else e one other) = IsTyped d e × IsTested e × IsTypedStatement loop switch one
          × IsTypedStatement loop switch other
      IsTypedStatement loop switch (Trees.while e body) = IsTyped d e × IsTested e × IsTypedStatement true switch body
      IsTypedStatement loop switch (Trees.do_while body e) = IsTypedStatement true switch body × IsTyped d e × IsTested e
      IsTypedStatement loop switch (Trees.for locals start test step body) = (locals ≡ declared_by start) × AreTyped false false start
          × IsCondition test × IsEffect step × IsTypedStatement true switch body
      IsTypedStatement loop switch (Trees.switch e locals arms) = IsTyped d e × (promoting (bare_ty e) ≡ Some (ty e)) × (locals ≡ declared_by_arms arms)
          × AreCases (ty e) (all_cases arms) × AreDifferent (all_cases arms) × (defaults arms ≤ 1) × AreTypedArms loop arms
      IsTypedStatement loop switch Trees.break = loop || switch ≡ true
      IsTypedStatement loop switch Trees.continue = loop ≡ true
      IsTypedStatement loop switch (Trees.return e) = IsReturned result e

      pub AreTyped : (loop switch : Bool) → Statements CType → Type 0
      AreTyped loop switch Trees.no_statements = Unit {0}
      AreTyped loop switch (Trees.and_statement s more) = IsTypedStatement loop switch s × AreTyped loop switch more

      pub AreTypedArms : (loop : Bool) → Arms CType → Type 0
      AreTypedArms loop Trees.no_arms = Unit {0}
      AreTypedArms loop (Trees.and_arm cases is_default all more) = AreTyped loop true all × AreTypedArms loop more
