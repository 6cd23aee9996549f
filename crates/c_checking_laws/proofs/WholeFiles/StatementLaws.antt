-- What is found for statements stands for them and is well typed, in each later file and with each longer list of locals (C99 6.8).
use Rattle.std.proofs.Common.{◌≡◌, ◌≢◌, ℕ, zero, suc, ◌+◌, ◌≤◌, Bool, true, false, refl, sym, ap, subst, List, [], ◌∷◌, ◌++◌}
use Rattle.std.proofs.Common.{arith}
use Rattle.std.proofs.lemmas.List.Elements.{All-append}
use Rattle.std.specs.Prelude.{All, Option, Some, None, Ok, ◌==◌}
use Rattle.c_types.specs.declared.ty.IntKind.{IntKind}
use Rattle.c_types.specs.Types.{CType, void, integer, pointer, array, function, structure}
use Rattle.c_ast.specs.Trees
use Rattle.c_typed.specs.Trees as Typed
use Rattle.c_typed.specs.Conversions.{as_kind}
use Rattle.c_typed.specs.Fits.{is_void}
use Rattle.c_typed.specs.Mapped.{of_types, mapped_statement, mapped_arms}
use Rattle.c_typed.specs.Typed.{Declared}
use Rattle.c_typed.specs.TypedStatements.{declared_by, declared_by_arms, all_declared_by, all_declared_by_arms, all_cases, one_if, defaults}
use Rattle.c_typed.specs.TypedStatements.{AreTyped, AreTypedArms}
use Rattle.c_erasure.specs.BrokenStatements.{Labels}
use Rattle.c_erasure.specs.Specifiers.{Storage, no_storage, a_typedef, is_extern, is_static, is_auto, is_register, several}
use Rattle.c_erasure.specs.Statements.{Statement, Statements, Arms, with_first, IsArranged}
use Rattle.c_erasure.specs.Checking.Answers.{Answer}
use Rattle.c_erasure.specs.Checking.Statements.{unless_static}
use Rattle.c_erasure.specs.Checking.Statements.{arranged, jump, returned_nothing, unless_void}
use Rattle.c_checking_laws.proofs.Results.{given, only_if, chosen}
use Rattle.c_checking_laws.proofs.InRange.{IsInRange}
use Rattle.c_checking_laws.proofs.WholeFiles.Declarations.{IsDeclarationInRange, typed_statements}
use Rattle.c_checking_laws.proofs.WholeFiles.Labels.{AreFresh, fresh_then, AreCounted, AreLabelsInRange}

-- ---- literals in range

abbrev pub IsInRangeIfAny : Option Trees.Expression → Type 0
IsInRangeIfAny None = Unit {0}
IsInRangeIfAny (Some a) = IsInRange a

abbrev pub IsStartInRange : (ends : List ℕ) → ℕ → Trees.ForStart → Type 0
IsStartInRange ends n (Trees.starts_with a semicolon) = IsInRangeIfAny a
IsStartInRange ends n (Trees.declares d) = IsDeclarationInRange ends n d

abbrev mutual
  pub IsStatementInRange : (ends : List ℕ) → ℕ → Trees.Statement → Type 0
  IsStatementInRange ends n (Trees.block left items right) = AreItemsInRange ends n items
  IsStatementInRange ends n (Trees.evaluate a semicolon) = IsInRangeIfAny a
  IsStatementInRange ends n (Trees.when at left a right one) = IsInRange a × IsStatementInRange ends n one
  IsStatementInRange ends n (Trees.choose at left a right one middle other) = IsInRange a × IsStatementInRange ends n one × IsStatementInRange ends n other
  IsStatementInRange ends n (Trees.while at left a right body) = IsInRange a × IsStatementInRange ends n body
  IsStatementInRange ends n (Trees.do_while at body while left a right semicolon) = IsInRange a × IsStatementInRange ends n body
  IsStatementInRange ends n (Trees.for at left start test semicolon step right body) =
      IsStartInRange ends n start × IsInRangeIfAny test × IsInRangeIfAny step × IsStatementInRange ends n body
  IsStatementInRange ends n (Trees.switch at left a right begin items end) = IsInRange a × AreSwitchItemsInRange ends n items
  IsStatementInRange ends n (Trees.break at semicolon) = Unit {0}
  IsStatementInRange ends n (Trees.continue at semicolon) = Unit {0}
  IsStatementInRange ends n (Trees.return at a semicolon) = IsInRangeIfAny a

  pub IsItemInRange : (ends : List ℕ) → ℕ → Trees.BlockItem → Type 0
  IsItemInRange ends n (Trees.local d) = IsDeclarationInRange ends n d
  IsItemInRange ends n (Trees.statement a) = IsStatementInRange ends n a

  pub AreItemsInRange : (ends : List ℕ) → ℕ → Trees.BlockItems → Type 0
  AreItemsInRange ends n Trees.no_block_items = Unit {0}
  AreItemsInRange ends n (Trees.and_block_item e more) = IsItemInRange ends n e × AreItemsInRange ends n more

  pub IsSwitchItemInRange : (ends : List ℕ) → ℕ → Trees.SwitchItem → Type 0
  IsSwitchItemInRange ends n (Trees.local_switch_item d) = IsDeclarationInRange ends n d
  IsSwitchItemInRange ends n (Trees.labelled labels a) = AreLabelsInRange labels × IsStatementInRange ends n a

  pub AreSwitchItemsInRange : (ends : List ℕ) → ℕ → Trees.SwitchItems → Type 0
  AreSwitchItemsInRange ends n Trees.no_switch_items = Unit {0}
  AreSwitchItemsInRange ends n (Trees.and_switch_item item more) = IsSwitchItemInRange ends n item × AreSwitchItemsInRange ends n more

-- ---- locals and labels stay in the tree without notes

abbrev pub typed_statement : Statement → Typed.Statement CType
typed_statement st = mapped_statement (of_types (λ t. t.ty)) st

abbrev pub typed_arms : Arms → Typed.Arms CType
typed_arms arms = mapped_arms (of_types (λ t. t.ty)) arms

pub declared_typed : (all : Statements) → declared_by all ≡ declared_by (typed_statements all)
declared_typed Typed.no_statements = refl
declared_typed (Typed.and_statement (Typed.declare n initial) more) = ap (λ z. n ∷ z) (declared_typed more)
declared_typed (Typed.and_statement (Typed.evaluate e) more) = declared_typed more
declared_typed (Typed.and_statement (Typed.block locals all) more) = declared_typed more
declared_typed (Typed.and_statement (Typed.when e one) more) = declared_typed more
declared_typed (Typed.and_statement (Typed.when_else e one other) more) = declared_typed more
declared_typed (Typed.and_statement (Typed.while e body) more) = declared_typed more
declared_typed (Typed.and_statement (Typed.do_while body e) more) = declared_typed more
declared_typed (Typed.and_statement (Typed.for locals start test step body) more) = declared_typed more
declared_typed (Typed.and_statement (Typed.switch e locals arms) more) = declared_typed more
declared_typed (Typed.and_statement Typed.break more) = declared_typed more
declared_typed (Typed.and_statement Typed.continue more) = declared_typed more
declared_typed (Typed.and_statement (Typed.return e) more) = declared_typed more

pub declared_typed_arms : (arms : Arms) → declared_by_arms arms ≡ declared_by_arms (typed_arms arms)
declared_typed_arms Typed.no_arms = refl
declared_typed_arms (Typed.and_arm cases is_default all more) = rw (declared_typed all, declared_typed_arms more) refl

pub cases_typed : (arms : Arms) → all_cases arms ≡ all_cases (typed_arms arms)
cases_typed Typed.no_arms = refl
cases_typed (Typed.and_arm cases is_default all more) = ap (λ z. cases ++ z) (cases_typed more)

pub defaults_typed : (arms : Arms) → defaults arms ≡ defaults (typed_arms arms)
defaults_typed Typed.no_arms = refl
defaults_typed (Typed.and_arm cases is_default all more) = ap (λ z. one_if is_default + z) (defaults_typed more)

-- ---- arms

pub arranged_cases : (cases : List ℕ) (n : ℕ) (own : Statements) (later : Arms) → all_cases (arranged cases n own later).1 ≡ cases ++ all_cases later
arranged_cases [] zero own later = refl
arranged_cases [] (suc n) own later = refl
arranged_cases (v ∷ cases) n own later = refl

pub one_if_one : (n : ℕ) → one_if (n == 1) ≤ n
one_if_one zero = omega arith
one_if_one (suc n) = at_most (suc n == 1)
  where
    at_most : (b : Bool) → one_if b ≤ suc n
    at_most true = omega arith
    at_most false = omega arith

pub arranged_defaults : (cases : List ℕ) (n : ℕ) (own : Statements) (later : Arms) → defaults (arranged cases n own later).1 ≤ n + defaults later
arranged_defaults [] zero own later = omega arith
arranged_defaults [] (suc n) own later = let o = one_if_one (suc n) in omega (arith, o)
arranged_defaults (v ∷ cases) n own later = let o = one_if_one n in omega (arith, o)

pub arranged_is : (cases : List ℕ) (n : ℕ) (own : Statements) (later : Arms) → n ≤ 1
    → IsArranged cases n own later (arranged cases n own later).0 (arranged cases n own later).1
arranged_is [] zero own later h = (refl, refl)
arranged_is [] (suc n) own later h = (refl, h, refl)
arranged_is (v ∷ cases) n own later h = (refl, h, refl)

pub arranged_declared : (cases : List ℕ) (n : ℕ) (own : Statements) (later : Arms)
    → all_declared_by own ++ all_declared_by_arms later
    ≡ all_declared_by (arranged cases n own later).0 ++ all_declared_by_arms (arranged cases n own later).1
arranged_declared [] zero own later = refl
arranged_declared [] (suc n) own later = refl
arranged_declared (v ∷ cases) n own later = refl

pub arranged_typed : (d : Declared) (result : CType) (loop : Bool) (cases : List ℕ) (n : ℕ) (own : Statements) (later : Arms)
    → AreTyped d result loop true (typed_statements own) → AreTypedArms d result loop (typed_arms later)
    → AreTyped d result loop true (typed_statements (arranged cases n own later).0) × AreTypedArms d result loop (typed_arms (arranged cases n own later).1)
arranged_typed d result loop [] zero own later p q = (p, q)
arranged_typed d result loop [] (suc n) own later p q = (tt, (p, q))
arranged_typed d result loop (v ∷ cases) n own later p q = (tt, (p, q))

pub first_cases : (own : Statements) (arms : Arms) → all_cases (with_first own arms) ≡ all_cases arms
first_cases Typed.no_statements arms = refl
first_cases (Typed.and_statement s more) arms = refl

pub first_defaults : (own : Statements) (arms : Arms) → defaults (with_first own arms) ≡ defaults arms
first_defaults Typed.no_statements arms = refl
first_defaults (Typed.and_statement s more) arms = omega arith

pub first_declared : (own : Statements) (arms : Arms) → all_declared_by own ++ all_declared_by_arms arms ≡ all_declared_by_arms (with_first own arms)
first_declared Typed.no_statements arms = refl
first_declared (Typed.and_statement s more) arms = refl

pub first_typed : (d : Declared) (result : CType) (loop : Bool) (own : Statements) (arms : Arms) → AreTyped d result loop true (typed_statements own)
    → AreTypedArms d result loop (typed_arms arms) → AreTypedArms d result loop (typed_arms (with_first own arms))
first_typed d result loop Typed.no_statements arms p q = q
first_typed d result loop (Typed.and_statement s more) arms p q = (p, q)

-- the labels of arms, after those before
pub record AreArmsCounted (kind : IntKind) (before : Labels) (arms : Arms) : Type 0 where
  pub fresh : AreFresh before.cases (all_cases arms)
  pub values : All (λ v. as_kind kind v ≡ v) (all_cases arms)
  pub bounded : before.defaults + defaults arms ≤ 1

pub arms_counted : (kind : IntKind) (before all : Labels) (cases : List ℕ) (n : ℕ) (own : Statements) (later : Arms) → AreCounted kind before cases n all
    → AreArmsCounted kind all later → AreArmsCounted kind before (arranged cases n own later).1
arms_counted kind before all cases n own later p q =
    let e = sym (arranged_cases cases n own later) in
    record {
      fresh = subst (AreFresh before.cases) e
          (fresh_then before.cases cases (all_cases later) p.fresh (subst (λ all. AreFresh all (all_cases later)) p.pushed_are q.fresh));
      values = subst (All (λ v. as_kind kind v ≡ v)) e (All-append (λ v. as_kind kind v ≡ v) cases (all_cases later) p.values q.values);
      bounded = let d = arranged_defaults cases n own later in let c = p.counted in let b = q.bounded in omega (arith, d, c, b);
    }

-- ---- jumps

pub jump_is : (at : ℕ) (may : Bool) (st z : Statement) → jump at may st ≡ Ok z → (may ≡ true) × (st ≡ z)
jump_is at may st z h = let b = only_if may _ _ _ z h in (b.0, given (λ z. st ≡ z) st z b.1 refl)

pub nothing_is : (at : ℕ) (t : CType) (z : Statement) → returned_nothing at t ≡ Ok z → (t ≡ void) × (Typed.return None ≡ z)
nothing_is at t z h = let b = only_if (is_void t) _ _ _ z h in (void_is t b.0, given (λ z. Typed.return None ≡ z) (Typed.return None) z b.1 refl)
  where
    void_is : (t : CType) → is_void t ≡ true → t ≡ void
    void_is void h = refl
    void_is (integer kind) h = cc
    void_is (pointer u) h = cc
    void_is (array u n) h = cc
    void_is (function u all) h = cc
    void_is (structure r) h = cc

pub not_static : {A : Type 0} (at : ℕ) (words : Storage) (r : Answer A) (z : A) → unless_static at words r ≡ Ok z → (words ≢ is_static) × (r ≡ Ok z)
not_static at is_static r z h = cc
not_static at no_storage r z h = (λ e. cc, h)
not_static at a_typedef r z h = (λ e. cc, h)
not_static at is_extern r z h = (λ e. cc, h)
not_static at is_auto r z h = (λ e. cc, h)
not_static at is_register r z h = (λ e. cc, h)
not_static at several r z h = (λ e. cc, h)

pub not_void : {A : Type 0} (at : ℕ) (t : CType) (r : Answer A) (z : A) → unless_void at t r ≡ Ok z → r ≡ Ok z
not_void at t r z h = chosen (is_void t) _ _ z (r ≡ Ok z) h (λ b h. cc) (λ b h. h)
