-- Records are known where a statement of a function asks for them, and its declarators have names (C99 6.8).
use Rattle.std.proofs.Common.{ℕ, List}
use Rattle.c_ast.specs.Trees
use Rattle.c_erasure.specs.Scopes.{FileScope}
use Rattle.c_checking_units.proofs.FirstStops.DeclarationStops.{IsDeclarationTimely}
use Rattle.c_checking_units.proofs.FirstStops.LabelStops.{AreLabelsTimely}
use Rattle.c_checking_units.proofs.FirstStops.ValueStops.{IsTimelyThere, IsTimelyIfAny}

module _ (untagged : ℕ → List ℕ) (ends : List ℕ) (f : FileScope) where
  abbrev pub IsStartTimely : Trees.ForStart → Type 0
  IsStartTimely (Trees.starts_with a semicolon) = IsTimelyIfAny untagged ends f a
  IsStartTimely (Trees.declares d) = IsDeclarationTimely untagged ends f d

  abbrev mutual
    pub IsStatementTimely : Trees.Statement → Type 0
    IsStatementTimely (Trees.block left items right) = AreItemsTimely items
    IsStatementTimely (Trees.evaluate a semicolon) = IsTimelyIfAny untagged ends f a
    IsStatementTimely (Trees.when at left a right one) = IsTimelyThere untagged ends f a × IsStatementTimely one
    IsStatementTimely (Trees.choose at left a right one middle other) = IsTimelyThere untagged ends f a × IsStatementTimely one × IsStatementTimely other
    IsStatementTimely (Trees.while at left a right body) = IsTimelyThere untagged ends f a × IsStatementTimely body
    IsStatementTimely (Trees.do_while at body while left a right semicolon) = IsTimelyThere untagged ends f a × IsStatementTimely body
    IsStatementTimely (Trees.for at left start test semicolon step right body) = IsStartTimely start × IsTimelyIfAny untagged ends f test
        × IsTimelyIfAny untagged ends f step × IsStatementTimely body
    IsStatementTimely (Trees.switch at left a right begin items end) = IsTimelyThere untagged ends f a × AreSwitchItemsTimely items
    IsStatementTimely (Trees.break at semicolon) = Unit {0}
    IsStatementTimely (Trees.continue at semicolon) = Unit {0}
    IsStatementTimely (Trees.return at a semicolon) = IsTimelyIfAny untagged ends f a

    pub IsItemTimely : Trees.BlockItem → Type 0
    IsItemTimely (Trees.local d) = IsDeclarationTimely untagged ends f d
    IsItemTimely (Trees.statement a) = IsStatementTimely a

    pub AreItemsTimely : Trees.BlockItems → Type 0
    AreItemsTimely Trees.no_block_items = Unit {0}
    AreItemsTimely (Trees.and_block_item e more) = IsItemTimely e × AreItemsTimely more

    pub IsSwitchItemTimely : Trees.SwitchItem → Type 0
    IsSwitchItemTimely (Trees.local_switch_item d) = IsDeclarationTimely untagged ends f d
    IsSwitchItemTimely (Trees.labelled labels a) = AreLabelsTimely untagged ends f labels × IsStatementTimely a

    pub AreSwitchItemsTimely : Trees.SwitchItems → Type 0
    AreSwitchItemsTimely Trees.no_switch_items = Unit {0}
    AreSwitchItemsTimely (Trees.and_switch_item item more) = IsSwitchItemTimely item × AreSwitchItemsTimely more
