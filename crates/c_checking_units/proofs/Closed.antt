-- What is asked of the items of a text holds of them: they have the steps of its annotated file. So each unit is that of a file that the checker answers.
use Rattle.std.proofs.Common.{sym, subst}
use Rattle.std.specs.Prelude.{All}
use Rattle.c_tokens.specs.TokenPlaces.{TokensHavePlaces}
use Rattle.c_ast.specs.Laws.{TreesBeginFirst}
use Rattle.c_typed.specs.Programs.{UnitData}
use Rattle.c_erasure.specs.Erasing.{UnitsAreOne}
use Rattle.c_checking_laws.specs.TextOrder.TextOrder.{TextsAreInOrder}
use Rattle.c_checking_units.proofs.StepsOfFiles.{text_steps}
use Rattle.c_checking_units.proofs.OneUnit.{HaveSteps, none_refused, unit_found, units_are_one}
use Rattle.c_checking_units.proofs.TypeLimits.Files.{annotated_within}
use Rattle.c_checking_units.proofs.TypeLimits.Texts.{texts_are_short}
use Rattle.c_checking_units.proofs.TypeLimits.Whole.{arrays_small}
use Rattle.c_checking_units.specs.TypeLimits.Limits.{HasSmallArrays, UnitsHaveSmallArrays}
use Rattle.c_checking_units.specs.Units.{FaultsHaveNoUnit}

module _ (places : TokensHavePlaces) (first : TreesBeginFirst) (texts : TextsAreInOrder) where
  steps : HaveSteps
  steps bytes items g unwritten tree h w = text_steps places first texts g w bytes items unwritten tree h

  pub one_unit : UnitsAreOne
  one_unit file name bytes items u v tree h k = units_are_one places first texts steps file name bytes items u v tree h k

  pub no_unit : FaultsHaveNoUnit
  no_unit number name bytes items untagged fault u unwritten tree tags r h =
      none_refused places first texts steps number name bytes items u untagged tree unwritten tags h fault r

  pub small_arrays : UnitsHaveSmallArrays
  small_arrays file name bytes items u l tree h =
      let z = unit_found places first texts steps file name bytes items u tree h in
      subst (λ (u : UnitData). All (HasSmallArrays u.records) u.types) (sym z.3)
      (arrays_small z.1 (annotated_within file z.0 items (texts_are_short places bytes items tree l) z.1 z.2))
