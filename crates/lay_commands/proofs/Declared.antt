-- What is declared to `clap`.
use Rattle.std.proofs.Common.{◌≡◌, ◌&&◌, Bool, true, false, not, refl}
use Rattle.clap.specs.Simple.{app_of}
use Rattle.clap.specs.declared.builder.command.Command.{Command}
use Rattle.clap.specs.declared.builder.command.Command.TheViews.{out-Command}

first_holds : (a b : Bool) → (a && b) ≡ true → a ≡ true
first_holds true b both = refl
first_holds false b both = both

rest_holds : (a b : Bool) → (a && b) ≡ true → b ≡ true
rest_holds true b both = both
rest_holds false b both = cc

is_false : (a : Bool) → not a ≡ true → a ≡ false
is_false true holds = cc
is_false false holds = refl

-- a command that is plain has no global argument
pub no_globals : (c : Command) → (app_of c).top.is_plain ≡ true → (out-Command c).has_globals ≡ false
no_globals c plain = is_false _ (first_holds _ _ (rest_holds _ _ (rest_holds _ _ plain)))
