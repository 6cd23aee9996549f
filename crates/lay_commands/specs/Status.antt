-- The exit status of a command.
use Rattle.std.specs.Prelude.{ℕ}
use Rattle.refusals.specs.Table.{status}
use Rattle.lay_commands.specs.declared.outcome.Outcome.{Outcome}
use Rattle.lay_commands.specs.declared.outcome.Outcome.TheVariants.{Program, Done, Refused}

abbrev pub exit_status : Outcome → ℕ
exit_status (Program own) = own
exit_status Done = 0
exit_status (Refused refusal) = status refusal
