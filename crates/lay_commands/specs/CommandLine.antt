-- The command line as it is declared to the crate `clap`, and what that crate makes of the words for it.
use Rattle.std.specs.Prelude.{true, List, Option, Some, None, codes, if◌then◌else◌}
use Rattle.clap.specs.Lexer.{usize_max}
use Rattle.clap.specs.Walk.{Text, Rule, Row, is_empty}
use Rattle.clap.specs.Simple.{App, Shape, new_rule, new_app, on_top, with_rule, with_subcommand, subcommand_of}
use Rattle.clap.specs.Faults.{fault_of}
use Rattle.clap.specs.declared.builder.action.ArgAction.TheVariants.{SetTrue}

-- ---- the arguments, each under the name by which it is read back

-- -o NAME
abbrev pub out_option : Rule
out_option = record (new_rule (codes "OUT")) { short = Some 111; required = true }

-- --plain
abbrev pub plain_flag : Rule
plain_flag = record (new_rule (codes "plain")) { long = Some (codes "plain"); action = Some SetTrue }

-- --NAME VALUE
abbrev pub long_option : Text → Rule
long_option name = record (new_rule name) { long = Some name }

-- FILE...
abbrev pub files_argument : Rule
files_argument = record (new_rule (codes "FILE")) { range = Some (record { start_inclusive = 1; end_inclusive = usize_max }); required = true }

-- ELF
abbrev pub elf_argument : Rule
elf_argument = record (new_rule (codes "ELF")) { required = true }

-- ---- the commands

-- compile -o OUT [--profile P] [--plain] [--heap MIB] [--stack MIB] FILE...
abbrev pub compile_command : App
compile_command =
    with_rule (with_rule (with_rule (with_rule (with_rule (with_rule (new_app (codes "compile"))
    out_option) (long_option (codes "profile"))) plain_flag) (long_option (codes "heap"))) (long_option (codes "stack"))) files_argument

-- profile -o P [--turns N] FILE...
abbrev pub profile_command : App
profile_command = with_rule (with_rule (with_rule (new_app (codes "profile")) out_option) (long_option (codes "turns"))) files_argument

-- interp [--turns N] FILE...
abbrev pub interp_command : App
interp_command = with_rule (with_rule (new_app (codes "interp")) (long_option (codes "turns"))) files_argument

-- run [--steps N] ELF
abbrev pub run_command : App
run_command = with_rule (with_rule (new_app (codes "run")) (long_option (codes "steps"))) elf_argument

-- The words after the program's own name begin with a command. There is no help and no version to be asked for.
abbrev pub with_settings : Shape → Shape
with_settings top = record top {
  no_binary_name = true;
  disable_help_flag = true;
  disable_help_subcommand = true;
  disable_version_flag = true;
  subcommand_required = true;
}

abbrev pub no_command : App
no_command = on_top with_settings (new_app (codes "layc"))

abbrev pub command_line : App
command_line =
    with_subcommand (with_subcommand (with_subcommand (with_subcommand no_command compile_command.top) profile_command.top) interp_command.top) run_command.top

-- the command that the words name, with what is found for its arguments; none where the words are refused
abbrev pub matches_in : List Text → Option (Text × List Row)
matches_in words = if is_empty (fault_of command_line words) then subcommand_of command_line words else None
