use Rattle.std.proofs.Common.{◌≡◌, ◌∙◌, ap, ap₂}
use Rattle.std.proofs.lemmas.Result.{IfOk-weaker}
use Rattle.clap.specs.Simple.{App, app_of, on_top, with_subcommand}
use Rattle.lay_commands.specs.CommandLine.{no_command, with_settings}
use Rattle.lay_commands.proofs.Declared.{no_globals}
use Rattle.lay_commands.proofs.command_line.command_line.Goals as goal

pub returns : goal.returns
returns c =
    let top : app_of c.subcommand_required.result ≡ no_command =
    rw (c.subcommand_required.ensures, c.disable_version_flag.ensures, c.disable_help_subcommand.ensures, c.disable_help_flag.ensures, c.no_binary_name.ensures)
    (ap (on_top with_settings) c.new.ensures.app) in
    let compile = c.in_ok-compile_command.ensures in
    let profile = c.in_ok-profile_command.ensures in
    let interp = c.in_ok-interp_command.ensures in
    let run = c.in_ok-run_command.ensures in
    let with_compile = c.in_ok-subcommand.ensures.shape (no_globals _ (ap (λ (a : App). a.top.is_plain) compile))
    ∙ ap₂ with_subcommand top (ap (λ (a : App). a.top) compile) in
    let with_profile = c.in_ok-subcommand-2.ensures.shape (no_globals _ (ap (λ (a : App). a.top.is_plain) profile))
    ∙ ap₂ with_subcommand with_compile (ap (λ (a : App). a.top) profile) in
    let with_interp = c.in_ok-subcommand-3.ensures.shape (no_globals _ (ap (λ (a : App). a.top.is_plain) interp))
    ∙ ap₂ with_subcommand with_profile (ap (λ (a : App). a.top) interp) in
    IfOk-weaker c.subcommand-4.result _ _ (λ command adds. adds.shape (no_globals _ (ap (λ (a : App). a.top.is_plain) run))
    ∙ ap₂ with_subcommand with_interp (ap (λ (a : App). a.top) run)) c.subcommand-4.ensures
