use Rattle.std.proofs.Common.{refl, inl}
use Rattle.std.specs.Prelude.{option_map}
use Rattle.std.proofs.lemmas.Result.{err_from_is_err_and}
use Rattle.c_typed.specs.Programs.{program_data}
use Rattle.lay_compile.proofs.ProgramFiles.FilesRead.{keep_twice}
use Rattle.lay_compile.proofs.ProgramFiles.Sources.{are_files, files_refused}
use Rattle.lay_commands.specs.Words.{compilation_of}
use Rattle.lay_commands.proofs.Given.{profile_unread, counts_refused, profile_of}
use Rattle.lay_commands.proofs.inputs.inputs_in.Goals as goal

pub returns-in_err-profile-clause-gives : goal.returns-in_err-profile-clause-gives
returns-in_err-profile-clause-gives g c input out =
    let is_err = err_from_is_err_and c.from_residual-in_err-profile.result c.from_residual-in_err-profile.ensures.1 in
    let files = g.H.Host.files in
    let reads = g.H.Host.failed_reads in
    let writes = g.H.Host.failed_writes in
    let was = c.args.host.now in
    let are = are_files (files was) c.args.request.now.files.now c.in_ok-files.files c.in_ok-check_number.ensures c.in_ok-files.ensures.gives.0
    c.in_ok-files.ensures.gives.1 in
    let first = c.read_files.ensures.files in
    let both = keep_twice (files was) (files c.read_files.new.host) (files c.profile_bytes.new.host) first c.profile_bytes.ensures.files in
    rw (is_err.1, is_err.2)
    (profile_unread (compilation_of c.args.request.now) (files was) (files c.read_files.new.host) (files c.profile_bytes.new.host) (reads was)
    (reads c.read_files.new.host) (reads c.profile_bytes.new.host) (writes was) (writes c.profile_bytes.new.host) input out c.in_ok-files.files are first both
    c.in_ok-files.ensures.reads (option_map (λ name. name.now) c.args.request.now.profile) refl c.in_err-profile.field-0.0 c.in_err-profile.ensures.gives)

pub returns-in_err-source-clause-gives : goal.returns-in_err-source-clause-gives
returns-in_err-source-clause-gives g c input out =
    let is_err = err_from_is_err_and c.from_residual-in_err-source.result c.from_residual-in_err-source.ensures.1 in
    let files = g.H.Host.files in
    let reads = g.H.Host.failed_reads in
    let writes = g.H.Host.failed_writes in
    let was = c.args.host.now in
    let are = are_files (files was) c.args.request.now.files.now c.in_ok-files.files c.in_ok-check_number.ensures c.in_ok-files.ensures.gives.0
    c.in_ok-files.ensures.gives.1 in
    let first = c.read_files.ensures.files in
    let both = keep_twice (files was) (files c.read_files.new.host) (files c.profile_bytes.new.host) first c.profile_bytes.ensures.files in
    rw (is_err.1, is_err.2)
    (inl (files_refused (files was) (files c.profile_bytes.new.host) (reads was) (reads c.profile_bytes.new.host) (writes was)
    (writes c.profile_bytes.new.host) input out (compilation_of c.args.request.now).files c.in_ok-files.files both are c.in_err-source.field-0.0
    c.in_err-source.ensures.gives))

pub returns-in_err-counts-clause-gives : goal.returns-in_err-counts-clause-gives
returns-in_err-counts-clause-gives g c input out =
    let is_err = err_from_is_err_and c.from_residual-in_err-counts.result c.from_residual-in_err-counts.ensures.1 in
    let files = g.H.Host.files in
    let reads = g.H.Host.failed_reads in
    let writes = g.H.Host.failed_writes in
    let was = c.args.host.now in
    let are = are_files (files was) c.args.request.now.files.now c.in_ok-files.files c.in_ok-check_number.ensures c.in_ok-files.ensures.gives.0
    c.in_ok-files.ensures.gives.1 in
    let first = c.read_files.ensures.files in
    let both = keep_twice (files was) (files c.read_files.new.host) (files c.profile_bytes.new.host) first c.profile_bytes.ensures.files in
    rw (is_err.1, is_err.2)
    (counts_refused (compilation_of c.args.request.now) (files was) (files c.read_files.new.host) (files c.profile_bytes.new.host) (reads was)
    (reads c.read_files.new.host) (reads c.profile_bytes.new.host) (writes was) (writes c.profile_bytes.new.host) input out c.in_ok-files.files are
    (program_data c.in_ok-source.source.program) c.in_ok-source.ensures.gives.1 first both (option_map (λ name. name.now) c.args.request.now.profile) refl
    c.in_ok-profile.profile c.in_ok-profile.ensures.gives c.in_err-counts.field-0.0 c.in_err-counts.ensures)

pub returns-clause-gives : goal.returns-clause-gives
returns-clause-gives g c input out =
    let files = g.H.Host.files in
    let reads = g.H.Host.failed_reads in
    let writes = g.H.Host.failed_writes in
    let was = c.args.host.now in
    let are = are_files (files was) c.args.request.now.files.now c.in_ok-files.files c.in_ok-check_number.ensures c.in_ok-files.ensures.gives.0
    c.in_ok-files.ensures.gives.1 in
    let first = c.read_files.ensures.files in
    let both = keep_twice (files was) (files c.read_files.new.host) (files c.profile_bytes.new.host) first c.profile_bytes.ensures.files in
    let source = c.in_ok-source.ensures.gives in (
      rw source.0 are,
      rw source.0 source.1,
      profile_of (compilation_of c.args.request.now) (files was) (files c.read_files.new.host) (files c.profile_bytes.new.host) (reads was)
          (reads c.read_files.new.host) (reads c.profile_bytes.new.host) (writes was) (writes c.profile_bytes.new.host) input out c.in_ok-files.files are
          (program_data c.in_ok-source.source.program) source.1 first both (option_map (λ name. name.now) c.args.request.now.profile)
          c.in_ok-profile.profile c.in_ok-profile.ensures.gives c.in_ok-counts.counts c.in_ok-counts.ensures,
      record { files = both; input = refl; out = refl },
    )
