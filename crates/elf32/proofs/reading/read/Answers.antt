use Rattle.std.proofs.Common.{◌≡◌, map, Err, rules, refl, ◌∙◌}
use Rattle.elf32.specs.Loaded.{segment_of}
use Rattle.elf32.specs.Read.{AreLoadable}
use Rattle.elf32.proofs.Placed.{placed}
use Rattle.elf32.proofs.Tests.{FilePasses, header_refused, loads_refused, segments_refused, last_refused, all_passed}
use Rattle.elf32.proofs.reading.read.Goals as goal

pub returns-in_err-file_header_tests-clause-loads : goal.returns-in_err-file_header_tests-clause-loads
returns-in_err-file_header_tests-clause-loads c =
    let fault = c.in_err-file_header_tests.field-0.0 in
    let answer : c.from_residual.result ≡ Err fault = search rules in
    rw answer (header_refused c.args.bytes.now fault (search rules))

pub returns-in_err-headers-clause-loads : goal.returns-in_err-headers-clause-loads
returns-in_err-headers-clause-loads c =
    let fault = c.in_err-headers.field-0.0 in
    let answer : c.from_residual-in_err-headers.result ≡ Err fault = search rules in
    rw answer (loads_refused c.args.bytes.now fault (search rules) c.in_err-headers.ensures)

pub returns-in_err-segments_tests-clause-loads : goal.returns-in_err-segments_tests-clause-loads
returns-in_err-segments_tests-clause-loads c =
    let fault = c.in_err-segments_tests.field-0.0 in
    let answer : c.from_residual-in_err-segments_tests.result ≡ Err fault = search rules in
    let found : AreLoadable c.in_ok-headers.headers.items c.args.bytes.now = search rules in
    let file : FilePasses c.args.bytes.now = record { header = search rules; loads = found.passes } in
    rw answer (segments_refused c.args.bytes.now fault file (rw (← found.all) (search rules)))

pub returns-in_err-last_tests-clause-loads : goal.returns-in_err-last_tests-clause-loads
returns-in_err-last_tests-clause-loads c =
    let fault = c.in_err-last_tests.field-0.0 in
    let answer : c.from_residual-in_err-last_tests.result ≡ Err fault = search rules in
    let found : AreLoadable c.in_ok-headers.headers.items c.args.bytes.now = search rules in
    let file : FilePasses c.args.bytes.now = record { header = search rules; loads = found.passes } in
    rw answer (last_refused c.args.bytes.now fault file (rw (← found.all) (search rules)) (search rules))

pub returns-clause-loads : goal.returns-clause-loads
returns-clause-loads c =
    let found : AreLoadable c.in_ok-headers.headers.items c.args.bytes.now = search rules in
    let file : FilePasses c.args.bytes.now = record { header = search rules; loads = found.passes } in
    let segments : c.in_ok-segments.segments ≡ map (segment_of c.args.bytes.now) c.in_ok-headers.headers.items = search rules in
    all_passed c.args.bytes.now file (rw (← found.all) (search rules)) (search rules) ∙ rw (segments, found.all, c.entry.ensures) refl

pub returns-clause-placed : goal.returns-clause-placed
returns-clause-placed c = placed c.args.bytes.now _ (returns-clause-loads c)
