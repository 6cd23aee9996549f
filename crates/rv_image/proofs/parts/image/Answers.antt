use Rattle.std.proofs.Common.{◌≡◌, ◌∙◌, ◌+◌, ◌*◌, ◌<◌, ◌≤◌, ◌^◌, ◌++◌, sym, ap, subst, length, arith}
use Rattle.std.specs.Prelude.{All, IfOk}
use Rattle.c_typed.specs.Programs.{program_data}
use Rattle.rv_image.proofs.Fitting.{texts_fit_in_all, one_for_each, code_in_range, subst_in, text_is, writable}
use Rattle.rv_code.specs.Programs.{places_of}
use Rattle.rv_image.specs.Data.{data_of_program, object_places, texts_at}
use Rattle.rv_image.specs.Images.{image_with, text_of_program}
use Rattle.elf32.specs.Written.{IsWritable}
use Rattle.rv_isa.specs.Encoding.{IsInRange}
use Rattle.tac_ir.specs.Code.{code_of}
use Rattle.rv_image.proofs.parts.image.Goals as goal

pub places_in-requires-clause-texts : goal.places_in-requires-clause-texts
places_in-requires-clause-texts c = texts_fit_in_all (program_data c.args.p.now) c.args.t.now c.requires.fits

pub overflow_cast-texts : goal.overflow_cast-texts
overflow_cast-texts c =
    let most : texts_at (program_data c.args.p.now) < 2 ^ 32 = texts_fit_in_all (program_data c.args.p.now) c.args.t.now c.requires.fits in
    let is : c.in_ok-objects.texts ≡ texts_at (program_data c.args.p.now) = c.in_ok-objects.ensures.texts in
    omega arith

pub data-requires-clause-each : goal.data-requires-clause-each
data-requires-clause-each c =
    ap (λ q. length q.objects) c.in_ok-code.ensures.places ∙ ap length c.in_ok-objects.ensures.places ∙ one_for_each (program_data c.args.p.now)

pub text-requires : goal.text-requires
text-requires c =
    let stack : c.args.stack ≤ 128 = c.requires.stack in
    subst (All IsInRange) (sym (c.as_slice.ensures.value ∙ c.in_ok-code.ensures.code))
    (code_in_range (code_of c.args.t.now) c.args.stack c.in_ok-objects.objects c.in_ok-objects.texts stack)

pub segments-requires-clause-text : goal.segments-requires-clause-text
segments-requires-clause-text c =
    let is : length c.in_ok-text.text.items ≡ length (text_of_program (program_data c.args.p.now) (code_of c.args.t.now) c.args.stack)
    = ap length (text_is (program_data c.args.p.now) (code_of c.args.t.now) c.args.stack _ _ _ _ c.in_ok-text.ensures
    (c.as_slice.ensures.value ∙ c.in_ok-code.ensures.code) c.in_ok-objects.ensures.places c.in_ok-objects.ensures.texts) in
    let most = c.requires.fits.text c.args.stack in
    omega arith

pub returns-clause-image : goal.returns-clause-image
returns-clause-image c =
    let text : c.in_ok-text.text.items ≡ text_of_program (program_data c.args.p.now) (code_of c.args.t.now) c.args.stack
    = text_is (program_data c.args.p.now) (code_of c.args.t.now) c.args.stack _ _ _ _ c.in_ok-text.ensures
    (c.as_slice.ensures.value ∙ c.in_ok-code.ensures.code) c.in_ok-objects.ensures.places c.in_ok-objects.ensures.texts in
    let places : c.in_ok-code.places ≡ places_of (code_of c.args.t.now) (object_places (program_data c.args.p.now))
    = c.in_ok-code.ensures.places ∙ ap (places_of (code_of c.args.t.now)) c.in_ok-objects.ensures.places in
    let globals : c.in_ok-globals.globals.items ≡ data_of_program (program_data c.args.p.now) (code_of c.args.t.now)
    (places_of (code_of c.args.t.now) (object_places (program_data c.args.p.now))) (0x20000000 + c.args.heap * 2 ^ 20)
    = c.in_ok-globals.ensures
    ∙ ap (λ q. data_of_program (program_data c.args.p.now) (code_of c.args.t.now) q (0x20000000 + c.args.heap * 2 ^ 20)) places in
    subst (λ bytes. IfOk c.segments.result (λ image. image ≡ image_with bytes
    (data_of_program (program_data c.args.p.now) (code_of c.args.t.now) (places_of (code_of c.args.t.now) (object_places (program_data c.args.p.now)))
    (0x20000000 + c.args.heap * 2 ^ 20)) c.args.heap c.args.stack)) text
    (subst (λ bytes. IfOk c.segments.result (λ image. image ≡ image_with c.in_ok-text.text.items bytes c.args.heap c.args.stack)) globals c.segments.ensures)

pub returns-clause-writable : goal.returns-clause-writable
returns-clause-writable c =
    subst_in IsWritable c.segments.result _ (returns-clause-image c)
    (writable (program_data c.args.p.now) c.args.t.now c.args.heap c.args.stack c.requires.fits c.requires.some_heap c.requires.heap c.requires.some_stack c.requires.stack)
