use Rattle.std.proofs.Common.{◌∙◌, ap, sym, map}
use Rattle.std.specs.Prelude.{Ok, slice_set}
use Rattle.std.proofs.lemmas.List.{length-map, map-set}
use Rattle.c_types.specs.Views.{type_of}
use Rattle.c_ast.specs.Views.{init_declarator_of}
use Rattle.c_typed.specs.Trees.{no_statements}
use Rattle.c_erasure.specs.Erasure.{place_in}
use Rattle.c_annotated.specs.FileViews.{object_of}
use Rattle.c_annotated.specs.Views.{initializer_of}
use Rattle.c_erasure.specs.Checking.Answers.{moved}
use Rattle.c_erasure.specs.Checking.Statements.{constants_if_any}
use Rattle.c_scopes.specs.Scoping.{file_of}
use Rattle.c_check_parts.specs.BlockLocals.Performing.{standing}
use Rattle.c_check_parts.proofs.BlockLocals.StaticObjects.{static_found}
use Rattle.c_check_parts.proofs.block_locals.declarations.declare_static.Goals as goal

pub returns : goal.returns
returns c =
    let s = standing c.args.file.now c.args.block.now c.args.locals.now in
    let d = init_declarator_of c.args.d.now in
    let one = standing c.add_object.new.file c.add_object.new.block c.args.locals.now in
    let found = file_of c.constants_if_any.new.file in
    static_found s d c.args.x.now (type_of c.args.t.now) c.place_in-place.result one (initializer_of c.in_ok-initial.initial) found (object_of c.in_ok-object.object)
    (c.place_in-place.ensures ∙ ap (λ v. place_in v c.first_of_declarator-at.result) (c.scope_in.ensures c.args.file.now)
    ∙ ap (place_in s) (c.first_of_declarator-at.ensures c.args.x.now.from))
    (c.in_ok-n.ensures.added c.args.locals.now)
    (ap (λ v. constants_if_any d.value v (type_of c.args.t.now)) (sym (c.scope_in-2.ensures c.add_object.new.file)) ∙ c.in_ok-initial.ensures)
    c.in_ok-object.ensures
    ∙ ap (λ objects. Ok (no_statements, moved one (record found { objects = objects })))
    (sym (ap (map object_of) c.replace_object.ensures
    ∙ map-set object_of c.constants_if_any.new.file.objects c.in_ok-n.n c.in_ok-object.object
    ∙ ap (λ n. slice_set (map object_of c.constants_if_any.new.file.objects) n (object_of c.in_ok-object.object))
    (c.in_ok-n.ensures.number ∙ sym (length-map c.args.file.now.objects object_of))))
