use Rattle.std.proofs.Common.{◌≡◌, ◌∙◌, ap, sym, subst, rules}
use Rattle.c_types.specs.declared.ty.Ty.{the_lemmas}
use Rattle.c_types.specs.Types.{function}
use Rattle.c_types.specs.Views.{type_of, types_of}
use Rattle.c_ast.specs.Places.{first_specifiers}
use Rattle.c_ast.specs.Views.{declarator_of}
use Rattle.c_typed.specs.declared.program.MentionKind.TheVariants.{Named}
use Rattle.c_erasure.specs.Files.{parameters_of}
use Rattle.c_erasure.specs.Checking.Declaring.{with_mention}
use Rattle.c_nodes.specs.DeclaratorTypes.SpecifierViews.{storage_view}
use Rattle.c_externals.specs.Filing.{Files}
use Rattle.c_scopes.specs.Scoping.{file_of}
use Rattle.c_check.specs.FileItems.Defined.{body_in, specifiers_in}
use Rattle.c_check.proofs.FileItems.Bodies.{typed_shape}
use Rattle.c_check.proofs.file_items.definitions.define_typed.Goals as goal

pub returns : goal.returns
returns c =
    let f = file_of c.args.file.now in
    let it = c.args.it in
    let d = declarator_of c.args.f.now.declarator in
    let t = type_of c.args.t.now in
    let typed : type_of c.args.t.now ≡ function (type_of c.get.result.now) (types_of c.as_slice.result.now) = search (rules, the_lemmas) in
    subst (λ r. Files c.define_function_of.result r c.define_function_of.new.file)
    (sym (typed_shape f (file_of c.mention.new.file) (storage_view it.words) it.x.now it.before (first_specifiers (specifiers_in c.args.f.now))
    it.place it.from it.nodes t (type_of c.get.result.now) (types_of c.as_slice.result.now)
    (parameters_of d) (body_in c.args.f.now) typed
    (c.in_ok-mention.ensures ∙ ap (λ s. with_mention s it.before Named t it.place f) (c.at_file_scope.ensures c.args.file.now))))
    c.define_function_of.ensures
