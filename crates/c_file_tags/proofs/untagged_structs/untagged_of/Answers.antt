use Rattle.std.proofs.Common.{rules, ◌≡◌, sym, subst, IfOk}
use Rattle.std.specs.Prelude.{All}
use Rattle.c_tokens.specs.TokenPlaces.{IsPlaceIn}
use Rattle.c_erasure.specs.Files.{AreAscending}
use Rattle.c_erasure.specs.Untagged.{AreTags}
use Rattle.c_scopes.specs.SyntaxTags.Untagged.{untagged_by}
use Rattle.c_file_tags.specs.UntaggedStructs.Untagged.{structs_of}
use Rattle.c_file_tags.proofs.UntaggedStructs.Structs.{structs_ascend, structs_are_places}
use Rattle.c_file_tags.proofs.untagged_structs.untagged_of.Goals as goal

pub untagged_at-requires-clause-order : goal.untagged_at-requires-clause-order
untagged_at-requires-clause-order c =
    let e : c.deref.result.now ≡ structs_of c.args.tokens.now = search rules in
    subst AreAscending (sym e)
    (structs_ascend c.tokens_have_places.ensures c.tokens_have_texts.ensures c.args.file.now.bytes c.args.tokens.now c.requires.tokens)

pub untagged_at-requires-clause-tokens : goal.untagged_at-requires-clause-tokens
untagged_at-requires-clause-tokens c =
    let e : c.deref.result.now ≡ structs_of c.args.tokens.now = search rules in
    subst (All (IsPlaceIn c.args.file.now.bytes)) (sym e)
    (structs_are_places c.tokens_have_places.ensures c.args.file.now.bytes c.args.tokens.now c.requires.tokens)

pub returns-clause-are : goal.returns-clause-are
returns-clause-are c =
    let e : c.deref.result.now ≡ structs_of c.args.tokens.now = search rules in
    subst (λ places. IfOk c.untagged_at.result (λ untagged. AreTags c.args.file.now.name c.args.file.now.bytes places (untagged_by untagged))) e
    c.untagged_at.ensures.are
