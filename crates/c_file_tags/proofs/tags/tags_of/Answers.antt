use Rattle.std.proofs.Common.{sym, subst}
use Rattle.c_ast.specs.Views.{items_of}
use Rattle.c_erasure.specs.Files.{AreAscending}
use Rattle.c_erasure.specs.Untagged.{AreTags}
use Rattle.c_erasure.proofs.MarkPlaces.Ordered.{marks_are_in_order}
use Rattle.c_scopes.specs.SyntaxTags.TagLists.{AreTagsOf}
use Rattle.c_scopes.specs.SyntaxTags.Untagged.{untagged_by}
use Rattle.c_file_tags.proofs.UntaggedStructs.Structs.{structs_of_tree}
use Rattle.c_file_tags.proofs.tags.tags_of.Goals as goal

pub of-requires : goal.of-requires
of-requires c = record {
  order = subst AreAscending (sym c.in_ok-tables.ensures.ends)
      ((marks_are_in_order c.tokens_have_places.ensures).ends c.args.file.now.bytes (items_of c.args.tree.now)
      (untagged_by c.in_ok-untagged.untagged) c.requires.tree);
}

pub returns : goal.returns
returns c = subst (AreTagsOf c.args.file.now.name c.args.file.now.bytes (items_of c.args.tree.now)) (sym c.of.ensures) (record {
  untagged = subst (λ structs. AreTags c.args.file.now.name c.args.file.now.bytes structs (untagged_by c.in_ok-untagged.untagged))
      (structs_of_tree c.texts_have_one_reading.ensures c.args.file.now.bytes c.args.tokens.now (items_of c.args.tree.now) c.requires.tokens c.requires.tree)
      c.in_ok-untagged.ensures.are;
  begin = c.in_ok-untagged.ensures.begin;
  tags = c.in_ok-tables.ensures.tags;
  ends = c.in_ok-tables.ensures.ends;
  numbered = c.in_ok-tables.ensures.numbered;
})
