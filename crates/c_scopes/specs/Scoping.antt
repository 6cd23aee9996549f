-- What the file up to there, and the place of an expression in it, stand for.
use Rattle.std.specs.Prelude.{List, [], map, Option, Some, None, is_some}
use Rattle.std.specs.Borrow.{Bor}
use Rattle.c_types.specs.Views.{records_of}
use Rattle.c_erasure.specs.Scopes as Scopes
use Rattle.c_annotated.specs.FileViews.{bound_of, object_of, function_of, mention_of, local_of}
use Rattle.c_scopes.specs.SyntaxTags.Untagged.{untagged_by}
use Rattle.c_scopes.specs.declared.block.Block.{Block}
use Rattle.c_scopes.specs.declared.file_scope.FileScope.{FileScope}
use Rattle.c_scopes.specs.declared.scope.Purpose.{Purpose}
use Rattle.c_scopes.specs.declared.scope.Purpose.TheVariants as P
use Rattle.c_scopes.specs.declared.scope.Scope.{Scope}
use Rattle.c_scopes.specs.Views.{blocks_of}

abbrev pub file_of : FileScope → Scopes.FileScope
file_of f = record {
  file = f.number;
  names = map bound_of f.names;
  tags = f.tags.tags;
  records = records_of f.records;
  ends = f.tags.ends;
  numbered = f.tags.numbered;
  objects = map object_of f.objects;
  functions = map function_of f.functions;
  mentions = map mention_of f.mentions;
  untagged = untagged_by f.tags.untagged;
}

abbrev pub purpose_of : Purpose → Scopes.Purpose
purpose_of P.InFull = Scopes.in_full
purpose_of P.ValueAlone = Scopes.value_alone
purpose_of P.TypeAlone = Scopes.type_alone

abbrev pub blocks_around : Option (Bor Block) → List (List Scopes.Bound)
blocks_around None = []
blocks_around (Some block) = blocks_of block.now

abbrev pub scope_of : FileScope → Scope → Scopes.Scope
scope_of f s = record {
  file = file_of f;
  blocks = blocks_around s.block;
  is_inside = is_some s.block;
  purpose = purpose_of s.purpose;
  locals = map local_of s.locals.now;
}
