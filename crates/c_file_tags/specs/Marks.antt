-- What collected marks stand for.
use Rattle.std.specs.Prelude.{List, map}
use Rattle.c_erasure.specs.Marks as M
use Rattle.c_scopes.specs.SyntaxTags.Tables.{tag_of}
use Rattle.c_file_tags.specs.declared.marks.Mark.{Mark}
use Rattle.c_file_tags.specs.declared.marks.Mark.TheVariants as V
use Rattle.c_file_tags.specs.declared.marks.Marks.{Marks}

abbrev pub mark_of : Mark → M.Mark
mark_of (V.Tag t) = M.a_tag (tag_of t)
mark_of (V.End tag right) = M.an_end tag.now right
mark_of (V.Name from) = M.a_name from

unfoldable pub marks_in : Marks → List M.Mark
marks_in all = map mark_of all.list.items
