-- Declarators, literals, names and tags of a file come in the order of its text.
use Rattle.std.proofs.Common.{ℕ, List, [], subst}
use Rattle.std.proofs.lemmas.List.Elements.{All-from_recursion}
use Rattle.c_ast.specs.Trees
use Rattle.c_ast.specs.Spelling.{spell}
use Rattle.c_ast.specs.TreesOfFiles.{IsTreeOf}
use Rattle.c_erasure.specs.Marks.{marks_of_file, tags_in}
use Rattle.c_checking_laws.specs.TextOrder.TextOrder.{places_of_file, names_of_file, AreInTextOrder, TextsAreInOrder}
use Rattle.c_checking_laws.proofs.TextOrder.Rising.{AreRising, rises}
use Rattle.c_checking_laws.proofs.TextOrder.Tokens.{tokens_rise}
use Rattle.c_checking_laws.proofs.TextOrder.Places.{items_rise}
use Rattle.c_checking_laws.proofs.TextOrder.Names.{items_name}
use Rattle.c_checking_laws.proofs.TextOrder.TagWalks.{IsNamed, tags_in_order, tags_named}
use Rattle.c_checking_laws.proofs.TextOrder.TagsOfFiles.{items_tagged}

tree_rises : (bytes : List ℕ) (items : List Trees.Item) → IsTreeOf bytes items → AreRising 0 (spell items)
tree_rises bytes items t = subst (AreRising 0) t.3.spelled (tokens_rise bytes t.0 t.1)

in_order : (bytes : List ℕ) (items : List Trees.Item) (untagged : ℕ → List ℕ) → IsTreeOf bytes items → AreInTextOrder untagged items
in_order bytes items untagged t =
    let o = tree_rises bytes items t in
    let w = t.3.well_formed in
    let p = (items_rise untagged [] items w {rest = []}).along 0 o in
    let n = (items_name untagged [] items w {rest = []}).along 0 o in
    record {
      places = rises 0 (places_of_file items) p.0 p.1;
      names = rises 0 (names_of_file untagged items) n.0 n.1;
      tags = tags_in_order 0 (items_tagged untagged [] items w {rest = []}) o;
    }

pub texts_are_in_order : TextsAreInOrder
texts_are_in_order = record {
  order = in_order;
  enumerations = λ bytes items untagged t.
      All-from_recursion IsNamed (tags_in (marks_of_file untagged items))
      (tags_named 0 (items_tagged untagged [] items t.3.well_formed {rest = []}) (tree_rises bytes items t));
}
