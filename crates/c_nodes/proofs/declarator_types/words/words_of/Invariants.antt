use Rattle.std.proofs.Common.{◌≡◌, ◌+◌, ◌≤◌, length, map, drop}
use Rattle.c_ast.specs.Views.{specifier_of, specifiers_of}
use Rattle.c_erasure.specs.Specifiers.{words_of}
use Rattle.c_nodes.specs.DeclaratorTypes.WordViews.{words_counted, words_view}
use Rattle.c_nodes.proofs.declarator_types.words.words_of.Given as goal

abbrev pub invariant-loop-i : goal.invariant-loop-i
invariant-loop-i l = (words_view l.words ≡ words_of (specifiers_of (map specifier_of (drop l.i l.all)))) × (words_counted l.words + l.i ≤ length l.all)
