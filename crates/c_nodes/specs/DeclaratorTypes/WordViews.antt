-- What is counted among specifiers, and what the answers stand for.
use Rattle.std.specs.Prelude.{ℕ, ◌+◌, List, [], ◌∷◌}
use Rattle.c_types.specs.Types.{void, integer}
use Rattle.c_ast.specs.Trees
use Rattle.c_erasure.specs.Specifiers as Specifiers
use Rattle.c_erasure.specs.Specifiers.{with_word}
use Rattle.c_erasure.specs.Checking.Declaring as Declaring
use Rattle.c_erasure.specs.Checking.Declaring.{by_words, by_one, no_type}
use Rattle.c_nodes.specs.declared.declarator_types.words.Words.{Words}
use Rattle.c_nodes.specs.declared.declarator_types.words.Others.{Others}
use Rattle.c_nodes.specs.declared.declarator_types.words.Others.TheVariants as O
use Rattle.c_nodes.specs.declared.declarator_types.words.Base.{Base}
use Rattle.c_nodes.specs.declared.declarator_types.words.Base.TheVariants as B

abbrev pub words_view : Words → Specifiers.Words
words_view w = record { void = w.void; char = w.char; short = w.short; int = w.int; long = w.long; signed = w.signed; unsigned = w.unsigned }

-- how many keywords were counted
abbrev pub words_counted : Words → ℕ
words_counted w = w.void + w.char + w.short + w.int + w.long + w.signed + w.unsigned

-- the keywords of a specifier and of those after it
abbrev pub specifier_added : Trees.Specifier → Specifiers.Words → Specifiers.Words
specifier_added (Trees.plain word at) w = with_word word w
specifier_added s w = w

-- how many there are
abbrev pub others_in : List Trees.Specifier → Others
others_in [] = O.None
others_in (s ∷ []) = O.One
others_in (s ∷ t ∷ more) = O.Several

abbrev pub one_more : Others → Others
one_more O.None = O.One
one_more o = O.Several

abbrev pub other_added : Trees.Specifier → Others → Others
other_added (Trees.plain word at) o = o
other_added s o = one_more o

abbrev pub base_view : Base → Declaring.Base
base_view B.Void = by_words void
base_view (B.Int kind) = by_words (integer kind)
base_view B.One = by_one
base_view B.Missing = no_type
