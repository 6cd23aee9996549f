use Rattle.std.proofs.Common.{◌≡◌, ◌+◌, drop}
use Rattle.std.specs.Prelude.{map}
use Rattle.c_typed.specs.Programs.{data_of}
use Rattle.c_link.specs.Texts.{rounded, texts_in_functions}
use Rattle.c_link.proofs.initial_texts.texts_in_functions.Given as goal

abbrev pub invariant-loop-f : goal.invariant-loop-f
invariant-loop-f l = rounded l.lengths + texts_in_functions (map data_of (drop l.f-index l.functions)) ≡ texts_in_functions (map data_of l.functions)
