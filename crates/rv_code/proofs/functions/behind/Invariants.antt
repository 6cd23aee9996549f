use Rattle.std.proofs.Common.{◌≡◌, ◌++◌, ◌+◌, drop, map}
use Rattle.std.specs.List.{sum_by}
use Rattle.rv_code.specs.Programs.{sums_from, words_of}
use Rattle.tac_ir.specs.Code.{data_of}
use Rattle.rv_code.proofs.functions.behind.Given as goal

abbrev pub invariant-loop-s : goal.invariant-loop-s
invariant-loop-s l = record {
  sums : l.sums.items ++ sums_from l.words (map (words_of (data_of l.g)) (drop l.s-index l.s-items)) ≡ sums_from 0 (map (words_of (data_of l.fn.g)) l.fn.g.code);
  words : l.words + sum_by (words_of (data_of l.g)) (drop l.s-index l.s-items) ≡ sum_by (words_of (data_of l.fn.g)) l.fn.g.code;
}
