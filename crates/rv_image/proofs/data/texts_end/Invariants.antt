use Rattle.std.proofs.Common.{◌≡◌, drop, length, map}
use Rattle.rv_code.specs.Frames.{end_from}
use Rattle.rv_image.proofs.data.texts_end.Given as goal

abbrev pub invariant-loop-text : goal.invariant-loop-text
invariant-loop-text l = end_from l.at (map length (drop l.text-index l.texts)) ≡ end_from l.fn.at (map length l.fn.texts)
