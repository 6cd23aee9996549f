use Rattle.std.proofs.Common.{◌≡◌, drop, length, map}
use Rattle.rv_code.specs.Frames.{end_from}
use Rattle.rv_image.specs.Data.{put_texts}
use Rattle.rv_image.proofs.data.put_texts.Given as goal

abbrev pub invariant-loop-text : goal.invariant-loop-text
invariant-loop-text l = record {
  bytes : put_texts l.at (drop l.text-index l.texts) l.segment.items ≡ put_texts l.fn.at l.fn.texts l.fn.segment.items;
  end : end_from l.at (map length (drop l.text-index l.texts)) ≡ end_from l.fn.at (map length l.fn.texts);
}
