use Rattle.std.proofs.Common.{◌≡◌, drop, map}
use Rattle.rv_code.specs.Programs.{all_texts_end}
use Rattle.rv_image.specs.Data.{put_all_texts}
use Rattle.tac_ir.specs.Code.{data_of}
use Rattle.rv_image.proofs.data.put_all_texts.Given as goal

abbrev pub invariant-loop-g : goal.invariant-loop-g
invariant-loop-g l = record {
  bytes : put_all_texts l.at (map data_of (drop l.g-index l.routines)) l.segment.items ≡ put_all_texts l.fn.at (map data_of l.fn.routines) l.fn.segment.items;
  end : all_texts_end l.at (map data_of (drop l.g-index l.routines)) ≡ all_texts_end l.fn.at (map data_of l.fn.routines);
}
