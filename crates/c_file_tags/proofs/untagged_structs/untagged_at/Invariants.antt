use Rattle.std.proofs.Common.{◌≡◌, ◌≤◌, take, drop}
use Rattle.std.specs.List.{AllByRecursion}
use Rattle.c_erasure.specs.Untagged.{Line}
use Rattle.c_file_tags.specs.UntaggedStructs.Untagged.{counted_at}
use Rattle.c_file_tags.proofs.UntaggedStructs.Tagging.{AreTagged}
use Rattle.c_file_tags.proofs.untagged_structs.untagged_at.Given as goal

abbrev pub invariant-loop-at : goal.invariant-loop-at
invariant-loop-at l = record {
  text : l.lines.0 ≡ l.file.bytes;
  asked : AllByRecursion (λ place. l.lines.1 ≤ place) (drop l.at-index l.places);
  tagged : AreTagged l.file.name l.file.bytes (take l.at-index l.places) (counted_at l.counts.entries) l.tags.entries;
  few : (q : Line) → counted_at l.counts.entries q ≤ l.at-index;
}
