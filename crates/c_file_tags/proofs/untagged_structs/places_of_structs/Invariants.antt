use Rattle.std.proofs.Common.{◌≡◌, ◌++◌, drop}
use Rattle.c_file_tags.specs.UntaggedStructs.Untagged.{structs_of}
use Rattle.c_file_tags.proofs.untagged_structs.places_of_structs.Given as goal

abbrev pub invariant-loop-token : goal.invariant-loop-token
invariant-loop-token l = l.places.items ++ structs_of (drop l.token-index l.tokens) ≡ structs_of l.tokens
