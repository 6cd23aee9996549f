use Rattle.std.proofs.Common.{◌≡◌, ◌++◌, take}
use Rattle.rv_runtime.specs.Bytes.{bytes_of}
use Rattle.rv_runtime.proofs.words.put_words.Given as goal

abbrev pub invariant-loop-word : goal.invariant-loop-word
invariant-loop-word l = l.bytes.items ≡ l.fn.bytes.items ++ bytes_of (take l.word-index l.words)
