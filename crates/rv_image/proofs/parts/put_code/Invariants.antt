use Rattle.std.proofs.Common.{◌≡◌, ◌++◌, take}
use Rattle.rv_runtime.specs.Bytes.{bytes_of, words_of}
use Rattle.rv_image.proofs.parts.put_code.Given as goal

abbrev pub invariant-loop-i : goal.invariant-loop-i
invariant-loop-i l = l.bytes.items ≡ l.fn.bytes.items ++ bytes_of (words_of (take l.i-index l.code))
