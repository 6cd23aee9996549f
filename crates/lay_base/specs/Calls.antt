-- What each call on an object of the outside gives, by its answer.
use Rattle.std.specs.Prelude.{◌≡◌, ℕ, ◌<◌, ◌≤◌, ◌⊎◌, List, [], ◌∷◌, length, take, Option, Some, None, Result, Ok, Err, ⊤}
use Rattle.std.specs.Global.{Vec}
use Rattle.std.specs.Io.KnownBytes.{IsAtEnd}
use Rattle.lay_base.specs.Known.{Rose, Contents, IfKnown, Keeps, Appends, Consumes}
use Rattle.lay_base.specs.declared.outside.SourceFault.{SourceFault}
use Rattle.lay_base.specs.declared.outside.SinkFault.{SinkFault}
use Rattle.lay_base.specs.declared.outside.HostRead.{HostRead}
use Rattle.lay_base.specs.declared.outside.HostRead.TheVariants.{TooLong, Failed, Memory}
use Rattle.lay_base.specs.declared.outside.HostWrite.{HostWrite}
use Rattle.lay_base.specs.declared.outside.HostWrite.TheVariants as W

-- the next byte is taken; nothing is left; or the call failed and took nothing
abbrev pub NextGives : (before now : ℕ) (old new : Option (List ℕ)) → Result (Option ℕ) SourceFault → Type 0
NextGives before now old new (Ok (Some byte)) = Consumes old new (byte ∷ [])
NextGives before now old new (Ok None) = IsAtEnd old × Keeps old new
NextGives before now old new (Err fault) = Rose before now × Keeps old new

-- the piece is written; or the call failed and wrote some first part of it
abbrev pub PutGives : (before now : ℕ) (old new : Option (List ℕ)) (piece : List ℕ) → Result (Unit {0}) SinkFault → Type 0
PutGives before now old new piece (Ok done) = Appends old new piece
PutGives before now old new piece (Err fault) = Rose before now × ((k : ℕ) × Appends old new (take k piece))

-- the bytes under the name, at most `limit` of them; they are more; the read failed; or memory was out
abbrev pub ReadGives : (before now : ℕ) (files : Option Contents) (name : List ℕ) (limit : ℕ) → Result (Vec ℕ) HostRead → Type 0
ReadGives before now files name limit (Ok bytes) =
    IfKnown files name (λ file. file ≡ Some bytes.items) × (length bytes.items ≤ limit)
ReadGives before now files name limit (Err TooLong) =
    IfKnown files name (λ file. (now ≡ before) × ((bytes : List ℕ) × (file ≡ Some bytes) × (limit < length bytes)))
ReadGives before now files name limit (Err Failed) = Rose before now
ReadGives before now files name limit (Err (Memory want)) = ⊤

-- the name holds the bytes; the write failed, and the name is as before or holds some first part
-- of them; or memory was out, and nothing changed
abbrev pub WriteGives : (before now : ℕ) (old new : Option Contents) (name bytes : List ℕ) → Result (Unit {0}) HostWrite → Type 0
WriteGives before now old new name bytes (Ok done) = IfKnown new name (λ file. file ≡ Some bytes)
WriteGives before now old new name bytes (Err W.Failed) =
    Rose before now × IfKnown old name (λ was. IfKnown new name (λ file. (file ≡ was) ⊎ ((k : ℕ) × (file ≡ Some (take k bytes)))))
WriteGives before now old new name bytes (Err (W.Memory want)) =
    IfKnown old name (λ was. (now ≡ before) × IfKnown new name (λ file. file ≡ was))
