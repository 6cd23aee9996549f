-- The arguments of a call as a vector.
use Rattle.std.specs.Prelude.{◌≡◌, List, ◌++◌, Result, Ok, Err}
use Rattle.std.specs.Global.{Vec}
use Rattle.block_memory.specs.declared.run_worlds.value.Value.{Value}
use Rattle.source_state.specs.declared.ends.Final.{Final}

abbrev pub ReadsRow : Result (List Value) Final → Result (Vec Value) Final → Type 0
ReadsRow defined (Ok values) = defined ≡ Ok values.items
ReadsRow defined (Err end) = defined ≡ Err end

abbrev pub behind : List Value → Result (List Value) Final → Result (List Value) Final
behind vs (Ok ws) = Ok (vs ++ ws)
behind vs (Err end) = Err end
