-- What a call that puts a text leaves of the sink.
use Rattle.std.specs.Prelude.{◌≡◌, ◌≤◌, ℕ, List, Option, Result, IsOk}
use Rattle.lay_base.specs.declared.outside.SinkFault.{SinkFault}
use Rattle.lay_base.specs.Calls.{PutGives}

-- as one put of the whole text: the count of faults never falls, stays where the call succeeds,
-- and all of the text is written, or where the call fails a first part of it
pub record Puts (before now : ℕ) (old new : Option (List ℕ)) (text : List ℕ) (result : Result (Unit {0}) SinkFault) : Type 0 where
  pub count : before ≤ now
  pub kept : IsOk result → now ≡ before
  pub gives : PutGives before now old new text result
