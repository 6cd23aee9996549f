-- What objects in memory hold, and which of their calls fail.
use Rattle.std.specs.Prelude.{ℕ, ◌==◌, ◌/◌, ◌-◌, ◌||◌, min, Bool, if◌then◌else◌, List, length, option_map}
use Rattle.std.specs.List.{find, list_any}
use Rattle.std.specs.Option.{is_none}
use Rattle.std.specs.Str.{bytes_eq}
use Rattle.lay_base.specs.Known.{raised, Contents}
use Rattle.lay_base.specs.declared.memory_objects.plan.Plan.{Plan}
use Rattle.lay_base.specs.declared.place.File.{File}

-- a plan before the first call
abbrev pub plan_of : List ℕ → Plan
plan_of fails = record { fails = fails; calls = 0; faults = 0 }

-- whether the next call is one of those that are to fail
abbrev pub fails_next : Plan → Bool
fails_next plan = list_any (λ number. number == raised plan.calls) plan.fails

-- the plan after a call, which failed or not
abbrev pub called : Plan → Bool → Plan
called plan fails =
    record plan { calls = raised plan.calls; faults = if fails then raised plan.faults else plan.faults }

-- a source in memory: the bytes that are left, and its plan
pub record MemorySource : Type 0 where
  pub left : List ℕ
  pub plan : Plan

-- a sink in memory: the bytes that were written, how many it can hold, and its plan
pub record MemorySink : Type 0 where
  pub written : List ℕ
  pub room : ℕ
  pub plan : Plan

-- how many bytes of a piece a sink keeps: half of it in a call that is to fail, and never more than it has room for
abbrev pub kept_of : MemorySink → List ℕ → ℕ
kept_of sink piece =
    min (if fails_next sink.plan then length piece / 2 else length piece) (sink.room - length sink.written)

-- a host in memory: its files, of which the first of a name counts, and its plan
pub record MemoryHost : Type 0 where
  pub files : List File
  pub plan : Plan

-- the bytes under each name
abbrev pub contents_of : List File → Contents
contents_of files name = option_map (λ file. file.bytes) (find (λ file. bytes_eq file.name name) files)

-- a read fails where its call is to fail, or where there is no such file
abbrev pub read_fails : MemoryHost → List ℕ → Bool
read_fails host name = fails_next host.plan || is_none (contents_of host.files name)
