-- What a run of the interpreter gives, by its answer.
use Rattle.std.specs.Prelude.{◌≡◌, ◌⊎◌, ℕ, List, [], ◌∷◌, ◌++◌, Some}
use Rattle.lay_base.specs.Known.{Rose, Appends}
use Rattle.c_typed.specs.RunCounts.Counting.{counts_by}
use Rattle.c_typed.specs.declared.run_counts.counts.Counts.{Counts}
use Rattle.c_meaning.specs.Run.{RunEnd, ended, went_on, was_undefined, no_room, kept, trace_of}
use Rattle.c_typed.specs.Programs.{ProgramData}
use Rattle.block_memory.specs.RunWorlds.Events.{Call, putting, getting, calls_of, entries_of, begins_of}
use Rattle.source_run.specs.Streams.{Streams, AreSteady}
use Rattle.source_run.specs.declared.end.RunEnd.{RunEnd as Answer}
use Rattle.source_run.specs.declared.end.RunEnd.TheVariants as E

-- the counts of the run within the room of the interpreter: of each function its entries, of each loop the begins of its body
abbrev pub counts_of : ProgramData → (input : List ℕ) → (turns : ℕ) → Counts
counts_of p input turns = counts_by (λ f. entries_of f (trace_of p input turns)) (λ f l. begins_of f l (trace_of p input turns)) p

-- what is said of the program where the input is known
abbrev pub WhereKnown : Streams → (List ℕ → Type 0) → Type 0
WhereKnown before P = (input : List ℕ) → before.left ≡ Some input → P input

-- ---- the run has come to an end

-- the streams have gained and lost what the run within the room wrote and read
pub record Came (p : ProgramData) (turns : ℕ) (before now : Streams) (counts : Counts) (end : (output rest : List ℕ) → RunEnd) (input : List ℕ) : Type 0 where
  pub output : List ℕ
  pub rest : List ℕ
  pub is : kept p input turns ≡ end output rest
  pub written : Appends before.written now.written output
  pub left : now.left ≡ Some rest
  pub counted : counts ≡ counts_of p input turns

abbrev pub Comes : ProgramData → (turns : ℕ) → (before now : Streams) → Counts → (end : (output rest : List ℕ) → RunEnd) → Type 0
Comes p turns before now counts end = AreSteady before now × WhereKnown before (Came p turns before now counts end)

-- ---- the run was stopped

-- the bytes that some calls write, and those that they take of an input
abbrev pub bytes_put : List Call → List ℕ
bytes_put [] = []
bytes_put (putting byte ∷ more) = byte ∷ bytes_put more
bytes_put (getting ∷ more) = bytes_put more

abbrev pub rest_behind : List Call → List ℕ → List ℕ
rest_behind [] input = input
rest_behind (putting byte ∷ more) input = rest_behind more input
rest_behind (getting ∷ more) [] = rest_behind more []
rest_behind (getting ∷ more) (byte ∷ input) = rest_behind more input

-- after the first calls of the run, with `next` the calls that came after them; `tail` may have been written besides
pub record Stopped (p : ProgramData) (turns : ℕ) (before now : Streams) (next : List Call → Type 0) (tail : List Call → List ℕ → Type 0) (input : List ℕ) : Type 0 where
  pub calls : List Call
  pub more : List Call
  pub are : calls_of (trace_of p input turns) ≡ calls ++ more
  pub is_next : next more
  pub behind : List ℕ
  pub besides : tail more behind
  pub written : Appends before.written now.written (bytes_put calls ++ behind)
  pub left : now.left ≡ Some (rest_behind calls input)

abbrev pub any_calls : List Call → Type 0
any_calls more = Unit {0}

abbrev pub nothing : List Call → List ℕ → Type 0
nothing more behind = behind ≡ []

abbrev pub is_get : List Call → Type 0
is_get (getting ∷ more) = Unit {0}
is_get more = ⊥

abbrev pub is_put : List Call → Type 0
is_put (putting byte ∷ more) = Unit {0}
is_put more = ⊥

-- the byte that was to be written, or nothing
abbrev pub maybe_that : List Call → List ℕ → Type 0
maybe_that (putting byte ∷ more) behind = (behind ≡ []) ⊎ (behind ≡ byte ∷ [])
maybe_that more behind = behind ≡ []

-- ---- by the answer

abbrev pub RunGives : ProgramData → (turns : ℕ) → (before now : Streams) → Counts → Answer → Type 0
RunGives p turns before now counts (E.Ends status) = Comes p turns before now counts (λ output rest. ended output status rest)
RunGives p turns before now counts (E.Undefined kind place) = Comes p turns before now counts (λ output rest. was_undefined kind place output rest)
RunGives p turns before now counts (E.TurnLimit n) = (n ≡ turns) × Comes p turns before now counts (λ output rest. went_on output rest)
RunGives p turns before now counts (E.Room kind counted) = Comes p turns before now counts (λ output rest. no_room kind counted output rest)
RunGives p turns before now counts E.ReadFault =
    Rose before.read_faults now.read_faults × WhereKnown before (Stopped p turns before now is_get nothing)
RunGives p turns before now counts E.WriteFault =
    Rose before.write_faults now.write_faults × WhereKnown before (Stopped p turns before now is_put maybe_that)
RunGives p turns before now counts (E.Memory want) =
    AreSteady before now × WhereKnown before (Stopped p turns before now any_calls nothing)
