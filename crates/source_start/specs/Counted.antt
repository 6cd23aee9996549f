-- What is read of counts.
use Rattle.std.specs.Prelude.{ℕ, [], slice_get, unwrap_or}
use Rattle.source_state.specs.Steps.Counting.{Counting}

-- how often a function was entered; 0 where it has no count
abbrev pub entry_in : Counting → (function : ℕ) → ℕ
entry_in c f = unwrap_or (slice_get c.entries f) 0

-- how often the body of a loop began; 0 where it has no count
abbrev pub begin_in : Counting → (function loop : ℕ) → ℕ
begin_in c f l = unwrap_or (slice_get (unwrap_or (slice_get c.begins f) []) l) 0
