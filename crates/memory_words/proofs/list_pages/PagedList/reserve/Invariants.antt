use Rattle.std.proofs.Common.{◌≡◌, ◌≤◌, ◌*◌, ◌-◌}
use Rattle.memory_words.proofs.list_pages.PagedList.reserve.Given as goal

abbrev pub invariant-loop-self : goal.invariant-loop-self
invariant-loop-self g l = (l.self.items ≡ l.fn.self.items) × (l.fn.self.room ≤ l.self.room)

abbrev pub decreases-loop-self : goal.decreases-loop-self
decreases-loop-self g l = 32768 * l.pages - l.self.room
