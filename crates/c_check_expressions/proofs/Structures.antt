-- Where a structure may be defined.
use Rattle.std.proofs.Common.{◌≡◌, ℕ, Bool, true, false, refl}
use Rattle.std.specs.Prelude.{Option, Some, None, Ok, Err, if◌then◌else◌}
use Rattle.lay_base.specs.declared.faults.Rule.TheVariants as R
use Rattle.c_types.specs.Types.{CType}
use Rattle.c_ast.specs.declared.words.Spelling.{Spelling}
use Rattle.c_erasure.specs.Broken as Broken
use Rattle.c_erasure.specs.Scopes.{Scope}
use Rattle.c_erasure.specs.Checking.Answers.{Answer, Checked, refused}
use Rattle.c_erasure.specs.Checking.Declaring.{definable, known_tag, unless}
use Rattle.c_nodes.specs.declared.fault.Fault.{Fault}
use Rattle.c_nodes.specs.Gives.{Fails}
use Rattle.c_declaring.specs.Adding.{Begins, defining}
use Rattle.c_check_expressions.proofs.Answers.{fails_so, never_fails}

pub may_begin : (s : Scope) (at : ℕ) (x : Option Spelling) (later : Checked CType)
    → s.is_inside ≡ false → definable s at x (known_tag s x) ≡ None → defining s at x later ≡ later
may_begin s at x later h g = rw (h, g) refl

fails_later : (fault : Fault) (inside : Bool) (at : ℕ) (o : Option Broken.Fault) (later : Checked CType)
    → Fails fault (let r : Answer (Unit {0}) = if inside then refused R.Scope at else unless o (Ok tt) in r)
    → Fails fault (if inside then refused R.Scope at else unless o later)
fails_later fault true at o later h = fails_so (Unit {0}) _ fault (Broken.ill_typed R.Scope at) h
fails_later fault false at (Some f) later h = fails_so (Unit {0}) _ fault f h
fails_later fault false at None later h = never_fails (Unit {0}) _ fault tt later h

pub may_not_begin : (fault : Fault) (s : Scope) (at : ℕ) (x : Option Spelling) (later : Checked CType)
    → Begins (Err fault) s at x → Fails fault (defining s at x later)
may_not_begin fault s at x later h = fails_later fault s.is_inside at (definable s at x (known_tag s x)) later h
