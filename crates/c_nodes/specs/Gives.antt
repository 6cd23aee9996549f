-- What a call answers, against what the checker's definition gives. Want of memory is a free answer.
use Rattle.std.specs.Prelude.{◌≡◌, Result, Ok, Err}
use Rattle.c_erasure.specs.Broken as Broken
use Rattle.c_erasure.specs.Checking.Answers.{Answer}
use Rattle.c_nodes.specs.declared.fault.Fault.{Fault}
use Rattle.c_nodes.specs.declared.fault.Fault.TheVariants.{TooBig, IllTyped, Undeclared, Redeclared, Memory}

abbrev pub Fails : {Y : Type 0} → Fault → Answer Y → Type 0
Fails (TooBig at) r = r ≡ Err (Broken.too_big at)
Fails (IllTyped rule at) r = r ≡ Err (Broken.ill_typed rule at)
Fails (Undeclared x at) r = r ≡ Err (Broken.undeclared x at)
Fails (Redeclared x at first) r = r ≡ Err (Broken.redeclared x at first)
Fails (Memory want) r = Unit {0}

abbrev pub Gives : {X Y : Type 0} → (X → Y) → Result X Fault → Answer Y → Type 0
Gives view (Ok x) r = r ≡ Ok (view x)
Gives view (Err fault) r = Fails fault r
