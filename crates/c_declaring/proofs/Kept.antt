-- What is found where the file stays as it is.
use Rattle.std.proofs.Common.{ap}
use Rattle.std.specs.Prelude.{Result, Ok, Err}
use Rattle.c_nodes.specs.declared.fault.Fault.{Fault}
use Rattle.c_nodes.specs.declared.fault.Fault.TheVariants.{TooBig, IllTyped, Undeclared, Redeclared, Memory}
use Rattle.c_nodes.specs.Gives.{Gives}
use Rattle.c_erasure.specs.Checking.Answers.{Answer, with_file}
use Rattle.c_scopes.specs.declared.file_scope.FileScope.{FileScope}
use Rattle.c_scopes.specs.Scoping.{file_of}
use Rattle.c_declaring.specs.Finds.{Finds}

pub unchanged : {X Y : Type 0} (view : X → Y) (r : Result X Fault) (a : Answer Y) (f : FileScope) → Gives view r a → Finds view r (with_file (file_of f) a) f
unchanged view (Ok x) a f h = ap (with_file (file_of f)) h
unchanged view (Err (TooBig at)) a f h = ap (with_file (file_of f)) h
unchanged view (Err (IllTyped rule at)) a f h = ap (with_file (file_of f)) h
unchanged view (Err (Undeclared x at)) a f h = ap (with_file (file_of f)) h
unchanged view (Err (Redeclared x at first)) a f h = ap (with_file (file_of f)) h
unchanged view (Err (Memory want)) a f h = tt
