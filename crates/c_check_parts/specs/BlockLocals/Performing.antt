-- What a call on a statement answers, with the file, the innermost block and the locals after it, against what the checker's definition gives.
-- Want of memory is a free answer.
use Rattle.std.specs.Prelude.{◌≡◌, true, List, map, Result, Ok, Err}
use Rattle.c_erasure.specs.Scopes as Scopes
use Rattle.c_erasure.specs.Scopes.{in_full}
use Rattle.c_erasure.specs.Statements.{Statements, followed_by}
use Rattle.c_annotated.specs.declared.file.Local.{Local}
use Rattle.c_annotated.specs.Trees.{Statement}
use Rattle.c_annotated.specs.FileViews.{local_of}
use Rattle.c_annotated.specs.Views.{statement_of, statements_of}
use Rattle.c_erasure.specs.Checking.Answers.{◌>>=◌}
use Rattle.c_erasure.specs.Checking.Statements.{Performed}
use Rattle.c_nodes.specs.declared.fault.Fault.{Fault}
use Rattle.c_nodes.specs.Gives.{Fails}
use Rattle.c_scopes.specs.declared.block.Block.{Block}
use Rattle.c_scopes.specs.declared.file_scope.FileScope.{FileScope}
use Rattle.c_scopes.specs.Scoping.{file_of}
use Rattle.c_scopes.specs.Views.{blocks_of}

-- in a block of a function, with its parameters and locals up to there
abbrev pub standing : FileScope → Block → List Local → Scopes.Scope
standing f block locals = record {
  file = file_of f;
  blocks = blocks_of block;
  is_inside = true;
  purpose = in_full;
  locals = map local_of locals;
}

abbrev pub Performs : {X Y : Type 0} → (X → Y) → Result X Fault → Performed Y → FileScope → Block → List Local → Type 0
Performs view (Ok x) r f block locals = r ≡ Ok (view x, standing f block locals)
Performs view (Err fault) r f block locals = Fails fault r

-- statements as one list
abbrev pub body_of : List Statement → Statements
body_of all = statements_of (map statement_of all)

-- statements after others
abbrev pub statements_after : Statements → Performed Statements → Performed Statements
statements_after before r = r >>= λ x. Ok (followed_by before x.0, x.1)
