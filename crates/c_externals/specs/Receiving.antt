-- The parameters of a function that is defined, as the program finds them.
use Rattle.std.specs.Prelude.{ℕ, [], ◌∷◌, ◌++◌, map, Option, Some, None}
use Rattle.c_types.specs.Types.{CType}
use Rattle.c_ast.specs.declared.words.Spelling.{Spelling}
use Rattle.c_ast.specs.Views.{OneParameter}
use Rattle.c_erasure.specs.Declarators.{declared_name}
use Rattle.c_erasure.specs.Scopes.{defines, a_local}
use Rattle.c_annotated.specs.FileViews.{bound_of, local_of}
use Rattle.c_erasure.specs.Checking.Files.{Received}
use Rattle.c_externals.specs.declared.parameters.Received as declared

abbrev pub received_of : declared.Received → Received
received_of r = record { locals = map local_of r.locals; bounds = map bound_of r.names }

-- a parameter after others
abbrev pub with_one : Received → ℕ → CType → Spelling → Received
with_one done k t x = record {
  locals = done.locals ++ record { name = x.text; ty = t } ∷ [];
  bounds = done.bounds ++ record { name = x.text; place = x.from; from = x.to; how = defines; entity = a_local k t } ∷ [];
}

abbrev pub with_named : Received → ℕ → CType → Option Spelling → Option Received
with_named done k t None = None
with_named done k t (Some x) = Some (with_one done k t x)

abbrev pub with_received : Received → ℕ → OneParameter → CType → Option Received
with_received done k p t = with_named done k t (declared_name p.2)

-- those that are found after others
abbrev pub after_received : Received → Option Received → Option Received
after_received done None = None
after_received done (Some rest) = Some (record { locals = done.locals ++ rest.locals; bounds = done.bounds ++ rest.bounds })
