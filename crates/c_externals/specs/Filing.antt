-- What a call answers that declares in a file, against what the checker's definition gives. Want of memory is a free answer.
use Rattle.std.specs.Prelude.{◌≡◌, if◌then◌else◌, ℕ, List, Option, Some, None, Result, Ok, Err, slice_get, slice_set}
use Rattle.lay_base.specs.declared.place.Place.{Place}
use Rattle.c_types.specs.Types.{CType}
use Rattle.c_ast.specs.declared.words.Spelling.{Spelling}
use Rattle.c_ast.specs.Trees
use Rattle.c_typed.specs.declared.operators.LibraryFunction.{LibraryFunction}
use Rattle.c_typed.specs.Trees.{Initializer, Statement}
use Rattle.c_erasure.specs.Broken.{redeclared}
use Rattle.c_erasure.specs.Noted.{Noted}
use Rattle.c_erasure.specs.Files.{bound, object_how}
use Rattle.c_erasure.specs.Specifiers.{Storage}
use Rattle.c_erasure.specs.Checking.Answers.{Answer, ◌>>=◌, Checked}
use Rattle.c_erasure.specs.Checking.Declaring.{declared_among, with_bound}
use Rattle.c_erasure.specs.Checking.Files.{defined_among, defined_once, function_of, library_named, main_function, object_of, once, own_name}
use Rattle.c_erasure.specs.Scopes as Scopes
use Rattle.c_nodes.specs.declared.fault.Fault.{Fault}
use Rattle.c_nodes.specs.Gives.{Fails}
use Rattle.c_scopes.specs.declared.file_scope.FileScope.{FileScope}
use Rattle.c_scopes.specs.Scoping.{file_of}

-- the file after the call
abbrev pub Files : {X : Type 0} → Result X Fault → Answer Scopes.FileScope → FileScope → Type 0
Files (Ok done) r f = r ≡ Ok (file_of f)
Files (Err fault) r f = Fails fault r

-- the file scope as a place of expressions
abbrev pub file_scope : Scopes.FileScope → Scopes.Scope
file_scope f = Scopes.at_file_scope f

abbrev pub place_if_any : Option Scopes.Bound → Option ℕ
place_if_any None = None
place_if_any (Some b) = Some b.place

-- a name that stood before at some place is one too many
abbrev pub once_after : Spelling → Option ℕ → Answer (Unit {0})
once_after x None = Ok tt
once_after x (Some place) = Err (redeclared x.text x.from place)

-- an object that is defined stands where it is
abbrev pub with_initial : Place → Initializer Noted → Option Scopes.AnObject → Option Scopes.AnObject
with_initial place i None = None
with_initial place i (Some o) = Some (record o { place = place; initial = Some i })

abbrev pub objects_set : List Scopes.AnObject → ℕ → Option Scopes.AnObject → List Scopes.AnObject
objects_set all n None = all
objects_set all n (Some o) = slice_set all n o

abbrev pub objects_with : List Scopes.AnObject → ℕ → Place → Initializer Noted → List Scopes.AnObject
objects_with all n place i = objects_set all n (with_initial place i (slice_get all n))

-- a function that is defined stands where it is
abbrev pub with_body : Place → (nodes : ℕ) → (parameters locals : List Scopes.ALocal) → Statement Noted → Option Scopes.AFunction → Option Scopes.AFunction
with_body place nodes parameters locals body None = None
with_body place nodes parameters locals body (Some g) =
    Some (record g { place = place; parameters = parameters; locals = locals; body = Some body; nodes = nodes })

abbrev pub functions_set : List Scopes.AFunction → ℕ → Option Scopes.AFunction → List Scopes.AFunction
functions_set all n None = all
functions_set all n (Some g) = slice_set all n g

abbrev pub functions_with : List Scopes.AFunction → ℕ → Place → (nodes : ℕ) → (parameters locals : List Scopes.ALocal) → Statement Noted → List Scopes.AFunction
functions_with all n place nodes parameters locals body = functions_set all n (with_body place nodes parameters locals body (slice_get all n))

-- the function of the library that one part of the list names, or else another
abbrev pub either_named : Option LibraryFunction → Option LibraryFunction → Option LibraryFunction
either_named None r = r
either_named (Some which) r = Some which

-- the object of a declaration, whose name is bound before its initializer is read
abbrev pub object_bound : Scopes.FileScope → Storage → Spelling → (place from : ℕ) → CType → Option (ℕ × Trees.Expression) → Checked ℕ
object_bound f words x place from t value = own_name x.from (library_named x.text)
    (object_of f words x place t (declared_among f.names x.text) >>= λ n. defined_once f x value
    (Ok (n.0, with_bound n.1 (bound x from (object_how words value) (Scopes.an_object n.0 t)))))

-- the function of a definition, whose name is bound in its body
abbrev pub function_bound : Scopes.FileScope → Storage → Spelling → (place left nodes : ℕ) → CType → Checked ℕ
function_bound f words x place left nodes t = own_name x.from (library_named x.text) (main_function x.text x.from t
    (function_of f words x place t nodes (declared_among f.names x.text) >>= λ n. once x (defined_among f.names x.text)
    (Ok (n.0, with_bound n.1 (bound x left Scopes.defines (Scopes.a_function n.0 t))))))

-- where a name stands that is none of the library's
abbrev pub other_place : Option Scopes.Bound → Option ℕ
other_place None = None
other_place (Some b) = place_unless b.entity
  where
    place_unless : Scopes.Entity → Option ℕ
    place_unless (Scopes.a_library_function which) = None
    place_unless e = Some b.place
