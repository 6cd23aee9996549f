-- Parts of declarations in blocks, as the code finds them.
use Rattle.std.specs.Prelude.{ℕ, Bool, false, List, Option, None}
use Rattle.lay_base.specs.declared.place.Place.{Place}
use Rattle.c_types.specs.Types.{CType, Record}
use Rattle.c_ast.specs.declared.words.Spelling.{Spelling}
use Rattle.c_ast.specs.Places.{first_specifiers}
use Rattle.c_ast.specs.Trees
use Rattle.c_typed.specs.Trees as Typed
use Rattle.c_erasure.specs.Noted.{Noted}
use Rattle.c_erasure.specs.Scopes.{AnObject, Scope}
use Rattle.c_erasure.specs.Statements.{Statements, with_object}
use Rattle.c_annotated.specs.Trees.{Statement as Tree}
use Rattle.c_annotated.specs.Views.{statement_of}
use Rattle.c_erasure.specs.Checking.Answers.{Answer, ◌>>=◌, moved}
use Rattle.c_erasure.specs.Checking.Declaring.{Derivation, base_kind, derived}
use Rattle.c_erasure.specs.Checking.Declaring as Files
use Rattle.c_erasure.specs.Checking.Finding.{base_type, one_of}
use Rattle.c_erasure.specs.Checking.Statements.{Performed, declare_all, in_scope, objects_in, sized_in, some_declared}
use Rattle.c_erasure.specs.Checking.Statements.{variable_type}

-- the type of an object that steps make of a type: `count` records are complete where the name stands
abbrev pub variable_made : List Record → List Derivation → CType → Option (ℕ × Trees.Expression) → (count at : ℕ) → Answer CType
variable_made records steps base value count at =
    derived records steps base >>= λ shape. sized_in records at shape value >>= λ t. variable_type records count at t

-- an object that a block declares
abbrev pub object_at : List ℕ → Place → CType → Option (Typed.Initializer Noted) → AnObject
object_at name place t initial =
    record { name = name; place = place; first = place.at; ty = t; is_linked = false; literal = None; initial = initial }

abbrev pub with_new_object : Scope → Spelling → Place → CType → Scope
with_new_object s x place t =
    with_object (moved s (Files.with_object s.file (object_at x.text place t None))) x (objects_in s) t

-- one statement
abbrev pub alone : Tree → Statements
alone st = Typed.and_statement (statement_of st) Typed.no_statements

-- a declaration of objects that are made before the program starts, or not
abbrev pub declared_with : Trees.Declaration → Scope → Bool → Performed Statements
declared_with d s static = in_scope s (base_type (base_kind d.specs) (first_specifiers d.specs) s.file (one_of d.specs s))
    >>= λ b. some_declared (first_specifiers d.specs) d.all (declare_all d.all b.1 static b.0)
