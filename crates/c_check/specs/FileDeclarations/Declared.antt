-- Parts of declarations at file scope, as the code finds them.
use Rattle.std.specs.Prelude.{ℕ, List, Option}
use Rattle.c_types.specs.Types.{CType, Record}
use Rattle.c_ast.specs.declared.words.Spelling.{Spelling}
use Rattle.c_ast.specs.Places.{first_declarator}
use Rattle.c_ast.specs.Trees
use Rattle.c_typed.specs.declared.program.MentionKind.TheVariants.{Object, Named}
use Rattle.c_erasure.specs.Scopes.{FileScope, at_file_scope}
use Rattle.c_erasure.specs.Specifiers.{Storage}
use Rattle.c_erasure.specs.Checking.Answers.{Answer, ◌>>=◌}
use Rattle.c_erasure.specs.Checking.Declaring.{Derivation, derived, mentions_in, object_at, with_mention}
use Rattle.c_erasure.specs.Checking.Files.{declare_as, declare_function, declare_object, declare_typedef, library_named, without_value}
use Rattle.c_erasure.specs.Checking.Finding.{complete, derivations}
use Rattle.c_erasure.specs.Checking.Statements.{sized_in}

-- the type that steps make of a type
abbrev pub type_made : List Record → List Derivation → CType → Option (ℕ × Trees.Expression) → (at : ℕ) → Answer CType
type_made records steps base value at = derived records steps base >>= λ shape. sized_in records at shape value

-- ---- by the storage class and the type; `before` is how many types the file has spoken of before the declarator

abbrev pub type_declared : (before place from : ℕ) → Spelling → CType → Option (ℕ × Trees.Expression) → FileScope → Answer FileScope
type_declared before place from x t value f =
    without_value x.from value (declare_typedef (with_mention (at_file_scope f) before Named t place f) x from t)

abbrev pub function_declared : Storage → (before place from : ℕ) → Spelling → CType → Option (ℕ × Trees.Expression) → (nodes : ℕ) → FileScope
    → Answer FileScope
function_declared words before place from x t value nodes f = without_value x.from value
    (declare_function (with_mention (at_file_scope f) before Named t place f) words x place from t nodes (library_named x.text))

abbrev pub object_declared : Storage → (before place from : ℕ) → Spelling → CType → Option (ℕ × Trees.Expression) → FileScope → Answer FileScope
object_declared words before place from x t value f = object_at f.records (complete (at_file_scope f) x.from) x.from t
    >>= λ u. declare_object (with_mention (at_file_scope f) before Object u place f) words x place from u value

-- a declarator with a name
abbrev pub named_declarator : FileScope → Storage → CType → Trees.InitDeclarator → (from nodes : ℕ) → Spelling → Answer FileScope
named_declarator f words base d from nodes x = derivations d.declarator (at_file_scope f)
    >>= λ steps. type_made steps.1.records steps.0 base d.value x.from
    >>= λ t. declare_as words (mentions_in f) (first_declarator d.declarator x.from) from x t d nodes steps.1
