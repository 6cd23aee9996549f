-- Parts of definitions of functions, as the code finds them.
use Rattle.std.specs.Prelude.{ℕ, List, drop, map, take, Option, Some, None}
use Rattle.lay_base.specs.declared.faults.Rule.TheVariants as R
use Rattle.c_types.specs.Types.{CType}
use Rattle.c_ast.specs.declared.tree.Function.{Function}
use Rattle.c_ast.specs.declared.words.Spelling.{Spelling}
use Rattle.c_ast.specs.Trees
use Rattle.c_ast.specs.Views.{block_item_of, block_items_of, specifier_of, specifiers_of}
use Rattle.c_typed.specs.Trees.{Statement}
use Rattle.c_erasure.specs.Erasure.{place_in}
use Rattle.c_erasure.specs.Noted.{Noted}
use Rattle.c_erasure.specs.Scopes.{ALocal, FileScope, at_file_scope}
use Rattle.c_erasure.specs.Specifiers.{Storage}
use Rattle.c_erasure.specs.Checking.Answers.{Answer, ◌>>=◌, refused}
use Rattle.c_erasure.specs.Checking.Files.{Received, function_body}
use Rattle.c_externals.specs.Filing.{function_bound, functions_with}

abbrev pub specifiers_in : Function → Trees.Specifiers
specifiers_in f = specifiers_of (map specifier_of f.specifiers)

abbrev pub body_in : Function → Trees.BlockItems
body_in f = block_items_of (map block_item_of f.body)

-- the file in which a function is defined by a body, whose locals are these, the parameters first
abbrev pub with_definition : FileScope → ℕ → (place count nodes : ℕ) → List ALocal → Statement Noted → FileScope
with_definition f n place count nodes locals body =
    record f { functions = functions_with f.functions n (place_in (at_file_scope f) place) nodes (take count locals) (drop count locals) body }

-- a function whose parameters have names, bound in its body
abbrev pub function_defined : FileScope → Storage → Spelling → (place left nodes : ℕ) → (t result : CType) → Trees.BlockItems → Received → Answer FileScope
function_defined f words x place left nodes t result items p =
    function_bound f words x place left nodes t >>= λ n. function_body n.1 n.0 place nodes result items p

-- and where they have none, its specifiers are at fault
abbrev pub function_if_named : FileScope → Storage → Spelling → (at place left nodes : ℕ) → (t result : CType) → Trees.BlockItems → Option Received
    → Answer FileScope
function_if_named f words x at place left nodes t result items None = refused R.Specifiers at
function_if_named f words x at place left nodes t result items (Some p) = function_defined f words x place left nodes t result items p
