-- The value of an assignment of a structure is refused where a structure may stand, after: struct s{int x;}a,b,c;
use Rattle.std.proofs.Common.{refl}
use Rattle.std.specs.Prelude.{◌≡◌, ℕ, ◌+◌, List, [], ◌∷◌, false, None, Err, codes}
use Rattle.lay_base.specs.declared.faults.Rule.TheVariants as R
use Rattle.lay_base.specs.declared.place.Place.{Place}
use Rattle.c_types.specs.declared.ty.IntKind.TheVariants.{Int}
use Rattle.c_types.specs.Types.{integer, structure, Record}
use Rattle.c_ast.specs.declared.words.Spelling.{Spelling}
use Rattle.c_ast.specs.declared.operators.AssignOp.TheVariants as A
use Rattle.c_ast.specs.declared.operators.UnaryOp.TheVariants as U
use Rattle.c_ast.specs.Trees
use Rattle.c_erasure.specs.Broken.{ill_typed}
use Rattle.c_erasure.specs.Scopes.{Bound, tentative, FileScope, Scope, at_file_scope}
use Rattle.c_erasure.specs.Scopes as Scopes
use Rattle.c_erasure.specs.Checking.Finding.{find}
use Rattle.c_erasure.specs.Checking.Initializers.{initial_record_in, initialized}
use Rattle.c_erasure.specs.Checking.Nodes.{named_in, dot_in, address_in, measured_in, measured_type, target_in, copied_in}

abbrev word : List ℕ → (from : ℕ) → Spelling
word x from = record { from = from; to = from + 1; text = x }

abbrev place : ℕ → Place
place n = record { file = 0; at = n }

abbrev a_record : Record
a_record = record { tag = codes "s"; place = place 0; fields = record { name = codes "x"; ty = integer Int; place = place 13 } ∷ [] }

abbrev object : List ℕ → (at n : ℕ) → Bound
object x at n = record { name = x; place = at; from = at; how = tentative; entity = Scopes.an_object n (structure 0) }

abbrev file : FileScope
file = record {
  file = 0;
  names = object (codes "a") 16 0 ∷ object (codes "b") 18 1 ∷ object (codes "c") 20 2 ∷ [];
  tags = record { name = codes "s"; place = 7; from = 7; is_enumeration = false } ∷ [];
  records = a_record ∷ [];
  ends = 15 ∷ [];
  numbered = codes "s" ∷ [];
  objects = [];
  functions = [];
  mentions = [];
  untagged = λ at. [];
}

abbrev scope : Scope
scope = at_file_scope file

-- a=b and (a=b) at a byte
abbrev copy : ℕ → Trees.Expression
copy n = Trees.assign (Trees.name (word (codes "a") n)) A.Plain (n + 1) (Trees.name (word (codes "b") (n + 2)))

abbrev enclosed : ℕ → Trees.Expression
enclosed n = Trees.paren n (copy (n + 1)) (n + 4)

-- (a=b).x
no_member : find (Trees.dot (enclosed 30) 35 (word (codes "x") 36)) scope ≡ Err (ill_typed R.ByValue 30)
unfolding find named_in target_in copied_in dot_in
no_member = refl

-- c=a=b
not_assigned : find (Trees.assign (Trees.name (word (codes "c") 30)) A.Plain 31 (copy 32)) scope ≡ Err (ill_typed R.ByValue 32)
unfolding find named_in target_in copied_in
not_assigned = refl

-- &(a=b)
no_address : find (Trees.unary U.Address 30 (enclosed 31)) scope ≡ Err (ill_typed R.ByValue 31)
unfolding find named_in target_in copied_in address_in
no_address = refl

-- sizeof(a=b)
no_size : find (Trees.sizeof_expression 30 (enclosed 36)) scope ≡ Err (ill_typed R.ByValue 36)
unfolding find named_in target_in copied_in measured_in measured_type
no_size = refl

-- (a=b) for an object of that type
no_initializer : initialized (enclosed 30) scope (structure 0) 0 ≡ Err (ill_typed R.ByValue 30)
unfolding initialized initial_record_in find named_in target_in copied_in
no_initializer = refl
