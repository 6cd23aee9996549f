-- Files worked through by the functions of the checker (C99 6.7 to 6.9).
use Rattle.std.proofs.Common.{refl}
use Rattle.std.specs.Prelude.{◌≡◌, ℕ, List, [], ◌∷◌, true, Some, None, Ok, Err, codes}
use Rattle.lay_base.specs.declared.faults.Rule.TheVariants as R
use Rattle.lay_base.specs.declared.place.Place.{Place}
use Rattle.c_types.specs.declared.ty.IntKind.TheVariants.{Int}
use Rattle.c_types.specs.Types.{CType, integer, function, no_types}
use Rattle.c_ast.specs.declared.words.Spelling.{Spelling}
use Rattle.c_ast.specs.declared.operators.BinaryOp.TheVariants as O
use Rattle.c_ast.specs.declared.operators.SpecifierKeyword.TheVariants as S
use Rattle.c_ast.specs.Trees
use Rattle.c_typed.specs.declared.operators.BinaryOp.TheVariants.{Add}
use Rattle.c_typed.specs.declared.program.MentionKind.TheVariants.{Named}
use Rattle.c_typed.specs.Trees as Typed
use Rattle.c_erasure.specs.Broken.{ill_typed, redeclared}
use Rattle.c_erasure.specs.Noted.{value, Expression}
use Rattle.c_erasure.specs.Scopes as Scopes
use Rattle.c_erasure.specs.Scopes.{Bound, defines, FileScope, AFunction}
use Rattle.c_erasure.specs.Checking.Nodes.{worth, computed_in}
use Rattle.c_erasure.specs.Checking.Declaring.{derived, object_at}
use Rattle.c_erasure.specs.Checking.Finding.{find, type_name, one_of, derivations, parameter_list}
use Rattle.c_erasure.specs.Checking.Statements.{performed, items_in, returned_in, sized_in}
use Rattle.c_erasure.specs.Checking.Files.{annotated, filed, filed_item, file_declarators, library_named, is_main, object_of, function_of, received_by}

abbrev place : ℕ → Place
place n = record { file = 0; at = n }

abbrev word : List ℕ → (from to : ℕ) → Spelling
word x from to = record { from = from; to = to; text = x }

abbrev int : CType
int = integer Int

abbrev ints : ℕ → Trees.Specifiers
ints at = Trees.and_specifier (Trees.plain S.Int at) Trees.no_specifiers

abbrev number : ℕ → ℕ → Expression
number at n = value int (place at) (Typed.constant n)

-- ---- int main(void){return 256 + 3;}

abbrev sum : Trees.Expression
sum = Trees.binary (Trees.number (word (codes "256") 22 25) 256 Int) O.Add 26 (Trees.number (word (codes "3") 28 29) 3 Int)

abbrev main_item : Trees.Item
main_item = Trees.defines (ints 0) (Trees.function (Trees.named (word (codes "main") 4 8)) 8 (Trees.void_alone 9) 13) 14
    (Trees.and_block_item (Trees.statement (Trees.return 15 (Some sum) 29)) Trees.no_block_items) 30

abbrev main_type : CType
main_type = function int no_types

abbrev main_function : AFunction
main_function = record {
  name = codes "main";
  place = place 4;
  first = 4;
  ty = main_type;
  is_linked = true;
  parameters = [];
  locals = [];
  body = Some (Typed.block [] (Typed.and_statement (Typed.return (Some (value int (place 22) (Typed.binary Add (number 22 256) (number 28 3))))) Typed.no_statements));
  nodes = 9;
}

abbrev file : FileScope
file = record {
  file = 0;
  names = record { name = codes "main"; place = 4; from = 14; how = defines; entity = Scopes.a_function 0 main_type } ∷ [];
  tags = [];
  records = [];
  ends = [];
  numbered = [];
  objects = [];
  functions = main_function ∷ [];
  mentions = record { kind = Named; ty = main_type; at = 4 } ∷ [];
  untagged = λ at. [];
}

main_file : annotated 0 (λ at. []) (main_item ∷ []) ≡ Ok file
unfolding annotated filed filed_item find type_name one_of derivations parameter_list derived worth computed_in performed items_in returned_in library_named is_main function_of received_by
main_file = refl

-- ---- int main(void){return;}

abbrev no_value : Trees.Item
no_value = Trees.defines (ints 0) (Trees.function (Trees.named (word (codes "main") 4 8)) 8 (Trees.void_alone 9) 13) 14
    (Trees.and_block_item (Trees.statement (Trees.return 15 None 21)) Trees.no_block_items) 22

no_value_refused : annotated 0 (λ at. []) (no_value ∷ []) ≡ Err (ill_typed R.Return 15)
unfolding annotated filed filed_item find type_name one_of derivations parameter_list derived performed items_in library_named is_main function_of received_by
no_value_refused = refl

-- ---- int x;char x;

abbrev alone : Trees.Specifiers → Trees.Declarator → (semicolon : ℕ) → Trees.Item
alone specs d semicolon = Trees.declaration (record { specs = specs; all = record { comma = None; declarator = d; value = None } ∷ []; semicolon = semicolon })

two_types : annotated 0 (λ at. []) (alone (ints 0) (Trees.named (word (codes "x") 4 5)) 5
    ∷ alone (Trees.and_specifier (Trees.plain S.Char 6) Trees.no_specifiers) (Trees.named (word (codes "x") 11 12)) 12 ∷ []) ≡ Err (redeclared (codes "x") 11 4)
unfolding annotated filed filed_item file_declarators derivations derived library_named object_of is_main sized_in object_at
two_types = refl
