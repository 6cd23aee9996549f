-- Faults in the body of `main` (C99 6.5, 6.7, 6.8).
use Rattle.std.proofs.Common.{refl, inl, inr, arith}
use Rattle.std.proofs.lemmas.List.Elements.{All-nil, All-cons}
use Rattle.std.specs.Prelude.{ℕ, ◌+◌, List, [], ◌∷◌, All, true, false, Some, None, codes}
use Rattle.lay_base.specs.declared.faults.Rule.TheVariants as R
use Rattle.c_types.specs.declared.ty.IntKind.TheVariants.{Int}
use Rattle.c_types.specs.Types.{CType, function, no_types}
use Rattle.c_ast.specs.declared.operators.UnaryOp.TheVariants as U
use Rattle.c_ast.specs.Trees
use Rattle.c_typed.specs.declared.program.MentionKind.TheVariants.{Object, Named}
use Rattle.c_typed.specs.Trees as Typed
use Rattle.c_erasure.specs.Noted.{value, way, an_object, a_value, Expression}
use Rattle.c_erasure.specs.Scopes as Scopes
use Rattle.c_erasure.specs.Scopes.{Bound, defines, FileScope, AFunction, AMention, ALocal, Scope, declared, inside, with_local, a_local}
use Rattle.c_erasure.specs.Declarators.{closed}
use Rattle.c_erasure.specs.Erasure.{Erases, IsConstant}
use Rattle.c_erasure.specs.Statements.{with_variable}
use Rattle.c_erasure.specs.MentionPlaces.{mentions_of_file}
use Rattle.c_erasure.specs.Files.{ErasesItem, IsMade, in_body}
use Rattle.c_erasure.specs.Broken.{Fault, ill_typed, undeclared, redeclared}
use Rattle.c_erasure.specs.BrokenStatements.{AreBrokenItems}
use Rattle.c_erasure.specs.BrokenFiles.{IsFaultOf}
use Rattle.c_erasure.proofs.ExampleParts.{place, word, int, ints, mention, number}

-- ---- int main(void){..}

abbrev main_type : CType
main_type = function int no_types

abbrev main_item : Trees.BlockItems → ℕ → Trees.Item
main_item items right = Trees.defines (ints 0) (Trees.function (Trees.named (word (codes "main") 4 8)) 8 (Trees.void_alone 9) 13) 14 items right

abbrev main_bound : Bound
main_bound = record { name = codes "main"; place = 4; from = 14; how = defines; entity = Scopes.a_function 0 main_type }

abbrev main_function : AFunction
main_function = record {
  name = codes "main";
  place = place 4;
  first = 4;
  ty = main_type;
  is_linked = true;
  parameters = [];
  locals = [];
  body = None;
  nodes = 0;
}

abbrev file : List AMention → FileScope
file all = record {
  file = 0;
  names = main_bound ∷ [];
  tags = [];
  records = [];
  ends = [];
  numbered = [];
  objects = [];
  functions = main_function ∷ [];
  mentions = all;
  untagged = λ at. 64 ∷ [];
}

abbrev body : List AMention → List ALocal → Scope
body all locals = in_body (file all) [] locals

-- a fault of the items of the body is one of the file
in_main : (items : Trees.BlockItems) (right : ℕ) (all : List AMention) (locals : List ALocal) (fault : Fault)
    → All (λ m. IsMade (mentions_of_file (main_item items right ∷ [])) m.at) all
    → AreBrokenItems int items (body all locals) false false fault → IsFaultOf (main_item items right ∷ []) fault
in_main items right all locals fault mentioned broken = record {
  before = [];
  item = main_item items right;
  after = [];
  whole = refl;
  annotated = file all;
  known = record {
    untagged = λ at. ([], refl);
    tags = refl;
    ends = refl;
    numbered = refl;
    records = refl;
    names = refl;
    mentions = mentioned;
    consistent = (All-nil _, tt);
    objects_in_order = tt;
    functions_in_order = (All-nil _, tt);
    each_before = All-nil (ErasesItem (file all));
  };
  broken = inr (inr (
    int,
    inl (refl, refl),
    inr (
      word (codes "main") 4 8,
      main_type,
      refl,
      (no_types, refl, inl refl, record { bytes = omega arith; parts = omega arith }, refl),
      inr (inr (inr (inr (inr ([], locals, [], 0, refl, (0, refl), (refl, refl, refl), broken))))),
    ),
  ));
}

abbrev alone : Trees.Statement → Trees.BlockItems
alone a = Trees.and_block_item (Trees.statement a) Trees.no_block_items

-- int main(void){return;}
no_value : IsFaultOf (main_item (alone (Trees.return 15 None 21)) 22 ∷ []) (ill_typed R.Return 15)
no_value = in_main (alone (Trees.return 15 None 21)) 22 [] [] (ill_typed R.Return 15) (All-nil _) (inl (refl, (λ e. cc)))

-- int main(void){return y;}
abbrev y : ℕ → Trees.Expression
y at = Trees.name (word (codes "y") at (at + 1))

no_name : IsFaultOf (main_item (alone (Trees.return 15 (Some (y 22)) 23)) 24 ∷ []) (undeclared (codes "y") 22)
no_name = in_main (alone (Trees.return 15 (Some (y 22)) 23)) 24 [] [] (undeclared (codes "y") 22) (All-nil _) (inl (inl (inl (refl, refl))))

-- int main(void){break;}
no_loop : IsFaultOf (main_item (alone (Trees.break 15 20)) 21 ∷ []) (ill_typed R.Jump 15)
no_loop = in_main (alone (Trees.break 15 20)) 21 [] [] (ill_typed R.Jump 15) (All-nil _) (inl (refl, refl))

-- ---- int main(void){int i;return *i;}

abbrev variable : List ℕ → ℕ → Trees.BlockItem
variable x at = Trees.local (record {
  specs = ints at;
  all = record { comma = None; declarator = Trees.named (word x (at + 4) (at + 5)); value = None } ∷ [];
  semicolon = at + 5;
})

abbrev i_items : Trees.BlockItems
i_items = Trees.and_block_item (variable (codes "i") 15)
    (alone (Trees.return 21 (Some (Trees.unary U.Deref 28 (Trees.name (word (codes "i") 29 30)))) 30))

abbrev spoken : List AMention
spoken = mention Named main_type 4 ∷ mention Object int 19 ∷ []

-- the two that are spoken of, in a file that speaks of more
abbrev IsSaid : List ℕ → AMention → Type 0
IsSaid more m = IsMade (4 ∷ 19 ∷ more) m.at

said : (more : List ℕ) → All (IsSaid more) spoken
said more = All-cons (IsSaid more) (mention Named main_type 4) (mention Object int 19 ∷ []) (inl refl)
    (All-cons (IsSaid more) (mention Object int 19) [] (inr (inl refl)) (All-nil (IsSaid more)))

abbrev one_local : List ℕ → List ALocal
one_local x = record { name = x; ty = int } ∷ []

abbrev after : List ℕ → Scope
after x = with_variable (body spoken (one_local x)) (word x 19 20) 0 int

abbrev the_i : Expression
the_i = value int (place 29) (Typed.load (way int (place 29) (Typed.local 0)))

no_pointer : IsFaultOf (main_item i_items 31 ∷ []) (ill_typed R.Operands 28)
no_pointer = in_main i_items 31 spoken (one_local (codes "i")) (ill_typed R.Operands 28) (said []) (inr (
  Typed.and_statement (Typed.declare 0 None) Typed.no_statements,
  after (codes "i"),
  (
    int,
    inl (refl, refl),
    (λ e. cc),
    inr (
      inl refl,
      (
        word (codes "i") 19 20,
        int,
        0,
        None,
        Typed.no_statements,
        (closed int, refl, refl, refl, refl, refl, inr (1, refl)),
        refl,
        refl,
        refl,
        (refl, refl),
      ),
    ),
  ),
  inl (inl (inr (inr (
    R.Operands,
    refl,
    (
      the_i,
      ((an_object (way int (place 29) (Typed.local 0)), refl, (a_local 0 int, refl, refl)), (refl, refl, refl, refl), refl),
      refl,
    ),
  )))),
))

-- ---- int main(void){int x;int x;return 0;}

abbrev x_items : Trees.BlockItems
x_items = Trees.and_block_item (variable (codes "x") 15) (Trees.and_block_item (variable (codes "x") 21)
    (alone (Trees.return 27 (Some (Trees.number (word (codes "0") 34 35) 0 Int)) 35)))

twice : IsFaultOf (main_item x_items 36 ∷ []) (redeclared (codes "x") 25 19)
twice = in_main x_items 36 spoken (one_local (codes "x")) (redeclared (codes "x") 25 19) (said (25 ∷ [])) (inr (
  Typed.and_statement (Typed.declare 0 None) Typed.no_statements,
  after (codes "x"),
  (
    int,
    inl (refl, refl),
    (λ e. cc),
    inr (
      inl refl,
      (
        word (codes "x") 19 20,
        int,
        0,
        None,
        Typed.no_statements,
        (closed int, refl, refl, refl, refl, refl, inr (1, refl)),
        refl,
        refl,
        refl,
        (refl, refl),
      ),
    ),
  ),
  inl (inr (inr (inr (inr (
    int,
    inl (refl, refl),
    inl (inr (inl (
      record { name = codes "x"; place = 19; from = 20; how = defines; entity = a_local 0 int },
      refl,
      refl,
    ))),
  ))))),
))

-- ---- int main(void){switch(1){case 1:case 1:;}return 0;}

abbrev one : ℕ → Trees.Expression
one at = Trees.number (word (codes "1") at (at + 1)) 1 Int

abbrev labels : List Trees.Label
labels = Trees.case 25 (one 30) 31 ∷ Trees.case 32 (one 37) 38 ∷ []

abbrev switch_items : Trees.BlockItems
switch_items = Trees.and_block_item
    (Trees.statement (Trees.switch 15 21 (one 22) 23 24
    (Trees.and_switch_item (Trees.labelled labels (Trees.evaluate None 39)) Trees.no_switch_items) 40))
    (alone (Trees.return 41 (Some (Trees.number (word (codes "0") 48 49) 0 Int)) 49))

abbrev in_switch : Scope
in_switch = inside (body [] [])

one_is_constant : (at : ℕ) → IsConstant (Erases (one at)) in_switch Int 1
one_is_constant at = (number at 1, (a_value (number at 1), refl, refl), (Int, refl, refl), refl, refl, refl)

same_case : IsFaultOf (main_item switch_items 50 ∷ []) (ill_typed R.Label 32)
same_case = in_main switch_items 50 [] [] (ill_typed R.Label 32) (All-nil _) (inl (inr (inr (inr (
  Int,
  (number 22 1, ((a_value (number 22 1), refl, refl), (Int, refl, refl), refl), refl),
  inl (inl (inr (inr (inr (Int, 1, one_is_constant 30, inr (inr (inr (inr (Int, 1, one_is_constant 37, inl (refl, inl refl)))))))))),
)))))
