-- Annotated files of whole files (C99 6.7 to 6.9).
use Rattle.std.proofs.Common.{refl, subst, inl, inr, arith}
use Rattle.std.proofs.lemmas.List.Elements.{All-nil, All-cons, All-from_recursion}
use Rattle.std.specs.Prelude.{◌≡◌, ◌≢◌, ℕ, ◌+◌, List, [], ◌∷◌, true, Some, None, codes}
use Rattle.c_types.specs.declared.ty.IntKind.TheVariants.{Int}
use Rattle.c_types.specs.Types.{CType, function, no_types}
use Rattle.c_ast.specs.declared.words.Spelling.{Spelling}
use Rattle.c_ast.specs.declared.operators.BinaryOp.TheVariants as O
use Rattle.c_ast.specs.Trees
use Rattle.c_typed.specs.declared.operators.BinaryOp.TheVariants.{Add}
use Rattle.c_typed.specs.declared.operators.LibraryFunction.TheVariants as L
use Rattle.c_typed.specs.declared.program.MentionKind.TheVariants.{Object, Named}
use Rattle.c_typed.specs.Trees as Typed
use Rattle.c_erasure.specs.Noted.{Noted, value, way, an_object, a_value, Expression}
use Rattle.c_erasure.specs.Scopes as Scopes
use Rattle.c_erasure.specs.Scopes.{Bound, defines, tentative, FileScope, AnObject, AFunction}
use Rattle.c_erasure.specs.Declarators.{closed}
use Rattle.c_typed.specs.InitialValues.{a_number}
use Rattle.c_erasure.specs.Files.{IsOwnName, IsMainType, IsDeclaredFunction, IsIntroduced, IsTypedObject, MayStandTogether, AreConsistent, IsFileOf}
use Rattle.c_erasure.specs.Files.{ErasesItem, in_body}
use Rattle.c_erasure.proofs.ExampleParts.{differ, place, word, int, ints, mention, main_is_own, number, value_of_some, only}

-- ---- int main(void){return 256 + 3;}

abbrev sum : Trees.Expression
sum = Trees.binary (Trees.number (word (codes "256") 22 25) 256 Int) O.Add 26 (Trees.number (word (codes "3") 28 29) 3 Int)

abbrev main_item : Trees.Item
main_item = Trees.defines (ints 0) (Trees.function (Trees.named (word (codes "main") 4 8)) 8 (Trees.void_alone 9) 13) 14
    (Trees.and_block_item (Trees.statement (Trees.return 15 (Some sum) 29)) Trees.no_block_items) 30

abbrev typed_sum : Expression
typed_sum = value int (place 22) (Typed.binary Add (number 22 256) (number 28 3))

abbrev main_type : CType
main_type = function int no_types

abbrev main_body : Typed.Statements Noted
main_body = Typed.and_statement (Typed.return (Some typed_sum)) Typed.no_statements

abbrev main_function : AFunction
main_function = record {
  name = codes "main";
  place = place 4;
  first = 4;
  ty = main_type;
  is_linked = true;
  parameters = [];
  locals = [];
  body = Some (Typed.block [] main_body);
  nodes = 9;
}

abbrev main_bound : Bound
main_bound = record { name = codes "main"; place = 4; from = 14; how = defines; entity = Scopes.a_function 0 main_type }

abbrev file : FileScope
file = record {
  file = 0;
  names = main_bound ∷ [];
  tags = [];
  records = [];
  ends = [];
  numbered = [];
  objects = [];
  functions = main_function ∷ [];
  mentions = mention Named main_type 4 ∷ [];
  untagged = λ at. [];
}

main_defined : ErasesItem file main_item
main_defined = (
  int,
  int,
  no_types,
  word (codes "main") 4 8,
  0,
  main_function,
  [],
  inl (refl, refl),
  refl,
  inl refl,
  (no_types, refl, inl refl, record { bytes = omega arith; parts = omega arith }, refl),
  main_is_own,
  inr (0, refl),
  refl,
  refl,
  refl,
  refl,
  refl,
  refl,
  refl,
  (0, refl),
  (refl, refl, refl),
  (
    main_body,
    refl,
    (
      main_body,
      Typed.no_statements,
      in_body file [] [],
      refl,
      (
        Typed.return (Some typed_sum),
        refl,
        (
          typed_sum,
          refl,
          (
            a_value typed_sum,
            refl,
            (
              int,
              number 22 256,
              number 28 3,
              Typed.binary Add (number 22 256) (number 28 3),
              (a_value (number 22 256), refl, refl),
              (a_value (number 28 3), refl, refl),
              inl refl,
              refl,
            ),
          ),
        ),
        refl,
      ),
      refl,
    ),
    ((((Int, refl, refl), (Int, refl, refl), refl, refl), (refl, refl)), tt),
    refl,
  ),
)

main_file : IsFileOf (main_item ∷ []) file
main_file = record {
  tags = refl;
  ends = refl;
  numbered = refl;
  records = refl;
  names = refl;
  mentions = refl;
  each_item = All-cons (ErasesItem file) main_item [] main_defined (All-nil (ErasesItem file));
  consistent = (All-nil _, tt);
  consistent_tags = tt;
  defined_once = tt;
  small = λ i h. omega arith;
  objects_in_order = tt;
  functions_in_order = (All-nil _, tt);
  objects = λ n o e. cc;
  functions = λ n g e. only (IsDeclaredFunction file (main_item ∷ [])) main_function n g e (defines ∷ [], (λ e. cc), inl (refl, ([], refl, refl)), tt);
  initialized = λ n o i e. cc;
  main_is_no_object = All-nil _;
  main = λ n g e. only (λ n g. IsMainType g.name g.ty) main_function n g e (λ e. refl);
}

-- ---- int x; int x = 3; int main(void){return x;}

abbrev x_at : ℕ → Spelling
x_at at = word (codes "x") at (at + 1)

abbrev first_item : Trees.Item
first_item = Trees.declaration (record {
  specs = ints 0;
  all = record { comma = None; declarator = Trees.named (x_at 4); value = None } ∷ [];
  semicolon = 5;
})

abbrev three : Trees.Expression
three = Trees.number (word (codes "3") 15 16) 3 Int

abbrev second_item : Trees.Item
second_item = Trees.declaration (record {
  specs = ints 7;
  all = record { comma = None; declarator = Trees.named (x_at 11); value = Some (13, three) } ∷ [];
  semicolon = 16;
})

abbrev third_item : Trees.Item
third_item = Trees.defines (ints 18) (Trees.function (Trees.named (word (codes "main") 22 26)) 26 (Trees.void_alone 27) 31) 32
    (Trees.and_block_item (Trees.statement (Trees.return 33 (Some (Trees.name (x_at 40))) 41)) Trees.no_block_items) 42

abbrev x_items : List Trees.Item
x_items = first_item ∷ second_item ∷ third_item ∷ []

abbrev x_object : AnObject
x_object = record {
  name = codes "x";
  place = place 11;
  first = 4;
  ty = int;
  is_linked = true;
  literal = None;
  initial = Some (Typed.whole (number 15 3));
}

abbrev x_path : Typed.Path Noted
x_path = way int (place 40) (Typed.object 0)

abbrev the_x : Expression
the_x = value int (place 40) (Typed.load x_path)

abbrev x_body : Typed.Statements Noted
x_body = Typed.and_statement (Typed.return (Some the_x)) Typed.no_statements

abbrev x_main : AFunction
x_main = record {
  name = codes "main";
  place = place 22;
  first = 22;
  ty = main_type;
  is_linked = true;
  parameters = [];
  locals = [];
  body = Some (Typed.block [] x_body);
  nodes = 7;
}

abbrev tentative_x : Bound
tentative_x = record { name = codes "x"; place = 4; from = 5; how = tentative; entity = Scopes.an_object 0 int }

abbrev defined_x : Bound
defined_x = record { name = codes "x"; place = 11; from = 13; how = defines; entity = Scopes.an_object 0 int }

abbrev x_main_bound : Bound
x_main_bound = record { name = codes "main"; place = 22; from = 32; how = defines; entity = Scopes.a_function 0 main_type }

abbrev x_file : FileScope
x_file = record {
  file = 0;
  names = tentative_x ∷ defined_x ∷ x_main_bound ∷ [];
  tags = [];
  records = [];
  ends = [];
  numbered = [];
  objects = x_object ∷ [];
  functions = x_main ∷ [];
  mentions = mention Object int 4 ∷ mention Object int 11 ∷ mention Named main_type 22 ∷ [];
  untagged = λ at. [];
}

x_is_own : IsOwnName (codes "x")
x_is_own L.Malloc = differ (codes "x") (codes "malloc") refl refl
x_is_own L.Calloc = differ (codes "x") (codes "calloc") refl refl
x_is_own L.Free = differ (codes "x") (codes "free") refl refl
x_is_own L.Memcpy = differ (codes "x") (codes "memcpy") refl refl
x_is_own L.Memmove = differ (codes "x") (codes "memmove") refl refl
x_is_own L.Memset = differ (codes "x") (codes "memset") refl refl
x_is_own L.Memcmp = differ (codes "x") (codes "memcmp") refl refl
x_is_own L.Putchar = differ (codes "x") (codes "putchar") refl refl
x_is_own L.Getchar = differ (codes "x") (codes "getchar") refl refl
x_is_own L.Exit = differ (codes "x") (codes "exit") refl refl

x_declared : ErasesItem x_file first_item
x_declared = (
  int,
  refl,
  inl (refl, refl),
  inl (λ e. cc),
  (x_at 4, refl, inr (closed int, int, 0, x_object, refl, refl, refl, x_is_own, inr (0, refl), refl, refl, refl, refl, refl, refl, (0, refl), tt), tt),
)

x_defined : ErasesItem x_file second_item
x_defined = (
  int,
  refl,
  inl (refl, refl),
  inl (λ e. cc),
  (
    x_at 11,
    refl,
    inr (
      closed int,
      int,
      0,
      x_object,
      refl,
      refl,
      refl,
      x_is_own,
      inr (1, refl),
      refl,
      refl,
      refl,
      refl,
      refl,
      omega arith,
      (1, refl),
      (
        Typed.whole (number 15 3),
        (inl (number 15 3, refl, refl, inl (number 15 3, refl, refl, refl, (a_value (number 15 3), refl, refl))), (a_number Int 3, refl)),
        refl,
        refl,
      ),
    ),
    tt,
  ),
)

x_main_defined : ErasesItem x_file third_item
x_main_defined = (
  int,
  int,
  no_types,
  word (codes "main") 22 26,
  0,
  x_main,
  [],
  inl (refl, refl),
  refl,
  inl refl,
  (no_types, refl, inl refl, record { bytes = omega arith; parts = omega arith }, refl),
  main_is_own,
  inr (2, refl),
  refl,
  refl,
  refl,
  refl,
  refl,
  refl,
  refl,
  (2, refl),
  (refl, refl, refl),
  (
    x_body,
    refl,
    (
      x_body,
      Typed.no_statements,
      in_body x_file [] [],
      refl,
      (
        Typed.return (Some the_x),
        refl,
        (the_x, refl, (an_object x_path, refl, (Scopes.an_object 0 int, refl, refl))),
        refl,
      ),
      refl,
    ),
    (((refl, refl, refl, refl), (refl, refl)), tt),
    refl,
  ),
)

abbrev StandTogether : Bound → Bound → Type 0
StandTogether b c = c.name ≡ b.name → MayStandTogether b c

x_consistent : AreConsistent x_file.names
x_consistent = (
  All-cons (StandTogether tentative_x) defined_x (x_main_bound ∷ [])
      (λ e. record { same = refl; declared_again = tt; defined_once = λ e. let z : tentative ≡ defines = e.0 in cc })
      (All-cons (StandTogether tentative_x) x_main_bound [] (λ e. absurd (differ (codes "main") (codes "x") refl refl e)) (All-nil _)),
  (All-cons (StandTogether defined_x) x_main_bound [] (λ e. absurd (differ (codes "main") (codes "x") refl refl e)) (All-nil _), (All-nil _, tt)),
)

x_is_file : IsFileOf x_items x_file
x_is_file = record {
  tags = refl;
  ends = refl;
  numbered = refl;
  records = refl;
  names = refl;
  mentions = refl;
  each_item = All-from_recursion (ErasesItem x_file) x_items (x_declared, (x_defined, (x_main_defined, tt)));
  consistent = x_consistent;
  consistent_tags = tt;
  defined_once = tt;
  small = λ i h. omega arith;
  objects_in_order = (All-nil _, tt);
  functions_in_order = (All-nil _, tt);
  objects = λ n o e. only (IsIntroduced x_file x_items) x_object n o e
      (inr (tentative ∷ defines ∷ [], (λ e. cc), inl (refl, (defines ∷ [], refl, inl (refl, ([], refl, inr ((λ e. cc), refl))))), tt));
  functions = λ n g e. only (IsDeclaredFunction x_file x_items) x_main n g e
      (defines ∷ [], (λ e. cc), inr ((λ e. cc), inr ((λ e. cc), inl (refl, ([], refl, refl)))), tt);
  initialized = λ n o i e f. only (λ n o. o.initial ≡ Some i → IsTypedObject x_file o.ty i) x_object n o e
      (λ f. subst (IsTypedObject x_file int) (value_of_some (Typed.whole (number 15 3)) i f) ((Int, refl, refl), refl, (refl, refl))) f;
  main_is_no_object = All-cons (λ o. o.is_linked ≡ true → o.name ≢ codes "main") x_object [] (λ e. differ (codes "x") (codes "main") refl refl) (All-nil _);
  main = λ n g e. only (λ n g. IsMainType g.name g.ty) x_main n g e (λ e. refl);
}
