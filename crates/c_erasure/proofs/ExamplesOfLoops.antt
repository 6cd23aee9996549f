-- The annotated file of
--     enum {A, B = A + 2, C}; int a[C] = {1, 2}; int main(void){int i; for (i = 0; i < 3; i++) a[i] = i; return a[B - 2];}
-- (C99 6.5.2.1, 6.7.2.2, 6.7.8, 6.8.5).
use Rattle.std.proofs.Common.{refl, subst, inl, inr, ◌<◌, arith}
use Rattle.std.proofs.lemmas.List.Elements.{All-nil, All-from_recursion}
use Rattle.std.specs.Str.{bytes_eq}
use Rattle.std.specs.Prelude.{◌≡◌, ◌≢◌, ℕ, ◌+◌, List, [], ◌∷◌, map, true, false, Some, None, codes}
use Rattle.c_types.specs.declared.ty.IntKind.TheVariants.{Int}
use Rattle.c_types.specs.Types.{CType, array, function, no_types}
use Rattle.c_ast.specs.declared.operators.BinaryOp.TheVariants as O
use Rattle.c_ast.specs.declared.operators.AssignOp.TheVariants as A
use Rattle.c_ast.specs.declared.operators.StepOp.TheVariants as U
use Rattle.c_ast.specs.Trees
use Rattle.c_ast.specs.Sizes.{size_item}
use Rattle.c_typed.specs.declared.operators.BinaryOp.TheVariants.{Add, Subtract}
use Rattle.c_typed.specs.declared.operators.CompareOp.TheVariants.{Less}
use Rattle.c_typed.specs.declared.operators.StepOp.TheVariants.{Increment}
use Rattle.c_typed.specs.declared.operators.LibraryFunction.TheVariants as L
use Rattle.c_typed.specs.declared.program.MentionKind.TheVariants.{Object, Named}
use Rattle.c_typed.specs.Trees as Typed
use Rattle.c_typed.specs.Parts.{itself, of_element}
use Rattle.c_typed.specs.InitialValues.{a_number}
use Rattle.c_typed.specs.TypedStatements.{IsTypedPart}
use Rattle.c_typed.specs.Mapped.{of_types, mapped_part}
use Rattle.c_erasure.specs.Noted.{Noted, value, way, an_object, a_value, Expression}
use Rattle.c_erasure.specs.Scopes as Scopes
use Rattle.c_erasure.specs.Scopes.{Bound, Entity, Scope, defines, enumerator, a_local, FileScope, AnObject, AFunction, ALocal}
use Rattle.c_erasure.specs.Scopes.{at_file_scope, inside, declared}
use Rattle.c_erasure.specs.Declarators.{closed}
use Rattle.c_erasure.specs.Erasure.{Erases, Values, IsConstant}
use Rattle.c_erasure.specs.Initializers.{part_at, HasConstant, Part}
use Rattle.c_erasure.specs.Statements.{with_variable}
use Rattle.c_erasure.specs.Files.{IsOwnName, IsMainType, IsDeclaredFunction, IsIntroduced, IsTypedObject, MayStandTogether, AreConsistent, IsFileOf}
use Rattle.c_erasure.specs.Files.{ErasesItem, in_body}
use Rattle.c_erasure.proofs.ExampleParts.{differ, place, word, int, ints, mention, main_is_own, number, value_of_some, only}

abbrev name : List ℕ → ℕ → Trees.Expression
name x at = Trees.name (word x at (at + 1))

abbrev digit : List ℕ → ℕ → ℕ → Trees.Expression
digit x n at = Trees.number (word x at (at + 1)) n Int

-- ---- the tree

abbrev sum : Trees.Expression
sum = Trees.binary (name (codes "A") 13) O.Add 15 (digit (codes "2") 2 17)

abbrev enumerators : Trees.Enumerators
enumerators = Trees.and_enumerator None (word (codes "A") 6 7) Trees.no_value
    (Trees.and_enumerator (Some 7) (word (codes "B") 9 10) (Trees.valued 11 sum)
    (Trees.and_enumerator (Some 18) (word (codes "C") 20 21) Trees.no_value Trees.no_enumerators))

abbrev enum_item : Trees.Item
enum_item = Trees.declaration (record {
  specs = Trees.and_specifier (Trees.enum_body 0 None 5 enumerators None 21) Trees.no_specifiers;
  all = [];
  semicolon = 22;
})

abbrev initializer : Trees.Expression
initializer = Trees.braces 35 (Trees.and_argument None (digit (codes "1") 1 36)
    (Trees.and_argument (Some 37) (digit (codes "2") 2 39) Trees.no_arguments)) None 40

abbrev a_item : Trees.Item
a_item = Trees.declaration (record {
  specs = ints 24;
  all = record {
    comma = None;
    declarator = Trees.array (Trees.named (word (codes "a") 28 29)) 29 (Trees.some_expression (name (codes "C") 30)) 31;
    value = Some (33, initializer);
  } ∷ [];
  semicolon = 41;
})

abbrev i_declaration : Trees.Declaration
i_declaration = record { specs = ints 58; all = record { comma = None; declarator = Trees.named (word (codes "i") 62 63); value = None } ∷ []; semicolon = 63 }

abbrev starts : Trees.Expression
starts = Trees.assign (name (codes "i") 70) A.Plain 72 (digit (codes "0") 0 74)

abbrev tests : Trees.Expression
tests = Trees.binary (name (codes "i") 77) O.Less 79 (digit (codes "3") 3 81)

abbrev steps : Trees.Expression
steps = Trees.post (name (codes "i") 84) U.Increment 85

abbrev stores : Trees.Expression
stores = Trees.assign (Trees.index (name (codes "a") 89) 90 (name (codes "i") 91) 92) A.Plain 94 (name (codes "i") 96)

abbrev returned : Trees.Expression
returned = Trees.index (name (codes "a") 106) 107 (Trees.binary (name (codes "B") 108) O.Subtract 110 (digit (codes "2") 2 112)) 113

abbrev block_items : Trees.BlockItems
block_items = Trees.and_block_item (Trees.local i_declaration)
    (Trees.and_block_item (Trees.statement (Trees.for 65 69 (Trees.starts_with (Some starts) 75) (Some tests) 82 (Some steps) 87
    (Trees.evaluate (Some stores) 97)))
    (Trees.and_block_item (Trees.statement (Trees.return 99 (Some returned) 114)) Trees.no_block_items))

abbrev main_item : Trees.Item
main_item = Trees.defines (ints 43) (Trees.function (Trees.named (word (codes "main") 47 51)) 51 (Trees.void_alone 52) 56) 57 block_items 115

abbrev pub items : List Trees.Item
items = enum_item ∷ a_item ∷ main_item ∷ []

-- ---- the file

abbrev a_type : CType
a_type = array int 3

abbrev a_parts : List Part
a_parts = record { offset = 0; value = Typed.value (number 36 1) } ∷ record { offset = 4; value = Typed.value (number 39 2) } ∷ []

abbrev a_object : AnObject
a_object = record {
  name = codes "a";
  place = place 28;
  first = 28;
  ty = a_type;
  is_linked = true;
  literal = None;
  initial = Some (Typed.parts a_parts);
}

abbrev i_path : ℕ → Typed.Path Noted
i_path at = way int (place at) (Typed.local 0)

abbrev the_i : ℕ → Expression
the_i at = value int (place at) (Typed.load (i_path at))

abbrev a_path : ℕ → Typed.Path Noted
a_path at = way a_type (place at) (Typed.object 0)

abbrev typed_start : Expression
typed_start = value int (place 70) (Typed.assign (i_path 70) (number 74 0))

abbrev typed_test : Expression
typed_test = value int (place 77) (Typed.compare Less (the_i 77) (number 81 3))

abbrev typed_step : Expression
typed_step = value int (place 84) (Typed.step Increment false (i_path 84))

abbrev element : Typed.Path Noted
element = way int (place 89) (Typed.element (a_path 89) (the_i 91))

abbrev typed_store : Expression
typed_store = value int (place 89) (Typed.assign element (the_i 96))

abbrev typed_difference : Expression
typed_difference = value int (place 108) (Typed.binary Subtract (number 108 2) (number 112 2))

abbrev first_element : Typed.Path Noted
first_element = way int (place 106) (Typed.element (a_path 106) typed_difference)

abbrev typed_return : Expression
typed_return = value int (place 106) (Typed.load first_element)

abbrev start_statements : Typed.Statements Noted
start_statements = Typed.and_statement (Typed.evaluate typed_start) Typed.no_statements

abbrev loop : Typed.Statement Noted
loop = Typed.for [] start_statements (Some typed_test) (Some typed_step) (Typed.evaluate typed_store)

abbrev last : Typed.Statements Noted
last = Typed.and_statement (Typed.return (Some typed_return)) Typed.no_statements

abbrev declares_i : Typed.Statements Noted
declares_i = Typed.and_statement (Typed.declare 0 None) Typed.no_statements

abbrev body : Typed.Statements Noted
body = Typed.and_statement (Typed.declare 0 None) (Typed.and_statement loop last)

abbrev main_type : CType
main_type = function int no_types

abbrev i_local : ALocal
i_local = record { name = codes "i"; ty = int }

abbrev main_function : AFunction
main_function = record {
  name = codes "main";
  place = place 47;
  first = 47;
  ty = main_type;
  is_linked = true;
  parameters = [];
  locals = i_local ∷ [];
  body = Some (Typed.block (0 ∷ []) body);
  nodes = (size_item main_item).nodes;
}

abbrev bound : List ℕ → ℕ → ℕ → Entity → Bound
bound x at from e = record { name = x; place = at; from = from; how = defines; entity = e }

abbrev a_bound : Bound
a_bound = bound (codes "A") 6 7 (enumerator 0)

abbrev b_bound : Bound
b_bound = bound (codes "B") 9 18 (enumerator 2)

abbrev c_bound : Bound
c_bound = bound (codes "C") 20 21 (enumerator 3)

abbrev array_bound : Bound
array_bound = bound (codes "a") 28 33 (Scopes.an_object 0 a_type)

abbrev main_bound : Bound
main_bound = bound (codes "main") 47 57 (Scopes.a_function 0 main_type)

abbrev pub file : FileScope
file = record {
  file = 0;
  names = a_bound ∷ b_bound ∷ c_bound ∷ array_bound ∷ main_bound ∷ [];
  tags = [];
  records = [];
  ends = [];
  numbered = [];
  objects = a_object ∷ [];
  functions = main_function ∷ [];
  mentions = mention Object a_type 28 ∷ mention Named main_type 47 ∷ mention Object int 62 ∷ [];
  untagged = λ at. [];
}

-- ---- it is that of the tree

abbrev typed_sum : Expression
typed_sum = value int (place 13) (Typed.binary Add (number 13 0) (number 17 2))

sum_constant : IsConstant (Erases sum) (at_file_scope file) Int 2
sum_constant = (
  typed_sum,
  (
    a_value typed_sum,
    refl,
    (
      int,
      number 13 0,
      number 17 2,
      Typed.binary Add (number 13 0) (number 17 2),
      (a_value (number 13 0), refl, (enumerator 0, refl, refl)),
      (a_value (number 17 2), refl, refl),
      inl refl,
      refl,
    ),
  ),
  ((Int, refl, refl), (Int, refl, refl), refl, refl),
  refl,
  refl,
  refl,
)

enum_defined : ErasesItem file enum_item
enum_defined = (
  int,
  refl,
  inr (
    refl,
    (
      (
        refl,
        refl,
        (
          0,
          (refl, (λ e. absurd (omega (arith, e)))),
          (0, refl),
          (
            2,
            (Int, sum_constant, omega arith),
            (1, refl),
            (3, (refl, (λ e. absurd (omega (arith, e)))), (2, refl), tt),
          ),
        ),
      ),
      refl,
    ),
  ),
  inr refl,
  tt,
)

length_constant : IsConstant (Erases (name (codes "C") 30)) (at_file_scope file) Int 3
length_constant = (number 30 3, (a_value (number 30 3), refl, (enumerator 3, refl, refl)), (Int, refl, refl), refl, refl, refl)

a_is_own : IsOwnName (codes "a")
a_is_own L.Malloc = differ (codes "a") (codes "malloc") refl refl
a_is_own L.Calloc = differ (codes "a") (codes "calloc") refl refl
a_is_own L.Free = differ (codes "a") (codes "free") refl refl
a_is_own L.Memcpy = differ (codes "a") (codes "memcpy") refl refl
a_is_own L.Memmove = differ (codes "a") (codes "memmove") refl refl
a_is_own L.Memset = differ (codes "a") (codes "memset") refl refl
a_is_own L.Memcmp = differ (codes "a") (codes "memcmp") refl refl
a_is_own L.Putchar = differ (codes "a") (codes "putchar") refl refl
a_is_own L.Getchar = differ (codes "a") (codes "getchar") refl refl
a_is_own L.Exit = differ (codes "a") (codes "exit") refl refl

a_defined : ErasesItem file a_item
a_defined = (
  int,
  refl,
  inl (refl, refl),
  inl (λ e. cc),
  (
    word (codes "a") 28 29,
    refl,
    inr (
      closed a_type,
      a_type,
      0,
      a_object,
      (Int, 3, 3, length_constant, refl, omega arith, refl, record { bytes = omega arith; parts = omega arith }, refl),
      refl,
      refl,
      a_is_own,
      inr (0, refl),
      refl,
      refl,
      refl,
      refl,
      refl,
      refl,
      (3, refl),
      (
        Typed.parts a_parts,
        (
          inr (inr (
            a_parts,
            refl,
            inl refl,
            inr (inl (
              3,
              int,
              refl,
              tt,
              (
                2,
                part_at 0 (Typed.value (number 36 1)),
                part_at 4 (Typed.value (number 39 2)),
                refl,
                refl,
                inl (number 36 1, refl, refl, refl, (a_value (number 36 1), refl, refl)),
                (1, part_at 4 (Typed.value (number 39 2)), [], refl, refl, inl (number 39 2, refl, refl, refl, (a_value (number 39 2), refl, refl)), refl),
              ),
            )),
          )),
          All-from_recursion (λ part. HasConstant (declared (at_file_scope file)) part.value) a_parts ((a_number Int 1, refl), ((a_number Int 2, refl), tt)),
        ),
        refl,
        refl,
      ),
    ),
    tt,
  ),
)

abbrev outside : Scope
outside = in_body file [] (i_local ∷ [])

abbrev after_i : Scope
after_i = with_variable outside (word (codes "i") 62 63) 0 int

i_stands : (s : ℕ) → Values (Erases (name (codes "i") s) (inside after_i)) (the_i s)
i_stands s = (an_object (i_path s), refl, (a_local 0 int, refl, refl))

main_defined : ErasesItem file main_item
main_defined = (
  int,
  int,
  no_types,
  word (codes "main") 47 51,
  0,
  main_function,
  [],
  inl (refl, refl),
  refl,
  inl refl,
  (no_types, refl, inl refl, record { bytes = omega arith; parts = omega arith }, refl),
  main_is_own,
  inr (1, refl),
  refl,
  refl,
  refl,
  refl,
  refl,
  refl,
  refl,
  (4, refl),
  (refl, refl, refl),
  (
    body,
    refl,
    (
      declares_i,
      Typed.and_statement loop last,
      after_i,
      refl,
      (
        int,
        inl (refl, refl),
        (λ e. cc),
        inr (
          inl refl,
          (
            word (codes "i") 62 63,
            int,
            0,
            None,
            Typed.no_statements,
            (closed int, refl, refl, refl, refl, refl, inr (2, refl)),
            refl,
            refl,
            refl,
            (refl, refl),
          ),
        ),
      ),
      (
        Typed.and_statement loop Typed.no_statements,
        last,
        after_i,
        refl,
        (
          loop,
          refl,
          (
            start_statements,
            inside after_i,
            Some typed_test,
            Some typed_step,
            Typed.evaluate typed_store,
            refl,
            (
              typed_start,
              refl,
              (
                (
                  a_value typed_start,
                  refl,
                  inl (int, i_path 70, number 74 0, refl, refl, (a_local 0 int, refl, refl), (a_value (number 74 0), refl, refl)),
                ),
                refl,
              ),
              refl,
            ),
            (
              typed_test,
              refl,
              (
                (
                  a_value typed_test,
                  refl,
                  (
                    int,
                    the_i 77,
                    number 81 3,
                    Typed.compare Less (the_i 77) (number 81 3),
                    i_stands 77,
                    (a_value (number 81 3), refl, refl),
                    refl,
                    refl,
                  ),
                ),
                refl,
              ),
            ),
            (typed_step, refl, ((a_value typed_step, refl, (int, i_path 84, refl, (a_local 0 int, refl, refl))), refl)),
            (
              typed_store,
              refl,
              (
                (
                  a_value typed_store,
                  refl,
                  inl (
                    int,
                    element,
                    the_i 96,
                    refl,
                    refl,
                    inl (int, a_path 89, the_i 91, refl, refl, (Scopes.an_object 0 a_type, refl, refl), i_stands 91),
                    i_stands 96,
                  ),
                ),
                refl,
              ),
            ),
          ),
          refl,
        ),
        (
          last,
          Typed.no_statements,
          after_i,
          refl,
          (
            Typed.return (Some typed_return),
            refl,
            (
              typed_return,
              refl,
              (
                an_object first_element,
                refl,
                inl (
                  int,
                  a_path 106,
                  typed_difference,
                  refl,
                  refl,
                  (Scopes.an_object 0 a_type, refl, refl),
                  (
                    a_value typed_difference,
                    refl,
                    (
                      int,
                      number 108 2,
                      number 112 2,
                      Typed.binary Subtract (number 108 2) (number 112 2),
                      (a_value (number 108 2), refl, (enumerator 2, refl, refl)),
                      (a_value (number 112 2), refl, refl),
                      inl refl,
                      refl,
                    ),
                  ),
                ),
              ),
            ),
            refl,
          ),
          refl,
        ),
      ),
    ),
    (
      (int, refl, refl, tt),
      (
        (
          refl,
          (((refl, (Int, refl, refl), refl, refl, (refl, refl)), refl), tt),
          (((refl, refl, refl, refl), (Int, refl, refl), refl, refl, refl), (refl, refl)),
          ((refl, refl, refl), refl),
          (((refl, (refl, refl, refl, refl), refl, refl), (refl, refl, refl, refl), refl, refl, (refl, refl)), refl),
        ),
        ((((refl, ((Int, refl, refl), (Int, refl, refl), refl, refl), refl, refl), refl, refl, refl), (refl, refl)), tt),
      ),
    ),
    refl,
  ),
)

abbrev StandTogether : Bound → Bound → Type 0
StandTogether b c = c.name ≡ b.name → MayStandTogether b c

apart : (b c : Bound) → bytes_eq c.name c.name ≡ true → bytes_eq c.name b.name ≡ false → StandTogether b c
apart b c t f e = absurd (differ c.name b.name t f e)

consistent : AreConsistent file.names
consistent = (
  All-from_recursion (StandTogether a_bound) (b_bound ∷ c_bound ∷ array_bound ∷ main_bound ∷ [])
      (apart a_bound b_bound refl refl, (apart a_bound c_bound refl refl, (apart a_bound array_bound refl refl, (apart a_bound main_bound refl refl, tt)))),
  (
    All-from_recursion (StandTogether b_bound) (c_bound ∷ array_bound ∷ main_bound ∷ [])
        (apart b_bound c_bound refl refl, (apart b_bound array_bound refl refl, (apart b_bound main_bound refl refl, tt))),
    (
      All-from_recursion (StandTogether c_bound) (array_bound ∷ main_bound ∷ [])
          (apart c_bound array_bound refl refl, (apart c_bound main_bound refl refl, tt)),
      (
        All-from_recursion (StandTogether array_bound) (main_bound ∷ []) (apart array_bound main_bound refl refl, tt),
        (All-nil _, tt),
      ),
    ),
  ),
)

abbrev typed_parts : List (Typed.Part CType)
typed_parts = map (mapped_part (of_types (λ t. t.ty))) a_parts

abbrev second_part : Typed.Part CType
second_part = record { offset = 4; value = Typed.value (Typed.expression int (place 39) (Typed.constant 2)) }

initial_typed : IsTypedObject file a_type (Typed.parts a_parts)
initial_typed = (
  refl,
  All-from_recursion (IsTypedPart (declared (at_file_scope file)) a_type) typed_parts (
    (int, of_element int int 3 0 0 (omega arith) (itself int), ((Int, refl, refl), refl, (refl, refl))),
    ((int, of_element int int 3 1 0 (omega arith) (itself int), ((Int, refl, refl), refl, (refl, refl))), tt),
  ),
  (All-from_recursion (λ next. 0 < next.offset) (second_part ∷ []) (omega arith, tt), (All-nil _, tt)),
)

is_file : IsFileOf items file
is_file = record {
  tags = refl;
  ends = refl;
  numbered = refl;
  records = refl;
  names = refl;
  mentions = refl;
  each_item = All-from_recursion (ErasesItem file) items (enum_defined, (a_defined, (main_defined, tt)));
  consistent = consistent;
  consistent_tags = tt;
  defined_once = tt;
  small = λ i h. omega arith;
  objects_in_order = (All-nil _, tt);
  functions_in_order = (All-nil _, tt);
  objects = λ n o e. only (IsIntroduced file items) a_object n o e
      (inr (defines ∷ [], (λ e. cc), inr ((λ e. cc), inr ((λ e. cc), inr ((λ e. cc), inl (refl, ([], refl, inr ((λ e. cc), refl)))))), tt));
  functions = λ n g e. only (IsDeclaredFunction file items) main_function n g e
      (defines ∷ [], (λ e. cc), inr ((λ e. cc), inr ((λ e. cc), inr ((λ e. cc), inr ((λ e. cc), inl (refl, ([], refl, refl)))))), tt);
  initialized = λ n o i e f. only (λ n o. o.initial ≡ Some i → IsTypedObject file o.ty i) a_object n o e
      (λ f. subst (IsTypedObject file a_type) (value_of_some (Typed.parts a_parts) i f) initial_typed) f;
  main_is_no_object = All-from_recursion (λ o. o.is_linked ≡ true → o.name ≢ codes "main") (a_object ∷ [])
      ((λ e. differ (codes "a") (codes "main") refl refl), tt);
  main = λ n g e. only (λ n g. IsMainType g.name g.ty) main_function n g e (λ e. refl);
}
