-- The annotated file of `struct S{int x; struct S *next;}; int f(struct S *p){return p->x;} int main(void){return 0;}` (C99 6.5.2.3, 6.7.2.1).
use Rattle.std.proofs.Common.{refl, inl, inr, ◌<◌, ◌≤◌, arith}
use Rattle.std.proofs.lemmas.List.Elements.{All-nil, All-cons, All-from_recursion}
use Rattle.std.specs.Prelude.{◌≡◌, ◌≢◌, ℕ, ◌+◌, List, [], ◌∷◌, true, false, Some, None, codes}
use Rattle.c_types.specs.declared.ty.IntKind.TheVariants.{Int}
use Rattle.c_types.specs.Types.{CType, pointer, function, structure, no_types, and_type, Field, Record}
use Rattle.c_types.specs.Layouts.{size_of}
use Rattle.c_types.specs.Limits.{greatest_size}
use Rattle.c_ast.specs.declared.words.Spelling.{Spelling}
use Rattle.c_ast.specs.Trees
use Rattle.c_ast.specs.Sizes.{size_item}
use Rattle.c_typed.specs.declared.operators.LibraryFunction.TheVariants as L
use Rattle.c_typed.specs.declared.program.MentionKind.TheVariants.{Named}
use Rattle.c_typed.specs.Trees as Typed
use Rattle.c_erasure.specs.Noted.{Noted, value, way, an_object, a_value, Expression}
use Rattle.c_erasure.specs.Scopes as Scopes
use Rattle.c_erasure.specs.Scopes.{Bound, Tag, defines, a_local, FileScope, AFunction, ALocal}
use Rattle.c_erasure.specs.Declarators.{closed}
use Rattle.c_erasure.specs.Files.{IsOwnName, IsMainType, IsDeclaredFunction, MayStandTogether, IsFileOf, ErasesItem, in_body}
use Rattle.c_erasure.proofs.ExampleParts.{differ, place, word, int, ints, mention, main_is_own, number, one_of_two, first_alone}

abbrev tag : ℕ → Spelling
tag at = word (codes "S") at (at + 1)

abbrev to_record : CType
to_record = pointer (structure 0)

abbrev named_specifiers : ℕ → ℕ → Trees.Specifiers
named_specifiers at tag_at = Trees.and_specifier (Trees.struct_named at (tag tag_at)) Trees.no_specifiers

abbrev next : Trees.Declarator
next = Trees.pointer 25 [] (Trees.named (word (codes "next") 26 30))

abbrev member_declarations : Trees.MemberDeclarations
member_declarations =
    Trees.and_member_declaration (ints 9) (Trees.and_member_declarator None (Trees.named (word (codes "x") 13 14)) Trees.no_member_declarators) 14
    (Trees.and_member_declaration (named_specifiers 16 23) (Trees.and_member_declarator None next Trees.no_member_declarators) 30
    Trees.no_member_declarations)

abbrev record_item : Trees.Item
record_item = Trees.declaration (record {
  specs = Trees.and_specifier (Trees.struct_body 0 (Some (tag 7)) 8 member_declarations 31) Trees.no_specifiers;
  all = [];
  semicolon = 32;
})

abbrev parameter : Trees.Declarator
parameter = Trees.pointer 49 [] (Trees.named (word (codes "p") 50 51))

abbrev f_item : Trees.Item
f_item = Trees.defines (ints 34) (Trees.function (Trees.named (word (codes "f") 38 39)) 39
    (Trees.listed (Trees.and_parameter None (named_specifiers 40 47) parameter Trees.no_parameters)) 51) 52
    (Trees.and_block_item (Trees.statement (Trees.return 53 (Some (Trees.arrow (Trees.name (word (codes "p") 60 61)) 61 (word (codes "x") 63 64))) 64))
    Trees.no_block_items) 65

abbrev main_item : Trees.Item
main_item = Trees.defines (ints 67) (Trees.function (Trees.named (word (codes "main") 71 75)) 75 (Trees.void_alone 76) 80) 81
    (Trees.and_block_item (Trees.statement (Trees.return 82 (Some (Trees.number (word (codes "0") 89 90) 0 Int)) 90)) Trees.no_block_items) 91

abbrev pub items : List Trees.Item
items = record_item ∷ f_item ∷ main_item ∷ []

-- ---- the file

abbrev x_field : Field
x_field = record { name = codes "x"; ty = int; place = place 13 }

abbrev next_field : Field
next_field = record { name = codes "next"; ty = to_record; place = place 25 }

abbrev the_record : Record
the_record = record { tag = codes "S"; place = place 0; fields = x_field ∷ next_field ∷ [] }

abbrev f_type : CType
f_type = function int (and_type to_record no_types)

abbrev p_local : ALocal
p_local = record { name = codes "p"; ty = to_record }

abbrev p_bound : Bound
p_bound = record { name = codes "p"; place = 50; from = 51; how = defines; entity = a_local 0 to_record }

abbrev p_path : Typed.Path Noted
p_path = way to_record (place 60) (Typed.local 0)

abbrev the_p : Expression
the_p = value to_record (place 60) (Typed.load p_path)

abbrev x_path : Typed.Path Noted
x_path = way int (place 60) (Typed.member (way (structure 0) (place 60) (Typed.deref the_p)) 0 0)

abbrev the_x : Expression
the_x = value int (place 60) (Typed.load x_path)

abbrev f_body : Typed.Statements Noted
f_body = Typed.and_statement (Typed.return (Some the_x)) Typed.no_statements

abbrev f : AFunction
f = record {
  name = codes "f";
  place = place 38;
  first = 38;
  ty = f_type;
  is_linked = true;
  parameters = p_local ∷ [];
  locals = [];
  body = Some (Typed.block [] f_body);
  nodes = (size_item f_item).nodes;
}

abbrev main_body : Typed.Statements Noted
main_body = Typed.and_statement (Typed.return (Some (number 89 0))) Typed.no_statements

abbrev main_type : CType
main_type = function int no_types

abbrev main_function : AFunction
main_function = record {
  name = codes "main";
  place = place 71;
  first = 71;
  ty = main_type;
  is_linked = true;
  parameters = [];
  locals = [];
  body = Some (Typed.block [] main_body);
  nodes = (size_item main_item).nodes;
}

abbrev f_bound : Bound
f_bound = record { name = codes "f"; place = 38; from = 52; how = defines; entity = Scopes.a_function 0 f_type }

abbrev main_bound : Bound
main_bound = record { name = codes "main"; place = 71; from = 81; how = defines; entity = Scopes.a_function 1 main_type }

abbrev pub file : FileScope
file = record {
  file = 0;
  names = f_bound ∷ main_bound ∷ [];
  tags = record { name = codes "S"; place = 7; from = 7; is_enumeration = false } ∷ [];
  records = the_record ∷ [];
  ends = 31 ∷ [];
  numbered = codes "S" ∷ [];
  objects = [];
  functions = f ∷ main_function ∷ [];
  mentions = mention Named int 13 ∷ mention Named to_record 25 ∷ mention Named f_type 38 ∷ mention Named to_record 49 ∷ mention Named main_type 71 ∷ [];
  untagged = λ at. [];
}

-- ---- it is that of the tree

record_defined : ErasesItem file record_item
record_defined = (
  structure 0,
  refl,
  inr (
    refl,
    (
      (
        0,
        the_record,
        refl,
        refl,
        refl,
        refl,
        refl,
        refl,
        refl,
        (
          int,
          x_field ∷ [],
          next_field ∷ [],
          refl,
          refl,
          inl (refl, refl),
          (word (codes "x") 13 14, int, [], refl, refl, refl, inr (0, refl), refl, refl),
          (
            structure 0,
            next_field ∷ [],
            [],
            refl,
            refl,
            inr (refl, ((0, refl, refl, inl refl), refl)),
            (word (codes "next") 26 30, to_record, [], refl, (record { bytes = omega arith; parts = omega arith }, refl), refl, inr (1, refl), refl, refl),
            refl,
          ),
        ),
        (All-cons (λ y. codes "x" ≢ y) (codes "next") [] (differ (codes "x") (codes "next") refl refl) (All-nil _), (All-nil _, tt)),
      ),
      refl,
    ),
  ),
  inr refl,
  tt,
)

f_is_own : IsOwnName (codes "f")
f_is_own L.Malloc = differ (codes "f") (codes "malloc") refl refl
f_is_own L.Calloc = differ (codes "f") (codes "calloc") refl refl
f_is_own L.Free = differ (codes "f") (codes "free") refl refl
f_is_own L.Memcpy = differ (codes "f") (codes "memcpy") refl refl
f_is_own L.Memmove = differ (codes "f") (codes "memmove") refl refl
f_is_own L.Memset = differ (codes "f") (codes "memset") refl refl
f_is_own L.Memcmp = differ (codes "f") (codes "memcmp") refl refl
f_is_own L.Putchar = differ (codes "f") (codes "putchar") refl refl
f_is_own L.Getchar = differ (codes "f") (codes "getchar") refl refl
f_is_own L.Exit = differ (codes "f") (codes "exit") refl refl

f_defined : ErasesItem file f_item
f_defined = (
  int,
  int,
  and_type to_record no_types,
  word (codes "f") 38 39,
  0,
  f,
  p_bound ∷ [],
  inl (refl, refl),
  refl,
  inl refl,
  (
    and_type to_record no_types,
    (
      structure 0,
      closed to_record,
      no_types,
      refl,
      inl refl,
      inr (refl, ((0, refl, refl, inl refl), refl)),
      (record { bytes = omega arith; parts = omega arith }, refl),
      refl,
      refl,
      inr (3, refl),
      refl,
    ),
    inl refl,
    record { bytes = omega arith; parts = omega arith },
    refl,
  ),
  f_is_own,
  inr (2, refl),
  refl,
  refl,
  refl,
  refl,
  refl,
  refl,
  refl,
  (0, refl),
  (word (codes "p") 50 51, to_record, no_types, [], [], refl, refl, refl, refl, (refl, refl, refl)),
  (
    f_body,
    refl,
    (
      f_body,
      Typed.no_statements,
      in_body file (p_bound ∷ []) (p_local ∷ []),
      refl,
      (
        Typed.return (Some the_x),
        refl,
        (
          the_x,
          refl,
          (
            an_object x_path,
            refl,
            (
              int,
              structure 0,
              the_p,
              0,
              0,
              (the_record, x_field, refl, refl, refl, refl),
              (an_object p_path, refl, (a_local 0 to_record, refl, refl)),
              refl,
            ),
          ),
        ),
        refl,
      ),
      refl,
    ),
    ((((((refl, refl, refl, refl), refl, refl, refl), refl, refl), refl, refl, refl), (refl, refl)), tt),
    refl,
  ),
)

main_defined : ErasesItem file main_item
main_defined = (
  int,
  int,
  no_types,
  word (codes "main") 71 75,
  1,
  main_function,
  [],
  inl (refl, refl),
  refl,
  inl refl,
  (no_types, refl, inl refl, record { bytes = omega arith; parts = omega arith }, refl),
  main_is_own,
  inr (4, refl),
  refl,
  refl,
  refl,
  refl,
  refl,
  refl,
  refl,
  (1, refl),
  (refl, refl, refl),
  (
    main_body,
    refl,
    (
      main_body,
      Typed.no_statements,
      in_body file [] [],
      refl,
      (Typed.return (Some (number 89 0)), refl, (number 89 0, refl, (a_value (number 89 0), refl, refl)), refl),
      refl,
    ),
    (((Int, refl, refl), (refl, refl)), tt),
    refl,
  ),
)

abbrev StandTogether : Bound → Bound → Type 0
StandTogether b c = c.name ≡ b.name → MayStandTogether b c

abbrev named_again : Tag
named_again = record { name = codes "S"; place = 23; from = 23; is_enumeration = false }

is_file : IsFileOf items file
is_file = record {
  tags = refl;
  ends = refl;
  numbered = refl;
  records = refl;
  names = refl;
  mentions = refl;
  each_item = All-from_recursion (ErasesItem file) items (record_defined, (f_defined, (main_defined, tt)));
  consistent = (All-cons (StandTogether f_bound) main_bound [] (λ e. absurd (differ (codes "main") (codes "f") refl refl e)) (All-nil _), (All-nil _, tt));
  consistent_tags = (
    All-cons (λ u. u.name ≡ codes "S" → (u.is_enumeration ≡ false) × (false ≡ false)) named_again [] (λ e. (refl, refl)) (All-nil _),
    (All-nil _, tt),
  );
  defined_once = (All-nil _, tt);
  small = first_alone (λ n. size_of file.records (structure n) ≤ greatest_size) the_record (omega arith);
  objects_in_order = tt;
  functions_in_order = (All-cons (λ m. 38 < m) 71 [] (omega arith) (All-nil _), (All-nil _, tt));
  objects = λ n o e. cc;
  functions = λ n g e. one_of_two (IsDeclaredFunction file items) f main_function n g e
      (defines ∷ [], (λ e. cc), inl (refl, ([], refl, inr ((λ e. cc), refl))), tt)
      (defines ∷ [], (λ e. cc), inr ((λ e. cc), inl (refl, ([], refl, refl))), tt);
  initialized = λ n o i e. cc;
  main_is_no_object = All-nil _;
  main = λ n g e. one_of_two (λ n g. IsMainType g.name g.ty) f main_function n g e (λ e. absurd (differ (codes "f") (codes "main") refl refl e)) (λ e. refl);
}
