-- Faults of what stands after other items of the file (C99 6.5.2, 6.7).
use Rattle.std.proofs.Common.{refl, inl, inr, arith}
use Rattle.std.proofs.lemmas.List.Elements.{All-nil, All-cons}
use Rattle.std.specs.Prelude.{◌≡◌, ℕ, ◌+◌, ◌<◌, List, [], ◌∷◌, All, true, false, Some, None, codes}
use Rattle.lay_base.specs.declared.faults.Rule.TheVariants as R
use Rattle.c_types.specs.declared.ty.IntKind.TheVariants.{Char, Int}
use Rattle.c_types.specs.Types.{CType, integer, pointer, structure, function, no_types, and_type, Field, Record}
use Rattle.c_ast.specs.declared.operators.SpecifierKeyword.TheVariants as S
use Rattle.c_ast.specs.Trees
use Rattle.c_typed.specs.declared.operators.LibraryFunction.TheVariants as L
use Rattle.c_typed.specs.declared.program.MentionKind.TheVariants.{Object, Named}
use Rattle.c_typed.specs.Trees as Typed
use Rattle.c_erasure.specs.Noted.{value, way, an_object, a_function, Expression}
use Rattle.c_erasure.specs.Scopes as Scopes
use Rattle.c_erasure.specs.Scopes.{Bound, defines, tentative, declares, a_local, FileScope, AnObject, AFunction, AMention, Tag}
use Rattle.c_erasure.specs.Declarators.{closed}
use Rattle.c_erasure.specs.Files.{IsOwnName, IsMade, MayStandTogether, ErasesItem}
use Rattle.c_erasure.specs.Broken.{ill_typed, redeclared}
use Rattle.c_erasure.specs.BrokenFiles.{IsFaultOf}
use Rattle.c_erasure.proofs.ExampleParts.{differ, place, word, int, ints, mention}

-- what is spoken of at one of some places
abbrev IsAt : List ℕ → AMention → Type 0
IsAt places m = IsMade places m.at

-- ---- int x;char x;

abbrev object : Trees.Specifiers → Trees.Declarator → ℕ → Trees.Item
object specs d semicolon = Trees.declaration (record {
  specs = specs;
  all = record { comma = None; declarator = d; value = None } ∷ [];
  semicolon = semicolon;
})

abbrev x_int : Trees.Item
x_int = object (ints 0) (Trees.named (word (codes "x") 4 5)) 5

abbrev x_char : Trees.Item
x_char = object (Trees.and_specifier (Trees.plain S.Char 6) Trees.no_specifiers) (Trees.named (word (codes "x") 11 12)) 12

x_is_own : IsOwnName (codes "x")
x_is_own L.Malloc = differ (codes "x") (codes "malloc") refl refl
x_is_own L.Calloc = differ (codes "x") (codes "calloc") refl refl
x_is_own L.Free = differ (codes "x") (codes "free") refl refl
x_is_own L.Memcpy = differ (codes "x") (codes "memcpy") refl refl
x_is_own L.Memmove = differ (codes "x") (codes "memmove") refl refl
x_is_own L.Memset = differ (codes "x") (codes "memset") refl refl
x_is_own L.Memcmp = differ (codes "x") (codes "memcmp") refl refl
x_is_own L.Putchar = differ (codes "x") (codes "putchar") refl refl
x_is_own L.Getchar = differ (codes "x") (codes "getchar") refl refl
x_is_own L.Exit = differ (codes "x") (codes "exit") refl refl

abbrev x_object : AnObject
x_object = record { name = codes "x"; place = place 4; first = 4; ty = int; is_linked = true; literal = None; initial = None }

abbrev tentative_x : Bound
tentative_x = record { name = codes "x"; place = 4; from = 5; how = tentative; entity = Scopes.an_object 0 int }

abbrev x_file : FileScope
x_file = record {
  file = 0;
  names = tentative_x ∷ [];
  tags = [];
  records = [];
  ends = [];
  numbered = [];
  objects = x_object ∷ [];
  functions = [];
  mentions = mention Object int 4 ∷ [];
  untagged = λ at. 64 ∷ [];
}

x_declared : ErasesItem x_file x_int
x_declared = (
  int,
  refl,
  inl (refl, refl),
  inl (λ e. cc),
  (
    word (codes "x") 4 5,
    refl,
    inr (closed int, int, 0, x_object, refl, refl, refl, x_is_own, inr (0, refl), refl, refl, refl, refl, refl, refl, (0, refl), tt),
    tt,
  ),
)

said_of_x : All (IsAt (4 ∷ 11 ∷ [])) (mention Object int 4 ∷ [])
said_of_x = All-cons (IsAt (4 ∷ 11 ∷ [])) (mention Object int 4) ([]) (inl refl) (All-nil (IsAt (4 ∷ 11 ∷ [])))

another_type : IsFaultOf (x_int ∷ x_char ∷ []) (redeclared (codes "x") 11 4)
another_type = record {
  before = x_int ∷ [];
  item = x_char;
  after = [];
  whole = refl;
  annotated = x_file;
  known = record {
    untagged = λ at. ([], refl);
    tags = refl;
    ends = refl;
    numbered = refl;
    records = refl;
    names = refl;
    mentions = said_of_x;
    consistent = (All-nil _, tt);
    objects_in_order = (All-nil _, tt);
    functions_in_order = tt;
    each_before = All-cons (ErasesItem x_file) x_int [] x_declared (All-nil (ErasesItem x_file));
  };
  broken = inr (inr (
    integer Char,
    inl (refl, refl),
    inl (inr (
      word (codes "x") 11 12,
      closed (integer Char),
      refl,
      refl,
      inr (
        integer Char,
        refl,
        inr (inr (inr (inr (inl (inr (inl (refl, (0, tentative_x, refl, refl, omega arith, (λ n e. cc), (λ j b l e i. absurd (omega (arith, l))), refl)))))))),
      ),
    )),
  ));
}

-- ---- struct S{int x;};struct S{int y;};

abbrev record_of : (at : ℕ) → List ℕ → Trees.Item
record_of at x = Trees.declaration (record {
  specs = Trees.and_specifier (Trees.struct_body at (Some (word (codes "S") (at + 7) (at + 8))) (at + 8)
      (Trees.and_member_declaration (ints (at + 9))
      (Trees.and_member_declarator None (Trees.named (word x (at + 13) (at + 14))) Trees.no_member_declarators) (at + 14)
      Trees.no_member_declarations) (at + 15)) Trees.no_specifiers;
  all = [];
  semicolon = at + 16;
})

abbrev x_field : Field
x_field = record { name = codes "x"; ty = int; place = place 13 }

abbrev the_record : Record
the_record = record { tag = codes "S"; place = place 0; fields = x_field ∷ [] }

abbrev the_tag : Tag
the_tag = record { name = codes "S"; place = 7; from = 7; is_enumeration = false }

abbrev with_record : List Bound → List AFunction → List ℕ → List (List ℕ) → List AMention → FileScope
with_record names functions ends numbered more = record {
  file = 0;
  names = names;
  tags = the_tag ∷ [];
  records = the_record ∷ [];
  ends = 15 ∷ ends;
  numbered = codes "S" ∷ numbered;
  objects = [];
  functions = functions;
  mentions = mention Named int 13 ∷ more;
  untagged = λ at. 64 ∷ [];
}

record_defined : (names : List Bound) (functions : List AFunction) (ends : List ℕ) (numbered : List (List ℕ)) (more : List AMention)
    → ErasesItem (with_record names functions ends numbered more) (record_of 0 (codes "x"))
record_defined names functions ends numbered more = (
  structure 0,
  refl,
  inr (
    refl,
    (
      (
        0,
        the_record,
        refl,
        refl,
        refl,
        refl,
        refl,
        refl,
        refl,
        (
          int,
          x_field ∷ [],
          [],
          refl,
          refl,
          inl (refl, refl),
          (word (codes "x") 13 14, int, [], refl, refl, refl, inr (0, refl), refl, refl),
          refl,
        ),
        (All-nil _, tt),
      ),
      refl,
    ),
  ),
  inr refl,
  tt,
)

abbrev twice : FileScope
twice = with_record [] [] (32 ∷ []) (codes "S" ∷ []) []

said_of_record : All (IsAt (13 ∷ 30 ∷ [])) (mention Named int 13 ∷ [])
said_of_record = All-cons (IsAt (13 ∷ 30 ∷ [])) (mention Named int 13) ([]) (inl refl) (All-nil (IsAt (13 ∷ 30 ∷ [])))

defined_twice : IsFaultOf (record_of 0 (codes "x") ∷ record_of 17 (codes "y") ∷ []) (redeclared (codes "S") 24 0)
defined_twice = record {
  before = record_of 0 (codes "x") ∷ [];
  item = record_of 17 (codes "y");
  after = [];
  whole = refl;
  annotated = twice;
  known = record {
    untagged = λ at. ([], refl);
    tags = refl;
    ends = refl;
    numbered = refl;
    records = refl;
    names = refl;
    mentions = said_of_record;
    consistent = tt;
    objects_in_order = tt;
    functions_in_order = tt;
    each_before = All-cons (ErasesItem twice) (record_of 0 (codes "x")) [] (record_defined [] [] (32 ∷ []) (codes "S" ∷ []) [])
        (All-nil (ErasesItem twice));
  };
  broken = inr (inl (inl (inr (inr (inr (inl (0, 15, the_record, refl, refl, refl, omega arith, refl)))))));
}

-- ---- struct S{int x;};int f(struct S *p){return p->z;}int main(void){return 0;}

abbrev main_item : Trees.Item
main_item = Trees.defines (ints 49) (Trees.function (Trees.named (word (codes "main") 53 57)) 57 (Trees.void_alone 58) 62) 63
    (Trees.and_block_item (Trees.statement (Trees.return 64 (Some (Trees.number (word (codes "0") 71 72) 0 Int)) 72)) Trees.no_block_items) 73

abbrev no_member : Trees.Expression
no_member = Trees.arrow (Trees.name (word (codes "p") 43 44)) 44 (word (codes "z") 46 47)

abbrev parameter : Trees.Parameters
parameter = Trees.and_parameter None
    (Trees.and_specifier (Trees.struct_named 23 (word (codes "S") 30 31)) Trees.no_specifiers)
    (Trees.pointer 32 [] (Trees.named (word (codes "p") 33 34))) Trees.no_parameters

abbrev f_item : Trees.Item
f_item = Trees.defines (ints 17) (Trees.function (Trees.named (word (codes "f") 21 22)) 22 (Trees.listed parameter) 34) 35
    (Trees.and_block_item (Trees.statement (Trees.return 36 (Some no_member) 47)) Trees.no_block_items) 48

abbrev to_record : CType
to_record = pointer (structure 0)

abbrev f_type : CType
f_type = function int (and_type to_record no_types)

abbrev f_bound : Bound
f_bound = record { name = codes "f"; place = 21; from = 35; how = defines; entity = Scopes.a_function 0 f_type }

abbrev more_said : List AMention
more_said = mention Named f_type 21 ∷ mention Named to_record 32 ∷ []

abbrev f_function : AFunction
f_function = record {
  name = codes "f";
  place = place 21;
  first = 21;
  ty = f_type;
  is_linked = true;
  parameters = [];
  locals = [];
  body = None;
  nodes = 0;
}

abbrev f_file : FileScope
f_file = with_record (f_bound ∷ []) (f_function ∷ []) [] [] more_said

abbrev the_p : Expression
the_p = value to_record (place 43) (Typed.load (way to_record (place 43) (Typed.local 0)))

said_of_f : All (IsAt (13 ∷ 21 ∷ 32 ∷ 53 ∷ [])) (mention Named int 13 ∷ mention Named f_type 21 ∷ mention Named to_record 32 ∷ [])
said_of_f = All-cons (IsAt (13 ∷ 21 ∷ 32 ∷ 53 ∷ [])) (mention Named int 13) (mention Named f_type 21 ∷ mention Named to_record 32 ∷ []) (inl refl) (All-cons (IsAt (13 ∷ 21 ∷ 32 ∷ 53 ∷ [])) (mention Named f_type 21) (mention Named to_record 32 ∷ []) (inr (inl refl)) (All-cons (IsAt (13 ∷ 21 ∷ 32 ∷ 53 ∷ [])) (mention Named to_record 32) ([]) (inr (inr (inl refl))) (All-nil (IsAt (13 ∷ 21 ∷ 32 ∷ 53 ∷ [])))))

without_member : IsFaultOf (record_of 0 (codes "x") ∷ f_item ∷ main_item ∷ []) (ill_typed R.Member 46)
without_member = record {
  before = record_of 0 (codes "x") ∷ [];
  item = f_item;
  after = main_item ∷ [];
  whole = refl;
  annotated = f_file;
  known = record {
    untagged = λ at. ([], refl);
    tags = refl;
    ends = refl;
    numbered = refl;
    records = refl;
    names = refl;
    mentions = said_of_f;
    consistent = (All-nil _, tt);
    objects_in_order = tt;
    functions_in_order = (All-nil _, tt);
    each_before = All-cons (ErasesItem f_file) (record_of 0 (codes "x")) [] (record_defined (f_bound ∷ []) (f_function ∷ []) [] [] more_said)
        (All-nil (ErasesItem f_file));
  };
  broken = inr (inr (
    int,
    inl (refl, refl),
    inr (
      word (codes "f") 21 22,
      f_type,
      refl,
      (
        and_type to_record no_types,
        (
          structure 0,
          closed to_record,
          no_types,
          refl,
          inl refl,
          inr (refl, ((0, refl, refl, inl refl), refl)),
          (record { bytes = omega arith; parts = omega arith }, refl),
          refl,
          refl,
          inr (2, refl),
          refl,
        ),
        inl refl,
        record { bytes = omega arith; parts = omega arith },
        refl,
      ),
      inr (inr (inr (inr (inr (
        record { name = codes "p"; ty = to_record } ∷ [],
        [],
        record { name = codes "p"; place = 33; from = 34; how = defines; entity = a_local 0 to_record } ∷ [],
        0,
        refl,
        (0, refl),
        (word (codes "p") 33 34, to_record, no_types, [], [], refl, refl, refl, refl, (refl, refl, refl)),
        inl (inl (inr (inr (
          R.Member,
          (
            the_p,
            ((an_object (way to_record (place 43) (Typed.local 0)), refl, (a_local 0 to_record, refl, refl)), (refl, refl, refl, refl), refl),
            inr (the_record, refl, refl, refl, refl),
          ),
          refl,
        )))),
      ))))),
    ),
  ));
}

-- ---- int f(int);int main(void){return f();}

abbrev g_item : Trees.Item
g_item = object (ints 0) (Trees.function (Trees.named (word (codes "f") 4 5)) 5
    (Trees.listed (Trees.and_parameter None (ints 6) Trees.nothing Trees.no_parameters)) 9) 10

abbrev calls : Trees.Item
calls = Trees.defines (ints 11) (Trees.function (Trees.named (word (codes "main") 15 19)) 19 (Trees.void_alone 20) 24) 25
    (Trees.and_block_item
    (Trees.statement (Trees.return 26 (Some (Trees.call (Trees.name (word (codes "f") 33 34)) 34 Trees.no_arguments 35)) 36))
    Trees.no_block_items) 37

f_is_own : IsOwnName (codes "f")
f_is_own L.Malloc = differ (codes "f") (codes "malloc") refl refl
f_is_own L.Calloc = differ (codes "f") (codes "calloc") refl refl
f_is_own L.Free = differ (codes "f") (codes "free") refl refl
f_is_own L.Memcpy = differ (codes "f") (codes "memcpy") refl refl
f_is_own L.Memmove = differ (codes "f") (codes "memmove") refl refl
f_is_own L.Memset = differ (codes "f") (codes "memset") refl refl
f_is_own L.Memcmp = differ (codes "f") (codes "memcmp") refl refl
f_is_own L.Putchar = differ (codes "f") (codes "putchar") refl refl
f_is_own L.Getchar = differ (codes "f") (codes "getchar") refl refl
f_is_own L.Exit = differ (codes "f") (codes "exit") refl refl

abbrev of_int : CType
of_int = function int (and_type int no_types)

abbrev main_type : CType
main_type = function int no_types

abbrev g_function : AFunction
g_function = record {
  name = codes "f";
  place = place 4;
  first = 4;
  ty = of_int;
  is_linked = true;
  parameters = [];
  locals = [];
  body = None;
  nodes = 0;
}

abbrev g_bound : Bound
g_bound = record { name = codes "f"; place = 4; from = 10; how = declares; entity = Scopes.a_function 0 of_int }

abbrev main_bound : Bound
main_bound = record { name = codes "main"; place = 15; from = 25; how = defines; entity = Scopes.a_function 1 main_type }

abbrev main_function : AFunction
main_function = record {
  name = codes "main";
  place = place 15;
  first = 15;
  ty = main_type;
  is_linked = true;
  parameters = [];
  locals = [];
  body = None;
  nodes = 0;
}

abbrev g_file : FileScope
g_file = record {
  file = 0;
  names = g_bound ∷ main_bound ∷ [];
  tags = [];
  records = [];
  ends = [];
  numbered = [];
  objects = [];
  functions = g_function ∷ main_function ∷ [];
  mentions = mention Named of_int 4 ∷ mention Named int 6 ∷ mention Named main_type 15 ∷ [];
  untagged = λ at. 64 ∷ [];
}

g_declared : ErasesItem g_file g_item
g_declared = (
  int,
  refl,
  inl (refl, refl),
  inl (λ e. cc),
  (
    word (codes "f") 4 5,
    refl,
    inl (
      of_int,
      refl,
      (
        and_type int no_types,
        (int, closed int, no_types, refl, inl refl, inl (refl, refl), refl, refl, tt, inr (1, refl), refl),
        inl refl,
        record { bytes = omega arith; parts = omega arith },
        refl,
      ),
      refl,
      inr (0, refl),
      inr (0, g_function, f_is_own, refl, refl, refl, refl, refl, (0, refl)),
    ),
    tt,
  ),
)

abbrev StandTogether : Bound → Bound → Type 0
StandTogether b c = c.name ≡ b.name → MayStandTogether b c

said_of_g : All (IsAt (4 ∷ 6 ∷ 15 ∷ [])) (mention Named of_int 4 ∷ mention Named int 6 ∷ mention Named main_type 15 ∷ [])
said_of_g = All-cons (IsAt (4 ∷ 6 ∷ 15 ∷ [])) (mention Named of_int 4) (mention Named int 6 ∷ mention Named main_type 15 ∷ []) (inl refl) (All-cons (IsAt (4 ∷ 6 ∷ 15 ∷ [])) (mention Named int 6) (mention Named main_type 15 ∷ []) (inr (inl refl)) (All-cons (IsAt (4 ∷ 6 ∷ 15 ∷ [])) (mention Named main_type 15) ([]) (inr (inr (inl refl))) (All-nil (IsAt (4 ∷ 6 ∷ 15 ∷ [])))))

no_argument : IsFaultOf (g_item ∷ calls ∷ []) (ill_typed R.Arguments 35)
no_argument = record {
  before = g_item ∷ [];
  item = calls;
  after = [];
  whole = refl;
  annotated = g_file;
  known = record {
    untagged = λ at. ([], refl);
    tags = refl;
    ends = refl;
    numbered = refl;
    records = refl;
    names = refl;
    mentions = said_of_g;
    consistent = (All-cons (StandTogether g_bound) main_bound [] (λ e. absurd (differ (codes "main") (codes "f") refl refl e)) (All-nil _), (All-nil _, tt));
    objects_in_order = tt;
    functions_in_order = (All-cons (λ at. 4 < at) 15 [] (omega arith) (All-nil _), (All-nil _, tt));
    each_before = All-cons (ErasesItem g_file) g_item [] g_declared (All-nil (ErasesItem g_file));
  };
  broken = inr (inr (
    int,
    inl (refl, refl),
    inr (
      word (codes "main") 15 19,
      main_type,
      refl,
      (no_types, refl, inl refl, record { bytes = omega arith; parts = omega arith }, refl),
      inr (inr (inr (inr (inr (
        [],
        [],
        [],
        1,
        refl,
        (1, refl),
        (refl, refl, refl),
        inl (inl (inr (inr (inr (
          and_type int no_types,
          (a_function (place 33) 0 of_int, ((Scopes.a_function 0 of_int, refl, refl), refl), refl),
          refl,
        ))))),
      ))))),
    ),
  ));
}
