-- Faults of declarations at file scope, and of what uses them (C99 6.7, 6.9).
use Rattle.std.proofs.Common.{refl, inl, inr, arith}
use Rattle.std.proofs.lemmas.List.Elements.{All-nil, All-cons}
use Rattle.std.specs.Prelude.{◌≡◌, ◌≢◌, ℕ, ◌+◌, ◌≤◌, List, [], ◌∷◌, All, true, false, Some, None, codes, pos}
use Rattle.lay_base.specs.declared.faults.Rule.TheVariants as R
use Rattle.c_types.specs.declared.ty.IntKind.TheVariants.{Char, Int, UInt}
use Rattle.c_types.specs.Types.{integer, array}
use Rattle.c_ast.specs.declared.words.Spelling.{Spelling}
use Rattle.c_ast.specs.declared.operators.SpecifierKeyword.TheVariants as S
use Rattle.c_ast.specs.Trees
use Rattle.c_typed.specs.declared.operators.LibraryFunction.TheVariants as L
use Rattle.c_typed.specs.declared.program.MentionKind.TheVariants.{Object, Named, Sizeof}
use Rattle.c_typed.specs.Trees as Typed
use Rattle.c_erasure.specs.Noted.{value, way, an_object, a_value, Expression, size_of}
use Rattle.c_erasure.specs.Scopes as Scopes
use Rattle.c_erasure.specs.Scopes.{Bound, enumerator, Scope, at_file_scope, for_value, defines, tentative, declares, FileScope, AnObject, AFunction, AMention}
use Rattle.c_erasure.specs.Scopes.{Tag}
use Rattle.c_erasure.specs.Declarators.{closed, open_array}
use Rattle.c_erasure.specs.Erasure.{Erases, IsConstant, IsTypeName}
use Rattle.c_erasure.specs.Files.{IsMade}
use Rattle.c_erasure.specs.Broken.{ill_typed, redeclared}
use Rattle.c_erasure.specs.BrokenFiles.{IsFaultOf}
use Rattle.c_erasure.proofs.ExampleParts.{place, word, int, ints, mention, number}

-- ---- files of one item, before which nothing stands

abbrev file : List Bound → List AnObject → List AMention → FileScope
file names objects mentions = record {
  file = 0;
  names = names;
  tags = [];
  records = [];
  ends = [];
  numbered = [];
  objects = objects;
  functions = [];
  mentions = mentions;
  untagged = λ at. 64 ∷ [];
}

abbrev declarator : Trees.Declarator → List Trees.InitDeclarator
declarator d = record { comma = None; declarator = d; value = None } ∷ []

abbrev chars : ℕ → Trees.Specifiers
chars at = Trees.and_specifier (Trees.plain S.Char at) Trees.no_specifiers

abbrev object : Trees.Specifiers → List ℕ → (from to : ℕ) → Trees.Item
object specs x from to = Trees.declaration (record { specs = specs; all = declarator (Trees.named (word x from to)); semicolon = to })

-- char main;
main_object : IsFaultOf (object (chars 0) (codes "main") 5 9 ∷ []) (ill_typed R.Main 5)
main_object = record {
  before = [];
  item = object (chars 0) (codes "main") 5 9;
  after = [];
  whole = refl;
  annotated = file [] [] [];
  known = record {
    untagged = λ at. ([], refl);
    tags = refl;
    ends = refl;
    numbered = refl;
    records = refl;
    names = refl;
    mentions = All-nil _;
    consistent = tt;
    objects_in_order = tt;
    functions_in_order = tt;
    each_before = All-nil _;
  };
  broken = inr (inr (
    integer Char,
    inl (refl, refl),
    inl (inr (
      word (codes "main") 5 9,
      closed (integer Char),
      refl,
      refl,
      inr (integer Char, refl, inr (inl (refl, (refl, inr (refl, inl refl))))),
    )),
  ));
}

-- int free;
library_object : IsFaultOf (object (ints 0) (codes "free") 4 8 ∷ []) (ill_typed R.Library 4)
library_object = record {
  before = [];
  item = object (ints 0) (codes "free") 4 8;
  after = [];
  whole = refl;
  annotated = file [] [] [];
  known = record {
    untagged = λ at. ([], refl);
    tags = refl;
    ends = refl;
    numbered = refl;
    records = refl;
    names = refl;
    mentions = All-nil _;
    consistent = tt;
    objects_in_order = tt;
    functions_in_order = tt;
    each_before = All-nil _;
  };
  broken = inr (inr (
    int,
    inl (refl, refl),
    inl (inr (
      word (codes "free") 4 8,
      closed int,
      refl,
      refl,
      inr (int, refl, inl (refl, (L.Free, refl, inr (inr (λ e. cc))))),
    )),
  ));
}

-- int a[0];
abbrev no_elements : Trees.Item
no_elements = Trees.declaration (record {
  specs = ints 0;
  all = declarator (Trees.array (Trees.named (word (codes "a") 4 5)) 5
      (Trees.some_expression (Trees.number (word (codes "0") 6 7) 0 Int)) 7);
  semicolon = 8;
})

zero_is_no_length : (n : ℕ) → 1 ≤ n → pos 0 ≢ pos n
zero_is_no_length n h e = let z : 0 ≡ n = cc in absurd (omega (arith, h, z))

empty_array : IsFaultOf (no_elements ∷ []) (ill_typed R.Length 6)
empty_array = record {
  before = [];
  item = no_elements;
  after = [];
  whole = refl;
  annotated = file [] [] [];
  known = record {
    untagged = λ at. ([], refl);
    tags = refl;
    ends = refl;
    numbered = refl;
    records = refl;
    names = refl;
    mentions = All-nil _;
    consistent = tt;
    objects_in_order = tt;
    functions_in_order = tt;
    each_before = All-nil _;
  };
  broken = inr (inr (
    int,
    inl (refl, refl),
    inl (inl (inl (
      tt,
      inr (inr (inr (
        refl,
        (Int, 0, (number 6 0, (a_value (number 6 0), refl, refl), (Int, refl, refl), refl, refl, refl), zero_is_no_length),
      ))),
    ))),
  ));
}

-- static int n = n;
abbrev statics : Trees.Specifiers
statics = Trees.and_specifier (Trees.plain S.Static 0) (ints 7)

abbrev n_at : ℕ → Spelling
n_at at = word (codes "n") at (at + 1)

abbrev own_value : Trees.Item
own_value = Trees.declaration (record {
  specs = statics;
  all = record { comma = None; declarator = Trees.named (n_at 11); value = Some (13, Trees.name (n_at 15)) } ∷ [];
  semicolon = 16;
})

abbrev n_object : AnObject
n_object = record { name = codes "n"; place = place 11; first = 11; ty = int; is_linked = false; literal = None; initial = None }

abbrev n_bound : Bound
n_bound = record { name = codes "n"; place = 11; from = 13; how = defines; entity = Scopes.an_object 0 int }

abbrev the_n : Expression
the_n = value int (place 15) (Typed.load (way int (place 15) (Typed.object 0)))

abbrev IsSaid : AMention → Type 0
IsSaid m = IsMade (11 ∷ []) m.at

said : All IsSaid (mention Object int 11 ∷ [])
said = All-cons IsSaid (mention Object int 11) [] (inl refl) (All-nil IsSaid)

no_constant : IsFaultOf (own_value ∷ []) (ill_typed R.Init 15)
no_constant = record {
  before = [];
  item = own_value;
  after = [];
  whole = refl;
  annotated = file (n_bound ∷ []) (n_object ∷ []) (mention Object int 11 ∷ []);
  known = record {
    untagged = λ at. ([], refl);
    tags = refl;
    ends = refl;
    numbered = refl;
    records = refl;
    names = refl;
    mentions = said;
    consistent = (All-nil _, tt);
    objects_in_order = (All-nil _, tt);
    functions_in_order = tt;
    each_before = All-nil _;
  };
  broken = inr (inr (
    int,
    inl (refl, refl),
    inl (inr (
      n_at 11,
      closed int,
      refl,
      refl,
      inr (
        int,
        refl,
        inr (inr (inr (inr (inr (inr (
          (0, refl, (0, refl)),
          inr (
            Typed.whole the_n,
            inl (
              the_n,
              refl,
              refl,
              inl (the_n, refl, refl, refl, (an_object (way int (place 15) (Typed.object 0)), refl, (Scopes.an_object 0 int, refl, refl))),
            ),
            ((refl, refl, refl, refl), refl, (refl, refl)),
            (λ w. cc (w.1)),
            refl,
          ),
        )))))),
      ),
    )),
  ));
}

-- int a[] = 3;
abbrev no_braces : Trees.Item
no_braces = Trees.declaration (record {
  specs = ints 0;
  all = record {
    comma = None;
    declarator = Trees.array (Trees.named (word (codes "a") 4 5)) 5 Trees.no_expression 6;
    value = Some (8, Trees.number (word (codes "3") 10 11) 3 Int);
  } ∷ [];
  semicolon = 11;
})

without_elements : IsFaultOf (no_braces ∷ []) (ill_typed R.Init 10)
without_elements = record {
  before = [];
  item = no_braces;
  after = [];
  whole = refl;
  annotated = file [] [] [];
  known = record {
    untagged = λ at. ([], refl);
    tags = refl;
    ends = refl;
    numbered = refl;
    records = refl;
    names = refl;
    mentions = All-nil _;
    consistent = tt;
    objects_in_order = tt;
    functions_in_order = tt;
    each_before = All-nil _;
  };
  broken = inr (inr (
    int,
    inl (refl, refl),
    inl (inr (word (codes "a") 4 5, open_array int, refl, (refl, refl, refl), inl (inl (refl, refl)))),
  ));
}

-- ---- int x[sizeof(enum{x})];  the scope of the enumerator begins within the declarator

abbrev with_enumerator : Trees.TypeName
with_enumerator = Trees.type_name (Trees.and_specifier (Trees.enum_body 13 None 17
    (Trees.and_enumerator None (word (codes "x") 18 19) Trees.no_value Trees.no_enumerators) None 19) Trees.no_specifiers) Trees.nothing

abbrev size : Trees.Expression
size = Trees.sizeof_type 6 12 with_enumerator 20

abbrev sized_by_itself : Trees.Item
sized_by_itself = Trees.declaration (record {
  specs = ints 0;
  all = declarator (Trees.array (Trees.named (word (codes "x") 4 5)) 5 (Trees.some_expression size) 21);
  semicolon = 22;
})

abbrev x_enumerator : Bound
x_enumerator = record { name = codes "x"; place = 18; from = 19; how = defines; entity = enumerator 0 }

abbrev enumerator_file : FileScope
enumerator_file = file (x_enumerator ∷ []) [] (mention Sizeof int 6 ∷ mention Named int 13 ∷ [])

abbrev there : Scope
there = at_file_scope enumerator_file

abbrev the_size : Expression
the_size = Typed.expression (record { ty = integer UInt; note = size_of int 6 }) (place 6) (Typed.constant 4)

names_an_enumeration : IsTypeName (for_value there) with_enumerator int
names_an_enumeration = (
  int,
  refl,
  inr (refl, ((refl, refl, (0, (refl, (λ e. absurd (omega (arith, e)))), (0, refl), tt)), refl)),
  refl,
)

a_size : IsConstant (Erases size) there UInt 4
a_size = (
  the_size,
  (a_value the_size, refl, (int, names_an_enumeration, inr (1, refl), (refl, inr (0, refl), refl, omega arith))),
  (UInt, refl, refl),
  refl,
  refl,
  refl,
)

abbrev IsSaidBySize : AMention → Type 0
IsSaidBySize m = IsMade (4 ∷ 6 ∷ 13 ∷ []) m.at

said_by_size : All IsSaidBySize (mention Sizeof int 6 ∷ mention Named int 13 ∷ [])
said_by_size = All-cons IsSaidBySize (mention Sizeof int 6) (mention Named int 13 ∷ []) (inr (inl refl))
    (All-cons IsSaidBySize (mention Named int 13) [] (inr (inr (inl refl))) (All-nil IsSaidBySize))

taken_within : IsFaultOf (sized_by_itself ∷ []) (redeclared (codes "x") 4 18)
taken_within = record {
  before = [];
  item = sized_by_itself;
  after = [];
  whole = refl;
  annotated = enumerator_file;
  known = record {
    untagged = λ at. ([], refl);
    tags = refl;
    ends = refl;
    numbered = refl;
    records = refl;
    names = refl;
    mentions = said_by_size;
    consistent = (All-nil _, tt);
    objects_in_order = tt;
    functions_in_order = tt;
    each_before = All-nil _;
  };
  broken = inr (inr (
    int,
    inl (refl, refl),
    inl (inr (
      word (codes "x") 4 5,
      closed (array int 4),
      refl,
      (UInt, 4, 4, a_size, refl, omega arith, refl, record { bytes = omega arith; parts = omega arith }, refl),
      inr (
        array int 4,
        refl,
        inr (inr (inr (inr (inl (inr (inl (
          refl,
          (0, x_enumerator, refl, refl, omega arith, (λ n e. cc), (λ j b l e i. absurd (omega (arith, l))), refl),
        ))))))),
      ),
    )),
  ));
}
