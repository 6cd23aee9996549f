-- What completeness asks holds of `char s[] = "ab";`, of `int a[2][2] = {{1, 2}, {3}};` and of `static int x = 1;` in a function: they are found.
use Rattle.std.proofs.Common.{◌≡◌, ℕ, ◌+◌, ◌*◌, ◌<◌, List, [], ◌∷◌, refl, arith, inl, inr}
use Rattle.std.proofs.lemmas.List.Elements.{All-nil, All-cons}
use Rattle.std.specs.Prelude.{codes, Some, None}
use Rattle.c_types.specs.declared.ty.IntKind.TheVariants.{Char, Int}
use Rattle.c_types.specs.Types.{CType, integer, array}
use Rattle.c_tokens.specs.QuotedScan.{string_bytes}
use Rattle.c_ast.specs.declared.words.Spelling.{Spelling}
use Rattle.c_ast.specs.Trees
use Rattle.c_typed.specs.Trees as Typed
use Rattle.c_typed.specs.Conversions.{as_kind}
use Rattle.c_typed.specs.Mapped.{of_types, mapped_part}
use Rattle.c_typed.specs.TypedStatements.{IsTypedPart, IsTypedInitializer}
use Rattle.c_typed.specs.Parts as Lying
use Rattle.c_erasure.specs.Erasure.{literal_of}
use Rattle.c_erasure.specs.Initializers.{Part, part_at, IsInitializer, Initializes}
use Rattle.c_erasure.specs.Noted.{Expression, a_value, value}
use Rattle.c_erasure.specs.Scopes.{FileScope, Scope, declared}
use Rattle.c_erasure.specs.Checking.Initializers.{initializer}
use Rattle.c_checking_laws.proofs.Extends.{itself}
use Rattle.c_checking_laws.proofs.CompletePart.{Lists, part, IsWhole, Done}
use Rattle.c_checking_laws.proofs.CompleteStatements.{inner, outer}
use Rattle.c_checking_laws.proofs.CompleteLocals.{walk_of_initializer}
use Rattle.c_checking_laws.proofs.CompleteWhole.{is_whole}
use Rattle.c_checking_laws.proofs.WholeFiles.CompleteWholes.{AsTyped, initials_complete}

abbrev empty : FileScope
empty = record {
  file = 0;
  names = [];
  tags = [];
  records = [];
  ends = [];
  numbered = [];
  objects = [];
  functions = [];
  mentions = [];
  untagged = λ at. [];
}

abbrev nothing : Lists
nothing = record { names = []; records = []; objects = []; functions = []; mentions = [] }

empty_is_whole : IsWhole empty
empty_is_whole = is_whole empty (record {
  names_ascend = tt;
  names_consistent = tt;
  names_fit = λ x at e h. cc;
  objects_ascend = tt;
  numbered_differ = tt;
  records_differ = tt;
  fields_differ = λ k r h. cc;
  fields_complete = λ k j r f h i. cc;
  records_small = λ i l. absurd (omega (arith, l));
})

abbrev here : Scope
here = outer empty empty_is_whole [] []

abbrev typed_part : Part → Typed.Part CType
typed_part part = mapped_part (of_types (λ t. t.ty)) part

-- ---- `"ab"` is the bytes of an array, and no object

abbrev ab : List Spelling
ab = record { from = 20; to = 24; text = codes "\"ab\"" } ∷ []

ab_bytes : literal_of ab ≡ 97 ∷ 98 ∷ 0 ∷ []
unfolding string_bytes
ab_bytes = refl

abbrev ab_parts : List Part
ab_parts = part_at 0 (Typed.text (97 ∷ 98 ∷ 0 ∷ []))

no_event : walk_of_initializer empty.untagged empty.objects (Trees.texts ab) ≡ []
no_event = refl

text_stands : IsInitializer (Trees.texts ab) here (array (integer Char) 3) (Typed.parts ab_parts)
text_stands = inr (inr (
  ab_parts,
  refl,
  inl refl,
  inr (inr (97 ∷ 98 ∷ 0 ∷ [], (Char, 3, refl, refl, inl (ab_bytes, omega arith)), All-nil _, refl)),
))

text_is_found : Done empty nothing [] (initializer (Trees.texts ab) (inner empty empty_is_whole [] [] [] nothing) (array (integer Char) 3))
    (Typed.parts ab_parts)
text_is_found = initials_complete empty empty_is_whole [] (Trees.texts ab) [] [] nothing (array (integer Char) 3) (Typed.parts ab_parts)
    (λ x e h. cc) refl
    (record { extends = itself empty; follows = tt }) text_stands (
      refl,
      All-cons (IsTypedPart (declared here) (array (integer Char) 3)) (record { offset = 0; value = Typed.text (97 ∷ 98 ∷ 0 ∷ []) }) []
          (array (integer Char) 3, Lying.itself (array (integer Char) 3), (Char, 3, refl, refl, omega arith)) (All-nil _),
      (All-nil _, tt),
    )

-- ---- braces in braces

abbrev int : CType
int = integer Int

abbrev digit : (v at : ℕ) → Trees.Expression
digit v at = Trees.number (record { from = at; to = at + 1; text = (48 + v) ∷ [] }) v Int

abbrev number : (v at : ℕ) → Expression
number v at = value int (record { file = 0; at = at }) (Typed.constant v)

abbrev one_two : Trees.Expression
one_two = Trees.braces 21 (Trees.and_argument None (digit 1 22) (Trees.and_argument (Some 23) (digit 2 25) Trees.no_arguments)) None 26

abbrev three : Trees.Expression
three = Trees.braces 29 (Trees.and_argument None (digit 3 30) Trees.no_arguments) None 31

abbrev all : Trees.Expression
all = Trees.braces 20 (Trees.and_argument None one_two (Trees.and_argument (Some 27) three Trees.no_arguments)) None 32

abbrev square : CType
square = array (array int 2) 2

abbrev at_byte : (offset v at : ℕ) → Part
at_byte offset v at = record { offset = offset; value = Typed.value (number v at) }

abbrev square_parts : List Part
square_parts = at_byte 0 1 22 ∷ at_byte 4 2 25 ∷ at_byte 8 3 30 ∷ []

one_number : (offset v at : ℕ) → Initializes (digit v at) here int offset (at_byte offset v at ∷ [])
one_number offset v at = inl (number v at, refl, refl, refl, (a_value (number v at), refl, refl))

square_stands : IsInitializer all here square (Typed.parts square_parts)
square_stands = inr (inr (
  square_parts,
  refl,
  inl refl,
  inr (inl (
    2,
    array int 2,
    refl,
    tt,
    (
      1,
      at_byte 0 1 22 ∷ at_byte 4 2 25 ∷ [],
      at_byte 8 3 30 ∷ [],
      refl,
      refl,
      inr (inl (
        2,
        int,
        refl,
        tt,
        (
          1,
          at_byte 0 1 22 ∷ [],
          at_byte 4 2 25 ∷ [],
          refl,
          refl,
          one_number 0 1 22,
          (0, at_byte 4 2 25 ∷ [], [], refl, refl, one_number 4 2 25, refl),
        ),
      )),
      (
        0,
        at_byte 8 3 30 ∷ [],
        [],
        refl,
        refl,
        inr (inl (2, int, refl, tt, (1, at_byte 8 3 30 ∷ [], [], refl, refl, one_number 8 3 30, refl))),
        refl,
      ),
    ),
  )),
))

one_typed : (i j v at : ℕ) → i < 2 → j < 2 → as_kind Int v ≡ v
    → IsTypedPart (declared here) square (mapped_part (of_types (λ t. t.ty)) (at_byte (i * 8 + (j * 4 + 0)) v at))
one_typed i j v at k l e = (
  int,
  Lying.of_element (array int 2) int 2 i (j * 4 + 0) k (Lying.of_element int int 2 j 0 l (Lying.itself int)),
  ((Int, refl, e), refl, (refl, refl)),
)

abbrev Typed_there : Typed.Part CType → Type 0
Typed_there part = IsTypedPart (declared here) square part

abbrev Behind : ℕ → Typed.Part CType → Type 0
Behind offset part = offset < part.offset

abbrev first : Typed.Part CType
first = typed_part (at_byte 0 1 22)

abbrev second : Typed.Part CType
second = typed_part (at_byte 4 2 25)

abbrev third : Typed.Part CType
third = typed_part (at_byte 8 3 30)

square_typed : IsTypedInitializer (declared here) square (AsTyped empty empty_is_whole [] (Typed.parts square_parts))
square_typed = (
  refl,
  All-cons Typed_there first (second ∷ third ∷ []) (one_typed 0 0 1 22 (omega arith) (omega arith) refl)
      (All-cons Typed_there second (third ∷ []) (one_typed 0 1 2 25 (omega arith) (omega arith) refl)
      (All-cons Typed_there third [] (one_typed 1 0 3 30 (omega arith) (omega arith) refl) (All-nil Typed_there))),
  (
    All-cons (Behind 0) second (third ∷ []) (omega arith) (All-cons (Behind 0) third [] (omega arith) (All-nil (Behind 0))),
    (All-cons (Behind 4) third [] (omega arith) (All-nil (Behind 4)), (All-nil (Behind 8), tt)),
  ),
)

square_is_found : Done empty nothing [] (initializer all (inner empty empty_is_whole [] [] [] nothing) square) (Typed.parts square_parts)
square_is_found = initials_complete empty empty_is_whole [] all [] [] nothing square (Typed.parts square_parts) (λ x e h. cc) refl
    (record { extends = itself empty; follows = tt }) square_stands square_typed
