-- `sizeof(struct T {int x;})` in `enum {N = sizeof(struct T {int x;})};`: the type name defines the structure whose size it is (C99 6.5.3.4).
use Rattle.std.proofs.Common.{refl, inl, inr, arith}
use Rattle.std.proofs.lemmas.List.Elements.{All-nil}
use Rattle.std.specs.Prelude.{[], ◌∷◌, Some, None, false, codes}
use Rattle.c_types.specs.declared.ty.IntKind.TheVariants.{UInt}
use Rattle.c_types.specs.Types.{integer, structure, Field, Record}
use Rattle.c_ast.specs.Trees
use Rattle.c_typed.specs.declared.program.MentionKind.TheVariants.{Named, Sizeof}
use Rattle.c_typed.specs.Trees as Typed
use Rattle.c_erasure.specs.Noted.{a_value, size_of}
use Rattle.c_erasure.specs.Scopes.{FileScope, at_file_scope}
use Rattle.c_erasure.specs.Erasure.{Erases}
use Rattle.c_erasure.proofs.ExampleParts.{place, word, int, ints, mention}

abbrev x_field : Field
x_field = record { name = codes "x"; ty = int; place = place 31 }

abbrev the_record : Record
the_record = record { tag = codes "T"; place = place 17; fields = x_field ∷ [] }

abbrev file : FileScope
file = record {
  file = 0;
  names = [];
  tags = record { name = codes "T"; place = 24; from = 24; is_enumeration = false } ∷ [];
  records = the_record ∷ [];
  ends = 33 ∷ [];
  numbered = codes "T" ∷ [];
  objects = [];
  functions = [];
  mentions = mention Sizeof (structure 0) 10 ∷ mention Named int 31 ∷ mention Named (structure 0) 17 ∷ [];
  untagged = λ at. [];
}

abbrev type_name : Trees.TypeName
type_name = Trees.type_name (Trees.and_specifier (Trees.struct_body 17 (Some (word (codes "T") 24 25)) 26
    (Trees.and_member_declaration (ints 27) (Trees.and_member_declarator None (Trees.named (word (codes "x") 31 32)) Trees.no_member_declarators) 32
    Trees.no_member_declarations) 33) Trees.no_specifiers) Trees.nothing

defined_there : Erases (Trees.sizeof_type 10 16 type_name 34) (at_file_scope file)
    (a_value (Typed.expression (record { ty = integer UInt; note = size_of (structure 0) 10 }) (place 10) (Typed.constant 4)))
defined_there = (
  structure 0,
  (
    structure 0,
    refl,
    inr (
      refl,
      (
        (
          0,
          the_record,
          refl,
          refl,
          refl,
          refl,
          refl,
          refl,
          refl,
          (int, x_field ∷ [], [], refl, refl, inl (refl, refl), (word (codes "x") 31 32, int, [], refl, refl, refl, inr (1, refl), refl, refl), refl),
          (All-nil _, tt),
        ),
        refl,
      ),
    ),
    refl,
  ),
  inr (2, refl),
  (refl, inr (0, refl), refl, omega arith),
)
