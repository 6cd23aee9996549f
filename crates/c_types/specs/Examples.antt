-- Layouts by computation.
use Rattle.std.specs.Prelude.{◌≡◌, ◌+◌, ◌^◌, List, [], ◌∷◌, map, refl, true, false}
use Rattle.c_types.specs.declared.ty.IntKind.TheVariants as I
use Rattle.c_types.specs.Layouts.{align_of, layout, layouts, offset_of, size_of, size_of_record}
use Rattle.c_types.specs.Objects.{is_object, parts}
use Rattle.c_types.specs.Sameness.{same_type}
use Rattle.c_types.specs.Types.{CType, void, integer, pointer, array, function, structure, no_types, and_type, Field, Record}

abbrev char : CType
char = integer I.Char

abbrev short : CType
short = integer I.Short

abbrev int : CType
int = integer I.Int

abbrev field : CType → Field
field t = record { name = []; ty = t; place = record { file = 0; at = 0 } }

abbrev of : List CType → Record
of types = record { tag = []; place = record { file = 0; at = 0 }; fields = map field types }

-- struct { char a; int b; char c; }
char_int_char : layout [] (char ∷ int ∷ char ∷ []) ≡ record { offsets = 0 ∷ 4 ∷ 8 ∷ []; size = 12; alignment = 4 }
char_int_char = refl

-- struct { char a; char b; char c; }: no padding
three_chars : layout [] (char ∷ char ∷ char ∷ []) ≡ record { offsets = 0 ∷ 1 ∷ 2 ∷ []; size = 3; alignment = 1 }
three_chars = refl

-- struct { short a; char b; }: rounded up to the alignment of the short
short_char : layout [] (short ∷ char ∷ []) ≡ record { offsets = 0 ∷ 2 ∷ []; size = 4; alignment = 2 }
short_char = refl

-- struct { char a; short b; int c; char d; short e; }
mixed : layout [] (char ∷ short ∷ int ∷ char ∷ short ∷ []) ≡ record { offsets = 0 ∷ 2 ∷ 4 ∷ 8 ∷ 10 ∷ []; size = 12; alignment = 4 }
mixed = refl

-- struct { char a; void *b; char c[5]; }: an array has the alignment of its element
with_array : layout [] (char ∷ pointer void ∷ array char 5 ∷ []) ≡ record { offsets = 0 ∷ 4 ∷ 8 ∷ []; size = 16; alignment = 4 }
with_array = refl

no_field : layout [] [] ≡ record { offsets = []; size = 0; alignment = 1 }
no_field = refl

-- struct A { char a; short b; }; struct B { char a; struct A b; struct A c[3]; char d; };
nested : layouts (of (char ∷ short ∷ []) ∷ of (char ∷ structure 0 ∷ array (structure 0) 3 ∷ char ∷ []) ∷ [])
    ≡ record { offsets = 0 ∷ 2 ∷ []; size = 4; alignment = 2 } ∷ record { offsets = 0 ∷ 2 ∷ 6 ∷ 18 ∷ []; size = 20; alignment = 2 } ∷ []
nested = refl

-- int [2][3], and struct A [10] of it
of_arrays : size_of [] (array (array int 3) 2) ≡ 24
of_arrays = refl

of_record_array : size_of (of (char ∷ short ∷ []) ∷ []) (array (structure 0) 10) ≡ 40
of_record_array = refl

alignment_of_record_array : align_of (of (char ∷ short ∷ []) ∷ []) (array (structure 0) 10) ≡ 2
alignment_of_record_array = refl

third_offset : offset_of (of (char ∷ int ∷ char ∷ []) ∷ []) 0 2 ≡ 8
third_offset = refl

-- struct { char a[16777216]; char b; }
too_big : size_of_record [] (of (array char (2 ^ 24) ∷ char ∷ [])) ≡ 2 ^ 24 + 1
too_big = refl

-- int *(*)(char, struct 7 *)
of_function : parts (pointer (function (pointer int) (and_type char (and_type (pointer (structure 7)) no_types)))) ≡ 7
of_function = refl

pointer_is_object : is_object 0 (array (pointer (structure 7)) 1) ≡ true
pointer_is_object = refl

incomplete_is_none : is_object 7 (array (structure 7) 1) ≡ false
incomplete_is_none = refl

char_is_its_own : same_type char (integer I.UChar) ≡ false
char_is_its_own = refl
