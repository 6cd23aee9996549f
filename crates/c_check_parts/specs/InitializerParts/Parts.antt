-- What is found of an initializer, part after part.
use Rattle.std.specs.Prelude.{ℕ, Bool, true, false, List, [], ◌∷◌, ◌++◌, Option, Some, None, Ok}
use Rattle.c_types.specs.Types.{CType, Field}
use Rattle.c_types.specs.declared.ty.Ty.{Ty}
use Rattle.c_types.specs.Views.{type_of}
use Rattle.c_ast.specs.declared.words.Spelling.{Spelling}
use Rattle.c_ast.specs.Places.{first}
use Rattle.c_ast.specs.Trees
use Rattle.c_typed.specs.Trees.{PartValue, text}
use Rattle.c_erasure.specs.Initializers.{Part}
use Rattle.c_erasure.specs.Noted.{Noted}
use Rattle.c_erasure.specs.Scopes.{Scope}
use Rattle.lay_base.specs.declared.faults.Rule.TheVariants as R
use Rattle.c_annotated.specs.Trees.{InitializerPart}
use Rattle.c_annotated.specs.Views.{part_of}
use Rattle.c_erasure.specs.Checking.Answers.{◌>>=◌, Checked, refused}
use Rattle.c_erasure.specs.Checking.Finding.{find}
use Rattle.c_erasure.specs.Checking.Initializers.{without_braces}

-- one part alone
abbrev pub one_part : InitializerPart → List Part
one_part part = part_of part ∷ []

-- parts after others
abbrev pub parts_after : List Part → Checked (List Part) → Checked (List Part)
parts_after before r = r >>= λ x. Ok (before ++ x.0, x.1)

-- a field of which no more is known than its type
abbrev pub bare_field : Ty → Field
bare_field t = record { name = []; ty = type_of t; place = record { file = 0; at = 0 } }

-- one part that is no text
abbrev pub is_no_text : PartValue Noted → Bool
is_no_text (text bytes) = false
is_no_text v = true

abbrev pub is_value_alone : List Part → Bool
is_value_alone (part ∷ []) = is_no_text part.value
is_value_alone all = false

-- the string literals that an expression is, and those of the only item in braces
abbrev pub texts_alone : Trees.Expression → Option (List Spelling)
texts_alone (Trees.texts all) = Some all
texts_alone a = None

abbrev pub texts_among : Trees.Arguments → Option (List Spelling)
texts_among (Trees.and_argument comma a Trees.no_arguments) = texts_alone a
texts_among all = None

-- what the only item in braces initializes, which has no braces of its own
abbrev pub value_alone : Trees.Expression → Scope → CType → (at : ℕ) → Checked (List Part)
value_alone (Trees.braces inner all last right) s t at = refused R.Init inner
value_alone a s t at = without_braces (first a) at t None s.file (find a s)
