-- The checker of initializers as functions (C99 6.7.8).
use Rattle.std.specs.Prelude.{ℕ, zero, suc, ◌+◌, ◌==◌, ◌&&◌, ◌||◌, Bool, true, false, not, nat_le, if◌then◌else◌, List, [], ◌∷◌, ◌++◌, length, take}
use Rattle.std.specs.Prelude.{Option, Some, None, Ok, Err, slice_get, is_some}
use Rattle.lay_base.specs.declared.faults.Rule.TheVariants as R
use Rattle.c_types.specs.Types.{CType, integer, pointer, array, structure, Field, Record}
use Rattle.c_types.specs.Layouts.{size_of, offset_of}
use Rattle.c_types.specs.Sameness.{same_type}
use Rattle.c_ast.specs.declared.words.Spelling.{Spelling}
use Rattle.c_ast.specs.Trees
use Rattle.c_ast.specs.Places.{first}
use Rattle.c_typed.specs.Trees as Typed
use Rattle.c_typed.specs.Conversions.{is_scalar, is_record}
use Rattle.c_typed.specs.Fits.{assigns}
use Rattle.c_typed.specs.InitialValues.{initial_value}
use Rattle.c_typed.specs.Typed.{Declared}
use Rattle.c_erasure.specs.Broken.{misplaced}
use Rattle.c_erasure.specs.Erasure.{typed, literal_of}
use Rattle.c_erasure.specs.Initializers.{Part, part_at, texts_of, is_character, is_braces}
use Rattle.c_erasure.specs.Noted.{Noted, Expression, Thing, an_object, type_of, type_of_path}
use Rattle.c_erasure.specs.Scopes.{FileScope, Scope}
use Rattle.c_erasure.specs.Checking.Answers.{Answer, ◌>>=◌, refused, Checked, with_file, moved}
use Rattle.c_erasure.specs.Checking.Nodes.{null, converted}
use Rattle.c_erasure.specs.Checking.Finding.{find, value_at}

-- ---- values of parts

-- a value that is assigned to a number or a pointer; `at` is where it begins
unfoldable pub initial_value_in : (at : ℕ) → CType → Expression → Answer Expression
initial_value_in at t x = if assigns (type_of x) (null x) t then Ok (converted t x) else refused R.Assign at

abbrev pub value_part : (at : ℕ) → Expression → List Part
value_part at x = part_at at (Typed.value x)

-- a record of the same type
unfoldable pub initial_record_in : (from at : ℕ) → CType → Thing → Answer (List Part)
initial_record_in from at t (an_object p) =
    if same_type (type_of_path p) t then Ok (part_at at (Typed.record_of p)) else refused R.Assign from
initial_record_in from at t th = Err (misplaced th R.Assign from from)

-- the bytes of a string literal in an array of so many characters: its last zero is left out where there is no room for it
abbrev pub bytes_in : (from n : ℕ) → List ℕ → Answer (List ℕ)
bytes_in from n all = if nat_le (length all) n then Ok all
    else (if length all == n + 1 then Ok (take n all) else refused R.Init from)

abbrev pub text_part : (at : ℕ) → List ℕ → List Part
text_part at bytes = part_at at (Typed.text bytes)

-- an array of characters, by the bytes of string literals
abbrev pub text_of_array : (from at n : ℕ) → Bool → Option (List Spelling) → Answer (List Part)
text_of_array from at n true (Some all) = bytes_in from n (literal_of all) >>= λ bytes. Ok (text_part at bytes)
text_of_array from at n is_text o = refused R.Init from

-- what stands in braces is the text of the whole array
abbrev pub is_text : CType → Option (List Spelling) → Bool
is_text u o = is_character u && is_some o

abbrev pub fields_of : Option Record → List Field
fields_of None = []
fields_of (Some rec) = rec.fields

-- ---- what begins at the byte `at` of the whole, without braces: a value, a record, or a text

abbrev pub without_braces : (from at : ℕ) → CType → Option (List Spelling) → FileScope → Checked Thing → Checked (List Part)
without_braces from at (integer kind) texts f found =
    value_at from found >>= λ x. with_file x.1 (initial_value_in from (integer kind) x.0) >>= λ y. Ok (value_part at y.0, y.1)
without_braces from at (pointer t) texts f found =
    value_at from found >>= λ x. with_file x.1 (initial_value_in from (pointer t) x.0) >>= λ y. Ok (value_part at y.0, y.1)
without_braces from at (structure r) texts f found = found >>= λ x. with_file x.1 (initial_record_in from at (structure r) x.0)
without_braces from at (array u n) texts f found = with_file f (text_of_array from at n (is_character u) texts)
without_braces from at t texts f found = refused R.Init from

-- in braces: one value, a text, elements or fields
abbrev pub in_braces : (left at : ℕ) → CType → Option (List Spelling) → FileScope → (one : Checked (List Part)) → (elements : CType → ℕ → Checked (List Part))
    → (fields : ℕ → List Field → Checked (List Part)) → Checked (List Part)
in_braces left at (integer kind) texts f one elements fields = one
in_braces left at (pointer t) texts f one elements fields = one
in_braces left at (structure r) texts f one elements fields = fields r (fields_of (slice_get f.records r))
in_braces left at (array u n) texts f one elements fields =
    if is_text u texts then with_file f (text_of_array left at n true texts) else elements u n
in_braces left at t texts f one elements fields = refused R.Init left

unfoldable mutual
  -- the parts of an object of that type which begins at that byte of the whole
  pub initialized : Trees.Expression → Scope → CType → (at : ℕ) → Checked (List Part)
  initialized (Trees.braces left all last right) s t at = in_braces left at t (texts_of (Trees.braces left all last right)) s.file
      (one_value left all s t at) (λ u n. elements all s u n at) (λ r fields. fields_from all s r 0 fields at)
  initialized a s t at = without_braces (first a) at t (texts_of a) s.file (find a s)

  -- one expression alone, which has no braces of its own
  pub one_value : (left : ℕ) → Trees.Arguments → Scope → CType → (at : ℕ) → Checked (List Part)
  one_value left (Trees.and_argument comma (Trees.braces inner all last right) Trees.no_arguments) s t at = refused R.Init inner
  one_value left (Trees.and_argument comma a Trees.no_arguments) s t at = without_braces (first a) at t None s.file (find a s)
  one_value left all s t at = refused R.Init left

  -- the elements of an array from one on, of which there are so many
  pub elements : Trees.Arguments → Scope → CType → (n at : ℕ) → Checked (List Part)
  elements Trees.no_arguments s u n at = Ok ([], s.file)
  elements (Trees.and_argument comma a more) s u zero at = refused R.Init (first a)
  elements (Trees.and_argument comma a more) s u (suc n) at = initialized a s u at
      >>= λ own. elements more (moved s own.1) u n (at + size_of own.1.records u) >>= λ rest. Ok (own.0 ++ rest.0, rest.1)

  -- the fields of a record from one on, with the first byte of the record
  pub fields_from : Trees.Arguments → Scope → (r k : ℕ) → List Field → (at : ℕ) → Checked (List Part)
  fields_from Trees.no_arguments s r k fields at = Ok ([], s.file)
  fields_from (Trees.and_argument comma a more) s r k [] at = refused R.Init (first a)
  fields_from (Trees.and_argument comma a more) s r k (f ∷ later) at = initialized a s f.ty (at + offset_of s.file.records r k)
      >>= λ own. fields_from more (moved s own.1) r (k + 1) later at >>= λ rest. Ok (own.0 ++ rest.0, rest.1)

-- ---- of a whole object: a number or a pointer by its value, a record by another one or by its parts, an array by its parts

abbrev pub whole_from : Typed.PartValue Noted → List Part → Typed.Initializer Noted
whole_from (Typed.value x) parts = Typed.whole x
whole_from (Typed.record_of p) parts = Typed.whole_record p
whole_from (Typed.text bytes) parts = Typed.parts parts

-- that of the only part
abbrev pub whole_in : List Part → Typed.Initializer Noted
whole_in (part ∷ []) = whole_from part.value (part ∷ [])
whole_in parts = Typed.parts parts

abbrev pub whole_of : CType → (braces : Bool) → List Part → Typed.Initializer Noted
whole_of t braces parts = if is_scalar t || (is_record t && not braces) then whole_in parts else Typed.parts parts

abbrev pub initializer : Trees.Expression → Scope → CType → Checked (Typed.Initializer Noted)
initializer a s t = initialized a s t 0 >>= λ parts. Ok (whole_of t (is_braces a) parts.0, parts.1)

-- ---- of an object that is made before the program starts: each value is a constant

abbrev pub is_constant_part : Declared → Typed.PartValue Noted → Bool
is_constant_part d (Typed.value x) = is_some (initial_value d (typed x))
is_constant_part d (Typed.record_of p) = false
is_constant_part d (Typed.text bytes) = true

abbrev pub are_constant_parts : Declared → List Part → Bool
are_constant_parts d [] = true
are_constant_parts d (part ∷ more) = is_constant_part d part.value && are_constant_parts d more

abbrev pub are_constants : Declared → Typed.Initializer Noted → Bool
are_constants d (Typed.whole x) = is_constant_part d (Typed.value x)
are_constants d (Typed.whole_record p) = false
are_constants d (Typed.parts all) = are_constant_parts d all

unfoldable pub constants_in : Declared → (at : ℕ) → Typed.Initializer Noted → Answer (Typed.Initializer Noted)
constants_in d at i = if are_constants d i then Ok i else refused R.Init at
