-- Which typed initializers are those of an initializer (C99 6.7.8). Braces stand round the items of every array and structure (own), and
-- there may be fewer items than elements or fields.
use Rattle.std.specs.Prelude.{◌≡◌, ◌≢◌, ℕ, ◌+◌, ◌≤◌, ◌==◌, Bool, true, false, if◌then◌else◌, List, [], ◌∷◌, ◌++◌, All, length, Option, Some, None, slice_get}
use Rattle.std.specs.Prelude.{◌⊎◌}
use Rattle.c_types.specs.declared.ty.IntKind.{IntKind}
use Rattle.c_types.specs.Types.{CType, integer, array, structure, Field, Record}
use Rattle.c_types.specs.IntKinds.{width}
use Rattle.c_types.specs.Layouts.{size_of, offset_of}
use Rattle.c_ast.specs.declared.words.Spelling.{Spelling}
use Rattle.c_ast.specs.Trees
use Rattle.c_ast.specs.Places.{first_text}
use Rattle.c_typed.specs.Trees as Typed
use Rattle.c_typed.specs.Conversions.{is_scalar, is_array, is_record}
use Rattle.c_typed.specs.InitialValues.{InitialValue, initial_value}
use Rattle.c_typed.specs.Typed.{Declared}
use Rattle.c_erasure.specs.Noted.{Noted, Expression, an_object, type_of, type_of_path}
use Rattle.c_erasure.specs.Scopes.{Scope}
use Rattle.c_erasure.specs.Erasure.{typed, literal_of, Values, Erases}

abbrev pub Part : Type 0
Part = Typed.Part Noted

abbrev pub part_at : ℕ → Typed.PartValue Noted → List Part
part_at at v = record { offset = at; value = v } ∷ []

-- string literals, in braces or not
abbrev pub texts_of : Trees.Expression → Option (List Spelling)
texts_of (Trees.texts all) = Some all
texts_of (Trees.braces left (Trees.and_argument comma (Trees.texts all) Trees.no_arguments) last right) = Some all
texts_of a = None

-- an array of characters is initialized by the bytes of a string literal; the zero at its end is left out where there is no room for it
abbrev pub IsTextOf : CType → List Spelling → List ℕ → Type 0
IsTextOf t all bytes = (kind : IntKind) × (n : ℕ) × (t ≡ array (integer kind) n) × (width kind ≡ 1)
    × (((literal_of all ≡ bytes) × (length bytes ≤ n)) ⊎ ((literal_of all ≡ bytes ++ 0 ∷ []) × (length bytes ≡ n)))

abbrev pub is_character : CType → Bool
is_character (integer kind) = width kind == 1
is_character t = false

-- what stands in braces are elements, and not the text of the whole array
abbrev pub IsNoText : CType → Option (List Spelling) → Type 0
IsNoText u None = Unit {0}
IsNoText u (Some all) = is_character u ≡ false

-- its bytes are those of the array, and no object of their own
abbrev pub IsNoObject : Scope → List Spelling → Type 0
IsNoObject s all = All (λ o. o.first ≢ first_text all) s.file.objects

abbrev pub IsText : Option (List Spelling) → Scope → CType → ℕ → List Part → Type 0
IsText None s t at parts = ⊥
IsText (Some all) s t at parts = (bytes : List ℕ) × IsTextOf t all bytes × IsNoObject s all × (parts ≡ part_at at (Typed.text bytes))

-- the parts of an object of that type which begins at that byte of the whole
abbrev mutual
  pub Initializes : Trees.Expression → Scope → CType → ℕ → List Part → Type 0
  Initializes (Trees.braces left all last right) s t at parts =
      -- one value in braces
      ((x : Expression) × (is_scalar t ≡ true) × (type_of x ≡ t) × (parts ≡ part_at at (Typed.value x)) × IsOneValue all s x)
      ⊎ ((n : ℕ) × (u : CType) × (t ≡ array u n) × IsNoText u (texts_of (Trees.braces left all last right)) × InitializeElements all s u n at parts)
      ⊎ ((r : ℕ) × (rec : Record) × (t ≡ structure r) × (slice_get s.file.records r ≡ Some rec) × InitializeFields all s r 0 rec.fields at parts)
      ⊎ IsText (texts_of (Trees.braces left all last right)) s t at parts
  Initializes a s t at parts =
      ((x : Expression) × (is_scalar t ≡ true) × (type_of x ≡ t) × (parts ≡ part_at at (Typed.value x)) × Values (Erases a s) x)
      ⊎ ((r : ℕ) × (p : Typed.Path Noted) × (t ≡ structure r) × (type_of_path p ≡ t) × (parts ≡ part_at at (Typed.record_of p)) × Erases a s (an_object p))
      ⊎ IsText (texts_of a) s t at parts

  -- one expression, which is no initializer in braces
  pub IsOneValue : Trees.Arguments → Scope → Expression → Type 0
  IsOneValue Trees.no_arguments s x = ⊥
  IsOneValue (Trees.and_argument comma a Trees.no_arguments) s x = Values (Erases a s) x
  IsOneValue (Trees.and_argument comma a more) s x = ⊥

  -- the elements of an array from one on, of which there are so many
  pub InitializeElements : Trees.Arguments → Scope → CType → ℕ → ℕ → List Part → Type 0
  InitializeElements Trees.no_arguments s u n at parts = parts ≡ []
  InitializeElements (Trees.and_argument comma a more) s u n at parts = (left : ℕ) × (own rest : List Part) × (n ≡ left + 1) × (parts ≡ own ++ rest)
      × Initializes a s u at own × InitializeElements more s u left (at + size_of s.file.records u) rest

  -- the fields of a record from one on, with the first byte of the record
  pub InitializeFields : Trees.Arguments → Scope → ℕ → ℕ → List Field → ℕ → List Part → Type 0
  InitializeFields Trees.no_arguments s r k fields at parts = parts ≡ []
  InitializeFields (Trees.and_argument comma a more) s r k fields at parts = (f : Field) × (later : List Field) × (own rest : List Part)
      × (fields ≡ f ∷ later) × (parts ≡ own ++ rest) × Initializes a s f.ty (at + offset_of s.file.records r k) own
      × InitializeFields more s r (k + 1) later at rest

-- ---- how many elements an array has whose length is left to its initializer

abbrev pub count_of : Trees.Arguments → ℕ
count_of Trees.no_arguments = 0
count_of (Trees.and_argument comma a more) = count_of more + 1

abbrev pub items_of : Trees.Expression → ℕ
items_of (Trees.braces left all last right) = count_of all
items_of a = 0

abbrev pub length_of : CType → Option (List Spelling) → Trees.Expression → ℕ
length_of u None a = items_of a
length_of u (Some all) a = if is_character u then length (literal_of all) else items_of a

-- ---- of a whole object

abbrev pub is_braces : Trees.Expression → Bool
is_braces (Trees.braces left all last right) = true
is_braces a = false

-- a number or a pointer by its value, a record by another one or by its parts, an array by its parts
abbrev pub IsInitializer : Trees.Expression → Scope → CType → Typed.Initializer Noted → Type 0
IsInitializer a s t initial =
    ((x : Expression) × (initial ≡ Typed.whole x) × (is_scalar t ≡ true) × Initializes a s t 0 (part_at 0 (Typed.value x)))
    ⊎ ((p : Typed.Path Noted) × (initial ≡ Typed.whole_record p) × (is_record t ≡ true) × (is_braces a ≡ false)
    × Initializes a s t 0 (part_at 0 (Typed.record_of p)))
    ⊎ ((parts : List Part) × (initial ≡ Typed.parts parts) × ((is_array t ≡ true) ⊎ ((is_record t ≡ true) × (is_braces a ≡ true)))
    × Initializes a s t 0 parts)

-- ---- of an object that is made before the program starts: each value is a constant, and a record is initialized by its parts alone (6.7.8)

abbrev pub HasConstant : Declared → Typed.PartValue Noted → Type 0
HasConstant d (Typed.value x) = (v : InitialValue) × (initial_value d (typed x) ≡ Some v)
HasConstant d (Typed.record_of p) = ⊥
HasConstant d (Typed.text bytes) = Unit {0}

abbrev pub AreConstants : Declared → Typed.Initializer Noted → Type 0
AreConstants d (Typed.whole x) = HasConstant d (Typed.value x)
AreConstants d (Typed.whole_record p) = ⊥
AreConstants d (Typed.parts all) = All (λ part. HasConstant d part.value) all
