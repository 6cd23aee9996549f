-- Which type the words of a declaration name (C99 6.7.1 to 6.7.3).
use Rattle.std.specs.Prelude.{ℕ, ◌+◌, ◌==◌, ◌&&◌, Bool, true, false, List, [], ◌∷◌, if◌then◌else◌, Option, Some, None}
use Rattle.c_types.specs.declared.ty.IntKind.TheVariants.{Char, SChar, UChar, Short, UShort, Int, UInt, Long, ULong}
use Rattle.c_types.specs.Types.{CType, void, integer}
use Rattle.c_ast.specs.declared.operators.SpecifierKeyword.{SpecifierKeyword}
use Rattle.c_ast.specs.declared.operators.SpecifierKeyword.TheVariants as S
use Rattle.c_ast.specs.Trees

-- ---- the words that name a type, in whatever order they stand (6.7.2)

-- how often each stands there
pub record Words : Type 0 where
  pub void : ℕ
  pub char : ℕ
  pub short : ℕ
  pub int : ℕ
  pub long : ℕ
  pub signed : ℕ
  pub unsigned : ℕ

abbrev pub no_words : Words
no_words = record { void = 0; char = 0; short = 0; int = 0; long = 0; signed = 0; unsigned = 0 }

abbrev pub with_word : SpecifierKeyword → Words → Words
with_word S.Void w = record w { void = w.void + 1 }
with_word S.Char w = record w { char = w.char + 1 }
with_word S.Short w = record w { short = w.short + 1 }
with_word S.Int w = record w { int = w.int + 1 }
with_word S.Long w = record w { long = w.long + 1 }
with_word S.Signed w = record w { signed = w.signed + 1 }
with_word S.Unsigned w = record w { unsigned = w.unsigned + 1 }
with_word word w = w

abbrev pub words_of : Trees.Specifiers → Words
words_of Trees.no_specifiers = no_words
words_of (Trees.and_specifier (Trees.plain word at) more) = with_word word (words_of more)
words_of (Trees.and_specifier s more) = words_of more

abbrev pub counted : List SpecifierKeyword → Words
counted [] = no_words
counted (word ∷ more) = with_word word (counted more)

abbrev pub same_words : Words → Words → Bool
same_words v w =
    v.void == w.void && v.char == w.char && v.short == w.short && v.int == w.int && v.long == w.long && v.signed == w.signed && v.unsigned == w.unsigned

-- the table of 6.7.2
abbrev pub table : List (List SpecifierKeyword × CType)
table =
    (S.Void ∷ [], void) ∷
    (S.Char ∷ [], integer Char) ∷
    (S.Signed ∷ S.Char ∷ [], integer SChar) ∷
    (S.Unsigned ∷ S.Char ∷ [], integer UChar) ∷
    (S.Short ∷ [], integer Short) ∷
    (S.Signed ∷ S.Short ∷ [], integer Short) ∷
    (S.Short ∷ S.Int ∷ [], integer Short) ∷
    (S.Signed ∷ S.Short ∷ S.Int ∷ [], integer Short) ∷
    (S.Unsigned ∷ S.Short ∷ [], integer UShort) ∷
    (S.Unsigned ∷ S.Short ∷ S.Int ∷ [], integer UShort) ∷
    (S.Int ∷ [], integer Int) ∷
    (S.Signed ∷ [], integer Int) ∷
    (S.Signed ∷ S.Int ∷ [], integer Int) ∷
    (S.Unsigned ∷ [], integer UInt) ∷
    (S.Unsigned ∷ S.Int ∷ [], integer UInt) ∷
    (S.Long ∷ [], integer Long) ∷
    (S.Signed ∷ S.Long ∷ [], integer Long) ∷
    (S.Long ∷ S.Int ∷ [], integer Long) ∷
    (S.Signed ∷ S.Long ∷ S.Int ∷ [], integer Long) ∷
    (S.Unsigned ∷ S.Long ∷ [], integer ULong) ∷
    (S.Unsigned ∷ S.Long ∷ S.Int ∷ [], integer ULong) ∷
    []

abbrev pub found_in : List (List SpecifierKeyword × CType) → Words → Option CType
found_in [] w = None
found_in (row ∷ more) w = if same_words (counted row.0) w then Some row.1 else found_in more w

-- the type that words alone name
abbrev pub named_by : Words → Option CType
named_by w = found_in table w

-- ---- storage classes (6.7.1): at most one stands there

pub data Storage : Type 0 where
  no_storage : Storage
  a_typedef : Storage
  is_extern : Storage
  is_static : Storage
  is_auto : Storage
  is_register : Storage
  -- more than one
  several : Storage

abbrev pub together : Storage → Storage → Storage
together no_storage s = s
together s no_storage = s
together s t = several

abbrev pub storage_word : SpecifierKeyword → Storage
storage_word S.Typedef = a_typedef
storage_word S.Extern = is_extern
storage_word S.Static = is_static
storage_word S.Auto = is_auto
storage_word S.Register = is_register
storage_word word = no_storage

abbrev pub storage_of : Trees.Specifiers → Storage
storage_of Trees.no_specifiers = no_storage
storage_of (Trees.and_specifier (Trees.plain word at) more) = together (storage_word word) (storage_of more)
storage_of (Trees.and_specifier s more) = storage_of more

-- ---- specifiers that name a type by themselves: a typedef's name, a structure or an enumeration

abbrev pub is_word : Trees.Specifier → Bool
is_word (Trees.plain word at) = true
is_word s = false

-- those of a list
abbrev pub types_among : Trees.Specifiers → List Trees.Specifier
types_among Trees.no_specifiers = []
types_among (Trees.and_specifier s more) = if is_word s then types_among more else s ∷ types_among more
