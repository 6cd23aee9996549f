-- Keywords: those of C99 (6.4.1), and the words that C11 and GCC have beside them.
use Rattle.std.specs.Prelude.{ℕ, List, [], ◌∷◌, ◌++◌, get_or, codes}
use Rattle.lay_base.specs.declared.faults.Keyword.{Keyword}
use Rattle.lay_base.specs.declared.faults.Keyword.TheVariants as K

-- ---- keywords that the language leaves out

-- words that begin with no underscore: keywords of C99, and two that GCC has where it is not held to a standard
abbrev pub left_out_plain : List (List ℕ)
left_out_plain =
    codes "double" ∷ codes "float" ∷ codes "goto" ∷ codes "inline" ∷ codes "restrict" ∷ codes "union" ∷ codes "volatile" ∷ codes "asm" ∷
    codes "typeof" ∷ []

-- those of C99 that begin with one
abbrev pub left_out_of_C99 : List (List ℕ)
left_out_of_C99 = codes "_Bool" ∷ codes "_Complex" ∷ codes "_Imaginary" ∷ []

-- the keywords that C11 adds
abbrev pub left_out_of_C11 : List (List ℕ)
left_out_of_C11 =
    codes "_Alignas" ∷ codes "_Alignof" ∷ codes "_Atomic" ∷ codes "_Generic" ∷ codes "_Noreturn" ∷ codes "_Static_assert" ∷ codes "_Thread_local" ∷ []

-- the other keywords that GCC adds, but for the names of a function (C99 6.4.2.2)
abbrev pub left_out_of_GCC : List (List ℕ)
left_out_of_GCC =
    codes "__alignof" ∷ codes "__alignof__" ∷ codes "__asm" ∷ codes "__asm__" ∷ codes "__attribute" ∷
    codes "__attribute__" ∷ codes "__auto_type" ∷ codes "__complex" ∷ codes "__complex__" ∷ codes "__const" ∷ codes "__const__" ∷
    codes "__extension__" ∷ codes "__imag" ∷ codes "__imag__" ∷ codes "__inline" ∷ codes "__inline__" ∷ codes "__int128" ∷ codes "__int128__" ∷
    codes "__label__" ∷ codes "__null" ∷ codes "__real" ∷ codes "__real__" ∷ codes "__restrict" ∷ codes "__restrict__" ∷ codes "__signed" ∷
    codes "__signed__" ∷ codes "__thread" ∷ codes "__typeof" ∷ codes "__typeof__" ∷ codes "__volatile" ∷ codes "__volatile__" ∷
    codes "__transaction_atomic" ∷ codes "__transaction_cancel" ∷ codes "__transaction_relaxed" ∷ codes "__GIMPLE" ∷ codes "__PHI" ∷ codes "__RTL" ∷
    codes "__builtin_assoc_barrier" ∷ codes "__builtin_call_with_static_chain" ∷ codes "__builtin_choose_expr" ∷ codes "__builtin_complex" ∷
    codes "__builtin_convertvector" ∷ codes "__builtin_has_attribute" ∷ codes "__builtin_offsetof" ∷ codes "__builtin_shuffle" ∷
    codes "__builtin_shufflevector" ∷ codes "__builtin_tgmath" ∷ codes "__builtin_types_compatible_p" ∷ codes "__builtin_va_arg" ∷ codes "_Accum" ∷
    codes "_Decimal32" ∷ codes "_Decimal64" ∷ codes "_Decimal128" ∷ codes "_Float16" ∷ codes "_Float32" ∷ codes "_Float32x" ∷ codes "_Float64" ∷
    codes "_Float64x" ∷ codes "_Float128" ∷ codes "_Float128x" ∷ codes "_Fract" ∷ codes "_Sat" ∷ []

-- names of types that GCC knows without a declaration, a keyword of C23, and the operator that no preprocessed text has (C99 6.10.9)
abbrev pub left_out_beside : List (List ℕ)
left_out_beside =
    codes "__builtin_va_list" ∷ codes "__float80" ∷ codes "__float128" ∷ codes "__int128_t" ∷ codes "__uint128_t" ∷ codes "_BitInt" ∷
    codes "_Pragma" ∷ []

abbrev pub left_out : List (List ℕ)
left_out = left_out_plain ++ left_out_of_C99 ++ left_out_of_C11 ++ left_out_of_GCC ++ left_out_beside

-- ---- the spelling of a keyword; a number above those of the table has none

abbrev pub keyword_text : Keyword → List ℕ
keyword_text K.Auto = codes "auto"
keyword_text K.Break = codes "break"
keyword_text K.Case = codes "case"
keyword_text K.Char = codes "char"
keyword_text K.Const = codes "const"
keyword_text K.Continue = codes "continue"
keyword_text K.Default = codes "default"
keyword_text K.Do = codes "do"
keyword_text K.Else = codes "else"
keyword_text K.Enum = codes "enum"
keyword_text K.Extern = codes "extern"
keyword_text K.For = codes "for"
keyword_text K.If = codes "if"
keyword_text K.Int = codes "int"
keyword_text K.Long = codes "long"
keyword_text K.Register = codes "register"
keyword_text K.Return = codes "return"
keyword_text K.Short = codes "short"
keyword_text K.Signed = codes "signed"
keyword_text K.Sizeof = codes "sizeof"
keyword_text K.Static = codes "static"
keyword_text K.Struct = codes "struct"
keyword_text K.Switch = codes "switch"
keyword_text K.Typedef = codes "typedef"
keyword_text K.Unsigned = codes "unsigned"
keyword_text K.Void = codes "void"
keyword_text K.While = codes "while"
keyword_text (K.LeftOut n) = get_or left_out n []
