-- What names stand for, and where (C99 6.2.1 to 6.2.3).
use Rattle.std.specs.Prelude.{◌≡◌, ℕ, ◌+◌, Bool, true, false, ◌&&◌, nat_le, nat_lt, List, [], ◌∷◌, ◌++◌, map, if◌then◌else◌}
use Rattle.std.specs.Prelude.{Option, Some, None, slice_get, ◌⊎◌}
use Rattle.std.specs.Option.{option_map}
use Rattle.std.specs.Str.{bytes_eq}
use Rattle.lay_base.specs.declared.place.Place.{Place}
use Rattle.c_types.specs.Types.{CType, Record}
use Rattle.c_typed.specs.declared.operators.LibraryFunction.{LibraryFunction}
use Rattle.c_typed.specs.declared.program.MentionKind.{MentionKind}
use Rattle.c_typed.specs.Trees
use Rattle.c_typed.specs.Typed.{Declared}
use Rattle.c_erasure.specs.Noted.{Noted}

-- ---- ordinary identifiers (6.2.3)

pub data Entity : Type 0 where
  typedef : (t : CType) → Entity
  enumerator : (v : ℕ) → Entity
  an_object : (n : ℕ) → (t : CType) → Entity
  a_function : (n : ℕ) → (t : CType) → Entity
  a_library_function : (which : LibraryFunction) → Entity
  a_local : (n : ℕ) → (t : CType) → Entity
  -- a parameter in a declarator, where no function is defined
  a_parameter : (t : CType) → Entity

-- how a declaration declares (6.9.2): it may leave the definition to others, or define where no other does
pub data How : Type 0 where
  declares : How
  tentative : How
  defines : How

-- a name, where it stands, the byte from which on it is in scope, and what it stands for
pub record Bound : Type 0 where
  pub name : List ℕ
  pub place : ℕ
  pub from : ℕ
  pub how : How
  pub entity : Entity

-- ---- tags

pub record Tag : Type 0 where
  pub name : List ℕ
  pub place : ℕ
  pub from : ℕ
  pub is_enumeration : Bool

-- ---- objects of the file: those of file scope, `static` locals and string literals

pub record AnObject : Type 0 where
  pub name : List ℕ
  -- where it is defined, or else declared first, and where it is declared first
  pub place : Place
  pub first : ℕ
  pub ty : CType
  pub is_linked : Bool
  -- the bytes of a string literal, with its last zero
  pub literal : Option (List ℕ)
  -- what it holds at first, all else being zero; none where it is only declared
  pub initial : Option (Trees.Initializer Noted)

-- ---- functions of the file

pub record ALocal : Type 0 where
  pub name : List ℕ
  pub ty : CType

pub record AFunction : Type 0 where
  pub name : List ℕ
  -- where it is defined, or else declared first, and where it is declared first
  pub place : Place
  pub first : ℕ
  pub ty : CType
  pub is_linked : Bool
  pub parameters : List ALocal
  -- the locals that are no parameters
  pub locals : List ALocal
  -- none where it is only declared
  pub body : Option (Trees.Statement Noted)
  -- how many nodes its definition has, or its first declaration
  pub nodes : ℕ

-- ---- types of which the file speaks outside of its expressions, and where; they serve the legality tests alone

pub record AMention : Type 0 where
  pub kind : MentionKind
  pub ty : CType
  pub at : ℕ

-- ---- a file: what it declares at file scope, whose scope ends with the file

pub record FileScope : Type 0 where
  -- the number of the file
  pub file : ℕ
  pub names : List Bound
  pub tags : List Tag
  -- the complete records, in the order in which their definitions end, with the byte of each end
  pub records : List Record
  pub ends : List ℕ
  -- the tags of all records: of the complete ones in their order, then of the others
  pub numbered : List (List ℕ)
  pub objects : List AnObject
  pub functions : List AFunction
  pub mentions : List AMention
  -- the tag of a record without one, by the byte of its `struct`
  pub untagged : ℕ → List ℕ

-- what an expression is for: all that it does; its value alone, as of the length of an array or a `case` label; or its type alone, as of
-- the operand of a `sizeof`
pub data Purpose : Type 0 where
  in_full : Purpose
  value_alone : Purpose
  type_alone : Purpose

-- Where an expression stands: the file; the names that the blocks around it declare up to there, the innermost block first; whether it
-- is inside a function or a parameter list; what it is for; and the parameters and locals of the function.
pub record Scope : Type 0 where
  pub file : FileScope
  pub blocks : List (List Bound)
  pub is_inside : Bool
  pub purpose : Purpose
  pub locals : List ALocal

-- at file scope
abbrev pub at_file_scope : FileScope → Scope
at_file_scope f = record { file = f; blocks = []; is_inside = false; purpose = in_full; locals = [] }

-- inside a block, or a parameter list
abbrev pub inside : Scope → Scope
inside s = record { file = s.file; blocks = [] ∷ s.blocks; is_inside = true; purpose = s.purpose; locals = s.locals }

-- what a declaration of the innermost block adds
abbrev pub with_name : List (List Bound) → Bound → List (List Bound)
with_name [] b = (b ∷ []) ∷ []
with_name (block ∷ outer) b = (block ++ b ∷ []) ∷ outer

abbrev pub with_local : Scope → Bound → Scope
with_local s b = record { file = s.file; blocks = with_name s.blocks b; is_inside = true; purpose = s.purpose; locals = s.locals }

-- a parameter of a declarator
abbrev pub with_parameter : Scope → (name : List ℕ) → (place : ℕ) → CType → Scope
with_parameter s x at t = with_local s (record { name = x; place = at; from = at; how = defines; entity = a_parameter t })

-- ---- what a name stands for at a byte

abbrev pub or_else : {A : Type 0} → Option A → Option A → Option A
or_else None o = o
or_else (Some x) o = Some x

-- what a block declares under a name
abbrev pub declared_in : List Bound → List ℕ → Option Bound
declared_in [] x = None
declared_in (b ∷ more) x = if bytes_eq b.name x then Some b else declared_in more x

-- the innermost block that declares a name hides what it stands for outside (6.2.1)
abbrev pub innermost : List (List Bound) → List ℕ → Option Entity
innermost [] x = None
innermost (block ∷ outer) x = or_else (option_map (λ b. b.entity) (declared_in block x)) (innermost outer x)

abbrev pub in_first : List (List Bound) → List ℕ → Option Bound
in_first [] x = None
in_first (block ∷ outer) x = declared_in block x

-- what the innermost block has declared under a name
abbrev pub here : Scope → List ℕ → Option Bound
here s x = in_first s.blocks x

-- one whose scope began before
abbrev pub visible : List Bound → List ℕ → (at : ℕ) → Option Entity
visible [] x at = None
visible (b ∷ more) x at = or_else (if bytes_eq b.name x && nat_le b.from at then Some b.entity else None) (visible more x at)

abbrev pub named : Scope → List ℕ → (at : ℕ) → Option Entity
named s x at = or_else (innermost s.blocks x) (visible s.file.names x at)

-- a tag that was declared before, and whether it is one of an enumeration
abbrev pub tag_at : List Tag → List ℕ → (at : ℕ) → Option Bool
tag_at [] x at = None
tag_at (t ∷ more) x at = or_else (if bytes_eq t.name x && nat_lt t.from at then Some t.is_enumeration else None) (tag_at more x at)

-- ---- complete records

-- how many definitions ended before a byte
abbrev pub ended : List ℕ → (at : ℕ) → ℕ
ended [] at = 0
ended (end ∷ more) at = (if nat_lt end at then 1 else 0) + ended more at

-- the number of a record by its tag
abbrev pub IsNumbered : FileScope → List ℕ → ℕ → Type 0
IsNumbered f tag r = slice_get f.numbered r ≡ Some tag

-- ---- what is declared where an expression stands

abbrev pub declared : Scope → Declared
declared s = record {
  records = s.file.records;
  complete = ended s.file.ends;
  locals = map (λ l. l.ty) s.locals;
  objects = map (λ o. o.ty) s.file.objects;
  functions = map (λ f. f.ty) s.file.functions;
}

-- ---- operands that are not evaluated

abbrev pub with_purpose : Purpose → Scope → Scope
with_purpose p s = record { file = s.file; blocks = s.blocks; is_inside = s.is_inside; purpose = p; locals = s.locals }

-- in the operand of a `sizeof`
abbrev pub measured : Scope → Scope
measured s = with_purpose type_alone s

-- of what stands in the operand of a `sizeof` no more than a type is used
abbrev pub purpose_of_value : Purpose → Purpose
purpose_of_value type_alone = type_alone
purpose_of_value p = value_alone

-- where an expression stands for its value
abbrev pub for_value : Scope → Scope
for_value s = with_purpose (purpose_of_value s.purpose) s

abbrev pub is_measured : Purpose → Bool
is_measured type_alone = true
is_measured p = false

-- ---- the file speaks of a type there; what is said in the operand of a `sizeof` is left out

abbrev pub IsListedAt : List AMention → MentionKind → CType → ℕ → Type 0
IsListedAt all kind t at = (k : ℕ) × (slice_get all k ≡ Some (record { kind = kind; ty = t; at = at }))

abbrev pub IsMentioned : Scope → MentionKind → CType → ℕ → Type 0
IsMentioned s kind t at = (is_measured s.purpose ≡ true) ⊎ IsListedAt s.file.mentions kind t at
