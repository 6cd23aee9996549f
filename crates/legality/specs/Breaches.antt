-- Which tests a record violates, and where (own): by what is said in functions, by what is said outside of them, and by the fields of records.
use Rattle.std.specs.Prelude.{ℕ, ◌+◌, not, ◌&&◌, if◌then◌else◌, ◌≡◌, ◌⊎◌, List, [], ◌∷◌, ◌++◌, map, flat_map, Option, Some, None, slice_get}
use Rattle.lay_base.specs.declared.place.Place.{Place}
use Rattle.c_types.specs.Types.{CType, Field, Record}
use Rattle.c_types.specs.Sameness.{same_type}
use Rattle.c_typed.specs.Conversions.{is_pointer}
use Rattle.c_typed.specs.declared.operators.LibraryFunction.{LibraryFunction}
use Rattle.c_typed.specs.declared.operators.LibraryFunction.TheVariants as L
use Rattle.c_typed.specs.declared.program.Mention.{Mention}
use Rattle.c_typed.specs.declared.program.MentionKind.{MentionKind}
use Rattle.c_typed.specs.declared.program.MentionKind.TheVariants as M
use Rattle.c_typed.specs.Programs.{ProgramData}
use Rattle.c_facts.specs.declared.fact.Fact.{Fact}
use Rattle.c_facts.specs.declared.fact.Fact.TheVariants as F
use Rattle.c_facts.specs.Programs.{facts_of}
use Rattle.legality.specs.declared.violation.Test.{Test}
use Rattle.legality.specs.declared.violation.Test.TheVariants.{Cstt, Cstf, Atkn, Libc, Ind, Mset, Nest, Size, Objt, Copy}
use Rattle.legality.specs.declared.violation.Violation.{Violation}
use Rattle.legality.specs.Holdings.{held_in, holdings_of}
use Rattle.legality.specs.InTypes.{arrays_in, itself, pointed, pointers_in}

-- a violation, and the number of the record that it is of
pub record Breach : Type 0 where
  pub of : ℕ
  pub by : Violation

abbrev pub breach : (number : ℕ) → Violation → Breach
breach number v = record { of = number; by = v }

abbrev pub all_of : Test → Place → List ℕ → List Breach
all_of test at numbers = map (λ r. breach r (record { test = test; place = at })) numbers

-- ---- by what functions say

-- null and recognised allocations are no conversions here
abbrev pub by_conversion : (from to : CType) → Place → List Breach
by_conversion s t at = if is_pointer s && is_pointer t && not (same_type s t) then all_of Cstt at (pointed t) ++ all_of Cstf at (pointed s) else []

abbrev pub by_argument : LibraryFunction → CType → Place → List Breach
by_argument L.Free t at = []
by_argument L.Memset t at = all_of Mset at (pointed t)
by_argument L.Memcpy t at = all_of Mset at (pointed t)
by_argument L.Memmove t at = all_of Mset at (pointed t)
by_argument which t at = all_of Libc at (pointed t)

abbrev pub if_known : (CType → List Breach) → Option CType → List Breach
if_known by None = []
if_known by (Some t) = by t

abbrev pub if_both : (CType → CType → List Breach) → Option CType → Option CType → List Breach
if_both by (Some s) (Some t) = by s t
if_both by s t = []

abbrev pub by_fact : (types : List CType) → Fact → List Breach
by_fact types (F.Converted s t at) = if_both (λ s t. by_conversion s t at) (slice_get types s) (slice_get types t)
by_fact types (F.Taken r at) = all_of Atkn at (r ∷ [])
by_fact types (F.Passed which t at) = if_known (λ t. by_argument which t at) (slice_get types t)
by_fact types (F.Function t at) = if_known (λ t. all_of Ind at (pointers_in t)) (slice_get types t)
by_fact types (F.Copied t at) = if_known (λ t. all_of Copy at (itself t)) (slice_get types t)
by_fact types fact = []

-- ---- by what is said outside of functions

abbrev pub by_kind : (holdings : List (List ℕ)) → MentionKind → CType → Place → List Breach
by_kind holdings M.Object t at = all_of Objt at (itself t ++ arrays_in t)
by_kind holdings M.Named t at = all_of Objt at (arrays_in t)
by_kind holdings M.Sizeof t at = all_of Size at (held_in holdings t)
by_kind holdings M.Used t at = all_of Ind at (pointers_in t)
by_kind holdings M.From t at = all_of Cstf at (pointed t)
by_kind holdings M.To t at = all_of Cstt at (pointed t)
by_kind holdings M.Field t at = all_of Atkn at (itself t)

abbrev pub by_mention : (types : List CType) (holdings : List (List ℕ)) → Mention → List Breach
by_mention types holdings m = if_known (λ t. by_kind holdings m.kind t m.place) (slice_get types m.ty)

-- ---- by the fields of records

-- a field that holds a record violates the test of that one, and of the record that has the field
abbrev pub by_held : (owner : ℕ) → Place → List ℕ → List Breach
by_held owner at [] = []
by_held owner at (r ∷ more) = all_of Nest at (owner ∷ r ∷ more)

-- ... and one in whose type an array of T stands violates a test of T, wherever the structure is defined: no mention tells of the operand of a `sizeof`
abbrev pub by_field : (holdings : List (List ℕ)) → (owner : ℕ) → Field → List Breach
by_field holdings owner f = by_held owner f.place (held_in holdings f.ty) ++ all_of Objt f.place (arrays_in f.ty)

abbrev pub by_records : (holdings : List (List ℕ)) → (number : ℕ) → List Record → List Breach
by_records holdings number [] = []
by_records holdings number (r ∷ more) = flat_map (by_field holdings number) r.fields ++ by_records holdings (number + 1) more

-- ---- all of a program

-- by these facts
abbrev pub breaches_by : ProgramData → List Fact → List Breach
breaches_by p facts = flat_map (by_fact p.types) facts ++ flat_map (by_mention p.types (holdings_of p.records)) p.mentions ++ by_records (holdings_of p.records) 0 p.records

abbrev pub breaches : ProgramData → List Breach
breaches p = breaches_by p (facts_of p)

abbrev pub IsIn : Breach → List Breach → Type 0
IsIn b [] = ⊥
IsIn b (c ∷ more) = (b ≡ c) ⊎ IsIn b more

-- a record violates a test at a place
abbrev pub Violates : ProgramData → (number : ℕ) → Test → Place → Type 0
Violates p number test place = IsIn (breach number (record { test = test; place = place })) (breaches p)
