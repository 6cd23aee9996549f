-- The rows of a table, by the numbers of their types.
use Rattle.std.proofs.Common.{◌≡◌, ◌≤◌, ◌<◌, ◌+◌, ◌++◌, ◌⊎◌, inl, inr, ℕ, zero, suc, List, [], ◌∷◌, length, refl, sym, ap, ◌∙◌, subst, arith, length-append}
use Rattle.std.proofs.Common.{add-one}
use Rattle.std.specs.Prelude.{slice_get, unwrap_or, map, Option, Some, None}
use Rattle.std.proofs.lemmas.Bool.{cases_lt}
use Rattle.std.proofs.lemmas.Option.{slice_get_past, slice_get_within, slice_get-map}
use Rattle.std.proofs.Math.Nat.{eq-or-lt_of_le}
use Rattle.c_types.specs.declared.ty.Ty.{Ty}
use Rattle.c_types.specs.Types.{CType, void}
use Rattle.c_types.specs.Views.{type_of}
use Rattle.c_types.proofs.Before.{pushed}
use Rattle.c_typed.specs.declared.program.Typed.{Typed}
use Rattle.c_typed.specs.Programs.{ProgramData, program_data}
use Rattle.c_meaning.specs.Program.{type_at}
use Rattle.source_values.specs.declared.row.TypeRow.{TypeRow}
use Rattle.source_values.specs.Rows.{AreRows, IsSmall, TypesAreSmall, row_for, row_of, rows_of}

-- ---- the first rows

length-rows : (p : ProgramData) (count : ℕ) → length (rows_of p count) ≡ count
length-rows p zero = refl
length-rows p (suc n) = omega (arith, length-rows p n, length-append (rows_of p n) (row_of p n ∷ []))

kept : {X : Type 0} (xs ys : List X) (k : ℕ) (x : X) → slice_get xs k ≡ Some x → slice_get (xs ++ ys) k ≡ Some x
kept [] ys k x e = cc
kept (z ∷ xs) ys zero x e = e
kept (z ∷ xs) ys (suc k) x e = kept xs ys k x e

at_end : (n c : ℕ) → n < suc c → (n ≡ c) ⊎ (n < c)
at_end n c h = eq-or-lt_of_le (omega arith)

row_at : (p : ProgramData) (count n : ℕ) → n < count → slice_get (rows_of p count) n ≡ Some (row_of p n)
row_at p zero n h = absurd (omega arith)
row_at p (suc c) n h = elim (at_end n c h) as (λ _. slice_get (rows_of p (suc c)) n ≡ Some (row_of p n)) [
  | inl e ↦ rw e (subst (λ (k : ℕ). slice_get (rows_of p (suc c)) k ≡ Some (row_of p c)) (length-rows p c) (pushed (rows_of p c) (row_of p c)))
  | inr l ↦ kept (rows_of p c) (row_of p c ∷ []) n (row_of p n) (row_at p c n l)
]

-- ---- past the end

past_is : (p : ProgramData) (number : ℕ) → length p.types ≤ number → row_for p void number ≡ row_of p number
past_is p number h =
    let past : type_at p number ≡ void = ap (λ (o : Option CType). unwrap_or o void) (slice_get_past p.types number h) in
    ap (λ (t : CType). row_for p t number) (sym past)

-- ---- a whole table

module _ (p : ProgramData) (rows : List TypeRow) (number : ℕ) (known : AreRows p rows) where
  count : length rows ≡ length p.types
  count = ap length known.all ∙ length-rows p (length p.types)

  pub found_is : (row : TypeRow) → Some row ≡ slice_get rows number → row ≡ row_of p number
  found_is row e =
      let within = slice_get_within rows number row (sym e) in
      let inside : number < length p.types = omega (arith, count) in
      let there : slice_get rows number ≡ Some (row_of p number) = rw known.all (row_at p (length p.types) number inside) in
      cc

  pub found_small : (row : TypeRow) → Some row ≡ slice_get rows number → IsSmall row
  found_small row e = rw (found_is row e) (known.small number)

  pub missing_is : None ≡ slice_get rows number → row_for p void number ≡ row_of p number
  missing_is e = elim (cases_lt number (length p.types)) [
    | inl inside ↦ let there : slice_get rows number ≡ Some (row_of p number) = rw known.all (row_at p (length p.types) number inside) in cc
    | inr past ↦ past_is p number past
  ]

pub all_found : (p : ProgramData) (rows : List TypeRow) (count : ℕ) → count ≡ length p.types → rows ≡ rows_of p count → TypesAreSmall p → AreRows p rows
all_found p rows count e is small = record { all = rw (← e) is; small = small }

-- ---- one more row

type_here : (p : Typed) (number : ℕ) (t : Ty) → slice_get p.types number ≡ Some t → type_at (program_data p) number ≡ type_of t
type_here p number t is =
    let here : slice_get (map type_of p.types) number ≡ Some (type_of t) = simp (slice_get-map, is) in
    ap (λ (o : Option CType). unwrap_or o void) here

pub small_here : (p : Typed) (number : ℕ) (t : Ty) → slice_get p.types number ≡ Some t → TypesAreSmall (program_data p)
    → IsSmall (row_for (program_data p) (type_of t) number)
small_here p number t is small = subst (λ (t : CType). IsSmall (row_for (program_data p) t number)) (type_here p number t is) (small number)

pub row_here : (p : Typed) (number : ℕ) (t : Ty) (row : TypeRow) → slice_get p.types number ≡ Some t → row ≡ row_for (program_data p) (type_of t) number
    → row ≡ row_of (program_data p) number
row_here p number t row is e = e ∙ ap (λ (t : CType). row_for (program_data p) t number) (sym (type_here p number t is))

pub one_more : (p : ProgramData) (rows more : List TypeRow) (number : ℕ) (row : TypeRow) → row ≡ row_of p number → rows ≡ rows_of p number
    → more ≡ rows ++ row ∷ [] → more ≡ rows_of p (number + 1)
one_more p rows more number row here before added = rw (add-one, added, before, here) refl
