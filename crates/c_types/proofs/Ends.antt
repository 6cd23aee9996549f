-- Where fields end, in numbers that stop at a greatest one.
use Rattle.std.proofs.Common.{◌≡◌, ℕ, ◌+◌, ◌<◌, ◌≤◌, List, [], ◌∷◌, arith, ◌∙◌, sym, ap, subst, drop, length, slice_index_or, ◌++◌, append_assoc}
use Rattle.std.proofs.lemmas.List.{drop_more}
use Rattle.std.specs.Prelude.{min, fold}
use Rattle.std.specs.Int.{next_multiple_of}
use Rattle.c_types.specs.declared.layout.Layout.{Layout}
use Rattle.c_types.specs.declared.record.Field.{Field}
use Rattle.c_types.specs.Layouts.{alignment_in, begin_after, end_after, offsets_after}
use Rattle.c_types.specs.Types.{CType}
use Rattle.c_types.specs.Views.{types_of_fields, type_of}

-- a list from a place on has the item there first
pub here : (fields : List Field) (i : ℕ) (f : Field) → i < length fields → f ≡ slice_index_or fields i f → drop i fields ≡ f ∷ drop (i + 1) fields
here fields i f h is = drop_more fields i f h ∙ ap (λ x. x ∷ drop (i + 1) fields) (sym is)

pub next_multiple_from : (n unit : ℕ) → n ≤ next_multiple_of n unit
next_multiple_from n unit = omega arith

-- a greatest number in between changes nothing
pub capped_multiple : (n unit most : ℕ) → min (next_multiple_of (min n most) unit) most ≡ min (next_multiple_of n unit) most
capped_multiple n unit most = grind arith

pub capped_end : (known : List Layout) (n most : ℕ) (t : CType) → min (end_after known (min n most) t) most ≡ min (end_after known n t) most
capped_end known n most t = omega (arith, capped_multiple n (alignment_in known t) most)

pub capped_ends : (known : List Layout) (n most : ℕ) (types : List CType)
    → min (fold (end_after known) (min n most) types) most ≡ min (fold (end_after known) n types) most
capped_ends known n most [] = omega arith
capped_ends known n most (t ∷ more) =
    sym (capped_ends known (end_after known (min n most) t) most more)
    ∙ ap (λ k. min (fold (end_after known) k more) most) (capped_end known n most t)
    ∙ capped_ends known (end_after known n t) most more

pub end_from : (known : List Layout) (n : ℕ) (types : List CType) → n ≤ fold (end_after known) n types
end_from known n [] = omega arith
end_from known n (t ∷ more) =
    omega (arith, end_from known (end_after known n t) more, next_multiple_from n (alignment_in known t))

-- ---- fields from one of them on

-- one field more, in numbers that stop at a greatest one
pub capped_more : (known : List Layout) (fields : List Field) (i : ℕ) (f : Field) (n m most total : ℕ) → i < length fields → f ≡ slice_index_or fields i f
    → m ≡ min (end_after known n (type_of f.ty)) most
    → min (fold (end_after known) n (types_of_fields (drop i fields))) most ≡ total
    → min (fold (end_after known) m (types_of_fields (drop (i + 1) fields))) most ≡ total
capped_more known fields i f n m most total h is e far =
    ap (λ k. min (fold (end_after known) k (types_of_fields (drop (i + 1) fields))) most) e
    ∙ capped_ends known (end_after known n (type_of f.ty)) most (types_of_fields (drop (i + 1) fields))
    ∙ sym (ap (λ all. min (fold (end_after known) n (types_of_fields all)) most) (here fields i f h is))
    ∙ far

-- fields that end within a limit, from one of them on: that one and those after it do
pub record Within (known : List Layout) (fields : List Field) (i : ℕ) (f : Field) (n limit : ℕ) : Type 0 where
  pub this : end_after known n (type_of f.ty) ≤ limit
  pub more : fold (end_after known) (end_after known n (type_of f.ty)) (types_of_fields (drop (i + 1) fields)) ≤ limit

pub within : (known : List Layout) (fields : List Field) (i : ℕ) (f : Field) (n limit : ℕ) → i < length fields → f ≡ slice_index_or fields i f
    → fold (end_after known) n (types_of_fields (drop i fields)) ≤ limit → Within known fields i f n limit
within known fields i f n limit h is far =
    let P : List Field → Type 0 = λ all. fold (end_after known) n (types_of_fields all) ≤ limit in
    let more : fold (end_after known) (end_after known n (type_of f.ty)) (types_of_fields (drop (i + 1) fields)) ≤ limit = subst P (here fields i f h is) far in
    record {
      this = omega (arith, end_from known (end_after known n (type_of f.ty)) (types_of_fields (drop (i + 1) fields)));
      more = more;
    }

-- one offset more
pub offset_more : (known : List Layout) (fields : List Field) (i : ℕ) (f : Field) (n begin end : ℕ) (done new all : List ℕ) → i < length fields
    → f ≡ slice_index_or fields i f → begin ≡ begin_after known n (type_of f.ty) → end ≡ end_after known n (type_of f.ty)
    → new ≡ done ++ begin ∷ [] → done ++ offsets_after known n (types_of_fields (drop i fields)) ≡ all
    → new ++ offsets_after known end (types_of_fields (drop (i + 1) fields)) ≡ all
offset_more known fields i f n begin end done new all h is b e added far =
    ap (λ some. some ++ offsets_after known end (types_of_fields (drop (i + 1) fields))) added
    ∙ append_assoc done (begin ∷ []) (offsets_after known end (types_of_fields (drop (i + 1) fields)))
    ∙ ap (λ k. done ++ begin ∷ offsets_after known k (types_of_fields (drop (i + 1) fields))) e
    ∙ ap (λ k. done ++ k ∷ offsets_after known (end_after known n (type_of f.ty)) (types_of_fields (drop (i + 1) fields))) b
    ∙ sym (ap (λ some. done ++ offsets_after known n (types_of_fields some)) (here fields i f h is))
    ∙ far
