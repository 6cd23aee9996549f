-- A record is no smaller than each of its fields.
use Rattle.std.proofs.Common.{◌≡◌, ◌<◌, ◌≤◌, ℕ, zero, suc, Bool, true, false, List, [], ◌∷◌, length, get_or, None, refl, subst, sym, arith}
use Rattle.std.proofs.lemmas.Bool.{leb-false}
use Rattle.std.specs.Prelude.{fold, nat_le}
use Rattle.std.specs.Bool.{then_some}
use Rattle.c_types.specs.declared.layout.Layout.{Layout}
use Rattle.c_types.specs.declared.record.Field.{Field}
use Rattle.c_types.specs.declared.record.Record.{Record}
use Rattle.c_types.specs.Layouts.{end_after, greatest_alignment, layouts, size_in, size_of, size_of_record}
use Rattle.c_types.specs.Limits.{greatest_size, size_if_small}
use Rattle.c_types.specs.Views.{record_of, records_of, type_of, types_of_fields}
use Rattle.c_types.proofs.Ends.{end_from, next_multiple_from}

ends_behind : (known : List Layout) (before : ℕ) (fields : List Field) (i : ℕ) (f : Field) → i < length fields → f ≡ get_or fields i f
    → size_in known (type_of f.ty) ≤ fold (end_after known) before (types_of_fields fields)
ends_behind known before [] i f h e = absurd (omega (arith, h))
ends_behind known before (x ∷ more) zero f h e =
    subst (λ (y : Field). size_in known (type_of y.ty) ≤ fold (end_after known) before (types_of_fields (x ∷ more))) (sym e)
    (omega (arith, end_from known (end_after known before (type_of x.ty)) (types_of_fields more)))
ends_behind known before (x ∷ more) (suc i) f h e = ends_behind known (end_after known before (type_of x.ty)) more i f (omega (arith, h)) e

not_small : (b : Bool) (size : ℕ) → None ≡ then_some b size → b ≡ false
not_small true size h = cc
not_small false size h = refl

pub passes_with_field : (records : List Record) (r : Record) (i : ℕ) (f : Field) → i < length r.fields → f ≡ get_or r.fields i f
    → None ≡ size_if_small (size_of (records_of records) (type_of f.ty)) → greatest_size < size_of_record (records_of records) (record_of r)
passes_with_field records r i f h e none =
    let known = layouts (records_of records) in
    let size = size_of (records_of records) (type_of f.ty) in
    let end = fold (end_after known) 0 (types_of_fields r.fields) in
    let past : greatest_size < size = leb-false size greatest_size (not_small (nat_le size greatest_size) size none) in
    omega (arith, past, ends_behind known 0 r.fields i f h e, next_multiple_from end (greatest_alignment known (types_of_fields r.fields)))
