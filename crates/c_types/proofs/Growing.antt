-- What is known of types over a list of records stays as it is over a longer list.
use Rattle.std.proofs.Common.{◌≡◌, ◌*◌, ℕ, ◌<◌, List, [], ◌∷◌, ◌++◌, length, slice_index_or, IsTrue, refl, arith, length-append, sym, ap, ◌∙◌}
use Rattle.std.specs.Prelude.{nat_lt, slice_get, slice_index, unwrap_or, Option, Some}
use Rattle.std.proofs.lemmas.Bool.{and_from, and_parts, lt-ltb, ltb-true}
use Rattle.std.proofs.lemmas.List.Sums.{fold-append}
use Rattle.std.proofs.lemmas.Option.{slice_get-get_or}
use Rattle.c_types.specs.declared.layout.Layout.{Layout}
use Rattle.c_types.specs.Laws.{HasItsSize, LayoutsStay}
use Rattle.c_types.specs.Layouts.{layout, align_of, layouts, layout_at, size_of}
use Rattle.c_types.specs.Objects.{is_object}
use Rattle.c_types.specs.Types.{field_types, CType, Record, void, integer, pointer, array, function, structure}
use Rattle.c_types.proofs.Before.{kept, length-layouts, pushed, step}

abbrev or_none : Option Layout → Layout
or_none o = unwrap_or o (record { offsets = []; size = 0; alignment = 1 })

layout_stays : (records more : List Record) (number : ℕ) → number < length records
    → layout_at (layouts (records ++ more)) number ≡ layout_at (layouts records) number
layout_stays records more number h =
    let d : Layout = record { offsets = []; size = 0; alignment = 1 } in
    let here : slice_get (layouts records) number ≡ Some (slice_index_or (layouts records) number d) =
    slice_get-get_or (layouts records) number d (rw (length-layouts records) h) in
    ap (λ all. layout_at all number) (fold-append step [] records more)
    ∙ ap or_none (kept (layouts records) more number (slice_index_or (layouts records) number d) here)
    ∙ sym (ap or_none here)

size_stays : (records more : List Record) (t : CType) → IsTrue (is_object (length records) t) → size_of (records ++ more) t ≡ size_of records t
size_stays records more void h = refl
size_stays records more (integer kind) h = refl
size_stays records more (pointer t) h = refl
size_stays records more (array t n) h =
    ap (λ s. s * n) (size_stays records more t (and_parts (nat_lt 0 n) (is_object (length records) t) h).1)
size_stays records more (function t all) h = refl
size_stays records more (structure number) h = ap (λ (l : Layout). l.size) (layout_stays records more number (ltb-true number (length records) h))

alignment_stays : (records more : List Record) (t : CType) → IsTrue (is_object (length records) t)
    → align_of (records ++ more) t ≡ align_of records t
alignment_stays records more void h = refl
alignment_stays records more (integer kind) h = refl
alignment_stays records more (pointer t) h = refl
alignment_stays records more (array t n) h = alignment_stays records more t (and_parts (nat_lt 0 n) (is_object (length records) t) h).1
alignment_stays records more (function t all) h = refl
alignment_stays records more (structure number) h =
    ap (λ (l : Layout). l.alignment) (layout_stays records more number (ltb-true number (length records) h))

object_stays : (records more : List Record) (t : CType) → IsTrue (is_object (length records) t) → IsTrue (is_object (length (records ++ more)) t)
object_stays records more void h = h
object_stays records more (integer kind) h = h
object_stays records more (pointer t) h = h
object_stays records more (array t n) h =
    let parts = and_parts (nat_lt 0 n) (is_object (length records) t) h in
    and_from (nat_lt 0 n) (is_object (length (records ++ more)) t) parts.0 (object_stays records more t parts.1)
object_stays records more (function t all) h = h
object_stays records more (structure number) h =
    lt-ltb number (length (records ++ more)) (omega (arith, ltb-true number (length records) h, length-append records more))

pub layouts_stay : (records more : List Record) → LayoutsStay records more
layouts_stay records more = record {
  objects = object_stays records more;
  sizes = size_stays records more;
  alignments = alignment_stays records more;
  offsets = λ number field h. ap (λ (l : Layout). slice_index l.offsets field) (layout_stays records more number h);
}

pub has_its_size : (records : List Record) (r : Record) → HasItsSize records r
has_its_size records r =
    ap (λ (all : List Layout). (layout_at all (length records)).size) (fold-append step [] records (r ∷ []))
    ∙ ap (λ n. (layout_at (step (layouts records) r) n).size) (sym (length-layouts records))
    ∙ ap (λ (o : Option Layout). (or_none o).size) (pushed (layouts records) (layout (layouts records) (field_types r)))
