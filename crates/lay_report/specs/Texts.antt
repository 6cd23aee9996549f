-- The lines of a report (own).
use Rattle.std.specs.Prelude.{ℕ, ◌+◌, List, [], ◌∷◌, ◌++◌, codes, decimal, Option, Some, None, slice_get, unwrap_or}
use Rattle.std.specs.List.{concat}
use Rattle.c_types.specs.Types.{Field}
use Rattle.legality.specs.declared.violation.Test.{Test}
use Rattle.legality.specs.declared.violation.Test.TheVariants.{Cstt, Cstf, Atkn, Libc, Ind, Mset, Nest, Size, Objt, Copy}
use Rattle.layout_plan.specs.declared.plans.Decision.{Decision}
use Rattle.layout_plan.specs.declared.plans.Decision.TheVariants.{Refused, Reordered, Split, Peeled}
use Rattle.layout_plan.specs.declared.plans.PartField.{PartField}

abbrev pub test_name : Test → List ℕ
test_name Cstt = codes "CSTT"
test_name Cstf = codes "CSTF"
test_name Atkn = codes "ATKN"
test_name Libc = codes "LIBC"
test_name Ind = codes "IND"
test_name Mset = codes "MSET"
test_name Nest = codes "NEST"
test_name Size = codes "SIZE"
test_name Objt = codes "OBJT"
test_name Copy = codes "COPY"

abbrev pub line : (pieces : List (List ℕ)) → List ℕ
line pieces = concat pieces ++ 10 ∷ []

abbrev pub first_line : List ℕ
first_line = line (codes "layc report 1" ∷ [])

-- what becomes of a record; of one that violates a test, the file and the line of that as a text
abbrev pub decision_text : (place : List ℕ) → Decision → (parts : ℕ) → List ℕ
decision_text place (Refused v) parts = concat (codes "refused " ∷ test_name v.test ∷ codes " at " ∷ place ∷ [])
decision_text place Reordered parts = codes "reordered"
decision_text place Split parts = codes "split"
decision_text place Peeled parts = concat (codes "peeled " ∷ decimal parts ∷ [])

abbrev pub record_line : (tag : List ℕ) → (size : ℕ) → (decision : List ℕ) → List ℕ
record_line tag size decision = line (codes "record " ∷ tag ∷ codes " size " ∷ decimal size ∷ codes ": " ∷ decision ∷ [])

-- of a record that is laid out anew: a line for each field, in declared order
abbrev pub field_line : (name : List ℕ) → Option PartField → (hotness : ℕ) → List ℕ
field_line name None hotness = line (codes "  " ∷ name ∷ codes " dead" ∷ [])
field_line name (Some at) hotness =
    line (codes "  " ∷ name ∷ codes " part " ∷ decimal at.part ∷ codes " offset " ∷ decimal at.offset ∷ codes " hotness " ∷ decimal hotness ∷ [])

abbrev pub if_placed : Option (Option PartField) → Option PartField
if_placed None = None
if_placed (Some at) = at

-- from the field of a number on
abbrev pub field_lines : (number : ℕ) → List Field → List (Option PartField) → (hotness : List ℕ) → List ℕ
field_lines number [] places hotness = []
field_lines number (f ∷ more) places hotness =
    field_line f.name (if_placed (slice_get places number)) (unwrap_or (slice_get hotness number) 0) ++ field_lines (number + 1) more places hotness

-- and a line for each part, from one on
abbrev pub part_line : (part size : ℕ) → List ℕ
part_line part size = line (codes "  part " ∷ decimal part ∷ codes " size " ∷ decimal size ∷ [])

abbrev pub part_lines : (part : ℕ) → (sizes : List ℕ) → List ℕ
part_lines part [] = []
part_lines part (size ∷ more) = part_line part size ++ part_lines (part + 1) more
