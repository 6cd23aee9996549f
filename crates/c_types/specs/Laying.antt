-- What private functions ask and answer, and what a list of records keeps beside it.
use Rattle.std.specs.Prelude.{◌≡◌, ℕ, ◌<◌, ◌≤◌, ◌-◌, ◌^◌, min, List, All, IsTrue, Result, Ok, Err}
use Rattle.c_types.specs.declared.layout.Layout.{Layout}
use Rattle.c_types.specs.declared.fault.RecordFault.{RecordFault}
use Rattle.c_types.specs.declared.fault.RecordFault.TheVariants.{TooBig, Memory}
use Rattle.c_types.specs.declared.record.Field.{Field}
use Rattle.c_types.specs.declared.record.Record.{Record}
use Rattle.c_types.specs.Layouts.{layouts, size_in}
use Rattle.c_types.specs.Limits.{AreComplete, greatest_size}
use Rattle.c_types.specs.Objects.{is_object}
use Rattle.c_types.specs.Views.{records_of, type_of}

abbrev pub AreAligned : List Layout → Type 0
AreAligned known = All (λ it. 0 < it.alignment) known

abbrev pub AreObjects : (count : ℕ) → List Field → Type 0
AreObjects count fields = All (λ f. IsTrue (is_object count (type_of f.ty))) fields

abbrev pub AreBounded : List Layout → List Field → Type 0
AreBounded known fields = All (λ f. size_in known (type_of f.ty) ≤ greatest_size) fields

-- the layout of one more record
abbrev pub LayoutGives : Layout → Result Layout RecordFault → Type 0
LayoutGives it (Ok layout) = (layout ≡ it) × (it.size ≤ greatest_size)
LayoutGives it (Err (TooBig size)) = (greatest_size < it.size) × (size ≡ min it.size (2 ^ 64 - 1))
LayoutGives it (Err (Memory want)) = it.size ≤ greatest_size

-- a list of records with the layouts that are kept for it
pub record AreLaid (records : List Record) (known : List Layout) : Type 0 where
  pub laid : known ≡ layouts (records_of records)
  pub complete : AreComplete (records_of records)
  pub small : All (λ it. it.size ≤ greatest_size) known
