-- Which records a program may have, and which one may be added to some.
use Rattle.std.specs.Prelude.{◌≤◌, List, All, IsTrue, length}
use Rattle.c_types.specs.declared.record.Record as declared
use Rattle.c_types.specs.Layouts.{size_of, size_of_record}
use Rattle.c_types.specs.Limits.{AreComplete, AreSmall, greatest_size}
use Rattle.c_types.specs.Objects.{is_object}
use Rattle.c_types.specs.Types.{Record}
use Rattle.c_types.specs.Views.{record_of, records_of, type_of}

-- each is of objects that are complete before it, and none is larger than a type may be
pub record AreWhole (records : List Record) : Type 0 where
  pub complete : AreComplete records
  pub small : AreSmall records

pub record CanFollow (records : List declared.Record) (r : declared.Record) : Type 0 where
  pub objects : All (λ f. IsTrue (is_object (length records) (type_of f.ty))) r.fields
  pub bounded : All (λ f. size_of (records_of records) (type_of f.ty) ≤ greatest_size) r.fields
  pub small : size_of_record (records_of records) (record_of r) ≤ greatest_size
