-- Numbers of types in place of types with their notes.
use Rattle.std.specs.Prelude.{ℕ, List, map}
use Rattle.c_types.specs.declared.ty.Ty.{Ty}
use Rattle.c_types.specs.Views.{type_of}
use Rattle.c_typed.specs.Mapped.{Renaming, of_types, mapped_statements}
use Rattle.c_typed.specs.Views.{OneArm}
use Rattle.c_annotated.specs.Views.{OneArm as NotedArm}
use Rattle.c_erasure.specs.Noted.{Noted}
use Rattle.c_erasure.specs.Units.{number_in}

abbrev pub numbered : List Ty → Renaming Noted ℕ
numbered types = of_types (λ t. number_in (map type_of types) t.ty)

abbrev pub numbered_arm : List Ty → NotedArm → OneArm
numbered_arm types arm = (arm.0, arm.1, mapped_statements (numbered types) arm.2)
