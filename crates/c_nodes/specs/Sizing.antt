-- Types whose size is asked, with their sizes.
use Rattle.std.specs.Prelude.{ℕ, List, Ok}
use Rattle.c_types.specs.Types.{CType, Record}
use Rattle.c_types.specs.Layouts.{size_of}
use Rattle.c_types.specs.Views.{type_of}
use Rattle.c_erasure.specs.Checking.Answers.{Answer, ◌>>=◌}
use Rattle.c_erasure.specs.Checking.Nodes.{sized_type}
use Rattle.c_nodes.specs.declared.sizes.SizedType.{SizedType}

abbrev pub sized_view : SizedType → CType × ℕ
sized_view it = (type_of it.ty, it.size)

abbrev pub with_size : List Record → Answer CType → Answer (CType × ℕ)
with_size records r = r >>= λ t. Ok (t, size_of records t)

abbrev pub sized_in : List Record → (count at : ℕ) → CType → Answer (CType × ℕ)
sized_in records count at t = with_size records (sized_type records count at t)
