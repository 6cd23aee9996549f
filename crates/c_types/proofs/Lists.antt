-- Lists of layouts.
use Rattle.std.proofs.Common.{◌≡◌, ℕ, ◌<◌, List, length, slice_index_or}
use Rattle.std.proofs.lemmas.Option.{slice_get-get_or}
use Rattle.c_types.specs.declared.layout.Layout.{Layout}
use Rattle.c_types.specs.Layouts.{layout_at}

pub layout_at_place : (known : List Layout) (number : ℕ) (d : Layout) → number < length known → layout_at known number ≡ slice_index_or known number d
layout_at_place known number d h = rw (slice_get-get_or known number d h)
