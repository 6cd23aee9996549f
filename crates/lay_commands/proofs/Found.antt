-- What a parse found, by its rows.
use Rattle.std.proofs.Common.{◌≡◌, List, [], ◌∷◌, map, length, Some, None, refl, arith}
use Rattle.std.specs.Prelude.{option_map, ◌==◌, if◌then◌else◌}
use Rattle.std.specs.Borrow.{Bor}
use Rattle.clap.specs.Walk.{Text, rows_of, first_of, one_of, all_of}
use Rattle.clap.specs.Matches.{first_value, one_text, matched_of, raw_values}
use Rattle.clap.specs.declared.parser.matches.Found.{Found}
use Rattle.lay_commands.specs.Words.{some_files}
use Rattle.clap.proofs.WalkLemmas.{first_value-rows, one_text-rows, raw_values-rows}

pub first_by_rows : (f : Found) (id : Text) → first_value f id ≡ first_of id (rows_of f)
first_by_rows f id = first_value-rows f id

pub one_by_rows : (f : Found) (id : Text) → one_text f id ≡ one_of id (rows_of f)
one_by_rows f id = one_text-rows f id

pub all_by_rows : (f : Found) (id : Text) → option_map raw_values (matched_of f id) ≡ all_of id (rows_of f)
all_by_rows f id = raw_values-rows f id

pub files_kept : (files : List (Bor Text))
    → some_files (map (λ file. file.now) files) ≡ (if length files == 0 then None else Some (map (λ file. file.now) files))
files_kept [] = refl
files_kept (file ∷ more) = grind arith
