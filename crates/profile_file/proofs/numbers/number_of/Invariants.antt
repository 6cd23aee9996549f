use Rattle.std.proofs.Common.{◌≡◌, ◌≤◌, true, take}
use Rattle.std.specs.List.{list_all}
use Rattle.profile_file.specs.Reading.{is_digit, value_of_digits}
use Rattle.profile_file.specs.Text.{greatest_count}
use Rattle.profile_file.proofs.numbers.number_of.Given as goal

abbrev pub invariant-loop-digit : goal.invariant-loop-digit
invariant-loop-digit l = record {
  digits : list_all is_digit (take l.digit-index l.digits) ≡ true;
  value : l.number ≡ value_of_digits (take l.digit-index l.digits);
  small : l.number ≤ greatest_count;
}
