-- What a call answers, and the file after it, against what the checker's definition gives.
pub use Rattle.c_declaring.specs.Finds.{Finds}
