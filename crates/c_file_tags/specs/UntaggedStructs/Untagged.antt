-- The places of structures, and how many of them are on a line.
use Rattle.std.specs.Prelude.{ℕ, nat_eq, Bool, ◌&&◌, List, unwrap_or, flat_map}
use Rattle.std.specs.Global.{Vec}
use Rattle.std.specs.Map.{lookup}
use Rattle.std.specs.Str.{bytes_eq}
use Rattle.c_tokens.specs.declared.token.Token.{Token}
use Rattle.c_erasure.specs.Untagged.{Line, place_of_struct}

-- where the keyword `struct` stands
abbrev pub structs_of : List Token → List ℕ
structs_of tokens = flat_map (λ t. place_of_struct t.kind t.from) tokens

-- ---- counts of places on lines

abbrev pub is_line : Line → Line → Bool
is_line a b = bytes_eq a.0 b.0 && nat_eq a.1 b.1

abbrev pub counted_at : List ((Vec ℕ × ℕ) × ℕ) → Line → ℕ
counted_at counts line = unwrap_or (lookup (λ key. is_line line (key.0.items, key.1)) counts) 0
