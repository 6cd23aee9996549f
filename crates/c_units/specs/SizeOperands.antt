-- Mentions of a file: those of size operands are left out, and those of initializers are told.
use Rattle.std.specs.Prelude.{ℕ, Bool, not, ◌&&◌, List, ◌++◌, filter, flat_map, map}
use Rattle.std.specs.Option.{option_map}
use Rattle.c_types.specs.Types.{CType}
use Rattle.c_typed.specs.Mapped.{mapped_initializer, of_types}
use Rattle.c_erasure.specs.InitialMentions.{told_by_initial}
use Rattle.c_erasure.specs.Scopes.{AFunction, AMention, AnObject}
use Rattle.c_erasure.specs.SizeOperands.{operands_in_statement}
use Rattle.c_erasure.specs.Units.{if_any, is_among as is_place, is_sizeof}
use Rattle.c_units.specs.RecognisedParts.{recognised_object}

-- the places of size operands in a body, and in all
abbrev pub operands_in : AFunction → List ℕ
operands_in g = flat_map operands_in_statement (if_any g.body)

abbrev pub operands_of : List AFunction → List ℕ
operands_of functions = flat_map operands_in functions

-- by which places are those of size operands
abbrev pub is_operand : (ℕ → Bool) → AMention → Bool
is_operand is_size m = is_sizeof m.kind && is_size m.at

abbrev pub kept : (ℕ → Bool) → List AMention → List AMention
kept is_size all = filter (λ m. not (is_operand is_size m)) all

abbrev pub kept_types : (ℕ → Bool) → List AMention → List CType
kept_types is_size all = map (λ m. m.ty) (kept is_size all)

abbrev pub told_by : AnObject → List AMention
told_by o = told_by_initial (option_map (mapped_initializer (of_types (λ t. t.ty))) o.initial)

abbrev pub told : List AnObject → List AMention
told objects = flat_map told_by objects

-- the mentions of a file with those functions and mentions, and those that are told
abbrev pub given_mentions : List AFunction → List AMention → List AMention → List AMention
given_mentions functions all others = kept (is_place (operands_of functions)) all ++ others

abbrev pub mentions_of : List AnObject → List AFunction → List AMention → List AMention
mentions_of objects functions all = given_mentions functions all (told (map recognised_object objects))
