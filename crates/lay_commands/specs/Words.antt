-- What the words on the command line ask for.
use Rattle.std.specs.Prelude.{ℕ, ◌^◌, ◌≤◌, ◌&&◌, nat_le, Bool, false, List, [], ◌∷◌, map, length, codes, Option, Some, None, ⊤}
use Rattle.std.specs.Prelude.{option_and_then, option_map, if◌then◌else◌}
use Rattle.std.specs.List.{list_all}
use Rattle.std.specs.Option.{option_map_or}
use Rattle.std.specs.Char.{is_ascii_digit}
use Rattle.std.specs.Str.{bytes_eq}
use Rattle.std.specs.Str.Parse.{digits_value}
use Rattle.clap.specs.Walk.{Text, Row, first_of, one_of, all_of}
use Rattle.lay_commands.specs.CommandLine.{matches_in}
use Rattle.lay_commands.specs.declared.words.CompileRequest.{CompileRequest}
use Rattle.lay_commands.specs.declared.words.InterpRequest.{InterpRequest}
use Rattle.lay_commands.specs.declared.words.ProfileRequest.{ProfileRequest}
use Rattle.lay_commands.specs.declared.words.Request.{Request}
use Rattle.lay_commands.specs.declared.words.Request.TheVariants as Q

-- ---- numbers, where an option is not given, and the greatest

abbrev pub default_heap : ℕ
default_heap = 256

abbrev pub most_heap : ℕ
most_heap = 1024

abbrev pub default_stack : ℕ
default_stack = 64

abbrev pub most_stack : ℕ
most_stack = 128

abbrev pub default_turns : ℕ
default_turns = 100000000

abbrev pub most_turns : ℕ
most_turns = 10 ^ 18

abbrev pub default_steps : ℕ
default_steps = 10000000000

abbrev pub most_steps : ℕ
most_steps = 10 ^ 18

-- the value of a word of one to twenty decimal digits, which may begin with zeros, from 1 to the greatest
abbrev pub number_in : (most : ℕ) (word : List ℕ) → Option ℕ
number_in most word =
    if list_all is_ascii_digit word && nat_le (length word) 20 && nat_le 1 (digits_value 10 word) && nat_le (digits_value 10 word) most
    then Some (digits_value 10 word) else None

-- ---- commands

-- what `compile` is asked for: the name OUT, the name of a profile if one is given, MiB of heap and of stack, and the names of the files
pub record Compilation : Type 0 where
  pub out : List ℕ
  pub profile : Option (List ℕ)
  pub is_plain : Bool
  pub heap : ℕ
  pub stack : ℕ
  pub files : List (List ℕ)

-- there is a file, and heap and stack are within their limits
pub record IsInRange (c : Compilation) : Type 0 where
  pub some : 1 ≤ length c.files
  pub heap : (1 ≤ c.heap) × (c.heap ≤ most_heap)
  pub stack : (1 ≤ c.stack) × (c.stack ≤ most_stack)

-- what `profile` is asked for: the name under which the profile is written, how many turns may begin, and the names of the files
pub record Profiling : Type 0 where
  pub out : List ℕ
  pub turns : ℕ
  pub files : List (List ℕ)

-- what `interp` is asked for: how many turns may begin, and the names of the files
pub record Interpretation : Type 0 where
  pub turns : ℕ
  pub files : List (List ℕ)

abbrev pub AreTurns : ℕ → Type 0
AreTurns turns = (1 ≤ turns) × (turns ≤ most_turns)

pub data Command : Type 0 where
  Compile : Compilation → Command
  Profile : Profiling → Command
  Interp : Interpretation → Command
  Run : (steps : ℕ) (elf : List ℕ) → Command

-- ---- by what is found for the arguments of a command

-- the number that an option has; where it is not given, the default
abbrev pub number_of : (name : Text) (default most : ℕ) → List Row → Option ℕ
number_of name default most rows = option_map_or (number_in most) (first_of name rows) (Some default)

-- the flag is given
abbrev pub is_given : (name : Text) → List Row → Bool
is_given name rows = option_map_or (bytes_eq (codes "true")) (one_of name rows) false

abbrev pub some_files : List Text → Option (List Text)
some_files [] = None
some_files (file ∷ more) = Some (file ∷ more)

-- the files, which are one or more
abbrev pub files_of : List Row → Option (List Text)
files_of rows = option_and_then some_files (all_of (codes "FILE") rows)

-- all of these have to be there
abbrev pub compile_with : (out : Option Text) (files : Option (List Text)) (heap stack : Option ℕ) (profile : Option Text) (is_plain : Bool) → Option Command
compile_with (Some out) (Some files) (Some heap) (Some stack) profile is_plain =
    Some (Compile (record { out = out; profile = profile; is_plain = is_plain; heap = heap; stack = stack; files = files }))
compile_with _ _ _ _ profile is_plain = None

abbrev pub compile_of : List Row → Option Command
compile_of rows = compile_with (first_of (codes "OUT") rows) (files_of rows) (number_of (codes "heap") default_heap most_heap rows)
    (number_of (codes "stack") default_stack most_stack rows) (first_of (codes "profile") rows) (is_given (codes "plain") rows)

abbrev pub profile_with : (out : Option Text) (files : Option (List Text)) (turns : Option ℕ) → Option Command
profile_with (Some out) (Some files) (Some turns) = Some (Profile (record { out = out; turns = turns; files = files }))
profile_with _ _ _ = None

abbrev pub turns_of : List Row → Option ℕ
turns_of rows = number_of (codes "turns") default_turns most_turns rows

abbrev pub profile_of : List Row → Option Command
profile_of rows = profile_with (first_of (codes "OUT") rows) (files_of rows) (turns_of rows)

abbrev pub interp_with : (files : Option (List Text)) (turns : Option ℕ) → Option Command
interp_with (Some files) (Some turns) = Some (Interp (record { turns = turns; files = files }))
interp_with _ _ = None

abbrev pub interp_of : List Row → Option Command
interp_of rows = interp_with (files_of rows) (turns_of rows)

abbrev pub run_with : (elf : Option Text) (steps : Option ℕ) → Option Command
run_with (Some elf) (Some steps) = Some (Run steps elf)
run_with _ _ = None

abbrev pub run_of : List Row → Option Command
run_of rows = run_with (first_of (codes "ELF") rows) (number_of (codes "steps") default_steps most_steps rows)

-- the command that was found under this name
abbrev pub command_found : Text × List Row → Option Command
command_found found =
    if bytes_eq found.0 (codes "compile") then compile_of found.1
    else (if bytes_eq found.0 (codes "profile") then profile_of found.1
    else (if bytes_eq found.0 (codes "interp") then interp_of found.1 else run_of found.1))

-- the command that the words ask for, if they ask for one
abbrev pub command_of : List (List ℕ) → Option Command
command_of words = option_and_then command_found (matches_in words)

-- ---- requests

abbrev pub compilation_of : CompileRequest → Compilation
compilation_of request = record {
  out = request.out.now;
  profile = option_map (λ name. name.now) request.profile;
  is_plain = request.plain;
  heap = request.heap;
  stack = request.stack;
  files = map (λ file. file.now) request.files.now;
}

abbrev pub profiling_of : ProfileRequest → Profiling
profiling_of request = record { out = request.out.now; turns = request.turns; files = map (λ file. file.now) request.files.now }

abbrev pub interpretation_of : InterpRequest → Interpretation
interpretation_of request = record { turns = request.turns; files = map (λ file. file.now) request.files.now }

-- the command of a request
abbrev pub requested : Request → Command
requested (Q.Compile request) = Compile (compilation_of request)
requested (Q.Profile request) = Profile (profiling_of request)
requested (Q.Interp request) = Interp (interpretation_of request)
requested (Q.Run request) = Run request.steps request.elf.now

-- what a request asks for is in range
abbrev pub IsPossible : Request → Type 0
IsPossible (Q.Compile request) = IsInRange (compilation_of request)
IsPossible (Q.Profile request) = AreTurns request.turns
IsPossible (Q.Interp request) = AreTurns request.turns
IsPossible (Q.Run request) = ⊤
