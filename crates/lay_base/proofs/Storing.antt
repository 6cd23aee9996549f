-- What a host in memory holds after bytes were put under a name.
use Rattle.std.proofs.Common.{◌≡◌, ℕ, ◌<◌, ◌≤◌, Bool, true, false, cond, List, [], ◌∷◌, ◌++◌, length, get_or, Option, Some, None, option_map}
use Rattle.std.proofs.Common.{position, refl, ◌∙◌, ap, arith}
use Rattle.std.proofs.Math.ListN.{set}
use Rattle.std.proofs.lemmas.Bool.Decides.{nat_tests}
use Rattle.std.proofs.lemmas.List.Folds.{find-set, find_past, find-append, find_at}
use Rattle.std.proofs.lemmas.Option.{slice_get_past}
use Rattle.std.proofs.lemmas.List.Sums.{passes_at_first}
use Rattle.std.proofs.lemmas.Slice.Eq.{bytes_eq-Decides}
use Rattle.std.specs.List.{find, position_or_len}
use Rattle.std.specs.Option.{option_or}
use Rattle.std.specs.Str.{bytes_eq}
use Rattle.lay_base.specs.MemoryObjects.{contents_of}
use Rattle.lay_base.specs.declared.place.File.{File}

abbrev named : List ℕ → File → Bool
named name file = bytes_eq file.name name

-- the place that `position` gives is the first one
position_at : {X : Type 0} (p : X → Bool) (xs : List X) (i : ℕ) → position p xs ≡ Some i → (i ≡ position_or_len p xs) × (position_or_len p xs < length xs)
position_at p xs i e = grind (arith, nat_tests)

-- the file at the place that `position` gives has the name
name_at : (files : List File) (at : ℕ) (name : List ℕ) (d : File) → position (named name) files ≡ Some at → (get_or files at d).name ≡ name
name_at files at name d e =
    let first = position_at (named name) files at e in
    let passes : named name (get_or files at d) ≡ true = rw first.0 (passes_at_first (named name) files d first.1) in
    (bytes_eq-Decides _ _).0 passes

-- a file over the first one of its name
over_first : (b : Bool) (files : List File) (at : ℕ) (file : File) (other : List ℕ) → position (named file.name) files ≡ Some at
    → named other file ≡ b → contents_of (set files at file) other ≡ cond b (Some file.bytes) (contents_of files other)
over_first true files at file other e is =
    let n : file.name ≡ other = (bytes_eq-Decides _ _).0 is in
    let first = position_at (named file.name) files at e in
    ap (option_map (λ f. f.bytes)) (find-set (named other) files at file (rw (← n) first.0) (rw first.0 first.1) is)
over_first false files at file other e is =
    let was : named other (get_or files at file) ≡ false = rw (name_at files at file.name file e) is in
    ap (option_map (λ f. f.bytes)) (find_past (named other) files at file file was is)

-- bytes over those of the first file of a name
pub contents_of-set : (files : List File) (at : ℕ) (old : File) (name bytes other : List ℕ) → position (named name) files ≡ Some at
    → old ≡ get_or files at old
    → contents_of (set files at (record { name = old.name; bytes = bytes })) other ≡ cond (bytes_eq name other) (Some bytes) (contents_of files other)
contents_of-set files at old name bytes other e here =
    let n : old.name ≡ name = ap (λ f. f.name) here ∙ name_at files at name old e in
    rw n (over_first (bytes_eq name other) files at (record { name = name; bytes = bytes }) other e refl)

or_none : {X : Type 0} (o : Option X) → option_or o None ≡ o
or_none None = refl
or_none (Some x) = refl

-- a file after others with other names
after : (b : Bool) (files : List File) (file : File) (other : List ℕ) → find (named file.name) files ≡ None → named other file ≡ b
    → contents_of (files ++ file ∷ []) other ≡ cond b (Some file.bytes) (contents_of files other)
after true files file other none is =
    let n : file.name ≡ other = (bytes_eq-Decides _ _).0 is in
    let was : find (named other) files ≡ None = rw (← n) none in
    let found : option_or (find (named other) files) (find (named other) (file ∷ [])) ≡ Some file = rw (was, is) refl in
    ap (option_map (λ f. f.bytes)) (find-append (named other) files (file ∷ []) ∙ found)
after false files file other none is =
    let same : option_or (find (named other) files) (find (named other) (file ∷ [])) ≡ find (named other) files = rw is (or_none (find (named other) files)) in
    ap (option_map (λ f. f.bytes)) (find-append (named other) files (file ∷ []) ∙ same)

-- where `position` gives no place, there is no file of the name
no_file : (files : List File) (name : List ℕ) → position (named name) files ≡ None → find (named name) files ≡ None
no_file files name e =
    let past : length files ≤ position_or_len (named name) files = grind (arith, nat_tests) in
    find_at (named name) files ∙ slice_get_past files _ past

-- a new file after the others
pub contents_of-push : (files : List File) (name bytes other : List ℕ) → position (named name) files ≡ None
    → contents_of (files ++ record { name = name; bytes = bytes } ∷ []) other ≡ cond (bytes_eq name other) (Some bytes) (contents_of files other)
contents_of-push files name bytes other e =
    after (bytes_eq name other) files (record { name = name; bytes = bytes }) other (no_file files name e) refl
