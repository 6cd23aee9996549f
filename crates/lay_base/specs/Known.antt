-- Counts of faults of an object of the outside, and its contents where they are known.
use Rattle.std.specs.Prelude.{◌≡◌, ◌≢◌, ℕ, ◌+◌, ◌-◌, ◌^◌, ◌≤◌, min, List, ◌++◌, Option, Some, None, option_map, Result, Ok, Err, ⊤}

-- one more than a count, which stops at its last value
abbrev pub raised : ℕ → ℕ
raised count = min (count + 1) (2 ^ 64 - 1)

-- a count rose, or stands at its last value
abbrev pub Rose : ℕ → ℕ → Type 0
Rose before now = raised before ≤ now

-- a host's counts, one for each name: a call that succeeds leaves them, and none ever falls
abbrev pub Raises : {A E : Type 0} → (List ℕ → ℕ) → (List ℕ → ℕ) → Result A E → Type 0
Raises before now (Ok value) = (name : List ℕ) → now name ≡ before name
Raises before now (Err fault) = (name : List ℕ) → before name ≤ now name

-- the bytes under each name that has a file
abbrev pub Contents : Type 0
Contents = List ℕ → Option (List ℕ)

-- a fact of the file under a name, where the files are known
abbrev pub IfKnown : Option Contents → List ℕ → (Option (List ℕ) → Type 0) → Type 0
IfKnown None name P = ⊤
IfKnown (Some files) name P = P (files name)

-- known bytes stay as they are, and unknown bytes unknown
abbrev pub Keeps : Option (List ℕ) → Option (List ℕ) → Type 0
Keeps old new = new ≡ old

-- known bytes gain the piece at their end, and unknown bytes stay unknown
abbrev pub Appends : Option (List ℕ) → Option (List ℕ) → List ℕ → Type 0
Appends old new piece = new ≡ option_map (λ bytes. bytes ++ piece) old

-- known bytes lose the piece at their front, and unknown bytes stay unknown
abbrev pub Consumes : Option (List ℕ) → Option (List ℕ) → List ℕ → Type 0
Consumes old new piece = old ≡ option_map (λ bytes. piece ++ bytes) new

-- known files stay as they are, and unknown files unknown
abbrev pub FilesKeep : Option Contents → Option Contents → Type 0
FilesKeep None new = new ≡ None
FilesKeep (Some old) None = ⊥
FilesKeep (Some old) (Some new) = (name : List ℕ) → new name ≡ old name

-- known files but the one under that name stay as they are, and unknown files unknown
abbrev pub FilesKeepBut : List ℕ → Option Contents → Option Contents → Type 0
FilesKeepBut but None new = new ≡ None
FilesKeepBut but (Some old) None = ⊥
FilesKeepBut but (Some old) (Some new) = (name : List ℕ) → name ≢ but → new name ≡ old name
