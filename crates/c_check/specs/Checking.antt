-- What checking the types of a file answers: the unit that erases to its tree, or, where there is none, a fault at which the checker stops, with the
-- rule that is broken there. Want of memory is a free answer.
use Rattle.std.specs.Prelude.{◌≡◌, ℕ, List, ◌∷◌, Result, Ok, Err}
use Rattle.lay_base.specs.declared.place.File.{File}
use Rattle.c_ast.specs.Spelling.{spell}
use Rattle.c_ast.specs.Trees
use Rattle.c_typed.specs.declared.program.Unit.{Unit as DeclaredUnit}
use Rattle.c_typed.specs.Programs.{UnitData, unit_data}
use Rattle.c_erasure.specs.Broken.{Fault, ill_typed, undeclared, redeclared, too_big}
use Rattle.c_erasure.specs.BrokenFiles.{IsFaultOf}
use Rattle.c_erasure.specs.Erasing.{ErasesTo}
use Rattle.c_erasure.specs.Scopes.{FileScope}
use Rattle.c_erasure.specs.Untagged.{AreTags, structs_in}
use Rattle.c_erasure.specs.Checking.Answers.{Answer}
use Rattle.c_erasure.specs.Checking.Files.{annotated}
use Rattle.c_nodes.specs.declared.fault.Fault as Found
use Rattle.c_nodes.specs.declared.fault.Fault.TheVariants as F
use Rattle.c_check.specs.declared.fault.CheckFault.{CheckFault}
use Rattle.c_check.specs.declared.fault.CheckFault.TheVariants as C

-- the tags that structures without one have in a file: they begin with `@`, as no tag does that is written
pub record AreTagsIn (file : File) (items : List Trees.Item) (untagged : ℕ → List ℕ) : Type 0 where
  pub are : AreTags file.name file.bytes (structs_in (spell items)) untagged
  pub begin : (at : ℕ) → (rest : List ℕ) × (untagged at ≡ 64 ∷ rest)

-- the checker, as it is defined, answers that of the items of the file with that number
pub record Finds (number : ℕ) (file : File) (items : List Trees.Item) (answer : Answer FileScope) : Type 0 where
  pub untagged : ℕ → List ℕ
  pub tags : AreTagsIn file items untagged
  pub is_found : annotated number untagged items ≡ answer

-- a fault whose places are bytes of the file with that number; of want of memory nothing is said
abbrev pub OnFault : (number : ℕ) → CheckFault → (Fault → Type 0) → Type 0
OnFault number (C.TooBig place) Is = (place.file ≡ number) × Is (too_big place.at)
OnFault number (C.IllTyped rule place) Is = (place.file ≡ number) × Is (ill_typed rule place.at)
OnFault number (C.Undeclared x place) Is = (place.file ≡ number) × Is (undeclared x place.at)
OnFault number (C.Redeclared x place first) Is = (place.file ≡ number) × (first.file ≡ number) × Is (redeclared x place.at first.at)
OnFault number (C.Memory want) Is = Unit {0}

abbrev pub HasNoUnit : (number : ℕ) → File → List Trees.Item → Type 0
HasNoUnit number file items = (u : UnitData) → ErasesTo number file.name file.bytes items u → ⊥

abbrev pub CheckGives : (number : ℕ) → File → List Trees.Item → Result DeclaredUnit CheckFault → Type 0
CheckGives number file items (Ok u) = ErasesTo number file.name file.bytes items (unit_data u)
CheckGives number file items (Err fault) = OnFault number fault (λ f. Finds number file items (Err f) × HasNoUnit number file items × IsFaultOf items f)

-- ---- as the code says it

abbrev pub fault_in : ℕ → Found.Fault → CheckFault
fault_in number (F.TooBig at) = C.TooBig (record { file = number; at = at })
fault_in number (F.IllTyped rule at) = C.IllTyped rule (record { file = number; at = at })
fault_in number (F.Undeclared x at) = C.Undeclared x (record { file = number; at = at })
fault_in number (F.Redeclared x at first) = C.Redeclared x (record { file = number; at = at }) (record { file = number; at = first })
fault_in number (F.Memory want) = C.Memory want
