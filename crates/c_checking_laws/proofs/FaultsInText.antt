-- Each fault at which finding stops in a well formed part of a text is one: the theorem of `c_erasure`, with what it asks of the tree shown.
use Rattle.std.proofs.Common.{◌≡◌, ℕ, ◌+◌, List, arith, length}
use Rattle.std.specs.Prelude.{Err, false}
use Rattle.c_ast.specs.Trees
use Rattle.c_ast.specs.Laws.{TreesBeginFirst}
use Rattle.c_ast.specs.Spelling.{Lexeme, spelled, spelled_type_name, spelled_specifier, spelled_declarator}
use Rattle.c_ast.specs.WellFormed.{IsExpression, IsTypeName, IsSpecifier, IsDeclarator}
use Rattle.c_erasure.specs.Broken.{Fault, IsBroken, IsBrokenTypeName, IsBrokenSpecifier, IsBrokenWithin}
use Rattle.c_erasure.specs.Marks.{Mark, marks, marks_of_type, marks_of_specifier, marks_of_declarator}
use Rattle.c_erasure.specs.Scopes.{FileScope, Scope}
use Rattle.c_erasure.specs.Specifiers.{is_word}
use Rattle.c_erasure.specs.MarkPlaces.Places.{AreOrdered}
use Rattle.c_erasure.specs.Checking.Finding.{find, type_name, specified, derivations}
use Rattle.c_checking_laws.proofs.Agreement.{added}
use Rattle.c_checking_laws.proofs.InRange.{IsInRange, IsTypeInRange, IsSpecifierInRange, IsDeclaratorInRange}
use Rattle.c_checking_laws.proofs.FaultAdditions.{of, of_type, of_specifier, of_declarator}
use Rattle.c_checking_laws.proofs.FaultResults.{Allows, Broken}
use Rattle.c_checking_laws.proofs.FaultPremises.{Prepared}
use Rattle.c_checking_laws.proofs.Faults.{faults, faults_type, faults_specifier, faults_steps}
use Rattle.c_checking_laws.proofs.Ahead.{Ahead, Standing}
use Rattle.c_checking_laws.proofs.Timely.{timely, timely_type, timely_specifier, timely_declarator}

module _ (untagged : ℕ → List ℕ) (types : List (List ℕ)) (law : TreesBeginFirst) (May : FileScope → Type 0) (s : Scope) where
  -- the file is prepared for the part, and the next definitions end behind it
  pub record IsAt (all : List Mark) (rest : List Lexeme) : Type 0 where
    pub prepared : Prepared untagged s.file.ends s all
    pub ahead : Ahead s.file.ends (length s.file.records + added s.is_inside all) rest

  stands : {all : List Mark} {rest : List Lexeme} → IsAt all rest → Standing s.file.ends s.is_inside (length s.file.records) all
  stands h i j right e = h.prepared.ready.ends_stand i j right e

  pub faults_in_text : (a : Trees.Expression) → IsExpression types a → IsInRange a → (from : ℕ) (rest : List Lexeme) → AreOrdered from (spelled a rest)
      → IsAt (marks untagged a) rest → Allows May s (of untagged a) → (f : Fault) → find a s ≡ Err f → Broken May s (λ s. IsBroken a s f)
  faults_in_text a w i from rest o h m f e =
      faults untagged s.file.ends May a s (length s.file.records) i h.prepared (omega arith)
      (timely untagged types s.file.ends law s.is_inside (length s.file.records) a w from rest o (stands h) h.ahead) m f e

  pub faults_in_type : (m : Trees.TypeName) → IsTypeName types m → IsTypeInRange m → (from : ℕ) (rest : List Lexeme)
      → AreOrdered from (spelled_type_name m rest) → IsAt (marks_of_type untagged m) rest → Allows May s (of_type untagged m) → (f : Fault) → type_name m s ≡ Err f
      → Broken May s (λ s. IsBrokenTypeName m s f)
  faults_in_type m w i from rest o h may f e =
      faults_type untagged s.file.ends May m s (length s.file.records) i h.prepared (omega arith)
      (timely_type untagged types s.file.ends law s.is_inside (length s.file.records) m w from rest o (stands h) h.ahead) may f e

  pub faults_in_specifier : (x : Trees.Specifier) → IsSpecifier types x → is_word x ≡ false → IsSpecifierInRange x → (from : ℕ) (rest : List Lexeme)
      → AreOrdered from (spelled_specifier x rest) → IsAt (marks_of_specifier untagged x) rest → Allows May s (of_specifier untagged x) → (f : Fault) → specified x s ≡ Err f
      → Broken May s (λ s. IsBrokenSpecifier x s f)
  faults_in_specifier x w n i from rest o h may f e =
      faults_specifier untagged s.file.ends May x s (length s.file.records) i h.prepared (omega arith)
      (timely_specifier untagged types s.file.ends law s.is_inside (length s.file.records) x w from rest o (stands h) h.ahead) may n f e

  pub faults_in_declarator : (d : Trees.Declarator) → IsDeclarator types d → IsDeclaratorInRange d → (from : ℕ) (rest : List Lexeme)
      → AreOrdered from (spelled_declarator d rest) → IsAt (marks_of_declarator untagged d) rest → Allows May s (of_declarator untagged d) → (f : Fault) → derivations d s ≡ Err f
      → Broken May s (λ s. IsBrokenWithin d s f)
  faults_in_declarator d w i from rest o h may f e =
      faults_steps untagged s.file.ends May d s (length s.file.records) i h.prepared (omega arith)
      (timely_declarator untagged types s.file.ends law s.is_inside (length s.file.records) d w from rest o (stands h) h.ahead) may f e
