-- The type of an object of a block, found in one step after those of its declarator.
use Rattle.std.proofs.Common.{◌≡◌, ◌∙◌, Option, refl}
use Rattle.std.specs.Prelude.{Ok, Err, Some, None}
use Rattle.c_types.specs.Types.{CType}
use Rattle.c_ast.specs.declared.words.Spelling.{Spelling}
use Rattle.c_ast.specs.Places.{first_declarator}
use Rattle.c_ast.specs.Trees
use Rattle.c_typed.specs.declared.program.MentionKind.TheVariants.{Object}
use Rattle.c_erasure.specs.Declarators.{Shape}
use Rattle.c_erasure.specs.Scopes.{Bound, FileScope, Scope, here}
use Rattle.c_erasure.specs.Checking.Answers.{Answer, ◌>>=◌, Checked, with_file}
use Rattle.c_erasure.specs.Checking.Declaring.{Derivation, derived, mentions_in, new_here, with_mention}
use Rattle.c_erasure.specs.Checking.Finding.{complete, derivations}
use Rattle.c_erasure.specs.Checking.Statements.{sized_in, variable_of, variable_type}
use Rattle.c_check_parts.specs.BlockLocals.Parts.{variable_made}

-- where the name is new, what follows is answered
named : {A : Type 0} (x : Spelling) (old : Option Bound) (r : Answer A) → new_here x old r ≡ (new_here x old (Ok (tt {0})) >>= λ done. r)
named x None r = refl
named x (Some b) r = refl

module _ (f : FileScope) (next : CType × FileScope → Checked CType) where
  one_step : (r : Answer CType) (g : FileScope → CType → Answer CType)
      → (with_file f r >>= λ t. with_file t.1 (g t.1 t.0) >>= next) ≡ (with_file f (r >>= g f) >>= next)
  one_step (Ok t) g = refl
  one_step (Err fault) g = refl

  two_steps : (r : Answer Shape) (size : FileScope → Shape → Answer CType) (g : FileScope → CType → Answer CType)
      → (with_file f r >>= λ shape. with_file shape.1 (size shape.1 shape.0) >>= λ t. with_file t.1 (g t.1 t.0) >>= next)
      ≡ (with_file f (r >>= λ shape. size f shape >>= g f) >>= next)
  two_steps (Ok shape) size g = one_step (size f shape) g
  two_steps (Err fault) size g = refl

module _ (s : Scope) (base : CType) (d : Trees.InitDeclarator) (x : Spelling) where
  -- the type with the file that speaks of it, where the name is new
  abbrev mentioned : CType × FileScope → Checked CType
  mentioned u = new_here x (here s x.text) (Ok (tt {0}))
      >>= λ done. Ok (u.0, with_mention s (mentions_in s.file) Object u.0 (first_declarator d.declarator x.from) u.1)

  follows : (f : FileScope) (r : Answer CType)
      → (with_file f r >>= λ u. new_here x (here s x.text) (Ok (u.0, with_mention s (mentions_in s.file) Object u.0 (first_declarator d.declarator x.from) u.1)))
      ≡ (with_file f r >>= mentioned)
  follows f (Ok u) = named x (here s x.text) _
  follows f (Err fault) = refl

  found : (r : Checked (Rattle.std.specs.Prelude.List Derivation))
      → (r >>= λ steps. with_file steps.1 (derived steps.1.records steps.0 base)
      >>= λ shape. with_file shape.1 (sized_in shape.1.records x.from shape.0 d.value)
      >>= λ t. with_file t.1 (variable_type t.1.records (complete s x.from) x.from t.0)
      >>= λ u. new_here x (here s x.text) (Ok (u.0, with_mention s (mentions_in s.file) Object u.0 (first_declarator d.declarator x.from) u.1)))
      ≡ (r >>= λ steps. with_file steps.1 (variable_made steps.1.records steps.0 base d.value (complete s x.from) x.from) >>= mentioned)
  found (Err fault) = refl
  found (Ok steps) =
      two_steps steps.1 (λ u. new_here x (here s x.text) (Ok (u.0, with_mention s (mentions_in s.file) Object u.0 (first_declarator d.declarator x.from) u.1)))
      (derived steps.1.records steps.0 base) (λ f shape. sized_in f.records x.from shape d.value) (λ f t. variable_type f.records (complete s x.from) x.from t)
      ∙ follows steps.1 (variable_made steps.1.records steps.0 base d.value (complete s x.from) x.from)

pub variable_found : (s : Scope) (base : CType) (d : Trees.InitDeclarator) (x : Spelling)
    → variable_of s base d x ≡ (derivations d.declarator s
    >>= λ steps. with_file steps.1 (variable_made steps.1.records steps.0 base d.value (complete s x.from) x.from)
    >>= λ u. new_here x (here s x.text) (Ok (tt {0}))
    >>= λ done. Ok (u.0, with_mention s (mentions_in s.file) Object u.0 (first_declarator d.declarator x.from) u.1))
variable_found s base d x = found s base d x (derivations d.declarator s)
