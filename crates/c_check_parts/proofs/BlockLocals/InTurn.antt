-- Statements in turn: those of one declarator, and of those after it.
use Rattle.std.proofs.Common.{◌≡◌, ◌∙◌, ◌<◌, ◌≤◌, ℕ, ◌+◌, List, [], ◌∷◌, ◌++◌, length, drop, get_or, Bool, refl, ap}
use Rattle.std.specs.Prelude.{Ok, Err, map}
use Rattle.std.proofs.lemmas.List.{at_drop_all, map-append}
use Rattle.c_types.specs.Types.{CType}
use Rattle.c_ast.specs.declared.declaration.InitDeclarator.{InitDeclarator}
use Rattle.c_ast.specs.Trees
use Rattle.c_ast.specs.Views.{declarator_of, init_declarator_of}
use Rattle.c_typed.specs.Trees as Typed
use Rattle.c_erasure.specs.Declarators.{declared_name}
use Rattle.c_erasure.specs.Scopes.{Scope}
use Rattle.c_erasure.specs.Statements.{Statements, followed_by}
use Rattle.c_annotated.specs.Trees.{Statement}
use Rattle.c_annotated.specs.Views.{AStatement, statement_of, statements_of}
use Rattle.c_erasure.specs.Checking.Answers.{◌>>=◌}
use Rattle.c_erasure.specs.Checking.Statements.{Performed, declare_all, declare_named}
use Rattle.c_check_parts.specs.BlockLocals.Parts.{alone}
use Rattle.c_check_parts.specs.BlockLocals.Performing.{body_of, statements_after}
use Rattle.c_check_parts.proofs.InitializerParts.Lists.{next_mapped}

pub nothing_after : (all : Statements) → followed_by all Typed.no_statements ≡ all
nothing_after Typed.no_statements = refl
nothing_after (Typed.and_statement st more) = ap (Typed.and_statement st) (nothing_after more)

pub followed_in_turn : (one two three : Statements) → followed_by one (followed_by two three) ≡ followed_by (followed_by one two) three
followed_in_turn Typed.no_statements two three = refl
followed_in_turn (Typed.and_statement st more) two three = ap (Typed.and_statement st) (followed_in_turn more two three)

joined_statements : (one two : List AStatement) → statements_of (one ++ two) ≡ followed_by (statements_of one) (statements_of two)
joined_statements [] two = refl
joined_statements (st ∷ one) two = ap (Typed.and_statement st) (joined_statements one two)

pub longer_body : (all : List Statement) (st : Statement) → body_of (all ++ st ∷ []) ≡ followed_by (body_of all) (alone st)
longer_body all st =
    ap statements_of (map-append statement_of all (st ∷ [])) ∙ joined_statements (map statement_of all) (statement_of st ∷ [])

pub after_nothing : (r : Performed Statements) → statements_after Typed.no_statements r ≡ r
after_nothing (Ok x) = refl
after_nothing (Err fault) = refl

later : (before own : Statements) (r : Performed Statements)
    → statements_after before (r >>= λ rest. Ok (followed_by own rest.0, rest.1)) ≡ statements_after (followed_by before own) r
later before own (Err fault) = refl
later before own (Ok rest) = ap (λ all. Ok (all, rest.1)) (followed_in_turn before own rest.0)

pub in_turn : (before : Statements) (r : Performed Statements) (next : Scope → Performed Statements)
    → statements_after before (r >>= λ own. next own.1 >>= λ rest. Ok (followed_by own.0 rest.0, rest.1))
    ≡ (statements_after before r >>= λ own. statements_after own.0 (next own.1))
in_turn before (Err fault) next = refl
in_turn before (Ok own) next = later before own.0 (next own.1)

pub declarators_turn : (before : Statements) (d : Trees.InitDeclarator) (more : List Trees.InitDeclarator) (s : Scope) (static : Bool) (base : CType)
    → statements_after before (declare_all (d ∷ more) s static base)
    ≡ (statements_after before (declare_named static s base d (declared_name d.declarator))
    >>= λ own. statements_after own.0 (declare_all more own.1 static base))
unfolding declare_all
declarators_turn before d more s static base =
    in_turn before (declare_named static s base d (declared_name d.declarator)) (λ after. declare_all more after static base)

pub declarators_end : (before : Statements) (s : Scope) (static : Bool) (base : CType) → statements_after before (declare_all [] s static base) ≡ Ok (before, s)
unfolding declare_all
declarators_end before s static base = ap (λ all. Ok (all, s)) (nothing_after before)

-- ---- the next declarator of a list, and its end

module _ (before : Statements) (all : List InitDeclarator) (i : ℕ) where
  pub declarators_next : (d : InitDeclarator) (s : Scope) (static : Bool) (base : CType) → i < length all → d ≡ get_or all i d
      → statements_after before (declare_all (map init_declarator_of (drop i all)) s static base)
      ≡ (statements_after before (declare_named static s base (init_declarator_of d) (declared_name (declarator_of d.declarator)))
      >>= λ own. statements_after own.0 (declare_all (map init_declarator_of (drop (i + 1) all)) own.1 static base))
  declarators_next d s static base h e =
      ap (λ rest. statements_after before (declare_all rest s static base)) (next_mapped init_declarator_of all i d h e)
      ∙ declarators_turn before (init_declarator_of d) (map init_declarator_of (drop (i + 1) all)) s static base

  pub no_declarators : (s : Scope) (static : Bool) (base : CType) → length all ≤ i
      → statements_after before (declare_all (map init_declarator_of (drop i all)) s static base) ≡ Ok (before, s)
  no_declarators s static base h =
      ap (λ rest. statements_after before (declare_all rest s static base)) (at_drop_all (map init_declarator_of) all i h) ∙ declarators_end before s static base
