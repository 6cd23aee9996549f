-- The items of a `switch` in turn: one, and those after it.
use Rattle.std.proofs.Common.{◌≡◌, ◌∙◌, ◌<◌, ◌≤◌, ℕ, ◌+◌, length, drop, get_or, map, zero, suc, List, [], ◌∷◌, ◌++◌, Bool, true, false, refl, sym, ap}
use Rattle.std.specs.Prelude.{Ok, Err, ◌==◌}
use Rattle.std.proofs.lemmas.List.{at_drop_all}
use Rattle.c_types.specs.declared.ty.IntKind.{IntKind}
use Rattle.c_types.specs.Types.{CType}
use Rattle.c_ast.specs.declared.statement.SwitchItem.{SwitchItem}
use Rattle.c_ast.specs.Trees
use Rattle.c_ast.specs.Views.{switch_item_of, switch_items_of}
use Rattle.c_typed.specs.Trees as Typed
use Rattle.c_erasure.specs.BrokenStatements.{Labels}
use Rattle.c_erasure.specs.Scopes.{Scope}
use Rattle.c_erasure.specs.Statements.{Arms, Statements, followed_by, with_first}
use Rattle.c_annotated.specs.Trees.{Statement}
use Rattle.c_annotated.specs.Views.{OneArm, arms_of}
use Rattle.c_erasure.specs.Checking.Answers.{◌>>=◌}
use Rattle.c_erasure.specs.Checking.Statements.{Found, Performed, arranged, local_declaration, switch_item, switch_items}
use Rattle.c_check_parts.specs.BlockLocals.Performing.{body_of, statements_after}
use Rattle.c_check_parts.proofs.BlockLocals.InTurn.{followed_in_turn, nothing_after}
use Rattle.c_check_parts.proofs.InitializerParts.Lists.{next_mapped}
use Rattle.c_check_statements.specs.StatementParts.Arms.{arms_after, arms_with, closed_arm, item_added, joined, unless_empty, went_on, with_closed}
use Rattle.c_check_statements.specs.StatementParts.Parts.{with_first_arm}

joined_in_turn : (one two : List OneArm) (later : Arms) → joined (one ++ two) later ≡ joined one (joined two later)
joined_in_turn [] two later = refl
joined_in_turn (arm ∷ one) two later = ap (Typed.and_arm arm.0 arm.1 arm.2) (joined_in_turn one two later)

pub joined_arms : (all : List OneArm) → joined all Typed.no_arms ≡ arms_of all
joined_arms [] = refl
joined_arms (arm ∷ all) = ap (Typed.and_arm arm.0 arm.1 arm.2) (joined_arms all)

-- statements after others of the last arm
longer_arm : (last : Bool × OneArm) (own rest : Statements) (later : Arms)
    → closed_arm last (followed_by own rest) later ≡ closed_arm (last.0, (last.1.0, last.1.1, followed_by last.1.2 own)) rest later
longer_arm (true, arm) own rest later = ap (λ all. Typed.and_arm arm.0 arm.1 all later) (followed_in_turn arm.2 own rest)
longer_arm (false, arm) own rest later = ap (λ all. with_first all later) (followed_in_turn arm.2 own rest)

first_arm : (all : Statements) (later : Arms) → joined (unless_empty ([], false, all) all) later ≡ with_first all later
first_arm Typed.no_statements later = refl
first_arm (Typed.and_statement st more) later = refl

-- the last arm ends where another one begins
closes : (done : List OneArm) (last : Bool × OneArm) (later : Arms) → joined done (closed_arm last Typed.no_statements later) ≡ joined (with_closed done last) later
closes done (true, arm) later =
    ap (λ all. joined done (Typed.and_arm arm.0 arm.1 all later)) (nothing_after arm.2) ∙ sym (joined_in_turn done (arm ∷ []) later)
closes done (false, arm) later =
    ap (λ all. joined done (with_first all later)) (nothing_after arm.2)
    ∙ ap (joined done) (sym (first_arm arm.2 later))
    ∙ sym (joined_in_turn done (unless_empty ([], false, arm.2) arm.2) later)

-- what an item adds
adds : (done : List OneArm) (last : Bool × OneArm) (cases : List ℕ) (defaults : ℕ) (own rest : Statements) (later : Arms)
    → joined done (closed_arm last (arranged cases defaults (followed_by own rest) later).0 (arranged cases defaults (followed_by own rest) later).1)
    ≡ joined (arms_with done last own cases defaults).0 (closed_arm (arms_with done last own cases defaults).1 rest later)
adds done last [] zero own rest later = ap (joined done) (longer_arm last own rest later)
adds done last [] (suc n) own rest later = closes done last (Typed.and_arm [] (suc n == 1) (followed_by own rest) later)
adds done last (v ∷ cases) defaults own rest later = closes done last (Typed.and_arm (v ∷ cases) (defaults == 1) (followed_by own rest) later)

module _ (done : List OneArm) (last : Bool × OneArm) where
  more_items : (own : Statements × Found) (r : Performed (Statements × Arms))
      → arms_after done last (r >>= λ rest. Ok (arranged own.1.cases own.1.defaults (followed_by own.0 rest.0.0) rest.0.1, rest.1))
      ≡ arms_after (arms_with done last own.0 own.1.cases own.1.defaults).0 (arms_with done last own.0 own.1.cases own.1.defaults).1 r
  more_items own (Err fault) = refl
  more_items own (Ok rest) = ap (λ arms. Ok (arms, rest.1)) (adds done last own.1.cases own.1.defaults own.0 rest.0.0 rest.0.1)

  in_turn : (r : Performed (Statements × Found)) (next : Labels → Scope → Performed (Statements × Arms))
      → arms_after done last (r >>= λ own. next own.0.1.all own.1
      >>= λ rest. Ok (arranged own.0.1.cases own.0.1.defaults (followed_by own.0.0 rest.0.0) rest.0.1, rest.1))
      ≡ (item_added done last r >>= λ x. arms_after x.0.0.0 x.0.0.1 (next x.0.1 x.1))
  in_turn (Err fault) next = refl
  in_turn (Ok own) next = more_items own.0 (next own.0.1.all own.1)

pub arms_turn : (result : CType) (done : List OneArm) (last : Bool × OneArm) (item : Trees.SwitchItem) (more : Trees.SwitchItems) (s : Scope) (loop : Bool)
    (kind : IntKind) (before : Labels) → arms_after done last (switch_items result (Trees.and_switch_item item more) s loop kind before)
    ≡ (item_added done last (switch_item result item s loop kind before) >>= λ x. arms_after x.0.0.0 x.0.0.1 (switch_items result more x.1 loop kind x.0.1))
unfolding switch_items
arms_turn result done last item more s loop kind before =
    in_turn done last (switch_item result item s loop kind before) (λ all after. switch_items result more after loop kind all)

pub arms_end : (result : CType) (done : List OneArm) (last : Bool × OneArm) (s : Scope) (loop : Bool) (kind : IntKind) (before : Labels)
    → arms_after done last (switch_items result Trees.no_switch_items s loop kind before) ≡ Ok (arms_of (with_closed done last), s)
unfolding switch_items
arms_end result done last s loop kind before =
    ap (λ arms. Ok (arms, s)) (closes done last Typed.no_arms ∙ joined_arms (with_closed done last))

pub arms_begin : (r : Performed (Statements × Arms)) → with_first_arm r ≡ arms_after [] (false, ([], false, Typed.no_statements)) r
arms_begin (Ok x) = refl
arms_begin (Err fault) = refl

pub some_statements : (all : List Statement) (arm : OneArm) → (all ≡ [] → ⊥) → unless_empty arm (body_of all) ≡ arm ∷ []
some_statements [] arm h = absurd (h refl)
some_statements (st ∷ all) arm h = refl

pub goes_on : (last : Bool × OneArm) (r : Performed Statements)
    → went_on last r ≡ (statements_after last.1.2 r >>= λ x. Ok ((last.0, (last.1.0, last.1.1, x.0)), x.1))
goes_on last (Ok own) = refl
goes_on last (Err fault) = refl

declared_item : (done : List OneArm) (last : Bool × OneArm) (before : Labels) (r : Performed Statements)
    → item_added done last (r >>= λ own. Ok ((own.0, record { cases = []; defaults = 0; all = before }), own.1))
    ≡ (went_on last r >>= λ x. Ok (((done, x.0), before), x.1))
declared_item done last before (Ok own) = refl
declared_item done last before (Err fault) = refl

pub local_item : (result : CType) (done : List OneArm) (last : Bool × OneArm) (d : Trees.Declaration) (s : Scope) (loop : Bool) (kind : IntKind) (before : Labels)
    → item_added done last (switch_item result (Trees.local_switch_item d) s loop kind before)
    ≡ (went_on last (local_declaration d s) >>= λ x. Ok (((done, x.0), before), x.1))
unfolding switch_item
local_item result done last d s loop kind before = declared_item done last before (local_declaration d s)

-- ---- the next item of a list, and its end

module _ (result : CType) (done : List OneArm) (last : Bool × OneArm) (all : List SwitchItem) (i : ℕ) where
  pub switch_next : (item : SwitchItem) (s : Scope) (loop : Bool) (kind : IntKind) (before : Labels) → i < length all → item ≡ get_or all i item
      → arms_after done last (switch_items result (switch_items_of (map switch_item_of (drop i all))) s loop kind before)
      ≡ (item_added done last (switch_item result (switch_item_of item) s loop kind before)
      >>= λ x. arms_after x.0.0.0 x.0.0.1 (switch_items result (switch_items_of (map switch_item_of (drop (i + 1) all))) x.1 loop kind x.0.1))
  switch_next item s loop kind before h e =
      ap (λ rest. arms_after done last (switch_items result (switch_items_of rest) s loop kind before)) (next_mapped switch_item_of all i item h e)
      ∙ arms_turn result done last (switch_item_of item) (switch_items_of (map switch_item_of (drop (i + 1) all))) s loop kind before

  pub switch_end : (s : Scope) (loop : Bool) (kind : IntKind) (before : Labels) → length all ≤ i
      → arms_after done last (switch_items result (switch_items_of (map switch_item_of (drop i all))) s loop kind before)
      ≡ Ok (arms_of (with_closed done last), s)
  switch_end s loop kind before h =
      ap (λ rest. arms_after done last (switch_items result (switch_items_of rest) s loop kind before)) (at_drop_all (map switch_item_of) all i h)
      ∙ arms_end result done last s loop kind before
