-- A well formed initializer of the file scope, whose tokens come one after the other, asks for records in time, where the definitions inside of it
-- stand among the file's and the next ones lie ahead.
use Rattle.std.proofs.Common.{ℕ, ◌+◌, Bool, true, false, List, ◌∷◌, ◌++◌, arith}
use Rattle.std.specs.Prelude.{Option, Some, None}
use Rattle.c_tokens.specs.declared.punctuator.Punctuator.TheVariants as M
use Rattle.c_ast.specs.Trees
use Rattle.c_ast.specs.Laws.{TreesBeginFirst}
use Rattle.c_ast.specs.Spelling.{Lexeme, punctuator, spelled, spelled_arguments, spelled_comma, spelled_value}
use Rattle.c_ast.specs.WellFormed.{IsInitializer, AreInitializers, IsValue}
use Rattle.c_erasure.specs.Marks.{Mark, marks, marks_of_all, marks_of_initial}
use Rattle.c_erasure.specs.MarkPlaces.Places.{AreOrdered, Along}
use Rattle.c_erasure.proofs.MarkPlaces.Walks.{comma_along}
use Rattle.c_erasure.proofs.MarkPlaces.MarksOfFiles.{initializer_along}
use Rattle.c_checking_laws.proofs.Agreement.{added}
use Rattle.c_checking_laws.proofs.Ahead.{Ahead, Standing, standing_left, standing_right, earlier, back, ahead_same, added_both}
use Rattle.c_checking_laws.proofs.Timely.{timely}
use Rattle.c_checking_laws.proofs.WholeFiles.InTextTime as Text
use Rattle.c_checking_units.proofs.FirstStops.BracesFaults.{IsInitialTimely, AreInitialsTimely}
use Rattle.c_checking_units.proofs.FirstStops.ObjectStops.{IsValueTimely}

module _ (untagged : ℕ → List ℕ) (types : List (List ℕ)) (ends : List ℕ) (law : TreesBeginFirst) where
  pub behind : {u : List Mark} {tokens rest : List Lexeme} (from : ℕ) → Along u tokens rest → AreOrdered from tokens → (to : ℕ) × AreOrdered to rest
  behind from a o = Text.behind_part untagged types ends 0 law from a o

  pub ahead_of : (n : ℕ) (t : Lexeme) (rest : List Lexeme) → Ahead ends n rest → Ahead ends n (t ∷ rest)
  ahead_of n t rest h = Text.ahead_of untagged types ends n law t rest h

  mutual
    initial_timely : (n : ℕ) (a : Trees.Expression) → IsInitializer types a → (from : ℕ) (rest : List Lexeme) → AreOrdered from (spelled a rest)
        → Standing ends false n (marks untagged a) → Ahead ends (n + added false (marks untagged a)) rest → IsInitialTimely untagged ends false n a
    initial_timely n (Trees.braces left all comma right) w from rest o st h =
        let close : Lexeme = punctuator M.CloseBrace right in
        let m : ℕ = n + added false (marks_of_all untagged all) in
        initials_timely n true all w.1 _ (spelled_comma comma (close ∷ rest)) o.2 st
        (earlier ends m (comma_along comma {rest = close ∷ rest}) (ahead_of m close rest h))
    initial_timely n a w from rest o st h = timely untagged types ends law false n a w.1 from rest o st h

    initials_timely : (n : ℕ) (lead : Bool) (all : Trees.Arguments) → AreInitializers types lead all → (from : ℕ) (rest : List Lexeme)
        → AreOrdered from (spelled_arguments all rest) → Standing ends false n (marks_of_all untagged all)
        → Ahead ends (n + added false (marks_of_all untagged all)) rest → AreInitialsTimely untagged ends false n all
    initials_timely n lead Trees.no_arguments w from rest o st h = tt
    initials_timely n lead (Trees.and_argument comma a more) w from rest o st h =
        let u : List Mark = marks untagged a in
        let v : List Mark = marks_of_all untagged more in
        let N : ℕ = n + added false u in
        let tokens : List Lexeme = spelled_arguments more rest in
        let both = added_both false u v in
        let hb : Ahead ends (N + added false v) rest = ahead_same ends (n + added false (u ++ v)) (N + added false v) rest (omega (arith, both)) h in
        let sb = standing_right ends false n u v st in
        let ha : Ahead ends N tokens = back ends false N (Text.list_along untagged types ends 0 law false more w.2 {rest = rest}) sb hb in
        let c = behind from (comma_along comma {rest = spelled a tokens}) o in
        let e = behind c.0 (initializer_along untagged types a w.1 {rest = tokens}) c.1 in (
          initial_timely n a w.1 c.0 tokens c.1 (standing_left ends false n u v st) ha,
          initials_timely N false more w.2 e.0 rest e.1 sb hb,
        )

  module _ (nodes_at : ℕ → ℕ) where
    -- an initializer, or none, and what lies behind it
    pub value_timely : (value : Option (ℕ × Trees.Expression)) → IsValue types value → (n from : ℕ) (rest : List Lexeme)
        → AreOrdered from (spelled_value value rest) → Standing ends false n (marks_of_initial untagged value)
        → Ahead ends (n + added false (marks_of_initial untagged value)) rest
        → IsValueTimely untagged types nodes_at ends n value × ((to : ℕ) × AreOrdered to rest)
    value_timely None w n from rest o st h = (tt, (from, o))
    value_timely (Some value) w n from rest o st h =
        (initial_timely n value.1 w _ rest o.2 st h, behind _ (initializer_along untagged types value.1 w {rest = rest}) o.2)

  -- before the initializer
  pub before_value : (value : Option (ℕ × Trees.Expression)) → IsValue types value → (n : ℕ) (rest : List Lexeme)
      → Standing ends false n (marks_of_initial untagged value) → Ahead ends (n + added false (marks_of_initial untagged value)) rest
      → Ahead ends n (spelled_value value rest)
  before_value None w n rest st h = ahead_same ends (n + 0) n rest (omega arith) h
  before_value (Some value) w n rest st h =
      ahead_of n (punctuator M.Equal value.0) (spelled value.1 rest) (back ends false n (initializer_along untagged types value.1 w {rest = rest}) st h)
