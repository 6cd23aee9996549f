-- In a well formed initializer, whose tokens come one after the other and before the ends of the definitions that are left, the records that it
-- asks for are known.
use Rattle.std.proofs.Common.{ℕ, ◌≤◌, Bool, true, false, subst, List, [], ◌∷◌, arith}
use Rattle.c_tokens.specs.declared.punctuator.Punctuator.TheVariants as M
use Rattle.c_tokens.specs.declared.token.TokenKind.TheVariants as K
use Rattle.c_ast.specs.Trees
use Rattle.c_ast.specs.Places.{begins_at, first}
use Rattle.c_ast.specs.Laws.{TreesBeginFirst}
use Rattle.c_ast.specs.Spelling.{Lexeme, binary_punctuator, unary_punctuator, punctuator, word, spelled, spelled_arguments, spelled_comma}
use Rattle.c_ast.specs.WellFormed.{IsExpression, IsInitializer, AreInitializers}
use Rattle.c_erasure.specs.Marks.{Mark, marks_of_all}
use Rattle.c_erasure.specs.Scopes.{ended}
use Rattle.c_erasure.specs.MarkPlaces.Places.{AreOrdered, Along}
use Rattle.c_erasure.proofs.MarkPlaces.Walks.{none, skip, both, after, comma_along}
use Rattle.c_erasure.proofs.MarkPlaces.Ordered.{ends_between}
use Rattle.c_erasure.proofs.MarkPlaces.MarksOfParts.{along, type_name_along}
use Rattle.c_erasure.proofs.MarkPlaces.MarksOfFiles.{initializer_along}
use Rattle.c_checking_laws.proofs.Ahead.{Ahead, known, earlier}
use Rattle.c_checking_laws.proofs.WholeFiles.InTime.{IsInTime, AreInTime}

from_first : (from : ℕ) (tokens : List Lexeme) → AreOrdered from tokens → AreOrdered (begins_at tokens) tokens
from_first from [] o = tt
from_first from (t ∷ tokens) o = (omega arith, o.1, o.2)

module _ (untagged : ℕ → List ℕ) (types : List (List ℕ)) (ends : List ℕ) (n : ℕ) (law : TreesBeginFirst) where
  pub behind_part : {u : List Mark} {tokens rest : List Lexeme} (from : ℕ) → Along u tokens rest → AreOrdered from tokens → (to : ℕ) × AreOrdered to rest
  behind_part from a o = let b = ends_between from a o in (b.to, b.ordered)

  pub ahead_of : (t : Lexeme) (rest : List Lexeme) → Ahead ends n rest → Ahead ends n (t ∷ rest)
  ahead_of t rest h = earlier ends n (skip {t = t} (none {rest = rest})) h

  known_here : (t : Lexeme) (rest : List Lexeme) → Ahead ends n (t ∷ rest) → (from : ℕ) → AreOrdered from (t ∷ rest) → ended ends t.from ≤ n
  known_here t rest h from o = known ends n t.from (t ∷ rest) h (omega arith, o.1, o.2)

  before_expression : (a : Trees.Expression) → IsExpression types a → (rest : List Lexeme) → Ahead ends n rest → Ahead ends n (spelled a rest)
  before_expression a w rest h = earlier ends n (along untagged types a w {rest = rest}) h

  reached : (a : Trees.Expression) → IsExpression types a → (from : ℕ) (rest : List Lexeme) → AreOrdered from (spelled a rest) → Ahead ends n rest
      → ended ends (first a) ≤ n
  reached a w f rest o h =
      known ends n (first a) (spelled a rest) (before_expression a w rest h)
      (subst (λ at. AreOrdered at (spelled a rest)) (law.of_expression types a w rest) (from_first f (spelled a rest) o))

  in_time : (a : Trees.Expression) → IsExpression types a → (from : ℕ) (rest : List Lexeme) → AreOrdered from (spelled a rest) → Ahead ends n rest
      → IsInTime ends n a
  in_time (Trees.paren left a right) w f rest o h =
      in_time a w _ (punctuator M.Close right ∷ rest) o.2 (ahead_of (punctuator M.Close right) rest h)
  in_time (Trees.index a left b right) w f rest o h =
      let close : Lexeme = punctuator M.CloseSquare right in
      let hb = ahead_of close rest h in
      let tokens : List Lexeme = punctuator M.OpenSquare left ∷ spelled b (close ∷ rest) in
      let ha : Ahead ends n tokens = ahead_of (punctuator M.OpenSquare left) (spelled b (close ∷ rest)) (before_expression b w.2 (close ∷ rest) hb) in
      let c = behind_part f (along untagged types a w.1) o in
      (reached a w.1 f tokens o ha, in_time a w.1 f tokens o ha, in_time b w.2 _ (close ∷ rest) c.1.2 hb)
  in_time (Trees.dot a at x) w f rest o h =
      let ha = ahead_of (punctuator M.Dot at) (word K.Name x ∷ rest) (ahead_of (word K.Name x) rest h) in
      in_time a w.1 f (punctuator M.Dot at ∷ word K.Name x ∷ rest) o ha
  in_time (Trees.arrow a at x) w f rest o h =
      let tokens : List Lexeme = punctuator M.Arrow at ∷ word K.Name x ∷ rest in
      let ha : Ahead ends n tokens = ahead_of (punctuator M.Arrow at) (word K.Name x ∷ rest) (ahead_of (word K.Name x) rest h) in
      (reached a w.1 f tokens o ha, in_time a w.1 f tokens o ha)
  in_time (Trees.unary op at a) w f rest o h =
      let t : Lexeme = punctuator (unary_punctuator op) at in
      (known_here t (spelled a rest) (ahead_of t (spelled a rest) (before_expression a w.1 rest h)) f o, in_time a w.1 _ rest o.2 h)
  in_time (Trees.cast left m right a) w f rest o h =
      let c = behind_part _ (type_name_along untagged types m w.1) o.2 in
      in_time a w.2 _ rest c.1.2 h
  in_time (Trees.binary a op at b) w f rest o h =
      let tokens : List Lexeme = punctuator (binary_punctuator op) at ∷ spelled b rest in
      let ha : Ahead ends n tokens = ahead_of (punctuator (binary_punctuator op) at) (spelled b rest) (before_expression b w.3 rest h) in
      let c = behind_part f (along untagged types a w.2) o in
      (reached a w.2 f tokens o ha, in_time a w.2 f tokens o ha, in_time b w.3 _ rest c.1.2 h)
  in_time (Trees.braces left all comma right) w f rest o h = absurd w
  in_time a w f rest o h = tt

  -- ---- initializers

  pub list_along : (b : Bool) (all : Trees.Arguments) → AreInitializers types b all → {rest : List Lexeme}
      → Along (marks_of_all untagged all) (spelled_arguments all rest) rest
  list_along b Trees.no_arguments w = none
  list_along b (Trees.and_argument comma a more) w = after (comma_along comma) (both (initializer_along untagged types a w.1) (list_along false more w.2))

  mutual
    pub initial_in_time : (a : Trees.Expression) → IsInitializer types a → (from : ℕ) (rest : List Lexeme) → AreOrdered from (spelled a rest)
        → Ahead ends n rest → IsInTime ends n a
    initial_in_time (Trees.braces left all comma right) w f rest o h =
        let close : Lexeme = punctuator M.CloseBrace right in
        all_in_time true all w.1 _ (spelled_comma comma (close ∷ rest)) o.2 (earlier ends n (comma_along comma {rest = close ∷ rest}) (ahead_of close rest h))
    initial_in_time a w f rest o h = in_time a w.1 f rest o h

    all_in_time : (b : Bool) (all : Trees.Arguments) → AreInitializers types b all → (from : ℕ) (rest : List Lexeme)
        → AreOrdered from (spelled_arguments all rest) → Ahead ends n rest → AreInTime ends n all
    all_in_time b Trees.no_arguments w f rest o h = tt
    all_in_time b (Trees.and_argument comma a more) w f rest o h =
        let c = behind_part f (comma_along comma {rest = spelled a (spelled_arguments more rest)}) o in
        let e = behind_part c.0 (initializer_along untagged types a w.1 {rest = spelled_arguments more rest}) c.1 in (
          initial_in_time a w.1 c.0 (spelled_arguments more rest) c.1 (earlier ends n (list_along false more w.2 {rest = rest}) h),
          all_in_time false more w.2 e.0 rest e.1 h,
        )
