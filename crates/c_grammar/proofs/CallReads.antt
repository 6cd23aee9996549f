-- Reading a call and its arguments from their spelling.
use Rattle.std.proofs.Common.{◌≡◌, ℕ, zero, suc, ◌≤◌, max, List, [], ◌∷◌, ◌++◌, Option, Some, None, Bool, true, false, length, refl, ◌∙◌, arith}
use Rattle.std.proofs.Common.{append_assoc, append-nil, add-one}
use Rattle.c_tokens.specs.declared.punctuator.Punctuator.TheVariants as M
use Rattle.c_ast.specs.Trees
use Rattle.c_ast.specs.Spelling.{Lexeme, punctuator, spelled_comma, spelled, spelled_arguments}
use Rattle.c_ast.specs.WellFormed.{level, IsExpression, AreArguments}
use Rattle.c_ast.specs.Sizes.{depth, depth_arguments}
use Rattle.c_grammar.specs.Reading.{chain, fronted, is_right, argument_in, arguments_in, call_in, postfix_step, at}
use Rattle.c_grammar.proofs.Follow.{pull, within}
use Rattle.c_grammar.proofs.Beginnings.{front}
use Rattle.c_grammar.proofs.Lists.{arguments_list, arguments_again, is_new, not_new, comma_read}
use Rattle.c_grammar.proofs.Lengths.{arguments_room}
use Rattle.c_grammar.proofs.ExpressionReads.{Reads, Postfix, assignment_inside}

module _ (types : List (List ℕ)) where
  abbrev pub ArgumentsRead : Trees.Arguments → Type 0
  ArgumentsRead Trees.no_arguments = Unit {0}
  ArgumentsRead (Trees.and_argument comma a more) = Reads types a × ArgumentsRead more

  argument_front : (comma : Option ℕ) (a : Trees.Expression) → IsExpression types a → (rest : List Lexeme)
      → fronted is_right (spelled_comma comma (spelled a rest)) ≡ false
  argument_front None a w rest = (front types a w rest).no_right
  argument_front (Some i) a w rest = refl

  after_argument : (more : Trees.Arguments) → AreArguments types false more → (right : ℕ) (rest : List Lexeme)
      → pull (spelled_arguments more (punctuator M.Close right ∷ rest)) ≤ 1
  after_argument Trees.no_arguments w right rest = omega arith
  after_argument (Trees.and_argument None a more) w right rest = let e : false ≡ true = w.0 in cc
  after_argument (Trees.and_argument (Some i) a more) w right rest = omega arith

  arguments_read : (all : Trees.Arguments) (first : Bool) → AreArguments types first all → ArgumentsRead all
      → (k s : ℕ) (done : List (Option ℕ × Trees.Expression)) (d right : ℕ) (rest : List Lexeme) → first ≡ is_new done → depth_arguments all ≤ k
      → length (arguments_list all) ≤ s
      → chain (argument_in (at types k)) (suc s) done d (spelled_arguments all (punctuator M.Close right ∷ rest))
      ≡ Some (done ++ arguments_list all, max d (depth_arguments all), punctuator M.Close right ∷ rest)
  unfolding chain argument_in
  arguments_read Trees.no_arguments first w r k s done d right rest e h l = let z : max d 0 ≡ d = omega arith in rw (append-nil done, z)
  arguments_read (Trees.and_argument comma a more) first w r k zero done d right rest e h l = absurd (omega arith)
  arguments_read (Trees.and_argument comma a more) first w r k (suc s) done d right rest e h l =
      let z : max (max d (depth a)) (depth_arguments more) ≡ max d (max (depth a) (depth_arguments more)) = omega arith in
      let tail = spelled_arguments more (punctuator M.Close right ∷ rest) in
      rw (
        argument_front comma a w.2 tail,
        comma_read done first comma (spelled a tail) e w.0,
        assignment_inside types a r.0 w.1 k tail (omega arith) (after_argument more w.3 right rest),
      )
      (arguments_read more false w.3 r.1 k s (done ++ (comma, a) ∷ []) (max d (depth a)) right rest (not_new done (comma, a)) (omega arith) (omega arith)
      ∙ rw (append_assoc done ((comma, a) ∷ []) (arguments_list more), z))

  pub call_reads : (f : Trees.Expression) (left : ℕ) (all : Trees.Arguments) (right : ℕ) → 15 ≤ level f → AreArguments types true all → Reads types f
      → ArgumentsRead all → Postfix types (Trees.call f left all right)
  unfolding chain postfix_step call_in arguments_in
  call_reads f left all right l w rf r k s rest d e h =
      let tokens = spelled_arguments all (punctuator M.Close right ∷ rest) in
      let z : max 0 (depth_arguments all) ≡ depth_arguments all = omega arith in
      rf.postfix l k (suc s) (punctuator M.Open left ∷ tokens) (omega arith) (omega arith) (omega arith)
      ∙ rw (
        add-one (length tokens),
        arguments_read all true w r k (length tokens) [] 0 right rest refl (omega arith)
            (arguments_room types all w (punctuator M.Close right) rest),
        arguments_again all,
        z,
        within (max (depth f) (depth_arguments all)) k (omega arith),
      )
