-- Initializers: what is spelled is read.
use Rattle.std.proofs.Common.{◌≡◌, ℕ, zero, suc, ◌+◌, ◌≤◌, max, List, [], ◌∷◌, ◌++◌, Option, Some, None, Bool, true, false, length, refl, subst, ◌≢◌}
use Rattle.std.proofs.Common.{◌∙◌, arith, append_assoc, add-one}
use Rattle.c_tokens.specs.declared.punctuator.Punctuator.TheVariants as M
use Rattle.c_tokens.specs.declared.token.TokenKind.{TokenKind}
use Rattle.c_tokens.specs.declared.token.TokenKind.TheVariants as K
use Rattle.c_ast.specs.Trees
use Rattle.c_ast.specs.Spelling.{Lexeme, punctuator, spelled_comma, spelled, spelled_arguments}
use Rattle.c_ast.specs.WellFormed.{level, IsComma, IsExpression, IsInitializer, AreInitializers}
use Rattle.c_ast.specs.Sizes.{depth, depth_initializers, depth_initializer}
use Rattle.c_grammar.specs.Reading.{fronted, is_left_brace, is_right_brace, chain, another, comma_if_any}
use Rattle.c_grammar.proofs.Follow.{pull, within}
use Rattle.c_grammar.proofs.Lists.{arguments_list, arguments_again, is_new, not_new, comma_read}
use Rattle.c_grammar.specs.StatementReading.{initial_step, braces_in, initial_in, initial_at}
use Rattle.c_grammar.proofs.CompleteBelow.{IsComplete}
use Rattle.c_grammar.proofs.FirstTokens.{none_after, fronted_not, begins_expression, not_right_brace, expression_start}
use Rattle.c_grammar.proofs.Longer.{longer_comma, longer, initializers_count}

-- ---- look-ahead

not_left_brace : (kind : TokenKind) → begins_expression kind ≡ true → is_left_brace kind ≡ false
not_left_brace (K.Punctuator M.OpenBrace) h = cc
not_left_brace kind h = refl

initial_start : (types : List (List ℕ)) (t : Trees.Expression) → IsInitializer types t → (rest : List Lexeme) → fronted is_right_brace (spelled t rest) ≡ false
initial_start types (Trees.braces left all comma right) w rest = refl
initial_start types t w rest = fronted_not begins_expression is_right_brace not_right_brace (spelled t rest) (expression_start types t w.1 rest).begins

another_more : (types : List (List ℕ)) (comma : Option ℕ) (t : Trees.Expression) (rest : List Lexeme) → IsComma false comma → IsInitializer types t
    → another (spelled_comma comma (spelled t rest)) ≡ true
another_more types None t rest w i = cc
another_more types (Some place) t rest w i = rw (initial_start types t i rest)

another_last : (comma : Option ℕ) (right : ℕ) (rest : List Lexeme) → another (spelled_comma comma (punctuator M.CloseBrace right ∷ rest)) ≡ false
another_last None right rest = refl
another_last (Some place) right rest = refl

comma_found : (comma : Option ℕ) (right : ℕ) (rest : List Lexeme) → comma_if_any (spelled_comma comma (punctuator M.CloseBrace right ∷ rest))
    ≡ (comma, punctuator M.CloseBrace right ∷ rest)
comma_found None right rest = refl
comma_found (Some place) right rest = refl

-- what stands after an initializer in braces
pull_last : (comma : Option ℕ) (right : ℕ) (rest : List Lexeme) → pull (spelled_comma comma (punctuator M.CloseBrace right ∷ rest)) ≤ 1
pull_last None right rest = omega arith
pull_last (Some place) right rest = omega arith

pub pull_comma : (comma : Option ℕ) (rest : List Lexeme) → IsComma false comma → pull (spelled_comma comma rest) ≤ 1
pull_comma None rest w = cc
pull_comma (Some place) rest w = omega arith

depth_first : (comma : Option ℕ) (t : Trees.Expression) (more : Trees.Arguments) → depth_initializers (Trees.and_argument comma t more)
    ≡ max (depth_initializer t) (depth_initializers more)
depth_first comma (Trees.braces left all last right) more = refl
depth_first comma t more = refl

module _ (types : List (List ℕ)) (c : IsComplete types) where
  abbrev Reads : Trees.Expression → Type 0
  Reads t = (k : ℕ) (rest : List Lexeme) → depth_initializer t ≤ k → pull rest ≤ 1 → initial_at types k (spelled t rest) ≡ Some (t, depth_initializer t, rest)

  abbrev AllRead : Trees.Arguments → Type 0
  AllRead Trees.no_arguments = Unit {0}
  AllRead (Trees.and_argument comma t more) = Reads t × AllRead more

  expression_initial : (t : Trees.Expression) → 1 ≤ level t → IsExpression types t → (k : ℕ) (rest : List Lexeme) → depth t + 1 ≤ k → pull rest ≤ 1
      → initial_at types k (spelled t rest) ≡ Some (t, depth t + 1, rest)
  unfolding initial_in
  expression_initial t l w zero rest h p = absurd (omega arith)
  expression_initial t l w (suc k) rest h p =
      rw (
        none_after is_left_brace (spelled t rest) (fronted_not begins_expression is_left_brace not_left_brace (spelled t rest)
            (expression_start types t w rest).begins),
        c.assignment_read t k rest w l (omega arith) p,
        within (depth t) k (omega arith),
      ) refl

  first_count : (comma : Option ℕ) (t : Trees.Expression) (more : Trees.Arguments) (rest : List Lexeme) → AreInitializers types false more
      → length (arguments_list more) ≤ length (spelled_comma comma (spelled t (spelled_arguments more rest)))
  first_count comma t more rest w = omega (
    arith,
    longer_comma comma (spelled t (spelled_arguments more rest)),
    longer t (spelled_arguments more rest),
    initializers_count types more rest w,
  )

  initials_read : (comma : Option ℕ) (t : Trees.Expression) (more : Trees.Arguments) → Reads t → AllRead more → AreInitializers types false more
      → (k s : ℕ) (done : List (Option ℕ × Trees.Expression)) (d : ℕ) (last : Option ℕ) (right : ℕ) (rest : List Lexeme)
      → IsComma (is_new done) comma → depth_initializers (Trees.and_argument comma t more) ≤ k → length (arguments_list more) ≤ s
      → chain (initial_step (initial_at types k)) (suc s) done d
      (spelled_comma comma (spelled t (spelled_arguments more (spelled_comma last (punctuator M.CloseBrace right ∷ rest)))))
      ≡ Some (
        done ++ arguments_list (Trees.and_argument comma t more),
        max d (depth_initializers (Trees.and_argument comma t more)),
        spelled_comma last (punctuator M.CloseBrace right ∷ rest),
      )
  unfolding chain initial_step
  initials_read comma t Trees.no_arguments r rs ws k s done d last right rest w h i =
      let tail = spelled_comma last (punctuator M.CloseBrace right ∷ rest) in
      let f = depth_first comma t Trees.no_arguments in
      let e : max d (depth_initializer t) ≡ max d (depth_initializers (Trees.and_argument comma t Trees.no_arguments)) = omega arith in
      rw (comma_read done (is_new done) comma (spelled t tail) refl w, r k tail (omega arith) (pull_last last right rest), another_last last right rest, e) refl
  initials_read comma t (Trees.and_argument comma' u more) r rs ws k zero done d last right rest w h i = absurd (omega arith)
  initials_read comma t (Trees.and_argument comma' u more) r rs ws k (suc s) done d last right rest w h i =
      let f = depth_first comma t (Trees.and_argument comma' u more) in
      let after_u = spelled_arguments more (spelled_comma last (punctuator M.CloseBrace right ∷ rest)) in
      let tail = spelled_comma comma' (spelled u after_u) in
      let e : max (max d (depth_initializer t)) (depth_initializers (Trees.and_argument comma' u more))
      ≡ max d (depth_initializers (Trees.and_argument comma t (Trees.and_argument comma' u more))) = omega arith in
      rw (
        comma_read done (is_new done) comma (spelled t tail) refl w,
        r k tail (omega arith) (pull_comma comma' (spelled u after_u) ws.0),
        another_more types comma' u after_u ws.0 ws.1,
      )
      (initials_read comma' u more rs.0 rs.1 ws.2 k s (done ++ (comma, t) ∷ []) (max d (depth_initializer t)) last right rest
      (subst (λ b. IsComma b comma') (not_new done (comma, t)) ws.0) (omega arith) (omega arith)
      ∙ rw (append_assoc done ((comma, t) ∷ []) (arguments_list (Trees.and_argument comma' u more)), e) refl)

  braces_reads : (left : ℕ) (all : Trees.Arguments) (last : Option ℕ) (right : ℕ) → all ≢ Trees.no_arguments → AreInitializers types true all
      → AllRead all → Reads (Trees.braces left all last right)
  unfolding initial_in braces_in
  braces_reads left Trees.no_arguments last right n w r k rest h p = absurd (n refl)
  braces_reads left (Trees.and_argument comma t more) last right n w r zero rest h p = absurd (omega arith)
  braces_reads left (Trees.and_argument comma t more) last right n w r (suc k) rest h p =
      let all = Trees.and_argument comma t more in
      let end = spelled_comma last (punctuator M.CloseBrace right ∷ rest) in
      let tokens = spelled_comma comma (spelled t (spelled_arguments more end)) in
      let z : max 0 (depth_initializers all) ≡ depth_initializers all = omega arith in
      rw (
        add-one (length tokens),
        initials_read comma t more r.0 r.1 w.2 k (length tokens) [] 0 last right rest w.0 (omega arith)
            (first_count comma t more end w.2),
        comma_found last right rest,
        z,
        within (depth_initializers all) k (omega arith),
        arguments_again all,
      ) refl

  mutual
    pub initial_read : (t : Trees.Expression) → IsInitializer types t → Reads t
    initial_read (Trees.braces left all comma right) w = braces_reads left all comma right w.0 w.1 (initials_all all true w.1)
    initial_read t w = expression_initial t w.0 w.1

    initials_all : (all : Trees.Arguments) (first : Bool) → AreInitializers types first all → AllRead all
    initials_all Trees.no_arguments first w = tt
    initials_all (Trees.and_argument comma t more) first w = (initial_read t w.1, initials_all more false w.2)
