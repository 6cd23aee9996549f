-- Expressions from unary ones on: what is read is spelled so.
use Rattle.std.proofs.Common.{◌≡◌, ℕ, suc, ◌+◌, ◌≤◌, ◌<◌, max, List, [], ◌∷◌, Option, Some, None, Bool, refl, ap, ◌∙◌, arith, leb}
use Rattle.lay_base.specs.declared.faults.Keyword.TheVariants as W
use Rattle.c_tokens.specs.declared.punctuator.Punctuator.TheVariants as M
use Rattle.c_ast.specs.declared.operators.StepOp.{StepOp}
use Rattle.c_ast.specs.declared.operators.UnaryOp.{UnaryOp}
use Rattle.c_ast.specs.declared.operators.BinaryOp.{BinaryOp}
use Rattle.c_ast.specs.declared.operators.BinaryOp.TheVariants as B
use Rattle.c_ast.specs.declared.operators.AssignOp.{AssignOp}
use Rattle.c_ast.specs.Trees
use Rattle.c_ast.specs.Spelling.{Lexeme, punctuator, keyword, step_punctuator, unary_punctuator, binary_punctuator, assign_punctuator, spelled}
use Rattle.c_ast.specs.Spelling.{spelled_type_name}
use Rattle.c_ast.specs.WellFormed.{strength, level}
use Rattle.c_grammar.proofs.Wholeness.{AreWhole}
use Rattle.c_grammar.specs.Reading.{Inner, after, begins_type_name, is_question, is_comma, is_sizeof, step_op, unary_op, binary_op, assign_op, pre_in}
use Rattle.c_grammar.specs.Reading.{unary_in, sizeof_in, cast_in, prefixed_in, unary_expression_in, operand_in, operated_in, operator_step}
use Rattle.c_grammar.specs.Reading.{operators_in, chosen_in, conditional_after, conditional_in, assigned_in, assignment_after, assignment_in}
use Rattle.c_grammar.specs.Reading.{comma_after, comma_step, expression_in}
use Rattle.c_grammar.proofs.Fronts.{bind_taken, given, chosen, from_leb, below, deeper_taken, punctuators_some, step_kind, unary_kind, binary_kind}
use Rattle.c_grammar.proofs.Fronts.{assign_kind, sizeof_kind, punctuator_whole, keyword_whole, front_whole, rest_whole, colon_taken, question_taken}
use Rattle.c_grammar.proofs.Fronts.{comma_taken}
use Rattle.c_grammar.proofs.Chains.{Goes, chain_taken}
use Rattle.c_grammar.proofs.Taken.{took_before, TookExpression, ReadsExpression, looser, strength_if_any, strength_of_next, ReadsOperators, IsSound}
use Rattle.c_grammar.proofs.PostfixSound.{enclosed_type_name_reads, postfix_reads}

strength_high : (op : BinaryOp) → (3 ≤ strength op) × (strength op ≤ 12)
strength_high B.Or = omega arith
strength_high op = omega arith

next_low : (tokens : List Lexeme) → strength_of_next tokens ≤ 12
next_low [] = omega arith
next_low (t ∷ rest) = of_option (binary_op t.kind)
  where
    of_option : (o : Option BinaryOp) → strength_if_any o ≤ 12
    of_option None = omega arith
    of_option (Some op) = (strength_high op).1

module _ (types : List (List ℕ)) (k : ℕ) (inner : Inner) (sound : IsSound types k inner) where
  -- ---- unary expressions and casts

  pre_reads : (op : StepOp) (at : ℕ) (tokens : List Lexeme) → AreWhole tokens → (y : Trees.Expression × ℕ × List Lexeme) → pre_in k inner op at tokens
      ≡ Some y → TookExpression types 14 (suc k) (punctuator (step_punctuator op) at ∷ tokens) y
  unfolding pre_in
  pre_reads op at tokens w y h =
      let a = bind_taken _ (sound.unary tokens w) h in
      let d = bind_taken _ (deeper_taken k a.0.1) a.2 in
      given (TookExpression types 14 (suc k) (punctuator (step_punctuator op) at ∷ tokens)) _ y d.2 (record {
        spelled_so = ap (λ z. punctuator (step_punctuator op) at ∷ z) a.1.spelled_so;
        well_formed = (omega arith, a.1.well_formed);
        deep = omega (arith, d.1.1, a.1.deep);
        within = omega (arith, d.1.0, d.1.1);
        whole = a.1.whole;
      })

  unary_reads : (op : UnaryOp) (at : ℕ) (tokens : List Lexeme) → AreWhole tokens → (y : Trees.Expression × ℕ × List Lexeme)
      → unary_in k inner op at tokens ≡ Some y → TookExpression types 14 (suc k) (punctuator (unary_punctuator op) at ∷ tokens) y
  unfolding unary_in
  unary_reads op at tokens w y h =
      let a = bind_taken _ (sound.operand tokens w) h in
      let d = bind_taken _ (deeper_taken k a.0.1) a.2 in
      given (TookExpression types 14 (suc k) (punctuator (unary_punctuator op) at ∷ tokens)) _ y d.2 (record {
        spelled_so = ap (λ z. punctuator (unary_punctuator op) at ∷ z) a.1.spelled_so;
        well_formed = (omega arith, a.1.well_formed);
        deep = omega (arith, d.1.1, a.1.deep);
        within = omega (arith, d.1.0, d.1.1);
        whole = a.1.whole;
      })

  sizeof_reads : (at : ℕ) (tokens : List Lexeme) → AreWhole tokens → (y : Trees.Expression × ℕ × List Lexeme) → sizeof_in types k inner at tokens
      ≡ Some y → TookExpression types 14 (suc k) (keyword W.Sizeof at ∷ tokens) y
  unfolding sizeof_in
  sizeof_reads at tokens w y h =
      chosen (begins_type_name types tokens) _ _ y (TookExpression types 14 (suc k) (keyword W.Sizeof at ∷ tokens) y) h
      (λ _ h.
      let t = bind_taken _ (enclosed_type_name_reads types k inner sound tokens w) h in
      let d = bind_taken _ (deeper_taken k t.0.1) t.2 in
      given (TookExpression types 14 (suc k) (keyword W.Sizeof at ∷ tokens)) _ y d.2 (record {
        spelled_so = ap (λ z. keyword W.Sizeof at ∷ z) t.1.spelled_so;
        well_formed = (omega arith, t.1.well_formed);
        deep = omega (arith, d.1.1, t.1.deep);
        within = omega (arith, d.1.0, d.1.1);
        whole = t.1.whole;
      }))
      (λ _ h.
      let a = bind_taken _ (sound.unary tokens w) h in
      let d = bind_taken _ (deeper_taken k a.0.1) a.2 in
      given (TookExpression types 14 (suc k) (keyword W.Sizeof at ∷ tokens)) _ y d.2 (record {
        spelled_so = ap (λ z. keyword W.Sizeof at ∷ z) a.1.spelled_so;
        well_formed = (omega arith, a.1.well_formed);
        deep = omega (arith, d.1.1, a.1.deep);
        within = omega (arith, d.1.0, d.1.1);
        whole = a.1.whole;
      }))

  cast_reads : ReadsExpression types 13 (suc k) (cast_in k inner)
  unfolding cast_in
  cast_reads tokens w y h =
      let t = bind_taken _ (enclosed_type_name_reads types k inner sound tokens w) h in
      let a = bind_taken _ (sound.operand t.0.2 t.1.whole) t.2 in
      let d = bind_taken _ (deeper_taken k (max t.0.1 a.0.1)) a.2 in
      given (TookExpression types 13 (suc k) tokens) _ y d.2 (record {
        spelled_so = t.1.spelled_so ∙ ap (λ z. punctuator M.Open t.0.0.0 ∷ spelled_type_name t.0.0.1 (punctuator M.Close t.0.0.2 ∷ z)) a.1.spelled_so;
        well_formed = (omega arith, (a.1.well_formed.0, t.1.well_formed, a.1.well_formed.1));
        deep = omega (arith, d.1.1, t.1.deep, a.1.deep);
        within = omega (arith, d.1.0, d.1.1);
        whole = a.1.whole;
      })

  prefixed_reads : (t : Lexeme) (rest : List Lexeme) → AreWhole (t ∷ rest) → (step : Option StepOp) (op : Option UnaryOp) → step_op t.kind ≡ step
      → unary_op t.kind ≡ op
      → (y : Trees.Expression × ℕ × List Lexeme) → prefixed_in types k inner (t ∷ rest) step op ≡ Some y → TookExpression types 14 (suc k) (t ∷ rest) y
  prefixed_reads t rest w (Some op) o e f y h =
      rw (punctuator_whole t (step_punctuator op) (front_whole t rest w)
      (punctuators_some step_punctuator t.kind (step_op t.kind) op (step_kind t.kind) e)) (pre_reads op t.from rest (rest_whole t rest w) y h)
  prefixed_reads t rest w None (Some op) e f y h =
      rw (punctuator_whole t (unary_punctuator op) (front_whole t rest w)
      (punctuators_some unary_punctuator t.kind (unary_op t.kind) op (unary_kind t.kind) f)) (unary_reads op t.from rest (rest_whole t rest w) y h)
  prefixed_reads t rest w None None e f y h =
      chosen (is_sizeof t.kind) _ _ y (TookExpression types 14 (suc k) (t ∷ rest) y) h
      (λ c h. rw (keyword_whole t W.Sizeof (front_whole t rest w) (sizeof_kind t.kind c)) (sizeof_reads t.from rest (rest_whole t rest w) y h))
      (λ c h. looser types (suc k) 15 14 (t ∷ rest) y (omega arith) (postfix_reads types k inner sound (t ∷ rest) w y h))

  pub unary_expression_reads : ReadsExpression types 14 (suc k) (unary_expression_in types k inner)
  unfolding unary_expression_in
  unary_expression_reads [] w y h = looser types (suc k) 15 14 [] y (omega arith) (postfix_reads types k inner sound [] w y h)
  unary_expression_reads (t ∷ rest) w y h = prefixed_reads t rest w (step_op t.kind) (unary_op t.kind) refl refl y h

  pub operand_reads : ReadsExpression types 13 (suc k) (operand_in types k inner)
  unfolding operand_in
  operand_reads tokens w y h =
      chosen (begins_type_name types tokens) _ _ y (TookExpression types 13 (suc k) tokens y) h
      (λ _ h. cast_reads tokens w y h)
      (λ _ h. looser types (suc k) 14 13 tokens y (omega arith) (unary_expression_reads tokens w y h))

  -- ---- binary operators

  -- x stands before operators no stronger than its own
  abbrev Chained : ℕ → List Lexeme → Trees.Expression → ℕ → List Lexeme → Type 0
  Chained least all x d rest = TookExpression types least (suc k) all (x, d, rest) × (strength_of_next rest ≤ level x)

  abbrev Chains : ℕ → List Lexeme → Trees.Expression × ℕ × List Lexeme → Type 0
  Chains least all y = TookExpression types least (suc k) all y × (strength_of_next y.2 < least)

  abbrev OperatorGoes : ℕ → List Lexeme → Trees.Expression × ℕ × List Lexeme × Bool → Type 0
  OperatorGoes least all r = Goes (Chained least all) (Chains least all) r r.3

  operated_goes : (least : ℕ) → 3 ≤ least → (all : List Lexeme) (x : Trees.Expression) (d : ℕ) (t : Lexeme) (rest : List Lexeme) (o : Option BinaryOp)
      (r : Trees.Expression × ℕ × List Lexeme × Bool)
      → Chained least all x d (t ∷ rest) → binary_op t.kind ≡ o → operated_in k inner least x d (t ∷ rest) o ≡ Some r → OperatorGoes least all r
  operated_goes least i all x d t rest None r p e h =
      let f : strength_if_any (binary_op t.kind) ≡ 0 = ap strength_if_any e in
      given (OperatorGoes least all) _ r h (p.0, omega (arith, f))
  operated_goes least i all x d t rest (Some op) r p e h =
      let f : strength_if_any (binary_op t.kind) ≡ strength op = ap strength_if_any e in
      let w = p.0.whole in
      chosen (leb least (strength op)) _ _ r (OperatorGoes least all r) h
      (λ c h.
      let s = strength_high op in
      let b = bind_taken _ (sound.operators (strength op + 1) (omega arith) (omega arith) rest (rest_whole t rest w)) h in
      let n = bind_taken _ (deeper_taken k (max d b.0.1)) b.2 in
      let m = punctuator_whole t (binary_punctuator op) (front_whole t rest w)
      (punctuators_some binary_punctuator t.kind (binary_op t.kind) op (binary_kind t.kind) e) in
      given (OperatorGoes least all) _ r n.2 (
        record {
          spelled_so = p.0.spelled_so ∙ ap (λ z. spelled x (z ∷ rest)) m ∙ ap (λ z. spelled x (punctuator (binary_punctuator op) t.from ∷ z)) b.1.0.spelled_so;
          well_formed = (from_leb least (strength op) c, (omega (arith, f, p.1), omega (arith, b.1.0.well_formed.0), p.0.well_formed.1, b.1.0.well_formed.1));
          deep = omega (arith, n.1.1, p.0.deep, b.1.0.deep);
          within = omega (arith, n.1.0, n.1.1);
          whole = b.1.0.whole;
        },
        omega (arith, b.1.1),
      ))
      (λ c h. given (OperatorGoes least all) _ r h (p.0, let g = below least (strength op) c in omega (arith, f, g)))

  operator_goes : (least : ℕ) → 3 ≤ least → (all : List Lexeme) (x : Trees.Expression) (d : ℕ) (tokens : List Lexeme)
      (r : Trees.Expression × ℕ × List Lexeme × Bool) → Chained least all x d tokens → operator_step k inner least x d tokens ≡ Some r
      → OperatorGoes least all r
  unfolding operator_step
  operator_goes least i all x d [] r p h = given (OperatorGoes least all) _ r h (p.0, omega arith)
  operator_goes least i all x d (t ∷ rest) r p h = operated_goes least i all x d t rest (binary_op t.kind) r p refl h

  pub operators_read : (least : ℕ) → 3 ≤ least → least ≤ 13 → ReadsOperators types least (suc k) (operators_in types k inner least)
  unfolding operators_in
  operators_read least i j tokens w y h =
      let x = bind_taken _ (operand_reads tokens w) h in
      let low = next_low x.0.2 in
      chain_taken (operator_step k inner least) (Chained least tokens) (Chains least tokens) (operator_goes least i tokens) (suc k) x.0.0 x.0.1 x.0.2 y
      (looser types (suc k) 13 least tokens x.0 j x.1, omega (arith, x.1.well_formed.0, low)) x.2

  -- ---- conditional expressions

  chosen_takes : (all : List Lexeme) (a : Trees.Expression) (d question : ℕ) (tokens : List Lexeme)
      → TookExpression types 3 (suc k) all (a, d, punctuator M.Question question ∷ tokens) → (y : Trees.Expression × ℕ × List Lexeme)
      → chosen_in k inner a d question tokens ≡ Some y → TookExpression types 2 (suc k) all y
  unfolding chosen_in
  chosen_takes all a d question tokens p y h =
      let b = bind_taken _ (sound.expression tokens (rest_whole (punctuator M.Question question) tokens p.whole)) h in
      let colon = bind_taken _ (colon_taken b.0.2 b.1.whole) b.2 in
      let c = bind_taken _ (sound.conditional colon.0.1 colon.1.1) colon.2 in
      let n = bind_taken _ (deeper_taken k (max (max d b.0.1) c.0.1)) c.2 in
      given (TookExpression types 2 (suc k) all) _ y n.2 (record {
        spelled_so = p.spelled_so ∙ ap (λ z. spelled a (punctuator M.Question question ∷ z)) (b.1.spelled_so
            ∙ ap (λ z. spelled b.0.0 z) (colon.1.0 ∙ ap (λ z. punctuator M.Colon colon.0.0 ∷ z) c.1.spelled_so));
        well_formed = (omega arith, (p.well_formed.0, c.1.well_formed.0, p.well_formed.1, b.1.well_formed.1, c.1.well_formed.1));
        deep = omega (arith, n.1.1, p.deep, b.1.deep, c.1.deep);
        within = omega (arith, n.1.0, n.1.1);
        whole = c.1.whole;
      })

  conditional_takes : (all : List Lexeme) (a : Trees.Expression) (d : ℕ) (rest : List Lexeme) (o : Option (ℕ × List Lexeme))
      → TookExpression types 3 (suc k) all (a, d, rest) → after is_question rest ≡ o → (y : Trees.Expression × ℕ × List Lexeme)
      → conditional_after k inner a d rest o ≡ Some y → TookExpression types 2 (suc k) all y
  conditional_takes all a d rest None p e y h = given (TookExpression types 2 (suc k) all) _ y h (looser types (suc k) 3 2 all (a, d, rest) (omega arith) p)
  conditional_takes all a d rest (Some question) p e y h =
      let q = question_taken rest p.whole question e in
      chosen_takes all a d question.0 question.1 (took_before a d rest (punctuator M.Question question.0 ∷ question.1) q.0 p) y h

  pub conditional_reads : ReadsExpression types 2 (suc k) (conditional_in types k inner)
  unfolding conditional_in
  conditional_reads tokens w y h =
      let a = bind_taken _ (operators_read 3 (omega arith) (omega arith) tokens w) h in
      conditional_takes tokens a.0.0 a.0.1 a.0.2 (after is_question a.0.2) a.1.0 refl y a.2

  -- ---- assignments

  assigned_takes : (all : List Lexeme) (a : Trees.Expression) (d : ℕ) (t : Lexeme) (rest : List Lexeme) (o : Option AssignOp)
      → TookExpression types 2 (suc k) all (a, d, t ∷ rest) → assign_op t.kind ≡ o → (y : Trees.Expression × ℕ × List Lexeme)
      → assigned_in k inner a d (t ∷ rest) o ≡ Some y → TookExpression types 1 (suc k) all y
  assigned_takes all a d t rest None p e y h = given (TookExpression types 1 (suc k) all) _ y h (looser types (suc k) 2 1 all (a, d, t ∷ rest) (omega arith) p)
  assigned_takes all a d t rest (Some op) p e y h =
      chosen (leb 14 (level a)) _ _ y (TookExpression types 1 (suc k) all y) h
      (λ c h.
      let b = bind_taken _ (sound.assignment rest (rest_whole t rest p.whole)) h in
      let n = bind_taken _ (deeper_taken k (max d b.0.1)) b.2 in
      let m = punctuator_whole t (assign_punctuator op) (front_whole t rest p.whole)
      (punctuators_some assign_punctuator t.kind (assign_op t.kind) op (assign_kind t.kind) e) in
      given (TookExpression types 1 (suc k) all) _ y n.2 (record {
        spelled_so = p.spelled_so ∙ ap (λ z. spelled a (z ∷ rest)) m ∙ ap (λ z. spelled a (punctuator (assign_punctuator op) t.from ∷ z)) b.1.spelled_so;
        well_formed = (omega arith, (from_leb 14 (level a) c, b.1.well_formed.0, p.well_formed.1, b.1.well_formed.1));
        deep = omega (arith, n.1.1, p.deep, b.1.deep);
        within = omega (arith, n.1.0, n.1.1);
        whole = b.1.whole;
      }))
      (λ c h. cc)

  assignment_takes : (all : List Lexeme) (a : Trees.Expression) (d : ℕ) (tokens : List Lexeme) → TookExpression types 2 (suc k) all (a, d, tokens)
      → (y : Trees.Expression × ℕ × List Lexeme) → assignment_after k inner a d tokens ≡ Some y → TookExpression types 1 (suc k) all y
  unfolding assignment_after
  assignment_takes all a d [] p y h = given (TookExpression types 1 (suc k) all) _ y h (looser types (suc k) 2 1 all (a, d, []) (omega arith) p)
  assignment_takes all a d (t ∷ rest) p y h = assigned_takes all a d t rest (assign_op t.kind) p refl y h

  pub assignment_reads : ReadsExpression types 1 (suc k) (assignment_in types k inner)
  unfolding assignment_in
  assignment_reads tokens w y h =
      let a = bind_taken _ (conditional_reads tokens w) h in
      assignment_takes tokens a.0.0 a.0.1 a.0.2 a.1 y a.2

  -- ---- commas

  abbrev CommaGoes : List Lexeme → Trees.Expression × ℕ × List Lexeme × Bool → Type 0
  CommaGoes all r = Goes (λ x d rest. TookExpression types 0 (suc k) all (x, d, rest)) (TookExpression types 0 (suc k) all) r r.3

  comma_goes : (all : List Lexeme) (x : Trees.Expression) (d : ℕ) (tokens : List Lexeme) (o : Option (ℕ × List Lexeme))
      (r : Trees.Expression × ℕ × List Lexeme × Bool) → TookExpression types 0 (suc k) all (x, d, tokens) → after is_comma tokens ≡ o
      → comma_after k inner x d tokens o ≡ Some r → CommaGoes all r
  comma_goes all x d tokens None r p e h = given (CommaGoes all) _ r h p
  comma_goes all x d tokens (Some comma) r p e h =
      let q = comma_taken tokens p.whole comma e in
      let b = bind_taken _ (sound.assignment comma.1 q.1) h in
      let n = bind_taken _ (deeper_taken k (max d b.0.1)) b.2 in
      given (CommaGoes all) _ r n.2 (record {
        spelled_so = p.spelled_so ∙ ap (λ z. spelled x z) (q.0 ∙ ap (λ z. punctuator M.Comma comma.0 ∷ z) b.1.spelled_so);
        well_formed = (omega arith, (b.1.well_formed.0, p.well_formed.1, b.1.well_formed.1));
        deep = omega (arith, n.1.1, p.deep, b.1.deep);
        within = omega (arith, n.1.0, n.1.1);
        whole = b.1.whole;
      })

  comma_steps : (all : List Lexeme) (x : Trees.Expression) (d : ℕ) (tokens : List Lexeme) (r : Trees.Expression × ℕ × List Lexeme × Bool)
      → TookExpression types 0 (suc k) all (x, d, tokens) → comma_step k inner x d tokens ≡ Some r → CommaGoes all r
  unfolding comma_step
  comma_steps all x d tokens r p h = comma_goes all x d tokens (after is_comma tokens) r p refl h

  pub expression_reads : ReadsExpression types 0 (suc k) (expression_in types k inner)
  unfolding expression_in
  expression_reads tokens w y h =
      let x = bind_taken _ (assignment_reads tokens w) h in
      chain_taken (comma_step k inner) (λ x d rest. TookExpression types 0 (suc k) tokens (x, d, rest)) (TookExpression types 0 (suc k) tokens)
      (comma_steps tokens) (suc k) x.0.0 x.0.1 x.0.2 y (looser types (suc k) 1 0 tokens x.0 (omega arith) x.1) x.2
