-- Reading an expression from its spelling, production by production.
use Rattle.std.proofs.Common.{◌≡◌, ℕ, zero, suc, ◌+◌, ◌-◌, ◌≤◌, ◌<◌, max, List, [], ◌∷◌, ◌++◌, Some, true, false, length, refl, ap, sym, ◌∙◌, arith}
use Rattle.std.proofs.Common.{append_assoc, append-nil, add-one}
use Rattle.c_tokens.specs.declared.punctuator.Punctuator.TheVariants as M
use Rattle.c_tokens.specs.declared.token.TokenKind.TheVariants as K
use Rattle.c_types.specs.declared.ty.IntKind.{IntKind}
use Rattle.c_ast.specs.declared.words.Spelling.{Spelling}
use Rattle.c_ast.specs.declared.operators.StepOp.{StepOp}
use Rattle.c_ast.specs.declared.operators.StepOp.TheVariants as P
use Rattle.c_ast.specs.declared.operators.UnaryOp.{UnaryOp}
use Rattle.c_ast.specs.declared.operators.UnaryOp.TheVariants as U
use Rattle.c_ast.specs.declared.operators.BinaryOp.{BinaryOp}
use Rattle.c_ast.specs.declared.operators.AssignOp.{AssignOp}
use Rattle.c_ast.specs.Trees
use Rattle.c_ast.specs.Spelling.{Lexeme, punctuator, word, binary_punctuator, assign_punctuator, spelled_texts, spelled, spelled_type_name}
use Rattle.c_ast.specs.WellFormed.{strength, level, is_typename, IsExpression}
use Rattle.c_ast.specs.Sizes.{depth, depth_type_name}
use Rattle.c_grammar.specs.Reading.{chain, text_in, texts_in, paren_in, primary_in, index_in, dot_in, arrow_in, stepped_in, postfix_step, postfix_in}
use Rattle.c_grammar.specs.Reading.{pre_in, unary_in, sizeof_in, cast_in, enclosed_type_name_in, unary_expression_in, operand_in, operator_step}
use Rattle.c_grammar.specs.Reading.{operators_in, chosen_in, conditional_in, assignment_after, assignment_in, comma_step, expression_in}
use Rattle.c_grammar.specs.Reading.{begins_type_name, at}
use Rattle.c_grammar.proofs.Follow.{pull, within, strength_least, strength_most, pull_binary, pull_assign, binary_again, assign_again, text_stops}
use Rattle.c_grammar.proofs.Follow.{postfix_stops, operators_stops, conditional_stops, assignment_stops, comma_stops}
use Rattle.c_grammar.proofs.Beginnings.{no_type_name, unary_by_postfix}
use Rattle.c_grammar.proofs.Lengths.{texts_count}

-- the postfix punctuators, the binary operators and the commas on the left edge
abbrev pub stem : Trees.Expression → ℕ
stem (Trees.index a left b right) = suc (stem a)
stem (Trees.call f left all right) = suc (stem f)
stem (Trees.dot a i x) = suc (stem a)
stem (Trees.arrow a i x) = suc (stem a)
stem (Trees.post a op i) = suc (stem a)
stem _ = 0

abbrev pub spine : Trees.Expression → ℕ
spine (Trees.binary a op i b) = suc (spine a)
spine _ = 0

abbrev pub commas : Trees.Expression → ℕ
commas (Trees.comma a i b) = suc (commas a)
commas _ = 0

stem_below : (t : Trees.Expression) → stem t < depth t
stem_below (Trees.index a left b right) = omega (arith, stem_below a)
stem_below (Trees.call f left all right) = omega (arith, stem_below f)
stem_below (Trees.dot a i x) = omega (arith, stem_below a)
stem_below (Trees.arrow a i x) = omega (arith, stem_below a)
stem_below (Trees.post a op i) = omega (arith, stem_below a)
stem_below t = omega arith

spine_below : (t : Trees.Expression) → spine t < depth t
spine_below (Trees.binary a op i b) = omega (arith, spine_below a)
spine_below t = omega arith

commas_below : (t : Trees.Expression) → commas t < depth t
commas_below (Trees.comma a i b) = omega (arith, commas_below a)
commas_below t = omega arith

module _ (types : List (List ℕ)) where
  -- ---- what each reader gives from the spelling of t

  abbrev pub Postfix : Trees.Expression → Type 0
  Postfix t = (k s : ℕ) (rest : List Lexeme) → depth t ≤ suc k → stem t + s ≡ suc k → pull rest ≤ 16
      → postfix_in types k (at types k) (spelled t rest) ≡ chain (postfix_step k (at types k)) s t (depth t) rest

  abbrev pub Unary : Trees.Expression → Type 0
  Unary t = (k : ℕ) (rest : List Lexeme) → depth t ≤ suc k → pull rest ≤ 15 → unary_expression_in types k (at types k) (spelled t rest)
      ≡ Some (t, depth t, rest)

  abbrev pub Operand : Trees.Expression → Type 0
  Operand t = (k : ℕ) (rest : List Lexeme) → depth t ≤ suc k → pull rest ≤ 15 → operand_in types k (at types k) (spelled t rest) ≡ Some (t, depth t, rest)

  abbrev pub Operators : Trees.Expression → Type 0
  Operators t = (k s least : ℕ) (rest : List Lexeme) → depth t ≤ suc k → spine t + s ≡ suc k → pull rest ≤ 15 → pull rest ≤ level t + 1
      → least ≤ level t → operators_in types k (at types k) least (spelled t rest) ≡ chain (operator_step k (at types k) least) s t (depth t) rest

  abbrev pub Conditional : Trees.Expression → Type 0
  Conditional t = (k : ℕ) (rest : List Lexeme) → depth t ≤ suc k → pull rest ≤ 2 → conditional_in types k (at types k) (spelled t rest)
      ≡ Some (t, depth t, rest)

  abbrev pub Assignment : Trees.Expression → Type 0
  Assignment t = (k : ℕ) (rest : List Lexeme) → depth t ≤ suc k → pull rest ≤ 1 → assignment_in types k (at types k) (spelled t rest) ≡ Some (t, depth t, rest)

  abbrev pub Expression : Trees.Expression → Type 0
  Expression t = (k s : ℕ) (rest : List Lexeme) → depth t ≤ suc k → commas t + s ≡ suc k → pull rest ≤ 1
      → expression_in types k (at types k) (spelled t rest) ≡ chain (comma_step k (at types k)) s t (depth t) rest

  pub record Reads (t : Trees.Expression) : Type 0 where
    pub postfix : 15 ≤ level t → Postfix t
    pub unary : 14 ≤ level t → Unary t
    pub operand : 13 ≤ level t → Operand t
    pub operators : 3 ≤ level t → Operators t
    pub conditional : 2 ≤ level t → Conditional t
    pub assignment : 1 ≤ level t → Assignment t
    pub expression : Expression t

  abbrev pub TypeNameReads : Trees.TypeName → Type 0
  TypeNameReads t = (k left right : ℕ) (rest : List Lexeme) → depth_type_name t ≤ k
      → enclosed_type_name_in (at types k) (punctuator M.Open left ∷ spelled_type_name t (punctuator M.Close right ∷ rest))
      ≡ Some ((left, t, right), depth_type_name t, rest)

  -- ---- from a tighter reader to the looser ones

  unary_from_postfix : (t : Trees.Expression) → IsExpression types t → 15 ≤ level t → Postfix t → Unary t
  unary_from_postfix t w l p k rest d h =
      let left : (s : ℕ) × (stem t + suc s ≡ suc k) = (k - stem t, omega (arith, stem_below t)) in
      unary_by_postfix types t w l k (at types k) rest ∙ p k (suc left.0) rest d left.1 (omega arith) ∙ postfix_stops k left.0 (at types k) t (depth t) rest h

  operand_from_unary : (t : Trees.Expression) → IsExpression types t → 14 ≤ level t → Unary t → Operand t
  unfolding operand_in
  operand_from_unary t w l u k rest d h = rw (no_type_name types t w l rest) (u k rest d h)

  operators_from_operand : (t : Trees.Expression) → spine t ≡ 0 → Operand t → Operators t
  unfolding operators_in
  operators_from_operand t z p k s least rest d e h i l =
      rw (p k rest d h) (let same : suc k ≡ s = omega arith in ap (λ n. chain (operator_step k (at types k) least) n t (depth t) rest) same)

  conditional_from_operators : (t : Trees.Expression) → 3 ≤ level t → Operators t → Conditional t
  unfolding conditional_in
  conditional_from_operators t l o k rest d h =
      let left : (s : ℕ) × (spine t + suc s ≡ suc k) = (k - spine t, omega (arith, spine_below t)) in
      rw (o k (suc left.0) 3 rest d left.1 (omega arith) (omega arith) l ∙ operators_stops k left.0 3 (at types k) t (depth t) rest (omega arith))
      (conditional_stops k (at types k) t (depth t) rest h)

  assignment_from_conditional : (t : Trees.Expression) → Conditional t → Assignment t
  unfolding assignment_in
  assignment_from_conditional t c k rest d h = rw (c k rest d (omega arith)) (assignment_stops k (at types k) t (depth t) rest h)

  expression_from_assignment : (t : Trees.Expression) → commas t ≡ 0 → Assignment t → Expression t
  unfolding expression_in
  expression_from_assignment t z a k s rest d e h =
      rw (a k rest d h) (let same : suc k ≡ s = omega arith in ap (λ n. chain (comma_step k (at types k)) n t (depth t) rest) same)

  -- ---- the parts of a tree, which are one less deep

  pub expression_inside : (t : Trees.Expression) → Reads t → (k : ℕ) (rest : List Lexeme) → depth t ≤ k → pull rest ≡ 0
      → (at types k).expression (spelled t rest) ≡ Some (t, depth t, rest)
  expression_inside t r zero rest d h = absurd (omega (arith, stem_below t))
  expression_inside t r (suc k) rest d h =
      let left : (s : ℕ) × (commas t + suc s ≡ suc k) = (k - commas t, omega (arith, commas_below t)) in
      r.expression k (suc left.0) rest d left.1 (omega arith) ∙ comma_stops k left.0 (at types k) t (depth t) rest h

  pub assignment_inside : (t : Trees.Expression) → Reads t → 1 ≤ level t → (k : ℕ) (rest : List Lexeme) → depth t ≤ k → pull rest ≤ 1
      → (at types k).assignment (spelled t rest) ≡ Some (t, depth t, rest)
  assignment_inside t r l zero rest d h = absurd (omega (arith, stem_below t))
  assignment_inside t r l (suc k) rest d h = r.assignment l k rest d h

  pub conditional_inside : (t : Trees.Expression) → Reads t → 2 ≤ level t → (k : ℕ) (rest : List Lexeme) → depth t ≤ k → pull rest ≤ 2
      → (at types k).conditional (spelled t rest) ≡ Some (t, depth t, rest)
  conditional_inside t r l zero rest d h = absurd (omega (arith, stem_below t))
  conditional_inside t r l (suc k) rest d h = r.conditional l k rest d h

  pub operators_inside : (t : Trees.Expression) → Reads t → (k least : ℕ) (rest : List Lexeme) → depth t ≤ k → pull rest ≤ least → pull rest ≤ 15
      → 3 ≤ least → least ≤ level t → (at types k).operators least (spelled t rest) ≡ Some (t, depth t, rest)
  operators_inside t r zero least rest d h i j l = absurd (omega (arith, stem_below t))
  operators_inside t r (suc k) least rest d h i j l =
      let left : (s : ℕ) × (spine t + suc s ≡ suc k) = (k - spine t, omega (arith, spine_below t)) in
      r.operators (omega arith) k (suc left.0) least rest d left.1 i (omega arith) l ∙ operators_stops k left.0 least (at types k) t (depth t) rest h

  pub operand_inside : (t : Trees.Expression) → Reads t → 13 ≤ level t → (k : ℕ) (rest : List Lexeme) → depth t ≤ k → pull rest ≤ 15
      → (at types k).operand (spelled t rest) ≡ Some (t, depth t, rest)
  operand_inside t r l zero rest d h = absurd (omega (arith, stem_below t))
  operand_inside t r l (suc k) rest d h = r.operand l k rest d h

  pub unary_inside : (t : Trees.Expression) → Reads t → 14 ≤ level t → (k : ℕ) (rest : List Lexeme) → depth t ≤ k → pull rest ≤ 15
      → (at types k).unary (spelled t rest) ≡ Some (t, depth t, rest)
  unary_inside t r l zero rest d h = absurd (omega (arith, stem_below t))
  unary_inside t r l (suc k) rest d h = r.unary l k rest d h

  -- ---- primary expressions

  -- the loop begins with all of its fuel
  begun : (t : Trees.Expression) (k s : ℕ) (rest : List Lexeme) → s ≡ suc k → chain (postfix_step k (at types k)) (suc k) t (depth t) rest
      ≡ chain (postfix_step k (at types k)) s t (depth t) rest
  begun t k s rest e = ap (λ n. chain (postfix_step k (at types k)) n t (depth t) rest) (sym e)

  pub name_reads : (x : Spelling) → is_typename types x.text ≡ false → Postfix (Trees.name x)
  unfolding postfix_in primary_in
  name_reads x w k s rest d e h = rw w (begun (Trees.name x) k s rest (omega arith))

  pub number_reads : (x : Spelling) (n : ℕ) (kind : IntKind) → Postfix (Trees.number x n kind)
  unfolding postfix_in primary_in
  number_reads x n kind k s rest d e h = begun (Trees.number x n kind) k s rest (omega arith)

  pub character_reads : (x : Spelling) (n : ℕ) → Postfix (Trees.character x n)
  unfolding postfix_in primary_in
  character_reads x n k s rest d e h = begun (Trees.character x n) k s rest (omega arith)

  texts_read : (all done : List Spelling) (s d : ℕ) (rest : List Lexeme) → length all ≤ s → pull rest ≤ 16
      → chain text_in (suc s) done d (spelled_texts all rest) ≡ Some (done ++ all, d, rest)
  unfolding chain text_in
  texts_read [] done s d rest l h = rw (text_stops done d rest h, append-nil done)
  texts_read (x ∷ all) done zero d rest l h = absurd (omega arith)
  texts_read (x ∷ all) done (suc s) d rest l h = texts_read all (done ++ x ∷ []) s d rest (omega arith) h ∙ rw (append_assoc done (x ∷ []) all)

  pub texts_reads : (x : Spelling) (all : List Spelling) → Postfix (Trees.texts (x ∷ all))
  unfolding postfix_in primary_in texts_in
  texts_reads x all k s rest d e h =
      rw (
        add-one (length (spelled_texts (x ∷ all) rest)),
        texts_read (x ∷ all) [] (length (spelled_texts (x ∷ all) rest)) 1 rest
            (omega (arith, texts_count (x ∷ all) rest)) h,
      ) (begun (Trees.texts (x ∷ all)) k s rest (omega arith))

  pub paren_reads : (left right : ℕ) (a : Trees.Expression) → Reads a → Postfix (Trees.paren left a right)
  unfolding postfix_in primary_in paren_in
  paren_reads left right a r k s rest d e h =
      rw (expression_inside a r k (punctuator M.Close right ∷ rest) (omega arith) refl, within (depth a) k (omega arith))
      (begun (Trees.paren left a right) k s rest (omega arith))

  -- ---- postfix expressions: one turn more

  pub index_reads : (a : Trees.Expression) (left : ℕ) (b : Trees.Expression) (right : ℕ) → 15 ≤ level a → Reads a → Reads b
      → Postfix (Trees.index a left b right)
  unfolding chain postfix_step index_in
  index_reads a left b right l ra rb k s rest d e h =
      ra.postfix l k (suc s) (punctuator M.OpenSquare left ∷ spelled b (punctuator M.CloseSquare right ∷ rest)) (omega arith) (omega arith) (omega arith)
      ∙ rw (expression_inside b rb k (punctuator M.CloseSquare right ∷ rest) (omega arith) refl, within (max (depth a) (depth b)) k (omega arith)) refl

  pub dot_reads : (a : Trees.Expression) (i : ℕ) (x : Spelling) → 15 ≤ level a → Reads a → Postfix (Trees.dot a i x)
  unfolding chain postfix_step dot_in
  dot_reads a i x l r k s rest d e h =
      r.postfix l k (suc s) (punctuator M.Dot i ∷ word K.Name x ∷ rest) (omega arith) (omega arith) (omega arith) ∙ rw (within (depth a) k (omega arith)) refl

  pub arrow_reads : (a : Trees.Expression) (i : ℕ) (x : Spelling) → 15 ≤ level a → Reads a → Postfix (Trees.arrow a i x)
  unfolding chain postfix_step arrow_in
  arrow_reads a i x l r k s rest d e h =
      r.postfix l k (suc s) (punctuator M.Arrow i ∷ word K.Name x ∷ rest) (omega arith) (omega arith) (omega arith) ∙ rw (within (depth a) k (omega arith)) refl

  pub post_reads : (a : Trees.Expression) (op : StepOp) (i : ℕ) → 15 ≤ level a → Reads a → Postfix (Trees.post a op i)
  unfolding chain postfix_step stepped_in
  post_reads a P.Increment i l r k s rest d e h = r.postfix l k (suc s) (punctuator M.PlusPlus i ∷ rest) (omega arith) (omega arith) (omega arith)
      ∙ rw (within (depth a) k (omega arith)) refl
  post_reads a P.Decrement i l r k s rest d e h = r.postfix l k (suc s) (punctuator M.MinusMinus i ∷ rest) (omega arith) (omega arith) (omega arith)
      ∙ rw (within (depth a) k (omega arith)) refl

  -- ---- unary expressions and casts

  pub pre_reads : (op : StepOp) (i : ℕ) (a : Trees.Expression) → 14 ≤ level a → Reads a → Unary (Trees.pre op i a)
  unfolding unary_expression_in pre_in
  pre_reads P.Increment i a l r k rest d h = rw (unary_inside a r l k rest (omega arith) h, within (depth a) k (omega arith)) refl
  pre_reads P.Decrement i a l r k rest d h = rw (unary_inside a r l k rest (omega arith) h, within (depth a) k (omega arith)) refl

  pub unary_reads : (op : UnaryOp) (i : ℕ) (a : Trees.Expression) → 13 ≤ level a → Reads a → Unary (Trees.unary op i a)
  unfolding unary_expression_in unary_in
  unary_reads U.Address i a l r k rest d h = rw (operand_inside a r l k rest (omega arith) h, within (depth a) k (omega arith)) refl
  unary_reads op i a l r k rest d h = rw (operand_inside a r l k rest (omega arith) h, within (depth a) k (omega arith)) refl

  pub sizeof_expression_reads : (i : ℕ) (a : Trees.Expression) → 14 ≤ level a → IsExpression types a → Reads a → Unary (Trees.sizeof_expression i a)
  unfolding unary_expression_in sizeof_in
  sizeof_expression_reads i a l w r k rest d h = rw (
    no_type_name types a w l rest,
    unary_inside a r l k rest (omega arith) h,
    within (depth a) k (omega arith),
  ) refl

  pub sizeof_type_reads : (i left : ℕ) (t : Trees.TypeName) (right : ℕ)
      → ((rest : List Lexeme) → begins_type_name types (punctuator M.Open left ∷ spelled_type_name t rest) ≡ true) → TypeNameReads t
      → Unary (Trees.sizeof_type i left t right)
  unfolding unary_expression_in sizeof_in
  sizeof_type_reads i left t right b r k rest d h = rw (b _, r k left right rest (omega arith), within (depth_type_name t) k (omega arith)) refl

  pub cast_reads : (left : ℕ) (t : Trees.TypeName) (right : ℕ) (a : Trees.Expression) → 13 ≤ level a
      → ((rest : List Lexeme) → begins_type_name types (punctuator M.Open left ∷ spelled_type_name t rest) ≡ true) → TypeNameReads t → Reads a
      → Operand (Trees.cast left t right a)
  unfolding operand_in cast_in
  cast_reads left t right a l b rt ra k rest d h =
      rw (
        b _,
        rt k left right (spelled a rest) (omega arith),
        operand_inside a ra l k rest (omega arith) h,
        within (max (depth_type_name t) (depth a)) k (omega arith),
      ) refl

  -- ---- operators, `?:`, assignments and the comma

  pub binary_reads : (a : Trees.Expression) (op : BinaryOp) (i : ℕ) (b : Trees.Expression) → strength op ≤ level a → strength op < level b → Reads a
      → Reads b → Operators (Trees.binary a op i b)
  unfolding chain operator_step
  binary_reads a op i b la lb ra rb k s least rest d e h j l =
      let same : pull (punctuator (binary_punctuator op) i ∷ spelled b rest) ≡ strength op + 1 = pull_binary op in
      let low : 3 ≤ strength op = strength_least op in
      let high : strength op ≤ 12 = strength_most op in
      ra.operators (omega arith) k (suc s) least (punctuator (binary_punctuator op) i ∷ spelled b rest) (omega arith) (omega arith) (omega arith)
      (omega arith) (omega arith)
      ∙ rw (
        binary_again op,
        within least (strength op) l,
        operators_inside b rb k (strength op + 1) rest (omega arith) (omega arith) h (omega arith)
            (omega arith),
        within (max (depth a) (depth b)) k (omega arith),
      ) refl

  pub cond_reads : (a : Trees.Expression) (question : ℕ) (b : Trees.Expression) (colon : ℕ) (c : Trees.Expression) → 3 ≤ level a → 2 ≤ level c
      → Reads a → Reads b → Reads c → Conditional (Trees.cond a question b colon c)
  unfolding conditional_in chosen_in
  cond_reads a question b colon c la lc ra rb rc k rest d h =
      let left : (s : ℕ) × (spine a + suc s ≡ suc k) = (k - spine a, omega (arith, spine_below a)) in
      let after_a = punctuator M.Question question ∷ spelled b (punctuator M.Colon colon ∷ spelled c rest) in
      rw (
        ra.operators la k (suc left.0) 3 after_a (omega arith) left.1 (omega arith) (omega arith) la
            ∙ operators_stops k left.0 3 (at types k) a (depth a) after_a (omega arith),
        expression_inside b rb k (punctuator M.Colon colon ∷ spelled c rest) (omega arith) refl,
        conditional_inside c rc lc k rest (omega arith) h,
        within (max (max (depth a) (depth b)) (depth c)) k (omega arith),
      ) refl

  pub assign_reads : (a : Trees.Expression) (op : AssignOp) (i : ℕ) (b : Trees.Expression) → 14 ≤ level a → 1 ≤ level b → Reads a → Reads b
      → Assignment (Trees.assign a op i b)
  unfolding assignment_in assignment_after
  assign_reads a op i b la lb ra rb k rest d h =
      let same : pull (punctuator (assign_punctuator op) i ∷ spelled b rest) ≡ 2 = pull_assign op in
      rw (
        ra.conditional (omega arith) k (punctuator (assign_punctuator op) i ∷ spelled b rest) (omega arith) (omega arith),
        assign_again op,
        within 14 (level a) la,
        assignment_inside b rb lb k rest (omega arith) h,
        within (max (depth a) (depth b)) k (omega arith),
      ) refl

  pub comma_reads : (a : Trees.Expression) (i : ℕ) (b : Trees.Expression) → 1 ≤ level b → Reads a → Reads b → Expression (Trees.comma a i b)
  unfolding chain comma_step
  comma_reads a i b l ra rb k s rest d e h =
      ra.expression k (suc s) (punctuator M.Comma i ∷ spelled b rest) (omega arith) (omega arith) (omega arith)
      ∙ rw (assignment_inside b rb l k rest (omega arith) h, within (max (depth a) (depth b)) k (omega arith)) refl

  -- ---- all readers from the tightest

  pub by_postfix : (t : Trees.Expression) → IsExpression types t → 15 ≤ level t → spine t ≡ 0 → commas t ≡ 0 → Postfix t → Reads t
  by_postfix t w l z c p =
      let u : Unary t = unary_from_postfix t w l p in
      let q : Operand t = operand_from_unary t w (omega arith) u in
      let o : Operators t = operators_from_operand t z q in
      let n : Conditional t = conditional_from_operators t (omega arith) o in
      let a : Assignment t = assignment_from_conditional t n in
      record {
        postfix = λ _. p;
        unary = λ _. u;
        operand = λ _. q;
        operators = λ _. o;
        conditional = λ _. n;
        assignment = λ _. a;
        expression =
            expression_from_assignment t c a;
      }

  pub by_unary : (t : Trees.Expression) → IsExpression types t → level t ≡ 14 → spine t ≡ 0 → commas t ≡ 0 → Unary t → Reads t
  by_unary t w l z c u =
      let q : Operand t = operand_from_unary t w (omega arith) u in
      let o : Operators t = operators_from_operand t z q in
      let n : Conditional t = conditional_from_operators t (omega arith) o in
      let a : Assignment t = assignment_from_conditional t n in
      record {
        postfix = λ h. absurd (omega arith);
        unary = λ _. u;
        operand = λ _. q;
        operators = λ _. o;
        conditional = λ _. n;
        assignment =
            λ _. a;
        expression = expression_from_assignment t c a;
      }

  pub by_operand : (t : Trees.Expression) → level t ≡ 13 → spine t ≡ 0 → commas t ≡ 0 → Operand t → Reads t
  by_operand t l z c q =
      let o : Operators t = operators_from_operand t z q in
      let n : Conditional t = conditional_from_operators t (omega arith) o in
      let a : Assignment t = assignment_from_conditional t n in
      record {
        postfix = λ h. absurd (omega arith);
        unary = λ h. absurd (omega arith);
        operand = λ _. q;
        operators = λ _. o;
        conditional =
            λ _. n;
        assignment = λ _. a;
        expression = expression_from_assignment t c a;
      }

  pub by_operators : (t : Trees.Expression) → 3 ≤ level t → level t ≤ 12 → commas t ≡ 0 → Operators t → Reads t
  by_operators t l u c o =
      let n : Conditional t = conditional_from_operators t l o in
      let a : Assignment t = assignment_from_conditional t n in
      record {
        postfix = λ h. absurd (omega arith);
        unary = λ h. absurd (omega arith);
        operand = λ h. absurd (omega arith);
        operators =
            λ _. o;
        conditional = λ _. n;
        assignment = λ _. a;
        expression = expression_from_assignment t c a;
      }

  pub by_conditional : (t : Trees.Expression) → level t ≡ 2 → commas t ≡ 0 → Conditional t → Reads t
  by_conditional t l c n =
      let a : Assignment t = assignment_from_conditional t n in
      record {
        postfix = λ h. absurd (omega arith);
        unary = λ h. absurd (omega arith);
        operand = λ h. absurd (omega arith);
        operators =
            λ h. absurd (omega arith);
        conditional = λ _. n;
        assignment = λ _. a;
        expression = expression_from_assignment t c a;
      }

  pub by_assignment : (t : Trees.Expression) → level t ≡ 1 → commas t ≡ 0 → Assignment t → Reads t
  by_assignment t l c a = record {
    postfix = λ h. absurd (omega arith);
    unary = λ h. absurd (omega arith);
    operand =
        λ h. absurd (omega arith);
    operators = λ h. absurd (omega arith);
    conditional = λ h. absurd (omega arith);
    assignment = λ _. a;
    expression =
        expression_from_assignment t c a;
  }

  pub by_expression : (t : Trees.Expression) → level t ≡ 0 → Expression t → Reads t
  by_expression t l e = record {
    postfix = λ h. absurd (omega arith);
    unary = λ h. absurd (omega arith);
    operand =
        λ h. absurd (omega arith);
    operators = λ h. absurd (omega arith);
    conditional = λ h. absurd (omega arith);
    assignment =
        λ h. absurd (omega arith);
    expression = e;
  }
