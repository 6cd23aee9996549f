-- What is read as a statement is spelled so, is well formed, and has that depth.
use Rattle.std.proofs.Common.{◌≡◌, ℕ, zero, suc, ◌+◌, max, List, [], ◌∷◌, length, Option, Some, None, Bool, true, false, refl, ap, sym, ◌∙◌, subst, arith, cond}
use Rattle.lay_base.specs.declared.faults.Keyword.{Keyword}
use Rattle.lay_base.specs.declared.faults.Keyword.TheVariants as W
use Rattle.c_tokens.specs.declared.punctuator.Punctuator.TheVariants as M
use Rattle.c_tokens.specs.declared.token.TokenKind.{TokenKind}
use Rattle.c_tokens.specs.declared.token.TokenKind.TheVariants as K
use Rattle.c_ast.specs.Trees
use Rattle.c_ast.specs.Spelling.{Lexeme, punctuator, keyword, spelled_if_any, spelled_for_start, spelled_statement, spelled_switch_items}
use Rattle.c_ast.specs.WellFormed.{IsExpression, IsForStart, is_open, IsStatement}
use Rattle.c_ast.specs.Sizes.{depth, depth_for_start, depth_statement}
use Rattle.c_ast.specs.Views.{switch_items_of}
use Rattle.c_grammar.proofs.Wholeness.{AreWhole}
use Rattle.c_grammar.specs.Reading.{after, fronted, is_left, is_right, is_left_brace, is_right_brace, is_semicolon, begins_specifier, Reader, deeper, chain, at}
use Rattle.c_grammar.proofs.Fronts.{bind_some, given, chosen, deeper_taken, lexeme, keyword_whole, front_whole, rest_whole, left_taken, right_taken}
use Rattle.c_grammar.proofs.Fronts.{left_brace_taken, right_brace_taken, semicolon_taken}
use Rattle.c_grammar.proofs.Taken.{Took, Reads, IsSound}
use Rattle.c_grammar.specs.StatementReading.{is_else, is_while, expression_if_any, condition_in, Below, block_in, else_after, if_in, while_in, do_in}
use Rattle.c_grammar.specs.StatementReading.{for_start_in, for_in, switch_item_step, switch_in, jump_in, return_in, evaluate_in, block_statement_in}
use Rattle.c_grammar.specs.StatementReading.{statement_of_kind, statement_in, below_at, statement_at}
use Rattle.c_grammar.proofs.SoundInitializers.{bound}
use Rattle.c_grammar.proofs.SoundDeclarations.{declaration_sound}
use Rattle.c_grammar.proofs.SoundBlocks.{TookStatement, ReadsStatement, IsSoundBelow, spelled_condition, if_any_taken, condition_taken, block_taken}
use Rattle.c_grammar.proofs.SoundBlocks.{switch_items_taken}

-- ---- else, while

keyword_taken : (p : TokenKind → Bool) (which : Keyword) → ((kind : TokenKind) → p kind ≡ true → kind ≡ K.Keyword which)
    → (tokens : List Lexeme) → AreWhole tokens → (r : ℕ × List Lexeme) → after p tokens ≡ Some r → (tokens ≡ keyword which r.0 ∷ r.1) × AreWhole r.1
keyword_taken p which f [] w r h = cc
keyword_taken p which f (t ∷ rest) w r h =
    chosen (p t.kind) _ _ r ((t ∷ rest ≡ keyword which r.0 ∷ r.1) × AreWhole r.1) h
    (λ c h. given (λ r. (t ∷ rest ≡ keyword which r.0 ∷ r.1) × AreWhole r.1) _ r h
    (ap (λ t. t ∷ rest) (keyword_whole t which (front_whole t rest w) (f t.kind c)), rest_whole t rest w))
    (λ c h. cc)

else_kind : (kind : TokenKind) → is_else kind ≡ true → kind ≡ K.Keyword W.Else
else_kind (K.Keyword W.Else) h = refl
else_kind kind h = cc

while_kind : (kind : TokenKind) → is_while kind ≡ true → kind ≡ K.Keyword W.While
while_kind (K.Keyword W.While) h = refl
while_kind kind h = cc

none_chosen : {A : Type 0} (b : Bool) (x : A) → cond b (Some x) None ≡ None → b ≡ false
none_chosen true x h = cc
none_chosen false x h = refl

none_fronted : (p : TokenKind → Bool) (tokens : List Lexeme) → after p tokens ≡ None → fronted p tokens ≡ false
none_fronted p [] h = refl
none_fronted p (t ∷ rest) h = none_chosen (p t.kind) (t.from, rest) h

not_open : (b : Bool) → (b ≡ true → true ≡ false) → b ≡ false
not_open true f = f refl
not_open false f = refl

module _ (k : ℕ) (below : Below) (sound : IsSoundBelow k below) where
  -- ---- if

  else_after_taken : (all : List Lexeme) (place : ℕ) (c : ℕ × Trees.Expression × ℕ) (one : Trees.Statement) (d : ℕ) (tokens : List Lexeme) → all
      ≡ spelled_statement (Trees.when place c.0 c.1 c.2 one) tokens
      → IsExpression below.types c.1 → IsStatement below.types one → (is_open one ≡ true → fronted is_else tokens ≡ false) → d
      ≡ max (depth c.1) (depth_statement one) → AreWhole tokens
      → (y : Trees.Statement × ℕ × List Lexeme) (o : Option (ℕ × List Lexeme)) → after is_else tokens ≡ o → else_after k below place c one d tokens o
      ≡ Some y → TookStatement below.types (suc k) all y
  else_after_taken all place c one d tokens spelled_so fc fo near deep w y None b h =
      let n = bind_some (deeper k d) _ y h in
      let e = deeper_taken k d n.0 n.1 in
      given (TookStatement below.types (suc k) all) _ y n.2 (
        record { spelled_so = spelled_so; well_formed = (fc, fo); deep = omega (arith, e.1, deep); within = omega (arith, e.0, e.1); whole = w },
        λ _. none_fronted is_else tokens b,
      )
  else_after_taken all place c one d tokens spelled_so fc fo near deep w y (Some otherwise) b h =
      let l = keyword_taken is_else W.Else else_kind tokens w otherwise b in
      let other = bind_some (below.statement otherwise.1) _ y h in
      let n = bind_some (deeper k (max d other.0.1)) _ y other.2 in
      let q = sound.statement otherwise.1 l.1 other.0 other.1 in
      let e = deeper_taken k (max d other.0.1) n.0 n.1 in
      let closed : is_open one ≡ false = not_open (is_open one) (λ o. sym (ap (λ z. fronted is_else z) l.0) ∙ near o) in
      given (TookStatement below.types (suc k) all) _ y n.2 (
        record {
          spelled_so = spelled_so ∙ ap (λ z. spelled_statement (Trees.when place c.0 c.1 c.2 one) z) (l.0
              ∙ ap (λ z. keyword W.Else otherwise.0 ∷ z) q.0.spelled_so);
          well_formed = (closed, fc, fo, q.0.well_formed);
          deep = (let f = q.0.deep in omega (arith, e.1, deep, f));
          within = omega (arith, e.0, e.1);
          whole = q.0.whole;
        },
        q.1,
      )

  if_taken : (place : ℕ) (tokens : List Lexeme) → AreWhole tokens → (y : Trees.Statement × ℕ × List Lexeme) → if_in k below place tokens ≡ Some y
      → TookStatement below.types (suc k) (keyword W.If place ∷ tokens) y
  unfolding if_in
  if_taken place tokens w y h =
      let c = bind_some (condition_in below.expression tokens) _ y h in
      let one = bind_some (below.statement c.0.2) _ y c.2 in
      let p = condition_taken k below sound tokens w c.0 c.1 in
      let q = sound.statement c.0.2 p.whole one.0 one.1 in
      else_after_taken (keyword W.If place ∷ tokens) place c.0.0 one.0.0 (max c.0.1 one.0.1) one.0.2
      (ap (λ z. keyword W.If place ∷ z) (p.spelled_so ∙ ap (λ z. spelled_condition c.0.0 z) q.0.spelled_so)) p.well_formed q.0.well_formed q.1
      (let e = p.deep in let f = q.0.deep in omega (arith, e, f)) q.0.whole y (after is_else one.0.2) refl one.2

  -- ---- loops

  while_taken : (place : ℕ) (tokens : List Lexeme) → AreWhole tokens → (y : Trees.Statement × ℕ × List Lexeme) → while_in k below place tokens
      ≡ Some y → TookStatement below.types (suc k) (keyword W.While place ∷ tokens) y
  unfolding while_in
  while_taken place tokens w y h =
      let c = bind_some (condition_in below.expression tokens) _ y h in
      let body = bind_some (below.statement c.0.2) _ y c.2 in
      let d = bind_some (deeper k (max c.0.1 body.0.1)) _ y body.2 in
      let p = condition_taken k below sound tokens w c.0 c.1 in
      let q = sound.statement c.0.2 p.whole body.0 body.1 in
      let n = deeper_taken k (max c.0.1 body.0.1) d.0 d.1 in
      given (TookStatement below.types (suc k) (keyword W.While place ∷ tokens)) _ y d.2 (
        record {
          spelled_so = ap (λ z. keyword W.While place ∷ z) (p.spelled_so ∙ ap (λ z. spelled_condition c.0.0 z) q.0.spelled_so);
          well_formed = (p.well_formed, q.0.well_formed);
          deep = (let e = p.deep in let f = q.0.deep in omega (arith, n.1, e, f));
          within = omega (arith, n.0, n.1);
          whole = q.0.whole;
        },
        q.1,
      )

  do_taken : (place : ℕ) (tokens : List Lexeme) → AreWhole tokens → (y : Trees.Statement × ℕ × List Lexeme) → do_in k below place tokens ≡ Some y
      → TookStatement below.types (suc k) (keyword W.Do place ∷ tokens) y
  unfolding do_in
  do_taken place tokens w y h =
      let body = bind_some (below.statement tokens) _ y h in
      let while = bind_some (after is_while body.0.2) _ y body.2 in
      let c = bind_some (condition_in below.expression while.0.1) _ y while.2 in
      let semicolon = bind_some (after is_semicolon c.0.2) _ y c.2 in
      let d = bind_some (deeper k (max body.0.1 c.0.1)) _ y semicolon.2 in
      let q = (sound.statement tokens w body.0 body.1).0 in
      let l = keyword_taken is_while W.While while_kind body.0.2 q.whole while.0 while.1 in
      let p = condition_taken k below sound while.0.1 l.1 c.0 c.1 in
      let s = semicolon_taken c.0.2 p.whole semicolon.0 semicolon.1 in
      let n = deeper_taken k (max body.0.1 c.0.1) d.0 d.1 in
      given (TookStatement below.types (suc k) (keyword W.Do place ∷ tokens)) _ y d.2 (
        record {
          spelled_so = ap (λ z. keyword W.Do place ∷ z) (q.spelled_so
              ∙ ap (λ z. spelled_statement body.0.0 z) (l.0 ∙ ap (λ z. keyword W.While while.0.0 ∷ z) (p.spelled_so
              ∙ ap (λ z. spelled_condition c.0.0 z) s.0)));
          well_formed = (q.well_formed, p.well_formed);
          deep = (let e = p.deep in let f = q.deep in omega (arith, n.1, e, f));
          within = omega (arith, n.0, n.1);
          whole = s.1;
        },
        λ o. cc,
      )

  for_start_taken : Reads spelled_for_start (IsForStart below.types) depth_for_start k (for_start_in below)
  unfolding for_start_in
  for_start_taken tokens w y h =
      chosen (begins_specifier below.types tokens) _ _ y (Took spelled_for_start (IsForStart below.types) depth_for_start k tokens y) h
      (λ c h.
      let d = bind_some (below.full tokens) _ y h in
      let p = sound.full tokens w d.0 d.1 in
      given (Took spelled_for_start (IsForStart below.types) depth_for_start k tokens) _ y d.2
      (record { spelled_so = p.spelled_so; well_formed = p.well_formed; deep = p.deep; within = p.within; whole = p.whole }))
      (λ c h.
      let a = bind_some (expression_if_any is_semicolon below.expression tokens) _ y h in
      let semicolon = bind_some (after is_semicolon a.0.2) _ y a.2 in
      let p = if_any_taken k below sound is_semicolon tokens w a.0 a.1 in
      let s = semicolon_taken a.0.2 p.whole semicolon.0 semicolon.1 in
      given (Took spelled_for_start (IsForStart below.types) depth_for_start k tokens) _ y semicolon.2
      (record { spelled_so = p.spelled_so ∙ ap (λ z. spelled_if_any a.0.0 z) s.0; well_formed = p.well_formed; deep = p.deep; within = p.within; whole = s.1 }))

  for_taken : (place : ℕ) (tokens : List Lexeme) → AreWhole tokens → (y : Trees.Statement × ℕ × List Lexeme) → for_in k below place tokens ≡ Some y
      → TookStatement below.types (suc k) (keyword W.For place ∷ tokens) y
  unfolding for_in
  for_taken place tokens w y h =
      let P = TookStatement below.types (suc k) (keyword W.For place ∷ tokens) y in
      bound (after is_left tokens) _ y P h λ left left_is h.
      bound (for_start_in below left.1) _ y P h λ start start_is h.
      bound (expression_if_any is_semicolon below.expression start.2) _ y P h λ test test_is h.
      bound (after is_semicolon test.2) _ y P h λ semicolon semicolon_is h.
      bound (expression_if_any is_right below.expression semicolon.1) _ y P h λ step step_is h.
      bound (after is_right step.2) _ y P h λ right right_is h.
      bound (below.statement right.1) _ y P h λ body body_is h.
      bound (deeper k (max (max (max start.1 test.1) step.1) body.1)) _ y P h λ d d_is h.
      let l = left_taken tokens w left left_is in
      let p = for_start_taken left.1 l.1 start start_is in
      let t = if_any_taken k below sound is_semicolon start.2 p.whole test test_is in
      let s = semicolon_taken test.2 t.whole semicolon semicolon_is in
      let u = if_any_taken k below sound is_right semicolon.1 s.1 step step_is in
      let r = right_taken step.2 u.whole right right_is in
      let q = sound.statement right.1 r.1 body body_is in
      let n = deeper_taken k (max (max (max start.1 test.1) step.1) body.1) d d_is in
      given (TookStatement below.types (suc k) (keyword W.For place ∷ tokens)) _ y h (
        record {
          spelled_so = ap (λ z. keyword W.For place ∷ z) (l.0
              ∙ ap (λ z. punctuator M.Open left.0 ∷ z) (p.spelled_so ∙ ap (λ z. spelled_for_start start.0 z) (t.spelled_so ∙ ap (λ z. spelled_if_any test.0 z)
              (s.0 ∙ ap (λ z. punctuator M.Semicolon semicolon.0 ∷ z) (u.spelled_so
              ∙ ap (λ z. spelled_if_any step.0 z) (r.0 ∙ ap (λ z. punctuator M.Close right.0 ∷ z) q.0.spelled_so))))));
          well_formed = (p.well_formed, t.well_formed, u.well_formed, q.0.well_formed);
          deep = (let a = p.deep in let b = t.deep in let e = u.deep in let f = q.0.deep in omega (arith, n.1, a, b, e, f));
          within = omega (arith, n.0, n.1);
          whole = q.0.whole;
        },
        q.1,
      )

  -- ---- switch

  switch_taken : (place : ℕ) (tokens : List Lexeme) → AreWhole tokens → (y : Trees.Statement × ℕ × List Lexeme) → switch_in k below place tokens
      ≡ Some y → TookStatement below.types (suc k) (keyword W.Switch place ∷ tokens) y
  unfolding switch_in
  switch_taken place tokens w y h =
      let c = bind_some (condition_in below.expression tokens) _ y h in
      let begin = bind_some (after is_left_brace c.0.2) _ y c.2 in
      let all = bind_some (chain (switch_item_step below) (length begin.0.1 + 1) [] 0 begin.0.1) _ y begin.2 in
      let end = bind_some (after is_right_brace all.0.2) _ y all.2 in
      let d = bind_some (deeper k (max c.0.1 all.0.1)) _ y end.2 in
      let p = condition_taken k below sound tokens w c.0 c.1 in
      let b = left_brace_taken c.0.2 p.whole begin.0 begin.1 in
      let q = switch_items_taken k below sound (length begin.0.1 + 1) begin.0.1 b.1 all.0 all.1 in
      let r = right_brace_taken all.0.2 q.whole end.0 end.1 in
      let n = deeper_taken k (max c.0.1 all.0.1) d.0 d.1 in
      given (TookStatement below.types (suc k) (keyword W.Switch place ∷ tokens)) _ y d.2 (
        record {
          spelled_so = ap (λ z. keyword W.Switch place ∷ z) (p.spelled_so
              ∙ ap (λ z. spelled_condition c.0.0 z) (b.0 ∙ ap (λ z. punctuator M.OpenBrace begin.0.0 ∷ z) (q.spelled_so
              ∙ ap (λ z. spelled_switch_items (switch_items_of all.0.0) z) r.0)));
          well_formed = (p.well_formed, q.well_formed);
          deep = (let e = p.deep in let f = q.deep in omega (arith, n.1, e, f));
          within = omega (arith, n.0, n.1);
          whole = r.1;
        },
        λ o. cc,
      )

  -- ---- jumps, expressions, blocks

  -- `before` stands before the semicolon
  jump_taken : (before : Lexeme) (made : ℕ → Trees.Statement)
      → ((semicolon : ℕ) (rest : List Lexeme) → spelled_statement (made semicolon) rest ≡ before ∷ punctuator M.Semicolon semicolon ∷ rest)
      → ((semicolon : ℕ) → IsStatement below.types (made semicolon) × (depth_statement (made semicolon) ≡ 1) × (is_open (made semicolon) ≡ false))
      → (tokens : List Lexeme) → AreWhole tokens → (y : Trees.Statement × ℕ × List Lexeme) → jump_in made tokens ≡ Some y
      → TookStatement below.types (suc k) (before ∷ tokens) y
  unfolding jump_in
  jump_taken before made spells f tokens w y h =
      let semicolon = bind_some (after is_semicolon tokens) _ y h in
      let s = semicolon_taken tokens w semicolon.0 semicolon.1 in
      let g = f semicolon.0.0 in
      given (TookStatement below.types (suc k) (before ∷ tokens)) _ y semicolon.2 (
        record {
          spelled_so = ap (λ z. before ∷ z) s.0 ∙ sym (spells semicolon.0.0 semicolon.0.1);
          well_formed = g.0;
          deep = sym g.1;
          within =
              omega arith;
          whole = s.1;
        },
        λ o. (let e = g.2 in cc),
      )

  return_taken : (place : ℕ) (tokens : List Lexeme) → AreWhole tokens → (y : Trees.Statement × ℕ × List Lexeme) → return_in k below place tokens
      ≡ Some y → TookStatement below.types (suc k) (keyword W.Return place ∷ tokens) y
  unfolding return_in
  return_taken place tokens w y h =
      let a = bind_some (expression_if_any is_semicolon below.expression tokens) _ y h in
      let semicolon = bind_some (after is_semicolon a.0.2) _ y a.2 in
      let d = bind_some (deeper k a.0.1) _ y semicolon.2 in
      let p = if_any_taken k below sound is_semicolon tokens w a.0 a.1 in
      let s = semicolon_taken a.0.2 p.whole semicolon.0 semicolon.1 in
      let n = deeper_taken k a.0.1 d.0 d.1 in
      given (TookStatement below.types (suc k) (keyword W.Return place ∷ tokens)) _ y d.2 (
        record {
          spelled_so = ap (λ z. keyword W.Return place ∷ z) (p.spelled_so ∙ ap (λ z. spelled_if_any a.0.0 z) s.0);
          well_formed = p.well_formed;
          deep = (let e = p.deep in omega (arith, n.1, e));
          within = omega (arith, n.0, n.1);
          whole = s.1;
        },
        λ o. cc,
      )

  evaluate_taken : (tokens : List Lexeme) → AreWhole tokens → (y : Trees.Statement × ℕ × List Lexeme) → evaluate_in k below tokens ≡ Some y
      → TookStatement below.types (suc k) tokens y
  unfolding evaluate_in
  evaluate_taken tokens w y h =
      let a = bind_some (expression_if_any is_semicolon below.expression tokens) _ y h in
      let semicolon = bind_some (after is_semicolon a.0.2) _ y a.2 in
      let d = bind_some (deeper k a.0.1) _ y semicolon.2 in
      let p = if_any_taken k below sound is_semicolon tokens w a.0 a.1 in
      let s = semicolon_taken a.0.2 p.whole semicolon.0 semicolon.1 in
      let n = deeper_taken k a.0.1 d.0 d.1 in
      given (TookStatement below.types (suc k) tokens) _ y d.2 (
        record {
          spelled_so = p.spelled_so ∙ ap (λ z. spelled_if_any a.0.0 z) s.0;
          well_formed = p.well_formed;
          deep = (let e = p.deep in omega (arith, n.1, e));
          within = omega (arith, n.0, n.1);
          whole = s.1;
        },
        λ o. cc,
      )

  block_statement_taken : (left : ℕ) (tokens : List Lexeme) → AreWhole tokens → (y : Trees.Statement × ℕ × List Lexeme)
      → block_statement_in k below left tokens ≡ Some y → TookStatement below.types (suc k) (punctuator M.OpenBrace left ∷ tokens) y
  unfolding block_statement_in
  block_statement_taken left tokens w y h =
      let b = bind_some (block_in below tokens) _ y h in
      let d = bind_some (deeper k b.0.1) _ y b.2 in
      let p = block_taken k below sound tokens w b.0 b.1 in
      let n = deeper_taken k b.0.1 d.0 d.1 in
      given (TookStatement below.types (suc k) (punctuator M.OpenBrace left ∷ tokens)) _ y d.2 (
        record {
          spelled_so = ap (λ z. punctuator M.OpenBrace left ∷ z) p.spelled_so;
          well_formed = p.well_formed;
          deep = (let e = p.deep in omega (arith, n.1, e));
          within = omega (arith, n.0, n.1);
          whole = p.whole;
        },
        λ o. cc,
      )

  -- ---- a statement by its first token

  by_keyword : (which : Keyword) (from to : ℕ) (text : List ℕ) (rest : List Lexeme) → AreWhole (lexeme (K.Keyword which) from to text ∷ rest)
      → (y : Trees.Statement × ℕ × List Lexeme)
      → (AreWhole rest → TookStatement below.types (suc k) (keyword which from ∷ rest) y)
      → TookStatement below.types (suc k) (lexeme (K.Keyword which) from to text ∷ rest) y
  by_keyword which from to text rest w y f =
      let t = lexeme (K.Keyword which) from to text in
      subst (λ t. TookStatement below.types (suc k) (t ∷ rest) y) (sym (front_whole t rest w)) (f (rest_whole t rest w))

  kind_taken : (kind : TokenKind) (from to : ℕ) (text : List ℕ) (rest : List Lexeme) → AreWhole (lexeme kind from to text ∷ rest)
      → (y : Trees.Statement × ℕ × List Lexeme)
      → statement_of_kind k below (lexeme kind from to text ∷ rest) kind ≡ Some y → TookStatement below.types (suc k) (lexeme kind from to text ∷ rest) y
  kind_taken (K.Keyword W.If) from to text rest w y h = by_keyword W.If from to text rest w y (λ v. if_taken from rest v y h)
  kind_taken (K.Keyword W.While) from to text rest w y h = by_keyword W.While from to text rest w y (λ v. while_taken from rest v y h)
  kind_taken (K.Keyword W.Do) from to text rest w y h = by_keyword W.Do from to text rest w y (λ v. do_taken from rest v y h)
  kind_taken (K.Keyword W.For) from to text rest w y h = by_keyword W.For from to text rest w y (λ v. for_taken from rest v y h)
  kind_taken (K.Keyword W.Switch) from to text rest w y h = by_keyword W.Switch from to text rest w y (λ v. switch_taken from rest v y h)
  kind_taken (K.Keyword W.Break) from to text rest w y h = by_keyword W.Break from to text rest w y
      (λ v. jump_taken (keyword W.Break from) (Trees.break from) (λ s rest. refl) (λ s. (tt, refl, refl)) rest v y h)
  kind_taken (K.Keyword W.Continue) from to text rest w y h =
      by_keyword W.Continue from to text rest w y (λ v. jump_taken (keyword W.Continue from) (Trees.continue from) (λ s rest. refl)
      (λ s. (tt, refl, refl)) rest v y h)
  kind_taken (K.Keyword W.Return) from to text rest w y h = by_keyword W.Return from to text rest w y (λ v. return_taken from rest v y h)
  kind_taken (K.Punctuator M.OpenBrace) from to text rest w y h =
      let t = lexeme (K.Punctuator M.OpenBrace) from to text in
      let b = left_brace_taken (t ∷ rest) w (from, rest) refl in
      subst (λ z. TookStatement below.types (suc k) z y) (sym b.0) (block_statement_taken from rest b.1 y h)
  kind_taken kind from to text rest w y h = evaluate_taken (lexeme kind from to text ∷ rest) w y h

  statement_taken : (tokens : List Lexeme) → AreWhole tokens → (y : Trees.Statement × ℕ × List Lexeme) → statement_in k below tokens ≡ Some y
      → TookStatement below.types (suc k) tokens y
  unfolding statement_in
  statement_taken [] w y h = cc
  statement_taken (t ∷ rest) w y h = kind_taken t.kind t.from t.to t.text rest w y h

pub below_sound : (types : List (List ℕ)) → ((k : ℕ) → IsSound types k (at types k)) → (k : ℕ) (statement : Reader Trees.Statement)
    → ReadsStatement types k statement → IsSoundBelow k (below_at types k statement)
below_sound types s k statement a = record {
  expression = (s k).expression;
  conditional = (s k).conditional;
  local = declaration_sound false types s k;
  full = declaration_sound true types s k;
  statement = a;
}

pub statement_sound : (types : List (List ℕ)) → ((k : ℕ) → IsSound types k (at types k)) → (k : ℕ) → ReadsStatement types k (statement_at types k)
statement_sound types s zero tokens w y h = cc
statement_sound types s (suc k) tokens w y h = statement_taken k (below_at types k (statement_at types k))
    (below_sound types s k (statement_at types k) (statement_sound types s k)) tokens w y h
