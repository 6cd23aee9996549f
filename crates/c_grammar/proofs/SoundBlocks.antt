-- What is read inside a statement is spelled so, is well formed, and has that depth: conditions, blocks, bodies of switches.
use Rattle.std.proofs.Common.{◌≡◌, ℕ, ◌+◌, max, List, [], ◌∷◌, length, Some, Bool, true, false, refl, ap, ◌∙◌, arith}
use Rattle.lay_base.specs.declared.faults.Keyword.TheVariants as W
use Rattle.c_tokens.specs.declared.punctuator.Punctuator.TheVariants as M
use Rattle.c_tokens.specs.declared.token.TokenKind.{TokenKind}
use Rattle.c_tokens.specs.declared.token.TokenKind.TheVariants as K
use Rattle.c_ast.specs.Trees
use Rattle.c_ast.specs.Spelling.{Lexeme, punctuator, keyword, spelled, spelled_declaration, spelled_if_any, spelled_labels, spelled_statement}
use Rattle.c_ast.specs.Spelling.{spelled_block_item, spelled_block_items, spelled_switch_item, spelled_switch_items}
use Rattle.c_ast.specs.WellFormed.{IsExpression, IsDeclaration, IsFullDeclaration, IsExpressionIfAny, AreLabels, is_open, IsStatement, IsBlockItem}
use Rattle.c_ast.specs.WellFormed.{AreBlockItems, IsSwitchItem, AreSwitchItems}
use Rattle.c_ast.specs.Sizes.{depth, depth_declaration, depth_if_any, depth_labels, depth_statement, depth_block_item, depth_block_items}
use Rattle.c_ast.specs.Sizes.{depth_switch_item, depth_switch_items}
use Rattle.c_ast.specs.Views.{block_items_of, switch_items_of}
use Rattle.c_grammar.proofs.Wholeness.{AreWhole}
use Rattle.c_grammar.specs.Reading.{after, fronted, is_left, is_right, is_right_brace, is_colon, begins_specifier, Reader, chain}
use Rattle.c_grammar.proofs.Fronts.{bind_some, given, chosen, lexeme, front_whole, rest_whole, left_taken, right_taken, right_brace_taken, colon_taken}
use Rattle.c_grammar.proofs.Chains.{Listing, AnyEnd, added, ended, Grows, list_taken}
use Rattle.c_grammar.proofs.Taken.{Took, Reads, ReadsExpression}
use Rattle.c_grammar.specs.StatementReading.{expression_if_any, condition_in, Below, is_else, block_item_in, block_item_step, block_in, label_of_kind}
use Rattle.c_grammar.specs.StatementReading.{label_step, labelled_in, switch_item_in, switch_item_step}
use Rattle.c_grammar.proofs.SoundInitializers.{bound}

-- y is such a statement, and no else that it could take is after it
abbrev pub TookStatement : List (List ℕ) → ℕ → List Lexeme → Trees.Statement × ℕ × List Lexeme → Type 0
TookStatement types n tokens y = Took spelled_statement (IsStatement types) depth_statement n tokens y × (is_open y.0 ≡ true → fronted is_else y.2 ≡ false)

abbrev pub ReadsStatement : List (List ℕ) → ℕ → Reader Trees.Statement → Type 0
ReadsStatement types n reader = (tokens : List Lexeme) → AreWhole tokens → (y : Trees.Statement × ℕ × List Lexeme) → reader tokens ≡ Some y
    → TookStatement types n tokens y

pub record IsSoundBelow (k : ℕ) (below : Below) : Type 0 where
  pub expression : ReadsExpression below.types 0 k below.expression
  pub conditional : ReadsExpression below.types 2 k below.conditional
  pub local : Reads spelled_declaration (IsDeclaration below.types) depth_declaration k below.local
  pub full : Reads spelled_declaration (IsFullDeclaration below.types) depth_declaration k below.full
  pub statement : ReadsStatement below.types k below.statement

-- an expression between parentheses
abbrev pub spelled_condition : ℕ × Trees.Expression × ℕ → List Lexeme → List Lexeme
spelled_condition c rest = punctuator M.Open c.0 ∷ spelled c.1 (punctuator M.Close c.2 ∷ rest)

-- entries with the place of "}"
abbrev pub spelled_block : Trees.BlockItems × ℕ → List Lexeme → List Lexeme
spelled_block b rest = spelled_block_items b.0 (punctuator M.CloseBrace b.1 ∷ rest)

-- ---- lists

abbrev block_items : List (List ℕ) → Listing Trees.BlockItem
block_items types = record {
  spelled_all = λ all rest. spelled_block_items (block_items_of all) rest;
  spelled_one = spelled_block_item;
  depth_all = λ all. depth_block_items (block_items_of all);
  depth_one = depth_block_item;
  AreAll = λ first all. AreBlockItems types (block_items_of all);
  IsOne = λ first e. IsBlockItem types e;
  spelled_none = λ rest. refl;
  spelled_more = λ e more rest. refl;
  depth_none = refl;
  depth_more = λ e more. refl;
  are_none = λ first. tt;
  are_more = λ first e more p q. (p, q);
}

abbrev switch_items : List (List ℕ) → Listing Trees.SwitchItem
switch_items types = record {
  spelled_all = λ all rest. spelled_switch_items (switch_items_of all) rest;
  spelled_one = spelled_switch_item;
  depth_all = λ all. depth_switch_items (switch_items_of all);
  depth_one = depth_switch_item;
  AreAll = λ first all. AreSwitchItems types (switch_items_of all);
  IsOne = λ first switch_item. IsSwitchItem types switch_item;
  spelled_none = λ rest. refl;
  spelled_more = λ switch_item more rest. refl;
  depth_none = refl;
  depth_more = λ switch_item more. refl;
  are_none = λ first. tt;
  are_more = λ first switch_item more p q. (p, q);
}

labels_spelled : (label : Trees.Label) (more : List Trees.Label) (rest : List Lexeme) → spelled_labels (label ∷ more) rest
    ≡ spelled_labels (label ∷ []) (spelled_labels more rest)
labels_spelled (Trees.case at a colon) more rest = refl
labels_spelled (Trees.default at colon) more rest = refl

labels_depth : (label : Trees.Label) (more : List Trees.Label) → depth_labels (label ∷ more) ≡ max (depth_labels (label ∷ [])) (depth_labels more)
labels_depth (Trees.case at a colon) more = omega arith
labels_depth (Trees.default at colon) more = omega arith

labels_fine : (types : List (List ℕ)) (label : Trees.Label) (more : List Trees.Label) → AreLabels types (label ∷ []) → AreLabels types more
    → AreLabels types (label ∷ more)
labels_fine types (Trees.case at a colon) more p q = (p.0, p.1, q)
labels_fine types (Trees.default at colon) more p q = q

abbrev labels : List (List ℕ) → Listing Trees.Label
labels types = record {
  spelled_all = spelled_labels;
  spelled_one = λ label rest. spelled_labels (label ∷ []) rest;
  depth_all = depth_labels;
  depth_one = λ label. depth_labels (label ∷ []);
  AreAll = λ first all. AreLabels types all;
  IsOne = λ first label. AreLabels types (label ∷ []);
  spelled_none = λ rest. refl;
  spelled_more = labels_spelled;
  depth_none = refl;
  depth_more = labels_depth;
  are_none = λ first. tt;
  are_more = λ first label more p q. labels_fine types label more p q;
}

module _ (k : ℕ) (below : Below) (sound : IsSoundBelow k below) where
  -- ---- expressions

  pub if_any_taken : (p : TokenKind → Bool) → Reads spelled_if_any (IsExpressionIfAny below.types) depth_if_any k (expression_if_any p below.expression)
  unfolding expression_if_any
  if_any_taken p tokens w y h =
      chosen (fronted p tokens) _ _ y (Took spelled_if_any (IsExpressionIfAny below.types) depth_if_any k tokens y) h
      (λ c h. given (Took spelled_if_any (IsExpressionIfAny below.types) depth_if_any k tokens) _ y h
      (record { spelled_so = refl; well_formed = tt; deep = refl; within = omega arith; whole = w }))
      (λ c h.
      let a = bind_some (below.expression tokens) _ y h in
      let q = sound.expression tokens w a.0 a.1 in
      given (Took spelled_if_any (IsExpressionIfAny below.types) depth_if_any k tokens) _ y a.2
      (record { spelled_so = q.spelled_so; well_formed = q.well_formed.1; deep = q.deep; within = q.within; whole = q.whole }))

  pub condition_taken : Reads spelled_condition (λ c. IsExpression below.types c.1) (λ c. depth c.1) k (condition_in below.expression)
  unfolding condition_in
  condition_taken tokens w y h =
      let P = Took spelled_condition (λ c. IsExpression below.types c.1) (λ c. depth c.1) k tokens y in
      bound (after is_left tokens) _ y P h λ left left_is h.
      bound (below.expression left.1) _ y P h λ a a_is h.
      bound (after is_right a.2) _ y P h λ right right_is h.
      let l = left_taken tokens w left left_is in
      let p = sound.expression left.1 l.1 a a_is in
      let r = right_taken a.2 p.whole right right_is in
      given (Took spelled_condition (λ c. IsExpression below.types c.1) (λ c. depth c.1) k tokens) _ y h (record {
        spelled_so = l.0 ∙ ap (λ z. punctuator M.Open left.0 ∷ z) (p.spelled_so ∙ ap (λ z. spelled a.0 z) r.0);
        well_formed = p.well_formed.1;
        deep = p.deep;
        within = p.within;
        whole = r.1;
      })

  -- ---- blocks

  block_item_taken : Reads spelled_block_item (IsBlockItem below.types) depth_block_item k (block_item_in below)
  unfolding block_item_in
  block_item_taken tokens w y h =
      chosen (begins_specifier below.types tokens) _ _ y (Took spelled_block_item (IsBlockItem below.types) depth_block_item k tokens y) h
      (λ c h.
      let d = bind_some (below.local tokens) _ y h in
      let p = sound.local tokens w d.0 d.1 in
      given (Took spelled_block_item (IsBlockItem below.types) depth_block_item k tokens) _ y d.2
      (record { spelled_so = p.spelled_so; well_formed = p.well_formed; deep = p.deep; within = p.within; whole = p.whole }))
      (λ c h.
      let a = bind_some (below.statement tokens) _ y h in
      let p = (sound.statement tokens w a.0 a.1).0 in
      given (Took spelled_block_item (IsBlockItem below.types) depth_block_item k tokens) _ y a.2
      (record { spelled_so = p.spelled_so; well_formed = p.well_formed; deep = p.deep; within = p.within; whole = p.whole }))

  block_item_step_taken : (done : List Trees.BlockItem) (d : ℕ) (tokens : List Lexeme) (r : List Trees.BlockItem × ℕ × List Lexeme × Bool)
      → AreWhole tokens → block_item_step below done d tokens ≡ Some r → Grows (block_items below.types) k AnyEnd done d tokens r
  unfolding block_item_step
  block_item_step_taken done d tokens r w h =
      chosen (fronted is_right_brace tokens) _ _ r (Grows (block_items below.types) k AnyEnd done d tokens r) h
      (λ c h. given (Grows (block_items below.types) k AnyEnd done d tokens) _ r h (ended refl refl refl, λ _. tt))
      (λ c h.
      let e = bind_some (block_item_in below tokens) _ r h in
      let p = block_item_taken tokens w e.0 e.1 in
      given (Grows (block_items below.types) k AnyEnd done d tokens) _ r e.2
      (added e.0.0 refl (ap (λ z. max d z) p.deep) p.spelled_so p.well_formed (let f = p.deep in omega (arith, f, p.within)) p.whole, λ _. tt))

  pub block_taken : Reads spelled_block (λ b. AreBlockItems below.types b.0) (λ b. depth_block_items b.0) k (block_in below)
  unfolding block_in
  block_taken tokens w y h =
      let all = bind_some (chain (block_item_step below) (length tokens + 1) [] 0 tokens) _ y h in
      let right = bind_some (after is_right_brace all.0.2) _ y all.2 in
      let p = list_taken (block_items below.types) k AnyEnd (block_item_step below) block_item_step_taken (length tokens + 1) 0
      (omega arith) tokens w all.0 all.1 in
      let r = right_brace_taken all.0.2 p.whole right.0 right.1 in
      given (Took spelled_block (λ b. AreBlockItems below.types b.0) (λ b. depth_block_items b.0) k tokens) _ y right.2 (record {
        spelled_so = p.spelled_so ∙ ap (λ z. spelled_block_items (block_items_of all.0.0) z) r.0;
        well_formed = p.well_formed;
        deep = (let e = p.deep in omega (arith, e));
        within = p.within;
        whole = r.1;
      })

  -- ---- the body of a switch

  label_kind_taken : (done : List Trees.Label) (d : ℕ) (kind : TokenKind) (from to : ℕ) (text : List ℕ) (rest : List Lexeme)
      (r : List Trees.Label × ℕ × List Lexeme × Bool)
      → AreWhole (lexeme kind from to text ∷ rest) → label_of_kind below done d (lexeme kind from to text ∷ rest) (Some kind) ≡ Some r
      → Grows (labels below.types) k AnyEnd done d (lexeme kind from to text ∷ rest) r
  label_kind_taken done d (K.Keyword W.Case) from to text rest r w h =
      let t = lexeme (K.Keyword W.Case) from to text in
      let a = bind_some (below.conditional rest) _ r h in
      let colon = bind_some (after is_colon a.0.2) _ r a.2 in
      let p = sound.conditional rest (rest_whole t rest w) a.0 a.1 in
      let c = colon_taken a.0.2 p.whole colon.0 colon.1 in
      given (Grows (labels below.types) k AnyEnd done d (t ∷ rest)) _ r colon.2 (
        added (Trees.case from a.0.0 colon.0.0) refl (let e = p.deep in omega (arith, e))
            (ap (λ t. t ∷ rest) (front_whole t rest w) ∙ ap (λ z. keyword W.Case from ∷ z) (p.spelled_so ∙ ap (λ z. spelled a.0.0 z) c.0))
            (p.well_formed.0, p.well_formed.1, tt) (let e = p.deep in omega (arith, e, p.within)) c.1,
        λ _. tt,
      )
  label_kind_taken done d (K.Keyword W.Default) from to text rest r w h =
      let t = lexeme (K.Keyword W.Default) from to text in
      let colon = bind_some (after is_colon rest) _ r h in
      let c = colon_taken rest (rest_whole t rest w) colon.0 colon.1 in
      given (Grows (labels below.types) k AnyEnd done d (t ∷ rest)) _ r colon.2 (
        added (Trees.default from colon.0.0) refl (omega arith)
            (ap (λ t. t ∷ rest) (front_whole t rest w) ∙ ap (λ z. keyword W.Default from ∷ z) c.0) tt (omega arith) c.1,
        λ _. tt,
      )
  label_kind_taken done d kind from to text rest r w h = given (Grows (labels below.types) k AnyEnd done d (lexeme kind from to text ∷ rest)) _ r h
      (ended refl refl refl, λ _. tt)

  label_step_taken : (done : List Trees.Label) (d : ℕ) (tokens : List Lexeme) (r : List Trees.Label × ℕ × List Lexeme × Bool) → AreWhole tokens
      → label_step below done d tokens ≡ Some r → Grows (labels below.types) k AnyEnd done d tokens r
  unfolding label_step
  label_step_taken done d [] r w h = given (Grows (labels below.types) k AnyEnd done d []) _ r h (ended refl refl refl, λ _. tt)
  label_step_taken done d (t ∷ rest) r w h = label_kind_taken done d t.kind t.from t.to t.text rest r w h

  labelled_taken : Reads spelled_switch_item (IsSwitchItem below.types) depth_switch_item k (labelled_in below)
  unfolding labelled_in
  labelled_taken tokens w y h =
      let all = bind_some (chain (label_step below) (length tokens + 1) [] 0 tokens) _ y h in
      let a = bind_some (below.statement all.0.2) _ y all.2 in
      let p = list_taken (labels below.types) k AnyEnd (label_step below) label_step_taken (length tokens + 1) 0 (omega arith) tokens w all.0 all.1 in
      let q = (sound.statement all.0.2 p.whole a.0 a.1).0 in
      given (Took spelled_switch_item (IsSwitchItem below.types) depth_switch_item k tokens) _ y a.2 (record {
        spelled_so = p.spelled_so ∙ ap (λ z. spelled_labels all.0.0 z) q.spelled_so;
        well_formed = (p.well_formed, q.well_formed);
        deep = (let e = p.deep in let f = q.deep in omega (arith, e, f));
        within = omega (arith, p.within, q.within);
        whole = q.whole;
      })

  switch_item_taken : Reads spelled_switch_item (IsSwitchItem below.types) depth_switch_item k (switch_item_in below)
  unfolding switch_item_in
  switch_item_taken tokens w y h =
      chosen (begins_specifier below.types tokens) _ _ y (Took spelled_switch_item (IsSwitchItem below.types) depth_switch_item k tokens y) h
      (λ c h.
      let d = bind_some (below.full tokens) _ y h in
      let p = sound.full tokens w d.0 d.1 in
      given (Took spelled_switch_item (IsSwitchItem below.types) depth_switch_item k tokens) _ y d.2
      (record { spelled_so = p.spelled_so; well_formed = p.well_formed; deep = p.deep; within = p.within; whole = p.whole }))
      (λ c h. labelled_taken tokens w y h)

  switch_item_step_taken : (done : List Trees.SwitchItem) (d : ℕ) (tokens : List Lexeme) (r : List Trees.SwitchItem × ℕ × List Lexeme × Bool)
      → AreWhole tokens → switch_item_step below done d tokens ≡ Some r → Grows (switch_items below.types) k AnyEnd done d tokens r
  unfolding switch_item_step
  switch_item_step_taken done d tokens r w h =
      chosen (fronted is_right_brace tokens) _ _ r (Grows (switch_items below.types) k AnyEnd done d tokens r) h
      (λ c h. given (Grows (switch_items below.types) k AnyEnd done d tokens) _ r h (ended refl refl refl, λ _. tt))
      (λ c h.
      let switch_item = bind_some (switch_item_in below tokens) _ r h in
      let p = switch_item_taken tokens w switch_item.0 switch_item.1 in
      given (Grows (switch_items below.types) k AnyEnd done d tokens) _ r switch_item.2
      (added switch_item.0.0 refl (ap (λ z. max d z) p.deep) p.spelled_so p.well_formed (let f = p.deep in omega (arith, f, p.within)) p.whole, λ _. tt))

  pub switch_items_taken : (n : ℕ) → Reads (λ all rest. spelled_switch_items (switch_items_of all) rest)
      (λ all. AreSwitchItems below.types (switch_items_of all)) (λ all. depth_switch_items (switch_items_of all)) k
      (λ tokens. chain (switch_item_step below) n [] 0 tokens)
  switch_items_taken n tokens w y h =
      let p = list_taken (switch_items below.types) k AnyEnd (switch_item_step below) switch_item_step_taken n 0 (omega arith) tokens w y h in
      record { spelled_so = p.spelled_so; well_formed = p.well_formed; deep = (let e = p.deep in omega (arith, e)); within = p.within; whole = p.whole }
