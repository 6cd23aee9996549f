-- What is read as the items of a file is spelled so, is well formed, and has that depth.
use Rattle.std.proofs.Common.{◌≡◌, ℕ, zero, suc, ◌≤◌, max, List, [], ◌∷◌, Option, Some, None, refl, ap, ◌∙◌, arith}
use Rattle.c_tokens.specs.declared.punctuator.Punctuator.TheVariants as M
use Rattle.c_ast.specs.Trees
use Rattle.c_ast.specs.Spelling.{Lexeme, punctuator, spelled_specifiers, spelled_declarator, spelled_init_declarators, spelled_item, spelled_items}
use Rattle.c_ast.specs.WellFormed.{AreSpecifiers, types_after, IsItem, AreItems}
use Rattle.c_ast.specs.Sizes.{depth_specifiers, depth_declarator, depth_item, depth_items}
use Rattle.c_grammar.proofs.Wholeness.{AreWhole}
use Rattle.c_grammar.specs.Reading.{after, is_left_brace, is_semicolon, deeper, at}
use Rattle.c_grammar.proofs.Fronts.{bind_some, given, deeper_taken, left_brace_taken, semicolon_taken}
use Rattle.c_grammar.proofs.Taken.{Took, Reads, IsSound}
use Rattle.c_grammar.specs.StatementReading.{initial_at, declarators_after, named_in, block_in, below_at, statement_at, body_after, item_after}
use Rattle.c_grammar.specs.StatementReading.{item_in, items_in}
use Rattle.c_grammar.proofs.SoundInitializers.{initial_sound}
use Rattle.c_grammar.proofs.SoundDeclarations.{IsNamed, named_taken, after_taken}
use Rattle.c_grammar.proofs.SoundBlocks.{block_taken}
use Rattle.c_grammar.proofs.SoundStatements.{below_sound, statement_sound}

abbrev TookItem : List (List ℕ) → ℕ → List Lexeme → Trees.Item × ℕ × List Lexeme → Type 0
TookItem types k tokens y = Took spelled_item (IsItem types) depth_item (suc k) tokens y

module _ (types : List (List ℕ)) (s : (k : ℕ) → IsSound types k (at types k)) where
  -- after the specifiers and the first declarator; d is the depth of both
  body_taken : (k : ℕ) (all : List Lexeme) (specs : Trees.Specifiers) (x : Trees.Declarator) (d : ℕ) (tokens : List Lexeme) → all
      ≡ spelled_specifiers specs (spelled_declarator x tokens)
      → AreSpecifiers types specs → IsNamed types x → d ≡ max (depth_specifiers specs) (depth_declarator x) → d ≤ k → AreWhole tokens
      → (y : Trees.Item × ℕ × List Lexeme) (o : Option (ℕ × List Lexeme)) → after is_left_brace tokens ≡ o → body_after types k specs x d tokens o
      ≡ Some y → TookItem types k all y
  body_taken k all specs x d tokens spelled_so fs fx deep le w y None b h =
      let more = bind_some (declarators_after ((at types k).declarator) (initial_at types k) x 0 tokens) _ y h in
      let semicolon = bind_some (after is_semicolon more.0.2) _ y more.2 in
      let n = bind_some (deeper k (max d more.0.1)) _ y semicolon.2 in
      let p = after_taken types k (initial_at types k) (initial_sound types s k) ((at types k).declarator) ((s k).declarator)
      (spelled_declarator x tokens) x (depth_declarator x) 0 tokens refl fx (omega arith) (omega arith) w more.0 more.1 in
      let l = semicolon_taken more.0.2 p.whole semicolon.0 semicolon.1 in
      let e = deeper_taken k (max d more.0.1) n.0 n.1 in
      given (TookItem types k all) _ y n.2 (record {
        spelled_so = spelled_so ∙ ap (λ z. spelled_specifiers specs z) (p.spelled_so ∙ ap (λ z. spelled_init_declarators more.0.0 z) l.0);
        well_formed = (fs, p.well_formed);
        deep = (let f = p.deep in omega (arith, e.1, f, deep));
        within = omega (arith, e.0, e.1);
        whole = l.1;
      })
  body_taken zero all specs x d tokens spelled_so fs fx deep le w y (Some left) b h = cc
  body_taken (suc k) all specs x d tokens spelled_so fs fx deep le w y (Some left) b h =
      let body = bind_some (block_in (below_at types k (statement_at types k)) left.1) _ y h in
      let m = bind_some (deeper k body.0.1) _ y body.2 in
      let n = bind_some (deeper (suc k) (max d m.0)) _ y m.2 in
      let l = left_brace_taken tokens w left b in
      let p = block_taken k (below_at types k (statement_at types k))
      (below_sound types s k (statement_at types k) (statement_sound types s k)) left.1 l.1 body.0 body.1 in
      let e = deeper_taken k body.0.1 m.0 m.1 in
      let f = deeper_taken (suc k) (max d m.0) n.0 n.1 in
      given (TookItem types (suc k) all) _ y n.2 (record {
        spelled_so = spelled_so ∙ ap (λ z. spelled_specifiers specs (spelled_declarator x z)) (l.0 ∙ ap (λ z. punctuator M.OpenBrace left.0 ∷ z) p.spelled_so);
        well_formed = (fs, fx.0, fx.1, p.well_formed);
        deep = (let g = p.deep in omega (arith, e.1, f.1, g, deep));
        within = omega (arith, f.0, f.1);
        whole = p.whole;
      })

  after_specifiers_taken : (k : ℕ) (all : List Lexeme) (specs : Trees.Specifiers) (d : ℕ) (tokens : List Lexeme)
      → Took spelled_specifiers (AreSpecifiers types) depth_specifiers k all (specs, d, tokens)
      → (y : Trees.Item × ℕ × List Lexeme) (o : Option (ℕ × List Lexeme)) → after is_semicolon tokens ≡ o → item_after types k specs d tokens o
      ≡ Some y → TookItem types k all y
  after_specifiers_taken k all specs d tokens p y (Some semicolon) b h =
      let n = bind_some (deeper k d) _ y h in
      let l = semicolon_taken tokens p.whole semicolon b in
      let e = deeper_taken k d n.0 n.1 in
      given (TookItem types k all) _ y n.2 (record {
        spelled_so = p.spelled_so ∙ ap (λ z. spelled_specifiers specs z) l.0;
        well_formed = (p.well_formed, tt);
        deep = (let f = p.deep in omega (arith, e.1, f));
        within = omega (arith, e.0, e.1);
        whole = l.1;
      })
  after_specifiers_taken k all specs d tokens p y None b h =
      let x = bind_some (named_in ((at types k).declarator) tokens) _ y h in
      let q = named_taken types k ((at types k).declarator) ((s k).declarator) tokens p.whole x.0 x.1 in
      body_taken k all specs x.0.0 (max d x.0.1) x.0.2 (p.spelled_so ∙ ap (λ z. spelled_specifiers specs z) q.spelled_so) p.well_formed q.well_formed
      (let e = p.deep in let f = q.deep in omega (arith, e, f)) (omega (arith, p.within, q.within)) q.whole y (after is_left_brace x.0.2) refl x.2

  pub item_sound : (k : ℕ) → Reads spelled_item (IsItem types) depth_item (suc k) (item_in types k)
  unfolding item_in
  item_sound k tokens w y h =
      let specs = bind_some ((at types k).specifiers tokens) _ y h in
      let p = (s k).specifiers tokens w specs.0 specs.1 in
      after_specifiers_taken k tokens specs.0.0 specs.0.1 specs.0.2 p y (after is_semicolon specs.0.2) refl specs.2

pub items_sound : ((types : List (List ℕ)) (k : ℕ) → IsSound types k (at types k))
    → (k n : ℕ) (types : List (List ℕ)) (tokens : List Lexeme) (items : List Trees.Item)
    → AreWhole tokens → items_in k n types tokens ≡ Some items → (tokens ≡ spelled_items items []) × AreItems types items × (depth_items items ≤ suc k)
unfolding items_in
items_sound s k n types [] items w h = given (λ items. ([] ≡ spelled_items items []) × AreItems types items × (depth_items items ≤ suc k)) [] items h
    (refl, tt, omega arith)
items_sound s k zero types (t ∷ rest) items w h = cc
items_sound s k (suc n) types (t ∷ rest) items w h =
    let item = bind_some (item_in types k (t ∷ rest)) _ items h in
    let more = bind_some (items_in k n (types_after types item.0.0) item.0.2) _ items item.2 in
    let p = item_sound types (s types) k (t ∷ rest) w item.0 item.1 in
    let q = items_sound s k n (types_after types item.0.0) item.0.2 more.0 p.whole more.1 in
    given (λ items. (t ∷ rest ≡ spelled_items items []) × AreItems types items × (depth_items items ≤ suc k)) (item.0.0 ∷ more.0) items more.2
    (p.spelled_so ∙ ap (λ z. spelled_item item.0.0 z) q.0, (p.well_formed, q.1), (let e = p.deep in let f = p.within in let g = q.2 in omega (arith, e, f, g)))
