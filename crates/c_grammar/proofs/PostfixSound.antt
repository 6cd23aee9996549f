-- Type names, primary and postfix expressions: what is read is spelled so.
use Rattle.std.proofs.Common.{◌≡◌, ℕ, suc, ◌+◌, ◌≤◌, max, List, [], ◌∷◌, length, Option, Some, Bool, true, false, refl, ap, ◌∙◌, arith}
use Rattle.c_tokens.specs.declared.punctuator.Punctuator.{Punctuator as Punctuator}
use Rattle.c_tokens.specs.declared.punctuator.Punctuator.TheVariants as M
use Rattle.c_tokens.specs.declared.token.TokenKind.{TokenKind}
use Rattle.c_tokens.specs.declared.token.TokenKind.TheVariants as K
use Rattle.c_ast.specs.declared.words.Spelling.{Spelling}
use Rattle.c_ast.specs.declared.operators.StepOp.{StepOp}
use Rattle.c_ast.specs.declared.operators.StepOp.TheVariants as P
use Rattle.c_ast.specs.Trees
use Rattle.c_ast.specs.Spelling.{Lexeme, punctuator, word, step_punctuator, spelled, spelled_comma, spelled_texts, spelled_type_name}
use Rattle.c_ast.specs.Spelling.{spelled_specifiers, spelled_arguments}
use Rattle.c_ast.specs.WellFormed.{level, has_name, is_typename, IsComma, IsExpression, IsTypeName, AreArguments}
use Rattle.c_ast.specs.Sizes.{depth, depth_type_name, depth_arguments}
use Rattle.c_ast.specs.Views.{arguments_of}
use Rattle.c_grammar.proofs.Wholeness.{AreWhole}
use Rattle.c_grammar.specs.Reading.{Inner, fronted, is_right, spelling_of, type_name_in, enclosed_type_name_in, text_in, texts_in, paren_in}
use Rattle.c_grammar.specs.Reading.{primary_in, argument_in, arguments_in, index_in, call_in, dot_in, arrow_in, stepped_in, going_on, postfix_step}
use Rattle.c_grammar.specs.Reading.{postfix_in}
use Rattle.c_grammar.proofs.Fronts.{bind_taken, given, chosen, deeper_taken, lexeme, front_whole, rest_whole, left_taken, right_taken}
use Rattle.c_grammar.proofs.Fronts.{right_square_taken, any_name_taken, comma_before_taken}
use Rattle.c_grammar.proofs.Chains.{Goes, chain_taken, Listing, added, ended, Grows, list_taken, AnyEnd}
use Rattle.c_grammar.proofs.Taken.{Took, Reads, took_before, TookExpression, ReadsExpression, looser, IsSound}

-- ---- string literals

abbrev texts_listing : Listing Spelling
texts_listing = record {
  spelled_all = spelled_texts;
  spelled_one = λ x rest. word K.Text x ∷ rest;
  depth_all = λ all. 0;
  depth_one = λ x. 0;
  AreAll = λ first all. Unit {0};
  IsOne = λ first x. Unit {0};
  spelled_none = λ rest. refl;
  spelled_more = λ x more rest. refl;
  depth_none = refl;
  depth_more = λ x more. refl;
  are_none = λ first. tt;
  are_more = λ first x more i w. tt;
}

abbrev is_text : TokenKind → Bool
is_text K.Text = true
is_text _ = false

abbrev NoText : List Spelling → List Lexeme → Type 0
NoText all rest = fronted is_text rest ≡ false

text_of_kind : (n : ℕ) (done : List Spelling) (d : ℕ) (kind : TokenKind) (from to : ℕ) (text : List ℕ) (rest : List Lexeme)
    (r : List Spelling × ℕ × List Lexeme × Bool) → AreWhole (lexeme kind from to text ∷ rest)
    → text_in done d (lexeme kind from to text ∷ rest) ≡ Some r → Grows texts_listing n NoText done d (lexeme kind from to text ∷ rest) r
unfolding text_in
text_of_kind n done d K.Text from to text rest r w h =
    given (Grows texts_listing n NoText done d (lexeme K.Text from to text ∷ rest)) _ r h
    (added (spelling_of (lexeme K.Text from to text)) refl (omega arith) refl tt (omega arith) (rest_whole (lexeme K.Text from to text) rest w), λ e. cc)
text_of_kind n done d kind from to text rest r w h =
    given (Grows texts_listing n NoText done d (lexeme kind from to text ∷ rest)) _ r h (ended refl refl refl, λ e. refl)

text_step : (n : ℕ) (done : List Spelling) (d : ℕ) (tokens : List Lexeme) (r : List Spelling × ℕ × List Lexeme × Bool) → AreWhole tokens
    → text_in done d tokens ≡ Some r → Grows texts_listing n NoText done d tokens r
unfolding text_in
text_step n done d [] r w h = given (Grows texts_listing n NoText done d []) _ r h (ended refl refl refl, λ e. refl)
text_step n done d (t ∷ rest) r w h = text_of_kind n done d t.kind t.from t.to t.text rest r w h

-- ---- arguments

abbrev arguments_listing : List (List ℕ) → Listing (Option ℕ × Trees.Expression)
arguments_listing types = record {
  spelled_all = λ all rest. spelled_arguments (arguments_of all) rest;
  spelled_one = λ a rest. spelled_comma a.0 (spelled a.1 rest);
  depth_all = λ all. depth_arguments (arguments_of all);
  depth_one = λ a. depth a.1;
  AreAll = λ first all. AreArguments types first (arguments_of all);
  IsOne = λ first a. IsComma first a.0 × (1 ≤ level a.1) × IsExpression types a.1;
  spelled_none = λ rest. refl;
  spelled_more = λ a more rest. refl;
  depth_none = refl;
  depth_more = λ a more. refl;
  are_none = λ first. tt;
  are_more = λ first a more i w. (i.0, i.1, i.2, w);
}

-- arguments with the place of the ")" after them
abbrev spelled_call : Trees.Arguments × ℕ → List Lexeme → List Lexeme
spelled_call all rest = spelled_arguments all.0 (punctuator M.Close all.1 ∷ rest)

-- a type name in parentheses
abbrev spelled_enclosed : ℕ × Trees.TypeName × ℕ → List Lexeme → List Lexeme
spelled_enclosed t rest = punctuator M.Open t.0 ∷ spelled_type_name t.1 (punctuator M.Close t.2 ∷ rest)

module _ (types : List (List ℕ)) (k : ℕ) (inner : Inner) (sound : IsSound types k inner) where
  -- ---- type names

  type_name_reads : Reads spelled_type_name (IsTypeName types) depth_type_name k (type_name_in inner)
  unfolding type_name_in
  type_name_reads tokens w y h =
      let specs = bind_taken _ (sound.specifiers tokens w) h in
      let d = bind_taken _ (sound.declarator specs.0.2 specs.1.whole) specs.2 in
      chosen (has_name d.0.0) _ _ y (Took spelled_type_name (IsTypeName types) depth_type_name k tokens y) d.2
      (λ c h. cc)
      (λ c h. given (Took spelled_type_name (IsTypeName types) depth_type_name k tokens) _ y h (record {
        spelled_so = specs.1.spelled_so ∙ ap (λ z. spelled_specifiers specs.0.0 z) d.1.spelled_so;
        well_formed = (specs.1.well_formed, d.1.well_formed, c);
        deep = omega (arith, specs.1.deep, d.1.deep);
        within = omega (arith, specs.1.within, d.1.within);
        whole = d.1.whole;
      }))

  pub enclosed_type_name_reads : Reads spelled_enclosed (λ t. IsTypeName types t.1) (λ t. depth_type_name t.1) k (enclosed_type_name_in inner)
  unfolding enclosed_type_name_in
  enclosed_type_name_reads tokens w y h =
      let left = bind_taken _ (left_taken tokens w) h in
      let t = bind_taken _ (type_name_reads left.0.1 left.1.1) left.2 in
      let right = bind_taken _ (right_taken t.0.2 t.1.whole) t.2 in
      given (Took spelled_enclosed (λ t. IsTypeName types t.1) (λ t. depth_type_name t.1) k tokens) _ y right.2 (record {
        spelled_so = left.1.0 ∙ ap (λ z. punctuator M.Open left.0.0 ∷ z) (t.1.spelled_so ∙ ap (λ z. spelled_type_name t.0.0 z) right.1.0);
        well_formed = t.1.well_formed;
        deep = t.1.deep;
        within = t.1.within;
        whole = right.1.1;
      })

  -- ---- primary expressions

  texts_reads : (from to : ℕ) (text : List ℕ) (rest : List Lexeme) → AreWhole (lexeme K.Text from to text ∷ rest)
      → (y : Trees.Expression × ℕ × List Lexeme) → texts_in (lexeme K.Text from to text ∷ rest) ≡ Some y
      → TookExpression types 16 (suc k) (lexeme K.Text from to text ∷ rest) y
  unfolding texts_in
  texts_reads from to text rest w y h =
      let all = bind_taken _ (list_taken texts_listing (suc k) NoText text_in (text_step (suc k)) (length (lexeme K.Text from to text ∷ rest) + 1) 1
      (omega arith) (lexeme K.Text from to text ∷ rest) w) h in
      given (TookExpression types 16 (suc k) (lexeme K.Text from to text ∷ rest)) _ y all.2 (record {
        spelled_so = all.1.spelled_so;
        well_formed = (
          omega arith,
          λ e. let f : true ≡ false = ap (λ z. fronted is_text z) (all.1.spelled_so ∙ ap (λ z. spelled_texts z all.0.2) e)
              ∙ all.1.ends in cc,
        );
        deep = omega (arith, all.1.deep);
        within = all.1.within;
        whole = all.1.whole;
      })

  paren_reads : ReadsExpression types 16 (suc k) (paren_in k inner)
  unfolding paren_in
  paren_reads tokens w y h =
      let left = bind_taken _ (left_taken tokens w) h in
      let a = bind_taken _ (sound.expression left.0.1 left.1.1) left.2 in
      let right = bind_taken _ (right_taken a.0.2 a.1.whole) a.2 in
      let d = bind_taken _ (deeper_taken k a.0.1) right.2 in
      given (TookExpression types 16 (suc k) tokens) _ y d.2 (record {
        spelled_so = left.1.0 ∙ ap (λ z. punctuator M.Open left.0.0 ∷ z) (a.1.spelled_so ∙ ap (λ z. spelled a.0.0 z) right.1.0);
        well_formed = (omega arith, a.1.well_formed.1);
        deep = omega (arith, d.1.1, a.1.deep);
        within = omega (arith, d.1.0, d.1.1);
        whole = right.1.1;
      })

  primary_of_kind : (kind : TokenKind) (from to : ℕ) (text : List ℕ) (rest : List Lexeme) → AreWhole (lexeme kind from to text ∷ rest)
      → (y : Trees.Expression × ℕ × List Lexeme) → primary_in types k inner (lexeme kind from to text ∷ rest) ≡ Some y
      → TookExpression types 16 (suc k) (lexeme kind from to text ∷ rest) y
  unfolding primary_in
  primary_of_kind K.Name from to text rest w y h =
      chosen (is_typename types text) _ _ y (TookExpression types 16 (suc k) (lexeme K.Name from to text ∷ rest) y) h
      (λ c h. cc)
      (λ c h. given (TookExpression types 16 (suc k) (lexeme K.Name from to text ∷ rest)) _ y h
      (record {
        spelled_so = refl;
        well_formed = (omega arith, c);
        deep = refl;
        within = omega arith;
        whole =
            rest_whole (lexeme K.Name from to text) rest w;
      }))
  primary_of_kind K.Text from to text rest w y h = texts_reads from to text rest w y h
  primary_of_kind (K.Punctuator M.Open) from to text rest w y h = paren_reads (lexeme (K.Punctuator M.Open) from to text ∷ rest) w y h
  primary_of_kind (K.Number n kind) from to text rest w y h =
      given (TookExpression types 16 (suc k) (lexeme (K.Number n kind) from to text ∷ rest)) _ y h
      (record {
        spelled_so = refl;
        well_formed = (omega arith, tt);
        deep = refl;
        within = omega arith;
        whole =
            rest_whole (lexeme (K.Number n kind) from to text) rest w;
      })
  primary_of_kind (K.Character n) from to text rest w y h =
      given (TookExpression types 16 (suc k) (lexeme (K.Character n) from to text ∷ rest)) _ y h
      (record {
        spelled_so = refl;
        well_formed = (omega arith, tt);
        deep = refl;
        within = omega arith;
        whole =
            rest_whole (lexeme (K.Character n) from to text) rest w;
      })
  primary_of_kind kind from to text rest w y h = cc

  primary_reads : ReadsExpression types 16 (suc k) (primary_in types k inner)
  unfolding primary_in
  primary_reads [] w y h = cc
  primary_reads (t ∷ rest) w y h = primary_of_kind t.kind t.from t.to t.text rest w y h

  -- ---- postfix expressions

  argument_step : (done : List (Option ℕ × Trees.Expression)) (d : ℕ) (tokens : List Lexeme)
      (r : List (Option ℕ × Trees.Expression) × ℕ × List Lexeme × Bool) → AreWhole tokens → argument_in inner done d tokens ≡ Some r
      → Grows (arguments_listing types) k AnyEnd done d tokens r
  unfolding argument_in
  argument_step done d tokens r w h =
      chosen (fronted is_right tokens) _ _ r (Grows (arguments_listing types) k AnyEnd done d tokens r) h
      (λ _ h. given (Grows (arguments_listing types) k AnyEnd done d tokens) _ r h (ended refl refl refl, λ _. tt))
      (λ _ h.
      let c = bind_taken _ (comma_before_taken done tokens w) h in
      let a = bind_taken _ (sound.assignment c.0.1 c.1.2) c.2 in
      given (Grows (arguments_listing types) k AnyEnd done d tokens) _ r a.2 (
        added (c.0.0, a.0.0) refl (ap (λ z. max d z) a.1.deep) (c.1.0 ∙ ap (λ z. spelled_comma c.0.0 z) a.1.spelled_so)
            (c.1.1, a.1.well_formed.0, a.1.well_formed.1) (omega (arith, a.1.deep, a.1.within)) a.1.whole,
        λ _. tt,
      ))

  arguments_reads : Reads spelled_call (λ all. AreArguments types true all.0) (λ all. depth_arguments all.0) k (arguments_in inner)
  unfolding arguments_in
  arguments_reads tokens w y h =
      let all = bind_taken _ (list_taken (arguments_listing types) k AnyEnd (argument_in inner) argument_step (length tokens + 1) 0 (omega arith) tokens w) h in
      let right = bind_taken _ (right_taken all.0.2 all.1.whole) all.2 in
      given (Took spelled_call (λ all. AreArguments types true all.0) (λ all. depth_arguments all.0) k tokens) _ y right.2 (record {
        spelled_so = all.1.spelled_so ∙ ap (λ z. spelled_arguments (arguments_of all.0.0) z) right.1.0;
        well_formed = all.1.well_formed;
        deep = omega (arith, all.1.deep);
        within = all.1.within;
        whole = right.1.1;
      })

  -- the punctuator at the front has its own text
  marked : (all : List Lexeme) (x : Trees.Expression) (d : ℕ) (m : Punctuator) (from to : ℕ) (text : List ℕ) (rest : List Lexeme)
      → TookExpression types 15 (suc k) all (x, d, lexeme (K.Punctuator m) from to text ∷ rest)
      → TookExpression types 15 (suc k) all (x, d, punctuator m from ∷ rest)
  marked all x d m from to text rest t = took_before x d (lexeme (K.Punctuator m) from to text ∷ rest) (punctuator m from ∷ rest)
      (ap (λ z. z ∷ rest) (front_whole (lexeme (K.Punctuator m) from to text) rest t.whole)) t

  -- x stands before "[", and what follows is an expression and "]"
  index_takes : (all : List Lexeme) (x : Trees.Expression) (d left : ℕ) (tokens : List Lexeme)
      → TookExpression types 15 (suc k) all (x, d, punctuator M.OpenSquare left ∷ tokens) → (y : Trees.Expression × ℕ × List Lexeme)
      → index_in k inner x d left tokens ≡ Some y → TookExpression types 15 (suc k) all y
  unfolding index_in
  index_takes all x d left tokens t y h =
      let b = bind_taken _ (sound.expression tokens (rest_whole (punctuator M.OpenSquare left) tokens t.whole)) h in
      let right = bind_taken _ (right_square_taken b.0.2 b.1.whole) b.2 in
      let n = bind_taken _ (deeper_taken k (max d b.0.1)) right.2 in
      given (TookExpression types 15 (suc k) all) _ y n.2 (record {
        spelled_so = t.spelled_so ∙ ap (λ z. spelled x (punctuator M.OpenSquare left ∷ z)) (b.1.spelled_so ∙ ap (λ z. spelled b.0.0 z) right.1.0);
        well_formed = (omega arith, (t.well_formed.0, t.well_formed.1, b.1.well_formed.1));
        deep = omega (arith, n.1.1, t.deep, b.1.deep);
        within = omega (arith, n.1.0, n.1.1);
        whole = right.1.1;
      })

  call_takes : (all : List Lexeme) (x : Trees.Expression) (d left : ℕ) (tokens : List Lexeme)
      → TookExpression types 15 (suc k) all (x, d, punctuator M.Open left ∷ tokens) → (y : Trees.Expression × ℕ × List Lexeme)
      → call_in k inner x d left tokens ≡ Some y → TookExpression types 15 (suc k) all y
  unfolding call_in
  call_takes all x d left tokens t y h =
      let b = bind_taken _ (arguments_reads tokens (rest_whole (punctuator M.Open left) tokens t.whole)) h in
      let n = bind_taken _ (deeper_taken k (max d b.0.1)) b.2 in
      given (TookExpression types 15 (suc k) all) _ y n.2 (record {
        spelled_so = t.spelled_so ∙ ap (λ z. spelled x (punctuator M.Open left ∷ z)) b.1.spelled_so;
        well_formed = (omega arith, (t.well_formed.0, t.well_formed.1, b.1.well_formed));
        deep = omega (arith, n.1.1, t.deep, b.1.deep);
        within = omega (arith, n.1.0, n.1.1);
        whole = b.1.whole;
      })

  dot_takes : (all : List Lexeme) (x : Trees.Expression) (d at : ℕ) (tokens : List Lexeme)
      → TookExpression types 15 (suc k) all (x, d, punctuator M.Dot at ∷ tokens) → (y : Trees.Expression × ℕ × List Lexeme) → dot_in k x d at tokens
      ≡ Some y → TookExpression types 15 (suc k) all y
  unfolding dot_in
  dot_takes all x d at tokens t y h =
      let b = bind_taken _ (any_name_taken tokens (rest_whole (punctuator M.Dot at) tokens t.whole)) h in
      let n = bind_taken _ (deeper_taken k d) b.2 in
      given (TookExpression types 15 (suc k) all) _ y n.2 (record {
        spelled_so = t.spelled_so ∙ ap (λ z. spelled x (punctuator M.Dot at ∷ z)) b.1.0;
        well_formed = (omega arith, (t.well_formed.0, t.well_formed.1));
        deep = omega (arith, n.1.1, t.deep);
        within = omega (arith, n.1.0, n.1.1);
        whole = b.1.1;
      })

  arrow_takes : (all : List Lexeme) (x : Trees.Expression) (d at : ℕ) (tokens : List Lexeme)
      → TookExpression types 15 (suc k) all (x, d, punctuator M.Arrow at ∷ tokens) → (y : Trees.Expression × ℕ × List Lexeme)
      → arrow_in k x d at tokens ≡ Some y → TookExpression types 15 (suc k) all y
  unfolding arrow_in
  arrow_takes all x d at tokens t y h =
      let b = bind_taken _ (any_name_taken tokens (rest_whole (punctuator M.Arrow at) tokens t.whole)) h in
      let n = bind_taken _ (deeper_taken k d) b.2 in
      given (TookExpression types 15 (suc k) all) _ y n.2 (record {
        spelled_so = t.spelled_so ∙ ap (λ z. spelled x (punctuator M.Arrow at ∷ z)) b.1.0;
        well_formed = (omega arith, (t.well_formed.0, t.well_formed.1));
        deep = omega (arith, n.1.1, t.deep);
        within = omega (arith, n.1.0, n.1.1);
        whole = b.1.1;
      })

  stepped_takes : (all : List Lexeme) (x : Trees.Expression) (d : ℕ) (op : StepOp) (at : ℕ) (tokens : List Lexeme)
      → TookExpression types 15 (suc k) all (x, d, punctuator (step_punctuator op) at ∷ tokens) → (y : Trees.Expression × ℕ × List Lexeme)
      → stepped_in k x d op at tokens ≡ Some y → TookExpression types 15 (suc k) all y
  unfolding stepped_in
  stepped_takes all x d op at tokens t y h =
      let n = bind_taken _ (deeper_taken k d) h in
      given (TookExpression types 15 (suc k) all) _ y n.2 (record {
        spelled_so = t.spelled_so;
        well_formed = (omega arith, (t.well_formed.0, t.well_formed.1));
        deep = omega (arith, n.1.1, t.deep);
        within = omega (arith, n.1.0, n.1.1);
        whole = rest_whole (punctuator (step_punctuator op) at) tokens t.whole;
      })

  abbrev SuffixGoes : List Lexeme → Trees.Expression × ℕ × List Lexeme × Bool → Type 0
  SuffixGoes all r = Goes (λ x d rest. TookExpression types 15 (suc k) all (x, d, rest)) (TookExpression types 15 (suc k) all) r r.3

  suffix_goes : (all : List Lexeme) (o : Option (Trees.Expression × ℕ × List Lexeme)) (r : Trees.Expression × ℕ × List Lexeme × Bool)
      → ((y : Trees.Expression × ℕ × List Lexeme) → o ≡ Some y → TookExpression types 15 (suc k) all y) → going_on o ≡ Some r → SuffixGoes all r
  suffix_goes all o r f h = let b = bind_taken _ f h in given (SuffixGoes all) _ r b.2 b.1

  suffix_of_kind : (all : List Lexeme) (x : Trees.Expression) (d : ℕ) (kind : TokenKind) (from to : ℕ) (text : List ℕ) (rest : List Lexeme)
      (r : Trees.Expression × ℕ × List Lexeme × Bool)
      → TookExpression types 15 (suc k) all (x, d, lexeme kind from to text ∷ rest) → postfix_step k inner x d (lexeme kind from to text ∷ rest)
      ≡ Some r → SuffixGoes all r
  unfolding postfix_step
  suffix_of_kind all x d (K.Punctuator M.OpenSquare) from to text rest r t h =
      suffix_goes all _ r (index_takes all x d from rest (marked all x d M.OpenSquare from to text rest t)) h
  suffix_of_kind all x d (K.Punctuator M.Open) from to text rest r t h =
      suffix_goes all _ r (call_takes all x d from rest (marked all x d M.Open from to text rest t)) h
  suffix_of_kind all x d (K.Punctuator M.Dot) from to text rest r t h =
      suffix_goes all _ r (dot_takes all x d from rest (marked all x d M.Dot from to text rest t)) h
  suffix_of_kind all x d (K.Punctuator M.Arrow) from to text rest r t h =
      suffix_goes all _ r (arrow_takes all x d from rest (marked all x d M.Arrow from to text rest t)) h
  suffix_of_kind all x d (K.Punctuator M.PlusPlus) from to text rest r t h =
      suffix_goes all _ r (stepped_takes all x d P.Increment from rest (marked all x d M.PlusPlus from to text rest t)) h
  suffix_of_kind all x d (K.Punctuator M.MinusMinus) from to text rest r t h =
      suffix_goes all _ r (stepped_takes all x d P.Decrement from rest (marked all x d M.MinusMinus from to text rest t)) h
  suffix_of_kind all x d kind from to text rest r t h = given (SuffixGoes all) _ r h t

  suffix_step : (all : List Lexeme) (x : Trees.Expression) (d : ℕ) (tokens : List Lexeme) (r : Trees.Expression × ℕ × List Lexeme × Bool)
      → TookExpression types 15 (suc k) all (x, d, tokens) → postfix_step k inner x d tokens ≡ Some r → SuffixGoes all r
  unfolding postfix_step
  suffix_step all x d [] r t h = given (SuffixGoes all) _ r h t
  suffix_step all x d (t ∷ rest) r p h = suffix_of_kind all x d t.kind t.from t.to t.text rest r p h

  pub postfix_reads : ReadsExpression types 15 (suc k) (postfix_in types k inner)
  unfolding postfix_in
  postfix_reads tokens w y h =
      let x = bind_taken _ (primary_reads tokens w) h in
      chain_taken (postfix_step k inner) (λ x d rest. TookExpression types 15 (suc k) tokens (x, d, rest)) (TookExpression types 15 (suc k) tokens)
      (suffix_step tokens) (suc k) x.0.0 x.0.1 x.0.2 y (looser types (suc k) 16 15 tokens x.0 (omega arith) x.1) x.2
