-- What is read as an initializer is spelled so, is well formed, and has that depth.
use Rattle.std.proofs.Common.{◌≡◌, ◌≢◌, ℕ, zero, suc, ◌+◌, ◌≤◌, max, List, [], ◌∷◌, length, Option, Some, None, Bool, refl, ap, sym, ◌∙◌, subst, arith}
use Rattle.c_tokens.specs.declared.punctuator.Punctuator.TheVariants as M
use Rattle.c_ast.specs.Trees
use Rattle.c_ast.specs.Spelling.{Lexeme, punctuator, spelled, spelled_arguments, spelled_comma}
use Rattle.c_ast.specs.WellFormed.{level, IsComma, IsExpression, IsInitializer, AreInitializers}
use Rattle.c_ast.specs.Sizes.{depth, depth_initializers, depth_initializer}
use Rattle.c_ast.specs.Views.{arguments_of}
use Rattle.c_grammar.proofs.Wholeness.{AreWhole}
use Rattle.c_grammar.specs.Reading.{◌>>=◌, after, is_left_brace, is_right_brace, Reader, deeper, chain, comma_before, comma_if_any, at}
use Rattle.c_grammar.proofs.Fronts.{bind_some, given, deeper_taken, left_brace_taken, right_brace_taken, comma_before_taken, comma_if_any_taken}
use Rattle.c_grammar.proofs.Chains.{Listing, some_more, IsSome, added, Grows, list_taken}
use Rattle.c_grammar.proofs.Taken.{Took, Reads, ReadsExpression, IsSound}
use Rattle.c_grammar.specs.StatementReading.{initial_step, braces_in, initial_after, initial_in, initial_at}

-- the result of o as a variable
pub bound : {A B : Type 0} (o : Option A) (f : A → Option B) (y : B) (P : Type 0) → (o >>= f) ≡ Some y → ((x : A) → o ≡ Some x → f x ≡ Some y → P) → P
bound None f y P h q = cc
bound (Some x) f y P h q = q x refl h

abbrev pub TookInitializer : List (List ℕ) → ℕ → List Lexeme → Trees.Expression × ℕ × List Lexeme → Type 0
TookInitializer types n tokens y = Took spelled (IsInitializer types) depth_initializer n tokens y

abbrev pub ReadsInitializer : List (List ℕ) → ℕ → Reader Trees.Expression → Type 0
ReadsInitializer types n reader = Reads spelled (IsInitializer types) depth_initializer n reader

-- a well formed expression is no initializer in braces
expression_initializes : (types : List (List ℕ)) (a : Trees.Expression) → 1 ≤ level a → IsExpression types a
    → IsInitializer types a × (depth_initializer a ≡ depth a + 1)
expression_initializes types (Trees.braces left all comma right) l w = absurd w
expression_initializes types a l w = ((l, w), refl)

initializers_depth : (comma : Option ℕ) (a : Trees.Expression) (more : Trees.Arguments) → depth_initializers (Trees.and_argument comma a more)
    ≡ max (depth_initializer a) (depth_initializers more)
initializers_depth comma (Trees.braces left all last right) more = refl
initializers_depth comma a more = refl

some_arguments : (all : List (Option ℕ × Trees.Expression)) → all ≢ [] → arguments_of all ≢ Trees.no_arguments
some_arguments [] n e = absurd (n refl)
some_arguments (a ∷ all) n e = cc

abbrev initializers : List (List ℕ) → Listing (Option ℕ × Trees.Expression)
initializers types = record {
  spelled_all = λ all rest. spelled_arguments (arguments_of all) rest;
  spelled_one = λ i rest. spelled_comma i.0 (spelled i.1 rest);
  depth_all = λ all. depth_initializers (arguments_of all);
  depth_one = λ i. depth_initializer i.1;
  AreAll = λ first all. AreInitializers types first (arguments_of all);
  IsOne = λ first i. IsComma first i.0 × IsInitializer types i.1;
  spelled_none = λ rest. refl;
  spelled_more = λ i more rest. refl;
  depth_none = refl;
  depth_more = λ i more. initializers_depth i.0 i.1 (arguments_of more);
  are_none = λ first. tt;
  are_more = λ first i more p q. (p.0, p.1, q);
}

module _ (types : List (List ℕ)) (k : ℕ) (initial : Reader Trees.Expression) (initials : ReadsInitializer types k initial) where
  initial_step_taken : (done : List (Option ℕ × Trees.Expression)) (d : ℕ) (tokens : List Lexeme)
      (r : List (Option ℕ × Trees.Expression) × ℕ × List Lexeme × Bool)
      → AreWhole tokens → initial_step initial done d tokens ≡ Some r → Grows (initializers types) k IsSome done d tokens r
  unfolding initial_step
  initial_step_taken done d tokens r w h =
      let c = bind_some (comma_before done tokens) _ r h in
      let i = bind_some (initial c.0.1) _ r c.2 in
      let p = comma_before_taken done tokens w c.0 c.1 in
      let q = initials c.0.1 p.2 i.0 i.1 in
      given (Grows (initializers types) k IsSome done d tokens) _ r i.2 (
        added (c.0.0, i.0.0) refl (ap (λ z. max d z) q.deep) (p.0 ∙ ap (λ z. spelled_comma c.0.0 z) q.spelled_so) (p.1, q.well_formed)
            (omega (arith, q.deep, q.within)) q.whole,
        λ _. some_more done (c.0.0, i.0.0),
      )

  braces_taken : (left : ℕ) (tokens : List Lexeme) → AreWhole tokens → (y : Trees.Expression × ℕ × List Lexeme) → braces_in k initial left tokens
      ≡ Some y → TookInitializer types (suc k) (punctuator M.OpenBrace left ∷ tokens) y
  unfolding braces_in
  braces_taken left tokens w y h =
      let all = bind_some (chain (initial_step initial) (length tokens + 1) [] 0 tokens) _ y h in
      let right = bind_some (after is_right_brace ((comma_if_any all.0.2).1)) _ y all.2 in
      let d = bind_some (deeper k all.0.1) _ y right.2 in
      let p = list_taken (initializers types) k IsSome (initial_step initial) initial_step_taken (length tokens + 1) 0 (omega arith) tokens w all.0 all.1 in
      let c = comma_if_any_taken all.0.2 p.whole in
      let q = right_brace_taken ((comma_if_any all.0.2).1) c.1 right.0 right.1 in
      let n = deeper_taken k all.0.1 d.0 d.1 in
      given (TookInitializer types (suc k) (punctuator M.OpenBrace left ∷ tokens)) _ y d.2 (record {
        spelled_so = ap (λ z. punctuator M.OpenBrace left ∷ z) (p.spelled_so
            ∙ ap (λ z. spelled_arguments (arguments_of all.0.0) z) (c.0 ∙ ap (λ z. spelled_comma ((comma_if_any all.0.2).0) z) q.0));
        well_formed = (some_arguments all.0.0 p.ends, p.well_formed);
        deep = (let e = p.deep in omega (arith, n.1, e));
        within = omega (arith, n.0, n.1);
        whole = q.1;
      })

  initial_after_taken : (assignment : Reader Trees.Expression) → ReadsExpression types 1 k assignment → (tokens : List Lexeme) → AreWhole tokens
      → (y : Trees.Expression × ℕ × List Lexeme)
      → (o : Option (ℕ × List Lexeme)) → after is_left_brace tokens ≡ o → initial_after k assignment initial tokens o ≡ Some y
      → TookInitializer types (suc k) tokens y
  initial_after_taken assignment s tokens w y (Some left) b h =
      let l = left_brace_taken tokens w left b in
      subst (λ z. TookInitializer types (suc k) z y) (sym l.0) (braces_taken left.0 left.1 l.1 y h)
  initial_after_taken assignment s tokens w y None b h =
      let a = bind_some (assignment tokens) _ y h in
      let d = bind_some (deeper k a.0.1) _ y a.2 in
      let p = s tokens w a.0 a.1 in
      let n = deeper_taken k a.0.1 d.0 d.1 in
      let i = expression_initializes types a.0.0 p.well_formed.0 p.well_formed.1 in
      given (TookInitializer types (suc k) tokens) _ y d.2 (record {
        spelled_so = p.spelled_so;
        well_formed = i.0;
        deep = (let e = i.1 in omega (arith, n.1, p.deep, e));
        within = omega (arith, n.0, n.1);
        whole = p.whole;
      })

pub initial_sound : (types : List (List ℕ)) → ((k : ℕ) → IsSound types k (at types k)) → (k : ℕ) → ReadsInitializer types k (initial_at types k)
unfolding initial_in
initial_sound types s zero tokens w y h = cc
initial_sound types s (suc k) tokens w y h =
    initial_after_taken types k (initial_at types k) (initial_sound types s k) ((at types k).assignment) ((s k).assignment) tokens w y
    (after is_left_brace tokens) refl h
