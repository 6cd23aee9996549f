-- Declarators: what is read is spelled so.
use Rattle.std.proofs.Common.{◌≡◌, ◌≢◌, ℕ, suc, ◌+◌, max, List, [], ◌∷◌, length, Option, Some, None, Bool, true, false, refl, ap, sym, ◌∙◌, arith}
use Rattle.lay_base.specs.declared.faults.Keyword.TheVariants as W
use Rattle.c_tokens.specs.declared.punctuator.Punctuator.TheVariants as M
use Rattle.c_ast.specs.declared.words.Spelling.{Spelling}
use Rattle.c_ast.specs.declared.operators.SpecifierKeyword.TheVariants as S
use Rattle.c_ast.specs.Trees
use Rattle.c_ast.specs.Spelling.{Lexeme, punctuator, keyword, spelled_comma, spelled_consts, spelled_optional, spelled_specifiers, spelled_declarator}
use Rattle.c_ast.specs.Spelling.{spelled_parameter_list, spelled_parameters}
use Rattle.c_ast.specs.WellFormed.{is_direct, is_lone_void, IsComma, IsOptional, IsDeclarator, AreSpecifiers, IsParameterList, AreParameters}
use Rattle.c_ast.specs.Sizes.{depth_optional, depth_declarator, depth_specifiers, depth_parameter_list, depth_parameters}
use Rattle.c_ast.specs.Views.{parameters_of}
use Rattle.c_grammar.proofs.Wholeness.{AreWhole}
use Rattle.c_grammar.specs.Reading.{Inner, after, fronted, plain_name, is_left, is_left_square, is_right, is_right_square, is_const, is_star}
use Rattle.c_grammar.specs.Reading.{const_step, pointer_in, is_nothing, enclosed_in, begins_enclosed, core_after, core_in, length_in, array_in}
use Rattle.c_grammar.specs.Reading.{parameter_step, begins_void, parameters_in, function_in, shaping, suffix_step, direct_in, declarator_after}
use Rattle.c_grammar.specs.Reading.{declarator_in}
use Rattle.c_grammar.proofs.Fronts.{bind_taken, given, chosen, deeper_taken, const_kind, left_kind, left_square_kind, keyword_whole, punctuator_whole}
use Rattle.c_grammar.proofs.Fronts.{front_whole, rest_whole, left_taken, right_taken, right_square_taken, star_taken, void_taken, plain_name_taken}
use Rattle.c_grammar.proofs.Fronts.{comma_before_taken}
use Rattle.c_grammar.proofs.Chains.{Goes, chain_taken, Listing, added, ended, Grows, list_taken, AnyEnd}
use Rattle.c_grammar.proofs.Taken.{Took, Reads, took_before, IsSound}

-- ---- pointers

abbrev consts_listing : Listing ℕ
consts_listing = record {
  spelled_all = spelled_consts;
  spelled_one = λ at rest. keyword W.Const at ∷ rest;
  depth_all = λ all. 0;
  depth_one = λ at. 0;
  AreAll = λ first all. Unit {0};
  IsOne = λ first at. Unit {0};
  spelled_none = λ rest. refl;
  spelled_more = λ at more rest. refl;
  depth_none = refl;
  depth_more = λ at more. refl;
  are_none = λ first. tt;
  are_more = λ first at more i w. tt;
}

const_grows : (n : ℕ) (done : List ℕ) (d : ℕ) (tokens : List Lexeme) (r : List ℕ × ℕ × List Lexeme × Bool) → AreWhole tokens
    → const_step done d tokens ≡ Some r → Grows consts_listing n AnyEnd done d tokens r
unfolding const_step
const_grows n done d [] r w h = given (Grows consts_listing n AnyEnd done d []) _ r h (ended refl refl refl, λ _. tt)
const_grows n done d (t ∷ rest) r w h =
    chosen (is_const t.kind) _ _ r (Grows consts_listing n AnyEnd done d (t ∷ rest) r) h
    (λ c h. given (Grows consts_listing n AnyEnd done d (t ∷ rest)) _ r h (
      added t.from refl (omega arith) (ap (λ z. z ∷ rest) (keyword_whole t W.Const (front_whole t rest w) (const_kind t.kind c))) tt (omega arith)
          (rest_whole t rest w),
      λ _. tt,
    ))
    (λ _ h. given (Grows consts_listing n AnyEnd done d (t ∷ rest)) _ r h (ended refl refl refl, λ _. tt))

not_nothing : (d : Trees.Declarator) → is_nothing d ≡ false → d ≢ Trees.nothing
not_nothing Trees.nothing f e = cc
not_nothing d f e = cc

-- ---- parameters

abbrev parameters_listing : List (List ℕ) → Listing (Option ℕ × Trees.Specifiers × Trees.Declarator)
parameters_listing types = record {
  spelled_all = λ all rest. spelled_parameters (parameters_of all) rest;
  spelled_one = λ p rest. spelled_comma p.0 (spelled_specifiers p.1 (spelled_declarator p.2 rest));
  depth_all = λ all. depth_parameters (parameters_of all);
  depth_one = λ p. max (depth_specifiers p.1) (depth_declarator p.2);
  AreAll = λ first all. AreParameters types first (parameters_of all);
  IsOne = λ first p. IsComma first p.0 × AreSpecifiers types p.1 × IsDeclarator types p.2;
  spelled_none = λ rest. refl;
  spelled_more = λ p more rest. refl;
  depth_none = refl;
  depth_more = λ p more. refl;
  are_none = λ first. tt;
  are_more = λ first p more i w. (i.0, i.1, i.2, w);
}

abbrev BeforeRight : List (Option ℕ × Trees.Specifiers × Trees.Declarator) → List Lexeme → Type 0
BeforeRight all rest = fronted is_right rest ≡ true

-- a lone `void` before ")" is spelled as one
lone_void : (types : List (List ℕ)) (all : Trees.Parameters) (rest : List Lexeme) → AreParameters types true all → fronted is_right rest ≡ true
    → is_lone_void all ≡ true → begins_void (spelled_parameters all rest) ≡ true
lone_void types (Trees.and_parameter None (Trees.and_specifier (Trees.plain S.Void at) Trees.no_specifiers) Trees.nothing Trees.no_parameters) rest w e l = e
lone_void types (Trees.and_parameter (Some comma) specs d more) rest w e l = let f : true ≡ false = w.0 in cc
lone_void types all rest w e l = cc

no_lone_void : (types : List (List ℕ)) (all : Trees.Parameters) (b : Bool) (rest : List Lexeme) → AreParameters types true all → fronted is_right rest
    ≡ true → begins_void (spelled_parameters all rest) ≡ false → is_lone_void all ≡ b → b ≡ false
no_lone_void types all true rest w e f l = let g = lone_void types all rest w e l in cc
no_lone_void types all false rest w e f l = refl

module _ (types : List (List ℕ)) (k : ℕ) (inner : Inner) (sound : IsSound types k inner) where
  abbrev TookDeclarator : List Lexeme → Trees.Declarator × ℕ × List Lexeme → Type 0
  TookDeclarator tokens y = Took spelled_declarator (IsDeclarator types) depth_declarator (suc k) tokens y

  -- what may stand before brackets
  abbrev TookDirect : List Lexeme → Trees.Declarator × ℕ × List Lexeme → Type 0
  TookDirect tokens y = Took spelled_declarator (λ d. (is_direct d ≡ true) × IsDeclarator types d) depth_declarator (suc k) tokens y

  pointer_reads : (at : ℕ) (tokens : List Lexeme) → AreWhole tokens → (y : Trees.Declarator × ℕ × List Lexeme) → pointer_in k inner at tokens ≡ Some y
      → TookDeclarator (punctuator M.Star at ∷ tokens) y
  unfolding pointer_in
  pointer_reads at tokens w y h =
      let consts = bind_taken _ (list_taken consts_listing 0 AnyEnd const_step (const_grows 0) (length tokens + 1) 0 (omega arith) tokens w) h in
      let d = bind_taken _ (sound.declarator consts.0.2 consts.1.whole) consts.2 in
      let n = bind_taken _ (deeper_taken k d.0.1) d.2 in
      given (TookDeclarator (punctuator M.Star at ∷ tokens)) _ y n.2 (record {
        spelled_so = ap (λ z. punctuator M.Star at ∷ z) (consts.1.spelled_so ∙ ap (λ z. spelled_consts consts.0.0 z) d.1.spelled_so);
        well_formed = d.1.well_formed;
        deep = omega (arith, n.1.1, d.1.deep);
        within = omega (arith, n.1.0, n.1.1);
        whole = d.1.whole;
      })

  -- ---- what stands before the brackets and parentheses

  enclosed_reads : (tokens : List Lexeme) → AreWhole tokens → (y : Trees.Declarator × ℕ × List Lexeme) → enclosed_in k inner tokens ≡ Some y
      → TookDirect tokens y
  unfolding enclosed_in
  enclosed_reads tokens w y h =
      let left = bind_taken _ (left_taken tokens w) h in
      let d = bind_taken _ (sound.declarator left.0.1 left.1.1) left.2 in
      let right = bind_taken _ (right_taken d.0.2 d.1.whole) d.2 in
      let n = bind_taken _ (deeper_taken k d.0.1) right.2 in
      chosen (is_nothing d.0.0) _ _ y (TookDirect tokens y) n.2
      (λ _ h. cc)
      (λ c h. given (TookDirect tokens) _ y h (record {
        spelled_so = left.1.0 ∙ ap (λ z. punctuator M.Open left.0.0 ∷ z) (d.1.spelled_so ∙ ap (λ z. spelled_declarator d.0.0 z) right.1.0);
        well_formed = (refl, (not_nothing d.0.0 c, d.1.well_formed));
        deep = omega (arith, n.1.1, d.1.deep);
        within = omega (arith, n.1.0, n.1.1);
        whole = right.1.1;
      }))

  core_takes : (tokens : List Lexeme) (o : Option (Spelling × List Lexeme)) → AreWhole tokens → plain_name types tokens ≡ o
      → (y : Trees.Declarator × ℕ × List Lexeme) → core_after types k inner tokens o ≡ Some y → TookDirect tokens y
  core_takes tokens (Some x) w e y h =
      let q = plain_name_taken types tokens w x e in
      given (TookDirect tokens) _ y h (record { spelled_so = q.0; well_formed = (refl, q.2); deep = refl; within = omega arith; whole = q.1 })
  core_takes tokens None w e y h =
      chosen (begins_enclosed types tokens) _ _ y (TookDirect tokens y) h
      (λ _ h. enclosed_reads tokens w y h)
      (λ _ h. given (TookDirect tokens) _ y h (record { spelled_so = refl; well_formed = (refl, tt); deep = refl; within = omega arith; whole = w }))

  core_reads : (tokens : List Lexeme) → AreWhole tokens → (y : Trees.Declarator × ℕ × List Lexeme) → core_in types k inner tokens ≡ Some y → TookDirect tokens y
  unfolding core_in
  core_reads tokens w y h = core_takes tokens (plain_name types tokens) w refl y h

  -- ---- brackets and parentheses

  length_reads : Reads spelled_optional (IsOptional types) depth_optional k (length_in inner)
  length_reads tokens w y h =
      chosen (fronted is_right_square tokens) _ _ y (Took spelled_optional (IsOptional types) depth_optional k tokens y) h
      (λ _ h. given (Took spelled_optional (IsOptional types) depth_optional k tokens) _ y h
      (record { spelled_so = refl; well_formed = tt; deep = refl; within = omega arith; whole = w }))
      (λ _ h.
      let a = bind_taken _ (sound.conditional tokens w) h in
      given (Took spelled_optional (IsOptional types) depth_optional k tokens) _ y a.2
      (record { spelled_so = a.1.spelled_so; well_formed = a.1.well_formed; deep = a.1.deep; within = a.1.within; whole = a.1.whole }))

  array_takes : (all : List Lexeme) (x : Trees.Declarator) (d left : ℕ) (tokens : List Lexeme)
      → TookDirect all (x, d, punctuator M.OpenSquare left ∷ tokens) → (y : Trees.Declarator × ℕ × List Lexeme) → array_in k inner x d left tokens
      ≡ Some y → TookDirect all y
  unfolding array_in
  array_takes all x d left tokens p y h =
      let n = bind_taken _ (length_reads tokens (rest_whole (punctuator M.OpenSquare left) tokens p.whole)) h in
      let right = bind_taken _ (right_square_taken n.0.2 n.1.whole) n.2 in
      let m = bind_taken _ (deeper_taken k (max d n.0.1)) right.2 in
      given (TookDirect all) _ y m.2 (record {
        spelled_so = p.spelled_so ∙ ap (λ z. spelled_declarator x (punctuator M.OpenSquare left ∷ z)) (n.1.spelled_so
            ∙ ap (λ z. spelled_optional n.0.0 z) right.1.0);
        well_formed = (refl, (p.well_formed.0, p.well_formed.1, n.1.well_formed));
        deep = omega (arith, m.1.1, p.deep, n.1.deep);
        within = omega (arith, m.1.0, m.1.1);
        whole = right.1.1;
      })

  parameter_grows : (done : List (Option ℕ × Trees.Specifiers × Trees.Declarator)) (d : ℕ) (tokens : List Lexeme)
      (r : List (Option ℕ × Trees.Specifiers × Trees.Declarator) × ℕ × List Lexeme × Bool) → AreWhole tokens → parameter_step inner done d tokens
      ≡ Some r → Grows (parameters_listing types) k BeforeRight done d tokens r
  unfolding parameter_step
  parameter_grows done d tokens r w h =
      chosen (fronted is_right tokens) _ _ r (Grows (parameters_listing types) k BeforeRight done d tokens r) h
      (λ e h. given (Grows (parameters_listing types) k BeforeRight done d tokens) _ r h (ended refl refl refl, λ _. e))
      (λ _ h.
      let c = bind_taken _ (comma_before_taken done tokens w) h in
      let specs = bind_taken _ (sound.specifiers c.0.1 c.1.2) c.2 in
      let s = bind_taken _ (sound.declarator specs.0.2 specs.1.whole) specs.2 in
      given (Grows (parameters_listing types) k BeforeRight done d tokens) _ r s.2 (
        added (c.0.0, specs.0.0, s.0.0) refl (omega (arith, specs.1.deep, s.1.deep)) (c.1.0
            ∙ ap (λ z. spelled_comma c.0.0 z) (specs.1.spelled_so ∙ ap (λ z. spelled_specifiers specs.0.0 z) s.1.spelled_so))
            (c.1.1, specs.1.well_formed, s.1.well_formed)
            (omega (arith, specs.1.deep, specs.1.within, s.1.deep, s.1.within)) s.1.whole,
        λ e. cc,
      ))

  parameters_read : Reads spelled_parameter_list (IsParameterList types) depth_parameter_list k (parameters_in inner)
  unfolding parameters_in
  parameters_read tokens w y h =
      chosen (begins_void tokens) _ _ y (Took spelled_parameter_list (IsParameterList types) depth_parameter_list k tokens y) h
      (λ _ h.
      let v = bind_taken _ (void_taken tokens w) h in
      given (Took spelled_parameter_list (IsParameterList types) depth_parameter_list k tokens) _ y v.2
      (record { spelled_so = v.1.0; well_formed = tt; deep = refl; within = omega arith; whole = v.1.1 }))
      (λ c h.
      let all = bind_taken _ (list_taken (parameters_listing types) k BeforeRight (parameter_step inner) parameter_grows (length tokens + 1) 0
      (omega arith) tokens w) h in
      given (Took spelled_parameter_list (IsParameterList types) depth_parameter_list k tokens) _ y all.2 (record {
        spelled_so = all.1.spelled_so;
        well_formed = (
          no_lone_void types (parameters_of all.0.0) (is_lone_void (parameters_of all.0.0)) all.0.2 all.1.well_formed all.1.ends
              (sym (ap begins_void all.1.spelled_so) ∙ c) refl,
          all.1.well_formed,
        );
        deep = omega (arith, all.1.deep);
        within = all.1.within;
        whole = all.1.whole;
      }))

  function_takes : (all : List Lexeme) (x : Trees.Declarator) (d left : ℕ) (tokens : List Lexeme)
      → TookDirect all (x, d, punctuator M.Open left ∷ tokens) → (y : Trees.Declarator × ℕ × List Lexeme) → function_in k inner x d left tokens
      ≡ Some y → TookDirect all y
  unfolding function_in
  function_takes all x d left tokens p y h =
      let n = bind_taken _ (parameters_read tokens (rest_whole (punctuator M.Open left) tokens p.whole)) h in
      let right = bind_taken _ (right_taken n.0.2 n.1.whole) n.2 in
      let m = bind_taken _ (deeper_taken k (max d n.0.1)) right.2 in
      given (TookDirect all) _ y m.2 (record {
        spelled_so = p.spelled_so ∙ ap (λ z. spelled_declarator x (punctuator M.Open left ∷ z)) (n.1.spelled_so
            ∙ ap (λ z. spelled_parameter_list n.0.0 z) right.1.0);
        well_formed = (refl, (p.well_formed.0, p.well_formed.1, n.1.well_formed));
        deep = omega (arith, m.1.1, p.deep, n.1.deep);
        within = omega (arith, m.1.0, m.1.1);
        whole = right.1.1;
      })

  abbrev DeclaratorGoes : List Lexeme → Trees.Declarator × ℕ × List Lexeme × Bool → Type 0
  DeclaratorGoes all r = Goes (λ x d rest. TookDirect all (x, d, rest)) (TookDirect all) r r.3

  declarator_goes : (all : List Lexeme) (o : Option (Trees.Declarator × ℕ × List Lexeme)) (r : Trees.Declarator × ℕ × List Lexeme × Bool)
      → ((y : Trees.Declarator × ℕ × List Lexeme) → o ≡ Some y → TookDirect all y) → shaping o ≡ Some r → DeclaratorGoes all r
  declarator_goes all o r f h = let b = bind_taken _ f h in given (DeclaratorGoes all) _ r b.2 b.1

  suffix_goes : (all : List Lexeme) (x : Trees.Declarator) (d : ℕ) (tokens : List Lexeme) (r : Trees.Declarator × ℕ × List Lexeme × Bool)
      → TookDirect all (x, d, tokens) → suffix_step k inner x d tokens ≡ Some r → DeclaratorGoes all r
  unfolding suffix_step
  suffix_goes all x d [] r p h = given (DeclaratorGoes all) _ r h p
  suffix_goes all x d (t ∷ rest) r p h =
      let w = front_whole t rest p.whole in
      chosen (is_left_square t.kind) _ _ r (DeclaratorGoes all r) h
      (λ c h. declarator_goes all _ r (array_takes all x d t.from rest
      (took_before x d (t ∷ rest) (punctuator M.OpenSquare t.from ∷ rest)
      (ap (λ z. z ∷ rest) (punctuator_whole t M.OpenSquare w (left_square_kind t.kind c))) p)) h)
      (λ _ h. chosen (is_left t.kind) _ _ r (DeclaratorGoes all r) h
      (λ c h. declarator_goes all _ r (function_takes all x d t.from rest
      (took_before x d (t ∷ rest) (punctuator M.Open t.from ∷ rest) (ap (λ z. z ∷ rest) (punctuator_whole t M.Open w (left_kind t.kind c))) p)) h)
      (λ _ h. given (DeclaratorGoes all) _ r h p))

  direct_reads : (tokens : List Lexeme) → AreWhole tokens → (y : Trees.Declarator × ℕ × List Lexeme) → direct_in types k inner tokens ≡ Some y
      → TookDirect tokens y
  unfolding direct_in
  direct_reads tokens w y h =
      let x = bind_taken _ (core_reads tokens w) h in
      chain_taken (suffix_step k inner) (λ x d rest. TookDirect tokens (x, d, rest)) (TookDirect tokens) (suffix_goes tokens)
      (suc (suc k)) x.0.0 x.0.1 x.0.2 y x.1 x.2

  -- ---- declarators

  declarator_takes : (tokens : List Lexeme) (o : Option (ℕ × List Lexeme)) → AreWhole tokens → after is_star tokens ≡ o
      → (y : Trees.Declarator × ℕ × List Lexeme) → declarator_after types k inner tokens o ≡ Some y → TookDeclarator tokens y
  declarator_takes tokens None w e y h =
      let p = direct_reads tokens w y h in
      record { spelled_so = p.spelled_so; well_formed = p.well_formed.1; deep = p.deep; within = p.within; whole = p.whole }
  declarator_takes tokens (Some star) w e y h = let q = star_taken tokens w star e in rw q.0 (pointer_reads star.0 star.1 q.1 y h)

  pub declarator_reads : Reads spelled_declarator (IsDeclarator types) depth_declarator (suc k) (declarator_in types k inner)
  unfolding declarator_in
  declarator_reads tokens w y h = declarator_takes tokens (after is_star tokens) w refl y h
