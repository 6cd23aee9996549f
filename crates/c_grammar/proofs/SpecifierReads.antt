-- Reading specifiers and enumerators from their spelling.
use Rattle.std.proofs.Common.{◌≡◌, ◌≢◌, ℕ, zero, suc, ◌+◌, ◌≤◌, ◌<◌, max, List, [], ◌∷◌, ◌++◌, Option, Some, None, Bool, true, false, length, refl}
use Rattle.std.proofs.Common.{◌∙◌, arith, append_assoc, add-one}
use Rattle.c_tokens.specs.declared.punctuator.Punctuator.TheVariants as M
use Rattle.c_tokens.specs.declared.token.TokenKind.TheVariants as K
use Rattle.c_ast.specs.declared.words.Spelling.{Spelling}
use Rattle.c_ast.specs.declared.operators.SpecifierKeyword.{SpecifierKeyword}
use Rattle.c_ast.specs.declared.operators.SpecifierKeyword.TheVariants as S
use Rattle.c_ast.specs.Trees
use Rattle.c_ast.specs.Spelling.{Lexeme, punctuator, word, spelled_comma, spelled_specifiers, spelled_specifier, spelled_enumerators, spelled_enumerator_value}
use Rattle.c_ast.specs.WellFormed.{is_typename, AreSpecifiers, AreEnumerators, IsEnumeratorValue}
use Rattle.c_ast.specs.Sizes.{depth, depth_specifiers, depth_specifier, depth_enumerators, depth_enumerator_value}
use Rattle.c_grammar.specs.Reading.{chain, fronted, is_left_brace, begins_specifier, specifier_in, specifier_step, specifiers_in, another}
use Rattle.c_grammar.specs.Reading.{enumerator_in, enumerator_step, enum_body_in, at}
use Rattle.c_grammar.proofs.Follow.{pull, within, no_equal}
use Rattle.c_grammar.proofs.Beginnings.{specifier_begins, specifier_front, left_brace_at_specifiers}
use Rattle.c_grammar.proofs.Lists.{specifiers_list, specifiers_again, enumerators_list, enumerators_again, is_new, not_new, comma_read}
use Rattle.c_grammar.proofs.Lengths.{specifiers_room, enumerators_room}
use Rattle.c_grammar.proofs.ExpressionReads.{Reads, conditional_inside}

module _ (types : List (List ℕ)) where
  abbrev pub SpecifierReads : Trees.Specifier → Type 0
  SpecifierReads s = (k : ℕ) (rest : List Lexeme) → depth_specifier s ≤ suc k → fronted is_left_brace rest ≡ false
      → specifier_in types k (at types k) (spelled_specifier s rest) ≡ Some (s, depth_specifier s, rest)

  abbrev pub SpecifiersRead : Trees.Specifiers → Type 0
  SpecifiersRead Trees.no_specifiers = Unit {0}
  SpecifiersRead (Trees.and_specifier s more) = SpecifierReads s × SpecifiersRead more

  -- ---- one specifier each

  pub plain_reads : (op : SpecifierKeyword) (i : ℕ) → SpecifierReads (Trees.plain op i)
  unfolding specifier_in
  plain_reads S.Void i k rest d h = refl
  plain_reads op i k rest d h = refl

  pub typename_reads : (x : Spelling) → is_typename types x.text ≡ true → SpecifierReads (Trees.typename x)
  unfolding specifier_in
  typename_reads x w k rest d h = rw w

  pub struct_named_reads : (i : ℕ) (x : Spelling) → SpecifierReads (Trees.struct_named i x)
  unfolding specifier_in
  struct_named_reads i x k rest d h = rw h

  pub enum_named_reads : (i : ℕ) (x : Spelling) → SpecifierReads (Trees.enum_named i x)
  unfolding specifier_in
  enum_named_reads i x k rest d h = rw h

  -- ---- specifiers

  specifier_deep : (s : Trees.Specifier) → 0 < depth_specifier s
  specifier_deep (Trees.plain op i) = omega arith
  specifier_deep s = omega arith

  specifiers_read : (specs : Trees.Specifiers) → AreSpecifiers types specs → SpecifiersRead specs
      → (k s : ℕ) (done : List Trees.Specifier) (d : ℕ) (rest : List Lexeme) → depth_specifiers specs ≤ suc k → length (specifiers_list specs) ≤ s
      → begins_specifier types rest ≡ false → fronted is_left_brace rest ≡ false
      → chain (specifier_step types k (at types k)) s done d (spelled_specifiers specs rest)
      ≡ Some (done ++ specifiers_list specs, max d (depth_specifiers specs), rest)
  unfolding chain specifier_step
  specifiers_read Trees.no_specifiers w r k s done d rest h l b f = absurd w
  specifiers_read (Trees.and_specifier one more) w r k zero done d rest h l b f = absurd (omega arith)
  specifiers_read (Trees.and_specifier one Trees.no_specifiers) w r k (suc s) done d rest h l b f =
      let z : max (depth_specifier one) 0 ≡ depth_specifier one = omega arith in
      rw (r.0 k rest (omega arith) f, b, z)
  specifiers_read (Trees.and_specifier one (Trees.and_specifier two more)) w r k (suc s) done d rest h l b f =
      let z : max (max d (depth_specifier one)) (max (depth_specifier two) (depth_specifiers more))
      ≡ max d (max (depth_specifier one) (max (depth_specifier two) (depth_specifiers more))) = omega arith in
      let tail = spelled_specifiers (Trees.and_specifier two more) rest in
      rw (
        r.0 k tail (omega arith) (specifier_front types is_left_brace (left_brace_at_specifiers types) two _),
        specifier_begins types two w.1.0 (spelled_specifiers more rest),
      )
      (specifiers_read (Trees.and_specifier two more) w.1 r.1 k s (done ++ one ∷ []) (max d (depth_specifier one)) rest (omega arith) (omega arith) b f
      ∙ rw (append_assoc done (one ∷ []) (two ∷ specifiers_list more), z))

  pub specifiers_inside : (specs : Trees.Specifiers) → AreSpecifiers types specs → SpecifiersRead specs → (k : ℕ) (rest : List Lexeme)
      → depth_specifiers specs ≤ k → begins_specifier types rest ≡ false → fronted is_left_brace rest ≡ false
      → (at types k).specifiers (spelled_specifiers specs rest) ≡ Some (specs, depth_specifiers specs, rest)
  unfolding specifiers_in
  specifiers_inside Trees.no_specifiers w r k rest h b f = absurd w
  specifiers_inside (Trees.and_specifier s more) w r zero rest h b f = absurd (omega (arith, specifier_deep s))
  specifiers_inside (Trees.and_specifier s more) w r (suc k) rest h b f =
      let specs = Trees.and_specifier s more in
      let tokens = spelled_specifiers specs rest in
      let room : length (specifiers_list specs) ≤ length tokens = specifiers_room specs rest in
      let z : max 0 (depth_specifiers specs) ≡ depth_specifiers specs = omega arith in
      rw (add-one (length tokens), specifiers_read specs w r k (suc (length tokens)) [] 0 rest h (omega arith) b f, specifiers_again specs, z)

  -- ---- enumerators

  abbrev pub EnumeratorValueReads : Trees.EnumeratorValue → Type 0
  EnumeratorValueReads Trees.no_value = Unit {0}
  EnumeratorValueReads (Trees.valued equal a) = Reads types a

  abbrev pub EnumeratorsRead : Trees.Enumerators → Type 0
  EnumeratorsRead Trees.no_enumerators = Unit {0}
  EnumeratorsRead (Trees.and_enumerator comma x value more) = EnumeratorValueReads value × EnumeratorsRead more

  pub enumerator_inside : (x : Spelling) (value : Trees.EnumeratorValue) → is_typename types x.text ≡ false → IsEnumeratorValue types value
      → EnumeratorValueReads value → (k : ℕ) (rest : List Lexeme) → depth_enumerator_value value + 1 ≤ k → pull rest ≤ 1
      → (at types k).enumerator (word K.Name x ∷ spelled_enumerator_value value rest) ≡ Some ((x, value), depth_enumerator_value value + 1, rest)
  unfolding enumerator_in
  enumerator_inside x value w v r zero rest d h = absurd (omega arith)
  enumerator_inside x Trees.no_value w v r (suc k) rest d h = rw (w, no_equal rest h)
  enumerator_inside x (Trees.valued equal a) w v r (suc k) rest d h =
      rw (w, conditional_inside types a r v.0 k rest (omega arith) (omega arith), within (depth a) k (omega arith))

  after_enumerators : (comma : Option ℕ) (right : ℕ) (rest : List Lexeme) → pull (spelled_comma comma (punctuator M.CloseBrace right ∷ rest)) ≤ 1
  after_enumerators None right rest = omega arith
  after_enumerators (Some i) right rest = omega arith

  no_other : (comma : Option ℕ) (right : ℕ) (rest : List Lexeme) → another (spelled_comma comma (punctuator M.CloseBrace right ∷ rest)) ≡ false
  no_other None right rest = refl
  no_other (Some i) right rest = refl

  enumerators_read : (all : Trees.Enumerators) (first : Bool) → all ≢ Trees.no_enumerators → AreEnumerators types first all → EnumeratorsRead all
      → (k s : ℕ) (done : List (Option ℕ × Spelling × Trees.EnumeratorValue)) (d : ℕ) (comma : Option ℕ) (right : ℕ) (rest : List Lexeme) → first
      ≡ is_new done → depth_enumerators all ≤ k → length (enumerators_list all) ≤ s
      → chain (enumerator_step (at types k)) s done d (spelled_enumerators all (spelled_comma comma (punctuator M.CloseBrace right ∷ rest)))
      ≡ Some (done ++ enumerators_list all, max d (depth_enumerators all), spelled_comma comma (punctuator M.CloseBrace right ∷ rest))
  unfolding chain enumerator_step
  enumerators_read Trees.no_enumerators first n w r k s done d comma right rest e h l = absurd (n refl)
  enumerators_read (Trees.and_enumerator c x value more) first n w r k zero done d comma right rest e h l = absurd (omega arith)
  enumerators_read (Trees.and_enumerator c x value Trees.no_enumerators) first n w r k (suc s) done d comma right rest e h l =
      let tail = spelled_comma comma (punctuator M.CloseBrace right ∷ rest) in
      let z : max (depth_enumerator_value value + 1) 0 ≡ depth_enumerator_value value + 1 = omega arith in
      rw (
        comma_read done first c (word K.Name x ∷ spelled_enumerator_value value tail) e w.0,
        enumerator_inside x value w.1 w.2 r.0 k tail (omega arith) (after_enumerators comma right rest),
        no_other comma right rest,
        z,
      )
  enumerators_read (Trees.and_enumerator c x value (Trees.and_enumerator None y other more)) first n w r k (suc s) done d comma right rest e h l =
      let f : false ≡ true = w.3.0 in cc
  enumerators_read (Trees.and_enumerator c x value (Trees.and_enumerator (Some i) y other more)) first n w r k (suc s) done d comma right rest e h l =
      let two = Trees.and_enumerator (Some i) y other more in
      let tail = spelled_enumerators two (spelled_comma comma (punctuator M.CloseBrace right ∷ rest)) in
      let z : max (max d (depth_enumerator_value value + 1)) (depth_enumerators two)
      ≡ max d (max (depth_enumerator_value value + 1) (depth_enumerators two)) = omega arith in
      rw (
        comma_read done first c (word K.Name x ∷ spelled_enumerator_value value tail) e w.0,
        enumerator_inside x value w.1 w.2 r.0 k tail (omega arith) (omega arith),
      )
      (enumerators_read two false (λ q. cc) w.3 r.1 k s (done ++ (c, x, value) ∷ []) (max d (depth_enumerator_value value + 1)) comma right rest
      (not_new done (c, x, value)) (omega arith) (omega arith)
      ∙ rw (append_assoc done ((c, x, value) ∷ []) (enumerators_list two), z))

  enum_body_read : (i : ℕ) (x : Option Spelling) (left : ℕ) (all : Trees.Enumerators) (comma : Option ℕ) (right : ℕ) → all ≢ Trees.no_enumerators
      → AreEnumerators types true all → EnumeratorsRead all → (k : ℕ) (rest : List Lexeme) → depth_enumerators all ≤ k
      → enum_body_in k (at types k) i x (punctuator M.OpenBrace left ∷ spelled_enumerators all
      (spelled_comma comma (punctuator M.CloseBrace right ∷ rest))) ≡ Some (Trees.enum_body i x left all comma right, depth_enumerators all + 1, rest)
  unfolding enum_body_in
  enum_body_read i x left all None right n w r k rest h =
      let tokens = spelled_enumerators all (punctuator M.CloseBrace right ∷ rest) in
      let room : length (enumerators_list all) ≤ length tokens = enumerators_room all (punctuator M.CloseBrace right ∷ rest) in
      let z : max 0 (depth_enumerators all) ≡ depth_enumerators all = omega arith in
      rw (
        add-one (length tokens),
        enumerators_read all true n w r k (suc (length tokens)) [] 0 None right rest refl h (omega arith),
        enumerators_again all,
        z,
        within (depth_enumerators all) k h,
      )
  enum_body_read i x left all (Some c) right n w r k rest h =
      let tokens = spelled_enumerators all (punctuator M.Comma c ∷ punctuator M.CloseBrace right ∷ rest) in
      let room : length (enumerators_list all) ≤ length tokens = enumerators_room all (punctuator M.Comma c ∷ punctuator M.CloseBrace right ∷ rest) in
      let z : max 0 (depth_enumerators all) ≡ depth_enumerators all = omega arith in
      rw (
        add-one (length tokens),
        enumerators_read all true n w r k (suc (length tokens)) [] 0 (Some c) right rest refl h (omega arith),
        enumerators_again all,
        z,
        within (depth_enumerators all) k h,
      )

  pub enum_body_reads : (i : ℕ) (x : Option Spelling) (left : ℕ) (all : Trees.Enumerators) (comma : Option ℕ) (right : ℕ) → all ≢ Trees.no_enumerators
      → AreEnumerators types true all → EnumeratorsRead all → SpecifierReads (Trees.enum_body i x left all comma right)
  unfolding specifier_in
  enum_body_reads i None left all comma right n w r k rest d h = enum_body_read i None left all comma right n w r k rest (omega arith)
  enum_body_reads i (Some x) left all comma right n w r k rest d h = enum_body_read i (Some x) left all comma right n w r k rest (omega arith)
