-- Specifiers, with the lines of structures and the enumerators: what is read is spelled so.
use Rattle.std.proofs.Common.{◌≡◌, ◌≢◌, ℕ, suc, ◌+◌, max, List, [], ◌∷◌, length, Option, Some, None, Bool, true, false, ◌&&◌, refl, ap, sym, ◌∙◌, subst, arith}
use Rattle.lay_base.specs.declared.faults.Keyword.{Keyword}
use Rattle.lay_base.specs.declared.faults.Keyword.TheVariants as W
use Rattle.c_tokens.specs.declared.punctuator.Punctuator.TheVariants as M
use Rattle.c_tokens.specs.declared.token.TokenKind.TheVariants as K
use Rattle.c_ast.specs.declared.words.Spelling.{Spelling}
use Rattle.c_ast.specs.declared.operators.SpecifierKeyword.{SpecifierKeyword}
use Rattle.c_ast.specs.Trees
use Rattle.c_ast.specs.Spelling.{Lexeme, punctuator, keyword, word, specifier_keyword, spelled_comma, spelled_tag, spelled_declarator}
use Rattle.c_ast.specs.Spelling.{spelled_specifiers, spelled_specifier, spelled_member_declarations, spelled_member_declarators, spelled_enumerators}
use Rattle.c_ast.specs.Spelling.{spelled_enumerator_value}
use Rattle.c_ast.specs.WellFormed.{has_name, is_typename, IsComma, IsDeclarator, IsSpecifier, AreSpecifiers, AreMoreSpecifiers, AreMemberDeclarations}
use Rattle.c_ast.specs.WellFormed.{AreMemberDeclarators, AreEnumerators, IsEnumeratorValue}
use Rattle.c_ast.specs.Sizes.{depth_declarator, depth_specifiers, depth_specifier, depth_member_declarations, depth_member_declarators}
use Rattle.c_ast.specs.Sizes.{depth_enumerators, depth_enumerator_value}
use Rattle.c_ast.specs.Views.{specifiers_of, member_declarations_of, member_declarators_of, enumerators_of}
use Rattle.c_grammar.proofs.Wholeness.{AreWhole}
use Rattle.c_grammar.specs.Reading.{Reader, Inner, after, fronted, is_equal, is_left_brace, is_struct, is_enum, is_name, keyword_specifier}
use Rattle.c_grammar.specs.Reading.{comma_if_any, tag_if_any, member_declarator_step, member_declaration_in, member_declaration_step, struct_body_in}
use Rattle.c_grammar.specs.Reading.{enumerator_value_after, enumerator_in, enumerator_step, enum_body_in, tagged_in, specified_in, specifier_in}
use Rattle.c_grammar.specs.Reading.{specifier_step, specifiers_in}
use Rattle.c_grammar.proofs.Fronts.{bind_taken, given, chosen, both, deeper_taken, specifier_kind, says_some, struct_kind, enum_kind, keyword_whole}
use Rattle.c_grammar.proofs.Fronts.{name_word, front_whole, rest_whole, left_brace_taken, right_brace_taken, semicolon_taken, equal_taken}
use Rattle.c_grammar.proofs.Fronts.{plain_name_taken, comma_before_taken, comma_if_any_taken, tag_if_any_taken}
use Rattle.c_grammar.proofs.Chains.{Listing, added, Grows, list_taken, some_more, IsSome}
use Rattle.c_grammar.proofs.Taken.{Took, Reads, spelled_member_declaration, IsMemberDeclaration, depth_member_declaration, spelled_enumerator}
use Rattle.c_grammar.proofs.Taken.{IsEnumerator, depth_enumerator, IsSound}

abbrev member_declarators_listing : List (List ℕ) → Listing (Option ℕ × Trees.Declarator)
member_declarators_listing types = record {
  spelled_all = λ all rest. spelled_member_declarators (member_declarators_of all) rest;
  spelled_one = λ f rest. spelled_comma f.0 (spelled_declarator f.1 rest);
  depth_all = λ all. depth_member_declarators (member_declarators_of all);
  depth_one = λ f. depth_declarator f.1;
  AreAll = λ first all. AreMemberDeclarators types first (member_declarators_of all);
  IsOne = λ first f. IsComma first f.0 × IsDeclarator types f.1 × (has_name f.1 ≡ true);
  spelled_none = λ rest. refl;
  spelled_more = λ f more rest. refl;
  depth_none = refl;
  depth_more = λ f more. refl;
  are_none = λ first. tt;
  are_more = λ first f more i w. (i.0, i.1, i.2, w);
}

abbrev member_declarations_listing : List (List ℕ) → Listing (Trees.Specifiers × Trees.MemberDeclarators × ℕ)
member_declarations_listing types = record {
  spelled_all = λ all rest. spelled_member_declarations (member_declarations_of all) rest;
  spelled_one = spelled_member_declaration;
  depth_all = λ all. depth_member_declarations (member_declarations_of all);
  depth_one = depth_member_declaration;
  AreAll = λ first all. AreMemberDeclarations types (member_declarations_of all);
  IsOne = λ first member_declaration. IsMemberDeclaration types member_declaration;
  spelled_none = λ rest. refl;
  spelled_more = λ member_declaration more rest. refl;
  depth_none = refl;
  depth_more = λ member_declaration more. refl;
  are_none = λ first. tt;
  are_more = λ first member_declaration more i w. (i.0, i.1, i.2, w);
}

abbrev enumerators_listing : List (List ℕ) → Listing (Option ℕ × Spelling × Trees.EnumeratorValue)
enumerators_listing types = record {
  spelled_all = λ all rest. spelled_enumerators (enumerators_of all) rest;
  spelled_one = λ e rest. spelled_comma e.0 (word K.Name e.1 ∷ spelled_enumerator_value e.2 rest);
  depth_all = λ all. depth_enumerators (enumerators_of all);
  depth_one = λ e. depth_enumerator_value e.2 + 1;
  AreAll = λ first all. AreEnumerators types first (enumerators_of all);
  IsOne = λ first e. IsComma first e.0 × (is_typename types e.1.text ≡ false) × IsEnumeratorValue types e.2;
  spelled_none = λ rest. refl;
  spelled_more = λ e more rest. refl;
  depth_none = refl;
  depth_more = λ e more. refl;
  are_none = λ first. tt;
  are_more = λ first e more i w. (i.0, i.1, i.2, w);
}

abbrev specifiers_listing : List (List ℕ) → Listing Trees.Specifier
specifiers_listing types = record {
  spelled_all = λ all rest. spelled_specifiers (specifiers_of all) rest;
  spelled_one = spelled_specifier;
  depth_all = λ all. depth_specifiers (specifiers_of all);
  depth_one = depth_specifier;
  AreAll = λ first all. AreMoreSpecifiers types (specifiers_of all);
  IsOne = λ first s. IsSpecifier types s;
  spelled_none = λ rest. refl;
  spelled_more = λ s more rest. refl;
  depth_none = refl;
  depth_more = λ s more. refl;
  are_none = λ first. tt;
  are_more = λ first s more i w. (i, w);
}

some_member_declarators : (all : List (Option ℕ × Trees.Declarator)) → all ≢ [] → member_declarators_of all ≢ Trees.no_member_declarators
some_member_declarators [] s e = s refl
some_member_declarators (f ∷ all) s e = cc

some_member_declarations : (all : List (Trees.Specifiers × Trees.MemberDeclarators × ℕ)) → all ≢ [] → member_declarations_of all ≢ Trees.no_member_declarations
some_member_declarations [] s e = s refl
some_member_declarations (member_declaration ∷ all) s e = cc

some_enumerators : (all : List (Option ℕ × Spelling × Trees.EnumeratorValue)) → all ≢ [] → enumerators_of all ≢ Trees.no_enumerators
some_enumerators [] s e = s refl
some_enumerators (x ∷ all) s e = cc

some_specifiers : (types : List (List ℕ)) (all : List Trees.Specifier) → all ≢ [] → AreMoreSpecifiers types (specifiers_of all)
    → AreSpecifiers types (specifiers_of all)
some_specifiers types [] s w = absurd (s refl)
some_specifiers types (x ∷ all) s w = w

module _ (types : List (List ℕ)) (k : ℕ) (inner : Inner) (sound : IsSound types k inner) where
  abbrev TookSpecifier : List Lexeme → Trees.Specifier × ℕ × List Lexeme → Type 0
  TookSpecifier tokens y = Took spelled_specifier (IsSpecifier types) depth_specifier (suc k) tokens y

  -- ---- structures

  member_declarator_grows : (done : List (Option ℕ × Trees.Declarator)) (d : ℕ) (tokens : List Lexeme)
      (r : List (Option ℕ × Trees.Declarator) × ℕ × List Lexeme × Bool) → AreWhole tokens → member_declarator_step inner done d tokens ≡ Some r
      → Grows (member_declarators_listing types) k IsSome done d tokens r
  unfolding member_declarator_step
  member_declarator_grows done d tokens r w h =
      let c = bind_taken _ (comma_before_taken done tokens w) h in
      let s = bind_taken _ (sound.declarator c.0.1 c.1.2) c.2 in
      chosen (has_name s.0.0) _ _ r (Grows (member_declarators_listing types) k IsSome done d tokens r) s.2
      (λ n h. given (Grows (member_declarators_listing types) k IsSome done d tokens) _ r h (
        added (c.0.0, s.0.0) refl (ap (λ z. max d z) s.1.deep) (c.1.0 ∙ ap (λ z. spelled_comma c.0.0 z) s.1.spelled_so) (c.1.1, s.1.well_formed, n)
            (omega (arith, s.1.deep, s.1.within)) s.1.whole,
        λ _. some_more done (c.0.0, s.0.0),
      ))
      (λ n h. cc)

  pub member_declaration_reads : Reads spelled_member_declaration (IsMemberDeclaration types) depth_member_declaration (suc k) (member_declaration_in k inner)
  unfolding member_declaration_in
  member_declaration_reads tokens w y h =
      let specs = bind_taken _ (sound.specifiers tokens w) h in
      let all = bind_taken _ (list_taken (member_declarators_listing types) k IsSome (member_declarator_step inner) member_declarator_grows
      (length specs.0.2 + 1) specs.0.1 specs.1.within specs.0.2 specs.1.whole) specs.2 in
      let semicolon = bind_taken _ (semicolon_taken all.0.2 all.1.whole) all.2 in
      let d = bind_taken _ (deeper_taken k all.0.1) semicolon.2 in
      given (Took spelled_member_declaration (IsMemberDeclaration types) depth_member_declaration (suc k) tokens) _ y d.2 (record {
        spelled_so = specs.1.spelled_so ∙ ap (λ z. spelled_specifiers specs.0.0 z) (all.1.spelled_so
            ∙ ap (λ z. spelled_member_declarators (member_declarators_of all.0.0) z) semicolon.1.0);
        well_formed = (specs.1.well_formed, some_member_declarators all.0.0 all.1.ends, all.1.well_formed);
        deep = omega (arith, d.1.1, all.1.deep, specs.1.deep);
        within = omega (arith, d.1.0, d.1.1);
        whole = semicolon.1.1;
      })

  member_declaration_grows : (done : List (Trees.Specifiers × Trees.MemberDeclarators × ℕ)) (d : ℕ) (tokens : List Lexeme)
      (r : List (Trees.Specifiers × Trees.MemberDeclarators × ℕ) × ℕ × List Lexeme × Bool) → AreWhole tokens
      → member_declaration_step inner done d tokens ≡ Some r → Grows (member_declarations_listing types) k IsSome done d tokens r
  unfolding member_declaration_step
  member_declaration_grows done d tokens r w h =
      let member_declaration = bind_taken _ (sound.member_declaration tokens w) h in
      given (Grows (member_declarations_listing types) k IsSome done d tokens) _ r member_declaration.2 (
        added member_declaration.0.0 refl (ap (λ z. max d z) member_declaration.1.deep) member_declaration.1.spelled_so
            member_declaration.1.well_formed (omega (arith, member_declaration.1.deep, member_declaration.1.within)) member_declaration.1.whole,
        λ _. some_more done member_declaration.0.0,
      )

  struct_body_reads : (at : ℕ) (tag : Option Spelling) (tokens : List Lexeme) → AreWhole tokens → (y : Trees.Specifier × ℕ × List Lexeme)
      → struct_body_in k inner at tag tokens ≡ Some y → TookSpecifier (keyword W.Struct at ∷ spelled_tag tag tokens) y
  unfolding struct_body_in
  struct_body_reads at tag tokens w y h =
      let left = bind_taken _ (left_brace_taken tokens w) h in
      let all = bind_taken _ (list_taken (member_declarations_listing types) k IsSome (member_declaration_step inner) member_declaration_grows
      (length left.0.1 + 1) 0 (omega arith) left.0.1 left.1.1) left.2 in
      let right = bind_taken _ (right_brace_taken all.0.2 all.1.whole) all.2 in
      let d = bind_taken _ (deeper_taken k all.0.1) right.2 in
      given (TookSpecifier (keyword W.Struct at ∷ spelled_tag tag tokens)) _ y d.2 (record {
        spelled_so = ap (λ z. keyword W.Struct at ∷ spelled_tag tag z) (left.1.0
            ∙ ap (λ z. punctuator M.OpenBrace left.0.0 ∷ z) (all.1.spelled_so
            ∙ ap (λ z. spelled_member_declarations (member_declarations_of all.0.0) z) right.1.0));
        well_formed = (some_member_declarations all.0.0 all.1.ends, all.1.well_formed);
        deep = omega (arith, d.1.1, all.1.deep);
        within = omega (arith, d.1.0, d.1.1);
        whole = right.1.1;
      })

  -- ---- enumerations

  enumerator_value_takes : (x : Spelling) (rest : List Lexeme) (o : Option (ℕ × List Lexeme)) → is_typename types x.text ≡ false → AreWhole rest
      → after is_equal rest ≡ o → (y : (Spelling × Trees.EnumeratorValue) × ℕ × List Lexeme) → enumerator_value_after k inner x rest o ≡ Some y
      → Took spelled_enumerator (IsEnumerator types) depth_enumerator (suc k) (word K.Name x ∷ rest) y
  enumerator_value_takes x rest None n w e y h =
      given (Took spelled_enumerator (IsEnumerator types) depth_enumerator (suc k) (word K.Name x ∷ rest)) _ y h
      (record { spelled_so = refl; well_formed = (n, tt); deep = refl; within = omega arith; whole = w })
  enumerator_value_takes x rest (Some equal) n w e y h =
      let q = equal_taken rest w equal e in
      let a = bind_taken _ (sound.conditional equal.1 q.1) h in
      let d = bind_taken _ (deeper_taken k a.0.1) a.2 in
      given (Took spelled_enumerator (IsEnumerator types) depth_enumerator (suc k) (word K.Name x ∷ rest)) _ y d.2 (record {
        spelled_so = ap (λ z. word K.Name x ∷ z) (q.0 ∙ ap (λ z. punctuator M.Equal equal.0 ∷ z) a.1.spelled_so);
        well_formed = (n, a.1.well_formed);
        deep = omega (arith, d.1.1, a.1.deep);
        within = omega (arith, d.1.0, d.1.1);
        whole = a.1.whole;
      })

  pub enumerator_reads : Reads spelled_enumerator (IsEnumerator types) depth_enumerator (suc k) (enumerator_in types k inner)
  unfolding enumerator_in
  enumerator_reads tokens w y h =
      let x = bind_taken _ (plain_name_taken types tokens w) h in
      rw x.1.0 (enumerator_value_takes x.0.0 x.0.1 (after is_equal x.0.1) x.1.2 x.1.1 refl y x.2)

  enumerator_grows : (done : List (Option ℕ × Spelling × Trees.EnumeratorValue)) (d : ℕ) (tokens : List Lexeme)
      (r : List (Option ℕ × Spelling × Trees.EnumeratorValue) × ℕ × List Lexeme × Bool) → AreWhole tokens → enumerator_step inner done d tokens
      ≡ Some r → Grows (enumerators_listing types) k IsSome done d tokens r
  unfolding enumerator_step
  enumerator_grows done d tokens r w h =
      let c = bind_taken _ (comma_before_taken done tokens w) h in
      let e = bind_taken _ (sound.enumerator c.0.1 c.1.2) c.2 in
      given (Grows (enumerators_listing types) k IsSome done d tokens) _ r e.2 (
        added (c.0.0, e.0.0.0, e.0.0.1) refl (ap (λ z. max d z) e.1.deep) (c.1.0 ∙ ap (λ z. spelled_comma c.0.0 z) e.1.spelled_so)
            (c.1.1, e.1.well_formed.0, e.1.well_formed.1) (omega (arith, e.1.deep, e.1.within)) e.1.whole,
        λ _. some_more done (c.0.0, e.0.0.0, e.0.0.1),
      )

  enum_body_reads : (at : ℕ) (tag : Option Spelling) (tokens : List Lexeme) → AreWhole tokens → (y : Trees.Specifier × ℕ × List Lexeme)
      → enum_body_in k inner at tag tokens ≡ Some y → TookSpecifier (keyword W.Enum at ∷ spelled_tag tag tokens) y
  unfolding enum_body_in
  enum_body_reads at tag tokens w y h =
      let left = bind_taken _ (left_brace_taken tokens w) h in
      let all = bind_taken _ (list_taken (enumerators_listing types) k IsSome (enumerator_step inner) enumerator_grows (length left.0.1 + 1) 0
      (omega arith) left.0.1 left.1.1) left.2 in
      let comma = comma_if_any_taken all.0.2 all.1.whole in
      let right = bind_taken _ (right_brace_taken (comma_if_any all.0.2).1 comma.1) all.2 in
      let d = bind_taken _ (deeper_taken k all.0.1) right.2 in
      given (TookSpecifier (keyword W.Enum at ∷ spelled_tag tag tokens)) _ y d.2 (record {
        spelled_so = ap (λ z. keyword W.Enum at ∷ spelled_tag tag z) (left.1.0
            ∙ ap (λ z. punctuator M.OpenBrace left.0.0 ∷ z) (all.1.spelled_so
            ∙ ap (λ z. spelled_enumerators (enumerators_of all.0.0) z) (comma.0 ∙ ap (λ z. spelled_comma (comma_if_any all.0.2).0 z) right.1.0)));
        well_formed = (some_enumerators all.0.0 all.1.ends, all.1.well_formed);
        deep = omega (arith, d.1.1, all.1.deep);
        within = omega (arith, d.1.0, d.1.1);
        whole = right.1.1;
      })

  -- ---- specifiers

  tagged_takes : (which : Keyword) (at : ℕ) (named : Spelling → Trees.Specifier) (body : Option Spelling → Reader Trees.Specifier)
      → ((x : Spelling) (rest : List Lexeme) → AreWhole rest → TookSpecifier (keyword which at ∷ word K.Name x ∷ rest) (named x, 1, rest))
      → ((tag : Option Spelling) (rest : List Lexeme) → AreWhole rest → (y : Trees.Specifier × ℕ × List Lexeme) → body tag rest ≡ Some y
      → TookSpecifier (keyword which at ∷ spelled_tag tag rest) y)
      → (tag : Option Spelling) (rest : List Lexeme) → AreWhole rest → (y : Trees.Specifier × ℕ × List Lexeme) → tagged_in named body (tag, rest)
      ≡ Some y → TookSpecifier (keyword which at ∷ spelled_tag tag rest) y
  tagged_takes which at named body f g None rest w y h = g None rest w y h
  tagged_takes which at named body f g (Some x) rest w y h =
      chosen (fronted is_left_brace rest) _ _ y (TookSpecifier (keyword which at ∷ word K.Name x ∷ rest) y) h
      (λ _ h. g (Some x) rest w y h)
      (λ _ h. given (TookSpecifier (keyword which at ∷ word K.Name x ∷ rest)) _ y h (f x rest w))

  struct_reads : (at : ℕ) (tokens : List Lexeme) → AreWhole tokens → (y : Trees.Specifier × ℕ × List Lexeme)
      → tagged_in (Trees.struct_named at) (struct_body_in k inner at) (tag_if_any tokens) ≡ Some y → TookSpecifier (keyword W.Struct at ∷ tokens) y
  struct_reads at tokens w y h =
      let p = tag_if_any_taken tokens w in
      subst (λ z. TookSpecifier (keyword W.Struct at ∷ z) y) (sym p.0)
      (tagged_takes W.Struct at (Trees.struct_named at) (struct_body_in k inner at)
      (λ x rest w. record { spelled_so = refl; well_formed = tt; deep = refl; within = omega arith; whole = w }) (struct_body_reads at)
      (tag_if_any tokens).0 (tag_if_any tokens).1 p.1 y h)

  enum_reads : (at : ℕ) (tokens : List Lexeme) → AreWhole tokens → (y : Trees.Specifier × ℕ × List Lexeme)
      → tagged_in (Trees.enum_named at) (enum_body_in k inner at) (tag_if_any tokens) ≡ Some y → TookSpecifier (keyword W.Enum at ∷ tokens) y
  enum_reads at tokens w y h =
      let p = tag_if_any_taken tokens w in
      subst (λ z. TookSpecifier (keyword W.Enum at ∷ z) y) (sym p.0)
      (tagged_takes W.Enum at (Trees.enum_named at) (enum_body_in k inner at)
      (λ x rest w. record { spelled_so = refl; well_formed = tt; deep = refl; within = omega arith; whole = w }) (enum_body_reads at)
      (tag_if_any tokens).0 (tag_if_any tokens).1 p.1 y h)

  specified_takes : (t : Lexeme) (rest : List Lexeme) (o : Option SpecifierKeyword) → AreWhole (t ∷ rest) → keyword_specifier t.kind ≡ o
      → (y : Trees.Specifier × ℕ × List Lexeme) → specified_in types k inner (t ∷ rest) o ≡ Some y → TookSpecifier (t ∷ rest) y
  specified_takes t rest (Some s) w e y h =
      given (TookSpecifier (t ∷ rest)) _ y h (record {
        spelled_so = ap (λ z. z ∷ rest) (keyword_whole t (specifier_keyword s) (front_whole t rest w)
            (says_some t.kind (keyword_specifier t.kind) s (specifier_kind t.kind) e));
        well_formed = tt;
        deep = refl;
        within = omega arith;
        whole = rest_whole t rest w;
      })
  specified_takes t rest None w e y h =
      chosen (is_struct t.kind) _ _ y (TookSpecifier (t ∷ rest) y) h
      (λ c h. rw (keyword_whole t W.Struct (front_whole t rest w) (struct_kind t.kind c)) (struct_reads t.from rest (rest_whole t rest w) y h))
      (λ _ h. chosen (is_enum t.kind) _ _ y (TookSpecifier (t ∷ rest) y) h
      (λ c h. rw (keyword_whole t W.Enum (front_whole t rest w) (enum_kind t.kind c)) (enum_reads t.from rest (rest_whole t rest w) y h))
      (λ _ h. chosen (is_name t.kind && is_typename types t.text) _ _ y (TookSpecifier (t ∷ rest) y) h
      (λ c h.
      let b = both (is_name t.kind) (is_typename types t.text) c in
      given (TookSpecifier (t ∷ rest)) _ y h (record {
        spelled_so = ap (λ z. z ∷ rest) (name_word t b.0);
        well_formed = b.1;
        deep = refl;
        within =
            omega arith;
        whole = rest_whole t rest w;
      }))
      (λ _ h. cc)))

  specifier_reads : Reads spelled_specifier (IsSpecifier types) depth_specifier (suc k) (specifier_in types k inner)
  unfolding specifier_in
  specifier_reads [] w y h = cc
  specifier_reads (t ∷ rest) w y h = specified_takes t rest (keyword_specifier t.kind) w refl y h

  specifier_grows : (done : List Trees.Specifier) (d : ℕ) (tokens : List Lexeme) (r : List Trees.Specifier × ℕ × List Lexeme × Bool) → AreWhole tokens
      → specifier_step types k inner done d tokens ≡ Some r → Grows (specifiers_listing types) (suc k) IsSome done d tokens r
  unfolding specifier_step
  specifier_grows done d tokens r w h =
      let s = bind_taken _ (specifier_reads tokens w) h in
      given (Grows (specifiers_listing types) (suc k) IsSome done d tokens) _ r s.2
      (added s.0.0 refl (ap (λ z. max d z) s.1.deep) s.1.spelled_so s.1.well_formed (omega (arith, s.1.deep, s.1.within)) s.1.whole, λ _. some_more done s.0.0)

  pub specifiers_read : Reads spelled_specifiers (AreSpecifiers types) depth_specifiers (suc k) (specifiers_in types k inner)
  unfolding specifiers_in
  specifiers_read tokens w y h =
      let all = bind_taken _ (list_taken (specifiers_listing types) (suc k) IsSome (specifier_step types k inner) specifier_grows
      (length tokens + 1) 0 (omega arith) tokens w) h in
      given (Took spelled_specifiers (AreSpecifiers types) depth_specifiers (suc k) tokens) _ y all.2 (record {
        spelled_so = all.1.spelled_so;
        well_formed = some_specifiers types all.0.0 all.1.ends all.1.well_formed;
        deep = omega (arith, all.1.deep);
        within = all.1.within;
        whole = all.1.whole;
      })
