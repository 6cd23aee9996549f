-- Reading the body of a structure from its spelling.
use Rattle.std.proofs.Common.{◌≡◌, ◌≢◌, ℕ, zero, suc, ◌+◌, ◌≤◌, max, List, [], ◌∷◌, ◌++◌, Option, Some, None, Bool, true, false, length, refl, ◌∙◌}
use Rattle.std.proofs.Common.{arith, append_assoc, add-one}
use Rattle.c_tokens.specs.declared.punctuator.Punctuator.TheVariants as M
use Rattle.c_ast.specs.declared.words.Spelling.{Spelling}
use Rattle.c_ast.specs.Trees
use Rattle.c_ast.specs.Spelling.{Lexeme, punctuator, spelled_specifiers, spelled_member_declarations, spelled_member_declarators, spelled_declarator}
use Rattle.c_ast.specs.WellFormed.{AreSpecifiers, AreMemberDeclarations, AreMemberDeclarators}
use Rattle.c_ast.specs.Sizes.{depth_specifiers, depth_member_declarations, depth_member_declarators, depth_declarator}
use Rattle.c_grammar.specs.Reading.{chain, fronted, is_left_brace, is_right_brace, begins_specifier, member_declarator_step, member_declaration_in}
use Rattle.c_grammar.specs.Reading.{member_declaration_step, struct_body_in, specifier_in, at}
use Rattle.c_grammar.proofs.Follow.{within}
use Rattle.c_grammar.proofs.Beginnings.{right_brace_at_specifiers, left_brace_at_declarators, specifiers_front, declarator_front, declarator_no_specifier}
use Rattle.c_grammar.proofs.Lists.{member_declarators_list, member_declarators_again, member_declarations_list, member_declarations_again, is_new}
use Rattle.c_grammar.proofs.Lists.{not_new, comma_read}
use Rattle.c_grammar.proofs.Lengths.{member_declarators_room, member_declarations_room}
use Rattle.c_grammar.proofs.SpecifierReads.{SpecifierReads, SpecifiersRead, specifiers_inside}
use Rattle.c_grammar.proofs.DeclaratorReads.{DeclaratorReads, declarator_inside}

module _ (types : List (List ℕ)) where
  abbrev pub MemberDeclaratorsRead : Trees.MemberDeclarators → Type 0
  MemberDeclaratorsRead Trees.no_member_declarators = Unit {0}
  MemberDeclaratorsRead (Trees.and_member_declarator comma t more) = DeclaratorReads types t × MemberDeclaratorsRead more

  abbrev pub MemberDeclarationsRead : Trees.MemberDeclarations → Type 0
  MemberDeclarationsRead Trees.no_member_declarations = Unit {0}
  MemberDeclarationsRead (Trees.and_member_declaration specs member_declarators semicolon more) =
      SpecifiersRead types specs × MemberDeclaratorsRead member_declarators × MemberDeclarationsRead more

  -- ---- the declarators of a line

  member_declarators_read : (all : Trees.MemberDeclarators) (first : Bool) → all ≢ Trees.no_member_declarators → AreMemberDeclarators types first all
      → MemberDeclaratorsRead all → (k s : ℕ) (done : List (Option ℕ × Trees.Declarator)) (d semicolon : ℕ) (rest : List Lexeme) → first ≡ is_new done
      → depth_member_declarators all ≤ k → length (member_declarators_list all) ≤ s
      → chain (member_declarator_step (at types k)) s done d (spelled_member_declarators all (punctuator M.Semicolon semicolon ∷ rest))
      ≡ Some (done ++ member_declarators_list all, max d (depth_member_declarators all), punctuator M.Semicolon semicolon ∷ rest)
  unfolding chain member_declarator_step
  member_declarators_read Trees.no_member_declarators first n w r k s done d semicolon rest e h l = absurd (n refl)
  member_declarators_read (Trees.and_member_declarator c t more) first n w r k zero done d semicolon rest e h l = absurd (omega arith)
  member_declarators_read (Trees.and_member_declarator c t Trees.no_member_declarators) first n w r k (suc s) done d semicolon rest e h l =
      let tail = punctuator M.Semicolon semicolon ∷ rest in
      let z : max (depth_declarator t) 0 ≡ depth_declarator t = omega arith in
      rw (comma_read done first c (spelled_declarator t tail) e w.0, declarator_inside types t r.0 k tail (omega arith) refl, w.2, z)
  member_declarators_read (Trees.and_member_declarator c t (Trees.and_member_declarator None u more)) first n w r k
      (suc s) done d semicolon rest e h l = let f : false ≡ true = w.3.0 in cc
  member_declarators_read (Trees.and_member_declarator c t (Trees.and_member_declarator (Some i) u more)) first n w r k (suc s) done d semicolon rest e h l =
      let two = Trees.and_member_declarator (Some i) u more in
      let tail = spelled_member_declarators two (punctuator M.Semicolon semicolon ∷ rest) in
      let z : max (max d (depth_declarator t)) (depth_member_declarators two) ≡ max d (max (depth_declarator t) (depth_member_declarators two)) = omega arith in
      rw (comma_read done first c (spelled_declarator t tail) e w.0, declarator_inside types t r.0 k tail (omega arith) refl, w.2)
      (member_declarators_read two false (λ q. cc) w.3 r.1 k s (done ++ (c, t) ∷ []) (max d (depth_declarator t)) semicolon rest (not_new done (c, t))
      (omega arith) (omega arith)
      ∙ rw (append_assoc done ((c, t) ∷ []) (member_declarators_list two), z))

  -- ---- lines

  member_declarators_no_specifier : (all : Trees.MemberDeclarators) → all ≢ Trees.no_member_declarators → AreMemberDeclarators types true all
      → (semicolon : ℕ) (rest : List Lexeme) → begins_specifier types (spelled_member_declarators all (punctuator M.Semicolon semicolon ∷ rest)) ≡ false
  member_declarators_no_specifier Trees.no_member_declarators n w semicolon rest = absurd (n refl)
  member_declarators_no_specifier (Trees.and_member_declarator (Some i) t more) n w semicolon rest = refl
  member_declarators_no_specifier (Trees.and_member_declarator None t Trees.no_member_declarators) n w semicolon rest =
      declarator_no_specifier types t w.1 _ refl
  member_declarators_no_specifier (Trees.and_member_declarator None t (Trees.and_member_declarator None u more)) n w semicolon rest = let f : false
      ≡ true = w.3.0 in cc
  member_declarators_no_specifier (Trees.and_member_declarator None t (Trees.and_member_declarator (Some i) u more)) n w semicolon rest =
      declarator_no_specifier types t w.1 _ refl

  member_declarators_no_brace : (all : Trees.MemberDeclarators) → all ≢ Trees.no_member_declarators → AreMemberDeclarators types true all
      → (semicolon : ℕ) (rest : List Lexeme) → fronted is_left_brace (spelled_member_declarators all (punctuator M.Semicolon semicolon ∷ rest)) ≡ false
  member_declarators_no_brace Trees.no_member_declarators n w semicolon rest = absurd (n refl)
  member_declarators_no_brace (Trees.and_member_declarator (Some i) t more) n w semicolon rest = refl
  member_declarators_no_brace (Trees.and_member_declarator None t Trees.no_member_declarators) n w semicolon rest =
      declarator_front types is_left_brace (left_brace_at_declarators types) t _ refl
  member_declarators_no_brace (Trees.and_member_declarator None t (Trees.and_member_declarator None u more)) n w semicolon rest = let f : false
      ≡ true = w.3.0 in cc
  member_declarators_no_brace (Trees.and_member_declarator None t (Trees.and_member_declarator (Some i) u more)) n w semicolon rest =
      declarator_front types is_left_brace (left_brace_at_declarators types) t _ refl

  pub member_declaration_inside : (specs : Trees.Specifiers) (member_declarators : Trees.MemberDeclarators) → AreSpecifiers types specs
      → member_declarators ≢ Trees.no_member_declarators → AreMemberDeclarators types true member_declarators → SpecifiersRead types specs
      → MemberDeclaratorsRead member_declarators → (k semicolon : ℕ) (rest : List Lexeme)
      → max (depth_specifiers specs) (depth_member_declarators member_declarators) + 1 ≤ k
      → (at types k).member_declaration (spelled_specifiers specs
      (spelled_member_declarators member_declarators (punctuator M.Semicolon semicolon ∷ rest)))
      ≡ Some ((specs, member_declarators, semicolon), max (depth_specifiers specs) (depth_member_declarators member_declarators) + 1, rest)
  unfolding member_declaration_in
  member_declaration_inside specs _ w n v rs rf zero semicolon rest h = absurd (omega arith)
  member_declaration_inside specs member_declarators w n v rs rf (suc k) semicolon rest h =
      let tokens = spelled_member_declarators member_declarators (punctuator M.Semicolon semicolon ∷ rest) in
      let room : length (member_declarators_list member_declarators) ≤ length tokens =
      member_declarators_room types member_declarators v (punctuator M.Semicolon semicolon) rest in
      rw (
        specifiers_inside types specs w rs k tokens (omega arith) (member_declarators_no_specifier member_declarators n v semicolon rest)
            (member_declarators_no_brace member_declarators n v semicolon rest),
        add-one (length tokens),
        member_declarators_read member_declarators true n v rf k (suc (length tokens)) [] (depth_specifiers specs) semicolon rest refl (omega arith)
            (omega arith),
        member_declarators_again member_declarators,
        within (max (depth_specifiers specs) (depth_member_declarators member_declarators)) k (omega arith),
      )

  member_declarations_read : (all : Trees.MemberDeclarations) → all ≢ Trees.no_member_declarations → AreMemberDeclarations types all
      → MemberDeclarationsRead all → (k s : ℕ) (done : List (Trees.Specifiers × Trees.MemberDeclarators × ℕ)) (d right : ℕ) (rest : List Lexeme)
      → depth_member_declarations all ≤ k → length (member_declarations_list all) ≤ s
      → chain (member_declaration_step (at types k)) s done d (spelled_member_declarations all (punctuator M.CloseBrace right ∷ rest))
      ≡ Some (done ++ member_declarations_list all, max d (depth_member_declarations all), punctuator M.CloseBrace right ∷ rest)
  unfolding chain member_declaration_step
  member_declarations_read Trees.no_member_declarations n w r k s done d right rest h l = absurd (n refl)
  member_declarations_read (Trees.and_member_declaration specs _ semicolon more) n w r k zero done d right rest h l = absurd (omega arith)
  member_declarations_read (Trees.and_member_declaration specs member_declarators semicolon Trees.no_member_declarations) n w r k
      (suc s) done d right rest h l =
      let here = max (depth_specifiers specs) (depth_member_declarators member_declarators) + 1 in
      let z : max here 0 ≡ here = omega arith in
      rw (member_declaration_inside specs member_declarators w.0 w.1 w.2 r.0 r.1 k semicolon (punctuator M.CloseBrace right ∷ rest) (omega arith), z)
  member_declarations_read (Trees.and_member_declaration specs member_declarators semicolon
      (Trees.and_member_declaration others more_member_declarators i more)) n w r k (suc s) done d right rest h l =
      let here = max (depth_specifiers specs) (depth_member_declarators member_declarators) + 1 in
      let two = Trees.and_member_declaration others more_member_declarators i more in
      let tail = spelled_member_declarations two (punctuator M.CloseBrace right ∷ rest) in
      let z : max (max d here) (depth_member_declarations two) ≡ max d (max here (depth_member_declarations two)) = omega arith in
      rw (
        member_declaration_inside specs member_declarators w.0 w.1 w.2 r.0 r.1 k semicolon tail (omega arith),
        specifiers_front types is_right_brace (right_brace_at_specifiers types) others w.3.0
            (spelled_member_declarators more_member_declarators
            (punctuator M.Semicolon i ∷ spelled_member_declarations more (punctuator M.CloseBrace right ∷ rest))),
      )
      (member_declarations_read two (λ q. cc) w.3 r.2 k s (done ++ (specs, member_declarators, semicolon) ∷ []) (max d here) right rest (omega arith)
      (omega arith)
      ∙ rw (append_assoc done ((specs, member_declarators, semicolon) ∷ []) (member_declarations_list two), z))

  struct_body_read : (i : ℕ) (x : Option Spelling) (left : ℕ) (member_declarations : Trees.MemberDeclarations) (right : ℕ)
      → member_declarations ≢ Trees.no_member_declarations → AreMemberDeclarations types member_declarations
      → MemberDeclarationsRead member_declarations → (k : ℕ) (rest : List Lexeme) → depth_member_declarations member_declarations ≤ k
      → struct_body_in k (at types k) i x (punctuator M.OpenBrace left ∷ spelled_member_declarations member_declarations
      (punctuator M.CloseBrace right ∷ rest)) ≡ Some (
        Trees.struct_body i x left member_declarations right,
        depth_member_declarations member_declarations + 1,
        rest,
      )
  unfolding struct_body_in
  struct_body_read i x left member_declarations right n w r k rest h =
      let tokens = spelled_member_declarations member_declarations (punctuator M.CloseBrace right ∷ rest) in
      let room : length (member_declarations_list member_declarations) ≤ length tokens =
      member_declarations_room member_declarations (punctuator M.CloseBrace right ∷ rest) in
      let z : max 0 (depth_member_declarations member_declarations) ≡ depth_member_declarations member_declarations = omega arith in
      rw (
        add-one (length tokens),
        member_declarations_read member_declarations n w r k (suc (length tokens)) [] 0 right rest h (omega arith),
        member_declarations_again member_declarations,
        z,
        within (depth_member_declarations member_declarations) k h,
      )

  pub struct_body_reads : (i : ℕ) (x : Option Spelling) (left : ℕ) (member_declarations : Trees.MemberDeclarations) (right : ℕ)
      → member_declarations ≢ Trees.no_member_declarations → AreMemberDeclarations types member_declarations
      → MemberDeclarationsRead member_declarations → SpecifierReads types (Trees.struct_body i x left member_declarations right)
  unfolding specifier_in
  struct_body_reads i None left member_declarations right n w r k rest d h = struct_body_read i None left member_declarations right n w r k rest (omega arith)
  struct_body_reads i (Some x) left member_declarations right n w r k rest d h =
      struct_body_read i (Some x) left member_declarations right n w r k rest (omega arith)
