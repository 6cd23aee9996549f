-- Declarations: what is spelled is read.
use Rattle.std.proofs.Common.{◌≡◌, ◌≢◌, ℕ, zero, suc, ◌≤◌, max, List, [], ◌∷◌, ◌++◌, Option, Some, None, Bool, true, false, length, refl, ap}
use Rattle.std.proofs.Common.{sym, ◌∙◌, arith, append_assoc, add-one}
use Rattle.c_tokens.specs.declared.punctuator.Punctuator.TheVariants as M
use Rattle.c_tokens.specs.declared.token.TokenKind.{TokenKind}
use Rattle.c_tokens.specs.declared.token.TokenKind.TheVariants as K
use Rattle.c_ast.specs.Trees
use Rattle.c_ast.specs.Spelling.{Lexeme, punctuator, spelled_comma, spelled_declarator, spelled_value, spelled_init_declarators, spelled_specifiers}
use Rattle.c_ast.specs.Spelling.{spelled_declaration}
use Rattle.c_ast.specs.WellFormed.{IsComma, has_name, IsDeclarator, AreSpecifiers, IsValue, AreInitDeclarators, IsDeclaration}
use Rattle.c_ast.specs.Sizes.{depth_declarator, depth_specifiers, depth_value, depth_init_declarators, depth_declaration}
use Rattle.c_grammar.specs.Reading.{fronted, is_left_brace, is_comma, is_semicolon, begins_specifier, chain, at}
use Rattle.c_grammar.proofs.Follow.{pull, declarators_pull, no_equal}
use Rattle.c_grammar.proofs.Lists.{is_new, not_new, comma_read}
use Rattle.c_grammar.specs.StatementReading.{initial_at, valued_in, named_in, one_in, init_declarator_step, more_init_declarators, declarators_after}
use Rattle.c_grammar.specs.StatementReading.{declarators_in, declarators_if_any, declaration_in}
use Rattle.c_grammar.proofs.CompleteBelow.{IsComplete}
use Rattle.c_grammar.proofs.FirstTokens.{fronted_not, begins_declarator, declarator_start}
use Rattle.c_grammar.proofs.Longer.{init_declarators_count}
use Rattle.c_grammar.proofs.InitialComplete.{pull_comma, initial_read}

-- ---- look-ahead

pub not_left_brace : (kind : TokenKind) → begins_declarator kind ≡ true → is_left_brace kind ≡ false
not_left_brace (K.Punctuator M.OpenBrace) h = cc
not_left_brace kind h = refl

pub not_semicolon : (kind : TokenKind) → begins_declarator kind ≡ true → is_semicolon kind ≡ false
not_semicolon (K.Punctuator M.Semicolon) h = cc
not_semicolon kind h = refl

-- what stands after a declarator and its initializer
pull_after : (types : List (List ℕ)) (more : List Trees.InitDeclarator) → AreInitDeclarators types false more → (semicolon : ℕ) (rest : List Lexeme)
    → pull (spelled_init_declarators more (punctuator M.Semicolon semicolon ∷ rest)) ≤ 1
pull_after types [] w semicolon rest = omega arith
pull_after types (d ∷ more) w semicolon rest = pull_comma d.comma
    (spelled_declarator d.declarator (spelled_value d.value (spelled_init_declarators more (punctuator M.Semicolon semicolon ∷ rest)))) w.0

pub not_brace_after : (comma : Option ℕ) (rest : List Lexeme) → IsComma false comma → fronted is_left_brace (spelled_comma comma rest) ≡ false
not_brace_after None rest w = cc
not_brace_after (Some place) rest w = refl

comma_ends : (comma : Option ℕ) (rest : List Lexeme) → IsComma false comma → declarators_pull (spelled_comma comma rest) ≡ false
comma_ends None rest w = cc
comma_ends (Some place) rest w = refl

comma_fronted : (comma : Option ℕ) (rest : List Lexeme) → IsComma false comma → fronted is_comma (spelled_comma comma rest) ≡ true
comma_fronted None rest w = cc
comma_fronted (Some place) rest w = refl

init_declarators_end : (types : List (List ℕ)) (more : List Trees.InitDeclarator) → AreInitDeclarators types false more
    → (semicolon : ℕ) (rest : List Lexeme) → declarators_pull (spelled_init_declarators more (punctuator M.Semicolon semicolon ∷ rest)) ≡ false
init_declarators_end types [] w semicolon rest = refl
init_declarators_end types (d ∷ more) w semicolon rest = comma_ends d.comma
    (spelled_declarator d.declarator (spelled_value d.value (spelled_init_declarators more (punctuator M.Semicolon semicolon ∷ rest)))) w.0

-- a declarator ends before its initializer
pub value_ends : (types : List (List ℕ)) (value : Option (ℕ × Trees.Expression)) (more : List Trees.InitDeclarator)
    → AreInitDeclarators types false more → (semicolon : ℕ) (rest : List Lexeme)
    → declarators_pull (spelled_value value (spelled_init_declarators more (punctuator M.Semicolon semicolon ∷ rest))) ≡ false
value_ends types None more w semicolon rest = init_declarators_end types more w semicolon rest
value_ends types (Some value) more w semicolon rest = refl

pub comma_first : (comma : Option ℕ) (rest : List Lexeme) → IsComma true comma → spelled_comma comma rest ≡ rest
comma_first None rest w = refl
comma_first (Some place) rest w = cc

none_first : (comma : Option ℕ) → IsComma true comma → comma ≡ None
none_first None w = refl
none_first (Some place) w = cc

module _ (types : List (List ℕ)) (c : IsComplete types) where
  -- ---- one declarator

  valued_read : (value : Option (ℕ × Trees.Expression)) → IsValue types value
      → (k : ℕ) (comma : Option ℕ) (s : Trees.Declarator) (d : ℕ) (rest : List Lexeme) → depth_value value ≤ k → pull rest ≤ 1
      → valued_in (initial_at types k) comma s d (spelled_value value rest)
      ≡ Some (record { comma = comma; declarator = s; value = value }, max d (depth_value value), rest)
  unfolding valued_in
  valued_read None w k comma s d rest h p = let e : max d 0 ≡ d = omega arith in rw (no_equal rest p, e) refl
  valued_read (Some value) w k comma s d rest h p = rw (initial_read types c value.1 w k rest h p) refl

  pub named_read : (s : Trees.Declarator) → IsDeclarator types s → has_name s ≡ true → (k : ℕ) (rest : List Lexeme) → depth_declarator s ≤ k
      → declarators_pull rest ≡ false
      → named_in ((at types k).declarator) (spelled_declarator s rest) ≡ Some (s, depth_declarator s, rest)
  unfolding named_in
  named_read s w n k rest h e = rw (c.declarator_read s k rest w h e, n) refl

  -- ---- those after the first

  init_declarators_read : (all : List Trees.InitDeclarator) (one : Trees.InitDeclarator) → AreInitDeclarators types false (one ∷ all)
      → (k s : ℕ) (done : List Trees.InitDeclarator) (d : ℕ) (semicolon : ℕ) (rest : List Lexeme)
      → false ≡ is_new done → depth_init_declarators (one ∷ all) ≤ k → length all ≤ s
      → chain (init_declarator_step ((at types k).declarator) (initial_at types k)) (suc s) done d
      (spelled_init_declarators (one ∷ all) (punctuator M.Semicolon semicolon ∷ rest))
      ≡ Some (done ++ one ∷ all, max d (depth_init_declarators (one ∷ all)), punctuator M.Semicolon semicolon ∷ rest)
  unfolding chain init_declarator_step one_in
  init_declarators_read [] one w k s done d semicolon rest n h i =
      let tail = punctuator M.Semicolon semicolon ∷ rest in
      let e : max d (max (depth_declarator one.declarator) (depth_value one.value))
      ≡ max d (max (max (depth_declarator one.declarator) (depth_value one.value)) 0) = omega arith in
      rw (
        comma_read done false one.comma (spelled_declarator one.declarator (spelled_value one.value tail)) n w.0,
        named_read one.declarator w.1 w.2 k (spelled_value one.value tail) (omega arith) (value_ends types one.value [] tt semicolon rest),
        valued_read one.value w.3 k one.comma one.declarator (depth_declarator one.declarator) tail (omega arith) (omega arith),
        e,
      ) refl
  init_declarators_read (next ∷ more) one w k zero done d semicolon rest n h i = absurd (omega arith)
  init_declarators_read (next ∷ more) one w k (suc s) done d semicolon rest n h i =
      let after_next = spelled_declarator next.declarator (spelled_value next.value
      (spelled_init_declarators more (punctuator M.Semicolon semicolon ∷ rest))) in
      let tail = spelled_comma next.comma after_next in
      let m = max (depth_declarator one.declarator) (depth_value one.value) in
      let e : max (max d m) (depth_init_declarators (next ∷ more)) ≡ max d (max m (depth_init_declarators (next ∷ more))) = omega arith in
      rw (
        comma_read done false one.comma (spelled_declarator one.declarator (spelled_value one.value tail)) n w.0,
        named_read one.declarator w.1 w.2 k (spelled_value one.value tail) (omega arith) (value_ends types one.value (next ∷ more) w.4 semicolon rest),
        valued_read one.value w.3 k one.comma one.declarator (depth_declarator one.declarator) tail (omega arith) (pull_comma next.comma after_next w.4.0),
        comma_fronted next.comma after_next w.4.0,
      )
      (init_declarators_read more next w.4 k s (done ++ one ∷ []) (max d m) semicolon rest (not_new done one) (omega arith) (omega arith)
      ∙ rw (append_assoc done (one ∷ []) (next ∷ more), e) refl)

  more_read : (more : List Trees.InitDeclarator) (first : Trees.InitDeclarator) → AreInitDeclarators types false more
      → (k d : ℕ) (semicolon : ℕ) (rest : List Lexeme) → depth_init_declarators more ≤ k
      → more_init_declarators ((at types k).declarator) (initial_at types k) first d
      (spelled_init_declarators more (punctuator M.Semicolon semicolon ∷ rest))
      ≡ Some (first ∷ more, max d (depth_init_declarators more), punctuator M.Semicolon semicolon ∷ rest)
  more_read [] first w k d semicolon rest h = let e : max d 0 ≡ d = omega arith in rw e refl
  more_read (next ∷ more) first w k d semicolon rest h =
      let after_next = spelled_declarator next.declarator (spelled_value next.value
      (spelled_init_declarators more (punctuator M.Semicolon semicolon ∷ rest))) in
      let tokens = spelled_comma next.comma after_next in
      rw (
        comma_fronted next.comma after_next w.0,
        add-one (length tokens),
        init_declarators_read more next w k (length tokens) (first ∷ []) d semicolon rest refl h
            (omega (arith, init_declarators_count types (next ∷ more) (punctuator M.Semicolon semicolon ∷ rest) w)),
      ) refl

  -- ---- all of them

  pub declarators_read : (s : Trees.Declarator) (value : Option (ℕ × Trees.Expression)) (more : List Trees.InitDeclarator) → IsValue types value
      → AreInitDeclarators types false more → (k d : ℕ) (semicolon : ℕ) (rest : List Lexeme) → depth_value value ≤ k → depth_init_declarators more ≤ k
      → declarators_after ((at types k).declarator) (initial_at types k) s d
      (spelled_value value (spelled_init_declarators more (punctuator M.Semicolon semicolon ∷ rest)))
      ≡ Some (
        record { comma = None; declarator = s; value = value } ∷ more,
        max (max d (depth_value value)) (depth_init_declarators more),
        punctuator M.Semicolon semicolon ∷ rest,
      )
  unfolding declarators_after
  declarators_read s value more v w k d semicolon rest h i =
      rw (valued_read value v k None s d (spelled_init_declarators more (punctuator M.Semicolon semicolon ∷ rest)) h (pull_after types more w semicolon rest))
      (more_read more (record { comma = None; declarator = s; value = value }) w k (max d (depth_value value)) semicolon rest i)

  pub same_first : (d : Trees.InitDeclarator) → IsComma true d.comma → record { comma = None; declarator = d.declarator; value = d.value } ≡ d
  same_first d w = ap (λ (x : Option ℕ). record { comma = x; declarator = d.declarator; value = d.value }) (sym (none_first d.comma w))

  all_read : (first : Trees.InitDeclarator) (more : List Trees.InitDeclarator) → AreInitDeclarators types true (first ∷ more)
      → (k : ℕ) (semicolon : ℕ) (rest : List Lexeme) → depth_init_declarators (first ∷ more) ≤ k
      → declarators_in ((at types k).declarator) (initial_at types k)
      (spelled_init_declarators (first ∷ more) (punctuator M.Semicolon semicolon ∷ rest))
      ≡ Some (first ∷ more, depth_init_declarators (first ∷ more), punctuator M.Semicolon semicolon ∷ rest)
  unfolding declarators_in
  all_read first more w k semicolon rest h =
      let tail = spelled_value first.value (spelled_init_declarators more (punctuator M.Semicolon semicolon ∷ rest)) in
      rw (
        comma_first first.comma (spelled_declarator first.declarator tail) w.0,
        named_read first.declarator w.1 w.2 k tail (omega arith) (value_ends types first.value more w.4 semicolon rest),
        declarators_read first.declarator first.value more w.3 w.4 k (depth_declarator first.declarator) semicolon rest (omega arith) (omega arith),
        same_first first w.0,
      ) refl

  -- where a declarator has to stand, there is one
  abbrev pub Fills : Bool → List Trees.InitDeclarator → Type 0
  Fills full all = full ≡ true → all ≢ []

  if_any_read : (full : Bool) (all : List Trees.InitDeclarator) → AreInitDeclarators types true all → Fills full all
      → (k : ℕ) (semicolon : ℕ) (rest : List Lexeme) → depth_init_declarators all ≤ k
      → declarators_if_any full ((at types k).declarator) (initial_at types k)
      (spelled_init_declarators all (punctuator M.Semicolon semicolon ∷ rest))
      ≡ Some (all, depth_init_declarators all, punctuator M.Semicolon semicolon ∷ rest)
  if_any_read true [] w f k semicolon rest h = absurd (f refl refl)
  if_any_read false [] w f k semicolon rest h = refl
  if_any_read true (first ∷ more) w f k semicolon rest h = all_read first more w k semicolon rest h
  if_any_read false (first ∷ more) w f k semicolon rest h =
      let tokens = spelled_declarator first.declarator (spelled_value first.value (spelled_init_declarators more (punctuator M.Semicolon semicolon ∷ rest))) in
      let e : fronted is_semicolon (spelled_comma first.comma tokens) ≡ false =
      rw (comma_first first.comma tokens w.0) (fronted_not begins_declarator is_semicolon not_semicolon tokens
      (declarator_start types first.declarator w.1 w.2 _).begins) in
      rw e (all_read first more w k semicolon rest h)

  -- ---- declarations

  -- what stands after the specifiers of a declaration
  pub record IsAfter (tokens : List Lexeme) : Type 0 where
    pub no_specifier : begins_specifier types tokens ≡ false
    pub no_left_brace : fronted is_left_brace tokens ≡ false

  pub after_specifiers : (all : List Trees.InitDeclarator) → AreInitDeclarators types true all → (semicolon : ℕ) (rest : List Lexeme)
      → IsAfter (spelled_init_declarators all (punctuator M.Semicolon semicolon ∷ rest))
  after_specifiers [] w semicolon rest = record { no_specifier = refl; no_left_brace = refl }
  after_specifiers (first ∷ more) w semicolon rest =
      let tail = spelled_value first.value (spelled_init_declarators more (punctuator M.Semicolon semicolon ∷ rest)) in
      let tokens = spelled_declarator first.declarator tail in
      let s = declarator_start types first.declarator w.1 w.2 tail in
      rw (comma_first first.comma tokens w.0) (record {
        no_specifier = s.no_specifier;
        no_left_brace =
            fronted_not begins_declarator is_left_brace not_left_brace tokens s.begins;
      })

  items_read : (full : Bool) (specs : Trees.Specifiers) (all : List Trees.InitDeclarator) (semicolon : ℕ) → AreSpecifiers types specs
      → AreInitDeclarators types true all → Fills full all → (k : ℕ) (rest : List Lexeme) → max (depth_specifiers specs) (depth_init_declarators all) ≤ k
      → declaration_in full types k (spelled_specifiers specs (spelled_init_declarators all (punctuator M.Semicolon semicolon ∷ rest)))
      ≡ Some (record { specs = specs; all = all; semicolon = semicolon }, max (depth_specifiers specs) (depth_init_declarators all), rest)
  unfolding declaration_in
  items_read full specs all semicolon v w f k rest h =
      let tail = spelled_init_declarators all (punctuator M.Semicolon semicolon ∷ rest) in
      let b = after_specifiers all w semicolon rest in
      rw (c.specifiers_read specs k tail v (omega arith) b.no_specifier b.no_left_brace, if_any_read full all w f k semicolon rest (omega arith)) refl

  pub declaration_read : (full : Bool) (d : Trees.Declaration) → IsDeclaration types d → Fills full d.all → (k : ℕ) (rest : List Lexeme)
      → depth_declaration d ≤ k → declaration_in full types k (spelled_declaration d rest) ≡ Some (d, depth_declaration d, rest)
  declaration_read full d w f k rest h = items_read full d.specs d.all d.semicolon w.0 w.1 f k rest (omega arith)
