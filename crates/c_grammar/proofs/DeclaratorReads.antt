-- Reading declarators, parameters and type names from their spelling.
use Rattle.std.proofs.Common.{◌≡◌, ◌≢◌, ℕ, zero, suc, ◌+◌, ◌-◌, ◌≤◌, max, List, [], ◌∷◌, ◌++◌, Option, Some, None, Bool, true, false, length, refl}
use Rattle.std.proofs.Common.{ap, sym, ◌∙◌, arith, append_assoc, append-nil, add-one}
use Rattle.c_tokens.specs.declared.punctuator.Punctuator.TheVariants as M
use Rattle.c_ast.specs.declared.words.Spelling.{Spelling}
use Rattle.c_ast.specs.Trees
use Rattle.c_ast.specs.Spelling.{Lexeme, punctuator, spelled_comma, spelled_consts, spelled_optional, spelled_specifiers, spelled_declarator}
use Rattle.c_ast.specs.Spelling.{spelled_parameter_list, spelled_parameters}
use Rattle.c_ast.specs.WellFormed.{is_direct, is_typename, IsOptional, IsTypeName, AreSpecifiers, IsDeclarator, IsParameterList, AreParameters}
use Rattle.c_ast.specs.Sizes.{depth, depth_specifiers, depth_declarator, depth_parameter_list, depth_parameters}
use Rattle.c_grammar.specs.Reading.{chain, fronted, is_right, is_left_brace, is_const, is_nothing, begins_specifier, begins_parameters, type_name_in}
use Rattle.c_grammar.specs.Reading.{enclosed_type_name_in, const_step, pointer_in, enclosed_in, core_in, array_in, parameter_step, parameters_in}
use Rattle.c_grammar.specs.Reading.{function_in, suffix_step, direct_in, declarator_in, at}
use Rattle.c_grammar.proofs.Follow.{within, declarators_pull, IsBare, bare, suffix_stops, no_const, not_const}
use Rattle.c_grammar.proofs.Beginnings.{front, specifiers_begin, right_at_specifiers, specifiers_front, something, declarator_front}
use Rattle.c_grammar.proofs.Beginnings.{left_brace_at_declarators, const_at_declarators, declarator_no_right, declarator_no_specifier, direct_no_star}
use Rattle.c_grammar.proofs.Beginnings.{no_void}
use Rattle.c_grammar.proofs.Lists.{parameters_list, parameters_again, is_new, not_new, comma_read}
use Rattle.c_grammar.proofs.Lengths.{consts_count, parameters_room}
use Rattle.c_grammar.proofs.ExpressionReads.{Reads, TypeNameReads, conditional_inside}
use Rattle.c_grammar.proofs.SpecifierReads.{SpecifiersRead, specifiers_inside}

-- the brackets and parentheses on the right edge
abbrev pub suffixes : Trees.Declarator → ℕ
suffixes (Trees.array d left o right) = suc (suffixes d)
suffixes (Trees.function d left all right) = suc (suffixes d)
suffixes _ = 0

suffixes_within : (d : Trees.Declarator) → suffixes d ≤ depth_declarator d
suffixes_within (Trees.array d left o right) = omega (arith, suffixes_within d)
suffixes_within (Trees.function d left all right) = omega (arith, suffixes_within d)
suffixes_within d = omega arith

module _ (types : List (List ℕ)) where
  abbrev pub Direct : Trees.Declarator → Type 0
  Direct t = (k s : ℕ) (rest : List Lexeme) → depth_declarator t ≤ suc k → suffixes t + s ≡ suc (suc k) → IsBare types rest
      → direct_in types k (at types k) (spelled_declarator t rest) ≡ chain (suffix_step k (at types k)) s t (depth_declarator t) rest

  abbrev pub Whole : Trees.Declarator → Type 0
  Whole t = (k : ℕ) (rest : List Lexeme) → depth_declarator t ≤ suc k → declarators_pull rest ≡ false
      → declarator_in types k (at types k) (spelled_declarator t rest) ≡ Some (t, depth_declarator t, rest)

  pub record DeclaratorReads (t : Trees.Declarator) : Type 0 where
    pub direct : is_direct t ≡ true → Direct t
    pub whole : Whole t

  pub by_direct : (t : Trees.Declarator) → IsDeclarator types t → is_direct t ≡ true → Direct t → DeclaratorReads t
  unfolding declarator_in
  by_direct t w i p = record {
    direct = λ _. p;
    whole = λ k rest d h.
        let left : (s : ℕ) × (suffixes t + suc s ≡ suc (suc k)) = (suc k - suffixes t, omega (arith, suffixes_within t)) in
        let b : IsBare types rest = bare types rest h in
        rw (direct_no_star types t i w rest b.no_star) (p k (suc left.0) rest d left.1 b ∙ suffix_stops k left.0 (at types k) t (depth_declarator t) rest h);
  }

  pub declarator_inside : (t : Trees.Declarator) → DeclaratorReads t → (k : ℕ) (rest : List Lexeme) → depth_declarator t ≤ k → declarators_pull rest
      ≡ false → (at types k).declarator (spelled_declarator t rest) ≡ Some (t, depth_declarator t, rest)
  declarator_inside t r (suc k) rest d h = r.whole k rest d h
  declarator_inside Trees.nothing r zero rest d h = refl
  declarator_inside t r zero rest d h = absurd (omega arith)

  -- the loop begins with all of its fuel
  begun : (t : Trees.Declarator) (k s : ℕ) (rest : List Lexeme) → s ≡ suc (suc k)
      → chain (suffix_step k (at types k)) (suc (suc k)) t (depth_declarator t) rest ≡ chain (suffix_step k (at types k)) s t (depth_declarator t) rest
  begun t k s rest e = ap (λ n. chain (suffix_step k (at types k)) n t (depth_declarator t) rest) (sym e)

  pub nothing_reads : Direct Trees.nothing
  unfolding direct_in core_in
  nothing_reads k s rest d e b = rw (b.no_name, b.no_left) (begun Trees.nothing k s rest (omega arith))

  pub named_reads : (x : Spelling) → is_typename types x.text ≡ false → Direct (Trees.named x)
  unfolding direct_in core_in
  named_reads x w k s rest d e b = rw w (begun (Trees.named x) k s rest (omega arith))

  pub enclosed_reads : (left : ℕ) (t : Trees.Declarator) (right : ℕ) → t ≢ Trees.nothing → IsDeclarator types t → DeclaratorReads t
      → Direct (Trees.enclosed left t right)
  unfolding direct_in core_in enclosed_in
  enclosed_reads left t right n w r k s rest d e b =
      let f : is_nothing t ≡ false = something types t n in
      rw (
        declarator_no_right types t f (punctuator M.Close right ∷ rest),
        declarator_no_specifier types t w (punctuator M.Close right ∷ rest) refl,
        declarator_inside t r k (punctuator M.Close right ∷ rest) (omega arith) refl,
        within (depth_declarator t) k (omega arith),
        f,
      )
      (begun (Trees.enclosed left t right) k s rest (omega arith))

  consts_read : (all done : List ℕ) (s d : ℕ) (rest : List Lexeme) → length all ≤ s → fronted is_const rest ≡ false
      → chain const_step (suc s) done d (spelled_consts all rest) ≡ Some (done ++ all, d, rest)
  unfolding chain const_step
  consts_read [] done s d rest l h = rw (no_const rest h done d, append-nil done)
  consts_read (i ∷ all) done zero d rest l h = absurd (omega arith)
  consts_read (i ∷ all) done (suc s) d rest l h = consts_read all (done ++ i ∷ []) s d rest (omega arith) h ∙ rw (append_assoc done (i ∷ []) all)

  pub pointer_reads : (i : ℕ) (consts : List ℕ) (t : Trees.Declarator) → DeclaratorReads t → Whole (Trees.pointer i consts t)
  unfolding declarator_in pointer_in
  pointer_reads i consts t r k rest d h =
      let tokens = spelled_consts consts (spelled_declarator t rest) in
      let count : length tokens ≡ length consts + length (spelled_declarator t rest) = consts_count consts (spelled_declarator t rest) in
      rw (
        add-one (length tokens),
        consts_read consts [] (length tokens) 0 (spelled_declarator t rest) (omega arith)
            (declarator_front types is_const (const_at_declarators types) t rest (not_const rest h)),
        declarator_inside t r k rest (omega arith) h,
        within (depth_declarator t) k (omega arith),
      )

  -- ---- arrays and functions: one turn more

  abbrev pub OptionalReads : Trees.OptionalExpression → Type 0
  OptionalReads Trees.no_expression = Unit {0}
  OptionalReads (Trees.some_expression a) = Reads types a

  bare_square : (i : ℕ) (rest : List Lexeme) → IsBare types (punctuator M.OpenSquare i ∷ rest)
  bare_square i rest = record { no_name = refl; no_left = refl; no_star = refl }

  pub array_reads : (t : Trees.Declarator) (left : ℕ) (o : Trees.OptionalExpression) (right : ℕ) → is_direct t ≡ true → IsOptional types o
      → DeclaratorReads t → OptionalReads o → Direct (Trees.array t left o right)
  unfolding chain suffix_step array_in
  array_reads t left Trees.no_expression right i w r ro k s rest d e b =
      r.direct i k (suc s) (punctuator M.OpenSquare left ∷ punctuator M.CloseSquare right ∷ rest) (omega arith) (omega arith) (bare_square left _)
      ∙ rw (within (max (depth_declarator t) 0) k (omega arith))
  array_reads t left (Trees.some_expression a) right i w r ro k s rest d e b =
      r.direct i k (suc s) (punctuator M.OpenSquare left ∷ spelled_optional (Trees.some_expression a) (punctuator M.CloseSquare right ∷ rest))
      (omega arith) (omega arith) (bare_square left _)
      ∙ rw (
        (front types a w.1 (punctuator M.CloseSquare right ∷ rest)).no_right_square,
        conditional_inside types a ro w.0 k (punctuator M.CloseSquare right ∷ rest) (omega arith) (omega arith),
        within (max (depth_declarator t) (depth a)) k (omega arith),
      )

  abbrev pub ParametersRead : Trees.Parameters → Type 0
  ParametersRead Trees.no_parameters = Unit {0}
  ParametersRead (Trees.and_parameter comma specs t more) = SpecifiersRead types specs × DeclaratorReads t × ParametersRead more

  abbrev pub ParameterListReads : Trees.ParameterList → Type 0
  ParameterListReads (Trees.void_alone i) = Unit {0}
  ParameterListReads (Trees.listed all) = ParametersRead all

  record IsTail (rest : List Lexeme) : Type 0 where
    no_declarator : declarators_pull rest ≡ false
    no_specifier : begins_specifier types rest ≡ false
    no_brace : fronted is_left_brace rest ≡ false

  after_parameter : (more : Trees.Parameters) → AreParameters types false more → (right : ℕ) (rest : List Lexeme)
      → IsTail (spelled_parameters more (punctuator M.Close right ∷ rest))
  after_parameter Trees.no_parameters w right rest = record { no_declarator = refl; no_specifier = refl; no_brace = refl }
  after_parameter (Trees.and_parameter None specs t more) w right rest = let e : false ≡ true = w.0 in cc
  after_parameter (Trees.and_parameter (Some i) specs t more) w right rest = record { no_declarator = refl; no_specifier = refl; no_brace = refl }

  parameter_front : (comma : Option ℕ) (specs : Trees.Specifiers) → AreSpecifiers types specs → (rest : List Lexeme)
      → fronted is_right (spelled_comma comma (spelled_specifiers specs rest)) ≡ false
  parameter_front None specs w rest = specifiers_front types is_right (right_at_specifiers types) specs w rest
  parameter_front (Some i) specs w rest = refl

  parameters_read : (all : Trees.Parameters) (first : Bool) → AreParameters types first all → ParametersRead all
      → (k s : ℕ) (done : List (Option ℕ × Trees.Specifiers × Trees.Declarator)) (d right : ℕ) (rest : List Lexeme) → first ≡ is_new done
      → depth_parameters all ≤ k → length (parameters_list all) ≤ s
      → chain (parameter_step (at types k)) (suc s) done d (spelled_parameters all (punctuator M.Close right ∷ rest))
      ≡ Some (done ++ parameters_list all, max d (depth_parameters all), punctuator M.Close right ∷ rest)
  unfolding chain parameter_step
  parameters_read Trees.no_parameters first w r k s done d right rest e h l = let z : max d 0 ≡ d = omega arith in rw (append-nil done, z)
  parameters_read (Trees.and_parameter comma specs t more) first w r k zero done d right rest e h l = absurd (omega arith)
  parameters_read (Trees.and_parameter comma specs t more) first w r k (suc s) done d right rest e h l =
      let here = max (depth_specifiers specs) (depth_declarator t) in
      let z : max (max d here) (depth_parameters more) ≡ max d (max here (depth_parameters more)) = omega arith in
      let tail = spelled_parameters more (punctuator M.Close right ∷ rest) in
      let b : IsTail tail = after_parameter more w.3 right rest in
      rw (
        parameter_front comma specs w.1 (spelled_declarator t tail),
        comma_read done first comma (spelled_specifiers specs (spelled_declarator t tail)) e w.0,
        specifiers_inside types specs w.1 r.0 k (spelled_declarator t tail) (omega arith) (declarator_no_specifier types t w.2 tail b.no_specifier)
            (declarator_front types is_left_brace (left_brace_at_declarators types) t tail b.no_brace),
        declarator_inside t r.1 k tail (omega arith) b.no_declarator,
      )
      (parameters_read more false w.3 r.2 k s (done ++ (comma, specs, t) ∷ []) (max d here) right rest (not_new done (comma, specs, t)) (omega arith)
      (omega arith)
      ∙ rw (append_assoc done ((comma, specs, t) ∷ []) (parameters_list more), z))

  parameter_list_read : (all : Trees.ParameterList) → IsParameterList types all → ParameterListReads all → (k right : ℕ) (rest : List Lexeme)
      → depth_parameter_list all ≤ k
      → parameters_in (at types k) (spelled_parameter_list all (punctuator M.Close right ∷ rest))
      ≡ Some (all, depth_parameter_list all, punctuator M.Close right ∷ rest)
  unfolding parameters_in
  parameter_list_read (Trees.void_alone i) w r k right rest h = refl
  parameter_list_read (Trees.listed all) w r k right rest h =
      let tokens = spelled_parameters all (punctuator M.Close right ∷ rest) in
      let z : max 0 (depth_parameters all) ≡ depth_parameters all = omega arith in
      rw (
        no_void types all w.1 w.0 right rest,
        add-one (length tokens),
        parameters_read all true w.1 r k (length tokens) [] 0 right rest refl h (parameters_room types all w.1 (punctuator M.Close right) rest),
        parameters_again all,
        z,
      )

  parameters_begin : (all : Trees.ParameterList) → IsParameterList types all → (right : ℕ) (rest : List Lexeme)
      → begins_parameters types (spelled_parameter_list all (punctuator M.Close right ∷ rest)) ≡ true
  parameters_begin (Trees.void_alone i) w right rest = refl
  parameters_begin (Trees.listed Trees.no_parameters) w right rest = refl
  parameters_begin (Trees.listed (Trees.and_parameter None specs t more)) w right rest =
      rw (specifiers_front types is_right (right_at_specifiers types) specs w.1.1 _, specifiers_begin types specs w.1.1 _)
  parameters_begin (Trees.listed (Trees.and_parameter (Some i) specs t more)) w right rest = let e : true ≡ false = w.1.0 in cc

  pub function_reads : (t : Trees.Declarator) (left : ℕ) (all : Trees.ParameterList) (right : ℕ) → is_direct t ≡ true → IsParameterList types all
      → DeclaratorReads t → ParameterListReads all → Direct (Trees.function t left all right)
  unfolding chain suffix_step function_in
  function_reads t left all right i w r ra k s rest d e b =
      let tokens = spelled_parameter_list all (punctuator M.Close right ∷ rest) in
      r.direct i k (suc s) (punctuator M.Open left ∷ tokens) (omega arith) (omega arith)
      (record { no_name = refl; no_left = rw (parameters_begin all w right rest); no_star = refl })
      ∙ rw (parameter_list_read all w ra k right rest (omega arith), within (max (depth_declarator t) (depth_parameter_list all)) k (omega arith))

  -- ---- type names

  pub type_name_reads : (specs : Trees.Specifiers) (t : Trees.Declarator) → IsTypeName types (Trees.type_name specs t) → SpecifiersRead types specs
      → DeclaratorReads t → TypeNameReads types (Trees.type_name specs t)
  unfolding enclosed_type_name_in type_name_in
  type_name_reads specs t w rs r k left right rest h =
      let tail = punctuator M.Close right ∷ rest in
      rw (
        specifiers_inside types specs w.0 rs k (spelled_declarator t tail) (omega arith) (declarator_no_specifier types t w.1 tail refl)
            (declarator_front types is_left_brace (left_brace_at_declarators types) t tail refl),
        declarator_inside t r k tail (omega arith) refl,
        w.2,
      )
