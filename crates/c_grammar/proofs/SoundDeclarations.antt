-- What is read as a declaration is spelled so, is well formed, and has that depth.
use Rattle.std.proofs.Common.{◌≡◌, ◌≢◌, ℕ, ◌+◌, ◌≤◌, max, ◌&&◌, not, List, [], ◌∷◌, ◌++◌, length, Option, Some, None, Bool, true, false}
use Rattle.std.proofs.Common.{refl, ap, ◌∙◌, subst, arith, append_assoc, append-nil}
use Rattle.c_tokens.specs.declared.punctuator.Punctuator.TheVariants as M
use Rattle.c_ast.specs.Trees
use Rattle.c_ast.specs.Spelling.{Lexeme, punctuator, spelled_comma, spelled_declarator, spelled_specifiers, spelled_value, spelled_init_declarators}
use Rattle.c_ast.specs.Spelling.{spelled_declaration}
use Rattle.c_ast.specs.WellFormed.{has_name, IsComma, IsDeclarator, IsValue, AreInitDeclarators, IsDeclaration, IsFullDeclaration}
use Rattle.c_ast.specs.Sizes.{depth_declarator, depth_value, depth_init_declarators, depth_declaration}
use Rattle.c_grammar.proofs.Wholeness.{AreWhole}
use Rattle.c_grammar.specs.Reading.{after, fronted, is_comma, is_semicolon, is_equal, Reader, comma_before, at}
use Rattle.c_grammar.proofs.Fronts.{bind_some, given, chosen, both, negated, semicolon_taken, equal_taken, comma_before_taken, is_first}
use Rattle.c_grammar.proofs.Chains.{Goes, chain_taken}
use Rattle.c_grammar.proofs.Taken.{Took, Reads, IsSound}
use Rattle.c_grammar.specs.StatementReading.{value_after, valued_in, named_in, one_in, init_declarator_step, more_init_declarators, declarators_after}
use Rattle.c_grammar.specs.StatementReading.{declarators_in, declarators_if_any, declaration_in, initial_at}
use Rattle.c_grammar.proofs.SoundInitializers.{bound, ReadsInitializer, initial_sound}

-- ---- a declarator with its name, and its initializer

abbrev pub IsNamed : List (List ℕ) → Trees.Declarator → Type 0
IsNamed types s = IsDeclarator types s × (has_name s ≡ true)

abbrev pub ReadsDeclarator : List (List ℕ) → ℕ → Reader Trees.Declarator → Type 0
ReadsDeclarator types k declarator = Reads spelled_declarator (IsDeclarator types) depth_declarator k declarator

pub named_taken : (types : List (List ℕ)) (k : ℕ) (declarator : Reader Trees.Declarator) → ReadsDeclarator types k declarator
    → Reads spelled_declarator (IsNamed types) depth_declarator k (named_in declarator)
unfolding named_in
named_taken types k declarator s tokens w y h =
    let a = bind_some (declarator tokens) _ y h in
    let p = s tokens w a.0 a.1 in
    chosen (has_name a.0.0) _ _ y (Took spelled_declarator (IsNamed types) depth_declarator k tokens y) a.2
    (λ c h. given (Took spelled_declarator (IsNamed types) depth_declarator k tokens) a.0 y h
    (record { spelled_so = p.spelled_so; well_formed = (p.well_formed, c); deep = p.deep; within = p.within; whole = p.whole }))
    (λ c h. cc)

-- y is the declarator s with its initializer, after its comma; d is the depth before the initializer
record TookOne (types : List (List ℕ)) (k : ℕ) (first : Bool) (s : Trees.Declarator) (d : ℕ) (tokens : List Lexeme)
    (y : Trees.InitDeclarator × ℕ × List Lexeme) : Type 0 where
  pub spelled_so : tokens ≡ spelled_comma y.0.comma (spelled_declarator y.0.declarator (spelled_value y.0.value y.2))
  pub well_formed : IsComma first y.0.comma × IsDeclarator types y.0.declarator × (has_name y.0.declarator ≡ true) × IsValue types y.0.value
  pub declarator_so : depth_declarator y.0.declarator ≡ depth_declarator s
  pub deep : y.1 ≡ max d (depth_value y.0.value)
  pub within : y.1 ≤ k
  pub whole : AreWhole y.2

module _ (types : List (List ℕ)) (k : ℕ) (initial : Reader Trees.Expression) (initials : ReadsInitializer types k initial) where
  value_taken : (first : Bool) (all : List Lexeme) (comma : Option ℕ) (s : Trees.Declarator) (d : ℕ) (tokens : List Lexeme) → all
      ≡ spelled_comma comma (spelled_declarator s tokens) → IsComma first comma → IsNamed types s → d ≤ k → AreWhole tokens
      → (y : Trees.InitDeclarator × ℕ × List Lexeme) (o : Option (ℕ × List Lexeme)) → after is_equal tokens ≡ o
      → value_after initial comma s d tokens o ≡ Some y → TookOne types k first s d all y
  value_taken first all comma s d tokens spelled_so f n le w y None b h =
      given (TookOne types k first s d all) _ y h (record {
        spelled_so = spelled_so;
        well_formed = (f, n.0, n.1, tt);
        declarator_so = refl;
        deep =
            omega arith;
        within = le;
        whole = w;
      })
  value_taken first all comma s d tokens spelled_so f n le w y (Some equal) b h =
      let e = equal_taken tokens w equal b in
      let i = bind_some (initial equal.1) _ y h in
      let p = initials equal.1 e.1 i.0 i.1 in
      given (TookOne types k first s d all) _ y i.2 (record {
        spelled_so = spelled_so ∙ ap (λ z. spelled_comma comma (spelled_declarator s z)) (e.0 ∙ ap (λ z. punctuator M.Equal equal.0 ∷ z) p.spelled_so);
        well_formed = (f, n.0, n.1, p.well_formed);
        declarator_so = refl;
        deep = ap (λ z. max d z) p.deep;
        within = omega (arith, p.within, le);
        whole = p.whole;
      })

  valued_taken : (first : Bool) (all : List Lexeme) (comma : Option ℕ) (s : Trees.Declarator) (d : ℕ) (tokens : List Lexeme) → all
      ≡ spelled_comma comma (spelled_declarator s tokens) → IsComma first comma → IsNamed types s → d ≤ k → AreWhole tokens
      → (y : Trees.InitDeclarator × ℕ × List Lexeme) → valued_in initial comma s d tokens ≡ Some y → TookOne types k first s d all y
  unfolding valued_in
  valued_taken first all comma s d tokens spelled_so f n le w y h = value_taken first all comma s d tokens spelled_so f n le w y (after is_equal tokens) refl h

  -- ---- more declarators

  -- what is so far a list of declarators that is not empty; `start` is a depth that counts beside it
  record SoFar (all : List Lexeme) (start : ℕ) (done : List Trees.InitDeclarator) (d : ℕ) (tokens : List Lexeme) : Type 0 where
    pub spelled_so : (last : List Trees.InitDeclarator) (tail : List Lexeme) → tokens ≡ spelled_init_declarators last tail → all
        ≡ spelled_init_declarators (done ++ last) tail
    pub well_formed : (last : List Trees.InitDeclarator) → AreInitDeclarators types false last → AreInitDeclarators types true (done ++ last)
    pub deep : (last : List Trees.InitDeclarator) → max start (max d (depth_init_declarators last)) ≡ depth_init_declarators (done ++ last)
    pub within : d ≤ k
    pub whole : AreWhole tokens
    pub some : is_first done ≡ false

  pub record Listed (all : List Lexeme) (start : ℕ) (y : List Trees.InitDeclarator × ℕ × List Lexeme) : Type 0 where
    pub spelled_so : all ≡ spelled_init_declarators y.0 y.2
    pub well_formed : AreInitDeclarators types true y.0
    pub deep : max start y.1 ≡ depth_init_declarators y.0
    pub within : y.1 ≤ k
    pub whole : AreWhole y.2
    pub some : y.0 ≢ []

  not_empty : (done : List Trees.InitDeclarator) → is_first done ≡ false → done ≢ []
  not_empty [] f e = cc
  not_empty (x ∷ done) f e = cc

  none_first : (done : List Trees.InitDeclarator) (x : Trees.InitDeclarator) → is_first (done ++ x ∷ []) ≡ false
  none_first [] x = refl
  none_first (a ∷ done) x = refl

  ends : (all : List Lexeme) (start : ℕ) (done : List Trees.InitDeclarator) (d : ℕ) (tokens : List Lexeme) → SoFar all start done d tokens
      → Listed all start (done, d, tokens)
  ends all start done d tokens p = record {
    spelled_so = p.spelled_so [] tokens refl ∙ ap (λ z. spelled_init_declarators z tokens) (append-nil done);
    well_formed = subst (λ z. AreInitDeclarators types true z) (append-nil done) (p.well_formed [] tt);
    deep = (let f = p.deep [] in let g = ap (λ z. depth_init_declarators z) (append-nil done) in omega (arith, f, g));
    within = p.within;
    whole = p.whole;
    some = not_empty done p.some;
  }

  goes : (all : List Lexeme) (start : ℕ) (done : List Trees.InitDeclarator) (d : ℕ) (tokens : List Lexeme) (b : Bool) → SoFar all start done d tokens
      → Goes (SoFar all start) (Listed all start) (done, d, tokens, b) b
  goes all start done d tokens true p = p
  goes all start done d tokens false p = ends all start done d tokens p

  module _ (declarator : Reader Trees.Declarator) (declarators_pull : ReadsDeclarator types k declarator) where
    init_declarator_step_taken : (all : List Lexeme) (start : ℕ) (done : List Trees.InitDeclarator) (d : ℕ) (tokens : List Lexeme)
        (r : List Trees.InitDeclarator × ℕ × List Lexeme × Bool)
        → SoFar all start done d tokens → init_declarator_step declarator initial done d tokens ≡ Some r → Goes (SoFar all start) (Listed all start) r r.3
    unfolding init_declarator_step one_in
    init_declarator_step_taken all start done d tokens r p h =
        let P = Goes (SoFar all start) (Listed all start) r r.3 in
        bound (comma_before done tokens) _ r P h λ c c_is h.
        bound (one_in declarator initial c.0 c.1) _ r P h λ one one_is h.
        let s = bind_some (named_in declarator c.1) _ one one_is in
        let u = comma_before_taken done tokens p.whole c c_is in
        let v = named_taken types k declarator declarators_pull c.1 u.2 s.0 s.1 in
        let q = valued_taken false tokens c.0 s.0.0 s.0.1 s.0.2 (u.0 ∙ ap (λ z. spelled_comma c.0 z) v.spelled_so)
        (subst (λ b. IsComma b c.0) p.some u.1) v.well_formed v.within v.whole one s.2 in
        given (λ r. Goes (SoFar all start) (Listed all start) r r.3) _ r h
        (goes all start (done ++ one.0 ∷ []) (max d one.1) one.2 (fronted is_comma one.2) (record {
          spelled_so = λ last tail e. rw (append_assoc done (one.0 ∷ []) last)
              (p.spelled_so (one.0 ∷ last) tail (q.spelled_so
              ∙ ap (λ z. spelled_comma one.0.comma (spelled_declarator one.0.declarator (spelled_value one.0.value z))) e));
          well_formed = λ last a. rw (append_assoc done (one.0 ∷ []) last)
              (p.well_formed (one.0 ∷ last) (q.well_formed.0, q.well_formed.1, q.well_formed.2, q.well_formed.3, a));
          deep = λ last. rw (append_assoc done (one.0 ∷ []) last) (let f = p.deep (one.0 ∷ last) in let g = q.deep in let i = v.deep in let j =
              q.declarator_so in omega (arith, f, g, i, j));
          within = omega (arith, p.within, q.within);
          whole = q.whole;
          some = none_first done one.0;
        }))

    more_taken : (all : List Lexeme) (start : ℕ) (first : Trees.InitDeclarator) (d : ℕ) (tokens : List Lexeme) (y : List Trees.InitDeclarator × ℕ × List Lexeme)
        → SoFar all start (first ∷ []) d tokens → more_init_declarators declarator initial first d tokens ≡ Some y → Listed all start y
    more_taken all start first d tokens y p h =
        chosen (fronted is_comma tokens) _ _ y (Listed all start y) h
        (λ c h. chain_taken (init_declarator_step declarator initial) (SoFar all start) (Listed all start) (init_declarator_step_taken all start)
        (length tokens + 1) (first ∷ []) d tokens y p h)
        (λ c h. given (Listed all start) _ y h (ends all start (first ∷ []) d tokens p))

    -- after the declarator s, which is read: its depth is that of `start` and d together
    pub after_taken : (all : List Lexeme) (s : Trees.Declarator) (start d : ℕ) (tokens : List Lexeme) → all ≡ spelled_declarator s tokens
        → IsNamed types s → max start d ≡ depth_declarator s → d ≤ k → AreWhole tokens
        → (y : List Trees.InitDeclarator × ℕ × List Lexeme) → declarators_after declarator initial s d tokens ≡ Some y → Listed all start y
    unfolding declarators_after
    after_taken all s start d tokens spelled_so n deep le w y h =
        let first = bind_some (valued_in initial None s d tokens) _ y h in
        let q = valued_taken true all None s d tokens spelled_so refl n le w first.0 first.1 in
        more_taken all start first.0.0 first.0.1 first.0.2 y (record {
          spelled_so = λ last tail e. q.spelled_so ∙ ap (λ z. spelled_comma first.0.0.comma
              (spelled_declarator first.0.0.declarator (spelled_value first.0.0.value z))) e;
          well_formed = λ last a. (q.well_formed.0, q.well_formed.1, q.well_formed.2, q.well_formed.3, a);
          deep = λ last. (let g = q.deep in let j = q.declarator_so in omega (arith, g, j, deep));
          within = q.within;
          whole = q.whole;
          some = refl;
        }) first.2

    declarators_taken : (tokens : List Lexeme) → AreWhole tokens → (y : List Trees.InitDeclarator × ℕ × List Lexeme)
        → declarators_in declarator initial tokens ≡ Some y → Listed tokens 0 y
    unfolding declarators_in
    declarators_taken tokens w y h =
        let s = bind_some (named_in declarator tokens) _ y h in
        let v = named_taken types k declarator declarators_pull tokens w s.0 s.1 in
        after_taken tokens s.0.0 0 s.0.1 s.0.2 v.spelled_so v.well_formed (let e = v.deep in omega (arith, e)) v.within v.whole y s.2

    -- where there must be a declarator, there is one
    record ListedIfAny (full : Bool) (all : List Lexeme) (y : List Trees.InitDeclarator × ℕ × List Lexeme) : Type 0 where
      pub spelled_so : all ≡ spelled_init_declarators y.0 y.2
      pub well_formed : AreInitDeclarators types true y.0
      pub deep : y.1 ≡ depth_init_declarators y.0
      pub within : y.1 ≤ k
      pub whole : AreWhole y.2
      pub some : full ≡ true → y.0 ≢ []

    if_any_taken : (full : Bool) (tokens : List Lexeme) → AreWhole tokens → (y : List Trees.InitDeclarator × ℕ × List Lexeme)
        → declarators_if_any full declarator initial tokens ≡ Some y → ListedIfAny full tokens y
    if_any_taken full tokens w y h =
        chosen (not full && fronted is_semicolon tokens) _ _ y (ListedIfAny full tokens y) h
        (λ c h. given (ListedIfAny full tokens) _ y h (record {
          spelled_so = refl;
          well_formed = tt;
          deep = refl;
          within = omega arith;
          whole =
              w;
          some = λ f. (let n = negated full (both (not full) (fronted is_semicolon tokens) c).0 in cc);
        }))
        (λ c h. let p = declarators_taken tokens w y h in record {
          spelled_so = p.spelled_so;
          well_formed = p.well_formed;
          deep =
              (let e = p.deep in omega (arith, e));
          within = p.within;
          whole = p.whole;
          some = λ f. p.some;
        })

-- ---- declarations

-- a declaration, which has a declarator where it must
abbrev pub IsDeclarationOf : Bool → List (List ℕ) → Trees.Declaration → Type 0
IsDeclarationOf true types x = IsFullDeclaration types x
IsDeclarationOf false types x = IsDeclaration types x

declaration_of : (full : Bool) (types : List (List ℕ)) (x : Trees.Declaration) → (full ≡ true → x.all ≢ []) → IsDeclaration types x
    → IsDeclarationOf full types x
declaration_of true types x f p = (f refl, p)
declaration_of false types x f p = p

pub declaration_sound : (full : Bool) (types : List (List ℕ)) → ((k : ℕ) → IsSound types k (at types k)) → (k : ℕ)
    → Reads spelled_declaration (IsDeclarationOf full types) depth_declaration k (declaration_in full types k)
unfolding declaration_in
declaration_sound full types s k tokens w y h =
    let specs = bind_some ((at types k).specifiers tokens) _ y h in
    let all = bind_some (declarators_if_any full ((at types k).declarator) (initial_at types k) specs.0.2) _ y specs.2 in
    let semicolon = bind_some (after is_semicolon all.0.2) _ y all.2 in
    let p = (s k).specifiers tokens w specs.0 specs.1 in
    let q = if_any_taken types k (initial_at types k) (initial_sound types s k) ((at types k).declarator)
    ((s k).declarator) full specs.0.2 p.whole all.0 all.1 in
    let l = semicolon_taken all.0.2 q.whole semicolon.0 semicolon.1 in
    given (Took spelled_declaration (IsDeclarationOf full types) depth_declaration k tokens) _ y semicolon.2 (record {
      spelled_so = p.spelled_so ∙ ap (λ z. spelled_specifiers specs.0.0 z) (q.spelled_so ∙ ap (λ z. spelled_init_declarators all.0.0 z) l.0);
      well_formed = declaration_of full types _ q.some (p.well_formed, q.well_formed);
      deep = (let e = p.deep in let f = q.deep in omega (arith, e, f));
      within = (let e = p.within in let f = q.within in omega (arith, e, f));
      whole = l.1;
    })
