-- What a chain of steps took: a fact that each step keeps, and lists that grow at their end.
use Rattle.std.proofs.Common.{◌≡◌, ◌≢◌, ℕ, zero, suc, ◌≤◌, List, [], ◌∷◌, ◌++◌, Option, Some, Bool, true, false, max, refl, ap, sym, ◌∙◌, subst}
use Rattle.std.proofs.Common.{arith, cond, append_assoc, append-nil}
use Rattle.c_ast.specs.Spelling.{Lexeme}
use Rattle.c_grammar.proofs.Wholeness.{AreWhole}
use Rattle.c_grammar.specs.Reading.{Step, chain}
use Rattle.c_grammar.proofs.Fronts.{bind_some, given, is_first}

-- what a step gives goes on, or is the end
abbrev pub Goes : {S : Type 0} → (S → ℕ → List Lexeme → Type 0) → (S × ℕ × List Lexeme → Type 0) → S × ℕ × List Lexeme × Bool → Bool → Type 0
Goes P Q r true = P r.0 r.1 r.2
Goes P Q r false = Q (r.0, r.1, r.2)

going : {S : Type 0} (P : S → ℕ → List Lexeme → Type 0) (Q : S × ℕ × List Lexeme → Type 0) (r : S × ℕ × List Lexeme × Bool) (b : Bool)
    (y : S × ℕ × List Lexeme) (next : Option (S × ℕ × List Lexeme))
    → (P r.0 r.1 r.2 → next ≡ Some y → Q y) → Goes P Q r b → cond b next (Some (r.0, r.1, r.2)) ≡ Some y → Q y
going P Q r true y next f p h = f p h
going P Q r false y next f p h = given Q (r.0, r.1, r.2) y h p

pub chain_taken : {S : Type 0} (step : Step S) (P : S → ℕ → List Lexeme → Type 0) (Q : S × ℕ × List Lexeme → Type 0)
    → ((x : S) (d : ℕ) (tokens : List Lexeme) (r : S × ℕ × List Lexeme × Bool) → P x d tokens → step x d tokens ≡ Some r → Goes P Q r r.3)
    → (s : ℕ) (x : S) (d : ℕ) (tokens : List Lexeme) (y : S × ℕ × List Lexeme) → P x d tokens → chain step s x d tokens ≡ Some y → Q y
unfolding chain
chain_taken step P Q f zero x d tokens y p h = cc
chain_taken step P Q f (suc s) x d tokens y p h =
    let r = bind_some (step x d tokens) _ y h in
    going P Q r.0 r.0.3 y (chain step s r.0.0 r.0.1 r.0.2) (λ p h. chain_taken step P Q f s r.0.0 r.0.1 r.0.2 y p h) (f x d tokens r.0 p r.1) r.2

-- ---- lists

-- lists whose spelling, depth and levels are those of their elements
pub record Listing (A : Type 0) : Type 1 where
  pub spelled_all : List A → List Lexeme → List Lexeme
  pub spelled_one : A → List Lexeme → List Lexeme
  pub depth_all : List A → ℕ
  pub depth_one : A → ℕ
  pub AreAll : Bool → List A → Type 0
  pub IsOne : Bool → A → Type 0
  pub spelled_none : (rest : List Lexeme) → spelled_all [] rest ≡ rest
  pub spelled_more : (a : A) (more : List A) (rest : List Lexeme) → spelled_all (a ∷ more) rest ≡ spelled_one a (spelled_all more rest)
  pub depth_none : depth_all [] ≡ 0
  pub depth_more : (a : A) (more : List A) → depth_all (a ∷ more) ≡ max (depth_one a) (depth_all more)
  pub are_none : (first : Bool) → AreAll first []
  pub are_more : (first : Bool) (a : A) (more : List A) → IsOne first a → AreAll false more → AreAll first (a ∷ more)

first_no_more : {A : Type 0} (done : List A) (a : A) → is_first (done ++ a ∷ []) ≡ false
first_no_more [] a = refl
first_no_more (x ∷ done) a = refl

pub some_more : {A : Type 0} (done : List A) (a : A) → done ++ a ∷ [] ≢ []
some_more [] a e = cc
some_more (x ∷ done) a e = cc

-- any list, before anything
abbrev pub AnyEnd : {A : Type 0} → List A → List Lexeme → Type 0
AnyEnd all rest = Unit {0}

-- a list that is not empty
abbrev pub IsSome : {A : Type 0} → List A → List Lexeme → Type 0
IsSome all rest = all ≢ []

module _ {A : Type 0} (l : Listing A) (n : ℕ) where
  -- a step adds one at the end, or changes nothing and is the last
  pub data Grown (done : List A) (d : ℕ) (tokens : List Lexeme) (r : List A × ℕ × List Lexeme × Bool) : Type 0 where
    added : (a : A) → r.0 ≡ done ++ a ∷ [] → r.1 ≡ max d (l.depth_one a) → tokens ≡ l.spelled_one a r.2 → l.IsOne (is_first done) a
        → l.depth_one a ≤ n → AreWhole r.2 → Grown done d tokens r
    ended : r.0 ≡ done → r.1 ≡ d → r.2 ≡ tokens → Grown done d tokens r

  -- what is so far a list after `start`, the depth before it
  record SoFar (all : List Lexeme) (start : ℕ) (done : List A) (d : ℕ) (tokens : List Lexeme) : Type 0 where
    pub spelled_so : (last : List A) (tail : List Lexeme) → tokens ≡ l.spelled_all last tail → all ≡ l.spelled_all (done ++ last) tail
    pub well_formed : (last : List A) → l.AreAll (is_first done) last → l.AreAll true (done ++ last)
    pub deep : (last : List A) → max d (l.depth_all last) ≡ max start (l.depth_all (done ++ last))
    pub within : d ≤ n
    pub whole : AreWhole tokens

  pub record Listed (End : List A → List Lexeme → Type 0) (all : List Lexeme) (start : ℕ) (y : List A × ℕ × List Lexeme) : Type 0 where
    pub spelled_so : all ≡ l.spelled_all y.0 y.2
    pub well_formed : l.AreAll true y.0
    pub deep : y.1 ≡ max start (l.depth_all y.0)
    pub within : y.1 ≤ n
    pub whole : AreWhole y.2
    pub ends : End y.0 y.2

  keeps : (all : List Lexeme) (start : ℕ) (done : List A) (d : ℕ) (tokens : List Lexeme) (r : List A × ℕ × List Lexeme × Bool)
      → SoFar all start done d tokens → Grown done d tokens r → SoFar all start r.0 r.1 r.2
  keeps all start done d tokens r p (added a is deep spelled_so one le whole) = record {
    spelled_so = λ last tail e. rw (is, append_assoc done (a ∷ []) last)
        (p.spelled_so (a ∷ last) tail (spelled_so ∙ ap (λ z. l.spelled_one a z) e ∙ sym (l.spelled_more a last tail)));
    well_formed = λ last w. rw (is, append_assoc done (a ∷ []) last)
        (p.well_formed (a ∷ last) (l.are_more (is_first done) a last one (subst (λ b. l.AreAll b last) (ap is_first is ∙ first_no_more done a) w)));
    deep = λ last. rw (is, append_assoc done (a ∷ []) last) (let f = p.deep (a ∷ last) in let e = l.depth_more a last in omega (arith, f, e, deep));
    within = omega (arith, p.within);
    whole = whole;
  }
  keeps all start done d tokens r p (ended is deep rest) = rw (is, deep, rest) p

  ends : (End : List A → List Lexeme → Type 0) (all : List Lexeme) (start : ℕ) (y : List A × ℕ × List Lexeme) → SoFar all start y.0 y.1 y.2
      → End y.0 y.2 → Listed End all start y
  ends End all start y p e = record {
    spelled_so = let q = p.spelled_so [] y.2 (sym (l.spelled_none y.2)) in q ∙ ap (λ z. l.spelled_all z y.2) (append-nil y.0);
    well_formed = subst (λ z. l.AreAll true z) (append-nil y.0) (p.well_formed [] (l.are_none (is_first y.0)));
    deep = let f = p.deep [] in let e = l.depth_none in let g = ap (λ z. l.depth_all z) (append-nil y.0) in omega (arith, f, e, g);
    within = p.within;
    whole = p.whole;
    ends = e;
  }

  goes : (End : List A → List Lexeme → Type 0) (all : List Lexeme) (start : ℕ) (r : List A × ℕ × List Lexeme × Bool) (b : Bool)
      → SoFar all start r.0 r.1 r.2 → (b ≡ false → End r.0 r.2) → Goes (SoFar all start) (Listed End all start) r b
  goes End all start r true p e = p
  goes End all start r false p e = ends End all start (r.0, r.1, r.2) p (e refl)

  -- such a step, with what holds after the last
  abbrev pub Grows : (List A → List Lexeme → Type 0) → List A → ℕ → List Lexeme → List A × ℕ × List Lexeme × Bool → Type 0
  Grows End done d tokens r = Grown done d tokens r × (r.3 ≡ false → End r.0 r.2)

  -- a chain of such steps
  pub list_taken : (End : List A → List Lexeme → Type 0) (step : Step (List A))
      → ((done : List A) (d : ℕ) (tokens : List Lexeme) (r : List A × ℕ × List Lexeme × Bool) → AreWhole tokens → step done d tokens ≡ Some r
      → Grows End done d tokens r)
      → (s start : ℕ) → start ≤ n → (tokens : List Lexeme) → AreWhole tokens → (y : List A × ℕ × List Lexeme) → chain step s [] start tokens ≡ Some y
      → Listed End tokens start y
  list_taken End step f s start le tokens w y h =
      chain_taken step (SoFar tokens start) (Listed End tokens start)
      (λ done d rest r p h. let g = f done d rest r p.whole h in goes End tokens start r r.3 (keeps tokens start done d rest r p g.0) g.1)
      s [] start tokens y (record { spelled_so = λ last tail e. e; well_formed = λ last w. w; deep = λ last. refl; within = le; whole = w }) h
