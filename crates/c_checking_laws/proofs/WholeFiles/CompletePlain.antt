-- Initializers without braces, and what stands in them (C99 6.7.8).
use Rattle.std.proofs.Common.{arith, ◌≡◌, ◌≢◌, ℕ, zero, suc, Bool, true, false, refl, sym, ap, ◌∙◌, subst, List, [], ◌∷◌, ◌++◌}
use Rattle.std.proofs.lemmas.Bool.Decides.{nat_tests}
use Rattle.std.proofs.lemmas.List.Elements.{All-head, All-tail}
use Rattle.std.specs.Prelude.{◌⊎◌, ◌==◌, ◌||◌, All, Option, Some, None, slice_get}
use Rattle.c_types.specs.Types.{CType, structure}
use Rattle.c_ast.specs.declared.words.Spelling.{Spelling}
use Rattle.c_ast.specs.Trees
use Rattle.c_ast.specs.Places.{first, first_text}
use Rattle.c_typed.specs.Trees as Typed
use Rattle.c_typed.specs.Conversions.{is_scalar}
use Rattle.c_erasure.specs.Erasure.{Values, Erases}
use Rattle.c_erasure.specs.Initializers.{Part, part_at, texts_of, is_braces, IsText, Initializes}
use Rattle.c_erasure.specs.Noted.{Noted, Expression, Thing, an_object, type_of, type_of_path}
use Rattle.c_erasure.specs.Scopes.{AnObject, Scope}
use Rattle.c_erasure.specs.Checking.Finding.{find}
use Rattle.c_erasure.specs.Checking.Initializers.{without_braces, initialized, one_value}
use Rattle.c_checking_laws.proofs.CompleteNodes.{some_is}
use Rattle.c_checking_laws.proofs.CompleteWalk.{walk}
use Rattle.c_checking_laws.proofs.CompleteLocals.{begins, literal_if, walk_of_initializer, walk_of_initializers}

-- ---- where objects begin

same : (n m : ℕ) → n ≡ m → (n == m) ≡ true
same n m h = grind (arith, nat_tests)

other : (n m : ℕ) → n ≢ m → (n == m) ≡ false
other n m h = grind (arith, nat_tests)

or_true : (b : Bool) → (b || true) ≡ true
or_true true = refl
or_true false = refl

pub one_begins : (objects : List AnObject) (n : ℕ) (o : AnObject) → slice_get objects n ≡ Some o → begins objects o.first ≡ true
one_begins [] n o h = cc
one_begins (p ∷ objects) zero o h =
    let e = same p.first o.first (ap (λ (o : AnObject). o.first) (some_is p o h)) in
    ap (λ b. b || begins objects o.first) e
one_begins (p ∷ objects) (suc n) o h = ap (λ b. (p.first == o.first) || b) (one_begins objects n o h) ∙ or_true (p.first == o.first)

pub none_begins : (objects : List AnObject) (at : ℕ) → All (λ o. o.first ≢ at) objects → begins objects at ≡ false
none_begins [] at h = refl
none_begins (p ∷ objects) at h =
    let e = other p.first at (All-head (λ (o : AnObject). o.first ≢ at) p objects h) in
    ap (λ b. b || begins objects at) e ∙ none_begins objects at (All-tail (λ (o : AnObject). o.first ≢ at) p objects h)

-- ---- a value, a record, or string literals

abbrev pub Plainly : Trees.Expression → Scope → CType → ℕ → List Part → Type 0
Plainly a s t at parts =
    ((x : Expression) × (is_scalar t ≡ true) × (type_of x ≡ t) × (parts ≡ part_at at (Typed.value x)) × Values (Erases a s) x)
    ⊎ ((r : ℕ) × (p : Typed.Path Noted) × (t ≡ structure r) × (type_of_path p ≡ t) × (parts ≡ part_at at (Typed.record_of p)) × Erases a s
    (an_object p))
    ⊎ IsText (texts_of a) s t at parts

pub record IsPlain (a : Trees.Expression) : Type 0 where
  pub found : (s : Scope) (t : CType) (at : ℕ) → initialized a s t at ≡ without_braces (first a) at t (texts_of a) s.file (find a s)
  pub one : (left : ℕ) (comma : Option ℕ) (s : Scope) (t : CType) (at : ℕ)
      → one_value left (Trees.and_argument comma a Trees.no_arguments) s t at ≡ without_braces (first a) at t None s.file (find a s)
  pub stands : (s : Scope) (t : CType) (at : ℕ) (parts : List Part) → Initializes a s t at parts → Plainly a s t at parts
  -- what stands in it, where each literal is an object, or a literal alone is none
  pub walked : (u : ℕ → List ℕ) (objects : List AnObject) → ((all : List Spelling) → texts_of a ≡ Some all → begins objects (first_text all) ≡ true)
      → walk_of_initializer u objects a ≡ walk u a
  pub bytes : (u : ℕ → List ℕ) (objects : List AnObject) (all : List Spelling) → texts_of a ≡ Some all → begins objects (first_text all) ≡ false
      → walk_of_initializer u objects a ≡ []
  pub is_texts : (all : List Spelling) → texts_of a ≡ Some all → a ≡ Trees.texts all

same_texts : (ts all : List Spelling) → texts_of (Trees.texts ts) ≡ Some all → ts ≡ all
same_texts ts all e = cc

pub plain : (a : Trees.Expression) → is_braces a ≡ false → IsPlain a
unfolding initialized one_value
plain (Trees.name x) h = record {
  found = λ s t at. refl;
  one = λ from comma s t at. refl;
  stands = λ s t at parts p. p;
  walked = λ u objects k. refl;
  bytes = λ u objects all e k. cc;
  is_texts = λ all e. cc;
}
plain (Trees.number x n kind) h = record {
  found = λ s t at. refl;
  one = λ from comma s t at. refl;
  stands = λ s t at parts p. p;
  walked = λ u objects k. refl;
  bytes = λ u objects all e k. cc;
  is_texts = λ all e. cc;
}
plain (Trees.character x n) h = record {
  found = λ s t at. refl;
  one = λ from comma s t at. refl;
  stands = λ s t at parts p. p;
  walked = λ u objects k. refl;
  bytes = λ u objects all e k. cc;
  is_texts = λ all e. cc;
}
plain (Trees.texts ts) h = record {
  found = λ s t at. refl;
  one = λ left comma s t at. refl;
  stands = λ s t at parts p. p;
  walked = λ u objects k. ap (λ b. literal_if b (first_text ts)) (k ts refl);
  bytes = λ u objects all e k.
      ap (λ b. literal_if b (first_text ts)) (subst (λ all. begins objects (first_text all) ≡ false) (sym (same_texts ts all e)) k);
  is_texts = λ all e. ap (λ ts. Trees.texts ts) (same_texts ts all e);
}
plain (Trees.paren left a right) h = record {
  found = λ s t at. refl;
  one = λ from comma s t at. refl;
  stands = λ s t at parts p. p;
  walked = λ u objects k. refl;
  bytes = λ u objects all e k. cc;
  is_texts = λ all e. cc;
}
plain (Trees.index a left b right) h = record {
  found = λ s t at. refl;
  one = λ from comma s t at. refl;
  stands = λ s t at parts p. p;
  walked = λ u objects k. refl;
  bytes = λ u objects all e k. cc;
  is_texts = λ all e. cc;
}
plain (Trees.call f left all right) h = record {
  found = λ s t at. refl;
  one = λ from comma s t at. refl;
  stands = λ s t at parts p. p;
  walked = λ u objects k. refl;
  bytes = λ u objects all e k. cc;
  is_texts = λ all e. cc;
}
plain (Trees.dot a at' x) h = record {
  found = λ s t at. refl;
  one = λ from comma s t at. refl;
  stands = λ s t at parts p. p;
  walked = λ u objects k. refl;
  bytes = λ u objects all e k. cc;
  is_texts = λ all e. cc;
}
plain (Trees.arrow a at' x) h = record {
  found = λ s t at. refl;
  one = λ from comma s t at. refl;
  stands = λ s t at parts p. p;
  walked = λ u objects k. refl;
  bytes = λ u objects all e k. cc;
  is_texts = λ all e. cc;
}
plain (Trees.post a op at') h = record {
  found = λ s t at. refl;
  one = λ from comma s t at. refl;
  stands = λ s t at parts p. p;
  walked = λ u objects k. refl;
  bytes = λ u objects all e k. cc;
  is_texts = λ all e. cc;
}
plain (Trees.pre op at' a) h = record {
  found = λ s t at. refl;
  one = λ from comma s t at. refl;
  stands = λ s t at parts p. p;
  walked = λ u objects k. refl;
  bytes = λ u objects all e k. cc;
  is_texts = λ all e. cc;
}
plain (Trees.unary op at' a) h = record {
  found = λ s t at. refl;
  one = λ from comma s t at. refl;
  stands = λ s t at parts p. p;
  walked = λ u objects k. refl;
  bytes = λ u objects all e k. cc;
  is_texts = λ all e. cc;
}
plain (Trees.sizeof_expression at' a) h = record {
  found = λ s t at. refl;
  one = λ from comma s t at. refl;
  stands = λ s t at parts p. p;
  walked = λ u objects k. refl;
  bytes = λ u objects all e k. cc;
  is_texts = λ all e. cc;
}
plain (Trees.sizeof_type at' left n right) h = record {
  found = λ s t at. refl;
  one = λ from comma s t at. refl;
  stands = λ s t at parts p. p;
  walked = λ u objects k. refl;
  bytes = λ u objects all e k. cc;
  is_texts = λ all e. cc;
}
plain (Trees.cast left n right a) h = record {
  found = λ s t at. refl;
  one = λ from comma s t at. refl;
  stands = λ s t at parts p. p;
  walked = λ u objects k. refl;
  bytes = λ u objects all e k. cc;
  is_texts = λ all e. cc;
}
plain (Trees.binary a op at' b) h = record {
  found = λ s t at. refl;
  one = λ from comma s t at. refl;
  stands = λ s t at parts p. p;
  walked = λ u objects k. refl;
  bytes = λ u objects all e k. cc;
  is_texts = λ all e. cc;
}
plain (Trees.cond a question b colon c) h = record {
  found = λ s t at. refl;
  one = λ from comma s t at. refl;
  stands = λ s t at parts p. p;
  walked = λ u objects k. refl;
  bytes = λ u objects all e k. cc;
  is_texts = λ all e. cc;
}
plain (Trees.assign a op at' b) h = record {
  found = λ s t at. refl;
  one = λ from comma s t at. refl;
  stands = λ s t at parts p. p;
  walked = λ u objects k. refl;
  bytes = λ u objects all e k. cc;
  is_texts = λ all e. cc;
}
plain (Trees.comma a at' b) h = record {
  found = λ s t at. refl;
  one = λ from comma s t at. refl;
  stands = λ s t at parts p. p;
  walked = λ u objects k. refl;
  bytes = λ u objects all e k. cc;
  is_texts = λ all e. cc;
}
plain (Trees.braces left all last right) h = cc

-- what stands for an expression is none in braces
pub no_braces : (a : Trees.Expression) (s : Scope) (th : Thing) → Erases a s th → is_braces a ≡ false
no_braces (Trees.name x) s th h = refl
no_braces (Trees.number x n kind) s th h = refl
no_braces (Trees.character x n) s th h = refl
no_braces (Trees.texts ts) s th h = refl
no_braces (Trees.paren left a right) s th h = refl
no_braces (Trees.index a left b right) s th h = refl
no_braces (Trees.call f left all right) s th h = refl
no_braces (Trees.dot a at' x) s th h = refl
no_braces (Trees.arrow a at' x) s th h = refl
no_braces (Trees.post a op at') s th h = refl
no_braces (Trees.pre op at' a) s th h = refl
no_braces (Trees.unary op at' a) s th h = refl
no_braces (Trees.sizeof_expression at' a) s th h = refl
no_braces (Trees.sizeof_type at' left n right) s th h = refl
no_braces (Trees.cast left n right a) s th h = refl
no_braces (Trees.binary a op at' b) s th h = refl
no_braces (Trees.cond a question b colon c) s th h = refl
no_braces (Trees.assign a op at' b) s th h = refl
no_braces (Trees.comma a at' b) s th h = refl
no_braces (Trees.braces left all last right) s th h = absurd h

-- ---- string literals in braces

pub texts_in_braces : (left : ℕ) (all : Trees.Arguments) (last : Option ℕ) (right : ℕ) (ts : List Spelling) (u : ℕ → List ℕ) (objects : List AnObject)
    → texts_of (Trees.braces left all last right) ≡ Some ts → begins objects (first_text ts) ≡ false → walk_of_initializers u objects all ≡ []
texts_in_braces left Trees.no_arguments last right ts u objects e k = cc
texts_in_braces left (Trees.and_argument comma (Trees.texts own) Trees.no_arguments) last right ts u objects e k =
    let same : own ≡ ts = cc in
    ap (λ b. literal_if b (first_text own) ++ []) (subst (λ ts. begins objects (first_text ts) ≡ false) (sym same) k)
texts_in_braces left (Trees.and_argument between (Trees.name x) more) last right ts u objects e k = cc
texts_in_braces left (Trees.and_argument between (Trees.number x n kind) more) last right ts u objects e k = cc
texts_in_braces left (Trees.and_argument between (Trees.character x n) more) last right ts u objects e k = cc
texts_in_braces left (Trees.and_argument between (Trees.texts own) more) last right ts u objects e k = cc
texts_in_braces left (Trees.and_argument between (Trees.paren from a to) more) last right ts u objects e k = cc
texts_in_braces left (Trees.and_argument between (Trees.index a from b to) more) last right ts u objects e k = cc
texts_in_braces left (Trees.and_argument between (Trees.call f from args to) more) last right ts u objects e k = cc
texts_in_braces left (Trees.and_argument between (Trees.dot a at x) more) last right ts u objects e k = cc
texts_in_braces left (Trees.and_argument between (Trees.arrow a at x) more) last right ts u objects e k = cc
texts_in_braces left (Trees.and_argument between (Trees.post a op at) more) last right ts u objects e k = cc
texts_in_braces left (Trees.and_argument between (Trees.pre op at a) more) last right ts u objects e k = cc
texts_in_braces left (Trees.and_argument between (Trees.unary op at a) more) last right ts u objects e k = cc
texts_in_braces left (Trees.and_argument between (Trees.sizeof_expression at a) more) last right ts u objects e k = cc
texts_in_braces left (Trees.and_argument between (Trees.sizeof_type at from n to) more) last right ts u objects e k = cc
texts_in_braces left (Trees.and_argument between (Trees.cast from n to a) more) last right ts u objects e k = cc
texts_in_braces left (Trees.and_argument between (Trees.binary a op at b) more) last right ts u objects e k = cc
texts_in_braces left (Trees.and_argument between (Trees.cond a question b colon c) more) last right ts u objects e k = cc
texts_in_braces left (Trees.and_argument between (Trees.assign a op at b) more) last right ts u objects e k = cc
texts_in_braces left (Trees.and_argument between (Trees.comma a at b) more) last right ts u objects e k = cc
texts_in_braces left (Trees.and_argument between (Trees.braces from args comma to) more) last right ts u objects e k = cc
