-- In an annotated file the string literals of initializers have their objects, where one begins there (C99 6.4.5, 6.7.8).
use Rattle.std.proofs.Common.{◌≡◌, ℕ, suc, ◌+◌, Bool, true, false, List, [], ◌∷◌, refl, sym, subst, inl, inr}
use Rattle.std.proofs.lemmas.Bool.{eqb-true}
use Rattle.std.specs.Prelude.{◌==◌, ◌||◌, Option, Some, None, slice_get}
use Rattle.c_types.specs.Types.{CType, Field}
use Rattle.c_ast.specs.declared.words.Spelling.{Spelling}
use Rattle.c_ast.specs.Trees
use Rattle.c_ast.specs.Places.{first_text}
use Rattle.c_typed.specs.Trees as Typed
use Rattle.c_erasure.specs.Initializers.{Part, texts_of, IsText, IsOneValue, Initializes, InitializeElements, InitializeFields}
use Rattle.c_erasure.specs.Initializers.{IsInitializer}
use Rattle.c_erasure.specs.Noted.{Noted, Expression}
use Rattle.c_erasure.specs.Scopes.{AnObject, Scope}
use Rattle.c_erasure.specs.Statements.{HasInitializer, HasConstants}
use Rattle.c_checking_laws.proofs.CompleteLocals.{begins, walk_of_initializer, walk_of_initializers, walk_of_initial}
use Rattle.c_checking_laws.proofs.CompleteWalk.{Event, a_literal, walk}
use Rattle.c_checking_laws.proofs.WholeFiles.CompletePlain.{none_begins, Plainly, IsPlain, plain, no_braces, texts_in_braces}
use Rattle.c_checking_units.proofs.There.{HasObject, There, both, there}

abbrev IsAmong : List AnObject → ℕ → Type 0
IsAmong objects at = (n : ℕ) × (o : AnObject) × (slice_get objects n ≡ Some o) × (o.first ≡ at)

-- an object of the file begins there
pub begun : (objects : List AnObject) (at : ℕ) → begins objects at ≡ true → IsAmong objects at
begun [] at h = cc
begun (o ∷ objects) at h = by_test (o.first == at) refl h (λ k. begun objects at k)
  where
    by_test : (b : Bool) → (o.first == at) ≡ b → (b || begins objects at) ≡ true → (begins objects at ≡ true → IsAmong objects at)
        → IsAmong (o ∷ objects) at
    by_test true e k later = (0, o, refl, eqb-true o.first at e)
    by_test false e k later = let z = later k in (suc z.0, z.1, z.2, z.3)

abbrev Initial : Scope → Trees.Expression → List Event
Initial s a = walk_of_initializer s.file.untagged s.file.objects a

abbrev Initials : Scope → Trees.Arguments → List Event
Initials s all = walk_of_initializers s.file.untagged s.file.objects all

literal_alone : (s : Scope) (at : ℕ) → HasObject s.file at → There s (a_literal at ∷ [])
literal_alone s at h = (λ m. h, tt)

texts_alone : (s : Scope) (a : Trees.Expression) (all : List Spelling) → a ≡ Trees.texts all → HasObject s.file (first_text all)
    → There s (walk s.file.untagged a)
texts_alone s a all e h = subst (λ a. There s (walk s.file.untagged a)) (sym e) (literal_alone s (first_text all) h)

-- an expression, where all that is no string literal has its objects
any_there : (a : Trees.Expression) → IsPlain a → (s : Scope) → (texts_of a ≡ None → There s (walk s.file.untagged a)) → There s (Initial s a)
any_there a p s h = by_texts (texts_of a) refl
  where
    by_begins : (all : List Spelling) → texts_of a ≡ Some all → (b : Bool) → begins s.file.objects (first_text all) ≡ b → There s (Initial s a)
    by_begins all e true k =
        subst (There s) (sym (p.walked s.file.untagged s.file.objects (λ own f. let same : all ≡ own = cc in
        subst (λ all. begins s.file.objects (first_text all) ≡ true) same k)))
        (texts_alone s a all (p.is_texts all e) (begun s.file.objects (first_text all) k))
    by_begins all e false k = subst (There s) (sym (p.bytes s.file.untagged s.file.objects all e k)) tt

    by_texts : (o : Option (List Spelling)) → texts_of a ≡ o → There s (Initial s a)
    by_texts None e = subst (There s) (sym (p.walked s.file.untagged s.file.objects (λ own f. cc))) (h e)
    by_texts (Some all) e = by_begins all e (begins s.file.objects (first_text all)) refl

-- ---- what is said of initializers

abbrev OfInitial : Trees.Expression → Type 0
OfInitial a = (s : Scope) (t : CType) (at : ℕ) (parts : List Part) → Initializes a s t at parts → There s (Initial s a)

abbrev OfElements : Trees.Arguments → Type 0
OfElements all = (s : Scope) (u : CType) (n at : ℕ) (parts : List Part) → InitializeElements all s u n at parts → There s (Initials s all)

abbrev OfFields : Trees.Arguments → Type 0
OfFields all = (s : Scope) (r k : ℕ) (fields : List Field) (at : ℕ) (parts : List Part) → InitializeFields all s r k fields at parts
    → There s (Initials s all)

of_plain : (a : Trees.Expression) → IsPlain a → OfInitial a
of_plain a p s t at parts h = any_there a p s (λ e. by_kind e (p.stands s t at parts h))
  where
    no_text : (o : Option (List Spelling)) → o ≡ None → IsText o s t at parts → There s (walk s.file.untagged a)
    no_text None e h = absurd h
    no_text (Some all) e h = cc

    by_kind : texts_of a ≡ None → Plainly a s t at parts → There s (walk s.file.untagged a)
    by_kind e (inl k) = there a s k.4.0 k.4.2
    by_kind e (inr (inl k)) = there a s _ k.5
    by_kind e (inr (inr k)) = no_text (texts_of a) e k

of_one_value : (all : Trees.Arguments) (s : Scope) (x : Expression) → IsOneValue all s x → There s (Initials s all)
of_one_value Trees.no_arguments s x h = absurd h
of_one_value (Trees.and_argument comma a Trees.no_arguments) s x h =
    both s (Initial s a) [] (any_there a (plain a (no_braces a s h.0 h.2)) s (λ e. there a s h.0 h.2)) tt
of_one_value (Trees.and_argument comma a (Trees.and_argument between b more)) s x h = absurd h

of_text : (left : ℕ) (all : Trees.Arguments) (last : Option ℕ) (right : ℕ) (s : Scope) (t : CType) (at : ℕ) (parts : List Part)
    (o : Option (List Spelling)) → texts_of (Trees.braces left all last right) ≡ o → IsText o s t at parts → There s (Initials s all)
of_text left all last right s t at parts None e h = absurd h
of_text left all last right s t at parts (Some ts) e h =
    subst (There s) (sym (texts_in_braces left all last right ts s.file.untagged s.file.objects e (none_begins s.file.objects (first_text ts) h.2))) tt

of_braces : (left : ℕ) (all : Trees.Arguments) (last : Option ℕ) (right : ℕ) → OfElements all → OfFields all → OfInitial (Trees.braces left all last right)
of_braces left all last right p q s t at parts (inl h) = of_one_value all s h.0 h.4
of_braces left all last right p q s t at parts (inr (inl h)) = p s h.1 h.0 at parts h.4
of_braces left all last right p q s t at parts (inr (inr (inl h))) = q s h.0 0 h.1.fields at parts h.4
of_braces left all last right p q s t at parts (inr (inr (inr h))) =
    of_text left all last right s t at parts (texts_of (Trees.braces left all last right)) refl h

of_element : (comma : Option ℕ) (a : Trees.Expression) (more : Trees.Arguments) → OfInitial a → OfElements more
    → OfElements (Trees.and_argument comma a more)
of_element comma a more p q s u n at parts h = both s (Initial s a) (Initials s more) (p s u at h.1 h.5) (q s u h.0 _ h.2 h.6)

of_field : (comma : Option ℕ) (a : Trees.Expression) (more : Trees.Arguments) → OfInitial a → OfFields more → OfFields (Trees.and_argument comma a more)
of_field comma a more p q s r k fields at parts h = both s (Initial s a) (Initials s more) (p s h.0.ty _ h.2 h.6) (q s r (k + 1) h.1 at h.3 h.7)

mutual
  initial_there : (a : Trees.Expression) → OfInitial a
  initial_there (Trees.name x) = of_plain (Trees.name x) (plain (Trees.name x) refl)
  initial_there (Trees.number x n kind) = of_plain (Trees.number x n kind) (plain (Trees.number x n kind) refl)
  initial_there (Trees.character x n) = of_plain (Trees.character x n) (plain (Trees.character x n) refl)
  initial_there (Trees.texts all) = of_plain (Trees.texts all) (plain (Trees.texts all) refl)
  initial_there (Trees.paren left a right) = of_plain (Trees.paren left a right) (plain (Trees.paren left a right) refl)
  initial_there (Trees.index a left b right) = of_plain (Trees.index a left b right) (plain (Trees.index a left b right) refl)
  initial_there (Trees.call f left all right) = of_plain (Trees.call f left all right) (plain (Trees.call f left all right) refl)
  initial_there (Trees.dot a at x) = of_plain (Trees.dot a at x) (plain (Trees.dot a at x) refl)
  initial_there (Trees.arrow a at x) = of_plain (Trees.arrow a at x) (plain (Trees.arrow a at x) refl)
  initial_there (Trees.post a op at) = of_plain (Trees.post a op at) (plain (Trees.post a op at) refl)
  initial_there (Trees.pre op at a) = of_plain (Trees.pre op at a) (plain (Trees.pre op at a) refl)
  initial_there (Trees.unary op at a) = of_plain (Trees.unary op at a) (plain (Trees.unary op at a) refl)
  initial_there (Trees.sizeof_expression at a) = of_plain (Trees.sizeof_expression at a) (plain (Trees.sizeof_expression at a) refl)
  initial_there (Trees.sizeof_type at left n right) = of_plain (Trees.sizeof_type at left n right) (plain (Trees.sizeof_type at left n right) refl)
  initial_there (Trees.cast left n right a) = of_plain (Trees.cast left n right a) (plain (Trees.cast left n right a) refl)
  initial_there (Trees.binary a op at b) = of_plain (Trees.binary a op at b) (plain (Trees.binary a op at b) refl)
  initial_there (Trees.cond a question b colon c) = of_plain (Trees.cond a question b colon c) (plain (Trees.cond a question b colon c) refl)
  initial_there (Trees.assign a op at b) = of_plain (Trees.assign a op at b) (plain (Trees.assign a op at b) refl)
  initial_there (Trees.comma a at b) = of_plain (Trees.comma a at b) (plain (Trees.comma a at b) refl)
  initial_there (Trees.braces left all last right) = of_braces left all last right (elements_there all) (fields_there all)

  elements_there : (all : Trees.Arguments) → OfElements all
  elements_there Trees.no_arguments = λ s u n at parts h. tt
  elements_there (Trees.and_argument comma a more) = of_element comma a more (initial_there a) (elements_there more)

  fields_there : (all : Trees.Arguments) → OfFields all
  fields_there Trees.no_arguments = λ s r k fields at parts h. tt
  fields_there (Trees.and_argument comma a more) = of_field comma a more (initial_there a) (fields_there more)

-- ---- of whole objects

whole_there : (a : Trees.Expression) (s : Scope) (t : CType) (i : Typed.Initializer Noted) → IsInitializer a s t i → There s (Initial s a)
whole_there a s t i (inl h) = initial_there a s t 0 _ h.3
whole_there a s t i (inr (inl h)) = initial_there a s t 0 _ h.4
whole_there a s t i (inr (inr h)) = initial_there a s t 0 _ h.3

pub constants_there : (value : Option (ℕ × Trees.Expression)) (s : Scope) (t : CType) (i : Typed.Initializer Noted) → HasConstants s t value i
    → There s (walk_of_initial s.file.untagged s.file.objects value)
constants_there None s t i h = tt
constants_there (Some value) s t i h = whole_there value.1 s t i h.0

pub initializer_there : (value : Option (ℕ × Trees.Expression)) (s : Scope) (t : CType) (o : Option (Typed.Initializer Noted))
    → HasInitializer s t value o → There s (walk_of_initial s.file.untagged s.file.objects value)
initializer_there None s t o h = tt
initializer_there (Some value) s t o h = whole_there value.1 s t h.0 h.2
