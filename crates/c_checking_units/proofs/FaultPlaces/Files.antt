-- A declaration at file scope stops at a place of its tokens, and what it declares stands at such places.
use Rattle.std.proofs.Common.{◌≡◌, ℕ, ◌&&◌, Bool, true, false, not, cond, List, [], ◌∷◌, Option, Some, None, refl, sym, subst}
use Rattle.std.specs.Prelude.{slice_get}
use Rattle.std.specs.List.{AllByRecursion}
use Rattle.std.specs.Str.{bytes_eq}
use Rattle.lay_base.specs.declared.faults.Rule.TheVariants as R
use Rattle.c_types.specs.Types.{CType}
use Rattle.c_types.specs.Sameness.{same_type}
use Rattle.c_ast.specs.declared.words.Spelling.{Spelling}
use Rattle.c_ast.specs.Trees
use Rattle.c_ast.specs.Places.{first_specifiers, first_declarator}
use Rattle.c_ast.specs.Spelling.{Lexeme, spelled_value, spelled_init_declarators, spelled_declaration, spelled_declarator}
use Rattle.c_typed.specs.declared.operators.LibraryFunction.{LibraryFunction}
use Rattle.c_typed.specs.declared.program.MentionKind.TheVariants.{Object, Named}
use Rattle.c_typed.specs.Trees as Typed
use Rattle.c_typed.specs.Conversions.{is_function}
use Rattle.c_erasure.specs.Broken.{redeclared}
use Rattle.c_erasure.specs.Declarators.{declared_name}
use Rattle.c_erasure.specs.Erasure.{place_in}
use Rattle.c_erasure.specs.Files.{declares_tag, may_stand_in_file}
use Rattle.c_erasure.specs.Marks.{name_from, after_declarator}
use Rattle.c_erasure.specs.Noted.{Noted}
use Rattle.c_erasure.specs.Scopes.{How, declares, tentative, defines, Entity, an_object, a_function, Bound, AnObject, AFunction, FileScope}
use Rattle.c_erasure.specs.Scopes.{at_file_scope}
use Rattle.c_erasure.specs.Specifiers.{Storage, a_typedef, storage_of}
use Rattle.c_erasure.specs.Checking.Answers.{Answer, ◌>>=◌}
use Rattle.c_erasure.specs.Checking.Declaring as D
use Rattle.c_erasure.specs.Checking.Finding.{complete, base_type, one_of, derivations}
use Rattle.c_erasure.specs.Checking.Statements.{sized_in, constants_if_any}
use Rattle.c_erasure.specs.Checking.Files as F
use Rattle.c_checking_units.proofs.FaultPlaces.Given.{Gives, InFile, AreAt, IsAt, IsIn, found, fails, refuses, then, chosen, all_one}
use Rattle.c_checking_units.proofs.FaultPlaces.Tokens.{Tokens, comma_after, specifiers_behind, declarator_behind}
use Rattle.c_checking_units.proofs.FaultPlaces.Firsts.{IsNameAt, specifiers_begin, declarator_begins, name_at}
use Rattle.c_checking_units.proofs.FaultPlaces.Declaring.{mentioned, object_added, bound_added, derived_stops, object_stops, IsBoundAt, declared_among_at}
use Rattle.c_checking_units.proofs.FaultPlaces.Finding.{specified_found, derivations_found}
use Rattle.c_checking_units.proofs.FaultPlaces.Statements.{sized_stops, object_replaced, constants_found, behind_value, value_begins}

-- ---- files

pub in_file : {number : ℕ} {P : ℕ → Type 0} {f : FileScope} → AreAt number P f → IsIn number P (at_file_scope f)
in_file k = record { file = k; blocks = tt }

pub place_in_file : {number : ℕ} {P : ℕ → Type 0} (f : FileScope) (at : ℕ) → AreAt number P f → P at → IsAt number P (place_in (at_file_scope f) at)
place_in_file f at k p = record { file = k.file; at = p }

function_added : {number : ℕ} {P : ℕ → Type 0} (f : FileScope) (g : AFunction) → AreAt number P f → IsAt number P g.place
    → AreAt number P (F.with_new_function f g)
function_added {number} {P} f g p q = record {
  file = p.file;
  names = p.names;
  tags = p.tags;
  records = p.records;
  fields = p.fields;
  objects = p.objects;
  functions = all_one (λ g. IsAt number P g.place) f.functions g p.functions q;
  mentions = p.mentions;
}

-- ---- what stands before an answer

module _ (P : ℕ → Type 0) where
  pub own_name_given : {A : Type 0} (Q : A → Type 0) (at : ℕ) (o : Option LibraryFunction) (r : Answer A) → P at → Gives P Q r
      → Gives P Q (F.own_name at o r)
  own_name_given Q at None r p g = g
  own_name_given Q at (Some which) r p g = refuses R.Library at p

  pub main_function_given : {A : Type 0} (Q : A → Type 0) (x : List ℕ) (at : ℕ) (t : CType) (r : Answer A) → P at → Gives P Q r
      → Gives P Q (F.main_function x at t r)
  main_function_given Q x at t r p g = chosen (F.is_main x && not (same_type t F.main_type)) _ _ (refuses R.Main at p) g

  main_object_given : {A : Type 0} (Q : A → Type 0) (x : List ℕ) (at : ℕ) (linked : Bool) (r : Answer A) → P at → Gives P Q r
      → Gives P Q (F.main_object x at linked r)
  main_object_given Q x at linked r p g = chosen (F.is_main x && linked) _ _ (refuses R.Main at p) g

  again_given : {A : Type 0} (Q : A → Type 0) (x : Spelling) (old : Bound) → P x.from → P old.place → Gives P Q (F.again x old)
  again_given Q x old p q = fails (redeclared x.text x.from old.place) (p, q)

  pub once_given : {A : Type 0} (Q : A → Type 0) (x : Spelling) (o : Option Bound) (r : Answer A) → P x.from → IsBoundAt P o → Gives P Q r
      → Gives P Q (F.once x o r)
  once_given Q x None r p o g = g
  once_given Q x (Some old) r p o g = again_given Q x old p o

  pub defined_among_at : (all : List Bound) (x : List ℕ) → AllByRecursion (λ b. P b.place) all → IsBoundAt P (F.defined_among all x)
  defined_among_at [] x p = tt
  defined_among_at (b ∷ more) x p = by_name (bytes_eq b.name x) refl b.how refl (defined_among_at more x p.1)
    where
      by_name : (t : Bool) → bytes_eq b.name x ≡ t → (how : How) → b.how ≡ how → IsBoundAt P (F.defined_among more x)
          → IsBoundAt P (F.defined_among (b ∷ more) x)
      by_name true e defines i later =
          let is : F.defined_among (b ∷ more) x ≡ Some b = rw (e, i) refl in subst (IsBoundAt P) (sym is) p.0
      by_name true e declares i later =
          let is : F.defined_among (b ∷ more) x ≡ F.defined_among more x = rw (e, i) refl in subst (IsBoundAt P) (sym is) later
      by_name true e tentative i later =
          let is : F.defined_among (b ∷ more) x ≡ F.defined_among more x = rw (e, i) refl in subst (IsBoundAt P) (sym is) later
      by_name false e how i later =
          let is : F.defined_among (b ∷ more) x ≡ F.defined_among more x = rw e refl in subst (IsBoundAt P) (sym is) later

  without_value_given : {A : Type 0} (Q : A → Type 0) (at : ℕ) (o : Option (ℕ × Trees.Expression)) (r : Answer A) → P at → Gives P Q r
      → Gives P Q (F.without_value at o r)
  without_value_given Q at None r p g = g
  without_value_given Q at (Some value) r p g = refuses R.Init at p

module _ (number : ℕ) (P : ℕ → Type 0) (begin : P 0) where
  abbrev Files : Answer FileScope → Type 0
  Files r = Gives P (AreAt number P) r

  -- ---- objects

  known_object_given : (f : FileScope) (words : Storage) (x : Spelling) (t : CType) (old : Bound) (e : Entity) → AreAt number P f → P x.from → P old.place
      → Gives P (InFile number P) (F.known_object f words x t old e)
  known_object_given f words x t old (an_object n u) k p q = chosen _ _ _ (found _ k) (again_given P (InFile number P) x old p q)
  known_object_given f words x t old e k p q = again_given P (InFile number P) x old p q

  object_given : (f : FileScope) (words : Storage) (x : Spelling) (place : ℕ) (t : CType) (o : Option Bound) → AreAt number P f → P x.from → P place
      → IsBoundAt P o → Gives P (InFile number P) (F.object_of f words x place t o)
  unfolding F.object_of
  object_given f words x place t None k p q o = main_object_given P (InFile number P) x.text x.from (F.links words) _ p
      (found _ (object_added f (F.new_object f words x place t) k (place_in_file f place k q)))
  object_given f words x place t (Some old) k p q o = known_object_given f words x t old old.entity k p o

  definition_added : (f g : FileScope) (n place : ℕ) (i : Typed.Initializer Noted) (o : Option AnObject) → AreAt number P f → AreAt number P g → P place
      → AreAt number P (F.with_definition g n (F.defined_object f place i o))
  definition_added f g n place i None k j p = j
  definition_added f g n place i (Some o) k j p = object_replaced g n _ j (place_in_file f place k p)

  define_given : (f : FileScope) (n place : ℕ) (value : Option (ℕ × Trees.Expression)) (t : CType) (rest : List Lexeme) → AreAt number P f → P place
      → Tokens P (spelled_value value rest) → Files (F.define_object f n place value t)
  define_given f n place None t rest k p h = found _ k
  define_given f n place (Some value) t rest k p h = then (constants_if_any (Some value) (at_file_scope f) t) _
      (constants_found number P begin (Some value) (at_file_scope f) t rest (in_file k) h)
      (λ i j. found _ (definition_added f i.1 n place i.0 (slice_get i.1.objects n) k j p))

  defined_once_given : (f : FileScope) (x : Spelling) (value : Option (ℕ × Trees.Expression)) (r : Answer FileScope) → AreAt number P f → P x.from
      → Files r → Files (F.defined_once f x value r)
  defined_once_given f x None r k p g = g
  defined_once_given f x (Some value) r k p g =
      once_given P (AreAt number P) x (F.defined_among f.names x.text) r p (defined_among_at P f.names x.text k.names) g

  object_declared : (f : FileScope) (words : Storage) (x : Spelling) (place from : ℕ) (t : CType) (value : Option (ℕ × Trees.Expression)) (rest : List Lexeme)
      → AreAt number P f → P x.from → P place → Tokens P (spelled_value value rest) → Files (F.declare_object f words x place from t value)
  object_declared f words x place from t value rest k p q h = own_name_given P (AreAt number P) x.from (F.library_named x.text) _ p
      (then (F.object_of f words x place t (D.declared_among f.names x.text)) _
      (object_given f words x place t (D.declared_among f.names x.text) k p q (declared_among_at P f.names x.text k.names))
      (λ n j. defined_once_given f x value _ k p (define_given _ n.0 place value t rest (bound_added n.1 _ j p) q h)))

  -- ---- functions

  known_function_given : (f : FileScope) (words : Storage) (x : Spelling) (t : CType) (old : Bound) (e : Entity) → AreAt number P f → P x.from
      → P old.place → Gives P (InFile number P) (F.known_function f words x t old e)
  known_function_given f words x t old (a_function n u) k p q = chosen _ _ _ (found _ k) (again_given P (InFile number P) x old p q)
  known_function_given f words x t old e k p q = again_given P (InFile number P) x old p q

  pub function_given : (f : FileScope) (words : Storage) (x : Spelling) (place : ℕ) (t : CType) (nodes : ℕ) (o : Option Bound) → AreAt number P f
      → P x.from → P place → IsBoundAt P o → Gives P (InFile number P) (F.function_of f words x place t nodes o)
  unfolding F.function_of
  function_given f words x place t nodes None k p q o =
      found _ (function_added f (F.new_function f words x place t nodes) k (place_in_file f place k q))
  function_given f words x place t nodes (Some old) k p q o = known_function_given f words x t old old.entity k p o

  place_of_bound_at : (o : Option Bound) → IsBoundAt P o → P (F.place_of_bound o)
  place_of_bound_at None p = begin
  place_of_bound_at (Some b) p = p

  library_declared : (f : FileScope) (words : Storage) (x : Spelling) (from : ℕ) (t : CType) (which : LibraryFunction) → AreAt number P f → P x.from
      → Files (F.declare_library f words x from t which)
  library_declared f words x from t which k p = chosen _ _ _ (chosen _ _ _ (found _ (bound_added f _ k p))
      (fails _ (p, place_of_bound_at (D.declared_among f.names x.text) (declared_among_at P f.names x.text k.names)))) (refuses R.Library x.from p)

  function_declared : (f : FileScope) (words : Storage) (x : Spelling) (place from : ℕ) (t : CType) (nodes : ℕ) (o : Option LibraryFunction)
      → AreAt number P f → P x.from → P place → Files (F.declare_function f words x place from t nodes o)
  function_declared f words x place from t nodes None k p q = main_function_given P (AreAt number P) x.text x.from t _ p
      (then (F.function_of f words x place t nodes (D.declared_among f.names x.text)) _
      (function_given f words x place t nodes (D.declared_among f.names x.text) k p q (declared_among_at P f.names x.text k.names))
      (λ n j. found _ (bound_added n.1 _ j p)))
  function_declared f words x place from t nodes (Some which) k p q = library_declared f words x from t which k p

  -- ---- declarators

  typedef_declared : (f : FileScope) (x : Spelling) (from : ℕ) (t : CType) → AreAt number P f → P x.from → Files (F.declare_typedef f x from t)
  typedef_declared f x from t k p = own_name_given P (AreAt number P) x.from (F.library_named x.text) _ p
      (once_given P (AreAt number P) x (D.declared_among f.names x.text) _ p (declared_among_at P f.names x.text k.names) (found _ (bound_added f _ k p)))

  -- an object or a function
  other_declared : (words : Storage) (before place from : ℕ) (x : Spelling) (t : CType) (d : Trees.InitDeclarator) (nodes : ℕ) (f : FileScope) (rest : List Lexeme)
      → AreAt number P f → P x.from → P place → Tokens P (spelled_value d.value rest)
      → Files (cond (is_function t) (F.without_value x.from d.value
      (F.declare_function (D.with_mention (at_file_scope f) before Named t place f) words x place from t nodes (F.library_named x.text)))
      (D.object_at f.records (complete (at_file_scope f) x.from) x.from t
      >>= λ u. F.declare_object (D.with_mention (at_file_scope f) before Object u place f) words x place from u d.value))
  other_declared words before place from x t d nodes f rest k p q h = chosen (is_function t) _ _
      (without_value_given P (AreAt number P) x.from d.value _ p (function_declared _ words x place from t nodes (F.library_named x.text)
      (mentioned (at_file_scope f) before Named t place f k q) p q))
      (then (D.object_at f.records (complete (at_file_scope f) x.from) x.from t) _ (object_stops P f.records (complete (at_file_scope f) x.from) x.from t p)
      (λ u v. object_declared _ words x place from u d.value rest (mentioned (at_file_scope f) before Object u place f k q) p q h))

  declared_as : (words : Storage) (before place from : ℕ) (x : Spelling) (t : CType) (d : Trees.InitDeclarator) (nodes : ℕ) (f : FileScope) (rest : List Lexeme)
      → AreAt number P f → P x.from → P place → Tokens P (spelled_value d.value rest) → Files (F.declare_as words before place from x t d nodes f)
  declared_as a_typedef before place from x t d nodes f rest k p q h = without_value_given P (AreAt number P) x.from d.value _ p
      (typedef_declared _ x from t (mentioned (at_file_scope f) before Named t place f k q) p)
  declared_as words before place from x t d nodes f rest k p q h = other_declared words before place from x t d nodes f rest k p q h

  declarator_found : (f : FileScope) (words : Storage) (base : CType) (d : Trees.InitDeclarator) (from nodes : ℕ) (o : Option Spelling) (rest : List Lexeme)
      → AreAt number P f → IsNameAt P o → Tokens P (spelled_declarator d.declarator (spelled_value d.value rest))
      → Files (F.declarator_named f words base d from nodes o)
  declarator_found f words base d from nodes None rest k p h =
      refuses R.Specifiers (first_declarator d.declarator 0) (declarator_begins P begin d.declarator 0 _ h begin)
  declarator_found f words base d from nodes (Some x) rest k p h =
      let own = (declarator_behind P (λ at. []) d.declarator h).tokens in
      then (derivations d.declarator (at_file_scope f)) _ (derivations_found number P begin d.declarator (at_file_scope f) _ (in_file k) h)
      (λ steps j. then (D.derived steps.1.records steps.0 base) _ (derived_stops P steps.1.records steps.0 base j.0)
      (λ shape u. then (sized_in steps.1.records x.from shape d.value) _
      (sized_stops P steps.1.records x.from shape d.value p (value_begins number P begin d.value rest own))
      (λ t v. declared_as words (D.mentions_in f) (first_declarator d.declarator x.from) from x t d nodes steps.1 rest j.1 p
      (declarator_begins P begin d.declarator x.from _ h p) own)))

  declarators_found : (all : List Trees.InitDeclarator) (f : FileScope) (words : Storage) (base : CType) (semicolon nodes : ℕ) (rest : List Lexeme)
      → AreAt number P f → Tokens P (spelled_init_declarators all rest) → Files (F.file_declarators all f words base semicolon nodes)
  unfolding F.file_declarators
  declarators_found [] f words base semicolon nodes rest k h = found _ k
  declarators_found (d ∷ more) f words base semicolon nodes rest k h =
      let own = comma_after d.comma h in
      then (F.declarator_named f words base d (name_from d.value (after_declarator more semicolon)) nodes (declared_name d.declarator)) _
      (declarator_found f words base d _ nodes (declared_name d.declarator) _ k (name_at P begin d.declarator _ own) own)
      (λ g j. declarators_found more g words base semicolon nodes rest j
      (behind_value number P begin d.value (declarator_behind P (λ at. []) d.declarator own).tokens))

  pub declaration_found : (d : Trees.Declaration) (f : FileScope) (nodes : ℕ) (rest : List Lexeme) → AreAt number P f
      → Tokens P (spelled_declaration d rest) → Files (F.file_declaration d f nodes)
  declaration_found d f nodes rest k h =
      let p = specifiers_begin P begin d.specs _ h in
      chosen (may_stand_in_file (storage_of d.specs)) _ _
      (then (base_type (D.base_kind d.specs) (first_specifiers d.specs) f (one_of d.specs (at_file_scope f))) _
      (specified_found number P begin d.specs (at_file_scope f) _ (in_file k) h)
      (λ b j. chosen (F.is_empty d.all && not (declares_tag d.specs)) _ _ (refuses R.Specifiers (first_specifiers d.specs) p)
      (declarators_found d.all b.1 (storage_of d.specs) b.0 d.semicolon nodes _ j (specifiers_behind P (λ at. []) d.specs h).tokens)))
      (refuses R.Specifiers (first_specifiers d.specs) p)
