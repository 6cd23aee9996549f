-- An initializer stops at a place of its tokens.
use Rattle.std.proofs.Common.{ℕ, zero, suc, ◌+◌, ◌==◌, Bool, true, false, List, [], ◌∷◌, length, Option, Some, None}
use Rattle.std.specs.Prelude.{nat_le, slice_get, Ok}
use Rattle.lay_base.specs.declared.faults.Rule.TheVariants as R
use Rattle.c_types.specs.Types.{CType, integer, pointer, array, structure, Field}
use Rattle.c_types.specs.Layouts.{size_of, offset_of}
use Rattle.c_types.specs.Sameness.{same_type}
use Rattle.c_ast.specs.declared.words.Spelling.{Spelling}
use Rattle.c_ast.specs.Trees
use Rattle.c_ast.specs.Places.{first}
use Rattle.c_ast.specs.Spelling.{Lexeme, spelled, spelled_arguments}
use Rattle.c_typed.specs.Trees as Typed
use Rattle.c_typed.specs.Fits.{assigns}
use Rattle.c_typed.specs.Typed.{Declared}
use Rattle.c_erasure.specs.Erasure.{literal_of}
use Rattle.c_erasure.specs.Initializers.{Part, texts_of, is_character}
use Rattle.c_erasure.specs.Noted.{Noted, Expression, Thing, an_object, type_of, type_of_path}
use Rattle.c_erasure.specs.Scopes.{FileScope, Scope}
use Rattle.c_erasure.specs.Checking.Answers.{Checked, ◌>>=◌, with_file, moved}
use Rattle.c_erasure.specs.Broken.{misplaced}
use Rattle.c_erasure.specs.Checking.Nodes.{null}
use Rattle.c_erasure.specs.Checking.Finding.{find, value_at}
use Rattle.c_erasure.specs.Checking.Initializers as I
use Rattle.c_checking_units.proofs.FaultPlaces.Given.{Gives, Stops, InFile, AreAt, IsIn, found, fails, refuses, then, chosen, beside, beside_then, is_moved}
use Rattle.c_checking_units.proofs.FaultPlaces.Tokens.{Tokens, front, back, comma_after, expression_behind}
use Rattle.c_checking_units.proofs.FaultPlaces.Firsts.{begins}
use Rattle.c_checking_units.proofs.FaultPlaces.Finding.{value_found, find_found}
use Rattle.c_checking_units.proofs.FaultPlaces.Nodes.{misplaced_stands}

module _ {P : ℕ → Type 0} where
  initial_value_stops : (at : ℕ) (t : CType) (x : Expression) → P at → Stops P (I.initial_value_in at t x)
  unfolding I.initial_value_in
  initial_value_stops at t x p = chosen (assigns (type_of x) (null x) t) _ _ (found _ tt) (refuses R.Assign at p)

  initial_record_stops : (from at : ℕ) (t : CType) (th : Thing) → P from → Stops P (I.initial_record_in from at t th)
  unfolding I.initial_record_in
  initial_record_stops from at t (an_object q) p = chosen (same_type (type_of_path q) t) _ _ (found _ tt) (refuses R.Assign from p)
  initial_record_stops from at t th p = fails (misplaced th R.Assign from from) (misplaced_stands P th R.Assign from from p p)

  bytes_stop : (from n : ℕ) (all : List ℕ) → P from → Stops P (I.bytes_in from n all)
  bytes_stop from n all p = chosen (nat_le (length all) n) _ _ (found _ tt) (chosen (length all == n + 1) _ _ (found _ tt) (refuses R.Init from p))

  text_stops : (from at n : ℕ) (is_text : Bool) (o : Option (List Spelling)) → P from → Stops P (I.text_of_array from at n is_text o)
  text_stops from at n true (Some all) p = then (I.bytes_in from n (literal_of all)) _ (bytes_stop from n (literal_of all) p) (λ bytes u. found _ tt)
  text_stops from at n true None p = refuses R.Init from p
  text_stops from at n false o p = refuses R.Init from p

  pub constants_stop : (d : Declared) (at : ℕ) (i : Typed.Initializer Noted) → P at → Stops P (I.constants_in d at i)
  unfolding I.constants_in
  constants_stop d at i p = chosen (I.are_constants d i) _ _ (found _ tt) (refuses R.Init at p)

module _ (number : ℕ) (P : ℕ → Type 0) (begin : P 0) where
  abbrev Finding : {A : Type 0} → Checked A → Type 0
  Finding r = Gives P (InFile number P) r

  scalar_given : (from at : ℕ) (t : CType) (r : Checked Thing) → P from → Finding r
      → Finding (value_at from r >>= λ x. with_file x.1 (I.initial_value_in from t x.0) >>= λ y. Ok (I.value_part at y.0, y.1))
  scalar_given from at t r p g = then (value_at from r) _ (value_found number P begin from r p g)
      (λ x k. beside_then x.1 (I.initial_value_in from t x.0) _ (initial_value_stops from t x.0 p) (λ y u. found _ k))

  without_braces_given : (from at : ℕ) (t : CType) (texts : Option (List Spelling)) (f : FileScope) (r : Checked Thing) → P from → AreAt number P f
      → Finding r → Finding (I.without_braces from at t texts f r)
  without_braces_given from at (integer kind) texts f r p k g = scalar_given from at (integer kind) r p g
  without_braces_given from at (pointer t) texts f r p k g = scalar_given from at (pointer t) r p g
  without_braces_given from at (structure n) texts f r p k g =
      then r _ g (λ x j. beside x.1 _ j (initial_record_stops from at (structure n) x.0 p))
  without_braces_given from at (array u n) texts f r p k g = beside f _ k (text_stops from at n (is_character u) texts p)
  without_braces_given from at t texts f r p k g = refuses R.Init from p

  in_braces_given : (left at : ℕ) (t : CType) (texts : Option (List Spelling)) (f : FileScope) (one : Checked (List Part))
      (elements : CType → ℕ → Checked (List Part)) (fields : ℕ → List Field → Checked (List Part)) → P left → AreAt number P f → Finding one
      → ((u : CType) (n : ℕ) → Finding (elements u n)) → ((r : ℕ) (all : List Field) → Finding (fields r all))
      → Finding (I.in_braces left at t texts f one elements fields)
  in_braces_given left at (integer kind) texts f one elements fields p k g e h = g
  in_braces_given left at (pointer t) texts f one elements fields p k g e h = g
  in_braces_given left at (structure r) texts f one elements fields p k g e h = h r (I.fields_of (slice_get f.records r))
  in_braces_given left at (array u n) texts f one elements fields p k g e h =
      chosen (I.is_text u texts) _ _ (beside f _ k (text_stops left at n true texts p)) (e u n)
  in_braces_given left at t texts f one elements fields p k g e h = refuses R.Init left p

  -- an expression, whether it has braces or not
  alone : (a : Trees.Expression) (s : Scope) (t : CType) (at : ℕ) (texts : Option (List Spelling)) (rest : List Lexeme) → IsIn number P s
      → Tokens P (spelled a rest) → Finding (I.without_braces (first a) at t texts s.file (find a s))
  alone a s t at texts rest k h =
      without_braces_given (first a) at t texts s.file (find a s) (begins P begin a rest h) k.file (find_found number P begin a s rest k h)

  mutual
    unfolding I.initialized I.one_value I.elements I.fields_from

    pub initialized_found : (a : Trees.Expression) (s : Scope) (t : CType) (at : ℕ) (rest : List Lexeme) → IsIn number P s → Tokens P (spelled a rest)
        → Finding (I.initialized a s t at)
    initialized_found (Trees.braces left all last right) s t at rest k h =
        in_braces_given left at t (texts_of (Trees.braces left all last right)) s.file _ _ _ (front h) k.file
        (one_found left all s t at _ k (front h) (back h)) (λ u n. elements_found all s u n at _ k (back h))
        (λ r fields. fields_found all s r 0 fields at _ k (back h))
    initialized_found a s t at rest k h = alone a s t at (texts_of a) rest k h

    one_found : (left : ℕ) (all : Trees.Arguments) (s : Scope) (t : CType) (at : ℕ) (rest : List Lexeme) → IsIn number P s → P left
        → Tokens P (spelled_arguments all rest) → Finding (I.one_value left all s t at)
    one_found left (Trees.and_argument comma (Trees.braces inner all last right) Trees.no_arguments) s t at rest k p h =
        refuses R.Init inner (front (comma_after comma h))
    one_found left (Trees.and_argument comma a Trees.no_arguments) s t at rest k p h = alone a s t at None rest k (comma_after comma h)
    one_found left all s t at rest k p h = refuses R.Init left p

    elements_found : (all : Trees.Arguments) (s : Scope) (u : CType) (n at : ℕ) (rest : List Lexeme) → IsIn number P s
        → Tokens P (spelled_arguments all rest) → Finding (I.elements all s u n at)
    elements_found Trees.no_arguments s u n at rest k h = found _ k.file
    elements_found (Trees.and_argument comma a more) s u zero at rest k h = refuses R.Init (first a) (begins P begin a _ (comma_after comma h))
    elements_found (Trees.and_argument comma a more) s u (suc n) at rest k h =
        let own = comma_after comma h in
        then (I.initialized a s u at) _ (initialized_found a s u at _ k own)
        (λ x f. then (I.elements more (moved s x.1) u n (at + size_of x.1.records u)) _
        (elements_found more (moved s x.1) u n (at + size_of x.1.records u) rest (is_moved k f) (expression_behind P (λ at. []) a own).tokens)
        (λ rest j. found _ j))

    fields_found : (all : Trees.Arguments) (s : Scope) (r n : ℕ) (fields : List Field) (at : ℕ) (rest : List Lexeme) → IsIn number P s
        → Tokens P (spelled_arguments all rest) → Finding (I.fields_from all s r n fields at)
    fields_found Trees.no_arguments s r n fields at rest k h = found _ k.file
    fields_found (Trees.and_argument comma a more) s r n [] at rest k h = refuses R.Init (first a) (begins P begin a _ (comma_after comma h))
    fields_found (Trees.and_argument comma a more) s r n (f ∷ later) at rest k h =
        let own = comma_after comma h in
        then (I.initialized a s f.ty (at + offset_of s.file.records r n)) _ (initialized_found a s f.ty (at + offset_of s.file.records r n) _ k own)
        (λ x g. then (I.fields_from more (moved s x.1) r (n + 1) later at) _
        (fields_found more (moved s x.1) r (n + 1) later at rest (is_moved k g) (expression_behind P (λ at. []) a own).tokens)
        (λ rest j. found _ j))

  pub initializer_found : (a : Trees.Expression) (s : Scope) (t : CType) (rest : List Lexeme) → IsIn number P s → Tokens P (spelled a rest)
      → Finding (I.initializer a s t)
  initializer_found a s t rest k h = then (I.initialized a s t 0) _ (initialized_found a s t 0 rest k h) (λ parts j. found _ j)
