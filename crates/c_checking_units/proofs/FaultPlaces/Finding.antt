-- Where the tokens of a part of a tree stand at such places, finding it stops at one of them, and what it adds to the file stands there.
use Rattle.std.proofs.Common.{ℕ, ◌+◌, ◌%◌, ◌^◌, true, false, List, [], ◌∷◌, Option, Some, None}
use Rattle.std.specs.List.{AllByRecursion}
use Rattle.lay_base.specs.declared.place.Place.{Place}
use Rattle.lay_base.specs.declared.faults.Rule.TheVariants as R
use Rattle.c_types.specs.Types.{CType, CTypes, no_types, and_type, Field}
use Rattle.c_ast.specs.declared.words.Spelling.{Spelling}
use Rattle.c_ast.specs.declared.operators.UnaryOp.{UnaryOp}
use Rattle.c_ast.specs.declared.operators.UnaryOp.TheVariants as U
use Rattle.c_ast.specs.Trees
use Rattle.c_ast.specs.Places.{first, first_specifiers, first_declarator}
use Rattle.c_tokens.specs.declared.punctuator.Punctuator.TheVariants as M
use Rattle.c_ast.specs.Spelling.{Lexeme, punctuator, spelled, spelled_arguments, spelled_optional, spelled_type_name, spelled_specifiers, spelled_specifier}
use Rattle.c_ast.specs.Spelling.{spelled_member_declarations, spelled_member_declarators, spelled_enumerators, spelled_enumerator_value, spelled_declarator}
use Rattle.c_ast.specs.Spelling.{spelled_parameter_list, spelled_parameters}
use Rattle.c_typed.specs.declared.operators.UnaryOp.TheVariants as TU
use Rattle.c_typed.specs.declared.operators.BinaryOp.{BinaryOp}
use Rattle.c_typed.specs.declared.program.MentionKind.TheVariants.{Named, Sizeof}
use Rattle.c_typed.specs.Trees as Typed
use Rattle.c_erasure.specs.Broken.{member_names, tag_place}
use Rattle.c_erasure.specs.Declarators.{declared_name, parameter_type}
use Rattle.c_erasure.specs.Erasure.{place_in, literal_of, tag_text, after_all, with_parameter_if_named}
use Rattle.c_erasure.specs.Noted.{Noted, Expression, Thing}
use Rattle.c_erasure.specs.Operators.{kind_of, update_of, step_of}
use Rattle.c_erasure.specs.Scopes.{Bound, FileScope, Scope, inside, measured, for_value, named, with_name, with_local, purpose_of_value, type_alone}
use Rattle.c_erasure.specs.Specifiers.{storage_of}
use Rattle.c_erasure.specs.Checking.Answers.{Checked, moved}
use Rattle.c_erasure.specs.Checking.Nodes as N
use Rattle.c_erasure.specs.Checking.Declaring as D
use Rattle.c_erasure.specs.Checking.Finding.{complete, value_at, tested_at, on_value, unary_on, constant_at, type_of_derived, subscripted, assigned, base_type}
use Rattle.c_erasure.specs.Checking.Finding.{with_member}
use Rattle.c_erasure.specs.Checking.Finding.{find, arguments, type_name, one_of, specified, members, member_declarators, enumerators, enumerator_value}
use Rattle.c_erasure.specs.Checking.Finding.{derivations}
use Rattle.c_erasure.specs.Checking.Finding.{array_step, parameter_list, parameters}
use Rattle.c_checking_units.proofs.FaultPlaces.Given.{Gives, Stops, InFile, AreAt, IsIn, found, refuses, then, chosen, beside, beside_then, is_moved, is_inside}
use Rattle.c_checking_units.proofs.FaultPlaces.Given.{AreFieldsAt, IsAt, for_purpose, all_one, all_both}
use Rattle.c_checking_units.proofs.FaultPlaces.Tokens.{Tokens, front, back, comma_after, tag_after, consts_after, expression_behind, specifiers_behind}
use Rattle.c_checking_units.proofs.FaultPlaces.Tokens.{declarator_behind}
use Rattle.c_checking_units.proofs.FaultPlaces.Tokens.{type_name_behind, member_declarators_behind, value_behind}
use Rattle.c_checking_units.proofs.FaultPlaces.Firsts.{IsNameAt, tag_at, tag_name_at, texts_begin, begins, specifiers_begin, declarator_begins, name_at}
use Rattle.c_checking_units.proofs.FaultPlaces.Firsts.{member_names_at}
use Rattle.c_checking_units.proofs.FaultPlaces.Nodes.{worth_stops, named_stops, element_stops, index_stops, signature_stops, argument_stops, call_stops}
use Rattle.c_checking_units.proofs.FaultPlaces.Nodes.{dot_stops}
use Rattle.c_checking_units.proofs.FaultPlaces.Nodes.{arrow_stops}
use Rattle.c_checking_units.proofs.FaultPlaces.Nodes.{step_stops, address_stops, deref_stops, unary_stops, not_stops, sized_type_stops, measured_stops}
use Rattle.c_checking_units.proofs.FaultPlaces.Nodes.{cast_stops}
use Rattle.c_checking_units.proofs.FaultPlaces.Nodes.{binary_stops}
use Rattle.c_checking_units.proofs.FaultPlaces.Nodes.{tested_stops, choice_stops, target_stops, assigned_stops, copied_stops, updated_stops, comma_stops}
use Rattle.c_checking_units.proofs.FaultPlaces.Declaring.{place_at, mentioned, literal_given, constant_stops, type_named_stops, int_stops, next_stops, IsStepAt}
use Rattle.c_checking_units.proofs.FaultPlaces.Declaring.{derived_stops}
use Rattle.c_checking_units.proofs.FaultPlaces.Declaring.{length_stops, closed_stops, object_stops, scalar_stops, without_storage_given}
use Rattle.c_checking_units.proofs.FaultPlaces.Declaring.{parameter_storage_given}
use Rattle.c_checking_units.proofs.FaultPlaces.Declaring.{unless_given, tagged_in_stops, enumerated_stops, definable_at, completed_given, enumerator_given}
use Rattle.c_checking_units.proofs.FaultPlaces.Declaring.{enumeration_stops}
use Rattle.c_checking_units.proofs.FaultPlaces.Declaring.{new_if_named_given}

-- ---- scopes

named_in_blocks : (P : ℕ → Type 0) (blocks : List (List Bound)) (b : Bound) → AllByRecursion (λ block. AllByRecursion (λ b. P b.place) block) blocks
    → P b.place → AllByRecursion (λ block. AllByRecursion (λ b. P b.place) block) (with_name blocks b)
named_in_blocks P [] b p q = ((q, tt), tt)
named_in_blocks P (block ∷ outer) b p q = (all_one (λ b. P b.place) block b p.0 q, p.1)

pub local_in : {number : ℕ} {P : ℕ → Type 0} (s : Scope) (b : Bound) → IsIn number P s → P b.place → IsIn number P (with_local s b)
local_in {number} {P} s b k p = record { file = k.file; blocks = named_in_blocks P s.blocks b k.blocks p }

parameter_in : {number : ℕ} {P : ℕ → Type 0} (s : Scope) (x : Option Spelling) (t : CType) → IsIn number P s → IsNameAt P x
    → IsIn number P (with_parameter_if_named s x t)
parameter_in s None t k p = k
parameter_in s (Some x) t k p = local_in s _ k p

pub as_value : {number : ℕ} {P : ℕ → Type 0} {s : Scope} → IsIn number P s → IsIn number P (for_value s)
as_value {number} {P} {s} k = for_purpose (purpose_of_value s.purpose) k

as_measured : {number : ℕ} {P : ℕ → Type 0} {s : Scope} → IsIn number P s → IsIn number P (measured s)
as_measured k = for_purpose type_alone k

module _ (number : ℕ) (P : ℕ → Type 0) (begin : P 0) where
  -- what is found, in a file whose places are such
  abbrev pub Finds : {A : Type 0} → Checked A → Type 0
  Finds r = Gives P (InFile number P) r

  pub value_found : (at : ℕ) (r : Checked Thing) → P at → Finds r → Finds (value_at at r)
  value_found at r p g = then r _ g (λ x k. beside x.1 _ k (worth_stops at x.0 p))

  tested_found : (at : ℕ) (r : Checked Expression) → P at → Finds r → Finds (tested_at at r)
  tested_found at r p g = then r _ g (λ x k. beside x.1 _ k (tested_stops at x.0 p))

  pub constant_found : (at : ℕ) (r : Checked Expression) → P at → Finds r → Finds (constant_at at r)
  constant_found at r p g = then r _ g (λ x k. beside x.1 _ k (constant_stops P at x.0 p))

  -- ---- unary operators

  on_value_stops : (op : UnaryOp) (count at : ℕ) (s : Scope) (x : Expression) → P at → Stops P (on_value op count at s x)
  on_value_stops U.Deref count at s x p = deref_stops count (place_in s at) x p
  on_value_stops U.Plus count at s x p = unary_stops (place_in s at) TU.Plus x p
  on_value_stops U.Minus count at s x p = unary_stops (place_in s at) TU.Minus x p
  on_value_stops U.Complement count at s x p = unary_stops (place_in s at) TU.Complement x p
  on_value_stops U.Not count at s x p = not_stops (place_in s at) x p
  on_value_stops U.Address count at s x p = refuses R.Lvalue at p

  unary_found : (op : UnaryOp) (count from at : ℕ) (s : Scope) (r : Checked Thing) → P from → P at → Finds r → Finds (unary_on op count from at s r)
  unary_found U.Address count from at s r p q g = then r _ g (λ x k. beside x.1 _ k (address_stops from (place_in s at) x.0 p q))
  unary_found op count from at s r p q g = then (value_at from r) _ (value_found from r p g) (λ x k. beside x.1 _ k (on_value_stops op count at s x.0 q))

  -- ---- what follows what is found

  type_stops : (at : ℕ) (f : FileScope) (steps : List D.Derivation) (base : CType) → P at → AllByRecursion (IsStepAt P) steps
      → Stops P (type_of_derived at f steps base)
  type_stops at f steps base p q = then (D.derived f.records steps base) _ (derived_stops P f.records steps base q) (λ shape r. closed_stops P at shape p)

  subscripted_found : (count from left : ℕ) (at : Place) (th : Thing) (f : FileScope) (index : FileScope → Checked Expression)
      (o : Option (Typed.Path Noted × CType)) → P from → P left → P at.at → AreAt number P f → Finds (index f)
      → Finds (subscripted count from left at th f index o)
  subscripted_found count from left at th f index (Some a) p l q k g = then (index f) _ g (λ i j. beside i.1 _ j (element_stops left at a i.0 l))
  subscripted_found count from left at th f index None p l q k g = beside_then f (N.worth from th) _ (worth_stops from th p)
      (λ x u. then (index f) _ g (λ y j. beside y.1 _ j (index_stops count left at x y.0 l q)))

  assigned_found : (count op_at from : ℕ) (at : Place) (target : N.Target) (f : FileScope) (right : FileScope → Checked Thing) (o : Option BinaryOp)
      → P op_at → P from → Finds (right f) → Finds (assigned count op_at from at target f right o)
  assigned_found count op_at from at target f right (Some op) o p g =
      then (value_at from (right f)) _ (value_found from (right f) p g) (λ x k. beside x.1 _ k (updated_stops count op_at at op (N.path_of target) x.0 o))
  assigned_found count op_at from at (N.scalar_at q) f right None o p g =
      then (value_at from (right f)) _ (value_found from (right f) p g) (λ x k. beside x.1 _ k (assigned_stops op_at at q x.0 o))
  assigned_found count op_at from at (N.record_at q) f right None o p g =
      then (right f) _ g (λ x k. beside x.1 _ k (copied_stops op_at from at q x.0 o p))

  base_found : (base : D.Base) (at : ℕ) (f : FileScope) (one : Checked CType) → P at → AreAt number P f → Finds one → Finds (base_type base at f one)
  base_found (D.by_words t) at f one p k g = found _ k
  base_found D.by_one at f one p k g = g
  base_found D.no_type at f one p k g = refuses R.Specifiers at p

  -- fields at such places
  abbrev Members : Checked (List Field) → Type 0
  Members r = Gives P (λ z. AreFieldsAt number P z.0 × AreAt number P z.1) r

  member_found : (at : Place) (t : CType) (x : Option Spelling) (later : Checked (List Field)) → IsAt number P at → Members later
      → Members (with_member at t x later)
  member_found at t None later p g = refuses R.Specifiers at.at p.at
  member_found at t (Some x) later p g = then later _ g (λ rest k. found _ ((p, k.0), k.1))

  -- ---- the recursion

  abbrev pub Steps : Checked (List D.Derivation) → Type 0
  Steps r = Gives P (λ z. AllByRecursion (IsStepAt P) z.0 × AreAt number P z.1) r

  behind : (a : Trees.Expression) {rest : List Lexeme} → Tokens P (spelled a rest) → Tokens P rest
  behind a h = (expression_behind P (λ at. []) a h).tokens

  after_specifiers : (specs : Trees.Specifiers) {rest : List Lexeme} → Tokens P (spelled_specifiers specs rest) → Tokens P rest
  after_specifiers specs h = (specifiers_behind P (λ at. []) specs h).tokens

  after_declarator : (d : Trees.Declarator) {rest : List Lexeme} → Tokens P (spelled_declarator d rest) → Tokens P rest
  after_declarator d h = (declarator_behind P (λ at. []) d h).tokens

  by_words : (specs : Trees.Specifiers) (s : Scope) (rest : List Lexeme) → IsIn number P s → Tokens P (spelled_specifiers specs rest)
      → Finds (one_of specs s) → Finds (base_type (D.base_kind specs) (first_specifiers specs) s.file (one_of specs s))
  by_words specs s rest k h one =
      base_found (D.base_kind specs) (first_specifiers specs) s.file (one_of specs s) (specifiers_begin P begin specs rest h) k.file one

  mutual
    unfolding find arguments type_name one_of specified members member_declarators enumerators enumerator_value derivations array_step parameter_list parameters

    pub find_found : (a : Trees.Expression) (s : Scope) (rest : List Lexeme) → IsIn number P s → Tokens P (spelled a rest) → Finds (find a s)
    find_found (Trees.name x) s rest k h = beside s.file _ k.file (named_stops (place_in s x.from) x.text (named s x.text x.from) (front h))
    find_found (Trees.number x n kind) s rest k h = found _ k.file
    find_found (Trees.character x n) s rest k h = found _ k.file
    find_found (Trees.texts all) s rest k h = literal_given s (first (Trees.texts all)) (literal_of all) k (texts_begin P begin all rest h)
    find_found (Trees.paren left a right) s rest k h = find_found a s _ k (back h)
    find_found (Trees.index a left b right) s rest k h =
        let p = begins P begin a _ h in
        let q = behind a h in
        then (find a s) _ (find_found a s _ k h) (λ x f. subscripted_found (complete s (first a)) (first a) left (place_in s (first a)) x.0 x.1
        (λ f. value_at (first b) (find b (moved s f))) (N.array_of x.0) p (front q) p f
        (value_found (first b) (find b (moved s x.1)) (begins P begin b _ (back q)) (find_found b (moved s x.1) _ (is_moved k f) (back q))))
    find_found (Trees.call g left all right) s rest k h =
        let p = begins P begin g _ h in
        let q = behind g h in
        then (find g s) _ (find_found g s _ k h) (λ x f. beside_then x.1 (N.signature_in (first g) x.0) _ (signature_stops (first g) x.0 p)
        (λ t u. then (arguments right t.0 all (moved s x.1)) _ (arguments_found right t.0 all (moved s x.1) _ (is_moved k f) (back q))
        (λ xs j. beside xs.1 _ j (call_stops (place_in s (first g)) x.0 t.1 xs.0 p))))
    find_found (Trees.dot a at x) s rest k h =
        let q = behind a h in
        then (find a s) _ (find_found a s _ k h) (λ p f. beside p.1 _ f (dot_stops p.1.records (complete s at) x.from (place_in s (first a)) p.0 x.text (front (back q))
        (begins P begin a _ h)))
    find_found (Trees.arrow a at x) s rest k h =
        let q = behind a h in
        then (value_at (first a) (find a s)) _ (value_found (first a) (find a s) (begins P begin a _ h) (find_found a s _ k h))
        (λ e f. beside e.1 _ f (arrow_stops e.1.records (complete s (first a)) x.from (place_in s (first a)) e.0 x.text (front (back q))))
    find_found (Trees.post a op at) s rest k h =
        let q = behind a h in
        then (find a s) _ (find_found a s _ k h) (λ p f. beside p.1 _ f
        (step_stops (complete s (first a)) (first a) at (place_in s (first a)) (step_of op) false p.0 (begins P begin a _ h) (front q)))
    find_found (Trees.pre op at a) s rest k h = then (find a s) _ (find_found a s _ k (back h)) (λ p f. beside p.1 _ f
        (step_stops (complete s at) (first a) at (place_in s at) (step_of op) true p.0 (begins P begin a _ (back h)) (front h)))
    find_found (Trees.unary op at a) s rest k h =
        unary_found op (complete s at) (first a) at s (find a s) (begins P begin a _ (back h)) (front h) (find_found a s _ k (back h))
    find_found (Trees.sizeof_expression at a) s rest k h = then (find a (measured s)) _ (find_found a (measured s) _ (as_measured k) (back h))
        (λ x f. beside_then x.1 (N.measured_in x.1.records (complete s at) at (first a) x.0) _
        (measured_stops x.1.records (complete s at) at (first a) x.0 (front h) (begins P begin a _ (back h)))
        (λ t u. found _ (mentioned s (D.mentions_in x.1) Sizeof t at x.1 f (front h))))
    find_found (Trees.sizeof_type at left n right) s rest k h = then (type_name n s) _ (type_name_found n s _ k (back (back h)))
        (λ n f. beside_then n.1 (N.sized_type n.1.records (complete s right) at n.0) _ (sized_type_stops n.1.records (complete s right) at n.0 (front h))
        (λ t u. found _ (mentioned s (D.mentions_in s.file) Sizeof t at n.1 f (front h))))
    find_found (Trees.cast left n right a) s rest k h =
        let q = (type_name_behind P (λ at. []) n (back h)).tokens in
        then (type_name n s) _ (type_name_found n s _ k (back h)) (λ t f. then (value_at (first a) (find a (moved s t.1))) _
        (value_found (first a) (find a (moved s t.1)) (begins P begin a _ (back q)) (find_found a (moved s t.1) _ (is_moved k f) (back q)))
        (λ x j. beside x.1 _ j (cast_stops (place_in s left) t.0 x.0 (front h))))
    find_found (Trees.binary a op at b) s rest k h =
        let q = behind a h in
        then (value_at (first a) (find a s)) _ (value_found (first a) (find a s) (begins P begin a _ h) (find_found a s _ k h))
        (λ x f. then (value_at (first b) (find b (moved s x.1))) _
        (value_found (first b) (find b (moved s x.1)) (begins P begin b _ (back q)) (find_found b (moved s x.1) _ (is_moved k f) (back q)))
        (λ y j. beside y.1 _ j (binary_stops (complete s (first a)) at (place_in s (first a)) (kind_of op) x.0 y.0 (front q))))
    find_found (Trees.cond a question b colon c) s rest k h =
        let q = behind a h in
        let r = behind b (back q) in
        then (tested_at question (value_at (first a) (find a s))) _
        (tested_found question (value_at (first a) (find a s)) (front q) (value_found (first a) (find a s) (begins P begin a _ h) (find_found a s _ k h)))
        (λ x f. then (value_at (first b) (find b (moved s x.1))) _
        (value_found (first b) (find b (moved s x.1)) (begins P begin b _ (back q)) (find_found b (moved s x.1) _ (is_moved k f) (back q)))
        (λ y g. then (value_at (first c) (find c (moved s y.1))) _
        (value_found (first c) (find c (moved s y.1)) (begins P begin c _ (back r)) (find_found c (moved s y.1) _ (is_moved k g) (back r)))
        (λ z j. beside z.1 _ j (choice_stops colon (place_in s (first a)) x.0 y.0 z.0 (front r)))))
    find_found (Trees.assign a op at b) s rest k h =
        let p = begins P begin a _ h in
        let q = behind a h in
        then (find a s) _ (find_found a s _ k h) (λ x f. beside_then x.1 (N.target_in (first a) x.0) _ (target_stops (first a) x.0 p)
        (λ t u. assigned_found (complete s (first a)) at (first b) (place_in s (first a)) t x.1 (λ f. find b (moved s f)) (update_of op) (front q)
        (begins P begin b _ (back q)) (find_found b (moved s x.1) _ (is_moved k f) (back q))))
    find_found (Trees.comma a at b) s rest k h =
        let q = behind a h in
        then (value_at (first a) (find a s)) _ (value_found (first a) (find a s) (begins P begin a _ h) (find_found a s _ k h))
        (λ x f. then (value_at (first b) (find b (moved s x.1))) _
        (value_found (first b) (find b (moved s x.1)) (begins P begin b _ (back q)) (find_found b (moved s x.1) _ (is_moved k f) (back q)))
        (λ y j. beside y.1 _ j (comma_stops (place_in s (first a)) x.0 y.0)))
    find_found (Trees.braces left all comma right) s rest k h = refuses R.Init left (front h)

    arguments_found : (right : ℕ) (types : CTypes) (all : Trees.Arguments) (s : Scope) (rest : List Lexeme) → IsIn number P s
        → Tokens P (spelled_arguments all (punctuator M.Close right ∷ rest)) → Finds (arguments right types all s)
    arguments_found right no_types Trees.no_arguments s rest k h = found _ k.file
    arguments_found right (and_type t more) Trees.no_arguments s rest k h = refuses R.Arguments right (front h)
    arguments_found right no_types (Trees.and_argument comma a others) s rest k h = refuses R.Arguments (first a) (begins P begin a _ (comma_after comma h))
    arguments_found right (and_type t more) (Trees.and_argument comma a others) s rest k h =
        let own = comma_after comma h in
        let p = begins P begin a _ own in
        then (value_at (first a) (find a s)) _ (value_found (first a) (find a s) p (find_found a s _ k own))
        (λ x f. beside_then x.1 (N.argument_in (first a) t x.0) _ (argument_stops (first a) t x.0 p)
        (λ y u. then (arguments right more others (moved s x.1)) _ (arguments_found right more others (moved s x.1) rest (is_moved k f) (behind a own))
        (λ ys j. found _ j)))

    -- ---- types

    pub type_name_found : (n : Trees.TypeName) (s : Scope) (rest : List Lexeme) → IsIn number P s → Tokens P (spelled_type_name n rest) → Finds (type_name n s)
    type_name_found (Trees.type_name specs d) s rest k h =
        let at = first_specifiers specs in
        let p = specifiers_begin P begin specs _ h in
        let q = after_specifiers specs h in
        let place = declarator_begins P begin d at _ q p in
        then (D.without_storage at (storage_of specs) (base_type (D.base_kind specs) at s.file (one_of specs s))) _
        (without_storage_given P (InFile number P) at (storage_of specs) _ p (by_words specs s _ k h (one_found specs s _ k h)))
        (λ b f. then (derivations d (moved s b.1)) _ (derivations_found d (moved s b.1) _ (is_moved k f) q)
        (λ steps g. beside_then steps.1 (type_of_derived (first_declarator d at) steps.1 steps.0 b.0) _ (type_stops (first_declarator d at) steps.1 steps.0 b.0 place g.0)
        (λ t u. found _ (mentioned s (D.mentions_in b.1) Named t (first_declarator d at) steps.1 g.1 place))))

    one_found : (specs : Trees.Specifiers) (s : Scope) (rest : List Lexeme) → IsIn number P s → Tokens P (spelled_specifiers specs rest)
        → Finds (one_of specs s)
    one_found Trees.no_specifiers s rest k h = refuses R.Specifiers 0 begin
    one_found (Trees.and_specifier (Trees.plain word at) more) s rest k h = one_found more s rest k (back h)
    one_found (Trees.and_specifier (Trees.typename x) more) s rest k h = specifier_found (Trees.typename x) s _ k h
    one_found (Trees.and_specifier (Trees.struct_named at x) more) s rest k h = specifier_found (Trees.struct_named at x) s _ k h
    one_found (Trees.and_specifier (Trees.struct_body at x left all right) more) s rest k h = specifier_found (Trees.struct_body at x left all right) s _ k h
    one_found (Trees.and_specifier (Trees.enum_named at x) more) s rest k h = specifier_found (Trees.enum_named at x) s _ k h
    one_found (Trees.and_specifier (Trees.enum_body at x left all comma right) more) s rest k h =
        specifier_found (Trees.enum_body at x left all comma right) s _ k h

    specifier_found : (t : Trees.Specifier) (s : Scope) (rest : List Lexeme) → IsIn number P s → Tokens P (spelled_specifier t rest) → Finds (specified t s)
    specifier_found (Trees.plain word at) s rest k h = refuses R.Specifiers at (front h)
    specifier_found (Trees.typename x) s rest k h = beside s.file _ k.file (type_named_stops P x (named s x.text x.from) (front h))
    specifier_found (Trees.struct_named at x) s rest k h = beside s.file _ k.file (tagged_in_stops number P begin s at x k (front h) (front (back h)))
    specifier_found (Trees.struct_body at x left all right) s rest k h =
        let n = tag_name_at x _ (back h) in
        let q = back (tag_after x (back h)) in
        chosen s.is_inside _ _ (refuses R.Scope at (front h))
        (unless_given P (InFile number P) (D.definable s at x (D.known_tag s x)) _ (definable_at number P begin s at x (D.known_tag s x) k n)
        (then (members all s) _ (members_found all s _ k q) (λ m j. completed_given number P begin m.1 (tag_place at x) (member_names all)
        (record { tag = tag_text s at x; place = place_in s at; fields = m.0 }) j.1 (tag_at P at x (front h) n) (member_names_at P begin all _ q)
        (place_at k (front h)) j.0)))
    specifier_found (Trees.enum_named at x) s rest k h = beside s.file _ k.file (enumerated_stops number P begin s.file x k.file (front (back h)))
    specifier_found (Trees.enum_body at x left all comma right) s rest k h =
        chosen s.is_inside _ _ (refuses R.Scope at (front h))
        (then (enumerators all s 0 (after_all comma right)) _ (enumerators_found all s 0 (after_all comma right) _ k (back (tag_after x (back h))))
        (λ f j. beside f.1 _ j (enumeration_stops number P begin f.1 x j (tag_name_at x _ (back h)))))

    members_found : (all : Trees.MemberDeclarations) (s : Scope) (rest : List Lexeme) → IsIn number P s → Tokens P (spelled_member_declarations all rest)
        → Members (members all s)
    members_found Trees.no_member_declarations s rest k h = found _ (tt, k.file)
    members_found (Trees.and_member_declaration specs ds semicolon more) s rest k h =
        let at = first_specifiers specs in
        let p = specifiers_begin P begin specs _ h in
        let q = after_specifiers specs h in
        let r = (member_declarators_behind P (λ at. []) ds q).tokens in
        then (D.without_storage at (storage_of specs) (base_type (D.base_kind specs) at s.file (one_of specs s))) _
        (without_storage_given P (InFile number P) at (storage_of specs) _ p (by_words specs s _ k h (one_found specs s _ k h)))
        (λ b f. then (member_declarators ds b.0 semicolon (moved s b.1)) _ (member_declarators_found ds b.0 semicolon (moved s b.1) _ (is_moved k f) q (front r))
        (λ own g. then (members more (moved s own.1)) _ (members_found more (moved s own.1) _ (is_moved k g.1) (back r))
        (λ rest j. found _ (all_both (λ f. IsAt number P f.place) own.0 rest.0 g.0 j.0, j.1))))

    member_declarators_found : (ds : Trees.MemberDeclarators) (base : CType) (semicolon : ℕ) (s : Scope) (rest : List Lexeme) → IsIn number P s
        → Tokens P (spelled_member_declarators ds rest) → P semicolon → Members (member_declarators ds base semicolon s)
    member_declarators_found Trees.no_member_declarators base semicolon s rest k h e = found _ (tt, k.file)
    member_declarators_found (Trees.and_member_declarator comma d more) base semicolon s rest k h e =
        let own = comma_after comma h in
        let at = first_declarator d semicolon in
        let p = declarator_begins P begin d semicolon _ own e in
        then (derivations d s) _ (derivations_found d s _ k own)
        (λ steps f. beside_then steps.1 (type_of_derived at steps.1 steps.0 base) _ (type_stops at steps.1 steps.0 base p f.0)
        (λ t u. beside_then steps.1 (D.object_at steps.1.records (complete s at) at t) _ (object_stops P steps.1.records (complete s at) at t p)
        (λ u v. let g = D.with_mention s (D.mentions_in s.file) Named u at steps.1 in
        member_found (place_in s at) u (declared_name d) (member_declarators more base semicolon (moved s g)) (place_at k p)
        (member_declarators_found more base semicolon (moved s g) _ (is_moved k (mentioned s (D.mentions_in s.file) Named u at steps.1 f.1 p)) (after_declarator d own) e))))

    enumerators_found : (all : Trees.Enumerators) (s : Scope) (next after : ℕ) (rest : List Lexeme) → IsIn number P s
        → Tokens P (spelled_enumerators all rest) → Finds (enumerators all s next after)
    enumerators_found Trees.no_enumerators s next after rest k h = found _ k.file
    enumerators_found (Trees.and_enumerator comma x value more) s next after rest k h =
        let own = comma_after comma h in
        let later = (value_behind P (λ at. []) value (back own)).tokens in
        then (enumerator_value value s x.from next) _ (enumerator_value_found value s x.from next _ k (back own) (front own))
        (λ v f. then _ _ (enumerator_given number P begin v.1 _ f (front own))
        (λ g j. enumerators_found more (moved s g) ((v.0 + 1) % 2 ^ 32) after _ (is_moved k j) later))

    enumerator_value_found : (value : Trees.EnumeratorValue) (s : Scope) (at next : ℕ) (rest : List Lexeme) → IsIn number P s
        → Tokens P (spelled_enumerator_value value rest) → P at → Finds (enumerator_value value s at next)
    enumerator_value_found Trees.no_value s at next rest k h p = beside s.file _ k.file (next_stops P at next p)
    enumerator_value_found (Trees.valued equal a) s at next rest k h p =
        let q = begins P begin a _ (back h) in
        then (constant_at (first a) (value_at (first a) (find a (for_value s)))) _
        (constant_found (first a) (value_at (first a) (find a (for_value s))) q
        (value_found (first a) (find a (for_value s)) q (find_found a (for_value s) _ (as_value k) (back h))))
        (λ c f. beside c.1 _ f (int_stops P (first a) c.0 q))

    pub derivations_found : (d : Trees.Declarator) (s : Scope) (rest : List Lexeme) → IsIn number P s → Tokens P (spelled_declarator d rest)
        → Steps (derivations d s)
    derivations_found Trees.nothing s rest k h = found _ (tt, k.file)
    derivations_found (Trees.named x) s rest k h = found _ (tt, k.file)
    derivations_found (Trees.pointer at consts d) s rest k h = then (derivations d s) _ (derivations_found d s _ k (consts_after consts (back h)))
        (λ steps f. found _ ((front h, f.0), f.1))
    derivations_found (Trees.enclosed left d right) s rest k h = derivations_found d s _ k (back h)
    derivations_found (Trees.array d left length right) s rest k h =
        let q = after_declarator d h in
        then (derivations d s) _ (derivations_found d s _ k h)
        (λ steps f. array_step_found length left (complete s left) steps.0 (moved s steps.1) _ (is_moved k f.1) (back q) (front q) f.0)
    derivations_found (Trees.function d left all right) s rest k h =
        let q = after_declarator d h in
        then (derivations d s) _ (derivations_found d s _ k h) (λ steps f. then (parameter_list all (inside (moved s steps.1))) _
        (parameter_list_found all (inside (moved s steps.1)) _ (is_inside (is_moved k f.1)) (back q)) (λ types g. found _ ((front q, f.0), g)))

    array_step_found : (length : Trees.OptionalExpression) (left count : ℕ) (steps : List D.Derivation) (s : Scope) (rest : List Lexeme) → IsIn number P s
        → Tokens P (spelled_optional length rest) → P left → AllByRecursion (IsStepAt P) steps → Steps (array_step length left count steps s)
    array_step_found Trees.no_expression left count steps s rest k h p q = found _ ((p, q), k.file)
    array_step_found (Trees.some_expression a) left count steps s rest k h p q =
        let b = begins P begin a _ h in
        then (constant_at (first a) (value_at (first a) (find a (for_value s)))) _
        (constant_found (first a) (value_at (first a) (find a (for_value s))) b
        (value_found (first a) (find a (for_value s)) b (find_found a (for_value s) _ (as_value k) h)))
        (λ c f. beside_then c.1 (D.length_value (first a) c.0) _ (length_stops P (first a) c.0 b) (λ n u. found _ ((p, q), f)))

    parameter_list_found : (all : Trees.ParameterList) (s : Scope) (rest : List Lexeme) → IsIn number P s → Tokens P (spelled_parameter_list all rest)
        → Finds (parameter_list all s)
    parameter_list_found (Trees.void_alone at) s rest k h = found _ k.file
    parameter_list_found (Trees.listed all) s rest k h = parameters_found all s rest k h

    parameters_found : (all : Trees.Parameters) (s : Scope) (rest : List Lexeme) → IsIn number P s → Tokens P (spelled_parameters all rest)
        → Finds (parameters all s)
    parameters_found Trees.no_parameters s rest k h = found _ k.file
    parameters_found (Trees.and_parameter comma specs d more) s rest k h =
        let own = comma_after comma h in
        let at = first_specifiers specs in
        let p = specifiers_begin P begin specs _ own in
        let q = after_specifiers specs own in
        let place = first_declarator d at in
        let place_is = declarator_begins P begin d at _ q p in
        let name = name_at P begin d _ q in
        then (D.parameter_storage at (storage_of specs) (base_type (D.base_kind specs) at s.file (one_of specs s))) _
        (parameter_storage_given P (InFile number P) at (storage_of specs) _ p (by_words specs s _ k own (one_found specs s _ k own)))
        (λ b f. then (derivations d (moved s b.1)) _ (derivations_found d (moved s b.1) _ (is_moved k f) q)
        (λ steps g. beside_then steps.1 (D.derived steps.1.records steps.0 b.0) _ (derived_stops P steps.1.records steps.0 b.0 g.0)
        (λ shape u. then (D.new_if_named s (declared_name d) _) _ (new_if_named_given number P begin (InFile number P) s (declared_name d) _ k name
        (beside steps.1 _ g.1 (scalar_stops P place (parameter_type shape) place_is)))
        (λ t j. let f = D.with_mention s (D.mentions_in b.1) Named t.0 place t.1 in
        then (parameters more (with_parameter_if_named (moved s f) (declared_name d) t.0)) _
        (parameters_found more (with_parameter_if_named (moved s f) (declared_name d) t.0) _
        (parameter_in (moved s f) (declared_name d) t.0 (is_moved k (mentioned s (D.mentions_in b.1) Named t.0 place t.1 j place_is)) name) (after_declarator d q))
        (λ rest i. found _ i)))))

  -- the type that specifiers name
  pub specified_found : (specs : Trees.Specifiers) (s : Scope) (rest : List Lexeme) → IsIn number P s → Tokens P (spelled_specifiers specs rest)
      → Finds (base_type (D.base_kind specs) (first_specifiers specs) s.file (one_of specs s))
  specified_found specs s rest k h = by_words specs s rest k h (one_found specs s rest k h)
