-- A statement stops at a place of its tokens, and what it declares stands at such places.
use Rattle.std.proofs.Common.{ℕ, zero, suc, ◌==◌, Bool, true, false, List, [], ◌∷◌, ◌++◌, Option, Some, None}
use Rattle.std.specs.Prelude.{slice_set}
use Rattle.std.specs.List.{list_any, AllByRecursion}
use Rattle.lay_base.specs.declared.faults.Rule.TheVariants as R
use Rattle.c_types.specs.declared.ty.IntKind.{IntKind}
use Rattle.c_types.specs.Types.{CType, integer, array, Record}
use Rattle.c_ast.specs.declared.words.Spelling.{Spelling}
use Rattle.c_ast.specs.Trees
use Rattle.c_ast.specs.Places.{first, first_specifiers, first_declarator}
use Rattle.c_ast.specs.Spelling.{Lexeme, spelled, spelled_value, spelled_init_declarators, spelled_declaration, spelled_if_any, spelled_labels}
use Rattle.c_ast.specs.Spelling.{spelled_for_start, spelled_declarator}
use Rattle.c_typed.specs.declared.program.MentionKind.TheVariants.{Object}
use Rattle.c_typed.specs.Conversions.{as_kind, is_scalar, is_function, promoted}
use Rattle.c_typed.specs.Fits.{assigns}
use Rattle.c_erasure.specs.BrokenStatements.{Labels}
use Rattle.c_erasure.specs.Declarators.{declared_name, Shape, closed, open_array}
use Rattle.c_erasure.specs.Initializers.{texts_of, length_of}
use Rattle.c_erasure.specs.Noted.{Expression, type_of}
use Rattle.c_erasure.specs.Scopes.{AnObject, FileScope, Scope, for_value, here, declared}
use Rattle.c_erasure.specs.Specifiers.{Storage, no_storage, is_static, is_auto, is_register, several, storage_of}
use Rattle.c_erasure.specs.Statements.{Statement}
use Rattle.c_erasure.specs.Checking.Answers.{Answer, Checked, moved}
use Rattle.c_erasure.specs.Checking.Declaring as D
use Rattle.c_erasure.specs.Checking.Finding.{complete, value_at, constant_at, base_type, find, one_of, derivations}
use Rattle.c_erasure.specs.Checking.Initializers.{initializer}
use Rattle.c_erasure.specs.Checking.Nodes.{null}
use Rattle.c_erasure.specs.Checking.Statements as C
use Rattle.c_checking_units.proofs.FaultPlaces.Given.{Gives, Stops, InFile, AreAt, IsAt, IsIn, found, refuses, then, chosen, beside, beside_then, is_moved}
use Rattle.c_checking_units.proofs.FaultPlaces.Tokens.{Tokens, front, back, comma_after, expression_behind, specifiers_behind, declarator_behind}
use Rattle.c_checking_units.proofs.FaultPlaces.Firsts.{begins, specifiers_begin, declarator_begins, name_at, IsNameAt}
use Rattle.c_checking_units.proofs.FaultPlaces.Declaring.{place_at, mentioned, object_added, derived_stops, object_stops, small_stops, new_here_given}
use Rattle.c_checking_units.proofs.FaultPlaces.Declaring.{in_first_at}
use Rattle.c_checking_units.proofs.FaultPlaces.Finding.{value_found, constant_found, find_found, specified_found, derivations_found, local_in, as_value}
use Rattle.c_checking_units.proofs.FaultPlaces.Initializers.{initializer_found, constants_stop}

-- ---- what is refused outside of the recursion

module _ (P : ℕ → Type 0) where
  counted_stops : (records : List Record) (at : ℕ) (u : CType) (n : ℕ) → P at → Stops P (C.counted_array records at u n)
  counted_stops records at u zero p = refuses R.Init at p
  counted_stops records at u (suc n) p = small_stops P records at (array u (suc n)) p

  -- where the initializer begins, if there is one
  abbrev pub BeginsAt : Option (ℕ × Trees.Expression) → Type 0
  BeginsAt None = Unit {0}
  BeginsAt (Some value) = P (first value.1)

  pub sized_stops : (records : List Record) (at : ℕ) (shape : Shape) (value : Option (ℕ × Trees.Expression)) → P at → BeginsAt value
      → Stops P (C.sized_in records at shape value)
  unfolding C.sized_in
  sized_stops records at (closed t) value p b = found _ tt
  sized_stops records at (open_array u) None p b = refuses R.Length at p
  sized_stops records at (open_array u) (Some value) p b = counted_stops records (first value.1) u (length_of u (texts_of value.1) value.1) b

  variable_stops : (records : List Record) (count at : ℕ) (t : CType) → P at → Stops P (C.variable_type records count at t)
  unfolding C.variable_type
  variable_stops records count at t p = chosen (is_function t) _ _ (refuses R.Scope at p) (object_stops P records count at t p)

  local_storage_given : {A : Type 0} (Q : A → Type 0) (at : ℕ) (words : Storage) (f : Bool → Answer A) → P at → ((b : Bool) → Gives P Q (f b))
      → Gives P Q (C.local_storage at words f)
  local_storage_given Q at no_storage f p g = g false
  local_storage_given Q at is_auto f p g = g false
  local_storage_given Q at is_register f p g = g false
  local_storage_given Q at is_static f p g = g true
  local_storage_given Q at several f p g = refuses R.Specifiers at p
  local_storage_given Q at words f p g = refuses R.Scope at p

  some_declared_given : {A : Type 0} (Q : A → Type 0) (at : ℕ) (all : List Trees.InitDeclarator) (r : Answer A) → P at → Gives P Q r
      → Gives P Q (C.some_declared at all r)
  some_declared_given Q at [] r p g = refuses R.Specifiers at p
  some_declared_given Q at (d ∷ more) r p g = g

  unless_static_given : {A : Type 0} (Q : A → Type 0) (at : ℕ) (words : Storage) (r : Answer A) → P at → Gives P Q r
      → Gives P Q (C.unless_static at words r)
  unless_static_given Q at is_static r p g = refuses R.Specifiers at p
  unless_static_given Q at words r p g = g

  condition_stops : (at : ℕ) (x : Expression) → P at → Stops P (C.condition_in at x)
  unfolding C.condition_in
  condition_stops at x p = chosen (is_scalar (type_of x)) _ _ (found _ tt) (refuses R.Condition at p)

  case_stops : (at : ℕ) (before : Labels) (v : ℕ) → P at → Stops P (C.with_case at before v)
  case_stops at before v p = chosen (list_any (λ w. w == v) before.cases) _ _ (refuses R.Label at p) (found _ tt)

  default_stops : (at : ℕ) (before : Labels) → P at → Stops P (C.with_default at before)
  default_stops at before p = chosen (before.defaults == 0) _ _ (found _ tt) (refuses R.Label at p)

  switch_value_stops : (at : ℕ) (x : Expression) (t : CType) → P at → Stops P (C.switch_value at x t)
  switch_value_stops at x (integer kind) p = found _ tt
  switch_value_stops at x t p = refuses R.Condition at p

  pub switched_stops : (at : ℕ) (x : Expression) → P at → Stops P (C.switched_in at x)
  unfolding C.switched_in
  switched_stops at x p = switch_value_stops at x (promoted (type_of x)) p

  pub jump_stops : (at : ℕ) (may : Bool) (st : Statement) → P at → Stops P (C.jump at may st)
  jump_stops at may st p = chosen may _ _ (found _ tt) (refuses R.Jump at p)

  pub returned_stops : (at : ℕ) (t : CType) (x : Expression) → P at → Stops P (C.returned_in at t x)
  unfolding C.returned_in
  returned_stops at t x p = chosen (assigns (type_of x) (null x) t) _ _ (found _ tt) (refuses R.Return at p)

-- ---- files

objects_set : {number : ℕ} {P : ℕ → Type 0} (all : List AnObject) (n : ℕ) (o : AnObject) → AllByRecursion (λ o. IsAt number P o.place) all
    → IsAt number P o.place → AllByRecursion (λ o. IsAt number P o.place) (slice_set all n o)
objects_set [] n o p q = tt
objects_set (x ∷ all) zero o p q = (q, p.1)
objects_set (x ∷ all) (suc n) o p q = (p.0, objects_set all n o p.1 q)

pub object_replaced : {number : ℕ} {P : ℕ → Type 0} (f : FileScope) (n : ℕ) (o : AnObject) → AreAt number P f → IsAt number P o.place
    → AreAt number P (C.replaced_object f n o)
object_replaced f n o p q = record {
  file = p.file;
  names = p.names;
  tags = p.tags;
  records = p.records;
  fields = p.fields;
  objects = objects_set f.objects n o p.objects q;
  functions = p.functions;
  mentions = p.mentions;
}

module _ (number : ℕ) (P : ℕ → Type 0) (begin : P 0) where
  -- what is performed, and the scope after it
  abbrev pub Performs : {A : Type 0} → C.Performed A → Type 0
  Performs r = Gives P (λ z. IsIn number P z.1) r

  pub scoped : {A : Type 0} (s : Scope) (r : Checked A) → IsIn number P s → Gives P (InFile number P) r → Performs (C.in_scope s r)
  scoped s r k g = then r _ g (λ x f. found _ (is_moved k f))

  pub left_block : (s after : Scope) → IsIn number P s → IsIn number P after → IsIn number P (C.leaving s after)
  left_block s after k j = record { file = j.file; blocks = k.blocks }

  behind : (a : Trees.Expression) {rest : List Lexeme} → Tokens P (spelled a rest) → Tokens P rest
  behind a h = (expression_behind P (λ at. []) a h).tokens

  pub behind_value : (value : Option (ℕ × Trees.Expression)) {rest : List Lexeme} → Tokens P (spelled_value value rest) → Tokens P rest
  behind_value None h = h
  behind_value (Some value) h = behind value.1 (back h)

  pub value_begins : (value : Option (ℕ × Trees.Expression)) (rest : List Lexeme) → Tokens P (spelled_value value rest) → BeginsAt P value
  value_begins None rest h = tt
  value_begins (Some value) rest h = begins P begin value.1 rest (back h)

  -- ---- objects of a block

  variable_found : (s : Scope) (base : CType) (d : Trees.InitDeclarator) (x : Spelling) (rest : List Lexeme) → IsIn number P s → P x.from
      → Tokens P (spelled_declarator d.declarator (spelled_value d.value rest)) → Gives P (InFile number P) (C.variable_of s base d x)
  variable_found s base d x rest k p h =
      let place = first_declarator d.declarator x.from in
      then (derivations d.declarator s) _ (derivations_found number P begin d.declarator s _ k h)
      (λ steps f. beside_then steps.1 (D.derived steps.1.records steps.0 base) _ (derived_stops P steps.1.records steps.0 base f.0)
      (λ shape u. beside_then steps.1 (C.sized_in steps.1.records x.from shape d.value) _
      (sized_stops P steps.1.records x.from shape d.value p (value_begins d.value rest (declarator_behind P (λ at. []) d.declarator h).tokens))
      (λ t u. beside_then steps.1 (C.variable_type steps.1.records (complete s x.from) x.from t) _
      (variable_stops P steps.1.records (complete s x.from) x.from t p)
      (λ u v. new_here_given P (InFile number P) x (here s x.text) _ p (in_first_at P s.blocks x.text k.blocks)
      (found _ (mentioned s (D.mentions_in s.file) Object u place steps.1 f.1 (declarator_begins P begin d.declarator x.from _ h p)))))))

  initial_found : (value : Option (ℕ × Trees.Expression)) (s : Scope) (t : CType) (rest : List Lexeme) → IsIn number P s
      → Tokens P (spelled_value value rest) → Gives P (InFile number P) (C.initial_if_any value s t)
  initial_found None s t rest k h = found _ k.file
  initial_found (Some value) s t rest k h =
      then (initializer value.1 s t) _ (initializer_found number P begin value.1 s t rest k (back h)) (λ i j. found _ j)

  pub constants_found : (value : Option (ℕ × Trees.Expression)) (s : Scope) (t : CType) (rest : List Lexeme) → IsIn number P s
      → Tokens P (spelled_value value rest) → Gives P (InFile number P) (C.constants_if_any value s t)
  constants_found None s t rest k h = found _ k.file
  constants_found (Some value) s t rest k h =
      then (initializer value.1 s t) _ (initializer_found number P begin value.1 s t rest k (back h))
      (λ i j. beside i.1 _ j (constants_stop (declared (moved s i.1)) (first value.1) i.0 (begins P begin value.1 rest (back h))))

  static_found : (s : Scope) (d : Trees.InitDeclarator) (x : Spelling) (t : CType) (rest : List Lexeme) → IsIn number P s → P x.from
      → Tokens P (spelled_declarator d.declarator (spelled_value d.value rest)) → Performs (C.declare_static s d x t)
  static_found s d x t rest k p h =
      let place = place_at {s = s} k (declarator_begins P begin d.declarator x.from _ h p) in
      let object = C.static_object s d x t None in
      let with = local_in (moved s (D.with_object s.file object)) _ (is_moved k (object_added s.file object k.file place)) p in
      then (C.constants_if_any d.value (C.with_static s d x t) t) _
      (constants_found d.value (C.with_static s d x t) t rest with (declarator_behind P (λ at. []) d.declarator h).tokens)
      (λ i j. found _ (is_moved with (object_replaced i.1 (C.objects_in s) (C.static_object s d x t (Some i.0)) j place)))

  local_found : (s : Scope) (d : Trees.InitDeclarator) (x : Spelling) (t : CType) (rest : List Lexeme) → IsIn number P s → P x.from
      → Tokens P (spelled_declarator d.declarator (spelled_value d.value rest)) → Performs (C.declare_local s d x t)
  local_found s d x t rest k p h =
      let longer : IsIn number P (record s { locals = s.locals ++ record { name = x.text; ty = t } ∷ [] }) = record { file = k.file; blocks = k.blocks } in
      let with = local_in (record s { locals = s.locals ++ record { name = x.text; ty = t } ∷ [] }) _ longer p in
      then (C.in_scope (C.with_new_local s x t) (C.initial_if_any d.value (C.with_new_local s x t) t)) _
      (scoped (C.with_new_local s x t) _ with
      (initial_found d.value (C.with_new_local s x t) t rest with (declarator_behind P (λ at. []) d.declarator h).tokens))
      (λ i j. found _ j)

  declared_as : (static : Bool) (s : Scope) (d : Trees.InitDeclarator) (x : Spelling) (t : CType) (rest : List Lexeme) → IsIn number P s → P x.from
      → Tokens P (spelled_declarator d.declarator (spelled_value d.value rest)) → Performs (C.declare_as static s d x t)
  declared_as true s d x t rest k p h = static_found s d x t rest k p h
  declared_as false s d x t rest k p h = local_found s d x t rest k p h

  named_found : (static : Bool) (s : Scope) (base : CType) (d : Trees.InitDeclarator) (o : Option Spelling) (rest : List Lexeme) → IsIn number P s
      → IsNameAt P o → Tokens P (spelled_declarator d.declarator (spelled_value d.value rest)) → Performs (C.declare_named static s base d o)
  named_found static s base d None rest k p h =
      refuses R.Specifiers (first_declarator d.declarator 0) (declarator_begins P begin d.declarator 0 _ h begin)
  named_found static s base d (Some x) rest k p h =
      then (C.in_scope s (C.variable_of s base d x)) _ (scoped s _ k (variable_found s base d x rest k p h))
      (λ t j. declared_as static t.1 d x t.0 rest j p h)

  all_found : (all : List Trees.InitDeclarator) (s : Scope) (static : Bool) (base : CType) (rest : List Lexeme) → IsIn number P s
      → Tokens P (spelled_init_declarators all rest) → Performs (C.declare_all all s static base)
  unfolding C.declare_all
  all_found [] s static base rest k h = found _ k
  all_found (d ∷ more) s static base rest k h =
      let own = comma_after d.comma h in
      then (C.declare_named static s base d (declared_name d.declarator)) _
      (named_found static s base d (declared_name d.declarator) _ k (name_at P begin d.declarator _ own) own)
      (λ x j. then (C.declare_all more x.1 static base) _
      (all_found more x.1 static base rest j (behind_value d.value (declarator_behind P (λ at. []) d.declarator own).tokens)) (λ rest i. found _ i))

  pub declaration_found : (d : Trees.Declaration) (s : Scope) (rest : List Lexeme) → IsIn number P s → Tokens P (spelled_declaration d rest)
      → Performs (C.local_declaration d s)
  declaration_found d s rest k h =
      let p = specifiers_begin P begin d.specs _ h in
      local_storage_given P (λ z. IsIn number P z.1) (first_specifiers d.specs) (storage_of d.specs) _ p
      (λ static. then (C.in_scope s (base_type (D.base_kind d.specs) (first_specifiers d.specs) s.file (one_of d.specs s))) _
      (scoped s _ k (specified_found number P begin d.specs s _ k h))
      (λ b j. some_declared_given P (λ z. IsIn number P z.1) (first_specifiers d.specs) d.all _ p
      (all_found d.all b.1 static b.0 _ j (specifiers_behind P (λ at. []) d.specs h).tokens)))

  -- ---- parts of statements

  pub value_performed : (a : Trees.Expression) (s : Scope) (rest : List Lexeme) → IsIn number P s → Tokens P (spelled a rest)
      → Performs (C.value_of_expression a s)
  value_performed a s rest k h =
      scoped s _ k (value_found number P begin (first a) (find a s) (begins P begin a rest h) (find_found number P begin a s rest k h))

  pub value_if_any_performed : (a : Option Trees.Expression) (s : Scope) (rest : List Lexeme) → IsIn number P s → Tokens P (spelled_if_any a rest)
      → Performs (C.value_if_any a s)
  value_if_any_performed None s rest k h = found _ k
  value_if_any_performed (Some a) s rest k h = then (C.value_of_expression a s) _ (value_performed a s rest k h) (λ x j. found _ j)

  pub kept : {A : Type 0} (s : Scope) (r : Answer A) → IsIn number P s → Stops P r → Performs (C.in_same_scope s r)
  kept s r k g = then r _ g (λ x u. found _ k)

  pub condition_performed : (a : Trees.Expression) (s : Scope) (rest : List Lexeme) → IsIn number P s → Tokens P (spelled a rest) → Performs (C.condition a s)
  condition_performed a s rest k h = then (C.value_of_expression a s) _ (value_performed a s rest k h)
      (λ x j. kept x.1 _ j (condition_stops P (first a) x.0 (begins P begin a rest h)))

  pub condition_if_any_performed : (a : Option Trees.Expression) (s : Scope) (rest : List Lexeme) → IsIn number P s → Tokens P (spelled_if_any a rest)
      → Performs (C.condition_if_any a s)
  condition_if_any_performed None s rest k h = found _ k
  condition_if_any_performed (Some a) s rest k h = then (C.condition a s) _ (condition_performed a s rest k h) (λ x j. found _ j)

  pub start_performed : (t : Trees.ForStart) (s : Scope) (rest : List Lexeme) → IsIn number P s → Tokens P (spelled_for_start t rest)
      → Performs (C.start_of t s)
  start_performed (Trees.starts_with None semicolon) s rest k h = found _ k
  start_performed (Trees.starts_with (Some a) semicolon) s rest k h = then (C.value_of_expression a s) _ (value_performed a s _ k h) (λ x j. found _ j)
  start_performed (Trees.declares d) s rest k h =
      unless_static_given P (λ z. IsIn number P z.1) (first_specifiers d.specs) (storage_of d.specs) _ (specifiers_begin P begin d.specs _ h)
      (declaration_found d s rest k h)

  -- ---- labels

  pub labels_found : (labels : List Trees.Label) (s : Scope) (kind : IntKind) (before : Labels) (rest : List Lexeme) → IsIn number P s
      → Tokens P (spelled_labels labels rest) → Gives P (InFile number P) (C.labels_in labels s kind before)
  unfolding C.labels_in
  labels_found [] s kind before rest k h = found _ k.file
  labels_found (Trees.case at a colon ∷ more) s kind before rest k h =
      let p = begins P begin a _ (back h) in
      then (constant_at (first a) (value_at (first a) (find a (for_value s)))) _
      (constant_found number P begin (first a) (value_at (first a) (find a (for_value s))) p
      (value_found number P begin (first a) (find a (for_value s)) p (find_found number P begin a (for_value s) _ (as_value k) (back h))))
      (λ c f. beside_then c.1 (C.with_case at before (as_kind kind c.0.1)) _ (case_stops P at before (as_kind kind c.0.1) (front h))
      (λ all u. then (C.labels_in more (moved s c.1) kind all) _ (labels_found more (moved s c.1) kind all rest (is_moved k f) (back (behind a (back h))))
      (λ rest j. found _ j)))
  labels_found (Trees.default at colon ∷ more) s kind before rest k h =
      then (C.with_default at before) _ (default_stops P at before (front h))
      (λ all u. then (C.labels_in more s kind all) _ (labels_found more s kind all rest k (back (back h))) (λ rest j. found _ j))
