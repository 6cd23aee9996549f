-- The checker of statements as functions (C99 6.8), and of declarations in a block (6.7). What is left of the scope tells what is declared.
use Rattle.std.specs.Prelude.{ℕ, zero, suc, ◌+◌, ◌==◌, ◌||◌, Bool, true, false, if◌then◌else◌, List, [], ◌∷◌, ◌++◌, length}
use Rattle.std.specs.Prelude.{Option, Some, None, Ok, slice_set}
use Rattle.std.specs.List.{list_any}
use Rattle.lay_base.specs.declared.faults.Rule.TheVariants as R
use Rattle.c_types.specs.declared.ty.IntKind.{IntKind}
use Rattle.c_types.specs.Types.{CType, integer, array, Record}
use Rattle.c_ast.specs.declared.words.Spelling.{Spelling}
use Rattle.c_ast.specs.Trees
use Rattle.c_ast.specs.Places.{first, first_specifiers, first_declarator}
use Rattle.c_typed.specs.declared.program.MentionKind.TheVariants.{Object}
use Rattle.c_typed.specs.Trees as Typed
use Rattle.c_typed.specs.Conversions.{as_kind, is_scalar, is_function, promoted}
use Rattle.c_typed.specs.Fits.{assigns, is_void}
use Rattle.c_typed.specs.TypedStatements.{declared_by, declared_by_arms}
use Rattle.c_erasure.specs.BrokenStatements.{Labels, no_labels}
use Rattle.c_erasure.specs.Declarators.{declared_name, Shape, closed, open_array}
use Rattle.c_erasure.specs.Erasure.{place_in}
use Rattle.c_erasure.specs.Initializers.{texts_of, length_of}
use Rattle.c_erasure.specs.Noted.{Noted, Expression, type_of}
use Rattle.c_erasure.specs.Scopes.{AnObject, FileScope, Scope, inside, for_value, here, declared}
use Rattle.c_erasure.specs.Specifiers.{Storage, no_storage, is_static, is_auto, is_register, several, storage_of}
use Rattle.c_erasure.specs.Statements.{Statement, Statements, Arms, followed_by, with_first, with_object, with_variable}
use Rattle.c_erasure.specs.Checking.Answers.{Answer, ◌>>=◌, refused, Checked, with_file, moved}
use Rattle.c_erasure.specs.Checking.Declaring.{with_mention, mentions_in, base_kind, new_here, small, object_at, derived}
use Rattle.c_erasure.specs.Checking.Declaring as Files
use Rattle.c_erasure.specs.Checking.Finding.{complete, value_at, constant_at, base_type, find, one_of, derivations}
use Rattle.c_erasure.specs.Checking.Initializers.{initializer, constants_in}
use Rattle.c_erasure.specs.Checking.Nodes.{null, converted}

-- what is found, and the scope after it
abbrev pub Performed : Type 0 → Type 0
Performed A = Answer (A × Scope)

abbrev pub in_scope : {A : Type 0} → Scope → Checked A → Performed A
in_scope s r = r >>= λ x. Ok (x.0, moved s x.1)

-- after a block its names are gone
abbrev pub leaving : Scope → Scope → Scope
leaving s after = record s { file = after.file; locals = after.locals }

-- ---- objects of a block

-- the type of an object: an array whose length is left out has as many elements as its initializer; `at` is where the name stands
abbrev pub counted_array : List Record → (at : ℕ) → CType → ℕ → Answer CType
counted_array records at u zero = refused R.Init at
counted_array records at u (suc n) = small records at (array u (suc n))

unfoldable pub sized_in : List Record → (at : ℕ) → Shape → Option (ℕ × Trees.Expression) → Answer CType
sized_in records at (closed t) value = Ok t
sized_in records at (open_array u) None = refused R.Length at
sized_in records at (open_array u) (Some value) = counted_array records (first value.1) u (length_of u (texts_of value.1) value.1)

-- an object is complete, and no function
unfoldable pub variable_type : List Record → (count at : ℕ) → CType → Answer CType
variable_type records count at t = if is_function t then refused R.Scope at else object_at records count at t

-- a name of a complete object type, which the block has not declared; the file has the type among those of which it speaks
abbrev pub variable_of : Scope → CType → Trees.InitDeclarator → Spelling → Checked CType
variable_of s base d x = derivations d.declarator s >>= λ steps. with_file steps.1 (derived steps.1.records steps.0 base)
    >>= λ shape. with_file shape.1 (sized_in shape.1.records x.from shape.0 d.value)
    >>= λ t. with_file t.1 (variable_type t.1.records (complete s x.from) x.from t.0)
    >>= λ u. new_here x (here s x.text) (Ok (u.0, with_mention s (mentions_in s.file) Object u.0 (first_declarator d.declarator x.from) u.1))

-- ---- initializers

abbrev pub initial_if_any : Option (ℕ × Trees.Expression) → Scope → CType → Checked (Option (Typed.Initializer Noted))
initial_if_any None s t = Ok (None, s.file)
initial_if_any (Some value) s t = initializer value.1 s t >>= λ i. Ok (Some i.0, i.1)

-- of an object that is made before the program starts; it is zero where it has no initializer
abbrev pub constants_if_any : Option (ℕ × Trees.Expression) → Scope → CType → Checked (Typed.Initializer Noted)
constants_if_any None s t = Ok (Typed.parts [], s.file)
constants_if_any (Some value) s t = initializer value.1 s t >>= λ i. with_file i.1 (constants_in (declared (moved s i.1)) (first value.1) i.0)

-- ---- `static` locals: objects of the file, whose initializers come after them

abbrev pub static_object : Scope → Trees.InitDeclarator → Spelling → CType → Option (Typed.Initializer Noted) → AnObject
static_object s d x t initial = record {
  name = x.text;
  place = place_in s (first_declarator d.declarator x.from);
  first = first_declarator d.declarator x.from;
  ty = t;
  is_linked = false;
  literal = None;
  initial = initial;
}

-- the object with that number is another one
abbrev pub replaced_object : FileScope → ℕ → AnObject → FileScope
replaced_object f n o = record f { objects = slice_set f.objects n o }

abbrev pub objects_in : Scope → ℕ
objects_in s = length s.file.objects

abbrev pub with_static : Scope → Trees.InitDeclarator → Spelling → CType → Scope
with_static s d x t = with_object (moved s (Files.with_object s.file (static_object s d x t None))) x (objects_in s) t

abbrev pub declare_static : Scope → Trees.InitDeclarator → Spelling → CType → Performed Statements
declare_static s d x t = constants_if_any d.value (with_static s d x t) t
    >>= λ i. Ok (Typed.no_statements, moved (with_static s d x t) (replaced_object i.1 (objects_in s) (static_object s d x t (Some i.0))))

-- ---- other locals, numbered in their order

abbrev pub with_new_local : Scope → Spelling → CType → Scope
with_new_local s x t = with_variable (record s { locals = s.locals ++ record { name = x.text; ty = t } ∷ [] }) x (length s.locals) t

abbrev pub declare_local : Scope → Trees.InitDeclarator → Spelling → CType → Performed Statements
declare_local s d x t = in_scope (with_new_local s x t) (initial_if_any d.value (with_new_local s x t) t)
    >>= λ i. Ok (Typed.and_statement (Typed.declare (length s.locals) i.0) Typed.no_statements, i.1)

abbrev pub declare_as : Bool → Scope → Trees.InitDeclarator → Spelling → CType → Performed Statements
declare_as true s d x t = declare_static s d x t
declare_as false s d x t = declare_local s d x t

abbrev pub declare_named : Bool → Scope → CType → Trees.InitDeclarator → Option Spelling → Performed Statements
declare_named static s base d None = refused R.Specifiers (first_declarator d.declarator 0)
declare_named static s base d (Some x) = in_scope s (variable_of s base d x) >>= λ t. declare_as static t.1 d x t.0

unfoldable pub declare_all : List Trees.InitDeclarator → Scope → (static : Bool) → CType → Performed Statements
declare_all [] s static base = Ok (Typed.no_statements, s)
declare_all (d ∷ more) s static base = declare_named static s base d (declared_name d.declarator)
    >>= λ own. declare_all more own.1 static base >>= λ rest. Ok (followed_by own.0 rest.0, rest.1)

-- a block declares no type, no function, and nothing of other files (own)
abbrev pub local_storage : {A : Type 0} → (at : ℕ) → Storage → (Bool → Answer A) → Answer A
local_storage at no_storage f = f false
local_storage at is_auto f = f false
local_storage at is_register f = f false
local_storage at is_static f = f true
local_storage at several f = refused R.Specifiers at
local_storage at words f = refused R.Scope at

-- a declaration in a block declares something
abbrev pub some_declared : {A : Type 0} → (at : ℕ) → List Trees.InitDeclarator → Answer A → Answer A
some_declared at [] r = refused R.Specifiers at
some_declared at (d ∷ more) r = r

abbrev pub local_declaration : Trees.Declaration → Scope → Performed Statements
local_declaration d s = local_storage (first_specifiers d.specs) (storage_of d.specs) (λ static.
    in_scope s (base_type (base_kind d.specs) (first_specifiers d.specs) s.file (one_of d.specs s))
    >>= λ b. some_declared (first_specifiers d.specs) d.all (declare_all d.all b.1 static b.0))

-- ---- parts of statements

abbrev pub value_of_expression : Trees.Expression → Scope → Performed Expression
value_of_expression a s = in_scope s (value_at (first a) (find a s))

abbrev pub value_if_any : Option Trees.Expression → Scope → Performed (Option Expression)
value_if_any None s = Ok (None, s)
value_if_any (Some a) s = value_of_expression a s >>= λ x. Ok (Some x.0, x.1)

-- a controlling expression is a number or a pointer (6.8.4.1, 6.8.5)
unfoldable pub condition_in : (at : ℕ) → Expression → Answer Expression
condition_in at x = if is_scalar (type_of x) then Ok x else refused R.Condition at

abbrev pub in_same_scope : {A : Type 0} → Scope → Answer A → Performed A
in_same_scope s r = r >>= λ x. Ok (x, s)

abbrev pub condition : Trees.Expression → Scope → Performed Expression
condition a s = value_of_expression a s >>= λ x. in_same_scope x.1 (condition_in (first a) x.0)

abbrev pub condition_if_any : Option Trees.Expression → Scope → Performed (Option Expression)
condition_if_any None s = Ok (None, s)
condition_if_any (Some a) s = condition a s >>= λ x. Ok (Some x.0, x.1)

-- no object that outlives a `for` is declared there
abbrev pub unless_static : {A : Type 0} → (at : ℕ) → Storage → Answer A → Answer A
unless_static at is_static r = refused R.Specifiers at
unless_static at words r = r

-- what stands first in a `for` (6.8.5.3)
abbrev pub start_of : Trees.ForStart → Scope → Performed Statements
start_of (Trees.starts_with None semicolon) s = Ok (Typed.no_statements, s)
start_of (Trees.starts_with (Some a) semicolon) s = value_of_expression a s
    >>= λ x. Ok (Typed.and_statement (Typed.evaluate x.0) Typed.no_statements, x.1)
start_of (Trees.declares d) s = unless_static (first_specifiers d.specs) (storage_of d.specs) (local_declaration d s)

-- ---- labels of a `switch` (6.8.4.2): the values of `case` labels, converted to the type of the controlling expression, and how often
-- `default` stands there; those before differ from them

abbrev pub with_case : (at : ℕ) → Labels → ℕ → Answer Labels
with_case at before v = if list_any (λ w. w == v) before.cases then refused R.Label at else Ok (record before { cases = v ∷ before.cases })

abbrev pub with_default : (at : ℕ) → Labels → Answer Labels
with_default at before = if before.defaults == 0 then Ok (record before { defaults = 1 }) else refused R.Label at

-- the labels of one statement
pub record Found : Type 0 where
  pub cases : List ℕ
  pub defaults : ℕ
  -- with those before
  pub all : Labels

unfoldable pub labels_in : List Trees.Label → Scope → IntKind → Labels → Checked Found
labels_in [] s kind before = Ok (record { cases = []; defaults = 0; all = before }, s.file)
labels_in (Trees.case at a colon ∷ more) s kind before = constant_at (first a) (value_at (first a) (find a (for_value s)))
    >>= λ c. with_file c.1 (with_case at before (as_kind kind c.0.1))
    >>= λ all. labels_in more (moved s all.1) kind all.0
    >>= λ rest. Ok (record rest.0 { cases = as_kind kind c.0.1 ∷ rest.0.cases }, rest.1)
labels_in (Trees.default at colon ∷ more) s kind before = with_default at before
    >>= λ all. labels_in more s kind all >>= λ rest. Ok (record rest.0 { defaults = rest.0.defaults + 1 }, rest.1)

-- what has labels begins an arm
abbrev pub arranged : List ℕ → ℕ → Statements → Arms → Statements × Arms
arranged [] zero own later = (own, later)
arranged cases defaults own later = (Typed.no_statements, Typed.and_arm cases (defaults == 1) own later)

abbrev pub switch_value : (at : ℕ) → Expression → CType → Answer (Expression × IntKind)
switch_value at x (integer kind) = Ok (converted (integer kind) x, kind)
switch_value at x t = refused R.Condition at

unfoldable pub switched_in : (at : ℕ) → Expression → Answer (Expression × IntKind)
switched_in at x = switch_value at x (promoted (type_of x))

-- ---- `break`, `continue`, `return` (6.8.6)

abbrev pub jump : (at : ℕ) → Bool → Statement → Answer Statement
jump at may st = if may then Ok st else refused R.Jump at

unfoldable pub returned_in : (at : ℕ) → CType → Expression → Answer Expression
returned_in at t x = if assigns (type_of x) (null x) t then Ok (converted t x) else refused R.Return at

abbrev pub returned_nothing : (at : ℕ) → CType → Answer Statement
returned_nothing at t = if is_void t then Ok (Typed.return None) else refused R.Return at

abbrev pub unless_void : {A : Type 0} → (at : ℕ) → CType → Answer A → Answer A
unless_void at t r = if is_void t then refused R.Return at else r

-- ---- the recursion; `result` is the type that the function gives, `loop` and `switch` tell what stands around

module _ (result : CType) where
  unfoldable mutual
    pub performed : Trees.Statement → Scope → (loop switch : Bool) → Performed Statement
    performed (Trees.block left items right) s loop switch = items_in items (inside s) loop switch
        >>= λ b. Ok (Typed.block (declared_by b.0) b.0, leaving s b.1)
    performed (Trees.evaluate None semicolon) s loop switch = Ok (Typed.block [] Typed.no_statements, s)
    performed (Trees.evaluate (Some a) semicolon) s loop switch = value_of_expression a s >>= λ x. Ok (Typed.evaluate x.0, x.1)
    performed (Trees.when at left a right one) s loop switch = condition a s >>= λ x. performed one x.1 loop switch
        >>= λ b. Ok (Typed.when x.0 b.0, b.1)
    performed (Trees.choose at left a right one middle other) s loop switch = condition a s >>= λ x. performed one x.1 loop switch
        >>= λ b. performed other b.1 loop switch >>= λ c. Ok (Typed.when_else x.0 b.0 c.0, c.1)
    performed (Trees.while at left a right body) s loop switch = condition a s >>= λ x. performed body x.1 true switch
        >>= λ b. Ok (Typed.while x.0 b.0, b.1)
    performed (Trees.do_while at body while left a right semicolon) s loop switch = performed body s true switch
        >>= λ b. condition a b.1 >>= λ x. Ok (Typed.do_while b.0 x.0, x.1)
    performed (Trees.for at left start test semicolon step right body) s loop switch = start_of start (inside s)
        >>= λ all. condition_if_any test all.1 >>= λ t. value_if_any step t.1 >>= λ e. performed body e.1 true switch
        >>= λ b. Ok (Typed.for (declared_by all.0) all.0 t.0 e.0 b.0, leaving s b.1)
    performed (Trees.switch at left a right begin items end) s loop switch = value_of_expression a s
        >>= λ x. switched_in (first a) x.0 >>= λ y. switch_items items (inside x.1) loop y.1 no_labels
        >>= λ b. Ok (Typed.switch y.0 (declared_by_arms (with_first b.0.0 b.0.1)) (with_first b.0.0 b.0.1), leaving s b.1)
    performed (Trees.break at semicolon) s loop switch = in_same_scope s (jump at (loop || switch) Typed.break)
    performed (Trees.continue at semicolon) s loop switch = in_same_scope s (jump at loop Typed.continue)
    performed (Trees.return at None semicolon) s loop switch = in_same_scope s (returned_nothing at result)
    performed (Trees.return at (Some a) semicolon) s loop switch = unless_void at result (value_of_expression a s
        >>= λ x. returned_in at result x.0 >>= λ y. Ok (Typed.return (Some y), x.1))

    pub item_in : Trees.BlockItem → Scope → (loop switch : Bool) → Performed Statements
    item_in (Trees.local d) s loop switch = local_declaration d s
    item_in (Trees.statement a) s loop switch = performed a s loop switch >>= λ st. Ok (Typed.and_statement st.0 Typed.no_statements, st.1)

    pub items_in : Trees.BlockItems → Scope → (loop switch : Bool) → Performed Statements
    items_in Trees.no_block_items s loop switch = Ok (Typed.no_statements, s)
    items_in (Trees.and_block_item e more) s loop switch = item_in e s loop switch
        >>= λ own. items_in more own.1 loop switch >>= λ rest. Ok (followed_by own.0 rest.0, rest.1)

    -- the statements up to the next label, and the arms from there on
    pub switch_items : Trees.SwitchItems → Scope → (loop : Bool) → IntKind → Labels → Performed (Statements × Arms)
    switch_items Trees.no_switch_items s loop kind before = Ok ((Typed.no_statements, Typed.no_arms), s)
    switch_items (Trees.and_switch_item item more) s loop kind before = switch_item item s loop kind before
        >>= λ own. switch_items more own.1 loop kind own.0.1.all
        >>= λ rest. Ok (arranged own.0.1.cases own.0.1.defaults (followed_by own.0.0 rest.0.0) rest.0.1, rest.1)

    -- its statements, and its labels
    pub switch_item : Trees.SwitchItem → Scope → (loop : Bool) → IntKind → Labels → Performed (Statements × Found)
    switch_item (Trees.local_switch_item d) s loop kind before = local_declaration d s
        >>= λ own. Ok ((own.0, record { cases = []; defaults = 0; all = before }), own.1)
    switch_item (Trees.labelled labels a) s loop kind before = in_scope s (labels_in labels s kind before)
        >>= λ all. performed a all.1 loop true >>= λ st. Ok ((Typed.and_statement st.0 Typed.no_statements, all.0), st.1)
