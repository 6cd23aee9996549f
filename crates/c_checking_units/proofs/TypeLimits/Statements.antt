-- What is found of declarations in a block and of statements has types within the limits (C99 6.7, 6.8).
use Rattle.std.proofs.Common.{◌≡◌, ℕ, zero, suc, ◌+◌, Bool, true, false, refl, subst, List, [], ◌∷◌, length}
use Rattle.std.specs.Prelude.{◌||◌, Option, Some, None, Ok, slice_set}
use Rattle.std.specs.List.{AllByRecursion}
use Rattle.c_types.specs.declared.ty.IntKind.{IntKind}
use Rattle.c_types.specs.Types.{CType, void, integer, pointer, array, function, structure, Record}
use Rattle.c_ast.specs.declared.words.Spelling.{Spelling}
use Rattle.c_ast.specs.Places.{first, first_specifiers, first_declarator}
use Rattle.c_ast.specs.Trees
use Rattle.c_typed.specs.declared.program.MentionKind.TheVariants.{Object}
use Rattle.c_typed.specs.Conversions.{as_kind, is_scalar, is_function, promoted}
use Rattle.c_typed.specs.Fits.{assigns, is_void}
use Rattle.c_typed.specs.Trees as Typed
use Rattle.c_typed.specs.TypedStatements.{declared_by, declared_by_arms}
use Rattle.c_erasure.specs.BrokenStatements.{Labels, no_labels}
use Rattle.c_erasure.specs.Declarators.{declared_name, Shape, closed, open_array}
use Rattle.c_erasure.specs.Initializers.{texts_of, length_of}
use Rattle.c_erasure.specs.Noted.{Noted, Expression, type_of}
use Rattle.c_erasure.specs.Scopes.{AnObject, Bound, FileScope, Scope, inside, for_value, here, declared, a_local}
use Rattle.c_erasure.specs.Scopes as Scopes
use Rattle.c_erasure.specs.Specifiers.{Storage, no_storage, a_typedef, is_extern, is_static, is_auto, is_register, several, storage_of}
use Rattle.c_erasure.specs.Statements.{Statement, Statements, Arms, followed_by, with_first}
use Rattle.c_erasure.specs.Checking.Answers.{Answer, Checked, moved}
use Rattle.c_erasure.specs.Checking.Declaring.{with_mention, mentions_in, base_kind, new_here, small, derived}
use Rattle.c_erasure.specs.Checking.Declaring as Files
use Rattle.c_erasure.specs.Checking.Finding.{complete, value_at, constant_at, base_type, find, one_of, derivations}
use Rattle.c_erasure.specs.Checking.Initializers.{initializer, constants_in}
use Rattle.c_erasure.specs.Checking.Nodes.{null, converted}
use Rattle.c_erasure.specs.Checking.Statements.{in_scope, leaving, counted_array, sized_in, variable_type, variable_of, initial_if_any, constants_if_any}
use Rattle.c_erasure.specs.Checking.Statements.{static_object, replaced_object, objects_in, with_static, declare_static, with_new_local, declare_local}
use Rattle.c_erasure.specs.Checking.Statements.{declare_as}
use Rattle.c_erasure.specs.Checking.Statements.{declare_named, declare_all, local_storage, some_declared, local_declaration, value_of_expression, value_if_any}
use Rattle.c_erasure.specs.Checking.Statements.{condition_in, condition, condition_if_any, unless_static, start_of, with_case, with_default, Found}
use Rattle.c_erasure.specs.Checking.Statements.{labels_in, arranged, switch_value, switched_in, jump, returned_in, returned_nothing}
use Rattle.c_erasure.specs.Checking.Statements.{performed, item_in, items_in, switch_items, switch_item}
use Rattle.c_checking_laws.proofs.Results.{bound_ok, bound_with, chosen, given, only_if, with_file_ok}
use Rattle.c_checking_units.proofs.TypeLimits.Types.{IsWithin, stays, number_within, IsLonger, same_list}
use Rattle.c_checking_units.proofs.TypeLimits.Trees.{EachInInitial, EachIfAny, EachInStatement, EachInStatements, EachInArms}
use Rattle.c_checking_units.proofs.TypeLimits.TreesKept.{if_any_more, statement_more, statements_more}
use Rattle.c_checking_units.proofs.TypeLimits.Nodes.{EachValue, converted_is}
use Rattle.c_checking_units.proofs.TypeLimits.States.{one_more, IsObject, IsScope, IsFile, Goes, stands, goes_on, scope_after, mentioned, mentioned_same}
use Rattle.c_checking_units.proofs.TypeLimits.States.{blocks_stay}
use Rattle.c_checking_units.proofs.TypeLimits.Literals.{Short, ShortIfAny, ShortInitial, ShortInitDeclarators, ShortDeclaration, ShortDeclarator, ShortLabels}
use Rattle.c_checking_units.proofs.TypeLimits.Literals.{ShortStart}
use Rattle.c_checking_units.proofs.TypeLimits.Literals.{ShortStatement, ShortBlockItem, ShortBlockItems, ShortSwitchItem, ShortSwitchItems}
use Rattle.c_checking_units.proofs.TypeLimits.Derived.{IsShape, few_parameters, derived_is, array_small, object_is}
use Rattle.c_checking_units.proofs.TypeLimits.Finding.{FoundType, value_stays, value_found, name_more, as_inside, find_within, derivations_within}
use Rattle.c_checking_units.proofs.TypeLimits.Finding.{constant_within}
use Rattle.c_checking_units.proofs.TypeLimits.Finding.{base_within}
use Rattle.c_checking_units.proofs.TypeLimits.Initials.{IsInitializer, initializer_within, constants_same}

-- ---- a step from one scope to the next

pub record Steps (s after : Scope) : Type 0 where
  pub goes : Goes s.file after.file
  pub scope : IsScope after

pub steps_on : {s t u : Scope} → Steps s t → Steps t u → Steps s u
steps_on p q = record { goes = goes_on p.goes q.goes; scope = q.scope }

stays_there : (s : Scope) → IsScope s → Steps s s
stays_there s c = record { goes = stands s.file c.file; scope = c }

abbrev pub FoundIn : {A : Type 0} → (List Record → A → Type 0) → Scope → A × Scope → Type 0
FoundIn P s z = Steps s z.1 × P z.1.file.records z.0

in_scope_found : {A : Type 0} (P : List Record → A → Type 0) (s : Scope) (r : Checked A) → IsScope s
    → ((y : A × FileScope) → r ≡ Ok y → Goes s.file y.1 × P y.1.records y.0) → (z : A × Scope) → in_scope s r ≡ Ok z → FoundIn P s z
in_scope_found P s r c found z h =
    let x = bound_ok r _ z h in
    let k = found x.0 x.1 in
    given (FoundIn P s) (x.0.0, moved s x.0.1) z x.2 (record { goes = k.0; scope = scope_after s x.0.1 c k.0 }, k.1)

-- after a block
left_block : (s after : Scope) → IsScope s → Steps s after → Steps s (leaving s after)
left_block s after c p = record {
  goes = p.goes;
  scope = record { file = p.goes.file; blocks = blocks_stay p.goes.longer s.blocks c.blocks; locals = p.scope.locals };
}

-- ---- what trees hold

abbrev AreStatements : List Record → Statements → Type 0
AreStatements records all = EachInStatements (IsWithin records) all

abbrev IsStatement : List Record → Statement → Type 0
IsStatement records s = EachInStatement (IsWithin records) s

abbrev AreArms : List Record → Arms → Type 0
AreArms records arms = EachInArms (IsWithin records) arms

followed_is : (records : List Record) (own rest : Statements) → AreStatements records own → AreStatements records rest
    → AreStatements records (followed_by own rest)
followed_is records Typed.no_statements rest h k = k
followed_is records (Typed.and_statement s more) rest h k = (h.0, followed_is records more rest h.1 k)

statements_stay : {records all : List Record} → IsLonger records all → (st : Statements) → AreStatements records st → AreStatements all st
statements_stay {records} {all} p st h = statements_more (IsWithin records) (IsWithin all) (λ t k. stays p t k) st h

statement_stays : {records all : List Record} → IsLonger records all → (st : Statement) → IsStatement records st → IsStatement all st
statement_stays {records} {all} p st h = statement_more (IsWithin records) (IsWithin all) (λ t k. stays p t k) st h

if_any_stays : {records all : List Record} → IsLonger records all → (e : Option Expression) → EachIfAny (IsWithin records) e → EachIfAny (IsWithin all) e
if_any_stays {records} {all} p e h = if_any_more (IsWithin records) (IsWithin all) (λ t k. stays p t k) e h

first_arm : (records : List Record) (all : Statements) (arms : Arms) → AreStatements records all → AreArms records arms → AreArms records (with_first all arms)
first_arm records Typed.no_statements arms h k = k
first_arm records (Typed.and_statement s more) arms h k = (h, k)

abbrev AreArranged : List Record → Statements × Arms → Type 0
AreArranged records z = AreStatements records z.0 × AreArms records z.1

arranged_is : (records : List Record) (cases : List ℕ) (defaults : ℕ) (own : Statements) (later : Arms) → AreStatements records own → AreArms records later
    → AreArranged records (arranged cases defaults own later)
arranged_is records [] zero own later h k = (h, k)
arranged_is records [] (suc n) own later h k = (tt, (h, k))
arranged_is records (v ∷ cases) n own later h k = (tt, (h, k))

-- ---- objects of a block

pub sized_is : (records : List Record) (at : ℕ) (shape : Shape) (value : Option (ℕ × Trees.Expression)) (t : CType) → sized_in records at shape value ≡ Ok t
    → IsShape records shape → IsWithin records t
unfolding sized_in
sized_is records at (closed u) value t h w = given (IsWithin records) u t h w
sized_is records at (open_array u) None t h w = cc
sized_is records at (open_array u) (Some value) t h w = by_count (length_of u (texts_of value.1) value.1) h
  where
    by_count : (n : ℕ) → counted_array records (first value.1) u n ≡ Ok t → IsWithin records t
    by_count zero h = cc
    by_count (suc n) h = array_small records (first value.1) u (suc n) t h w.1 w.0

new_is : {A : Type 0} (x : Spelling) (o : Option Bound) (r : Answer A) (z : A) → new_here x o r ≡ Ok z → r ≡ Ok z
new_is x None r z h = h
new_is x (Some b) r z h = cc

variable_is : (records : List Record) (count at : ℕ) (t u : CType) → variable_type records count at t ≡ Ok u → IsWithin records t → IsWithin records u
unfolding variable_type
variable_is records count at t u h w =
    chosen (is_function t) _ (Files.object_at records count at t) u (IsWithin records u) h (λ b h. cc) (λ b h. object_is records count at t u h w)

variable_within : (s : Scope) (base : CType) (d : Trees.InitDeclarator) (x : Spelling) → ShortDeclarator d.declarator → IsScope s
    → IsWithin s.file.records base → (z : CType × FileScope) → variable_of s base d x ≡ Ok z → FoundType s z
variable_within s base d x l c b z h =
    let steps = bound_ok (derivations d.declarator s) _ z h in
    let shape = bound_with steps.0.1 (derived steps.0.1.records steps.0.0 base) _ z steps.2 in
    let few = few_parameters steps.0.1.records steps.0.0 base shape.0 shape.1 in
    let w = derivations_within d.declarator s l c steps.0 steps.1 few in
    let is = derived_is steps.0.1.records steps.0.0 base shape.0 shape.1 (stays w.0.longer base b) w.1 in
    let t = bound_with steps.0.1 (sized_in steps.0.1.records x.from shape.0 d.value) _ z shape.2 in
    let k = sized_is steps.0.1.records x.from shape.0 d.value t.0 t.1 is in
    let u = bound_with steps.0.1 (variable_type steps.0.1.records (complete s x.from) x.from t.0) _ z t.2 in
    let v = variable_is steps.0.1.records (complete s x.from) x.from t.0 u.0 u.1 k in
    let at = first_declarator d.declarator x.from in
    let n = mentions_in s.file in
    given (FoundType s) (u.0, with_mention s n Object u.0 at steps.0.1) z (new_is x (here s x.text) _ z u.2)
    (mentioned s s.file steps.0.1 n Object u.0 at w.0 v, mentioned_same s n Object u.0 u.0 at steps.0.1 v)

-- ---- initializers

initial_within : (value : Option (ℕ × Trees.Expression)) (s : Scope) (t : CType) → ShortInitial value → IsScope s → IsWithin s.file.records t
    → (z : Option (Typed.Initializer Noted) × FileScope) → initial_if_any value s t ≡ Ok z
    → Goes s.file z.1 × EachInInitial (IsWithin z.1.records) z.0
initial_within None s t l c w z h =
    given (λ (z : Option (Typed.Initializer Noted) × FileScope). Goes s.file z.1 × EachInInitial (IsWithin z.1.records) z.0) (None, s.file) z h
    (stands s.file c.file, tt)
initial_within (Some value) s t l c w z h =
    let i = bound_ok (initializer value.1 s t) _ z h in
    let k = initializer_within value.1 s t l c w i.0 i.1 in
    given (λ (z : Option (Typed.Initializer Noted) × FileScope). Goes s.file z.1 × EachInInitial (IsWithin z.1.records) z.0) (Some i.0.0, i.0.1) z i.2 k

pub constants_within : (value : Option (ℕ × Trees.Expression)) (s : Scope) (t : CType) → ShortInitial value → IsScope s → IsWithin s.file.records t
    → (z : Typed.Initializer Noted × FileScope) → constants_if_any value s t ≡ Ok z → Goes s.file z.1 × IsInitializer z.1.records z.0
constants_within None s t l c w z h =
    given (λ (z : Typed.Initializer Noted × FileScope). Goes s.file z.1 × IsInitializer z.1.records z.0) (Typed.parts [], s.file) z h
    (stands s.file c.file, tt)
constants_within (Some value) s t l c w z h =
    let i = bound_ok (initializer value.1 s t) _ z h in
    let k = initializer_within value.1 s t l c w i.0 i.1 in
    let d = declared (moved s i.0.1) in
    let e = with_file_ok i.0.1 (constants_in d (first value.1) i.0.0) z i.2 in
    let same = constants_same d (first value.1) i.0.0 z.0 e.0 in
    subst (λ g. Goes s.file g × IsInitializer g.records z.0) e.1 (k.0, subst (IsInitializer i.0.1.records) same k.1)

-- ---- `static` locals, and other ones

pub set_each : {A : Type 0} (P : A → Type 0) (xs : List A) (n : ℕ) (x : A) → AllByRecursion P xs → P x → AllByRecursion P (slice_set xs n x)
set_each P [] n x h k = tt
set_each P (y ∷ xs) zero x h k = (k, h.1)
set_each P (y ∷ xs) (suc n) x h k = (h.0, set_each P xs n x h.1 k)

pub object_replaced : (f : FileScope) (n : ℕ) (o : AnObject) → IsFile f → IsObject f.records o → Goes f (replaced_object f n o)
object_replaced f n o h w = record {
  longer = same_list f.records;
  file = record {
    names = h.names;
    records = h.records;
    sizes = h.sizes;
    objects = set_each (IsObject f.records) f.objects n o h.objects w;
    functions = h.functions;
    mentions = h.mentions;
  };
}

pub object_added : (f : FileScope) (o : AnObject) → IsFile f → IsObject f.records o → Goes f (Files.with_object f o)
object_added f o h w = record {
  longer = same_list f.records;
  file = record {
    names = h.names;
    records = h.records;
    sizes = h.sizes;
    objects = one_more (IsObject f.records) f.objects o h.objects w;
    functions = h.functions;
    mentions = h.mentions;
  };
}

static_within : (s : Scope) (d : Trees.InitDeclarator) (x : Spelling) (t : CType) → ShortInitial d.value → IsScope s → IsWithin s.file.records t
    → (z : Statements × Scope) → declare_static s d x t ≡ Ok z → FoundIn AreStatements s z
static_within s d x t l c w z h =
    let o = static_object s d x t None in
    let p = object_added s.file o c.file (w, tt) in
    let after = with_static s d x t in
    let k : IsScope after = record { file = p.file; blocks = name_more s.file.records s.blocks _ c.blocks w; locals = c.locals } in
    let i = bound_ok (constants_if_any d.value after t) _ z h in
    let v = constants_within d.value after t l k w i.0 i.1 in
    let own = static_object s d x t (Some i.0.0) in
    let q = object_replaced i.0.1 (objects_in s) own v.0.file (stays v.0.longer t w, v.1) in
    let g = replaced_object i.0.1 (objects_in s) own in
    let r = goes_on v.0 q in
    given (FoundIn AreStatements s) (Typed.no_statements, moved after g) z i.2
    (record { goes = goes_on p r; scope = scope_after after g k r }, tt)

local_within : (s : Scope) (d : Trees.InitDeclarator) (x : Spelling) (t : CType) → ShortInitial d.value → IsScope s → IsWithin s.file.records t
    → (z : Statements × Scope) → declare_local s d x t ≡ Ok z → FoundIn AreStatements s z
local_within s d x t l c w z h =
    let after = with_new_local s x t in
    let k : IsScope after = record {
      file = c.file;
      blocks = name_more s.file.records s.blocks _ c.blocks w;
      locals = one_more (λ (l : Scopes.ALocal). IsWithin s.file.records l.ty) s.locals (record { name = x.text; ty = t }) c.locals w;
    } in
    let i = bound_ok (in_scope after (initial_if_any d.value after t)) _ z h in
    let v = in_scope_found (λ records (o : Option (Typed.Initializer Noted)). EachInInitial (IsWithin records) o) after (initial_if_any d.value after t) k
    (λ y j. initial_within d.value after t l k w y j) i.0 i.1 in
    given (FoundIn AreStatements s) (Typed.and_statement (Typed.declare (length s.locals) i.0.0) Typed.no_statements, i.0.1) z i.2
    (record { goes = v.0.goes; scope = v.0.scope }, (v.1, tt))

declared_as : (static : Bool) (s : Scope) (d : Trees.InitDeclarator) (x : Spelling) (t : CType) → ShortInitial d.value → IsScope s → IsWithin s.file.records t
    → (z : Statements × Scope) → declare_as static s d x t ≡ Ok z → FoundIn AreStatements s z
declared_as true s d x t l c w z h = static_within s d x t l c w z h
declared_as false s d x t l c w z h = local_within s d x t l c w z h

named_within : (static : Bool) (s : Scope) (base : CType) (d : Trees.InitDeclarator) (o : Option Spelling) → ShortDeclarator d.declarator
    → ShortInitial d.value → IsScope s → IsWithin s.file.records base → (z : Statements × Scope) → declare_named static s base d o ≡ Ok z
    → FoundIn AreStatements s z
named_within static s base d None l m c b z h = cc
named_within static s base d (Some x) l m c b z h =
    let t = bound_ok (in_scope s (variable_of s base d x)) _ z h in
    let v = in_scope_found IsWithin s (variable_of s base d x) c (λ y j. variable_within s base d x l c b y j) t.0 t.1 in
    let k = declared_as static t.0.1 d x t.0.0 m v.0.scope v.1 z t.2 in
    (steps_on v.0 k.0, k.1)

all_declared_within : (all : List Trees.InitDeclarator) (s : Scope) (static : Bool) (base : CType) → ShortInitDeclarators all → IsScope s
    → IsWithin s.file.records base → (z : Statements × Scope) → declare_all all s static base ≡ Ok z → FoundIn AreStatements s z
unfolding declare_all
all_declared_within [] s static base l c b z h = given (FoundIn AreStatements s) (Typed.no_statements, s) z h (stays_there s c, tt)
all_declared_within (d ∷ more) s static base l c b z h =
    let own = bound_ok (declare_named static s base d (declared_name d.declarator)) _ z h in
    let v = named_within static s base d (declared_name d.declarator) l.0 l.1 c b own.0 own.1 in
    let rest = bound_ok (declare_all more own.0.1 static base) _ z own.2 in
    let k = all_declared_within more own.0.1 static base l.2 v.0.scope (stays v.0.goes.longer base b) rest.0 rest.1 in
    given (FoundIn AreStatements s) (followed_by own.0.0 rest.0.0, rest.0.1) z rest.2
    (steps_on v.0 k.0, followed_is rest.0.1.file.records own.0.0 rest.0.0 (statements_stay k.0.goes.longer own.0.0 v.1) k.1)

by_storage : {A : Type 0} (at : ℕ) (words : Storage) (f : Bool → Answer A) (z : A) → local_storage at words f ≡ Ok z → (b : Bool) × (f b ≡ Ok z)
by_storage at no_storage f z h = (false, h)
by_storage at is_auto f z h = (false, h)
by_storage at is_register f z h = (false, h)
by_storage at is_static f z h = (true, h)
by_storage at several f z h = cc
by_storage at a_typedef f z h = cc
by_storage at is_extern f z h = cc

some_is : {A : Type 0} (at : ℕ) (all : List Trees.InitDeclarator) (r : Answer A) (z : A) → some_declared at all r ≡ Ok z → r ≡ Ok z
some_is at [] r z h = cc
some_is at (d ∷ more) r z h = h

declaration_within : (d : Trees.Declaration) (s : Scope) → ShortDeclaration d → IsScope s → (z : Statements × Scope) → local_declaration d s ≡ Ok z
    → FoundIn AreStatements s z
declaration_within d s l c z h =
    let at = first_specifiers d.specs in
    let w = by_storage at (storage_of d.specs) _ z h in
    let one = base_type (base_kind d.specs) at s.file (one_of d.specs s) in
    let b = bound_ok (in_scope s one) _ z w.1 in
    let v = in_scope_found IsWithin s one c (λ y j. base_within d.specs s at l.0 c y j) b.0 b.1 in
    let k = all_declared_within d.all b.0.1 w.0 b.0.0 l.1 v.0.scope v.1 z (some_is at d.all (declare_all d.all b.0.1 w.0 b.0.0) z b.2) in
    (steps_on v.0 k.0, k.1)

-- ---- parts of statements

value_within : (a : Trees.Expression) (s : Scope) → Short a → IsScope s → (z : Expression × Scope) → value_of_expression a s ≡ Ok z
    → FoundIn EachValue s z
value_within a s l c z h =
    in_scope_found EachValue s (value_at (first a) (find a s)) c
    (λ y j. value_found s (first a) (find a s) (λ y k. find_within a s l c y k) y j) z h

abbrev IsIfAny : List Record → Option Expression → Type 0
IsIfAny records e = EachIfAny (IsWithin records) e

value_if_any_within : (a : Option Trees.Expression) (s : Scope) → ShortIfAny a → IsScope s → (z : Option Expression × Scope) → value_if_any a s ≡ Ok z
    → FoundIn IsIfAny s z
value_if_any_within None s l c z h = given (FoundIn IsIfAny s) (None, s) z h (stays_there s c, tt)
value_if_any_within (Some a) s l c z h =
    let x = bound_ok (value_of_expression a s) _ z h in
    let v = value_within a s l c x.0 x.1 in
    given (FoundIn IsIfAny s) (Some x.0.0, x.0.1) z x.2 v

condition_is : (at : ℕ) (x y : Expression) → condition_in at x ≡ Ok y → x ≡ y
unfolding condition_in
condition_is at x y h = let o = only_if (is_scalar (type_of x)) (Ok x) _ _ y h in given (λ y. x ≡ y) x y o.1 refl

condition_within : (a : Trees.Expression) (s : Scope) → Short a → IsScope s → (z : Expression × Scope) → condition a s ≡ Ok z → FoundIn EachValue s z
condition_within a s l c z h =
    let x = bound_ok (value_of_expression a s) _ z h in
    let v = value_within a s l c x.0 x.1 in
    let y = bound_ok (condition_in (first a) x.0.0) _ z x.2 in
    given (FoundIn EachValue s) (y.0, x.0.1) z y.2 (v.0, subst (EachValue x.0.1.file.records) (condition_is (first a) x.0.0 y.0 y.1) v.1)

condition_if_any_within : (a : Option Trees.Expression) (s : Scope) → ShortIfAny a → IsScope s → (z : Option Expression × Scope)
    → condition_if_any a s ≡ Ok z → FoundIn IsIfAny s z
condition_if_any_within None s l c z h = given (FoundIn IsIfAny s) (None, s) z h (stays_there s c, tt)
condition_if_any_within (Some a) s l c z h =
    let x = bound_ok (condition a s) _ z h in
    let v = condition_within a s l c x.0 x.1 in
    given (FoundIn IsIfAny s) (Some x.0.0, x.0.1) z x.2 v

unless_static_is : {A : Type 0} (at : ℕ) (words : Storage) (r : Answer A) (z : A) → unless_static at words r ≡ Ok z → r ≡ Ok z
unless_static_is at is_static r z h = cc
unless_static_is at no_storage r z h = h
unless_static_is at is_auto r z h = h
unless_static_is at is_register r z h = h
unless_static_is at several r z h = h
unless_static_is at a_typedef r z h = h
unless_static_is at is_extern r z h = h

start_within : (start : Trees.ForStart) (s : Scope) → ShortStart start → IsScope s → (z : Statements × Scope) → start_of start s ≡ Ok z
    → FoundIn AreStatements s z
start_within (Trees.starts_with None semicolon) s l c z h = given (FoundIn AreStatements s) (Typed.no_statements, s) z h (stays_there s c, tt)
start_within (Trees.starts_with (Some a) semicolon) s l c z h =
    let x = bound_ok (value_of_expression a s) _ z h in
    let v = value_within a s l c x.0 x.1 in
    given (FoundIn AreStatements s) (Typed.and_statement (Typed.evaluate x.0.0) Typed.no_statements, x.0.1) z x.2 (v.0, (v.1, tt))
start_within (Trees.declares d) s l c z h =
    declaration_within d s l c z (unless_static_is (first_specifiers d.specs) (storage_of d.specs) (local_declaration d s) z h)

labels_within : (all : List Trees.Label) (s : Scope) (kind : IntKind) (before : Labels) → ShortLabels all → IsScope s → (z : Found × FileScope)
    → labels_in all s kind before ≡ Ok z → Goes s.file z.1
unfolding labels_in
labels_within [] s kind before l c z h = given (λ (z : Found × FileScope). Goes s.file z.1) (record { cases = []; defaults = 0; all = before }, s.file) z h (stands s.file c.file)
labels_within (Trees.case at a colon ∷ more) s kind before l c z h =
    let k = bound_ok (constant_at (first a) (value_at (first a) (find a (for_value s)))) _ z h in
    let p = constant_within a s l.0 c k.0 k.1 in
    let all = bound_with k.0.1 (with_case at before (as_kind kind k.0.0.1)) _ z k.2 in
    let rest = bound_ok (labels_in more (moved s k.0.1) kind all.0) _ z all.2 in
    let q = labels_within more (moved s k.0.1) kind all.0 l.1 (scope_after s k.0.1 c p) rest.0 rest.1 in
    given (λ (z : Found × FileScope). Goes s.file z.1) (record rest.0.0 { cases = as_kind kind k.0.0.1 ∷ rest.0.0.cases }, rest.0.1) z rest.2 (goes_on p q)
labels_within (Trees.default at colon ∷ more) s kind before l c z h =
    let all = bound_ok (with_default at before) _ z h in
    let rest = bound_ok (labels_in more s kind all.0) _ z all.2 in
    let q = labels_within more s kind all.0 l c rest.0 rest.1 in
    given (λ (z : Found × FileScope). Goes s.file z.1) (record rest.0.0 { defaults = rest.0.0.defaults + 1 }, rest.0.1) z rest.2 q

switched_is : (records : List Record) (at : ℕ) (x : Expression) (y : Expression × IntKind) → switched_in at x ≡ Ok y → EachValue records x
    → EachValue records y.0
unfolding switched_in
switched_is records at x y h k = by_type (promoted (type_of x)) h
  where
    by_type : (t : CType) → switch_value at x t ≡ Ok y → EachValue records y.0
    by_type (integer kind) h =
        given (λ (y : Expression × IntKind). EachValue records y.0) (converted (integer kind) x, kind) y h
        (converted_is records (integer kind) x (number_within records kind) k)
    by_type void h = cc
    by_type (pointer t) h = cc
    by_type (array t n) h = cc
    by_type (function t all) h = cc
    by_type (structure r) h = cc

returned_is : (records : List Record) (at : ℕ) (t : CType) (x y : Expression) → returned_in at t x ≡ Ok y → IsWithin records t → EachValue records x
    → EachValue records y
unfolding returned_in
returned_is records at t x y h w k =
    let o = only_if (assigns (type_of x) (null x) t) (Ok (converted t x)) _ _ y h in
    given (EachValue records) (converted t x) y o.1 (converted_is records t x w k)

-- ---- the recursion

abbrev AreSwitched : List Record → (Statements × Arms) → Type 0
AreSwitched records z = AreArranged records z

abbrev IsLabelled : List Record → (Statements × Found) → Type 0
IsLabelled records z = AreStatements records z.0

module _ (result : CType) where
  mutual
    unfolding performed item_in items_in switch_items switch_item

    performed_within : (a : Trees.Statement) (s : Scope) (loop switch : Bool) → ShortStatement a → IsScope s → IsWithin s.file.records result
        → (z : Statement × Scope) → performed result a s loop switch ≡ Ok z → FoundIn IsStatement s z
    performed_within (Trees.block left items right) s loop switch l c r z h =
        let b = bound_ok (items_in result items (inside s) loop switch) _ z h in
        let v = items_within items (inside s) loop switch l (as_inside s c) r b.0 b.1 in
        let p : Steps s b.0.1 = record { goes = v.0.goes; scope = v.0.scope } in
        given (FoundIn IsStatement s) (Typed.block (declared_by b.0.0) b.0.0, leaving s b.0.1) z b.2 (left_block s b.0.1 c p, v.1)
    performed_within (Trees.evaluate None semicolon) s loop switch l c r z h =
        given (FoundIn IsStatement s) (Typed.block [] Typed.no_statements, s) z h (stays_there s c, tt)
    performed_within (Trees.evaluate (Some a) semicolon) s loop switch l c r z h =
        let x = bound_ok (value_of_expression a s) _ z h in
        let v = value_within a s l c x.0 x.1 in
        given (FoundIn IsStatement s) (Typed.evaluate x.0.0, x.0.1) z x.2 v
    performed_within (Trees.when at left a right one) s loop switch l c r z h =
        let x = bound_ok (condition a s) _ z h in
        let v = condition_within a s l.0 c x.0 x.1 in
        let b = bound_ok (performed result one x.0.1 loop switch) _ z x.2 in
        let w = performed_within one x.0.1 loop switch l.1 v.0.scope (stays v.0.goes.longer result r) b.0 b.1 in
        given (FoundIn IsStatement s) (Typed.when x.0.0 b.0.0, b.0.1) z b.2 (steps_on v.0 w.0, (value_stays w.0.goes.longer x.0.0 v.1, w.1))
    performed_within (Trees.choose at left a right one middle other) s loop switch l c r z h =
        let x = bound_ok (condition a s) _ z h in
        let v = condition_within a s l.0 c x.0 x.1 in
        let b = bound_ok (performed result one x.0.1 loop switch) _ z x.2 in
        let w = performed_within one x.0.1 loop switch l.1 v.0.scope (stays v.0.goes.longer result r) b.0 b.1 in
        let p = steps_on v.0 w.0 in
        let d = bound_ok (performed result other b.0.1 loop switch) _ z b.2 in
        let u = performed_within other b.0.1 loop switch l.2 w.0.scope (stays p.goes.longer result r) d.0 d.1 in
        given (FoundIn IsStatement s) (Typed.when_else x.0.0 b.0.0 d.0.0, d.0.1) z d.2
        (steps_on p u.0, (value_stays u.0.goes.longer x.0.0 (value_stays w.0.goes.longer x.0.0 v.1), statement_stays u.0.goes.longer b.0.0 w.1, u.1))
    performed_within (Trees.while at left a right body) s loop switch l c r z h =
        let x = bound_ok (condition a s) _ z h in
        let v = condition_within a s l.0 c x.0 x.1 in
        let b = bound_ok (performed result body x.0.1 true switch) _ z x.2 in
        let w = performed_within body x.0.1 true switch l.1 v.0.scope (stays v.0.goes.longer result r) b.0 b.1 in
        given (FoundIn IsStatement s) (Typed.while x.0.0 b.0.0, b.0.1) z b.2 (steps_on v.0 w.0, (value_stays w.0.goes.longer x.0.0 v.1, w.1))
    performed_within (Trees.do_while at body while left a right semicolon) s loop switch l c r z h =
        let b = bound_ok (performed result body s true switch) _ z h in
        let w = performed_within body s true switch l.0 c r b.0 b.1 in
        let x = bound_ok (condition a b.0.1) _ z b.2 in
        let v = condition_within a b.0.1 l.1 w.0.scope x.0 x.1 in
        given (FoundIn IsStatement s) (Typed.do_while b.0.0 x.0.0, x.0.1) z x.2 (steps_on w.0 v.0, (statement_stays v.0.goes.longer b.0.0 w.1, v.1))
    performed_within (Trees.for at left start test semicolon step right body) s loop switch l c r z h =
        let all = bound_ok (start_of start (inside s)) _ z h in
        let v = start_within start (inside s) l.0 (as_inside s c) all.0 all.1 in
        let t = bound_ok (condition_if_any test all.0.1) _ z all.2 in
        let w = condition_if_any_within test all.0.1 l.1 v.0.scope t.0 t.1 in
        let e = bound_ok (value_if_any step t.0.1) _ z t.2 in
        let u = value_if_any_within step t.0.1 l.2 w.0.scope e.0 e.1 in
        let p = steps_on v.0 (steps_on w.0 u.0) in
        let b = bound_ok (performed result body e.0.1 true switch) _ z e.2 in
        let k = performed_within body e.0.1 true switch l.3 u.0.scope (stays p.goes.longer result r) b.0 b.1 in
        let q = steps_on p k.0 in
        let f : Steps s b.0.1 = record { goes = q.goes; scope = q.scope } in
        let last = k.0.goes.longer in
        let later = (steps_on u.0 k.0).goes.longer in
        let latest = (steps_on w.0 (steps_on u.0 k.0)).goes.longer in
        given (FoundIn IsStatement s) (Typed.for (declared_by all.0.0) all.0.0 t.0.0 e.0.0 b.0.0, leaving s b.0.1) z b.2
        (left_block s b.0.1 c f, (statements_stay latest all.0.0 v.1, if_any_stays later t.0.0 w.1, if_any_stays last e.0.0 u.1, k.1))
    performed_within (Trees.switch at left a right begin items end) s loop switch l c r z h =
        let x = bound_ok (value_of_expression a s) _ z h in
        let v = value_within a s l.0 c x.0 x.1 in
        let y = bound_ok (switched_in (first a) x.0.0) _ z x.2 in
        let e = switched_is x.0.1.file.records (first a) x.0.0 y.0 y.1 v.1 in
        let b = bound_ok (switch_items result items (inside x.0.1) loop y.0.1 no_labels) _ z y.2 in
        let w = switch_items_within items (inside x.0.1) loop y.0.1 no_labels l.1 (as_inside x.0.1 v.0.scope) (stays v.0.goes.longer result r) b.0 b.1 in
        let f : Steps s b.0.1 = record { goes = goes_on v.0.goes w.0.goes; scope = w.0.scope } in
        given (FoundIn IsStatement s) (Typed.switch y.0.0 (declared_by_arms (with_first b.0.0.0 b.0.0.1)) (with_first b.0.0.0 b.0.0.1), leaving s b.0.1) z b.2
        (left_block s b.0.1 c f, (value_stays w.0.goes.longer y.0.0 e, first_arm b.0.1.file.records b.0.0.0 b.0.0.1 w.1.0 w.1.1))
    performed_within (Trees.break at semicolon) s loop switch l c r z h =
        let x = bound_ok (jump at (loop || switch) Typed.break) _ z h in
        let o = only_if (loop || switch) (Ok Typed.break) _ _ x.0 x.1 in
        given (FoundIn IsStatement s) (x.0, s) z x.2 (stays_there s c, given (IsStatement s.file.records) Typed.break x.0 o.1 tt)
    performed_within (Trees.continue at semicolon) s loop switch l c r z h =
        let x = bound_ok (jump at loop Typed.continue) _ z h in
        let o = only_if loop (Ok Typed.continue) _ _ x.0 x.1 in
        given (FoundIn IsStatement s) (x.0, s) z x.2 (stays_there s c, given (IsStatement s.file.records) Typed.continue x.0 o.1 tt)
    performed_within (Trees.return at None semicolon) s loop switch l c r z h =
        let x = bound_ok (returned_nothing at result) _ z h in
        let o = only_if (is_void result) (Ok (Typed.return None)) _ _ x.0 x.1 in
        given (FoundIn IsStatement s) (x.0, s) z x.2 (stays_there s c, given (IsStatement s.file.records) (Typed.return None) x.0 o.1 tt)
    performed_within (Trees.return at (Some a) semicolon) s loop switch l c r z h =
        chosen (is_void result) _ _ z (FoundIn IsStatement s z) h (λ b h. cc)
        (λ b h.
        let x = bound_ok (value_of_expression a s) _ z h in
        let v = value_within a s l c x.0 x.1 in
        let y = bound_ok (returned_in at result x.0.0) _ z x.2 in
        given (FoundIn IsStatement s) (Typed.return (Some y.0), x.0.1) z y.2
        (v.0, returned_is x.0.1.file.records at result x.0.0 y.0 y.1 (stays v.0.goes.longer result r) v.1))

    item_within : (e : Trees.BlockItem) (s : Scope) (loop switch : Bool) → ShortBlockItem e → IsScope s → IsWithin s.file.records result
        → (z : Statements × Scope) → item_in result e s loop switch ≡ Ok z → FoundIn AreStatements s z
    item_within (Trees.local d) s loop switch l c r z h = declaration_within d s l c z h
    item_within (Trees.statement a) s loop switch l c r z h =
        let st = bound_ok (performed result a s loop switch) _ z h in
        let v = performed_within a s loop switch l c r st.0 st.1 in
        given (FoundIn AreStatements s) (Typed.and_statement st.0.0 Typed.no_statements, st.0.1) z st.2 (v.0, (v.1, tt))

    pub items_within : (items : Trees.BlockItems) (s : Scope) (loop switch : Bool) → ShortBlockItems items → IsScope s → IsWithin s.file.records result
        → (z : Statements × Scope) → items_in result items s loop switch ≡ Ok z → FoundIn AreStatements s z
    items_within Trees.no_block_items s loop switch l c r z h = given (FoundIn AreStatements s) (Typed.no_statements, s) z h (stays_there s c, tt)
    items_within (Trees.and_block_item e more) s loop switch l c r z h =
        let own = bound_ok (item_in result e s loop switch) _ z h in
        let v = item_within e s loop switch l.0 c r own.0 own.1 in
        let rest = bound_ok (items_in result more own.0.1 loop switch) _ z own.2 in
        let w = items_within more own.0.1 loop switch l.1 v.0.scope (stays v.0.goes.longer result r) rest.0 rest.1 in
        given (FoundIn AreStatements s) (followed_by own.0.0 rest.0.0, rest.0.1) z rest.2
        (steps_on v.0 w.0, followed_is rest.0.1.file.records own.0.0 rest.0.0 (statements_stay w.0.goes.longer own.0.0 v.1) w.1)

    switch_items_within : (items : Trees.SwitchItems) (s : Scope) (loop : Bool) (kind : IntKind) (before : Labels) → ShortSwitchItems items → IsScope s
        → IsWithin s.file.records result → (z : (Statements × Arms) × Scope) → switch_items result items s loop kind before ≡ Ok z
        → FoundIn AreSwitched s z
    switch_items_within Trees.no_switch_items s loop kind before l c r z h =
        given (FoundIn AreSwitched s) ((Typed.no_statements, Typed.no_arms), s) z h (stays_there s c, (tt, tt))
    switch_items_within (Trees.and_switch_item item more) s loop kind before l c r z h =
        let own = bound_ok (switch_item result item s loop kind before) _ z h in
        let v = switch_item_within item s loop kind before l.0 c r own.0 own.1 in
        let rest = bound_ok (switch_items result more own.0.1 loop kind own.0.0.1.all) _ z own.2 in
        let w = switch_items_within more own.0.1 loop kind own.0.0.1.all l.1 v.0.scope (stays v.0.goes.longer result r) rest.0 rest.1 in
        given (FoundIn AreSwitched s) (arranged own.0.0.1.cases own.0.0.1.defaults (followed_by own.0.0.0 rest.0.0.0) rest.0.0.1, rest.0.1) z rest.2 (
          steps_on v.0 w.0,
          arranged_is rest.0.1.file.records own.0.0.1.cases own.0.0.1.defaults (followed_by own.0.0.0 rest.0.0.0) rest.0.0.1
              (followed_is rest.0.1.file.records own.0.0.0 rest.0.0.0 (statements_stay w.0.goes.longer own.0.0.0 v.1) w.1.0) w.1.1,
        )

    switch_item_within : (item : Trees.SwitchItem) (s : Scope) (loop : Bool) (kind : IntKind) (before : Labels) → ShortSwitchItem item → IsScope s
        → IsWithin s.file.records result → (z : (Statements × Found) × Scope) → switch_item result item s loop kind before ≡ Ok z
        → FoundIn IsLabelled s z
    switch_item_within (Trees.local_switch_item d) s loop kind before l c r z h =
        let own = bound_ok (local_declaration d s) _ z h in
        let v = declaration_within d s l c own.0 own.1 in
        given (FoundIn IsLabelled s) ((own.0.0, record { cases = []; defaults = 0; all = before }), own.0.1) z own.2 v
    switch_item_within (Trees.labelled labels a) s loop kind before l c r z h =
        let all = bound_ok (in_scope s (labels_in labels s kind before)) _ z h in
        let v = in_scope_found (λ records (x : Found). Unit {0}) s (labels_in labels s kind before) c
        (λ y j. (labels_within labels s kind before l.0 c y j, tt)) all.0 all.1 in
        let st = bound_ok (performed result a all.0.1 loop true) _ z all.2 in
        let w = performed_within a all.0.1 loop true l.1 v.0.scope (stays v.0.goes.longer result r) st.0 st.1 in
        given (FoundIn IsLabelled s) ((Typed.and_statement st.0.0 Typed.no_statements, all.0.0), st.0.1) z st.2 (steps_on v.0 w.0, (w.1, tt))
