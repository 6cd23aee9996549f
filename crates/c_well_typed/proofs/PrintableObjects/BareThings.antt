-- What stands for an expression as a value is no implicit conversion: those are made where the value is used (C99 6.3).
use Rattle.std.proofs.Common.{◌≡◌, ◌∙◌, ℕ, true, refl, sym, ap, subst, List, inl, inr}
use Rattle.std.specs.Prelude.{Some}
use Rattle.lay_base.specs.declared.place.Place.{Place}
use Rattle.c_types.specs.Types.{CType, integer, pointer, array}
use Rattle.c_ast.specs.declared.operators.UnaryOp.TheVariants as U
use Rattle.c_ast.specs.Places.{first}
use Rattle.c_ast.specs.Trees
use Rattle.c_typed.specs.declared.operators.BinaryOp.{BinaryOp}
use Rattle.c_typed.specs.declared.operators.BinaryOp.TheVariants as B
use Rattle.c_typed.specs.Trees as Typed
use Rattle.c_typed.specs.Typed.{is_bare}
use Rattle.c_erasure.specs.Erasure.{typed, place_in, IsNamed, IsLiteralFor, IsSum, IsJoined, IsCall, IsAddress, Erases}
use Rattle.c_erasure.specs.Noted.{Noted, Expression, Path, Node, Thing, an_object, a_value, a_function, a_function_at, a_library_function}
use Rattle.c_erasure.specs.Noted.{value, type_of_path, object_value, value_of}
use Rattle.c_erasure.specs.Operators.{Kind, computes, compares, all_of, any_of, kind_of}
use Rattle.c_erasure.specs.Scopes.{Entity, typedef, enumerator, a_local, a_parameter, Scope, Purpose, in_full, value_alone, type_alone}
use Rattle.c_erasure.specs.Scopes as Scopes

some_is : {A : Type 0} (x y : A) → Some x ≡ Some y → x ≡ y
some_is x y h = cc

abbrev IsBare : Expression → Type 0
IsBare e = is_bare (typed e) ≡ true

abbrev pub IsBareThing : Thing → Type 0
IsBareThing (an_object p) = Unit {0}
IsBareThing (a_value e) = is_bare (typed e) ≡ true
IsBareThing (a_function at g t) = Unit {0}
IsBareThing (a_function_at e) = is_bare (typed e) ≡ true
IsBareThing (a_library_function at which) = Unit {0}

is_thing : (th own : Thing) → th ≡ own → IsBareThing own → IsBareThing th
is_thing th own e h = subst IsBareThing (sym e) h

-- ---- values of things

of_object : (p : Path) (t : CType) (e : Expression) → object_value p t ≡ Some e → IsBare e
of_object p (integer kind) e v = subst IsBare (some_is _ e v) refl
of_object p (pointer t) e v = subst IsBare (some_is _ e v) refl
of_object p (array t n) e v = subst IsBare (some_is _ e v) refl
of_object p t e v = cc

of_thing : (th : Thing) (e : Expression) → IsBareThing th → value_of th ≡ Some e → IsBare e
of_thing (an_object p) e h v = of_object p (type_of_path p) e v
of_thing (a_value x) e h v = subst IsBare (some_is x e v) h
of_thing (a_function at g t) e h v = subst IsBare (some_is _ e v) refl
of_thing (a_function_at x) e h v = subst IsBare (some_is x e v) h
of_thing (a_library_function at which) e h v = cc

-- ---- names, literals and operators

named : (at : Place) (e : Entity) (th : Thing) → IsNamed at e th → IsBareThing th
named at (typedef t) th h = absurd h
named at (enumerator v) th h = is_thing th _ h refl
named at (Scopes.an_object n t) th h = is_thing th _ h tt
named at (Scopes.a_function g t) th h = is_thing th _ h tt
named at (Scopes.a_library_function which) th h = is_thing th _ h tt
named at (a_local n t) th h = is_thing th _ h tt
named at (a_parameter t) th h = is_thing th _ h tt

literal : (p : Purpose) (s : Scope) (at : Place) (bytes : List ℕ) (th : Thing) → IsLiteralFor p s at bytes th → IsBareThing th
literal in_full s at bytes th h = is_thing th _ h.1 tt
literal value_alone s at bytes th h = is_thing th _ h tt
literal type_alone s at bytes th h = is_thing th _ h tt

-- a node of whatever type
abbrev IsBareNode : Node → Type 0
IsBareNode node = (t : CType) (at : Place) → IsBare (value t at node)

is_node : (node own : Node) → node ≡ own → IsBareNode own → IsBareNode node
is_node node own e h = subst IsBareNode (sym e) h

summed : (op : BinaryOp) (x y : Expression) (node : Node) → IsSum op x y node → IsBareNode node
summed B.Add x y node (inl e) = is_node node _ e (λ t at. refl)
summed B.Add x y node (inr e) = is_node node _ e (λ t at. refl)
summed B.Subtract x y node (inl e) = is_node node _ e (λ t at. refl)
summed B.Subtract x y node (inr (inl e)) = is_node node _ e (λ t at. refl)
summed B.Subtract x y node (inr (inr e)) = is_node node _ e (λ t at. refl)
summed op x y node e = is_node node _ e (λ t at. refl)

joined : (kind : Kind) (x y : Expression) (node : Node) → IsJoined kind x y node → IsBareNode node
joined (computes op) x y node e = summed op x y node e
joined (compares op) x y node e = is_node node _ e (λ t at. refl)
joined all_of x y node e = is_node node _ e (λ t at. refl)
joined any_of x y node e = is_node node _ e (λ t at. refl)

called : (g : Thing) (xs : Typed.Expressions Noted) (node : Node) → IsCall g xs node → IsBareNode node
called (a_function at n t) xs node e = is_node node _ e (λ t at. refl)
called (a_library_function at which) xs node e = is_node node _ e (λ t at. refl)
called (a_value x) xs node e = is_node node _ e (λ t at. refl)
called (a_function_at x) xs node e = is_node node _ e (λ t at. refl)
called (an_object p) xs node e = is_node node _ e.2 (λ t at. refl)

addressed : (at : Place) (operand th : Thing) → IsBareThing operand → IsAddress at operand th → IsBareThing th
addressed at (an_object p) th h e = is_thing th _ e.2 refl
addressed at (a_function from g t) th h e = is_thing th _ e refl
addressed at (a_function_at x) th h e = is_thing th _ e h
addressed at (a_value x) th h e = absurd e
addressed at (a_library_function from which) th h e = absurd e

-- ---- expressions

pub bare_thing : (a : Trees.Expression) (s : Scope) (th : Thing) → Erases a s th → IsBareThing th
bare_thing (Trees.name x) s th h = named _ h.0 th h.2
bare_thing (Trees.number x v kind) s th h = is_thing th _ h refl
bare_thing (Trees.character x v) s th h = is_thing th _ h refl
bare_thing (Trees.texts all) s th h = literal s.purpose s _ _ th h
bare_thing (Trees.paren left a right) s th h = bare_thing a s th h
bare_thing (Trees.index a left b right) s th (inl h) = is_thing th _ h.4 tt
bare_thing (Trees.index a left b right) s th (inr (inl h)) = is_thing th _ h.3 tt
bare_thing (Trees.index a left b right) s th (inr (inr h)) = is_thing th _ h.7 tt
bare_thing (Trees.call c left all right) s th h = is_thing th _ h.7 (called h.1 h.2 h.3 h.6 h.0 (place_in s (first c)))
bare_thing (Trees.dot a at x) s th h = is_thing th _ h.4 tt
bare_thing (Trees.arrow a at x) s th h = is_thing th _ h.7 tt
bare_thing (Trees.post a op at) s th h = is_thing th _ h.2 refl
bare_thing (Trees.pre op at a) s th h = is_thing th _ h.2 refl
bare_thing (Trees.unary U.Address at a) s th h = addressed _ h.0 th (bare_thing a s h.0 h.2) h.1
bare_thing (Trees.unary U.Deref at a) s th (e, inl k, v) = is_thing th _ k.2 tt
bare_thing (Trees.unary U.Deref at a) s th (e, inr k, v) = is_thing th _ k.4 (of_thing v.0 e (bare_thing a s v.0 v.2) (v.1 ∙ ap Some k.3))
bare_thing (Trees.unary U.Plus at a) s th h = is_thing th _ h.2 refl
bare_thing (Trees.unary U.Minus at a) s th h = is_thing th _ h.2 refl
bare_thing (Trees.unary U.Complement at a) s th h = is_thing th _ h.2 refl
bare_thing (Trees.unary U.Not at a) s th h = is_thing th _ h.2 refl
bare_thing (Trees.sizeof_expression at a) s th h = is_thing th _ h.2.2 refl
bare_thing (Trees.sizeof_type at left t right) s th h = is_thing th _ h.3.2 refl
bare_thing (Trees.cast left t right a) s th h = is_thing th _ h.5 refl
bare_thing (Trees.binary a op at b) s th h = is_thing th _ h.7 (joined (kind_of op) h.1 h.2 h.3 h.6 h.0 (place_in s (first a)))
bare_thing (Trees.cond a question b colon c) s th h = is_thing th _ h.4 refl
bare_thing (Trees.assign a op at b) s th (inl h) = is_thing th _ h.4 refl
bare_thing (Trees.assign a op at b) s th (inr (inl h)) = is_thing th _ h.4 refl
bare_thing (Trees.assign a op at b) s th (inr (inr h)) = is_thing th _ h.5 refl
bare_thing (Trees.comma a at b) s th h = is_thing th _ h.3 refl
bare_thing (Trees.braces left all comma right) s th h = absurd h
