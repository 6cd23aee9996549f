-- A file that is accepted has no fault (C99 6.5, 6.9), whatever annotated file is chosen.
use Rattle.std.proofs.Common.{refl, ap, sym, subst, ◌∙◌, inl, inr, zero, suc, arith}
use Rattle.std.specs.Prelude.{◌≡◌, ℕ, List, [], ◌∷◌, ◌++◌, true, false, Some, None, codes, map, Option, slice_get, ◌⊎◌}
use Rattle.lay_base.specs.declared.faults.Rule.TheVariants as R
use Rattle.c_ast.specs.declared.words.Spelling.{Spelling}
use Rattle.c_typed.specs.declared.operators.LibraryFunction.{LibraryFunction}
use Rattle.c_typed.specs.Conversions.{is_scalar, is_function}
use Rattle.c_erasure.specs.Specifiers.{no_storage}
use Rattle.c_erasure.specs.Declarators.{closed, IsSmall}
use Rattle.c_erasure.specs.Erasure.{Declares}
use Rattle.c_erasure.specs.Broken.{IsBrokenDeclarator, ill_typed}
use Rattle.c_erasure.specs.Files.{library_name, in_body}
use Rattle.c_erasure.specs.BrokenFiles.{IsBrokenMain, IsOtherwise, IsDefinition, IsBrokenBody, IsNoFunctionOf, IsNoObjectOf, IsOfOtherLinkage, IsBrokenItem}
use Rattle.lay_base.specs.declared.place.Place.{Place}
use Rattle.c_typed.specs.declared.operators.PointerOp.TheVariants as P
use Rattle.c_typed.specs.Fits.{assigns}
use Rattle.c_typed.specs.Rules.{on_numbers, moving}
use Rattle.c_erasure.specs.Operators.{computes}
use Rattle.c_erasure.specs.Scopes.{declared, ended}
use Rattle.c_erasure.specs.Noted.{Node, value}
use Rattle.c_erasure.specs.Erasure.{IsSum}
use Rattle.c_erasure.specs.Broken.{One, Two, AreUnfit, IsBroken, null}
use Rattle.c_erasure.specs.BrokenStatements.{AreBrokenItems}
use Rattle.lay_base.specs.declared.faults.Rule.{Rule}
use Rattle.c_types.specs.declared.ty.IntKind.TheVariants.{Int}
use Rattle.c_types.specs.Types.{CType, void, pointer, function, no_types}
use Rattle.c_ast.specs.declared.operators.BinaryOp.TheVariants as O
use Rattle.c_ast.specs.Trees
use Rattle.c_typed.specs.declared.operators.BinaryOp.TheVariants.{Add}
use Rattle.c_typed.specs.Trees as Typed
use Rattle.c_typed.specs.Typed.{IsTyped, IsMoved, bare, is_bare, bare_ty}
use Rattle.c_typed.specs.Constants.{ty}
use Rattle.c_erasure.specs.Noted.{Note, nothing, size_of, Expression, Thing, a_value, value_of, type_of, unconverted, unless_noted}
use Rattle.c_erasure.specs.Scopes.{Bound, FileScope, Scope, at_file_scope}
use Rattle.c_erasure.specs.Erasure.{IsBase, IsOne, typed, place_in}
use Rattle.c_erasure.specs.Broken.{Fault, IsValue, IsValueless, HasNoValue}
use Rattle.c_erasure.specs.BrokenStatements.{IsBrokenReturn}
use Rattle.c_erasure.specs.BrokenFiles.{IsFirstPart, IsFaultOf, IsOld, IsBrokenDefinition}
use Rattle.c_erasure.proofs.ExampleParts.{word, int, ints, value_of_some, main_is_own}

-- ---- an expression without the implicit conversion at its top

bare_is : (x : Expression) → is_bare (typed x) ≡ true → unconverted x ≡ x
bare_is (Typed.expression t at (Typed.convert e false)) h = cc
bare_is (Typed.expression t at (Typed.convert e true)) h = refl
bare_is (Typed.expression t at node) h = refl

-- ---- int main(void){return 256 + 3;}

abbrev sum : Trees.Expression
sum = Trees.binary (Trees.number (word (codes "256") 22 25) 256 Int) O.Add 26 (Trees.number (word (codes "3") 28 29) 3 Int)

abbrev main_declarator : Trees.Declarator
main_declarator = Trees.function (Trees.named (word (codes "main") 4 8)) 8 (Trees.void_alone 9) 13

abbrev main_items : Trees.BlockItems
main_items = Trees.and_block_item (Trees.statement (Trees.return 15 (Some sum) 29)) Trees.no_block_items

abbrev main_item : Trees.Item
main_item = Trees.defines (ints 0) main_declarator 14 main_items 30

abbrev main_type : CType
main_type = function int no_types

-- ---- expressions

value_has_value : (th : Thing) (e : Expression) (rule : Rule) → th ≡ a_value e → IsValueless th rule → ⊥
value_has_value th e rule is w = let z : IsValueless (a_value e) rule = subst (λ th. IsValueless th rule) is w in z

abbrev the_number : List ℕ → (from to n : ℕ) → Trees.Expression
the_number x from to n = Trees.number (word x from to) n Int

abbrev typed_number : Scope → (at n : ℕ) → Expression
typed_number s at n = Typed.expression (record { ty = int; note = nothing })
    (place_in s at) (Typed.constant n)

number_has_value : (x : List ℕ) (from to n : ℕ) (s : Scope) (f : Fault) → HasNoValue (the_number x from to n) s f → ⊥
number_has_value x from to n s f (th, rule, (is, typed), w, e) = value_has_value th (typed_number s from n) rule is w

sum_has_value : (s : Scope) (f : Fault) → HasNoValue sum s f → ⊥
sum_has_value s f (th, rule, ((t, x, y, node, vx, vy, joined, is), typed), w, e) =
    value_has_value th (Typed.expression (record { ty = t; note = nothing }) (place_in s 22) node) rule is w

-- what stands there is that number, converted or not
is_number : (s : Scope) (at n : ℕ) (x : Expression) (th : Thing) → value_of th ≡ Some (unconverted x) → th ≡ a_value (typed_number s at n)
    → typed_number s at n ≡ unconverted x
is_number s at n x th v is = value_of_some (typed_number s at n) (unconverted x) (subst (λ th. value_of th ≡ Some (unconverted x)) is v)

number_is_int : (x : List ℕ) (from to n : ℕ) (s : Scope) (e : Expression) → IsValue (the_number x from to n) s e → type_of e ≡ int
number_is_int x from to n s e ((th, v, is), typed, bare) = sym (ap type_of (is_number s from n e th v is ∙ bare))

operand_is_int : (s : Scope) (at n : ℕ) (x : Expression) → typed_number s at n ≡ unconverted x → bare_ty (typed x) ≡ int
operand_is_int s at n (Typed.expression t p (Typed.convert e false)) h = by_note t.note h
  where
    by_note : (note : Note) → typed_number s at n ≡ unless_noted note e (Typed.expression t p (Typed.convert e false)) → ty (typed e) ≡ int
    by_note nothing h = sym (ap (λ x. ty (typed x)) h)
    by_note (size_of u at) h = cc
operand_is_int s at n (Typed.expression t p (Typed.convert e true)) h = sym (ap (λ x. ty (typed x)) h)
operand_is_int s at n (Typed.expression t p node) h = sym (ap (λ x. ty (typed x)) h)

bare_operand_is_int : (s : Scope) (at n : ℕ) (x : Expression) → typed_number s at n ≡ unconverted x → is_bare (typed x) ≡ true → ty (typed x) ≡ int
bare_operand_is_int s at n x e b = sym (ap (λ x. ty (typed x)) (e ∙ bare_is x b))

-- ---- the sum is an int

abbrev two : CType → CType → Option (CType × CType)
two s t = Some (s, t)

abbrev first_of : Option (CType × CType) → CType
first_of None = void
first_of (Some p) = p.0

first_of_two : (s t u v : CType) → two s t ≡ two u v → u ≡ s
first_of_two s t u v e = sym (ap first_of e)

binary_is_int : (s : Scope) (at : Place) (t : CType) (x y : Expression) → bare_ty (typed x) ≡ int → bare_ty (typed y) ≡ int
    → IsTyped (declared s) (typed (value t at (Typed.binary Add x y))) → t ≡ int
binary_is_int s at t x y p q (wx, wy, e, same) =
    let z = subst (λ u. on_numbers Add u (bare_ty (typed y)) ≡ Some (t, ty (typed y))) p e in
    first_of_two int int t (ty (typed y)) (subst (λ u. on_numbers Add int u ≡ Some (t, ty (typed y))) q z)

no_move : (count : ℕ) (x y : Expression) (t : CType) → (is_bare (typed x) ≡ true → ty (typed x) ≡ int) → IsMoved count (typed x) (typed y) t → ⊥
no_move count x y t p (b, e, same) =
    let z : None ≡ Some (ty (typed y)) = subst (λ u. moving count u (bare_ty (typed y)) ≡ Some (ty (typed y))) (p b) e in cc

no_pointer : (s : Scope) (at : Place) (t : CType) (x y : Expression) → (is_bare (typed x) ≡ true → ty (typed x) ≡ int)
    → (is_bare (typed y) ≡ true → ty (typed y) ≡ int) → IsTyped (declared s) (typed (value t at (Typed.pointer_add P.Add x y))) → ⊥
no_pointer s at t x y p q (wx, wy, inl m) = no_move ((declared s).complete at.at) x y t p m
no_pointer s at t x y p q (wx, wy, inr m) = no_move ((declared s).complete at.at) y x t q m

sum_is_int : (s : Scope) (at : Place) (t : CType) (x y : Expression) (node : Node) → typed_number s 22 256 ≡ unconverted x → typed_number s 28 3 ≡ unconverted y
    → IsSum Add x y node → IsTyped (declared s) (typed (value t at node)) → t ≡ int
sum_is_int s at t x y node p q (inl e) w =
    binary_is_int s at t x y (operand_is_int s 22 256 x p) (operand_is_int s 28 3 y q) (subst (λ node. IsTyped (declared s) (typed (value t at node))) e w)
sum_is_int s at t x y node p q (inr e) w = absurd (
    no_pointer s at t x y (bare_operand_is_int s 22 256 x p) (bare_operand_is_int s 28 3 y q)
    (subst (λ node. IsTyped (declared s) (typed (value t at node))) e w)
    )

not_returned : (s : Scope) → One sum s (λ x. assigns (type_of x) (null x) int ≡ false) → ⊥
not_returned s (x, ((th, v, (t, a, b, node, (c, vc, ic), (d, vd, id), joined, is)), typed_x, bare_x), unfit) =
    let whole : Expression = value t (place_in s 22) node in
    let z : whole ≡ x = value_of_some whole (unconverted x) (subst (λ th. value_of th ≡ Some (unconverted x)) is v) ∙ bare_x in
    let w : IsTyped (declared s) (typed whole) = subst (λ x. IsTyped (declared s) (typed x)) (sym z) typed_x in
    let i : t ≡ int = sum_is_int s (place_in s 22) t a b node (is_number s 22 256 a c vc ic) (is_number s 28 3 b d vd id) joined w in
    let n : assigns t (null whole) int ≡ false = subst (λ x. assigns (type_of x) (null x) int ≡ false) (sym z) unfit in
    let f : true ≡ false = subst (λ t. assigns t (null whole) int ≡ false) i n in
    cc

not_unfit : (s : Scope) (count : ℕ) → Two (the_number (codes "256") 22 25 256) (the_number (codes "3") 28 29 3) s (AreUnfit count (computes Add)) → ⊥
not_unfit s count (x, y, is_x, is_y, (none, m, n)) =
    let z = subst (λ t. on_numbers Add t (type_of y) ≡ None) (number_is_int (codes "256") 22 25 256 s x is_x) none in
    let w : two int int ≡ None = subst (λ t. on_numbers Add int t ≡ None) (number_is_int (codes "3") 28 29 3 s y is_y) z in
    cc

no_broken_sum : (s : Scope) (f : Fault) → IsBroken sum s f → ⊥
no_broken_sum s f (inl b) = b
no_broken_sum s f (inr (inl (sound, b))) = b
no_broken_sum s f (inr (inr (inl h))) = number_has_value (codes "256") 22 25 256 s f h
no_broken_sum s f (inr (inr (inr (inl (sound, h))))) = number_has_value (codes "3") 28 29 3 s f h
no_broken_sum s f (inr (inr (inr (inr (e, unfit))))) = not_unfit s (ended s.file.ends 22) unfit

no_broken_return : (s : Scope) (f : Fault) → IsBrokenReturn (Some sum) 15 s int f → ⊥
no_broken_return s f (inl b) = no_broken_sum s f b
no_broken_return s f (inr (inl h)) = sum_has_value s f h
no_broken_return s f (inr (inr (inl (e, v)))) = cc
no_broken_return s f (inr (inr (inr (e, some, one)))) = not_returned s one

no_broken_body : (s : Scope) (f : Fault) → AreBrokenItems int main_items s false false f → ⊥
no_broken_body s f (inl b) = no_broken_return s f b
no_broken_body s f (inr (own, after, is, more)) = more

-- ---- names: the only one begins at the body

begins_there : (names : List Bound) → IsFirstPart (map (λ b. b.from) names) (14 ∷ []) → (k : ℕ) (b : Bound) → slice_get names k ≡ Some b → b.from ≡ 14
begins_there [] e k b g = cc
begins_there (x ∷ []) e zero b g = ap (λ b. b.from) (sym (value_of_some x b g)) ∙ cc e
begins_there (x ∷ []) e (suc k) b g = cc
begins_there (x ∷ y ∷ more) e k b g = cc

no_old : (f : FileScope) → IsFirstPart (map (λ b. b.from) f.names) (14 ∷ []) → (Is : Bound → Type 0) (fault : Fault)
    → IsOld f (word (codes "main") 4 8) 14 Is fault → ⊥
no_old f names Is fault (k, b, g, name, before, w, none, e) = let z : b.from ≡ 14 = begins_there f.names names k b g in absurd (omega (arith, z, before))

-- ---- the definition of `main`

int_is : (f : FileScope) (t : CType) → IsBase (IsOne (at_file_scope f) (ints 0)) (ints 0) t → t ≡ int
int_is f t (inl (e, n)) = cc
int_is f t (inr (e, n)) = absurd n

main_is_small : (f : FileScope) → IsSmall f.records (pointer (function int no_types))
main_is_small f = record { bytes = omega arith; parts = omega arith }

no_broken_declarator : (f : FileScope) (base : CType) (fault : Fault) → base ≡ int → IsBrokenDeclarator main_declarator (at_file_scope f) base fault → ⊥
no_broken_declarator f base fault is (inl (lengths, b)) = b
no_broken_declarator f base fault is (inr (inl (e, (n, v)))) = let z : true ≡ false = subst (λ t. is_scalar t ≡ false) is n in cc
no_broken_declarator f base fault is (inr (inr (inl (types, listed, inl (e, big))))) =
    let z = subst (λ t. IsSmall f.records (pointer (function t types)) → ⊥) is big in
    let w = subst (λ types. IsSmall f.records (pointer (function int types)) → ⊥) listed z in
    w (main_is_small f)
no_broken_declarator f base fault is (inr (inr (inl (types, listed, inr b)))) = b
no_broken_declarator f base fault is (inr (inr (inr b))) = b

closed_type : (t u : CType) → closed t ≡ closed u → t ≡ u
closed_type t u e = cc

main_is : (f : FileScope) (base t : CType) → base ≡ int → Declares (at_file_scope f) main_declarator base (closed t) → t ≡ main_type
main_is f base t is (types, listed, scalar, small, shape) =
    closed_type t main_type (subst (λ types. closed t ≡ closed (function int types)) listed (subst (λ base. closed t ≡ closed (function base types)) is shape))

main_name : (x : Spelling) → Some (word (codes "main") 4 8) ≡ Some x → x ≡ word (codes "main") 4 8
main_name x e = sym (value_of_some (word (codes "main") 4 8) x e)

abbrev Names : FileScope → Type 0
Names f = IsFirstPart (map (λ b. b.from) f.names) (14 ∷ [])

-- of the name and type that `main` has
abbrev IsBrokenMore : FileScope → CType → Spelling → Fault → Type 0
IsBrokenMore f t x fault = ((fault ≡ ill_typed R.Specifiers 0) × (is_function t ≡ false))
    ⊎ ((which : LibraryFunction) × (x.text ≡ library_name which) × (fault ≡ ill_typed R.Library x.from))
    ⊎ ((fault ≡ ill_typed R.Main x.from) × IsBrokenMain f no_storage t x)
    ⊎ IsOtherwise f no_storage t x 14 fault
    ⊎ IsOld f x 14 IsDefinition fault
    ⊎ IsBrokenBody f t main_declarator x 14 main_items fault

no_more : (f : FileScope) (fault : Fault) → Names f → IsBrokenMore f main_type (word (codes "main") 4 8) fault → ⊥
no_more f fault names (inl (e, n)) = cc
no_more f fault names (inr (inl (which, e, r))) = main_is_own which e
no_more f fault names (inr (inr (inl (e, (same, inl (typedef, is, other)))))) = other refl
no_more f fault names (inr (inr (inl (e, (same, inr (is, linked)))))) = cc
no_more f fault names (inr (inr (inr (inl (inl (is, old)))))) = no_old f names (IsNoFunctionOf main_type) fault old
no_more f fault names (inr (inr (inr (inl (inr (inl (is, old))))))) = no_old f names (IsNoObjectOf main_type) fault old
no_more f fault names (inr (inr (inr (inl (inr (inr old)))))) = no_old f names (IsOfOtherLinkage f no_storage) fault old
no_more f fault names (inr (inr (inr (inr (inl old))))) = no_old f names IsDefinition fault old
no_more f fault names (inr (inr (inr (inr (inr (parameters, locals, bounds, n, of, is, has, b)))))) =
    no_broken_body (in_body f bounds (parameters ++ locals)) fault b

no_broken_main : (f : FileScope) (fault : Fault) → Names f → IsBrokenDefinition f (ints 0) main_declarator 14 main_items fault → ⊥
no_broken_main f fault names (inl (e, inl n)) = n tt
no_broken_main f fault names (inl (e, inr (inl (inl (m, n))))) = cc
no_broken_main f fault names (inl (e, inr (inl (inr (inl (m, n)))))) = m refl
no_broken_main f fault names (inl (e, inr (inl (inr (inr (a, b, more, m)))))) = cc
no_broken_main f fault names (inl (e, inr (inr n))) = n
no_broken_main f fault names (inr (inl (inl b))) = b
no_broken_main f fault names (inr (inl (inr b))) = b
no_broken_main f fault names (inr (inr (base, is, inl b))) = no_broken_declarator f base fault (int_is f base is) b
no_broken_main f fault names (inr (inr (base, is, inr (x, t, named, d, b)))) =
    let z = subst (λ t. IsBrokenMore f t x fault) (main_is f base t (int_is f base is) d) b in
    no_more f fault names (subst (λ x. IsBrokenMore f main_type x fault) (main_name x named) z)

-- ---- the file

the_item : {X : Type 0} (x item : X) (before after : List X) → x ∷ [] ≡ before ++ item ∷ after → item ≡ x
the_item x item [] after e = cc
the_item x item (y ∷ []) after e = cc
the_item x item (y ∷ z ∷ more) after e = cc

no_fault : (fault : Fault) → IsFaultOf (main_item ∷ []) fault → ⊥
no_fault fault w =
    let z = subst (λ item. IsBrokenItem w.annotated item fault) (the_item main_item w.item w.before w.after w.whole) w.broken in
    no_broken_main w.annotated fault w.known.names z
