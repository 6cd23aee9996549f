-- Files that have no annotated file (C99 6.7, 6.8.6.4).
use Rattle.std.proofs.Common.{refl, ap, sym, subst, ◌∙◌, inl, inr, zero, suc, arith}
use Rattle.std.proofs.lemmas.List.Elements.{All-head, All-tail}
use Rattle.std.specs.Prelude.{◌≡◌, ◌≢◌, ℕ, List, [], ◌∷◌, ◌++◌, true, false, Some, None, codes, All, slice_get}
use Rattle.c_types.specs.declared.ty.IntKind.TheVariants.{Char}
use Rattle.c_types.specs.Types.{CType, void, integer}
use Rattle.c_ast.specs.declared.operators.SpecifierKeyword.TheVariants as S
use Rattle.c_ast.specs.Trees
use Rattle.c_typed.specs.Trees as Typed
use Rattle.c_typed.specs.TypedStatements.{AreTyped}
use Rattle.c_erasure.specs.Noted.{Noted}
use Rattle.c_erasure.specs.Scopes as Scopes
use Rattle.c_erasure.specs.Scopes.{Bound, tentative, FileScope, at_file_scope, declared}
use Rattle.c_typed.specs.Conversions.{is_function}
use Rattle.c_erasure.specs.Erasure.{IsBase, IsOne}
use Rattle.c_erasure.specs.Declarators.{closed, open_array}
use Rattle.c_erasure.specs.Files.{IsFileOf, ErasesItem, AreConsistent, MayStandTogether, in_body, without_notes, bound}
use Rattle.c_erasure.proofs.ExampleParts.{word, int, ints, value_of_some}

-- `int` names one type
int_is : (f : FileScope) (at : ℕ) (t : CType) → IsBase (IsOne (at_file_scope f) (ints at)) (ints at) t → t ≡ int
int_is f at t (inl (e, n)) = cc
int_is f at t (inr (e, n)) = absurd n

-- ---- int main(void){return;}

abbrev main_item : Trees.Item
main_item = Trees.defines (ints 0) (Trees.function (Trees.named (word (codes "main") 4 8)) 8 (Trees.void_alone 9) 13) 14
    (Trees.and_block_item (Trees.statement (Trees.return 15 None 21)) Trees.no_block_items) 22

abbrev returns : Typed.Statements Noted
returns = Typed.and_statement (Typed.return None) Typed.no_statements

no_value : (f : FileScope) → ErasesItem f main_item → ⊥
no_value f (
  base,
  result,
  types,
  x,
  n,
  g,
  bounds,
  b,
  name,
  storage,
  (parameters, listed, scalar, small, shape),
  own,
  mentioned,
  at,
  named,
  of,
  nodes,
  stands,
  linked,
  first,
  is_bound,
  has,
  (all, body, (one, rest, after, split, (st, alone, returned, same), none), is_typed, numbers),
) =
    let z : all ≡ returns = cc in
    let r : result ≡ int = cc (int_is f 0 base b) in
    let typed : AreTyped (declared (in_body f bounds (g.parameters ++ g.locals))) result false false (without_notes returns)
    = subst (λ all. AreTyped (declared (in_body f bounds (g.parameters ++ g.locals))) result false false (without_notes all)) z is_typed in
    let v : result ≡ void = typed.0 in
    cc

no_value_file : (f : FileScope) → IsFileOf (main_item ∷ []) f → ⊥
no_value_file f is = no_value f (All-head (ErasesItem f) main_item [] is.each_item)

-- ---- int x; char x;

abbrev x_item : Trees.Item
x_item = Trees.declaration (record {
  specs = ints 0;
  all = record { comma = None; declarator = Trees.named (word (codes "x") 4 5); value = None } ∷ [];
  semicolon = 5;
})

abbrev characters : Trees.Specifiers
characters = Trees.and_specifier (Trees.plain S.Char 7) Trees.no_specifiers

abbrev x_again : Trees.Item
x_again = Trees.declaration (record {
  specs = characters;
  all = record { comma = None; declarator = Trees.named (word (codes "x") 12 13); value = None } ∷ [];
  semicolon = 13;
})

-- x is bound there as an object of that type
abbrev IsBoundAs : FileScope → (place from : ℕ) → CType → Type 0
IsBoundAs f at from t = (k n : ℕ) × (slice_get f.names k
    ≡ Some (record { name = codes "x"; place = at; from = from; how = tentative; entity = Scopes.an_object n t }))

first_bound : (f : FileScope) → ErasesItem f x_item → IsBoundAs f 4 5 int
first_bound f (base, may, b, some, (x, name, inl (t, none, shape, is, mentioned, w), end)) =
    let z : t ≡ int = cc (int_is f 0 base b) in let e : false ≡ true = subst (λ t. is_function t ≡ true) z is in cc
first_bound f (base, may, b, some, (x, name, inr (closed u, t, n, o, shape, sized, w, own, said, at, named, of, literal, linked, first, (k, e), d), end)) =
    let z : t ≡ int = cc (int_is f 0 base b) in (
      k,
      n,
      subst (λ x. slice_get f.names k ≡ Some (bound x 5 tentative (Scopes.an_object n int))) (sym (value_of_some (word (codes "x") 4 5) x name))
          (subst (λ t. slice_get f.names k ≡ Some (bound x 5 tentative (Scopes.an_object n t))) z e),
    )
first_bound f (base, may, b, some, (x, name, inr (open_array u, t, n, o, shape, sized, w, own, said, at, named, of, literal, linked, first, is, d), end)) =
    absurd sized

char_is : (f : FileScope) (t : CType) → IsBase (IsOne (at_file_scope f) characters) characters t → t ≡ integer Char
char_is f t (inl (e, n)) = cc
char_is f t (inr (e, n)) = absurd n

second_bound : (f : FileScope) → ErasesItem f x_again → IsBoundAs f 12 13 (integer Char)
second_bound f (base, may, b, some, (x, name, inl (t, none, shape, is, mentioned, w), end)) =
    let z : t ≡ integer Char = cc (char_is f base b) in let e : false ≡ true = subst (λ t. is_function t ≡ true) z is in cc
second_bound f (base, may, b, some, (x, name, inr (closed u, t, n, o, shape, sized, w, own, said, at, named, of, literal, linked, first, (k, e), d), end)) =
    let z : t ≡ integer Char = cc (char_is f base b) in (
      k,
      n,
      subst (λ x. slice_get f.names k ≡ Some (bound x 13 tentative (Scopes.an_object n (integer Char)))) (sym (value_of_some (word (codes "x") 12 13) x name))
          (subst (λ t. slice_get f.names k ≡ Some (bound x 13 tentative (Scopes.an_object n t))) z e),
    )
second_bound f (base, may, b, some, (x, name, inr (open_array u, t, n, o, shape, sized, w, own, said, at, named, of, literal, linked, first, is, d), end)) =
    absurd sized

-- an element of a list of which all elements have a property
all_at : {X : Type 0} (P : X → Type 0) (xs : List X) → All P xs → (k : ℕ) (x : X) → slice_get xs k ≡ Some x → P x
all_at P [] all k x e = cc
all_at P (y ∷ xs) all zero x e = subst P (value_of_some y x e) (All-head P y xs all)
all_at P (y ∷ xs) all (suc k) x e = all_at P xs (All-tail P y xs all) k x e

-- two declarations of one name are of one thing
one_thing : (names : List Bound) → AreConsistent names → (k l : ℕ) (b c : Bound) → slice_get names k ≡ Some b → slice_get names l ≡ Some c
    → c.name ≡ b.name → b.from ≢ c.from → b.entity ≡ c.entity
one_thing [] w k l b c e f same apart = cc
one_thing (x ∷ more) w zero zero b c e f same apart = absurd (apart (ap (λ b. b.from) (sym (value_of_some x b e) ∙ value_of_some x c f)))
one_thing (x ∷ more) w zero (suc l) b c e f same apart =
    let p = all_at (λ c. c.name ≡ x.name → MayStandTogether x c) more w.0 l c f in
    let z : x ≡ b = value_of_some x b e in
    subst (λ b. b.entity ≡ c.entity) z (p (same ∙ ap (λ b. b.name) (sym z))).same
one_thing (x ∷ more) w (suc k) zero b c e f same apart =
    let p = all_at (λ c. c.name ≡ x.name → MayStandTogether x c) more w.0 k b e in
    let z : x ≡ c = value_of_some x c f in
    sym (subst (λ c. c.entity ≡ b.entity) z (p (sym same ∙ ap (λ c. c.name) (sym z))).same)
one_thing (x ∷ more) w (suc k) (suc l) b c e f same apart = one_thing more w.1 k l b c e f same apart

two_types : (f : FileScope) → IsFileOf (x_item ∷ x_again ∷ []) f → ⊥
two_types f is =
    let p = first_bound f (All-head (ErasesItem f) x_item (x_again ∷ []) is.each_item) in
    let q = second_bound f (All-head (ErasesItem f) x_again [] (All-tail (ErasesItem f) x_item (x_again ∷ []) is.each_item)) in
    let z : Scopes.an_object p.1 int ≡ Scopes.an_object q.1 (integer Char) = one_thing f.names is.consistent p.0 q.0
    (record { name = codes "x"; place = 4; from = 5; how = tentative; entity = Scopes.an_object p.1 int })
    (record { name = codes "x"; place = 12; from = 13; how = tentative; entity = Scopes.an_object q.1 (integer Char) }) p.2 q.2 refl
    (λ e. absurd (omega (arith, e))) in
    cc
