-- A name that is declared before is not undeclared (C99 6.2.1).
use Rattle.std.proofs.Common.{refl, sym, subst, inl, inr, zero, suc}
use Rattle.std.proofs.lemmas.List.Elements.{All-head}
use Rattle.std.specs.Prelude.{◌≡◌, ℕ, Bool, true, false, ◌&&◌, nat_le, if◌then◌else◌, List, [], ◌∷◌, ◌++◌, Option, Some, None, codes, All}
use Rattle.std.specs.Prelude.{slice_get, ◌⊎◌}
use Rattle.std.specs.Str.{bytes_eq}
use Rattle.c_types.specs.Types.{CType, function, no_types}
use Rattle.c_ast.specs.declared.words.Spelling.{Spelling}
use Rattle.c_ast.specs.Trees
use Rattle.c_typed.specs.Conversions.{is_function}
use Rattle.c_erasure.specs.Scopes as Scopes
use Rattle.c_erasure.specs.Scopes.{Entity, Bound, tentative, FileScope, at_file_scope, visible, or_else}
use Rattle.c_erasure.specs.Declarators.{closed, open_array}
use Rattle.c_erasure.specs.Erasure.{IsBase, IsOne, Declares}
use Rattle.c_erasure.specs.Files.{ErasesItem, bound}
use Rattle.c_erasure.specs.Broken.{Fault, undeclared}
use Rattle.c_erasure.specs.BrokenFiles.{IsBrokenItem, IsBrokenBody, IsFaultOf}
use Rattle.c_erasure.proofs.ExampleParts.{word, int, ints, value_of_some}

-- ---- int x;int main(void){return x;}

abbrev x_item : Trees.Item
x_item = Trees.declaration (record {
  specs = ints 0;
  all = record { comma = None; declarator = Trees.named (word (codes "x") 4 5); value = None } ∷ [];
  semicolon = 5;
})

abbrev main_declarator : Trees.Declarator
main_declarator = Trees.function (Trees.named (word (codes "main") 10 14)) 14 (Trees.void_alone 15) 19

abbrev main_items : Trees.BlockItems
main_items = Trees.and_block_item (Trees.statement (Trees.return 21 (Some (Trees.name (word (codes "x") 28 29))) 29)) Trees.no_block_items

abbrev main_item : Trees.Item
main_item = Trees.defines (ints 6) main_declarator 20 main_items 30

abbrev items : List Trees.Item
items = x_item ∷ main_item ∷ []

abbrev no_x : ℕ → Fault
no_x at = undeclared (codes "x") at

-- ---- a name that is bound is visible from where its scope begins

abbrev reaches : Bound → Bool
reaches b = bytes_eq b.name (codes "x") && nat_le b.from 28

neither : (test : Bool) (e : Entity) (o : Option Entity) → or_else (if test then Some e else None) o ≡ None → (test ≡ false) × (o ≡ None)
neither true e o h = cc
neither false e o h = (refl, h)

is_visible : (names : List Bound) (k : ℕ) (b : Bound) → slice_get names k ≡ Some b → reaches b ≡ true → visible names (codes "x") 28 ≡ None → ⊥
is_visible [] k b e r h = cc
is_visible (c ∷ more) zero b e r h =
    let z : reaches c ≡ false = (neither (reaches c) c.entity (visible more (codes "x") 28) h).0 in
    let w : reaches b ≡ false = subst (λ c. reaches c ≡ false) (value_of_some c b e) z in
    cc
is_visible (c ∷ more) (suc k) b e r h = is_visible more k b e r (neither (reaches c) c.entity (visible more (codes "x") 28) h).1

int_is : (f : FileScope) (at : ℕ) (t : CType) → IsBase (IsOne (at_file_scope f) (ints at)) (ints at) t → t ≡ int
int_is f at t (inl (e, n)) = cc
int_is f at t (inr (e, n)) = absurd n

x_visible : (f : FileScope) → ErasesItem f x_item → visible f.names (codes "x") 28 ≡ None → ⊥
x_visible f (base, may, b, some, (x, name, inl (t, none, shape, is, mentioned, w), end)) h =
    let z : t ≡ int = cc (int_is f 0 base b) in let e : false ≡ true = subst (λ t. is_function t ≡ true) z is in cc
x_visible f (base, may, b, some, (x, name, inr (shape, t, n, o, d, sized, w, own, said, at, named, of, literal, linked, first, (k, e), i), end)) h =
    is_visible f.names k (bound (word (codes "x") 4 5) 5 tentative (Scopes.an_object n t))
    (subst (λ x. slice_get f.names k ≡ Some (bound x 5 tentative (Scopes.an_object n t))) (sym (value_of_some (word (codes "x") 4 5) x name)) e) refl h

-- ---- the first item

not_in_first : (f : FileScope) (at : ℕ) → IsBrokenItem f x_item (no_x at) → ⊥
not_in_first f at (inl (e, w)) = cc
not_in_first f at (inr (inl (inl b))) = b
not_in_first f at (inr (inl (inr b))) = b
not_in_first f at (inr (inr (base, is, inl (inl b)))) = b
not_in_first f at (inr (inr (base, is, inl (inr (x, closed t, name, d, inl w))))) = w
not_in_first f at (inr (inr (base, is, inl (inr (x, open_array t, name, d, inl w))))) = cc
not_in_first f at (inr (inr (base, is, inl (inr (x, shape, name, d, inr (t, s, inl (e, w))))))) = cc
not_in_first f at (inr (inr (base, is, inl (inr (x, shape, name, d, inr (t, s, inr (inl (e, w)))))))) = cc
not_in_first f at (inr (inr (base, is, inl (inr (x, shape, name, d, inr (t, s, inr (inr (inl (e, v, u, w))))))))) = cc
not_in_first f at (inr (inr (base, is, inl (inr (x, shape, name, d, inr (t, s, inr (inr (inr (inl (e, v, w)))))))))) = cc
not_in_first f at (inr (inr (base, is, inl (inr (x, shape, name, d, inr (t, s, inr (inr (inr (inr (inl (inl (i, (k, b, g, n, r, o, none, e))))))))))))) = cc
not_in_first f at (inr (inr (base, is, inl (inr (x, shape, name, d, inr (t, s, inr (inr (inr (inr (inl (inr (inl (i, (k, b, g, n, r, o, none, e)))))))))))))) = cc
not_in_first f at (inr (inr (base, is, inl (inr (x, shape, name, d, inr (t, s, inr (inr (inr (inr (inl (inr (inr (k, b, g, n, r, o, none, e))))))))))))) = cc
not_in_first f at (inr (inr (base, is, inl (inr (x, shape, name, d, inr (t, s, inr (inr (inr (inr (inr (inl (v, (k, b, g, n, r, o, none, e))))))))))))) = cc
not_in_first f at (inr (inr (base, is, inl (inr (x, shape, name, d, inr (t, s, inr (inr (inr (inr (inr (inr (v, w)))))))))))) = v
not_in_first f at (inr (inr (base, is, inr (x, name, declared, more)))) = more

-- ---- the second item

closed_type : (t u : CType) → closed t ≡ closed u → t ≡ u
closed_type t u e = cc

main_is : (f : FileScope) (base t : CType) → base ≡ int → Declares (at_file_scope f) main_declarator base (closed t) → t ≡ function int no_types
main_is f base t is (types, listed, scalar, small, shape) = closed_type t (function int no_types)
    (subst (λ types. closed t ≡ closed (function int types)) listed (subst (λ base. closed t ≡ closed (function base types)) is shape))

not_in_body : (f : FileScope) (at : ℕ) (x : Spelling) → ErasesItem f x_item
    → IsBrokenBody f (function int no_types) main_declarator x 20 main_items (no_x at) → ⊥
not_in_body f at x first (parameters, locals, bounds, n, of, is, (none, ps, bs), inl (inl (inl (h, e)))) =
    x_visible f first (subst (λ bounds. or_else (Scopes.innermost (bounds ∷ []) (codes "x")) (visible f.names (codes "x") 28) ≡ None) bs h)
not_in_body f at x first (parameters, locals, bounds, n, of, is, has, inl (inl (inr (t, h, e)))) = cc
not_in_body f at x first (parameters, locals, bounds, n, of, is, has, inl (inr (inl (th, rule, t, w, e)))) = cc
not_in_body f at x first (parameters, locals, bounds, n, of, is, has, inl (inr (inr (inl (e, w))))) = cc
not_in_body f at x first (parameters, locals, bounds, n, of, is, has, inl (inr (inr (inr (e, some, w))))) = cc
not_in_body f at x first (parameters, locals, bounds, n, of, is, has, inr (own, after, erases, more)) = more

not_in_second : (f : FileScope) (at : ℕ) → ErasesItem f x_item → IsBrokenItem f main_item (no_x at) → ⊥
not_in_second f at first (inl (e, w)) = cc
not_in_second f at first (inr (inl (inl b))) = b
not_in_second f at first (inr (inl (inr b))) = b
not_in_second f at first (inr (inr (base, is, inl (inl (lengths, b))))) = b
not_in_second f at first (inr (inr (base, is, inl (inr (inl (e, w)))))) = cc
not_in_second f at first (inr (inr (base, is, inl (inr (inr (inl (types, listed, inl (e, w)))))))) = cc
not_in_second f at first (inr (inr (base, is, inl (inr (inr (inl (types, listed, inr b))))))) = b
not_in_second f at first (inr (inr (base, is, inl (inr (inr (inr b)))))) = b
not_in_second f at first (inr (inr (base, is, inr (x, t, name, d, inl (e, w))))) = cc
not_in_second f at first (inr (inr (base, is, inr (x, t, name, d, inr (inl (which, e, w)))))) = cc
not_in_second f at first (inr (inr (base, is, inr (x, t, name, d, inr (inr (inl (e, w))))))) = cc
not_in_second f at first (inr (inr (base, is, inr (x, t, name, d, inr (inr (inr (inl (inl (i, (k, b, g, n, r, o, none, e)))))))))) = cc
not_in_second f at first (inr (inr (base, is, inr (x, t, name, d, inr (inr (inr (inl (inr (inl (i, (k, b, g, n, r, o, none, e))))))))))) = cc
not_in_second f at first (inr (inr (base, is, inr (x, t, name, d, inr (inr (inr (inl (inr (inr (k, b, g, n, r, o, none, e)))))))))) = cc
not_in_second f at first (inr (inr (base, is, inr (x, t, name, d, inr (inr (inr (inr (inl (k, b, g, n, r, o, none, e))))))))) = cc
not_in_second f at first (inr (inr (base, is, inr (x, t, name, d, inr (inr (inr (inr (inr b)))))))) = not_in_body f at x first
    (subst (λ t. IsBrokenBody f t main_declarator x 20 main_items (no_x at)) (main_is f base t (int_is f 6 base is) d) b)

-- ---- the file

one_of_items : {X : Type 0} (x y item : X) (before after : List X) → x ∷ y ∷ [] ≡ before ++ item ∷ after
    → (item ≡ x) ⊎ ((before ≡ x ∷ []) × (item ≡ y))
one_of_items x y item [] after e = inl cc
one_of_items x y item (a ∷ []) after e = inr (cc, cc)
one_of_items x y item (a ∷ b ∷ []) after e = cc
one_of_items x y item (a ∷ b ∷ c ∷ more) after e = cc

abbrev IsEither : List Trees.Item → Trees.Item → Type 0
IsEither before item = (item ≡ x_item) ⊎ ((before ≡ x_item ∷ []) × (item ≡ main_item))

declared_name_stands : (f : FileScope) (at : ℕ) (before : List Trees.Item) (item : Trees.Item) → IsEither before item → All (ErasesItem f) before
    → IsBrokenItem f item (no_x at) → ⊥
declared_name_stands f at before item (inl e) all b = not_in_first f at (subst (λ item. IsBrokenItem f item (no_x at)) e b)
declared_name_stands f at before item (inr (e, g)) all b =
    not_in_second f at (All-head (ErasesItem f) x_item [] (subst (All (ErasesItem f)) e all)) (subst (λ item. IsBrokenItem f item (no_x at)) g b)

not_undeclared : (at : ℕ) → IsFaultOf items (no_x at) → ⊥
not_undeclared at w = declared_name_stands w.annotated at w.before w.item (one_of_items x_item main_item w.item w.before w.after w.whole)
    w.known.each_before w.broken
