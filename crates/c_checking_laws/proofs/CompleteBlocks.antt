-- Blocks, `for` and `return`: the typed statement is the one that is found, where the declarations in it are (C99 6.8.2, 6.8.5.3, 6.8.6.4).
use Rattle.std.proofs.Common.{◌≡◌, ℕ, ◌+◌, Bool, true, false, List, [], ◌∷◌, ◌++◌, length, length-append, append_assoc}
use Rattle.std.proofs.Common.{append-nil, refl, sym}
use Rattle.std.proofs.Common.{ap, ◌∙◌, subst, arith}
use Rattle.std.specs.Prelude.{Some, Ok}
use Rattle.c_types.specs.Types.{CType, void, integer, pointer, array, function, structure}
use Rattle.c_ast.specs.Trees
use Rattle.c_typed.specs.Trees as Typed
use Rattle.c_typed.specs.Mapped.{of_types, mapped_statements}
use Rattle.c_typed.specs.Constants.{is_null}
use Rattle.c_typed.specs.Fits.{assigns, is_void}
use Rattle.c_typed.specs.Typed.{bare, bare_ty, IsConverted}
use Rattle.c_typed.specs.TypedStatements.{declared_by, all_declared, all_declared_by, AreTyped}
use Rattle.c_erasure.specs.Erasure.{typed, place_in}
use Rattle.c_erasure.specs.Noted.{Expression, type_of, unconverted}
use Rattle.c_erasure.specs.Scopes.{ALocal, Bound, FileScope, Scope, in_full, declared}
use Rattle.c_erasure.specs.Statements.{Statements, followed_by, ErasesItem, EraseItems, IsLocalDeclaration}
use Rattle.c_erasure.specs.Checking.Answers.{◌>>=◌}
use Rattle.c_erasure.specs.Checking.Nodes.{null}
use Rattle.c_erasure.specs.Checking.Statements.{Performed, value_of_expression, returned_in}
use Rattle.c_erasure.specs.Checking.Statements.{local_declaration, leaving, performed, item_in, items_in}
use Rattle.c_checking_laws.proofs.Results.{ok}
use Rattle.c_checking_laws.proofs.CompleteNodes
use Rattle.c_checking_laws.proofs.CompleteWalk.{Event}
use Rattle.c_checking_laws.proofs.CompletePart.{Lists, IsWhole, IsBefore, none_after}
use Rattle.c_checking_laws.proofs.CompletePart.{left_seen, right_seen, then_seen}
use Rattle.c_checking_laws.proofs.CompleteFit.{IsFit, fit_after, fit_inside}
use Rattle.c_checking_laws.proofs.CompleteStatements.{walk_of_statement, walk_of_item, walk_of_items, AreNumbered}
use Rattle.c_checking_laws.proofs.CompleteStatements.{numbered_left, numbered_right}
use Rattle.c_checking_laws.proofs.CompleteStatements.{inner, outer, Seen, Performs, found_plain, CompletesStatement, by_statement}

-- ---- statements one after the other

pub declared_followed : (a b : Statements) → all_declared_by (followed_by a b) ≡ all_declared_by a ++ all_declared_by b
declared_followed Typed.no_statements b = refl
declared_followed (Typed.and_statement s a) b =
    ap (λ z. all_declared s ++ z) (declared_followed a b) ∙ sym (append_assoc (all_declared s) (all_declared_by a) (all_declared_by b))

abbrev without : Statements → Typed.Statements CType
without all = mapped_statements (of_types (λ t. t.ty)) all

-- to nothing no value is converted
not_void : (s : CType) (n : Bool) → assigns s n void ≡ false
not_void void n = refl
not_void (integer k) n = refl
not_void (pointer t) n = refl
not_void (array t k) n = refl
not_void (function t all) n = refl
not_void (structure r) n = refl

no_void : (s : CType) (n : Bool) (t : CType) → assigns s n t ≡ true → is_void t ≡ false
no_void s n (integer k) h = refl
no_void s n (pointer t) h = refl
no_void s n (array t k) h = refl
no_void s n (function t all) h = refl
no_void s n (structure r) h = refl
no_void s n void h = let e = not_void s n in cc

module _ (g : FileScope) (w : IsWhole g) (ls : List ALocal) (result : CType) (own : Trees.Declaration → List Event) where
  abbrev pub AreTypedHere : List (List Bound) → (loop switch : Bool) → Statements → Type 0
  AreTypedHere b loop switch all = AreTyped (declared (outer g w ls b)) result loop switch (without all)

  pub typed_followed : (b : List (List Bound)) (loop switch : Bool) (x y : Statements) → AreTypedHere b loop switch (followed_by x y)
      → AreTypedHere b loop switch x × AreTypedHere b loop switch y
  typed_followed b loop switch Typed.no_statements y h = (tt, h)
  typed_followed b loop switch (Typed.and_statement s x) y h =
      let z = typed_followed b loop switch x y h.1 in ((h.0, z.0), z.1)

  -- ---- declarations in a block, and the blocks after them

  pub record FoundAll (b : List (List Bound)) (l : List ALocal) (c : Lists) (all : List Event) (r : Performed Statements) (found : Statements)
      (after : Scope) : Type 0 where
    pub blocks : List (List Bound)
    pub is_after : after ≡ outer g w ls blocks
    pub performs : Performs g w ls c l all (all_declared_by found) r found blocks
    pub fit : IsFit g performs.lists blocks

  abbrev pub CompletesDeclaration : Trees.Declaration → Type 0
  CompletesDeclaration d = (b : List (List Bound)) (l : List ALocal) (c : Lists) (all : Statements) (after : Scope) (loop switch : Bool)
      → IsFit g c b → IsBefore g c (Seen g w ls (own d)) → (more : List ALocal) × (ls ≡ l ++ more)
      → IsLocalDeclaration d (outer g w ls b) all after → AreTypedHere b loop switch all → AreNumbered (length l) (all_declared_by all)
      → FoundAll b l c (own d) (local_declaration d (inner g w ls b l c)) all after

  abbrev pub Is : Trees.Statement → Type 0
  Is st = CompletesStatement g w ls result own st

  abbrev walked : Trees.BlockItems → List Event
  walked items = walk_of_items g.untagged own items

  -- ---- items of blocks

  abbrev pub CompletesItem : Trees.BlockItem → Type 0
  CompletesItem item = (b : List (List Bound)) (l : List ALocal) (c : Lists) (all : Statements) (after : Scope) (loop switch : Bool)
      → IsFit g c b → IsBefore g c (Seen g w ls (walk_of_item g.untagged own item)) → (more : List ALocal) × (ls ≡ l ++ more)
      → ErasesItem item (outer g w ls b) all after → AreTypedHere b loop switch all → AreNumbered (length l) (all_declared_by all)
      → FoundAll b l c (walk_of_item g.untagged own item) (item_in result item (inner g w ls b l c) loop switch) all after

  pub local_complete : (d : Trees.Declaration) → CompletesDeclaration d → CompletesItem (Trees.local d)
  unfolding item_in
  local_complete d i b l c all after loop switch f e p h k n =
      let z = i b l c all after loop switch f e p h k n in
      record { blocks = z.blocks; is_after = z.is_after; performs = z.performs; fit = z.fit }

  pub statement_complete : (a : Trees.Statement) → Is a → CompletesItem (Trees.statement a)
  unfolding item_in
  statement_complete a i b l c all after loop switch f e p h k n =
      let k : AreTypedHere b loop switch (Typed.and_statement h.0 Typed.no_statements) = subst (AreTypedHere b loop switch) h.1 k in
      let n : AreNumbered (length l) (all_declared h.0 ++ []) = subst (λ all. AreNumbered (length l) (all_declared_by all)) h.1 n in
      let z = i b l c h.0 loop switch f e p h.2 k.0 (numbered_left (length l) (all_declared h.0) [] n) in
      made z
    where
      made : Performs g w ls c l (walk_of_statement g.untagged own a) (all_declared h.0) (performed result a (inner g w ls b l c) loop switch) h.0 b
          → FoundAll b l c (walk_of_statement g.untagged own a) (item_in result (Trees.statement a) (inner g w ls b l c) loop switch) all after
      made z = record {
        blocks = b;
        is_after = h.3;
        performs = record {
          lists = z.lists;
          locals = z.locals;
          is = ap (λ r. r >>= λ st. ok (Typed.and_statement st.0 Typed.no_statements, st.1)) z.is
              ∙ ap (λ all. ok (all, inner g w ls b z.locals z.lists)) (sym h.1);
          after = z.after;
          count = z.count ∙ ap (λ all. length l + length all) (sym (append-nil (all_declared h.0)) ∙ sym (ap all_declared_by h.1));
          rest = z.rest;
        };
        fit = fit_after g c z.lists b (walk_of_statement g.untagged own a) z.after f;
      }

  -- ---- several items

  pub record FoundItems (l : List ALocal) (c : Lists) (all : List Event) (r : Performed Statements) (found : Statements) : Type 0 where
    pub blocks : List (List Bound)
    pub performs : Performs g w ls c l all (all_declared_by found) r found blocks

  abbrev pub CompletesItems : Trees.BlockItems → Type 0
  CompletesItems items = (b : List (List Bound)) (l : List ALocal) (c : Lists) (all : Statements) (loop switch : Bool)
      → IsFit g c b → IsBefore g c (Seen g w ls (walked items)) → (more : List ALocal) × (ls ≡ l ++ more)
      → EraseItems items (outer g w ls b) all → AreTypedHere b loop switch all → AreNumbered (length l) (all_declared_by all)
      → FoundItems l c (walked items) (items_in result items (inner g w ls b l c) loop switch) all

  pub no_items_complete : CompletesItems Trees.no_block_items
  unfolding items_in
  no_items_complete b l c all loop switch f e p h k n = record {
    blocks = b;
    performs = record {
      lists = c;
      locals = l;
      is = ap (λ all. ok (all, inner g w ls b l c)) (sym h);
      after = none_after g c [] e refl refl refl;
      count = let z : all_declared_by all ≡ [] = ap all_declared_by h in let m = ap length z in omega (arith, m);
      rest = p;
    };
  }

  items_joined : (item : Trees.BlockItem) (more : Trees.BlockItems) (loop switch : Bool) (s t v : Scope) (x y : Statements)
      → item_in result item s loop switch ≡ Ok (x, t) → items_in result more t loop switch ≡ Ok (y, v)
      → items_in result (Trees.and_block_item item more) s loop switch ≡ Ok (followed_by x y, v)
  unfolding items_in
  items_joined item more loop switch s t v x y a b = rw (a, b) refl

  pub items_complete : (item : Trees.BlockItem) (more : Trees.BlockItems) → CompletesItem item → CompletesItems more
      → CompletesItems (Trees.and_block_item item more)
  items_complete item more i j b l c all loop switch f e p h k n =
      let k = typed_followed b loop switch h.0 h.1 (subst (AreTypedHere b loop switch) h.3 k) in
      let d : all_declared_by all ≡ all_declared_by h.0 ++ all_declared_by h.1 = ap all_declared_by h.3 ∙ declared_followed h.0 h.1 in
      let n = subst (AreNumbered (length l)) d n in
      let first = walk_of_item g.untagged own item in
      let z = i b l c h.0 h.2 loop switch f (left_seen g true in_full c (walk_of_item g.untagged own item) (walked more) e) p h.4 k.0
      (numbered_left (length l) (all_declared_by h.0) (all_declared_by h.1) n) in
      let q = z.performs in
      let m = j z.blocks q.locals q.lists h.1 loop switch z.fit
      (right_seen g true in_full c q.lists (walk_of_item g.untagged own item) (walked more) e q.after) q.rest
      (subst (λ s. EraseItems more s h.1) z.is_after h.5) k.1
      (numbered_right (length l) (length q.locals) (all_declared_by h.0) (all_declared_by h.1) q.count n) in
      let t = ap length d in
      let y = length-append (all_declared_by h.0) (all_declared_by h.1) in
      record {
        blocks = m.blocks;
        performs = record {
          lists = m.performs.lists;
          locals = m.performs.locals;
          is = items_joined item more loop switch (inner g w ls b l c) (inner g w ls z.blocks q.locals q.lists)
              (inner g w ls m.blocks m.performs.locals m.performs.lists) h.0 h.1 q.is m.performs.is
              ∙ ap (λ all. ok (all, inner g w ls m.blocks m.performs.locals m.performs.lists)) (sym h.3);
          after = then_seen g true in_full c q.lists m.performs.lists (walk_of_item g.untagged own item) (walked more) q.after m.performs.after;
          count = omega (arith, q.count, m.performs.count, t, y);
          rest = m.performs.rest;
        };
      }

  -- ---- blocks

  pub block_complete : (begin : ℕ) (items : Trees.BlockItems) (end : ℕ) → CompletesItems items → Is (Trees.block begin items end)
  unfolding performed
  block_complete begin items end i b l c t loop switch f e p h k n = by_statement g w ls result own (Trees.block begin items end) b l c loop switch t _ h.1
      (λ k n.
      let z = i ([] ∷ b) l c h.0 loop switch (fit_inside g c b f) e p h.2 k.1 n in
      let q = z.performs in
      record {
        lists = q.lists;
        locals = q.locals;
        is = ap (λ r. r >>= λ x. ok (Typed.block (declared_by x.0) x.0, leaving (inner g w ls b l c) x.1)) q.is;
        after = q.after;
        count = q.count;
        rest = q.rest;
      }) k n

  -- ---- `return`

  return_joined : (at : ℕ) (a : Trees.Expression) (semicolon : ℕ) (loop switch : Bool) (s t : Scope) (x y : Expression) → is_void result ≡ false
      → value_of_expression a s ≡ Ok (x, t) → returned_in at result x ≡ Ok y
      → performed result (Trees.return at (Some a) semicolon) s loop switch ≡ Ok (Typed.return (Some y), t)
  unfolding performed
  return_joined at a semicolon loop switch s t x y v k r = rw (v, k, r) refl

  returned_back : (at : ℕ) (b : List (List Bound)) (x : Expression) → CompleteNodes.Left (declared (outer g w ls b)) (place_in (outer g w ls b) at) x
      → IsConverted (typed x) result → returned_in at result (unconverted x) ≡ Ok x
  unfolding returned_in
  returned_back at b x o h =
      let a : assigns (type_of (unconverted x)) (null (unconverted x)) result ≡ true = rw (sym o.bare_type, sym o.null_same) h.0 in
      rw (a, CompleteNodes.back_to (declared (outer g w ls b)) (place_in (outer g w ls b) at) x o result h.1) refl

  pub return_complete : (at : ℕ) (a : Trees.Expression) (semicolon : ℕ) → Is (Trees.return at (Some a) semicolon)
  return_complete at a semicolon b l c t loop switch f e p h k n =
      by_statement g w ls result own (Trees.return at (Some a) semicolon) b l c loop switch t _ h.1
      (λ k n.
      let z = found_plain g w ls a b l c h.0 f e h.2 k.0 in
      let r = returned_back at b h.0 z.left k.1 in
      let v = no_void (bare_ty (typed h.0)) (is_null (bare (typed h.0))) result k.1.0 in
      record {
        lists = z.lists;
        locals = l;
        is = return_joined at a semicolon loop switch (inner g w ls b l c) (inner g w ls b l z.lists) (unconverted h.0) h.0 v z.is r;
        after = z.after;
        count = omega arith;
        rest = p;
      }) k n
