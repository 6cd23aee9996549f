-- Completeness of statements: the typed statement is the one that is found, where initializers and static objects of blocks are (C99 6.8).
use Rattle.std.proofs.Common.{◌≡◌, ◌≢◌, ℕ, Bool, true, false, List, [], ◌∷◌, ◌++◌, length, refl, sym, ap, ◌∙◌, subst, inl, inr}
use Rattle.std.specs.Prelude.{◌⊎◌, Some, None, Ok}
use Rattle.c_types.specs.Types.{CType}
use Rattle.c_ast.specs.Trees
use Rattle.c_ast.specs.Places.{first_specifiers}
use Rattle.c_typed.specs.TypedStatements.{all_declared_by}
use Rattle.c_erasure.specs.Erasure.{IsBase, IsOne}
use Rattle.c_erasure.specs.Scopes.{ALocal, Bound, FileScope, Scope, in_full}
use Rattle.c_erasure.specs.Specifiers.{Storage, no_storage, is_static, is_auto, is_register, storage_of}
use Rattle.c_erasure.specs.Statements.{Statements, DeclareAll}
use Rattle.c_erasure.specs.Checking.Answers.{Answer, ◌>>=◌}
use Rattle.c_erasure.specs.Checking.Declaring.{base_kind}
use Rattle.c_erasure.specs.Checking.Finding.{base_type, one_of}
use Rattle.c_erasure.specs.Checking.Statements.{in_scope, declare_all, local_storage, some_declared, local_declaration}
use Rattle.c_checking_laws.proofs.CompleteWalk.{Event, walk_of_specifiers}
use Rattle.c_checking_laws.proofs.CompletePart.{Lists, part, IsWhole, IsBefore, IsAfter, left_seen, right_seen, then_seen}
use Rattle.c_checking_laws.proofs.CompleteFit.{IsFit, fit_after}
use Rattle.c_checking_laws.proofs.CompleteDeclarators.{base_complete}
use Rattle.c_checking_laws.proofs.CompleteTrees.{complete_one}
use Rattle.c_checking_laws.proofs.CompleteArms
use Rattle.c_checking_laws.proofs.CompleteStatements
use Rattle.c_checking_laws.proofs.CompleteStatements.{inner, outer, Seen, Performs, AreNumbered}
use Rattle.c_checking_laws.proofs.CompleteBlocks
use Rattle.c_checking_laws.proofs.CompleteBlocks.{FoundAll, AreTypedHere, CompletesDeclaration, CompletesItem, CompletesItems, Is}
use Rattle.c_checking_laws.proofs.CompleteFor.{for_complete}
use Rattle.c_checking_laws.proofs.CompleteLocals.{walk_of_locals, CompletesInitializer, locals_complete}

-- `statics` says what stands in declarators of objects that live as long as the program
abbrev pub walk_by_storage : FileScope → (statics : List Trees.InitDeclarator → List Event) → Storage → List Trees.InitDeclarator → List Event
walk_by_storage g statics is_static all = statics all
walk_by_storage g statics words all = walk_of_locals g.untagged g.objects all

abbrev pub walk_of_declaration : FileScope → (statics : List Trees.InitDeclarator → List Event) → Trees.Declaration → List Event
walk_of_declaration g statics d = walk_of_specifiers g.untagged d.specs ++ walk_by_storage g statics (storage_of d.specs) d.all

some_back : {A : Type 0} (at : ℕ) (all : List Trees.InitDeclarator) (r : Answer A) → all ≢ [] → some_declared at all r ≡ r
some_back at [] r h = absurd (h refl)
some_back at (d ∷ all) r h = refl

module _ (g : FileScope) (w : IsWhole g) (ls : List ALocal) (result : CType) (statics : List Trees.InitDeclarator → List Event) where
  abbrev own : Trees.Declaration → List Event
  own d = walk_of_declaration g statics d

  -- objects of a block that live as long as the program
  abbrev pub CompletesStatics : Type 0
  CompletesStatics = (all : List Trees.InitDeclarator) (b : List (List Bound)) (l : List ALocal) (c : Lists) (base : CType) (found : Statements) (after : Scope)
      → IsFit g c b → IsBefore g c (Seen g w ls (statics all)) → (more : List ALocal) × (ls ≡ l ++ more)
      → DeclareAll all (outer g w ls b) true base found after
      → FoundAll g w ls result own b l c (statics all) (declare_all all (inner g w ls b l c) true base) found after

  module _ (initials : (a : Trees.Expression) → CompletesInitializer g w ls a) (static_objects : CompletesStatics) where
    Declared : Trees.Declaration → Bool → List Event → List (List Bound) → List ALocal → Lists → Statements → Scope → Type 0
    Declared d static all b l c found after = FoundAll g w ls result own b l c (walk_of_specifiers g.untagged d.specs ++ all)
        (in_scope (inner g w ls b l c) (base_type (base_kind d.specs) (first_specifiers d.specs) (part g c) (one_of d.specs (inner g w ls b l c)))
        >>= λ x. some_declared (first_specifiers d.specs) d.all (declare_all d.all x.1 static x.0)) found after

    joined : (d : Trees.Declaration) (static : Bool) (all : List Event) (b : List (List Bound)) (l : List ALocal) (c : Lists) (m : Lists) (base : CType)
        (found : Statements) (after : Scope) → d.all ≢ []
        → base_type (base_kind d.specs) (first_specifiers d.specs) (part g c) (one_of d.specs (inner g w ls b l c)) ≡ Ok (base, part g m)
        → IsAfter g c (Seen g w ls (walk_of_specifiers g.untagged d.specs)) m
        → FoundAll g w ls result own b l m all (declare_all d.all (inner g w ls b l m) static base) found after
        → Declared d static all b l c found after
    unfolding Declared
    joined d static all b l c m base found after s k a z = record {
      blocks = z.blocks;
      is_after = z.is_after;
      performs = record {
        lists = z.performs.lists;
        locals = z.performs.locals;
        is = ap (λ r. in_scope (inner g w ls b l c) r >>= λ x. some_declared (first_specifiers d.specs) d.all (declare_all d.all x.1 static x.0)) k
            ∙ some_back (first_specifiers d.specs) d.all (declare_all d.all (inner g w ls b l m) static base) s ∙ z.performs.is;
        after = then_seen g true in_full c m z.performs.lists (walk_of_specifiers g.untagged d.specs) all a z.performs.after;
        count = z.performs.count;
        rest = z.performs.rest;
      };
      fit = z.fit;
    }

    abbrev Expected : Storage → Trees.Declaration → List (List Bound) → List ALocal → Lists → Statements → Scope → Type 0
    Expected v d b l c found after = FoundAll g w ls result own b l c (walk_of_specifiers g.untagged d.specs ++ walk_by_storage g statics v d.all)
        (local_storage (first_specifiers d.specs) v (λ static.
        in_scope (inner g w ls b l c) (base_type (base_kind d.specs) (first_specifiers d.specs) (part g c) (one_of d.specs (inner g w ls b l c)))
        >>= λ x. some_declared (first_specifiers d.specs) d.all (declare_all d.all x.1 static x.0))) found after

    of_locals : (d : Trees.Declaration) (b : List (List Bound)) (l : List ALocal) (c : Lists) (base : CType) (found : Statements) (after : Scope)
        (loop switch : Bool)
        → IsFit g c b → IsBefore g c (Seen g w ls (walk_of_specifiers g.untagged d.specs ++ walk_of_locals g.untagged g.objects d.all))
        → (more : List ALocal) × (ls ≡ l ++ more) → IsBase (IsOne (outer g w ls b) d.specs) d.specs base → d.all ≢ []
        → DeclareAll d.all (outer g w ls b) false base found after → AreTypedHere g w ls result own b loop switch found
        → AreNumbered (length l) (all_declared_by found) → Declared d false (walk_of_locals g.untagged g.objects d.all) b l c found after
    of_locals d b l c base found after loop switch f e p h s i k n =
        let z = base_complete g w ls d.specs (complete_one g w ls d.specs) (inner g w ls b l c) c base f.complete
        (left_seen g true in_full c (walk_of_specifiers g.untagged d.specs) (walk_of_locals g.untagged g.objects d.all) e) h in
        joined d false (walk_of_locals g.untagged g.objects d.all) b l c z.lists base found after s z.is z.after
        (locals_complete g w ls result own initials d.all b l z.lists base found after loop switch
        (fit_after g c z.lists b (walk_of_specifiers g.untagged d.specs) z.after f)
        (right_seen g true in_full c z.lists (walk_of_specifiers g.untagged d.specs) (walk_of_locals g.untagged g.objects d.all) e z.after) p i k n)

    of_statics : (d : Trees.Declaration) (b : List (List Bound)) (l : List ALocal) (c : Lists) (base : CType) (found : Statements) (after : Scope)
        → IsFit g c b → IsBefore g c (Seen g w ls (walk_of_specifiers g.untagged d.specs ++ statics d.all))
        → (more : List ALocal) × (ls ≡ l ++ more) → IsBase (IsOne (outer g w ls b) d.specs) d.specs base → d.all ≢ []
        → DeclareAll d.all (outer g w ls b) true base found after → Declared d true (statics d.all) b l c found after
    of_statics d b l c base found after f e p h s i =
        let z = base_complete g w ls d.specs (complete_one g w ls d.specs) (inner g w ls b l c) c base f.complete
        (left_seen g true in_full c (walk_of_specifiers g.untagged d.specs) (statics d.all) e) h in
        joined d true (statics d.all) b l c z.lists base found after s z.is z.after
        (static_objects d.all b l z.lists base found after (fit_after g c z.lists b (walk_of_specifiers g.untagged d.specs) z.after f)
        (right_seen g true in_full c z.lists (walk_of_specifiers g.untagged d.specs) (statics d.all) e z.after) p i)

    pub declaration_complete : (d : Trees.Declaration) → CompletesDeclaration g w ls result own d
    unfolding Declared
    declaration_complete d b l c found after loop switch f e p h k n = by_storage h.3
      where
        out : (v : Storage) → storage_of d.specs ≡ v → Expected v d b l c found after
            → FoundAll g w ls result own b l c (own d) (local_declaration d (inner g w ls b l c)) found after
        out v q z = subst (λ v. Expected v d b l c found after) (sym q) z

        before : (v : Storage) → storage_of d.specs ≡ v
            → IsBefore g c (Seen g w ls (walk_of_specifiers g.untagged d.specs ++ walk_by_storage g statics v d.all))
        before v q = subst (λ v. IsBefore g c (Seen g w ls (walk_of_specifiers g.untagged d.specs ++ walk_by_storage g statics v d.all))) q e

        by_word : (storage_of d.specs ≡ no_storage) ⊎ (storage_of d.specs ≡ is_auto) ⊎ (storage_of d.specs ≡ is_register)
            → DeclareAll d.all (outer g w ls b) false h.0 found after
            → FoundAll g w ls result own b l c (own d) (local_declaration d (inner g w ls b l c)) found after
        by_word (inl q) i = out no_storage q (of_locals d b l c h.0 found after loop switch f (before no_storage q) p h.1 h.2 i k n)
        by_word (inr (inl q)) i = out is_auto q (of_locals d b l c h.0 found after loop switch f (before is_auto q) p h.1 h.2 i k n)
        by_word (inr (inr q)) i = out is_register q (of_locals d b l c h.0 found after loop switch f (before is_register q) p h.1 h.2 i k n)

        by_storage : ((storage_of d.specs ≡ is_static) × DeclareAll d.all (outer g w ls b) true h.0 found after)
            ⊎ (((storage_of d.specs ≡ no_storage) ⊎ (storage_of d.specs ≡ is_auto) ⊎ (storage_of d.specs ≡ is_register))
            × DeclareAll d.all (outer g w ls b) false h.0 found after)
            → FoundAll g w ls result own b l c (own d) (local_declaration d (inner g w ls b l c)) found after
        by_storage (inl i) = out is_static i.0 (of_statics d b l c h.0 found after f (before is_static i.0) p h.1 h.2 i.1)
        by_storage (inr i) = by_word i.0 i.1

    -- ---- the recursion

    mutual
      pub statement : (st : Trees.Statement) → Is g w ls result own st
      statement (Trees.block left list right) = CompleteBlocks.block_complete g w ls result own left list right (items list)
      statement (Trees.evaluate None semicolon) = CompleteStatements.empty_complete g w ls result own semicolon
      statement (Trees.evaluate (Some a) semicolon) = CompleteStatements.evaluate_complete g w ls result own a semicolon
      statement (Trees.when at left a right one) = CompleteStatements.when_complete g w ls result own at left a right one (statement one)
      statement (Trees.choose at left a right one else other) =
          CompleteStatements.choose_complete g w ls result own at left a right one else other (statement one) (statement other)
      statement (Trees.while at left a right body) = CompleteStatements.while_complete g w ls result own at left a right body (statement body)
      statement (Trees.do_while at body while left a right semicolon) =
          CompleteStatements.do_while_complete g w ls result own at body while left a right semicolon (statement body)
      statement (Trees.for at left start test semicolon step right body) =
          for_complete g w ls result own at left start test semicolon step right body declaration_complete (statement body)
      statement (Trees.switch at left a right begin list end) =
          CompleteArms.switch_complete g w ls result own at left a right begin list end (switch_items list)
      statement (Trees.break at semicolon) = CompleteStatements.break_complete g w ls result own at semicolon
      statement (Trees.continue at semicolon) = CompleteStatements.continue_complete g w ls result own at semicolon
      statement (Trees.return at None semicolon) = CompleteStatements.return_nothing_complete g w ls result own at semicolon
      statement (Trees.return at (Some a) semicolon) = CompleteBlocks.return_complete g w ls result own at a semicolon

      pub item : (t : Trees.BlockItem) → CompletesItem g w ls result own t
      item (Trees.local d) = CompleteBlocks.local_complete g w ls result own d (declaration_complete d)
      item (Trees.statement a) = CompleteBlocks.statement_complete g w ls result own a (statement a)

      pub items : (t : Trees.BlockItems) → CompletesItems g w ls result own t
      items Trees.no_block_items = CompleteBlocks.no_items_complete g w ls result own
      items (Trees.and_block_item one more) = CompleteBlocks.items_complete g w ls result own one more (item one) (items more)

      pub switch_item : (t : Trees.SwitchItem) → CompleteArms.CompletesSwitchItem g w ls result own t
      switch_item (Trees.local_switch_item d) = CompleteArms.local_item_complete g w ls result own d (declaration_complete d)
      switch_item (Trees.labelled labels a) = CompleteArms.labelled_complete g w ls result own labels a (statement a)

      pub switch_items : (t : Trees.SwitchItems) → CompleteArms.CompletesSwitchItems g w ls result own t
      switch_items Trees.no_switch_items = CompleteArms.no_switch_items_complete g w ls result own
      switch_items (Trees.and_switch_item one more) = CompleteArms.switch_items_complete g w ls result own one more (switch_item one) (switch_items more)
