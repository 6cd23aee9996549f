-- Objects of blocks that live as long as the program, one after the other, and all statements (C99 6.7, 6.8).
use Rattle.std.proofs.Common.{◌≡◌, ℕ, true, List, [], ◌∷◌, ◌++◌, length, refl, sym, ap, subst, arith}
use Rattle.std.specs.Prelude.{Option, Some, None, Ok, slice_get}
use Rattle.c_types.specs.Types.{CType}
use Rattle.c_ast.specs.declared.words.Spelling.{Spelling}
use Rattle.c_ast.specs.Trees
use Rattle.c_ast.specs.Places.{first_declarator}
use Rattle.c_typed.specs.Trees as Typed
use Rattle.c_typed.specs.TypedStatements.{all_declared_by}
use Rattle.c_erasure.specs.Declarators.{declared_name}
use Rattle.c_erasure.specs.Files.{IsTypedObject}
use Rattle.c_erasure.specs.Noted.{Noted}
use Rattle.c_erasure.specs.Scopes.{ALocal, AnObject, FileScope, Scope, in_full, with_name}
use Rattle.c_erasure.specs.Statements.{Statements}
use Rattle.c_erasure.specs.Checking.Statements.{declare_named, declare_all}
use Rattle.c_checking_laws.proofs.Results.{ok}
use Rattle.c_checking_laws.proofs.CompleteWalk.{Event, a_literal}
use Rattle.c_checking_laws.proofs.CompletePart.{IsWhole, IsBefore, IsAfter, none_after, left_seen, right_seen, then_seen}
use Rattle.c_checking_laws.proofs.CompleteStatements.{inner, Seen}
use Rattle.c_checking_laws.proofs.CompleteBlocks.{CompletesDeclaration, CompletesItems, Is}
use Rattle.c_checking_laws.proofs.CompleteLocals.{walk_of_declared, walk_of_initial}
use Rattle.c_checking_laws.proofs.CompleteBodies.{CompletesStatics, walk_of_declaration, declaration_complete, statement, items}
use Rattle.c_checking_laws.proofs.WholeFiles.CompleteWholes.{initials_complete}
use Rattle.c_checking_laws.proofs.WholeFiles.CompleteStatics.{Initial, Declarator, Object, static_named, static_complete}

-- an object stands at the beginning of its declarator
abbrev pub object_at : Trees.InitDeclarator → Option Spelling → List Event
object_at d None = []
object_at d (Some x) = a_literal (first_declarator d.declarator x.from) ∷ []

abbrev pub walk_of_statics : FileScope → List Trees.InitDeclarator → List Event
walk_of_statics g [] = []
walk_of_statics g (d ∷ more) = object_at d (declared_name d.declarator) ++ walk_of_declared g.untagged g.objects d
    ++ walk_of_initial g.untagged g.objects d.value ++ walk_of_statics g more

-- what objects of the file hold at first is well typed
abbrev pub AreTypedObjects : FileScope → Type 0
AreTypedObjects g = (k : ℕ) (o : AnObject) (i : Typed.Initializer Noted) → slice_get g.objects k ≡ Some o → o.initial ≡ Some i
    → IsTypedObject g o.ty i

module _ (g : FileScope) (w : IsWhole g) (typed : AreTypedObjects g) (ls : List ALocal) (result : CType) where
  abbrev pub walk_in_block : Trees.Declaration → List Event
  walk_in_block d = walk_of_declaration g (λ all. walk_of_statics g all) d

  joined : (d : Trees.InitDeclarator) (more : List Trees.InitDeclarator) (x : Spelling) (s t v : Scope) (base : CType) (rest : Statements)
      → declared_name d.declarator ≡ Some x → declare_named true s base d (Some x) ≡ Ok (Typed.no_statements, t)
      → declare_all more t true base ≡ Ok (rest, v) → declare_all (d ∷ more) s true base ≡ Ok (rest, v)
  unfolding declare_all
  joined d more x s t v base rest e p q = rw (e, p, q) refl

  pub statics_complete : CompletesStatics g w ls result (λ all. walk_of_statics g all)
  unfolding declare_all
  statics_complete [] b l c base found after f e p h = record {
    blocks = b;
    is_after = h.1;
    performs = record {
      lists = c;
      locals = l;
      is = ap (λ all. ok (all, inner g w ls b l c)) (sym h.0);
      after = none_after g c [] e refl refl refl;
      count = let m = ap length (ap all_declared_by h.0) in omega (arith, m);
      rest = p;
    };
    fit = f;
  }
  statics_complete (d ∷ all) b l c base found after f e p h =
      let x = h.0 in
      let t = h.1 in
      let n = h.2 in
      let own = Object g w ls d x ++ Declarator g w ls d ++ Initial g w ls d.value in
      let name : walk_of_statics g (d ∷ all) ≡ Object g w ls d x ++ Declarator g w ls d ++ Initial g w ls d.value ++ walk_of_statics g all =
      ap (λ o. object_at d o ++ Declarator g w ls d ++ Initial g w ls d.value ++ walk_of_statics g all) h.3.1 in
      let e : IsBefore g c (Seen g w ls (Object g w ls d x ++ Declarator g w ls d ++ Initial g w ls d.value ++ walk_of_statics g all)) =
      subst (λ u. IsBefore g c (Seen g w ls u)) name e in
      let z = static_complete g w ls b l c base d x t n typed f
      (left_seen g true in_full c (Object g w ls d x ++ Declarator g w ls d ++ Initial g w ls d.value) (walk_of_statics g all) e) h.3 h.4 in
      let q = statics_complete all (with_name b (static_named g w ls x t n)) l z.lists base found after z.fit
      (right_seen g true in_full c z.lists (Object g w ls d x ++ Declarator g w ls d ++ Initial g w ls d.value)
      (walk_of_statics g all) e z.after) p h.5 in
      let r = q.performs in
      let a : IsAfter g c (Seen g w ls (Object g w ls d x ++ Declarator g w ls d ++ Initial g w ls d.value ++ walk_of_statics g all)) r.lists =
      then_seen g true in_full c z.lists r.lists (Object g w ls d x ++ Declarator g w ls d ++ Initial g w ls d.value)
      (walk_of_statics g all) z.after r.after in
      record {
        blocks = q.blocks;
        is_after = q.is_after;
        performs = record {
          lists = r.lists;
          locals = r.locals;
          is = joined d all x (inner g w ls b l c) (inner g w ls (with_name b (static_named g w ls x t n)) l z.lists)
              (inner g w ls q.blocks r.locals r.lists)
              base found h.3.1 z.is r.is;
          after = subst (λ u. IsAfter g c (Seen g w ls u) r.lists) (sym name) a;
          count = r.count;
          rest = r.rest;
        };
        fit = q.fit;
      }

  -- ---- declarations in a block, and statements

  pub declarations_complete : (d : Trees.Declaration) → CompletesDeclaration g w ls result walk_in_block d
  declarations_complete d =
      declaration_complete g w ls result (λ all. walk_of_statics g all) (initials_complete g w ls) statics_complete d

  pub statements_complete : (st : Trees.Statement) → Is g w ls result walk_in_block st
  statements_complete st = statement g w ls result (λ all. walk_of_statics g all) (initials_complete g w ls) statics_complete st

  pub items_complete : (all : Trees.BlockItems) → CompletesItems g w ls result walk_in_block all
  items_complete all = items g w ls result (λ all. walk_of_statics g all) (initials_complete g w ls) statics_complete all
