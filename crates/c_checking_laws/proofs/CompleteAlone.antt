-- What follows from completeness: a tree has at most one typed tree, and a fault comes only where there is none.
use Rattle.std.proofs.Common.{◌≡◌, List, length, sym, ap, ◌∙◌}
use Rattle.std.specs.Prelude.{Ok, Err}
use Rattle.c_types.specs.Types.{CType}
use Rattle.c_ast.specs.Trees
use Rattle.c_typed.specs.declared.program.MentionKind.TheVariants.{Named}
use Rattle.c_erasure.specs.Broken.{Fault}
use Rattle.c_erasure.specs.Erasure.{IsTypedThing, Erases, IsTypeName, place_of_name}
use Rattle.c_erasure.specs.Noted.{Thing}
use Rattle.c_erasure.specs.Scopes.{ALocal, FileScope, Scope, IsMentioned}
use Rattle.c_erasure.specs.Checking.Answers.{Checked, moved}
use Rattle.c_erasure.specs.Checking.Finding.{find}
use Rattle.c_checking_laws.proofs.Results.{ok}
use Rattle.c_checking_laws.proofs.CompleteWalk.{Event}
use Rattle.c_checking_laws.proofs.CompletePart.{whole, Lists, part, IsWhole, IsBefore, Done, BlocksFit}
use Rattle.c_checking_laws.proofs.CompleteOperands.{Seen}
use Rattle.c_checking_laws.proofs.CompleteDeclarators.{SeenType}
use Rattle.c_checking_laws.proofs.CompleteTrees.{complete, complete_type}

answered : {A : Type 0} (x y : A) → ok x ≡ Ok y → x ≡ y
answered x y h = cc

one_answer : {A : Type 0} {g : FileScope} {c : Lists} {w : List Event} {r : Checked A} {a b : A} → Done g c w r a → Done g c w r b → a ≡ b
one_answer p q = ap (λ z. z.0) (answered _ _ (sym p.is ∙ q.is))

no_fault : {A : Type 0} {g : FileScope} {c : Lists} {w : List Event} {r : Checked A} {a : A} (e : Fault) → Done g c w r a → r ≡ Err e → ⊥
no_fault e p h = let q = sym p.is ∙ h in cc

module _ (g : FileScope) (w : IsWhole g) (ls : List ALocal) (s : Scope) (c : Lists) (f : BlocksFit g (length c.records) s.blocks) where
  pub record IsTypedTree (a : Trees.Expression) (th : Thing) : Type 0 where
    pub erases : Erases a (whole g ls s) th
    pub typed : IsTypedThing (whole g ls s) th

  pub one_typed_tree : (a : Trees.Expression) → IsBefore g c (Seen g w ls s a) → (x y : Thing) → IsTypedTree a x → IsTypedTree a y → x ≡ y
  one_typed_tree a b x y p q = one_answer (complete g w ls a s c x f b p.erases p.typed).done (complete g w ls a s c y f b q.erases q.typed).done

  pub no_typed_tree : (a : Trees.Expression) → IsBefore g c (Seen g w ls s a) → (e : Fault) → find a (moved s (part g c)) ≡ Err e → (x : Thing)
      → IsTypedTree a x → ⊥
  no_typed_tree a b e h x p = no_fault e (complete g w ls a s c x f b p.erases p.typed).done h

  pub one_type : (n : Trees.TypeName) → IsBefore g c (SeenType g w ls s n) → (t u : CType)
      → IsTypeName (whole g ls s) n t → IsMentioned (whole g ls s) Named t (place_of_name n)
      → IsTypeName (whole g ls s) n u → IsMentioned (whole g ls s) Named u (place_of_name n) → t ≡ u
  one_type n b t u p m q l = one_answer (complete_type g w ls n s c t f b p m) (complete_type g w ls n s c u f b q l)
