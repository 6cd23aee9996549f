-- What initializes the objects of a file that are none of literals: an initializer of the tree, in the scope where it stands (C99 6.7.8).
use Rattle.std.proofs.Common.{◌≡◌, ℕ, ◌+◌, sym, subst, List, [], ◌∷◌, ◌++◌, arith, inl, inr}
use Rattle.std.specs.Prelude.{◌⊎◌, Option, Some, None, slice_get}
use Rattle.std.specs.List.{AllByRecursion}
use Rattle.c_types.specs.Types.{CType}
use Rattle.c_ast.specs.Trees
use Rattle.c_ast.specs.WellFormed as Formed
use Rattle.c_typed.specs.References.{Reference, references_by_initial}
use Rattle.c_typed.specs.Trees as Typed
use Rattle.c_erasure.specs.Initializers.{IsInitializer, AreConstants}
use Rattle.c_erasure.specs.Noted.{Noted}
use Rattle.c_erasure.specs.Scopes.{ALocal, AnObject, Scope, declared}
use Rattle.c_erasure.specs.Statements.{HasConstants}
use Rattle.c_well_typed.proofs.WellMade.{IsWellMade}
use Rattle.c_well_typed.specs.Printable.Programs.{times}
use Rattle.c_well_typed.proofs.PrintableObjects.Counts.{times_both, occurs, occurs_both, IsIn, in_left, in_right, sum_of, sum_both}
use Rattle.c_well_typed.proofs.PrintableObjects.Literals.{Walk, IsLiteralObject, IsTextAt, IsLiteralPlace, Counts, IsFull, both_each}

some_is : {A : Type 0} (x y : A) → Some x ≡ Some y → x ≡ y
some_is x y h = cc

module _ (w : Walk) where
  -- an initializer of the tree in whose scope it is evaluated
  pub record IsSource (t : CType) (i : Typed.Initializer Noted) : Type 0 where
    pub tree : Trees.Expression
    pub scope : Scope
    pub types : List (List ℕ)
    pub full : IsFull w scope
    pub well : Formed.IsInitializer types tree
    pub erased : IsInitializer tree scope t i
    pub constants : AreConstants (declared scope) i

  -- or nothing is named
  abbrev pub IsFilled : CType → Typed.Initializer Noted → Type 0
  IsFilled t i = (i ≡ Typed.parts []) ⊎ IsSource t i

  pub record IsSourced (o : AnObject) : Type 0 where
    pub own : o.literal ≡ None
    pub made : IsWellMade w.count o.ty
    pub filled : (i : Typed.Initializer Noted) → o.initial ≡ Some i → IsFilled o.ty i

  pub filled_by : (types : List (List ℕ)) (v : Option (ℕ × Trees.Expression)) (s : Scope) (t : CType) (i : Typed.Initializer Noted) → IsFull w s
      → Formed.IsValue types v → HasConstants s t v i → IsFilled t i
  filled_by types None s t i full well h = inl h
  filled_by types (Some v) s t i full well h =
      inr (record { tree = v.1; scope = s; types = types; full = full; well = well; erased = h.0; constants = h.1 })

  -- ---- how often the initializers of objects refer to that object

  abbrev pub weight_of : Option AnObject → ℕ
  weight_of None = 0
  weight_of (Some o) = times w.number (references_by_initial o.initial)

  abbrev pub weight : ℕ → ℕ
  weight m = weight_of (slice_get w.file.objects m)

  -- an object that begins there is one of a literal, or among those of a list
  abbrev pub IsPlaced : List ℕ → ℕ → Type 0
  IsPlaced L p = (m : ℕ) (o : AnObject) → slice_get w.file.objects m ≡ Some o → o.first ≡ p → IsLiteralObject o ⊎ (IsIn m L × IsSourced o)

  -- ---- a part of the tree in a function with such locals

  module _ (locals : List ALocal) where
    abbrev pub IsMadeLocal : ℕ → Type 0
    IsMadeLocal k = (l : ALocal) → slice_get locals k ≡ Some l → IsWellMade w.count l.ty

    -- what has these literals and `static` locals stands for what refers to these objects and declares these locals
    pub record Walked (places : List ℕ) (refers : List Reference) (declares : List ℕ) : Type 0 where
      pub origins : List ℕ
      pub sum : IsTextAt w → times w.number refers + sum_of weight origins ≡ occurs w.at places
      pub placed : (L : List ℕ) → ((m : ℕ) → IsIn m origins → IsIn m L) → AllByRecursion (IsPlaced L) places
      pub made : AllByRecursion IsMadeLocal declares

    pub both : {p q : List ℕ} {a b : List Reference} {j k : List ℕ} → Walked p a j → Walked q b k → Walked (p ++ q) (a ++ b) (j ++ k)
    both {p} {q} {a} {b} {j} {k} x y = record {
      origins = x.origins ++ y.origins;
      sum = λ t.
          let s = x.sum t in
          let u = y.sum t in
          let o = occurs_both w.at p q in
          let r = times_both w.number a b in
          let v = sum_both weight x.origins y.origins in
          omega (arith, s, u, o, r, v);
      placed = λ L h. both_each (IsPlaced L) p q (x.placed L (λ m i. h m (in_left m x.origins y.origins i)))
          (y.placed L (λ m i. h m (in_right m x.origins y.origins i)));
      made = both_each IsMadeLocal j k x.made y.made;
    }

    pub literal_places : (L places : List ℕ) → AllByRecursion (IsLiteralPlace w) places → AllByRecursion (IsPlaced L) places
    literal_places L [] h = tt
    literal_places L (p ∷ places) h = ((λ m o e first. inl (h.0 m o e first)), literal_places L places h.1)

    pub of_counts : {p : List ℕ} (a : List Reference) → Counts w p (times w.number a) → Walked p a []
    of_counts {p} a c = record {
      origins = [];
      sum = λ t. let s = c.sum t in omega (arith, s);
      placed = λ L h. literal_places L p c.literals;
      made = tt;
    }

    pub nothing : Walked [] [] []
    nothing = record { origins = []; sum = λ t. omega arith; placed = λ L h. tt; made = tt }

    pub same : {p : List ℕ} {a b : List Reference} {j k : List ℕ} → a ≡ b → j ≡ k → Walked p b k → Walked p a j
    same {p} {a} {b} {j} {k} e f x = subst (λ a. Walked p a j) (sym e) (subst (λ j. Walked p b j) (sym f) x)

    -- the same with one more local
    pub with_local : {p : List ℕ} {a : List Reference} (k : ℕ) → IsMadeLocal k → Walked p a [] → Walked p a (k ∷ [])
    with_local k m x = record { origins = x.origins; sum = x.sum; placed = x.placed; made = (m, tt) }
