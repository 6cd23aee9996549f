-- What the marks of a part of the tree stand for in its file: structures, whose weight its nodes pay for, and names.
use Rattle.std.proofs.Common.{◌≡◌, ℕ, ◌+◌, ◌*◌, ◌≤◌, refl, sym, ◌∙◌, subst, List, [], ◌∷◌, ◌++◌, arith, inl, inr}
use Rattle.std.specs.Prelude.{◌⊎◌, Some, slice_get}
use Rattle.c_types.specs.Types.{CType, Record}
use Rattle.c_erasure.specs.Marks.{Mark, a_tag, an_end, a_name}
use Rattle.c_erasure.specs.Scopes.{a_function, Bound, defines, FileScope, AFunction, Tag}
use Rattle.c_erasure.specs.Units.{function}
use Rattle.c_well_typed.specs.ProgramWeights.Counted.{Kind}
use Rattle.c_well_typed.specs.ProgramWeights.Weights.{weight_of_record, weight_of_function}
use Rattle.c_well_typed.proofs.ProgramWeights.Initializers.{more_paid}
use Rattle.c_well_typed.proofs.ProgramWeights.Numbered.{IsAmong, among_left, among_right, among_either, at_all, at_both, at_is}

module _ (n : Kind → ℕ) (most : ℕ) (f : FileScope) where
  abbrev pub of_function : AFunction → ℕ
  of_function g = weight_of_function n (function f g)

  -- a name from there on; if it is that of a function that is defined, the function is among those
  abbrev pub IsKnown : List ℕ → ℕ → Type 0
  IsKnown functions from = (k : ℕ) × (b : Bound) × (slice_get f.names k ≡ Some b) × (b.from ≡ from)
      × ((j : ℕ) (t : CType) → b.how ≡ defines → b.entity ≡ a_function j t → IsAmong j functions)

  abbrev pub IsEnded : List ℕ → ℕ → Type 0
  IsEnded structures right = (r : ℕ) × (slice_get f.ends r ≡ Some right) × IsAmong r structures

  abbrev pub AreMarked : List ℕ → List ℕ → List Mark → Type 0
  AreMarked structures functions [] = Unit {0}
  AreMarked structures functions (a_tag t ∷ more) = AreMarked structures functions more
  AreMarked structures functions (an_end tag right ∷ more) = IsEnded structures right × AreMarked structures functions more
  AreMarked structures functions (a_name from ∷ more) = IsKnown functions from × AreMarked structures functions more

  -- so many nodes pay for some weight, and for the structures and functions that a part defines
  pub record Found (own : ℕ) (marks : List Mark) (nodes : ℕ) : Type 0 where
    pub structures : List ℕ
    pub functions : List ℕ
    pub marked : AreMarked structures functions marks
    pub each : (j : ℕ) (g : AFunction) → IsAmong j functions → slice_get f.functions j ≡ Some g → of_function g ≤ most * g.nodes
    pub paid : own + at_all (weight_of_record n) f.records structures + at_all of_function f.functions functions ≤ most * nodes

  longer : (s t a b : List ℕ) (marks : List Mark) → ((j : ℕ) → IsAmong j s → IsAmong j t) → ((j : ℕ) → IsAmong j a → IsAmong j b)
      → AreMarked s a marks → AreMarked t b marks
  longer s t a b [] h g m = tt
  longer s t a b (a_tag u ∷ marks) h g m = longer s t a b marks h g m
  longer s t a b (an_end tag right ∷ marks) h g m = ((m.0.0, m.0.1, h m.0.0 m.0.2), longer s t a b marks h g m.1)
  longer s t a b (a_name from ∷ marks) h g m =
      ((m.0.0, m.0.1, m.0.2, m.0.3, (λ j t e i. g j (m.0.4 j t e i))), longer s t a b marks h g m.1)

  joined_marks : (s a : List ℕ) (u v : List Mark) → AreMarked s a u → AreMarked s a v → AreMarked s a (u ++ v)
  joined_marks s a [] v h g = g
  joined_marks s a (a_tag t ∷ u) v h g = joined_marks s a u v h g
  joined_marks s a (an_end tag right ∷ u) v h g = (h.0, joined_marks s a u v h.1 g)
  joined_marks s a (a_name from ∷ u) v h g = (h.0, joined_marks s a u v h.1 g)

  pub nothing_found : (own nodes : ℕ) → own ≤ most * nodes → Found own [] nodes
  nothing_found own nodes h = record { structures = []; functions = []; marked = tt; each = λ j g h e. absurd h; paid = omega (arith, h) }

  pub none_found : (nodes : ℕ) → Found 0 [] nodes
  none_found nodes = nothing_found 0 nodes (omega arith)

  pub both_found : {o p : ℕ} {u v : List Mark} {i j : ℕ} → Found o u i → Found p v j → Found (o + p) (u ++ v) (i + j)
  both_found {o} {p} {u} {v} {i} {j} a b = record {
    structures = a.structures ++ b.structures;
    functions = a.functions ++ b.functions;
    marked = joined_marks (a.structures ++ b.structures) (a.functions ++ b.functions) u v
        (longer a.structures (a.structures ++ b.structures) a.functions (a.functions ++ b.functions) u
        (λ j h. among_left j a.structures b.structures h) (λ j h. among_left j a.functions b.functions h) a.marked)
        (longer b.structures (a.structures ++ b.structures) b.functions (a.functions ++ b.functions) v
        (λ j h. among_right j a.structures b.structures h) (λ j h. among_right j a.functions b.functions h) b.marked);
    each = λ j g h e. by_part j g e (among_either j a.functions b.functions h);
    paid = let e = at_both (weight_of_record n) f.records a.structures b.structures in
        let g = at_both of_function f.functions a.functions b.functions in
        let h = a.paid in
        let k = b.paid in omega (arith, e, g, h, k);
  }
    where
      by_part : (j : ℕ) (g : AFunction) → slice_get f.functions j ≡ Some g → IsAmong j a.functions ⊎ IsAmong j b.functions → of_function g ≤ most * g.nodes
      by_part j g e (inl h) = a.each j g h e
      by_part j g e (inr h) = b.each j g h e

  -- fewer weights, or more nodes
  pub found_in : {o : ℕ} {u : List Mark} {i : ℕ} (p j : ℕ) → p + most * i ≤ o + most * j → Found o u i → Found p u j
  found_in p j h a = record {
    structures = a.structures;
    functions = a.functions;
    marked = a.marked;
    each = a.each;
    paid = let k = a.paid in omega (arith, h, k);
  }

  pub more_nodes : {u : List Mark} {i : ℕ} (j : ℕ) → i ≤ j → Found 0 u i → Found 0 u j
  more_nodes {u} {i} j h a = found_in 0 j (let l = more_paid most i j h in omega (arith, l)) a

  pub two_found : {u v : List Mark} {i j : ℕ} → Found 0 u i → Found 0 v j → Found 0 (u ++ v) (i + j)
  two_found {u} {v} {i} {j} a b = found_in 0 (i + j) (omega arith) (both_found a b)

  pub tag_found : (t : Tag) → Found 0 (a_tag t ∷ []) 0
  tag_found t = record { structures = []; functions = []; marked = tt; each = λ j g h e. absurd h; paid = omega arith }

  -- a name that defines no function
  pub name_found : (from k : ℕ) (b : Bound) → slice_get f.names k ≡ Some b → b.from ≡ from
      → ((j : ℕ) (t : CType) → b.how ≡ defines → b.entity ≡ a_function j t → ⊥) → Found 0 (a_name from ∷ []) 0
  name_found from k b e h o = record {
    structures = [];
    functions = [];
    marked = ((k, b, e, h, (λ j t d i. absurd (o j t d i))), tt);
    each = λ j g h e. absurd h;
    paid = omega arith;
  }

  -- the end of a structure, whose weight is paid for
  pub end_found : {u : List Mark} {i : ℕ} (tag : List ℕ) (right r : ℕ) (rec : Record) → slice_get f.records r ≡ Some rec → slice_get f.ends r ≡ Some right
      → Found (weight_of_record n rec) u i → Found 0 (u ++ an_end tag right ∷ []) i
  end_found {u} {i} tag right r rec e h a = record {
    structures = r ∷ a.structures;
    functions = a.functions;
    marked = joined_marks (r ∷ a.structures) a.functions u (an_end tag right ∷ [])
        (longer a.structures (r ∷ a.structures) a.functions a.functions u (λ j g. inr g) (λ j g. g) a.marked) ((r, h, inl refl), tt);
    each = a.each;
    paid = let k = a.paid in
        let g = at_is (weight_of_record n) f.records r rec e in omega (arith, k, g);
  }

  -- the name of a function that is defined there, whose weight is paid for
  pub function_found : {u : List Mark} {i : ℕ} (left m k : ℕ) (b : Bound) (g : AFunction) → slice_get f.functions m ≡ Some g → slice_get f.names k ≡ Some b
      → b.from ≡ left → ((j : ℕ) (t : CType) → b.entity ≡ a_function j t → j ≡ m) → of_function g ≤ most * g.nodes
      → Found (of_function g) u i → Found 0 (u ++ a_name left ∷ []) i
  function_found {u} {i} left m k b g e h o is l a = record {
    structures = a.structures;
    functions = m ∷ a.functions;
    marked = joined_marks a.structures (m ∷ a.functions) u (a_name left ∷ [])
        (longer a.structures a.structures a.functions (m ∷ a.functions) u (λ j g. g) (λ j g. inr g) a.marked)
        ((k, b, h, o, (λ j t d i. inl (is j t i))), tt);
    each = λ j q i x. by_number j q x i;
    paid = let p = a.paid in
        let q = at_is of_function f.functions m g e in omega (arith, p, q);
  }
    where
      same : (p q : AFunction) → Some p ≡ Some q → p ≡ q
      same p q x = cc

      by_number : (j : ℕ) (q : AFunction) → slice_get f.functions j ≡ Some q → (j ≡ m) ⊎ IsAmong j a.functions → of_function q ≤ most * q.nodes
      by_number j q x (inl y) =
          subst (λ q. of_function q ≤ most * q.nodes) (same g q (sym e ∙ subst (λ j. slice_get f.functions j ≡ Some q) y x)) l
      by_number j q x (inr y) = a.each j q y x
