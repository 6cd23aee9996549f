-- An integer constant expression refers to no object and no function, nor does the size of a record, and a conversion refers to what its operand does
-- (C99 6.6).
use Rattle.std.proofs.Common.{◌≡◌, ◌≢◌, ◌∙◌, ℕ, Bool, true, false, refl, sym, cond, List, [], ◌++◌}
use Rattle.lay_base.specs.declared.place.Place.{Place}
use Rattle.c_types.specs.declared.ty.IntKind.TheVariants.{UInt}
use Rattle.c_types.specs.Types.{CType, integer}
use Rattle.c_types.specs.Sameness.{same_type}
use Rattle.c_typed.specs.declared.operators.UnaryOp.{UnaryOp}
use Rattle.c_typed.specs.Trees as Trees
use Rattle.c_typed.specs.Constants.{Constant, none, undefined, valued, converted_constant, unary_constant, with_both, decided_by, chosen, negated, constant_of}
use Rattle.c_typed.specs.Constants.{constant_in}
use Rattle.c_typed.specs.References.{Reference, references, references_by_node}
use Rattle.c_erasure.specs.Noted.{Note, nothing, size_of, Expression, value, unconverted}
use Rattle.c_erasure.specs.Recognised.{is_constant_of, is_size, as_unsigned_from, as_unsigned}

-- ---- parts of constants

of_converted : (t : CType) (c : Constant) → converted_constant t c ≢ none → c ≢ none
of_converted (integer kind) none h e = h refl
of_converted (integer kind) undefined h e = cc
of_converted (integer kind) (valued v) h e = cc
of_converted t c h e = absurd (h refl)

of_unary : (op : UnaryOp) (c : Constant) → unary_constant op c ≢ none → c ≢ none
of_unary op none h e = h refl
of_unary op undefined h e = cc
of_unary op (valued v) h e = cc

of_both : (c d : Constant) (f : ℕ → ℕ → Constant) → with_both c d f ≢ none → (c ≢ none) × (d ≢ none)
of_both none d f h = absurd (h refl)
of_both undefined none f h = absurd (h refl)
of_both (valued v) none f h = absurd (h refl)
of_both undefined undefined f h = (λ e. cc, λ e. cc)
of_both undefined (valued w) f h = (λ e. cc, λ e. cc)
of_both (valued v) undefined f h = (λ e. cc, λ e. cc)
of_both (valued v) (valued w) f h = (λ e. cc, λ e. cc)

of_decided : (b : Bool) (c d : Constant) → decided_by b c d ≢ none → (c ≢ none) × (d ≢ none)
of_decided b none d h = absurd (h refl)
of_decided b undefined none h = absurd (h refl)
of_decided b (valued v) none h = absurd (h refl)
of_decided b undefined undefined h = (λ e. cc, λ e. cc)
of_decided b undefined (valued w) h = (λ e. cc, λ e. cc)
of_decided b (valued v) undefined h = (λ e. cc, λ e. cc)
of_decided b (valued v) (valued w) h = (λ e. cc, λ e. cc)

of_chosen : (c d e : Constant) → chosen c d e ≢ none → (c ≢ none) × (d ≢ none) × (e ≢ none)
of_chosen none d e h = absurd (h refl)
of_chosen undefined none e h = absurd (h refl)
of_chosen (valued v) none e h = absurd (h refl)
of_chosen undefined undefined none h = absurd (h refl)
of_chosen undefined (valued w) none h = absurd (h refl)
of_chosen (valued v) undefined none h = absurd (h refl)
of_chosen (valued v) (valued w) none h = absurd (h refl)
of_chosen undefined undefined undefined h = (λ e. cc, λ e. cc, λ e. cc)
of_chosen undefined undefined (valued x) h = (λ e. cc, λ e. cc, λ e. cc)
of_chosen undefined (valued w) undefined h = (λ e. cc, λ e. cc, λ e. cc)
of_chosen undefined (valued w) (valued x) h = (λ e. cc, λ e. cc, λ e. cc)
of_chosen (valued v) undefined undefined h = (λ e. cc, λ e. cc, λ e. cc)
of_chosen (valued v) undefined (valued x) h = (λ e. cc, λ e. cc, λ e. cc)
of_chosen (valued v) (valued w) undefined h = (λ e. cc, λ e. cc, λ e. cc)
of_chosen (valued v) (valued w) (valued x) h = (λ e. cc, λ e. cc, λ e. cc)

of_negated : (c : Constant) → negated c ≢ none → c ≢ none
of_negated none h e = h refl
of_negated undefined h e = cc
of_negated (valued v) h e = cc

-- ---- constants

two_alone : (a b : List Reference) → a ≡ [] → b ≡ [] → a ++ b ≡ []
two_alone a b e f = rw (e, f) refl

mutual
  pub constant_alone : (e : Trees.Expression CType) → constant_of e ≢ none → references e ≡ []
  constant_alone (Trees.expression t at node) h = node_alone t node h

  node_alone : (t : CType) (node : Trees.Node CType) → constant_in t node ≢ none → references_by_node node ≡ []
  node_alone t (Trees.constant v) h = refl
  node_alone t (Trees.convert e written) h = constant_alone e (of_converted t (constant_of e) h)
  node_alone t (Trees.unary op x) h = constant_alone x (of_unary op (constant_of x) h)
  node_alone t (Trees.binary op x y) h =
      let c = of_both (constant_of x) (constant_of y) _ h in two_alone (references x) (references y) (constant_alone x c.0) (constant_alone y c.1)
  node_alone t (Trees.compare op x y) h =
      let c = of_both (constant_of x) (constant_of y) _ h in two_alone (references x) (references y) (constant_alone x c.0) (constant_alone y c.1)
  node_alone t (Trees.both x y) h =
      let c = of_decided false (constant_of x) (constant_of y) h in
      two_alone (references x) (references y) (constant_alone x c.0) (constant_alone y c.1)
  node_alone t (Trees.either x y) h =
      let c = of_decided true (constant_of x) (constant_of y) h in
      two_alone (references x) (references y) (constant_alone x c.0) (constant_alone y c.1)
  node_alone t (Trees.not x) h = constant_alone x (of_negated (constant_of x) h)
  node_alone t (Trees.choose x y z) h =
      let c = of_chosen (constant_of x) (constant_of y) (constant_of z) h in
      two_alone (references x ++ references y) (references z) (two_alone (references x) (references y) (constant_alone x c.0) (constant_alone y c.1))
      (constant_alone z c.2)
  node_alone t node h = absurd (h refl)

-- ---- sizes, and conversions

unless_noted_same : (t : CType) (note : Note) (at : Place) (e : Expression)
    → references (unconverted (Trees.expression (record { ty = t; note = note }) at (Trees.convert e false))) ≡ references e
unless_noted_same t nothing at e = refl
unless_noted_same t (size_of u by) at e = refl

pub unconverted_same : (e : Expression) → references (unconverted e) ≡ references e
unconverted_same (Trees.expression t at (Trees.convert e false)) = unless_noted_same t.ty t.note at e
unconverted_same (Trees.expression t at (Trees.convert e true)) = refl
unconverted_same (Trees.expression t at node) = refl

constant_of_alone : (r : ℕ) (e : Expression) → is_constant_of r e ≡ true → references e ≡ []
constant_of_alone r (Trees.expression t at (Trees.constant v)) h = refl
constant_of_alone r e h = cc

pub size_alone : (r : ℕ) (e : Expression) → is_size r e ≡ true → references e ≡ []
size_alone r e h = sym (unconverted_same e) ∙ constant_of_alone r (unconverted e) h

unsigned_from_same : (e : Expression) → references (as_unsigned_from e) ≡ references e
unsigned_from_same (Trees.expression t at node) = by_type (same_type t.ty (integer UInt))
  where
    by_type : (b : Bool) → references (cond b (Trees.expression t at node) (value (integer UInt) at (Trees.convert (Trees.expression t at node) false)))
        ≡ references_by_node node
    by_type true = refl
    by_type false = refl

pub unsigned_same : (e : Expression) → references (as_unsigned e) ≡ references e
unsigned_same e = unsigned_from_same (unconverted e) ∙ unconverted_same e
