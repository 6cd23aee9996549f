-- A value of a typed tree is that of its part of the text, converted again.
use Rattle.std.proofs.Common.{◌≡◌, ◌≢◌, Bool, true, false, refl, sym, ap, ◌∙◌, subst}
use Rattle.lay_base.specs.declared.place.Place.{Place}
use Rattle.c_types.specs.Types.{CType}
use Rattle.c_types.specs.Sameness.{same_type}
use Rattle.c_types.proofs.SameTypes.{same_is, same_self}
use Rattle.c_typed.specs.Trees as Typed
use Rattle.c_typed.specs.Constants.{ty, is_null}
use Rattle.c_typed.specs.Typed.{Declared, bare, is_bare, bare_ty, IsTyped}
use Rattle.c_erasure.specs.Erasure.{typed}
use Rattle.c_erasure.specs.Noted.{Noted, Note, nothing, size_of, Expression}
use Rattle.c_erasure.specs.Noted.{value, type_of, unconverted, unless_noted}
use Rattle.c_erasure.specs.Checking.Nodes.{null, converted}
use Rattle.c_checking_laws.proofs.Values.{type_same, place_same}

-- ---- no note stands beside a conversion

abbrev pub is_unnoted : Note → Bool
is_unnoted nothing = true
is_unnoted (size_of t at) = false

-- what is left of a value is no conversion
abbrev pub IsBare : Expression → Type 0
IsBare x = is_bare (typed x) ≡ true

-- what is left of an operand: a value without a conversion, that converted again is the operand
pub record IsLeftOf (d : Declared) (x : Expression) (y : Expression) : Type 0 where
  pub is_typed : IsTyped d (typed y)
  pub is_bare : IsBare y
  pub again : converted (type_of x) y ≡ x
  pub bare_type : bare_ty (typed x) ≡ type_of y
  pub null_same : is_null (bare (typed x)) ≡ null y
  pub type_same : ty (typed x) ≡ type_of x

pub bare_same : (x : Expression) → IsBare x → bare (typed x) ≡ typed x
bare_same (Typed.expression t at (Typed.convert e false)) h = cc
bare_same (Typed.expression t at (Typed.convert e true)) h = refl
bare_same (Typed.expression t at node) h = refl

pub itself_again : (x : Expression) → converted (type_of x) x ≡ x
itself_again x = let e = same_self (type_of x) (type_of x) refl in rw e refl

pub left_itself : (d : Declared) (x : Expression) → IsTyped d (typed x) → IsBare x → IsLeftOf d x x
left_itself d x h b = record {
  is_typed = h;
  is_bare = b;
  again = itself_again x;
  bare_type = ap ty (bare_same x b) ∙ type_same x;
  null_same = ap is_null (bare_same x b);
  type_same = type_same x;
}

differ : (t u : CType) → t ≢ u → same_type u t ≡ false
differ t u h = by_test (same_type u t) refl
  where
    by_test : (b : Bool) → same_type u t ≡ b → b ≡ false
    by_test true e = absurd (h (sym (same_is u t e)))
    by_test false e = refl

again_converted : (d : Declared) (t : CType) (at : Place) (e : Expression) → IsTyped d (typed (value t at (Typed.convert e false)))
    → converted t e ≡ value t at (Typed.convert e false)
again_converted d t at e h =
    let f : same_type (type_of e) t ≡ false = differ t (type_of e) (λ q. h.2 (q ∙ sym (type_same e))) in
    rw (f, sym (place_same e), sym h.3) refl

pub left_converted : (d : Declared) (t : CType) (at : Place) (e : Expression) → IsTyped d (typed (value t at (Typed.convert e false)))
    → IsLeftOf d (value t at (Typed.convert e false)) e
left_converted d t at e h = record {
  is_typed = h.0;
  is_bare = h.1;
  again = again_converted d t at e h;
  bare_type = type_same e;
  null_same = refl;
  type_same = refl;
}

-- a value is typed where it is left
pub left_of : (d : Declared) (x : Expression) → IsTyped d (typed x) → IsBare (unconverted x) → IsLeftOf d x (unconverted x)
left_of d (Typed.expression t at (Typed.convert e false)) h b = by_note t.note t.ty refl
  where
    by_note : (n : Note) (u : CType) → t ≡ record { ty = u; note = n }
        → IsLeftOf d (Typed.expression t at (Typed.convert e false)) (unless_noted n e (Typed.expression t at (Typed.convert e false)))
    by_note nothing u q =
        subst (λ (t : Noted). IsTyped d (typed (Typed.expression t at (Typed.convert e false)))
        → IsLeftOf d (Typed.expression t at (Typed.convert e false)) e) (sym q)
        (λ h. left_converted d u at e h) h
    by_note (size_of v p) u q =
        let w : IsBare (unless_noted t.note e (Typed.expression t at (Typed.convert e false))) = b in
        let z : IsBare (unless_noted (size_of v p) e (Typed.expression t at (Typed.convert e false))) =
        subst (λ (n : Note). IsBare (unless_noted n e (Typed.expression t at (Typed.convert e false)))) (ap (λ (t : Noted). t.note) q) w in
        cc
left_of d (Typed.expression t at (Typed.convert e true)) h b = left_itself d _ h refl
left_of d (Typed.expression t at node) h b = left_itself d _ h refl
