-- Each local that a printable function declares is made by a scope: declarations stand in blocks alone.
use Rattle.std.proofs.Common.{◌≡◌, ℕ, zero, suc, ◌+◌, ◌<◌, ◌≤◌, ◌⊎◌, inl, inr, Bool, true, false, List, [], ◌∷◌, ◌++◌, refl, sym, subst}
use Rattle.std.proofs.Common.{◌∙◌, arith}
use Rattle.std.proofs.lemmas.Bool.{ltb-true, ltb-false}
use Rattle.std.specs.Prelude.{nat_lt}
use Rattle.c_types.specs.Types.{CType, Record}
use Rattle.c_typed.specs.Mapped.{of_types, mapped_statement, mapped_statements, mapped_arms}
use Rattle.c_typed.specs.Trees as T
use Rattle.c_typed.specs.Trees.{Statement, Statements, Arms}
use Rattle.c_typed.specs.TypedStatements.{declared_by, declared_by_arms, all_declared, all_declared_by, all_declared_by_arms}
use Rattle.c_well_typed.specs.Printable.Statements.{AreArms, ArePrintableStatements, IsPrintableStatement, is_declaration}
use Rattle.c_well_typed.specs.WellTyped.{count_up}
use Rattle.code_bounds.specs.Scopes.{AreScoped, AreScopedArms, IsScoped}
use Rattle.compiled_files.proofs.Soundness.Begins.{Begun, BegunAmong, BegunInArms, In}

-- ---- lists of numbers

split_in : (n : ℕ) (a b : List ℕ) → In n (a ++ b) → In n a ⊎ In n b
split_in n [] b i = inr i
split_in n (m ∷ a) b (inl e) = inl (inl e)
split_in n (m ∷ a) b (inr i) = elim (split_in n a b i) [
  | inl h ↦ inl (inr h)
  | inr h ↦ inr h
]

front_in : (n : ℕ) (a b : List ℕ) → In n a → In n (a ++ b)
front_in n [] b i = absurd i
front_in n (m ∷ a) b (inl e) = inl e
front_in n (m ∷ a) b (inr i) = inr (front_in n a b i)

back_in : (n : ℕ) (a b : List ℕ) → In n b → In n (a ++ b)
back_in n [] b i = i
back_in n (m ∷ a) b i = inr (back_in n a b i)

pub counted : (n from count : ℕ) → from ≤ n → n < from + count → In n (count_up from count)
counted n from zero h k = absurd (omega (arith, h, k))
counted n from (suc count) h k = by_test (nat_lt from n) refl (counted n (from + 1) count)
  where
    by_test : (b : Bool) → nat_lt from n ≡ b → (from + 1 ≤ n → n < from + 1 + count → In n (count_up (from + 1) count))
        → In n (from ∷ count_up (from + 1) count)
    by_test true e more = let d = ltb-true from n e in inr (more (omega (arith, d)) (omega (arith, k)))
    by_test false e more = let d = ltb-false from n e in inl (omega (arith, d, h))

-- ---- declarations

module _ (f : ℕ → CType) (n : ℕ) where
  same_declaration : (s : Statement ℕ) → is_declaration (mapped_statement (of_types f) s) ≡ is_declaration s
  same_declaration (T.evaluate e) = refl
  same_declaration (T.block own all) = refl
  same_declaration (T.declare m initial) = refl
  same_declaration (T.when e one) = refl
  same_declaration (T.when_else e one other) = refl
  same_declaration (T.while e body) = refl
  same_declaration (T.do_while body e) = refl
  same_declaration (T.for own start test step body) = refl
  same_declaration (T.switch e own arms) = refl
  same_declaration T.break = refl
  same_declaration T.continue = refl
  same_declaration (T.return e) = refl

  -- what is declared behind a statement
  later : (s : Statement ℕ) (more : Statements ℕ) → In n (declared_by more) → In n (declared_by (T.and_statement s more))
  later (T.evaluate e) more i = i
  later (T.block own all) more i = i
  later (T.declare m initial) more i = inr i
  later (T.when e one) more i = i
  later (T.when_else e one other) more i = i
  later (T.while e body) more i = i
  later (T.do_while body e) more i = i
  later (T.for own start test step body) more i = i
  later (T.switch e own arms) more i = i
  later T.break more i = i
  later T.continue more i = i
  later (T.return e) more i = i

  at_once : (s : Statement ℕ) (more : Statements ℕ) → is_declaration s ≡ true → In n (all_declared s) → In n (declared_by (T.and_statement s more))
  at_once (T.evaluate e) more is i = cc
  at_once (T.block own all) more is i = cc
  at_once (T.declare m initial) more is (inl same) = inl same
  at_once (T.declare m initial) more is (inr i) = absurd i
  at_once (T.when e one) more is i = cc
  at_once (T.when_else e one other) more is i = cc
  at_once (T.while e body) more is i = cc
  at_once (T.do_while body e) more is i = cc
  at_once (T.for own start test step body) more is i = cc
  at_once (T.switch e own arms) more is i = cc
  at_once T.break more is i = cc
  at_once T.continue more is i = cc
  at_once (T.return e) more is i = cc

  module _ (records : List Record) (locals : List CType) where
    abbrev Prints : Statement ℕ → Type 0
    Prints s = IsPrintableStatement records locals (mapped_statement (of_types f) s)

    mutual
      pub declared : (s : Statement ℕ) → IsScoped s → Prints s → is_declaration s ≡ false → In n (all_declared s) → Begun n s
      declared (T.evaluate e) s w b i = absurd i
      declared (T.block own all) s w b i = elim (declared_among all s.1 w i) [
        | inl h ↦ inl (subst (In n) (sym s.0) h)
        | inr h ↦ inr h
      ]
      declared (T.declare m initial) s w b i = cc
      declared (T.when e one) s w b i = declared one s w.2 (sym (same_declaration one) ∙ w.1) i
      declared (T.when_else e one other) s w b i = elim (split_in n (all_declared one) (all_declared other) i) [
        | inl h ↦ inl (declared one s.0 w.2 (sym (same_declaration one) ∙ w.1) h)
        | inr h ↦ inr (declared other s.1 w.5 (sym (same_declaration other) ∙ w.4) h)
      ]
      declared (T.while e body) s w b i = declared body s w.2 (sym (same_declaration body) ∙ w.1) i
      declared (T.do_while body e) s w b i = declared body s w.1 (sym (same_declaration body) ∙ w.0) i
      declared (T.for own start test step body) s w b i = elim (split_in n (all_declared_by start) (all_declared body) i) [
        | inl h ↦ elim (declared_among start s.1 w.1 h) [
          | inl k ↦ inl (subst (In n) (sym s.0) k)
          | inr k ↦ inr (inl k)
        ]
        | inr h ↦ inr (inr (declared body s.2 w.5 (sym (same_declaration body) ∙ w.4) h))
      ]
      declared (T.switch e own arms) s w b i = elim (declared_in_arms true arms s.1 w.1 i) [
        | inl h ↦ inl (subst (In n) (sym s.0) h)
        | inr h ↦ inr h
      ]
      declared T.break s w b i = absurd i
      declared T.continue s w b i = absurd i
      declared (T.return e) s w b i = absurd i

      pub declared_among : (all : Statements ℕ) → AreScoped all → ArePrintableStatements records locals (mapped_statements (of_types f) all)
          → In n (all_declared_by all) → In n (declared_by all) ⊎ BegunAmong n all
      declared_among T.no_statements s w i = absurd i
      declared_among (T.and_statement one more) s w i = elim (split_in n (all_declared one) (all_declared_by more) i) [
        | inl h ↦ by_declaration (is_declaration one) refl h (λ b. declared one s.0 w.0 b h)
        | inr h ↦ elim (declared_among more s.1 w.1 h) [
          | inl k ↦ inl (later one more k)
          | inr k ↦ inr (inr k)
        ]
      ]
        where
          by_declaration : (b : Bool) → is_declaration one ≡ b → In n (all_declared one) → (is_declaration one ≡ false → Begun n one)
              → In n (declared_by (T.and_statement one more)) ⊎ (Begun n one ⊎ BegunAmong n more)
          by_declaration true e h inner = inl (at_once one more e h)
          by_declaration false e h inner = inr (inl (inner e))

      pub declared_in_arms : (is_first : Bool) (arms : Arms ℕ) → AreScopedArms arms → AreArms records locals is_first (mapped_arms (of_types f) arms)
          → In n (all_declared_by_arms arms) → In n (declared_by_arms arms) ⊎ BegunInArms n arms
      declared_in_arms is_first T.no_arms s w i = absurd i
      declared_in_arms is_first (T.and_arm cases is_default all more) s w i = elim (split_in n (all_declared_by all) (all_declared_by_arms more) i) [
        | inl h ↦ elim (declared_among all s.0 w.1 h) [
          | inl k ↦ inl (front_in n (declared_by all) (declared_by_arms more) k)
          | inr k ↦ inr (inl k)
        ]
        | inr h ↦ elim (declared_in_arms false more s.1 w.2 h) [
          | inl k ↦ inl (back_in n (declared_by all) (declared_by_arms more) k)
          | inr k ↦ inr (inr k)
        ]
      ]
