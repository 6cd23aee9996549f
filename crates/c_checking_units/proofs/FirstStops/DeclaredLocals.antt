-- The locals that well typed statements declare are of complete types (C99 6.7, 6.8).
use Rattle.std.proofs.Common.{◌≡◌, ℕ, zero, suc, ◌+◌, ◌<◌, Bool, true, false, refl, sym, ap, ◌∙◌, subst, List, [], ◌∷◌, ◌++◌, length, inl, inr, arith}
use Rattle.std.proofs.lemmas.List.{map-append}
use Rattle.std.proofs.lemmas.Option.{slice_get_within}
use Rattle.std.specs.Prelude.{◌⊎◌, map, Some, slice_get}
use Rattle.c_types.specs.Types.{CType}
use Rattle.c_typed.specs.Trees as Typed
use Rattle.c_typed.specs.Typed.{Declared}
use Rattle.c_typed.specs.TypedStatements.{all_declared, all_declared_by, all_declared_by_arms, IsTypedStatement, AreTyped, AreTypedArms}
use Rattle.c_erasure.specs.BrokenStatements.{IsAmong}
use Rattle.c_erasure.specs.Files.{count_up}
use Rattle.c_erasure.specs.Scopes.{ALocal}
use Rattle.c_erasure.specs.Statements.{Statement, Statements, Arms}
use Rattle.c_checking_laws.proofs.Agreement.{IsObjectType}
use Rattle.c_checking_laws.proofs.Extends.{one_of_both}
use Rattle.c_checking_laws.proofs.WholeFiles.Declarations.{typed_statements}
use Rattle.c_checking_laws.proofs.WholeFiles.StatementLaws.{typed_statement, typed_arms}
use Rattle.c_checking_units.proofs.FirstStops.Clear.{among_split}

-- ---- of what is typed

module _ (d : Declared) (result : CType) where
  -- the locals with those numbers
  abbrev pub AreObjectsAt : List ℕ → Type 0
  AreObjectsAt numbers = (n : ℕ) → IsAmong numbers n → (t : CType) → slice_get d.locals n ≡ Some t → IsObjectType t

  both_at : (u v : List ℕ) → AreObjectsAt u → AreObjectsAt v → AreObjectsAt (u ++ v)
  both_at u v p q n i t e = by_part (among_split u v n i)
    where
      by_part : IsAmong u n ⊎ IsAmong v n → IsObjectType t
      by_part (inl i) = p n i t e
      by_part (inr i) = q n i t e

  mutual
    pub objects_declared : (loop switch : Bool) (st : Statement) → IsTypedStatement d result loop switch (typed_statement st) → AreObjectsAt (all_declared st)
    objects_declared loop switch (Typed.evaluate e) h n i t g = absurd i
    objects_declared loop switch (Typed.block locals all) h n i t g = objects_declared_by loop switch all h.1 n i t g
    objects_declared loop switch (Typed.declare m initial) h n (inl e) t g =
        let there : slice_get d.locals n ≡ Some h.0 = subst (λ n. slice_get d.locals n ≡ Some h.0) (sym e) h.1 in
        let same : h.0 ≡ t = cc in
        subst IsObjectType same (length d.records, h.2)
    objects_declared loop switch (Typed.declare m initial) h n (inr i) t g = absurd i
    objects_declared loop switch (Typed.when e one) h n i t g = objects_declared loop switch one h.2 n i t g
    objects_declared loop switch (Typed.when_else e one other) h n i t g =
        both_at (all_declared one) (all_declared other) (objects_declared loop switch one h.2) (objects_declared loop switch other h.3) n i t g
    objects_declared loop switch (Typed.while e body) h n i t g = objects_declared true switch body h.2 n i t g
    objects_declared loop switch (Typed.do_while body e) h n i t g = objects_declared true switch body h.0 n i t g
    objects_declared loop switch (Typed.for locals start test step body) h n i t g =
        both_at (all_declared_by start) (all_declared body) (objects_declared_by false false start h.1)
        (objects_declared true switch body h.4) n i t g
    objects_declared loop switch (Typed.switch e locals arms) h n i t g = objects_declared_by_arms loop arms h.6 n i t g
    objects_declared loop switch Typed.break h n i t g = absurd i
    objects_declared loop switch Typed.continue h n i t g = absurd i
    objects_declared loop switch (Typed.return e) h n i t g = absurd i

    pub objects_declared_by : (loop switch : Bool) (all : Statements) → AreTyped d result loop switch (typed_statements all) → AreObjectsAt (all_declared_by all)
    objects_declared_by loop switch Typed.no_statements h n i t g = absurd i
    objects_declared_by loop switch (Typed.and_statement st more) h n i t g =
        both_at (all_declared st) (all_declared_by more) (objects_declared loop switch st h.0) (objects_declared_by loop switch more h.1) n i t g

    objects_declared_by_arms : (loop : Bool) (arms : Arms) → AreTypedArms d result loop (typed_arms arms) → AreObjectsAt (all_declared_by_arms arms)
    objects_declared_by_arms loop Typed.no_arms h n i t g = absurd i
    objects_declared_by_arms loop (Typed.and_arm cases is_default all more) h n i t g =
        both_at (all_declared_by all) (all_declared_by_arms more) (objects_declared_by loop true all h.0)
        (objects_declared_by_arms loop more h.1) n i t g

-- ---- of the locals of a scope

abbrev pub AreObjectLocals : List ALocal → Type 0
AreObjectLocals all = (k : ℕ) (t : CType) → slice_get (map (λ l. l.ty) all) k ≡ Some t → IsObjectType t

counts : (from n j : ℕ) → j < n → IsAmong (count_up from n) (from + j)
counts from zero j h = absurd (omega (arith, h))
counts from (suc n) zero h = inl (omega arith)
counts from (suc n) (suc j) h =
    let i = counts (from + 1) n j (omega (arith, h)) in
    let e : from + 1 + j ≡ from + suc j = omega arith in
    inr (subst (IsAmong (count_up (from + 1) n)) e i)

length_mapped : (all : List ALocal) → length (map (λ l. l.ty) all) ≡ length all
length_mapped [] = refl
length_mapped (x ∷ all) = ap suc (length_mapped all)

-- those before, and those that are declared after them
pub locals_after : (old more after : List ALocal) (numbers : List ℕ) → after ≡ old ++ more → numbers ≡ count_up (length old) (length more)
    → AreObjectLocals old → ((n : ℕ) → IsAmong numbers n → (t : CType) → slice_get (map (λ l. l.ty) after) n ≡ Some t → IsObjectType t) → AreObjectLocals after
locals_after old more after numbers e m p q k t h =
    by_part (one_of_both (map (λ l. l.ty) old) (map (λ l. l.ty) more) k t
    (subst (λ all. slice_get all k ≡ Some t) (ap (map (λ (l : ALocal). l.ty)) e ∙ map-append (λ (l : ALocal). l.ty) old more) h))
  where
    by_part : (slice_get (map (λ l. l.ty) old) k ≡ Some t)
        ⊎ ((j : ℕ) × (k ≡ length (map (λ l. l.ty) old) + j) × (slice_get (map (λ l. l.ty) more) j ≡ Some t)) → IsObjectType t
    by_part (inl g) = p k t g
    by_part (inr g) =
        let less = slice_get_within (map (λ l. l.ty) more) g.0 t g.2 in
        let c = counts (length old) (length more) g.0 (omega (arith, less, length_mapped more)) in
        let at : length old + g.0 ≡ k = let b = g.1 in omega (arith, b, length_mapped old) in
        q k (subst (λ numbers. IsAmong numbers k) (sym m) (subst (IsAmong (count_up (length old) (length more))) at c)) t h
