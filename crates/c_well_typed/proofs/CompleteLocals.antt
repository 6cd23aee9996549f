-- The parameters and locals of a defined function have complete types (C99 6.7, 6.9.1).
use Rattle.std.proofs.Common.{◌≡◌, ◌∙◌, ℕ, ◌+◌, Bool, true, false, refl, sym, ap, subst, List, [], ◌∷◌, ◌++◌, length, map, append_assoc, length-append}
use Rattle.std.proofs.lemmas.List.{map-append, length-map}
use Rattle.std.proofs.lemmas.List.Elements.{All-from_recursion}
use Rattle.std.specs.Prelude.{Some, slice_get}
use Rattle.std.specs.List.{AllByRecursion}
use Rattle.c_types.specs.Objects.{is_object}
use Rattle.c_types.specs.Types.{CType, integer, pointer}
use Rattle.c_types.specs.Views.{listed}
use Rattle.c_typed.specs.declared.program.Local.{Local}
use Rattle.c_typed.specs.Conversions.{is_scalar}
use Rattle.c_typed.specs.Mapped.{of_types, mapped_statement}
use Rattle.c_typed.specs.Trees as Trees
use Rattle.c_typed.specs.Typed.{Declared}
use Rattle.c_typed.specs.TypedStatements.{all_declared, all_declared_by, all_declared_by_arms, IsTypedStatement, AreTyped, AreTypedArms}
use Rattle.c_well_typed.specs.Laws.{LocalsAreComplete}
use Rattle.c_well_typed.specs.WellTyped.{ty, AreScalars, HasBody, count_up, declared_in}
use Rattle.c_well_typed.proofs.Labels.{all_declared_mapped}

some_is : {A : Type 0} (x y : A) → Some x ≡ Some y → x ≡ y
some_is x y h = cc

both : {A : Type 0} (P : A → Type 0) (xs ys : List A) → AllByRecursion P xs → AllByRecursion P ys → AllByRecursion P (xs ++ ys)
both P [] ys h k = k
both P (x ∷ xs) ys h k = (h.0, both P xs ys h.1 k)

-- ---- what statements declare

module _ (d : Declared) (result : CType) where
  abbrev IsLocal : ℕ → Type 0
  IsLocal n = (t : CType) × (slice_get d.locals n ≡ Some t) × (is_object (length d.records) t ≡ true)

  mutual
    declared_locals : (s : Trees.Statement CType) (loop switch : Bool) → IsTypedStatement d result loop switch s → AllByRecursion IsLocal (all_declared s)
    declared_locals (Trees.evaluate e) loop switch h = tt
    declared_locals (Trees.block locals all) loop switch h = declared_by_all all loop switch h.1
    declared_locals (Trees.declare n initial) loop switch h = ((h.0, h.1, h.2), tt)
    declared_locals (Trees.when e one) loop switch h = declared_locals one loop switch h.2
    declared_locals (Trees.when_else e one other) loop switch h =
        both IsLocal (all_declared one) (all_declared other) (declared_locals one loop switch h.2) (declared_locals other loop switch h.3)
    declared_locals (Trees.while e body) loop switch h = declared_locals body true switch h.2
    declared_locals (Trees.do_while body e) loop switch h = declared_locals body true switch h.0
    declared_locals (Trees.for locals start test step body) loop switch h =
        both IsLocal (all_declared_by start) (all_declared body) (declared_by_all start false false h.1)
        (declared_locals body true switch h.4)
    declared_locals (Trees.switch e locals arms) loop switch h = declared_by_arms arms loop h.6
    declared_locals Trees.break loop switch h = tt
    declared_locals Trees.continue loop switch h = tt
    declared_locals (Trees.return e) loop switch h = tt

    declared_by_all : (all : Trees.Statements CType) (loop switch : Bool) → AreTyped d result loop switch all → AllByRecursion IsLocal (all_declared_by all)
    declared_by_all Trees.no_statements loop switch h = tt
    declared_by_all (Trees.and_statement s more) loop switch h =
        both IsLocal (all_declared s) (all_declared_by more) (declared_locals s loop switch h.0) (declared_by_all more loop switch h.1)

    declared_by_arms : (arms : Trees.Arms CType) (loop : Bool) → AreTypedArms d result loop arms → AllByRecursion IsLocal (all_declared_by_arms arms)
    declared_by_arms Trees.no_arms loop h = tt
    declared_by_arms (Trees.and_arm cases is_default all more) loop h =
        both IsLocal (all_declared_by all) (all_declared_by_arms more) (declared_by_all all loop true h.0) (declared_by_arms more loop h.1)

-- ---- by their numbers

-- something stands under a number of a list, and is so
abbrev pub IsAt : {A : Type 0} → (A → Type 0) → List A → ℕ → Type 0
IsAt {A} P all n = (x : A) × (slice_get all n ≡ Some x) × P x

behind : {A : Type 0} (front back : List A) (x : A) → slice_get (front ++ x ∷ back) (length front) ≡ Some x
behind [] back x = refl
behind (y ∷ front) back x = behind front back x

pub from_number : {A : Type 0} (P : A → Type 0) (front back : List A) → AllByRecursion (IsAt P (front ++ back)) (count_up (length front) (length back))
    → AllByRecursion P back
from_number P front [] h = tt
from_number P front (x ∷ back) h =
    let z = h.0 in
    let is = some_is z.0 x (sym z.1 ∙ behind front back x) in
    let count : length (front ++ x ∷ []) ≡ length front + 1 = length-append front (x ∷ []) in (
      subst P is z.2,
      from_number P (front ++ x ∷ []) back
          (subst (λ n. AllByRecursion (IsAt P ((front ++ x ∷ []) ++ back)) (count_up n (length back))) (sym count)
          (subst (λ all. AllByRecursion (IsAt P all) (count_up (length front + 1) (length back))) (sym (append_assoc front (x ∷ []) back)) h.1)),
    )

scalars : (all : List CType) → AreScalars (listed all) → AllByRecursion (λ t. is_scalar t ≡ true) all
scalars [] h = tt
scalars (t ∷ all) h = (h.0, scalars all h.1)

scalar_is_object : (count : ℕ) (t : CType) → is_scalar t ≡ true → is_object count t ≡ true
scalar_is_object count (integer k) h = refl
scalar_is_object count (pointer t) h = refl
scalar_is_object count t h = cc

unmapped : {A B : Type 0} (P : B → Type 0) (Q : A → Type 0) (v : A → B) (xs : List A) → ((x : A) → P (v x) → Q x) → AllByRecursion P (map v xs)
    → AllByRecursion Q xs
unmapped P Q v [] f h = tt
unmapped P Q v (x ∷ xs) f h = (f x h.0, unmapped P Q v xs f h.1)

pub locals_complete : LocalsAreComplete
locals_complete l f body h e =
    let b = subst (HasBody l f h.0 h.1) e h.5 in
    let P = λ (t : CType). is_object (length l.records) t ≡ true in
    let Q = λ (x : Local). is_object (length l.records) (ty l x.ty) ≡ true in
    let own = λ (x : Local). ty l x.ty in
    let s = mapped_statement (of_types (ty l)) body in
    let all = declared_locals (declared_in l f) h.0 s false false b.3.1 in
    let numbers = all_declared_mapped (of_types (ty l)) body ∙ b.3.2 in
    let counted = subst (AllByRecursion (IsAt P (map own (f.parameters ++ f.locals)))) numbers all in
    let lengths = ap (λ n. count_up n (length f.locals)) (sym (length-map f.parameters own)) ∙ ap (count_up (length (map own f.parameters))) (sym (length-map f.locals own)) in
    let parted = subst (λ all. AllByRecursion (IsAt P all) (count_up (length (map own f.parameters)) (length (map own f.locals))))
    (map-append own f.parameters f.locals) (subst (AllByRecursion (IsAt P (map own (f.parameters ++ f.locals)))) lengths counted) in
    let later = unmapped P Q own f.locals (λ x k. k) (from_number P (map own f.parameters) (map own f.locals) parted) in
    let given = unmapped (λ (t : CType). is_scalar t ≡ true) Q own f.parameters (λ x k. scalar_is_object (length l.records) (ty l x.ty) k)
    (scalars (map own f.parameters) (subst AreScalars (sym b.2) b.1)) in
    All-from_recursion Q (f.parameters ++ f.locals) (both Q f.parameters f.locals given later)
