-- What is known of each name that begins to be in scope, and of each definition of a structure that ends, among the marks of a part: it is one of the
-- file, which a part of the tree declares (C99 6.2.1, 6.7.2.1).
use Rattle.std.proofs.Common.{◌≡◌, ℕ, zero, suc, ◌+◌, false, List, [], ◌∷◌, ◌++◌, subst, arith}
use Rattle.std.specs.Prelude.{map, Some, slice_get}
use Rattle.c_types.specs.Types.{Record}
use Rattle.c_types.specs.declared.ty.IntKind.TheVariants.{Int}
use Rattle.c_typed.specs.Conversions.{as_kind}
use Rattle.c_erasure.specs.Declarators.{AreDifferent}
use Rattle.c_erasure.specs.Erasure.{IsBound}
use Rattle.c_erasure.specs.Marks.{Mark, a_tag, an_end, a_name, scope_beginnings, defined_in}
use Rattle.c_erasure.specs.Scopes.{Bound, FileScope, enumerator, at_file_scope}
use Rattle.c_checking_laws.proofs.Agreement.{added}
use Rattle.c_checking_laws.proofs.Settled.{AreWhole}
use Rattle.c_checking_laws.proofs.Ahead.{Standing, standing_left, standing_right, added_both}

-- ---- of each mark of a list

abbrev pub AreAll : (OfName : ℕ → Type 0) → (OfRecord : List ℕ → Type 0) → List Mark → Type 0
AreAll P Q [] = Unit {0}
AreAll P Q (a_tag t ∷ u) = AreAll P Q u
AreAll P Q (an_end tag right ∷ u) = Q tag × AreAll P Q u
AreAll P Q (a_name from ∷ u) = P from × AreAll P Q u

pub both : (P : ℕ → Type 0) (Q : List ℕ → Type 0) (u v : List Mark) → AreAll P Q u → AreAll P Q v → AreAll P Q (u ++ v)
both P Q [] v h k = k
both P Q (a_tag t ∷ u) v h k = both P Q u v h k
both P Q (an_end tag right ∷ u) v h k = (h.0, both P Q u v h.1 k)
both P Q (a_name from ∷ u) v h k = (h.0, both P Q u v h.1 k)

pub with_names : (P R : ℕ → Type 0) (Q : List ℕ → Type 0) (u : List Mark) → ((from : ℕ) → P from → R from) → AreAll P Q u → AreAll R Q u
with_names P R Q [] f h = tt
with_names P R Q (a_tag t ∷ u) f h = with_names P R Q u f h
with_names P R Q (an_end tag right ∷ u) f h = (h.0, with_names P R Q u f h.1)
with_names P R Q (a_name from ∷ u) f h = (f from h.0, with_names P R Q u f h.1)

pub name_at : (P : ℕ → Type 0) (Q : List ℕ → Type 0) (u : List Mark) (k from : ℕ) → AreAll P Q u → slice_get (scope_beginnings u) k ≡ Some from → P from
name_at P Q [] k from h e = cc
name_at P Q (a_tag t ∷ u) k from h e = name_at P Q u k from h e
name_at P Q (an_end tag right ∷ u) k from h e = name_at P Q u k from h.1 e
name_at P Q (a_name at ∷ u) zero from h e = let same : at ≡ from = cc in subst P same h.0
name_at P Q (a_name at ∷ u) (suc k) from h e = name_at P Q u k from h.1 e

pub record_at : (P : ℕ → Type 0) (Q : List ℕ → Type 0) (u : List Mark) (k : ℕ) (tag : List ℕ) → AreAll P Q u → slice_get (defined_in u) k ≡ Some tag → Q tag
record_at P Q [] k tag h e = cc
record_at P Q (a_tag t ∷ u) k tag h e = record_at P Q u k tag h e
record_at P Q (a_name from ∷ u) k tag h e = record_at P Q u k tag h.1 e
record_at P Q (an_end own right ∷ u) zero tag h e = let same : own ≡ tag = cc in subst Q same h.0
record_at P Q (an_end own right ∷ u) (suc k) tag h e = record_at P Q u k tag h.1 e

-- ---- inside of specifiers and declarators, enumerators alone are declared

-- the enumerator whose name is in scope from there on
pub record IsTracedEnumerator (f : FileScope) (from : ℕ) : Type 0 where
  pub binding : Bound
  pub value : ℕ
  pub stands : IsBound (at_file_scope f) binding
  pub begins : binding.from ≡ from
  pub is : binding.entity ≡ enumerator value
  pub fit : as_kind Int value ≡ value

-- the record with that tag, whose fields are different and complete
pub record IsTracedRecord (f : FileScope) (tag : List ℕ) : Type 0 where
  pub number : ℕ
  pub defined : Record
  pub stands : slice_get f.records number ≡ Some defined
  pub tag_is : defined.tag ≡ tag
  pub different : AreDifferent (map (λ x. x.name) defined.fields)
  pub whole : AreWhole number defined.fields

abbrev pub AreTraced : FileScope → List Mark → Type 0
AreTraced f u = AreAll (IsTracedEnumerator f) (IsTracedRecord f) u

pub traced_both : (f : FileScope) (u v : List Mark) → AreTraced f u → AreTraced f v → AreTraced f (u ++ v)
traced_both f u v h k = both (IsTracedEnumerator f) (IsTracedRecord f) u v h k

-- where the definitions that end in them have the numbers from `n` on
module _ (f : FileScope) (n : ℕ) where
  pub two : (u v : List Mark) → Standing f.ends false n (u ++ v) → (Standing f.ends false n u → AreTraced f u)
      → (Standing f.ends false (n + added false u) v → AreTraced f v) → AreTraced f (u ++ v)
  two u v st p q = traced_both f u v (p (standing_left f.ends false n u v st)) (q (standing_right f.ends false n u v st))

  pub three : (u v w : List Mark) → Standing f.ends false n (u ++ v ++ w) → (Standing f.ends false n u → AreTraced f u)
      → (Standing f.ends false (n + added false u) v → AreTraced f v)
      → (Standing f.ends false (n + added false u + added false v) w → AreTraced f w) → AreTraced f (u ++ v ++ w)
  three u v w st p q r =
      let e = added_both false u v in
      let m : n + added false (u ++ v) ≡ n + added false u + added false v = omega (arith, e) in
      two (u ++ v) w st (λ st. two u v st p q) (λ st. r (subst (λ k. Standing f.ends false k w) m st))
