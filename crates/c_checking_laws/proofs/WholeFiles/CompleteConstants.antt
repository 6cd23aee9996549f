-- The values of an initializer that are constants in the whole file are constants in the part that has what it reaches (C99 6.6, 6.7.8).
use Rattle.std.proofs.Common.{◌≡◌, ℕ, ◌+◌, Bool, true, false, refl, sym, ap, ◌∙◌, subst, cond, List, [], ◌∷◌, ◌++◌, length, append-nil, inl, inr}
use Rattle.std.proofs.lemmas.Bool.{and_parts, and_from}
use Rattle.std.proofs.lemmas.List.Elements.{All-head, All-tail}
use Rattle.std.specs.Prelude.{◌&&◌, All, is_some, Option, Some, None}
use Rattle.c_types.specs.Layouts.{size_of, offset_of}
use Rattle.c_types.specs.Types.{CType, void, integer, pointer, array, function, structure, Field}
use Rattle.c_ast.specs.declared.words.Spelling.{Spelling}
use Rattle.c_ast.specs.Trees
use Rattle.c_typed.specs.Trees as Typed
use Rattle.c_typed.specs.Constants.{Constant, valued, ty, constant_of, is_null}
use Rattle.c_typed.specs.Conversions.{is_pointer}
use Rattle.c_typed.specs.InitialValues.{Address, InitialValue, a_null, as_address, as_function, as_number, address_in, function_in, is_null_in}
use Rattle.c_typed.specs.InitialValues.{initial_in}
use Rattle.c_typed.specs.Typed.{Declared, IsTyped}
use Rattle.c_typed.specs.TypedStatements.{IsTypedInitializer}
use Rattle.c_erasure.specs.Erasure.{typed, Values, Erases}
use Rattle.c_erasure.specs.Initializers.{Part, part_at, texts_of, IsText, IsOneValue, Initializes, InitializeElements, InitializeFields}
use Rattle.c_erasure.specs.Initializers.{IsInitializer}
use Rattle.c_erasure.specs.Initializers.{HasConstant, AreConstants}
use Rattle.c_erasure.specs.Noted.{Noted, Expression}
use Rattle.c_erasure.specs.Scopes.{FileScope, Scope, ALocal, in_full}
use Rattle.c_erasure.specs.Checking.Initializers.{is_constant_part, are_constant_parts, are_constants}
use Rattle.c_checking_laws.proofs.Extends.{Extends}
use Rattle.c_checking_laws.proofs.CompleteWalk.{Event, seen}
use Rattle.c_checking_laws.proofs.CompletePart.{whole, Lists, part, IsWhole}
use Rattle.c_checking_laws.proofs.CompleteLocals.{walk_of_initializer, walk_of_initializers}
use Rattle.c_checking_laws.proofs.WholeFiles.CompleteValues.{HasType, HaveTypes}
use Rattle.c_checking_laws.proofs.WholeFiles.CompletePlain.{Plainly, IsPlain, plain, no_braces}
use Rattle.c_checking_laws.proofs.WholeFiles.CompleteParts.{literal_begins}
use Rattle.c_checking_laws.proofs.WholeFiles.CompleteWholes.{typed_parts, AsTyped}
use Rattle.c_checking_laws.proofs.WholeFiles.CompleteReached.{Reaches, left_reached, right_reached}
use Rattle.c_checking_laws.proofs.WholeFiles.CompleteAddresses.{D, E, ValueBack, value_back}
use Rattle.c_checking_laws.proofs.WholeFiles.CompleteExpressions.{erased_back}

module _ (g : FileScope) (w : IsWhole g) (ls : List ALocal) (s : Scope) (full : s.purpose ≡ in_full) (m : Lists) (p : Extends (part g m) g) where
  -- in the whole file, and in the part
  abbrev Outer : Declared
  Outer = D g w ls s m p

  abbrev Inner : Declared
  Inner = E g w ls s m p

  -- ---- initial values

  null_same : (e : Typed.Expression CType) → is_null_in Outer e ≡ is_null_in Inner e
  null_same (Typed.expression t at (Typed.convert e v)) = ap (λ b. is_pointer t && cond (is_null e) true b) (null_same e)
  null_same (Typed.expression t at node) = refl

  function_same : (e : Typed.Expression CType) → function_in Outer e ≡ function_in Inner e
  function_same (Typed.expression t at (Typed.convert e v)) = ap (λ o. cond (is_pointer t) o None) (function_same e)
  function_same (Typed.expression t at node) = refl

  function_as : (o : Option ℕ) → as_function Outer o ≡ as_function Inner o
  function_as None = refl
  function_as (Some k) = refl

  address_or : (o q : Option Address) (other : Option InitialValue) (v : InitialValue) → ((a : Address) → o ≡ Some a → q ≡ Some a)
      → as_address Outer o other ≡ Some v → is_some (as_address Inner q other) ≡ true
  address_or None None other v into h = ap is_some h
  address_or None (Some a) other v into h = refl
  address_or (Some a) q other v into h = ap (λ q. is_some (as_address Inner q other)) (into a refl)

  -- one that is no integer
  other_value : (e : Expression) → ValueBack g w ls s m p e → IsTyped Outer (typed e) → (v : InitialValue)
      → cond (is_null_in Outer (typed e)) (Some a_null) (as_address Outer (address_in Outer (typed e)) (as_function Outer (function_in Outer
      (typed e)))) ≡ Some v
      → is_some (cond (is_null_in Inner (typed e)) (Some a_null)
      (as_address Inner (address_in Inner (typed e)) (as_function Inner (function_in Inner (typed e))))) ≡ true
  other_value e back k v h = by_null (is_null_in Outer (typed e)) (is_null_in Inner (typed e)) (null_same (typed e)) h
    where
      by_null : (b c : Bool) → b ≡ c
          → cond b (Some a_null) (as_address Outer (address_in Outer (typed e)) (as_function Outer (function_in Outer (typed e)))) ≡ Some v
          → is_some (cond c (Some a_null) (as_address Inner (address_in Inner (typed e)) (as_function Inner (function_in Inner (typed e))))) ≡ true
      by_null true true q h = refl
      by_null false false q h =
          let same : as_function Outer (function_in Outer (typed e)) ≡ as_function Inner (function_in Inner (typed e)) =
          function_as (function_in Outer (typed e)) ∙ ap (as_function Inner) (function_same (typed e)) in
          address_or (address_in Outer (typed e)) (address_in Inner (typed e)) (as_function Inner (function_in Inner (typed e))) v (λ a i.
          (back k a i).0)
          (ap (as_address Outer (address_in Outer (typed e))) (sym same) ∙ h)
      by_null true false q h = cc
      by_null false true q h = cc

  value_has : (t : CType) (e : Expression) → ValueBack g w ls s m p e → IsTyped Outer (typed e)
      → (v : InitialValue) × (initial_in Outer t (typed e) ≡ Some v) → is_some (initial_in Inner t (typed e)) ≡ true
  value_has (integer kind) e back k h = number_has (constant_of (typed e)) h
    where
      number_has : (c : Constant) → (v : InitialValue) × (as_number Outer kind c ≡ Some v) → is_some (as_number Inner kind c) ≡ true
      number_has (valued v) h = refl
      number_has c h = let e = h.1 in cc
  value_has void e back k h = other_value e back k h.0 h.1
  value_has (pointer t) e back k h = other_value e back k h.0 h.1
  value_has (array t n) e back k h = other_value e back k h.0 h.1
  value_has (function t all) e back k h = other_value e back k h.0 h.1
  value_has (structure r) e back k h = other_value e back k h.0 h.1

  -- ---- parts

  -- typed, and constants
  abbrev Were : List Part → Type 0
  Were [] = Unit {0}
  Were (part ∷ more) = (HasType Outer part.value × HasConstant Outer part.value) × Were more

  were_left : (a b : List Part) → Were (a ++ b) → Were a
  were_left [] b h = tt
  were_left (part ∷ a) b h = (h.0, were_left a b h.1)

  were_right : (a b : List Part) → Were (a ++ b) → Were b
  were_right [] b h = h
  were_right (part ∷ a) b h = were_right a b h.1

  abbrev Are : List Part → Type 0
  Are parts = are_constant_parts Inner parts ≡ true

  are_both : (a b : List Part) → Are a → Are b → Are (a ++ b)
  are_both [] b h k = k
  are_both (part ∷ a) b h k =
      let z = and_parts (is_constant_part Inner part.value) (are_constant_parts Inner a) h in
      and_from (is_constant_part Inner part.value) (are_constant_parts Inner (a ++ b)) z.0 (are_both a b z.1 k)

  abbrev There : List Event → Type 0
  There all = Reaches g w ls s (length m.records) (length m.objects) (seen s.is_inside in_full all)

  abbrev S : Scope
  S = whole g ls s

  abbrev Walk : Trees.Expression → List Event
  Walk a = walk_of_initializer g.untagged g.objects a

  abbrev Walks : Trees.Arguments → List Event
  Walks all = walk_of_initializers g.untagged g.objects all

  one_part : (at : ℕ) (x : Expression) → ValueBack g w ls s m p x → Were (part_at at (Typed.value x)) → Are (part_at at (Typed.value x))
  one_part at x back k = ap (λ b. b && true) (value_has (ty (typed x)) x back k.0.0.1.0 k.0.1)

  text_part : (o : Option (List Spelling)) (t : CType) (at : ℕ) (parts : List Part) → IsText o S t at parts → Are parts
  text_part None t at parts h = absurd h
  text_part (Some all) t at parts h = ap (are_constant_parts Inner) h.3

  one_back : (a : Trees.Expression) → IsPlain a → (x : Expression) → Values (Erases a S) x → There (Walk a) → ValueBack g w ls s m p x
  one_back a q x v i =
      let same = q.walked g.untagged g.objects (λ all e. literal_begins g w ls a s v.0 full v.2 all (q.is_texts all e)) in
      value_back g w ls s m p (Erases a S) x v (λ th k. erased_back g w ls s m p a th k (subst There same i))

  plain_are : (a : Trees.Expression) → IsPlain a → (t : CType) (at : ℕ) (parts : List Part) → Initializes a S t at parts → There (Walk a)
      → Were parts → Are parts
  plain_are a q t at parts h i k = by_form (q.stands S t at parts h)
    where
      by_form : Plainly a S t at parts → Are parts
      by_form (inl x) =
          subst Are (sym x.3) (one_part at x.0 (one_back a q x.0 x.4 i) (subst Were x.3 k))
      by_form (inr (inl x)) = let k = subst Were x.4 k in absurd k.0.1
      by_form (inr (inr x)) = text_part (texts_of a) t at parts x

  one_value_back : (all : Trees.Arguments) (x : Expression) → IsOneValue all S x → There (Walks all) → ValueBack g w ls s m p x
  one_value_back Trees.no_arguments x h i = absurd h
  one_value_back (Trees.and_argument comma a Trees.no_arguments) x h i =
      one_back a (plain a (no_braces a S h.0 h.2)) x h (subst There (append-nil (Walk a)) i)
  one_value_back (Trees.and_argument comma a (Trees.and_argument between b more)) x h i = absurd h

  on_left : (u v : List Event) → There (u ++ v) → There u
  on_left u v h = left_reached g w ls s (length m.records) (length m.objects) s.is_inside in_full u v h

  on_right : (u v : List Event) → There (u ++ v) → There v
  on_right u v h = right_reached g w ls s (length m.records) (length m.objects) s.is_inside in_full u v h

  mutual
    initial_are : (a : Trees.Expression) (t : CType) (at : ℕ) (parts : List Part) → Initializes a S t at parts → There (Walk a) → Were parts
        → Are parts
    initial_are (Trees.braces left all last right) t at parts (inl h) i k =
        subst Are (sym h.3) (one_part at h.0 (one_value_back all h.0 h.4 i) (subst Were h.3 k))
    initial_are (Trees.braces left all last right) t at parts (inr (inl h)) i k = elements_are all h.1 h.0 at parts h.4 i k
    initial_are (Trees.braces left all last right) t at parts (inr (inr (inl h))) i k = fields_are all h.0 0 h.1.fields at parts h.4 i k
    initial_are (Trees.braces left all last right) t at parts (inr (inr (inr h))) i k =
        text_part (texts_of (Trees.braces left all last right)) t at parts h
    initial_are a t at parts h i k = plain_are a (plain a refl) t at parts h i k

    elements_are : (all : Trees.Arguments) (u : CType) (n at : ℕ) (parts : List Part) → InitializeElements all S u n at parts → There (Walks all)
        → Were parts → Are parts
    elements_are Trees.no_arguments u n at parts h i k = ap (are_constant_parts Inner) h
    elements_are (Trees.and_argument comma a more) u n at parts h i k =
        let k = subst Were h.4 k in
        subst Are (sym h.4)
        (are_both h.1 h.2 (initial_are a u at h.1 h.5 (on_left (Walk a) (Walks more) i) (were_left h.1 h.2 k))
        (elements_are more u h.0 (at + size_of g.records u) h.2 h.6 (on_right (Walk a) (Walks more) i) (were_right h.1 h.2 k)))

    fields_are : (all : Trees.Arguments) (r j : ℕ) (fields : List Field) (at : ℕ) (parts : List Part) → InitializeFields all S r j fields at parts
        → There (Walks all) → Were parts → Are parts
    fields_are Trees.no_arguments r j fields at parts h i k = ap (are_constant_parts Inner) h
    fields_are (Trees.and_argument comma a more) r j fields at parts h i k =
        let k = subst Were h.5 k in
        subst Are (sym h.5)
        (are_both h.2 h.3 (initial_are a h.0.ty (at + offset_of g.records r j) h.2 h.6 (on_left (Walk a) (Walks more) i) (were_left h.2 h.3 k))
        (fields_are more r (j + 1) h.1 at h.3 h.7 (on_right (Walk a) (Walks more) i) (were_right h.2 h.3 k)))

  -- ---- whole initializers

  both_parts : (parts : List Part) → HaveTypes Outer parts → All (λ part. HasConstant Outer part.value) parts → Were parts
  both_parts [] h k = tt
  both_parts (part ∷ more) h k = (
    (h.0, All-head (λ (part : Part). HasConstant Outer part.value) part more k),
    both_parts more h.1 (All-tail (λ (part : Part). HasConstant Outer part.value) part more k),
  )

  pub constants_back : (a : Trees.Expression) (t : CType) (i : Typed.Initializer Noted) → IsInitializer a S t i
      → IsTypedInitializer Outer t (AsTyped g w ls i) → AreConstants Outer i → There (Walk a) → are_constants Inner i ≡ true
  constants_back a t i (inl h) v k r =
      let v : IsTypedInitializer Outer t (AsTyped g w ls (Typed.whole h.0)) = subst (λ i. IsTypedInitializer Outer t (AsTyped g w ls i)) h.1 v in
      let k : AreConstants Outer (Typed.whole h.0) = subst (AreConstants Outer) h.1 k in
      let z = initial_are a t 0 (part_at 0 (Typed.value h.0)) h.3 r (((t, v), k), tt) in
      ap (are_constants Inner) h.1 ∙ (and_parts (is_constant_part Inner (Typed.value h.0)) true z).0
  constants_back a t i (inr (inl h)) v k r = absurd (subst (AreConstants Outer) h.1 k)
  constants_back a t i (inr (inr h)) v k r =
      let v : IsTypedInitializer Outer t (AsTyped g w ls (Typed.parts h.0)) = subst (λ i. IsTypedInitializer Outer t (AsTyped g w ls i)) h.1 v in
      let k : AreConstants Outer (Typed.parts h.0) = subst (AreConstants Outer) h.1 k in
      ap (are_constants Inner) h.1 ∙ initial_are a t 0 h.0 h.3 r (both_parts h.0 (typed_parts Outer t h.0 v.1) k)
