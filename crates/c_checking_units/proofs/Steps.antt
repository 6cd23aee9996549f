-- What stands in a file, item after item: events, and what a declarator declares (C99 6.2.1, 6.7, 6.9).
use Rattle.std.proofs.Common.{◌≡◌, ℕ, zero, suc, ◌+◌, ◌≤◌, ◌<◌, Bool, true, false, refl, ap, ◌∙◌, subst, cond, List, [], ◌∷◌, length, arith}
use Rattle.std.proofs.lemmas.Bool.{eq-eqb, eqb-true}
use Rattle.std.specs.Prelude.{◌==◌, Option, Some, None, slice_get}
use Rattle.c_ast.specs.Trees
use Rattle.c_checking_laws.proofs.WholeFiles.StatementLaws.{AreItemsInRange}
use Rattle.c_erasure.specs.Erasure.{IsBound}
use Rattle.c_erasure.specs.Scopes.{FileScope, Bound, Entity, an_object, a_function, AFunction, at_file_scope}
use Rattle.c_checking_laws.proofs.CompleteNodes.{some, some_is}
use Rattle.c_checking_laws.proofs.CompletePart.{Lists, IsWhole}
use Rattle.c_erasure.specs.Scopes.{in_full}
use Rattle.c_checking_laws.proofs.CompleteWalk.{seen}
use Rattle.c_checking_laws.proofs.CompleteWalk.{Event, names_in, ends_in, literals_in, Follows, IsAsked, IsFirstAt}
use Rattle.c_checking_units.proofs.Filed.{IsFiled}

-- what the name that is in scope from a byte on stands for
abbrev pub entity_at : List Bound → ℕ → Option Entity
entity_at [] from = None
entity_at (b ∷ more) from = cond (b.from == from) (Some b.entity) (entity_at more from)

entity_in : (all : List Bound) → ((j k : ℕ) (a b : Bound) → slice_get all j ≡ Some a → slice_get all k ≡ Some b → a.from ≡ b.from → j ≡ k)
    → (k : ℕ) (b : Bound) → slice_get all k ≡ Some b → entity_at all b.from ≡ Some b.entity
entity_in [] apart k b e = cc
entity_in (a ∷ all) apart zero b e =
    let same : a ≡ b = some_is a b e in
    ap (λ t. cond t (Some a.entity) (entity_at all b.from)) (eq-eqb a.from b.from (ap (λ (b : Bound). b.from) same)) ∙ ap (λ (b : Bound). some b.entity) same
entity_in (a ∷ all) apart (suc k) b e =
    by_test (a.from == b.from) refl (entity_in all (λ i j x y p q s. let z = apart (suc i) (suc j) x y p q s in omega (arith, z)) k b e)
  where
    by_test : (t : Bool) → (a.from == b.from) ≡ t → entity_at all b.from ≡ Some b.entity
        → cond t (Some a.entity) (entity_at all b.from) ≡ Some b.entity
    by_test true h later = let z = apart 0 (suc k) a b refl e (eqb-true a.from b.from h) in absurd (omega (arith, z))
    by_test false h later = later

pub entity_of : (g : FileScope) → IsWhole g → (b : Bound) → IsBound (at_file_scope g) b → entity_at g.names b.from ≡ Some b.entity
entity_of g w b h = entity_in g.names w.names_apart h.0 b h.1

pub data Step : Type 0 where
  events : (all : List Event) → Step
  -- a declarator, whose name stands there
  a_declarator : (at : ℕ) → Step
  -- the object or function that it declares, where it is the first of its name
  an_own : (e : Option Entity) → (first : Bool) → (place : ℕ) → Step
  -- the body of a function
  a_body : (items : Trees.BlockItems) → Step

abbrev pub own_objects : Option Entity → Bool → ℕ
own_objects (Some (an_object n t)) true = 1
own_objects e b = 0

abbrev pub own_functions : Option Entity → Bool → ℕ
own_functions (Some (a_function n t)) true = 1
own_functions e b = 0

abbrev pub IsFunctionAt : List AFunction → ℕ → ℕ → Type 0
IsFunctionAt functions f at = (h : AFunction) × (slice_get functions f ≡ Some h) × (h.first ≡ at)

-- it is the next one of the file
abbrev pub IsNextOwn : FileScope → (o f : ℕ) → Option Entity → Bool → (place : ℕ) → Type 0
IsNextOwn g o f (Some (an_object n t)) true place = IsFirstAt g.objects o place
IsNextOwn g o f (Some (a_function n t)) true place = IsFunctionAt g.functions f place
IsNextOwn g o f e b place = Unit {0}

-- the names before are in scope
abbrev pub AreBegun : FileScope → (n at : ℕ) → Type 0
AreBegun g n at = (k : ℕ) (b : Bound) → slice_get g.names k ≡ Some b → k < n → b.from ≤ at

-- from a number of names, of records, of objects and of functions on; behind the last step the whole file has no more objects and functions
abbrev pub AreSteps : FileScope → (n r o f : ℕ) → List Step → Type 0
AreSteps g n r o f [] = (o ≡ length g.objects) × (f ≡ length g.functions)
AreSteps g n r o f (events all ∷ more) = Follows g n r o all × AreSteps g (n + names_in all) (r + ends_in all) (o + literals_in all) f more
AreSteps g n r o f (a_declarator at ∷ more) = (IsAsked g n r at × AreBegun g n at) × AreSteps g n r o f more
AreSteps g n r o f (an_own e first place ∷ more) =
    IsNextOwn g o f e first place × AreSteps g n r (o + own_objects e first) (f + own_functions e first) more
AreSteps g n r o f (a_body items ∷ more) = AreItemsInRange g.ends r items × AreSteps g n r o f more

pub steps_at : (g : FileScope) (n r o f m q p h : ℕ) (all : List Step) → n ≡ m → r ≡ q → o ≡ p → f ≡ h → AreSteps g n r o f all → AreSteps g m q p h all
steps_at g n r o f m q p h all a b c d s =
    subst (λ m. AreSteps g m q p h all) a (subst (λ q. AreSteps g n q p h all) b (subst (λ p. AreSteps g n r p h all) c
    (subst (λ h. AreSteps g n r o h all) d s)))

-- what is seen at file scope
abbrev pub At : List Event → List Event
At all = seen false in_full all

-- a part of the file, before what stands behind it
pub record IsReady (g : FileScope) (c : Lists) (all : List Step) : Type 0 where
  pub filed : IsFiled g c
  pub steps : AreSteps g (length c.names) (length c.records) (length c.objects) (length c.functions) all
