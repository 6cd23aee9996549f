-- What names stand for in the body of a function: it is complete there, and an object is one of those up to there (C99 6.2.1).
use Rattle.std.proofs.Common.{◌≡◌, ℕ, ◌<◌, true, refl, List, [], ◌∷◌, length, subst, inl, inr, arith}
use Rattle.std.specs.Prelude.{◌⊎◌, ◌≤◌, Some, None, slice_get}
use Rattle.c_erasure.specs.Scopes.{ALocal, Bound, FileScope, Entity, typedef, enumerator, a_local, a_parameter, in_full, innermost, with_name}
use Rattle.c_erasure.specs.Scopes as Scopes
use Rattle.c_checking_laws.proofs.CompleteWalk.{Event, a_use, a_look, a_tag, an_end, a_name, a_literal, seen, names_in}
use Rattle.c_checking_laws.proofs.CompletePart.{Lists, IsWhole, IsFitFor, IsAfter, BlocksFit, blocks_stay, grown}
use Rattle.c_checking_laws.proofs.CompleteDeclarators.{pushed_in, parameter_fits}

-- one of so many objects
abbrev pub IsAmong : ℕ → Entity → Type 0
IsAmong o (Scopes.an_object n t) = n < o
IsAmong o e = Unit {0}

pub among_more : (o p : ℕ) (e : Entity) → o ≤ p → IsAmong o e → IsAmong p e
among_more o p (Scopes.an_object n t) l h = omega (arith, l, h)
among_more o p (typedef t) l h = tt
among_more o p (enumerator v) l h = tt
among_more o p (Scopes.a_function n t) l h = tt
among_more o p (Scopes.a_library_function which) l h = tt
among_more o p (a_local n t) l h = tt
among_more o p (a_parameter t) l h = tt

-- what the blocks declare, and what the file declares under the names up to there
pub record IsFit (g : FileScope) (c : Lists) (b : List (List Bound)) : Type 0 where
  pub complete : BlocksFit g (length c.records) b
  pub blocks : (x : List ℕ) (e : Entity) → innermost b x ≡ Some e → IsAmong (length c.objects) e
  pub names : (k : ℕ) (n : Bound) → slice_get g.names k ≡ Some n → k < length c.names → IsAmong (length c.objects) n.entity

-- inside of a function no name is added to the file
pub no_names : (w : List Event) → names_in (seen true in_full w) ≡ 0
no_names [] = refl
no_names (a_use at ∷ w) = no_names w
no_names (a_look at ∷ w) = no_names w
no_names (a_tag t ∷ w) = no_names w
no_names (an_end tag right ∷ w) = no_names w
no_names (a_name from ∷ w) = no_names w
no_names (a_literal at ∷ w) = no_names w

pub fit_after : (g : FileScope) (c d : Lists) (b : List (List Bound)) (w : List Event) → IsAfter g c (seen true in_full w) d → IsFit g c b
    → IsFit g d b
fit_after g c d b w a f =
    let n = a.names in
    let z = no_names w in
    let o = a.objects in
    record {
      complete = blocks_stay g (length c.records) (length d.records) b (grown a) f.complete;
      blocks = λ x e i. among_more (length c.objects) (length d.objects) e (omega (arith, o)) (f.blocks x e i);
      names = λ k m i l. among_more (length c.objects) (length d.objects) m.entity (omega (arith, o)) (f.names k m i (omega (arith, n, z, l)));
    }

pub fit_inside : (g : FileScope) (c : Lists) (b : List (List Bound)) → IsFit g c b → IsFit g c ([] ∷ b)
fit_inside g c b f = record { complete = λ x e i. f.complete x e i; blocks = λ x e i. f.blocks x e i; names = f.names }

module _ (g : FileScope) (w : IsWhole g) (ls : List ALocal) where
  blocks_among : (o : ℕ) (blocks : List (List Bound)) (b : Bound) → ((x : List ℕ) (e : Entity) → innermost blocks x ≡ Some e → IsAmong o e)
      → IsAmong o b.entity → (x : List ℕ) (e : Entity) → innermost (with_name blocks b) x ≡ Some e → IsAmong o e
  blocks_among o [] b f h x e i = by_place (pushed_in g w ls [] b x e None i)
    where
      by_place : (None ≡ Some e) ⊎ (b.entity ≡ e) → IsAmong o e
      by_place (inl q) = cc
      by_place (inr q) = subst (IsAmong o) q h
  blocks_among o (block ∷ outer) b f h x e i = by_place (pushed_in g w ls block b x e (innermost outer x) i)
    where
      by_place : (innermost (block ∷ outer) x ≡ Some e) ⊎ (b.entity ≡ e) → IsAmong o e
      by_place (inl q) = f x e q
      by_place (inr q) = subst (IsAmong o) q h

  -- one name more
  pub fit_named : (c : Lists) (blocks : List (List Bound)) (b : Bound) → IsFit g c blocks → IsFitFor g (length c.records) b.entity
      → IsAmong (length c.objects) b.entity → IsFit g c (with_name blocks b)
  fit_named c blocks b f h a = record {
    complete = parameter_fits g w ls (length c.records) blocks b f.complete h;
    blocks = blocks_among (length c.objects) blocks b f.blocks a;
    names = f.names;
  }
