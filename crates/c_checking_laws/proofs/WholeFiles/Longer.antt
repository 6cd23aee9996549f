-- A scope as the whole function sees it: in a later file, with all locals.
use Rattle.std.proofs.Common.{◌≡◌, ℕ, zero, suc, Bool, sym, ap, ◌∙◌, subst, List, [], ◌∷◌, ◌++◌, append_assoc}
use Rattle.std.specs.Prelude.{map, Some, slice_get}
use Rattle.c_erasure.specs.Marks.{Mark}
use Rattle.c_erasure.specs.Scopes.{FileScope, Scope, Bound, ALocal, Entity, typedef, enumerator, an_object, a_function, a_library_function, a_local}
use Rattle.c_erasure.specs.Scopes.{a_parameter}
use Rattle.c_checking_laws.proofs.Agreement.{IsFit, AreFit, BlocksAreFit, IsReady}

-- in a later file, with all locals
abbrev pub seen : Scope → FileScope → List ALocal → Scope
seen s g l = record s { file = g; locals = l }

abbrev pub GoesOn : {X : Type 0} → List X → List X → Type 0
GoesOn {X} xs ys = (more : List X) × (ys ≡ xs ++ more)

pub goes_further : {X : Type 0} (xs ys zs : List X) → GoesOn xs ys → GoesOn ys zs → GoesOn xs zs
goes_further xs ys zs p q = (p.0 ++ q.0, q.1 ∙ ap (λ z. z ++ q.0) p.1 ∙ append_assoc xs p.0 q.0)

map_kept : {X Y : Type 0} (v : X → Y) (xs ys : List X) (k : ℕ) (y : Y) → slice_get (map v xs) k ≡ Some y → slice_get (map v (xs ++ ys)) k ≡ Some y
map_kept v [] ys k y e = cc
map_kept v (x ∷ xs) ys zero y e = e
map_kept v (x ∷ xs) ys (suc k) y e = map_kept v xs ys k y e

fit_longer : (f : FileScope) (locals more : List ALocal) (e : Entity) → IsFit f locals e → IsFit f (locals ++ more) e
fit_longer f locals more (typedef t) h = h
fit_longer f locals more (enumerator v) h = h
fit_longer f locals more (an_object n t) h = h
fit_longer f locals more (a_function n t) h = h
fit_longer f locals more (a_library_function which) h = h
fit_longer f locals more (a_local n t) h = map_kept (λ l. l.ty) locals more n t h
fit_longer f locals more (a_parameter t) h = h

pub fits_longer : (f : FileScope) (locals more : List ALocal) (all : List Bound) → AreFit f locals all → AreFit f (locals ++ more) all
fits_longer f locals more [] h = h
fits_longer f locals more (b ∷ all) h = (fit_longer f locals more b.entity h.0, fits_longer f locals more all h.1)

pub blocks_longer : (f : FileScope) (locals more : List ALocal) (all : List (List Bound)) → BlocksAreFit f locals all → BlocksAreFit f (locals ++ more) all
blocks_longer f locals more [] h = h
blocks_longer f locals more (b ∷ all) h = (fits_longer f locals more b h.0, blocks_longer f locals more all h.1)

pub ready_longer : {f : FileScope} {locals l : List ALocal} {blocks : List (List Bound)} {b : Bool} {u : List Mark} → GoesOn locals l
    → IsReady f locals blocks b u → IsReady f l blocks b u
ready_longer {f} {locals} {l} {blocks} p r = record {
  names_fit = subst (λ l. AreFit f l f.names) (sym p.1) (fits_longer f locals p.0 f.names r.names_fit);
  blocks_fit = subst (λ l. BlocksAreFit f l blocks) (sym p.1) (blocks_longer f locals p.0 blocks r.blocks_fit);
  ends_stand = r.ends_stand;
}
