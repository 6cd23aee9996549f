-- A file in which more is declared: all that was found in the smaller one is found there.
use Rattle.std.proofs.Common.{◌≡◌, ℕ, zero, suc, ◌+◌, ◌≤◌, List, [], ◌∷◌, ◌++◌, length, take, drop, refl, sym, ap, ◌∙◌, subst, append_assoc, append-nil, arith}
use Rattle.std.proofs.Common.{inl, inr, length-append}
use Rattle.std.specs.Prelude.{map, Option, Some, None, IsSome, slice_get, ◌⊎◌}
use Rattle.c_types.specs.Types.{CType, Record}
use Rattle.c_typed.specs.declared.program.MentionKind.{MentionKind}
use Rattle.c_erasure.specs.Scopes.{Bound, AnObject, FileScope, Scope, IsListedAt, or_else, visible, innermost, named, Entity}
use Rattle.c_erasure.specs.Checking.Answers.{moved}

-- ---- lists

pub kept : {X : Type 0} (xs ys : List X) (k : ℕ) (x : X) → slice_get xs k ≡ Some x → slice_get (xs ++ ys) k ≡ Some x
kept [] ys k x e = cc
kept (z ∷ xs) ys zero x e = e
kept (z ∷ xs) ys (suc k) x e = kept xs ys k x e

pub behind : {X : Type 0} (xs ys : List X) (k n : ℕ) (y : X) → n ≡ length xs + k → slice_get ys k ≡ Some y → slice_get (xs ++ ys) n ≡ Some y
behind [] ys k n y e h = let f : n ≡ k = omega (arith, e) in rw f h
behind (x ∷ xs) ys k zero y e h = absurd (omega (arith, e))
behind (x ∷ xs) ys k (suc n) y e h = behind xs ys k n y (omega (arith, e)) h

-- what stands in two lists one after the other
pub one_of_both : {X : Type 0} (xs ys : List X) (k : ℕ) (x : X) → slice_get (xs ++ ys) k ≡ Some x
    → (slice_get xs k ≡ Some x) ⊎ ((j : ℕ) × (k ≡ length xs + j) × (slice_get ys j ≡ Some x))
one_of_both [] ys k x e = inr (k, omega arith, e)
one_of_both (z ∷ xs) ys zero x e = inl e
one_of_both {X} (z ∷ xs) ys (suc k) x e = next (one_of_both xs ys k x e)
  where
    next : (slice_get xs k ≡ Some x) ⊎ ((j : ℕ) × (k ≡ length xs + j) × (slice_get ys j ≡ Some x))
        → (slice_get (z ∷ xs) (suc k) ≡ Some x) ⊎ ((j : ℕ) × (suc k ≡ length (z ∷ xs) + j) × (slice_get ys j ≡ Some x))
    next (inl h) = inl h
    next (inr h) = inr (h.0, omega (arith, h.1), h.2)

-- the last of a list, or one before it
pub last_or : {X : Type 0} (xs : List X) (y : X) (k : ℕ) (x : X) → slice_get (xs ++ y ∷ []) k ≡ Some x
    → (slice_get xs k ≡ Some x) ⊎ ((k ≡ length xs) × (y ≡ x))
last_or {X} xs y k x e = at (one_of_both xs (y ∷ []) k x e)
  where
    at : (slice_get xs k ≡ Some x) ⊎ ((j : ℕ) × (k ≡ length xs + j) × (slice_get (y ∷ []) j ≡ Some x)) → (slice_get xs k ≡ Some x) ⊎ ((k ≡ length xs) × (y ≡ x))
    at (inl h) = inl h
    at (inr (zero, h, e)) = inr (omega (arith, h), let f : y ≡ x = cc in f)
    at (inr (suc j, h, e)) = cc

pub at_end : {X : Type 0} (xs : List X) (y : X) → slice_get (xs ++ y ∷ []) (length xs) ≡ Some y
at_end xs y = behind xs (y ∷ []) 0 (length xs) y (omega arith) refl

-- what is put among others
pub around : {X : Type 0} (n : ℕ) (xs : List X) (y : X) (k : ℕ) (x : X) → slice_get xs k ≡ Some x
    → (j : ℕ) × (slice_get (take n xs ++ y ∷ drop n xs) j ≡ Some x)
around n [] y k x e = cc
around zero (z ∷ xs) y k x e = (suc k, e)
around (suc n) (z ∷ xs) y zero x e = (zero, e)
around (suc n) (z ∷ xs) y (suc k) x e = let r = around n xs y k x e in (suc r.0, r.1)

pub among : {X : Type 0} (n : ℕ) (xs : List X) (y : X) → (j : ℕ) × (slice_get (take n xs ++ y ∷ drop n xs) j ≡ Some y)
among zero xs y = (zero, refl)
among (suc n) [] y = (zero, refl)
among (suc n) (z ∷ xs) y = let r = among n xs y in (suc r.0, r.1)

-- ---- the second file goes on from the first

pub record Extends (f g : FileScope) : Type 0 where
  pub file : g.file ≡ f.file
  pub tags : g.tags ≡ f.tags
  pub ends : g.ends ≡ f.ends
  pub numbered : g.numbered ≡ f.numbered
  pub untagged : g.untagged ≡ f.untagged
  pub names : (more : List Bound) × (g.names ≡ f.names ++ more)
  pub records : (more : List Record) × (g.records ≡ f.records ++ more)
  pub mentions : (kind : MentionKind) (t : CType) (at : ℕ) → IsListedAt f.mentions kind t at → IsListedAt g.mentions kind t at
  -- each object keeps its type, and all else where it has an initializer
  pub types : (n : ℕ) (t : CType) → slice_get (map (λ o. o.ty) f.objects) n ≡ Some t → slice_get (map (λ o. o.ty) g.objects) n ≡ Some t
  pub objects : (n : ℕ) (o : AnObject) → slice_get f.objects n ≡ Some o → IsSome o.initial → slice_get g.objects n ≡ Some o
  pub functions : (n : ℕ) (t : CType) → slice_get (map (λ o. o.ty) f.functions) n ≡ Some t → slice_get (map (λ o. o.ty) g.functions) n ≡ Some t

pub itself : (f : FileScope) → Extends f f
itself f = record {
  file = refl;
  tags = refl;
  ends = refl;
  numbered = refl;
  untagged = refl;
  names = ([], sym (append-nil f.names));
  records = ([], sym (append-nil f.records));
  mentions = λ kind t at h. h;
  types = λ n t h. h;
  objects = λ n o h i. h;
  functions = λ n t h. h;
}

longer : {X : Type 0} (a b c : List X) → (more : List X) × (b ≡ a ++ more) → (more : List X) × (c ≡ b ++ more) → (more : List X) × (c ≡ a ++ more)
longer a b c p q = (p.0 ++ q.0, q.1 ∙ ap (λ z. z ++ q.0) p.1 ∙ append_assoc a p.0 q.0)

pub further : {f g h : FileScope} → Extends f g → Extends g h → Extends f h
further {f} {g} {h} p q = record {
  file = q.file ∙ p.file;
  tags = q.tags ∙ p.tags;
  ends = q.ends ∙ p.ends;
  numbered = q.numbered ∙ p.numbered;
  untagged = q.untagged ∙ p.untagged;
  names = longer f.names g.names h.names p.names q.names;
  records = longer f.records g.records h.records p.records q.records;
  mentions = λ kind t at x. q.mentions kind t at (p.mentions kind t at x);
  types = λ n t x. q.types n t (p.types n t x);
  objects = λ n o x i. q.objects n o (p.objects n o x i) i;
  functions = λ n t x. q.functions n t (p.functions n t x);
}

pub records_grow : {f g : FileScope} → Extends f g → length f.records ≤ length g.records
records_grow {f} {g} p = omega (arith, ap length p.records.1, length-append f.records p.records.0)

-- ---- what is found stays found

pub bound_stays : {f g : FileScope} → Extends f g → (k : ℕ) (b : Bound) → slice_get f.names k ≡ Some b → slice_get g.names k ≡ Some b
bound_stays {f} {g} p k b h = rw p.names.1 (kept f.names p.names.0 k b h)

pub record_stays : {f g : FileScope} → Extends f g → (k : ℕ) (r : Record) → slice_get f.records k ≡ Some r → slice_get g.records k ≡ Some r
record_stays {f} {g} p k r h = rw p.records.1 (kept f.records p.records.0 k r h)

or_stays : {A : Type 0} (o n m : Option A) (e : A) → ((e : A) → n ≡ Some e → m ≡ Some e) → or_else o n ≡ Some e → or_else o m ≡ Some e
or_stays None n m e p h = p e h
or_stays (Some x) n m e p h = h

visible_stays : (all more : List Bound) (x : List ℕ) (at : ℕ) (e : Entity) → visible all x at ≡ Some e → visible (all ++ more) x at ≡ Some e
visible_stays [] more x at e h = cc
visible_stays (b ∷ all) more x at e h = or_stays _ _ _ e (λ e h. visible_stays all more x at e h) h

pub named_stays : (s : Scope) (g : FileScope) → Extends s.file g → (x : List ℕ) (at : ℕ) (e : Entity) → named s x at ≡ Some e → named (moved s g) x at ≡ Some e
named_stays s g p x at e h =
    or_stays (innermost s.blocks x) _ _ e (λ e h. subst (λ all. visible all x at ≡ Some e) (sym p.names.1) (visible_stays s.file.names p.names.0 x at e h)) h

-- what holds of the constants of a file holds of those of a larger one
pub constants_stay : {f g : FileScope} → Extends f g → (P : List ℕ → ℕ → Type 0) → P f.ends f.file → P g.ends g.file
constants_stay {f} {g} p P h = subst (λ ends. P ends g.file) (sym p.ends) (subst (λ file. P f.ends file) (sym p.file) h)
