-- No name stands for the object of a string literal: the names of blocks stand for locals, parameters and `static` objects, and those of the file scope for
-- what their declarators declare (C99 6.2.1, 6.4.5).
use Rattle.std.proofs.Common.{◌≡◌, ℕ, Bool, true, false, refl, subst, cond, List, [], ◌∷◌, ◌++◌}
use Rattle.std.specs.Prelude.{Option, Some, None, slice_get}
use Rattle.std.specs.List.{AllByRecursion}
use Rattle.std.specs.Option.{option_map}
use Rattle.std.specs.Str.{bytes_eq}
use Rattle.c_erasure.specs.Scopes.{Entity, an_object, Bound, AnObject, FileScope, Scope, with_name, declared_in, innermost, visible, named, or_else}

some_is : {A : Type 0} (x y : A) → Some x ≡ Some y → x ≡ y
some_is x y h = cc

joined : {A : Type 0} (P : A → Type 0) (xs ys : List A) → AllByRecursion P xs → AllByRecursion P ys → AllByRecursion P (xs ++ ys)
joined P [] ys h k = k
joined P (x ∷ xs) ys h k = (h.0, joined P xs ys h.1 k)

-- an object that is none of a literal
abbrev pub IsOwn : FileScope → ℕ → Type 0
IsOwn f n = (o : AnObject) × (slice_get f.objects n ≡ Some o) × (o.literal ≡ None)

abbrev pub IsOwnEntity : FileScope → Entity → Type 0
IsOwnEntity f (an_object n t) = IsOwn f n
IsOwnEntity f e = Unit {0}

module _ (f : FileScope) where
  abbrev AreOwnNames : List Bound → Type 0
  AreOwnNames block = AllByRecursion (λ b. IsOwnEntity f b.entity) block

  abbrev pub AreOwnBlocks : List (List Bound) → Type 0
  AreOwnBlocks blocks = AllByRecursion AreOwnNames blocks

  declared_own : (block : List Bound) (x : List ℕ) (c : Bound) → AreOwnNames block → declared_in block x ≡ Some c → IsOwnEntity f c.entity
  declared_own [] x c h e = cc
  declared_own (b ∷ block) x c h e = by_test (bytes_eq b.name x) e (declared_own block x c h.1)
    where
      by_test : (t : Bool) → cond t (Some b) (declared_in block x) ≡ Some c → (declared_in block x ≡ Some c → IsOwnEntity f c.entity) → IsOwnEntity f c.entity
      by_test true e k = subst (λ (b : Bound). IsOwnEntity f b.entity) (some_is b c e) h.0
      by_test false e k = k e

  innermost_own : (blocks : List (List Bound)) (x : List ℕ) (e : Entity) → AreOwnBlocks blocks → innermost blocks x ≡ Some e → IsOwnEntity f e
  innermost_own [] x e h k = cc
  innermost_own (block ∷ outer) x e h k = by_block (declared_in block x) refl k (innermost_own outer x e h.1)
    where
      by_block : (o : Option Bound) → declared_in block x ≡ o → or_else (option_map (λ (b : Bound). b.entity) o) (innermost outer x) ≡ Some e
          → (innermost outer x ≡ Some e → IsOwnEntity f e) → IsOwnEntity f e
      by_block None d k again = again k
      by_block (Some c) d k again = subst (IsOwnEntity f) (some_is c.entity e k) (declared_own block x c h.0 d)

  pub named_own : (s : Scope) (x : List ℕ) (at : ℕ) (e : Entity) → s.file ≡ f → AreOwnBlocks s.blocks
      → (visible f.names x at ≡ Some e → IsOwnEntity f e) → named s x at ≡ Some e → IsOwnEntity f e
  named_own s x at e i own known h = by_blocks (innermost s.blocks x) refl h
    where
      by_blocks : (o : Option Entity) → innermost s.blocks x ≡ o → or_else o (visible s.file.names x at) ≡ Some e → IsOwnEntity f e
      by_blocks None b h = known (subst (λ (f : FileScope). visible f.names x at ≡ Some e) i h)
      by_blocks (Some c) b h = subst (IsOwnEntity f) (some_is c e h) (innermost_own s.blocks x c own b)

  pub with_own : (blocks : List (List Bound)) (b : Bound) → AreOwnBlocks blocks → IsOwnEntity f b.entity → AreOwnBlocks (with_name blocks b)
  with_own [] b h m = ((m, tt), tt)
  with_own (block ∷ outer) b h m = (joined (λ (b : Bound). IsOwnEntity f b.entity) block (b ∷ []) h.0 (m, tt), h.1)
