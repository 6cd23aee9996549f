-- Scopes whose names stand for things of types of which something holds (C99 6.2.1).
use Rattle.std.proofs.Common.{◌≡◌, ℕ, Bool, true, false, refl, subst, cond, List, [], ◌∷◌, ◌++◌}
use Rattle.std.specs.Prelude.{Option, Some, None}
use Rattle.std.specs.List.{AllByRecursion}
use Rattle.std.specs.Option.{option_map}
use Rattle.std.specs.Str.{bytes_eq}
use Rattle.c_types.specs.Types.{CType}
use Rattle.c_ast.specs.declared.words.Spelling.{Spelling}
use Rattle.c_erasure.specs.Scopes.{Entity, typedef, enumerator, an_object, a_function, a_library_function, a_local, a_parameter, Bound, FileScope, Scope}
use Rattle.c_erasure.specs.Scopes.{inside, with_name, with_local, with_parameter, declared_in, innermost, visible, named, or_else}

some_is : {A : Type 0} (x y : A) → Some x ≡ Some y → x ≡ y
some_is x y h = cc

-- of each of two lists
pub joined : {A : Type 0} (P : A → Type 0) (xs ys : List A) → AllByRecursion P xs → AllByRecursion P ys → AllByRecursion P (xs ++ ys)
joined P [] ys h k = k
joined P (x ∷ xs) ys h k = (h.0, joined P xs ys h.1 k)

-- the type for which a name stands, or of what it names, is so
abbrev pub IsEntityOf : (CType → Type 0) → Entity → Type 0
IsEntityOf W (typedef t) = W t
IsEntityOf W (enumerator v) = Unit {0}
IsEntityOf W (an_object n t) = W t
IsEntityOf W (a_function n t) = W t
IsEntityOf W (a_library_function which) = Unit {0}
IsEntityOf W (a_local n t) = W t
IsEntityOf W (a_parameter t) = W t

pub entity_again : (V W : CType → Type 0) → ((t : CType) → V t → W t) → (e : Entity) → IsEntityOf V e → IsEntityOf W e
entity_again V W f (typedef t) h = f t h
entity_again V W f (enumerator v) h = tt
entity_again V W f (an_object n t) h = f t h
entity_again V W f (a_function n t) h = f t h
entity_again V W f (a_library_function which) h = tt
entity_again V W f (a_local n t) h = f t h
entity_again V W f (a_parameter t) h = f t h

abbrev pub AreNamesOf : (CType → Type 0) → List Bound → Type 0
AreNamesOf W block = AllByRecursion (λ b. IsEntityOf W b.entity) block

names_again : (V W : CType → Type 0) → ((t : CType) → V t → W t) → (block : List Bound) → AreNamesOf V block → AreNamesOf W block
names_again V W f [] h = tt
names_again V W f (b ∷ block) h = (entity_again V W f b.entity h.0, names_again V W f block h.1)

blocks_again : (V W : CType → Type 0) → ((t : CType) → V t → W t) → (blocks : List (List Bound)) → AllByRecursion (AreNamesOf V) blocks
    → AllByRecursion (AreNamesOf W) blocks
blocks_again V W f [] h = tt
blocks_again V W f (block ∷ outer) h = (names_again V W f block h.0, blocks_again V W f outer h.1)

module _ (f : FileScope) (W : CType → Type 0) where
  abbrev IsEntity : Entity → Type 0
  IsEntity e = IsEntityOf W e

  abbrev AreBlocks : List (List Bound) → Type 0
  AreBlocks blocks = AllByRecursion (AreNamesOf W) blocks

  -- a scope of the file, whose blocks declare such names
  abbrev pub IsScopeOf : Scope → Type 0
  IsScopeOf s = (s.file ≡ f) × AreBlocks s.blocks

  declared_of : (block : List Bound) (x : List ℕ) (c : Bound) → AreNamesOf W block → declared_in block x ≡ Some c → IsEntity c.entity
  declared_of [] x c h e = cc
  declared_of (b ∷ block) x c h e = by_test (bytes_eq b.name x) e (declared_of block x c h.1)
    where
      by_test : (t : Bool) → cond t (Some b) (declared_in block x) ≡ Some c → (declared_in block x ≡ Some c → IsEntity c.entity) → IsEntity c.entity
      by_test true e k = subst (λ (b : Bound). IsEntity b.entity) (some_is b c e) h.0
      by_test false e k = k e

  innermost_of : (blocks : List (List Bound)) (x : List ℕ) (e : Entity) → AreBlocks blocks → innermost blocks x ≡ Some e → IsEntity e
  innermost_of [] x e h k = cc
  innermost_of (block ∷ outer) x e h k = by_block (declared_in block x) refl k (innermost_of outer x e h.1)
    where
      by_block : (o : Option Bound) → declared_in block x ≡ o → or_else (option_map (λ (b : Bound). b.entity) o) (innermost outer x) ≡ Some e
          → (innermost outer x ≡ Some e → IsEntity e) → IsEntity e
      by_block None d k again = again k
      by_block (Some c) d k again = subst IsEntity (some_is c.entity e k) (declared_of block x c h.0 d)

  -- a name stands for what a block declares, or what the file does
  pub named_in : (s : Scope) (x : List ℕ) (at : ℕ) (e : Entity) → IsScopeOf s → (visible f.names x at ≡ Some e → IsEntity e)
      → named s x at ≡ Some e → IsEntity e
  named_in s x at e i known h = by_blocks (innermost s.blocks x) refl h
    where
      by_blocks : (o : Option Entity) → innermost s.blocks x ≡ o → or_else o (visible s.file.names x at) ≡ Some e → IsEntity e
      by_blocks None b h = known (subst (λ (f : FileScope). visible f.names x at ≡ Some e) i.0 h)
      by_blocks (Some c) b h = subst IsEntity (some_is c e h) (innermost_of s.blocks x c i.1 b)

  with_name_of : (blocks : List (List Bound)) (b : Bound) → AreBlocks blocks → IsEntity b.entity → AreBlocks (with_name blocks b)
  with_name_of [] b h m = ((m, tt), tt)
  with_name_of (block ∷ outer) b h m = (joined (λ (b : Bound). IsEntity b.entity) block (b ∷ []) h.0 (m, tt), h.1)

  pub with_local_in : (s : Scope) (b : Bound) → IsScopeOf s → IsEntity b.entity → IsScopeOf (with_local s b)
  with_local_in s b i m = (i.0, with_name_of s.blocks b i.1 m)

  pub inside_of : (s : Scope) → IsScopeOf s → IsScopeOf (inside s)
  inside_of s i = (i.0, (tt, i.1))

  pub with_parameter_of : (s : Scope) (x : Spelling) (t : CType) → IsScopeOf s → W t → IsScopeOf (with_parameter s x.text x.from t)
  with_parameter_of s x t i m = (i.0, with_name_of s.blocks _ i.1 m)

pub scope_again : (f : FileScope) (V W : CType → Type 0) → ((t : CType) → V t → W t) → (s : Scope) → IsScopeOf f V s → IsScopeOf f W s
scope_again f V W again s i = (i.0, blocks_again V W again s.blocks i.1)
