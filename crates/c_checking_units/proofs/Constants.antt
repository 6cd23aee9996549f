-- The initializer of an object of file scope: the constants that stand for the tree are found (C99 6.7.8).
use Rattle.std.proofs.Common.{◌≡◌, ℕ, ◌+◌, ◌<◌, Bool, true, false, refl, ap, ◌∙◌, subst, List, [], ◌∷◌, length}
use Rattle.std.proofs.Common.{arith, inl, inr}
use Rattle.std.proofs.lemmas.List.Elements.{All-nil}
use Rattle.std.specs.Prelude.{◌⊎◌, Option, Some, Ok, slice_get}
use Rattle.c_types.specs.Types.{CType, void, integer, pointer, array, function, structure}
use Rattle.c_types.specs.Objects.{is_object}
use Rattle.c_ast.specs.Trees
use Rattle.c_ast.specs.Places.{first}
use Rattle.c_ast.specs.WellFormed.{IsValue}
use Rattle.c_typed.specs.Trees as Typed
use Rattle.c_typed.specs.Conversions.{is_scalar, is_array, is_record}
use Rattle.c_typed.specs.Typed.{Declared}
use Rattle.c_typed.specs.TypedStatements.{IsTypedPart, IsTypedInitializer}
use Rattle.c_erasure.specs.Files.{IsTypedObject}
use Rattle.c_erasure.specs.Initializers.{is_braces, IsInitializer}
use Rattle.c_erasure.specs.Noted.{Noted}
use Rattle.c_erasure.specs.Scopes.{Bound, FileScope, Scope, Entity, typedef, enumerator, a_local, a_parameter, in_full, at_file_scope, declared}
use Rattle.c_erasure.specs.Scopes as Scopes
use Rattle.c_erasure.specs.Statements.{HasConstants}
use Rattle.c_erasure.specs.Checking.Answers.{◌>>=◌, with_file, moved}
use Rattle.c_erasure.specs.Checking.Initializers.{are_constants, constants_in}
use Rattle.c_erasure.specs.Checking.Statements.{constants_if_any}
use Rattle.c_checking_laws.proofs.CompleteFit.{IsAmong}
use Rattle.c_checking_laws.proofs.CompleteLocals.{walk_of_initial}
use Rattle.c_checking_laws.proofs.CompletePart.{Lists, part, IsBefore, IsAfter}
use Rattle.c_checking_laws.proofs.CompleteWalk.{Event}
use Rattle.c_checking_laws.proofs.Extends.{one_of_both}
use Rattle.c_checking_laws.proofs.WholeFiles.CompleteConstants.{constants_back}
use Rattle.c_checking_laws.proofs.WholeFiles.CompleteReached.{reaches}
use Rattle.c_checking_laws.proofs.WholeFiles.CompleteWholes.{AsTyped, initializer_complete}
use Rattle.c_checking_laws.proofs.WholeFiles.KeepingInitials.{keep_initializer}
use Rattle.c_checking_units.proofs.Filed.{IsWholeFile, IsFiled}
use Rattle.c_checking_units.proofs.Names.{keeps_filed}
use Rattle.c_checking_units.proofs.Steps.{At}

no_scalar : (t : CType) (b : Bool) → (is_array t ≡ true) ⊎ ((is_record t ≡ true) × (b ≡ true)) → is_scalar t ≡ false
no_scalar (array u n) b h = refl
no_scalar (structure r) b h = refl
no_scalar void b h = refl
no_scalar (function u all) b h = refl
no_scalar (integer kind) b (inl h) = cc
no_scalar (integer kind) b (inr h) = let e = h.0 in cc
no_scalar (pointer u) b (inl h) = cc
no_scalar (pointer u) b (inr h) = let e = h.0 in cc

constants_checked : (d : Declared) (at : ℕ) (i : Typed.Initializer Noted) → are_constants d i ≡ true → constants_in d at i ≡ Ok i
unfolding constants_in
constants_checked d at i h = rw h refl

-- what stands for an object stands for one of them
among_of : (o : ℕ) (e : Entity) → ((n : ℕ) (t : CType) → e ≡ Scopes.an_object n t → n < o) → IsAmong o e
among_of o (Scopes.an_object n t) h = h n t refl
among_of o (typedef t) h = tt
among_of o (enumerator v) h = tt
among_of o (Scopes.a_function n t) h = tt
among_of o (Scopes.a_library_function which) h = tt
among_of o (a_local n t) h = tt
among_of o (a_parameter t) h = tt

module _ (g : FileScope) (w : IsWholeFile g) where
  object_typed : (a : Trees.Expression) (s : Scope) (t : CType) (i : Typed.Initializer Noted) → IsTypedObject g t i → IsInitializer a s t i
      → IsTypedInitializer (declared (at_file_scope g)) t (AsTyped g w.whole [] i)
  object_typed a s t (Typed.whole x) h k = h
  object_typed a s t (Typed.whole_record p) h k = h
  object_typed a s t (Typed.parts (part ∷ more)) h k = h
  object_typed a s t (Typed.parts []) h k = by_form k
    where
      by_form : IsInitializer a s t (Typed.parts []) → IsTypedInitializer (declared (at_file_scope g)) t (AsTyped g w.whole [] (Typed.parts []))
      by_form (inl x) = let e = x.1 in cc
      by_form (inr (inl x)) = let e = x.1 in cc
      by_form (inr (inr x)) = (no_scalar t (is_braces a) x.2, All-nil (IsTypedPart (declared (at_file_scope g)) t), tt)

  -- the names of a part stand for what it has
  pub names_among : (c : Lists) → IsFiled g c → (k : ℕ) (b : Bound) → slice_get g.names k ≡ Some b → k < length c.names
      → IsAmong (length c.objects) b.entity
  names_among c f k b e l =
      among_of (length c.objects) b.entity (λ n t is. by_part n t is (one_of_both c.names f.extends.names.0 k b
      (subst (λ all. slice_get all k ≡ Some b) f.extends.names.1 e)))
    where
      by_part : (n : ℕ) (t : CType) → b.entity ≡ Scopes.an_object n t
          → (slice_get c.names k ≡ Some b) ⊎ ((j : ℕ) × (k ≡ length c.names + j) × (slice_get f.extends.names.0 j ≡ Some b)) → n < length c.objects
      by_part n t is (inl h) = f.objects_there k b h n t is
      by_part n t is (inr h) = let m = h.1 in absurd (omega (arith, l, m))

  abbrev pub Initial : Option (ℕ × Trees.Expression) → List Event
  Initial value = At (walk_of_initial g.untagged g.objects value)

  pub record FoundConstants (c : Lists) (value : Option (ℕ × Trees.Expression)) (t : CType) (i : Typed.Initializer Noted) : Type 0 where
    pub lists : Lists
    pub is : constants_if_any value (at_file_scope (part g c)) t ≡ Ok (i, part g lists)
    pub after : IsAfter g c (Initial value) lists
    pub filed : IsFiled g lists

  pub constants_found : (types : List (List ℕ)) (value : ℕ × Trees.Expression) (c : Lists) (t : CType) (i : Typed.Initializer Noted)
      → IsValue types (Some value) → IsFiled g c → is_object (length c.records) t ≡ true → IsBefore g c (Initial (Some value))
      → HasConstants (at_file_scope g) t (Some value) i → IsTypedObject g t i → FoundConstants c (Some value) t i
  constants_found types value c t i formed f known e h k =
      let typed = object_typed value.1 (at_file_scope g) t i k h.0 in
      let z = initializer_complete g w.whole [] value.1 (at_file_scope g) c t i refl (λ x e i. cc) known e h.0 typed in
      let m = z.lists in
      let kept = keep_initializer g.untagged types value.1 (at_file_scope (part g c)) refl (λ e. formed) t (i, part g m) z.is in
      let filed = keeps_filed g c m false _ f z.after.extends kept in
      let n = z.after.names in
      let r = z.after.records in
      let o = z.after.objects in
      let there = reaches g w.whole [] (at_file_scope g) (length m.records) (length m.objects) (length m.names) (λ x e i. cc) (names_among m filed)
      (length c.names) (length c.records) (length c.objects) (Initial (Some value)) (omega (arith, n)) (omega (arith, r)) (omega (arith, o)) e.follows in
      let k = constants_back g w.whole [] (at_file_scope g) refl m z.after.extends value.1 t i h.0 typed h.1 there in
      record {
        lists = m;
        is = ap (λ r. r >>= λ i. with_file i.1 (constants_in (declared (moved (at_file_scope (part g c)) i.1)) (first value.1) i.0)) z.is
            ∙ ap (with_file (part g m)) (constants_checked (declared (at_file_scope (part g m))) (first value.1) i k);
        after = z.after;
        filed = filed;
      }
