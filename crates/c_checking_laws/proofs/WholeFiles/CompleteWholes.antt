-- The initializer of a whole object: the one that stands for the tree is found (C99 6.7.8).
use Rattle.std.proofs.Common.{◌≡◌, Bool, true, false, refl, sym, ap, ◌∙◌, subst, List, [], ◌∷◌, length, cond, inl, inr}
use Rattle.std.proofs.lemmas.List.Elements.{All-head, All-tail}
use Rattle.std.specs.Prelude.{◌⊎◌, ◌&&◌, ◌||◌, not, All, map}
use Rattle.c_types.specs.Types.{CType, void, integer, pointer, array, function, structure}
use Rattle.c_types.specs.Objects.{is_object}
use Rattle.c_ast.specs.Trees
use Rattle.c_typed.specs.Trees as Typed
use Rattle.c_typed.specs.Conversions.{is_scalar, is_array, is_record}
use Rattle.c_typed.specs.Mapped.{of_types, mapped_part, mapped_initializer}
use Rattle.c_typed.specs.Typed.{Declared}
use Rattle.c_typed.specs.TypedStatements.{IsTypedPart, IsTypedInitializer}
use Rattle.c_erasure.specs.Initializers.{Part, part_at, is_braces, IsInitializer}
use Rattle.c_erasure.specs.Noted.{Noted, Expression}
use Rattle.c_erasure.specs.Scopes.{ALocal, FileScope, Scope, in_full, declared}
use Rattle.c_erasure.specs.Checking.Answers.{◌>>=◌, moved}
use Rattle.c_erasure.specs.Checking.Initializers.{initialized, whole_of, initializer}
use Rattle.c_checking_laws.proofs.Results.{ok}
use Rattle.c_checking_laws.proofs.CompletePart.{whole, Lists, part, IsWhole, IsBefore, Done, BlocksFit}
use Rattle.c_checking_laws.proofs.CompleteStatements.{inner}
use Rattle.c_checking_laws.proofs.CompleteLocals.{CompletesInitializer}
use Rattle.c_checking_laws.proofs.WholeFiles.CompleteValues.{HaveTypes}
use Rattle.c_checking_laws.proofs.WholeFiles.CompleteParts.{Walk, Here}
use Rattle.c_checking_laws.proofs.WholeFiles.CompleteInitials.{finds}

-- ---- what parts make

scalar_whole : (t : CType) (b : Bool) (x : Expression) → is_scalar t ≡ true → whole_of t b (part_at 0 (Typed.value x)) ≡ Typed.whole x
scalar_whole t b x i = ap (λ k. cond (k || (is_record t && not b)) (Typed.whole x) (Typed.parts (part_at 0 (Typed.value x)))) i

record_whole : (t : CType) (b : Bool) (p : Typed.Path Noted) → is_record t ≡ true → b ≡ false
    → whole_of t b (part_at 0 (Typed.record_of p)) ≡ Typed.whole_record p
record_whole (structure r) b p i e = ap (λ b. whole_of (structure r) b (part_at 0 (Typed.record_of p))) e
record_whole void b p i e = cc
record_whole (integer kind) b p i e = cc
record_whole (pointer t) b p i e = cc
record_whole (array t n) b p i e = cc
record_whole (function t all) b p i e = cc

array_parts : (t : CType) (b : Bool) (parts : List Part) → is_array t ≡ true → whole_of t b parts ≡ Typed.parts parts
array_parts (array t n) b parts i = refl
array_parts void b parts i = cc
array_parts (integer kind) b parts i = cc
array_parts (pointer t) b parts i = cc
array_parts (function t all) b parts i = cc
array_parts (structure r) b parts i = cc

record_parts : (t : CType) (b : Bool) (parts : List Part) → is_record t ≡ true → b ≡ true → whole_of t b parts ≡ Typed.parts parts
record_parts (structure r) b parts i e = ap (λ b. whole_of (structure r) b parts) e
record_parts void b parts i e = cc
record_parts (integer kind) b parts i e = cc
record_parts (pointer t) b parts i e = cc
record_parts (array t n) b parts i e = cc
record_parts (function t all) b parts i e = cc

pub typed_parts : (d : Declared) (t : CType) (parts : List Part) → All (IsTypedPart d t) (map (mapped_part (of_types (λ t. t.ty))) parts)
    → HaveTypes d parts
typed_parts d t [] h = tt
typed_parts d t (part ∷ more) h =
    let x = mapped_part (of_types (λ t. t.ty)) part in
    let all = map (mapped_part (of_types (λ t. t.ty))) more in
    let k = All-head (IsTypedPart d t) x all h in
    ((k.0, k.2), typed_parts d t more (All-tail (IsTypedPart d t) x all h))

module _ (g : FileScope) (w : IsWhole g) (ls : List ALocal) where
  abbrev pub AsTyped : Typed.Initializer Noted → Typed.Initializer CType
  AsTyped i = mapped_initializer (of_types (λ t. t.ty)) i

  made : (a : Trees.Expression) (s : Scope) (c : Lists) (t : CType) (parts : List Part) (i : Typed.Initializer Noted)
      → whole_of t (is_braces a) parts ≡ i → Done g c (Here g w ls s (Walk g w ls a)) (initialized a (moved s (part g c)) t 0) parts
      → Done g c (Here g w ls s (Walk g w ls a)) (initializer a (moved s (part g c)) t) i
  made a s c t parts i e z = record {
    lists = z.lists;
    is = ap (λ r. r >>= λ parts. ok (whole_of t (is_braces a) parts.0, parts.1)) z.is ∙ ap (λ i. ok (i, part g z.lists)) e;
    after = z.after;
  }

  -- of an object whose type is complete there
  pub initializer_complete : (a : Trees.Expression) (s : Scope) (c : Lists) (t : CType) (i : Typed.Initializer Noted) → s.purpose ≡ in_full
      → BlocksFit g (length c.records) s.blocks → is_object (length c.records) t ≡ true → IsBefore g c (Here g w ls s (Walk g w ls a))
      → IsInitializer a (whole g ls s) t i → IsTypedInitializer (declared (whole g ls s)) t (AsTyped i)
      → Done g c (Here g w ls s (Walk g w ls a)) (initializer a (moved s (part g c)) t) i
  initializer_complete a s c t i full f known b (inl h) k =
      let k : IsTypedInitializer (declared (whole g ls s)) t (AsTyped (Typed.whole h.0)) =
      subst (λ i. IsTypedInitializer (declared (whole g ls s)) t (AsTyped i)) h.1 k in
      made a s c t (part_at 0 (Typed.value h.0)) i (scalar_whole t (is_braces a) h.0 h.2 ∙ sym h.1)
      (finds g w ls a s c t 0 (part_at 0 (Typed.value h.0)) full f known b h.3 ((t, k), tt))
  initializer_complete a s c t i full f known b (inr (inl h)) k =
      let k : IsTypedInitializer (declared (whole g ls s)) t (AsTyped (Typed.whole_record h.0)) =
      subst (λ i. IsTypedInitializer (declared (whole g ls s)) t (AsTyped i)) h.1 k in
      made a s c t (part_at 0 (Typed.record_of h.0)) i (record_whole t (is_braces a) h.0 h.2 h.3 ∙ sym h.1)
      (finds g w ls a s c t 0 (part_at 0 (Typed.record_of h.0)) full f known b h.4 ((t, k), tt))
  initializer_complete a s c t i full f known b (inr (inr h)) k =
      let k : IsTypedInitializer (declared (whole g ls s)) t (AsTyped (Typed.parts h.0)) =
      subst (λ i. IsTypedInitializer (declared (whole g ls s)) t (AsTyped i)) h.1 k in
      made a s c t h.0 i (by_type h.2 ∙ sym h.1) (finds g w ls a s c t 0 h.0 full f known b h.3 (typed_parts (declared (whole g ls s)) t h.0 k.1))
    where
      by_type : (is_array t ≡ true) ⊎ ((is_record t ≡ true) × (is_braces a ≡ true)) → whole_of t (is_braces a) h.0 ≡ Typed.parts h.0
      by_type (inl e) = array_parts t (is_braces a) h.0 e
      by_type (inr e) = record_parts t (is_braces a) h.0 e.0 e.1

  -- inside of a function
  pub initials_complete : (a : Trees.Expression) → CompletesInitializer g w ls a
  initials_complete a b l c t i f known e h k = initializer_complete a (inner g w ls b l c) c t i refl f known e h k
