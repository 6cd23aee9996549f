-- What finding an initializer keeps of a file (C99 6.7.8).
use Rattle.std.proofs.Common.{◌≡◌, ℕ, zero, suc, ◌+◌, Bool, true, false, refl, sym, ap, ◌∙◌, subst, List, [], ◌∷◌, ◌++◌, inl, inr}
use Rattle.std.specs.Prelude.{◌⊎◌, Option, Some, None, Ok}
use Rattle.c_types.specs.Layouts.{size_of, offset_of}
use Rattle.c_types.specs.Types.{CType, void, integer, pointer, array, function, structure, Field}
use Rattle.c_ast.specs.declared.words.Spelling.{Spelling}
use Rattle.c_ast.specs.Trees
use Rattle.c_ast.specs.Places.{first}
use Rattle.c_ast.specs.WellFormed.{IsExpression, IsInitializer, AreInitializers}
use Rattle.c_typed.specs.Trees as Typed
use Rattle.c_erasure.specs.Initializers.{Part, texts_of, is_character, is_braces}
use Rattle.c_erasure.specs.Marks.{marks, marks_of_all}
use Rattle.c_erasure.specs.Noted.{Noted}
use Rattle.c_erasure.specs.Scopes.{FileScope, Scope}
use Rattle.c_erasure.specs.Checking.Answers.{moved, with_file}
use Rattle.c_erasure.specs.Checking.Finding.{value_at, find}
use Rattle.c_erasure.specs.Checking.Initializers.{initial_value_in, initial_record_in, text_of_array, is_text, without_braces, initialized, one_value, elements}
use Rattle.c_erasure.specs.Checking.Initializers.{fields_from, initializer}
use Rattle.c_checking_laws.proofs.Results.{bound_ok, chosen, with_file_ok}
use Rattle.c_checking_laws.proofs.Adding.{file_beside, file_of, file_of_value}
use Rattle.c_checking_laws.proofs.WholeFiles.Initials.{AreBytes, IsPlain, plain, braces_bytes, many_refused, braces_alone}
use Rattle.c_checking_laws.proofs.WholeFiles.Kept.{Keeps, keeps_nothing, keeps_then}
use Rattle.c_checking_laws.proofs.WholeFiles.Keeping.{keep}

text_some : (from at n : ℕ) (b : Bool) (o : Option (List Spelling)) (parts : List Part) → text_of_array from at n b o ≡ Ok parts
    → (all : List Spelling) × (o ≡ Some all)
text_some from at n true (Some all) parts h = (all, refl)
text_some from at n true None parts h = cc
text_some from at n false (Some all) parts h = cc
text_some from at n false None parts h = cc

-- what is no initializer in braces is an expression
plain_formed : (types : List (List ℕ)) (a : Trees.Expression) → is_braces a ≡ false → IsInitializer types a → IsExpression types a
plain_formed types (Trees.braces from all last to) b g = cc
plain_formed types a b g = g.1

module _ (untagged : ℕ → List ℕ) (types : List (List ℕ)) where
  text_kept : (a : Trees.Expression) → AreBytes untagged a → (s : Scope) (from at n : ℕ) (b : Bool) (o : Option (List Spelling)) → (texts_of a ≡ o) ⊎ (o ≡ None)
      → (z : List Part × FileScope) → with_file s.file (text_of_array from at n b o) ≡ Ok z → Keeps s.file s.is_inside (marks untagged a) z.1
  text_kept a bytes s from at n b o w z h =
      let r = with_file_ok s.file (text_of_array from at n b o) z h in
      let t = text_some from at n b o z.0 r.0 in
      subst (Keeps s.file s.is_inside (marks untagged a)) r.1
      (subst (λ u. Keeps s.file s.is_inside u s.file) (sym (bytes t.0 (same w t.1)).0) (keeps_nothing s.file s.is_inside))
    where
      same : (texts_of a ≡ o) ⊎ (o ≡ None) → {all : List Spelling} → o ≡ Some all → texts_of a ≡ Some all
      same (inl e) f = e ∙ f
      same (inr e) f = cc

  plain_kept : (a : Trees.Expression) → IsPlain untagged a → (s : Scope) → s.file.untagged ≡ untagged → (s.is_inside ≡ false → IsExpression types a)
      → (t : CType) (at : ℕ) (o : Option (List Spelling)) → (texts_of a ≡ o) ⊎ (o ≡ None) → (z : List Part × FileScope)
      → without_braces (first a) at t o s.file (find a s) ≡ Ok z → Keeps s.file s.is_inside (marks untagged a) z.1
  plain_kept a p s e g void at o w z h = cc
  plain_kept a p s e g (integer kind) at o w z h =
      let x = bound_ok (value_at (first a) (find a s)) _ z h in
      let y = bound_ok (with_file x.0.1 (initial_value_in (first a) (integer kind) x.0.0)) _ z x.2 in
      file_of (Keeps s.file s.is_inside (marks untagged a)) _ z y.2
      (file_beside (Keeps s.file s.is_inside (marks untagged a)) x.0.1 _ y.0 y.1
      (file_of_value (Keeps s.file s.is_inside (marks untagged a)) (first a) (find a s) x.0 x.1 (λ v k. keep untagged types a s e g v k)))
  plain_kept a p s e g (pointer t) at o w z h =
      let x = bound_ok (value_at (first a) (find a s)) _ z h in
      let y = bound_ok (with_file x.0.1 (initial_value_in (first a) (pointer t) x.0.0)) _ z x.2 in
      file_of (Keeps s.file s.is_inside (marks untagged a)) _ z y.2
      (file_beside (Keeps s.file s.is_inside (marks untagged a)) x.0.1 _ y.0 y.1
      (file_of_value (Keeps s.file s.is_inside (marks untagged a)) (first a) (find a s) x.0 x.1 (λ v k. keep untagged types a s e g v k)))
  plain_kept a p s e g (function t all) at o w z h = cc
  plain_kept a p s e g (structure r) at o w z h =
      let x = bound_ok (find a s) _ z h in
      file_beside (Keeps s.file s.is_inside (marks untagged a)) x.0.1 (initial_record_in (first a) at (structure r) x.0.0) z x.2
      (keep untagged types a s e g x.0 x.1)
  plain_kept a p s e g (array u n) at o w z h = text_kept a p.bytes s (first a) at n (is_character u) o w z h

  one_kept : (from : ℕ) (all : Trees.Arguments) (s : Scope) → s.file.untagged ≡ untagged → (s.is_inside ≡ false → AreInitializers types true all)
      → (t : CType) (at : ℕ) (z : List Part × FileScope) → one_value from all s t at ≡ Ok z → Keeps s.file s.is_inside (marks_of_all untagged all) z.1
  unfolding one_value
  one_kept from Trees.no_arguments s e g t at z h = cc
  one_kept from (Trees.and_argument comma a (Trees.and_argument c b more)) s e g t at z h = absurd (many_refused untagged from comma a c b more s t at z h)
  one_kept from (Trees.and_argument comma (Trees.braces inner all last to) Trees.no_arguments) s e g t at z h =
      absurd (braces_alone untagged from comma inner all last to s t at z h)
  one_kept from (Trees.and_argument comma a Trees.no_arguments) s e g t at z h =
      let p = plain untagged a refl in
      subst (λ u. Keeps s.file s.is_inside u z.1) (sym (Rattle.std.proofs.Common.append-nil (marks untagged a)))
      (plain_kept a p s e (λ i. plain_formed types a refl (g i).1) t at None (inr refl) z h)

  mutual
    unfolding initialized elements fields_from

    pub keep_initial : (a : Trees.Expression) (s : Scope) → s.file.untagged ≡ untagged → (s.is_inside ≡ false → IsInitializer types a) → (t : CType) (at : ℕ)
        → (z : List Part × FileScope) → initialized a s t at ≡ Ok z → Keeps s.file s.is_inside (marks untagged a) z.1
    keep_initial (Trees.braces from all last to) s e g void at z h = cc
    keep_initial (Trees.braces from all last to) s e g (integer kind) at z h = one_kept from all s e (λ i. (g i).1) (integer kind) at z h
    keep_initial (Trees.braces from all last to) s e g (pointer t) at z h = one_kept from all s e (λ i. (g i).1) (pointer t) at z h
    keep_initial (Trees.braces from all last to) s e g (function t types) at z h = cc
    keep_initial (Trees.braces from all last to) s e g (structure r) at z h = keep_fields all s true e (λ i. (g i).1) r 0 _ at z h
    keep_initial (Trees.braces from all last to) s e g (array u n) at z h =
        let a = Trees.braces from all last to in
        chosen (is_text u (texts_of a)) _ _ z (Keeps s.file s.is_inside (marks untagged a) z.1) h
        (λ b h. text_kept a (braces_bytes untagged from all last to) s from at n true (texts_of a) (inl refl) z h)
        (λ b h. keep_elements all s true e (λ i. (g i).1) u n at z h)
    keep_initial a s e g t at z h =
        plain_kept a (plain untagged a refl) s e (λ i. plain_formed types a refl (g i)) t at (texts_of a) (inl refl) z h

    keep_elements : (all : Trees.Arguments) (s : Scope) (lead : Bool) → s.file.untagged ≡ untagged → (s.is_inside ≡ false → AreInitializers types lead all)
        → (u : CType) (n at : ℕ) (z : List Part × FileScope) → elements all s u n at ≡ Ok z → Keeps s.file s.is_inside (marks_of_all untagged all) z.1
    keep_elements Trees.no_arguments s lead e g u n at z h = file_of (Keeps s.file s.is_inside []) _ z h (keeps_nothing s.file s.is_inside)
    keep_elements (Trees.and_argument comma a more) s lead e g u zero at z h = cc
    keep_elements (Trees.and_argument comma a more) s lead e g u (suc n) at z h =
        let own = bound_ok (initialized a s u at) _ z h in
        let v = keep_initial a s e (λ i. (g i).1) u at own.0 own.1 in
        let to = at + size_of own.0.1.records u in
        let rest = bound_ok (elements more (moved s own.0.1) u n to) _ z own.2 in
        file_of (Keeps s.file s.is_inside (marks untagged a ++ marks_of_all untagged more)) _ z rest.2
        (keeps_then v (keep_elements more (moved s own.0.1) false (v.untagged ∙ e) (λ i. (g i).2) u n to rest.0 rest.1))

    keep_fields : (all : Trees.Arguments) (s : Scope) (lead : Bool) → s.file.untagged ≡ untagged → (s.is_inside ≡ false → AreInitializers types lead all)
        → (r k : ℕ) (fields : List Field) (at : ℕ) (z : List Part × FileScope) → fields_from all s r k fields at ≡ Ok z
        → Keeps s.file s.is_inside (marks_of_all untagged all) z.1
    keep_fields Trees.no_arguments s lead e g r k fields at z h = file_of (Keeps s.file s.is_inside []) _ z h (keeps_nothing s.file s.is_inside)
    keep_fields (Trees.and_argument comma a more) s lead e g r k [] at z h = cc
    keep_fields (Trees.and_argument comma a more) s lead e g r k (f ∷ later) at z h =
        let to = at + offset_of s.file.records r k in
        let own = bound_ok (initialized a s f.ty to) _ z h in
        let v = keep_initial a s e (λ i. (g i).1) f.ty to own.0 own.1 in
        let rest = bound_ok (fields_from more (moved s own.0.1) r (k + 1) later at) _ z own.2 in
        file_of (Keeps s.file s.is_inside (marks untagged a ++ marks_of_all untagged more)) _ z rest.2
        (keeps_then v (keep_fields more (moved s own.0.1) false (v.untagged ∙ e) (λ i. (g i).2) r (k + 1) later at rest.0 rest.1))

  pub keep_initializer : (a : Trees.Expression) (s : Scope) → s.file.untagged ≡ untagged → (s.is_inside ≡ false → IsInitializer types a) → (t : CType)
      → (z : Typed.Initializer Noted × FileScope) → initializer a s t ≡ Ok z → Keeps s.file s.is_inside (marks untagged a) z.1
  keep_initializer a s e g t z h =
      let x = bound_ok (initialized a s t 0) _ z h in
      file_of (Keeps s.file s.is_inside (marks untagged a)) _ z x.2 (keep_initial a s e g t 0 x.0 x.1)
