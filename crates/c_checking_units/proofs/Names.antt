-- Names of the file scope: which are the library's, and whether a declarator is the first of its name (C99 6.2.1, 6.2.2, 7.1.3).
use Rattle.std.proofs.Common.{◌≡◌, ◌≢◌, ℕ, ◌+◌, ◌≤◌, ◌<◌, Bool, true, false, refl, sym, ap, ◌∙◌, subst, cond, List, [], ◌∷◌, ◌++◌, length}
use Rattle.std.proofs.Common.{length-append, arith, inl, inr}
use Rattle.std.specs.Prelude.{◌⊎◌, Option, Some, None, slice_get, is_none, Ok}
use Rattle.std.specs.Option.{IsSome}
use Rattle.c_types.specs.Types.{CType}
use Rattle.c_ast.specs.declared.words.Spelling.{Spelling}
use Rattle.c_typed.specs.declared.operators.LibraryFunction.{LibraryFunction}
use Rattle.c_typed.specs.declared.operators.LibraryFunction.TheVariants as L
use Rattle.c_erasure.specs.Erasure.{IsBound}
use Rattle.c_erasure.specs.Files.{library_name, IsOwnName, bound, is_first, MayStandTogether}
use Rattle.c_erasure.specs.Marks.{Mark}
use Rattle.c_erasure.specs.Scopes.{FileScope, Bound, Entity, typedef, enumerator, an_object, a_function, AnObject, at_file_scope, visible, defines}
use Rattle.c_erasure.specs.Checking.Declaring.{declared_among}
use Rattle.c_erasure.specs.Checking.Files.{first_named, is_library_name, library, library_named, declare_typedef}
use Rattle.c_checking_laws.proofs.CompleteNodes.{some}
use Rattle.c_checking_laws.proofs.CompletePart.{Lists, part}
use Rattle.c_checking_laws.proofs.CompleteStructures.{below_length}
use Rattle.c_checking_laws.proofs.CompleteWalk.{IsAsked, IsNamedFrom}
use Rattle.c_checking_laws.proofs.Extends.{Extends, kept, bound_stays, one_of_both}
use Rattle.c_checking_laws.proofs.NodesOfParts.{same_bytes}
use Rattle.c_checking_laws.proofs.WholeFiles.FileScopes.{IsSameObject}
use Rattle.c_checking_laws.proofs.WholeFiles.Kept.{Keeps, IsAnEnumerator, undeclared}
use Rattle.c_checking_laws.proofs.WholeFiles.FirstNames.{none_visible, one_visible}
use Rattle.c_checking_laws.proofs.WholeFiles.Names.{declared_is}
use Rattle.c_checking_units.proofs.Filed.{IsWholeFile, IsFiled, earlier, declared_earlier, naming, next_bound, naming_filed}
use Rattle.c_checking_units.proofs.Steps.{AreBegun}

-- ---- names of the library

none_named : (all : List LibraryFunction) (x : List ℕ) → IsOwnName x → first_named all x ≡ None
none_named [] x o = refl
none_named (which ∷ all) x o = by_test (is_library_name which x) refl (none_named all x o)
  where
    by_test : (t : Bool) → is_library_name which x ≡ t → first_named all x ≡ None → cond t (Some which) (first_named all x) ≡ None
    by_test true e later = absurd (o which (sym (same_bytes (library_name which) x e)))
    by_test false e later = later

pub own_back : (x : List ℕ) → IsOwnName x → library_named x ≡ None
unfolding library_named
own_back x o = none_named library x o

library_itself : (which : LibraryFunction) → library_named (library_name which) ≡ Some which
unfolding library_named
library_itself L.Malloc = refl
library_itself L.Calloc = refl
library_itself L.Free = refl
library_itself L.Memcpy = refl
library_itself L.Memmove = refl
library_itself L.Memset = refl
library_itself L.Memcmp = refl
library_itself L.Putchar = refl
library_itself L.Getchar = refl
library_itself L.Exit = refl

pub library_back : (x : List ℕ) (which : LibraryFunction) → x ≡ library_name which → library_named x ≡ Some which
library_back x which e = ap library_named e ∙ library_itself which

-- ---- what expressions and types add: names of enumerators, and literals

pub keeps_filed : (g : FileScope) (c m : Lists) (i : Bool) (u : List Mark) → IsFiled g c → Extends (part g m) g → Keeps (part g c) i u (part g m)
    → IsFiled g m
keeps_filed g c m i u f p k = record {
  extends = p;
  objects = λ n o e. an_object_same n o (one_of_both c.objects k.objects.0 n o (subst (λ all. slice_get all n ≡ Some o) k.objects.1 e));
  functions = λ n o e. f.functions n o (subst (λ all. slice_get all n ≡ Some o) k.functions e);
  objects_there = λ j b e n t is. an_object_there j b n t is (one_of_both c.names k.names.0 j b (subst (λ all. slice_get all j ≡ Some b) k.names.1 e));
  functions_there = λ j b e n t is. a_function_there j b n t is
      (one_of_both c.names k.names.0 j b (subst (λ all. slice_get all j ≡ Some b) k.names.1 e));
  whole = k.whole f.whole;
}
  where
    an_object_same : (n : ℕ) (o : AnObject) → (slice_get c.objects n ≡ Some o) ⊎ ((j : ℕ) × (n ≡ length c.objects + j) × (slice_get k.objects.0 j ≡ Some o))
        → (p : AnObject) × (slice_get g.objects n ≡ Some p) × IsSameObject o p
    an_object_same n o (inl e) = f.objects n o e
    an_object_same n o (inr e) =
        let l = k.objects.2 e.0 o e.2 in
        let stands : slice_get m.objects n ≡ Some o =
        subst (λ all. slice_get all n ≡ Some o) (sym k.objects.1) (Rattle.c_checking_laws.proofs.Extends.behind c.objects k.objects.0 e.0 n o e.1 e.2) in
        let is : IsSome o.initial = subst (λ (o : AnObject). IsSome o.initial) (sym l.2) refl in
        (o, p.objects n o stands is, record { name = refl; first = refl; ty = refl; is_linked = refl; literal = refl; settled = λ s. refl })

    an_object_there : (j : ℕ) (b : Bound) (n : ℕ) (t : CType) → b.entity ≡ an_object n t
        → (slice_get c.names j ≡ Some b) ⊎ ((h : ℕ) × (j ≡ length c.names + h) × (slice_get k.names.0 h ≡ Some b)) → n < length m.objects
    an_object_there j b n t is (inl e) =
        let l = f.objects_there j b e n t is in
        let long = ap length k.objects.1 in
        let both = length-append c.objects k.objects.0 in
        omega (arith, l, long, both)
    an_object_there j b n t is (inr e) = let v = k.names.2 e.0 b e.2 in let no = sym is ∙ v.1 in cc

    a_function_there : (j : ℕ) (b : Bound) (n : ℕ) (t : CType) → b.entity ≡ a_function n t
        → (slice_get c.names j ≡ Some b) ⊎ ((h : ℕ) × (j ≡ length c.names + h) × (slice_get k.names.0 h ≡ Some b)) → n < length m.functions
    a_function_there j b n t is (inl e) = subst (λ all. n < length all) (sym k.functions) (f.functions_there j b e n t is)
    a_function_there j b n t is (inr e) = let v = k.names.2 e.0 b e.2 in let no = sym is ∙ v.1 in cc

module _ (g : FileScope) (w : IsWholeFile g) where
  -- before the declarator, and behind it
  pub first_same : (c m : Lists) (r : ℕ) (x : Spelling) (b : Bound) → Extends (part g c) g → Extends (part g m) g
      → (more : List Bound) × (m.names ≡ c.names ++ more) × ((k : ℕ) (b : Bound) → slice_get more k ≡ Some b → IsAnEnumerator b)
      → IsAsked g (length c.names) r x.from → AreBegun g (length c.names) x.from → b.name ≡ x.text → slice_get g.names (length m.names) ≡ Some b
      → ((v : ℕ) → b.entity ≢ enumerator v) → is_first g x ≡ is_none (declared_among m.names x.text)
  first_same c m r x b p q added asked begun n next proper = by_name (declared_among m.names x.text) refl
    where
      by_index : (k : ℕ) (a : Bound) → a.name ≡ x.text → declared_among m.names x.text ≡ None
          → (slice_get c.names k ≡ Some a) ⊎ ((j : ℕ) × (k ≡ length c.names + j) × (slice_get p.names.0 j ≡ Some a)) → slice_get g.names k ≡ Some a
          → x.from < a.from
      by_index k a same none (inl e) there =
          let stands = subst (λ all. slice_get all k ≡ Some a) (sym added.1) (kept c.names added.0 k a e) in
          absurd (undeclared m.names x.text none k a stands same)
      by_index k a same none (inr e) there = asked.0 e.0 a (subst (λ k. slice_get g.names k ≡ Some a) e.1 there)

      by_name : (o : Option Bound) → declared_among m.names x.text ≡ o → is_none (visible g.names x.text x.from) ≡ is_none o
      by_name None none = none_visible g.names x.text x.from (λ k a e same. by_index k a same none
          (one_of_both c.names p.names.0 k a (subst (λ all. slice_get all k ≡ Some a) p.names.1 e)) e)
      by_name (Some a) some =
          let d = declared_is m.names x.text a some in
          let both = earlier g w m q b next d.0 a d.1 (d.2 ∙ sym n) in
          one_visible g.names x.text x.from d.0 a (bound_stays q d.0 a d.1) d.2
          (early d.0 a both.same (bound_stays q d.0 a d.1)
          (one_of_both c.names added.0 d.0 a (subst (λ all. slice_get all d.0 ≡ Some a) added.1 d.1)))
        where
          early : (k : ℕ) (a : Bound) → a.entity ≡ b.entity → slice_get g.names k ≡ Some a
              → (slice_get c.names k ≡ Some a) ⊎ ((j : ℕ) × (k ≡ length c.names + j) × (slice_get added.0 j ≡ Some a)) → a.from ≤ x.from
          early k a same there (inl e) = begun k a there (below_length c.names k a e)
          early k a same there (inr e) = let v = added.2 e.0 a e.2 in absurd (proper v.0 (sym same ∙ v.1))

  -- ---- typedefs

  -- no name that was declared may stand with one that may not be declared again
  pub none_earlier : (c : Lists) (b : Bound) → Extends (part g c) g → slice_get g.names (length c.names) ≡ Some b
      → ((e : Entity) → e ≡ b.entity → Rattle.c_erasure.specs.Files.MayBeDeclaredAgain e → ⊥) → declared_among c.names b.name ≡ None
  none_earlier c b p next never = by_name (declared_among c.names b.name) refl
    where
      by_name : (o : Option Bound) → declared_among c.names b.name ≡ o → o ≡ None
      by_name None e = refl
      by_name (Some old) e = let both = declared_earlier g w c p b next old e in absurd (never old.entity both.same both.declared_again)

  pub typedef_complete : (c : Lists) (x : Spelling) (from : ℕ) (t : CType) → IsFiled g c → IsNamedFrom g.names (length c.names) from → IsOwnName x.text
      → IsBound (at_file_scope g) (bound x from defines (typedef t))
      → (declare_typedef (part g c) x from t ≡ Ok (part g (naming c (bound x from defines (typedef t)))))
      × IsFiled g (naming c (bound x from defines (typedef t)))
  typedef_complete c x from t f n o h =
      let b = bound x from defines (typedef t) in
      let next = next_bound g w c b n h in
      let new = none_earlier c b f.extends next (λ e same again. subst Rattle.c_erasure.specs.Files.MayBeDeclaredAgain same again) in
      let own = own_back x.text o in (
        rw (own, new) refl,
        naming_filed g w c f b next (λ n t e. cc) (λ n t e. cc),
      )
