-- Objects of file scope: what a declarator declares is what is found (C99 6.2.2, 6.9.2).
use Rattle.std.proofs.Common.{◌≡◌, ◌≢◌, ℕ, zero, suc, ◌+◌, ◌<◌, Bool, true, false, refl, sym, ap, ◌∙◌, subst, cond, List, [], ◌∷◌, ◌++◌, length}
use Rattle.std.proofs.Common.{length-append, arith, inl, inr}
use Rattle.std.specs.Prelude.{◌⊎◌, ◌&&◌, not, Option, Some, None, Ok, slice_get, is_none, codes}
use Rattle.std.specs.Option.{IsSome}
use Rattle.lay_base.specs.declared.faults.Rule.TheVariants as R
use Rattle.c_types.specs.Objects.{is_object}
use Rattle.c_types.specs.Types.{CType}
use Rattle.c_types.proofs.SameTypes.{same_self}
use Rattle.c_ast.specs.declared.words.Spelling.{Spelling}
use Rattle.c_erasure.specs.Files.{IsLinkage, IsFirst}
use Rattle.c_erasure.specs.Scopes.{FileScope, Bound, Entity, an_object, a_function, AnObject, at_file_scope, defines}
use Rattle.c_erasure.specs.Specifiers.{Storage, no_storage, a_typedef, is_extern, is_static, is_auto, is_register, several}
use Rattle.c_erasure.specs.Checking.Answers.{refused}
use Rattle.c_erasure.specs.Checking.Declaring.{declared_among}
use Rattle.c_erasure.specs.Checking.Files.{is_main, links, linkage_agrees, linked_before, new_object}
use Rattle.c_erasure.specs.Checking.Files.{known_object, object_of, defined_among}
use Rattle.c_checking_laws.proofs.CompleteNodes.{some, some_is}
use Rattle.c_checking_laws.proofs.CompletePart.{Lists, part}
use Rattle.c_checking_laws.proofs.Extends.{Extends, last_or}
use Rattle.c_checking_laws.proofs.NodesOfParts.{same_bytes}
use Rattle.c_checking_laws.proofs.Results.{ok}
use Rattle.c_checking_laws.proofs.WholeFiles.CompleteObjects.{with_objects, one_more}
use Rattle.c_checking_laws.proofs.WholeFiles.FileScopes.{IsSameObject, MayDeclare}
use Rattle.c_checking_units.proofs.Filed.{IsWholeFile, IsFiled, earlier, declared_earlier}
use Rattle.c_checking_units.proofs.Steps.{IsNextOwn, own_objects}

-- ---- linkage

links_new : (words : Storage) → MayDeclare words → (l : Bool) → IsLinkage words true l → links words ≡ l
links_new no_storage m l h = sym h
links_new is_extern m l h = sym h
links_new is_static m l h = sym h
links_new a_typedef m l h = absurd m
links_new is_auto m l h = absurd m
links_new is_register m l h = absurd m
links_new several m l h = absurd m

links_known : (words : Storage) → MayDeclare words → (l : Bool) → IsLinkage words false l → linkage_agrees words l ≡ true
links_known no_storage m l h = h
links_known is_extern m l h = refl
links_known is_static m l h = ap not h
links_known a_typedef m l h = absurd m
links_known is_auto m l h = absurd m
links_known is_register m l h = absurd m
links_known several m l h = absurd m

no_main : (x : List ℕ) (l : Bool) → (l ≡ true → x ≢ codes "main") → (is_main x && l) ≡ false
unfolding is_main
no_main x l h = by_test (is_main x) l refl h
  where
    by_test : (b l : Bool) → is_main x ≡ b → (l ≡ true → x ≢ codes "main") → (b && l) ≡ false
    by_test false l e h = refl
    by_test true false e h = refl
    by_test true true e h = absurd (h refl (sym (same_bytes (codes "main") x e)))

-- ---- the object that a name stands for: a new one, or one that was declared

there_in : {X : Type 0} (xs : List X) (n : ℕ) → n < length xs → (x : X) × (slice_get xs n ≡ Some x)
there_in [] n l = absurd (omega (arith, l))
there_in (x ∷ xs) zero l = (x, refl)
there_in (x ∷ xs) (suc n) l = there_in xs n (omega (arith, l))

module _ (g : FileScope) (w : IsWholeFile g) where
  pub record FoundOwn (c : Lists) (words : Storage) (x : Spelling) (place : ℕ) (t : CType) (n : ℕ) (first : Bool) (old : Option Bound) : Type 0 where
    pub lists : Lists
    pub is : object_of (part g c) words x place t old ≡ Ok (n, part g lists)
    pub filed : IsFiled g lists
    pub names : lists.names ≡ c.names
    pub records : lists.records ≡ c.records
    pub functions : lists.functions ≡ c.functions
    pub objects : length lists.objects ≡ length c.objects + own_objects (Some (an_object n t)) first
    pub there : n < length lists.objects

  -- what the file says of the object
  pub record IsOwn (x : Spelling) (words : Storage) (place : ℕ) (t : CType) (n : ℕ) (first : Bool) (o : AnObject) : Type 0 where
    pub there : slice_get g.objects n ≡ Some o
    pub name : o.name ≡ x.text
    pub ty : o.ty ≡ t
    pub literal : o.literal ≡ None
    pub linkage : IsLinkage words first o.is_linked
    pub begins : IsFirst first o.first place

  one_new : (c : Lists) (words : Storage) (x : Spelling) (place : ℕ) (t : CType) (n : ℕ) (o : AnObject) → MayDeclare words → IsFiled g c
      → IsNextOwn g (length c.objects) (length c.functions) (Some (an_object n t)) true place → IsOwn x words place t n true o
      → is_object (length c.records) t ≡ true → FoundOwn c words x place t n true None
  unfolding object_of
  one_new c words x place t n o may f next own known =
      let number : n ≡ length c.objects = w.whole.objects_apart n (length c.objects) o next.0 own.there next.1 (own.begins ∙ sym next.2) in
      let linked = links_new words may o.is_linked own.linkage in
      let main = no_main x.text (links words) (λ l e. w.main_is_no_object n o own.there (sym linked ∙ l) (own.name ∙ e)) in
      let new = new_object (part g c) words x place t in
      let lists = with_objects c (c.objects ++ new ∷ []) in
      let there = subst (λ n. slice_get g.objects n ≡ Some o) number own.there in
      let long = length-append c.objects (new ∷ []) in
      let same : IsSameObject new o = record {
        name = own.name;
        first = own.begins;
        ty = own.ty;
        is_linked = sym linked;
        literal = own.literal;
        settled = λ s. cc;
      } in
      record {
        lists = lists;
        is = ap (λ b. cond b (refused R.Main x.from) (ok (length c.objects, part g lists))) main ∙ ap (λ k. ok (k, part g lists)) (sym number);
        filed = record {
          extends = one_more g c new o f.extends refl there (sym own.ty);
          objects = λ k p e. one k p (last_or c.objects new k p e) same there;
          functions = f.functions;
          objects_there = λ k b e m u is. let l = f.objects_there k b e m u is in omega (arith, l, long);
          functions_there = f.functions_there;
          whole = λ k p e. whole_there k p (last_or c.objects new k p e) refl;
        };
        names = refl;
        records = refl;
        functions = refl;
        objects = long;
        there = omega (arith, long, number);
      }
    where
      whole_there : {new : AnObject} (k : ℕ) (p : AnObject) → (slice_get c.objects k ≡ Some p) ⊎ ((k ≡ length c.objects) × (new ≡ p)) → new.ty ≡ t
          → is_object (length c.records) p.ty ≡ true
      whole_there k p (inl e) ty = f.whole k p e
      whole_there k p (inr e) ty =
          subst (λ t. is_object (length c.records) t ≡ true) (sym ty ∙ ap (λ (o : AnObject). o.ty) e.1) known

      one : {new : AnObject} (k : ℕ) (p : AnObject) → (slice_get c.objects k ≡ Some p) ⊎ ((k ≡ length c.objects) × (new ≡ p)) → IsSameObject new o
          → slice_get g.objects (length c.objects) ≡ Some o → (q : AnObject) × (slice_get g.objects k ≡ Some q) × IsSameObject p q
      one k p (inl e) same there = f.objects k p e
      one k p (inr e) same there =
          (o, subst (λ k. slice_get g.objects k ≡ Some o) (sym e.0) there, subst (λ p. IsSameObject p o) e.1 same)

  one_known : (c : Lists) (words : Storage) (x : Spelling) (place : ℕ) (t : CType) (n : ℕ) (o : AnObject) (old : Bound) → MayDeclare words → IsFiled g c
      → n < length c.objects → old.entity ≡ an_object n t → IsOwn x words place t n false o → FoundOwn c words x place t n false (Some old)
  unfolding object_of
  one_known c words x place t n o old may f less stands own =
      let z = there_in c.objects n less in
      let q = f.objects n z.0 z.1 in
      let same : q.0 ≡ o = some_is q.0 o (sym q.1 ∙ own.there) in
      let linked : z.0.is_linked ≡ o.is_linked = sym q.2.is_linked ∙ ap (λ (o : AnObject). o.is_linked) same in
      let agrees : linkage_agrees words z.0.is_linked ≡ true = ap (linkage_agrees words) linked ∙ links_known words may o.is_linked own.linkage in
      let e : linkage_agrees words (linked_before (slice_get c.objects n)) ≡ true = ap (λ o. linkage_agrees words (linked_before o)) z.1 ∙ agrees in
      let s = same_self t t refl in
      record {
        lists = c;
        is = ap (known_object (part g c) words x t old) stands ∙ rw (s, e) refl;
        filed = f;
        names = refl;
        records = refl;
        functions = refl;
        objects = omega arith;
        there = less;
      }

  pub own_found : (c : Lists) (words : Storage) (x : Spelling) (place : ℕ) (t : CType) (n : ℕ) (o : AnObject) (first : Bool) (old : Option Bound) (b : Bound)
      → MayDeclare words → IsFiled g c → declared_among c.names b.name ≡ old → first ≡ is_none old
      → IsNextOwn g (length c.objects) (length c.functions) (Some (an_object n t)) first place → IsOwn x words place t n first o
      → b.entity ≡ an_object n t → slice_get g.names (length c.names) ≡ Some b → is_object (length c.records) t ≡ true
      → FoundOwn c words x place t n first old
  own_found c words x place t n o true None b may f e i next own is there known = one_new c words x place t n o may f next own known
  own_found c words x place t n o false None b may f e i next own is there known = cc
  own_found c words x place t n o true (Some old) b may f e i next own is there known = cc
  own_found c words x place t n o false (Some old) b may f e i next own is there known =
      let both = declared_earlier g w c f.extends b there old e in
      let d = Rattle.c_checking_laws.proofs.WholeFiles.Names.declared_is c.names b.name old e in
      one_known c words x place t n o old may f (f.objects_there d.0 old d.1 n t (both.same ∙ is)) (both.same ∙ is) own

  -- ---- definitions

  defined_is : (names : List Bound) (x : List ℕ) (a : Bound) → defined_among names x ≡ Some a
      → (k : ℕ) × (slice_get names k ≡ Some a) × (a.name ≡ x) × (a.how ≡ defines)
  defined_is [] x a h = cc
  defined_is (b ∷ names) x a h = by_test (Rattle.std.specs.Str.bytes_eq b.name x) refl b.how refl h (defined_is names x a)
    where
      by_test : (t : Bool) → Rattle.std.specs.Str.bytes_eq b.name x ≡ t → (how : Rattle.c_erasure.specs.Scopes.How) → b.how ≡ how
          → defined_among (b ∷ names) x ≡ Some a
          → (defined_among names x ≡ Some a → (k : ℕ) × (slice_get names k ≡ Some a) × (a.name ≡ x) × (a.how ≡ defines))
          → (k : ℕ) × (slice_get (b ∷ names) k ≡ Some a) × (a.name ≡ x) × (a.how ≡ defines)
      by_test true e defines i h later =
          let f : defined_among (b ∷ names) x ≡ Some b = rw (e, i) refl in
          let same : b ≡ a = some_is b a (sym f ∙ h) in
          (0, ap some same, subst (λ (a : Bound). a.name ≡ x) same (same_bytes b.name x e), subst (λ (a : Bound). a.how ≡ defines) same i)
      by_test true e Rattle.c_erasure.specs.Scopes.declares i h later =
          let f : defined_among (b ∷ names) x ≡ defined_among names x = rw (e, i) refl in
          let r = later (sym f ∙ h) in (suc r.0, r.1, r.2, r.3)
      by_test true e Rattle.c_erasure.specs.Scopes.tentative i h later =
          let f : defined_among (b ∷ names) x ≡ defined_among names x = rw (e, i) refl in
          let r = later (sym f ∙ h) in (suc r.0, r.1, r.2, r.3)
      by_test false e how i h later =
          let f : defined_among (b ∷ names) x ≡ defined_among names x = rw e refl in
          let r = later (sym f ∙ h) in (suc r.0, r.1, r.2, r.3)

  -- no definition stood before
  pub none_defined : (c : Lists) (b : Bound) → Extends (part g c) g → slice_get g.names (length c.names) ≡ Some b → b.how ≡ defines
      → defined_among c.names b.name ≡ None
  none_defined c b p next how = by_name (defined_among c.names b.name) refl
    where
      by_name : (o : Option Bound) → defined_among c.names b.name ≡ o → o ≡ None
      by_name None e = refl
      by_name (Some old) e =
          let d = defined_is c.names b.name old e in
          let both = earlier g w c p b next d.0 old d.1 d.2 in
          absurd (both.defined_once (d.3, how))
