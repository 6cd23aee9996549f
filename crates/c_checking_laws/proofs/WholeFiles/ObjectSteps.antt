-- A declarator of an object at file scope: what it adds to the file, and what it declares (C99 6.7.8, 6.9.2).
use Rattle.std.proofs.Common.{◌≡◌, ◌≢◌, ℕ, zero, suc, ◌<◌, Bool, true, refl, sym, ap, ◌∙◌, subst, List, [], ◌∷◌, ◌++◌, length}
use Rattle.std.proofs.Common.{append-nil, inl, inr}
use Rattle.std.proofs.lemmas.Bool.{and_parts, and_from}
use Rattle.std.proofs.lemmas.List.{map-append}
use Rattle.std.specs.Prelude.{◌⊎◌, map, Option, Some, None, Ok, slice_get, is_none, codes, ◌&&◌}
use Rattle.std.specs.Option.{IsSome}
use Rattle.c_types.specs.Objects.{is_object}
use Rattle.c_types.specs.Sameness.{same_type}
use Rattle.c_types.specs.Types.{CType}
use Rattle.c_types.proofs.SameTypes.{same_is}
use Rattle.c_ast.specs.declared.words.Spelling.{Spelling}
use Rattle.c_ast.specs.Trees
use Rattle.c_typed.specs.Trees as Typed
use Rattle.c_erasure.specs.Files.{IsMade, bound, object_how}
use Rattle.c_erasure.specs.Noted.{Noted}
use Rattle.c_erasure.specs.Scopes.{FileScope, Bound, How, declares, tentative, defines, Entity, typedef, enumerator, an_object, a_function, a_library_function}
use Rattle.c_erasure.specs.Scopes.{a_local, a_parameter}
use Rattle.c_erasure.specs.Scopes.{AnObject, at_file_scope}
use Rattle.c_erasure.specs.Specifiers.{Storage, no_storage, a_typedef, is_extern, is_static, is_auto, is_register, several}
use Rattle.c_erasure.specs.Checking.Answers.{Answer}
use Rattle.c_erasure.specs.Checking.Declaring.{declared_among, with_bound}
use Rattle.c_erasure.specs.Checking.Files.{links, is_main, main_object, linked_before, linkage_agrees, new_object, with_new_object, known_object, object_of}
use Rattle.c_erasure.specs.Checking.Files.{defined_among, defined_once}
use Rattle.c_checking_laws.proofs.Extends.{Extends, further, kept}
use Rattle.c_checking_laws.proofs.Results.{given, chosen}
use Rattle.c_checking_laws.proofs.WholeFiles.FileObjects.{IsTheObject}
use Rattle.c_checking_laws.proofs.WholeFiles.FileScopes.{MayDeclare, StandsFor, once_answer}
use Rattle.c_checking_laws.proofs.WholeFiles.Parts.{Parted, none, is_made, is_bytes}
use Rattle.c_checking_laws.proofs.WholeFiles.Known.{AreOthers, IsADeclaredObject, IsObjectKnown, IsKnown, none_new, this_one}
use Rattle.c_checking_laws.proofs.WholeFiles.Known.{other_object, others_define_none, one_defines_none, no_definition_more, bound_more, definition_more}
use Rattle.c_checking_laws.proofs.WholeFiles.Names.{declared_is, none_defines, MayBindAgain, MayBind}
use Rattle.c_checking_laws.proofs.WholeFiles.Declaring.{IsBoundIn, bind_known, new_object_known}

-- ---- the object that a name stands for: a new one, or one that was declared

main_answer : (x : List ℕ) (at : ℕ) (linked : Bool) (z w : ℕ × FileScope) → main_object x at linked (Ok z) ≡ Ok w
    → (z ≡ w) × (linked ≡ true → x ≢ codes "main")
unfolding is_main
main_answer x at linked z w h =
    chosen (is_main x && linked) _ _ w ((z ≡ w) × (linked ≡ true → x ≢ codes "main")) h (λ b h. cc)
    (λ b h. given (λ w. (z ≡ w) × (linked ≡ true → x ≢ codes "main")) z w h (
      refl,
      λ l e.
          let t : is_main x ≡ true = Rattle.c_checking_laws.proofs.WholeFiles.Names.names_equal (codes "main") x (sym e) in
          let true_is_false = sym (and_from (is_main x) linked t l) ∙ b in
          cc,
    ))

abbrev pub IsNew : FileScope → Storage → Spelling → (place : ℕ) → CType → ℕ × FileScope → Type 0
IsNew f words x place t z = (declared_among f.names x.text ≡ None) × ((length f.objects, with_new_object f (new_object f words x place t)) ≡ z)
    × (links words ≡ true → x.text ≢ codes "main")

abbrev pub IsOld : FileScope → Spelling → CType → ℕ × FileScope → Type 0
IsOld f x t z = (a : Bound) × (declared_among f.names x.text ≡ Some a) × (a.entity ≡ an_object z.0 t) × (f ≡ z.1)

known_is : (f : FileScope) (words : Storage) (x : Spelling) (t : CType) (old : Bound) (e : Entity) → old.entity ≡ e → (z : ℕ × FileScope)
    → known_object f words x t old e ≡ Ok z → (old.entity ≡ an_object z.0 t) × (f ≡ z.1)
known_is f words x t old (an_object n u) e z h =
    chosen (same_type u t && linkage_agrees words (linked_before (slice_get f.objects n))) _ _ z ((old.entity ≡ an_object z.0 t) × (f ≡ z.1)) h
    (λ b h.
    let p = and_parts (same_type u t) (linkage_agrees words (linked_before (slice_get f.objects n))) b in
    given (λ (z : ℕ × FileScope). (old.entity ≡ an_object z.0 t) × (f ≡ z.1)) (n, f) z h (e ∙ ap (λ u. an_object n u) (same_is u t p.0), refl))
    (λ b h. cc)
known_is f words x t old (typedef u) e z h = cc
known_is f words x t old (enumerator v) e z h = cc
known_is f words x t old (a_function n u) e z h = cc
known_is f words x t old (a_library_function which) e z h = cc
known_is f words x t old (a_local n u) e z h = cc
known_is f words x t old (a_parameter u) e z h = cc

pub entered : (f : FileScope) (words : Storage) (x : Spelling) (place : ℕ) (t : CType) (o : Option Bound) → declared_among f.names x.text ≡ o
    → (z : ℕ × FileScope) → object_of f words x place t o ≡ Ok z → IsNew f words x place t z ⊎ IsOld f x t z
unfolding object_of
entered f words x place t None e z h =
    let m = main_answer x.text x.from (links words) (length f.objects, with_new_object f (new_object f words x place t)) z h in inl (e, m.0, m.1)
entered f words x place t (Some a) e z h = let k = known_is f words x t a a.entity refl z h in inr (a, e, k.0, k.1)

pub once_is : {A : Type 0} (f : FileScope) (x : Spelling) (value : Option (ℕ × Trees.Expression)) (r : Answer A) (z : A) → defined_once f x value r ≡ Ok z
    → (r ≡ Ok z) × ((v : ℕ × Trees.Expression) → value ≡ Some v → defined_among f.names x.text ≡ None)
once_is f x None r z h = (h, λ v e. cc)
once_is f x (Some value) r z h = let o = once_answer x (defined_among f.names x.text) r z h in (o.1, λ v e. o.0)

pub how_none : (words : Storage) → object_how words None ≢ defines
how_none no_storage e = cc
how_none a_typedef e = cc
how_none is_extern e = cc
how_none is_static e = cc
how_none is_auto e = cc
how_none is_register e = cc
how_none several e = cc

how_some : (words : Storage) (value : ℕ × Trees.Expression) → object_how words (Some value) ≡ defines
how_some words value = refl

map_at : {X Y : Type 0} (v : X → Y) (xs : List X) (k : ℕ) (x : X) → slice_get xs k ≡ Some x → slice_get (map v xs) k ≡ Some (v x)
map_at v [] k x e = cc
map_at v (y ∷ xs) zero x e = let same : y ≡ x = cc in ap (λ x. Some (v x)) same
map_at v (y ∷ xs) (suc k) x e = map_at v xs k x e

pub made_of_parts : (all made texts : List ℕ) → Parted all made texts → (at : ℕ) → IsMade made at → IsMade all at
made_of_parts [] [] [] none at h = h
made_of_parts _ _ _ (is_made p all made texts w) at (inl h) = inl h
made_of_parts _ _ _ (is_made p all made texts w) at (inr h) = inr (made_of_parts all made texts w at h)
made_of_parts _ _ _ (is_bytes p all made texts w) at h = inr (made_of_parts all made texts w at h)

pub made_both : (u v w : List ℕ) → ((at : ℕ) → IsMade v at → IsMade w at) → (at : ℕ) → IsMade (u ++ v) at → IsMade (u ++ w) at
made_both [] v w h at m = h at m
made_both (p ∷ u) v w h at (inl m) = inl m
made_both (p ∷ u) v w h at (inr m) = inr (made_both u v w h at m)

module _ (nodes_at : ℕ → ℕ) (before : List ℕ) where
  -- what a name that was declared stands for
  pub stands_for : (f : FileScope) (x : Spelling) (place : ℕ) → IsKnown nodes_at before none_new none_new f
      → ((n : ℕ) (o : AnObject) → slice_get f.objects n ≡ Some o → o.first < place)
      → ((n : ℕ) (g : Rattle.c_erasure.specs.Scopes.AFunction) → slice_get f.functions n ≡ Some g → g.first < place)
      → (b : Bound) → declared_among f.names x.text ≡ Some b → StandsFor f x place b
  stands_for f x place k objects functions b e =
      let d = declared_is f.names x.text b e in
      record {
        functions = λ n t is. let q = k.functions_bound d.0 b d.1 n t is in (q.0, q.1, q.2 ∙ d.2, q.3, functions n q.0 q.1);
        objects = λ n t is. let q = k.objects_bound d.0 b d.1 n t is in (q.0, q.1, q.2 ∙ d.2, q.3, q.4, objects n q.0 q.1);
      }

  -- an object that was declared, under its name
  old_object : (f : FileScope) (x : Spelling) (t : CType) (n : ℕ) (a : Bound) → declared_among f.names x.text ≡ Some a → a.entity ≡ an_object n t
      → IsKnown nodes_at before none_new none_new f → (o : AnObject) → slice_get f.objects n ≡ Some o → o.ty ≡ t → IsADeclaredObject f.file f.names n o
  old_object f x t n a e is k o h ty = by_kind (k.objects n o h)
    where
      by_kind : ⊥ ⊎ IsObjectKnown f.file f.names before n o → IsADeclaredObject f.file f.names n o
      by_kind (inl i) = absurd i
      by_kind (inr (inl i)) =
          let d = declared_is f.names x.text a e in
          absurd (i.3 d.0 a d.1 (is ∙ ap (λ t. an_object n t) (sym ty)))
      by_kind (inr (inr i)) = i

  weaken : (n : ℕ) (f : FileScope) → IsKnown nodes_at before none_new none_new f → IsKnown nodes_at before (this_one n) none_new f
  weaken n f k = record {
    fits = k.fits;
    settled = k.settled;
    whole = k.whole;
    consistent = k.consistent;
    objects_bound = k.objects_bound;
    functions_bound = k.functions_bound;
    libraries_bound = k.libraries_bound;
    objects = λ m o e. one m o (k.objects m o e);
    functions = k.functions;
  }
    where
      one : (m : ℕ) (o : AnObject) → ⊥ ⊎ IsObjectKnown f.file f.names before m o → (m ≡ n) ⊎ IsObjectKnown f.file f.names before m o
      one m o (inl h) = absurd h
      one m o (inr h) = inr h

  -- an object in the making: its name is bound
  pub record InMaking (f : FileScope) (words : Storage) (x : Spelling) (place : ℕ) (t : CType) (how : How) (from : ℕ) (n : ℕ) (f1 : FileScope) (o : AnObject)
      : Type 0 where
    pub same : f1 ≡ record f { objects = f1.objects }
    pub known : IsKnown nodes_at before (this_one n) none_new (with_bound f1 (bound x from how (an_object n t)))
    pub objects : List ℕ
    pub others : List ℕ
    pub parted : Parted (place ∷ []) objects others
    pub objects_are : map (λ o. o.first) f1.objects ≡ map (λ o. o.first) f.objects ++ objects
    pub only : (m : ℕ) (q : AnObject) → slice_get f1.objects m ≡ Some q → (slice_get f.objects m ≡ Some q) ⊎ (q.initial ≡ None)
    -- it is not defined yet where it is to be, and else as it was declared
    pub undefined : (how ≡ defines) → o.initial ≡ None
    pub not_main : o.is_linked ≡ true → o.name ≢ codes "main"
    pub as_declared : how ≢ defines → IsADeclaredObject f.file (f.names ++ bound x from how (an_object n t) ∷ []) n o

  is_bound_in : (f : FileScope) (x : Spelling) (from n : ℕ) (t : CType) (how : How) (o : AnObject) → slice_get f.objects n ≡ Some o → o.name ≡ x.text
      → o.ty ≡ t → o.literal ≡ None → IsBoundIn f (bound x from how (an_object n t))
  is_bound_in f x from n t how o h name ty literal = record {
    fit = subst (λ t. slice_get (map (λ o. o.ty) f.objects) n ≡ Some t) ty (map_at (λ o. o.ty) f.objects n o h);
    object = λ m u e.
        let i : n ≡ m = cc in
        let v : t ≡ u = cc in
        (o, subst (λ m. slice_get f.objects m ≡ Some o) i h, name, ty ∙ v, literal);
    function = λ m u e. cc;
    library = λ which e. cc;
  }

  -- the name is bound to a new object
  pub new_in_making : (f : FileScope) (words : Storage) → MayDeclare words → (x : Spelling) (place : ℕ) (t : CType) (how : How) (from : ℕ)
      → is_object (length f.records) t ≡ true → IsKnown nodes_at before none_new none_new f → (n : ℕ × FileScope) → IsNew f words x place t n
      → (v : IsTheObject f words x place t (is_none (declared_among f.names x.text)) n) → InMaking f words x place t how from n.0 n.1 v.object
  new_in_making f words m x place t how from whole k n is v =
      let new = new_object f words x place t in
      let f1 = with_new_object f new in
      let number : length f.objects ≡ n.0 = ap (λ (z : ℕ × FileScope). z.0) is.1 in
      let file : f1 ≡ n.1 = ap (λ (z : ℕ × FileScope). z.1) is.1 in
      let there = Rattle.c_checking_laws.proofs.Extends.at_end f.objects new in
      let object : new ≡ v.object =
      one_object new v.object (sym there ∙ ap (λ (z : ℕ × FileScope). slice_get z.1.objects z.0) is.1 ∙ v.stands) in
      let b = bound x from how (an_object n.0 t) in
      let ext : Extends f f1 = subst (Extends f) (sym file) v.continues.extends in
      let k1 : IsKnown nodes_at before (this_one n.0) none_new n.1 =
      subst (λ n. IsKnown nodes_at before (this_one n.0) none_new n.1) is.1 (new_object_known nodes_at before f new ext whole k) in
      let others = other_object f.names f.objects k.objects_bound t in
      record {
        same = sym (subst (λ g. record f { objects = g.objects } ≡ g) file refl);
        known = bind_known nodes_at before (this_one n.0) none_new (this_one n.0) none_new n.1 b (λ j h. h) (λ j h. h)
            (λ j u e. let i : n.0 ≡ j = cc in sym i) (λ j u e. cc)
            (inl (subst (λ (g : FileScope). declared_among g.names x.text ≡ None) file is.0))
            (is_bound_in n.1 x from n.0 t how v.object v.stands v.name v.ty v.literal) k1;
        objects = place ∷ [];
        others = [];
        parted = is_made place [] [] [] none;
        objects_are = subst (λ (g : FileScope). map (λ o. o.first) g.objects ≡ map (λ o. o.first) f.objects ++ place ∷ []) file
            (map-append (λ o. o.first) f.objects (new ∷ []));
        only = λ m q e. one m q (Rattle.c_checking_laws.proofs.Extends.last_or f.objects new m q (subst (λ (g : FileScope). slice_get g.objects m ≡ Some q) (sym file) e));
        undefined = λ d. ap (λ (o : AnObject). o.initial) (sym object);
        not_main = subst (λ (o : AnObject). o.is_linked ≡ true → o.name ≢ codes "main") object is.2;
        as_declared = λ d. subst (IsADeclaredObject f.file (f.names ++ b ∷ []) n.0) object (record {
          declared = (length f.names, b, Rattle.c_checking_laws.proofs.Extends.at_end f.names b, refl);
          left = λ e. (
            refl,
            no_definition_more f.names (b ∷ []) (an_object n.0 t)
                (others_define_none f.names (an_object n.0 t) (subst (λ n. AreOthers f.names (an_object n t)) number others))
                (one_defines_none b (an_object n.0 t) (λ e. d)),
          );
          defined = λ s. cc;
          not_main = is.2;
        });
      }
    where
      one : (m : ℕ) (q : AnObject) → (slice_get f.objects m ≡ Some q) ⊎ ((m ≡ length f.objects) × (new_object f words x place t ≡ q))
          → (slice_get f.objects m ≡ Some q) ⊎ (q.initial ≡ None)
      one m q (inl e) = inl e
      one m q (inr e) = inr (ap (λ (o : AnObject). o.initial) (sym e.1))

      one_object : (p q : AnObject) → Some p ≡ Some q → p ≡ q
      one_object p q e = cc

  -- or to one that was declared
  pub old_in_making : (f : FileScope) (words : Storage) → MayDeclare words → (x : Spelling) (place : ℕ) (t : CType) (how : How) (from : ℕ)
      → (how ≡ defines → defined_among f.names x.text ≡ None) → IsKnown nodes_at before none_new none_new f → (n : ℕ × FileScope) → IsOld f x t n
      → (v : IsTheObject f words x place t (is_none (declared_among f.names x.text)) n) → InMaking f words x place t how from n.0 n.1 v.object
  old_in_making f words m x place t how from once k n is v =
      let b = bound x from how (an_object n.0 t) in
      let there : slice_get f.objects n.0 ≡ Some v.object = subst (λ (g : FileScope). slice_get g.objects n.0 ≡ Some v.object) (sym is.3) v.stands in
      let o = old_object f x t n.0 is.0 is.1 is.2 k v.object there v.ty in
      record {
        same = subst (λ g. g ≡ record f { objects = g.objects }) is.3 refl;
        known = subst (λ g. IsKnown nodes_at before (this_one n.0) none_new (with_bound g b)) is.3
            (bind_known nodes_at before none_new none_new (this_one n.0) none_new f b (λ j h. absurd h) (λ j h. h)
            (λ j u e. let i : n.0 ≡ j = cc in sym i) (λ j u e. cc)
            (inr (record { first = is.0; declared = is.1; same = is.2; again = tt; once = once }))
            (is_bound_in f x from n.0 t how v.object there v.name v.ty v.literal) k);
        objects = [];
        others = place ∷ [];
        parted = is_bytes place [] [] [] none;
        objects_are = subst (λ (g : FileScope). map (λ o. o.first) g.objects ≡ map (λ o. o.first) f.objects ++ []) is.3 (sym (append-nil _));
        only = λ m q e. inl (subst (λ (g : FileScope). slice_get g.objects m ≡ Some q) (sym is.3) e);
        undefined = λ d. none_yet d o (v.object.initial) refl;
        not_main = o.not_main;
        as_declared = λ d. record {
          declared = bound_more f.names (b ∷ []) (an_object n.0 v.object.ty) o.declared;
          left = λ e.
              let l = o.left e in
              (l.0, no_definition_more f.names (b ∷ []) (an_object n.0 v.object.ty) l.1 (one_defines_none b (an_object n.0 v.object.ty) (λ e. d)));
          defined = λ s. definition_more f.names (b ∷ []) (an_object n.0 v.object.ty) (o.defined s);
          not_main = o.not_main;
        };
      }
    where
      none_yet : how ≡ defines → IsADeclaredObject f.file f.names n.0 v.object → (i : Option (Typed.Initializer Noted)) → v.object.initial ≡ i → i ≡ None
      none_yet d o None e = refl
      none_yet d o (Some i) e =
          let c = o.defined (subst IsSome (sym e) refl) in
          let q = k.objects_bound c.0 c.1 c.2 n.0 v.object.ty c.3 in
          let there : slice_get f.objects n.0 ≡ Some v.object = subst (λ (g : FileScope). slice_get g.objects n.0 ≡ Some v.object) (sym is.3) v.stands in
          let same : q.0 ≡ v.object = one_object q.0 v.object (sym q.1 ∙ there) in
          absurd (none_defines f.names x.text (once d) c.0 c.1 c.2 (sym q.2 ∙ ap (λ (o : AnObject). o.name) same ∙ v.name) c.4)
        where
          one_object : (p q : AnObject) → Some p ≡ Some q → p ≡ q
          one_object p q e = cc
