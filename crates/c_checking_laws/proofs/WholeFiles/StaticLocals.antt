-- What is found for `static` locals: objects of the file (C99 6.2.4, 6.7.1).
use Rattle.std.proofs.Common.{◌≡◌, ℕ, zero, suc, true, false, refl, sym, ap, ◌∙◌, subst, List, [], ◌∷◌, ◌++◌, length, append-nil}
use Rattle.std.specs.Prelude.{map, Some, None, Ok, slice_get, slice_set}
use Rattle.std.specs.Option.{IsSome}
use Rattle.c_types.specs.Types.{CType}
use Rattle.c_types.specs.Objects.{is_object}
use Rattle.c_ast.specs.declared.words.Spelling.{Spelling}
use Rattle.c_ast.specs.Trees
use Rattle.c_ast.specs.Places.{first_declarator}
use Rattle.c_typed.specs.Trees as Typed
use Rattle.c_erasure.specs.Files.{AreConsistent}
use Rattle.c_erasure.specs.Literals.{literals_of_value}
use Rattle.c_erasure.specs.MentionPlaces.{spoken_by_value}
use Rattle.c_erasure.specs.Noted.{Noted}
use Rattle.c_erasure.specs.Scopes.{FileScope, Scope, ALocal, AnObject}
use Rattle.c_erasure.specs.Statements.{Statements, IsStaticLocal, with_object}
use Rattle.c_erasure.specs.Checking.Answers.{moved}
use Rattle.c_erasure.specs.Checking.Declaring as Files
use Rattle.c_erasure.specs.Checking.Statements.{constants_if_any, static_object, replaced_object, objects_in, with_static, declare_static}
use Rattle.c_checking_laws.proofs.Results.{bound_ok, given}
use Rattle.c_checking_laws.proofs.Extends.{Extends, itself, further, kept}
use Rattle.c_checking_laws.proofs.Agreement.{fits_stay, blocks_stay}
use Rattle.c_checking_laws.proofs.WholeFiles.Parts.{is_made}
use Rattle.c_checking_laws.proofs.WholeFiles.Longer.{seen}
use Rattle.std.proofs.Common.{◌+◌, arith, inl, inr}
use Rattle.std.proofs.lemmas.Option.{slice_get_within}
use Rattle.std.specs.Prelude.{◌⊎◌}
use Rattle.c_checking_laws.proofs.Extends.{at_end, behind, one_of_both}
use Rattle.c_checking_laws.proofs.WholeFiles.Layouts.{object_stays}
use Rattle.c_checking_laws.proofs.WholeFiles.Kept.{AreObjectsWhole, IsALiteral, objects_more}
use Rattle.c_checking_laws.proofs.WholeFiles.Scoped.{IsLater, IsInner, literal_inner}
use Rattle.c_checking_laws.proofs.WholeFiles.Scoped.{IsWithin, AddsInside, FoundIn}
use Rattle.c_checking_laws.proofs.WholeFiles.LocalObjects.{IsValueInRange, named_fits, last_mapped, FoundInitializer, AreConstantsIn, constants_found}

-- ---- an object takes the place of another

set_there : {X : Type 0} (xs : List X) (x y : X) (more : List X) → slice_set ((xs ++ x ∷ []) ++ more) (length xs) y ≡ xs ++ y ∷ more
set_there [] x y more = refl
set_there (z ∷ xs) x y more = ap (λ all. z ∷ all) (set_there xs x y more)

get_there : {X : Type 0} (xs : List X) (y : X) (more : List X) → slice_get (xs ++ y ∷ more) (length xs) ≡ Some y
get_there [] y more = refl
get_there (z ∷ xs) y more = get_there xs y more

mapped_there : {X Y : Type 0} (v : X → Y) (xs : List X) (x y : X) (more : List X) → v x ≡ v y → map v ((xs ++ x ∷ []) ++ more) ≡ map v (xs ++ y ∷ more)
mapped_there v [] x y more e = ap (λ z. z ∷ map v more) e
mapped_there v (z ∷ xs) x y more e = ap (λ all. v z ∷ all) (mapped_there v xs x y more e)

others_there : (xs : List AnObject) (x y : AnObject) (more : List AnObject) → x.initial ≡ None → (n : ℕ) (p : AnObject)
    → slice_get ((xs ++ x ∷ []) ++ more) n ≡ Some p → IsSome p.initial → slice_get (xs ++ y ∷ more) n ≡ Some p
others_there [] x y more e zero p h i =
    let same : x ≡ p = cc in
    let none_is_some = subst IsSome (ap (λ (o : AnObject). o.initial) (sym same) ∙ e) i in
    cc
others_there [] x y more e (suc n) p h i = h
others_there (z ∷ xs) x y more e zero p h i = h
others_there (z ∷ xs) x y more e (suc n) p h i = others_there xs x y more e n p h i

pub object_put : (f : FileScope) (o : AnObject) → Extends f (Files.with_object f o)
object_put f o = record {
  file = refl;
  tags = refl;
  ends = refl;
  numbered = refl;
  untagged = refl;
  names = (itself f).names;
  records = (itself f).records;
  mentions = λ kind t at h. h;
  types = λ n t h. map_kept (λ o. o.ty) f.objects (o ∷ []) n t h;
  objects = λ n p h i. kept f.objects (o ∷ []) n p h;
  functions = λ n t h. h;
}
  where
    map_kept : {X Y : Type 0} (v : X → Y) (xs ys : List X) (k : ℕ) (y : Y) → slice_get (map v xs) k ≡ Some y → slice_get (map v (xs ++ ys)) k ≡ Some y
    map_kept v [] ys k y e = cc
    map_kept v (x ∷ xs) ys zero y e = e
    map_kept v (x ∷ xs) ys (suc k) y e = map_kept v xs ys k y e

object_replaced : (f : FileScope) (xs more : List AnObject) (x y : AnObject) → f.objects ≡ (xs ++ x ∷ []) ++ more → x.initial ≡ None → x.ty ≡ y.ty
    → Extends f (record f { objects = xs ++ y ∷ more })
object_replaced f xs more x y is e t = record {
  file = refl;
  tags = refl;
  ends = refl;
  numbered = refl;
  untagged = refl;
  names = (itself f).names;
  records = (itself f).records;
  mentions = λ kind t at h. h;
  types = λ n u h.
      subst (λ all. slice_get all n ≡ Some u) (mapped_there (λ o. o.ty) xs x y more t) (subst (λ all. slice_get (map (λ o. o.ty) all) n ≡ Some u) is h);
  objects = λ n p h i. others_there xs x y more e n p (subst (λ all. slice_get all n ≡ Some p) is h) i;
  functions = λ n t h. h;
}

-- objects are of complete types also where one takes the place of another
whole_there : (records : List Rattle.c_types.specs.Types.Record) (xs : List AnObject) (x y : AnObject) (more : List AnObject) → x.ty ≡ y.ty
    → AreObjectsWhole records ((xs ++ x ∷ []) ++ more) → AreObjectsWhole records (xs ++ y ∷ more)
whole_there records xs x y more t h n o e = by_part (one_of_both xs (y ∷ more) n o e)
  where
    by_part : (slice_get xs n ≡ Some o) ⊎ ((j : ℕ) × (n ≡ length xs + j) × (slice_get (y ∷ more) j ≡ Some o))
        → is_object (length records) o.ty ≡ true
    by_part (inl e) = h n o (kept (xs ++ x ∷ []) more n o (kept xs (x ∷ []) n o e))
    by_part (inr (zero, e, g)) =
        let same : y ≡ o = cc in
        subst (λ t. is_object (length records) t ≡ true) (t ∙ ap (λ (o : AnObject). o.ty) same)
        (h (length xs) x (kept (xs ++ x ∷ []) more (length xs) x (at_end xs x)))
    by_part (inr (suc j, e, g)) = h (length (xs ++ x ∷ []) + j) o (behind (xs ++ x ∷ []) more j (length (xs ++ x ∷ []) + j) o refl g)

module _ (untagged : ℕ → List ℕ) (f : FileScope) where
  within_file : (s : Scope) (g : FileScope) → IsWithin untagged f s → Extends s.file g → g.names ≡ s.file.names → g.records ≡ s.file.records
      → AreObjectsWhole g.records g.objects → IsWithin untagged f (moved s g)
  within_file s g w p names records whole = record {
    inside = w.inside;
    full = w.full;
    ready = record {
      names_fit = subst (λ all. Rattle.c_checking_laws.proofs.Agreement.AreFit g s.locals all) (sym names) (fits_stay p s.locals s.file.names w.ready.names_fit);
      blocks_fit = blocks_stay p s.locals s.blocks w.ready.blocks_fit;
      ends_stand = λ j n right h. cc;
    };
    complete = subst Rattle.c_types.specs.Limits.AreComplete (sym records) w.complete;
    whole = whole;
    extends = further w.extends p;
    same = p.untagged ∙ w.same;
  }

  pub static_within : (s : Scope) (d : Trees.InitDeclarator) (x : Spelling) (t : CType) → IsWithin untagged f s
      → is_object (length s.file.records) t ≡ true → IsWithin untagged f (with_static s d x t)
  static_within s d x t w is =
      let o = static_object s d x t None in
      let v = within_file s (Files.with_object s.file o) w (object_put s.file o) refl refl
      (objects_more s.file.records s.file.objects o is w.whole) in
      record {
        inside = refl;
        full = v.full;
        ready = record {
          names_fit = v.ready.names_fit;
          blocks_fit = named_fits (Files.with_object s.file o) s.locals s.blocks _ v.ready.blocks_fit (last_mapped (λ o. o.ty) s.file.objects o);
          ends_stand = λ j n right h. cc;
        };
        complete = v.complete;
        whole = v.whole;
        extends = v.extends;
        same = v.same;
      }

  pub record IsStatic (s : Scope) (d : Trees.InitDeclarator) (x : Spelling) (t : CType) (all : Statements) (after : Scope) (g : FileScope)
      (l : List ALocal) : Type 0 where
    pub all_is : all ≡ Typed.no_statements
    pub object : IsStaticLocal (seen s g l) d x t (objects_in s)
    pub after_is : seen after g l ≡ with_object (seen s g l) x (objects_in s) t

  static_made : (s : Scope) (d : Trees.InitDeclarator) (x : Spelling) (t : CType) → IsWithin untagged f s → (i : Typed.Initializer Noted × FileScope)
      → FoundInitializer untagged f (with_static s d x t) (spoken_by_value d.value) (literals_of_value d.value)
      (AreConstantsIn untagged f (with_static s d x t) t d.value i.0) i.1 → is_object (length s.file.records) t ≡ true → (g : FileScope)
      → g ≡ replaced_object i.1 (objects_in s) (static_object s d x t (Some i.0))
      → FoundIn untagged f s (spoken_by_value d.value) (first_declarator d.declarator x.from ∷ literals_of_value d.value)
      (IsStatic s d x t Typed.no_statements (moved (with_static s d x t) g)) [] (moved (with_static s d x t) g)
  static_made s d x t w i v known g is =
      let old = static_object s d x t None in
      let new = static_object s d x t (Some i.0) in
      let more = v.grows.objects.0 in
      let there : g ≡ record i.1 { objects = s.file.objects ++ new ∷ more } =
      is ∙ ap (λ all. record i.1 { objects = slice_set all (objects_in s) new }) v.grows.objects.1
      ∙ ap (λ all. record i.1 { objects = all }) (set_there s.file.objects old new more) in
      let last : Extends i.1 g = subst (Extends i.1) (sym there) (object_replaced i.1 s.file.objects more old new v.grows.objects.1 refl refl) in
      let objects : g.objects ≡ s.file.objects ++ new ∷ more = ap (λ (g : FileScope). g.objects) there in
      let whole = further (object_put s.file old) (further v.extends last) in
      let m = adds_there s old i.1 g more new v.made v.grows there v.grows.objects.2 in
      record {
        within = within_file (moved (with_static s d x t) i.1) g v.within last (ap (λ (g : FileScope). g.names) there)
            (ap (λ (g : FileScope). g.records) there)
            (subst (λ records. AreObjectsWhole records g.objects) (sym (ap (λ (g : FileScope). g.records) there))
            (subst (AreObjectsWhole i.1.records) (sym objects)
            (whole_there i.1.records s.file.objects old new more refl (subst (AreObjectsWhole i.1.records) v.grows.objects.1 v.within.whole))));
        extends = whole;
        more = [];
        locals = sym (append-nil s.locals);
        numbered = refl;
        made = first_declarator d.declarator x.from ∷ v.made;
        texts = v.texts;
        parted = is_made (first_declarator d.declarator x.from) (literals_of_value d.value) v.made v.texts v.parted;
        grows = m;
        inner = λ k o e.
            by_part last whole k o (one_of_both s.file.objects (new ∷ more) k o (subst (λ all. slice_get all k ≡ Some o) objects e));
        holds = λ h l e.
            let c = (v.holds h l (as_later last h l e)).0 in
            let found = subst (λ all. slice_get all (objects_in s) ≡ Some new) (sym objects) (get_there s.file.objects new more) in
            let stands = e.extends.objects (objects_in s) new found refl in
            let number = (further whole e.extends).file in
            record {
              all_is = refl;
              object = (
                i.0,
                c,
                subst (λ file. slice_get h.objects (objects_in s) ≡ Some (record {
                  name = x.text;
                  place = record { file = file; at = first_declarator d.declarator x.from };
                  first = first_declarator d.declarator x.from;
                  ty = t;
                  is_linked = false;
                  literal = None;
                  initial = Some i.0;
                })) (sym number) stands,
              );
              after_is = refl;
            };
      }
    where
      as_later : Extends i.1 g → (h : FileScope) (l : List ALocal) → IsLater f (moved (with_static s d x t) g) v.texts h l
          → IsLater f (moved (with_static s d x t) i.1) v.texts h l
      as_later last h l e = record {
        extends = further last e.extends;
        locals = e.locals;
        laid = e.laid;
        none_begins = e.none_begins;
        constants = e.constants;
      }

      by_part : Extends i.1 g → Extends s.file g → (k : ℕ) (o : AnObject)
          → (slice_get s.file.objects k ≡ Some o)
          ⊎ ((j : ℕ) × (k ≡ length s.file.objects + j) × (slice_get (static_object s d x t (Some i.0) ∷ v.grows.objects.0) j ≡ Some o))
          → (slice_get s.file.objects k ≡ Some o) ⊎ IsInner f (moved (with_static s d x t) g) v.texts o
      by_part last whole k o (inl e) = inl e
      by_part last whole k o (inr (zero, n, e)) =
          let same : static_object s d x t (Some i.0) ≡ o = cc in
          inr (subst (IsInner f (moved (with_static s d x t) g) v.texts) same (record {
            linked = refl;
            initial = i.0;
            initial_is = refl;
            whole = object_stays whole t known;
            typed = λ h l e. (v.holds h l (as_later last h l e)).1;
          }))
      by_part last whole k o (inr (suc j, n, e)) =
          let old = static_object s d x t None in
          let first = s.file.objects ++ old ∷ [] in
          let at = length first + j in
          let there = subst (λ all. slice_get all at ≡ Some o) (sym v.grows.objects.1) (behind first v.grows.objects.0 j at o refl e) in
          by_kind (v.literals at o there)
        where
          by_kind : (slice_get (s.file.objects ++ static_object s d x t None ∷ []) (length (s.file.objects ++ static_object s d x t None ∷ []) + j) ≡ Some o)
              ⊎ IsALiteral s.file.file o
              → (slice_get s.file.objects k ≡ Some o) ⊎ IsInner f (moved (with_static s d x t) g) v.texts o
          by_kind (inl e) =
              let n = slice_get_within (s.file.objects ++ static_object s d x t None ∷ []) _ o e in
              absurd (omega (arith, n))
          by_kind (inr e) = inr (literal_inner f (moved (with_static s d x t) g) v.texts s.file.file o e)

      adds_there : (s : Scope) (old : AnObject) (b g : FileScope) (more : List AnObject) (new : AnObject) (made : List ℕ)
          → (p : AddsInside (Files.with_object s.file old) (spoken_by_value d.value) made b) → g ≡ record b { objects = s.file.objects ++ new ∷ more }
          → map (λ o. o.first) more ≡ made → AddsInside s.file (spoken_by_value d.value) (new.first ∷ made) g
      adds_there s old b g more new made p there firsts =
          let named = ap (λ (g : FileScope). g.names) there in
          let recorded = ap (λ (g : FileScope). g.records) there in
          let mentioned = ap (λ (g : FileScope). g.mentions) there in
          record {
            untagged = ap (λ (g : FileScope). g.untagged) there ∙ p.untagged;
            functions = ap (λ (g : FileScope). g.functions) there ∙ p.functions;
            names = ap (λ all. map (λ b. b.from) all) named ∙ p.names;
            records = ap (λ all. map (λ r. r.tag) all) recorded ∙ p.records;
            mentions = ap (λ all. map (λ m. m.at) all) mentioned ∙ p.mentions;
            objects = (new ∷ more, ap (λ (g : FileScope). g.objects) there, ap (λ all. new.first ∷ all) firsts);
            declared = λ k n e. p.declared k n (subst (λ all. slice_get all k ≡ Some n) named e);
            consistent = λ e. subst AreConsistent (sym named) (p.consistent e);
          }

  pub static_found : (s : Scope) (d : Trees.InitDeclarator) (x : Spelling) (t : CType) → IsValueInRange f.ends (length f.records) d.value → IsWithin untagged f s
      → is_object (length s.file.records) t ≡ true → (z : Statements × Scope) → declare_static s d x t ≡ Ok z
      → FoundIn untagged f s (spoken_by_value d.value) (first_declarator d.declarator x.from ∷ literals_of_value d.value) (IsStatic s d x t z.0 z.1) [] z.1
  static_found s d x t n w o z h =
      let i = bound_ok (constants_if_any d.value (with_static s d x t) t) _ z h in
      let v = constants_found untagged f d.value (with_static s d x t) t n (static_within s d x t w o) o i.0 i.1 in
      given (λ (z : Statements × Scope). FoundIn untagged f s (spoken_by_value d.value) (first_declarator d.declarator x.from ∷ literals_of_value d.value)
      (IsStatic s d x t z.0 z.1) [] z.1) _ z i.2 (static_made s d x t w i.0 v o _ refl)
