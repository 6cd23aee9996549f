-- What a part of the file scope that is read leaves for the next one, and where reading stops at file scope.
use Rattle.std.proofs.Common.{◌≡◌, ℕ, zero, suc, ◌+◌, ◌<◌, Bool, false, refl, sym, ap, ◌∙◌, subst, List, [], ◌∷◌, ◌++◌, length, inl, inr}
use Rattle.std.specs.Prelude.{◌⊎◌, map, Some, slice_get}
use Rattle.c_erasure.specs.BrokenStatements.{IsAmong}
use Rattle.c_erasure.specs.Marks.{Mark, scope_beginnings, defined_in}
use Rattle.c_erasure.specs.Scopes.{FileScope, Scope, Bound, ALocal, AnObject, Entity, typedef, enumerator, an_object, a_function}
use Rattle.c_erasure.specs.Scopes.{a_library_function, a_local}
use Rattle.c_erasure.specs.Scopes.{a_parameter, at_file_scope}
use Rattle.c_checking_laws.proofs.Agreement.{IsFit, AreFit, IsGrown, IsSteady, IsObjectType, AreBegun, AreBefore}
use Rattle.c_checking_laws.proofs.Declared.{number_is}
use Rattle.c_checking_laws.proofs.Extends.{Extends, kept, one_of_both}
use Rattle.c_checking_laws.proofs.FaultResults.{Broken, Up, within_reached}
use Rattle.c_checking_laws.proofs.Settled.{Settles}
use Rattle.c_checking_laws.proofs.Within.{Additions, both, Within}
use Rattle.c_checking_laws.proofs.WholeFiles.FileScopes.{Continues, IsSameObject, continues_itself, continues_then}
use Rattle.c_checking_laws.proofs.WholeFiles.Known.{IsKnown}
use Rattle.c_checking_laws.proofs.WholeFiles.Stepping.{counted_by}
use Rattle.c_checking_units.proofs.FirstStops.Clear.{NoneAt, begin_at}
use Rattle.c_checking_units.proofs.FirstStops.UpTo.{UpTo, Exactly, up_to_itself, up_to_first, up_to_then}

map_back : {X Y : Type 0} (v : X → Y) (xs : List X) (k : ℕ) (y : Y) → slice_get (map v xs) k ≡ Some y
    → (x : X) × (slice_get xs k ≡ Some x) × (v x ≡ y)
map_back v [] k y e = cc
map_back v (x ∷ xs) zero y e = (x, refl, let f : v x ≡ y = cc in f)
map_back v (x ∷ xs) (suc k) y e = map_back v xs k y e

map_there : {X : Type 0} (v : X → ℕ) (xs : List X) (k : ℕ) (x : X) → slice_get xs k ≡ Some x → slice_get (map v xs) k ≡ Some (v x)
map_there v [] k x e = cc
map_there v (y ∷ xs) zero x e = let same : y ≡ x = cc in ap (λ x. Some (v x)) same
map_there v (y ∷ xs) (suc k) x e = map_there v xs k x e

-- names of the file scope are none of locals
fits_anywhere : (f : FileScope) (locals : List ALocal) (e : Entity) → IsFit f [] e → IsFit f locals e
fits_anywhere f locals (typedef t) h = h
fits_anywhere f locals (enumerator v) h = h
fits_anywhere f locals (an_object n t) h = h
fits_anywhere f locals (a_function n t) h = h
fits_anywhere f locals (a_library_function which) h = h
fits_anywhere f locals (a_local n t) h = cc
fits_anywhere f locals (a_parameter t) h = h

all_fit_anywhere : (f : FileScope) (locals : List ALocal) (all : List Bound) → AreFit f [] all → AreFit f locals all
all_fit_anywhere f locals [] h = h
all_fit_anywhere f locals (b ∷ more) h = (fits_anywhere f locals b.entity h.0, all_fit_anywhere f locals more h.1)

module _ (nodes_at : ℕ → ℕ) (made : List ℕ) (P Q : ℕ → Type 0) where
  -- a file of which so much is known is as faults ask
  pub steady_known : (f : FileScope) → IsKnown nodes_at made P Q f → IsSteady f
  steady_known f k = record {
    tagged = λ n r e. number_is f.numbered r.tag n (k.settled.first n r e);
    fields = λ n j r x e i. (n, k.settled.whole n r e j x i);
    objects = λ n t e.
        let o = map_back (λ (o : AnObject). o.ty) f.objects n t e in
        subst IsObjectType o.2 (length f.records, k.whole n o.0 o.1);
  }

  -- names and records are those that the marks say
  pub grown_by : (f g : FileScope) (u : List Mark) → Extends f g → map (λ r. r.tag) g.records ≡ map (λ r. r.tag) f.records ++ defined_in u
      → map (λ b. b.from) g.names ≡ map (λ b. b.from) f.names ++ scope_beginnings u → IsKnown nodes_at made P Q g → IsGrown f false u g
  grown_by f g u p records names k = record {
    extends = p;
    counted = counted_by u f g records;
    names = λ locals h. all_fit_anywhere g locals g.names k.fits;
    steady = λ h. steady_known g k;
    settled = λ h. k.settled;
    begun = λ before h m n b e. by_part before h (m refl) n b
        (one_of_both (map (λ b. b.from) f.names) (scope_beginnings u) n b.from
        (subst (λ all. slice_get all n ≡ Some b.from) names (map_there (λ b. b.from) g.names n b e)));
  }
    where
      by_part : (before : ℕ) → AreBegun f.names before → AreBefore (scope_beginnings u) before → (n : ℕ) (b : Bound)
          → (slice_get (map (λ b. b.from) f.names) n ≡ Some b.from)
          ⊎ ((j : ℕ) × (n ≡ length (map (λ b. b.from) f.names) + j) × (slice_get (scope_beginnings u) j ≡ Some b.from)) → b.from < before
      by_part before h m n b (inl e) =
          let c = map_back (λ (b : Bound). b.from) f.names n b.from e in
          subst (λ from. from < before) c.2 (h n c.0 c.1)
      by_part before h m n b (inr e) = m e.0 b.from e.2

-- ---- where reading stops at file scope: in a file that goes on, into which a first part of these additions is read, something is so

pub record GoesUpTo (all : Additions) (f g : FileScope) : Type 0 where
  pub continues : Continues f g
  pub up_to : UpTo f all g

-- inside of a part, at whose literals no object began before
pub continues_within : {f g : FileScope} {a b c : Bool} (all : Additions) → Extends f g → Within f a b c all g → NoneAt f all.made → Continues f g
continues_within {f} {g} all p w none = record {
  extends = p;
  objects = λ n o h.
      let there = map_back (λ (o : AnObject). o.first) g.objects n o.first
      (subst (λ firsts. slice_get firsts n ≡ Some o.first) (sym w.firsts.1)
      (kept (map (λ o. o.first) f.objects) w.firsts.0 n o.first (map_there (λ o. o.first) f.objects n o h))) in
      (there.0, there.1, by_part n o there.0 h there.2 ((begin_at w).begins n there.0 there.1));
  functions = λ n o h. (
    o,
    subst (λ all. slice_get all n ≡ Some o) (sym w.functions) h,
    record { name = refl; first = refl; ty = refl; is_linked = refl; settled = λ s. refl },
  );
}
  where
    one_object : (o q : AnObject) → Some o ≡ Some q → o ≡ q
    one_object o q e = cc

    by_part : (n : ℕ) (o q : AnObject) → slice_get f.objects n ≡ Some o → q.first ≡ o.first
        → (slice_get f.objects n ≡ Some q) ⊎ IsAmong all.made q.first → IsSameObject o q
    by_part n o q h first (inl e) =
        subst (IsSameObject o) (one_object o q (sym h ∙ e))
        (record { name = refl; first = refl; ty = refl; is_linked = refl; literal = refl; settled = λ s. refl })
    by_part n o q h first (inr i) = absurd (none n o h (subst (IsAmong all.made) first i))

pub record StopsIn (all : Additions) (f : FileScope) (Is : FileScope → Type 0) : Type 0 where
  pub file : FileScope
  pub reaches : GoesUpTo all f file
  pub is : Is file

pub stops_here : (all : Additions) (f : FileScope) (Is : FileScope → Type 0) → Is f → StopsIn all f Is
stops_here all f Is h = record { file = f; reaches = record { continues = continues_itself f; up_to = up_to_itself f all }; is = h }

pub stops_there : (all : Additions) (f g : FileScope) (Is : FileScope → Type 0) → GoesUpTo all f g → Is g → StopsIn all f Is
stops_there all f g Is p h = record { file = g; reaches = p; is = h }

-- behind a part that is read
pub stops_later : {f g : FileScope} (p q : Additions) (Is : FileScope → Type 0) → Continues f g → Exactly f p g → StopsIn q g Is → StopsIn (both p q) f Is
stops_later p q Is goes whole b = record {
  file = b.file;
  reaches = record { continues = continues_then goes b.reaches.continues; up_to = up_to_then p q whole b.reaches.up_to };
  is = b.is;
}

-- in the first of two parts
pub stops_first : {f : FileScope} (p q : Additions) (Is : FileScope → Type 0) → StopsIn p f Is → StopsIn (both p q) f Is
stops_first p q Is b = record {
  file = b.file;
  reaches = record { continues = b.reaches.continues; up_to = up_to_first p q b.reaches.up_to };
  is = b.is;
}

-- what a law on parts of the tree says
pub stops_of : {f : FileScope} (p all : Additions) → NoneAt f p.made → ((g : FileScope) → Up (at_file_scope f) p g → Settles f g → UpTo f all g)
    → (Is : Scope → Type 0) (Js : FileScope → Type 0) → Broken (Up (at_file_scope f) p) (at_file_scope f) Is
    → ((g : FileScope) → Extends f g → Is (at_file_scope g) → Js g) → StopsIn all f Js
stops_of {f} p all none up Is Js b into =
    let w = within_reached (at_file_scope f) p b.reaches in
    record {
      file = b.file;
      reaches = record { continues = continues_within p b.reaches.extends w none; up_to = up b.file w b.reaches.settled };
      is = into b.file b.reaches.extends b.is;
    }

abbrev pub additions : List Mark → List ℕ → List ℕ → Additions
additions u x k = record { marks = u; said = x; made = k }

pub same_additions : (u v : List Mark) (x y k l : List ℕ) → u ≡ v → x ≡ y → k ≡ l
    → additions u x k ≡ additions v y l
same_additions u v x y k l p q r =
    ap (λ u. additions u x k) p ∙ ap (λ x. additions v x k) q ∙ ap (λ k. additions v y k) r
