-- The end of a file: an object that is declared tentatively, and not defined, is zero; and what declares each object and function (C99 6.9.2).
use Rattle.std.proofs.Common.{◌≡◌, ◌≢◌, ℕ, zero, suc, ◌+◌, Bool, true, false, refl, sym, ap, ◌∙◌, subst, cond, List, [], ◌∷◌, arith, inl, inr}
use Rattle.std.proofs.lemmas.Bool.{eqb-true, eq-eqb}
use Rattle.std.specs.List.{list_any}
use Rattle.std.specs.Prelude.{◌⊎◌, ◌&&◌, ◌||◌, ◌==◌, map, Option, Some, None, slice_get, is_none}
use Rattle.std.specs.Option.{IsSome}
use Rattle.c_types.specs.Types.{CType}
use Rattle.c_typed.specs.Trees as Typed
use Rattle.c_erasure.specs.Files as Files
use Rattle.c_erasure.specs.Files.{declarations_of, is_defined, IsLeft}
use Rattle.c_erasure.specs.Noted.{Noted}
use Rattle.c_erasure.specs.Scopes.{FileScope, Bound, How, declares, tentative, defines, Entity, typedef, enumerator, an_object, a_function, a_library_function}
use Rattle.c_erasure.specs.Scopes.{a_local, a_parameter, AnObject}
use Rattle.c_erasure.specs.Checking.Files.{is_tentative, settled, settled_from, closed_file}
use Rattle.c_checking_laws.proofs.Extends.{itself}
use Rattle.c_checking_laws.proofs.WholeFiles.FileScopes.{IsSameObject, Continues, continues_itself}
use Rattle.c_checking_laws.proofs.WholeFiles.Known.{HasBound, HasDefinition, HasNoDefinition}

-- ---- objects of a closed file

pub settled_is : (names : List Bound) (n : ℕ) (o : AnObject) → (settled names n o ≡ o) ⊎ ((o.initial ≡ None) × (list_any (is_tentative n) names ≡ true)
    × (settled names n o ≡ record o { initial = Some (Typed.parts []) }))
settled_is names n o = by_initial o.initial refl
  where
    by_names : (b : Bool) → list_any (is_tentative n) names ≡ b → o.initial ≡ None
        → (settled names n o ≡ o) ⊎ ((o.initial ≡ None) × (list_any (is_tentative n) names ≡ true)
        × (settled names n o ≡ record o { initial = Some (Typed.parts []) }))
    by_names true e i = inr (
      i,
      e,
      ap (λ c. cond c (record o { initial = Some (Typed.parts []) }) o)
          (ap (λ i. is_none i && list_any (is_tentative n) names) i ∙ e),
    )
    by_names false e i = inl (ap (λ c. cond c (record o { initial = Some (Typed.parts []) }) o)
        (ap (λ i. is_none i && list_any (is_tentative n) names) i ∙ e))

    by_initial : (i : Option (Typed.Initializer Noted)) → o.initial ≡ i
        → (settled names n o ≡ o) ⊎ ((o.initial ≡ None) × (list_any (is_tentative n) names ≡ true)
        × (settled names n o ≡ record o { initial = Some (Typed.parts []) }))
    by_initial None e = by_names (list_any (is_tentative n) names) refl e
    by_initial (Some i) e = inl (ap (λ c. cond c (record o { initial = Some (Typed.parts []) }) o)
        (ap (λ i. is_none i && list_any (is_tentative n) names) e))

nothing_there : (o : AnObject) → o.initial ≡ None → IsSome o.initial → ⊥
nothing_there o e s = let none_is_some = subst IsSome e s in cc

pub settled_same : (names : List Bound) (n : ℕ) (o : AnObject) → IsSameObject o (settled names n o)
settled_same names n o = by_case (settled_is names n o)
  where
    by_case : (settled names n o ≡ o) ⊎ ((o.initial ≡ None) × (list_any (is_tentative n) names ≡ true)
        × (settled names n o ≡ record o { initial = Some (Typed.parts []) })) → IsSameObject o (settled names n o)
    by_case (inl e) = subst (IsSameObject o) (sym e)
        (record { name = refl; first = refl; ty = refl; is_linked = refl; literal = refl; settled = λ s. refl })
    by_case (inr e) = subst (IsSameObject o) (sym e.2)
        (record { name = refl; first = refl; ty = refl; is_linked = refl; literal = refl; settled = λ s. absurd (nothing_there o e.0 s) })

pub settled_place : (names : List Bound) (n : ℕ) (o : AnObject) → (settled names n o).place ≡ o.place
settled_place names n o = by_case (settled_is names n o)
  where
    by_case : (settled names n o ≡ o) ⊎ ((o.initial ≡ None) × (list_any (is_tentative n) names ≡ true)
        × (settled names n o ≡ record o { initial = Some (Typed.parts []) })) → (settled names n o).place ≡ o.place
    by_case (inl e) = ap (λ (o : AnObject). o.place) e
    by_case (inr e) = ap (λ (o : AnObject). o.place) e.2

settled_at : (names : List Bound) (m n k : ℕ) (o : AnObject) → m ≡ n + k → settled names m o ≡ settled names (n + k) o
settled_at names m n k o e = ap (λ m. settled names m o) e

from_closed : (names : List Bound) (n : ℕ) (xs : List AnObject) (k : ℕ) (p : AnObject) → slice_get (settled_from names n xs) k ≡ Some p
    → (o : AnObject) × (slice_get xs k ≡ Some o) × (p ≡ settled names (n + k) o)
from_closed names n [] k p e = cc
from_closed names n (x ∷ xs) zero p e =
    let same : settled names n x ≡ p = cc in (x, refl, sym same ∙ settled_at names n n 0 x (omega arith))
from_closed names n (x ∷ xs) (suc k) p e =
    let r = from_closed names (n + 1) xs k p e in
    (r.0, r.1, r.2 ∙ ap (λ m. settled names m r.0) (let z : n + 1 + k ≡ n + suc k = omega arith in z))

to_closed : (names : List Bound) (n : ℕ) (xs : List AnObject) (k : ℕ) (o : AnObject) → slice_get xs k ≡ Some o
    → slice_get (settled_from names n xs) k ≡ Some (settled names (n + k) o)
to_closed names n [] k o e = cc
to_closed names n (x ∷ xs) zero o e =
    let same : x ≡ o = cc in ap (λ x. Some (settled names n x)) same ∙ ap Some (settled_at names n n 0 o (omega arith))
to_closed names n (x ∷ xs) (suc k) o e =
    to_closed names (n + 1) xs k o e ∙ ap (λ m. Some (settled names m o)) (let z : n + 1 + k ≡ n + suc k = omega arith in z)

-- by its number in the file
pub closed_object : (f : FileScope) (n : ℕ) (p : AnObject) → slice_get (closed_file f).objects n ≡ Some p
    → (o : AnObject) × (slice_get f.objects n ≡ Some o) × (p ≡ settled f.names n o)
closed_object f n p e =
    let r = from_closed f.names 0 f.objects n p e in (r.0, r.1, r.2 ∙ ap (λ m. settled f.names m r.0) (let z : 0 + n ≡ n = omega arith in z))

pub object_closed : (f : FileScope) (n : ℕ) (o : AnObject) → slice_get f.objects n ≡ Some o
    → slice_get (closed_file f).objects n ≡ Some (settled f.names n o)
object_closed f n o e = to_closed f.names 0 f.objects n o e ∙ ap (λ m. Some (settled f.names m o)) (let z : 0 + n ≡ n = omega arith in z)

pub closed_same : {Y : Type 0} (v : AnObject → Y) (names : List Bound) (n : ℕ) (xs : List AnObject)
    → ((m : ℕ) (o : AnObject) → v (settled names m o) ≡ v o) → map v (settled_from names n xs) ≡ map v xs
closed_same v names n [] h = refl
closed_same v names n (x ∷ xs) h = ap (λ y. y ∷ map v (settled_from names (n + 1) xs)) (h n x) ∙ ap (λ all. v x ∷ all) (closed_same v names (n + 1) xs h)

-- the closed file goes on from the file
pub closed_continues : (f : FileScope) → Continues f (closed_file f)
closed_continues f = record {
  extends = record {
    file = refl;
    tags = refl;
    ends = refl;
    numbered = refl;
    untagged = refl;
    names = (itself f).names;
    records = (itself f).records;
    mentions = λ kind t at h. h;
    types = λ n t h. subst (λ all. slice_get all n ≡ Some t)
        (sym (closed_same (λ o. o.ty) f.names 0 f.objects (λ m o. (settled_same f.names m o).ty))) h;
    objects = λ n o h i. object_closed f n o h ∙ ap Some ((settled_same f.names n o).settled i);
    functions = λ n t h. h;
  };
  objects = λ n o h. (settled f.names n o, object_closed f n o h, settled_same f.names n o);
  functions = λ n o h. (continues_itself f).functions n o h;
}

-- ---- the declarations of a thing

pub record HasDeclarations (names : List Bound) (e : Entity) : Type 0 where
  pub all : List How
  pub are : declarations_of names e all
  pub filled : HasBound names e → all ≢ []
  pub defined : HasDefinition names e → is_defined all ≡ true
  pub undefined : HasNoDefinition names e → is_defined all ≡ false

defined_more : (how : How) (all : List How) → is_defined all ≡ true → is_defined (how ∷ all) ≡ true
defined_more defines all e = refl
defined_more declares all e = e
defined_more tentative all e = e

undefined_more : (how : How) (all : List How) → how ≢ defines → is_defined all ≡ false → is_defined (how ∷ all) ≡ false
undefined_more defines all n e = absurd (n refl)
undefined_more declares all n e = e
undefined_more tentative all n e = e

pub declarations : (names : List Bound) (e : Entity) → ((k : ℕ) (b : Bound) → slice_get names k ≡ Some b → (b.entity ≡ e) ⊎ (b.entity ≢ e))
    → HasDeclarations names e
declarations [] e h = record { all = []; are = refl; filled = λ b. cc; defined = λ b. cc; undefined = λ n. refl }
declarations (b ∷ names) e h = by_case (h 0 b refl) (declarations names e (λ k c g. h (suc k) c g))
  where
    by_case : (b.entity ≡ e) ⊎ (b.entity ≢ e) → HasDeclarations names e → HasDeclarations (b ∷ names) e
    by_case (inl i) r = record {
      all = b.how ∷ r.all;
      are = inl (i, (r.all, refl, r.are));
      filled = λ c g. cc;
      defined = λ d. found d.0 d.1 d.2 d.3 d.4;
      undefined = λ n. undefined_more b.how r.all (n 0 b refl i) (r.undefined (λ k c g is. n (suc k) c g is));
    }
      where
        found : (k : ℕ) (c : Bound) → slice_get (b ∷ names) k ≡ Some c → c.entity ≡ e → c.how ≡ defines → is_defined (b.how ∷ r.all) ≡ true
        found zero c g is d =
            let same : b ≡ c = cc in
            ap (λ how. is_defined (how ∷ r.all)) (ap (λ (b : Bound). b.how) same ∙ d)
        found (suc k) c g is d = defined_more b.how r.all (r.defined (k, c, g, is, d))
    by_case (inr n) r = record {
      all = r.all;
      are = inr (n, r.are);
      filled = λ c. r.filled (later c.0 c.1 c.2 c.3);
      defined = λ d. found d.0 d.1 d.2 d.3 d.4;
      undefined = λ m. r.undefined (λ k c g is. m (suc k) c g is);
    }
      where
        later : (k : ℕ) (c : Bound) → slice_get (b ∷ names) k ≡ Some c → c.entity ≡ e → HasBound names e
        later zero c g is = let same : b ≡ c = cc in absurd (n (ap (λ (b : Bound). b.entity) same ∙ is))
        later (suc k) c g is = (k, c, g, is)

        found : (k : ℕ) (c : Bound) → slice_get (b ∷ names) k ≡ Some c → c.entity ≡ e → c.how ≡ defines → is_defined r.all ≡ true
        found zero c g is d = let same : b ≡ c = cc in absurd (n (ap (λ (b : Bound). b.entity) same ∙ is))
        found (suc k) c g is d = r.defined (k, c, g, is, d)

-- ---- tentative declarations, as the checker looks for them and as they are listed

abbrev tests : ℕ → Entity → How → Bool
tests n e how = is_tentative n (record { name = []; place = 0; from = 0; how = how; entity = e })

test_is : (n : ℕ) (b : Bound) → is_tentative n b ≡ tests n b.entity b.how
test_is n b = refl

own_test : (n : ℕ) (t : CType) (how : How) (rest : List How) → (tests n (an_object n t) how || Files.is_tentative rest) ≡ Files.is_tentative (how ∷ rest)
own_test n t tentative rest = ap (λ b. (b && true) || Files.is_tentative rest) (eq-eqb n n refl)
own_test n t declares rest = ap (λ b. (b && false) || Files.is_tentative rest) (eq-eqb n n refl)
own_test n t defines rest = ap (λ b. (b && false) || Files.is_tentative rest) (eq-eqb n n refl)

other_test : (n : ℕ) (t : CType) (e : Entity) (how : How) → ((u : CType) → e ≡ an_object n u → u ≡ t) → e ≢ an_object n t → tests n e how ≡ false
other_test n t (an_object m u) how one ne = by_number (n == m) refl
  where
    by_number : (b : Bool) → n == m ≡ b → tests n (an_object m u) how ≡ false
    by_number true e =
        let same : n ≡ m = eqb-true n m e in
        absurd (ne (ap (λ m. an_object m u) (sym same) ∙ ap (λ u. an_object n u) (one u (ap (λ m. an_object m u) (sym same)))))
    by_number false e = by_how how
      where
        by_how : (how : How) → tests n (an_object m u) how ≡ false
        by_how tentative = ap (λ b. b && true) e
        by_how declares = ap (λ b. b && false) e
        by_how defines = ap (λ b. b && false) e
other_test n t (typedef u) how one ne = refl
other_test n t (enumerator v) how one ne = refl
other_test n t (a_function m u) how one ne = refl
other_test n t (a_library_function which) how one ne = refl
other_test n t (a_local m u) how one ne = refl
other_test n t (a_parameter u) how one ne = refl

pub tentative_same : (names : List Bound) (n : ℕ) (t : CType) (all : List How) → declarations_of names (an_object n t) all
    → ((k : ℕ) (b : Bound) → slice_get names k ≡ Some b → (u : CType) → b.entity ≡ an_object n u → u ≡ t)
    → list_any (is_tentative n) names ≡ Files.is_tentative all
tentative_same [] n t all d one = ap Files.is_tentative (sym d)
tentative_same (b ∷ names) n t all (inl d) one =
    let r = tentative_same names n t d.1.0 d.1.2 (λ k c g. one (suc k) c g) in
    ap (λ z. is_tentative n b || z) r ∙ ap (λ e. tests n e b.how || Files.is_tentative d.1.0) d.0 ∙ own_test n t b.how d.1.0
    ∙ ap Files.is_tentative (sym d.1.1)
tentative_same (b ∷ names) n t all (inr d) one =
    let r = tentative_same names n t all d.1 (λ k c g. one (suc k) c g) in
    ap (λ z. is_tentative n b || z) r ∙ ap (λ c. c || Files.is_tentative all) (other_test n t b.entity b.how (one 0 b refl) d.0)

-- what is left of an object at the end
pub left_so : (f : FileScope) (n : ℕ) (o : AnObject) (all : List How)
    → (o.initial ≡ None → o.place ≡ record { file = f.file; at = o.first })
    → (is_defined all ≡ false → o.initial ≡ None) → list_any (is_tentative n) f.names ≡ Files.is_tentative all
    → IsLeft (closed_file f) (settled f.names n o) (is_defined all) (Files.is_tentative all)
left_so f n o all place none same = by_defined (is_defined all) refl
  where
    there : o.initial ≡ None → (settled f.names n o).place ≡ record { file = f.file; at = (settled f.names n o).first }
    there e = settled_place f.names n o ∙ place e ∙ ap (λ at. record { file = f.file; at = at }) (sym (settled_same f.names n o).first)

    by_tentative : (c : Bool) → Files.is_tentative all ≡ c → o.initial ≡ None → IsLeft (closed_file f) (settled f.names n o) false c
    by_tentative true e i = (there i, of_case (settled_is f.names n o))
      where
        of_case : (settled f.names n o ≡ o) ⊎ ((o.initial ≡ None) × (list_any (is_tentative n) f.names ≡ true)
            × (settled f.names n o ≡ record o { initial = Some (Typed.parts []) })) → (settled f.names n o).initial ≡ Some (Typed.parts [])
        of_case (inr g) = ap (λ (o : AnObject). o.initial) g.2
        of_case (inl g) =
            ap (λ c. (cond c (record o { initial = Some (Typed.parts []) }) o).initial)
            (ap (λ i. is_none i && list_any (is_tentative n) f.names) i ∙ same ∙ e)
    by_tentative false e i = (there i, of_case (settled_is f.names n o))
      where
        of_case : (settled f.names n o ≡ o) ⊎ ((o.initial ≡ None) × (list_any (is_tentative n) f.names ≡ true)
            × (settled f.names n o ≡ record o { initial = Some (Typed.parts []) })) → (settled f.names n o).initial ≡ None
        of_case (inl g) = ap (λ (o : AnObject). o.initial) g ∙ i
        of_case (inr g) = let true_is_false = sym g.1 ∙ same ∙ e in cc

    by_defined : (c : Bool) → is_defined all ≡ c → IsLeft (closed_file f) (settled f.names n o) c (Files.is_tentative all)
    by_defined true e = by_any (Files.is_tentative all)
      where
        by_any : (c : Bool) → IsLeft (closed_file f) (settled f.names n o) true c
        by_any c = tt
    by_defined false e = by_tentative (Files.is_tentative all) refl (none e)
