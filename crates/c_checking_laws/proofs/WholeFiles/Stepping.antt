-- One part of an item after another: what each adds to the file, and what holds of it in the whole file.
use Rattle.std.proofs.Common.{zero, suc}
use Rattle.std.specs.Prelude.{None}
use Rattle.std.proofs.Common.{◌≡◌, ℕ, suc, ◌+◌, ◌<◌, false, refl, sym, ap, ◌∙◌, subst, List, [], ◌∷◌, ◌++◌, length}
use Rattle.std.proofs.Common.{append-nil, append_assoc, length-append, arith}
use Rattle.std.specs.Prelude.{map, Some, slice_get}
use Rattle.c_erasure.specs.Files.{AreConsistent}
use Rattle.c_erasure.specs.Marks.{Mark, a_tag, an_end, a_name, scope_beginnings, defined_in, ends_in, tags_in}
use Rattle.c_erasure.specs.Scopes.{FileScope, Bound, at_file_scope}
use Rattle.c_checking_laws.proofs.Adding.{Adds}
use Rattle.c_checking_laws.proofs.Agreement.{AreFit, IsGrown, Ready, beginnings_append}
use Rattle.c_checking_laws.proofs.Extends.{Extends, behind}
use Rattle.c_checking_laws.proofs.WholeFiles.FileScopes.{Continues, continues_itself, continues_then, adds_continues}
use Rattle.c_checking_laws.proofs.WholeFiles.Kept.{AreTagsFit, fit_then, tags_append, Keeps}
use Rattle.c_checking_laws.proofs.WholeFiles.Layouts.{IsLaid}
use Rattle.c_checking_laws.proofs.WholeFiles.Parts.{Parted, none, is_bytes, parted_then, NoneBegins, none_left, none_right}
use Rattle.std.proofs.Common.{inl, inr}
use Rattle.std.specs.Prelude.{◌⊎◌, slice_set}
use Rattle.c_erasure.specs.Scopes.{AnObject}
use Rattle.c_types.specs.Types.{CType}
use Rattle.c_typed.specs.Trees as Typed
use Rattle.c_typed.specs.TypedStatements.{IsTypedInitializer}
use Rattle.c_erasure.specs.Erasure.{literal_of, literal_object}
use Rattle.c_erasure.specs.Files.{IsTypedObject}
use Rattle.c_erasure.specs.Noted.{Noted}
use Rattle.c_erasure.specs.Scopes.{ALocal, declared}
use Rattle.c_checking_laws.proofs.WholeFiles.Kept.{IsALiteral}
use Rattle.c_checking_laws.proofs.WholeFiles.SameLocals.{with_locals}
use Rattle.c_checking_laws.proofs.WholeFiles.Wholes.{typed_initial}
use Rattle.c_checking_laws.proofs.WholeFiles.NoLocals.{constants_typed}
use Rattle.c_checking_laws.proofs.WholeFiles.Scoped.{KeepsConstants, IsMadeTyped, literal_typed, new_of}
use Rattle.c_checking_laws.proofs.WholeFiles.Known.{IsKnown, none_new}
use Rattle.c_checking_laws.proofs.WholeFiles.Making.{finding_known}

pub defined_append : (u v : List Mark) → defined_in (u ++ v) ≡ defined_in u ++ defined_in v
defined_append [] v = refl
defined_append (a_tag t ∷ u) v = defined_append u v
defined_append (an_end tag right ∷ u) v = ap (λ z. tag ∷ z) (defined_append u v)
defined_append (a_name from ∷ u) v = defined_append u v

pub as_many : (u : List Mark) → length (defined_in u) ≡ length (ends_in u)
as_many [] = refl
as_many (a_tag t ∷ u) = as_many u
as_many (an_end tag right ∷ u) = ap suc (as_many u)
as_many (a_name from ∷ u) = as_many u

pub ends_append : (u v : List Mark) → ends_in (u ++ v) ≡ ends_in u ++ ends_in v
ends_append [] v = refl
ends_append (a_tag t ∷ u) v = ends_append u v
ends_append (an_end tag right ∷ u) v = ap (λ z. right ∷ z) (ends_append u v)
ends_append (a_name from ∷ u) v = ends_append u v

pub all_bytes : (all : List ℕ) → Parted all [] all
all_bytes [] = none
all_bytes (at ∷ more) = is_bytes at more [] more (all_bytes more)

-- ---- the whole file

pub record IsFinal (others : List ℕ) (h : FileScope) : Type 0 where
  pub laid : IsLaid h
  pub none_begins : NoneBegins h others
  pub constants : (b : FileScope) → Extends b h → KeepsConstants b h
  pub consistent : AreConsistent h.names
  -- names begin to be in scope one after the other
  pub rising : (j k : ℕ) (a b : Bound) → j < k → slice_get h.names j ≡ Some a → slice_get h.names k ≡ Some b → a.from < b.from

pub final_left : (u v : List ℕ) {h : FileScope} → IsFinal (u ++ v) h → IsFinal u h
final_left u v {h} p =
    record { laid = p.laid; none_begins = none_left h u v p.none_begins; constants = p.constants; consistent = p.consistent; rising = p.rising }

pub final_right : (u v : List ℕ) {h : FileScope} → IsFinal (u ++ v) h → IsFinal v h
final_right u v {h} p =
    record { laid = p.laid; none_begins = none_right h u v p.none_begins; constants = p.constants; consistent = p.consistent; rising = p.rising }

-- ---- what objects hold at first

abbrev pub IsWellHeld : FileScope → AnObject → Type 0
IsWellHeld h o = (i : Typed.Initializer Noted) → o.initial ≡ Some i → IsTypedObject h o.ty i

pub as_typed_object : (h : FileScope) (t : CType) (i : Typed.Initializer Noted) → IsTypedInitializer (declared (at_file_scope h)) t (typed_initial i)
    → IsTypedObject h t i
as_typed_object h t (Typed.parts []) w = tt
as_typed_object h t (Typed.parts (part ∷ more)) w = w
as_typed_object h t (Typed.whole x) w = w
as_typed_object h t (Typed.whole_record p) w = w

pub made_held : (h : FileScope) (l : List ALocal) (t : CType) (i : Typed.Initializer Noted)
    → IsMadeTyped (declared (with_locals l (at_file_scope h))) t i → IsTypedObject h t i
made_held h l t i (inl e) = subst (IsTypedObject h t) (sym e) tt
made_held h l t i (inr w) = as_typed_object h t i (constants_typed (declared (with_locals l (at_file_scope h))) t i w.1 w.0)

one_initial : (i j : Typed.Initializer Noted) → Some i ≡ Some j → i ≡ j
one_initial i j e = cc

pub held_so : (h : FileScope) (o : AnObject) (j : Typed.Initializer Noted) → o.initial ≡ Some j → IsTypedObject h o.ty j → IsWellHeld h o
held_so h o j e w i g = subst (IsTypedObject h o.ty) (one_initial j i (sym e ∙ g)) w

pub nothing_held : (h : FileScope) (o : AnObject) → o.initial ≡ None → IsWellHeld h o
nothing_held h o e i g = let some_is_none = sym g ∙ e in cc

pub literal_held : (h : FileScope) (file : ℕ) (o : AnObject) → IsALiteral file o → IsWellHeld h o
literal_held h file o e =
    subst (IsWellHeld h) (sym e.2)
    (held_so h (literal_object (record { file = file; at = e.0 }) (literal_of e.1)) (Typed.parts (record { offset = 0; value = Typed.text (literal_of e.1) } ∷ []))
    refl (made_held h [] _ _ (literal_typed (declared (at_file_scope h)) file e.0 e.1)))

pub from_set : {X : Type 0} (xs : List X) (n m : ℕ) (p q : X) → slice_get (slice_set xs n p) m ≡ Some q → ((m ≡ n) × (q ≡ p)) ⊎ (slice_get xs m ≡ Some q)
from_set [] n m p q g = inr g
from_set (x ∷ xs) zero zero p q g = let f : p ≡ q = cc in inl (refl, sym f)
from_set (x ∷ xs) zero (suc m) p q g = inr g
from_set (x ∷ xs) (suc n) zero p q g = inr g
from_set (x ∷ xs) (suc n) (suc m) p q g = next (from_set xs n m p q g)
  where
    next : ((m ≡ n) × (q ≡ p)) ⊎ (slice_get xs m ≡ Some q) → ((suc m ≡ suc n) × (q ≡ p)) ⊎ (slice_get (x ∷ xs) (suc m) ≡ Some q)
    next (inl e) = inl (ap suc e.0, e.1)
    next (inr e) = inr e

module _ (nodes_at : ℕ → ℕ) where
  -- the marks, the types of which it speaks, the places of its declarators and literals, and those at which it makes objects of its own
  pub record Stepped (all : List Mark) (types places made : List ℕ) (f : FileScope) (Holds : FileScope → Type 0) (g : FileScope) : Type 0 where
    pub continues : Continues f g
    pub fit : AreTagsFit f.untagged f.tags (tags_in all)
    pub names : map (λ b. b.from) g.names ≡ map (λ b. b.from) f.names ++ scope_beginnings all
    pub records : map (λ r. r.tag) g.records ≡ map (λ r. r.tag) f.records ++ defined_in all
    pub mentions : map (λ m. m.at) g.mentions ≡ map (λ m. m.at) f.mentions ++ types
    pub objects : List ℕ
    pub others : List ℕ
    pub objects_parted : Parted places objects others
    pub objects_are : map (λ o. o.first) g.objects ≡ map (λ o. o.first) f.objects ++ objects
    pub functions : List ℕ
    pub no_functions : List ℕ
    pub functions_parted : Parted places functions no_functions
    pub functions_are : map (λ o. o.first) g.functions ≡ map (λ o. o.first) f.functions ++ functions
    pub known : (before : List ℕ) → IsKnown nodes_at before none_new none_new f → IsKnown nodes_at (before ++ made) none_new none_new g
    pub holds : (h : FileScope) → Continues g h → IsFinal others h → Holds h
    -- what a new object holds at first is well typed
    pub typed : (h : FileScope) → Continues g h → IsFinal others h → (n : ℕ) (o : AnObject) → slice_get g.objects n ≡ Some o
        → (slice_get f.objects n ≡ Some o) ⊎ IsWellHeld h o

  longer : {X : Type 0} (a b c u v : List X) → b ≡ a ++ u → c ≡ b ++ v → c ≡ a ++ (u ++ v)
  longer a b c u v p q = q ∙ ap (λ z. z ++ v) p ∙ append_assoc a u v

  pub stepped_then : {u v : List Mark} {x y k l m n : List ℕ} {A B C : FileScope → Type 0} (f g h : FileScope) → (p : Stepped u x k m f A g) → (q : Stepped v y l n g B h)
      → ((i : FileScope) → Continues h i → IsFinal (p.others ++ q.others) i → A i → B i → C i) → Stepped (u ++ v) (x ++ y) (k ++ l) (m ++ n) f C h
  stepped_then {u} {v} {x} {y} {k} {l} {m} {n} {A} {B} {C} f g h p q both = record {
    continues = continues_then p.continues q.continues;
    fit = subst (AreTagsFit f.untagged f.tags) (sym (tags_append u v))
        (fit_then f.untagged f.tags (tags_in u) (tags_in v) p.fit
        (subst (λ tags. AreTagsFit f.untagged tags (tags_in v)) p.continues.extends.tags
        (subst (λ names. AreTagsFit names g.tags (tags_in v)) p.continues.extends.untagged q.fit)));
    names = longer _ _ _ (scope_beginnings u) (scope_beginnings v) p.names q.names
        ∙ ap (λ z. map (λ b. b.from) f.names ++ z) (sym (beginnings_append u v));
    records = longer _ _ _ (defined_in u) (defined_in v) p.records q.records ∙ ap (λ z. map (λ r. r.tag) f.records ++ z) (sym (defined_append u v));
    mentions = longer _ _ _ x y p.mentions q.mentions;
    objects = p.objects ++ q.objects;
    others = p.others ++ q.others;
    objects_parted = parted_then p.objects_parted q.objects_parted;
    objects_are = longer _ _ _ p.objects q.objects p.objects_are q.objects_are;
    functions = p.functions ++ q.functions;
    no_functions = p.no_functions ++ q.no_functions;
    functions_parted = parted_then p.functions_parted q.functions_parted;
    functions_are = longer _ _ _ p.functions q.functions p.functions_are q.functions_are;
    known = λ before i. subst (λ made. IsKnown nodes_at made none_new none_new h) (append_assoc before m n) (q.known (before ++ m) (p.known before i));
    holds = λ i c e. both i c e (p.holds i (continues_then q.continues c) (final_left p.others q.others e)) (q.holds i c (final_right p.others q.others e));
    typed = λ i c e j o there. first i (continues_then q.continues c) (final_left p.others q.others e) j o
        (q.typed i c (final_right p.others q.others e) j o there);
  }
    where
      first : (i : FileScope) → Continues g i → IsFinal p.others i → (j : ℕ) (o : AnObject) → (slice_get g.objects j ≡ Some o) ⊎ IsWellHeld i o
          → (slice_get f.objects j ≡ Some o) ⊎ IsWellHeld i o
      first i c e j o (inl there) = p.typed i c e j o there
      first i c e j o (inr well) = inr well

  pub said_otherwise : {u : List Mark} {x k m : List ℕ} {A B : FileScope → Type 0} (f g : FileScope) → (p : Stepped u x k m f A g)
      → ((i : FileScope) → Continues g i → IsFinal p.others i → A i → B i) → Stepped u x k m f B g
  said_otherwise f g p is = record {
    continues = p.continues;
    fit = p.fit;
    names = p.names;
    records = p.records;
    mentions = p.mentions;
    objects = p.objects;
    others = p.others;
    objects_parted = p.objects_parted;
    objects_are = p.objects_are;
    functions = p.functions;
    no_functions = p.no_functions;
    functions_parted = p.functions_parted;
    functions_are = p.functions_are;
    known = p.known;
    holds = λ h c e. is h c e (p.holds h c e);
    typed = p.typed;
  }

  pub no_step : (f : FileScope) (A : FileScope → Type 0) → ((h : FileScope) → Continues f h → A h) → Stepped [] [] [] [] f A f
  no_step f A is = record {
    continues = continues_itself f;
    fit = tt;
    names = sym (append-nil _);
    records = sym (append-nil _);
    mentions = sym (append-nil _);
    objects = [];
    others = [];
    objects_parted = none;
    objects_are = sym (append-nil _);
    functions = [];
    no_functions = [];
    functions_parted = none;
    functions_are = sym (append-nil _);
    known = λ before k. subst (λ made. IsKnown nodes_at made none_new none_new f) (sym (append-nil before)) k;
    holds = λ h c e. is h c;
    typed = λ h c e n o there. inl there;
  }

  -- a part that is found, without objects of its own
  pub found_step : {u : List Mark} {x : List ℕ} (f g : FileScope) (A : FileScope → Type 0) → IsGrown f false u g → Keeps f false u g
      → Adds f false false false u x [] g → ((h : FileScope) → Extends g h → A h) → Stepped u x [] [] f A g
  found_step {u} {x} f g A w p a is = record {
    continues = adds_continues w.extends a;
    fit = p.fit refl;
    names = a.names;
    records = a.records;
    mentions = a.mentions;
    objects = [];
    others = [];
    objects_parted = none;
    objects_are = ap (λ all. map (λ o. o.first) all) a.objects.1 ∙ Rattle.std.proofs.lemmas.List.map-append (λ o. o.first) f.objects a.objects.0
        ∙ ap (λ z. map (λ o. o.first) f.objects ++ z) a.objects.2;
    functions = [];
    no_functions = [];
    functions_parted = none;
    functions_are = ap (λ all. map (λ o. o.first) all) a.functions ∙ sym (append-nil _);
    known = λ before k. finding_known nodes_at none_new none_new before w p a k;
    holds = λ h c e. is h c.extends;
    typed = λ h c e n o there. one h n o (new_of p n o there);
  }
    where
      one : (h : FileScope) (n : ℕ) (o : AnObject) → (slice_get f.objects n ≡ Some o) ⊎ IsALiteral f.file o
          → (slice_get f.objects n ≡ Some o) ⊎ IsWellHeld h o
      one h n o (inl e) = inl e
      one h n o (inr e) = inr (literal_held h f.file o e)

-- ---- what stands behind a part

map_length : {X Y : Type 0} (v : X → Y) (xs : List X) → length (map v xs) ≡ length xs
map_length v [] = refl
map_length v (x ∷ xs) = ap suc (map_length v xs)

pub counted_by : (u : List Mark) (f g : FileScope) → map (λ r. r.tag) g.records ≡ map (λ r. r.tag) f.records ++ defined_in u
    → length g.records ≡ length f.records + length (ends_in u)
counted_by u f g e =
    let a = sym (map_length (λ r. r.tag) g.records) ∙ ap length e ∙ length-append (map (λ r. r.tag) f.records) (defined_in u) in
    let b = map_length (λ r. r.tag) f.records in
    let c = as_many u in
    omega (arith, a, b, c)

pub ready_behind : (f g : FileScope) (u v : List Mark) → Ready (at_file_scope f) (u ++ v) → g.ends ≡ f.ends
    → length g.records ≡ length f.records + length (ends_in u) → AreFit g [] g.names → Ready (at_file_scope g) v
ready_behind f g u v r same n fits = record {
  names_fit = fits;
  blocks_fit = tt;
  ends_stand = λ i k right h.
      let e = r.ends_stand i (length (ends_in u) + k) right
      (rw (ends_append u v) (behind (ends_in u) (ends_in v) k (length (ends_in u) + k) right refl h)) in
      let m : length g.records + k ≡ length f.records + (length (ends_in u) + k) = omega (arith, n) in
      rw (same, m) e;
}
