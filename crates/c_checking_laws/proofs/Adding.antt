-- What a part of the text adds to a file, in numbers: names, structures, mentions and objects, in the order of the text.
use Rattle.std.proofs.Common.{◌≡◌, ℕ, zero, suc, Bool, true, false, refl, sym, ap, ◌∙◌, subst, List, [], ◌∷◌, ◌++◌, length, take, drop, append_assoc}
use Rattle.std.proofs.Common.{append-nil, arith, cond, inl, inr}
use Rattle.std.proofs.lemmas.List.{map-append}
use Rattle.std.specs.Prelude.{◌⊎◌, map, Some, Ok, slice_get}
use Rattle.c_types.specs.declared.ty.IntKind.{IntKind}
use Rattle.c_types.specs.Types.{CType, Record}
use Rattle.c_typed.specs.declared.program.MentionKind.{MentionKind}
use Rattle.c_erasure.specs.Files.{AreConsistent}
use Rattle.c_erasure.specs.Marks.{Mark, a_tag, an_end, a_name, scope_beginnings, defined_in}
use Rattle.c_erasure.specs.Noted.{Expression, Thing}
use Rattle.c_erasure.specs.Scopes.{Bound, Tag, AnObject, AMention, FileScope, Scope, Purpose, in_full, value_alone, type_alone, is_measured, purpose_of_value}
use Rattle.c_erasure.specs.Checking.Answers.{Answer, Checked, with_file}
use Rattle.c_erasure.specs.Checking.Nodes.{worth, tested}
use Rattle.c_erasure.specs.Checking.Declaring.{with_mention, mentions_in, with_object, with_record, with_bound, constant_in}
use Rattle.c_erasure.specs.Checking.Finding.{value_at, tested_at, constant_at}
use Rattle.c_checking_laws.proofs.Consistent.{IsAnEnumerator}
use Rattle.c_checking_laws.proofs.Extends.{last_or}
use Rattle.c_checking_laws.proofs.Results.{bound_ok, ok, given, with_file_ok}

-- a list, or nothing
abbrev pub unless : {X : Type 0} → Bool → List X → List X
unless true all = []
unless false all = all

pub unless_nothing : {X : Type 0} (b : Bool) → unless {X = X} b [] ≡ []
unless_nothing true = refl
unless_nothing false = refl

pub unless_append : {X : Type 0} (b : Bool) (u v : List X) → unless b (u ++ v) ≡ unless b u ++ unless b v
unless_append true u v = refl
unless_append false u v = refl

-- objects are made only by what is evaluated
abbrev pub makes_none : Purpose → Bool
makes_none in_full = false
makes_none p = true

pub record Adds (f : FileScope) (is_inside is_measured makes_none : Bool) (all : List Mark) (types made : List ℕ) (g : FileScope) : Type 0 where
  pub untagged : g.untagged ≡ f.untagged
  pub functions : g.functions ≡ f.functions
  pub names : map (λ b. b.from) g.names ≡ map (λ b. b.from) f.names ++ unless is_inside (scope_beginnings all)
  pub records : map (λ r. r.tag) g.records ≡ map (λ r. r.tag) f.records ++ unless is_inside (defined_in all)
  pub mentions : map (λ m. m.at) g.mentions ≡ map (λ m. m.at) f.mentions ++ unless is_measured types
  pub objects : (more : List AnObject) × (g.objects ≡ f.objects ++ more) × (map (λ o. o.first) more ≡ unless makes_none made)
  -- the names that are new stand for enumerators, and are those of no others
  pub declared : (k : ℕ) (b : Bound) → slice_get g.names k ≡ Some b → (slice_get f.names k ≡ Some b) ⊎ IsAnEnumerator b
  pub consistent : AreConsistent f.names → AreConsistent g.names

-- the marks are those of file scope, the types are those of which the text speaks, and the objects are those that it makes
abbrev pub Grows : Scope → List Mark → (types made : List ℕ) → FileScope → Type 0
Grows s all types made g = Adds s.file s.is_inside (is_measured s.purpose) (makes_none s.purpose) all types made g

-- ---- one part after another

pub beginnings_append : (u v : List Mark) → scope_beginnings (u ++ v) ≡ scope_beginnings u ++ scope_beginnings v
beginnings_append [] v = refl
beginnings_append (a_tag t ∷ u) v = beginnings_append u v
beginnings_append (an_end tag right ∷ u) v = beginnings_append u v
beginnings_append (a_name from ∷ u) v = ap (λ z. from ∷ z) (beginnings_append u v)

pub defined_append : (u v : List Mark) → defined_in (u ++ v) ≡ defined_in u ++ defined_in v
defined_append [] v = refl
defined_append (a_tag t ∷ u) v = defined_append u v
defined_append (an_end tag right ∷ u) v = ap (λ z. tag ∷ z) (defined_append u v)
defined_append (a_name from ∷ u) v = defined_append u v

longer : {X : Type 0} (b : Bool) (x y z u v w : List X) → y ≡ x ++ unless b u → z ≡ y ++ unless b v → w ≡ u ++ v → z ≡ x ++ unless b w
longer b x y z u v w p q e =
    q ∙ ap (λ y. y ++ unless b v) p ∙ append_assoc x (unless b u) (unless b v) ∙ ap (λ t. x ++ t) (sym (unless_append b u v) ∙ ap (unless b) (sym e))

pub adds_nothing : (f : FileScope) (a b c : Bool) → Adds f a b c [] [] [] f
adds_nothing f a b c = record {
  untagged = refl;
  functions = refl;
  names = sym (append-nil _) ∙ ap (λ z. map (λ b. b.from) f.names ++ z) (sym (unless_nothing a));
  records = sym (append-nil _) ∙ ap (λ z. map (λ r. r.tag) f.records ++ z) (sym (unless_nothing a));
  mentions = sym (append-nil _) ∙ ap (λ z. map (λ m. m.at) f.mentions ++ z) (sym (unless_nothing b));
  objects = ([], sym (append-nil f.objects), sym (unless_nothing c));
  declared = λ k b h. inl h;
  consistent = λ h. h;
}

pub declared_then : (f g : FileScope) (b : Bound) → ((k : ℕ) → slice_get g.names k ≡ Some b → (slice_get f.names k ≡ Some b) ⊎ IsAnEnumerator b) → (k : ℕ)
    → (slice_get g.names k ≡ Some b) ⊎ IsAnEnumerator b → (slice_get f.names k ≡ Some b) ⊎ IsAnEnumerator b
declared_then f g b p k (inl h) = p k h
declared_then f g b p k (inr h) = inr h

pub adds_then : {f g h : FileScope} {a b c : Bool} {u v : List Mark} {x y k l : List ℕ} → Adds f a b c u x k g → Adds g a b c v y l h
    → Adds f a b c (u ++ v) (x ++ y) (k ++ l) h
adds_then {f} {g} {h} {a} {b} {c} {u} {v} {x} {y} {k} {l} p q = record {
  untagged = q.untagged ∙ p.untagged;
  functions = q.functions ∙ p.functions;
  names = longer a _ _ _ (scope_beginnings u) (scope_beginnings v) _ p.names q.names (beginnings_append u v);
  records = longer a _ _ _ (defined_in u) (defined_in v) _ p.records q.records (defined_append u v);
  mentions = longer b _ _ _ x y _ p.mentions q.mentions refl;
  objects = (
    p.objects.0 ++ q.objects.0,
    q.objects.1 ∙ ap (λ z. z ++ q.objects.0) p.objects.1 ∙ append_assoc f.objects p.objects.0 q.objects.0,
    map-append (λ o. o.first) p.objects.0 q.objects.0 ∙ ap (λ z. z ++ map (λ o. o.first) q.objects.0) p.objects.2
        ∙ ap (λ z. unless c k ++ z) q.objects.2 ∙ sym (unless_append c k l),
  );
  declared = λ k n e. declared_then f g n (λ k e. p.declared k n e) k (q.declared k n e);
  consistent = λ e. q.consistent (p.consistent e);
}

-- ---- operands that are not evaluated, and what is inside of functions

pub as_measured : {f g : FileScope} {a b c : Bool} {u : List Mark} {x k : List ℕ} → Adds f a true true u x k g → Adds f a b c u [] [] g
as_measured {f} {g} {a} {b} {c} p = record {
  untagged = p.untagged;
  functions = p.functions;
  names = p.names;
  records = p.records;
  mentions = p.mentions ∙ ap (λ z. map (λ m. m.at) f.mentions ++ z) (sym (unless_nothing b));
  objects = (p.objects.0, p.objects.1, p.objects.2 ∙ sym (unless_nothing c));
  declared = p.declared;
  consistent = p.consistent;
}

pub as_value : {f g : FileScope} {a b c d : Bool} {u : List Mark} {x k : List ℕ} → d ≡ b → Adds f a d true u x k g → Adds f a b c u x [] g
as_value {f} {g} {a} {b} {c} {d} {u} {x} e p = record {
  untagged = p.untagged;
  functions = p.functions;
  names = p.names;
  records = p.records;
  mentions = p.mentions ∙ ap (λ d. map (λ m. m.at) f.mentions ++ unless d x) e;
  objects = (p.objects.0, p.objects.1, p.objects.2 ∙ sym (unless_nothing c));
  declared = p.declared;
  consistent = p.consistent;
}

pub as_inside : {f g : FileScope} {a d b c : Bool} {u : List Mark} {x k : List ℕ} → a ≡ true → Adds f a b c u x k g → Adds f d b c [] x k g
as_inside {f} {g} {a} {d} {b} {c} {u} e p = record {
  untagged = p.untagged;
  functions = p.functions;
  names = p.names ∙ ap (λ a. map (λ b. b.from) f.names ++ unless a (scope_beginnings u)) e
      ∙ ap (λ z. map (λ b. b.from) f.names ++ z) (sym (unless_nothing d));
  records = p.records ∙ ap (λ a. map (λ r. r.tag) f.records ++ unless a (defined_in u)) e
      ∙ ap (λ z. map (λ r. r.tag) f.records ++ z) (sym (unless_nothing d));
  mentions = p.mentions;
  objects = p.objects;
  declared = p.declared;
  consistent = p.consistent;
}

pub value_measures : (p : Purpose) → is_measured (purpose_of_value p) ≡ is_measured p
value_measures in_full = refl
value_measures value_alone = refl
value_measures type_alone = refl

pub value_makes_none : (p : Purpose) → makes_none (purpose_of_value p) ≡ true
value_makes_none in_full = refl
value_makes_none value_alone = refl
value_makes_none type_alone = refl

-- ---- a mention before what is said from there on

pub take_front : {X : Type 0} (u v : List X) → take (length u) (u ++ v) ≡ u
take_front [] v = refl
take_front (x ∷ u) v = ap (λ z. x ∷ z) (take_front u v)

pub drop_front : {X : Type 0} (u v : List X) → drop (length u) (u ++ v) ≡ v
drop_front [] v = refl
drop_front (x ∷ u) v = drop_front u v

take_there : {X : Type 0} (n : ℕ) (u v : List X) → n ≡ length u → take n (u ++ v) ≡ u
take_there n u v e = ap (λ n. take n (u ++ v)) e ∙ take_front u v

drop_there : {X : Type 0} (n : ℕ) (u v : List X) → n ≡ length u → drop n (u ++ v) ≡ v
drop_there n u v e = ap (λ n. drop n (u ++ v)) e ∙ drop_front u v

map_take : {X Y : Type 0} (f : X → Y) (n : ℕ) (u : List X) → map f (take n u) ≡ take n (map f u)
map_take f zero u = refl
map_take f (suc n) [] = refl
map_take f (suc n) (x ∷ u) = ap (λ z. f x ∷ z) (map_take f n u)

map_drop : {X Y : Type 0} (f : X → Y) (n : ℕ) (u : List X) → map f (drop n u) ≡ drop n (map f u)
map_drop f zero u = refl
map_drop f (suc n) [] = refl
map_drop f (suc n) (x ∷ u) = map_drop f n u

length_map : {X Y : Type 0} (f : X → Y) (u : List X) → length u ≡ length (map f u)
length_map f [] = refl
length_map f (x ∷ u) = omega (arith, length_map f u)

-- what is put where the first list ended
put_there : {X Y : Type 0} (f : X → Y) (u w : List X) (m : X) (v : List Y) → map f w ≡ map f u ++ v
    → map f (take (length u) w ++ m ∷ drop (length u) w) ≡ map f u ++ f m ∷ v
put_there f u w m v e =
    map-append f (take (length u) w) (m ∷ drop (length u) w)
    ∙ ap (λ z. z ++ f m ∷ map f (drop (length u) w)) (map_take f (length u) w ∙ ap (take (length u)) e ∙ take_there (length u) (map f u) v (length_map f u))
    ∙ ap (λ z. map f u ++ f m ∷ z) (map_drop f (length u) w ∙ ap (drop (length u)) e ∙ drop_there (length u) (map f u) v (length_map f u))

mention_by : (b d : Bool) → b ≡ d → (f g h : FileScope) (a c : Bool) (u v : List Mark) (x y k l : List ℕ) (m : AMention)
    → Adds f a b c u x k g → Adds g a b c v y l h
    → Adds f a b c (u ++ v) (x ++ m.at ∷ y) (k ++ l)
    (cond d h (record h { mentions = take (length g.mentions) h.mentions ++ m ∷ drop (length g.mentions) h.mentions }))
mention_by true true e f g h a c u v x y k l m p q =
    let r = adds_then p q in
    record {
      untagged = r.untagged;
      functions = r.functions;
      names = r.names;
      records = r.records;
      mentions = r.mentions;
      objects = r.objects;
      declared = r.declared;
      consistent = r.consistent;
    }
mention_by false false e f g h a c u v x y k l m p q =
    let r = adds_then p q in
    record {
      untagged = r.untagged;
      functions = r.functions;
      names = r.names;
      records = r.records;
      mentions = put_there (λ m. m.at) g.mentions h.mentions m y q.mentions ∙ ap (λ z. z ++ m.at ∷ y) p.mentions
          ∙ append_assoc (map (λ m. m.at) f.mentions) x (m.at ∷ y);
      objects = r.objects;
      declared = r.declared;
      consistent = r.consistent;
    }
mention_by true false e f g h a c u v x y k l m p q = cc
mention_by false true e f g h a c u v x y k l m p q = cc

pub mention_between : (s : Scope) {f g h : FileScope} {a c : Bool} {u v : List Mark} {x y k l : List ℕ} (kind : MentionKind) (t : CType) (at : ℕ)
    → Adds f a (is_measured s.purpose) c u x k g → Adds g a (is_measured s.purpose) c v y l h
    → Adds f a (is_measured s.purpose) c (u ++ v) (x ++ at ∷ y) (k ++ l) (with_mention s (mentions_in g) kind t at h)
mention_between s {f} {g} {h} {a} {c} {u} {v} {x} {y} {k} {l} kind t at p q =
    mention_by (is_measured s.purpose) (is_measured s.purpose) refl f g h a c u v x y k l (record { kind = kind; ty = t; at = at }) p q

pub mention_before : (s : Scope) {f g : FileScope} {a c : Bool} {u : List Mark} {x k : List ℕ} (kind : MentionKind) (t : CType) (at : ℕ)
    → Adds f a (is_measured s.purpose) c u x k g → Adds f a (is_measured s.purpose) c u (at ∷ x) k (with_mention s (mentions_in f) kind t at g)
mention_before s {f} {g} {a} {c} kind t at p = mention_between s kind t at (adds_nothing f a (is_measured s.purpose) c) p

pub mention_behind : (s : Scope) {f g : FileScope} {a c : Bool} {u : List Mark} {k : List ℕ} (kind : MentionKind) (t : CType) (at : ℕ)
    → Adds f a (is_measured s.purpose) c u [] k g → Adds f a (is_measured s.purpose) c u (at ∷ []) k (with_mention s (mentions_in g) kind t at g)
mention_behind s {f} {g} {a} {c} {u} {k} kind t at p =
    let r = mention_between s kind t at p (adds_nothing g a (is_measured s.purpose) c) in
    subst (λ u. Adds f a (is_measured s.purpose) c u (at ∷ []) k (with_mention s (mentions_in g) kind t at g)) (append-nil u)
    (subst (λ k. Adds f a (is_measured s.purpose) c (u ++ []) (at ∷ []) k (with_mention s (mentions_in g) kind t at g)) (append-nil k) r)

-- ---- objects, structures and names

pub object_adds : (f : FileScope) (o : AnObject) (a b : Bool) → Adds f a b false [] [] (o.first ∷ []) (with_object f o)
object_adds f o a b =
    let n = adds_nothing f a b false in
    record {
      untagged = refl;
      functions = refl;
      names = n.names;
      records = n.records;
      mentions = n.mentions;
      objects = (o ∷ [], refl, refl);
      declared = n.declared;
      consistent = n.consistent;
    }

pub record_adds : (f : FileScope) (r : Record) (tag : List ℕ) (right : ℕ) (a b c : Bool) → a ≡ false → r.tag ≡ tag
    → Adds f a b c (an_end tag right ∷ []) [] [] (with_record f r)
record_adds f r tag right true b c i e = cc
record_adds f r tag right false b c i e =
    let n = adds_nothing f false b c in
    record {
      untagged = refl;
      functions = refl;
      names = n.names;
      records = map-append (λ r. r.tag) f.records (r ∷ []) ∙ ap (λ t. map (λ r. r.tag) f.records ++ t ∷ []) e;
      mentions = n.mentions;
      objects = n.objects;
      declared = n.declared;
      consistent = n.consistent;
    }

-- an enumerator whose name is new
pub bound_adds : (f : FileScope) (x : Bound) (a b c : Bool) → a ≡ false → IsAnEnumerator x → (AreConsistent f.names → AreConsistent (f.names ++ x ∷ []))
    → Adds f a b c (a_name x.from ∷ []) [] [] (with_bound f x)
bound_adds f x true b c i is new = cc
bound_adds f x false b c i is new =
    let n = adds_nothing f false b c in
    record {
      untagged = refl;
      functions = refl;
      names = map-append (λ b. b.from) f.names (x ∷ []);
      records = n.records;
      mentions = n.mentions;
      objects = n.objects;
      declared = λ k b e. one_more k b (last_or f.names x k b e);
      consistent = new;
    }
  where
    one_more : (k : ℕ) (b : Bound) → (slice_get f.names k ≡ Some b) ⊎ ((k ≡ length f.names) × (x ≡ b)) → (slice_get f.names k ≡ Some b) ⊎ IsAnEnumerator b
    one_more k b (inl e) = inl e
    one_more k b (inr e) = inr (subst IsAnEnumerator e.1 is)

-- a mark that says nothing of names or ends
pub tag_adds : {f g : FileScope} {a b c : Bool} {t : Tag} {u : List Mark} {x k : List ℕ} → Adds f a b c u x k g → Adds f a b c (a_tag t ∷ u) x k g
tag_adds p = record {
  untagged = p.untagged;
  functions = p.functions;
  names = p.names;
  records = p.records;
  mentions = p.mentions;
  objects = p.objects;
  declared = p.declared;
  consistent = p.consistent;
}

-- ---- the file beside an answer

pub file_beside : {A : Type 0} (P : FileScope → Type 0) (f : FileScope) (r : Answer A) (z : A × FileScope) → with_file f r ≡ Ok z → P f → P z.1
file_beside P f r z h p = subst P (with_file_ok f r z h).1 p

pub file_of : {A : Type 0} (P : FileScope → Type 0) (y z : A × FileScope) → ok y ≡ Ok z → P y.1 → P z.1
file_of {A} P y z h p = given (λ (z : A × FileScope). P z.1) y z h p

pub file_of_value : (P : FileScope → Type 0) (at : ℕ) (r : Checked Thing) (z : Expression × FileScope) → value_at at r ≡ Ok z
    → ((x : Thing × FileScope) → r ≡ Ok x → P x.1) → P z.1
file_of_value P at r z h p = let x = bound_ok r _ z h in file_beside P x.0.1 (worth at x.0.0) z x.2 (p x.0 x.1)

pub file_of_tested : (P : FileScope → Type 0) (at : ℕ) (r : Checked Expression) (z : Expression × FileScope) → tested_at at r ≡ Ok z
    → ((x : Expression × FileScope) → r ≡ Ok x → P x.1) → P z.1
file_of_tested P at r z h p = let x = bound_ok r _ z h in file_beside P x.0.1 (tested at x.0.0) z x.2 (p x.0 x.1)

pub file_of_constant : (P : FileScope → Type 0) (at : ℕ) (r : Checked Expression) (z : (IntKind × ℕ) × FileScope) → constant_at at r ≡ Ok z
    → ((x : Expression × FileScope) → r ≡ Ok x → P x.1) → P z.1
file_of_constant P at r z h p = let x = bound_ok r _ z h in file_beside P x.0.1 (constant_in at x.0.0) z x.2 (p x.0 x.1)
