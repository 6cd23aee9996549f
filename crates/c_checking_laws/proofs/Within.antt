-- A file to which a first part of what a part of the text adds is added: its names and structures are the first of those, in the order of the text,
-- and its mentions and objects stand where the part has one.
use Rattle.std.proofs.Common.{◌≡◌, ℕ, zero, suc, ◌+◌, Bool, true, false, refl, sym, ap, ◌∙◌, subst, List, [], ◌∷◌, ◌++◌, length, append_assoc, append-nil}
use Rattle.std.proofs.Common.{inl, inr}
use Rattle.std.proofs.lemmas.List.{map-append}
use Rattle.std.specs.Prelude.{◌⊎◌, map, Some, slice_get}
use Rattle.c_erasure.specs.BrokenStatements.{IsAmong}
use Rattle.c_erasure.specs.Files.{AreConsistent}
use Rattle.c_erasure.specs.Marks.{Mark, a_tag, scope_beginnings, defined_in}
use Rattle.c_erasure.specs.Scopes.{Bound, Tag, AnObject, FileScope}
use Rattle.c_checking_laws.proofs.Adding.{unless, unless_append, Adds, declared_then, beginnings_append, defined_append}
use Rattle.c_checking_laws.proofs.Consistent.{IsAnEnumerator}
use Rattle.c_checking_laws.proofs.Extends.{one_of_both}

-- ---- lists

-- what is new in a list is a first part of another one
abbrev pub FirstOf : {X : Type 0} → (old new all : List X) → Type 0
FirstOf {X} old new all = (w : List X) × (rest : List X) × (new ≡ old ++ w) × (all ≡ w ++ rest)

pub first_left : {X : Type 0} (b : Bool) (old new u v all : List X) → FirstOf old new (unless b u) → all ≡ u ++ v → FirstOf old new (unless b all)
first_left b old new u v all q e = (
  q.0,
  q.1 ++ unless b v,
  q.2,
  ap (unless b) e ∙ unless_append b u v ∙ ap (λ z. z ++ unless b v) q.3 ∙ append_assoc q.0 q.1 (unless b v),
)

pub first_then : {X : Type 0} (b : Bool) (x y z u v all : List X) → y ≡ x ++ unless b u → FirstOf y z (unless b v) → all ≡ u ++ v → FirstOf x z (unless b all)
first_then b x y z u v all p q e = (
  unless b u ++ q.0,
  q.1,
  q.2 ∙ ap (λ t. t ++ q.0) p ∙ append_assoc x (unless b u) q.0,
  ap (unless b) e ∙ unless_append b u v ∙ ap (λ t. unless b u ++ t) q.3 ∙ sym (append_assoc (unless b u) q.0 q.1),
)

-- some of a list, in its order
abbrev pub ArePicked : List ℕ → List ℕ → Type 0
ArePicked [] all = Unit {0}
ArePicked (x ∷ w) [] = ⊥
ArePicked (x ∷ w) (y ∷ all) = ((x ≡ y) × ArePicked w all) ⊎ ArePicked (x ∷ w) all

pub picked_same : (u : List ℕ) → ArePicked u u
picked_same [] = tt
picked_same (x ∷ u) = inl (refl, picked_same u)

pub picked_behind : (w : List ℕ) (y : ℕ) (u : List ℕ) → ArePicked w u → ArePicked w (y ∷ u)
picked_behind [] y u h = tt
picked_behind (x ∷ w) y u h = inr h

pub picked_left : (w u v : List ℕ) → ArePicked w u → ArePicked w (u ++ v)
picked_left [] u v h = tt
picked_left (x ∷ w) [] v h = absurd h
picked_left (x ∷ w) (y ∷ u) v (inl h) = inl (h.0, picked_left w u v h.1)
picked_left (x ∷ w) (y ∷ u) v (inr h) = inr (picked_left (x ∷ w) u v h)

pub picked_both : (w z u v : List ℕ) → ArePicked w u → ArePicked z v → ArePicked (w ++ z) (u ++ v)
picked_both [] z [] v h k = k
picked_both [] z (y ∷ u) v h k = picked_behind z y (u ++ v) (picked_both [] z u v tt k)
picked_both (x ∷ w) z [] v h k = absurd h
picked_both (x ∷ w) z (y ∷ u) v (inl h) k = inl (h.0, picked_both w z u v h.1 k)
picked_both (x ∷ w) z (y ∷ u) v (inr h) k = inr (picked_both (x ∷ w) z u v h k)

picked_unless : (b : Bool) (w u : List ℕ) → ArePicked w u → ArePicked (unless b w) (unless b u)
picked_unless true w u h = tt
picked_unless false w u h = h

picked_among : (w u : List ℕ) (x : ℕ) → ArePicked w u → IsAmong w x → IsAmong u x
picked_among [] u x h i = absurd i
picked_among (y ∷ w) [] x h i = absurd h
picked_among (y ∷ w) (z ∷ u) x (inl h) (inl i) = inl (i ∙ h.0)
picked_among (y ∷ w) (z ∷ u) x (inl h) (inr i) = inr (picked_among w u x h.1 i)
picked_among (y ∷ w) (z ∷ u) x (inr h) i = inr (picked_among (y ∷ w) u x h i)

pub among_left : (u v : List ℕ) (x : ℕ) → IsAmong u x → IsAmong (u ++ v) x
among_left [] v x h = absurd h
among_left (y ∷ u) v x (inl h) = inl h
among_left (y ∷ u) v x (inr h) = inr (among_left u v x h)

pub among_right : (u v : List ℕ) (x : ℕ) → IsAmong v x → IsAmong (u ++ v) x
among_right [] v x h = h
among_right (y ∷ u) v x h = inr (among_right u v x h)

pub among_split : (u v : List ℕ) (x : ℕ) → IsAmong (u ++ v) x → IsAmong u x ⊎ IsAmong v x
among_split [] v x h = inr h
among_split (y ∷ u) v x (inl e) = inl (inl e)
among_split (y ∷ u) v x (inr h) = by_part (among_split u v x h)
  where
    by_part : IsAmong u x ⊎ IsAmong v x → IsAmong (y ∷ u) x ⊎ IsAmong v x
    by_part (inl h) = inl (inr h)
    by_part (inr h) = inr h

among_of_left : (b : Bool) (u v : List ℕ) (x : ℕ) → IsAmong (unless b u) x → IsAmong (unless b (u ++ v)) x
among_of_left true u v x h = absurd h
among_of_left false u v x h = among_left u v x h

among_of_right : (b : Bool) (u v : List ℕ) (x : ℕ) → IsAmong (unless b v) x → IsAmong (unless b (u ++ v)) x
among_of_right true u v x h = absurd h
among_of_right false u v x h = among_right u v x h

-- ---- what a part of the text adds to a file at most

pub record Additions : Type 0 where
  pub marks : List Mark
  pub said : List ℕ
  pub made : List ℕ

abbrev pub both : Additions → Additions → Additions
both a b = record { marks = a.marks ++ b.marks; said = a.said ++ b.said; made = a.made ++ b.made }

pub record Within (f : FileScope) (is_inside is_measured makes_none : Bool) (all : Additions) (g : FileScope) : Type 0 where
  pub functions : g.functions ≡ f.functions
  pub names : FirstOf (map (λ b. b.from) f.names) (map (λ b. b.from) g.names) (unless is_inside (scope_beginnings all.marks))
  pub records : FirstOf (map (λ r. r.tag) f.records) (map (λ r. r.tag) g.records) (unless is_inside (defined_in all.marks))
  pub declared : (k : ℕ) (b : Bound) → slice_get g.names k ≡ Some b → (slice_get f.names k ≡ Some b) ⊎ IsAnEnumerator b
  pub consistent : AreConsistent f.names → AreConsistent g.names
  pub mentions : (at : ℕ) → IsAmong (map (λ m. m.at) g.mentions) at → IsAmong (map (λ m. m.at) f.mentions) at ⊎ IsAmong (unless is_measured all.said) at
  pub firsts : (w : List ℕ) × (map (λ o. o.first) g.objects ≡ map (λ o. o.first) f.objects ++ w) × ArePicked w (unless makes_none all.made)
  pub begins : (n : ℕ) (o : AnObject) → slice_get g.objects n ≡ Some o → (slice_get f.objects n ≡ Some o) ⊎ IsAmong (unless makes_none all.made) o.first

pub within_nothing : (f : FileScope) (a b c : Bool) (all : Additions) → Within f a b c all f
within_nothing f a b c all = record {
  functions = refl;
  names = ([], unless a (scope_beginnings all.marks), sym (append-nil _), refl);
  records = ([], unless a (defined_in all.marks), sym (append-nil _), refl);
  declared = λ k b h. inl h;
  consistent = λ h. h;
  mentions = λ at h. inl h;
  firsts = ([], sym (append-nil _), tt);
  begins = λ n o h. inl h;
}

first_among : (made : List ℕ) (more : List AnObject) → map (λ o. o.first) more ≡ made → (j : ℕ) (o : AnObject) → slice_get more j ≡ Some o
    → IsAmong made o.first
first_among made [] e j o h = cc
first_among [] (x ∷ more) e j o h = cc
first_among (at ∷ made) (x ∷ more) e zero o h = let p : x ≡ o = cc in let q : x.first ≡ at = cc in inl (subst (λ (o : AnObject). o.first ≡ at) p q)
first_among (at ∷ made) (x ∷ more) e (suc j) o h =
    let rest : map (λ (o : AnObject). o.first) more ≡ made = cc in
    inr (first_among made more rest j o h)

-- the whole part is read; of its literals some are made no objects
pub within_all : {f g : FileScope} {a b c : Bool} {u : List Mark} {x made : List ℕ} (k : List ℕ) → Adds f a b c u x made g → ArePicked made k
    → Within f a b c (record { marks = u; said = x; made = k }) g
within_all {f} {g} {a} {b} {c} {u} {x} {made} k p picked = record {
  functions = p.functions;
  names = (unless a (scope_beginnings u), [], p.names, sym (append-nil _));
  records = (unless a (defined_in u), [], p.records, sym (append-nil _));
  declared = p.declared;
  consistent = p.consistent;
  mentions = λ at h. among_split _ _ at (subst (λ all. IsAmong all at) p.mentions h);
  firsts = (
    unless c made,
    ap (map (λ o. o.first)) p.objects.1 ∙ map-append (λ o. o.first) f.objects p.objects.0
        ∙ ap (λ z. map (λ o. o.first) f.objects ++ z) p.objects.2,
    picked_unless c made k picked,
  );
  begins = λ n o e. by_part n o (one_of_both f.objects p.objects.0 n o (subst (λ all. slice_get all n ≡ Some o) p.objects.1 e));
}
  where
    by_part : (n : ℕ) (o : AnObject)
        → (slice_get f.objects n ≡ Some o) ⊎ ((j : ℕ) × (n ≡ length f.objects + j) × (slice_get p.objects.0 j ≡ Some o))
        → (slice_get f.objects n ≡ Some o) ⊎ IsAmong (unless c k) o.first
    by_part n o (inl e) = inl e
    by_part n o (inr e) =
        inr (picked_among (unless c made) (unless c k) o.first (picked_unless c made k picked)
        (first_among (unless c made) p.objects.0 p.objects.2 e.0 o e.2))

pub within_left : {f g : FileScope} {a b c : Bool} (p q : Additions) → Within f a b c p g → Within f a b c (both p q) g
within_left {f} {g} {a} {b} {c} p q h = record {
  functions = h.functions;
  names = first_left a _ _ (scope_beginnings p.marks) (scope_beginnings q.marks) _ h.names (beginnings_append p.marks q.marks);
  records = first_left a _ _ (defined_in p.marks) (defined_in q.marks) _ h.records (defined_append p.marks q.marks);
  declared = h.declared;
  consistent = h.consistent;
  mentions = λ at e. said at (h.mentions at e);
  firsts = (h.firsts.0, h.firsts.1, subst (ArePicked h.firsts.0) (sym (unless_append c p.made q.made)) (picked_left h.firsts.0 _ (unless c q.made) h.firsts.2));
  begins = λ n o e. begun n o (h.begins n o e);
}
  where
    said : (at : ℕ) → IsAmong (map (λ m. m.at) f.mentions) at ⊎ IsAmong (unless b p.said) at
        → IsAmong (map (λ m. m.at) f.mentions) at ⊎ IsAmong (unless b (p.said ++ q.said)) at
    said at (inl e) = inl e
    said at (inr e) = inr (among_of_left b p.said q.said at e)

    begun : (n : ℕ) (o : AnObject) → (slice_get f.objects n ≡ Some o) ⊎ IsAmong (unless c p.made) o.first
        → (slice_get f.objects n ≡ Some o) ⊎ IsAmong (unless c (p.made ++ q.made)) o.first
    begun n o (inl e) = inl e
    begun n o (inr e) = inr (among_of_left c p.made q.made o.first e)

-- one part, and a first part of the next
pub within_then : {f g h : FileScope} {a b c : Bool} {u : List Mark} {x made : List ℕ} (k : List ℕ) (q : Additions) → Adds f a b c u x made g
    → ArePicked made k → Within g a b c q h → Within f a b c (both (record { marks = u; said = x; made = k }) q) h
within_then {f} {g} {h} {a} {b} {c} {u} {x} {made} k q p picked w =
    let own = within_all k p picked in
    record {
      functions = w.functions ∙ p.functions;
      names = first_then a _ _ _ (scope_beginnings u) (scope_beginnings q.marks) _ p.names w.names (beginnings_append u q.marks);
      records = first_then a _ _ _ (defined_in u) (defined_in q.marks) _ p.records w.records (defined_append u q.marks);
      declared = λ k n e. declared_then f g n (λ k e. p.declared k n e) k (w.declared k n e);
      consistent = λ e. w.consistent (p.consistent e);
      mentions = λ at e. said at own.mentions (w.mentions at e);
      firsts = (
        own.firsts.0 ++ w.firsts.0,
        w.firsts.1 ∙ ap (λ z. z ++ w.firsts.0) own.firsts.1 ∙ append_assoc (map (λ o. o.first) f.objects) own.firsts.0 w.firsts.0,
        subst (ArePicked (own.firsts.0 ++ w.firsts.0)) (sym (unless_append c k q.made))
            (picked_both own.firsts.0 w.firsts.0 (unless c k) (unless c q.made) own.firsts.2 w.firsts.2),
      );
      begins = λ n o e. begun n o own.begins (w.begins n o e);
    }
  where
    told : (at : ℕ) → IsAmong (map (λ m. m.at) f.mentions) at ⊎ IsAmong (unless b x) at
        → IsAmong (map (λ m. m.at) f.mentions) at ⊎ IsAmong (unless b (x ++ q.said)) at
    told at (inl e) = inl e
    told at (inr e) = inr (among_of_left b x q.said at e)

    said : (at : ℕ) → ((at : ℕ) → IsAmong (map (λ m. m.at) g.mentions) at → IsAmong (map (λ m. m.at) f.mentions) at ⊎ IsAmong (unless b x) at)
        → IsAmong (map (λ m. m.at) g.mentions) at ⊎ IsAmong (unless b q.said) at
        → IsAmong (map (λ m. m.at) f.mentions) at ⊎ IsAmong (unless b (x ++ q.said)) at
    said at before (inl e) = told at (before at e)
    said at before (inr e) = inr (among_of_right b x q.said at e)

    first_begun : (n : ℕ) (o : AnObject) → (slice_get f.objects n ≡ Some o) ⊎ IsAmong (unless c k) o.first
        → (slice_get f.objects n ≡ Some o) ⊎ IsAmong (unless c (k ++ q.made)) o.first
    first_begun n o (inl e) = inl e
    first_begun n o (inr e) = inr (among_of_left c k q.made o.first e)

    begun : (n : ℕ) (o : AnObject)
        → ((n : ℕ) (o : AnObject) → slice_get g.objects n ≡ Some o → (slice_get f.objects n ≡ Some o) ⊎ IsAmong (unless c k) o.first)
        → (slice_get g.objects n ≡ Some o) ⊎ IsAmong (unless c q.made) o.first
        → (slice_get f.objects n ≡ Some o) ⊎ IsAmong (unless c (k ++ q.made)) o.first
    begun n o before (inl e) = first_begun n o (before n o e)
    begun n o before (inr e) = inr (among_of_right c k q.made o.first e)

-- ---- marks that declare nothing, and a mention before the others

pub within_tag : {f g : FileScope} {a b c : Bool} (t : Tag) (p : Additions) → Within f a b c p g
    → Within f a b c (record { marks = a_tag t ∷ p.marks; said = p.said; made = p.made }) g
within_tag t p h = record {
  functions = h.functions;
  names = h.names;
  records = h.records;
  declared = h.declared;
  consistent = h.consistent;
  mentions = h.mentions;
  firsts = h.firsts;
  begins = h.begins;
}

pub within_said : {f g : FileScope} {a b c : Bool} (place : ℕ) (p : Additions) → Within f a b c p g
    → Within f a b c (record { marks = p.marks; said = place ∷ p.said; made = p.made }) g
within_said {f} {g} {a} {b} {c} place p h = record {
  functions = h.functions;
  names = h.names;
  records = h.records;
  declared = h.declared;
  consistent = h.consistent;
  mentions = λ at e. said b at (h.mentions at e);
  firsts = h.firsts;
  begins = h.begins;
}
  where
    said : (b : Bool) (at : ℕ) → IsAmong (map (λ m. m.at) f.mentions) at ⊎ IsAmong (unless b p.said) at
        → IsAmong (map (λ m. m.at) f.mentions) at ⊎ IsAmong (unless b (place ∷ p.said)) at
    said b at (inl e) = inl e
    said true at (inr e) = absurd e
    said false at (inr e) = inr (inr e)

-- ---- operands that are not evaluated, and what is inside of functions

pub within_measured : {f g : FileScope} {a b c : Bool} {u : List Mark} {x k : List ℕ} (y l : List ℕ)
    → Within f a true true (record { marks = u; said = x; made = k }) g → Within f a b c (record { marks = u; said = y; made = l }) g
within_measured {f} {g} {a} {b} {c} y l h = record {
  functions = h.functions;
  names = h.names;
  records = h.records;
  declared = h.declared;
  consistent = h.consistent;
  mentions = λ at e. said at (h.mentions at e);
  firsts = (h.firsts.0, h.firsts.1, picked h.firsts.0 h.firsts.2);
  begins = λ n o e. begun n o (h.begins n o e);
}
  where
    said : (at : ℕ) → IsAmong (map (λ m. m.at) f.mentions) at ⊎ ⊥ → IsAmong (map (λ m. m.at) f.mentions) at ⊎ IsAmong (unless b y) at
    said at (inl e) = inl e
    said at (inr e) = absurd e

    picked : (w : List ℕ) → ArePicked w [] → ArePicked w (unless c l)
    picked [] e = tt
    picked (x ∷ w) e = absurd e

    begun : (n : ℕ) (o : AnObject) → (slice_get f.objects n ≡ Some o) ⊎ ⊥ → (slice_get f.objects n ≡ Some o) ⊎ IsAmong (unless c l) o.first
    begun n o (inl e) = inl e
    begun n o (inr e) = absurd e

pub within_value : {f g : FileScope} {a b c d : Bool} {u : List Mark} {x k : List ℕ} (l : List ℕ) → d ≡ b
    → Within f a d true (record { marks = u; said = x; made = k }) g → Within f a b c (record { marks = u; said = x; made = l }) g
within_value {f} {g} {a} {b} {c} {d} {u} {x} {k} l same h = record {
  functions = h.functions;
  names = h.names;
  records = h.records;
  declared = h.declared;
  consistent = h.consistent;
  mentions = λ at e. subst (λ d. IsAmong (map (λ m. m.at) f.mentions) at ⊎ IsAmong (unless d x) at) same (h.mentions at e);
  firsts = (h.firsts.0, h.firsts.1, picked h.firsts.0 h.firsts.2);
  begins = λ n o e. begun n o (h.begins n o e);
}
  where
    picked : (w : List ℕ) → ArePicked w [] → ArePicked w (unless c l)
    picked [] e = tt
    picked (x ∷ w) e = absurd e

    begun : (n : ℕ) (o : AnObject) → (slice_get f.objects n ≡ Some o) ⊎ ⊥ → (slice_get f.objects n ≡ Some o) ⊎ IsAmong (unless c l) o.first
    begun n o (inl e) = inl e
    begun n o (inr e) = absurd e

pub within_inside : {f g : FileScope} {a b c d : Bool} {u : List Mark} {x k : List ℕ} (v : List Mark) → a ≡ true
    → Within f a b c (record { marks = u; said = x; made = k }) g → Within f d b c (record { marks = v; said = x; made = k }) g
within_inside {f} {g} {a} {b} {c} {d} {u} {x} {k} v inside h = record {
  functions = h.functions;
  names = first_none _ _ (subst (λ a. FirstOf (map (λ b. b.from) f.names) (map (λ b. b.from) g.names) (unless a (scope_beginnings u))) inside h.names)
      (unless d (scope_beginnings v));
  records = first_none _ _ (subst (λ a. FirstOf (map (λ r. r.tag) f.records) (map (λ r. r.tag) g.records) (unless a (defined_in u))) inside h.records)
      (unless d (defined_in v));
  declared = h.declared;
  consistent = h.consistent;
  mentions = h.mentions;
  firsts = h.firsts;
  begins = h.begins;
}
  where
    first_none : {X : Type 0} (old new : List X) → FirstOf old new [] → (all : List X) → FirstOf old new all
    first_none old new ([], rest, e, h) all = ([], all, e, refl)
    first_none old new (y ∷ w, rest, e, h) all = cc
