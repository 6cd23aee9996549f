-- A file into which a first part of a text is read: its names and structures are the first of those that the text declares, and its mentions, objects
-- and functions stand where the text has one (C99 6.7, 6.9).
use Rattle.std.proofs.Common.{◌≡◌, ℕ, zero, suc, ◌+◌, ◌<◌, Bool, true, false, refl, sym, ap, ◌∙◌, subst, List, [], ◌∷◌, ◌++◌, length, append_assoc}
use Rattle.std.proofs.Common.{append-nil, take, arith, inl, inr}
use Rattle.std.proofs.lemmas.List.Elements.{All-cons, All-nil}
use Rattle.std.specs.Prelude.{◌⊎◌, All, map, Some, slice_get}
use Rattle.c_ast.specs.Trees
use Rattle.c_erasure.specs.BrokenFiles.{IsFirstPart, IsFileUpTo}
use Rattle.c_erasure.specs.BrokenStatements.{IsAmong}
use Rattle.c_erasure.specs.Files.{AreAscending, AreConsistent, ErasesItem, IsMade}
use Rattle.c_erasure.specs.Marks.{Mark, marks_of_file, marks_of_item, scope_beginnings, defined_in, undefined_in, ends_in, tags_in, firsts}
use Rattle.c_erasure.specs.MentionPlaces.{mentions_of_file, mentions_of_item}
use Rattle.c_erasure.specs.Scopes.{AMention, FileScope}
use Rattle.c_checking_laws.specs.TextOrder.TextOrder.{Rising, places_of_item}
use Rattle.c_erasure.specs.Checking.Files.{unread}
use Rattle.c_checking_laws.proofs.Adding.{unless, Adds, beginnings_append, defined_append, take_front}
use Rattle.c_checking_laws.proofs.Extends.{Extends}
use Rattle.c_checking_laws.proofs.Settled.{Settles}
use Rattle.c_checking_laws.proofs.Within.{FirstOf, first_left, first_then, ArePicked, picked_left, picked_both, among_left, among_right, among_split}
use Rattle.c_checking_laws.proofs.Within.{Additions, both, Within, within_all}
use Rattle.c_checking_laws.proofs.WholeFiles.Items.{places_in}
use Rattle.c_checking_laws.proofs.WholeFiles.Orders.{all_from_slices}
use Rattle.c_checking_laws.proofs.WholeFiles.Stepping.{Stepped}
use Rattle.c_checking_units.proofs.FirstStops.Clear.{picked_made}

-- what is new in a list is some of another one, in its order
abbrev pub PickedOf : (old new all : List ℕ) → Type 0
PickedOf old new all = (w : List ℕ) × (new ≡ old ++ w) × ArePicked w all

picked_first : (old new u v : List ℕ) → PickedOf old new u → PickedOf old new (u ++ v)
picked_first old new u v p = (p.0, p.1, picked_left p.0 u v p.2)

picked_then : (x y z u v : List ℕ) → PickedOf x y u → PickedOf y z v → PickedOf x z (u ++ v)
picked_then x y z u v p q =
    (p.0 ++ q.0, q.1 ∙ ap (λ t. t ++ q.0) p.1 ∙ append_assoc x p.0 q.0, picked_both p.0 q.0 u v p.2 q.2)

picked_none : (old new all : List ℕ) → new ≡ old → PickedOf old new all
picked_none old new all e = ([], e ∙ sym (append-nil old), tt)

-- each mention is one of those before, or stands at one of these bytes
abbrev pub SaidOf : (f : FileScope) (said : List ℕ) (g : FileScope) → Type 0
SaidOf f said g = (at : ℕ) → IsAmong (map (λ m. m.at) g.mentions) at → IsAmong (map (λ m. m.at) f.mentions) at ⊎ IsAmong said at

said_first : (f g : FileScope) (u v : List ℕ) → SaidOf f u g → SaidOf f (u ++ v) g
said_first f g u v p = λ at h. by_part at (p at h)
  where
    by_part : (at : ℕ) → IsAmong (map (λ m. m.at) f.mentions) at ⊎ IsAmong u at → IsAmong (map (λ m. m.at) f.mentions) at ⊎ IsAmong (u ++ v) at
    by_part at (inl h) = inl h
    by_part at (inr h) = inr (among_left u v at h)

said_then : (f g h : FileScope) (u v : List ℕ) → SaidOf f u g → SaidOf g v h → SaidOf f (u ++ v) h
said_then f g h u v p q = λ at i. by_part at (q at i)
  where
    by_part : (at : ℕ) → IsAmong (map (λ m. m.at) g.mentions) at ⊎ IsAmong v at → IsAmong (map (λ m. m.at) f.mentions) at ⊎ IsAmong (u ++ v) at
    by_part at (inl i) = said_first f g u v p at i
    by_part at (inr i) = inr (among_right u v at i)

-- ---- a first part of what a part of the text adds at file scope; `made` has the bytes of its declarators and literals

pub record UpTo (f : FileScope) (all : Additions) (g : FileScope) : Type 0 where
  pub names : FirstOf (map (λ b. b.from) f.names) (map (λ b. b.from) g.names) (scope_beginnings all.marks)
  pub records : FirstOf (map (λ r. r.tag) f.records) (map (λ r. r.tag) g.records) (defined_in all.marks)
  pub mentions : SaidOf f all.said g
  pub objects : PickedOf (map (λ o. o.first) f.objects) (map (λ o. o.first) g.objects) all.made
  pub functions : PickedOf (map (λ o. o.first) f.functions) (map (λ o. o.first) g.functions) all.made
  pub consistent : AreConsistent f.names → AreConsistent g.names
  pub settled : Settles f g

-- the whole part
pub record Exactly (f : FileScope) (all : Additions) (g : FileScope) : Type 0 where
  pub names : map (λ b. b.from) g.names ≡ map (λ b. b.from) f.names ++ scope_beginnings all.marks
  pub records : map (λ r. r.tag) g.records ≡ map (λ r. r.tag) f.records ++ defined_in all.marks
  pub mentions : SaidOf f all.said g
  pub objects : PickedOf (map (λ o. o.first) f.objects) (map (λ o. o.first) g.objects) all.made
  pub functions : PickedOf (map (λ o. o.first) f.functions) (map (λ o. o.first) g.functions) all.made
  pub consistent : AreConsistent f.names → AreConsistent g.names
  pub settled : Settles f g

pub up_to_itself : (f : FileScope) (all : Additions) → UpTo f all f
up_to_itself f all = record {
  names = ([], scope_beginnings all.marks, sym (append-nil _), refl);
  records = ([], defined_in all.marks, sym (append-nil _), refl);
  mentions = λ at h. inl h;
  objects = picked_none _ _ all.made refl;
  functions = picked_none _ _ all.made refl;
  consistent = λ h. h;
  settled = λ h. h;
}

pub up_to_exactly : {f g : FileScope} {all : Additions} → Exactly f all g → UpTo f all g
up_to_exactly {f} {g} {all} p = record {
  names = (scope_beginnings all.marks, [], p.names, sym (append-nil _));
  records = (defined_in all.marks, [], p.records, sym (append-nil _));
  mentions = p.mentions;
  objects = p.objects;
  functions = p.functions;
  consistent = p.consistent;
  settled = p.settled;
}

pub up_to_first : {f g : FileScope} (p q : Additions) → UpTo f p g → UpTo f (both p q) g
up_to_first {f} {g} p q h = record {
  names = first_left false _ _ (scope_beginnings p.marks) (scope_beginnings q.marks) _ h.names (beginnings_append p.marks q.marks);
  records = first_left false _ _ (defined_in p.marks) (defined_in q.marks) _ h.records (defined_append p.marks q.marks);
  mentions = said_first f g p.said q.said h.mentions;
  objects = picked_first _ _ p.made q.made h.objects;
  functions = picked_first _ _ p.made q.made h.functions;
  consistent = h.consistent;
  settled = h.settled;
}

-- one part, and a first part of the next
pub up_to_then : {f g h : FileScope} (p q : Additions) → Exactly f p g → UpTo g q h → UpTo f (both p q) h
up_to_then {f} {g} {h} p q a b = record {
  names = first_then false _ _ _ (scope_beginnings p.marks) (scope_beginnings q.marks) _ a.names b.names (beginnings_append p.marks q.marks);
  records = first_then false _ _ _ (defined_in p.marks) (defined_in q.marks) _ a.records b.records (defined_append p.marks q.marks);
  mentions = said_then f g h p.said q.said a.mentions b.mentions;
  objects = picked_then _ _ _ p.made q.made a.objects b.objects;
  functions = picked_then _ _ _ p.made q.made a.functions b.functions;
  consistent = λ e. b.consistent (a.consistent e);
  settled = λ e. b.settled (a.settled e);
}

pub exactly_then : {f g h : FileScope} (p q : Additions) → Exactly f p g → Exactly g q h → Exactly f (both p q) h
exactly_then {f} {g} {h} p q a b = record {
  names = b.names ∙ ap (λ z. z ++ scope_beginnings q.marks) a.names ∙ append_assoc _ (scope_beginnings p.marks) (scope_beginnings q.marks)
      ∙ ap (λ z. map (λ b. b.from) f.names ++ z) (sym (beginnings_append p.marks q.marks));
  records = b.records ∙ ap (λ z. z ++ defined_in q.marks) a.records ∙ append_assoc _ (defined_in p.marks) (defined_in q.marks)
      ∙ ap (λ z. map (λ r. r.tag) f.records ++ z) (sym (defined_append p.marks q.marks));
  mentions = said_then f g h p.said q.said a.mentions b.mentions;
  objects = picked_then _ _ _ p.made q.made a.objects b.objects;
  functions = picked_then _ _ _ p.made q.made a.functions b.functions;
  consistent = λ e. b.consistent (a.consistent e);
  settled = λ e. b.settled (a.settled e);
}

-- ---- what is known of parts

among_any : (b : Bool) (all : List ℕ) (at : ℕ) → IsAmong (unless b all) at → IsAmong all at
among_any true all at h = absurd h
among_any false all at h = h

picked_any : (b : Bool) (w all : List ℕ) → ArePicked w (unless b all) → ArePicked w all
picked_any true [] all h = tt
picked_any true (x ∷ w) all h = absurd h
picked_any false w all h = h

-- inside of a part of a declaration, where a law on faults says what the file has more
pub up_to_within : {f g : FileScope} {b c : Bool} (all : Additions) → Within f false b c all g → Settles f g → UpTo f all g
up_to_within {f} {g} {b} {c} all w settled = record {
  names = w.names;
  records = w.records;
  mentions = λ at h. by_part at (w.mentions at h);
  objects = (w.firsts.0, w.firsts.1, picked_any c w.firsts.0 all.made w.firsts.2);
  functions = picked_none _ _ all.made (ap (λ all. map (λ o. o.first) all) w.functions);
  consistent = w.consistent;
  settled = settled;
}
  where
    by_part : (at : ℕ) → IsAmong (map (λ m. m.at) f.mentions) at ⊎ IsAmong (unless b all.said) at
        → IsAmong (map (λ m. m.at) f.mentions) at ⊎ IsAmong all.said at
    by_part at (inl h) = inl h
    by_part at (inr h) = inr (among_any b all.said at h)

-- a part of a declaration that is read
pub exactly_adds : {f g : FileScope} {b c : Bool} {u : List Mark} {x made : List ℕ} (k : List ℕ) → Adds f false b c u x made g → ArePicked made k
    → Settles f g → Exactly f (record { marks = u; said = x; made = k }) g
exactly_adds {f} {g} {b} {c} {u} {x} {made} k p picked settled =
    let w = up_to_within (record { marks = u; said = x; made = k }) (within_all k p picked) settled in
    record {
      names = p.names;
      records = p.records;
      mentions = w.mentions;
      objects = w.objects;
      functions = w.functions;
      consistent = w.consistent;
      settled = settled;
    }

-- declarators, definitions and items
pub exactly_step : {nodes_at : ℕ → ℕ} {u : List Mark} {x k m : List ℕ} {A : FileScope → Type 0} {f g : FileScope} → Stepped nodes_at u x k m f A g
    → (AreConsistent f.names → AreConsistent g.names) → Settles f g → Exactly f (record { marks = u; said = x; made = k }) g
exactly_step {f = f} {g = g} s c settled = record {
  names = s.names;
  records = s.records;
  mentions = λ at h. among_split _ _ at (subst (λ all. IsAmong all at) s.mentions h);
  objects = (s.objects, s.objects_are, picked_made s.objects_parted);
  functions = (s.functions, s.functions_are, picked_made s.functions_parted);
  consistent = c;
  settled = settled;
}

-- ---- files

abbrev pub of_item : (ℕ → List ℕ) → Trees.Item → Additions
of_item untagged item = record { marks = marks_of_item untagged item; said = mentions_of_item item; made = places_of_item item }

abbrev pub of_file : (ℕ → List ℕ) → List Trees.Item → Additions
of_file untagged items = record { marks = marks_of_file untagged items; said = mentions_of_file items; made = places_in items }

marks_then : (untagged : ℕ → List ℕ) (before after : List Trees.Item)
    → marks_of_file untagged (before ++ after) ≡ marks_of_file untagged before ++ marks_of_file untagged after
marks_then untagged [] after = refl
marks_then untagged (item ∷ before) after =
    ap (λ z. marks_of_item untagged item ++ z) (marks_then untagged before after)
    ∙ sym (append_assoc (marks_of_item untagged item) (marks_of_file untagged before) (marks_of_file untagged after))

mentions_then : (before after : List Trees.Item) → mentions_of_file (before ++ after) ≡ mentions_of_file before ++ mentions_of_file after
mentions_then [] after = refl
mentions_then (item ∷ before) after =
    ap (λ z. mentions_of_item item ++ z) (mentions_then before after)
    ∙ sym (append_assoc (mentions_of_item item) (mentions_of_file before) (mentions_of_file after))

places_then : (before after : List Trees.Item) → places_in (before ++ after) ≡ places_in before ++ places_in after
places_then [] after = refl
places_then (item ∷ before) after =
    ap (λ z. places_of_item item ++ z) (places_then before after) ∙ sym (append_assoc (places_of_item item) (places_in before) (places_in after))

abbrev additions : List Mark → List ℕ → List ℕ → Additions
additions u x k = record { marks = u; said = x; made = k }

three : (u v : List Mark) (x y k l : List ℕ) → u ≡ v → x ≡ y → k ≡ l → additions u x k ≡ additions v y l
three u v x y k l p q r = ap (λ u. additions u x k) p ∙ ap (λ x. additions v x k) q ∙ ap (λ k. additions v y k) r

pub file_then : (untagged : ℕ → List ℕ) (before after : List Trees.Item)
    → of_file untagged (before ++ after) ≡ both (of_file untagged before) (of_file untagged after)
file_then untagged before after = three _ _ _ _ _ _ (marks_then untagged before after) (mentions_then before after) (places_then before after)

-- a first part of an item behind others
pub up_to_item : (untagged : ℕ → List ℕ) (before after : List Trees.Item) (item : Trees.Item) {f g h : FileScope} → Exactly f (of_file untagged before) g
    → UpTo g (of_item untagged item) h → UpTo f (of_file untagged (before ++ item ∷ after)) h
up_to_item untagged before after item {f} {g} {h} p q =
    subst (λ all. UpTo f all h) (sym (file_then untagged before (item ∷ after)))
    (up_to_then (of_file untagged before) (both (of_item untagged item) (of_file untagged after)) p
    (up_to_first (of_item untagged item) (of_file untagged after) q))

-- ---- the file of a fault

first_part : {X : Type 0} (new all : List X) → FirstOf [] new all → IsFirstPart new all
first_part new all (w, rest, e, h) =
    subst (λ n. n ≡ take (length n) all) (sym e) (subst (λ all. w ≡ take (length w) all) (sym h) (sym (take_front w rest)))

picked_above : (p at : ℕ) (all w : List ℕ) → p < at → Rising at all → ArePicked w all → All (λ m. p < m) w
picked_above p at all [] l r h = All-nil (λ m. p < m)
picked_above p at [] (x ∷ w) l r h = absurd h
picked_above p at (q ∷ all) (x ∷ w) l r (inl h) =
    let b = r.0 in
    let same = h.0 in
    All-cons (λ m. p < m) x w (omega (arith, l, b, same)) (picked_above p (q + 1) all w (omega (arith, l, b)) r.1 h.1)
picked_above p at (q ∷ all) (x ∷ w) l r (inr h) = let b = r.0 in picked_above p (q + 1) all (x ∷ w) (omega (arith, l, b)) r.1 h

picked_ascend : (at : ℕ) (all w : List ℕ) → Rising at all → ArePicked w all → AreAscending w
picked_ascend at all [] r h = tt
picked_ascend at [] (x ∷ w) r h = absurd h
picked_ascend at (q ∷ all) (x ∷ w) r (inl h) = (
  subst (λ q. All (λ m. q < m) w) (sym h.0) (picked_above q (q + 1) all w (omega arith) r.1 h.1),
  picked_ascend (q + 1) all w r.1 h.1,
)
picked_ascend at (q ∷ all) (x ∷ w) r (inr h) = picked_ascend (q + 1) all (x ∷ w) r.1 h

made_so : (all : List ℕ) (at : ℕ) → IsAmong all at → IsMade all at
made_so [] at h = h
made_so (x ∷ all) at (inl h) = inl h
made_so (x ∷ all) at (inr h) = inr (made_so all at h)

told_there : (all : List AMention) (n : ℕ) (m : AMention) → slice_get all n ≡ Some m → IsAmong (map (λ m. m.at) all) m.at
told_there [] n m e = cc
told_there (x ∷ all) zero m e = let same : x ≡ m = cc in inl (sym (ap (λ (m : AMention). m.at) same))
told_there (x ∷ all) (suc n) m e = inr (told_there all n m e)

-- in a text whose declarators and literals begin one after the other
pub is_up_to : (file : ℕ) (untagged : ℕ → List ℕ) (before items : List Trees.Item) (g : FileScope) → Extends (unread file untagged items) g
    → UpTo (unread file untagged items) (of_file untagged items) g → ((at : ℕ) → (rest : List ℕ) × (untagged at ≡ 64 ∷ rest)) → Rising 0 (places_in items)
    → All (ErasesItem g) before → IsFileUpTo before items g
is_up_to file untagged before items g p u spelled rising are =
    let same = sym p.untagged in
    record {
      untagged = λ at. subst (λ (names : ℕ → List ℕ). (rest : List ℕ) × (names at ≡ 64 ∷ rest)) same (spelled at);
      tags = subst (λ names. g.tags ≡ firsts [] (tags_in (marks_of_file names items))) same p.tags;
      ends = subst (λ names. g.ends ≡ ends_in (marks_of_file names items)) same p.ends;
      numbered = subst (λ names. g.numbered ≡ defined_in (marks_of_file names items) ++ undefined_in (marks_of_file names items)) same p.numbered;
      records = subst (λ names. IsFirstPart (map (λ r. r.tag) g.records) (defined_in (marks_of_file names items))) same (first_part _ _ u.records);
      names = subst (λ names. IsFirstPart (map (λ b. b.from) g.names) (scope_beginnings (marks_of_file names items))) same (first_part _ _ u.names);
      mentions = all_from_slices (λ (m : AMention). IsMade (mentions_of_file items) m.at) g.mentions
          (λ n m e. made_so (mentions_of_file items) m.at (by_part m.at (u.mentions m.at (told_there g.mentions n m e))));
      consistent = u.consistent tt;
      objects_in_order = subst AreAscending (sym u.objects.1) (picked_ascend 0 (places_in items) u.objects.0 rising u.objects.2);
      functions_in_order = subst AreAscending (sym u.functions.1) (picked_ascend 0 (places_in items) u.functions.0 rising u.functions.2);
      each_before = are;
    }
  where
    by_part : (at : ℕ) → ⊥ ⊎ IsAmong (mentions_of_file items) at → IsAmong (mentions_of_file items) at
    by_part at (inl h) = absurd h
    by_part at (inr h) = h
