-- The first part of a whole file, and what a part of the text adds to it.
use Rattle.std.proofs.Common.{◌≡◌, ◌≢◌, ℕ, zero, suc, ◌+◌, ◌≤◌, ◌<◌, Bool, true, false, List, [], ◌∷◌, ◌++◌, length, refl, sym, ap, ◌∙◌, subst, cond}
use Rattle.std.proofs.Common.{inl, inr, arith, take, drop}
use Rattle.std.proofs.lemmas.Bool.{and_parts, and_from, lt-ltb, ltb-true}
use Rattle.std.proofs.lemmas.Bool.Decides.{nat_tests}
use Rattle.std.specs.Prelude.{◌⊎◌, ◌&&◌, nat_le, nat_lt, map, Option, Some, None, Ok, slice_get}
use Rattle.std.specs.Str.{bytes_eq}
use Rattle.c_types.specs.Types.{CType, void, integer, pointer, array, function, structure, Field, Record}
use Rattle.c_types.specs.Layouts.{size_of_record}
use Rattle.c_types.specs.Objects.{is_object}
use Rattle.c_typed.specs.declared.program.MentionKind.{MentionKind}
use Rattle.c_typed.specs.Conversions.{is_scalar, is_function}
use Rattle.c_typed.specs.Typed.{IsTyped}
use Rattle.c_erasure.specs.Declarators.{AreDifferent}
use Rattle.c_erasure.specs.Erasure.{typed, IsTypedThing}
use Rattle.c_erasure.specs.Noted.{Expression, Path, Thing, an_object, a_value, a_function, a_function_at, a_library_function, type_of, type_of_path}
use Rattle.c_erasure.specs.Noted.{value_of, object_value}
use Rattle.c_erasure.specs.Scopes.{ALocal, Bound, AnObject, AFunction, AMention, FileScope, Scope, Entity, typedef, enumerator, a_local, a_parameter}
use Rattle.c_erasure.specs.Scopes.{Purpose}
use Rattle.c_erasure.specs.Scopes.{IsListedAt, IsMentioned, is_measured}
use Rattle.c_erasure.specs.Scopes.{or_else, visible, innermost, named, ended, declared}
use Rattle.c_erasure.specs.Scopes as Scopes
use Rattle.c_erasure.specs.Checking.Answers.{Checked, moved}
use Rattle.c_erasure.specs.Checking.Declaring.{with_mention}
use Rattle.c_checking_laws.proofs.Extends.{Extends, behind}
use Rattle.c_checking_laws.proofs.CompleteNodes.{some_is}
use Rattle.c_checking_laws.proofs.CompleteValues.{IsBare}
use Rattle.c_checking_laws.proofs.CompleteWalk.{Event, seen, seen_append, names_in, ends_in, literals_in, names_append, ends_append, literals_append}
use Rattle.c_checking_laws.proofs.CompleteWalk.{Follows, follows_left, follows_right}

-- ---- what is declared up to a place of a file

pub record Lists : Type 0 where
  pub names : List Bound
  pub records : List Record
  pub objects : List AnObject
  pub functions : List AFunction
  pub mentions : List AMention

abbrev pub part : FileScope → Lists → FileScope
part g c = record {
  file = g.file;
  names = c.names;
  tags = g.tags;
  records = c.records;
  ends = g.ends;
  numbered = g.numbered;
  objects = c.objects;
  functions = c.functions;
  mentions = c.mentions;
  untagged = g.untagged;
}

-- a scope in the whole file, with all locals of the function
abbrev pub whole : FileScope → List ALocal → Scope → Scope
whole g ls s = record { file = g; blocks = s.blocks; is_inside = s.is_inside; purpose = s.purpose; locals = ls }

-- ---- what the file level has to supply of the whole file

-- what a name stands for, where so many records are complete
abbrev pub IsFitFor : FileScope → ℕ → Entity → Type 0
IsFitFor g r (typedef t) = Unit {0}
IsFitFor g r (enumerator v) = Unit {0}
IsFitFor g r (Scopes.an_object n t) = is_object r t ≡ true
IsFitFor g r (Scopes.a_function f t) = slice_get (map (λ o. o.ty) g.functions) f ≡ Some t
IsFitFor g r (Scopes.a_library_function which) = Unit {0}
IsFitFor g r (a_local n t) = is_object r t ≡ true
IsFitFor g r (a_parameter t) = is_scalar t ≡ true

pub record IsWhole (g : FileScope) : Type 0 where
  -- names begin to be in scope one after the other, and an enumerator's is declared once
  pub names_apart : (j k : ℕ) (a b : Bound) → slice_get g.names j ≡ Some a → slice_get g.names k ≡ Some b → a.from ≡ b.from → j ≡ k
  pub enumerators_alone : (j k : ℕ) (a b : Bound) (v : ℕ) → slice_get g.names j ≡ Some a → slice_get g.names k ≡ Some b → j < k
      → b.entity ≡ enumerator v → a.name ≢ b.name
  -- what a name stands for where it is in scope
  pub names_fit : (x : List ℕ) (at : ℕ) (e : Entity) → visible g.names x at ≡ Some e → IsFitFor g (ended g.ends at) e
  pub objects_apart : (j k : ℕ) (a b : AnObject) → slice_get g.objects j ≡ Some a → slice_get g.objects k ≡ Some b → a.first ≡ b.first → j ≡ k
  pub numbered_apart : (j k : ℕ) (tag : List ℕ) → slice_get g.numbered j ≡ Some tag → slice_get g.numbered k ≡ Some tag → j ≡ k
  pub records_apart : (j k : ℕ) (a b : Record) → slice_get g.records j ≡ Some a → slice_get g.records k ≡ Some b → a.tag ≡ b.tag → j ≡ k
  pub fields_apart : (k : ℕ) (r : Record) → slice_get g.records k ≡ Some r → AreDifferent (map (λ f. f.name) r.fields)
  -- a field's type is complete before the definition ends
  pub fields_complete : (k j : ℕ) (r : Record) (f : Field) → slice_get g.records k ≡ Some r → slice_get r.fields j ≡ Some f → is_object k f.ty ≡ true
  pub records_small : (before more : List Record) (r : Record) → g.records ≡ before ++ r ∷ more → size_of_record before r ≤ 16777216

-- ---- before a part, and after it

pub record IsBefore (g : FileScope) (c : Lists) (w : List Event) : Type 0 where
  pub extends : Extends (part g c) g
  pub follows : Follows g (length c.names) (length c.records) (length c.objects) w

pub record IsAfter (g : FileScope) (c : Lists) (w : List Event) (e : Lists) : Type 0 where
  pub extends : Extends (part g e) g
  pub names : length e.names ≡ length c.names + names_in w
  pub records : length e.records ≡ length c.records + ends_in w
  pub objects : length e.objects ≡ length c.objects + literals_in w
  pub functions : e.functions ≡ c.functions

pub none_after : (g : FileScope) (c : Lists) (w : List Event) → IsBefore g c w → names_in w ≡ 0 → ends_in w ≡ 0 → literals_in w ≡ 0 → IsAfter g c w c
none_after g c w b n r o = record {
  extends = b.extends;
  names = omega (arith, n);
  records = omega (arith, r);
  objects = omega (arith, o);
  functions = refl;
}

pub grown : {g : FileScope} {c : Lists} {w : List Event} {e : Lists} → IsAfter g c w e → length c.records ≤ length e.records
grown p = omega (arith, p.records)

pub left : {g : FileScope} {c : Lists} (u v : List Event) → IsBefore g c (u ++ v) → IsBefore g c u
left {g} {c} u v b = record { extends = b.extends; follows = follows_left g (length c.names) (length c.records) (length c.objects) u v b.follows }

pub right : {g : FileScope} {c e : Lists} (u v : List Event) → IsBefore g c (u ++ v) → IsAfter g c u e → IsBefore g e v
right {g} {c} {e} u v b p = record {
  extends = p.extends;
  follows = follows_right g (length c.names) (length c.records) (length c.objects) (length e.names) (length e.records) (length e.objects) u v
      p.names p.records p.objects b.follows;
}

pub then : {g : FileScope} {c d e : Lists} (u v : List Event) → IsAfter g c u d → IsAfter g d v e → IsAfter g c (u ++ v) e
then u v p q = record {
  extends = q.extends;
  names = omega (arith, p.names, q.names, names_append u v);
  records = omega (arith, p.records, q.records, ends_append u v);
  objects = omega (arith, p.objects, q.objects, literals_append u v);
  functions = q.functions ∙ p.functions;
}

-- the same of what is seen of two parts
module _ (g : FileScope) (i : Bool) (p : Purpose) where
  pub left_seen : (c : Lists) (u v : List Event) → IsBefore g c (seen i p (u ++ v)) → IsBefore g c (seen i p u)
  left_seen c u v b = left (seen i p u) (seen i p v) (subst (IsBefore g c) (seen_append i p u v) b)

  pub right_seen : (c e : Lists) (u v : List Event) → IsBefore g c (seen i p (u ++ v)) → IsAfter g c (seen i p u) e → IsBefore g e (seen i p v)
  right_seen c e u v b a = right (seen i p u) (seen i p v) (subst (IsBefore g c) (seen_append i p u v) b) a

  pub then_seen : (c d e : Lists) (u v : List Event) → IsAfter g c (seen i p u) d → IsAfter g d (seen i p v) e → IsAfter g c (seen i p (u ++ v)) e
  then_seen c d e u v a b = subst (λ w. IsAfter g c w e) (sym (seen_append i p u v)) (then (seen i p u) (seen i p v) a b)

-- ---- an answer, with the file up to there

pub record Done {A : Type 0} (g : FileScope) (c : Lists) (w : List Event) (r : Checked A) (a : A) : Type 0 where
  pub lists : Lists
  pub is : r ≡ Ok (a, part g lists)
  pub after : IsAfter g c w lists

-- ---- what is complete stays complete

pub complete_stays : (r q : ℕ) (t : CType) → r ≤ q → is_object r t ≡ true → is_object q t ≡ true
complete_stays r q void l h = h
complete_stays r q (integer kind) l h = h
complete_stays r q (pointer t) l h = h
complete_stays r q (array t n) l h =
    let b = and_parts (nat_lt 0 n) (is_object r t) h in and_from (nat_lt 0 n) (is_object q t) b.0 (complete_stays r q t l b.1)
complete_stays r q (function t all) l h = h
complete_stays r q (structure k) l h = lt-ltb k q (omega (arith, l, ltb-true k r h))

pub fit_stays : (g : FileScope) (r q : ℕ) (e : Entity) → r ≤ q → IsFitFor g r e → IsFitFor g q e
fit_stays g r q (typedef t) l h = h
fit_stays g r q (enumerator v) l h = h
fit_stays g r q (Scopes.an_object n t) l h = complete_stays r q t l h
fit_stays g r q (Scopes.a_function f t) l h = h
fit_stays g r q (Scopes.a_library_function which) l h = h
fit_stays g r q (a_local n t) l h = complete_stays r q t l h
fit_stays g r q (a_parameter t) l h = h

-- what the blocks declare
abbrev pub BlocksFit : FileScope → ℕ → List (List Bound) → Type 0
BlocksFit g r blocks = (x : List ℕ) (e : Entity) → innermost blocks x ≡ Some e → IsFitFor g r e

pub blocks_stay : (g : FileScope) (r q : ℕ) (blocks : List (List Bound)) → r ≤ q → BlocksFit g r blocks → BlocksFit g q blocks
blocks_stay g r q blocks l h x e i = fit_stays g r q e l (h x e i)

-- ---- names

or_none : {A : Type 0} (o : Option A) → or_else o None ≡ o
or_none None = refl
or_none (Some x) = refl

not_yet : (n m : ℕ) → m < n → nat_le n m ≡ false
not_yet n m h = grind (arith, nat_tests)

unseen_yet : (b : Bound) (x : List ℕ) (at : ℕ) → at < b.from → cond (bytes_eq b.name x && nat_le b.from at) (Some b.entity) None ≡ None
unseen_yet b x at h = by_name (bytes_eq b.name x)
  where
    by_name : (t : Bool) → cond (t && nat_le b.from at) (Some b.entity) None ≡ None
    by_name true = ap (λ t. cond t (Some b.entity) None) (not_yet b.from at h)
    by_name false = refl

abbrev AreLater : List Bound → ℕ → Type 0
AreLater all at = (k : ℕ) (b : Bound) → slice_get all k ≡ Some b → at < b.from

none_visible : (all : List Bound) (x : List ℕ) (at : ℕ) → AreLater all at → visible all x at ≡ None
none_visible [] x at h = refl
none_visible (b ∷ all) x at h =
    ap (λ o. or_else o (visible all x at)) (unseen_yet b x at (h 0 b refl)) ∙ none_visible all x at (λ k c e. h (suc k) c e)

visible_before : (all more : List Bound) (x : List ℕ) (at : ℕ) → AreLater more at → visible (all ++ more) x at ≡ visible all x at
visible_before [] more x at h = none_visible more x at h
visible_before (b ∷ all) more x at h =
    ap (or_else (cond (bytes_eq b.name x && nat_le b.from at) (Some b.entity) None)) (visible_before all more x at h)

-- at that byte the names of the whole file are those up to there
pub named_same : (g : FileScope) (ls : List ALocal) (s : Scope) (c : Lists) → Extends (part g c) g → (x : List ℕ) (at : ℕ)
    → ((k : ℕ) (b : Bound) → slice_get g.names (length c.names + k) ≡ Some b → at < b.from) → named (moved s (part g c)) x at ≡ named (whole g ls s) x at
named_same g ls s c p x at h =
    let more = p.names.0 in
    let later : AreLater more at = λ k b e. h k b (subst (λ all. slice_get all (length c.names + k) ≡ Some b) (sym p.names.1)
    (behind c.names more k (length c.names + k) b refl e)) in
    ap (or_else (innermost s.blocks x)) (sym (ap (λ all. visible all x at) p.names.1 ∙ visible_before c.names more x at later))

one_fits : (g : FileScope) (r : ℕ) (o n : Option Entity) (e : Entity) → (o ≡ Some e → IsFitFor g r e) → (n ≡ Some e → IsFitFor g r e)
    → or_else o n ≡ Some e → IsFitFor g r e
one_fits g r None n e p q h = q h
one_fits g r (Some x) n e p q h = p h

pub named_fits : (g : FileScope) (w : IsWhole g) (ls : List ALocal) (s : Scope) (at : ℕ) → BlocksFit g (ended g.ends at) s.blocks → (x : List ℕ) (e : Entity)
    → named (whole g ls s) x at ≡ Some e → IsFitFor g (ended g.ends at) e
named_fits g w ls s at b x e h =
    one_fits g (ended g.ends at) (innermost s.blocks x) (visible g.names x at) e (b x e) (w.names_fit x at e) h

-- ---- types of which the file speaks

in_place : {X : Type 0} (n : ℕ) (all : List X) (y : X) (k : ℕ) (x : X) → slice_get (take n all ++ y ∷ drop n all) k ≡ Some x
    → (y ≡ x) ⊎ ((j : ℕ) × (slice_get all j ≡ Some x))
in_place zero all y zero x e = inl (some_is y x e)
in_place zero all y (suc k) x e = inr (k, e)
in_place (suc n) [] y zero x e = inl (some_is y x e)
in_place (suc n) [] y (suc k) x e = cc
in_place (suc n) (z ∷ all) y zero x e = inr (0, e)
in_place (suc n) (z ∷ all) y (suc k) x e = later (in_place n all y k x e)
  where
    later : (y ≡ x) ⊎ ((j : ℕ) × (slice_get all j ≡ Some x)) → (y ≡ x) ⊎ ((j : ℕ) × (slice_get (z ∷ all) j ≡ Some x))
    later (inl e) = inl e
    later (inr h) = inr (suc h.0, h.1)

abbrev mentioning : Lists → (before : ℕ) → AMention → Lists
mentioning c n m = record {
  names = c.names;
  records = c.records;
  objects = c.objects;
  functions = c.functions;
  mentions =
      take n c.mentions ++ m ∷ drop n c.mentions;
}

mention_extends : (g : FileScope) (c : Lists) (n : ℕ) (m : AMention) → Extends (part g c) g → IsListedAt g.mentions m.kind m.ty m.at
    → Extends (part g (mentioning c n m)) g
mention_extends g c n m p h = record {
  file = refl;
  tags = refl;
  ends = refl;
  numbered = refl;
  untagged = refl;
  names = p.names;
  records = p.records;
  mentions = λ kind t at e. by_case kind t at (in_place n c.mentions m e.0 (record { kind = kind; ty = t; at = at }) e.1);
  types = p.types;
  objects = p.objects;
  functions = p.functions;
}
  where
    by_case : (kind : MentionKind) (t : CType) (at : ℕ)
        → (m ≡ record { kind = kind; ty = t; at = at }) ⊎ ((j : ℕ) × (slice_get c.mentions j ≡ Some (record { kind = kind; ty = t; at = at })))
        → IsListedAt g.mentions kind t at
    by_case kind t at (inl e) = subst (λ (m : AMention). IsListedAt g.mentions m.kind m.ty m.at) e h
    by_case kind t at (inr e) = p.mentions kind t at e

-- a type that is mentioned in the whole file is listed where it stands
pub mentioned : (g : FileScope) (ls : List ALocal) (s : Scope) (c d : Lists) (w : List Event) (before : ℕ) (kind : MentionKind) (t : CType) (at : ℕ)
    → IsMentioned (whole g ls s) kind t at → IsAfter g c w d
    → (e : Lists) × (with_mention (moved s (part g c)) before kind t at (part g d) ≡ part g e) × (e.records ≡ d.records) × IsAfter g c w e
mentioned g ls s c d w before kind t at m p = by_purpose (is_measured s.purpose) refl m
  where
    by_purpose : (b : Bool) → is_measured s.purpose ≡ b → (b ≡ true) ⊎ IsListedAt g.mentions kind t at
        → (e : Lists) × (cond b (part g d) (part g (mentioning d before (record { kind = kind; ty = t; at = at }))) ≡ part g e) × (e.records ≡ d.records)
        × IsAfter g c w e
    by_purpose true q h = (d, refl, refl, p)
    by_purpose false q (inl h) = cc
    by_purpose false q (inr h) = (
      mentioning d before (record { kind = kind; ty = t; at = at }),
      refl,
      refl,
      record {
        extends = mention_extends g d before (record { kind = kind; ty = t; at = at }) p.extends h;
        names = p.names;
        records = p.records;
        objects = p.objects;
        functions = p.functions;
      },
    )

-- ---- what is known of a thing that stands for a part of the text

module _ (g : FileScope) where
  abbrev pub IsSound : Thing → Type 0
  IsSound (an_object p) = Unit {0}
  IsSound (a_value x) = IsBare x
  IsSound (a_function at f t) = slice_get (map (λ o. o.ty) g.functions) f ≡ Some t
  IsSound (a_function_at x) = IsBare x × ((t : CType) × (type_of x ≡ pointer t) × (is_function t ≡ true))
  IsSound (a_library_function at which) = Unit {0}

  -- so many records are complete
  abbrev pub IsComplete : ℕ → Thing → Type 0
  IsComplete r (an_object p) = is_object r (type_of_path p) ≡ true
  IsComplete r th = Unit {0}

  pub complete_thing_stays : (r q : ℕ) (th : Thing) → r ≤ q → IsComplete r th → IsComplete q th
  complete_thing_stays r q (an_object p) l h = complete_stays r q (type_of_path p) l h
  complete_thing_stays r q (a_value x) l h = tt
  complete_thing_stays r q (a_function at f t) l h = tt
  complete_thing_stays r q (a_function_at x) l h = tt
  complete_thing_stays r q (a_library_function at which) l h = tt

  object_bare : (p : Path) (t : CType) (y : Expression) → object_value p t ≡ Some y → IsBare y
  object_bare p (integer kind) y h = subst IsBare (some_is _ y h) refl
  object_bare p (pointer t) y h = subst IsBare (some_is _ y h) refl
  object_bare p (array t n) y h = subst IsBare (some_is _ y h) refl
  object_bare p void y h = cc
  object_bare p (function t all) y h = cc
  object_bare p (structure r) y h = cc

  pub value_bare : (th : Thing) (y : Expression) → IsSound th → value_of th ≡ Some y → IsBare y
  value_bare (an_object p) y h v = object_bare p (type_of_path p) y v
  value_bare (a_value x) y h v = subst IsBare (some_is x y v) h
  value_bare (a_function at f t) y h v = subst IsBare (some_is _ y v) refl
  value_bare (a_function_at x) y h v = subst IsBare (some_is x y v) h.0
  value_bare (a_library_function at which) y h v = cc

  object_typed : (s : Scope) (p : Path) (t : CType) (y : Expression) → object_value p t ≡ Some y → IsTyped (declared s) (typed y) → IsTypedThing s (an_object p)
  object_typed s p (integer kind) y v h = (subst (λ y. IsTyped (declared s) (typed y)) (sym (some_is _ y v)) h).0
  object_typed s p (pointer t) y v h = (subst (λ y. IsTyped (declared s) (typed y)) (sym (some_is _ y v)) h).0
  object_typed s p (array t n) y v h = (subst (λ y. IsTyped (declared s) (typed y)) (sym (some_is _ y v)) h).0
  object_typed s p void y v h = cc
  object_typed s p (function t all) y v h = cc
  object_typed s p (structure r) y v h = cc

  -- what has a typed value is typed
  pub value_typed : (ls : List ALocal) (s : Scope) (th : Thing) (y : Expression) → IsSound th → value_of th ≡ Some y
      → IsTyped (declared (whole g ls s)) (typed y)
      → IsTypedThing (whole g ls s) th
  value_typed ls s (an_object p) y k v h = object_typed (whole g ls s) p (type_of_path p) y v h
  value_typed ls s (a_value x) y k v h = subst (λ y. IsTyped (declared (whole g ls s)) (typed y)) (sym (some_is x y v)) h
  value_typed ls s (a_function at f t) y k v h = k
  value_typed ls s (a_function_at x) y k v h = (subst (λ y. IsTyped (declared (whole g ls s)) (typed y)) (sym (some_is x y v)) h, k.1)
  value_typed ls s (a_library_function at which) y k v h = tt
