-- Structures and enumerations: what is found of their definitions (C99 6.7.2.1, 6.7.2.2).
use Rattle.std.proofs.Common.{◌≡◌, ◌≢◌, ℕ, zero, suc, ◌+◌, ◌<◌, Bool, true, false, List, [], ◌∷◌, ◌++◌, length, length-append, append_assoc, refl}
use Rattle.std.proofs.Common.{sym, ap, ◌∙◌, subst, cond, inl, inr, arith}
use Rattle.std.proofs.lemmas.Bool.{le-leb}
use Rattle.std.specs.Prelude.{◌⊎◌, ◌%◌, ◌^◌, Option, Some, None, Ok, Err, slice_get, map}
use Rattle.lay_base.specs.declared.faults.Rule.TheVariants as R
use Rattle.lay_base.specs.declared.place.Place.{Place}
use Rattle.c_types.specs.declared.ty.IntKind.TheVariants.{Int}
use Rattle.c_types.specs.Types.{CType, integer, structure, Field, Record}
use Rattle.c_types.specs.Layouts.{size_of_record}
use Rattle.c_types.specs.Objects.{is_object}
use Rattle.c_ast.specs.declared.words.Spelling.{Spelling}
use Rattle.c_ast.specs.Trees
use Rattle.c_ast.specs.Places.{first_specifiers, first_declarator}
use Rattle.c_typed.specs.declared.program.MentionKind.TheVariants.{Named}
use Rattle.c_erasure.specs.Broken.{redeclared, member_names, names_of_members, if_named, tag_place}
use Rattle.c_erasure.specs.Declarators.{closed, declared_name, AreDifferent}
use Rattle.c_erasure.specs.Erasure.{AreFields, AreMembers, tag_text, comma_or, after_all, place_in}
use Rattle.c_erasure.specs.Scopes.{ALocal, FileScope, Scope, Bound, Tag, enumerator, defines, Purpose, ended, IsNumbered, tag_at}
use Rattle.c_erasure.specs.Marks
use Rattle.c_erasure.specs.Marks.{tag_name}
use Rattle.c_erasure.specs.Specifiers.{no_storage, storage_of}
use Rattle.c_erasure.specs.Checking.Answers.{◌>>=◌, refused, with_file, moved}
use Rattle.c_erasure.specs.Checking.Declaring
use Rattle.c_erasure.specs.Checking.Declaring.{base_kind, Derivation, with_mention, mentions_in, object_at, derived}
use Rattle.c_erasure.specs.Checking.Finding.{type_of_derived, base_type, one_of, specified, members, member_declarators, enumerators, enumerator_value}
use Rattle.c_erasure.specs.Checking.Finding.{derivations}
use Rattle.c_checking_laws.proofs.Results.{ok}
use Rattle.c_checking_laws.proofs.Extends.{Extends, kept}
use Rattle.c_checking_laws.proofs.CompleteNodes.{some, some_is}
use Rattle.c_checking_laws.proofs.CompleteParts.{all_at}
use Rattle.c_checking_laws.proofs.CompleteWalk.{Event, seen, walk_of_specifiers, walk_of_declarator, walk_of_members, walk_of_member_declarators}
use Rattle.c_checking_laws.proofs.CompleteWalk.{walk_of_enumerators, walk_of_value, a_tag, an_end, a_name, IsTagOf, a_structure, an_enumeration}
use Rattle.c_checking_laws.proofs.CompletePart.{whole, Lists, part, IsWhole, IsBefore, IsAfter, Done, BlocksFit, blocks_stay, none_after, grown, complete_stays}
use Rattle.c_checking_laws.proofs.CompletePart.{mentioned, right, then}
use Rattle.c_checking_laws.proofs.CompletePart.{left_seen, right_seen, then_seen}
use Rattle.c_checking_laws.proofs.CompleteExpressions.{after_look, behind_look}
use Rattle.c_checking_laws.proofs.CompleteDeclarators.{CompletesOne, CompletesDeclarator, SeenDeclarator, base_complete, closed_back}
use Rattle.c_checking_laws.proofs.CompleteSpecifiers.{CompletesSpecifier, CompletesEnumeratorValue, CompletesEnumerators, number_back, other_bytes, itself}

-- ---- lists

pub split_at : {X : Type 0} (xs more : List X) (y : X) → slice_get (xs ++ more) (length xs) ≡ Some y → (rest : List X) × (more ≡ y ∷ rest)
split_at [] [] y h = cc
split_at [] (x ∷ more) y h = (more, ap (λ x. x ∷ more) (some_is x y h))
split_at (x ∷ xs) more y h = split_at xs more y h

-- what stands next in a longer list
next_split : {X : Type 0} (all xs more : List X) (y : X) → all ≡ xs ++ more → slice_get all (length xs) ≡ Some y
    → (rest : List X) × (all ≡ (xs ++ y ∷ []) ++ rest)
next_split all xs more y e h =
    let z = split_at xs more y (subst (λ all. slice_get all (length xs) ≡ Some y) e h) in
    (z.0, e ∙ ap (λ more. xs ++ more) z.1 ∙ sym (append_assoc xs (y ∷ []) z.0))

next_after : {X : Type 0} (all xs more : List X) (y : X) → all ≡ xs ++ more → slice_get all (length xs) ≡ Some y
    → (rest : List X) × (all ≡ xs ++ y ∷ rest)
next_after all xs more y e h =
    let z = split_at xs more y (subst (λ all. slice_get all (length xs) ≡ Some y) e h) in
    (z.0, e ∙ ap (λ more. xs ++ more) z.1)

pub below_length : {X : Type 0} (xs : List X) (k : ℕ) (x : X) → slice_get xs k ≡ Some x → k < length xs
below_length [] k x h = cc
below_length (y ∷ xs) zero x h = omega arith
below_length (y ∷ xs) (suc k) x h = let l = below_length xs k x h in omega (arith, l)

map_append : {X Y : Type 0} (f : X → Y) (a b : List X) → map f (a ++ b) ≡ map f a ++ map f b
map_append f [] b = refl
map_append f (x ∷ a) b = ap (λ all. f x ∷ all) (map_append f a b)

mapped_at : {X Y : Type 0} (f : X → Y) (xs : List X) (k : ℕ) (x : X) → slice_get xs k ≡ Some x → slice_get (map f xs) k ≡ Some (f x)
mapped_at f [] k x h = cc
mapped_at f (y ∷ xs) zero x h = ap (λ y. some (f y)) (some_is y x h)
mapped_at f (y ∷ xs) (suc k) x h = mapped_at f xs k x h

pushed : {X : Type 0} (xs : List X) (y : X) (k : ℕ) (x : X) → slice_get (xs ++ y ∷ []) k ≡ Some x → (slice_get xs k ≡ Some x) ⊎ (y ≡ x)
pushed [] y zero x h = inr (some_is y x h)
pushed [] y (suc k) x h = cc
pushed (z ∷ xs) y zero x h = inl h
pushed (z ∷ xs) y (suc k) x h = pushed xs y k x h

-- ---- names that differ

standing_none : (before : List Spelling) (x : List ℕ) → ((j : ℕ) (z : Spelling) → slice_get before j ≡ Some z → z.text ≢ x) → Declaring.standing before x ≡ None
standing_none [] x h = refl
standing_none (y ∷ before) x h =
    ap (λ b. cond b (some y) (Declaring.standing before x)) (other_bytes y.text x (h 0 y refl)) ∙ standing_none before x (λ j z e. h (suc j) z e)

repeated_none : (before all : List Spelling)
    → ((j k : ℕ) (z y : Spelling) → slice_get before j ≡ Some z → slice_get all k ≡ Some y → z.text ≢ y.text)
    → AreDifferent (map (λ x. x.text) all) → Declaring.repeated before all ≡ None
repeated_none before [] h d = refl
repeated_none before (y ∷ all) h d =
    let own = standing_none before y.text (λ j z e. h j 0 z y e refl) in
    let later = repeated_none (before ++ y ∷ []) all (λ j k z x e f. apart j k z x f (pushed before y j z e)) d.1 in
    ap (λ o. Declaring.repeated_or y o (Declaring.repeated (before ++ y ∷ []) all)) own ∙ later
  where
    apart : (j k : ℕ) (z x : Spelling) → slice_get all k ≡ Some x → (slice_get before j ≡ Some z) ⊎ (y ≡ z) → z.text ≢ x.text
    apart j k z x f (inl e) = h j (suc k) z x e f
    apart j k z x f (inr e) =
        let n = all_at (λ t. y.text ≢ t) (map (λ x. x.text) all) d.0 k x.text (mapped_at (λ (x : Spelling). x.text) all k x f) in
        λ q. n (ap (λ (y : Spelling). y.text) e ∙ q)

declared_none : (all : List Bound) (x : List ℕ) → ((j : ℕ) (b : Bound) → slice_get all j ≡ Some b → b.name ≢ x) → Declaring.declared_among all x ≡ None
declared_none [] x h = refl
declared_none (b ∷ all) x h =
    ap (λ t. cond t (some b) (Declaring.declared_among all x)) (other_bytes b.name x (h 0 b refl)) ∙ declared_none all x (λ j z e. h (suc j) z e)

abbrev with_parts : List ℕ → Place → List Field → Record
with_parts tag place fields = record { tag = tag; place = place; fields = fields }

made_is : (tag : List ℕ) (place : Place) (r : Record) → r.tag ≡ tag → r.place ≡ place → record { tag = tag; place = place; fields = r.fields } ≡ r
made_is tag place r e f =
    ap (λ tag. with_parts tag place r.fields) (sym e) ∙ ap (λ place. with_parts r.tag place r.fields) (sym f)

module _ (g : FileScope) (w : IsWhole g) (ls : List ALocal) where
  -- ---- enumerators

  abbrev with_one_name : Lists → Bound → Lists
  with_one_name c b = record { names = c.names ++ b ∷ []; records = c.records; objects = c.objects; functions = c.functions; mentions = c.mentions }

  name_after : (c : Lists) (b : Bound) (from : ℕ) → Extends (part g c) g → slice_get g.names (length c.names) ≡ Some b
      → IsAfter g c (a_name from ∷ []) (with_one_name c b)
  name_after c b from p h =
      let z = next_split g.names c.names p.names.0 b p.names.1 h in
      record {
        extends = record {
          file = refl;
          tags = refl;
          ends = refl;
          numbered = refl;
          untagged = refl;
          names = z;
          records = p.records;
          mentions = p.mentions;
          types = p.types;
          objects = p.objects;
          functions = p.functions;
        };
        names = omega (arith, length-append c.names (b ∷ []));
        records = omega arith;
        objects = omega arith;
        functions = refl;
      }

  -- an enumerator's name is the next one, and new
  record NextName (c : Lists) (b : Bound) : Type 0 where
    pub there : slice_get g.names (length c.names) ≡ Some b
    pub is_new : Declaring.enumerator_in (part g c) b ≡ Ok (part g (with_one_name c b))

  next_name : (c : Lists) (b : Bound) (v : ℕ) → b.entity ≡ enumerator v → Extends (part g c) g → (k : ℕ) → slice_get g.names k ≡ Some b
      → (x : Bound) × (slice_get g.names (length c.names) ≡ Some x) × (x.from ≡ b.from) → NextName c b
  unfolding Declaring.enumerator_in
  next_name c b v e p k h n =
      let same : k ≡ length c.names = w.names_apart k (length c.names) b n.0 h n.1 (sym n.2) in
      let there = subst (λ k. slice_get g.names k ≡ Some b) same h in
      let none = declared_none c.names b.name (λ j x q.
      w.enumerators_alone j (length c.names) x b v (subst (λ all. slice_get all j ≡ Some x) (sym p.names.1) (kept c.names p.names.0 j x q)) there
      (below_length c.names j x q) e) in
      record { there = there; is_new = ap (Declaring.new_name (part g c) b) none }

  enumerator_joined : (comma : Option ℕ) (x : Spelling) (value : Trees.EnumeratorValue) (more : Trees.Enumerators) (s : Scope) (c l m n : Lists)
      (next after v : ℕ)
      → enumerator_value value (moved s (part g c)) x.from next ≡ Ok (v, part g l)
      → Declaring.enumerator_in (part g l) (record { name = x.text; place = x.from; from = comma_or more after; how = defines; entity = enumerator v })
      ≡ Ok (part g m)
      → enumerators more (moved s (part g m)) ((v + 1) % 2 ^ 32) after ≡ Ok (tt, part g n)
      → enumerators (Trees.and_enumerator comma x value more) (moved s (part g c)) next after ≡ Ok (tt, part g n)
  unfolding enumerators
  enumerator_joined comma x value more s c l m n next after v a b d = rw (a, b, d) refl

  pub enumerator_complete : (comma : Option ℕ) (x : Spelling) (value : Trees.EnumeratorValue) (more : Trees.Enumerators) → CompletesEnumeratorValue g w ls value
      → CompletesEnumerators g w ls more → CompletesEnumerators g w ls (Trees.and_enumerator comma x value more)
  enumerator_complete comma x value more i j s c next after e f b h =
      let u = walk_of_value g.untagged value in
      let own : IsBefore g c (seen s.is_inside s.purpose (walk_of_value g.untagged value)) =
      subst (λ i. IsBefore g c (seen i s.purpose (walk_of_value g.untagged value))) (sym e)
      (left_seen g false s.purpose c (walk_of_value g.untagged value) (a_name (comma_or more after) ∷ walk_of_enumerators g.untagged more after) b) in
      let z = i s c x.from next h.0 f own h.1 in
      let a : IsAfter g c (seen false s.purpose (walk_of_value g.untagged value)) z.lists =
      subst (λ i. IsAfter g c (seen i s.purpose (walk_of_value g.untagged value)) z.lists) e z.after in
      let r = right_seen g false s.purpose c z.lists (walk_of_value g.untagged value)
      (a_name (comma_or more after) ∷ walk_of_enumerators g.untagged more after) b a in
      let d : Bound = record { name = x.text; place = x.from; from = comma_or more after; how = defines; entity = enumerator h.0 } in
      let n = next_name z.lists (record { name = x.text; place = x.from; from = comma_or more after; how = defines; entity = enumerator h.0 }) h.0 refl
      z.after.extends
      h.2.0 h.2.1 r.follows.0 in
      let y = name_after z.lists (record { name = x.text; place = x.from; from = comma_or more after; how = defines; entity = enumerator h.0 })
      (comma_or more after)
      z.after.extends n.there in
      let q = right (a_name (comma_or more after) ∷ []) (seen false s.purpose (walk_of_enumerators g.untagged more after)) r y in
      let k = j s (with_one_name z.lists (record { name = x.text; place = x.from; from = comma_or more after; how = defines; entity = enumerator h.0 }))
      ((h.0 + 1) % 2 ^ 32) after e (blocks_stay g (length c.records) (length z.lists.records) s.blocks (grown z.after) f) q h.3 in
      record {
        lists = k.lists;
        is = enumerator_joined comma x value more s c z.lists
            (with_one_name z.lists (record { name = x.text; place = x.from; from = comma_or more after; how = defines; entity = enumerator h.0 }))
            k.lists next after h.0 z.is n.is_new k.is;
        after = then_seen g false s.purpose c z.lists k.lists (walk_of_value g.untagged value)
            (a_name (comma_or more after) ∷ walk_of_enumerators g.untagged more after) a
            (then (a_name (comma_or more after) ∷ []) (seen false s.purpose (walk_of_enumerators g.untagged more after)) y k.after);
      }

  -- ---- enumerations

  enumeration_back : (x : Option Spelling) (right : ℕ) (c : Lists) (p : Purpose) → IsBefore g c (seen false p (an_enumeration g.untagged x right))
      → (Declaring.enumeration_of (part g c) x ≡ Ok (integer Int)) × IsAfter g c (seen false p (an_enumeration g.untagged x right)) c
  enumeration_back None right c p b = (refl, none_after g c [] b refl refl refl)
  enumeration_back (Some x) right c p b = (
    ap (Declaring.only_tag x) b.follows.0 ∙ ap (λ t. cond t (ok (integer Int)) (Err (redeclared x.text x.from x.from))) (itself x.from),
    none_after g c (a_tag (record { name = x.text; place = x.from; from = right; is_enumeration = true }) ∷ []) b refl refl refl,
  )

  enum_body_joined : (at : ℕ) (x : Option Spelling) (begin : ℕ) (all : Trees.Enumerators) (comma : Option ℕ) (end : ℕ) (s : Scope) (c l : Lists)
      → s.is_inside ≡ false
      → enumerators all (moved s (part g c)) 0 (after_all comma end) ≡ Ok (tt, part g l) → Declaring.enumeration_of (part g l) x ≡ Ok (integer Int)
      → specified (Trees.enum_body at x begin all comma end) (moved s (part g c)) ≡ Ok (integer Int, part g l)
  unfolding specified
  enum_body_joined at x begin all comma end s c l e a b =
      ap (λ i. cond i (refused R.Scope at)
      (enumerators all (moved s (part g c)) 0 (after_all comma end) >>= λ f. with_file f.1 (Declaring.enumeration_of f.1 x))) e
      ∙ rw (a, b) refl

  pub enum_body_complete : (at : ℕ) (x : Option Spelling) (begin : ℕ) (all : Trees.Enumerators) (comma : Option ℕ) (end : ℕ) → CompletesEnumerators g w ls all
      → CompletesSpecifier g w ls (Trees.enum_body at x begin all comma end)
  enum_body_complete at x begin all comma end i s c t f b h =
      let out : IsBefore g c (seen false s.purpose (walk_of_enumerators g.untagged all (after_all comma end) ++ an_enumeration g.untagged x end)) =
      subst (λ i. IsBefore g c (seen i s.purpose (walk_of_enumerators g.untagged all (after_all comma end) ++ an_enumeration g.untagged x end))) h.0 b in
      let z = i s c 0 (after_all comma end) h.0 f
      (left_seen g false s.purpose c (walk_of_enumerators g.untagged all (after_all comma end)) (an_enumeration g.untagged x end) out) h.2 in
      let r = right_seen g false s.purpose c z.lists (walk_of_enumerators g.untagged all (after_all comma end)) (an_enumeration g.untagged x end) out z.after in
      let n = enumeration_back x end z.lists s.purpose r in
      record {
        lists = z.lists;
        is = enum_body_joined at x begin all comma end s c z.lists h.0 z.is n.0 ∙ ap (λ t. ok (t, part g z.lists)) (sym h.1);
        after = subst (λ i. IsAfter g c (seen i s.purpose (walk_of_enumerators g.untagged all (after_all comma end) ++ an_enumeration g.untagged x end))
            z.lists) (sym h.0)
            (then_seen g false s.purpose c z.lists z.lists (walk_of_enumerators g.untagged all (after_all comma end)) (an_enumeration g.untagged x end)
            z.after n.1);
      }

  abbrev tag_of_structure : ℕ → Option Spelling → Tag
  tag_of_structure at x =
      record { name = tag_name g.untagged at x; place = Marks.tag_place g.untagged at x; from = Marks.tag_place g.untagged at x; is_enumeration = false }

  -- ---- members

  abbrev pub CompletesMemberDeclarators : Trees.MemberDeclarators → Type 0
  CompletesMemberDeclarators all = (s : Scope) (c : Lists) (base : CType) (semicolon : ℕ) (fields : List Field) → BlocksFit g (length c.records) s.blocks
      → IsBefore g c (seen s.is_inside s.purpose (walk_of_member_declarators g.untagged all semicolon)) → AreMembers (whole g ls s) base all semicolon fields
      → Done g c (seen s.is_inside s.purpose (walk_of_member_declarators g.untagged all semicolon))
      (member_declarators all base semicolon (moved s (part g c))) fields

  abbrev pub CompletesMembers : Trees.MemberDeclarations → Type 0
  CompletesMembers all = (s : Scope) (c : Lists) (fields : List Field) → BlocksFit g (length c.records) s.blocks
      → IsBefore g c (seen s.is_inside s.purpose (walk_of_members g.untagged all)) → AreFields (whole g ls s) all fields
      → Done g c (seen s.is_inside s.purpose (walk_of_members g.untagged all)) (members all (moved s (part g c))) fields

  pub no_member_declarators_complete : CompletesMemberDeclarators Trees.no_member_declarators
  unfolding member_declarators
  no_member_declarators_complete s c base semicolon fields f b h =
      record { lists = c; is = ap (λ fields. ok (fields, part g c)) (sym h); after = none_after g c [] b refl refl refl }

  pub object_back : (records : List Record) (count at : ℕ) (t : CType) → is_object count t ≡ true → is_object (length records) t ≡ true
      → object_at records count at t ≡ Ok t
  unfolding object_at
  object_back records count at t c l = rw (c, l) refl

  member_joined : (comma : Option ℕ) (d : Trees.Declarator) (more : Trees.MemberDeclarators) (s : Scope) (c l m n : Lists) (base : CType) (semicolon : ℕ)
      (x : Spelling) (t : CType) (steps : List Derivation) (rest : List Field) → declared_name d ≡ Some x
      → derivations d (moved s (part g c)) ≡ Ok (steps, part g l) → type_of_derived (first_declarator d semicolon) (part g l) steps base ≡ Ok t
      → object_at l.records (ended g.ends (first_declarator d semicolon)) (first_declarator d semicolon) t ≡ Ok t
      → with_mention (moved s (part g c)) (mentions_in (part g c)) Named t (first_declarator d semicolon) (part g l) ≡ part g m
      → member_declarators more base semicolon (moved s (part g m)) ≡ Ok (rest, part g n)
      → member_declarators (Trees.and_member_declarator comma d more) base semicolon (moved s (part g c))
      ≡ Ok (record { name = x.text; ty = t; place = place_in (whole g ls s) (first_declarator d semicolon) } ∷ rest, part g n)
  unfolding member_declarators
  member_joined comma d more s c l m n base semicolon x t steps rest na a k o me r = rw (a, k, o, na, me, r) refl

  pub member_complete : (comma : Option ℕ) (d : Trees.Declarator) (more : Trees.MemberDeclarators) → CompletesDeclarator g w ls d
      → CompletesMemberDeclarators more
      → CompletesMemberDeclarators (Trees.and_member_declarator comma d more)
  member_complete comma d more i j s c base semicolon fields f b h =
      let at = first_declarator d semicolon in
      let inner = behind_look g w ls c (first_declarator d semicolon)
      (seen s.is_inside s.purpose (walk_of_declarator g.untagged d ++ walk_of_member_declarators g.untagged more semicolon)) b in
      let z = i s c base (closed h.1) f
      (left_seen g s.is_inside s.purpose c (walk_of_declarator g.untagged d) (walk_of_member_declarators g.untagged more semicolon) inner) h.4 in
      let k = closed_back g w ls (first_declarator d semicolon) z.lists z.steps base h.1 (z.derive z.lists z.after.extends (omega arith)) in
      let o = complete_stays (ended g.ends (first_declarator d semicolon)) (length z.lists.records) h.1 (omega (arith, b.follows.0, z.after.records)) h.5 in
      let y = object_back z.lists.records (ended g.ends (first_declarator d semicolon)) (first_declarator d semicolon) h.1 h.5 o in
      let m = mentioned g ls s c z.lists (SeenDeclarator g w ls s d) (mentions_in (part g c)) Named h.1 (first_declarator d semicolon) h.6 z.after in
      let r = j s m.0 base semicolon h.2 (blocks_stay g (length c.records) (length m.0.records) s.blocks (grown m.3) f)
      (right_seen g s.is_inside s.purpose c m.0 (walk_of_declarator g.untagged d) (walk_of_member_declarators g.untagged more semicolon) inner m.3) h.8 in
      record {
        lists = r.lists;
        is = member_joined comma d more s c z.lists m.0 r.lists base semicolon h.0 h.1 z.steps h.2 h.3 z.is k y m.1 r.is
            ∙ ap (λ fields. ok (fields, part g r.lists)) (sym h.7);
        after = after_look g w ls c r.lists (first_declarator d semicolon)
            (seen s.is_inside s.purpose (walk_of_declarator g.untagged d ++ walk_of_member_declarators g.untagged more semicolon))
            (then_seen g s.is_inside s.purpose c m.0 r.lists (walk_of_declarator g.untagged d) (walk_of_member_declarators g.untagged more semicolon) m.3
            r.after);
      }

  pub no_members_complete : CompletesMembers Trees.no_member_declarations
  unfolding members
  no_members_complete s c fields f b h =
      record { lists = c; is = ap (λ fields. ok (fields, part g c)) (sym h); after = none_after g c [] b refl refl refl }

  members_joined : (specs : Trees.Specifiers) (ds : Trees.MemberDeclarators) (semicolon : ℕ) (more : Trees.MemberDeclarations) (s : Scope) (c l m n : Lists)
      (base : CType)
      (own rest : List Field) → storage_of specs ≡ no_storage
      → base_type (base_kind specs) (first_specifiers specs) (part g c) (one_of specs (moved s (part g c))) ≡ Ok (base, part g l)
      → member_declarators ds base semicolon (moved s (part g l)) ≡ Ok (own, part g m) → members more (moved s (part g m)) ≡ Ok (rest, part g n)
      → members (Trees.and_member_declaration specs ds semicolon more) (moved s (part g c)) ≡ Ok (own ++ rest, part g n)
  unfolding members
  members_joined specs ds semicolon more s c l m n base own rest st a k r = rw (st, a, k, r) refl

  pub members_complete : (specs : Trees.Specifiers) (ds : Trees.MemberDeclarators) (semicolon : ℕ) (more : Trees.MemberDeclarations) → CompletesOne g w ls specs
      → CompletesMemberDeclarators ds → CompletesMembers more → CompletesMembers (Trees.and_member_declaration specs ds semicolon more)
  members_complete specs ds semicolon more i j k s c fields f b h =
      let u = walk_of_specifiers g.untagged specs in
      let first = left_seen g s.is_inside s.purpose c (walk_of_specifiers g.untagged specs ++ walk_of_member_declarators g.untagged ds semicolon)
      (walk_of_members g.untagged more) b in
      let z = base_complete g w ls specs i s c h.0 f
      (left_seen g s.is_inside s.purpose c (walk_of_specifiers g.untagged specs) (walk_of_member_declarators g.untagged ds semicolon) first) h.5 in
      let n = j s z.lists h.0 semicolon h.1 (blocks_stay g (length c.records) (length z.lists.records) s.blocks (grown z.after) f)
      (right_seen g s.is_inside s.purpose c z.lists (walk_of_specifiers g.untagged specs) (walk_of_member_declarators g.untagged ds semicolon) first z.after)
      h.6 in
      let a = then_seen g s.is_inside s.purpose c z.lists n.lists (walk_of_specifiers g.untagged specs) (walk_of_member_declarators g.untagged ds semicolon)
      z.after n.after in
      let r = k s n.lists h.2 (blocks_stay g (length c.records) (length n.lists.records) s.blocks (grown a) f)
      (right_seen g s.is_inside s.purpose c n.lists (walk_of_specifiers g.untagged specs ++ walk_of_member_declarators g.untagged ds semicolon)
      (walk_of_members g.untagged more) b a) h.7 in
      record {
        lists = r.lists;
        is = members_joined specs ds semicolon more s c z.lists n.lists r.lists h.0 h.1 h.2 h.4 z.is n.is r.is
            ∙ ap (λ fields. ok (fields, part g r.lists)) (sym h.3);
        after = then_seen g s.is_inside s.purpose c n.lists r.lists (walk_of_specifiers g.untagged specs ++ walk_of_member_declarators g.untagged ds semicolon)
            (walk_of_members g.untagged more) a r.after;
      }

  -- ---- structures

  declarators_names : (s : Scope) (base : CType) (all : Trees.MemberDeclarators) (semicolon : ℕ) (fields : List Field) → AreMembers s base all semicolon fields
      → map (λ x. x.text) (names_of_members all) ≡ map (λ f. f.name) fields
  declarators_names s base Trees.no_member_declarators semicolon fields h = ap (map (λ f. f.name)) (sym h)
  declarators_names s base (Trees.and_member_declarator comma d more) semicolon fields h =
      ap (λ o. map (λ (x : Spelling). x.text) (if_named o ++ names_of_members more)) h.3
      ∙ ap (λ all. h.0.text ∷ all) (declarators_names s base more semicolon h.2 h.8) ∙ ap (map (λ (f : Field). f.name)) (sym h.7)

  fields_names : (s : Scope) (all : Trees.MemberDeclarations) (fields : List Field) → AreFields s all fields
      → map (λ x. x.text) (member_names all) ≡ map (λ f. f.name) fields
  fields_names s Trees.no_member_declarations fields h = ap (map (λ f. f.name)) (sym h)
  fields_names s (Trees.and_member_declaration specs ds semicolon more) fields h =
      map_append (λ (x : Spelling). x.text) (names_of_members ds) (member_names more)
      ∙ ap (λ all. all ++ map (λ (x : Spelling). x.text) (member_names more)) (declarators_names s h.0 ds semicolon h.1 h.6)
      ∙ ap (λ all. map (λ (f : Field). f.name) h.1 ++ all) (fields_names s more h.2 h.7)
      ∙ sym (map_append (λ (f : Field). f.name) h.1 h.2) ∙ ap (map (λ (f : Field). f.name)) (sym h.3)

  abbrev with_one_record : Lists → Record → Lists
  with_one_record c r = record { names = c.names; records = c.records ++ r ∷ []; objects = c.objects; functions = c.functions; mentions = c.mentions }

  record_after : (c : Lists) (r : Record) (tag : List ℕ) (end : ℕ) → Extends (part g c) g → slice_get g.records (length c.records) ≡ Some r
      → IsAfter g c (an_end tag end ∷ []) (with_one_record c r)
  record_after c r tag end p h =
      let z = next_split g.records c.records p.records.0 r p.records.1 h in
      record {
        extends = record {
          file = refl;
          tags = refl;
          ends = refl;
          numbered = refl;
          untagged = refl;
          names = p.names;
          records = z;
          mentions = p.mentions;
          types = p.types;
          objects = p.objects;
          functions = p.functions;
        };
        names = omega arith;
        records = omega (arith, length-append c.records (r ∷ []));
        objects = omega arith;
        functions = refl;
      }

  completed_back : (c : Lists) (r : Record) (at : ℕ) (names : List Spelling) → Extends (part g c) g → slice_get g.records (length c.records) ≡ Some r
      → IsNumbered g r.tag (length c.records) → Declaring.repeated [] names ≡ None
      → Declaring.completed_in (part g c) at names r ≡ Ok (structure (length c.records), part g (with_one_record c r))
  unfolding Declaring.completed_in
  completed_back c r at names p h n e =
      let z = next_after g.records c.records p.records.0 r p.records.1 h in
      let k = number_back g w ls r.tag (length c.records) n in
      let i = itself (length c.records) in
      let l = le-leb (size_of_record c.records r) 16777216 (w.records_small c.records z.0 r z.1) in
      rw (e, k, i, l) refl

  -- a tag of a structure is none of an enumeration
  definable_back : (s : Scope) (c : Lists) (at : ℕ) (x : Option Spelling) (o : Option Bool) → o ≢ Some true
      → Declaring.definable (moved s (part g c)) at x o ≡ None
  definable_back s c at None o h = refl
  definable_back s c at (Some x) None h = refl
  definable_back s c at (Some x) (Some true) h = absurd (h refl)
  definable_back s c at (Some x) (Some false) h = refl

  known_back : (s : Scope) (c : Lists) (at : ℕ) (x : Option Spelling) → IsTagOf g (tag_of_structure at x) false
      → Declaring.definable (moved s (part g c)) at x (Declaring.known_tag (moved s (part g c)) x) ≡ None
  known_back s c at None h = refl
  known_back s c at (Some x) h = definable_back s c at (Some x) (tag_at g.tags x.text x.from) (h x.from)

  text_same : (s : Scope) (c : Lists) (at : ℕ) (x : Option Spelling) → tag_text (moved s (part g c)) at x ≡ tag_text (whole g ls s) at x
  text_same s c at None = refl
  text_same s c at (Some x) = refl

  name_same : (s : Scope) (at : ℕ) (x : Option Spelling) → tag_text (whole g ls s) at x ≡ tag_name g.untagged at x
  name_same s at None = refl
  name_same s at (Some x) = refl

  struct_body_joined : (at : ℕ) (x : Option Spelling) (begin : ℕ) (all : Trees.MemberDeclarations) (end : ℕ) (s : Scope) (c l m : Lists)
      (fields : List Field) (t : CType)
      → s.is_inside ≡ false → Declaring.definable (moved s (part g c)) at x (Declaring.known_tag (moved s (part g c)) x) ≡ None
      → members all (moved s (part g c)) ≡ Ok (fields, part g l)
      → Declaring.completed_in (part g l) (tag_place at x) (member_names all)
      (record { tag = tag_text (whole g ls s) at x; place = place_in (whole g ls s) at; fields = fields })
      ≡ Ok (t, part g m)
      → specified (Trees.struct_body at x begin all end) (moved s (part g c)) ≡ Ok (t, part g m)
  unfolding specified
  struct_body_joined at x begin all end s c l m fields t e d a b =
      ap (λ i. cond i (refused R.Scope at)
      (Declaring.unless (Declaring.definable (moved s (part g c)) at x (Declaring.known_tag (moved s (part g c)) x)) (members all (moved s (part g c))
      >>= λ m. Declaring.completed_in m.1 (tag_place at x) (member_names all)
      (record { tag = tag_text (moved s (part g c)) at x; place = place_in (moved s (part g c)) at; fields = m.0 })))) e
      ∙ ap (λ o. Declaring.unless o (members all (moved s (part g c))
      >>= λ m. Declaring.completed_in m.1 (tag_place at x) (member_names all)
      (record { tag = tag_text (moved s (part g c)) at x; place = place_in (moved s (part g c)) at; fields = m.0 }))) d
      ∙ ap (λ r. r >>= λ m. Declaring.completed_in m.1 (tag_place at x) (member_names all)
      (record { tag = tag_text (moved s (part g c)) at x; place = place_in (moved s (part g c)) at; fields = m.0 })) a
      ∙ ap (λ tag. Declaring.completed_in (part g l) (tag_place at x) (member_names all)
      (record { tag = tag; place = place_in (whole g ls s) at; fields = fields })) (text_same s c at x)
      ∙ b

  abbrev body : Trees.MemberDeclarations → List ℕ → (right : ℕ) → List Event
  body all tag right = walk_of_members g.untagged all ++ an_end tag right ∷ []

  pub struct_body_complete : (at : ℕ) (x : Option Spelling) (begin : ℕ) (all : Trees.MemberDeclarations) (end : ℕ) → CompletesMembers all
      → CompletesSpecifier g w ls (Trees.struct_body at x begin all end)
  struct_body_complete at x begin all end i s c t f b h =
      let out : IsBefore g c (a_structure g.untagged at x ∷ seen false s.purpose (body all (tag_name g.untagged at x) end)) =
      subst (λ i. IsBefore g c (seen i s.purpose (a_structure g.untagged at x ∷ body all (tag_name g.untagged at x) end))) h.2 b in
      let inner : IsBefore g c (seen false s.purpose (body all (tag_name g.untagged at x) end)) = record { extends = out.extends; follows = out.follows.1 } in
      let own : IsBefore g c (seen s.is_inside s.purpose (walk_of_members g.untagged all)) =
      subst (λ i. IsBefore g c (seen i s.purpose (walk_of_members g.untagged all))) (sym h.2)
      (left_seen g false s.purpose c (walk_of_members g.untagged all) (an_end (tag_name g.untagged at x) end ∷ []) inner) in
      let z = i s c h.1.fields f own h.9 in
      let a : IsAfter g c (seen false s.purpose (walk_of_members g.untagged all)) z.lists =
      subst (λ i. IsAfter g c (seen i s.purpose (walk_of_members g.untagged all)) z.lists) h.2 z.after in
      let r = right_seen g false s.purpose c z.lists (walk_of_members g.untagged all) (an_end (tag_name g.untagged at x) end ∷ []) inner a in
      let e = r.follows.0 in
      let same : h.0 ≡ length z.lists.records =
      w.records_apart h.0 (length z.lists.records) h.1 e.0 h.5 e.1 (h.7 ∙ name_same s at x ∙ sym e.2) in
      let there = subst (λ k. slice_get g.records k ≡ Some h.1) same h.5 in
      let number : IsNumbered g h.1.tag (length z.lists.records) =
      subst (λ k. IsNumbered g h.1.tag k) same (subst (λ tag. IsNumbered g tag h.0) (sym h.7) h.4) in
      let names = repeated_none [] (member_names all) (λ j k z y p q. cc)
      (subst AreDifferent (sym (fields_names (whole g ls s) all h.1.fields h.9)) h.10) in
      let k = completed_back z.lists h.1 (tag_place at x) (member_names all) z.after.extends there number names in
      let made : Record = record { tag = tag_text (whole g ls s) at x; place = place_in (whole g ls s) at; fields = h.1.fields } in
      let is_made : record { tag = tag_text (whole g ls s) at x; place = place_in (whole g ls s) at; fields = h.1.fields } ≡ h.1 =
      made_is (tag_text (whole g ls s) at x) (place_in (whole g ls s) at) h.1 h.7 h.8 in
      let own_end = record_after z.lists h.1 (tag_name g.untagged at x) end z.after.extends there in
      let all_after = then_seen g false s.purpose c z.lists (with_one_record z.lists h.1) (walk_of_members g.untagged all)
      (an_end (tag_name g.untagged at x) end ∷ []) a own_end in
      record {
        lists = with_one_record z.lists h.1;
        is = struct_body_joined at x begin all end s c z.lists (with_one_record z.lists h.1) h.1.fields (structure (length z.lists.records)) h.2
            (known_back s c at x out.follows.0) z.is
            (ap (λ r. Declaring.completed_in (part g z.lists) (tag_place at x) (member_names all) r) is_made ∙ k)
            ∙ ap (λ t. ok (t, part g (with_one_record z.lists h.1))) (sym (h.3 ∙ ap structure same));
        after = subst (λ i. IsAfter g c (seen i s.purpose (a_structure g.untagged at x ∷ body all (tag_name g.untagged at x) end))
            (with_one_record z.lists h.1))
            (sym h.2)
            (record {
              extends = all_after.extends;
              names = all_after.names;
              records = all_after.records;
              objects = all_after.objects;
              functions = all_after.functions;
            });
      }
