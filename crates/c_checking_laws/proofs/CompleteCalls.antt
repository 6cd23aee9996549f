-- Calls, string literals, sizes and constants: the typed tree is the one that is found (C99 6.4.5, 6.5.2.2, 6.5.3.4, 6.6).
use Rattle.std.proofs.Common.{◌≡◌, ℕ, zero, suc, ◌≤◌, ◌<◌, true, false, List, [], ◌∷◌, ◌++◌, length, length-append, refl, sym, ap, ◌∙◌, subst, inl}
use Rattle.std.proofs.Common.{inr, arith}
use Rattle.std.proofs.lemmas.Bool.{and_parts, and_from, lt-ltb}
use Rattle.std.specs.Prelude.{◌⊎◌, nat_lt, IsSome, Option, Some, Ok, slice_get, map}
use Rattle.lay_base.specs.declared.place.Place.{Place}
use Rattle.c_types.specs.declared.ty.IntKind.{IntKind}
use Rattle.c_types.specs.declared.ty.IntKind.TheVariants.{Char}
use Rattle.c_types.specs.Types.{CType, CTypes, void, integer, pointer, array, function, structure, no_types, and_type}
use Rattle.c_types.specs.Layouts.{size_of}
use Rattle.c_types.specs.Objects.{is_object}
use Rattle.c_types.proofs.Growing.{layouts_stay}
use Rattle.c_tokens.specs.QuotedScan.{string_bytes}
use Rattle.c_ast.specs.declared.words.Spelling.{Spelling}
use Rattle.c_ast.specs.Trees
use Rattle.c_ast.specs.Places.{first}
use Rattle.c_typed.specs.declared.program.MentionKind.TheVariants.{Sizeof}
use Rattle.c_typed.specs.Trees as Typed
use Rattle.c_typed.specs.Constants.{ty}
use Rattle.c_typed.specs.Conversions.{is_function}
use Rattle.c_typed.specs.Typed.{IsTyped, AreArguments}
use Rattle.c_erasure.specs.Broken.{called_type, pointed_type}
use Rattle.c_erasure.specs.Erasure.{typed, IsTypedThing, Erases, AreValues, IsCall, IsLiteralFor, IsConstant, literal_of, literal_object, unmade, place_in}
use Rattle.c_erasure.specs.Noted.{Noted, Node, value, way, Expression, Path, Thing, an_object, a_value, a_function, a_function_at, a_library_function}
use Rattle.c_erasure.specs.Noted.{type_of, type_of_path, object_value}
use Rattle.c_erasure.specs.Scopes.{ALocal, FileScope, Scope, AnObject, Purpose, in_full, value_alone, type_alone, measured, for_value, ended, declared}
use Rattle.c_erasure.specs.Checking.Answers.{moved}
use Rattle.c_erasure.specs.Checking.Declaring.{mentions_in, literal_for, literal_in, constant_in}
use Rattle.c_erasure.specs.Checking.Finding.{value_at, constant_at, find, arguments}
use Rattle.c_checking_laws.proofs.Results.{ok}
use Rattle.c_checking_laws.proofs.Extends.{Extends}
use Rattle.c_checking_laws.proofs.Values.{type_same}
use Rattle.c_checking_laws.proofs.CompleteNodes
use Rattle.c_checking_laws.proofs.CompleteParts
use Rattle.c_checking_laws.proofs.CompleteParts.{typed_all}
use Rattle.c_checking_laws.proofs.CompleteWalk.{Event, seen, seen_measured, seen_for_value, walk, walk_of_all, a_literal}
use Rattle.c_checking_laws.proofs.CompletePart.{whole, Lists, part, IsWhole, IsBefore, IsAfter, Done, BlocksFit, blocks_stay, IsSound, IsComplete, value_typed}
use Rattle.c_checking_laws.proofs.CompletePart.{none_after, grown, complete_stays, mentioned}
use Rattle.c_checking_laws.proofs.CompletePart.{left_seen, right_seen, then_seen}
use Rattle.c_checking_laws.proofs.CompleteOperands.{Seen, Completes, operand, erased_sound}
use Rattle.c_checking_laws.proofs.CompleteExpressions.{by_thing, after_look, behind_look}

-- ---- what is called

same_pointer : (t u : CType) → pointer t ≡ pointer u → t ≡ u
same_pointer t u h = cc

no_number : (k : IntKind) (q : CType) → integer k ≡ pointer q → ⊥
no_number k q h = cc

no_function_object : (r : ℕ) (q : CType) → is_function q ≡ true → is_object r q ≡ true → ⊥
no_function_object r (function t all) f h = cc
no_function_object r void f h = cc
no_function_object r (integer k) f h = cc
no_function_object r (pointer t) f h = cc
no_function_object r (array t n) f h = cc
no_function_object r (structure k) f h = cc

-- an array has no functions as its elements
object_called : (p : Path) (u : CType) (e : Expression) (q : CType) (r : ℕ) → object_value p u ≡ Some e → type_of e ≡ pointer q → is_function q ≡ true
    → is_object r u ≡ true → pointed_type u ≡ Some q
object_called p (integer k) e q r v h f o =
    absurd (no_number k q (ap type_of (CompleteNodes.some_is _ e v) ∙ h))
object_called p (pointer t) e q r v h f o =
    ap (λ t. CompleteNodes.some t) (same_pointer t q (ap type_of (CompleteNodes.some_is _ e v) ∙ h))
object_called p (array t n) e q r v h f o =
    let s : t ≡ q = same_pointer t q (ap type_of (CompleteNodes.some_is _ e v) ∙ h) in
    absurd (no_function_object r q f (subst (λ t. is_object r t ≡ true) s (and_parts (nat_lt 0 n) (is_object r t) o).1))
object_called p void e q r v h f o = cc
object_called p (function t all) e q r v h f o = cc
object_called p (structure k) e q r v h f o = cc

module _ (g : FileScope) (w : IsWhole g) (ls : List ALocal) where
  -- ---- calls

  record CallParts (s : Scope) (f : Thing) (t : CType) (xs : Typed.Expressions Noted) : Type 0 where
    pub parameters : CTypes
    pub given : AreArguments (declared (whole g ls s)) parameters (typed_all xs)
    pub is_typed : IsTypedThing (whole g ls s) f
    pub called : (r : ℕ) → IsComplete g r f → called_type f ≡ Some (function t parameters)

  through : (e : Expression) (t : CType) (parameters : CTypes) → ty (typed e) ≡ pointer (function t parameters)
      → pointed_type (type_of e) ≡ Some (function t parameters)
  through e t parameters h = ap pointed_type (sym (type_same e) ∙ h)

  call_parts : (s : Scope) (f : Thing) (t : CType) (at : Place) (xs : Typed.Expressions Noted) (node : Node) → IsSound g f → IsCall f xs node
      → IsTyped (declared (whole g ls s)) (typed (value t at node)) → CallParts s f t xs
  call_parts s (a_function from k u) t at xs node o c h =
      let z = subst (λ node. IsTyped (declared (whole g ls s)) (typed (value t at node))) c h in
      record { parameters = z.0; given = z.2; is_typed = o; called = λ r k. sym o ∙ z.1 }
  call_parts s (a_library_function from which) t at xs node o c h =
      let z = subst (λ node. IsTyped (declared (whole g ls s)) (typed (value t at node))) c h in
      record { parameters = z.0; given = z.2; is_typed = tt; called = λ r k. ap (λ t. CompleteNodes.some t) z.1 }
  call_parts s (a_value e) t at xs node o c h =
      let z = subst (λ node. IsTyped (declared (whole g ls s)) (typed (value t at node))) c h in
      record { parameters = z.0; given = z.4; is_typed = z.1; called = λ r k. through e t z.0 z.3 }
  call_parts s (a_function_at e) t at xs node o c h =
      let z = subst (λ node. IsTyped (declared (whole g ls s)) (typed (value t at node))) c h in
      record { parameters = z.0; given = z.4; is_typed = (z.1, o.1); called = λ r k. through e t z.0 z.3 }
  call_parts s (an_object p) t at xs node o c h =
      let z = subst (λ node. IsTyped (declared (whole g ls s)) (typed (value t at node))) c.2 h in
      record {
        parameters = z.0;
        given = z.4;
        is_typed = value_typed g ls s (an_object p) c.0 tt c.1 z.1;
        called = λ r k. object_called p (type_of_path p) c.0 (function t z.0) r c.1 (sym (type_same c.0) ∙ z.3) refl k;
      }

  abbrev pub SeenAll : Scope → Trees.Arguments → List Event
  SeenAll s all = seen s.is_inside s.purpose (walk_of_all g.untagged all)

  abbrev pub CompletesAll : Trees.Arguments → Type 0
  CompletesAll all = (s : Scope) (c : Lists) (parameters : CTypes) (xs : Typed.Expressions Noted) (right : ℕ) → BlocksFit g (length c.records) s.blocks
      → IsBefore g c (SeenAll s all) → AreValues (whole g ls s) xs all → AreArguments (declared (whole g ls s)) parameters (typed_all xs)
      → Done g c (SeenAll s all) (arguments right parameters all (moved s (part g c))) xs

  pub no_arguments_complete : CompletesAll Trees.no_arguments
  unfolding arguments
  no_arguments_complete s c no_types xs right f b h t =
      record { lists = c; is = ap (λ xs. ok (xs, part g c)) (sym h); after = none_after g c [] b refl refl refl }
  no_arguments_complete s c (and_type u more) xs right f b h t =
      absurd (subst (λ xs. AreArguments (declared (whole g ls s)) (and_type u more) (typed_all xs)) h t)

  pub argument_complete : (comma : Option ℕ) (a : Trees.Expression) (more : Trees.Arguments) → Completes g w ls a → CompletesAll more
      → CompletesAll (Trees.and_argument comma a more)
  unfolding arguments
  argument_complete comma a more i j s c no_types xs right f b h t =
      absurd (subst (λ xs. AreArguments (declared (whole g ls s)) no_types (typed_all xs)) h.2 t)
  argument_complete comma a more i j s c (and_type u parameters) xs right f b h t =
      let q = subst (λ xs. AreArguments (declared (whole g ls s)) (and_type u parameters) (typed_all xs)) h.2 t in
      let m = operand g w ls a i s c h.0 f (left_seen g s.is_inside s.purpose c (walk g.untagged a) (walk_of_all g.untagged more) b) h.3 q.0 in
      let n = j s m.lists parameters h.1 right (blocks_stay g (length c.records) (length m.lists.records) s.blocks (grown m.after) f)
      (right_seen g s.is_inside s.purpose c m.lists (walk g.untagged a) (walk_of_all g.untagged more) b m.after) h.4 q.2 in
      let o = CompleteParts.argument_back (declared (whole g ls s)) (place_in (whole g ls s) (first a)) (first a) u h.0 m.left q.1 in
      record {
        lists = n.lists;
        is = rw (m.value_is, o, n.is) (ap (λ xs. ok (xs, part g n.lists)) (sym h.2));
        after = then_seen g s.is_inside s.purpose c m.lists n.lists (walk g.untagged a) (walk_of_all g.untagged more) m.after n.after;
      }

  pub call_complete : (a : Trees.Expression) (left : ℕ) (all : Trees.Arguments) (right : ℕ) → Completes g w ls a → CompletesAll all
      → Completes g w ls (Trees.call a left all right)
  unfolding find
  call_complete a left all right i j s c th f b h t = by_thing g w ls s c (Trees.call a left all right) th _ h.7
      (λ t.
      let sound = erased_sound g w ls a s (length c.records) f h.1 h.4 in
      let p = call_parts s h.1 h.0 (place_in (whole g ls s) (first a)) h.2 h.3 sound h.6 t in
      let z = i s c h.1 f (left_seen g s.is_inside s.purpose c (walk g.untagged a) (walk_of_all g.untagged all) b) h.4 p.is_typed in
      let n = j s z.done.lists p.parameters h.2 right (blocks_stay g (length c.records) (length z.done.lists.records) s.blocks (grown z.done.after) f)
      (right_seen g s.is_inside s.purpose c z.done.lists (walk g.untagged a) (walk_of_all g.untagged all) b z.done.after) h.5 p.given in
      let o = CompleteParts.signature_back (declared (whole g ls s)) (place_in (whole g ls s) (first a)) (first a) h.1 h.0 p.parameters
      (p.called (length z.done.lists.records) z.complete) in
      let q = CompleteParts.call_back (declared (whole g ls s)) (place_in (whole g ls s) (first a)) h.1 h.0 h.2 h.3 h.6 in
      record {
        done = record {
          lists = n.lists;
          is = rw (z.done.is, o, n.is, q) refl;
          after = then_seen g s.is_inside s.purpose c z.done.lists n.lists (walk g.untagged a) (walk_of_all g.untagged all) z.done.after n.after;
        };
        complete = tt;
      }) t

  -- ---- integer constant expressions

  pub constant_complete : (a : Trees.Expression) → Completes g w ls a → (s : Scope) (c : Lists) (kind : IntKind) (v : ℕ)
      → BlocksFit g (length c.records) s.blocks
      → IsBefore g c (seen s.is_inside s.purpose (seen false value_alone (walk g.untagged a))) → IsConstant (Erases a) (whole g ls s) kind v
      → Done g c (seen s.is_inside s.purpose (seen false value_alone (walk g.untagged a)))
      (constant_at (first a) (value_at (first a) (find a (for_value (moved s (part g c)))))) (kind, v)
  unfolding constant_in
  constant_complete a i s c kind v f b h =
      let e = seen_for_value s.is_inside s.purpose (walk g.untagged a) in
      let m = operand g w ls a i (for_value s) c h.0 f (subst (IsBefore g c) e b) h.1 h.2 in
      let n : value_at (first a) (find a (for_value (moved s (part g c)))) ≡ Ok (h.0, part g m.lists) = m.value_is ∙ ap (λ x. ok (x, part g m.lists)) h.3 in
      record {
        lists = m.lists;
        is = ap (constant_at (first a)) n ∙ rw (h.4, h.5) refl;
        after = subst (λ w. IsAfter g c w m.lists) (sym e) m.after;
      }

  -- ---- the operand of a `sizeof`

  pub size_same : (c : Lists) (t : CType) → Extends (part g c) g → is_object (length c.records) t ≡ true → size_of c.records t ≡ size_of g.records t
  size_same c t p o = sym (ap (λ all. size_of all t) p.records.1 ∙ (layouts_stay c.records p.records.0).sizes t o)

  pub sizeof_complete : (at : ℕ) (a : Trees.Expression) → Completes g w ls a → Completes g w ls (Trees.sizeof_expression at a)
  unfolding find
  sizeof_complete at a i s c th f b h t = by_thing g w ls s c (Trees.sizeof_expression at a) th _ h.2.2
      (λ t.
      let e = seen_measured s.is_inside s.purpose (walk g.untagged a) in
      let inner = behind_look g w ls c at (seen s.is_inside s.purpose (seen false value_alone (walk g.untagged a))) b in
      let z = i (measured s) c h.1.0 f (subst (IsBefore g c) e inner) h.1.1 h.1.2 in
      let d = z.done.lists in
      let k : ended g.ends at ≤ length d.records = omega (arith, b.follows.0, z.done.after.records) in
      let o = complete_stays (ended g.ends at) (length d.records) h.0 k h.2.0 in
      let same = size_same d h.0 z.done.after.extends o in
      let l : size_of d.records h.0 ≤ 16777216 = omega (arith, same, h.2.3) in
      let n = CompleteParts.measured_back d.records (ended g.ends at) at (first a) h.1.0 h.0 h.1.3 h.2.0 o l in
      let m = mentioned g ls s c d (Seen g w ls s (Trees.sizeof_expression at a)) (mentions_in (part g d)) Sizeof h.0 at h.2.1
      (after_look g w ls c d at (seen s.is_inside s.purpose (seen false value_alone (walk g.untagged a)))
      (subst (λ w. IsAfter g c w d) (sym e) z.done.after)) in
      record {
        done = record { lists = m.0; is = rw (z.done.is, n, m.1, same) refl; after = m.3 };
        complete = tt;
      }) t

  -- ---- string literals

  pushed : {X : Type 0} (xs : List X) (y : X) (k : ℕ) (x : X) → slice_get (xs ++ y ∷ []) k ≡ Some x → (slice_get xs k ≡ Some x) ⊎ ((k ≡ length xs) × (y ≡ x))
  pushed [] y zero x h = inr (refl, CompleteNodes.some_is y x h)
  pushed [] y (suc k) x h = cc
  pushed (z ∷ xs) y zero x h = inl h
  pushed (z ∷ xs) y (suc k) x h = later (pushed xs y k x h)
    where
      later : (slice_get xs k ≡ Some x) ⊎ ((k ≡ length xs) × (y ≡ x)) → (slice_get xs k ≡ Some x) ⊎ ((suc k ≡ suc (length xs)) × (y ≡ x))
      later (inl e) = inl e
      later (inr e) = inr (ap suc e.0, e.1)

  map_push : {X Y : Type 0} (f : X → Y) (xs : List X) (y : X) → map f (xs ++ y ∷ []) ≡ map f xs ++ f y ∷ []
  map_push f [] y = refl
  map_push f (x ∷ xs) y = ap (λ all. f x ∷ all) (map_push f xs y)

  map_length : {X Y : Type 0} (f : X → Y) (xs : List X) → length (map f xs) ≡ length xs
  map_length f [] = refl
  map_length f (x ∷ xs) = ap suc (map_length f xs)

  mapped_at : {X Y : Type 0} (f : X → Y) (xs : List X) (k : ℕ) (x : X) → slice_get xs k ≡ Some x → slice_get (map f xs) k ≡ Some (f x)
  mapped_at f [] k x h = cc
  mapped_at f (y ∷ xs) zero x h = ap (λ y. CompleteNodes.some (f y)) (CompleteNodes.some_is y x h)
  mapped_at f (y ∷ xs) (suc k) x h = mapped_at f xs k x h

  abbrev pub with_one_object : Lists → AnObject → Lists
  with_one_object c o = record { names = c.names; records = c.records; objects = c.objects ++ o ∷ []; functions = c.functions; mentions = c.mentions }

  pub object_extends : (c : Lists) (o : AnObject) → Extends (part g c) g → slice_get g.objects (length c.objects) ≡ Some o
      → Extends (part g (with_one_object c o)) g
  object_extends c o p h = record {
    file = refl;
    tags = refl;
    ends = refl;
    numbered = refl;
    untagged = refl;
    names = p.names;
    records = p.records;
    mentions = p.mentions;
    types = λ n t e. by_type n t (pushed (map (λ o. o.ty) c.objects) o.ty n t (subst (λ all. slice_get all n ≡ Some t) (map_push (λ o. o.ty) c.objects o) e));
    objects = λ n x e i. by_place n x i (pushed c.objects o n x e);
    functions = p.functions;
  }
    where
      by_type : (n : ℕ) (t : CType) → (slice_get (map (λ o. o.ty) c.objects) n ≡ Some t) ⊎ ((n ≡ length (map (λ o. o.ty) c.objects)) × (o.ty ≡ t))
          → slice_get (map (λ o. o.ty) g.objects) n ≡ Some t
      by_type n t (inl e) = p.types n t e
      by_type n t (inr e) =
          let k : n ≡ length c.objects = e.0 ∙ map_length (λ (o : AnObject). o.ty) c.objects in
          subst (λ n. slice_get (map (λ o. o.ty) g.objects) n ≡ Some t) (sym k)
          (mapped_at (λ (o : AnObject). o.ty) g.objects (length c.objects) o h ∙ ap (λ t. CompleteNodes.some t) e.1)

      by_place : (n : ℕ) (x : AnObject) → IsSome x.initial → (slice_get c.objects n ≡ Some x) ⊎ ((n ≡ length c.objects) × (o ≡ x))
          → slice_get g.objects n ≡ Some x
      by_place n x i (inl e) = p.objects n x e i
      by_place n x i (inr e) = subst (λ n. slice_get g.objects n ≡ Some x) (sym e.0) (h ∙ ap (λ o. CompleteNodes.some o) e.1)

  -- a string has its last zero
  literal_length : (all : List Spelling) → 0 < length (literal_of all)
  literal_length [] = omega arith
  literal_length (x ∷ more) =
      let l = literal_length more in
      let e = length-append (string_bytes x.text) (literal_of more) in
      omega (arith, l, e)

  chars_complete : (r : ℕ) (all : List Spelling) → is_object r (array (integer Char) (length (literal_of all))) ≡ true
  chars_complete r all = and_from (nat_lt 0 (length (literal_of all))) true (lt-ltb 0 (length (literal_of all)) (literal_length all)) refl

  abbrev the_literal : Scope → List Spelling → AnObject
  the_literal s all = literal_object (place_in (whole g ls s) (first (Trees.texts all))) (literal_of all)

  abbrev literal_thing : Scope → List Spelling → ℕ → Thing
  literal_thing s all n = an_object (way (array (integer Char) (length (literal_of all))) (place_in (whole g ls s) (first (Trees.texts all))) (Typed.object n))

  abbrev unmade_thing : Scope → List Spelling → Thing
  unmade_thing s all = unmade (place_in (whole g ls s) (first (Trees.texts all))) (array (integer Char) (length (literal_of all)))

  record FoundLiteral (s : Scope) (c : Lists) (p : Purpose) (all : List Spelling) (th : Thing) : Type 0 where
    pub done : Done g c (seen s.is_inside p (a_literal (first (Trees.texts all)) ∷ []))
        (literal_for p (moved s (part g c)) (place_in (whole g ls s) (first (Trees.texts all))) (literal_of all)) th
    pub complete : IsComplete g (length done.lists.records) th

  literal_made : (all : List Spelling) (s : Scope) (c : Lists) → IsBefore g c (a_literal (first (Trees.texts all)) ∷ [])
      → slice_get g.objects (length c.objects) ≡ Some (the_literal s all) → FoundLiteral s c in_full all (literal_thing s all (length c.objects))
  literal_made all s c b there = record {
    done = record {
      lists = with_one_object c (the_literal s all);
      is = refl;
      after = record {
        extends = object_extends c (the_literal s all) b.extends there;
        names = omega arith;
        records = omega arith;
        objects = omega (arith, length-append c.objects (the_literal s all ∷ []));
        functions = refl;
      };
    };
    complete = chars_complete (length c.records) all;
  }

  literal_unmade : (all : List Spelling) (s : Scope) (c : Lists) → IsBefore g c [] → FoundLiteral s c value_alone all (unmade_thing s all)
  literal_unmade all s c b = record {
    done = record { lists = c; is = refl; after = none_after g c [] b refl refl refl };
    complete = chars_complete (length c.records) all;
  }

  literal_unmeasured : (all : List Spelling) (s : Scope) (c : Lists) → IsBefore g c [] → FoundLiteral s c type_alone all (unmade_thing s all)
  literal_unmeasured all s c b = record {
    done = record { lists = c; is = refl; after = none_after g c [] b refl refl refl };
    complete = chars_complete (length c.records) all;
  }

  literal_found : (all : List Spelling) (s : Scope) (c : Lists) (th : Thing) (p : Purpose)
      → IsBefore g c (seen s.is_inside p (a_literal (first (Trees.texts all)) ∷ []))
      → IsLiteralFor p (whole g ls s) (place_in (whole g ls s) (first (Trees.texts all))) (literal_of all) th → FoundLiteral s c p all th
  literal_found all s c th in_full b h =
      let o = b.follows.0 in
      let n : h.0 ≡ length c.objects = w.objects_apart h.0 (length c.objects) (the_literal s all) o.0 h.2 o.1 (sym o.2) in
      let there = subst (λ n. slice_get g.objects n ≡ Some (the_literal s all)) n h.2 in
      subst (FoundLiteral s c in_full all) (sym (h.1 ∙ ap (literal_thing s all) n)) (literal_made all s c b there)
  literal_found all s c th value_alone b h = subst (FoundLiteral s c value_alone all) (sym h) (literal_unmade all s c b)
  literal_found all s c th type_alone b h = subst (FoundLiteral s c type_alone all) (sym h) (literal_unmeasured all s c b)

  pub texts_complete : (all : List Spelling) → Completes g w ls (Trees.texts all)
  unfolding find literal_in
  texts_complete all s c th f b h t = let z = literal_found all s c th s.purpose b h in record { done = z.done; complete = z.complete }
