-- Declarators, type names and parameters: the types that they make are those that are found (C99 6.7.5, 6.7.6).
use Rattle.std.proofs.Common.{◌≡◌, ℕ, zero, suc, ◌≤◌, Bool, true, false, List, [], ◌∷◌, ◌++◌, length, refl, sym, ap, ◌∙◌, subst, cond, inl, inr, arith}
use Rattle.std.proofs.lemmas.Bool.{and_from, lt-ltb, le-leb}
use Rattle.std.specs.Prelude.{◌⊎◌, nat_lt, ℤ, pos, Option, Some, None, Ok}
use Rattle.c_types.specs.Types.{CType, CTypes, void, integer, pointer, array, function, structure, and_type, Record}
use Rattle.c_types.specs.Layouts.{size_of}
use Rattle.c_types.specs.Objects.{is_object, parts}
use Rattle.c_ast.specs.declared.words.Spelling.{Spelling}
use Rattle.c_ast.specs.Trees
use Rattle.c_ast.specs.Places.{first, first_specifiers, first_declarator}
use Rattle.c_typed.specs.declared.program.MentionKind.TheVariants.{Named, Sizeof}
use Rattle.c_typed.specs.Conversions.{is_scalar, number_of}
use Rattle.c_erasure.specs.Declarators.{Shape, closed, open_array, parameter_type, is_name, declared_name}
use Rattle.c_erasure.specs.Erasure.{IsTypeName, IsOne, IsBase, Declares, AreParameters, AreListed, IsNew, place_of_name, with_parameter_if_named, place_in}
use Rattle.c_erasure.specs.Scopes.{ALocal, FileScope, Scope, Bound, Entity, in_full, value_alone, inside, ended, declared, IsMentioned, innermost}
use Rattle.c_erasure.specs.Scopes.{declared_in, with_name, with_parameter, a_parameter, or_else, defines}
use Rattle.std.specs.Option.{option_map}
use Rattle.std.specs.Str.{bytes_eq}
use Rattle.c_erasure.specs.Specifiers.{Storage, same_words, no_storage, is_register, storage_of, types_among, no_words}
use Rattle.c_erasure.specs.Checking.Answers.{Answer, ◌>>=◌, with_file, moved}
use Rattle.c_erasure.specs.Checking.Declaring.{with_mention, mentions_in, Derivation, to_pointer, to_array, to_open_array, to_function, small, element}
use Rattle.c_erasure.specs.Checking.Declaring.{result_type, derived}
use Rattle.c_erasure.specs.Checking.Declaring.{length_of_number, length_value, closed_at, by_words, by_one, no_type, base_of_words, base_among, base_kind}
use Rattle.c_erasure.specs.Checking.Declaring.{parameter_storage, new_here, new_if_named, scalar_parameter}
use Rattle.c_erasure.specs.Checking.Finding.{type_of_derived, base_type, find, type_name, one_of, derivations, array_step, parameter_list, parameters}
use Rattle.c_checking_laws.proofs.Results.{ok}
use Rattle.c_checking_laws.proofs.Extends.{Extends}
use Rattle.c_checking_laws.proofs.CompleteNodes
use Rattle.c_checking_laws.proofs.CompleteParts
use Rattle.c_checking_laws.proofs.CompleteWalk.{Event, seen, seen_inside, walk, walk_of_type, walk_of_specifiers, walk_of_declarator}
use Rattle.c_checking_laws.proofs.CompleteWalk.{walk_of_parameter_list, walk_of_parameters, a_look}
use Rattle.c_checking_laws.proofs.CompletePart.{whole, Lists, part, IsFitFor, IsWhole, IsBefore, IsAfter, Done, BlocksFit, blocks_stay, none_after, grown}
use Rattle.c_checking_laws.proofs.CompletePart.{complete_stays, mentioned}
use Rattle.c_checking_laws.proofs.CompletePart.{left_seen, right_seen, then_seen}
use Rattle.c_checking_laws.proofs.CompleteOperands.{Seen, Completes, operand}
use Rattle.c_checking_laws.proofs.CompleteExpressions.{by_thing, after_look, behind_look}
use Rattle.c_checking_laws.proofs.CompleteCalls.{constant_complete, size_same}

-- ---- steps

pub small_back : (records : List Record) (at : ℕ) (t : CType) → size_of records t ≤ 16777216 → parts t ≤ 1024 → small records at t ≡ Ok t
small_back records at t b p =
    let x = le-leb (size_of records t) 16777216 b in
    let y = le-leb (parts t) 1024 p in
    rw (x, y) refl

element_back : (records : List Record) (count at : ℕ) (t : CType) → is_object count t ≡ true → is_object (length records) t ≡ true
    → element records count at t ≡ Ok t
element_back records count at t c l = rw (c, l) refl

result_back : (at : ℕ) (t : CType) → (is_scalar t ≡ true) ⊎ (t ≡ void) → result_type at t ≡ Ok t
result_back at (integer kind) h = refl
result_back at (pointer t) h = refl
result_back at void h = refl
result_back at (array t n) (inl h) = cc
result_back at (array t n) (inr h) = cc
result_back at (function t all) (inl h) = cc
result_back at (function t all) (inr h) = cc
result_back at (structure r) (inl h) = cc
result_back at (structure r) (inr h) = cc

length_back : (at n : ℕ) (z : ℤ) → z ≡ pos n → 1 ≤ n → length_of_number at z ≡ Ok n
length_back at zero z e l = absurd (omega (arith, l))
length_back at (suc n) z e l = ap (length_of_number at) e

module _ (g : FileScope) (w : IsWhole g) (ls : List ALocal) where
  abbrev pub SeenDeclarator : Scope → Trees.Declarator → List Event
  SeenDeclarator s d = seen s.is_inside s.purpose (walk_of_declarator g.untagged d)

  pub record FoundDeclarator (s : Scope) (c : Lists) (d : Trees.Declarator) (t : CType) (shape : Shape) : Type 0 where
    pub lists : Lists
    pub steps : List Derivation
    pub is : derivations d (moved s (part g c)) ≡ Ok (steps, part g lists)
    pub after : IsAfter g c (SeenDeclarator s d) lists
    -- over all records that are complete then, and more
    pub derive : (e : Lists) → Extends (part g e) g → length lists.records ≤ length e.records → derived e.records steps t ≡ Ok shape

  abbrev pub CompletesDeclarator : Trees.Declarator → Type 0
  CompletesDeclarator d = (s : Scope) (c : Lists) (t : CType) (shape : Shape) → BlocksFit g (length c.records) s.blocks → IsBefore g c (SeenDeclarator s d)
      → Declares (whole g ls s) d t shape → FoundDeclarator s c d t shape

  pub nothing_complete : CompletesDeclarator Trees.nothing
  unfolding derivations derived
  nothing_complete s c t shape f b h = record {
    lists = c;
    steps = [];
    is = refl;
    after = none_after g c [] b refl refl refl;
    derive = λ e p l. ap ok (sym h);
  }

  pub named_declarator_complete : (x : Spelling) → CompletesDeclarator (Trees.named x)
  unfolding derivations derived
  named_declarator_complete x s c t shape f b h = record {
    lists = c;
    steps = [];
    is = refl;
    after = none_after g c [] b refl refl refl;
    derive = λ e p l. ap ok (sym h);
  }

  pub pointer_complete : (at : ℕ) (consts : List ℕ) (d : Trees.Declarator) → CompletesDeclarator d → CompletesDeclarator (Trees.pointer at consts d)
  unfolding derivations derived
  pointer_complete at consts d i s c t shape f b h =
      let z = i s c (pointer t) shape f b h.1 in
      record {
        lists = z.lists;
        steps = to_pointer at ∷ z.steps;
        is = rw (z.is) refl;
        after = z.after;
        derive = λ e p l.
            let k = small_back e.records at (pointer t) h.0.bytes h.0.parts in
            ap (λ r. r >>= λ u. derived e.records z.steps u) k ∙ z.derive e p l;
      }

  pub enclosed_complete : (left : ℕ) (d : Trees.Declarator) (right : ℕ) → CompletesDeclarator d → CompletesDeclarator (Trees.enclosed left d right)
  unfolding derivations
  enclosed_complete left d right i s c t shape f b h =
      let z = i s c t shape f b h in
      record { lists = z.lists; steps = z.steps; is = z.is; after = z.after; derive = z.derive }

  pub array_complete : (d : Trees.Declarator) (left : ℕ) (a : Trees.Expression) (right : ℕ) → CompletesDeclarator d → Completes g w ls a
      → CompletesDeclarator (Trees.array d left (Trees.some_expression a) right)
  unfolding derivations array_step derived
  array_complete d left a right i j s c t shape f b h =
      let u = walk_of_declarator g.untagged d in
      let v = a_look left ∷ seen false value_alone (walk g.untagged a) in
      let z = i s c (array t h.2) shape f
      (left_seen g s.is_inside s.purpose c (walk_of_declarator g.untagged d) (a_look left ∷ seen false value_alone (walk g.untagged a)) b) h.8 in
      let r = right_seen g s.is_inside s.purpose c z.lists (walk_of_declarator g.untagged d) (a_look left ∷ seen false value_alone (walk g.untagged a)) b
      z.after in
      let asked = r.follows.0 in
      let inner = behind_look g w ls z.lists left (seen s.is_inside s.purpose (seen false value_alone (walk g.untagged a))) r in
      let m = constant_complete g w ls a j s z.lists h.0 h.1 (blocks_stay g (length c.records) (length z.lists.records) s.blocks (grown z.after) f) inner h.3 in
      let n : length_value (first a) (h.0, h.1) ≡ Ok h.2 = length_back (first a) h.2 (number_of h.0 h.1) h.4 h.5 in
      let k : length z.lists.records ≤ length m.lists.records = grown m.after in
      record {
        lists = m.lists;
        steps = to_array (ended g.ends left) left h.2 ∷ z.steps;
        is = rw (z.is, m.is, n) refl;
        after = then_seen g s.is_inside s.purpose c z.lists m.lists (walk_of_declarator g.untagged d)
            (a_look left ∷ seen false value_alone (walk g.untagged a)) z.after
            (after_look g w ls z.lists m.lists left (seen s.is_inside s.purpose (seen false value_alone (walk g.untagged a))) m.after);
        derive = λ e p l.
            let o : is_object (length e.records) t ≡ true = complete_stays (ended g.ends left) (length e.records) t (omega (arith, asked, k, l)) h.6 in
            let q : is_object (length e.records) (array t h.2)
            ≡ true = and_from (nat_lt 0 h.2) (is_object (length e.records) t) (lt-ltb 0 h.2 (omega (arith, h.5))) o in
            let same = size_same g w ls e (array t h.2) p q in
            let bytes = h.7.bytes in
            let x = element_back e.records (ended g.ends left) left t h.6 o in
            let y = small_back e.records left (array t h.2) (omega (arith, same, bytes)) h.7.parts in
            ap (λ r. r >>= λ x. small e.records left (array x h.2) >>= λ u. derived e.records z.steps u) x
            ∙ ap (λ r. r >>= λ u. derived e.records z.steps u) y ∙ z.derive e p (omega (arith, k, l));
      }

  -- a name, in parentheses or not
  name_steps : (d : Trees.Declarator) (s : Scope) → is_name d ≡ true → derivations d s ≡ Ok ([], s.file)
  unfolding derivations
  name_steps Trees.nothing s h = refl
  name_steps (Trees.named x) s h = refl
  name_steps (Trees.enclosed left d right) s h = name_steps d s h
  name_steps (Trees.pointer at consts d) s h = cc
  name_steps (Trees.array d left number right) s h = cc
  name_steps (Trees.function d left all right) s h = cc

  name_walk : (d : Trees.Declarator) → is_name d ≡ true → walk_of_declarator g.untagged d ≡ []
  name_walk Trees.nothing h = refl
  name_walk (Trees.named x) h = refl
  name_walk (Trees.enclosed left d right) h = name_walk d h
  name_walk (Trees.pointer at consts d) h = cc
  name_walk (Trees.array d left number right) h = cc
  name_walk (Trees.function d left all right) h = cc

  pub open_array_complete : (d : Trees.Declarator) (left right : ℕ) → CompletesDeclarator (Trees.array d left Trees.no_expression right)
  unfolding derivations array_step derived
  open_array_complete d left right s c t shape f b h =
      let e : walk_of_declarator g.untagged (Trees.array d left Trees.no_expression right)
      ≡ a_look left ∷ [] = ap (λ u. u ++ a_look left ∷ []) (name_walk d h.1) in
      let r : IsBefore g c (a_look left ∷ []) = subst (λ u. IsBefore g c (seen s.is_inside s.purpose u)) e b in
      let asked = r.follows.0 in
      let n = name_steps d (moved s (part g c)) h.1 in
      record {
        lists = c;
        steps = to_open_array (ended g.ends left) left ∷ [];
        is = rw (n) refl;
        after = subst (λ u. IsAfter g c (seen s.is_inside s.purpose u) c) (sym e) (none_after g c (a_look left ∷ []) r refl refl refl);
        derive = λ e p l.
            let o : is_object (length e.records) t ≡ true = complete_stays (ended g.ends left) (length e.records) t (omega (arith, asked, l)) h.0 in
            let x = element_back e.records (ended g.ends left) left t h.0 o in
            ap (λ r. r >>= λ e. ok (open_array e)) x ∙ ap ok (sym h.2);
      }

  -- ---- parameters

  abbrev pub CompletesParameterList : Trees.ParameterList → Type 0
  CompletesParameterList all = (s : Scope) (c : Lists) (types : CTypes) → s.is_inside ≡ true → BlocksFit g (length c.records) s.blocks
      → IsBefore g c (seen true s.purpose (walk_of_parameter_list g.untagged all)) → AreParameters (whole g ls s) all types
      → Done g c (seen true s.purpose (walk_of_parameter_list g.untagged all)) (parameter_list all (moved s (part g c))) types

  pub function_complete : (d : Trees.Declarator) (left : ℕ) (all : Trees.ParameterList) (right : ℕ) → CompletesDeclarator d → CompletesParameterList all
      → CompletesDeclarator (Trees.function d left all right)
  unfolding derivations derived
  function_complete d left all right i j s c t shape f b h =
      let z = i s c (function t h.0) shape f
      (left_seen g s.is_inside s.purpose c (walk_of_declarator g.untagged d) (seen true in_full (walk_of_parameter_list g.untagged all)) b) h.4 in
      let r = right_seen g s.is_inside s.purpose c z.lists (walk_of_declarator g.untagged d) (seen true in_full (walk_of_parameter_list g.untagged all)) b
      z.after in
      let e = seen_inside s.is_inside s.purpose (walk_of_parameter_list g.untagged all) in
      let m = j (inside s) z.lists h.0 refl (blocks_stay g (length c.records) (length z.lists.records) s.blocks (grown z.after) f)
      (subst (IsBefore g z.lists) e r) h.1 in
      let k : length z.lists.records ≤ length m.lists.records = grown m.after in
      record {
        lists = m.lists;
        steps = to_function left h.0 ∷ z.steps;
        is = rw (z.is, m.is) refl;
        after = then_seen g s.is_inside s.purpose c z.lists m.lists (walk_of_declarator g.untagged d)
            (seen true in_full (walk_of_parameter_list g.untagged all)) z.after
            (subst (λ w. IsAfter g z.lists w m.lists) (sym e) m.after);
        derive = λ e p l.
            let x = result_back left t h.2 in
            let y = small_back e.records left (pointer (function t h.0)) h.3.bytes h.3.parts in
            ap (λ r. r >>= λ r. small e.records left (pointer (function r h.0)) >>= λ u. derived e.records z.steps (function r h.0)) x
            ∙ ap (λ r. r >>= λ u. derived e.records z.steps (function t h.0)) y ∙ z.derive e p (omega (arith, k, l));
      }

  pub void_complete : (at : ℕ) → CompletesParameterList (Trees.void_alone at)
  unfolding parameter_list
  void_complete at s c types i f b h = record { lists = c; is = ap (λ types. ok (types, part g c)) (sym h); after = none_after g c [] b refl refl refl }

  abbrev pub CompletesParameters : Trees.Parameters → Type 0
  CompletesParameters all = (s : Scope) (c : Lists) (types : CTypes) → s.is_inside ≡ true → BlocksFit g (length c.records) s.blocks
      → IsBefore g c (seen true s.purpose (walk_of_parameters g.untagged all)) → AreListed (whole g ls s) all types
      → Done g c (seen true s.purpose (walk_of_parameters g.untagged all)) (parameters all (moved s (part g c))) types

  pub listed_complete : (all : Trees.Parameters) → CompletesParameters all → CompletesParameterList (Trees.listed all)
  unfolding parameter_list
  listed_complete all i s c types e f b h = let z = i s c types e f b h in record { lists = z.lists; is = z.is; after = z.after }

  pub no_parameters_complete : CompletesParameters Trees.no_parameters
  unfolding parameters
  no_parameters_complete s c types i f b h = record { lists = c; is = ap (λ types. ok (types, part g c)) (sym h); after = none_after g c [] b refl refl refl }

  -- ---- the type that specifiers name

  abbrev pub SeenSpecifiers : Scope → Trees.Specifiers → List Event
  SeenSpecifiers s specs = seen s.is_inside s.purpose (walk_of_specifiers g.untagged specs)

  abbrev pub CompletesOne : Trees.Specifiers → Type 0
  CompletesOne specs = (s : Scope) (c : Lists) (t : CType) → BlocksFit g (length c.records) s.blocks → IsBefore g c (SeenSpecifiers s specs)
      → IsOne (whole g ls s) specs t → Done g c (SeenSpecifiers s specs) (one_of specs (moved s (part g c))) t

  -- words alone declare nothing
  pub words_walk : (specs : Trees.Specifiers) → types_among specs ≡ [] → walk_of_specifiers g.untagged specs ≡ []
  words_walk Trees.no_specifiers h = refl
  words_walk (Trees.and_specifier (Trees.plain word at) more) h = words_walk more h
  words_walk (Trees.and_specifier (Trees.typename x) more) h = cc
  words_walk (Trees.and_specifier (Trees.struct_named at x) more) h = cc
  words_walk (Trees.and_specifier (Trees.struct_body at x left all right) more) h = cc
  words_walk (Trees.and_specifier (Trees.enum_named at x) more) h = cc
  words_walk (Trees.and_specifier (Trees.enum_body at x left all comma right) more) h = cc

  one_among : (specs : Trees.Specifiers) (s : Scope) (t : CType) → IsOne s specs t → (x : Trees.Specifier) × (types_among specs ≡ x ∷ [])
  one_among Trees.no_specifiers s t h = absurd h
  one_among (Trees.and_specifier (Trees.plain word at) more) s t h = one_among more s t h
  one_among (Trees.and_specifier (Trees.typename x) more) s t h = (Trees.typename x, ap (λ all. Trees.typename x ∷ all) h.1)
  one_among (Trees.and_specifier (Trees.struct_named at x) more) s t h = (Trees.struct_named at x, ap (λ all. Trees.struct_named at x ∷ all) h.1)
  one_among (Trees.and_specifier (Trees.struct_body at x left all right) more) s t h =
      (Trees.struct_body at x left all right, ap (λ z. Trees.struct_body at x left all right ∷ z) h.1)
  one_among (Trees.and_specifier (Trees.enum_named at x) more) s t h = (Trees.enum_named at x, ap (λ all. Trees.enum_named at x ∷ all) h.1)
  one_among (Trees.and_specifier (Trees.enum_body at x left all comma right) more) s t h =
      (Trees.enum_body at x left all comma right, ap (λ z. Trees.enum_body at x left all comma right ∷ z) h.1)

  pub base_complete : (specs : Trees.Specifiers) → CompletesOne specs → (s : Scope) (c : Lists) (t : CType) → BlocksFit g (length c.records) s.blocks
      → IsBefore g c (SeenSpecifiers s specs) → IsBase (IsOne (whole g ls s) specs) specs t
      → Done g c (SeenSpecifiers s specs) (base_type (base_kind specs) (first_specifiers specs) (part g c) (one_of specs (moved s (part g c)))) t
  base_complete specs i s c t f b (inl h) =
      let k : base_kind specs ≡ by_words t = ap (λ all. base_among all specs) h.0 ∙ ap base_of_words h.1 in
      let e = words_walk specs h.0 in
      record {
        lists = c;
        is = ap (λ k. base_type k (first_specifiers specs) (part g c) (one_of specs (moved s (part g c)))) k;
        after = subst (λ u. IsAfter g c (seen s.is_inside s.purpose u) c) (sym e)
            (none_after g c [] (subst (λ u. IsBefore g c (seen s.is_inside s.purpose u)) e b) refl refl refl);
      }
  base_complete specs i s c t f b (inr h) =
      let x = one_among specs (whole g ls s) t h.1 in
      let z = i s c t f b h.1 in
      let k : base_kind specs ≡ by_one = ap (λ all. base_among all specs) x.1 ∙ ap (λ v. cond (same_words v no_words) by_one no_type) h.0 in
      record {
        lists = z.lists;
        is = ap (λ k. base_type k (first_specifiers specs) (part g c) (one_of specs (moved s (part g c)))) k ∙ z.is;
        after = z.after;
      }

  -- ---- type names

  abbrev pub SeenType : Scope → Trees.TypeName → List Event
  SeenType s n = seen s.is_inside s.purpose (walk_of_type g.untagged n)

  abbrev pub CompletesType : Trees.TypeName → Type 0
  CompletesType n = (s : Scope) (c : Lists) (t : CType) → BlocksFit g (length c.records) s.blocks → IsBefore g c (SeenType s n)
      → IsTypeName (whole g ls s) n t → IsMentioned (whole g ls s) Named t (place_of_name n) → Done g c (SeenType s n) (type_name n (moved s (part g c))) t

  pub closed_back : (at : ℕ) (e : Lists) (steps : List Derivation) (base t : CType) → derived e.records steps base ≡ Ok (closed t)
      → type_of_derived at (part g e) steps base ≡ Ok t
  closed_back at e steps base t h = ap (λ r. r >>= λ shape. closed_at at shape) h

  pub type_complete : (specs : Trees.Specifiers) (d : Trees.Declarator) → CompletesOne specs → CompletesDeclarator d → CompletesType (Trees.type_name specs d)
  unfolding type_name
  type_complete specs d i j s c t f b h m =
      let z = base_complete specs i s c h.0 f (left_seen g s.is_inside s.purpose c (walk_of_specifiers g.untagged specs) (walk_of_declarator g.untagged d) b)
      h.2 in
      let n = j s z.lists h.0 (closed t) (blocks_stay g (length c.records) (length z.lists.records) s.blocks (grown z.after) f)
      (right_seen g s.is_inside s.purpose c z.lists (walk_of_specifiers g.untagged specs) (walk_of_declarator g.untagged d) b z.after) h.3 in
      let at = first_declarator d (first_specifiers specs) in
      let k = closed_back (first_declarator d (first_specifiers specs)) n.lists n.steps h.0 t (n.derive n.lists n.after.extends (omega arith)) in
      let a = then_seen g s.is_inside s.purpose c z.lists n.lists (walk_of_specifiers g.untagged specs) (walk_of_declarator g.untagged d) z.after n.after in
      let l = mentioned g ls s c n.lists (SeenType s (Trees.type_name specs d)) (mentions_in (part g z.lists)) Named t
      (first_declarator d (first_specifiers specs)) m a in
      record { lists = l.0; is = rw (h.1, z.is, n.is, k, l.1) refl; after = l.3 }

  pub sizeof_type_complete : (at left : ℕ) (n : Trees.TypeName) (right : ℕ) → CompletesType n → Completes g w ls (Trees.sizeof_type at left n right)
  unfolding find
  sizeof_type_complete at left n right i s c th f b h t = by_thing g w ls s c (Trees.sizeof_type at left n right) th _ h.3.2
      (λ t.
      let z = i s c h.0 f (left_seen g s.is_inside s.purpose c (walk_of_type g.untagged n) (a_look right ∷ []) b) h.1 h.2 in
      let d = z.lists in
      let r = right_seen g s.is_inside s.purpose c z.lists (walk_of_type g.untagged n) (a_look right ∷ []) b z.after in
      let o = complete_stays (ended g.ends right) (length d.records) h.0 (omega (arith, r.follows.0)) h.3.0 in
      let same = size_same g w ls d h.0 z.after.extends o in
      let l : size_of d.records h.0 ≤ 16777216 = omega (arith, same, h.3.3) in
      let k = CompleteParts.size_back d.records (ended g.ends right) at h.0 h.3.0 o l in
      let a = then_seen g s.is_inside s.purpose c d d (walk_of_type g.untagged n) (a_look right ∷ []) z.after
      (none_after g d (a_look right ∷ []) r refl refl refl) in
      let m = mentioned g ls s c d (Seen g w ls s (Trees.sizeof_type at left n right)) (mentions_in (part g c)) Sizeof h.0 at h.3.1 a in
      record {
        done = record { lists = m.0; is = rw (z.is, k, m.1, same) refl; after = m.3 };
        complete = tt;
      }) t

  pub cast_complete : (left : ℕ) (n : Trees.TypeName) (right : ℕ) (a : Trees.Expression) → CompletesType n → Completes g w ls a
      → Completes g w ls (Trees.cast left n right a)
  unfolding find
  cast_complete left n right a i j s c th f b h t = by_thing g w ls s c (Trees.cast left n right a) th _ h.5
      (λ t.
      let z = i s c h.0 f (left_seen g s.is_inside s.purpose c (walk_of_type g.untagged n) (walk g.untagged a) b) h.2 h.3 in
      let m = operand g w ls a j s z.lists h.1 (blocks_stay g (length c.records) (length z.lists.records) s.blocks (grown z.after) f)
      (right_seen g s.is_inside s.purpose c z.lists (walk_of_type g.untagged n) (walk g.untagged a) b z.after) h.4 t.0 in
      let k = CompleteNodes.cast_back (declared (whole g ls s)) (place_in (whole g ls s) left) h.0 h.1 m.left t in
      record {
        done = record {
          lists = m.lists;
          is = rw (z.is, m.value_is, k) refl;
          after = then_seen g s.is_inside s.purpose c z.lists m.lists (walk_of_type g.untagged n) (walk g.untagged a) z.after m.after;
        };
        complete = tt;
      }) t

  -- ---- parameters one after the other

  -- what a block declares after others
  pub pushed_in : (block : List Bound) (b : Bound) (x : List ℕ) (e : Entity) (rest : Option Entity)
      → or_else (option_map (λ b. b.entity) (declared_in (block ++ b ∷ []) x)) rest ≡ Some e
      → (or_else (option_map (λ b. b.entity) (declared_in block x)) rest ≡ Some e) ⊎ (b.entity ≡ e)
  pushed_in [] b x e rest h = by_test (bytes_eq b.name x) h
    where
      by_test : (t : Bool) → or_else (option_map (λ b. b.entity) (cond t (Some b) None)) rest ≡ Some e → (rest ≡ Some e) ⊎ (b.entity ≡ e)
      by_test true h = inr (CompleteNodes.some_is b.entity e h)
      by_test false h = inl h
  pushed_in (y ∷ block) b x e rest h = by_test (bytes_eq y.name x) (λ h. pushed_in block b x e rest h) h
    where
      by_test : (t : Bool) → (or_else (option_map (λ b. b.entity) (declared_in (block ++ b ∷ []) x)) rest ≡ Some e
          → (or_else (option_map (λ b. b.entity) (declared_in block x)) rest ≡ Some e) ⊎ (b.entity ≡ e))
          → or_else (option_map (λ b. b.entity) (cond t (Some y) (declared_in (block ++ b ∷ []) x))) rest ≡ Some e
          → (or_else (option_map (λ b. b.entity) (cond t (Some y) (declared_in block x))) rest ≡ Some e) ⊎ (b.entity ≡ e)
      by_test true later h = inl h
      by_test false later h = later h

  pub parameter_fits : (r : ℕ) (blocks : List (List Bound)) (b : Bound) → BlocksFit g r blocks → IsFitFor g r b.entity → BlocksFit g r (with_name blocks b)
  parameter_fits r [] b f h x e i = by_place (pushed_in [] b x e None i)
    where
      by_place : (None ≡ Some e) ⊎ (b.entity ≡ e) → IsFitFor g r e
      by_place (inl q) = cc
      by_place (inr q) = subst (IsFitFor g r) q h
  parameter_fits r (block ∷ outer) b f h x e i = by_place (pushed_in block b x e (innermost outer x) i)
    where
      by_place : (innermost (block ∷ outer) x ≡ Some e) ⊎ (b.entity ≡ e) → IsFitFor g r e
      by_place (inl q) = f x e q
      by_place (inr q) = subst (IsFitFor g r) q h

  parameter_storage_back : {A : Type 0} (at : ℕ) (v : Storage) (r : Answer A) → (v ≡ no_storage) ⊎ (v ≡ is_register) → parameter_storage at v r ≡ r
  parameter_storage_back at v r (inl e) = ap (λ v. parameter_storage at v r) e
  parameter_storage_back at v r (inr e) = ap (λ v. parameter_storage at v r) e

  new_back : {A : Type 0} (s : Scope) (c : Lists) (o : Option Spelling) (r : Answer A) → IsNew (whole g ls s) o → new_if_named (moved s (part g c)) o r ≡ r
  new_back s c None r h = refl
  new_back s c (Some x) r h = ap (λ o. new_here x o r) h

  scalar_back : (at : ℕ) (t : CType) → is_scalar t ≡ true → scalar_parameter at t ≡ Ok t
  scalar_back at (integer kind) h = refl
  scalar_back at (pointer t) h = refl
  scalar_back at void h = cc
  scalar_back at (array t n) h = cc
  scalar_back at (function t all) h = cc
  scalar_back at (structure r) h = cc

  -- those after a parameter see its name
  parameters_after : (more : Trees.Parameters) → CompletesParameters more → (s : Scope) (c : Lists) (o : Option Spelling) (t : CType) (rest : CTypes)
      → is_scalar t ≡ true → s.is_inside ≡ true → BlocksFit g (length c.records) s.blocks
      → IsBefore g c (seen true s.purpose (walk_of_parameters g.untagged more))
      → AreListed (with_parameter_if_named (whole g ls s) o t) more rest
      → Done g c (seen true s.purpose (walk_of_parameters g.untagged more)) (parameters more (with_parameter_if_named (moved s (part g c)) o t)) rest
  parameters_after more i s c None t rest v e f b h = i s c rest e f b h
  parameters_after more i s c (Some x) t rest v e f b h =
      i (with_parameter s x.text x.from t) c rest refl
      (parameter_fits (length c.records) s.blocks (record { name = x.text; place = x.from; from = x.from; how = defines; entity = a_parameter t }) f v) b h

  parameter_joined : (comma : Option ℕ) (specs : Trees.Specifiers) (d : Trees.Declarator) (more : Trees.Parameters) (s : Scope) (c l m n o : Lists)
      (base : CType)
      (steps : List Derivation) (shape : Shape) (rest : CTypes) → (storage_of specs ≡ no_storage) ⊎ (storage_of specs ≡ is_register)
      → base_type (base_kind specs) (first_specifiers specs) (part g c) (one_of specs (moved s (part g c))) ≡ Ok (base, part g l)
      → derivations d (moved s (part g l)) ≡ Ok (steps, part g m) → derived m.records steps base ≡ Ok shape → IsNew (whole g ls s) (declared_name d)
      → is_scalar (parameter_type shape) ≡ true
      → with_mention (moved s (part g c)) (mentions_in (part g l)) Named (parameter_type shape) (first_declarator d (first_specifiers specs)) (part g m)
      ≡ part g n
      → parameters more (with_parameter_if_named (moved s (part g n)) (declared_name d) (parameter_type shape)) ≡ Ok (rest, part g o)
      → parameters (Trees.and_parameter comma specs d more) (moved s (part g c)) ≡ Ok (and_type (parameter_type shape) rest, part g o)
  unfolding parameters
  parameter_joined comma specs d more s c l m n o base steps shape rest st b x y ne sc me r =
      let ne = new_back s c (declared_name d) (with_file (part g m) (scalar_parameter (first_declarator d (first_specifiers specs)) (parameter_type shape)))
      ne in
      let sc = scalar_back (first_declarator d (first_specifiers specs)) (parameter_type shape) sc in
      let st = parameter_storage_back (first_specifiers specs) (storage_of specs)
      (base_type (base_kind specs) (first_specifiers specs) (part g c) (one_of specs (moved s (part g c)))) st in
      rw (st, b, x, y, ne, sc, me, r) refl

  pub parameter_complete : (comma : Option ℕ) (specs : Trees.Specifiers) (d : Trees.Declarator) (more : Trees.Parameters) → CompletesOne specs
      → CompletesDeclarator d → CompletesParameters more → CompletesParameters (Trees.and_parameter comma specs d more)
  parameter_complete comma specs d more i j k s c types e f b h =
      let own : IsBefore g c (seen s.is_inside s.purpose (walk_of_specifiers g.untagged specs ++ walk_of_declarator g.untagged d)) =
      subst (λ i. IsBefore g c (seen i s.purpose (walk_of_specifiers g.untagged specs ++ walk_of_declarator g.untagged d))) (sym e)
      (left_seen g true s.purpose c (walk_of_specifiers g.untagged specs ++ walk_of_declarator g.untagged d) (walk_of_parameters g.untagged more) b) in
      let z = base_complete specs i s c h.0 f
      (left_seen g s.is_inside s.purpose c (walk_of_specifiers g.untagged specs) (walk_of_declarator g.untagged d) own) h.5 in
      let n = j s z.lists h.0 h.1 (blocks_stay g (length c.records) (length z.lists.records) s.blocks (grown z.after) f)
      (right_seen g s.is_inside s.purpose c z.lists (walk_of_specifiers g.untagged specs) (walk_of_declarator g.untagged d) own z.after) h.6 in
      let q = n.derive n.lists n.after.extends (omega arith) in
      let both = then_seen g s.is_inside s.purpose c z.lists n.lists (walk_of_specifiers g.untagged specs) (walk_of_declarator g.untagged d) z.after n.after in
      let a : IsAfter g c (seen true s.purpose (walk_of_specifiers g.untagged specs ++ walk_of_declarator g.untagged d)) n.lists =
      subst (λ i. IsAfter g c (seen i s.purpose (walk_of_specifiers g.untagged specs ++ walk_of_declarator g.untagged d)) n.lists) e both in
      let m = mentioned g ls s c n.lists (seen true s.purpose (walk_of_specifiers g.untagged specs ++ walk_of_declarator g.untagged d))
      (mentions_in (part g z.lists)) Named
      (parameter_type h.1) (first_declarator d (first_specifiers specs)) h.9 a in
      let r = parameters_after more k s m.0 (declared_name d) (parameter_type h.1) h.2 h.7 e
      (blocks_stay g (length c.records) (length m.0.records) s.blocks (grown m.3) f)
      (right_seen g true s.purpose c m.0 (walk_of_specifiers g.untagged specs ++ walk_of_declarator g.untagged d) (walk_of_parameters g.untagged more) b m.3)
      h.10 in
      record {
        lists = r.lists;
        is = parameter_joined comma specs d more s c z.lists n.lists m.0 r.lists h.0 n.steps h.1 h.2 h.4 z.is n.is q h.8 h.7 m.1 r.is
            ∙ ap (λ types. ok (types, part g r.lists)) (sym h.3);
        after = then_seen g true s.purpose c m.0 r.lists (walk_of_specifiers g.untagged specs ++ walk_of_declarator g.untagged d)
            (walk_of_parameters g.untagged more) m.3 r.after;
      }
