-- What finding keeps of a file, and which tags it finds fit (C99 6.5 to 6.7).
use Rattle.std.proofs.Common.{◌≡◌, ◌≢◌, ℕ, ◌+◌, ◌≤◌, ◌<◌, Bool, true, false, refl, sym, ap, ◌∙◌, subst, List, [], ◌∷◌, ◌++◌, append-nil}
use Rattle.std.proofs.Common.{length, length-append, arith, inl, inr}
use Rattle.std.proofs.lemmas.Bool.{and_from, lt-ltb, eqb-true}
use Rattle.std.specs.Prelude.{◌^◌, ◌%◌, ◌==◌, Option, Some, None, Ok, nat_lt}
use Rattle.lay_base.specs.declared.place.Place.{Place}
use Rattle.c_types.specs.declared.ty.IntKind.{IntKind}
use Rattle.c_types.specs.declared.ty.IntKind.TheVariants.{Char}
use Rattle.c_types.specs.Objects.{is_object}
use Rattle.c_types.specs.Types.{CType, CTypes, integer, array, no_types, and_type, Field, Record}
use Rattle.c_ast.specs.declared.words.Spelling.{Spelling}
use Rattle.c_ast.specs.declared.operators.UnaryOp.TheVariants as U
use Rattle.c_ast.specs.Trees
use Rattle.c_ast.specs.WellFormed.{IsExpression, AreArguments, IsTypeName, AreSpecifiers, AreMoreSpecifiers, IsSpecifier}
use Rattle.c_ast.specs.WellFormed.{AreMemberDeclarations, AreMemberDeclarators, AreEnumerators, IsEnumeratorValue, IsDeclarator}
use Rattle.c_tokens.specs.QuotedScan.{string_bytes}
use Rattle.c_typed.specs.declared.program.MentionKind.{MentionKind}
use Rattle.c_ast.specs.Places.{first, first_specifiers, first_declarator}
use Rattle.c_typed.specs.declared.program.MentionKind.TheVariants.{Named, Sizeof}
use Rattle.c_typed.specs.Trees as Typed
use Rattle.c_erasure.specs.Broken.{member_names, tag_place}
use Rattle.c_erasure.specs.Declarators.{declared_name, parameter_type}
use Rattle.c_erasure.specs.Erasure.{place_in, tag_text, after_all, literal_of, with_parameter_if_named}
use Rattle.c_erasure.specs.Literals.{literals, literals_of_all}
use Rattle.c_erasure.specs.Marks as Marks
use Rattle.c_erasure.specs.Marks.{Mark, marks, marks_of_all, marks_of_type, marks_of_specifiers}
use Rattle.c_erasure.specs.Marks.{marks_of_specifier, marks_of_members}
use Rattle.c_erasure.specs.Marks.{marks_of_member_declarators, marks_of_enumerators, marks_of_value, marks_of_declarator, an_enumeration}
use Rattle.c_erasure.specs.MentionPlaces.{spoken, spoken_of_all, spoken_of_type, spoken_of_specifiers, spoken_of_specifier, spoken_of_members}
use Rattle.c_erasure.specs.MentionPlaces.{spoken_of_enumerators, spoken_of_value, spoken_of_declarator, spoken_of_list, spoken_of_parameters}
use Rattle.c_erasure.specs.Noted.{Noted, Expression, Path, Thing}
use Rattle.c_erasure.specs.Operators.{update_of}
use Rattle.c_erasure.specs.Scopes.{Tag, tag_at, FileScope, Scope, Purpose, in_full, value_alone, type_alone, inside, measured, for_value}
use Rattle.c_erasure.specs.Specifiers.{types_among, storage_of}
use Rattle.c_erasure.specs.Checking.Answers.{Checked, moved}
use Rattle.c_erasure.specs.Checking.Nodes.{worth, array_of, signature_in, argument_in}
use Rattle.c_erasure.specs.Checking.Nodes.{measured_in, sized_type, target_in}
use Rattle.c_erasure.specs.Checking.Declaring.{tag_named, tagged, tagged_in, known_tag, definable, only_tag, enumeration_of}
use Rattle.c_erasure.specs.Checking.Declaring.{with_mention, mentions_in, literal_for, literal_in, completed_in, enumerator_in}
use Rattle.c_erasure.specs.Checking.Declaring.{Derivation, derived, length_value, object_at, base_kind, without_storage, parameter_storage, scalar_parameter}
use Rattle.c_erasure.specs.Checking.Finding.{complete, value_at, tested_at, constant_at, subscripted, base_type}
use Rattle.c_erasure.specs.Checking.Finding.{type_of_derived, with_member}
use Rattle.c_erasure.specs.Checking.Finding.{find, arguments, type_name, one_of, specified, members, member_declarators, enumerators, enumerator_value}
use Rattle.c_erasure.specs.Checking.Finding.{derivations, array_step}
use Rattle.c_erasure.specs.Checking.Finding.{parameter_list, parameters}
use Rattle.c_checking_laws.proofs.Results.{bound_ok, bound_with, chosen, given, with_file_ok}
use Rattle.c_checking_laws.proofs.Declared.{no_storage_is, parameter_storage_is, unless_ok, completed_is}
use Rattle.c_checking_laws.proofs.Settled.{object_more, object_whole, AreWhole, more_whole, first_whole, both_whole}
use Rattle.c_checking_laws.proofs.Derived.{IsBaseOf, base_is, words_mark_nothing}
use Rattle.c_checking_laws.proofs.FoundTypes.{bound_of}
use Rattle.c_checking_laws.proofs.FilesOfNodes.{file_of_unary, file_of_assigned}
use Rattle.c_checking_laws.proofs.FoundDeclarators.{new_bound, parameter_inside, parameter_untagged}
use Rattle.c_checking_laws.proofs.Adding.{file_beside, file_of, file_of_value, file_of_tested, file_of_constant}
use Rattle.c_checking_laws.proofs.WholeFiles.Kept.{IsTagFit, enumerator_adds, Keeps, keeps_nothing, keeps_then, keeps_inside, keeps_mention}
use Rattle.c_checking_laws.proofs.WholeFiles.Kept.{keeps_object, keeps_record, keeps_name, keeps_tag}

abbrev Stays : Scope → List Mark → (types made : List ℕ) → FileScope → Type 0
Stays s u types made g = Keeps s.file s.is_inside u g

nothing : (s : Scope) → Stays s [] [] [] s.file
nothing s = keeps_nothing s.file s.is_inside

-- ---- literals

pub literal_is_whole : (count : ℕ) (all : List Spelling) → is_object count (array (integer Char) (length (literal_of all))) ≡ true
literal_is_whole count all = and_from (nat_lt 0 (length (literal_of all))) true (lt-ltb 0 (length (literal_of all)) (literal_length all)) refl
  where
    literal_length : (all : List Spelling) → 0 < length (literal_of all)
    literal_length [] = omega arith
    literal_length (x ∷ more) = omega (arith, literal_length more, length-append (string_bytes x.text) (literal_of more))

literal_by : (p : Purpose) (s : Scope) (from : ℕ) (all : List Spelling) (z : Thing × FileScope) → literal_for p s (place_in s from) (literal_of all) ≡ Ok z
    → Stays s [] [] (from ∷ []) z.1
literal_by in_full s from all z h =
    file_of (λ f. Stays s [] [] (from ∷ []) f) _ z h (keeps_object s.file from all s.is_inside (literal_is_whole (length s.file.records) all))
literal_by value_alone s from all z h = file_of (λ f. Stays s [] [] (from ∷ []) f) _ z h (nothing s)
literal_by type_alone s from all z h = file_of (λ f. Stays s [] [] (from ∷ []) f) _ z h (nothing s)

literal_grows : (s : Scope) (from : ℕ) (all : List Spelling) (z : Thing × FileScope) → literal_in s (place_in s from) (literal_of all) ≡ Ok z
    → Stays s [] [] (from ∷ []) z.1
unfolding literal_in
literal_grows s from all z h = literal_by s.purpose s from all z h

-- ---- mentions

mention_between : (s : Scope) {f g h : FileScope} {i : Bool} {u v : List Mark} (kind : MentionKind) (t : CType) (at : ℕ) → Keeps f i u g → Keeps g i v h
    → Keeps f i (u ++ v) (with_mention s (mentions_in g) kind t at h)
mention_between s {g = g} kind t at p q = keeps_mention s (mentions_in g) kind t at (keeps_then p q)

mention_before : (s : Scope) {f g : FileScope} {i : Bool} {u : List Mark} (kind : MentionKind) (t : CType) (at : ℕ) → Keeps f i u g
    → Keeps f i u (with_mention s (mentions_in f) kind t at g)
mention_before s {f} kind t at p = keeps_mention s (mentions_in f) kind t at p

mention_behind : (s : Scope) {f g : FileScope} {i : Bool} {u : List Mark} (kind : MentionKind) (t : CType) (at : ℕ) → Keeps f i u g
    → Keeps f i u (with_mention s (mentions_in g) kind t at g)
mention_behind s {g = g} kind t at p = keeps_mention s (mentions_in g) kind t at p

-- ---- parts for their values or types alone

constant_grows : (s : Scope) (at : ℕ) (u : List Mark) (x k : List ℕ) (r : Checked Thing)
    → ((y : Thing × FileScope) → r ≡ Ok y → Stays (for_value s) u x k y.1)
    → (z : (IntKind × ℕ) × FileScope) → constant_at at (value_at at r) ≡ Ok z → Stays s u x [] z.1
constant_grows s at u x k r sound z h =
    file_of_constant (Stays s u x []) at (value_at at r) z h
    (λ y j. file_of_value (Stays s u x []) at r y j sound)

-- ---- nodes by what their operands are

index_grows : (s : Scope) (v : List Mark) (y l : List ℕ) (count from left at : ℕ) (x : Thing × FileScope) (number : FileScope → Checked Expression)
    → (u : List Mark) (j k : List ℕ) → Stays s u j k x.1
    → ((i : Expression × FileScope) → number x.1 ≡ Ok i → Stays (moved s x.1) v y l i.1)
    → (o : Option (Path × CType)) (z : Thing × FileScope) → subscripted count from left (place_in s at) x.0 x.1 number o ≡ Ok z
    → Stays s (u ++ v) (j ++ y) (k ++ l) z.1
index_grows s v y l count from left at x number u j k p later (Some a) z h =
    let i = bound_ok (number x.1) _ z h in
    file_beside (Stays s (u ++ v) (j ++ y) (k ++ l)) i.0.1 _ z i.2 (keeps_then p (later i.0 i.1))
index_grows s v y l count from left at x number u j k p later None z h =
    let w = bound_with x.1 (worth from x.0) _ z h in
    let i = bound_ok (number x.1) _ z w.2 in
    file_beside (Stays s (u ++ v) (j ++ y) (k ++ l)) i.0.1 _ z i.2 (keeps_then p (later i.0 i.1))

-- ---- members and parameters

mention_longer : (s : Scope) (n : ℕ) (kind : MentionKind) (t : CType) (at : ℕ) (f : FileScope)
    → length f.records ≤ length (with_mention s n kind t at f).records
mention_longer s n kind t at f = (keeps_mention s n kind t at (keeps_nothing f true)).longer

parameter_grows : (s : Scope) (x : Option Spelling) (t : CType) (y : List ℕ) (f : FileScope) → Stays (with_parameter_if_named s x t) [] y [] f
    → Stays s [] y [] f
parameter_grows s None t y f p = p
parameter_grows s (Some x) t y f p = keeps_inside {u = []} refl p

more_from : (types : List (List ℕ)) (specs : Trees.Specifiers) → AreSpecifiers types specs → AreMoreSpecifiers types specs
more_from types Trees.no_specifiers g = absurd g
more_from types (Trees.and_specifier x more) g = g

-- ---- tags

-- an enumeration stands at its tag's first place
enumeration_fit : (f : FileScope) (x : Spelling) (to : ℕ) (t : CType) → enumeration_of f (Some x) ≡ Ok t
    → IsTagFit f.untagged f.tags (record { name = x.text; place = x.from; from = to; is_enumeration = true })
enumeration_fit f x to t h = record { enumeration = λ i. by_tag (tag_named f.tags x.text) h; structure = λ i. cc }
  where
    by_tag : (o : Option Tag) → only_tag x o ≡ Ok t → (u : Tag) → o ≡ Some u → u.place ≡ x.from
    by_tag None h u e = cc
    by_tag (Some v) h u e =
        let same : v ≡ u = cc in
        chosen (v.place == x.from) _ _ t (u.place ≡ x.from) h
        (λ b h. ap (λ (u : Tag). u.place) (sym same) ∙ eqb-true v.place x.from b) (λ b h. cc)

-- `struct` and a tag names no enumeration
named_fit : (s : Scope) (at : ℕ) (x : Spelling) (t : CType) → tagged_in s at x ≡ Ok t
    → IsTagFit s.file.untagged s.file.tags (record { name = x.text; place = x.from; from = x.from; is_enumeration = false })
unfolding tagged_in
named_fit s at x t h = record { enumeration = λ i. cc; structure = λ i. inl (by_tag (tag_at s.file.tags x.text x.from) h) }
  where
    by_tag : (o : Option Bool) → tagged s at x o ≡ Ok t → o ≢ Some true
    by_tag (Some false) h e = cc
    by_tag (Some true) h e = cc
    by_tag None h e = cc

-- a definition, under a tag that names no enumeration or none that is written
defined_fit : (untagged : ℕ → List ℕ) (s : Scope) (at : ℕ) (x : Option Spelling) → s.file.untagged ≡ untagged → definable s at x (known_tag s x) ≡ None
    → IsTagFit s.file.untagged s.file.tags
    (record { name = Marks.tag_name untagged at x; place = Marks.tag_place untagged at x; from = Marks.tag_place untagged at x; is_enumeration = false })
defined_fit untagged s at None e h = record {
  enumeration = λ i. cc;
  structure = λ i. inr (ap (λ (names : ℕ → List ℕ). names at) (sym e));
}
defined_fit untagged s at (Some x) e h = record { enumeration = λ i. cc; structure = λ i. inl (by_tag (tag_at s.file.tags x.text x.from) h) }
  where
    by_tag : (o : Option Bool) → definable s at (Some x) o ≡ None → o ≢ Some true
    by_tag (Some false) h e = cc
    by_tag (Some true) h e = cc
    by_tag None h e = cc

-- ---- members

-- a field before others
record IsMemberBefore (at : Place) (t : CType) (r : Checked (List Field)) (z : List Field × FileScope) : Type 0 where
  pub name : List ℕ
  pub later : List Field × FileScope
  pub later_is : r ≡ Ok later
  pub fields : z.0 ≡ record { name = name; ty = t; place = at } ∷ later.0
  pub file : z.1 ≡ later.1

member_before : (at : Place) (t : CType) (x : Option Spelling) (r : Checked (List Field)) (z : List Field × FileScope) → with_member at t x r ≡ Ok z
    → IsMemberBefore at t r z
member_before at t None r z h = cc
member_before at t (Some x) r z h =
    let y = bound_ok r _ z h in
    given (IsMemberBefore at t r) (record { name = x.text; ty = t; place = at } ∷ y.0.0, y.0.1) z y.2
    (record { name = x.text; later = y.0; later_is = y.1; fields = refl; file = refl })

not_empty : {X : Type 0} (x : X) (xs all : List X) → all ≡ x ∷ xs → all ≢ []
not_empty x xs all e h = let f : [] ≡ x ∷ xs = sym h ∙ e in cc

declarators_filled : (all : Trees.MemberDeclarators) (base : CType) (semicolon : ℕ) (s : Scope) → all ≢ Trees.no_member_declarators
    → (z : List Field × FileScope) → member_declarators all base semicolon s ≡ Ok z → z.0 ≢ []
unfolding member_declarators
declarators_filled Trees.no_member_declarators base semicolon s n z h = absurd (n refl)
declarators_filled (Trees.and_member_declarator comma d more) base semicolon s n z h =
    let at = first_declarator d semicolon in
    let steps = bound_ok (derivations d s) _ z h in
    let t = bound_with steps.0.1 (type_of_derived at steps.0.1 steps.0.0 base) _ z steps.2 in
    let o = bound_with steps.0.1 (object_at steps.0.1.records (complete s at) at t.0) _ z t.2 in
    let b = member_before (place_in s at) o.0 (declared_name d) _ z o.2 in
    not_empty _ b.later.0 z.0 b.fields

longer_filled : {X : Type 0} (xs ys : List X) → xs ≢ [] → xs ++ ys ≢ []
longer_filled [] ys n = absurd (n refl)
longer_filled (x ∷ xs) ys n = λ e. cc

members_filled : (types : List (List ℕ)) (all : Trees.MemberDeclarations) (s : Scope) → all ≢ Trees.no_member_declarations → AreMemberDeclarations types all
    → (z : List Field × FileScope) → members all s ≡ Ok z → z.0 ≢ []
unfolding members
members_filled types Trees.no_member_declarations s n g z h = absurd (n refl)
members_filled types (Trees.and_member_declaration specs ds semicolon more) s n g z h =
    let at = first_specifiers specs in
    let b = bound_ok (without_storage at (storage_of specs) (base_type (base_kind specs) at s.file (one_of specs s))) _ z h in
    let own = bound_ok (member_declarators ds b.0.0 semicolon (moved s b.0.1)) _ z b.2 in
    let rest = bound_ok (members more (moved s own.0.1)) _ z own.2 in
    given (λ (z : List Field × FileScope). z.0 ≢ []) (own.0.0 ++ rest.0.0, rest.0.1) z rest.2
    (longer_filled own.0.0 rest.0.0 (declarators_filled ds b.0.0 semicolon (moved s b.0.1) g.1 own.0 own.1))

module _ (untagged : ℕ → List ℕ) (types : List (List ℕ)) where
  abbrev StaysBySpecifiers : Scope → Trees.Specifiers → FileScope → Type 0
  StaysBySpecifiers s specs f = Stays s (marks_of_specifiers untagged specs) (spoken_of_specifiers specs) [] f

  words_grow : (s : Scope) (specs : Trees.Specifiers) → types_among specs ≡ [] → StaysBySpecifiers s specs s.file
  words_grow s specs e = subst (λ u. Keeps s.file s.is_inside u s.file) (sym (words_mark_nothing untagged specs e)) (nothing s)

  base_grows : (s : Scope) (specs : Trees.Specifiers) (at : ℕ) (one : Checked CType)
      → ((x : Trees.Specifier) → types_among specs ≡ x ∷ [] → (y : CType × FileScope) → one ≡ Ok y → StaysBySpecifiers s specs y.1)
      → (z : CType × FileScope) → base_type (base_kind specs) at s.file one ≡ Ok z → StaysBySpecifiers s specs z.1
  base_grows s specs at one sound z h = by_way (base_is specs at s.file one z h)
    where
      by_way : IsBaseOf specs s.file one z → StaysBySpecifiers s specs z.1
      by_way (inl w) = subst (StaysBySpecifiers s specs) w.2 (words_grow s specs w.0)
      by_way (inr w) = sound w.0 w.1 z w.3

  one_grows : (s : Scope) (x : Trees.Specifier) (more : Trees.Specifiers) (y : Trees.Specifier) → x ∷ types_among more ≡ y ∷ [] → (f : FileScope)
      → Stays s (marks_of_specifier untagged x) (spoken_of_specifier x) [] f
      → Stays s (marks_of_specifier untagged x ++ marks_of_specifiers untagged more) (spoken_of_specifier x ++ spoken_of_specifiers more) [] f
  one_grows s x more y e f p =
      let n : types_among more ≡ [] = cc in
      keeps_then p (words_grow (moved s f) more n)

  -- a definition of a structure adds it when it ends
  struct_kept : (s : Scope) (at : ℕ) (x : Option Spelling) (from : ℕ) (all : Trees.MemberDeclarations) (to : ℕ) → s.file.untagged ≡ untagged
      → definable s at x (known_tag s x) ≡ None → (m : List Field × FileScope) → Stays s (marks_of_members untagged all) (spoken_of_members all) [] m.1
      → AreWhole (length m.1.records) m.0 → m.0 ≢ [] → (z : CType × FileScope)
      → completed_in m.1 (tag_place at x) (member_names all) (record { tag = tag_text s at x; place = place_in s at; fields = m.0 }) ≡ Ok z
      → Stays s (marks_of_specifier untagged (Trees.struct_body at x from all to)) (spoken_of_members all) [] z.1
  struct_kept s at x from all to e d m p whole filled z h =
      let rec : Record = record { tag = tag_text s at x; place = place_in s at; fields = m.0 } in
      let c = completed_is m.1 (tag_place at x) (member_names all) rec z h in
      keeps_tag (record {
        name = Marks.tag_name untagged at x;
        place = Marks.tag_place untagged at x;
        from = Marks.tag_place untagged at x;
        is_enumeration = false;
      }) (λ i. defined_fit untagged s at x e d)
      (keeps_then p (keeps_record m.1 (member_names all) rec z (Marks.tag_name untagged at x) to s.is_inside c whole filled))

  enumeration_kept : (s : Scope) (x : Option Spelling) (to : ℕ) (f : FileScope) (u : List Mark) → Keeps s.file s.is_inside u f → (t : CType)
      → enumeration_of f x ≡ Ok t → Keeps s.file s.is_inside (u ++ an_enumeration untagged x to) f
  enumeration_kept s None to f u p t h = subst (λ u. Keeps s.file s.is_inside u f) (sym (append-nil u)) p
  enumeration_kept s (Some x) to f u p t h =
      keeps_then p (keeps_tag (record { name = x.text; place = x.from; from = to; is_enumeration = true }) (λ i. enumeration_fit f x to t h)
      (keeps_nothing f s.is_inside))

  mutual
    unfolding find arguments type_name one_of specified members member_declarators enumerators enumerator_value derivations array_step parameter_list parameters

    pub keep : (a : Trees.Expression) (s : Scope) → s.file.untagged ≡ untagged → (s.is_inside ≡ false → IsExpression types a) → (z : Thing × FileScope) → find a s ≡ Ok z
        → Stays s (marks untagged a) (spoken a) (literals a) z.1
    keep (Trees.name x) s e g z h = file_beside (Stays s [] [] []) s.file _ z h (nothing s)
    keep (Trees.number x v kind) s e g z h = file_of (Stays s [] [] []) _ z h (nothing s)
    keep (Trees.character x v) s e g z h = file_of (Stays s [] [] []) _ z h (nothing s)
    keep (Trees.texts all) s e g z h = literal_grows s (first (Trees.texts all)) all z h
    keep (Trees.paren from a to) s e g z h = keep a s e g z h
    keep (Trees.index a from b to) s e g z h =
        let x = bound_ok (find a s) _ z h in
        let v = keep a s e (λ i. (g i).1) x.0 x.1 in
        index_grows s (marks untagged b) (spoken b) (literals b) (complete s (first a)) (first a) from (first a) x.0
        (λ f. value_at (first b) (find b (moved s f)))
        (marks untagged a) (spoken a) (literals a) v
        (λ i j. file_of_value (Stays (moved s x.0.1) (marks untagged b) (spoken b) (literals b)) (first b) (find b (moved s x.0.1)) i j
        (λ y k. keep b (moved s x.0.1) (v.untagged ∙ e) (λ i. (g i).2) y k))
        (array_of x.0.0) z x.2
    keep (Trees.call f from all to) s e g z h =
        let x = bound_ok (find f s) _ z h in
        let v = keep f s e (λ i. (g i).1) x.0 x.1 in
        let t = bound_with x.0.1 (signature_in (first f) x.0.0) _ z x.2 in
        let xs = bound_ok (arguments to t.0.0 all (moved s x.0.1)) _ z t.2 in
        file_beside (Stays s (marks untagged f ++ marks_of_all untagged all) (spoken f ++ spoken_of_all all) (literals f ++ literals_of_all all))
        xs.0.1 _ z xs.2
        (keeps_then v (keep_all all true to t.0.0 (moved s x.0.1) (v.untagged ∙ e) (λ i. (g i).2) xs.0 xs.1))
    keep (Trees.dot a at x) s e g z h =
        let p = bound_ok (find a s) _ z h in
        file_beside (Stays s (marks untagged a) (spoken a) (literals a)) p.0.1 _ z p.2 (keep a s e (λ i. (g i).1) p.0 p.1)
    keep (Trees.arrow a at x) s e g z h =
        let p = bound_ok (value_at (first a) (find a s)) _ z h in
        file_beside (Stays s (marks untagged a) (spoken a) (literals a)) p.0.1 _ z p.2
        (file_of_value (Stays s (marks untagged a) (spoken a) (literals a)) (first a) (find a s) p.0 p.1 (λ y k. keep a s e (λ i. (g i).1) y k))
    keep (Trees.post a op at) s e g z h =
        let p = bound_ok (find a s) _ z h in
        file_beside (Stays s (marks untagged a) (spoken a) (literals a)) p.0.1 _ z p.2 (keep a s e (λ i. (g i).1) p.0 p.1)
    keep (Trees.pre op at a) s e g z h =
        let p = bound_ok (find a s) _ z h in
        file_beside (Stays s (marks untagged a) (spoken a) (literals a)) p.0.1 _ z p.2 (keep a s e (λ i. (g i).1) p.0 p.1)
    keep (Trees.unary op at a) s e g z h =
        file_of_unary (Stays s (marks untagged a) (spoken a) (literals a)) s op (complete s at) (first a) at (find a s) (λ x k. keep a s e (λ i. (g i).1) x k) z h
    keep (Trees.sizeof_expression at a) s e g z h =
        let x = bound_ok (find a (measured s)) _ z h in
        let v = keep a (measured s) e (λ i. (g i).1) x.0 x.1 in
        let t = bound_with x.0.1 (measured_in x.0.1.records (complete s at) at (first a) x.0.0) _ z x.2 in
        file_of (Stays s (marks untagged a) (at ∷ []) []) _ z t.2 (mention_behind s Sizeof t.0 at v)
    keep (Trees.sizeof_type at from m to) s e g z h =
        let x = bound_ok (type_name m s) _ z h in
        let t = bound_with x.0.1 (sized_type x.0.1.records (complete s to) at x.0.0) _ z x.2 in
        file_of (Stays s (marks_of_type untagged m) (at ∷ spoken_of_type m) []) _ z t.2 (mention_before s Sizeof t.0 at (keep_type m s e g x.0 x.1))
    keep (Trees.cast from m to a) s e g z h =
        let t = bound_ok (type_name m s) _ z h in
        let v = keep_type m s e (λ i. (g i).1) t.0 t.1 in
        let x = bound_ok (value_at (first a) (find a (moved s t.0.1))) _ z t.2 in
        let w = file_of_value (Stays (moved s t.0.1) (marks untagged a) (spoken a) (literals a)) (first a) (find a (moved s t.0.1)) x.0 x.1
        (λ y k. keep a (moved s t.0.1) (v.untagged ∙ e) (λ i. (g i).2) y k) in
        file_beside (Stays s (marks_of_type untagged m ++ marks untagged a) (spoken_of_type m ++ spoken a) (literals a)) x.0.1 _ z x.2 (keeps_then v w)
    keep (Trees.binary a op at b) s e g z h =
        let x = bound_ok (value_at (first a) (find a s)) _ z h in
        let v = file_of_value (Stays s (marks untagged a) (spoken a) (literals a)) (first a) (find a s) x.0 x.1 (λ y k. keep a s e (λ i. (g i).2) y k) in
        let y = bound_ok (value_at (first b) (find b (moved s x.0.1))) _ z x.2 in
        let w = file_of_value (Stays (moved s x.0.1) (marks untagged b) (spoken b) (literals b)) (first b) (find b (moved s x.0.1)) y.0 y.1
        (λ y k. keep b (moved s x.0.1) (v.untagged ∙ e) (λ i. (g i).3) y k) in
        file_beside (Stays s (marks untagged a ++ marks untagged b) (spoken a ++ spoken b) (literals a ++ literals b)) y.0.1 _ z y.2 (keeps_then v w)
    keep (Trees.cond a question b colon c) s e g z h =
        let x = bound_ok (tested_at question (value_at (first a) (find a s))) _ z h in
        let v = file_of_tested (Stays s (marks untagged a) (spoken a) (literals a)) question (value_at (first a) (find a s)) x.0 x.1
        (λ y k. file_of_value (Stays s (marks untagged a) (spoken a) (literals a)) (first a) (find a s) y k (λ y k. keep a s e (λ i. (g i).2) y k)) in
        let y = bound_ok (value_at (first b) (find b (moved s x.0.1))) _ z x.2 in
        let w = file_of_value (Stays (moved s x.0.1) (marks untagged b) (spoken b) (literals b)) (first b) (find b (moved s x.0.1)) y.0 y.1
        (λ y k. keep b (moved s x.0.1) (v.untagged ∙ e) (λ i. (g i).3) y k) in
        let u = bound_ok (value_at (first c) (find c (moved s y.0.1))) _ z y.2 in
        let t = file_of_value (Stays (moved s y.0.1) (marks untagged c) (spoken c) (literals c)) (first c) (find c (moved s y.0.1)) u.0 u.1
        (λ y' k. keep c (moved s y.0.1) (w.untagged ∙ v.untagged ∙ e) (λ i. (g i).4) y' k) in
        file_beside (Stays s (marks untagged a ++ marks untagged b ++ marks untagged c) (spoken a ++ spoken b ++ spoken c)
        (literals a ++ literals b ++ literals c))
        u.0.1 _ z u.2 (keeps_then (keeps_then v w) t)
    keep (Trees.assign a op at b) s e g z h =
        let p = bound_ok (find a s) _ z h in
        let v = keep a s e (λ i. (g i).2) p.0 p.1 in
        let t = bound_with p.0.1 (target_in (first a) p.0.0) _ z p.2 in
        file_of_assigned (Stays s (marks untagged a ++ marks untagged b) (spoken a ++ spoken b) (literals a ++ literals b))
        (complete s (first a)) at (first b) (place_in s (first a)) t.0 p.0.1 (λ f. find b (moved s f))
        (λ y k. keeps_then v (keep b (moved s p.0.1) (v.untagged ∙ e) (λ i. (g i).3) y k)) (update_of op) z t.2
    keep (Trees.comma a at b) s e g z h =
        let x = bound_ok (value_at (first a) (find a s)) _ z h in
        let v = file_of_value (Stays s (marks untagged a) (spoken a) (literals a)) (first a) (find a s) x.0 x.1 (λ y k. keep a s e (λ i. (g i).1) y k) in
        let y = bound_ok (value_at (first b) (find b (moved s x.0.1))) _ z x.2 in
        let w = file_of_value (Stays (moved s x.0.1) (marks untagged b) (spoken b) (literals b)) (first b) (find b (moved s x.0.1)) y.0 y.1
        (λ y k. keep b (moved s x.0.1) (v.untagged ∙ e) (λ i. (g i).2) y k) in
        file_beside (Stays s (marks untagged a ++ marks untagged b) (spoken a ++ spoken b) (literals a ++ literals b)) y.0.1 _ z y.2 (keeps_then v w)
    keep (Trees.braces from all comma to) s e g z h = cc

    pub keep_all : (all : Trees.Arguments) (lead : Bool) (to : ℕ) (parameters : CTypes) (s : Scope) → s.file.untagged ≡ untagged → (s.is_inside ≡ false → AreArguments types lead all) → (z : Typed.Expressions Noted × FileScope)
        → arguments to parameters all s ≡ Ok z → Stays s (marks_of_all untagged all) (spoken_of_all all) (literals_of_all all) z.1
    keep_all Trees.no_arguments lead to no_types s e g z h = file_of (Stays s [] [] []) _ z h (nothing s)
    keep_all Trees.no_arguments lead to (and_type t more) s e g z h = cc
    keep_all (Trees.and_argument comma a rest) lead to no_types s e g z h = cc
    keep_all (Trees.and_argument comma a rest) lead to (and_type t more) s e g z h =
        let x = bound_ok (value_at (first a) (find a s)) _ z h in
        let v = file_of_value (Stays s (marks untagged a) (spoken a) (literals a)) (first a) (find a s) x.0 x.1 (λ y k. keep a s e (λ i. (g i).2) y k) in
        let y = bound_with x.0.1 (argument_in (first a) t x.0.0) _ z x.2 in
        let ys = bound_ok (arguments to more rest (moved s x.0.1)) _ z y.2 in
        file_of (Stays s (marks untagged a ++ marks_of_all untagged rest) (spoken a ++ spoken_of_all rest) (literals a ++ literals_of_all rest)) _ z ys.2
        (keeps_then v (keep_all rest false to more (moved s x.0.1) (v.untagged ∙ e) (λ i. (g i).3) ys.0 ys.1))

    pub keep_type : (m : Trees.TypeName) (s : Scope) → s.file.untagged ≡ untagged → (s.is_inside ≡ false → IsTypeName types m) → (z : CType × FileScope) → type_name m s ≡ Ok z
        → Stays s (marks_of_type untagged m) (spoken_of_type m) [] z.1
    keep_type (Trees.type_name specs d) s e g z h =
        let at = first_specifiers specs in
        let b = bound_ok (without_storage at (storage_of specs) (base_type (base_kind specs) at s.file (one_of specs s))) _ z h in
        let k = no_storage_is at (storage_of specs) (base_type (base_kind specs) at s.file (one_of specs s)) b.0 b.1 in
        let v = base_grows s specs at (one_of specs s) (λ x i y j. keep_one specs s e (λ i. more_from types specs (g i).0) x i y j) b.0 k.1 in
        let steps = bound_ok (derivations d (moved s b.0.1)) _ z b.2 in
        let w = keep_steps d (moved s b.0.1) (v.untagged ∙ e) (λ i. (g i).1) steps.0 steps.1 in
        let t = bound_with steps.0.1 (type_of_derived (first_declarator d at) steps.0.1 steps.0.0 b.0.0) _ z steps.2 in
        file_of (Stays s (marks_of_type untagged (Trees.type_name specs d)) (spoken_of_type (Trees.type_name specs d)) []) _ z t.2
        (mention_between s Named t.0 (first_declarator d at) v w)

    keep_one : (specs : Trees.Specifiers) (s : Scope) → s.file.untagged ≡ untagged → (s.is_inside ≡ false → AreMoreSpecifiers types specs) → (x : Trees.Specifier) → types_among specs ≡ x ∷ []
        → (z : CType × FileScope)
        → one_of specs s ≡ Ok z → StaysBySpecifiers s specs z.1
    keep_one Trees.no_specifiers s e g x i z h = cc
    keep_one (Trees.and_specifier (Trees.plain word at) more) s e g x i z h = keep_one more s e (λ i. (g i).1) x i z h
    keep_one (Trees.and_specifier (Trees.typename y) more) s e g x i z h =
        one_grows s (Trees.typename y) more x i z.1 (keep_specifier (Trees.typename y) s e (λ i. (g i).0) z h)
    keep_one (Trees.and_specifier (Trees.struct_named at y) more) s e g x i z h =
        one_grows s (Trees.struct_named at y) more x i z.1 (keep_specifier (Trees.struct_named at y) s e (λ i. (g i).0) z h)
    keep_one (Trees.and_specifier (Trees.struct_body at y from all to) more) s e g x i z h =
        one_grows s (Trees.struct_body at y from all to) more x i z.1 (keep_specifier (Trees.struct_body at y from all to) s e (λ i. (g i).0) z h)
    keep_one (Trees.and_specifier (Trees.enum_named at y) more) s e g x i z h =
        one_grows s (Trees.enum_named at y) more x i z.1 (keep_specifier (Trees.enum_named at y) s e (λ i. (g i).0) z h)
    keep_one (Trees.and_specifier (Trees.enum_body at y from all comma to) more) s e g x i z h =
        one_grows s (Trees.enum_body at y from all comma to) more x i z.1 (keep_specifier (Trees.enum_body at y from all comma to) s e (λ i. (g i).0) z h)

    pub keep_specifier : (x : Trees.Specifier) (s : Scope) → s.file.untagged ≡ untagged → (s.is_inside ≡ false → IsSpecifier types x) → (z : CType × FileScope) → specified x s ≡ Ok z
        → Stays s (marks_of_specifier untagged x) (spoken_of_specifier x) [] z.1
    keep_specifier (Trees.plain word at) s e g z h = cc
    keep_specifier (Trees.typename x) s e g z h = file_beside (Stays s [] [] []) s.file _ z h (nothing s)
    keep_specifier (Trees.struct_named at x) s e g z h =
        let w = with_file_ok s.file (tagged_in s at x) z h in
        subst (Keeps s.file s.is_inside (marks_of_specifier untagged (Trees.struct_named at x))) w.1
        (keeps_tag (record { name = x.text; place = x.from; from = x.from; is_enumeration = false }) (λ i. named_fit s at x z.0 w.0) (nothing s))
    keep_specifier (Trees.struct_body at x from all to) s e g z h =
        chosen s.is_inside _ _ z (Stays s (marks_of_specifier untagged (Trees.struct_body at x from all to)) (spoken_of_members all) [] z.1) h (λ i h. cc)
        (λ i h.
        let u = unless_ok _ _ z h in
        let m = bound_ok (members all s) _ z u.1 in
        let p = keep_members all s e (λ i. (g i).1) m.0 m.1 in
        struct_kept s at x from all to e u.0 m.0 p.0 p.1 (members_filled types all s (g i).0 (g i).1 m.0 m.1) z m.2)
    keep_specifier (Trees.enum_named at x) s e g z h = file_beside (Stays s [] [] []) s.file _ z h (nothing s)
    keep_specifier (Trees.enum_body at x from all comma to) s e g z h =
        chosen s.is_inside _ _ z (Stays s (marks_of_specifier untagged (Trees.enum_body at x from all comma to)) (spoken_of_enumerators all) [] z.1) h
        (λ i h. cc)
        (λ i h.
        let f = bound_ok (enumerators all s 0 (after_all comma to)) _ z h in
        let w = with_file_ok f.0.1 (enumeration_of f.0.1 x) z f.2 in
        subst (Keeps s.file s.is_inside (marks_of_specifier untagged (Trees.enum_body at x from all comma to))) w.1
        (enumeration_kept s x to f.0.1 (marks_of_enumerators untagged all (after_all comma to))
        (keep_enumerators all true s 0 (after_all comma to) i e (λ i. (g i).1) f.0 f.1) z.0 w.0))

    pub keep_members : (all : Trees.MemberDeclarations) (s : Scope) → s.file.untagged ≡ untagged → (s.is_inside ≡ false → AreMemberDeclarations types all) → (z : List Field × FileScope) → members all s ≡ Ok z
        → Stays s (marks_of_members untagged all) (spoken_of_members all) [] z.1 × AreWhole (length z.1.records) z.0
    keep_members Trees.no_member_declarations s e g z h =
        given (λ (z : List Field × FileScope). Keeps s.file s.is_inside [] z.1 × AreWhole (length z.1.records) z.0) ([], s.file) z h
        (nothing s, λ j x e. cc)
    keep_members (Trees.and_member_declaration specs ds semicolon more) s e g z h =
        let at = first_specifiers specs in
        let b = bound_ok (without_storage at (storage_of specs) (base_type (base_kind specs) at s.file (one_of specs s))) _ z h in
        let k = no_storage_is at (storage_of specs) (base_type (base_kind specs) at s.file (one_of specs s)) b.0 b.1 in
        let v = base_grows s specs at (one_of specs s) (λ x i y j. keep_one specs s e (λ i. more_from types specs (g i).0) x i y j) b.0 k.1 in
        let own = bound_ok (member_declarators ds b.0.0 semicolon (moved s b.0.1)) _ z b.2 in
        let w = keep_declarators ds true b.0.0 semicolon (moved s b.0.1) (v.untagged ∙ e) (λ i. (g i).2) own.0 own.1 in
        let rest = bound_ok (members more (moved s own.0.1)) _ z own.2 in
        let t = keep_members more (moved s own.0.1) (w.0.untagged ∙ v.untagged ∙ e) (λ i. (g i).3) rest.0 rest.1 in
        given (λ (z : List Field × FileScope).
        Keeps s.file s.is_inside (marks_of_members untagged (Trees.and_member_declaration specs ds semicolon more)) z.1 × AreWhole (length z.1.records) z.0)
        (own.0.0 ++ rest.0.0, rest.0.1) z rest.2 (
          keeps_then (keeps_then v w.0) t.0,
          both_whole (length rest.0.1.records) own.0.0 rest.0.0
              (more_whole (length own.0.1.records) (length rest.0.1.records) t.0.longer own.0.0 w.1) t.1,
        )

    keep_declarators : (all : Trees.MemberDeclarators) (lead : Bool) (base : CType) (semicolon : ℕ) (s : Scope) → s.file.untagged ≡ untagged
        → (s.is_inside ≡ false → AreMemberDeclarators types lead all) → (z : List Field × FileScope) → member_declarators all base semicolon s ≡ Ok z
        → Keeps s.file s.is_inside (marks_of_member_declarators untagged all) z.1 × AreWhole (length z.1.records) z.0
    keep_declarators Trees.no_member_declarators lead base semicolon s e g z h =
        given (λ (z : List Field × FileScope). Keeps s.file s.is_inside [] z.1 × AreWhole (length z.1.records) z.0) ([], s.file) z h
        (nothing s, λ j x e. cc)
    keep_declarators (Trees.and_member_declarator comma d more) lead base semicolon s e g z h =
        let at = first_declarator d semicolon in
        let steps = bound_ok (derivations d s) _ z h in
        let v = keep_steps d s e (λ i. (g i).1) steps.0 steps.1 in
        let t = bound_with steps.0.1 (type_of_derived at steps.0.1 steps.0.0 base) _ z steps.2 in
        let o = bound_with steps.0.1 (object_at steps.0.1.records (complete s at) at t.0) _ z t.2 in
        let f = with_mention s (mentions_in s.file) Named o.0 at steps.0.1 in
        let p = mention_before s Named o.0 at v in
        let b = member_before (place_in s at) o.0 (declared_name d) (member_declarators more base semicolon (moved s f)) z o.2 in
        let w = keep_declarators more false base semicolon (moved s f) (p.untagged ∙ e) (λ i. (g i).3) b.later b.later_is in
        let own : Field = record { name = b.name; ty = o.0; place = place_in s at } in
        let own_whole = object_more (length steps.0.1.records) (length b.later.1.records)
        (let n = mention_longer s (mentions_in s.file) Named o.0 at steps.0.1 in omega (arith, n, w.0.longer)) o.0
        (object_whole steps.0.1.records (complete s at) at t.0 o.0 o.1) in (
          subst (Keeps s.file s.is_inside (marks_of_member_declarators untagged (Trees.and_member_declarator comma d more))) (sym b.file)
              (keeps_then p w.0),
          subst (λ f. AreWhole (length f.records) z.0) (sym b.file)
              (subst (AreWhole (length b.later.1.records)) (sym b.fields) (first_whole (length b.later.1.records) own b.later.0 own_whole w.1)),
        )

    pub keep_enumerators : (all : Trees.Enumerators) (lead : Bool) (s : Scope) (next after : ℕ) → s.is_inside ≡ false → s.file.untagged ≡ untagged
        → (s.is_inside ≡ false → AreEnumerators types lead all)
        → (z : Unit {0} × FileScope)
        → enumerators all s next after ≡ Ok z → Stays s (marks_of_enumerators untagged all after) (spoken_of_enumerators all) [] z.1
    keep_enumerators Trees.no_enumerators lead s next after i e g z h = file_of (Stays s [] [] []) _ z h (nothing s)
    keep_enumerators (Trees.and_enumerator comma x value more) lead s next after i e g z h =
        let v = bound_ok (enumerator_value value s x.from next) _ z h in
        let w = keep_value value s x.from next e (λ i. (g i).2) v.0 v.1 in
        let b = bound_of untagged x more after v.0.0 in
        let f = bound_ok (enumerator_in v.0.1 b) _ z v.2 in
        let n = keeps_name v.0.1 b f.0 s.is_inside (enumerator_adds v.0.1 b f.0 f.1) (v.0.0, refl) in
        keeps_then w (keeps_then n (keep_enumerators more false (moved s f.0) ((v.0.0 + 1) % 2 ^ 32) after i (n.untagged ∙ w.untagged ∙ e) (λ i. (g i).3) z f.2))

    keep_value : (value : Trees.EnumeratorValue) (s : Scope) (at next : ℕ) → s.file.untagged ≡ untagged → (s.is_inside ≡ false → IsEnumeratorValue types value) → (z : ℕ × FileScope)
        → enumerator_value value s at next ≡ Ok z → Stays s (marks_of_value untagged value) (spoken_of_value value) [] z.1
    keep_value Trees.no_value s at next e g z h = file_beside (Stays s [] [] []) s.file _ z h (nothing s)
    keep_value (Trees.valued equal a) s at next e g z h =
        let c = bound_ok (constant_at (first a) (value_at (first a) (find a (for_value s)))) _ z h in
        file_beside (Stays s (marks untagged a) (spoken a) []) c.0.1 _ z c.2
        (constant_grows s (first a) (marks untagged a) (spoken a) (literals a) (find a (for_value s)) (λ y k. keep a (for_value s) e (λ i. (g i).1) y k) c.0 c.1)

    pub keep_steps : (d : Trees.Declarator) (s : Scope) → s.file.untagged ≡ untagged → (s.is_inside ≡ false → IsDeclarator types d) → (z : List Derivation × FileScope) → derivations d s ≡ Ok z
        → Stays s (marks_of_declarator untagged d) (spoken_of_declarator d) [] z.1
    keep_steps Trees.nothing s e g z h = file_of (Stays s [] [] []) _ z h (nothing s)
    keep_steps (Trees.named x) s e g z h = file_of (Stays s [] [] []) _ z h (nothing s)
    keep_steps (Trees.pointer at consts d) s e g z h =
        let steps = bound_ok (derivations d s) _ z h in
        file_of (Stays s (marks_of_declarator untagged d) (spoken_of_declarator d) []) _ z steps.2 (keep_steps d s e g steps.0 steps.1)
    keep_steps (Trees.enclosed from d to) s e g z h = keep_steps d s e (λ i. (g i).1) z h
    keep_steps (Trees.array d from Trees.no_expression to) s e g z h =
        let steps = bound_ok (derivations d s) _ z h in
        file_of (Stays s (marks_of_declarator untagged d ++ []) (spoken_of_declarator d ++ []) []) _ z steps.2
        (keeps_then (keep_steps d s e (λ i. (g i).1) steps.0 steps.1) (nothing (moved s steps.0.1)))
    keep_steps (Trees.array d from (Trees.some_expression a) to) s e g z h =
        let steps = bound_ok (derivations d s) _ z h in
        let v = keep_steps d s e (λ i. (g i).1) steps.0 steps.1 in
        let c = bound_ok (constant_at (first a) (value_at (first a) (find a (for_value (moved s steps.0.1))))) _ z steps.2 in
        let w = constant_grows (moved s steps.0.1) (first a) (marks untagged a) (spoken a) (literals a) (find a (for_value (moved s steps.0.1)))
        (λ y k. keep a (for_value (moved s steps.0.1)) (v.untagged ∙ e) (λ i. (g i).2.1) y k) c.0 c.1 in
        let l = bound_with c.0.1 (length_value (first a) c.0.0) _ z c.2 in
        file_of (Stays s (marks_of_declarator untagged d ++ marks untagged a) (spoken_of_declarator d ++ spoken a) []) _ z l.2 (keeps_then v w)
    keep_steps (Trees.function d from all to) s e g z h =
        let steps = bound_ok (derivations d s) _ z h in
        let v = keep_steps d s e (λ i. (g i).1) steps.0 steps.1 in
        let types = bound_ok (parameter_list all (inside (moved s steps.0.1))) _ z steps.2 in
        let w : Stays (moved s steps.0.1) [] (spoken_of_list all) [] types.0.1 =
        keeps_inside {u = []} refl (keep_list all (inside (moved s steps.0.1)) refl (v.untagged ∙ e) types.0 types.1) in
        file_of (Stays s (marks_of_declarator untagged d) (spoken_of_declarator d ++ spoken_of_list all) []) _ z types.2
        (subst (λ u. Keeps s.file s.is_inside u types.0.1) (append-nil (marks_of_declarator untagged d)) (keeps_then v w))

    keep_list : (all : Trees.ParameterList) (s : Scope) → s.is_inside ≡ true → s.file.untagged ≡ untagged → (z : CTypes × FileScope)
        → parameter_list all s ≡ Ok z → Stays s [] (spoken_of_list all) [] z.1
    keep_list (Trees.void_alone at) s i e z h = file_of (Stays s [] [] []) _ z h (nothing s)
    keep_list (Trees.listed all) s i e z h = keep_parameters all s i e z h

    pub keep_parameters : (all : Trees.Parameters) (s : Scope) → s.is_inside ≡ true → s.file.untagged ≡ untagged → (z : CTypes × FileScope)
        → parameters all s ≡ Ok z → Stays s [] (spoken_of_parameters all) [] z.1
    keep_parameters Trees.no_parameters s i e z h = file_of (Stays s [] [] []) _ z h (nothing s)
    keep_parameters (Trees.and_parameter comma specs d more) s i e z h =
        let at = first_specifiers specs in
        let place = first_declarator d at in
        let b = bound_ok (parameter_storage at (storage_of specs) (base_type (base_kind specs) at s.file (one_of specs s))) _ z h in
        let q = parameter_storage_is at (storage_of specs) (base_type (base_kind specs) at s.file (one_of specs s)) b.0 b.1 in
        let v = base_grows s specs at (one_of specs s) (λ x k y j. keep_one specs s e (λ j. cc) x k y j) b.0 q.1 in
        let steps = bound_ok (derivations d (moved s b.0.1)) _ z b.2 in
        let w = keep_steps d (moved s b.0.1) (v.untagged ∙ e) (λ j. cc) steps.0 steps.1 in
        let shape = bound_with steps.0.1 (derived steps.0.1.records steps.0.0 b.0.0) _ z steps.2 in
        let t = new_bound s (declared_name d) steps.0.1 (scalar_parameter place (parameter_type shape.0)) _ z shape.2 in
        let f = with_mention s (mentions_in b.0.1) Named t.1.0 place steps.0.1 in
        let p : Stays s [] (spoken_of_specifiers specs ++ place ∷ spoken_of_declarator d) [] f = keeps_inside i (mention_between s Named t.1.0 place v w) in
        let scope = with_parameter_if_named (moved s f) (declared_name d) t.1.0 in
        let rest = bound_ok (parameters more scope) _ z t.1.2 in
        let o = keep_parameters more scope (parameter_inside (moved s f) (declared_name d) t.1.0 i)
        (parameter_untagged (moved s f) (declared_name d) t.1.0 ∙ p.untagged ∙ e) rest.0 rest.1 in
        file_of (Stays s [] (spoken_of_parameters (Trees.and_parameter comma specs d more)) []) _ z rest.2
        (keeps_then p (parameter_grows (moved s f) (declared_name d) t.1.0 (spoken_of_parameters more) rest.0.1 o))

  -- ---- what stands outside of expressions asks for

  pub keep_value_of : (a : Trees.Expression) (s : Scope) → s.file.untagged ≡ untagged → (s.is_inside ≡ false → IsExpression types a) → (at : ℕ) (z : Expression × FileScope) → value_at at (find a s) ≡ Ok z
      → Stays s (marks untagged a) (spoken a) (literals a) z.1
  keep_value_of a s e g at z h = file_of_value (Stays s (marks untagged a) (spoken a) (literals a)) at (find a s) z h (λ y k. keep a s e g y k)

  pub keep_constant : (a : Trees.Expression) (s : Scope) → s.file.untagged ≡ untagged → (s.is_inside ≡ false → IsExpression types a) → (z : (IntKind × ℕ) × FileScope)
      → constant_at (first a) (value_at (first a) (find a (for_value s))) ≡ Ok z → Stays s (marks untagged a) (spoken a) [] z.1
  keep_constant a s e g z h =
      constant_grows s (first a) (marks untagged a) (spoken a) (literals a) (find a (for_value s)) (λ y k. keep a (for_value s) e g y k) z h

  pub keep_base : (specs : Trees.Specifiers) (s : Scope) → s.file.untagged ≡ untagged → (s.is_inside ≡ false → AreSpecifiers types specs) → (at : ℕ) (z : CType × FileScope)
      → base_type (base_kind specs) at s.file (one_of specs s) ≡ Ok z → Stays s (marks_of_specifiers untagged specs) (spoken_of_specifiers specs) [] z.1
  keep_base specs s e g at z h = base_grows s specs at (one_of specs s) (λ x i y k. keep_one specs s e (λ i. more_from types specs (g i)) x i y k) z h
