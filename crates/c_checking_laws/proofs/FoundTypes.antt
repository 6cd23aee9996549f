-- What is found for type names, specifiers and declarators, in each file that goes on from the one that finding leaves.
use Rattle.std.proofs.Common.{◌≡◌, ◌≢◌, ℕ, ◌+◌, ◌<◌, Bool, true, false, refl, sym, ap, ◌∙◌, subst, List, [], ◌∷◌, ◌++◌, length, length-append, inl, inr}
use Rattle.std.proofs.Common.{arith}
use Rattle.std.proofs.lemmas.List.{map-append}
use Rattle.std.specs.Prelude.{◌⊎◌, ◌^◌, ◌%◌, map, Option, Some, None, Ok, slice_get}
use Rattle.c_types.specs.declared.ty.IntKind.{IntKind}
use Rattle.c_types.specs.Types.{CType, CTypes, Field, Record}
use Rattle.c_types.specs.Objects.{is_object}
use Rattle.c_ast.specs.declared.words.Spelling.{Spelling}
use Rattle.c_ast.specs.Trees
use Rattle.c_ast.specs.Places.{first, first_specifiers, first_declarator}
use Rattle.c_typed.specs.declared.program.MentionKind.TheVariants.{Named}
use Rattle.c_erasure.specs.Broken.{member_names, names_of_members, tag_place, if_named}
use Rattle.c_erasure.specs.Declarators.{Shape, closed, declared_name, is_name, AreDifferent}
use Rattle.c_erasure.specs.Erasure.{place_in, tag_text, comma_or, after_all, IsOne, Specifies, Declares, AreParameters}
use Rattle.c_erasure.specs.Erasure.{AreListed, AreFields, AreMembers, AreEnumerators, IsEnumeratorValue, IsBase, IsStructTag}
use Rattle.c_erasure.specs.Marks as Marks
use Rattle.c_erasure.specs.Marks.{Mark, a_tag, an_end, a_name, marks, marks_of_specifiers, marks_of_specifier, marks_of_members}
use Rattle.c_erasure.specs.Marks.{marks_of_member_declarators, marks_of_enumerators, marks_of_value, marks_of_declarator}
use Rattle.c_erasure.specs.Scopes.{FileScope, Scope, Tag, typedef, enumerator, Bound, ALocal, defines, named, ended, tag_at}
use Rattle.c_erasure.specs.Specifiers.{no_storage, types_among, storage_of}
use Rattle.c_erasure.specs.Checking.Answers.{Checked, with_file, moved}
use Rattle.c_erasure.specs.Checking.Declaring.{with_mention, mentions_in, tagged_in, enumerated_in, type_named, completed_in, enumerator_in}
use Rattle.c_erasure.specs.Checking.Declaring.{int_value, next_value, enumeration_of, Derivation, derived}
use Rattle.c_erasure.specs.Checking.Declaring.{object_at, base_kind, with_record, with_bound}
use Rattle.c_erasure.specs.Checking.Finding.{complete, base_type, type_of_derived, with_member}
use Rattle.c_checking_laws.proofs.Results.{bound_ok, ok, given, with_file_ok}
use Rattle.c_checking_laws.proofs.Extends.{Extends, itself, further, records_grow, at_end, last_or, bound_stays, record_stays, named_stays, constants_stay}
use Rattle.c_checking_laws.proofs.Agreement.{IsObjectType, IsSteady, AreBefore, fits_stay, added, IsReady, Ready, IsGrown, Grew, none_grown, then, left, right}
use Rattle.c_checking_laws.proofs.Declared.{added_nothing, mentioned, is_mentioned, before_mention, nothing_grown, int_is, next_is, tagged_is, enumerated_is}
use Rattle.c_checking_laws.proofs.Declared.{type_named_is}
use Rattle.c_checking_laws.proofs.InRange.{HasMember}
use Rattle.c_checking_laws.proofs.Settled.{object_more, object_whole, AreWhole, more_whole, first_whole, both_whole, one_more_settled}
use Rattle.c_checking_laws.proofs.Declared.{record_grown, IsCompleted, completed_is, enumerator_is, bound_grown, enumeration_is}
use Rattle.c_checking_laws.proofs.Derived.{type_derived, object_is, IsBaseOf, base_is}
use Rattle.c_checking_laws.proofs.Derived.{words_mark_nothing}
use Rattle.c_checking_laws.proofs.Found.{FoundType, FoundConstant}

-- ---- what adds no structures

-- a part behind that defines nothing
pub and_nothing : {f g h : FileScope} {b c : Bool} {u v : List Mark} → added c v ≡ 0 → (c ≡ false → Marks.scope_beginnings v ≡ [])
    → IsGrown f b u g → IsGrown g c v h → IsGrown f b u h
and_nothing {f} {g} {h} {b} {c} {u} {v} e n p q = record {
  extends = further p.extends q.extends;
  counted = omega (arith, p.counted, q.counted, e);
  names = λ locals x. q.names locals (p.names locals x);
  steady = λ x. q.steady (p.steady x);
  settled = λ x. q.settled (p.settled x);
  begun = λ before x m. q.begun before (p.begun before x m) (λ i. subst (λ all. AreBefore all before) (sym (n i)) (λ k from e. cc));
}

pub as_marks : {f g : FileScope} {b : Bool} {u v : List Mark} → b ≡ true → added b u ≡ added b v → IsGrown f b u g → IsGrown f b v g
as_marks {f} {g} {b} {u} {v} i e p = record {
  extends = p.extends;
  counted = omega (arith, p.counted, e);
  names = p.names;
  steady = p.steady;
  settled = p.settled;
  begun = λ before h m. p.begun before h (λ j. cc);
}

-- what is inside defines nothing
pub added_inside : {b : Bool} (i : b ≡ true) (u : List Mark) → added b u ≡ 0
added_inside {b} i u = rw i refl

pub ready_inside : {f : FileScope} {locals : List ALocal} {blocks : List (List Bound)} {b : Bool} (i : b ≡ true) (u v : List Mark)
    → IsReady f locals blocks b u → IsReady f locals blocks b v
ready_inside i u v r = record { names_fit = r.names_fit; blocks_fit = r.blocks_fit; ends_stand = λ j k right h. cc }

-- what is read next, where the mark before says nothing of structures
pub after_mark : {f : FileScope} {locals : List ALocal} {blocks : List (List Bound)} {b : Bool} (m : Mark) (u : List Mark)
    → Marks.ends_in (m ∷ []) ≡ [] → IsReady f locals blocks b (m ∷ u) → IsReady f locals blocks b u
after_mark {f} {locals} {blocks} {b} m u e r = right (m ∷ []) u r (none_grown f b (m ∷ []) (nothing b))
  where
    nothing : (b : Bool) → added b (m ∷ []) ≡ 0
    nothing true = refl
    nothing false = ap length e

module _ (untagged : ℕ → List ℕ) where
  pub record FoundBase (s : Scope) (specs : Trees.Specifiers) (z : CType × FileScope) : Type 0 where
    pub grew : Grew s (marks_of_specifiers untagged specs) z.1
    pub holds : (g : FileScope) → Extends z.1 g → IsBase (IsOne (moved s g) specs) specs z.0

  pub record FoundOne (s : Scope) (specs : Trees.Specifiers) (z : CType × FileScope) : Type 0 where
    pub grew : Grew s (marks_of_specifiers untagged specs) z.1
    pub holds : (g : FileScope) → Extends z.1 g → IsOne (moved s g) specs z.0

  pub record FoundSpecifier (s : Scope) (x : Trees.Specifier) (z : CType × FileScope) : Type 0 where
    pub grew : Grew s (marks_of_specifier untagged x) z.1
    pub holds : (g : FileScope) → Extends z.1 g → Specifies (moved s g) x z.0

  pub record FoundFields (s : Scope) (all : Trees.MemberDeclarations) (z : List Field × FileScope) : Type 0 where
    pub grew : Grew s (marks_of_members untagged all) z.1
    pub names : map (λ f. f.name) z.0 ≡ map (λ x. x.text) (member_names all)
    pub whole : AreWhole (length z.1.records) z.0
    pub holds : (g : FileScope) → Extends z.1 g → AreFields (moved s g) all z.0

  pub record FoundMembers (s : Scope) (base : CType) (all : Trees.MemberDeclarators) (semicolon : ℕ) (z : List Field × FileScope) : Type 0 where
    pub grew : Grew s (marks_of_member_declarators untagged all) z.1
    pub names : map (λ f. f.name) z.0 ≡ map (λ x. x.text) (names_of_members all)
    pub whole : AreWhole (length z.1.records) z.0
    pub holds : (g : FileScope) → Extends z.1 g → AreMembers (moved s g) base all semicolon z.0

  pub record FoundEnumerators (s : Scope) (next : ℕ) (all : Trees.Enumerators) (after : ℕ) (f : FileScope) : Type 0 where
    pub grew : Grew s (marks_of_enumerators untagged all after) f
    pub holds : (g : FileScope) → Extends f g → AreEnumerators (moved s g) next all after

  pub record FoundNumber (s : Scope) (next : ℕ) (value : Trees.EnumeratorValue) (z : ℕ × FileScope) : Type 0 where
    pub grew : Grew s (marks_of_value untagged value) z.1
    pub below : z.0 < 2 ^ 32
    pub holds : (g : FileScope) → Extends z.1 g → IsEnumeratorValue (moved s g) next value z.0

  -- the steps of a declarator: they make of each type what the declarator makes of it
  pub record FoundSteps (s : Scope) (d : Trees.Declarator) (z : List Derivation × FileScope) : Type 0 where
    pub grew : Grew s (marks_of_declarator untagged d) z.1
    pub is_name : z.0 ≡ [] → is_name d ≡ true
    pub holds : (g : FileScope) → Extends z.1 g → (records more : List Record) → g.records ≡ records ++ more → (t : CType) (shape : Shape)
        → derived records z.0 t ≡ Ok shape → Declares (moved s g) d t shape

  pub record FoundParameters (s : Scope) (all : Trees.Parameters) (z : CTypes × FileScope) : Type 0 where
    pub grew : Grew s [] z.1
    pub holds : (g : FileScope) → Extends z.1 g → AreListed (moved s g) all z.0

  pub record FoundList (s : Scope) (all : Trees.ParameterList) (z : CTypes × FileScope) : Type 0 where
    pub grew : Grew s [] z.1
    pub holds : (g : FileScope) → Extends z.1 g → AreParameters (moved s g) all z.0

  -- ---- specifiers (6.7.2)

  pub base_found : (s : Scope) (specs : Trees.Specifiers) (at : ℕ) (one : Checked CType)
      → ((x : Trees.Specifier) → types_among specs ≡ x ∷ [] → (y : CType × FileScope) → one ≡ Ok y → FoundOne s specs y)
      → (z : CType × FileScope) → base_type (base_kind specs) at s.file one ≡ Ok z → FoundBase s specs z
  base_found s specs at one sound z h = by_way (base_is specs at s.file one z h)
    where
      nothing : (b : Bool) → marks_of_specifiers untagged specs ≡ [] → added b (marks_of_specifiers untagged specs) ≡ 0
      nothing b e = rw e (added_nothing b)

      by_way : IsBaseOf specs s.file one z → FoundBase s specs z
      by_way (inl w) = record {
        grew = subst (λ f. Grew s (marks_of_specifiers untagged specs) f) w.2
            (none_grown s.file s.is_inside (marks_of_specifiers untagged specs) (nothing s.is_inside (words_mark_nothing untagged specs w.0)));
        holds = λ g e. inl (w.0, w.1);
      }
      by_way (inr w) = let o = sound w.0 w.1 z w.3 in record { grew = o.grew; holds = λ g e. inr (w.2, o.holds g e) }

  -- a specifier that is no word, before words alone
  pub one_found : (s : Scope) (x : Trees.Specifier) (more : Trees.Specifiers) (z : CType × FileScope) → FoundSpecifier s x z → types_among more ≡ []
      → ((g : FileScope) → Specifies (moved s g) x z.0 × (types_among more ≡ []) → IsOne (moved s g) (Trees.and_specifier x more) z.0)
      → FoundOne s (Trees.and_specifier x more) z
  one_found s x more z v e is = record {
    grew = then v.grew (none_grown z.1 s.is_inside (marks_of_specifiers untagged more) (rw (words_mark_nothing untagged more e) (added_nothing s.is_inside)));
    holds = λ g p. is g (v.holds g p, e);
  }

  pub typename_found : (s : Scope) (x : Spelling) (z : CType × FileScope) → with_file s.file (type_named x (named s x.text x.from)) ≡ Ok z
      → FoundSpecifier s (Trees.typename x) z
  typename_found s x z h =
      let w = with_file_ok s.file (type_named x (named s x.text x.from)) z h in
      let t = type_named_is x (named s x.text x.from) z.0 w.0 in
      record {
        grew = subst (λ f. Grew s [] f) w.1 (nothing_grown s.file s.is_inside);
        holds = λ g p. named_stays s g (subst (λ f. Extends f g) (sym w.1) p) x.text x.from (typedef z.0) t;
      }

  tag_grown : (f : FileScope) (b : Bool) (t : Tag) → IsGrown f b (a_tag t ∷ []) f
  tag_grown f true t = none_grown f true (a_tag t ∷ []) refl
  tag_grown f false t = none_grown f false (a_tag t ∷ []) refl

  struct_tag_stays : (s : Scope) (g : FileScope) → Extends s.file g → (x : Spelling) → IsStructTag s x → IsStructTag (moved s g) x
  struct_tag_stays s g p x (inl e) = inl (subst (λ tags. tag_at tags x.text x.from ≡ Some false) (sym p.tags) e)
  struct_tag_stays s g p x (inr e) = inr (subst (λ tags. tag_at tags x.text x.from ≡ None) (sym p.tags) e.0, e.1)

  pub struct_named_found : (s : Scope) (at : ℕ) (x : Spelling) (z : CType × FileScope) → with_file s.file (tagged_in s at x) ≡ Ok z
      → FoundSpecifier s (Trees.struct_named at x) z
  struct_named_found s at x z h =
      let w = with_file_ok s.file (tagged_in s at x) z h in
      let t = tagged_is s at x z.0 w.0 in
      record {
        grew = subst (λ f. Grew s (marks_of_specifier untagged (Trees.struct_named at x)) f) w.1 (tag_grown s.file s.is_inside _);
        holds = λ g p.
            let q = subst (λ f. Extends f g) (sym w.1) p in
            (t.0, t.1, subst (λ all. slice_get all t.0 ≡ Some x.text) (sym q.numbered) t.2, struct_tag_stays s g q x t.3);
      }

  pub enum_named_found : (s : Scope) (at : ℕ) (x : Spelling) (z : CType × FileScope) → with_file s.file (enumerated_in s.file x) ≡ Ok z
      → FoundSpecifier s (Trees.enum_named at x) z
  enum_named_found s at x z h =
      let w = with_file_ok s.file (enumerated_in s.file x) z h in
      let t = enumerated_is s.file x z.0 w.0 in
      record {
        grew = subst (λ f. Grew s [] f) w.1 (nothing_grown s.file s.is_inside);
        holds = λ g p.
            let q = subst (λ f. Extends f g) (sym w.1) p in
            (t.0, subst (λ tags. tag_at tags x.text x.from ≡ Some true) (sym q.tags) t.1);
      }

  -- ---- definitions of structures and enumerations

  pub tag_text_same : (s : Scope) (g : FileScope) → Extends s.file g → (at : ℕ) (x : Option Spelling) → tag_text (moved s g) at x ≡ tag_text s at x
  tag_text_same s g p at None = ap (λ (names : ℕ → List ℕ). names at) p.untagged
  tag_text_same s g p at (Some x) = refl

  record_steady : (f : FileScope) (r : Record) → slice_get f.numbered (length f.records) ≡ Some r.tag
      → ((j : ℕ) (x : Field) → slice_get r.fields j ≡ Some x → IsObjectType x.ty) → IsSteady f → IsSteady (with_record f r)
  record_steady f r n i h = record {
    tagged = λ k q e. of_tag k q (last_or f.records r k q e);
    fields = λ k j q x e. of_fields k j q x (last_or f.records r k q e);
    objects = h.objects;
  }
    where
      of_tag : (k : ℕ) (q : Record) → (slice_get f.records k ≡ Some q) ⊎ ((k ≡ length f.records) × (r ≡ q)) → slice_get f.numbered k ≡ Some q.tag
      of_tag k q (inl e) = h.tagged k q e
      of_tag k q (inr e) = subst (λ k. slice_get f.numbered k ≡ Some q.tag) (sym e.0)
          (subst (λ (q : Record). slice_get f.numbered (length f.records) ≡ Some q.tag) e.1 n)

      of_fields : (k j : ℕ) (q : Record) (x : Field) → (slice_get f.records k ≡ Some q) ⊎ ((k ≡ length f.records) × (r ≡ q)) → slice_get q.fields j ≡ Some x
          → IsObjectType x.ty
      of_fields k j q x (inl e) g = h.fields k j q x e g
      of_fields k j q x (inr e) g = i j x (subst (λ (q : Record). slice_get q.fields j ≡ Some x) (sym e.1) g)

  end_grown : (f : FileScope) (b : Bool) → b ≡ false → (r : Record) (tag : List ℕ) (end : ℕ) {names : List Spelling} {z : CType × FileScope}
      → IsCompleted f names r z → AreWhole (length f.records) r.fields → r.fields ≢ [] → IsGrown f b (an_end tag end ∷ []) (with_record f r)
  end_grown f true e r tag end c whole filled = cc
  end_grown f false e r tag end c whole filled = record {
    extends = record_grown f r;
    counted = length-append f.records (r ∷ []);
    names = λ locals h. fits_stay (record_grown f r) locals f.names h;
    steady = record_steady f r c.numbered (λ j x e. (length f.records, whole j x e));
    settled = one_more_settled f.numbered f.records r c.number c.small whole filled;
    begun = λ before h m. h;
  }

  -- a structure that has a member has a field
  fields_filled : (s : Scope) (all : Trees.MemberDeclarations) (fields : List Field) → HasMember all → AreFields s all fields → fields ≢ []
  fields_filled s Trees.no_member_declarations fields m h = absurd m
  fields_filled s (Trees.and_member_declaration specs Trees.no_member_declarators semicolon more) fields m h = absurd m
  fields_filled s (Trees.and_member_declaration specs (Trees.and_member_declarator comma d others) semicolon more) fields m
      (base, own, rest, w, storage, is, (y, t, later, named, declares, complete, said, v, next), behind) =
      λ e. let f : [] ≡ record { name = y.text; ty = t; place = place_in s (first_declarator d semicolon) } ∷ (later ++ rest) =
      sym e ∙ w ∙ ap (λ own. own ++ rest) v in cc

  pub struct_ready : (s : Scope) (at : ℕ) (x : Option Spelling) (left_at : ℕ) (all : Trees.MemberDeclarations) (right_at : ℕ)
      → Ready s (marks_of_specifier untagged (Trees.struct_body at x left_at all right_at)) → Ready s (marks_of_members untagged all)
  struct_ready s at x left_at all right_at r =
      left (marks_of_members untagged all) _ (after_mark (Marks.a_structure untagged at x) (marks_of_members untagged all ++ _ ∷ []) refl r)

  pub struct_body_found : (s : Scope) (at : ℕ) (x : Option Spelling) (left_at : ℕ) (all : Trees.MemberDeclarations) (right_at : ℕ)
      → Ready s (marks_of_specifier untagged (Trees.struct_body at x left_at all right_at)) → s.is_inside ≡ false → HasMember all
      → (m : List Field × FileScope) → FoundFields s all m → (z : CType × FileScope)
      → completed_in m.1 (tag_place at x) (member_names all) (record { tag = tag_text s at x; place = place_in s at; fields = m.0 }) ≡ Ok z
      → FoundSpecifier s (Trees.struct_body at x left_at all right_at) z
  struct_body_found s at x left_at all right_at r i some m v z h =
      let rec : Record = record { tag = tag_text s at x; place = place_in s at; fields = m.0 } in
      let c = completed_is m.1 (tag_place at x) (member_names all) rec z h in
      let u = marks_of_members untagged all in
      let tag = Marks.tag_name untagged at x in
      let after : IsReady s.file s.locals s.blocks s.is_inside (u ++ an_end tag right_at ∷ []) =
      after_mark (Marks.a_structure untagged at x) (u ++ an_end tag right_at ∷ []) refl r in
      let last = right u (an_end tag right_at ∷ []) after v.grew in
      let ended : slice_get m.1.ends (length m.1.records) ≡ Some right_at =
      subst (λ n. slice_get m.1.ends n ≡ Some right_at) (omega arith) (last.ends_stand i 0 right_at refl) in
      let filled = fields_filled (moved s m.1) all m.0 some (v.holds m.1 (itself m.1)) in
      let grown = then v.grew (end_grown m.1 s.is_inside i rec tag right_at c v.whole filled) in
      record {
        grew = subst (λ f. Grew s (marks_of_specifier untagged (Trees.struct_body at x left_at all right_at)) f) (sym c.file_is)
            (then (tag_grown s.file s.is_inside _) grown);
        holds = λ g p.
            let q : Extends (with_record m.1 rec) g = subst (λ f. Extends f g) c.file_is p in
            let k : Extends m.1 g = further (record_grown m.1 rec) q in
            let e : Extends s.file g = further v.grew.extends k in
            let t = tag_text_same s g e at x in (
              length m.1.records,
              rec,
              i,
              c.ty_is,
              rw (k.numbered, t) c.numbered,
              record_stays q (length m.1.records) rec (at_end m.1.records rec),
              subst (λ ends. slice_get ends (length m.1.records) ≡ Some right_at) (sym k.ends) ended,
              sym t,
              ap (λ file. record { file = file; at = at }) (sym e.file),
              v.holds g k,
              subst AreDifferent (sym v.names) c.different,
            );
      }

  an_enumeration_grown : (f : FileScope) (b : Bool) (x : Option Spelling) (end : ℕ) → IsGrown f b (Marks.an_enumeration untagged x end) f
  an_enumeration_grown f b None end = nothing_grown f b
  an_enumeration_grown f b (Some x) end = tag_grown f b _

  pub enum_body_found : (s : Scope) (at : ℕ) (x : Option Spelling) (left_at : ℕ) (all : Trees.Enumerators) (comma : Option ℕ) (right_at : ℕ)
      → s.is_inside ≡ false → (f : FileScope) → FoundEnumerators s 0 all (after_all comma right_at) f → (z : CType × FileScope)
      → with_file f (enumeration_of f x) ≡ Ok z → FoundSpecifier s (Trees.enum_body at x left_at all comma right_at) z
  enum_body_found s at x left_at all comma right_at i f v z h =
      let w = with_file_ok f (enumeration_of f x) z h in
      record {
        grew = subst (λ f. Grew s (marks_of_specifier untagged (Trees.enum_body at x left_at all comma right_at)) f) w.1
            (then v.grew (an_enumeration_grown f s.is_inside x right_at));
        holds = λ g p. (i, enumeration_is f x z.0 w.0, v.holds g (subst (λ f. Extends f g) (sym w.1) p));
      }

  -- ---- enumerators (6.7.2.2)

  pub no_value_found : (s : Scope) (at next : ℕ) → next < 2 ^ 32 → (z : ℕ × FileScope) → with_file s.file (next_value at next) ≡ Ok z
      → FoundNumber s next Trees.no_value z
  no_value_found s at next b z h =
      let w = with_file_ok s.file (next_value at next) z h in
      let n = next_is at next z.0 w.0 in
      record {
        grew = subst (λ f. Grew s [] f) w.1 (nothing_grown s.file s.is_inside);
        below = rw n.0 b;
        holds = λ g p. n;
      }

  pub value_found : (s : Scope) (equal : ℕ) (a : Trees.Expression) (next : ℕ) (c : (IntKind × ℕ) × FileScope) → FoundConstant untagged s a c
      → (z : ℕ × FileScope) → with_file c.1 (int_value (first a) c.0) ≡ Ok z → FoundNumber s next (Trees.valued equal a) z
  value_found s equal a next c v z h =
      let w = with_file_ok c.1 (int_value (first a) c.0) z h in
      let n = int_is (first a) c.0 z.0 w.0 in
      record {
        grew = subst (λ f. Grew s (marks untagged a) f) w.1 v.grew;
        below = subst (λ n. n < 2 ^ 32) n.0 v.below;
        holds = λ g p.
            let k = v.holds g (subst (λ f. Extends f g) (sym w.1) p) in
            subst (λ n. IsEnumeratorValue (moved s g) next (Trees.valued equal a) n) n.0 (c.0.0, k, n.1);
      }

  name_grown : (f : FileScope) (b : Bool) → b ≡ false → (from : ℕ) (x : Bound) (v : ℕ) → x.from ≡ from → x.entity ≡ enumerator v → v < 2 ^ 32
      → IsGrown f b (a_name from ∷ []) (with_bound f x)
  name_grown f b i from x v w e l = bound_grown f x b (a_name from ∷ []) (nothing b) (λ before m. rw w (m i 0 from refl))
      (λ locals. rw e (let k : v % 2 ^ 32 ≡ v = omega (arith, l) in k))
    where
      nothing : (b : Bool) → added b (a_name from ∷ []) ≡ 0
      nothing true = refl
      nothing false = refl

  abbrev pub bound_of : Spelling → Trees.Enumerators → ℕ → ℕ → Bound
  bound_of x more after v = record { name = x.text; place = x.from; from = comma_or more after; how = defines; entity = enumerator v }

  -- with an enumerator that is declared
  pub enumerator_grown : (s : Scope) → s.is_inside ≡ false → (next : ℕ) (x : Spelling) (value : Trees.EnumeratorValue) (more : Trees.Enumerators) (after : ℕ) (v : ℕ × FileScope)
      → FoundNumber s next value v → (f : FileScope) → enumerator_in v.1 (bound_of x more after v.0) ≡ Ok f
      → IsGrown v.1 s.is_inside (a_name (comma_or more after) ∷ []) f
  enumerator_grown s i next x value more after v w f e =
      subst (λ f. IsGrown v.1 s.is_inside (a_name (comma_or more after) ∷ []) f) (enumerator_is v.1 (bound_of x more after v.0) f e)
      (name_grown v.1 s.is_inside i (comma_or more after) (bound_of x more after v.0) v.0 refl refl w.below)

  pub no_enumerators_found : (s : Scope) (next after : ℕ) (z : Unit {0} × FileScope) → ok (tt, s.file) ≡ Ok z
      → FoundEnumerators s next Trees.no_enumerators after z.1
  no_enumerators_found s next after z h =
      given (λ (z : Unit {0} × FileScope). FoundEnumerators s next Trees.no_enumerators after z.1) (tt, s.file) z h
      (record { grew = nothing_grown s.file s.is_inside; holds = λ g p. tt })

  pub enumerator_found : (s : Scope) → s.is_inside ≡ false → (comma : Option ℕ) (x : Spelling) (value : Trees.EnumeratorValue) (more : Trees.Enumerators) (next after : ℕ)
      → (v : ℕ × FileScope) → FoundNumber s next value v → (f : FileScope) → enumerator_in v.1 (bound_of x more after v.0) ≡ Ok f
      → (g : FileScope) → FoundEnumerators (moved s f) ((v.0 + 1) % 2 ^ 32) more after g
      → FoundEnumerators s next (Trees.and_enumerator comma x value more) after g
  enumerator_found s j comma x value more next after v w f e g rest =
      let b = bound_of x more after v.0 in
      let i = enumerator_is v.1 b f e in
      let n = enumerator_grown s j next x value more after v w f e in
      let k : slice_get f.names (length v.1.names) ≡ Some b = subst (λ (f : FileScope). slice_get f.names (length v.1.names) ≡ Some b) i (at_end v.1.names b) in
      record {
        grew = then w.grew (then n rest.grew);
        holds = λ h p.
            let q = further rest.grew.extends p in
            (v.0, w.holds h (further n.extends q), (length v.1.names, bound_stays q (length v.1.names) b k), rest.holds h p);
      }

  -- ---- members (6.7.2.1)

  pub no_members_found : (s : Scope) (z : List Field × FileScope) → ok ([], s.file) ≡ Ok z → FoundFields s Trees.no_member_declarations z
  no_members_found s z h =
      given (FoundFields s Trees.no_member_declarations) ([], s.file) z h
      (record { grew = nothing_grown s.file s.is_inside; names = refl; whole = λ j x e. cc; holds = λ g p. refl })

  pub members_found : (s : Scope) (specs : Trees.Specifiers) (ds : Trees.MemberDeclarators) (semicolon : ℕ) (more : Trees.MemberDeclarations)
      → storage_of specs ≡ no_storage → (b : CType × FileScope) → FoundBase s specs b
      → (own : List Field × FileScope) → FoundMembers (moved s b.1) b.0 ds semicolon own
      → (rest : List Field × FileScope) → FoundFields (moved s own.1) more rest → (z : List Field × FileScope) → ok (own.0 ++ rest.0, rest.1) ≡ Ok z
      → FoundFields s (Trees.and_member_declaration specs ds semicolon more) z
  members_found s specs ds semicolon more storage b v own w rest u z h =
      given (FoundFields s (Trees.and_member_declaration specs ds semicolon more)) (own.0 ++ rest.0, rest.1) z h (record {
        grew = then (then v.grew w.grew) u.grew;
        names = map-append (λ f. f.name) own.0 rest.0 ∙ ap (λ z. z ++ map (λ f. f.name) rest.0) w.names
            ∙ ap (λ z. map (λ x. x.text) (names_of_members ds) ++ z) u.names ∙ sym (map-append (λ x. x.text) (names_of_members ds) (member_names more));
        whole = both_whole (length rest.1.records) own.0 rest.0
            (more_whole (length own.1.records) (length rest.1.records) (records_grow u.grew.extends) own.0 w.whole) u.whole;
        holds = λ g p.
            let q = further u.grew.extends p in
            (b.0, own.0, rest.0, refl, storage, v.holds g (further w.grew.extends q), w.holds g q, u.holds g p);
      })

  pub no_declarators_found : (s : Scope) (base : CType) (semicolon : ℕ) (z : List Field × FileScope) → ok ([], s.file) ≡ Ok z
      → FoundMembers s base Trees.no_member_declarators semicolon z
  no_declarators_found s base semicolon z h =
      given (FoundMembers s base Trees.no_member_declarators semicolon) ([], s.file) z h
      (record { grew = nothing_grown s.file s.is_inside; names = refl; whole = λ j x e. cc; holds = λ g p. refl })

  -- the file in which a member is declared
  abbrev pub with_field : Scope → ℕ → CType → ℕ → FileScope → FileScope
  with_field s n t at f = with_mention s n Named t at f

  pub member_found : (s : Scope) (base : CType) (comma : Option ℕ) (d : Trees.Declarator) (more : Trees.MemberDeclarators) (semicolon : ℕ)
      → (steps : List Derivation × FileScope) → FoundSteps s d steps → (t u : CType)
      → type_of_derived (first_declarator d semicolon) steps.1 steps.0 base ≡ Ok t
      → object_at steps.1.records (complete s (first_declarator d semicolon)) (first_declarator d semicolon) t ≡ Ok u
      → (r : Checked (List Field))
      → ((rest : List Field × FileScope) → r ≡ Ok rest
      → FoundMembers (moved s (with_field s (mentions_in s.file) u (first_declarator d semicolon) steps.1)) base more semicolon rest)
      → (z : List Field × FileScope) → with_member (place_in s (first_declarator d semicolon)) u (declared_name d) r ≡ Ok z
      → FoundMembers s base (Trees.and_member_declarator comma d more) semicolon z
  member_found s base comma d more semicolon steps v t u k j r sound z h = by_name (declared_name d) refl h
    where
      at : ℕ
      at = first_declarator d semicolon

      o : (is_object (complete s (first_declarator d semicolon)) t ≡ true) × (t ≡ u)
      o = object_is steps.1.records (complete s (first_declarator d semicolon)) (first_declarator d semicolon) t u j

      by_name : (x : Option Spelling) → declared_name d ≡ x → with_member (place_in s (first_declarator d semicolon)) u x r ≡ Ok z
          → FoundMembers s base (Trees.and_member_declarator comma d more) semicolon z
      by_name None e h = cc
      by_name (Some x) e h =
          let rest = bound_ok r _ z h in
          let w = sound rest.0 rest.1 in
          let n = mentions_in s.file in
          given (FoundMembers s base (Trees.and_member_declarator comma d more) semicolon) _ z rest.2 (record {
            grew = then (mentioned s n Named u at v.grew) w.grew;
            names = ap (λ z. x.text ∷ z) w.names ∙ ap (λ y. map (λ (x : Spelling). x.text) (if_named y ++ names_of_members more)) (sym e);
            whole = first_whole (length rest.0.1.records) (record { name = x.text; ty = u; place = place_in s at }) rest.0.0
                (object_more (length steps.1.records) (length rest.0.1.records)
                (records_grow (before_mention s steps.1 rest.0.1 n Named u at w.grew.extends)) u
                (object_whole steps.1.records (complete s at) at t u j)) w.whole;
            holds = λ g p.
                let q = further w.grew.extends p in
                let l = before_mention s steps.1 g n Named u at q in
                let f : Extends s.file g = further v.grew.extends l in
                let c = constants_stay f (λ ends file. is_object (ended ends at) t ≡ true) o.0 in
                let y = v.holds g l steps.1.records l.records.0 l.records.1 base (closed t) (type_derived at steps.1 steps.0 base t k) in (
                  x,
                  u,
                  rest.0.0,
                  e,
                  subst (λ t. Declares (moved s g) d base (closed t)) o.1 y,
                  subst (λ t. is_object (ended g.ends at) t ≡ true) o.1 c,
                  is_mentioned s steps.1 g n Named u at q,
                  ap (λ file. record { name = x.text; ty = u; place = record { file = file; at = at } } ∷ rest.0.0) (sym f.file),
                  w.holds g p,
                );
          })

  -- ---- type names (6.7.6)

  pub type_found : (s : Scope) (specs : Trees.Specifiers) (d : Trees.Declarator) → storage_of specs ≡ no_storage
      → (b : CType × FileScope) → FoundBase s specs b → (steps : List Derivation × FileScope) → FoundSteps (moved s b.1) d steps → (t : CType)
      → type_of_derived (first_declarator d (first_specifiers specs)) steps.1 steps.0 b.0 ≡ Ok t → (z : CType × FileScope)
      → ok (t, with_mention s (mentions_in b.1) Named t (first_declarator d (first_specifiers specs)) steps.1) ≡ Ok z
      → FoundType untagged s (Trees.type_name specs d) z
  type_found s specs d storage b v steps w t k z h =
      let at = first_declarator d (first_specifiers specs) in
      let n = mentions_in b.1 in
      given (FoundType untagged s (Trees.type_name specs d)) _ z h (record {
        grew = mentioned s n Named t at (then v.grew w.grew);
        holds = λ g p.
            let l = before_mention s steps.1 g n Named t at p in
            let y = w.holds g l steps.1.records l.records.0 l.records.1 b.0 (closed t) (type_derived at steps.1 steps.0 b.0 t k) in
            ((b.0, storage, v.holds g (further w.grew.extends l), y), is_mentioned s steps.1 g n Named t at p);
      })
