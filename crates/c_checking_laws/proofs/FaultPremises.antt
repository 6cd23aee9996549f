-- What finding starts from, beside what its soundness asks: the lists of the whole file are in the order of the text, and a record that a
-- byte asks for is known there.
use Rattle.std.proofs.Common.{◌≡◌, ℕ, zero, suc, ◌+◌, ◌≤◌, ◌<◌, Bool, true, false, refl, sym, ap, ◌∙◌, subst, List, [], ◌∷◌, ◌++◌, length, arith}
use Rattle.std.proofs.lemmas.Bool.{and_parts}
use Rattle.std.specs.Prelude.{Option, Some, None, slice_get, map, nat_lt}
use Rattle.std.specs.Option.{option_map}
use Rattle.c_types.specs.Types.{CType, void, integer, pointer, array, function, structure, Field, Record}
use Rattle.c_types.specs.Objects.{is_object}
use Rattle.c_ast.specs.declared.words.Spelling.{Spelling}
use Rattle.c_ast.specs.Trees
use Rattle.c_ast.specs.Places.{first, first_declarator}
use Rattle.c_typed.specs.Trees as Typed
use Rattle.c_typed.specs.Conversions.{element_of}
use Rattle.c_typed.specs.Typed.{Declared, type_in, field_type, path_ty, IsTypedPath}
use Rattle.c_erasure.specs.Declarators.{declared_name}
use Rattle.c_erasure.specs.Erasure.{IsTypedThing}
use Rattle.c_erasure.specs.Marks.{Mark, a_tag, an_end, a_name, marks, marks_of_type, marks_of_specifiers}
use Rattle.c_erasure.specs.Marks.{marks_of_member_declarators, marks_of_value, marks_of_declarator, tags_in, defined_in, scope_beginnings}
use Rattle.c_erasure.specs.Noted.{Thing, an_object, a_value, a_function, a_function_at, a_library_function}
use Rattle.c_erasure.specs.Scopes.{Bound, ALocal, Tag, FileScope, Scope, ended, declared}
use Rattle.c_erasure.specs.Checking.Declaring.{number_among}
use Rattle.c_checking_laws.proofs.Extends.{kept, behind}
use Rattle.c_checking_laws.proofs.Agreement as Agreement
use Rattle.c_checking_laws.proofs.Agreement.{IsObjectType, IsSteady, AreBegun, IsReady, IsGrown, added, beginnings_append}
use Rattle.c_checking_laws.proofs.Values.{typed_path, path_type_same}
use Rattle.c_checking_laws.proofs.FaultNodes.{IsProper}
use Rattle.c_checking_laws.proofs.FaultDeclaring.{IsOrderly, orderly_stays}

-- ---- records are known where they are asked for; a member has a name

module _ (untagged : ℕ → List ℕ) (ends : List ℕ) where
  -- so many records are known where a byte asks for those that end before it
  abbrev pub AreKnown : ℕ → (at : ℕ) → Type 0
  AreKnown n at = ended ends at ≤ n

  -- `n` records are known before a part
  abbrev mutual
    pub IsTimely : Bool → ℕ → Trees.Expression → Type 0
    IsTimely i n (Trees.name x) = Unit {0}
    IsTimely i n (Trees.number x v kind) = Unit {0}
    IsTimely i n (Trees.character x v) = Unit {0}
    IsTimely i n (Trees.texts all) = Unit {0}
    IsTimely i n (Trees.paren left a right) = IsTimely i n a
    IsTimely i n (Trees.index a left b right) = IsTimely i n a × IsTimely i (n + added i (marks untagged a)) b
    IsTimely i n (Trees.call f left all right) = IsTimely i n f × AreTimely i (n + added i (marks untagged f)) all
    IsTimely i n (Trees.dot a at x) = IsTimely i n a × AreKnown (n + added i (marks untagged a)) at
    IsTimely i n (Trees.arrow a at x) = IsTimely i n a × AreKnown (n + added i (marks untagged a)) (first a)
    IsTimely i n (Trees.post a op at) = IsTimely i n a
    IsTimely i n (Trees.pre op at a) = IsTimely i n a
    IsTimely i n (Trees.unary op at a) = IsTimely i n a
    IsTimely i n (Trees.sizeof_expression at a) = IsTimely i n a × AreKnown (n + added i (marks untagged a)) at
    IsTimely i n (Trees.sizeof_type at left m right) = IsTypeTimely i n m × AreKnown (n + added i (marks_of_type untagged m)) right
    IsTimely i n (Trees.cast left m right a) = IsTypeTimely i n m × IsTimely i (n + added i (marks_of_type untagged m)) a
    IsTimely i n (Trees.binary a op at b) = IsTimely i n a × IsTimely i (n + added i (marks untagged a)) b
    IsTimely i n (Trees.cond a question b colon c) = IsTimely i n a × IsTimely i (n + added i (marks untagged a)) b
        × IsTimely i (n + added i (marks untagged a) + added i (marks untagged b)) c
    IsTimely i n (Trees.assign a op at b) = IsTimely i n a × IsTimely i (n + added i (marks untagged a)) b
    IsTimely i n (Trees.comma a at b) = IsTimely i n a × IsTimely i (n + added i (marks untagged a)) b
    IsTimely i n (Trees.braces left all comma right) = Unit {0}

    pub AreTimely : Bool → ℕ → Trees.Arguments → Type 0
    AreTimely i n Trees.no_arguments = Unit {0}
    AreTimely i n (Trees.and_argument comma a more) = IsTimely i n a × AreTimely i (n + added i (marks untagged a)) more

    pub IsTypeTimely : Bool → ℕ → Trees.TypeName → Type 0
    IsTypeTimely i n (Trees.type_name specs d) = AreSpecifiersTimely i n specs × IsDeclaratorTimely i (n + added i (marks_of_specifiers untagged specs)) d

    pub AreSpecifiersTimely : Bool → ℕ → Trees.Specifiers → Type 0
    AreSpecifiersTimely i n Trees.no_specifiers = Unit {0}
    AreSpecifiersTimely i n (Trees.and_specifier (Trees.plain word at) more) = AreSpecifiersTimely i n more
    AreSpecifiersTimely i n (Trees.and_specifier x more) = IsSpecifierTimely i n x

    pub IsSpecifierTimely : Bool → ℕ → Trees.Specifier → Type 0
    IsSpecifierTimely i n (Trees.plain word at) = Unit {0}
    IsSpecifierTimely i n (Trees.typename x) = Unit {0}
    IsSpecifierTimely i n (Trees.struct_named at x) = Unit {0}
    IsSpecifierTimely i n (Trees.struct_body at x left all right) = AreMembersTimely i n all
    IsSpecifierTimely i n (Trees.enum_named at x) = Unit {0}
    IsSpecifierTimely i n (Trees.enum_body at x left all comma right) = AreEnumeratorsTimely i n all

    pub AreMembersTimely : Bool → ℕ → Trees.MemberDeclarations → Type 0
    AreMembersTimely i n Trees.no_member_declarations = Unit {0}
    AreMembersTimely i n (Trees.and_member_declaration specs ds semicolon more) = AreSpecifiersTimely i n specs
        × AreDeclaratorsTimely i (n + added i (marks_of_specifiers untagged specs)) ds semicolon
        × AreMembersTimely i (n + added i (marks_of_specifiers untagged specs) + added i (marks_of_member_declarators untagged ds)) more

    pub AreDeclaratorsTimely : Bool → ℕ → Trees.MemberDeclarators → (semicolon : ℕ) → Type 0
    AreDeclaratorsTimely i n Trees.no_member_declarators semicolon = Unit {0}
    AreDeclaratorsTimely i n (Trees.and_member_declarator comma d more) semicolon = IsDeclaratorTimely i n d
        × AreKnown (n + added i (marks_of_declarator untagged d)) (first_declarator d semicolon) × ((x : Spelling) × (declared_name d ≡ Some x))
        × AreDeclaratorsTimely i (n + added i (marks_of_declarator untagged d)) more semicolon

    pub AreEnumeratorsTimely : Bool → ℕ → Trees.Enumerators → Type 0
    AreEnumeratorsTimely i n Trees.no_enumerators = Unit {0}
    AreEnumeratorsTimely i n (Trees.and_enumerator comma x value more) = IsValueTimely i n value
        × AreEnumeratorsTimely i (n + added i (marks_of_value untagged value)) more

    pub IsValueTimely : Bool → ℕ → Trees.EnumeratorValue → Type 0
    IsValueTimely i n Trees.no_value = Unit {0}
    IsValueTimely i n (Trees.valued equal a) = IsTimely i n a

    pub IsDeclaratorTimely : Bool → ℕ → Trees.Declarator → Type 0
    IsDeclaratorTimely i n Trees.nothing = Unit {0}
    IsDeclaratorTimely i n (Trees.named x) = Unit {0}
    IsDeclaratorTimely i n (Trees.pointer at consts d) = IsDeclaratorTimely i n d
    IsDeclaratorTimely i n (Trees.enclosed left d right) = IsDeclaratorTimely i n d
    IsDeclaratorTimely i n (Trees.array d left length right) = IsDeclaratorTimely i n d × AreKnown (n + added i (marks_of_declarator untagged d)) left
        × IsLengthTimely i (n + added i (marks_of_declarator untagged d)) length
    IsDeclaratorTimely i n (Trees.function d left all right) = IsDeclaratorTimely i n d × IsListTimely (n + added i (marks_of_declarator untagged d)) all

    pub IsLengthTimely : Bool → ℕ → Trees.OptionalExpression → Type 0
    IsLengthTimely i n Trees.no_expression = Unit {0}
    IsLengthTimely i n (Trees.some_expression a) = IsTimely i n a

    pub IsListTimely : ℕ → Trees.ParameterList → Type 0
    IsListTimely n (Trees.void_alone at) = Unit {0}
    IsListTimely n (Trees.listed all) = AreParametersTimely n all

    -- no structure is defined there
    pub AreParametersTimely : ℕ → Trees.Parameters → Type 0
    AreParametersTimely n Trees.no_parameters = Unit {0}
    AreParametersTimely n (Trees.and_parameter comma specs d more) = AreSpecifiersTimely true n specs × IsDeclaratorTimely true n d × AreParametersTimely n more

  -- ---- before a part

  abbrev pub AreAscending : List ℕ → Type 0
  AreAscending all = (j k a b : ℕ) → j < k → slice_get all j ≡ Some a → slice_get all k ≡ Some b → a < b

  pub record IsPrepared (f : FileScope) (locals : List ALocal) (blocks : List (List Bound)) (is_inside : Bool) (all : List Mark) : Type 0 where
    pub ready : IsReady f locals blocks is_inside all
    pub ends_are : f.ends ≡ ends
    pub untagged_are : f.untagged ≡ untagged
    pub steady : IsSteady f
    pub orderly : IsOrderly f
    pub locals_are : (k : ℕ) (t : CType) → slice_get (map (λ l. l.ty) locals) k ≡ Some t → IsObjectType t
    -- each structure that a tag of the part names has a number, and of those that it defines each has that in whose turn it ends
    pub tags_numbered : is_inside ≡ false → (j : ℕ) (t : Tag) → slice_get (tags_in all) j ≡ Some t → t.is_enumeration ≡ false
        → (r : ℕ) × (number_among f.numbered t.name ≡ Some r)
    pub numbers_stand : is_inside ≡ false → (j : ℕ) (tag : List ℕ) → slice_get (defined_in all) j ≡ Some tag
        → slice_get f.numbered (length f.records + j) ≡ Some tag
    -- names begin to be in scope one after the other
    pub begun : is_inside ≡ false → (j from : ℕ) → slice_get (scope_beginnings all) j ≡ Some from → AreBegun f.names from
    pub ascending : is_inside ≡ false → AreAscending (scope_beginnings all)

  abbrev pub Prepared : Scope → List Mark → Type 0
  Prepared s all = IsPrepared s.file s.locals s.blocks s.is_inside all

  tags_append : (u v : List Mark) → tags_in (u ++ v) ≡ tags_in u ++ tags_in v
  tags_append [] v = refl
  tags_append (a_tag t ∷ u) v = ap (λ z. t ∷ z) (tags_append u v)
  tags_append (an_end tag right ∷ u) v = tags_append u v
  tags_append (a_name from ∷ u) v = tags_append u v

  defined_append : (u v : List Mark) → defined_in (u ++ v) ≡ defined_in u ++ defined_in v
  defined_append [] v = refl
  defined_append (a_tag t ∷ u) v = defined_append u v
  defined_append (an_end tag right ∷ u) v = ap (λ z. tag ∷ z) (defined_append u v)
  defined_append (a_name from ∷ u) v = defined_append u v

  as_many : (u : List Mark) → length (defined_in u) ≡ added false u
  as_many [] = refl
  as_many (a_tag t ∷ u) = as_many u
  as_many (an_end tag right ∷ u) = ap suc (as_many u)
  as_many (a_name from ∷ u) = as_many u

  pub left : {f : FileScope} {locals : List ALocal} {blocks : List (List Bound)} {i : Bool} (u v : List Mark)
      → IsPrepared f locals blocks i (u ++ v) → IsPrepared f locals blocks i u
  left u v p = record {
    ready = Agreement.left u v p.ready;
    ends_are = p.ends_are;
    untagged_are = p.untagged_are;
    steady = p.steady;
    orderly = p.orderly;
    locals_are = p.locals_are;
    tags_numbered = λ i j t h. p.tags_numbered i j t (rw (tags_append u v) (kept (tags_in u) (tags_in v) j t h));
    numbers_stand = λ i j tag h. p.numbers_stand i j tag (rw (defined_append u v) (kept (defined_in u) (defined_in v) j tag h));
    begun = λ i j from h. p.begun i j from (rw (beginnings_append u v) (kept (scope_beginnings u) (scope_beginnings v) j from h));
    ascending = λ i j k a b l d e. p.ascending i j k a b l
        (rw (beginnings_append u v) (kept (scope_beginnings u) (scope_beginnings v) j a d))
        (rw (beginnings_append u v) (kept (scope_beginnings u) (scope_beginnings v) k b e));
  }

  bounded : (all : List ℕ) (k x : ℕ) → slice_get all k ≡ Some x → k < length all
  bounded [] k x h = cc
  bounded (y ∷ all) zero x h = omega arith
  bounded (y ∷ all) (suc k) x h = let l = bounded all k x h in omega (arith, l)

  pub right : {f g : FileScope} {locals : List ALocal} {blocks : List (List Bound)} {i : Bool} (u v : List Mark)
      → IsPrepared f locals blocks i (u ++ v) → IsGrown f i u g → IsPrepared g locals blocks i v
  right {f} {g} {locals} {blocks} {i} u v p w = record {
    ready = Agreement.right u v p.ready w;
    ends_are = w.extends.ends ∙ p.ends_are;
    untagged_are = w.extends.untagged ∙ p.untagged_are;
    steady = w.steady p.steady;
    orderly = orderly_stays w.extends p.orderly;
    locals_are = p.locals_are;
    tags_numbered = λ e j t h i.
        let n : ℕ = length (tags_in u) + j in
        subst (λ all. (r : ℕ) × (number_among all t.name ≡ Some r)) (sym w.extends.numbered)
        (p.tags_numbered e n t (rw (tags_append u v) (behind (tags_in u) (tags_in v) j n t refl h)) i);
    numbers_stand = λ e j tag h.
        let n : ℕ = length (defined_in u) + j in
        let k = p.numbers_stand e n tag (rw (defined_append u v) (behind (defined_in u) (defined_in v) j n tag refl h)) in
        let c : length g.records ≡ length f.records + added false u = subst (λ b. length g.records ≡ length f.records + added b u) e w.counted in
        let m : length f.records + n ≡ length g.records + j = omega (arith, c, as_many u) in
        subst (λ all. slice_get all (length g.records + j) ≡ Some tag) (sym w.extends.numbered) (subst (λ m. slice_get f.numbered m ≡ Some tag) m k);
    begun = λ e j from h.
        let n : ℕ = length (scope_beginnings u) + j in
        let d : slice_get (scope_beginnings (u ++ v)) n ≡ Some from =
        rw (beginnings_append u v) (behind (scope_beginnings u) (scope_beginnings v) j n from refl h) in
        w.begun from (p.begun e n from d) (λ i k b c. p.ascending e k n b from
        (let m = bounded (scope_beginnings u) k b c in omega (arith, m)) (rw (beginnings_append u v) (kept (scope_beginnings u) (scope_beginnings v) k b c)) d);
    ascending = λ e j k a b l c d.
        let n : ℕ = length (scope_beginnings u) in
        p.ascending e (n + j) (n + k) a b (omega (arith, l))
        (rw (beginnings_append u v) (behind (scope_beginnings u) (scope_beginnings v) j (n + j) a refl c))
        (rw (beginnings_append u v) (behind (scope_beginnings u) (scope_beginnings v) k (n + k) b refl d));
  }

  -- inside of functions and parameter lists nothing else is asked
  pub inside_prepared : {f : FileScope} {locals : List ALocal} {blocks : List (List Bound)} {i : Bool} → i ≡ true → (u : List Mark)
      → IsReady f locals blocks i u → f.ends ≡ ends → f.untagged ≡ untagged → IsSteady f → IsOrderly f
      → ((k : ℕ) (t : CType) → slice_get (map (λ l. l.ty) locals) k ≡ Some t → IsObjectType t) → IsPrepared f locals blocks i u
  inside_prepared i u r e n s o l = record {
    ready = r;
    ends_are = e;
    untagged_are = n;
    steady = s;
    orderly = o;
    locals_are = l;
    tags_numbered = λ e j t h k. cc;
    numbers_stand = λ e j tag h. cc;
    begun = λ e j from h. cc;
    ascending = λ e j k a b l c d. cc;
  }

pub known_after : {f g : FileScope} {i : Bool} {u : List Mark} (n : ℕ) → n ≤ length f.records → IsGrown f i u g → n + added i u ≤ length g.records
known_after n l w = omega (arith, l, w.counted)

-- ---- objects have types of objects

module _ (d : Declared) (locals : (k : ℕ) (t : CType) → slice_get d.locals k ≡ Some t → IsObjectType t)
    (objects : (k : ℕ) (t : CType) → slice_get d.objects k ≡ Some t → IsObjectType t)
    (fields : (k j : ℕ) (r : Record) (x : Field) → slice_get d.records k ≡ Some r → slice_get r.fields j ≡ Some x → IsObjectType x.ty) where
  element_proper : (u t : CType) → element_of u ≡ Some t → IsObjectType u → IsObjectType t
  element_proper (array s n) t e h =
      let f : s ≡ t = cc in
      subst IsObjectType f (h.0, (and_parts (nat_lt 0 n) (is_object h.0 s) h.1).1)
  element_proper void t e h = cc
  element_proper (integer kind) t e h = cc
  element_proper (pointer s) t e h = cc
  element_proper (function s all) t e h = cc
  element_proper (structure r) t e h = cc

  field_proper : (r field : ℕ) (t : CType) → field_type d.records r field ≡ Some t → IsObjectType t
  field_proper r field t h = by_record (slice_get d.records r) refl h
    where
      by_field : (rec : Record) → slice_get d.records r ≡ Some rec → (o : Option Field) → slice_get rec.fields field ≡ o
          → option_map (λ (f : Field). f.ty) o ≡ Some t → IsObjectType t
      by_field rec e None g h = cc
      by_field rec e (Some x) g h = let w : x.ty ≡ t = cc in subst IsObjectType w (fields r field rec x e g)

      by_record : (o : Option Record) → slice_get d.records r ≡ o → type_in o field ≡ Some t → IsObjectType t
      by_record None e h = cc
      by_record (Some rec) e h = by_field rec e (slice_get rec.fields field) refl h

  pub path_proper : (p : Typed.Path CType) → IsTypedPath d p → IsObjectType (path_ty p)
  path_proper (Typed.path t at (Typed.local n)) h = locals n t h
  path_proper (Typed.path t at (Typed.object n)) h = objects n t h
  path_proper (Typed.path t at (Typed.deref e)) h = (d.complete at.at, h.3)
  path_proper (Typed.path t at (Typed.index e i)) h = (d.complete at.at, h.6)
  path_proper (Typed.path t at (Typed.member p r field)) h = field_proper r field t h.2
  path_proper (Typed.path t at (Typed.element p i)) h = element_proper (path_ty p) t h.3 (path_proper p h.0)

pub thing_proper : (s : Scope) → IsSteady s.file → ((k : ℕ) (t : CType) → slice_get (map (λ l. l.ty) s.locals) k ≡ Some t → IsObjectType t)
    → (th : Thing) → IsTypedThing s th → IsProper th
thing_proper s w l (an_object p) h = subst IsObjectType (path_type_same p) (path_proper (declared s) l w.objects w.fields (typed_path p) h)
thing_proper s w l (a_value e) h = tt
thing_proper s w l (a_function at n t) h = tt
thing_proper s w l (a_function_at e) h = tt
thing_proper s w l (a_library_function at which) h = tt
