-- Specifiers, members and enumerators: the types that they name are those that are found (C99 6.7.2).
use Rattle.std.proofs.Common.{◌≡◌, ◌≢◌, ℕ, zero, suc, Bool, true, false, List, [], ◌∷◌, length, refl, sym, ap, ◌∙◌, subst, cond, inl, inr, arith}
use Rattle.std.proofs.lemmas.Bool.{lt-ltb}
use Rattle.std.proofs.lemmas.Bool.Decides.{nat_tests}
use Rattle.std.proofs.lemmas.Slice.Eq.{bytes_eq-Decides}
use Rattle.std.specs.Prelude.{◌⊎◌, ◌==◌, ◌^◌, ℤ, pos, negsuc, Option, Some, None, Ok, slice_get}
use Rattle.std.specs.Str.{bytes_eq}
use Rattle.lay_base.specs.declared.faults.Rule.TheVariants as R
use Rattle.c_ast.specs.declared.operators.SpecifierKeyword.{SpecifierKeyword}
use Rattle.c_types.specs.Types.{CType}
use Rattle.c_ast.specs.declared.words.Spelling.{Spelling}
use Rattle.c_ast.specs.Trees
use Rattle.c_typed.specs.Conversions.{number_of}
use Rattle.c_erasure.specs.Erasure.{Specifies, AreEnumerators, IsEnumeratorValue, IsInt, IsStructTag}
use Rattle.c_erasure.specs.Scopes.{ALocal, FileScope, Scope, Tag, Purpose, IsNumbered, tag_at}
use Rattle.c_erasure.specs.Specifiers.{types_among}
use Rattle.c_erasure.specs.Checking.Answers.{refused, with_file, moved}
use Rattle.c_erasure.specs.Checking.Declaring
use Rattle.c_erasure.specs.Checking.Finding.{one_of, specified, enumerators, enumerator_value}
use Rattle.c_checking_laws.proofs.Results.{ok}
use Rattle.c_checking_laws.proofs.CompleteNodes.{some, some_is}
use Rattle.c_checking_laws.proofs.CompleteWalk.{seen, walk_of_specifiers, walk_of_specifier, walk_of_enumerators, walk_of_value, a_use, a_tag}
use Rattle.c_checking_laws.proofs.CompletePart.{whole, Lists, part, IsWhole, IsBefore, IsAfter, Done, BlocksFit, none_after, named_same}
use Rattle.c_checking_laws.proofs.CompletePart.{left_seen, right_seen, then_seen}
use Rattle.c_checking_laws.proofs.CompleteOperands.{Completes}
use Rattle.c_checking_laws.proofs.CompleteCalls.{constant_complete}
use Rattle.c_checking_laws.proofs.CompleteDeclarators.{CompletesOne, SeenSpecifiers, words_walk}

-- ---- bytes

same_bytes : (x y : List ℕ) → x ≡ y → bytes_eq x y ≡ true
same_bytes x y h = (bytes_eq-Decides x y).1 h

pub other_bytes : (x y : List ℕ) → x ≢ y → bytes_eq x y ≡ false
other_bytes x y h = by_test (bytes_eq x y) refl
  where
    by_test : (b : Bool) → bytes_eq x y ≡ b → b ≡ false
    by_test true e = absurd (h ((bytes_eq-Decides x y).0 e))
    by_test false e = refl

pub itself : (n : ℕ) → (n == n) ≡ true
itself n = grind (arith, nat_tests)

-- ---- tags and numbers

-- the first of some tags
first_number : (all : List (List ℕ)) (r : ℕ) (tag : List ℕ) → slice_get all r ≡ Some tag
    → ((j k : ℕ) → slice_get all j ≡ Some tag → slice_get all k ≡ Some tag → j ≡ k) → Declaring.number_among all tag ≡ Some r
first_number [] r tag h u = cc
first_number (t ∷ all) zero tag h u = ap (λ b. cond b (some 0) (Declaring.next (Declaring.number_among all tag))) (same_bytes t tag (some_is t tag h))
first_number (t ∷ all) (suc r) tag h u =
    let n : t ≢ tag = λ e. let z = u 0 (suc r) (ap some e) h in absurd (omega (arith, z)) in
    let i = first_number all r tag h (λ j k p q. let z = u (suc j) (suc k) p q in omega (arith, z)) in
    ap (λ b. cond b (some 0) (Declaring.next (Declaring.number_among all tag))) (other_bytes t tag n) ∙ ap Declaring.next i ∙ ap some (omega arith)

not_none : (x : Option Bool) → x ≢ Some true → (x ≡ None) ⊎ (x ≡ Some false)
not_none None h = inl refl
not_none (Some true) h = absurd (h refl)
not_none (Some false) h = inr refl

module _ (g : FileScope) (w : IsWhole g) (ls : List ALocal) where
  pub number_back : (tag : List ℕ) (r : ℕ) → IsNumbered g tag r → Declaring.number_among g.numbered tag ≡ Some r
  number_back tag r h = first_number g.numbered r tag h (λ j k p q. w.numbered_apart j k tag p q)

  abbrev pub CompletesSpecifier : Trees.Specifier → Type 0
  CompletesSpecifier x = (s : Scope) (c : Lists) (t : CType) → BlocksFit g (length c.records) s.blocks
      → IsBefore g c (seen s.is_inside s.purpose (walk_of_specifier g.untagged x)) → Specifies (whole g ls s) x t
      → Done g c (seen s.is_inside s.purpose (walk_of_specifier g.untagged x)) (specified x (moved s (part g c))) t

  -- nothing is declared by a tag alone
  tag_adds : (i : Bool) (p : Purpose) (t : Tag) (c : Lists) → IsBefore g c (seen i p (a_tag t ∷ [])) → IsAfter g c (seen i p (a_tag t ∷ [])) c
  tag_adds true p t c b = none_after g c [] b refl refl refl
  tag_adds false p t c b = none_after g c (a_tag t ∷ []) b refl refl refl

  pub typename_complete : (x : Spelling) → CompletesSpecifier (Trees.typename x)
  unfolding specified
  typename_complete x s c t f b h =
      let asked = b.follows.0 in
      let n = named_same g ls s c b.extends x.text x.from asked.0 ∙ h in
      record {
        lists = c;
        is = ap (λ o. with_file (part g c) (Declaring.type_named x o)) n;
        after = none_after g c (a_use x.from ∷ []) b refl refl refl;
      }

  pub struct_named_complete : (at : ℕ) (x : Spelling) → CompletesSpecifier (Trees.struct_named at x)
  unfolding specified Declaring.tagged_in
  struct_named_complete at x s c t f b h =
      record { lists = c; is = by_tag h.3; after = tag_adds s.is_inside s.purpose _ c b }
    where
      n : Declaring.number_among g.numbered x.text ≡ Some h.0
      n = number_back x.text h.0 h.2

      found : with_file (part g c) (Declaring.structure_of at (Declaring.number_among g.numbered x.text)) ≡ Ok (t, part g c)
      found = ap (λ o. with_file (part g c) (Declaring.structure_of at o)) n ∙ ap (λ t. ok (t, part g c)) (sym h.1)

      by_tag : IsStructTag (whole g ls s) x → with_file (part g c) (Declaring.tagged (moved s (part g c)) at x (tag_at g.tags x.text x.from)) ≡ Ok (t, part g c)
      by_tag (inl e) = ap (λ o. with_file (part g c) (Declaring.tagged (moved s (part g c)) at x o)) e ∙ found
      by_tag (inr e) = ap (λ o. with_file (part g c) (Declaring.tagged (moved s (part g c)) at x o)) e.0
          ∙ ap (λ i. with_file (part g c) (cond i (refused R.Scope at) (Declaring.structure_of at (Declaring.number_among g.numbered x.text)))) e.1 ∙ found

  pub enum_named_complete : (at : ℕ) (x : Spelling) → CompletesSpecifier (Trees.enum_named at x)
  unfolding specified Declaring.enumerated_in
  enum_named_complete at x s c t f b h = record {
    lists = c;
    is = ap (λ o. with_file (part g c) (Declaring.enumerated (part g c) x o)) h.1 ∙ ap (λ t. ok (t, part g c)) (sym h.0);
    after = none_after g c [] b refl refl refl;
  }

  -- ---- the specifier that is no word

  pub no_one_complete : CompletesOne g w ls Trees.no_specifiers
  no_one_complete s c t f b h = absurd h

  pub word_complete : (word : SpecifierKeyword) (at : ℕ) (more : Trees.Specifiers) → CompletesOne g w ls more
      → CompletesOne g w ls (Trees.and_specifier (Trees.plain word at) more)
  unfolding one_of
  word_complete word at more i s c t f b h = let z = i s c t f b h in record { lists = z.lists; is = z.is; after = z.after }

  one_complete : (x : Trees.Specifier) (more : Trees.Specifiers) → CompletesSpecifier x → (s : Scope) (c : Lists) (t : CType)
      → BlocksFit g (length c.records) s.blocks
      → IsBefore g c (SeenSpecifiers g w ls s (Trees.and_specifier x more)) → Specifies (whole g ls s) x t × (types_among more ≡ [])
      → one_of (Trees.and_specifier x more) (moved s (part g c)) ≡ specified x (moved s (part g c))
      → Done g c (SeenSpecifiers g w ls s (Trees.and_specifier x more)) (one_of (Trees.and_specifier x more) (moved s (part g c))) t
  one_complete x more i s c t f b h same =
      let z = i s c t f (left_seen g s.is_inside s.purpose c (walk_of_specifier g.untagged x) (walk_of_specifiers g.untagged more) b) h.0 in
      let r = right_seen g s.is_inside s.purpose c z.lists (walk_of_specifier g.untagged x) (walk_of_specifiers g.untagged more) b z.after in
      let e = words_walk g w ls more h.1 in
      let n : IsAfter g z.lists (SeenSpecifiers g w ls s more) z.lists =
      subst (λ u. IsAfter g z.lists (seen s.is_inside s.purpose u) z.lists) (sym e)
      (none_after g z.lists [] (subst (λ u. IsBefore g z.lists (seen s.is_inside s.purpose u)) e r) refl refl refl) in
      record {
        lists = z.lists;
        is = same ∙ z.is;
        after = then_seen g s.is_inside s.purpose c z.lists z.lists (walk_of_specifier g.untagged x) (walk_of_specifiers g.untagged more) z.after n;
      }

  pub one_typename : (x : Spelling) (more : Trees.Specifiers) → CompletesOne g w ls (Trees.and_specifier (Trees.typename x) more)
  unfolding one_of
  one_typename x more s c t f b h = one_complete (Trees.typename x) more (typename_complete x) s c t f b h refl

  pub one_struct_named : (at : ℕ) (x : Spelling) (more : Trees.Specifiers) → CompletesOne g w ls (Trees.and_specifier (Trees.struct_named at x) more)
  unfolding one_of
  one_struct_named at x more s c t f b h = one_complete (Trees.struct_named at x) more (struct_named_complete at x) s c t f b h refl

  pub one_enum_named : (at : ℕ) (x : Spelling) (more : Trees.Specifiers) → CompletesOne g w ls (Trees.and_specifier (Trees.enum_named at x) more)
  unfolding one_of
  one_enum_named at x more s c t f b h = one_complete (Trees.enum_named at x) more (enum_named_complete at x) s c t f b h refl

  pub one_struct_body : (at : ℕ) (x : Option Spelling) (left : ℕ) (all : Trees.MemberDeclarations) (right : ℕ) (more : Trees.Specifiers)
      → CompletesSpecifier (Trees.struct_body at x left all right) → CompletesOne g w ls (Trees.and_specifier (Trees.struct_body at x left all right) more)
  unfolding one_of
  one_struct_body at x left all right more i s c t f b h = one_complete (Trees.struct_body at x left all right) more i s c t f b h refl

  pub one_enum_body : (at : ℕ) (x : Option Spelling) (left : ℕ) (all : Trees.Enumerators) (comma : Option ℕ) (right : ℕ) (more : Trees.Specifiers)
      → CompletesSpecifier (Trees.enum_body at x left all comma right)
      → CompletesOne g w ls (Trees.and_specifier (Trees.enum_body at x left all comma right) more)
  unfolding one_of
  one_enum_body at x left all comma right more i s c t f b h = one_complete (Trees.enum_body at x left all comma right) more i s c t f b h refl

  -- ---- enumerators

  abbrev pub CompletesEnumeratorValue : Trees.EnumeratorValue → Type 0
  CompletesEnumeratorValue value = (s : Scope) (c : Lists) (at next v : ℕ) → BlocksFit g (length c.records) s.blocks
      → IsBefore g c (seen s.is_inside s.purpose (walk_of_value g.untagged value)) → IsEnumeratorValue (whole g ls s) next value v
      → Done g c (seen s.is_inside s.purpose (walk_of_value g.untagged value)) (enumerator_value value (moved s (part g c)) at next) v

  unequal : (n m : ℕ) → n ≢ m → (n == m) ≡ false
  unequal n m h = grind (arith, nat_tests)

  pub no_value_complete : CompletesEnumeratorValue Trees.no_value
  unfolding enumerator_value
  no_value_complete s c at next v f b h =
      let n : (next == 2 ^ 31) ≡ false = unequal next (2 ^ 31) (λ e. h.1 (h.0 ∙ e)) in
      record {
        lists = c;
        is = rw (n) (ap (λ v. ok (v, part g c)) (sym h.0));
        after = none_after g c [] b refl refl refl;
      }

  int_back : (z : ℤ) → IsInt z → Declaring.is_int z ≡ true
  int_back (pos n) h = lt-ltb n (2 ^ 31) h
  int_back (negsuc n) h = lt-ltb n (2 ^ 31) h

  pub valued_complete : (equal : ℕ) (a : Trees.Expression) → Completes g w ls a → CompletesEnumeratorValue (Trees.valued equal a)
  unfolding enumerator_value
  valued_complete equal a i s c at next v f b h =
      let z = constant_complete g w ls a i s c h.0 v f b h.1 in
      let n = int_back (number_of h.0 v) h.2 in
      record { lists = z.lists; is = rw (z.is, n) refl; after = z.after }

  abbrev pub CompletesEnumerators : Trees.Enumerators → Type 0
  CompletesEnumerators all = (s : Scope) (c : Lists) (next after : ℕ) → s.is_inside ≡ false → BlocksFit g (length c.records) s.blocks
      → IsBefore g c (seen false s.purpose (walk_of_enumerators g.untagged all after)) → AreEnumerators (whole g ls s) next all after
      → Done g c (seen false s.purpose (walk_of_enumerators g.untagged all after)) (enumerators all (moved s (part g c)) next after) tt

  pub no_enumerators_complete : CompletesEnumerators Trees.no_enumerators
  unfolding enumerators
  no_enumerators_complete s c next after i f b h = record { lists = c; is = refl; after = none_after g c [] b refl refl refl }
