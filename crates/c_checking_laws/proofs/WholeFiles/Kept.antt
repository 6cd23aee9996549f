-- What a part of the text keeps of a file: records are settled (`Settled` of `c_checking_laws`), objects are complete, and names differ.
use Rattle.std.proofs.Common.{◌≡◌, ◌≢◌, ℕ, zero, suc, ◌+◌, ◌≤◌, Bool, true, false, refl, sym, ap, ◌∙◌, subst, cond, List, [], ◌∷◌}
use Rattle.std.proofs.Common.{◌++◌, length, take, drop, append-nil, append_assoc, length-append, arith, inl, inr}
use Rattle.std.specs.Prelude.{Some, slice_get, ◌⊎◌}
use Rattle.c_types.specs.Objects.{is_object}
use Rattle.c_types.specs.Types.{CType, structure, Record}
use Rattle.c_ast.specs.declared.words.Spelling.{Spelling}
use Rattle.c_typed.specs.declared.program.MentionKind.{MentionKind}
use Rattle.c_erasure.specs.Erasure.{literal_of, literal_object}
use Rattle.c_erasure.specs.Files.{AreConsistent}
use Rattle.c_erasure.specs.Marks.{Mark, a_tag, an_end, a_name, tags_in}
use Rattle.c_erasure.specs.Scopes.{Bound, Tag, AnObject, AMention, FileScope, Scope, is_measured, tag_at}
use Rattle.c_erasure.specs.Checking.Declaring.{with_mention, with_object}
use Rattle.c_erasure.specs.Checking.Declaring.{tag_named}
use Rattle.c_checking_laws.proofs.Extends.{last_or, one_of_both}
use Rattle.c_checking_laws.proofs.Declared.{IsCompleted}
use Rattle.c_checking_laws.proofs.Settled.{object_more, AreWhole, AreSettled, one_more_settled}
pub use Rattle.c_checking_laws.proofs.Consistent.{one_more_consistent, undeclared, IsNamed, enumerator_adds, IsAnEnumerator}

-- ---- objects, and tags

abbrev pub AreObjectsWhole : List Record → List AnObject → Type 0
AreObjectsWhole records objects = (n : ℕ) (o : AnObject) → slice_get objects n ≡ Some o → is_object (length records) o.ty ≡ true

abbrev pub IsALiteral : (file : ℕ) → AnObject → Type 0
IsALiteral file o = (at : ℕ) × (all : List Spelling) × (o ≡ literal_object (record { file = file; at = at }) (literal_of all))

-- a tag of the text as the checker takes it: that of an enumeration stands nowhere before, and that of a structure is none of an enumeration,
-- or one that is not written
pub record IsTagFit (untagged : ℕ → List ℕ) (tags : List Tag) (t : Tag) : Type 0 where
  pub enumeration : t.is_enumeration ≡ true → (u : Tag) → tag_named tags t.name ≡ Some u → u.place ≡ t.place
  pub structure : t.is_enumeration ≡ false → (tag_at tags t.name t.from ≢ Some true) ⊎ (t.name ≡ untagged t.place)

abbrev pub AreTagsFit : (untagged : ℕ → List ℕ) → List Tag → List Tag → Type 0
AreTagsFit untagged tags [] = Unit {0}
AreTagsFit untagged tags (t ∷ more) = IsTagFit untagged tags t × AreTagsFit untagged tags more

pub fit_then : (untagged : ℕ → List ℕ) (tags u v : List Tag) → AreTagsFit untagged tags u → AreTagsFit untagged tags v
    → AreTagsFit untagged tags (u ++ v)
fit_then untagged tags [] v p q = q
fit_then untagged tags (t ∷ u) v p q = (p.0, fit_then untagged tags u v p.1 q)

pub tags_append : (u v : List Mark) → tags_in (u ++ v) ≡ tags_in u ++ tags_in v
tags_append [] v = refl
tags_append (a_tag t ∷ u) v = ap (λ z. t ∷ z) (tags_append u v)
tags_append (an_end tag right ∷ u) v = tags_append u v
tags_append (a_name from ∷ u) v = tags_append u v

-- ---- what a part keeps

pub record Keeps (f : FileScope) (is_inside : Bool) (all : List Mark) (g : FileScope) : Type 0 where
  pub file : g.file ≡ f.file
  pub untagged : g.untagged ≡ f.untagged
  pub tags : g.tags ≡ f.tags
  pub numbered : g.numbered ≡ f.numbered
  pub functions : g.functions ≡ f.functions
  pub longer : length f.records ≤ length g.records
  pub settled : AreSettled f.numbered f.records → AreSettled g.numbered g.records
  pub whole : AreObjectsWhole f.records f.objects → AreObjectsWhole g.records g.objects
  pub consistent : AreConsistent f.names → AreConsistent g.names
  pub fit : is_inside ≡ false → AreTagsFit f.untagged f.tags (tags_in all)
  -- names that are new are those of enumerators, and objects that are new are literals
  pub names : (more : List Bound) × (g.names ≡ f.names ++ more) × ((k : ℕ) (b : Bound) → slice_get more k ≡ Some b → IsAnEnumerator b)
  pub objects : (more : List AnObject) × (g.objects ≡ f.objects ++ more) × ((k : ℕ) (o : AnObject) → slice_get more k ≡ Some o → IsALiteral f.file o)

pub keeps_nothing : (f : FileScope) (i : Bool) → Keeps f i [] f
keeps_nothing f i = record {
  file = refl;
  untagged = refl;
  tags = refl;
  numbered = refl;
  functions = refl;
  longer = omega arith;
  settled = λ h. h;
  whole = λ h. h;
  consistent = λ h. h;
  fit = λ e. tt;
  names = ([], sym (append-nil f.names), λ k b e. cc);
  objects = ([], sym (append-nil f.objects), λ k o e. cc);
}

both_of : {X : Type 0} (P : X → Type 0) (u v : List X) → ((k : ℕ) (x : X) → slice_get u k ≡ Some x → P x)
    → ((k : ℕ) (x : X) → slice_get v k ≡ Some x → P x) → (k : ℕ) (x : X) → slice_get (u ++ v) k ≡ Some x → P x
both_of {X} P u v p q k x e = by_part (one_of_both u v k x e)
  where
    by_part : (slice_get u k ≡ Some x) ⊎ ((j : ℕ) × (k ≡ length u + j) × (slice_get v j ≡ Some x)) → P x
    by_part (inl h) = p k x h
    by_part (inr h) = q h.0 x h.2

pub keeps_then : {f g h : FileScope} {i : Bool} {u v : List Mark} → Keeps f i u g → Keeps g i v h → Keeps f i (u ++ v) h
keeps_then {f} {g} {h} {i} {u} {v} p q = record {
  file = q.file ∙ p.file;
  untagged = q.untagged ∙ p.untagged;
  tags = q.tags ∙ p.tags;
  numbered = q.numbered ∙ p.numbered;
  functions = q.functions ∙ p.functions;
  longer = omega (arith, p.longer, q.longer);
  settled = λ x. q.settled (p.settled x);
  whole = λ x. q.whole (p.whole x);
  consistent = λ x. q.consistent (p.consistent x);
  fit = λ e.
      subst (AreTagsFit f.untagged f.tags) (sym (tags_append u v))
      (fit_then f.untagged f.tags (tags_in u) (tags_in v) (p.fit e)
      (subst (λ tags. AreTagsFit f.untagged tags (tags_in v)) p.tags (subst (λ names. AreTagsFit names g.tags (tags_in v)) p.untagged (q.fit e))));
  names = (
    p.names.0 ++ q.names.0,
    q.names.1 ∙ ap (λ z. z ++ q.names.0) p.names.1 ∙ append_assoc f.names p.names.0 q.names.0,
    both_of IsAnEnumerator p.names.0 q.names.0 p.names.2 q.names.2,
  );
  objects = (
    p.objects.0 ++ q.objects.0,
    q.objects.1 ∙ ap (λ z. z ++ q.objects.0) p.objects.1 ∙ append_assoc f.objects p.objects.0 q.objects.0,
    both_of (IsALiteral f.file) p.objects.0 q.objects.0 p.objects.2
        (λ k o e. subst (λ file. IsALiteral file o) p.file (q.objects.2 k o e)),
  );
}

-- inside of functions no tag is new
pub keeps_inside : {f g : FileScope} {i j : Bool} {u : List Mark} → i ≡ true → Keeps f i u g → Keeps f j [] g
keeps_inside e p = record {
  file = p.file;
  untagged = p.untagged;
  tags = p.tags;
  numbered = p.numbered;
  functions = p.functions;
  longer = p.longer;
  settled = p.settled;
  whole = p.whole;
  consistent = p.consistent;
  fit = λ e. tt;
  names = p.names;
  objects = p.objects;
}

said : (b : Bool) {f g : FileScope} {i : Bool} {u : List Mark} (all : List AMention) → Keeps f i u g → Keeps f i u (cond b g (record g { mentions = all }))
said true all p = p
said false all p = record {
  file = p.file;
  untagged = p.untagged;
  tags = p.tags;
  numbered = p.numbered;
  functions = p.functions;
  longer = p.longer;
  settled = p.settled;
  whole = p.whole;
  consistent = p.consistent;
  fit = p.fit;
  names = p.names;
  objects = p.objects;
}

pub keeps_mention : (s : Scope) {f g : FileScope} {i : Bool} {u : List Mark} (n : ℕ) (kind : MentionKind) (t : CType) (at : ℕ) → Keeps f i u g
    → Keeps f i u (with_mention s n kind t at g)
keeps_mention s {g = g} n kind t at p =
    said (is_measured s.purpose) (take n g.mentions ++ record { kind = kind; ty = t; at = at } ∷ drop n g.mentions) p

one_only : {X : Type 0} (P : X → Type 0) (y : X) → P y → (k : ℕ) (x : X) → slice_get (y ∷ []) k ≡ Some x → P x
one_only P y p zero x e = let f : y ≡ x = cc in subst P f p
one_only P y p (suc k) x e = cc

pub objects_more : (records : List Record) (objects : List AnObject) (o : AnObject) → is_object (length records) o.ty ≡ true → AreObjectsWhole records objects
    → AreObjectsWhole records (objects ++ o ∷ [])
objects_more records objects o is h n p e = of_one (last_or objects o n p e)
  where
    of_one : (slice_get objects n ≡ Some p) ⊎ ((n ≡ length objects) × (o ≡ p)) → is_object (length records) p.ty ≡ true
    of_one (inl e) = h n p e
    of_one (inr e) = subst (λ (p : AnObject). is_object (length records) p.ty ≡ true) e.1 is

pub keeps_object : (f : FileScope) (at : ℕ) (all : List Spelling) (i : Bool)
    → is_object (length f.records) (literal_object (record { file = f.file; at = at }) (literal_of all)).ty ≡ true
    → Keeps f i [] (with_object f (literal_object (record { file = f.file; at = at }) (literal_of all)))
keeps_object f at all i is =
    let o = literal_object (record { file = f.file; at = at }) (literal_of all) in
    record {
      file = refl;
      untagged = refl;
      tags = refl;
      numbered = refl;
      functions = refl;
      longer = omega arith;
      settled = λ h. h;
      whole = objects_more f.records f.objects o is;
      consistent = λ h. h;
      fit = λ e. tt;
      names = (keeps_nothing f i).names;
      objects = (o ∷ [], refl, one_only (IsALiteral f.file) o (at, all, refl));
    }

pub keeps_record : (f : FileScope) (names : List Spelling) (r : Record) (z : CType × FileScope) (tag : List ℕ) (right : ℕ) (i : Bool)
    → IsCompleted f names r z → AreWhole (length f.records) r.fields → r.fields ≢ [] → Keeps f i (an_end tag right ∷ []) z.1
keeps_record f names r z tag right i a whole filled =
    let n = keeps_nothing f i in
    subst (Keeps f i (an_end tag right ∷ [])) (sym a.file_is) (record {
      file = refl;
      untagged = refl;
      tags = refl;
      numbered = refl;
      functions = refl;
      longer = let l = length-append f.records (r ∷ []) in omega (arith, l);
      settled = one_more_settled f.numbered f.records r a.number a.small whole filled;
      whole = λ h n o e.
          object_more (length f.records) (length (f.records ++ r ∷ [])) (let l = length-append f.records (r ∷ []) in omega (arith, l)) o.ty (h n o e);
      consistent = λ h. h;
      fit = λ e. tt;
      names = n.names;
      objects = n.objects;
    })

pub keeps_name : (f : FileScope) (b : Bound) (g : FileScope) (i : Bool) → IsNamed f b g → IsAnEnumerator b → Keeps f i (a_name b.from ∷ []) g
keeps_name f b g i a is =
    let n = keeps_nothing f i in
    subst (Keeps f i (a_name b.from ∷ [])) a.file_is (record {
      file = refl;
      untagged = refl;
      tags = refl;
      numbered = refl;
      functions = refl;
      longer = omega arith;
      settled = λ h. h;
      whole = λ h. h;
      consistent = one_more_consistent f.names b (λ k c e same. absurd (undeclared f.names b.name a.is_new k c e same));
      fit = λ e. tt;
      names = (b ∷ [], refl, one_only IsAnEnumerator b is);
      objects = n.objects;
    })

pub keeps_tag : {f g : FileScope} {i : Bool} {u : List Mark} (t : Tag) → (i ≡ false → IsTagFit f.untagged f.tags t) → Keeps f i u g → Keeps f i (a_tag t ∷ u) g
keeps_tag t is p = record {
  file = p.file;
  untagged = p.untagged;
  tags = p.tags;
  numbered = p.numbered;
  functions = p.functions;
  longer = p.longer;
  settled = p.settled;
  whole = p.whole;
  consistent = p.consistent;
  fit = λ e. (is e, p.fit e);
  names = p.names;
  objects = p.objects;
}
