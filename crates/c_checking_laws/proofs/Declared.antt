-- What else a file declares: mentions, literals, constants, tags, structures and enumerators.
use Rattle.std.proofs.Common.{add-one, ◌≡◌, ◌≢◌, ℕ, zero, suc, ◌+◌, ◌≤◌, ◌<◌, Bool, true, false, refl, sym, ap, ◌∙◌, subst, cond, List, [], ◌∷◌, ◌++◌}
use Rattle.std.proofs.Common.{length, take, drop, length-append, arith, inl, inr}
use Rattle.std.proofs.lemmas.Bool.{and_from, leb-true, lt-ltb, ltb-true, eqb-true, eq-eqb}
use Rattle.std.proofs.lemmas.List.Elements.{All-cons, All-nil}
use Rattle.std.proofs.lemmas.Slice.Eq.{bytes_eq-Decides}
use Rattle.std.specs.Prelude.{All, Option, Some, None, Ok, slice_get, map, nat_lt, nat_le, ◌==◌, ◌^◌, ℤ, pos, negsuc, ◌⊎◌}
use Rattle.std.specs.Str.{bytes_eq}
use Rattle.c_types.specs.declared.ty.IntKind.{IntKind}
use Rattle.c_types.specs.declared.ty.IntKind.TheVariants.{Char, Int}
use Rattle.c_types.specs.Types.{CType, void, integer, pointer, array, function, structure, Record}
use Rattle.c_types.specs.Objects.{is_object}
use Rattle.c_types.specs.Layouts.{size_of_record}
use Rattle.c_tokens.specs.QuotedScan.{string_bytes}
use Rattle.c_ast.specs.declared.words.Spelling.{Spelling}
use Rattle.c_typed.specs.declared.program.MentionKind.{MentionKind}
use Rattle.c_typed.specs.Trees as Typed
use Rattle.c_typed.specs.Conversions.{is_scalar, number_of}
use Rattle.c_typed.specs.Constants.{Constant, none, undefined, valued, constant_of}
use Rattle.c_erasure.specs.Broken.{Fault}
use Rattle.c_erasure.specs.Declarators.{AreDifferent}
use Rattle.c_erasure.specs.Erasure.{typed, IsTypedThing, IsConstant, IsInt, IsNew, IsStructTag, IsLiteral, IsLiteralFor, literal_of, literal_object, unmade}
use Rattle.c_erasure.specs.Erasure.{place_in}
use Rattle.c_erasure.specs.Marks.{Mark, scope_beginnings}
use Rattle.c_erasure.specs.Noted.{Expression, Thing, an_object, type_of, way}
use Rattle.c_erasure.specs.Scopes.{Bound, AnObject, AMention, ALocal, FileScope, Scope, Tag, Entity, typedef, IsMentioned, IsNumbered, is_measured}
use Rattle.c_erasure.specs.Scopes.{tag_at, here, ended}
use Rattle.c_erasure.specs.Scopes.{Purpose, in_full, value_alone, type_alone, for_value}
use Rattle.c_erasure.specs.Specifiers.{Storage, no_storage, is_register, a_typedef, is_extern, is_static, is_auto, several}
use Rattle.c_erasure.specs.Checking.Answers.{Answer, moved}
use Rattle.c_erasure.specs.Checking.Declaring.{with_mention, with_object, literal_for, literal_in, constant_of_type, constant_in, number_among, next}
use Rattle.c_erasure.specs.Checking.Declaring.{structure_of, tagged, tagged_in}
use Rattle.c_erasure.specs.Checking.Declaring.{enumerated, enumerated_in, type_named, standing, repeated_or, repeated, unless, is_next, with_record}
use Rattle.c_erasure.specs.Checking.Declaring.{completed_in}
use Rattle.c_erasure.specs.Checking.Declaring.{with_bound, new_name, enumerator_in, declared_among, is_int, int_value, next_value, only_tag, enumeration_of}
use Rattle.c_erasure.specs.Checking.Declaring.{tag_named, length_of_number, length_value}
use Rattle.c_erasure.specs.Checking.Declaring.{without_storage, parameter_storage, new_here, new_if_named, scalar_parameter}
use Rattle.c_checking_laws.proofs.Results.{given, only_if, chosen}
use Rattle.c_checking_laws.proofs.Extends.{Extends, itself, further, kept, at_end, around, among, last_or}
use Rattle.c_checking_laws.proofs.Agreement.{IsFit, fits_stay, IsObjectType, IsSteady, AreBegun, AreBefore, added, IsGrown, one_more_fits}
use Rattle.c_checking_laws.proofs.Settled.{Settles}
use Rattle.c_checking_laws.proofs.Values.{IsValue, Stands, unconverted_same}
use Rattle.c_checking_laws.proofs.NodesOfParts.{same_bytes}

pub added_nothing : (b : Bool) → added b [] ≡ 0
added_nothing true = refl
added_nothing false = refl

-- ---- mentions

mention_extends : (b : Bool) (f : FileScope) (n : ℕ) (m : AMention) → Extends f (cond b f (record f { mentions = take n f.mentions ++ m ∷ drop n f.mentions }))
mention_extends true f n m = itself f
mention_extends false f n m = record {
  file = refl;
  tags = refl;
  ends = refl;
  numbered = refl;
  untagged = refl;
  names = (itself f).names;
  records = (itself f).records;
  mentions = λ kind t at h. around n f.mentions m h.0 _ h.1;
  types = λ n t h. h;
  objects = λ n o h i. h;
  functions = λ n t h. h;
}

mention_counted : (b : Bool) (f : FileScope) (n : ℕ) (m : AMention)
    → length (cond b f (record f { mentions = take n f.mentions ++ m ∷ drop n f.mentions })).records ≡ length f.records
mention_counted true f n m = refl
mention_counted false f n m = refl

mention_names : (b : Bool) (f : FileScope) (n : ℕ) (m : AMention)
    → (cond b f (record f { mentions = take n f.mentions ++ m ∷ drop n f.mentions })).names ≡ f.names
mention_names true f n m = refl
mention_names false f n m = refl

mention_steady : (b : Bool) (f : FileScope) (n : ℕ) (m : AMention) → IsSteady f
    → IsSteady (cond b f (record f { mentions = take n f.mentions ++ m ∷ drop n f.mentions }))
mention_steady true f n m h = h
mention_steady false f n m h = record { tagged = h.tagged; fields = h.fields; objects = h.objects }

mention_settles : (b : Bool) (f : FileScope) (n : ℕ) (m : AMention)
    → Settles f (cond b f (record f { mentions = take n f.mentions ++ m ∷ drop n f.mentions }))
mention_settles true f n m = λ h. h
mention_settles false f n m = λ h. h

-- a mention beside what is declared
pub mentioned : {f g : FileScope} {is_inside : Bool} {all : List Mark} (s : Scope) (n : ℕ) (kind : MentionKind) (t : CType) (at : ℕ)
    → IsGrown f is_inside all g → IsGrown f is_inside all (with_mention s n kind t at g)
mentioned {f} {g} {is_inside} {all} s n kind t at p =
    let m : AMention = record { kind = kind; ty = t; at = at } in
    let e = mention_extends (is_measured s.purpose) g n m in
    record {
      extends = further p.extends e;
      counted = mention_counted (is_measured s.purpose) g n m ∙ p.counted;
      names = λ locals h. rw (mention_names (is_measured s.purpose) g n m) (fits_stay e locals g.names (p.names locals h));
      steady = λ h. mention_steady (is_measured s.purpose) g n m (p.steady h);
      settled = λ h. mention_settles (is_measured s.purpose) g n m (p.settled h);
      begun = λ before h w. subst (λ all. AreBegun all before) (sym (mention_names (is_measured s.purpose) g n m)) (p.begun before h w);
    }

mention_stands : (s : Scope) (b : Bool) → is_measured s.purpose ≡ b → (f g : FileScope) (n : ℕ) (kind : MentionKind) (t : CType) (at : ℕ)
    → Extends (cond b f (record f { mentions = take n f.mentions ++ record { kind = kind; ty = t; at = at } ∷ drop n f.mentions })) g
    → IsMentioned (moved s g) kind t at
mention_stands s true e f g n kind t at p = inl e
mention_stands s false e f g n kind t at p = inr (p.mentions kind t at (among n f.mentions (record { kind = kind; ty = t; at = at })))

pub is_mentioned : (s : Scope) (f g : FileScope) (n : ℕ) (kind : MentionKind) (t : CType) (at : ℕ) → Extends (with_mention s n kind t at f) g
    → IsMentioned (moved s g) kind t at
is_mentioned s f g n kind t at p = mention_stands s (is_measured s.purpose) refl f g n kind t at p

pub before_mention : (s : Scope) (f g : FileScope) (n : ℕ) (kind : MentionKind) (t : CType) (at : ℕ) → Extends (with_mention s n kind t at f) g → Extends f g
before_mention s f g n kind t at p =
    further (mention_extends (is_measured s.purpose) f n (record { kind = kind; ty = t; at = at })) p

-- ---- string literals

mapped_kept : {X Y : Type 0} (v : X → Y) (xs ys : List X) (k : ℕ) (y : Y) → slice_get (map v xs) k ≡ Some y → slice_get (map v (xs ++ ys)) k ≡ Some y
mapped_kept v [] ys k y e = cc
mapped_kept v (x ∷ xs) ys zero y e = e
mapped_kept v (x ∷ xs) ys (suc k) y e = mapped_kept v xs ys k y e

mapped_at_end : {X Y : Type 0} (v : X → Y) (xs : List X) (x : X) → slice_get (map v (xs ++ x ∷ [])) (length xs) ≡ Some (v x)
mapped_at_end v [] x = refl
mapped_at_end v (z ∷ xs) x = mapped_at_end v xs x

object_extends : (f : FileScope) (o : AnObject) → Extends f (with_object f o)
object_extends f o = record {
  file = refl;
  tags = refl;
  ends = refl;
  numbered = refl;
  untagged = refl;
  names = (itself f).names;
  records = (itself f).records;
  mentions = λ kind t at h. h;
  types = λ n t h. mapped_kept (λ o. o.ty) f.objects (o ∷ []) n t h;
  objects = λ n p h i. kept f.objects (o ∷ []) n p h;
  functions = λ n t h. h;
}

mapped_or : {X Y : Type 0} (v : X → Y) (xs : List X) (x : X) (k : ℕ) (y : Y) → slice_get (map v (xs ++ x ∷ [])) k ≡ Some y
    → (slice_get (map v xs) k ≡ Some y) ⊎ (v x ≡ y)
mapped_or v [] x zero y e = inr (let f : v x ≡ y = cc in f)
mapped_or v [] x (suc k) y e = cc
mapped_or v (z ∷ xs) x zero y e = inl e
mapped_or v (z ∷ xs) x (suc k) y e = mapped_or v xs x k y e

object_steady : (f : FileScope) (o : AnObject) → IsObjectType o.ty → IsSteady f → IsSteady (with_object f o)
object_steady f o i h = record { tagged = h.tagged; fields = h.fields; objects = λ n t e. of_one n t (mapped_or (λ o. o.ty) f.objects o n t e) }
  where
    of_one : (n : ℕ) (t : CType) → (slice_get (map (λ o. o.ty) f.objects) n ≡ Some t) ⊎ (o.ty ≡ t) → IsObjectType t
    of_one n t (inl e) = h.objects n t e
    of_one n t (inr e) = subst IsObjectType e i

object_grown : (f : FileScope) (o : AnObject) (is_inside : Bool) → IsObjectType o.ty → IsGrown f is_inside [] (with_object f o)
object_grown f o b i = record {
  extends = object_extends f o;
  counted = omega (arith, added_nothing b);
  names = λ locals h. fits_stay (object_extends f o) locals f.names h;
  steady = object_steady f o i;
  settled = λ h. h;
  begun = λ before h m. h;
}

pub nothing_grown : (f : FileScope) (is_inside : Bool) → IsGrown f is_inside [] f
nothing_grown f b = record {
  extends = itself f;
  counted = omega (arith, added_nothing b);
  names = λ locals h. h;
  steady = λ h. h;
  settled = λ h. h;
  begun = λ before h m. h;
}

literal_length : (all : List Spelling) → 0 < length (literal_of all)
literal_length [] = omega arith
literal_length (x ∷ more) = omega (arith, literal_length more, length-append (string_bytes x.text) (literal_of more))

literal_is_object : (count : ℕ) (all : List Spelling) → is_object count (array (integer Char) (length (literal_of all))) ≡ true
literal_is_object count all = and_from (nat_lt 0 (length (literal_of all))) true (lt-ltb 0 (length (literal_of all)) (literal_length all)) refl

-- a literal that is found
pub record IsFoundLiteral (s : Scope) (from : ℕ) (all : List Spelling) (z : Thing × FileScope) : Type 0 where
  pub grown : IsGrown s.file s.is_inside [] z.1
  pub holds : (g : FileScope) → Extends z.1 g
      → Stands (IsLiteral (moved s g) (place_in (moved s g) from) (literal_of all)) (moved s g) z.0

unmade_literal : (s : Scope) (from : ℕ) (all : List Spelling) (g : FileScope) → Extends s.file g
    → IsTypedThing (moved s g) (unmade (place_in s from) (array (integer Char) (length (literal_of all))))
unmade_literal s from all g p = (refl, refl, refl, literal_is_object (ended g.ends from) all)

literal_by : (p : Purpose) (s : Scope) → s.purpose ≡ p → (from : ℕ) (all : List Spelling) (z : Thing × FileScope)
    → literal_for p s (place_in s from) (literal_of all) ≡ Ok z → IsFoundLiteral s from all z
literal_by in_full s e from all z h =
    let f : FileScope = with_object s.file (literal_object (place_in s from) (literal_of all)) in
    let n : ℕ = length s.file.objects in
    let th : Thing = an_object (way (array (integer Char) (length (literal_of all))) (place_in s from) (Typed.object n)) in
    given (IsFoundLiteral s from all) (th, f) z h (record {
      grown = object_grown s.file (literal_object (place_in s from) (literal_of all)) s.is_inside (0, literal_is_object 0 all);
      holds = λ g p.
          let o = p.objects n (literal_object (place_in s from) (literal_of all)) (at_end s.file.objects _) refl in
          let t = p.types n (array (integer Char) (length (literal_of all))) (mapped_at_end (λ o. o.ty) s.file.objects _) in
          let l : IsLiteralFor in_full (moved s g) (place_in s from) (literal_of all) th = (n, refl, o) in
          let k : IsLiteral (moved s g) (place_in s from) (literal_of all) th =
          subst (λ p. IsLiteralFor p (moved s g) (place_in s from) (literal_of all) th) (sym e) l in
          (subst (λ file. IsLiteral (moved s g) (record { file = file; at = from }) (literal_of all) th) (sym p.file) k, t, tt);
    })
literal_by value_alone s e from all z h =
    let th : Thing = unmade (place_in s from) (array (integer Char) (length (literal_of all))) in
    given (IsFoundLiteral s from all) (th, s.file) z h (record {
      grown = nothing_grown s.file s.is_inside;
      holds = λ g p.
          let k : IsLiteral (moved s g) (place_in s from) (literal_of all) th =
          subst (λ p. IsLiteralFor p (moved s g) (place_in s from) (literal_of all) th) (sym e) refl in
          (subst (λ file. IsLiteral (moved s g) (record { file = file; at = from }) (literal_of all) th) (sym p.file) k, unmade_literal s from all g p, tt);
    })
literal_by type_alone s e from all z h =
    let th : Thing = unmade (place_in s from) (array (integer Char) (length (literal_of all))) in
    given (IsFoundLiteral s from all) (th, s.file) z h (record {
      grown = nothing_grown s.file s.is_inside;
      holds = λ g p.
          let k : IsLiteral (moved s g) (place_in s from) (literal_of all) th =
          subst (λ p. IsLiteralFor p (moved s g) (place_in s from) (literal_of all) th) (sym e) refl in
          (subst (λ file. IsLiteral (moved s g) (record { file = file; at = from }) (literal_of all) th) (sym p.file) k, unmade_literal s from all g p, tt);
    })

pub literal_made : (s : Scope) (from : ℕ) (all : List Spelling) (z : Thing × FileScope) → literal_in s (place_in s from) (literal_of all) ≡ Ok z
    → IsFoundLiteral s from all z
unfolding literal_in
literal_made s from all z h = literal_by s.purpose s refl from all z h

-- ---- integer constant expressions (6.6)

pub constant_is : (at : ℕ) (x : Expression) (c : IntKind × ℕ) → constant_in at x ≡ Ok c → (type_of x ≡ integer c.0) × (constant_of (typed x) ≡ valued c.1)
unfolding constant_in
constant_is at x c h = by_parts (type_of x) (constant_of (typed x)) h
  where
    by_parts : (t : CType) (d : Constant) → constant_of_type at t d ≡ Ok c → (t ≡ integer c.0) × (d ≡ valued c.1)
    by_parts (integer kind) (valued v) h = given (λ (c : IntKind × ℕ). (integer kind ≡ integer c.0) × (valued v ≡ valued c.1)) (kind, v) c h (refl, refl)
    by_parts (integer kind) none h = cc
    by_parts (integer kind) undefined h = cc
    by_parts void d h = cc
    by_parts (pointer t) d h = cc
    by_parts (array t n) d h = cc
    by_parts (function t all) d h = cc
    by_parts (structure r) d h = cc

pub constant_made : (Is : Scope → Thing → Type 0) (s : Scope) (at : ℕ) (x : Expression) → IsValue (Is (for_value s)) (for_value s) x
    → (c : IntKind × ℕ) → constant_in at x ≡ Ok c → IsConstant Is s c.0 c.1
constant_made Is s at x v c h = let k = constant_is at x c h in (x, v.0, v.1, unconverted_same x v.2, k.0, k.1)

is_int_so : (z : ℤ) → is_int z ≡ true → IsInt z
is_int_so (pos n) h = ltb-true n (2 ^ 31) h
is_int_so (negsuc n) h = ltb-true n (2 ^ 31) h

pub int_is : (at : ℕ) (c : IntKind × ℕ) (v : ℕ) → int_value at c ≡ Ok v → (c.1 ≡ v) × IsInt (number_of c.0 c.1)
int_is at c v h =
    let b = only_if (is_int (number_of c.0 c.1)) _ _ _ v h in
    (given (λ v. c.1 ≡ v) c.1 v b.1 refl, is_int_so (number_of c.0 c.1) b.0)

pub next_is : (at v w : ℕ) → next_value at v ≡ Ok w → (w ≡ v) × (w ≢ 2 ^ 31)
next_is at v w h =
    chosen (v == 2 ^ 31) _ _ w ((w ≡ v) × (w ≢ 2 ^ 31)) h (λ b h. cc)
    (λ b h. given (λ w. (w ≡ v) × (w ≢ 2 ^ 31)) v w h (refl, λ e. let f = eq-eqb v (2 ^ 31) e in cc))

pub length_is : (at : ℕ) (c : IntKind × ℕ) (n : ℕ) → length_value at c ≡ Ok n → (number_of c.0 c.1 ≡ pos n) × (1 ≤ n)
length_is at c n h = by_number (number_of c.0 c.1) h
  where
    by_number : (z : ℤ) → length_of_number at z ≡ Ok n → (z ≡ pos n) × (1 ≤ n)
    by_number (pos zero) h = cc
    by_number (pos (suc m)) h = given (λ n. (pos (suc m) ≡ pos n) × (1 ≤ n)) (suc m) n h (refl, omega arith)
    by_number (negsuc m) h = cc

-- ---- tags (6.7.2.3)

pub number_is : (all : List (List ℕ)) (x : List ℕ) (r : ℕ) → number_among all x ≡ Some r → slice_get all r ≡ Some x
number_is [] x r h = cc
number_is (t ∷ more) x r h = by_test (bytes_eq t x) refl (number_among more x) (λ r h. number_is more x r h) h
  where
    by_test : (b : Bool) → bytes_eq t x ≡ b → (o : Option ℕ) → ((r : ℕ) → o ≡ Some r → slice_get more r ≡ Some x)
        → cond b (Some 0) (next o) ≡ Some r → slice_get (t ∷ more) r ≡ Some x
    by_test true e o later h = let n : 0 ≡ r = cc in subst (λ r. slice_get (t ∷ more) r ≡ Some x) n (ap Some (same_bytes t x e))
    by_test false e None later h = cc
    by_test false e (Some k) later h = let n : k + 1 ≡ r = cc in subst (λ r. slice_get (t ∷ more) r ≡ Some x) n (rw add-one (later k refl))

structure_is : (at : ℕ) (o : Option ℕ) (t : CType) → structure_of at o ≡ Ok t → (r : ℕ) × (o ≡ Some r) × (t ≡ structure r)
structure_is at None t h = cc
structure_is at (Some r) t h = given (λ t. (k : ℕ) × (Some r ≡ Some k) × (t ≡ structure k)) (structure r) t h (r, refl, refl)

pub tagged_is : (s : Scope) (at : ℕ) (x : Spelling) (t : CType) → tagged_in s at x ≡ Ok t
    → (r : ℕ) × (t ≡ structure r) × IsNumbered s.file x.text r × IsStructTag s x
unfolding tagged_in
tagged_is s at x t h = by_tag (tag_at s.file.tags x.text x.from) refl h
  where
    numbered : structure_of at (number_among s.file.numbered x.text) ≡ Ok t → IsStructTag s x
        → (r : ℕ) × (t ≡ structure r) × IsNumbered s.file x.text r × IsStructTag s x
    numbered h i =
        let n = structure_is at (number_among s.file.numbered x.text) t h in
        (n.0, n.2, number_is s.file.numbered x.text n.0 n.1, i)

    by_tag : (o : Option Bool) → tag_at s.file.tags x.text x.from ≡ o → tagged s at x o ≡ Ok t
        → (r : ℕ) × (t ≡ structure r) × IsNumbered s.file x.text r × IsStructTag s x
    by_tag (Some false) e h = numbered h (inl e)
    by_tag (Some true) e h = cc
    by_tag None e h = chosen s.is_inside _ _ t _ h (λ b h. cc) (λ b h. numbered h (inr (e, b)))

pub enumerated_is : (f : FileScope) (x : Spelling) (t : CType) → enumerated_in f x ≡ Ok t → (t ≡ integer Int) × (tag_at f.tags x.text x.from ≡ Some true)
unfolding enumerated_in
enumerated_is f x t h = by_tag (tag_at f.tags x.text x.from) h
  where
    by_tag : (o : Option Bool) → enumerated f x o ≡ Ok t → (t ≡ integer Int) × (o ≡ Some true)
    by_tag (Some true) h = given (λ t. (t ≡ integer Int) × (Some true ≡ Some true)) (integer Int) t h (refl, refl)
    by_tag (Some false) h = cc
    by_tag None h = cc

pub type_named_is : (x : Spelling) (o : Option Entity) (t : CType) → type_named x o ≡ Ok t → o ≡ Some (typedef t)
type_named_is x None t h = cc
type_named_is x (Some (typedef u)) t h = given (λ t. Some (typedef u) ≡ Some (typedef t)) u t h refl
type_named_is x (Some e) t h = cc

-- ---- definitions of structures (6.7.2.1)

pub unless_ok : {A : Type 0} (o : Option Fault) (r : Answer A) (y : A) → unless o r ≡ Ok y → (o ≡ None) × (r ≡ Ok y)
unless_ok None r y h = (refl, h)
unless_ok (Some f) r y h = cc

abbrev texts : List Spelling → List (List ℕ)
texts all = map (λ x. x.text) all

abbrev AreOthers : List Spelling → List ℕ → Type 0
AreOthers [] x = Unit {0}
AreOthers (y ∷ more) x = (y.text ≢ x) × AreOthers more x

not_standing : (before : List Spelling) (x : List ℕ) → standing before x ≡ None → AreOthers before x
not_standing [] x h = tt
not_standing (y ∷ more) x h = by_test (bytes_eq y.text x) refl (λ h. not_standing more x h) h
  where
    by_test : (b : Bool) → bytes_eq y.text x ≡ b → (standing more x ≡ None → AreOthers more x) → cond b (Some y) (standing more x) ≡ None
        → (y.text ≢ x) × AreOthers more x
    by_test true e later h = cc
    by_test false e later h = (λ f. let g = (bytes_eq-Decides y.text x).1 f in cc, later h)

other_at : (before : List Spelling) (x : List ℕ) → AreOthers before x → (k : ℕ) (z : Spelling) → slice_get before k ≡ Some z → z.text ≢ x
other_at [] x h k z e = cc
other_at (y ∷ more) x h zero z e = let f : y ≡ z = cc in subst (λ (z : Spelling). z.text ≢ x) f h.0
other_at (y ∷ more) x h (suc k) z e = other_at more x h.1 k z e

not_repeated : (y : Spelling) (o : Option Spelling) (later : Option Fault) → repeated_or y o later ≡ None → (o ≡ None) × (later ≡ None)
not_repeated y None later h = (refl, h)
not_repeated y (Some x) later h = cc

all_others : (before names : List Spelling) → repeated before names ≡ None → (k : ℕ) (z : Spelling) → slice_get before k ≡ Some z
    → All (λ y. z.text ≢ y) (texts names)
all_others before [] h k z e = All-nil (λ y. z.text ≢ y)
all_others before (y ∷ more) h k z e =
    let n = not_repeated y (standing before y.text) (repeated (before ++ y ∷ []) more) h in
    All-cons (λ y. z.text ≢ y) y.text (texts more) (other_at before y.text (not_standing before y.text n.0) k z e)
    (all_others (before ++ y ∷ []) more n.1 k z (kept before (y ∷ []) k z e))

pub are_different : (before names : List Spelling) → repeated before names ≡ None → AreDifferent (texts names)
are_different before [] h = tt
are_different before (y ∷ more) h =
    let n = not_repeated y (standing before y.text) (repeated (before ++ y ∷ []) more) h in
    (all_others (before ++ y ∷ []) more n.1 (length before) y (at_end before y), are_different (before ++ y ∷ []) more n.1)

-- one more record
pub record_grown : (f : FileScope) (r : Record) → Extends f (with_record f r)
record_grown f r = record {
  file = refl;
  tags = refl;
  ends = refl;
  numbered = refl;
  untagged = refl;
  names = (itself f).names;
  records = (r ∷ [], refl);
  mentions = λ kind t at h. h;
  types = λ n t h. h;
  objects = λ n o h i. h;
  functions = λ n t h. h;
}

pub record IsCompleted (f : FileScope) (names : List Spelling) (r : Record) (z : CType × FileScope) : Type 0 where
  pub different : AreDifferent (map (λ x. x.text) names)
  pub number : number_among f.numbered r.tag ≡ Some (length f.records)
  pub numbered : slice_get f.numbered (length f.records) ≡ Some r.tag
  pub small : size_of_record f.records r ≤ 16777216
  pub ty_is : z.0 ≡ structure (length f.records)
  pub file_is : z.1 ≡ with_record f r

next_number : (n : ℕ) (o : Option ℕ) → is_next n o ≡ true → o ≡ Some n
next_number n None h = cc
next_number n (Some r) h = ap Some (eqb-true r n h)

pub completed_is : (f : FileScope) (named : ℕ) (names : List Spelling) (r : Record) (z : CType × FileScope) → completed_in f named names r ≡ Ok z
    → IsCompleted f names r z
unfolding completed_in
completed_is f named names r z h =
    let u = unless_ok (repeated [] names) _ z h in
    chosen (is_next (length f.records) (number_among f.numbered r.tag)) _ _ z (IsCompleted f names r z) u.1
    (λ b h. chosen (nat_le (size_of_record f.records r) 16777216) _ _ z (IsCompleted f names r z) h
    (λ c h. given (IsCompleted f names r) (structure (length f.records), with_record f r) z h (record {
      different = are_different [] names u.0;
      number = next_number (length f.records) (number_among f.numbered r.tag) b;
      numbered = number_is f.numbered r.tag (length f.records) (next_number (length f.records) (number_among f.numbered r.tag) b);
      small = leb-true (size_of_record f.records r) 16777216 c;
      ty_is = refl;
      file_is = refl;
    }))
    (λ c h. cc))
    (λ b h. cc)

-- ---- enumerators (6.7.2.2)

pub enumerator_is : (f : FileScope) (b : Bound) (g : FileScope) → enumerator_in f b ≡ Ok g → with_bound f b ≡ g
unfolding enumerator_in
enumerator_is f b g h = by_name (declared_among f.names b.name) h
  where
    by_name : (o : Option Bound) → new_name f b o ≡ Ok g → with_bound f b ≡ g
    by_name None h = given (λ g. with_bound f b ≡ g) (with_bound f b) g h refl
    by_name (Some old) h = cc

bound_extends : (f : FileScope) (b : Bound) → Extends f (with_bound f b)
bound_extends f b = record {
  file = refl;
  tags = refl;
  ends = refl;
  numbered = refl;
  untagged = refl;
  names = (b ∷ [], refl);
  records = (itself f).records;
  mentions = λ kind t at h. h;
  types = λ n t h. h;
  objects = λ n o h i. h;
  functions = λ n t h. h;
}

pub bound_grown : (f : FileScope) (b : Bound) (is_inside : Bool) (all : List Mark) → added is_inside all ≡ 0
    → ((before : ℕ) → (is_inside ≡ false → AreBefore (scope_beginnings all) before) → b.from < before)
    → ((locals : List ALocal) → IsFit (with_bound f b) locals b.entity) → IsGrown f is_inside all (with_bound f b)
bound_grown f b is_inside all e begins fit = record {
  extends = bound_extends f b;
  counted = omega (arith, e);
  names = λ locals h. one_more_fits (with_bound f b) locals f.names b (fits_stay (bound_extends f b) locals f.names h) (fit locals);
  steady = λ h. record { tagged = h.tagged; fields = h.fields; objects = h.objects };
  settled = λ h. h;
  begun = λ before h m k c e. of_one before h m k c (last_or f.names b k c e);
}
  where
    of_one : (before : ℕ) → AreBegun f.names before → (is_inside ≡ false → AreBefore (scope_beginnings all) before) → (k : ℕ) (c : Bound)
        → (slice_get f.names k ≡ Some c) ⊎ ((k ≡ length f.names) × (b ≡ c)) → c.from < before
    of_one before h m k c (inl e) = h k c e
    of_one before h m k c (inr e) = subst (λ (c : Bound). c.from < before) e.1 (begins before m)

pub enumeration_is : (f : FileScope) (x : Option Spelling) (t : CType) → enumeration_of f x ≡ Ok t → t ≡ integer Int
enumeration_is f None t h = given (λ t. t ≡ integer Int) (integer Int) t h refl
enumeration_is f (Some x) t h = by_tag (tag_named f.tags x.text) h
  where
    by_tag : (o : Option Tag) → only_tag x o ≡ Ok t → t ≡ integer Int
    by_tag None h = given (λ t. t ≡ integer Int) (integer Int) t h refl
    by_tag (Some u) h = chosen (u.place == x.from) _ _ t (t ≡ integer Int) h (λ b h. given (λ t. t ≡ integer Int) (integer Int) t h refl) (λ b h. cc)

-- ---- storage classes and parameters (6.7.1, 6.7.5.3)

pub no_storage_is : {A : Type 0} (at : ℕ) (words : Storage) (r : Answer A) (y : A) → without_storage at words r ≡ Ok y → (words ≡ no_storage) × (r ≡ Ok y)
no_storage_is at no_storage r y h = (refl, h)
no_storage_is at a_typedef r y h = cc
no_storage_is at is_extern r y h = cc
no_storage_is at is_static r y h = cc
no_storage_is at is_auto r y h = cc
no_storage_is at is_register r y h = cc
no_storage_is at several r y h = cc

pub parameter_storage_is : {A : Type 0} (at : ℕ) (words : Storage) (r : Answer A) (y : A) → parameter_storage at words r ≡ Ok y
    → ((words ≡ no_storage) ⊎ (words ≡ is_register)) × (r ≡ Ok y)
parameter_storage_is at no_storage r y h = (inl refl, h)
parameter_storage_is at is_register r y h = (inr refl, h)
parameter_storage_is at a_typedef r y h = cc
parameter_storage_is at is_extern r y h = cc
parameter_storage_is at is_static r y h = cc
parameter_storage_is at is_auto r y h = cc
parameter_storage_is at several r y h = cc

pub new_is : {A : Type 0} (s : Scope) (x : Option Spelling) (r : Answer A) (y : A) → new_if_named s x r ≡ Ok y → IsNew s x × (r ≡ Ok y)
new_is s None r y h = (tt, h)
new_is s (Some x) r y h = by_name (here s x.text) h
  where
    by_name : (o : Option Bound) → new_here x o r ≡ Ok y → (o ≡ None) × (r ≡ Ok y)
    by_name None h = (refl, h)
    by_name (Some b) h = cc

pub scalar_is : (at : ℕ) (t u : CType) → scalar_parameter at t ≡ Ok u → (t ≡ u) × (is_scalar t ≡ true)
scalar_is at (integer kind) u h = given (λ u. (integer kind ≡ u) × (is_scalar (integer kind) ≡ true)) (integer kind) u h (refl, refl)
scalar_is at (pointer t) u h = given (λ u. (pointer t ≡ u) × (is_scalar (pointer t) ≡ true)) (pointer t) u h (refl, refl)
scalar_is at void u h = cc
scalar_is at (array t n) u h = cc
scalar_is at (function t all) u h = cc
scalar_is at (structure r) u h = cc
