-- Parts of initializers: their types, their order, and the values of one part (C99 6.7.8).
use Rattle.std.proofs.Common.{◌≡◌, ◌≢◌, ℕ, zero, suc, ◌+◌, ◌≤◌, ◌<◌, Bool, true, false, refl, sym, ap, ◌∙◌, subst, List, [], ◌∷◌, ◌++◌, length}
use Rattle.std.proofs.Common.{append_assoc, length-append, arith, inl, inr, take}
use Rattle.std.proofs.lemmas.Bool.{leb-true, eqb-true}
use Rattle.std.proofs.lemmas.List.Elements.{All-cons, All-nil}
use Rattle.std.specs.Prelude.{◌⊎◌, All, map, Option, Some, None, Ok, ◌==◌, nat_le}
use Rattle.c_types.specs.declared.ty.IntKind.{IntKind}
use Rattle.c_types.specs.Types.{CType, void, integer, pointer, array, function, structure}
use Rattle.c_types.specs.IntKinds.{width}
use Rattle.c_types.specs.Sameness.{same_type}
use Rattle.c_types.proofs.SameTypes.{same_is}
use Rattle.c_tokens.specs.QuotedScan.{string_bytes}
use Rattle.c_ast.specs.declared.words.Spelling.{Spelling}
use Rattle.c_typed.specs.Trees as Typed
use Rattle.c_typed.specs.Fits.{assigns}
use Rattle.c_typed.specs.Mapped.{of_types, mapped_value, mapped_part}
use Rattle.c_typed.specs.Typed.{Declared, IsTyped, IsConverted}
use Rattle.c_typed.specs.TypedStatements.{IsTypedValue, AreRising}
use Rattle.c_erasure.specs.Erasure.{typed, literal_of, Values}
use Rattle.c_erasure.specs.Initializers.{Part, part_at, IsTextOf, is_character}
use Rattle.c_erasure.specs.Noted.{Noted, Expression, Thing, an_object, a_value, a_function, a_function_at, a_library_function, type_of, type_of_path}
use Rattle.c_erasure.specs.Scopes.{FileScope, Scope, declared}
use Rattle.c_erasure.specs.Checking.Nodes.{null}
use Rattle.c_erasure.specs.Checking.Initializers.{initial_value_in, initial_record_in, bytes_in, text_of_array, text_part}
use Rattle.c_checking_laws.proofs.Results.{bound_ok, given, only_if, chosen}
use Rattle.c_checking_laws.proofs.Values.{IsValue, operand}

-- ---- parts in their order, from one byte to another

abbrev pub Rise : (from : ℕ) → List Part → (to : ℕ) → Type 0
Rise from [] to = from ≤ to
Rise from (part ∷ more) to = (from ≤ part.offset) × Rise (part.offset + 1) more to

pub rise_from : (a b : ℕ) (parts : List Part) (c : ℕ) → a ≤ b → Rise b parts c → Rise a parts c
rise_from a b [] c h r = omega (arith, h, r)
rise_from a b (part ∷ more) c h r = (omega (arith, h, r.0), r.1)

pub rise_to : (a : ℕ) (parts : List Part) (b c : ℕ) → b ≤ c → Rise a parts b → Rise a parts c
rise_to a [] b c h r = omega (arith, h, r)
rise_to a (part ∷ more) b c h r = (r.0, rise_to (part.offset + 1) more b c h r.1)

pub rise_then : (a : ℕ) (xs : List Part) (b : ℕ) (ys : List Part) (c : ℕ) → Rise a xs b → Rise b ys c → Rise a (xs ++ ys) c
rise_then a [] b ys c p q = rise_from a b ys c p q
rise_then a (part ∷ more) b ys c p q = (p.0, rise_then (part.offset + 1) more b ys c p.1 q)

pub one_rises : (at n : ℕ) (v : Typed.PartValue Noted) → 0 < n → Rise at (part_at at v) (at + n)
one_rises at n v h = (omega arith, omega (arith, h))

abbrev typed_parts : List Part → List (Typed.Part CType)
typed_parts all = map (mapped_part (of_types (λ t. t.ty))) all

all_after : (n : ℕ) (parts : List Part) (m : ℕ) → Rise (n + 1) parts m → All (λ (next : Typed.Part CType). n < next.offset) (typed_parts parts)
all_after n [] m r = All-nil (λ (next : Typed.Part CType). n < next.offset)
all_after n (part ∷ more) m r =
    All-cons (λ (next : Typed.Part CType). n < next.offset) (mapped_part (of_types (λ t. t.ty)) part) (typed_parts more) (omega (arith, r.0))
    (all_after n more m (rise_from (n + 1) (part.offset + 1) more m (omega (arith, r.0)) r.1))

pub are_rising : (d : Declared) (from : ℕ) (parts : List Part) (to : ℕ) → Rise from parts to → AreRising d (typed_parts parts)
are_rising d from [] to r = tt
are_rising d from (part ∷ more) to r = (all_after part.offset more to r.1, are_rising d (part.offset + 1) more to r.1)

-- ---- types of parts; `P` tells which type lies at which byte

abbrev pub AreOver : (ℕ → CType → Type 0) → Declared → List Part → Type 0
AreOver P d [] = Unit {0}
AreOver P d (part ∷ more) = ((u : CType) × P part.offset u × IsTypedValue d u (mapped_value (of_types (λ t. t.ty)) part.value)) × AreOver P d more

pub over_then : (P : ℕ → CType → Type 0) (d : Declared) (xs ys : List Part) → AreOver P d xs → AreOver P d ys → AreOver P d (xs ++ ys)
over_then P d [] ys p q = q
over_then P d (part ∷ more) ys p q = (p.0, over_then P d more ys p.1 q)

pub over_within : (P Q : ℕ → CType → Type 0) (d : Declared) (parts : List Part) → ((o : ℕ) (u : CType) → P o u → Q o u) → AreOver P d parts → AreOver Q d parts
over_within P Q d [] into h = tt
over_within P Q d (part ∷ more) into h = ((h.0.0, into part.offset h.0.0 h.0.1, h.0.2), over_within P Q d more into h.1)

pub all_over : (P : ℕ → CType → Type 0) (d : Declared) (parts : List Part) (Q : Typed.Part CType → Type 0)
    → ((part : Part) (u : CType) → P part.offset u → IsTypedValue d u (mapped_value (of_types (λ t. t.ty)) part.value)
    → Q (mapped_part (of_types (λ t. t.ty)) part))
    → AreOver P d parts → All Q (typed_parts parts)
all_over P d [] Q into h = All-nil Q
all_over P d (part ∷ more) Q into h =
    All-cons Q (mapped_part (of_types (λ t. t.ty)) part) (typed_parts more) (into part h.0.0 h.0.1 h.0.2) (all_over P d more Q into h.1)

-- ---- literals that are made objects, and those that are bytes of arrays

pub data Parted : (all made texts : List ℕ) → Type 0 where
  none : Parted [] [] []
  is_made : (at : ℕ) (all made texts : List ℕ) → Parted all made texts → Parted (at ∷ all) (at ∷ made) texts
  is_bytes : (at : ℕ) (all made texts : List ℕ) → Parted all made texts → Parted (at ∷ all) made (at ∷ texts)

pub all_made : (all : List ℕ) → Parted all all []
all_made [] = none
all_made (at ∷ more) = is_made at more more [] (all_made more)

pub parted_then : {a b c u v w : List ℕ} → Parted a b c → Parted u v w → Parted (a ++ u) (b ++ v) (c ++ w)
parted_then none q = q
parted_then {u} {v} {w} (is_made at all made texts p) q = is_made at (all ++ u) (made ++ v) (texts ++ w) (parted_then p q)
parted_then {u} {v} {w} (is_bytes at all made texts p) q = is_bytes at (all ++ u) (made ++ v) (texts ++ w) (parted_then p q)

-- no object of the file begins there
abbrev pub NoneBegins : FileScope → List ℕ → Type 0
NoneBegins g [] = Unit {0}
NoneBegins g (at ∷ more) = All (λ o. o.first ≢ at) g.objects × NoneBegins g more

pub none_left : (g : FileScope) (u v : List ℕ) → NoneBegins g (u ++ v) → NoneBegins g u
none_left g [] v h = tt
none_left g (at ∷ u) v h = (h.0, none_left g u v h.1)

pub none_right : (g : FileScope) (u v : List ℕ) → NoneBegins g (u ++ v) → NoneBegins g v
none_right g [] v h = h
none_right g (at ∷ u) v h = none_right g u v h.1

-- ---- the value of a part

pub initial_value_made : (Is : Thing → Type 0) (s : Scope) (at : ℕ) (t : CType) (x : Expression) → IsValue Is s x → (y : Expression)
    → initial_value_in at t x ≡ Ok y → Values Is y × IsTyped (declared s) (typed y) × IsConverted (typed y) t
unfolding initial_value_in
initial_value_made Is s at t x v y h =
    let b = only_if (assigns (type_of x) (null x) t) _ _ _ y h in
    let o = operand Is s t x v in
    given (λ y. Values Is y × IsTyped (declared s) (typed y) × IsConverted (typed y) t) _ y b.1
    (o.values, o.is_typed, (rw (o.bare_type_is, o.null_is) b.0, o.type_is))

-- a record of that type
pub initial_record_is : (from at : ℕ) (t : CType) (th : Thing) (parts : List Part) → initial_record_in from at t th ≡ Ok parts
    → (p : Typed.Path Noted) × (th ≡ an_object p) × (type_of_path p ≡ t) × (parts ≡ part_at at (Typed.record_of p))
unfolding initial_record_in
initial_record_is from at t (an_object p) parts h =
    let b = only_if (same_type (type_of_path p) t) _ _ _ parts h in
    given (λ parts. (q : Typed.Path Noted) × (an_object p ≡ an_object q) × (type_of_path q ≡ t) × (parts ≡ part_at at (Typed.record_of q))) _ parts b.1
    (p, refl, same_is (type_of_path p) t b.0, refl)
initial_record_is from at t (a_value e) parts h = cc
initial_record_is from at t (a_function place f u) parts h = cc
initial_record_is from at t (a_function_at e) parts h = cc
initial_record_is from at t (a_library_function place which) parts h = cc

-- ---- texts

pub character_is : (u : CType) → is_character u ≡ true → (kind : IntKind) × (u ≡ integer kind) × (width kind ≡ 1)
character_is (integer kind) h = (kind, refl, eqb-true (width kind) 1 h)
character_is void h = cc
character_is (pointer t) h = cc
character_is (array t n) h = cc
character_is (function t all) h = cc
character_is (structure r) h = cc

-- the bytes of literals end in a zero
ends_in_zero : (all : List Spelling) → (bytes : List ℕ) × (literal_of all ≡ bytes ++ 0 ∷ [])
ends_in_zero [] = ([], refl)
ends_in_zero (x ∷ more) =
    let r = ends_in_zero more in
    (string_bytes x.text ++ r.0, ap (λ z. string_bytes x.text ++ z) r.1 ∙ sym (append_assoc (string_bytes x.text) r.0 (0 ∷ [])))

taken : (bytes : List ℕ) (n : ℕ) → length (bytes ++ 0 ∷ []) ≡ n + 1 → take n (bytes ++ 0 ∷ []) ≡ bytes
taken [] zero e = refl
taken [] (suc n) e = absurd (omega (arith, e))
taken (x ∷ bytes) zero e = absurd (omega (arith, e, length-append bytes (0 ∷ [])))
taken (x ∷ bytes) (suc n) e = ap (λ z. x ∷ z) (taken bytes n (omega (arith, e)))

abbrev FitsIn : ℕ → List Spelling → List ℕ → Type 0
FitsIn n all bytes = ((literal_of all ≡ bytes) × (length bytes ≤ n)) ⊎ ((literal_of all ≡ bytes ++ 0 ∷ []) × (length bytes ≡ n))

bytes_fit : (from n : ℕ) (all : List Spelling) (bytes : List ℕ) → bytes_in from n (literal_of all) ≡ Ok bytes → FitsIn n all bytes
bytes_fit from n all bytes h =
    chosen (nat_le (length (literal_of all)) n) _ _ bytes (FitsIn n all bytes) h
    (λ b h. given (FitsIn n all) (literal_of all) bytes h (inl (refl, leb-true (length (literal_of all)) n b)))
    (λ b h.
    let c = only_if (length (literal_of all) == n + 1) _ _ _ bytes h in
    let z = ends_in_zero all in
    let l : length (literal_of all) ≡ n + 1 = eqb-true (length (literal_of all)) (n + 1) c.0 in
    let e : take n (literal_of all) ≡ z.0 = ap (take n) z.1 ∙ taken z.0 n (sym (ap length z.1) ∙ l) in
    let m : length (z.0 ++ 0 ∷ []) ≡ n + 1 = sym (ap length z.1) ∙ l in
    given (FitsIn n all) (take n (literal_of all)) bytes c.1
    (subst (FitsIn n all) (sym e) (inr (z.1, omega (arith, m, length-append z.0 (0 ∷ []))))))

pub record IsTextPart (u : CType) (n at : ℕ) (o : Option (List Spelling)) (parts : List Part) : Type 0 where
  pub texts : List Spelling
  pub is_text : o ≡ Some texts
  pub bytes : List ℕ
  pub text_of : IsTextOf (array u n) texts bytes
  pub parts_are : parts ≡ part_at at (Typed.text bytes)
  pub typed : (d : Declared) → IsTypedValue d (array u n) (Typed.text bytes)

shorter : (n : ℕ) (all : List Spelling) (bytes : List ℕ) → FitsIn n all bytes → length bytes ≤ n
shorter n all bytes (inl e) = e.1
shorter n all bytes (inr e) = omega (arith, e.1)

pub text_made : (from at n : ℕ) (u : CType) (b : Bool) → is_character u ≡ b → (o : Option (List Spelling)) (parts : List Part)
    → text_of_array from at n b o ≡ Ok parts → IsTextPart u n at o parts
text_made from at n u true c (Some all) parts h =
    let x = bound_ok (bytes_in from n (literal_of all)) _ parts h in
    let k = character_is u c in
    let f = bytes_fit from n all x.0 x.1 in
    let e : array u n ≡ array (integer k.0) n = ap (λ u. array u n) k.1 in
    given (IsTextPart u n at (Some all)) (text_part at x.0) parts x.2 (record {
      texts = all;
      is_text = refl;
      bytes = x.0;
      text_of = (k.0, n, e, k.2, f);
      parts_are = refl;
      typed = λ d. (k.0, n, e, k.2, shorter n all x.0 f);
    })
text_made from at n u true c None parts h = cc
text_made from at n u false c (Some all) parts h = cc
text_made from at n u false c None parts h = cc
