-- What a scope keeps: what names stand for is declared with its type. And what a part of the text adds to a file.
use Rattle.std.proofs.Common.{◌≡◌, ℕ, ◌+◌, ◌<◌, Bool, true, false, List, [], ◌∷◌, ◌++◌, length, refl, ap, ◌∙◌, subst, length-append, arith, cond}
use Rattle.std.specs.Prelude.{◌&&◌, nat_le, map, Option, Some, None, slice_get}
use Rattle.std.specs.Option.{option_map}
use Rattle.std.specs.Str.{bytes_eq}
use Rattle.c_types.specs.declared.ty.IntKind.TheVariants.{Int}
use Rattle.c_types.specs.Types.{CType, Field, Record}
use Rattle.c_types.specs.Objects.{is_object}
use Rattle.c_typed.specs.Conversions.{as_kind, is_scalar}
use Rattle.c_erasure.specs.Marks.{Mark, a_tag, an_end, a_name, ends_in, scope_beginnings}
use Rattle.c_erasure.specs.Scopes.{Bound, ALocal, FileScope, Scope, Entity, typedef, enumerator, an_object, a_function, a_library_function, a_local}
use Rattle.c_erasure.specs.Scopes.{a_parameter}
use Rattle.c_erasure.specs.Scopes.{declared_in, innermost, visible, named, or_else}
use Rattle.c_checking_laws.proofs.Extends.{Extends, itself, further, behind, kept}
use Rattle.c_checking_laws.proofs.Settled.{Settles}

-- ---- names and what they stand for

abbrev pub IsFit : FileScope → List ALocal → Entity → Type 0
IsFit f locals (typedef t) = Unit {0}
IsFit f locals (enumerator v) = as_kind Int v ≡ v
IsFit f locals (an_object n t) = slice_get (map (λ o. o.ty) f.objects) n ≡ Some t
IsFit f locals (a_function n t) = slice_get (map (λ o. o.ty) f.functions) n ≡ Some t
IsFit f locals (a_library_function which) = Unit {0}
IsFit f locals (a_local n t) = slice_get (map (λ l. l.ty) locals) n ≡ Some t
IsFit f locals (a_parameter t) = is_scalar t ≡ true

abbrev pub AreFit : FileScope → List ALocal → List Bound → Type 0
AreFit f locals [] = Unit {0}
AreFit f locals (b ∷ more) = IsFit f locals b.entity × AreFit f locals more

abbrev pub BlocksAreFit : FileScope → List ALocal → List (List Bound) → Type 0
BlocksAreFit f locals [] = Unit {0}
BlocksAreFit f locals (block ∷ outer) = AreFit f locals block × BlocksAreFit f locals outer

pub fit_stay : {f g : FileScope} → Extends f g → (locals : List ALocal) (e : Entity) → IsFit f locals e → IsFit g locals e
fit_stay p locals (typedef t) h = h
fit_stay p locals (enumerator v) h = h
fit_stay p locals (an_object n t) h = p.types n t h
fit_stay p locals (a_function n t) h = p.functions n t h
fit_stay p locals (a_library_function which) h = h
fit_stay p locals (a_local n t) h = h
fit_stay p locals (a_parameter t) h = h

pub fits_stay : {f g : FileScope} → Extends f g → (locals : List ALocal) (all : List Bound) → AreFit f locals all → AreFit g locals all
fits_stay p locals [] h = h
fits_stay p locals (b ∷ more) h = (fit_stay p locals b.entity h.0, fits_stay p locals more h.1)

pub blocks_stay : {f g : FileScope} → Extends f g → (locals : List ALocal) (all : List (List Bound)) → BlocksAreFit f locals all → BlocksAreFit g locals all
blocks_stay p locals [] h = h
blocks_stay p locals (b ∷ more) h = (fits_stay p locals b h.0, blocks_stay p locals more h.1)

pub one_more_fits : (f : FileScope) (locals : List ALocal) (all : List Bound) (b : Bound) → AreFit f locals all → IsFit f locals b.entity
    → AreFit f locals (all ++ b ∷ [])
one_more_fits f locals [] b h p = (p, tt)
one_more_fits f locals (c ∷ more) b h p = (h.0, one_more_fits f locals more b h.1 p)

-- ---- what is found fits

from_some : (f : FileScope) (locals : List ALocal) (d e : Entity) → Some d ≡ Some e → IsFit f locals d → IsFit f locals e
from_some f locals d e p h = let q : d ≡ e = cc in subst (IsFit f locals) q h

tested_fits : (f : FileScope) (locals : List ALocal) (test : Bool) (b : Bound) (o : Option Bound) (e : Entity) → IsFit f locals b.entity
    → (option_map (λ b. b.entity) o ≡ Some e → IsFit f locals e) → option_map (λ b. b.entity) (cond test (Some b) o) ≡ Some e → IsFit f locals e
tested_fits f locals true b o e h more p = from_some f locals b.entity e p h
tested_fits f locals false b o e h more p = more p

declared_fits : (f : FileScope) (locals : List ALocal) (all : List Bound) (x : List ℕ) (e : Entity) → AreFit f locals all
    → option_map (λ b. b.entity) (declared_in all x) ≡ Some e → IsFit f locals e
declared_fits f locals [] x e h p = cc
declared_fits f locals (b ∷ more) x e h p =
    tested_fits f locals (bytes_eq b.name x) b (declared_in more x) e h.0 (λ p. declared_fits f locals more x e h.1 p) p

one_of_fits : (f : FileScope) (locals : List ALocal) (o n : Option Entity) (e : Entity) → (o ≡ Some e → IsFit f locals e) → (n ≡ Some e → IsFit f locals e)
    → or_else o n ≡ Some e → IsFit f locals e
one_of_fits f locals None n e p q h = q h
one_of_fits f locals (Some x) n e p q h = p h

innermost_fits : (f : FileScope) (locals : List ALocal) (blocks : List (List Bound)) (x : List ℕ) (e : Entity) → BlocksAreFit f locals blocks
    → innermost blocks x ≡ Some e → IsFit f locals e
innermost_fits f locals [] x e h p = cc
innermost_fits f locals (block ∷ outer) x e h p =
    one_of_fits f locals _ _ e (declared_fits f locals block x e h.0) (innermost_fits f locals outer x e h.1) p

visible_fits : (f : FileScope) (locals : List ALocal) (all : List Bound) (x : List ℕ) (at : ℕ) (e : Entity) → AreFit f locals all
    → visible all x at ≡ Some e → IsFit f locals e
visible_fits f locals [] x at e h p = cc
visible_fits f locals (b ∷ more) x at e h p =
    one_of_fits f locals _ _ e (seen (bytes_eq b.name x && nat_le b.from at)) (visible_fits f locals more x at e h.1) p
  where
    seen : (test : Bool) → cond test (Some b.entity) None ≡ Some e → IsFit f locals e
    seen true p = from_some f locals b.entity e p h.0
    seen false p = cc

pub named_fits : (s : Scope) (x : List ℕ) (at : ℕ) (e : Entity) → AreFit s.file s.locals s.file.names → BlocksAreFit s.file s.locals s.blocks
    → named s x at ≡ Some e → IsFit s.file s.locals e
named_fits s x at e n b p =
    one_of_fits s.file s.locals _ _ e (innermost_fits s.file s.locals s.blocks x e b) (visible_fits s.file s.locals s.file.names x at e n) p

-- ---- what each part of the text keeps: records have their tags, and objects and fields types of objects, complete or not

abbrev pub IsObjectType : CType → Type 0
IsObjectType t = (count : ℕ) × (is_object count t ≡ true)

pub record IsSteady (f : FileScope) : Type 0 where
  pub tagged : (k : ℕ) (r : Record) → slice_get f.records k ≡ Some r → slice_get f.numbered k ≡ Some r.tag
  pub fields : (k j : ℕ) (r : Record) (x : Field) → slice_get f.records k ≡ Some r → slice_get r.fields j ≡ Some x → IsObjectType x.ty
  pub objects : (n : ℕ) (t : CType) → slice_get (map (λ o. o.ty) f.objects) n ≡ Some t → IsObjectType t

-- names that are in scope before a byte, and bytes before one
abbrev pub AreBegun : List Bound → (before : ℕ) → Type 0
AreBegun all before = (k : ℕ) (b : Bound) → slice_get all k ≡ Some b → b.from < before

abbrev pub AreBefore : List ℕ → (before : ℕ) → Type 0
AreBefore all before = (k from : ℕ) → slice_get all k ≡ Some from → from < before

-- ---- what a part of the text adds

-- structures are defined at file scope alone
abbrev pub added : (is_inside : Bool) → List Mark → ℕ
added true all = 0
added false all = length (ends_in all)

-- the ends of the structures that it defines stand in the file's list
pub record IsReady (f : FileScope) (locals : List ALocal) (blocks : List (List Bound)) (is_inside : Bool) (all : List Mark) : Type 0 where
  pub names_fit : AreFit f locals f.names
  pub blocks_fit : BlocksAreFit f locals blocks
  pub ends_stand : is_inside ≡ false → (k right : ℕ) → slice_get (ends_in all) k ≡ Some right → slice_get f.ends (length f.records + k) ≡ Some right

abbrev pub Ready : Scope → List Mark → Type 0
Ready s all = IsReady s.file s.locals s.blocks s.is_inside all

pub record IsGrown (f : FileScope) (is_inside : Bool) (all : List Mark) (g : FileScope) : Type 0 where
  pub extends : Extends f g
  pub counted : length g.records ≡ length f.records + added is_inside all
  pub names : (locals : List ALocal) → AreFit f locals f.names → AreFit g locals g.names
  pub steady : IsSteady f → IsSteady g
  pub settled : Settles f g
  pub begun : (before : ℕ) → AreBegun f.names before → (is_inside ≡ false → AreBefore (scope_beginnings all) before) → AreBegun g.names before

abbrev pub Grew : Scope → List Mark → FileScope → Type 0
Grew s all g = IsGrown s.file s.is_inside all g

ends_append : (u v : List Mark) → ends_in (u ++ v) ≡ ends_in u ++ ends_in v
ends_append [] v = refl
ends_append (a_tag t ∷ u) v = ends_append u v
ends_append (an_end tag right ∷ u) v = ap (λ z. right ∷ z) (ends_append u v)
ends_append (a_name from ∷ u) v = ends_append u v

pub beginnings_append : (u v : List Mark) → scope_beginnings (u ++ v) ≡ scope_beginnings u ++ scope_beginnings v
beginnings_append [] v = refl
beginnings_append (a_tag t ∷ u) v = beginnings_append u v
beginnings_append (an_end tag right ∷ u) v = beginnings_append u v
beginnings_append (a_name from ∷ u) v = ap (λ z. from ∷ z) (beginnings_append u v)

before_left : (u v : List Mark) (before : ℕ) → AreBefore (scope_beginnings (u ++ v)) before → AreBefore (scope_beginnings u) before
before_left u v before h k from e = h k from (rw (beginnings_append u v) (kept (scope_beginnings u) (scope_beginnings v) k from e))

before_right : (u v : List Mark) (before : ℕ) → AreBefore (scope_beginnings (u ++ v)) before → AreBefore (scope_beginnings v) before
before_right u v before h k from e =
    let n : ℕ = length (scope_beginnings u) + k in
    h n from (rw (beginnings_append u v) (behind (scope_beginnings u) (scope_beginnings v) k n from refl e))

added_append : (is_inside : Bool) (u v : List Mark) → added is_inside (u ++ v) ≡ added is_inside u + added is_inside v
added_append true u v = omega arith
added_append false u v = ap length (ends_append u v) ∙ length-append (ends_in u) (ends_in v)

pub none_grown : (f : FileScope) (is_inside : Bool) (all : List Mark) → added is_inside all ≡ 0 → IsGrown f is_inside all f
none_grown f is_inside all e = record {
  extends = itself f;
  counted = omega (arith, e);
  names = λ locals h. h;
  steady = λ h. h;
  settled = λ h. h;
  begun = λ before h m. h;
}

pub then : {f g h : FileScope} {is_inside : Bool} {u v : List Mark} → IsGrown f is_inside u g → IsGrown g is_inside v h → IsGrown f is_inside (u ++ v) h
then {f} {g} {h} {is_inside} {u} {v} p q = record {
  extends = further p.extends q.extends;
  counted = omega (arith, p.counted, q.counted, added_append is_inside u v);
  names = λ locals x. q.names locals (p.names locals x);
  steady = λ x. q.steady (p.steady x);
  settled = λ x. q.settled (p.settled x);
  begun = λ before x m. q.begun before (p.begun before x (λ i. before_left u v before (m i))) (λ i. before_right u v before (m i));
}

pub left : {f : FileScope} {locals : List ALocal} {blocks : List (List Bound)} {is_inside : Bool} (u v : List Mark)
    → IsReady f locals blocks is_inside (u ++ v) → IsReady f locals blocks is_inside u
left u v r = record {
  names_fit = r.names_fit;
  blocks_fit = r.blocks_fit;
  ends_stand = λ i k right h. r.ends_stand i k right (rw (ends_append u v) (kept (ends_in u) (ends_in v) k right h));
}

-- what stands behind a part is read in the file that the part leaves
pub right : {f g : FileScope} {locals : List ALocal} {blocks : List (List Bound)} {is_inside : Bool} (u v : List Mark)
    → IsReady f locals blocks is_inside (u ++ v) → IsGrown f is_inside u g → IsReady g locals blocks is_inside v
right {f} {g} {locals} {blocks} {is_inside} u v r p = record {
  names_fit = p.names locals r.names_fit;
  blocks_fit = blocks_stay p.extends locals blocks r.blocks_fit;
  ends_stand = λ i k right h.
      let c : length g.records ≡ length f.records + length (ends_in u) = subst (λ b. length g.records ≡ length f.records + added b u) i p.counted in
      let e = r.ends_stand i (length (ends_in u) + k) right (rw (ends_append u v) (behind (ends_in u) (ends_in v) k (length (ends_in u) + k) right refl h)) in
      let n : length g.records + k ≡ length f.records + (length (ends_in u) + k) = omega (arith, c) in
      rw (p.extends.ends, n) e;
}

-- inside of functions no structure is defined
pub inside_ready : {f : FileScope} {locals : List ALocal} {blocks : List (List Bound)} (all : List Mark) → AreFit f locals f.names
    → BlocksAreFit f locals blocks → IsReady f locals blocks true all
inside_ready all n b = record { names_fit = n; blocks_fit = b; ends_stand = λ i k right h. cc }

pub inside_grown : {f g : FileScope} (u v : List Mark) → IsGrown f true u g → IsGrown f true v g
inside_grown u v p = record {
  extends = p.extends;
  counted = p.counted;
  names = p.names;
  steady = p.steady;
  settled = p.settled;
  begun = λ before h m. p.begun before h (λ i. cc);
}
