-- A file, and a scope in it, all of whose types are within the limits; and what a step from one file to the next keeps.
use Rattle.std.proofs.Common.{ℕ, zero, suc, Bool, true, false, cond, List, [], ◌∷◌, ◌++◌, take, drop}
use Rattle.std.specs.Prelude.{◌&&◌, nat_le, Option, Some, None}
use Rattle.std.specs.List.{AllByRecursion}
use Rattle.std.specs.Option.{option_map}
use Rattle.std.specs.Str.{bytes_eq}
use Rattle.c_types.specs.Limits.{AreSmall}
use Rattle.c_types.specs.Types.{CType, pointer, Record, Field}
use Rattle.c_typed.specs.declared.program.MentionKind.{MentionKind}
use Rattle.c_typed.specs.Trees as Typed
use Rattle.c_erasure.specs.Noted.{Noted}
use Rattle.c_erasure.specs.Scopes as Scopes
use Rattle.c_erasure.specs.Scopes.{Entity, typedef, enumerator, a_library_function, a_local, a_parameter, Bound, AnObject, ALocal, AFunction, AMention}
use Rattle.c_erasure.specs.Scopes.{FileScope, Scope}
use Rattle.c_erasure.specs.Scopes.{Purpose, in_full, or_else, declared_in, innermost, visible, named, is_measured, with_name}
use Rattle.c_erasure.specs.Checking.Answers.{moved}
use Rattle.c_erasure.specs.Checking.Declaring.{with_mention}
use Rattle.c_checking_units.proofs.TypeLimits.Types.{IsWithin, IsLonger, same_list, longer_still, stays}
use Rattle.c_checking_units.proofs.TypeLimits.Trees.{EachInInitial, EachInStatement}
use Rattle.c_checking_units.proofs.TypeLimits.TreesKept.{initial_more, statement_more}
use Rattle.c_checking_units.proofs.TypeLimits.Nodes.{IsEntity, IsEntityIfAny, AreFields, AreRecords}

-- ---- lists

pub joined : {A : Type 0} (P : A → Type 0) (xs ys : List A) → AllByRecursion P xs → AllByRecursion P ys → AllByRecursion P (xs ++ ys)
joined P [] ys h k = k
joined P (x ∷ xs) ys h k = (h.0, joined P xs ys h.1 k)

pub one_more : {A : Type 0} (P : A → Type 0) (xs : List A) (x : A) → AllByRecursion P xs → P x → AllByRecursion P (xs ++ x ∷ [])
one_more P xs x h k = joined P xs (x ∷ []) h (k, tt)

pub each_so : {A : Type 0} (P Q : A → Type 0) (xs : List A) → ((x : A) → P x → Q x) → AllByRecursion P xs → AllByRecursion Q xs
each_so P Q [] f h = tt
each_so P Q (x ∷ xs) f h = (f x h.0, each_so P Q xs f h.1)

pub one_between : {A : Type 0} (P : A → Type 0) (n : ℕ) (xs : List A) (x : A) → AllByRecursion P xs → P x
    → AllByRecursion P (take n xs ++ x ∷ drop n xs)
one_between P n [] x h k = by_number n
  where
    by_number : (n : ℕ) → AllByRecursion P (take n [] ++ x ∷ drop n [])
    by_number zero = (k, tt)
    by_number (suc n) = (k, tt)
one_between P zero (y ∷ xs) x h k = (k, h)
one_between P (suc n) (y ∷ xs) x h k = (h.0, one_between P n xs x h.1 k)

-- ---- what entries of a file are

abbrev pub IsBound : List Record → Bound → Type 0
IsBound records b = IsEntity records b.entity

abbrev pub AreBounds : List Record → List Bound → Type 0
AreBounds records all = AllByRecursion (IsBound records) all

abbrev pub AreBlocks : List Record → List (List Bound) → Type 0
AreBlocks records all = AllByRecursion (AreBounds records) all

abbrev pub AreLocals : List Record → List ALocal → Type 0
AreLocals records all = AllByRecursion (λ (l : ALocal). IsWithin records l.ty) all

abbrev pub IsObject : List Record → AnObject → Type 0
IsObject records o = IsWithin records o.ty × EachInInitial (IsWithin records) o.initial

abbrev pub IsBodyIfAny : List Record → Option (Typed.Statement Noted) → Type 0
IsBodyIfAny records None = Unit {0}
IsBodyIfAny records (Some s) = EachInStatement (IsWithin records) s

pub record IsFunction (records : List Record) (g : AFunction) : Type 0 where
  pub ty : IsWithin records g.ty
  pub parameters : AreLocals records g.parameters
  pub locals : AreLocals records g.locals
  pub body : IsBodyIfAny records g.body

pub record IsFile (f : FileScope) : Type 0 where
  pub names : AreBounds f.records f.names
  pub records : AreRecords f.records f.records
  pub sizes : AreSmall f.records
  pub objects : AllByRecursion (IsObject f.records) f.objects
  pub functions : AllByRecursion (IsFunction f.records) f.functions
  pub mentions : AllByRecursion (λ (m : AMention). IsWithin f.records m.ty) f.mentions

-- ---- more records

module _ {records all : List Record} (p : IsLonger records all) where
  entity_stays : (e : Entity) → IsEntity records e → IsEntity all e
  entity_stays (typedef t) h = stays p t h
  entity_stays (enumerator v) h = h
  entity_stays (Scopes.an_object n t) h = stays p t h
  entity_stays (Scopes.a_function n t) h = (stays p t h.0, stays p (pointer t) h.1)
  entity_stays (a_library_function which) h = h
  entity_stays (a_local n t) h = stays p t h
  entity_stays (a_parameter t) h = (stays p t h.0, stays p (pointer t) h.1)

  pub bounds_stay : (bs : List Bound) → AreBounds records bs → AreBounds all bs
  bounds_stay bs h = each_so (IsBound records) (IsBound all) bs (λ b k. entity_stays b.entity k) h

  pub blocks_stay : (bs : List (List Bound)) → AreBlocks records bs → AreBlocks all bs
  blocks_stay bs h = each_so (AreBounds records) (AreBounds all) bs bounds_stay h

  pub locals_stay : (ls : List ALocal) → AreLocals records ls → AreLocals all ls
  locals_stay ls h = each_so (λ (l : ALocal). IsWithin records l.ty) (λ (l : ALocal). IsWithin all l.ty) ls (λ l k. stays p l.ty k) h

  pub fields_stay : (fs : List Field) → AreFields records fs → AreFields all fs
  fields_stay fs h = each_so (λ (f : Field). IsWithin records f.ty) (λ (f : Field). IsWithin all f.ty) fs (λ f k. stays p f.ty k) h

  pub records_stay : (rs : List Record) → AreRecords records rs → AreRecords all rs
  records_stay rs h =
      each_so (λ (r : Record). AreFields records r.fields) (λ (r : Record). AreFields all r.fields) rs (λ r k. fields_stay r.fields k) h

  object_stays : (o : AnObject) → IsObject records o → IsObject all o
  object_stays o h = (stays p o.ty h.0, initial_more (IsWithin records) (IsWithin all) (λ t k. stays p t k) o.initial h.1)

  body_stays : (b : Option (Typed.Statement Noted)) → IsBodyIfAny records b → IsBodyIfAny all b
  body_stays None h = h
  body_stays (Some s) h = statement_more (IsWithin records) (IsWithin all) (λ t k. stays p t k) s h

  function_stays : (g : AFunction) → IsFunction records g → IsFunction all g
  function_stays g h = record {
    ty = stays p g.ty h.ty;
    parameters = locals_stay g.parameters h.parameters;
    locals = locals_stay g.locals h.locals;
    body = body_stays g.body h.body;
  }

  pub objects_stay : (os : List AnObject) → AllByRecursion (IsObject records) os → AllByRecursion (IsObject all) os
  objects_stay os h = each_so (IsObject records) (IsObject all) os object_stays h

  pub functions_stay : (gs : List AFunction) → AllByRecursion (IsFunction records) gs → AllByRecursion (IsFunction all) gs
  functions_stay gs h = each_so (IsFunction records) (IsFunction all) gs function_stays h

  pub mentions_stay : (ms : List AMention) → AllByRecursion (λ (m : AMention). IsWithin records m.ty) ms
      → AllByRecursion (λ (m : AMention). IsWithin all m.ty) ms
  mentions_stay ms h = each_so (λ (m : AMention). IsWithin records m.ty) (λ (m : AMention). IsWithin all m.ty) ms (λ m k. stays p m.ty k) h

-- ---- a scope

pub record IsScope (s : Scope) : Type 0 where
  pub file : IsFile s.file
  pub blocks : AreBlocks s.file.records s.blocks
  pub locals : AreLocals s.file.records s.locals

-- from one file to the next
pub record Goes (f g : FileScope) : Type 0 where
  pub longer : IsLonger f.records g.records
  pub file : IsFile g

pub stands : (f : FileScope) → IsFile f → Goes f f
stands f h = record { longer = same_list f.records; file = h }

pub goes_on : {f g h : FileScope} → Goes f g → Goes g h → Goes f h
goes_on p q = record { longer = longer_still p.longer q.longer; file = q.file }

pub scope_after : (s : Scope) (g : FileScope) → IsScope s → Goes s.file g → IsScope (moved s g)
scope_after s g h p = record {
  file = p.file;
  blocks = blocks_stay p.longer s.blocks h.blocks;
  locals = locals_stay p.longer s.locals h.locals;
}

-- ---- mentions

said : (b : Bool) (f g : FileScope) (all : List AMention) → Goes f g → AllByRecursion (λ (m : AMention). IsWithin g.records m.ty) all
    → Goes f (cond b g (record g { mentions = all }))
said true f g all p h = p
said false f g all p h = record {
  longer = p.longer;
  file = record { names = p.file.names; records = p.file.records; sizes = p.file.sizes; objects = p.file.objects; functions = p.file.functions; mentions = h };
}

pub mentioned : (s : Scope) (f g : FileScope) (n : ℕ) (kind : MentionKind) (t : CType) (at : ℕ) → Goes f g → IsWithin g.records t
    → Goes f (with_mention s n kind t at g)
mentioned s f g n kind t at p w =
    said (is_measured s.purpose) f g (take n g.mentions ++ record { kind = kind; ty = t; at = at } ∷ drop n g.mentions) p
    (one_between (λ (m : AMention). IsWithin g.records m.ty) n g.mentions (record { kind = kind; ty = t; at = at }) p.file.mentions w)

pub mentioned_same : (s : Scope) (n : ℕ) (kind : MentionKind) (t u : CType) (at : ℕ) (g : FileScope) → IsWithin g.records u
    → IsWithin (with_mention s n kind t at g).records u
mentioned_same s n kind t u at g w = by_purpose (is_measured s.purpose)
  where
    by_purpose : (b : Bool)
        → IsWithin (cond b g (record g { mentions = take n g.mentions ++ record { kind = kind; ty = t; at = at } ∷ drop n g.mentions })).records u
    by_purpose true = w
    by_purpose false = w

-- ---- what a name stands for

or_named : (records : List Record) (o p : Option Entity) → IsEntityIfAny records o → IsEntityIfAny records p → IsEntityIfAny records (or_else o p)
or_named records None p h k = k
or_named records (Some e) p h k = h

in_block : (records : List Record) (block : List Bound) (x : List ℕ) → AreBounds records block
    → IsEntityIfAny records (option_map (λ (b : Bound). b.entity) (declared_in block x))
in_block records [] x h = tt
in_block records (b ∷ more) x h = by_name (bytes_eq b.name x) (in_block records more x h.1)
  where
    by_name : (c : Bool) → IsEntityIfAny records (option_map (λ (b : Bound). b.entity) (declared_in more x))
        → IsEntityIfAny records (option_map (λ (b : Bound). b.entity) (cond c (Some b) (declared_in more x)))
    by_name true w = h.0
    by_name false w = w

in_blocks : (records : List Record) (blocks : List (List Bound)) (x : List ℕ) → AreBlocks records blocks → IsEntityIfAny records (innermost blocks x)
in_blocks records [] x h = tt
in_blocks records (block ∷ outer) x h =
    or_named records (option_map (λ (b : Bound). b.entity) (declared_in block x)) (innermost outer x) (in_block records block x h.0)
    (in_blocks records outer x h.1)

in_file : (records : List Record) (all : List Bound) (x : List ℕ) (at : ℕ) → AreBounds records all → IsEntityIfAny records (visible all x at)
in_file records [] x at h = tt
in_file records (b ∷ more) x at h =
    or_named records (cond (bytes_eq b.name x && nat_le b.from at) (Some b.entity) None) (visible more x at) (by_name (bytes_eq b.name x && nat_le b.from at))
    (in_file records more x at h.1)
  where
    by_name : (c : Bool) → IsEntityIfAny records (cond c (Some b.entity) None)
    by_name true = h.0
    by_name false = tt

pub named_within : (s : Scope) (x : List ℕ) (at : ℕ) → IsScope s → IsEntityIfAny s.file.records (named s x at)
named_within s x at h =
    or_named s.file.records (innermost s.blocks x) (visible s.file.names x at) (in_blocks s.file.records s.blocks x h.blocks)
    (in_file s.file.records s.file.names x at h.file.names)
