-- The parameters and the body of a function: those that stand for the tree are found (C99 6.9.1).
use Rattle.std.proofs.Common.{inl, inr, ◌≡◌, ℕ, zero, suc, ◌+◌, false, refl, sym, ap, ◌∙◌, subst, List, [], ◌∷◌, ◌++◌, length, length-append, cond}
use Rattle.std.proofs.Common.{arith, drop}
use Rattle.std.specs.Prelude.{◌<◌, ◌⊎◌, map, Bool, true, Option, Some, None, Ok, slice_get, slice_set}
use Rattle.std.specs.Option.{option_map}
use Rattle.std.specs.Str.{bytes_eq}
use Rattle.c_types.specs.Types.{CType, CTypes, no_types, and_type, void, integer, pointer, array, function, structure}
use Rattle.c_types.specs.Objects.{is_object}
use Rattle.c_ast.specs.Trees
use Rattle.c_typed.specs.Trees as Typed
use Rattle.c_typed.specs.Conversions.{is_scalar}
use Rattle.c_typed.specs.TypedStatements.{declared_by, all_declared_by, AreTyped}
use Rattle.c_erasure.specs.Declarators.{declared_name}
use Rattle.c_erasure.specs.Files.{AreNamed, HasParameters, count_up, in_body, IsBody}
use Rattle.c_erasure.specs.Scopes.{in_full, ALocal, AFunction, Bound, FileScope, Entity, a_local, defines, declared, or_else, declared_in, innermost}
use Rattle.c_erasure.specs.Statements.{Statements}
use Rattle.c_erasure.specs.Checking.Answers.{◌>>=◌}
use Rattle.c_erasure.specs.Checking.Files.{Received, received_if_named, named_parameters, received_by, defined_function, with_body, function_body}
use Rattle.c_erasure.specs.Checking.Statements.{items_in}
use Rattle.c_checking_laws.proofs.Results.{ok}
use Rattle.c_checking_laws.proofs.Extends.{Extends}
use Rattle.c_checking_laws.proofs.CompleteNodes.{some, some_is}
use Rattle.c_checking_laws.proofs.CompleteWalk.{Event, a_use, a_look, a_tag, an_end, a_name, a_literal, seen, ends_in, literals_in}
use Rattle.c_checking_laws.proofs.CompletePart.{Lists, part, IsWhole, IsFitFor, IsBefore, IsAfter}
use Rattle.c_checking_laws.proofs.CompleteFit.{IsFit, IsAmong, no_names}
use Rattle.c_checking_laws.proofs.CompleteStatements.{walk_of_items, inner, Seen, AreNumbered}
use Rattle.c_checking_laws.proofs.WholeFiles.Bodies.{notes_left, take_own}
use Rattle.c_checking_laws.proofs.WholeFiles.CompleteObjects.{mapped_at, mapped_set, set_of}
use Rattle.c_checking_laws.proofs.WholeFiles.CompleteStaticLists.{AreTypedObjects, walk_in_block, items_complete}

-- ---- parameters

abbrev as_received : List ALocal → List Bound → Received
as_received locals bounds = record { locals = locals; bounds = bounds }

named_back : (all : Trees.Parameters) (types : CTypes) (k : ℕ) (locals : List ALocal) (bounds : List Bound) → AreNamed all types k locals bounds
    → named_parameters all types k ≡ Some (as_received locals bounds)
named_back Trees.no_parameters types k locals bounds h = rw (h.0, h.1, h.2) refl
named_back (Trees.and_parameter comma specs d more) types k locals bounds h =
    let z = named_back more h.2 (k + 1) h.3 h.4 h.9 in
    let e : named_parameters (Trees.and_parameter comma specs d more) (and_type h.1 h.2) k
    ≡ received_if_named (declared_name d) k h.1 (named_parameters more h.2 (k + 1)) = refl in
    ap (λ types. named_parameters (Trees.and_parameter comma specs d more) types k) h.6 ∙ e ∙ rw (h.5, z, h.7, h.8) refl

pub parameters_complete : (list : Option Trees.ParameterList) (types : CTypes) (locals : List ALocal) (bounds : List Bound)
    → HasParameters list types locals bounds → received_by list types ≡ Some (as_received locals bounds)
unfolding received_by
parameters_complete None types locals bounds h = absurd h
parameters_complete (Some (Trees.listed all)) types locals bounds h = named_back all types 0 locals bounds h
parameters_complete (Some (Trees.void_alone at)) types locals bounds h = rw (h.0, h.1, h.2) refl

-- ---- their names in the block of the body

abbrev pub AreScalar : CTypes → Type 0
AreScalar no_types = Unit {0}
AreScalar (and_type t more) = (is_scalar t ≡ true) × AreScalar more

scalar_object : (r : ℕ) (t : CType) → is_scalar t ≡ true → is_object r t ≡ true
scalar_object r (integer kind) h = refl
scalar_object r (pointer t) h = refl
scalar_object r void h = cc
scalar_object r (array t n) h = cc
scalar_object r (function t all) h = cc
scalar_object r (structure k) h = cc

-- a local of a complete type
abbrev IsALocal : ℕ → Entity → Type 0
IsALocal r e = (k : ℕ) × (t : CType) × (e ≡ a_local k t) × (is_object r t ≡ true)

locals_named : (r : ℕ) (all : Trees.Parameters) (types : CTypes) (k : ℕ) (locals : List ALocal) (bounds : List Bound)
    → AreNamed all types k locals bounds
    → AreScalar types → (x : List ℕ) (b : Bound) → declared_in bounds x ≡ Some b → IsALocal r b.entity
locals_named r Trees.no_parameters types k locals bounds h s x b e =
    let f : declared_in [] x ≡ Some b = subst (λ bounds. declared_in bounds x ≡ Some b) h.2 e in cc
locals_named r (Trees.and_parameter comma specs d more) types k locals bounds h s x b e =
    let s : AreScalar (and_type h.1 h.2) = subst AreScalar h.6 s in
    let f = subst (λ bounds. declared_in bounds x ≡ Some b) h.8 e in
    by_name (bytes_eq h.0.text x) s f (λ e. locals_named r more h.2 (k + 1) h.3 h.4 h.9 s.1 x b e)
  where
    by_name : (n : Bool) → AreScalar (and_type h.1 h.2)
        → cond n (Some (record { name = h.0.text; place = h.0.from; from = h.0.to; how = defines; entity = a_local k h.1 }))
        (declared_in h.4 x) ≡ Some b
        → (declared_in h.4 x ≡ Some b → IsALocal r b.entity) → IsALocal r b.entity
    by_name true s f later =
        (k, h.1, sym (ap (λ (b : Bound). b.entity) (some_is _ b f)), scalar_object r h.1 s.0)
    by_name false s f later = later f

module _ (g : FileScope) (c : Lists) (bounds : List Bound) where
  one_local : (e : Entity) → IsALocal (length c.records) e → IsFitFor g (length c.records) e × IsAmong (length c.objects) e
  one_local e h =
      (subst (IsFitFor g (length c.records)) (sym h.2) h.3, subst (IsAmong (length c.objects)) (sym h.2) tt)

  block_fits : ((x : List ℕ) (b : Bound) → declared_in bounds x ≡ Some b → IsALocal (length c.records) b.entity) → (x : List ℕ) (e : Entity)
      → innermost (bounds ∷ []) x ≡ Some e → IsFitFor g (length c.records) e × IsAmong (length c.objects) e
  block_fits h x e i = by_bound (declared_in bounds x) refl i
    where
      by_bound : (o : Option Bound) → declared_in bounds x ≡ o → or_else (option_map (λ b. b.entity) o) None ≡ Some e
          → IsFitFor g (length c.records) e × IsAmong (length c.objects) e
      by_bound None k i = cc
      by_bound (Some b) k i =
          let same = some_is b.entity e i in
          let z = h x b k in
          one_local e (z.0, z.1, sym same ∙ z.2, z.3)

  -- the names of the file are those of its first objects
  pub parameters_fit : (list : Option Trees.ParameterList) (types : CTypes) (locals : List ALocal) → HasParameters list types locals bounds
      → AreScalar types
      → ((k : ℕ) (n : Bound) → slice_get g.names k ≡ Some n → k < length c.names → IsAmong (length c.objects) n.entity) → IsFit g c (bounds ∷ [])
  parameters_fit list types locals h s names = record {
    complete = λ x e i. (block_fits (by_list list h) x e i).0;
    blocks = λ x e i. (block_fits (by_list list h) x e i).1;
    names = names;
  }
    where
      by_list : (list : Option Trees.ParameterList) → HasParameters list types locals bounds → (x : List ℕ) (b : Bound)
          → declared_in bounds x ≡ Some b
          → IsALocal (length c.records) b.entity
      by_list None h x b e = absurd h
      by_list (Some (Trees.listed all)) h x b e = locals_named (length c.records) all types 0 locals bounds h s x b e
      by_list (Some (Trees.void_alone at)) h x b e =
          let f : declared_in [] x ≡ Some b = subst (λ bounds. declared_in bounds x ≡ Some b) h.2 e in cc

-- ---- bodies

numbered : (n k : ℕ) → AreNumbered n (count_up n k)
numbered n zero = tt
numbered n (suc k) = (refl, let e : n + 1 ≡ suc n = omega arith in subst (λ m. AreNumbered (suc n) (count_up m k)) (sym e) (numbered (suc n) k))

counted : (n k : ℕ) → length (count_up n k) ≡ k
counted n zero = refl
counted n (suc k) = let e = counted (n + 1) k in omega (arith, e)

same_front : {X : Type 0} (xs ys more : List X) → ys ≡ xs ++ more → length xs ≡ length ys → xs ≡ ys
same_front [] [] more e l = refl
same_front [] (y ∷ ys) more e l = absurd (omega (arith, l))
same_front (x ∷ xs) [] more e l = absurd (omega (arith, l))
same_front (x ∷ xs) (y ∷ ys) more e l =
    let a : y ≡ x = cc in
    let b : ys ≡ xs ++ more = cc in
    ap (λ z. z ∷ xs) (sym a) ∙ ap (λ z. y ∷ z) (same_front xs ys more b (omega (arith, l)))

drop_front : {X : Type 0} (xs ys : List X) → drop (length xs) (xs ++ ys) ≡ ys
drop_front [] ys = refl
drop_front (x ∷ xs) ys = drop_front xs ys

module _ (g : FileScope) (w : IsWhole g) (typed : AreTypedObjects g) (result : CType) where
  abbrev pub all_locals : AFunction → List ALocal
  all_locals f = f.parameters ++ f.locals

  abbrev pub walk_of_body : AFunction → Trees.BlockItems → List Event
  walk_of_body f items = walk_of_items g.untagged (walk_in_block g w typed (all_locals f) result) items

  -- the body that is found, with the locals of the function and the file after it
  pub record FoundBody (c : Lists) (f : AFunction) (bounds : List Bound) (items : Trees.BlockItems) : Type 0 where
    pub all : Statements
    pub body : f.body ≡ Some (Typed.block (declared_by all) all)
    pub blocks : List (List Bound)
    pub lists : Lists
    pub is : items_in result items (in_body (part g c) bounds f.parameters) false false ≡ Ok (
      all,
      inner g w (all_locals f) blocks
          (all_locals f) lists,
    )
    pub after : IsAfter g c (Seen g w (all_locals f) (walk_of_body f items)) lists

  pub body_complete : (c : Lists) (f : AFunction) (bounds : List Bound) (items : Trees.BlockItems) → IsFit g c (bounds ∷ [])
      → IsBefore g c (Seen g w (all_locals f) (walk_of_body f items)) → IsBody g result bounds f items → FoundBody c f bounds items
  body_complete c f bounds items fit e h =
      let ls = all_locals f in
      let t = subst (AreTyped (declared (in_body g bounds ls)) result false false) (notes_left h.0) h.3 in
      let n = subst (AreNumbered (length f.parameters)) (sym h.4) (numbered (length f.parameters) (length f.locals)) in
      let z = items_complete g w typed (all_locals f) result items (bounds ∷ []) f.parameters c h.0 false false fit e (f.locals, refl) h.2 t n in
      let q = z.performs in
      let long = length-append f.parameters f.locals in
      let many : length (all_declared_by h.0) ≡ length f.locals = ap length h.4 ∙ counted (length f.parameters) (length f.locals) in
      let same : q.locals ≡ all_locals f = same_front q.locals (all_locals f) q.rest.0 q.rest.1 (omega (arith, q.count, long, many)) in
      record {
        all = h.0;
        body = h.1;
        blocks = z.blocks;
        lists = q.lists;
        is = q.is ∙ ap (λ l. ok (h.0, inner g w (all_locals f) z.blocks l q.lists)) same;
        after = q.after;
      }

  -- the function that is kept, where one of that name, type and linkage stood before
  abbrev pub IsBegun : AFunction → AFunction → Type 0
  IsBegun old f = (old.name ≡ f.name) × (old.first ≡ f.first) × (old.ty ≡ f.ty) × (old.is_linked ≡ f.is_linked)

  pub function_complete : (c : Lists) (f old : AFunction) (bounds : List Bound) (items : Trees.BlockItems) (place : ℕ)
      → (z : FoundBody c f bounds items)
      → f.place ≡ record { file = g.file; at = place } → IsBegun old f
      → defined_function (part g z.lists) place (length f.parameters) f.nodes z.all (all_locals f) old ≡ f
  function_complete c f old bounds items place z p h =
      rw (take_own f.parameters f.locals, drop_front f.parameters f.locals, sym z.body, sym p, h.0, h.1, h.2, h.3) refl

  abbrev with_functions : Lists → List AFunction → Lists
  with_functions c all = record { names = c.names; records = c.records; objects = c.objects; functions = all; mentions = c.mentions }

  -- the file after a definition, in which the function stands as in the whole file
  pub record FoundDefinition (c : Lists) (f : AFunction) (bounds : List Bound) (items : Trees.BlockItems) (n place : ℕ) : Type 0 where
    pub lists : Lists
    pub is : function_body (part g c) n place f.nodes result items (as_received f.parameters bounds) ≡ Ok (part g lists)
    pub functions : lists.functions ≡ slice_set c.functions n f
    pub extends : Extends (part g lists) g
    pub names : length lists.names ≡ length c.names
    pub records : length lists.records ≡ length c.records
    pub objects : length lists.objects ≡ length c.objects + literals_in (Seen g w (all_locals f) (walk_of_body f items))

  function_put : (m : Lists) (n : ℕ) (f : AFunction) → Extends (part g m) g → slice_get g.functions n ≡ Some f
      → Extends (part g (with_functions m (slice_set m.functions n f))) g
  function_put m n f p there = record {
    file = refl;
    tags = refl;
    ends = refl;
    numbered = refl;
    untagged = refl;
    names = p.names;
    records = p.records;
    mentions = p.mentions;
    types = p.types;
    objects = p.objects;
    functions = types;
  }
    where
      types : (k : ℕ) (t : CType) → slice_get (map (λ o. o.ty) (slice_set m.functions n f)) k ≡ Some t
          → slice_get (map (λ o. o.ty) g.functions) k ≡ Some t
      types k t h =
          by_place (set_of (map (λ o. o.ty) m.functions) n f.ty k t (subst (λ all. slice_get all k ≡ Some t) (mapped_set
          (λ o. o.ty) m.functions n f) h))
        where
          by_place : (slice_get (map (λ o. o.ty) m.functions) k ≡ Some t) ⊎ ((k ≡ n) × (f.ty ≡ t))
              → slice_get (map (λ o. o.ty) g.functions) k ≡ Some t
          by_place (inl h) = p.functions k t h
          by_place (inr h) =
              subst (λ k. slice_get (map (λ o. o.ty) g.functions) k ≡ Some t) (sym h.0)
              (mapped_at (λ (o : AFunction). o.ty) g.functions n f there ∙ ap some h.1)

  -- no structure ends in a body
  no_ends : (all : List Event) → ends_in (seen true in_full all) ≡ 0
  no_ends [] = refl
  no_ends (a_use at ∷ all) = no_ends all
  no_ends (a_look at ∷ all) = no_ends all
  no_ends (a_tag t ∷ all) = no_ends all
  no_ends (an_end tag right ∷ all) = no_ends all
  no_ends (a_name from ∷ all) = no_ends all
  no_ends (a_literal at ∷ all) = no_ends all

  pub definition_complete : (c : Lists) (f old : AFunction) (bounds : List Bound) (items : Trees.BlockItems) (n place : ℕ) → IsFit g c (bounds ∷ [])
      → IsBefore g c (Seen g w (all_locals f) (walk_of_body f items)) → IsBody g result bounds f items → slice_get g.functions n ≡ Some f
      → slice_get c.functions n ≡ Some old → IsBegun old f → f.place ≡ record { file = g.file; at = place } → FoundDefinition c f bounds items n place
  definition_complete c f old bounds items n place fit e h there before begun p =
      let z = body_complete c f bounds items fit e h in
      let m = z.lists in
      let stands : slice_get m.functions n ≡ Some old = ap (λ all. slice_get all n) z.after.functions ∙ before in
      let made = function_complete c f old bounds items place z p begun in
      let none = no_names (walk_of_body f items) in
      let no_end = no_ends (walk_of_body f items) in
      let names = z.after.names in
      let records = z.after.records in
      record {
        lists = with_functions m (slice_set m.functions n f);
        is = ap (λ r. r >>= λ all. ok (with_body all.1.file n place (length f.parameters) f.nodes all.0 all.1.locals
            (slice_get all.1.file.functions n))) z.is
            ∙ ap (λ o. ok (with_body (part g m) n place (length f.parameters) f.nodes z.all (all_locals f) o)) stands
            ∙ ap (λ f. ok (part g (with_functions m (slice_set m.functions n f)))) made;
        functions = ap (λ all. slice_set all n f) z.after.functions;
        extends = function_put m n f z.after.extends there;
        names = omega (arith, names, none);
        records = omega (arith, records, no_end);
        objects = z.after.objects;
      }
