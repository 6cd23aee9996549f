-- Where the initializer of an object of a block stops, it is broken, or none of constants where the object is made before the program starts
-- (C99 6.7.8).
use Rattle.std.proofs.Common.{◌≡◌, ℕ, Bool, true, false, refl, sym, subst, List, [], ◌∷◌, ◌++◌, length, inl, inr}
use Rattle.std.proofs.lemmas.List.{map-append, length-map}
use Rattle.std.specs.Prelude.{◌⊎◌, map, Option, Some, None, Err, slice_get}
use Rattle.c_types.specs.Objects.{is_object}
use Rattle.c_types.specs.Types.{CType}
use Rattle.c_ast.specs.declared.words.Spelling.{Spelling}
use Rattle.c_ast.specs.Trees
use Rattle.c_ast.specs.Places.{first_declarator}
use Rattle.c_erasure.specs.Broken.{Fault}
use Rattle.c_erasure.specs.BrokenStatements.{IsBrokenInitial, HasNoConstants, with_declared, IsThere}
use Rattle.c_erasure.specs.Literals.{literals, literals_of_value}
use Rattle.c_erasure.specs.Marks.{marks}
use Rattle.c_erasure.specs.Scopes.{AnObject, ALocal, FileScope, Scope}
use Rattle.c_erasure.specs.Statements.{with_object}
use Rattle.c_erasure.specs.Checking.Initializers.{initializer}
use Rattle.c_erasure.specs.Checking.Statements.{in_scope, initial_if_any, constants_if_any, static_object, objects_in, with_static, with_new_local}
use Rattle.c_erasure.specs.Checking.Statements.{declare_as}
use Rattle.c_checking_laws.proofs.Agreement.{IsObjectType}
use Rattle.c_checking_laws.proofs.Extends.{itself, last_or, at_end}
use Rattle.c_checking_laws.proofs.FaultDeclaring.{orderly_stays}
use Rattle.c_checking_laws.proofs.FaultAdditions.{of}
use Rattle.c_checking_laws.proofs.FaultResults.{bound_err}
use Rattle.c_checking_laws.proofs.Adding.{object_adds}
use Rattle.c_checking_laws.proofs.Within.{within_all, picked_same}
use Rattle.c_checking_laws.proofs.WholeFiles.Declarations.{static_places}
use Rattle.c_checking_laws.proofs.WholeFiles.Initials.{ReadFrom}
use Rattle.c_checking_laws.proofs.WholeFiles.LocalObjects.{IsValueInRange, new_within, whole_in}
use Rattle.c_checking_laws.proofs.WholeFiles.StaticLocals.{static_within, object_put}
use Rattle.c_checking_units.proofs.FirstStops.BracesFaults.{IsInitialTimely}
use Rattle.c_checking_units.proofs.FirstStops.Clear.{begin_at, AreFresh, fresh_right}
use Rattle.c_checking_units.proofs.FirstStops.InnerAdditions.{at_value, at_initial, at_object}
use Rattle.c_checking_units.proofs.FirstStops.Constants.{initializer_faults, constant_faults}
use Rattle.c_checking_units.proofs.FirstStops.Stopped.{Stopped, same, stopped_more, inside_reaches, inner_later, tags_counted, laid_on, steady_on, IsIn}
use Rattle.c_checking_units.proofs.FirstStops.Stopped.{prepared, many}

-- the initializer of an object of a block
abbrev pub IsObjectBroken : Bool → Trees.InitDeclarator → Spelling → CType → Fault → Scope → Type 0
IsObjectBroken static d x t fault s = ((n : ℕ) × IsThere s static x n t × IsBrokenInitial d.value (with_declared s static x n t) t fault)
    ⊎ ((n : ℕ) × (static ≡ true) × IsThere s true x n t × HasNoConstants d.value (with_object s x n t) t fault)

module _ (untagged : ℕ → List ℕ) (ends : List ℕ) (f : FileScope) where
  -- records are known where an initializer of a function asks for them
  abbrev pub IsValueTimely : Option (ℕ × Trees.Expression) → Type 0
  IsValueTimely None = Unit {0}
  IsValueTimely (Some value) = IsInitialTimely untagged ends true (length f.records) value.1

  there : (s : Scope) → IsIn untagged ends f s → (value : ℕ × Trees.Expression) → IsValueTimely (Some value)
      → IsInitialTimely untagged ends s.is_inside (length f.records) value.1
  there s p value t = subst (λ b. IsInitialTimely untagged ends b (length f.records) value.1) (sym p.within.inside) t

  from_there : (s : Scope) → IsIn untagged ends f s → ReadFrom untagged s.file s
  from_there s p = record { complete = p.within.complete; extends = itself s.file; same = p.within.same }

  -- ---- with a local more

  new_in : (s : Scope) (x : Spelling) (t : CType) → IsIn untagged ends f s → is_object (length s.file.records) t ≡ true
      → IsIn untagged ends f (with_new_local s x t)
  new_in s x t p o = record {
    within = new_within untagged f s x t p.within;
    ends_are = p.ends_are;
    steady = p.steady;
    orderly = p.orderly;
    locals_are = λ k u h.
        by_part k u (last_or (map (λ l. l.ty) s.locals) t k u
        (subst (λ all. slice_get all k ≡ Some u) (map-append (λ (l : ALocal). l.ty) s.locals (record { name = x.text; ty = t } ∷ [])) h));
    laid = p.laid;
  }
    where
      by_part : (k : ℕ) (u : CType) → (slice_get (map (λ l. l.ty) s.locals) k ≡ Some u) ⊎ ((k ≡ length (map (λ l. l.ty) s.locals)) × (t ≡ u)) → IsObjectType u
      by_part k u (inl h) = p.locals_are k u h
      by_part k u (inr h) = subst IsObjectType h.1 (length s.file.records, o)

  local_stops : (s : Scope) (d : Trees.InitDeclarator) (x : Spelling) (t : CType) → IsIn untagged ends f s → is_object (length s.file.records) t ≡ true
      → (value : Option (ℕ × Trees.Expression)) → IsValueInRange f.ends (length f.records) value → IsValueTimely value → AreFresh s.file (literals_of_value value) → (fault : Fault)
      → in_scope (with_new_local s x t) (initial_if_any value (with_new_local s x t) t) ≡ Err fault
      → Stopped (at_initial value) s (λ s. (n : ℕ) × IsThere s false x n t × IsBrokenInitial value (with_declared s false x n t) t fault)
  local_stops s d x t p o None n w fresh fault h = cc
  local_stops s d x t p o (Some value) n w fresh fault h =
      let c = with_new_local s x t in
      let q = new_in s x t p o in
      let Js = λ (s : Scope). (n : ℕ) × IsThere s false x n t × IsBrokenInitial (Some value) (with_declared s false x n t) t fault in
      bound_err (initial_if_any (Some value) c t) _ fault (Stopped (at_value value.1) s Js) h
      (λ e. bound_err (initializer value.1 c t) _ fault (Stopped (at_value value.1) s Js) e
      (λ e.
      let b = initializer_faults untagged ends c.file value.1 c (length f.records) n.0 (prepared untagged ends f c q (marks untagged value.1))
      (many untagged ends f c q) (there c q value w) (from_there c q) fresh t o fault e in
      record {
        file = b.file;
        locals = c.locals;
        reaches = inside_reaches c (of untagged value.1) q.within.inside q.within.full b.reaches;
        goes = (record { name = x.text; ty = t } ∷ [], refl);
        is = (length s.locals, at_end s.locals (record { name = x.text; ty = t }), b.is);
      })
      (λ x e h. cc))
      (λ x e h. cc)

  -- ---- with an object more

  static_in : (s : Scope) (d : Trees.InitDeclarator) (x : Spelling) (t : CType) → IsIn untagged ends f s → is_object (length s.file.records) t ≡ true
      → IsIn untagged ends f (with_static s d x t)
  static_in s d x t p o =
      let w = static_within untagged f s d x t p.within o in
      let put = object_put s.file (static_object s d x t None) in
      record {
        within = w;
        ends_are = p.ends_are;
        steady = steady_on put refl w.whole p.steady;
        orderly = orderly_stays put p.orderly;
        locals_are = p.locals_are;
        laid = laid_on put refl p.laid;
      }

  put_there : (s : Scope) (o : AnObject) → slice_get (map (λ o. o.ty) (s.file.objects ++ o ∷ [])) (length s.file.objects) ≡ Some o.ty
  put_there s o =
      let types = map (λ (o : AnObject). o.ty) s.file.objects in
      subst (λ all. slice_get all (length s.file.objects) ≡ Some o.ty) (sym (map-append (λ (o : AnObject). o.ty) s.file.objects (o ∷ [])))
      (subst (λ n. slice_get (types ++ o.ty ∷ []) n ≡ Some o.ty) (length-map s.file.objects (λ (o : AnObject). o.ty)) (at_end types o.ty))

  static_stops : (s : Scope) (d : Trees.InitDeclarator) (x : Spelling) (t : CType) → IsIn untagged ends f s → is_object (length s.file.records) t ≡ true
      → (value : Option (ℕ × Trees.Expression)) → IsValueInRange f.ends (length f.records) value → IsValueTimely value
      → AreFresh s.file ((first_declarator d.declarator x.from ∷ []) ++ literals_of_value value) → (fault : Fault)
      → constants_if_any value (with_static s d x t) t ≡ Err fault
      → Stopped (at_object true (first_declarator d.declarator x.from) value) s
      (λ s. (n : ℕ) × IsThere s true x n t × (IsBrokenInitial value (with_object s x n t) t fault ⊎ HasNoConstants value (with_object s x n t) t fault))
  static_stops s d x t p o None n w fresh fault h = cc
  static_stops s d x t p o (Some value) n w fresh fault h =
      let c = with_static s d x t in
      let q = static_in s d x t p o in
      let k = first_declarator d.declarator x.from ∷ [] in
      let put = object_adds s.file (static_object s d x t None) true false in
      let b = constant_faults untagged ends c.file value c (length f.records) n.0 (prepared untagged ends f c q (marks untagged value.1))
      (many untagged ends f c q) (there c q value w) (from_there c q) (fresh_right k (literals value.1) fresh (begin_at (within_all k put (picked_same k)))) t o
      (λ z e.
      let v = whole_in untagged f value.1 c t n.0 q.within o z e in
      laid_on v.extends (tags_counted v.grows) q.laid) fault h in
      record {
        file = b.file;
        locals = s.locals;
        reaches = inner_later k (at_value value.1) (object_put s.file (static_object s d x t None)) put refl (picked_same k)
            (inside_reaches c (of untagged value.1) q.within.inside q.within.full b.reaches);
        goes = same s.locals;
        is = (
          objects_in s,
          b.reaches.extends.types (objects_in s) t (put_there s (static_object s d x t None)),
          b.is,
        );
      }

  pub object_stops : (static : Bool) (s : Scope) (d : Trees.InitDeclarator) (x : Spelling) (t : CType) → IsIn untagged ends f s
      → is_object (length s.file.records) t ≡ true → IsValueInRange f.ends (length f.records) d.value → IsValueTimely d.value
      → AreFresh s.file (static_places static (first_declarator d.declarator x.from) ++ literals_of_value d.value) → (fault : Fault)
      → declare_as static s d x t ≡ Err fault
      → Stopped (at_object static (first_declarator d.declarator x.from) d.value) s (IsObjectBroken static d x t fault)
  object_stops true s d x t p o n w fresh fault h =
      let k = at_object true (first_declarator d.declarator x.from) d.value in
      bound_err (constants_if_any d.value (with_static s d x t) t) _ fault (Stopped k s (IsObjectBroken true d x t fault)) h
      (λ e. stopped_more
      (λ s. (n : ℕ) × IsThere s true x n t
      × (IsBrokenInitial d.value (with_object s x n t) t fault ⊎ HasNoConstants d.value (with_object s x n t) t fault))
      (IsObjectBroken true d x t fault) (λ g w. w) (λ s b. either s b.0 b.1 b.2)
      (static_stops s d x t p o d.value n w fresh fault e))
      (λ i e h. cc)
    where
      either : (s : Scope) (n : ℕ) → IsThere s true x n t
          → IsBrokenInitial d.value (with_object s x n t) t fault ⊎ HasNoConstants d.value (with_object s x n t) t fault
          → IsObjectBroken true d x t fault s
      either s n i (inl b) = inl (n, i, b)
      either s n i (inr b) = inr (n, refl, i, b)
  object_stops false s d x t p o n w fresh fault h =
      bound_err (in_scope (with_new_local s x t) (initial_if_any d.value (with_new_local s x t) t)) _ fault
      (Stopped (at_initial d.value) s (IsObjectBroken false d x t fault)) h
      (λ e. stopped_more
      (λ s. (n : ℕ) × IsThere s false x n t × IsBrokenInitial d.value (with_declared s false x n t) t fault)
      (IsObjectBroken false d x t fault) (λ g w. w) (λ s b. inl b)
      (local_stops s d x t p o d.value n w fresh fault e))
      (λ i e h. cc)
