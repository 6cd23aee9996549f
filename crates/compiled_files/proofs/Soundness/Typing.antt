-- What is well typed sits: each number in it, and each thing that it names.
use Rattle.std.proofs.Common.{◌≡◌, ℕ, suc, ◌+◌, ◌-◌, ◌%◌, ◌<◌, ◌^◌, Bool, true, false, List, [], ◌∷◌, ◌++◌, Some, None, refl, ap, sym, subst, ◌∙◌}
use Rattle.std.proofs.Common.{arith, slice_get, if◌then◌else◌}
use Rattle.std.specs.List.{AllByRecursion as Each}
use Rattle.std.specs.Prelude.{nat_lt}
use Rattle.std.proofs.lemmas.Bool.{and_parts}
use Rattle.c_types.specs.Sameness.{same_type}
use Rattle.lay_base.specs.declared.place.Place.{Place}
use Rattle.c_types.specs.declared.ty.IntKind.{IntKind}
use Rattle.c_types.specs.declared.ty.IntKind.TheVariants as I
use Rattle.c_types.specs.Types.{CType, CTypes, pointer, function, structure, no_types, and_type}
use Rattle.c_typed.specs.Constants.{ty}
use Rattle.c_typed.specs.Conversions.{as_kind, element_of}
use Rattle.c_typed.specs.Mapped.{of_types, mapped, mapped_node, mapped_path, mapped_step, mapped_all, mapped_if_any}
use Rattle.c_typed.specs.Programs.{ProgramData}
use Rattle.c_typed.specs.References.{Reference, an_object, a_function, references, references_by_node, references_by_path, references_by_step}
use Rattle.c_typed.specs.References.{references_by_all}
use Rattle.c_typed.specs.References.{references_by_optional}
use Rattle.c_typed.specs.Rules.{differing, points_to_object}
use Rattle.c_typed.specs.Trees as T
use Rattle.c_typed.specs.Trees.{Expression, expression, Node, Path, path, PathNode, Expressions, OptionalExpression}
use Rattle.c_typed.specs.Typed.{Declared, IsTyped, IsTypedNode, IsTypedPath, IsTypedStep, AreArguments, IsCount, path_ty}
use Rattle.c_typed.specs.declared.program.Local.{Local}
use Rattle.c_meaning.specs.Program.{element_size, size_at, type_at}
use Rattle.lower_tac.specs.Expressions.{count_of, named, named_root}
use Rattle.tac_ir.specs.Code.{Code}
use Rattle.compiled_files.proofs.Soundness.Sitting.{Sits, SitsNode, SitsPath, SitsStep, AllSit, SitsCount, IsCalled, IsCalledThrough, IsStep}

-- ---- lists

pub front : {A : Type 0} (P : A → Type 0) (a b : List A) → Each P (a ++ b) → Each P a
front P [] b e = tt
front P (x ∷ a) b e = (e.0, front P a b e.1)

pub back : {A : Type 0} (P : A → Type 0) (a b : List A) → Each P (a ++ b) → Each P b
back P [] b e = e
back P (x ∷ a) b e = back P a b e.1

-- ---- numbers

either_small : (b : Bool) (x y n : ℕ) → x < n → y < n → (if b then x else y) < n
either_small true x y n h k = h
either_small false x y n h k = k

pub kind_small : (kind : IntKind) (v : ℕ) → as_kind kind v ≡ v → v < 2 ^ 32
kind_small I.Char v e = omega (arith, e)
kind_small I.SChar v e =
    subst (λ (z : ℕ). z < 2 ^ 32) e (either_small (nat_lt (v % 2 ^ 8) (2 ^ 7)) (v % 2 ^ 8) (v % 2 ^ 8 + (2 ^ 32 - 2 ^ 8)) (2 ^ 32) (omega arith) (omega arith))
kind_small I.UChar v e = omega (arith, e)
kind_small I.Short v e =
    subst (λ (z : ℕ). z < 2 ^ 32) e
    (either_small (nat_lt (v % 2 ^ 16) (2 ^ 15)) (v % 2 ^ 16) (v % 2 ^ 16 + (2 ^ 32 - 2 ^ 16)) (2 ^ 32) (omega arith) (omega arith))
kind_small I.UShort v e = omega (arith, e)
kind_small I.Int v e = omega (arith, e)
kind_small I.UInt v e = omega (arith, e)
kind_small I.Long v e = omega (arith, e)
kind_small I.ULong v e = omega (arith, e)

-- how many types there are
abbrev pub many : CTypes → ℕ
many no_types = 0
many (and_type t more) = suc (many more)

-- what is known of a program, its code and a function's locals
pub record Facts (p : ProgramData) (c : Code) (objects : ℕ) (Here : ℕ → Type 0) (locals : List Local) (Used : ℕ → Type 0) (d : Declared) : Type 0 where
  -- an object that is declared is there
  pub places : (n : ℕ) (t : CType) → slice_get d.objects n ≡ Some t → n < objects
  -- and a function that is used has a body
  pub bodies : (f : ℕ) (s : CType) → slice_get d.functions f ≡ Some s → Used f → Here f
  -- elements that pointers count have a size
  pub steps : (at n : ℕ) → points_to_object (d.complete at) (type_at p n) ≡ true → IsStep p c objects Here locals (element_size p (type_at p n))
  -- records are small
  pub records : (n r : ℕ) → type_at p n ≡ structure r → size_at p n < 2 ^ 32
  -- functions take as many arguments as their types say
  pub calls : (f : ℕ) (t : CType) (parameters : CTypes) → slice_get d.functions f ≡ Some (function t parameters)
      → IsCalled p c objects Here locals f (many parameters)
  pub through : (n : ℕ) (t : CType) (parameters : CTypes) → type_at p n ≡ pointer (function t parameters)
      → IsCalledThrough p c objects Here locals n (many parameters)
  -- a local that has elements lies in a block
  pub arrays : (x : ℕ) (u t : CType) → slice_get d.locals x ≡ Some u → element_of u ≡ Some t → named (slice_get locals x) x ≡ None

-- a function that is referred to is used
abbrev pub IsThere : (Used : ℕ → Type 0) → Reference → Type 0
IsThere Used (an_object n) = Unit {0}
IsThere Used (a_function f) = Used f

module _ (p : ProgramData) (c : Code) (objects : ℕ) (Here : ℕ → Type 0) (locals : List Local) (Used : ℕ → Type 0) (d : Declared)
    (facts : Facts p c objects Here locals Used d) where
  abbrev over : Expression ℕ → Expression CType
  over = mapped (of_types (type_at p))

  abbrev over_path : Path ℕ → Path CType
  over_path = mapped_path (of_types (type_at p))

  abbrev pub Sit : Expression ℕ → Type 0
  Sit = Sits p c objects Here locals

  abbrev SitPath : Path ℕ → Type 0
  SitPath = SitsPath p c objects Here locals

  abbrev There : List Reference → Type 0
  There = Each (IsThere Used)

  pub type_over : (e : Expression ℕ) → ty (over e) ≡ type_at p (ty e)
  type_over (expression t at node) = refl

  pub path_type_over : (q : Path ℕ) → path_ty (over_path q) ≡ type_at p (path_ty q)
  path_type_over (path t at node) = refl

  -- as many arguments as types
  as_many : (parameters : CTypes) (all : Expressions ℕ) → AreArguments d parameters (mapped_all (of_types (type_at p)) all) → many parameters ≡ count_of all
  as_many no_types T.no_expressions i = refl
  as_many no_types (T.and_expression e more) i = absurd i
  as_many (and_type t rest) T.no_expressions i = absurd i
  as_many (and_type t rest) (T.and_expression e more) i = ap suc (as_many rest more i.2)

  called : (f : ℕ) (t : CType) (parameters : CTypes) (all : Expressions ℕ) → slice_get d.functions f ≡ Some (function t parameters)
      → AreArguments d parameters (mapped_all (of_types (type_at p)) all) → IsCalled p c objects Here locals f (count_of all)
  called f t parameters all e i = subst (λ n. IsCalled p c objects Here locals f n) (as_many parameters all i) (facts.calls f t parameters e)

  called_through : (e : Expression ℕ) (t : CType) (parameters : CTypes) (all : Expressions ℕ) → ty (over e) ≡ pointer (function t parameters)
      → AreArguments d parameters (mapped_all (of_types (type_at p)) all) → IsCalledThrough p c objects Here locals (ty e) (count_of all)
  called_through e t parameters all is i = subst (λ n. IsCalledThrough p c objects Here locals (ty e) n) (as_many parameters all i)
      (facts.through (ty e) t parameters (sym (type_over e) ∙ is))

  difference_steps : (at : ℕ) (x y : Expression ℕ) → differing (d.complete at) (ty (over x)) (ty (over y)) ≡ true
      → IsStep p c objects Here locals (element_size p (type_at p (ty x)))
  difference_steps at x y h =
      let s = ty (over x) in
      let t = ty (over y) in
      let is : points_to_object (d.complete at) s ≡ true = (and_parts (points_to_object (d.complete at) s) (same_type s t) h).0 in
      facts.steps at (ty x) (subst (λ s. points_to_object (d.complete at) s ≡ true) (type_over x) is)

  pub small_record : (q : Path ℕ) (r : ℕ) → path_ty (over_path q) ≡ structure r → size_at p (path_ty q) < 2 ^ 32
  small_record q r e = facts.records (path_ty q) r (sym (path_type_over q) ∙ e)

  no_name : (q : Path ℕ) (t : CType) → IsTypedPath d (over_path q) → element_of (path_ty (over_path q)) ≡ Some t → named_root p locals q ≡ None
  no_name (path u at (T.local x)) t i e = facts.arrays x (type_at p u) t i e
  no_name (path u at (T.object n)) t i e = refl
  no_name (path u at (T.deref x)) t i e = refl
  no_name (path u at (T.index x y)) t i e = refl
  no_name (path u at (T.member q r field)) t i e = refl
  no_name (path u at (T.element q x)) t i e = refl

  mutual
    pub sits : (e : Expression ℕ) → IsTyped d (over e) → There (references e) → Sit e
    sits (expression t at node) i r = node_sits t at node i r

    pub node_sits : (t : ℕ) (at : Place) (node : Node ℕ) → IsTypedNode d (type_at p t) at (mapped_node (of_types (type_at p)) node)
        → There (references_by_node node)
        → SitsNode p c objects Here locals node
    node_sits t at (T.constant v) i r = kind_small i.0 v i.2
    node_sits t at T.null i r = tt
    node_sits t at (T.function_name f) i r = facts.bodies f i.0 i.1 r.0
    node_sits t at (T.load q) i r = path_sits q i.0 r
    node_sits t at (T.address_of q) i r = path_sits q i.0 r
    node_sits t at (T.decay q) i r = path_sits q i.0 r
    node_sits t at (T.convert e false) i r = sits e i.0 r
    node_sits t at (T.convert e true) i r = sits e i.0 r
    node_sits t at (T.unary op x) i r = sits x i.0 r
    node_sits t at (T.binary op x y) i r =
        (sits x i.0 (front (IsThere Used) (references x) (references y) r), sits y i.1 (back (IsThere Used) (references x) (references y) r))
    node_sits t at (T.compare op x y) i r =
        (sits x i.0 (front (IsThere Used) (references x) (references y) r), sits y i.1 (back (IsThere Used) (references x) (references y) r))
    node_sits t at (T.pointer_add op x y) i r =
        (sits x i.0 (front (IsThere Used) (references x) (references y) r), sits y i.1 (back (IsThere Used) (references x) (references y) r))
    node_sits t at (T.pointer_difference x y) i r = (
      sits x i.0 (front (IsThere Used) (references x) (references y) r),
      sits y i.1 (back (IsThere Used) (references x) (references y) r),
      difference_steps at.at x y i.4,
    )
    node_sits t at (T.both x y) i r =
        (sits x i.0 (front (IsThere Used) (references x) (references y) r), sits y i.1 (back (IsThere Used) (references x) (references y) r))
    node_sits t at (T.either x y) i r =
        (sits x i.0 (front (IsThere Used) (references x) (references y) r), sits y i.1 (back (IsThere Used) (references x) (references y) r))
    node_sits t at (T.not x) i r = sits x i.0 r
    node_sits t at (T.choose x y z) i r =
        let both = front (IsThere Used) (references x ++ references y) (references z) r in (
          sits x i.0 (front (IsThere Used) (references x) (references y) both),
          sits y i.1 (back (IsThere Used) (references x) (references y) both),
          sits z i.2 (back (IsThere Used) (references x ++ references y) (references z) r),
        )
    node_sits t at (T.comma x y) i r =
        (sits x i.0 (front (IsThere Used) (references x) (references y) r), sits y i.1 (back (IsThere Used) (references x) (references y) r))
    node_sits t at (T.assign q x) i r = (
      path_sits q i.0 (front (IsThere Used) (references_by_path q) (references x) r),
      sits x i.1 (back (IsThere Used) (references_by_path q) (references x) r),
    )
    node_sits t at (T.assign_op op q x) i r = (
      path_sits q i.0 (front (IsThere Used) (references_by_path q) (references x) r),
      sits x i.1 (back (IsThere Used) (references_by_path q) (references x) r),
    )
    node_sits t at (T.step op before q) i r = path_sits q i.0 r
    node_sits t at (T.copy_record to from) i r = (
      path_sits to i.0 (front (IsThere Used) (references_by_path to) (references_by_path from) r),
      path_sits from i.1 (back (IsThere Used) (references_by_path to) (references_by_path from) r),
      small_record to i.4.0 i.4.1,
    )
    node_sits t at (T.call f all) i r = (all_sit i.0 all i.2 r.1, called f (type_at p t) i.0 all i.1 i.2)
    node_sits t at (T.call_through e all) i r = (
      sits e i.1 (front (IsThere Used) (references e) (references_by_all all) r),
      all_sit i.0 all i.4 (back (IsThere Used) (references e) (references_by_all all) r),
      called_through e (type_at p t) i.0 all i.3 i.4,
    )
    node_sits t at (T.library which all) i r = all_sit i.0 all i.2 r
    node_sits t at (T.allocate n count zeroed) i r = count_sits count i.2 r

    pub path_sits : (q : Path ℕ) → IsTypedPath d (over_path q) → There (references_by_path q) → SitPath q
    path_sits (path t at node) i r = step_sits t at node i r

    pub step_sits : (t : ℕ) (at : Place) (node : T.PathNode ℕ) → IsTypedStep d (type_at p t) at (mapped_step (of_types (type_at p)) node)
        → There (references_by_step node) → SitsStep p c objects Here locals node
    step_sits t at (T.local x) i r = tt
    step_sits t at (T.object n) i r = facts.places n (type_at p t) i
    step_sits t at (T.deref e) i r = sits e i.0 r
    step_sits t at (T.index e x) i r =
        (sits e i.0 (front (IsThere Used) (references e) (references x) r), sits x i.1 (back (IsThere Used) (references e) (references x) r))
    step_sits t at (T.member q n field) i r = path_sits q i.0 r
    step_sits t at (T.element q x) i r = (
      path_sits q i.0 (front (IsThere Used) (references_by_path q) (references x) r),
      sits x i.1 (back (IsThere Used) (references_by_path q) (references x) r),
      no_name q (type_at p t) i.0 i.3,
    )

    pub all_sit : (parameters : CTypes) (all : Expressions ℕ) → AreArguments d parameters (mapped_all (of_types (type_at p)) all)
        → There (references_by_all all)
        → AllSit p c objects Here locals all
    all_sit no_types T.no_expressions i r = tt
    all_sit no_types (T.and_expression e more) i r = absurd i
    all_sit (and_type t rest) T.no_expressions i r = absurd i
    all_sit (and_type t rest) (T.and_expression e more) i r = (
      sits e i.0 (front (IsThere Used) (references e) (references_by_all more) r),
      all_sit rest more i.2 (back (IsThere Used) (references e) (references_by_all more) r),
    )

    pub count_sits : (count : OptionalExpression ℕ) → IsCount d (mapped_if_any (of_types (type_at p)) count) → There (references_by_optional count)
        → SitsCount p c objects Here locals count
    count_sits T.no_expression i r = tt
    count_sits (T.some_expression e) i r = sits e i.0 r
