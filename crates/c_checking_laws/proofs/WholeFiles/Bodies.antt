-- What is found for the parameters and the body of a function (C99 6.9.1).
use Rattle.std.proofs.Common.{◌≡◌, ℕ, ◌+◌, false, refl, sym, ap, ◌∙◌, subst, List, [], ◌∷◌, ◌++◌, length, take, drop, append_assoc}
use Rattle.std.proofs.Common.{take-append-drop, length-append, arith}
use Rattle.std.specs.Prelude.{map, Option, Some, None, Ok, slice_get}
use Rattle.c_types.specs.Limits.{AreComplete}
use Rattle.c_types.specs.Types.{CType, CTypes, no_types, and_type}
use Rattle.c_ast.specs.declared.words.Spelling.{Spelling}
use Rattle.c_ast.specs.Trees
use Rattle.c_typed.specs.Trees as Typed
use Rattle.c_typed.specs.TypedStatements.{all_declared_by, AreTyped}
use Rattle.c_erasure.specs.Declarators.{declared_name}
use Rattle.c_erasure.specs.Files.{AreNamed, HasParameters, count_up, without_notes, in_body, IsBody}
use Rattle.c_erasure.specs.Literals.{made_by_items}
use Rattle.c_erasure.specs.MentionPlaces.{spoken_by_items}
use Rattle.c_erasure.specs.Scopes.{FileScope, ALocal, AFunction, Scope, a_local, defines, declared}
use Rattle.c_erasure.specs.Statements.{Statements, EraseItems}
use Rattle.c_erasure.specs.Checking.Files.{Received, received_if_named, named_parameters, received_by, defined_function}
use Rattle.c_erasure.specs.Checking.Statements.{items_in}
use Rattle.c_checking_laws.proofs.Extends.{itself}
use Rattle.c_checking_laws.proofs.Agreement.{AreFit}
use Rattle.c_checking_laws.proofs.WholeFiles.Kept.{AreObjectsWhole}
use Rattle.c_checking_laws.proofs.WholeFiles.Longer.{seen, fits_longer}
use Rattle.c_checking_laws.proofs.WholeFiles.Scoped.{IsWithin, FoundIn}
use Rattle.c_checking_laws.proofs.WholeFiles.Declarations.{typed_statements}
use Rattle.c_checking_laws.proofs.WholeFiles.StatementLaws.{AreItemsInRange}
use Rattle.c_checking_laws.proofs.WholeFiles.Statements.{sound_items}

-- ---- parameters

-- the parameter in front, and the others
record IsReceived (x : Option Spelling) (k : ℕ) (t : CType) (more : Option Received) (p : Received) : Type 0 where
  pub name : Spelling
  pub name_is : x ≡ Some name
  pub rest : Received
  pub rest_is : more ≡ Some rest
  pub locals : p.locals ≡ record { name = name.text; ty = t } ∷ rest.locals
  pub bounds : p.bounds ≡ record { name = name.text; place = name.from; from = name.to; how = defines; entity = a_local k t } ∷ rest.bounds

received_is : (x : Option Spelling) (k : ℕ) (t : CType) (more : Option Received) (p : Received) → received_if_named x k t more ≡ Some p
    → IsReceived x k t more p
received_is None k t more p h = cc
received_is (Some x) k t None p h = cc
received_is (Some x) k t (Some rest) p h =
    let q : Received = record {
      locals = record { name = x.text; ty = t } ∷ rest.locals;
      bounds = record { name = x.text; place = x.from; from = x.to; how = defines; entity = a_local k t } ∷ rest.bounds;
    } in
    let e : q ≡ p = cc in
    subst (IsReceived (Some x) k t (Some rest)) e (record { name = x; name_is = refl; rest = rest; rest_is = refl; locals = refl; bounds = refl })

named_are : (all : Trees.Parameters) (types : CTypes) (k : ℕ) (p : Received) → named_parameters all types k ≡ Some p → AreNamed all types k p.locals p.bounds
named_are Trees.no_parameters no_types k p h =
    let q : Received = record { locals = []; bounds = [] } in
    let e : q ≡ p = cc in
    subst (λ p. AreNamed Trees.no_parameters no_types k p.locals p.bounds) e (refl, refl, refl)
named_are Trees.no_parameters (and_type t types) k p h = cc
named_are (Trees.and_parameter comma specs d more) no_types k p h = cc
named_are (Trees.and_parameter comma specs d more) (and_type t types) k p h =
    let r = received_is (declared_name d) k t (named_parameters more types (k + 1)) p h in
    (r.name, t, types, r.rest.locals, r.rest.bounds, r.name_is, refl, r.locals, r.bounds, named_are more types (k + 1) r.rest r.rest_is)

local_behind : (before : List ALocal) (a : ALocal) (more : List ALocal) → slice_get (map (λ l. l.ty) (before ++ a ∷ more)) (length before) ≡ Some a.ty
local_behind [] a more = refl
local_behind (b ∷ before) a more = local_behind before a more

-- each is bound to its local, behind those before
named_fit : (f : FileScope) (all : Trees.Parameters) (types : CTypes) (before : List ALocal) (k : ℕ) → k ≡ length before → (p : Received)
    → named_parameters all types k ≡ Some p → AreFit f (before ++ p.locals) p.bounds
named_fit f Trees.no_parameters no_types before k e p h =
    let q : Received = record { locals = []; bounds = [] } in
    let same : q ≡ p = cc in
    subst (λ p. AreFit f (before ++ p.locals) p.bounds) same tt
named_fit f Trees.no_parameters (and_type t types) before k e p h = cc
named_fit f (Trees.and_parameter comma specs d more) no_types before k e p h = cc
named_fit f (Trees.and_parameter comma specs d more) (and_type t types) before k e p h =
    let r = received_is (declared_name d) k t (named_parameters more types (k + 1)) p h in
    let own : ALocal = record { name = r.name.text; ty = t } in
    let n : k + 1 ≡ length (before ++ own ∷ []) = let l = length-append before (own ∷ []) in omega (arith, e, l) in
    let rest = named_fit f more types (before ++ own ∷ []) (k + 1) n r.rest r.rest_is in
    let there = subst (λ all. AreFit f all r.rest.bounds) (append_assoc before (own ∷ []) r.rest.locals) rest in
    subst (λ bounds. AreFit f (before ++ p.locals) bounds) (sym r.bounds)
    (subst (λ locals. AreFit f (before ++ locals) (record { name = r.name.text; place = r.name.from; from = r.name.to; how = defines; entity = a_local k t }
    ∷ r.rest.bounds)) (sym r.locals)
    (subst (λ k. slice_get (map (λ l. l.ty) (before ++ own ∷ r.rest.locals)) k ≡ Some t) (sym e) (local_behind before own r.rest.locals), there))

-- the parameters of a definition, and their names
pub record AreParametersOf (f : FileScope) (list : Option Trees.ParameterList) (types : CTypes) (p : Received) : Type 0 where
  pub has : HasParameters list types p.locals p.bounds
  pub fit : AreFit f p.locals p.bounds

pub parameters_are : (f : FileScope) (list : Option Trees.ParameterList) (types : CTypes) (p : Received) → received_by list types ≡ Some p
    → AreParametersOf f list types p
unfolding received_by
parameters_are f None types p h = cc
parameters_are f (Some (Trees.listed all)) types p h =
    record { has = named_are all types 0 p h; fit = named_fit f all types [] 0 refl p h }
parameters_are f (Some (Trees.void_alone at)) no_types p h =
    let q : Received = record { locals = []; bounds = [] } in
    let e : q ≡ p = cc in
    subst (AreParametersOf f (Some (Trees.void_alone at)) no_types) e (record { has = (refl, refl, refl); fit = tt })
parameters_are f (Some (Trees.void_alone at)) (and_type t types) p h = cc

-- ---- bodies

pub notes_left : (all : Statements) → without_notes all ≡ typed_statements all
notes_left Typed.no_statements = refl
notes_left (Typed.and_statement s more) = rw (notes_left more) refl

pub take_own : {X : Type 0} (xs ys : List X) → take (length xs) (xs ++ ys) ≡ xs
take_own [] ys = refl
take_own (x ∷ xs) ys = ap (λ z. x ∷ z) (take_own xs ys)

drop_own : {X : Type 0} (xs ys : List X) → drop (length xs) (xs ++ ys) ≡ ys
drop_own [] ys = refl
drop_own (x ∷ xs) ys = drop_own xs ys

-- a file at whose end a function begins
pub record IsReadyFile (untagged : ℕ → List ℕ) (f : FileScope) : Type 0 where
  pub names_fit : AreFit f [] f.names
  pub complete : AreComplete f.records
  pub whole : AreObjectsWhole f.records f.objects
  pub same : f.untagged ≡ untagged

module _ (untagged : ℕ → List ℕ) where
  pub body_within : (f : FileScope) (p : Received) → IsReadyFile untagged f → AreFit f p.locals p.bounds → IsWithin untagged f (in_body f p.bounds p.locals)
  body_within f p r fit = record {
    inside = refl;
    full = refl;
    ready = record { names_fit = fits_longer f [] p.locals f.names r.names_fit; blocks_fit = (fit, tt); ends_stand = λ j n right h. cc };
    complete = r.complete;
    whole = r.whole;
    extends = itself f;
    same = r.same;
  }

  -- the body of a function, as the checker keeps it: its parameters and locals are those of its last scope
  pub body_found : (f : FileScope) (place nodes : ℕ) (result : CType) (items : Trees.BlockItems) (list : Option Trees.ParameterList) (types : CTypes)
      (p : Received)
      → received_by list types ≡ Some p → AreItemsInRange f.ends (length f.records) items → IsReadyFile untagged f → (z : Statements × Scope)
      → items_in result items (in_body f p.bounds p.locals) false false ≡ Ok z
      → FoundIn untagged f (in_body f p.bounds p.locals) (spoken_by_items items) (made_by_items items)
      (λ g l. (old : AFunction) → l ≡ z.1.locals
      → IsBody g result p.bounds (defined_function z.1.file place (length p.locals) nodes z.0 z.1.locals old) items) (all_declared_by z.0) z.1
  body_found f place nodes result items list types p e n r z h =
      let s = in_body f p.bounds p.locals in
      let v = sound_items untagged f result items s false false n (body_within f p r (parameters_are f list types p e).fit) z h in
      record {
        within = v.within;
        extends = v.extends;
        more = v.more;
        locals = v.locals;
        numbered = v.numbered;
        made = v.made;
        texts = v.texts;
        parted = v.parted;
        grows = v.grows;
        inner = v.inner;
        holds = λ g l later old same.
            let i = v.holds g l later in
            let own : take (length p.locals) z.1.locals ≡ p.locals = ap (take (length p.locals)) v.locals ∙ take_own p.locals v.more in
            let others : drop (length p.locals) z.1.locals ≡ v.more = ap (drop (length p.locals)) v.locals ∙ drop_own p.locals v.more in
            let whole : l ≡ take (length p.locals) z.1.locals ++ drop (length p.locals) z.1.locals =
            same ∙ sym (take-append-drop (length p.locals) z.1.locals) in (
              z.0,
              refl,
              subst (λ l. EraseItems items (in_body g p.bounds l) z.0) whole i.erase,
              subst (λ l. AreTyped (declared (in_body g p.bounds l)) result false false (without_notes z.0)) whole
                  (subst (AreTyped (declared (seen s g l)) result false false) (sym (notes_left z.0)) i.is_typed),
              v.numbered ∙ ap (λ n. count_up n (length v.more)) (ap length (sym own)) ∙ ap (count_up (length (take (length p.locals) z.1.locals)))
                  (ap length (sym others)),
            );
      }
