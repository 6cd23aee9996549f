-- What is found for declarators and parameters, in each file that goes on from the one that finding leaves.
use Rattle.std.proofs.Common.{◌≡◌, ℕ, true, refl, sym, ap, ◌∙◌, subst, List, [], ◌∷◌, arith}
use Rattle.std.specs.Prelude.{◌⊎◌, Option, Some, None, Ok}
use Rattle.c_types.specs.declared.ty.IntKind.{IntKind}
use Rattle.c_types.specs.Types.{CType, CTypes, pointer, array, function, no_types, and_type}
use Rattle.c_types.specs.Objects.{is_object}
use Rattle.c_ast.specs.declared.words.Spelling.{Spelling}
use Rattle.c_ast.specs.Trees
use Rattle.c_ast.specs.Places.{first, first_specifiers, first_declarator}
use Rattle.c_typed.specs.declared.program.MentionKind.TheVariants.{Named}
use Rattle.c_typed.specs.Conversions.{is_scalar}
use Rattle.c_erasure.specs.Declarators.{Shape, declared_name, parameter_type}
use Rattle.c_erasure.specs.Erasure.{IsBase, IsOne, with_parameter_if_named, AreListed, Declares, IsNew}
use Rattle.c_erasure.specs.Marks.{Mark, marks_of_declarator, marks_of_specifiers}
use Rattle.c_erasure.specs.Scopes.{FileScope, Scope, Bound, ALocal, inside, with_name, ended, IsMentioned}
use Rattle.c_erasure.specs.Specifiers.{storage_of, no_storage, is_register}
use Rattle.c_erasure.specs.Checking.Answers.{Answer, ◌>>=◌, with_file, moved}
use Rattle.c_erasure.specs.Checking.Declaring.{with_mention, mentions_in, Derivation, to_pointer, to_array, to_open_array, to_function, derived, length_value}
use Rattle.c_erasure.specs.Checking.Declaring.{new_if_named, scalar_parameter}
use Rattle.c_erasure.specs.Checking.Finding.{complete}
use Rattle.c_checking_laws.proofs.Results.{bound_ok, bound_with, ok, given}
use Rattle.c_checking_laws.proofs.Extends.{Extends, further, constants_stay}
use Rattle.c_checking_laws.proofs.Agreement.{IsFit, BlocksAreFit, one_more_fits, blocks_stay, Ready, Grew, then}
use Rattle.c_checking_laws.proofs.Declared.{added_nothing, mentioned, is_mentioned, before_mention, nothing_grown, length_is, new_is, scalar_is}
use Rattle.c_checking_laws.proofs.Derived.{pointer_derived, array_derived, open_derived, function_derived, none_derived}
use Rattle.c_checking_laws.proofs.Found.{FoundConstant}
use Rattle.c_checking_laws.proofs.FoundTypes.{and_nothing, as_marks, added_inside, FoundBase, FoundSteps, FoundParameters, FoundList}

-- ---- parameters have scopes of their own

named_fits : (f : FileScope) (locals : List ALocal) (blocks : List (List Bound)) (b : Bound) → BlocksAreFit f locals blocks → IsFit f locals b.entity
    → BlocksAreFit f locals (with_name blocks b)
named_fits f locals [] b h p = ((p, tt), tt)
named_fits f locals (block ∷ outer) b h p = (one_more_fits f locals block b h.0 p, h.1)

pub parameter_inside : (s : Scope) (x : Option Spelling) (t : CType) → s.is_inside ≡ true → (with_parameter_if_named s x t).is_inside ≡ true
parameter_inside s None t i = i
parameter_inside s (Some x) t i = refl

pub parameter_untagged : (s : Scope) (x : Option Spelling) (t : CType) → (with_parameter_if_named s x t).file.untagged ≡ s.file.untagged
parameter_untagged s None t = refl
parameter_untagged s (Some x) t = refl

-- what is read behind a parameter knows its name
pub parameter_ready : (s : Scope) (x : Option Spelling) (t : CType) → is_scalar t ≡ true → s.is_inside ≡ true → Ready s []
    → Ready (with_parameter_if_named s x t) []
parameter_ready s None t k i r = r
parameter_ready s (Some x) t k i r = record {
  names_fit = r.names_fit;
  blocks_fit = named_fits s.file s.locals s.blocks _ r.blocks_fit k;
  ends_stand = λ j n right h. cc;
}

parameter_grown : (s : Scope) (x : Option Spelling) (t : CType) (f : FileScope) → Grew (with_parameter_if_named s x t) [] f → Grew s [] f
parameter_grown s None t f p = p
parameter_grown s (Some x) t f p = record {
  extends = p.extends;
  counted = omega (arith, p.counted, added_nothing s.is_inside);
  names = p.names;
  steady = p.steady;
  settled = p.settled;
  begun = λ before h m. p.begun before h (λ i k from e. cc);
}

parameter_listed : (s : Scope) (x : Option Spelling) (t : CType) (g : FileScope) (more : Trees.Parameters) (rest : CTypes)
    → AreListed (moved (with_parameter_if_named s x t) g) more rest → AreListed (with_parameter_if_named (moved s g) x t) more rest
parameter_listed s None t g more rest h = h
parameter_listed s (Some x) t g more rest h = h

-- what is read in a parameter list
pub ready_in : (s : Scope) (u : List Mark) (f : FileScope) → Ready s u → Grew s u f → Ready (inside (moved s f)) []
ready_in s u f r p = record {
  names_fit = p.names s.locals r.names_fit;
  blocks_fit = (tt, blocks_stay p.extends s.locals s.blocks r.blocks_fit);
  ends_stand = λ j n right h. cc;
}

-- what follows a name that is new
pub new_bound : {A B : Type 0} (s : Scope) (x : Option Spelling) (f : FileScope) (r : Answer A) (k : A × FileScope → Answer B) (z : B)
    → (new_if_named s x (with_file f r) >>= k) ≡ Ok z → IsNew s x × ((y : A) × (r ≡ Ok y) × (k (y, f) ≡ Ok z))
new_bound s x f r k z h =
    let t = bound_ok (new_if_named s x (with_file f r)) k z h in
    let n = new_is s x (with_file f r) t.0 t.1 in
    (n.0, bound_with f r k z (subst (λ q. (q >>= k) ≡ Ok z) (sym n.1) t.2))

module _ (untagged : ℕ → List ℕ) where
  -- ---- declarators (6.7.5)

  pub nothing_found : (s : Scope) (z : List Derivation × FileScope) → ok ([], s.file) ≡ Ok z → FoundSteps untagged s Trees.nothing z
  nothing_found s z h =
      given (FoundSteps untagged s Trees.nothing) ([], s.file) z h (record {
        grew = nothing_grown s.file s.is_inside;
        is_name = λ e. refl;
        holds = λ g p records more e t shape k. none_derived records t shape k;
      })

  pub named_found : (s : Scope) (x : Spelling) (z : List Derivation × FileScope) → ok ([], s.file) ≡ Ok z → FoundSteps untagged s (Trees.named x) z
  named_found s x z h =
      given (FoundSteps untagged s (Trees.named x)) ([], s.file) z h (record {
        grew = nothing_grown s.file s.is_inside;
        is_name = λ e. refl;
        holds = λ g p records more e t shape k. none_derived records t shape k;
      })

  pub pointer_found : (s : Scope) (at : ℕ) (consts : List ℕ) (d : Trees.Declarator) (steps : List Derivation × FileScope) → FoundSteps untagged s d steps
      → (z : List Derivation × FileScope) → ok (to_pointer at ∷ steps.0, steps.1) ≡ Ok z → FoundSteps untagged s (Trees.pointer at consts d) z
  pointer_found s at consts d steps v z h =
      given (FoundSteps untagged s (Trees.pointer at consts d)) _ z h (record {
        grew = v.grew;
        is_name = λ e. cc;
        holds = λ g p records more e t shape k.
            let b = pointer_derived records g.records more e shape at steps.0 t k in
            (b.0, v.holds g p records more e (pointer t) shape b.1);
      })

  pub enclosed_found : (s : Scope) (at : ℕ) (d : Trees.Declarator) (right : ℕ) (z : List Derivation × FileScope) → FoundSteps untagged s d z
      → FoundSteps untagged s (Trees.enclosed at d right) z
  enclosed_found s at d right z v = record { grew = v.grew; is_name = v.is_name; holds = λ g p records more e t shape k. v.holds g p records more e t shape k }

  pub open_found : (s : Scope) (d : Trees.Declarator) (at right : ℕ) (steps : List Derivation × FileScope) → FoundSteps untagged s d steps
      → (z : List Derivation × FileScope) → ok (to_open_array (complete s at) at ∷ steps.0, steps.1) ≡ Ok z
      → FoundSteps untagged s (Trees.array d at Trees.no_expression right) z
  open_found s d at right steps v z h =
      given (FoundSteps untagged s (Trees.array d at Trees.no_expression right)) _ z h (record {
        grew = then v.grew (nothing_grown steps.1 s.is_inside);
        is_name = λ e. cc;
        holds = λ g p records more e t shape k.
            let b = open_derived records g.records more e shape (complete s at) at steps.0 t k in
            (constants_stay (further v.grew.extends p) (λ ends file. is_object (ended ends at) t ≡ true) b.1, v.is_name b.0, b.2);
      })

  pub array_found : (s : Scope) (d : Trees.Declarator) (at : ℕ) (a : Trees.Expression) (right : ℕ) (steps : List Derivation × FileScope)
      → FoundSteps untagged s d steps → (c : (IntKind × ℕ) × FileScope) → FoundConstant untagged (moved s steps.1) a c
      → (n : ℕ) → length_value (first a) c.0 ≡ Ok n → (z : List Derivation × FileScope) → ok (to_array (complete s at) at n ∷ steps.0, c.1) ≡ Ok z
      → FoundSteps untagged s (Trees.array d at (Trees.some_expression a) right) z
  array_found s d at a right steps v c w n l z h =
      let i = length_is (first a) c.0 n l in
      given (FoundSteps untagged s (Trees.array d at (Trees.some_expression a) right)) _ z h (record {
        grew = then v.grew w.grew;
        is_name = λ e. cc;
        holds = λ g p records more e t shape k.
            let b = array_derived records g.records more e shape (complete s at) at n steps.0 t k in
            let q = further w.grew.extends p in
            let o = constants_stay (further v.grew.extends q) (λ ends file. is_object (ended ends at) t ≡ true) b.0 in
            (c.0.0, c.0.1, n, w.holds g p, i.0, i.1, o, b.1, v.holds g q records more e (array t n) shape b.2);
      })

  pub function_found : (s : Scope) (d : Trees.Declarator) (at : ℕ) (all : Trees.ParameterList) (right : ℕ) (steps : List Derivation × FileScope)
      → FoundSteps untagged s d steps → (types : CTypes × FileScope) → FoundList untagged (inside (moved s steps.1)) all types
      → (z : List Derivation × FileScope) → ok (to_function at types.0 ∷ steps.0, types.1) ≡ Ok z → FoundSteps untagged s (Trees.function d at all right) z
  function_found s d at all right steps v types w z h =
      given (FoundSteps untagged s (Trees.function d at all right)) _ z h (record {
        grew = and_nothing {v = []} refl (λ i. refl) v.grew w.grew;
        is_name = λ e. cc;
        holds = λ g p records more e t shape k.
            let b = function_derived records g.records more e shape at types.0 steps.0 t k in
            (types.0, w.holds g p, b.0, b.1, v.holds g (further w.grew.extends p) records more e (function t types.0) shape b.2);
      })

  -- ---- parameters (6.7.5.3)

  pub void_found : (s : Scope) (at : ℕ) (z : CTypes × FileScope) → ok (no_types, s.file) ≡ Ok z → FoundList untagged s (Trees.void_alone at) z
  void_found s at z h =
      given (FoundList untagged s (Trees.void_alone at)) (no_types, s.file) z h
      (record { grew = nothing_grown s.file s.is_inside; holds = λ g p. refl })

  pub listed_found : (s : Scope) (all : Trees.Parameters) (z : CTypes × FileScope) → FoundParameters untagged s all z
      → FoundList untagged s (Trees.listed all) z
  listed_found s all z v = record { grew = v.grew; holds = λ g p. v.holds g p }

  pub no_parameters_found : (s : Scope) (z : CTypes × FileScope) → ok (no_types, s.file) ≡ Ok z → FoundParameters untagged s Trees.no_parameters z
  no_parameters_found s z h =
      given (FoundParameters untagged s Trees.no_parameters) (no_types, s.file) z h
      (record { grew = nothing_grown s.file s.is_inside; holds = λ g p. refl })

  -- the scope behind a parameter
  abbrev pub behind_parameter : Scope → ℕ → Option Spelling → CType → (at : ℕ) → FileScope → Scope
  behind_parameter s n x t at f = with_parameter_if_named (moved s (with_mention s n Named t at f)) x t

  -- what stands before the parameters behind it
  pub record IsParameter (s : Scope) (specs : Trees.Specifiers) (d : Trees.Declarator) (n : ℕ) (t : CType) (f : FileScope) : Type 0 where
    pub base : CType
    pub shape : Shape
    pub storage : (storage_of specs ≡ no_storage) ⊎ (storage_of specs ≡ is_register)
    pub ty_is : t ≡ parameter_type shape
    pub is_scalar : is_scalar t ≡ true
    pub is_new : IsNew s (declared_name d)
    pub grown : Grew s [] f
    pub holds : (g : FileScope) → Extends f g → IsBase (IsOne (moved s g) specs) specs base
        × Declares (moved s g) d base shape

  pub parameter_made : (s : Scope) → s.is_inside ≡ true → (specs : Trees.Specifiers) (d : Trees.Declarator)
      → (storage_of specs ≡ no_storage) ⊎ (storage_of specs ≡ is_register) → (b : CType × FileScope) → FoundBase untagged s specs b
      → (steps : List Derivation × FileScope) → FoundSteps untagged (moved s b.1) d steps → (shape : Shape) → derived steps.1.records steps.0 b.0 ≡ Ok shape
      → IsNew s (declared_name d) → (t : CType) → scalar_parameter (first_declarator d (first_specifiers specs)) (parameter_type shape) ≡ Ok t
      → IsParameter s specs d (mentions_in b.1) t steps.1
  parameter_made s i specs d storage b v steps w shape k new t h =
      let c = scalar_is (first_declarator d (first_specifiers specs)) (parameter_type shape) t h in
      record {
        base = b.0;
        shape = shape;
        storage = storage;
        ty_is = sym c.0;
        is_scalar = subst (λ t. is_scalar t ≡ true) c.0 c.1;
        is_new = new;
        grown = and_nothing (added_inside i (marks_of_declarator untagged d)) (λ j. cc)
            (as_marks {u = marks_of_specifiers untagged specs} {v = []} i (added_inside i _ ∙ sym (added_nothing s.is_inside)) v.grew) w.grew;
        holds = λ g p.
            (v.holds g (further w.grew.extends p), w.holds g p steps.1.records p.records.0 p.records.1 b.0 shape k);
      }

  pub parameter_found : (s : Scope) (comma : Option ℕ) (specs : Trees.Specifiers) (d : Trees.Declarator) (more : Trees.Parameters) (n : ℕ) (t : CType)
      → (f : FileScope) → IsParameter s specs d n t f → (rest : CTypes × FileScope)
      → FoundParameters untagged (behind_parameter s n (declared_name d) t (first_declarator d (first_specifiers specs)) f) more rest
      → (z : CTypes × FileScope) → ok (and_type t rest.0, rest.1) ≡ Ok z → FoundParameters untagged s (Trees.and_parameter comma specs d more) z
  parameter_found s comma specs d more n t f v rest w z h =
      let at = first_declarator d (first_specifiers specs) in
      let u = parameter_grown (moved s (with_mention s n Named t at f)) (declared_name d) t rest.1 w.grew in
      given (FoundParameters untagged s (Trees.and_parameter comma specs d more)) _ z h (record {
        grew = and_nothing (added_nothing s.is_inside) (λ j. refl) (mentioned s n Named t at v.grown) u;
        holds = λ g p.
            let q = further u.extends p in
            let y = v.holds g (before_mention s f g n Named t at q) in
            let m = is_mentioned s f g n Named t at q in
            let l = parameter_listed (moved s (with_mention s n Named t at f)) (declared_name d) t g more rest.0 (w.holds g p) in (
              v.base,
              v.shape,
              rest.0,
              ap (λ t. and_type t rest.0) v.ty_is,
              v.storage,
              y.0,
              y.1,
              subst (λ t. is_scalar t ≡ true) v.ty_is v.is_scalar,
              v.is_new,
              subst (λ t. IsMentioned (moved s g) Named t at) v.ty_is m,
              subst (λ t. AreListed (with_parameter_if_named (moved s g) (declared_name d) t) more rest.0) v.ty_is l,
            );
      })
