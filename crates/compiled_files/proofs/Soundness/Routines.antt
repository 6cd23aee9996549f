-- The routines of a program: each is lowered of its function, and takes as many arguments as its type says where it has code.
use Rattle.std.proofs.Common.{◌≡◌, ◌≢◌, ℕ, zero, suc, List, [], ◌∷◌, length, map, Option, Some, None, refl, ap, sym, subst, ◌∙◌, slice_get}
use Rattle.std.specs.Prelude.{All}
use Rattle.c_types.proofs.SameTypes.{same_is}
use Rattle.c_types.specs.Types.{CType, CTypes, function, pointer}
use Rattle.c_types.specs.Views.{listed}
use Rattle.c_typed.specs.Programs.{FunctionData, ProgramData}
use Rattle.c_typed.specs.Trees.{Statement}
use Rattle.c_typed.specs.declared.program.Local.{Local}
use Rattle.c_meaning.specs.Program.{type_at}
use Rattle.c_well_typed.specs.WellTyped.{HasBody, IsTypedFunction, local_types, of_program}
use Rattle.lower_tac.specs.Statements.{code_if_any, lowered, parameter_of, routine_of, routines_from}
use Rattle.tac_ir.specs.Code.{RoutineData}
use Rattle.compiled_files.proofs.Soundness.Adding.{some_same}
use Rattle.compiled_files.proofs.Soundness.Bodies.{as_many}
use Rattle.compiled_files.proofs.Soundness.Sitting.{IsCalled, IsCalledThrough}
use Rattle.c_well_typed.proofs.Sizing.{at_all, get_from}
use Rattle.compiled_files.proofs.Soundness.Typing.{many}

module _ (p : ProgramData) where
  -- the function whose routine it is, and the number with which it was made
  pub record Origin (all : List FunctionData) (f : ℕ) (g : RoutineData) : Type 0 where
    pub number : ℕ
    pub function : FunctionData
    pub is : slice_get all f ≡ Some function
    pub made : routine_of p function (code_if_any p number function function.body) ≡ g

  among : (k f : ℕ) (g : RoutineData) (all : List FunctionData) → slice_get (routines_from p k all) f ≡ Some g → Origin all f g
  among k f g [] e = cc
  among k zero g (one ∷ more) e = record { number = k; function = one; is = refl; made = some_same e }
  among k (suc f) g (one ∷ more) e =
      let o = among (suc k) f g more e in record { number = o.number; function = o.function; is = o.is; made = o.made }

  pub origin : (f : ℕ) (g : RoutineData) → slice_get (lowered p).routines f ≡ Some g → Origin p.functions f g
  origin f g e = among 0 f g p.functions e

  -- the routine of a function
  there : (k f : ℕ) (h : FunctionData) (all : List FunctionData) → slice_get all f ≡ Some h
      → (number : ℕ) × (slice_get (routines_from p k all) f ≡ Some (routine_of p h (code_if_any p number h h.body)))
  there k f h [] e = cc
  there k zero h (one ∷ more) e = (k, ap (λ (h : FunctionData). Some (routine_of p h (code_if_any p k h h.body))) (some_same e))
  there k (suc f) h (one ∷ more) e = there (suc k) f h more e

  pub routine_there : (f : ℕ) (h : FunctionData) → slice_get p.functions f ≡ Some h
      → (number : ℕ) × (slice_get (lowered p).routines f ≡ Some (routine_of p h (code_if_any p number h h.body)))
  routine_there f h e = there 0 f h p.functions e

  -- ---- arguments

  many_listed : (all : List CType) → many (listed all) ≡ length all
  many_listed [] = refl
  many_listed (t ∷ more) = ap suc (many_listed more)

  same_parameters : {s t : CType} {all others : CTypes} → function s all ≡ function t others → all ≡ others
  same_parameters e = cc

  same_pointed : {s t : CType} → pointer s ≡ pointer t → s ≡ t
  same_pointed e = cc

  takes_with : (h : FunctionData) (result : CType) (own : CTypes) (number : ℕ) (b : Option (Statement ℕ)) → HasBody (of_program p) h result own b
      → (code_if_any p number h b).code ≢ [] → length h.parameters ≡ many own
  takes_with h result own number None typed some = absurd (some refl)
  takes_with h result own number (Some body) typed some =
      sym (as_many (λ (l : Local). type_at p l.ty) h.parameters) ∙ sym (many_listed (local_types (of_program p) h.parameters)) ∙ ap many typed.2

  module _ (typed : All (IsTypedFunction (of_program p)) p.functions) where
    -- so many parameters as its type has
    pub takes : (f : ℕ) (g : RoutineData) → slice_get (lowered p).routines f ≡ Some g → g.code ≢ [] → (t : CType) (parameters : CTypes)
        → type_at p g.ty ≡ function t parameters → length g.parameters ≡ many parameters
    takes f g e some t parameters is =
        let o = origin f g e in
        let h = o.function in
        let known : IsTypedFunction (of_program p) h = at_all (IsTypedFunction (of_program p)) p.functions f h typed o.is in
        subst (λ (g : RoutineData). g.code ≢ [] → type_at p g.ty ≡ function t parameters → length g.parameters ≡ many parameters) o.made
        (λ some is. as_many (parameter_of p) h.parameters ∙ takes_with h known.0 known.1 o.number h.body known.5 some
        ∙ ap many (same_parameters (sym known.3 ∙ is))) some is

    -- by its number among the functions' types
    pub calls : (f : ℕ) (t : CType) (parameters : CTypes) → slice_get (map (λ (g : FunctionData). type_at p g.ty) p.functions) f ≡ Some (function t parameters)
        → (objects : ℕ) (Here : ℕ → Type 0) (locals : List Local) → IsCalled p (lowered p) objects Here locals f (many parameters)
    calls f t parameters e objects Here locals g there some =
        let o = origin f g there in
        let z = get_from (λ (g : FunctionData). type_at p g.ty) p.functions f (function t parameters) e in
        let same : z.0 ≡ o.function = some_same (sym z.1 ∙ o.is) in
        let own : g.ty ≡ o.function.ty = sym (ap (λ (g : RoutineData). g.ty) o.made) in
        takes f g there some t parameters (ap (type_at p) own ∙ ap (λ (h : FunctionData). type_at p h.ty) (sym same) ∙ z.2)

    -- or by a pointer of its type
    pub through : (n : ℕ) (t : CType) (parameters : CTypes) → type_at p n ≡ pointer (function t parameters)
        → (objects : ℕ) (Here : ℕ → Type 0) (locals : List Local) → IsCalledThrough p (lowered p) objects Here locals n (many parameters)
    through n t parameters e objects Here locals f g there some same =
        let is : type_at p n ≡ pointer (type_at p g.ty) = same_is (type_at p n) (pointer (type_at p g.ty)) same in
        takes f g there some t parameters (same_pointed (sym is ∙ e))
