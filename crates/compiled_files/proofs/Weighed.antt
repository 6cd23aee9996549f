-- No frame takes more than a call of its function weighs.
use Rattle.std.proofs.Common.{◌≡◌, ℕ, ◌≤◌, Bool, List, [], ◌++◌, map, Option, Some, None, refl, sym, ap, ◌∙◌, subst, arith, slice_get}
use Rattle.c_meaning.specs.Weights.{frame_of}
use Rattle.c_typed.specs.Programs.{FunctionData, ProgramData}
use Rattle.c_typed.specs.Trees.{Statement}
use Rattle.c_typed.specs.declared.program.Local.{Local}
use Rattle.c_well_typed.specs.ProgramWeights.Bounds.{IsProgramBounded}
use Rattle.c_well_typed.specs.WellTyped.{HasBody, HaveTypedFunctions, IsTypedFunction, of_program}
use Rattle.code_bounds.specs.CompiledLaws.{FramesAreWeighed}
use Rattle.code_bounds.specs.LoweredLaws.{TypedHaveScopes}
use Rattle.code_bounds.specs.Scopes.{HasScopes}
use Rattle.lower_tac.specs.Statements.{code_if_any, lowered, parameter_of, routine_of}
use Rattle.rv_code.specs.Frames.{frame_size}
use Rattle.tac_ir.specs.Code.{RoutineData}
use Rattle.tac_ir.specs.declared.step.Parameter.{Parameter}
use Rattle.tac_ir.specs.declared.step.Step.{Step}
use Rattle.compiled_files.specs.CodeRuns.Room.{AreWithin}
use Rattle.compiled_files.proofs.Room.{frame_if_any, frame_in}
use Rattle.compiled_files.proofs.Soundness.Routines.{origin}
use Rattle.c_well_typed.proofs.Sizing.{at_all}

abbrev frame_by : List Step → List Bool → List Parameter → ℕ
frame_by code locals parameters = frame_size (record { ty = 0; locals = locals; parameters = parameters; code = code; labels = []; texts = [] })

-- what is only declared has nothing in its frame but the return place
empty_frame : (g : RoutineData) → g.code ≡ [] → g.locals ≡ [] → g.parameters ≡ [] → frame_size g ≡ 16
empty_frame g code locals parameters =
    ap (λ (z : List Step). frame_by z g.locals g.parameters) code ∙ ap (λ (z : List Bool). frame_by [] z g.parameters) locals
    ∙ ap (λ (z : List Parameter). frame_by [] [] z) parameters

module _ (p : ProgramData) (typed : HaveTypedFunctions (of_program p)) (scoped : TypedHaveScopes) (weighed : FramesAreWeighed) (bounded : IsProgramBounded p) where
  by_body : (k : ℕ) (f : FunctionData) → slice_get p.functions k ≡ Some f → (n : ℕ) (b : Option (Statement ℕ)) → f.body ≡ b
      → slice_get (lowered p).routines k ≡ Some (routine_of p f (code_if_any p n f b)) → frame_size (routine_of p f (code_if_any p n f b)) ≤ frame_of p (Some f)
  by_body k f is n None has there =
      let t = at_all (IsTypedFunction (of_program p)) p.functions k f typed.functions is in
      let none : HasBody (of_program p) f t.0 t.1 None = subst (λ (b : Option (Statement ℕ)). HasBody (of_program p) f t.0 t.1 b) has t.5 in
      let locals = ap (λ (z : List Local). map (λ (l : Local). l.block) (z ++ f.locals)) none.0 ∙ ap (map (λ (l : Local). l.block)) none.1 in
      let e = empty_frame (routine_of p f (code_if_any p n f None)) refl locals (ap (map (parameter_of p)) none.0) in omega (arith, e)
  by_body k f is n (Some body) has there =
      weighed p bounded (routine_of p f (code_if_any p n f (Some body))) f (record { number = k; routine = there; function = is })
      (at_all HasScopes p.functions k f (scoped p typed) is) (λ none. let z : Some body ≡ None = sym has ∙ none in cc)

  pub frames_within : AreWithin p (frame_in (lowered p))
  frames_within k = by_routine (slice_get (lowered p).routines k) refl
    where
      by_routine : (o : Option RoutineData) → slice_get (lowered p).routines k ≡ o → frame_if_any o ≤ frame_of p (slice_get p.functions k)
      by_routine None e = omega arith
      by_routine (Some g) e =
          let o = origin p k g e in
          subst (λ (z : Option FunctionData). frame_size g ≤ frame_of p z) (sym o.is)
          (subst (λ (z : RoutineData). frame_size z ≤ frame_of p (Some o.function)) o.made
          (by_body k o.function o.is o.number o.function.body refl
          (e ∙ ap Some (sym o.made))))
