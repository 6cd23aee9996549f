-- Each function with a body of a well typed program that a C text can say: its body sits, its code is not empty, and what it names has code.
use Rattle.std.proofs.Common.{◌≡◌, ◌≢◌, ℕ, true, false, [], length, map, Option, Some, None, refl, ap, sym, subst, ◌∙◌}
use Rattle.std.proofs.Common.{slice_get}
use Rattle.std.specs.Prelude.{All, is_some, slice_index}
use Rattle.c_types.specs.Types.{CType, Record}
use Rattle.c_typed.specs.Addressed.{addressed_by_statement}
use Rattle.c_typed.specs.Programs.{FunctionData, ProgramData}
use Rattle.c_typed.specs.Trees.{Statement}
use Rattle.c_typed.specs.Typed.{Declared}
use Rattle.c_meaning.specs.Program.{all_locals, size_at, type_at}
use Rattle.c_link.specs.Gaps.{HasNone, IsMissing}
use Rattle.c_well_typed.specs.Printable.Programs.{IsBody, IsPrintable, IsPrintableFunction, if_any}
use Rattle.c_well_typed.specs.WellTyped.{AreWellTyped, HasBody as HasTypedBody, IsTypedFunction, declared_in, of_program}
use Rattle.lower_tac.specs.Statements.{body_code, code_if_any, lowered, routine_of}
use Rattle.rv_code.specs.Programs.{places_of}
use Rattle.rv_code.specs.declared.layout.Places.{Places}
use Rattle.rv_emit.specs.Maps.{HasBody}
use Rattle.rv_image.specs.Data.{object_places}
use Rattle.source_values.specs.Rows.{TypesAreSmall}
use Rattle.compiled_files.proofs.Soundness.Bodies as Bodies
use Rattle.compiled_files.proofs.Soundness.Declaring as Declaring
use Rattle.compiled_files.proofs.Soundness.Knowing as Knowing
use Rattle.compiled_files.proofs.Soundness.Referring.{IsUsed, body_used, has_body}
use Rattle.compiled_files.proofs.Soundness.Routines.{routine_there}
use Rattle.compiled_files.proofs.Soundness.Sitting.{StatementSits}
use Rattle.c_well_typed.proofs.Sizing.{at_all, get_from}

pub some_body : {A : Type 0} (o : Option A) → is_some o ≡ true → (x : A) × (o ≡ Some x)
some_body None e = cc
some_body (Some x) e = (x, refl)

module _ (p : ProgramData) (typed : AreWellTyped (of_program p)) (printable : IsPrintable p) (small : TypesAreSmall p) (names : HasNone (IsMissing p)) where
  abbrev pub places : Places
  places = places_of (lowered p) (object_places p)

  abbrev pub objects : ℕ
  objects = length (object_places p)

  filled : All (λ (r : Record). r.fields ≢ []) p.records
  filled k d h = (printable.records k d h).0

  -- how large the locals of a function are
  abbrev pub size : FunctionData → ℕ → ℕ
  size f x = slice_index (map (λ l. size_at p l.ty) (all_locals f)) x

  -- ---- one function

  module _ (i : ℕ) (f : FunctionData) (body : Statement ℕ) (is : slice_get p.functions i ≡ Some f) (has : f.body ≡ Some body) where
    pub function_typed : IsTypedFunction (of_program p) f
    function_typed = at_all (IsTypedFunction (of_program p)) p.functions i f typed.functions.functions is

    pub body_typed : HasTypedBody (of_program p) f function_typed.0 function_typed.1 (Some body)
    body_typed = subst (λ b. HasTypedBody (of_program p) f function_typed.0 function_typed.1 b) has function_typed.5

    pub body_printable : IsBody p f body
    body_printable =
        let all = at_all (IsPrintableFunction p) p.functions i f printable.functions is in
        at_all (IsBody p f) (if_any f.body) 0 body all (ap (λ (b : Option (Statement ℕ)). slice_get (if_any b) 0) has)

    abbrev d : Declared
    d = declared_in (of_program p) f

    pub body_sits : (Here : ℕ → Type 0) → ((g : ℕ) (s : CType) → slice_get d.functions g ≡ Some s → IsUsed p g → Here g)
        → StatementSits p (lowered p) objects Here (all_locals f) (size f) body
    body_sits Here bodies =
        let w = body_printable in
        Declaring.statement_sits p (lowered p) objects Here (all_locals f) (IsUsed p) d
        (Knowing.facts p typed filled small f (addressed_by_statement body) w.1 (IsUsed p) Here bodies)
        (Knowing.local_facts p typed filled small f (addressed_by_statement body) w.1)
        function_typed.0 false false body body_typed.3.1 (body_used p i f body is has)

    pub code_filled : (number : ℕ) → (body_code p number f body).code ≢ []
    code_filled number = Bodies.is_filled p (lowered p) places (size f) (λ g. Unit {0}) number f body (body_sits (λ g. Unit {0}) (λ g s e u. tt))

  -- a function that is used and declared has code
  pub used_code : (i : ℕ) (f : FunctionData) → slice_get p.functions i ≡ Some f → IsUsed p i → HasBody (lowered p) i
  used_code i f is used =
      let b = some_body f.body (has_body p names i f is used) in
      let r = routine_there p i f is in
      let same : code_if_any p r.0 f f.body ≡ body_code p r.0 f b.0 = ap (code_if_any p r.0 f) b.1 in
      (routine_of p f (code_if_any p r.0 f f.body), r.1, λ e. code_filled i f b.0 is b.1 r.0 (sym (ap (λ (out : _). out.code) same) ∙ e))

  pub declared_code : (i : ℕ) (s : CType) → slice_get (map (λ (g : FunctionData). type_at p g.ty) p.functions) i ≡ Some s → IsUsed p i → HasBody (lowered p) i
  declared_code i s e used =
      let f = get_from (λ (g : FunctionData). type_at p g.ty) p.functions i s e in used_code i f.0 f.1 used
