-- Scopes and loops keep what a good step keeps.
use Rattle.std.proofs.Common.{◌≡◌, ℕ, Bool, true, false, List, [], ◌∷◌, ◌++◌, length, Option, Some, None, refl, arith, slice_get}
use Rattle.std.proofs.Common.{if◌then◌else◌}
use Rattle.std.specs.Prelude.{◌-◌, ◌==◌}
use Rattle.c_typed.specs.Programs.{ProgramData}
use Rattle.c_typed.specs.declared.program.Local.{Local}
use Rattle.c_meaning.specs.Program.{size_at}
use Rattle.lower_tac.specs.Parts.{Steps}
use Rattle.lower_tac.specs.declared.ways.Exit.TheVariants.{Leads as leads, Leaves as leaves}
use Rattle.lower_tac.specs.declared.ways.Exit.{Exit}
use Rattle.lower_tac.specs.declared.ways.Exits.{Exits}
use Rattle.lower_tac.specs.declared.ways.ReturnWay.TheVariants.{AtOnce as at_once, BehindEnds as behind_ends}
use Rattle.lower_tac.specs.declared.ways.ReturnWay.{ReturnWay}
use Rattle.lower_tac.specs.Statements.{Out, by, here, with_label}
use Rattle.lower_tac.specs.Statements.{fallen, exit_code, back_code, begin_code, begins_code, end_code, ends_code}
use Rattle.lower_tac.specs.Statements.{have_blocks, scope_code, scope_end, scope_exits, scoped_code, round, through, returned, continued, broken}
use Rattle.rv_code.specs.declared.layout.Places.{Places}
use Rattle.tac_ir.specs.Code.{Code, RoutineData}
use Rattle.tac_ir.specs.declared.step.Operand.TheVariants as O
use Rattle.tac_ir.specs.declared.step.Step.{Step}
use Rattle.tac_ir.specs.declared.step.Step.TheVariants as S
use Rattle.tac_ir.specs.declared.step.Target.{Target}
use Rattle.tac_ir.specs.declared.step.Target.TheVariants as To
use Rattle.compiled_files.proofs.Soundness.Sitting.{OwnSit, SitsDeclaration}
use Rattle.compiled_files.proofs.Soundness.Adding as Adding

module _ (p : ProgramData) (c : Code) (places : Places) (g : RoutineData) (size : ℕ → ℕ) (Here : ℕ → Type 0) (locals : List Local) (P : Steps → Type 0)
    (add : (s : Step) (code : Steps) → Adding.Good p c places g size Here s → P code → P (s ∷ code)) where
  -- of what is there, whatever texts are to come
  abbrev pub Q : Out → Type 0
  Q out = (more : List (List ℕ)) → out.texts ++ more ≡ g.texts → P out.code

  pub by_adds : (make : Steps → Steps) → ((code : Steps) → P code → P (make code)) → (out : Out) → Q out → Q (by make out)
  by_adds make adds out h more e = adds out.code (h more e)

  pub jump_adds : (to : Target) (code : Steps) → P code → P (S.Jump to ∷ code)
  jump_adds to code h = add (S.Jump to) code (tt, tt, tt, tt) h

  pub clear_adds : (t : ℕ) (code : Steps) → P code → P (S.Clear t ∷ code)
  clear_adds t code h = add (S.Clear t) code (tt, tt, tt, tt) h

  -- over the number of the function
  module _ (k : ℕ) where
    -- ---- where blocks begin and end

    begin_adds : (x : ℕ) (o : Option Local) → SitsDeclaration p c (length places.objects) Here locals size o x None → (code : Steps) → P code
        → P (begin_code p k locals o x code)
    begin_adds x None s code h = h
    begin_adds x (Some l) s code h = by_block l.block refl
      where
        by_block : (b : Bool) → l.block ≡ b → P (if b then S.Begin x (size_at p l.ty) ∷ code else S.Clear x ∷ code)
        by_block true e = add (S.Begin x (size_at p l.ty)) code (tt, s.0 e, tt, tt) h
        by_block false e = clear_adds x code h

    pub begins_add : (own : List ℕ) → OwnSit p c (length places.objects) Here locals size own → (code : Steps) → P code → P (begins_code p k locals own code)
    begins_add [] s code h = h
    begins_add (x ∷ more) s code h = begin_adds x (slice_get locals x) s.0 (begins_code p k locals more code) (begins_add more s.1 code h)

    end_adds : (x : ℕ) (o : Option Local) (code : Steps) → P code → P (end_code p k locals o x code)
    end_adds x None code h = h
    end_adds x (Some l) code h = by_block l.block
      where
        by_block : (b : Bool) → P (if b then S.End x ∷ code else code)
        by_block true = add (S.End x) code (tt, tt, tt, tt) h
        by_block false = h

    pub ends_add : (own : List ℕ) (code : Steps) → P code → P (ends_code p k locals own code)
    ends_add [] code h = h
    ends_add (x ∷ more) code h = end_adds x (slice_get locals x) (ends_code p k locals more code) (ends_add more code h)

    -- ---- ways out

    pub fallen_good : Adding.Good p c places g size Here (S.Return (fallen p k locals))
    fallen_good = by_main (k == p.main)
      where
        by_main : (b : Bool) → Adding.Good p c places g size Here (S.Return (if b then Some (O.Word 0) else None))
        by_main true = ((omega arith, tt), tt, tt, tt)
        by_main false = (tt, tt, tt, tt)

    pub exit_adds : (e : Exit) (code : Steps) → P code → P (exit_code p k locals e code)
    exit_adds (leads to) code h = jump_adds to code h
    exit_adds leaves code h = add (S.Return (fallen p k locals)) code fallen_good h

    pub back_adds : (e : ReturnWay) (code : Steps) → P code → P (back_code p k locals e code)
    back_adds at_once code h = add (S.ReturnHeld (length locals)) code (tt, tt, tt, tt) h
    back_adds (behind_ends to) code h = jump_adds to code h

    -- ---- scopes

    abbrev pub Makes : (Exits → Out → Out) → Type 0
    Makes make = (x : Exits) (out : Out) → Q out → Q (make x out)

    end_of_scope : (own : List ℕ) (x : Exits) (out : Out) → Q out → Q (scope_end p k locals true own x out)
    end_of_scope own x out h more e =
        let a = by_adds (ends_code p k locals own) (ends_add own) out h in
        let b = by_adds (λ code. ends_code p k locals own (back_code p k locals x.on_return code))
        (λ code h. ends_add own (back_code p k locals x.on_return code) (back_adds x.on_return code h)) (through p k locals own out) a in
        let d = by_adds (λ code. ends_code p k locals own (exit_code p k locals x.on_continue code))
        (λ code h. ends_add own (exit_code p k locals x.on_continue code) (exit_adds x.on_continue code h)) (returned p k locals own x out) b in
        let f = by_adds (λ code. ends_code p k locals own (exit_code p k locals x.on_break code))
        (λ code h. ends_add own (exit_code p k locals x.on_break code) (exit_adds x.on_break code h)) (continued p k locals own x out) d in
        jump_adds (here (through p k locals own out)) (broken p k locals own x out).code (f more e)

    pub scope_adds : (own : List ℕ) (make : Exits → Out → Out) → Makes make → (blocks : Bool) → Makes (scope_code p k locals blocks own make)
    scope_adds own make makes false x out h = makes x out h
    scope_adds own make makes true x out h =
        makes (scope_exits p k locals true own x out) (scope_end p k locals true own x out) (end_of_scope own x out h)

    pub scoped_adds : (own : List ℕ) → OwnSit p c (length places.objects) Here locals size own → (make : Exits → Out → Out) → Makes make
        → Makes (scoped_code p k locals own make)
    scoped_adds own s make makes x out h =
        by_adds (begins_code p k locals own) (begins_add own s) (scope_code p k locals (have_blocks p k locals own) own make x out)
        (scope_adds own make makes (have_blocks p k locals own) x out h)

    -- ---- loops

    pub round_adds : (test : Target → Steps → Steps) (step : Steps → Steps) (enters : Target → Steps → Steps)
        (body : (on_break on_continue : Target) → Out → Out)
        → ((to : Target) (code : Steps) → P code → P (test to code)) → ((code : Steps) → P code → P (step code))
        → ((to : Target) (code : Steps) → P code → P (enters to code)) → ((b n : Target) (inner : Out) → Q inner → Q (body b n inner))
        → (out : Out) → Q out → Q (round p k locals test step enters body out)
    round_adds test step enters body tests steps enter bodies out h more e =
        let l = length out.labels in
        let tested = by (test (To.Label l)) (with_label out) in
        let stepped = by step tested in
        let inner = body (here out) (here stepped) stepped in
        let a : Q tested = λ more e. tests (To.Label l) out.code (h more e) in
        let b : Q stepped = λ more e. steps tested.code (a more e) in
        let d : Q inner = bodies (here out) (here stepped) stepped b in
        enter (here tested) (S.Began k (inner.loops - 1) ∷ inner.code) (add (S.Began k (inner.loops - 1)) inner.code (tt, tt, tt, tt) (d more e))
