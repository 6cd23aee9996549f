-- How large frames are.
use Rattle.std.proofs.Common.{◌≡◌, ℕ, zero, suc, ◌+◌, ◌*◌, ◌≤◌, List, [], ◌∷◌, ◌++◌, length, map, All, Some, refl, ap, ◌∙◌, subst, arith}
use Rattle.std.proofs.Common.{slice_get}
use Rattle.std.specs.Prelude.{replicate, Bool, true, false, if◌then◌else◌}
use Rattle.std.proofs.lemmas.List.Elements.{All-head, All-tail}
use Rattle.c_typed.specs.declared.program.Local.{Local}
use Rattle.c_typed.specs.Programs.{FunctionData, ProgramData}
use Rattle.c_meaning.specs.Program.{all_locals, size_at}
use Rattle.c_meaning.specs.Weights.{size_of_locals}
use Rattle.c_well_typed.specs.ProgramWeights.Weights.{frame_weight, weight_of_function}
use Rattle.lower_tac.specs.Statements.{parameter_of}
use Rattle.tac_ir.specs.Code.{RoutineData}
use Rattle.tac_ir.specs.Temporaries.{top_of, top_of_all}
use Rattle.tac_ir.specs.declared.step.Step.{Step}
use Rattle.tac_ir.specs.declared.step.Step.TheVariants as S
use Rattle.code_bounds.specs.Temporaries.{temporaries}
use Rattle.code_bounds.specs.LoweredLaws.{IsRoutineOf, HasOwnSize, sizes_of_locals, SizesStand, TemporariesAreFew, FramesAreWithin}
use Rattle.code_bounds.proofs.Routines.{some_same, Is, is_of}
use Rattle.rv_code.specs.Frames.{block_sizes, end_from, sizes_in, sizes_of_parameters, sizes_with, slot_at, slots, whole_words, with_size}
use Rattle.rv_code.specs.Frames.{block_size, kept_by, kept_in, past}
use Rattle.code_bounds.specs.CompiledLaws.{FramesAreSmall, FramesAreWeighed}

pub all_at : {A : Type 0} (P : A → Type 0) (all : List A) (k : ℕ) (x : A) → slice_get all k ≡ Some x → All P all → P x
all_at P [] k x e h = cc
all_at P (y ∷ all) zero x e h = subst P (some_same e) (All-head P y all h)
all_at P (y ∷ all) (suc k) x e h = all_at P all k x e (All-tail P y all h)

-- ---- words for temporaries

kept_below : (s : Step) → past (kept_by s) ≤ top_of s
kept_below (S.Set t a) = omega arith
kept_below (S.Clear t) = omega arith
kept_below (S.Unary t at op a) = omega arith
kept_below (S.Not t a) = omega arith
kept_below (S.Convert t at kind a) = omega arith
kept_below (S.AsPointer t at a) = omega arith
kept_below (S.Number t at a) = omega arith
kept_below (S.Binary t at op kind right a b) = omega arith
kept_below (S.Compare t at op kind a b) = omega arith
kept_below (S.Move t at op size left kind a b) = omega arith
kept_below (S.Distance t at size a b) = omega arith
kept_below (S.Update t at op size sort right a b) = omega arith
kept_below (S.Field t at by a) = omega arith
kept_below (S.ElementField t at size kind by a b) = omega arith
kept_below (S.Element t at n size addressed kind a b) = omega arith
kept_below (S.Part t at by a) = omega arith
kept_below (S.Inside t at x by) = omega arith
kept_below (S.Load t at access a) = omega arith
kept_below (S.Store at access a b) = omega arith
kept_below (S.CopyRecord at size a b) = omega arith
kept_below (S.Jump to) = omega arith
kept_below (S.Branch when a to) = omega arith
kept_below (S.Test at op kind when a b to) = omega arith
kept_below (S.Case n a to) = omega arith
kept_below (S.Call t at f all) = omega arith
kept_below (S.CallThrough t at ty a all) = omega arith
kept_below (S.Library t at which all) = omega arith
kept_below (S.Allocate t at r size zeroed a) = omega arith
kept_below (S.Begin x size) = omega arith
kept_below (S.End x) = omega arith
kept_below (S.Forget x size) = omega arith
kept_below (S.Zeros x size) = omega arith
kept_below (S.Text x by n) = omega arith
kept_below (S.Began f n) = omega arith
kept_below (S.Return a) = omega arith
kept_below (S.ReturnHeld t) = omega arith
kept_below (S.Fail kind at) = omega arith

slots_below : (all : List Step) (least most : ℕ) → least ≤ most → top_of_all all ≤ most → kept_in all least ≤ most
slots_below [] least most h k = h
slots_below (s ∷ more) least most h k =
    let a = kept_below s in let b = slots_below more least most h (omega (arith, k)) in omega (arith, a, b, k)

-- ---- blocks: none is larger than its local

abbrev Below : (sizes own : List ℕ) → Type 0
Below [] [] = Unit {0}
Below [] (b ∷ own) = ⊥
Below (a ∷ sizes) [] = ⊥
Below (a ∷ sizes) (b ∷ own) = (a ≤ b) × Below sizes own

set_below : (x n v : ℕ) (sizes own : List ℕ) → Below sizes own → slice_get own x ≡ Some v → n ≤ v → Below (with_size x n sizes) own
set_below x n v [] [] h e le = cc
set_below x n v [] (b ∷ own) h e le = absurd h
set_below x n v (a ∷ sizes) [] h e le = absurd h
set_below zero n v (a ∷ sizes) (b ∷ own) h e le = (let q : b ≡ v = some_same e in let l = h.0 in omega (arith, q, l, le), h.1)
set_below (suc x) n v (a ∷ sizes) (b ∷ own) h e le = (h.0, set_below x n v sizes own h.1 e le)

with_below : (own : List ℕ) (s : Step) → HasOwnSize own s → (sizes : List ℕ) → Below sizes own → Below (sizes_with s sizes) own
with_below own (S.Set t a) h sizes k = k
with_below own (S.Clear t) h sizes k = k
with_below own (S.Unary t at op a) h sizes k = k
with_below own (S.Not t a) h sizes k = k
with_below own (S.Convert t at kind a) h sizes k = k
with_below own (S.AsPointer t at a) h sizes k = k
with_below own (S.Number t at a) h sizes k = k
with_below own (S.Binary t at op kind right a b) h sizes k = k
with_below own (S.Compare t at op kind a b) h sizes k = k
with_below own (S.Move t at op size left kind a b) h sizes k = k
with_below own (S.Distance t at size a b) h sizes k = k
with_below own (S.Update t at op size sort right a b) h sizes k = k
with_below own (S.Field t at by a) h sizes k = k
with_below own (S.ElementField t at size kind by a b) h sizes k = k
with_below own (S.Element t at n size addressed kind a b) h sizes k = k
with_below own (S.Part t at by a) h sizes k = k
with_below own (S.Inside t at x by) h sizes k = k
with_below own (S.Load t at access a) h sizes k = k
with_below own (S.Store at access a b) h sizes k = k
with_below own (S.CopyRecord at size a b) h sizes k = k
with_below own (S.Jump to) h sizes k = k
with_below own (S.Branch when a to) h sizes k = k
with_below own (S.Test at op kind when a b to) h sizes k = k
with_below own (S.Case n a to) h sizes k = k
with_below own (S.Call t at f all) h sizes k = k
with_below own (S.CallThrough t at ty a all) h sizes k = k
with_below own (S.Library t at which all) h sizes k = k
with_below own (S.Allocate t at r size zeroed a) h sizes k = k
with_below own (S.Begin x size) h sizes k = set_below x size size sizes own k h (omega arith)
with_below own (S.End x) h sizes k = k
with_below own (S.Forget x size) h sizes k = k
with_below own (S.Zeros x size) h sizes k = k
with_below own (S.Text x by n) h sizes k = k
with_below own (S.Began f n) h sizes k = k
with_below own (S.Return a) h sizes k = k
with_below own (S.ReturnHeld t) h sizes k = k
with_below own (S.Fail kind at) h sizes k = k

steps_below : (own : List ℕ) (all : List Step) → All (HasOwnSize own) all → (sizes : List ℕ) → Below sizes own → Below (sizes_in all sizes) own
steps_below own [] h sizes k = k
steps_below own (s ∷ more) h sizes k =
    with_below own s (All-head (HasOwnSize own) s more h) (sizes_in more sizes) (steps_below own more (All-tail (HasOwnSize own) s more h) sizes k)

module _ (p : ProgramData) where
  abbrev size : Local → ℕ
  size l = size_at p l.ty

  none_below : (all : List Local) → Below (replicate (length (map (λ (l : Local). l.block) all)) 0) (map size all)
  none_below [] = tt
  none_below (l ∷ all) = (omega arith, none_below all)

  parameters_below : (own : List ℕ) (x : ℕ) (all : List Local) → ((k : ℕ) (l : Local) → slice_get all k ≡ Some l → slice_get own (x + k) ≡ Some (size l))
      → (sizes : List ℕ) → Below sizes own → Below (sizes_of_parameters x (map (parameter_of p) all) sizes) own
  parameters_below own x [] are sizes h = h
  parameters_below own x (l ∷ all) are sizes h =
      set_below x (block_size (parameter_of p l)) (size l) (sizes_of_parameters (x + 1) (map (parameter_of p) all) sizes) own
      (parameters_below own (x + 1) all (λ k m e. let q : x + 1 + k ≡ x + suc k = omega arith in ap (slice_get own) q ∙ are (suc k) m e) sizes h)
      (let q : x ≡ x + 0 = omega arith in ap (slice_get own) q ∙ are 0 l refl) (by_block l.block (size l))
    where
      by_block : (b : Bool) (n : ℕ) → (if b then n else 0) ≤ n
      by_block true n = omega arith
      by_block false n = omega arith

  sizes_first : (a b : List Local) (k : ℕ) (l : Local) → slice_get a k ≡ Some l → slice_get (map size (a ++ b)) k ≡ Some (size l)
  sizes_first [] b k l e = cc
  sizes_first (m ∷ a) b zero l e = ap Some (ap size (some_same e))
  sizes_first (m ∷ a) b (suc k) l e = sizes_first a b k l e

  -- a block takes whole words, at most four bytes for each of the local's
  end_below : (all : List Local) (at : ℕ) (sizes : List ℕ) → Below sizes (map size all) → end_from at sizes ≤ at + 4 * size_of_locals p all
  end_below [] at [] h = omega arith
  end_below [] at (a ∷ sizes) h = absurd h
  end_below (l ∷ all) at [] h = absurd h
  end_below (l ∷ all) at (a ∷ sizes) h =
      let b = end_below all (at + whole_words a) sizes h.1 in let d = h.0 in omega (arith, b, d)

-- ---- frames

sizes_below : SizesStand → (p : ProgramData) (r : RoutineData) (f : FunctionData) → IsRoutineOf p r f → Is p r f → Below (block_sizes r) (sizes_of_locals p f)
sizes_below stand p r f i z =
    steps_below (sizes_of_locals p f) r.code (stand p r f i) (sizes_of_parameters 0 r.parameters (replicate (length r.locals) 0))
    (subst (λ (r : RoutineData). Below (sizes_of_parameters 0 r.parameters (replicate (length r.locals) 0)) (sizes_of_locals p f)) z.is
    (parameters_below p (sizes_of_locals p f) 0 f.parameters (λ k l e.
    let q : 0 + k ≡ k = omega arith in ap (slice_get (sizes_of_locals p f)) q ∙ sizes_first p f.parameters f.locals k l e)
    (replicate (length (map (λ (l : Local). l.block) (all_locals f))) 0) (none_below p (all_locals f))))

pub frames_are_small : SizesStand → TemporariesAreFew → FramesAreWithin → FramesAreSmall
frames_are_small stand few within p r f i scopes some =
    let a = end_below p (all_locals f) (slot_at (slots r)) (block_sizes r) (sizes_below stand p r f i (is_of p r f i)) in
    let b = few p r f i in
    let d = within p r f i scopes some in
    let e = slots_below r.code (length r.locals) (length r.locals + weight_of_function temporaries f) (omega arith) b in omega (arith, a, d, e)

pub frames_are_weighed : FramesAreSmall → FramesAreWeighed
frames_are_weighed small p bounded r f i scopes some =
    let a = small p r f i scopes some in
    let b = all_at (λ (g : FunctionData). frame_weight g ≤ 64 * g.nodes) p.functions i.number f i.function bounded.frames in omega (arith, a, b)
