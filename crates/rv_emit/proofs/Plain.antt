-- The form of a step that gives a value: its operands come into x5 and x6, instructions make the value in x5, and it goes to its temporary.
use Rattle.std.proofs.Common.{◌≡◌, ◌≢◌, ℕ, ◌+◌, ◌*◌, ◌^◌, ◌<◌, Bool, true, false, List, [], ◌++◌, length, Option, Some, None, slice_get, refl, sym, subst, arith, append_assoc}
use Rattle.std.specs.Prelude.{unwrap_or}
use Rattle.block_memory.specs.RunWorlds.Worlds.{End}
use Rattle.block_memory.specs.declared.run_worlds.value.Value.{Value}
use Rattle.c_meaning.specs.declared.frame.Slot.TheVariants.{ByName as by_name}
use Rattle.rv_isa.specs.declared.instruction.Inst.{Inst}
use Rattle.rv_runtime.specs.Steps.States.{put}
use Rattle.tac_ir.specs.Running.{Next, does, with_temp}
use Rattle.tac_ir.specs.declared.step.Operand.{Operand}
use Rattle.tac_ir.specs.declared.step.Step.{Step}
use Rattle.tac_ir.specs.declared.step.Step.TheVariants as S
use Rattle.rv_code.specs.Code.{is_block, both_code, get_code, give_code, step_code, steps_code}
use Rattle.rv_code.specs.Frames.{slots}
use Rattle.rv_emit.specs.Maps.{Means}
use Rattle.rv_emit.specs.Grounds.{Ground}
use Rattle.rv_emit.specs.Fitting.{OperandFits, StepFits}
use Rattle.rv_emit.specs.Relation.{Program, Moment, Point, Ready, Here, IsBuilt}
use Rattle.rv_emit.specs.Claims.{Claims, AreClaims, Follows, state}
use Rattle.rv_emit.proofs.Giving.{elsewhere, cleared}
use Rattle.rv_emit.proofs.Making.{Makes, made_by_none}
use Rattle.rv_emit.proofs.Moves.{Goal, code_front, code_back, parts}
use Rattle.rv_emit.proofs.Values.{Reads, goal, with_register, by_read, by_get, by_give}

-- what is not known to be a block is none
pub open_is : (locals : List Bool) (t : ℕ) → slice_get locals t ≢ Some true → unwrap_or (slice_get locals t) false ≡ false
open_is locals t ne = by_bool (slice_get locals t) ne
  where
    by_bool : (o : Option Bool) → o ≢ Some true → unwrap_or o false ≡ false
    by_bool None ne = refl
    by_bool (Some false) ne = refl
    by_bool (Some true) ne = absurd (ne refl)

-- the point behind some instructions
abbrev pub behind : Point → (f : ℕ → ℕ) → List Inst → Point
behind q f is = record q { f = f; pc = q.pc + 4 * length is }

module _ (ground : Ground) (p : Program) (built : IsBuilt ground p) (Claim : Claims) (claims : AreClaims ground p Claim) where
  -- a step's instructions with what follows them, and the claim on the step
  abbrev pub Works : Next → Moment → Point → Step → Type 0
  Works next m q s = Here ground p q.pc (step_code p.places m.g m.l s ++ steps_code p.places m.g m.l m.more) → StepFits p.types p.code p.places m.g s
      → Claim (does p.types p.code next m.callers m.g s m.more m.frame m.w) m.w.turns (state q) q.before

  -- the goal of an end does not know where the machine stands
  abbrev pub aim : End → ℕ → Point → Goal ground
  aim e n q = goal ground p built Claim claims e n q

  module _ (e : End) (n : ℕ) (m : Moment) (q : Point) (ready : Ready ground p m q) where
    -- instructions make registers of which something holds
    pub by_make : (is tail : List Inst) (R : (ℕ → ℕ) → Type 0) → Here ground p q.pc (is ++ tail) → Makes ground (aim e n q) is q.f R
        → ((f : ℕ → ℕ) → R f → Ready ground p m (behind q f is) → Here ground p (q.pc + 4 * length is) tail → Claim e n (state (behind q f is)) q.before)
        → Claim e n (state q) q.before
    by_make is tail R code makes c =
        makes q.pc q.memory ready.world.keeps ready.code (code_front ground q.pc is tail code)
        λ f r nil stack. c f r (elsewhere ground p m q ready f (q.pc + 4 * length is) nil stack (omega (arith, ready.code)) (omega (arith, ready.whole)))
        (code_back ground q.pc is tail code)

    -- both operands
    pub by_both : (a b : Operand) (v u : Value) (tail : List Inst) → Reads m.frame a v → Reads m.frame b u → OperandFits p.code p.places a
        → OperandFits p.code p.places b → Here ground p q.pc (both_code p.places m.g m.l a b ++ tail)
        → ((x y : ℕ) → Means p.code p.places m.blocks v x → Means p.code p.places m.blocks u y → x < 2 ^ 32 → y < 2 ^ 32
        → (r : Point) → r ≡ with_register (with_register q 5 x (get_code p.places m.g m.l 5 a)) 6 y (get_code p.places m.g m.l 6 b)
        → Ready ground p m r → Here ground p r.pc tail → Claim e n (state r) r.before)
        → Claim e n (state q) q.before
    by_both a b v u tail reads_a reads_b fits_a fits_b code c =
        let get_a = get_code p.places m.g m.l 5 a in
        let get_b = get_code p.places m.g m.l 6 b in
        let d = parts ground q.pc get_a get_b tail code in
        by_get ground p built Claim claims m q ready e n 5 (omega arith) (omega arith) a v reads_a fits_a d.0
        λ x means_x small_x ready_x.
        let qx = with_register q 5 x get_a in
        by_get ground p built Claim claims m qx ready_x e n 6 (omega arith) (omega arith) b u reads_b fits_b
        (code_front ground qx.pc get_b tail d.1)
        λ y means_y small_y ready_y.
        c x y means_x means_y small_x small_y (with_register qx 6 y get_b) refl ready_y (code_back ground qx.pc get_b tail d.1)

  module _ (next : Next) (follows : Follows ground p Claim next) where
    -- where the run goes on with a value in a temporary
    abbrev pub given : Moment → (t : ℕ) → Value → End
    given m t u = next m.callers m.g m.more (with_temp t (by_name (Some u)) m.frame) m.w

    -- that a value may go to a temporary
    pub record Takes (m : Moment) (t : ℕ) : Type 0 where
      pub slot : t < slots m.g
      pub opened : is_block m.g t ≡ false

    pub takes : (m : Moment) (t : ℕ) → t < slots m.g → slice_get m.g.locals t ≢ Some true → Takes m t
    takes m t lt ne = record { slot = lt; opened = open_is m.g.locals t ne }

    -- some instructions make a number in x5 that stands for the value
    abbrev pub Result : Moment → Point → (t : ℕ) → Value → List Inst → (ℕ → ℕ) → Type 0
    Result m q t u is f =
        (x : ℕ) × Means p.code p.places m.blocks u x × (x < 2 ^ 32) × Makes ground (aim (given m t u) m.w.turns q) is f (λ g. g 5 ≡ x)

    module _ (m : Moment) (t : ℕ) (u : Value) (is : List Inst) (takes_it : Takes m t) where
      pub by_result : (q : Point) → Ready ground p m q → Here ground p q.pc ((is ++ give_code t 5) ++ steps_code p.places m.g m.l m.more) → Result m q t u is q.f
          → Claim (given m t u) m.w.turns (state q) q.before
      by_result q ready code r =
          let more = steps_code p.places m.g m.l m.more in
          let code' = subst (Here ground p q.pc) (append_assoc is (give_code t 5) more) code in
          by_make (given m t u) m.w.turns m q ready is (give_code t 5 ++ more) (λ g. g 5 ≡ r.0) code' r.3
          λ f value ready' code''. by_give ground p built Claim claims next follows m (behind q f is) ready' 5 t r.0 (Some u) (omega arith) (λ d. omega arith) value
          (λ v e. r.2) takes_it.slot takes_it.opened (λ v e. let d : u ≡ v = cc in subst (λ z. Means p.code p.places m.blocks z r.0) d r.1) code''

      pub by_one : (q : Point) → Ready ground p m q → (a : Operand) (v : Value) → Reads m.frame a v → OperandFits p.code p.places a
          → Here ground p q.pc ((get_code p.places m.g m.l 5 a ++ (is ++ give_code t 5)) ++ steps_code p.places m.g m.l m.more)
          → ((x : ℕ) → Means p.code p.places m.blocks v x → x < 2 ^ 32 → (f : ℕ → ℕ) → f 5 ≡ x → f 0 ≡ 0 → Result m q t u is f)
          → Claim (given m t u) m.w.turns (state q) q.before
      by_one q ready a v reads fits code result =
          let get = get_code p.places m.g m.l 5 a in
          let d = parts ground q.pc get (is ++ give_code t 5) (steps_code p.places m.g m.l m.more) code in
          by_get ground p built Claim claims m q ready (given m t u) m.w.turns 5 (omega arith) (omega arith) a v reads fits d.0
          λ x means small ready'. by_result (with_register q 5 x get) ready' d.1 (result x means small (put q.f 5 x) refl ready.nil)

      pub by_two : (q : Point) → Ready ground p m q → (a b : Operand) (v w : Value) → Reads m.frame a v → Reads m.frame b w → OperandFits p.code p.places a
          → OperandFits p.code p.places b
          → Here ground p q.pc ((both_code p.places m.g m.l a b ++ (is ++ give_code t 5)) ++ steps_code p.places m.g m.l m.more)
          → ((x y : ℕ) → Means p.code p.places m.blocks v x → Means p.code p.places m.blocks w y → x < 2 ^ 32 → y < 2 ^ 32
          → (f : ℕ → ℕ) → f 5 ≡ x → f 6 ≡ y → f 0 ≡ 0 → Result m q t u is f)
          → Claim (given m t u) m.w.turns (state q) q.before
      by_two q ready a b v w reads_v reads_w fits_a fits_b code result =
          let more = steps_code p.places m.g m.l m.more in
          let code' = subst (Here ground p q.pc) (append_assoc (both_code p.places m.g m.l a b) (is ++ give_code t 5) more) code in
          by_both (given m t u) m.w.turns m q ready a b v w ((is ++ give_code t 5) ++ more) reads_v reads_w fits_a fits_b code'
          λ x y means_x means_y small_x small_y r e. subst (λ (r : Point). Ready ground p m r → Here ground p r.pc ((is ++ give_code t 5) ++ more)
          → Claim (given m t u) m.w.turns (state r) r.before) (sym e)
          (λ ready' code''. by_result (with_register (with_register q 5 x (get_code p.places m.g m.l 5 a)) 6 y (get_code p.places m.g m.l 6 b)) ready' code''
          (result x y means_x means_y small_x small_y (put (put q.f 5 x) 6 y) refl refl ready.nil))

    module _ (m : Moment) (q : Point) (ready : Ready ground p m q) where
      -- ---- a temporary gets what another one has, or nothing

      pub set_works : (t : ℕ) (a : Operand) → Works next m q (S.Set t a)
      set_works t a code fits =
          by_read ground p built Claim claims a _ m.frame m.w m.w.turns q
          λ v reads. by_one m t v [] (takes m t fits.slot fits.kinds.0) q ready a v reads (fits.operands 0 a (omega arith)) code
          λ x means small f value nil. (x, means, small, made_by_none ground (aim (given m t v) m.w.turns q) f (λ g. g 5 ≡ x) value)

      pub clear_works : (t : ℕ) → Works next m q (S.Clear t)
      clear_works t code fits =
          follows (record m { frame = with_temp t (by_name None) m.frame }) q
          (cleared ground p m q ready t None fits.slot (open_is m.g.locals t fits.kinds.0) refl) code
