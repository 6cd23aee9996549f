-- Where code goes on: jumps, branches, and the begin of a loop's body.
use Rattle.std.proofs.Common.{◌≡◌, ℕ, zero, suc, ◌+◌, ◌*◌, ◌%◌, ◌^◌, ◌<◌, inl, inr, Bool, true, false, not, cond, eqb, List, ◌∷◌, ◌++◌, Ok, pos, refl, ap, sym, ◌∙◌, subst, arith, append_assoc}
use Rattle.std.proofs.lemmas.Bool.{cases_eq, ne_eqb, eq-eqb}
use Rattle.std.proofs.lemmas.Int.{ints}
use Rattle.lay_base.specs.declared.place.Place.{Place}
use Rattle.c_types.specs.declared.ty.IntKind.{IntKind}
use Rattle.c_typed.specs.Conversions.{is_signed}
use Rattle.c_typed.specs.declared.operators.CompareOp.{CompareOp}
use Rattle.c_typed.specs.declared.operators.CompareOp.TheVariants as C
use Rattle.memory_words.specs.declared.cell_words.pointer.Ptr.TheVariants as P
use Rattle.block_memory.specs.RunWorlds.Doing.{turn_of}
use Rattle.block_memory.specs.RunWorlds.Events.{began}
use Rattle.block_memory.specs.RunWorlds.Operators.{compared, flag, is_true}
use Rattle.block_memory.specs.RunWorlds.Scalars.{as_word}
use Rattle.block_memory.specs.RunWorlds.Worlds.{World}
use Rattle.block_memory.specs.declared.run_worlds.value.Value.{Value}
use Rattle.block_memory.specs.declared.run_worlds.value.Value.TheVariants.{Word as word, Pointer as pointer}
use Rattle.rv_isa.specs.Arithmetic.{plus}
use Rattle.rv_isa.specs.declared.instruction.Inst.{Inst}
use Rattle.rv_isa.specs.declared.instruction.Inst.TheVariants.{Addi, Bne, Blt, Bltu, Bge, Bgeu}
use Rattle.rv_runtime.specs.Steps.States.{put, at}
use Rattle.rv_runtime.proofs.Steps.Operators.{IsBranch, is_beq, is_bne, is_blt, is_bltu, is_bge, is_bgeu, by_branch_taken, by_branch_passed}
use Rattle.rv_runtime.proofs.Steps.Steps.{by_nothing}
use Rattle.tac_ir.specs.Code.{led}
use Rattle.tac_ir.specs.Running.{Next, no_place}
use Rattle.tac_ir.specs.declared.step.Operand.{Operand}
use Rattle.tac_ir.specs.declared.step.Step.{Step}
use Rattle.tac_ir.specs.declared.step.Step.TheVariants as S
use Rattle.tac_ir.specs.declared.step.Target.{Target}
use Rattle.rv_code.specs.Code.{both_code, get_code, place_led, steps_code}
use Rattle.rv_code.specs.Operators as Op
use Rattle.rv_code.specs.Operators.{skip_if, skip_less, skip_not_less, skip_unless, skip_unless_true}
use Rattle.rv_code.specs.Words.{jump_code, number_code, upper}
use Rattle.rv_emit.specs.Maps.{Means}
use Rattle.rv_emit.specs.Grounds.{Ground}
use Rattle.rv_emit.specs.Relation.{Program, Moment, Point, Ready, Here, IsBuilt, Lands}
use Rattle.rv_emit.specs.Claims.{Claims, AreClaims, Follows, state}
use Rattle.rv_emit.proofs.Comparing.{compares, compared_is}
use Rattle.rv_emit.proofs.Numbers.{below}
use Rattle.rv_emit.proofs.Giving.{elsewhere}
use Rattle.rv_emit.proofs.Making.{made_by_number}
use Rattle.rv_emit.proofs.Moves.{code_front, parts, by_goto}
use Rattle.rv_emit.proofs.Noting.{noted}
use Rattle.rv_emit.proofs.Values.{with_register, by_read, by_tested, by_get, extent_small, entry_small}
use Rattle.rv_emit.proofs.Plain.{Works, aim, behind, by_both, by_make}

-- ---- branches over a jump, by what they test

-- the branch is taken where the test holds
pub record Skips (i : Inst) (f : ℕ → ℕ) (t : Bool) : Type 0 where
  pub a : ℕ
  pub b : ℕ
  pub test : ℕ → ℕ → Bool
  pub is : IsBranch i a b test (pos 12)
  pub low_a : a < 32
  pub low_b : b < 32
  pub holds : test (f a) (f b) ≡ t

less_skips : (kind : IntKind) (a b : ℕ) → IsBranch (skip_less kind a b) a b (λ x y. below (is_signed kind) x y) (pos 12)
less_skips kind a b = by_sort (is_signed kind)
  where
    by_sort : (signed : Bool) → IsBranch (cond signed (Blt a b (pos 12)) (Bltu a b (pos 12))) a b (λ x y. below signed x y) (pos 12)
    by_sort true = is_blt a b (pos 12)
    by_sort false = is_bltu a b (pos 12)

not_less_skips : (kind : IntKind) (a b : ℕ) → IsBranch (skip_not_less kind a b) a b (λ x y. not (below (is_signed kind) x y)) (pos 12)
not_less_skips kind a b = by_sort (is_signed kind)
  where
    by_sort : (signed : Bool) → IsBranch (cond signed (Bge a b (pos 12)) (Bgeu a b (pos 12))) a b (λ x y. not (below signed x y)) (pos 12)
    by_sort true = is_bge a b (pos 12)
    by_sort false = is_bgeu a b (pos 12)

compare_skips : (op : CompareOp) (kind : IntKind) (f : ℕ → ℕ) → Skips (skip_if op kind) f (compares op (is_signed kind) (f 5) (f 6))
compare_skips C.Equal kind f = record { a = 5; b = 6; test = _; is = is_beq 5 6 (pos 12); low_a = omega arith; low_b = omega arith; holds = refl }
compare_skips C.NotEqual kind f = record { a = 5; b = 6; test = _; is = is_bne 5 6 (pos 12); low_a = omega arith; low_b = omega arith; holds = refl }
compare_skips C.Less kind f = record { a = 5; b = 6; test = _; is = less_skips kind 5 6; low_a = omega arith; low_b = omega arith; holds = refl }
compare_skips C.Greater kind f = record { a = 6; b = 5; test = _; is = less_skips kind 6 5; low_a = omega arith; low_b = omega arith; holds = refl }
compare_skips C.LessEqual kind f = record { a = 6; b = 5; test = _; is = not_less_skips kind 6 5; low_a = omega arith; low_b = omega arith; holds = refl }
compare_skips C.GreaterEqual kind f = record { a = 5; b = 6; test = _; is = not_less_skips kind 5 6; low_a = omega arith; low_b = omega arith; holds = refl }

twice : (t : Bool) → not (not t) ≡ t
twice true = refl
twice false = refl

opposite_compares : (op : CompareOp) (signed : Bool) (x y : ℕ) → compares (Op.opposite op) signed x y ≡ not (compares op signed x y)
opposite_compares C.Equal signed x y = refl
opposite_compares C.NotEqual signed x y = sym (twice (eqb x y))
opposite_compares C.Less signed x y = refl
opposite_compares C.Greater signed x y = refl
opposite_compares C.LessEqual signed x y = sym (twice (below signed y x))
opposite_compares C.GreaterEqual signed x y = sym (twice (below signed x y))

-- whether it jumps
abbrev goes_if : (when : Bool) → Bool → Bool
goes_if when t = cond t when (not when)

-- where it is as asked the branch is not taken
unless_skips : (when : Bool) (op : CompareOp) (kind : IntKind) (f : ℕ → ℕ) (t : Bool) → compares op (is_signed kind) (f 5) (f 6) ≡ t
    → Skips (skip_unless when op kind) f (not (goes_if when t))
unless_skips true op kind f t e =
    subst (Skips (skip_if (Op.opposite op) kind) f) (opposite_compares op (is_signed kind) (f 5) (f 6) ∙ ap not e ∙ by_bool t)
    (compare_skips (Op.opposite op) kind f)
  where
    by_bool : (t : Bool) → not t ≡ not (goes_if true t)
    by_bool true = refl
    by_bool false = refl
unless_skips false op kind f t e = subst (Skips (skip_if op kind) f) (e ∙ by_bool t) (compare_skips op kind f)
  where
    by_bool : (t : Bool) → t ≡ not (goes_if false t)
    by_bool true = refl
    by_bool false = refl

true_skips : (when : Bool) (f : ℕ → ℕ) (t : Bool) → f 0 ≡ 0 → eqb (f 5) 0 ≡ not t → Skips (skip_unless_true when) f (not (goes_if when t))
true_skips true f t nil e =
    record { a = 5; b = 0; test = _; is = is_beq 5 0 (pos 12); low_a = omega arith; low_b = omega arith; holds = ap (eqb (f 5)) nil ∙ e ∙ by_bool t }
  where
    by_bool : (t : Bool) → not t ≡ not (goes_if true t)
    by_bool true = refl
    by_bool false = refl
true_skips false f t nil e =
    record { a = 5; b = 0; test = _; is = is_bne 5 0 (pos 12); low_a = omega arith; low_b = omega arith; holds = ap not (ap (eqb (f 5)) nil ∙ e) ∙ by_bool t }
  where
    by_bool : (t : Bool) → not (not t) ≡ not (goes_if false t)
    by_bool true = refl
    by_bool false = refl

module _ (ground : Ground) (p : Program) (built : IsBuilt ground p) (Claim : Claims) (claims : AreClaims ground p Claim) (next : Next)
    (follows : Follows ground p Claim next) (m : Moment) where
  abbrev rest : List Inst
  rest = steps_code p.places m.g m.l m.more

  -- the same with other steps to come
  turned : (q : Point) (more : List Step) → Ready ground p m q → Lands ground p m.g m.l q.pc more → Ready ground p (record m { more = more }) q
  turned q more ready lands = record {
    nil = ready.nil;
    stack = ready.stack;
    code = ready.code;
    whole = ready.whole;
    fits = lands.fits;
    world = ready.world;
    frame = ready.frame;
    callers = ready.callers;
    below = ready.below;
    runs = ready.runs;
  }

  -- a jump leads there
  at_target : (q : Point) → Ready ground p m q → (to : Target) → Lands ground p m.g m.l (place_led m.g m.l to) (led m.g to)
      → Here ground p q.pc (jump_code (place_led m.g m.l to)) → Claim (next m.callers m.g (led m.g to) m.frame m.w) m.w.turns (state q) q.before
  at_target q ready to lands code =
      let place = place_led m.g m.l to in
      let e = next m.callers m.g (led m.g to) m.frame m.w in
      let small = lands.place.small in
      let r : Point = record q { f = put q.f 5 (upper place * 2 ^ 12); pc = place } in
      by_goto ground (aim ground p built Claim claims e m.w.turns q) q.f q.pc q.memory ready.world.keeps ready.code place code lands.place.whole (omega arith)
      lands.place.code
      (follows (record m { more = led m.g to }) r
      (turned r (led m.g to) (elsewhere ground p m q ready r.f place refl refl lands.place.code lands.place.whole) lands) lands.stands)

  pub jump_works : (q : Point) → Ready ground p m q → (to : Target) → Works ground p built Claim claims next m q (S.Jump to)
  jump_works q ready to code fits =
      at_target q ready to (ready.frame.laid.lands to fits.target) (code_front ground q.pc (jump_code (place_led m.g m.l to)) rest code)

  -- a branch over a jump
  over_jump : (q : Point) → Ready ground p m q → (i : Inst) (to : Target) (goes : Bool) → Lands ground p m.g m.l (place_led m.g m.l to) (led m.g to)
      → Skips i q.f (not goes) → Here ground p q.pc (i ∷ (jump_code (place_led m.g m.l to) ++ rest))
      → Claim (next m.callers m.g (cond goes (led m.g to) m.more) m.frame m.w) m.w.turns (state q) q.before
  over_jump q ready i to true lands skips code =
      let e = next m.callers m.g (led m.g to) m.frame m.w in
      let r : Point = record q { pc = q.pc + 4 } in
      (claims.backward e).fewer m.w.turns (state q) q.before
      (by_branch_passed ground.segments ground.text (Claim e) (claims.backward e) q.f q.pc q.memory q.input q.output ready.world.keeps ready.code m.w.turns q.before i
      code.0 skips.a skips.b skips.test (pos 12) skips.is skips.low_a skips.low_b skips.holds
      (at_target r (elsewhere ground p m q ready q.f (q.pc + 4) refl refl (omega (arith, ready.code)) (omega (arith, ready.whole))) to lands
      (code_front ground (q.pc + 4) (jump_code (place_led m.g m.l to)) rest code.1)))
  over_jump q ready i to false lands skips code =
      let e = next m.callers m.g m.more m.frame m.w in
      let to' = q.pc + 4 + 4 + 4 in
      let r : Point = record q { pc = to' } in
      let below = code.1.1.0.below in
      let same : plus q.pc (pos 12) ≡ to' = omega (arith, ints) in
      (claims.backward e).fewer m.w.turns (state q) q.before
      (by_branch_taken ground.segments ground.text (Claim e) (claims.backward e) q.f q.pc q.memory q.input q.output ready.world.keeps ready.code m.w.turns q.before i
      code.0 skips.a skips.b to' skips.test (pos 12) skips.is skips.low_a skips.low_b skips.holds same (omega (arith, ready.whole)) (omega (arith, ready.code))
      (follows m r (elsewhere ground p m q ready q.f to' refl refl (omega (arith, ready.code)) (omega (arith, ready.whole))) code.1.1.1))

  -- 0 and null alone are false
  is_false : (q : Point) → Ready ground p m q → (v : Value) (x : ℕ) → Means p.code p.places m.blocks v x → eqb x 0 ≡ not (is_true v)
  is_false q ready (word n) x means = ap (λ (i : ℕ). eqb i 0) means ∙ sym (twice (eqb n 0))
  is_false q ready (pointer P.Null) x means = eq-eqb x 0 means
  is_false q ready (pointer (P.Block b at)) x means =
      (let small = extent_small ground p built m q ready b means.0 means.1 in ne_eqb x 0 (λ e. omega (arith, small.0, means.3)))
  is_false q ready (pointer (P.Function k)) x means =
      (let small = entry_small ground p built k means.0 in ne_eqb x 0 (λ e. omega (arith, small.0, means.1)))

  pub branch_works : (q : Point) → Ready ground p m q → (when : Bool) (a : Operand) (to : Target) → Works ground p built Claim claims next m q (S.Branch when a to)
  branch_works q ready when a to code fits =
      let get = get_code p.places m.g m.l 5 a in
      let jump = jump_code (place_led m.g m.l to) in
      let d = parts ground q.pc get (skip_unless_true when ∷ jump) rest code in
      by_read ground p built Claim claims a _ m.frame m.w m.w.turns q
      λ v reads.
      let goes = goes_if when (is_true v) in
      by_get ground p built Claim claims m q ready (next m.callers m.g (cond goes (led m.g to) m.more) m.frame m.w) m.w.turns 5 (omega arith) (omega arith) a v reads
      (fits.operands 0 a (omega arith)) d.0
      λ x means small ready'.
      let r = with_register q 5 x get in
      over_jump r ready' (skip_unless_true when) to goes (ready.frame.laid.lands to fits.target)
      (true_skips when r.f (is_true v) ready'.nil (is_false q ready v x means)) d.1

  flag_true : (t : Bool) → is_true (flag t) ≡ t
  flag_true true = refl
  flag_true false = refl

  pub test_works : (q : Point) → Ready ground p m q → (at : Place) (op : CompareOp) (kind : IntKind) (when : Bool) (a b : Operand) (to : Target)
      → Works ground p built Claim claims next m q (S.Test at op kind when a b to)
  test_works q ready at op kind when a b to code fits =
      let both = both_code p.places m.g m.l a b in
      let jump = jump_code (place_led m.g m.l to) in
      let code' = subst (Here ground p q.pc) (append_assoc both (skip_unless when op kind ∷ jump) rest) code in
      by_read ground p built Claim claims a _ m.frame m.w m.w.turns q
      λ v reads_v. by_read ground p built Claim claims b _ m.frame m.w m.w.turns q
      λ w reads_w. by_tested ground p built Claim claims (compared op m.w.memory kind v w) at _ m.frame m.w m.w.turns q
      λ u is.
      let goes = goes_if when (is_true u) in
      by_both ground p built Claim claims (next m.callers m.g (cond goes (led m.g to) m.more) m.frame m.w) m.w.turns m q ready a b v w
      ((skip_unless when op kind ∷ jump) ++ rest) reads_v reads_w (fits.operands 0 a (omega arith)) (fits.operands 1 b (omega arith)) code'
      λ x y means_x means_y small_x small_y r e.
      let t : compares op (is_signed kind) x y ≡ is_true u =
      sym (flag_true (compares op (is_signed kind) x y)) ∙ ap is_true (compared_is ground p built m q ready op kind v w u x y is means_x means_y) in
      subst (λ (r : Point). Ready ground p m r → Here ground p r.pc ((skip_unless when op kind ∷ jump) ++ rest)
      → Claim (next m.callers m.g (cond goes (led m.g to) m.more) m.frame m.w) m.w.turns (state r) r.before) (sym e)
      (λ ready' code''.
      let r = with_register (with_register q 5 x (get_code p.places m.g m.l 5 a)) 6 y (get_code p.places m.g m.l 6 b) in
      over_jump r ready' (skip_unless when op kind) to goes (ready.frame.laid.lands to fits.target) (unless_skips when op kind r.f (is_true u) t) code'')

  pub case_works : (q : Point) → Ready ground p m q → (n : ℕ) (a : Operand) (to : Target) → Works ground p built Claim claims next m q (S.Case n a to)
  case_works q ready n a to code fits =
      let get = get_code p.places m.g m.l 5 a in
      let jump = jump_code (place_led m.g m.l to) in
      let number = number_code 6 n in
      let d = parts ground q.pc get (number ++ Bne 5 6 (pos 12) ∷ jump) rest code in
      by_read ground p built Claim claims a _ m.frame m.w m.w.turns q
      λ v reads. by_tested ground p built Claim claims (as_word v) no_place _ m.frame m.w m.w.turns q
      λ k is.
      let e = next m.callers m.g (cond (eqb n k) (led m.g to) m.more) m.frame m.w in
      by_get ground p built Claim claims m q ready e m.w.turns 5 (omega arith) (omega arith) a v reads (fits.operands 0 a (omega arith)) d.0
      λ x means small ready'.
      let r = with_register q 5 x get in
      let code' = subst (Here ground p r.pc) (append_assoc number (Bne 5 6 (pos 12) ∷ jump) rest) d.1 in
      let low : n % 2 ^ 32 ≡ n = omega (arith, fits.numbers) in
      let same : x ≡ k = word_is v x k is means in
      by_make ground p built Claim claims e m.w.turns m r ready' number ((Bne 5 6 (pos 12) ∷ jump) ++ rest) (λ g. (g 5 ≡ x) × (g 6 ≡ n)) code'
      (made_by_number ground (aim ground p built Claim claims e m.w.turns r) 6 n r.f (λ g. (g 5 ≡ x) × (g 6 ≡ n)) (omega arith) (omega arith) ready'.nil (refl, low))
      λ g both ready'' code''.
      over_jump (behind r g number) ready'' (Bne 5 6 (pos 12)) to (eqb n k) (ready.frame.laid.lands to fits.target)
      (record {
        a = 5;
        b = 6;
        test = _;
        is = is_bne 5 6 (pos 12);
        low_a = omega arith;
        low_b = omega arith;
        holds = ap not (ap (λ (i : ℕ). eqb i (g 6)) both.0 ∙ ap (eqb x) both.1 ∙ ap (λ (i : ℕ). eqb i n) same ∙ turned_round k n);
      })
      code''
    where
      word_is : (v : Value) (x k : ℕ) → as_word v ≡ Ok k → Means p.code p.places m.blocks v x → x ≡ k
      word_is (word n) x k e h = (let d : n ≡ k = cc in h ∙ d)
      word_is (pointer r) x k e h = absurd cc

      turned_round : (i j : ℕ) → eqb i j ≡ eqb j i
      turned_round i j = elim (cases_eq i j) [
        | inl e ↦ eq-eqb i j e ∙ sym (eq-eqb j i (sym e))
        | inr ne ↦ ne_eqb i j ne ∙ sym (ne_eqb j i (λ d. ne (sym d)))
      ]

  -- the body of a loop begins: a turn, and a step of the machine
  pub began_works : (q : Point) → Ready ground p m q → (f l : ℕ) → Works ground p built Claim claims next m q (S.Began f l)
  began_works q ready f l code fits = by_turns m.w.turns refl
    where
      by_turns : (n : ℕ) → m.w.turns ≡ n
          → Claim (turn_of n (λ u own w. next m.callers m.g m.more own (record w { trace = began f l ∷ w.trace })) m.frame m.w) n (state q) q.before
      by_turns zero e = claims.going m q ready
      by_turns (suc n) e =
          let w : World = record m.w { turns = n; trace = began f l ∷ m.w.trace } in
          let m' : Moment = record m { w = w } in
          let one : n + 1 ≡ suc n = omega arith in
          let end = next m.callers m.g m.more m.frame w in
          let ready' = noted ground p m q ready w refl refl refl (omega arith) refl (λ made. made) in
          let r : Point = record q { pc = q.pc + 4 } in
          subst (λ k. Claim end k (state q) q.before) one
          (by_nothing ground.segments ground.text (Claim end) (claims.backward end) q.f q.pc q.memory q.input q.output ready.world.keeps ready.code n q.before
          (Addi 0 0 (pos 0)) code.0 refl refl
          (follows m' r (elsewhere ground p m' q ready' q.f (q.pc + 4) refl refl (omega (arith, ready.code)) (omega (arith, ready.whole))) code.1))
