-- Returns: the frame is left, and the caller goes on, or the run ends.
use Rattle.std.proofs.Common.{◌≡◌, ℕ, ◌+◌, ◌*◌, ◌/◌, ◌%◌, ◌^◌, ◌<◌, ◌≤◌, inl, inr, List, [], ◌∷◌, ◌++◌, length, Option, Some, None, pos, refl, ap, sym}
use Rattle.std.proofs.Common.{◌∙◌, subst, arith, drop}
use Rattle.std.proofs.lemmas.Int.{ints}
use Rattle.lay_base.specs.declared.faults.UndefinedKind.TheVariants as Undefined
use Rattle.block_memory.specs.RunWorlds.Doing.{less_deep}
use Rattle.block_memory.specs.RunWorlds.Events as E
use Rattle.block_memory.specs.RunWorlds.Events.{output_of}
use Rattle.block_memory.specs.RunWorlds.Worlds.{World, ends}
use Rattle.block_memory.specs.declared.run_worlds.value.Value.{Value}
use Rattle.block_memory.specs.declared.run_worlds.value.Value.TheVariants.{Word as word, Pointer as pointer}
use Rattle.c_meaning.specs.Frames.{end_all}
use Rattle.c_meaning.specs.Run.{end_by}
use Rattle.rv_isa.specs.declared.instruction.Inst.{Inst}
use Rattle.rv_isa.specs.declared.instruction.Inst.TheVariants.{Add, Addi, Ecall, Jalr}
use Rattle.rv_isa.specs.Arithmetic.{plus}
use Rattle.rv_isa.specs.Memory.{word_at}
use Rattle.rv_isa.specs.Step.{Ends, Exits}
use Rattle.rv_runtime.specs.Steps.States.{at, put}
use Rattle.rv_runtime.proofs.Steps.Operators.{by_jalr}
use Rattle.rv_runtime.proofs.Steps.Steps.{exit_ends}
use Rattle.tac_ir.specs.Running.{Caller, Next, returns}
use Rattle.tac_ir.specs.declared.step.Operand.{Operand}
use Rattle.tac_ir.specs.declared.step.Step.TheVariants as S
use Rattle.rv_code.specs.Code.{get_code, return_code, steps_code}
use Rattle.rv_code.specs.Words.{fetch_code, number_code}
use Rattle.rv_emit.specs.Maps.{Means}
use Rattle.rv_emit.specs.Grounds.{Ground}
use Rattle.rv_emit.specs.Relation.{Program, Moment, Point, Ready, Callers, Here, IsBuilt, IsPlace, Worldly, active}
use Rattle.rv_emit.specs.Claims.{Claims, AreClaims, Follows, state}
use Rattle.rv_emit.proofs.Keeping.{frame_end}
use Rattle.rv_emit.proofs.Leaving.{Left, by_ends}
use Rattle.rv_emit.proofs.Moves.{by_add, by_addi, by_fetch, by_number, code_back, code_front, parts}
use Rattle.rv_emit.proofs.Plain.{Works, aim}
use Rattle.rv_emit.proofs.Values.{by_get, by_give, by_read, with_register}

module _ (ground : Ground) (p : Program) (built : IsBuilt ground p) (Claim : Claims) (claims : AreClaims ground p Claim) (next : Next)
    (follows : Follows ground p Claim next) (m : Moment) (q : Point) (ready : Ready ground p m q) where
  abbrev top : ℕ
  top = m.sp + m.l.size

  abbrev back : ℕ
  back = word_at q.memory m.sp

  abbrev IsLeft : (ℕ → Option ℕ) → World → Type 0
  IsLeft owner w = Left ground p Claim m.blocks q.memory q.input q.output q.before m.numbers m.callers m.sp top back owner w

  -- a value that is returned, in x10, where there is one
  pub record Returned (v : Option Value) (x : ℕ) : Type 0 where
    pub small : (u : Value) → v ≡ Some u → x < 2 ^ 32
    pub means : (u : Value) → v ≡ Some u → Means p.code p.places m.blocks u x

  after_world : (owner : ℕ → Option ℕ) (w : World) → Worldly ground p m.blocks owner w q.memory q.input q.output q.before
      → Worldly ground p m.blocks owner (record w { depth = less_deep w.depth; trace = E.left ∷ w.trace }) q.memory q.input q.output q.before
  after_world owner w h = record {
    keeps = h.keeps;
    flat = h.flat;
    objects = h.objects;
    unused = h.unused;
    zero = h.zero;
    heap_low = h.heap_low;
    heap_high = h.heap_high;
    heap_whole = h.heap_whole;
    heap_used = h.heap_used;
    heap_limit = h.heap_limit;
    runtime = h.runtime;
    texts = h.texts;
    input_is = h.input_is;
    input_bytes = h.input_bytes;
    output_is = h.output_is;
    made = h.made;
  }

  -- behind the return: x2 is the end of the frame
  comes_out : (numbers : List ℕ) (callers : List Caller) (owner : ℕ → Option ℕ) (w : World) (v : Option Value) (x n : ℕ) (f : ℕ → ℕ)
      → Callers ground p m.blocks owner q.memory numbers callers top back → Worldly ground p m.blocks owner w q.memory q.input q.output q.before
      → ((a : ℕ) → 0x10000000 ≤ a → a < top → owner a ≡ None) → active w.trace ≡ numbers → n ≡ w.turns → Returned v x → f 0 ≡ 0 → f 2 ≡ top → f 10 ≡ x
      → Claim (returns p.types p.code next callers v w) n (at f back q.memory q.input q.output) q.before
  comes_out (number ∷ numbers) (one ∷ callers) owner w v x n f h world below runs turns value nil sp ten =
      let m' : Moment = record {
        blocks = m.blocks;
        owner = owner;
        numbers = numbers;
        callers = callers;
        number = number;
        g = one.routine;
        l = h.0;
        more = one.more;
        frame = one.frame;
        sp = top;
        w = w;
      } in
      let q' : Point = record q { f = f; pc = back } in
      let ready' : Ready ground p m' q' = record {
        nil = nil;
        stack = sp;
        code = h.2.code;
        whole = h.2.whole;
        fits = h.4;
        world = world;
        frame = h.1;
        callers = h.7;
        below = below;
        runs = runs;
      } in
      subst (λ k. Claim (returns p.types p.code next (one ∷ callers) v w) k (state q') q'.before) (sym turns)
      (by_give ground p built Claim claims next follows m' q' ready' 10 one.to x v (omega arith) (λ d. omega arith) ten value.small h.5 h.6 value.means h.3)
  comes_out [] [] owner w v x n f h world below runs turns value nil sp ten = by_value v refl
    where
      -- the word that is returned is the status
      by_value : (o : Option Value) → v ≡ o → Claim (end_by p.code.place o w) n (at f back q.memory q.input q.output) q.before
      by_value None e = claims.undefined Undefined.NoValue p.code.place w n (at f back q.memory q.input q.output) q.before
      by_value (Some (pointer r)) e = claims.undefined Undefined.Pointer p.code.place w n (at f back q.memory q.input q.output) q.before
      by_value (Some (word k)) e =
          let code = subst (λ pc. Here ground p pc (Addi 17 0 (pos 93) ∷ Ecall ∷ [])) (sym h.1) built.exits in
          let end = subst (λ pc. 0x00011000 ≤ pc) (sym h.1) built.end.code in
          let e' = ends (k % 2 ^ 8) w in
          let goal = aim ground p built Claim claims e' n q in
          let f' = put f 17 93 in
          let means : x ≡ k = value.means (word k) e in
          let stops = exit_ends ground.segments ground.text f' (back + 4) q.memory q.input q.output world.keeps code.1.0 refl in
          by_addi ground goal f back q.memory world.keeps end 17 0 93 (pos 93) code.0 (omega arith) (omega arith) (ap (λ (z : ℕ). plus z (pos 93)) nil)
          (claims.exits m.blocks (k % 2 ^ 8) w n (at f' (back + 4) q.memory q.input q.output) q.before
          (stops ∙ ap (λ (z : ℕ). Ends (Exits (z % 2 ^ 8))) (ten ∙ means)) world.output_is world.input_is world.made)
  comes_out [] (one ∷ callers) owner w v x n f h world below runs turns value nil sp ten = elim h [ ]
  comes_out (number ∷ numbers) [] owner w v x n f h world below runs turns value nil sp ten = elim h [ ]

  back_place : (numbers : List ℕ) (callers : List Caller) → Callers ground p m.blocks m.owner q.memory numbers callers top back → IsPlace back
  back_place [] [] h = subst IsPlace (sym h.1) built.end
  back_place [] (one ∷ callers) h = elim h [ ]
  back_place (number ∷ numbers) [] h = elim h [ ]
  back_place (number ∷ numbers) (one ∷ callers) h = h.2

  -- the instructions of a return, with the value in x10
  pub returned_from : (v : Option Value) (x : ℕ) (tail : List Inst) → Returned v x → q.f 10 ≡ x
      → Here ground p q.pc (return_code m.l ++ tail)
      → Claim (end_all m.frame (λ u own w. returns p.types p.code next m.callers v (record w { depth = less_deep w.depth; trace = E.left ∷ w.trace })) m.frame m.w)
      m.w.turns (state q) q.before
  returned_from v x tail value ten code =
      let fr = ready.frame in
      let stack = ground.stack_end in
      by_ends ground p Claim m.blocks q.memory q.input q.output q.before m.numbers m.callers m.sp top back m.frame m.owner m.w _ m.frame m.w.turns (state q)
      (record { world = ready.world; waiting = ready.callers; below = ready.below; owns = fr.owns })
      λ new after trace turns left.
      let w : World = record after { depth = less_deep after.depth; trace = E.left ∷ after.trace } in
      let e = returns p.types p.code next m.callers v w in
      let goal = aim ground p built Claim claims e m.w.turns q in
      let place = back_place m.numbers m.callers ready.callers in
      let keeps = ready.world.keeps in
      let fetch = fetch_code 1 2 0 in
      let number = number_code 5 m.l.size in
      let last = Add 2 2 5 ∷ Jalr 0 1 (pos 0) ∷ [] in
      let c0 = code_front ground q.pc (return_code m.l) tail code in
      let c1 = code_back ground q.pc fetch (number ++ last) c0 in
      let pc1 = q.pc + 4 * length fetch in
      let c2 = code_back ground pc1 number last c1 in
      let pc2 = pc1 + 4 * length number in
      let f1 = put q.f 1 back in
      let f2 = put f1 5 (m.l.size % 2 ^ 32) in
      let f3 = put f2 2 top in
      let at_sp : (q.f 2 + 0) % 2 ^ 32 ≡ m.sp = omega (arith, ready.stack, fr.high) in
      let sum : (f2 2 + f2 5) % 2 ^ 32 ≡ top = omega (arith, ready.stack, fr.high) in
      let to : plus (f3 1) (pos 0) / 2 * 2 ≡ back = omega (arith, ints, place.small, place.whole) in
      by_fetch ground goal q.f q.pc q.memory keeps ready.code 1 2 0 m.sp (omega arith) (omega arith) (omega arith) (λ d. omega arith)
      (code_front ground q.pc fetch (number ++ last) c0) at_sp (omega (arith, fr.whole)) (ground.read m.sp 4 (inr (inl (omega (arith, fr.low), room))))
      (ground.quiet_load m.sp 4 (omega (arith, fr.high)))
      (by_number ground goal f1 pc1 q.memory keeps (omega (arith, ready.code)) 5 m.l.size (omega arith) (omega arith) ready.nil (code_front ground pc1 number last c1)
      (by_add ground goal f2 pc2 q.memory keeps (omega (arith, ready.code)) 2 2 5 top c2.0 (omega arith) (omega arith) (omega arith) sum
      ((claims.backward e).fewer m.w.turns (at f3 (pc2 + 4) q.memory q.input q.output) q.before
      (by_jalr ground.segments ground.text (Claim e) (claims.backward e) f3 (pc2 + 4) q.memory q.input q.output keeps (omega (arith, ready.code)) m.w.turns q.before back
      place.whole place.code 1 (pos 0) c2.1.0 (omega arith) to
      (comes_out m.numbers m.callers new w v x m.w.turns f3 left.waiting (after_world new after left.world) left.below
      (ap (λ (t : List E.Event). drop 1 (active t)) trace ∙ ap (drop 1) ready.runs) (sym turns) value ready.nil refl ten)))))
    where
      room : m.sp + 4 ≤ ground.room.stack_end
      room = (let end = frame_end ground p m.blocks m.owner m.number m.g m.l ready.frame.laid in omega (arith, ready.frame.high, end.0))

-- a value is returned, or none
pub return_works : (ground : Ground) (p : Program) (built : IsBuilt ground p) (Claim : Claims) (claims : AreClaims ground p Claim) (next : Next)
    (follows : Follows ground p Claim next) (m : Moment) (q : Point) → Ready ground p m q → (a : Option Operand)
    → Works ground p built Claim claims next m q (S.Return a)
return_works ground p built Claim claims next follows m q ready None code fits =
    returned_from ground p built Claim claims next follows m q ready None (q.f 10) (steps_code p.places m.g m.l m.more)
    (record { small = λ u e. absurd cc; means = λ u e. absurd cc }) refl code
return_works ground p built Claim claims next follows m q ready (Some a) code fits =
    let get = get_code p.places m.g m.l 10 a in
    let d = parts ground q.pc get (return_code m.l) (steps_code p.places m.g m.l m.more) code in
    by_read ground p built Claim claims a _ m.frame m.w m.w.turns q
    λ v reads. by_get ground p built Claim claims m q ready _ m.w.turns 10 (omega arith) (omega arith) a v reads (fits.operands 0 a (omega arith)) d.0
    λ x means small ready'.
    returned_from ground p built Claim claims next follows m (with_register q 10 x get) ready' (Some v) x (steps_code p.places m.g m.l m.more)
    (record { small = λ u e. small; means = λ u e. let k : v ≡ u = cc in subst (λ i. Means p.code p.places m.blocks i x) k means }) refl d.1
