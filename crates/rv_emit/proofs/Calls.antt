-- Calls: the row's address, the way to the callee, its entry, and its parameters.
use Rattle.std.proofs.Common.{◌≡◌, ◌≢◌, ℕ, zero, suc, ◌+◌, ◌-◌, ◌*◌, ◌/◌, ◌%◌, ◌^◌, ◌<◌, ◌≤◌, inl, inr, Bool, true, false, cond, not, ltb, ◌&&◌, List, [], ◌∷◌, ◌++◌, length, map, Option, Some, None, pos}
use Rattle.std.proofs.Common.{slice_get, slice_index, refl, ap, sym, ◌∙◌, subst, arith, append_assoc, le-ltb}
use Rattle.std.proofs.lemmas.Int.{ints}
use Rattle.std.proofs.lemmas.Bool.{cond_both}
use Rattle.lay_base.specs.declared.faults.RoomKind.TheVariants.{Depth}
use Rattle.lay_base.specs.declared.faults.UndefinedKind.TheVariants as K
use Rattle.lay_base.specs.declared.place.Place.{Place}
use Rattle.memory_words.specs.declared.cell_words.pointer.Ptr.TheVariants as P
use Rattle.block_memory.specs.RunWorlds.Doing.{descend, turn_of}
use Rattle.block_memory.specs.RunWorlds.Events as E
use Rattle.block_memory.specs.RunWorlds.Scalars.{pointer_of}
use Rattle.block_memory.specs.RunWorlds.Worlds.{World, End, greatest_depth, out_of_room, undefined}
use Rattle.block_memory.specs.declared.run_worlds.value.Value.{Value}
use Rattle.block_memory.specs.declared.run_worlds.value.Value.TheVariants.{Word as word, Pointer as pointer}
use Rattle.c_types.specs.Sameness.{same_type}
use Rattle.c_types.specs.Types.{pointer as pointer_to}
use Rattle.c_meaning.specs.Frames.{Frame}
use Rattle.c_meaning.specs.declared.frame.Slot.TheVariants.{ByName as by_name, InBlock as in_block}
use Rattle.rv_isa.specs.declared.instruction.Inst.{Inst}
use Rattle.rv_isa.specs.declared.instruction.Inst.TheVariants.{Bgeu, Ebreak, Jalr, Sub}
use Rattle.rv_isa.specs.Arithmetic.{difference, plus}
use Rattle.rv_isa.specs.Memory.{with_word, word_at}
use Rattle.rv_runtime.specs.Steps.States.{at, code_end, put}
use Rattle.rv_runtime.proofs.Steps.Operators.{by_binary, by_branch_taken, by_jalr_linked, is_bgeu, is_sub}
use Rattle.rv_code.specs.Code.{a_word, code_if_any, entry_code, get_code, give_code, is_block, parameters_code, row_code, stack_place, steps_code}
use Rattle.rv_code.specs.Frames.{slot_at, slots}
use Rattle.rv_code.specs.Words.{address_code, call_code, keep_code, number_code}
use Rattle.rv_code.specs.declared.layout.Layout.{Layout}
use Rattle.tac_ir.specs.Code.{RoutineData}
use Rattle.tac_ir.specs.Running.{Caller, Next, body, calls, calls_through, calls_typed, empty_slot, type_in, receive}
use Rattle.tac_ir.specs.declared.step.Operand.{Operand}
use Rattle.tac_ir.specs.declared.step.Row.{Row}
use Rattle.tac_ir.specs.declared.step.Step.{Step}
use Rattle.tac_ir.specs.declared.step.Step.TheVariants as S
use Rattle.rv_emit.specs.Maps.{Means}
use Rattle.rv_emit.specs.Grounds.{Ground}
use Rattle.rv_emit.specs.Fitting.{RowFitsIfAny}
use Rattle.rv_emit.specs.Relation.{Program, Moment, ParameterFits, Point, Ready, Here, IsBuilt, IsLaid, IsPlace}
use Rattle.rv_emit.specs.Claims.{Claims, AreClaims, CallsHaveRoom, Follows, state}
use Rattle.rv_emit.proofs.Entering.{empty_at, entered_moment, entered_ready}
use Rattle.rv_emit.proofs.Giving.{elsewhere, word_elsewhere}
use Rattle.rv_emit.proofs.Keeping.{frame_end}
use Rattle.rv_emit.proofs.Lists.{get_below}
use Rattle.rv_emit.proofs.Moves.{by_address, by_call, by_keep, by_number, code_back, code_front, parts}
use Rattle.rv_emit.proofs.Plain.{Works, aim, open_is}
use Rattle.rv_emit.proofs.Receiving.{Passed, by_parameters, passed_stays}
use Rattle.rv_emit.proofs.Rows.{Has, HasRow, by_row}
use Rattle.rv_emit.proofs.Values.{Reads, by_get, by_read, with_register}

-- ---- a row that is read

read_below : (f : Frame) (t : ℕ) (v : Value) → Has f t v → t < length f
read_below f t v (inl e) = get_below f t (by_name (Some v)) e
read_below f t v (inr h) = get_below f t (in_block (Some h.0)) h.1

-- the last one of them has a slot too
row_end : (f : Frame) (t : ℕ) (vs : List Value) → HasRow f t vs → 0 < length vs → t + length vs ≤ length f
row_end f t [] h lt = absurd (omega arith)
row_end f t (v ∷ []) h lt = (let k = read_below f t v h.0 in omega (arith, k))
row_end f t (v ∷ u ∷ vs) h lt = (let k = row_end f (t + 1) (u ∷ vs) h.1 (omega arith) in omega (arith, k))

module _ (ground : Ground) (p : Program) (built : IsBuilt ground p) (Claim : Claims) (claims : AreClaims ground p Claim) where
  -- ---- from the callee's entry on

  module _ (next : Next) (follows : Follows ground p Claim next) (room : CallsHaveRoom ground p Claim next) where
    -- the words of the row stand for what was read
    row_passed : (m : Moment) (q : Point) → Ready ground p m q → (first count : ℕ) → RowFitsIfAny m.g (Some (record { first = first; count = count }))
        → (vs : List Value) (x : ℕ) → x + length vs ≤ count → HasRow m.frame (first + x) vs → Passed p m.blocks q.memory (m.sp + slot_at first) x vs
    row_passed m q ready first count fits [] x le h = tt
    row_passed m q ready first count fits (v ∷ vs) x le h =
        let z : first + x + 1 ≡ first + (x + 1) = omega arith in
        let k : m.sp + slot_at (first + x) ≡ m.sp + slot_at first + 4 * x = omega arith in (
          subst (λ a. Means p.code p.places m.blocks v (word_at q.memory a)) k (by_slot h.0),
          row_passed m q ready first count fits vs (x + 1) (omega arith) (subst (λ t. HasRow m.frame t vs) z h.1),
        )
      where
        by_slot : Has m.frame (first + x) v → Means p.code p.places m.blocks v (word_at q.memory (m.sp + slot_at (first + x)))
        by_slot (inl e) = (ready.frame.shows (first + x) (by_name (Some v)) e).1
        by_slot (inr b) =
            absurd (let is = (ready.frame.shows (first + x) (in_block (Some b.0)) b.1).0 in
            let no = open_is m.g.locals (first + x) (fits (first + x) (omega arith) (omega arith)) in
            let d : true ≡ false = sym is ∙ no in cc)

    -- x1 has the place to go back to, and x10 the row's address
    by_entry : (m : Moment) (q : Point) → Ready ground p m q → (k : ℕ) (g : RoutineData) (l : Layout) → IsLaid ground p k g l → (t back n row : ℕ) (place : Place)
        (vs : List Value) → q.pc ≡ slice_index p.places.entries k → q.f 1 ≡ back → IsPlace back
        → Here ground p back (give_code t 10 ++ steps_code p.places m.g m.l m.more) → t < slots m.g → is_block m.g t ≡ false
        → length g.parameters ≤ length vs → row % 4 ≡ 0 → m.sp ≤ row → (0 < length vs → q.f 10 ≡ row)
        → (0 < length vs → row + 4 * length vs ≤ ground.room.stack_end) → Passed p m.blocks q.memory row 0 vs
        → (w : World) → w ≡ record m.w { turns = n; depth = m.w.depth + 1; trace = E.entered k ∷ m.w.trace }
        → Here ground p q.pc (entry_code l g.parameters ++ steps_code p.places g l g.code) → stack_place + l.size ≤ m.sp
        → Claim (receive place 0 g.parameters vs (λ u f. next (record { to = t; routine = m.g; more = m.more; frame = m.frame } ∷ m.callers) g g.code f)
        (map empty_slot g.locals) w) (n + 1) (state q) q.before
    by_entry m q ready k g l laid t back n row place vs pc_is one back_place back_code slot opened few row_whole above ten below passed w w_is code enough =
        let fr = ready.frame in
        let top = ground.stack_end in
        let covers = frame_end ground p m.blocks m.owner k g l laid in
        let outer = frame_end ground p m.blocks m.owner m.number m.g m.l fr.laid in
        let e = receive place 0 g.parameters vs (λ u f. next (record { to = t; routine = m.g; more = m.more; frame = m.frame } ∷ m.callers) g g.code f)
        (map empty_slot g.locals) w in
        let steps = steps_code p.places g l g.code in
        let check = number_code 5 (stack_place + l.size) in
        let number = number_code 5 l.size in
        let keep = keep_code a_word 1 2 0 in
        let params = parameters_code l 0 g.parameters in
        let rest3 = Sub 2 2 5 ∷ (keep ++ params) in
        let d1 = parts ground q.pc check (Bgeu 2 5 (pos 8) ∷ Ebreak ∷ (number ++ rest3)) steps code in
        let pc1 = q.pc + 4 * length check in
        let pc2 = pc1 + 4 + 4 in
        let d2 = parts ground pc2 number rest3 steps d1.1.1.1 in
        let pc3 = pc2 + 4 * length number in
        let d3 = parts ground (pc3 + 4) keep params steps d2.1.1 in
        let keeps = ready.world.keeps in
        let goal1 = aim ground p built Claim claims e (n + 1) q in
        let goal = aim ground p built Claim claims e n q in
        let sp = m.sp - l.size in
        let f1 = put q.f 5 ((stack_place + l.size) % 2 ^ 32) in
        let f2 = put f1 5 (l.size % 2 ^ 32) in
        let f3 = put f2 2 sp in
        let tested : not (ltb (f1 2) (f1 5)) ≡ true = ap not (le-ltb (f1 2) (f1 5) (omega (arith, ready.stack, fr.high))) in
        let to : plus pc1 (pos 8) ≡ pc2 = omega (arith, ints, d1.1.1.0.below) in
        let down : difference (f2 2) (f2 5) ≡ sp = omega (arith, ready.stack, fr.high) in
        let low : stack_place ≤ sp = omega arith in
        let frame_is : sp + l.size ≡ m.sp = omega arith in
        let at_sp : (f3 2 + 0) % 2 ^ 32 ≡ sp = omega (arith, fr.high) in
        let inside : sp + 4 ≤ ground.room.stack_end = omega (arith, fr.high, outer.0, covers.0) in
        let whole : sp % 4 ≡ 0 = omega (arith, fr.whole, covers.1) in
        by_number ground goal1 q.f q.pc q.memory keeps ready.code 5 (stack_place + l.size) (omega arith) (omega arith) ready.nil d1.0
        (by_branch_taken ground.segments ground.text (Claim e) (claims.backward e) f1 pc1 q.memory q.input q.output keeps (omega (arith, ready.code)) n q.before
        (Bgeu 2 5 (pos 8)) d1.1.0 2 5 pc2 (λ x y. not (ltb x y)) (pos 8) (is_bgeu 2 5 (pos 8)) (omega arith) (omega arith) tested to (omega (arith, ready.whole))
        (omega (arith, ready.code))
        (by_number ground goal f1 pc2 q.memory keeps (omega (arith, ready.code)) 5 l.size (omega arith) (omega arith) ready.nil d2.0
        (by_binary ground.segments ground.text (Claim e) (claims.backward e) f2 pc3 q.memory q.input q.output keeps (omega (arith, ready.code)) n q.before (Sub 2 2 5)
        d2.1.0 2 2 5 sp difference (is_sub 2 2 5) (omega arith) (omega arith) (omega arith) down
        (by_keep ground goal f3 (pc3 + 4) q.memory keeps (omega (arith, ready.code)) 1 2 0 sp back (omega arith) (omega arith) (λ d. omega arith) (λ d. omega arith)
        d3.0 at_sp whole (ground.write sp 4 (inr (inl (low, inside)))) (ground.quiet_store sp 4 (omega arith)) one
        (λ h same.
        let pc4 = pc3 + 4 + 4 * length keep in
        let m' = entered_moment ground p m q ready k g l laid t sp back n frame_is low in
        let q' : Point = record q { f = h; pc = pc4; memory = with_word q.memory sp back } in
        let ready' = entered_ready ground p m q ready k g l laid t sp back n frame_is low back_place back_code slot opened h pc4 (same 0 (λ d. omega arith) ∙ refl)
        (same 2 (λ d. omega arith) ∙ refl) (omega (arith, ready.code)) (omega (arith, ready.whole)) in
        subst (λ z. Claim (receive place 0 g.parameters vs (λ u f. next (record { to = t; routine = m.g; more = m.more; frame = m.frame } ∷ m.callers) g g.code f)
        (map empty_slot g.locals) z) n (state q') q'.before) (sym w_is)
        (by_parameters ground p built Claim claims next follows place row row_whole g.parameters vs 0 m' q' (record {
          ready = ready';
          few = few;
          fits = λ i r is. let z : i ≡ 0 + i = omega arith in subst (λ j. ParameterFits g j r) z (laid.parameters i r is);
          idle = λ i r is. let z : i ≡ 0 + i = omega arith in subst (λ j. slice_get (map empty_slot g.locals) j ≡ Some (empty_slot r.block)) z
              (empty_at g.locals i r.block (laid.parameters i r is).sort);
          passed = passed_stays p m.blocks q.memory (with_word q.memory sp back) row 0 vs
              (λ a le. word_elsewhere q.memory sp back a (inr (omega (arith, covers.0)))) passed;
          above = omega arith;
          row_is = λ lt. same 10 (λ d. omega arith) ∙ ten lt;
          below = λ lt. omega (arith, below lt);
        }) d3.1))))))

    -- ---- the way there

    -- the machine stands in front of the callee
    pub record Arrived (m : Moment) (k t first back : ℕ) (r : Point) : Type 0 where
      pub ready : Ready ground p m r
      pub entry : r.pc ≡ slice_index p.places.entries k
      pub one : r.f 1 ≡ back
      pub place : IsPlace back
      pub code : Here ground p back (give_code t 10 ++ steps_code p.places m.g m.l m.more)
      pub row : r.f 10 ≡ (m.sp + slot_at first) % 2 ^ 32

    -- behind a call there is an instruction
    back_below : (pc t : ℕ) (tail : List Inst) → Here ground p pc (give_code t 10 ++ tail) → pc + 4 ≤ code_end
    back_below pc t tail code =
        cond_both (ltb (slot_at t) 2048) _ _ (λ (is : List Inst). Here ground p pc (is ++ tail) → pc + 4 ≤ code_end) (λ e h. h.0.below) (λ e h. h.0.below) code

    module _ (m : Moment) (q : Point) (ready : Ready ground p m q) (place : Place) (k t : ℕ) (all : Row) (g : RoutineData) (vs : List Value)
        (is : slice_get p.code.routines k ≡ Some g) (slot : t < slots m.g) (opened : is_block m.g t ≡ false)
        (few : g.code ≢ [] → length g.parameters ≤ length vs) (long : length vs ≡ all.count) (row_fits : RowFitsIfAny m.g (Some all))
        (reads : HasRow m.frame all.first vs)
        -- some instructions lead there
        (arrives : (e : End) (n : ℕ) → IsPlace (slice_index p.places.entries k) → g.code ≢ []
        → ((back : ℕ) (r : Point) → Arrived m k t all.first back r → Claim e n (state r) r.before) → Claim e n (state q) q.before) where
      abbrev one : Caller
      one = record { to = t; routine = m.g; more = m.more; frame = m.frame }

      -- in its world, with a step to come for its turn
      by_code : (n : ℕ) (w : World) → w ≡ record m.w { turns = n; depth = m.w.depth + 1; trace = E.entered k ∷ m.w.trace } → (code : List Step) → g.code ≡ code
          → Claim (body p.types p.code next place (one ∷ m.callers) g code vs w) (n + 1) (state q) q.before
      by_code n w w_is [] e = claims.undefined K.Call place w (n + 1) (state q) q.before
      by_code n w w_is (s ∷ more) e =
          let some : g.code ≢ [] = λ d. (let z : s ∷ more ≡ [] = sym e ∙ d in cc) in
          let has = built.laid k g is some in
          let l = has.0 in
          let laid = has.1 in
          let first = all.first in
          let row = m.sp + slot_at first in
          let fr = ready.frame in
          let top = ground.stack_end in
          let outer = frame_end ground p m.blocks m.owner m.number m.g m.l fr.laid in
          let below : 0 < length vs → row + 4 * length vs ≤ ground.room.stack_end =
          λ lt. (let h = row_end m.frame first vs reads lt in omega (arith, h, fr.count, outer.0, fr.high)) in
          arrives (body p.types p.code next place (one ∷ m.callers) g (s ∷ more) vs w) (n + 1) laid.entry some
          λ back r h. subst (λ z. Claim (body p.types p.code next place (one ∷ m.callers) g z vs w) (n + 1) (state r) r.before) e
          (room m r h.ready k g l laid place (one ∷ m.callers) vs w (ap (λ (z : World). z.trace) w_is) (n + 1) (state r) r.before
          λ enough. subst (λ z. Claim (body p.types p.code next place (one ∷ m.callers) g z vs w) (n + 1) (state r) r.before) (sym e)
          (subst (λ z. Claim (receive place 0 g.parameters vs (λ u f. next (one ∷ m.callers) g z f) (map empty_slot g.locals) w) (n + 1) (state r) r.before) e
          (by_entry m r h.ready k g l laid t back n row place vs h.entry h.one h.place h.code slot opened (few some) (omega (arith, fr.whole)) (omega arith)
          (λ lt. h.row ∙ (let z = below lt in omega (arith, z, top))) below
          (row_passed m r h.ready first all.count row_fits vs 0 (omega (arith, long))
          (let z : first ≡ first + 0 = omega arith in subst (λ j. HasRow m.frame j vs) z reads)) w w_is
          (subst (λ z. Here ground p r.pc (entry_code l g.parameters ++ steps_code p.places g l z)) (sym e)
          (subst (λ z. Here ground p r.pc (code_if_any p.places g l z)) e
          (subst (λ pc. Here ground p pc (code_if_any p.places g l g.code)) (sym h.entry) laid.stands))) enough)))

      by_depth : (n : ℕ) (deep : Bool) → Claim (cond deep (out_of_room Depth (m.w.depth + 1) (record m.w { turns = n }))
          (body p.types p.code next place (one ∷ m.callers) g g.code vs (record m.w { turns = n; depth = m.w.depth + 1; trace = E.entered k ∷ m.w.trace })))
          (n + 1) (state q) q.before
      by_depth n true = claims.out_of_room Depth (m.w.depth + 1) (record m.w { turns = n }) (n + 1) (state q) q.before
      by_depth n false = by_code n _ refl g.code refl

      by_turns : (n : ℕ) → m.w.turns ≡ n
          → Claim (turn_of n (λ u. descend k (λ u own w. body p.types p.code next place (one ∷ m.callers) g g.code vs w)) m.frame m.w) n (state q) q.before
      by_turns zero e = claims.going m q ready
      by_turns (suc n) e =
          let z : n + 1 ≡ suc n = omega arith in
          subst (λ i. Claim (descend k (λ u own w. body p.types p.code next place (one ∷ m.callers) g g.code vs w) m.frame (record m.w { turns = n })) i (state q) q.before) z
          (by_depth n (m.w.is_limited && ltb greatest_depth (m.w.depth + 1)))

      pub called : Claim (calls p.types p.code next place k (one ∷ m.callers) (Some g) vs m.frame m.w) m.w.turns (state q) q.before
      called = by_turns m.w.turns refl

    -- ---- calls of a function by its name

    module _ (m : Moment) (q : Point) (ready : Ready ground p m q) where
      -- the row's address comes into x10
      by_row_code : (e : End) (n : ℕ) (first : ℕ) (tail : List Inst) → Here ground p q.pc (address_code 10 2 (slot_at first) ++ tail)
          → ((f : ℕ → ℕ) → f 10 ≡ (m.sp + slot_at first) % 2 ^ 32 → f 5 ≡ q.f 5
          → Ready ground p m (record q { f = f; pc = q.pc + 4 * length (address_code 10 2 (slot_at first)) })
          → Here ground p (q.pc + 4 * length (address_code 10 2 (slot_at first))) tail
          → Claim e n (state (record q { f = f; pc = q.pc + 4 * length (address_code 10 2 (slot_at first)) })) q.before)
          → Claim e n (state q) q.before
      by_row_code e n first tail code c =
          let row = address_code 10 2 (slot_at first) in
          let a = (m.sp + slot_at first) % 2 ^ 32 in
          let f = put q.f 10 a in
          let pc = q.pc + 4 * length row in
          by_address ground (aim ground p built Claim claims e n q) q.f q.pc q.memory ready.world.keeps ready.code 10 2 (slot_at first) a (omega arith) (omega arith)
          (omega arith) (λ d. omega arith) (code_front ground q.pc row tail code) (ap (λ (z : ℕ). (z + slot_at first) % 2 ^ 32) ready.stack)
          (c f refl refl (elsewhere ground p m q ready f pc refl refl (omega (arith, ready.code)) (omega (arith, ready.whole))) (code_back ground q.pc row tail code))

      pub call_works : (t : ℕ) (place : Place) (k : ℕ) (all : Row) → Works ground p built Claim claims next m q (S.Call t place k all)
      call_works t place k all code fits =
          by_row ground p built Claim claims place all.first all.count _ m.frame m.w m.w.turns q
          λ vs reads long. by_callee vs long reads (slice_get p.code.routines k) refl
        where
          by_callee : (vs : List Value) → length vs ≡ all.count → HasRow m.frame all.first vs → (o : Option RoutineData) → slice_get p.code.routines k ≡ o
              → Claim (calls p.types p.code next place k (record { to = t; routine = m.g; more = m.more; frame = m.frame } ∷ m.callers) o vs m.frame m.w) m.w.turns
              (state q) q.before
          by_callee vs long reads None is = claims.undefined K.Call place m.w m.w.turns (state q) q.before
          by_callee vs long reads (Some g) is =
              let few : g.code ≢ [] → length g.parameters ≤ length vs = λ some. (let h = fits.arguments g is some in omega (arith, long)) in
              called m q ready place k t all g vs is fits.slot (open_is m.g.locals t fits.kinds.0) few long fits.row reads
              λ e n entry some c.
              let give = give_code t 10 in
              let rest = steps_code p.places m.g m.l m.more in
              let row = row_code all in
              let call = call_code (slice_index p.places.entries k) in
              let d = subst (Here ground p q.pc) (append_assoc row (call ++ give) rest) code in
              by_row_code e n all.first ((call ++ give) ++ rest) d
              λ f ten five ready' code'.
              let pc = q.pc + 4 * length row in
              let parts' = parts ground pc call give rest code' in
              let back = pc + 4 + 4 in
              let f' = put f 1 back in
              let z : pc + 4 * length call ≡ back = omega arith in
              let back_code = subst (λ i. Here ground p i (give ++ rest)) z parts'.1 in
              let below = back_below back t rest back_code in
              by_call ground (aim ground p built Claim claims e n q) f pc q.memory ready.world.keeps ready'.code (slice_index p.places.entries k) parts'.0 entry.whole
              (omega (arith, entry.small)) entry.code
              (c back (record q { f = f'; pc = slice_index p.places.entries k }) (record {
                ready = elsewhere ground p m (record q { f = f; pc = pc }) ready' f' (slice_index p.places.entries k) refl refl entry.code entry.whole;
                entry = refl;
                one = refl;
                place = record { code = omega (arith, ready'.code); whole = omega (arith, ready'.whole); small = omega arith };
                code = back_code;
                row = ten;
              }))

    -- ---- calls through a pointer

    pub call_through_works : (m : Moment) (q : Point) → Ready ground p m q → (t : ℕ) (place : Place) (ty : ℕ) (a : Operand) (all : Row)
        → Works ground p built Claim claims next m q (S.CallThrough t place ty a all)
    call_through_works m q ready t place ty a all code fits =
        by_read ground p built Claim claims a _ m.frame m.w m.w.turns q
        λ v reads_v. by_row ground p built Claim claims place all.first all.count _ m.frame m.w m.w.turns q
        λ vs reads long. by_value v reads_v vs long reads
      where
        call_known : (k : ℕ) → Reads m.frame a (pointer (P.Function k)) → (vs : List Value) → length vs ≡ all.count → HasRow m.frame all.first vs → (g : RoutineData)
            → slice_get p.code.routines k ≡ Some g → same_type (type_in p.types ty) (pointer_to (type_in p.types g.ty)) ≡ true
            → Claim (calls p.types p.code next place k (record { to = t; routine = m.g; more = m.more; frame = m.frame } ∷ m.callers) (Some g) vs m.frame m.w) m.w.turns
            (state q) q.before
        call_known k reads_v vs long reads g is same =
            let few : g.code ≢ [] → length g.parameters ≤ length vs = λ some. (let h = fits.arguments k g is some same in omega (arith, long)) in
            called m q ready place k t all g vs is fits.slot (open_is m.g.locals t fits.kinds.0) few long fits.row reads
            λ e n entry some c.
            let give = give_code t 10 in
            let rest = steps_code p.places m.g m.l m.more in
            let row = row_code all in
            let get = get_code p.places m.g m.l 5 a in
            let d = parts ground q.pc get (row ++ (Jalr 1 5 (pos 0) ∷ give)) rest code in
            by_get ground p built Claim claims m q ready e n 5 (omega arith) (omega arith) a (pointer (P.Function k)) reads_v (fits.operands 0 a (omega arith)) d.0
            λ x means small ready_x.
            let q_x = with_register q 5 x get in
            let d_x = subst (Here ground p q_x.pc) (append_assoc row (Jalr 1 5 (pos 0) ∷ give) rest) d.1 in
            by_row_code m q_x ready_x e n all.first (Jalr 1 5 (pos 0) ∷ (give ++ rest)) d_x
            λ f ten five ready' code'.
            let pc = q_x.pc + 4 * length row in
            let to = slice_index p.places.entries k in
            let back = pc + 4 in
            let f' = put f 1 back in
            let below = back_below back t rest code'.1 in
            let at_x : f 5 ≡ x = five in
            let jumps : plus (f 5) (pos 0) / 2 * 2 ≡ to = omega (arith, ints, at_x, means.1, entry.small, entry.whole) in
            (claims.backward e).fewer n (at f pc q.memory q.input q.output) q.before
            (by_jalr_linked ground.segments ground.text (Claim e) (claims.backward e) f pc q.memory q.input q.output ready.world.keeps ready'.code n q.before to entry.whole
            entry.code 1 5 (pos 0) code'.0 (omega arith) (omega arith) jumps
            (c back (record q { f = f'; pc = to }) (record {
              ready = elsewhere ground p m (record q { f = f; pc = pc }) ready' f' to refl refl entry.code entry.whole;
              entry = refl;
              one = refl;
              place = record { code = omega (arith, ready'.code); whole = omega (arith, ready'.whole); small = omega arith };
              code = code'.1;
              row = ten;
            })))

        by_type : (k : ℕ) → Reads m.frame a (pointer (P.Function k)) → (vs : List Value) → length vs ≡ all.count → HasRow m.frame all.first vs → (g : RoutineData)
            → slice_get p.code.routines k ≡ Some g → (same : Bool) → same_type (type_in p.types ty) (pointer_to (type_in p.types g.ty)) ≡ same
            → Claim (cond same (calls p.types p.code next place k (record { to = t; routine = m.g; more = m.more; frame = m.frame } ∷ m.callers) (Some g) vs m.frame m.w)
            (undefined K.Call place m.w)) m.w.turns (state q) q.before
        by_type k reads_v vs long reads g is true same = call_known k reads_v vs long reads g is same
        by_type k reads_v vs long reads g is false same = claims.undefined K.Call place m.w m.w.turns (state q) q.before

        by_function : (k : ℕ) → Reads m.frame a (pointer (P.Function k)) → (vs : List Value) → length vs ≡ all.count → HasRow m.frame all.first vs
            → (o : Option RoutineData) → slice_get p.code.routines k ≡ o
            → Claim (calls_typed p.types p.code next place (type_in p.types ty) k (record { to = t; routine = m.g; more = m.more; frame = m.frame } ∷ m.callers) o vs
            m.frame m.w) m.w.turns (state q) q.before
        by_function k reads_v vs long reads None is = claims.undefined K.Call place m.w m.w.turns (state q) q.before
        by_function k reads_v vs long reads (Some g) is =
            by_type k reads_v vs long reads g is (same_type (type_in p.types ty) (pointer_to (type_in p.types g.ty))) refl

        by_value : (v : Value) → Reads m.frame a v → (vs : List Value) → length vs ≡ all.count → HasRow m.frame all.first vs
            → Claim (calls_through p.types p.code next place (type_in p.types ty) (pointer_of v)
            (record { to = t; routine = m.g; more = m.more; frame = m.frame } ∷ m.callers) vs m.frame m.w) m.w.turns (state q) q.before
        by_value (word n) reads_v vs long reads = claims.undefined K.Call place m.w m.w.turns (state q) q.before
        by_value (pointer P.Null) reads_v vs long reads = claims.undefined K.Call place m.w m.w.turns (state q) q.before
        by_value (pointer (P.Block b i)) reads_v vs long reads = claims.undefined K.Call place m.w m.w.turns (state q) q.before
        by_value (pointer (P.Function k)) reads_v vs long reads = by_function k reads_v vs long reads (slice_get p.code.routines k) refl
