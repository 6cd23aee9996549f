-- Calls of `putchar`: the low byte of a number goes to the output.
use Rattle.std.proofs.Common.{◌≡◌, ℕ, ◌+◌, ◌*◌, ◌/◌, ◌%◌, ◌^◌, List, [], ◌∷◌, ◌++◌, length, Some, pos, refl, ap, sym, ◌∙◌, subst, arith, append_assoc}
use Rattle.lay_base.specs.declared.faults.UndefinedKind.TheVariants as K
use Rattle.lay_base.specs.declared.place.Place.{Place}
use Rattle.c_typed.specs.declared.operators.LibraryFunction.TheVariants as L
use Rattle.block_memory.specs.RunWorlds.Events as E
use Rattle.block_memory.specs.RunWorlds.LibraryCalls.{library}
use Rattle.block_memory.specs.RunWorlds.Scalars.{as_word}
use Rattle.block_memory.specs.RunWorlds.Worlds.{World, End}
use Rattle.block_memory.specs.declared.run_worlds.value.Value.{Value}
use Rattle.block_memory.specs.declared.run_worlds.value.Value.TheVariants.{Word as word}
use Rattle.c_meaning.specs.declared.frame.Slot.TheVariants.{ByName as by_name}
use Rattle.rv_isa.specs.declared.instruction.Inst.{Inst}
use Rattle.rv_isa.specs.declared.instruction.Inst.TheVariants.{Lbu, Sb}
use Rattle.rv_isa.specs.Arithmetic.{plus}
use Rattle.rv_isa.specs.Memory.{bytes_at, with_byte}
use Rattle.rv_runtime.specs.Steps.States.{at, put}
use Rattle.rv_runtime.proofs.Steps.Operators.{by_load_of, by_store_of, is_lbu, is_sb}
use Rattle.rv_runtime.proofs.Steps.Steps.{by_write}
use Rattle.rv_runtime.proofs.Steps.Words.{bytes_at_one, keeps_byte, with_byte_other, with_byte_same}
use Rattle.rv_code.specs.Code.{byte_at, give_code, one_code, steps_code, write_code}
use Rattle.rv_runtime.specs.Routines.{data_place}
use Rattle.tac_ir.specs.Running.{Next, put_any, with_temp}
use Rattle.tac_ir.specs.declared.step.Row.{Row}
use Rattle.tac_ir.specs.declared.step.Step.TheVariants as S
use Rattle.rv_emit.specs.Maps.{Means}
use Rattle.rv_emit.specs.Grounds.{Ground}
use Rattle.rv_emit.specs.Relation.{Program, Moment, Point, Ready, Here, IsBuilt}
use Rattle.rv_emit.specs.Claims.{AreClaims, Claims, Follows, state}
use Rattle.rv_emit.proofs.Giving.{elsewhere}
use Rattle.rv_emit.proofs.Keeping.{byte_place}
use Rattle.rv_emit.proofs.Moves.{by_addi, by_lui}
use Rattle.rv_emit.proofs.Noting.{heard}
use Rattle.rv_emit.proofs.Passing.{byte_passed, byte_readable, byte_writable}
use Rattle.rv_emit.proofs.Plain.{Takes, Works, aim, takes}
use Rattle.rv_emit.proofs.Ranging.{number_is}
use Rattle.rv_emit.proofs.Rows.{HasRow, by_argument, by_row, open_at}
use Rattle.rv_emit.proofs.Values.{by_give, by_tested, with_register}

module _ (ground : Ground) (p : Program) (built : IsBuilt ground p) (Claim : Claims) (claims : AreClaims ground p Claim) (m : Moment) (q : Point)
    (ready : Ready ground p m q) where
  abbrev low : ℕ
  low = q.f 10 % 2 ^ 8

  -- the runtime's byte has the low byte of x10, and so has the output
  abbrev wrote : Point
  wrote = record q { memory = with_byte q.memory byte_place (q.f 10); output = q.output ++ low ∷ [] }

  abbrev wrote_moment : Moment
  wrote_moment = record m { w = record m.w { trace = E.put low ∷ m.w.trace } }

  wrote_ready : Ready ground p wrote_moment wrote
  wrote_ready =
      let new = with_byte q.memory byte_place (q.f 10) in
      let q1 : Point = record q { memory = new } in
      let ready1 = byte_passed ground p m q ready new (keeps_byte ground.text q.memory byte_place (q.f 10) ready.world.keeps (omega arith))
      (λ c ne. with_byte_other q.memory byte_place (q.f 10) c ne) in
      heard ground p m q1 ready1 wrote_moment.w q.input wrote.output q.before refl ready.world.input_is ready.world.input_bytes
      (ap (λ (out : List ℕ). out ++ low ∷ []) ready.world.output_is) (omega arith) refl ready.world.made

  from_nil : (k : ℕ) → plus (q.f 0) (pos k) ≡ plus 0 (pos k)
  from_nil k = ap (λ (z : ℕ). plus z (pos k)) ready.nil

  -- the instructions, with the number in x10
  by_written : (e : End) (n : ℕ) (tail : List Inst) → Here ground p q.pc (write_code ++ tail)
      → ((r : Point) → Ready ground p wrote_moment r → r.f 5 ≡ low → Here ground p r.pc tail → Claim e n (state r) r.before)
      → Claim e n (state q) q.before
  by_written e n tail code c =
      let goal = aim ground p built Claim claims e n q in
      let goal' = aim ground p built Claim claims e n wrote in
      let keeps = ready.world.keeps in
      let x = q.f 10 in
      let new = with_byte q.memory byte_place x in
      let keeps' = wrote_ready.world.keeps in
      let f1 = put q.f 11 (data_place / 2 ^ 12 * 2 ^ 12) in
      let f2 = put f1 11 byte_place in
      let f3 = put f2 10 1 in
      let f4 = put f3 12 1 in
      let f5 = put f4 17 64 in
      let f6 = put f5 10 1 in
      let f7 = put f6 5 low in
      let pc1 = q.pc + 4 in
      let pc2 = pc1 + 4 in
      let pc3 = pc2 + 4 in
      let pc4 = pc3 + 4 in
      let pc5 = pc4 + 4 in
      let pc6 = pc5 + 4 in
      let pc7 = pc6 + 4 in
      let pc8 = pc7 + 4 in
      let out : q.output ++ bytes_at new byte_place 1 ≡ wrote.output =
      ap (λ (bytes : List ℕ). q.output ++ bytes) (bytes_at_one new byte_place ∙ ap (λ (b : ℕ). b ∷ []) (with_byte_same q.memory byte_place x)) in
      let r : Point = record wrote { f = f7; pc = pc8 } in
      by_lui ground goal q.f q.pc q.memory keeps ready.code 11 (data_place / 2 ^ 12) code.0 (omega arith)
      (goal.claim.fewer n (at f1 pc1 q.memory q.input q.output) q.before
      (by_store_of ground.segments ground.text goal.Claim goal.claim f1 pc1 q.memory q.input q.output keeps (omega (arith, ready.code)) n q.before
      (Sb 11 10 (pos byte_at)) code.1.0 [] 11 10 byte_place 1 (pos byte_at) with_byte (is_sb 11 10 (pos byte_at)) (omega arith) (omega arith) refl refl
      (byte_writable ground) (ground.quiet_store byte_place 1 (omega arith))
      (by_addi ground goal f1 pc2 new keeps' (omega (arith, ready.code)) 11 11 byte_place (pos byte_at) code.1.1.0 (omega arith) (omega arith) refl
      (by_addi ground goal f2 pc3 new keeps' (omega (arith, ready.code)) 10 0 1 (pos 1) code.1.1.1.0 (omega arith) (omega arith) (from_nil 1)
      (by_addi ground goal f3 pc4 new keeps' (omega (arith, ready.code)) 12 0 1 (pos 1) code.1.1.1.1.0 (omega arith) (omega arith) (from_nil 1)
      (by_addi ground goal f4 pc5 new keeps' (omega (arith, ready.code)) 17 0 64 (pos 64) code.1.1.1.1.1.0 (omega arith) (omega arith) (from_nil 64)
      (goal.claim.fewer n (at f5 pc6 new q.input q.output) q.before
      (by_write ground.segments ground.text goal.Claim goal.claim f5 pc6 new q.input q.output keeps' (omega (arith, ready.code)) n q.before byte_place 1
      code.1.1.1.1.1.1.0 refl refl refl refl (byte_readable ground)
      (subst (λ (o : List ℕ). Claim e n (at f6 pc7 new q.input o) q.before) (sym out)
      (by_load_of ground.segments ground.text goal'.Claim goal'.claim f6 pc7 new q.input wrote.output keeps' (omega (arith, ready.code)) n q.before
      (Lbu 5 11 (pos 0)) code.1.1.1.1.1.1.1.0 [] 5 11 byte_place 1 low (pos 0) (λ memory a. memory a) (is_lbu 5 11 (pos 0)) (omega arith) (omega arith) refl
      refl (byte_readable ground) (ground.quiet_load byte_place 1 (omega arith)) (with_byte_same q.memory byte_place x)
      (c r (elsewhere ground p wrote_moment wrote wrote_ready f7 pc8 refl refl (omega (arith, ready.code)) (omega (arith, ready.whole))) refl
      code.1.1.1.1.1.1.1.1)))))))))))

module _ (ground : Ground) (p : Program) (built : IsBuilt ground p) (Claim : Claims) (claims : AreClaims ground p Claim) (next : Next)
    (follows : Follows ground p Claim next) (m : Moment) where
  -- where the run goes on
  abbrev put_end : (t b : ℕ) → End
  put_end t b = next m.callers m.g m.more (with_temp t (by_name (Some (word b))) m.frame) (record m.w { trace = E.put b ∷ m.w.trace })

  pub putchar_works : (q : Point) → Ready ground p m q → (t : ℕ) (at : Place) (all : Row)
      → Works ground p built Claim claims next m q (S.Library t at L.Putchar all)
  putchar_works q ready t at all code fits =
      by_row ground p built Claim claims at all.first all.count _ m.frame m.w m.w.turns q by_list
    where
      -- with the number in x10
      by_number : (q : Point) → Ready ground p m q → (k : ℕ) → k ≡ q.f 10 → Takes ground p built Claim claims next follows m t
          → Here ground p q.pc (write_code ++ (give_code t 5 ++ steps_code p.places m.g m.l m.more))
          → Claim (put_end t (k % 2 ^ 8)) m.w.turns (state q) q.before
      by_number q ready k is takes_it code =
          let b = q.f 10 % 2 ^ 8 in
          let w : World = record m.w { trace = E.put b ∷ m.w.trace } in
          let m1 : Moment = record m { w = w } in
          subst (λ (i : ℕ). Claim (put_end t (i % 2 ^ 8)) m.w.turns (state q) q.before) (sym is)
          (by_written ground p built Claim claims m q ready (put_end t b) m.w.turns (give_code t 5 ++ steps_code p.places m.g m.l m.more) code
          λ r ready_r five code_r.
          by_give ground p built Claim claims next follows m1 r ready_r 5 t b (Some (word b)) (omega arith) (λ d. omega arith) five (λ i d. omega arith)
          takes_it.slot takes_it.opened (λ i d. let z : word b ≡ i = cc in subst (λ j. Means p.code p.places m.blocks j b) z refl) code_r)

      by_list : (vs : List Value) → HasRow m.frame all.first vs → length vs ≡ all.count
          → Claim (library at L.Putchar vs (λ v. put_any t v (λ u. next m.callers m.g m.more)) m.frame m.w) m.w.turns (state q) q.before
      by_list [] row long = claims.undefined K.Call at m.w m.w.turns (state q) q.before
      by_list (v ∷ u ∷ vs) row long = claims.undefined K.Call at m.w m.w.turns (state q) q.before
      by_list (v ∷ []) row long =
          let one = one_code all.first in
          let give = give_code t 5 in
          let rest = steps_code p.places m.g m.l m.more in
          by_tested ground p built Claim claims (as_word v) at _ m.frame m.w m.w.turns q
          λ k is.
          by_argument ground p built Claim claims m q ready (put_end t (k % 2 ^ 8)) m.w.turns 10 all.first v ((write_code ++ give) ++ rest) (omega arith)
          (omega arith) row.0 (open_at ground m all fits.row 0 all.first (omega (arith, long)) (omega arith))
          (subst (Here ground p q.pc) (append_assoc one (write_code ++ give) rest) code)
          λ x means small ready_x code_x.
          by_number (with_register q 10 x one) ready_x k (number_is ground p built Claim claims next follows m v k x is means)
          (takes ground p built Claim claims next follows m t fits.slot fits.kinds.0)
          (subst (Here ground p (q.pc + 4 * length one)) (append_assoc write_code give rest) code_x)
