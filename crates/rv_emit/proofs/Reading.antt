-- Calls of `getchar`: the next byte of the input, or minus one where there is none.
use Rattle.std.proofs.Common.{◌≡◌, ◌≢◌, ℕ, zero, suc, ◌+◌, ◌-◌, ◌*◌, ◌/◌, ◌^◌, ◌<◌, ◌≤◌, inl, inr, eqb, List, [], ◌∷◌, ◌++◌, length, min, take, drop}
use Rattle.std.proofs.Common.{Some, None, pos, negsuc, slice_index, refl, ap, sym, ◌∙◌, subst, arith, append_assoc, eq-eqb, ne_eqb}
use Rattle.std.specs.Prelude.{All}
use Rattle.std.proofs.lemmas.Bool.{cases_lt}
use Rattle.std.proofs.lemmas.Int.{ints}
use Rattle.lay_base.specs.declared.faults.UndefinedKind.TheVariants as K
use Rattle.lay_base.specs.declared.place.Place.{Place}
use Rattle.c_typed.specs.declared.operators.LibraryFunction.TheVariants as L
use Rattle.block_memory.specs.RunWorlds.Events as E
use Rattle.block_memory.specs.RunWorlds.Library.{next_of}
use Rattle.block_memory.specs.RunWorlds.LibraryCalls.{library}
use Rattle.block_memory.specs.RunWorlds.Worlds.{End}
use Rattle.block_memory.specs.declared.run_worlds.value.Value.{Value}
use Rattle.block_memory.specs.declared.run_worlds.value.Value.TheVariants.{Word as word}
use Rattle.c_meaning.specs.declared.frame.Slot.TheVariants.{ByName as by_name}
use Rattle.rv_isa.specs.declared.instruction.Inst.{Inst}
use Rattle.rv_isa.specs.declared.instruction.Inst.TheVariants.{Beq, Lbu}
use Rattle.rv_isa.specs.Arithmetic.{plus}
use Rattle.rv_isa.specs.Memory as M
use Rattle.rv_isa.specs.Memory.{with_bytes}
use Rattle.rv_runtime.specs.Steps.States.{at, put}
use Rattle.rv_runtime.proofs.Steps.Operators.{by_branch_passed, by_branch_taken, by_jal, by_load_of, is_beq, is_lbu}
use Rattle.rv_runtime.proofs.Steps.Steps.{by_read}
use Rattle.rv_runtime.proofs.Steps.Words.{keeps_bytes, with_bytes_inside, with_bytes_outside}
use Rattle.rv_code.specs.Code.{byte_at, give_code, read_code, steps_code}
use Rattle.rv_runtime.specs.Routines.{data_place}
use Rattle.tac_ir.specs.Running.{Next, put_any, with_temp}
use Rattle.tac_ir.specs.declared.step.Row.{Row}
use Rattle.tac_ir.specs.declared.step.Step.TheVariants as S
use Rattle.rv_emit.specs.Maps.{Means}
use Rattle.rv_emit.specs.Grounds.{Ground}
use Rattle.rv_emit.specs.Relation.{Program, Moment, Point, Ready, Here, IsBuilt}
use Rattle.rv_emit.specs.Claims.{AreClaims, Claims, Follows, state}
use Rattle.rv_emit.proofs.Giving.{elsewhere}
use Rattle.rv_emit.proofs.Keeping.{byte_place}
use Rattle.rv_emit.proofs.Moves.{by_addi, by_lui}
use Rattle.rv_emit.proofs.Noting.{heard}
use Rattle.rv_emit.proofs.Passing.{byte_passed, byte_readable, byte_writable}
use Rattle.rv_emit.proofs.Plain.{Works, aim, takes}
use Rattle.rv_emit.proofs.Rows.{HasRow, by_row}
use Rattle.rv_emit.proofs.Values.{by_give}

-- the bytes behind the first one
others_fit : (b : ℕ) (more : List ℕ) → All (λ (x : ℕ). x < 2 ^ 8) (b ∷ more) → All (λ (x : ℕ). x < 2 ^ 8) more
others_fit b more all k d lt = all (suc k) d (omega arith)

one_fits : (b : ℕ) → b < 2 ^ 8 → (i : ℕ) → slice_index (b ∷ []) i < 2 ^ 8
one_fits b lt zero = lt
one_fits b lt (suc i) = omega arith

one_of : (k : ℕ) → min 1 (suc k) ≡ 1
one_of k = omega arith

module _ (ground : Ground) (p : Program) (built : IsBuilt ground p) (Claim : Claims) (claims : AreClaims ground p Claim) (m : Moment) (q : Point)
    (ready : Ready ground p m q) where
  -- so many bytes come to the runtime's byte: one or none
  abbrev got_memory : List ℕ → M.Memory
  got_memory bytes = with_bytes q.memory byte_place bytes

  outside : (bytes : List ℕ) → length bytes ≤ 1 → (c : ℕ) → c ≢ byte_place → got_memory bytes c ≡ q.memory c
  outside bytes le c ne = elim (cases_lt c byte_place) [
    | inl lt ↦ with_bytes_outside q.memory byte_place bytes c (inl lt)
    | inr ge ↦ with_bytes_outside q.memory byte_place bytes c (inr (above ge))
  ]
    where
      above : byte_place ≤ c → byte_place + length bytes ≤ c
      above ge = elim (cases_lt byte_place c) [
        | inl lt ↦ omega arith
        | inr le' ↦ absurd (ne (omega arith))
      ]

  got_ready : (bytes : List ℕ) → length bytes ≤ 1 → ((i : ℕ) → slice_index bytes i < 2 ^ 8) → Ready ground p m (record q { memory = got_memory bytes })
  got_ready bytes le fits =
      byte_passed ground p m q ready (got_memory bytes) (keeps_bytes q.memory byte_place bytes ground.text ready.world.keeps (omega arith) fits)
      (outside bytes le)

  -- the instructions up to the call, and the state behind it
  abbrev asked : ℕ → ℕ → ℕ
  asked k = put (put (put (put (put (put q.f 10 0) 11 (data_place / 2 ^ 12 * 2 ^ 12)) 11 byte_place) 12 1) 17 63) 10 k

  abbrev behind_call : ℕ
  behind_call = q.pc + 4 + 4 + 4 + 4 + 4 + 4

  -- so many bytes of the input are read
  abbrev Read : End → (n : ℕ) → List ℕ → (k : ℕ) → Type 0
  Read e n i k = Claim e n (at (asked k) behind_call (got_memory (take k i)) (drop k i) q.output) q.before

  abbrev Asked : End → (n : ℕ) → List ℕ → Type 0
  Asked e n i = Read e n i (min 1 (length i))

  from_nil : (imm : ℕ) → plus (q.f 0) (pos imm) ≡ plus 0 (pos imm)
  from_nil imm = ap (λ (z : ℕ). plus z (pos imm)) ready.nil

  by_asked : (e : End) (n : ℕ) (tail : List Inst) → Here ground p q.pc (read_code ++ tail) → Asked e n q.input → Claim e n (state q) q.before
  by_asked e n tail code c =
      let goal = aim ground p built Claim claims e n q in
      let keeps = ready.world.keeps in
      let f1 = put q.f 10 0 in
      let f2 = put f1 11 (data_place / 2 ^ 12 * 2 ^ 12) in
      let f3 = put f2 11 byte_place in
      let f4 = put f3 12 1 in
      let f5 = put f4 17 63 in
      let pc1 = q.pc + 4 in
      let pc2 = pc1 + 4 in
      let pc3 = pc2 + 4 in
      let pc4 = pc3 + 4 in
      let pc5 = pc4 + 4 in
      by_addi ground goal q.f q.pc q.memory keeps ready.code 10 0 0 (pos 0) code.0 (omega arith) (omega arith) (from_nil 0)
      (by_lui ground goal f1 pc1 q.memory keeps (omega (arith, ready.code)) 11 (data_place / 2 ^ 12) code.1.0 (omega arith)
      (by_addi ground goal f2 pc2 q.memory keeps (omega (arith, ready.code)) 11 11 byte_place (pos byte_at) code.1.1.0 (omega arith) (omega arith) refl
      (by_addi ground goal f3 pc3 q.memory keeps (omega (arith, ready.code)) 12 0 1 (pos 1) code.1.1.1.0 (omega arith) (omega arith) (from_nil 1)
      (by_addi ground goal f4 pc4 q.memory keeps (omega (arith, ready.code)) 17 0 63 (pos 63) code.1.1.1.1.0 (omega arith) (omega arith) (from_nil 63)
      (goal.claim.fewer n (at f5 pc5 q.memory q.input q.output) q.before
      (by_read ground.segments ground.text goal.Claim goal.claim f5 pc5 q.memory q.input q.output keeps (omega (arith, ready.code)) n q.before byte_place 1
      code.1.1.1.1.1.0 refl refl refl refl (byte_writable ground) c))))))

  -- ---- the input is at its end

  abbrev none_moment : Moment
  none_moment = record m { w = record m.w { trace = E.got None ∷ m.w.trace } }

  by_none : (e : End) (n : ℕ) (tail : List Inst) → Here ground p q.pc (read_code ++ tail) → q.input ≡ []
      → ((r : Point) → Ready ground p none_moment r → r.f 5 ≡ 2 ^ 32 - 1 → Here ground p r.pc tail → Claim e n (state r) r.before)
      → Claim e n (state q) q.before
  by_none e n tail code empty c =
      by_asked e n tail code
      (subst (Asked e n) (sym empty)
      (let new = got_memory [] in
      let q1 : Point = record q { memory = new; input = [] } in
      let goal = aim ground p built Claim claims e n q1 in
      let ready1 = heard ground p m (record q { memory = new }) (got_ready [] (omega arith) (λ i. omega arith)) none_moment.w [] q.output q.before refl
      (sym empty ∙ ready.world.input_is) (λ k d lt. absurd (omega arith)) ready.world.output_is (omega arith) refl ready.world.made in
      let keeps = ready1.world.keeps in
      let f6 = asked 0 in
      let f7 = put f6 5 (2 ^ 32 - 1) in
      let pc7 = behind_call + 4 + 4 + 4 in
      let to : plus behind_call (pos 12) ≡ pc7 = omega (arith, ints, code.1.1.1.1.1.1.1.1.0.below) in
      let r : Point = record q1 { f = f7; pc = pc7 + 4 } in
      goal.claim.fewer n (at f6 behind_call new [] q.output) q.before
      (by_branch_taken ground.segments ground.text goal.Claim goal.claim f6 behind_call new [] q.output keeps (omega (arith, ready.code)) n q.before
      (Beq 10 0 (pos 12)) code.1.1.1.1.1.1.0 10 0 pc7 eqb (pos 12) (is_beq 10 0 (pos 12)) (omega arith) (omega arith) (eq-eqb 0 (q.f 0) (sym ready.nil)) to
      (omega (arith, ready.whole)) (omega (arith, ready.code))
      (by_addi ground goal f6 pc7 new keeps (omega (arith, ready.code)) 5 0 (2 ^ 32 - 1) (negsuc 0) code.1.1.1.1.1.1.1.1.1.0 (omega arith) (omega arith)
      (ap (λ (z : ℕ). plus z (negsuc 0)) ready.nil)
      (c r (elsewhere ground p none_moment q1 ready1 f7 (pc7 + 4) refl refl (omega (arith, ready.code)) (omega (arith, ready.whole))) refl
      code.1.1.1.1.1.1.1.1.1.1)))))

  -- ---- a byte is read

  abbrev one_moment : (b : ℕ) → List ℕ → Moment
  one_moment b more = record m { w = record m.w { input = more; trace = E.got (Some b) ∷ m.w.trace } }

  by_one : (e : End) (n b : ℕ) (more : List ℕ) (tail : List Inst) → Here ground p q.pc (read_code ++ tail) → q.input ≡ b ∷ more
      → ((r : Point) → Ready ground p (one_moment b more) r → r.f 5 ≡ b → b < 2 ^ 8 → Here ground p r.pc tail → Claim e n (state r) r.before)
      → Claim e n (state q) q.before
  by_one e n b more tail code is c =
      by_asked e n tail code
      (subst (Asked e n) (sym is)
      (subst (Read e n (b ∷ more)) (sym (one_of (length more)))
      (let all = subst (All (λ (x : ℕ). x < 2 ^ 8)) is ready.world.input_bytes in
      let small : b < 2 ^ 8 = all 0 0 (omega arith) in
      let new = got_memory (b ∷ []) in
      let q1 : Point = record q { memory = new; input = more } in
      let goal = aim ground p built Claim claims e n q1 in
      let ready1 = heard ground p m (record q { memory = new }) (got_ready (b ∷ []) (omega arith) (one_fits b small)) (one_moment b more).w more q.output
      q.before refl refl (others_fit b more all) ready.world.output_is (omega arith) refl ready.world.made in
      let keeps = ready1.world.keeps in
      let f6 = asked 1 in
      let f7 = put f6 5 b in
      let pc6 = behind_call + 4 in
      let pc7 = pc6 + 4 in
      let pc9 = pc7 + 4 + 4 in
      let to : plus pc7 (pos 8) ≡ pc9 = omega (arith, ints, code.1.1.1.1.1.1.1.1.1.0.below) in
      let r : Point = record q1 { f = f7; pc = pc9 } in
      goal.claim.fewer n (at f6 behind_call new more q.output) q.before
      (by_branch_passed ground.segments ground.text goal.Claim goal.claim f6 behind_call new more q.output keeps (omega (arith, ready.code)) n q.before
      (Beq 10 0 (pos 12)) code.1.1.1.1.1.1.0 10 0 eqb (pos 12) (is_beq 10 0 (pos 12)) (omega arith) (omega arith)
      (ne_eqb 1 (q.f 0) (λ d. omega (arith, ready.nil)))
      (by_load_of ground.segments ground.text goal.Claim goal.claim f6 pc6 new more q.output keeps (omega (arith, ready.code)) n q.before (Lbu 5 11 (pos 0))
      code.1.1.1.1.1.1.1.0 [] 5 11 byte_place 1 b (pos 0) (λ memory a. memory a) (is_lbu 5 11 (pos 0)) (omega arith) (omega arith) refl refl
      (byte_readable ground) (ground.quiet_load byte_place 1 (omega arith)) (with_bytes_inside q.memory byte_place (b ∷ []) 0 (omega arith))
      (goal.claim.fewer n (at f7 pc7 new more q.output) q.before
      (by_jal ground.segments ground.text goal.Claim goal.claim f7 pc7 new more q.output keeps (omega (arith, ready.code)) n q.before pc9
      (omega (arith, ready.whole)) (omega (arith, ready.code)) (pos 8) code.1.1.1.1.1.1.1.1.0 to
      (c r (elsewhere ground p (one_moment b more) q1 ready1 f7 pc9 refl refl (omega (arith, ready.code)) (omega (arith, ready.whole))) refl small
      code.1.1.1.1.1.1.1.1.1.1))))))))

module _ (ground : Ground) (p : Program) (built : IsBuilt ground p) (Claim : Claims) (claims : AreClaims ground p Claim) (next : Next)
    (follows : Follows ground p Claim next) (m : Moment) where
  pub getchar_works : (q : Point) → Ready ground p m q → (t : ℕ) (at : Place) (all : Row)
      → Works ground p built Claim claims next m q (S.Library t at L.Getchar all)
  getchar_works q ready t at all code fits =
      by_row ground p built Claim claims at all.first all.count _ m.frame m.w m.w.turns q by_list
    where
      by_input : (i : List ℕ) → m.w.input ≡ i
          → Claim (next_of i (λ v f w. next m.callers m.g m.more (with_temp t (by_name (Some v)) f) w) m.frame m.w) m.w.turns (state q) q.before
      by_input [] is =
          let v = word (2 ^ 32 - 1) in
          let takes_it = takes ground p built Claim claims next follows m t fits.slot fits.kinds.0 in
          let rest = steps_code p.places m.g m.l m.more in
          let m1 = none_moment ground p built Claim claims m q ready in
          let e = next m.callers m.g m.more (with_temp t (by_name (Some v)) m.frame) m1.w in
          by_none ground p built Claim claims m q ready e m.w.turns (give_code t 5 ++ rest)
          (subst (Here ground p q.pc) (append_assoc read_code (give_code t 5) rest) code) (ready.world.input_is ∙ is)
          λ r ready_r five code_r.
          by_give ground p built Claim claims next follows m1 r ready_r 5 t (2 ^ 32 - 1) (Some v) (omega arith) (λ d. omega arith) five (λ u d. omega arith)
          takes_it.slot takes_it.opened (λ u d. let z : v ≡ u = cc in subst (λ j. Means p.code p.places m.blocks j (2 ^ 32 - 1)) z refl) code_r
      by_input (b ∷ more) is =
          let v = word b in
          let takes_it = takes ground p built Claim claims next follows m t fits.slot fits.kinds.0 in
          let rest = steps_code p.places m.g m.l m.more in
          let m1 = one_moment ground p built Claim claims m q ready b more in
          let e = next m.callers m.g m.more (with_temp t (by_name (Some v)) m.frame) m1.w in
          by_one ground p built Claim claims m q ready e m.w.turns b more (give_code t 5 ++ rest)
          (subst (Here ground p q.pc) (append_assoc read_code (give_code t 5) rest) code) (ready.world.input_is ∙ is)
          λ r ready_r five small code_r.
          by_give ground p built Claim claims next follows m1 r ready_r 5 t b (Some v) (omega arith) (λ d. omega arith) five (λ u d. omega (arith, small))
          takes_it.slot takes_it.opened (λ u d. let z : v ≡ u = cc in subst (λ j. Means p.code p.places m.blocks j b) z refl) code_r

      by_list : (vs : List Value) → HasRow m.frame all.first vs → length vs ≡ all.count
          → Claim (library at L.Getchar vs (λ v. put_any t v (λ u. next m.callers m.g m.more)) m.frame m.w) m.w.turns (state q) q.before
      by_list [] row long = by_input m.w.input refl
      by_list (v ∷ vs) row long = claims.undefined K.Call at m.w m.w.turns (state q) q.before
