-- The values of a row of temporaries, and each of them in a register.
use Rattle.std.proofs.Common.{◌≡◌, ℕ, zero, suc, ◌+◌, ◌*◌, ◌^◌, ◌<◌, ◌⊎◌, Bool, false, cond, List, [], ◌∷◌, ◌++◌, length, Some}
use Rattle.std.proofs.Common.{append_assoc, arith, slice_get, slice_index, refl, ap, subst}
use Rattle.lay_base.specs.declared.faults.UndefinedKind.TheVariants as K
use Rattle.lay_base.specs.declared.place.Place.{Place}
use Rattle.memory_words.specs.declared.cell_words.pointer.Ptr.TheVariants as P
use Rattle.block_memory.specs.RunWorlds.Worlds.{World, End}
use Rattle.block_memory.specs.declared.run_worlds.value.Value.{Value}
use Rattle.block_memory.specs.declared.run_worlds.value.Value.TheVariants.{Pointer as pointer}
use Rattle.c_meaning.specs.Frames.{Frame}
use Rattle.c_meaning.specs.declared.frame.Slot.TheVariants.{ByName as by_name, InBlock as in_block}
use Rattle.rv_isa.specs.declared.instruction.Inst.{Inst}
use Rattle.rv_code.specs.Code.{is_block, three_code}
use Rattle.rv_code.specs.Frames.{slot_at}
use Rattle.rv_code.specs.Words.{address_code, fetch_code}
use Rattle.tac_ir.specs.Running.{read_row}
use Rattle.tac_ir.specs.declared.step.Row.{Row}
use Rattle.rv_emit.specs.Maps.{Means}
use Rattle.rv_emit.specs.Grounds.{Ground}
use Rattle.rv_emit.specs.Fitting.{RowFitsIfAny}
use Rattle.rv_emit.specs.Relation.{Program, Moment, Point, Ready, Here, IsBuilt}
use Rattle.rv_emit.specs.Claims.{AreClaims, Claims, state}
use Rattle.rv_emit.proofs.Moves.{code_back, code_front}
use Rattle.rv_emit.proofs.Plain.{open_is}
use Rattle.rv_emit.proofs.Values.{by_held, get_temporary, with_register}

-- a temporary is read as that value
abbrev pub Has : Frame → (t : ℕ) → Value → Type 0
Has f t v = (slice_get f t ≡ Some (by_name (Some v))) ⊎ ((b : ℕ) × (slice_get f t ≡ Some (in_block (Some b))) × (v ≡ pointer (P.Block b 0)))

abbrev pub HasRow : Frame → (first : ℕ) → List Value → Type 0
HasRow f first [] = Unit {0}
HasRow f first (v ∷ vs) = Has f first v × HasRow f (first + 1) vs

-- each temporary of a row has its value in its word
pub open_at : (ground : Ground) (m : Moment) (all : Row) → RowFitsIfAny m.g (Some all) → (k t : ℕ) → k < all.count → all.first + k ≡ t → is_block m.g t ≡ false
open_at ground m all opened k t lt e = open_is m.g.locals t (opened t (omega arith) (omega arith))

module _ (ground : Ground) (p : Program) (built : IsBuilt ground p) (Claim : Claims) (claims : AreClaims ground p Claim) where
  pub by_row : (at : Place) (first count : ℕ) (rest : List Value → Frame → World → End) (f : Frame) (w : World) (n : ℕ) (q : Point)
      → ((vs : List Value) → HasRow f first vs → length vs ≡ count → Claim (rest vs f w) n (state q) q.before)
      → Claim (read_row at first count rest f w) n (state q) q.before
  by_row at first zero rest f w n q h = h [] tt refl
  by_row at first (suc k) rest f w n q h =
      by_held ground p built Claim claims (slice_get f first) K.Call at _ f w n q
      λ v has. by_row at (first + 1) k (λ vs. rest (v ∷ vs)) f w n q
      λ vs row long. h (v ∷ vs) (has, row) (ap suc long)

  -- a temporary's word comes into a register
  pub by_argument : (m : Moment) (q : Point) (ready : Ready ground p m q) (e : End) (n r t : ℕ) (v : Value) (tail : List Inst) → 2 < r → r < 32 → Has m.frame t v
      → is_block m.g t ≡ false → Here ground p q.pc (fetch_code r 2 (slot_at t) ++ tail)
      → ((x : ℕ) → Means p.code p.places m.blocks v x → x < 2 ^ 32 → Ready ground p m (with_register q r x (fetch_code r 2 (slot_at t)))
      → Here ground p (q.pc + 4 * length (fetch_code r 2 (slot_at t))) tail → Claim e n (state (with_register q r x (fetch_code r 2 (slot_at t)))) q.before)
      → Claim e n (state q) q.before
  by_argument m q ready e n r t v tail low high has opened code c =
      let address = address_code r 2 (slice_index m.l.blocks t) in
      let fetch = fetch_code r 2 (slot_at t) in
      subst (λ (b : Bool). Here ground p q.pc (cond b address fetch)
      → ((x : ℕ) → Means p.code p.places m.blocks v x → x < 2 ^ 32 → Ready ground p m (with_register q r x (cond b address fetch))
      → Claim e n (state (with_register q r x (cond b address fetch))) q.before) → Claim e n (state q) q.before) opened
      (get_temporary ground p built Claim claims m q ready e n r low high t v has) (code_front ground q.pc fetch tail code)
      λ x means small ready'. c x means small ready' (code_back ground q.pc fetch tail code)

  -- the first three of a row, in x10 to x12
  abbrev pub three_in : (q : Point) (first x y z : ℕ) → Point
  three_in q first x y z =
      with_register (with_register (with_register q 10 x (fetch_code 10 2 (slot_at first))) 11 y (fetch_code 11 2 (slot_at (first + 1)))) 12 z
      (fetch_code 12 2 (slot_at (first + 2)))

  pub by_three : (m : Moment) (q : Point) (ready : Ready ground p m q) (e : End) (n : ℕ) (all : Row) (v u w : Value) (tail : List Inst)
      → RowFitsIfAny m.g (Some all) → 3 ≡ all.count
      → HasRow m.frame all.first (v ∷ u ∷ w ∷ []) → Here ground p q.pc (three_code all.first ++ tail)
      → ((x y z : ℕ) → Means p.code p.places m.blocks v x → Means p.code p.places m.blocks u y → Means p.code p.places m.blocks w z → x < 2 ^ 32 → y < 2 ^ 32
      → z < 2 ^ 32 → Ready ground p m (three_in q all.first x y z) → Here ground p (three_in q all.first x y z).pc tail
      → Claim e n (state (three_in q all.first x y z)) q.before)
      → Claim e n (state q) q.before
  by_three m q ready e n all v u w tail opened count row code c =
      let one = fetch_code 10 2 (slot_at all.first) in
      let two = fetch_code 11 2 (slot_at (all.first + 1)) in
      let three = fetch_code 12 2 (slot_at (all.first + 2)) in
      let c1 = subst (Here ground p q.pc) (append_assoc (one ++ two) three tail) code in
      let c2 = subst (Here ground p q.pc) (append_assoc one two (three ++ tail)) c1 in
      let third : all.first + 1 + 1 ≡ all.first + 2 = omega arith in
      by_argument m q ready e n 10 all.first v (two ++ (three ++ tail)) (omega arith) (omega arith) row.0
      (open_at ground m all opened 0 all.first (omega (arith, count)) (omega arith)) c2
      λ x means_x small_x ready_x code_x.
      let q1 = with_register q 10 x one in
      by_argument m q1 ready_x e n 11 (all.first + 1) u (three ++ tail) (omega arith) (omega arith) row.1.0
      (open_at ground m all opened 1 (all.first + 1) (omega (arith, count)) (omega arith)) code_x
      λ y means_y small_y ready_y code_y.
      let q2 = with_register q1 11 y two in
      by_argument m q2 ready_y e n 12 (all.first + 2) w tail (omega arith) (omega arith) (subst (λ t. Has m.frame t w) third row.1.1.0)
      (open_at ground m all opened 2 (all.first + 2) (omega (arith, count)) (omega arith)) code_y
      λ z means_z small_z ready_z code_z. c x y z means_x means_y means_z small_x small_y small_z ready_z code_z
