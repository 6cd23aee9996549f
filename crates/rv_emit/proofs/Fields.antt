-- Fields through pointers, which the source alone tells, parts of a local's block, and updates.
use Rattle.std.proofs.Common.{◌≡◌, ℕ, ◌+◌, ◌*◌, ◌%◌, ◌^◌, ◌<◌, Bool, true, false, List, [], ◌∷◌, ◌++◌, Option, Some, None, Ok, pos, ◌+ℤ◌}
use Rattle.std.proofs.Common.{slice_get, slice_index, refl, ap, sym, ◌∙◌, subst, arith, append_assoc}
use Rattle.std.specs.Prelude.{◌*ℤ◌}
use Rattle.lay_base.specs.declared.faults.UndefinedKind.TheVariants as Undefined
use Rattle.lay_base.specs.declared.place.Place.{Place}
use Rattle.c_checking_laws.proofs.Ranges.{binary_below, kind_below}
use Rattle.c_types.specs.declared.ty.IntKind.{IntKind}
use Rattle.c_types.specs.Types.{integer}
use Rattle.c_typed.specs.Arithmetic.{binary_value}
use Rattle.c_typed.specs.Conversions.{as_kind, number_of}
use Rattle.c_typed.specs.declared.operators.BinaryOp.{BinaryOp}
use Rattle.c_meaning.specs.Expressions.{field_in}
use Rattle.c_meaning.specs.declared.frame.Slot.{Slot}
use Rattle.c_meaning.specs.declared.frame.Slot.TheVariants.{ByName as by_name, InBlock as in_block}
use Rattle.memory_words.specs.declared.cell_words.pointer.Ptr.{Ptr}
use Rattle.memory_words.specs.declared.cell_words.pointer.Ptr.TheVariants as P
use Rattle.block_memory.specs.Blocks.{kind}
use Rattle.block_memory.specs.Lifetimes.{is_heap}
use Rattle.block_memory.specs.RunWorlds.Events.{reached}
use Rattle.block_memory.specs.RunWorlds.Operators.{common_kind, converted, or_undefined, pointer_op, undefined_by, updated}
use Rattle.block_memory.specs.RunWorlds.Scalars.{as_word, note_if, note_in, pointer_of}
use Rattle.block_memory.specs.RunWorlds.Worlds.{World}
use Rattle.block_memory.specs.declared.run_worlds.value.Value.{Value}
use Rattle.block_memory.specs.declared.run_worlds.value.Value.TheVariants.{Word as word, Pointer as pointer}
use Rattle.rv_isa.specs.Arithmetic as R
use Rattle.rv_isa.specs.declared.instruction.Inst.{Inst}
use Rattle.rv_isa.specs.declared.instruction.Inst.TheVariants.{Add}
use Rattle.tac_ir.specs.Running.{Next, inside, put as put_value, type_of_sort, with_temp}
use Rattle.tac_ir.specs.declared.step.Operand.{Operand}
use Rattle.tac_ir.specs.declared.step.Sort.{Sort}
use Rattle.tac_ir.specs.declared.step.Sort.TheVariants as Sorts
use Rattle.tac_ir.specs.declared.step.Step.TheVariants as S
use Rattle.rv_code.specs.Code.{block_code, both_code, give_code, steps_code, update_code}
use Rattle.rv_code.specs.Operators.{binary_code, convert_code, offset_code, scale_code}
use Rattle.rv_emit.specs.Maps.{Means, Points}
use Rattle.rv_emit.specs.Grounds.{Ground}
use Rattle.rv_emit.specs.Relation.{Program, Moment, Point, Ready, Here, IsBuilt}
use Rattle.rv_emit.specs.Claims.{Claims, AreClaims, Follows, state}
use Rattle.rv_emit.proofs.Calculating.{binary_made, convert_made}
use Rattle.rv_emit.proofs.Giving.{elsewhere}
use Rattle.rv_emit.proofs.Making.{Makes, made_then, made_weaker}
use Rattle.rv_emit.proofs.Moves.{Goal, by_address, parts}
use Rattle.rv_emit.proofs.Noting.{noted}
use Rattle.rv_emit.proofs.Parts.{at_pointer, field_means, field_some, indexed_made, word_is}
use Rattle.rv_emit.proofs.Pointing.{move_result, offset_made}
use Rattle.rv_emit.proofs.Scaling.{IsSame, same_number, same_scaled, same_sum}
use Rattle.rv_emit.proofs.Values.{by_give, by_read, by_tested, extent_small, with_register}
use Rattle.rv_emit.proofs.Plain.{Result, Works, aim, by_one, by_two, takes}

module _ (ground : Ground) (p : Program) (built : IsBuilt ground p) (m : Moment) (q : Point) (ready : Ready ground p m q) (Claim : Claims)
    (claims : AreClaims ground p Claim) (next : Next) (follows : Follows ground p Claim next) where
  abbrev At : Ptr → ℕ → Type 0
  At r x = Points p.code p.places m.blocks r x

  -- ---- fields

  -- the way to a field of an allocation is told by the source alone
  by_reached : (r : Ptr) (t : ℕ)
      → ((w : World) → Ready ground p (record m { w = w }) q → Claim (next m.callers m.g m.more (with_temp t (by_name (Some (pointer r))) m.frame) w) w.turns (state q) q.before)
      → Claim (note_in m.w.memory r (λ b at. reached b at) (λ u f w. next m.callers m.g m.more (with_temp t (by_name (Some (pointer r))) f) w) m.frame m.w) m.w.turns
      (state q) q.before
  by_reached P.Null t go = go m.w ready
  by_reached (P.Function f) t go = go m.w ready
  by_reached (P.Block b at) t go = by_kind (is_heap (kind m.w.memory b))
    where
      by_kind : (t' : Bool) → Claim (note_if t' (reached b at) (λ u f w. next m.callers m.g m.more (with_temp t (by_name (Some (pointer (P.Block b at)))) f) w) m.frame m.w)
          m.w.turns (state q) q.before
      by_kind true =
          (let w : World = record m.w { trace = reached b at ∷ m.w.trace } in go w (noted ground p m q ready w refl refl refl (omega arith) refl (λ made. made)))
      by_kind false = go m.w ready

  field_result : (w : World) (by t : ℕ) (v : Value) (s : Ptr) → field_in m.w.memory (pointer_of v) (pos by) ≡ Ok s
      → (x : ℕ) → Means p.code p.places m.blocks v x → x < 2 ^ 32 → (f : ℕ → ℕ) → f 5 ≡ x → f 0 ≡ 0
      → Result ground p built Claim claims next follows (record m { w = w }) q t (pointer s) (offset_code by) f
  field_result w by t v s e x means small f value nil = (
    (x + by) % 2 ^ 32,
    field_means ground p built m q ready (pointer_of v) s (pos by) by x e (same_number by)
        (at_pointer ground p built m q ready v x means (pointer_of v) refl (field_some ground p built m q ready (pointer_of v) s (pos by) e)),
    omega arith,
    offset_made ground (aim ground p built Claim claims (next m.callers m.g m.more (with_temp t (by_name (Some (pointer s))) m.frame) w) w.turns q) f x (f 6) value
        refl by small nil,
  )

  pub field_works : (t : ℕ) (at : Place) (by : ℕ) (a : Operand) → Works ground p built Claim claims next m q (S.Field t at by a)
  field_works t at by a code fits =
      by_read ground p built Claim claims a _ m.frame m.w m.w.turns q
      λ v reads. by_tested ground p built Claim claims (field_in m.w.memory (pointer_of v) (pos by)) at _ m.frame m.w m.w.turns q
      λ s is. by_reached s t
      λ w ready'. by_one ground p built Claim claims next follows (record m { w = w }) t (pointer s) (offset_code by)
      (takes ground p built Claim claims next follows (record m { w = w }) t fits.slot fits.kinds.0) q ready' a v reads (fits.operands 0 a (omega arith)) code
      (field_result w by t v s is)

  -- of an element
  abbrev way_code : (n by : ℕ) → List Inst
  way_code n by = scale_code n ++ Add 5 5 6 ∷ offset_code by

  way_made : (goal : Goal ground) (n by : ℕ) (f : ℕ → ℕ) (x y : ℕ) → f 5 ≡ x → f 6 ≡ y → f 0 ≡ 0 → y < 2 ^ 32
      → Makes ground goal ((scale_code n ++ Add 5 5 6 ∷ []) ++ offset_code by) f (λ g. g 5 ≡ (R.sum x (y * n % 2 ^ 32) + by) % 2 ^ 32)
  way_made goal n by f x y five six nil small =
      let z = R.sum x (y * n % 2 ^ 32) in
      made_then ground goal (scale_code n ++ Add 5 5 6 ∷ []) (offset_code by) f (λ g. g 5 ≡ z) (λ g. g 5 ≡ (z + by) % 2 ^ 32)
      (indexed_made ground p built m q ready Claim claims next follows goal n f x y five six nil small)
      λ g is nil' stack. offset_made ground goal g z (g 6) is refl by (omega arith) (nil' ∙ nil)

  way_result : (w' : World) (kind : IntKind) (n by t i : ℕ) (v w : Value) (s : Ptr) → as_word w ≡ Ok i
      → field_in m.w.memory (pointer_of v) (number_of kind i *ℤ pos n +ℤ pos by) ≡ Ok s
      → (x y : ℕ) → Means p.code p.places m.blocks v x → Means p.code p.places m.blocks w y → x < 2 ^ 32 → y < 2 ^ 32
      → (f : ℕ → ℕ) → f 5 ≡ x → f 6 ≡ y → f 0 ≡ 0
      → Result ground p built Claim claims next follows (record m { w = w' }) q t (pointer s) ((scale_code n ++ Add 5 5 6 ∷ []) ++ offset_code by) f
  way_result w' kind n by t i v w s is_i e x y means_x means_y small_x small_y f five six nil =
      let same = word_is ground p built m q ready Claim claims next follows w i y is_i means_y in
      let z = number_of kind i *ℤ pos n +ℤ pos by in
      let d : IsSame (number_of kind i *ℤ pos n) (y * n % 2 ^ 32) =
      subst (λ j. IsSame (number_of kind j *ℤ pos n) (y * n % 2 ^ 32)) same (same_scaled kind y n small_y) in
      let k = (y * n % 2 ^ 32 + by) % 2 ^ 32 in
      let both : (x + k) % 2 ^ 32 ≡ (R.sum x (y * n % 2 ^ 32) + by) % 2 ^ 32 = omega arith in (
        (R.sum x (y * n % 2 ^ 32) + by) % 2 ^ 32,
        subst (At s) both (field_means ground p built m q ready (pointer_of v) s z k x e (same_sum (number_of kind i *ℤ pos n) (pos by) (y * n % 2 ^ 32) by d (same_number by))
            (at_pointer ground p built m q ready v x means_x (pointer_of v) refl (field_some ground p built m q ready (pointer_of v) s z e))),
        omega arith,
        way_made (aim ground p built Claim claims (next m.callers m.g m.more (with_temp t (by_name (Some (pointer s))) m.frame) w') w'.turns q) n by f x y five six nil
            small_y,
      )

  way_codes : (n by t : ℕ) → scale_code n ++ (Add 5 5 6 ∷ (offset_code by ++ give_code t 5)) ≡ ((scale_code n ++ Add 5 5 6 ∷ []) ++ offset_code by) ++ give_code t 5
  way_codes n by t =
      sym (append_assoc (scale_code n) (Add 5 5 6 ∷ []) (offset_code by ++ give_code t 5))
      ∙ sym (append_assoc (scale_code n ++ Add 5 5 6 ∷ []) (offset_code by) (give_code t 5))

  pub element_field_works : (t : ℕ) (at : Place) (n : ℕ) (kind : IntKind) (by : ℕ) (a b : Operand)
      → Works ground p built Claim claims next m q (S.ElementField t at n kind by a b)
  element_field_works t at n kind by a b code fits =
      by_read ground p built Claim claims a _ m.frame m.w m.w.turns q
      λ v reads_v. by_read ground p built Claim claims b _ m.frame m.w m.w.turns q
      λ w reads_w. by_tested ground p built Claim claims (as_word w) at _ m.frame m.w m.w.turns q
      λ i is_i. by_tested ground p built Claim claims (field_in m.w.memory (pointer_of v) (number_of kind i *ℤ pos n +ℤ pos by)) at _ m.frame m.w m.w.turns q
      λ s is. by_reached s t
      λ w' ready'. by_two ground p built Claim claims next follows (record m { w = w' }) t (pointer s) ((scale_code n ++ Add 5 5 6 ∷ []) ++ offset_code by)
      (takes ground p built Claim claims next follows (record m { w = w' }) t fits.slot fits.kinds.0) q ready' a b v w reads_v reads_w
      (fits.operands 0 a (omega arith)) (fits.operands 1 b (omega arith))
      (subst (λ is. Here ground p q.pc ((both_code p.places m.g m.l a b ++ is) ++ steps_code p.places m.g m.l m.more)) (way_codes n by t) code)
      (way_result w' kind n by t i v w s is_i is)

  -- ---- so many bytes behind the beginning of a local's block

  pub inside_works : (t : ℕ) (at : Place) (x by : ℕ) → Works ground p built Claim claims next m q (S.Inside t at x by)
  inside_works t at x by code fits = by_slot (slice_get m.frame x) refl
    where
      by_slot : (o : Option Slot) → slice_get m.frame x ≡ o
          → Claim (inside at by o (λ v. put_value t v (λ u. next m.callers m.g m.more)) m.frame m.w) m.w.turns (state q) q.before
      by_slot (Some (in_block (Some b))) is =
          let shows = ready.frame.shows x (in_block (Some b)) is in
          let offset = slice_index m.l.blocks x + by in
          let a = m.sp + offset in
          let u = pointer (P.Block b by) in
          let small = extent_small ground p built m q ready b _ shows.2 in
          let sum : (q.f 2 + offset) % 2 ^ 32 ≡ a = omega (arith, ready.stack, fits.numbers, small.1) in
          let means : At (P.Block b by) a = (_, shows.2, fits.numbers, omega arith) in
          let get = block_code m.l 5 x by in
          let d = parts ground q.pc get (give_code t 5) (steps_code p.places m.g m.l m.more)
          (subst (Here ground p q.pc) refl code) in
          let takes_it = takes ground p built Claim claims next follows m t fits.slot fits.kinds.0 in
          let e = next m.callers m.g m.more (with_temp t (by_name (Some u)) m.frame) m.w in
          let r = with_register q 5 a get in
          by_address ground (aim ground p built Claim claims e m.w.turns q) q.f q.pc q.memory ready.world.keeps ready.code 5 2 offset a (omega arith) (omega arith)
          (omega arith) (λ z. omega arith) d.0 sum
          (by_give ground p built Claim claims next follows m r
          (elsewhere ground p m q ready r.f r.pc refl refl (omega (arith, ready.code)) (omega (arith, ready.whole))) 5 t a (Some u) (omega arith) (λ z. omega arith) refl
          (λ v z. omega (arith, fits.numbers, small.1)) takes_it.slot takes_it.opened (λ v z. let k : u ≡ v = cc in subst (λ i. Means p.code p.places m.blocks i a) k means)
          d.1)
      by_slot (Some (in_block None)) is = claims.undefined Undefined.Dead at m.w m.w.turns (state q) q.before
      by_slot (Some (by_name v)) is = claims.undefined Undefined.Dead at m.w m.w.turns (state q) q.before
      by_slot None is = claims.undefined Undefined.Dead at m.w m.w.turns (state q) q.before

  -- ---- updates

  -- of a number: both in the common kind, and back
  number_made : (goal : Goal ground) (op : BinaryOp) (kind right : IntKind) (f : ℕ → ℕ) (x y z : ℕ) → f 5 ≡ x → f 6 ≡ y → x < 2 ^ 32 → z < 2 ^ 32
      → binary_value op (common_kind op kind right) (as_kind (common_kind op kind right) x) right y ≡ Some z
      → Makes ground goal (update_code op 0 (Sorts.Number kind) right) f (λ g. g 5 ≡ as_kind kind z)
  number_made goal op kind right f x y z five six small small_z e =
      let k = common_kind op kind right in
      let i = as_kind k x in
      made_then ground goal (convert_code k) (binary_code op k ∷ convert_code kind) f (λ g. (g 5 ≡ i) × (g 6 ≡ f 6)) (λ g. g 5 ≡ as_kind kind z)
      (convert_made ground goal f x five small k)
      λ g both nil stack. made_then ground goal (binary_code op k ∷ []) (convert_code kind) g (λ h. h 5 ≡ z) (λ h. h 5 ≡ as_kind kind z)
      (binary_made ground goal g i y z op k right both.0 (both.1 ∙ six) e)
      λ h is nil' stack'. made_weaker ground goal (convert_code kind) h (λ j. (j 5 ≡ as_kind kind z) × (j 6 ≡ h 6)) (λ j. j 5 ≡ as_kind kind z) (λ j both. both.0)
      (convert_made ground goal h z is small_z kind)

  -- what an update of a number gives
  updated_is : (op : BinaryOp) (n : ℕ) (kind right : IntKind) (v w u : Value) → updated m.w.memory op n (integer kind) v (integer right) w ≡ Ok u
      → (i j z : ℕ) × (v ≡ word i) × (w ≡ word j) × (binary_value op (common_kind op kind right) (as_kind (common_kind op kind right) i) right j ≡ Some z)
      × (word (as_kind kind z) ≡ u)
  updated_is op n kind right (word i) (word j) u e =
      (let h = by_value (binary_value op (common_kind op kind right) (as_kind (common_kind op kind right) i) right j) refl e in (i, j, h.0, refl, refl, h.1, h.2))
    where
      by_value : (o : Option ℕ) → binary_value op (common_kind op kind right) (as_kind (common_kind op kind right) i) right j ≡ o
          → Rattle.block_memory.specs.Tested.◌>>=◌ (or_undefined (undefined_by op) o) (λ new. converted (integer kind) new) ≡ Ok u
          → (z : ℕ) × (binary_value op (common_kind op kind right) (as_kind (common_kind op kind right) i) right j ≡ Some z) × (word (as_kind kind z) ≡ u)
      by_value (Some z) d e = (z, d, cc)
      by_value None d e = absurd cc
  updated_is op n kind right (pointer r) w u e = absurd cc
  updated_is op n kind right (word i) (pointer r) u e = absurd cc

  update_result : (op : BinaryOp) (n : ℕ) (kind right : IntKind) (t : ℕ) (v w u : Value) → updated m.w.memory op n (integer kind) v (integer right) w ≡ Ok u
      → (x y : ℕ) → Means p.code p.places m.blocks v x → Means p.code p.places m.blocks w y → x < 2 ^ 32 → y < 2 ^ 32
      → (f : ℕ → ℕ) → f 5 ≡ x → f 6 ≡ y → f 0 ≡ 0 → Result ground p built Claim claims next follows m q t u (update_code op n (Sorts.Number kind) right) f
  update_result op n kind right t v w u e x y means_x means_y small_x small_y f five six nil =
      let h = updated_is op n kind right v w u e in
      let k = common_kind op kind right in
      let is_x : x ≡ h.0 = subst (λ i. Means p.code p.places m.blocks i x) h.3 means_x in
      let is_y : y ≡ h.1 = subst (λ i. Means p.code p.places m.blocks i y) h.4 means_y in
      let d : binary_value op k (as_kind k x) right y ≡ Some h.2 =
      ap (λ (i : ℕ). binary_value op k (as_kind k i) right y) is_x ∙ ap (binary_value op k (as_kind k h.0) right) is_y ∙ h.5 in
      let small = binary_below op k (as_kind k x) right y h.2 (kind_below k x) small_y d in (
        as_kind kind h.2,
        subst (λ i. Means p.code p.places m.blocks i (as_kind kind h.2)) h.6 refl,
        kind_below kind h.2,
        number_made (aim ground p built Claim claims (next m.callers m.g m.more (with_temp t (by_name (Some u)) m.frame) m.w) m.w.turns q) op kind right f x y h.2 five six
            small_x small d,
      )

  pub update_works : (t : ℕ) (at : Place) (op : BinaryOp) (n : ℕ) (sort : Sort) (right : IntKind) (a b : Operand)
      → Works ground p built Claim claims next m q (S.Update t at op n sort right a b)
  update_works t at op n (Sorts.Number kind) right a b code fits =
      by_read ground p built Claim claims b _ m.frame m.w m.w.turns q
      λ w reads_w. by_read ground p built Claim claims a _ m.frame m.w m.w.turns q
      λ v reads_v. by_tested ground p built Claim claims (updated m.w.memory op n (integer kind) v (integer right) w) at _ m.frame m.w m.w.turns q
      λ u is. by_two ground p built Claim claims next follows m t u (update_code op n (Sorts.Number kind) right)
      (takes ground p built Claim claims next follows m t fits.slot fits.kinds.0) q ready a b v w reads_v reads_w (fits.operands 0 a (omega arith))
      (fits.operands 1 b (omega arith)) code (update_result op n kind right t v w u is)
  update_works t at op n Sorts.Pointer right a b code fits =
      by_read ground p built Claim claims b _ m.frame m.w m.w.turns q
      λ w reads_w. by_read ground p built Claim claims a _ m.frame m.w m.w.turns q
      λ v reads_v. by_tested ground p built Claim claims (updated m.w.memory op n (type_of_sort Sorts.Pointer) v (integer right) w) at _ m.frame m.w m.w.turns q
      λ u is. by_two ground p built Claim claims next follows m t u (update_code op n Sorts.Pointer right)
      (takes ground p built Claim claims next follows m t fits.slot fits.kinds.0) q ready a b v w reads_v reads_w (fits.operands 0 a (omega arith))
      (fits.operands 1 b (omega arith)) code (move_result ground p built m q ready Claim claims next follows (pointer_op op) n right t v w u is)
