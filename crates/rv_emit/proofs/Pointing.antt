-- Pointers that are moved: sums, elements, fields and parts.
use Rattle.std.proofs.Common.{◌≡◌, ℕ, ◌+◌, ◌-◌, ◌*◌, ◌/◌, ◌%◌, ◌^◌, ◌<◌, ◌≤◌, Bool, true, false, cond, eqb, ltb, leb, [], ◌∷◌, ◌++◌, Some, Ok, Err, ℤ, pos, negsuc, ◌+ℤ◌}
use Rattle.std.proofs.Common.{refl, ap, sym, ◌∙◌, subst, arith}
use Rattle.std.specs.Prelude.{◌*ℤ◌, ◌-ℤ◌}
use Rattle.std.specs.Ordering.{int_eq}
use Rattle.std.proofs.lemmas.Bool.{cond_both, eqb-true, leb-true, ltb-true}
use Rattle.std.proofs.lemmas.Bool.Decides.{Decides-int_eq}
use Rattle.lay_base.specs.declared.faults.UndefinedKind.TheVariants as Undefined
use Rattle.lay_base.specs.declared.place.Place.{Place}
use Rattle.c_types.specs.declared.ty.IntKind.{IntKind}
use Rattle.c_typed.specs.Conversions.{number_of}
use Rattle.c_typed.specs.declared.operators.PointerOp.{PointerOp}
use Rattle.c_typed.specs.declared.operators.PointerOp.TheVariants as Op
use Rattle.memory_words.specs.declared.cell_words.pointer.Ptr.{Ptr}
use Rattle.memory_words.specs.declared.cell_words.pointer.Ptr.TheVariants as P
use Rattle.block_memory.specs.Blocks.{Memory, size}
use Rattle.block_memory.specs.Pointers.{stepped, within}
use Rattle.block_memory.specs.Tested.{Tested}
use Rattle.block_memory.specs.RunWorlds.Operators.{bytes_by, moved}
use Rattle.block_memory.specs.RunWorlds.Scalars.{as_value}
use Rattle.block_memory.specs.declared.run_worlds.value.Value.{Value}
use Rattle.block_memory.specs.declared.run_worlds.value.Value.TheVariants.{Word as word, Pointer as pointer}
use Rattle.c_meaning.specs.declared.frame.Slot.TheVariants.{ByName as by_name}
use Rattle.rv_isa.specs.Arithmetic as R
use Rattle.rv_isa.specs.Arithmetic.{extended, plus}
use Rattle.rv_isa.specs.declared.instruction.Inst.TheVariants.{Add, Addi, Mul, Slli, Sub}
use Rattle.rv_runtime.proofs.Steps.Operators.{is_add, is_addi, is_mul, is_slli, is_sub}
use Rattle.tac_ir.specs.Running.{Next, with_temp}
use Rattle.tac_ir.specs.declared.step.Operand.{Operand}
use Rattle.tac_ir.specs.declared.step.Step.TheVariants as S
use Rattle.rv_code.specs.Operators.{move_code, offset_code, pointer_code, scale_code}
use Rattle.rv_code.specs.Words.{number_code}
use Rattle.rv_emit.specs.Maps.{Means, Points}
use Rattle.rv_emit.specs.Grounds.{Ground}
use Rattle.rv_emit.specs.Relation.{Program, Moment, Point, Ready, IsBuilt}
use Rattle.rv_emit.specs.Claims.{Claims, AreClaims, Follows}
use Rattle.rv_emit.proofs.Making.{Makes, made_by_none, made_by_unary, made_by_binary, made_by_number, made_if, made_then}
use Rattle.rv_emit.proofs.Moves.{Goal, near_value}
use Rattle.rv_emit.proofs.Scaling.{IsSame, same_scaled, same_opposite, moved_by, none_by}
use Rattle.rv_emit.proofs.Values.{by_read, by_tested, extent_small}
use Rattle.rv_emit.proofs.Plain.{Works, Result, aim, by_two, takes}

-- ---- what instructions make

product_is : (y s : ℕ) → y * (s % 2 ^ 32) % 2 ^ 32 ≡ y * s % 2 ^ 32
product_is y s =
    let d : s ≡ s % 2 ^ 32 + 2 ^ 32 * (s / 2 ^ 32) = omega arith in
    let e : y * s ≡ y * (s % 2 ^ 32) + 2 ^ 32 * (y * (s / 2 ^ 32)) = ap (λ (i : ℕ). y * i) d ∙ spread y (s % 2 ^ 32) (s / 2 ^ 32) in
    same_rest (y * (s % 2 ^ 32)) (y * s) (y * (s / 2 ^ 32)) e
  where
    spread : (a b c : ℕ) → a * (b + 2 ^ 32 * c) ≡ a * b + 2 ^ 32 * (a * c)
    spread a b c = omega arith

    same_rest : (r n k : ℕ) → n ≡ r + 2 ^ 32 * k → r % 2 ^ 32 ≡ n % 2 ^ 32
    same_rest r n k e = omega arith

abbrev pub displaced : PointerOp → ℕ → ℕ → ℕ
displaced Op.Add = R.sum
displaced Op.Subtract = R.difference

module _ (ground : Ground) (goal : Goal ground) (f : ℕ → ℕ) (x y : ℕ) (five : f 5 ≡ x) (six : f 6 ≡ y) where
  pub sum_made : Makes ground goal (Add 5 5 6 ∷ []) f (λ g. g 5 ≡ R.sum x y)
  sum_made =
      made_by_binary ground goal (Add 5 5 6) 5 5 6 R.sum f (λ g. g 5 ≡ R.sum x y) (is_add 5 5 6) (omega arith) (omega arith) (omega arith)
      (ap (λ (i : ℕ). R.sum i (f 6)) five ∙ ap (R.sum x) six)

  pub difference_made : Makes ground goal (Sub 5 5 6 ∷ []) f (λ g. g 5 ≡ R.difference x y)
  difference_made =
      made_by_binary ground goal (Sub 5 5 6) 5 5 6 R.difference f (λ g. g 5 ≡ R.difference x y) (is_sub 5 5 6) (omega arith) (omega arith) (omega arith)
      (ap (λ (i : ℕ). R.difference i (f 6)) five ∙ ap (R.difference x) six)

  pointer_made : (op : PointerOp) → Makes ground goal (pointer_code op ∷ []) f (λ g. g 5 ≡ displaced op x y)
  pointer_made Op.Add = sum_made
  pointer_made Op.Subtract = difference_made

  abbrev pub Scaled : (size : ℕ) → (ℕ → ℕ) → Type 0
  Scaled size g = (g 5 ≡ x) × (g 6 ≡ y * size % 2 ^ 32)

  pub scale_made : (size : ℕ) → y < 2 ^ 32 → f 0 ≡ 0 → Makes ground goal (scale_code size) f (Scaled size)
  scale_made size small nil =
      made_if ground goal (eqb size 1) [] (cond (eqb size 4) (Slli 6 6 (pos 2) ∷ []) (number_code 7 size ++ Mul 6 6 7 ∷ [])) f (Scaled size)
      (λ e. made_by_none ground goal f (Scaled size) (five, six ∙ one (eqb-true size 1 e)))
      (λ e. made_if ground goal (eqb size 4) (Slli 6 6 (pos 2) ∷ []) (number_code 7 size ++ Mul 6 6 7 ∷ []) f (Scaled size)
      (λ d. made_by_unary ground goal (Slli 6 6 (pos 2)) 6 6 (λ i. R.shifted_left i (extended (pos 2))) f (Scaled size) (is_slli 6 6 (pos 2)) (omega arith)
      (omega arith) (five, ap (λ (i : ℕ). R.shifted_left i (extended (pos 2))) six ∙ four (eqb-true size 4 d)))
      (λ d. made_then ground goal (number_code 7 size) (Mul 6 6 7 ∷ []) f (λ g. (g 5 ≡ x) × (g 6 ≡ y) × (g 7 ≡ size % 2 ^ 32)) (Scaled size)
      (made_by_number ground goal 7 size f (λ g. (g 5 ≡ x) × (g 6 ≡ y) × (g 7 ≡ size % 2 ^ 32)) (omega arith) (omega arith) nil (five, six, refl))
      (λ g is nil' stack. made_by_binary ground goal (Mul 6 6 7) 6 6 7 R.product g (Scaled size) (is_mul 6 6 7) (omega arith) (omega arith) (omega arith)
      (is.0, ap (λ (i : ℕ). R.product i (g 7)) is.1 ∙ ap (R.product y) is.2 ∙ product_is y size))))
    where
      one : size ≡ 1 → y ≡ y * size % 2 ^ 32
      one e = (let d : y ≡ y * 1 % 2 ^ 32 = omega arith in d ∙ ap (λ (i : ℕ). y * i % 2 ^ 32) (sym e))

      four : size ≡ 4 → R.shifted_left y (extended (pos 2)) ≡ y * size % 2 ^ 32
      four e = (let d : R.shifted_left y (extended (pos 2)) ≡ y * 4 % 2 ^ 32 = omega arith in d ∙ ap (λ (i : ℕ). y * i % 2 ^ 32) (sym e))

  pub offset_made : (by : ℕ) → x < 2 ^ 32 → f 0 ≡ 0 → Makes ground goal (offset_code by) f (λ g. g 5 ≡ (x + by) % 2 ^ 32)
  offset_made by small nil =
      let z = (x + by) % 2 ^ 32 in
      made_if ground goal (eqb by 0) [] (cond (ltb by 2048) (Addi 5 5 (pos by) ∷ []) (number_code 6 by ++ Add 5 5 6 ∷ [])) f (λ g. g 5 ≡ z)
      (λ e. let d = eqb-true by 0 e in made_by_none ground goal f (λ g. g 5 ≡ z) (omega arith))
      (λ e. made_if ground goal (ltb by 2048) (Addi 5 5 (pos by) ∷ []) (number_code 6 by ++ Add 5 5 6 ∷ []) f (λ g. g 5 ≡ z)
      (λ d. made_by_unary ground goal (Addi 5 5 (pos by)) 5 5 (λ i. plus i (pos by)) f (λ g. g 5 ≡ z) (is_addi 5 5 (pos by)) (omega arith) (omega arith)
      (ap (λ (i : ℕ). plus i (pos by)) five ∙ near_value by x (ltb-true by 2048 d)))
      (λ d. made_then ground goal (number_code 6 by) (Add 5 5 6 ∷ []) f (λ g. (g 5 ≡ x) × (g 6 ≡ by % 2 ^ 32)) (λ g. g 5 ≡ z)
      (made_by_number ground goal 6 by f (λ g. (g 5 ≡ x) × (g 6 ≡ by % 2 ^ 32)) (omega arith) (omega arith) nil (five, refl))
      (λ g is nil' stack. made_by_binary ground goal (Add 5 5 6) 5 5 6 R.sum g (λ h. h 5 ≡ z) (is_add 5 5 6) (omega arith) (omega arith) (omega arith)
      (ap (λ (i : ℕ). R.sum i (g 6)) is.0 ∙ ap (R.sum x) is.1 ∙ (let r : R.sum x (by % 2 ^ 32) ≡ z = omega arith in r)))))

pub move_made : (ground : Ground) (goal : Goal ground) (f : ℕ → ℕ) (x y : ℕ) → f 5 ≡ x → f 6 ≡ y → y < 2 ^ 32 → f 0 ≡ 0 → (op : PointerOp) (size : ℕ)
    → Makes ground goal (move_code op size) f (λ g. g 5 ≡ displaced op x (y * size % 2 ^ 32))
move_made ground goal f x y five six small nil op size =
    made_then ground goal (scale_code size) (pointer_code op ∷ []) f (Scaled ground goal f x y five six size) (λ g. g 5 ≡ displaced op x (y * size % 2 ^ 32))
    (scale_made ground goal f x y five six size small nil)
    (λ g is nil' stack. pointer_made ground goal g x (y * size % 2 ^ 32) is.0 is.1 op)

-- ---- where pointers lead

-- within a block, or one past its end
within_is : (m : Memory) (b : ℕ) (by : ℤ) (s : Ptr) → within m b by ≡ Ok s → (at' : ℕ) × (by ≡ pos at') × (at' ≤ size m b) × (P.Block b at' ≡ s)
within_is m b (pos at') s e = (let h = inside (leb at' (size m b)) refl e in (at', refl, h.0, h.1))
  where
    inside : (t : Bool) → leb at' (size m b) ≡ t → cond t (Ok (P.Block b at')) (Err Undefined.Range) ≡ Ok s → (at' ≤ size m b) × (P.Block b at' ≡ s)
    inside true d e = (leb-true at' (size m b) d, cc)
    inside false d e = absurd cc
within_is m b (negsuc n) s e = absurd cc

null_is : (by : ℤ) (s : Ptr) → cond (int_eq by (pos 0)) (Ok P.Null) (Err Undefined.Range) ≡ Ok s → (by ≡ pos 0) × (P.Null ≡ s)
null_is by s e =
    cond_both (int_eq by (pos 0)) (Ok P.Null) (Err Undefined.Range) (λ (r : Tested Ptr). r ≡ Ok s → (by ≡ pos 0) × (P.Null ≡ s))
    (λ t d. ((Decides-int_eq by (pos 0)).0 t, cc)) (λ t d. absurd cc) e

module _ (ground : Ground) (p : Program) (built : IsBuilt ground p) (m : Moment) (q : Point) (ready : Ready ground p m q) where
  abbrev At : Ptr → ℕ → Type 0
  At r x = Points p.code p.places m.blocks r x

  pub stepped_means : (r s : Ptr) (by : ℤ) (d x : ℕ) → stepped m.w.memory r by ≡ Ok s → IsSame by d → At r x → x < 2 ^ 32 → At s ((x + d) % 2 ^ 32)
  stepped_means P.Null s by d x e same h small =
      let k = null_is by s e in
      let z = none_by d by same k.0 in
      let w : (x + d) % 2 ^ 32 ≡ 0 = omega (arith, h) in
      subst (λ i. At i ((x + d) % 2 ^ 32)) k.1 w
  stepped_means (P.Block b at) s by d x e same h small =
      let k = within_is m.w.memory b (pos at +ℤ by) s e in
      let placed = ready.world.flat.placed b h.0 h.1 in
      let low = extent_small ground p built m q ready b h.0 h.1 in
      let top : h.0.at + k.0 < 2 ^ 32 = omega (arith, k.2, placed.sized, low.1) in
      subst (λ i. At i ((x + d) % 2 ^ 32)) k.3 (h.0, h.1, omega (arith, k.2, placed.sized), moved_by h.0.at at k.0 x d by same k.1 h.3 top)
  stepped_means (P.Function f) s by d x e same h small = absurd cc

  moved_is : (op : PointerOp) (n : ℕ) (kind : IntKind) (v w u : Value) → moved m.w.memory op n kind v w ≡ Ok u
      → (r s : Ptr) × (i : ℕ) × (v ≡ pointer r) × (w ≡ word i) × (stepped m.w.memory r (bytes_by op (number_of kind i) n) ≡ Ok s) × (pointer s ≡ u)
  moved_is op n kind (pointer r) (word i) u e = by_step (stepped m.w.memory r (bytes_by op (number_of kind i) n)) refl e
    where
      by_step : (t : Tested Ptr) → stepped m.w.memory r (bytes_by op (number_of kind i) n) ≡ t → as_value pointer t ≡ Ok u
          → (r' s : Ptr) × (i' : ℕ) × (pointer r ≡ pointer r') × (word i ≡ word i') × (stepped m.w.memory r' (bytes_by op (number_of kind i') n) ≡ Ok s) × (pointer s ≡ u)
      by_step (Ok s) d e = (r, s, i, refl, refl, d, cc)
      by_step (Err kind) d e = absurd cc
  moved_is op n kind (word i) w u e = absurd cc
  moved_is op n kind (pointer r) (pointer s) u e = absurd cc

  displaced_means : (op : PointerOp) (r s : Ptr) (i n x : ℕ) (kind : IntKind) → stepped m.w.memory r (bytes_by op (number_of kind i) n) ≡ Ok s → i < 2 ^ 32 → At r x
      → x < 2 ^ 32 → At s (displaced op x (i * n % 2 ^ 32))
  displaced_means Op.Add r s i n x kind e lt h small = stepped_means r s (number_of kind i *ℤ pos n) (i * n % 2 ^ 32) x e (same_scaled kind i n lt) h small
  displaced_means Op.Subtract r s i n x kind e lt h small =
      stepped_means r s (pos 0 -ℤ number_of kind i *ℤ pos n) (2 ^ 32 - i * n % 2 ^ 32) x e
      (same_opposite (number_of kind i *ℤ pos n) (i * n % 2 ^ 32) (omega arith) (same_scaled kind i n lt)) h small

  displaced_small : (op : PointerOp) (x y : ℕ) → displaced op x y < 2 ^ 32
  displaced_small Op.Add x y = omega arith
  displaced_small Op.Subtract x y = omega arith

  module _ (Claim : Claims) (claims : AreClaims ground p Claim) (next : Next) (follows : Follows ground p Claim next) where
    abbrev aim_at : (t : ℕ) → Value → Goal ground
    aim_at t u = aim ground p built Claim claims (next m.callers m.g m.more (with_temp t (by_name (Some u)) m.frame) m.w) m.w.turns q

    -- what a move gives, of a pointer in x5 and a number in x6
    pub move_result : (op : PointerOp) (n : ℕ) (kind : IntKind) (t : ℕ) (v w u : Value) → moved m.w.memory op n kind v w ≡ Ok u
        → (x y : ℕ) → Means p.code p.places m.blocks v x → Means p.code p.places m.blocks w y → x < 2 ^ 32 → y < 2 ^ 32
        → (f : ℕ → ℕ) → f 5 ≡ x → f 6 ≡ y → f 0 ≡ 0 → Result ground p built Claim claims next follows m q t u (move_code op n) f
    move_result op n kind t v w u e x y means_x means_y small_x small_y f five six nil =
        let h = moved_is op n kind v w u e in
        let at_x : At h.0 x = subst (λ i. Means p.code p.places m.blocks i x) h.3 means_x in
        let is_y : y ≡ h.2 = subst (λ i. Means p.code p.places m.blocks i y) h.4 means_y in
        let lands : At h.1 (displaced op x (h.2 * n % 2 ^ 32)) = displaced_means op h.0 h.1 h.2 n x kind h.5 (omega arith) at_x small_x in
        let same : displaced op x (h.2 * n % 2 ^ 32) ≡ displaced op x (y * n % 2 ^ 32) = ap (λ (i : ℕ). displaced op x (i * n % 2 ^ 32)) (sym is_y) in (
          displaced op x (y * n % 2 ^ 32),
          subst (λ i. Means p.code p.places m.blocks i (displaced op x (y * n % 2 ^ 32))) h.6 (subst (At h.1) same lands),
          displaced_small op x (y * n % 2 ^ 32),
          move_made ground (aim_at t u) f x y five six small_y nil op n,
        )

    pub move_works : (t : ℕ) (at : Place) (op : PointerOp) (n : ℕ) (left : Bool) (kind : IntKind) (a b : Operand)
        → Works ground p built Claim claims next m q (S.Move t at op n left kind a b)
    move_works t at op n true kind a b code fits =
        by_read ground p built Claim claims a _ m.frame m.w m.w.turns q
        λ v reads_v. by_read ground p built Claim claims b _ m.frame m.w m.w.turns q
        λ w reads_w. by_tested ground p built Claim claims (moved m.w.memory op n kind v w) at _ m.frame m.w m.w.turns q
        λ u is. by_two ground p built Claim claims next follows m t u (move_code op n) (takes ground p built Claim claims next follows m t fits.slot fits.kinds.0)
        q ready a b v w reads_v reads_w (fits.operands 0 a (omega arith)) (fits.operands 1 b (omega arith)) code (move_result op n kind t v w u is)
    move_works t at op n false kind a b code fits =
        by_read ground p built Claim claims a _ m.frame m.w m.w.turns q
        λ v reads_v. by_read ground p built Claim claims b _ m.frame m.w m.w.turns q
        λ w reads_w. by_tested ground p built Claim claims (moved m.w.memory op n kind w v) at _ m.frame m.w m.w.turns q
        λ u is. by_two ground p built Claim claims next follows m t u (move_code op n) (takes ground p built Claim claims next follows m t fits.slot fits.kinds.0)
        q ready b a w v reads_w reads_v (fits.operands 1 b (omega arith)) (fits.operands 0 a (omega arith)) code (move_result op n kind t w v u is)
