-- Distances, updates, fields, elements and parts.
use Rattle.std.proofs.Common.{◌≡◌, ◌≢◌, ℕ, ◌+◌, ◌-◌, ◌*◌, ◌%◌, ◌^◌, ◌<◌, ◌≤◌, inl, inr, Bool, true, false, cond, eqb, ltb, List, [], ◌∷◌, ◌++◌, Some, Ok, Err, ℤ, pos, negsuc, ◌+ℤ◌}
use Rattle.std.proofs.Common.{slice_get, refl, ap, sym, ◌∙◌, subst, arith, append_assoc}
use Rattle.std.specs.Prelude.{◌*ℤ◌, ◌-ℤ◌, int_div, int_rem, FitsSigned}
use Rattle.std.specs.Ordering.{int_eq}
use Rattle.std.specs.Int.{w32, cast_signed, cast_unsigned}
use Rattle.std.proofs.lemmas.Bool.{cases_lt, eqb-true, ltb-true, ne_eqb}
use Rattle.std.proofs.lemmas.Int.{ints, quot_fits, fits_signed_from_abs}
use Rattle.lay_base.specs.declared.faults.UndefinedKind.{UndefinedKind}
use Rattle.lay_base.specs.declared.faults.UndefinedKind.TheVariants as Undefined
use Rattle.lay_base.specs.declared.place.Place.{Place}
use Rattle.c_types.specs.declared.ty.IntKind.{IntKind}
use Rattle.c_typed.specs.Conversions.{number_of}
use Rattle.c_typed.specs.Subscripts.{is_subscript}
use Rattle.c_meaning.specs.Expressions.{field_in, inside, part_in, part_of}
use Rattle.c_meaning.specs.declared.frame.Slot.TheVariants.{ByName as by_name}
use Rattle.c_meaning.specs.declared.frame.Spot.TheVariants.{Placed as placed}
use Rattle.memory_words.specs.declared.cell_words.pointer.Ptr.{Ptr}
use Rattle.memory_words.specs.declared.cell_words.pointer.Ptr.TheVariants as P
use Rattle.block_memory.specs.Blocks.{is_live, kind, size}
use Rattle.block_memory.specs.Pointers.{difference, elements_between}
use Rattle.block_memory.specs.Tested.{Tested}
use Rattle.block_memory.specs.RunWorlds.Doing.{is_undefined}
use Rattle.block_memory.specs.RunWorlds.Operators.{distance}
use Rattle.block_memory.specs.RunWorlds.Scalars.{as_value, as_word, pointer_of}
use Rattle.block_memory.specs.declared.run_worlds.value.Value.{Value}
use Rattle.block_memory.specs.declared.run_worlds.value.Value.TheVariants.{Word as word, Pointer as pointer}
use Rattle.rv_isa.specs.Arithmetic as R
use Rattle.rv_isa.specs.declared.instruction.Inst.{Inst}
use Rattle.rv_isa.specs.declared.instruction.Inst.TheVariants.{Add, Div, Sub}
use Rattle.rv_runtime.proofs.Steps.Operators.{is_div}
use Rattle.tac_ir.specs.Running.{Next, address, with_temp}
use Rattle.tac_ir.specs.declared.step.Operand.{Operand}
use Rattle.tac_ir.specs.declared.step.Step.TheVariants as S
use Rattle.rv_code.specs.Code.{both_code, give_code, steps_code}
use Rattle.rv_code.specs.Operators.{distance_code, offset_code, scale_code}
use Rattle.rv_code.specs.Words.{number_code}
use Rattle.rv_emit.specs.Maps.{Extent, Means, Points}
use Rattle.rv_emit.specs.Grounds.{Ground}
use Rattle.rv_emit.specs.Relation.{Program, Moment, Point, Ready, Here, IsBuilt}
use Rattle.rv_emit.specs.Claims.{Claims, AreClaims, Follows, state}
use Rattle.rv_emit.proofs.Making.{Makes, made_by_binary, made_by_number, made_then}
use Rattle.rv_emit.proofs.Moves.{Goal}
use Rattle.rv_emit.proofs.Numbers.{signed_cases}
use Rattle.rv_emit.proofs.Pointing.{Scaled, difference_made, offset_made, scale_made, stepped_means, sum_made}
use Rattle.rv_emit.proofs.Scaling.{IsSame, moved_by, same_number, same_scaled}
use Rattle.rv_emit.proofs.Values.{Reads, by_read, by_tested, extent_small}
use Rattle.rv_emit.proofs.Plain.{Result, Works, aim, by_one, by_two, takes}

-- ---- distances

quotient_small : (z : ℤ) → FitsSigned w32 z → cast_unsigned w32 z < 2 ^ 32
quotient_small (pos n) h = omega (arith, ints, h)
quotient_small (negsuc n) h = omega arith

-- the difference of two places of one block, as a signed number
apart_is : (a i j : ℕ) → a + i < 2 ^ 31 → a + j < 2 ^ 31 → cast_signed w32 (R.difference (a + i) (a + j)) ≡ pos i -ℤ pos j
apart_is a i j li lj = elim (cases_lt i j) [
  | inl lt ↦ signed_cases (λ z. z ≡ pos i -ℤ pos j) (R.difference (a + i) (a + j)) (λ low. absurd (omega arith)) (λ high. omega (arith, ints))
  | inr le ↦ signed_cases (λ z. z ≡ pos i -ℤ pos j) (R.difference (a + i) (a + j)) (λ low. omega (arith, ints)) (λ high. absurd (omega arith))
]

pub distance_made : (ground : Ground) (goal : Goal ground) (f : ℕ → ℕ) (x y : ℕ) → f 5 ≡ x → f 6 ≡ y → f 0 ≡ 0 → (n : ℕ) → n < 2 ^ 32
    → Makes ground goal (distance_code n) f (λ g. g 5 ≡ R.quotient (R.difference x y) n)
distance_made ground goal f x y five six nil n lt =
    let d = R.difference x y in
    let z = R.quotient d n in
    made_then ground goal (Sub 5 5 6 ∷ []) (number_code 6 n ++ Div 5 5 6 ∷ []) f (λ g. g 5 ≡ d) (λ g. g 5 ≡ z) (difference_made ground goal f x y five six)
    λ g is nil' stack. made_then ground goal (number_code 6 n) (Div 5 5 6 ∷ []) g (λ h. (h 5 ≡ d) × (h 6 ≡ n)) (λ h. h 5 ≡ z)
    (made_by_number ground goal 6 n g (λ h. (h 5 ≡ d) × (h 6 ≡ n)) (omega arith) (omega arith) (nil' ∙ nil) (is, omega arith))
    λ h both nil'' stack''. made_by_binary ground goal (Div 5 5 6) 5 5 6 R.quotient h (λ k. k 5 ≡ z) (is_div 5 5 6) (omega arith) (omega arith) (omega arith)
    (ap (λ (i : ℕ). R.quotient i (h 6)) both.0 ∙ ap (R.quotient d) both.1)

pub if_ok : {A : Type 0} (t : Bool) (r : Tested A) (kind : UndefinedKind) (z : A) → cond t r (Err kind) ≡ Ok z → (t ≡ true) × (r ≡ Ok z)
if_ok true r kind z e = (refl, e)
if_ok false r kind z e = absurd cc

same_ok : {A : Type 0} (r : Tested A) (x z : A) → r ≡ Ok x → r ≡ Ok z → x ≡ z
same_ok r x z e d = (let h : Ok x ≡ r = sym e in let k = h ∙ d in cc)

ok_number : (r : Tested ℤ) (u : Value) → as_value (λ z. word (cast_unsigned w32 z)) r ≡ Ok u → (z : ℤ) × (r ≡ Ok z) × (word (cast_unsigned w32 z) ≡ u)
ok_number (Ok z) u e = (z, refl, cc)
ok_number (Err kind) u e = absurd cc

module _ (ground : Ground) (p : Program) (built : IsBuilt ground p) (m : Moment) (q : Point) (ready : Ready ground p m q) where
  abbrev At : Ptr → ℕ → Type 0
  At r x = Points p.code p.places m.blocks r x

  -- the quotient of a difference
  quotient_is : (b i c j n x y : ℕ) (z : ℤ) → difference (P.Block b i) (P.Block c j) n ≡ Ok z → At (P.Block b i) x → At (P.Block c j) y → 0 < n → n < 2 ^ 31
      → (R.quotient (R.difference x y) n ≡ cast_unsigned w32 z) × (cast_unsigned w32 z < 2 ^ 32)
  quotient_is b i c j n x y z e h k low high =
      let d = if_ok (eqb b c) (elements_between j i n) Undefined.TwoBlocks z e in
      let l = if_ok (int_eq (int_rem (pos i -ℤ pos j) (pos n)) (pos 0)) (Ok (int_div (pos i -ℤ pos j) (pos n))) Undefined.Range z d.1 in
      let is : int_div (pos i -ℤ pos j) (pos n) ≡ z = (let w = l.1 in cc) in
      let ext : h.0 ≡ k.0 = (let w : Some h.0 ≡ Some k.0 = sym h.1 ∙ ap (slice_get m.blocks) (eqb-true b c d.0) ∙ k.1 in cc) in
      let y' : y ≡ h.0.at + j = k.3 ∙ ap (λ (v : Extent). v.at + j) (sym ext) in
      let small = extent_small ground p built m q ready b h.0 h.1 in
      let within : j ≤ h.0.size = subst (λ (v : Extent). j ≤ v.size) (sym ext) k.2 in
      let li : h.0.at + i < 2 ^ 31 = omega (arith, small.1, h.2) in
      let lj : h.0.at + j < 2 ^ 31 = omega (arith, small.1) in
      let s : cast_signed w32 (R.difference x y) ≡ pos i -ℤ pos j =
      ap (λ (v : ℕ). cast_signed w32 (R.difference v y)) h.3 ∙ ap (λ (v : ℕ). cast_signed w32 (R.difference (h.0.at + i) v)) y' ∙ apart_is h.0.at i j li lj in
      let t : cast_signed w32 n ≡ pos n = signed_cases (λ v. v ≡ pos n) n (λ lt. refl) (λ le. absurd (omega arith)) in
      let some : n ≢ 0 = λ (o : n ≡ 0). omega arith in
      let fits = quot_fits w32 (pos i -ℤ pos j) (pos n) (fits_signed_from_abs w32 (pos i -ℤ pos j) (omega (arith, ints))) (omega (arith, ints)) in (
        ap (λ (v : Bool). cond v (2 ^ 32 - 1) (cast_unsigned w32 (int_div (cast_signed w32 (R.difference x y)) (cast_signed w32 n)))) (ne_eqb n 0 some)
            ∙ ap (λ (v : ℤ). cast_unsigned w32 (int_div v (cast_signed w32 n))) s ∙ ap (λ (v : ℤ). cast_unsigned w32 (int_div (pos i -ℤ pos j) v)) t
            ∙ ap (cast_unsigned w32) is,
        quotient_small z (subst (FitsSigned w32) is fits),
      )

  distance_is : (n : ℕ) (v w u : Value) → distance n v w ≡ Ok u
      → (r s : Ptr) × (z : ℤ) × (v ≡ pointer r) × (w ≡ pointer s) × (difference r s n ≡ Ok z) × (word (cast_unsigned w32 z) ≡ u)
  distance_is n (pointer r) (pointer s) u e = (let h = ok_number (difference r s n) u e in (r, s, h.0, refl, refl, h.1, h.2))
  distance_is n (word i) w u e = absurd cc
  distance_is n (pointer r) (word i) u e = absurd cc

  pointers_apart : (r s : Ptr) (n x y : ℕ) (z : ℤ) → difference r s n ≡ Ok z → At r x → At s y → 0 < n → n < 2 ^ 31
      → (R.quotient (R.difference x y) n ≡ cast_unsigned w32 z) × (cast_unsigned w32 z < 2 ^ 32)
  pointers_apart (P.Block b i) (P.Block c j) n x y z e h k low high = quotient_is b i c j n x y z e h k low high
  pointers_apart P.Null s n x y z e h k low high = absurd cc
  pointers_apart (P.Function f) s n x y z e h k low high = absurd cc
  pointers_apart (P.Block b i) P.Null n x y z e h k low high = absurd cc
  pointers_apart (P.Block b i) (P.Function g) n x y z e h k low high = absurd cc

  -- ---- parts of blocks

  -- a byte of the block lies there
  inside_is : (b : ℕ) (by : ℤ) (s : Ptr) → inside m.w.memory b by ≡ Ok s → (at' : ℕ) × (by ≡ pos at') × (at' < size m.w.memory b) × (P.Block b at' ≡ s)
  inside_is b (pos at') s e =
      (let h = if_ok (ltb at' (size m.w.memory b)) (Ok (P.Block b at')) Undefined.Outside s e in (at', refl, ltb-true _ _ h.0, (let d = h.1 in cc)))
  inside_is b (negsuc n) s e = absurd cc

  pub field_means : (r s : Ptr) (by : ℤ) (d x : ℕ) → field_in m.w.memory r by ≡ Ok s → IsSame by d → At r x → At s ((x + d) % 2 ^ 32)
  field_means P.Null s by d x e same h = absurd cc
  field_means (P.Function f) s by d x e same h = absurd cc
  field_means (P.Block b at) s by d x e same h =
      let l = if_ok (is_live m.w.memory b) (inside m.w.memory b (pos at +ℤ by)) Undefined.Dead s e in
      let k = inside_is b (pos at +ℤ by) s l.1 in
      let placed' = ready.world.flat.placed b h.0 h.1 in
      let low = extent_small ground p built m q ready b h.0 h.1 in
      let top : h.0.at + k.0 < 2 ^ 32 = omega (arith, k.2, placed'.sized, low.1) in
      subst (λ i. At i ((x + d) % 2 ^ 32)) k.3 (h.0, h.1, omega (arith, k.2, placed'.sized), moved_by h.0.at at k.0 x d by same k.1 h.3 top)

  part_means : (r s : Ptr) (by : ℤ) (d x : ℕ) → part_in m.w.memory r by ≡ Ok s → IsSame by d → At r x → x < 2 ^ 32 → At s ((x + d) % 2 ^ 32)
  part_means P.Null s by d x e same h small = absurd cc
  part_means (P.Function f) s by d x e same h small = stepped_means ground p built m q ready (P.Function f) s by d x e same h small
  part_means (P.Block b at) s by d x e same h small = stepped_means ground p built m q ready (P.Block b at) s by d x e same h small

  -- a number is read as null, which has no parts
  pub at_pointer : (v : Value) (x : ℕ) → Means p.code p.places m.blocks v x → ((r : Ptr) → pointer_of v ≡ r → r ≢ P.Null → At r x)
  at_pointer (word n) x means r e ne = absurd (ne (sym e))
  at_pointer (pointer s) x means r e ne = subst (λ i. At i x) e means

  part_some : (r s : Ptr) (by : ℤ) → part_in m.w.memory r by ≡ Ok s → r ≢ P.Null
  part_some P.Null s by e = absurd cc
  part_some (P.Block b at) s by e = λ d. cc
  part_some (P.Function f) s by e = λ d. cc

  pub field_some : (r s : Ptr) (by : ℤ) → field_in m.w.memory r by ≡ Ok s → r ≢ P.Null
  field_some P.Null s by e = absurd cc
  field_some (P.Block b at) s by e = λ d. cc
  field_some (P.Function f) s by e = λ d. cc

  module _ (Claim : Claims) (claims : AreClaims ground p Claim) (next : Next) (follows : Follows ground p Claim next) where
    abbrev aim_at : (t : ℕ) → Value → Goal ground
    aim_at t u = aim ground p built Claim claims (next m.callers m.g m.more (with_temp t (by_name (Some u)) m.frame) m.w) m.w.turns q

    abbrev Gives : (t : ℕ) → Value → List Inst → (ℕ → ℕ) → Type 0
    Gives t u is f = Result ground p built Claim claims next follows m q t u is f

    pub distance_works : (t : ℕ) (at : Place) (n : ℕ) (a b : Operand) → Works ground p built Claim claims next m q (S.Distance t at n a b)
    distance_works t at n a b code fits =
        by_read ground p built Claim claims a _ m.frame m.w m.w.turns q
        λ v reads_v. by_read ground p built Claim claims b _ m.frame m.w m.w.turns q
        λ w reads_w. by_tested ground p built Claim claims (distance n v w) at _ m.frame m.w m.w.turns q
        λ u is. by_two ground p built Claim claims next follows m t u (distance_code n) (takes ground p built Claim claims next follows m t fits.slot fits.kinds.0)
        q ready a b v w reads_v reads_w (fits.operands 0 a (omega arith)) (fits.operands 1 b (omega arith)) code
        λ x y means_x means_y small_x small_y f five six nil.
        let h = distance_is n v w u is in
        let k = pointers_apart h.0 h.1 n x y h.2 h.5 (subst (λ i. Means p.code p.places m.blocks i x) h.3 means_x)
        (subst (λ i. Means p.code p.places m.blocks i y) h.4 means_y) fits.numbers.0 fits.numbers.1 in (
          R.quotient (R.difference x y) n,
          subst (λ i. Means p.code p.places m.blocks i (R.quotient (R.difference x y) n)) h.6 k.0,
          omega (arith, k.0, k.1),
          distance_made ground (aim_at t u) f x y five six nil n (omega (arith, fits.numbers)),
        )

    -- ---- parts, whose addresses are not told

    -- so many bytes further on, by two instructions or fewer
    part_result : (by t : ℕ) (v : Value) (s : Ptr) → part_in m.w.memory (pointer_of v) (pos by) ≡ Ok s
        → (x : ℕ) → Means p.code p.places m.blocks v x → x < 2 ^ 32 → (f : ℕ → ℕ) → f 5 ≡ x → f 0 ≡ 0 → Gives t (pointer s) (offset_code by) f
    part_result by t v s e x means small f value nil = (
      (x + by) % 2 ^ 32,
      part_means (pointer_of v) s (pos by) by x e (same_number by) (at_pointer v x means (pointer_of v) refl (part_some (pointer_of v) s (pos by) e)) small,
      omega arith,
      offset_made ground (aim_at t (pointer s)) f x (f 6) value refl by small nil,
    )

    pub part_works : (t : ℕ) (at : Place) (by : ℕ) (a : Operand) → Works ground p built Claim claims next m q (S.Part t at by a)
    part_works t at by a code fits =
        by_read ground p built Claim claims a _ m.frame m.w m.w.turns q
        λ v reads. by_tested ground p built Claim claims (part_in m.w.memory (pointer_of v) (pos by)) at _ m.frame m.w m.w.turns q
        λ s is. by_one ground p built Claim claims next follows m t (pointer s) (offset_code by) (takes ground p built Claim claims next follows m t fits.slot fits.kinds.0)
        q ready a v reads (fits.operands 0 a (omega arith)) code (part_result by t v s is)

    -- an element
    pub indexed_made : (goal : Goal ground) (n : ℕ) (f : ℕ → ℕ) (x y : ℕ) → f 5 ≡ x → f 6 ≡ y → f 0 ≡ 0 → y < 2 ^ 32
        → Makes ground goal (scale_code n ++ Add 5 5 6 ∷ []) f (λ g. g 5 ≡ R.sum x (y * n % 2 ^ 32))
    indexed_made goal n f x y five six nil small =
        made_then ground goal (scale_code n) (Add 5 5 6 ∷ []) f (Scaled ground goal f x y five six n) (λ g. g 5 ≡ R.sum x (y * n % 2 ^ 32))
        (scale_made ground goal f x y five six n small nil) (λ g is nil' stack. sum_made ground goal g x (y * n % 2 ^ 32) is.0 is.1)

    pub word_is : (w : Value) (i y : ℕ) → as_word w ≡ Ok i → Means p.code p.places m.blocks w y → y ≡ i
    word_is (word n) i y e h = (let d : n ≡ i = cc in h ∙ d)
    word_is (pointer r) i y e h = absurd cc

    element_result : (kind : IntKind) (n t i : ℕ) (v w : Value) (s : Ptr) → as_word w ≡ Ok i → part_in m.w.memory (pointer_of v) (number_of kind i *ℤ pos n) ≡ Ok s
        → (x y : ℕ) → Means p.code p.places m.blocks v x → Means p.code p.places m.blocks w y → x < 2 ^ 32 → y < 2 ^ 32
        → (f : ℕ → ℕ) → f 5 ≡ x → f 6 ≡ y → f 0 ≡ 0 → Gives t (pointer s) (scale_code n ++ Add 5 5 6 ∷ []) f
    element_result kind n t i v w s is_i e x y means_x means_y small_x small_y f five six nil =
        let same = word_is w i y is_i means_y in
        let d : IsSame (number_of kind i *ℤ pos n) (y * n % 2 ^ 32) =
        subst (λ j. IsSame (number_of kind j *ℤ pos n) (y * n % 2 ^ 32)) same (same_scaled kind y n small_y) in (
          R.sum x (y * n % 2 ^ 32),
          part_means (pointer_of v) s (number_of kind i *ℤ pos n) (y * n % 2 ^ 32) x e d
              (at_pointer v x means_x (pointer_of v) refl (part_some (pointer_of v) s (number_of kind i *ℤ pos n) e)) small_x,
          omega arith,
          indexed_made (aim_at t (pointer s)) n f x y five six nil small_y,
        )

    pub element_works : (t : ℕ) (at : Place) (count n : ℕ) (addressed : Bool) (kind : IntKind) (a b : Operand)
        → Works ground p built Claim claims next m q (S.Element t at count n addressed kind a b)
    element_works t at count n addressed kind a b code fits =
        by_read ground p built Claim claims a _ m.frame m.w m.w.turns q
        λ v reads_v. by_read ground p built Claim claims b _ m.frame m.w m.w.turns q
        λ w reads_w. by_tested ground p built Claim claims (as_word w) at _ m.frame m.w m.w.turns q
        λ i is_i. by_subscript v w i (is_subscript count addressed (number_of kind i)) reads_v reads_w is_i
      where
        by_subscript : (v w : Value) (i : ℕ) (inside' : Bool) → Reads m.frame a v → Reads m.frame b w → as_word w ≡ Ok i
            → Claim ((cond inside' (part_of at (number_of kind i *ℤ pos n) (placed (pointer_of v))) (is_undefined Undefined.Subscript at))
            (λ s f w. next m.callers m.g m.more (with_temp t (by_name (Some (address s))) f) w) m.frame m.w) m.w.turns (state q) q.before
        by_subscript v w i false reads_v reads_w is_i = claims.undefined Undefined.Subscript at m.w m.w.turns (state q) q.before
        by_subscript v w i true reads_v reads_w is_i =
            by_tested ground p built Claim claims (part_in m.w.memory (pointer_of v) (number_of kind i *ℤ pos n)) at _ m.frame m.w m.w.turns q
            λ s is. by_two ground p built Claim claims next follows m t (pointer s) (scale_code n ++ Add 5 5 6 ∷ [])
            (takes ground p built Claim claims next follows m t fits.slot fits.kinds.0) q ready a b v w reads_v reads_w (fits.operands 0 a (omega arith))
            (fits.operands 1 b (omega arith)) (subst (λ is. Here ground p q.pc ((both_code p.places m.g m.l a b ++ is) ++ steps_code p.places m.g m.l m.more))
            (sym (append_assoc (scale_code n) (Add 5 5 6 ∷ []) (give_code t 5))) code) (element_result kind n t i v w s is_i is)
