-- Comparisons, of numbers and of pointers.
use Rattle.std.proofs.Common.{◌≡◌, ℕ, zero, suc, ◌+◌, ◌^◌, ◌<◌, ◌≤◌, inl, inr, Bool, true, false, not, cond, eqb, ltb, ◌&&◌, List, [], ◌∷◌, length, Some, Ok, Err, pos}
use Rattle.std.proofs.Common.{slice_get, slice_index, refl, ap, sym, ◌∙◌, subst, arith, bit_xor}
use Rattle.std.proofs.lemmas.Bool.{cases_eq, cases_lt, eqb-true, ne_eqb, eq-eqb, ltb-true, lt-ltb, le-ltb, and_parts}
use Rattle.lay_base.specs.declared.faults.UndefinedKind.{UndefinedKind}
use Rattle.lay_base.specs.declared.faults.UndefinedKind.TheVariants as Undefined
use Rattle.lay_base.specs.declared.place.Place.{Place}
use Rattle.c_types.specs.declared.ty.IntKind.{IntKind}
use Rattle.c_typed.specs.Arithmetic.{truth, holds}
use Rattle.c_typed.specs.Conversions.{is_signed}
use Rattle.c_typed.specs.declared.operators.CompareOp.{CompareOp}
use Rattle.c_typed.specs.declared.operators.CompareOp.TheVariants as C
use Rattle.memory_words.specs.declared.cell_words.cell.Cell.{Cell}
use Rattle.memory_words.specs.declared.cell_words.pointer.Ptr.{Ptr}
use Rattle.memory_words.specs.declared.cell_words.pointer.Ptr.TheVariants as P
use Rattle.block_memory.specs.Blocks.{Memory, Contents, living, ended, block, cells_in, is_live, lives_in, size, size_in}
use Rattle.block_memory.specs.Pointers.{are_equal, are_equal_in, is_less, is_inside}
use Rattle.block_memory.specs.Tested.{Tested}
use Rattle.block_memory.specs.RunWorlds.Operators.{compared, flag, opposite, pointers_compare}
use Rattle.block_memory.specs.RunWorlds.Scalars.{as_value}
use Rattle.block_memory.specs.declared.run_worlds.value.Value.{Value}
use Rattle.block_memory.specs.declared.run_worlds.value.Value.TheVariants.{Word as word, Pointer as pointer}
use Rattle.c_meaning.specs.declared.frame.Slot.TheVariants.{ByName as by_name}
use Rattle.rv_isa.specs.Arithmetic as R
use Rattle.rv_isa.specs.Arithmetic.{one_if, extended}
use Rattle.rv_isa.specs.declared.instruction.Inst.{Inst}
use Rattle.rv_isa.specs.declared.instruction.Inst.TheVariants.{Slt, Sltiu, Sltu, Sub, Xori}
use Rattle.rv_runtime.proofs.Steps.Operators.{IsBinary, is_slt, is_sltiu, is_sltu, is_sub, is_xori}
use Rattle.tac_ir.specs.Running.{Next, with_temp}
use Rattle.tac_ir.specs.declared.step.Operand.{Operand}
use Rattle.tac_ir.specs.declared.step.Step.TheVariants as S
use Rattle.rv_code.specs.Operators.{compare_code, less_code}
use Rattle.rv_emit.specs.Maps.{Extent, Means, Points, cell_of}
use Rattle.rv_emit.specs.Grounds.{Ground}
use Rattle.rv_emit.specs.Relation.{Program, Moment, Point, Ready, IsBuilt}
use Rattle.rv_emit.specs.Claims.{Claims, AreClaims, Follows}
use Rattle.rv_emit.proofs.Making.{Makes, made_by_unary, made_by_binary, made_then}
use Rattle.rv_emit.proofs.Moves.{Goal}
use Rattle.rv_emit.proofs.Numbers.{below, below_small, equal_is, less_is, opposite_is, unequal_is}
use Rattle.rv_emit.proofs.Values.{by_read, by_tested, extent_small, entry_small}
use Rattle.rv_emit.proofs.Plain.{Works, aim, by_two, takes}

-- ---- the comparison of two words

abbrev pub compares : CompareOp → (signed : Bool) → ℕ → ℕ → Bool
compares C.Equal signed x y = eqb x y
compares C.NotEqual signed x y = not (eqb x y)
compares C.Less signed x y = below signed x y
compares C.Greater signed x y = below signed y x
compares C.LessEqual signed x y = not (below signed y x)
compares C.GreaterEqual signed x y = not (below signed x y)

less_instruction : (kind : IntKind) (a b : ℕ) → IsBinary (less_code kind a b) 5 a b (λ x y. one_if (below (is_signed kind) x y))
less_instruction kind a b = by_sort (is_signed kind)
  where
    by_sort : (signed : Bool) → IsBinary (cond signed (Slt 5 a b) (Sltu 5 a b)) 5 a b (λ x y. one_if (below signed x y))
    by_sort true = is_slt 5 a b
    by_sort false = is_sltu 5 a b

module _ (ground : Ground) (goal : Goal ground) (f : ℕ → ℕ) (x y : ℕ) (five : f 5 ≡ x) (six : f 6 ≡ y) (small_x : x < 2 ^ 32) (small_y : y < 2 ^ 32) (nil : f 0 ≡ 0) where
  abbrev In5 : (z : ℕ) → (ℕ → ℕ) → Type 0
  In5 z g = g 5 ≡ z

  difference_made : Makes ground goal (Sub 5 5 6 ∷ []) f (In5 (R.difference x y))
  difference_made =
      made_by_binary ground goal (Sub 5 5 6) 5 5 6 R.difference f (In5 (R.difference x y)) (is_sub 5 5 6) (omega arith) (omega arith) (omega arith)
      (ap (λ (i : ℕ). R.difference i (f 6)) five ∙ ap (R.difference x) six)

  less_made : (kind : IntKind) → Makes ground goal (less_code kind 5 6 ∷ []) f (In5 (truth (below (is_signed kind) x y)))
  less_made kind =
      let op = λ (i j : ℕ). one_if (below (is_signed kind) i j) in
      made_by_binary ground goal (less_code kind 5 6) 5 5 6 op f (In5 (truth (below (is_signed kind) x y))) (less_instruction kind 5 6) (omega arith) (omega arith)
      (omega arith) (ap (λ (i : ℕ). op i (f 6)) five ∙ ap (op x) six)

  greater_made : (kind : IntKind) → Makes ground goal (less_code kind 6 5 ∷ []) f (In5 (truth (below (is_signed kind) y x)))
  greater_made kind =
      let op = λ (i j : ℕ). one_if (below (is_signed kind) i j) in
      made_by_binary ground goal (less_code kind 6 5) 5 6 5 op f (In5 (truth (below (is_signed kind) y x))) (less_instruction kind 6 5) (omega arith) (omega arith)
      (omega arith) (ap (λ (i : ℕ). op i (f 5)) six ∙ ap (op y) five)

  -- the opposite of what an instruction makes
  opposite_made : (i : Inst) (t : Bool) → Makes ground goal (i ∷ []) f (In5 (truth t)) → Makes ground goal (i ∷ Xori 5 5 (pos 1) ∷ []) f (In5 (truth (not t)))
  opposite_made i t makes =
      made_then ground goal (i ∷ []) (Xori 5 5 (pos 1) ∷ []) f (In5 (truth t)) (In5 (truth (not t))) makes
      λ g is nil stack. made_by_unary ground goal (Xori 5 5 (pos 1)) 5 5 (λ k. bit_xor k (extended (pos 1))) g (In5 (truth (not t))) (is_xori 5 5 (pos 1))
      (omega arith) (omega arith) (ap (λ (k : ℕ). bit_xor k (extended (pos 1))) is ∙ opposite_is t)

  pub compare_made : (op : CompareOp) (kind : IntKind) → Makes ground goal (compare_code op kind) f (In5 (truth (compares op (is_signed kind) x y)))
  compare_made C.Equal kind =
      let z = truth (eqb x y) in
      made_then ground goal (Sub 5 5 6 ∷ []) (Sltiu 5 5 (pos 1) ∷ []) f (In5 (R.difference x y)) (In5 z) difference_made
      λ g is nil' stack. made_by_unary ground goal (Sltiu 5 5 (pos 1)) 5 5 (λ i. one_if (ltb i (extended (pos 1)))) g (In5 z) (is_sltiu 5 5 (pos 1)) (omega arith)
      (omega arith) (ap (λ (i : ℕ). one_if (ltb i (extended (pos 1)))) is ∙ equal_is x y small_x small_y)
  compare_made C.NotEqual kind =
      let z = truth (not (eqb x y)) in
      made_then ground goal (Sub 5 5 6 ∷ []) (Sltu 5 0 5 ∷ []) f (In5 (R.difference x y)) (In5 z) difference_made
      λ g is nil' stack. made_by_binary ground goal (Sltu 5 0 5) 5 0 5 (λ i j. one_if (ltb i j)) g (In5 z) (is_sltu 5 0 5) (omega arith) (omega arith) (omega arith)
      (ap (λ (i : ℕ). one_if (ltb i (g 5))) (nil' ∙ nil) ∙ ap (λ (i : ℕ). one_if (ltb 0 i)) is ∙ unequal_is x y small_x small_y)
  compare_made C.Less kind = less_made kind
  compare_made C.Greater kind = greater_made kind
  compare_made C.LessEqual kind = opposite_made (less_code kind 6 5) (below (is_signed kind) y x) (greater_made kind)
  compare_made C.GreaterEqual kind = opposite_made (less_code kind 5 6) (below (is_signed kind) x y) (less_made kind)

-- ---- it is that of the values

-- of numbers
holds_is : (op : CompareOp) (kind : IntKind) (v w : ℕ) → holds op kind v w ≡ compares op (is_signed kind) v w
holds_is C.Equal kind v w = refl
holds_is C.NotEqual kind v w = refl
holds_is C.Less kind v w = less_is kind v w
holds_is C.Greater kind v w = less_is kind w v
holds_is C.LessEqual kind v w = ap not (less_is kind w v)
holds_is C.GreaterEqual kind v w = ap not (less_is kind v w)

-- a byte of a live block has its cell
cell_there : (m : Memory) (b at : ℕ) → is_live m b ≡ true → at < size m b → (c : Cell) × (cell_of m b at ≡ Some c)
cell_there m b at lives lt = by_contents (block m b).contents lives lt
  where
    by_cells : (all : List Cell) (i : ℕ) → i < length all → (c : Cell) × (slice_get all i ≡ Some c)
    by_cells [] i lt = absurd (omega arith)
    by_cells (c ∷ all) zero lt = (c, refl)
    by_cells (c ∷ all) (suc i) lt = by_cells all i (omega arith)

    by_contents : (k : Contents) → lives_in k ≡ true → at < size_in k → (c : Cell) × (slice_get (cells_in k) at ≡ Some c)
    by_contents (living all) l lt = by_cells all at lt
    by_contents (ended n) l lt = absurd cc

if_ok : {A : Type 0} (t : Bool) (r : Tested A) (kind : UndefinedKind) (z : A) → cond t r (Err kind) ≡ Ok z → (t ≡ true) × (r ≡ Ok z)
if_ok true r kind z e = (refl, e)
if_ok false r kind z e = absurd cc

opposite_ok : (r : Tested Bool) (z : Bool) → opposite r ≡ Ok z → (t : Bool) × (r ≡ Ok t) × (not t ≡ z)
opposite_ok (Ok t) z e = (t, refl, cc)
opposite_ok (Err kind) z e = absurd cc

abbrev fails : Tested Bool
fails = Ok false

eqb_shifted : (a i j : ℕ) → eqb (a + i) (a + j) ≡ eqb i j
eqb_shifted a i j = elim (cases_eq i j) [
  | inl e ↦ eq-eqb (a + i) (a + j) (omega arith) ∙ sym (eq-eqb i j e)
  | inr ne ↦ ne_eqb (a + i) (a + j) (λ d. ne (omega arith)) ∙ sym (ne_eqb i j ne)
]

ltb_shifted : (a i j : ℕ) → ltb (a + i) (a + j) ≡ ltb i j
ltb_shifted a i j = elim (cases_lt i j) [
  | inl lt ↦ lt-ltb (a + i) (a + j) (omega arith) ∙ sym (lt-ltb i j lt)
  | inr le ↦ le-ltb (a + i) (a + j) (omega arith) ∙ sym (le-ltb i j le)
]

module _ (ground : Ground) (p : Program) (built : IsBuilt ground p) (m : Moment) (q : Point) (ready : Ready ground p m q) where
  abbrev At : Ptr → ℕ → Type 0
  At r x = Points p.code p.places m.blocks r x

  -- a byte in a live block is owned by it
  owned_at : (b at x : ℕ) → is_live m.w.memory b ≡ true → at < size m.w.memory b → At (P.Block b at) x → m.owner x ≡ Some b
  owned_at b at x lives lt points =
      let c = cell_there m.w.memory b at lives lt in
      ap m.owner points.3 ∙ ready.world.flat.owned b at points.0 c.0 points.1 c.1

  same_extent : (b : ℕ) (e d : Extent) → slice_get m.blocks b ≡ Some e → slice_get m.blocks b ≡ Some d → e ≡ d
  same_extent b e d h k = (let z : Some e ≡ Some d = sym h ∙ k in cc)

  blocks_equal : (b at c other x y : ℕ) (z : Bool) → are_equal_in m.w.memory b at c other ≡ Ok z → At (P.Block b at) x → At (P.Block c other) y → eqb x y ≡ z
  blocks_equal b at c other x y z e h k =
      let live = if_ok (is_live m.w.memory b && is_live m.w.memory c) _ Undefined.Dead z e in
      let both = and_parts (is_live m.w.memory b) (is_live m.w.memory c) live.0 in
      elim (cases_eq b c) [
        | inl same ↦
            (let d : Ok (eqb at other) ≡ Ok z = sym (ap (λ (t : Bool). cond t (Ok (eqb at other)) (cond (is_inside m.w.memory b at && is_inside m.w.memory c other) (Ok false) (Err Undefined.Edge)))
            (eq-eqb b c same)) ∙ live.1 in
            let ext = same_extent b h.0 k.0 h.1 (ap (slice_get m.blocks) same ∙ k.1) in
            let y' : y ≡ h.0.at + other = k.3 ∙ ap (λ (i : Extent). i.at + other) (sym ext) in
            ap (λ (i : ℕ). eqb i y) h.3 ∙ ap (eqb (h.0.at + at)) y' ∙ eqb_shifted h.0.at at other ∙ (let w : eqb at other ≡ z = cc in w))
        | inr ne ↦
            (let d = sym (ap (λ (t : Bool). cond t (Ok (eqb at other)) (cond (is_inside m.w.memory b at && is_inside m.w.memory c other) (Ok false) (Err Undefined.Edge)))
            (ne_eqb b c ne)) ∙ live.1 in
            let inside = if_ok (is_inside m.w.memory b at && is_inside m.w.memory c other) (Ok false) Undefined.Edge z d in
            let parts = and_parts (is_inside m.w.memory b at) (is_inside m.w.memory c other) inside.0 in
            let own_x = owned_at b at x both.0 (ltb-true _ _ parts.0) h in
            let own_y = owned_at c other y both.1 (ltb-true _ _ parts.1) k in
            ne_eqb x y (λ (s : x ≡ y). clash own_x own_y s ne) ∙ (let w : false ≡ z = cc in w))
      ]
    where
      clash : m.owner x ≡ Some b → m.owner y ≡ Some c → x ≡ y → (b ≡ c → ⊥) → ⊥
      clash ox oy s ne = (let d : Some b ≡ Some c = sym ox ∙ ap m.owner s ∙ oy in ne cc)

  functions_equal : (f g x y : ℕ) → At (P.Function f) x → At (P.Function g) y → eqb x y ≡ eqb f g
  functions_equal f g x y h k = elim (cases_eq f g) [
    | inl e ↦ eq-eqb x y (h.1 ∙ ap (slice_index p.places.entries) e ∙ sym k.1) ∙ sym (eq-eqb f g e)
    | inr ne ↦ ne_eqb x y (λ d. ne (built.apart f g h.0 k.0 (sym h.1 ∙ d ∙ k.1))) ∙ sym (ne_eqb f g ne)
  ]

  block_low : (b at x : ℕ) → At (P.Block b at) x → 0x08000100 ≤ x
  block_low b at x h = (let e = extent_small ground p built m q ready b h.0 h.1 in omega (arith, e.0, h.3))

  block_high : (b at x : ℕ) → At (P.Block b at) x → x < 2 ^ 31
  block_high b at x h = (let e = extent_small ground p built m q ready b h.0 h.1 in omega (arith, e.1, h.2, h.3))

  function_low : (f x : ℕ) → At (P.Function f) x → (0 < x) × (x < 0x08000000)
  function_low f x h = (let e = entry_small ground p built f h.0 in (omega (arith, e.0, h.1), omega (arith, e.1, h.1)))

  differ : (x y : ℕ) (z : Bool) → (x ≡ y → ⊥) → fails ≡ Ok z → eqb x y ≡ z
  differ x y z ne e = ne_eqb x y ne ∙ (let w : false ≡ z = cc in w)

  equal_pointers : (r s : Ptr) (x y : ℕ) (z : Bool) → are_equal m.w.memory r s ≡ Ok z → At r x → At s y → eqb x y ≡ z
  equal_pointers P.Null P.Null x y z e h k = eq-eqb x y (h ∙ sym k) ∙ (let w : true ≡ z = cc in w)
  equal_pointers (P.Block b at) (P.Block c other) x y z e h k = blocks_equal b at c other x y z e h k
  equal_pointers (P.Function f) (P.Function g) x y z e h k = functions_equal f g x y h k ∙ (let w : eqb f g ≡ z = cc in w)
  equal_pointers P.Null (P.Block c other) x y z e h k = differ x y z (λ d. let l = block_low c other y k in omega arith) e
  equal_pointers P.Null (P.Function g) x y z e h k = differ x y z (λ d. let l = function_low g y k in omega (arith, l.0)) e
  equal_pointers (P.Block b at) P.Null x y z e h k = differ x y z (λ d. let l = block_low b at x h in omega arith) e
  equal_pointers (P.Block b at) (P.Function g) x y z e h k =
      differ x y z (λ d. let l = block_low b at x h in let n = function_low g y k in omega (arith, n.1)) e
  equal_pointers (P.Function f) P.Null x y z e h k = differ x y z (λ d. let l = function_low f x h in omega (arith, l.0)) e
  equal_pointers (P.Function f) (P.Block c other) x y z e h k =
      differ x y z (λ d. let l = block_low c other y k in let n = function_low f x h in omega (arith, n.1)) e

  less_pointers : (signed : Bool) (r s : Ptr) (x y : ℕ) (z : Bool) → is_less m.w.memory r s ≡ Ok z → At r x → At s y → below signed x y ≡ z
  less_pointers signed (P.Block b at) (P.Block c other) x y z e h k =
      let d = if_ok (eqb b c) (cond (is_live m.w.memory b) (Ok (ltb at other)) (Err Undefined.Dead)) Undefined.TwoBlocks z e in
      let l = if_ok (is_live m.w.memory b) (Ok (ltb at other)) Undefined.Dead z d.1 in
      let ext = same_extent b h.0 k.0 h.1 (ap (slice_get m.blocks) (eqb-true b c d.0) ∙ k.1) in
      let y' : y ≡ h.0.at + other = k.3 ∙ ap (λ (i : Extent). i.at + other) (sym ext) in
      below_small signed x y (block_high b at x h) (block_high c other y k) ∙ ap (λ (i : ℕ). ltb i y) h.3 ∙ ap (ltb (h.0.at + at)) y'
      ∙ ltb_shifted h.0.at at other ∙ (let w : ltb at other ≡ z = cc in w)
  less_pointers signed P.Null s x y z e h k = absurd cc
  less_pointers signed (P.Function f) s x y z e h k = absurd cc
  less_pointers signed (P.Block b at) P.Null x y z e h k = absurd cc
  less_pointers signed (P.Block b at) (P.Function g) x y z e h k = absurd cc

  pointers_compared : (op : CompareOp) (signed : Bool) (r s : Ptr) (x y : ℕ) (z : Bool) → pointers_compare op m.w.memory r s ≡ Ok z → At r x → At s y
      → compares op signed x y ≡ z
  pointers_compared C.Equal signed r s x y z e h k = equal_pointers r s x y z e h k
  pointers_compared C.NotEqual signed r s x y z e h k =
      (let o = opposite_ok (are_equal m.w.memory r s) z e in ap not (equal_pointers r s x y o.0 o.1 h k) ∙ o.2)
  pointers_compared C.Less signed r s x y z e h k = less_pointers signed r s x y z e h k
  pointers_compared C.Greater signed r s x y z e h k = less_pointers signed s r y x z e k h
  pointers_compared C.LessEqual signed r s x y z e h k =
      (let o = opposite_ok (is_less m.w.memory s r) z e in ap not (less_pointers signed s r y x o.0 o.1 k h) ∙ o.2)
  pointers_compared C.GreaterEqual signed r s x y z e h k =
      (let o = opposite_ok (is_less m.w.memory r s) z e in ap not (less_pointers signed r s x y o.0 o.1 h k) ∙ o.2)

  flag_is : (r : Tested Bool) (u : Value) → as_value flag r ≡ Ok u → (t : Bool) × (r ≡ Ok t) × (flag t ≡ u)
  flag_is (Ok t) u e = (t, refl, cc)
  flag_is (Err kind) u e = absurd cc

  -- what is compared gives that flag
  pub compared_is : (op : CompareOp) (kind : IntKind) (v w u : Value) (x y : ℕ) → compared op m.w.memory kind v w ≡ Ok u
      → Means p.code p.places m.blocks v x → Means p.code p.places m.blocks w y → flag (compares op (is_signed kind) x y) ≡ u
  compared_is op kind (word n) (word k) u x y e h l =
      ap flag (ap (λ (i : ℕ). compares op (is_signed kind) i y) h ∙ ap (compares op (is_signed kind) n) l ∙ sym (holds_is op kind n k))
      ∙ (let d : flag (holds op kind n k) ≡ u = cc in d)
  compared_is op kind (pointer r) (pointer s) u x y e h l =
      let k = flag_is (pointers_compare op m.w.memory r s) u e in ap flag (pointers_compared op (is_signed kind) r s x y k.0 k.1 h l) ∙ k.2
  compared_is op kind (word n) (pointer s) u x y e h l = absurd cc
  compared_is op kind (pointer r) (word k) u x y e h l = absurd cc

  truth_small : (t : Bool) → truth t < 2 ^ 32
  truth_small true = omega arith
  truth_small false = omega arith

  module _ (Claim : Claims) (claims : AreClaims ground p Claim) (next : Next) (follows : Follows ground p Claim next) where
    pub compare_works : (t : ℕ) (at : Place) (op : CompareOp) (kind : IntKind) (a b : Operand) → Works ground p built Claim claims next m q (S.Compare t at op kind a b)
    compare_works t at op kind a b code fits =
        by_read ground p built Claim claims a _ m.frame m.w m.w.turns q
        λ v reads_v. by_read ground p built Claim claims b _ m.frame m.w m.w.turns q
        λ w reads_w. by_tested ground p built Claim claims (compared op m.w.memory kind v w) at _ m.frame m.w m.w.turns q
        λ u is. by_two ground p built Claim claims next follows m t u (compare_code op kind) (takes ground p built Claim claims next follows m t fits.slot fits.kinds.0)
        q ready a b v w reads_v reads_w (fits.operands 0 a (omega arith)) (fits.operands 1 b (omega arith)) code
        λ x y means_x means_y small_x small_y f five six nil. (
          truth (compares op (is_signed kind) x y),
          subst (λ z. Means p.code p.places m.blocks z (truth (compares op (is_signed kind) x y))) (compared_is op kind v w u x y is means_x means_y) refl,
          truth_small (compares op (is_signed kind) x y),
          compare_made ground (aim ground p built Claim claims (next m.callers m.g m.more (with_temp t (by_name (Some u)) m.frame) m.w) m.w.turns q) f x y five six
              small_x small_y nil op kind,
        )
