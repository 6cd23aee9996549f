-- Operators and conversions.
use Rattle.std.proofs.Common.{◌≡◌, ℕ, ◌%◌, ◌^◌, ◌<◌, Bool, true, false, not, cond, eqb, ltb, List, [], ◌∷◌, Option, Some, None, Ok, Err, pos, negsuc}
use Rattle.std.proofs.Common.{refl, ap, ◌∙◌, subst, arith, bit_and, bit_xor}
use Rattle.std.proofs.lemmas.Bool.{eqb-true, ne_eqb, eq-eqb}
use Rattle.block_memory.specs.RunWorlds.Operators.{converted, null_or_pointer, is_true, flag, unary, binary, or_undefined, undefined_by}
use Rattle.block_memory.specs.declared.run_worlds.value.Value.{Value}
use Rattle.block_memory.specs.declared.run_worlds.value.Value.TheVariants.{Word as word, Pointer as pointer}
use Rattle.c_checking_laws.proofs.Ranges.{binary_below, kind_below}
use Rattle.c_types.specs.declared.ty.IntKind.{IntKind}
use Rattle.c_types.specs.declared.ty.IntKind.TheVariants as K
use Rattle.c_types.specs.Types.{integer}
use Rattle.c_typed.specs.Arithmetic.{truth, unary_value, binary_value}
use Rattle.c_typed.specs.Conversions.{is_signed, as_kind}
use Rattle.c_typed.specs.declared.operators.BinaryOp.{BinaryOp}
use Rattle.c_typed.specs.declared.operators.BinaryOp.TheVariants as B
use Rattle.c_typed.specs.declared.operators.UnaryOp.{UnaryOp}
use Rattle.c_typed.specs.declared.operators.UnaryOp.TheVariants as U
use Rattle.c_meaning.specs.declared.frame.Slot.TheVariants.{ByName as by_name}
use Rattle.lay_base.specs.declared.faults.UndefinedKind.{UndefinedKind}
use Rattle.lay_base.specs.declared.faults.UndefinedKind.TheVariants as Undefined
use Rattle.lay_base.specs.declared.place.Place.{Place}
use Rattle.memory_words.specs.declared.cell_words.pointer.Ptr.TheVariants as P
use Rattle.rv_isa.specs.Arithmetic as R
use Rattle.rv_isa.specs.Arithmetic.{one_if, extended}
use Rattle.rv_isa.specs.declared.instruction.Inst.{Inst}
use Rattle.rv_isa.specs.declared.instruction.Inst.TheVariants.{Andi, Div, Divu, Rem, Remu, Sltiu, Slli, Sra, Srai, Srl, Srli, Sub, Xori}
use Rattle.rv_runtime.proofs.Steps.Operators.{IsBinary, is_add, is_sub, is_mul, is_div, is_divu, is_rem, is_remu, is_sll, is_srl, is_sra, is_and, is_or, is_xor}
use Rattle.rv_runtime.proofs.Steps.Operators.{is_andi, is_sltiu, is_slli, is_srai, is_srli, is_xori}
use Rattle.tac_ir.specs.Running.{Next, as_number, with_temp}
use Rattle.tac_ir.specs.declared.step.Operand.{Operand}
use Rattle.tac_ir.specs.declared.step.Step.TheVariants as S
use Rattle.rv_code.specs.Operators.{unary_code, not_code, convert_code, binary_code}
use Rattle.rv_emit.specs.Maps.{Means}
use Rattle.rv_emit.specs.Grounds.{Ground}
use Rattle.rv_emit.specs.Relation.{Program, Moment, Point, Ready, IsBuilt}
use Rattle.rv_emit.specs.Claims.{Claims, AreClaims, Follows}
use Rattle.rv_emit.proofs.Making.{Makes, made_by_none, made_by_unary, made_by_binary, made_then, made_weaker}
use Rattle.rv_emit.proofs.Moves.{Goal}
use Rattle.rv_emit.proofs.Numbers.{minus_is, complement_is, is_zero, low_byte, low_half, byte_extended, half_extended, operator, operator_is}
use Rattle.rv_emit.proofs.Values.{by_read, by_tested, extent_small, entry_small}
use Rattle.rv_emit.proofs.Plain.{Works, Result, aim, by_one, by_two, takes}

-- ---- what instructions make of x5

module _ (ground : Ground) (goal : Goal ground) (f : ℕ → ℕ) (x : ℕ) (value : f 5 ≡ x) (small : x < 2 ^ 32) where
  abbrev In5 : (z : ℕ) → (ℕ → ℕ) → Type 0
  In5 z g = g 5 ≡ z

  -- and x6 is as it was
  abbrev In56 : (z : ℕ) → (ℕ → ℕ) → Type 0
  In56 z g = (g 5 ≡ z) × (g 6 ≡ f 6)

  pub unary_made : (op : UnaryOp) → f 0 ≡ 0 → Makes ground goal (unary_code op) f (In5 (unary_value op x))
  unary_made U.Plus nil = made_by_none ground goal f (In5 x) value
  unary_made U.Minus nil =
      made_by_binary ground goal (Sub 5 0 5) 5 0 5 R.difference f (In5 (unary_value U.Minus x)) (is_sub 5 0 5) (omega arith) (omega arith) (omega arith)
      (ap (λ (i : ℕ). R.difference i (f 5)) nil ∙ ap (R.difference 0) value ∙ minus_is x)
  unary_made U.Complement nil =
      made_by_unary ground goal (Xori 5 5 (negsuc 0)) 5 5 (λ i. bit_xor i (extended (negsuc 0))) f (In5 (unary_value U.Complement x)) (is_xori 5 5 (negsuc 0))
      (omega arith) (omega arith) (ap (λ (i : ℕ). bit_xor i (extended (negsuc 0))) value ∙ complement_is x small)

  pub not_made : Makes ground goal not_code f (In5 (truth (eqb x 0)))
  not_made =
      made_by_unary ground goal (Sltiu 5 5 (pos 1)) 5 5 (λ i. one_if (ltb i (extended (pos 1)))) f (In5 (truth (eqb x 0))) (is_sltiu 5 5 (pos 1)) (omega arith)
      (omega arith) (ap (λ (i : ℕ). one_if (ltb i (extended (pos 1)))) value ∙ is_zero x)

  low_made : Makes ground goal (Andi 5 5 (pos 255) ∷ []) f (In56 (x % 2 ^ 8))
  low_made =
      made_by_unary ground goal (Andi 5 5 (pos 255)) 5 5 (λ i. bit_and i (extended (pos 255))) f (In56 (x % 2 ^ 8)) (is_andi 5 5 (pos 255)) (omega arith)
      (omega arith) (ap (λ (i : ℕ). bit_and i (extended (pos 255))) value ∙ low_byte x, refl)

  -- shifted up and down again
  signed_made : (k z : ℕ) → R.shifted_right_signed (R.shifted_left x (extended (pos k))) (extended (pos k)) ≡ z
      → Makes ground goal (Slli 5 5 (pos k) ∷ Srai 5 5 (pos k) ∷ []) f (In56 z)
  signed_made k z e =
      let y = R.shifted_left x (extended (pos k)) in
      made_then ground goal (Slli 5 5 (pos k) ∷ []) (Srai 5 5 (pos k) ∷ []) f (In56 y) (In56 z)
      (made_by_unary ground goal (Slli 5 5 (pos k)) 5 5 (λ i. R.shifted_left i (extended (pos k))) f (In56 y) (is_slli 5 5 (pos k)) (omega arith) (omega arith)
      (ap (λ (i : ℕ). R.shifted_left i (extended (pos k))) value, refl))
      λ g is nil stack. made_by_unary ground goal (Srai 5 5 (pos k)) 5 5 (λ i. R.shifted_right_signed i (extended (pos k))) g (In56 z) (is_srai 5 5 (pos k))
      (omega arith) (omega arith) (ap (λ (i : ℕ). R.shifted_right_signed i (extended (pos k))) is.0 ∙ e, is.1)

  unsigned_made : (k z : ℕ) → R.shifted_right (R.shifted_left x (extended (pos k))) (extended (pos k)) ≡ z
      → Makes ground goal (Slli 5 5 (pos k) ∷ Srli 5 5 (pos k) ∷ []) f (In56 z)
  unsigned_made k z e =
      let y = R.shifted_left x (extended (pos k)) in
      made_then ground goal (Slli 5 5 (pos k) ∷ []) (Srli 5 5 (pos k) ∷ []) f (In56 y) (In56 z)
      (made_by_unary ground goal (Slli 5 5 (pos k)) 5 5 (λ i. R.shifted_left i (extended (pos k))) f (In56 y) (is_slli 5 5 (pos k)) (omega arith) (omega arith)
      (ap (λ (i : ℕ). R.shifted_left i (extended (pos k))) value, refl))
      λ g is nil stack. made_by_unary ground goal (Srli 5 5 (pos k)) 5 5 (λ i. R.shifted_right i (extended (pos k))) g (In56 z) (is_srli 5 5 (pos k))
      (omega arith) (omega arith) (ap (λ (i : ℕ). R.shifted_right i (extended (pos k))) is.0 ∙ e, is.1)

  kept : Makes ground goal [] f (In56 (x % 2 ^ 32))
  kept = made_by_none ground goal f (In56 (x % 2 ^ 32)) (omega arith, refl)

  pub convert_made : (kind : IntKind) → Makes ground goal (convert_code kind) f (In56 (as_kind kind x))
  convert_made K.Char = low_made
  convert_made K.SChar = signed_made 24 (as_kind K.SChar x) (byte_extended x)
  convert_made K.UChar = low_made
  convert_made K.Short = signed_made 16 (as_kind K.Short x) (half_extended x)
  convert_made K.UShort = unsigned_made 16 (as_kind K.UShort x) (low_half x)
  convert_made K.Int = kept
  convert_made K.UInt = kept
  convert_made K.Long = kept
  convert_made K.ULong = kept

-- ---- and of x5 and x6

by_sign : (t : Bool) (i j : Inst) (op other : ℕ → ℕ → ℕ) → IsBinary i 5 5 6 op → IsBinary j 5 5 6 other → IsBinary (cond t i j) 5 5 6 (cond t op other)
by_sign true i j op other h k = h
by_sign false i j op other h k = k

pub instruction_is : (op : BinaryOp) (kind : IntKind) → IsBinary (binary_code op kind) 5 5 6 (operator op kind)
instruction_is B.Multiply kind = is_mul 5 5 6
instruction_is B.Divide kind = by_sign (is_signed kind) (Div 5 5 6) (Divu 5 5 6) R.quotient R.quotient_unsigned (is_div 5 5 6) (is_divu 5 5 6)
instruction_is B.Remainder kind = by_sign (is_signed kind) (Rem 5 5 6) (Remu 5 5 6) R.remainder R.remainder_unsigned (is_rem 5 5 6) (is_remu 5 5 6)
instruction_is B.Add kind = is_add 5 5 6
instruction_is B.Subtract kind = is_sub 5 5 6
instruction_is B.ShiftLeft kind = is_sll 5 5 6
instruction_is B.ShiftRight kind = by_sign (is_signed kind) (Sra 5 5 6) (Srl 5 5 6) R.shifted_right_signed R.shifted_right (is_sra 5 5 6) (is_srl 5 5 6)
instruction_is B.BitAnd kind = is_and 5 5 6
instruction_is B.BitXor kind = is_xor 5 5 6
instruction_is B.BitOr kind = is_or 5 5 6

pub binary_made : (ground : Ground) (goal : Goal ground) (f : ℕ → ℕ) (x y z : ℕ) (op : BinaryOp) (kind right : IntKind) → f 5 ≡ x → f 6 ≡ y
    → binary_value op kind x right y ≡ Some z → Makes ground goal (binary_code op kind ∷ []) f (λ g. g 5 ≡ z)
binary_made ground goal f x y z op kind right a b e =
    made_by_binary ground goal (binary_code op kind) 5 5 6 (operator op kind) f (λ g. g 5 ≡ z) (instruction_is op kind) (omega arith) (omega arith) (omega arith)
    (ap (λ (i : ℕ). operator op kind i (f 6)) a ∙ ap (operator op kind x) b ∙ operator_is op kind right x y z e)

-- ---- results of one operand

truth_small : (t : Bool) → truth t < 2 ^ 32
truth_small true = omega arith
truth_small false = omega arith

unary_small : (op : UnaryOp) (v : ℕ) → v < 2 ^ 32 → unary_value op v < 2 ^ 32
unary_small U.Plus v lt = lt
unary_small U.Minus v lt = omega arith
unary_small U.Complement v lt = omega arith

module _ (ground : Ground) (p : Program) (built : IsBuilt ground p) (Claim : Claims) (claims : AreClaims ground p Claim) (next : Next)
    (follows : Follows ground p Claim next) (m : Moment) (q : Point) (ready : Ready ground p m q) where
  abbrev aim_at : (t : ℕ) → Value → Goal ground
  aim_at t u = aim ground p built Claim claims (next m.callers m.g m.more (with_temp t (by_name (Some u)) m.frame) m.w) m.w.turns q

  abbrev Gives : (t : ℕ) → Value → List Inst → (ℕ → ℕ) → Type 0
  Gives t u is f = Result ground p built Claim claims next follows m q t u is f

  unary_result : (op : UnaryOp) (t : ℕ) (v u : Value) → unary op v ≡ Ok u
      → (x : ℕ) → Means p.code p.places m.blocks v x → x < 2 ^ 32 → (f : ℕ → ℕ) → f 5 ≡ x → f 0 ≡ 0 → Gives t u (unary_code op) f
  unary_result op t (word n) u e x means small f value nil =
      let d : word (unary_value op x) ≡ u = ap (λ (i : ℕ). word (unary_value op i)) means ∙ (let k : word (unary_value op n) ≡ u = cc in k) in
      (unary_value op x, subst (λ z. Means p.code p.places m.blocks z (unary_value op x)) d refl, unary_small op x small, unary_made ground (aim_at t u) f x value small op nil)
  unary_result op t (pointer r) u e x means small f value nil = absurd cc

  pub unary_works : (t : ℕ) (at : Place) (op : UnaryOp) (a : Operand) → Works ground p built Claim claims next m q (S.Unary t at op a)
  unary_works t at op a code fits =
      by_read ground p built Claim claims a _ m.frame m.w m.w.turns q
      λ v reads. by_tested ground p built Claim claims (unary op v) at _ m.frame m.w m.w.turns q
      λ u is. by_one ground p built Claim claims next follows m t u (unary_code op) (takes ground p built Claim claims next follows m t fits.slot fits.kinds.0) q ready a v
      reads (fits.operands 0 a (omega arith)) code (unary_result op t v u is)

  -- a pointer that is not null is not 0
  true_is : (v : Value) (x : ℕ) → Means p.code p.places m.blocks v x → truth (eqb x 0) ≡ truth (not (is_true v))
  true_is (word n) x means = ap (λ (i : ℕ). truth (eqb i 0)) means ∙ (twice (eqb n 0))
    where
      twice : (t : Bool) → truth t ≡ truth (not (not t))
      twice true = refl
      twice false = refl
  true_is (pointer P.Null) x means = ap truth (eq-eqb x 0 means)
  true_is (pointer (P.Block b at)) x means =
      let small = extent_small ground p built m q ready b means.0 means.1 in ap truth (ne_eqb x 0 (λ e. omega (arith, small.0, means.3)))
  true_is (pointer (P.Function k)) x means =
      let small = entry_small ground p built k means.0 in ap truth (ne_eqb x 0 (λ e. omega (arith, small.0, means.1)))

  pub not_works : (t : ℕ) (a : Operand) → Works ground p built Claim claims next m q (S.Not t a)
  not_works t a code fits =
      by_read ground p built Claim claims a _ m.frame m.w m.w.turns q
      λ v reads. by_one ground p built Claim claims next follows m t (flag (not (is_true v))) not_code
      (takes ground p built Claim claims next follows m t fits.slot fits.kinds.0) q ready a v reads (fits.operands 0 a (omega arith)) code
      λ x means small f value nil. (truth (eqb x 0), true_is v x means, truth_small (eqb x 0), not_made ground (aim_at t (flag (not (is_true v)))) f x value small)

  convert_result : (kind : IntKind) (t : ℕ) (v u : Value) → converted (integer kind) v ≡ Ok u
      → (x : ℕ) → Means p.code p.places m.blocks v x → x < 2 ^ 32 → (f : ℕ → ℕ) → f 5 ≡ x → f 0 ≡ 0 → Gives t u (convert_code kind) f
  convert_result kind t (word n) u e x means small f value nil =
      let d : word (as_kind kind x) ≡ u = ap (λ (i : ℕ). word (as_kind kind i)) means ∙ (let k : word (as_kind kind n) ≡ u = cc in k) in (
        as_kind kind x,
        subst (λ z. Means p.code p.places m.blocks z (as_kind kind x)) d refl,
        kind_below kind x,
        made_weaker ground (aim_at t u) (convert_code kind) f (λ g. (g 5 ≡ as_kind kind x) × (g 6 ≡ f 6)) (λ g. g 5 ≡ as_kind kind x) (λ g h. h.0)
            (convert_made ground (aim_at t u) f x value small kind),
      )
  convert_result kind t (pointer r) u e x means small f value nil = absurd cc

  pub convert_works : (t : ℕ) (at : Place) (kind : IntKind) (a : Operand) → Works ground p built Claim claims next m q (S.Convert t at kind a)
  convert_works t at kind a code fits =
      by_read ground p built Claim claims a _ m.frame m.w m.w.turns q
      λ v reads. by_tested ground p built Claim claims (converted (integer kind) v) at _ m.frame m.w m.w.turns q
      λ u is. by_one ground p built Claim claims next follows m t u (convert_code kind) (takes ground p built Claim claims next follows m t fits.slot fits.kinds.0) q ready
      a v reads (fits.operands 0 a (omega arith)) code (convert_result kind t v u is)

  -- as it is
  same_result : (t : ℕ) (u : Value) (x : ℕ) → Means p.code p.places m.blocks u x → x < 2 ^ 32 → (f : ℕ → ℕ) → f 5 ≡ x → Gives t u [] f
  same_result t u x means small f value = (x, means, small, made_by_none ground (aim_at t u) f (λ g. g 5 ≡ x) value)

  pointer_means : (v u : Value) (x : ℕ) → null_or_pointer v ≡ Ok u → Means p.code p.places m.blocks v x → Means p.code p.places m.blocks u x
  pointer_means (word n) u x e means = by_test (eqb n 0) refl e
    where
      by_test : (t : Bool) → eqb n 0 ≡ t → cond t (Ok (pointer P.Null)) (Err Undefined.Pointer) ≡ Ok u → Means p.code p.places m.blocks u x
      by_test true d e = (let k : pointer P.Null ≡ u = cc in subst (λ z. Means p.code p.places m.blocks z x) k (means ∙ eqb-true n 0 d))
      by_test false d e = absurd cc
  pointer_means (pointer r) u x e means = (let k : pointer r ≡ u = cc in subst (λ z. Means p.code p.places m.blocks z x) k means)

  pub pointer_works : (t : ℕ) (at : Place) (a : Operand) → Works ground p built Claim claims next m q (S.AsPointer t at a)
  pointer_works t at a code fits =
      by_read ground p built Claim claims a _ m.frame m.w m.w.turns q
      λ v reads. by_tested ground p built Claim claims (null_or_pointer v) at _ m.frame m.w m.w.turns q
      λ u is. by_one ground p built Claim claims next follows m t u [] (takes ground p built Claim claims next follows m t fits.slot fits.kinds.0) q ready a v reads
      (fits.operands 0 a (omega arith)) code
      λ x means small f value nil. same_result t u x (pointer_means v u x is means) small f value

  number_means : (v u : Value) (x : ℕ) → as_number v ≡ Ok u → Means p.code p.places m.blocks v x → Means p.code p.places m.blocks u x
  number_means (word n) u x e means = (let k : word n ≡ u = cc in subst (λ z. Means p.code p.places m.blocks z x) k means)
  number_means (pointer r) u x e means = absurd cc

  pub number_works : (t : ℕ) (at : Place) (a : Operand) → Works ground p built Claim claims next m q (S.Number t at a)
  number_works t at a code fits =
      by_read ground p built Claim claims a _ m.frame m.w m.w.turns q
      λ v reads. by_tested ground p built Claim claims (as_number v) at _ m.frame m.w m.w.turns q
      λ u is. by_one ground p built Claim claims next follows m t u [] (takes ground p built Claim claims next follows m t fits.slot fits.kinds.0) q ready a v reads
      (fits.operands 0 a (omega arith)) code
      λ x means small f value nil. same_result t u x (number_means v u x is means) small f value

  -- ---- and of two

  value_is : (kind : UndefinedKind) (o : Option ℕ) (u : Value) → or_undefined kind o ≡ Ok u → (z : ℕ) × (o ≡ Some z) × (word z ≡ u)
  value_is kind (Some z) u e = (z, refl, cc)
  value_is kind None u e = absurd cc

  binary_result : (op : BinaryOp) (kind right : IntKind) (t : ℕ) (v w u : Value) → binary op kind v right w ≡ Ok u
      → (x y : ℕ) → Means p.code p.places m.blocks v x → Means p.code p.places m.blocks w y → x < 2 ^ 32 → y < 2 ^ 32
      → (f : ℕ → ℕ) → f 5 ≡ x → f 6 ≡ y → f 0 ≡ 0 → Gives t u (binary_code op kind ∷ []) f
  binary_result op kind right t (word n) (word k) u e x y means_x means_y small_x small_y f five six nil =
      let h = value_is (undefined_by op) (binary_value op kind n right k) u e in
      let d : binary_value op kind x right y ≡ Some h.0 =
      ap (λ (i : ℕ). binary_value op kind i right y) means_x ∙ ap (λ (i : ℕ). binary_value op kind n right i) means_y ∙ h.1 in (
        h.0,
        subst (λ z. Means p.code p.places m.blocks z h.0) h.2 refl,
        binary_below op kind x right y h.0 small_x small_y d,
        binary_made ground (aim_at t u) f x y h.0 op kind right five six d,
      )
  binary_result op kind right t (word n) (pointer r) u e x y means_x means_y small_x small_y f five six nil = absurd cc
  binary_result op kind right t (pointer r) w u e x y means_x means_y small_x small_y f five six nil = absurd cc

  pub binary_works : (t : ℕ) (at : Place) (op : BinaryOp) (kind right : IntKind) (a b : Operand)
      → Works ground p built Claim claims next m q (S.Binary t at op kind right a b)
  binary_works t at op kind right a b code fits =
      by_read ground p built Claim claims a _ m.frame m.w m.w.turns q
      λ v reads_v. by_read ground p built Claim claims b _ m.frame m.w m.w.turns q
      λ w reads_w. by_tested ground p built Claim claims (binary op kind v right w) at _ m.frame m.w m.w.turns q
      λ u is. by_two ground p built Claim claims next follows m t u (binary_code op kind ∷ []) (takes ground p built Claim claims next follows m t fits.slot fits.kinds.0)
      q ready a b v w reads_v reads_w (fits.operands 0 a (omega arith)) (fits.operands 1 b (omega arith)) code (binary_result op kind right t v w u is)
