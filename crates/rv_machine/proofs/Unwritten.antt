-- Where memory may not be written, no step changes it.
use Rattle.std.proofs.Common.{◌≡◌, ℕ, ◌+◌, ◌-◌, ◌/◌, ◌%◌, ◌^◌, ◌<◌, ◌≤◌, Bool, true, false, cond, eqb, leb, ltb, List, length, ℤ, Result, Ok, Err, Option, refl, ap, ◌∙◌, ◌&&◌}
use Rattle.std.proofs.Common.{sym, subst, arith}
use Rattle.std.proofs.lemmas.Bool.{and_parts, false_from_ne_true, eqb-true, leb-true, ltb-true}
use Rattle.lay_base.specs.declared.outside.SourceFault.{SourceFault}
use Rattle.rv_isa.specs.declared.image.Segment.{Segment}
use Rattle.rv_isa.specs.declared.instruction.Inst.{Inst}
use Rattle.rv_isa.specs.declared.instruction.Inst.TheVariants.{Jal, Jalr, Beq, Bne, Blt, Bge, Bltu, Bgeu, Lb, Lh, Lw, Lbu, Lhu, Sb, Sh, Sw, Ecall}
use Rattle.rv_isa.specs.Memory.{Memory as Content, writable, is_mapped, are_mapped, with_byte, with_half, with_word, with_bytes}
use Rattle.rv_isa.specs.Step.{State, Stepped, Goes, Ends, jumps, branches, accesses, executed}
use Rattle.rv_machine.specs.declared.hart.Moved.{Moved}
use Rattle.rv_machine.specs.declared.hart.Moved.TheVariants as M
use Rattle.rv_machine.specs.Harts.{Executes, Performs}
use Rattle.rv_machine.specs.Streams.{ReadsIn}
use Rattle.rv_machine.proofs.Lifting.{Kind, Calling, Plain, kind_of}
use Rattle.rv_machine.proofs.Stores.{mapped_at}

module _ (segments : List Segment) (b : ℕ) (fixed : is_mapped segments writable b ≡ false) where
  -- ---- bytes that are stored

  apart : (a : ℕ) → is_mapped segments writable a ≡ true → b ≡ a → ⊥
  apart a mapped same = let t : is_mapped segments writable b ≡ true = ap (is_mapped segments writable) same ∙ mapped in cc

  byte_unwritten : (m : Content) (a v : ℕ) → is_mapped segments writable a ≡ true → with_byte m a v b ≡ m b
  byte_unwritten m a v mapped =
      let t : eqb b a ≡ false = false_from_ne_true _ (λ e. apart a mapped (eqb-true b a e)) in
      rw t refl

  first_mapped : (a n : ℕ) → 0 < n → are_mapped segments writable a n ≡ true → is_mapped segments writable a ≡ true
  first_mapped a n lt all = let e : a + 0 ≡ a = omega arith in subst (λ (x : ℕ). is_mapped segments writable x ≡ true) e (mapped_at segments writable a n all 0 lt)

  half_unwritten : (m : Content) (a v n : ℕ) → 2 ≤ n → are_mapped segments writable a n ≡ true → with_half m a v b ≡ m b
  half_unwritten m a v n le all =
      byte_unwritten (with_byte m a v) (a + 1) _ (mapped_at segments writable a n all 1 (omega arith))
      ∙ byte_unwritten m a v (first_mapped a n (omega arith) all)

  word_unwritten : (m : Content) (a v : ℕ) → are_mapped segments writable a 4 ≡ true → with_word m a v b ≡ m b
  word_unwritten m a v all =
      byte_unwritten (with_byte (with_half m a v) (a + 2) (v / 2 ^ 16)) (a + 3) _ (mapped_at segments writable a 4 all 3 (omega arith))
      ∙ byte_unwritten (with_half m a v) (a + 2) (v / 2 ^ 16) (mapped_at segments writable a 4 all 2 (omega arith))
      ∙ half_unwritten m a v 4 (omega arith) all

  bytes_unwritten : (m : Content) (a n : ℕ) (bytes : List ℕ) → are_mapped segments writable a n ≡ true → length bytes ≤ n → with_bytes m a bytes b ≡ m b
  bytes_unwritten m a n bytes all le =
      let t = false_from_ne_true (leb a b && ltb b (a + length bytes)) (λ e.
      let p = and_parts (leb a b) (ltb b (a + length bytes)) e in
      let low = leb-true a b p.0 in
      let high = ltb-true b (a + length bytes) p.1 in
      apart (a + (b - a)) (mapped_at segments writable a n all (b - a) (omega arith)) (omega arith)) in
      rw t refl

  -- what a read brings
  pub read_unwritten : (before now : ℕ) (old new : Option (List ℕ)) (m m1 : Content) (a count : ℕ) (r : Result ℕ SourceFault)
      → are_mapped segments writable a count ≡ true → ReadsIn before now old new m m1 a count r → m1 b ≡ m b
  read_unwritten before now old new m m1 a count (Ok n) all h =
      let came = h.0 in
      let le = h.1 in
      let size = came.size in
      ap (λ (x : Content). x b) came.stored ∙ bytes_unwritten m a count came.piece all (omega arith)
  read_unwritten before now old new m m1 a count (Err fault) all h =
      let came = h.1.2 in
      let lt = h.1.1 in
      let size = came.size in
      ap (λ (x : Content). x b) came.stored ∙ bytes_unwritten m a count came.piece all (omega arith)

  -- ---- instructions

  -- the memory that a step leaves
  abbrev left_by : Content → Stepped → Content
  left_by m (Goes t) = t.memory
  left_by m (Ends standing) = m

  either : (m : Content) (c : Bool) (x y : Stepped) → (c ≡ true → left_by m x b ≡ m b) → left_by m y b ≡ m b → left_by m (cond c x y) b ≡ m b
  either m true x y e f = e refl
  either m false x y e f = f

  module _ (s : State) where
    jumps_leave : (rd target : ℕ) → left_by s.memory (jumps s rd target) b ≡ s.memory b
    jumps_leave rd target = either s.memory (eqb (target % 4) 0) _ _ (λ t. refl) refl

    branches_leave : (test : Bool) (distance : ℤ) → left_by s.memory (branches s test distance) b ≡ s.memory b
    branches_leave true distance = jumps_leave 0 _
    branches_leave false distance = refl

    accesses_leave : (flag a n : ℕ) (done : Stepped) → (are_mapped segments flag a n ≡ true → left_by s.memory done b ≡ s.memory b)
        → left_by s.memory (accesses segments s flag a n done) b ≡ s.memory b
    accesses_leave flag a n done h =
        either s.memory (eqb (a % n) 0) _ _ (λ t. either s.memory (are_mapped segments flag a n) done _ h refl) refl

    executed_leaves : (i : Inst) → (i ≡ Ecall → ⊥) → left_by s.memory (executed segments s i) b ≡ s.memory b
    executed_leaves Ecall other = absurd (other refl)
    executed_leaves (Jal rd imm) other = jumps_leave rd _
    executed_leaves (Jalr rd rs1 imm) other = jumps_leave rd _
    executed_leaves (Beq rs1 rs2 imm) other = branches_leave _ imm
    executed_leaves (Bne rs1 rs2 imm) other = branches_leave _ imm
    executed_leaves (Blt rs1 rs2 imm) other = branches_leave _ imm
    executed_leaves (Bge rs1 rs2 imm) other = branches_leave _ imm
    executed_leaves (Bltu rs1 rs2 imm) other = branches_leave _ imm
    executed_leaves (Bgeu rs1 rs2 imm) other = branches_leave _ imm
    executed_leaves (Lb rd rs1 imm) other = accesses_leave _ _ 1 _ (λ t. refl)
    executed_leaves (Lh rd rs1 imm) other = accesses_leave _ _ 2 _ (λ t. refl)
    executed_leaves (Lw rd rs1 imm) other = accesses_leave _ _ 4 _ (λ t. refl)
    executed_leaves (Lbu rd rs1 imm) other = accesses_leave _ _ 1 _ (λ t. refl)
    executed_leaves (Lhu rd rs1 imm) other = accesses_leave _ _ 2 _ (λ t. refl)
    executed_leaves (Sb rs1 rs2 imm) other = accesses_leave writable _ 1 _ (λ all. byte_unwritten s.memory _ _ (first_mapped _ 1 (omega arith) all))
    executed_leaves (Sh rs1 rs2 imm) other = accesses_leave writable _ 2 _ (λ all. half_unwritten s.memory _ _ 2 (omega arith) all)
    executed_leaves (Sw rs1 rs2 imm) other = accesses_leave writable _ 4 _ (λ all. word_unwritten s.memory _ _ all)
    executed_leaves _ other = refl

  executes_leaves : (old new : State) (stepped : Stepped) (moved : Moved) → left_by old.memory stepped b ≡ old.memory b → Executes old new stepped moved
      → new.memory b ≡ old.memory b
  executes_leaves old new stepped M.Goes h e = ap (λ (x : Stepped). left_by old.memory x b) (sym e) ∙ h
  executes_leaves old new stepped (M.Exits status) h e = ap (λ (s : State). s.memory b) e.1
  executes_leaves old new stepped (M.Traps kind) h e = ap (λ (s : State). s.memory b) e.1
  executes_leaves old new stepped M.Breaks h e = ap (λ (s : State). s.memory b) e.1
  executes_leaves old new stepped M.Calls h e = absurd e

  by_kind : (old new : State) (i : Inst) (moved : Moved) → Kind segments old new i moved → new.memory b ≡ old.memory b
  by_kind old new i moved (Calling call moves same) = ap (λ (s : State). s.memory b) same
  by_kind old new i moved (Plain other e) = executes_leaves old new (executed segments old i) moved (executed_leaves old i other) e

  pub performs_unwritten : (old new : State) (i : Inst) (moved : Moved) → Performs segments old new i moved → new.memory b ≡ old.memory b
  performs_unwritten old new i moved h = by_kind old new i moved (kind_of segments old new i moved h)
