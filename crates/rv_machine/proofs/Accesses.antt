-- What a store or a read that was done is to the step.
use Rattle.std.proofs.Common.{◌≡◌, ℕ, ◌+◌, ◌%◌, ◌^◌, true, List, [], ◌++◌, drop, Some, eqb, eq-eqb, sym, ap, slice_set, append-nil}
use Rattle.std.specs.Prelude.{slice_index}
use Rattle.rv_isa.specs.declared.image.Segment.{Segment}
use Rattle.rv_isa.specs.Memory.{Memory as Content, writable, are_mapped}
use Rattle.rv_isa.specs.Step.{State, Goes, accesses, stores, next_pc, read_call}
use Rattle.rv_machine.proofs.Pieces.{ReadsKnown}

-- a store of n bytes at an address that is a multiple of n and may be written
pub store_moves : (segments : List Segment) (s : State) (put : Content → ℕ → ℕ → Content) (a x n : ℕ) (memory : Content) → a % n ≡ 0
    → true ≡ are_mapped segments writable a n → memory ≡ put s.memory a x
    → accesses segments s writable a n (stores s (put s.memory a x)) ≡ Goes (record s { memory = memory; pc = next_pc s })
store_moves segments s put a x n memory whole mapped same =
    let e : eqb (a % n) 0 ≡ true = eq-eqb (a % n) 0 whole in
    rw (e, ← mapped) (ap (λ (m : Content). Goes (record s { memory = m; pc = next_pc s })) (sym same))

-- a read of the environment that was answered, of so many bytes to an address
pub read_goes : (places : List Segment) (registers : List ℕ) (pc : ℕ) (content content1 : Content) (input : List ℕ) (n address count : ℕ)
    → address ≡ slice_index registers 11 → count ≡ slice_index registers 12 → are_mapped places writable address count ≡ true
    → ReadsKnown input (Some (drop n input)) content content1 address count n → (output : List ℕ)
    → read_call places (record { registers = registers; pc = pc; memory = content; input = input; output = output })
    ≡ Goes (record {
      registers = slice_set registers 10 n;
      pc = (pc + 4) % 2 ^ 32;
      memory = content1;
      input = drop n input;
      output = output ++ [];
    })
read_goes places registers pc content content1 input n address count at counted mapped known output =
    let e : output ++ [] ≡ output = append-nil output in
    rw (← at, ← counted, mapped, e, ← known.number) (ap (λ (m : Content). Goes (record {
      registers = slice_set registers 10 n;
      pc = (pc + 4) % 2 ^ 32;
      memory = m;
      input = drop n input;
      output = output;
    })) (sym known.stored))
