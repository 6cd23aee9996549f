-- All instructions that are emitted are in range.
use Rattle.std.proofs.Common.{◌≡◌, ℕ, suc, ◌+◌, ◌-◌, ◌*◌, ◌%◌, ◌^◌, ◌<◌, ◌≤ℤ◌, Bool, true, false, List, [], ◌∷◌, ◌++◌, Some, None, pos, negsuc, ℤ, refl, length, get_or, arith, ltb-true, ltb-false}
use Rattle.std.specs.Prelude.{◌==◌, nat_lt, slice_index, if◌then◌else◌}
use Rattle.std.specs.List.{All, AllByRecursion}
use Rattle.std.proofs.lemmas.Bool.{cond_both}
use Rattle.std.proofs.lemmas.Int.{ints}
use Rattle.std.proofs.lemmas.List.Elements.{All-from_recursion}
use Rattle.block_memory.specs.declared.kinds.Access.{Access}
use Rattle.block_memory.specs.declared.kinds.Access.TheVariants.{Number, Pointer}
use Rattle.c_types.specs.declared.ty.IntKind.{IntKind}
use Rattle.c_types.specs.declared.ty.IntKind.TheVariants as K
use Rattle.rv_isa.specs.declared.instruction.Inst.{Inst}
use Rattle.rv_isa.specs.declared.instruction.Inst.TheVariants.{Addi, Ecall}
use Rattle.rv_isa.specs.Encoding.{IsInRange, IsShort, IsBranchDistance, IsDistance}
use Rattle.c_typed.specs.Conversions.{is_signed}
use Rattle.c_typed.specs.declared.operators.BinaryOp.{BinaryOp}
use Rattle.c_typed.specs.declared.operators.BinaryOp.TheVariants as B
use Rattle.c_typed.specs.declared.operators.CompareOp.{CompareOp}
use Rattle.c_typed.specs.declared.operators.CompareOp.TheVariants as C
use Rattle.c_typed.specs.declared.operators.LibraryFunction.{LibraryFunction}
use Rattle.c_typed.specs.declared.operators.LibraryFunction.TheVariants as L
use Rattle.c_typed.specs.declared.operators.PointerOp.{PointerOp}
use Rattle.c_typed.specs.declared.operators.PointerOp.TheVariants as P
use Rattle.c_typed.specs.declared.operators.UnaryOp.{UnaryOp}
use Rattle.c_typed.specs.declared.operators.UnaryOp.TheVariants as U
use Rattle.block_memory.specs.RunWorlds.Operators.{common_kind, pointer_op}
use Rattle.tac_ir.specs.Code.{Code, RoutineData}
use Rattle.tac_ir.specs.declared.step.Operand.{Operand}
use Rattle.tac_ir.specs.declared.step.Operand.TheVariants as O
use Rattle.tac_ir.specs.declared.step.Parameter.{Parameter}
use Rattle.tac_ir.specs.declared.step.Sort.{Sort}
use Rattle.tac_ir.specs.declared.step.Sort.TheVariants as Sorts
use Rattle.tac_ir.specs.declared.step.Step.{Step}
use Rattle.tac_ir.specs.declared.step.Step.TheVariants as S
use Rattle.rv_code.specs.declared.layout.Layout.{Layout}
use Rattle.rv_code.specs.declared.layout.Places.{Places}
use Rattle.rv_code.specs.Code.{a_word, allocate_code, answer_code, block_code, both_code, code_if_any, entry_code, function_code, get_code, give_code, is_block, library_code, one_code, parameter_code, parameters_code, place_led, read_code, return_code, row_code, stack_place, step_code, steps_code, temporary_code, three_code, two_code, update_code, write_code}
use Rattle.rv_isa.specs.Events.{malloc_entry, calloc_entry, free_entry}
use Rattle.rv_runtime.specs.Routines.{exit_entry, copy_entry, fill_entry, compare_entry}
use Rattle.rv_code.specs.Frames.{slot_at}
use Rattle.rv_code.specs.Operators.{binary_code, compare_code, convert_code, distance_code, less_code, move_code, not_code, offset_code, opposite, pointer_code, scale_code, skip_if, skip_less, skip_not_less, skip_unless, skip_unless_true, unary_code}
use Rattle.rv_code.specs.Programs.{functions_code, layouts_from, places_of, program_code, start_code, first_entry, entries_from}
use Rattle.rv_code.specs.Words.{upper, lower, number_code, place_code, load_by, store_by, fetch_code, keep_code, address_code, jump_code, call_code}

abbrev pub InRange : List Inst → Type 0
InRange is = AllByRecursion IsInRange is

pub joined : (a b : List Inst) → InRange a → InRange b → InRange (a ++ b)
joined [] b p q = q
joined (i ∷ a) b p q = (p.0, joined a b p.1 q)

-- ---- numbers

upper_fits : (n : ℕ) → upper n < 2 ^ 20
upper_fits n = omega arith

lower_short : (n : ℕ) → IsShort (lower n)
lower_short n = cond_both (nat_lt (n % 2 ^ 12) (2 ^ 11)) (pos (n % 2 ^ 12)) (negsuc (2 ^ 12 - suc (n % 2 ^ 12))) (λ z. IsShort z)
    (λ e. let lt = ltb-true _ _ e in (omega (arith, ints), omega (arith, ints)))
    (λ e. let le = ltb-false _ _ e in (omega (arith, ints), omega (arith, ints)))

near : (n : ℕ) → nat_lt n 2048 ≡ true → IsShort (pos n)
near n e = let lt = ltb-true _ _ e in (omega (arith, ints), omega (arith, ints))

pub number_in : (rd n : ℕ) → rd < 2 ^ 5 → InRange (number_code rd n)
number_in rd n r = cond_both (upper n == 0) _ _ InRange
    (λ e. ((r, omega arith, lower_short n), tt))
    (λ e. ((r, upper_fits n), ((r, r, lower_short n), tt)))

pub place_in : (rd n : ℕ) → rd < 2 ^ 5 → InRange (place_code rd n)
place_in rd n r = ((r, upper_fits n), ((r, r, lower_short n), tt))

pub load_in : (access : Access) (rd base : ℕ) (by : ℤ) → rd < 2 ^ 5 → base < 2 ^ 5 → IsShort by → IsInRange (load_by access rd base by)
load_in (Number K.Char) rd base by r s t = (r, s, t)
load_in (Number K.SChar) rd base by r s t = (r, s, t)
load_in (Number K.UChar) rd base by r s t = (r, s, t)
load_in (Number K.Short) rd base by r s t = (r, s, t)
load_in (Number K.UShort) rd base by r s t = (r, s, t)
load_in (Number K.Int) rd base by r s t = (r, s, t)
load_in (Number K.UInt) rd base by r s t = (r, s, t)
load_in (Number K.Long) rd base by r s t = (r, s, t)
load_in (Number K.ULong) rd base by r s t = (r, s, t)
load_in (Pointer type) rd base by r s t = (r, s, t)

pub store_in : (access : Access) (base rs : ℕ) (by : ℤ) → base < 2 ^ 5 → rs < 2 ^ 5 → IsShort by → IsInRange (store_by access base rs by)
store_in (Number K.Char) base rs by r s t = (r, s, t)
store_in (Number K.SChar) base rs by r s t = (r, s, t)
store_in (Number K.UChar) base rs by r s t = (r, s, t)
store_in (Number K.Short) base rs by r s t = (r, s, t)
store_in (Number K.UShort) base rs by r s t = (r, s, t)
store_in (Number K.Int) base rs by r s t = (r, s, t)
store_in (Number K.UInt) base rs by r s t = (r, s, t)
store_in (Number K.Long) base rs by r s t = (r, s, t)
store_in (Number K.ULong) base rs by r s t = (r, s, t)
store_in (Pointer type) base rs by r s t = (r, s, t)

pub fetch_in : (rd base offset : ℕ) → rd < 2 ^ 5 → base < 2 ^ 5 → InRange (fetch_code rd base offset)
fetch_in rd base offset r s = cond_both (nat_lt offset 2048) _ _ InRange
    (λ e. ((r, s, near offset e), tt))
    (λ e. ((r, upper_fits offset), ((r, r, s), ((r, r, lower_short offset), tt))))

pub keep_in : (access : Access) (rs base offset : ℕ) → rs < 2 ^ 5 → base < 2 ^ 5 → InRange (keep_code access rs base offset)
keep_in access rs base offset r s = cond_both (nat_lt offset 2048) _ _ InRange
    (λ e. ((store_in access base rs (pos offset) s r (near offset e)), tt))
    (λ e. ((omega arith, upper_fits offset), ((omega arith, omega arith, s), ((store_in access 7 rs (lower offset) (omega arith) r (lower_short offset)), tt))))

pub address_in : (rd base offset : ℕ) → rd < 2 ^ 5 → base < 2 ^ 5 → InRange (address_code rd base offset)
address_in rd base offset r s = cond_both (nat_lt offset 2048) _ _ InRange
    (λ e. ((r, s, near offset e), tt))
    (λ e. ((r, upper_fits offset), ((r, r, lower_short offset), ((r, r, s), tt))))

pub jump_in : (place : ℕ) → InRange (jump_code place)
jump_in place = ((omega arith, upper_fits place), ((omega arith, omega arith, lower_short place), tt))

pub call_in : (place : ℕ) → InRange (call_code place)
call_in place = ((omega arith, upper_fits place), ((omega arith, omega arith, lower_short place), tt))

-- ---- operators

three_short : (a b c : ℕ) → a < 2 ^ 5 → b < 2 ^ 5 → c < 2 ^ 5 → (a < 2 ^ 5) × (b < 2 ^ 5) × (c < 2 ^ 5)
three_short a b c p q r = (p, q, r)

short : (n : ℕ) → n < 2048 → IsShort (pos n)
short n lt = (omega (arith, ints), omega (arith, ints))

minus_one : IsShort (negsuc 0)
minus_one = (omega (arith, ints), omega (arith, ints))

if_in : (b : Bool) (i j : Inst) → IsInRange i → IsInRange j → IsInRange (if b then i else j)
if_in true i j p q = p
if_in false i j p q = q

if_all : (b : Bool) (x y : List Inst) → InRange x → InRange y → InRange (if b then x else y)
if_all true x y p q = p
if_all false x y p q = q

unary_in : (op : UnaryOp) → InRange (unary_code op)
unary_in U.Plus = tt
unary_in U.Minus = ((omega arith, omega arith, omega arith), tt)
unary_in U.Complement = ((omega arith, omega arith, minus_one), tt)

convert_in : (kind : IntKind) → InRange (convert_code kind)
convert_in K.Char = ((omega arith, omega arith, short 255 (omega arith)), tt)
convert_in K.SChar = ((omega arith, omega arith, amount), ((omega arith, omega arith, amount), tt))
  where
    amount : (pos 0 ≤ℤ pos 24) × (pos 24 ≤ℤ pos 31)
    amount = (omega (arith, ints), omega (arith, ints))
convert_in K.UChar = ((omega arith, omega arith, short 255 (omega arith)), tt)
convert_in K.Short = ((omega arith, omega arith, amount), ((omega arith, omega arith, amount), tt))
  where
    amount : (pos 0 ≤ℤ pos 16) × (pos 16 ≤ℤ pos 31)
    amount = (omega (arith, ints), omega (arith, ints))
convert_in K.UShort = ((omega arith, omega arith, amount), ((omega arith, omega arith, amount), tt))
  where
    amount : (pos 0 ≤ℤ pos 16) × (pos 16 ≤ℤ pos 31)
    amount = (omega (arith, ints), omega (arith, ints))
convert_in K.Int = tt
convert_in K.UInt = tt
convert_in K.Long = tt
convert_in K.ULong = tt

binary_in : (op : BinaryOp) (kind : IntKind) → IsInRange (binary_code op kind)
binary_in B.Multiply kind = (omega arith, omega arith, omega arith)
binary_in B.Divide kind = if_in (is_signed kind) _ _ (omega arith, omega arith, omega arith) (omega arith, omega arith, omega arith)
binary_in B.Remainder kind = if_in (is_signed kind) _ _ (omega arith, omega arith, omega arith) (omega arith, omega arith, omega arith)
binary_in B.Add kind = (omega arith, omega arith, omega arith)
binary_in B.Subtract kind = (omega arith, omega arith, omega arith)
binary_in B.ShiftLeft kind = (omega arith, omega arith, omega arith)
binary_in B.ShiftRight kind = if_in (is_signed kind) _ _ (omega arith, omega arith, omega arith) (omega arith, omega arith, omega arith)
binary_in B.BitAnd kind = (omega arith, omega arith, omega arith)
binary_in B.BitXor kind = (omega arith, omega arith, omega arith)
binary_in B.BitOr kind = (omega arith, omega arith, omega arith)

less_in : (kind : IntKind) (left right : ℕ) → left < 2 ^ 5 → right < 2 ^ 5 → IsInRange (less_code kind left right)
less_in kind left right p q = if_in (is_signed kind) _ _ (omega arith, p, q) (omega arith, p, q)

compare_in : (op : CompareOp) (kind : IntKind) → InRange (compare_code op kind)
compare_in C.Equal kind = ((omega arith, omega arith, omega arith), ((omega arith, omega arith, short 1 (omega arith)), tt))
compare_in C.NotEqual kind = ((omega arith, omega arith, omega arith), ((omega arith, omega arith, omega arith), tt))
compare_in C.Less kind = (less_in kind 5 6 (omega arith) (omega arith), tt)
compare_in C.Greater kind = (less_in kind 6 5 (omega arith) (omega arith), tt)
compare_in C.LessEqual kind = (less_in kind 6 5 (omega arith) (omega arith), ((omega arith, omega arith, short 1 (omega arith)), tt))
compare_in C.GreaterEqual kind = (less_in kind 5 6 (omega arith) (omega arith), ((omega arith, omega arith, short 1 (omega arith)), tt))

over_two : IsBranchDistance (pos 12)
over_two = (omega (arith, ints), omega (arith, ints), refl)

skip_less_in : (kind : IntKind) (left right : ℕ) → left < 2 ^ 5 → right < 2 ^ 5 → IsInRange (skip_less kind left right)
skip_less_in kind left right p q = if_in (is_signed kind) _ _ (p, q, over_two) (p, q, over_two)

skip_not_less_in : (kind : IntKind) (left right : ℕ) → left < 2 ^ 5 → right < 2 ^ 5 → IsInRange (skip_not_less kind left right)
skip_not_less_in kind left right p q = if_in (is_signed kind) _ _ (p, q, over_two) (p, q, over_two)

skip_in : (op : CompareOp) (kind : IntKind) → IsInRange (skip_if op kind)
skip_in C.Equal kind = (omega arith, omega arith, over_two)
skip_in C.NotEqual kind = (omega arith, omega arith, over_two)
skip_in C.Less kind = skip_less_in kind 5 6 (omega arith) (omega arith)
skip_in C.Greater kind = skip_less_in kind 6 5 (omega arith) (omega arith)
skip_in C.LessEqual kind = skip_not_less_in kind 6 5 (omega arith) (omega arith)
skip_in C.GreaterEqual kind = skip_not_less_in kind 5 6 (omega arith) (omega arith)

skip_unless_in : (when : Bool) (op : CompareOp) (kind : IntKind) → IsInRange (skip_unless when op kind)
skip_unless_in true op kind = skip_in (opposite op) kind
skip_unless_in false op kind = skip_in op kind

skip_unless_true_in : (when : Bool) → IsInRange (skip_unless_true when)
skip_unless_true_in true = (omega arith, omega arith, over_two)
skip_unless_true_in false = (omega arith, omega arith, over_two)

scale_in : (size : ℕ) → InRange (scale_code size)
scale_in size = if_all (size == 1) [] _ tt
    (if_all (size == 4) _ _ ((omega arith, omega arith, amount), tt)
    (joined (number_code 7 size) _ (number_in 7 size (omega arith)) ((omega arith, omega arith, omega arith), tt)))
  where
    amount : (pos 0 ≤ℤ pos 2) × (pos 2 ≤ℤ pos 31)
    amount = (omega (arith, ints), omega (arith, ints))

pointer_in : (op : PointerOp) → IsInRange (pointer_code op)
pointer_in P.Add = (omega arith, omega arith, omega arith)
pointer_in P.Subtract = (omega arith, omega arith, omega arith)

move_in : (op : PointerOp) (size : ℕ) → InRange (move_code op size)
move_in op size = joined (scale_code size) _ (scale_in size) (pointer_in op, tt)

offset_in : (by : ℕ) → InRange (offset_code by)
offset_in by = if_all (by == 0) [] _ tt
    (cond_both (nat_lt by 2048) _ _ InRange (λ e. ((omega arith, omega arith, near by e), tt))
    (λ e. joined (number_code 6 by) _ (number_in 6 by (omega arith)) ((omega arith, omega arith, omega arith), tt)))

distance_in : (size : ℕ) → InRange (distance_code size)
distance_in size = (
  (omega arith, omega arith, omega arith),
  joined (number_code 6 size) _ (number_in 6 size (omega arith)) ((omega arith, omega arith, omega arith), tt),
)

-- ---- steps

x5 : 5 < 2 ^ 5
x5 = omega arith

x10 : 10 < 2 ^ 5
x10 = omega arith

give_in : (t rs : ℕ) → rs < 2 ^ 5 → InRange (give_code t rs)
give_in t rs r = keep_in a_word rs 2 (slot_at t) r (omega arith)

first_in : (first : ℕ) → InRange (one_code first)
first_in first = fetch_in 10 2 (slot_at first) x10 (omega arith)

second_in : (first : ℕ) → InRange (two_code first)
second_in first = joined (one_code first) _ (first_in first) (fetch_in 11 2 (slot_at (first + 1)) (omega arith) (omega arith))

third_in : (first : ℕ) → InRange (three_code first)
third_in first = joined (two_code first) _ (second_in first) (fetch_in 12 2 (slot_at (first + 2)) (omega arith) (omega arith))

answer_in : (place t : ℕ) → InRange (answer_code place t)
answer_in place t = joined (call_code place) _ (call_in place) (give_in t 10 x10)

write_in : InRange write_code
write_in = (
  (omega arith, omega arith),
  (
    (omega arith, omega arith, short 64 (omega arith)),
    (
      (omega arith, omega arith, short 64 (omega arith)),
      (
        (omega arith, omega arith, short 1 (omega arith)),
        (
          (omega arith, omega arith, short 1 (omega arith)),
          (
            (omega arith, omega arith, short 64 (omega arith)),
            (tt, ((omega arith, omega arith, short 0 (omega arith)), tt)),
          ),
        ),
      ),
    ),
  ),
)

read_in : InRange read_code
read_in = (
  (omega arith, omega arith, short 0 (omega arith)),
  (
    (omega arith, omega arith),
    (
      (omega arith, omega arith, short 64 (omega arith)),
      (
        (omega arith, omega arith, short 1 (omega arith)),
        (
          (omega arith, omega arith, short 63 (omega arith)),
          (
            tt,
            (
              (omega arith, omega arith, over_two),
              ((omega arith, omega arith, short 0 (omega arith)), ((omega arith, over_one), ((omega arith, omega arith, minus_one), tt))),
            ),
          ),
        ),
      ),
    ),
  ),
)
  where
    over_one : IsDistance (pos 8)
    over_one = (omega (arith, ints), omega (arith, ints), refl)

library_in : (which : LibraryFunction) (first t : ℕ) → InRange (library_code which first t)
library_in L.Malloc first t = joined (one_code first) _ (first_in first) (answer_in malloc_entry t)
library_in L.Calloc first t = joined (two_code first) _ (second_in first) (answer_in calloc_entry t)
library_in L.Free first t = joined (one_code first) _ (first_in first) (call_in free_entry)
library_in L.Memcpy first t = joined (three_code first) _ (third_in first) (answer_in copy_entry t)
library_in L.Memmove first t = joined (three_code first) _ (third_in first) (answer_in copy_entry t)
library_in L.Memset first t = joined (three_code first) _ (third_in first) (answer_in fill_entry t)
library_in L.Memcmp first t = joined (three_code first) _ (third_in first) (answer_in compare_entry t)
library_in L.Putchar first t = joined (one_code first) _ (first_in first) (joined write_code _ write_in (give_in t 5 x5))
library_in L.Getchar first t = joined read_code _ read_in (give_in t 5 x5)
library_in L.Exit first t = joined (one_code first) _ (first_in first) (jump_in exit_entry)

allocate_in : (size : ℕ) (zeroed : Bool) → InRange (allocate_code size zeroed)
allocate_in size true = joined (number_code 11 size) _ (number_in 11 size (omega arith)) (call_in calloc_entry)
allocate_in size false = joined (number_code 11 size) _ (number_in 11 size (omega arith)) ((omega arith, omega arith, omega arith), call_in malloc_entry)

update_in : (op : BinaryOp) (size : ℕ) (sort : Sort) (right : IntKind) → InRange (update_code op size sort right)
update_in op size (Sorts.Number kind) right = joined (convert_code (common_kind op kind right)) _ (convert_in (common_kind op kind right))
    (binary_in op (common_kind op kind right), convert_in kind)
update_in op size Sorts.Pointer right = move_in (pointer_op op) size

module _ (l : Layout) where
  block_in : (rd x by : ℕ) → rd < 2 ^ 5 → InRange (block_code l rd x by)
  block_in rd x by r = address_in rd 2 (slice_index l.blocks x + by) r (omega arith)

  return_in : InRange (return_code l)
  return_in = joined (fetch_code 1 2 0) _ (fetch_in 1 2 0 (omega arith) (omega arith)) (joined (number_code 5 l.size) _ (number_in 5 l.size x5)
      ((omega arith, omega arith, omega arith), ((omega arith, omega arith, short 0 (omega arith)), tt)))

  parameter_in : (x : ℕ) (r : Parameter) → InRange (parameter_code l x r)
  parameter_in x r = if_all r.block _ _ (keep_in r.access 5 2 (slice_index l.blocks x) x5 (omega arith)) (give_in x 5 x5)

  parameters_in : (x : ℕ) (all : List Parameter) → InRange (parameters_code l x all)
  parameters_in x [] = tt
  parameters_in x (r ∷ more) = joined (fetch_code 5 10 (4 * x)) _ (fetch_in 5 10 (4 * x) x5 x10)
      (joined (parameter_code l x r) _ (parameter_in x r) (parameters_in (x + 1) more))

  entry_in : (all : List Parameter) → InRange (entry_code l all)
  entry_in all = joined (number_code 5 (stack_place + l.size)) _ (number_in 5 (stack_place + l.size) x5) (
    (omega arith, omega arith, over_one),
    (
      tt,
      joined (number_code 5 l.size) _ (number_in 5 l.size x5)
          ((omega arith, omega arith, omega arith), joined (keep_code a_word 1 2 0) _ (keep_in a_word 1 2 0 (omega arith) (omega arith)) (parameters_in 0 all)),
    ),
  )
    where
      over_one : IsBranchDistance (pos 8)
      over_one = (omega (arith, ints), omega (arith, ints), refl)

module _ (p : Places) (g : RoutineData) (l : Layout) where
  temporary_in : (rd t : ℕ) → rd < 2 ^ 5 → InRange (temporary_code g l rd t)
  temporary_in rd t r = if_all (is_block g t) _ _ (address_in rd 2 (slice_index l.blocks t) r (omega arith)) (fetch_in rd 2 (slot_at t) r (omega arith))

  get_in : (rd : ℕ) (a : Operand) → rd < 2 ^ 5 → InRange (get_code p g l rd a)
  get_in rd (O.Word n) r = number_in rd n r
  get_in rd O.Null r = number_in rd 0 r
  get_in rd (O.Function f) r = place_in rd (slice_index p.entries f) r
  get_in rd (O.Object n) r = place_in rd (slice_index p.objects n) r
  get_in rd (O.Temp kind t at) r = temporary_in rd t r

  both_in : (a b : Operand) → InRange (both_code p g l a b)
  both_in a b = joined (get_code p g l 5 a) _ (get_in 5 a x5) (get_in 6 b (omega arith))

  given_in : (a : Operand) (more : List Inst) (t : ℕ) → InRange more → InRange (get_code p g l 5 a ++ (more ++ give_code t 5))
  given_in a more t m = joined (get_code p g l 5 a) _ (get_in 5 a x5) (joined more _ m (give_in t 5 x5))

  both_given_in : (a b : Operand) (more : List Inst) (t : ℕ) → InRange more → InRange (both_code p g l a b ++ (more ++ give_code t 5))
  both_given_in a b more t m = joined (both_code p g l a b) _ (both_in a b) (joined more _ m (give_in t 5 x5))

  pub step_in : (s : Step) → InRange (step_code p g l s)
  step_in (S.Set t a) = joined (get_code p g l 5 a) _ (get_in 5 a x5) (give_in t 5 x5)
  step_in (S.Clear t) = tt
  step_in (S.Unary t at op a) = given_in a (unary_code op) t (unary_in op)
  step_in (S.Not t a) = given_in a not_code t ((omega arith, omega arith, short 1 (omega arith)), tt)
  step_in (S.Convert t at kind a) = given_in a (convert_code kind) t (convert_in kind)
  step_in (S.AsPointer t at a) = joined (get_code p g l 5 a) _ (get_in 5 a x5) (give_in t 5 x5)
  step_in (S.Number t at a) = joined (get_code p g l 5 a) _ (get_in 5 a x5) (give_in t 5 x5)
  step_in (S.Binary t at op kind right a b) = joined (both_code p g l a b) _ (both_in a b) (binary_in op kind, give_in t 5 x5)
  step_in (S.Compare t at op kind a b) = both_given_in a b (compare_code op kind) t (compare_in op kind)
  step_in (S.Move t at op size left kind a b) = joined (if left then both_code p g l a b else both_code p g l b a) _
      (if_all left _ _ (both_in a b) (both_in b a)) (joined (move_code op size) _ (move_in op size) (give_in t 5 x5))
  step_in (S.Distance t at size a b) = both_given_in a b (distance_code size) t (distance_in size)
  step_in (S.Update t at op size sort right a b) = both_given_in a b (update_code op size sort right) t (update_in op size sort right)
  step_in (S.Field t at by a) = given_in a (offset_code by) t (offset_in by)
  step_in (S.ElementField t at size kind by a b) = joined (both_code p g l a b) _ (both_in a b) (joined (scale_code size) _ (scale_in size)
      ((omega arith, omega arith, omega arith), joined (offset_code by) _ (offset_in by) (give_in t 5 x5)))
  step_in (S.Element t at n size addressed kind a b) = joined (both_code p g l a b) _ (both_in a b) (joined (scale_code size) _ (scale_in size)
      ((omega arith, omega arith, omega arith), give_in t 5 x5))
  step_in (S.Part t at by a) = given_in a (offset_code by) t (offset_in by)
  step_in (S.Inside t at x by) = joined (block_code l 5 x by) _ (block_in l 5 x by x5) (give_in t 5 x5)
  step_in (S.Load t at access a) = joined (get_code p g l 5 a) _ (get_in 5 a x5) (load_in access 5 5 (pos 0) x5 x5 (short 0 (omega arith)), give_in t 5 x5)
  step_in (S.Store at access a b) = joined (both_code p g l a b) _ (both_in a b) (store_in access 5 6 (pos 0) x5 (omega arith) (short 0 (omega arith)), tt)
  step_in (S.CopyRecord at size a b) = joined (get_code p g l 10 a) _ (get_in 10 a x10) (joined (get_code p g l 11 b) _ (get_in 11 b (omega arith))
      (joined (number_code 12 size) _ (number_in 12 size (omega arith)) (call_in copy_entry)))
  step_in (S.Jump to) = jump_in (place_led g l to)
  step_in (S.Branch when a to) = joined (get_code p g l 5 a) _ (get_in 5 a x5) (skip_unless_true_in when, jump_in (place_led g l to))
  step_in (S.Test at op kind when a b to) = joined (both_code p g l a b) _ (both_in a b) (skip_unless_in when op kind, jump_in (place_led g l to))
  step_in (S.Case n a to) = joined (get_code p g l 5 a) _ (get_in 5 a x5) (joined (number_code 6 n) _ (number_in 6 n (omega arith))
      ((omega arith, omega arith, over_two), jump_in (place_led g l to)))
  step_in (S.Call t at f all) = joined (row_code all) _ (address_in 10 2 (slot_at all.first) x10 (omega arith))
      (joined (call_code (slice_index p.entries f)) _ (call_in (slice_index p.entries f)) (give_in t 10 x10))
  step_in (S.CallThrough t at ty a all) = joined (get_code p g l 5 a) _ (get_in 5 a x5) (joined (row_code all) _ (address_in 10 2 (slot_at all.first) x10 (omega arith))
      ((omega arith, omega arith, short 0 (omega arith)), give_in t 10 x10))
  step_in (S.Library t at which all) = library_in which all.first t
  step_in (S.Allocate t at r size zeroed a) = joined (get_code p g l 10 a) _ (get_in 10 a x10) (joined (allocate_code size zeroed) _ (allocate_in size zeroed) (give_in t 10 x10))
  step_in (S.Begin x size) = tt
  step_in (S.End x) = tt
  step_in (S.Forget x size) = tt
  step_in (S.Zeros x size) = joined (block_code l 10 x 0) _ (block_in l 10 x 0 x10) (
    (omega arith, omega arith, short 0 (omega arith)),
    joined (number_code 12 size) _ (number_in 12 size (omega arith)) (call_in fill_entry),
  )
  step_in (S.Text x by n) = joined (block_code l 10 x by) _ (block_in l 10 x by x10) (joined (place_code 11 (slice_index l.texts n)) _
      (place_in 11 (slice_index l.texts n) (omega arith)) (joined (number_code 12 (length (get_or g.texts n []))) _ (number_in 12 (length (get_or g.texts n [])) (omega arith)) (call_in copy_entry)))
  step_in (S.Began f n) = ((omega arith, omega arith, short 0 (omega arith)), tt)
  step_in (S.Return None) = return_in l
  step_in (S.Return (Some a)) = joined (get_code p g l 10 a) _ (get_in 10 a x10) (return_in l)
  step_in (S.ReturnHeld t) = joined (temporary_code g l 10 t) _ (temporary_in 10 t x10) (return_in l)
  step_in (S.Fail kind at) = (tt, tt)

  steps_in : (all : List Step) → InRange (steps_code p g l all)
  steps_in [] = tt
  steps_in (s ∷ more) = joined (step_code p g l s) _ (step_in s) (steps_in more)

  code_in : (all : List Step) → InRange (code_if_any p g l all)
  code_in [] = tt
  code_in (s ∷ more) = joined (entry_code l g.parameters) _ (entry_in l g.parameters) (steps_in (s ∷ more))

functions_in : (p : Places) (gs : List RoutineData) (layouts : List Layout) → InRange (functions_code p gs layouts)
functions_in p [] layouts = tt
functions_in p (g ∷ more) [] = tt
functions_in p (g ∷ more) (l ∷ layouts) = joined (function_code p g l) _ (code_in p g l g.code) (functions_in p more layouts)

start_in : (stack_end main : ℕ) → stack_end < 2 ^ 32 → InRange (start_code stack_end main)
start_in stack_end main lt =
    ((omega arith, omega arith), joined (call_code main) (Addi 17 0 (pos 93) ∷ Ecall ∷ []) (call_in main) ((omega arith, omega arith, short 93 (omega arith)), (tt, tt)))

-- the stack's end has 32 bits
pub program_in : (c : Code) (stack_end : ℕ) (objects : List ℕ) (texts : ℕ) → stack_end < 2 ^ 32 → All IsInRange (program_code c stack_end objects texts)
program_in c stack_end objects texts lt = All-from_recursion IsInRange (program_code c stack_end objects texts) (joined (start_code stack_end (slice_index (entries_from first_entry c.routines) c.main)) _
    (start_in stack_end (slice_index (entries_from first_entry c.routines) c.main) lt)
    (functions_in (places_of c objects) c.routines (layouts_from first_entry texts c.routines)))
