-- How many words steps take.
use Rattle.std.proofs.Common.{ℕ, ◌+◌, ◌*◌, ◌≤◌, Bool, true, false, List, [], ◌∷◌, ◌++◌, length, Option, Some, None, arith}
use Rattle.std.proofs.Common.{if◌then◌else◌, length-append}
use Rattle.std.specs.Prelude.{◌==◌, nat_lt, fold, get_or, pos, slice_index}
use Rattle.block_memory.specs.RunWorlds.Operators.{common_kind, pointer_op}
use Rattle.block_memory.specs.declared.kinds.Access.{Access}
use Rattle.c_types.specs.declared.ty.IntKind.{IntKind}
use Rattle.c_types.specs.declared.ty.IntKind.TheVariants as K
use Rattle.c_typed.specs.declared.operators.BinaryOp.{BinaryOp}
use Rattle.c_typed.specs.declared.operators.CompareOp.{CompareOp}
use Rattle.c_typed.specs.declared.operators.CompareOp.TheVariants as C
use Rattle.c_typed.specs.declared.operators.LibraryFunction.{LibraryFunction}
use Rattle.c_typed.specs.declared.operators.LibraryFunction.TheVariants as L
use Rattle.c_typed.specs.declared.operators.PointerOp.{PointerOp}
use Rattle.c_typed.specs.declared.operators.UnaryOp.{UnaryOp}
use Rattle.c_typed.specs.declared.operators.UnaryOp.TheVariants as U
use Rattle.rv_isa.specs.declared.instruction.Inst.{Inst}
use Rattle.rv_isa.specs.declared.instruction.Inst.TheVariants.{Lui, Jalr, Bne, Bgeu, Lw, Addi, Add, Sub, Mul, Div, Sltiu, Slli, Ebreak}
use Rattle.rv_isa.specs.Events.{malloc_entry, calloc_entry, free_entry}
use Rattle.rv_runtime.specs.Routines.{exit_entry, copy_entry, fill_entry, compare_entry}
use Rattle.tac_ir.specs.Code.{RoutineData}
use Rattle.tac_ir.specs.declared.step.Operand.{Operand}
use Rattle.tac_ir.specs.declared.step.Operand.TheVariants as O
use Rattle.tac_ir.specs.declared.step.Parameter.{Parameter}
use Rattle.tac_ir.specs.declared.step.Sort.{Sort}
use Rattle.tac_ir.specs.declared.step.Sort.TheVariants as Sorts
use Rattle.tac_ir.specs.declared.step.Step.{Step}
use Rattle.tac_ir.specs.declared.step.Step.TheVariants as S
use Rattle.rv_code.specs.Code.{step_code, entry_code, parameter_code, parameters_code, get_code, get_if_any, both_code, temporary_code, is_block}
use Rattle.rv_code.specs.Code.{give_code, one_code, two_code, three_code, answer_code, library_code, allocate_code, update_code}
use Rattle.rv_code.specs.Code.{return_code, write_code, read_code, stack_place, a_word, place_led}
use Rattle.rv_code.specs.Frames.{slot_at}
use Rattle.rv_code.specs.Operators.{unary_code, convert_code, binary_code, compare_code, skip_unless, skip_unless_true, scale_code, pointer_code}
use Rattle.rv_code.specs.Operators.{move_code, offset_code, distance_code}
use Rattle.rv_code.specs.Programs.{no_places, frame_alone, words_of, words_of_all}
use Rattle.rv_code.specs.Words.{upper, lower, number_code, place_code, load_by, store_by, fetch_code, keep_code, address_code, jump_code, call_code}
use Rattle.rv_code.specs.declared.layout.Layout.{Layout}
use Rattle.rv_code.specs.declared.layout.Places.{Places}
use Rattle.code_bounds.specs.Prices.{in_bytes, price_of, price_of_all, price_of_code, price_of_parameters}
use Rattle.code_bounds.specs.CompiledLaws.{WordsArePaid, FunctionsArePaid}

sum : (a b : List Inst) (n m : ℕ) → length a ≤ n → length b ≤ m → length (a ++ b) ≤ n + m
sum a b n m h k = let e = length-append a b in omega (arith, e, h, k)

one_more : (i : Inst) (a : List Inst) (n : ℕ) → length a ≤ n → length (i ∷ a) ≤ n + 1
one_more i a n h = omega (arith, h)

either_few : (t : Bool) (a b : List Inst) (n : ℕ) → length a ≤ n → length b ≤ n → length (if t then a else b) ≤ n
either_few true a b n h k = h
either_few false a b n h k = k

none_few : length {A = Inst} [] ≤ 0
none_few = omega arith

-- ---- numbers, places and words of memory

number_few : (rd n : ℕ) → length (number_code rd n) ≤ 2
number_few rd n = either_few (upper n == 0) (Addi rd 0 (lower n) ∷ []) (Lui rd (upper n) ∷ Addi rd rd (lower n) ∷ []) 2 (omega arith) (omega arith)

place_few : (rd place : ℕ) → length (place_code rd place) ≤ 2
place_few rd place = omega arith

jump_few : (place : ℕ) → length (jump_code place) ≤ 2
jump_few place = omega arith

call_few : (place : ℕ) → length (call_code place) ≤ 2
call_few place = omega arith

fetch_few : (rd base offset : ℕ) → length (fetch_code rd base offset) ≤ 3
fetch_few rd base offset =
    either_few (nat_lt offset 2048) (Lw rd base (pos offset) ∷ []) (Lui rd (upper offset) ∷ Add rd rd base ∷ Lw rd rd (lower offset) ∷ []) 3
    (omega arith) (omega arith)

keep_few : (access : Access) (rs base offset : ℕ) → length (keep_code access rs base offset) ≤ 3
keep_few access rs base offset =
    either_few (nat_lt offset 2048) (store_by access base rs (pos offset) ∷ [])
    (Lui 7 (upper offset) ∷ Add 7 7 base ∷ store_by access 7 rs (lower offset) ∷ []) 3 (omega arith) (omega arith)

address_few : (rd base offset : ℕ) → length (address_code rd base offset) ≤ 3
address_few rd base offset =
    either_few (nat_lt offset 2048) (Addi rd base (pos offset) ∷ []) (Lui rd (upper offset) ∷ Addi rd rd (lower offset) ∷ Add rd rd base ∷ []) 3
    (omega arith) (omega arith)

give_few : (t rs : ℕ) → length (give_code t rs) ≤ 3
give_few t rs = keep_few a_word rs 2 (slot_at t)

-- ---- operators

unary_few : (op : UnaryOp) → length (unary_code op) ≤ 1
unary_few U.Plus = omega arith
unary_few U.Minus = omega arith
unary_few U.Complement = omega arith

convert_few : (kind : IntKind) → length (convert_code kind) ≤ 2
convert_few K.Char = omega arith
convert_few K.SChar = omega arith
convert_few K.UChar = omega arith
convert_few K.Short = omega arith
convert_few K.UShort = omega arith
convert_few K.Int = omega arith
convert_few K.UInt = omega arith
convert_few K.Long = omega arith
convert_few K.ULong = omega arith

compare_few : (op : CompareOp) (kind : IntKind) → length (compare_code op kind) ≤ 2
compare_few C.Equal kind = omega arith
compare_few C.NotEqual kind = omega arith
compare_few C.Less kind = omega arith
compare_few C.Greater kind = omega arith
compare_few C.LessEqual kind = omega arith
compare_few C.GreaterEqual kind = omega arith

scale_few : (size : ℕ) → length (scale_code size) ≤ 3
scale_few size =
    either_few (size == 1) [] (if size == 4 then Slli 6 6 (pos 2) ∷ [] else number_code 7 size ++ Mul 6 6 7 ∷ []) 3 (omega arith)
    (either_few (size == 4) (Slli 6 6 (pos 2) ∷ []) (number_code 7 size ++ Mul 6 6 7 ∷ []) 3 (omega arith)
    (sum (number_code 7 size) (Mul 6 6 7 ∷ []) 2 1 (number_few 7 size) (omega arith)))

move_few : (op : PointerOp) (size : ℕ) → length (move_code op size) ≤ 4
move_few op size = sum (scale_code size) (pointer_code op ∷ []) 3 1 (scale_few size) (omega arith)

offset_few : (by : ℕ) → length (offset_code by) ≤ 3
offset_few by =
    either_few (by == 0) [] (if nat_lt by 2048 then Addi 5 5 (pos by) ∷ [] else number_code 6 by ++ Add 5 5 6 ∷ []) 3 (omega arith)
    (either_few (nat_lt by 2048) (Addi 5 5 (pos by) ∷ []) (number_code 6 by ++ Add 5 5 6 ∷ []) 3 (omega arith)
    (sum (number_code 6 by) (Add 5 5 6 ∷ []) 2 1 (number_few 6 by) (omega arith)))

distance_few : (size : ℕ) → length (distance_code size) ≤ 4
distance_few size =
    one_more (Sub 5 5 6) (number_code 6 size ++ Div 5 5 6 ∷ []) 3 (sum (number_code 6 size) (Div 5 5 6 ∷ []) 2 1 (number_few 6 size) (omega arith))

update_few : (op : BinaryOp) (size : ℕ) (sort : Sort) (right : IntKind) → length (update_code op size sort right) ≤ 5
update_few op size (Sorts.Number kind) right =
    sum (convert_code (common_kind op kind right)) (binary_code op (common_kind op kind right) ∷ convert_code kind) 2 3
    (convert_few (common_kind op kind right)) (one_more (binary_code op (common_kind op kind right)) (convert_code kind) 2 (convert_few kind))
update_few op size Sorts.Pointer right = let h = move_few (pointer_op op) size in omega (arith, h)

-- ---- the library

one_few : (first : ℕ) → length (one_code first) ≤ 3
one_few first = fetch_few 10 2 (slot_at first)

two_few : (first : ℕ) → length (two_code first) ≤ 6
two_few first = sum (one_code first) (fetch_code 11 2 (slot_at (first + 1))) 3 3 (one_few first) (fetch_few 11 2 (slot_at (first + 1)))

three_few : (first : ℕ) → length (three_code first) ≤ 9
three_few first = sum (two_code first) (fetch_code 12 2 (slot_at (first + 2))) 6 3 (two_few first) (fetch_few 12 2 (slot_at (first + 2)))

answer_few : (place t : ℕ) → length (answer_code place t) ≤ 5
answer_few place t = sum (call_code place) (give_code t 10) 2 3 (call_few place) (give_few t 10)

library_few : (which : LibraryFunction) (first t : ℕ) → length (library_code which first t) ≤ 14
library_few L.Malloc first t = let h = sum (one_code first) (answer_code malloc_entry t) 3 5 (one_few first) (answer_few malloc_entry t) in omega (arith, h)
library_few L.Calloc first t = let h = sum (two_code first) (answer_code calloc_entry t) 6 5 (two_few first) (answer_few calloc_entry t) in omega (arith, h)
library_few L.Free first t = let h = sum (one_code first) (call_code free_entry) 3 2 (one_few first) (call_few free_entry) in omega (arith, h)
library_few L.Memcpy first t = sum (three_code first) (answer_code copy_entry t) 9 5 (three_few first) (answer_few copy_entry t)
library_few L.Memmove first t = sum (three_code first) (answer_code copy_entry t) 9 5 (three_few first) (answer_few copy_entry t)
library_few L.Memset first t = sum (three_code first) (answer_code fill_entry t) 9 5 (three_few first) (answer_few fill_entry t)
library_few L.Memcmp first t = sum (three_code first) (answer_code compare_entry t) 9 5 (three_few first) (answer_few compare_entry t)
library_few L.Putchar first t =
    sum (one_code first) (write_code ++ give_code t 5) 3 11 (one_few first) (sum write_code (give_code t 5) 8 3 (omega arith) (give_few t 5))
library_few L.Getchar first t = let h = sum read_code (give_code t 5) 10 3 (omega arith) (give_few t 5) in omega (arith, h)
library_few L.Exit first t = let h = sum (one_code first) (jump_code exit_entry) 3 2 (one_few first) (jump_few exit_entry) in omega (arith, h)

allocate_few : (size : ℕ) (zeroed : Bool) → length (allocate_code size zeroed) ≤ 5
allocate_few size true = let h = sum (number_code 11 size) (call_code calloc_entry) 2 2 (number_few 11 size) (call_few calloc_entry) in omega (arith, h)
allocate_few size false = sum (number_code 11 size) (Mul 10 10 11 ∷ call_code malloc_entry) 2 3 (number_few 11 size) (omega arith)

-- ---- steps

module _ (l : Layout) where
  return_few : length (return_code l) ≤ 7
  return_few =
      sum (fetch_code 1 2 0) (number_code 5 l.size ++ (Add 2 2 5 ∷ Jalr 0 1 (pos 0) ∷ [])) 3 4 (fetch_few 1 2 0)
      (sum (number_code 5 l.size) (Add 2 2 5 ∷ Jalr 0 1 (pos 0) ∷ []) 2 2 (number_few 5 l.size) (omega arith))

  parameter_few : (x : ℕ) (r : Parameter) → length (parameter_code l x r) ≤ 3
  parameter_few x r =
      either_few r.block (keep_code r.access 5 2 (slice_index l.blocks x)) (give_code x 5) 3 (keep_few r.access 5 2 (slice_index l.blocks x)) (give_few x 5)

  parameters_few : (x : ℕ) (all : List Parameter) → 4 * length (parameters_code l x all) ≤ price_of_parameters in_bytes all
  parameters_few x [] = omega arith
  parameters_few x (r ∷ more) =
      let a = length-append (fetch_code 5 10 (4 * x)) (parameter_code l x r ++ parameters_code l (x + 1) more) in
      let b = length-append (parameter_code l x r) (parameters_code l (x + 1) more) in
      let d = fetch_few 5 10 (4 * x) in
      let e = parameter_few x r in
      let h = parameters_few (x + 1) more in omega (arith, a, b, d, e, h)

  pub entry_few : (all : List Parameter) → 4 * length (entry_code l all) ≤ 44 + price_of_parameters in_bytes all
  entry_few all =
      let a = length-append (number_code 5 (stack_place + l.size)) (Bgeu 2 5 (pos 8) ∷ Ebreak ∷ (number_code 5 l.size ++ rest)) in
      let b = length-append (number_code 5 l.size) rest in
      let d = length-append (keep_code a_word 1 2 0) (parameters_code l 0 all) in
      let e = number_few 5 (stack_place + l.size) in
      let h = number_few 5 l.size in
      let i = keep_few a_word 1 2 0 in
      let k = parameters_few 0 all in omega (arith, a, b, d, e, h, i, k)
    where
      rest : List Inst
      rest = Sub 2 2 5 ∷ (keep_code a_word 1 2 0 ++ parameters_code l 0 all)

module _ (p : Places) (g : RoutineData) (l : Layout) where
  temporary_few : (rd t : ℕ) → length (temporary_code g l rd t) ≤ 3
  temporary_few rd t =
      either_few (is_block g t) (address_code rd 2 (slice_index l.blocks t)) (fetch_code rd 2 (slot_at t)) 3 (address_few rd 2 (slice_index l.blocks t))
      (fetch_few rd 2 (slot_at t))

  get_few : (rd : ℕ) (a : Operand) → length (get_code p g l rd a) ≤ 3
  get_few rd (O.Word n) = let h = number_few rd n in omega (arith, h)
  get_few rd O.Null = let h = number_few rd 0 in omega (arith, h)
  get_few rd (O.Function f) = omega arith
  get_few rd (O.Object n) = omega arith
  get_few rd (O.Temp kind t at) = temporary_few rd t

  any_few : (a : Option Operand) → length (get_if_any p g l a) ≤ 3
  any_few None = omega arith
  any_few (Some a) = get_few 10 a

  both_few : (a b : Operand) → length (both_code p g l a b) ≤ 6
  both_few a b = sum (get_code p g l 5 a) (get_code p g l 6 b) 3 3 (get_few 5 a) (get_few 6 b)

  -- four bytes a word
  step_few : (s : Step) → 4 * length (step_code p g l s) ≤ price_of in_bytes s
  step_few (S.Set t a) = let h = sum _ _ 3 3 (get_few 5 a) (give_few t 5) in omega (arith, h)
  step_few (S.Clear t) = omega arith
  step_few (S.Unary t at op a) = let h = sum _ _ 3 4 (get_few 5 a) (sum _ _ 1 3 (unary_few op) (give_few t 5)) in omega (arith, h)
  step_few (S.Not t a) =
      let h = sum _ (Sltiu 5 5 (pos 1) ∷ give_code t 5) 3 4 (get_few 5 a) (one_more (Sltiu 5 5 (pos 1)) _ 3 (give_few t 5)) in omega (arith, h)
  step_few (S.Convert t at kind a) = let h = sum _ _ 3 5 (get_few 5 a) (sum _ _ 2 3 (convert_few kind) (give_few t 5)) in omega (arith, h)
  step_few (S.AsPointer t at a) = let h = sum _ _ 3 3 (get_few 5 a) (give_few t 5) in omega (arith, h)
  step_few (S.Number t at a) = let h = sum _ _ 3 3 (get_few 5 a) (give_few t 5) in omega (arith, h)
  step_few (S.Binary t at op kind right a b) =
      let h = sum _ (binary_code op kind ∷ give_code t 5) 6 4 (both_few a b) (one_more (binary_code op kind) _ 3 (give_few t 5)) in omega (arith, h)
  step_few (S.Compare t at op kind a b) = let h = sum _ _ 6 5 (both_few a b) (sum _ _ 2 3 (compare_few op kind) (give_few t 5)) in omega (arith, h)
  step_few (S.Move t at op size left kind a b) =
      let h = sum _ _ 6 7 (either_few left (both_code p g l a b) (both_code p g l b a) 6 (both_few a b) (both_few b a))
      (sum _ _ 4 3 (move_few op size) (give_few t 5)) in omega (arith, h)
  step_few (S.Distance t at size a b) =
      let h = sum _ (distance_code size ++ give_code t 5) 6 7 (both_few a b)
      (sum (distance_code size) (give_code t 5) 4 3 (distance_few size) (give_few t 5)) in omega (arith, h)
  step_few (S.Update t at op size sort right a b) =
      let h = sum _ _ 6 8 (both_few a b) (sum _ _ 5 3 (update_few op size sort right) (give_few t 5)) in omega (arith, h)
  step_few (S.Field t at by a) = let h = sum _ _ 3 6 (get_few 5 a) (sum _ _ 3 3 (offset_few by) (give_few t 5)) in omega (arith, h)
  step_few (S.ElementField t at size kind by a b) =
      let h = sum _ _ 6 10 (both_few a b) (sum _ (Add 5 5 6 ∷ (offset_code by ++ give_code t 5)) 3 7 (scale_few size) (one_more (Add 5 5 6) _ 6
      (sum _ _ 3 3 (offset_few by) (give_few t 5)))) in omega (arith, h)
  step_few (S.Element t at n size addressed kind a b) =
      let h = sum _ _ 6 7 (both_few a b)
      (sum _ (Add 5 5 6 ∷ give_code t 5) 3 4 (scale_few size) (one_more (Add 5 5 6) _ 3 (give_few t 5))) in omega (arith, h)
  step_few (S.Part t at by a) = let h = sum _ _ 3 6 (get_few 5 a) (sum _ _ 3 3 (offset_few by) (give_few t 5)) in omega (arith, h)
  step_few (S.Inside t at x by) = let h = sum _ _ 3 3 (address_few 5 2 (slice_index l.blocks x + by)) (give_few t 5) in omega (arith, h)
  step_few (S.Load t at access a) =
      let h = sum _ (load_by access 5 5 (pos 0) ∷ give_code t 5) 3 4 (get_few 5 a)
      (one_more (load_by access 5 5 (pos 0)) _ 3 (give_few t 5)) in omega (arith, h)
  step_few (S.Store at access a b) =
      let h = sum _ (store_by access 5 6 (pos 0) ∷ []) 6 1 (both_few a b) (one_more (store_by access 5 6 (pos 0)) [] 0 none_few) in omega (arith, h)
  step_few (S.CopyRecord at size a b) =
      let h = sum _ _ 3 7 (get_few 10 a) (sum _ _ 3 4 (get_few 11 b)
      (sum _ (call_code copy_entry) 2 2 (number_few 12 size) (call_few copy_entry))) in omega (arith, h)
  step_few (S.Jump to) = let h = jump_few (place_led g l to) in omega (arith, h)
  step_few (S.Branch when a to) =
      let h = sum _ (skip_unless_true when ∷ jump_code (place_led g l to)) 3 3 (get_few 5 a)
      (one_more (skip_unless_true when) (jump_code (place_led g l to)) 2 (jump_few (place_led g l to))) in omega (arith, h)
  step_few (S.Test at op kind when a b to) =
      let h = sum _ (skip_unless when op kind ∷ jump_code (place_led g l to)) 6 3 (both_few a b)
      (one_more (skip_unless when op kind) (jump_code (place_led g l to)) 2 (jump_few (place_led g l to))) in omega (arith, h)
  step_few (S.Case n a to) =
      let h = sum _ _ 3 5 (get_few 5 a)
      (sum _ (Bne 5 6 (pos 12) ∷ jump_code (place_led g l to)) 2 3 (number_few 6 n)
      (one_more (Bne 5 6 (pos 12)) (jump_code (place_led g l to)) 2 (jump_few (place_led g l to)))) in omega (arith, h)
  step_few (S.Call t at f all) =
      let h = sum _ (call_code (slice_index p.entries f) ++ give_code t 10) 3 5 (address_few 10 2 (slot_at all.first))
      (sum (call_code (slice_index p.entries f)) (give_code t 10) 2 3 (call_few (slice_index p.entries f)) (give_few t 10)) in omega (arith, h)
  step_few (S.CallThrough t at ty a all) =
      let h = sum _ _ 3 7 (get_few 5 a)
      (sum _ (Jalr 1 5 (pos 0) ∷ give_code t 10) 3 4 (address_few 10 2 (slot_at all.first))
      (one_more (Jalr 1 5 (pos 0)) _ 3 (give_few t 10))) in omega (arith, h)
  step_few (S.Library t at which all) = let h = library_few which all.first t in omega (arith, h)
  step_few (S.Allocate t at r size zeroed a) =
      let h = sum _ _ 3 8 (get_few 10 a) (sum _ _ 5 3 (allocate_few size zeroed) (give_few t 10)) in omega (arith, h)
  step_few (S.Begin x size) = omega arith
  step_few (S.End x) = omega arith
  step_few (S.Forget x size) = omega arith
  step_few (S.Zeros x size) =
      let h = sum _ (Addi 11 0 (pos 0) ∷ (number_code 12 size ++ call_code fill_entry)) 3 5 (address_few 10 2 (slice_index l.blocks x + 0))
      (one_more (Addi 11 0 (pos 0)) _ 4 (sum _ (call_code fill_entry) 2 2 (number_few 12 size) (call_few fill_entry))) in omega (arith, h)
  step_few (S.Text x by n) =
      let h = sum _ (place_code 11 (slice_index l.texts n) ++ (number_code 12 (length (get_or g.texts n [])) ++ call_code copy_entry)) 3 6
      (address_few 10 2 (slice_index l.blocks x + by))
      (sum (place_code 11 (slice_index l.texts n)) (number_code 12 (length (get_or g.texts n [])) ++ call_code copy_entry) 2 4
      (place_few 11 (slice_index l.texts n))
      (sum _ (call_code copy_entry) 2 2 (number_few 12 (length (get_or g.texts n []))) (call_few copy_entry))) in omega (arith, h)
  step_few (S.Began f n) = omega arith
  step_few (S.Return a) = let h = sum (get_if_any p g l a) (return_code l) 3 7 (any_few a) (return_few l) in omega (arith, h)
  step_few (S.ReturnHeld t) = let h = sum (temporary_code g l 10 t) (return_code l) 3 7 (temporary_few 10 t) (return_few l) in omega (arith, h)
  step_few (S.Fail kind at) = omega arith

pub words_are_paid : WordsArePaid
words_are_paid g s = step_few no_places g (frame_alone g) s

all_paid : (g : RoutineData) (n : ℕ) (all : List Step) → 4 * fold (λ k s. k + words_of g s) n all ≤ 4 * n + price_of_all in_bytes all
all_paid g n [] = omega arith
all_paid g n (s ∷ more) = let a = all_paid g (n + words_of g s) more in let b = words_are_paid g s in omega (arith, a, b)

pub functions_are_paid : FunctionsArePaid
functions_are_paid g = by_code g.code
  where
    by_code : (all : List Step) → 4 * words_of_all g all ≤ price_of_code in_bytes g.parameters all
    by_code [] = omega arith
    by_code (s ∷ more) =
        let a = all_paid g 0 (s ∷ more) in
        let b = entry_few (frame_alone g) g.parameters in omega (arith, a, b)
