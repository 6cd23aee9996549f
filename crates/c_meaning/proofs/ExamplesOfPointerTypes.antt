-- The definitions by computation.
use Rattle.std.proofs.Common.{◌≡◌, ℕ, zero, suc, ◌+◌, ◌*◌, ◌<◌, ◌≤◌, ◌⊎◌, inl, inr, List, [], ◌∷◌, Some, None, refl, sym, subst, arith, slice_get}
use Rattle.std.specs.List.{All}
use Rattle.std.proofs.lemmas.List.Elements.{All-from_recursion}
use Rattle.c_types.specs.declared.ty.IntKind.TheVariants as I
use Rattle.c_types.specs.Layouts.{offset_of, size_of}
use Rattle.c_types.specs.Types.{CType, integer, pointer, structure, void}
use Rattle.c_typed.specs.Typed.{field_type}
use Rattle.memory_words.specs.declared.cell_words.cell.Cell.{Cell}
use Rattle.memory_words.specs.declared.cell_words.cell.Cell.TheVariants.{Empty, Byte, Fragment}
use Rattle.memory_words.specs.declared.cell_words.pointer.Ptr.{Ptr}
use Rattle.memory_words.specs.declared.cell_words.pointer.Ptr.TheVariants as P
use Rattle.block_memory.specs.Blocks.{block, cells_in}
use Rattle.block_memory.specs.RunWorlds.Events.{allocated}
use Rattle.c_meaning.specs.Allocations.{HasElements, LiesInField, allocated_for, byte_of_record, made_for, record_size}
use Rattle.c_meaning.specs.PointerTypes.{IsClear, IsPointerTo, IsTypedCell, MayPoint, PointersAreTyped, PointsToElement, LiesInFields}
use Rattle.c_meaning.proofs.ExampleMemory.{OnlyT, made, p, to_int, to_t, to_u, to_void, with_padding}

-- ---- which block was allocated for elements

recognised : allocated_for (allocated 1 (Some (0, 2)) 16 ∷ []) 1 ≡ Some 0
recognised = refl

another_block : allocated_for (allocated 1 (Some (0, 2)) 16 ∷ []) 0 ≡ None
another_block = refl

-- `malloc` that is not converted to a pointer to a record
of_bytes : allocated_for (allocated 1 None 16 ∷ []) 1 ≡ None
of_bytes = refl

-- ---- fields and padding

eight_bytes : record_size p 0 ≡ 8
eight_bytes = refl

in_c : LiesInField p 0 0
in_c = record { field = 0; type = integer I.Char; declared = refl; from = omega arith; to = omega arith }

in_v : (k : ℕ) → k < 4 → LiesInField p 0 (4 + k)
in_v k h = record { field = 1; type = integer I.Int; declared = refl; from = (let l : 4 ≤ 4 + k = omega arith in l); to = (let l : 4 + k < 4 + 4 = omega (arith, h) in l) }

some_same : {A : Type 0} (x y : A) → Some x ≡ Some y → x ≡ y
some_same x y e = cc

none_some : {A : Type 0} (x : A) → None ≡ Some x → ⊥
none_some x e = cc

-- a field at 0 of size 1 and a field at 4 have no byte between them
between : (at field : ℕ) (type : CType) → 1 ≤ at → at < 4 → field_type (p.records) 0 field ≡ Some type → offset_of (p.records) 0 field ≤ at
    → at < offset_of (p.records) 0 field + size_of (p.records) type → ⊥
between at zero type low high e from to =
    let is : integer I.Char ≡ type = some_same (integer I.Char) type e in
    let below : at < 1 = subst (λ t. at < 0 + size_of (p.records) t) (sym is) to in
    omega (arith, low, below)
between at (suc zero) type low high e from to = let begins : 4 ≤ at = from in omega (arith, high, begins)
between at (suc (suc n)) type low high e from to = none_some type e

is_padding : (at : ℕ) → 1 ≤ at → at < 4 → LiesInField p 0 at → ⊥
is_padding at low high l = between at l.field l.type low high l.declared l.from l.to

-- ---- pointers of type `T *`

abbrev May : Cell → (type : ℕ) → Ptr → Type 0
May byte type q = MayPoint p OnlyT made (with_padding byte) type q

of_t : (byte : Cell) (q : Ptr) → PointsToElement p made (with_padding byte) 0 q → May byte to_t q
of_t byte q to = record {
  to_record = λ r a e. subst (λ n. PointsToElement p made (with_padding byte) n q) (sym a) to;
  to_other = λ never. absurd (never 0 refl refl);
}

first_element : May Empty to_t (P.Block 1 0)
first_element = of_t Empty (P.Block 1 0) (record { allocated = refl; index = 0; begins = refl; within = omega arith })

second_element : (byte : Cell) → May byte to_t (P.Block 1 8)
second_element byte = of_t byte (P.Block 1 8) (record { allocated = refl; index = 1; begins = refl; within = (let l : 8 ≤ 16 = omega arith in l) })

-- one past the last element
past_the_last : May Empty to_t (P.Block 1 16)
past_the_last = of_t Empty (P.Block 1 16) (record { allocated = refl; index = 2; begins = refl; within = omega arith })

null : May Empty to_t P.Null
null = of_t Empty P.Null tt

beyond_the_end : May Empty to_t (P.Block 1 24) → ⊥
beyond_the_end h = let within : 24 ≤ 16 = (h.to_record 0 refl refl).within in omega (arith, within)

into_the_middle : May Empty to_t (P.Block 1 4) → ⊥
into_the_middle h =
    let e = h.to_record 0 refl refl in
    let begins : 4 ≡ e.index * 8 = e.begins in
    omega (arith, begins)

to_a_local : May Empty to_t (P.Block 2 0) → ⊥
to_a_local h = none_some 0 ((h.to_record 0 refl refl).allocated)

to_a_function : May Empty to_t (P.Function 3) → ⊥
to_a_function h = h.to_record 0 refl refl

-- ---- pointers of other types

not_t : (type : ℕ) → (IsPointerTo p type 0 → ⊥) → (r : ℕ) → OnlyT r → IsPointerTo p type r → ⊥
not_t type never r a e = never (subst (λ n. IsPointerTo p type n) a e)

int_is_no_t : IsPointerTo p to_int 0 → ⊥
int_is_no_t e = let is : pointer (integer I.Int) ≡ pointer (structure 0) = e in cc

void_is_no_t : IsPointerTo p to_void 0 → ⊥
void_is_no_t e = let is : pointer void ≡ pointer (structure 0) = e in cc

u_is_no_t : IsPointerTo p to_u 0 → ⊥
u_is_no_t e = let is : pointer (structure 1) ≡ pointer (structure 0) = e in cc

to_a_field : May Empty to_int (P.Block 1 4) → ⊥
to_a_field h = (h.to_other (not_t to_int int_is_no_t)).for_none 0 refl refl

as_void : May Empty to_void (P.Block 1 0) → ⊥
as_void h = (h.to_other (not_t to_void void_is_no_t)).for_none 0 refl refl

of_another_record : May Empty to_u (P.Block 1 0) → ⊥
of_another_record h = (h.to_other (not_t to_u u_is_no_t)).for_none 0 refl refl

-- a block that is not there yet
to_the_next_block : May Empty to_int (P.Block 3 0) → ⊥
to_the_next_block h = let there : 3 < 3 = (h.to_other (not_t to_int int_is_no_t)).is_there in omega (arith, there)

elsewhere : May Empty to_int (P.Block 2 0)
elsewhere = record {
  to_record = λ r a e. absurd (not_t to_int int_is_no_t r a e);
  to_other = λ never. record { is_there = omega arith; for_none = λ r a e. none_some r e };
}

-- where the record is not among those that are spoken of, its blocks may be pointed to in any way
of_no_concern : MayPoint p (λ r. ⊥) made (with_padding Empty) to_int (P.Block 1 4)
of_no_concern = record { to_record = λ r a e. absurd a; to_other = λ never. record { is_there = omega arith; for_none = λ r a e. a } }

-- ---- memory

no_pointer : (byte : Cell) → IsClear byte → IsTypedCell p OnlyT made (with_padding byte) byte
no_pointer Empty clear = tt
no_pointer (Byte x) clear = tt
no_pointer (Fragment type q k) clear = absurd clear

whole : (byte : Cell) (b r : ℕ) → OnlyT r → made_for made b ≡ Some r → HasElements p r (block (with_padding byte) b)
whole byte zero r a e = absurd (none_some r e)
whole byte (suc zero) r a e = subst (λ n. HasElements p n (block (with_padding byte) 1)) (sym a) (record { heap = refl; count = 2; whole = refl })
whole byte (suc (suc zero)) r a e = absurd (none_some r e)
whole byte (suc (suc (suc b))) r a e = absurd (none_some r e)

pointers : (byte : Cell) → IsClear byte → All (λ one. All (IsTypedCell p OnlyT made (with_padding byte)) (cells_in one.contents)) (with_padding byte)
pointers byte clear =
    let typed = IsTypedCell p OnlyT made (with_padding byte) in
    let f = second_element byte in
    let local : All typed (cells_in (block (with_padding byte) 0).contents) =
    All-from_recursion typed (cells_in (block (with_padding byte) 0).contents) (f, (f, (f, (f, tt)))) in
    let elements : All typed (cells_in (block (with_padding byte) 1).contents) =
    All-from_recursion typed (cells_in (block (with_padding byte) 1).contents)
    (tt, (no_pointer byte clear, (tt, (tt, (tt, (tt, (tt, (tt, (tt, (tt, (tt, (tt, (tt, (tt, (tt, (tt, tt)))))))))))))))) in
    let other : All typed (cells_in (block (with_padding byte) 2).contents) =
    All-from_recursion typed (cells_in (block (with_padding byte) 2).contents) (tt, (tt, (tt, (tt, tt)))) in
    All-from_recursion (λ one. All typed (cells_in one.contents)) (with_padding byte) (local, (elements, (other, tt)))

-- each cell from a byte on lies in a field or is clear
abbrev FieldsOrClear : (at : ℕ) → List Cell → Type 0
FieldsOrClear at [] = Unit {0}
FieldsOrClear at (c ∷ more) = (LiesInField p 0 (byte_of_record p 0 at) ⊎ IsClear c) × FieldsOrClear (at + 1) more

field_or_clear : (from at : ℕ) (all : List Cell) (c : Cell) → FieldsOrClear from all → slice_get all at ≡ Some c
    → LiesInField p 0 (byte_of_record p 0 (from + at)) ⊎ IsClear c
field_or_clear from at [] c h e = absurd (none_some c e)
field_or_clear from zero (d ∷ more) c h e =
    subst (λ x. LiesInField p 0 (byte_of_record p 0 (from + 0)) ⊎ IsClear x) (some_same d c e)
    (subst (λ n. LiesInField p 0 (byte_of_record p 0 n) ⊎ IsClear d) (let n : from ≡ from + 0 = omega arith in n) h.0)
field_or_clear from (suc at) (d ∷ more) c h e =
    subst (λ n. LiesInField p 0 (byte_of_record p 0 n) ⊎ IsClear c) (let n : (from + 1) + at ≡ from + suc at = omega arith in n)
    (field_or_clear (from + 1) at more c h.1 e)

cells_clear : (byte : Cell) → IsClear byte → FieldsOrClear 0 (cells_in (block (with_padding byte) 1).contents)
cells_clear byte clear =
    let v0 = in_v 0 (omega arith) in
    let v1 = in_v 1 (omega arith) in
    let v2 = in_v 2 (omega arith) in
    let v3 = in_v 3 (omega arith) in (
      inl in_c,
      (
        inr clear,
        (
          inr tt,
          (
            inr tt,
            (
              inl v0,
              (
                inl v1,
                (
                  inl v2,
                  (
                    inl v3,
                    (inl in_c, (inr refl, (inr refl, (inr refl, (inl v0, (inl v1, (inl v2, (inl v3, tt)))))))),
                  ),
                ),
              ),
            ),
          ),
        ),
      ),
    )

clear_of : (c : Cell) (at : ℕ) → LiesInField p 0 (byte_of_record p 0 at) ⊎ IsClear c → (LiesInField p 0 (byte_of_record p 0 at) → ⊥) → IsClear c
clear_of c at (inl l) never = absurd (never l)
clear_of c at (inr clear) never = clear

padding : (byte : Cell) → IsClear byte → (b r at : ℕ) (c : Cell) → OnlyT r → made_for made b ≡ Some r
    → slice_get (cells_in (block (with_padding byte) b).contents) at ≡ Some c → (LiesInField p r (byte_of_record p r at) → ⊥) → IsClear c
padding byte clear zero r at c a e here never = absurd (none_some r e)
padding byte clear (suc zero) r at c a e here never =
    clear_of c at (subst (λ n. LiesInField p 0 (byte_of_record p 0 n) ⊎ IsClear c) (let n : 0 + at ≡ at = omega arith in n)
    (field_or_clear 0 at (cells_in (block (with_padding byte) 1).contents) c (cells_clear byte clear) here))
    (subst (λ n. LiesInField p n (byte_of_record p n at) → ⊥) a never)
padding byte clear (suc (suc zero)) r at c a e here never = absurd (none_some r e)
padding byte clear (suc (suc (suc b))) r at c a e here never = absurd (none_some r e)

typed_with : (byte : Cell) → IsClear byte → PointersAreTyped p OnlyT made (with_padding byte)
typed_with byte clear = record { each = refl; whole = whole byte; pointers = pointers byte clear; padding = padding byte clear }

nothing_in_padding : PointersAreTyped p OnlyT made (with_padding Empty)
nothing_in_padding = typed_with Empty tt

zero_in_padding : PointersAreTyped p OnlyT made (with_padding (Byte 0))
zero_in_padding = typed_with (Byte 0) refl

byte_in_padding : PointersAreTyped p OnlyT made (with_padding (Byte 9)) → ⊥
byte_in_padding h =
    let clear : 9 ≡ 0 = h.padding 1 0 1 (Byte 9) refl refl refl (is_padding 1 (omega arith) (omega arith)) in
    omega (arith, clear)

-- ---- loads

reads_v : LiesInFields p OnlyT made 1 4 4
reads_v r k a e small = go k small
  where
    read : (k : ℕ) → k < 4 → LiesInField p 0 (byte_of_record p 0 (4 + k)) → LiesInField p r (byte_of_record p r (4 + k))
    read k small l = subst (λ n. LiesInField p n (byte_of_record p n (4 + k))) (sym a) l

    go : (k : ℕ) → k < 4 → LiesInField p r (byte_of_record p r (4 + k))
    go zero h = read 0 h (in_v 0 h)
    go (suc zero) h = read 1 h (in_v 1 h)
    go (suc (suc zero)) h = read 2 h (in_v 2 h)
    go (suc (suc (suc zero))) h = read 3 h (in_v 3 h)
    go (suc (suc (suc (suc n)))) h = absurd (omega (arith, h))

-- the first field and the byte behind it
reads_padding : LiesInFields p OnlyT made 1 0 2 → ⊥
reads_padding h = is_padding 1 (omega arith) (omega arith) (h 0 1 refl refl (omega arith))

-- a block that was not allocated for one of the records
reads_a_local : LiesInFields p OnlyT made 2 1 2
reads_a_local r k a e small = absurd (none_some r e)
