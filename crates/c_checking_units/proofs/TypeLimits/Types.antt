-- Types within the limits: each array in one was within them when it was made, of elements that were complete then. So it stays, where more
-- records are complete.
use Rattle.std.proofs.Common.{◌≡◌, ℕ, ◌+◌, ◌*◌, ◌≤◌, ◌<◌, sym, ap, ◌∙◌, subst, List, [], ◌++◌, length, arith, append-nil, append_assoc, length-append}
use Rattle.c_types.proofs.Growing.{layouts_stay}
use Rattle.c_types.specs.declared.ty.IntKind.{IntKind}
use Rattle.c_types.specs.declared.ty.IntKind.TheVariants as K
use Rattle.c_types.specs.IntKinds.{width}
use Rattle.c_types.specs.Layouts.{size_of}
use Rattle.c_types.specs.Objects.{parts, parts_of_all}
use Rattle.c_types.specs.Types.{CType, CTypes, void, integer, pointer, array, function, structure, no_types, and_type, Record}
use Rattle.c_erasure.specs.Declarators.{IsSmall}
use Rattle.c_checking_laws.proofs.Settled.{object_more}
use Rattle.c_checking_units.specs.TypeLimits.Limits.{HasSmallArrays, HaveSmallArrays}

-- ---- parts: a function's type counts with the pointer that its name becomes

abbrev pub parts_as_value : CType → ℕ
parts_as_value (function t all) = parts (function t all) + 1
parts_as_value t = parts t

pub record IsWithin (records : List Record) (t : CType) : Type 0 where
  pub arrays : HasSmallArrays records t
  pub parts : parts_as_value t ≤ 1024

abbrev pub AreWithin : List Record → CTypes → Type 0
AreWithin records no_types = Unit {0}
AreWithin records (and_type t more) = IsWithin records t × AreWithin records more

-- ---- more records

pub record IsLonger (records all : List Record) : Type 0 where
  pub more : List Record
  pub are : all ≡ records ++ more

pub same_list : (records : List Record) → IsLonger records records
same_list records = record { more = []; are = sym (append-nil records) }

pub longer_still : {a b c : List Record} → IsLonger a b → IsLonger b c → IsLonger a c
longer_still {a} p q = record { more = p.more ++ q.more; are = q.are ∙ ap (λ z. z ++ q.more) p.are ∙ append_assoc a p.more q.more }

module _ (records more : List Record) where
  mutual
    arrays_stay : (t : CType) → HasSmallArrays records t → HasSmallArrays (records ++ more) t
    arrays_stay void h = h
    arrays_stay (integer kind) h = h
    arrays_stay (pointer t) h = arrays_stay t h
    arrays_stay (array t n) h = (
      object_more (length records) (length (records ++ more)) (let l = length-append records more in omega (arith, l)) t h.0,
      subst (λ size. size * n ≤ 16777216) (sym ((layouts_stay records more).sizes t h.0)) h.1,
      arrays_stay t h.2,
    )
    arrays_stay (function t all) h = (arrays_stay t h.0, all_stay all h.1)
    arrays_stay (structure r) h = h

    all_stay : (all : CTypes) → HaveSmallArrays records all → HaveSmallArrays (records ++ more) all
    all_stay no_types h = h
    all_stay (and_type t all) h = (arrays_stay t h.0, all_stay all h.1)

pub stays : {records all : List Record} → IsLonger records all → (t : CType) → IsWithin records t → IsWithin all t
stays {records} p t h = subst (λ all. IsWithin all t) (sym p.are) (record { arrays = arrays_stay records p.more t h.arrays; parts = h.parts })

pub all_stay_within : {records all : List Record} → IsLonger records all → (ts : CTypes) → AreWithin records ts → AreWithin all ts
all_stay_within p no_types h = h
all_stay_within p (and_type t more) h = (stays p t h.0, all_stay_within p more h.1)

-- ---- what types are made of, and what is made of them

some_parts : (t : CType) → 1 ≤ parts t
some_parts void = omega arith
some_parts (integer kind) = omega arith
some_parts (pointer t) = omega arith
some_parts (array t n) = omega arith
some_parts (function t all) = omega arith
some_parts (structure r) = omega arith

no_more : (t : CType) → parts_as_value t ≤ parts t + 1
no_more (function t all) = omega arith
no_more void = omega arith
no_more (integer kind) = omega arith
no_more (pointer t) = omega arith
no_more (array t n) = omega arith
no_more (structure r) = omega arith

no_fewer : (t : CType) → parts t ≤ parts_as_value t
no_fewer (function t all) = omega arith
no_fewer void = omega arith
no_fewer (integer kind) = omega arith
no_fewer (pointer t) = omega arith
no_fewer (array t n) = omega arith
no_fewer (structure r) = omega arith

module _ (records : List Record) where
  abbrev W : CType → Type 0
  W t = IsWithin records t

  pub void_within : W void
  void_within = record { arrays = tt; parts = omega arith }

  pub number_within : (kind : IntKind) → W (integer kind)
  number_within kind = record { arrays = tt; parts = omega arith }

  pub record_within : (r : ℕ) → W (structure r)
  record_within r = record { arrays = tt; parts = omega arith }

  pub void_pointer_within : W (pointer void)
  void_pointer_within = record { arrays = tt; parts = omega arith }

  pub record_pointer_within : (r : ℕ) → W (pointer (structure r))
  record_pointer_within r = record { arrays = tt; parts = omega arith }

  pub pointed_within : (t : CType) → W (pointer t) → W t
  pointed_within t h = record { arrays = h.arrays; parts = omega (arith, h.parts, no_more t) }

  pub element_within : (t : CType) (n : ℕ) → W (array t n) → W t
  element_within t n h = record { arrays = h.arrays.2; parts = omega (arith, h.parts, no_more t) }

  pub decayed_within : (t : CType) (n : ℕ) → W (array t n) → W (pointer t)
  decayed_within t n h = record { arrays = h.arrays.2; parts = omega (arith, h.parts) }

  pub result_within : (t : CType) (all : CTypes) → W (function t all) → W t
  result_within t all h = record { arrays = h.arrays.0; parts = omega (arith, h.parts, no_more t) }

  pub function_pointer_within : (t : CType) (all : CTypes) → W (function t all) → W (pointer (function t all))
  function_pointer_within t all h = record { arrays = h.arrays; parts = omega (arith, h.parts) }

  pub pointer_within : (t : CType) → W t → parts t < 1024 → W (pointer t)
  pointer_within t h l = record { arrays = h.arrays; parts = omega (arith, l) }

  each_parameter : (n : ℕ) (all : CTypes) → HaveSmallArrays records all → parts_of_all all + n ≤ 1023 → AreWithin records all
  each_parameter n no_types h l = tt
  each_parameter n (and_type t more) h l =
      (record { arrays = h.0; parts = omega (arith, l, no_more t) }, each_parameter n more h.1 (omega (arith, l)))

  pub parameters_within : (t : CType) (all : CTypes) → W (function t all) → AreWithin records all
  parameters_within t all h = each_parameter 0 all h.arrays.1 (omega (arith, h.parts, some_parts t))

  -- ---- the limits themselves

  width_small : (kind : IntKind) → width kind ≤ 16777216
  width_small K.Char = omega arith
  width_small K.SChar = omega arith
  width_small K.UChar = omega arith
  width_small K.Short = omega arith
  width_small K.UShort = omega arith
  width_small K.Int = omega arith
  width_small K.UInt = omega arith
  width_small K.Long = omega arith
  width_small K.ULong = omega arith

  size_small : ((r : ℕ) → size_of records (structure r) ≤ 16777216) → (t : CType) → HasSmallArrays records t → size_of records t ≤ 16777216
  size_small known void h = omega arith
  size_small known (integer kind) h = width_small kind
  size_small known (pointer t) h = omega arith
  size_small known (array t n) h = h.1
  size_small known (function t all) h = omega arith
  size_small known (structure r) h = known r

  pub within_is_small : ((r : ℕ) → size_of records (structure r) ≤ 16777216) → (t : CType) → W t → IsSmall records t
  within_is_small known t h = record { bytes = size_small known t h.arrays; parts = omega (arith, h.parts, no_fewer t) }
