-- Sizes and parts within the limits of types.
use Rattle.std.proofs.Common.{◌≡◌, ◌∙◌, ◌≤◌, ℕ, zero, suc, ◌*◌, ◌-◌, ◌^◌, List, [], length, false, true, Some, refl, sym, ap, arith}
use Rattle.std.specs.Prelude.{Bool, min, nat_le, nat_lt, unwrap_or, Option, is_some, ◌&&◌}
use Rattle.std.specs.Bool.{then_some}
use Rattle.std.proofs.lemmas.Bool.{lt-ltb, ltb-false}
use Rattle.std.proofs.lemmas.Option.{slice_get_past}
use Rattle.std.proofs.lemmas.List.{length-map}
use Rattle.c_types.specs.declared.layout.Layout.{Layout}
use Rattle.c_types.specs.declared.record.Record as R
use Rattle.c_types.specs.Types.{CType, void, integer, pointer, array, function, structure, Record}
use Rattle.c_types.specs.Layouts.{layouts, size_of}
use Rattle.c_types.specs.Limits.{size_if_small}
use Rattle.c_types.specs.Objects.{is_object, parts}
use Rattle.c_types.specs.Views.{record_of, records_of}
use Rattle.c_erasure.specs.Checking.Declaring.{is_small}
use Rattle.c_types.proofs.Before.{length-layouts}

-- what is no object has no bytes
no_size : (records : List Record) (t : CType) → is_object (length records) t ≡ false → size_of records t ≡ 0
no_size records void h = refl
no_size records (integer kind) h = cc
no_size records (pointer t) h = cc
no_size records (array t zero) h = omega arith
no_size records (array t (suc n)) h =
    let some : nat_lt 0 (suc n) ≡ true = lt-ltb 0 (suc n) (omega arith) in
    let none : is_object (length records) t ≡ false = ap (λ b. b && is_object (length records) t) (sym some) ∙ h in
    ap (λ size. size * suc n) (no_size records t none) ∙ omega arith
no_size records (function t all) h = refl
no_size records (structure number) h =
    let past : length (layouts records) ≤ number = rw (length-layouts records) (ltb-false number (length records) h) in
    ap (λ o. (unwrap_or {T = Layout} o (record { offsets = []; size = 0; alignment = 1 })).size) (slice_get_past (layouts records) number past)

pub small_of_none : (records : List R.Record) (t : CType) → is_object (length records) t ≡ false
    → true ≡ nat_le (size_of (records_of records) t) 16777216
small_of_none records t h =
    ap (λ size. nat_le size 16777216) (sym (no_size (records_of records) t (rw (length-map records record_of) h)))

tests : (b : Bool) (size : ℕ) (found : Option ℕ) → found ≡ then_some b size → is_some found ≡ b
tests true size found h = ap is_some h
tests false size found h = ap is_some h

pub small_of_some : (size : ℕ) (found : Option ℕ) → found ≡ size_if_small size → is_some found ≡ nat_le size 16777216
small_of_some size found h = tests (nat_le size 16777216) size found h

pub few_parts : (n : ℕ) → nat_le (min n (2 ^ 32 - 1)) 1024 ≡ nat_le n 1024
few_parts n = grind arith

pub room_for_pointer : (n : ℕ) → nat_lt (min n (2 ^ 32 - 1)) 1024 ≡ nat_lt n 1024
room_for_pointer n = grind arith

pub small_pointer : (records : List Record) (t : CType) → is_small records (pointer t) ≡ nat_lt (parts t) 1024
small_pointer records t = ap (λ n. nat_le n 1024) (omega arith)

given : (b : Bool) (size v : ℕ) → Some v ≡ then_some b size → (b ≡ true) × (v ≡ size)
given true size v h = (refl, ap (λ o. unwrap_or o 0) h)
given false size v h = cc

pub of_small_size : (size v : ℕ) → Some v ≡ size_if_small size → (nat_le size 16777216 ≡ true) × (v ≡ size)
of_small_size size v h = given (nat_le size 16777216) size v h
