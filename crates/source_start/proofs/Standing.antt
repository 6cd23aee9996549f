-- First values that fit into their blocks, one after the other.
use Rattle.std.proofs.Common.{◌≡◌, refl, sym, ap, ◌∙◌, subst, ℕ, zero, suc, ◌+◌, ◌%◌, ◌≤◌, Bool, true, false, List, [], ◌∷◌, ◌++◌, length, replicate, slice_set, Option, Some, Result, Ok, Err, arith}
use Rattle.std.specs.Prelude.{◌/◌, ◌==◌, nat_le, All}
use Rattle.std.proofs.lemmas.List.{length-append, length-take, length-drop, length-replicate}
use Rattle.std.proofs.lemmas.List.Elements.{All-weaker}
use Rattle.memory_words.specs.declared.cell_words.cell.Cell.{Cell}
use Rattle.memory_words.specs.declared.cell_words.cell.Cell.TheVariants.{Byte}
use Rattle.memory_words.specs.declared.cell_words.pointer.Ptr.{Ptr}
use Rattle.memory_words.specs.declared.cell_words.pointer.Ptr.TheVariants as P
use Rattle.lay_base.specs.declared.faults.UndefinedKind.{UndefinedKind}
use Rattle.c_types.specs.declared.ty.IntKind.{IntKind}
use Rattle.c_types.specs.IntKinds.{width}
use Rattle.block_memory.specs.Accesses.{is_text, store_pointer}
use Rattle.block_memory.specs.Blocks.{Memory, Block, Contents, living, ended, block, is_live, kind, lives_in, overwritten, size, size_in, with_cells}
use Rattle.block_memory.specs.Held.{bytes_of, fragments_of}
use Rattle.block_memory.specs.Stores.{Does}
use Rattle.c_meaning.specs.Program.{cells_of, none_or, object_kind, size_at}
use Rattle.c_typed.specs.declared.program.Initial.{Initial}
use Rattle.c_typed.specs.declared.program.InitialValue.{InitialValue}
use Rattle.c_typed.specs.declared.program.InitialValue.TheVariants as V
use Rattle.c_typed.specs.declared.program.Object.{Object}
use Rattle.c_typed.specs.Programs.{ProgramData}
use Rattle.source_start.specs.Fits.{IsFitValue, StandsFree, value_bytes}
use Rattle.source_start.specs.Standing.{FitsIn, StandsIn, TakesPointer}
use Rattle.source_start.specs.Writing.{with_initial}
use Rattle.source_start.proofs.LastBlock.{last_block}
use Rattle.source_start.proofs.PointerPut.{pointer_put}

-- ---- what one value asks

pub number_ends : (m : Memory) (b : ℕ) (i : Initial) (kind : IntKind) (v : ℕ) → i.value ≡ V.Number kind v → FitsIn m b i → i.offset + width kind ≤ size m b
number_ends m b i kind v is fits = subst (λ x. i.offset + value_bytes x ≤ size m b) is fits.ends

pub address_takes : (m : Memory) (b : ℕ) (i : Initial) (type object at : ℕ) → i.value ≡ V.Address type object at → FitsIn m b i → TakesPointer m b i.offset
address_takes m b i type object at is fits =
    let free : StandsIn (is_text (kind m b)) i.offset (V.Address type object at) = subst (λ x. StandsIn (is_text (kind m b)) i.offset x) is fits.free in
    let ends : i.offset + 4 ≤ size m b = subst (λ x. i.offset + value_bytes x ≤ size m b) is fits.ends in
    record { lives = fits.lives; ends = ends; aligned = free.0; writable = free.1 }

pub function_takes : (m : Memory) (b : ℕ) (i : Initial) (type f : ℕ) → i.value ≡ V.Function type f → FitsIn m b i → TakesPointer m b i.offset
function_takes m b i type f is fits =
    let free : StandsIn (is_text (kind m b)) i.offset (V.Function type f) = subst (λ x. StandsIn (is_text (kind m b)) i.offset x) is fits.free in
    let ends : i.offset + 4 ≤ size m b = subst (λ x. i.offset + value_bytes x ≤ size m b) is fits.ends in
    record { lives = fits.lives; ends = ends; aligned = free.0; writable = free.1 }

-- ---- a pointer is stored

no_fault : (m : Memory) (b at type : ℕ) (q : Ptr) (fault : UndefinedKind) → TakesPointer m b at → store_pointer m (P.Block b at) type q ≡ Err fault
    → store_pointer m (P.Block b at) type q ≡ Ok (with_cells m b at (fragments_of type q))
no_fault m b at type q fault t e =
    let near : nat_le (at + 4) (size m b) ≡ true = grind (arith, t.ends) in
    let even : (at % 4 == 0) ≡ true = grind (arith, t.aligned) in
    rw (t.lives, near, even, t.writable) refl

pub pointer_stored : (m new : Memory) (b at type : ℕ) (q : Ptr) (r : Result (Unit {0}) UndefinedKind) → TakesPointer m b at
    → Does r m new (store_pointer m (P.Block b at) type q) → new ≡ with_cells m b at (fragments_of type q)
pointer_stored m new b at type q (Ok u) t does = pointer_put m new b at type q does
pointer_stored m new b at type q (Err fault) t does = let stored = no_fault m b at type q fault t does.0 in let failed = does.0 in cc

-- ---- the block stays as long as it was

length_bytes : (count v : ℕ) → length (bytes_of count v) ≡ count
length_bytes zero v = refl
length_bytes (suc count) v = ap suc (length_bytes count (v / 256))

pub length_value : (x : InitialValue) → length (cells_of x) ≡ value_bytes x
length_value (V.Number kind v) = length_bytes (width kind) v
length_value (V.Address type object at) = refl
length_value (V.Function type f) = refl

set_there : (m : Memory) (b : ℕ) (x : Block) → is_live m b ≡ true → block (slice_set m b x) b ≡ x
set_there [] b x lives = cc
set_there (y ∷ m) zero x lives = refl
set_there (y ∷ m) (suc b) x lives = set_there m b x lives

keeps_life : (c : Contents) (at : ℕ) (new : List Cell) → lives_in (overwritten c at new) ≡ lives_in c
keeps_life (living all) at new = refl
keeps_life (ended n) at new = refl

pub keeps_size : (c : Contents) (at : ℕ) (new : List Cell) → at + length new ≤ size_in c → size_in (overwritten c at new) ≡ size_in c
keeps_size (living all) at new h = simp (length-append, length-take, length-drop) (omega arith)
keeps_size (ended n) at new h = refl

pub next_fits : (m : Memory) (b : ℕ) (i j : Initial) → FitsIn m b i → FitsIn m b j → FitsIn (with_initial b m i) b j
next_fits m b i j f g =
    let there = set_there m b (record { kind = kind m b; contents = overwritten (block m b).contents i.offset (cells_of i.value) }) f.lives in
    let same : size (with_initial b m i) b ≡ size m b
    = ap (λ (x : Block). size_in x.contents) there ∙ keeps_size (block m b).contents i.offset (cells_of i.value) (omega (arith, length_value i.value, f.ends)) in
    let kinds : kind (with_initial b m i) b ≡ kind m b = ap (λ (x : Block). x.kind) there in
    record {
      lives = ap (λ (x : Block). lives_in x.contents) there ∙ keeps_life (block m b).contents i.offset (cells_of i.value) ∙ f.lives;
      ends = omega (arith, same, g.ends);
      free = subst (λ k. StandsIn (is_text k) j.offset j.value) (sym kinds) g.free;
    }

pub rest_fits : (m : Memory) (b : ℕ) (i : Initial) (rest : List Initial) → FitsIn m b i → All (FitsIn m b) rest → All (FitsIn (with_initial b m i) b) rest
rest_fits m b i rest f all = All-weaker (FitsIn m b) (FitsIn (with_initial b m i) b) (λ j g. next_fits m b i j f g) rest all

-- ---- an object's own block

text_is : (text : Bool) → is_text (object_kind text) ≡ text
text_is true = refl
text_is false = refl

stands : (o : Object) (at : ℕ) (x : InitialValue) → StandsFree o at x → StandsIn o.text at x
stands o at (V.Number kind v) h = tt
stands o at (V.Address type object to) h = h
stands o at (V.Function type f) h = h

one_fits : (p : ProgramData) (o : Object) (m : Memory) (b n : ℕ) (i : Initial)
    → block m b ≡ record { kind = object_kind o.text; contents = living (replicate n (Byte 0)) } → n ≡ size_at p o.ty → IsFitValue p o i → FitsIn m b i
one_fits p o m b n i is large fits =
    let long : size m b ≡ n = ap (λ (x : Block). size_in x.contents) is ∙ length-replicate n (Byte 0) in
    record {
      lives = ap (λ (x : Block). lives_in x.contents) is;
      ends = omega (arith, long, large, fits.ends);
      free = subst (λ text. StandsIn text i.offset i.value) (sym (ap (λ (x : Block). is_text x.kind) is ∙ text_is o.text)) (stands o i.offset i.value fits.free);
    }

pub object_fits : (p : ProgramData) (o : Object) (old m : Memory) (b n : ℕ) (all : List Initial) → b ≡ length old
    → m ≡ old ++ record { kind = object_kind o.text; contents = living (replicate n (Byte 0)) } ∷ [] → n ≡ size_at p o.ty → o.initial ≡ Some all
    → All (IsFitValue p o) (none_or o.initial) → All (FitsIn m b) all
object_fits p o old m b n all at is large there fits =
    let found : block m b ≡ record { kind = object_kind o.text; contents = living (replicate n (Byte 0)) }
    = rw (at, is) (last_block old (record { kind = object_kind o.text; contents = living (replicate n (Byte 0)) })) in
    All-weaker (IsFitValue p o) (FitsIn m b) (λ i. one_fits p o m b n i found large) all (subst (λ (x : Option (List Initial)). All (IsFitValue p o) (none_or x)) there fits)
