-- The bytes that objects take.
use Rattle.std.proofs.Common.{◌≡◌, refl, sym, ap, ◌∙◌, ℕ, ◌+◌, ◌<◌, ◌≤◌, List, [], ◌∷◌, ◌++◌, length, drop, fold, get_or, map, replicate, append_assoc, arith, Option, Some, None}
use Rattle.std.specs.Prelude.{All}
use Rattle.std.proofs.lemmas.List.{drop_more, length-replicate}
use Rattle.std.proofs.lemmas.List.Elements.{All-head, All-tail}
use Rattle.memory_words.specs.declared.cell_words.cell.Cell.TheVariants.{Byte}
use Rattle.block_memory.specs.Blocks.{Memory, Block, Contents, living, ended, overwritten, size_in}
use Rattle.block_memory.specs.RunWorlds.Worlds.{live_bytes, live_in}
use Rattle.c_meaning.specs.Program.{cells_of, initially, none_or, object_block, object_size, size_at, size_if_defined}
use Rattle.c_typed.specs.declared.program.Initial.{Initial}
use Rattle.c_typed.specs.declared.program.Object.{Object}
use Rattle.c_typed.specs.Programs.{ProgramData}
use Rattle.source_start.specs.Fits.{IsFitValue}
use Rattle.source_start.proofs.Standing.{keeps_size, length_value}

-- ---- one more block

pub live_last : (m : Memory) (x : Block) → live_bytes (m ++ x ∷ []) ≡ live_bytes m + live_in x.contents
live_last [] x = omega arith
live_last (y ∷ m) x = let h = live_last m x in omega (arith, h)

-- ---- what an object holds at first does not make it longer

same_live : (c : Contents) (at : ℕ) (i : Initial) → at + length (cells_of i.value) ≤ size_in c → live_in (overwritten c at (cells_of i.value)) ≡ live_in c
same_live (living all) at i h = keeps_size (living all) at (cells_of i.value) h
same_live (ended n) at i h = refl

module _ (p : ProgramData) (o : Object) where
  kept : (all : List Initial) (c : Contents) (n : ℕ) → All (IsFitValue p o) all → n ≡ size_at p o.ty → size_in c ≡ n → live_in c ≡ n
      → live_in (fold (λ c i. overwritten c i.offset (cells_of i.value)) c all) ≡ n
  kept [] c n fits large e l = l
  kept (i ∷ all) c n fits large e l =
      let one = All-head (IsFitValue p o) i all fits in
      let ends : i.offset + length (cells_of i.value) ≤ size_in c = omega (arith, one.ends, length_value i.value, large, e) in
      kept all (overwritten c i.offset (cells_of i.value)) n (All-tail (IsFitValue p o) i all fits) large
      (keeps_size c i.offset (cells_of i.value) ends ∙ e) (same_live c i.offset i ends ∙ l)

  by_initial : (x : Option (List Initial)) → All (IsFitValue p o) (none_or x) → live_in (initially (none_or x) (size_if_defined x (size_at p o.ty))) ≡ size_if_defined x (size_at p o.ty)
  by_initial None fits = refl
  by_initial (Some all) fits =
      let n = size_at p o.ty in
      kept all (living (replicate n (Byte 0))) n fits refl (length-replicate n (Byte 0)) (length-replicate n (Byte 0))

  pub object_lives : All (IsFitValue p o) (none_or o.initial) → live_in (object_block p o).contents ≡ object_size p o
  object_lives fits = by_initial o.initial fits

-- ---- all objects

pub next_placed : (m new : Memory) (f : Object → Block) (all : List Object) (i : ℕ) (o : Object) → i < length all → o ≡ get_or all i o
    → new ≡ m ++ f o ∷ [] → new ++ map f (drop (i + 1) all) ≡ m ++ map f (drop i all)
next_placed m new f all i o lt is e =
    ap (λ (new : Memory). new ++ map f (drop (i + 1) all)) e
    ∙ append_assoc m (f o ∷ []) (map f (drop (i + 1) all))
    ∙ ap (λ (them : List Object). m ++ map f them) (sym (drop_more all i o lt ∙ ap (λ x. x ∷ drop (i + 1) all) (sym is)))

module _ (p : ProgramData) where
  no_less : (all : List Object) (k : ℕ) → k ≤ fold (λ n o. n + object_size p o) k all
  no_less [] k = omega arith
  no_less (o ∷ all) k = let h = no_less all (k + object_size p o) in omega (arith, h)

  -- the next object comes first among those that are left
  pub next_counted : (all : List Object) (i k : ℕ) (o : Object) → i < length all → o ≡ get_or all i o
      → fold (λ n o. n + object_size p o) k (drop i all) ≡ fold (λ n o. n + object_size p o) (k + object_size p o) (drop (i + 1) all)
  next_counted all i k o lt is = ap (fold (λ n o. n + object_size p o) k) (drop_more all i o lt ∙ ap (λ x. x ∷ drop (i + 1) all) (sym is))

  -- ... so its bytes are among those of all
  pub next_few : (all : List Object) (i k n : ℕ) (o : Object) → i < length all → o ≡ get_or all i o → fold (λ n o. n + object_size p o) k (drop i all) ≡ n
      → k + object_size p o ≤ n
  next_few all i k n o lt is e =
      let h = no_less (drop (i + 1) all) (k + object_size p o) in
      let s = next_counted all i k o lt is in omega (arith, h, s, e)
