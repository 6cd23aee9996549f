-- The two tables of words, each beside the other one.
use Rattle.std.proofs.Common.{◌≡◌, ℕ, ◌<◌, ◌^◌, List, length, map, true, false, Option, refl, ap}
use Rattle.std.specs.Prelude.{Some, None}
use Rattle.memory_words.specs.declared.cell_words.packed.Packed.{Packed}
use Rattle.memory_words.specs.declared.cell_words.table.Table.{Table}
use Rattle.memory_words.specs.declared.cell_words.word.Four.{Four}
use Rattle.memory_words.specs.declared.cell_words.word.Group.{Group}
use Rattle.memory_words.specs.declared.cell_words.word.Pointer.{Pointer}
use Rattle.memory_words.specs.declared.cell_words.word.Word.{Word}
use Rattle.memory_words.specs.declared.cell_words.word.Word.TheVariants as W
use Rattle.memory_words.specs.CellWords.Tables.{IsRoomyTable, IsPacked, fours_in}
use Rattle.memory_words.specs.CellWords.Words.{four_at, four_of, four_of_group, four_of_pointer, group_place, is_tabled, pointer_place}
use Rattle.memory_words.proofs.CellWords.Views.{IsKind}

-- one of the tables with the words that stand in it, and the other table beside it: a step is proved once for either
pub record ChosenTable (A B : Type 0) : Type 0 where
  pub mine : Packed → Table A
  pub rest : Packed → Table B
  pub cells : A → Four
  pub others : B → Four
  pub place : Word → Option ℕ
  pub other : Word → Option ℕ
  pub make : ℕ → Word
  pub read : (mine rest : List Four) → Word → Four
  pub kind : (rest : List Four) → IsKind place make (λ t. read t rest)
  -- a word stands in one table at most, and some in none
  pub alone : (w : Word) (e : ℕ) → place w ≡ Some e → other w ≡ None
  pub none : (w : Word) → is_tabled w ≡ false → place w ≡ None
  pub off : (w : Word) → is_tabled w ≡ false → other w ≡ None
  -- what always holds, by the two tables
  pub roomy : (p : Packed) → IsPacked p → IsRoomyTable place p.words.items (mine p)
  pub beside : (p : Packed) → IsPacked p → IsRoomyTable other p.words.items (rest p)
  pub joined : (p : Packed) → length p.words.items < 2 ^ 32 → IsRoomyTable place p.words.items (mine p) → IsRoomyTable other p.words.items (rest p) → IsPacked p
  pub fours : (p : Packed) → fours_in p ≡ map (read (map cells (mine p).values.items) (map others (rest p).values.items)) p.words.items

-- ---- pointers

pub pointer_hit : (t g : List Four) (w : Word) (e : ℕ) → pointer_place w ≡ Some e → four_of t g w ≡ four_at t e
pointer_hit t g (W.Pointer d) e is = let same : Some d ≡ Some e = is in ap (four_at t) (cc)
pointer_hit t g w e is = let wrong : None ≡ Some e = is in cc

pub pointer_miss : (t u g : List Four) (w : Word) → pointer_place w ≡ None → four_of u g w ≡ four_of t g w
pointer_miss t u g (W.Pointer d) none = let wrong : Some d ≡ None = none in cc
pointer_miss t u g w none = refl

pub pointer_alone : (w : Word) (e : ℕ) → pointer_place w ≡ Some e → group_place w ≡ None
pointer_alone (W.Group d) e is = let wrong : None ≡ Some e = is in cc
pointer_alone w e is = refl

pub no_pointer : (w : Word) → is_tabled w ≡ false → pointer_place w ≡ None
no_pointer (W.Pointer d) plain = let wrong : true ≡ false = plain in cc
no_pointer w plain = refl

-- ---- groups

pub group_hit : (p t : List Four) (w : Word) (e : ℕ) → group_place w ≡ Some e → four_of p t w ≡ four_at t e
group_hit p t (W.Group d) e is = let same : Some d ≡ Some e = is in ap (four_at t) (cc)
group_hit p t w e is = let wrong : None ≡ Some e = is in cc

pub group_miss : (p t u : List Four) (w : Word) → group_place w ≡ None → four_of p u w ≡ four_of p t w
group_miss p t u (W.Group d) none = let wrong : Some d ≡ None = none in cc
group_miss p t u w none = refl

pub group_alone : (w : Word) (e : ℕ) → group_place w ≡ Some e → pointer_place w ≡ None
group_alone (W.Pointer d) e is = let wrong : None ≡ Some e = is in cc
group_alone w e is = refl

pub no_group : (w : Word) → is_tabled w ≡ false → group_place w ≡ None
no_group (W.Group d) plain = let wrong : true ≡ false = plain in cc
no_group w plain = refl

-- ---- both

abbrev pub pointers : ChosenTable Pointer Group
pointers = record {
  mine = λ p. p.pointers;
  cells = four_of_pointer;
  place = pointer_place;
  make = W.Pointer;
  rest = λ p. p.groups;
  others = four_of_group;
  other = group_place;
  read = λ t rest. four_of t rest;
  kind = λ g. record { made = λ e. refl; off = refl; hit = λ t. pointer_hit t g; miss = λ t u. pointer_miss t u g; empty = λ t. refl };
  alone = pointer_alone;
  none = no_pointer;
  off = no_group;
  roomy = λ p packed. packed.pointers;
  beside = λ p packed. packed.groups;
  joined = λ p few mine rest. record { few = few; pointers = mine; groups = rest };
  fours = λ p. refl;
}

abbrev pub groups : ChosenTable Group Pointer
groups = record {
  mine = λ p. p.groups;
  cells = four_of_group;
  place = group_place;
  make = W.Group;
  rest = λ p. p.pointers;
  others = four_of_pointer;
  other = pointer_place;
  read = λ t rest. four_of rest t;
  kind = λ p. record { made = λ e. refl; off = refl; hit = λ t. group_hit p t; miss = λ t u. group_miss p t u; empty = λ t. refl };
  alone = group_alone;
  none = no_group;
  off = no_pointer;
  roomy = λ p packed. packed.groups;
  beside = λ p packed. packed.pointers;
  joined = λ p few mine rest. record { few = few; pointers = rest; groups = mine };
  fours = λ p. refl;
}
