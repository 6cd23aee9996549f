-- The library does the same.
use Rattle.std.proofs.Common.{refl, ℕ, ◌*◌, ◌%◌, ◌^◌, Bool, true, false, List, [], ◌∷◌, Option, Some, None, Ok, Err, ℤ}
use Rattle.std.specs.Int.{w32, cast_unsigned}
use Rattle.lay_base.specs.declared.faults.UndefinedKind.TheVariants as K
use Rattle.lay_base.specs.declared.place.Place.{Place}
use Rattle.c_typed.specs.declared.operators.LibraryFunction.{LibraryFunction}
use Rattle.c_typed.specs.declared.operators.LibraryFunction.TheVariants as L
use Rattle.memory_words.specs.declared.cell_words.pointer.Ptr.{Ptr}
use Rattle.block_memory.specs.Ranges as Ranges
use Rattle.block_memory.specs.Tested as Tests
use Rattle.block_memory.specs.Tested.{Tested}
use Rattle.block_memory.specs.RunWorlds.Doing.{tested}
use Rattle.block_memory.specs.RunWorlds.Events.{Event, put, got}
use Rattle.block_memory.specs.RunWorlds.Library as Library
use Rattle.block_memory.specs.RunWorlds.LibraryCalls as LibraryCalls
use Rattle.block_memory.specs.RunWorlds.Scalars.{as_word, as_pointer}
use Rattle.block_memory.specs.declared.run_worlds.value.Value.{Value}
use Rattle.block_memory.specs.declared.run_worlds.value.Value.TheVariants.{Word, Pointer}
use Rattle.c_meaning.specs.declared.frame.Slot.TheVariants.{ByName as by_name}
use Rattle.source_state.specs.Steps.Agreeing.{world, Agrees}
use Rattle.source_state.specs.Steps.Cores.{Core}
use Rattle.source_state.specs.Steps.Memories as Memories
use Rattle.source_state.specs.declared.ends.Final.TheVariants.{Ends}
use Rattle.source_state.specs.declared.ends.Moved.TheVariants.{Gets, Over, Puts}
use Rattle.source_state.proofs.Steps.Locals.{agrees_framed}
use Rattle.source_state.proofs.Steps.Memories.{allocate_part, free_part, copy_part, fill_part}
use Rattle.tac_ir.specs.Running as Run
use Rattle.tac_ir.specs.Running.{with_temp}
use Rattle.tac_engine.specs.States.{State, Moves, with_core, given, putting, putting_any, found, number, address, changing}
use Rattle.tac_engine.specs.Steps.{copied, library, made}
use Rattle.tac_engine.proofs.Same.{Course, Same, Shows, going, same_any, same_changing, same_doing, same_finding, same_undefined}

module _ (t : ℕ) (s : State) where
  -- the temporary takes the value, if there is one, and the run goes on
  abbrev gave : Option Value → Course
  gave v next = Run.put_any t v (λ u. going s next)

  -- ---- allocations

  made_same : (n : ℕ) (all : Bool) → Same s (λ next. LibraryCalls.given (Library.allocate None n all) (λ v. gave v next)) (made t n all s)
  made_same n all = record {
    shows = (same_doing (λ v. gave (Some v)) (λ v s. putting t v s) (allocate_part None n all s.core)
        (λ v c. record { shows = (same_any t (Some v) (with_core c s)).shows })).shows;
  }

  freed_same : (at : Place) (p : Ptr) → Same s (λ next. Library.free at p (λ u. gave None next))
      (changing at (Memories.free p s.core) s (λ s. putting_any t None s))
  freed_same at p = record {
    shows = (same_changing at (Memories.free p s.core) (gave None) (λ s. putting_any t None s) (free_part at p s.core)
        (λ c. record { shows = (same_any t None (with_core c s)).shows })).shows;
  }

  -- ---- ranges

  copied_same : (at : Place) (p q : Ptr) (n : ℕ) (overlap : Bool) → Same s (λ next. LibraryCalls.given (Library.copy at p q n overlap) (λ v. gave v next))
      (changing at (Memories.copy p q n overlap s.core) s (λ s. putting t (Pointer p) s))
  copied_same at p q n overlap = record {
    shows = (same_changing at (Memories.copy p q n overlap s.core) (gave (Some (Pointer p))) (λ s. putting t (Pointer p) s)
        (copy_part at p q n overlap s.core)
        (λ c. record { shows = (same_any t (Some (Pointer p)) (with_core c s)).shows })).shows;
  }

  filled_same : (at : Place) (p : Ptr) (byte n : ℕ) → Same s (λ next. LibraryCalls.given (Library.fill at p byte n) (λ v. gave v next))
      (changing at (Memories.fill p byte n s.core) s (λ s. putting t (Pointer p) s))
  filled_same at p byte n = record {
    shows = (same_changing at (Memories.fill p byte n s.core) (gave (Some (Pointer p))) (λ s. putting t (Pointer p) s) (fill_part at p byte n s.core)
        (λ d. record { shows = (same_any t (Some (Pointer p)) (with_core d s)).shows })).shows;
  }

  order_same : (at : Place) (r : Tested ℤ) → Same s (λ next. tested at r (λ z. gave (Some (Word (cast_unsigned w32 z))) next))
      (found t at (Tests.◌>>=◌ r (λ z. Ok (Word (cast_unsigned w32 z)))) s)
  order_same at (Ok z) = record { shows = (same_any t (Some (Word (cast_unsigned w32 z))) s).shows }
  order_same at (Err kind) = record { shows = (same_undefined kind at s).shows }

  -- ---- input and output

  agrees_put : (start : Core) (byte : ℕ) (c : Core) (trace : List Event) → Agrees start c trace → Agrees start c (put byte ∷ trace)
  agrees_put start byte c trace h =
      record { few = h.few; live = h.live; shape = h.shape; entries = h.entries; begins = h.begins; all_entries = h.all_entries; all_begins = h.all_begins }

  agrees_got : (start : Core) (byte : Option ℕ) (c : Core) (trace : List Event) → Agrees start c trace → Agrees start c (got byte ∷ trace)
  agrees_got start byte c trace h =
      record { few = h.few; live = h.live; shape = h.shape; entries = h.entries; begins = h.begins; all_entries = h.all_entries; all_begins = h.all_begins }

  put_same : (n : ℕ) → Same s (λ next. LibraryCalls.given (Library.putchar n) (λ v. gave v next)) (Puts (n % 2 ^ 8), given t (Some (Word (n % 2 ^ 8))) s)
  put_same n = record {
    shows = λ start input trace h. record {
      later = put (n % 2 ^ 8) ∷ trace;
      does = λ next. refl;
      agrees = agrees_framed start s.core (with_temp t (by_name (Some (Word (n % 2 ^ 8)))) s.core.frame) (put (n % 2 ^ 8) ∷ trace)
          (agrees_put start (n % 2 ^ 8) s.core trace h);
      calls = refl;
      stays = (refl, refl);
    };
  }

  got_shows : (start : Core) (input : List ℕ) (trace : List Event) → Agrees start s.core trace
      → Shows s.typed s.code start (λ next. LibraryCalls.given (Library.next_of input) (λ v. gave v next) s.core.frame (world s.core input trace)) input trace
      Gets (record s { to = t })
  got_shows start [] trace h = record {
    later = got None ∷ trace;
    does = λ next. refl;
    agrees = agrees_got start None s.core trace h;
    calls = refl;
    stays = (refl, refl);
  }
  got_shows start (byte ∷ more) trace h = record {
    later = got (Some byte) ∷ trace;
    does = λ next. refl;
    agrees = agrees_got start (Some byte) s.core trace h;
    calls = refl;
    stays =
        (refl, refl);
  }

  got_same : (at : Place) → Same s (λ next. LibraryCalls.library at L.Getchar [] (λ v. gave v next)) (library t at L.Getchar [] s)
  got_same at = record { shows = λ start input trace h. got_shows start input trace h }

  exit_same : (n : ℕ) → Same s (λ next. Library.exit n (λ v. gave v next)) (Over (Ends (n % 2 ^ 8)), s)
  exit_same n = record {
    shows = λ start input trace h. record {
      later = trace;
      does = λ next. refl;
      agrees = h;
      calls = refl;
      stays = (refl, refl);
    };
  }

  -- ---- arguments are tested

  number_same : (at : Place) (v : Value) (k : ℕ → Course) (k' : ℕ → Moves) → ((n : ℕ) → Same s (k n) (k' n))
      → Same s (λ next. LibraryCalls.number at v (λ n. k n next)) (number at v s k')
  number_same at v k k' h = same_finding at (as_word v) s k k' h

  address_same : (at : Place) (v : Value) (k : Ptr → Course) (k' : Ptr → Moves) → ((p : Ptr) → Same s (k p) (k' p))
      → Same s (λ next. LibraryCalls.address at v (λ p. k p next)) (address at v s k')
  address_same at v k k' h = same_finding at (as_pointer v) s k k' h

  -- of a range: two pointers and a number, or a pointer and two numbers
  module _ (at : Place) (v w x : Value) where
    pointers_same : (k : Ptr → Ptr → ℕ → Course) (k' : Ptr → Ptr → ℕ → Moves) → ((p q : Ptr) (n : ℕ) → Same s (k p q n) (k' p q n))
        → Same s (λ next. LibraryCalls.address at v (λ p. LibraryCalls.address at w (λ q. LibraryCalls.number at x (λ n. k p q n next))))
        (address at v s (λ p. address at w s (λ q. number at x s (λ n. k' p q n))))
    pointers_same k k' h = address_same at v (λ p next. LibraryCalls.address at w (λ q. LibraryCalls.number at x (λ n. k p q n next)))
        (λ p. address at w s (λ q. number at x s (λ n. k' p q n)))
        (λ p. address_same at w (λ q next. LibraryCalls.number at x (λ n. k p q n next)) (λ q. number at x s (λ n. k' p q n))
        (λ q. number_same at x (k p q) (k' p q) (h p q)))

    numbers_same : (k : Ptr → ℕ → ℕ → Course) (k' : Ptr → ℕ → ℕ → Moves) → ((p : Ptr) (byte n : ℕ) → Same s (k p byte n) (k' p byte n))
        → Same s (λ next. LibraryCalls.address at v (λ p. LibraryCalls.number at w (λ byte. LibraryCalls.number at x (λ n. k p byte n next))))
        (address at v s (λ p. number at w s (λ byte. number at x s (λ n. k' p byte n))))
    numbers_same k k' h = address_same at v (λ p next. LibraryCalls.number at w (λ byte. LibraryCalls.number at x (λ n. k p byte n next)))
        (λ p. number at w s (λ byte. number at x s (λ n. k' p byte n)))
        (λ p. number_same at w (λ byte next. LibraryCalls.number at x (λ n. k p byte n next)) (λ byte. number at x s (λ n. k' p byte n))
        (λ byte. number_same at x (k p byte) (k' p byte) (h p byte)))

    range_same : (overlap : Bool)
        → Same s (λ next. LibraryCalls.address at v (λ p. LibraryCalls.address at w (λ q. LibraryCalls.number at x
        (λ n. LibraryCalls.given (Library.copy at p q n overlap) (λ v. gave v next))))) (copied t at v w x overlap s)
    range_same overlap = pointers_same (λ p q n next. LibraryCalls.given (Library.copy at p q n overlap) (λ v. gave v next))
        (λ p q n. changing at (Memories.copy p q n overlap s.core) s (λ s. putting t (Pointer p) s)) (λ p q n. copied_same at p q n overlap)

  -- ---- all of it

  pub library_same : (at : Place) (which : LibraryFunction) (values : List Value)
      → Same s (λ next. LibraryCalls.library at which values (λ v. gave v next)) (library t at which values s)
  library_same at L.Malloc (v ∷ []) = number_same at v (λ n next. LibraryCalls.given (Library.allocate None n false) (λ v. gave v next))
      (λ n. made t n false s) (λ n. made_same n false)
  library_same at L.Calloc (v ∷ w ∷ []) = number_same at v
      (λ n next. LibraryCalls.number at w (λ k. LibraryCalls.given (Library.allocate None (n * k) true) (λ v. gave v next)))
      (λ n. number at w s (λ k. made t (n * k) true s))
      (λ n. number_same at w (λ k next. LibraryCalls.given (Library.allocate None (n * k) true) (λ v. gave v next)) (λ k. made t (n * k) true s)
      (λ k. made_same (n * k) true))
  library_same at L.Free (v ∷ []) = address_same at v (λ p next. Library.free at p (λ u. gave None next))
      (λ p. changing at (Memories.free p s.core) s (λ s. putting_any t None s)) (freed_same at)
  library_same at L.Memcpy (v ∷ w ∷ x ∷ []) = range_same at v w x false
  library_same at L.Memmove (v ∷ w ∷ x ∷ []) = range_same at v w x true
  library_same at L.Memset (v ∷ w ∷ x ∷ []) = numbers_same at v w x (λ p byte n next. LibraryCalls.given (Library.fill at p byte n) (λ v. gave v next))
      (λ p byte n. changing at (Memories.fill p byte n s.core) s (λ s. putting t (Pointer p) s)) (filled_same at)
  library_same at L.Memcmp (v ∷ w ∷ x ∷ []) = pointers_same at v w x (λ p q n next. LibraryCalls.given (Library.compare at p q n) (λ v. gave v next))
      (λ p q n. found t at (Memories.compare p q n s.core) s)
      (λ p q n. record { shows = (order_same at (Ranges.compare s.core.memory p q n)).shows })
  library_same at L.Putchar (v ∷ []) = number_same at v (λ n next. LibraryCalls.given (Library.putchar n) (λ v. gave v next))
      (λ n. (Puts (n % 2 ^ 8), given t (Some (Word (n % 2 ^ 8))) s)) put_same
  library_same at L.Getchar [] = got_same at
  library_same at L.Exit (v ∷ []) = number_same at v (λ n next. Library.exit n (λ v. gave v next)) (λ n. (Over (Ends (n % 2 ^ 8)), s)) exit_same
  library_same at which values = record { shows = (same_undefined K.Call at s).shows }
