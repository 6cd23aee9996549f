-- Calls of functions, and the whole run (C99 5.1.2.2, 6.9.1).
use Rattle.std.proofs.Common.{◌≡◌, ℕ, zero, suc, ◌+◌, ◌<◌, ◌≤◌, ◌≢◌, ◌==◌, Bool, true, false, List, [], ◌∷◌, ◌++◌, Option, Some, None, refl, sym, ap, ◌∙◌, subst, arith, length, map, if◌then◌else◌, slice_get, slice_set}
use Rattle.lay_base.specs.declared.faults.UndefinedKind.TheVariants as K
use Rattle.lay_base.specs.declared.place.Place.{Place}
use Rattle.c_typed.specs.declared.program.Local.{Local}
use Rattle.c_typed.specs.Programs.{ProgramData, FunctionData}
use Rattle.c_typed.specs.RunCounts.Loops.{loops_in, loops_in_body}
use Rattle.c_typed.specs.Trees.{Statement}
use Rattle.memory_words.specs.declared.cell_words.pointer.Ptr.TheVariants as P
use Rattle.block_memory.specs.declared.kinds.BlockKind.TheVariants as Kind
use Rattle.block_memory.specs.RunWorlds.Doing.{Rest, ◌>>=◌, ◌>>◌, pure, make, turn_of, descend, enter, leave, less_deep, note}
use Rattle.block_memory.specs.RunWorlds.Events.{entered, left as left_event}
use Rattle.block_memory.specs.RunWorlds.Worlds.{World, End, undefined}
use Rattle.block_memory.specs.declared.run_worlds.value.Value.{Value}
use Rattle.block_memory.specs.declared.run_worlds.value.Value.TheVariants.{Word as word}
use Rattle.block_memory.specs.declared.run_worlds.way.Way.{Way}
use Rattle.c_meaning.specs.Frames as Frames
use Rattle.c_meaning.specs.Frames.{Frame, begin_by, empty_slot, end_all, frame_now, frame_of, finish_all, slot_now, with_slot}
use Rattle.c_meaning.specs.Program.{access_at, size_at, all_locals}
use Rattle.c_meaning.specs.Run as Source
use Rattle.c_meaning.specs.Run.{received, receive, result_of, body_of, function_of, called}
use Rattle.c_meaning.specs.Statements.{execute}
use Rattle.c_meaning.specs.declared.frame.Slot.{Slot}
use Rattle.c_meaning.specs.declared.frame.Slot.TheVariants.{ByName as by_name, InBlock as in_block}
use Rattle.tac_ir.specs.Code.{RoutineData}
use Rattle.tac_ir.specs.Covering.{Covers}
use Rattle.tac_ir.specs.Running as Run
use Rattle.tac_ir.specs.Running.{Caller, with_temp, go, returns, body, calls, code_run, read, value_in}
use Rattle.tac_ir.specs.declared.step.Operand.{Operand}
use Rattle.tac_ir.specs.declared.step.Operand.TheVariants as O
use Rattle.tac_ir.specs.declared.step.Step.TheVariants as S
use Rattle.lower_tac.specs.Parts.{Steps}
use Rattle.lower_tac.specs.declared.ways.Exits.{Exits}
use Rattle.lower_tac.specs.Statements.{Out, fallen, have_blocks, statement_code, parameter_of, parameters_of, function_exits, last_code, routine_of, code_if_any, routines_from, lowered}
use Rattle.lower_tac.proofs.Blind.{blind_covers, then_blind, makes, stores, notes, deepens, ends_frame, stays, back, same_run}
use Rattle.lower_tac.proofs.Base.{Standing, IsBlock, IsNamed, IsKind, with_temp_is_set, set_here, standing_later, standing_named, within, frames_end}
use Rattle.lower_tac.proofs.Making as Making
use Rattle.lower_tac.proofs.Making.{Ends, ends_same, ends_more, ends_then}
use Rattle.lower_tac.proofs.Calls as Calls
use Rattle.lower_tac.proofs.Calls.{Routines}
use Rattle.lower_tac.proofs.Places.{named_slot, block_slot}
use Rattle.lower_tac.proofs.ScopesCover.{standing_block, Behind}
use Rattle.lower_tac.proofs.ScopesCover as Scopes
use Rattle.lower_tac.proofs.StatementsCover as Statements
use Rattle.lower_tac.proofs.StatementsCover.{Extends}
use Rattle.lower_tac.proofs.Control as Control

-- ---- a function is entered on both sides: a turn less is left

pub enter_covers : (h : ℕ) (rest : Rest Frame (Unit {0})) (f own : Frame) (w : World) (other : ℕ → Rest Frame (Unit {0}))
    → ((u : World) → u.turns < w.turns → Covers (rest tt f u) (λ k. other k tt own u)) → Covers (enter h rest f w) (λ k. enter h (other k) own w)
enter_covers h rest f own w other next = by_turns w.turns refl
  where
    by_turns : (t : ℕ) → w.turns ≡ t → Covers ((turn_of t >> descend h) rest f w) (λ k. (turn_of t >> descend h) (other k) own w)
    by_turns zero e = stays
    by_turns (suc t) e =
        let less = record w { turns = t } in
        blind_covers (then_blind {next = λ u. note (entered h)} (deepens less) (λ u w. notes (entered h) w)) rest f own other
        (λ x u q. next u (let r : u.turns ≤ t = q in omega (arith, r, e)))

-- ---- the routines of a program

module _ (p : ProgramData) where
  there : (k : ℕ) (all : List FunctionData) (h : ℕ) (f : FunctionData) → slice_get all h ≡ Some f
      → slice_get (routines_from p k all) h ≡ Some (routine_of p f (code_if_any p (k + h) f f.body))
  there k [] h f e = cc
  there k (g ∷ all) zero f e = by_same k (k + 0) (omega arith) (some_same e)
    where
      some_same : {A : Type 0} {a b : A} → Some a ≡ Some b → a ≡ b
      some_same e = cc

      by_same : (k z : ℕ) → z ≡ k → g ≡ f → Some (routine_of p g (code_if_any p k g g.body)) ≡ Some (routine_of p f (code_if_any p z f f.body))
      by_same k z q e = ap (λ (x : FunctionData). Some (routine_of p x (code_if_any p k x x.body))) e ∙ ap (λ (z : ℕ). Some (routine_of p f (code_if_any p z f f.body))) (sym q)
  there k (g ∷ all) (suc h) f e =
      there (suc k) all h f e ∙ ap (λ (z : ℕ). Some (routine_of p f (code_if_any p z f f.body))) (let q : suc k + h ≡ k + suc h = omega arith in q)

  none_there : (k : ℕ) (all : List FunctionData) (h : ℕ) → slice_get all h ≡ None → slice_get (routines_from p k all) h ≡ None
  none_there k [] h e = refl
  none_there k (g ∷ all) zero e = cc
  none_there k (g ∷ all) (suc h) e = none_there (suc k) all h e

  pub routine_there : (h : ℕ) (f : FunctionData) → slice_get p.functions h ≡ Some f → slice_get (lowered p).routines h ≡ Some (routine_of p f (code_if_any p h f f.body))
  routine_there h f e = there 0 p.functions h f e ∙ ap (λ (z : ℕ). Some (routine_of p f (code_if_any p z f f.body))) (let q : 0 + h ≡ h = omega arith in q)

  pub routines : Routines p (lowered p)
  routines = record {
    some = λ h f e. (routine_of p f (code_if_any p h f f.body), (routine_there h f e, refl));
    none = λ h e. none_there 0 p.functions h e;
  }

  -- ---- parameters: both sides do the same to the same frame

  module _ (locals : List Local) where
    standing_self : {b : ℕ} {f : Frame} {w : World} (x : ℕ) (v : Option Value) → IsNamed locals x → Standing locals b f f w
        → Standing locals b (slice_set f x (by_name v)) (slice_set f x (by_name v)) w
    standing_self {b} {f} {w} x v i j =
        let s = named_slot locals x i j in
        subst (λ (own : Frame). Standing locals b (slice_set f x (by_name v)) own w) (with_temp_is_set x (by_name v) (by_name s.0) f s.1) (standing_named locals x v i j)

    one_received : (place : Place) (x : ℕ) (l : Local) (v : Value) → slice_get locals x ≡ Some l → (block : Bool) → l.block ≡ block
        → (rest : Rest Frame (Unit {0})) (other : ℕ → Rest Frame (Unit {0})) (b : ℕ) (f : Frame) (w : World) → Standing locals b f f w
        → ((f : Frame) (w : World) → Standing locals b f f w → Covers (rest tt f w) (λ k. other k tt f w))
        → Covers ((begin_by p x (size_at p l.ty) block >> (slot_now x >>= received p place x l.ty v)) rest f w)
        (λ k. (Run.begin x block (size_at p l.ty) >> (slot_now x >>= Run.received place x (parameter_of p l) v)) (other k) f w)
    one_received place x l v is true e rest other b f w j next =
        let i : IsBlock locals x = record { local = l; is = is; block = e } in
        finish i (λ change u less j behind. blind_covers (makes (size_at p l.ty) Kind.Local u) (λ z. (with_slot x (in_block (Some z)) >> (slot_now x >>= received p place x l.ty v)) rest) (change f) (change f)
        (λ k z. (with_slot x (in_block (Some z)) >> (slot_now x >>= Run.received place x (parameter_of p l) v)) (other k)) (λ z t h. made i (change f) u j z t h))
      where
        made : IsBlock locals x → (f : Frame) (w : World) → Standing locals b f f w → (z : ℕ) (u : World) → u.turns ≤ w.turns
            → Covers ((with_slot x (in_block (Some z)) >> (slot_now x >>= received p place x l.ty v)) rest f u)
            (λ k. (with_slot x (in_block (Some z)) >> (slot_now x >>= Run.received place x (parameter_of p l) v)) (other k) f u)
        made i f w j z u h =
            let j2 = standing_block locals x (Some z) i (standing_later locals u h j) in
            let s = block_slot locals x i j in
            let now : slice_get (slice_set f x (in_block (Some z))) x ≡ Some (in_block (Some z)) = set_here f x (in_block (Some z)) (in_block s.0) s.1 in
            subst (λ (o : Option Slot). Covers (received p place x l.ty v o rest (slice_set f x (in_block (Some z))) u)
            (λ k. Run.received place x (parameter_of p l) v o (other k) (slice_set f x (in_block (Some z))) u)) (sym now)
            (blind_covers (stores place (P.Block z 0) (access_at p l.ty) v u) rest (slice_set f x (in_block (Some z))) (slice_set f x (in_block (Some z))) other
            (λ q y h. next (slice_set f x (in_block (Some z))) y (standing_later locals y h j2)))

        -- it ends first, where it has begun
        finish : (i : IsBlock locals x)
            → ((change : Frame → Frame) (u : World) → u.turns ≤ w.turns → Standing locals b (change f) (change f) u → Behind locals f (change f)
            → Covers ((make (size_at p l.ty) Kind.Local >>= λ z. with_slot x (in_block (Some z)) >> (slot_now x >>= received p place x l.ty v)) rest (change f) u)
            (λ k. (make (size_at p l.ty) Kind.Local >>= λ z. with_slot x (in_block (Some z)) >> (slot_now x >>= Run.received place x (parameter_of p l) v)) (other k) (change f) u))
            → Covers ((begin_by p x (size_at p l.ty) true >> (slot_now x >>= received p place x l.ty v)) rest f w)
            (λ k. (Run.begin x true (size_at p l.ty) >> (slot_now x >>= Run.received place x (parameter_of p l) v)) (other k) f w)
        finish i next = Scopes.finish_covers p (lowered p) 0 locals [] (record { ty = 0; locals = []; parameters = []; code = []; labels = []; texts = [] }) 0 x i
            (λ u. (make (size_at p l.ty) Kind.Local >>= λ z. with_slot x (in_block (Some z)) >> (slot_now x >>= received p place x l.ty v)) rest)
            (λ k u. (make (size_at p l.ty) Kind.Local >>= λ z. with_slot x (in_block (Some z)) >> (slot_now x >>= Run.received place x (parameter_of p l) v)) (other k)) j next
    one_received place x l v is false e rest other b f w j next =
        let i : IsNamed locals x = record { local = l; is = is; named = e } in
        let s = named_slot locals x i j in
        let f1 = slice_set f x (by_name None) in
        let j1 = standing_self x None i j in
        let now : slice_get f1 x ≡ Some (by_name None) = set_here f x (by_name None) (by_name s.0) s.1 in
        subst (λ (o : Option Slot). Covers (received p place x l.ty v o rest f1 w) (λ k. Run.received place x (parameter_of p l) v o (other k) f1 w)) (sym now)
        (next (slice_set f1 x (by_name (Some v))) w (standing_self x (Some v) i j1))

    -- the parameters stand first among the locals
    abbrev Stand : (x : ℕ) → List Local → Type 0
    Stand x [] = Unit {0}
    Stand x (l ∷ more) = (slice_get locals x ≡ Some l) × Stand (x + 1) more

    receives : (place : Place) (x : ℕ) (all : List Local) → Stand x all → (values : List Value) (rest : Rest Frame (Unit {0})) (other : ℕ → Rest Frame (Unit {0}))
        (b : ℕ) (f : Frame) (w : World) → Standing locals b f f w
        → ((f : Frame) (w : World) → Standing locals b f f w → Covers (rest tt f w) (λ k. other k tt f w))
        → Covers (receive p place x all values rest f w) (λ k. Run.receive place x (map (parameter_of p) all) values (other k) f w)
    receives place x [] stand values rest other b f w j next = next f w j
    receives place x (l ∷ more) stand [] rest other b f w j next = next f w j
    receives place x (l ∷ more) stand (v ∷ values) rest other b f w j next =
        one_received place x l v stand.0 l.block refl (λ u. receive p place (x + 1) more values rest) (λ k u. Run.receive place (x + 1) (map (parameter_of p) more) values (other k))
        b f w j (λ f w j. receives place (x + 1) more stand.1 values rest other b f w j next)

  some_there : (before all more : List Local) (x : ℕ) → x ≡ length before → Stand (before ++ (all ++ more)) x all
  some_there before [] more x e = tt
  some_there before (l ∷ all) more x e = (here before x e, subst (λ (q : List Local). Stand q (x + 1) all) (moved before) (some_there (before ++ l ∷ []) all more (x + 1) (longer before x e)))
    where
      here : (before : List Local) (x : ℕ) → x ≡ length before → slice_get (before ++ (l ∷ (all ++ more))) x ≡ Some l
      here [] x e = subst (λ (z : ℕ). slice_get (l ∷ (all ++ more)) z ≡ Some l) (sym e) refl
      here (y ∷ before) zero e = absurd (let q : zero ≡ suc (length before) = e in omega (arith, q))
      here (y ∷ before) (suc x) e = here before x (let q : suc x ≡ suc (length before) = e in omega (arith, q))

      moved : (before : List Local) → (before ++ l ∷ []) ++ (all ++ more) ≡ before ++ (l ∷ (all ++ more))
      moved [] = refl
      moved (y ∷ before) = ap (λ (q : List Local). y ∷ q) (moved before)

      length_one : (before : List Local) → length (before ++ l ∷ []) ≡ length before + 1
      length_one [] = omega arith
      length_one (y ∷ before) = let h = length_one before in omega (arith, h)

      longer : (before : List Local) (x : ℕ) → x ≡ length before → x + 1 ≡ length (before ++ l ∷ [])
      longer before x e = let h = length_one before in omega (arith, h, e)

  -- ---- the frame with which a function begins

  frame_same : (all : List Local) → map Run.empty_slot (map (λ (l : Local). l.block) all) ≡ map (empty_slot p) all
  frame_same [] = refl
  frame_same (l ∷ all) = by_block l.block (frame_same all)
    where
      by_block : (block : Bool) → map Run.empty_slot (map (λ (l : Local). l.block) all) ≡ map (empty_slot p) all
          → Run.empty_slot block ∷ map Run.empty_slot (map (λ (l : Local). l.block) all) ≡ Frames.empty_by p block ∷ map (empty_slot p) all
      by_block true e = ap (λ (r : Frame). in_block None ∷ r) e
      by_block false e = ap (λ (r : Frame). by_name None ∷ r) e

  frame_stands : (all : List Local) (b : ℕ) (w : World) → w.turns ≤ b → Standing all b (map (empty_slot p) all) (map (empty_slot p) all) w
  frame_stands all b w h = record {
    slots = λ x s e. e;
    size = length_same all;
    kinds = λ x l e. kind_of_slot all x l e;
    turns = h;
    blocks = λ x z e. (let below = within (map (empty_slot p) all) x (in_block (Some z)) e in let many = length_same all in omega (arith, below, many));
  }
    where
      length_same : (all : List Local) → length (map (empty_slot p) all) ≡ length all
      length_same [] = refl
      length_same (l ∷ all) = ap suc (length_same all)

      by_block : (block : Bool) → IsKind block (Some (Frames.empty_by p block))
      by_block true = tt
      by_block false = tt

      kind_of_slot : (all : List Local) (x : ℕ) (l : Local) → slice_get all x ≡ Some l → IsKind l.block (slice_get (map (empty_slot p) all) x)
      kind_of_slot [] x l e = cc
      kind_of_slot (y ∷ all) zero l e = subst (λ (z : Local). IsKind z.block (Some (Frames.empty_by p y.block))) (some_same e) (by_block y.block)
        where
          some_same : {A : Type 0} {a b : A} → Some a ≡ Some b → a ≡ b
          some_same e = cc
      kind_of_slot (y ∷ all) (suc x) l e = kind_of_slot all x l e

  -- ---- a function that runs: what is done with its result, behind the call of it

  module _ (n : ℕ) (callees : Calls.Calls p (lowered p) n (called p n)) (h : ℕ) (f : FunctionData) (cs : List Caller) (g : RoutineData) where
    abbrev locals : List Local
    locals = all_locals f

    abbrev at : (code : Steps) → Frame → World → (steps : ℕ) → End
    at = Making.at p (lowered p) n locals cs g

    abbrev Leaves : Exits → ℕ → Rest Frame Way → Type 0
    Leaves = Statements.Leaves p (lowered p) n locals cs g h (called p n) callees routines

    -- behind the function: it is left, and its caller goes on
    abbrev behind : Rest Frame (Option Value) → Frame → Rest Frame (Option Value)
    behind rest caller = λ v own w. (frame_now >>= end_all) (λ u own w. (leave >> pure v) (λ v g w. rest v caller w) own w) own w

    -- what the code does then
    abbrev code_behind : (k : ℕ) → Rest Frame (Option Value)
    code_behind k = λ v own w. (Run.leaves >> pure v) (λ v own w. returns p.types (lowered p) (go p.types (lowered p) k) cs v w) own w

    behind_covers : (rest : Rest Frame (Option Value)) (caller : Frame) (b : ℕ) (v : Option Value) (fr own : Frame) (w : World)
        → ((v : Option Value) (u : World) → u.turns ≤ b → Covers (rest v caller u) (λ k. returns p.types (lowered p) (go p.types (lowered p) k) cs v u))
        → Standing locals b fr own w → Covers (behind rest caller v fr w) (λ k. code_behind k v own w)
    behind_covers rest caller b v fr own w next j =
        same_run (λ k. frames_end fr own j.slots (λ x z e. (let below = j.blocks x z e in let many = j.size in omega (arith, below, many))) (later k) own w)
        (blind_covers (ends_frame fr w) (λ u own w. (leave >> pure v) (λ v g w. rest v caller w) own w) fr own later
        (λ u t less. next v (record t { depth = less_deep t.depth; trace = left_event ∷ t.trace }) (let turns = j.turns in omega (arith, less, turns))))
      where
        later : ℕ → Rest Frame (Unit {0})
        later k u own w = (leave >> pure v) (λ v own w. returns p.types (lowered p) (go p.types (lowered p) k) cs v w) own w

    left_covers : (rest : Rest Frame (Option Value)) (caller : Frame) (b : ℕ) (a : Option Operand) (v : Option Value) (code : Steps) (fr own : Frame) (w : World)
        → ((v : Option Value) (u : World) → u.turns ≤ b → Covers (rest v caller u) (λ k. returns p.types (lowered p) (go p.types (lowered p) k) cs v u))
        → Standing locals b fr own w → ((later : ℕ → Rest Frame (Option Value)) (k : ℕ) → Run.read_any a (later k) own w ≡ later k v own w)
        → Covers (behind rest caller v fr w) (at (S.Return a ∷ code) own w)
    left_covers rest caller b a v code fr own w next j reads = back (λ k. reads code_behind k) (behind_covers rest caller b v fr own w next j)

    -- what is left to do behind its body, and behind the ends of its parameters
    abbrev Way_on : Rest Frame (Option Value) → Frame → Rest Frame Way
    Way_on rest caller = λ way. behind rest caller (result_of p h way)

    fallen_reads : (own : Frame) (w : World) (t : Bool) (later : ℕ → Rest Frame (Option Value)) (k : ℕ)
        → Run.read_any (if t then Some (O.Word 0) else None) (later k) own w ≡ later k (if t then Some (word 0) else None) own w
    fallen_reads own w true later k = refl
    fallen_reads own w false later k = refl

    -- its end is reached, in a way that gives no value
    end_covers : (rest : Rest Frame (Option Value)) (caller : Frame) (b : ℕ)
        → ((v : Option Value) (u : World) → u.turns ≤ b → Covers (rest v caller u) (λ k. returns p.types (lowered p) (go p.types (lowered p) k) cs v u))
        → (code : Steps) (fr own : Frame) (w : World) → Standing locals b fr own w
        → Covers (behind rest caller (if h == p.main then Some (word 0) else None) fr w) (at (S.Return (fallen p h locals) ∷ code) own w)
    end_covers rest caller b next code fr own w j =
        left_covers rest caller b (fallen p h locals) (if h == p.main then Some (word 0) else None) code fr own w next j (fallen_reads own w (h == p.main))

    ways_out : (rest : Rest Frame (Option Value)) (caller : Frame) (b : ℕ)
        → ((v : Option Value) (u : World) → u.turns ≤ b → Covers (rest v caller u) (λ k. returns p.types (lowered p) (go p.types (lowered p) k) cs v u))
        → Leaves (function_exits p) b (Way_on rest caller)
    ways_out rest caller b next = record {
      breaks = λ code fr own w j. end_covers rest caller b next code fr own w j;
      continues = λ code fr own w j. end_covers rest caller b next code fr own w j;
      gives = λ code o fr own w j s.
          back (λ k. ap (λ (o : Option Slot). code_behind k (value_in o) own w) s) (behind_covers rest caller b o fr own w next j);
      direct = λ is code a o fr own w j r. left_covers rest caller b a o code fr own w next j (λ later k. r.is (later k) w);
    }

  -- ---- calls

  not_empty : (n : ℕ) (place : Place) (callers : List Caller) (g : RoutineData) (code : Steps) (values : List Value) (w : World) (k : ℕ) → code ≢ []
      → body p.types (lowered p) (go p.types (lowered p) k) place callers g code values w
      ≡ Run.receive place 0 g.parameters values (λ u own. go p.types (lowered p) k callers g code own) (map Run.empty_slot g.locals) w
  not_empty n place callers g [] values w k e = absurd (e refl)
  not_empty n place callers g (s ∷ code) values w k e = refl

  ends_in_one : (code whole : Steps) (s : _) → Ends (s ∷ code) whole → whole ≢ []
  ends_in_one code whole s e = λ q. by_front e.front (sym q ∙ e.is)
    where
      by_front : (front : Steps) → [] ≡ front ++ s ∷ code → ⊥
      by_front [] q = cc
      by_front (t ∷ front) q = cc

  module _ (n : ℕ) (callees : Calls.Calls p (lowered p) n (called p n)) where
    -- a function that is entered, with so many turns left
    runs : (place : Place) (h : ℕ) (values : List Value) (rest : Rest Frame (Option Value)) (f : FunctionData) (caller : Frame) (callers : List Caller) (w : World) → w.turns < n
        → ((v : Option Value) (u : World) → u.turns ≤ w.turns → Covers (rest v caller u) (λ k. returns p.types (lowered p) (go p.types (lowered p) k) callers v u))
        → (o : Option (Statement ℕ)) → f.body ≡ o
        → Covers (Source.ending p (body_of p (called p n) n place h values f o) (λ v g after. (leave >> pure v) rest caller after) (frame_of p f) w)
        (λ k. body p.types (lowered p) (go p.types (lowered p) k) place callers (routine_of p f (code_if_any p h f o)) (code_if_any p h f o).code values w)
    runs place h values rest f caller callers w lt next None is = stays
    runs place h values rest f caller callers w lt next (Some one) is =
        same_run (λ k. not_empty n place callers g g.code values w k filled
        ∙ ap (λ (own : Frame). Run.receive place 0 g.parameters values (λ u own. go p.types (lowered p) k callers g g.code own) own w) (frame_same (all_locals f)))
        (receives (all_locals f) place 0 f.parameters (some_there [] f.parameters f.locals 0 refl) values
        (λ u. execute p (called p n) h (all_locals f) n 0 one (λ way. finish_all p (parameters_of p f) (λ u. Way_on n callees h f callers g rest caller way))) (λ k u own. go p.types (lowered p) k callers g g.code own)
        w.turns (frame_of p f) w (frame_stands (all_locals f) w.turns w (omega arith))
        (λ fr u j. Statements.scope_covers p (lowered p) n (all_locals f) callers g h (called p n) callees routines (parameters_of p f) blocks refl make statement.extends
        (execute p (called p n) h (all_locals f) n 0 one) (function_exits p) (last_code p h f) (Way_on n callees h f callers g rest caller) w.turns fr fr u
        (record { code = ends_same; labels = λ k v m e. e; texts = λ k v e. e }) (ways_out n callees h f callers g rest caller w.turns next)
        (λ fr own u j. end_covers n callees h f callers g rest caller w.turns next [] fr own u j)
        (λ x out loops z ways next. statement.does x out (λ way. finish_all p (parameters_of p f) (λ u. Way_on n callees h f callers g rest caller way)) w.turns fr fr u lt
        (loops ∙ ap loops_in_body is ∙ (let q : loops_in one ≡ 0 + loops_in one = omega arith in q)) j z ways next)))
      where
        g : RoutineData
        g = routine_of p f (code_if_any p h f (Some one))

        make : Exits → Out → Out
        make x out = statement_code p h (all_locals f) one x out

        blocks : Bool
        blocks = have_blocks p h (all_locals f) (parameters_of p f)

        statement : Statements.Does p (lowered p) n (all_locals f) callers g h (called p n) callees routines 0 (loops_in one) (execute p (called p n) h (all_locals f) n 0 one) make
        statement = Control.statement_does p (lowered p) n (all_locals f) callers g h (called p n) callees routines 0 one

        filled : g.code ≢ []
        filled = ends_in_one [] g.code (S.Return (fallen p h (all_locals f)))
            (Statements.scope_extends p (lowered p) n (all_locals f) callers g h (called p n) callees routines (parameters_of p f) blocks make statement.extends
            (function_exits p) (last_code p h f)).code

  pub callees : (n : ℕ) → Calls.Calls p (lowered p) n (called p n)
  callees zero = record { covered = λ place h values rest b f own w callers lt turns next. absurd (let q : b < 0 = lt in omega (arith, q)) }
  callees (suc n) = record {
    covered = λ place h values rest b f own w callers lt turns next.
        by_function (callees n) place h values rest b f own w callers lt turns next (slice_get p.functions h) refl;
  }
    where
      by_function : Calls.Calls p (lowered p) n (called p n) → (place : Place) (h : ℕ) (values : List Value) (rest : Rest Frame (Option Value)) (b : ℕ) (f own : Frame) (w : World) (callers : List Caller)
          → b < suc n → w.turns ≤ b → ((v : Option Value) (u : World) → u.turns ≤ b → Covers (rest v f u) (λ k. returns p.types (lowered p) (go p.types (lowered p) k) callers v u))
          → (o : Option FunctionData) → slice_get p.functions h ≡ o
          → Covers (function_of p (called p n) n place h values o rest f w) (λ k. calls p.types (lowered p) (go p.types (lowered p) k) place h callers (slice_get (lowered p).routines h) values own w)
      by_function below place h values rest b f own w callers lt turns next None is =
          subst (λ (r : Option RoutineData). Covers (undefined K.Call place w) (λ k. calls p.types (lowered p) (go p.types (lowered p) k) place h callers r values own w))
          (sym (routines.none h is)) stays
      by_function below place h values rest b f own w callers lt turns next (Some g) is =
          subst (λ (r : Option RoutineData). Covers (function_of p (called p n) n place h values (Some g) rest f w)
          (λ k. calls p.types (lowered p) (go p.types (lowered p) k) place h callers r values own w)) (sym (routine_there h g is))
          (enter_covers h (λ u caller w. Source.ending p (body_of p (called p n) n place h values g g.body) (λ v g after. (leave >> pure v) rest caller after) (frame_of p g) w) f own w
          (λ k u own w. body p.types (lowered p) (go p.types (lowered p) k) place callers (routine_of p g (code_if_any p h g g.body)) (code_if_any p h g g.body).code values w)
          (λ u less. runs n below place h values rest g f callers u (omega (arith, less, turns, lt)) (λ v t q. next v t (omega (arith, q, less, turns))) g.body refl))
