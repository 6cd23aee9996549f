-- Calls (C99 6.5.2.2), conversions, addresses, and copies of records.
use Rattle.std.proofs.Common.{◌≡◌, ℕ, zero, suc, ◌+◌, ◌<◌, ◌≤◌, Bool, true, false, List, [], ◌∷◌, Option, Some, None, inl, refl, sym, ap, ◌∙◌, subst, arith, length, if◌then◌else◌, slice_get}
use Rattle.std.proofs.lemmas.Bool.{true≢false}
use Rattle.lay_base.specs.declared.faults.UndefinedKind.TheVariants as K
use Rattle.lay_base.specs.declared.place.Place.{Place}
use Rattle.c_types.specs.Sameness.{same_type}
use Rattle.c_types.specs.Types.{CType, void, integer, pointer as pointer_to, array, function, structure}
use Rattle.c_typed.specs.declared.operators.LibraryFunction.{LibraryFunction}
use Rattle.c_typed.specs.declared.program.Local.{Local}
use Rattle.c_typed.specs.Programs.{ProgramData, FunctionData}
use Rattle.memory_words.specs.declared.cell_words.pointer.Ptr.{Ptr}
use Rattle.memory_words.specs.declared.cell_words.pointer.Ptr.TheVariants as P
use Rattle.block_memory.specs.RunWorlds.Doing.{Rest, Doing, ◌>>=◌, pure, is_undefined, tested}
use Rattle.block_memory.specs.RunWorlds.LibraryCalls.{library, allocated, assign_record, given, the}
use Rattle.block_memory.specs.RunWorlds.Operators.{converted, null_or_pointer}
use Rattle.block_memory.specs.RunWorlds.Scalars.{pointer_of}
use Rattle.block_memory.specs.RunWorlds.Worlds.{World, End, undefined}
use Rattle.block_memory.specs.declared.run_worlds.value.Value.{Value}
use Rattle.block_memory.specs.declared.run_worlds.value.Value.TheVariants.{Pointer as pointer}
use Rattle.c_meaning.specs.Expressions.{copy_record, address_of, through, by_type}
use Rattle.c_meaning.specs.Frames.{Frame}
use Rattle.c_meaning.specs.Program.{type_at}
use Rattle.c_meaning.specs.declared.frame.Slot.TheVariants.{ByName as by_name}
use Rattle.c_meaning.specs.declared.frame.Spot.{Spot}
use Rattle.c_meaning.specs.declared.frame.Spot.TheVariants.{Kept as kept, Placed as placed}
use Rattle.tac_ir.specs.Code.{Code, RoutineData}
use Rattle.tac_ir.specs.Covering.{Covers}
use Rattle.tac_ir.specs.Running.{Caller, with_temp, held as slot_held, read_row, go, returns, calls, calls_through, calls_typed}
use Rattle.tac_ir.specs.declared.step.Step.{Step}
use Rattle.tac_ir.specs.declared.step.Step.TheVariants as S
use Rattle.lower_tac.specs.Parts.{Steps, Part, temp, operand, code_of, held}
use Rattle.lower_tac.specs.Expressions.{no_result, convert_step, copy_code}
use Rattle.lower_tac.proofs.Blind.{blind_covers, gives, tests, stays, back}
use Rattle.lower_tac.proofs.Base.{Joined, Reads, reads_temp, later, deeper, done}
use Rattle.lower_tac.proofs.Library.{libraries, allocates_records, assigns_record}
use Rattle.lower_tac.proofs.Making as Making
use Rattle.lower_tac.proofs.Making.{Ends, ends_same, ends_more, ends_behind, ends_then, IsSome, Settled}
use Rattle.lower_tac.proofs.Assignments as Assignments
use Rattle.lower_tac.proofs.Values as Values

-- ---- calls: covered from the moment at which the function would be entered, whoever calls

pub record Calls (p : ProgramData) (c : Code) (n : ℕ) (call : Place → (f : ℕ) → List Value → Doing Frame (Option Value)) : Type 0 where
  pub covered : (place : Place) (h : ℕ) (values : List Value) (rest : Rest Frame (Option Value)) (b : ℕ) (f own : Frame) (w : World) (callers : List Caller) → b < n → w.turns ≤ b
      → ((v : Option Value) (u : World) → u.turns ≤ b → Covers (rest v f u) (λ k. returns p.types c (go p.types c k) callers v u))
      → Covers (call place h values rest f w) (λ k. calls p.types c (go p.types c k) place h callers (slice_get c.routines h) values own w)

-- the routine of each function, with its type
pub record Routines (p : ProgramData) (c : Code) : Type 0 where
  pub some : (h : ℕ) (f : FunctionData) → slice_get p.functions h ≡ Some f → (r : RoutineData) × ((slice_get c.routines h ≡ Some r) × (r.ty ≡ f.ty))
  pub none : (h : ℕ) → slice_get p.functions h ≡ None → slice_get c.routines h ≡ None

-- ---- values in a row

abbrev pub RowIs : (own : Frame) → (d count : ℕ) → List Value → Type 0
RowIs own d zero [] = Unit {0}
RowIs own d (suc k) (v ∷ vs) = (slice_get own d ≡ Some (by_name (Some v))) × RowIs own (suc d) k vs
RowIs own d zero (v ∷ vs) = ⊥
RowIs own d (suc k) [] = ⊥

row_read : (place : Place) (own : Frame) (d k : ℕ) (vs : List Value) (rest : Rest Frame (List Value)) (w : World) → RowIs own d k vs → read_row place d k rest own w ≡ rest vs own w
row_read place own d zero [] rest w h = refl
row_read place own d zero (v ∷ vs) rest w h = absurd h
row_read place own d (suc k) [] rest w h = absurd h
row_read place own d (suc k) (v ∷ vs) rest w h =
    ap (λ s. slot_held K.Call place s (λ v. read_row place (d + 1) k (λ vs. rest (v ∷ vs))) own w) h.0
    ∙ ap (λ (e : ℕ). read_row place e k (λ vs. rest (v ∷ vs)) own w) (let q : d + 1 ≡ suc d = omega arith in q)
    ∙ row_read place own (suc d) k vs (λ vs. rest (v ∷ vs)) w h.1

module _ (p : ProgramData) (c : Code) (n : ℕ) (locals : List Local) (cs : List Caller) (g : RoutineData) where
  abbrev at : (code : Steps) → Frame → World → (steps : ℕ) → End
  at = Making.at p c n locals cs g

  abbrev Made : (A : Type 0) → Doing Frame A → (Option Value → Doing Frame A) → Bool → ((to d : ℕ) → Steps → Steps) → Type 0
  Made = Making.Made p c n locals cs g

  abbrev Valued : Doing Frame (Option Value) → Bool → ((to d : ℕ) → Steps → Steps) → Type 0
  Valued = Making.Valued p c n locals cs g

  abbrev Effects : Doing Frame (Option Value) → ((d : ℕ) → Steps → Steps) → Type 0
  Effects = Making.Effects p c n locals cs g

  abbrev Uses : (A : Type 0) → Part → Doing Frame A → (Value → A) → Type 0
  Uses = Making.Uses p c n locals cs g

  abbrev Value_is : Value → Value
  Value_is v = v

  abbrev Place_of : Value → Spot
  Place_of v = placed (pointer_of v)

  -- ---- arguments

  pub record Rows (m : Doing Frame (List Value)) (count : ℕ) (make : (d : ℕ) → Steps → Steps) : Type 0 where
    pub ends : (d : ℕ) (code : Steps) → Ends code (make d code)
    pub does : (d : ℕ) (code : Steps) (rest : Rest Frame (List Value)) (b : ℕ) (old f own : Frame) (w : World) → b < n → Joined locals b d old f own w
        → Ends (make d code) g.code
        → ((vs : List Value) (f own : Frame) (w : World) → Joined locals b d old f own w → RowIs own d count vs → Covers (rest vs f w) (at code own w))
        → Covers (m rest f w) (at (make d code) own w)

  pub no_row : Rows (pure []) 0 (λ d code. code)
  no_row = record { ends = λ d code. ends_same; does = λ d code rest b old f own w lt j e next. next [] f own w j tt }

  pub more_rows : {x : Part} {m : Doing Frame Value} {o : Doing Frame (List Value)} {k : ℕ} {make : (d : ℕ) → Steps → Steps} → Uses Value x m Value_is → Rows o k make
      → Rows (m >>= λ v. o >>= λ vs. pure (v ∷ vs)) (suc k) (λ d code. held x d (make (suc d) code))
  more_rows {x} {m} {o} {k} {make} one other = record {
    ends = λ d code. ends_then (other.ends (suc d) code) (Making.held_ends p c n locals cs g one d (make (suc d) code));
    does = λ d code rest b old f own w lt j e next.
        Making.held_does p c n locals cs g one d (make (suc d) code) (λ v. o (λ vs. rest (v ∷ vs))) b old f own w lt j e (λ v f own w j h.
        let above : length locals ≤ d = j.above in
        other.does (suc d) code (λ vs. rest (v ∷ vs)) b own f own w lt (deeper locals (suc d) (omega arith) j)
        (ends_then (Making.held_ends p c n locals cs g one d (make (suc d) code)) e)
        (λ vs f new w z r. next (v ∷ vs) f new w (done locals (omega arith) j z) (z.kept d (inl (above, omega arith)) (by_name (Some v)) h, r)));
  }

  -- ---- calls

  pub call_valued : {call : Place → (f : ℕ) → List Value → Doing Frame (Option Value)} {m : Doing Frame (List Value)} {k : ℕ} {make : (d : ℕ) → Steps → Steps}
      (place : Place) (h : ℕ) → Calls p c n call → Rows m k make
      → Valued (m >>= λ vs. call place h vs) true (λ to d code. make d (S.Call to place h (record { first = d; count = k }) ∷ code))
  call_valued {call} {m} {k} {make} place h callees row = record {
    ends = λ to d code. ends_then (ends_more _ ends_same) (row.ends d (S.Call to place h (record { first = d; count = k }) ∷ code));
    does = λ to d code rest b old f own w lt j e next.
        row.does d (S.Call to place h (record { first = d; count = k }) ∷ code) (λ vs. call place h vs rest) b old f own w lt j e (λ vs f own w j r.
        back (λ s. row_read place own d k vs (λ vs own. calls p.types c (go p.types c s) place h (record { to = to; routine = g; more = code; frame = own } ∷ cs) (slice_get c.routines h) vs own) w r)
        (callees.covered place h vs rest b f own w (record { to = to; routine = g; more = code; frame = own } ∷ cs) lt j.now.turns (λ v u t. next v f own u (record { now = record { slots = j.now.slots; size = j.now.size; kinds = j.now.kinds; turns = t; blocks = j.now.blocks }; above = j.above; kept = j.kept }) (λ q. absurd (true≢false q)))));
  }

  pub call_through_valued : {call : Place → (f : ℕ) → List Value → Doing Frame (Option Value)} {x : Part} {o : Doing Frame Value} {m : Doing Frame (List Value)} {k : ℕ}
      {make : (d : ℕ) → Steps → Steps} (place : Place) (t : ℕ) → Calls p c n call → Routines p c → Uses Value x o Value_is → Rows m k make
      → Valued (o >>= λ v. m >>= λ vs. through p call place (type_at p t) (pointer_of v) vs) true
      (λ to d code. held x d (make (suc d) (S.CallThrough to place t (temp x.at d) (record { first = suc d; count = k }) ∷ code)))
  call_through_valued {call} {x} {o} {m} {k} {make} place t callees routines one row = record {
    ends = λ to d code. ends_then (ends_more _ ends_same) (ends_then (row.ends (suc d) (step to d ∷ code)) (Making.held_ends p c n locals cs g one d (make (suc d) (step to d ∷ code))));
    does = λ to d code rest b old f own w lt j e next.
        Making.held_does p c n locals cs g one d (make (suc d) (step to d ∷ code)) (λ v. m (λ vs. through p call place (type_at p t) (pointer_of v) vs rest)) b old f own w lt j e (λ v f own w j h.
        let above : length locals ≤ d = j.above in
        row.does (suc d) (step to d ∷ code) (λ vs. through p call place (type_at p t) (pointer_of v) vs rest) b own f own w lt (deeper locals (suc d) (omega arith) j)
        (ends_then (Making.held_ends p c n locals cs g one d (make (suc d) (step to d ∷ code))) e) (λ vs f new w z r.
        let there : slice_get new d ≡ Some (by_name (Some v)) = z.kept d (inl (above, omega arith)) (by_name (Some v)) h in
        let reads : Reads new (temp x.at d) v = reads_temp d K.NoValue x.at v there in
        back (λ s. reads.is (λ v. read_row place (suc d) k (λ vs own. calls_through p.types c (go p.types c s) place (type_at p t) (pointer_of v)
        (record { to = to; routine = g; more = code; frame = own } ∷ cs) vs own)) w
        ∙ row_read place new (suc d) k vs (λ vs own. calls_through p.types c (go p.types c s) place (type_at p t) (pointer_of v)
        (record { to = to; routine = g; more = code; frame = own } ∷ cs) vs own) w r)
        (by_pointer to code rest b f new w lt vs (pointer_of v) (let q = z.now.turns in q)
        (λ o u q. next o f new u (record {
          now = record { slots = z.now.slots; size = z.now.size; kinds = z.now.kinds; turns = q; blocks = z.now.blocks };
          above = j.above;
          kept = (done locals (omega arith) j z).kept;
        }) (λ q. absurd (true≢false q))))));
  }
    where
      step : (to d : ℕ) → Step
      step to d = S.CallThrough to place t (temp x.at d) (record { first = suc d; count = k })

      by_pointer : (to : ℕ) (code : Steps) (rest : Rest Frame (Option Value)) (b : ℕ) (f own : Frame) (w : World) → b < n → (vs : List Value) (q : Ptr) → w.turns ≤ b
          → ((v : Option Value) (u : World) → u.turns ≤ b → Covers (rest v f u) (at code (with_temp to (by_name v) own) u))
          → Covers (through p call place (type_at p t) q vs rest f w)
          (λ s. calls_through p.types c (go p.types c s) place (type_at p t) q (record { to = to; routine = g; more = code; frame = own } ∷ cs) vs own w)
      by_pointer to code rest b f own w lt vs P.Null turns next = stays
      by_pointer to code rest b f own w lt vs (P.Block k' at') turns next = stays
      by_pointer to code rest b f own w lt vs (P.Function h) turns next = by_function (slice_get p.functions h) refl
        where
          caller : Caller
          caller = record { to = to; routine = g; more = code; frame = own }

          by_function : (o : Option FunctionData) → slice_get p.functions h ≡ o
              → Covers (by_type p call place (type_at p t) h vs o rest f w)
              (λ s. calls_typed p.types c (go p.types c s) place (type_at p t) h (caller ∷ cs) (slice_get c.routines h) vs own w)
          by_function None is =
              subst (λ (r : Option RoutineData). Covers (undefined K.Call place w) (λ s. calls_typed p.types c (go p.types c s) place (type_at p t) h (caller ∷ cs) r vs own w))
              (sym (routines.none h is)) stays
          by_function (Some fd) is =
              let r = routines.some h fd is in
              subst (λ (o : Option RoutineData). Covers (by_type p call place (type_at p t) h vs (Some fd) rest f w)
              (λ s. calls_typed p.types c (go p.types c s) place (type_at p t) h (caller ∷ cs) o vs own w)) (sym r.1.0)
              (by_test r.0 r.1.0 (same_type (type_at p t) (pointer_to (type_at p fd.ty))) (same_type (type_at p t) (pointer_to (type_at p r.0.ty)))
              (ap (λ (i : ℕ). same_type (type_at p t) (pointer_to (type_at p i))) r.1.1))
            where
              by_test : (r : RoutineData) → slice_get c.routines h ≡ Some r → (one other : Bool) → other ≡ one
                  → Covers ((if one then call place h vs else is_undefined K.Call place) rest f w)
                  (λ s. if other then calls p.types c (go p.types c s) place h (caller ∷ cs) (Some r) vs own w else undefined K.Call place w)
              by_test r is true true e =
                  subst (λ (o : Option RoutineData). Covers (call place h vs rest f w) (λ s. calls p.types c (go p.types c s) place h (caller ∷ cs) o vs own w)) is
                  (callees.covered place h vs rest b f own w (record { to = to; routine = g; more = code; frame = own } ∷ cs) lt turns next)
              by_test r is true false e = absurd (true≢false (sym e))
              by_test r is false true e = absurd (true≢false e)
              by_test r is false false e = stays

  -- ---- the library

  pub library_valued : {m : Doing Frame (List Value)} {k : ℕ} {make : (d : ℕ) → Steps → Steps} (place : Place) (which : LibraryFunction) → Rows m k make
      → Valued (m >>= λ vs. library place which vs) true (λ to d code. make d (S.Library to place which (record { first = d; count = k }) ∷ code))
  library_valued {m} {k} {make} place which row = record {
    ends = λ to d code. ends_then (ends_more _ ends_same) (row.ends d (S.Library to place which (record { first = d; count = k }) ∷ code));
    does = λ to d code rest b old f own w lt j e next.
        row.does d (S.Library to place which (record { first = d; count = k }) ∷ code) (λ vs. library place which vs rest) b old f own w lt j e (λ vs f own w j r.
        back (λ s. row_read place own d k vs (λ vs. library place which vs (λ o own w. at code (with_temp to (by_name o) own) w s)) w r)
        (blind_covers (libraries place which vs w) rest f own (λ s o own w. at code (with_temp to (by_name o) own) w s)
        (λ o u h. next o f own u (later locals u h j) (λ q. absurd (true≢false q)))));
  }

  pub allocate_valued : {x : Part} {m : Doing Frame Value} (place : Place) (r size : ℕ) (zeroed : Bool) → Uses Value x m Value_is
      → Valued (m >>= λ v. given (allocated place r size v zeroed)) false (λ to d code. code_of x d (S.Allocate to place r size zeroed (operand x d) ∷ code))
  allocate_valued {x} {m} place r size zeroed one =
      Values.one_made p c n locals cs g one pure (λ to a. S.Allocate to place r size zeroed a)
      (λ v. allocated place r size v zeroed) (λ v. given (allocated place r size v zeroed))
      (λ v rest f w. refl) (λ v w. allocates_records place r size v zeroed w) (λ to a code own w k. refl)

  -- ---- conversions

  pub void_valued : {m : Doing Frame (Option Value)} {make : (d : ℕ) → Steps → Steps} → Effects m make
      → Valued (m >>= λ o. pure None) true (λ to d code. make d (S.Clear to ∷ code))
  void_valued {m} {make} one = record {
    ends = λ to d code. ends_then (ends_more _ ends_same) (one.ends d (S.Clear to ∷ code));
    does = λ to d code rest b old f own w lt j e next. one.does d (S.Clear to ∷ code) (λ o. rest None) b old f own w lt j e
        (λ o f own w j. back (λ k. refl) (next None f own w j (λ q. absurd (true≢false q))));
  }

  abbrev Converted : (t : CType) → Part → Doing Frame Value → Type 0
  Converted t x m = Valued (m >>= λ v. given (tested x.at (converted t v))) false (λ to d code. code_of x d (convert_step t x.at to (operand x d) code))

  pub convert_valued : {x : Part} {m : Doing Frame Value} (t : CType) → Uses Value x m Value_is → Converted t x m
  convert_valued {x} {m} (integer kind) one =
      Values.one_made p c n locals cs g one pure (λ to a. S.Convert to x.at kind a) (λ v. tested x.at (converted (integer kind) v))
      (λ v. given (tested x.at (converted (integer kind) v))) (λ v rest f w. refl) (λ v w. tests x.at (converted (integer kind) v) w) (λ to a code own w k. refl)
  convert_valued {x} {m} (pointer_to t) one =
      Values.one_made p c n locals cs g one pure (λ to a. S.AsPointer to x.at a) (λ v. tested x.at (null_or_pointer v))
      (λ v. given (tested x.at (converted (pointer_to t) v))) (λ v rest f w. refl) (λ v w. tests x.at (null_or_pointer v) w) (λ to a code own w k. refl)
  convert_valued {x} {m} void one = Values.one_made p c n locals cs g one pure (λ to a. S.Set to a) (λ v. pure v) (λ v. given (tested x.at (converted void v)))
      (λ v rest f w. refl) (λ v w. gives v w) (λ to a code own w k. refl)
  convert_valued {x} {m} (array t k) one = Values.one_made p c n locals cs g one pure (λ to a. S.Set to a) (λ v. pure v) (λ v. given (tested x.at (converted (array t k) v)))
      (λ v rest f w. refl) (λ v w. gives v w) (λ to a code own w k. refl)
  convert_valued {x} {m} (function t all) one =
      Values.one_made p c n locals cs g one pure (λ to a. S.Set to a) (λ v. pure v) (λ v. given (tested x.at (converted (function t all) v)))
      (λ v rest f w. refl) (λ v w. gives v w) (λ to a code own w k. refl)
  convert_valued {x} {m} (structure r) one = Values.one_made p c n locals cs g one pure (λ to a. S.Set to a) (λ v. pure v) (λ v. given (tested x.at (converted (structure r) v)))
      (λ v rest f w. refl) (λ v w. gives v w) (λ to a code own w k. refl)

  -- ---- addresses

  pub no_address : {m : Doing Frame Spot} (place : Place) (x : ℕ) → Assignments.Named p c n locals cs g x m
      → Valued (m >>= λ s. the (address_of place s) pointer) false (λ to d code. S.Fail K.Dead place ∷ code)
  no_address {m} place x one = record {
    ends = λ to d code. ends_more _ ends_same;
    does = λ to d code rest b old f own w lt j e next.
        subst (λ (z : End). Covers z (at (S.Fail K.Dead place ∷ code) own w)) (sym (one.is b d old f own w j (λ s. the (address_of place s) pointer rest))) (back (λ k. refl) stays);
  }

  -- ---- records

  pub record Copies (m : Doing Frame (Option Value)) (make : (d : ℕ) → Option ℕ → Steps → Steps) : Type 0 where
    pub valued : Valued m true (λ to d code. make d (Some to) code)
    pub effects : Effects m (λ d code. make d None code)

  as_copies : (m : Doing Frame (Option Value)) (make : (d : ℕ) → Option ℕ → Steps → Steps)
      → ((d : ℕ) (to : Option ℕ) (code : Steps) → Ends code (make d to code))
      → ((d : ℕ) (to : Option ℕ) (code : Steps) (rest : Rest Frame (Option Value)) (b : ℕ) (old f own : Frame) (w : World) → b < n → Joined locals b d old f own w
      → Ends (make d to code) g.code
      → ((f own : Frame) (w : World) → Joined locals b d old f own w → Covers (rest None f w) (at (no_result to code) own w))
      → Covers (m rest f w) (at (make d to code) own w))
      → Copies m make
  as_copies m make ends does = record {
    valued = record {
      ends = λ to d code. ends d (Some to) code;
      does = λ to d code rest b old f own w lt j e next. does d (Some to) code rest b old f own w lt j e
          (λ f own w j. back (λ k. refl) (next None f own w j (λ q. absurd (true≢false q))));
    };
    effects = record {
      ends = λ d code. ends d None code;
      does = λ d code rest b old f own w lt j e next. does d None code rest b old f own w lt j e (λ f own w j. next None f own w j);
    };
  }

  no_result_ends : (to : Option ℕ) (code : Steps) → Ends code (no_result to code)
  no_result_ends None code = ends_same
  no_result_ends (Some to) code = ends_more _ ends_same

  pub copy_placed : {x y : Part} {m o : Doing Frame Spot} (place : Place) (size : ℕ) → Uses Spot x m Place_of → Uses Spot y o Place_of
      → Copies (m >>= λ s. o >>= λ r. copy_record place size s r >>= λ a. pure None) (λ d to code. copy_code p None None place size x y d to code)
  copy_placed {x} {y} {m} {o} place size one other = as_copies _ _
      (λ d to code. Making.both_ends p c n locals cs g one other d (λ a e. S.CopyRecord place size a e ∷ no_result to code) code (λ a e. ends_more _ (no_result_ends to code)))
      (λ d to code rest b old f own w lt j e next.
      Making.both_does p c n locals cs g one other d (λ a e. S.CopyRecord place size a e ∷ no_result to code) code
      (λ s r. copy_record place size s r (λ a. rest None))
      (λ k v u. assign_record place size (pointer_of v) (pointer_of u) (λ a own w. at (no_result to code) own w k)) b old f own w lt j e
      (λ a own w k. refl)
      (λ v u f own w j r. blind_covers (assigns_record place size (pointer_of v) (pointer_of u) w) (λ a. rest None) f own (λ k a own w. at (no_result to code) own w k)
      (λ a z h. next f own z (later locals z h j))))

  -- what a path leads to is held, or is a named local, which takes no code
  pub record Held (x : Part) (m : Doing Frame Spot) (Is : Spot → Type 0) : Type 0 where
    pub ends : (d : ℕ) (code : Steps) → Ends code (held x d code)
    pub does : (d : ℕ) (code : Steps) (rest : Rest Frame Spot) (b : ℕ) (old f own : Frame) (w : World) → b < n → Joined locals b d old f own w → Ends (held x d code) g.code
        → ((s : Spot) (f own : Frame) (w : World) → Joined locals b d old f own w → Is s → Covers (rest s f w) (at code own w))
        → Covers (m rest f w) (at (held x d code) own w)

  abbrev pub Anywhere : Spot → Type 0
  Anywhere s = Unit {0}

  abbrev pub IsKept : Spot → Type 0
  IsKept (kept x) = Unit {0}
  IsKept (placed q) = ⊥

  pub held_place : {x : Part} {m : Doing Frame Spot} → Uses Spot x m Place_of → Held x m Anywhere
  held_place {x} {m} one = record {
    ends = λ d code. Making.held_ends p c n locals cs g one d code;
    does = λ d code rest b old f own w lt j e next.
        Making.held_does p c n locals cs g one d code rest b old f own w lt j e (λ v f own w j h. next (placed (pointer_of v)) f own w j tt);
  }

  pub held_name : {m : Doing Frame Spot} (x : Part) (y : ℕ) → Assignments.Named p c n locals cs g y m → ((d : ℕ) (code : Steps) → held x d code ≡ code) → Held x m IsKept
  held_name {m} x y one same = record {
    ends = λ d code. subst (λ (s : Steps). Ends code s) (sym (same d code)) ends_same;
    does = λ d code rest b old f own w lt j e next.
        subst (λ (s : Steps). Covers (m rest f w) (at s own w)) (sym (same d code))
        (subst (λ (z : End). Covers z (at code own w)) (sym (one.is b d old f own w j rest)) (next (kept y) f own w j tt));
  }

  copy_fails : (Is Is_other : Spot → Type 0) → ((place : Place) (size : ℕ) (s r : Spot) (rest : Rest Frame (Unit {0})) (f : Frame) (w : World) → Is s → Is_other r
      → copy_record place size s r rest f w ≡ undefined K.Dead place w)
      → {x y : Part} {m o : Doing Frame Spot} (place : Place) (size : ℕ) → Held x m Is → Held y o Is_other
      → Copies (m >>= λ s. o >>= λ r. copy_record place size s r >>= λ a. pure None) (λ d to code. held x d (held y (suc d) (S.Fail K.Dead place ∷ code)))
  copy_fails Is Is_other same {x} {y} {m} {o} place size one other = as_copies _ _
      (λ d to code. ends_then (ends_more _ ends_same) (ends_then (other.ends (suc d) (S.Fail K.Dead place ∷ code)) (one.ends d (held y (suc d) (S.Fail K.Dead place ∷ code)))))
      (λ d to code rest b old f own w lt j e next.
      one.does d (held y (suc d) (S.Fail K.Dead place ∷ code)) (λ s. o (λ r. copy_record place size s r (λ a. rest None))) b old f own w lt j e (λ s f own w j i.
      other.does (suc d) (S.Fail K.Dead place ∷ code) (λ r. copy_record place size s r (λ a. rest None)) b own f own w lt (deeper locals (suc d) (omega arith) j)
      (ends_then (one.ends d (held y (suc d) (S.Fail K.Dead place ∷ code))) e)
      (λ r f own w z k. subst (λ (z : End). Covers z (at (S.Fail K.Dead place ∷ code) own w)) (sym (same place size s r (λ a. rest None) f w i k)) (back (λ k. refl) stays))))

  left_kept : (place : Place) (size : ℕ) (s r : Spot) (rest : Rest Frame (Unit {0})) (f : Frame) (w : World) → IsKept s → Anywhere r
      → copy_record place size s r rest f w ≡ undefined K.Dead place w
  left_kept place size (kept x) r rest f w h k = refl
  left_kept place size (placed q) r rest f w h k = absurd h

  right_kept : (place : Place) (size : ℕ) (s r : Spot) (rest : Rest Frame (Unit {0})) (f : Frame) (w : World) → Anywhere s → IsKept r
      → copy_record place size s r rest f w ≡ undefined K.Dead place w
  right_kept place size (kept x) r rest f w h k = refl
  right_kept place size (placed q) (kept y) rest f w h k = refl
  right_kept place size (placed q) (placed r) rest f w h k = absurd k

  pub any_kept : {x : Part} {m : Doing Frame Spot} → Held x m IsKept → Held x m Anywhere
  any_kept one = record { ends = one.ends; does = λ d code rest b old f own w lt j e next. one.does d code rest b old f own w lt j e (λ s f own w j i. next s f own w j tt) }

  pub copy_to_name : {x y : Part} {m o : Doing Frame Spot} (place : Place) (size k : ℕ) (q : Option ℕ) → Held x m IsKept → Held y o Anywhere
      → Copies (m >>= λ s. o >>= λ r. copy_record place size s r >>= λ a. pure None) (λ d to code. copy_code p (Some k) q place size x y d to code)
  copy_to_name place size k q one other = copy_fails IsKept Anywhere left_kept place size one other

  pub copy_from_name : {x y : Part} {m o : Doing Frame Spot} (place : Place) (size k : ℕ) → Held x m Anywhere → Held y o IsKept
      → Copies (m >>= λ s. o >>= λ r. copy_record place size s r >>= λ a. pure None) (λ d to code. copy_code p None (Some k) place size x y d to code)
  copy_from_name place size k one other = copy_fails Anywhere IsKept right_kept place size one other
