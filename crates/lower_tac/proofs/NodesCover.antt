-- The code of each expression does what the expression does.
use Rattle.std.proofs.Common.{◌≡◌, ℕ, Bool, true, false, not, List, ◌∷◌, Option, Some, None, refl, sym, subst, if◌then◌else◌, slice_get}
use Rattle.std.specs.Prelude.{pos}
use Rattle.lay_base.specs.declared.faults.UndefinedKind.TheVariants as K
use Rattle.lay_base.specs.declared.place.Place.{Place}
use Rattle.c_types.specs.Layouts.{offset_of}
use Rattle.c_types.specs.Types.{CType, void, integer, pointer as pointer_to, array, function, structure}
use Rattle.c_typed.specs.Constants.{ty, kind_of}
use Rattle.c_typed.specs.Conversions.{is_pointer, number_of}
use Rattle.c_typed.specs.declared.program.Local.{Local}
use Rattle.c_typed.specs.Programs.{ProgramData}
use Rattle.c_typed.specs.Trees as T
use Rattle.c_typed.specs.Trees.{Expression, expression, Node, Path, path, PathNode, Expressions, OptionalExpression}
use Rattle.c_typed.specs.Typed.{at_of, path_ty}
use Rattle.memory_words.specs.declared.cell_words.pointer.Ptr.TheVariants as P
use Rattle.block_memory.specs.RunWorlds.Doing.{Rest, Doing, ◌>>=◌, pure, tested, memory_now}
use Rattle.block_memory.specs.RunWorlds.LibraryCalls.{given, the}
use Rattle.block_memory.specs.RunWorlds.Operators.{unary, binary, compared, moved_from, distance, is_true, flag, updated}
use Rattle.block_memory.specs.RunWorlds.Scalars.{as_word, pointer_of}
use Rattle.block_memory.specs.RunWorlds.Worlds.{World, End}
use Rattle.block_memory.specs.declared.run_worlds.value.Value.{Value}
use Rattle.block_memory.specs.declared.run_worlds.value.Value.TheVariants.{Word as word, Pointer as pointer}
use Rattle.c_meaning.specs.Expressions.{count_kind, value, used, value_of, spot, spot_of, arguments, or_no_value, as_type, address_of, copy_record, part_of as part_of_place, element_of}
use Rattle.c_meaning.specs.Frames.{Frame, fetch, put as put_value, local_spot}
use Rattle.c_meaning.specs.Program.{type_at, size_at, element_size, length_of}
use Rattle.c_meaning.specs.declared.frame.Spot.{Spot}
use Rattle.c_meaning.specs.declared.frame.Spot.TheVariants.{Kept as kept, Placed as placed}
use Rattle.tac_ir.specs.Code.{Code, RoutineData}
use Rattle.tac_ir.specs.Covering.{Covers}
use Rattle.tac_ir.specs.Running.{Caller, read}
use Rattle.tac_ir.specs.declared.step.Operand.{Operand}
use Rattle.tac_ir.specs.declared.step.Operand.TheVariants as O
use Rattle.tac_ir.specs.declared.step.Step.TheVariants as S
use Rattle.tac_ir.specs.declared.step.Target.{Target}
use Rattle.lower_tac.specs.Parts.{Steps, Part, held}
use Rattle.lower_tac.specs.Expressions.{named, address_of_local, local_code, value_of_name, is_void, named_root, atom, place_atom, lacks, lacks_node, place_lacks, place_value_at, part_of, place_of, single, load_code, address_code, convert_code, part_code, element_code, assign_code, assign_op_code, step_code, copy_code, value_code, node_code, arguments_code, effect_code, branch_code, path_code, member_code, count_of}
use Rattle.lower_tac.proofs.Blind.{gives, tests, sees, then_blind, same_run, back}
use Rattle.lower_tac.proofs.Base.{Joined, Reads}
use Rattle.lower_tac.proofs.Making as Making
use Rattle.lower_tac.proofs.Making.{Ends, ends_same, ends_more, ends_then}
use Rattle.lower_tac.proofs.Values as Values
use Rattle.lower_tac.proofs.Choices as Choices
use Rattle.lower_tac.proofs.Places as Places
use Rattle.lower_tac.proofs.Places.{NamedAs, named_is}
use Rattle.lower_tac.proofs.WaysCover as Ways
use Rattle.lower_tac.proofs.Assignments as Assignments
use Rattle.lower_tac.proofs.Calls as Calls

module _ (p : ProgramData) (c : Code) (n : ℕ) (locals : List Local) (cs : List Caller) (g : RoutineData) (call : Place → (f : ℕ) → List Value → Doing Frame (Option Value)) where
  abbrev Valued : Doing Frame (Option Value) → Bool → ((to d : ℕ) → Steps → Steps) → Type 0
  Valued = Making.Valued p c n locals cs g

  abbrev Effects : Doing Frame (Option Value) → ((d : ℕ) → Steps → Steps) → Type 0
  Effects = Making.Effects p c n locals cs g

  abbrev Uses : (A : Type 0) → Part → Doing Frame A → (Value → A) → Type 0
  Uses = Making.Uses p c n locals cs g

  abbrev Branches : Doing Frame Value → (Bool → Target → (d : ℕ) → Steps → Steps) → Type 0
  Branches = Making.Branches p c n locals cs g

  abbrev Leads : Doing Frame Spot → Place → Bool → ((to d : ℕ) → Steps → Steps) → Type 0
  Leads = Places.Leads p c n locals cs g

  abbrev Points : Doing Frame Spot → Place → ((to d : ℕ) → Steps → Steps) → Type 0
  Points = Places.Points p c n locals cs g

  as_leads : {m : Doing Frame Spot} {place : Place} {make : (to d : ℕ) → Steps → Steps} → Points m place make → Leads m place false make
  as_leads one = Places.as_leads p c n locals cs g one

  abbrev Named : ℕ → Doing Frame Spot → Type 0
  Named = Assignments.Named p c n locals cs g

  abbrev Rows : Doing Frame (List Value) → ℕ → ((d : ℕ) → Steps → Steps) → Type 0
  Rows = Calls.Rows p c n locals cs g

  abbrev pub ValueDoes : Expression ℕ → Type 0
  ValueDoes e = Valued (value p call e) (lacks p locals e) (value_code p locals e)

  abbrev pub UseDoes : Expression ℕ → Type 0
  UseDoes e = Uses Value (part_of p locals e (value_code p locals e)) (used p call e) (λ v. v)

  abbrev Place_of : Value → Spot
  Place_of v = placed (pointer_of v)

  abbrev pub PlaceDoes : Bool → Path ℕ → Type 0
  PlaceDoes addressed q = Uses Spot (place_of p locals q (path_code p locals addressed q)) (spot p call addressed q) Place_of

  -- ---- named locals

  pub named_leads : (addressed : Bool) (q : Path ℕ) (x : ℕ) → named_root p locals q ≡ Some x → Named x (spot p call addressed q)
  named_leads addressed (path t b (T.local y)) x e =
      let z = named_is locals y x e in
      record {
        named = z.is;
        is = λ b' d old f own w j rest. subst (λ (k : ℕ). local_spot b k rest f w ≡ rest (kept x) f w) (sym z.same) (Places.named_spot p c n locals cs g b x z.is j rest);
      }
  named_leads addressed (path t b (T.object k)) x e = cc
  named_leads addressed (path t b (T.deref k)) x e = cc
  named_leads addressed (path t b (T.index k i)) x e = cc
  named_leads addressed (path t b (T.member q r field)) x e = cc
  named_leads addressed (path t b (T.element q i)) x e = cc

  -- ---- operands

  some_same : {A : Type 0} {a b : A} → Some a ≡ Some b → a ≡ b
  some_same e = cc

  fixed_does : (o : Operand) (v : Value) → ((own : Frame) → Reads own o v) → (a : Operand) → o ≡ a → (rest : Rest Frame Value) (later : ℕ → Rest Frame Value) (f own : Frame) (w : World)
      → ((v : Value) → Reads own a v → Covers (rest v f w) (λ k. later k v own w)) → Covers (rest v f w) (λ k. read a (later k) own w)
  fixed_does o v reads a e rest later f own w next =
      subst (λ (z : Operand). ((v : Value) → Reads own z v → Covers (rest v f w) (λ k. later k v own w)) → Covers (rest v f w) (λ k. read z (later k) own w)) e
      (λ next. same_run (λ k. (reads own).is (later k) w) (next v (reads own))) next

  load_atom : (t : ℕ) (b : Place) (q : Path ℕ) (a : Operand) (o : Option ℕ) → named_root p locals q ≡ o → value_of_name b o ≡ Some a → (rest : Rest Frame Value) (later : ℕ → Rest Frame Value)
      (z d : ℕ) (old f own : Frame) (w : World) → Joined locals z d old f own w → ((v : Value) → Reads own a v → Covers (rest v f w) (λ k. later k v own w))
      → Covers (used p call (expression t b (T.load q)) rest f w) (λ k. read a (later k) own w)
  load_atom t b q a None is e rest later z d old f own w j next = cc
  load_atom t b q a (Some x) is e rest later z d old f own w j next =
      let one = named_leads false q x is in
      subst (λ (o : Operand). ((v : Value) → Reads own o v → Covers (rest v f w) (λ k. later k v own w)) → Covers (used p call (expression t b (T.load q)) rest f w) (λ k. read o (later k) own w))
      (some_same e)
      (λ next. subst (λ (e : End). Covers e (λ k. read (O.Temp K.Empty x b) (later k) own w)) (sym (one.is z d old f own w j (λ s. fetch p b s t rest)))
      (Places.named_read p c n locals cs g b x one.named j rest later next)) next

  atom_does : (t : ℕ) (b : Place) (node : Node ℕ) (a : Operand) → atom p locals (expression t b node) ≡ Some a → (rest : Rest Frame Value) (later : ℕ → Rest Frame Value)
      (z d : ℕ) (old f own : Frame) (w : World) → Joined locals z d old f own w → ((v : Value) → Reads own a v → Covers (rest v f w) (λ k. later k v own w))
      → Covers (used p call (expression t b node) rest f w) (λ k. read a (later k) own w)
  atom_does t b (T.constant v) a e rest later z d old f own w j next = fixed_does (O.Word v) (word v) (λ own. record { is = λ rest w. refl }) a (some_same e) rest later f own w next
  atom_does t b T.null a e rest later z d old f own w j next = fixed_does O.Null (pointer P.Null) (λ own. record { is = λ rest w. refl }) a (some_same e) rest later f own w next
  atom_does t b (T.function_name h) a e rest later z d old f own w j next =
      fixed_does (O.Function h) (pointer (P.Function h)) (λ own. record { is = λ rest w. refl }) a (some_same e) rest later f own w next
  atom_does t b (T.load q) a e rest later z d old f own w j next = load_atom t b q a (named_root p locals q) refl e rest later z d old f own w j next
  atom_does t b (T.address_of q) a e rest later z d old f own w j next = cc
  atom_does t b (T.decay q) a e rest later z d old f own w j next = cc
  atom_does t b (T.convert x written) a e rest later z d old f own w j next = cc
  atom_does t b (T.unary op x) a e rest later z d old f own w j next = cc
  atom_does t b (T.binary op x y) a e rest later z d old f own w j next = cc
  atom_does t b (T.compare op x y) a e rest later z d old f own w j next = cc
  atom_does t b (T.pointer_add op x y) a e rest later z d old f own w j next = cc
  atom_does t b (T.pointer_difference x y) a e rest later z d old f own w j next = cc
  atom_does t b (T.both x y) a e rest later z d old f own w j next = cc
  atom_does t b (T.either x y) a e rest later z d old f own w j next = cc
  atom_does t b (T.not x) a e rest later z d old f own w j next = cc
  atom_does t b (T.choose x y q) a e rest later z d old f own w j next = cc
  atom_does t b (T.comma x y) a e rest later z d old f own w j next = cc
  atom_does t b (T.assign q x) a e rest later z d old f own w j next = cc
  atom_does t b (T.assign_op op q x) a e rest later z d old f own w j next = cc
  atom_does t b (T.step op before q) a e rest later z d old f own w j next = cc
  atom_does t b (T.copy_record q r) a e rest later z d old f own w j next = cc
  atom_does t b (T.call h all) a e rest later z d old f own w j next = cc
  atom_does t b (T.call_through x all) a e rest later z d old f own w j next = cc
  atom_does t b (T.library which all) a e rest later z d old f own w j next = cc
  atom_does t b (T.allocate r count zeroed) a e rest later z d old f own w j next = cc

  -- ---- parts whose value is used

  pub uses : (e : Expression ℕ) → ValueDoes e → UseDoes e
  uses (expression t b node) one = record {
    ends = λ d code. one.ends d d code;
    by_atom = λ a e rest later z d old f own w j next. atom_does t b node a e rest later z d old f own w j next;
    made = λ d code rest z old f own w lt j e next. one.does d d code (λ o. or_no_value b o rest) z old f own w lt j e next;
  }

  -- what lies there is the value of an expression
  pub deref_leads : (e : Expression ℕ) → ValueDoes e → Leads (used p call e >>= λ v. pure (placed (pointer_of v))) (at_of e) (lacks p locals e) (value_code p locals e)
  deref_leads (expression t b node) one = record {
    ends = one.ends;
    does = λ to d code rest z old f own w lt j e next. one.does to d code (λ o. or_no_value b o (λ v. rest (placed (pointer_of v)))) z old f own w lt j e next;
  }

  place_atom_does : (addressed : Bool) (q : Path ℕ) (a : Operand) → place_atom p locals q ≡ Some a → named_root p locals q ≡ None → (rest : Rest Frame Spot) (later : ℕ → Rest Frame Value)
      (z d : ℕ) (old f own : Frame) (w : World) → Joined locals z d old f own w → ((v : Value) → Reads own a v → Covers (rest (placed (pointer_of v)) f w) (λ k. later k v own w))
      → Covers (spot p call addressed q rest f w) (λ k. read a (later k) own w)
  place_atom_does addressed (path t b (T.local x)) a e none rest later z d old f own w j next = by_local (slice_get locals x) refl e none
    where
      by_block : (l : Local) (t : Bool) → l.block ≡ t → slice_get locals x ≡ Some l → (if t then Some (O.Temp K.Dead x b) else None) ≡ Some a
          → Covers (local_spot b x rest f w) (λ k. read a (later k) own w)
      by_block l false t is e = cc
      by_block l true t is e =
          subst (λ (o : Operand). ((v : Value) → Reads own o v → Covers (rest (placed (pointer_of v)) f w) (λ k. later k v own w)) → Covers (local_spot b x rest f w) (λ k. read o (later k) own w))
          (some_same e) (λ next. Places.block_read p c n locals cs g b x (record { local = l; is = is; block = t }) j rest later (λ q r. next (pointer q) r)) next

      by_local : (o : Option Local) → slice_get locals x ≡ o → address_of_local b x o ≡ Some a → named o x ≡ None → Covers (local_spot b x rest f w) (λ k. read a (later k) own w)
      by_local None is e none = cc
      by_local (Some l) is e none = by_block l l.block refl is e
  place_atom_does addressed (path t b (T.object k)) a e none rest later z d old f own w j next =
      fixed_place (O.Object k) (pointer (P.Block k 0)) (λ own. record { is = λ rest w. refl }) a (some_same e) next
    where
      fixed_place : (o : Operand) (v : Value) → ((own : Frame) → Reads own o v) → (a : Operand) → o ≡ a
          → ((v : Value) → Reads own a v → Covers (rest (placed (pointer_of v)) f w) (λ k. later k v own w)) → Covers (rest (placed (pointer_of v)) f w) (λ k. read a (later k) own w)
      fixed_place o v reads a e next =
          subst (λ (z : Operand). ((v : Value) → Reads own z v → Covers (rest (placed (pointer_of v)) f w) (λ k. later k v own w)) → Covers (rest (placed (pointer_of v)) f w) (λ k. read z (later k) own w)) e
          (λ next. same_run (λ k. (reads own).is (later k) w) (next v (reads own))) next
  place_atom_does addressed (path t b (T.deref (expression u at node))) a e none rest later z d old f own w j next =
      atom_does u at node a e (λ v. rest (placed (pointer_of v))) later z d old f own w j next
  place_atom_does addressed (path t b (T.index x i)) a e none rest later z d old f own w j next = cc
  place_atom_does addressed (path t b (T.member q r field)) a e none rest later z d old f own w j next = cc
  place_atom_does addressed (path t b (T.element q i)) a e none rest later z d old f own w j next = cc

  pub place_uses : (addressed : Bool) (q : Path ℕ) → named_root p locals q ≡ None
      → Leads (spot p call addressed q) (place_value_at p locals q) (place_lacks p locals q) (path_code p locals addressed q) → PlaceDoes addressed q
  place_uses addressed q none one = record {
    ends = λ d code. one.ends d d code;
    by_atom = λ a e rest later z d old f own w j next. place_atom_does addressed q a e none rest later z d old f own w j next;
    made = λ d code rest z old f own w lt j e next. one.does d d code rest z old f own w lt j e next;
  }

  -- a named local takes no code
  named_held : (q : Path ℕ) (x : ℕ) → named_root p locals q ≡ Some x → (d : ℕ) (code : Steps) → held (place_of p locals q (path_code p locals false q)) d code ≡ code
  named_held (path t b (T.local y)) x e d code = by_local (slice_get locals y) e
    where
      by_block : (t : Bool) → (if t then None else Some y) ≡ Some x → (if t then S.Set d (O.Temp K.Dead y b) ∷ code else code) ≡ code
      by_block true e = cc
      by_block false e = refl

      by_local : (o : Option Local) → named o y ≡ Some x → local_code b y o d code ≡ code
      by_local None e = cc
      by_local (Some l) e = by_block l.block e
  named_held (path t b (T.object k)) x e d code = cc
  named_held (path t b (T.deref k)) x e d code = cc
  named_held (path t b (T.index k i)) x e d code = cc
  named_held (path t b (T.member q r field)) x e d code = cc
  named_held (path t b (T.element q i)) x e d code = cc

  -- ---- by the local to which a path leads, or else by the place

  abbrev PathDoes : Bool → Path ℕ → Type 0
  PathDoes addressed q = named_root p locals q ≡ None → PlaceDoes addressed q

  load_by : (t : ℕ) (b : Place) (q : Path ℕ) (o : Option ℕ) → named_root p locals q ≡ o → PathDoes false q
      → Valued (spot p call false q >>= λ s. fetch p b s t >>= λ v. pure (Some v)) false (load_code p locals o t b (place_of p locals q (path_code p locals false q)))
  load_by t b q None is one = Assignments.load_placed p c n locals cs g t b (one is)
  load_by t b q (Some x) is one = Assignments.load_named p c n locals cs g t b x (named_leads false q x is)

  address_by : (addressed : Bool) (b a : Place) (u x : ℕ) (o : Option ℕ) → named_root p locals (path u a (T.local x)) ≡ o
      → Valued (spot p call addressed (path u a (T.local x)) >>= λ s. the (address_of b s) pointer) false (address_code p locals o b (path_code p locals addressed (path u a (T.local x))))
  address_by addressed b a u x None is = Places.address_valued p c n locals cs g b a (Places.local_points p c n locals cs g a x is)
  address_by addressed b a u x (Some y) is = Calls.no_address p c n locals cs g b y (named_leads addressed (path u a (T.local x)) y is)

  abbrev Assigns : Doing Frame (Option Value) → ((d : ℕ) → Option ℕ → Steps → Steps) → Type 0
  Assigns = Assignments.Assigns p c n locals cs g

  assign_by : (t : ℕ) (b : Place) (q : Path ℕ) (x : Expression ℕ) (o : Option ℕ) → named_root p locals q ≡ o → PathDoes false q → ValueDoes x
      → Assigns (spot p call false q >>= λ s. used p call x >>= λ v. put_value p b s t v >>= λ a. pure (Some v))
      (λ d to code. assign_code p o t b (place_of p locals q (path_code p locals false q)) (value_code p locals x) (part_of p locals x (value_code p locals x)) d to code)
  assign_by t b q (expression u at node) None is one other = Assignments.assign_to_place p c n locals cs g t b (one is) (uses (expression u at node) other)
  assign_by t b q (expression u at node) (Some x) is one other =
      Assignments.assign_to_name p c n locals cs g t b x (part_of p locals (expression u at node) (value_code p locals (expression u at node))) (named_leads false q x is) other

  assign_op_by : (t : ℕ) (b : Place) (op : _) (q : Path ℕ) (x : Expression ℕ) (o : Option ℕ) → named_root p locals q ≡ o → PathDoes false q → ValueDoes x
      → Assigns (spot p call false q >>= λ s. used p call x >>= λ v. fetch p b s t >>= λ u. memory_now >>= λ z.
      tested b (updated z op (element_size p (type_at p t)) (type_at p t) u (type_at p (ty x)) v) >>= λ new. put_value p b s t new >>= λ a. pure (Some new))
      (λ d to code. assign_op_code p o t b op (kind_of (type_at p (ty x))) (place_of p locals q (path_code p locals false q)) (part_of p locals x (value_code p locals x)) d to code)
  assign_op_by t b op q x None is one other = Assignments.assign_op_to_place p c n locals cs g t b op (type_at p (ty x)) (one is) (uses x other)
  assign_op_by t b op q x (Some y) is one other = Assignments.assign_op_to_name p c n locals cs g t b op (type_at p (ty x)) y (named_leads false q y is) (uses x other)

  step_valued : (t : ℕ) (b : Place) (op : _) (before : Bool) (q : Path ℕ) (o : Option ℕ) → named_root p locals q ≡ o → PathDoes false q
      → Valued (Assignments.Stepped p c n locals cs g (spot p call false q) t b op before) false
      (λ to d code. step_code p o t b op before (place_of p locals q (path_code p locals false q)) d (Some to) code)
  step_valued t b op before q None is one = (Assignments.step_place p c n locals cs g t b op before (one is)).valued
  step_valued t b op before q (Some x) is one = Assignments.step_name_valued p c n locals cs g t b op before x (named_leads false q x is)

  step_effects : (t : ℕ) (b : Place) (op : _) (before : Bool) (q : Path ℕ) (o : Option ℕ) → named_root p locals q ≡ o → PathDoes false q
      → Effects (Assignments.Stepped p c n locals cs g (spot p call false q) t b op before)
      (λ d code. step_code p o t b op before (place_of p locals q (path_code p locals false q)) d None code)
  step_effects t b op before q None is one = (Assignments.step_place p c n locals cs g t b op before (one is)).effects
  step_effects t b op before q (Some x) is one = Assignments.step_name_effects p c n locals cs g t b op before x (named_leads false q x is)

  copy_by : (b : Place) (q r : Path ℕ) (x y : Option ℕ) → named_root p locals q ≡ x → named_root p locals r ≡ y → PathDoes false q → PathDoes false r
      → Calls.Copies p c n locals cs g (spot p call false q >>= λ s. spot p call false r >>= λ z. copy_record b (size_at p (path_ty q)) s z >>= λ a. pure None)
      (λ d to code. copy_code p x y b (size_at p (path_ty q)) (place_of p locals q (path_code p locals false q)) (place_of p locals r (path_code p locals false r)) d to code)
  copy_by b q r None None is other_is one other = Calls.copy_placed p c n locals cs g b (size_at p (path_ty q)) (one is) (other other_is)
  copy_by b q r (Some x) None is other_is one other =
      Calls.copy_to_name p c n locals cs g b (size_at p (path_ty q)) x None (Calls.held_name p c n locals cs g (place_of p locals q (path_code p locals false q)) x (named_leads false q x is) (named_held q x is))
      (Calls.held_place p c n locals cs g (other other_is))
  copy_by b q r None (Some y) is other_is one other =
      Calls.copy_from_name p c n locals cs g b (size_at p (path_ty q)) y (Calls.held_place p c n locals cs g (one is))
      (Calls.held_name p c n locals cs g (place_of p locals r (path_code p locals false r)) y (named_leads false r y other_is) (named_held r y other_is))
  copy_by b q r (Some x) (Some y) is other_is one other =
      Calls.copy_to_name p c n locals cs g b (size_at p (path_ty q)) x (Some y) (Calls.held_name p c n locals cs g (place_of p locals q (path_code p locals false q)) x (named_leads false q x is) (named_held q x is))
      (Calls.any_kept p c n locals cs g (Calls.held_name p c n locals cs g (place_of p locals r (path_code p locals false r)) y (named_leads false r y other_is) (named_held r y other_is)))

  convert_by : (t : CType) (e : Expression ℕ) → ValueDoes e → Effects (value p call e) (effect_code p locals e)
      → Valued (value p call e >>= as_type p call t (at_of e)) (is_void t) (λ to d code. convert_code p locals t (part_of p locals e (value_code p locals e)) (effect_code p locals e d) to d code)
  convert_by void e one effect = Calls.void_valued p c n locals cs g effect
  convert_by (integer kind) (expression u at node) one effect = Calls.convert_valued p c n locals cs g (integer kind) (uses (expression u at node) one)
  convert_by (pointer_to t) (expression u at node) one effect = Calls.convert_valued p c n locals cs g (pointer_to t) (uses (expression u at node) one)
  convert_by (array t k) (expression u at node) one effect = Calls.convert_valued p c n locals cs g (array t k) (uses (expression u at node) one)
  convert_by (function t all) (expression u at node) one effect = Calls.convert_valued p c n locals cs g (function t all) (uses (expression u at node) one)
  convert_by (structure r) (expression u at node) one effect = Calls.convert_valued p c n locals cs g (structure r) (uses (expression u at node) one)

  part_by : (b : Place) (by : ℕ) (q : Path ℕ) (o : Option ℕ) → named_root p locals q ≡ o → PathDoes false q
      → Points (spot p call false q >>= part_of_place b (pos by)) b (part_code p locals o b by (place_of p locals q (path_code p locals false q)))
  part_by b by q None is one = Ways.part_points p c n locals cs g b by (one is)
  part_by b by q (Some x) is one = let z = named_leads false q x is in Ways.no_part p c n locals cs g b (pos by) x z.is

  element_by : (b : Place) (k size : ℕ) (addressed : Bool) (kind : _) (q : Path ℕ) (i : Expression ℕ) (o : Option ℕ) → named_root p locals q ≡ o → PathDoes false q → ValueDoes i
      → Points (spot p call false q >>= λ s. used p call i >>= λ v. tested b (as_word v) >>= λ j. element_of b k size addressed s (number_of kind j)) b
      (element_code p locals o b k size addressed kind (place_of p locals q (path_code p locals false q)) (part_of p locals i (value_code p locals i)))
  element_by b k size addressed kind q i None is one other = Ways.element_points p c n locals cs g b k size addressed kind (one is) (uses i other)
  element_by b k size addressed kind q i (Some x) is one other =
      let z = named_leads false q x is in Ways.no_element p c n locals cs g b k size addressed kind x z.is (uses i other)

  one_does : Uses Value (single p locals) (pure (word 1)) (λ v. v)
  one_does = record {
    ends = λ d code. ends_more _ ends_same;
    by_atom = λ a e rest later z d old f own w j next. fixed_does (O.Word 1) (word 1) (λ own. record { is = λ rest w. refl }) a (some_same e) rest later f own w next;
    made = λ d code rest z old f own w lt j e next. back (λ k. refl) (next (Some (word 1)) f own w j (λ q. (word 1, refl)));
  }

  -- what leads to a place itself, and not to what the value of an expression points to
  abbrev IsItself : PathNode ℕ → Type 0
  IsItself (T.deref e) = ⊥
  IsItself step = Unit {0}

  -- ---- the induction

  module _ (callees : Calls.Calls p c n call) (routines : Calls.Routines p c) where
    mutual
      pub value_does : (e : Expression ℕ) → ValueDoes e
      value_does (expression t b node) = node_does t b node

      node_does : (t : ℕ) (b : Place) (node : Node ℕ) → Valued (value_of p call t b node) (lacks_node p locals t node) (λ to d code. node_code p locals t b node to d code)
      node_does t b (T.constant v) = Values.set_valued p c n locals cs g (word v) (O.Word v) (λ own. record { is = λ rest w. refl })
      node_does t b T.null = Values.set_valued p c n locals cs g (pointer P.Null) O.Null (λ own. record { is = λ rest w. refl })
      node_does t b (T.function_name h) = Values.set_valued p c n locals cs g (pointer (P.Function h)) (O.Function h) (λ own. record { is = λ rest w. refl })
      node_does t b (T.load q) = load_by t b q (named_root p locals q) refl (λ none. place_uses false q none (path_does false q none))
      node_does t b (T.address_of (path u a (T.deref e))) = value_does e
      node_does t b (T.address_of (path u a (T.local x))) = address_by true b a u x (named_root p locals (path u a (T.local x))) refl
      node_does t b (T.address_of (path u a (T.object k))) = Places.address_valued p c n locals cs g b a (Places.object_points p c n locals cs g a k)
      node_does t b (T.address_of (path u a (T.index e i))) = Places.address_valued p c n locals cs g b a (points_does true u a (T.index e i) tt refl)
      node_does t b (T.address_of (path u a (T.member q r field))) = Places.address_valued p c n locals cs g b a (member_does true u a q r field)
      node_does t b (T.address_of (path u a (T.element q i))) = Places.address_valued p c n locals cs g b a (points_does true u a (T.element q i) tt refl)
      node_does t b (T.decay (path u a (T.deref e))) = value_does e
      node_does t b (T.decay (path u a (T.local x))) = address_by false b a u x (named_root p locals (path u a (T.local x))) refl
      node_does t b (T.decay (path u a (T.object k))) = Places.address_valued p c n locals cs g b a (Places.object_points p c n locals cs g a k)
      node_does t b (T.decay (path u a (T.index e i))) = Places.address_valued p c n locals cs g b a (points_does false u a (T.index e i) tt refl)
      node_does t b (T.decay (path u a (T.member q r field))) = Places.address_valued p c n locals cs g b a (member_does false u a q r field)
      node_does t b (T.decay (path u a (T.element q i))) = Places.address_valued p c n locals cs g b a (points_does false u a (T.element q i) tt refl)
      node_does t b (T.convert e written) = convert_by (type_at p t) e (value_does e) (effect_does e)
      node_does t b (T.unary op x) =
          Values.one_made p c n locals cs g (uses x (value_does x)) pure (λ to a. S.Unary to b op a) (λ v. tested b (unary op v)) (λ v. given (tested b (unary op v)))
          (λ v rest f w. refl) (λ v w. tests b (unary op v) w) (λ to a code own w k. refl)
      node_does t b (T.binary op x y) =
          let kind = kind_of (type_at p t) in
          let right = kind_of (type_at p (ty y)) in
          Values.two_made p c n locals cs g (uses x (value_does x)) (uses y (value_does y)) pure (λ to a e. S.Binary to b op kind right a e)
          (λ v u. tested b (binary op kind v right u)) (λ v u. given (tested b (binary op kind v right u)))
          (λ v u rest f w. refl) (λ v u w. tests b (binary op kind v right u) w) (λ to a e code own w k. refl)
      node_does t b (T.compare op x y) =
          let kind = kind_of (type_at p (ty x)) in
          Values.two_made p c n locals cs g (uses x (value_does x)) (uses y (value_does y)) pure (λ to a e. S.Compare to b op kind a e)
          (λ v u. memory_now >>= λ z. tested b (compared op z kind v u)) (λ v u. memory_now >>= λ z. given (tested b (compared op z kind v u)))
          (λ v u rest f w. refl) (λ v u w. then_blind {next = λ z. tested b (compared op z kind v u)} (sees w) (λ z w. tests b (compared op z kind v u) w))
          (λ to a e code own w k. refl)
      node_does t b (T.pointer_add op x y) =
          let size = element_size p (type_at p t) in
          let left = is_pointer (type_at p (ty x)) in
          let kind = count_kind (type_at p (ty x)) (type_at p (ty y)) in
          Values.two_made p c n locals cs g (uses x (value_does x)) (uses y (value_does y)) pure (λ to a e. S.Move to b op size left kind a e)
          (λ v u. memory_now >>= λ z. tested b (moved_from left z op size kind v u)) (λ v u. memory_now >>= λ z. given (tested b (moved_from left z op size kind v u)))
          (λ v u rest f w. refl) (λ v u w. then_blind {next = λ z. tested b (moved_from left z op size kind v u)} (sees w) (λ z w. tests b (moved_from left z op size kind v u) w))
          (λ to a e code own w k. refl)
      node_does t b (T.pointer_difference x y) =
          let size = element_size p (type_at p (ty x)) in
          Values.two_made p c n locals cs g (uses x (value_does x)) (uses y (value_does y)) pure (λ to a e. S.Distance to b size a e)
          (λ v u. tested b (distance size v u)) (λ v u. given (tested b (distance size v u)))
          (λ v u rest f w. refl) (λ v u w. tests b (distance size v u) w) (λ to a e code own w k. refl)
      node_does t b (T.both x y) = Choices.both_valued p c n locals cs g (branch_does x) (branch_does y)
      node_does t b (T.either x y) = Choices.either_valued p c n locals cs g (branch_does x) (branch_does y)
      node_does t b (T.not x) =
          Values.one_made p c n locals cs g (uses x (value_does x)) pure (λ to a. S.Not to a) (λ v. pure (flag (not (is_true v)))) (λ v. pure (Some (flag (not (is_true v)))))
          (λ v rest f w. refl) (λ v w. gives (flag (not (is_true v))) w) (λ to a code own w k. refl)
      node_does t b (T.choose x y z) = Choices.choose_valued p c n locals cs g (branch_does x) (value_does y) (value_does z)
      node_does t b (T.comma x y) = Choices.comma_valued p c n locals cs g (effect_does x) (value_does y)
      node_does t b (T.assign q x) =
          (assign_by t b q x (named_root p locals q) refl (λ none. place_uses false q none (path_does false q none)) (value_does x)).valued
      node_does t b (T.assign_op op q x) =
          (assign_op_by t b op q x (named_root p locals q) refl (λ none. place_uses false q none (path_does false q none)) (value_does x)).valued
      node_does t b (T.step op before q) = step_valued t b op before q (named_root p locals q) refl (λ none. place_uses false q none (path_does false q none))
      node_does t b (T.copy_record q r) =
          (copy_by b q r (named_root p locals q) (named_root p locals r) refl refl (λ none. place_uses false q none (path_does false q none))
          (λ none. place_uses false r none (path_does false r none))).valued
      node_does t b (T.call h all) = Calls.call_valued p c n locals cs g b h callees (arguments_do all)
      node_does t b (T.call_through (expression u a node) all) =
          Calls.call_through_valued p c n locals cs g b u callees routines (uses (expression u a node) (node_does u a node)) (arguments_do all)
      node_does t b (T.library which all) = Calls.library_valued p c n locals cs g b which (arguments_do all)
      node_does t b (T.allocate r T.no_expression zeroed) =
          Calls.allocate_valued p c n locals cs g b r (element_size p (type_at p t)) zeroed (one_does)
      node_does t b (T.allocate r (T.some_expression e) zeroed) =
          Calls.allocate_valued p c n locals cs g b r (element_size p (type_at p t)) zeroed (uses e (value_does e))

      arguments_do : (all : Expressions ℕ) → Rows (arguments p call all) (count_of all) (arguments_code p locals all)
      arguments_do T.no_expressions = Calls.no_row p c n locals cs g
      arguments_do (T.and_expression e more) = Calls.more_rows p c n locals cs g (uses e (value_does e)) (arguments_do more)

      pub effect_does : (e : Expression ℕ) → Effects (value p call e) (effect_code p locals e)
      effect_does (expression t b (T.comma x y)) = Choices.comma_effects p c n locals cs g (effect_does x) (effect_does y)
      effect_does (expression t b (T.assign q x)) =
          (assign_by t b q x (named_root p locals q) refl (λ none. place_uses false q none (path_does false q none)) (value_does x)).effects
      effect_does (expression t b (T.assign_op op q x)) =
          (assign_op_by t b op q x (named_root p locals q) refl (λ none. place_uses false q none (path_does false q none)) (value_does x)).effects
      effect_does (expression t b (T.step op before q)) = step_effects t b op before q (named_root p locals q) refl (λ none. place_uses false q none (path_does false q none))
      effect_does (expression t b (T.copy_record q r)) =
          (copy_by b q r (named_root p locals q) (named_root p locals r) refl refl (λ none. place_uses false q none (path_does false q none))
          (λ none. place_uses false r none (path_does false r none))).effects
      effect_does (expression t b (T.constant v)) = Values.as_effect p c n locals cs g (node_does t b (T.constant v))
      effect_does (expression t b node) = Values.as_effect p c n locals cs g (node_does t b node)

      pub branch_does : (e : Expression ℕ) → Branches (used p call e) (λ when to d code. branch_code p locals e when to d code)
      branch_does (expression t b (T.compare op x y)) =
          Choices.compare_branches p c n locals cs g b op (kind_of (type_at p (ty x))) (uses x (value_does x)) (uses y (value_does y))
      branch_does (expression t b (T.not x)) = Choices.not_branches p c n locals cs g b (branch_does x)
      branch_does (expression t b (T.both x y)) = Choices.both_branches p c n locals cs g b (branch_does x) (branch_does y)
      branch_does (expression t b (T.either x y)) = Choices.either_branches p c n locals cs g b (branch_does x) (branch_does y)
      branch_does (expression t b node) = Values.on_value p c n locals cs g (uses (expression t b node) (node_does t b node))

      pub path_does : (addressed : Bool) (q : Path ℕ) → named_root p locals q ≡ None
          → Leads (spot p call addressed q) (place_value_at p locals q) (place_lacks p locals q) (path_code p locals addressed q)
      path_does addressed (path t b (T.local x)) none = as_leads (points_does addressed t b (T.local x) tt none)
      path_does addressed (path t b (T.object k)) none = as_leads (points_does addressed t b (T.object k) tt none)
      path_does addressed (path t b (T.deref e)) none = deref_leads e (value_does e)
      path_does addressed (path t b (T.index e i)) none = as_leads (points_does addressed t b (T.index e i) tt none)
      path_does addressed (path t b (T.member q r field)) none = as_leads (member_does addressed t b q r field)
      path_does addressed (path t b (T.element q i)) none = as_leads (points_does addressed t b (T.element q i) tt none)

      points_does : (addressed : Bool) (t : ℕ) (b : Place) (step : PathNode ℕ) → IsItself step → named_root p locals (path t b step) ≡ None
          → Points (spot_of p call t addressed b step) b (path_code p locals addressed (path t b step))
      points_does addressed t b (T.local x) h none = Places.local_points p c n locals cs g b x none
      points_does addressed t b (T.object k) h none = Places.object_points p c n locals cs g b k
      points_does addressed t b (T.deref e) h none = absurd h
      points_does addressed t b (T.index e i) h none =
          Ways.index_points p c n locals cs g b (size_at p t) (kind_of (type_at p (ty i))) (uses e (value_does e)) (uses i (value_does i))
      points_does addressed t b (T.member q r field) h none = member_does addressed t b q r field
      points_does addressed t b (T.element q i) h none =
          element_by b (length_of (type_at p (path_ty q))) (size_at p t) addressed (kind_of (type_at p (ty i))) q i (named_root p locals q) refl
          (λ none. place_uses false q none (path_does false q none)) (value_does i)

      member_does : (addressed : Bool) (t : ℕ) (b : Place) (q : Path ℕ) (r field : ℕ)
          → Points (spot_of p call t addressed b (T.member q r field)) b (λ to d code. member_code p locals q b (offset_of p.records r field) to d code)
      member_does addressed t b (path u a (T.deref e)) r field = Ways.field_points p c n locals cs g b (offset_of p.records r field) (uses e (value_does e))
      member_does addressed t b (path u a (T.index e i)) r field =
          Ways.element_field_points p c n locals cs g b (size_at p u) (kind_of (type_at p (ty i))) (offset_of p.records r field) (uses e (value_does e)) (uses i (value_does i))
      member_does addressed t b (path u a (T.local x)) r field =
          part_by b (offset_of p.records r field) (path u a (T.local x)) (named_root p locals (path u a (T.local x))) refl
          (λ none. place_uses false (path u a (T.local x)) none (as_leads (Places.local_points p c n locals cs g a x none)))
      member_does addressed t b (path u a (T.object k)) r field =
          part_by b (offset_of p.records r field) (path u a (T.object k)) None refl (λ none. place_uses false (path u a (T.object k)) none (as_leads (Places.object_points p c n locals cs g a k)))
      member_does addressed t b (path u a (T.member q s part)) r field =
          part_by b (offset_of p.records r field) (path u a (T.member q s part)) None refl
          (λ none. place_uses false (path u a (T.member q s part)) none (as_leads (member_does false u a q s part)))
      member_does addressed t b (path u a (T.element q i)) r field =
          part_by b (offset_of p.records r field) (path u a (T.element q i)) None refl
          (λ none. place_uses false (path u a (T.element q i)) none (as_leads (points_does false u a (T.element q i) tt none)))
