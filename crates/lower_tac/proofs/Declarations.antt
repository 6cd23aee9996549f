-- Declarations of locals and their initializers (C99 6.7.8).
use Rattle.std.proofs.Common.{◌≡◌, ℕ, zero, suc, ◌<◌, ◌≢◌, Bool, true, false, List, [], ◌∷◌, ◌++◌, Option, Some, None, inl, inr, refl, sym, ap, ◌∙◌, subst, arith, length, map, if◌then◌else◌, slice_get, slice_set, replicate}
use Rattle.std.proofs.lemmas.Option.{get_or_from_slice_get}
use Rattle.lay_base.specs.declared.faults.UndefinedKind.TheVariants as K
use Rattle.lay_base.specs.declared.place.Place.{Place}
use Rattle.c_typed.specs.declared.program.Local.{Local}
use Rattle.c_typed.specs.Constants.{ty}
use Rattle.c_typed.specs.Programs.{ProgramData}
use Rattle.c_typed.specs.Trees as T
use Rattle.c_typed.specs.Trees.{Expression, expression, PartValue, Initializer, Path}
use Rattle.c_typed.specs.Typed.{at_of, path_at, path_ty}
use Rattle.memory_words.specs.declared.cell_words.cell.Cell.{Cell}
use Rattle.memory_words.specs.declared.cell_words.cell.Cell.TheVariants.{Byte, Empty}
use Rattle.memory_words.specs.declared.cell_words.pointer.Ptr.TheVariants as P
use Rattle.block_memory.specs.Blocks.{with_cells}
use Rattle.block_memory.specs.RunWorlds.Doing.{Rest, Doing, ◌>>=◌, ◌>>◌, pure, memory_now, with_memory}
use Rattle.block_memory.specs.RunWorlds.LibraryCalls.{assign_record}
use Rattle.block_memory.specs.RunWorlds.Scalars.{pointer_of, store}
use Rattle.block_memory.specs.RunWorlds.Worlds.{World, End, undefined}
use Rattle.block_memory.specs.declared.run_worlds.value.Value.{Value}
use Rattle.block_memory.specs.declared.run_worlds.value.Value.TheVariants.{Pointer as pointer}
use Rattle.block_memory.specs.declared.run_worlds.way.Way.{Way}
use Rattle.block_memory.specs.declared.run_worlds.way.Way.TheVariants.{Normally as normally}
use Rattle.c_meaning.specs.Expressions.{copy_record}
use Rattle.c_meaning.specs.Frames.{Frame, slot_now, emptied}
use Rattle.c_meaning.specs.Program.{size_at, access_at}
use Rattle.c_meaning.specs.Statements.{put_part, put_parts, initial_in, initial_by_name, part_place, parts_place, initial_place, dead_at, initial, declared}
use Rattle.c_meaning.specs.declared.frame.Slot.{Slot}
use Rattle.c_meaning.specs.declared.frame.Slot.TheVariants.{ByName as by_name, InBlock as in_block}
use Rattle.c_meaning.specs.declared.frame.Spot.TheVariants.{Kept as kept, Placed as placed}
use Rattle.tac_ir.specs.Code.{Code, RoutineData}
use Rattle.tac_ir.specs.Covering.{Covers}
use Rattle.tac_ir.specs.Running.{Caller, with_temp, read, inside, written, emptied as code_emptied}
use Rattle.tac_ir.specs.declared.step.Step.TheVariants as S
use Rattle.lower_tac.specs.Parts.{Steps, Part, temp, operand, code_of}
use Rattle.lower_tac.specs.Expressions.{value_code, path_code, part_of, place_of, named_root, assign_named}
use Rattle.lower_tac.specs.declared.ways.Exits.{Exits}
use Rattle.lower_tac.specs.Statements.{Out, before, record_code, put_code, parts_code, initial_code, declare_code}
use Rattle.lower_tac.proofs.Blind.{blind_covers, stores, stays, back, same_run}
use Rattle.lower_tac.proofs.Base.{Standing, Joined, IsBlock, IsNamed, reads_temp, temp_same, temp_stays, scratch, standing_named, standing_later, deeper, within as there_below}
use Rattle.lower_tac.proofs.Library.{assigns_record}
use Rattle.lower_tac.proofs.Making as Making
use Rattle.lower_tac.proofs.Making.{Ends, ends_same, ends_more, ends_behind, ends_then}
use Rattle.lower_tac.proofs.Assignments as Assignments
use Rattle.lower_tac.proofs.Calls as Calls
use Rattle.lower_tac.proofs.NodesCover as Nodes
use Rattle.lower_tac.proofs.Places.{named_slot, block_slot}
use Rattle.lower_tac.proofs.StatementsCover as Statements
use Rattle.lower_tac.proofs.StatementsCover.{Extends, same_out, extends_then, by_extends}

text_there : (texts : List (List ℕ)) (bytes : List ℕ) → slice_get (texts ++ bytes ∷ []) (length texts) ≡ Some bytes
text_there [] bytes = refl
text_there (t ∷ texts) bytes = text_there texts bytes

text_stays : (texts more : List (List ℕ)) (k : ℕ) (v : List ℕ) → slice_get texts k ≡ Some v → slice_get (texts ++ more) k ≡ Some v
text_stays [] more k v e = cc
text_stays (t ∷ texts) more zero v e = e
text_stays (t ∷ texts) more (suc k) v e = text_stays texts more k v e

module _ (p : ProgramData) (c : Code) (n : ℕ) (locals : List Local) (cs : List Caller) (g : RoutineData) (h : ℕ) (call : Place → (f : ℕ) → List Value → Doing Frame (Option Value))
    (callees : Calls.Calls p c n call) (routines : Calls.Routines p c) where
  abbrev at : (code : Steps) → Frame → World → (steps : ℕ) → End
  at = Making.at p c n locals cs g

  abbrev room : ℕ
  room = length locals

  abbrev Final : Out → Type 0
  Final = Statements.Final p c n locals cs g h call callees routines

  abbrev final : {out whole : Out} → Extends out whole → Final whole → Final out
  final = Statements.final p c n locals cs g h call callees routines

  abbrev Does : (l count : ℕ) → Doing Frame Way → (Exits → Out → Out) → Type 0
  Does = Statements.Does p c n locals cs g h call callees routines

  abbrev joined : {b : ℕ} {f own : Frame} {w : World} → Standing locals b f own w → Joined locals b room own f own w
  joined = Statements.joined p c n locals cs g h call callees routines

  abbrev value_uses : (e : Expression ℕ) → Nodes.UseDoes p c n locals cs g call e
  value_uses e = Nodes.uses p c n locals cs g call e (Nodes.value_does p c n locals cs g call callees routines e)

  abbrev place_uses : (q : Path ℕ) → named_root p locals q ≡ None → Nodes.PlaceDoes p c n locals cs g call false q
  place_uses q none = Nodes.place_uses p c n locals cs g call false q none (Nodes.path_does p c n locals cs g call callees routines false q none)

  pub record Declares (m : Doing Frame (Unit {0})) (make : Out → Out) : Type 0 where
    pub extends : (out : Out) → Extends out (make out)
    pub counts : (out : Out) → (make out).loops ≡ out.loops
    pub does : (out : Out) (rest : Rest Frame (Unit {0})) (b : ℕ) (f own : Frame) (w : World) → b < n → Standing locals b f own w → Final (make out)
        → ((f own : Frame) (w : World) → Standing locals b f own w → Covers (rest tt f w) (at out.code own w))
        → Covers (m rest f w) (at (make out).code own w)

  pub as_statement : {m : Doing Frame (Unit {0})} {make : Out → Out} (l : ℕ) → Declares m make → Does l 0 (m >> pure normally) (λ x out. make out)
  as_statement l one = record {
    extends = λ x out. one.extends out;
    counts = λ x out q. let e = one.counts out in omega (arith, e, q);
    does = λ x out rest b f own w lt q j z ways next. one.does out (λ u. rest normally) b f own w lt j z next;
  }

  nothing : Declares (pure tt) (λ out. out)
  nothing = record { extends = λ out. same_out; counts = λ out. refl; does = λ out rest b f own w lt j z next. next f own w j }

  -- ---- parts of a block of a local

  module _ (x : ℕ) (i : IsBlock locals x) where
    -- in the block of that number, where it has one
    abbrev In : Option ℕ → Frame → Type 0
    In o own = slice_get own x ≡ Some (in_block o)

    -- the address of a part is held while its value is found
    inside_covers : (o : Option ℕ) (place : Place) (offset : ℕ) (code : Steps) (own : Frame) (w : World) (e : End) → In o own
        → (o ≡ None → e ≡ undefined K.Dead place w)
        → ((z : ℕ) → o ≡ Some z → Covers e (at code (with_temp room (by_name (Some (pointer (P.Block z offset)))) own) w))
        → Covers e (at (S.Inside room place x offset ∷ code) own w)
    inside_covers None place offset code own w e there fails next =
        subst (λ (e : End). Covers e (at (S.Inside room place x offset ∷ code) own w)) (sym (fails refl))
        (back (λ k. ap (λ s. inside place offset s (λ v own w. at code (with_temp room (by_name (Some v)) own) w k) own w) there) stays)
    inside_covers (Some z) place offset code own w e there fails next =
        back (λ k. ap (λ s. inside place offset s (λ v own w. at code (with_temp room (by_name (Some v)) own) w k) own w) there) (next z refl)

    some_same : {A : Type 0} {a b : A} → Some a ≡ Some b → a ≡ b
    some_same e = cc

    apart : room ≢ x
    apart = let b = there_below locals x i.local i.is in λ (q : room ≡ x). omega (arith, q, b)

    -- what a part of the block does where it has begun, and where it has not
    abbrev Put : Option ℕ → (offset : ℕ) → PartValue ℕ → Doing Frame (Unit {0})
    Put (Some z) offset v = put_part p call z offset v
    Put None offset v = dead_at (part_place v)

    value_does : (o : Option ℕ) (offset : ℕ) (e : Expression ℕ) (code : Steps) (rest : Rest Frame (Unit {0})) (b : ℕ) (f own : Frame) (w : World) → b < n → Standing locals b f own w → In o own
        → Ends (S.Inside room (at_of e) x offset ∷ code_of (part_of p locals e (value_code p locals e)) (suc room)
        (S.Store (at_of e) (access_at p (ty e)) (temp (at_of e) room) (operand (part_of p locals e (value_code p locals e)) (suc room)) ∷ code)) g.code
        → ((f own : Frame) (w : World) → Standing locals b f own w → In o own → Covers (rest tt f w) (at code own w))
        → Covers (Put o offset (T.value e) rest f w) (at (S.Inside room (at_of e) x offset ∷ code_of (part_of p locals e (value_code p locals e)) (suc room)
        (S.Store (at_of e) (access_at p (ty e)) (temp (at_of e) room) (operand (part_of p locals e (value_code p locals e)) (suc room)) ∷ code)) own w)
    value_does o offset e code rest b f own w lt j there ends next = by_block o there next
      where
        part : Part
        part = part_of p locals e (value_code p locals e)

        last : Steps
        last = S.Store (at_of e) (access_at p (ty e)) (temp (at_of e) room) (operand (part_of p locals e (value_code p locals e)) (suc room)) ∷ code

        by_block : (o : Option ℕ) → In o own → ((f own : Frame) (w : World) → Standing locals b f own w → In o own → Covers (rest tt f w) (at code own w))
            → Covers (Put o offset (T.value e) rest f w) (at (S.Inside room (at_of e) x offset ∷ code_of (part_of p locals e (value_code p locals e)) (suc room)
            (S.Store (at_of e) (access_at p (ty e)) (temp (at_of e) room) (operand (part_of p locals e (value_code p locals e)) (suc room)) ∷ code)) own w)
        by_block None there next = inside_covers None (at_of e) offset _ own w _ there (λ q. refl) (λ z q. cc)
        by_block (Some k) there next = inside_covers (Some k) (at_of e) offset _ own w _ there (λ q. cc) (λ z q.
            let address = pointer (P.Block z offset) in
            let new = with_temp room (by_name (Some address)) own in
            let j2 : Joined locals b room own f new w = scratch locals room (Some address) (joined j) (omega arith) in
            Making.code_does p c n locals cs g (value_uses e) (suc room) (S.Store (at_of e) (access_at p (ty e)) (temp (at_of e) room) (operand (part_of p locals e (value_code p locals e)) (suc room)) ∷ code)
            (λ v. store (at_of e) (P.Block k offset) (access_at p (ty e)) v rest)
            (λ s v. store (at_of e) (P.Block z offset) (access_at p (ty e)) v (λ u own w. at code own w s))
            b new f new w lt (deeper locals (suc room) (omega arith) j2) (ends_behind ends)
            (λ f last w r s. (reads_temp room K.NoValue (at_of e) address (r.kept room (inl (omega arith, omega arith)) (by_name (Some address)) (temp_same room (by_name (Some address)) own))).is
            (λ q. read (operand (part_of p locals e (value_code p locals e)) (suc room)) (λ v. store (at_of e) (pointer_of q) (access_at p (ty e)) v (λ u own w. at code own w s))) w)
            (λ v f last w r s.
            subst (λ (y : ℕ). Covers (store (at_of e) (P.Block y offset) (access_at p (ty e)) v rest f w) (λ s. store (at_of e) (P.Block z offset) (access_at p (ty e)) v (λ u own w. at code own w s) last w)) (sym (some_same q))
            (blind_covers (stores (at_of e) (P.Block z offset) (access_at p (ty e)) v w) rest f last (λ s u own w. at code own w s)
            (λ u y h. next f last y (standing_later locals y h r.now)
            (r.kept x (inr i) (in_block (Some k)) (temp_stays room x (by_name (Some address)) (in_block (Some k)) own (λ (q : x ≡ room). apart (sym q)) there))))))

    record_does : (o : Option ℕ) (offset : ℕ) (q : Path ℕ) (root : Option ℕ) → named_root p locals q ≡ root → (code : Steps) (rest : Rest Frame (Unit {0})) (b : ℕ) (f own : Frame) (w : World)
        → b < n → Standing locals b f own w → In o own → Ends (record_code p h locals root x offset q code) g.code
        → ((f own : Frame) (w : World) → Standing locals b f own w → In o own → Covers (rest tt f w) (at code own w))
        → Covers (Put o offset (T.record_of q) rest f w) (at (record_code p h locals root x offset q code) own w)
    record_does None offset q (Some y) is code rest b f own w lt j there ends next = inside_covers None (path_at q) offset (S.Fail K.Dead (path_at q) ∷ code) own w _ there (λ q. refl) (λ z q. cc)
    record_does (Some k) offset q (Some y) is code rest b f own w lt j there ends next =
        let one = Nodes.named_leads p c n locals cs g call false q y is in
        inside_covers (Some k) (path_at q) offset (S.Fail K.Dead (path_at q) ∷ code) own w _ there (λ q. cc) (λ z e.
        subst (λ (e : End). Covers e (at (S.Fail K.Dead (path_at q) ∷ code) (with_temp room (by_name (Some (pointer (P.Block z offset)))) own) w))
        (sym (one.is b room own f own w (joined j) (λ s. copy_record (path_at q) (size_at p (path_ty q)) (placed (P.Block k offset)) s rest)))
        (back (λ k. refl) stays))
    record_does None offset q None is code rest b f own w lt j there ends next = inside_covers None (path_at q) offset _ own w _ there (λ q. refl) (λ z q. cc)
    record_does (Some k) offset q None is code rest b f own w lt j there ends next = inside_covers (Some k) (path_at q) offset _ own w _ there (λ q. cc) (λ z e.
        let part = place_of p locals q (path_code p locals false q) in
        let size = size_at p (path_ty q) in
        let address = pointer (P.Block z offset) in
        let new = with_temp room (by_name (Some address)) own in
        let j2 : Joined locals b room own f new w = scratch locals room (Some address) (joined j) (omega arith) in
        Making.code_does p c n locals cs g (place_uses q is) (suc room) (S.CopyRecord (path_at q) size (temp (path_at q) room) (operand part (suc room)) ∷ code)
        (λ s. copy_record (path_at q) size (placed (P.Block k offset)) s rest)
        (λ s v. assign_record (path_at q) size (P.Block z offset) (pointer_of v) (λ u own w. at code own w s))
        b new f new w lt (deeper locals (suc room) (omega arith) j2) (ends_behind ends)
        (λ f last w r s. (reads_temp room K.NoValue (path_at q) address (r.kept room (inl (omega arith, omega arith)) (by_name (Some address)) (temp_same room (by_name (Some address)) own))).is
        (λ q'. read (operand part (suc room)) (λ v. assign_record (path_at q) size (pointer_of q') (pointer_of v) (λ u own w. at code own w s))) w)
        (λ v f last w r s.
        subst (λ (y : ℕ). Covers (assign_record (path_at q) size (P.Block y offset) (pointer_of v) rest f w) (λ s. assign_record (path_at q) size (P.Block z offset) (pointer_of v) (λ u own w. at code own w s) last w)) (sym (some_same e))
        (blind_covers (assigns_record (path_at q) size (P.Block z offset) (pointer_of v) w) rest f last (λ s u own w. at code own w s)
        (λ u y h. next f last y (standing_later locals y h r.now)
        (r.kept x (inr i) (in_block (Some k)) (temp_stays room x (by_name (Some address)) (in_block (Some k)) own (λ (q : x ≡ room). apart (sym q)) there))))))

    -- bytes that stand in the block
    abbrev Writes : Option ℕ → (offset : ℕ) → List Cell → Doing Frame (Unit {0})
    Writes (Some z) offset cells = memory_now >>= λ m. with_memory (with_cells m z offset cells)
    Writes None offset cells = pure tt

    writes_cover : (o : Option ℕ) (offset : ℕ) (cells : List Cell) (code : Steps) (rest : Rest Frame (Unit {0})) (b : ℕ) (f own : Frame) (w : World) → Standing locals b f own w → In o own
        → ((f own : Frame) (w : World) → Standing locals b f own w → In o own → Covers (rest tt f w) (at code own w))
        → Covers (Writes o offset cells rest f w) (λ k. (slot_now x >>= written offset cells) (λ u own w. at code own w k) own w)
    writes_cover None offset cells code rest b f own w j there next =
        same_run (λ k. ap (λ s. written offset cells s (λ u own w. at code own w k) own w) there) (next f own w j there)
    writes_cover (Some z) offset cells code rest b f own w j there next =
        same_run (λ k. ap (λ s. written offset cells s (λ u own w. at code own w k) own w) there)
        (next f own (record w { memory = with_cells w.memory z offset cells }) (standing_later locals (record w { memory = with_cells w.memory z offset cells }) (omega arith) j) there)

    -- ---- one part, and all of them

    value_ends : (offset : ℕ) (e : Expression ℕ) (code : Steps) → Ends code (S.Inside room (at_of e) x offset ∷ code_of (part_of p locals e (value_code p locals e)) (suc room)
        (S.Store (at_of e) (access_at p (ty e)) (temp (at_of e) room) (operand (part_of p locals e (value_code p locals e)) (suc room)) ∷ code))
    value_ends offset e code =
        let last : Steps = S.Store (at_of e) (access_at p (ty e)) (temp (at_of e) room) (operand (part_of p locals e (value_code p locals e)) (suc room)) ∷ code in
        ends_then (ends_more (S.Store (at_of e) (access_at p (ty e)) (temp (at_of e) room) (operand (part_of p locals e (value_code p locals e)) (suc room))) ends_same)
        (ends_then (Making.code_ends p c n locals cs g (value_uses e) (suc room) last) (ends_more (S.Inside room (at_of e) x offset) ends_same))

    record_ends : (offset : ℕ) (q : Path ℕ) (root : Option ℕ) → named_root p locals q ≡ root → (code : Steps) → Ends code (record_code p h locals root x offset q code)
    record_ends offset q (Some y) is code = ends_more (S.Inside room (path_at q) x offset) (ends_more (S.Fail K.Dead (path_at q)) ends_same)
    record_ends offset q None is code =
        let part = place_of p locals q (path_code p locals false q) in
        let step = S.CopyRecord (path_at q) (size_at p (path_ty q)) (temp (path_at q) room) (operand part (suc room)) in
        ends_then (ends_more step ends_same)
        (ends_then (Making.code_ends p c n locals cs g (place_uses q is) (suc room) (step ∷ code)) (ends_more (S.Inside room (path_at q) x offset) ends_same))

    put_extends : (offset : ℕ) (v : PartValue ℕ) (out : Out) → Extends out (put_code p h locals x offset v out)
    put_extends offset (T.value e) out = record { code = value_ends offset e out.code; labels = λ k v e. e; texts = λ k v e. e }
    put_extends offset (T.record_of q) out = record { code = record_ends offset q (named_root p locals q) refl out.code; labels = λ k v e. e; texts = λ k v e. e }
    put_extends offset (T.text bytes) out = record { code = ends_more _ ends_same; labels = λ k v e. e; texts = λ k v e. text_stays out.texts (bytes ∷ []) k v e }

    put_counts : (offset : ℕ) (v : PartValue ℕ) (out : Out) → (put_code p h locals x offset v out).loops ≡ out.loops
    put_counts offset (T.value e) out = refl
    put_counts offset (T.record_of q) out = refl
    put_counts offset (T.text bytes) out = refl

    put_does : (o : Option ℕ) (offset : ℕ) (v : PartValue ℕ) (out : Out) (rest : Rest Frame (Unit {0})) (b : ℕ) (f own : Frame) (w : World) → b < n → Standing locals b f own w → In o own
        → Final (put_code p h locals x offset v out)
        → ((f own : Frame) (w : World) → Standing locals b f own w → In o own → Covers (rest tt f w) (at out.code own w))
        → Covers (Put o offset v rest f w) (at (put_code p h locals x offset v out).code own w)
    put_does o offset (T.value e) out rest b f own w lt j there z next = value_does o offset e out.code rest b f own w lt j there z.code next
    put_does o offset (T.record_of q) out rest b f own w lt j there z next = record_does o offset q (named_root p locals q) refl out.code rest b f own w lt j there z.code next
    put_does o offset (T.text bytes) out rest b f own w lt j there z next =
        let text : slice_get g.texts (length out.texts) ≡ Some bytes = z.texts (length out.texts) bytes (text_there out.texts bytes) in
        back (λ k. ap (λ (t : List ℕ). (slot_now x >>= written offset (map Byte t)) (λ u own w. at out.code own w k) own w) (get_or_from_slice_get g.texts (length out.texts) bytes [] text))
        (by_block o there next)
      where
        by_block : (o : Option ℕ) → In o own → ((f own : Frame) (w : World) → Standing locals b f own w → In o own → Covers (rest tt f w) (at out.code own w))
            → Covers (Put o offset (T.text bytes) rest f w) (λ k. (slot_now x >>= written offset (map Byte bytes)) (λ u own w. at out.code own w k) own w)
        by_block None there next = writes_cover None offset (map Byte bytes) out.code rest b f own w j there next
        by_block (Some k) there next = writes_cover (Some k) offset (map Byte bytes) out.code rest b f own w j there next

    -- the parts, in the block, or where there is none up to the first expression
    abbrev Puts : Option ℕ → List (T.Part ℕ) → Doing Frame (Unit {0})
    Puts (Some z) all = put_parts p call z all
    Puts None all = dead_at (parts_place all)

    parts_extend : (all : List (T.Part ℕ)) (out : Out) → Extends out (parts_code p h locals x all out)
    parts_extend [] out = same_out
    parts_extend (one ∷ more) out = extends_then (parts_extend more out) (put_extends one.offset one.value (parts_code p h locals x more out))

    parts_count : (all : List (T.Part ℕ)) (out : Out) → (parts_code p h locals x all out).loops ≡ out.loops
    parts_count [] out = refl
    parts_count (one ∷ more) out = put_counts one.offset one.value (parts_code p h locals x more out) ∙ parts_count more out

    -- where the block has not begun, a part with an expression is the end
    put_or_later : (offset : ℕ) (v : PartValue ℕ) (all : List (T.Part ℕ)) (rest : Rest Frame (Unit {0})) (f : Frame) (w : World)
        → dead_at (parts_place (record { offset = offset; value = v } ∷ all)) rest f w ≡ Put None offset v (λ u. dead_at (parts_place all) rest) f w
    put_or_later offset (T.value e) all rest f w = refl
    put_or_later offset (T.record_of q) all rest f w = refl
    put_or_later offset (T.text bytes) all rest f w = refl

    parts_do : (o : Option ℕ) (all : List (T.Part ℕ)) (out : Out) (rest : Rest Frame (Unit {0})) (b : ℕ) (f own : Frame) (w : World) → b < n → Standing locals b f own w → In o own
        → Final (parts_code p h locals x all out)
        → ((f own : Frame) (w : World) → Standing locals b f own w → In o own → Covers (rest tt f w) (at out.code own w))
        → Covers (Puts o all rest f w) (at (parts_code p h locals x all out).code own w)
    parts_do None [] out rest b f own w lt j there z next = next f own w j there
    parts_do (Some k) [] out rest b f own w lt j there z next = next f own w j there
    parts_do None (one ∷ more) out rest b f own w lt j there z next =
        subst (λ (e : End). Covers e (at (parts_code p h locals x (one ∷ more) out).code own w)) (sym (put_or_later one.offset one.value more rest f w))
        (put_does None one.offset one.value (parts_code p h locals x more out) (λ u. dead_at (parts_place more) rest) b f own w lt j there z
        (λ f own w j there. parts_do None more out rest b f own w lt j there (final (put_extends one.offset one.value (parts_code p h locals x more out)) z) next))
    parts_do (Some k) (one ∷ more) out rest b f own w lt j there z next =
        put_does (Some k) one.offset one.value (parts_code p h locals x more out) (λ u. put_parts p call k more rest) b f own w lt j there z
        (λ f own w j there. parts_do (Some k) more out rest b f own w lt j there (final (put_extends one.offset one.value (parts_code p h locals x more out)) z) next)

    -- ---- an initializer of the local

    abbrev Starts : Option ℕ → (size : ℕ) → Initializer ℕ → Doing Frame (Unit {0})
    Starts (Some z) size all = initial_in p call z size all
    Starts None size all = dead_at (initial_place all)

    start_extends : (size : ℕ) (all : Initializer ℕ) (out : Out) → Extends out (initial_code p h locals x size true all out)
    start_extends size (T.whole e) out = put_extends 0 (T.value e) out
    start_extends size (T.whole_record q) out = put_extends 0 (T.record_of q) out
    start_extends size (T.parts all) out =
        extends_then (parts_extend all out) (record { code = ends_more _ ends_same; labels = λ k v e. e; texts = λ k v e. e })

    start_counts : (size : ℕ) (all : Initializer ℕ) (out : Out) → (initial_code p h locals x size true all out).loops ≡ out.loops
    start_counts size (T.whole e) out = refl
    start_counts size (T.whole_record q) out = refl
    start_counts size (T.parts all) out = parts_count all out

    start_does : (o : Option ℕ) (size : ℕ) (all : Initializer ℕ) (out : Out) (rest : Rest Frame (Unit {0})) (b : ℕ) (f own : Frame) (w : World) → b < n → Standing locals b f own w → In o own
        → Final (initial_code p h locals x size true all out)
        → ((f own : Frame) (w : World) → Standing locals b f own w → Covers (rest tt f w) (at out.code own w))
        → Covers (Starts o size all rest f w) (at (initial_code p h locals x size true all out).code own w)
    start_does None size (T.whole e) out rest b f own w lt j there z next = put_does None 0 (T.value e) out rest b f own w lt j there z (λ f own w j there. next f own w j)
    start_does (Some k) size (T.whole e) out rest b f own w lt j there z next = put_does (Some k) 0 (T.value e) out rest b f own w lt j there z (λ f own w j there. next f own w j)
    start_does None size (T.whole_record q) out rest b f own w lt j there z next = put_does None 0 (T.record_of q) out rest b f own w lt j there z (λ f own w j there. next f own w j)
    start_does (Some k) size (T.whole_record q) out rest b f own w lt j there z next = put_does (Some k) 0 (T.record_of q) out rest b f own w lt j there z (λ f own w j there. next f own w j)
    start_does None size (T.parts all) out rest b f own w lt j there z next =
        back (λ k. refl) (writes_cover None 0 (replicate size (Byte 0)) (parts_code p h locals x all out).code (λ u. dead_at (parts_place all) rest) b f own w j there
        (λ f own w j there. parts_do None all out rest b f own w lt j there (final (record { code = ends_more _ ends_same; labels = λ k v e. e; texts = λ k v e. e }) z)
        (λ f own w j there. next f own w j)))
    start_does (Some k) size (T.parts all) out rest b f own w lt j there z next =
        back (λ k. refl) (writes_cover (Some k) 0 (replicate size (Byte 0)) (parts_code p h locals x all out).code (λ u. put_parts p call k all rest) b f own w j there
        (λ f own w j there. parts_do (Some k) all out rest b f own w lt j there (final (record { code = ends_more _ ends_same; labels = λ k v e. e; texts = λ k v e. e }) z)
        (λ f own w j there. next f own w j)))

  -- ---- declarations

  -- a local kept by its name: its initializer is an assignment
  name_does : (x : ℕ) (i : IsNamed locals x) (size : ℕ) (all : Initializer ℕ) → Declares (initial_by_name p call x all) (λ out. initial_code p h locals x size false all out)
  name_does x i size (T.whole (expression t b node)) =
      let e = expression t b node in
      let one = (Assignments.assign_to_name p c n locals cs g {m = pure (kept x)} 0 b x (part_of p locals e (value_code p locals e))
      (record { named = i; is = λ b d old f own w j rest. refl }) (Nodes.value_does p c n locals cs g call callees routines e)).effects in
      record {
        extends = λ out. by_extends (assign_named p b x (value_code p locals e) (part_of p locals e (value_code p locals e)) room None) (one.ends room out.code);
        counts = λ out. refl;
        does = λ out rest b f own w lt j z next. one.does room out.code (λ o. rest tt) b own f own w lt (joined j) z.code (λ o f own w j. next f own w j.now);
      }
  name_does x i size (T.whole_record q) = nothing
  name_does x i size (T.parts all) = nothing

  by_kind : (x : ℕ) (l : Local) → slice_get locals x ≡ Some l → (block : Bool) → l.block ≡ block → (all : Initializer ℕ)
      → Declares (slot_now x >>= initial p call x (size_at p l.ty) all) (λ out. initial_code p h locals x (size_at p l.ty) block all out)
  by_kind x l is false e all =
      let i : IsNamed locals x = record { local = l; is = is; named = e } in
      let one = name_does x i (size_at p l.ty) all in
      record {
        extends = one.extends;
        counts = one.counts;
        does = λ out rest b f own w lt j z next.
            let s = named_slot locals x i j in
            subst (λ (o : Option Slot). Covers (initial p call x (size_at p l.ty) all o rest f w) (at (initial_code p h locals x (size_at p l.ty) false all out).code own w)) (sym s.1)
            (one.does out rest b f own w lt j z next);
      }
  by_kind x l is true e all =
      let i : IsBlock locals x = record { local = l; is = is; block = e } in
      record {
        extends = λ out. start_extends x i (size_at p l.ty) all out;
        counts = λ out. start_counts x i (size_at p l.ty) all out;
        does = λ out rest b f own w lt j z next. let s = block_slot locals x i j in by_slot i out rest b f own w lt j z next s.0 s.1;
      }
    where
      by_slot : (i : IsBlock locals x) (out : Out) (rest : Rest Frame (Unit {0})) (b : ℕ) (f own : Frame) (w : World) → b < n → Standing locals b f own w
          → Final (initial_code p h locals x (size_at p l.ty) true all out)
          → ((f own : Frame) (w : World) → Standing locals b f own w → Covers (rest tt f w) (at out.code own w))
          → (o : Option ℕ) → slice_get f x ≡ Some (in_block o)
          → Covers ((slot_now x >>= initial p call x (size_at p l.ty) all) rest f w) (at (initial_code p h locals x (size_at p l.ty) true all out).code own w)
      by_slot i out rest b f own w lt j z next None e =
          subst (λ (o : Option Slot). Covers (initial p call x (size_at p l.ty) all o rest f w) (at (initial_code p h locals x (size_at p l.ty) true all out).code own w)) (sym e)
          (start_does x i None (size_at p l.ty) all out rest b f own w lt j (j.slots x (in_block None) e) z next)
      by_slot i out rest b f own w lt j z next (Some k) e =
          subst (λ (o : Option Slot). Covers (initial p call x (size_at p l.ty) all o rest f w) (at (initial_code p h locals x (size_at p l.ty) true all out).code own w)) (sym e)
          (start_does x i (Some k) (size_at p l.ty) all out rest b f own w lt j (j.slots x (in_block (Some k)) e) z next)

  empty_kind : (x : ℕ) (l : Local) → slice_get locals x ≡ Some l → (block : Bool) → l.block ≡ block
      → Declares (slot_now x >>= emptied p x l.ty) (λ out. before (if block then S.Forget x (size_at p l.ty) else S.Clear x) out)
  empty_kind x l is false e = record {
    extends = λ out. record { code = ends_more _ ends_same; labels = λ k v e. e; texts = λ k v e. e };
    counts = λ out. refl;
    does = λ out rest b f own w lt j z next.
        let i : IsNamed locals x = record { local = l; is = is; named = e } in
        let s = named_slot locals x i j in
        subst (λ (o : Option Slot). Covers (emptied p x l.ty o rest f w) (at (S.Clear x ∷ out.code) own w)) (sym s.1)
        (back (λ k. refl) (next (slice_set f x (by_name None)) (with_temp x (by_name None) own) w (standing_named locals x None i j)));
  }
  empty_kind x l is true e = record {
    extends = λ out. record { code = ends_more _ ends_same; labels = λ k v e. e; texts = λ k v e. e };
    counts = λ out. refl;
    does = λ out rest b f own w lt j z next.
        let i : IsBlock locals x = record { local = l; is = is; block = e } in
        let s = block_slot locals x i j in
        by_slot out rest b f own w j next s.0 s.1;
  }
    where
      by_slot : (out : Out) (rest : Rest Frame (Unit {0})) (b : ℕ) (f own : Frame) (w : World) → Standing locals b f own w
          → ((f own : Frame) (w : World) → Standing locals b f own w → Covers (rest tt f w) (at out.code own w))
          → (o : Option ℕ) → slice_get f x ≡ Some (in_block o) → Covers ((slot_now x >>= emptied p x l.ty) rest f w) (at (S.Forget x (size_at p l.ty) ∷ out.code) own w)
      by_slot out rest b f own w j next None e =
          subst (λ (o : Option Slot). Covers (emptied p x l.ty o rest f w) (at (S.Forget x (size_at p l.ty) ∷ out.code) own w)) (sym e)
          (back (λ k. ap (λ s. code_emptied x (size_at p l.ty) s (λ u own w. at out.code own w k) own w) (j.slots x (in_block None) e)) (next f own w j))
      by_slot out rest b f own w j next (Some z) e =
          let u = record w { memory = with_cells w.memory z 0 (replicate (size_at p l.ty) Empty) } in
          subst (λ (o : Option Slot). Covers (emptied p x l.ty o rest f w) (at (S.Forget x (size_at p l.ty) ∷ out.code) own w)) (sym e)
          (back (λ k. ap (λ s. code_emptied x (size_at p l.ty) s (λ u own w. at out.code own w k) own w) (j.slots x (in_block (Some z)) e))
          (next f own u (standing_later locals u (omega arith) j)))

  declares : (x : ℕ) (o : Option Local) → slice_get locals x ≡ o → (i : Option (Initializer ℕ)) → Declares (declared p call x o i) (λ out. declare_code p h locals o x i out)
  declares x None is i = nothing
  declares x (Some l) is None = empty_kind x l is l.block refl
  declares x (Some l) is (Some all) = by_kind x l is l.block refl all

  pub declare_does : (l x : ℕ) (i : Option (Initializer ℕ)) → Does l 0 (declared p call x (slice_get locals x) i >> pure normally) (λ e out. declare_code p h locals (slice_get locals x) x i out)
  declare_does l x i = as_statement l (declares x (slice_get locals x) refl i)
