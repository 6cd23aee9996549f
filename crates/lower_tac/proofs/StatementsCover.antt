-- The code of a statement does what the statement does, and is left as the statement is (C99 6.8).
use Rattle.std.proofs.Common.{◌≡◌, ℕ, ◌+◌, ◌<◌, ◌≢◌, Bool, true, false, List, [], ◌∷◌, Option, Some, None, refl, sym, subst, arith, length, if◌then◌else◌, slice_get, ap, ◌∙◌}
use Rattle.lay_base.specs.declared.place.Place.{Place}
use Rattle.c_typed.specs.declared.program.Local.{Local}
use Rattle.c_typed.specs.Programs.{ProgramData}
use Rattle.c_typed.specs.Trees.{Expression}
use Rattle.block_memory.specs.RunWorlds.Doing.{Rest, Doing, ◌>>=◌, ◌>>◌, pure}
use Rattle.block_memory.specs.RunWorlds.Ways.{and_then}
use Rattle.block_memory.specs.RunWorlds.Worlds.{World, End}
use Rattle.block_memory.specs.declared.run_worlds.value.Value.{Value}
use Rattle.block_memory.specs.declared.run_worlds.way.Way.{Way}
use Rattle.block_memory.specs.declared.run_worlds.way.Way.TheVariants.{Normally as normally, ByBreak as by_break, ByContinue as by_continue, ByReturn as by_return}
use Rattle.c_meaning.specs.Frames.{Frame, finish_all, scoped, end_slot}
use Rattle.c_meaning.specs.Statements.{done, tests, returned}
use Rattle.tac_ir.specs.Code.{Code, RoutineData, left}
use Rattle.tac_ir.specs.Covering.{Covers}
use Rattle.tac_ir.specs.Running.{Caller, with_temp, read_any, leaves as leaves_function, returns, go}
use Rattle.tac_ir.specs.declared.step.Operand.{Operand}
use Rattle.tac_ir.specs.declared.step.Step.TheVariants as S
use Rattle.lower_tac.specs.Parts.{Steps, operand}
use Rattle.lower_tac.specs.Expressions.{value_code, effect_code, branch_code, part_of}
use Rattle.lower_tac.specs.declared.ways.Exit.TheVariants.{Leads as leads, Leaves as leaves}
use Rattle.lower_tac.specs.declared.ways.Exit.{Exit}
use Rattle.lower_tac.specs.declared.ways.Exits.{Exits}
use Rattle.lower_tac.specs.declared.ways.ReturnWay.TheVariants.{AtOnce as at_once, BehindEnds as behind_ends}
use Rattle.lower_tac.specs.declared.ways.ReturnWay.{ReturnWay}
use Rattle.lower_tac.specs.Statements.{Out, before, by, here, begins_code, ends_code, ending, return_end, continue_end, break_end, have_blocks, is_block, scope_code, scoped_code, exit_code, back_code, return_code}
use Rattle.lower_tac.proofs.Blind.{ahead, back}
use Rattle.lower_tac.proofs.Base.{Standing, Joined, temp_same, standing_scratch, none_there}
use Rattle.lower_tac.proofs.Making as Making
use Rattle.lower_tac.proofs.Making.{Ends, ends_same, ends_more, ends_behind, ends_then, left_there, Settled}
use Rattle.lower_tac.proofs.Calls as Calls
use Rattle.lower_tac.proofs.NodesCover as Nodes
use Rattle.lower_tac.proofs.ScopesCover as Scopes
use Rattle.lower_tac.proofs.ScopesCover.{Behind}
use Rattle.std.specs.Prelude.{◌||◌}
use Rattle.std.proofs.lemmas.Bool.{true≢false}
use Rattle.lower_tac.proofs.Places.{named_slot}
use Rattle.c_meaning.specs.declared.frame.Slot.TheVariants.{ByName as by_name}

-- ---- what is made before other code leaves that as it is

pub record Extends (out whole : Out) : Type 0 where
  pub code : Ends out.code whole.code
  pub labels : (k v : ℕ) → slice_get out.labels k ≡ Some v → slice_get whole.labels k ≡ Some v
  pub texts : (k : ℕ) (v : List ℕ) → slice_get out.texts k ≡ Some v → slice_get whole.texts k ≡ Some v

pub same_out : {out : Out} → Extends out out
same_out = record { code = ends_same; labels = λ k v e. e; texts = λ k v e. e }

pub extends_then : {out middle whole : Out} → Extends out middle → Extends middle whole → Extends out whole
extends_then one other = record {
  code = ends_then one.code other.code;
  labels = λ k v e. other.labels k v (one.labels k v e);
  texts = λ k v e. other.texts k v (one.texts k v e);
}

pub by_extends : {out : Out} (make : Steps → Steps) → Ends out.code (make out.code) → Extends out (by make out)
by_extends make e = record { code = e; labels = λ k v e. e; texts = λ k v e. e }

module _ (p : ProgramData) (c : Code) (n : ℕ) (locals : List Local) (cs : List Caller) (g : RoutineData) (h : ℕ) (call : Place → (f : ℕ) → List Value → Doing Frame (Option Value))
    (callees : Calls.Calls p c n call) (routines : Calls.Routines p c) where
  abbrev at : (code : Steps) → Frame → World → (steps : ℕ) → End
  at = Making.at p c n locals cs g

  abbrev pub room : ℕ
  room = length locals

  -- the routine ends with what is made; a label that is not set yet is 0
  pub record Final (out : Out) : Type 0 where
    pub code : Ends out.code g.code
    pub labels : (k v : ℕ) → v ≢ 0 → slice_get out.labels k ≡ Some v → slice_get g.labels k ≡ Some v
    pub texts : (k : ℕ) (v : List ℕ) → slice_get out.texts k ≡ Some v → slice_get g.texts k ≡ Some v

  pub final : {out whole : Out} → Extends out whole → Final whole → Final out
  final e z = record { code = ends_then e.code z.code; labels = λ k v m q. z.labels k v m (e.labels k v q); texts = λ k v q. z.texts k v (e.texts k v q) }

  -- ---- ways out

  -- what is returned at once
  pub record ReadsAny (own : Frame) (a : Option Operand) (o : Option Value) : Type 0 where
    pub is : (later : Rest Frame (Option Value)) (w : World) → read_any a later own w ≡ later o own w

  pub record Leaves (x : Exits) (b : ℕ) (rest : Rest Frame Way) : Type 0 where
    pub breaks : (code : Steps) (f own : Frame) (w : World) → Standing locals b f own w → Covers (rest by_break f w) (at (exit_code p h locals x.on_break code) own w)
    pub continues : (code : Steps) (f own : Frame) (w : World) → Standing locals b f own w → Covers (rest by_continue f w) (at (exit_code p h locals x.on_continue code) own w)
    -- with what the first temporary holds
    pub gives : (code : Steps) (o : Option Value) (f own : Frame) (w : World) → Standing locals b f own w → slice_get own room ≡ Some (by_name o)
        → Covers (rest (by_return o) f w) (at (back_code p h locals x.on_return code) own w)
    pub direct : x.on_return ≡ at_once → (code : Steps) (a : Option Operand) (o : Option Value) (f own : Frame) (w : World) → Standing locals b f own w → ReadsAny own a o
        → Covers (rest (by_return o) f w) (at (S.Return a ∷ code) own w)

  -- ---- a statement: so many loops stand before it, and it has so many

  pub record Does (l count : ℕ) (m : Doing Frame Way) (make : Exits → Out → Out) : Type 0 where
    pub extends : (x : Exits) (out : Out) → Extends out (make x out)
    pub counts : (x : Exits) (out : Out) → out.loops ≡ l + count → (make x out).loops ≡ l
    pub does : (x : Exits) (out : Out) (rest : Rest Frame Way) (b : ℕ) (f own : Frame) (w : World) → b < n → out.loops ≡ l + count → Standing locals b f own w
        → Final (make x out) → Leaves x b rest
        → ((f own : Frame) (w : World) → Standing locals b f own w → Covers (rest normally f w) (at out.code own w))
        → Covers (m rest f w) (at (make x out).code own w)

  -- ---- an expression as a statement

  pub joined : {b : ℕ} {f own : Frame} {w : World} → Standing locals b f own w → Joined locals b room own f own w
  joined j = record { now = j; above = omega arith; kept = λ t k s e. e }

  no_loops : {k : ℕ} (l : ℕ) → k ≡ l + 0 → k ≡ l
  no_loops l e = omega (arith, e)

  pub evaluate_does : (l : ℕ) (e : Expression ℕ) → Does l 0 (done p call e >> pure normally) (λ x out. by (effect_code p locals e room) out)
  evaluate_does l e =
      let one = Nodes.effect_does p c n locals cs g call callees routines e in
      record {
        extends = λ x out. by_extends (effect_code p locals e room) (one.ends room out.code);
        counts = λ x out q. no_loops l q;
        does = λ x out rest b f own w lt q j z ways next.
            one.does room out.code (λ o. rest normally) b own f own w lt (joined j) z.code (λ o f own w j. next f own w j.now);
      }

  -- ---- one behind the other

  pub empty_does : (l : ℕ) → Does l 0 (pure normally) (λ x out. out)
  empty_does l = record {
    extends = λ x out. same_out;
    counts = λ x out q. no_loops l q;
    does = λ x out rest b f own w lt q j z ways next. next f own w j;
  }

  pub sequence_does : {m o : Doing Frame Way} {make more : Exits → Out → Out} (l one_count other_count : ℕ) → Does l one_count m make → Does (l + one_count) other_count o more
      → Does l (one_count + other_count) (m >>= and_then o) (λ x out. make x (more x out))
  sequence_does {m} {o} {make} {more} l one_count other_count one other = record {
    extends = λ x out. extends_then (other.extends x out) (one.extends x (more x out));
    counts = λ x out q. one.counts x (more x out) (other.counts x out (omega (arith, q)));
    does = λ x out rest b f own w lt q j z ways next.
        one.does x (more x out) (λ way. and_then o way rest) b f own w lt (other.counts x out (omega (arith, q))) j z
        (record { breaks = ways.breaks; continues = ways.continues; gives = ways.gives; direct = ways.direct })
        (λ f own w j. other.does x out rest b f own w lt (omega (arith, q)) j (final (one.extends x (more x out)) z) ways next);
  }

  -- ---- ways out

  exit_ends : (e : Exit) (code : Steps) → Ends code (exit_code p h locals e code)
  exit_ends (leads to) code = ends_more _ ends_same
  exit_ends leaves code = ends_more _ ends_same

  back_ends : (e : ReturnWay) (code : Steps) → Ends code (back_code p h locals e code)
  back_ends at_once code = ends_more _ ends_same
  back_ends (behind_ends to) code = ends_more _ ends_same

  pub break_does : (l : ℕ) → Does l 0 (pure by_break) (λ x out. by (exit_code p h locals x.on_break) out)
  break_does l = record {
    extends = λ x out. by_extends (exit_code p h locals x.on_break) (exit_ends x.on_break out.code);
    counts = λ x out q. no_loops l q;
    does = λ x out rest b f own w lt q j z ways next. ways.breaks out.code f own w j;
  }

  pub continue_does : (l : ℕ) → Does l 0 (pure by_continue) (λ x out. by (exit_code p h locals x.on_continue) out)
  continue_does l = record {
    extends = λ x out. by_extends (exit_code p h locals x.on_continue) (exit_ends x.on_continue out.code);
    counts = λ x out q. no_loops l q;
    does = λ x out rest b f own w lt q j z ways next. ways.continues out.code f own w j;
  }

  return_ends : (e : Option (Expression ℕ)) (way : ReturnWay) (code : Steps) → Ends code (return_code p h locals e way code)
  return_ends None at_once code = ends_more _ ends_same
  return_ends None (behind_ends to) code = ends_more _ (ends_more _ ends_same)
  return_ends (Some e) at_once code =
      let one = Nodes.uses p c n locals cs g call e (Nodes.value_does p c n locals cs g call callees routines e) in
      let step = S.Return (Some (operand (part_of p locals e (value_code p locals e)) room)) in
      ends_then (ends_more step ends_same) (Making.code_ends p c n locals cs g one room (step ∷ code))
  return_ends (Some e) (behind_ends to) code =
      let one = Nodes.uses p c n locals cs g call e (Nodes.value_does p c n locals cs g call callees routines e) in
      ends_then (ends_more (S.Jump to) ends_same) (Making.held_ends p c n locals cs g one room (S.Jump to ∷ code))

  return_covers : (e : Option (Expression ℕ)) (x : Exits) (code : Steps) (rest : Rest Frame Way) (b : ℕ) (f own : Frame) (w : World) → b < n → Standing locals b f own w → Leaves x b rest
      → (way : ReturnWay) → x.on_return ≡ way → Ends (return_code p h locals e way code) g.code → Covers (returned p call e rest f w) (at (return_code p h locals e way code) own w)
  return_covers None x code rest b f own w lt j ways at_once is e = ways.direct is code None None f own w j (record { is = λ later w. refl })
  return_covers None x code rest b f own w lt j ways (behind_ends to) is e =
      let new = with_temp room (by_name None) own in
      back (λ k. refl) (subst (λ (y : ReturnWay). Covers (rest (by_return None) f w) (at (back_code p h locals y code) new w)) is
      (ways.gives code None f new w (standing_scratch locals room None j (omega arith)) (temp_same room (by_name None) own)))
  return_covers (Some e) x code rest b f own w lt j ways at_once is ends =
      let one = Nodes.uses p c n locals cs g call e (Nodes.value_does p c n locals cs g call callees routines e) in
      let a = operand (part_of p locals e (value_code p locals e)) room in
      let last : ℕ → Rest Frame Value = (λ (k : ℕ) v own w. (leaves_function >> pure (Some v)) (λ o own w. returns p.types c (go p.types c k) cs o w) own w) in
      Making.code_does p c n locals cs g one room (S.Return (Some a) ∷ code) (λ v. rest (by_return (Some v))) last b own f own w lt (joined j) ends (λ f own w j k. refl)
      (λ v f own w r reads. ahead {run = at (S.Return (Some a) ∷ code) own w} (λ k. reads.is (last k) w)
      (ways.direct is code (Some a) (Some v) f own w r.now (record { is = λ later w. reads.is (λ v. later (Some v)) w })))
  return_covers (Some e) x code rest b f own w lt j ways (behind_ends to) is ends =
      let one = Nodes.uses p c n locals cs g call e (Nodes.value_does p c n locals cs g call callees routines e) in
      Making.held_does p c n locals cs g one room (S.Jump to ∷ code) (λ v. rest (by_return (Some v))) b own f own w lt (joined j) ends
      (λ v f own w r s. subst (λ (y : ReturnWay). Covers (rest (by_return (Some v)) f w) (at (back_code p h locals y code) own w)) is (ways.gives code (Some v) f own w r.now s))

  pub return_does : (l : ℕ) (e : Option (Expression ℕ)) → Does l 0 (returned p call e) (λ x out. by (return_code p h locals e x.on_return) out)
  return_does l e = record {
    extends = λ x out. by_extends (return_code p h locals e x.on_return) (return_ends e x.on_return out.code);
    counts = λ x out q. no_loops l q;
    does = λ x out rest b f own w lt q j z ways next. return_covers e x out.code rest b f own w lt j ways x.on_return refl z.code;
  }

  -- ---- scopes

  to_there : {e : End} (code : Steps) (own : Frame) (w : World) → Ends code g.code → Covers e (at code own w) → Covers e (at (left (length code) g.code) own w)
  to_there {e} code own w is z = subst (λ (s : Steps). Covers e (at s own w)) (sym (left_there is)) z

  -- where no local of a scope lies in a block, nothing ends
  nothing_ends : (own : List ℕ) → have_blocks p h locals own ≡ false → {b : ℕ} {f now : Frame} {w : World} → Standing locals b f now w → (rest : Rest Frame (Unit {0}))
      → finish_all p own rest f w ≡ rest tt f w
  nothing_ends [] e j rest = refl
  nothing_ends (x ∷ more) e {f = f} {w = w} j rest = by_local (slice_get locals x) refl e (λ q. nothing_ends more q j rest)
    where
      by_block : (block : Bool) (l : Local) → l.block ≡ block → slice_get locals x ≡ Some l → (block || have_blocks p h locals more) ≡ false
          → (have_blocks p h locals more ≡ false → finish_all p more rest f w ≡ rest tt f w)
          → end_slot p x (slice_get f x) (λ u. finish_all p more rest) f w ≡ rest tt f w
      by_block true l t is e again = absurd (true≢false e)
      by_block false l t is e again =
          let s = named_slot locals x (record { local = l; is = is; named = t }) j in
          ap (λ o. end_slot p x o (λ u. finish_all p more rest) f w) s.1 ∙ again e

      by_local : (o : Option Local) → slice_get locals x ≡ o → (is_block p h locals o || have_blocks p h locals more) ≡ false
          → (have_blocks p h locals more ≡ false → finish_all p more rest f w ≡ rest tt f w)
          → end_slot p x (slice_get f x) (λ u. finish_all p more rest) f w ≡ rest tt f w
      by_local None is e again = ap (λ o. end_slot p x o (λ u. finish_all p more rest) f w) (none_there f locals x j.size is) ∙ again e
      by_local (Some l) is e again = by_block l.block l refl is e again

  ending_extends : (own : List ℕ) (way : Steps → Steps) → ((code : Steps) → Ends code (way code)) → (out : Out) → Extends out (ending p h locals own way out)
  ending_extends own way ends out = by_extends (λ code. ends_code p h locals own (way code)) (ends_then (ends out.code) ((Scopes.end_acts p c n locals cs g h own).ends (way out.code)))

  module _ (own : List ℕ) where
    ends : Scopes.Acts p c n locals cs g h (finish_all p own) (ends_code p h locals own)
    ends = Scopes.end_acts p c n locals cs g h own

    abbrev last_out : Out → Out
    last_out out = by (ends_code p h locals own) out

    abbrev returned_out : Exits → Out → Out
    returned_out x out = return_end p h locals own x (last_out out)

    abbrev continued_out : Exits → Out → Out
    continued_out x out = continue_end p h locals own x (returned_out x out)

    abbrev broken_out : Exits → Out → Out
    broken_out x out = break_end p h locals own x (continued_out x out)

    abbrev inner_ways : Exits → Out → Exits
    inner_ways x out = record { on_break = leads (here (broken_out x out)); on_continue = leads (here (continued_out x out)); on_return = behind_ends (here (returned_out x out)) }

    abbrev inner_out : Exits → Out → Out
    inner_out x out = before (S.Jump (here (last_out out))) (broken_out x out)

    last_extends : (out : Out) → Extends out (last_out out)
    last_extends out = by_extends (ends_code p h locals own) (ends.ends out.code)

    returned_extends : (x : Exits) (out : Out) → Extends (last_out out) (returned_out x out)
    returned_extends x out = ending_extends own (back_code p h locals x.on_return) (back_ends x.on_return) (last_out out)

    continued_extends : (x : Exits) (out : Out) → Extends (returned_out x out) (continued_out x out)
    continued_extends x out = ending_extends own (exit_code p h locals x.on_continue) (exit_ends x.on_continue) (returned_out x out)

    broken_extends : (x : Exits) (out : Out) → Extends (continued_out x out) (broken_out x out)
    broken_extends x out = ending_extends own (exit_code p h locals x.on_break) (exit_ends x.on_break) (continued_out x out)

    inner_extends : (x : Exits) (out : Out) → Extends (broken_out x out) (inner_out x out)
    inner_extends x out = record { code = ends_more _ ends_same; labels = λ k v e. e; texts = λ k v e. e }

    pub scope_extends : (blocks : Bool) (make : Exits → Out → Out) → ((x : Exits) (out : Out) → Extends out (make x out)) → (x : Exits) (out : Out)
        → Extends out (scope_code p h locals blocks own make x out)
    scope_extends false make made x out = made x out
    scope_extends true make made x out =
        extends_then (last_extends out) (extends_then (returned_extends x out) (extends_then (continued_extends x out) (extends_then (broken_extends x out)
        (extends_then (inner_extends x out) (made (inner_ways x out) (inner_out x out))))))

    pub scope_counts : (l count : ℕ) (blocks : Bool) (make : Exits → Out → Out) → ((x : Exits) (out : Out) → out.loops ≡ l + count → (make x out).loops ≡ l) → (x : Exits) (out : Out)
        → out.loops ≡ l + count → (scope_code p h locals blocks own make x out).loops ≡ l
    scope_counts l count false make counts x out q = counts x out q
    scope_counts l count true make counts x out q = counts (inner_ways x out) (inner_out x out) q

    -- what is done in the scope, wherever its ways out lead
    abbrev pub Inner : (make : Exits → Out → Out) → Doing Frame Way → (loops : ℕ) → Rest Frame Way → ℕ → (f now : Frame) → World → Type 0
    Inner make m loops rest b f now w = (x : Exits) (out : Out) → out.loops ≡ loops → Final (make x out) → Leaves x b (λ way. finish_all p own (λ u. rest way))
        → ((f now : Frame) (w : World) → Standing locals b f now w → Covers (finish_all p own (λ u. rest normally) f w) (at out.code now w))
        → Covers (m (λ way. finish_all p own (λ u. rest way)) f w) (at (make x out).code now w)

    -- nothing has to end
    skipped : {b : ℕ} {f now : Frame} {w : World} (rest : Rest Frame (Unit {0})) (code : Steps) → have_blocks p h locals own ≡ false → Standing locals b f now w
        → Covers (rest tt f w) (at code now w) → Covers (finish_all p own rest f w) (at code now w)
    skipped {now = now} {w = w} rest code none j next = subst (λ (z : End). Covers z (at code now w)) (sym (nothing_ends own none j rest)) next

    pub scope_covers : (blocks : Bool) → have_blocks p h locals own ≡ blocks → (make : Exits → Out → Out) → ((x : Exits) (out : Out) → Extends out (make x out))
        → (m : Doing Frame Way) (x : Exits) (out : Out) (rest : Rest Frame Way) (b : ℕ) (f now : Frame) (w : World) → Final (scope_code p h locals blocks own make x out) → Leaves x b rest
        → ((f now : Frame) (w : World) → Standing locals b f now w → Covers (rest normally f w) (at out.code now w))
        → Inner make m out.loops rest b f now w
        → Covers (m (λ way. finish_all p own (λ u. rest way)) f w) (at (scope_code p h locals blocks own make x out).code now w)
    scope_covers false none make made m x out rest b f now w z ways next inner =
        inner x out refl z
        (record {
          breaks = λ code f now w j. skipped (λ u. rest by_break) (exit_code p h locals x.on_break code) none j (ways.breaks code f now w j);
          continues = λ code f now w j. skipped (λ u. rest by_continue) (exit_code p h locals x.on_continue code) none j (ways.continues code f now w j);
          gives = λ code o f now w j s. skipped (λ u. rest (by_return o)) (back_code p h locals x.on_return code) none j (ways.gives code o f now w j s);
          direct = λ is code a o f now w j r. skipped (λ u. rest (by_return o)) (S.Return a ∷ code) none j (ways.direct is code a o f now w j r);
        })
        (λ f now w j. skipped (λ u. rest normally) out.code none j (next f now w j))
    scope_covers true some make made m x out rest b f now w z ways next inner =
        inner (inner_ways x out) (inner_out x out) refl z
        (record {
          breaks = λ code f now w j. back (λ k. refl) (to_there (broken_out x out).code now w broken.code
              (ends.does (exit_code p h locals x.on_break (continued_out x out).code) (λ u. rest by_break) b f now w j (λ f now w j q. ways.breaks (continued_out x out).code f now w j)));
          continues = λ code f now w j. back (λ k. refl) (to_there (continued_out x out).code now w continued.code
              (ends.does (exit_code p h locals x.on_continue (returned_out x out).code) (λ u. rest by_continue) b f now w j (λ f now w j q. ways.continues (returned_out x out).code f now w j)));
          gives = λ code o f now w j s. back (λ k. refl) (to_there (returned_out x out).code now w final_returned.code
              (ends.does (back_code p h locals x.on_return (last_out out).code) (λ u. rest (by_return o)) b f now w j
              (λ f new w j q. ways.gives (last_out out).code o f new w j (q room (omega arith) (by_name o) s))));
          direct = λ is code a o f now w j r. cc;
        })
        (λ f now w j. back (λ k. refl) (to_there (last_out out).code now w last.code (ends.does out.code (λ u. rest normally) b f now w j (λ f now w j q. next f now w j))))
      where
        broken : Final (broken_out x out)
        broken = final (extends_then (inner_extends x out) (made (inner_ways x out) (inner_out x out))) z

        continued : Final (continued_out x out)
        continued = final (broken_extends x out) broken

        final_returned : Final (returned_out x out)
        final_returned = final (continued_extends x out) continued

        last : Final (last_out out)
        last = final (returned_extends x out) final_returned

  pub scoped_does : {m : Doing Frame Way} {make : Exits → Out → Out} (l count : ℕ) (own : List ℕ) → Does l count m make
      → Does l count (scoped p locals own m) (λ x out. scoped_code p h locals own make x out)
  scoped_does {m} {make} l count own one =
      let begins = Scopes.begin_acts p c n locals cs g h own in
      let blocks = have_blocks p h locals own in
      record {
        extends = λ x out. extends_then (scope_extends own blocks make one.extends x out) (by_extends (begins_code p h locals own) (begins.ends (scope_code p h locals blocks own make x out).code));
        counts = λ x out q. scope_counts own l count blocks make one.counts x out q;
        does = λ x out rest b f now w lt q j z ways next.
            begins.does (scope_code p h locals blocks own make x out).code (λ u. m (λ way. finish_all p own (λ u. rest way))) b f now w j (λ f now w j k.
            scope_covers own blocks refl make one.extends m x out rest b f now w
            (final (by_extends (begins_code p h locals own) (begins.ends (scope_code p h locals blocks own make x out).code)) z) ways next
            (λ x out loops z ways next. one.does x out (λ way. finish_all p own (λ u. rest way)) b f now w lt (loops ∙ q) j z ways next));
      }

  -- ---- `if`

  abbrev goes : (when t : Bool) → (to code : Steps) → Steps
  goes = Making.goes p c n locals cs g

  pub when_does : {m : Doing Frame Way} {make : Exits → Out → Out} (l count : ℕ) (e : Expression ℕ) → Does l count m make
      → Does l count (tests p call e >>= λ goes. if goes then m else pure normally) (λ x out. by (branch_code p locals e false (here out) room) (make x out))
  when_does {m} {make} l count e one =
      let test = Nodes.branch_does p c n locals cs g call callees routines e in
      record {
        extends = λ x out. extends_then (one.extends x out) (by_extends (branch_code p locals e false (here out) room) (test.ends false (here out) room (make x out).code));
        counts = λ x out q. one.counts x out q;
        does = λ x out rest b f own w lt q j z ways next.
            let inner = final (by_extends (branch_code p locals e false (here out) room) (test.ends false (here out) room (make x out).code)) z in
            test.does false (here out) room (make x out).code (λ t. (if t then m else pure normally) rest) b own f own w lt (joined j) z.code
            (λ t f own w j. by_test x out rest b lt q inner ways next t f own w j.now);
      }
    where
      by_test : (x : Exits) (out : Out) (rest : Rest Frame Way) (b : ℕ) → b < n → out.loops ≡ l + count → Final (make x out) → Leaves x b rest
          → ((f own : Frame) (w : World) → Standing locals b f own w → Covers (rest normally f w) (at out.code own w))
          → (t : Bool) (f own : Frame) (w : World) → Standing locals b f own w
          → Covers ((if t then m else pure normally) rest f w) (at (goes false t (left (length out.code) g.code) (make x out).code) own w)
      by_test x out rest b lt q z ways next true f own w j = one.does x out rest b f own w lt q j z ways next
      by_test x out rest b lt q z ways next false f own w j = to_there out.code own w (final (one.extends x out) z).code (next f own w j)

  pub when_else_does : {m o : Doing Frame Way} {make more : Exits → Out → Out} (l one_count other_count : ℕ) (e : Expression ℕ) → Does l one_count m make
      → Does (l + one_count) other_count o more
      → Does l (one_count + other_count) (tests p call e >>= λ goes. if goes then m else o)
      (λ x out. by (branch_code p locals e false (here (more x out)) room) (make x (before (S.Jump (here out)) (more x out))))
  when_else_does {m} {o} {make} {more} l one_count other_count e one other =
      let test = Nodes.branch_does p c n locals cs g call callees routines e in
      record {
        extends = λ x out. extends_then (other.extends x out) (extends_then (jump x out) (extends_then (one.extends x (before (S.Jump (here out)) (more x out))) (outer x out)));
        counts = λ x out q. one.counts x (before (S.Jump (here out)) (more x out)) (other.counts x out (omega (arith, q)));
        does = λ x out rest b f own w lt q j z ways next.
            test.does false (here (more x out)) room (make x (before (S.Jump (here out)) (more x out))).code (λ t. (if t then m else o) rest) b own f own w lt (joined j) z.code
            (λ t f own w j. by_test x out rest b lt q (final (outer x out) z) ways next t f own w j.now);
      }
    where
      jump : (x : Exits) (out : Out) → Extends (more x out) (before (S.Jump (here out)) (more x out))
      jump x out = record { code = ends_more _ ends_same; labels = λ k v e. e; texts = λ k v e. e }

      outer : (x : Exits) (out : Out) → Extends (make x (before (S.Jump (here out)) (more x out))) (by (branch_code p locals e false (here (more x out)) room) (make x (before (S.Jump (here out)) (more x out))))
      outer x out = by_extends (branch_code p locals e false (here (more x out)) room)
          ((Nodes.branch_does p c n locals cs g call callees routines e).ends false (here (more x out)) room (make x (before (S.Jump (here out)) (more x out))).code)

      by_test : (x : Exits) (out : Out) (rest : Rest Frame Way) (b : ℕ) → b < n → out.loops ≡ l + (one_count + other_count) → Final (make x (before (S.Jump (here out)) (more x out)))
          → Leaves x b rest
          → ((f own : Frame) (w : World) → Standing locals b f own w → Covers (rest normally f w) (at out.code own w))
          → (t : Bool) (f own : Frame) (w : World) → Standing locals b f own w
          → Covers ((if t then m else o) rest f w)
          (at (goes false t (left (length (more x out).code) g.code) (make x (before (S.Jump (here out)) (more x out))).code) own w)
      by_test x out rest b lt q z ways next t f own w j =
          let middle = final (one.extends x (before (S.Jump (here out)) (more x out))) z in
          let inner = final (jump x out) middle in
          let last = final (other.extends x out) inner in
          by_bool t f own w j middle inner last
        where
          by_bool : (t : Bool) (f own : Frame) (w : World) → Standing locals b f own w → Final (before (S.Jump (here out)) (more x out)) → Final (more x out) → Final out
              → Covers ((if t then m else o) rest f w)
              (at (goes false t (left (length (more x out).code) g.code) (make x (before (S.Jump (here out)) (more x out))).code) own w)
          by_bool true f own w j middle inner last =
              one.does x (before (S.Jump (here out)) (more x out)) rest b f own w lt (other.counts x out (omega (arith, q))) j z ways
              (λ f own w j. back (λ k. refl) (to_there out.code own w last.code (next f own w j)))
          by_bool false f own w j middle inner last =
              to_there (more x out).code own w inner.code (other.does x out rest b f own w lt (omega (arith, q)) j inner ways next)
