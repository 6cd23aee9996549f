-- Calls of `malloc` and `calloc`.
use Rattle.std.proofs.Common.{◌≡◌, ℕ, ◌+◌, ◌*◌, true, false, List, [], ◌∷◌, ◌++◌, length, Some, None, ap, ◌∙◌, subst, arith, append_assoc}
use Rattle.lay_base.specs.declared.faults.UndefinedKind.TheVariants as K
use Rattle.lay_base.specs.declared.place.Place.{Place}
use Rattle.c_typed.specs.declared.operators.LibraryFunction.TheVariants as L
use Rattle.block_memory.specs.RunWorlds.LibraryCalls.{library}
use Rattle.block_memory.specs.RunWorlds.Scalars.{as_word}
use Rattle.block_memory.specs.declared.run_worlds.value.Value.{Value}
use Rattle.c_meaning.specs.declared.frame.Slot.TheVariants.{ByName as by_name}
use Rattle.rv_isa.specs.Events.{malloc_entry, calloc_entry}
use Rattle.rv_code.specs.Code.{give_code, one_code, steps_code}
use Rattle.rv_code.specs.Frames.{slot_at}
use Rattle.rv_code.specs.Words.{call_code, fetch_code}
use Rattle.tac_ir.specs.Running.{Next, put_any, with_temp}
use Rattle.tac_ir.specs.declared.step.Row.{Row}
use Rattle.tac_ir.specs.declared.step.Step.TheVariants as S
use Rattle.rv_emit.specs.Grounds.{Ground}
use Rattle.rv_emit.specs.Relation.{Program, Moment, Point, Ready, Here, IsBuilt}
use Rattle.rv_emit.specs.Claims.{AllocationsHaveRoom, AreClaims, Claims, Follows, state}
use Rattle.rv_emit.proofs.Allocating.{allocated_world}
use Rattle.rv_emit.proofs.Plain.{Works, takes}
use Rattle.rv_emit.proofs.Requesting.{block, by_calloc, by_make, by_malloc, word_is}
use Rattle.rv_emit.proofs.Rows.{HasRow, by_argument, by_row, open_at}
use Rattle.rv_emit.proofs.Values.{by_tested, with_register}

module _ (ground : Ground) (p : Program) (built : IsBuilt ground p) (Claim : Claims) (claims : AreClaims ground p Claim) (next : Next)
    (follows : Follows ground p Claim next) (has_room : AllocationsHaveRoom ground p Claim next) (m : Moment) (q : Point) (ready : Ready ground p m q) where
  pub malloc_works : (t : ℕ) (at : Place) (all : Row) → Works ground p built Claim claims next m q (S.Library t at L.Malloc all)
  malloc_works t at all code fits =
      by_row ground p built Claim claims at all.first all.count _ m.frame m.w m.w.turns q by_values
    where
      by_values : (vs : List Value) → HasRow m.frame all.first vs → length vs ≡ all.count
          → Claim (library at L.Malloc vs (λ v. put_any t v (λ u. next m.callers m.g m.more)) m.frame m.w) m.w.turns (state q) q.before
      by_values [] row long = claims.undefined K.Call at m.w m.w.turns (state q) q.before
      by_values (v ∷ w ∷ vs) row long = claims.undefined K.Call at m.w m.w.turns (state q) q.before
      by_values (v ∷ []) row long =
          let one = one_code all.first in
          let call = call_code malloc_entry in
          let give = give_code t 10 in
          let rest = steps_code p.places m.g m.l m.more in
          let c1 = subst (Here ground p q.pc) (append_assoc one (call ++ give) rest) code in
          by_tested ground p built Claim claims (as_word v) at _ m.frame m.w m.w.turns q
          λ k is. by_make ground p built Claim claims next follows has_room m q ready None k false t (state q) q.before
          (let e = next m.callers m.g m.more (with_temp t (by_name (Some (block ground p built Claim claims next follows has_room m))) m.frame)
          (allocated_world ground p m q ready None k false) in
          by_argument ground p built Claim claims m q ready e m.w.turns 10 all.first v ((call ++ give) ++ rest) (omega arith) (omega arith) row.0
          (open_at ground m all fits.row 0 all.first (omega (arith, long)) (omega arith)) c1
          λ x means small ready_x code_x.
          by_malloc ground p built Claim claims next follows has_room m (with_register q 10 x one) ready_x None k false t
          (word_is ground p built Claim claims next follows has_room m v k x is means) (takes ground p built Claim claims next follows m t fits.slot fits.kinds.0)
          (subst (Here ground p (q.pc + 4 * length one)) (append_assoc call give rest) code_x))

  pub calloc_works : (t : ℕ) (at : Place) (all : Row) → Works ground p built Claim claims next m q (S.Library t at L.Calloc all)
  calloc_works t at all code fits =
      by_row ground p built Claim claims at all.first all.count _ m.frame m.w m.w.turns q by_values
    where
      by_values : (vs : List Value) → HasRow m.frame all.first vs → length vs ≡ all.count
          → Claim (library at L.Calloc vs (λ v. put_any t v (λ u. next m.callers m.g m.more)) m.frame m.w) m.w.turns (state q) q.before
      by_values [] row long = claims.undefined K.Call at m.w m.w.turns (state q) q.before
      by_values (v ∷ []) row long = claims.undefined K.Call at m.w m.w.turns (state q) q.before
      by_values (v ∷ w ∷ u ∷ vs) row long = claims.undefined K.Call at m.w m.w.turns (state q) q.before
      by_values (v ∷ w ∷ []) row long =
          let one = one_code all.first in
          let two = fetch_code 11 2 (slot_at (all.first + 1)) in
          let call = call_code calloc_entry in
          let give = give_code t 10 in
          let rest = steps_code p.places m.g m.l m.more in
          let c1 = subst (Here ground p q.pc) (append_assoc (one ++ two) (call ++ give) rest) code in
          let c2 = subst (Here ground p q.pc) (append_assoc one two ((call ++ give) ++ rest)) c1 in
          by_tested ground p built Claim claims (as_word v) at _ m.frame m.w m.w.turns q
          λ k is. by_tested ground p built Claim claims (as_word w) at _ m.frame m.w m.w.turns q
          λ j is'. by_make ground p built Claim claims next follows has_room m q ready None (k * j) true t (state q) q.before
          (let e = next m.callers m.g m.more (with_temp t (by_name (Some (block ground p built Claim claims next follows has_room m))) m.frame)
          (allocated_world ground p m q ready None (k * j) true) in
          by_argument ground p built Claim claims m q ready e m.w.turns 10 all.first v (two ++ ((call ++ give) ++ rest)) (omega arith) (omega arith) row.0
          (open_at ground m all fits.row 0 all.first (omega (arith, long)) (omega arith)) c2
          λ x means small ready_x code_x.
          let q1 = with_register q 10 x one in
          by_argument ground p built Claim claims m q1 ready_x e m.w.turns 11 (all.first + 1) w ((call ++ give) ++ rest) (omega arith) (omega arith) row.1.0
          (open_at ground m all fits.row 1 (all.first + 1) (omega (arith, long)) (omega arith)) code_x
          λ y means' small' ready_y code_y.
          let ten : x ≡ k = word_is ground p built Claim claims next follows has_room m v k x is means in
          let eleven : y ≡ j = word_is ground p built Claim claims next follows has_room m w j y is' means' in
          by_calloc ground p built Claim claims next follows has_room m (with_register q1 11 y two) ready_y None (k * j) true t
          (ap (λ (z : ℕ). z * y) ten ∙ ap (λ (z : ℕ). k * z) eleven) (takes ground p built Claim claims next follows m t fits.slot fits.kinds.0)
          (subst (Here ground p (q1.pc + 4 * length two)) (append_assoc call give rest) code_y))
