-- Arguments, one after the other.
use Rattle.std.proofs.Common.{◌≡◌, refl, ap, sym, ◌∙◌, ℕ, suc, ◌+◌, ◌-◌, ◌<◌, ◌≤◌, List, length, drop, [], ◌∷◌, ◌++◌, Result, Ok, Err, arith, append_assoc}
use Rattle.std.proofs.lemmas.List.{drop_all}
use Rattle.lay_base.specs.declared.faults.UndefinedKind.TheVariants as K
use Rattle.lay_base.specs.declared.place.Place.{Place}
use Rattle.block_memory.specs.declared.run_worlds.value.Value.{Value}
use Rattle.source_state.specs.Steps.Cores.{Core, done}
use Rattle.source_state.specs.Steps.Locals.{slot}
use Rattle.source_state.specs.declared.ends.Final.{Final}
use Rattle.tac_ir.specs.declared.step.Parameter.{Parameter}
use Rattle.tac_engine.specs.Reading.{behind}
use Rattle.tac_engine.specs.States.{and_more, held, read_row}
use Rattle.tac_engine.specs.Steps.{receive}

module _ (at : Place) (first count i : ℕ) (c : Core) where
  at_one : i < count → read_row at (first + i) (count - i) c ≡ and_more (held K.Call at (slot c (first + i)))
      (read_row at (first + (i + 1)) (count - (i + 1)) c)
  at_one few =
      ap (λ (n : ℕ). read_row at (first + i) n c) (let h : count - i ≡ suc (count - (i + 1)) = omega arith in h)
      ∙ ap (λ (t : ℕ). and_more (held K.Call at (slot c (first + i))) (read_row at t (count - (i + 1)) c))
      (let h : first + i + 1 ≡ first + (i + 1) = omega arith in h)

  joined : (vs : List Value) (v : Value) (r : Result (List Value) Final) → behind vs (and_more (Ok v) r) ≡ behind (vs ++ v ∷ []) r
  joined vs v (Ok ws) = ap (λ (l : List Value). Ok l) (sym (append_assoc vs (v ∷ []) ws))
  joined vs v (Err end) = refl

  pub one_more : (vs : List Value) (v : Value) → i < count → held K.Call at (slot c (first + i)) ≡ Ok v
      → behind vs (read_row at (first + i) (count - i) c) ≡ behind (vs ++ v ∷ []) (read_row at (first + (i + 1)) (count - (i + 1)) c)
  one_more vs v few is = ap (behind vs) (at_one few ∙ ap (λ (r : Result Value Final). and_more r (read_row at (first + (i + 1)) (count - (i + 1)) c)) is)
      ∙ joined vs v (read_row at (first + (i + 1)) (count - (i + 1)) c)

  pub no_more : (vs : List Value) (end : Final) → i < count → held K.Call at (slot c (first + i)) ≡ Err end
      → behind vs (read_row at (first + i) (count - i) c) ≡ Err end
  no_more vs end few is = ap (behind vs) (at_one few ∙ ap (λ (r : Result Value Final). and_more r (read_row at (first + (i + 1)) (count - (i + 1)) c)) is)

-- no argument is left
receive_none : (at : Place) (x : ℕ) (parameters : List Parameter) (c : Core) → receive at x parameters [] c ≡ done tt c
receive_none at x [] c = refl
receive_none at x (r ∷ more) c = refl

pub received_all : (at : Place) (x : ℕ) (parameters : List Parameter) (values : List Value) (c : Core) → length values ≤ x
    → receive at x parameters (drop x values) c ≡ done tt c
received_all at x parameters values c past =
    ap (λ (vs : List Value). receive at x parameters vs c) (drop_all x values past) ∙ receive_none at x parameters c
