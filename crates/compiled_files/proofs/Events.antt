-- The machine's events, as the relation has them, are those of the trace.
use Rattle.std.proofs.Common.{◌≡◌, ℕ, ◌+◌, List, [], ◌∷◌, ◌++◌, Option, Some, None, sym, ap, ◌∙◌}
use Rattle.std.specs.Prelude.{slice_get}
use Rattle.std.proofs.lemmas.List.{append_assoc, append-nil}
use Rattle.agreement.specs.Real.{events_of}
use Rattle.block_memory.specs.RunWorlds.Events as E
use Rattle.block_memory.specs.RunWorlds.Events.{Event}
use Rattle.rv_emit.specs.Grounds.{Ground}
use Rattle.rv_emit.specs.Maps.{Extent, Extents}
use Rattle.rv_emit.specs.Relation.{IsMade, Program}
use Rattle.rv_isa.specs.Events.{MachineEvent, Request, Reply, Release, Load, Store}
use Rattle.rv_runtime.specs.Steps.States.{later}

-- where a block lies, by its number
abbrev pub place_if_any : Option Extent → ℕ
place_if_any None = 0
place_if_any (Some e) = e.at

abbrev pub place_in : Extents → (block : ℕ) → ℕ
place_in blocks b = place_if_any (slice_get blocks b)

-- from the last event back to the first, and forth
abbrev back : List MachineEvent → List MachineEvent
back [] = []
back (e ∷ more) = back more ++ e ∷ []

back_both : (all more : List MachineEvent) → back (all ++ more) ≡ back more ++ back all
back_both [] more = sym (append-nil (back more))
back_both (e ∷ all) more = ap (λ (x : List MachineEvent). x ++ e ∷ []) (back_both all more) ∙ append_assoc (back more) (back all) (e ∷ [])

later_back : (all before : List MachineEvent) → back (later all before) ≡ back before ++ all
later_back [] before = sym (append-nil (back before))
later_back (e ∷ all) before = later_back all (e ∷ before) ∙ append_assoc (back before) (e ∷ []) all

module _ (ground : Ground) (p : Program) (blocks : Extents) where
  at_place : (b : ℕ) (e : Extent) → slice_get blocks b ≡ Some e → e.at ≡ place_in blocks b
  at_place b e is = sym (ap place_if_any is)

  -- one event more
  step : (rest made : List MachineEvent) (before : List Event) (new : List MachineEvent) → back rest ≡ events_of (place_in blocks) before
      → back made ≡ back rest ++ new → back made ≡ events_of (place_in blocks) before ++ new
  step rest made before new h e = e ∙ ap (λ (x : List MachineEvent). x ++ new) h

  none : (made : List MachineEvent) (before : List Event) → back made ≡ events_of (place_in blocks) before → back made ≡ events_of (place_in blocks) before ++ []
  none made before h = h ∙ sym (append-nil (events_of (place_in blocks) before))

  made_back : (trace : List Event) (made : List MachineEvent) → IsMade ground p blocks trace made → back made ≡ events_of (place_in blocks) trace
  made_back [] made h = ap back h
  made_back (E.allocated b elements n ∷ trace) made (e, rest, is, m, h) =
      step rest made trace (Request n ∷ Reply (place_in blocks b) ∷ []) (made_back trace rest h)
      (ap back m ∙ append_assoc (back rest) (Request n ∷ []) (Reply e.at ∷ [])
      ∙ ap (λ (a : ℕ). back rest ++ (Request n ∷ Reply a ∷ [])) (at_place b e is))
  made_back (E.freed b ∷ trace) made (e, rest, is, m, h) =
      step rest made trace (Release (place_in blocks b) ∷ []) (made_back trace rest h)
      (ap back m ∙ ap (λ (a : ℕ). back rest ++ (Release a ∷ [])) (at_place b e is))
  made_back (E.loaded b o n ∷ trace) made (e, rest, is, m, h) =
      step rest made trace (Load (place_in blocks b + o) n ∷ []) (made_back trace rest h)
      (ap back m ∙ ap (λ (a : ℕ). back rest ++ (Load (a + o) n ∷ [])) (at_place b e is))
  made_back (E.stored b o n ∷ trace) made (e, rest, is, m, h) =
      step rest made trace (Store (place_in blocks b + o) n ∷ []) (made_back trace rest h)
      (ap back m ∙ ap (λ (a : ℕ). back rest ++ (Store (a + o) n ∷ [])) (at_place b e is))
  made_back (E.put byte ∷ trace) made h = none made trace (made_back trace made h)
  made_back (E.got byte ∷ trace) made h = none made trace (made_back trace made h)
  made_back (E.reached b o ∷ trace) made h = none made trace (made_back trace made h)
  made_back (E.entered f ∷ trace) made h = none made trace (made_back trace made h)
  made_back (E.left ∷ trace) made h = none made trace (made_back trace made h)
  made_back (E.began f l ∷ trace) made h = none made trace (made_back trace made h)

  pub events_are : (trace : List Event) (all : List MachineEvent) → IsMade ground p blocks trace (later all []) → all ≡ events_of (place_in blocks) trace
  events_are trace all h = sym (later_back all []) ∙ made_back trace (later all []) h
