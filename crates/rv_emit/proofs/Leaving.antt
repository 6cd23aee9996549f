-- A function is left: what of its locals has begun ends, and nobody owns its frame.
use Rattle.std.proofs.Common.{◌≡◌, ◌≢◌, ℕ, zero, suc, ◌<◌, ◌≤◌, inl, inr, List, [], ◌∷◌, Option, Some, None, slice_get, refl, sym}
use Rattle.std.proofs.lemmas.Bool.{cases_lt}
use Rattle.block_memory.specs.Lifetimes.{with_end}
use Rattle.block_memory.specs.RunWorlds.Worlds.{World, End}
use Rattle.c_meaning.specs.Frames.{Frame, end_all}
use Rattle.c_meaning.specs.declared.frame.Slot.{Slot}
use Rattle.c_meaning.specs.declared.frame.Slot.TheVariants.{ByName as by_name, InBlock as in_block}
use Rattle.rv_isa.specs.Events.{MachineEvent}
use Rattle.rv_isa.specs.Memory as M
use Rattle.rv_isa.specs.Step.{State}
use Rattle.rv_code.specs.Code.{stack_place}
use Rattle.tac_ir.specs.Running.{Caller}
use Rattle.rv_emit.specs.Maps.{Extents}
use Rattle.rv_emit.specs.Grounds.{Ground}
use Rattle.rv_emit.specs.Relation.{Program, Callers, Worldly}
use Rattle.rv_emit.specs.Claims.{Claims}
use Rattle.rv_emit.proofs.Ending.{callers_fewer, fewer_without, flat_ended, without, without_other, world_fewer}

module _ (ground : Ground) (p : Program) (Claim : Claims) (blocks : Extents) (memory : M.Memory) (input output : List ℕ) (before : List MachineEvent)
    (numbers : List ℕ) (callers : List Caller) (sp top back : ℕ) where
  -- the world and the calls that wait, where the stack is not used up to the end of a frame
  pub record Left (owner : ℕ → Option ℕ) (w : World) : Type 0 where
    pub world : Worldly ground p blocks owner w memory input output before
    pub waiting : Callers ground p blocks owner memory numbers callers top back
    pub below : (a : ℕ) → stack_place ≤ a → a < top → owner a ≡ None

  -- the same, but that the blocks of a frame's slots may be owned
  pub record Leaves (owner : ℕ → Option ℕ) (w : World) (f : Frame) : Type 0 where
    pub world : Worldly ground p blocks owner w memory input output before
    pub waiting : Callers ground p blocks owner memory numbers callers top back
    pub below : (a : ℕ) → stack_place ≤ a → a < sp → owner a ≡ None
    pub owns : (a b : ℕ) → sp ≤ a → a < top → owner a ≡ Some b → (x : ℕ) × (slice_get f x ≡ Some (in_block (Some b)))

  none_left : (owner : ℕ → Option ℕ) (w : World) → Leaves owner w [] → Left owner w
  none_left owner w h = record { world = h.world; waiting = h.waiting; below = below }
    where
      by_owner : (a : ℕ) → sp ≤ a → a < top → (o : Option ℕ) → owner a ≡ o → owner a ≡ None
      by_owner a low high None e = e
      by_owner a low high (Some b) e = absurd (let k = (h.owns a b low high e).1 in cc)

      below : (a : ℕ) → stack_place ≤ a → a < top → owner a ≡ None
      below a low high = elim (cases_lt a sp) [
        | inl lt ↦ h.below a low lt
        | inr ge ↦ by_owner a ge high (owner a) refl
      ]

  -- a slot without a block that has begun
  passed : (owner : ℕ → Option ℕ) (w : World) (s : Slot) (more : Frame) → ((b : ℕ) → s ≢ in_block (Some b)) → Leaves owner w (s ∷ more) → Leaves owner w more
  passed owner w s more ne h = record {
    world = h.world;
    waiting = h.waiting;
    below = h.below;
    owns = λ a b low high e. let k = h.owns a b low high e in behind b k.0 k.1;
  }
    where
      behind : (b x : ℕ) → slice_get (s ∷ more) x ≡ Some (in_block (Some b)) → (y : ℕ) × (slice_get more y ≡ Some (in_block (Some b)))
      behind b zero e = absurd (ne b cc)
      behind b (suc x) e = (x, e)

  ended : (owner : ℕ → Option ℕ) (w : World) (b : ℕ) (more : Frame) → Leaves owner w (in_block (Some b) ∷ more)
      → Leaves (without owner b) (record w { memory = with_end w.memory b }) more
  ended owner w b more h =
      let fewer = fewer_without owner b in
      record {
        world = world_fewer ground p blocks owner (without owner b) fewer memory w (with_end w.memory b) input output before
            (flat_ended ground p blocks owner w.memory memory h.world.flat b) h.world;
        waiting = callers_fewer ground p blocks owner (without owner b) fewer memory numbers callers top back h.waiting;
        below = λ a low high. fewer.none a (h.below a low high);
        owns = λ a c low high e. let k = h.owns a c low high (fewer.some a c e) in behind c k.0 k.1 (without_other owner b a c e);
      }
    where
      behind : (c x : ℕ) → slice_get (in_block (Some b) ∷ more) x ≡ Some (in_block (Some c)) → c ≢ b → (y : ℕ) × (slice_get more y ≡ Some (in_block (Some c)))
      behind c zero e ne = absurd (ne (let d : b ≡ c = cc in sym d))
      behind c (suc x) e ne = (x, e)

  -- all of them end, and the rest of the run goes on in a world that differs in its blocks alone
  pub by_ends : (f : Frame) (owner : ℕ → Option ℕ) (w : World) (rest : Unit {0} → Frame → World → End) (own : Frame) (n : ℕ) (s : State) → Leaves owner w f
      → ((new : ℕ → Option ℕ) (after : World) → after.trace ≡ w.trace → after.turns ≡ w.turns → Left new after → Claim (rest tt own after) n s before)
      → Claim (end_all f rest own w) n s before
  by_ends [] owner w rest own n s h c = c owner w refl refl (none_left owner w h)
  by_ends (in_block (Some b) ∷ more) owner w rest own n s h c =
      by_ends more (without owner b) (record w { memory = with_end w.memory b }) rest own n s (ended owner w b more h) c
  by_ends (in_block None ∷ more) owner w rest own n s h c = by_ends more owner w rest own n s (passed owner w (in_block None) more (λ b e. cc) h) c
  by_ends (by_name v ∷ more) owner w rest own n s h c = by_ends more owner w rest own n s (passed owner w (by_name v) more (λ b e. cc) h) c
