-- Where reading stops inside of a function: in a file and with locals that go on from those of the scope, something is so.
use Rattle.std.proofs.Common.{◌≡◌, ℕ, zero, suc, ◌≤◌, ◌<◌, true, false, refl, sym, ap, ◌∙◌, subst, List, [], ◌∷◌, ◌++◌, length, append-nil, length-append}
use Rattle.std.proofs.Common.{arith, inl, inr}
use Rattle.std.specs.Prelude.{◌⊎◌, map, Some, slice_get}
use Rattle.c_types.specs.Layouts.{size_of}
use Rattle.c_types.specs.Limits.{AreComplete}
use Rattle.c_types.specs.Objects.{is_object}
use Rattle.c_types.specs.Types.{CType, Record}
use Rattle.c_erasure.specs.BrokenStatements.{IsAmong}
use Rattle.c_erasure.specs.Marks.{Mark}
use Rattle.c_erasure.specs.Scopes.{AnObject, FileScope, Scope, ALocal, in_full, is_measured}
use Rattle.c_checking_laws.proofs.Adding.{makes_none}
use Rattle.c_checking_laws.proofs.Within.{Additions, both, Within, within_nothing, within_all, within_left, within_then, within_inside, ArePicked, picked_same}
use Rattle.c_checking_laws.proofs.Agreement.{IsObjectType, IsSteady}
use Rattle.c_checking_laws.proofs.Extends.{Extends, itself, further, records_grow}
use Rattle.c_checking_laws.proofs.FaultDeclaring.{IsOrderly, orderly_stays}
use Rattle.c_checking_laws.proofs.FaultPremises.{Prepared, inside_prepared}
use Rattle.c_checking_laws.proofs.FaultResults.{Up, Reaches, reaches_itself, within_reached, Broken}
use Rattle.c_checking_laws.proofs.WholeFiles.Kept.{AreObjectsWhole}
use Rattle.c_checking_laws.proofs.Settled.{AreSettled, Settles}
use Rattle.c_checking_laws.proofs.WholeFiles.Layouts.{IsLaid}
use Rattle.c_checking_laws.proofs.WholeFiles.Longer.{seen, GoesOn, goes_further}
use Rattle.c_checking_laws.proofs.WholeFiles.Scoped.{IsWithin, ready_for, AddsInside, records_same, FoundIn}
use Rattle.c_checking_laws.proofs.WholeFiles.AddressesStay.{keeps_constants}
use Rattle.c_checking_units.proofs.FirstStops.Clear.{reaches_more, begin_at, BeginAt, AreFresh, fresh_right, picked_made, clear, clear_there}
use Rattle.c_checking_units.proofs.FirstStops.InnerAdditions.{inner}
use Rattle.c_checking_units.proofs.FirstStops.DeclaredLocals.{AreObjectLocals, locals_after}

-- ---- where reading stops

-- a file to which a first part of these additions is added inside of a function
abbrev pub Inner : FileScope → Additions → FileScope → Type 0
Inner f all g = Within f true false false all g

pub inner_left : {f : FileScope} (k l : Additions) (g : FileScope) → Inner f k g → Inner f (both k l) g
inner_left k l g w = within_left k l w

pub within_inner : {f g : FileScope} (all : Additions) → Reaches (Inner f all) f true g → Inner f all g
within_inner {f} {g} all p = by_part p.allowed
  where
    by_part : (g ≡ f) ⊎ Inner f all g → Inner f all g
    by_part (inl e) = subst (Inner f all) (sym e) (within_nothing f true false false all)
    by_part (inr w) = w

-- what is added is among these additions
pub record Stopped (k : Additions) (s : Scope) (Is : Scope → Type 0) : Type 0 where
  pub file : FileScope
  pub locals : List ALocal
  pub reaches : Reaches (Inner s.file k) s.file true file
  pub goes : GoesOn s.locals locals
  pub is : Is (seen s file locals)

pub same : (l : List ALocal) → GoesOn l l
same l = ([], sym (append-nil l))

pub stopped_here : (k : Additions) (s : Scope) (Is : Scope → Type 0) → Is s → Stopped k s Is
stopped_here k s Is h = record { file = s.file; locals = s.locals; reaches = reaches_itself (Inner s.file k) s.file true; goes = same s.locals; is = h }

pub stopped_more : {k l : Additions} {s : Scope} (Is Js : Scope → Type 0) → ((g : FileScope) → Inner s.file k g → Inner s.file l g) → ((s : Scope) → Is s → Js s)
    → Stopped k s Is → Stopped l s Js
stopped_more Is Js into h b = record { file = b.file; locals = b.locals; reaches = reaches_more into b.reaches; goes = b.goes; is = h _ b.is }

-- in a scope of a function
pub inner_of : (s : Scope) (all : Additions) (g : FileScope) → s.is_inside ≡ true → s.purpose ≡ in_full → Up s all g → Inner s.file (inner all) g
inner_of s all g i p w =
    within_inside [] i
    (subst (λ p. Within s.file s.is_inside (is_measured p) (makes_none p) all g) p w)

pub inside_reaches : (s : Scope) (all : Additions) {g : FileScope} → s.is_inside ≡ true → s.purpose ≡ in_full → Reaches (Up s all) s.file s.is_inside g
    → Reaches (Inner s.file (inner all)) s.file true g
inside_reaches s all {g} i p r = record {
  extends = r.extends;
  counted = λ e. r.counted i;
  settled = r.settled;
  allowed = inr (inner_of s all g i p (within_reached s all r));
}

settled_on : {f g : FileScope} → Extends f g → length g.records ≡ length f.records → Settles f g
settled_on {f} {g} p e =
    λ h. subst (λ numbered. AreSettled numbered g.records) (sym p.numbered) (subst (AreSettled f.numbered) (sym (records_same p e)) h)

-- one part that is read inside of a function, and where reading goes on to
pub inner_later : {f m g : FileScope} {x made : List ℕ} (k : List ℕ) (l : Additions) → Extends f m → AddsInside f x made m
    → length m.records ≡ length f.records → ArePicked made k → Reaches (Inner m l) m true g
    → Reaches (Inner f (both (record { marks = []; said = x; made = k }) l)) f true g
inner_later k l p grows n picked r = record {
  extends = further p r.extends;
  counted = λ e. r.counted refl ∙ n;
  settled = λ h. r.settled (settled_on p n h);
  allowed = inr (within_then k l grows picked (within_inner l r));
}

-- ---- files with the same records

pub laid_on : {f g : FileScope} → Extends f g → length g.records ≡ length f.records → IsLaid f → IsLaid g
laid_on {f} {g} p e h = record {
  complete = subst AreComplete (sym (records_same p e)) h.complete;
  not_empty = λ t o. subst (λ (records : List Record). is_object (length records) t ≡ true → 0 < size_of records t) (sym (records_same p e)) (h.not_empty t) o;
}

pub steady_on : {f g : FileScope} → Extends f g → length g.records ≡ length f.records → AreObjectsWhole g.records g.objects → IsSteady f → IsSteady g
steady_on {f} {g} p e w h =
    let r = records_same p e in
    record {
      tagged = λ k rec i.
          subst (λ all. slice_get all k ≡ Some rec.tag) (sym p.numbered) (h.tagged k rec (subst (λ all. slice_get all k ≡ Some rec) r i));
      fields = λ k j rec x i. h.fields k j rec x (subst (λ all. slice_get all k ≡ Some rec) r i);
      objects = λ n t i. let o = mapped_back g.objects n t i in typed_so o.0 t o.2 (w n o.0 o.1);
    }
  where
    typed_so : (o : AnObject) (t : CType) → o.ty ≡ t → is_object (length g.records) o.ty ≡ true → IsObjectType t
    typed_so o t e h = subst IsObjectType e (length g.records, h)

    mapped_back : (all : List AnObject) (n : ℕ) (t : CType) → slice_get (map (λ o. o.ty) all) n ≡ Some t
        → (o : AnObject) × (slice_get all n ≡ Some o) × (o.ty ≡ t)
    mapped_back [] n t h = cc
    mapped_back (x ∷ all) zero t h = let e : x.ty ≡ t = cc in (x, refl, e)
    mapped_back (x ∷ all) (suc n) t h = mapped_back all n t h

pub tags_counted : {f g : FileScope} {x k : List ℕ} → AddsInside f x k g → length g.records ≡ length f.records
tags_counted {f} {g} p =
    let n = ap length p.records in
    omega (arith, n, length_of_tags f.records, length_of_tags g.records, length-append (map (λ (r : Record). r.tag) f.records) [])
  where
    length_of_tags : (all : List Record) → length (map (λ (r : Record). r.tag) all) ≡ length all
    length_of_tags [] = refl
    length_of_tags (r ∷ all) = ap suc (length_of_tags all)

module _ (untagged : ℕ → List ℕ) (ends : List ℕ) (f : FileScope) where
  -- what is known of a scope inside of a function that begins in a file
  pub record IsIn (s : Scope) : Type 0 where
    pub within : IsWithin untagged f s
    pub ends_are : s.file.ends ≡ ends
    pub steady : IsSteady s.file
    pub orderly : IsOrderly s.file
    pub locals_are : AreObjectLocals s.locals
    pub laid : IsLaid s.file

  pub prepared : (s : Scope) → IsIn s → (u : List Mark) → Prepared untagged ends s u
  prepared s p u =
      inside_prepared untagged ends p.within.inside u (ready_for p.within s.locals (same s.locals) u) p.ends_are p.within.same p.steady p.orderly p.locals_are

  pub many : (s : Scope) → IsIn s → length f.records ≤ length s.file.records
  many s p = records_grow p.within.extends

  pub stopped_of : {k : Additions} (s : Scope) (Is : Scope → Type 0) → IsIn s → Broken (Up s k) s Is → Stopped (inner k) s Is
  stopped_of {k} s Is p b = record {
    file = b.file;
    locals = s.locals;
    reaches = inside_reaches s k p.within.inside p.within.full b.reaches;
    goes = same s.locals;
    is = b.is;
  }

  -- ---- a part that is read

  module _ (s : Scope) (x k : List ℕ) (A : FileScope → List ALocal → Type 0) (numbers : List ℕ) (after : Scope) (v : FoundIn untagged f s x k A numbers after) where
    picked : ArePicked v.made k
    picked = picked_made v.parted

    -- what the part adds
    own : Inner s.file (record { marks = []; said = x; made = k }) after.file
    own = within_all k v.grows picked

    begun : BeginAt s.file v.made after.file
    begun = begin_at (within_all v.made v.grows (picked_same v.made))

    pub read_reaches : Reaches (Inner s.file (record { marks = []; said = x; made = k })) s.file true after.file
    read_reaches = record {
      extends = v.extends;
      counted = λ e. tags_counted v.grows;
      settled = settled_on v.extends (tags_counted v.grows);
      allowed = inr own;
    }

    -- it holds there
    pub holds_there : IsIn s → AreFresh s.file k → A after.file after.locals
    holds_there p fresh = v.holds after.file after.locals (record {
      extends = itself after.file;
      locals = same after.locals;
      laid = laid_on v.extends (tags_counted v.grows) p.laid;
      none_begins = clear_there v.parted fresh begun;
      constants = λ h d e. keeps_constants h after.file e;
    })

    -- and where reading stops later
    pub holds_later : IsIn s → (l : Additions) → AreFresh s.file (k ++ l.made) → (Js : Scope → Type 0) → (b : Stopped l after Js) → A b.file b.locals
    holds_later p l fresh Js b = v.holds b.file b.locals (record {
      extends = b.reaches.extends;
      locals = b.goes;
      laid = laid_on (further v.extends b.reaches.extends) (b.reaches.counted refl ∙ tags_counted v.grows) p.laid;
      none_begins = clear l.made v.parted fresh begun (begin_at (within_inner l b.reaches));
      constants = λ h d e. keeps_constants h b.file e;
    })

    pub stopped_there : (Is : Scope → Type 0) → Is (seen s after.file after.locals) → Stopped (record { marks = []; said = x; made = k }) s Is
    stopped_there Is h = record { file = after.file; locals = after.locals; reaches = read_reaches; goes = (v.more, v.locals); is = h }

    pub stopped_later : IsIn s → (l : Additions) → AreFresh s.file (k ++ l.made) → (Is Js : Scope → Type 0)
        → ((g : FileScope) (l : List ALocal) → A g l → Js (seen after g l) → Is (seen s g l)) → Stopped l after Js → Stopped (both (record { marks = []; said = x; made = k }) l) s Is
    stopped_later p l fresh Is Js into b = record {
      file = b.file;
      locals = b.locals;
      reaches = inner_later k l v.extends v.grows (tags_counted v.grows) picked b.reaches;
      goes = goes_further s.locals after.locals b.locals (v.more, v.locals) b.goes;
      is = into b.file b.locals (holds_later p l fresh Js b) b.is;
    }

    pub fresh_later : (l : List ℕ) → AreFresh s.file (k ++ l) → AreFresh after.file l
    fresh_later l fresh = fresh_right k l fresh (begin_at own)

    pub in_later : IsIn s → AreFresh s.file k
        → (A after.file after.locals → (n : ℕ) → IsAmong numbers n → (t : CType) → slice_get (map (λ l. l.ty) after.locals) n ≡ Some t → IsObjectType t)
        → IsIn after
    in_later p fresh objects = record {
      within = v.within;
      ends_are = v.extends.ends ∙ p.ends_are;
      steady = steady_on v.extends (tags_counted v.grows) v.within.whole p.steady;
      orderly = orderly_stays v.extends p.orderly;
      locals_are = locals_after s.locals v.more after.locals numbers v.locals v.numbered p.locals_are (objects (holds_there p fresh));
      laid = laid_on v.extends (tags_counted v.grows) p.laid;
    }

    -- where it declares no locals
    pub in_same : IsIn s → AreFresh s.file k → numbers ≡ [] → IsIn after
    in_same p fresh e = in_later p fresh (λ h n i t g. absurd (subst (λ numbers. IsAmong numbers n) e i))
