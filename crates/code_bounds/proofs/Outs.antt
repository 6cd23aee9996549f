-- What the code of a statement adds to what is there, with its labels.
use Rattle.std.proofs.Common.{map, subst, ◌≢◌, ◌≡◌, ℕ, suc, ◌+◌, ◌*◌, ◌<◌, ◌≤◌, Bool, true, false, List, [], ◌∷◌, ◌++◌, length, Option, Some, None, refl, sym}
use Rattle.std.proofs.Common.{ap, ◌∙◌, arith, drop}
use Rattle.std.proofs.Common.{slice_get, slice_set, if◌then◌else◌}
use Rattle.std.specs.Prelude.{◌-◌, ◌==◌}
use Rattle.c_typed.specs.declared.program.Local.{Local}
use Rattle.c_typed.specs.Programs.{ProgramData}
use Rattle.c_meaning.specs.Program.{size_at}
use Rattle.tac_ir.specs.declared.step.Operand.TheVariants as O
use Rattle.tac_ir.specs.declared.step.Step.TheVariants as S
use Rattle.tac_ir.specs.declared.step.Target.{Target}
use Rattle.tac_ir.specs.declared.step.Target.TheVariants as To
use Rattle.lower_tac.specs.Parts.{Steps}
use Rattle.lower_tac.specs.declared.ways.Exit.TheVariants.{Leads as leads, Leaves as leaves}
use Rattle.lower_tac.specs.declared.ways.Exit.{Exit}
use Rattle.lower_tac.specs.declared.ways.Exits.{Exits}
use Rattle.lower_tac.specs.declared.ways.ReturnWay.TheVariants.{AtOnce as at_once, BehindEnds as behind_ends}
use Rattle.lower_tac.specs.declared.ways.ReturnWay.{ReturnWay}
use Rattle.lower_tac.specs.Statements.{Out, before, by, here, with_label}
use Rattle.lower_tac.specs.Statements.{fallen, exit_code, back_code, begin_code, begins_code, end_code, ends_code, return_end, continue_end, break_end}
use Rattle.lower_tac.specs.Statements.{have_blocks, scope_code, scoped_code, round}
use Rattle.tac_ir.specs.Code.{left}
use Rattle.tac_ir.specs.Jumps.{IsInside}
use Rattle.tac_ir.specs.Turns.{TakesTurn}
use Rattle.code_bounds.specs.Prices.{Prices, price_of_all}
use Rattle.tac_ir.specs.Temporaries.{top_if_any}
use Rattle.code_bounds.proofs.Grows as Grows
use Rattle.code_bounds.proofs.Grows.{Each, Leads, leads_later, AllFit, fit_later}
use Rattle.code_bounds.proofs.Expressions as Parts

-- ---- lists

-- so much for each
abbrev pub each : {A : Type 0} → (price : ℕ) → List A → ℕ
each price [] = 0
each price (x ∷ all) = price + each price all

-- where a turn is taken, with so many steps left
abbrev pub Starts : Steps → ℕ → Type 0
Starts code k = IsInside (length code) k × TakesTurn (left k code)

starts_later : (code whole : Steps) → length code ≤ length whole → ((k : ℕ) → k ≤ length code → left k whole ≡ left k code) → (all : List ℕ)
    → Each (Starts code) all → Each (Starts whole) all
starts_later code whole h same [] e = tt
starts_later code whole h same (k ∷ all) e = (
  ((e.0.0.0, omega (arith, h, e.0.0.1)), subst (λ (rest : Steps). TakesTurn rest) (sym (same k e.0.0.1)) e.0.1),
  starts_later code whole h same all e.1,
)

-- at the front of the code
at_front : (code : Steps) → left (length code) code ≡ code
at_front code = ap (λ n. drop n code) (let e : length code - length code ≡ 0 = omega arith in e)

each_append : {A : Type 0} (P : A → Type 0) (a b : List A) → Each P a → Each P b → Each P (a ++ b)
each_append P [] b e h = h
each_append P (x ∷ a) b e h = (e.0, each_append P a b e.1 h)

no_more : (a : List ℕ) → a ≡ a ++ []
no_more [] = refl
no_more (x ∷ a) = ap (λ (b : List ℕ). x ∷ b) (no_more a)

and_more : (a b d : List ℕ) → (a ++ b) ++ d ≡ a ++ (b ++ d)
and_more [] b d = refl
and_more (x ∷ a) b d = ap (λ (e : List ℕ). x ∷ e) (and_more a b d)

both_lengths : (a b : List ℕ) → length (a ++ b) ≡ length a + length b
both_lengths [] b = omega arith
both_lengths (x ∷ a) b = let h = both_lengths a b in omega (arith, h)

longer_list : (a b : List ℕ) → length a ≤ length (a ++ b)
longer_list [] b = omega arith
longer_list (x ∷ a) b = let h = longer_list a b in omega (arith, h)

one_longer : (a : List ℕ) (v : ℕ) → length (a ++ v ∷ []) ≡ suc (length a)
one_longer [] v = refl
one_longer (x ∷ a) v = let h = one_longer a v in omega (arith, h)

label_is_set : (a more : List ℕ) (v : ℕ) → slice_set ((a ++ 0 ∷ []) ++ more) (length a) v ≡ a ++ v ∷ more
label_is_set [] more v = refl
label_is_set (x ∷ a) more v = ap (λ (e : List ℕ). x ∷ e) (label_is_set a more v)

same_length : (a b : List ℕ) (v u : ℕ) → length (a ++ v ∷ b) ≡ length ((a ++ u ∷ []) ++ b)
same_length [] b v u = refl
same_length (x ∷ a) b v u = ap suc (same_length a b v u)

label_set : (a more wide : List ℕ) (v : ℕ) → wide ≡ (a ++ 0 ∷ []) ++ more → slice_set wide (length a) v ≡ a ++ v ∷ more
label_set a more wide v e = ap (λ (all : List ℕ). slice_set all (length a) v) e ∙ label_is_set a more v

as_many_labels : (a more wide : List ℕ) (v : ℕ) → wide ≡ (a ++ 0 ∷ []) ++ more → length (slice_set wide (length a) v) ≡ length wide
as_many_labels a more wide v e = ap length (label_set a more wide v e) ∙ same_length a more v 0 ∙ sym (ap length e)

-- ---- ways out

abbrev pub ExitLeads : (n l : ℕ) → Exit → Type 0
ExitLeads n l (leads to) = Leads n l to
ExitLeads n l leaves = Unit {0}

abbrev pub ReturnLeads : (n l : ℕ) → ReturnWay → Type 0
ReturnLeads n l at_once = Unit {0}
ReturnLeads n l (behind_ends to) = Leads n l to

pub record ExitsLead (n l : ℕ) (x : Exits) : Type 0 where
  pub on_break : ExitLeads n l x.on_break
  pub on_continue : ExitLeads n l x.on_continue
  pub on_return : ReturnLeads n l x.on_return

pub exit_later : {n m l k : ℕ} (e : Exit) → n ≤ m → l ≤ k → ExitLeads n l e → ExitLeads m k e
exit_later (leads to) h g x = leads_later to h g x
exit_later leaves h g x = tt

pub return_later : {n m l k : ℕ} (e : ReturnWay) → n ≤ m → l ≤ k → ReturnLeads n l e → ReturnLeads m k e
return_later at_once h g x = tt
return_later (behind_ends to) h g x = leads_later to h g x

pub exits_later : {n m l k : ℕ} (x : Exits) → n ≤ m → l ≤ k → ExitsLead n l x → ExitsLead m k x
exits_later x h g e = record {
  on_break = exit_later x.on_break h g e.on_break;
  on_continue = exit_later x.on_continue h g e.on_continue;
  on_return = return_later x.on_return h g e.on_return;
}

module _ (c : Prices) (most : ℕ) (kinds : List Bool) (sizes : List ℕ) where
  -- code with its labels: those that are new lead to steps
  pub record Made (paid : ℕ) (code : Steps) (labels : List ℕ) (whole : Steps) (wide : List ℕ) : Type 0 where
    pub longer : length code ≤ length whole
    pub cost : price_of_all c whole ≤ paid + price_of_all c code
    pub more : List ℕ
    pub is : wide ≡ labels ++ more
    -- each stands before a step of its own
    pub few : length more + length code ≤ length whole
    pub set : Each (Starts whole) more
    pub ends : (k : ℕ) → k ≤ length code → left k whole ≡ left k code
    pub sound : AllFit c most kinds sizes (length labels) code → AllFit c most kinds sizes (length wide) whole

  pub wider : {paid : ℕ} {code whole : Steps} {labels wide : List ℕ} → Made paid code labels whole wide → length labels ≤ length wide
  wider {labels = labels} {wide = wide} a =
      let h = longer_list labels a.more in
      let e : length wide ≡ length (labels ++ a.more) = ap length a.is in omega (arith, h, e)

  pub unmade : {code : Steps} {labels : List ℕ} → Made 0 code labels code labels
  unmade {labels = labels} = record { longer = omega arith; cost = omega arith; more = []; is = no_more labels; few = omega arith; set = tt; ends = λ k h. refl; sound = λ a. a }

  pub made : {r w : ℕ} {code whole : Steps} (labels : List ℕ) → Grows.Grows c most kinds sizes (length labels) r w code whole → Made w code labels whole labels
  made labels a =
      record {
        longer =
            a.longer;
        cost = (let x = a.cost in omega (arith, x));
        more = [];
        is = no_more labels;
        few =
            (let x = a.longer in omega (arith, x));
        set = tt;
        ends = a.ends;
        sound = a.sound;
      }

  pub next : {v w : ℕ} {code middle whole : Steps} {labels between wide : List ℕ} → Made v code labels middle between → Made w middle between whole wide
      → Made (v + w) code labels whole wide
  next {middle = middle} {whole = whole} {labels = labels} a b = record {
    longer = (let x = a.longer in let y = b.longer in omega (arith, x, y));
    cost = (let x = a.cost in let y = b.cost in omega (arith, x, y));
    more = a.more ++ b.more;
    is = b.is ∙ ap (λ (e : List ℕ). e ++ b.more) a.is ∙ and_more labels a.more b.more;
    few = (let x = a.few in let y = b.few in let z = both_lengths a.more b.more in omega (arith, x, y, z));
    set = each_append (Starts whole) a.more b.more (starts_later middle whole b.longer b.ends a.more a.set) b.set;
    ends = λ k h. b.ends k (let x = a.longer in omega (arith, h, x)) ∙ a.ends k h;
    sound = λ z. b.sound (a.sound z);
  }

  pub pay : {v w : ℕ} {code whole : Steps} {labels wide : List ℕ} → v ≤ w → Made v code labels whole wide → Made w code labels whole wide
  pay h a = record { longer = a.longer; cost = (let x = a.cost in omega (arith, x, h)); more = a.more; is = a.is; few = a.few; set = a.set; ends = a.ends; sound = a.sound }

  -- what is made of any code, with its ways out
  abbrev pub Makes : (paid : ℕ) → (Exits → Out → Out) → Type 0
  Makes paid make = (x : Exits) (out : Out) → 0 < length out.code → ExitsLead (length out.code) (length out.labels) x
      → Made paid out.code out.labels (make x out).code (make x out).labels

  -- ---- scopes

  module _ (p : ProgramData) (g : ℕ) (locals : List Local) (roomy : length locals < most) (are : kinds ≡ map (λ l. l.block) locals)
      (sized : sizes ≡ map (λ l. size_at p l.ty) locals) where
    abbrev Adds : (labels : ℕ) → (paid : ℕ) → (code whole : Steps) → Type 0
    Adds labels paid = Grows.Grows c most kinds sizes labels 0 paid

    local_below : (x : ℕ) (l : Local) → slice_get locals x ≡ Some l → x < most
    local_below x l e = Parts.local_below c most 0 p locals (omega (arith, roomy)) x l e

    is_block : (x : ℕ) (l : Local) → slice_get locals x ≡ Some l → l.block ≡ true → slice_get kinds x ≡ Some true
    is_block x l e b =
        subst (λ (all : List Bool). slice_get all x ≡ Some true) (sym are) (Parts.block_is c most 0 p locals (omega (arith, roomy)) x l e b)

    own_size : (x : ℕ) (l : Local) → slice_get locals x ≡ Some l → slice_get sizes x ≡ Some (size_at p l.ty)
    own_size x l e = subst (λ (all : List ℕ). slice_get all x ≡ Some (size_at p l.ty)) (sym sized) (Parts.own_size c most 0 p locals (omega (arith, roomy)) x l e)

    is_open : (x : ℕ) (l : Local) → slice_get locals x ≡ Some l → l.block ≡ false → Grows.Open c most kinds sizes x
    is_open x l e b =
        subst (λ (all : List Bool). slice_get all x ≢ Some true) (sym are) (Parts.named_is_open c most 0 p locals (omega (arith, roomy)) x l e b)

    begin_grows : (labels x : ℕ) (o : Option Local) → slice_get locals x ≡ o → (code : Steps) → Adds labels c.step code (begin_code p g locals o x code)
    begin_grows labels x None e code = Grows.pay c most kinds sizes labels (omega arith) (Grows.same c most kinds sizes labels)
    begin_grows labels x (Some l) e code = by_block l.block refl
      where
        by_block : (b : Bool) → l.block ≡ b → Adds labels c.step code (if b then S.Begin x (size_at p l.ty) ∷ code else S.Clear x ∷ code)
        by_block true b =
            let h = local_below x l e in Grows.one c most kinds sizes labels (S.Begin x (size_at p l.ty)) code tt (omega (arith, h)) (tt, (is_block x l e b, own_size x l e))
        by_block false b = let h = local_below x l e in Grows.one c most kinds sizes labels (S.Clear x) code tt (omega (arith, h)) (is_open x l e b, tt)

    begins_grow : (labels : ℕ) (own : List ℕ) (code : Steps) → Adds labels (each c.step own) code (begins_code p g locals own code)
    begins_grow labels [] code = Grows.same c most kinds sizes labels
    begins_grow labels (x ∷ more) code =
        Grows.pay c most kinds sizes labels (omega arith) (Grows.next c most kinds sizes labels (begins_grow labels more code)
        (begin_grows labels x (slice_get locals x) refl (begins_code p g locals more code)))

    end_grows : (labels x : ℕ) (o : Option Local) → slice_get locals x ≡ o → (code : Steps) → Adds labels c.step code (end_code p g locals o x code)
    end_grows labels x None e code = Grows.pay c most kinds sizes labels (omega arith) (Grows.same c most kinds sizes labels)
    end_grows labels x (Some l) e code = by_block l.block refl
      where
        by_block : (b : Bool) → l.block ≡ b → Adds labels c.step code (if b then S.End x ∷ code else code)
        by_block true b = let h = local_below x l e in Grows.one c most kinds sizes labels (S.End x) code tt (omega (arith, h)) (tt, is_block x l e b)
        by_block false b = Grows.pay c most kinds sizes labels (omega arith) (Grows.same c most kinds sizes labels)

    ends_grow : (labels : ℕ) (own : List ℕ) (code : Steps) → Adds labels (each c.step own) code (ends_code p g locals own code)
    ends_grow labels [] code = Grows.same c most kinds sizes labels
    ends_grow labels (x ∷ more) code =
        Grows.pay c most kinds sizes labels (omega arith) (Grows.next c most kinds sizes labels (ends_grow labels more code)
        (end_grows labels x (slice_get locals x) refl (ends_code p g locals more code)))

    pub fallen_below : top_if_any (fallen p g locals) ≤ most
    fallen_below = by_main (g == p.main)
      where
        by_main : (b : Bool) → top_if_any (if b then Some (O.Word 0) else None) ≤ most
        by_main true = omega arith
        by_main false = omega arith

    pub exit_grows : (labels : ℕ) (e : Exit) (code : Steps) → ExitLeads (length code) labels e → Adds labels c.step code (exit_code p g locals e code)
    exit_grows labels (leads to) code h = Grows.one c most kinds sizes labels (S.Jump to) code h (omega arith) (tt, tt)
    exit_grows labels leaves code h = Grows.one c most kinds sizes labels (S.Return (fallen p g locals)) code tt fallen_below (tt, tt)

    pub back_grows : (labels : ℕ) (e : ReturnWay) (code : Steps) → ReturnLeads (length code) labels e → Adds labels c.step code (back_code p g locals e code)
    back_grows labels at_once code h = Grows.one c most kinds sizes labels (S.ReturnHeld (length locals)) code tt (omega (arith, roomy)) (tt, tt)
    back_grows labels (behind_ends to) code h = Grows.one c most kinds sizes labels (S.Jump to) code h (omega arith) (tt, tt)

    -- the ends of blocks, four times, with three ways out and the way through
    abbrev pub scope_price : (blocks : Bool) → List ℕ → ℕ
    scope_price true own = 4 * c.step + 4 * each c.step own
    scope_price false own = 0

    pub scope_grows : (own : List ℕ) (paid : ℕ) (make : Exits → Out → Out) → Makes paid make → (blocks : Bool)
        → Makes (scope_price blocks own + paid) (scope_code p g locals blocks own make)
    scope_grows own paid make makes false x out n e = pay (omega arith) (makes x out n e)
    scope_grows own paid make makes true x out n e =
        let l = length out.labels in
        let last = by (ends_code p g locals own) out in
        let a = ends_grow l own out.code in
        let al = a.longer in
        let b = back_grows l x.on_return last.code (return_later x.on_return al (omega arith) e.on_return) in
        let bl = b.longer in
        let d = ends_grow l own (back_code p g locals x.on_return last.code) in
        let dl = d.longer in
        let returned = return_end p g locals own x last in
        let f = exit_grows l x.on_continue returned.code (exit_later x.on_continue (omega (arith, al, bl, dl)) (omega arith) e.on_continue) in
        let fl = f.longer in
        let h = ends_grow l own (exit_code p g locals x.on_continue returned.code) in
        let hl = h.longer in
        let continued = continue_end p g locals own x returned in
        let i = exit_grows l x.on_break continued.code (exit_later x.on_break (omega (arith, al, bl, dl, fl, hl)) (omega arith) e.on_break) in
        let il = i.longer in
        let j = ends_grow l own (exit_code p g locals x.on_break continued.code) in
        let jl = j.longer in
        let broken = break_end p g locals own x continued in
        let m = Grows.one c most kinds sizes l (S.Jump (here last)) broken.code (omega (arith, n, al), omega (arith, bl, dl, fl, hl, il, jl)) (omega arith)
        (tt, tt) in
        let whole = before (S.Jump (here last)) broken in
        let grown = Grows.next c most kinds sizes l (Grows.next c most kinds sizes l (Grows.next c most kinds sizes l
        (Grows.next c most kinds sizes l (Grows.next c most kinds sizes l (Grows.next c most kinds sizes l
        (Grows.next c most kinds sizes l a b) d) f) h) i) j) m in
        pay (omega arith) (next (made out.labels grown)
        (makes (record { on_break = leads (here broken); on_continue = leads (here continued); on_return = behind_ends (here returned) }) whole (omega arith)
        (record {
          on_break = (omega (arith, n, al, bl, dl, fl, hl, il, jl), omega arith);
          on_continue = (omega (arith, n, al, bl, dl, fl, hl), omega (arith, il, jl));
          on_return = (omega (arith, n, al, bl, dl), omega (arith, fl, hl, il, jl));
        })))

    -- a scope pays for eight steps for each local
    abbrev pub scope : List ℕ → ℕ
    scope own = c.step + 8 * each c.step own

    scope_is_paid : (own : List ℕ) → scope_price (have_blocks p g locals own) own + each c.step own ≤ scope own
    scope_is_paid [] = omega arith
    scope_is_paid (x ∷ more) = by_blocks (have_blocks p g locals (x ∷ more))
      where
        by_blocks : (b : Bool) → scope_price b (x ∷ more) + each c.step (x ∷ more) ≤ scope (x ∷ more)
        by_blocks true = omega arith
        by_blocks false = omega arith

    pub scoped_grows : (own : List ℕ) (paid : ℕ) (make : Exits → Out → Out) → Makes paid make → Makes (scope own + paid) (scoped_code p g locals own make)
    scoped_grows own paid make makes x out n e =
        let a = scope_grows own paid make makes (have_blocks p g locals own) x out n e in
        let inner = scope_code p g locals (have_blocks p g locals own) own make x out in
        let h = scope_is_paid own in
        pay (omega (arith, h)) (next a (made inner.labels (begins_grow (length inner.labels) own inner.code)))

    -- ---- loops

    pub round_grows : (test : Target → Steps → Steps) (step : Steps → Steps) (enters : Target → Steps → Steps)
        (body : (on_break on_continue : Target) → Out → Out) (v w u : ℕ)
        → ((labels : ℕ) (to : Target) (code : Steps) → Leads (length code) labels to → 0 < length code → Adds labels v code (test to code))
        → ((labels : ℕ) (code : Steps) → 0 < length code → Adds labels w code (step code))
        → ((labels : ℕ) (to : Target) (code : Steps) → Leads (length code) labels to → Adds labels c.step code (enters to code))
        → (out : Out) → 0 < length out.code
        → ((b k : Target) (inner : Out) → length out.code ≤ length inner.code → length out.labels ≤ length inner.labels
        → Leads (length inner.code) (length inner.labels) b → Leads (length inner.code) (length inner.labels) k
        → Made u inner.code inner.labels (body b k inner).code (body b k inner).labels)
        → Made (2 * c.step + v + w + u) out.code out.labels (round p g locals test step enters body out).code
        (round p g locals test step enters body out).labels
    round_grows test step enters body v w u tests steps enter out n bodies =
        let l = length out.labels in
        let tested = by (test (To.Label l)) (with_label out) in
        let stepped = by step tested in
        let inner = body (here out) (here stepped) stepped in
        let one_more = one_longer out.labels 0 in
        let k = length (out.labels ++ 0 ∷ []) in
        let a = tests k (To.Label l) out.code (omega (arith, one_more)) n in
        let al = a.longer in
        let b = steps k tested.code (omega (arith, n, al)) in
        let bl = b.longer in
        let d = bodies (here out) (here stepped) stepped (omega (arith, al, bl)) (omega (arith, one_more)) (n, omega (arith, al, bl))
        (omega (arith, n, al, bl), omega arith) in
        let dl = d.longer in
        let m = length inner.labels in
        let f = Grows.one c most kinds sizes m (S.Began g (inner.loops - 1)) inner.code tt (omega arith) (tt, tt) in
        let begun = S.Began g (inner.loops - 1) ∷ inner.code in
        let h = enter m (here tested) begun (omega (arith, n, al), omega (arith, bl, dl)) in
        let hl = h.longer in
        let last : (k : ℕ) → k ≤ length inner.code → left k (enters (here tested) begun) ≡ left k inner.code
        = λ k z. h.ends k (omega (arith, z)) ∙ f.ends k z in
        let as_many = as_many_labels out.labels d.more inner.labels (length begun) d.is in
        record {
          longer = omega (arith, al, bl, dl, hl);
          cost = (let x = a.cost in let y = b.cost in let z = d.cost in let i = h.cost in omega (arith, x, y, z, i));
          more = length begun ∷ d.more;
          is = label_set out.labels d.more inner.labels (length begun) d.is;
          few = (let x = d.few in omega (arith, al, bl, hl, x));
          set = (
            ((omega arith, hl), subst (λ (rest : Steps). TakesTurn rest) (sym (h.ends (length begun) (omega arith) ∙ at_front begun)) refl),
            starts_later inner.code (enters (here tested) begun) (omega (arith, hl)) last d.more d.set,
          );
          ends = λ k z. last k (omega (arith, z, al, bl, dl)) ∙ d.ends k (omega (arith, z, al, bl)) ∙ b.ends k (omega (arith, z, al)) ∙ a.ends k z;
          sound = λ z. fit_later c most kinds sizes (enters (here tested) begun) (omega (arith, as_many))
              (h.sound (f.sound (d.sound (b.sound (a.sound (fit_later c most kinds sizes out.code (omega (arith, one_more)) z))))));
        }
