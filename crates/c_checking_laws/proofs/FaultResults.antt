-- What a fault says of the steps before it, and where a rule is broken.
use Rattle.std.proofs.Common.{◌≡◌, ℕ, ◌+◌, Bool, true, false, refl, sym, ap, ◌∙◌, subst, cond, List, [], ◌∷◌, ◌++◌, length, append-nil, inl, inr, arith}
use Rattle.std.specs.Prelude.{Option, Some, None, Ok, Err, ◌⊎◌}
use Rattle.lay_base.specs.declared.faults.Rule.{Rule}
use Rattle.c_erasure.specs.Broken.{Fault, ill_typed}
use Rattle.c_erasure.specs.Marks.{Mark, a_tag}
use Rattle.c_erasure.specs.Scopes.{Tag, FileScope, Scope, inside, measured, for_value, is_measured}
use Rattle.c_erasure.specs.Checking.Answers.{Answer, ◌>>=◌, refused, with_file, moved}
use Rattle.c_erasure.specs.Checking.Nodes.{or_else}
use Rattle.c_checking_laws.proofs.Extends.{Extends, itself, further}
use Rattle.c_checking_laws.proofs.Settled.{Settles}
use Rattle.c_checking_laws.proofs.Agreement.{added, Grew}
use Rattle.c_checking_laws.proofs.Adding.{Grows, makes_none, value_measures, value_makes_none}
use Rattle.c_checking_laws.proofs.Within.{Additions, both, Within, within_nothing, within_all, within_left, within_then, within_tag, within_said}
use Rattle.c_checking_laws.proofs.Within.{within_measured, within_value, within_inside, ArePicked, picked_same}

abbrev pub bad : (A : Type 0) → Fault → Answer A
bad A f = Err f

pub same_fault : (A : Type 0) (e f : Fault) → bad A e ≡ Err f → f ≡ e
same_fault A e f h = cc

-- ---- which of the steps stopped

pub bound_err : {A B : Type 0} (r : Answer A) (k : A → Answer B) (f : Fault) (P : Type 0) → (r >>= k) ≡ Err f → (r ≡ Err f → P)
    → ((x : A) → r ≡ Ok x → k x ≡ Err f → P) → P
bound_err (Ok x) k f P h p q = q x refl h
bound_err {A} {B} (Err e) k f P h p q = let g : e ≡ f = cc in p (ap (λ e. bad A e) g)

pub with_file_err : {A : Type 0} (g : FileScope) (r : Answer A) (f : Fault) → with_file g r ≡ Err f → r ≡ Err f
with_file_err g (Ok x) f h = cc
with_file_err {A} g (Err e) f h = let i : e ≡ f = cc in ap (λ e. bad A e) i

-- beside a file
pub beside_err : {A B : Type 0} (g : FileScope) (r : Answer A) (k : A × FileScope → Answer B) (f : Fault) (P : Type 0) → (with_file g r >>= k) ≡ Err f
    → (r ≡ Err f → P) → ((x : A) → r ≡ Ok x → k (x, g) ≡ Err f → P) → P
beside_err g (Ok x) k f P h p q = q x refl h
beside_err {A} g (Err e) k f P h p q = let i : e ≡ f = cc in p (ap (λ e. bad A e) i)

pub chosen_err : {A : Type 0} (b : Bool) (x z : Answer A) (f : Fault) (P : Type 0) → cond b x z ≡ Err f → (b ≡ true → x ≡ Err f → P)
    → (b ≡ false → z ≡ Err f → P) → P
chosen_err true x z f P h p q = p refl h
chosen_err false x z f P h p q = q refl h

-- what is refused unless a test holds, where it would not stop
pub unless_err : {A : Type 0} (b : Bool) (x : A) (rule : Rule) (at : ℕ) (f : Fault) → cond b (Ok x) (refused rule at) ≡ Err f
    → (b ≡ false) × (f ≡ ill_typed rule at)
unless_err true x rule at f h = cc
unless_err {A} false x rule at f h = (refl, same_fault A (ill_typed rule at) f h)

pub option_err : {A B : Type 0} (o : Option A) (k : A → Answer B) (r : Answer B) (f : Fault) (P : Type 0) → or_else o k r ≡ Err f
    → ((x : A) → o ≡ Some x → k x ≡ Err f → P) → (o ≡ None → r ≡ Err f → P) → P
option_err (Some x) k r f P h p q = p x refl h
option_err None k r f P h p q = q refl h

-- ---- a file that goes on from the one of the scope, in which something is so

-- a file to which a first part of these additions is added, as a scope adds them
abbrev pub Up : Scope → Additions → FileScope → Type 0
Up s all g = Within s.file s.is_inside (is_measured s.purpose) (makes_none s.purpose) all g

-- each such file is one of those in which reading may stop
abbrev pub Allows : (May : FileScope → Type 0) → Scope → Additions → Type 0
Allows May s all = (g : FileScope) → Up s all g → May g

pub allows_left : (May : FileScope → Type 0) (s : Scope) (p q : Additions) → Allows May s (both p q) → Allows May s p
allows_left May s p q m = λ g w. m g (within_left p q w)

-- what is read behind a part
pub allows_right : (May : FileScope → Type 0) (s : Scope) {u : List Mark} {x made : List ℕ} {f : FileScope} (q : Additions) → Grows s u x made f
    → Allows May s (both (record { marks = u; said = x; made = made }) q) → Allows May (moved s f) q
allows_right May s {u} {x} {made} {f} q p m = λ g w. m g (within_then made q p (picked_same made) w)

pub allows_tag : (May : FileScope → Type 0) (s : Scope) (t : Tag) (p : Additions)
    → Allows May s (record { marks = a_tag t ∷ p.marks; said = p.said; made = p.made }) → Allows May s p
allows_tag May s t p m = λ g w. m g (within_tag t p w)

pub allows_said : (May : FileScope → Type 0) (s : Scope) (at : ℕ) (p : Additions)
    → Allows May s (record { marks = p.marks; said = at ∷ p.said; made = p.made }) → Allows May s p
allows_said May s at p m = λ g w. m g (within_said at p w)

-- marks behind those of a type
pub allows_marks : (May : FileScope → Type 0) (s : Scope) (u v : List Mark) (x : List ℕ)
    → Allows May s (record { marks = u ++ v; said = x; made = [] }) → Allows May s (record { marks = u; said = x; made = [] })
allows_marks May s u v x m =
    allows_left May s (record { marks = u; said = x; made = [] }) (record { marks = v; said = []; made = [] })
    (subst (λ x. Allows May s (record { marks = u ++ v; said = x; made = [] })) (sym (append-nil x)) m)

pub allows_measured : (May : FileScope → Type 0) (s : Scope) (u : List Mark) (x k y l : List ℕ)
    → Allows May s (record { marks = u; said = y; made = l }) → Allows May (measured s) (record { marks = u; said = x; made = k })
allows_measured May s u x k y l m = λ g w. m g (within_measured y l w)

-- what is not evaluated makes no objects
pub allows_value : (May : FileScope → Type 0) (s : Scope) (u : List Mark) (x k l : List ℕ)
    → Allows May s (record { marks = u; said = x; made = l }) → Allows May (for_value s) (record { marks = u; said = x; made = k })
allows_value May s u x k l m =
    λ g w. m g (within_value l (value_measures s.purpose)
    (subst (λ c. Within s.file s.is_inside (is_measured (for_value s).purpose) c (record { marks = u; said = x; made = k }) g) (value_makes_none s.purpose) w))

-- inside of functions and parameter lists no names and structures are added
pub allows_inside : (May : FileScope → Type 0) (s : Scope) (u v : List Mark) (x k : List ℕ)
    → Allows May s (record { marks = v; said = x; made = k }) → Allows May (inside s) (record { marks = u; said = x; made = k })
allows_inside May s u v x k m = λ g w. m g (within_inside v refl w)

pub allows_there : (May : FileScope → Type 0) (s : Scope) → s.is_inside ≡ true → (u v : List Mark) (x k : List ℕ)
    → Allows May s (record { marks = v; said = x; made = k }) → Allows May s (record { marks = u; said = x; made = k })
allows_there May s i u v x k m = λ g w. m g (within_inside v i w)

-- a file that goes on from another one, in which reading may stop: inside of functions it has no more structures
pub record Reaches (May : FileScope → Type 0) (f : FileScope) (is_inside : Bool) (g : FileScope) : Type 0 where
  pub extends : Extends f g
  pub counted : is_inside ≡ true → length g.records ≡ length f.records
  pub settled : Settles f g
  pub allowed : (g ≡ f) ⊎ May g

pub reaches_itself : (May : FileScope → Type 0) (f : FileScope) (i : Bool) → Reaches May f i f
reaches_itself May f i = record { extends = itself f; counted = λ e. refl; settled = λ h. h; allowed = inl refl }

pub reaches_then : {May : FileScope → Type 0} {f g h : FileScope} {i : Bool} → Reaches May f i g → Reaches May g i h → Reaches May f i h
reaches_then {May} {f} {g} {h} {i} p q = record {
  extends = further p.extends q.extends;
  counted = λ e. q.counted e ∙ p.counted e;
  settled = λ h. q.settled (p.settled h);
  allowed = by_part p.allowed q.allowed;
}
  where
    by_part : (g ≡ f) ⊎ May g → (h ≡ g) ⊎ May h → (h ≡ f) ⊎ May h
    by_part (inl d) (inl e) = inl (e ∙ d)
    by_part (inr m) (inl e) = inr (subst May (sym e) m)
    by_part p (inr m) = inr m

-- inside of a parameter list more is asked
pub reaches_outside : {May : FileScope → Type 0} {f g : FileScope} (i : Bool) → Reaches May f true g → Reaches May f i g
reaches_outside i p = record { extends = p.extends; counted = λ e. p.counted refl; settled = p.settled; allowed = p.allowed }

-- where a part of the text is read, of whose literals some are made no objects
pub reached_some : (May : FileScope → Type 0) (s : Scope) {u v : List Mark} {x made : List ℕ} {g : FileScope} (k : List ℕ) → Grew s u g
    → Grows s v x made g → ArePicked made k → Allows May s (record { marks = v; said = x; made = k }) → Reaches May s.file s.is_inside g
reached_some May s {u} {v} {x} {made} {g} k p q picked m = record {
  extends = p.extends;
  counted = λ i.
      let c : length g.records ≡ length s.file.records + added true u =
      subst (λ b. length g.records ≡ length s.file.records + added b u) i p.counted in
      omega (arith, c);
  settled = p.settled;
  allowed = inr (m g (within_all k q picked));
}

-- where all of them are
pub reached : (May : FileScope → Type 0) (s : Scope) {u v : List Mark} {x made : List ℕ} {g : FileScope} → Grew s u g → Grows s v x made g
    → Allows May s (record { marks = v; said = x; made = made }) → Reaches May s.file s.is_inside g
reached May s {made = made} p q m = reached_some May s made p q (picked_same made) m

-- what the file has more than that of the scope
pub within_reached : (s : Scope) (all : Additions) {g : FileScope} → Reaches (Up s all) s.file s.is_inside g → Up s all g
within_reached s all {g} p = by_part p.allowed
  where
    by_part : (g ≡ s.file) ⊎ Up s all g → Up s all g
    by_part (inl e) = subst (Up s all) (sym e) (within_nothing s.file s.is_inside (is_measured s.purpose) (makes_none s.purpose) all)
    by_part (inr w) = w

-- and where reading goes on to from there
pub reached_later : (s : Scope) {u v : List Mark} {x made : List ℕ} {f g : FileScope} (k : List ℕ) (q : Additions) → Grew s u f → Grows s v x made f
    → ArePicked made k → Reaches (Up (moved s f) q) f s.is_inside g
    → Reaches (Up s (both (record { marks = v; said = x; made = k }) q)) s.file s.is_inside g
reached_later s {v = v} {x = x} {f = f} {g = g} k q p grows picked r =
    let all = both (record { marks = v; said = x; made = k }) q in
    let first = reached_some (Up s (record { marks = v; said = x; made = k })) s k p grows picked (λ g w. w) in
    record {
      extends = further p.extends r.extends;
      counted = λ e. r.counted e ∙ first.counted e;
      settled = λ h. r.settled (first.settled h);
      allowed = inr (within_then k q grows picked (within_reached (moved s f) q r));
    }

pub record Broken (May : FileScope → Type 0) (s : Scope) (Is : Scope → Type 0) : Type 0 where
  pub file : FileScope
  pub reaches : Reaches May s.file s.is_inside file
  pub is : Is (moved s file)

pub here : (May : FileScope → Type 0) (s : Scope) (Is : Scope → Type 0) → Is s → Broken May s Is
here May s Is h = record { file = s.file; reaches = reaches_itself May s.file s.is_inside; is = h }

pub there : (May : FileScope → Type 0) (s : Scope) (Is : Scope → Type 0) (g : FileScope) → Reaches May s.file s.is_inside g → Is (moved s g) → Broken May s Is
there May s Is g p h = record { file = g; reaches = p; is = h }

-- of a part, and so of the whole
pub whole : (May : FileScope → Type 0) (s : Scope) (Is Js : Scope → Type 0) → Broken May s Is
    → ((g : FileScope) → Extends s.file g → Is (moved s g) → Js (moved s g)) → Broken May s Js
whole May s Is Js b f = record { file = b.file; reaches = b.reaches; is = f b.file b.reaches.extends b.is }

-- of a part that is read after another
pub later : (May : FileScope → Type 0) (s : Scope) (f : FileScope) → Reaches May s.file s.is_inside f → (Is Js : Scope → Type 0) → Broken May (moved s f) Is
    → ((g : FileScope) → Extends f g → Is (moved s g) → Js (moved s g)) → Broken May s Js
later May s f p Is Js b k = record { file = b.file; reaches = reaches_then p b.reaches; is = k b.file b.reaches.extends b.is }
