-- What the checker answers where what holds of the places of all tokens of a tree holds of those that a fault names.
use Rattle.std.proofs.Common.{◌≡◌, ℕ, zero, suc, Bool, true, false, cond, List, [], ◌∷◌, ◌++◌, take, drop}
use Rattle.std.specs.Prelude.{Option, Some, None, Ok, Err}
use Rattle.std.specs.List.{AllByRecursion}
use Rattle.lay_base.specs.declared.place.Place.{Place}
use Rattle.lay_base.specs.declared.faults.Rule.{Rule}
use Rattle.c_types.specs.Types.{Field}
use Rattle.c_erasure.specs.Broken.{Fault}
use Rattle.c_erasure.specs.Scopes.{FileScope, Scope, Purpose, inside, with_purpose}
use Rattle.c_erasure.specs.Checking.Answers.{Answer, ◌>>=◌, refused, with_file, moved}
use Rattle.c_erasure.specs.Checking.Nodes.{or_else}
use Rattle.c_checking_units.specs.FaultPlaces.Places.{Stands}

-- ---- answers

abbrev pub GivesAs : {A : Type 0} → (ℕ → Type 0) → (A → Type 0) → Answer A → Type 0
GivesAs P Q (Ok x) = Q x
GivesAs P Q (Err f) = Stands P f

-- what is found is so, or the fault's places are
pub record Gives {A : Type 0} (P : ℕ → Type 0) (Q : A → Type 0) (r : Answer A) : Type 0 where
  pub given : GivesAs P Q r

abbrev pub Any : {A : Type 0} → A → Type 0
Any x = Unit {0}

-- a fault, where there is one, stands at such places
abbrev pub Stops : {A : Type 0} → (ℕ → Type 0) → Answer A → Type 0
Stops P r = Gives P Any r

pub found : {A : Type 0} {P : ℕ → Type 0} {Q : A → Type 0} (x : A) → Q x → Gives P Q (Ok x)
found x q = record { given = q }

pub fails : {A : Type 0} {P : ℕ → Type 0} {Q : A → Type 0} (f : Fault) → Stands P f → Gives P Q (Err f)
fails f p = record { given = p }

pub refuses : {A : Type 0} {P : ℕ → Type 0} {Q : A → Type 0} (rule : Rule) (at : ℕ) → P at → Gives P Q (refused rule at)
refuses rule at p = record { given = p }

pub then : {A B : Type 0} {P : ℕ → Type 0} {Q : A → Type 0} {R : B → Type 0} (r : Answer A) (k : A → Answer B) → Gives P Q r
    → ((x : A) → Q x → Gives P R (k x)) → Gives P R (r >>= k)
then (Ok x) k p n = n x p.given
then (Err f) k p n = record { given = p.given }

pub weaker : {A : Type 0} {P : ℕ → Type 0} {Q R : A → Type 0} (r : Answer A) → Gives P Q r → ((x : A) → Q x → R x) → Gives P R r
weaker (Ok x) p n = record { given = n x p.given }
weaker (Err f) p n = record { given = p.given }

pub chosen : {A : Type 0} {P : ℕ → Type 0} {Q : A → Type 0} (b : Bool) (x y : Answer A) → Gives P Q x → Gives P Q y → Gives P Q (cond b x y)
chosen true x y p q = p
chosen false x y p q = q

pub by_option : {A B : Type 0} {P : ℕ → Type 0} {Q : B → Type 0} (o : Option A) (k : A → Answer B) (r : Answer B) → ((x : A) → Gives P Q (k x)) → Gives P Q r
    → Gives P Q (or_else o k r)
by_option None k r p q = q
by_option (Some x) k r p q = p x

-- ---- what stands in a file at such places

pub record IsAt (number : ℕ) (P : ℕ → Type 0) (place : Place) : Type 0 where
  pub file : place.file ≡ number
  pub at : P place.at

abbrev pub AreFieldsAt : ℕ → (ℕ → Type 0) → List Field → Type 0
AreFieldsAt number P fields = AllByRecursion (λ f. IsAt number P f.place) fields

pub record AreAt (number : ℕ) (P : ℕ → Type 0) (f : FileScope) : Type 0 where
  pub file : f.file ≡ number
  pub names : AllByRecursion (λ b. P b.place) f.names
  pub tags : AllByRecursion (λ t. P t.place) f.tags
  pub records : AllByRecursion (λ r. IsAt number P r.place) f.records
  pub fields : AllByRecursion (λ r. AreFieldsAt number P r.fields) f.records
  pub objects : AllByRecursion (λ o. IsAt number P o.place) f.objects
  pub functions : AllByRecursion (λ g. IsAt number P g.place) f.functions
  pub mentions : AllByRecursion (λ m. P m.at) f.mentions

pub record IsIn (number : ℕ) (P : ℕ → Type 0) (s : Scope) : Type 0 where
  pub file : AreAt number P s.file
  pub blocks : AllByRecursion (λ block. AllByRecursion (λ b. P b.place) block) s.blocks

pub is_moved : {number : ℕ} {P : ℕ → Type 0} {s : Scope} {f : FileScope} → IsIn number P s → AreAt number P f → IsIn number P (moved s f)
is_moved p q = record { file = q; blocks = p.blocks }

pub is_inside : {number : ℕ} {P : ℕ → Type 0} {s : Scope} → IsIn number P s → IsIn number P (inside s)
is_inside p = record { file = p.file; blocks = (tt, p.blocks) }

pub for_purpose : {number : ℕ} {P : ℕ → Type 0} (purpose : Purpose) {s : Scope} → IsIn number P s → IsIn number P (with_purpose purpose s)
for_purpose purpose p = record { file = p.file; blocks = p.blocks }

-- ---- answers beside a file

abbrev pub InFile : {A : Type 0} → ℕ → (ℕ → Type 0) → A × FileScope → Type 0
InFile number P z = AreAt number P z.1

pub beside : {A : Type 0} {number : ℕ} {P : ℕ → Type 0} (f : FileScope) (r : Answer A) → AreAt number P f → Stops P r
    → Gives P (InFile number P) (with_file f r)
beside f (Ok x) p q = record { given = p }
beside f (Err e) p q = record { given = q.given }

-- ... and what follows it
pub beside_then : {A B : Type 0} {P : ℕ → Type 0} {Q : A → Type 0} {R : B → Type 0} (f : FileScope) (r : Answer A) (k : A × FileScope → Answer B)
    → Gives P Q r → ((x : A) → Q x → Gives P R (k (x, f))) → Gives P R (with_file f r >>= k)
beside_then f (Ok x) k p n = n x p.given
beside_then f (Err e) k p n = record { given = p.given }

-- ---- lists

pub all_one : {A : Type 0} (Q : A → Type 0) (all : List A) (x : A) → AllByRecursion Q all → Q x → AllByRecursion Q (all ++ x ∷ [])
all_one Q [] x p q = (q, tt)
all_one Q (y ∷ all) x p q = (p.0, all_one Q all x p.1 q)

pub all_both : {A : Type 0} (Q : A → Type 0) (all more : List A) → AllByRecursion Q all → AllByRecursion Q more → AllByRecursion Q (all ++ more)
all_both Q [] more p q = q
all_both Q (y ∷ all) more p q = (p.0, all_both Q all more p.1 q)

-- also where one is put between others
pub all_put : {A : Type 0} (Q : A → Type 0) (n : ℕ) (all : List A) (x : A) → AllByRecursion Q all → Q x → AllByRecursion Q (take n all ++ x ∷ drop n all)
all_put Q zero [] x p q = (q, tt)
all_put Q (suc n) [] x p q = (q, tt)
all_put Q zero (y ∷ all) x p q = (q, p)
all_put Q (suc n) (y ∷ all) x p q = (p.0, all_put Q n all x p.1 q)
