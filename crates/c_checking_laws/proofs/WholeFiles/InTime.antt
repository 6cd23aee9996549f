-- Whether an initializer asks for records in time: at each byte where the value of a constant hangs on a size, no more definitions ended than the
-- file has records (C99 6.6, 6.7.8).
use Rattle.std.proofs.Common.{ℕ, ◌≤◌, subst, sym, List, length, length-append, ap, arith}
use Rattle.c_ast.specs.Trees
use Rattle.c_ast.specs.Places.{first}
use Rattle.c_erasure.specs.Scopes.{FileScope, ended}
use Rattle.c_checking_laws.proofs.Extends.{Extends}

module _ (ends : List ℕ) (n : ℕ) where
  abbrev mutual
    pub IsInTime : Trees.Expression → Type 0
    IsInTime (Trees.paren left a right) = IsInTime a
    IsInTime (Trees.index a left b right) = (ended ends (first a) ≤ n) × IsInTime a × IsInTime b
    IsInTime (Trees.dot a at x) = IsInTime a
    IsInTime (Trees.arrow a at x) = (ended ends (first a) ≤ n) × IsInTime a
    IsInTime (Trees.unary op at a) = (ended ends at ≤ n) × IsInTime a
    IsInTime (Trees.cast left m right a) = IsInTime a
    IsInTime (Trees.binary a op at b) = (ended ends (first a) ≤ n) × IsInTime a × IsInTime b
    IsInTime (Trees.braces left all comma right) = AreInTime all
    IsInTime a = Unit {0}

    pub AreInTime : Trees.Arguments → Type 0
    AreInTime Trees.no_arguments = Unit {0}
    AreInTime (Trees.and_argument comma a more) = IsInTime a × AreInTime more

-- where more records are known
mutual
  pub in_more : (ends : List ℕ) (n m : ℕ) → n ≤ m → (a : Trees.Expression) → IsInTime ends n a → IsInTime ends m a
  in_more ends n m l (Trees.paren left a right) h = in_more ends n m l a h
  in_more ends n m l (Trees.index a left b right) h = (omega (arith, l, h.0), in_more ends n m l a h.1, in_more ends n m l b h.2)
  in_more ends n m l (Trees.dot a at x) h = in_more ends n m l a h
  in_more ends n m l (Trees.arrow a at x) h = (omega (arith, l, h.0), in_more ends n m l a h.1)
  in_more ends n m l (Trees.unary op at a) h = (omega (arith, l, h.0), in_more ends n m l a h.1)
  in_more ends n m l (Trees.cast left t right a) h = in_more ends n m l a h
  in_more ends n m l (Trees.binary a op at b) h = (omega (arith, l, h.0), in_more ends n m l a h.1, in_more ends n m l b h.2)
  in_more ends n m l (Trees.braces left all comma right) h = all_in_more ends n m l all h
  in_more ends n m l a h = tt

  all_in_more : (ends : List ℕ) (n m : ℕ) → n ≤ m → (all : Trees.Arguments) → AreInTime ends n all → AreInTime ends m all
  all_in_more ends n m l Trees.no_arguments h = tt
  all_in_more ends n m l (Trees.and_argument comma a more) h = (in_more ends n m l a h.0, all_in_more ends n m l more h.1)

abbrev pub IsTimely : FileScope → Trees.Expression → Type 0
IsTimely f a = IsInTime f.ends (length f.records) a

pub timely_later : {f g : FileScope} → Extends f g → (a : Trees.Expression) → IsTimely f a → IsTimely g a
timely_later {f} {g} p a h =
    subst (λ ends. IsInTime ends (length g.records) a) (sym p.ends)
    (in_more f.ends (length f.records) (length g.records) (omega (arith, ap length p.records.1, length-append f.records p.records.0)) a h)
