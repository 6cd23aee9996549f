-- Numbers are promoted, and what is no number stays as it is.
use Rattle.std.proofs.Common.{◌≡◌, None, Some, true, false, refl, rules, sym, ap}
use Rattle.std.specs.Prelude.{if◌then◌else◌, unwrap_or}
use Rattle.c_types.specs.declared.ty.IntKind.{IntKind}
use Rattle.c_types.specs.Types.{CType, void, integer}
use Rattle.c_types.specs.Sameness.{same_type}
use Rattle.c_types.proofs.SameTypes.{same_self}
use Rattle.c_typed.specs.Trees
use Rattle.c_typed.specs.Conversions.{promoted}
use Rattle.c_typed.specs.Rules.{promoting}
use Rattle.c_erasure.specs.Noted.{Expression, type_of, value}
use Rattle.c_annotated.specs.Trees as Tree
use Rattle.c_typed.specs.declared.expression.Expression.{the_lemmas}
use Rattle.c_annotated.specs.Views.{expression_of}
use Rattle.c_types.specs.Views as View
use Rattle.c_erasure.specs.Checking.Nodes.{place_of, converted, promoted_value}

same_promoted : (t : CType) → None ≡ promoting t → same_type t (promoted t) ≡ true
same_promoted (integer kind) h = cc
same_promoted t h = same_self t t refl

pub promoted_other : (x : Expression) → None ≡ promoting (type_of x) → x ≡ promoted_value x
promoted_other x h =
    ap (λ b. if b then x else value (promoted (type_of x)) (place_of x) (Trees.convert x false)) (sym (same_promoted (type_of x) h))

promoted_is : (t : CType) (kind : IntKind) → Some (integer kind) ≡ promoting t → integer kind ≡ promoted t
promoted_is (integer k) kind h = ap (λ o. unwrap_or o void) h
promoted_is t kind h = cc

pub promoted_number : (x : Expression) (kind : IntKind) → Some (integer kind) ≡ promoting (type_of x) → converted (integer kind) x ≡ promoted_value x
promoted_number x kind h = ap (λ t. converted t x) (promoted_is (type_of x) kind h)

pub type_seen : (e : Tree.Expression) → View.type_of e.ty.ty ≡ type_of (expression_of e)
type_seen e = search (rules, the_lemmas)
