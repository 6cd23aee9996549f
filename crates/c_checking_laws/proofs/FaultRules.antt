-- What a part of an expression, a declarator or an enumeration at which finding stops says of the whole.
use Rattle.std.proofs.Common.{◌≡◌, ℕ, ◌<◌, Bool, true, false, refl, sym, subst, [], ◌∷◌, inl, inr}
use Rattle.std.specs.Prelude.{◌^◌, ◌⊎◌, Option, Ok, Err}
use Rattle.lay_base.specs.declared.faults.Rule.TheVariants as R
use Rattle.c_types.specs.Types.{CType, CTypes, and_type}
use Rattle.c_types.specs.Objects.{is_object}
use Rattle.c_types.specs.Layouts.{size_of}
use Rattle.c_ast.specs.declared.words.Spelling.{Spelling}
use Rattle.c_ast.specs.Trees
use Rattle.c_ast.specs.Places.{first_specifiers, first_declarator}
use Rattle.c_erasure.specs.Broken.{Fault, ill_typed, too_big, IsThing, IsSound, IsBroken, IsBrokenIn, IsBrokenTypeName, AreBrokenEnumerators, IsBrokenValue}
use Rattle.c_erasure.specs.Broken.{AreBrokenFields, IsBrokenDeclarator, AreUnfitArguments, IsFunctionType, IsOldName, called_type}
use Rattle.c_erasure.specs.Declarators.{open_array}
use Rattle.c_erasure.specs.Erasure.{IsBase, IsOne, Declares, IsTypeName, IsNew}
use Rattle.c_erasure.specs.Marks.{a_tag}
use Rattle.c_erasure.specs.Noted.{Thing}
use Rattle.c_erasure.specs.Scopes.{FileScope, Scope, Tag, ended}
use Rattle.c_erasure.specs.Checking.Answers.{Answer, ◌>>=◌, with_file}
use Rattle.c_erasure.specs.Checking.Declaring.{new_if_named}
use Rattle.c_checking_laws.proofs.Agreement.{added}
use Rattle.c_checking_laws.proofs.Declared.{new_is}
use Rattle.c_checking_laws.proofs.Results.{with_file_ok}
use Rattle.c_checking_laws.proofs.FaultResults.{bound_err, with_file_err}
use Rattle.c_checking_laws.proofs.FaultDeclaring.{new_fault}

pub tag_ends_nothing : (b : Bool) (t : Tag) → added b (a_tag t ∷ []) ≡ 0
tag_ends_nothing true t = refl
tag_ends_nothing false t = refl

-- a name that is declared, what stands beside it, or what follows
pub new_stops : {A B : Type 0} (s : Scope) (x : Option Spelling) (g : FileScope) (r : Answer A) (k : A × FileScope → Answer B) (f : Fault) (P : Type 0)
    → (new_if_named s x (with_file g r) >>= k) ≡ Err f → (IsOldName s x f → P) → (r ≡ Err f → P)
    → (IsNew s x → (y : A) → r ≡ Ok y → k (y, g) ≡ Err f → P) → P
new_stops s x g r k f P h p q o =
    bound_err (new_if_named s x (with_file g r)) k f P h (λ e. new_fault s x (with_file g r) f P e p (λ e. q (with_file_err g r f e)))
    (λ z e h.
    let n = new_is s x (with_file g r) z e in
    let w = with_file_ok g r z n.1 in
    o n.0 z.0 w.0 (subst (λ g. k (z.0, g) ≡ Err f) (sym w.1) h))

-- ---- arguments

abbrev pub Stop : Trees.Arguments → ℕ → CTypes → Fault → Scope → Type 0
Stop all right types f s = IsBrokenIn all s f ⊎ AreUnfitArguments all s right types f

pub arguments_broken : (s : Scope) (g : Trees.Expression) (from : ℕ) (all : Trees.Arguments) (to : ℕ) (th : Thing) (types : CTypes) → IsThing g s th
    → IsFunctionType (called_type th) types → (f : Fault) → Stop all to types f s → IsBroken (Trees.call g from all to) s f
arguments_broken s g from all to th types t c f (inl b) = inr (inl ((th, t), b))
arguments_broken s g from all to th types t c f (inr b) = inr (inr (inr (types, (th, t, c), b)))

pub argument_behind : (s : Scope) (comma : Option ℕ) (a : Trees.Expression) (rest : Trees.Arguments) (to : ℕ) (t : CType) (more : CTypes) (f : Fault)
    → IsSound a s
    → Stop rest to more f s → Stop (Trees.and_argument comma a rest) to (and_type t more) f s
argument_behind s comma a rest to t more f i (inl b) = inl (inr (inr (i, b)))
argument_behind s comma a rest to t more f i (inr b) = inr (inr (i, b))

-- ---- sizes

pub size_broken : (s : Scope) (at from : ℕ) (m : Trees.TypeName) (to : ℕ) (t : CType) (f : Fault) → IsTypeName s m t
    → ((f ≡ ill_typed R.Incomplete at) × (is_object (ended s.file.ends to) t ≡ false)) ⊎ ((f ≡ too_big at) × (16777216 < size_of s.file.records t))
    → IsBroken (Trees.sizeof_type at from m to) s f
size_broken s at from m to t f n (inl b) = inr (inl (t, b.0, n, b.1))
size_broken s at from m to t f n (inr b) = inr (inr (t, b.0, n, b.1))

-- ---- declarators

pub shape_broken : (s : Scope) (specs : Trees.Specifiers) (d : Trees.Declarator) (base : CType) (f : Fault) → IsBase (IsOne s specs) specs base
    → IsBrokenDeclarator d s base f
    ⊎ ((u : CType) × Declares s d base (open_array u) × (f ≡ ill_typed R.Length (first_declarator d (first_specifiers specs))))
    → IsBrokenTypeName (Trees.type_name specs d) s f
shape_broken s specs d base f i (inl b) = inr (inr (inr (inl (base, i, b))))
shape_broken s specs d base f i (inr b) = inr (inr (inr (inr (base, b.0, i, b.1, b.2))))

pub field_broken : (s : Scope) (comma : Option ℕ) (d : Trees.Declarator) (more : Trees.MemberDeclarators) (base : CType) (semicolon : ℕ) (f : Fault)
    → IsBrokenDeclarator d s base f ⊎ ((u : CType) × Declares s d base (open_array u) × (f ≡ ill_typed R.Length (first_declarator d semicolon)))
    → AreBrokenFields (Trees.and_member_declarator comma d more) s base semicolon f
field_broken s comma d more base semicolon f (inl b) = inl b
field_broken s comma d more base semicolon f (inr b) = inr (inl b)

-- ---- enumerators

abbrev pub StopsAtValue : Trees.EnumeratorValue → (at next : ℕ) → Fault → Scope → Type 0
StopsAtValue value at next f s = IsBrokenValue value s f ⊎ ((f ≡ ill_typed R.Constant at) × (value ≡ Trees.no_value) × (next ≡ 2 ^ 31))

pub enumerator_broken : (s : Scope) (comma : Option ℕ) (x : Spelling) (value : Trees.EnumeratorValue) (more : Trees.Enumerators) (next after : ℕ) (f : Fault)
    → StopsAtValue value x.from next f s → AreBrokenEnumerators (Trees.and_enumerator comma x value more) s next after f
enumerator_broken s comma x value more next after f (inl b) = inl b
enumerator_broken s comma x value more next after f (inr b) = inr (inl b)
