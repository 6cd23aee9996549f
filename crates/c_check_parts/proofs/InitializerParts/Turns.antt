-- Items of braces in turn: the parts of one item, and of those after it.
use Rattle.std.proofs.Common.{◌≡◌, ◌≢◌, ◌∙◌, ◌<◌, ◌≤◌, ℕ, suc, ◌+◌, ◌-◌, List, [], ◌∷◌, ◌++◌, Option, length, drop, get_or, refl, sym, ap, subst, add-one}
use Rattle.std.proofs.Common.{append-nil, append_assoc, arith, rules, drop-cons}
use Rattle.std.specs.Prelude.{Ok, Err, map}
use Rattle.lay_base.specs.declared.faults.Rule.TheVariants as R
use Rattle.c_types.specs.declared.ty.Ty.{Ty}
use Rattle.std.proofs.lemmas.List.{at_drop_all}
use Rattle.c_types.specs.Types.{CType, Field}
use Rattle.c_types.specs.Layouts.{offset_of, size_of}
use Rattle.c_types.specs.Views.{type_of}
use Rattle.c_ast.specs.declared.expression.Argument.{Argument, the_lemmas}
use Rattle.c_ast.specs.Places.{first}
use Rattle.c_ast.specs.Trees
use Rattle.c_ast.specs.Views.{argument_of, arguments_of, expression_of}
use Rattle.c_erasure.specs.Initializers.{Part}
use Rattle.c_erasure.specs.Scopes.{FileScope, Scope}
use Rattle.c_erasure.specs.Checking.Answers.{Answer, ◌>>=◌, Checked, moved, refused}
use Rattle.c_erasure.specs.Checking.Initializers.{elements, fields_from, initialized}
use Rattle.c_nodes.specs.declared.fault.Fault.{Fault}
use Rattle.c_nodes.specs.declared.fault.Fault.TheVariants.{TooBig, IllTyped, Undeclared, Redeclared, Memory}
use Rattle.c_nodes.specs.Gives.{Fails}
use Rattle.c_check_parts.specs.InitializerParts.Parts.{bare_field, parts_after}

later : (before own : List Part) (r : Checked (List Part)) → parts_after before (r >>= λ rest. Ok (own ++ rest.0, rest.1)) ≡ parts_after (before ++ own) r
later before own (Err fault) = refl
later before own (Ok rest) = ap (λ all. Ok (all, rest.1)) (sym (append_assoc before own rest.0))

in_turn : (before : List Part) (r : Checked (List Part)) (next : FileScope → Checked (List Part))
    → parts_after before (r >>= λ own. next own.1 >>= λ rest. Ok (own.0 ++ rest.0, rest.1))
    ≡ (parts_after before r >>= λ own. parts_after own.0 (next own.1))
in_turn before (Err fault) next = refl
in_turn before (Ok own) next = later before own.0 (next own.1)

next_elements : (before : List Part) (comma : Option ℕ) (a : Trees.Expression) (more : Trees.Arguments) (s : Scope) (u : CType) (n at : ℕ)
    → parts_after before (elements (Trees.and_argument comma a more) s u (suc n) at)
    ≡ (parts_after before (initialized a s u at) >>= λ own. parts_after own.0 (elements more (moved s own.1) u n (at + size_of own.1.records u)))
unfolding elements
next_elements before comma a more s u n at =
    in_turn before (initialized a s u at) (λ f. elements more (moved s f) u n (at + size_of f.records u))

pub elements_turn : (before : List Part) (comma : Option ℕ) (a : Trees.Expression) (more : Trees.Arguments) (s : Scope) (u : CType) (left n at : ℕ)
    → left ≡ suc n → parts_after before (elements (Trees.and_argument comma a more) s u left at)
    ≡ (parts_after before (initialized a s u at) >>= λ own. parts_after own.0 (elements more (moved s own.1) u n (at + size_of own.1.records u)))
elements_turn before comma a more s u left n at h = rw h (next_elements before comma a more s u n at)

pub fields_turn : (before : List Part) (comma : Option ℕ) (a : Trees.Expression) (more : Trees.Arguments) (s : Scope) (r k : ℕ) (f : Field) (fields : List Field) (at : ℕ)
    → parts_after before (fields_from (Trees.and_argument comma a more) s r k (f ∷ fields) at)
    ≡ (parts_after before (initialized a s f.ty (at + offset_of s.file.records r k))
    >>= λ own. parts_after own.0 (fields_from more (moved s own.1) r (k + 1) fields at))
unfolding fields_from
fields_turn before comma a more s r k f fields at =
    in_turn before (initialized a s f.ty (at + offset_of s.file.records r k)) (λ g. fields_from more (moved s g) r (k + 1) fields at)

abbrev after_own : List Part → Checked (List Part) → Checked (List Part)
after_own own r = r >>= λ rest. Ok (own ++ rest.0, rest.1)

follows : (r : Checked (List Part)) (one two : FileScope → Checked (List Part)) → ((f : FileScope) → one f ≡ two f)
    → (r >>= λ own. after_own own.0 (one own.1)) ≡ (r >>= λ own. after_own own.0 (two own.1))
follows (Err fault) one two h = refl
follows (Ok own) one two h = ap (after_own own.0) (h own.1)

-- only the types of fields matter
pub fields_alike : (all : Trees.Arguments) (s : Scope) (r k : ℕ) (fields others : List Field) (at : ℕ)
    → map (λ f. f.ty) fields ≡ map (λ f. f.ty) others → fields_from all s r k fields at ≡ fields_from all s r k others at
unfolding fields_from
fields_alike Trees.no_arguments s r k fields others at h = refl
fields_alike (Trees.and_argument comma a more) s r k [] [] at h = refl
fields_alike (Trees.and_argument comma a more) s r k [] (g ∷ others) at h = cc
fields_alike (Trees.and_argument comma a more) s r k (f ∷ fields) [] at h = cc
fields_alike (Trees.and_argument comma a more) s r k (f ∷ fields) (g ∷ others) at h =
    let first : f.ty ≡ g.ty = cc in
    let rest : map (λ f. f.ty) fields ≡ map (λ f. f.ty) others = cc in
    ap (λ t. initialized a s t (at + offset_of s.file.records r k) >>= λ own. after_own own.0 (fields_from more (moved s own.1) r (k + 1) fields at)) first
    ∙ follows (initialized a s g.ty (at + offset_of s.file.records r k)) (λ file. fields_from more (moved s file) r (k + 1) fields at)
    (λ file. fields_from more (moved s file) r (k + 1) others at) (λ file. fields_alike more (moved s file) r (k + 1) fields others at rest)

bare_types : (types : List Ty) → map (λ f. f.ty) (map bare_field types) ≡ map type_of types
bare_types [] = refl
bare_types (t ∷ types) = ap (λ all. type_of t ∷ all) (bare_types types)

pub fields_of_types : (all : Trees.Arguments) (s : Scope) (r k : ℕ) (fields : List Field) (types : List Ty) (at : ℕ)
    → map type_of types ≡ map (λ f. f.ty) fields → fields_from all s r k fields at ≡ fields_from all s r k (map bare_field types) at
fields_of_types all s r k fields types at h =
    fields_alike all s r k fields (map bare_field types) at (sym h ∙ sym (bare_types types))

-- ---- the next item of a list, and its end

view : (item : Argument) → argument_of item ≡ (item.comma, expression_of item.value)
view item = search (rules, the_lemmas)

next_argument : (all : List Argument) (i : ℕ) (item : Argument) → i < length all → item ≡ get_or all i item
    → arguments_of (map argument_of (drop i all)) ≡ Trees.and_argument item.comma (expression_of item.value) (arguments_of (map argument_of (drop (i + 1) all)))
next_argument all i item h e =
    ap (λ rest. arguments_of (map argument_of rest)) (drop-cons all i item h)
    ∙ ap (λ it. Trees.and_argument it.0 it.1 (arguments_of (map argument_of (drop (suc i) all)))) (ap argument_of (sym e) ∙ view item)
    ∙ ap (λ n. Trees.and_argument item.comma (expression_of item.value) (arguments_of (map argument_of (drop n all)))) (sym (add-one i))

no_argument : (all : List Argument) (i : ℕ) → length all ≤ i → arguments_of (map argument_of (drop i all)) ≡ Trees.no_arguments
no_argument all i h = at_drop_all (λ rest. arguments_of (map argument_of rest)) all i h

-- ---- faults of a part are those of the whole

pub fails_on : {A B : Type 0} (fault : Fault) (r : Answer A) (f : A → Answer B) → Fails fault r → Fails fault (r >>= f)
fails_on (TooBig at) r f h = ap (λ r. r >>= f) h
fails_on (IllTyped rule at) r f h = ap (λ r. r >>= f) h
fails_on (Undeclared x at) r f h = ap (λ r. r >>= f) h
fails_on (Redeclared x at first) r f h = ap (λ r. r >>= f) h
fails_on (Memory want) r f h = tt

pub fails_along : {A : Type 0} (fault : Fault) (r s : Answer A) → s ≡ r → Fails fault r → Fails fault s
fails_along fault r s e h = subst (λ (r : Answer _). Fails fault r) (sym e) h

module _ (before : List Part) (all : List Argument) (i : ℕ) (s : Scope) (u : CType) where
  pub too_many_elements : (item : Argument) (at : ℕ) → i < length all → item ≡ get_or all i item
      → parts_after before (elements (arguments_of (map argument_of (drop i all))) s u 0 at) ≡ refused R.Init (first (expression_of item.value))
  unfolding elements
  too_many_elements item at h e = rw (next_argument all i item h e) refl

  pub elements_next : (item : Argument) (left at : ℕ) → i < length all → item ≡ get_or all i item → left ≢ 0
      → parts_after before (elements (arguments_of (map argument_of (drop i all))) s u left at)
      ≡ (parts_after before (initialized (expression_of item.value) s u at)
      >>= λ own. parts_after own.0 (elements (arguments_of (map argument_of (drop (i + 1) all))) (moved s own.1) u (left - 1) (at + size_of own.1.records u)))
  elements_next item left at h e some =
      rw (next_argument all i item h e) (elements_turn before item.comma (expression_of item.value) (arguments_of (map argument_of (drop (i + 1) all))) s u left
      (left - 1) at (omega arith))

  pub elements_end : (left at : ℕ) → length all ≤ i
      → parts_after before (elements (arguments_of (map argument_of (drop i all))) s u left at) ≡ Ok (before, s.file)
  unfolding elements
  elements_end left at h = rw (no_argument all i h) (ap (λ parts. Ok (parts, s.file)) (append-nil before))

next_field : (types : List Ty) (k : ℕ) (t : Ty) → k < length types → t ≡ get_or types k t
    → map bare_field (drop k types) ≡ bare_field t ∷ map bare_field (drop (k + 1) types)
next_field types k t h e =
    ap (map bare_field) (drop-cons types k t h)
    ∙ ap (λ u. bare_field u ∷ map bare_field (drop (suc k) types)) (sym e)
    ∙ ap (λ n. bare_field t ∷ map bare_field (drop n types)) (sym (add-one k))

module _ (before : List Part) (all : List Argument) (types : List Ty) (k : ℕ) (s : Scope) (r at : ℕ) where
  pub too_many_fields : (item : Argument) → k < length all → item ≡ get_or all k item → length types ≤ k
      → parts_after before (fields_from (arguments_of (map argument_of (drop k all))) s r k (map bare_field (drop k types)) at)
      ≡ refused R.Init (first (expression_of item.value))
  unfolding fields_from
  too_many_fields item h e few = rw (next_argument all k item h e, at_drop_all (map bare_field) types k few) refl

  pub fields_next : (item : Argument) (t : Ty) → k < length all → item ≡ get_or all k item → k < length types → t ≡ get_or types k t
      → parts_after before (fields_from (arguments_of (map argument_of (drop k all))) s r k (map bare_field (drop k types)) at)
      ≡ (parts_after before (initialized (expression_of item.value) s (type_of t) (at + offset_of s.file.records r k))
      >>= λ own. parts_after own.0 (fields_from (arguments_of (map argument_of (drop (k + 1) all))) (moved s own.1) r (k + 1)
      (map bare_field (drop (k + 1) types)) at))
  fields_next item t h e h' e' =
      rw (next_argument all k item h e, next_field types k t h' e')
      (fields_turn before item.comma (expression_of item.value) (arguments_of (map argument_of (drop (k + 1) all))) s r k (bare_field t)
      (map bare_field (drop (k + 1) types)) at)

  pub fields_end : length all ≤ k
      → parts_after before (fields_from (arguments_of (map argument_of (drop k all))) s r k (map bare_field (drop k types)) at) ≡ Ok (before, s.file)
  unfolding fields_from
  fields_end h = rw (no_argument all k h) (ap (λ parts. Ok (parts, s.file)) (append-nil before))
