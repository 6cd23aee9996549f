-- The steps of a declarator that are read: where one of them stops, the declarator is broken (C99 6.7.5).
use Rattle.std.proofs.Common.{◌≡◌, ◌≢◌, ℕ, ◌+◌, ◌≤◌, false, refl, sym, subst, List, [], ◌∷◌, length, inl, inr, arith}
use Rattle.std.specs.Prelude.{Ok, Err}
use Rattle.lay_base.specs.declared.faults.Rule.TheVariants as R
use Rattle.c_types.specs.Types.{CType, CTypes, pointer, array, function, Record}
use Rattle.c_types.specs.Objects.{is_object}
use Rattle.c_ast.specs.Trees
use Rattle.c_ast.specs.Places.{first}
use Rattle.c_erasure.specs.Broken.{Fault, ill_typed, HasLengths, IsBrokenDeclarator, IsTooBig, IsNoResult}
use Rattle.c_erasure.specs.Declarators.{Shape, is_name}
use Rattle.c_erasure.specs.Marks.{marks, marks_of_declarator}
use Rattle.c_erasure.specs.Scopes.{FileScope, Scope, inside, ended, for_value}
use Rattle.c_erasure.specs.Checking.Answers.{◌>>=◌, moved}
use Rattle.c_erasure.specs.Checking.Declaring.{Derivation, to_pointer, to_array, to_open_array, to_function, small, element, result_type, derived, length_value}
use Rattle.c_erasure.specs.Checking.Finding.{complete, value_at, constant_at, find, derivations, array_step, parameter_list}
use Rattle.c_checking_laws.proofs.InRange.{IsDeclaratorInRange}
use Rattle.c_checking_laws.proofs.Results.{bound_ok, bound_with, given}
use Rattle.c_checking_laws.proofs.Extends.{Extends, further, records_grow, constants_stay}
use Rattle.c_checking_laws.proofs.Agreement.{Ready, left, right, added}
use Rattle.c_checking_laws.proofs.Declared.{length_is}
use Rattle.c_checking_laws.proofs.Found.{valued, constant_found}
use Rattle.c_checking_laws.proofs.FoundDeclarators.{ready_in}
use Rattle.c_checking_laws.proofs.Sound.{sound, sound_steps, sound_list}
use Rattle.c_checking_laws.proofs.Derived.{element_is, small_is, result_is}
use Rattle.c_checking_laws.proofs.FaultResults.{same_fault, bound_err}
use Rattle.c_checking_laws.proofs.FaultDeclaring.{small_fault, element_incomplete, result_fault}
use Rattle.c_checking_laws.proofs.FaultPremises.{AreKnown, IsDeclaratorTimely, known_after}

module _ (untagged : ℕ → List ℕ) (ends : List ℕ) where
  -- what the steps that are read tell of the declarator, in each file that goes on from the one that reading leaves
  pub record ReadSteps (s : Scope) (d : Trees.Declarator) (z : List Derivation × FileScope) : Type 0 where
    pub is_no_name : z.0 ≢ [] → is_name d ≡ false
    pub lengths : (g : FileScope) → Extends z.1 g → HasLengths d (moved s g)
    pub broken : (g : FileScope) → Extends z.1 g → (t : CType) (f : Fault) → derived g.records z.0 t ≡ Err f → IsBrokenDeclarator d (moved s g) t f

  nothing_stops : (records : List Record) (t : CType) (f : Fault) → derived records [] t ≡ Err f → ⊥
  unfolding derived
  nothing_stops records t f h = cc

  pointer_stops : (s : Scope) (at : ℕ) (steps : List Derivation) (t : CType) (f : Fault) (P : Type 0) → derived s.file.records (to_pointer at ∷ steps) t ≡ Err f
      → (IsTooBig s (pointer t) at f → P) → (derived s.file.records steps (pointer t) ≡ Err f → P) → P
  unfolding derived
  pointer_stops s at steps t f P h p q =
      bound_err (small s.file.records at (pointer t)) _ f P h (λ e. p (small_fault s at (pointer t) f e))
      (λ u e h. q (subst (λ u. derived s.file.records steps u ≡ Err f) (sym (small_is s.file.records at (pointer t) u e).1) h))

  array_stops : (s : Scope) (count at n : ℕ) (steps : List Derivation) (t : CType) → count ≤ length s.file.records → (f : Fault) (P : Type 0)
      → derived s.file.records (to_array count at n ∷ steps) t ≡ Err f → ((f ≡ ill_typed R.Incomplete at) × (is_object count t ≡ false) → P)
      → (IsTooBig s (array t n) at f → P) → (derived s.file.records steps (array t n) ≡ Err f → P) → P
  unfolding derived
  array_stops s count at n steps t l f P h o p q =
      bound_err (element s.file.records count at t) _ f P h (λ e. o (element_incomplete s.file.records count at t l f e))
      (λ u e h.
      let h : (small s.file.records at (array t n) >>= λ u. derived s.file.records steps u) ≡ Err f =
      subst (λ u. (small s.file.records at (array u n) >>= λ u. derived s.file.records steps u) ≡ Err f) (sym (element_is s.file.records count at t u e).2) h in
      bound_err (small s.file.records at (array t n)) _ f P h (λ e. p (small_fault s at (array t n) f e))
      (λ u e h. q (subst (λ u. derived s.file.records steps u ≡ Err f) (sym (small_is s.file.records at (array t n) u e).1) h)))

  open_stops : (s : Scope) (count at : ℕ) (steps : List Derivation) (t : CType) → count ≤ length s.file.records → (f : Fault) (P : Type 0)
      → derived s.file.records (to_open_array count at ∷ steps) t ≡ Err f → ((f ≡ ill_typed R.Incomplete at) × (is_object count t ≡ false) → P)
      → ((f ≡ ill_typed R.Length at) × (steps ≢ []) → P) → P
  unfolding derived
  open_stops s count at [] t l f P h o p =
      bound_err (element s.file.records count at t) _ f P h (λ e. o (element_incomplete s.file.records count at t l f e)) (λ u e h. cc)
  open_stops s count at (step ∷ steps) t l f P h o p = p (same_fault Shape (ill_typed R.Length at) f h, λ e. cc)

  function_stops : (s : Scope) (at : ℕ) (types : CTypes) (steps : List Derivation) (t : CType) (f : Fault) (P : Type 0)
      → derived s.file.records (to_function at types ∷ steps) t ≡ Err f → ((f ≡ ill_typed R.ByValue at) × IsNoResult t → P)
      → (IsTooBig s (pointer (function t types)) at f → P) → (derived s.file.records steps (function t types) ≡ Err f → P) → P
  unfolding derived
  function_stops s at types steps t f P h o p q =
      bound_err (result_type at t) _ f P h (λ e. o (result_fault at t f e))
      (λ u e h.
      let h : (small s.file.records at (pointer (function t types)) >>= λ u. derived s.file.records steps (function t types)) ≡ Err f =
      subst (λ u. (small s.file.records at (pointer (function u types)) >>= λ w. derived s.file.records steps (function u types)) ≡ Err f)
      (sym (result_is at t u e).1) h in
      bound_err (small s.file.records at (pointer (function t types))) _ f P h (λ e. p (small_fault s at (pointer (function t types)) f e)) (λ u e h. q h))

  -- a byte that asks for records which are known by then
  pub asked : (s : Scope) (n : ℕ) (at : ℕ) (g : FileScope) → s.file.ends ≡ ends → AreKnown untagged ends n at → n ≤ length g.records
      → ended s.file.ends at ≤ length g.records
  asked s n at g e k l = let m : ended s.file.ends at ≤ n = subst (λ ends. ended ends at ≤ n) (sym e) k in omega (arith, m, l)

  pub read_steps : (d : Trees.Declarator) (s : Scope) (n : ℕ) → IsDeclaratorInRange d → Ready s (marks_of_declarator untagged d) → s.file.ends ≡ ends
      → n ≤ length s.file.records → IsDeclaratorTimely untagged ends s.is_inside n d → (z : List Derivation × FileScope) → derivations d s ≡ Ok z
      → ReadSteps s d z
  unfolding derivations array_step
  read_steps Trees.nothing s n i r e l w z h =
      given (ReadSteps s Trees.nothing) ([], s.file) z h (record {
        is_no_name = λ c. absurd (c refl);
        lengths = λ g p. tt;
        broken = λ g p t f h. nothing_stops g.records t f h;
      })
  read_steps (Trees.named x) s n i r e l w z h =
      given (ReadSteps s (Trees.named x)) ([], s.file) z h (record {
        is_no_name = λ c. absurd (c refl);
        lengths = λ g p. tt;
        broken = λ g p t f h. nothing_stops g.records t f h;
      })
  read_steps (Trees.pointer at consts d) s n i r e l w z h =
      let steps = bound_ok (derivations d s) _ z h in
      let v = read_steps d s n i r e l w steps.0 steps.1 in
      given (ReadSteps s (Trees.pointer at consts d)) _ z steps.2 (record {
        is_no_name = λ c. refl;
        lengths = v.lengths;
        broken = λ g p t f h.
            pointer_stops (moved s g) at steps.0.0 t f (IsBrokenDeclarator (Trees.pointer at consts d) (moved s g) t f) h (λ b. inl b)
            (λ h. inr (v.broken g p (pointer t) f h));
      })
  read_steps (Trees.enclosed from d to) s n i r e l w z h =
      let v = read_steps d s n i r e l w z h in
      record { is_no_name = v.is_no_name; lengths = v.lengths; broken = λ g p t f h. v.broken g p t f h }
  read_steps (Trees.array d from Trees.no_expression to) s n i r e l w z h =
      let u = marks_of_declarator untagged d in
      let steps = bound_ok (derivations d s) _ z h in
      let found = sound_steps untagged d s i.0 (left u [] r) steps.0 steps.1 in
      let v = read_steps d s n i.0 (left u [] r) e l w.0 steps.0 steps.1 in
      given (ReadSteps s (Trees.array d from Trees.no_expression to)) _ z steps.2 (record {
        is_no_name = λ c. refl;
        lengths = v.lengths;
        broken = λ g p t f h.
            let k = asked s (n + added s.is_inside u) from steps.0.1 e w.1 (known_after n l found.grew) in
            let m = records_grow p in
            open_stops (moved s g) (complete s from) from steps.0.0 t (omega (arith, k, m)) f
            (IsBrokenDeclarator (Trees.array d from Trees.no_expression to) (moved s g) t f) h
            (λ b. inr (inl (b.0, constants_stay (further found.grew.extends p) (λ ends file. is_object (ended ends from) t ≡ false) b.1)))
            (λ b. inr (inr (inl (b.0, refl, v.is_no_name b.1))));
      })
  read_steps (Trees.array d from (Trees.some_expression a) to) s n i r e l w z h =
      let u = marks_of_declarator untagged d in
      let steps = bound_ok (derivations d s) _ z h in
      let found = sound_steps untagged d s i.0 (left u (marks untagged a) r) steps.0 steps.1 in
      let v = read_steps d s n i.0 (left u (marks untagged a) r) e l w.0 steps.0 steps.1 in
      let later = right u (marks untagged a) r found.grew in
      let c = bound_ok (constant_at (first a) (value_at (first a) (find a (for_value (moved s steps.0.1))))) _ z steps.2 in
      let x = constant_found untagged a (moved s steps.0.1) (first a) (value_at (first a) (find a (for_value (moved s steps.0.1))))
      (λ y j. valued untagged a (for_value (moved s steps.0.1)) (first a) (find a (for_value (moved s steps.0.1)))
      (λ y j. sound untagged a (for_value (moved s steps.0.1)) i.1 later y j) y j) c.0 c.1 in
      let m = bound_with c.0.1 (length_value (first a) c.0.0) _ z c.2 in
      let is = length_is (first a) c.0.0 m.0 m.1 in
      given (ReadSteps s (Trees.array d from (Trees.some_expression a) to)) _ z m.2 (record {
        is_no_name = λ c. refl;
        lengths = λ g p. (v.lengths g (further x.grew.extends p), (c.0.0.0, c.0.0.1, x.holds g p));
        broken = λ g p t f h.
            let q : Extends steps.0.1 g = further x.grew.extends p in
            let k = asked s (n + added s.is_inside u) from steps.0.1 e w.1 (known_after n l found.grew) in
            let j = records_grow q in
            array_stops (moved s g) (complete s from) from m.0 steps.0.0 t (omega (arith, k, j)) f
            (IsBrokenDeclarator (Trees.array d from (Trees.some_expression a) to) (moved s g) t f) h
            (λ b. inr (inl (b.0, constants_stay (further found.grew.extends q) (λ ends file. is_object (ended ends from) t ≡ false) b.1)))
            (λ b. inr (inr (inr (inl (m.0, (c.0.0.0, c.0.0.1, x.holds g p, is.0), inl b)))))
            (λ h. inr (inr (inr (inl (m.0, (c.0.0.0, c.0.0.1, x.holds g p, is.0), inr (v.broken g q (array t m.0) f h))))));
      })
  read_steps (Trees.function d from all to) s n i r e l w z h =
      let u = marks_of_declarator untagged d in
      let steps = bound_ok (derivations d s) _ z h in
      let found = sound_steps untagged d s i.0 r steps.0 steps.1 in
      let v = read_steps d s n i.0 r e l w.0 steps.0 steps.1 in
      let types = bound_ok (parameter_list all (inside (moved s steps.0.1))) _ z steps.2 in
      let x = sound_list untagged all (inside (moved s steps.0.1)) refl i.1 (ready_in s u steps.0.1 r found.grew) types.0 types.1 in
      given (ReadSteps s (Trees.function d from all to)) _ z types.2 (record {
        is_no_name = λ c. refl;
        lengths = λ g p. v.lengths g (further x.grew.extends p);
        broken = λ g p t f h.
            let q : Extends steps.0.1 g = further x.grew.extends p in
            function_stops (moved s g) from types.0.0 steps.0.0 t f (IsBrokenDeclarator (Trees.function d from all to) (moved s g) t f) h
            (λ b. inr (inl b)) (λ b. inr (inr (inl (types.0.0, x.holds g p, inl b))))
            (λ h. inr (inr (inl (types.0.0, x.holds g p, inr (v.broken g q (function t types.0.0) f h)))));
      })
