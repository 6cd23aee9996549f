-- Declarations of locals: what they declare is what is found, where initializers are found (C99 6.7).
use Rattle.std.proofs.Common.{◌≡◌, ℕ, zero, suc, ◌≤◌, Bool, true, false, List, [], ◌∷◌, ◌++◌, length, length-append, append_assoc}
use Rattle.std.proofs.Common.{refl, sym}
use Rattle.std.proofs.Common.{ap, ◌∙◌, subst, arith}
use Rattle.std.specs.Prelude.{◌==◌, map, Option, Some, None, Ok, slice_get}
use Rattle.std.specs.List.{list_any}
use Rattle.std.specs.Option.{option_map}
use Rattle.c_types.specs.Types.{CType, void, integer, pointer, array, function, structure, Record}
use Rattle.c_types.specs.Objects.{is_object}
use Rattle.c_ast.specs.declared.words.Spelling.{Spelling}
use Rattle.c_ast.specs.Trees
use Rattle.c_ast.specs.Places.{first, first_text, first_declarator}
use Rattle.c_typed.specs.declared.program.MentionKind.TheVariants.{Object}
use Rattle.c_typed.specs.Trees as Typed
use Rattle.c_typed.specs.Mapped.{of_types, mapped_initializer}
use Rattle.c_typed.specs.Conversions.{is_function}
use Rattle.c_typed.specs.TypedStatements.{all_declared_by, IsTypedInitializer, IsInitialized}
use Rattle.c_erasure.specs.Declarators.{Shape, closed, open_array, declared_name}
use Rattle.c_erasure.specs.Initializers.{IsInitializer, texts_of, length_of}
use Rattle.c_erasure.specs.Noted.{Noted}
use Rattle.c_erasure.specs.Scopes.{ALocal, AnObject, Bound, FileScope, Scope, a_local, defines, in_full, declared, ended, here, with_name}
use Rattle.c_erasure.specs.Statements.{Statements, IsSized, HasInitializer, IsVariable, DeclareAll, with_variable}
use Rattle.c_erasure.specs.Checking.Answers.{◌>>=◌}
use Rattle.c_erasure.specs.Checking.Declaring.{Derivation, with_mention, mentions_in, small, object_at, derived}
use Rattle.c_erasure.specs.Checking.Finding.{derivations}
use Rattle.c_erasure.specs.Checking.Initializers.{initializer}
use Rattle.c_erasure.specs.Checking.Statements.{counted_array, sized_in, variable_type, variable_of, initial_if_any}
use Rattle.c_erasure.specs.Checking.Statements.{declare_all}
use Rattle.c_checking_laws.proofs.Results.{ok}
use Rattle.c_checking_laws.proofs.Extends.{Extends}
use Rattle.c_checking_laws.proofs.CompleteNodes.{some, some_is}
use Rattle.c_checking_laws.proofs.CompleteWalk.{Event, a_look, a_literal, walk, walk_of_declarator}
use Rattle.c_checking_laws.proofs.CompletePart.{Lists, part, IsWhole, IsBefore, IsAfter, Done, BlocksFit, none_after}
use Rattle.c_checking_laws.proofs.CompletePart.{complete_stays, mentioned}
use Rattle.c_checking_laws.proofs.CompletePart.{left_seen, right_seen, then_seen}
use Rattle.c_checking_laws.proofs.CompleteExpressions.{after_look, behind_look}
use Rattle.c_checking_laws.proofs.CompleteCalls.{size_same}
use Rattle.c_checking_laws.proofs.CompleteDeclarators.{small_back}
use Rattle.c_checking_laws.proofs.CompleteFit.{IsFit, fit_after, fit_named}
use Rattle.c_checking_laws.proofs.CompleteStructures.{split_at}
use Rattle.c_checking_laws.proofs.CompleteTrees.{complete_declarator}
use Rattle.c_checking_laws.proofs.CompleteStatements.{inner, outer, Seen, AreNumbered, numbered_right}
use Rattle.c_checking_laws.proofs.CompleteBlocks.{FoundAll, AreTypedHere}

-- ---- what stands in an initializer; `objects` are those of the whole file

-- an object of the file begins there
abbrev pub begins : List AnObject → ℕ → Bool
begins objects at = list_any (λ o. o.first == at) objects

-- a string literal whose bytes initialize an array makes no object
abbrev pub literal_if : Bool → ℕ → List Event
literal_if true at = a_literal at ∷ []
literal_if false at = []

module _ (u : ℕ → List ℕ) (objects : List AnObject) where
  abbrev mutual
    pub walk_of_initializer : Trees.Expression → List Event
    walk_of_initializer (Trees.texts all) = literal_if (begins objects (first_text all)) (first_text all)
    walk_of_initializer (Trees.braces left all comma right) = walk_of_initializers all
    walk_of_initializer a = walk u a

    pub walk_of_initializers : Trees.Arguments → List Event
    walk_of_initializers Trees.no_arguments = []
    walk_of_initializers (Trees.and_argument comma a more) = walk_of_initializer a ++ walk_of_initializers more

  -- ---- what stands in a declarator with its initializer

  abbrev pub look_at : Option Spelling → List Event
  look_at None = []
  look_at (Some x) = a_look x.from ∷ []

  abbrev pub walk_of_initial : Option (ℕ × Trees.Expression) → List Event
  walk_of_initial None = []
  walk_of_initial (Some value) = walk_of_initializer value.1

  abbrev pub walk_of_declared : Trees.InitDeclarator → List Event
  walk_of_declared d = look_at (declared_name d.declarator) ++ walk_of_declarator u d.declarator

  abbrev pub walk_of_locals : List Trees.InitDeclarator → List Event
  walk_of_locals [] = []
  walk_of_locals (d ∷ more) = walk_of_declared d ++ walk_of_initial d.value ++ walk_of_locals more

mapped_at : {X Y : Type 0} (f : X → Y) (xs : List X) (k : ℕ) (x : X) → slice_get xs k ≡ Some x → slice_get (map f xs) k ≡ Some (f x)
mapped_at f [] k x h = cc
mapped_at f (y ∷ xs) zero x h = ap (λ y. some (f y)) (some_is y x h)
mapped_at f (y ∷ xs) (suc k) x h = mapped_at f xs k x h

object_is_no_function : (r : ℕ) (t : CType) → is_object r t ≡ true → is_function t ≡ false
object_is_no_function r void h = refl
object_is_no_function r (integer k) h = refl
object_is_no_function r (pointer t) h = refl
object_is_no_function r (array t n) h = refl
object_is_no_function r (structure k) h = refl
object_is_no_function r (function t all) h = cc

type_back : (records : List Record) (count at : ℕ) (t : CType) → is_object count t ≡ true → is_object (length records) t ≡ true
    → variable_type records count at t ≡ Ok t
unfolding variable_type object_at
type_back records count at t c l = let f = object_is_no_function count t c in rw (f, c, l) refl

counted_back : (records : List Record) (at : ℕ) (u : CType) (n : ℕ) → 1 ≤ n → small records at (array u n) ≡ Ok (array u n)
    → counted_array records at u n ≡ Ok (array u n)
counted_back records at u zero l h = absurd (omega (arith, l))
counted_back records at u (suc n) l h = h

module _ (g : FileScope) (w : IsWhole g) (ls : List ALocal) where
  -- ---- the type of a variable

  sized_back : (b : List (List Bound)) (c : Lists) (at : ℕ) (shape : Shape) (value : Option (ℕ × Trees.Expression)) (t : CType) → Extends (part g c) g
      → is_object (length c.records) t ≡ true → IsSized (outer g w ls b) shape value t → sized_in c.records at shape value ≡ Ok t
  unfolding sized_in
  sized_back b c at (closed u) value t p o h = ap ok (sym h)
  sized_back b c at (open_array u) None t p o h = absurd h
  sized_back b c at (open_array u) (Some value) t p o h =
      let same = size_same g w ls c t p o in
      let bytes = h.2.bytes in
      let k = small_back c.records (first value.1) t (omega (arith, same, bytes)) h.2.parts in
      counted_back c.records (first value.1) u (length_of u (texts_of value.1) value.1) h.1 (subst (λ t. small c.records (first value.1) t ≡ Ok t) h.0 k)
      ∙ ap ok (sym h.0)

  variable_joined : (b : List (List Bound)) (l : List ALocal) (c m n : Lists) (base : CType) (d : Trees.InitDeclarator) (x : Spelling) (steps : List Derivation)
      (shape : Shape) (t : CType) → derivations d.declarator (inner g w ls b l c) ≡ Ok (steps, part g m) → derived m.records steps base ≡ Ok shape
      → sized_in m.records x.from shape d.value ≡ Ok t → variable_type m.records (ended g.ends x.from) x.from t ≡ Ok t
      → here (inner g w ls b l c) x.text ≡ None
      → with_mention (inner g w ls b l c) (mentions_in (part g c)) Object t (first_declarator d.declarator x.from) (part g m) ≡ part g n
      → variable_of (inner g w ls b l c) base d x ≡ Ok (t, part g n)
  variable_joined b l c m n base d x steps shape t a k s v h e = rw (a, k, s, v, h, e) refl

  pub variable_complete : (b : List (List Bound)) (l : List ALocal) (c : Lists) (base : CType) (d : Trees.InitDeclarator) (x : Spelling) (t : CType)
      → BlocksFit g (length c.records) b → IsBefore g c (Seen g w ls (a_look x.from ∷ walk_of_declarator g.untagged d.declarator))
      → IsVariable (outer g w ls b) base d x t → Done g c (Seen g w ls (a_look x.from ∷ walk_of_declarator g.untagged d.declarator))
      (variable_of (inner g w ls b l c) base d x) t
  variable_complete b l c base d x t f e h =
      let z = complete_declarator g w ls d.declarator (inner g w ls b l c) c base h.0 f
      (behind_look g w ls c x.from (Seen g w ls (walk_of_declarator g.untagged d.declarator)) e) h.2 in
      let asked = e.follows.0 in
      let o = complete_stays (ended g.ends x.from) (length z.lists.records) t (omega (arith, asked, z.after.records)) h.4 in
      let k = z.derive z.lists z.after.extends (omega arith) in
      let s = sized_back b z.lists x.from h.0 d.value t z.after.extends o h.3 in
      let v = type_back z.lists.records (ended g.ends x.from) x.from t h.4 o in
      let m = mentioned g ls (inner g w ls b l c) c z.lists (Seen g w ls (a_look x.from ∷ walk_of_declarator g.untagged d.declarator))
      (mentions_in (part g c)) Object t
      (first_declarator d.declarator x.from) h.6 (after_look g w ls c z.lists x.from (Seen g w ls (walk_of_declarator g.untagged d.declarator)) z.after) in
      record { lists = m.0; is = variable_joined b l c z.lists m.0 base d x z.steps h.0 t z.is k s v h.5 m.1; after = m.3 }

  -- ---- initializers

  abbrev AsTyped : Typed.Initializer Noted → Typed.Initializer CType
  AsTyped i = mapped_initializer (of_types (λ t. t.ty)) i

  abbrev pub CompletesInitializer : Trees.Expression → Type 0
  CompletesInitializer a = (b : List (List Bound)) (l : List ALocal) (c : Lists) (t : CType) (i : Typed.Initializer Noted) → BlocksFit g (length c.records) b
      → is_object (length c.records) t ≡ true → IsBefore g c (Seen g w ls (walk_of_initializer g.untagged g.objects a))
      → IsInitializer a (outer g w ls b) t i
      → IsTypedInitializer (declared (outer g w ls b)) t (AsTyped i)
      → Done g c (Seen g w ls (walk_of_initializer g.untagged g.objects a)) (initializer a (inner g w ls b l c) t) i

  initial_complete : (value : Option (ℕ × Trees.Expression)) → ((a : Trees.Expression) → CompletesInitializer a)
      → (b : List (List Bound)) (l : List ALocal) (c : Lists)
      (t : CType) (i : Option (Typed.Initializer Noted)) → BlocksFit g (length c.records) b → is_object (length c.records) t ≡ true
      → IsBefore g c (Seen g w ls (walk_of_initial g.untagged g.objects value))
      → HasInitializer (outer g w ls b) t value i → IsInitialized (declared (outer g w ls b)) t (option_map AsTyped i)
      → Done g c (Seen g w ls (walk_of_initial g.untagged g.objects value)) (initial_if_any value (inner g w ls b l c) t) i
  initial_complete None k b l c t i f o e h n = record {
    lists = c;
    is = ap (λ i. ok (i, part g c))
        (sym h);
    after = none_after g c [] e refl refl refl;
  }
  initial_complete (Some value) k b l c t i f o e h n =
      let n = subst (λ i. IsInitialized (declared (outer g w ls b)) t (option_map AsTyped i)) h.1 n in
      let z = k value.1 b l c t h.0 f o e h.2 n in
      record {
        lists = z.lists;
        is = ap (λ r. r >>= λ i. ok (some i.0, i.1)) z.is ∙ ap (λ i. ok (i, part g z.lists)) (sym h.1);
        after = z.after;
      }

  -- ---- locals, one after the other

  abbrev local_named : List ALocal → Spelling → CType → Bound
  local_named l x t = record { name = x.text; place = x.from; from = x.to; how = defines; entity = a_local (length l) t }

  abbrev with_one_local : List ALocal → Spelling → CType → List ALocal
  with_one_local l x t = l ++ record { name = x.text; ty = t } ∷ []

  local_joined : (b : List (List Bound)) (l : List ALocal) (c m n : Lists) (base : CType) (d : Trees.InitDeclarator) (more : List Trees.InitDeclarator)
      (x : Spelling)
      (t : CType) (i : Option (Typed.Initializer Noted)) (rest : Statements) (s : Scope) → declared_name d.declarator ≡ Some x
      → variable_of (inner g w ls b l c) base d x ≡ Ok (t, part g m)
      → initial_if_any d.value (inner g w ls (with_name b (local_named l x t)) (with_one_local l x t) m) t ≡ Ok (i, part g n)
      → declare_all more (inner g w ls (with_name b (local_named l x t)) (with_one_local l x t) n) false base ≡ Ok (rest, s)
      → declare_all (d ∷ more) (inner g w ls b l c) false base ≡ Ok (Typed.and_statement (Typed.declare (length l) i) rest, s)
  unfolding declare_all
  local_joined b l c m n base d more x t i rest s e v k r = rw (e, v, k, r) refl

  -- the local with that number is the next one
  next_local : (l more : List ALocal) (x : ALocal) (n : ℕ) → ls ≡ l ++ more → n ≡ length l → slice_get ls n ≡ Some x
      → (rest : List ALocal) × (ls ≡ (l ++ x ∷ []) ++ rest)
  next_local l more x n e q h =
      let h : slice_get (l ++ more) (length l) ≡ Some x = subst (λ n. slice_get (l ++ more) n ≡ Some x) q (subst (λ ls. slice_get ls n ≡ Some x) e h) in
      let z = split_at l more x h in
      (z.0, e ∙ ap (λ more. l ++ more) z.1 ∙ sym (append_assoc l (x ∷ []) z.0))

  module _ (result : CType) (own : Trees.Declaration → List Event) (initials : (a : Trees.Expression) → CompletesInitializer a) where
    pub locals_complete : (all : List Trees.InitDeclarator) (b : List (List Bound)) (l : List ALocal) (c : Lists) (base : CType) (found : Statements)
        (after : Scope)
        (loop switch : Bool) → IsFit g c b → IsBefore g c (Seen g w ls (walk_of_locals g.untagged g.objects all))
        → (more : List ALocal) × (ls ≡ l ++ more)
        → DeclareAll all (outer g w ls b) false base found after → AreTypedHere g w ls result own b loop switch found
        → AreNumbered (length l) (all_declared_by found)
        → FoundAll g w ls result own b l c (walk_of_locals g.untagged g.objects all) (declare_all all (inner g w ls b l c) false base) found after
    unfolding declare_all
    locals_complete [] b l c base found after loop switch f e p h k n = record {
      blocks = b;
      is_after = h.1;
      performs = record {
        lists = c;
        locals = l;
        is = ap (λ all. ok (all, inner g w ls b l c)) (sym h.0);
        after = none_after g c [] e refl refl refl;
        count = let m = ap length (ap all_declared_by h.0) in omega (arith, m);
        rest = p;
      };
      fit = f;
    }
    locals_complete (d ∷ all) b l c base found after loop switch f e p h k n =
        let x = h.0 in
        let t = h.1 in
        let k = subst (AreTypedHere g w ls result own b loop switch) h.7 k in
        let n = subst (λ found. AreNumbered (length l) (all_declared_by found)) h.7 n in
        let number : h.2 ≡ length l = n.0 in
        let stood : slice_get (map (λ x. x.ty) ls) h.2 ≡ Some h.1 = mapped_at (λ (x : ALocal). x.ty) ls h.2 (record { name = h.0.text; ty = h.1 }) h.6 in
        let typed : k.0.0 ≡ h.1 = some_is k.0.0 h.1 (sym k.0.1 ∙ stood) in
        let initialized = subst (λ t. IsInitialized (declared (outer g w ls b)) t (option_map AsTyped h.3)) typed k.0.3 in
        let name : walk_of_declared g.untagged g.objects d ≡ a_look h.0.from ∷ walk_of_declarator g.untagged d.declarator =
        ap (λ o. look_at g.untagged g.objects o ++ walk_of_declarator g.untagged d.declarator) h.5.1 in
        let e2 = left_seen g true in_full c (walk_of_declared g.untagged g.objects d ++ walk_of_initial g.untagged g.objects d.value)
        (walk_of_locals g.untagged g.objects all) e in
        let e1 = left_seen g true in_full c (walk_of_declared g.untagged g.objects d) (walk_of_initial g.untagged g.objects d.value) e2 in
        let e0 : IsBefore g c (Seen g w ls (a_look h.0.from ∷ walk_of_declarator g.untagged d.declarator)) = subst (λ u. IsBefore g c (Seen g w ls u)) name
        e1 in
        let z = variable_complete b l c base d h.0 h.1 f.complete e0 h.5 in
        let a1 : IsAfter g c (Seen g w ls (walk_of_declared g.untagged g.objects d)) z.lists = subst (λ u. IsAfter g c (Seen g w ls u) z.lists)
        (sym name) z.after in
        let o = complete_stays (ended g.ends h.0.from) (length z.lists.records) h.1 (omega (arith, e0.follows.0, z.after.records)) h.5.4 in
        let fits = fit_named g w ls z.lists b (local_named l h.0 h.1) (fit_after g c z.lists b (walk_of_declared g.untagged g.objects d) a1 f) o tt in
        let m = initial_complete d.value initials (with_name b (local_named l h.0 h.1)) (with_one_local l h.0 h.1) z.lists h.1 h.3 fits.complete o
        (right_seen g true in_full c z.lists (walk_of_declared g.untagged g.objects d) (walk_of_initial g.untagged g.objects d.value) e2 a1)
        (subst (λ n. HasInitializer (with_variable (outer g w ls b) h.0 n h.1) h.1 d.value h.3) number h.8) initialized in
        let a2 = then_seen g true in_full c z.lists m.lists (walk_of_declared g.untagged g.objects d)
        (walk_of_initial g.untagged g.objects d.value) a1 m.after in
        let next = next_local l p.0 (record { name = h.0.text; ty = h.1 }) h.2 p.1 number h.6 in
        let long = length-append l (record { name = h.0.text; ty = h.1 } ∷ []) in
        let n2 : AreNumbered (length (with_one_local l h.0 h.1)) (all_declared_by h.4) =
        numbered_right (length l) (length (with_one_local l h.0 h.1)) (h.2 ∷ []) (all_declared_by h.4) (omega (arith, long)) n in
        let q = locals_complete all (with_name b (local_named l h.0 h.1)) (with_one_local l h.0 h.1) m.lists base h.4 after loop switch
        (fit_after g z.lists m.lists (with_name b (local_named l h.0 h.1)) (walk_of_initial g.untagged g.objects d.value) m.after fits)
        (right_seen g true in_full c m.lists (walk_of_declared g.untagged g.objects d ++ walk_of_initial g.untagged g.objects d.value)
        (walk_of_locals g.untagged g.objects all) e a2)
        next (subst (λ n. DeclareAll all (with_variable (outer g w ls b) h.0 n h.1) false base h.4 after) number h.9) k.1 n2 in
        let r = q.performs in
        let made : found ≡ Typed.and_statement (Typed.declare (length l) h.3) h.4 = h.7 ∙ ap (λ n. Typed.and_statement (Typed.declare n h.3) h.4) number in
        let counted = ap length (ap all_declared_by h.7) in
        record {
          blocks = q.blocks;
          is_after = q.is_after;
          performs = record {
            lists = r.lists;
            locals = r.locals;
            is = local_joined b l c z.lists m.lists base d all h.0 h.1 h.3 h.4 (inner g w ls q.blocks r.locals r.lists) h.5.1 z.is m.is r.is
                ∙ ap (λ found. ok (found, inner g w ls q.blocks r.locals r.lists)) (sym made);
            after = then_seen g true in_full c m.lists r.lists
                (walk_of_declared g.untagged g.objects d ++ walk_of_initial g.untagged g.objects d.value)
                (walk_of_locals g.untagged g.objects all) a2 r.after;
            count = omega (arith, r.count, long, counted);
            rest = r.rest;
          };
          fit = q.fit;
        }
