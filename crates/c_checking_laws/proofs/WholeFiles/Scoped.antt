-- What is found inside of a function, in each file that goes on from the one that finding leaves and with each longer list of locals.
use Rattle.std.proofs.Common.{◌≡◌, ℕ, zero, suc, ◌+◌, Bool, true, false, refl, sym, ap, ◌∙◌, subst, List, [], ◌∷◌, ◌++◌, length, append-nil, append_assoc}
use Rattle.std.proofs.Common.{length-append, arith}
use Rattle.std.specs.Prelude.{Ok}
use Rattle.c_types.specs.Limits.{AreComplete}
use Rattle.c_ast.specs.Trees
use Rattle.c_types.specs.Types.{CType}
use Rattle.c_typed.specs.Trees as Typed
use Rattle.c_typed.specs.TypedStatements.{IsTypedInitializer}
use Rattle.c_erasure.specs.Initializers.{AreConstants}
use Rattle.c_erasure.specs.Noted.{Noted}
use Rattle.c_erasure.specs.Checking.Initializers.{initializer}
use Rattle.c_checking_laws.proofs.WholeFiles.Wholes.{typed_initial}
use Rattle.c_checking_laws.proofs.WholeFiles.TypedValues.{AreValuesTyped}
use Rattle.c_ast.specs.Places.{first}
use Rattle.c_erasure.specs.Erasure.{Erases}
use Rattle.c_erasure.specs.Files.{count_up}
use Rattle.c_erasure.specs.Literals.{literals}
use Rattle.c_erasure.specs.Marks.{Mark, marks}
use Rattle.c_erasure.specs.MentionPlaces.{spoken}
use Rattle.c_erasure.specs.Noted.{Expression}
use Rattle.c_erasure.specs.Scopes.{FileScope, Scope, ALocal}
use Rattle.c_erasure.specs.Scopes.{in_full, is_measured, declared}
use Rattle.c_erasure.specs.Checking.Answers.{moved}
use Rattle.c_erasure.specs.Checking.Finding.{value_at, find}
use Rattle.c_erasure.specs.Checking.Statements.{leaving, value_of_expression}
use Rattle.c_checking_laws.proofs.Results.{bound_ok, given}
use Rattle.c_checking_laws.proofs.Extends.{Extends, itself, further}
use Rattle.c_checking_laws.proofs.Agreement.{added, blocks_stay, IsReady, Ready, IsGrown, Grew}
use Rattle.c_checking_laws.proofs.Values.{IsValue}
use Rattle.c_checking_laws.proofs.InRange.{IsInRange}
use Rattle.c_checking_laws.proofs.Adding.{Adds, Grows, makes_none, adds_nothing, adds_then, as_inside}
use Rattle.c_checking_laws.proofs.FoundTypes.{ready_inside, added_inside}
use Rattle.c_checking_laws.proofs.Sound.{sound_value_of}
use Rattle.c_checking_laws.proofs.Growth.{grow_value_of}
use Rattle.std.proofs.Common.{◌<◌, inl, inr}
use Rattle.std.proofs.lemmas.List.Elements.{All-cons, All-nil}
use Rattle.std.specs.Prelude.{◌⊎◌, Some, slice_get}
use Rattle.c_types.specs.declared.ty.IntKind.TheVariants.{Char}
use Rattle.c_types.specs.Objects.{is_object}
use Rattle.c_types.specs.Types.{integer, array}
use Rattle.c_ast.specs.declared.words.Spelling.{Spelling}
use Rattle.c_typed.specs.Parts.{itself as itself_part}
use Rattle.c_typed.specs.Typed.{Declared}
use Rattle.c_typed.specs.TypedStatements.{IsTypedPart}
use Rattle.c_erasure.specs.Erasure.{literal_of, literal_object}
use Rattle.c_erasure.specs.Initializers.{Part, HasConstant, IsInitializer}
use Rattle.c_erasure.specs.Scopes.{AnObject, at_file_scope}
use Rattle.c_checking_laws.proofs.Extends.{one_of_both}
use Rattle.c_checking_laws.proofs.WholeFiles.Layouts.{object_stays}
use Rattle.c_checking_laws.proofs.WholeFiles.InTime.{IsTimely}
use Rattle.c_checking_laws.proofs.WholeFiles.Kept.{Keeps, AreObjectsWhole, IsALiteral}
use Rattle.c_checking_laws.proofs.WholeFiles.Keeping.{keep_value_of, literal_is_whole}
use Rattle.c_checking_laws.proofs.WholeFiles.Layouts.{IsLaid}
use Rattle.c_checking_laws.proofs.WholeFiles.Parts.{Parted, none, all_made, parted_then, NoneBegins, none_left, none_right}
use Rattle.c_checking_laws.proofs.WholeFiles.Longer.{seen, GoesOn, goes_further, ready_longer}
use Rattle.c_checking_laws.proofs.WholeFiles.SameLocals.{with_locals, same_find}

-- ---- what is asked of a scope inside of a function that begins in a file

pub record IsWithin (untagged : ℕ → List ℕ) (f : FileScope) (s : Scope) : Type 0 where
  pub inside : s.is_inside ≡ true
  pub full : s.purpose ≡ in_full
  pub ready : IsReady s.file s.locals s.blocks true []
  pub complete : AreComplete s.file.records
  pub whole : AreObjectsWhole s.file.records s.file.objects
  pub extends : Extends f s.file
  pub same : s.file.untagged ≡ untagged

pub ready_for : {untagged : ℕ → List ℕ} {f : FileScope} {s : Scope} → IsWithin untagged f s → (l : List ALocal) → GoesOn s.locals l → (u : List Mark)
    → Ready (with_locals l s) u
ready_for {s} w l p u =
    ready_inside w.inside [] u
    (subst (λ b. IsReady s.file l s.blocks b []) (sym w.inside) (ready_longer p w.ready))

pub outside : {P : Type 0} {b : Bool} → b ≡ true → b ≡ false → P
outside e f = let true_is_false : true ≡ false = sym e ∙ f in cc

-- inside nothing is declared at file scope
abbrev pub AddsInside : FileScope → (types made : List ℕ) → FileScope → Type 0
AddsInside f types made g = Adds f true false false [] types made g

pub inside_grows : (s : Scope) (u : List Mark) (x k : List ℕ) (g : FileScope) → s.is_inside ≡ true → s.purpose ≡ in_full → Grows s u x k g
    → AddsInside s.file x k g
inside_grows s u x k g i p h =
    as_inside {a = s.is_inside} {d = true} {u = u} i
    (subst (λ p. Adds s.file s.is_inside (is_measured p) (makes_none p) u x k g) p h)

-- structures are defined at file scope alone
no_more : {X : Type 0} (xs ys zs : List X) → zs ≡ xs ++ ys → length zs ≡ length xs → zs ≡ xs
no_more xs [] zs e h = e ∙ append-nil xs
no_more xs (y ∷ ys) zs e h = absurd (let n = ap length e ∙ length-append xs (y ∷ ys) in omega (arith, n, h))

pub records_same : {f g : FileScope} → Extends f g → length g.records ≡ length f.records → g.records ≡ f.records
records_same {f} {g} p h = no_more f.records p.records.0 g.records p.records.1 h

pub grown_none : {f g : FileScope} {b : Bool} {u : List Mark} → added b u ≡ 0 → IsGrown f b u g → length g.records ≡ length f.records
grown_none e p = omega (arith, e, p.counted)

-- ---- what is asked of a later file and its locals

-- the constants of an initializer that is found, and asks for records in time, have their values in a later file too
abbrev pub KeepsConstants : FileScope → FileScope → Type 0
KeepsConstants f g = AreComplete f.records → AreObjectsWhole f.records f.objects → (a : Trees.Expression) (s : Scope) (t : CType)
    (i : Typed.Initializer Noted) (l : List ALocal) → IsTimely f a → initializer a s t ≡ Ok (i, f)
    → IsInitializer a (seen s g l) t i → IsTypedInitializer (declared (seen s g l)) t (typed_initial i) → AreValuesTyped (declared (moved s f)) i → AreConstants (declared (moved s f)) i
    → AreConstants (declared (seen s g l)) i

pub record IsLater (f : FileScope) (after : Scope) (texts : List ℕ) (g : FileScope) (l : List ALocal) : Type 0 where
  pub extends : Extends after.file g
  pub locals : GoesOn after.locals l
  pub laid : IsLaid g
  pub none_begins : NoneBegins g texts
  pub constants : (h : FileScope) → Extends f h → Extends h g → KeepsConstants h g

-- ---- objects that a function makes

abbrev pub IsMadeTyped : Declared → CType → Typed.Initializer Noted → Type 0
IsMadeTyped d t i = (i ≡ Typed.parts []) ⊎ (IsTypedInitializer d t (typed_initial i) × AreConstants d i)

-- one that no other file can name, and that holds constants of its type
pub record IsInner (f : FileScope) (after : Scope) (texts : List ℕ) (o : AnObject) : Type 0 where
  pub linked : o.is_linked ≡ false
  pub initial : Typed.Initializer Noted
  pub initial_is : o.initial ≡ Some initial
  pub whole : is_object (length after.file.records) o.ty ≡ true
  pub typed : (g : FileScope) (l : List ALocal) → IsLater f after texts g l → IsMadeTyped (declared (with_locals l (at_file_scope g))) o.ty initial

abbrev pub AreInner : FileScope → Scope → Scope → List ℕ → Type 0
AreInner f s after texts = (n : ℕ) (o : AnObject) → slice_get after.file.objects n ≡ Some o
    → (slice_get s.file.objects n ≡ Some o) ⊎ IsInner f after texts o

-- what is new where a part of the text keeps the rest
pub new_of : {f g : FileScope} {i : Bool} {u : List Mark} → Keeps f i u g → (n : ℕ) (o : AnObject) → slice_get g.objects n ≡ Some o
    → (slice_get f.objects n ≡ Some o) ⊎ IsALiteral f.file o
new_of {f} {g} p n o e = by_part (one_of_both f.objects p.objects.0 n o (subst (λ all. slice_get all n ≡ Some o) p.objects.1 e))
  where
    by_part : (slice_get f.objects n ≡ Some o) ⊎ ((j : ℕ) × (n ≡ length f.objects + j) × (slice_get p.objects.0 j ≡ Some o))
        → (slice_get f.objects n ≡ Some o) ⊎ IsALiteral f.file o
    by_part (inl h) = inl h
    by_part (inr h) = inr (p.objects.2 h.0 o h.2)

pub literal_typed : (d : Declared) (file at : ℕ) (all : List Spelling)
    → IsMadeTyped d (literal_object (record { file = file; at = at }) (literal_of all)).ty
    (Typed.parts (record { offset = 0; value = Typed.text (literal_of all) } ∷ []))
literal_typed d file at all =
    let t = array (integer Char) (length (literal_of all)) in
    let part : Typed.Part CType = record { offset = 0; value = Typed.text (literal_of all) } in
    inr (
      (
        refl,
        All-cons (IsTypedPart d t) part [] (t, itself_part t, (Char, length (literal_of all), refl, refl, omega arith)) (All-nil (IsTypedPart d t)),
        (All-nil (λ (next : Typed.Part CType). 0 < next.offset), tt),
      ),
      All-cons (λ (part : Part). HasConstant d part.value) (record { offset = 0; value = Typed.text (literal_of all) }) [] tt
          (All-nil (λ (part : Part). HasConstant d part.value)),
    )

pub literal_inner : (f : FileScope) (after : Scope) (texts : List ℕ) (file : ℕ) (o : AnObject) → IsALiteral file o → IsInner f after texts o
literal_inner f after texts file o h = subst (IsInner f after texts) (sym h.2) (record {
  linked = refl;
  initial = Typed.parts (record { offset = 0; value = Typed.text (literal_of h.1) } ∷ []);
  initial_is = refl;
  whole = literal_is_whole (length after.file.records) h.1;
  typed = λ g l e. literal_typed (declared (with_locals l (at_file_scope g))) file h.0 h.1;
})

pub inner_of : (f : FileScope) (s after : Scope) (texts : List ℕ) {i : Bool} {u : List Mark} → Keeps s.file i u after.file → AreInner f s after texts
inner_of f s after texts k n o e = by_part (new_of k n o e)
  where
    by_part : (slice_get s.file.objects n ≡ Some o) ⊎ IsALiteral s.file.file o → (slice_get s.file.objects n ≡ Some o) ⊎ IsInner f after texts o
    by_part (inl h) = inl h
    by_part (inr h) = inr (literal_inner f after texts s.file.file o h)

pub inner_later : (f : FileScope) (m n : Scope) (u v : List ℕ) → Extends m.file n.file
    → ((g : FileScope) (l : List ALocal) → IsLater f n v g l → IsLater f m u g l) → (o : AnObject) → IsInner f m u o → IsInner f n v o
inner_later f m n u v p into o h = record {
  linked = h.linked;
  initial = h.initial;
  initial_is = h.initial_is;
  whole = object_stays p o.ty h.whole;
  typed = λ g l e. h.typed g l (into g l e);
}

-- ---- locals are numbered in their order

pub counted : (from n m : ℕ) → count_up from n ++ count_up (from + n) m ≡ count_up from (n + m)
counted from zero m = let e : from + 0 ≡ from = omega arith in let z : 0 + m ≡ m = omega arith in rw (e, z) refl
counted from (suc n) m =
    let e : from + suc n ≡ from + 1 + n = omega arith in
    let z : suc n + m ≡ suc (n + m) = omega arith in
    ap (λ b. from ∷ (count_up (from + 1) n ++ count_up b m)) e ∙ ap (λ z. from ∷ z) (counted (from + 1) n m) ∙ ap (count_up from) (sym z)

module _ (untagged : ℕ → List ℕ) (f : FileScope) where
  -- a part of a function of which that holds, with the locals that it declares, and the scope after it
  pub record FoundIn (s : Scope) (x k : List ℕ) (Holds : FileScope → List ALocal → Type 0) (numbers : List ℕ) (after : Scope) : Type 0 where
    pub within : IsWithin untagged f after
    pub extends : Extends s.file after.file
    pub more : List ALocal
    pub locals : after.locals ≡ s.locals ++ more
    pub numbered : numbers ≡ count_up (length s.locals) (length more)
    pub made : List ℕ
    pub texts : List ℕ
    pub parted : Parted k made texts
    pub grows : AddsInside s.file x made after.file
    pub inner : AreInner f s after texts
    pub holds : (g : FileScope) (l : List ALocal) → IsLater f after texts g l → Holds g l

  -- one part after another
  pub then_in : (s m n : Scope) (x y k l : List ℕ) (A B C : FileScope → List ALocal → Type 0) (i j : List ℕ) → FoundIn s x k A i m → FoundIn m y l B j n
      → ((g : FileScope) (l : List ALocal) → Extends n.file g → IsLaid g → GoesOn n.locals l → A g l → B g l → C g l)
      → FoundIn s (x ++ y) (k ++ l) C (i ++ j) n
  then_in s m n x y k l A B C i j p q both = record {
    within = q.within;
    extends = further p.extends q.extends;
    more = p.more ++ q.more;
    locals = q.locals ∙ ap (λ z. z ++ q.more) p.locals ∙ append_assoc s.locals p.more q.more;
    numbered =
        ap (λ z. z ++ j) p.numbered
        ∙ ap (λ z. count_up (length s.locals) (length p.more) ++ z)
        (q.numbered ∙ ap (λ b. count_up b (length q.more)) (ap length p.locals ∙ length-append s.locals p.more))
        ∙ counted (length s.locals) (length p.more) (length q.more)
        ∙ ap (count_up (length s.locals)) (sym (length-append p.more q.more));
    made = p.made ++ q.made;
    texts = p.texts ++ q.texts;
    parted = parted_then p.parted q.parted;
    grows = adds_then p.grows q.grows;
    inner = λ k o e. by_part k o (q.inner k o e);
    holds = λ g l h. both g l h.extends h.laid h.locals (p.holds g l (first g l h)) (q.holds g l (second g l h));
  }
    where
      first : (g : FileScope) (l : List ALocal) → IsLater f n (p.texts ++ q.texts) g l → IsLater f m p.texts g l
      first g l h = record {
        extends = further q.extends h.extends;
        locals = goes_further m.locals n.locals l (q.more, q.locals) h.locals;
        laid = h.laid;
        none_begins = none_left g p.texts q.texts h.none_begins;
        constants = h.constants;
      }

      second : (g : FileScope) (l : List ALocal) → IsLater f n (p.texts ++ q.texts) g l → IsLater f n q.texts g l
      second g l h = record {
        extends = h.extends;
        locals = h.locals;
        laid = h.laid;
        none_begins = none_right g p.texts q.texts h.none_begins;
        constants = h.constants;
      }

      before : (k : ℕ) (o : AnObject) → (slice_get s.file.objects k ≡ Some o) ⊎ IsInner f m p.texts o
          → (slice_get s.file.objects k ≡ Some o) ⊎ IsInner f n (p.texts ++ q.texts) o
      before k o (inl e) = inl e
      before k o (inr e) = inr (inner_later f m n p.texts (p.texts ++ q.texts) q.extends first o e)

      by_part : (k : ℕ) (o : AnObject) → (slice_get m.file.objects k ≡ Some o) ⊎ IsInner f n q.texts o
          → (slice_get s.file.objects k ≡ Some o) ⊎ IsInner f n (p.texts ++ q.texts) o
      by_part k o (inl e) = before k o (p.inner k o e)
      by_part k o (inr e) = inr (inner_later f n n q.texts (p.texts ++ q.texts) (itself n.file) second o e)

  -- what holds of one part, said in another way
  pub as_said : (s after : Scope) (x k : List ℕ) (A B : FileScope → List ALocal → Type 0) (i j : List ℕ) → FoundIn s x k A i after → i ≡ j
      → ((g : FileScope) (l : List ALocal) → Extends after.file g → IsLaid g → GoesOn after.locals l → A g l → B g l) → FoundIn s x k B j after
  as_said s after x k A B i j p e is = record {
    within = p.within;
    extends = p.extends;
    more = p.more;
    locals = p.locals;
    numbered = sym e ∙ p.numbered;
    made = p.made;
    texts = p.texts;
    parted = p.parted;
    grows = p.grows;
    inner = p.inner;
    holds = λ g l h. is g l h.extends h.laid h.locals (p.holds g l h);
  }

  pub nothing_in : (s : Scope) (A : FileScope → List ALocal → Type 0) → IsWithin untagged f s → ((g : FileScope) (l : List ALocal) → A g l)
      → FoundIn s [] [] A [] s
  nothing_in s A w is = record {
    within = w;
    extends = itself s.file;
    more = [];
    locals = sym (append-nil s.locals);
    numbered = refl;
    made = [];
    texts = [];
    parted = none;
    grows = adds_nothing s.file true false false;
    inner = λ n o h. inl h;
    holds = λ g l h. is g l;
  }

  -- the scope that a part of an expression leaves
  pub within_moved : (s : Scope) (u : List Mark) (g : FileScope) → IsWithin untagged f s → Grew s u g → Keeps s.file s.is_inside u g
      → IsWithin untagged f (moved s g)
  within_moved s u g w p k = record {
    inside = w.inside;
    full = w.full;
    ready = record {
      names_fit = p.names s.locals w.ready.names_fit;
      blocks_fit = blocks_stay p.extends s.locals s.blocks w.ready.blocks_fit;
      ends_stand = λ j n right h. cc;
    };
    complete = subst AreComplete (sym (records_same p.extends (grown_none (added_inside w.inside u) p))) w.complete;
    whole = k.whole w.whole;
    extends = further w.extends p.extends;
    same = p.extends.untagged ∙ w.same;
  }

  -- ---- expressions

  abbrev pub IsFoundValue : Trees.Expression → Scope → Expression → FileScope → List ALocal → Type 0
  IsFoundValue a s x g l = IsValue (Erases a (seen s g l)) (seen s g l) x

  -- what is found beside a scope that is as before but for its file and locals
  pub record FoundBeside (s : Scope) (x k : List ℕ) (Holds : FileScope → List ALocal → Type 0) (numbers : List ℕ) (after : Scope) : Type 0 where
    pub found : FoundIn s x k Holds numbers after
    pub stays : after ≡ leaving s after

  pub value_in : (a : Trees.Expression) (s : Scope) → IsInRange a → IsWithin untagged f s → (z : Expression × Scope) → value_of_expression a s ≡ Ok z
      → FoundBeside s (spoken a) (literals a) (IsFoundValue a s z.0) [] z.1
  value_in a s n w z h =
      let x = bound_ok (value_at (first a) (find a s)) _ z h in
      let own = sound_value_of untagged a s n (ready_for w s.locals ([], sym (append-nil s.locals)) (marks untagged a)) (first a) x.0 x.1 in
      let keeps = keep_value_of untagged [] a s w.same (λ i. outside w.inside i) (first a) x.0 x.1 in
      let after = within_moved s (marks untagged a) x.0.1 w own.grew keeps in
      given (λ (z : Expression × Scope). FoundBeside s (spoken a) (literals a) (IsFoundValue a s z.0) [] z.1) (x.0.0, moved s x.0.1) z x.2 (record {
        found = record {
          within = after;
          extends = own.grew.extends;
          more = [];
          locals = sym (append-nil s.locals);
          numbered = refl;
          made = literals a;
          texts = [];
          parted = all_made (literals a);
          grows = inside_grows s (marks untagged a) (spoken a) (literals a) x.0.1 w.inside w.full (grow_value_of untagged a s w.same (first a) x.0 x.1);
          inner = inner_of f s (moved s x.0.1) [] keeps;
          holds = λ g l h.
              let e : value_at (first a) (find a (with_locals l s)) ≡ Ok x.0 = ap (value_at (first a)) (same_find l a s) ∙ x.1 in
              (sound_value_of untagged a (with_locals l s) n (ready_for w l h.locals (marks untagged a)) (first a) x.0 e).holds g h.extends;
        };
        stays = refl;
      })
