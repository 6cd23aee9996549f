-- A table of the places of names, where one declaration more is noted.
use Rattle.std.proofs.Common.{◌≡◌, ℕ, ◌+◌, Bool, true, false, List, [], ◌∷◌, ◌++◌, length, Option, Some, None, refl, sym, ap, ◌∙◌, cond, arith}
use Rattle.std.specs.Prelude.{◌&&◌, if◌then◌else◌, unwrap_or}
use Rattle.std.specs.Option.{option_and_then, option_map, option_or}
use Rattle.std.specs.Global.{Vec}
use Rattle.std.specs.Str.{bytes_eq}
use Rattle.std.proofs.lemmas.Slice.Eq.{bytes_eq-Decides}
use Rattle.indexmap.specs.IndexMap.{insert_entry}
use Rattle.c_erasure.specs.Scopes.{or_else}
use Rattle.c_scopes.specs.SyntaxTags.Keys.{found_at}
use Rattle.c_annotated.specs.declared.names.Bound.{Bound}
use Rattle.c_scopes.specs.declared.places.Places.{Places}
use Rattle.c_scopes.specs.Places.{declared_at, declares, defined_at, defines, first_place, is_defining, HasPlaces}

-- ---- an entry that is new, or in place of another

same : (x y : List ℕ) → bytes_eq x y ≡ true → x ≡ y
same x y h = (bytes_eq-Decides x y).0 h

-- the tests of a name, each way round
turned : (x y : List ℕ) → bytes_eq x y ≡ bytes_eq y x
turned x y = grind (arith, bytes_eq-Decides x y, bytes_eq-Decides y x)

abbrev with_entry : List (Vec ℕ × Places) → Vec ℕ → Places → List (Vec ℕ × Places)
with_entry es k v = insert_entry (λ a b. bytes_eq a.items b.items) es k v

inserted : (es : List (Vec ℕ × Places)) (k : Vec ℕ) (v : Places) (x : List ℕ)
    → found_at (with_entry es k v) x ≡ cond (bytes_eq x k.items) (Some v) (found_at es x)
inserted [] k v x = refl
inserted (e ∷ es) k v x = by (bytes_eq k.items e.0.items) refl (inserted es k v x)
  where
    here : (b c : Bool) → b ≡ c → cond b (Some v) (found_at es x) ≡ cond c (Some v) (cond b (Some e.1) (found_at es x))
    here true true s = refl
    here true false s = cc
    here false true s = cc
    here false false s = refl

    there : (b c : Bool) (rest : Option Places) → (b ≡ true → c ≡ false) → cond b (Some e.1) (cond c (Some v) rest) ≡ cond c (Some v) (cond b (Some e.1) rest)
    there true true rest s = let f : true ≡ false = s refl in cc
    there true false rest s = refl
    there false c rest s = refl

    apart : bytes_eq k.items e.0.items ≡ false → bytes_eq x e.0.items ≡ true → bytes_eq x k.items ≡ false
    apart s t = let f : x ≡ e.0.items = same x e.0.items t in rw f (turned e.0.items k.items ∙ s)

    by : (b : Bool) → bytes_eq k.items e.0.items ≡ b → found_at (with_entry es k v) x ≡ cond (bytes_eq x k.items) (Some v) (found_at es x)
        → found_at (if b then (e.0, v) ∷ es else e ∷ with_entry es k v) x ≡ cond (bytes_eq x k.items) (Some v) (found_at (e ∷ es) x)
    by true s rest = here (bytes_eq x e.0.items) (bytes_eq x k.items) (ap (bytes_eq x) (sym (same k.items e.0.items s)))
    by false s rest = ap (λ r. cond (bytes_eq x e.0.items) (Some e.1) r) rest
        ∙ there (bytes_eq x e.0.items) (bytes_eq x k.items) (found_at es x) (apart s)

or_none : {A : Type 0} (o : Option A) → o ≡ or_else o None
or_none None = refl
or_none (Some x) = refl

unwrapped : (o : Option ℕ) (n : ℕ) → Some (unwrap_or o n) ≡ or_else o (Some n)
unwrapped None n = refl
unwrapped (Some k) n = refl

either : (o p : Option ℕ) → option_or o p ≡ or_else o p
either None p = refl
either (Some k) p = refl

found_new : (old new : List (Vec ℕ × Places)) (k : Vec ℕ) (known : Places) (name x : List ℕ) → k.items ≡ name → new ≡ with_entry old k known
    → found_at new x ≡ cond (bytes_eq name x) (Some known) (found_at old x)
found_new old new k known name x e i =
    ap (λ es. found_at es x) i ∙ inserted old k known x ∙ ap (λ t. cond t (Some known) (found_at old x)) (ap (bytes_eq x) e ∙ turned x name)

pub declared_noted : (old new : List (Vec ℕ × Places)) (k : Vec ℕ) (known : Places) (place : ℕ) (name : List ℕ) → k.items ≡ name
    → known.declared ≡ unwrap_or (declared_at old name) place → new ≡ with_entry old k known
    → (x : List ℕ) → declared_at new x ≡ or_else (declared_at old x) (if bytes_eq name x then Some place else None)
declared_noted old new k known place name e d i x =
    ap (option_map (λ p. p.declared)) (found_new old new k known name x e i) ∙ by (bytes_eq name x) refl
  where
    by : (t : Bool) → bytes_eq name x ≡ t
        → option_map (λ p. p.declared) (cond t (Some known) (found_at old x)) ≡ or_else (declared_at old x) (if t then Some place else None)
    by true s = ap Some d ∙ unwrapped (declared_at old name) place ∙ ap (λ y. or_else (declared_at old y) (Some place)) (same name x s)
    by false s = or_none (declared_at old x)

pub defined_noted : (old new : List (Vec ℕ × Places)) (k : Vec ℕ) (known : Places) (definition : Option ℕ) (name : List ℕ) → k.items ≡ name
    → known.defined ≡ option_or (defined_at old name) definition → new ≡ with_entry old k known
    → (x : List ℕ) → defined_at new x ≡ or_else (defined_at old x) (if bytes_eq name x then definition else None)
defined_noted old new k known definition name e d i x =
    ap (option_and_then (λ p. p.defined)) (found_new old new k known name x e i) ∙ by (bytes_eq name x) refl
  where
    by : (t : Bool) → bytes_eq name x ≡ t
        → option_and_then (λ p. p.defined) (cond t (Some known) (found_at old x)) ≡ or_else (defined_at old x) (if t then definition else None)
    by true s = d ∙ either (defined_at old name) definition ∙ ap (λ y. or_else (defined_at old y) definition) (same name x s)
    by false s = or_none (defined_at old x)

-- ---- a list with one more

abbrev pick : Bool → ℕ → Option ℕ
pick b n = if b then Some n else None

abbrev next : Option ℕ → Option ℕ
next o = option_map (λ k. k + 1) o

place_more : (test : Bound → Bool) (all : List Bound) (b : Bound)
    → first_place test (all ++ b ∷ []) ≡ or_else (first_place test all) (pick (test b) (length all))
place_more test [] b = refl
place_more test (a ∷ all) b = by (test a) (first_place test all) (test b) (place_more test all b)
  where
    by : (t : Bool) (o : Option ℕ) (u : Bool) → first_place test (all ++ b ∷ []) ≡ or_else o (pick u (length all))
        → cond t (Some 0) (next (first_place test (all ++ b ∷ []))) ≡ or_else (cond t (Some 0) (next o)) (pick u (length (a ∷ all)))
    by true o u h = refl
    by false (Some n) u h = ap next h
    by false None true h = ap next h ∙ ap Some (omega arith)
    by false None false h = ap next h

both : (a b : Bool) (n : ℕ) → (if a then pick b n else None) ≡ pick (a && b) n
both true b n = refl
both false b n = refl

pub has_one_more : (old new : List (Vec ℕ × Places)) (all more : List Bound) (b : Bound) (name : List ℕ) (place : ℕ) (definition : Option ℕ)
    → HasPlaces old all
    → ((x : List ℕ) → declared_at new x ≡ or_else (declared_at old x) (if bytes_eq name x then Some place else None))
    → ((x : List ℕ) → defined_at new x ≡ or_else (defined_at old x) (if bytes_eq name x then definition else None))
    → more ≡ all ++ b ∷ [] → name ≡ b.name → place ≡ length all → definition ≡ (if is_defining b.how then Some place else None) → HasPlaces new more
has_one_more old new all more b name place definition has declared defined e i p d = record {
  declared = λ x.
      declared x ∙ ap (λ o. or_else o (if bytes_eq name x then Some place else None)) (has.declared x)
      ∙ ap (λ n. or_else (first_place (declares x) all) (if bytes_eq n x then Some place else None)) i
      ∙ ap (λ n. or_else (first_place (declares x) all) (if bytes_eq b.name x then Some n else None)) p
      ∙ sym (place_more (declares x) all b) ∙ ap (first_place (declares x)) (sym e);
  defined = λ x.
      defined x ∙ ap (λ o. or_else o (if bytes_eq name x then definition else None)) (has.defined x)
      ∙ ap (λ n. or_else (first_place (defines x) all) (if bytes_eq n x then definition else None)) i
      ∙ ap (λ o. or_else (first_place (defines x) all) (if bytes_eq b.name x then o else None)) (d ∙ ap (pick (is_defining b.how)) p)
      ∙ ap (or_else (first_place (defines x) all)) (both (bytes_eq b.name x) (is_defining b.how) (length all))
      ∙ sym (place_more (defines x) all b) ∙ ap (first_place (defines x)) (sym e);
}
