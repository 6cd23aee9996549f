-- Tags along the tokens of a part, token by token.
use Rattle.std.proofs.Common.{◌≡◌, ℕ, ◌≤◌, ◌<◌, true, false, List, [], ◌∷◌, ◌++◌, refl, sym, ap, subst, arith, append-nil}
use Rattle.std.specs.List.{AllByRecursion}
use Rattle.std.proofs.lemmas.List.Elements.{All-from_recursion}
use Rattle.c_tokens.specs.declared.token.TokenKind.TheVariants as K
use Rattle.c_ast.specs.declared.words.Spelling.{Spelling}
use Rattle.c_ast.specs.Spelling.{Lexeme, word}
use Rattle.c_erasure.specs.Scopes.{Tag}
use Rattle.c_erasure.specs.Marks.{Mark, a_tag, an_end, a_name, tags_in}
use Rattle.c_checking_laws.specs.TextOrder.TextOrder.{IsUnwritten, IsTagBefore, AreTagsInOrder}
use Rattle.c_checking_laws.proofs.TextOrder.Rising.{AreRising, Rise}

-- the tag of an enumeration is written
abbrev pub IsNamed : Tag → Type 0
IsNamed t = t.is_enumeration ≡ true → IsUnwritten t.name → ⊥

pub record IsWithin (from to : ℕ) (t : Tag) : Type 0 where
  pub place_from : from ≤ t.place
  pub place_to : t.place < to
  pub from_from : from ≤ t.from
  pub from_to : t.from < to
  pub named : IsNamed t

abbrev pub AreInTurn : List Tag → Type 0
AreInTurn [] = Unit {0}
AreInTurn (t ∷ more) = AllByRecursion (IsTagBefore t) more × AreInTurn more

-- tags from a byte to another, in their order
pub record Between (from : ℕ) (tags : List Tag) (to : ℕ) : Type 0 where
  pub later : from ≤ to
  pub within : AllByRecursion (IsWithin from to) tags
  pub turns : AreInTurn tags

wider : (a b c d : ℕ) (tags : List Tag) → a ≤ b → c ≤ d → AllByRecursion (IsWithin b c) tags → AllByRecursion (IsWithin a d) tags
wider a b c d [] l m h = tt
wider a b c d (t ∷ tags) l m h =
    let w = h.0 in (
      record {
        place_from = omega (arith, l, w.place_from);
        place_to = omega (arith, m, w.place_to);
        from_from = omega (arith, l, w.from_from);
        from_to = omega (arith, m, w.from_to);
        named = w.named;
      },
      wider a b c d tags l m h.1,
    )

all_both : (P : Tag → Type 0) (a b : List Tag) → AllByRecursion P a → AllByRecursion P b → AllByRecursion P (a ++ b)
all_both P [] b h k = k
all_both P (t ∷ a) b h k = (h.0, all_both P a b h.1 k)

before_all : (a b c : ℕ) (t : Tag) (tags : List Tag) → IsWithin a b t → AllByRecursion (IsWithin b c) tags → AllByRecursion (IsTagBefore t) tags
before_all a b c t [] w h = tt
before_all a b c t (u ∷ tags) w h =
    let l = w.place_to in
    let m = h.0.place_from in (
      record { place = λ e. omega (arith, l, m, e); from = omega (arith, w.from_to, h.0.from_from) },
      before_all a b c t tags w h.1,
    )

turns_both : (a b c : ℕ) (tags others : List Tag) → AllByRecursion (IsWithin a b) tags → AreInTurn tags → AllByRecursion (IsWithin b c) others
    → AreInTurn others → AreInTurn (tags ++ others)
turns_both a b c [] others w h v k = k
turns_both a b c (t ∷ tags) others w h v k =
    (all_both (IsTagBefore t) tags others h.0 (before_all a b c t others w.0 v), turns_both a b c tags others w.1 h.1 v k)

joined : (a b c : ℕ) (tags others : List Tag) → Between a tags b → Between b others c → Between a (tags ++ others) c
joined a b c tags others h k = record {
  later = omega (arith, h.later, k.later);
  within = all_both (IsWithin a c) tags others (wider a a b c tags (omega arith) k.later h.within)
      (wider a b c c others h.later (omega arith) k.within);
  turns = turns_both a b c tags others h.within h.turns k.within k.turns;
}

sooner : (a b c : ℕ) (tags : List Tag) → a ≤ b → Between b tags c → Between a tags c
sooner a b c tags l h = record { later = omega (arith, l, h.later); within = wider a b c c tags l (omega arith) h.within; turns = h.turns }

-- ---- the tokens of a part, before those of what follows, and the tags among its marks

pub record Tagged (marks : List Mark) (tokens rest : List Lexeme) : Type 0 where
  pub along : (from : ℕ) → AreRising from tokens → (to : ℕ) × Between from (tags_in marks) to × AreRising to rest

pub none : {rest : List Lexeme} → Tagged [] rest rest
none = record { along = λ from o. (from, record { later = omega arith; within = tt; turns = tt }, o) }

pub skip : {marks : List Mark} {t : Lexeme} {tokens rest : List Lexeme} → Tagged marks tokens rest → Tagged marks (t ∷ tokens) rest
skip {marks = marks} {t = t} p = record {
  along = λ from o. let r = p.along t.to o.3 in (r.0, sooner from t.to r.0 (tags_in marks) (omega (arith, o.0, o.1)) r.1, r.2);
}

tags_of_both : (a b : List Mark) → tags_in (a ++ b) ≡ tags_in a ++ tags_in b
tags_of_both [] b = refl
tags_of_both (a_tag t ∷ a) b = ap (λ x. t ∷ x) (tags_of_both a b)
tags_of_both (an_end tag right ∷ a) b = tags_of_both a b
tags_of_both (a_name from ∷ a) b = tags_of_both a b

pub both : {a b : List Mark} {tokens middle rest : List Lexeme} → Tagged a tokens middle → Tagged b middle rest → Tagged (a ++ b) tokens rest
both {a = a} {b = b} p q = record {
  along = λ from o.
      let r = p.along from o in
      let s = q.along r.0 r.2 in
      (s.0, subst (λ tags. Between from tags s.0) (sym (tags_of_both a b)) (joined from r.0 s.0 (tags_in a) (tags_in b) r.1 s.1), s.2);
}

pub before : {a : List Mark} {tokens middle rest : List Lexeme} → Tagged a tokens middle → Tagged [] middle rest → Tagged a tokens rest
before {a = a} {tokens = tokens} {rest = rest} p q = subst (λ marks. Tagged marks tokens rest) (append-nil a) (both p q)

pub after : {a : List Mark} {tokens middle rest : List Lexeme} → Tagged [] tokens middle → Tagged a middle rest → Tagged a tokens rest
after p q = both p q

pub untagged : {tokens rest : List Lexeme} → Rise [] tokens rest → Tagged [] tokens rest
untagged p = record { along = λ from o. let r = p.along from o in (r.0, record { later = r.1; within = tt; turns = tt }, r.2) }

pub begins : {from : ℕ} {marks : List Mark} {tokens rest : List Lexeme} → Tagged marks tokens rest → Tagged (a_name from ∷ marks) tokens rest
begins p = record { along = p.along }

pub ends : {name : List ℕ} {right : ℕ} {marks : List Mark} {tokens rest : List Lexeme} → Tagged marks tokens rest
    → Tagged (an_end name right ∷ marks) tokens rest
ends p = record { along = p.along }

-- a structure
pub structure : {name : List ℕ} {t : Lexeme} {marks : List Mark} {tokens rest : List Lexeme} → Tagged marks tokens rest
    → Tagged (a_tag (record { name = name; place = t.from; from = t.from; is_enumeration = false }) ∷ marks) (t ∷ tokens) rest
structure {name = name} {t = t} {marks = marks} p = record {
  along = λ from o.
      let r = p.along t.to o.3 in
      let own : Tag = record { name = name; place = t.from; from = t.from; is_enumeration = false } in
      let w : IsWithin from t.to own = record { place_from = o.0; place_to = o.1; from_from = o.0; from_to = o.1; named = λ e. cc } in
      let one : Between from (own ∷ []) t.to = record { later = omega (arith, o.0, o.1); within = (w, tt); turns = (tt, tt) } in
      (r.0, joined from t.to r.0 (own ∷ []) (tags_in marks) one r.1, r.2);
}

-- an enumeration: its name stands before what is marked in it, and it is known from its end on
pub enumeration : {x : Spelling} {close : Lexeme} {marks : List Mark} {tokens rest : List Lexeme} → Tagged marks tokens (close ∷ rest)
    → Tagged (marks ++ a_tag (record { name = x.text; place = x.from; from = close.from; is_enumeration = true }) ∷ []) (word K.Name x ∷ tokens) rest
enumeration {x = x} {close = close} {marks = marks} p = record {
  along = λ from o.
      let r = p.along x.to o.3 in
      let inner = r.1 in
      let own : Tag = record { name = x.text; place = x.from; from = close.from; is_enumeration = true } in
      let w : IsWithin from close.to own = record {
        place_from = o.0;
        place_to = omega (arith, o.1, inner.later, r.2.0, r.2.1);
        from_from = omega (arith, o.0, o.1, inner.later, r.2.0);
        from_to = r.2.1;
        named = λ e. o.2;
      } in
      let tags = tags_in marks in
      let all : Between from (tags ++ own ∷ []) close.to = record {
        later = omega (arith, o.0, o.1, inner.later, r.2.0, r.2.1);
        within = all_both (IsWithin from close.to) tags (own ∷ [])
            (wider from x.to r.0 close.to tags (omega (arith, o.0, o.1)) (omega (arith, r.2.0, r.2.1)) inner.within) (w, tt);
        turns = and_last x.to r.0 own tags o.1 r.2.0 inner.within inner.turns;
      } in
      (close.to, subst (λ tags. Between from tags close.to) (sym (tags_of_both marks (a_tag own ∷ []))) all, r.2.3);
}
  where
    before_last : (a b : ℕ) (own : Tag) (t : Tag) → own.place < a → b ≤ own.from → IsWithin a b t → IsTagBefore t own
    before_last a b own t l m w = record { place = λ e. let f = w.place_from in omega (arith, l, f, e); from = omega (arith, m, w.from_to) }

    and_last : (a b : ℕ) (own : Tag) (tags : List Tag) → own.place < a → b ≤ own.from → AllByRecursion (IsWithin a b) tags → AreInTurn tags
        → AreInTurn (tags ++ own ∷ [])
    and_last a b own [] l m w h = (tt, tt)
    and_last a b own (t ∷ tags) l m w h =
        (all_both (IsTagBefore t) tags (own ∷ []) h.0 (before_last a b own t l m w.0, tt), and_last a b own tags l m w.1 h.1)

-- ---- of a whole list

in_order : (tags : List Tag) → AreInTurn tags → AreTagsInOrder tags
in_order [] h = tt
in_order (t ∷ more) h = (All-from_recursion (IsTagBefore t) more h.0, in_order more h.1)

all_named : (from to : ℕ) (tags : List Tag) → AllByRecursion (IsWithin from to) tags → AllByRecursion IsNamed tags
all_named from to [] h = tt
all_named from to (t ∷ tags) h = (h.0.named, all_named from to tags h.1)

pub tags_in_order : {marks : List Mark} {tokens rest : List Lexeme} (from : ℕ) → Tagged marks tokens rest → AreRising from tokens
    → AreTagsInOrder (tags_in marks)
tags_in_order {marks = marks} from p o = in_order (tags_in marks) (p.along from o).1.turns

pub tags_named : {marks : List Mark} {tokens rest : List Lexeme} (from : ℕ) → Tagged marks tokens rest → AreRising from tokens
    → AllByRecursion IsNamed (tags_in marks)
tags_named {marks = marks} from p o = let r = p.along from o in all_named from r.0 (tags_in marks) r.1.within
