-- A put of a piece and then of the rest is one put of both.
use Rattle.std.proofs.Common.{◌≡◌, ℕ, codes, zero, suc, ◌+◌, ◌<◌, ◌≤◌, List, [], ◌∷◌, ◌++◌, length, map, take, drop, get_or, min, Option, Some, None}
use Rattle.std.proofs.Common.{Result, Ok, Err, option_map, Bor, refl, sym, ap, subst, ◌∙◌, append_assoc, append-nil, arith}
use Rattle.std.proofs.Math.Seq.{take-append-add}
use Rattle.std.proofs.lemmas.List.{take-append-le, take_min}
use Rattle.std.specs.List.{concat}
use Rattle.lay_base.specs.declared.outside.SinkFault.{SinkFault}
use Rattle.lay_base.specs.Known.{Rose, Appends}
use Rattle.lay_base.specs.Calls.{PutGives}
use Rattle.refusals.specs.Puts.{Puts}
use Rattle.refusals.specs.Table.{line, line_at}

-- ---- two puts in a row

-- known bytes with one piece after them and then another
joined : (p q : List ℕ) (old : Option (List ℕ))
    → option_map (λ bytes. bytes ++ q) (option_map (λ bytes. bytes ++ p) old) ≡ option_map (λ bytes. bytes ++ (p ++ q)) old
joined p q None = refl
joined p q (Some bytes) = ap Some (append_assoc bytes p q)

-- what gained one piece and then another gained both
appends_both : (old between new : Option (List ℕ)) (p q : List ℕ) → Appends old between p → Appends between new q → Appends old new (p ++ q)
appends_both old between new p q a b = b ∙ ap (option_map (λ bytes. bytes ++ q)) a ∙ joined p q old

-- what gains nothing stays
appends_none : (old : Option (List ℕ)) → Appends old old []
appends_none None = refl
appends_none (Some bytes) = ap Some (sym (append-nil bytes))

-- a first part of a piece is one of the piece with more after it
prefix : (k : ℕ) (p q : List ℕ) → take (min k (length p)) (p ++ q) ≡ take k p
prefix k p q = let within : min k (length p) ≤ length p = omega arith in rw take-append-le (take_min k p)

-- where the first piece fails, both fail
gives_first : (before now : ℕ) (old new : Option (List ℕ)) (p q : List ℕ) (fault : SinkFault) → PutGives before now old new p (Err fault)
    → PutGives before now old new (p ++ q) (Err fault)
gives_first before now old new p q fault h =
    (h.0, (min h.1.0 (length p), h.1.1 ∙ ap (λ piece. option_map (λ bytes. bytes ++ piece) old) (sym (prefix h.1.0 p q))))

-- where the first piece is put, both come to what the second comes to
gives_both : (before mid now : ℕ) (old between new : Option (List ℕ)) (p q : List ℕ) (result : Result (Unit {0}) SinkFault) → mid ≡ before
    → Appends old between p → PutGives mid now between new q result → PutGives before now old new (p ++ q) result
gives_both before mid now old between new p q (Ok done) kept a h = appends_both old between new p q a h
gives_both before mid now old between new p q (Err fault) kept a h =
    let rose : Rose before now = subst (λ (n : ℕ). Rose n now) kept h.0 in
    let both : Appends old new (p ++ take h.1.0 q) = appends_both old between new p (take h.1.0 q) a h.1.1 in
    (rose, (length p + h.1.0, both ∙ ap (λ piece. option_map (λ bytes. bytes ++ piece) old) (sym (take-append-add p q h.1.0))))

pub puts_nothing : (count : ℕ) (old : Option (List ℕ)) → Puts count count old old [] (Ok tt)
puts_nothing count old = record { count = omega arith; kept = λ _. refl; gives = appends_none old }

pub fails_first : {before now : ℕ} {old new : Option (List ℕ)} {p : List ℕ} {fault : SinkFault} (q : List ℕ) → Puts before now old new p (Err fault)
    → Puts before now old new (p ++ q) (Err fault)
fails_first {before} {now} {old} {new} {p} {fault} q h = record {
  count = h.count;
  kept = h.kept;
  gives = gives_first before now old new p q fault h.gives;
}

pub puts_both : {before mid now : ℕ} {old between new : Option (List ℕ)} {p q : List ℕ} {result : Result (Unit {0}) SinkFault}
    → Puts before mid old between p (Ok tt) → Puts mid now between new q result → Puts before now old new (p ++ q) result
puts_both {before} {mid} {now} {old} {between} {new} {p} {q} {result} a h = record {
  count = let e : mid ≡ before = a.kept refl in omega (arith, h.count);
  kept = λ ok. h.kept ok ∙ a.kept refl;
  gives = gives_both before mid now old between new p q result (a.kept refl) a.gives h.gives;
}

-- ---- a list of pieces

-- the bytes of all pieces
abbrev pub all_of : List (Bor (List ℕ)) → List ℕ
all_of pieces = concat (map (λ piece. piece.now) pieces)

-- what a list of pieces has past its end
abbrev pub no_piece : Bor (List ℕ)
no_piece = record { ref_ptr = (0, 0); now = [] }

-- the bytes of one more piece stand at the end
pub all_of-take-suc : (pieces : List (Bor (List ℕ))) (i : ℕ) → i < length pieces
    → all_of (take (suc i) pieces) ≡ all_of (take i pieces) ++ (get_or pieces i no_piece).now
all_of-take-suc [] i h = absurd (omega arith)
all_of-take-suc (x ∷ xs) zero h = append-nil x.now
all_of-take-suc (x ∷ xs) (suc i) h =
    ap (λ bytes. x.now ++ bytes) (all_of-take-suc xs i (omega arith)) ∙ sym (append_assoc x.now (all_of (take i xs)) (get_or xs i no_piece).now)

-- the bytes of a piece stand between those before it and those after it
pub all_of-split : (pieces : List (Bor (List ℕ))) (i : ℕ) → i < length pieces
    → all_of pieces ≡ all_of (take i pieces) ++ ((get_or pieces i no_piece).now ++ all_of (drop (suc i) pieces))
all_of-split [] i h = absurd (omega arith)
all_of-split (x ∷ xs) zero h = refl
all_of-split (x ∷ xs) (suc i) h =
    ap (λ bytes. x.now ++ bytes) (all_of-split xs i (omega arith)) ∙ sym (append_assoc x.now (all_of (take i xs))
    ((get_or xs i no_piece).now ++ all_of (drop (suc i) xs)))

-- a line is its head, the pieces and its end
pub line-pieces : (pieces : List (List ℕ)) → line pieces ≡ codes "layc: " ++ (concat pieces ++ codes "\n")
unfolding line
line-pieces pieces = refl

-- so is a line after a place
pub line_at-pieces : (at : List ℕ) (pieces : List (List ℕ))
    → line_at at pieces ≡ (codes "layc: " ++ (at ++ (codes ": " ++ []))) ++ (concat pieces ++ codes "\n")
unfolding line line_at
line_at-pieces at pieces = simp append_assoc
