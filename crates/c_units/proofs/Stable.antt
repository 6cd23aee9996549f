-- Functions are numbered one after the other, since types that are added later change no number of those that are there.
use Rattle.std.proofs.Common.{◌≡◌, Vec, ℕ, ◌+◌, ◌<◌, Bool, true, false, ◌||◌, List, [], ◌∷◌, ◌++◌, drop, get_or, length, map, flat_map, fold, refl, sym, ap, ◌∙◌, arith}
use Rattle.std.proofs.Common.{append_assoc, rules}
use Rattle.std.specs.Prelude.{Option, Some, None, if◌then◌else◌, not, ◌&&◌}
use Rattle.std.specs.List.{list_any, AllByRecursion}
use Rattle.std.specs.Option.{option_map}
use Rattle.std.proofs.lemmas.List.{append-nil, drop_more, map-append}
use Rattle.std.proofs.lemmas.List.Concat.{flat_map-append}
use Rattle.std.proofs.lemmas.List.Elements.{filter-append}
use Rattle.std.proofs.lemmas.List.Sums.{fold-append}
use Rattle.c_types.proofs.SameTypes.{same_is, same_self}
use Rattle.c_types.specs.Sameness.{same_type}
use Rattle.c_types.specs.Types.{CType}
use Rattle.c_numbers.specs.TypeNumbers.Adding.{with_type}
use Rattle.c_typed.specs.Mapped.{mapped_statement, of_types}
use Rattle.c_typed.specs.Trees as Trees
use Rattle.c_typed.specs.Walk.{types_in_statement}
use Rattle.c_typed.specs.declared.program.Mention.{Mention}
use Rattle.c_typed.specs.declared.program.Object.{Object}
use Rattle.c_erasure.specs.Noted.{Noted}
use Rattle.c_erasure.specs.Scopes.{AFunction, ALocal, AMention}
use Rattle.c_erasure.specs.Units.{if_any, is_among, is_sizeof, new_among, number_in}
use Rattle.c_numbers.proofs.TypeNumbers.Laws.{all_new}
use Rattle.c_typed.specs.Programs.{FunctionData}
use Rattle.c_units.specs.CollectedTypes.{function_types, given_types, object_types}
use Rattle.c_units.specs.NumberedParts.{function_in, locals_in, mention_in, object_in, taken_in}
use Rattle.c_units.specs.RecognisedParts.{recognised_function}
use Rattle.c_units.specs.SizeOperands.{given_mentions, is_operand, kept, kept_types, operands_in, operands_of}
use Rattle.c_units.specs.UnitWith.{GivenParts}
use Rattle.c_units.proofs.GivenParts.{all_types, given, numbered}
use Rattle.c_units.specs.ValuedObjects.{ValuedObject}
use Rattle.c_units.proofs.Agreeing.{apart, of_statement}

-- a type that is there has a number below theirs
abbrev IsThere : List CType → CType → Type 0
IsThere types t = number_in types t < length types

same_number : (a b : List CType) (t : CType) → IsThere a t → number_in (a ++ b) t ≡ number_in a t
same_number [] b t h = absurd (omega (arith, h))
same_number (s ∷ more) b t h = go (same_type s t) h (λ k. same_number more b t k)
  where
    go : (c : Bool) → (if c then 0 else number_in more t + 1) < length (s ∷ more)
        → (number_in more t < length more → number_in (more ++ b) t ≡ number_in more t)
        → (if c then 0 else number_in (more ++ b) t + 1) ≡ (if c then 0 else number_in more t + 1)
    go true h rest = refl
    go false h rest = ap (λ n. n + 1) (rest (omega (arith, h)))

stays : (a b : List CType) (t : CType) → IsThere a t → IsThere (a ++ b) t
stays [] b t h = absurd (omega (arith, h))
stays (s ∷ more) b t h = go (same_type s t) h (λ k. stays more b t k)
  where
    go : (c : Bool) → (if c then 0 else number_in more t + 1) < length (s ∷ more)
        → (number_in more t < length more → number_in (more ++ b) t < length (more ++ b))
        → (if c then 0 else number_in (more ++ b) t + 1) < length (s ∷ (more ++ b))
    go true h rest = omega arith
    go false h rest = let k = rest (omega (arith, h)) in omega (arith, k)

at_end : (a : List CType) (t : CType) → IsThere (a ++ t ∷ []) t
at_end [] t = rw (same_self t t refl) (omega arith)
at_end (s ∷ more) t = go (same_type s t) (at_end more t)
  where
    go : (c : Bool) → IsThere (more ++ t ∷ []) t → (if c then 0 else number_in (more ++ t ∷ []) t + 1) < length (s ∷ (more ++ t ∷ []))
    go true k = omega arith
    go false k = omega (arith, k)

found : (types : List CType) (t : CType) → list_any (same_type t) types ≡ true → IsThere types t
found [] t h = absurd (search rules)
found (s ∷ more) t h = go (same_type t s) (same_type s t) (λ e. same_self s t (sym (same_is t s e))) h (found more t)
  where
    go : (b c : Bool) → (b ≡ true → c ≡ true) → b || list_any (same_type t) more ≡ true
        → (list_any (same_type t) more ≡ true → number_in more t < length more) → (if c then 0 else number_in more t + 1) < length (s ∷ more)
    go b true e h rest = omega arith
    go true false e h rest = let f = e refl in absurd (search rules)
    go false false e h rest = let k = rest h in omega (arith, k)

-- ---- one more type

one_kept : (types : List CType) (s t : CType) → IsThere types t → number_in (with_type types s) t ≡ number_in types t
one_kept types s t h = go (list_any (same_type s) types)
  where
    go : (b : Bool) → number_in (if b then types else types ++ s ∷ []) t ≡ number_in types t
    go true = refl
    go false = same_number types (s ∷ []) t h

one_stays : (types : List CType) (s t : CType) → IsThere types t → IsThere (with_type types s) t
one_stays types s t h = go (list_any (same_type s) types)
  where
    go : (b : Bool) → IsThere (if b then types else types ++ s ∷ []) t
    go true = h
    go false = stays types (s ∷ []) t h

added : (types : List CType) (t : CType) → IsThere (with_type types t) t
added types t = go (list_any (same_type t) types) refl
  where
    go : (b : Bool) → list_any (same_type t) types ≡ b → IsThere (if b then types else types ++ t ∷ []) t
    go true e = found types t e
    go false e = at_end types t

-- ---- more types

all_kept : (types later : List CType) (t : CType) → IsThere types t → number_in (fold with_type types later) t ≡ number_in types t
all_kept types [] t h = refl
all_kept types (s ∷ later) t h = all_kept (with_type types s) later t (one_stays types s t h) ∙ one_kept types s t h

all_stay : (types later : List CType) (t : CType) → IsThere types t → IsThere (fold with_type types later) t
all_stay types [] t h = h
all_stay types (s ∷ later) t h = all_stay (with_type types s) later t (one_stays types s t h)

are_there : (types all : List CType) → AllByRecursion (IsThere (fold with_type types all)) all
are_there types [] = tt
are_there types (t ∷ more) = (all_stay (with_type types t) more t (added types t), are_there (with_type types t) more)

-- ---- a function whose types are there

module _ (types later : List CType) where
  abbrev all : List CType
  all = fold with_type types later

  abbrev Same : CType → Type 0
  Same t = number_in all t ≡ number_in types t

  each_same : (some : List CType) → AllByRecursion (IsThere types) some → AllByRecursion Same some
  each_same [] h = tt
  each_same (t ∷ more) h = (all_kept types later t h.0, each_same more h.1)

  locals_same : (taken : ℕ → Bool) (n : ℕ) (some : List ALocal) → AllByRecursion Same (map (λ l. l.ty) some)
      → locals_in all taken n some ≡ locals_in types taken n some
  locals_same taken n [] h = refl
  locals_same taken n (l ∷ more) h = rw (h.0, locals_same taken (n + 1) more h.1) refl

  of_nodes : (some : List Noted) → AllByRecursion Same (map (λ t. t.ty) some) → AllByRecursion (λ (t : Noted). Same t.ty) some
  of_nodes [] h = tt
  of_nodes (t ∷ more) h = (h.0, of_nodes more h.1)

  body_same : (body : Option (Trees.Statement Noted))
      → AllByRecursion Same (flat_map (λ s. map (λ (t : Noted). t.ty) (types_in_statement s)) (if_any body))
      → option_map (mapped_statement (of_types (λ (t : Noted). number_in all t.ty))) body
      ≡ option_map (mapped_statement (of_types (λ (t : Noted). number_in types t.ty))) body
  body_same None h = refl
  body_same (Some s) h =
      let own = (apart Same (map (λ (t : Noted). t.ty) (types_in_statement s)) [] h).0 in
      ap Some (of_statement (λ (t : Noted). number_in all t.ty) (λ (t : Noted). number_in types t.ty) s (of_nodes (types_in_statement s) own))

  same : (g : AFunction) → AllByRecursion Same (function_types g) → function_in all g ≡ function_in types g
  same g h =
      let p = apart Same (map (λ l. l.ty) g.parameters) _ h.1 in
      let q = apart Same (map (λ l. l.ty) g.locals) _ p.1 in
      rw (
        h.0,
        locals_same (is_among (taken_in g)) 0 g.parameters p.0,
        locals_same (is_among (taken_in g)) (length g.parameters) g.locals q.0,
        body_same g.body q.1,
      ) refl

-- a function whose types were added has the same numbers after others are added
pub function_stable : (types later : List CType) (g : AFunction)
    → function_in (fold with_type (fold with_type types (function_types g)) later) g ≡ function_in (fold with_type types (function_types g)) g
function_stable types later g =
    let all = fold with_type types (function_types g) in
    same all later g (each_same all later (function_types g) (are_there types (function_types g)))

-- ---- one more function

pub counted : {X Z : Type 0} (v : Vec X Z) → v.len ≡ length v.items
counted v = search rules

pub one_more_types : (types before after : List CType) (some : List AFunction) (g : AFunction) → before ≡ fold with_type types (flat_map function_types some)
    → after ≡ fold with_type before (function_types g) → after ≡ fold with_type types (flat_map function_types (some ++ g ∷ []))
one_more_types types before after some g h k =
    k ∙ ap (λ them. fold with_type them (function_types g)) h
    ∙ sym (fold-append with_type types (flat_map function_types some) (function_types g))
    ∙ ap (fold with_type types) (ap (λ them. flat_map function_types some ++ them) (sym (append-nil (function_types g)))
    ∙ sym (flat_map-append function_types some (g ∷ [])))

pub one_more_function : (before after : List CType) (some : List AFunction) (g : AFunction) (done : List FunctionData) (d : FunctionData)
    → after ≡ fold with_type before (function_types g) → ((later : List CType) → done ≡ map (function_in (fold with_type before later)) some)
    → ((later : List CType) → d ≡ function_in (fold with_type after later) g)
    → (later : List CType) → done ++ d ∷ [] ≡ map (function_in (fold with_type after later)) (some ++ g ∷ [])
one_more_function before after some g done d k h e later =
    let all : fold with_type before (function_types g ++ later) ≡ fold with_type after later =
    fold-append with_type before (function_types g) later ∙ ap (λ types. fold with_type types later) (sym k) in
    ap (λ them. them ++ d ∷ []) (h (function_types g ++ later) ∙ ap (λ types. map (function_in types) some) all)
    ∙ ap (λ one. map (function_in (fold with_type after later)) some ++ one ∷ []) (e later)
    ∙ sym (map-append (function_in (fold with_type after later)) some (g ∷ []))

-- ---- types, places and mentions that are added one after the other

pub more_types : (types one more : List CType) → fold with_type types (one ++ more) ≡ fold with_type (fold with_type types one) more
more_types types one more = fold-append with_type types one more

pub more_places : (start before after : List ℕ) (some : List AFunction) (g : AFunction) → before ≡ start ++ operands_of some → after ≡ before ++ operands_in g
    → after ≡ start ++ operands_of (some ++ g ∷ [])
more_places start before after some g h k =
    k ∙ ap (λ them. them ++ operands_in g) h ∙ append_assoc start (operands_of some) (operands_in g)
    ∙ ap (λ them. start ++ them) (ap (λ them. operands_of some ++ them) (sym (append-nil (operands_in g))) ∙ sym (flat_map-append operands_in some (g ∷ [])))

-- the number of a type that is added stays
pub mention_stays : (types later : List CType) (t : CType) → number_in (with_type types t) t ≡ number_in (fold with_type (with_type types t) later) t
mention_stays types later t = sym (all_kept (with_type types t) later t (added types t))

pub next_item : {X : Type 0} (all : List X) (i : ℕ) (x : X) → i < length all → x ≡ get_or all i x → drop i all ≡ x ∷ drop (i + 1) all
next_item all i x within e = drop_more all i x within ∙ ap (λ z. z ∷ drop (i + 1) all) (sym e)

module _ (is_size : ℕ → Bool) (file : ℕ) where
  split : (m : AMention) (rest : List AMention) → kept is_size (m ∷ rest) ≡ kept is_size (m ∷ []) ++ kept is_size rest
  split m rest = filter-append (λ m. not (is_operand is_size m)) (m ∷ []) rest

  split_types : (m : AMention) (rest : List AMention) → kept_types is_size (m ∷ rest) ≡ kept_types is_size (m ∷ []) ++ kept_types is_size rest
  split_types m rest = ap (map (λ (m : AMention). m.ty)) (split m rest) ∙ map-append (λ (m : AMention). m.ty) (kept is_size (m ∷ [])) (kept is_size rest)

  pub one_more_type : (before after types : List CType) (m : AMention) (rest left : List AMention) → left ≡ m ∷ rest
      → after ≡ fold with_type before (kept_types is_size (m ∷ [])) → fold with_type before (kept_types is_size left) ≡ types
      → fold with_type after (kept_types is_size rest) ≡ types
  one_more_type before after types m rest left l a h =
      ap (λ them. fold with_type them (kept_types is_size rest)) a
      ∙ sym (more_types before (kept_types is_size (m ∷ [])) (kept_types is_size rest))
      ∙ ap (fold with_type before) (sym (split_types m rest))
      ∙ ap (λ them. fold with_type before (kept_types is_size them)) (sym l) ∙ h

  pub one_more_mention : (after types : List CType) (m : AMention) (rest left : List AMention) (found done whole : List Mention) → left ≡ m ∷ rest
      → fold with_type after (kept_types is_size rest) ≡ types
      → ((later : List CType) → done ≡ found ++ map (mention_in (fold with_type after later) file) (kept is_size (m ∷ [])))
      → (later : List CType) → found ++ map (mention_in (fold with_type types later) file) (kept is_size left) ≡ whole
      → done ++ map (mention_in (fold with_type types later) file) (kept is_size rest) ≡ whole
  one_more_mention after types m rest left found done whole l t d later h =
      let each = mention_in (fold with_type types later) file in
      let all : fold with_type after (kept_types is_size rest ++ later) ≡ fold with_type types later =
      more_types after (kept_types is_size rest) later ∙ ap (λ them. fold with_type them later) t in
      ap (λ them. them ++ map each (kept is_size rest)) (d (kept_types is_size rest ++ later)
      ∙ ap (λ them. found ++ map (mention_in them file) (kept is_size (m ∷ []))) all)
      ∙ append_assoc found (map each (kept is_size (m ∷ []))) (map each (kept is_size rest))
      ∙ ap (λ them. found ++ them) (sym (map-append each (kept is_size (m ∷ [])) (kept is_size rest)) ∙ ap (map each) (sym (split m rest) ∙ ap (kept is_size) (sym l)))
      ∙ h

-- ---- functions and mentions

none_is : (b : Bool) → not (b && false) ≡ true
none_is true = refl
none_is false = refl

kept_none : (all : List AMention) → kept (is_among []) all ≡ all
kept_none [] = refl
kept_none (m ∷ more) = ap (λ b. if b then m ∷ kept (is_among []) more else kept (is_among []) more) (none_is (is_sizeof m.kind)) ∙ ap (λ them. m ∷ them) (kept_none more)

module _ (first second third last : List CType) (fs : List AFunction) (ms others : List AMention) (is_size none : ℕ → Bool)
    (s : is_size ≡ is_among (operands_of fs)) (n : none ≡ is_among []) (t : third ≡ fold with_type second (kept_types is_size ms))
    (e : last ≡ fold with_type third (kept_types none others)) where
  pub types_given : second ≡ fold with_type first (flat_map function_types (map recognised_function fs)) → last ≡ fold with_type first (given_types fs ms others)
  types_given h =
      let is = is_among (operands_of fs) in
      let each = map (λ (m : AMention). m.ty) in
      e ∙ ap (λ it. fold with_type third (kept_types it others)) n ∙ ap (λ them. fold with_type third (each them)) (kept_none others)
      ∙ ap (λ them. fold with_type them (each others)) (t ∙ ap (λ it. fold with_type second (kept_types it ms)) s)
      ∙ sym (more_types second (kept_types is ms) (each others))
      ∙ ap (fold with_type second) (sym (map-append (λ (m : AMention). m.ty) (kept is ms) others))
      ∙ ap (λ them. fold with_type them (each (given_mentions fs ms others))) h
      ∙ sym (more_types first (flat_map function_types (map recognised_function fs)) (each (given_mentions fs ms others)))

  pub functions_given : (gs : List AFunction) (done : List FunctionData) → ((later : List CType) → done ≡ map (function_in (fold with_type second later)) gs)
      → done ≡ map (function_in last) gs
  functions_given gs done d =
      let one = kept_types is_size ms in
      let more = kept_types none others in
      d (one ++ more) ∙ ap (λ them. map (function_in them) gs) (more_types second one more ∙ ap (λ them. fold with_type them more) (sym t) ∙ sym e)

  pub mentions_given : (file : ℕ) (start one two : List Mention) → start ≡ []
      → ((later : List CType) → one ≡ start ++ map (mention_in (fold with_type third later) file) (kept is_size ms))
      → ((later : List CType) → two ≡ one ++ map (mention_in (fold with_type last later) file) (kept none others))
      → two ≡ map (mention_in last file) (given_mentions fs ms others)
  mentions_given file start one two z a b =
      let each = mention_in last file in
      b [] ∙ ap (λ it. one ++ map each (kept it others)) n ∙ ap (λ them. one ++ map each them) (kept_none others)
      ∙ ap (λ them. them ++ map each others) (a (kept_types none others)
      ∙ ap (λ them. start ++ map (mention_in them file) (kept is_size ms)) (sym e)
      ∙ ap (λ them. them ++ map each (kept is_size ms)) z ∙ ap (λ it. map each (kept it ms)) s)
      ∙ sym (map-append each (kept (is_among (operands_of fs)) ms) others)

-- ---- what a file gives

abbrev made : List CType → List Object → List FunctionData → List Mention → GivenParts
made types objects functions mentions = record { types = types; objects = objects; functions = functions; mentions = mentions }

pub parts_are : (file : ℕ) (os : List ValuedObject) (fs : List AFunction) (ms others : List AMention) (none first last : List CType)
    (objects : List Object) (functions : List FunctionData) (mentions : List Mention) → none ≡ []
    → first ≡ fold with_type none (flat_map object_types os) → last ≡ fold with_type first (given_types fs ms others)
    → objects ≡ map (object_in last) os → functions ≡ map (function_in last) (map recognised_function fs)
    → mentions ≡ map (mention_in last file) (given_mentions fs ms others)
    → made last objects functions mentions ≡ given file os (map recognised_function fs) (given_mentions fs ms others)
parts_are file os fs ms others none first last objects functions mentions z h l o g m =
    let gs = map recognised_function fs in
    let gm = given_mentions fs ms others in
    let types : last ≡ new_among [] (all_types os gs gm) =
    l ∙ ap (λ them. fold with_type them (given_types fs ms others)) (h ∙ ap (λ them. fold with_type them (flat_map object_types os)) z)
    ∙ sym (more_types [] (flat_map object_types os) (given_types fs ms others)) ∙ all_new (all_types os gs gm) in
    ap (λ it. made last it functions mentions) o
    ∙ ap (λ it. made last (map (object_in last) os) it mentions) g
    ∙ ap (λ it. made last (map (object_in last) os) (map (function_in last) gs) it) m
    ∙ ap (λ them. numbered them file os gs gm) types
