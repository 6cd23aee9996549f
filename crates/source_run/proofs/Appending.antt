-- Known bytes that gain pieces, and what calls of `putchar` and `getchar` write and take.
use Rattle.std.proofs.Common.{◌≡◌, refl, sym, ap, ◌∙◌, ℕ, List, [], ◌∷◌, ◌++◌, Option, Some, None}
use Rattle.std.proofs.lemmas.List.{append-nil, append_assoc}
use Rattle.lay_base.specs.Known.{Appends}
use Rattle.block_memory.specs.RunWorlds.Events.{Event, Call, put, got, putting, getting, calls_of, output_of}
use Rattle.source_run.specs.RunGives.{bytes_put, rest_behind}
use Rattle.source_state.specs.Steps.Agreeing.{behind_next}

pub appends_none : (old : Option (List ℕ)) → Appends old old []
appends_none None = refl
appends_none (Some bytes) = ap Some (sym (append-nil bytes))

-- one piece behind another
pub appends_more : (old middle new : Option (List ℕ)) (x y : List ℕ) → Appends old middle x → Appends middle new y → Appends old new (x ++ y)
appends_more None middle new x y d e = rw d at e
appends_more (Some bytes) middle new x y d e = (rw d at e) ∙ ap Some (append_assoc bytes x y)

-- ---- of one more call

pub put_one : (calls : List Call) (byte : ℕ) → bytes_put (calls ++ putting byte ∷ []) ≡ bytes_put calls ++ byte ∷ []
put_one [] byte = refl
put_one (putting other ∷ more) byte = ap (λ all. other ∷ all) (put_one more byte)
put_one (getting ∷ more) byte = put_one more byte

pub put_got : (calls : List Call) → bytes_put (calls ++ getting ∷ []) ≡ bytes_put calls
put_got [] = refl
put_got (putting other ∷ more) = ap (λ all. other ∷ all) (put_got more)
put_got (getting ∷ more) = put_got more

pub rest_put : (calls : List Call) (byte : ℕ) (input : List ℕ) → rest_behind (calls ++ putting byte ∷ []) input ≡ rest_behind calls input
rest_put [] byte input = refl
rest_put (putting other ∷ more) byte input = rest_put more byte input
rest_put (getting ∷ more) byte [] = rest_put more byte []
rest_put (getting ∷ more) byte (first ∷ input) = rest_put more byte input

pub rest_got : (calls : List Call) (input : List ℕ) → rest_behind (calls ++ getting ∷ []) input ≡ behind_next (rest_behind calls input)
rest_got [] [] = refl
rest_got [] (first ∷ input) = refl
rest_got (putting other ∷ more) input = rest_got more input
rest_got (getting ∷ more) [] = rest_got more []
rest_got (getting ∷ more) (first ∷ input) = rest_got more input

-- ---- what is written is what is put

pub output_put : (trace : List Event) → output_of trace ≡ bytes_put (calls_of trace)
output_put [] = refl
output_put (put byte ∷ before) = ap (λ all. all ++ byte ∷ []) (output_put before) ∙ sym (put_one (calls_of before) byte)
output_put (got byte ∷ before) = output_put before ∙ sym (put_got (calls_of before))
output_put (event ∷ before) = output_put before
