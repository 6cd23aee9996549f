-- `A` behind `enum {A};`: what completeness asks holds of a file, and the enumerator is found.
use Rattle.std.proofs.Common.{◌≡◌, ℕ, ◌+◌, ◌<◌, Bool, true, false, List, [], ◌∷◌, refl, subst, cond, arith}
use Rattle.std.proofs.lemmas.List.Elements.{All-nil}
use Rattle.std.specs.Prelude.{◌&&◌, nat_le, codes, Some, None, slice_get}
use Rattle.std.specs.Str.{bytes_eq}
use Rattle.c_types.specs.declared.ty.IntKind.TheVariants.{Int}
use Rattle.c_types.specs.Types.{integer}
use Rattle.c_ast.specs.Trees
use Rattle.c_typed.specs.Trees as Typed
use Rattle.c_erasure.specs.Noted.{Thing, a_value, value}
use Rattle.c_erasure.specs.Scopes.{Bound, FileScope, Entity, enumerator, defines, at_file_scope, or_else}
use Rattle.c_checking_laws.proofs.Extends.{itself}
use Rattle.c_checking_laws.proofs.CompleteNodes.{some_is}
use Rattle.c_checking_laws.proofs.CompleteWalk.{a_use}
use Rattle.c_checking_laws.proofs.CompletePart.{Lists, IsFitFor, IsWhole, IsBefore}
use Rattle.c_checking_laws.proofs.CompleteOperands.{Found}
use Rattle.c_checking_laws.proofs.CompleteStructures.{below_length}
use Rattle.c_checking_laws.proofs.CompleteTrees.{complete}
use Rattle.c_checking_laws.proofs.CompleteWhole.{is_whole}

abbrev name_a : Bound
name_a = record { name = codes "A"; place = 6; from = 7; how = defines; entity = enumerator 0 }

abbrev file : FileScope
file = record {
  file = 0;
  names = name_a ∷ [];
  tags = [];
  records = [];
  ends = [];
  numbered = [];
  objects = [];
  functions = [];
  mentions = [];
  untagged = λ at. [];
}

abbrev lists : Lists
lists = record { names = name_a ∷ []; records = []; objects = []; functions = []; mentions = [] }

fits : (x : List ℕ) (at : ℕ) (e : Entity) → or_else (cond (bytes_eq (codes "A") x && nat_le 7 at) (Some (enumerator 0)) None) None ≡ Some e → IsFitFor file 0 e
fits x at e h = by_test (bytes_eq (codes "A") x && nat_le 7 at) h
  where
    by_test : (t : Bool) → or_else (cond t (Some (enumerator 0)) None) None ≡ Some e → IsFitFor file 0 e
    by_test true h = subst (IsFitFor file 0) (some_is (enumerator 0) e h) tt
    by_test false h = cc

file_is_whole : IsWhole file
file_is_whole = is_whole file (record {
  names_ascend = (All-nil _, tt);
  names_consistent = (All-nil _, tt);
  names_fit = fits;
  objects_ascend = tt;
  numbered_differ = tt;
  records_differ = tt;
  fields_differ = λ k r h. cc;
  fields_complete = λ k j r f h i. cc;
  records_small = λ i l. absurd (omega (arith, l));
})

-- no name stands behind the first
nothing_later : (k : ℕ) (b : Bound) → slice_get (name_a ∷ []) (1 + k) ≡ Some b → 20 < b.from
nothing_later k b h = let l = below_length (name_a ∷ []) (1 + k) b h in absurd (omega (arith, l))

before : IsBefore file lists (a_use 20 ∷ [])
before = record { extends = itself file; follows = ((nothing_later, refl), tt) }

abbrev the_value : Thing
the_value = a_value (value (integer Int) (record { file = 0; at = 20 }) (Typed.constant 0))

enumerator_is_found : Found file file_is_whole [] (at_file_scope file) lists (Trees.name (record { from = 20; to = 21; text = codes "A" })) the_value
enumerator_is_found = complete file file_is_whole [] (Trees.name (record { from = 20; to = 21; text = codes "A" })) (at_file_scope file) lists the_value
    (λ x e h. cc) before (enumerator 0, refl, refl) (Int, refl, refl)
