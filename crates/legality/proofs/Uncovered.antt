-- A program with an object that is a record is not covered where nothing is said of the object; it is where a mention tells of it.
use Rattle.std.proofs.Common.{refl, ℕ, true, false, List, [], ◌∷◌, None, inl}
use Rattle.std.specs.Prelude.{codes}
use Rattle.std.proofs.lemmas.List.Elements.{recursion_from_All, All-from_recursion}
use Rattle.lay_base.specs.declared.place.Place.{Place}
use Rattle.c_types.specs.declared.ty.IntKind.TheVariants.{Int}
use Rattle.c_types.specs.Types.{integer, structure, Field, Record}
use Rattle.c_typed.specs.declared.program.Mention.{Mention}
use Rattle.c_typed.specs.declared.program.MentionKind.TheVariants as M
use Rattle.c_typed.specs.declared.program.Object.{Object}
use Rattle.c_typed.specs.Programs.{ProgramData}
use Rattle.legality.specs.declared.violation.Test.TheVariants.{Objt}
use Rattle.legality.specs.Covered.{AreRefused, IsCovered, IsCoveredFunction, IsCoveredObject, IsCoveredRecord, IsRefused}
use Rattle.legality.specs.InTypes.{arrays_in}

abbrev at : ℕ → Place
at n = record { file = 0; at = n }

-- struct S { int x; }; struct S o;
abbrev S : Record
S = record { tag = codes "S"; place = at 0; fields = record { name = codes "x"; ty = integer Int; place = at 15 } ∷ [] }

abbrev o : Object
o = record { name = codes "o"; place = at 30; ty = 0; linked = true; text = false; initial = None }

abbrev program : List Mention → ProgramData
program mentions = record { records = S ∷ []; types = structure 0 ∷ []; objects = o ∷ []; functions = []; mentions = mentions; main = 0; nodes = 0 }

uncovered : IsCovered (program []) → ⊥
uncovered h =
    let all = recursion_from_All (IsCoveredObject (program [])) (o ∷ []) h.objects in
    let refused = recursion_from_All (IsRefused (program [])) (0 ∷ []) all.0.0 in
    refused.0.2

abbrev told : ProgramData
told = program (record { kind = M.Object; ty = 0; place = at 30 } ∷ [])

covered : IsCovered told
covered = record {
  objects = All-from_recursion (IsCoveredObject told) (o ∷ []) ((All-from_recursion (IsRefused told) (0 ∷ []) ((Objt, at 30, inl refl), tt), tt), tt);
  functions = All-from_recursion (IsCoveredFunction told) [] tt;
  records = All-from_recursion (IsCoveredRecord told) (S ∷ []) (All-from_recursion (λ (f : Field). AreRefused told (arrays_in f.ty)) S.fields (All-from_recursion (IsRefused told) [] tt, tt), tt);
}
