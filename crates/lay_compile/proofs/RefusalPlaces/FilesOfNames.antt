-- Known contents have one list of files under some names.
use Rattle.std.proofs.Common.{◌≡◌, ℕ, List, [], ◌∷◌, map, Some, refl, subst}
use Rattle.std.specs.Prelude.{All}
use Rattle.std.proofs.lemmas.List.Elements.{All-head, All-tail}
use Rattle.lay_base.specs.Known.{Contents}
use Rattle.lay_base.specs.declared.place.File.{File}
use Rattle.lay_compile.specs.ProgramFiles.FrontEnd.{HaveTexts}
use Rattle.lay_compile.specs.ProgramFiles.Reading.{IsRead, AreFilesOf}
use Rattle.lay_compile.specs.RefusalPlaces.Texts.{TextsAreOfPlaces, NamedTextsAreOfPlaces}

abbrev file_of : List ℕ → List ℕ → File
file_of name bytes = record { name = name; bytes = bytes }

same_file : (name0 name1 bytes0 bytes1 : List ℕ) → name0 ≡ name1 → bytes0 ≡ bytes1 → file_of name0 bytes0 ≡ file_of name1 bytes1
same_file name0 name1 bytes0 bytes1 names bytes = cc

module _ (contents : Contents) where
  is_one : (file other : File) → file.name ≡ other.name → IsRead (Some contents) file → IsRead (Some contents) other → file ≡ other
  is_one file other names (known, _) (other_known, _) =
      let bytes : file.bytes ≡ other.bytes = cc in same_file file.name other.name file.bytes other.bytes names bytes

  are_one : (files others : List File) → map (λ file. file.name) files ≡ map (λ file. file.name) others → All (IsRead (Some contents)) files
      → All (IsRead (Some contents)) others → files ≡ others
  are_one [] [] names read others_read = refl
  are_one [] (other ∷ others) names read others_read = cc
  are_one (file ∷ files) [] names read others_read = cc
  are_one (file ∷ files) (other ∷ others) names read others_read =
      let Is = IsRead (Some contents) in
      let name : file.name ≡ other.name = cc in
      let more : map (λ f. f.name) files ≡ map (λ f. f.name) others = cc in
      let first = is_one file other name (All-head Is file files read) (All-head Is other others others_read) in
      let rest = are_one files others more (All-tail Is file files read) (All-tail Is other others others_read) in
      cc

-- the files under some names are the same wherever they are spoken of
pub one_list : (contents : Contents) (names : List (List ℕ)) (files others : List File) → AreFilesOf (Some contents) names files
    → AreFilesOf (Some contents) names others → files ≡ others
one_list contents names files others of_names others_of_names =
    let named : map (λ file. file.name) files ≡ map (λ file. file.name) others = let a = of_names.named in let b = others_of_names.named in cc in
    are_one contents files others named of_names.as_known others_of_names.as_known

pub named_texts_are_of_places : TextsAreOfPlaces → NamedTextsAreOfPlaces
named_texts_are_of_places law contents names refusal at first (files, of_names, refused) (others, others_of_names, texts) =
    let same = one_list contents names others files others_of_names of_names in
    (files, of_names, law files refusal at first refused (subst (λ read. HaveTexts read refusal at first) same texts))
