-- What is found of a file, from what its tags and its annotated file are.
use Rattle.std.proofs.Common.{subst, sym, ◌≡◌, ◌∙◌, ℕ, List, refl}
use Rattle.std.specs.Prelude.{◌≤◌, length, Ok, Err}
use Rattle.lay_base.specs.declared.place.File.{File}
use Rattle.c_ast.specs.Sizes.{size_items}
use Rattle.c_ast.specs.Trees
use Rattle.c_ast.specs.TreesOfFiles.{IsTreeOf}
use Rattle.c_typed.specs.Programs.{UnitData}
use Rattle.c_erasure.specs.Erasing.{ErasesTo}
use Rattle.c_erasure.specs.Untagged.{AreTags, structs_in}
use Rattle.c_ast.specs.Spelling.{spell}
use Rattle.c_erasure.specs.Scopes.{FileScope}
use Rattle.c_erasure.specs.Checking.Answers.{Answer}
use Rattle.c_erasure.specs.Checking.Files.{annotated}
use Rattle.c_checking_units.specs.TypeLimits.Limits.{TypesAreSmall}
use Rattle.c_checking_laws.specs.WholeFiles.Found.{AnnotatedFilesAreFound, IsFound}
use Rattle.c_checking_units.specs.FirstStops.Faults.{FaultsBreakRules}
use Rattle.c_checking_units.specs.Units.{FaultsHaveNoUnit}
use Rattle.c_erasure.specs.Broken.{Fault as Broken}
use Rattle.c_erasure.specs.BrokenFiles.{IsFaultOf}
use Rattle.c_scopes.specs.SyntaxTags.Untagged.{untagged_by}
use Rattle.c_scopes.specs.SyntaxTags.TagLists.{AreTagsOf, TagLists}
use Rattle.c_check.specs.FileItems.Lists.{AreListsOf}
use Rattle.c_nodes.specs.Gives.{Fails}
use Rattle.c_nodes.specs.declared.fault.Fault.{Fault}
use Rattle.c_nodes.specs.declared.fault.Fault.TheVariants as F
use Rattle.c_units.specs.UnitWith.{unit_with}
use Rattle.c_units.proofs.Nodes.{is_unit_of}
use Rattle.c_check.specs.Checking.{Finds, HasNoUnit, OnFault, fault_in}

pub lists_are : (name bytes : List ℕ) (items : List Trees.Item) (t : TagLists) → AreTagsOf name bytes items t → AreListsOf items t
lists_are name bytes items t h = record { tags = h.tags; ends = h.ends; numbered = h.numbered }

pub finds : (number : ℕ) (file : File) (items : List Trees.Item) (t : TagLists) (answer : Answer FileScope)
    → AreTagsOf file.name file.bytes items t → annotated number (untagged_by t.untagged) items ≡ answer → Finds number file items answer
finds number file items t answer h e = record {
  untagged = untagged_by t.untagged;
  tags = record { are = h.untagged; begin = h.begin };
  is_found = e;
}

pub unit_erases : AnnotatedFilesAreFound → TypesAreSmall → (number : ℕ) (file : File) (items : List Trees.Item) (t : TagLists) (f : FileScope) (nodes : ℕ)
    (u : UnitData) → length file.bytes ≤ 4194304 → IsTreeOf file.bytes items → AreTagsOf file.name file.bytes items t
    → annotated number (untagged_by t.untagged) items ≡ Ok f → nodes ≡ (size_items items).nodes → u ≡ unit_with nodes f
    → ErasesTo number file.name file.bytes items u
unit_erases law limits number file items t f nodes u short tree h e n is =
    let found : IsFound number (untagged_by t.untagged) items f = law number (untagged_by t.untagged) file.bytes items f h.begin tree e in
    record {
      annotated = f;
      number = found.number;
      tags = subst (AreTags file.name file.bytes (structs_in (spell items))) (sym found.untagged_are) h.untagged;
      of_tree = found.is_file;
      small = limits number (untagged_by t.untagged) file.bytes items f short tree e;
      unit = is ∙ is_unit_of items f nodes n;
    }

-- where the checker stops, there is no unit, and a rule is broken
stops : FaultsHaveNoUnit → FaultsBreakRules → (number : ℕ) (file : File) (items : List Trees.Item) (t : TagLists) (f : Broken)
    → IsTreeOf file.bytes items → AreTagsOf file.name file.bytes items t → annotated number (untagged_by t.untagged) items ≡ Err f
    → Finds number file items (Err f) × HasNoUnit number file items × IsFaultOf items f
stops none rules number file items t f tree h e = (
  finds number file items t (Err f) h e,
  λ u. none number file.name file.bytes items (untagged_by t.untagged) f u h.begin tree h.untagged e,
  rules number (untagged_by t.untagged) file.bytes items f h.begin tree e,
)

pub fault_found : FaultsHaveNoUnit → FaultsBreakRules → (number : ℕ) (file : File) (items : List Trees.Item) (t : TagLists) (fault : Fault)
    → IsTreeOf file.bytes items → AreTagsOf file.name file.bytes items t → Fails fault (annotated number (untagged_by t.untagged) items)
    → OnFault number (fault_in number fault) (λ f. Finds number file items (Err f) × HasNoUnit number file items × IsFaultOf items f)
fault_found none rules number file items t (F.TooBig at) tree h e = (refl, stops none rules number file items t _ tree h e)
fault_found none rules number file items t (F.IllTyped rule at) tree h e = (refl, stops none rules number file items t _ tree h e)
fault_found none rules number file items t (F.Undeclared x at) tree h e = (refl, stops none rules number file items t _ tree h e)
fault_found none rules number file items t (F.Redeclared x at first) tree h e = (refl, refl, stops none rules number file items t _ tree h e)
fault_found none rules number file items t (F.Memory want) tree h e = tt
