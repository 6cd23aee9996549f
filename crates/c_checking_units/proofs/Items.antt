-- The items of a file, one after the other: what they declare is what is found (C99 6.9).
use Rattle.std.proofs.Common.{◌≡◌, ℕ, List, [], ◌∷◌, length, refl, sym, ap, ◌∙◌}
use Rattle.std.proofs.lemmas.List.Elements.{All-head, All-tail}
use Rattle.std.specs.Prelude.{All, Ok, Err}
use Rattle.c_ast.specs.Trees
use Rattle.c_ast.specs.WellFormed.{IsItem, AreItems, types_after}
use Rattle.c_erasure.specs.Broken.{Fault}
use Rattle.c_erasure.specs.Files.{ErasesItem, IsFileOf}
use Rattle.c_erasure.specs.Scopes.{FileScope}
use Rattle.c_erasure.specs.Checking.Answers.{◌>>=◌}
use Rattle.c_erasure.specs.Checking.Files.{item_nodes, filed_item, filed, unread, closed_file, annotated}
use Rattle.c_checking_laws.proofs.CompletePart.{Lists, part}
use Rattle.c_checking_laws.proofs.Results.{ok}
use Rattle.c_checking_units.proofs.Declarations.{steps_of_declaration, declaration_found}
use Rattle.c_checking_units.proofs.Definitions.{steps_of_definition, definition_found}
use Rattle.c_checking_units.proofs.Filed.{IsWholeFile, IsFiled}
use Rattle.c_checking_units.proofs.ObjectDeclarators.{FoundFile}
use Rattle.c_checking_units.proofs.Steps.{Step, AreSteps, IsReady}

module _ (g : FileScope) (w : IsWholeFile g) where
  abbrev pub steps_of_item : Trees.Item → List Step → List Step
  steps_of_item (Trees.defines specs d left items right) rest = steps_of_definition g w specs d left items rest
  steps_of_item (Trees.declaration d) rest = steps_of_declaration g w d rest

  abbrev pub steps_of_items : List Trees.Item → List Step
  steps_of_items [] = []
  steps_of_items (item ∷ more) = steps_of_item item (steps_of_items more)

  pub item_found : (types : List (List ℕ)) (item : Trees.Item) (c : Lists) (rest : List Step) → IsItem types item → IsReady g c (steps_of_item item rest)
      → ErasesItem g item → FoundFile g w (filed_item item (part g c)) rest
  unfolding filed_item
  item_found types (Trees.defines specs d left items right) c rest formed ready h =
      let z = definition_found g w types specs d left items (item_nodes (Trees.defines specs d left items right)) c rest formed.0 formed.1 ready h in
      record { lists = z.lists; is = z.is; ready = z.ready }
  item_found types (Trees.declaration d) c rest formed ready h =
      let z = declaration_found g w types d (item_nodes (Trees.declaration d)) c rest formed ready h in
      record { lists = z.lists; is = z.is; ready = z.ready }

  pub items_found : (types : List (List ℕ)) (items : List Trees.Item) (c : Lists) → AreItems types items → IsReady g c (steps_of_items items)
      → All (ErasesItem g) items → FoundFile g w (filed items (part g c)) []
  unfolding filed
  items_found types [] c formed ready h = record { lists = c; is = refl; ready = ready }
  items_found types (item ∷ more) c formed ready h =
      let z = item_found types item c (steps_of_items more) formed.0 ready (All-head (ErasesItem g) item more h) in
      let y = items_found (types_after types item) more z.lists formed.1 z.ready (All-tail (ErasesItem g) item more h) in
      record { lists = y.lists; is = ap (λ r. r >>= λ g. filed more g) z.is ∙ y.is; ready = y.ready }

  -- ---- the whole file, from nothing on

  abbrev pub nothing_yet : Lists
  nothing_yet = record { names = []; records = []; objects = []; functions = []; mentions = [] }

  nothing_filed : IsFiled g nothing_yet
  nothing_filed = record {
    extends = record {
      file = refl;
      tags = refl;
      ends = refl;
      numbered = refl;
      untagged = refl;
      names = (g.names, refl);
      records = (g.records, refl);
      mentions = λ kind t at h. let e = h.1 in cc;
      types = λ n t h. cc;
      objects = λ n o h i. cc;
      functions = λ n t h. cc;
    };
    objects = λ n o e. cc;
    functions = λ n o e. cc;
    objects_there = λ k b e n t is. cc;
    functions_there = λ k b e n t is. cc;
    whole = λ n o e. cc;
  }

  unread_is : (items : List Trees.Item) → IsFileOf items g → unread g.file g.untagged items ≡ part g nothing_yet
  unread_is items h = rw (sym h.tags, sym h.ends, sym h.numbered) refl

  -- the items of a tree are found, and give a part of its annotated file
  pub file_found : (items : List Trees.Item) → AreItems [] items → IsFileOf items g → AreSteps g 0 0 0 0 (steps_of_items items)
      → FoundFile g w (filed items (unread g.file g.untagged items)) []
  file_found items formed h steps =
      let z = items_found [] items nothing_yet formed (record { filed = nothing_filed; steps = steps }) h.each_item in
      record { lists = z.lists; is = ap (filed items) (unread_is items h) ∙ z.is; ready = z.ready }

  -- so the checker answers, and nothing is refused
  pub annotated_found : (items : List Trees.Item) → AreItems [] items → IsFileOf items g → AreSteps g 0 0 0 0 (steps_of_items items)
      → (c : Lists) × (annotated g.file g.untagged items ≡ Ok (closed_file (part g c))) × IsFiled g c × (length c.objects ≡ length g.objects)
      × (length c.functions ≡ length g.functions)
  unfolding annotated
  annotated_found items formed h steps =
      let z = file_found items formed h steps in
      (z.lists, ap (λ r. r >>= λ f. ok (closed_file f)) z.is, z.ready.filed, z.ready.steps.0, z.ready.steps.1)

  -- nothing is refused where there is an annotated file
  pub never_refused : (items : List Trees.Item) → AreItems [] items → IsFileOf items g → AreSteps g 0 0 0 0 (steps_of_items items) → (e : Fault)
      → annotated g.file g.untagged items ≡ Err e → ⊥
  never_refused items formed h steps e r =
      let z = annotated_found items formed h steps in
      let ok_is_err : ok (closed_file (part g z.0)) ≡ Err e = sym z.1 ∙ r in
      cc
