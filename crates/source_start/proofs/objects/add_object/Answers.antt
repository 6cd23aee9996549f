use Rattle.std.proofs.Common.{ap, sym, ◌∙◌, subst, List, [], ◌∷◌, ◌++◌, replicate}
use Rattle.std.specs.Prelude.{All}
use Rattle.memory_words.specs.declared.cell_words.cell.Cell.TheVariants.{Byte}
use Rattle.block_memory.specs.Blocks.{living}
use Rattle.block_memory.specs.declared.kinds.BlockKind.{BlockKind}
use Rattle.source_values.specs.declared.row.TypeRow.{TypeRow}
use Rattle.block_memory.specs.View.{memory_of}
use Rattle.c_typed.specs.declared.program.Initial.{Initial}
use Rattle.c_typed.specs.Programs.{program_data}
use Rattle.source_start.specs.Standing.{FitsIn}
use Rattle.source_start.proofs.Standing.{object_fits}
use Rattle.source_start.proofs.objects.add_object.Goals as goal

pub write_all-requires : goal.write_all-requires
write_all-requires c =
    let place = c.in_ok-block.ensures.1
    ∙ ap (λ (kind : BlockKind). memory_of c.args.store.now ++ record { kind = kind; contents = living (replicate c.row-size.result.size (Byte 0)) } ∷ []) c.object_kind-2.ensures in
    subst (λ (all : List Initial). All (FitsIn (memory_of c.add_zeros-2.new.store) c.in_ok-block.block) all) (sym c.as_slice.ensures)
    (object_fits (program_data c.args.types.now) c.args.o.now (memory_of c.args.store.now) (memory_of c.add_zeros-2.new.store) c.in_ok-block.block c.row-size.result.size _
    c.in_ok-block.ensures.0 place (ap (λ (row : TypeRow). row.size) c.row-size.ensures.row) c.in-Some.is c.requires.fits)
