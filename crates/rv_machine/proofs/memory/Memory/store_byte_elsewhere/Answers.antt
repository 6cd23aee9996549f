use Rattle.std.proofs.Common.{◌∙◌, sym, ap}
use Rattle.rv_isa.specs.Memory.{Memory as Content, is_mapped, with_byte, writable}
use Rattle.rv_machine.specs.Rows.{segments_of}
use Rattle.rv_machine.proofs.Places.{one_mapped}
use Rattle.rv_machine.proofs.Stores.{byte_put, kept_content}
use Rattle.rv_machine.proofs.memory.Memory.store_byte_elsewhere.Goals as goal

pub returns-in-None-clause-mapped : goal.returns-in-None-clause-mapped
returns-in-None-clause-mapped c =
    c.put.ensures.mapped ∙ ap (λ rows. is_mapped (segments_of rows.items) writable c.args.address) c.search_to_store.ensures.kept.rows ∙ sym (one_mapped _ _ _)

pub returns-in-Some-clause-content : goal.returns-in-Some-clause-content
returns-in-Some-clause-content c =
    byte_put c.search_to_store.new.self writable c.args.address c.in-Some.place c.args.value c.in-Some.ensures.found
    ∙ ap (λ (m : Content). with_byte m c.args.address c.args.value) (kept_content c.args.self.now c.search_to_store.new.self c.search_to_store.ensures.kept)
