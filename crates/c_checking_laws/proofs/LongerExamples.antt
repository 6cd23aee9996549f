-- Whole files: what the functions of the checker find is the annotated file that the definitions give them.
use Rattle.std.proofs.Common.{refl}
use Rattle.std.specs.Prelude.{◌≡◌, Ok}
use Rattle.c_tokens.specs.QuotedScan.{string_bytes}
use Rattle.c_erasure.proofs.ExamplesOfRecords as Records
use Rattle.c_erasure.proofs.ExamplesOfLoops as Loops
use Rattle.c_erasure.proofs.ManyItems as Many
use Rattle.c_erasure.specs.Checking.Nodes
use Rattle.c_erasure.specs.Checking.Declaring
use Rattle.c_erasure.specs.Checking.Finding
use Rattle.c_erasure.specs.Checking.Initializers
use Rattle.c_erasure.specs.Checking.Statements
use Rattle.c_erasure.specs.Checking.Files
use Rattle.c_erasure.specs.Checking.Files.{annotated}

records : annotated 0 Records.file.untagged Records.items ≡ Ok Records.file
unfolding string_bytes Nodes.worth Nodes.named_in Nodes.index_in Nodes.array_of Nodes.element_in Nodes.signature_in Nodes.argument_in Nodes.call_in
    Nodes.dot_in Nodes.arrow_in Nodes.step_in Nodes.address_in Nodes.deref_in Nodes.unary_in Nodes.not_in Nodes.measured_type Nodes.sized_type
    Nodes.measured_in Nodes.cast_in Nodes.computed_in Nodes.compared_in Nodes.tested_in Nodes.tested Nodes.chosen_in Nodes.target_in
    Nodes.assigned_in Nodes.copied_in Nodes.updated_in Nodes.comma_in Declaring.literal_in Declaring.constant_in Declaring.tagged_in
    Declaring.enumerated_in Declaring.completed_in Declaring.enumerator_in Declaring.derived Declaring.object_at Initializers.initial_value_in
    Initializers.initial_record_in Initializers.constants_in Statements.sized_in Statements.variable_type Statements.declare_all
    Statements.condition_in Statements.labels_in Statements.switched_in Statements.returned_in Statements.performed Statements.item_in
    Statements.items_in Statements.switch_items Statements.switch_item Files.library_named Files.is_main Files.object_of Files.function_of
    Files.file_declarators Files.received_by Files.filed_item Files.filed Files.annotated Finding.one_of Initializers.initialized
records = refl

loops : annotated 0 Loops.file.untagged Loops.items ≡ Ok Loops.file
unfolding string_bytes Nodes.worth Nodes.named_in Nodes.index_in Nodes.array_of Nodes.element_in Nodes.signature_in Nodes.argument_in Nodes.call_in
    Nodes.dot_in Nodes.arrow_in Nodes.step_in Nodes.address_in Nodes.deref_in Nodes.unary_in Nodes.not_in Nodes.measured_type Nodes.sized_type
    Nodes.measured_in Nodes.cast_in Nodes.computed_in Nodes.compared_in Nodes.tested_in Nodes.tested Nodes.chosen_in Nodes.target_in
    Nodes.assigned_in Nodes.copied_in Nodes.updated_in Nodes.comma_in Declaring.literal_in Declaring.constant_in Declaring.tagged_in
    Declaring.enumerated_in Declaring.completed_in Declaring.enumerator_in Declaring.derived Declaring.object_at Initializers.initial_value_in
    Initializers.initial_record_in Initializers.constants_in Statements.sized_in Statements.variable_type Statements.declare_all
    Statements.condition_in Statements.labels_in Statements.switched_in Statements.returned_in Statements.performed Statements.item_in
    Statements.items_in Statements.switch_items Statements.switch_item Files.library_named Files.is_main Files.object_of Files.function_of
    Files.file_declarators Files.received_by Files.filed_item Files.filed Files.annotated Finding.one_of Initializers.initialized
loops = refl

many : annotated 0 Many.file.untagged Many.items ≡ Ok Many.file
unfolding string_bytes Nodes.worth Nodes.named_in Nodes.index_in Nodes.array_of Nodes.element_in Nodes.signature_in Nodes.argument_in Nodes.call_in
    Nodes.dot_in Nodes.arrow_in Nodes.step_in Nodes.address_in Nodes.deref_in Nodes.unary_in Nodes.not_in Nodes.measured_type Nodes.sized_type
    Nodes.measured_in Nodes.cast_in Nodes.computed_in Nodes.compared_in Nodes.tested_in Nodes.tested Nodes.chosen_in Nodes.target_in
    Nodes.assigned_in Nodes.copied_in Nodes.updated_in Nodes.comma_in Declaring.literal_in Declaring.constant_in Declaring.tagged_in
    Declaring.enumerated_in Declaring.completed_in Declaring.enumerator_in Declaring.derived Declaring.object_at Initializers.initial_value_in
    Initializers.initial_record_in Initializers.constants_in Statements.sized_in Statements.variable_type Statements.declare_all
    Statements.condition_in Statements.labels_in Statements.switched_in Statements.returned_in Statements.performed Statements.item_in
    Statements.items_in Statements.switch_items Statements.switch_item Files.library_named Files.is_main Files.object_of Files.function_of
    Files.file_declarators Files.received_by Files.filed_item Files.filed Files.annotated Finding.one_of Initializers.initialized
many = refl
