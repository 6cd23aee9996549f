use Rattle.std.proofs.Common.{◌≡◌, ◌+◌, ◌-◌, [], ◌++◌, length, refl, arith, rules}
use Rattle.std.proofs.lemmas.List.{length-append}
use Rattle.elf32.specs.Written.{file_header, program_header, data_offset, page_up, zeros}
use Rattle.elf32.proofs.Parts.{appended}
use Rattle.elf32.proofs.writing.file.Goals as goal

pub returns : goal.returns
returns c =
    let text = c.args.text.now in
    let globals = c.args.globals.now in
    let out : c.in_ok-out.out.items ≡ [] = search rules in
    let stack : c.program_header-3.new.out.items ≡ c.program_header-2.new.out.items ++ program_header 0 0 c.args.stack.now =
    rw c.requires.stack_room.bytes at c.in_ok-program_header-3.ensures in
    let heap : c.program_header-4.new.out.items ≡ c.program_header-3.new.out.items ++ program_header 0 0 c.args.heap.now =
    rw c.requires.heap_room.bytes at c.in_ok-program_header-4.ensures in
    let page : c.page_up-data_offset.result ≡ page_up (length text.bytes) = search rules in
    let headers : length c.program_header-4.new.out.items ≡ 180 =
    rw (heap, stack, c.in_ok-program_header-2.ensures, c.in_ok-program_header.ensures, c.in_ok-file_header.ensures, out) refl in
    let before_text : 4096 - length c.program_header-4.new.out.items ≡ 4096 - 180 = omega arith in
    let text_written : c.bytes.new.out.items ≡ c.pad_to.new.out.items ++ text.bytes = rw c.as_slice.ensures at c.in_ok-bytes.ensures in
    let to_data : length c.bytes.new.out.items ≡ 4096 + length text.bytes = rw (text_written, length-append) (omega (arith, c.in_ok-pad_to.ensures.reached)) in
    let before_data : 4096 + c.page_up-data_offset.result - length c.bytes.new.out.items ≡ page_up (length text.bytes) - length text.bytes = omega arith in
    rw (
      c.in_ok-bytes-2.ensures,
      c.as_slice-2.ensures,
      c.in_ok-pad_to-2.ensures.padded,
      before_data,
      text_written,
      c.in_ok-pad_to.ensures.padded,
      before_text,
      heap,
      stack,
      c.in_ok-program_header-2.ensures,
      page,
      c.in_ok-program_header.ensures,
      c.in_ok-file_header.ensures,
    )
    (appended c.in_ok-out.out.items (file_header c.args.entry 4) (program_header 0x1000 (length text.bytes) text)
    (program_header (data_offset text) (length globals.bytes) globals)
    (program_header 0 0 c.args.stack.now) (program_header 0 0 c.args.heap.now) (zeros (0x1000 - 180)) text.bytes
    (zeros (page_up (length text.bytes) - length text.bytes)) globals.bytes out)
