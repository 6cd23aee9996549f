use Rattle.std.proofs.Common.{◌++◌, ℕ, List, ap, ◌∙◌}
use Rattle.rv_runtime.specs.Bytes.{open_page, page, words_of}
use Rattle.rv_runtime.specs.Routines.{start_code, exit_code, malloc_code, calloc_code, free_code, copy_code, fill_code, compare_code}
use Rattle.rv_runtime.proofs.Lists.{eight_parts}
use Rattle.rv_runtime.proofs.words.runtime.Goals as goal

pub returns : goal.returns
returns c =
    eight_parts
    c.put_open.new.bytes.items
    c.put_open-2.new.bytes.items
    c.put_page.new.bytes.items
    c.put_page-2.new.bytes.items
    c.put_page-3.new.bytes.items
    c.put_page-4.new.bytes.items
    c.put_page-5.new.bytes.items
    c.put_page-6.new.bytes.items
    (open_page (words_of start_code))
    (open_page (words_of exit_code))
    (page (words_of malloc_code))
    (page (words_of calloc_code))
    (page (words_of free_code))
    (page (words_of copy_code))
    (page (words_of fill_code))
    (page (words_of compare_code))
    (c.in_ok-put_open.ensures ∙ ap (λ (x : List ℕ). x ++ open_page (words_of start_code)) c.new-bytes.ensures.items)
    c.in_ok-put_open-2.ensures
    c.in_ok-put_page.ensures
    c.in_ok-put_page-2.ensures
    c.in_ok-put_page-3.ensures
    c.in_ok-put_page-4.ensures
    c.in_ok-put_page-5.ensures
    c.in_ok-put_page-6.ensures
