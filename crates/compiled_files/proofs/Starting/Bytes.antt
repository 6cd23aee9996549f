-- A file of bytes is that of an image whose memory holds bytes.
use Rattle.std.proofs.Common.{ℕ, ◌-◌, ◌^◌, ◌<◌, List, [], ◌∷◌, ◌++◌, length}
use Rattle.std.proofs.lemmas.List.Elements.{All-cons, All-head, All-nil, All-tail}
use Rattle.c_typed.specs.Programs.{ProgramData}
use Rattle.elf32.specs.Written.{elf_file, file_header, four_headers, heap_address, page_up, stack_address, text_address, zeros}
use Rattle.rv_code.specs.Programs.{places_of}
use Rattle.rv_image.specs.Data.{data_of_program, object_places}
use Rattle.rv_image.specs.Images.{end_of_room, full_segment, image_of, room_segment, text_of_program}
use Rattle.rv_isa.specs.Memory.{initial_memory}
use Rattle.rv_isa.specs.declared.image.Segment.{Segment}
use Rattle.tac_ir.specs.Code.{Code}
use Rattle.compiled_files.proofs.Starting.Loaded.{memory_small}
use Rattle.compiled_files.proofs.Starting.Putting.{AreBytes}

abbrev Small : ℕ → Type 0
Small b = b < 2 ^ 8

back : (xs ys : List ℕ) → AreBytes (xs ++ ys) → AreBytes ys
back [] ys h = h
back (x ∷ xs) ys h = back xs ys (All-tail Small x (xs ++ ys) h)

front : (xs ys : List ℕ) → AreBytes (xs ++ ys) → AreBytes xs
front [] ys h = All-nil Small
front (x ∷ xs) ys h = All-cons Small x xs (All-head Small x (xs ++ ys) h) (front xs ys (All-tail Small x (xs ++ ys) h))

module _ (p : ProgramData) (c : Code) (heap stack : ℕ) where
  abbrev text : List ℕ
  text = text_of_program p c stack

  abbrev globals : List ℕ
  globals = data_of_program p c (places_of c (object_places p)) (end_of_room heap_address heap)

  abbrev segments : List Segment
  segments = (image_of p c heap stack).segments

  pub memory_holds_bytes : AreBytes (elf_file (image_of p c heap stack)) → (a : ℕ) → initial_memory segments a < 2 ^ 8
  memory_holds_bytes file a =
      let gap = zeros (page_up (length text) - length text) in
      let headers = four_headers (full_segment text_address 5 text) (full_segment 0x08000000 6 globals) (room_segment stack_address stack)
      (room_segment heap_address heap) in
      let rooms = room_segment stack_address stack ∷ room_segment heap_address heap ∷ [] in
      let rest = text ++ (gap ++ globals) in
      let own = back (zeros (0x1000 - 180)) rest (back headers (zeros (0x1000 - 180) ++ rest)
      (back (file_header text_address 4) (headers ++ (zeros (0x1000 - 180) ++ rest)) file)) in
      let Bytes : Segment → Type 0 = λ s. AreBytes s.bytes in
      memory_small segments a
      (All-cons Bytes (full_segment text_address 5 text) (full_segment 0x08000000 6 globals ∷ rooms) (front text (gap ++ globals) own)
      (All-cons Bytes (full_segment 0x08000000 6 globals) rooms (back gap globals (back text (gap ++ globals) own))
      (All-cons Bytes (room_segment stack_address stack) (room_segment heap_address heap ∷ []) (All-nil Small)
      (All-cons Bytes (room_segment heap_address heap) [] (All-nil Small) (All-nil Bytes)))))
