-- Version 2 as a `Version` (paper 02 §12): with it everything that the crate `model` says of calls, their refusals, their meaning and their demands is said
-- of version 2 too, as `answer v2`, `after v2`, `Demand3 v2` and so on. Its calls are "the base's with §6's and §10's".
use Rattle.std.specs.Prelude.{ℕ, ◌*◌, [], ◌∷◌}
use Rattle.model.specs.Version.{Version}
use Rattle.model2.specs.Layout.{page_size, page_count, code_in, valid_length, is_version2, fit_header, fit_code}
use Rattle.model2.specs.Version2.{numbers2, view2, layout2}
use Rattle.model2.specs.Format.{formatted}

-- the bytes of an image with N pages and a page code
abbrev pub length_of : (pages code : ℕ) → ℕ
length_of pages code = pages * page_size code

abbrev pub v2 : Version
v2 = record {
  -- "format takes the page code"
  New = ℕ;
  -- "all other calls and the listing stay version 1's": there are no stores
  Stores = ⊥;
  -- pages set aside, page size, k, the entries of a page; and directories grow
  numbers = λ pages code. numbers2 code (length_of pages code);
  -- "1 is a length that isn't a multiple of 2,048 from 2,048 to 1,048,576"
  valid_length = valid_length;
  -- "2 is a wrong byte 0 or 1; 26, after 2, is a page code above 2 or too small for the image by the document's table, a length that isn't a multiple of 8
  -- pages, or bitmap bytes other than N/8"
  header = (is_version2, 2) ∷ (fit_header, 26) ∷ [];
  see = view2;
  code_in = code_in;
  -- "slots have a 16-bit start page and a 32-bit size"
  entry = layout2;
  -- "format gives only 1 and 26, judging the code it is handed"
  handed = (fit_code, 26) ∷ [];
  -- "writes page 0 as in version 1 with the new fields and the table's pages marked and counted, and zeroes those"
  formatted = formatted;
  -- N is then that of the new page size; the image keeps its length
  pages_made = page_count;
  pages_after = λ new pages code. page_count new (length_of pages code);
  code_after = λ new. new;
  store_at = λ has. absurd has;
  store_count = λ has. absurd has;
  -- "9 is never given"
  full_numbers = [];
}
