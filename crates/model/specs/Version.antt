-- What a version of the format says, so that all that is said of calls is said once (paper 02 §12). Version 1 is `v1`, below.
use Rattle.std.specs.Prelude.{ℕ, ◌/◌, Bool, List, [], ◌∷◌}
use Rattle.volume.specs.Bytes.{Bytes}
use Rattle.model.specs.Layout.{page_size, valid_length, valid_header}
use Rattle.model.specs.Numbers.{Numbers, numbers1}
use Rattle.model.specs.View.{View, EntryLayout}
use Rattle.model.specs.Version1.{view, layout1}
use Rattle.model.specs.Path.{Path}
use Rattle.model.specs.Call.{CallOf}
use Rattle.model.specs.Effect as Effect
use Rattle.model.specs.Store as Store
use Rattle.model.specs.Store.{Store}

pub record Version : Type 1 where
  -- what format is handed, and whether there are stores (see `CallOf`)
  pub New : Type 0
  pub Stores : Type 0
  -- ---- numbers
  pub numbers : (pages code : ℕ) → Numbers
  -- ---- an image: the lengths that number 1 allows; what is then asked of the header, each with the number that says no; the image read, and its page code
  pub valid_length : (length : ℕ) → Bool
  pub header : List ((Bytes → Bool) × ℕ)
  pub see : Bytes → View
  pub code_in : Bytes → ℕ
  -- ---- what calls write: an entry's numbers; format's bytes, after what is asked of the length and of what it is handed, and N and the code afterwards
  pub entry : EntryLayout
  pub handed : List ((New → (length : ℕ) → Bool) × ℕ)
  pub formatted : New → Bytes → Bytes
  pub pages_made : New → (length : ℕ) → ℕ
  pub pages_after : New → (pages code : ℕ) → ℕ
  pub code_after : New → ℕ
  -- ---- a store by its number (paper 02 §11), and how many there are
  pub store_at : Stores → (number : ℕ) → Path → (date content : Bytes) → Bytes → Store
  pub store_count : Stores → Path → (content : Bytes) → ℕ
  -- ---- the number of a make in a full directory: 9, and none where directories grow
  pub full_numbers : List ℕ

-- the calls of a version
abbrev pub Calls : Version → Type 0
Calls w = CallOf w.New w.Stores

-- Version 1: document 01, and paper 02 §11. No call changes an image's length, so N stays.
abbrev pub v1 : Version
v1 = record {
  New = Unit {0};
  Stores = Unit {0};
  numbers = λ pages code. numbers1;
  valid_length = valid_length;
  -- 2: byte 0, 1 or 2 is wrong
  header = (valid_header, 2) ∷ [];
  see = view;
  code_in = λ b. 0;
  entry = layout1;
  handed = [];
  formatted = λ new b. Effect.formatted b;
  pages_made = λ new length. length / page_size;
  pages_after = λ new pages code. pages;
  code_after = λ new. 0;
  store_at = λ has k path date content b. Store.store_at k path date content b;
  store_count = λ has path content. Store.store_count path content;
  full_numbers = 9 ∷ [];
}
