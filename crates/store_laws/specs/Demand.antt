-- What is promised of a store (paper 02 §11), in the manner of the model's Demands.antt. That a refused one changes no byte of the buffer and that 29 is
-- given before all is in demands 1 and 2; that it changes nothing and needs the pages of the whole file is in demand 3.
use Rattle.std.specs.Prelude.{◌≡◌, ◌⊎◌, ℕ, ◌≤◌, ◌<◌, ◌++◌, map, length, T}
use Rattle.volume.specs.Bytes.{Bytes, part, put}
use Rattle.volume.specs.Geometry as On
use Rattle.model.specs.Layout.{version1, page_size, page_count, pages_for}
use Rattle.model.specs.Sound.{sound}
use Rattle.model.specs.Path.{path_of}
use Rattle.model.specs.Image.{tree_of}
use Rattle.model.specs.Walk.{parent_page}
use Rattle.model.specs.Store.{Store, last_pages, stores, store_at, store_count}
use Rattle.model.specs.Call.{make_file, write, store, Refusal, refusal, refused, granted}
use Rattle.model.specs.Meaning.{answer, after, buffer_after}
use Rattle.repair.specs.Repair.{repair_answer, repair_after}
use Rattle.store_laws.specs.Pull.{pulled}

-- A cartridge c that was pulled amid the stores on image b: repair is granted, and yields exactly the old tree; what it changes is the header page, which
-- becomes the old one.
pub record WonBack (b c : Bytes) : Type 0 where
  pub done : repair_answer c ≡ granted tt
  pub is_sound : T (sound (repair_after c))
  pub means : tree_of (repair_after c) ≡ tree_of b
  pub exactly : repair_after c ≡ put 0 (part 0 page_size b) c

-- where one store is granted all are: with a new file of so many pages
pub record Granted (path date v buffer b : Bytes) : Type 0 where
  -- the pages in order: the lowest free ones, along the chain, then the header, then the parent's if that is another
  pub ordered : map (λ (s : Store). s.page) (stores (path_of path) date v b) ≡ On.gained version1 (page_count b) (pages_for (length v)) b ++ last_pages (parent_page b (path_of path))
  pub many : length (stores (path_of path) date v b) ≡ store_count (path_of path) v
  pub answered : (j : ℕ) → j < store_count (path_of path) v → answer (store path date v j buffer) b ≡ granted (store_at j (path_of path) date v b).page
  pub lent : (j : ℕ) → j < store_count (path_of path) v → buffer_after (store path date v j buffer) b ≡ (store_at j (path_of path) date v b).bytes
  -- after any number of the stores short of all, and after the last
  pub survives : (j : ℕ) → j < store_count (path_of path) v → WonBack b (pulled j (path_of path) date v b)
  pub completes : pulled (store_count (path_of path) v) (path_of path) date v b ≡ after (write path 0 v) (after (make_file path date) b)

-- make, and then write
pub data Refuses (path date v : Bytes) (b : Bytes) (f : Refusal) : Type 0 where
  as_make : answer (make_file path date) b ≡ refused f → Refuses path date v b f
  as_write : answer (make_file path date) b ≡ granted tt → answer (write path 0 v) (after (make_file path date) b) ≡ refused f → Refuses path date v b f

pub record StoreDemand : Type 0 where
  pub grants : (path date v : Bytes) (k : ℕ) (buffer b : Bytes) (p : ℕ) → answer (store path date v k buffer) b ≡ granted p → Granted path date v buffer b
  -- with a buffer that is a page: what make or then write is refused with, the store is, number and place
  pub refuses : (path date v : Bytes) (k : ℕ) (buffer b : Bytes) (f : Refusal) → length buffer ≡ page_size → Refuses path date v b f → answer (store path date v k buffer) b ≡ refused f
  -- and nothing else is it refused with but 12, for a number past the last
  pub refused : (path date v : Bytes) (k : ℕ) (buffer b : Bytes) (f : Refusal) → length buffer ≡ page_size → answer (store path date v k buffer) b ≡ refused f
      → Refuses path date v b f ⊎ ((f ≡ refusal 12) × (store_count (path_of path) v ≤ k))
