-- The directories among the entries, put on the list one by one.
use mathlib.Core.Path.{◌≡◌, sym, ap, ◌∙◌, subst}
use Prim.Native.Nat.{ℕ, suc, ◌+◌, ◌≤◌, ◌<◌}
use native.Mathlib.Omega.{arith}
use mathlib.Core.List.{List, [], ◌∷◌, ◌++◌, append-nil, append_assoc}
use lib.ListN.{length, set, take, length-append}
use lib.Seq.{take-suc-set}
use Rattle.volume.specs.Bytes.{Bytes}
use Rattle.model.specs.Entry as Model
use Rattle.model.specs.Entry.{entry_count, entries, is_locked, name_at, date_at, entry_at}
use Rattle.model.specs.Sound.{in_directory}
use Rattle.fields.specs.declared.Entry.{Entry}
use Rattle.fields.specs.declared.Entry.TheVariants.{Vacant, File, Directory}
use Rattle.fields.specs.declared.Page.{Page}
use Rattle.fields.specs.Read.{entry_of, Small}
use Rattle.claims.specs.Claim.{directories_at}
use Rattle.claims.specs.Lent.{position, rest}
use Rattle.claims.proofs.Claims.{read_as}
use Rattle.claims.proofs.Names.{dirs_next, Pushes, pushes_last}
use Rattle.owner_rows.specs.Says.{directory_at, Pushed}

-- ---- one entry, by what was read at its position

none_pushed : (ds list : List ℕ) (end : ℕ) → [] ≡ ds → Pushed ds list end list end
none_pushed ds list end e = record { counted = omega (arith, ap length e); held = sym (append-nil (take end list)) ∙ ap (λ (xs : List ℕ). take end list ++ xs) e }

module _ (b : Bytes) (at : ℕ) {r : Entry} (read : entry_of r (is_locked b at) (name_at b at) (date_at b at) ≡ entry_at b at) where
  entry_finds : {s : Entry} → r ≡ s → in_directory {A = List ℕ} [] (λ x. x ∷ []) (entry_of s (is_locked b at) (name_at b at) (date_at b at)) ≡ directory_at b at
  unfolding directory_at
  entry_finds e = ap (λ (x : Model.Entry). in_directory {A = List ℕ} [] (λ s. s ∷ []) x) (read_as b at read e)

  module _ (list : List ℕ) (end : ℕ) where
    pub vacant_finds : r ≡ Vacant → Pushed (directory_at b at) list end list end
    vacant_finds e = none_pushed (directory_at b at) list end (entry_finds e)

    module _ {start : Page} {size : ℕ} where
      pub file_finds : r ≡ File start size → Pushed (directory_at b at) list end list end
      file_finds e = none_pushed (directory_at b at) list end (entry_finds e)

      module _ (e : r ≡ Directory start size) (room : end + length (directory_at b at) ≤ length list) where
        pub directory_room : end < length list
        directory_room = omega (arith, room, ap length (entry_finds e))

        pub directory_finds : Pushed (directory_at b at) list end (set list end start.0) (end + 1)
        directory_finds =
            let d : start.0 ∷ [] ≡ directory_at b at = entry_finds e in
            let one : end + 1 ≡ suc end = omega arith in
            record {
              counted = omega (arith, ap length d);
              held = ap (λ (k : ℕ). take k (set list end start.0)) one ∙ take-suc-set list end start.0 directory_room ∙ ap (λ (ds : List ℕ). take end list ++ ds) d;
            }

-- the page of a directory fits the byte that the list has for it
pub small_directory : {r : Entry} {start : Page} {size : ℕ} → r ≡ Directory start size → Small r → start.0 < 256
small_directory e small = (subst Small e small).0

-- ---- the entries of a directory: what is on the list so far, and what is to come

module _ (b : Bytes) (p found : ℕ) (list₀ : List ℕ) {end i n : ℕ} {list : List ℕ} (w : Pushes b p found list₀ end i list) (c : n ≡ entry_count p) where
  module _ (l : i < n) {at : ℕ} (here : at ≡ position p i) where
    to_come : directories_at b (rest p i) ≡ directory_at b at ++ directories_at b (rest p (i + 1))
    unfolding directory_at
    to_come = dirs_next b p i (omega arith) ∙ ap (λ (x : ℕ). in_directory {A = List ℕ} [] (λ s. s ∷ []) (entry_at b x) ++ directories_at b (rest p (i + 1))) (sym here)

    pub entry_room : found + length (directories_at b (entries p)) ≤ length list₀ → end + length (directory_at b at) ≤ length list
    entry_room u = omega (arith, u, w.counted, w.kept, ap length to_come, length-append (directory_at b at) (directories_at b (rest p (i + 1))))

    pub pushes_next : {list' : List ℕ} {end' : ℕ} → Pushed (directory_at b at) list end list' end' → length list' ≡ length list → Pushes b p found list₀ end' (i + 1) list'
    pushes_next {list'} {end'} s k = record {
      counted = omega (arith, s.counted, w.counted, ap length to_come, length-append (directory_at b at) (directories_at b (rest p (i + 1))));
      kept = k ∙ w.kept;
      held = ap (λ (xs : List ℕ). xs ++ directories_at b (rest p (i + 1))) s.held
          ∙ append_assoc (take end list) (directory_at b at) (directories_at b (rest p (i + 1)))
          ∙ ap (λ (xs : List ℕ). take end list ++ xs) (sym to_come) ∙ w.held;
    }

  pub pushes_done : n ≤ i → Pushed (directories_at b (entries p)) list₀ found list end
  pushes_done l = let r = pushes_last b p found list₀ c l w in record { counted = r.0; held = r.1 }
