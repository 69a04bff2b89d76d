-- A row names a file of the directory exactly if finding the path of its digits tells a file: digits are a legal name, and that path leads to what the
-- directory holds under it.
use mathlib.Core.Path.{◌≡◌, refl, sym, ap, ◌∙◌}
use Prim.Native.Nat.{ℕ, zero, suc, ◌+◌, ◌/◌, ◌%◌, ◌≤◌, ◌<◌}
use native.Mathlib.Omega.{arith}
use mathlib.Core.Bool.{Bool, true, false}
use mathlib.Core.Option.{Option, none, some}
use mathlib.Core.List.{[], ◌∷◌, ◌++◌}
use lib.ListN.{length, length-append}
use lib.Dec.{T, leb-suc-zero}
use borrow.Author.Tests.{le-leb, ne_eqb}
use Rattle.volume.specs.Bytes.{Bytes}
use Rattle.volume.specs.Lists.{all}
use Rattle.volume.proofs.Tests.{and_both, both_and}
use Rattle.model.specs.Name.{legal_byte, legal_text, padded}
use Rattle.model.specs.Tree.{Row, end, free_number, Node, file_node, directory_node, lookup}
use Rattle.model.specs.Image.{tree_of}
use Rattle.model.specs.Path.{Name, is_no_path, is_root}
use Rattle.model.specs.Walk.{Walked, node_named, in_walked, walk_to, arrived_or}
use Rattle.model.specs.Call.{Kind, is_file, is_directory, find, Found, refusal_at, Answer, refused, granted}
use Rattle.model.specs.Refusal.{is_missing, is_blocked, stopped_at, is_directory_node, settle}
use Rattle.model.specs.Meaning.{found_at, tree_answer, answer}
use Rattle.model.specs.MeaningOf
use Rattle.model.specs.RefusalOf
use Rattle.laws.proofs.Steps.{as_tree_lem}
use Rattle.family.specs.Family.{onward}
use Rattle.family.proofs.Onward.{one_more}
use Rattle.link_list.specs.Coding.{accession}
use Rattle.link_list.specs.Links.{node_in, is_file_there}
use Rattle.link_list.proofs.Rows.{holds}
use Rattle.std.specs.Prelude.{Result, Ok, Err}
use Rattle.outcomes.specs.declared.Kind.{Kind as Told}
use Rattle.outcomes.specs.declared.Kind.TheVariants.{File, Directory}
use Rattle.outcomes.specs.declared.Found.{Found as Finding}
use Rattle.outcomes.specs.Answers.{kind_of}
use Rattle.refusals.specs.declared.Refusal.{Refusal}
use Rattle.answers.specs.Answers.{find_answer}
use Rattle.link_files.proofs.Loading.{There}
use Rattle.link_checks.specs.Checks.{is_a_file, is_file_found}

-- ---- digits are a legal name

digit_legal : (m : ℕ) → m < 10 → T (legal_byte (48 + m))
unfolding legal_byte all
digit_legal m h =
    let a = le-leb 0x20 (48 + m) (omega arith) in
    let b = le-leb (48 + m) 0x7E (omega arith) in
    let c = ne_eqb (48 + m) 0x2F (λ e. omega arith) in
    rw (a, b, c) tt

all_last : (u : Bytes) (c : ℕ) → T (all legal_byte u) → T (legal_byte c) → T (all legal_byte (u ++ (c ∷ [])))
unfolding all
all_last [] c h k = both_and (legal_byte c) true k tt
all_last (x ∷ u) c h k = let two = and_both (legal_byte x) (all legal_byte u) h in both_and (legal_byte x) (all legal_byte (u ++ (c ∷ []))) two.0 (all_last u c two.1 k)

digits_legal : (k n : ℕ) → T (all legal_byte (accession k n))
unfolding accession all
digits_legal zero n = tt
digits_legal (suc k) n = all_last (accession k (n / 10)) (48 + n % 10) (digits_legal k (n / 10)) (digit_legal (n % 10) (omega arith))

pub digits_long : (k n : ℕ) → length (accession k n) ≡ k
unfolding accession
digits_long zero n = refl
digits_long (suc k) n = let l = digits_long k (n / 10) in omega (arith, l, length-append (accession k (n / 10)) ((48 + n % 10) ∷ []))

pub accession_legal : (k n : ℕ) → 1 ≤ k → k ≤ 16 → T (legal_text (accession k n))
unfolding legal_text all
accession_legal k n l h =
    let long = digits_long k n in
    let a = le-leb 1 (length (accession k n)) (omega arith) in
    let b = le-leb (length (accession k n)) 16 (omega arith) in
    rw (a, b, holds (all legal_byte (accession k n)) (digits_legal k n)) tt

-- ---- what finding the path of a name says

is_file_kind : Kind → Bool
is_file_kind (is_file locked) = true
is_file_kind is_directory = false

tells_file : Answer Found → Bool
tells_file (refused f) = false
tells_file (granted x) = is_file_kind x.kind

said_kind : (k : Told) → is_a_file k ≡ is_file_kind (kind_of k)
unfolding is_file_kind
said_kind (File locked) = refl
said_kind Directory = refl

said_file : (a : Result Finding Refusal) → is_file_found a ≡ tells_file (find_answer a)
unfolding tells_file
said_file (Ok f) = said_kind f.kind
said_file (Err r) = refl

module _ (b d : Bytes) (h : There b d) (v : Bytes) (legal : T (legal_text v)) where
  tree_tells : tells_file (tree_answer (find (onward d v)) (tree_of b)) ≡ is_file_there (lookup (padded v) h.row)
  unfolding MeaningOf.tree_answer RefusalOf.refusals RefusalOf.earlier RefusalOf.later RefusalOf.wanted settle MeaningOf.told is_no_path is_root walk_to in_walked arrived_or node_named is_missing is_blocked MeaningOf.found_at is_file_there is_directory_node tells_file is_file_kind
  tree_tells = rw ((one_more d h.is_path v legal).1, h.leads, leb-suc-zero (free_number (tree_of b))) (go (lookup (padded v) h.row))
    where
      n : Name
      n = record { begins = (one_more d h.is_path v legal).0; bytes = padded v }

      go : (o : Option Node) → tells_file (settle ((is_missing (node_named n o), refusal_at 5 (stopped_at (node_named n o))) ∷ (is_blocked (node_named n o), refusal_at 6 (stopped_at (node_named n o))) ∷ []) refused (granted (found_at (arrived_or (directory_node [] end) (node_named n o))))) ≡ is_file_there o
      go none = refl
      go (some (file_node l k w)) = refl
      go (some (directory_node k r)) = refl

  pub found_there : (a : Result Finding Refusal) → find_answer a ≡ answer (find (onward d v)) b → is_file_found a ≡ is_file_there (node_in d v (tree_of b))
  unfolding arrived_or
  found_there a e =
      said_file a ∙ ap tells_file (e ∙ (as_tree_lem (find (onward d v)) b h.is_sound).answered) ∙ tree_tells ∙ sym (ap (λ (w : Walked Row). is_file_there (lookup (padded v) (arrived_or end w))) h.leads)

pub file_told : (b d : Bytes) → There b d → (name path : Bytes) → T (legal_text name) → path ≡ onward d name
    → (a : Result Finding Refusal) → find_answer a ≡ answer (find path) b → is_file_found a ≡ is_file_there (node_in d name (tree_of b))
file_told b d h name path legal p a e = found_there b d h name legal a (e ∙ ap (λ (q : Bytes). answer (find q) b) p)
