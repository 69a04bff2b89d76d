-- A granted writing leaves the file of its rows: no line holds, so its removal, make and write are granted in turn, and the bytes read as the rows.
use mathlib.Core.Path.{◌≡◌, refl, sym, ap, ◌∙◌, subst}
use Prim.Native.Nat.{ℕ, ◌≤◌}
use mathlib.Core.Bool.{Bool, true, false, not}
use mathlib.Core.Option.{Option, none, some, some-ne-none}
use mathlib.Core.List.{List, [], ◌∷◌, ◌++◌}
use lib.ListN.{length, drop}
use lib.Dec.{T, ltb}
use borrow.Author.Tests.{le-ltb, not-true}
use Rattle.volume.specs.Bytes.{Bytes}
use Rattle.std.specs.Prelude.{if◌then◌else◌}
use Rattle.model.specs.Sound.{sound}
use Rattle.model.specs.Tree.{Tree, Node, file_node, directory_node, lookup}
use Rattle.model.specs.Image.{tree_of}
use Rattle.model.specs.Path.{path_of, is_no_path, is_root, names}
use Rattle.model.specs.Walk.{node_named, in_walked, walk_to, arrived_or}
use Rattle.model.specs.Call.{Call, make_file, write, remove_file, Refusal, Answer, refused, granted}
use Rattle.model.specs.Refusal.{Line, is_missing, is_blocked, is_there, is_directory_node, is_locked_node, content_in, refusals, settle, Passes}
use Rattle.model.specs.Meaning.{image_lines, tree_after}
use Rattle.model.specs.Demands.{replay}
use Rattle.model.specs.DemandsOf
use Rattle.laws.proofs.Lines.{passed, granted_passed}
use Rattle.laws.proofs.Passed.{image_passed}
use Rattle.link_list.specs.declared.Row.{Row}
use Rattle.link_list.specs.Coding.{file_of}
use Rattle.link_list.specs.Judging.{rows, read_list, bad_row}
use Rattle.link_list.specs.Links.{read_links, write_links, links_path, rows_in, is_directory_there, is_locked_there, file_lines, bad_line, judged_lines, removal, writing, bad_row_line, room_lines, old_lines, link_lines, link_told, list_filled, turns_of, tree_link_answer, tree_link_list, link_turns, link_answer, link_list, link_after}
use Rattle.link_list.specs.Demand.{InTurn, ReadsBack}
use Rattle.link_list.proofs.Rows.{holds}
use Rattle.link_list.proofs.Files.{list_read_back}
use Rattle.link_list.proofs.Steps.{link_as_tree}
use Rattle.link_list.proofs.Writing.{links_key, Old, old_passed, links_named, removed_file, Cleared, cleared, settle_passed, Stands, made_stands, written_stands}

passes_both : (ls ms : List Line) → Passes (ls ++ ms) → Passes ls × Passes ms
unfolding settle
passes_both [] ms e = (refl, e)
passes_both (l ∷ ls) ms e = go l.0 e (passes_both ls ms)
  where
    go : (c : Bool) → (if c then some l.1 else settle (ls ++ ms) some none) ≡ none → (Passes (ls ++ ms) → Passes ls × Passes ms)
        → ((if c then some l.1 else settle ls some none) ≡ none) × Passes ms
    go true u next = absurd (some-ne-none l.1 u)
    go false u next = next u

none_bad : (o : Option Refusal) → Passes (bad_row_line o) → o ≡ none
unfolding bad_row_line settle
none_bad none e = refl
none_bad (some f) e = absurd (some-ne-none f e)

-- what a granted writing has passed
record Granted (d date : Bytes) (rs : List Row) (b : Bytes) : Type 0 where
  is_sound : T (sound b)
  old : Old d date (tree_of b)
  good : bad_row rs ≡ none
  makes : Passes (refusals (make_file (links_path d) date) (replay (removal d (tree_of b)) (tree_of b)))
  writes : Passes (refusals (write (links_path d) 0 (file_of rs)) (tree_after (make_file (links_path d) date) (replay (removal d (tree_of b)) (tree_of b))))
  turns : link_turns (write_links d date rs) (tree_of b) ≡ writing d date rs (tree_of b)

granted_writing : (d date : Bytes) (rs : List Row) (b : Bytes) → link_answer (write_links d date rs) b ≡ granted tt → Granted d date rs b
unfolding link_answer link_lines link_told room_lines link_turns turns_of
granted_writing d date rs b e =
    let t : Tree = tree_of b in
    let all = image_passed b (link_lines (write_links d date rs) t) (granted_passed (image_lines b ++ link_lines (write_links d date rs) t) tt tt e) in
    let a = passes_both (old_lines d date t) (bad_row_line (bad_row rs) ++ room_lines d date rs t) all.1 in
    let c = passes_both (bad_row_line (bad_row rs)) (room_lines d date rs t) a.1 in
    let m = passes_both (refusals (make_file (links_path d) date) (replay (removal d t) t)) _ c.1 in
    record {
      is_sound = all.0;
      old = old_passed d date t a.0;
      good = none_bad (bad_row rs) c.0;
      makes = m.0;
      writes = m.1;
      turns = settle_passed (link_lines (write_links d date rs) t) (λ f. []) (writing d date rs t) all.1;
    }

-- ---- in turn

replay_append : (xs ys : List Call) (t : Tree) → replay (xs ++ ys) t ≡ replay ys (replay xs t)
unfolding DemandsOf.replay
replay_append [] ys t = refl
replay_append (x ∷ xs) ys t = replay_append xs ys (tree_after x t)

turn_append : (xs ys : List Call) (t : Tree) → InTurn xs t → InTurn ys (replay xs t) → InTurn (xs ++ ys) t
unfolding DemandsOf.replay
turn_append [] ys t h k = k
turn_append (x ∷ xs) ys t h k = (h.0, turn_append xs ys (tree_after x t) h.1 k)

pub removal_granted : (d date : Bytes) (t : Tree) → Old d date t → InTurn (removal d t) t
unfolding removal is_there arrived_or is_directory_there is_locked_there is_directory_node is_locked_node
removal_granted d date t o = go (lookup links_key o.row) refl o.no_directory o.unlocked
  where
    go : (x : Option Node) → lookup links_key o.row ≡ x → T (not (is_directory_there x)) → T (not (is_locked_there x)) → InTurn (removal d t) t
    go none l u v = rw (o.leads, l) tt
    go (some (directory_node e r)) l u v = absurd u
    go (some (file_node true e w)) l u v = absurd v
    go (some (file_node false e w)) l u v =
        let m = links_named d o.is_path in
        let r = removed_file (links_path d) (names (path_of d)) (record { begins = m.0; bytes = links_key }) m.1 t o.row e w o.leads l in
        rw (o.leads, l) (r.0, tt)

pub in_turn_lem : (d date : Bytes) (rs : List Row) (b : Bytes) → link_answer (write_links d date rs) b ≡ granted tt → InTurn (writing d date rs (tree_of b)) (tree_of b)
unfolding writing
in_turn_lem d date rs b e =
    let g = granted_writing d date rs b e in
    turn_append (removal d (tree_of b)) _ (tree_of b) (removal_granted d date (tree_of b) g.old) (g.makes, (g.writes, tt))

-- ---- the rows are read back

stands_written : (d date : Bytes) (rs : List Row) (b : Bytes) → Granted d date rs b → Stands d date (file_of rs) (tree_of (link_after (write_links d date rs) b))
unfolding writing DemandsOf.replay
stands_written d date rs b g =
    let t : Tree = tree_of b in
    let u : Tree = replay (removal d t) t in
    let makes : Call = make_file (links_path d) date in
    let writes : Call = write (links_path d) 0 (file_of rs) in
    let c : Cleared d u = cleared b g.is_sound d date g.old in
    let m = made_stands d date g.old.is_path u c g.makes in
    let w = written_stands d date g.old.is_path (file_of rs) (tree_after makes u) m g.writes in
    let tree : tree_of (link_after (write_links d date rs) b) ≡ tree_after writes (tree_after makes u) =
    (link_as_tree (write_links d date rs) b g.is_sound).means ∙ ap (λ (cs : List Call). replay cs t) g.turns ∙ replay_append (removal d t) (makes ∷ writes ∷ []) t in
    subst (Stands d date (file_of rs)) (sym tree) w

read_stands : (d date : Bytes) → T (not (is_no_path (path_of d))) → (rs list : List Row) → read_list (file_of rs) ≡ rows rs → length rs ≤ length list
    → (t : Tree) → Stands d date (file_of rs) t → (tree_link_answer (read_links d list) t ≡ granted (length rs)) × (tree_link_list (read_links d list) t ≡ rs ++ drop (length rs) list)
unfolding tree_link_answer tree_link_list link_lines link_told list_filled judged_lines file_lines bad_line rows_in settle is_no_path is_root walk_to in_walked node_named is_missing is_blocked arrived_or is_directory_node content_in
read_stands d date h rs list e l t s =
    rw ((links_named d h).1, s.leads, s.holds_it, e, not-true (is_no_path (path_of d)) (holds (not (is_no_path (path_of d))) h), le-ltb (length list) (length rs) l) (refl, refl)

pub reads_back_lem : (d date : Bytes) (rs : List Row) (b : Bytes) → link_answer (write_links d date rs) b ≡ granted tt
    → (list : List Row) → length rs ≤ length list → ReadsBack d rs (link_after (write_links d date rs) b) list
reads_back_lem d date rs b e list l =
    let g = granted_writing d date rs b e in
    let after-b : Bytes = link_after (write_links d date rs) b in
    let s = link_as_tree (read_links d list) after-b (link_as_tree (write_links d date rs) b g.is_sound).is_sound in
    let r = read_stands d date g.old.is_path rs list (list_read_back rs g.good) l (tree_of after-b) (stands_written d date rs b g) in
    record { answered = s.answered ∙ r.0; filled = s.list ∙ r.1 }
