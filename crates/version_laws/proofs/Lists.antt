-- Lists of calls of a version: each step keeps the image sound and the tree in step with the replay, so the list does; what a sound image says of its pages
-- and counts then holds at the end.
use mathlib.Core.Path.{◌≡◌, refl, sym, ap, ◌∙◌, subst}
use mathlib.Core.Logic.{◌↔◌}
use Prim.Native.Nat.{ℕ}
use mathlib.Core.List.{List, [], ◌∷◌}
use lib.ListN.{length}
use lib.Dec.{T}
use Rattle.volume.specs.Bytes.{Bytes}
use Rattle.model.specs.Tree.{Tree}
use Rattle.model.specs.Call.{CallOf, format_as, verdict, find, list, read, make_file, make_directory, write, remove_file, remove_directory, set_lock, store_as, Told, Verdict, Refusal, refusal, Answer, refused, granted}
use Rattle.model.specs.Version.{Version, Calls}
use Rattle.model.specs.RefusalOf.{earlier, later, wanted, refusals, settle, free_in}
use Rattle.model.specs.MeaningOf.{sound, without_page, shown, lent_shown, told, tree_answer, tree_buffer, tree_after, tree_of, lines, effect, answer, after, buffer_after}
use Rattle.model.specs.DemandsOf.{Results, Promised, Runs, replay, replay_results, Account, Demanded, AsTree}
use Rattle.version_laws.proofs.Lines.{settle_both, not_granted}
use Rattle.version_laws.proofs.Owed.{Owed}
use Rattle.version_laws.proofs.Steps.{no_want, as_tree_lem, want_of_pages_lem}

-- a refusal is shown whole, and nothing else is shown as one
shown_refused : {F S : Type 0} (c : CallOf F S) (a : Answer (Told c)) (r : Refusal) → (a ≡ refused r) ↔ (shown c a ≡ refused r)
unfolding without_page
shown_refused (format_as new) a r = (λ e. e, λ e. e)
shown_refused verdict a r = (λ e. e, λ e. e)
shown_refused (find path) a r = (λ e. e, λ e. e)
shown_refused (list path i) a r = (λ e. e, λ e. e)
shown_refused (read path at room) a r = (λ e. e, λ e. e)
shown_refused (make_file path date) a r = (λ e. e, λ e. e)
shown_refused (make_directory path date) a r = (λ e. e, λ e. e)
shown_refused (write path at v) a r = (λ e. e, λ e. e)
shown_refused (remove_file path) a r = (λ e. e, λ e. e)
shown_refused (remove_directory path) a r = (λ e. e, λ e. e)
shown_refused (set_lock locked path) a r = (λ e. e, λ e. e)
shown_refused (store_as has path date v k buffer) a r = go a
  where
    go : (x : Answer ℕ) → (x ≡ refused r) ↔ (without_page x ≡ refused r)
    go (refused s) = (λ e. e, λ e. e)
    go (granted p) = (λ e. absurd (not_granted e), λ e. absurd (not_granted e))

module _ {w : Version} (o : Owed w) where
  verdict_told : (t : Tree) → tree_answer w verdict t ≡ granted (record { pages = t.pages; free = free_in w t })
  unfolding tree_answer refusals earlier later wanted told
  verdict_told t = no_want refused (granted (record { pages = t.pages; free = free_in w t })) (free_in w t) (refusal 10)

  pub account : (b : Bytes) → T (sound w b) → Account w b (tree_of w b)
  account b h =
      let c = o.counts b h in
      record {
        is_sound = h;
        means = refl;
        counted = c.sum;
        zeros = c.zeros;
        told = (as_tree_lem o verdict b h).answered ∙ verdict_told (tree_of w b) ∙ ap {B = Answer Verdict} (λ n. granted (record { pages = (tree_of w b).pages; free = n })) c.free;
        number = c.free;
        pages = c.owned;
      }

  pub length_kept : (c : Calls w) (b : Bytes) → length (after w c b) ≡ length b
  unfolding after
  length_kept c b = settle_both (λ (x y : Bytes). length x ≡ length b) (lines w c b) (λ f. b) (effect w c b) (λ f. b) b (λ f. refl) (o.kept c b)

  pub demanded : (cs : List (Calls w)) (b : Bytes) (t : Tree) → T (sound w b) → tree_of w b ≡ t → (rs : Results w cs) (b' : Bytes) → Runs w b cs rs b' → Demanded w b t cs rs b'
  unfolding replay replay_results
  demanded [] b t h e rs b' q = record {
    account = subst (λ (x : Bytes). Account w x t) (sym q) (subst (Account w b) e (account b h));
    long = ap length q;
    answered = refl;
    want_of_pages = tt;
  }
  demanded (c ∷ cs) b t h e rs b' run =
      let mid : Bytes = run.0 in
      let p : Promised w c b rs.0 mid = run.1 in
      let s : AsTree w c b = as_tree_lem o c b h in
      let told-c : shown c rs.0.answered ≡ tree_answer w c t = ap (shown c) p.answered ∙ s.answered ∙ ap (tree_answer w c) e in
      let lent-c = ap (lent_shown c) p.lent ∙ s.lent ∙ ap (tree_buffer w c) e in
      let tree : tree_of w mid ≡ tree_after w c t = ap (tree_of w) p.image ∙ s.means ∙ ap (tree_after w c) e in
      let r = demanded cs mid (tree_after w c t) (subst (λ (x : Bytes). T (sound w x)) (sym p.image) s.is_sound) tree rs.1 b' run.2 in
      let u = want_of_pages_lem o c t in
      record {
        account = r.account;
        long = r.long ∙ ap length p.image ∙ length_kept c b;
        answered = λ i. (record { answered = told-c i; lent = lent-c i }, r.answered i);
        want_of_pages = (
          (λ x. u.0 (sym told-c ∙ (shown_refused c rs.0.answered (refusal 10)).0 x), λ y. (shown_refused c rs.0.answered (refusal 10)).1 (told-c ∙ u.1 y)),
          r.want_of_pages,
        );
      }

-- every list of calls has a run: what the contracts promise is there
pub runs : (w : Version) (cs : List (Calls w)) (b : Bytes) → (rs : Results w cs) × (b' : Bytes) × Runs w b cs rs b'
runs w [] b = (tt, b, refl)
runs w (c ∷ cs) b =
    let r = runs w cs (after w c b) in
    ((record { answered = answer w c b; lent = buffer_after w c b }, r.0), r.1, (after w c b, record { answered = refl; lent = refl; image = refl }, r.2))
