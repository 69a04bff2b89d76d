-- Lists of calls below a directory: each step answers alike on both images and leaves alike what the next one goes by.
use mathlib.Core.Path.{◌≡◌, refl, sym, ap, ◌∙◌, subst}
use Prim.Native.Nat.{ℕ, ◌+◌, ◌/◌}
use native.Mathlib.Omega.{arith}
use mathlib.Core.List.{List, [], ◌∷◌}
use lib.Dec.{T}
use Rattle.volume.specs.Bytes.{Bytes}
use Rattle.model.specs.Layout.{page_size, free_count}
use Rattle.model.specs.Sound.{sound}
use Rattle.model.specs.Tree.{Row, Tree, needs}
use Rattle.model.specs.Image.{tree_of}
use Rattle.model.specs.Call.{Call}
use Rattle.model.specs.Refusal.{walked_directory}
use Rattle.model.specs.Meaning.{tree_after, answer, after, buffer_after}
use Rattle.model.specs.Demands.{Results, Promised, Runs}
use Rattle.laws.proofs.Facts.{sound_facts_lem}
use Rattle.laws.proofs.Counting.{free_sum, free_number_lem}
use Rattle.laws.proofs.Steps.{as_tree_lem}
use Rattle.laws.proofs.Lists.{length_kept}
use Rattle.family.specs.Family.{Looks, Works, Each, Holds, LooksAlike, WorksAlike}
use Rattle.family.proofs.Calls.{AllShown, look_shown, work_shown, Agrees, look, work}

module _ (family : Bytes) where
  -- one call on two images
  record Alike₁ (c : Call) (b₁ b₂ : Bytes) : Type 0 where
    answered : answer c b₁ ≡ answer c b₂
    lent : buffer_after c b₁ ≡ buffer_after c b₂
    row : Row
    first : Holds (after c b₁) family row
    second : Holds (after c b₂) family row
    free : free_count b₁ ≡ free_count b₂ → free_count (after c b₁) ≡ free_count (after c b₂)

  -- the free count and the pages that the row needs are together as many as before
  count_moved : (c : Call) (b : Bytes) → T (sound b) → (s s' : Row) → needs (tree_after c (tree_of b)).root + needs s ≡ needs (tree_of b).root + needs s'
      → free_count (after c b) + needs s' ≡ free_count b + needs s
  count_moved c b h s s' e =
      let a = as_tree_lem c b h in
      let before = free_sum (sound_facts_lem h) in
      let later = free_sum (sound_facts_lem a.is_sound) in
      let tree = ap (λ (t : Tree). needs t.root) a.means in
      let long = ap (λ (n : ℕ). n / page_size) (length_kept c b) in
      omega (arith, before, later, tree, long, e)

  step : (c : Call) → AllShown c → (s : Row) (b₁ b₂ : Bytes) (h₁ : Holds b₁ family s) (h₂ : Holds b₂ family s)
      → Agrees family h₁.is_path s (tree_of b₁) (tree_of b₂) h₁.leads h₂.leads c → Alike₁ c b₁ b₂
  step c w s b₁ b₂ h₁ h₂ g =
      let a₁ = as_tree_lem c b₁ h₁.is_sound in
      let a₂ = as_tree_lem c b₂ h₂.is_sound in
      let m = g.moved in
      record {
        answered = sym (w.0 (answer c b₁)) ∙ a₁.answered ∙ g.answered ∙ sym a₂.answered ∙ w.0 (answer c b₂);
        lent = sym (w.1 (buffer_after c b₁)) ∙ a₁.lent ∙ g.lent ∙ sym a₂.lent ∙ w.1 (buffer_after c b₂);
        row = m.0;
        first = record { is_sound = a₁.is_sound; is_path = h₁.is_path; leads = ap (walked_directory family) a₁.means ∙ m.1 };
        second = record { is_sound = a₂.is_sound; is_path = h₂.is_path; leads = ap (walked_directory family) a₂.means ∙ m.2 };
        free = λ e. omega (arith, e, count_moved c b₁ h₁.is_sound s m.0 m.3, count_moved c b₂ h₂.is_sound s m.0 m.4);
      }

  -- a list of calls of which each is alike, Q being what the images share besides
  module _ (P : Call → Type 0) (Q : Bytes → Bytes → Type 0)
      (one : (c : Call) → P c → (s : Row) (b₁ b₂ : Bytes) → Holds b₁ family s → Holds b₂ family s → Q b₁ b₂ → Alike₁ c b₁ b₂ × Q (after c b₁) (after c b₂)) where
    all_alike : (cs : List Call) → Each P cs → (s : Row) (b₁ b₂ : Bytes) → Holds b₁ family s → Holds b₂ family s → Q b₁ b₂
        → (rs₁ rs₂ : Results cs) (after₁ after₂ : Bytes) → Runs b₁ cs rs₁ after₁ → Runs b₂ cs rs₂ after₂
        → (rs₁ ≡ rs₂) × (s' : Row) × Holds after₁ family s' × Holds after₂ family s' × Q after₁ after₂
    all_alike [] p s b₁ b₂ h₁ h₂ q rs₁ rs₂ after₁ after₂ e₁ e₂ = (
      refl,
      s,
      subst (λ (x : Bytes). Holds x family s) (sym e₁) h₁,
      subst (λ (x : Bytes). Holds x family s) (sym e₂) h₂,
      subst (λ (x : Bytes). Q x after₂) (sym e₁) (subst (Q b₁) (sym e₂) q),
    )
    all_alike (c ∷ cs) p s b₁ b₂ h₁ h₂ q rs₁ rs₂ after₁ after₂ run₁ run₂ =
        let o = one c p.0 s b₁ b₂ h₁ h₂ q in
        let a : Alike₁ c b₁ b₂ = o.0 in
        let p₁ : Promised c b₁ rs₁.0 run₁.0 = run₁.1 in
        let p₂ : Promised c b₂ rs₂.0 run₂.0 = run₂.1 in
        let told-c = p₁.answered ∙ a.answered ∙ sym p₂.answered in
        let lent-c = p₁.lent ∙ a.lent ∙ sym p₂.lent in
        let r = all_alike cs p.1 a.row run₁.0 run₂.0
        (subst (λ (x : Bytes). Holds x family a.row) (sym p₁.image) a.first) (subst (λ (x : Bytes). Holds x family a.row) (sym p₂.image) a.second)
        (subst (λ (x : Bytes). Q x run₂.0) (sym p₁.image) (subst (Q (after c b₁)) (sym p₂.image) o.1))
        rs₁.1 rs₂.1 after₁ after₂ run₁.2 run₂.2 in
        ((λ i. (record { answered = told-c i; lent = lent-c i }, r.0 i)), r.1, r.2, r.3, r.4)

pub looks_alike : LooksAlike
looks_alike family row b₁ b₂ h₁ h₂ cs l rs₁ rs₂ after₁ after₂ run₁ run₂ =
    (all_alike family (Looks family) (λ x y. Unit {0})
    (λ c k s x₁ x₂ k₁ k₂ q. (step family c (look_shown family c k) s x₁ x₂ k₁ k₂ (look family k₁.is_path s (tree_of x₁) (tree_of x₂) k₁.leads k₂.leads c k), tt))
    cs l row b₁ b₂ h₁ h₂ tt rs₁ rs₂ after₁ after₂ run₁ run₂).0

pub works_alike : WorksAlike
works_alike family row b₁ b₂ h₁ h₂ free cs l rs₁ rs₂ after₁ after₂ run₁ run₂ =
    let r = all_alike family (Works family) (λ x y. free_count x ≡ free_count y)
    (λ c k s x₁ x₂ k₁ k₂ q.
    let number = free_number_lem (sound_facts_lem k₁.is_sound) ∙ q ∙ sym (free_number_lem (sound_facts_lem k₂.is_sound)) in
    let a = step family c (work_shown family c k) s x₁ x₂ k₁ k₂ (work family k₁.is_path s (tree_of x₁) (tree_of x₂) k₁.leads k₂.leads number c k) in
    (a, a.free q))
    cs l row b₁ b₂ h₁ h₂ free rs₁ rs₂ after₁ after₂ run₁ run₂ in
    record { answered = r.0; row = r.1; first = r.2; second = r.3; free = r.4 }
