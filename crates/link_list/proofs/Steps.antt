-- A link call on a sound image does to the tree what its calls of the base do in turn, and a list with link calls in it is the flat list of calls:
-- each link call's image is by definition that after those calls.
use mathlib.Core.Path.{◌≡◌, refl, sym, ap, ◌∙◌, subst}
use mathlib.Core.List.{List, [], ◌∷◌, ◌++◌}
use Prim.Native.Nat.{ℕ}
use lib.Dec.{T, leb-suc-zero}
use Rattle.volume.specs.Bytes.{Bytes}
use Rattle.std.specs.Prelude.{if◌then◌else◌}
use Rattle.model.specs.Sound.{sound}
use Rattle.model.specs.Tree.{Tree, free_number}
use Rattle.model.specs.Image.{tree_of}
use Rattle.model.specs.Call.{Call, verdict, Refusal, Answer, refused, granted}
use Rattle.model.specs.Refusal.{Line, settle}
use Rattle.model.specs.Meaning.{shown, lent_shown, tree_answer, tree_buffer, tree_after, image_lines, is_format, told, answer, after, buffer_after}
use Rattle.model.specs.Demands.{Results, Promised, Runs, replay, Demanded, Starts, soundly, freshly}
use Rattle.model.specs.DemandsOf
use Rattle.model.specs.MeaningOf
use Rattle.model.specs.RefusalOf
use Rattle.laws.proofs.Lines.{settle_append, settle_both, settle_refused}
use Rattle.laws.proofs.Steps.{image_skip, as_tree_lem, after_format}
use Rattle.laws.proofs.Headline.{demand_3}
use Rattle.link_list.specs.Links.{LinkCall, LinkTold, list_before, link_lines, link_told, list_filled, turns_of, tree_link_answer, tree_link_list, link_turns, link_answer, link_list, run_after, link_after}
use Rattle.link_list.specs.Demand.{LinkAsTree, Step, base, link, StepResults, StepsRun, turns_in, flat, step_replayed, steps_replayed, steps_shown, StepsDemanded}

-- ---- what the verdict refuses

pub unsound_alike : (c : LinkCall) (b : Bytes) (f : Refusal) → answer verdict b ≡ refused f → link_answer c b ≡ refused f
unfolding MeaningOf.answer MeaningOf.lines is_format RefusalOf.refusals RefusalOf.earlier RefusalOf.later RefusalOf.wanted link_answer settle
unsound_alike c b f e =
    let none_wanted : settle (image_lines b) refused (granted (told verdict (tree_of b))) ≡ refused f = rw (leb-suc-zero (free_number (tree_of b))) at e in
    settle_append refused (image_lines b) (link_lines c (tree_of b)) (granted (link_told c (tree_of b)))
    ∙ settle_refused (image_lines b) (told verdict (tree_of b)) f refused (settle (link_lines c (tree_of b)) refused (granted (link_told c (tree_of b)))) none_wanted

-- ---- calls in turn

pub run_sound : (cs : List Call) (b : Bytes) → T (sound b) → T (sound (run_after cs b)) × (tree_of (run_after cs b) ≡ replay cs (tree_of b))
unfolding run_after DemandsOf.replay
run_sound [] b h = (h, refl)
run_sound (c ∷ cs) b h =
    let s = as_tree_lem c b h in
    let r = run_sound cs (after c b) s.is_sound in
    (r.0, r.1 ∙ ap (replay cs) s.means)

-- the image after a link call is that after its calls
pub after_turns : (c : LinkCall) (b : Bytes) → T (sound b) → link_after c b ≡ run_after (link_turns c (tree_of b)) b
unfolding link_after link_turns run_after
after_turns c b h =
    image_skip b h (λ f. b) (run_after (turns_of c (tree_of b)) b) (link_lines c (tree_of b))
    ∙ settle_both (λ (x : Bytes) (cs : List Call). x ≡ run_after cs b) (link_lines c (tree_of b)) (λ f. b) (run_after (turns_of c (tree_of b)) b) (λ f. []) (turns_of c (tree_of b)) (λ f. refl) (λ p. refl)

pub link_as_tree : (c : LinkCall) (b : Bytes) → T (sound b) → LinkAsTree c b
unfolding link_answer link_list tree_link_answer tree_link_list
link_as_tree c b h =
    let e = after_turns c b h in
    let r = run_sound (link_turns c (tree_of b)) b h in
    record {
      answered = image_skip b h refused (granted (link_told c (tree_of b))) (link_lines c (tree_of b));
      list = image_skip b h (λ f. list_before c) (list_filled c (tree_of b)) (link_lines c (tree_of b));
      is_sound = subst (λ (x : Bytes). T (sound x)) (sym e) r.0;
      means = ap tree_of e ∙ r.1;
    }

-- ---- lists

-- calls run, and a list that runs from there
run_on : (cs ds : List Call) (b b' : Bytes) (qs : Results ds) → Runs (run_after cs b) ds qs b' → (rs : Results (cs ++ ds)) × Runs b (cs ++ ds) rs b'
unfolding run_after
run_on [] ds b b' qs r = (qs, r)
run_on (c ∷ cs) ds b b' qs r =
    let n = run_on cs ds (after c b) b' qs r in
    ((record { answered = answer c b; lent = buffer_after c b }, n.0), (after c b, record { answered = refl; lent = refl; image = refl }, n.1))

-- the flat list runs to the same image, and each step answers as the replay says
abbrev Flat : Bytes → Tree → (ss : List Step) → StepResults ss → Bytes → Type 0
Flat b t ss rs b' = (qs : Results (flat ss t)) × Runs b (flat ss t) qs b' × (steps_shown ss rs ≡ steps_replayed ss t)

steps_flat : (ss : List Step) (b : Bytes) (t : Tree) → T (sound b) → tree_of b ≡ t → (rs : StepResults ss) (b' : Bytes) → StepsRun b ss rs b' → Flat b t ss rs b'
unfolding flat turns_in steps_replayed step_replayed DemandsOf.replay run_after
steps_flat [] b t h e rs b' q = (tt, q, refl)
steps_flat (base c ∷ ss) b t h e rs b' run =
    let mid : Bytes = run.0 in
    let p : Promised c b rs.0 mid = run.1 in
    let s = as_tree_lem c b h in
    let tree : tree_of mid ≡ tree_after c t = ap tree_of p.image ∙ s.means ∙ ap (tree_after c) e in
    let next = steps_flat ss mid (tree_after c t) (subst (λ (x : Bytes). T (sound x)) (sym p.image) s.is_sound) tree rs.1 b' run.2 in
    let told-c = ap (shown c) p.answered ∙ s.answered ∙ ap (tree_answer c) e in
    let lent-c = ap (lent_shown c) p.lent ∙ s.lent ∙ ap (tree_buffer c) e in
    ((rs.0, next.0), (mid, p, next.1), λ i. (record { answered = told-c i; lent = lent-c i }, next.2 i))
steps_flat (link c ∷ ss) b t h e rs b' run =
    let mid : Bytes = run.0 in
    let p = run.1 in
    let s = link_as_tree c b h in
    let cs : List Call = link_turns c t in
    let image : mid ≡ run_after cs b = p.image ∙ after_turns c b h ∙ ap (λ (u : Tree). run_after (link_turns c u) b) e in
    let tree : tree_of mid ≡ replay cs t = ap tree_of p.image ∙ s.means ∙ ap (λ (u : Tree). replay (link_turns c u) u) e in
    let next = steps_flat ss mid (replay cs t) (subst (λ (x : Bytes). T (sound x)) (sym p.image) s.is_sound) tree rs.1 b' run.2 in
    let all = run_on cs (flat ss (replay cs t)) b b' next.0 (subst (λ (x : Bytes). Runs x (flat ss (replay cs t)) next.0 b') image next.1) in
    let told-c = p.answered ∙ s.answered ∙ ap (tree_link_answer c) e in
    let list-c = p.list ∙ s.list ∙ ap (tree_link_list c) e in
    (all.0, all.1, λ i. (record { answered = told-c i; list = list-c i }, next.2 i))

starts_sound : (b : Bytes) (t : Tree) → Starts b t → T (sound b) × (tree_of b ≡ t)
starts_sound b t (soundly h e) = (h, e)
starts_sound b t (freshly old v q e) =
    let r = after_format old v in
    (subst (λ (x : Bytes). T (sound x)) (sym q) r.0, ap tree_of q ∙ r.1 ∙ e)

pub steps_demanded : (b : Bytes) (t : Tree) → Starts b t → (ss : List Step) (rs : StepResults ss) (b' : Bytes) → StepsRun b ss rs b' → StepsDemanded b t ss rs b'
steps_demanded b t start ss rs b' run =
    let h = starts_sound b t start in
    let f = steps_flat ss b t h.0 h.1 rs b' run in
    record { results = f.0; runs = f.1; demanded = demand_3 b t start (flat ss t) f.0 b' f.1; answered = f.2 }
