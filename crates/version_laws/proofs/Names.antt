-- A path's names are its texts, each up to the next slash, padded with zeros, and a legal text is one to sixteen bytes of which none is zero:
-- so each name is legal and has 16 bytes.
use mathlib.Core.Path.{◌≡◌, ◌∙◌, subst}
use Prim.Native.Nat.{ℕ, zero, suc, ◌+◌, ◌-◌, ◌≤◌}
use native.Mathlib.Omega.{arith}
use mathlib.Core.Bool.{Bool, true, false, ◌&&◌}
use mathlib.Core.List.{List, [], ◌∷◌, ◌++◌, drop_last}
use lib.ListN.{length, replicate, length-append, length-replicate}
use lib.Dec.{T, eqb, leb, eqb→eq, leb→le}
use Rattle.volume.specs.Bytes.{Bytes}
use Rattle.std.specs.Prelude.{if◌then◌else◌}
use Rattle.volume.specs.Lists.{all, last_or}
use Rattle.volume.proofs.Tests.{and_both, both_and, conditions_cons}
use Rattle.model.specs.Name.{legal_byte, legal_rest, legal_name, legal_text, padded}
use Rattle.model.specs.Date.{good_date}
use Rattle.model.specs.Path.{Name, Path, no_path, root, below, texts, names_from, path_to, path_of}

-- ---- texts as names

pub record LegalText (v : Bytes) : Type 0 where
  pub some_byte : 1 ≤ length v
  pub short : length v ≤ 16
  pub legal : T (all legal_byte v)

pub text_facts : {v : Bytes} → T (legal_text v) → LegalText v
unfolding legal_text
text_facts {v} h =
    let x = conditions_cons (leb 1 (length v)) _ h in
    let y = conditions_cons (leb (length v) 16) _ x.1 in
    record { some_byte = leb→le 1 (length v) x.0; short = leb→le (length v) 16 y.0; legal = (conditions_cons (all legal_byte v) [] y.1).0 }

all_zeros : (k : ℕ) → T (all (eqb 0) (replicate k 0))
unfolding all
all_zeros zero = tt
all_zeros (suc k) = all_zeros k

rest_zeros : (k : ℕ) → T (legal_rest (replicate k 0))
unfolding legal_rest
rest_zeros zero = tt
rest_zeros (suc k) = all_zeros k

rest_padded : (v : Bytes) (k : ℕ) → T (all legal_byte v) → T (legal_rest (v ++ replicate k 0))
unfolding all legal_rest legal_byte
rest_padded [] k h = rest_zeros k
rest_padded (c ∷ v) k h =
    let r = and_both (legal_byte c) (all legal_byte v) h in
    go (eqb c 0) (eqb→eq c 0) r.0 (rest_padded v k r.1)
  where
    go : (z : Bool) → (T z → c ≡ 0) → T (legal_byte c) → T (legal_rest (v ++ replicate k 0))
        → T (if z then all (eqb 0) (v ++ replicate k 0) else (legal_byte c && legal_rest (v ++ replicate k 0)))
    go true e l r = absurd (subst (λ (x : ℕ). T (legal_byte x)) (e tt) l)
    go false e l r = both_and (legal_byte c) (legal_rest (v ++ replicate k 0)) l r

pub padded_legal : (v : Bytes) → T (legal_text v) → T (legal_name (padded v))
unfolding padded legal_name all
padded_legal [] h = let f = (text_facts h).some_byte in absurd (omega arith)
padded_legal (c ∷ v) h =
    let r = and_both (legal_byte c) (all legal_byte v) (text_facts h).legal in
    both_and (legal_byte c) (legal_rest (v ++ replicate (16 - suc (length v)) 0)) r.0 (rest_padded v (16 - suc (length v)) r.1)

pub padded_length : (v : Bytes) → T (legal_text v) → length (padded v) ≡ 16
unfolding padded
padded_length v h =
    length-append v (replicate (16 - length v) 0) ∙ omega (arith, (text_facts h).short, length-replicate {A = ℕ} (16 - length v) 0)

-- ---- the names of a path

abbrev pub Legal : Name → Type 0
Legal n = T (legal_name n.bytes) × (length n.bytes ≡ 16)

abbrev pub AllLegal : List Name → Type 0
AllLegal [] = Unit {0}
AllLegal (n ∷ ns) = Legal n × AllLegal ns

abbrev LegalPath : Path → Type 0
LegalPath no_path = Unit {0}
LegalPath root = Unit {0}
LegalPath (below ns n) = AllLegal ns × Legal n

names_legal : (i : ℕ) (vs : List Bytes) → T (all legal_text vs) → AllLegal (names_from i vs)
unfolding all names_from
names_legal i [] h = tt
names_legal i (v ∷ vs) h =
    let r = and_both (legal_text v) (all legal_text vs) h in
    ((padded_legal v r.0, padded_length v r.0), names_legal (i + length v + 1) vs r.1)

last_of : (n : Name) (ns : List Name) → AllLegal (n ∷ ns) → AllLegal (drop_last (n ∷ ns)) × Legal (last_or n ns)
unfolding last_or
last_of n [] h = (tt, h.0)
last_of n (m ∷ ms) h = let r = last_of m ms h.1 in ((h.0, r.0), r.1)

path_to_legal : (ns : List Name) → AllLegal ns → LegalPath (path_to ns)
unfolding path_to
path_to_legal [] h = tt
path_to_legal (n ∷ ns) h = last_of n ns h

path_legal : (bytes : Bytes) → LegalPath (path_of bytes)
unfolding path_of
path_legal [] = tt
path_legal (c ∷ []) = go (eqb c 0x2F)
  where
    go : (z : Bool) → LegalPath (if z then root else no_path)
    go true = tt
    go false = tt
path_legal (c ∷ d ∷ r) = go (eqb c 0x2F && all legal_text (texts (d ∷ r))) (λ h. (and_both (eqb c 0x2F) (all legal_text (texts (d ∷ r))) h).1)
  where
    go : (z : Bool) → (T z → T (all legal_text (texts (d ∷ r)))) → LegalPath (if z then path_to (names_from 1 (texts (d ∷ r))) else no_path)
    go true h = path_to_legal (names_from 1 (texts (d ∷ r))) (names_legal 1 (texts (d ∷ r)) (h tt))
    go false h = tt

pub last_legal : (bytes : Bytes) (ns : List Name) (n : Name) → path_of bytes ≡ below ns n → T (legal_name n.bytes) × (length n.bytes ≡ 16)
last_legal bytes ns n e = (subst LegalPath e (path_legal bytes)).1

-- ---- dates

pub date_length : (d : Bytes) → T (good_date d) → length d ≡ 8
unfolding good_date
date_length d h = eqb→eq (length d) 8 (conditions_cons (eqb (length d) 8) _ h).0
