-- The elements of lists by their place: a chain's pages lead one to the next, and what is joined from stretches of one length is cut again.
use mathlib.Core.Path.{◌≡◌, refl, sym, ap, ◌∙◌}
use Prim.Native.Nat.{ℕ, zero, suc, ◌+◌, ◌-◌, ◌*◌, ◌≤◌, ◌<◌}
use native.Mathlib.Nat.{mul-suc}
use native.Mathlib.Omega.{arith}
use mathlib.Core.List.{List, [], ◌∷◌, ◌++◌, map, flat_map}
use lib.ListN.{length, get_or, take, drop, length-append, get_or-append}
use lib.Seq.{get_or-append-add}
use Rattle.volume.specs.Bytes.{Bytes, byte_at}
use Rattle.volume.specs.Chain.{chain, beyond}
use Rattle.volume.proofs.Occ.{Mem, mem_head, mem_tail}

pub get_d_map : {A B : Type 0} (f : A → B) (xs : List A) (k : ℕ) (x : A) (y : B) → k < length xs → get_or (map f xs) k y ≡ f (get_or xs k x)
get_d_map f [] k x y l = absurd (omega arith)
get_d_map f (z ∷ xs) zero x y l = refl
get_d_map f (z ∷ xs) (suc k) x y l = get_d_map f xs k x y (omega arith)

-- each page of a chain leads to the next, and the last beyond it
pub chain_next : (next : ℕ → ℕ) (k p j : ℕ) → suc j < k → next (get_or (chain next k p) j 0) ≡ get_or (chain next k p) (suc j) 0
unfolding chain
chain_next next zero p j l = absurd (omega arith)
chain_next next (suc zero) p j l = absurd (omega arith)
chain_next next (suc (suc k)) p zero l = refl
chain_next next (suc (suc k)) p (suc j) l = chain_next next (suc k) (next p) j (omega arith)

pub chain_end : (next : ℕ → ℕ) (k p : ℕ) → next (get_or (chain next (suc k) p) k 0) ≡ beyond next (suc k) p
unfolding chain beyond
chain_end next zero p = refl
chain_end next (suc k) p = chain_end next k (next p)

-- byte i of the j-th of stretches that are all of length n
pub flat_map_nth : (f : ℕ → Bytes) (n : ℕ) (xs : List ℕ) (j i : ℕ) → ((q : ℕ) → Mem q xs → length (f q) ≡ n) → j < length xs → i < n
    → byte_at (flat_map f xs) (n * j + i) ≡ byte_at (f (get_or xs j 0)) i
unfolding flat_map
flat_map_nth f n [] j i h l u = absurd (omega arith)
flat_map_nth f n (x ∷ xs) zero i h l u =
    let e : n * 0 + i ≡ i = omega arith in
    ap (byte_at (f x ++ flat_map f xs)) e ∙ get_or-append (f x) (flat_map f xs) 0 i (omega (arith, h x (mem_head x xs)))
flat_map_nth f n (x ∷ xs) (suc j) i h l u =
    let e : n * suc j + i ≡ length (f x) + (n * j + i) = omega (arith, h x (mem_head x xs), mul-suc n j) in
    ap (byte_at (f x ++ flat_map f xs)) e ∙ get_or-append-add (f x) (flat_map f xs) (n * j + i) 0
    ∙ flat_map_nth f n xs j i (λ q m. h q (mem_tail q x xs m)) (omega arith) u

pub mem_nth : (xs : List ℕ) (j : ℕ) → j < length xs → Mem (get_or xs j 0) xs
mem_nth [] j l = absurd (omega arith)
mem_nth (x ∷ xs) zero l = mem_head x xs
mem_nth (x ∷ xs) (suc j) l = mem_tail (get_or xs j 0) x xs (mem_nth xs j (omega arith))
