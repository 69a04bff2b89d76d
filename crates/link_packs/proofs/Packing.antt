-- The bytes that a list was packed into, by what the packing says: its file, or more bytes than an image has room for.
use mathlib.Core.Path.{◌≡◌, sym, ap, ◌∙◌}
use mathlib.Core.Logic.{inl, inr}
use Prim.Native.Nat.{ℕ, ◌+◌, ◌≤◌}
use native.Mathlib.Omega.{arith}
use mathlib.Core.Option.{some, some-ne-none}
use mathlib.Core.List.{List}
use lib.ListN.{length, take, drop, length-append}
use lib.Seq.{length-take-le}
use Rattle.std.specs.Prelude.{⊤, Option, Some, None, Result}
use Rattle.std.specs.Option.{unwrap_or}
use Rattle.volume.specs.Bytes.{Bytes}
use Rattle.model.specs.Call.{Refusal}
use Rattle.link_list.specs.declared.Row.{Row}
use Rattle.link_list.specs.Coding.{file_of}
use Rattle.link_list.specs.Judging.{bad_row}
use Rattle.link_judge.specs.declared.RowFault.{RowFault}
use Rattle.link_judge.specs.Judged.{list_told}
use Rattle.link_rows.specs.Told.{Packs}
use Rattle.link_writes.specs.Writing.{PackedAs}
use Rattle.link_packs.specs.Packing.{PacksTo}
use Rattle.link_files.proofs.Loading.{path_read}

pub packs_to : (judged : Result ⊤ RowFault) (rs : List Row) → list_told judged ≡ bad_row rs → (before after : Bytes) → length after ≡ length before → (p : Option ℕ) → Packs (file_of rs) before after p → PacksTo judged rs (length before) after p
packs_to judged rs told before after long (Some n) k =
    let v = file_of rs in
    let l : length after ≡ length v + length (drop (0 + length v) before) = ap length k.1 ∙ length-append v (drop (0 + length v) before) in
    (omega (arith, k.0, l, long), (told, λ g. inl (path_read n after before v k.0 k.1)))
packs_to judged rs told before after long None k = (told, k.0)

-- or all bytes, for no image has room for it
pub packed_or : (judged : Result ⊤ RowFault) (rs : List Row) (room : ℕ) (v : Bytes) (p : Option ℕ) → PacksTo judged rs room v p → 65536 ≤ room → length v ≡ room → (n : ℕ) → n ≡ length v
    → (unwrap_or p n ≤ room) × PackedAs judged (take (unwrap_or p n) v) rs
packed_or judged rs room v (Some m) k h long n q = k
packed_or judged rs room v None k h long n q =
    let l = length-take-le n v (omega (arith, q)) in
    (omega (arith, q, long), (k.0, λ g. inr (omega (arith, l, q, long, h), omega (arith, k.1, h))))

-- a list that may not be written
pub unpacked : (judged : Result ⊤ RowFault) (rs : List Row) → list_told judged ≡ bad_row rs → (f : Refusal) → list_told judged ≡ some f → (v : Bytes) → PackedAs judged v rs
unpacked judged rs told f e v = (told, λ g. absurd (some-ne-none f (sym e ∙ told ∙ g)))
