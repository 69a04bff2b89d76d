-- Lists of bytes, and how a stretch of a list is read and replaced. Assumes nothing.
use Rattle.std.specs.Prelude.{ℕ, ◌+◌, ◌/◌, ◌%◌, ◌^◌, Bool, true, false, ◌&&◌, List, [], ◌∷◌, ◌++◌, length, get_or, take, drop, replicate, eqb, if◌then◌else◌}

-- An image, a path, a name, a date and a buffer are lists of bytes.
abbrev pub Bytes : Type 0
Bytes = List ℕ

-- the byte at position i, 0 past the end
abbrev pub byte_at : Bytes → ℕ → ℕ
byte_at b i = get_or b i 0

-- the n bytes from position i
abbrev pub part : ℕ → ℕ → Bytes → Bytes
part i n b = take n (drop i b)

-- b with v in place of the bytes from position i
abbrev pub put : ℕ → Bytes → Bytes → Bytes
put i v b = take i b ++ v ++ drop (i + length v) b

-- n zero bytes, under a name so that a goal does not write them out
unfoldable pub zeros : ℕ → Bytes
zeros n = replicate n 0

-- a number in two bytes, the low one first
abbrev pub le16 : ℕ → Bytes
le16 n = n % 256 ∷ n / 256 ∷ []

-- bit i of x, 0 or 1
abbrev pub bit : ℕ → ℕ → ℕ
bit i x = x / 2 ^ i % 2

-- all bytes are equal
unfoldable pub same : Bytes → Bytes → Bool
same [] [] = true
same [] (y ∷ ys) = false
same (x ∷ xs) [] = false
same (x ∷ xs) (y ∷ ys) = eqb x y && same xs ys
