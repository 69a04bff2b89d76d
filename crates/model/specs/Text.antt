-- A quoted text as bytes.
use Prim.Native.String.{String, [], ◌∷◌}
use Prim.Native.Char.{code}
use mathlib.Core.List
use Rattle.volume.specs.Bytes.{Bytes}

unfoldable pub text : String → Bytes
text [] = List.[]
text (c ∷ s) = List.◌∷◌ (code c) (text s)
