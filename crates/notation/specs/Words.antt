-- Words, told apart by their bytes. Assumes nothing.
use Rattle.std.specs.Prelude.{ℕ, Bool, List, codes}
use Prim.Native.String.{String}
use Rattle.std.specs.Str.{bytes_eq}

-- do bs spell the word?
abbrev pub is : String → List ℕ → Bool
is word bs = bytes_eq bs (codes word)
