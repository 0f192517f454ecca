-- A line that begins with a key and an equals sign.
use Rattle.std.specs.Prelude.{◌≡◌, ℕ, List, ◌∷◌, ◌++◌}

-- The byte of an equals sign.
abbrev pub equals : ℕ
equals = 61

-- The line is the key, an equals sign and this value.
abbrev pub HasKey : (key line value : List ℕ) → Type 0
HasKey key line value = line ≡ key ++ equals ∷ value
