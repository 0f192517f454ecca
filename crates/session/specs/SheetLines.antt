-- Where the first lines of a text end.
use Rattle.std.specs.Prelude.{ℕ, zero, suc, ◌+◌, cond, List, [], ◌∷◌, ◌==◌}
use Rattle.descriptions.specs.Lines.{feed}

-- How many bytes there are up to and with the n-th line feed, or in all where there are fewer.
abbrev pub end_of_lines : (n : ℕ) → List ℕ → ℕ
end_of_lines n [] = 0
end_of_lines zero (b ∷ bytes) = 0
end_of_lines (suc n) (b ∷ bytes) = 1 + cond (b == feed) (end_of_lines n bytes) (end_of_lines (suc n) bytes)
