-- Texts that each end with a byte.
use Rattle.std.specs.Prelude.{ℕ, ◌-◌, ◌==◌, List, take, length}
use Rattle.std.specs.List.{slice_split}
use Rattle.input.specs.declared.texts.EndedTexts.{EndedTexts}

-- The parts of the bytes that each end with the byte, without it: all but the last one, which no such byte ends.
unfoldable pub ended_parts : (end : ℕ) → List ℕ → List (List ℕ)
ended_parts end bytes = take (length (slice_split (λ b. b == end) bytes) - 1) (slice_split (λ b. b == end) bytes)

-- The texts that are still to come.
abbrev pub texts_left : EndedTexts → List (List ℕ)
texts_left texts = ended_parts texts.end texts.rest.now
