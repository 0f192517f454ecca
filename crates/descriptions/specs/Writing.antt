-- What writing the text of values into memory answers, and what the memory is then.
use Rattle.std.specs.Prelude.{◌≡◌, ℕ, ◌+◌, ◌<◌, ◌≤◌, true, List, ◌++◌, length, take, drop, Some, None, Option}
use Rattle.descriptions.specs.Fitting.{all_fit}
use Rattle.descriptions.specs.Layouts.{rows_text}
use Rattle.descriptions.specs.Rows.{plain_rows}
use Rattle.descriptions.specs.declared.description.Description.{Description}
use Rattle.descriptions.specs.declared.value.Value.{Value}

-- The text stands from `at` to `end`, and all other bytes are as before.
pub record Put (before : List ℕ) (at : ℕ) (text after : List ℕ) (end : ℕ) : Type 0 where
  pub ends : end ≡ at + length text
  pub fits : end ≤ length before
  pub bytes : after ≡ take at before ++ (text ++ drop end before)

-- The text of values, by a description.
abbrev pub text_of : Description → List Value → List ℕ
text_of d vs = rows_text d.layout (plain_rows d.rows.now) vs

-- The values fit and their text stands there; or they do not fit, or there is no room, and nothing is altered.
abbrev pub Written : Description → List Value → (before : List ℕ) (at : ℕ) (after : List ℕ) → Option ℕ → Type 0
Written d vs before at after (Some end) = (all_fit (plain_rows d.rows.now) vs ≡ true) × Put before at (text_of d vs) after end
Written d vs before at after None = (all_fit (plain_rows d.rows.now) vs ≡ true → length before < at + length (text_of d vs)) × (after ≡ before)
