-- The line at the front of a text.
use Rattle.std.specs.Prelude.{◌≡◌, ℕ, ◌<◌, List, ◌∷◌, ◌++◌, length, drop, Ok, Err, Result, ◌≢◌, slice_index}
use Rattle.descriptions.specs.declared.faults.TextFault.{TextFault}
use Rattle.descriptions.specs.declared.faults.TextFault.TheVariants.{NoLineFeed}
use Rattle.descriptions.specs.declared.span.Span.{Span}

-- The byte of a line feed.
abbrev pub feed : ℕ
feed = 10

-- The bytes begin with this line and a line feed, which is among the first of them, as many as the window has.
pub record Begins (window : ℕ) (bytes line : List ℕ) : Type 0 where
  pub behind : (rest : List ℕ) × (bytes ≡ line ++ feed ∷ rest)
  pub none_before : (k : ℕ) → k < length line → slice_index line k ≢ feed
  pub within : length line < window

-- No line feed is among them.
abbrev pub HasNoFeed : (window : ℕ) → List ℕ → Type 0
HasNoFeed window bytes = (k : ℕ) → k < window → k < length bytes → slice_index bytes k ≢ feed

-- The line of a text from a byte on, or that there is none.
abbrev pub LineCut : List ℕ → (at window : ℕ) → Result Span TextFault → Type 0
LineCut text at window (Ok l) = (l.byte ≡ at) × Begins window (drop at text) l.bytes.now
LineCut text at window (Err e) = (e ≡ NoLineFeed at) × HasNoFeed window (drop at text)

-- What asking whether a text ends at a byte answers: it does, or from that byte on it is left over.
abbrev pub EndAsked : List ℕ → ℕ → Result (Unit {0}) ℕ → Type 0
EndAsked text at (Ok u) = at ≡ length text
EndAsked text at (Err b) = (b ≡ at) × (at ≢ length text)
