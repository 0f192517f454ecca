-- What a mission and its lists hold.
use Rattle.std.specs.Prelude.{◌≡◌, ℕ, Bool, true, false, not, ◌&&◌, ◌||◌, List, [], ◌∷◌, ℤ, ◌==◌, int_lt, nat_lt}
use Rattle.units.specs.declared.limits.TheConstants.{STEEPEST_RISE}
use Rattle.calls.specs.declared.phase.Phase.{Phase}
use Rattle.calls.specs.declared.phase.Phase.TheVariants.{Free}
use Rattle.history.specs.History.{Section, SpeedCeiling, Target, steepest}

-- Items of one kind in the order of their places, and how many more fit.
pub record Listed (X : Type 0) : Type 0 where
  pub items : List X
  pub room : ℕ

-- What stands along the line, and how much room there is.
pub record Track : Type 0 where
  pub sections : Listed Section
  pub targets : Listed Target
  pub ceilings : Listed SpeedCeiling

-- A mission with its lists. `clear` says that the last accepted call was a sample that answered zone 0.
pub record State : Type 0 where
  pub track : Track
  pub phase : Phase
  pub clear : Bool

-- An empty list with room for n items.
abbrev pub empty : {X : Type 0} → ℕ → Listed X
empty n = record { items = []; room = n }

-- How many items of each kind fit.
pub record Capacity : Type 0 where
  pub sections : ℕ
  pub targets : ℕ
  pub ceilings : ℕ

-- The most that a mission holds.
abbrev pub full_capacity : Capacity
full_capacity = record { sections = 64; targets = 32; ceilings = 48 }

-- A track with nothing on it.
abbrev pub empty_track : Capacity → Track
empty_track c = record { sections = empty c.sections; targets = empty c.targets; ceilings = empty c.ceilings }

-- A mission as opened.
abbrev pub start : Track → State
start t = record { track = t; phase = Free; clear = false }

-- The grade is not from -35 to 35 thousandths.
abbrev pub is_unfit : ℤ → Bool
is_unfit g = int_lt g steepest || int_lt STEEPEST_RISE.thousandths g

-- One of the items has the mark n.
abbrev pub has_mark : {X : Type 0} → (X → ℕ) → ℕ → List X → Bool
has_mark mark n [] = false
has_mark mark n (x ∷ xs) = mark x == n || has_mark mark n xs

-- A section begins at the place.
abbrev pub begins_at : ℕ → List Section → Bool
begins_at p xs = has_mark (λ (x : Section). x.place) p xs

-- A target has the number.
abbrev pub has_number : ℕ → List Target → Bool
has_number n ts = has_mark (λ (t : Target). t.number) n ts

-- A ceiling begins at the place.
abbrev pub ceiling_begins_at : ℕ → List SpeedCeiling → Bool
ceiling_begins_at p cs = has_mark (λ (c : SpeedCeiling). c.place) p cs

-- The first item, if there is one, begins further on than the place.
abbrev pub first_further_on : {X : Type 0} → (X → ℕ) → ℕ → List X → Bool
first_further_on place p [] = true
first_further_on place p (x ∷ xs) = nat_lt p (place x)

-- Each item begins further on than the one before it.
abbrev pub each_further_on : {X : Type 0} → (X → ℕ) → List X → Bool
each_further_on place [] = true
each_further_on place (x ∷ xs) = first_further_on place (place x) xs && each_further_on place xs

-- Each section has a grade within limits.
abbrev pub fit_grades : List Section → Bool
fit_grades [] = true
fit_grades (x ∷ xs) = not (is_unfit x.grade) && fit_grades xs

-- Each section has a grade within limits, and begins further on than the one before it.
abbrev pub valid_sections : List Section → Bool
valid_sections xs = fit_grades xs && each_further_on (λ (x : Section). x.place) xs

-- No two targets have the same number.
abbrev pub valid_targets : List Target → Bool
valid_targets [] = true
valid_targets (t ∷ ts) = not (has_number t.number ts) && valid_targets ts

-- Each ceiling begins further on than the one before it.
abbrev pub valid_ceilings : List SpeedCeiling → Bool
valid_ceilings cs = each_further_on (λ (c : SpeedCeiling). c.place) cs

-- What the type of a mission's lists holds of the items in them.
pub record Valid (t : Track) : Type 0 where
  pub sections : valid_sections t.sections.items ≡ true
  pub targets : valid_targets t.targets.items ≡ true
  pub ceilings : valid_ceilings t.ceilings.items ≡ true
