-- Line by line: the lines that are cut off a text, and the line feeds that are still to come.
use Rattle.std.proofs.Common.{◌≡◌, ℕ, zero, suc, ◌+◌, ◌<◌, ◌≤◌, min, Bool, true, false, eqb, ◌==◌, ◌⊎◌, inl, inr, List, [], ◌∷◌, ◌++◌, length, get_or, None, Option, Bor, refl, sym, ap, ◌∙◌, ⊎_elim, arith}
use Rattle.std.proofs.lemmas.Bool.{cases_lt}
use Rattle.std.proofs.lemmas.List.{get_or_append_left, length-append}
use Rattle.std.specs.Fn.{Called, ComputesKey, ReturnsEach}
use Rattle.std.specs.Iterator.{Yields}
use Rattle.std.specs.Iterator.Adapters.{map_steps, take_steps}
use Rattle.std.specs.List.{fold, IsFirstMatchOrLen}
use Rattle.std.specs.Option.{MatchOption}
use denote.Param.Members.{Mut}
use Rattle.std.specs.declared.iter.Map.{Map}
use Rattle.std.specs.declared.iter.Take.{Take}
use Rattle.std.specs.declared.slice.SplitInclusive.{SplitInclusive}
use Rattle.descriptions.specs.Lines.{feed}
use Rattle.session.specs.SheetLines.{end_of_lines}

none_left : (bytes : List ℕ) → end_of_lines 0 bytes ≡ 0
none_left [] = refl
none_left (b ∷ bytes) = refl

all_behind : (left : ℕ) (bytes : List ℕ) → length bytes ≡ 0 → end_of_lines left bytes ≡ 0
all_behind left [] e = refl
all_behind left (b ∷ bytes) e = absurd (omega arith)

no_feed : (left b : ℕ) (bytes : List ℕ) → eqb b feed ≡ false → end_of_lines (suc left) (b ∷ bytes) ≡ 1 + end_of_lines (suc left) bytes
no_feed left b bytes t = rw t refl

one_feed : (left b : ℕ) (bytes : List ℕ) → eqb b feed ≡ true → end_of_lines (suc left) (b ∷ bytes) ≡ 1 + end_of_lines left bytes
one_feed left b bytes t = rw t refl

-- a text's last part, with a feed or with none, is one line
last_line : (t : Bool) (left b : ℕ) (rest : List ℕ) → eqb b feed ≡ t → (length rest ≡ 0) ⊎ (t ≡ true) → end_of_lines (suc left) (b ∷ rest) ≡ 1 + end_of_lines left rest
last_line true left b rest e last = one_feed left b rest e
last_line false left b rest e (inl end) = omega (arith, no_feed left b rest e, all_behind (suc left) rest end, all_behind left rest end)
last_line false left b rest e (inr is) = one_feed left b rest (e ∙ is)

-- bytes of which only the last is a feed, or none and nothing behind them, are one line
one_line : (left : ℕ) (line rest : List ℕ) → 0 < length line → ((k : ℕ) → k + 1 < length line → eqb (get_or line k 0) feed ≡ false) → (length rest ≡ 0) ⊎ ((k : ℕ) → k + 1 ≡ length line → eqb (get_or line k 0) feed ≡ true) → end_of_lines (suc left) (line ++ rest) ≡ length line + end_of_lines left rest
one_line left [] rest some none last = absurd (omega arith)
one_line left (b ∷ []) rest some none (inl end) = last_line (eqb b feed) left b rest refl (inl end)
one_line left (b ∷ []) rest some none (inr is) = last_line (eqb b feed) left b rest refl (inr (is 0 (omega arith)))
one_line left (b ∷ c ∷ line) rest some none last =
    let more = one_line left (c ∷ line) rest (omega arith) (λ k h. none (suc k) (omega arith)) (⊎_elim inl (λ is. inr (λ k h. is (suc k) (omega arith))) last) in
    omega (arith, no_feed left b (c ∷ line ++ rest) (none 0 (omega arith)), more)

-- the part that is cut off a text behind its first feed, or the whole text
cut_line : (left i : ℕ) (bytes line rest : List ℕ) → bytes ≡ line ++ rest → length line ≡ min (i + 1) (length bytes) → 0 < length bytes → IsFirstMatchOrLen (λ b. b == feed) bytes i → end_of_lines (suc left) bytes ≡ length line + end_of_lines left rest
cut_line left i bytes line rest e size some first =
    let whole = ap length e in
    let at : (k : ℕ) → k < length line → get_or bytes k 0 ≡ get_or line k 0 = λ k h. ap (λ (l : List ℕ). get_or l k 0) e ∙ get_or_append_left line rest 0 k h in
    ap (end_of_lines (suc left)) e ∙ one_line left line rest (omega arith)
    (λ k h. ap (λ (b : ℕ). eqb b feed) (sym (at k (omega arith))) ∙ first.0 k 0 (omega arith) (omega arith))
    (⊎_elim
    (λ within. inr (λ k h. let last : k ≡ i = omega arith in
    ap (λ (b : ℕ). eqb b feed) (sym (at k (omega arith))) ∙ (ap (λ (j : ℕ). eqb (get_or bytes j 0) feed) last ∙ first.1 within 0)))
    (λ past. inl (omega (arith, whole, length-append line rest)))
    (cases_lt i (length bytes)))

module _ {F G : Type 0} (g : Mut F (Bor ℕ × Unit {0}) Bool) (m : Mut G (Bor (List ℕ) × Unit {0}) ℕ) where
  -- What `split_inclusive` gives at a turn.
  abbrev pub Cuts : SplitInclusive ℕ F → Option (Bor (List ℕ)) → SplitInclusive ℕ F → Type 0
  Cuts s r t = MatchOption r ((length s.rest.now ≡ 0) × (t ≡ s)) (λ x. (s.rest.now ≡ x.now ++ t.rest.now)
      × ((i : ℕ) × (length x.now ≡ min (i + 1) (length s.rest.now)) × ((p : ℕ → Bool) → ComputesKey g p s.pred → ComputesKey g p t.pred × IsFirstMatchOrLen p s.rest.now i)) × (0 < length s.rest.now))

  abbrev pub Turns : Map (Take (SplitInclusive ℕ F)) G → Option ℕ → Map (Take (SplitInclusive ℕ F)) G → Type 0
  Turns = map_steps (take_steps Cuts) m

  -- The first closure asks whether a byte is a feed, and the second counts a line's bytes.
  abbrev pub Asks : Type 0
  Asks = (f : F) (a : Bor ℕ × Unit {0}) (b : Bool) (q : F) → Called g f a b q → b ≡ (a.0.now == feed)

  abbrev pub Counts : Type 0
  Counts = (f : G) (a : Bor (List ℕ) × Unit {0}) (n : ℕ) (q : G) → Called m f a n q → n ≡ length a.0.now

  each : Asks → (f : F) (xs : List (Bor ℕ × Unit {0})) → ReturnsEach g (λ a r. r ≡ (a.0.now == feed)) f xs
  each asks f [] = tt
  each asks f (a ∷ xs) = λ r q c. (asks f a r q c, each asks q xs)

  always : Asks → (f : F) → ComputesKey g (λ b. b == feed) f
  always asks f = record { at = λ xs. each asks f xs }

  -- the bytes of the lines so far, and those that are still to come
  turned : Asks → Counts → (s t : Map (Take (SplitInclusive ℕ F)) G) (ns : List ℕ) (n : ℕ) → Yields Turns s ns t →
      (fold (λ a x. a + x) n ns + length t.iter.iter.rest.now ≡ n + length s.iter.iter.rest.now) × (n + end_of_lines s.iter.n s.iter.iter.rest.now ≡ fold (λ a x. a + x) n ns + end_of_lines t.iter.n t.iter.iter.rest.now)
  turned asks counts s t [] n e = (ap (λ (i : Map (Take (SplitInclusive ℕ F)) G). n + length i.iter.iter.rest.now) (sym e), ap (λ (i : Map (Take (SplitInclusive ℕ F)) G). n + end_of_lines i.iter.n i.iter.iter.rest.now) e)
  turned asks counts s t (y ∷ ns) n (j, (x, (cut, fewer), called), more) =
      let rest = turned asks counts j t ns (n + y) more in
      let size = counts _ _ _ _ called in
      let one = cut_line j.iter.n cut.1.0 s.iter.iter.rest.now x.now j.iter.iter.rest.now cut.0 cut.1.1 cut.2 (cut.1.2 (λ b. b == feed) (always asks s.iter.iter.pred)).1 in
      let left : s.iter.n ≡ suc j.iter.n = omega (arith, fewer) in
      let same = ap (λ (k : ℕ). end_of_lines k s.iter.iter.rest.now) left in
      let whole = ap length cut.0 ∙ length-append x.now j.iter.iter.rest.now in
      (omega (arith, rest.0, size, whole), omega (arith, rest.1, size, one, same))

  none_more : (left : ℕ) (bytes : List ℕ) → (0 < left → length bytes ≡ 0) → end_of_lines left bytes ≡ 0
  none_more zero bytes e = none_left bytes
  none_more (suc left) bytes e = all_behind (suc left) bytes (e (omega arith))

  -- all lines are taken, or the text is at its end
  pub drained : Asks → Counts → (s t u : Map (Take (SplitInclusive ℕ F)) G) (ns : List ℕ) → Yields Turns s ns t → Turns t None u → fold (λ a x. a + x) 0 ns ≡ end_of_lines s.iter.n s.iter.iter.rest.now
  drained asks counts s t u ns y end =
      let so_far = turned asks counts s t ns 0 y in
      omega (arith, so_far.1, none_more t.iter.n t.iter.iter.rest.now (λ some. (end.0 some).0))

  pub within : Asks → Counts → (s t : Map (Take (SplitInclusive ℕ F)) G) (ns : List ℕ) → Yields Turns s ns t → fold (λ a x. a + x) 0 ns ≤ length s.iter.iter.rest.now
  within asks counts s t ns y = let so_far = turned asks counts s t ns 0 y in omega (arith, so_far.0)
