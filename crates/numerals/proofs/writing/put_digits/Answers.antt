-- Each turn puts one more digit in front of those that stand.
use Rattle.std.proofs.Common.{◌≡◌, ℕ, ◌+◌, ◌-◌, ◌/◌, ◌%◌, ◌^◌, ◌<◌, ◌≤◌, List, [], ◌∷◌, ◌++◌, length, get_or, take, drop, set, decimal, sym, refl, ap, ◌∙◌, ⊎_elim, append_assoc, arith}
use Rattle.std.proofs.lemmas.Bool.{cases_lt}
use Rattle.std.proofs.lemmas.List.{take_more, drop_more, set_at, same_from_push, length-take-le}
use Rattle.std.proofs.lemmas.Fmt.{decimal_digit, decimal_step}
use Rattle.numerals.proofs.writing.put_digits.Goals as goal

-- the digits of m are some front digits and then its last one; the front, if any, is that of a tenth of m
record Split (m : ℕ) : Type 0 where
  front : List ℕ
  whole : decimal m ≡ front ++ (48 + m % 10) ∷ []
  tenth : 0 < length front → front ≡ decimal (m / 10)

split : (m : ℕ) → m < 2 ^ 64 → Split m
split m small = ⊎_elim
    (λ l. let e : m ≡ m % 10 = omega arith in record { front = []; whole = decimal_digit m l ∙ ap (λ (d : ℕ). (48 + d) ∷ []) e; tenth = λ some. absurd (omega arith) })
    (λ l. record { front = decimal (m / 10); whole = decimal_step m l small; tenth = λ some. refl })
    (cases_lt m 10)

-- where the number left has the first i digits, its last digit is the one before place i, and a tenth of it has those before that
step : (m i j : ℕ) (ds : List ℕ) → m < 2 ^ 64 → i ≡ j + 1 → i ≤ length ds → decimal m ≡ take i ds → (0 < j → decimal (m / 10) ≡ take j ds) × (get_or ds j 0 ≡ 48 + m % 10)
step m i j ds small e l w =
    let s = split m small in
    let t : take i ds ≡ take j ds ++ get_or ds j 0 ∷ [] = ap (λ (k : ℕ). take k ds) e ∙ take_more ds j 0 (omega arith) in
    let same = same_from_push s.front (take j ds) (48 + m % 10) (get_or ds j 0) (sym s.whole ∙ (w ∙ t)) in
    let count : length (take j ds) ≡ j = length-take-le j ds (omega arith) in
    (λ some. sym (s.tenth (omega (arith, ap length same.0))) ∙ same.0, sym same.1)

-- one more digit put in front of those that stand
put : (place q i j d : ℕ) (ds rest old : List ℕ) → place ≡ q + 1 → i ≡ j + 1 → i ≤ length ds → place ≤ length old → get_or ds j 0 ≡ d → set (take place old ++ (drop i ds ++ rest)) q d ≡ take q old ++ (drop j ds ++ rest)
put place q i j d ds rest old f e l fits is =
    let was : ℕ = get_or old q 0 in
    let behind : List ℕ = drop i ds ++ rest in
    let front : take place old ≡ take q old ++ was ∷ [] = ap (λ (k : ℕ). take k old) f ∙ take_more old q 0 (omega arith) in
    let more : drop j ds ≡ d ∷ drop i ds = drop_more ds j 0 (omega arith) ∙ (ap (λ (v : ℕ). v ∷ drop (j + 1) ds) is ∙ ap (λ (k : ℕ). d ∷ drop k ds) (sym e)) in
    let apart : take place old ++ behind ≡ take q old ++ (was ∷ behind) = ap (λ (x : List ℕ). x ++ behind) front ∙ append_assoc (take q old) (was ∷ []) behind in
    ap (λ (x : List ℕ). set x q d) apart
    ∙ (set_at (take q old) was behind d q (length-take-le q old (omega arith)) ∙ ap (λ (x : List ℕ). take q old ++ (x ++ rest)) (sym more))

pub loop-place-preserved : goal.loop-place-preserved
loop-place-preserved c =
    let at = c.args.at in
    let end = c.args.end in
    let place = c.loop-place.place in
    let left = c.loop-place.left in
    let ds = decimal c.args.number in
    let old = c.args.out.now in
    let inv = c.loop-place.invariant in
    let before : at < place = c.loop-place-test.true in
    let low : place ≤ end = inv.2 in
    let whole : length ds ≡ end - at = omega (arith, c.requires.all) in
    let s = step left (place - at) (place - 1 - at) ds inv.0 (omega arith) (omega arith) (inv.3 (omega arith)) in (
      omega (arith, inv.0),
      omega arith,
      omega arith,
      s.0,
      ap (λ (x : List ℕ). set x (place - 1) c.last_digit.result) inv.4
          ∙ put place (place - 1) (place - at) (place - 1 - at) c.last_digit.result ds (drop end old) old (omega arith) (omega arith) (omega arith) (omega (arith, c.requires.fits)) (s.1 ∙ sym c.last_digit.ensures),
    )
