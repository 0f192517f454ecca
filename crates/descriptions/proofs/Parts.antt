-- A part of a text and where it stands.
use Rattle.std.proofs.Common.{◌≡◌, ℕ, ◌+◌, ◌<◌, List, [], ◌∷◌, ◌++◌, length, get_or, drop, sym, refl, ap, ◌∙◌, append_assoc, arith}
use Rattle.std.proofs.lemmas.List.{get_or_at, drop_at, drop-drop, length-append}
use Rattle.descriptions.specs.Laws.{MayFollow}
use Rattle.descriptions.specs.Layouts.{space, WordAt, laid, PartAt, HasNoPart}
use Rattle.descriptions.specs.Lines.{feed, Begins}
use Rattle.descriptions.specs.declared.layout.Layout.{Layout}
use Rattle.descriptions.specs.declared.layout.Layout.TheVariants.{Lines, Fields}
use Rattle.descriptions.proofs.PlainBytes.{IsHigh, high_without}
use Rattle.descriptions.proofs.Separators.{split_at, split_parted}

-- what stands behind a front of the text
pub drop_behind : (text front rest : List ℕ) (at next : ℕ) → drop at text ≡ front ++ rest → next ≡ at + length front → drop next text ≡ rest
drop_behind text front rest at next is ends =
    ap (λ (n : ℕ). drop n text) ends ∙ (sym (drop-drop (length front) at text) ∙ (ap (drop (length front)) is ∙ drop_at front rest (length front) refl))

pub one_field : (text : List ℕ) (at : ℕ) (p q : List ℕ) (m n : ℕ) → WordAt text at p m → WordAt text at q n → (p ≡ q) × (m ≡ n)
one_field text at p q m n a b =
    let same = split_parted p q (drop m text) (drop n text) a.whole b.whole a.parted b.parted (sym a.text_is ∙ b.text_is) in
    (same.0, omega (arith, a.ends, b.ends, ap length same.0))

one_line : (window : ℕ) (bytes p q : List ℕ) → Begins window bytes p → Begins window bytes q → p ≡ q
one_line window bytes p q a b = (split_at feed p q a.behind.0 b.behind.0 a.none_before b.none_before (sym a.behind.1 ∙ b.behind.1)).0

-- one part at most stands at a byte
pub one_part : (l : Layout) (text : List ℕ) (at : ℕ) (p q : List ℕ) (m n : ℕ) → PartAt l text at p m → PartAt l text at q n → (p ≡ q) × (m ≡ n)
one_part (Lines window) text at p q m n a b =
    let same = one_line window (drop at text) p q a.0 b.0 in
    (same, omega (arith, a.1, b.1, ap length same))
one_part Fields text at p q m n a b = one_field text (at + 1) p q m n a.1 b.1

-- a part that stands there is one
pub no_part : (l : Layout) (text : List ℕ) (at : ℕ) (p : List ℕ) (n : ℕ) → PartAt l text at p n → HasNoPart l text at → ⊥
no_part (Lines window) text at p n a none =
    let is = a.0.behind.1 in
    let rest = a.0.behind.0 in
    none (length p) a.0.within (omega (arith, ap length is, length-append p (feed ∷ rest)))
    (ap (λ (t : List ℕ). get_or t (length p) 0) is ∙ get_or_at p feed rest 0 (length p) refl)
no_part Fields text at p n a none = none (drop (at + 1) text) a.0

line_joined : (p rest : List ℕ) → (p ++ feed ∷ []) ++ rest ≡ p ++ feed ∷ rest
line_joined p rest = append_assoc p (feed ∷ []) rest

-- a front of a text that ends where the next row begins
pub record FrontAt (text : List ℕ) (at : ℕ) (front : List ℕ) (next : ℕ) : Type 0 where
  pub text_is : drop at text ≡ front ++ drop next text
  pub ends : next ≡ at + length front

-- where a part stands, there it is with what the layout puts around it
pub part_text : (l : Layout) (text : List ℕ) (at : ℕ) (p : List ℕ) (n : ℕ) → PartAt l text at p n → FrontAt text at (laid l p) n
part_text (Lines window) text at p n a =
    let rest = a.0.behind.0 in
    let is : drop at text ≡ (p ++ feed ∷ []) ++ rest = a.0.behind.1 ∙ sym (line_joined p rest) in
    let ends : n ≡ at + length (p ++ feed ∷ []) = omega (arith, a.1, length-append p (feed ∷ [])) in
    record { text_is = is ∙ ap (λ (t : List ℕ). (p ++ feed ∷ []) ++ t) (sym (drop_behind text (p ++ feed ∷ []) rest at n is ends)); ends = ends }
part_text Fields text at p n a = record { text_is = a.0 ∙ ap (λ (t : List ℕ). space ∷ t) a.1.text_is; ends = omega (arith, a.1.ends) }

-- the line feed of a line is within the window
abbrev pub IsWithin : Layout → List ℕ → Type 0
IsWithin (Lines window) p = length p < window
IsWithin Fields p = Unit {0}

-- where the text begins so with a part that has no separators, the part stands there
pub part_from_text : (l : Layout) (text : List ℕ) (at : ℕ) (p : List ℕ) (n : ℕ) → IsHigh p → IsWithin l p → FrontAt text at (laid l p) n → MayFollow l (drop n text) → PartAt l text at p n
part_from_text (Lines window) text at p n high within front may = (
  record { behind = (drop n text, front.text_is ∙ line_joined p (drop n text)); none_before = high_without feed p (omega arith) high; within = within },
  omega (arith, front.ends, length-append p (feed ∷ [])),
)
part_from_text Fields text at p n high within front may =
    let behind : drop (at + 1) text ≡ p ++ drop n text = drop_behind text (space ∷ []) (p ++ drop n text) at (at + 1) front.text_is refl in (
      front.text_is ∙ ap (λ (t : List ℕ). space ∷ t) (sym behind),
      record { text_is = behind; whole = high_without space p (omega arith) high; parted = may; ends = omega (arith, front.ends) },
    )
