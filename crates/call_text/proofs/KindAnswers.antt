-- A text has one answer at most, by any table of kinds.
use Rattle.std.proofs.Common.{◌≡◌, ℕ, ◌⊎◌, true, List, length, drop, Ok, Err, sym, ap, ◌∙◌, subst, inl, inr, arith}
use Rattle.descriptions.specs.declared.faults.ValueFault.{ValueFault}
use Rattle.descriptions.specs.declared.value.Value.{Value}
use Rattle.call_text.specs.KindLines.{LineFault, IsKindLine, IsFaulty, IsEndless, is_table, TakenExactly, HasOneAnswer}
use Rattle.call_text.specs.Kinds.{PlainCallKind, kind_text}
use Rattle.call_text.specs.declared.call_fault.CallFault.{CallFault}
use Rattle.call_text.specs.declared.call_fault.CallFault.TheVariants.{Value as ValueOf, LeftOver}
use Rattle.call_text.proofs.KindAcceptance.{one_begun, not_endless, kind_begins, taken_exactly}
use Rattle.call_text.proofs.KindReadings.{stop_read, one_reading, no_value_fault, on_read}

module _ (kinds : List PlainCallKind) (table : is_table kinds ≡ true) where
  one_value_fault : (line : List ℕ) (f g : ValueFault) → LineFault kinds line (ValueOf f) → LineFault kinds line (ValueOf g) → f ≡ g
  one_value_fault line f g (inl x) (inl y) = x.0 ∙ sym y.0
  one_value_fault line f g (inl x) (inr y) = absurd (x.1 y.0 y.1 y.2 y.3)
  one_value_fault line f g (inr x) (inl y) = absurd (y.1 x.0 x.1 x.2 x.3)
  one_value_fault line f g (inr x) (inr y) =
      let same = (one_reading kinds table line x.0 y.0 (Err f) (Err g) x.1 y.1 (stop_read kinds line f x) (stop_read kinds line g y)).1 in cc

  one_fault : (line : List ℕ) (f g : CallFault) → LineFault kinds line f → LineFault kinds line g → f ≡ g
  one_fault line (ValueOf f) (ValueOf g) x y = ap ValueOf (one_value_fault line f g x y)
  one_fault line (ValueOf f) (LeftOver c) x y = absurd (no_value_fault kinds table line y.0 y.1 c f (on_read kinds table line c y.0 y.1 y.2) x)
  one_fault line (LeftOver b) (ValueOf g) x y = absurd (no_value_fault kinds table line x.0 x.1 b g (on_read kinds table line b x.0 x.1 x.2) y)
  one_fault line (LeftOver b) (LeftOver c) x y =
      ap LeftOver (one_reading kinds table line x.0 y.0 (Ok x.1) (Ok y.1) b c (on_read kinds table line b x.0 x.1 x.2) (on_read kinds table line c y.0 y.1 y.2)).2

  module _ (text : List ℕ) (m n : ℕ) where
    -- a text that is taken has no fault
    taken_or_faulty : (i : ℕ) (vs : List Value) (f : CallFault) → IsKindLine kinds text i vs m → IsFaulty kinds text f n ⊎ IsEndless kinds text f n → ⊥
    unfolding TakenExactly
    taken_or_faulty i vs f a b = let e = taken_exactly kinds text table i vs (drop m text) (Err f) n a.of_kind a.within a.text_is b in absurd (cc)

    same_fault : (f g : CallFault) → IsFaulty kinds text f m ⊎ IsEndless kinds text f m → IsFaulty kinds text g n ⊎ IsEndless kinds text g n → (f ≡ g) × (m ≡ n)
    same_fault f g (inl a) (inl b) =
        let lines = one_begun text a.line b.line a.begins b.begins in
        (one_fault b.line f g (subst (λ (line : List ℕ). LineFault kinds line f) lines a.faulty) b.faulty, omega (arith, a.ends, b.ends, ap length lines))
    same_fault f g (inl a) (inr b) = absurd (not_endless text a.line a.begins b.none)
    same_fault f g (inr a) (inl b) = absurd (not_endless text b.line b.begins a.none)
    same_fault f g (inr a) (inr b) = (a.is_fault ∙ sym b.is_fault, a.ends ∙ sym b.ends)

    same_end : (i j : ℕ) (us vs : List Value) → IsKindLine kinds text i us m → IsKindLine kinds text j vs n → m ≡ n
    same_end i j us vs a b =
        let first = kind_begins kinds table text i us (drop m text) a.of_kind a.within a.text_is in
        let second = kind_begins kinds table text j vs (drop n text) b.of_kind b.within b.text_is in
        omega (arith, a.ends, b.ends, ap length (one_begun text (kind_text kinds i us) (kind_text kinds j vs) first second))

pub one_answer : (kinds : List PlainCallKind) (text : List ℕ) → HasOneAnswer kinds text
unfolding HasOneAnswer TakenExactly
one_answer kinds text table (Ok (i, us)) (Ok (j, vs)) m n a b =
    (taken_exactly kinds text table j vs (drop n text) (Ok (i, us)) m b.of_kind b.within b.text_is a, same_end kinds table text m n i j us vs a b)
one_answer kinds text table (Ok (i, us)) (Err g) m n a b = absurd (taken_or_faulty kinds table text m n i us g a b)
one_answer kinds text table (Err f) (Ok (j, vs)) m n a b = absurd (taken_or_faulty kinds table text n m j vs f b a)
one_answer kinds text table (Err f) (Err g) m n a b = let same = same_fault kinds table text m n f g a b in (ap Err same.0, same.1)
